use Rattle.std.proofs.Common.{◌≡◌, map, take}
use Rattle.arc_script.specs.HeadLines.{spelled_of}
use Rattle.arc_script_reader.specs.Fields.{seen}
use Rattle.arc_script_reader.proofs.field.field_words.Given as goal

abbrev pub invariant-loop-word : goal.invariant-loop-word
invariant-loop-word l = map seen l.fields.items ≡ map spelled_of (map (λ w. w.now) (take l.word-index l.words))
