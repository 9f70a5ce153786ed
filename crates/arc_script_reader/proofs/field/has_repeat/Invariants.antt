use Rattle.std.proofs.Common.{◌≡◌, List, ℕ, map, take, drop}
use Rattle.arc_script.specs.Lookups.{is_among, repeats, has_repeat}
use Rattle.arc_script_reader.specs.NameSets.{holds}
use Rattle.arc_script_reader.specs.Fields.{seen, name_of}
use Rattle.arc_script_reader.proofs.field.has_repeat.Given as goal

-- the set has the names so far, none of them twice
abbrev pub invariant-loop-field : goal.invariant-loop-field
invariant-loop-field l = record {
  known : (q : List ℕ) → holds l.names q ≡ is_among (map name_of (map seen (take l.field-index l.fields))) q;
  said : repeats (map name_of (map seen (take l.field-index l.fields))) (map name_of (map seen (drop l.field-index l.fields))) ≡ has_repeat (map name_of (map seen l.fields));
}
