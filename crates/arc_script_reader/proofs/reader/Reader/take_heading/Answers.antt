use Rattle.std.proofs.Common.{◌≢◌, ◌∙◌, length, map, ap, arith}
use Rattle.arc_text.specs.Lines.{lines_of}
use Rattle.arc_script.specs.declared.keyword.Keyword.{Keyword}
use Rattle.arc_script_reader.specs.Fronts.{front}
use Rattle.arc_script.specs.Grammar.{heading_form}
use Rattle.arc_script.proofs.WordCounts.{caps_count}
use Rattle.arc_script_reader.proofs.reader.Reader.take_heading.Goals as goal

pub returns-in_default-words-3 : goal.returns-in_default-words-3
returns-in_default-words-3 c =
    let other : length c.args.words.now ≢ 3 = omega arith in
    ap (λ (k : Keyword). heading_form (front c.args.self.now) k (map (λ w. w.now) c.args.words.now) (lines_of c.args.rest.now)) c.in-Caps.is ∙ caps_count (front c.args.self.now) c.args.words.now (lines_of c.args.rest.now) other
