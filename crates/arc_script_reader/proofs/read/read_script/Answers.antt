use Rattle.std.proofs.Common.{arith, rules, List, ℕ, Result, ap, sym, subst, ◌∙◌}
use Rattle.arc_text.specs.Lines.{lines_of}
use Rattle.arc_text.proofs.FirstLine.{length-lines_of}
use Rattle.arc_script.specs.declared.script.Script.{Script}
use Rattle.arc_script.specs.Grammar.{Refusal, lines_from}
use Rattle.arc_script.specs.Reading.{Reads}
use Rattle.arc_script_reader.specs.Fronts.{front}
use Rattle.arc_script_reader.proofs.Accepted.{valid_of}
use Rattle.arc_script_reader.proofs.read.read_script.Goals as goal

pub reading-init : goal.reading-init
reading-init c = record { said = search rules; fits = rw c.new-lines.ensures (omega (arith, length-lines_of c.args.text.now)) }

pub returns-clause-valid : goal.returns-clause-valid
returns-clause-valid c =
    let ended = ap (λ (rest : List ℕ). lines_from c.reading.number (front c.reading.reader) (lines_of rest)) (sym c.in_default.ensures.0) in
    valid_of c.args.text.now c.finish.result (subst (λ (said : Result Script Refusal). Reads c.finish.result said) (ended ∙ c.reading.invariant.said) c.finish.ensures)
