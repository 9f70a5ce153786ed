use Rattle.std.proofs.Common.{◌≡◌, List, ℕ, sym, subst, true}
use Rattle.std.specs.Str.Parse.{ParsesUnsigned}
use Rattle.arc_text.specs.Words.{is_numeral}
use Rattle.arc_text.proofs.Numbers.{numeral_text}
use Rattle.arc_command.proofs.LongNumbers.{long_past}
use Rattle.arc_command.proofs.number.long_number.Goals as goal

pub returns-in_default : goal.returns-in_default
returns-in_default c =
    let spelled : is_numeral c.args.word.now ≡ true = sym c.if-not-is_numeral.ensures in
    absurd (c.in_default.ensures.cases.0 (numeral_text c.args.word.now spelled))

pub returns-in_default-parse : goal.returns-in_default-parse
returns-in_default-parse c =
    let word = c.args.word.now in
    let spelled : is_numeral word ≡ true = sym c.if-not-is_numeral.ensures in
    sym (long_past word c.parse.result c.in_default-parse.field-0 c.in_default-parse.is spelled
    (subst (λ (t : List ℕ). ParsesUnsigned 64 10 t c.parse.result) c.in-Ok.ensures.cases.0 c.parse.ensures.value.0))
