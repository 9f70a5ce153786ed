use Rattle.std.proofs.Common.{sym}
use Rattle.arc_text.proofs.Numbers.{number_range}
use Rattle.arc_script_reader.proofs.CapsFit.{unless_refused}
use Rattle.arc_script_reader.proofs.head.Head.take_caps.Goals as goal

pub unwrap-self-inside-requires : goal.unwrap-self-inside-requires
unwrap-self-inside-requires c =
    let s = number_range 0 1073741823 c.args.strong.now c.in-Some.strong (sym c.in-Some.ensures) in
    let u = number_range 1 2147483647 c.args.unowned.now c.in-Some-number_in.unowned (sym c.in-Some-number_in.ensures) in
    unless_refused c.new.result (λ e. c.new.ensures.strong.0 e s.1) (λ e. (c.new.ensures.unowned.0 e).1 (u.0, u.1)) (λ e. (c.new.ensures.wide.0 e).2 (c.if-wide-strong.false, c.if-wide-unowned.false))
