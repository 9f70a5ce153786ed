use Rattle.std.proofs.Common.{◌≡◌, Ok}
use Rattle.arc_check.specs.declared.line.Told.TheVariants as told
use Rattle.arc_check.specs.EventTexts.{told_line}
use Rattle.arc_check.proofs.EventsFit.{told_fits}
use Rattle.arc_check.proofs.text.Events.next_event.Goals as goal

pub returns-in-Event-clause-fits : goal.returns-in-Event-clause-fits
returns-in-Event-clause-fits c =
    λ slots entries.
    let said : told_line c.args.self.now.scope c.reading.self.ended c.in-Some.line.now ≡ Ok (told.Event c.in-Event.step c.in-Event.event) = cc (c.in-Ok.ensures, c.in-Event.is, c.reading.invariant.scope) in
    told_fits c.args.self.now.scope slots entries c.reading.self.ended c.in-Some.line.now _ said c.reading.self.number
