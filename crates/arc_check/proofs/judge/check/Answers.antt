use Rattle.std.proofs.Common.{◌≡◌, ◌<◌, Ok, Option, subst, length, ap, ◌∙◌}
use Rattle.std.specs.Prelude.{OnSome, not}
use Rattle.arc_text.specs.Lines.{lines_of}
use Rattle.arc_check.specs.declared.line.EventLine.{EventLine}
use Rattle.arc_check.specs.EventTexts.{with_event}
use Rattle.arc_check.specs.Reading.{left, NextIs}
use Rattle.arc_check.proofs.Judged.{late, more}
use Rattle.arc_check.proofs.judge.check.Goals as goal

pub judging-preserved-then-is_none : goal.judging-preserved-then-is_none
judging-preserved-then-is_none c =
    let old = c.judging.events in
    let new = c.next_event.new.self in
    let next : left old ≡ with_event c.in-Some.event (left new) = subst (λ (o : Option EventLine). NextIs (Ok o) (left old) (left new)) c.in-Some.is c.in_ok-event.ensures.next in
    let less : length (lines_of new.lines) < length (lines_of old.lines) = subst (λ (o : Option EventLine). OnSome o (length (lines_of new.lines) < length (lines_of old.lines))) c.in-Some.is c.in_ok-event.ensures.shorter in
    more c.args.text.now _ c.judging.breach c.in-Ok-judge.breach c.judging.heap c.judge.new.heap c.judging.count old new c.in-Some.event (c.is_none.ensures ∙ ap not c.if-is_none.true) c.judging.invariant next
    c.in_ok-event.ensures.scope c.in_ok-event.ensures.room less c.in-Ok-judge.ensures.shape c.in-Ok-judge.ensures.threads c.in-Ok-judge.ensures.judges

pub judging-preserved : goal.judging-preserved
judging-preserved c =
    let old = c.judging.events in
    let new = c.next_event.new.self in
    let next : left old ≡ with_event c.in-Some.event (left new) = subst (λ (o : Option EventLine). NextIs (Ok o) (left old) (left new)) c.in-Some.is c.in_ok-event.ensures.next in
    let less : length (lines_of new.lines) < length (lines_of old.lines) = subst (λ (o : Option EventLine). OnSome o (length (lines_of new.lines) < length (lines_of old.lines))) c.in-Some.is c.in_ok-event.ensures.shorter in
    late c.args.text.now _ c.judging.breach c.judging.heap c.judging.count old new c.in-Some.event (c.is_none.ensures ∙ ap not c.if-is_none.false) c.judging.invariant next c.in_ok-event.ensures.scope c.in_ok-event.ensures.room less
