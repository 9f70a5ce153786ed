use Rattle.std.proofs.Common.{◌≡◌, true, false}
use Rattle.arc_report.specs.Words.{is_taken}
use Rattle.arc_report.specs.Leaks.{leak_at}
use Rattle.arc_report.proofs.Numbers.{mapped_none, mapped_there, mapped_past}
use Rattle.arc_report.proofs.leaks.taken_slots.Goals as goal
use Rattle.arc_report.proofs.leaks.taken_slots.Goals.{then-is_taken+in_ok-push, else-is_taken}

pub loop-slot-init : goal.loop-slot-init
loop-slot-init c =
    let e = mapped_none (leak_at c.args.layout.now c.args.words.now) (is_taken c.args.layout.now c.args.words.now) in
    cc

pub loop-slot-preserved : goal.loop-slot-preserved
loop-slot-preserved c =
    elim c.if-is_taken.branch [
      | then-is_taken+in_ok-push w ↦
          let t : is_taken c.args.layout.now c.args.words.now c.loop-slot.slot ≡ true = cc in
          let e = mapped_there (leak_at c.args.layout.now c.args.words.now) (is_taken c.args.layout.now c.args.words.now) c.loop-slot.slot t in
          cc w.in_ok-push.ensures.items
      | else-is_taken w ↦
          let t : is_taken c.args.layout.now c.args.words.now c.loop-slot.slot ≡ false = cc in
          let e = mapped_past (leak_at c.args.layout.now c.args.words.now) (is_taken c.args.layout.now c.args.words.now) c.loop-slot.slot t in
          cc
    ]
