use Rattle.std.proofs.Common.{◌≡◌, true, false, arith}
use Rattle.arc_report.specs.Words.{is_freed}
use Rattle.arc_report.proofs.Numbers.{numbers_none, numbers_there, numbers_past}
use Rattle.arc_report.proofs.AllThere.{freed_there}
use Rattle.arc_report.proofs.left.freed_of.Goals as goal
use Rattle.arc_report.proofs.left.freed_of.Goals.{then-is_freed+in_ok-push, else-is_freed}

pub loop-entry-init : goal.loop-entry-init
loop-entry-init c =
    let e = numbers_none (is_freed c.args.layout.now c.args.words.now) in
    cc

pub loop-entry-preserved : goal.loop-entry-preserved
loop-entry-preserved c =
    elim c.if-is_freed.branch [
      | then-is_freed+in_ok-push w ↦
          let t : is_freed c.args.layout.now c.args.words.now c.loop-entry.entry ≡ true = cc in
          let e = numbers_there (is_freed c.args.layout.now c.args.words.now) c.loop-entry.entry t in
          cc w.in_ok-push.ensures.items
      | else-is_freed w ↦
          let t : is_freed c.args.layout.now c.args.words.now c.loop-entry.entry ≡ false = cc in
          let e = numbers_past (is_freed c.args.layout.now c.args.words.now) c.loop-entry.entry t in
          cc
    ]

pub returns-clause-each : goal.returns-clause-each
returns-clause-each c =
    freed_there c.args.layout.now c.args.words.now c.loop-entry.entry (omega arith) c.loop-entry.freed.items c.loop-entry.invariant
