use Rattle.std.proofs.Common.{sym}
use Rattle.arc_ops.specs.declared.gain.Gain.TheVariants.{Copy, Unown, Load}
use Rattle.arc_ops.proofs.Passed.{fits_at, gain_of, move_of_nil, move_of, get_of, put_of}
use Rattle.arc_ops.proofs.stepper.Stepper.begin_op.Goals as goal

pub returns-in-Copy : goal.returns-in-Copy
returns-in-Copy c = rw (← c.self.view_is)
    (gain_of Copy _ c.begin_from.new.self c.args.op c.in-Copy.to c.in-Copy.from c.in-Copy.is (rw (← c.self.view_is) at c.requires.asks) c.begin_from.ensures)

pub returns-in-Unown : goal.returns-in-Unown
returns-in-Unown c = rw (← c.self.view_is)
    (gain_of Unown _ c.begin_from-in-Unown.new.self c.args.op c.in-Unown.to c.in-Unown.of c.in-Unown.is (rw (← c.self.view_is) at c.requires.asks) c.begin_from-in-Unown.ensures)

pub returns-in-Load : goal.returns-in-Load
returns-in-Load c = rw (← c.self.view_is)
    (gain_of Load _ c.begin_from-in-Load.new.self c.args.op c.in-Load.to c.in-Load.of c.in-Load.is (rw (← c.self.view_is) at c.requires.asks) c.begin_from-in-Load.ensures)

pub returns-in-Some : goal.returns-in-Some
returns-in-Some c = rw (← c.self.view_is)
    (move_of _ c.begin_move.new.self c.args.op c.in-Move.to c.in-Move.from c.in-Some.held c.in-Move.is (fits_at _ c.args.op c.self.invariant (rw (← c.self.view_is) at c.requires.at)) (rw c.in-Some.is at (sym c.index.ensures)) (rw (← c.self.view_is) at c.requires.asks) c.begin_move.ensures)

pub returns-in-None : goal.returns-in-None
returns-in-None c = rw (← c.self.view_is)
    (move_of_nil _ c.begin_nil.new.self c.args.op c.in-Move.to c.in-Move.from c.in-Move.is (rw c.in-None.is at (sym c.index.ensures)) (rw (← c.self.view_is) at c.requires.asks) c.begin_nil.ensures)

pub returns-in-Get : goal.returns-in-Get
returns-in-Get c = rw (← c.self.view_is)
    (get_of _ c.begin_get.new.self c.args.op c.in-Get.to c.in-Get.cell c.in-Get.is (rw (← c.self.view_is) at c.requires.asks) c.begin_get.ensures)

pub returns-in-Set : goal.returns-in-Set
returns-in-Set c = rw (← c.self.view_is)
    (put_of _ c.begin_put.new.self c.args.op c.in-Set.from c.in-Set.cell c.in-Set.is (rw (← c.self.view_is) at c.requires.asks) c.begin_put.ensures)
