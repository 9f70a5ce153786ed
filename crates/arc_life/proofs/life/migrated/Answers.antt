use Rattle.std.proofs.Common.{◌∙◌, sym, subst}
use Rattle.arc_view.specs.declared.view.View.{View}
use Rattle.arc_table.specs.Seats.{shape_of, view_of}
use Rattle.arc_life.specs.declared.life.TheConstants.{MIGRATED}
use Rattle.arc_life.specs.Alone.{IsAlone}
use Rattle.arc_life.specs.Life.{life_shape, after_born}
use Rattle.arc_life.proofs.Alone.{goes_at, after_at}
use Rattle.arc_life.proofs.Migrated.{migrated_goes, migrated_is, alone_before}
use Rattle.arc_life.proofs.life.migrated.Goals as goal

pub done-requires-clause-alone : goal.done-requires-clause-alone
done-requires-clause-alone c = subst (λ (v : View). IsAlone v) (sym c.requires.before) alone_before

pub done-requires-clause-goes : goal.done-requires-clause-goes
done-requires-clause-goes c = goes_at (shape_of c.args.heap.now) life_shape (view_of c.args.pass.now) after_born MIGRATED c.requires.shape c.requires.before migrated_goes

pub returns-clause-after : goal.returns-clause-after
returns-clause-after c = after_at (shape_of c.args.heap.now) life_shape (view_of c.args.pass.now) after_born (view_of c.done.new.pass) MIGRATED c.requires.shape c.requires.before c.done.ensures.after ∙ migrated_is
