use Rattle.std.proofs.Common.{◌≡◌, ◌∙◌, ap}
use Rattle.arc_view.specs.declared.view.View.{View}
use Rattle.arc_life.proofs.Ended.{end_tells}
use Rattle.arc_life.proofs.life.lived.Goals as goal

pub returns-then-emptied-clause-told : goal.returns-then-emptied-clause-told
returns-then-emptied-clause-told c = ap (λ (v : View). v.seen) c.ended.ensures.after ∙ end_tells
