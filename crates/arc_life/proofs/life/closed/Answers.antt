use Rattle.std.proofs.Common.{◌≡◌, ◌∙◌, sym, ap, subst}
use Rattle.arc_model.specs.Shapes.{HeapShape}
use Rattle.arc_model.specs.History.{History, heap_after}
use Rattle.arc_rule.specs.Shown.{Shows}
use Rattle.arc_view.specs.declared.view.View.{View}
use Rattle.arc_view.specs.Passes.{HoldsNothing, IsFirst, IsWhole}
use Rattle.arc_table.specs.Seats.{view_of}
use Rattle.arc_table.specs.Ending.{IsClosed}
use Rattle.arc_life.specs.Life.{life_shape}
use Rattle.arc_life.proofs.Closed.{end_quiet, end_first, end_whole, end_left}
use Rattle.arc_life.proofs.Ended.{end_tells}
use Rattle.arc_life.proofs.life.closed.Goals as goal

pub close-requires-clause-first : goal.close-requires-clause-first
close-requires-clause-first c = subst (λ (v : View). IsFirst v) (sym c.requires.before) end_first

pub close-requires-clause-whole : goal.close-requires-clause-whole
close-requires-clause-whole c = subst (λ (v : View). IsWhole v) (sym c.requires.before) end_whole

pub close-requires-clause-nothing : goal.close-requires-clause-nothing
close-requires-clause-nothing c = subst (λ (v : View). HoldsNothing v) (sym c.requires.before) end_quiet

pub returns-clause-told : goal.returns-clause-told
returns-clause-told c = c.close.ensures.history ∙ (ap (λ (v : View). v.seen) c.requires.before ∙ end_tells)

pub returns-clause-closed : goal.returns-clause-closed
returns-clause-closed c = subst (λ (s : HeapShape). IsClosed s c.close.result) c.requires.shape c.close.ensures.closed

pub returns-clause-left : goal.returns-clause-left
returns-clause-left c =
    let shows = (subst (λ (s : HeapShape). IsClosed s c.close.result) c.requires.shape c.close.ensures.closed).words in
    end_left c.close.result.words.items (subst (λ (h : History). Shows life_shape (heap_after h) c.close.result.words.items) (c.close.ensures.history ∙ ap (λ (v : View). v.seen) c.requires.before) shows)
