-- What a call of a pass is.
use Rattle.std.specs.Prelude.{ℕ, ◌≡◌, List, [], ◌∷◌, Option, None, Some}
use Rattle.arc_model.specs.declared.event.Act.{Act}
use Rattle.arc_model.specs.declared.event.Act.TheVariants as acts
use Rattle.arc_model.specs.Shapes.{HeapShape}
use Rattle.arc_rule.specs.Places.{extent_of, number}
use Rattle.arc_view.specs.declared.view.Working.{Working}
use Rattle.arc_view.specs.declared.view.View.{View}
use Rattle.arc_view.specs.Admission.{OwesNoName, HasNoAccess}
use Rattle.arc_view.specs.Kinds.{without_next}
use Rattle.arc_view.specs.Calls.{Called, Took}
use Rattle.arc_view_laws.specs.Strangers.{SeesNoStranger}
use Rattle.arc_table.specs.declared.heap.Part.{Part}
use Rattle.arc_table.specs.Seats.{part_id, part_view}

-- no name is owed to a new object, and no cell is accessed
pub record IsFree (v : View) : Type 0 where
  pub owes : OwesNoName v
  pub access : HasNoAccess v

-- the acts of a call that makes this one, or none
abbrev pub act_list : Option Act → List Act
act_list None = []
act_list (Some a) = a ∷ []

-- What is under way after the act: what was, but the deinit that the act ends, where it was entered, and the slot's next word.
abbrev pub works_after : HeapShape → Option Act → Working → Working
works_after shape (Some (acts.Finish s last)) w = without_next (number (extent_of shape)) s w
works_after shape _ w = w

-- The view, which was v and is w, goes on by this act, made once, or by none, in at most so many steps: what had been seen begins what is seen, which
-- is legal, its thread made nothing else since, and what was under way is, but a deinit that the act ends.
pub record GoesOn (shape : HeapShape) (act : Option Act) (most : ℕ) (v w : View) : Type 0 where
  pub called : Called shape (act_list act) most v w
  pub working : w.working ≡ works_after shape act v.working
  pub alone : SeesNoStranger w

-- the same of a pass, which was p and is q: it is of the same table
abbrev pub IsCall : HeapShape → Option Act → ℕ → Part → Part → Type 0
IsCall shape act most p q = (part_id q ≡ part_id p) × GoesOn shape act most (part_view p) (part_view q)

-- The pass, which was p and is q, has taken in another: it is of the same table, made nothing, and what was under way is.
pub record HasTakenIn (shape : HeapShape) (p taken q : Part) : Type 0 where
  pub same : part_id q ≡ part_id p
  pub took : Took shape (part_view p) (part_view taken) (part_view q)
  pub working : (part_view q).working ≡ (part_view p).working
  pub alone : SeesNoStranger (part_view q)
