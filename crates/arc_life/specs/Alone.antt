-- What a pass has after steps that it makes alone, which words they can find and which events they have.
use Rattle.std.specs.Prelude.{ℕ, ◌≡◌, List, [], ◌∷◌, ◌++◌, ⊤}
use Rattle.arc_model.specs.Shapes.{HeapShape}
use Rattle.arc_model.specs.History.{History}
use Rattle.arc_rule.specs.declared.step.Step.{Step}
use Rattle.arc_rule.specs.declared.step.Step.TheVariants.{Load, Exchange, Store, Or, And}
use Rattle.arc_rule.specs.declared.layout.Place.{Place}
use Rattle.arc_rule.specs.Places.{IsPlace, extent_of, number}
use Rattle.arc_view.specs.declared.view.View.{View}
use Rattle.arc_view.specs.Admission.{Admits}
use Rattle.arc_view.specs.Kinds.{act_of, event_list, working_after}
use Rattle.arc_view.specs.Steps.{IsRead, moved}
use Rattle.arc_life.specs.declared.deeds.Deed.{Deed}

-- the first pass, which has split off no other
pub record IsAlone (v : View) : Type 0 where
  pub first : v.number ≡ 0
  pub only : v.splits ≡ 0
  pub up_to_date : v.olds ≡ []

-- the view after one step, before which nobody else made one
abbrev pub after : HeapShape → View → Deed → View
after shape v d = moved v v.seen (event_list v.number (act_of shape v d.0 d.1 d.2) ++ v.seen) d.0 d.2 (working_after shape v d.0 d.1 d.2)

-- after all of them, the first one first
abbrev pub after_all : HeapShape → View → List Deed → View
after_all shape v [] = v
after_all shape v (d ∷ ds) = after_all shape (after shape v d) ds

-- no other word can be read at the place
abbrev pub IsOnlyWord : HeapShape → View → ℕ → ℕ → Type 0
IsOnlyWord shape v place word = (pl : Place) × IsPlace (extent_of shape) pl × (place ≡ number (extent_of shape) pl) × ((found : ℕ) → IsRead shape v v.seen pl found → found ≡ word)

-- the step gives back this word
abbrev pub Finds : HeapShape → View → Step → ℕ → Type 0
Finds shape v (Load place) word = IsOnlyWord shape v place word
Finds shape v (Exchange place old new) word = IsOnlyWord shape v place word
Finds shape v (Store place new) word = word ≡ 0
Finds shape v (Or place bits) word = IsOnlyWord shape v place word
Finds shape v (And place bits) word = IsOnlyWord shape v place word

-- The steps go as they are written: each is one that the view then admits, finds its word, and has its event, where there is one.
abbrev pub GoesAs : HeapShape → View → List Deed → Type 0
GoesAs shape v [] = ⊤
GoesAs shape v (d ∷ ds) = Admits shape v d.0 d.1 × Finds shape v d.0 d.2 × (act_of shape v d.0 d.1 d.2 ≡ d.3) × GoesAs shape (after shape v d) ds

-- the events that are written beside the steps, the newest first, made by the first pass
abbrev pub events_of : List Deed → History
events_of [] = []
events_of (d ∷ ds) = events_of ds ++ event_list 0 d.3
