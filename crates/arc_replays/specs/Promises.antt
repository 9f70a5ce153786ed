-- What is promised of a history, said of it alone: the laws of all legal histories at this one.
use Rattle.std.specs.Prelude.{ℕ, [], ◌∷◌, ◌++◌, length, ◌≡◌, slice_get}
use Rattle.arc_model.specs.declared.event.Got.TheVariants as got
use Rattle.arc_model.specs.declared.event.Act.TheVariants as acts
use Rattle.arc_model.specs.declared.event.Event.{Event}
use Rattle.arc_model.specs.Shapes.{HeapShape}
use Rattle.arc_model.specs.Heaps.{Hand}
use Rattle.arc_model.specs.Holders.{held_by}
use Rattle.arc_model.specs.History.{History, heap_after}
use Rattle.arc_model.specs.Laws.{strong_list, Empties, IsLastStrongDrop, Makes, IsVacated, IsGivenBack}

-- Said of each object whose strong list becomes empty: it is deinited once. One event at most empties the list, it is the drop of its last strong holder, and nothing is
-- added to the list later. Source: RefCount.h.
pub record DeinitsOnce (shape : HeapShape) (h : History) : Type 0 where
  pub once : (i : ℕ) (later between before : History) (e f : Event) → h ≡ later ++ (f ∷ between ++ e ∷ before) → Empties shape i before e → Empties shape i (between ++ e ∷ before) f → ⊥
  pub by_drop : (i : ℕ) (later before : History) (e : Event) → h ≡ later ++ (e ∷ before) → Empties shape i before e → IsLastStrongDrop shape i before e
  pub stays : (i : ℕ) (later before : History) (e : Event) → h ≡ later ++ e ∷ before → Empties shape i before e → strong_list shape i (heap_after h) ≡ []

-- No load gives an object after that. Source: RefCount.h.
abbrev pub LoadsComeBefore : HeapShape → History → Type 0
LoadsComeBefore shape h = (i hand took : ℕ) (later after before : History) (e f : Event) → h ≡ later ++ (f ∷ after ++ e ∷ before) → Empties shape i before e → f.act ≡ acts.Load hand (got.Hand took) →
    held_by (Hand f.thread hand) (heap_after (after ++ e ∷ before)) ≡ slice_get (heap_after (after ++ e ∷ before)).objects i → ⊥

-- A slot is given again only after it was vacated, when the first object in it has no strong and no unowned holder. Source: RefCount.h.
abbrev pub SlotsAreVacated : HeapShape → History → Type 0
SlotsAreVacated shape h = (slot : ℕ) (later between before : History) (e f : Event) → h ≡ later ++ (f ∷ between ++ e ∷ before) → Makes slot e → Makes slot f → IsVacated shape (length (heap_after before).objects) slot (e ∷ before) between

-- An entry is claimed again only after it was given back, when an object that had it has no weak holder. Source: RefCount.h.
abbrev pub EntriesAreGivenBack : History → Type 0
EntriesAreGivenBack h = (entry : ℕ) (later between before : History) (e f : Event) → h ≡ later ++ (f ∷ between ++ e ∷ before) → e.act ≡ acts.Claim entry → f.act ≡ acts.Claim entry → IsGivenBack entry (e ∷ before) between
