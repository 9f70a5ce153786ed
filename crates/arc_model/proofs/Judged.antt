-- Histories that are judged by computing, written with the oldest event first.
use Rattle.std.proofs.Common.{◌≡◌, drop, true, false, ℕ, zero, suc, cond, List, [], ◌∷◌, Option, Some, None, refl, sym}
use Rattle.arc_model.specs.declared.event.Act.{Act}
use Rattle.arc_model.specs.declared.event.Event.{Event}
use Rattle.arc_model.specs.declared.event.Illegal.{Illegal}
use Rattle.arc_model.specs.declared.shape.RefShape.{RefShape}
use Rattle.arc_model.specs.Shapes.{HeapShape, ObjectClass}
use Rattle.arc_model.specs.Needs.{Need, needs}
use Rattle.arc_model.specs.History.{History, sight, judge, IsLegal}

-- a class with these fields, whose objects are deinited
abbrev pub mortal : List RefShape → ObjectClass
mortal fields = record { fields = fields; immortal = false }

-- a class without fields, whose objects never are
abbrev pub undying : ObjectClass
undying = record { fields = []; immortal = true }

abbrev pub by_main : Act → Event
by_main act = record { thread = 0; act = act }

abbrev pub by_one : Act → Event
by_one act = record { thread = 1; act = act }

abbrev pub by_two : Act → Event
by_two act = record { thread = 2; act = act }

-- the history after these events, the oldest of them first
abbrev pub onto : History → List Event → History
onto h [] = h
onto h (e ∷ es) = onto (e ∷ h) es

abbrev pub first : ℕ → List Event → List Event
first zero es = []
first (suc n) [] = []
first (suc n) (e ∷ es) = e ∷ first n es

abbrev pub without : ℕ → List Event → List Event
without n [] = []
without zero (e ∷ es) = es
without (suc n) (e ∷ es) = e ∷ without n es

-- the event at place n and the one after it exchanged
abbrev pub exchanged : ℕ → List Event → List Event
exchanged n [] = []
exchanged zero (e ∷ []) = e ∷ []
exchanged zero (e ∷ f ∷ es) = f ∷ e ∷ es
exchanged (suc n) (e ∷ es) = e ∷ exchanged n es

-- e after the first n of the events
abbrev pub inserted : ℕ → Event → List Event → List Event
inserted zero e es = e ∷ es
inserted (suc n) e [] = e ∷ []
inserted (suc n) e (f ∷ es) = f ∷ inserted n e es

-- the event at place n moved to place m before it
abbrev pub moved : ℕ → ℕ → List Event → List Event
moved n m es = at (drop n es)
  where
    at : List Event → List Event
    at [] = es
    at (e ∷ rest) = inserted m e (without n es)

abbrev pub or_else : ℕ → Option Illegal → Option (ℕ × Illegal) → Option (ℕ × Illegal)
or_else n None later = later
or_else n (Some i) later = Some (n, i)

-- the first of these events that isn't legal after h, by its place from n on, and the number of its need
abbrev pub first_illegal : HeapShape → ℕ → History → List Event → Option (ℕ × Illegal)
first_illegal shape n h [] = None
first_illegal shape n h (e ∷ es) = or_else n (judge shape h e) (first_illegal shape (suc n) (e ∷ h) es)

-- a history is legal where no event is refused
abbrev pub AllLegal : HeapShape → List Event → Type 0
AllLegal shape es = first_illegal shape 1 [] es ≡ None

-- event n, counted from 1, is the first that is refused
abbrev pub Refused : HeapShape → List Event → ℕ → Illegal → Type 0
Refused shape es n why = first_illegal shape 1 [] es ≡ Some (n, why)

None≢Some : {X : Type 0} {x : X} → None ≡ Some x → ⊥
None≢Some e = cc

pub legal_onto : (shape : HeapShape) (n : ℕ) (h : History) (es : List Event) → first_illegal shape n h es ≡ None → IsLegal shape h → IsLegal shape (onto h es)
legal_onto shape n h [] none legal = legal
legal_onto shape n h (e ∷ es) none legal = go (judge shape h e) refl none (legal_onto shape (suc n) (e ∷ h) es)
  where
    go : (v : Option Illegal) → judge shape h e ≡ v → or_else n v (first_illegal shape (suc n) (e ∷ h) es) ≡ None →
        (first_illegal shape (suc n) (e ∷ h) es ≡ None → IsLegal shape (e ∷ h) → IsLegal shape (onto (e ∷ h) es)) → IsLegal shape (onto (e ∷ h) es)
    go None is none rest = rest none (is, legal)
    go (Some i) is none rest = elim (None≢Some (sym none)) [ ]

-- the first need of a row that fails, by its place in the row, from i on, and its number
abbrev pub failing : ℕ → List Need → Option (ℕ × Illegal)
failing i [] = None
failing i (n ∷ ns) = cond n.0 (failing (suc i) ns) (Some (i, n.1))

-- After these events e is refused for the need at place i of its row, and so with that number.
abbrev pub Fails : HeapShape → List Event → Event → ℕ → Illegal → Type 0
Fails shape es e i why =
    (failing 0 (needs shape (sight e.thread (onto [] es)) e.thread e.act) ≡ Some (i, why)) × (judge shape (onto [] es) e ≡ Some why)
