-- What holds at each point of a thread's notes in a history goes on to later points over notes that are of one sort.
use Rattle.std.proofs.Common.{◌≡◌, ℕ, true, false, List, ◌∷◌, sym, ◌∙◌}
use Rattle.std.specs.Prelude.{⊤}
use Rattle.arc_model.specs.declared.event.Act.{Act}
use Rattle.arc_model.specs.declared.event.Event.{Event}
use Rattle.arc_model.specs.Shapes.{HeapShape}
use Rattle.arc_model.specs.History.{History, heap_after, is_of, IsLegal}
use Rattle.arc_spelling.specs.Spelling.{Note, is_fact}
use Rattle.arc_spelling.specs.Spelling.Note.{Did, Line, Operation, Name, Entry, NeedsEntry, Nil, Refers}
use Rattle.arc_spelling.specs.SpellingTies.{Causes, Ties, Holds}
use Rattle.arc_spelling.specs.SpellingTies.Ties.{own, other, noted}
use Rattle.arc_model.proofs.Basics.{true≢false}

-- g is h or what h was at an earlier point
pub data Past (h : History) : (g : History) → Type 0 where
  now : Past h h
  before : {e : Event} {g : History} → Past h (e ∷ g) → Past h g

pub legal-past : (shape : HeapShape) {h g : History} → Past h g → IsLegal shape h → IsLegal shape g
legal-past shape now legal = legal
legal-past shape (before q) legal = (legal-past shape q legal).1

-- an event among the notes is of this sort
abbrev pub Passing : (Act → Type 0) → Note → Type 0
Passing P (Did a) = P a
Passing P (Line a) = ⊤
Passing P (Operation k) = ⊤
Passing P (Name s name) = ⊤
Passing P (Entry s e) = ⊤
Passing P (NeedsEntry s l) = ⊤
Passing P (Nil c) = ⊤
Passing P (Refers c kind place) = ⊤

-- notes that were added, whose events are of this sort
pub data Spares (P : Act → Type 0) : (b ns : List Note) → Type 0 where
  here : {b : List Note} → Spares P b b
  more : {n : Note} {b ns : List Note} → Spares P b ns → Passing P n → Spares P b (n ∷ ns)

pub spares-both : {P : Act → Type 0} {b ns after : List Note} → Spares P b ns → Spares P ns after → Spares P b after
spares-both s here = s
spares-both s (more t x) = more (spares-both s t) x

-- events of other threads, and the thread's own of this sort, leave Q
abbrev pub Stable : HeapShape → ℕ → (Act → Type 0) → (History → Type 0) → Type 0
Stable shape p P Q = (e : Event) (g : History) → IsLegal shape (e ∷ g) → (is_of p e ≡ true → P e.act) → Q g → Q (e ∷ g)

-- Q holds wherever the thread's notes are these
abbrev pub AtNotes : Causes → HeapShape → ℕ → History → List Note → (History → Type 0) → Type 0
AtNotes causes shape p h ns Q = (g : History) → Past h g → Ties causes shape p ns g → Q g

other-ok : (P : Act → Type 0) (p : ℕ) (e : Event) → is_of p e ≡ false → is_of p e ≡ true → P e.act
other-ok P p e x y = absurd (true≢false (sym y ∙ x))

-- over one note
over : (causes : Causes) (shape : HeapShape) (p : ℕ) (h : History) (P : Act → Type 0) (Q : History → Type 0) (n : Note) (ns : List Note) → IsLegal shape h → Stable shape p P Q → Passing P n → AtNotes causes shape p h ns Q →
    AtNotes causes shape p h (n ∷ ns) Q
over causes shape p h P Q n ns legal stable pass at g past (own {a = a} {h = g0} t) = stable (record { thread = p; act = a }) g0 (legal-past shape past legal) (λ _. pass) (at g0 (before past) t)
over causes shape p h P Q n ns legal stable pass at g past (other {e = e} {h = g0} t x) = stable e g0 (legal-past shape past legal) (other-ok P p e x) (over causes shape p h P Q n ns legal stable pass at g0 (before past) t)
over causes shape p h P Q n ns legal stable pass at g past (noted t x) = at g past t

pub along : (causes : Causes) (shape : HeapShape) (p : ℕ) (h : History) (P : Act → Type 0) (Q : History → Type 0) {b ns : List Note} → IsLegal shape h → Stable shape p P Q → Spares P b ns → AtNotes causes shape p h b Q →
    AtNotes causes shape p h ns Q
along causes shape p h P Q legal stable here at = at
along causes shape p h P Q legal stable (more {n = n} {ns = ns} s x) at = over causes shape p h P Q n ns legal stable x (along causes shape p h P Q legal stable s at)

-- over an event, from the point right behind it
pub over-event : (causes : Causes) (shape : HeapShape) (p : ℕ) (h : History) (P : Act → Type 0) (Q : History → Type 0) (a : Act) (ns : List Note) → IsLegal shape h → Stable shape p P Q →
    ((g : History) → Past h (record { thread = p; act = a } ∷ g) → Ties causes shape p ns g → Q (record { thread = p; act = a } ∷ g)) → AtNotes causes shape p h (Did a ∷ ns) Q
over-event causes shape p h P Q a ns legal stable at g past (own {h = g0} t) = at g0 past t
over-event causes shape p h P Q a ns legal stable at g past (other {e = e} {h = g0} t x) = stable e g0 (legal-past shape past legal) (other-ok P p e x) (over-event causes shape p h P Q a ns legal stable at g0 (before past) t)
over-event causes shape p h P Q a ns legal stable at g past (noted t x) = absurd x

-- over a note that says something of the heap, from the point at which it holds
pub over-fact : (causes : Causes) (shape : HeapShape) (p : ℕ) (h : History) (P : Act → Type 0) (Q : History → Type 0) (n : Note) (ns : List Note) → IsLegal shape h → Stable shape p P Q → is_fact n ≡ true →
    ((g : History) → Past h g → Ties causes shape p ns g → Holds causes shape (heap_after g) n → Q g) → AtNotes causes shape p h (n ∷ ns) Q
over-fact causes shape p h P Q n ns legal stable fact at g past (own t) = absurd cc
over-fact causes shape p h P Q n ns legal stable fact at g past (other {e = e} {h = g0} t x) = stable e g0 (legal-past shape past legal) (other-ok P p e x) (over-fact causes shape p h P Q n ns legal stable fact at g0 (before past) t)
over-fact causes shape p h P Q n ns legal stable fact at g past (noted t x) = at g past t x
