-- The notes of a thread in a history of many threads: its own events, and between them what the heap showed at some point.
use Rattle.arc_model.specs.References.{Reference, name_of, reference_of}
use Rattle.std.specs.Prelude.{ℕ, Bool, true, false, ◌==◌, ◌&&◌, ◌+◌, ◌≡◌, not, List, [], ◌∷◌, ◌++◌, length, option_map, map, Option, Some, None, is_some, ⊤}
use Rattle.arc_model.specs.declared.event.ObjectName.{ObjectName}
use Rattle.arc_model.specs.declared.event.Act.{Act}
use Rattle.arc_model.specs.declared.event.Event.{Event}
use Rattle.arc_model.specs.declared.shape.Kind.{Kind}
use Rattle.arc_model.specs.declared.shape.Kind.TheVariants.{Strong, Unowned, Weak}
use Rattle.arc_model.specs.Shapes.{HeapShape}
use Rattle.arc_model.specs.Heaps.{Holder, Hand, Object, Heap}
use Rattle.arc_model.specs.Holders.{kind_in, held_by, at_slot}
use Rattle.arc_model.specs.Cells.{cell, is_nil, is_immortal, is_live}
use Rattle.arc_model.specs.Needs.{passes}
use Rattle.arc_model.specs.History.{History, heap_after, next_hand, ever_since, share, is_of}
use Rattle.arc_spelling.specs.Spelling.{Note, is_fact, hands_of, acts_of, deinits_of, IsDrop}
use Rattle.arc_spelling.specs.Spelling.Note.{Did, Line, Operation, Name, Entry, NeedsEntry, Nil, Refers}

-- the list stands at its cap; a weak one is counted in an entry alone
abbrev pub is_out_of_room : HeapShape → Kind → Object → Bool
is_out_of_room shape Strong o = is_live shape o && length o.strong == shape.caps.strong + 1
is_out_of_room shape Unowned o = length o.unowned == shape.caps.unowned
is_out_of_room shape Weak o = true

-- the object in the slot isn't immortal and has no entry, and its list needs one to grow
abbrev pub needs_entry : HeapShape → ℕ → Kind → Heap → Bool
needs_entry shape slot list heap = passes (λ o. not (is_immortal shape o) && not (is_some o.entry) && is_out_of_room shape list o) (at_slot slot heap)

-- whether the causes of claims are judged as well
pub data Causes : Type 0 where
  Judged : Causes
  LeftAside : Causes

abbrev pub IsCause : Causes → HeapShape → ℕ → Kind → Heap → Type 0
IsCause Judged shape slot list heap = needs_entry shape slot list heap ≡ true
IsCause LeftAside shape slot list heap = ⊤

-- what a note between the events says of the heap
abbrev pub Holds : Causes → HeapShape → Heap → Note → Type 0
Holds causes shape heap (Did a) = ⊥
Holds causes shape heap (Line a) = ⊤
Holds causes shape heap (Operation n) = ⊤
Holds causes shape heap (Name slot name) = option_map name_of (at_slot slot heap) ≡ Some name
Holds causes shape heap (Entry slot entry) = option_map (λ o. o.entry) (at_slot slot heap) ≡ Some entry
Holds causes shape heap (NeedsEntry slot list) = IsCause causes shape slot list heap
Holds causes shape heap (Nil c) = is_nil heap (cell heap c) ≡ true
Holds causes shape heap (Refers c kind place) = reference_of (cell heap c) heap ≡ Some (record { kind = kind; place = place })

-- the notes are those of thread p in the history, the newest first in both
pub data Ties (causes : Causes) (shape : HeapShape) (p : ℕ) : (notes : List Note) (h : History) → Type 0 where
  start : Ties causes shape p [] []
  own : {a : Act} {ns : List Note} {h : History} → Ties causes shape p ns h → Ties causes shape p (Did a ∷ ns) (record { thread = p; act = a } ∷ h)
  other : {e : Event} {ns : List Note} {h : History} → Ties causes shape p ns h → is_of p e ≡ false → Ties causes shape p ns (e ∷ h)
  noted : {n : Note} {ns : List Note} {h : History} → Ties causes shape p ns h → Holds causes shape (heap_after h) n → Ties causes shape p (n ∷ ns) h

-- Between two points of a history thread p dropped hand k, with these deinit lines, the newest first.
pub record IsDropIn (shape : HeapShape) (p k : ℕ) (before after : History) (deinits : List ObjectName) : Type 0 where
  pub reference : Reference
  pub refers : reference_of (Hand p k) (heap_after before) ≡ Some reference
  pub earlier : List Note
  pub notes : List Note
  pub tied_before : Ties Judged shape p earlier before
  pub tied : Ties Judged shape p notes after
  pub spelled : IsDrop shape reference.kind reference.place k earlier notes
  pub told : deinits_of notes ≡ deinits ++ deinits_of earlier

-- a thread's share is the events of its notes
abbrev pub NotesAreShare : Type 0
NotesAreShare = (causes : Causes) (shape : HeapShape) (p : ℕ) (ns : List Note) (h : History) →
    Ties causes shape p ns h → map (λ a. record { thread = p; act = a }) (acts_of ns) ≡ share h p

-- the number of a thread's next hand is one more than its notes have brought
abbrev pub NotesCountHands : Type 0
NotesCountHands = (causes : Causes) (shape : HeapShape) (p : ℕ) (ns : List Note) (h : History) →
    Ties causes shape p ns h → next_hand p h ≡ hands_of ns + 1

-- causes may be left aside
abbrev pub TiesWithoutCauses : Type 0
TiesWithoutCauses = (shape : HeapShape) (p : ℕ) (ns : List Note) (h : History) → Ties Judged shape p ns h → Ties LeftAside shape p ns h

-- Where the cause of a claim is noted, there is a point since the thread's last event, or since the start, at which the
-- object wasn't immortal, had no entry and its list stood at its cap.
abbrev pub CausesAreRecent : Type 0
CausesAreRecent = (shape : HeapShape) (p slot : ℕ) (list : Kind) (ns : List Note) (h : History) →
    Ties Judged shape p (NeedsEntry slot list ∷ ns) h → ever_since p (needs_entry shape slot list) h ≡ true

-- a point of the history since the last event of thread p, or since the start, at which the note holds
pub record HeldSince (causes : Causes) (shape : HeapShape) (p : ℕ) (n : Note) (h : History) : Type 0 where
  pub later : History
  pub earlier : History
  pub split : h ≡ later ++ earlier
  pub quiet : share later p ≡ []
  pub holds : Holds causes shape (heap_after earlier) n

-- Each fact between two events of a thread held at a point between them.
abbrev pub FactsAreRecent : Type 0
FactsAreRecent = (causes : Causes) (shape : HeapShape) (p : ℕ) (n : Note) (ns : List Note) (h : History) →
    is_fact n ≡ true → Ties causes shape p (n ∷ ns) h → HeldSince causes shape p n h

-- events of other threads leave a thread's notes as they are
abbrev pub OthersAddNothing : Type 0
OthersAddNothing = (causes : Causes) (shape : HeapShape) (p : ℕ) (ns : List Note) (h later : History) →
    share later p ≡ [] → Ties causes shape p ns h → Ties causes shape p ns (later ++ h)
