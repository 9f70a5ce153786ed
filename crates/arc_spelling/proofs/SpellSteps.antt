-- A thread's notes and its history, built together: its own events, those of others, and what is noted between.
use Rattle.std.proofs.Common.{◌≡◌, ℕ, List, [], ◌∷◌, false}
use Rattle.std.specs.Prelude.{⊤}
use Rattle.arc_model.specs.declared.event.Act.{Act}
use Rattle.arc_model.specs.declared.event.Event.{Event}
use Rattle.arc_model.specs.Shapes.{HeapShape}
use Rattle.arc_model.specs.History.{History, heap_after, is_of}
use Rattle.arc_spelling.specs.Spelling as spelling
use Rattle.arc_spelling.specs.SpellingTies.{Ties, Holds}
use Rattle.arc_spelling.specs.SpellingTies.Causes.{Judged}
use Rattle.arc_spelling.specs.SpellingTies.Ties.{own, other, noted}

pub data Step : Type 0 where
  Mine : Act → Step
  Other : Event → Step
  Note : spelling.Note → Step

-- the history after these steps, the oldest first
abbrev pub history_by : ℕ → List Step → History → History
history_by p [] h = h
history_by p (Mine a ∷ ss) h = history_by p ss (record { thread = p; act = a } ∷ h)
history_by p (Other e ∷ ss) h = history_by p ss (e ∷ h)
history_by p (Note n ∷ ss) h = history_by p ss h

abbrev pub notes_by : List Step → List spelling.Note → List spelling.Note
notes_by [] ns = ns
notes_by (Mine a ∷ ss) ns = notes_by ss (spelling.Note.Did a ∷ ns)
notes_by (Other e ∷ ss) ns = notes_by ss ns
notes_by (Note n ∷ ss) ns = notes_by ss (n ∷ ns)

-- the others' events are others', and what is noted holds
abbrev pub Fits : HeapShape → ℕ → List Step → History → Type 0
Fits shape p [] h = ⊤
Fits shape p (Mine a ∷ ss) h = Fits shape p ss (record { thread = p; act = a } ∷ h)
Fits shape p (Other e ∷ ss) h = (is_of p e ≡ false) × Fits shape p ss (e ∷ h)
Fits shape p (Note n ∷ ss) h = Holds Judged shape (heap_after h) n × Fits shape p ss h

pub tied_by : {ns : List spelling.Note} {h : History} (shape : HeapShape) (p : ℕ) (ss : List Step) → Fits shape p ss h → Ties Judged shape p ns h → Ties Judged shape p (notes_by ss ns) (history_by p ss h)
tied_by shape p [] fits t = t
tied_by shape p (Mine a ∷ ss) fits t = tied_by shape p ss fits (own t)
tied_by shape p (Other e ∷ ss) fits t = tied_by shape p ss fits.1 (other t fits.0)
tied_by shape p (Note n ∷ ss) fits t = tied_by shape p ss fits.1 (noted t fits.0)
