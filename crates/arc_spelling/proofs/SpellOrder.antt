-- A spelling with the newest note first is one from left to right.
use Rattle.std.proofs.Common.{◌≡◌, ℕ, true, false, List, [], ◌∷◌, ◌++◌, None, Some, refl, sym, ap, ◌∙◌, append_assoc}
use Rattle.arc_model.specs.declared.answer.Answer.TheVariants as answers
use Rattle.arc_model.specs.declared.event.ObjectName.{ObjectName}
use Rattle.arc_model.specs.declared.event.CellName.TheVariants as cells
use Rattle.arc_model.specs.declared.event.Act.TheVariants.{Drop, Take, Finish, Vacate, Gone, Back}
use Rattle.arc_model.specs.declared.shape.Kind.{Kind}
use Rattle.arc_model.specs.Shapes.{HeapShape}
use Rattle.arc_spelling.specs.Spelling.{Note, FieldsDone, IsEnd, IsDrop, IsCascade}
use Rattle.arc_spelling.specs.Spelling.Note.{Did, Line, Name, Entry, Nil, Refers}
use Rattle.arc_spelling.specs.Spelling.IsEnd.{inline as done_inline, gone_more as done_gone_more, gone_last as done_gone_last}
use Rattle.arc_spelling.specs.Spelling.FieldsDone.{named as done_named, noted as done_noted, nil as done_nil, taken as done_taken}
use Rattle.arc_spelling.specs.Spelling.IsDrop.{more as done_more, last_strong as done_last_strong, last_unowned as done_last_unowned, last_weak as done_last_weak}
use Rattle.arc_spelling.specs.Spelling.IsCascade.{finish_more as done_finish_more, finish_last as done_finish_last}
use Rattle.arc_spelling.specs.SpellingInOrder.{EndOf, RestOf, DropOf, CascadeOf, Between, onto}
use Rattle.arc_spelling.specs.SpellingInOrder.EndOf.{inline, gone_more, gone_last}
use Rattle.arc_spelling.specs.SpellingInOrder.RestOf.{noted, nil, taken, finish_more, finish_last}
use Rattle.arc_spelling.specs.SpellingInOrder.DropOf.{more, last_strong, last_unowned, last_weak}
use Rattle.arc_spelling.specs.SpellingInOrder.CascadeOf.{cascade}

pub onto-append : (xs ys b : List Note) → onto (xs ++ ys) b ≡ onto ys (onto xs b)
onto-append [] ys b = refl
onto-append (x ∷ xs) ys b = onto-append xs ys (x ∷ b)

pub reads-end : {slot : ℕ} {b ns : List Note} → IsEnd slot b ns → Between (EndOf slot) b ns
reads-end (done_inline {slot = slot}) = (Entry slot None ∷ Did (Vacate slot) ∷ [], refl, inline)
reads-end (done_gone_more {slot = slot} {entry = entry}) = (Entry slot (Some entry) ∷ Did (Vacate slot) ∷ Did (Gone entry false) ∷ [], refl, gone_more)
reads-end (done_gone_last {slot = slot} {entry = entry}) = (Entry slot (Some entry) ∷ Did (Vacate slot) ∷ Did (Gone entry true) ∷ Did (Back entry) ∷ [], refl, gone_last)

-- what was done of a deinit, such that each rest from the field on completes it
record BegunBetween (shape : HeapShape) (slot : ℕ) (name : ObjectName) (field : ℕ) (before after : List Note) : Type 0 where
  notes : List Note
  after_is : after ≡ onto notes before
  completes : (rest : List Note) → RestOf shape slot name field rest → CascadeOf shape slot (notes ++ rest)

-- what was done with notes of a rest put behind it
goes_on : {slot f g : ℕ} {shape : HeapShape} {name : ObjectName} {b ns after : List Note} (added : List Note) →
    BegunBetween shape slot name f b ns → after ≡ onto added ns →
    ((rest : List Note) → RestOf shape slot name g rest → RestOf shape slot name f (added ++ rest)) → BegunBetween shape slot name g b after
goes_on {b = b} added h e put =
    record {
      notes = h.notes ++ added;
      after_is = e ∙ ap (onto added) h.after_is ∙ sym (onto-append h.notes added b);
      completes = λ rest r. rw append_assoc (h.completes (added ++ rest) (put rest r));
    }

-- what was done with the end of the deinit behind it
comes_to : {slot f : ℕ} {shape : HeapShape} {name : ObjectName} {b ns after : List Note} (added : List Note) →
    BegunBetween shape slot name f b ns → after ≡ onto added ns → RestOf shape slot name f added → Between (CascadeOf shape slot) b after
comes_to {b = b} added h e r = (h.notes ++ added, e ∙ ap (onto added) h.after_is ∙ sym (onto-append h.notes added b), h.completes added r)

mutual
  reads-fields : {slot f : ℕ} {shape : HeapShape} {name : ObjectName} {b ns : List Note} → FieldsDone shape slot name f b ns → BegunBetween shape slot name f b ns
  reads-fields (done_named {slot = slot} {name = name}) = record { notes = Name slot name ∷ Line (answers.Deinit name) ∷ []; after_is = refl; completes = λ rest r. cascade r }
  reads-fields (done_noted {n = n} d fact) = goes_on (n ∷ []) (reads-fields d) refl (λ rest r. noted fact r)
  reads-fields (done_nil {slot = slot} {f = f} d l e) = goes_on (Nil (cells.Field slot f) ∷ []) (reads-fields d) refl (λ rest r. nil l (rw e at r))
  reads-fields (done_taken {slot = slot} {f = f} {k = k} {place = place} {kind = kind} d l e n x) =
      let g = reads-drop x in
      goes_on (Refers (cells.Field slot f) kind place ∷ Did (Take slot f k) ∷ g.0) (reads-fields d) g.1 (λ rest r. taken l g.2 (rw e at r) refl)

  reads-drop : {place k : ℕ} {shape : HeapShape} {kind : Kind} {b ns : List Note} → IsDrop shape kind place k b ns → Between (DropOf shape kind place k) b ns
  reads-drop (done_more {k = k}) = (Did (Drop k false) ∷ [], refl, more)
  reads-drop (done_last_strong {k = k} c) = let h = reads-cascade c in (Did (Drop k true) ∷ h.0, h.1, last_strong h.2)
  reads-drop (done_last_unowned {k = k} x) = let h = reads-end x in (Did (Drop k true) ∷ h.0, h.1, last_unowned h.2)
  reads-drop (done_last_weak {entry = entry} {k = k}) = (Did (Drop k true) ∷ Did (Back entry) ∷ [], refl, last_weak)

  reads-cascade : {slot : ℕ} {shape : HeapShape} {b ns : List Note} → IsCascade shape slot b ns → Between (CascadeOf shape slot) b ns
  reads-cascade (done_finish_more {slot = slot} d e) = comes_to (Did (Finish slot false) ∷ []) (reads-fields d) refl (finish_more e)
  reads-cascade (done_finish_last {slot = slot} d e x) = let h = reads-end x in comes_to (Did (Finish slot true) ∷ h.0) (reads-fields d) h.1 (finish_last e h.2)

pub drops_read : (shape : HeapShape) (kind : Kind) (place k : ℕ) (before after : List Note) → IsDrop shape kind place k before after → Between (DropOf shape kind place k) before after
drops_read shape kind place k before after x = reads-drop x

pub cascades_read : (shape : HeapShape) (slot : ℕ) (before after : List Note) → IsCascade shape slot before after → Between (CascadeOf shape slot) before after
cascades_read shape slot before after x = reads-cascade x
