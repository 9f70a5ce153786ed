-- How a thread's events spell what it did. A list of notes has the newest first, and each relation goes from the notes
-- before to the notes after.
use Rattle.arc_model.specs.References.{field_count}
use Rattle.std.specs.Prelude.{ℕ, Bool, true, false, ◌+◌, ◌<◌, ◌≡◌, List, [], ◌∷◌, length, Option, Some, None}
use Rattle.arc_model.specs.declared.answer.Answer.{Answer}
use Rattle.arc_model.specs.declared.answer.Answer.TheVariants as answers
use Rattle.arc_model.specs.declared.event.ObjectName.{ObjectName}
use Rattle.arc_model.specs.declared.event.CellName.{CellName}
use Rattle.arc_model.specs.declared.event.CellName.TheVariants as cells
use Rattle.arc_model.specs.declared.event.Act.{Act}
use Rattle.arc_model.specs.declared.event.Act.TheVariants.{Drop, Take, Finish, Vacate, Gone, Back}
use Rattle.arc_model.specs.declared.shape.Kind.{Kind}
use Rattle.arc_model.specs.declared.shape.Kind.TheVariants.{Strong, Unowned, Weak}
use Rattle.arc_model.specs.Shapes.{HeapShape, class_at}
use Rattle.arc_model.specs.History.{brings}

-- What a spelling reads.
pub data Note : Type 0 where
  -- the thread's own event
  Did : Act → Note
  -- a line of the thread
  Line : Answer → Note
  -- the operation with this number begins, 0 for the end of the scope
  Operation : ℕ → Note
  -- the object in the slot has this name
  Name : ℕ → ObjectName → Note
  -- the object in the slot has this entry, or none
  Entry : ℕ → Option ℕ → Note
  -- the object in the slot isn't immortal and has no entry, and its list of this kind needs one to grow
  NeedsEntry : ℕ → Kind → Note
  -- the cell is nil
  Nil : CellName → Note
  -- the cell has a reference of this kind to the object in this slot, or for a weak one to that with this entry
  Refers : CellName → Kind → ℕ → Note

-- the note says something of the heap
abbrev pub is_fact : Note → Bool
is_fact (Did a) = false
is_fact (Line a) = false
is_fact (Operation n) = false
is_fact _ = true

abbrev pub one_more_if : Bool → ℕ → ℕ
one_more_if true n = n + 1
one_more_if false n = n

-- how many references came into the thread's hands
abbrev pub hands_of : List Note → ℕ
hands_of [] = 0
hands_of (Did a ∷ ns) = one_more_if (brings a) (hands_of ns)
hands_of (_ ∷ ns) = hands_of ns

-- the thread's events, the newest first
abbrev pub acts_of : List Note → List Act
acts_of [] = []
acts_of (Did a ∷ ns) = a ∷ acts_of ns
acts_of (_ ∷ ns) = acts_of ns

-- the names of the deinit lines, the newest first
abbrev pub deinits_of : List Note → List ObjectName
deinits_of [] = []
deinits_of (Line (answers.Deinit name) ∷ ns) = name ∷ deinits_of ns
deinits_of (_ ∷ ns) = deinits_of ns

-- The end of a slot: it is vacated. Where the object has an entry the last weak holder but those of others goes, and after
-- the last of all the entry is given back.
pub data IsEnd : (slot : ℕ) (before after : List Note) → Type 0 where
  inline : {slot : ℕ} {b : List Note} → IsEnd slot b (Did (Vacate slot) ∷ Entry slot None ∷ b)
  gone_more : {slot entry : ℕ} {b : List Note} → IsEnd slot b (Did (Gone entry false) ∷ Did (Vacate slot) ∷ Entry slot (Some entry) ∷ b)
  gone_last : {slot entry : ℕ} {b : List Note} →
      IsEnd slot b (Did (Back entry) ∷ Did (Gone entry true) ∷ Did (Vacate slot) ∷ Entry slot (Some entry) ∷ b)

mutual
  -- In the deinit of the object with this name in the slot, its line stands, and each field below one is nil or was taken
  -- and dropped.
  pub data FieldsDone (shape : HeapShape) : (slot : ℕ) (name : ObjectName) (field : ℕ) (before after : List Note) → Type 0 where
    named : {slot : ℕ} {name : ObjectName} {b : List Note} → FieldsDone shape slot name 0 b (Line (answers.Deinit name) ∷ Name slot name ∷ b)
    noted : {slot f : ℕ} {name : ObjectName} {n : Note} {b ns : List Note} →
        FieldsDone shape slot name f b ns → is_fact n ≡ true → FieldsDone shape slot name f b (n ∷ ns)
    nil : {slot f g : ℕ} {name : ObjectName} {b ns : List Note} →
        FieldsDone shape slot name f b ns → f < field_count shape name → g ≡ f + 1 →
        FieldsDone shape slot name g b (Nil (cells.Field slot f) ∷ ns)
    taken : {slot f g k place : ℕ} {kind : Kind} {name : ObjectName} {b ns after : List Note} →
        FieldsDone shape slot name f b ns → f < field_count shape name → g ≡ f + 1 → k ≡ hands_of ns + 1 →
        IsDrop shape kind place k (Did (Take slot f k) ∷ Refers (cells.Field slot f) kind place ∷ ns) after →
        FieldsDone shape slot name g b after

  -- The drop of hand k: after the last strong reference to the object in a slot its deinit, after the last unowned one the
  -- end of the slot, after the last weak one its entry is given back.
  pub data IsDrop (shape : HeapShape) : (kind : Kind) (place k : ℕ) (before after : List Note) → Type 0 where
    more : {kind : Kind} {place k : ℕ} {b : List Note} → IsDrop shape kind place k b (Did (Drop k false) ∷ b)
    last_strong : {slot k : ℕ} {b after : List Note} → IsCascade shape slot (Did (Drop k true) ∷ b) after → IsDrop shape Strong slot k b after
    last_unowned : {slot k : ℕ} {b after : List Note} → IsEnd slot (Did (Drop k true) ∷ b) after → IsDrop shape Unowned slot k b after
    last_weak : {entry k : ℕ} {b : List Note} → IsDrop shape Weak entry k b (Did (Back entry) ∷ Did (Drop k true) ∷ b)

  -- The deinit of the object in a slot, with those that it brings about: its line, its fields, and the end of its deinit,
  -- after which the slot may end.
  pub data IsCascade (shape : HeapShape) : (slot : ℕ) (before after : List Note) → Type 0 where
    finish_more : {slot f : ℕ} {name : ObjectName} {b ns : List Note} →
        FieldsDone shape slot name f b ns → f ≡ field_count shape name → IsCascade shape slot b (Did (Finish slot false) ∷ ns)
    finish_last : {slot f : ℕ} {name : ObjectName} {b ns after : List Note} →
        FieldsDone shape slot name f b ns → f ≡ field_count shape name → IsEnd slot (Did (Finish slot true) ∷ ns) after →
        IsCascade shape slot b after
