-- The heap: objects with the holders of their references, and claimed entries. It has no packed count, no word and no flag.
use Rattle.std.specs.Prelude.{ℕ, List, [], Option}
use Rattle.arc_model.specs.declared.event.ObjectId.{ObjectId}

-- Who holds a reference: hand k of a thread, the k-th reference that came into its hands; a field of an object; a global;
-- one of the two extra holders of RefCount.h: all strong holders together hold one unowned reference, all unowned
-- holders together one weak reference; or the holder that never lets go of an object of an immortal class.
pub data Holder : Type 0 where
  Hand : ℕ → ℕ → Holder
  Field : ObjectId → ℕ → Holder
  Global : ℕ → Holder
  Strongs : Holder
  Unowneds : Holder
  Forever : Holder

-- What a thread owes to an object: to end its deinit, to vacate its slot, or to take Unowneds off its entry.
pub data Duty : Type 0 where
  Deinit : Duty
  Vacating : Duty
  Gone : Duty

pub record Owed : Type 0 where
  pub thread : ℕ
  pub duty : Duty

-- An object, with the holders that come and go in each of its lists, and what is owed to it. Forever isn't stored: an
-- object has it by its class.
pub record Object : Type 0 where
  pub id : ObjectId
  pub class : ℕ
  pub slot : Option ℕ
  pub entry : Option ℕ
  pub owed : Option Owed
  pub strong : List Holder
  pub unowned : List Holder
  pub weak : List Holder

-- A side table entry that a thread has claimed and that belongs to no object.
pub record Claimed : Type 0 where
  pub thread : ℕ
  pub entry : ℕ

-- The objects in the order in which they were made; an entry that belongs to an object is the object's. A cell isn't stored:
-- it refers to the object that has it as a holder, and is nil where there is none.
pub record Heap : Type 0 where
  pub objects : List Object
  pub claims : List Claimed

abbrev pub empty : Heap
empty = record { objects = []; claims = [] }
