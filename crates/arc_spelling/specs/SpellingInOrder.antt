-- The same spelling read from left to right: the oldest note first, and each rule from its beginning.
use Rattle.std.specs.Prelude.{ℕ, true, false, ◌+◌, ◌<◌, ◌≡◌, List, [], ◌∷◌, ◌++◌, Some, None}
use Rattle.arc_model.specs.declared.answer.Answer.TheVariants as answers
use Rattle.arc_model.specs.declared.event.ObjectName.{ObjectName}
use Rattle.arc_model.specs.declared.event.CellName.TheVariants as cells
use Rattle.arc_model.specs.declared.event.Act.{Act}
use Rattle.arc_model.specs.declared.event.Act.TheVariants.{Drop, Take, Finish, Vacate, Gone, Back, Claim, Side, NoEntry}
use Rattle.arc_model.specs.declared.shape.Kind.{Kind}
use Rattle.arc_model.specs.declared.shape.Kind.TheVariants.{Strong, Unowned, Weak}
use Rattle.arc_model.specs.Shapes.{HeapShape}
use Rattle.arc_spelling.specs.Spelling.{Note, is_fact, IsEnd, IsDrop, IsCascade}
use Rattle.arc_model.specs.References.{field_count}
use Rattle.arc_spelling.specs.Spelling.Note.{Did, Line, Name, Entry, NeedsEntry, Nil, Refers}
use Rattle.arc_spelling.specs.SpellingGains.{may_claim, IsGain, IsRefused}

-- `vacate S`; where the object had entry E, `gone E more`, or `gone E last` and `back E`
pub data EndOf : (slot : ℕ) → List Note → Type 0 where
  inline : {slot : ℕ} → EndOf slot (Entry slot None ∷ Did (Vacate slot) ∷ [])
  gone_more : {slot entry : ℕ} → EndOf slot (Entry slot (Some entry) ∷ Did (Vacate slot) ∷ Did (Gone entry false) ∷ [])
  gone_last : {slot entry : ℕ} → EndOf slot (Entry slot (Some entry) ∷ Did (Vacate slot) ∷ Did (Gone entry true) ∷ Did (Back entry) ∷ [])

mutual
  -- the rest of a deinit from a field on: for each field that isn't nil `take S.F K` and the drop of K, then `finish S more`, or
  -- `finish S last` and the end of the slot
  pub data RestOf (shape : HeapShape) : (slot : ℕ) (name : ObjectName) (field : ℕ) → List Note → Type 0 where
    noted : {slot f : ℕ} {name : ObjectName} {n : Note} {rest : List Note} → is_fact n ≡ true → RestOf shape slot name f rest → RestOf shape slot name f (n ∷ rest)
    nil : {slot f : ℕ} {name : ObjectName} {rest : List Note} →
        f < field_count shape name → RestOf shape slot name (f + 1) rest → RestOf shape slot name f (Nil (cells.Field slot f) ∷ rest)
    taken : {slot f k place : ℕ} {kind : Kind} {name : ObjectName} {all drop rest : List Note} →
        f < field_count shape name → DropOf shape kind place k drop → RestOf shape slot name (f + 1) rest → all ≡ drop ++ rest →
        RestOf shape slot name f (Refers (cells.Field slot f) kind place ∷ Did (Take slot f k) ∷ all)
    finish_more : {slot f : ℕ} {name : ObjectName} → f ≡ field_count shape name → RestOf shape slot name f (Did (Finish slot false) ∷ [])
    finish_last : {slot f : ℕ} {name : ObjectName} {end : List Note} →
        f ≡ field_count shape name → EndOf slot end → RestOf shape slot name f (Did (Finish slot true) ∷ end)

  -- `drop H more`; or `drop H last` and the deinit of a strong H's object, the end of an unowned H's slot, or `back E` of a
  -- weak H's entry
  pub data DropOf (shape : HeapShape) : (kind : Kind) (place k : ℕ) → List Note → Type 0 where
    more : {kind : Kind} {place k : ℕ} → DropOf shape kind place k (Did (Drop k false) ∷ [])
    last_strong : {slot k : ℕ} {rest : List Note} → CascadeOf shape slot rest → DropOf shape Strong slot k (Did (Drop k true) ∷ rest)
    last_unowned : {slot k : ℕ} {rest : List Note} → EndOf slot rest → DropOf shape Unowned slot k (Did (Drop k true) ∷ rest)
    last_weak : {entry k : ℕ} → DropOf shape Weak entry k (Did (Drop k true) ∷ Did (Back entry) ∷ [])

  -- the object's name and its line, then its fields from the first on
  pub data CascadeOf (shape : HeapShape) : (slot : ℕ) → List Note → Type 0 where
    cascade : {slot : ℕ} {name : ObjectName} {rest : List Note} →
        RestOf shape slot name 0 rest → CascadeOf shape slot (Name slot name ∷ Line (answers.Deinit name) ∷ rest)

-- from the deciding event on: it, what is read behind it, and nothing more; or `back` of an entry that wasn't published
abbrev pub decided : Act → List Note → List Note → List Note
decided act read tail = Did act ∷ read ++ tail

-- the rest of a gain that published an entry: its deciding event
pub data PublishedGainOf (act : Act) (read : List Note) : List Note → Type 0 where
  noted : {n : Note} {rest : List Note} → is_fact n ≡ true → PublishedGainOf act read rest → PublishedGainOf act read (n ∷ rest)
  decides : {all : List Note} → all ≡ decided act read [] → PublishedGainOf act read all

-- the rest of a gain that claimed an entry: `side S E KIND` and the deciding event, or the deciding event and `back E`
pub data ClaimedGainOf (slot : ℕ) (list : Kind) (act : Act) (read : List Note) (entry : ℕ) : List Note → Type 0 where
  noted : {n : Note} {rest : List Note} → is_fact n ≡ true → ClaimedGainOf slot list act read entry rest → ClaimedGainOf slot list act read entry (n ∷ rest)
  side : {rest : List Note} → PublishedGainOf act read rest → ClaimedGainOf slot list act read entry (Did (Side slot entry list) ∷ rest)
  back : {all : List Note} → all ≡ decided act read (Did (Back entry) ∷ []) → ClaimedGainOf slot list act read entry all

-- an optional `claim E`, after it an optional `side S E KIND`, then the deciding event, then `back E` where there was a claim
-- without a `side`
pub data GainOf (source : Kind) (slot : ℕ) (list : Kind) (act : Act) (read : List Note) : List Note → Type 0 where
  noted : {n : Note} {rest : List Note} → is_fact n ≡ true → GainOf source slot list act read rest → GainOf source slot list act read (n ∷ rest)
  claim : {entry : ℕ} {rest : List Note} →
      may_claim source ≡ true → ClaimedGainOf slot list act read entry rest →
      GainOf source slot list act read (NeedsEntry slot list ∷ Did (Claim entry) ∷ rest)
  alone : {all : List Note} → all ≡ decided act read [] → GainOf source slot list act read all

-- `noentry` alone
pub data RefusalOf (source : Kind) (slot : ℕ) (list : Kind) : List Note → Type 0 where
  noted : {n : Note} {rest : List Note} → is_fact n ≡ true → RefusalOf source slot list rest → RefusalOf source slot list (n ∷ rest)
  no_entry : may_claim source ≡ true → RefusalOf source slot list (NeedsEntry slot list ∷ Did NoEntry ∷ [])

-- notes in order put on top of those before, so that the newest comes first
abbrev pub onto : List Note → List Note → List Note
onto [] b = b
onto (x ∷ xs) b = onto xs (x ∷ b)

-- what stands between the notes before and those after, in order, passes
abbrev pub Between : (List Note → Type 0) → List Note → List Note → Type 0
Between P before after = (notes : List Note) × (after ≡ onto notes before) × P notes

-- Each drop, each deinit, each end of a slot and each gain is one from left to right.
pub record ReadsInOrder : Type 0 where
  pub drops : (shape : HeapShape) (kind : Kind) (place k : ℕ) (before after : List Note) → IsDrop shape kind place k before after → Between (DropOf shape kind place k) before after
  pub cascades : (shape : HeapShape) (slot : ℕ) (before after : List Note) → IsCascade shape slot before after → Between (CascadeOf shape slot) before after
  pub ends : (slot : ℕ) (before after : List Note) → IsEnd slot before after → Between (EndOf slot) before after
  pub gains : (source : Kind) (slot : ℕ) (list : Kind) (act : Act) (read before after : List Note) →
      IsGain source slot list act (onto read []) before after → Between (GainOf source slot list act read) before after
  pub refusals : (source : Kind) (slot : ℕ) (list : Kind) (before after : List Note) → IsRefused source slot list before after → Between (RefusalOf source slot list) before after
