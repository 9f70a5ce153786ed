-- What each spelling has: a deinit tells its object and goes through every field, and a gain leaves no claim open.
use Rattle.std.specs.Prelude.{ℕ, Bool, true, false, ◌==◌, ◌+◌, ◌≤◌, ◌≡◌, List, [], ◌∷◌, ◌++◌}
use Rattle.std.specs.List.{list_all}
use Rattle.arc_model.specs.declared.event.ObjectName.{ObjectName}
use Rattle.arc_model.specs.declared.event.CellName.TheVariants as cells
use Rattle.arc_model.specs.declared.event.Act.{Act}
use Rattle.arc_model.specs.declared.event.Act.TheVariants.{Drop, Claim, Side, Back, Take}
use Rattle.arc_model.specs.declared.shape.Kind.{Kind}
use Rattle.arc_model.specs.Shapes.{HeapShape}
use Rattle.arc_spelling.specs.Spelling.{Note, is_fact, one_more_if, hands_of, deinits_of, IsDrop, IsCascade}
use Rattle.arc_model.specs.References.{field_count}
use Rattle.arc_spelling.specs.Spelling.Note.{Did, Nil}
use Rattle.arc_spelling.specs.SpellingGains.{IsGain, IsRefused}

-- how many fields of the object in the slot were found nil or taken
abbrev pub fields_read : ℕ → List Note → ℕ
fields_read slot [] = 0
fields_read slot (Nil (cells.Field s f) ∷ ns) = one_more_if (s == slot) (fields_read slot ns)
fields_read slot (Did (Take s f k) ∷ ns) = one_more_if (s == slot) (fields_read slot ns)
fields_read slot (_ ∷ ns) = fields_read slot ns

-- A deinit adds the line of an object below those of the objects that died with it, and reads each of its fields.
pub record IsWholeDeinit (shape : HeapShape) (slot : ℕ) (before after : List Note) : Type 0 where
  pub name : ObjectName
  pub later : List ObjectName
  pub told : deinits_of after ≡ later ++ name ∷ deinits_of before
  pub fields : fields_read slot before + field_count shape name ≤ fields_read slot after

abbrev pub DeinitsAreWhole : Type 0
DeinitsAreWhole = (shape : HeapShape) (slot : ℕ) (before after : List Note) → IsCascade shape slot before after → IsWholeDeinit shape slot before after

abbrev pub is_drop : Act → Bool
is_drop (Drop k last) = true
is_drop _ = false

abbrev pub drops_in : List Note → ℕ
drops_in [] = 0
drops_in (Did a ∷ ns) = one_more_if (is_drop a) (drops_in ns)
drops_in (_ ∷ ns) = drops_in ns

-- Of the references that come into the thread's hands each is dropped: in a deinit those taken out of fields, in a drop the
-- one that is dropped besides.
pub record HandsAreDropped : Type 0 where
  pub cascades : (shape : HeapShape) (slot : ℕ) (before after : List Note) → IsCascade shape slot before after → hands_of after + drops_in before ≡ hands_of before + drops_in after
  pub drops : (shape : HeapShape) (kind : Kind) (place k : ℕ) (before after : List Note) → IsDrop shape kind place k before after → hands_of after + drops_in before + 1 ≡ hands_of before + drops_in after

abbrev pub is_claim : Act → Bool
is_claim (Claim e) = true
is_claim _ = false

-- an entry is published, or given back
abbrev pub is_settling : Act → Bool
is_settling (Side s e list) = true
is_settling (Back e) = true
is_settling _ = false

abbrev pub claims_in : List Note → ℕ
claims_in [] = 0
claims_in (Did a ∷ ns) = one_more_if (is_claim a) (claims_in ns)
claims_in (_ ∷ ns) = claims_in ns

abbrev pub settled_in : List Note → ℕ
settled_in [] = 0
settled_in (Did a ∷ ns) = one_more_if (is_settling a) (settled_in ns)
settled_in (_ ∷ ns) = settled_in ns

-- between the notes before and those after as many entries were published or given back as were claimed
abbrev pub LeavesNoClaim : List Note → List Note → Type 0
LeavesNoClaim before after = claims_in after + settled_in before ≡ claims_in before + settled_in after

-- A gain, and one that is refused, leaves no claim.
pub record ClaimsAreSettled : Type 0 where
  pub gains : (source : Kind) (slot : ℕ) (list : Kind) (act : Act) (read before after : List Note) →
      is_claim act ≡ false → is_settling act ≡ false → list_all is_fact read ≡ true → IsGain source slot list act read before after → LeavesNoClaim before after
  pub refusals : (source : Kind) (slot : ℕ) (list : Kind) (before after : List Note) → IsRefused source slot list before after → LeavesNoClaim before after
