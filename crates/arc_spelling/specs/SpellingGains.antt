-- How the gain of a reference is spelled: what stands before the event that decides it, and what stands behind.
use Rattle.std.specs.Prelude.{ℕ, Bool, true, false, ◌≡◌, List, ◌∷◌, ◌++◌}
use Rattle.arc_model.specs.declared.event.Act.{Act}
use Rattle.arc_model.specs.declared.event.Act.TheVariants.{Claim, NoEntry, Side, Back}
use Rattle.arc_model.specs.declared.shape.Kind.{Kind}
use Rattle.arc_model.specs.declared.shape.Kind.TheVariants.{Weak}
use Rattle.arc_spelling.specs.Spelling.{Note, is_fact}
use Rattle.arc_spelling.specs.Spelling.Note.{Did, NeedsEntry}

-- an object moves its counts to an entry for a strong or an unowned source; a weak one has an entry already
abbrev pub may_claim : Kind → Bool
may_claim Weak = false
may_claim _ = true

-- what became of the entry that a gain may claim
pub data Spare : Type 0 where
  Unclaimed : Spare
  Claimed : ℕ → Spare
  Published : Spare

-- What stands before the deciding event of a gain from a source of this kind, by which the list grows of the object in the
-- slot: nothing, or a claim, or a claim of an entry that was then published as the object's.
pub data IsReady (source : Kind) (slot : ℕ) (list : Kind) : (spare : Spare) (before after : List Note) → Type 0 where
  start : {b : List Note} → IsReady source slot list Unclaimed b b
  noted : {spare : Spare} {n : Note} {b ns : List Note} → IsReady source slot list spare b ns → is_fact n ≡ true → IsReady source slot list spare b (n ∷ ns)
  claimed : {entry : ℕ} {b ns : List Note} →
      IsReady source slot list Unclaimed b ns → may_claim source ≡ true →
      IsReady source slot list (Claimed entry) b (Did (Claim entry) ∷ NeedsEntry slot list ∷ ns)
  published : {entry : ℕ} {b ns : List Note} →
      IsReady source slot list (Claimed entry) b ns → IsReady source slot list Published b (Did (Side slot entry list) ∷ ns)

-- an entry that was claimed and not published is given back
pub data IsSettled : (spare : Spare) (before after : List Note) → Type 0 where
  unclaimed : {b : List Note} → IsSettled Unclaimed b b
  published : {b : List Note} → IsSettled Published b b
  given_back : {entry : ℕ} {b : List Note} → IsSettled (Claimed entry) b (Did (Back entry) ∷ b)

-- A gain: what stands before its deciding event, that event, the facts that are read behind it, and the entry given back.
pub record IsGain (source : Kind) (slot : ℕ) (list : Kind) (act : Act) (read : List Note) (before after : List Note) : Type 0 where
  pub spare : Spare
  pub decided : List Note
  pub ready : IsReady source slot list spare before decided
  pub settled : IsSettled spare (read ++ Did act ∷ decided) after

-- a gain that ends since every entry is taken
pub data IsRefused (source : Kind) (slot : ℕ) (list : Kind) : (before after : List Note) → Type 0 where
  no_entry : {b ns : List Note} →
      IsReady source slot list Unclaimed b ns → may_claim source ≡ true → IsRefused source slot list b (Did NoEntry ∷ NeedsEntry slot list ∷ ns)
