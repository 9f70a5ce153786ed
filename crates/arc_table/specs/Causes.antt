-- Why an attempt answers as it does, by the words that its steps gave back.
use Rattle.std.specs.Prelude.{ℕ, ◌≡◌, ◌≢◌, ◌/◌, ◌<◌, true, false, List, ◌∷◌, ◌++◌, length, Some}
use Rattle.arc_bits.specs.declared.packing.Inline.{Inline}
use Rattle.arc_bits.specs.declared.packing.Word.TheVariants.{Counts}
use Rattle.arc_bits.specs.Words.{IsWordOf}
use Rattle.arc_model.specs.declared.shape.Kind.TheVariants.{Strong}
use Rattle.arc_model.specs.Shapes.{HeapShape, class_at}
use Rattle.arc_model.specs.Heaps.{Object}
use Rattle.arc_rule.specs.declared.step.Changed.{Changed}
use Rattle.arc_rule.specs.declared.step.Step.TheVariants.{Load, Exchange, Or}
use Rattle.arc_rule.specs.declared.layout.Place.TheVariants as places
use Rattle.arc_rule.specs.Bits.{words_of, bit_of, is_set}
use Rattle.arc_rule.specs.Places.{extent_of, number}
use Rattle.arc_view.specs.declared.view.Mark.{Mark}
use Rattle.arc_view.specs.declared.view.View.{View}
use Rattle.arc_view.specs.Views.{made_in}
use Rattle.arc_view.specs.Holding.{At, HasHand, heap_of}
use Rattle.arc_view.specs.Kinds.{searched}
use Rattle.arc_view_laws.specs.Having.{IsStrongOf}

-- The last two steps of the call read one word: a load gave the one value, and an exchange for it, right after, found the other.
pub record ReadTwice (place : ℕ) (c : Changed) (v w : View) : Type 0 where
  pub first : Mark
  pub second : Mark
  pub before : List Mark
  pub new : ℕ
  pub trail : w.trail ≡ second ∷ first ∷ before ++ v.trail
  pub loads : first.step ≡ Load place
  pub seen : first.found ≡ c.seen
  pub exchanges : second.step ≡ Exchange place c.seen new
  pub found : second.found ≡ c.found
  pub differ : c.seen ≢ c.found

-- the last step of the call is a load of the word, and gave this value
pub record Loaded (place word : ℕ) (v w : View) : Type 0 where
  pub mark : Mark
  pub before : List Mark
  pub trail : w.trail ≡ mark ∷ before ++ v.trail
  pub loads : mark.step ≡ Load place
  pub found : mark.found ≡ word

-- the call loaded the inline word of the slot, and it holds counts at the strong cap of an object that isn't deiniting
pub record LoadedAtCap (shape : HeapShape) (s : ℕ) (v w : View) : Type 0 where
  pub word : ℕ
  pub counts : Inline
  pub loaded : Loaded (number (extent_of shape) (places.Count s)) word v w
  pub packs : IsWordOf (Counts counts) word
  pub live : counts.deiniting ≡ false
  pub at_cap : counts.strong_extra ≡ shape.caps.strong

-- hand k of the view is a strong one of an object with this entry
abbrev pub HasEntry : View → ℕ → ℕ → Type 0
HasEntry v k e = (i : ℕ) × (o : Object) × HasHand v k Strong i × At (heap_of v) i o × (o.entry ≡ Some e)

-- the call loaded the strong count of the entry of hand k's object, and it is the greatest
pub record LoadedFull (shape : HeapShape) (k : ℕ) (v w : View) : Type 0 where
  pub entry : ℕ
  pub has : HasEntry w k entry
  pub loaded : Loaded (number (extent_of shape) (places.Strong entry)) shape.caps.wide v w

-- The word that changed counts the strong references: the inline word of the slot, or that of the entry of hand k's object.
pub data ChangedCount (shape : HeapShape) (k s : ℕ) (c : Changed) (v w : View) : Type 0 where
  inline : ReadTwice (number (extent_of shape) (places.Count s)) c v w → ChangedCount shape k s c v w
  in_entry : (e : ℕ) → HasEntry w k e → ReadTwice (number (extent_of shape) (places.Strong e)) c v w → ChangedCount shape k s c v w

-- The steps of the call between the two views are a load of each bit word of the slots, from the first to the last, and each showed that all slots with
-- a bit in it were taken.
abbrev pub FoundTaken : HeapShape → View → View → Type 0
FoundTaken shape v w =
    (ms : List Mark) × (w.trail ≡ ms ++ v.trail) × (length ms ≡ words_of shape.slots)
    × (searched (λ k. number (extent_of shape) (places.SlotBits k)) shape.slots (made_in v.number v.seen) (words_of shape.slots) ms ≡ true)

-- The last two steps of the call read the bit word of a slot: a load showed the slot's bit clear, and an Or that sets it, right after, found it set.
pub record LostSlot (shape : HeapShape) (c : Changed) (v w : View) : Type 0 where
  pub slot : ℕ
  pub within : slot < shape.slots
  pub first : Mark
  pub second : Mark
  pub before : List Mark
  pub trail : w.trail ≡ second ∷ first ∷ before ++ v.trail
  pub loads : first.step ≡ Load (number (extent_of shape) (places.SlotBits (slot / 64)))
  pub seen : first.found ≡ c.seen
  pub clear : is_set slot c.seen ≡ false
  pub ors : second.step ≡ Or (number (extent_of shape) (places.SlotBits (slot / 64))) (bit_of slot)
  pub found : second.found ≡ c.found
  pub set : is_set slot c.found ≡ true

-- the class of the object in slot s of which hand k is a strong reference isn't immortal
abbrev pub IsMortal : HeapShape → View → ℕ → ℕ → Type 0
IsMortal shape v k s = (class : ℕ) → IsStrongOf v k s class → (class_at shape class).immortal ≡ false

-- Where it is immortal, the call was one load of the inline word, and showed 1.
abbrev pub IsLookOfImmortal : HeapShape → ℕ → ℕ → View → View → Type 0
IsLookOfImmortal shape k s v w = (class : ℕ) → IsStrongOf v k s class → (class_at shape class).immortal ≡ true
    → (m : Mark) × (w.trail ≡ m ∷ v.trail) × (m.step ≡ Load (number (extent_of shape) (places.Count s))) × (m.found ≡ 1)
