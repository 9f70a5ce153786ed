-- What is left at the end of the life.
use Rattle.std.proofs.Common.{◌≡◌, ◌≤◌, ◌<◌, ℕ, zero, suc, Bool, List, [], length, Option, None, Some, refl, ap, ◌∙◌, le-ltb, arith}
use Rattle.std.specs.Prelude.{nat_lt}
use Rattle.arc_model.specs.declared.shape.RefShape.{RefShape}
use Rattle.arc_model.specs.Shapes.{HeapShape}
use Rattle.arc_model.specs.Cells.{fields_of}
use Rattle.arc_model.specs.Heaps.{Heap, Object}
use Rattle.arc_model.specs.Holders.{at_slot}
use Rattle.arc_model.specs.Lookup.{duty_of}
use Rattle.arc_bits.specs.Words.{unpacked}
use Rattle.arc_rule.specs.Places.{place_at}
use Rattle.arc_rule.specs.declared.layout.Place.TheVariants.{Zero, Global, Count, Isa, Field, SlotBits, EntryBits}
use Rattle.arc_rule.specs.Shown.{Shows, field_word, field_word_if}
use Rattle.arc_view.specs.Holding.{heap_of}
use Rattle.arc_view.specs.Passes.{HoldsNothing, IsFirst, IsWhole}
use Rattle.arc_life.specs.Life.{life_shape, after_born, after_migrated, after_counted, after_joined, after_held, after_emptied, at_end, WordsLeft}
use Rattle.arc_life.proofs.BitWords.{shows_0, shows_4, slots_shown, entries_shown}
use Rattle.arc_life.proofs.Witness.{le}

-- the fields of the object in a slot
abbrev fields_in : HeapShape → Option Object → List RefShape
fields_in shape None = []
fields_in shape (Some o) = fields_of shape o

-- where it has none, the words of fields are 0
no_field : (shape : HeapShape) (heap : Heap) (f : ℕ) (at : Option Object) → fields_in shape at ≡ [] → field_word shape heap f at ≡ 0
no_field shape heap f None bare = refl
no_field shape heap f (Some o) bare = ap (λ (b : Bool). field_word_if b shape heap f o) (ap (λ (fs : List RefShape). nat_lt f (length fs)) bare ∙ le-ltb f 0 (omega arith))

pub end_quiet : HoldsNothing at_end
unfolding place_at unpacked after_born after_migrated after_counted after_joined after_held after_emptied at_end
end_quiet = record {
  quiet = record {
    hands = λ k. refl;
    duties = duties;
    claims = λ e. refl;
  };
  is_idle = record { owes = refl; access = refl; private = refl };
}
  where
    duties : (i : ℕ) → duty_of 0 i (heap_of at_end) ≡ None
    duties zero = refl
    duties (suc zero) = refl
    duties (suc (suc zero)) = refl
    duties (suc (suc (suc i))) = refl

pub end_first : IsFirst at_end
unfolding place_at unpacked after_born after_migrated after_counted after_joined after_held after_emptied at_end
end_first = (refl, refl)

pub end_whole : IsWhole at_end
unfolding place_at unpacked after_born after_migrated after_counted after_joined after_held after_emptied at_end
end_whole p one splits = absurd (omega (arith, one, splits))

-- the words of cells, of the last object and of the bits
pub end_left : (words : List ℕ) → Shows life_shape (heap_of at_end) words → WordsLeft words
unfolding place_at unpacked after_born after_migrated after_counted after_joined after_held after_emptied at_end
end_left words shows = record {
  zero = shows.says Zero tt never;
  global = shows.says (Global 0) (le refl) never;
  count = shows.says (Count 2) (le refl) never;
  isa = shows.says (Isa 2) (le refl) never;
  fields = λ s f slot field. shows.says (Field s f) (slot, field) never ∙ nil s f slot;
  slots = slots_shown (heap_of at_end) (shows_4 3 (le refl)) refl refl refl (shows.says (SlotBits 0) (le refl) never);
  entries = entries_shown (heap_of at_end) (shows_0 1 (le refl)) refl (shows.says (EntryBits 0) (le refl) never);
}
  where
    never : ⊥ → ⊥
    never none = none

    nil : (s f : ℕ) → s < 3 → field_word life_shape (heap_of at_end) f (at_slot s (heap_of at_end)) ≡ 0
    nil zero f lt = no_field life_shape (heap_of at_end) f (at_slot 0 (heap_of at_end)) refl
    nil (suc zero) f lt = no_field life_shape (heap_of at_end) f (at_slot 1 (heap_of at_end)) refl
    nil (suc (suc zero)) f lt = no_field life_shape (heap_of at_end) f (at_slot 2 (heap_of at_end)) refl
    nil (suc (suc (suc s))) f lt = absurd (omega (arith, lt))
