-- The word that a pass finds in the slot of an object of which it has a strong hand.
use Rattle.std.proofs.Common.{◌≡◌, ℕ, ◌≤◌, ◌<◌, Bool, true, false, List, [], ◌∷◌, ◌++◌, length, Option, None, Some, refl, sym, ap, ◌∙◌, subst, arith}
use Rattle.arc_bits.specs.declared.packing.Inline.{Inline}
use Rattle.arc_bits.specs.declared.packing.Word.TheVariants.{Counts, Slow, Immortal}
use Rattle.arc_bits.specs.Words.{CountsFit, IsWordOf, unpacked}
use Rattle.arc_bits.proofs.Unpacking.{unpacked-packed}
use Rattle.arc_model.specs.declared.shape.Kind.TheVariants as kinds
use Rattle.arc_model.specs.Shapes.{HeapShape}
use Rattle.arc_model.specs.Heaps.{Holder, Hand, Strongs, Object}
use Rattle.arc_model.specs.Holders.{is_empty}
use Rattle.arc_model.specs.Cells.{is_immortal, forever_if}
use Rattle.arc_model.specs.History.{History, heap_after, IsLegal}
use Rattle.arc_model.specs.Lookup.{spot}
use Rattle.arc_model.specs.WellFormed.{IsWhole, tally}
use Rattle.arc_model.proofs.Basics.{in-not_empty}
use Rattle.arc_model.proofs.Courses.{well_formed}
use Rattle.arc_model.proofs.Stages.{live-facts}
use Rattle.arc_rule.specs.declared.layout.Place.TheVariants.{Count}
use Rattle.arc_rule.specs.Shown.{Says, ShowsCounts, IsInline, IsHeader, counts_in}
use Rattle.arc_plan.specs.Attempts.{IsCountWord}
use Rattle.arc_view.specs.Holding.{At}
use Rattle.arc_view.specs.Rule.{InShape, IsSized, IsWithin}
use Rattle.arc_view.proofs.Held.{hand_listed}
use Rattle.arc_view.proofs.Strongs.{slot_found}
use Rattle.arc_view.proofs.Within.{each_at}

-- what the inline word of an object with a strong reference shows: its counts, with room or at the cap, its entry, or that it is immortal
pub data ShowsStrong (shape : HeapShape) (o : Object) (w : ℕ) : Type 0 where
  counts : (c : Inline) → unpacked w ≡ Some (Counts c) → IsWordOf (Counts c) w → c.deiniting ≡ false → c.strong_extra ≤ shape.caps.strong → 1 ≤ c.unowned → o.entry ≡ None → ShowsStrong shape o w
  slow : (e : ℕ) → unpacked w ≡ Some (Slow e) → o.entry ≡ Some e → e < shape.entries → ShowsStrong shape o w
  forever : w ≡ 1 → unpacked w ≡ Some Immortal → is_immortal shape o ≡ true → ShowsStrong shape o w

-- the word of an immortal object
pub one_unpacked : unpacked 1 ≡ Some Immortal
unfolding unpacked
one_unpacked = refl

tally_some : (xs : List Holder) → tally Strongs xs ≡ 1 → 1 ≤ length xs
tally_some [] t = absurd (omega (arith, t))
tally_some (x ∷ xs) t = omega arith

-- a live object has an unowned holder
live_unowned : (shape : HeapShape) (o : Object) → is_empty o.strong ≡ false → IsWhole shape o → 1 ≤ length o.unowned
live_unowned shape o some whole = tally_some o.unowned (live-facts o whole (some_more o.strong some)).strongs
  where
    some_more : (xs : List Holder) → is_empty xs ≡ false → is_empty (xs ++ forever_if (is_immortal shape o)) ≡ false
    some_more [] e = absurd cc
    some_more (x ∷ xs) e = refl

-- the word that a step finds in the slot of an object of which p has a strong hand
pub shows_strong : (shape : HeapShape) (h : History) (p k i s w : ℕ) (o : Object) → IsSized shape → IsLegal shape h → InShape shape h → spot (Hand p k) (heap_after h) ≡ Some (record { place = i; kind = kinds.Strong }) → At (heap_after h) i o → o.slot ≡ Some s
    → Says shape (heap_after h) (Count s) w → ShowsStrong shape o w
shows_strong shape h p k i s w o sized legal within hand here slot says = by (is_immortal shape o) refl (subst (λ m. ShowsCounts shape m w) (slot_found shape h i s o legal here slot) says)
  where
    some : is_empty o.strong ≡ false
    some = in-not_empty (Hand p k) o.strong (hand_listed shape h p k i kinds.Strong o legal hand here)

    unowned : 1 ≤ length o.unowned
    unowned = live_unowned shape o some ((well_formed shape h legal).whole i o here)

    go : (m : Option ℕ) → o.entry ≡ m → IsHeader shape o m w → ShowsStrong shape o w
    go None none (is, strong_cap, unowned_cap) =
        let fits : CountsFit (counts_in o) = record {
          strong = (let cap = sized.caps_fit.strong_fits in omega (arith, strong_cap, cap));
          unowned = (let cap = sized.caps_fit.unowned_fits.1 in omega (arith, unowned_cap, cap));
          some = omega (arith, unowned);
        } in
        counts (counts_in o) (ap unpacked is ∙ unpacked-packed (Counts (counts_in o)) fits) (record { packable = fits; packed_is = sym is }) some (omega (arith, strong_cap)) unowned none
    go (Some e) entry is =
        let lt : e < shape.entries = (each_at (IsWithin shape) (heap_after h).objects i o within.within here).1 e entry in
        slow e (ap unpacked is ∙ unpacked-packed (Slow e) (let few = sized.shape_fits.entries_fit.1 in omega (arith, lt, few))) entry lt

    by : (b : Bool) → is_immortal shape o ≡ b → IsInline b shape o w → ShowsStrong shape o w
    by true is one = forever one (ap unpacked one ∙ one_unpacked) is
    by false is header = go o.entry refl header

-- which the attempt may be given
pub is_count_word : (shape : HeapShape) (o : Object) (w : ℕ) → ShowsStrong shape o w → IsCountWord shape.entries (λ c. c.strong_extra ≤ shape.caps.strong) (unpacked w)
is_count_word shape o w (counts c is word lives cap unowned none) = subst (IsCountWord shape.entries (λ c. c.strong_extra ≤ shape.caps.strong)) (sym is) (unowned, cap)
is_count_word shape o w (slow e is entry lt) = subst (IsCountWord shape.entries (λ c. c.strong_extra ≤ shape.caps.strong)) (sym is) lt
is_count_word shape o w (forever one is immortal) = subst (IsCountWord shape.entries (λ c. c.strong_extra ≤ shape.caps.strong)) (sym is) tt
