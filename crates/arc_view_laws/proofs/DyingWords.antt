-- The word that a pass finds in the slot of an object whose deinit it owes.
use Rattle.std.proofs.Common.{◌≡◌, ℕ, ◌≤◌, ◌<◌, Bool, true, false, List, [], ◌∷◌, ◌++◌, length, Option, None, Some, refl, sym, ap, ◌∙◌, subst, arith}
use Rattle.arc_bits.specs.declared.packing.Inline.{Inline}
use Rattle.arc_bits.specs.declared.packing.Word.TheVariants.{Counts, Slow}
use Rattle.arc_bits.specs.Words.{CountsFit, IsWordOf, unpacked}
use Rattle.arc_bits.proofs.Unpacking.{unpacked-packed}
use Rattle.arc_model.specs.Shapes.{HeapShape}
use Rattle.arc_model.specs.Heaps.{Holder, Strongs, Deinit, Object}
use Rattle.arc_model.specs.Holders.{is_empty}
use Rattle.arc_model.specs.Cells.{is_immortal, forever_if, strong_holders}
use Rattle.arc_model.specs.History.{History, heap_after, IsLegal}
use Rattle.arc_model.specs.Lookup.{duty_of}
use Rattle.arc_model.specs.WellFormed.{tally}
use Rattle.arc_model.proofs.Courses.{well_formed}
use Rattle.arc_model.proofs.Stages.{dying-facts}
use Rattle.arc_rule.specs.declared.layout.Place.TheVariants.{Count}
use Rattle.arc_rule.specs.Shown.{Says, ShowsCounts, IsInline, IsHeader, counts_in}
use Rattle.arc_view.specs.Holding.{At}
use Rattle.arc_view.specs.Rule.{IsWithin, InShape, IsSized}
use Rattle.arc_view.proofs.Owed.{duty_parts}
use Rattle.arc_view.proofs.Strongs.{slot_found}
use Rattle.arc_view.proofs.Within.{each_at}

-- what the inline word of an object whose deinit is owed shows: its counts, or its entry
pub data ShowsDying (shape : HeapShape) (o : Object) (w : ℕ) : Type 0 where
  counts : (c : Inline) → unpacked w ≡ Some (Counts c) → IsWordOf (Counts c) w → c.deiniting ≡ true → 1 ≤ c.unowned → o.entry ≡ None → ShowsDying shape o w
  slow : (e : ℕ) → unpacked w ≡ Some (Slow e) → o.entry ≡ Some e → e < shape.entries → ShowsDying shape o w

tally_some : (xs : List Holder) → tally Strongs xs ≡ 1 → 1 ≤ length xs
tally_some [] t = absurd (omega (arith, t))
tally_some (x ∷ xs) t = omega arith

-- an object without strong holders has an empty strong list, and isn't immortal
pub dying_mortal : (shape : HeapShape) (o : Object) → is_empty (strong_holders shape o) ≡ true → (is_empty o.strong ≡ true) × (is_immortal shape o ≡ false)
dying_mortal shape o = go (is_immortal shape o) o.strong
  where
    go : (b : Bool) (xs : List Holder) → is_empty (xs ++ forever_if b) ≡ true → (is_empty xs ≡ true) × (b ≡ false)
    go true [] e = absurd cc
    go true (x ∷ xs) e = absurd cc
    go false [] e = (refl, refl)
    go false (x ∷ xs) e = absurd cc

-- its strong list is empty, and Strongs is an unowned holder
pub dying_lists : (shape : HeapShape) (h : History) (p i : ℕ) (o : Object) → IsLegal shape h → At (heap_after h) i o → duty_of p i (heap_after h) ≡ Some Deinit → (is_empty o.strong ≡ true) × (1 ≤ length o.unowned)
dying_lists shape h p i o legal here duty = let f = dying-facts o ((well_formed shape h legal).whole i o here) (duty_parts h p i Deinit o here duty).1 in ((dying_mortal shape o f.strong).0, tally_some o.unowned f.strongs)

pub shows_dying : (shape : HeapShape) (h : History) (p i s w : ℕ) (o : Object) → IsSized shape → IsLegal shape h → InShape shape h → At (heap_after h) i o → duty_of p i (heap_after h) ≡ Some Deinit → o.slot ≡ Some s → Says shape (heap_after h) (Count s) w → ShowsDying shape o w
shows_dying shape h p i s w o sized legal within here duty slot says =
    go o.entry refl (subst (λ b. IsInline b shape o w) mortal (subst (λ m. ShowsCounts shape m w) (slot_found shape h i s o legal here slot) says))
  where
    lists : (is_empty o.strong ≡ true) × (1 ≤ length o.unowned)
    lists = dying_lists shape h p i o legal here duty

    mortal : is_immortal shape o ≡ false
    mortal = (dying_mortal shape o (dying-facts o ((well_formed shape h legal).whole i o here) (duty_parts h p i Deinit o here duty).1).strong).1

    go : (m : Option ℕ) → o.entry ≡ m → IsHeader shape o m w → ShowsDying shape o w
    go None none (is, strong_cap, unowned_cap) =
        let fits : CountsFit (counts_in o) = record {
          strong = (let most = sized.caps_fit.strong_fits in omega (arith, strong_cap, most));
          unowned = (let most = sized.caps_fit.unowned_fits.1 in omega (arith, unowned_cap, most));
          some = (let some = lists.1 in omega (arith, some));
        } in
        counts (counts_in o) (ap unpacked is ∙ unpacked-packed (Counts (counts_in o)) fits) (record { packable = fits; packed_is = sym is }) lists.0 lists.1 none
    go (Some e) entry is =
        let lt : e < shape.entries = (each_at (IsWithin shape) (heap_after h).objects i o within.within here).1 e entry in
        slow e (ap unpacked is ∙ unpacked-packed (Slow e) (let few = sized.shape_fits.entries_fit.1 in omega (arith, lt, few))) entry lt
