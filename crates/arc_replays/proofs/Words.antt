-- The inline word of an object without an entry, whose lists are short: its counts, below the caps, or the word of an immortal object.
use Rattle.std.proofs.Common.{◌≡◌, ℕ, suc, ◌+◌, ◌≤◌, ◌<◌, Bool, true, false, List, [], ◌∷◌, ◌++◌, length, Option, Some, None, refl, sym, ap, ◌∙◌, subst, arith}
use Rattle.arc_bits.specs.declared.packing.Word.{Word}
use Rattle.arc_bits.specs.declared.packing.Word.TheVariants.{Free, Counts, Slow, Immortal}
use Rattle.arc_bits.specs.Words.{CountsFit, flag, unpacked}
use Rattle.arc_bits.proofs.Unpacking.{unpacked-packed}
use Rattle.arc_model.specs.Shapes.{CapNumbers, HeapShape}
use Rattle.arc_model.specs.Heaps.{Holder, Strongs, Object}
use Rattle.arc_model.specs.Holders.{is_empty}
use Rattle.arc_model.specs.Cells.{is_immortal, forever_if}
use Rattle.arc_model.specs.WellFormed.{IsWhole, tally}
use Rattle.arc_model.proofs.Stages.{live-facts}
use Rattle.arc_rule.specs.Shown.{ShowsCounts, IsInline as IsInlineWord, IsHeader, counts_in}
use Rattle.arc_ops.specs.Takes.{IsInline}
use Rattle.arc_view.specs.Rule.{IsSized}
use Rattle.arc_view_laws.proofs.StrongWords.{one_unpacked}
use Rattle.arc_ops_passes.specs.Laws.{IsBelowCaps}
use Rattle.arc_replays.proofs.Bare.{IsBare}

-- a word below the caps is no entry's number
pub below_inline : (caps : CapNumbers) (word : Option Word) → IsBelowCaps caps word → IsInline word
below_inline caps None below = absurd below
below_inline caps (Some Free) below = absurd below
below_inline caps (Some (Counts c)) below = tt
below_inline caps (Some (Slow e)) below = absurd below
below_inline caps (Some Immortal) below = tt

some_tally : (xs : List Holder) → tally Strongs xs ≡ 1 → 1 ≤ length xs
some_tally [] t = absurd (omega (arith, t))
some_tally (x ∷ xs) t = omega arith

some_more : (xs : List Holder) (b : Bool) → is_empty xs ≡ false → is_empty (xs ++ forever_if b) ≡ false
some_more [] b e = absurd cc
some_more (x ∷ xs) b e = refl

-- it has an unowned holder, or its deinit has begun
some_count : (shape : HeapShape) (o : Object) → IsWhole shape o → 1 ≤ length o.unowned + flag (is_empty o.strong)
some_count shape o whole = go (is_empty o.strong) refl
  where
    go : (b : Bool) → is_empty o.strong ≡ b → 1 ≤ length o.unowned + flag b
    go true e = omega arith
    go false e = let some = some_tally o.unowned (live-facts o whole (some_more o.strong (is_immortal shape o) e)).strongs in omega arith

pub bare_word : (shape : HeapShape) (n w : ℕ) (o : Object) → IsSized shape → IsWhole shape o → IsBare n o → n < shape.caps.strong → suc n < shape.caps.unowned → ShowsCounts shape (Some o) w → IsBelowCaps shape.caps (unpacked w)
bare_word shape n w o sized whole bare strong unowned shows = by (is_immortal shape o) shows
  where
    go : (m : Option ℕ) → m ≡ None → IsHeader shape o m w → IsBelowCaps shape.caps (unpacked w)
    go (Some e) none is = absurd (cc)
    go None none (is, strong_cap, unowned_cap) =
        let fits : CountsFit (counts_in o) = record {
          strong = (let cap = sized.caps_fit.strong_fits in omega (arith, strong_cap, cap));
          unowned = (let cap = sized.caps_fit.unowned_fits.1 in omega (arith, unowned_cap, cap));
          some = (let some = some_count shape o whole in omega (arith, some));
        } in
        let few = bare.strong in
        let fewer = bare.unowned in
        subst (IsBelowCaps shape.caps) (sym (ap unpacked is ∙ unpacked-packed (Counts (counts_in o)) fits)) (omega (arith, few, strong), omega (arith, fewer, unowned))

    by : (b : Bool) → IsInlineWord b shape o w → IsBelowCaps shape.caps (unpacked w)
    by true one = subst (IsBelowCaps shape.caps) (sym (ap unpacked one ∙ one_unpacked)) tt
    by false header = go o.entry bare.entry header
