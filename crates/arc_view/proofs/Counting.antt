-- What an inline word with counts says of the object in the slot.
use Rattle.std.proofs.Common.{◌≡◌, ℕ, zero, suc, ◌+◌, ◌-◌, ◌*◌, ◌^◌, ◌<◌, ◌≤◌, Bool, true, false, not, List, [], ◌∷◌, ◌++◌, length, Option, Some, None, refl, sym, ap, ◌∙◌, arith}
use Rattle.arc_bits.specs.declared.packing.Inline.{Inline}
use Rattle.arc_bits.specs.declared.packing.Word.{Word}
use Rattle.arc_bits.specs.declared.packing.Word.TheVariants.{Free, Counts, Slow, Immortal}
use mathlib.Core.Logic.{dite}
use native.Mathlib.Decide.{ℕ_discrete}
use Rattle.arc_bits.specs.Words.{IsPackable, flag, counts_word, packed, CountsFit, IsWordOf, unpacked}
use Rattle.arc_bits.proofs.Unpacking.{unpacked-packed}
use Rattle.arc_model.specs.Shapes.{HeapShape}
use Rattle.arc_model.specs.Heaps.{Holder, Object}
use Rattle.arc_model.specs.Holders.{is_empty}
use Rattle.arc_model.proofs.Basics.{Some-inj}
use Rattle.arc_model.specs.Cells.{is_immortal, forever_if, strong_holders, is_live}
use Rattle.arc_rule.specs.Shown.{counts_in, IsHeader, IsInline}
use Rattle.arc_view.proofs.Lasting.{inline_header}
use Rattle.arc_view.specs.Rule.{IsSized}
use Rattle.arc_view.specs.Kinds.{is_deiniting}

counts_inj : (a b : Inline) → Counts a ≡ Counts b → a ≡ b
counts_inj a b e = cc

-- counts that fit stay below a slow word, and aren't 0
pub counts_below : (c : Inline) → CountsFit c → counts_word c < 2 ^ 63
counts_below c fits = go c.deiniting fits.strong fits.unowned
  where
    go : (d : Bool) → c.strong_extra < 2 ^ 30 → c.unowned < 2 ^ 31 → 2 * c.unowned + 2 ^ 32 * flag d + 2 ^ 33 * c.strong_extra < 2 ^ 63
    go true s u = omega (arith, s, u)
    go false s u = omega (arith, s, u)

pub counts_some : (c : Inline) → CountsFit c → counts_word c ≡ 0 → ⊥
counts_some c fits z = go c.deiniting fits.some z
  where
    go : (d : Bool) → 0 < c.strong_extra + c.unowned + flag d → 2 * c.unowned + 2 ^ 32 * flag d + 2 ^ 33 * c.strong_extra ≡ 0 → ⊥
    go true s z = omega (arith, s, z)
    go false s z = omega (arith, s, z)

some_of : (e u : ℕ) (d : Bool) → (2 * u + 2 ^ 32 * flag d + 2 ^ 33 * e ≡ 0 → ⊥) → 0 < e + u + flag d
some_of zero zero true ne = omega arith
some_of zero zero false ne = absurd (ne refl)
some_of zero (suc u) d ne = omega arith
some_of (suc e) u d ne = omega arith

-- a word of counts is of an object without an entry, and the counts are the lengths of its lists
pub record Counted (shape : HeapShape) (o : Object) (c : Inline) : Type 0 where
  pub entry : o.entry ≡ None
  pub counts : counts_in o ≡ c
  pub strong_cap : length o.strong ≤ shape.caps.strong + 1
  pub unowned_cap : length o.unowned ≤ shape.caps.unowned

pub header_counts : (shape : HeapShape) (o : Object) (c : Inline) (x : ℕ) → IsSized shape → IsHeader shape o o.entry x → IsWordOf (Counts c) x → Counted shape o c
header_counts shape o c x sized header word = go o.entry refl header
  where
    caps : (length o.strong ≤ shape.caps.strong + 1) → (length o.strong - 1 < 2 ^ 30)
    caps le = let cap = sized.caps_fit.strong_fits in omega (arith, le, cap)

    unowned_caps : (length o.unowned ≤ shape.caps.unowned) → (length o.unowned < 2 ^ 31)
    unowned_caps le = let cap = sized.caps_fit.unowned_fits.1 in omega (arith, le, cap)

    go : (m : Option ℕ) → o.entry ≡ m → IsHeader shape o m x → Counted shape o c
    go (Some e) is h = absurd (let low = counts_below c word.packable in let same = word.packed_is in omega (arith, low, same, h))
    go None is h =
        let same : packed (Counts (counts_in o)) ≡ packed (Counts c) = sym h.0 ∙ sym word.packed_is in
        let fits : CountsFit (counts_in o) = record {
          strong = caps h.1;
          unowned = unowned_caps h.2;
          some = some_of (length o.strong - 1) (length o.unowned) (is_empty o.strong) (λ z. counts_some c word.packable (sym same ∙ z));
        } in record {
          entry = is;
          counts = counts_inj (counts_in o) c (Some-inj (sym (unpacked-packed (Counts (counts_in o)) fits) ∙ (ap unpacked same ∙ unpacked-packed (Counts c) word.packable)));
          strong_cap = h.1;
          unowned_cap = h.2;
        }

-- counts are packed as an even number
counts_odd : (c : Inline) → counts_word c ≡ 1 → ⊥
counts_odd c one = go (flag c.deiniting) one
  where
    go : (d : ℕ) → 2 * c.unowned + 2 ^ 32 * d + 2 ^ 33 * c.strong_extra ≡ 1 → ⊥
    go d one = omega (arith, one)

header_odd : (shape : HeapShape) (o : Object) (m : Option ℕ) → IsHeader shape o m 1 → ⊥
header_odd shape o None h = counts_odd (counts_in o) (sym h.0)
header_odd shape o (Some e) h = omega (arith, h)

-- the inline word 1 is of an immortal object alone
pub one_immortal : (shape : HeapShape) (o : Object) → IsInline (is_immortal shape o) shape o 1 → is_immortal shape o ≡ true
one_immortal shape o says = go (is_immortal shape o) says
  where
    go : (b : Bool) → IsInline b shape o 1 → b ≡ true
    go true says = refl
    go false says = absurd (header_odd shape o o.entry says)

pub counts_mortal : (shape : HeapShape) (o : Object) (c : Inline) (x : ℕ) → IsInline (is_immortal shape o) shape o x → IsWordOf (Counts c) x → is_immortal shape o ≡ false
counts_mortal shape o c x says word = go (is_immortal shape o) says
  where
    go : (b : Bool) → IsInline b shape o x → b ≡ false
    go true says = absurd (counts_odd c (word.packed_is ∙ says))
    go false says = refl

pub inline_counts : (shape : HeapShape) (o : Object) (c : Inline) (x : ℕ) → IsSized shape → IsInline (is_immortal shape o) shape o x → IsWordOf (Counts c) x → Counted shape o c
inline_counts shape o c x sized says word = header_counts shape o c x sized (inline_header shape o x (counts_mortal shape o c x says word) says) word

append_none : (xs : List Holder) → xs ++ [] ≡ xs
append_none [] = refl
append_none (x ∷ xs) = ap (λ ys. x ∷ ys) (append_none xs)

-- the strong holders of an object that isn't immortal are those that are stored
pub strong_mortal : (shape : HeapShape) (o : Object) → is_immortal shape o ≡ false → strong_holders shape o ≡ o.strong
strong_mortal shape o mortal = ap (λ b. o.strong ++ forever_if b) mortal ∙ append_none o.strong

-- an inline word that says that the object is deiniting: it has no strong holder, and no entry
pub deiniting_ends : (shape : HeapShape) (o : Object) (x : ℕ) → IsSized shape → ((e : ℕ) → o.entry ≡ Some e → e < shape.entries) → IsInline (is_immortal shape o) shape o x → is_deiniting (unpacked x) ≡ true → (o.entry ≡ None) × (is_live shape o ≡ false)
deiniting_ends shape o x sized within says ends = by (is_immortal shape o) refl says
  where
    not_so : {A : Type 0} → false ≡ true → A
    not_so e = absurd (cc)

    wrong : {A : Type 0} (w : Word) → IsPackable w → packed w ≡ x → is_deiniting (Some w) ≡ false → A
    wrong w fits is none = not_so (sym none ∙ (ap is_deiniting (sym (unpacked-packed w fits) ∙ ap unpacked is) ∙ ends))

    header : is_immortal shape o ≡ false → (m : Option ℕ) → o.entry ≡ m → IsHeader shape o m x → (o.entry ≡ None) × (is_live shape o ≡ false)
    header mortal (Some e) is h = wrong (Slow e) (let lt = within e is in let most = sized.shape_fits.entries_fit.1 in omega (arith, lt, most)) (sym h) refl
    header mortal None is h = dite (ℕ_discrete x 0)
        (λ zero_is. wrong Free tt (sym zero_is) refl)
        (λ some.
        let fits : CountsFit (counts_in o) = record {
          strong = (let cap = sized.caps_fit.strong_fits in let le = h.1 in omega (arith, le, cap));
          unowned = (let cap = sized.caps_fit.unowned_fits.1 in let le = h.2 in omega (arith, le, cap));
          some = some_of (length o.strong - 1) (length o.unowned) (is_empty o.strong) (λ z. some (h.0 ∙ z));
        } in
        let empty : is_empty o.strong ≡ true = ap is_deiniting (sym (unpacked-packed (Counts (counts_in o)) fits) ∙ ap unpacked (sym h.0)) ∙ ends in
        (is, ap (λ xs. not (is_empty xs)) (strong_mortal shape o mortal) ∙ ap (λ t. not t) empty))

    by : (b : Bool) → is_immortal shape o ≡ b → IsInline b shape o x → (o.entry ≡ None) × (is_live shape o ≡ false)
    by true forever one = wrong Immortal tt (sym one) refl
    by false mortal h = header mortal o.entry refl h
