-- What goes on showing an object that changes: its inline word, the link of its entry, and the words of bits.
use Rattle.std.proofs.Common.{◌≡◌, ◌⊎◌, inl, inr, ℕ, ◌/◌, ◌<◌, Bool, true, false, Option, Some, None, refl, sym, ap, ◌∙◌, subst, arith}
use Rattle.std.specs.Prelude.{nat_lt, ◌&&◌}
use Rattle.arc_model.specs.Shapes.{HeapShape, class_at}
use Rattle.arc_model.specs.Heaps.{Object}
use Rattle.arc_model.specs.Cells.{is_immortal}
use Rattle.arc_model.proofs.Tally.{clash}
use Rattle.arc_rule.specs.Bits.{ShowsBits}
use Rattle.arc_rule.specs.Shown.{IsHeader, IsInline, IsLink}

pub immortal_same : (shape : HeapShape) (o q : Object) → q.class ≡ o.class → is_immortal shape q ≡ is_immortal shape o
immortal_same shape o q class = ap (λ c. (class_at shape c).immortal) class

-- the inline word doesn't depend on the object's lists: it names the entry, or is that of an immortal object
abbrev pub IsFixed : HeapShape → Object → Type 0
IsFixed shape o = ((e : ℕ) × (o.entry ≡ Some e)) ⊎ (is_immortal shape o ≡ true)

pub inline_lasts : (shape : HeapShape) (o q : Object) (w : ℕ) → q.class ≡ o.class → q.entry ≡ o.entry → IsFixed shape o → IsInline (is_immortal shape o) shape o w → IsInline (is_immortal shape q) shape q w
inline_lasts shape o q w class entry fixed says = subst (λ b. IsInline b shape q w) (sym (immortal_same shape o q class)) (go (is_immortal shape o) refl fixed says)
  where
    go : (b : Bool) → is_immortal shape o ≡ b → IsFixed shape o → IsInline b shape o w → IsInline b shape q w
    go true is fixed says = says
    go false is (inl e) says = subst (λ m. IsHeader shape q m w) (sym (entry ∙ e.1)) (subst (λ m. IsHeader shape o m w) e.1 says)
    go false is (inr forever) says = clash (is_immortal shape o) forever is

-- of an object that isn't immortal
pub inline_header : (shape : HeapShape) (o : Object) (w : ℕ) → is_immortal shape o ≡ false → IsInline (is_immortal shape o) shape o w → IsHeader shape o o.entry w
inline_header shape o w mortal says = subst (λ b. IsInline b shape o w) mortal says

pub header_inline : (shape : HeapShape) (o : Object) (w : ℕ) → is_immortal shape o ≡ false → IsHeader shape o o.entry w → IsInline (is_immortal shape o) shape o w
header_inline shape o w mortal says = subst (λ b. IsInline b shape o w) (sym mortal) says

-- the object stays in its slot, or leaves it
pub link_lasts : (shape : HeapShape) (was is : Option ℕ) (w : ℕ) → (is ≡ was) ⊎ ((s : ℕ) → was ≡ Some s → s < shape.slots) → ((s : ℕ) → is ≡ Some s → was ≡ Some s) → IsLink shape was w → IsLink shape is w
link_lasts shape was is w (inl same) stays says = subst (λ m. IsLink shape m w) (sym same) says
link_lasts shape None None w (inr within) stays says = says
link_lasts shape (Some s) None w (inr within) stays says = let lt = within s refl in (omega (arith, says), omega (arith, says, lt))
link_lasts shape was (Some s) w (inr within) stays says = subst (λ m. IsLink shape m w) (stays s refl) says

-- each thing of the word is taken as before
pub bits_last : (n k : ℕ) (was is : ℕ → Bool) (w : ℕ) → ((x : ℕ) → x / 64 ≡ k → is x ≡ was x) → ShowsBits n k was w → ShowsBits n k is w
bits_last n k was is w same shows = record { below = shows.below; bits = λ x at. shows.bits x at ∙ ap (λ b. nat_lt x n && b) (sym (same x at)) }
