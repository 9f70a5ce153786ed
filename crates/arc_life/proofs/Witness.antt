-- What the witnesses of admitted steps are made of.
use Rattle.std.proofs.Common.{◌≡◌, ◌≢◌, ◌≤◌, ◌<◌, ◌+◌, ◌^◌, ℕ, Bool, zero, suc, true, [], Option, None, Some, refl, sym, ◌∙◌, inl, inr, arith}
use Rattle.std.specs.Prelude.{slice_get}
use Rattle.std.proofs.Math.Dec.{leb}
use Rattle.std.proofs.lemmas.Bool.{leb-true}
use Rattle.arc_bits.specs.declared.packing.Inline.{Inline}
use Rattle.arc_bits.specs.declared.packing.Word.TheVariants.{Counts}
use Rattle.arc_bits.specs.Words.{IsWordOf, flag, counts_word}
use Rattle.arc_model.specs.declared.shape.Kind.TheVariants as kinds
use Rattle.arc_model.specs.declared.event.CellName.TheVariants as cells
use Rattle.arc_model.specs.Shapes.{HeapShape}
use Rattle.arc_model.proofs.Basics.{None≢Some}
use Rattle.arc_rule.specs.declared.layout.Place.{Place}
use Rattle.arc_rule.specs.declared.layout.Place.TheVariants.{Global, Count, Field, Strong}
use Rattle.arc_rule.specs.Shown.{Says}
use Rattle.arc_view.specs.declared.view.Entered.{Entered}
use Rattle.arc_view.specs.declared.view.View.{View}
use Rattle.arc_view.specs.Holding.{heap_of}
use Rattle.arc_view.specs.Steps.{IsRead, IsHeld, IsOther}

-- numbers that are compared by computing
pub le : {n m : ℕ} → leb n m ≡ true → n ≤ m
le {n} {m} e = leb-true n m e

-- the counts of an inline word
abbrev pub counts : (strong unowned : ℕ) → Bool → Inline
counts strong unowned dying = record { strong_extra = strong; unowned = unowned; deiniting = dying }

pub word : (e u : ℕ) (d : Bool) → leb (suc e) (2 ^ 30) ≡ true → leb (suc u) (2 ^ 31) ≡ true → leb 1 (e + u + flag d) ≡ true → IsWordOf (Counts (counts e u d)) (counts_word (counts e u d))
word e u d strong unowned some = record { packable = record { strong = le strong; unowned = le unowned; some = le some }; packed_is = refl }

pub strong_not_weak : kinds.Strong ≢ kinds.Weak
strong_not_weak e = cc

pub unowned_not_weak : kinds.Unowned ≢ kinds.Weak
unowned_not_weak e = cc

pub unowned_not_strong : kinds.Unowned ≢ kinds.Strong
unowned_not_strong e = cc

pub weak_not_strong : kinds.Weak ≢ kinds.Strong
weak_not_strong e = cc

-- the strong count of an entry is at no inline word
pub no_count : (s e : ℕ) {X : Type 0} → Strong e ≡ Count s → X
no_count s e same = absurd (none same)
  where
    none : Strong e ≡ Count s → ⊥
    none same = cc

-- no deinit has been entered
pub none_there : (j : ℕ) (e : Entered) → slice_get [] j ≡ Some e → ⊥
none_there zero e is = cc
none_there (suc j) e is = cc

pub none_below : (g : ℕ) → g < 0 → ⊥
none_below g lt = omega (arith, lt)

pub one_below : (P : ℕ → Type 0) → P 0 → (g : ℕ) → g < 1 → P g
one_below P first zero lt = first
one_below P first (suc g) lt = absurd (omega (arith, lt))

pub two_below : (P : ℕ → Type 0) → P 0 → P 1 → (g : ℕ) → g < 2 → P g
two_below P first second zero lt = first
two_below P first second (suc g) lt = one_below (λ (n : ℕ). P (suc n)) second g (omega (arith, lt))

-- the word of no place but a cell is unsettled
pub never : ⊥ → ⊥
never none = none

-- where there is one pass, nobody else accesses a cell
no_other : (v : View) (q : ℕ) → v.number ≡ 0 → v.splits ≡ 0 → IsOther v q → ⊥
no_other v q first only other = let low = other.2 first in other.0 (omega (arith, low, only, first))

-- a cell that isn't accessed is as the heap says
pub field_read : {shape : HeapShape} {v : View} {s f found : ℕ} → v.number ≡ 0 → v.splits ≡ 0 → v.working.access ≡ None → IsRead shape v v.seen (Field s f) found → Says shape (heap_of v) (Field s f) found
field_read {shape} {v} {s} {f} {found} first only closed r = r.says (λ busy. held (r.busy (cells.Field s f) refl busy))
  where
    held : IsHeld shape v v.seen (cells.Field s f) → ⊥
    held (q, inl (own, (a, begun, at)), reach) = None≢Some a (sym closed ∙ begun)
    held (q, inr other, reach) = no_other v q first only other

pub global_read : {shape : HeapShape} {v : View} {g found : ℕ} → v.number ≡ 0 → v.splits ≡ 0 → v.working.access ≡ None → IsRead shape v v.seen (Global g) found → Says shape (heap_of v) (Global g) found
global_read {shape} {v} {g} {found} first only closed r = r.says (λ busy. held (r.busy (cells.Global g) refl busy))
  where
    held : IsHeld shape v v.seen (cells.Global g) → ⊥
    held (q, inl (own, (a, begun, at)), reach) = None≢Some a (sym closed ∙ begun)
    held (q, inr other, reach) = no_other v q first only other
