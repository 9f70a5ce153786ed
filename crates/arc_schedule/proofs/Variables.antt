-- What variables hold.
use Rattle.std.proofs.Common.{◌≡◌, ℕ, zero, suc, ◌<◌, ◌≤◌, Bool, true, false, not, cond, ltb, List, [], ◌∷◌, length, set, Option, Some, None, refl, ap, subst, ◌∙◌, arith}
use Rattle.std.proofs.lemmas.Bool.{ltb-false}
use Rattle.std.proofs.Math.ListN.{get_or-map}
use Rattle.std.proofs.lemmas.List.{map-set}
use Rattle.std.proofs.lemmas.List.Elements.{All-set, recursion_from_All}
use Rattle.std.proofs.lemmas.List.Sums.{prefix_len_passes}
use Rattle.std.specs.Prelude.{position, is_some}
use Rattle.std.specs.List.{prefix_len, AllByRecursion}
use Rattle.arc_served.specs.Programs.{kind_of}
use Rattle.arc_ops.specs.declared.stepper.Held.{Held}
use Rattle.arc_ops.specs.Thread.{value, is_held}
use Rattle.arc_ops.specs.Cells as in-cell
use Rattle.arc_ops.specs.Steppers.{IsHeld, HeldFits}
use Rattle.arc_spelled.proofs.KindsKept.{kinds-set, kinds-nil, fits-some}
use Rattle.arc_schedule.specs.Operations.{Holding, word_of}
use Rattle.arc_schedule.specs.Operations as operations
use Rattle.arc_schedule.proofs.Deinits.{ref}
use Rattle.arc_schedule.proofs.Stands.{Task, kinds_here, refs, AreIn}

pub value-ref : (vars : List (Option Held)) (v : ℕ) (o : Option Held) → value vars v ≡ o → operations.value (refs vars) v ≡ ref o
value-ref vars v o e = get_or-map ref vars v None ∙ ap ref e

pub put-ref : (vars : List (Option Held)) (v : ℕ) (new : Option Held) → refs (set vars v new) ≡ operations.put (refs vars) v (ref new)
put-ref vars v new = map-set ref vars v new

pub none-held : (vars : List (Option Held)) → position is_held vars ≡ None → (v : ℕ) → v < length vars → value vars v ≡ None
none-held vars e v within = go (ltb (prefix_len (λ x. not (is_held x)) vars) (length vars)) refl e
  where
    past : length vars ≤ prefix_len (λ x. not (is_held x)) vars → value vars v ≡ None
    past most = nil (value vars v) (prefix_len_passes (λ x. not (is_held x)) vars v None (omega arith))
      where
        nil : (o : Option Held) → not (is_held o) ≡ true → o ≡ None
        nil None t = refl
        nil (Some h) t = absurd (cc)

    go : (b : Bool) → ltb (prefix_len (λ x. not (is_held x)) vars) (length vars) ≡ b → cond b (Some (prefix_len (λ x. not (is_held x)) vars)) None ≡ None → value vars v ≡ None
    go true f e = absurd (cc)
    go false f e = past (ltb-false (prefix_len (λ x. not (is_held x)) vars) (length vars) f)

pub not-held : (o : Option Held) → is_held o ≡ false → o ≡ None
not-held None e = refl
not-held (Some h) e = absurd (cc)

held-at : (slots : ℕ) (vars : List (Option Held)) (v : ℕ) (h : Held) → AllByRecursion (HeldFits slots) vars → value vars v ≡ Some h → IsHeld slots h
held-at slots [] v h all e = absurd (cc)
held-at slots (o ∷ vars) zero h all e = let f : HeldFits slots (Some h) = subst (HeldFits slots) e all.0 in f
held-at slots (o ∷ vars) (suc v) h all e = held-at slots vars v h all.1 e

-- what a variable holds is served, lies in the heap, and is of the variable's kind
pub held-in : (k : Task) (vars : List (Option Held)) (v : ℕ) (h : Held) → AreIn k vars → value vars v ≡ Some h → IsHeld k.shape.slots h
held-in k vars v h all e = held-at k.shape.slots vars v h (recursion_from_All (HeldFits k.shape.slots) vars all.held) e

pub nil-in : (k : Task) (vars : List (Option Held)) (v : ℕ) → AreIn k vars → AreIn k (set vars v None)
nil-in k vars v all = record { held = All-set (HeldFits k.shape.slots) vars v None tt all.held; kinds = kinds-nil (kinds_here k) vars v all.kinds }

pub one-in : (k : Task) (vars : List (Option Held)) (v : ℕ) (h : Held) → IsHeld k.shape.slots h → h.kind ≡ kind_of (kinds_here k) v → AreIn k vars → AreIn k (set vars v (Some h))
one-in k vars v h inside kind all = record {
  held = All-set (HeldFits k.shape.slots) vars v (Some h) inside all.held;
  kinds = kinds-set (kinds_here k) vars v (Some h) (fits-some (kinds_here k) v h kind) all.kinds;
}

-- a variable holds a reference where the stepper's does
pub block-is : (vars : List (Option Held)) (v : ℕ) → is_some (operations.value (refs vars) v) ≡ is_held (value vars v)
block-is vars v = ap (λ (o : Option Holding). is_some o) (value-ref vars v (value vars v) refl) ∙ same (value vars v)
  where
    same : (o : Option Held) → is_some (ref o) ≡ is_held o
    same None = refl
    same (Some h) = refl

-- what is put into a cell has the word that the stepper writes
pub word-is : (o : Option Held) → word_of (ref o) ≡ in-cell.word_of o
word-is None = refl
word-is (Some h) = refl
