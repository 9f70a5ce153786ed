-- Variables keep references of their kinds.
use Rattle.std.proofs.Common.{◌≡◌, ℕ, zero, suc, false, List, [], ◌∷◌, set, get_or, Option, Some, None, ◌⊎◌, inl, inr, refl, sym, ap, subst, ◌∙◌}
use Rattle.std.specs.Prelude.{slice_get, All}
use Rattle.std.specs.List.{AllByRecursion}
use Rattle.std.proofs.lemmas.List.Elements.{All-get_or, recursion_from_All}
use Rattle.std.proofs.lemmas.Option.{slice_get_within, get_or_from_slice_get}
use Rattle.arc_model.specs.declared.shape.Kind.{Kind}
use Rattle.arc_side.specs.Inline.{IsCountedInline}
use Rattle.arc_model.specs.declared.shape.RefShape.{RefShape}
use Rattle.arc_model.specs.Shapes.{ObjectClass, HeapShape, class_at}
use Rattle.arc_script.specs.declared.script.Op.{Op}
use Rattle.arc_script.specs.declared.script.OpCell.{OpCell}
use Rattle.arc_script.specs.declared.script.OpCell.TheVariants as opcell
use Rattle.arc_script.specs.Valid.{ref_at}
use Rattle.arc_ops.specs.declared.stepper.Held.{Held}
use Rattle.arc_ops.specs.declared.gain.Gain.{Gain}
use Rattle.arc_ops.specs.declared.gain.Gain.TheVariants as gains
use Rattle.arc_ops.specs.declared.gain.Source.{Source}
use Rattle.arc_served.specs.Programs.{kind_of, class_of, ref_of, KindsFit}
use Rattle.arc_served.specs.Served.{IsServedRef, IsServedClass}
use Rattle.arc_ops.specs.Thread.{value}
use Rattle.arc_ops.specs.Plans.{list_of, op_of}
use Rattle.arc_spelled.specs.StepperStands.{Work, IsServedWork, AreOfKinds}

-- what holds of each operation of the program
pub holds-at : (P : Op → Type 0) (program : List Op) (i : ℕ) (o : Op) → All P program → slice_get program i ≡ Some o → P o
holds-at P program i o all there = subst P (get_or_from_slice_get program i o o there) (All-get_or P program i o (slice_get_within program i o there) all)

-- what is kept in a variable is of its kind
abbrev pub FitsKind : List Kind → ℕ → Option Held → Type 0
FitsKind kinds v new = (h : Held) → new ≡ Some h → h.kind ≡ kind_of kinds v

pub fits-some : (kinds : List Kind) (v : ℕ) (h : Held) → h.kind ≡ kind_of kinds v → FitsKind kinds v (Some h)
fits-some kinds v h fits g e = let same : h ≡ g = cc in rw (sym same) fits

-- a variable that was set, or another one
set-value : (vars : List (Option Held)) (v u : ℕ) (new : Option Held) (h : Held) → value (set vars v new) u ≡ Some h → ((u ≡ v) × (new ≡ Some h)) ⊎ (value vars u ≡ Some h)
set-value [] v u new h e = inr e
set-value (x ∷ xs) zero zero new h e = inl (refl, e)
set-value (x ∷ xs) zero (suc u) new h e = inr e
set-value (x ∷ xs) (suc v) zero new h e = inr e
set-value (x ∷ xs) (suc v) (suc u) new h e = go (set-value xs v u new h e)
  where
    go : ((u ≡ v) × (new ≡ Some h)) ⊎ (value xs u ≡ Some h) → ((suc u ≡ suc v) × (new ≡ Some h)) ⊎ (value xs u ≡ Some h)
    go (inl same) = inl (ap suc same.0, same.1)
    go (inr other) = inr other

pub kinds-set : (kinds : List Kind) (vars : List (Option Held)) (v : ℕ) (new : Option Held) → FitsKind kinds v new → AreOfKinds kinds vars → AreOfKinds kinds (set vars v new)
kinds-set kinds vars v new fits all u h e = go (set-value vars v u new h e)
  where
    go : ((u ≡ v) × (new ≡ Some h)) ⊎ (value vars u ≡ Some h) → h.kind ≡ kind_of kinds u
    go (inl same) = rw same.0 (fits h same.1)
    go (inr other) = all u h other

pub kinds-nil : (kinds : List Kind) (vars : List (Option Held)) (v : ℕ) → AreOfKinds kinds vars → AreOfKinds kinds (set vars v None)
kinds-nil kinds vars v all = kinds-set kinds vars v None (λ h e. absurd (cc)) all

-- each kind is counted in an inline word
counted-kind : (kinds : List Kind) (v : ℕ) → AllByRecursion IsCountedInline kinds → IsCountedInline (kind_of kinds v)
counted-kind [] v all = tt
counted-kind (k ∷ kinds) zero all = all.0
counted-kind (k ∷ kinds) (suc v) all = counted-kind kinds v all.1

pub counted-in : (w : Work) → IsServedWork w → (vars : List (Option Held)) (v : ℕ) (h : Held) → AreOfKinds w.kinds vars → value vars v ≡ Some h → IsCountedInline h.kind
counted-in w served vars v h all e = rw (all v h e) (counted-kind w.kinds v (recursion_from_All IsCountedInline w.kinds served.kinds))

-- a reference that is gained is of the kind of its variable
pub gained-kind : (shape : HeapShape) (classes : List ℕ) (kinds : List Kind) (gain : Gain) (to of : ℕ) (from : Source) → KindsFit shape classes kinds (op_of gain to of) → from.kind ≡ kind_of kinds of → list_of gain from ≡ kind_of kinds to
gained-kind shape classes kinds gains.Copy to of from fits e = e ∙ sym fits
gained-kind shape classes kinds gains.Unown to of from fits e = sym fits.0
gained-kind shape classes kinds gains.Load to of from fits e = sym fits.0

-- and so is each global and each field
pub counted-ref : (refs : List RefShape) (i : ℕ) → AllByRecursion IsServedRef refs → IsCountedInline (ref_at refs i).kind
counted-ref [] i all = tt
counted-ref (r ∷ refs) zero all = all.0
counted-ref (r ∷ refs) (suc i) all = counted-ref refs i all.1

pub class-fields : (classes : List ObjectClass) (i : ℕ) → AllByRecursion IsServedClass classes → AllByRecursion IsServedRef (get_or classes i (record { fields = []; immortal = false })).fields
class-fields [] i all = tt
class-fields (c ∷ classes) zero all = recursion_from_All IsServedRef c.fields all.0
class-fields (c ∷ classes) (suc i) all = class-fields classes i all.1

pub counted-field : (w : Work) → IsServedWork w → (class field : ℕ) → IsCountedInline (ref_at (class_at w.shape class).fields field).kind
counted-field w served class field = counted-ref (class_at w.shape class).fields field (class-fields w.shape.classes class (recursion_from_All IsServedClass w.shape.classes served.served_classes))

pub counted-cell : (w : Work) → IsServedWork w → (c : OpCell) → IsCountedInline (ref_of w.shape w.classes c).kind
counted-cell w served (opcell.Global g) = counted-ref w.shape.globals g (recursion_from_All IsServedRef w.shape.globals served.globals)
counted-cell w served (opcell.Field owner field) = counted-field w served (class_of w.classes owner) field
