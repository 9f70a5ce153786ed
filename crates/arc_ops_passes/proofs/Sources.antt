-- What a gain takes from: a reference in a variable, or one in a cell that is accessed. It stands in its place until the step that gains.
use Rattle.std.proofs.Common.{◌≡◌, ℕ, ◌+◌, true, List, [], ◌++◌, Some, None, refl, sym, ap, ◌∙◌, subst}
use Rattle.arc_model.specs.declared.event.CellName.{CellName}
use Rattle.arc_model.specs.declared.event.Origin.{Origin}
use Rattle.arc_model.specs.declared.event.Origin.TheVariants as origins
use Rattle.arc_model.specs.declared.shape.Kind.TheVariants.{Strong, Unowned}
use Rattle.arc_model.specs.Heaps.{Hand, Object, Heap}
use Rattle.arc_model.specs.Cells.{cell as cell_holder, cell_shape, origin}
use Rattle.arc_model.specs.WellFormed.{is_own}
use Rattle.arc_model.specs.History.{History, heap_after, IsLegal}
use Rattle.arc_model.specs.Lookup.{spot}
use Rattle.arc_spelling.specs.Spelling.{Note}
use Rattle.arc_model.proofs.Others.{others_leave}
use Rattle.arc_rule.specs.declared.step.Step.{Step}
use Rattle.arc_rule.specs.declared.step.Intent.{Intent}
use Rattle.arc_side.specs.Inline.{IsCountedInline}
use Rattle.arc_programs.specs.ProgramsTied.{hands_in}
use Rattle.arc_ops.specs.declared.gain.Gain.{Gain}
use Rattle.arc_ops.specs.declared.gain.Gain.TheVariants as gains
use Rattle.arc_ops.specs.declared.gain.Source.{Source}
use Rattle.arc_served.specs.Programs.{KindsFit, ClassesFit, class_of, ref_of}
use Rattle.arc_ops.specs.Thread.{Thread}
use Rattle.arc_ops.specs.Plans.{op_of, hand_of}
use Rattle.arc_spelled.specs.StepperStands.{Work, IsServedWork, AreOfKinds, GainsUpTo}
use Rattle.arc_spelled.proofs.KindsKept.{holds-at}
use Rattle.arc_view.specs.declared.view.Begun.{Begun}
use Rattle.arc_view.specs.declared.view.Working.{Working}
use Rattle.arc_view.specs.declared.view.View.{View}
use Rattle.arc_view.specs.Holding.{At, IsSource, heap_of}
use Rattle.arc_view.specs.Rule.{InShape, IsSized, FitsCell, CellStays}
use Rattle.arc_view.specs.Steps.{Told}
use Rattle.arc_view.proofs.AtCell.{cell_own, reach_has}
use Rattle.arc_view.proofs.Held.{held_stays}
use Rattle.arc_ops_passes.specs.References.{LeadsTo, LeadsFrom}
use Rattle.arc_ops_passes.specs.Drives.{OwesNothing, AreOfClasses, GainsFrom}
use Rattle.arc_ops_passes.proofs.Cells.{class_is, cell_holds}
use Rattle.arc_ops_passes.proofs.CellReads.{cell_fits}
use Rattle.arc_ops_passes.proofs.Goes.{known}
use Rattle.arc_ops_passes.proofs.Reached.{NamesCell, gets, reached, vars_stand}
use Rattle.arc_ops_passes.proofs.Owned.{not_weak}

-- ---- meanwhile nothing else is under way

pub gains_owes : (v : View) (from : Source) (o : Origin) → GainsFrom v o from → v.working.owes ≡ None
gains_owes v from (origins.Hand hand) free = ap (λ (x : Working). x.owes) free.working
gains_owes v from (origins.Cell cell) copying = ap (λ (x : Working). x.owes) copying.working

pub gains_none : (v : View) (from : Source) (o : Origin) → GainsFrom v o from → OwesNothing v
gains_none v from (origins.Hand hand) free = free.none
gains_none v from (origins.Cell cell) copying = copying.none

pub gains_still : (v w : View) (from : Source) (o : Origin) → w.working ≡ v.working → OwesNothing w → LeadsFrom w from → GainsFrom v o from → GainsFrom w o from
gains_still v w from (origins.Hand hand) works none leads free = record { working = works ∙ free.working; none = none }
gains_still v w from (origins.Cell cell) works none leads copying = record { working = works ∙ copying.working; none = none; source = leads }

-- ---- where it leads

-- it leads to an object of this class
pub record HasSource (v : View) (from : Source) (class : ℕ) : Type 0 where
  pub counted : IsCountedInline from.kind
  pub place : ℕ
  pub object : Object
  pub source : IsSource v from.origin from.kind place
  pub here : At (heap_of v) place object
  pub slot : object.slot ≡ Some from.place
  pub is_class : object.class ≡ class

-- after this history
pub record MetSource (p : ℕ) (from : Source) (class : ℕ) (h : History) : Type 0 where
  pub place : ℕ
  pub object : Object
  pub at : spot (origin (heap_after h) p from.origin) (heap_after h) ≡ Some (record { place = place; kind = from.kind })
  pub here : At (heap_after h) place object
  pub slot : object.slot ≡ Some from.place
  pub is_class : object.class ≡ class

-- the kind of the reference that a gain is from; but for a copy it is one in a variable
abbrev pub IsGainOf : Gain → Source → Type 0
IsGainOf gains.Copy from = Unit {0}
IsGainOf gains.Unown from = (from.origin ≡ origins.Hand (hand_of from.origin)) × (from.kind ≡ Strong)
IsGainOf gains.Load from = (from.origin ≡ origins.Hand (hand_of from.origin)) × (from.kind ≡ Unowned)

pub own_origin : (heap : Heap) (p : ℕ) (o : Origin) → is_own (origin heap p o) ≡ true
own_origin heap p (origins.Hand k) = refl
own_origin heap p (origins.Cell c) = cell_own heap c

is_hand : (o : Origin) (h : ℕ) → o ≡ origins.Hand h → o ≡ origins.Hand (hand_of o)
is_hand o h e = e ∙ ap (λ x. origins.Hand (hand_of x)) (sym e)

module _ (w : Work) (t : Thread) (v : View) (gain : Gain) (to : ℕ) (from : Source) (notes : List Note) (served : IsServedWork w) (sized : IsSized w.shape) (legal_seen : IsLegal w.shape v.seen) (kinds : AreOfKinds w.kinds t.vars) where
  abbrev UpTo : Origin → Type 0
  UpTo o = GainsUpTo (known v w) t.index gain to o from.kind from.place t.vars notes

  named_by : (cell : CellName) → UpTo (origins.Cell cell) → NamesCell w t.vars to (record { name = cell; kind = from.kind })
  named_by cell up = gets w (hands_in v.number v.seen) t.index to (record { name = cell; kind = from.kind }) t.vars notes served up.1

  pub gain_is_of : (o : Origin) → from.origin ≡ o → UpTo o → IsGainOf gain from
  gain_is_of (origins.Hand hand) e up = at gain (holds-at (KindsFit w.shape w.classes w.kinds) w.program t.index (op_of gain to up.of) served.kinds_fit up.begun.there)
    where
      at : (g : Gain) → KindsFit w.shape w.classes w.kinds (op_of g to up.of) → IsGainOf g from
      at gains.Copy fit = tt
      at gains.Unown fit = (is_hand from.origin hand e, kinds up.of (record { hand = hand; kind = from.kind; place = from.place }) up.source ∙ fit.1)
      at gains.Load fit = (is_hand from.origin hand e, kinds up.of (record { hand = hand; kind = from.kind; place = from.place }) up.source ∙ fit.1)
  gain_is_of (origins.Cell cell) e up = subst (λ g. IsGainOf g from) (sym up.0) tt

  -- a variable's reference, or a cell's
  pub has_source : AreOfClasses w.classes v t.vars → InShape w.shape v.seen → (o : Origin) → from.origin ≡ o → UpTo o → GainsFrom v o from → HasSource v from (class_of w.classes to)
  has_source classed within (origins.Hand hand) e up under =
      let r : LeadsTo v (record { hand = hand; kind = from.kind; place = from.place }) (class_of w.classes up.of) = classed up.of (record { hand = hand; kind = from.kind; place = from.place }) up.source in
      record { counted = r.0; place = r.1; object = r.2; source = subst (λ o. IsSource v o from.kind r.1) (sym e) (r.3, tt); here = r.4; slot = r.5; is_class = r.6 ∙ sym (one_class gain (holds-at (ClassesFit w.shape w.classes) w.program t.index (op_of gain to up.of) served.classes_fit up.begun.there)) }
    where
      one_class : (g : Gain) → ClassesFit w.shape w.classes (op_of g to up.of) → class_of w.classes to ≡ class_of w.classes up.of
      one_class gains.Copy fit = fit
      one_class gains.Unown fit = fit
      one_class gains.Load fit = fit
  has_source classed within (origins.Cell cell) e up copying =
      let n = named_by cell up in
      let q = reached w v.number v.seen t.vars to (record { name = cell; kind = from.kind }) served sized legal_seen within kinds (vars_stand w.classes v t.vars classed) n in
      let r = copying.source in
      let at : spot (cell_holder (heap_of v) cell) (heap_of v) ≡ Some (record { place = r.1; kind = from.kind }) = subst (λ o. spot (origin (heap_of v) v.number o) (heap_of v) ≡ Some (record { place = r.1; kind = from.kind })) e r.3.0 in
      let fits = cell_fits w.shape v.seen cell legal_seen within (reach_has w.shape (heap_of v) v.number cell q.reaches) in
      record {
        counted = r.0;
        place = r.1;
        object = r.2;
        source = r.3;
        here = r.4;
        slot = r.5;
        is_class = class_is w.shape v.seen (record { place = r.1; kind = from.kind }) r.2 (cell_shape w.shape (heap_of v) cell) (ref_of w.shape w.classes n.of) (subst (λ m. FitsCell (heap_of v) m (cell_shape w.shape (heap_of v) cell)) at fits) q.named r.4 ∙ sym n.class;
      }

  -- what others did since has left it there
  pub met_source : (step : Step) (intent : Intent) (found : ℕ) (v' : View) (told : Told w.shape intent step v found v') → IsLegal w.shape (told.between ++ v.seen) → (class : ℕ) → HasSource v from class → (o : Origin) → from.origin ≡ o → UpTo o → GainsFrom v o from → MetSource v.number from class (told.between ++ v.seen)
  met_source step intent found v' told legal class s (origins.Hand hand) e up under =
      let at : spot (Hand v.number hand) (heap_of v) ≡ Some (record { place = s.place; kind = from.kind }) = subst (λ o. spot (origin (heap_of v) v.number o) (heap_of v) ≡ Some (record { place = s.place; kind = from.kind })) e s.source.0 in
      let h = told.between ++ v.seen in
      let q = held_stays w.shape v.number hand s.place from.kind s.object v.seen told.between legal told.others at s.here in
      record {
        place = s.place;
        object = q.q;
        at = subst (λ o. spot (origin (heap_after h) v.number o) (heap_after h) ≡ Some (record { place = s.place; kind = from.kind })) (sym e) ((others_leave w.shape v.number v.seen told.between legal told.others).hands hand ∙ at);
        here = q.here;
        slot = q.slot (not_weak from.kind s.counted) ∙ s.slot;
        is_class = q.class ∙ s.is_class;
      }
  met_source step intent found v' told legal class s (origins.Cell cell) e up copying =
      let at : spot (cell_holder (heap_of v) cell) (heap_of v) ≡ Some (record { place = s.place; kind = from.kind }) = subst (λ o. spot (origin (heap_of v) v.number o) (heap_of v) ≡ Some (record { place = s.place; kind = from.kind })) e s.source.0 in
      let h = told.between ++ v.seen in
      let begun : Begun = record { cell = cell; value = from.place + 2 } in
      let stays : CellStays h v.seen cell = told.accessed begun (ap (λ (x : Working). x.access) copying.working) in
      let q = cell_holds w.shape cell s.place from.kind s.object v.seen told.between legal stays at s.here in
      record {
        place = s.place;
        object = q.q;
        at = subst (λ o. spot (origin (heap_after h) v.number o) (heap_after h) ≡ Some (record { place = s.place; kind = from.kind })) (sym e) (stays.refers h ([], refl) (told.between, refl) ∙ at);
        here = q.here;
        slot = q.slot (not_weak from.kind s.counted) ∙ s.slot;
        is_class = q.class ∙ s.is_class;
      }
