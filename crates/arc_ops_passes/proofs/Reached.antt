-- The cell that an operation names: a global, or a field of the object that a variable's strong reference leads to. So the pass reaches it, also
-- after what others do, and its word shows what it refers to.
use Rattle.std.proofs.Common.{◌≡◌, ◌≢◌, ◌⊎◌, inl, ⊎_elim, ℕ, ◌<◌, List, ◌++◌, length, Option, Some, None, refl, sym, ap, ◌∙◌, subst, arith}
use Rattle.std.specs.Prelude.{slice_get}
use Rattle.std.proofs.lemmas.Bool.{lt-ltb}
use Rattle.std.proofs.lemmas.Option.{slice_get-get_or}
use mathlib.Core.Logic.{dite}
use native.Mathlib.Decide.{ℕ_discrete}
use Rattle.arc_model.specs.declared.event.CellName.{CellName}
use Rattle.arc_model.specs.declared.event.CellName.TheVariants as cells
use Rattle.arc_model.specs.declared.shape.Kind.TheVariants.{Strong}
use Rattle.arc_model.specs.declared.shape.RefShape.{RefShape}
use Rattle.arc_model.specs.Shapes.{HeapShape, class_at}
use Rattle.arc_model.specs.Heaps.{Heap}
use Rattle.arc_model.specs.Holders.{at_slot}
use Rattle.arc_model.specs.Cells.{cell_shape, field_shape}
use Rattle.arc_model.specs.History.{History, heap_after, IsLegal}
use Rattle.arc_spelling.specs.Spelling.{Note}
use Rattle.arc_model.proofs.Basics.{None≢Some, Some-inj}
use Rattle.arc_rule.specs.Places.{IsPlace, extent_of}
use Rattle.arc_rule.specs.Shown.{Says}
use Rattle.arc_rule.specs.Steps.{place_of}
use Rattle.arc_rule.specs.declared.step.Step.{Step}
use Rattle.arc_rule.specs.declared.step.Intent.{Intent}
use Rattle.arc_side.specs.Inline.{IsCountedInline}
use Rattle.arc_programs.specs.Programs.{Hands}
use Rattle.arc_script.specs.declared.script.Op.TheVariants as op
use Rattle.arc_script.specs.declared.script.OpCell.{OpCell}
use Rattle.arc_script.specs.declared.script.OpCell.TheVariants as opcell
use Rattle.arc_script.specs.Valid.{ref_at}
use Rattle.arc_served.specs.Programs.{HasCell, CellFits, KindOfCell, KindsFit, ClassesFit, OwnsStrongly, class_of, ref_of}
use Rattle.arc_ops.specs.declared.cell.Cell.{Cell}
use Rattle.arc_ops.specs.declared.stepper.Held.{Held}
use Rattle.arc_ops.specs.Cells.{IsCellWord, global_of, field_of, cell_in, cell_number, place_in}
use Rattle.arc_ops.specs.Thread.{value}
use Rattle.arc_spelled.specs.Came.{knowing}
use Rattle.arc_spelled.specs.StepperStands.{Work, IsServedWork, AreOfKinds, IsGetting, IsPutting}
use Rattle.arc_spelled.proofs.KindsKept.{holds-at, counted-cell}
use Rattle.arc_view.specs.declared.view.View.{View}
use Rattle.arc_view.specs.Views.{cell_place}
use Rattle.arc_view.specs.Holding.{CanReach, Reaches}
use Rattle.arc_view.specs.Rule.{InShape, IsSized, IsWithin}
use Rattle.arc_view.specs.Admission.{MayLoad}
use Rattle.arc_view.specs.Steps.{Told, Reads, IsUnsettled}
use Rattle.arc_view.proofs.AtCell.{reach_has}
use Rattle.arc_view.proofs.Strongs.{slot_found}
use Rattle.arc_view.proofs.Within.{each_at}
use Rattle.arc_ops_passes.specs.References.{LeadsTo}
use Rattle.arc_ops_passes.specs.Drives.{AreOfClasses}
use Rattle.arc_ops_passes.proofs.Fields.{few_fields}
use Rattle.arc_ops_passes.proofs.Owned.{Stands, others_stand, not_weak}
use Rattle.arc_ops_passes.proofs.CellReads.{CellIsNil, CellLeads, cell_read}

-- ---- what variables have stands in the heap

abbrev pub VarsStand : List ℕ → ℕ → List (Option Held) → History → Type 0
VarsStand classes p vars h = (x : ℕ) (held : Held) → value vars x ≡ Some held → Stands p held (class_of classes x) (heap_after h)

stands : (v : View) (held : Held) (class : ℕ) → LeadsTo v held class → Stands v.number held class (heap_after v.seen)
stands v held class (counted, i, o, hand, here, slot, is) = (i, o, hand, here, slot, is)

pub vars_stand : (classes : List ℕ) (v : View) (vars : List (Option Held)) → AreOfClasses classes v vars → VarsStand classes v.number vars v.seen
vars_stand classes v vars classed x held e = stands v held (class_of classes x) (classed x held e)

-- also after what others did
pub vars_met : (shape : HeapShape) (intent : Intent) (step : Step) (classes : List ℕ) (v : View) (found : ℕ) (v' : View) (vars : List (Option Held)) (told : Told shape intent step v found v') → IsLegal shape (told.between ++ v.seen) → AreOfClasses classes v vars
    → VarsStand classes v.number vars (told.between ++ v.seen)
vars_met shape intent step classes v found v' vars told legal classed x held e =
    let r = classed x held e in
    others_stand shape v.number held (class_of classes x) v.seen told.between (not_weak held.kind r.0) legal told.others (stands v held (class_of classes x) r)

-- ---- the cell is there and is reached

pub record IsReached (shape : HeapShape) (p : ℕ) (h : History) (c : Cell) (r : RefShape) : Type 0 where
  pub place : IsPlace (extent_of shape) (place_in c.name)
  pub reaches : CanReach shape (heap_after h) p c.name
  pub named : cell_shape shape (heap_after h) c.name ≡ Some r
  pub kind : c.kind ≡ r.kind
  pub counted : IsCountedInline r.kind

-- an operation names it, which reads it into a variable, or writes it from one
pub record NamesCell (w : Work) (vars : List (Option Held)) (x : ℕ) (c : Cell) : Type 0 where
  pub of : OpCell
  pub cell_is : cell_in w.shape w.classes vars of ≡ Some c
  pub there : HasCell w.shape w.classes of
  pub kinds : KindOfCell w.shape w.classes w.kinds x of
  pub class : class_of w.classes x ≡ (ref_of w.shape w.classes of).class

pub gets : (w : Work) (came : Hands) (i to : ℕ) (c : Cell) (vars : List (Option Held)) (now : List Note) → IsServedWork w → IsGetting (knowing came w) i to c vars now → NamesCell w vars to c
gets w came i to c vars now served g = record {
  of = g.of;
  cell_is = g.cell_is;
  there = holds-at (CellFits w.shape w.classes) w.program i (op.Get to g.of) served.cells_fit g.begun.there;
  kinds = holds-at (KindsFit w.shape w.classes w.kinds) w.program i (op.Get to g.of) served.kinds_fit g.begun.there;
  class = holds-at (ClassesFit w.shape w.classes) w.program i (op.Get to g.of) served.classes_fit g.begun.there;
}

pub puts : (w : Work) (came : Hands) (i from : ℕ) (c : Cell) (vars : List (Option Held)) (now : List Note) → IsServedWork w → IsPutting (knowing came w) i from c vars now → NamesCell w vars from c
puts w came i from c vars now served g = record {
  of = g.of;
  cell_is = g.cell_is;
  there = holds-at (CellFits w.shape w.classes) w.program i (op.Set g.of from) served.cells_fit g.begun.there;
  kinds = holds-at (KindsFit w.shape w.classes w.kinds) w.program i (op.Set g.of from) served.kinds_fit g.begun.there;
  class = holds-at (ClassesFit w.shape w.classes) w.program i (op.Set g.of from) served.classes_fit g.begun.there;
}

pub global_reached : (w : Work) (p : ℕ) (h : History) (g : ℕ) → IsServedWork w → g < length w.shape.globals → IsReached w.shape p h (global_of w.shape g) (ref_at w.shape.globals g)
global_reached w p h g served inside = record {
  place = inside;
  reaches = tt;
  named = slice_get-get_or w.shape.globals g (record { kind = Strong; class = 0 }) inside;
  kind = refl;
  counted = counted-cell w served (opcell.Global g);
}

pub reached : (w : Work) (p : ℕ) (h : History) (vars : List (Option Held)) (x : ℕ) (c : Cell) → IsServedWork w → IsSized w.shape → IsLegal w.shape h → InShape w.shape h → AreOfKinds w.kinds vars → VarsStand w.classes p vars h → (n : NamesCell w vars x c)
    → IsReached w.shape p h c (ref_of w.shape w.classes n.of)
reached w p h vars x c served sized legal within kinds stand n = at n.of n.cell_is n.there n.kinds.1
  where
    at : (of : OpCell) → cell_in w.shape w.classes vars of ≡ Some c → HasCell w.shape w.classes of → OwnsStrongly w.kinds of → IsReached w.shape p h c (ref_of w.shape w.classes of)
    at (opcell.Global g) is there owns = subst (λ (y : Cell). IsReached w.shape p h y (ref_at w.shape.globals g)) (Some-inj is) (global_reached w p h g served there)
    at (opcell.Field owner f) is there owns = by (value vars owner) refl is
      where
        by_hand : (held : Held) → held.kind ≡ Strong → Stands p held (class_of w.classes owner) (heap_after h) → IsReached w.shape p h (record { name = cells.Field held.place f; kind = (ref_at (class_at w.shape (class_of w.classes owner)).fields f).kind }) (ref_at (class_at w.shape (class_of w.classes owner)).fields f)
        by_hand held strong (i, o, hand, here, slot, is_class) =
            let found : at_slot held.place (heap_after h) ≡ Some o = slot_found w.shape h i held.place o legal here slot in record {
              place = ((each_at (IsWithin w.shape) (heap_after h).objects i o within.within here).0 held.place slot, (let few = few_fields w.shape (class_of w.classes owner) sized in omega (arith, few, there)));
              reaches = (
                held.hand,
                i,
                o,
                hand ∙ ap (λ k. Some (record { place = i; kind = k })) strong,
                here,
                slot,
                lt-ltb f (length (class_at w.shape o.class).fields) (subst (λ k. f < length (class_at w.shape k).fields) (sym is_class) there),
              );
              named = ap (field_shape w.shape f) found ∙ (ap (λ k. slice_get (class_at w.shape k).fields f) is_class ∙ slice_get-get_or (class_at w.shape (class_of w.classes owner)).fields f (record { kind = Strong; class = 0 }) there);
              kind = refl;
              counted = counted-cell w served (opcell.Field owner f);
            }

        by : (m : Option Held) → value vars owner ≡ m → field_of w.shape (class_of w.classes owner) f m ≡ Some c → IsReached w.shape p h c (ref_at (class_at w.shape (class_of w.classes owner)).fields f)
        by None e none = absurd (None≢Some c none)
        by (Some held) e some = subst (λ (y : Cell). IsReached w.shape p h y (ref_at (class_at w.shape (class_of w.classes owner)).fields f)) (Some-inj some) (by_hand held (kinds owner held e ∙ owns) (stand owner held e))

-- ---- its word

pub same_place : (c : CellName) → place_in c ≡ cell_place c
same_place (cells.Field s f) = refl
same_place (cells.Global g) = refl

pub may_load : (shape : HeapShape) (v : View) (c : CellName) (intent : Intent) → Reaches shape v c → MayLoad shape v (place_in c) intent
may_load shape v (cells.Field s f) intent (k, i, o, hand, here, slot, has) = (i, o, here, slot, inl (k, hand))
may_load shape v (cells.Global g) intent reach = tt

said : (shape : HeapShape) (heap : Heap) (c : CellName) (found : ℕ) → found ≢ 1 → ((IsUnsettled (place_in c) found → ⊥) → Says shape heap (place_in c) found) → Says shape heap (cell_place c) found
said shape heap (cells.Field s f) found ne says = says ne
said shape heap (cells.Global g) found ne says = says ne

-- what a step reads of it, where no access to it is under way
pub reads_cell : (shape : HeapShape) (intent : Intent) (step : Step) (v : View) (found : ℕ) (v' : View) (told : Told shape intent step v found v') (c : Cell) (r : RefShape) → IsLegal shape (told.between ++ v.seen) → IsReached shape v.number (told.between ++ v.seen) c r → Reads step
    → place_of step ≡ cell_number (extent_of shape) c.name → found ≢ 1 → CellIsNil (told.between ++ v.seen) c.name found ⊎ CellLeads shape (told.between ++ v.seen) c.name r found
reads_cell shape intent step v found v' told c r legal q reads there ne =
    let h = told.between ++ v.seen in
    cell_read shape h c.name r found legal told.met_in_shape (reach_has shape (heap_after h) v.number c.name q.reaches) q.named q.counted (said shape (heap_after h) c.name found ne (told.read (place_in c.name) reads q.place there).says)

-- so it is a word that a cell may have
pub reads_word : (shape : HeapShape) (intent : Intent) (step : Step) (v : View) (found : ℕ) (v' : View) (told : Told shape intent step v found v') (c : Cell) (r : RefShape) → IsLegal shape (told.between ++ v.seen) → IsReached shape v.number (told.between ++ v.seen) c r → Reads step
    → place_of step ≡ cell_number (extent_of shape) c.name → IsCellWord shape.slots found
reads_word shape intent step v found v' told c r legal q reads there = dite (ℕ_discrete found 1)
    (λ e. omega arith)
    (λ ne. ⊎_elim (λ (z : CellIsNil (told.between ++ v.seen) c.name found). let n = z.word in omega arith) (λ (z : CellLeads shape (told.between ++ v.seen) c.name r found). let n = z.word in let b = z.below in omega arith) (reads_cell shape intent step v found v' told c r legal q reads there ne))
