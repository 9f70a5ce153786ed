-- Operations on cells that begin: a cell is there, or its owner is nil.
use Rattle.std.proofs.Common.{◌≡◌, ℕ, ◌+◌, List, ◌∷◌, Option, Some, None, refl, sym, ap, ◌∙◌}
use Rattle.arc_model.specs.declared.answer.Answer.TheVariants as answers
use Rattle.arc_model.specs.Shapes.{HeapShape}
use Rattle.arc_spelling.specs.Spelling.{Note}
use Rattle.arc_spelling.specs.Spelling.Note.{Line, Operation}
use Rattle.arc_script.specs.declared.script.Op.{Op}
use Rattle.arc_script.specs.declared.script.Op.TheVariants as op
use Rattle.arc_script.specs.declared.script.OpCell.{OpCell}
use Rattle.arc_script.specs.declared.script.OpCell.TheVariants as opcell
use Rattle.arc_programs.specs.Programs.{IsFromNil}
use Rattle.arc_programs.specs.Programs.IsFromNil.{get as get_from_nil}
use Rattle.arc_programs.specs.Programs.IsAnswered.{no_owner}
use Rattle.arc_programs.proofs.ProgramsSteps.{answers_last}
use Rattle.arc_served.specs.Programs.{ordinal, class_of}
use Rattle.arc_ops.specs.Thread.{Thread, value}
use Rattle.arc_ops.specs.declared.cell.Cell.{Cell}
use Rattle.arc_ops.specs.Cells.{cell_in, cell_of}
use Rattle.arc_ops.specs.Begins.{skipped, begun_get, begun_set}
use Rattle.arc_spelled.specs.Shown.Says.{nothing, line, operation}
use Rattle.arc_spelled.specs.StepperStands.{Work, IsServedWork, variables, AreDone, WorksOn}
use Rattle.arc_spelled.proofs.StepperSteps.{value-held, Comes, comes-after, IsHere, Opens, from-nil}
use Rattle.arc_spelled.proofs.Cells.{owner-nil, no-cell}

-- the stepper works on the heap and the classes of its work
cell-there : (w : Work) (t : Thread) (cell : OpCell) → WorksOn w t.layout t.shape t.thread t.phases t.program t.classes t.vars → cell_in w.shape w.classes t.vars cell ≡ cell_of cell t
cell-there w t cell works =
    ap (λ (shape : HeapShape). cell_in shape w.classes t.vars cell) (sym works.shape_is) ∙ ap (λ (classes : List ℕ). cell_in t.shape classes t.vars cell) (sym works.classes_are)

get-from-nil : (t : Thread) (to : ℕ) (cell : OpCell) → cell_of cell t ≡ None → IsFromNil (variables t.vars) (op.Get to cell) to
get-from-nil t to (opcell.Global g) e = absurd (cc)
get-from-nil t to (opcell.Field owner field) e = get_from_nil (value-held t.vars owner None (owner-nil t.shape (class_of t.classes owner) field (value t.vars owner) e))

-- a cell is read, or through an owner that is nil the destination becomes nil
pub getting : (w : Work) → IsServedWork w → (t : Thread) (now : List Note) (to : ℕ) (cell : OpCell) (rest : List Op) (go : Thread → Thread) → WorksOn w t.layout t.shape t.thread t.phases t.program t.classes t.vars → IsHere w t (op.Get to cell) rest →
    Opens w t now (op.Get to cell) → AreDone w t.index t.vars now →
    (AreDone w (t.index + 1) t.vars (Line answers.Nil ∷ Operation (ordinal w.program t.index) ∷ now) → Comes w (go (skipped answers.Nil t)) t.event (Line answers.Nil ∷ Operation (ordinal w.program t.index) ∷ now)) →
    Comes w (begun_get to (cell_of cell t) (value t.vars to) t go) t.event now
getting w served t now to cell rest go works here x d skip = at (cell_of cell t) refl
  where
    at : (o : Option Cell) → cell_of cell t ≡ o → Comes w (begun_get to o (value t.vars to) t go) t.event now
    at (Some there) e = record {
      after = Operation (ordinal w.program t.index) ∷ now;
      says = operation nothing;
      event = refl;
      stands = record {
        works = works;
        in_phase = here.in_phase;
        counts = x.opened;
        number = x.number;
        asks = tt;
        up_to = record { of = cell; begun = record { base = now; done = d; there = here.there; now_is = refl }; cell_is = cell-there w t cell works ∙ e };
      };
    }
    at None e = from-nil w served t now (op.Get to cell) rest to go works here x (get-from-nil t to cell e) skip

-- a cell is written, or through an owner that is nil nothing is
pub setting : (w : Work) → IsServedWork w → (t : Thread) (now : List Note) (cell : OpCell) (from : ℕ) (rest : List Op) (go : Thread → Thread) → WorksOn w t.layout t.shape t.thread t.phases t.program t.classes t.vars → IsHere w t (op.Set cell from) rest →
    Opens w t now (op.Set cell from) → AreDone w t.index t.vars now →
    (AreDone w (t.index + 1) t.vars (Line answers.Nil ∷ Operation (ordinal w.program t.index) ∷ now) → Comes w (go (skipped answers.Nil t)) t.event (Line answers.Nil ∷ Operation (ordinal w.program t.index) ∷ now)) →
    Comes w (begun_set from (cell_of cell t) t go) t.event now
setting w served t now cell from rest go works here x d skip = at (cell_of cell t) refl
  where
    at : (o : Option Cell) → cell_of cell t ≡ o → Comes w (begun_set from o t go) t.event now
    at (Some there) e = record {
      after = Operation (ordinal w.program t.index) ∷ now;
      says = operation nothing;
      event = refl;
      stands = record {
        works = works;
        in_phase = here.in_phase;
        counts = x.opened;
        number = x.number;
        asks = tt;
        up_to = record { of = cell; begun = record { base = now; done = d; there = here.there; now_is = refl }; cell_is = cell-there w t cell works ∙ e };
      };
    }
    at None e =
        comes-after w (go (skipped answers.Nil t)) t.event now (Line answers.Nil ∷ Operation (ordinal w.program t.index) ∷ now) (line (operation nothing))
        (skip (answers_last x.next (no_owner (no-cell t.shape t.classes t.vars cell e) refl refl)))
