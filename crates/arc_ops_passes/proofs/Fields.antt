-- Fields are few; and what words show, by what the notes have.
use Rattle.std.proofs.Common.{◌≡◌, ℕ, zero, suc, ◌≤◌, false, List, [], ◌∷◌, length, get_or, Option, Some, refl, arith}
use Rattle.std.specs.Prelude.{⊤}
use Rattle.std.specs.List.{AllByRecursion}
use Rattle.std.proofs.lemmas.List.Elements.{recursion_from_All}
use Rattle.arc_model.specs.Shapes.{HeapShape, ObjectClass, class_at}
use Rattle.arc_model.specs.declared.event.Act.{Act}
use Rattle.arc_model.specs.History.{History}
use Rattle.arc_spelling.specs.Spelling.{Note}
use Rattle.arc_spelling.specs.SpellingTies.{Causes}
use Rattle.arc_rule.specs.Extents.{Extent}
use Rattle.arc_rule.specs.declared.step.Step.{Step}
use Rattle.arc_rule.specs.declared.step.Intent.{Intent}
use Rattle.arc_cells.specs.declared.cascade.At.{At as CascadeAt}
use Rattle.arc_cells.specs.declared.cascade.At.TheVariants as cascades
use Rattle.arc_cells.specs.Cascades.{CascadeState}
use Rattle.arc_deinits.specs.Found.{name_in}
use Rattle.arc_view.specs.Rule.{IsSized}
use Rattle.arc_ops.specs.declared.stepper.Doing.{Doing}
use Rattle.arc_ops.specs.declared.stepper.Doing.TheVariants as doings
use Rattle.arc_ops.specs.declared.stepper.Doing.TheVariants.{Dying}
use Rattle.arc_spelled.specs.Came.{CameOut}
use Rattle.arc_spelled.specs.Spelled.{WordsHold}

pub few_at : (classes : List ObjectClass) (i : ℕ) → AllByRecursion (λ (c : ObjectClass). length c.fields ≤ 8) classes → length (get_or classes i (record { fields = []; immortal = false })).fields ≤ 8
few_at [] i few = omega arith
few_at (c ∷ classes) zero few = few.0
few_at (c ∷ classes) (suc i) few = few_at classes i few.1

pub few_fields : (shape : HeapShape) (class : ℕ) → IsSized shape → length (class_at shape class).fields ≤ 8
few_fields shape class sized = few_at shape.classes class (recursion_from_All (λ (c : ObjectClass). length c.fields ≤ 8) shape.classes sized.shape_fits.fields_fit)

-- what a word shows holds, whatever the notes before are
abbrev pub AllHold : Causes → HeapShape → Extent → Option (Step × Intent) → Option ℕ → ℕ → Option Act → Option CameOut → History → Type 0
AllHold causes shape l asked last p event out h = (now : List Note) → WordsHold causes shape l asked last p event out h now

-- a deinit reads a field where the newest note of the object's name has its name
abbrev pub IsNoted : ℕ → CascadeAt → List Note → Type 0
IsNoted slot (cascades.Looking name f) now = name_in slot now ≡ Some name
IsNoted slot _ now = ⊤

abbrev pub NotesAt : Doing → (List Note → Type 0) → Type 0
NotesAt (Dying c) P = (now : List Note) → IsNoted c.slot c.at now → P now
NotesAt _ P = (now : List Note) → P now

pub notes_at : (d : Doing) (P : List Note → Type 0) → ((now : List Note) → P now) → NotesAt d P
notes_at doings.Ready P all = all
notes_at (doings.Making to name plan) P all = all
notes_at (doings.Gaining gain to from plan) P all = all
notes_at (doings.Naming to held plan) P all = all
notes_at (doings.Opening to cell plan) P all = all
notes_at (doings.Closing to cell held plan) P all = all
notes_at (doings.Setting from cell plan) P all = all
notes_at (doings.Clearing plan) P all = all
notes_at (doings.Dropping held plan) P all = all
notes_at (doings.Dying c) P all = λ now noted. all now
notes_at (doings.Vacating slot plan) P all = all
notes_at doings.Ended P all = all

-- the same doing, with what is noted
pub notes_of : (d : Doing) (P : List Note → Type 0) (now : List Note) → ((c : CascadeState) → d ≡ Dying c → IsNoted c.slot c.at now) → NotesAt d P → P now
notes_of doings.Ready P now noted all = all now
notes_of (doings.Making to name plan) P now noted all = all now
notes_of (doings.Gaining gain to from plan) P now noted all = all now
notes_of (doings.Naming to held plan) P now noted all = all now
notes_of (doings.Opening to cell plan) P now noted all = all now
notes_of (doings.Closing to cell held plan) P now noted all = all now
notes_of (doings.Setting from cell plan) P now noted all = all now
notes_of (doings.Clearing plan) P now noted all = all now
notes_of (doings.Dropping held plan) P now noted all = all now
notes_of (doings.Dying c) P now noted all = all now (noted c refl)
notes_of (doings.Vacating slot plan) P now noted all = all now
notes_of doings.Ended P now noted all = all now
