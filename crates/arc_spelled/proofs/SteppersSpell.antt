-- A thread's stepper begins with no note, and its notes spell the thread's program where it has ended.
use Rattle.std.proofs.Common.{◌≡◌, ℕ, zero, suc, ◌-◌, ◌<◌, ◌≤◌, Bool, true, false, cond, eqb, List, [], ◌∷◌, length, replicate, take, Option, Some, None, refl, ap, subst, ◌∙◌, arith}
use Rattle.std.proofs.Math.Seq.{take-nil}
use Rattle.std.proofs.lemmas.Bool.{eqb-true}
use Rattle.std.proofs.lemmas.List.{take_all}
use Rattle.std.specs.Prelude.{slice_get}
use Rattle.arc_model.specs.Shapes.{HeapShape}
use Rattle.arc_spelling.specs.Spelling.{Note}
use Rattle.arc_model.specs.History.{History}
use Rattle.arc_spelling.specs.SpellingTies.{Causes, Ties}
use Rattle.arc_spelling.specs.SpellingTies.Ties.{own, noted}
use Rattle.arc_model.specs.declared.event.Act.{Act}
use Rattle.arc_rule.specs.Extents.{Extent}
use Rattle.arc_rule.specs.declared.step.Step.{Step}
use Rattle.arc_cells.specs.Chains.{Frame}
use Rattle.arc_rule.specs.declared.step.Intent.{Intent}
use Rattle.arc_model.specs.declared.shape.Kind.{Kind}
use Rattle.arc_script.specs.declared.script.ThreadDecl.{ThreadDecl}
use Rattle.arc_script.specs.declared.script.Script.{Script}
use Rattle.arc_script.specs.Valid.{IsScript}
use Rattle.arc_script.specs.OneList.{in_one_list}
use Rattle.arc_ops.proofs.Made.{blocks_fit}
use Rattle.arc_programs.specs.Variables.{Variables, all_nil}
use Rattle.arc_programs.specs.Programs.{Hands, IsProgram}
use Rattle.arc_programs.specs.Programs.OpsDone.{none}
use Rattle.arc_programs.specs.ProgramsLines.{told}
use Rattle.arc_programs.specs.ProgramsTied.{Spells}
use Rattle.arc_programs.specs.ProgramsTied.Spells.{thread, end}
use Rattle.arc_ops.specs.declared.stepper.Held.{Held as HeldByStepper}
use Rattle.arc_ops.specs.declared.stepper.Doing.{Doing}
use Rattle.arc_ops.specs.declared.stepper.Doing.TheVariants.{Ready, Making, Gaining, Naming, Opening, Closing, Setting, Clearing, Dropping, Dying, Vacating, Ended}
use Rattle.arc_ops.specs.declared.stepper.Move.TheVariants as moves
use Rattle.arc_served.specs.Programs.{phases_in, program_of, ops_in_first, count_of_vars, vars_of, kinds_of, room_in}
use Rattle.arc_served.specs.Kept.{Kept}
use Rattle.arc_served.specs.Served.{IsServed}
use Rattle.arc_ops.specs.Thread.{Thread, value}
use Rattle.arc_spelled.specs.Came.{CameOut}
use Rattle.arc_spelled.specs.Shown.{Reads, FindsReference, FindsEntry, Says, with_act}
use Rattle.arc_spelled.specs.Shown.Reads.{nothing as read_nothing, name as read_name, nil_field, reference}
use Rattle.arc_spelled.specs.Shown.FindsReference.{nothing as refers_nothing, refers}
use Rattle.arc_spelled.specs.Shown.FindsEntry.{nothing as found_nothing, entry as found_entry}
use Rattle.arc_spelled.specs.Shown.Says.{nothing as said_nothing, line, operation}
use Rattle.arc_spelled.specs.StepperStands.{Work, IsServedWork, variables, AreOfKinds, AreDone, HasEnded, StepperUpTo, IsInPhase, Asks, StandsFor}
use Rattle.arc_spelled.specs.Spelled.{work_of, SteppersBegin, SteppersGoOn, EndedSteppersSpell, ReadySteppersHaveDone, with_event_of, WordsHold, AddedNotesAreTied}
use Rattle.arc_spelled.proofs.Declared.{program-served, kinds-served, program-kinds, program-classes, program-cells, globals-served, clears-alone}
use Rattle.arc_spelled.proofs.StepperKeeps.{stepper_goes_on}

-- ---- what a script's thread works on is served

pub served-work : (s : Script) (p : ℕ) (came : Hands) → IsScript s → IsServed s → IsServedWork (work_of s p came)
served-work s p came valid served = record {
  whole = refl;
  blocks = blocks_fit s p valid;
  ops = program-served s p served;
  kinds = kinds-served s p served;
  kinds_fit = program-kinds s p valid served;
  classes_fit = program-classes s p valid served;
  cells_fit = program-cells s p valid served;
  globals = globals-served s valid served;
  served_classes = served.classes;
  clearing = clears-alone s p;
}

-- ---- a new stepper

all-nil : (n : ℕ) → variables (replicate n None) ≡ all_nil n
all-nil zero = refl
all-nil (suc n) = ap (λ (vs : Variables). None ∷ vs) (all-nil n)

-- variables that are nil have no reference of another kind
no-value : (n v : ℕ) (h : HeldByStepper) → value (replicate n None) v ≡ Some h → ⊥
no-value zero v h e = absurd (cc)
no-value (suc n) zero h e = absurd (cc)
no-value (suc n) (suc v) h e = no-value n v h e

none-held : (kinds : List Kind) (n : ℕ) → AreOfKinds kinds (replicate n None)
none-held kinds n v h e = absurd (no-value n v h e)

pub steppers_begin : SteppersBegin
steppers_begin script p came = record {
  works = record { layout_is = refl; shape_is = refl; thread_is = refl; phases_is = refl; program_is = refl; classes_are = refl; kinds = none-held (kinds_of script p) (vars_of script p) };
  in_phase = refl;
  counts = record { hands_are = refl; taken_is = refl; made_is = refl; lines_are = rw take-nil refl };
  number = tt;
  asks = refl;
  up_to = record { done = none (all-nil (vars_of script p)); uncleared = λ first. refl };
}

pub steppers_go_on : SteppersGoOn
steppers_go_on script p came more t fs last now valid served s may fits extends knows =
    stepper_goes_on (work_of script p came) (served-work script p came valid served) more t fs last now s may fits extends knows

-- ---- the end

-- a stepper that says that it has ended is at its end
at-end : (w : Work) (t : Thread) (fs : List Frame) (now : List Note) → StandsFor w t fs now → t.asked ≡ moves.Ended → HasEnded (eqb w.thread 0) w now
at-end w t fs now s e = go t.doing (rw e at s.asks) s.up_to
  where
    go : (d : Doing) → Asks d moves.Ended → StepperUpTo w t.index t.vars t.cleared fs t.asked now d → HasEnded (eqb w.thread 0) w now
    go Ready a u = absurd (cc)
    go (Making to name plan) a u = absurd a
    go (Gaining gain to from plan) a u = absurd a
    go (Naming to held plan) a u = absurd a
    go (Opening to cell plan) a u = absurd a
    go (Closing to cell held plan) a u = absurd a
    go (Setting from cell plan) a u = absurd a
    go (Clearing plan) a u = absurd a
    go (Vacating slot plan) a u = absurd a
    go (Dropping held plan) a u = absurd a
    go (Dying c) a u = absurd a
    go Ended a u = u

thread-there : (ts : List ThreadDecl) (i : ℕ) → i < length ts → slice_get ts i ≡ None → ⊥
thread-there [] i within e = absurd (omega arith)
thread-there (t ∷ ts) zero within e = absurd (cc)
thread-there (t ∷ ts) (suc i) within e = thread-there ts i (omega arith) e

threads-spell : (s : Script) (p : ℕ) (came : Hands) (now : List Note) → p ≤ length s.threads → HasEnded (eqb p 0) (work_of s p came) now → Spells s came p now
threads-spell s zero came now within cleared = end cleared refl
threads-spell s (suc n) came now within ended = numbered (eqb (suc n) 0) refl program
  where
    not-first : (b : Bool) → eqb (suc n) 0 ≡ b → eqb (suc n) 0 ≡ false
    not-first true e = let same = eqb-true (suc n) 0 e in absurd (omega arith)
    not-first false e = e

    program : IsProgram s.shape (suc n) came (program_of s (suc n)) (vars_of s (suc n)) now
    program = subst (λ (b : Bool). HasEnded b (work_of s (suc n) came) now) (not-first (eqb (suc n) 0) refl) ended

    go : (o : Option ThreadDecl) → slice_get s.threads (suc n - 1) ≡ o → IsProgram s.shape (suc n) came (in_one_list 0 (phases_in o)) (count_of_vars o) now → Spells s came (suc n) now
    go None e x = absurd (thread-there s.threads (suc n - 1) (omega arith) e)
    go (Some decl) e x = thread (omega arith) e x

    numbered : (b : Bool) → eqb (suc n) 0 ≡ b →
        IsProgram s.shape (suc n) came (in_one_list 0 (phases_in (cond b None (slice_get s.threads (suc n - 1))))) (count_of_vars (cond b None (slice_get s.threads (suc n - 1)))) now → Spells s came (suc n) now
    numbered true e x = let same = eqb-true (suc n) 0 e in absurd (omega arith)
    numbered false e x = go (slice_get s.threads (suc n - 1)) refl x

pub ended_steppers_spell : EndedSteppersSpell
ended_steppers_spell script p came t fs now within s e =
    let lines : t.kept.lines ≡ take (room_in script p) (told now) = ap (λ (k : Kept). k.lines) s.counts.lines_are in
    record {
      spelled = threads-spell script p came now within (at-end (work_of script p came) t fs now s e);
      first_lines = lines;
      all_lines = λ few. lines ∙ take_all (room_in script p) (told now) few;
    }

-- ---- between phases

-- a stepper that says that a phase is over stands behind the phases before
between : (w : Work) (t : Thread) (fs : List Frame) (now : List Note) → StandsFor w t fs now → t.asked ≡ moves.PhaseEnd → AreDone w (ops_in_first t.phase w.phases) t.vars now
between w t fs now s e = go t.doing (rw e at s.asks) s.in_phase s.up_to
  where
    go : (d : Doing) → Asks d moves.PhaseEnd → IsInPhase w t.phase t.index d → StepperUpTo w t.index t.vars t.cleared fs t.asked now d → AreDone w (ops_in_first t.phase w.phases) t.vars now
    go Ready a i u = rw i at u.done
    go (Making to name plan) a i u = absurd a
    go (Gaining gain to from plan) a i u = absurd a
    go (Naming to held plan) a i u = absurd a
    go (Opening to cell plan) a i u = absurd a
    go (Closing to cell held plan) a i u = absurd a
    go (Setting from cell plan) a i u = absurd a
    go (Clearing plan) a i u = absurd a
    go (Vacating slot plan) a i u = absurd a
    go (Dropping held plan) a i u = absurd a
    go (Dying c) a i u = absurd a
    go Ended a i u = absurd (cc)

pub ready_steppers_have_done : ReadySteppersHaveDone
ready_steppers_have_done script p came t fs now s e = between (work_of script p came) t fs now s e

-- ---- the notes in a history

tied-read : (causes : Causes) (shape : HeapShape) (layout : Extent) (asked : Option (Step × Intent)) (last : Option ℕ) (p : ℕ) (event : Option Act) (out : Option CameOut) (h : History) (b ns : List Note) →
    Reads shape layout asked last b ns → WordsHold causes shape layout asked last p event out h b → Ties causes shape p b h → Ties causes shape p ns h
tied-read causes shape layout asked last p event out h b ns read_nothing holds t = t
tied-read causes shape layout asked last p event out h b ns (read_name {slot = slot} {w = w} {intent = intent} a n l) holds t = noted t (holds.names slot w intent a n l)
tied-read causes shape layout asked last p event out h b ns (nil_field {slot = slot} {f = f} {of = of} a l n inside) holds t = noted t (holds.nil_fields slot f of a l n inside)
tied-read causes shape layout asked last p event out h b ns (reference {slot = slot} {f = f} {w = w} {of = of} a l r n inside) holds t = noted t (holds.fields slot f w of a l r n inside)

tied-act : (causes : Causes) (shape : HeapShape) (p : ℕ) (event : Option Act) (h : History) (ns : List Note) → Ties causes shape p ns h → Ties causes shape p (with_act event ns) (with_event_of p event h)
tied-act causes shape p None h ns t = t
tied-act causes shape p (Some a) h ns t = own t

tied-found : (causes : Causes) (shape : HeapShape) (layout : Extent) (asked : Option (Step × Intent)) (last : Option ℕ) (p : ℕ) (event : Option Act) (out : Option CameOut) (h : History) (now b ns : List Note) →
    FindsEntry layout asked last event b ns → WordsHold causes shape layout asked last p event out h now → Ties causes shape p b (with_event_of p event h) → Ties causes shape p ns (with_event_of p event h)
tied-found causes shape layout asked last p event out h now b ns found_nothing holds t = t
tied-found causes shape layout asked last p event out h now b ns (found_entry {slot = slot} {w = w} {new = new} {act = act} {intent = intent} {entry = entry} e a n l c) holds t = noted t (holds.entries slot w new act intent entry e a n l c)

tied-said : {causes : Causes} {shape : HeapShape} {p : ℕ} {h : History} {b ns : List Note} → Says b ns → Ties causes shape p b h → Ties causes shape p ns h
tied-said said_nothing t = t
tied-said (line s) t = noted (tied-said s t) tt
tied-said (operation s) t = noted (tied-said s t) tt

tied-referred : (causes : Causes) (shape : HeapShape) (layout : Extent) (asked : Option (Step × Intent)) (last : Option ℕ) (p : ℕ) (event : Option Act) (out : Option CameOut) (h : History) (now b ns : List Note) →
    FindsReference event out b ns → WordsHold causes shape layout asked last p event out h now → Ties causes shape p b h → Ties causes shape p ns h
tied-referred causes shape layout asked last p event out h now b ns refers_nothing holds t = t
tied-referred causes shape layout asked last p event out h now b ns (refers {x = x} o e) holds t = noted t (holds.refers x o e)

pub added_notes_are_tied : AddedNotesAreTied
added_notes_are_tied causes shape layout asked last p event out h now after a holds t =
    let read = tied-read causes shape layout asked last p event out h now a.shows.read a.shows.reads holds t in
    let referred = tied-referred causes shape layout asked last p event out h now a.shows.read a.shows.referred a.shows.refers holds read in
    tied-said a.says
    (tied-found causes shape layout asked last p event out h now (with_act event a.shows.referred) a.found a.shows.finds holds
    (tied-act causes shape p event h a.shows.referred referred))
