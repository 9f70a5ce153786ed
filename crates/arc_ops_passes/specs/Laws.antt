-- The laws of a stepper that drives a pass.
use Rattle.std.specs.Prelude.{ℕ, false, ◌≡◌, ◌<◌, ◌≤◌, List, [], length, All, Option, Some, None, ⊤}
use Rattle.arc_model.specs.History.{History, share, IsLegal}
use Rattle.arc_rule.specs.Places.{extent_of, number}
use Rattle.arc_rule.specs.declared.layout.Place.TheVariants.{Count}
use Rattle.arc_rule.specs.declared.step.Step.{Step}
use Rattle.arc_bits.specs.declared.packing.Word.{Word}
use Rattle.arc_bits.specs.declared.packing.Word.TheVariants.{Counts, Immortal}
use Rattle.arc_bits.specs.Words.{unpacked}
use Rattle.arc_rule.specs.declared.step.Step.TheVariants.{Load}
use Rattle.arc_rule.specs.declared.step.Intent.{Intent}
use Rattle.arc_rule.specs.declared.step.Intent.TheVariants as intents
use Rattle.arc_programs.specs.Programs.{Hands, OpsDone}
use Rattle.arc_programs.specs.ProgramsTied.{hands_in}
use Rattle.arc_script.specs.declared.script.Script.{Script}
use Rattle.arc_script.specs.Valid.{IsScript}
use Rattle.arc_served.specs.Served.{IsServed}
use Rattle.arc_served.specs.Programs.{VarsFit, phases_of, program_of, ops_in_first, vars_of}
use Rattle.arc_ops.specs.declared.stepper.Move.TheVariants as moves
use Rattle.arc_ops.specs.Thread.{Thread, stepper_of, in_access}
use Rattle.arc_ops.specs.Turns.{turned}
use Rattle.arc_ops.specs.Takes.{takes, HasHandLeft, IsInline}
use Rattle.arc_ops.specs.Steppers.{IsStepper}
use Rattle.arc_spelled.specs.Came.{Extends}
use Rattle.arc_cells.specs.Chains.{Frame}
use Rattle.arc_spelled.specs.StepperStands.{Work, IsServedWork, variables, chain_after, FitsChain}
use Rattle.arc_spelled.specs.Spelled.{work_of}
use Rattle.arc_view.specs.declared.view.Role.TheVariants.{Pass}
use Rattle.arc_view.specs.declared.view.View.{View}
use Rattle.arc_view.specs.Views.{idle}
use Rattle.arc_view.specs.Rule.{InShape, IsSized}
use Rattle.arc_view.specs.Kinds.{act_of}
use Rattle.arc_view.specs.Admission.{Admits}
use Rattle.arc_view.specs.Steps.{Told}
use Rattle.arc_view.specs.Passes.{HoldsNothing}
use Rattle.arc_view.specs.Calls.{Called, Took}
use Rattle.arc_ops.specs.declared.stepper.Doing.TheVariants.{Ready}
use Rattle.arc_model.specs.Shapes.{CapNumbers, HeapShape}
use Rattle.arc_spelling.specs.Spelling.{Note}
use Rattle.arc_spelling.specs.SpellingTies.{Ties}
use Rattle.arc_spelling.specs.SpellingTies.Causes.{Judged}
use Rattle.arc_ops_passes.specs.Drives.{Drives, IsChain}

-- a pass that has made nothing yet
pub record IsNewPass (p : ℕ) (w : Work) (v : View) : Type 0 where
  pub pass : v.role ≡ Pass
  pub number : v.number ≡ p
  pub legal : IsLegal w.shape v.seen
  pub in_shape : InShape w.shape v.seen
  pub unused : share v.seen p ≡ []
  pub working : v.working ≡ idle

-- A new stepper drives a new pass.
abbrev pub NewSteppersDrive : Type 0
NewSteppersDrive = (script : Script) (p : ℕ) (came : Hands) (v : View) → IsNewPass p (work_of script p came) v → Drives (work_of script p came) (stepper_of script p) v

-- the operations name variables that there are
abbrev pub NamesVariables : Work → Type 0
NamesVariables w = All (VarsFit w.count) w.program

-- Those of a thread of a script do.
abbrev pub ScriptsNameVariables : Type 0
ScriptsNameVariables = (script : Script) (p : ℕ) (came : Hands) → IsScript script → IsServed script → p ≤ length script.threads → NamesVariables (work_of script p came)

-- It goes on where its next phase begins, and no object dies yet.
pub record PhaseBegun (w : Work) (t : Thread) (v : View) : Type 0 where
  pub takes_it : takes t None
  pub drives : Drives w (turned t None) v
  pub no_chain : (meant : List Frame) → IsChain (turned t None).doing drives.chain meant
  pub event : (turned t None).event ≡ None

-- Where it asks for nothing in a phase, it goes on when the next phase begins, while there are numbers of hands left.
abbrev pub PhasesBegin : Type 0
PhasesBegin = (w : Work) (t : Thread) (v : View) → IsServedWork w → NamesVariables w → HasHandLeft t → Drives w t v → t.asked ≡ moves.PhaseEnd → PhaseBegun w t v

-- What the pass did is what the thread has in the phases before the one that its stepper waits for, no less and no more.
pub record HasDonePhases (script : Script) (p : ℕ) (t : Thread) (h : History) : Type 0 where
  pub notes : List Note
  pub tied : Ties Judged script.shape p notes h
  pub done : OpsDone script.shape p (hands_in p h) (program_of script p) (vars_of script p) (ops_in_first t.phase (phases_of script p)) (variables t.vars) notes

abbrev pub PhasesAreDone : Type 0
PhasesAreDone = (script : Script) (p : ℕ) (came : Hands) (t : Thread) (v : View) → Drives (work_of script p came) t v → t.asked ≡ moves.PhaseEnd → HasDonePhases script p t v.seen

-- The pass may make the step that its stepper asks for.
abbrev pub StepsAreAllowed : Type 0
StepsAreAllowed = (w : Work) (t : Thread) (v : View) (step : Step) (intent : Intent) → IsServedWork w → IsStepper t → IsSized w.shape → Drives w t v → t.asked ≡ moves.Step step intent →
    Admits w.shape v step intent

-- counts below both caps, or the word of an immortal object
abbrev pub IsBelowCaps : CapNumbers → Option Word → Type 0
IsBelowCaps caps (Some (Counts c)) = (c.strong_extra < caps.strong) × (c.unowned < caps.unowned)
IsBelowCaps caps (Some Immortal) = ⊤
IsBelowCaps caps _ = ⊥

-- So far a count that is read lies in the inline word, and is below both caps, or says that the object is immortal, where a reference is to be gained.
abbrev pub IsServedWord : HeapShape → Step → Intent → ℕ → Type 0
IsServedWord shape (Load place) (intents.Copy from) found = IsBelowCaps shape.caps (unpacked found)
IsServedWord shape (Load place) (intents.UnownedOf of) found = IsBelowCaps shape.caps (unpacked found)
IsServedWord shape (Load place) (intents.Load of) found = IsBelowCaps shape.caps (unpacked found)
IsServedWord shape (Load place) (intents.Drop hand) found = IsInline (unpacked found)
IsServedWord shape (Load place) (intents.Deinit slot) found = place ≡ number (extent_of shape) (Count slot) → IsInline (unpacked found)
IsServedWord shape step intent found = ⊤

-- What the stepper may be given, what it is then, and its event: what the step found, which shows the chain of the deinits that wait, what still
-- drives the pass, under the chain that the stepper makes of it, and the act that the pass made.
pub record GoesOn (chain : List Frame) (w : Work) (t : Thread) (v : View) (step : Step) (intent : Intent) (found : ℕ) (v' : View) : Type 0 where
  pub takes_it : takes t (Some found)
  pub fits : FitsChain t chain (Some found)
  pub drives : Drives w (turned t (Some found)) v'
  pub under : drives.chain ≡ chain_after t (Some found) chain
  pub event : (turned t (Some found)).event ≡ act_of w.shape v step intent found

abbrev pub SteppersDriveOn : Type 0
SteppersDriveOn = (w : Work) (t : Thread) (v : View) (step : Step) (intent : Intent) (found : ℕ) (v' : View) → IsServedWork w → IsStepper t → IsSized w.shape → HasHandLeft t → (d : Drives w t v) → t.asked ≡ moves.Step step intent →
    Told w.shape intent step v found v' → IsServedWord w.shape step intent found → GoesOn d.chain w t v step intent found v'

-- A pass accesses no cell while its stepper is outside all accesses.
abbrev pub OutsideIsNoAccess : Type 0
OutsideIsNoAccess = (w : Work) (t : Thread) (v : View) → Drives w t v → in_access t ≡ false → v.working.access ≡ None

-- A stepper that has ended leaves its pass with nothing.
abbrev pub EndedSteppersHoldNothing : Type 0
EndedSteppersHoldNothing = (w : Work) (t : Thread) (v : View) → Drives w t v → t.asked ≡ moves.Ended → HoldsNothing v

-- A stepper that has not begun a phase drives its pass on where that takes in what others had seen.
abbrev pub SteppersMeet : Type 0
SteppersMeet = (w : Work) (t : Thread) (v v' : View) (n : ℕ) → Drives w t v → t.doing ≡ Ready → Called w.shape [] n v v' → v'.working ≡ v.working → Drives w t v'

-- The notes of a pass that another takes in are its own in what that has seen then.
abbrev pub NotesAreTakenIn : Type 0
NotesAreTakenIn = (shape : HeapShape) (p : ℕ) (notes : List Note) (v u v' : View) → Ties Judged shape p notes u.seen → u.number ≡ p → Took shape v u v' → Ties Judged shape p notes v'.seen

-- It knows then what the pass's hands referred to when they came.
abbrev pub HandsAreTakenIn : Type 0
HandsAreTakenIn = (shape : HeapShape) (p : ℕ) (v u v' : View) → u.number ≡ p → Took shape v u v' → Extends (hands_in p u.seen) (hands_in p v'.seen)
