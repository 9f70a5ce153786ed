-- Each word that a stepper may be given keeps what it stands for.
use Rattle.std.proofs.Common.{◌≡◌, ℕ, ◌+◌, List, take, drop, Option, None, refl, ap, ◌∙◌, arith}
use Rattle.arc_spelling.specs.Spelling.{Note}
use Rattle.arc_side.specs.Ups.{up_place}
use Rattle.arc_cells.specs.Chains.{Frame}
use Rattle.arc_script.specs.declared.script.Op.{Op}
use Rattle.arc_programs.specs.Programs.{Hands}
use Rattle.arc_programs.specs.ProgramsLines.{number_of}
use Rattle.arc_served.specs.Programs.{ops_in_first}
use Rattle.arc_served.proofs.Counts.{first_more}
use Rattle.arc_ops.specs.declared.stepper.Doing.{Doing}
use Rattle.arc_ops.specs.declared.stepper.Doing.TheVariants.{Ready, Making, Gaining, Naming, Opening, Closing, Setting, Clearing, Dropping, Dying, Vacating, Ended}
use Rattle.arc_ops.specs.Thread.{Thread, is_busy}
use Rattle.arc_ops.specs.Turns.{turned_at, turned}
use Rattle.arc_ops.specs.Takes.{takes_at, takes}
use Rattle.arc_spelled.specs.Came.{Extends, came_out_at, came_out, KnowsWhatComes, knowing}
use Rattle.arc_spelled.specs.StepperStands.{Work, IsServedWork, StepperUpTo, number_at, IsNumberedIf, IsOfPhase, IsInPhase, StandsFor, chain_at, chain_after, FitsChainAt, FitsChain, StepperGoesOn}
use Rattle.arc_spelled.proofs.StepperSteps.{acts-added}
use Rattle.arc_spelled.proofs.Begins.{begins}
use Rattle.arc_spelled.proofs.Turning.{IsAtWork, given, TurnsUnder, plainly}
use Rattle.arc_spelled.proofs.MoreKnown.{more_is_known}
use Rattle.arc_spelled.proofs.Makes.{makes}
use Rattle.arc_spelled.proofs.Gains.{gains-on, names}
use Rattle.arc_spelled.proofs.Gets.{opens-on, closes-on}
use Rattle.arc_spelled.proofs.Sets.{sets-on, clears-on}
use Rattle.arc_spelled.proofs.Drops.{drops, vacates}
use Rattle.arc_spelled.proofs.Deinits.{dies-on}

-- Each word that a stepper may be given keeps what it stands for.
turns : (w : Work) → IsServedWork w → (t : Thread) (last : Option ℕ) (fs : List Frame) (now : List Note) → StandsFor w t fs now → takes t last → FitsChain t fs last → KnowsWhatComes w.came t last → TurnsUnder w t (turned t last) last (chain_after t last fs) now
turns w served t last fs now s may fits knows = go t.doing s.up_to s.number s.in_phase may.0 fits refl
  where
    at_work : number_of now ≡ number_at w t.index → IsOfPhase w t.phase t.index → IsAtWork w t now
    at_work number phase = record { works = s.works; counts = s.counts; number = number; phase = phase }

    go : (d : Doing) → StepperUpTo w t.index t.vars t.cleared fs t.asked now d → IsNumberedIf (is_busy d) w t.index now → IsInPhase w t.phase t.index d → takes_at t.shape last d → FitsChainAt fs last d → came_out_at t last d ≡ came_out t last →
        TurnsUnder w t (turned_at last d (given t)) last (chain_at last fs d) now
    go Ready u number phase may fits out = plainly w t _ last now None
        (begins w served t.index (drop t.index (take (ops_in_first (t.phase + 1) t.phases) t.program)) (given t) now s.works s.counts
        (ap (λ ps. drop t.index (take (ops_in_first (t.phase + 1) ps) t.program)) s.works.phases_is ∙ ap (λ (p : List Op). drop t.index (take (ops_in_first (t.phase + 1) w.phases) p)) s.works.program_is)
        (omega arith) (rw phase (first_more t.phase w.phases)) u.done u.uncleared)
    go (Making to name plan) u number phase may fits out = makes w served t last now (at_work number phase) to name plan plan.at u
    go (Gaining gain to from plan) u number phase may fits out = gains-on w served t last now (at_work number phase) knows gain to from plan plan.entry plan.list (up_place plan) plan.at u may.0 may.1 out
    go (Naming to held plan) u number phase may fits out = names w served t last now (at_work number phase) to held plan plan.at u.waits u may.1
    go (Opening to cell plan) u number phase may fits out = opens-on w served t last now (at_work number phase) to cell plan plan.at u may.0
    go (Closing to cell held plan) u number phase may fits out = closes-on w served t last now (at_work number phase) to cell held plan plan.at u may
    go (Setting from cell plan) u number phase may fits out = sets-on w served t last now (at_work number phase) knows from cell plan plan.at u may.0 out
    go (Clearing plan) u number phase may fits out = clears-on w served t last now (at_work number phase) knows plan plan.at u may.0 out
    go (Dropping held plan) u number phase may fits out = drops w served t last now (at_work number phase) held plan u plan.entry plan.list plan.at u.releasing.awaits may.0 may.1
    go (Dying c) u number phase may fits out = dies-on w served t last fs now (at_work number phase) c u fits may
    go (Vacating slot plan) u number phase may fits out = vacates w served t last now (at_work number phase) slot plan plan.at u may
    go Ended u number phase may fits out = absurd may

pub served-too : (w : Work) (more : Hands) → IsServedWork w → IsServedWork (knowing more w)
served-too w more s = record {
  whole = s.whole;
  blocks = s.blocks;
  ops = s.ops;
  kinds = s.kinds;
  kinds_fit = s.kinds_fit;
  classes_fit = s.classes_fit;
  globals = s.globals;
  cells_fit = s.cells_fit;
  served_classes = s.served_classes;
  clearing = s.clearing;
}

-- where what this turn brings out of a cell is known
pub stepper_goes_on : (w : Work) → IsServedWork w → (more : Hands) (t : Thread) (fs : List Frame) (last : Option ℕ) (now : List Note) → StandsFor w t fs now → takes t last → FitsChain t fs last → Extends w.came more → KnowsWhatComes more t last →
    StepperGoesOn (knowing more w) t fs last now
stepper_goes_on w served more t fs last now s may fits extends knows =
    let r = turns (knowing more w) (served-too w more served) t last fs now (more_is_known w more t fs now s extends) may fits knows in
    record { after = r.after; adds = r.adds; events = acts-added (turned t last).event r.adds; stands = r.stands }
