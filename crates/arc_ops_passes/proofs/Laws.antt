-- The steps of a stepper that drives a pass, by what the stepper is doing.
use Rattle.std.proofs.Common.{◌≡◌, ◌++◌, Some}
use Rattle.arc_rule.specs.declared.step.Step.{Step}
use Rattle.arc_rule.specs.declared.step.Intent.{Intent}
use Rattle.arc_ops.specs.declared.stepper.Doing.{Doing}
use Rattle.arc_ops.specs.declared.stepper.Doing.TheVariants as doings
use Rattle.arc_ops.specs.declared.stepper.Move.{Move}
use Rattle.arc_ops.specs.declared.stepper.Move.TheVariants as moves
use Rattle.arc_ops.specs.Turns.{turned_at}
use Rattle.arc_spelled.specs.StepperStands.{chain_at, FitsChainAt}
use Rattle.arc_view.specs.Admission.{Admits}
use Rattle.arc_ops_passes.specs.Laws.{StepsAreAllowed, SteppersDriveOn, IsServedWord}
use Rattle.arc_ops_passes.proofs.Goes.{quiet, Facts, ComesUnder, facts, goes_on}
use Rattle.arc_ops_passes.proofs.Makes.{makes_allowed, makes_come}
use Rattle.arc_ops_passes.proofs.Gains.{gains_allowed, gains_come}
use Rattle.arc_ops_passes.proofs.Gets.{opens_allowed, opens_come, closes_allowed, closes_come}
use Rattle.arc_ops_passes.proofs.Sets.{sets_allowed, sets_come, clears_allowed, clears_come}
use Rattle.arc_ops_passes.proofs.Loads.{naming_allowed, naming_comes}
use Rattle.arc_ops_passes.proofs.Vacates.{vacating_allowed, vacating_comes}
use Rattle.arc_ops_passes.proofs.Drops.{drops_allowed, drops_come}
use Rattle.arc_ops_passes.proofs.Dying.{dies_allowed, dies_fit, dies_come}

no_step : {X : Type 0} (m : Move) (step : Step) (intent : Intent) → m ≡ moves.PhaseEnd → m ≡ moves.Step step intent → X
no_step m step intent e asked = absurd (cc)

no_end_step : {X : Type 0} (m : Move) (step : Step) (intent : Intent) → m ≡ moves.Ended → m ≡ moves.Step step intent → X
no_end_step m step intent e asked = absurd (cc)

pub steps_are_allowed : StepsAreAllowed
steps_are_allowed w t v step intent served stepper sized d asked = at t.doing (facts w t v served stepper sized d)
  where
    at : (e : Doing) → Facts w t v e → Admits w.shape v step intent
    at doings.Ready f = no_step t.asked step intent f.asks asked
    at (doings.Making to name plan) f = makes_allowed w t v to name plan step intent f asked
    at (doings.Gaining gain to from plan) f = gains_allowed w t v gain to from plan step intent f asked
    at (doings.Naming to held plan) f = naming_allowed w t v to held plan step intent f asked
    at (doings.Opening to cell plan) f = opens_allowed w t v to cell plan step intent f asked
    at (doings.Closing to cell held plan) f = closes_allowed w t v to cell held plan step intent f asked
    at (doings.Setting from cell plan) f = sets_allowed w t v from cell plan step intent f asked
    at (doings.Clearing plan) f = clears_allowed w t v plan step intent f asked
    at (doings.Dropping held plan) f = drops_allowed w t v held plan step intent f asked
    at (doings.Dying c) f = dies_allowed w t v step intent asked c f
    at (doings.Vacating s plan) f = vacating_allowed w t v s plan step intent f asked
    at doings.Ended f = no_end_step t.asked step intent f.asks.0 asked

pub steppers_drive_on : SteppersDriveOn
unfolding facts
steppers_drive_on w t v step intent found v' served stepper sized left d asked told word =
    goes_on w t v step intent found v' served left d asked told (fits t.doing (facts w t v served stepper sized d)) (at t.doing (facts w t v served stepper sized d) word)
  where
    fits : (e : Doing) (f : Facts w t v e) → FitsChainAt f.chain (Some found) e
    fits doings.Ready f = tt
    fits (doings.Making to name plan) f = tt
    fits (doings.Gaining gain to from plan) f = tt
    fits (doings.Naming to held plan) f = tt
    fits (doings.Opening to cell plan) f = tt
    fits (doings.Closing to cell held plan) f = tt
    fits (doings.Setting from cell plan) f = tt
    fits (doings.Clearing plan) f = tt
    fits (doings.Dropping held plan) f = tt
    fits (doings.Dying c) f = dies_fit w t v step intent asked found v' c f told
    fits (doings.Vacating s plan) f = tt
    fits doings.Ended f = tt

    at : (e : Doing) (f : Facts w t v e) → IsServedWord w.shape step intent found → ComesUnder (chain_at (Some found) f.chain e) w t v step intent found v' (told.between ++ v.seen) e (turned_at (Some found) e (quiet t))
    at doings.Ready f word = no_step t.asked step intent f.asks asked
    at (doings.Making to name plan) f word = makes_come w t v to name plan step intent found v' f asked told
    at (doings.Gaining gain to from plan) f word = gains_come w t v gain to from plan step intent found v' f asked word told
    at (doings.Naming to held plan) f word = naming_comes w t v to held plan step intent found v' f asked told
    at (doings.Opening to cell plan) f word = opens_come w t v to cell plan step intent found v' f asked told
    at (doings.Closing to cell held plan) f word = closes_come w t v to cell held plan step intent found v' f asked told
    at (doings.Setting from cell plan) f word = sets_come w t v from cell plan step intent found v' f asked told
    at (doings.Clearing plan) f word = clears_come w t v plan step intent found v' f asked told
    at (doings.Dropping held plan) f word = drops_come w t v held plan step intent found v' f asked word told
    at (doings.Dying c) f word = dies_come w t v step intent asked left found v' c f word told
    at (doings.Vacating s plan) f word = vacating_comes w t v s plan step intent found v' f asked told
    at doings.Ended f word = no_end_step t.asked step intent f.asks.0 asked
