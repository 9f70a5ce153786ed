-- Where no thread is inside an access, no cell is accessed, so that a thread that waits for one goes on.
use Rattle.std.proofs.Common.{◌≡◌, ◌≢◌, ℕ, zero, suc, ◌<◌, false, length, List, Some, None, refl, sym, ap, ◌∙◌, subst, arith}
use native.Mathlib.Decide.{ℕ_discrete}
use mathlib.Core.Logic.{dite}
use Rattle.std.specs.Prelude.{slice_get, slice_index}
use Rattle.std.proofs.lemmas.Option.{slice_get_within}
use Rattle.arc_model.specs.declared.event.CellName.{CellName}
use Rattle.arc_model.specs.declared.event.CellName.TheVariants as cells
use Rattle.arc_rule.specs.Places.{IsPlace, extent_of}
use Rattle.arc_cells.specs.Begins.{Beginning}
use Rattle.arc_cells.specs.Swaps.{SwapAttempt}
use Rattle.arc_script.specs.declared.script.Script.{Script}
use Rattle.arc_script.specs.declared.script.Op.{Op}
use Rattle.arc_script.specs.Valid.{IsScript}
use Rattle.arc_served.specs.Served.{IsServed}
use Rattle.arc_ops.specs.Cells.{place_in, cell_number}
use Rattle.arc_ops.specs.Thread.{Thread, stepper_of, is_accessing, in_access}
use Rattle.arc_ops.specs.Steppers.{IsStepper, IsUnderWay as IsAtWork, IsInOperation}
use Rattle.arc_ops.specs.declared.stepper.Doing.{Doing}
use Rattle.arc_ops.specs.declared.stepper.Doing.TheVariants as doings
use Rattle.arc_ops_passes.specs.Drives.{Asks}
use Rattle.arc_replays.specs.Stages.{Stage, Reached, chains_at}
use Rattle.arc_replays.specs.Laws.{IsAtWork as IsWorking}
use Rattle.arc_replays.proofs.Laws.{threads_are_at_work}
use Rattle.arc_replays.proofs.Holds.{reached_holds}
use Rattle.arc_plain.specs.Crews.{Progress, IsAtStage, IsAlone, thread_at}
use Rattle.arc_plain.specs.Left.{FindsFree}
use Rattle.arc_plain.proofs.Places.{there, is_at}
use Rattle.arc_plain.proofs.Cells.{cells_are_shown}

cells_are_free : (script : Script) (n : ℕ) (s : Stage) → IsScript script → IsServed script → Reached script n s → ((p : ℕ) (t : Thread) → slice_get s.threads p ≡ Some t → in_access t ≡ false) →
    (c : CellName) → IsPlace (extent_of script.shape) (place_in c) → slice_index s.words (cell_number (extent_of script.shape) c) ≢ 1
cells_are_free script n s valid served r out c is = cells_are_shown script.shape _ _ s.threads s.words _ (reached_holds script (λ k. None) valid served n s r).replaying out c is

-- thread 0 has no operation, and so no access
first_outside : (n : ℕ) (c : Progress) → IsAtStage n c → (t : Thread) → slice_get c.stage.threads 0 ≡ Some t → in_access t ≡ false
first_outside n c u t at = go t.doing s.in_operation
  where
    s : IsStepper t
    s = subst IsStepper (is_at c 0 t at) (u.steppers 0 (stepper_of c.script 0) (slice_get_within c.stage.threads 0 t at))

    none : length t.program ≡ 0
    none = ap (λ (ops : List Op). length ops) (threads_are_at_work c.script n c.stage 0 t u.script u.served u.reached at).program

    go : (d : Doing) → IsInOperation t d → is_accessing d ≡ false
    go doings.Ready o = refl
    go (doings.Making to name plan) o = refl
    go (doings.Gaining gain to from plan) o = let lt = o.0 in let z = none in absurd (omega arith)
    go (doings.Naming to held plan) o = refl
    go (doings.Opening to cell plan) o = refl
    go (doings.Closing to cell held plan) o = let z = none in absurd (omega arith)
    go (doings.Setting from cell plan) o = refl
    go (doings.Clearing plan) o = refl
    go (doings.Dropping held plan) o = refl
    go (doings.Dying x) o = refl
    go (doings.Vacating slot plan) o = refl
    go doings.Ended o = refl

-- no thread at all is inside an access
all_outside : (n : ℕ) (c : Progress) (p : ℕ) → IsAtStage n c → IsAlone p c → p < length c.stage.threads → in_access (thread_at p c) ≡ false → (q : ℕ) (t : Thread) → slice_get c.stage.threads q ≡ Some t → in_access t ≡ false
all_outside n c p u alone lt out zero t at = first_outside n c u t at
all_outside n c p u alone lt out (suc q) t at = dite (ℕ_discrete (suc q) p)
    (λ e. subst (λ (x : Thread). in_access x ≡ false) (is_at c p t (subst (λ (k : ℕ). slice_get c.stage.threads k ≡ Some t) e at)) out)
    (λ ne. alone (suc q) t (omega arith) ne at)

-- a thread finds that the cell isn't accessed that it waits for, where no other is inside an access
pub finds_free : (n : ℕ) (c : Progress) (p : ℕ) → IsAtStage n c → p < length c.stage.threads → IsAlone p c → FindsFree c.stage.words (thread_at p c).doing
finds_free n c p u lt alone = go (thread_at p c).doing refl work.asks s.under_way s.in_operation
  where
    t : Thread
    t = thread_at p c

    s : IsStepper (thread_at p c)
    s = u.steppers p (stepper_of c.script p) lt

    work : IsWorking c.script p (thread_at p c) (chains_at u.reached p)
    work = threads_are_at_work c.script n c.stage p (thread_at p c) u.script u.served u.reached (there c p lt)

    free : is_accessing (thread_at p c).doing ≡ false → (x : CellName) → IsPlace (thread_at p c).layout (place_in x) → slice_index c.stage.words (cell_number (extent_of c.script.shape) x) ≢ 1
    free out x is = cells_are_free c.script n c.stage u.script u.served u.reached (all_outside n c p u alone lt out) x (subst (λ l. IsPlace l (place_in x)) work.layout is)

    go : (d : Doing) → (thread_at p c).doing ≡ d → Asks c.script.shape (chains_at u.reached p) (thread_at p c) d → IsAtWork (thread_at p c).layout (thread_at p c).shape (length (thread_at p c).vars) d → IsInOperation (thread_at p c) d → FindsFree c.stage.words d
    go doings.Ready e a w o = tt
    go (doings.Making to name plan) e a w o = tt
    go (doings.Gaining gain to from plan) e a w o = tt
    go (doings.Naming to held plan) e a w o = tt
    go (doings.Opening to cell plan) e a w o = λ one. free (ap is_accessing e) cell.name w.1.place (sym (ap (λ (x : Beginning). slice_index c.stage.words x.place) a.0) ∙ one)
    go (doings.Closing to cell held plan) e a w o = tt
    go (doings.Setting from cell plan) e a w o = λ one. free (ap is_accessing e) cell.name w.1.place (sym (ap (λ (x : SwapAttempt). slice_index c.stage.words x.place) a.0) ∙ one)
    go (doings.Clearing plan) e a w o = λ one. free (ap is_accessing e) (cells.Global (thread_at p c).cleared) o (sym (ap (λ (x : SwapAttempt). slice_index c.stage.words x.place) a.0) ∙ one)
    go (doings.Dropping held plan) e a w o = tt
    go (doings.Dying x) e a w o = tt
    go (doings.Vacating slot plan) e a w o = tt
    go doings.Ended e a w o = tt
