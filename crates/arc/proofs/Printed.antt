-- What `replay` prints keeps its promises.
use Rattle.std.proofs.Common.{◌≡◌, ℕ, Bool, true, false, List, Option, subst}
use Rattle.std.specs.Io.KnownBytes.{Appends}
use Rattle.arc_script.specs.declared.script.Script.{Script}
use Rattle.arc_script.specs.Valid.{IsScript}
use Rattle.arc_script.proofs.Told.{read_is_script}
use Rattle.arc_served.specs.Served.{IsServed}
use Rattle.arc_quiet.specs.Whole.{StandsLast}
use Rattle.arc_replays.specs.Promises.{DeinitsOnce, LoadsComeBefore, SlotsAreVacated, EntriesAreGivenBack}
use Rattle.arc_plain.specs.declared.replay.Replay.{Replay}
use Rattle.arc_plain.specs.Replays.{IsReplay}
use Rattle.arc_schedule.proofs.Runs.{replays_are_schedule_runs}
use Rattle.arc_command.specs.declared.command.Command.{Command}
use Rattle.arc_command.specs.declared.command.Command.TheVariants as command
use Rattle.arc.specs.Outputs.{IsOutput}
use Rattle.arc.specs.Printed.{Prints, OfHistory, OfShape, IsScheduledReplay, KeepsPhases, HasNoOtherThread, TellsEachDeinit, ClaimsNothing, LeavesNothing}

scheduled : (script : Script) (replay : Replay) → IsScript script → IsServed script → IsReplay script replay → IsScheduledReplay script replay
scheduled script replay valid served r = rw (r.words, r.steps, r.events) (replays_are_schedule_runs script r.last valid served r.run)

module _ (c : Command) (left old new : Option (List ℕ)) where
  prints : (Holds : Script → Replay → Type 0) → ((script : Script) (replay : Replay) → IsScript script → IsServed script → IsReplay script replay → Holds script replay) → (legal : Bool) (out : List ℕ) →
      c ≡ command.Replay → IsOutput c left legal out → Appends old new out → Prints Holds left old new
  prints Holds each true out is output sent =
      let o : IsOutput command.Replay left true out = subst (λ (x : Command). IsOutput x left true out) is output in
      let served = o.2.served in
      record { text = o.0; all = o.1; out = out; tells = o.2; sent = sent; holds = each served.script o.2.tells.replay (read_is_script o.0 served.script served.stands) served.served o.2.tells.of_script }
  prints Holds each false out is output sent = absurd (subst (λ (x : Command). IsOutput x left false out) is output)

  pub prints_schedule : (legal : Bool) (out : List ℕ) → c ≡ command.Replay → IsOutput c left legal out → Appends old new out → Prints IsScheduledReplay left old new
  prints_schedule = prints IsScheduledReplay (λ script replay valid served r. scheduled script replay valid served r)

  pub prints_phases : (legal : Bool) (out : List ℕ) → c ≡ command.Replay → IsOutput c left legal out → Appends old new out → Prints KeepsPhases left old new
  prints_phases = prints KeepsPhases (λ script replay valid served r. r.history.phases)

  pub prints_main_last : (legal : Bool) (out : List ℕ) → c ≡ command.Replay → IsOutput c left legal out → Appends old new out → Prints (OfHistory (StandsLast 0)) left old new
  prints_main_last = prints (OfHistory (StandsLast 0)) (λ script replay valid served r. r.history.last)

  pub prints_no_other : (legal : Bool) (out : List ℕ) → c ≡ command.Replay → IsOutput c left legal out → Appends old new out → Prints HasNoOtherThread left old new
  prints_no_other = prints HasNoOtherThread (λ script replay valid served r. r.history.no_other)

  pub prints_once : (legal : Bool) (out : List ℕ) → c ≡ command.Replay → IsOutput c left legal out → Appends old new out → Prints (OfShape DeinitsOnce) left old new
  prints_once = prints (OfShape DeinitsOnce) (λ script replay valid served r. r.history.once)

  pub prints_deinits : (legal : Bool) (out : List ℕ) → c ≡ command.Replay → IsOutput c left legal out → Appends old new out → Prints TellsEachDeinit left old new
  prints_deinits = prints TellsEachDeinit (λ script replay valid served r. r.history.deinits)

  pub prints_loads : (legal : Bool) (out : List ℕ) → c ≡ command.Replay → IsOutput c left legal out → Appends old new out → Prints (OfShape LoadsComeBefore) left old new
  prints_loads = prints (OfShape LoadsComeBefore) (λ script replay valid served r. r.history.loads)

  pub prints_slots : (legal : Bool) (out : List ℕ) → c ≡ command.Replay → IsOutput c left legal out → Appends old new out → Prints (OfShape SlotsAreVacated) left old new
  prints_slots = prints (OfShape SlotsAreVacated) (λ script replay valid served r. r.history.slots)

  pub prints_entries : (legal : Bool) (out : List ℕ) → c ≡ command.Replay → IsOutput c left legal out → Appends old new out → Prints (OfHistory EntriesAreGivenBack) left old new
  prints_entries = prints (OfHistory EntriesAreGivenBack) (λ script replay valid served r. r.history.entries)

  pub prints_no_claim : (legal : Bool) (out : List ℕ) → c ≡ command.Replay → IsOutput c left legal out → Appends old new out → Prints (OfHistory ClaimsNothing) left old new
  prints_no_claim = prints (OfHistory ClaimsNothing) (λ script replay valid served r. r.history.no_claim)

  pub prints_leaves : (legal : Bool) (out : List ℕ) → c ≡ command.Replay → IsOutput c left legal out → Appends old new out → Prints LeavesNothing left old new
  prints_leaves = prints LeavesNothing (λ script replay valid served r. r.history.leaves)
