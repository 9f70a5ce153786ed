-- The steps of a replay are a schedule run of its script.
use Rattle.std.proofs.Common.{◌≡◌, ℕ, ◌+◌, ◌-◌, ◌<◌, ◌≤◌, false, List, [], length, Some, refl, ap, subst, arith, append-nil}
use Rattle.std.proofs.lemmas.Option.{slice_get_within}
use Rattle.std.proofs.lemmas.List.Elements.{All-from_recursion}
use Rattle.std.specs.Prelude.{slice_get, reverse}
use Rattle.arc_rule.specs.Places.{extent_of}
use Rattle.arc_script.specs.declared.script.Script.{Script}
use Rattle.arc_ops.specs.declared.stepper.Move.TheVariants as moves
use Rattle.arc_ops.specs.Thread.{Thread}
use Rattle.arc_replays.specs.Stages.{Stage, has_step, is_step, chains_at}
use Rattle.arc_schedule.specs.Made.{Made, own}
use Rattle.arc_schedule.specs.Threads.{point_of, PhasesDone, IsThread, ScopeEnds, GlobalsCleared}
use Rattle.arc_schedule.specs.Threads.PhasesDone.{one as phases_one}
use Rattle.arc_schedule.specs.Orders.{InOrder}
use Rattle.arc_schedule.specs.Law.{ReplaysAreScheduleRuns}
use Rattle.arc_schedule.proofs.Stands.{Task, IsWhole}
use Rattle.arc_schedule.proofs.Ahead.{IsAhead, ends-order}
use Rattle.arc_schedule.proofs.First.{all-cleared}
use Rattle.arc_schedule.proofs.Opening.{globals-are-many}
use Rattle.arc_schedule.proofs.Lists.{there-is}
use Rattle.arc_schedule.proofs.Asks.{whole}
use Rattle.arc_schedule.proofs.Stages.{task_of}
use Rattle.arc_schedule.proofs.Follows.{follows}

-- the whole of a thread's steps
is-thread : (k : Task) (ms : List Made) → IsWhole k ms → IsThread k.shape k.thread k.decl ms
is-thread k ms w =
    let last : w.job.phase + 1 ≡ length k.decl.phases = w.last in
    let phase : w.job.phase ≡ length k.decl.phases - 1 = omega arith in
    let done : PhasesDone k.shape k.thread k.decl (w.job.phase + 1) w.behind w.worked = phases_one w.job.before w.job.there w.ops in
    record {
      behind = w.behind;
      worked = w.worked;
      came = w.came;
      phases = subst (λ (n : ℕ). PhasesDone k.shape k.thread k.decl n w.behind w.worked) last done;
      scope = subst (λ (n : ℕ). ScopeEnds k.shape (point_of k.thread n 0) w.behind.vars w.behind.hands w.worked (length w.behind.vars) w.came ms) phase w.scope;
    }

-- nothing is to come behind the end
nothing-ahead : (script : Script) (s : Stage) (ms : List Made) → ((p : ℕ) (t : Thread) → slice_get s.threads p ≡ Some t → t.asked ≡ moves.Ended) → IsAhead script 0 s ms []
nothing-ahead script s ms ended = record {
  later = tt;
  none = λ p t first there has begun. refl;
  some = λ p t first there has e. (let f : has_step t ≡ false = ap is_step (ended p t there) in absurd (cc));
  last = λ t there waits. tt;
  order = ends-order (extent_of script.shape) (length script.threads) (s.begun - 1) s.threads s.places ms [] tt;
}

pub replays_are_schedule_runs : ReplaysAreScheduleRuns
replays_are_schedule_runs script last valid served r =
    let f = follows script valid served some r.reached in
    record {
      made = f.ms;
      run = record {
        goes = f.goes;
        threads = λ i decl there. (
            let within = slice_get_within script.threads i decl there in
            let many = f.many in
            let t = there-is last.threads (i + 1) (omega arith) in
            is-thread (task_of script some i decl) (own (i + 1) f.ms) (whole (task_of script some i decl) last.begun t.0 (own (i + 1) f.ms) (f.stand i decl t.0 there t.1) (r.ended (i + 1) t.0 t.1)));
        end_section = (
            let t = there-is last.threads 0 (let many = f.many in omega arith) in
            let x = all-cleared script.shape (chains_at r.reached 0) t.0 (own 0 f.ms) (f.first t.0 t.1) (r.ended 0 t.0 t.1) in
            record { hands = x.0; cleared = subst (λ (n : ℕ). GlobalsCleared script.shape n x.0 (own 0 f.ms)) (globals-are-many script valid) x.1 });
        no_other = All-from_recursion (λ m. m.point.thread ≤ length script.threads) f.ms f.threads_in;
        order = subst (λ (xs : List Made). InOrder (extent_of script.shape) (length script.threads) 0 script.schedule [] xs) (append-nil (reverse f.ms)) (f.order [] (nothing-ahead script last f.ms r.ended));
      };
      count = f.count;
      events_are = f.events_are;
    }
  where
    some : 0 < script.shape.slots
    some = let h = valid.heading.slots.0 in omega arith
