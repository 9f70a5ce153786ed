-- The phases of a replay: each begins for all threads that wait, and ends for one thread after the other.
use Rattle.std.proofs.Common.{◌≡◌, ◌≢◌, ℕ, zero, suc, ◌+◌, ◌-◌, ◌*◌, ◌≤◌, ◌<◌, ◌^◌, Bool, true, false, cond, List, [], ◌∷◌, length, map, get_or, set, Some, None, refl, ap, ◌∙◌, sym, subst, arith}
use native.Mathlib.Decide.{ℕ_discrete}
use mathlib.Core.Logic.{dite}
use Rattle.std.specs.Prelude.{All, slice_get, slice_set}
use Rattle.std.proofs.lemmas.List.{length-set}
use Rattle.std.proofs.lemmas.Option.{slice_get_within}
use Rattle.arc_script.specs.declared.script.Script.{Script}
use Rattle.arc_script.specs.Valid.{IsScript}
use Rattle.arc_script.specs.declared.script.Op.{Op}
use Rattle.arc_served.specs.Served.{IsServed}
use Rattle.arc_ops.specs.declared.stepper.Move.TheVariants as moves
use Rattle.arc_ops.specs.Thread.{Thread, stepper_of, in_access}
use Rattle.arc_ops.specs.Turns.{turned}
use Rattle.arc_ops.specs.Takes.{takes}
use Rattle.arc_ops.specs.Steppers.{IsStepper}
use Rattle.arc_replays.specs.Stages.{Stage, Reached, IsSome, IsNone, IsNoneBelow, has_step, is_phase_end, awaits_phase, begun_thread, begun_threads, first_stage, new_threads}
use Rattle.arc_replays.specs.Stages.Reached.{new, begins, last}
use Rattle.arc_plain.specs.Crews.{Progress, IsUnderWay, IsInPhases, IsAlone, AreFollowed, MayEnd, MayGoOn, AccessEnded, AccessesEnded, ThreadFinished, PlacesFollowed, PhaseFinished, PhasesDone, IsDone, thread_at, thread_begun, phase_begun}
use Rattle.arc_replays.proofs.Laws.{stages_are_whole, phases_may_begin}
use Rattle.arc_plain.proofs.Keeps.{phases_left}
use Rattle.arc_plain.proofs.Keeps.{waits, ended, turns, new_is, all_keep}
use Rattle.arc_plain.proofs.Turns.{new_steppers}
use Rattle.arc_plain.proofs.Alone.{came_to, idle_outside}
use Rattle.arc_plain.proofs.Lists.{set_there, set_apart}
use Rattle.arc_plain.proofs.Places.{there, is_at}

pub threads_long : (c : Progress) → IsUnderWay c → length c.stage.threads ≡ length c.script.threads + 1
threads_long c u = (stages_are_whole c.script 0 c.stage u.script u.served u.reached).threads

-- ---- the accesses end

-- another thread is as it was, and this one passes no test
one_passes_not : (test : Thread → Bool) (n m : ℕ) (c c' : Progress) → ((q : ℕ) → q ≢ n → slice_get c'.stage.threads q ≡ slice_get c.stage.threads q) → test (thread_at n c') ≡ false → m ≤ n + 1 → IsNoneBelow n test c.stage.threads → IsNoneBelow m test c'.stage.threads
one_passes_not test n m c c' others out le below p x p1 lt at = dite (ℕ_discrete p n)
    (λ e. subst (λ (y : Thread). test y ≡ false) (is_at c' n x (subst (λ (k : ℕ). slice_get c'.stage.threads k ≡ Some x) e at)) out)
    (λ ne. below p x p1 (omega arith) (sym (others p ne) ∙ at))

still_waits : (n : ℕ) (c c' : Progress) → 1 ≤ n → 0 < length c.stage.threads → ((q : ℕ) → q ≢ n → slice_get c'.stage.threads q ≡ slice_get c.stage.threads q) → awaits_phase (thread_at 0 c) ≡ true → awaits_phase (thread_at 0 c') ≡ true
still_waits n c c' n1 some others waits = rw (is_at c' 0 (thread_at 0 c) (others 0 (λ e. omega arith) ∙ there c 0 some)) waits

as_long : (c c' before : Progress) → IsUnderWay c → IsUnderWay c' → c'.script ≡ c.script → length c.stage.threads ≡ length before.stage.threads → length c'.stage.threads ≡ length before.stage.threads
as_long c c' before u u' script long = threads_long c' u' ∙ (ap (λ (s : Script). length s.threads + 1) script ∙ (sym (threads_long c u) ∙ long))

-- the threads below this one are outside
pub record Leaving (n : ℕ) (before c : Progress) : Type 0 where
  pub in_phases : IsInPhases c
  pub script : c.script ≡ before.script
  pub begun : c.stage.begun ≡ before.stage.begun
  pub places : c.stage.places ≡ before.stage.places
  pub long : length c.stage.threads ≡ length before.stage.threads
  pub followed : AreFollowed c
  pub outside : IsNoneBelow n in_access c.stage.threads
  pub bound : c.stage.steps ≤ before.stage.steps + (n - 1) * 2 ^ 40

pub leaving_first : (c : Progress) → IsInPhases c → AreFollowed c → Leaving 1 c c
leaving_first c i f = record { in_phases = i; script = refl; begun = refl; places = refl; long = refl; followed = f; outside = λ p t p1 lt at. absurd (omega arith); bound = omega arith }

-- a thread inside an access has a step, so that no place is left
pub leaving_may : (n : ℕ) (before c : Progress) → 1 ≤ n → n < length c.stage.threads → Leaving n before c → in_access (thread_at n c) ≡ true → MayEnd n c
leaving_may n before c n1 lt f within = record {
  other = n1;
  followed = f.followed (record { place = n; thread = thread_at n c; other = n1; there = there c n lt; passes = steps (has_step (thread_at n c)) refl });
  below = f.outside;
  inside = within;
}
  where
    steps : (b : Bool) → has_step (thread_at n c) ≡ b → has_step (thread_at n c) ≡ true
    steps true e = e
    steps false e = absurd (let out = idle_outside 0 c n f.in_phases.under_way lt e in cc)

pub leaving_on : (n : ℕ) (before c c' : Progress) → 1 ≤ n → n < length c.stage.threads → Leaving n before c → AccessEnded n c c' → Leaving (n + 1) before c'
leaving_on n before c c' n1 lt f t =
    let bound = f.bound in
    let steps = t.came.steps in
    let long : length c'.stage.places ≡ length c.stage.places = ap (λ (ps : List ℕ). length ps) t.places in
    record {
      in_phases = record { under_way = t.under_way; first_waits = still_waits n c c' n1 (omega arith) t.others f.in_phases.first_waits };
      script = t.came.script ∙ f.script;
      begun = t.came.begun ∙ f.begun;
      places = t.places ∙ f.places;
      long = as_long c c' before f.in_phases.under_way t.under_way t.came.script f.long;
      followed = t.followed f.followed;
      outside = one_passes_not in_access n (n + 1) c c' t.others t.outside (omega arith) f.outside;
      bound = omega arith;
    }

pub leaving_last : (n : ℕ) (before c : Progress) → n ≤ 65 → length c.stage.threads ≤ n → Leaving n before c → AccessesEnded before c
leaving_last n before c few all f =
    let bound = f.bound in
    let long : length c.stage.places ≡ length before.stage.places = ap (λ (ps : List ℕ). length ps) f.places in
    record {
      in_phases = f.in_phases;
      came = record { script = f.script; begun = f.begun; steps = omega arith };
      places = f.places;
      long = f.long;
      followed = f.followed;
      outside = λ p t p1 at. let lt = slice_get_within c.stage.threads p t at in f.outside p t p1 (omega arith) at;
    }

-- ---- the phase ends

-- the threads below this one have come to its end
pub record Finishing (n : ℕ) (before c : Progress) : Type 0 where
  pub in_phases : IsInPhases c
  pub script : c.script ≡ before.script
  pub begun : c.stage.begun ≡ before.stage.begun
  pub places : c.stage.places ≡ before.stage.places
  pub long : length c.stage.threads ≡ length before.stage.threads
  pub followed : AreFollowed c
  pub outside : IsNone in_access c.stage.threads
  pub none : IsNoneBelow n has_step c.stage.threads
  pub bound : c.stage.steps ≤ before.stage.steps + 2 ^ 46 + (n - 1) * 2 ^ 40

pub finishing_first : (before c : Progress) → AccessesEnded before c → Finishing 1 before c
finishing_first before c f =
    let steps = f.came.steps in
    let same : length c.stage.places ≡ length before.stage.places = ap (λ (ps : List ℕ). length ps) f.places in record {
      in_phases = f.in_phases;
      script = f.came.script;
      begun = f.came.begun;
      places = f.places;
      long = f.long;
      followed = f.followed;
      outside = f.outside;
      none = λ p t p1 lt at. absurd (omega arith);
      bound = omega arith;
    }

pub finishing_may : (n : ℕ) (before c : Progress) → Finishing n before c → n < length c.stage.threads → MayGoOn n c
finishing_may n before c f lt = λ has p1. (f.followed (record { place = n; thread = thread_at n c; other = p1; there = there c n lt; passes = has }), f.none)

pub finishing_alone : (n : ℕ) (before c : Progress) → Finishing n before c → IsAlone n c
finishing_alone n before c f = λ p t p1 ne at. f.outside p t p1 at

pub finishing_on : (n : ℕ) (before c c' : Progress) → 1 ≤ n → n < length c.stage.threads → Finishing n before c → ThreadFinished n c c' → Finishing (n + 1) before c'
finishing_on n before c c' n1 lt f t =
    let bound = f.bound in
    let steps = t.came.steps in
    let long : length c'.stage.places ≡ length c.stage.places = ap (λ (ps : List ℕ). length ps) t.places in
    let same = as_long c c' before f.in_phases.under_way t.under_way t.came.script f.long in
    let was = f.long in
    record {
      in_phases = record { under_way = t.under_way; first_waits = still_waits n c c' n1 (omega arith) t.others f.in_phases.first_waits };
      script = t.came.script ∙ f.script;
      begun = t.came.begun ∙ f.begun;
      places = t.places ∙ f.places;
      long = same;
      followed = λ some. dite (ℕ_discrete some.place n)
          (λ e. absurd (let h : has_step some.thread ≡ false = ap (λ (x : Thread). has_step x) (sym (is_at c' n some.thread (subst (λ (k : ℕ). slice_get c'.stage.threads k ≡ Some some.thread) e some.there))) ∙ t.done in let k = some.passes in cc))
          (λ ne. t.places ∙ f.followed (record { place = some.place; thread = some.thread; other = some.other; there = sym (t.others some.place ne) ∙ some.there; passes = some.passes }));
      outside = λ p x p1 at. dite (ℕ_discrete p n)
          (λ e. subst (λ (y : Thread). in_access y ≡ false) (is_at c' n x (subst (λ (k : ℕ). slice_get c'.stage.threads k ≡ Some x) e at)) (idle_outside 0 c' n t.under_way (omega arith) t.done))
          (λ ne. f.outside p x p1 (sym (t.others p ne) ∙ at));
      none = one_passes_not has_step n (n + 1) c c' t.others t.done (omega arith) f.none;
      bound = omega arith;
    }

pub finishing_last : (n : ℕ) (before c : Progress) → n ≤ 65 → length c.stage.threads ≤ n → Finishing n before c → PhaseFinished before c
finishing_last n before c few all f =
    let bound = f.bound in
    let long : length c.stage.places ≡ length before.stage.places = ap (λ (ps : List ℕ). length ps) f.places in
    record {
      in_phases = f.in_phases;
      came = record { script = f.script; begun = f.begun; steps = omega arith };
      none = λ p t p1 at. let lt = slice_get_within c.stage.threads p t at in f.none p t p1 (omega arith) at;
    }

-- ---- a phase begins

-- the threads below this one have begun it
pub record Beginning (n : ℕ) (before c : Progress) : Type 0 where
  pub c_is : c ≡ record { script = before.script; stage = record before.stage { threads = c.stage.threads } }
  pub long : length c.stage.threads ≡ length before.stage.threads
  pub first : slice_get c.stage.threads 0 ≡ slice_get before.stage.threads 0
  pub done : (q : ℕ) (t : Thread) → 1 ≤ q → q < n → slice_get before.stage.threads q ≡ Some t → slice_get c.stage.threads q ≡ Some (begun_thread t)
  pub rest : (q : ℕ) → n ≤ q → slice_get c.stage.threads q ≡ slice_get before.stage.threads q

pub beginning_first : (c : Progress) → Beginning 1 c c
beginning_first c = record { c_is = refl; long = refl; first = refl; done = λ q t q1 lt at. absurd (omega arith); rest = λ q le. refl }

pub beginning_takes : (n : ℕ) (before c : Progress) → IsUnderWay before → n < length c.stage.threads → Beginning n before c → awaits_phase (thread_at n c) ≡ true → takes (thread_at n c) None
beginning_takes n before c u lt b h = phases_may_begin before.script 0 before.stage n (thread_at n c) u.script u.served u.reached (sym (b.rest n (omega arith)) ∙ there c n lt) (waits (thread_at n c).asked h)

pub beginning_on : (n : ℕ) (before c c' : Progress) → 1 ≤ n → n < length c.stage.threads → Beginning n before c → c' ≡ thread_begun n c → Beginning (n + 1) before c'
beginning_on n before c c' n1 lt b is = rw is (record {
  c_is = ap (λ (x : Progress). thread_begun_as n c x) b.c_is;
  long = length-set c.stage.threads n (begun_thread (thread_at n c)) ∙ b.long;
  first = set_apart c.stage.threads n 0 (begun_thread (thread_at n c)) (λ e. omega arith) ∙ b.first;
  done = λ q t q1 below at. dite (ℕ_discrete q n)
      (λ e.
      let same : thread_at n c ≡ t = is_at c n t (b.rest n (omega arith) ∙ subst (λ (k : ℕ). slice_get before.stage.threads k ≡ Some t) e at) in
      subst (λ (k : ℕ). slice_get (set c.stage.threads n (begun_thread (thread_at n c))) k ≡ Some (begun_thread t)) (sym e) (set_there c.stage.threads n (begun_thread (thread_at n c)) lt ∙ ap (λ (x : Thread). Some (begun_thread x)) same))
      (λ ne. set_apart c.stage.threads n q (begun_thread (thread_at n c)) ne ∙ b.done q t q1 (omega arith) at);
  rest = λ q le. set_apart c.stage.threads n q (begun_thread (thread_at n c)) (λ e. omega arith) ∙ b.rest q (omega arith);
})
  where
    thread_begun_as : ℕ → Progress → Progress → Progress
    thread_begun_as n c x = record { script = x.script; stage = record x.stage { threads = set c.stage.threads n (begun_thread (thread_at n c)) } }

-- the threads are those that begin
begun_is : (threads now : List Thread) → slice_get now 0 ≡ slice_get threads 0 → length now ≡ length threads → ((q : ℕ) (t : Thread) → 1 ≤ q → slice_get threads q ≡ Some t → slice_get now q ≡ Some (begun_thread t)) → now ≡ begun_threads threads
begun_is [] [] first long each = refl
begun_is [] (x ∷ now) first long each = absurd (omega arith)
begun_is (t ∷ ts) [] first long each = absurd (omega arith)
begun_is (t ∷ ts) (x ∷ now) first long each =
    let same : x ≡ t = let e = first in cc in
    ap (λ (y : Thread). y ∷ now) same ∙ ap (λ (ys : List Thread). t ∷ ys) (others ts now (omega arith) (λ q u at. each (suc q) u (omega arith) at))
  where
    others : (ts now : List Thread) → length now ≡ length ts → ((q : ℕ) (t : Thread) → slice_get ts q ≡ Some t → slice_get now q ≡ Some (begun_thread t)) → now ≡ map begun_thread ts
    others [] [] long each = refl
    others [] (x ∷ now) long each = absurd (omega arith)
    others (t ∷ ts) [] long each = absurd (omega arith)
    others (t ∷ ts) (x ∷ now) long each =
        let same : x ≡ begun_thread t = let e = each 0 t refl in cc in
        ap (λ (y : Thread). y ∷ now) same ∙ ap (λ (ys : List Thread). begun_thread t ∷ ys) (others ts now (omega arith) (λ q u at. each (suc q) u at))

pub beginning_last : (n : ℕ) (before c : Progress) → length c.stage.threads ≤ n → Beginning n before c → c.stage.threads ≡ begun_threads before.stage.threads
beginning_last n before c all b =
    begun_is before.stage.threads c.stage.threads b.first b.long (λ q t q1 at. let lt = slice_get_within before.stage.threads q t at in let long = b.long in b.done q t q1 (omega arith) at)

pub phase_left : (c : Progress) → IsUnderWay c → IsSome awaits_phase c.stage.threads → c.stage.begun < 64
phase_left c u some = phases_left c.script 0 c.stage some.place some.thread u.script u.served u.reached some.other some.there some.passes

first_begun : (threads : List Thread) (d : Thread) → get_or (begun_threads threads) 0 d ≡ get_or threads 0 d
first_begun [] d = refl
first_begun (t ∷ ts) d = refl

pub begun_in_phases : (c : Progress) → IsInPhases c → IsNone has_step c.stage.threads → IsSome awaits_phase c.stage.threads → All IsStepper (begun_threads c.stage.threads) → IsInPhases (phase_begun c)
begun_in_phases c i none some steppers =
    let u = i.under_way in
    record {
      under_way = record {
        script = u.script;
        served = u.served;
        reached = begins u.reached none some (λ p t p1 at h. phases_may_begin c.script 0 c.stage p t u.script u.served u.reached at (waits t.asked h));
        steppers = steppers;
      };
      first_waits = rw (first_begun c.stage.threads (stepper_of c.script 0)) i.first_waits;
    }

pub beginning_done : (n : ℕ) (before c : Progress) → length c.stage.threads ≤ n → Beginning n before c → record { script = c.script; stage = record c.stage { begun = c.stage.begun + 1 } } ≡ phase_begun before
beginning_done n before c all b =
    ap (λ (x : Progress). one_more x.script x.stage (x.stage.begun + 1) c.stage.threads) b.c_is ∙ ap (λ (ts : List Thread). one_more before.script before.stage (before.stage.begun + 1) ts) (beginning_last n before c all b)
  where
    one_more : Script → Stage → ℕ → List Thread → Progress
    one_more script s begun threads = record { script = script; stage = record s { begun = begun; threads = threads } }

-- ---- all phases

-- what holds where a phase may begin
pub record Between (before c : Progress) : Type 0 where
  pub in_phases : IsInPhases c
  pub script : c.script ≡ before.script
  pub none : IsNone has_step c.stage.threads
  pub begun : c.stage.begun ≤ 64
  pub bound : c.stage.steps + length c.stage.places ≤ 1000000 + c.stage.begun * 2 ^ 47

between_new : (script : Script) → IsScript script → IsServed script → Between (record { script = script; stage = first_stage script }) (record { script = script; stage = first_stage script })
between_new script valid served =
    let few = valid.few_places in
    record {
      in_phases = record { under_way = record { script = valid; served = served; reached = new; steppers = new_steppers script (length script.threads + 1) 0 valid served (omega arith) }; first_waits = first (length script.threads + 1) };
      script = refl;
      none = λ p t p1 at. ap (λ (x : Thread). has_step x) (new_is script (length script.threads + 1) p t at);
      begun = omega arith;
      bound = omega arith;
    }
  where
    first : (n : ℕ) → awaits_phase (get_or (new_threads script n 0) 0 (stepper_of script 0)) ≡ true
    first zero = refl
    first (suc n) = refl

pub between_first : (c : Progress) → IsScript c.script → IsServed c.script → c.stage ≡ first_stage c.script → Between c c
between_first c valid served e = subst (λ (s : Stage). Between (record { script = c.script; stage = s }) (record { script = c.script; stage = s })) (sym e) (between_new c.script valid served)

pub between_on : (before c b f e : Progress) → Between before c → IsSome awaits_phase c.stage.threads → b ≡ phase_begun c → PlacesFollowed b f → PhaseFinished f e → Between before e × (64 - e.stage.begun < 64 - c.stage.begun)
between_on before c b f e i some is p q =
    let left = phase_left c i.in_phases.under_way some in
    let began : b.stage.begun ≡ c.stage.begun + 1 = ap (λ (x : Progress). x.stage.begun) is in
    let steps : b.stage.steps ≡ c.stage.steps = ap (λ (x : Progress). x.stage.steps) is in
    let places : length b.stage.places ≡ length c.stage.places = ap (λ (x : Progress). length x.stage.places) is in
    let followed = p.came.steps in
    let finished = q.came.steps in
    let same : e.stage.begun ≡ c.stage.begun + 1 = q.came.begun ∙ (p.came.begun ∙ began) in
    let bound = i.bound in (
      record {
        in_phases = q.in_phases;
        script = q.came.script ∙ (p.came.script ∙ (ap (λ (x : Progress). x.script) is ∙ i.script));
        none = q.none;
        begun = omega arith;
        bound = omega arith;
      },
      omega arith,
    )

pub between_last : (before c : Progress) → Between before c → IsNone awaits_phase c.stage.threads → PhasesDone before c
between_last before c i none = let begun = i.begun in let bound = i.bound in record { in_phases = i.in_phases; script = i.script; none = i.none; no_phase = none; few = omega arith }

-- ---- thread 0

some_threads : (c : Progress) → IsUnderWay c → 0 < length c.stage.threads
some_threads c u = let long = threads_long c u in omega arith

pub first_takes : (before c : Progress) → PhasesDone before c → awaits_phase (thread_at 0 c) ≡ true → takes (thread_at 0 c) None
first_takes before c d h =
    let u = d.in_phases.under_way in
    phases_may_begin c.script 0 c.stage 0 (thread_at 0 c) u.script u.served u.reached (there c 0 (some_threads c u)) (waits (thread_at 0 c).asked h)

begun_now : (t : Thread) → awaits_phase t ≡ true → begun_thread t ≡ turned t None
begun_now t h = ap (λ (b : Bool). cond b (turned t None) t) h

pub first_under_way : (before c c' : Progress) → PhasesDone before c → c' ≡ thread_begun 0 c → All IsStepper c'.stage.threads → IsUnderWay c'
first_under_way before c c' d is steppers = rw is (record {
  script = u.script;
  served = u.served;
  reached = subst (λ (t : Thread). Reached c.script 0 (record c.stage { threads = slice_set c.stage.threads 0 t })) (sym (begun_now (thread_at 0 c) d.in_phases.first_waits))
      (last u.reached d.none d.no_phase (there c 0 (some_threads c u)) d.in_phases.first_waits (first_takes before c d d.in_phases.first_waits));
  steppers = rw is at steppers;
})
  where
    u : IsUnderWay c
    u = d.in_phases.under_way

pub first_there : (before c c' : Progress) → PhasesDone before c → c' ≡ thread_begun 0 c → 0 < length c'.stage.threads
first_there before c c' d is = let some = some_threads c d.in_phases.under_way in let same : length c'.stage.threads ≡ length c.stage.threads = ap (λ (x : Progress). length x.stage.threads) is ∙ length-set c.stage.threads 0 (begun_thread (thread_at 0 c)) in omega arith

-- the other threads have no step, and so no access
pub first_alone : (before c c' : Progress) → PhasesDone before c → c' ≡ thread_begun 0 c → IsAlone 0 c'
first_alone before c c' d is p t p1 ne at =
    let u = d.in_phases.under_way in
    let then : slice_get c.stage.threads p ≡ Some t = sym (set_apart c.stage.threads 0 p (begun_thread (thread_at 0 c)) ne) ∙ (sym (ap (λ (y : Progress). slice_get y.stage.threads p) is) ∙ at) in
    let lt = slice_get_within c.stage.threads p t then in
    subst (λ (x : Thread). in_access x ≡ false) (is_at c p t then) (idle_outside 0 c p u lt (subst (λ (x : Thread). has_step x ≡ false) (sym (is_at c p t then)) (d.none p t p1 then)))

-- thread 0 has no phase, so it never waits for a second one
never_waits : (c : Progress) → IsUnderWay c → 0 < length c.stage.threads → (awaits_phase (thread_at 0 c) ≡ true → 1 ≤ (thread_at 0 c).phase) → awaits_phase (thread_at 0 c) ≡ true → ⊥
never_waits c u lt h w =
    let s = (u.steppers 0 (stepper_of c.script 0) lt).phase in
    let k = (all_keep c.script u.script u.served 0 c.stage u.reached 0 (thread_at 0 c) (there c 0 lt)).phases in
    let none : length (thread_at 0 c).phases ≡ 0 = ap (λ (ps : List (List Op)). length ps) k in
    let some = h w in
    omega arith

pub all_done : (before c b c' : Progress) → PhasesDone before c → b ≡ thread_begun 0 c → ThreadFinished 0 b c' → IsDone before c'
all_done before c b c' d is t = record {
  script = t.came.script ∙ (ap (λ (x : Progress). x.script) is ∙ d.script);
  under_way = t.under_way;
  ended = λ p x at. dite (ℕ_discrete p 0) (λ e. first x (subst (λ (k : ℕ). slice_get c'.stage.threads k ≡ Some x) e at)) (λ ne. other p x ne at);
  few = let few = d.few in
      let steps : b.stage.steps ≡ c.stage.steps = ap (λ (y : Progress). y.stage.steps) is in
      let places : length b.stage.places ≡ length c.stage.places = ap (λ (y : Progress). length y.stage.places) is in
      let more = t.came.steps in
      omega arith;
}
  where
    u : IsUnderWay c
    u = d.in_phases.under_way

    other : (p : ℕ) (x : Thread) → p ≢ 0 → slice_get c'.stage.threads p ≡ Some x → x.asked ≡ moves.Ended
    other p x ne at =
        let there : slice_get c.stage.threads p ≡ Some x =
        sym (set_apart c.stage.threads 0 p (begun_thread (thread_at 0 c)) ne) ∙ (sym (ap (λ (y : Progress). slice_get y.stage.threads p) is) ∙ (sym (t.others p ne) ∙ at)) in
        ended x.asked (d.none p x (omega arith) there) (d.no_phase p x (omega arith) there)

    begun_at : thread_at 0 b ≡ turned (thread_at 0 c) None
    begun_at =
        is_at b 0 (begun_thread (thread_at 0 c)) (ap (λ (y : Progress). slice_get y.stage.threads 0) is ∙ set_there c.stage.threads 0 (begun_thread (thread_at 0 c)) (some_threads c d.in_phases.under_way)) ∙
        begun_now (thread_at 0 c) d.in_phases.first_waits

    later : awaits_phase (thread_at 0 b) ≡ true → 1 ≤ (thread_at 0 b).phase
    later h =
        let comes = turns c.script 0 c.stage 0 (thread_at 0 c) d.in_phases.under_way.script d.in_phases.under_way.served d.in_phases.under_way.reached (there c 0 (some_threads c d.in_phases.under_way)) d.in_phases.first_waits in
        rw begun_at (came_to (thread_at 0 c).phase (turned (thread_at 0 c) None).phase (turned (thread_at 0 c) None).asked (rw begun_at at h) comes.phase)

    first : (x : Thread) → slice_get c'.stage.threads 0 ≡ Some x → x.asked ≡ moves.Ended
    first x at =
        let same = is_at c' 0 x at in
        let lt = slice_get_within c'.stage.threads 0 x at in
        subst (λ (y : Thread). y.asked ≡ moves.Ended) same (ended (thread_at 0 c').asked t.done (no_wait (is_phase_end (thread_at 0 c').asked) refl lt))
      where
        no_wait : (w : Bool) → is_phase_end (thread_at 0 c').asked ≡ w → 0 < length c'.stage.threads → is_phase_end (thread_at 0 c').asked ≡ false
        no_wait true e lt = absurd (never_waits c' t.under_way lt (t.begun_once later) e)
        no_wait false e lt = e
