-- What a crew keeps of its threads, as one of them is given a word.
use Rattle.std.proofs.Common.{◌≡◌, ℕ, zero, suc, ◌+◌, ◌-◌, ◌≤◌, ◌<◌, List, [], ◌∷◌, length, map, get_or, set, replicate, refl, ap, ◌∙◌, sym, arith}
use Rattle.std.specs.Prelude.{All}
use Rattle.std.proofs.lemmas.List.{length-set, map-set}
use Rattle.std.proofs.lemmas.List.Sums.{sum_by-cons, sum_by-set}
use Rattle.std.proofs.lemmas.List.Elements.{All-set}
use Rattle.arc_script.specs.declared.script.Script.{Script}
use Rattle.arc_script.specs.Valid.{IsScript}
use Rattle.arc_served.specs.Served.{IsServed}
use Rattle.arc_ops.specs.declared.stepper.Move.{Move}
use Rattle.arc_ops.specs.declared.stepper.Move.TheVariants as moves
use Rattle.arc_ops.specs.Thread.{Thread, stepper_of}
use Rattle.arc_ops.specs.Steppers.{IsStepper}
use Rattle.arc_replays.specs.Stages.{new_threads}
use Rattle.arc_plain.specs.Crews.{IsCrew, step_count, steps_asked}
use Rattle.arc_ops.proofs.Made.{is_stepper}

pub one_few : (m : Move) → step_count m ≤ 1
one_few (moves.Step step intent) = omega arith
one_few moves.PhaseEnd = omega arith
one_few moves.Ended = omega arith

-- at most all of them have a step
pub steps_few : (threads : List Thread) → steps_asked threads ≤ length threads
steps_few [] = omega arith
steps_few (t ∷ ts) = let h = steps_few ts in let k = sum_by-cons (λ (u : Thread). step_count u.asked) t ts in let o = one_few t.asked in omega arith

-- each of them counts
pub one_counts : (threads : List Thread) (p : ℕ) (d : Thread) → p < length threads → step_count (get_or threads p d).asked ≤ steps_asked threads
one_counts threads p d lt = let k = sum_by-set (λ (u : Thread). step_count u.asked) threads p (record d { asked = moves.Ended }) d lt in omega arith

pub crew_turned : (threads : List Thread) (asked : List Move) (busy p : ℕ) (u d : Thread) (next : Move) (a b : ℕ) → IsCrew threads asked busy → p < length threads → next ≡ u.asked → IsStepper u → a ≡ step_count next → b ≡ step_count (get_or threads p d).asked →
    IsCrew (set threads p u) (set asked p next) (a + (busy - b))
crew_turned threads asked busy p u d next a b k lt is stepper a_is b_is =
    let s = sum_by-set (λ (t : Thread). step_count t.asked) threads p u d lt in
    let o = one_counts threads p d lt in
    let n : step_count next ≡ step_count u.asked = ap step_count is in
    let few = k.few in
    let busy_is = k.busy_is in
    record {
      asked_is = ap (λ (x : List Move). set x p next) k.asked_is ∙ ap (λ (m : Move). set (map (λ (t : Thread). t.asked) threads) p m) is ∙ sym (map-set (λ (t : Thread). t.asked) threads p u);
      busy_is = omega arith;
      steppers = All-set IsStepper threads p u stepper k.steppers;
      few = rw length-set few;
    }

pub new_long : (script : Script) (n from : ℕ) → length (new_threads script n from) ≡ n
new_long script zero from = refl
new_long script (suc n) from = ap suc (new_long script n (from + 1))

new_asked : (script : Script) (n from : ℕ) → replicate n moves.PhaseEnd ≡ map (λ (t : Thread). t.asked) (new_threads script n from)
new_asked script zero from = refl
new_asked script (suc n) from = ap (λ (ms : List Move). moves.PhaseEnd ∷ ms) (new_asked script n (from + 1))

new_idle : (script : Script) (n from : ℕ) → steps_asked (new_threads script n from) ≡ 0
new_idle script zero from = refl
new_idle script (suc n) from = let h = new_idle script n (from + 1) in let k = sum_by-cons (λ (u : Thread). step_count u.asked) (stepper_of script from) (new_threads script n (from + 1)) in omega arith

pub new_steppers : (script : Script) (n from : ℕ) → IsScript script → IsServed script → from + n ≤ length script.threads + 1 → All IsStepper (new_threads script n from)
new_steppers script zero from valid served le k d lt = absurd (omega arith)
new_steppers script (suc n) from valid served le zero d lt = is_stepper script from valid served (omega arith)
new_steppers script (suc n) from valid served le (suc k) d lt = new_steppers script n (from + 1) valid served (omega arith) k d (omega arith)

crew_new : (script : Script) → IsScript script → IsServed script → IsCrew (new_threads script (length script.threads + 1) 0) (replicate (length script.threads + 1) moves.PhaseEnd) 0
crew_new script valid served =
    let few = valid.few_threads in
    let long = new_long script (length script.threads + 1) 0 in
    record {
      asked_is = new_asked script (length script.threads + 1) 0;
      busy_is = sym (new_idle script (length script.threads + 1) 0);
      steppers = new_steppers script (length script.threads + 1) 0 valid served (omega arith);
      few = omega arith;
    }

pub crew_new_is : (script : Script) (threads : List Thread) (asked : List Move) (n : ℕ) → IsScript script → IsServed script → threads ≡ new_threads script (length script.threads + 1) 0 → asked ≡ replicate n moves.PhaseEnd → n ≡ length threads → IsCrew threads asked 0
crew_new_is script threads asked n valid served e f long =
    let count : n ≡ length script.threads + 1 = long ∙ (ap (λ (ts : List Thread). length ts) e ∙ new_long script (length script.threads + 1) 0) in
    rw (e, f, count) (crew_new script valid served)
