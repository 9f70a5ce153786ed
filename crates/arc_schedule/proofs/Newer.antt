-- What the newest step of a thread says of its operation, and where the thread is in its phase.
use Rattle.std.proofs.Common.{◌≡◌, ℕ, ◌+◌, ◌-◌, ◌<◌, ◌≤◌, Bool, true, false, not, ltb, List, [], ◌∷◌, length, get_or, Some, None, inl, inr, refl, sym, ap, subst, arith}
use Rattle.std.proofs.lemmas.Bool.{ltb-true, ltb-false, lt-ltb}
use Rattle.std.proofs.lemmas.Option.{get_or_from_slice_get, slice_get_within}
use Rattle.std.specs.Prelude.{◌&&◌}
use Rattle.arc_model.specs.declared.event.Origin.{Origin}
use Rattle.arc_model.specs.declared.event.Origin.TheVariants as origins
use Rattle.arc_rule.specs.declared.step.Step.{Step}
use Rattle.arc_script.proofs.OneList.{number_next}
use Rattle.arc_cells.specs.Chains.{Frame}
use Rattle.arc_ops.specs.declared.stepper.Doing.{Doing}
use Rattle.arc_ops.specs.declared.stepper.Doing.TheVariants.{Ready, Making, Gaining, Naming, Opening, Closing, Setting, Clearing, Dropping, Dying, Vacating, Ended}
use Rattle.arc_ops.specs.Thread.{Thread, is_busy, is_accessing, is_cell as is_from_cell, in_access as accesses, in_operation}
use Rattle.arc_schedule.specs.Made.{Made}
use Rattle.arc_schedule.proofs.Newest.{IsHere, Newest}
use Rattle.arc_schedule.proofs.Stands.{Task, Job, start_of, here, step_in, IsGainingFrom, UpTo, WorksAt, IsAt, IsPlaced, Stands}
use Rattle.arc_schedule.proofs.Idle.{IsIdle, idle-here}
use Rattle.arc_schedule.proofs.Begins.{program-many, program-over}
use Rattle.arc_schedule.proofs.Arranged.{op_now, IsBehind, IsFrom}

-- the number of a thread's operation in the phase
pub op-now-is : {n : ℕ} (k : Task) (j : Job k) (i : ℕ) (t : Thread) → WorksAt k j i n t → op_now t ≡ (here k j i).operation
op-now-is k j i t works =
    let ops : get_or k.decl.phases j.phase [] ≡ j.ops = get_or_from_slice_get k.decl.phases j.phase j.ops [] j.there in
    let place : start_of k j + i - start_of k j ≡ i = omega arith in
    rw (works.phases_is, works.phase_is, works.index_is, ops, place) refl

-- a thread with a step has an operation under way, and its newest step stands with it
pub newest-of : (k : Task) (n : ℕ) {chain : List Frame} (t : Thread) (s : Step) (now : List Made) (st : Stands k n chain t now) → step_in t.asked ≡ Some s → IsAt k st.job st.at × Newest (here k st.job st.at) t.first now
newest-of k n {chain = chain} t s now st asked = go t.doing st.placed st.up_to
  where
    go : (d : Doing) → IsPlaced k st.job st.at t.first now d → UpTo k chain st.job st.at t.vars t.made t.hands t.asked now d → IsAt k st.job st.at × Newest (here k st.job st.at) t.first now
    go Ready placed u = let e = ap step_in u.0 in absurd (cc)
    go (Making to name plan) placed u = placed
    go (Gaining gain to from plan) placed u = placed
    go (Naming to held plan) placed u = placed
    go (Opening to cell plan) placed u = placed
    go (Closing to cell held plan) placed u = placed
    go (Setting from cell plan) placed u = placed
    go (Clearing plan) placed u = placed
    go (Vacating slot plan) placed u = placed
    go (Dropping held plan) placed u = placed
    go (Dying c) placed u = placed
    go Ended placed u = let e = ap step_in u.0 in absurd (cc)

-- and it is busy
pub busy-here : (k : Task) (n : ℕ) {chain : List Frame} (t : Thread) (s : Step) (now : List Made) → Stands k n chain t now → step_in t.asked ≡ Some s → is_busy t.doing ≡ true
busy-here k n {chain = chain} t s now st asked = go t.doing st.up_to
  where
    go : (d : Doing) → UpTo k chain st.job st.at t.vars t.made t.hands t.asked now d → is_busy d ≡ true
    go Ready u = let e = ap step_in u.0 in absurd (cc)
    go (Making to name plan) u = refl
    go (Gaining gain to from plan) u = refl
    go (Naming to held plan) u = refl
    go (Opening to cell plan) u = refl
    go (Closing to cell held plan) u = refl
    go (Setting from cell plan) u = refl
    go (Clearing plan) u = refl
    go (Vacating slot plan) u = refl
    go (Dropping held plan) u = refl
    go (Dying c) u = refl
    go Ended u = let e = ap step_in u.0 in absurd (cc)

-- a thread without a step is outside
pub idle-outside : (k : Task) (n : ℕ) {chain : List Frame} (t : Thread) (now : List Made) → Stands k n chain t now → step_in t.asked ≡ None → accesses t ≡ false
idle-outside k n t now st none = go t.doing (idle-here k n t now st none)
  where
    go : (d : Doing) → IsIdle d → is_accessing d ≡ false
    go Ready i = refl
    go (Making to name plan) i = refl
    go (Gaining gain to from plan) i = absurd i
    go (Naming to held plan) i = refl
    go (Opening to cell plan) i = refl
    go (Closing to cell held plan) i = absurd i
    go (Setting from cell plan) i = refl
    go (Clearing plan) i = refl
    go (Vacating slot plan) i = refl
    go (Dropping held plan) i = refl
    go (Dying c) i = refl
    go Ended i = refl

-- an operation of the phase has a number
numbered-here : (k : Task) (j : Job k) (i : ℕ) → IsAt k j i → i < length j.ops → 1 ≤ (here k j i).operation
numbered-here k j i at within =
    let o = at.numbered within in
    let next = number_next j.ops i o.0 o.1 o.2 in
    let e : ltb i (length j.ops) ≡ true = lt-ltb i (length j.ops) within in
    rw e (omega arith)

-- a thread inside an access has made a step of its operation
pub inside-newest : (k : Task) (n : ℕ) {chain : List Frame} (t : Thread) (now : List Made) (st : Stands k n chain t now) → accesses t ≡ true → IsHere (here k st.job st.at) now × (1 ≤ (here k st.job st.at).operation)
inside-newest k n {chain = chain} t now st inside = go t.doing inside st.placed st.up_to
  where
    go : (d : Doing) → is_accessing d ≡ true → IsPlaced k st.job st.at t.first now d → UpTo k chain st.job st.at t.vars t.made t.hands t.asked now d → IsHere (here k st.job st.at) now × (1 ≤ (here k st.job st.at).operation)
    go Ready e placed u = absurd (cc)
    go (Making to name plan) e placed u = absurd (cc)
    go (Gaining gain to from plan) e placed u = of from.origin e u
      where
        of : (o : Origin) → is_from_cell o ≡ true → IsGainingFrom k st.job st.at gain to o from.kind from.place plan t.vars t.made t.hands (step_in t.asked) now → IsHere (here k st.job st.at) now × (1 ≤ (here k st.job st.at).operation)
        of (origins.Hand hand) e u = absurd (cc)
        of (origins.Cell cell) e u = (u.newest, numbered-here k st.job st.at placed.0 (slice_get_within st.job.ops st.at _ u.there))
    go (Naming to held plan) e placed u = absurd (cc)
    go (Opening to cell plan) e placed u = absurd (cc)
    go (Closing to cell held plan) e placed u = (u.newest, numbered-here k st.job st.at placed.0 u.within)
    go (Setting from cell plan) e placed u = absurd (cc)
    go (Clearing plan) e placed u = absurd (cc)
    go (Vacating slot plan) e placed u = absurd (cc)
    go (Dropping held plan) e placed u = absurd (cc)
    go (Dying c) e placed u = absurd (cc)
    go Ended e placed u = absurd (cc)

-- where the thread is in the program: within it, or at its end
at-index : {n : ℕ} (k : Task) (j : Job k) (i : ℕ) (t : Thread) → WorksAt k j i n t → IsAt k j i → ltb t.index (length t.program) ≡ true → i < length j.ops
at-index k j i t works at within = go (ltb i (length j.ops)) refl
  where
    go : (b : Bool) → ltb i (length j.ops) ≡ b → i < length j.ops
    go true e = ltb-true i (length j.ops) e
    go false e =
        let past = ltb-false i (length j.ops) e in
        let over = program-over k j i t works past (at.scope past) in
        absurd (cc)

-- a thread in an operation has made a step of it
pub operation-newest : (k : Task) (n : ℕ) {chain : List Frame} (t : Thread) (s : Step) (now : List Made) (st : Stands k n chain t now) → step_in t.asked ≡ Some s → in_operation t ≡ true → IsHere (here k st.job st.at) now × (1 ≤ (here k st.job st.at).operation)
operation-newest k n t s now st asked inside = with (newest-of k n t s now st asked)
  where
    parts : (a b c : Bool) → (a && not b && c) ≡ true → (b ≡ false) × (c ≡ true)
    parts true false true e = (refl, refl)
    parts true false false e = absurd (cc)
    parts true true c e = absurd (cc)
    parts false b c e = absurd (cc)

    p : (t.first ≡ false) × (ltb t.index (length t.program) ≡ true)
    p = parts (is_busy t.doing) t.first (ltb t.index (length t.program)) inside

    with : IsAt k st.job st.at × Newest (here k st.job st.at) t.first now → IsHere (here k st.job st.at) now × (1 ≤ (here k st.job st.at).operation)
    with x = go x.1
      where
        number : 1 ≤ (here k st.job st.at).operation
        number = numbered-here k st.job st.at x.0 (at-index k st.job st.at t st.works x.0 p.1)

        go : Newest (here k st.job st.at) t.first now → IsHere (here k st.job st.at) now × (1 ≤ (here k st.job st.at).operation)
        go (inl h) = (h.0, number)
        go (inr (past, inl first)) = let f = p.0 in absurd (cc)
        go (inr (past, inr last)) = let f = number in absurd (omega arith)

-- a thread that isn't in an operation has made no step of the one that it is at, where its newest step is one of the phase
pub outside-behind : (k : Task) (n : ℕ) {chain : List Frame} (t : Thread) (s : Step) (m : Made) (ms : List Made) (st : Stands k n chain t (m ∷ ms)) → step_in t.asked ≡ Some s → in_operation t ≡ false → 1 ≤ m.point.operation → m.point.phase + 1 ≡ n → st.job.phase + 1 ≡ n →
    IsBehind m.point.operation (op_now t)
outside-behind k n t s m ms st asked outside some phase in_phase = subst (IsBehind m.point.operation) (sym (op-now-is k st.job st.at t st.works)) (with (newest-of k n t s (m ∷ ms) st asked))
  where
    with : IsAt k st.job st.at × Newest (here k st.job st.at) t.first (m ∷ ms) → IsBehind m.point.operation (here k st.job st.at).operation
    with x = go x.1
      where
        go : Newest (here k st.job st.at) t.first (m ∷ ms) → IsBehind m.point.operation (here k st.job st.at).operation
        go (inl h) = absurd (still (ltb st.at (length st.job.ops)) refl)
          where
            busy : is_busy t.doing ≡ true
            busy = busy-here k n t s (m ∷ ms) st asked

            still : (b : Bool) → ltb st.at (length st.job.ops) ≡ b → ⊥
            still true e =
                let a = busy in
                let b = h.1 in
                let c = program-many k st.job st.at t st.works (ltb-true st.at (length st.job.ops) e) in
                let d : in_operation t ≡ true = rw (a, b, c) refl in
                absurd (cc)
            still false e =
                let none : (here k st.job st.at).operation ≡ 0 = rw e refl in
                let number = h.0.1 in
                absurd (omega arith)
        go (inr (inl earlier, y)) = absurd (omega arith)
        go (inr (inr here_is, y)) = (some, here_is.2)

-- behind a step of an operation the thread is at it or at one behind
pub from-step : (k : Task) (n : ℕ) {chain : List Frame} (t : Thread) (s : Step) (m : Made) (ms : List Made) (st : Stands k n chain t (m ∷ ms)) → step_in t.asked ≡ Some s → m.point.phase + 1 ≡ n → st.job.phase + 1 ≡ n → IsFrom m.point.operation (op_now t)
from-step k n t s m ms st asked phase in_phase = subst (IsFrom m.point.operation) (sym (op-now-is k st.job st.at t st.works)) (go (newest-of k n t s (m ∷ ms) st asked).1)
  where
    go : Newest (here k st.job st.at) t.first (m ∷ ms) → IsFrom m.point.operation (here k st.job st.at).operation
    go (inl h) = inl h.0.1
    go (inr (inl earlier, y)) = absurd (omega arith)
    go (inr (inr here_is, y)) = inr (here_is.1, here_is.2)
