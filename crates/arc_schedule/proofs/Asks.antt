-- What a stepper that stands for its steps asks for, and what it stands for where it has ended.
use Rattle.std.proofs.Common.{◌≡◌, ℕ, ◌+◌, true, false, List, Some, None, refl, sym, ap, subst, ◌∙◌}
use Rattle.arc_rule.specs.declared.step.Step.{Step}
use Rattle.arc_cells.specs.Chains.{Frame}
use Rattle.arc_ops.specs.declared.stepper.Doing.{Doing}
use Rattle.arc_ops.specs.declared.stepper.Doing.TheVariants.{Ready, Making, Gaining, Naming, Opening, Closing, Setting, Clearing, Dropping, Dying, Vacating, Ended}
use Rattle.arc_ops.specs.declared.stepper.Move.{Move}
use Rattle.arc_ops.specs.declared.stepper.Move.TheVariants as moves
use Rattle.arc_ops.specs.Thread.{Thread}
use Rattle.arc_replays.specs.Stages.{is_step, has_step, is_phase_end, awaits_phase}
use Rattle.arc_schedule.specs.Made.{Made}
use Rattle.arc_schedule.proofs.Stands.{Task, step_in, IsIn, UpTo, IsWhole, Stands}
use Rattle.arc_schedule.proofs.Idle.{IsIdle, idle-here}

pub asks-step : (t : Thread) → has_step t ≡ true → (step : Step) × (step_in t.asked ≡ Some step)
asks-step t e = go t.asked e
  where
    go : (m : Move) → is_step m ≡ true → (step : Step) × (step_in m ≡ Some step)
    go (moves.Step step intent) e = (step, refl)
    go moves.PhaseEnd e = absurd (cc)
    go moves.Ended e = absurd (cc)

pub no-step : (t : Thread) → has_step t ≡ false → step_in t.asked ≡ None
no-step t e = go t.asked e
  where
    go : (m : Move) → is_step m ≡ false → step_in m ≡ None
    go (moves.Step step intent) e = absurd (cc)
    go moves.PhaseEnd e = refl
    go moves.Ended e = refl

pub waits-for-phase : (t : Thread) → awaits_phase t ≡ true → t.asked ≡ moves.PhaseEnd
waits-for-phase t e = go t.asked e
  where
    go : (m : Move) → is_phase_end m ≡ true → m ≡ moves.PhaseEnd
    go (moves.Step step intent) e = absurd (cc)
    go moves.PhaseEnd e = refl
    go moves.Ended e = absurd (cc)

pub has-ended : (t : Thread) → has_step t ≡ false → awaits_phase t ≡ false → t.asked ≡ moves.Ended
has-ended t e f = go t.asked e f
  where
    go : (m : Move) → is_step m ≡ false → is_phase_end m ≡ false → m ≡ moves.Ended
    go (moves.Step step intent) e f = absurd (cc)
    go moves.PhaseEnd e f = absurd (cc)
    go moves.Ended e f = refl

ended-doing : (k : Task) (n : ℕ) {chain : List Frame} (t : Thread) (now : List Made) → Stands k n chain t now → t.asked ≡ moves.Ended → t.doing ≡ Ended
ended-doing k n {chain = chain} t now st ended = go t.doing (idle-here k n t now st (ap step_in ended)) st.up_to
  where
    go : (d : Doing) → IsIdle d → UpTo k chain st.job st.at t.vars t.made t.hands t.asked now d → d ≡ Ended
    go Ready i u = let e = u.0 in absurd (cc)
    go (Making to name plan) i u = absurd i
    go (Gaining gain to held plan) i u = absurd i
    go (Naming to held plan) i u = absurd i
    go (Opening to cell plan) i u = absurd i
    go (Closing to cell held plan) i u = absurd i
    go (Setting from cell plan) i u = absurd i
    go (Clearing plan) i u = absurd i
    go (Vacating slot plan) i u = absurd i
    go (Dropping held plan) i u = absurd i
    go (Dying c) i u = absurd i
    go Ended i u = refl

-- a thread that has ended stays so, however many phases have begun
pub ended-stays : (k : Task) (n m : ℕ) {chain : List Frame} (t : Thread) (now : List Made) → Stands k n chain t now → t.asked ≡ moves.Ended → Stands k m chain t now
ended-stays k n m t now st ended = record {
  job = st.job;
  at = st.at;
  phases = st.phases;
  phased = subst (λ (d : Doing). IsIn m st.phases d) (sym (ended-doing k n t now st ended)) tt;
  works = st.works;
  vars_in = st.vars_in;
  placed = st.placed;
  up_to = st.up_to;
}

pub whole : (k : Task) (n : ℕ) {chain : List Frame} (t : Thread) (now : List Made) → Stands k n chain t now → t.asked ≡ moves.Ended → IsWhole k now
whole k n {chain = chain} t now st ended =
    let up_to : UpTo k chain st.job st.at t.vars t.made t.hands t.asked now Ended = subst (λ (d : Doing). UpTo k chain st.job st.at t.vars t.made t.hands t.asked now d) (ended-doing k n t now st ended) st.up_to in
    up_to.1

-- a step belongs to the phase that has begun last
pub in-phase : (k : Task) (n : ℕ) {chain : List Frame} (t : Thread) (step : Step) (now : List Made) (st : Stands k n chain t now) → step_in t.asked ≡ Some step → st.job.phase + 1 ≡ n
in-phase k n {chain = chain} t step now st asked = st.works.begun_is ∙ go t.doing st.phased st.up_to
  where
    go : (d : Doing) → IsIn n st.phases d → UpTo k chain st.job st.at t.vars t.made t.hands t.asked now d → st.phases ≡ n
    go Ready p u = let e = ap step_in u.0 in absurd (cc)
    go (Making to name plan) p u = p
    go (Gaining gain to held plan) p u = p
    go (Naming to held plan) p u = p
    go (Opening to cell plan) p u = p
    go (Closing to cell held plan) p u = p
    go (Setting from cell plan) p u = p
    go (Clearing plan) p u = p
    go (Vacating slot plan) p u = p
    go (Dropping held plan) p u = p
    go (Dying c) p u = p
    go Ended p u = let e = ap step_in u.0 in absurd (cc)
