-- The steps of a stepper over its notes: the next operation begins, or the scope ends; what was under way is over.
use Rattle.std.proofs.Common.{◌≡◌, ℕ, ◌+◌, ◌<◌, ◌≤◌, Bool, true, false, cond, ltb, List, [], ◌∷◌, length, take, drop, set, Option, Some, None, refl, sym, ap, subst, ◌∙◌, arith}
use Rattle.std.proofs.lemmas.Bool.{ltb-true, ltb-false}
use Rattle.std.proofs.lemmas.List.{length-take, drop_all}
use Rattle.std.proofs.lemmas.Option.{slice_get_within}
use Rattle.std.specs.Prelude.{slice_get}
use Rattle.arc_model.specs.declared.answer.Answer.{Answer}
use Rattle.arc_model.specs.declared.answer.Answer.TheVariants as answers
use Rattle.arc_spelling.specs.Spelling.{Note}
use Rattle.arc_spelling.specs.Spelling.Note.{Line, Operation}
use Rattle.arc_script.specs.declared.script.Op.{Op}
use Rattle.arc_script.specs.declared.script.Op.TheVariants as op
use Rattle.arc_programs.specs.Variables.{put as put_var}
use Rattle.arc_programs.specs.Variables as programs
use Rattle.arc_programs.specs.Programs.{IsAnswered}
use Rattle.arc_programs.specs.ProgramsLines.{number_of}
use Rattle.arc_programs.proofs.ProgramsSteps.{IsNext, answers_last, drops_last}
use Rattle.arc_ops.specs.declared.stepper.Held.{Held}
use Rattle.arc_ops.specs.declared.gain.Gain.TheVariants as gains
use Rattle.arc_ops.specs.declared.stepper.Doing.TheVariants.{Ready, Ended}
use Rattle.arc_ops.specs.declared.stepper.Move.TheVariants as moves
use Rattle.arc_served.specs.Programs.{ordinal, ops_in_first}
use Rattle.arc_ops.specs.Thread.{Thread, value, is_held, set_var}
use Rattle.arc_ops.specs.Begins.{skipped, moved, begun_op, begun_at, begun, scope_begun, next_op}
use Rattle.arc_ops.specs.Drops.{replaced_old, replaced}
use Rattle.arc_spelled.specs.Shown.Says.{nothing, operation}
use Rattle.arc_spelled.specs.StepperStands.{Work, IsServedWork, held_in, variables, AreDone, IsOverIf, IsOver, WorksOn, IsCounted, number_at, IsOfPhaseIf, IsOfPhase}
use Rattle.arc_spelled.proofs.StepperSteps.{value-held, put-held, counted-operation, skipped-line, works-over, Comes, number-within, over-done, served-at, get-drop, get-take, drop-asks, ends-on, IsHere, is-here, no-operation, Uncleared, ends-phase, opens, moving, dropping, GoesOnBehind, same-held, comes-to-block, comes-to-gain}
use Rattle.arc_spelled.proofs.Owners.{getting, setting}
use Rattle.arc_spelled.proofs.KindsKept.{FitsKind, kinds-set, counted-in}

-- the operation begins where the thread stands
comes-to : (w : Work) → IsServedWork w → (at : ℕ) (o : Op) (rest : List Op) (t : Thread) (now : List Note) → WorksOn w t.layout t.shape t.thread t.phases t.program t.classes t.vars → IsCounted w t.hands t.taken t.made t.kept now → at ≡ t.index →
    IsHere w t o rest → AreDone w t.index t.vars now → GoesOnBehind w at rest t.phase → Comes w (begun_op o t (λ behind. begun_at (at + 1) rest behind)) t.event now
comes-to w served at (op.New to class) rest t now works counts place here d on = record {
  after = Operation (ordinal w.program t.index) ∷ now;
  says = operation nothing;
  event = refl;
  stands = record {
    works = works;
    in_phase = here.in_phase;
    counts = counted-operation w t.hands t.taken t.made t.kept (ordinal w.program t.index) now counts;
    number = sym (number-within w t.index here.within);
    asks = tt;
    up_to = record {
      begun = record { base = now; done = d; there = here.there; now_is = refl };
      named = rw (works.thread_is, counts.made_is) refl;
    };
  };
}
comes-to w served at (op.Copy to from) rest t now works counts place here d on = comes-to-gain w served at gains.Copy to from rest t now works counts place here d on
comes-to w served at (op.Unown to of) rest t now works counts place here d on = comes-to-gain w served at gains.Unown to of rest t now works counts place here d on
comes-to w served at (op.Load to of) rest t now works counts place here d on = comes-to-gain w served at gains.Load to of rest t now works counts place here d on
comes-to w served at (op.Move to from) rest t now works counts place here d on =
    let x = opens w t now (op.Move to from) rest here counts d in
    moving w served t now to from rest (λ behind. begun_at (at + 1) rest behind) works here x
    (λ done. on (skipped answers.Nil t) (Line answers.Nil ∷ Operation (ordinal w.program t.index) ∷ now) works (skipped-line w t answers.Nil now works x.opened) refl (omega (arith, place)) here.before_end done)
    (λ held kinds done. on (moved to from held (skipped answers.Ok t)) (Line answers.Ok ∷ Operation (ordinal w.program t.index) ∷ now) (works-over w t works kinds) (skipped-line w t answers.Ok now works x.opened) refl (omega (arith, place)) here.before_end done)
comes-to w served at (op.Drop v) rest t now works counts place here d on =
    let x = opens w t now (op.Drop v) rest here counts d in
    dropping w served t now v rest (λ behind. begun_at (at + 1) rest behind) works here x
    (λ done. on (skipped answers.Nil t) (Line answers.Nil ∷ Operation (ordinal w.program t.index) ∷ now) works (skipped-line w t answers.Nil now works x.opened) refl (omega (arith, place)) here.before_end done)
comes-to w served at (op.IfNil v to) rest t now works counts place here d on =
    comes-to-block w served at (op.IfNil v to) rest t now works counts place here d on refl (cond (is_held (value t.vars v)) to (t.index + 1)) refl (ap (λ (b : Bool). cond b to (t.index + 1)) (sym (same-held t.vars v)))
comes-to w served at (op.IfSome v to) rest t now works counts place here d on =
    comes-to-block w served at (op.IfSome v to) rest t now works counts place here d on refl (cond (is_held (value t.vars v)) (t.index + 1) to) refl (ap (λ (b : Bool). cond b (t.index + 1) to) (sym (same-held t.vars v)))
comes-to w served at (op.Weak to of) rest t now works counts place here d on = absurd (served-at w t.index (op.Weak to of) served here.there)
comes-to w served at (op.Get to cell) rest t now works counts place here d on =
    let x = opens w t now (op.Get to cell) rest here counts d in
    getting w served t now to cell rest (λ behind. begun_at (at + 1) rest behind) works here x d
    (λ done. on (skipped answers.Nil t) (Line answers.Nil ∷ Operation (ordinal w.program t.index) ∷ now) works (skipped-line w t answers.Nil now works x.opened) refl (omega (arith, place)) here.before_end done)
comes-to w served at (op.Set cell from) rest t now works counts place here d on =
    let x = opens w t now (op.Set cell from) rest here counts d in
    setting w served t now cell from rest (λ behind. begun_at (at + 1) rest behind) works here x d
    (λ done. on (skipped answers.Nil t) (Line answers.Nil ∷ Operation (ordinal w.program t.index) ∷ now) works (skipped-line w t answers.Nil now works x.opened) refl (omega (arith, place)) here.before_end done)

-- the thread has gone past the operation, or it begins
passes-or-comes : (w : Work) → IsServedWork w → (at : ℕ) (o : Op) (rest : List Op) (t : Thread) (now : List Note) → WorksOn w t.layout t.shape t.thread t.phases t.program t.classes t.vars → IsCounted w t.hands t.taken t.made t.kept now →
    o ∷ rest ≡ drop at (take (ops_in_first (t.phase + 1) w.phases) w.program) → at ≤ t.index → t.index ≤ ops_in_first (t.phase + 1) w.phases → AreDone w t.index t.vars now → GoesOnBehind w at rest t.phase → Comes w (begun_at at (o ∷ rest) t) t.event now
passes-or-comes w served at o rest t now works counts r past before d on = go (ltb at t.index) refl
  where
    go : (b : Bool) → ltb at t.index ≡ b → Comes w (cond b (begun_at (at + 1) rest t) (begun_op o t (λ behind. begun_at (at + 1) rest behind))) t.event now
    go true e = let less = ltb-true at t.index e in on t now works counts refl (omega (arith, less)) before d
    go false e =
        let not_less = ltb-false at t.index e in
        let place : at ≡ t.index = omega (arith, past, not_less) in
        let P : ℕ → Type 0 = λ (i : ℕ). o ∷ rest ≡ drop i (take (ops_in_first (t.phase + 1) w.phases) w.program) in
        comes-to w served at o rest t now works counts place (is-here w t o rest (subst P place r)) d on

-- thread 0 has no operation
some-left : (w : Work) → IsServedWork w → (at : ℕ) (o : Op) (rest : List Op) (t : Thread) → o ∷ rest ≡ drop at (take (ops_in_first (t.phase + 1) w.phases) w.program) → w.thread ≡ 0 → ⊥
some-left w served at o rest t r first = let h = (get-take (ops_in_first (t.phase + 1) w.phases) w.program at o (get-drop (take (ops_in_first (t.phase + 1) w.phases) w.program) rest at o r).0).0 in no-operation w served at o h first

-- the first operation of the rest of the phase that asks for a step begins, or the phase is over
pub begins : (w : Work) → IsServedWork w → (at : ℕ) (rest : List Op) (t : Thread) (now : List Note) → WorksOn w t.layout t.shape t.thread t.phases t.program t.classes t.vars → IsCounted w t.hands t.taken t.made t.kept now →
    rest ≡ drop at (take (ops_in_first (t.phase + 1) w.phases) w.program) → at ≤ t.index → t.index ≤ ops_in_first (t.phase + 1) w.phases → AreDone w t.index t.vars now → Uncleared w t.cleared → Comes w (begun_at at rest t) t.event now
begins w served at [] t now works counts r past before d none = ends-phase w served at t now works counts r past before d none
begins w served at (o ∷ rest) t now works counts r past before d none =
    passes-or-comes w served at o rest t now works counts r past before d
    (λ u ns works_u counts_u phase past_u before_u d_u.
    begins w served (at + 1) rest u ns works_u counts_u
    (let P : ℕ → Type 0 = λ (k : ℕ). rest ≡ drop (at + 1) (take (ops_in_first (k + 1) w.phases) w.program) in subst P (sym phase) (get-drop (take (ops_in_first (t.phase + 1) w.phases) w.program) rest at o r).1)
    past_u
    (let P : ℕ → Type 0 = λ (k : ℕ). u.index ≤ ops_in_first (k + 1) w.phases in subst P (sym phase) before_u)
    d_u (λ first. absurd (some-left w served at o rest t r first)))

-- what was under way is over
pub goes-on : (w : Work) → IsServedWork w → (t : Thread) (now : List Note) → WorksOn w t.layout t.shape t.thread t.phases t.program t.classes t.vars → IsCounted w t.hands t.taken t.made t.kept now →
    number_of now ≡ number_at w t.index → IsOfPhase w t.phase t.index → IsOver w t.index t.vars t.cleared now → Comes w (next_op t) t.event now
goes-on w served t now works counts number phase over =
    let P : List Op → Type 0 = λ (p : List Op). Comes w (begun (record t { doing = Ended; index = cond (ltb t.index (length p)) (t.index + 1) t.index })) t.event now in
    subst P (sym works.program_is) (go (ltb t.index (length w.program)) refl over number phase)
  where
    -- the rest of the phase at a place
    rest_is : (i : ℕ) → drop i (take (ops_in_first (t.phase + 1) t.phases) t.program) ≡ drop i (take (ops_in_first (t.phase + 1) w.phases) w.program)
    rest_is i = ap (λ ps. drop i (take (ops_in_first (t.phase + 1) ps) t.program)) works.phases_is ∙ ap (λ (p : List Op). drop i (take (ops_in_first (t.phase + 1) w.phases) p)) works.program_is

    go : (b : Bool) → ltb t.index (length w.program) ≡ b → IsOverIf b w t.index t.vars t.cleared now → number_of now ≡ cond b (ordinal w.program t.index) 0 → IsOfPhaseIf b w t.phase t.index →
        Comes w (begun (record t { doing = Ended; index = cond b (t.index + 1) t.index })) t.event now
    go true e over number phase =
        begins w served (t.index + 1) (drop (t.index + 1) (take (ops_in_first (t.phase + 1) t.phases) t.program)) (record t { doing = Ended; index = t.index + 1 }) now works counts (rest_is (t.index + 1)) (omega arith) (omega arith) over
        (λ first. absurd (let bare = ap (λ (p : List Op). length p) (served.clearing first).0 in let below = ltb-true t.index (length w.program) e in omega arith))
    go false e over number phase = subst Q (sym none) (subst R (sym works.phases_is) (last (ltb (t.phase + 1) (length w.phases)) refl))
      where
        past : length w.program ≤ t.index
        past = ltb-false t.index (length w.program) e

        none : drop t.index (take (ops_in_first (t.phase + 1) t.phases) t.program) ≡ []
        none =
            let short = length-take (ops_in_first (t.phase + 1) w.phases) w.program in
            let most = past in
            rest_is t.index ∙ drop_all t.index (take (ops_in_first (t.phase + 1) w.phases) w.program) (omega arith)

        Q : List Op → Type 0
        Q rest = Comes w (begun_at t.index rest (record t { doing = Ended; index = t.index })) t.event now

        R : List (List Op) → Type 0
        R phases = Comes w
            (cond (ltb (t.phase + 1) (length phases)) (record t { doing = Ready; asked = moves.PhaseEnd; phase = t.phase + 1 }) (scope_begun (record t { doing = Ended; index = t.index }))) t.event now

        last : (b : Bool) → ltb (t.phase + 1) (length w.phases) ≡ b →
            Comes w (cond b (record t { doing = Ready; asked = moves.PhaseEnd; phase = t.phase + 1 }) (scope_begun (record t { doing = Ended; index = t.index }))) t.event now
        last true f = let more = ltb-true (t.phase + 1) (length w.phases) f in absurd (omega arith)
        last false f = ends-on w served (record t { doing = Ended; index = t.index }) now works counts e number phase over

-- the destination has its new value, and what it held is dropped last
pub replaces : (w : Work) → IsServedWork w → (t : Thread) (to : ℕ) (new : Option Held) (o : Op) (answer : Answer) (base ns : List Note) → WorksOn w t.layout t.shape t.thread t.phases t.program t.classes t.vars →
    IsCounted w t.hands t.taken t.made t.kept (Line answer ∷ ns) → number_of ns ≡ number_at w t.index → IsOfPhase w t.phase t.index → AreDone w t.index t.vars base → slice_get w.program t.index ≡ Some o → FitsKind w.kinds to new →
    IsAnswered w.thread w.came o (variables t.vars) (Operation (ordinal w.program t.index) ∷ base) (put_var (variables t.vars) to (held_in new)) answer (programs.value (variables t.vars) to) ns →
    Comes w (replaced to new t) t.event (Line answer ∷ ns)
replaces w served t to new o answer base ns works counts number phase done there fits answered = go (value t.vars to) refl
  where
    within : t.index < length w.program
    within = slice_get_within w.program t.index o there

    next : IsNext w.shape w.thread w.came w.program w.count t.index o (variables t.vars) base
    next = record { done = done; there = there }

    works_then : WorksOn w t.layout t.shape t.thread t.phases t.program t.classes (set t.vars to new)
    works_then = works-over w t works (kinds-set w.kinds t.vars to new fits works.kinds)

    go : (old : Option Held) → value t.vars to ≡ old → Comes w (replaced_old old (set_var to new t)) t.event (Line answer ∷ ns)
    go None e =
        let d : AreDone w (t.index + 1) (set t.vars to new) (Line answer ∷ ns) = rw (put-held t.vars to new) (answers_last next (rw (value-held t.vars to None e) at answered)) in
        goes-on w served (set_var to new t) (Line answer ∷ ns) works_then counts number phase (over-done w t.index (set t.vars to new) t.cleared (Line answer ∷ ns) within d)
    go (Some old) e = record {
      after = Line answer ∷ ns;
      says = nothing;
      event = refl;
      stands = drop-asks w (set_var to new t) old (Line answer ∷ ns) works_then counts number phase (counted-in w served t.vars to old works.kinds e)
          (λ after x. over-done w t.index (set t.vars to new) t.cleared after within (rw (put-held t.vars to new) (drops_last next (rw (value-held t.vars to (Some old) e) at answered) x)));
    }
