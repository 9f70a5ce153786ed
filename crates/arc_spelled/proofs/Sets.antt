-- A stepper that writes a cell, or clears a global, keeps what it stands for.
use Rattle.std.proofs.Common.{◌≡◌, ℕ, ◌+◌, ◌-◌, ◌<◌, Bool, true, false, cond, eqb, ltb, List, ◌∷◌, length, set, Option, Some, None, refl, sym, ap, subst, ◌∙◌, arith}
use Rattle.std.proofs.lemmas.Bool.{ltb-true}
use Rattle.std.proofs.lemmas.Option.{slice_get_within}
use Rattle.std.specs.Option.{unwrap_or}
use Rattle.arc_model.specs.declared.answer.Answer.TheVariants as answers
use Rattle.arc_model.specs.declared.event.CellName.TheVariants as cells
use Rattle.arc_model.specs.declared.event.Act.{Act}
use Rattle.arc_model.specs.declared.event.Act.TheVariants as acts
use Rattle.arc_spelling.specs.Spelling.{Note, hands_of}
use Rattle.arc_spelling.specs.Spelling.Note.{Did, Line, Operation}
use Rattle.arc_rule.specs.Attempts.{exchanging, chosen, takes_at as attempt_takes, turned_at as attempt_turned, answer_at as attempt_answer}
use Rattle.arc_rule.specs.declared.step.Step.{Step}
use Rattle.arc_rule.specs.declared.plan.Next.{Next}
use Rattle.arc_rule.specs.declared.plan.Next.TheVariants as nexts
use Rattle.arc_rule.specs.declared.attempt.At.{At}
use Rattle.arc_rule.specs.declared.attempt.At.TheVariants as attempt
use Rattle.arc_rule.specs.declared.attempt.Choice.TheVariants.{Tell, Write}
use Rattle.arc_side.specs.Inline.{IsCountedInline}
use Rattle.arc_cells.specs.declared.swap.SwapAnswer.{SwapAnswer}
use Rattle.arc_cells.specs.declared.swap.SwapAnswer.TheVariants as swaps
use Rattle.arc_cells.specs.Swaps.{SwapAttempt, swap_row}
use Rattle.arc_script.specs.declared.script.Op.{Op}
use Rattle.arc_script.specs.declared.script.Op.TheVariants as op
use Rattle.arc_script.specs.declared.script.OpCell.TheVariants as opcell
use Rattle.arc_programs.specs.Variables as programs
use Rattle.arc_programs.specs.Programs.{IsAnswered}
use Rattle.arc_programs.specs.Programs.IsAnswered.{put_in_nil, swapped as exchanged}
use Rattle.arc_programs.specs.Programs.GlobalsCleared.{nil as global_nil, cleared as global_cleared}
use Rattle.arc_programs.proofs.ProgramsSteps.{IsNext, answers_last, drops_last}
use Rattle.arc_ops.specs.declared.cell.Cell.{Cell}
use Rattle.arc_ops.specs.declared.stepper.Held.{Held}
use Rattle.arc_ops.specs.declared.stepper.Doing.TheVariants.{Ended}
use Rattle.arc_served.specs.Programs.{ordinal}
use Rattle.arc_ops.specs.Cells.{hand_in, set_begun, clear_begun, next_global}
use Rattle.arc_ops.specs.Sets.{set_to, set_on, cleared, cleared_on}
use Rattle.arc_ops.specs.Thread.{Thread, value, put}
use Rattle.arc_ops.specs.Thread as thread
use Rattle.arc_spelled.specs.Came.{was_there, swapped_out, came_out, KnowsWhatComes}
use Rattle.arc_spelled.specs.Shown.Says.{nothing, line}
use Rattle.arc_spelled.specs.StepperStands.{Work, IsServedWork, held_of, held_in, variables, HasCleared, IsAtEnd, IsOverIf, IsOver, IsPutting, IsClearing, WorksOn, IsCounted}
use Rattle.arc_spelled.proofs.StepperSteps.{value-held, put-held, works-over, comes-after, counted-line, number-here, over-done, drop-asks}
use Rattle.arc_spelled.proofs.Begins.{goes-on}
use Rattle.arc_spelled.proofs.Cells.{cell-named, cell-kind}
use Rattle.arc_spelled.proofs.KindsKept.{kinds-nil, counted-cell}
use Rattle.arc_spelled.proofs.Turning.{IsAtWork, given, Turns, plainly}

-- what the exchange brings comes out of the cell
abbrev SetsOn : Work → Thread → Option ℕ → List Note → ℕ → Cell → SwapAttempt → Next SwapAnswer → Type 0
SetsOn w t last now from cell plan answer = swapped_out cell (t.hands + 1) answer ≡ came_out t last → Turns w t (set_on from cell plan answer (given t)) last now

set-asks : (w : Work) (t : Thread) (last : Option ℕ) (now : List Note) → IsAtWork w t now → (from : ℕ) (cell : Cell) (plan : SwapAttempt) (step : Step) → IsPutting w t.index from cell t.vars now →
    SetsOn w t last now from cell plan (nexts.Step step)
set-asks w t last now work from cell plan step u out = plainly w t _ last now None (record {
  after = now;
  says = nothing;
  event = refl;
  stands = record { works = work.works; in_phase = work.phase; counts = work.counts; number = work.number; asks = tt; up_to = u };
})

-- it begins anew
set-begins-again : (w : Work) (t : Thread) (last : Option ℕ) (now : List Note) → IsAtWork w t now → (from : ℕ) (cell : Cell) → IsPutting w t.index from cell t.vars now → Turns w t (set_begun from cell (given t)) last now
set-begins-again w t last now work from cell u = plainly w t _ last now None (record {
  after = now;
  says = nothing;
  event = refl;
  stands = record { works = work.works; in_phase = work.phase; counts = work.counts; number = work.number; asks = tt; up_to = u };
})

-- the hand of what a variable holds is the same in the notes
same-hand : (o : Option Held) → hand_in o ≡ programs.hand_in (held_in o)
same-hand None = refl
same-hand (Some h) = refl

hand-put : (vars : List (Option Held)) (from : ℕ) → hand_in (value vars from) ≡ programs.hand_in (programs.value (variables vars) from)
hand-put vars from = same-hand (value vars from) ∙ ap programs.hand_in (sym (value-held vars from (value vars from) refl))

-- the reference, or nil, is in the cell, and what the cell had is dropped last
sets-to : (w : Work) → IsServedWork w → (t : Thread) (last : Option ℕ) (now : List Note) → IsAtWork w t now → KnowsWhatComes w.came t last → (from : ℕ) (cell : Cell) (place : ℕ) → IsPutting w t.index from cell t.vars now → (nil : Bool) →
    was_there cell.name (cond nil None (Some (record { hand = t.hands + 1; kind = cell.kind; place = place }))) ≡ came_out t last →
    Turns w t (set_to from cell (cond nil None (Some (record { hand = t.hands + 1; kind = cell.kind; place = place }))) (given t)) last now
sets-to w served t last now work knows from cell place u = go
  where
    put_there : Option ℕ
    put_there = hand_in (value t.vars from)

    o : Op
    o = op.Set u.of from

    there : Held
    there = record { hand = t.hands + 1; kind = cell.kind; place = place }

    named : programs.cell_of (variables t.vars) u.of ≡ Some cell.name
    named = cell-named w.shape w.classes t.vars u.of cell u.cell_is

    start : List Note
    start = Operation (ordinal w.program t.index) ∷ u.begun.base

    next : IsNext w.shape w.thread w.came w.program w.count t.index o (variables t.vars) u.begun.base
    next = record { done = u.begun.done; there = u.begun.there }

    within : t.index < length w.program
    within = slice_get_within w.program t.index o u.begun.there

    works : WorksOn w t.layout t.shape t.thread t.phases t.program t.classes (set t.vars from None)
    works = works-over w t work.works (kinds-nil w.kinds t.vars from work.works.kinds)

    AnswersWith : (out : Option ℕ) → Option programs.Held → List Note → Type 0
    AnswersWith out old ns = IsAnswered w.thread w.came o (variables t.vars) start (programs.put (variables t.vars) from None) answers.Ok old (Did (acts.Swap cell.name put_there out) ∷ ns)

    nothing_there : AnswersWith None None now
    nothing_there = subst (λ (ns : List Note). AnswersWith None None ns) (sym u.begun.now_is) (put_in_nil named (hand-put t.vars from) refl)

    something_there : w.came (t.hands + 1) ≡ Some (record { kind = cell.kind; place = place }) → AnswersWith (Some (t.hands + 1)) (Some (held_of there)) now
    something_there came = subst (λ (ns : List Note). AnswersWith (Some (t.hands + 1)) (Some (held_of there)) ns) (sym u.begun.now_is) (exchanged named (hand-put t.vars from) refl hand_is came refl)
      where
        hand_is : t.hands + 1 ≡ hands_of start + 1
        hand_is = ap (λ (n : ℕ). n + 1) work.counts.hands_are ∙ ap (λ (ns : List Note). hands_of ns + 1) u.begun.now_is

    go : (nil : Bool) → was_there cell.name (cond nil None (Some there)) ≡ came_out t last → Turns w t (set_to from cell (cond nil None (Some there)) (given t)) last now
    go true out =
        let event : Act = acts.Swap cell.name put_there None in
        let counts : IsCounted w t.hands t.taken t.made t.kept (Did event ∷ now) = record { hands_are = work.counts.hands_are; taken_is = work.counts.taken_is; made_is = work.counts.made_is; lines_are = work.counts.lines_are } in
        plainly w t _ last now (Some event)
        (comes-after w _ (Some event) (Did event ∷ now) (Line answers.Ok ∷ Did event ∷ now) (line nothing)
        (goes-on w served (put answers.Ok (record t { doing = Ended; first = false; event = Some event; vars = set t.vars from None })) (Line answers.Ok ∷ Did event ∷ now) works
        (counted-line w t.hands t.taken t.made t.kept (thread.number_of t) answers.Ok (Did event ∷ now) (number-here w t (Did event ∷ now) work.works work.number) counts)
        work.number work.phase (over-done w t.index (set t.vars from None) t.cleared (Line answers.Ok ∷ Did event ∷ now) within (rw (put-held t.vars from None) (answers_last next nothing_there)))))
    go false out =
        let event : Act = acts.Swap cell.name put_there (Some (t.hands + 1)) in
        let counts : IsCounted w (t.hands + 1) t.taken t.made t.kept (Did event ∷ now) = record { hands_are = ap (λ (n : ℕ). n + 1) work.counts.hands_are; taken_is = work.counts.taken_is; made_is = work.counts.made_is; lines_are = work.counts.lines_are } in
        let came : w.came (t.hands + 1) ≡ Some (record { kind = cell.kind; place = place }) = knows (record { cell = cell.name; hand = t.hands + 1; kind = cell.kind; place = place }) (sym out) in
        plainly w t _ last now (Some event) (record {
          after = Line answers.Ok ∷ Did event ∷ now;
          says = line nothing;
          event = refl;
          stands = drop-asks w (put answers.Ok (record t { doing = Ended; first = false; event = Some event; hands = t.hands + 1; vars = set t.vars from None })) there (Line answers.Ok ∷ Did event ∷ now) works
              (counted-line w (t.hands + 1) t.taken t.made t.kept (thread.number_of t) answers.Ok (Did event ∷ now) (number-here w t (Did event ∷ now) work.works work.number) counts)
              work.number work.phase (rw (cell-kind w.shape w.classes t.vars u.of cell u.cell_is) (counted-cell w served u.of))
              (λ after x. over-done w t.index (set t.vars from None) t.cleared after within (rw (put-held t.vars from None) (drops_last next (something_there came) x)));
        })

pub sets-on : (w : Work) → IsServedWork w → (t : Thread) (last : Option ℕ) (now : List Note) → IsAtWork w t now → KnowsWhatComes w.came t last → (from : ℕ) (cell : Cell) (plan : SwapAttempt) (a : At) → IsPutting w t.index from cell t.vars now → attempt_takes (λ v. Unit {0}) a last →
    SetsOn w t last now from cell (record plan { at = attempt_turned (swap_row plan.new) a (unwrap_or last 0) }) (attempt_answer (swap_row plan.new) swaps.Took swaps.Again plan.place a (unwrap_or last 0))
sets-on w served t last now work knows from cell plan attempt.Start u takes = set-asks w t last now work from cell _ _ u
sets-on w served t last now work knows from cell plan attempt.Loading u takes = go (eqb (unwrap_or last 0) 1)
  where
    go : (busy : Bool) → SetsOn w t last now from cell (record plan { at = exchanging (unwrap_or last 0) (cond busy (Tell swaps.Busy) (Write plan.new)) }) (chosen plan.place (unwrap_or last 0) (cond busy (Tell swaps.Busy) (Write plan.new)))
    go true = λ out. set-begins-again w t last now work from cell u
    go false = set-asks w t last now work from cell _ _ u
sets-on w served t last now work knows from cell plan (attempt.Exchanging seen new) u takes = go (eqb (unwrap_or last 0) seen)
  where
    go : (found : Bool) → SetsOn w t last now from cell (record plan { at = attempt.Ended }) (nexts.Done (cond found (swaps.Took seen) (swaps.Again (record { seen = seen; found = unwrap_or last 0 }))))
    go true = sets-to w served t last now work knows from cell (seen - 2) u (eqb seen 0)
    go false = λ out. set-begins-again w t last now work from cell u
sets-on w served t last now work knows from cell plan attempt.Ended u takes = absurd takes

-- ---- thread 0 clears the globals

abbrev ClearsOn : Work → Thread → Option ℕ → List Note → SwapAttempt → Next SwapAnswer → Type 0
ClearsOn w t last now plan answer = swapped_out (next_global t) (t.hands + 1) answer ≡ came_out t last → Turns w t (cleared_on plan answer (given t)) last now

clear-asks : (w : Work) (t : Thread) (last : Option ℕ) (now : List Note) → IsAtWork w t now → (plan : SwapAttempt) (step : Step) → IsClearing w t.vars t.cleared now → ClearsOn w t last now plan (nexts.Step step)
clear-asks w t last now work plan step u out = plainly w t _ last now None (record {
  after = now;
  says = nothing;
  event = refl;
  stands = record { works = work.works; in_phase = work.phase; counts = work.counts; number = work.number; asks = tt; up_to = u };
})

clear-begins-again : (w : Work) (t : Thread) (last : Option ℕ) (now : List Note) → IsAtWork w t now → IsClearing w t.vars t.cleared now → Turns w t (clear_begun (given t)) last now
clear-begins-again w t last now work u = plainly w t _ last now None (record {
  after = now;
  says = nothing;
  event = refl;
  stands = record { works = work.works; in_phase = work.phase; counts = work.counts; number = work.number; asks = tt; up_to = u };
})

-- thread 0 has no operation, so what it has cleared is all that is over
over-cleared : (w : Work) → IsServedWork w → (i : ℕ) (vars : List (Option Held)) (n : ℕ) (now : List Note) → w.thread ≡ 0 → HasCleared w vars n now → IsOver w i vars n now
over-cleared w served i vars n now first c = go (ltb i (length w.program)) refl
  where
    go : (b : Bool) → ltb i (length w.program) ≡ b → IsOverIf b w i vars n now
    go true e = let below = ltb-true i (length w.program) e in let bare = ap (λ (p : List Op). length p) (served.clearing first).0 in absurd (omega arith)
    go false e = subst (λ (p : ℕ). IsAtEnd (eqb p 0) w vars n now) (sym first) c

-- the global is nil, and what it had is dropped
clears-it : (w : Work) → IsServedWork w → (t : Thread) (last : Option ℕ) (now : List Note) → IsAtWork w t now → KnowsWhatComes w.came t last → (place : ℕ) → IsClearing w t.vars t.cleared now → (nil : Bool) →
    was_there (next_global t).name (cond nil None (Some (record { hand = t.hands + 1; kind = (next_global t).kind; place = place }))) ≡ came_out t last →
    Turns w t (cleared (next_global t) (cond nil None (Some (record { hand = t.hands + 1; kind = (next_global t).kind; place = place }))) (given t)) last now
clears-it w served t last now work knows place u = go
  where
    there : Held
    there = record { hand = t.hands + 1; kind = (next_global t).kind; place = place }

    counted : IsCountedInline there.kind
    counted = rw work.works.shape_is (counted-cell w served (opcell.Global t.cleared))

    go : (nil : Bool) → was_there (next_global t).name (cond nil None (Some there)) ≡ came_out t last → Turns w t (cleared (next_global t) (cond nil None (Some there)) (given t)) last now
    go true out =
        let event : Act = acts.Swap (cells.Global t.cleared) None None in
        let counts : IsCounted w t.hands t.taken t.made t.kept (Did event ∷ now) = record { hands_are = work.counts.hands_are; taken_is = work.counts.taken_is; made_is = work.counts.made_is; lines_are = work.counts.lines_are } in
        plainly w t _ last now (Some event)
        (goes-on w served (record t { doing = Ended; first = false; event = Some event; cleared = t.cleared + 1 }) (Did event ∷ now) work.works counts work.number work.phase
        (over-cleared w served t.index t.vars (t.cleared + 1) (Did event ∷ now) u.thread_is (record { no_vars = u.so_far.no_vars; globals = global_nil u.so_far.globals u.within refl })))
    go false out =
        let event : Act = acts.Swap (cells.Global t.cleared) None (Some (t.hands + 1)) in
        let hand_is : t.hands + 1 ≡ hands_of now + 1 = ap (λ (n : ℕ). n + 1) work.counts.hands_are in
        let counts : IsCounted w (t.hands + 1) t.taken t.made t.kept (Did event ∷ now) = record { hands_are = hand_is; taken_is = work.counts.taken_is; made_is = work.counts.made_is; lines_are = work.counts.lines_are } in
        let came : w.came (t.hands + 1) ≡ Some (record { kind = there.kind; place = place }) = knows (record { cell = cells.Global t.cleared; hand = t.hands + 1; kind = there.kind; place = place }) (sym out) in
        plainly w t _ last now (Some event) (record {
          after = Did event ∷ now;
          says = nothing;
          event = refl;
          stands = drop-asks w (record t { doing = Ended; first = false; event = Some event; hands = t.hands + 1; cleared = t.cleared + 1 }) there (Did event ∷ now) work.works counts work.number work.phase counted
              (λ after x. over-cleared w served t.index t.vars (t.cleared + 1) after u.thread_is (record { no_vars = u.so_far.no_vars; globals = global_cleared u.so_far.globals u.within refl hand_is came x }));
        })

pub clears-on : (w : Work) → IsServedWork w → (t : Thread) (last : Option ℕ) (now : List Note) → IsAtWork w t now → KnowsWhatComes w.came t last → (plan : SwapAttempt) (a : At) → IsClearing w t.vars t.cleared now → attempt_takes (λ v. Unit {0}) a last →
    ClearsOn w t last now (record plan { at = attempt_turned (swap_row plan.new) a (unwrap_or last 0) }) (attempt_answer (swap_row plan.new) swaps.Took swaps.Again plan.place a (unwrap_or last 0))
clears-on w served t last now work knows plan attempt.Start u takes = clear-asks w t last now work _ _ u
clears-on w served t last now work knows plan attempt.Loading u takes = go (eqb (unwrap_or last 0) 1)
  where
    go : (busy : Bool) → ClearsOn w t last now (record plan { at = exchanging (unwrap_or last 0) (cond busy (Tell swaps.Busy) (Write plan.new)) }) (chosen plan.place (unwrap_or last 0) (cond busy (Tell swaps.Busy) (Write plan.new)))
    go true = λ out. clear-begins-again w t last now work u
    go false = clear-asks w t last now work _ _ u
clears-on w served t last now work knows plan (attempt.Exchanging seen new) u takes = go (eqb (unwrap_or last 0) seen)
  where
    go : (found : Bool) → ClearsOn w t last now (record plan { at = attempt.Ended }) (nexts.Done (cond found (swaps.Took seen) (swaps.Again (record { seen = seen; found = unwrap_or last 0 }))))
    go true = clears-it w served t last now work knows (seen - 2) u (eqb seen 0)
    go false = λ out. clear-begins-again w t last now work u
clears-on w served t last now work knows plan attempt.Ended u takes = absurd takes
