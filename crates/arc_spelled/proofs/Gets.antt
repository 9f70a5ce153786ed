-- A stepper that reads a cell keeps what it stands for: the access begins, its reference is copied, and the access ends.
use Rattle.std.proofs.Common.{◌≡◌, ℕ, ◌+◌, Bool, true, false, cond, eqb, List, ◌∷◌, Option, Some, None, refl, sym, ap, subst, ◌∙◌}
use Rattle.std.specs.Option.{unwrap_or}
use Rattle.arc_model.specs.declared.answer.Answer.TheVariants as answers
use Rattle.arc_model.specs.declared.event.CellName.{CellName}
use Rattle.arc_model.specs.declared.event.Origin.TheVariants as origins
use Rattle.arc_model.specs.declared.event.Act.TheVariants as acts
use Rattle.arc_spelling.specs.Spelling.{Note, hands_of}
use Rattle.arc_spelling.specs.Spelling.Note.{Did, Line, Operation, Refers}
use Rattle.arc_spelling.specs.SpellingGains.Spare.{Unclaimed}
use Rattle.arc_spelling.specs.SpellingGains.IsReady.{start as ready}
use Rattle.arc_spelling.specs.SpellingGains.IsSettled.{unclaimed}
use Rattle.arc_rule.specs.Attempts.{exchanging, chosen, takes_at as attempt_takes, turned_at as attempt_turned, answer_at as attempt_answer}
use Rattle.arc_rule.specs.declared.step.Step.{Step}
use Rattle.arc_rule.specs.declared.plan.Next.TheVariants as nexts
use Rattle.arc_rule.specs.declared.attempt.At.{At}
use Rattle.arc_rule.specs.declared.attempt.At.TheVariants as attempt
use Rattle.arc_rule.specs.declared.attempt.Choice.TheVariants.{Tell, Write}
use Rattle.arc_plan.specs.declared.slots.Once.{Once}
use Rattle.arc_plan.specs.declared.slots.Once.TheVariants as once
use Rattle.arc_plan.specs.Slots.{once_takes, once_turned, once_answer}
use Rattle.arc_cells.specs.declared.begin.BeginAnswer.TheVariants as begins
use Rattle.arc_cells.specs.Begins.{Beginning, begin_row}
use Rattle.arc_cells.specs.Ends.{AccessEnd, ending}
use Rattle.arc_script.specs.declared.script.Op.{Op}
use Rattle.arc_script.specs.declared.script.Op.TheVariants as op
use Rattle.arc_programs.specs.Programs.IsAnswered.{looked, got}
use Rattle.arc_ops.specs.declared.cell.Cell.{Cell}
use Rattle.arc_ops.specs.declared.gain.Gain.TheVariants as gains
use Rattle.arc_ops.specs.declared.stepper.Held.{Held}
use Rattle.arc_ops.specs.declared.stepper.Doing.TheVariants.{Ended}
use Rattle.arc_served.specs.Programs.{ordinal, KindsFit}
use Rattle.arc_ops.specs.Cells.{source_in, open_begun}
use Rattle.arc_ops.specs.Plans.{gain_begun}
use Rattle.arc_ops.specs.Gets.{found_nil, opened_on, closed_on}
use Rattle.arc_ops.specs.Thread.{Thread, put}
use Rattle.arc_ops.specs.Thread as thread
use Rattle.arc_spelled.specs.Shown.Says.{nothing, line}
use Rattle.arc_spelled.specs.StepperStands.{Work, IsServedWork, IsGetting, IsGot}
use Rattle.arc_spelled.proofs.StepperSteps.{comes-after, counted-line, number-here}
use Rattle.arc_spelled.proofs.Begins.{replaces}
use Rattle.arc_spelled.proofs.Cells.{cell-named, cell-kind}
use Rattle.arc_spelled.proofs.KindsKept.{holds-at, FitsKind, fits-some}
use Rattle.arc_spelled.proofs.Turning.{IsAtWork, given, Turns, plainly}
use Rattle.arc_spelled.proofs.Gains.{AnswersIn}

-- ---- the access begins

open-asks : (w : Work) (t : Thread) (last : Option ℕ) (now : List Note) → IsAtWork w t now → (to : ℕ) (cell : Cell) (plan : Beginning) (step : Step) → IsGetting w t.index to cell t.vars now →
    Turns w t (opened_on to cell plan (nexts.Step step) (given t)) last now
open-asks w t last now work to cell plan step u = plainly w t _ last now None (record {
  after = now;
  says = nothing;
  event = refl;
  stands = record { works = work.works; in_phase = work.phase; counts = work.counts; number = work.number; asks = tt; up_to = u };
})

-- it begins anew
open-begins-again : (w : Work) (t : Thread) (last : Option ℕ) (now : List Note) → IsAtWork w t now → (to : ℕ) (cell : Cell) → IsGetting w t.index to cell t.vars now → Turns w t (open_begun to cell (given t)) last now
open-begins-again w t last now work to cell u = plainly w t _ last now None (record {
  after = now;
  says = nothing;
  event = refl;
  stands = record { works = work.works; in_phase = work.phase; counts = work.counts; number = work.number; asks = tt; up_to = u };
})

-- it has begun, and the reference is to be copied
copy-begins : (w : Work) (t : Thread) (last : Option ℕ) (now : List Note) → IsAtWork w t now → (to : ℕ) (cell : Cell) (word : ℕ) → IsGetting w t.index to cell t.vars now → Turns w t (gain_begun gains.Copy to (source_in cell word) (given t)) last now
copy-begins w t last now work to cell word u = plainly w t _ last now None (record {
  after = now;
  says = nothing;
  event = refl;
  stands = record { works = work.works; in_phase = work.phase; counts = work.counts; number = work.number; asks = tt; up_to = (refl, u) };
})

-- the cell is nil
finds-nil : (w : Work) → IsServedWork w → (t : Thread) (last : Option ℕ) (now : List Note) → IsAtWork w t now → (to : ℕ) (cell : Cell) → IsGetting w t.index to cell t.vars now → Turns w t (found_nil to cell.name (given t)) last now
finds-nil w served t last now work to cell u =
    plainly w t _ last now (Some (acts.Look cell.name))
    (comes-after w _ (Some (acts.Look cell.name)) (Did (acts.Look cell.name) ∷ now) (Line answers.Nil ∷ Did (acts.Look cell.name) ∷ now) (line nothing)
    (replaces w served (put answers.Nil (record t { doing = Ended; first = false; event = Some (acts.Look cell.name) })) to None (op.Get to u.of) answers.Nil u.begun.base (Did (acts.Look cell.name) ∷ now) work.works
    (counted-line w t.hands t.taken t.made t.kept (thread.number_of t) answers.Nil (Did (acts.Look cell.name) ∷ now) (number-here w t (Did (acts.Look cell.name) ∷ now) work.works work.number)
    (record { hands_are = work.counts.hands_are; taken_is = work.counts.taken_is; made_is = work.counts.made_is; lines_are = work.counts.lines_are }))
    work.number work.phase u.begun.done u.begun.there (λ h e. absurd (cc)) (subst P (sym u.begun.now_is) answered)))
  where
    start : List Note
    start = Operation (ordinal w.program t.index) ∷ u.begun.base

    P : List Note → Type 0
    P ns = AnswersIn w t (op.Get to u.of) to None answers.Nil start (Did (acts.Look cell.name) ∷ ns)

    answered : P start
    answered = looked (cell-named w.shape w.classes t.vars u.of cell u.cell_is) (record { replaced = refl; old = refl })

pub opens-on : (w : Work) → IsServedWork w → (t : Thread) (last : Option ℕ) (now : List Note) → IsAtWork w t now → (to : ℕ) (cell : Cell) (plan : Beginning) (a : At) → IsGetting w t.index to cell t.vars now → attempt_takes (λ v. Unit {0}) a last →
    Turns w t (opened_on to cell (record plan { at = attempt_turned begin_row a (unwrap_or last 0) }) (attempt_answer begin_row begins.Held begins.Again plan.place a (unwrap_or last 0)) (given t)) last now
opens-on w served t last now work to cell plan attempt.Start u takes = open-asks w t last now work to cell _ _ u
opens-on w served t last now work to cell plan attempt.Loading u takes = go (eqb (unwrap_or last 0) 0) (eqb (unwrap_or last 0) 1)
  where
    go : (nil busy : Bool) → Turns w t
        (opened_on to cell (record plan { at = exchanging (unwrap_or last 0) (cond nil (Tell begins.Nil) (cond busy (Tell begins.Busy) (Write 1))) })
        (chosen plan.place (unwrap_or last 0) (cond nil (Tell begins.Nil) (cond busy (Tell begins.Busy) (Write 1)))) (given t)) last now
    go true busy = finds-nil w served t last now work to cell u
    go false true = open-begins-again w t last now work to cell u
    go false false = open-asks w t last now work to cell _ _ u
opens-on w served t last now work to cell plan (attempt.Exchanging seen new) u takes = go (eqb (unwrap_or last 0) seen)
  where
    go : (found : Bool) → Turns w t
        (opened_on to cell (record plan { at = attempt.Ended }) (nexts.Done (cond found (begins.Held seen) (begins.Again (record { seen = seen; found = unwrap_or last 0 })))) (given t)) last now
    go true = copy-begins w t last now work to cell seen u
    go false = open-begins-again w t last now work to cell u
opens-on w served t last now work to cell plan attempt.Ended u takes = absurd takes

-- ---- and ends

-- the reference is there, with its line
got-at-last : (w : Work) → IsServedWork w → (t : Thread) (last : Option ℕ) (now : List Note) → IsAtWork w t now → (to : ℕ) (cell : CellName) (held : Held) (plan : AccessEnd) → IsGot w t.index to cell held t.vars now →
    Turns w t (closed_on to cell held plan (nexts.Done tt) (given t)) last now
got-at-last w served t last now work to cell held plan u =
    plainly w t _ last now None
    (comes-after w _ None now (Line answers.Ok ∷ now) (line nothing)
    (replaces w served (put answers.Ok (given t)) to (Some held) o answers.Ok g.begun.base now work.works
    (counted-line w t.hands t.taken t.made t.kept (thread.number_of t) answers.Ok now (number-here w t now work.works work.number) work.counts)
    work.number work.phase g.begun.done g.begun.there fits (subst P (sym now_is) answered)))
  where
    g : IsGetting w t.index to (record { name = cell; kind = held.kind }) t.vars u.before
    g = u.getting

    o : Op
    o = op.Get to g.of

    start : List Note
    start = Operation (ordinal w.program t.index) ∷ g.begun.base

    there : Cell
    there = record { name = cell; kind = held.kind }

    fit : KindsFit w.shape w.classes w.kinds o
    fit = holds-at (KindsFit w.shape w.classes w.kinds) w.program t.index o served.kinds_fit g.begun.there

    fits : FitsKind w.kinds to (Some held)
    fits = fits-some w.kinds to held (cell-kind w.shape w.classes t.vars g.of there g.cell_is ∙ sym fit.0)

    now_is : now ≡ Did (acts.Copy (origins.Cell cell) held.hand) ∷ Refers cell held.kind held.place ∷ start
    now_is = u.now_is ∙ ap (λ (ns : List Note). Did (acts.Copy (origins.Cell cell) held.hand) ∷ Refers cell held.kind held.place ∷ ns) g.begun.now_is

    hand_is : held.hand ≡ hands_of start + 1
    hand_is = u.hand_is ∙ ap (λ (ns : List Note). hands_of ns + 1) g.begun.now_is

    P : List Note → Type 0
    P ns = AnswersIn w t o to (Some held) answers.Ok start ns

    answered : P (Did (acts.Copy (origins.Cell cell) held.hand) ∷ Refers cell held.kind held.place ∷ start)
    answered =
        got (cell-named w.shape w.classes t.vars g.of there g.cell_is) hand_is u.came (record { spare = Unclaimed; decided = Refers cell held.kind held.place ∷ start; ready = ready; settled = unclaimed })
        (record { replaced = refl; old = refl })

pub closes-on : (w : Work) → IsServedWork w → (t : Thread) (last : Option ℕ) (now : List Note) → IsAtWork w t now → (to : ℕ) (cell : CellName) (held : Held) (plan : AccessEnd) (a : Once) → IsGot w t.index to cell held t.vars now → once_takes (λ v. Unit {0}) a last →
    Turns w t (closed_on to cell held (record plan { at = once_turned a }) (once_answer (ending plan) tt a) (given t)) last now
closes-on w served t last now work to cell held plan once.Start u takes = plainly w t _ last now None (record {
  after = now;
  says = nothing;
  event = refl;
  stands = record { works = work.works; in_phase = work.phase; counts = work.counts; number = work.number; asks = tt; up_to = u };
})
closes-on w served t last now work to cell held plan once.Asked u takes = got-at-last w served t last now work to cell held (record plan { at = once.Ended }) u
closes-on w served t last now work to cell held plan once.Ended u takes = absurd takes
