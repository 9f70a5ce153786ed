-- What a stepper stands for, it stands for where more is known of what came into its thread's hands.
use Rattle.std.proofs.Common.{ℕ, Bool, true, false, eqb, ltb, List, length, Option}
use Rattle.arc_model.specs.declared.answer.Answer.{Answer}
use Rattle.arc_model.specs.declared.event.ObjectName.{ObjectName}
use Rattle.arc_model.specs.declared.event.Origin.{Origin}
use Rattle.arc_model.specs.declared.event.Origin.TheVariants as origins
use Rattle.arc_model.specs.declared.shape.Kind.{Kind}
use Rattle.arc_model.specs.Shapes.{HeapShape}
use Rattle.arc_spelling.specs.Spelling.{Note}
use Rattle.arc_cells.specs.Chains.{Frame}
use Rattle.arc_plan.specs.declared.slots.Making.{Making as Search}
use Rattle.arc_plan.specs.declared.slots.Making.TheVariants as search
use Rattle.arc_script.specs.declared.script.Op.{Op}
use Rattle.arc_programs.specs.Variables.{Variables, Held}
use Rattle.arc_programs.specs.Programs.{Hands, IsAnswered, OpsDone, IsProgram, GlobalsCleared}
use Rattle.arc_programs.specs.Programs.IsAnswered.{made, full, copied, unowned_formed, weak_formed, loaded, found_dead, weakly_loaded, found_nil, looked, got, put_in_nil, swapped, no_owner, given_up, nothing_there, moved, from_nil, count_full, no_entry}
use Rattle.arc_programs.specs.Programs.OpsDone.{none, one, block}
use Rattle.arc_programs.specs.Programs.GlobalsCleared.{begins, nil, cleared}
use Rattle.arc_ops.specs.declared.cell.Cell.{Cell}
use Rattle.arc_ops.specs.declared.gain.Gain.{Gain}
use Rattle.arc_ops.specs.declared.stepper.Held.{Held as HeldByStepper}
use Rattle.arc_ops.specs.declared.stepper.Doing.{Doing}
use Rattle.arc_ops.specs.declared.stepper.Doing.TheVariants.{Ready, Making, Gaining, Naming, Opening, Closing, Setting, Clearing, Dropping, Dying, Vacating, Ended}
use Rattle.arc_ops.specs.declared.stepper.Move.{Move}
use Rattle.arc_ops.specs.Thread.{is_busy}
use Rattle.arc_spelled.specs.Came.{Extends, knowing}
use Rattle.arc_spelled.specs.StepperStands.{Work, IsInScope, HasCleared, IsAtEnd, IsOverIf, IsOver, HasEnded, IsBegun, IsMaking, IsMade, MakesUpTo, IsGaining, IsGetting, GainsUpTo, StepperUpTo, IsNumberedIf, IsOfPhaseIf, IsInPhase}
use Rattle.arc_spelled.specs.Spelled.{MoreIsKnown}

-- ---- of programs

answered-too : {p : ℕ} {came more : Hands} {o : Op} {vars vars' : Variables} {answer : Answer} {last : Option Held} {b after : List Note} → Extends came more →
    IsAnswered p came o vars b vars' answer last after → IsAnswered p more o vars b vars' answer last after
answered-too x (made k n r) = made k n r
answered-too x (full v) = full v
answered-too x (copied e k g r) = copied e k g r
answered-too x (unowned_formed e k g r) = unowned_formed e k g r
answered-too x (weak_formed e k g r) = weak_formed e k g r
answered-too x (loaded e u k g r) = loaded e u k g r
answered-too x (found_dead e u g r) = found_dead e u g r
answered-too x (weakly_loaded e u k g r) = weakly_loaded e u k g r
answered-too x (found_nil e u g r) = found_nil e u g r
answered-too x (looked e r) = looked e r
answered-too x (got e k c g r) = got e k (x _ _ c) g r
answered-too x (put_in_nil e h v) = put_in_nil e h v
answered-too x (swapped e h v k c l) = swapped e h v k (x _ _ c) l
answered-too x (no_owner e v n) = no_owner e v n
answered-too x (given_up e r n) = given_up e r n
answered-too x (nothing_there e v n) = nothing_there e v n
answered-too x (moved e r v n) = moved e r v n
answered-too x (from_nil f r n) = from_nil f r n
answered-too x (count_full c g v) = count_full c g v
answered-too x (no_entry c g v) = no_entry c g v

done-too : {shape : HeapShape} {p : ℕ} {came more : Hands} {program : List Op} {count n : ℕ} {vars : Variables} {now : List Note} → Extends came more →
    OpsDone shape p came program count n vars now → OpsDone shape p more program count n vars now
done-too x (none e) = none e
done-too x (one d there e o) = one (done-too x d) there e (record { answer = o.answer; last = o.last; answered = o.answered; does = answered-too x o.does; ends = o.ends })
done-too x (block d there b next forth) = block (done-too x d) there b next forth

program-too : {shape : HeapShape} {p : ℕ} {came more : Hands} {program : List Op} {count : ℕ} {now : List Note} → Extends came more → IsProgram shape p came program count now → IsProgram shape p more program count now
program-too x g = record { vars = g.vars; worked = g.worked; ops = done-too x g.ops; left = g.left; scope = g.scope }

cleared-too : {shape : HeapShape} {came more : Hands} {n : ℕ} {now : List Note} → Extends came more → GlobalsCleared shape came n now → GlobalsCleared shape more n now
cleared-too x begins = begins
cleared-too x (nil c within e) = nil (cleared-too x c) within e
cleared-too x (cleared c within e k there d) = cleared (cleared-too x c) within e k (x _ _ there) d

-- ---- of what is under way

has-cleared-too : {w : Work} {more : Hands} {vars : List (Option HeldByStepper)} {n : ℕ} {now : List Note} → Extends w.came more → HasCleared w vars n now → HasCleared (knowing more w) vars n now
has-cleared-too x c = record { no_vars = c.no_vars; globals = cleared-too x c.globals }

in-scope-too : {w : Work} {more : Hands} {vars : List (Option HeldByStepper)} {now : List Note} → Extends w.came more → IsInScope w vars now → IsInScope (knowing more w) vars now
in-scope-too x s = record { first = s.first; worked = s.worked; ops = done-too x s.ops; same_count = s.same_count; below = s.below; within = s.within; ends = s.ends; nils = s.nils }

over-too : (w : Work) (more : Hands) → Extends w.came more → (i : ℕ) (vars : List (Option HeldByStepper)) (n : ℕ) (now : List Note) → IsOver w i vars n now → IsOver (knowing more w) i vars n now
over-too w more x i vars n now o = go (ltb i (length w.program)) o
  where
    at-end : (b : Bool) → IsAtEnd b w vars n now → IsAtEnd b (knowing more w) vars n now
    at-end true c = has-cleared-too x c
    at-end false s = in-scope-too x s

    go : (b : Bool) → IsOverIf b w i vars n now → IsOverIf b (knowing more w) i vars n now
    go true d = done-too x d
    go false s = at-end (eqb w.thread 0) s

begun-too : {w : Work} {more : Hands} {i : ℕ} {o : Op} {vars : List (Option HeldByStepper)} {now : List Note} → Extends w.came more → IsBegun w i o vars now → IsBegun (knowing more w) i o vars now
begun-too x b = record { base = b.base; done = done-too x b.done; there = b.there; now_is = b.now_is }

making-too : {w : Work} {more : Hands} {i to : ℕ} {name : ObjectName} {vars : List (Option HeldByStepper)} {now : List Note} → Extends w.came more → IsMaking w i to name vars now → IsMaking (knowing more w) i to name vars now
making-too x m = record { begun = begun-too x m.begun; named = m.named }

made-too : {w : Work} {more : Hands} {i to : ℕ} {name : ObjectName} {slot : ℕ} {vars : List (Option HeldByStepper)} {now : List Note} → Extends w.came more → IsMade w i to name slot vars now → IsMade (knowing more w) i to name slot vars now
made-too x m = record { before = m.before; making = making-too x m.making; now_is = m.now_is }

makes-too : (w : Work) (more : Hands) → Extends w.came more → (i to : ℕ) (name : ObjectName) (vars : List (Option HeldByStepper)) (now : List Note) (a : Search) → MakesUpTo w i to name vars now a → MakesUpTo (knowing more w) i to name vars now a
makes-too w more x i to name vars now search.Start u = u
makes-too w more x i to name vars now (search.Looking word) u = making-too x u
makes-too w more x i to name vars now (search.Taking slot seen) u = making-too x u
makes-too w more x i to name vars now (search.Counting slot) u = made-too x u
makes-too w more x i to name vars now (search.Naming slot) u = made-too x u
makes-too w more x i to name vars now search.Ended u = u

gaining-too : {w : Work} {more : Hands} {i to : ℕ} {gain : Gain} {from : HeldByStepper} {vars : List (Option HeldByStepper)} {now : List Note} → Extends w.came more → IsGaining w i gain to from vars now → IsGaining (knowing more w) i gain to from vars now
gaining-too x g = record { of = g.of; begun = begun-too x g.begun; source = g.source }

getting-too : {w : Work} {more : Hands} {i to : ℕ} {cell : Cell} {vars : List (Option HeldByStepper)} {now : List Note} → Extends w.came more → IsGetting w i to cell vars now → IsGetting (knowing more w) i to cell vars now
getting-too x g = record { of = g.of; begun = begun-too x g.begun; cell_is = g.cell_is }

gains-too : (w : Work) (more : Hands) → Extends w.came more → (i : ℕ) (gain : Gain) (to : ℕ) (origin : Origin) (kind : Kind) (place : ℕ) (vars : List (Option HeldByStepper)) (now : List Note) →
    GainsUpTo w i gain to origin kind place vars now → GainsUpTo (knowing more w) i gain to origin kind place vars now
gains-too w more x i gain to (origins.Hand hand) kind place vars now u = gaining-too x u
gains-too w more x i gain to (origins.Cell cell) kind place vars now u = (u.0, getting-too x u.1)

ended-too : (w : Work) (more : Hands) → Extends w.came more → (now : List Note) (b : Bool) → HasEnded b w now → HasEnded b (knowing more w) now
ended-too w more x now true c = cleared-too x c
ended-too w more x now false g = program-too x g

up-to-too : (w : Work) (more : Hands) → Extends w.came more → (i : ℕ) (vars : List (Option HeldByStepper)) (n : ℕ) (fs : List Frame) (asked : Move) (now : List Note) (d : Doing) → StepperUpTo w i vars n fs asked now d → StepperUpTo (knowing more w) i vars n fs asked now d
up-to-too w more x i vars n fs asked now Ready u = record { done = done-too x u.done; uncleared = u.uncleared }
up-to-too w more x i vars n fs asked now (Making to name plan) u = makes-too w more x i to name vars now plan.at u
up-to-too w more x i vars n fs asked now (Gaining gain to from plan) u = gains-too w more x i gain to from.origin from.kind from.place vars now u
up-to-too w more x i vars n fs asked now (Naming to held plan) u = record { from = u.from; before = u.before; gaining = gaining-too x u.gaining; held_is = u.held_is; now_is = u.now_is; waits = u.waits; asks = u.asks }
up-to-too w more x i vars n fs asked now (Opening to cell plan) u = getting-too x u
up-to-too w more x i vars n fs asked now (Closing to cell held plan) u = record { before = u.before; getting = getting-too x u.getting; hand_is = u.hand_is; came = x held.hand _ u.came; now_is = u.now_is }
up-to-too w more x i vars n fs asked now (Setting from cell plan) u = record { of = u.of; begun = begun-too x u.begun; cell_is = u.cell_is }
up-to-too w more x i vars n fs asked now (Clearing plan) u = record { thread_is = u.thread_is; within = u.within; so_far = has-cleared-too x u.so_far }
up-to-too w more x i vars n fs asked now (Dropping held plan) u = record { counted = u.counted; releasing = u.releasing; ends = λ after d. over-too w more x i vars n after (u.ends after d) }
up-to-too w more x i vars n fs asked now (Dying c) u = record { root = u.root; base = u.base; stands = u.stands; layout = u.layout; shape = u.shape; ends = λ after d. over-too w more x i vars n after (u.ends after d) }
up-to-too w more x i vars n fs asked now (Vacating slot plan) u = record { before = u.before; now_is = u.now_is; ends = λ after d. over-too w more x i vars n after (u.ends after d) }
up-to-too w more x i vars n fs asked now Ended u = ended-too w more x now (eqb w.thread 0) u

-- ---- and of its place

of-phase-too : (w : Work) (more : Hands) (phase i : ℕ) (b : Bool) → IsOfPhaseIf b w phase i → IsOfPhaseIf b (knowing more w) phase i
of-phase-too w more phase i true p = p
of-phase-too w more phase i false p = p

in-phase-too : (w : Work) (more : Hands) (phase i : ℕ) (d : Doing) → IsInPhase w phase i d → IsInPhase (knowing more w) phase i d
in-phase-too w more phase i Ready p = p
in-phase-too w more phase i (Making to name plan) p = of-phase-too w more phase i (ltb i (length w.program)) p
in-phase-too w more phase i (Gaining gain to from plan) p = of-phase-too w more phase i (ltb i (length w.program)) p
in-phase-too w more phase i (Naming to held plan) p = of-phase-too w more phase i (ltb i (length w.program)) p
in-phase-too w more phase i (Opening to cell plan) p = of-phase-too w more phase i (ltb i (length w.program)) p
in-phase-too w more phase i (Closing to cell held plan) p = of-phase-too w more phase i (ltb i (length w.program)) p
in-phase-too w more phase i (Setting from cell plan) p = of-phase-too w more phase i (ltb i (length w.program)) p
in-phase-too w more phase i (Clearing plan) p = of-phase-too w more phase i (ltb i (length w.program)) p
in-phase-too w more phase i (Dropping held plan) p = of-phase-too w more phase i (ltb i (length w.program)) p
in-phase-too w more phase i (Dying c) p = of-phase-too w more phase i (ltb i (length w.program)) p
in-phase-too w more phase i (Vacating slot plan) p = of-phase-too w more phase i (ltb i (length w.program)) p
in-phase-too w more phase i Ended p = p

numbered-too : (w : Work) (more : Hands) (i : ℕ) (now : List Note) (b : Bool) → IsNumberedIf b w i now → IsNumberedIf b (knowing more w) i now
numbered-too w more i now true n = n
numbered-too w more i now false n = n

pub more_is_known : MoreIsKnown
more_is_known w more t fs now s x = record {
  works = record { layout_is = s.works.layout_is; shape_is = s.works.shape_is; thread_is = s.works.thread_is; phases_is = s.works.phases_is; program_is = s.works.program_is; classes_are = s.works.classes_are; kinds = s.works.kinds };
  in_phase = in-phase-too w more t.phase t.index t.doing s.in_phase;
  counts = record { hands_are = s.counts.hands_are; taken_is = s.counts.taken_is; made_is = s.counts.made_is; lines_are = s.counts.lines_are };
  number = numbered-too w more t.index now (is_busy t.doing) s.number;
  asks = s.asks;
  up_to = up-to-too w more x t.index t.vars t.cleared fs t.asked now t.doing s.up_to;
}
