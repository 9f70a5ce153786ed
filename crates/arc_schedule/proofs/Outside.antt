-- Whether a thread is inside an access behind a word: it is so from the exchange that begins one up to the store that ends it.
use Rattle.std.proofs.Common.{◌≡◌, ℕ, ◌+◌, Bool, true, false, cond, ltb, List, [], ◌∷◌, take, drop, length, Option, Some, None, refl}
use Rattle.std.specs.Prelude.{position}
use Rattle.arc_model.specs.declared.answer.Answer.TheVariants as answers
use Rattle.arc_model.specs.declared.event.Act.TheVariants as acts
use Rattle.arc_model.specs.declared.event.CellName.{CellName}
use Rattle.arc_model.specs.declared.event.Got.TheVariants as gots
use Rattle.arc_model.specs.declared.event.ObjectName.{ObjectName}
use Rattle.arc_model.specs.declared.shape.Kind.{Kind}
use Rattle.arc_model.specs.declared.shape.Kind.TheVariants.{Strong, Unowned, Weak}
use Rattle.arc_rule.specs.declared.plan.Next.{Next}
use Rattle.arc_rule.specs.declared.plan.Next.TheVariants as nexts
use Rattle.arc_plan.specs.declared.slots.NewObjectAnswer.{NewObjectAnswer}
use Rattle.arc_plan.specs.declared.slots.NewObjectAnswer.TheVariants.{Slot, NoSlot, Again}
use Rattle.arc_plan.specs.Slots.{Creation, OneStep}
use Rattle.arc_side.specs.declared.up.UpAnswer.{UpAnswer}
use Rattle.arc_side.specs.declared.up.UpAnswer.TheVariants as ups
use Rattle.arc_side.specs.declared.down.DownAnswer.{DownAnswer}
use Rattle.arc_side.specs.declared.down.DownAnswer.TheVariants as downs
use Rattle.arc_side.specs.Ups.{Rise}
use Rattle.arc_side.specs.Downs.{Fall}
use Rattle.arc_cells.specs.declared.begin.BeginAnswer.{BeginAnswer}
use Rattle.arc_cells.specs.declared.begin.BeginAnswer.TheVariants as begins
use Rattle.arc_cells.specs.declared.swap.SwapAnswer.{SwapAnswer}
use Rattle.arc_cells.specs.declared.swap.SwapAnswer.TheVariants as swaps
use Rattle.arc_cells.specs.declared.cascade.CascadeNext.{CascadeNext}
use Rattle.arc_cells.specs.declared.cascade.CascadeNext.TheVariants as says
use Rattle.arc_cells.specs.Begins.{Beginning}
use Rattle.arc_cells.specs.Ends.{AccessEnd}
use Rattle.arc_cells.specs.Swaps.{SwapAttempt}
use Rattle.arc_cells.specs.Cascades.{CascadeState, cascade_turned, cascade_answer}
use Rattle.arc_script.specs.declared.script.Op.{Op}
use Rattle.arc_script.specs.declared.script.Op.TheVariants as op
use Rattle.arc_script.specs.declared.script.OpCell.TheVariants as opcell
use Rattle.arc_ops.specs.declared.stepper.Held.{Held}
use Rattle.arc_ops.specs.declared.stepper.Doing.TheVariants.{Ready, Ended}
use Rattle.arc_ops.specs.declared.stepper.Move.TheVariants as moves
use Rattle.arc_ops.specs.declared.cell.Cell.{Cell}
use Rattle.arc_ops.specs.declared.gain.Gain.{Gain}
use Rattle.arc_ops.specs.declared.gain.Gain.TheVariants as gains
use Rattle.arc_ops.specs.Thread.{Thread, value, is_held, put, set_var, in_access}
use Rattle.arc_served.specs.Programs.{class_of}
use Rattle.arc_ops.specs.Cells.{field_of, held_in, hand_in, swapped, clear_begun}
use Rattle.arc_ops.specs.Gains.{gained, came_by, gained_on, named_on}
use Rattle.arc_ops.specs.Gets.{opened_on, closed_on}
use Rattle.arc_ops.specs.Sets.{set_on}
use Rattle.arc_ops.specs.Takes.{IsGainAnswer}
use Rattle.arc_ops.specs.Begins.{skipped, moved, begun_nil, begun_gain, begun_move, begun_drop, begun_get, begun_set, phase_end, phase_over, block_goes_on, at_place, begun_op, begun_at, has_globals, scope_drop, scope_at, scope_begun, next_op}
use Rattle.arc_ops.specs.Drops.{last_gone, dropped_on, dying_asks, dying_on, vacated_on, replaced_old}
use Rattle.arc_ops.specs.Makes.{strong_to, made_on}
use Rattle.arc_schedule.proofs.Tells.{idle, in_hand, in_cell}

abbrev IsOutside : Thread → Type 0
IsOutside t = in_access t ≡ false

-- ---- what begins is outside

scope-outside : (t : Thread) → IsOutside t → IsOutside (scope_begun t)
scope-outside t out = go (position is_held t.vars)
  where
    at : (v : ℕ) (o : Option Held) → IsOutside (scope_drop v o t)
    at v None = out
    at v (Some h) = refl

    over : (b : Bool) → IsOutside (cond b (clear_begun t) (record t { doing = Ended; asked = moves.Ended }))
    over true = refl
    over false = refl

    go : (o : Option ℕ) → IsOutside (scope_at o t)
    go None = over (has_globals t)
    go (Some v) = at v (value t.vars v)

phase-outside : (t : Thread) → IsOutside t → IsOutside (phase_over t)
phase-outside t out = go (ltb (t.phase + 1) (length t.phases))
  where
    go : (b : Bool) → IsOutside (cond b (record t { doing = Ready; asked = moves.PhaseEnd; phase = t.phase + 1 }) (scope_begun t))
    go true = refl
    go false = scope-outside t out

nil-outside : (to : ℕ) (old : Option Held) (t : Thread) (rest : Thread → Thread) → IsOutside (rest (skipped answers.Nil t)) → IsOutside (begun_nil to old t rest)
nil-outside to None t rest e = e
nil-outside to (Some h) t rest e = refl

gain-outside : (gain : Gain) (to : ℕ) (source old : Option Held) (t : Thread) (rest : Thread → Thread) → IsOutside (rest (skipped answers.Nil t)) → IsOutside (begun_gain gain to source old t rest)
gain-outside gain to (Some h) old t rest e = refl
gain-outside gain to None old t rest e = nil-outside to old t rest e

op-outside : (o : Op) (t : Thread) (rest : Thread → Thread) → IsOutside t → ((u : Thread) → IsOutside u → IsOutside (rest u)) → IsOutside (begun_op o t rest)
op-outside (op.New to class) t rest out e = refl
op-outside (op.Copy to from) t rest out e = gain-outside gains.Copy to (value t.vars from) (value t.vars to) t rest (e (skipped answers.Nil t) out)
op-outside (op.Unown to of) t rest out e = gain-outside gains.Unown to (value t.vars of) (value t.vars to) t rest (e (skipped answers.Nil t) out)
op-outside (op.Load to of) t rest out e = gain-outside gains.Load to (value t.vars of) (value t.vars to) t rest (e (skipped answers.Nil t) out)
op-outside (op.Move to from) t rest out e = go (value t.vars from) (value t.vars to)
  where
    go : (source old : Option Held) → IsOutside (begun_move to from source old t rest)
    go (Some h) (Some old) = refl
    go (Some h) None = e (moved to from h (skipped answers.Ok t)) out
    go None old = nil-outside to old t rest (e (skipped answers.Nil t) out)
op-outside (op.Drop v) t rest out e = go (value t.vars v)
  where
    go : (old : Option Held) → IsOutside (begun_drop v old t rest)
    go (Some h) = refl
    go None = e (skipped answers.Nil t) out
op-outside (op.Weak to of) t rest out e = e (skipped answers.Nil t) out
op-outside (op.Get to (opcell.Global g)) t rest out e = refl
op-outside (op.Get to (opcell.Field owner field)) t rest out e = go (value t.vars owner)
  where
    go : (held : Option Held) → IsOutside (begun_get to (field_of t.shape (class_of t.classes owner) field held) (value t.vars to) t rest)
    go (Some h) = refl
    go None = nil-outside to (value t.vars to) t rest (e (skipped answers.Nil t) out)
op-outside (op.Set (opcell.Global g) from) t rest out e = refl
op-outside (op.Set (opcell.Field owner field) from) t rest out e = go (value t.vars owner)
  where
    go : (held : Option Held) → IsOutside (begun_set from (field_of t.shape (class_of t.classes owner) field held) t rest)
    go (Some h) = refl
    go None = e (skipped answers.Nil t) out
op-outside (op.IfNil v past) t rest out e = e (at_place (block_goes_on t.vars t.index (op.IfNil v past)) t) out
op-outside (op.IfSome v past) t rest out e = e (at_place (block_goes_on t.vars t.index (op.IfSome v past)) t) out

pub begun-outside : (at : ℕ) (rest : List Op) (t : Thread) → IsOutside t → IsOutside (begun_at at rest t)
begun-outside at [] t out = phase-outside t out
begun-outside at (o ∷ rest) t out = go (λ u away. begun-outside (at + 1) rest u away) (ltb at t.index)
  where
    go : ((u : Thread) → IsOutside u → IsOutside (begun_at (at + 1) rest u)) → (b : Bool) →
        IsOutside (cond b (begun_at (at + 1) rest t) (begun_op o t (λ (behind : Thread). begun_at (at + 1) rest behind)))
    go e true = e t out
    go e false = op-outside o t (λ (behind : Thread). begun_at (at + 1) rest behind) out e

next-outside : (t : Thread) → IsOutside (next_op t)
next-outside t =
    begun-outside (cond (ltb t.index (length t.program)) (t.index + 1) t.index) (drop (cond (ltb t.index (length t.program)) (t.index + 1) t.index) (take (phase_end t) t.program))
    (record t { doing = Ended; index = cond (ltb t.index (length t.program)) (t.index + 1) t.index }) refl

old-outside : (old : Option Held) (t : Thread) → IsOutside (replaced_old old t)
old-outside None t = next-outside t
old-outside (Some h) t = refl

-- ---- each plan

pub made-outside : (t : Thread) (to : ℕ) (name : ObjectName) (plan : Creation) (n : Next NewObjectAnswer) → IsOutside (made_on to name plan n (idle t))
made-outside t to name plan (nexts.Step s) = refl
made-outside t to name plan (nexts.Done (Slot x)) = old-outside (value t.vars to) (set_var to (Some (strong_to t.hands x)) (put (answers.New name) (idle t)))
made-outside t to name plan (nexts.Done NoSlot) = next-outside (put answers.Full (record (idle t) { event = Some acts.Full }))
made-outside t to name plan (nexts.Done (Again c)) = refl

pub gained-outside : (t : Thread) (gain : Gain) (to hand : ℕ) (kind : Kind) (place : ℕ) (plan : Rise) (n : Next UpAnswer) → IsOutside (gained_on gain to (in_hand hand kind place) plan n (idle t))
gained-outside t gain to hand kind place plan (nexts.Step s) = refl
gained-outside t gains.Copy to hand kind place plan (nexts.Done ups.Up) =
    old-outside (value t.vars to) (set_var to (Some (gained gains.Copy (in_hand hand kind place) t)) (put answers.Ok (came_by gains.Copy (in_hand hand kind place) (idle t))))
gained-outside t gains.Unown to hand kind place plan (nexts.Done ups.Up) =
    old-outside (value t.vars to) (set_var to (Some (gained gains.Unown (in_hand hand kind place) t)) (put answers.Ok (came_by gains.Unown (in_hand hand kind place) (idle t))))
gained-outside t gains.Load to hand kind place plan (nexts.Done ups.Up) = refl
gained-outside t gain to hand kind place plan (nexts.Done ups.Dead) = old-outside (value t.vars to) (set_var to None (put answers.Dead (record (idle t) { event = Some (acts.Load hand gots.Dead) })))
gained-outside t gain to hand kind place plan (nexts.Done ups.AtCap) = refl
gained-outside t gain to hand kind place plan (nexts.Done ups.CountFull) = refl
gained-outside t gain to hand kind place plan (nexts.Done (ups.Again c)) = refl

-- a copy from a cell stays inside, and so does the end of the access until it is made
pub got-inside : (t : Thread) (to : ℕ) (cell : CellName) (kind : Kind) (place : ℕ) (plan : Rise) (n : Next UpAnswer) → IsGainAnswer gains.Copy n → in_access (gained_on gains.Copy to (in_cell cell kind place) plan n (idle t)) ≡ true
got-inside t to cell kind place plan (nexts.Step s) fits = refl
got-inside t to cell kind place plan (nexts.Done ups.Up) fits = refl
got-inside t to cell kind place plan (nexts.Done ups.Dead) fits = absurd fits
got-inside t to cell kind place plan (nexts.Done ups.AtCap) fits = absurd fits
got-inside t to cell kind place plan (nexts.Done ups.CountFull) fits = absurd fits
got-inside t to cell kind place plan (nexts.Done (ups.Again c)) fits = refl

abbrev pub is_held_answer : Next BeginAnswer → Bool
is_held_answer (nexts.Done (begins.Held w)) = true
is_held_answer _ = false

pub opened-inside : (t : Thread) (to : ℕ) (cell : Cell) (plan : Beginning) (n : Next BeginAnswer) → in_access (opened_on to cell plan n (idle t)) ≡ is_held_answer n
opened-inside t to cell plan (nexts.Step s) = refl
opened-inside t to cell plan (nexts.Done (begins.Held w)) = refl
opened-inside t to cell plan (nexts.Done begins.Nil) = old-outside (value t.vars to) (set_var to None (put answers.Nil (record (idle t) { event = Some (acts.Look cell.name) })))
opened-inside t to cell plan (nexts.Done begins.Busy) = refl
opened-inside t to cell plan (nexts.Done (begins.Again c)) = refl

pub closed-outside : (t : Thread) (to : ℕ) (cell : CellName) (held : Held) (plan : AccessEnd) → IsOutside (closed_on to cell held plan (nexts.Done tt) (idle t))
closed-outside t to cell held plan = old-outside (value t.vars to) (set_var to (Some held) (put answers.Ok (idle t)))

pub set-outside : (t : Thread) (from : ℕ) (cell : Cell) (plan : SwapAttempt) (n : Next SwapAnswer) → IsOutside (set_on from cell plan n (idle t))
set-outside t from cell plan (nexts.Step s) = refl
set-outside t from cell plan (nexts.Done (swaps.Took w)) =
    old-outside (held_in cell.kind (t.hands + 1) w) (put answers.Ok (set_var from None (swapped cell.name (hand_in (value t.vars from)) (held_in cell.kind (t.hands + 1) w) (idle t))))
set-outside t from cell plan (nexts.Done swaps.Busy) = refl
set-outside t from cell plan (nexts.Done (swaps.Again c)) = refl

pub named-outside : (t : Thread) (to : ℕ) (held : Held) (plan : OneStep) (n : Next ObjectName) → IsOutside (named_on to held plan n (idle t))
named-outside t to held plan (nexts.Step s) = refl
named-outside t to held plan (nexts.Done name) = old-outside (value t.vars to) (set_var to (Some held) (put (answers.Got name) (idle t)))

pub dropped-outside : (t : Thread) (held : Held) (plan : Fall) (n : Next DownAnswer) → IsOutside (dropped_on held plan n (idle t))
dropped-outside t held plan (nexts.Step s) = refl
dropped-outside t held plan (nexts.Done (downs.More entry)) = next-outside (record (idle t) { event = Some (acts.Drop held.hand false) })
dropped-outside t held plan (nexts.Done (downs.Last entry)) = go held.kind
  where
    go : (k : Kind) → IsOutside (last_gone k held.place (record (idle t) { event = Some (acts.Drop held.hand true) }))
    go Strong = refl
    go Unowned = refl
    go Weak = refl
dropped-outside t held plan (nexts.Done (downs.Again c)) = refl

pub vacated-outside : (t : Thread) (slot : ℕ) (plan : OneStep) (n : Next (Unit {0})) → IsOutside (vacated_on slot plan n (idle t))
vacated-outside t slot plan (nexts.Step s) = refl
vacated-outside t slot plan (nexts.Done a) = next-outside (record (idle t) { event = Some (acts.Vacate slot) })

asks-outside : (c : CascadeState) (n : CascadeNext) (t : Thread) → IsOutside t → IsOutside (dying_asks c n t)
asks-outside c (says.Step s intent) t out = refl
asks-outside c (says.Died name) t out = out
asks-outside c says.Done t out = out

pub dying-outside : (c : CascadeState) (n : CascadeNext) (t : Thread) → IsOutside t → IsOutside (dying_on c n t)
dying-outside c (says.Step s intent) t out = refl
dying-outside c (says.Died name) t out = asks-outside (cascade_turned c None) (cascade_answer c None) (put (answers.Deinit name) t) out
dying-outside c says.Done t out = next-outside t
