-- The event that a stepper tells is that of the plan under way and of the word that its step found.
use Rattle.std.proofs.Common.{◌≡◌, ℕ, ◌+◌, ◌-◌, Bool, true, false, cond, eqb, ltb, List, [], ◌∷◌, take, drop, length, Option, Some, None, refl, ap, ◌∙◌}
use Rattle.std.specs.Prelude.{position, bit_and}
use Rattle.arc_model.specs.declared.answer.Answer.TheVariants as answers
use Rattle.arc_model.specs.declared.event.ObjectName.{ObjectName}
use Rattle.arc_model.specs.declared.event.Got.TheVariants as gots
use Rattle.arc_model.specs.declared.shape.Kind.{Kind}
use Rattle.arc_model.specs.declared.shape.Kind.TheVariants.{Strong, Unowned, Weak}
use Rattle.arc_model.specs.declared.event.Act.TheVariants as acts
use Rattle.arc_model.specs.declared.event.Origin.TheVariants as origins
use Rattle.arc_model.specs.declared.event.CellName.{CellName}
use Rattle.arc_model.specs.declared.event.CellName.TheVariants as cells
use Rattle.arc_rule.specs.declared.plan.Next.{Next}
use Rattle.arc_rule.specs.declared.plan.Next.TheVariants as nexts
use Rattle.arc_plan.specs.declared.slots.Making.{Making as Search}
use Rattle.arc_plan.specs.declared.slots.Making.TheVariants as search
use Rattle.arc_plan.specs.declared.slots.NewObjectAnswer.TheVariants.{NoSlot, Again}
use Rattle.arc_side.specs.declared.up.UpAnswer.{UpAnswer}
use Rattle.arc_side.specs.declared.up.UpAnswer.TheVariants as ups
use Rattle.arc_side.specs.declared.down.DownAnswer.{DownAnswer}
use Rattle.arc_side.specs.declared.down.DownAnswer.TheVariants as downs
use Rattle.arc_side.specs.Ups.{Rise}
use Rattle.arc_side.specs.Downs.{Fall}
use Rattle.arc_plan.specs.Slots.{Creation, OneStep, free_slot, looked, looked_answer, making_turned, making_answer, looking, counting}
use Rattle.arc_rule.specs.Bits.{words_of, bit_of}
use Rattle.arc_cells.specs.declared.cascade.CascadeNext.{CascadeNext}
use Rattle.arc_cells.specs.declared.cascade.CascadeNext.TheVariants as says
use Rattle.arc_cells.specs.Cascades.{CascadeState, cascade_turned, cascade_answer}
use Rattle.arc_script.specs.declared.script.Op.{Op}
use Rattle.arc_script.specs.declared.script.Op.TheVariants as op
use Rattle.arc_script.specs.declared.script.OpCell.TheVariants as opcell
use Rattle.arc_cells.specs.declared.begin.BeginAnswer.{BeginAnswer}
use Rattle.arc_cells.specs.declared.begin.BeginAnswer.TheVariants as begins
use Rattle.arc_cells.specs.declared.swap.SwapAnswer.{SwapAnswer}
use Rattle.arc_cells.specs.declared.swap.SwapAnswer.TheVariants as swaps
use Rattle.arc_cells.specs.Begins.{Beginning}
use Rattle.arc_cells.specs.Ends.{AccessEnd}
use Rattle.arc_cells.specs.Swaps.{SwapAttempt}
use Rattle.arc_ops.specs.declared.stepper.Held.{Held}
use Rattle.arc_ops.specs.declared.stepper.Doing.TheVariants.{Ready, Ended}
use Rattle.arc_ops.specs.declared.stepper.Move.TheVariants as moves
use Rattle.arc_ops.specs.declared.gain.Gain.{Gain}
use Rattle.arc_ops.specs.declared.gain.Gain.TheVariants as gains
use Rattle.arc_ops.specs.Thread.{Thread, value, is_held, put, set_var}
use Rattle.arc_ops.specs.declared.cell.Cell.{Cell}
use Rattle.arc_ops.specs.declared.gain.Source.{Source}
use Rattle.arc_served.specs.Programs.{class_of}
use Rattle.arc_ops.specs.Cells.{field_of, held_in, hand_in, swapped, clear_begun, next_global}
use Rattle.arc_ops.specs.Gets.{opened_on, closed_on}
use Rattle.arc_ops.specs.Sets.{set_on, cleared_on}
use Rattle.arc_ops.specs.Gains.{gained, came_by, gained_on, named_on}
use Rattle.arc_ops.specs.Takes.{IsGainAnswer}
use Rattle.arc_ops.specs.Begins.{skipped, moved, begun_nil, begun_gain, begun_move, begun_drop, begun_get, begun_set, phase_end, phase_over, block_goes_on, at_place, begun_op, begun_at, has_globals, scope_drop, scope_at, scope_begun, next_op}
use Rattle.arc_ops.specs.Drops.{last_gone, dropped_on, dying_asks, dying_on, vacated_on, replaced_old, replaced}
use Rattle.arc_ops.specs.Makes.{strong_to, made_on}
use Rattle.arc_schedule.specs.Plans.{told_by, making_told, up_told, down_told, vacate_told, begin_told, swap_told, hand_for}
use Rattle.arc_schedule.specs.Operations.{get_acts, hand_of}
use Rattle.arc_schedule.proofs.Deinits.{ref}
use Rattle.arc_schedule.proofs.Stands.{rises_of, MadeUpTo}

abbrev pub idle : Thread → Thread
idle t = record t { doing = Ended; first = false; event = None }

-- ---- what comes after the event tells none

scope-event : (t : Thread) → (scope_begun t).event ≡ t.event
scope-event t = go (position is_held t.vars)
  where
    at : (v : ℕ) (o : Option Held) → (scope_drop v o t).event ≡ t.event
    at v None = refl
    at v (Some h) = refl

    over : (b : Bool) → (cond b (clear_begun t) (record t { doing = Ended; asked = moves.Ended })).event ≡ t.event
    over true = refl
    over false = refl

    go : (o : Option ℕ) → (scope_at o t).event ≡ t.event
    go None = over (has_globals t)
    go (Some v) = at v (value t.vars v)

phase-event : (t : Thread) → (phase_over t).event ≡ t.event
phase-event t = go (ltb (t.phase + 1) (length t.phases))
  where
    go : (b : Bool) → (cond b (record t { doing = Ready; asked = moves.PhaseEnd; phase = t.phase + 1 }) (scope_begun t)).event ≡ t.event
    go true = refl
    go false = scope-event t

nil-event : (to : ℕ) (old : Option Held) (t : Thread) (rest : Thread → Thread) → (rest (skipped answers.Nil t)).event ≡ t.event → (begun_nil to old t rest).event ≡ t.event
nil-event to None t rest e = e
nil-event to (Some h) t rest e = refl

gain-event : (gain : Gain) (to : ℕ) (source old : Option Held) (t : Thread) (rest : Thread → Thread) → ((u : Thread) → (rest u).event ≡ u.event) → (begun_gain gain to source old t rest).event ≡ t.event
gain-event gain to (Some h) old t rest e = refl
gain-event gain to None old t rest e = nil-event to old t rest (e (skipped answers.Nil t))

op-event : (o : Op) (t : Thread) (rest : Thread → Thread) → ((u : Thread) → (rest u).event ≡ u.event) → (begun_op o t rest).event ≡ t.event
op-event (op.New to class) t rest e = refl
op-event (op.Copy to from) t rest e = gain-event gains.Copy to (value t.vars from) (value t.vars to) t rest e
op-event (op.Unown to of) t rest e = gain-event gains.Unown to (value t.vars of) (value t.vars to) t rest e
op-event (op.Load to of) t rest e = gain-event gains.Load to (value t.vars of) (value t.vars to) t rest e
op-event (op.Move to from) t rest e = go (value t.vars from) (value t.vars to)
  where
    go : (source old : Option Held) → (begun_move to from source old t rest).event ≡ t.event
    go (Some h) (Some old) = refl
    go (Some h) None = e (moved to from h (skipped answers.Ok t))
    go None old = nil-event to old t rest (e (skipped answers.Nil t))
op-event (op.Drop v) t rest e = go (value t.vars v)
  where
    go : (old : Option Held) → (begun_drop v old t rest).event ≡ t.event
    go (Some h) = refl
    go None = e (skipped answers.Nil t)
op-event (op.Weak to of) t rest e = e (skipped answers.Nil t)
op-event (op.Get to (opcell.Global g)) t rest e = refl
op-event (op.Get to (opcell.Field owner field)) t rest e = go (value t.vars owner)
  where
    go : (held : Option Held) → (begun_get to (field_of t.shape (class_of t.classes owner) field held) (value t.vars to) t rest).event ≡ t.event
    go (Some h) = refl
    go None = nil-event to (value t.vars to) t rest (e (skipped answers.Nil t))
op-event (op.Set (opcell.Global g) from) t rest e = refl
op-event (op.Set (opcell.Field owner field) from) t rest e = go (value t.vars owner)
  where
    go : (held : Option Held) → (begun_set from (field_of t.shape (class_of t.classes owner) field held) t rest).event ≡ t.event
    go (Some h) = refl
    go None = e (skipped answers.Nil t)
op-event (op.IfNil v past) t rest e = e (at_place (block_goes_on t.vars t.index (op.IfNil v past)) t)
op-event (op.IfSome v past) t rest e = e (at_place (block_goes_on t.vars t.index (op.IfSome v past)) t)

begun-event : (at : ℕ) (rest : List Op) (t : Thread) → (begun_at at rest t).event ≡ t.event
begun-event at [] t = phase-event t
begun-event at (o ∷ rest) t = go (λ u. begun-event (at + 1) rest u) (ltb at t.index)
  where
    go : ((u : Thread) → (begun_at (at + 1) rest u).event ≡ u.event) → (b : Bool) →
        (cond b (begun_at (at + 1) rest t) (begun_op o t (λ (behind : Thread). begun_at (at + 1) rest behind))).event ≡ t.event
    go e true = e t
    go e false = op-event o t (λ (behind : Thread). begun_at (at + 1) rest behind) e

next-event : (t : Thread) → (next_op t).event ≡ t.event
next-event t =
    begun-event (cond (ltb t.index (length t.program)) (t.index + 1) t.index) (drop (cond (ltb t.index (length t.program)) (t.index + 1) t.index) (take (phase_end t) t.program)) (record t { doing = Ended; index = cond (ltb t.index (length t.program)) (t.index + 1) t.index })

replaced-event : (to : ℕ) (new : Option Held) (t : Thread) → (replaced to new t).event ≡ t.event
replaced-event to new t = go (value t.vars to)
  where
    go : (o : Option Held) → (replaced_old o (set_var to new t)).event ≡ t.event
    go None = next-event (set_var to new t)
    go (Some old) = refl

-- ---- the event of each plan

pub makes-tells : (t : Thread) (w to : ℕ) (name : ObjectName) (plan : Creation) (a : Search) (slots before held : ℕ) → MadeUpTo slots before held t.made t.hands a →
    (made_on to name (record plan { at = making_turned plan.layout.slots a w }) (making_answer plan a w) (idle t)).event ≡ making_told (held + 1) name.class a (making_answer plan a w)
makes-tells t w to name plan search.Start slots before held count = absurd count
makes-tells t w to name plan (search.Looking x) slots before held count = go (free_slot plan.layout.slots x w)
  where
    none : (c : Bool) → (made_on to name (record plan { at = cond c (search.Looking (x + 1)) search.Ended }) (cond c (nexts.Step (looking plan.layout (x + 1))) (nexts.Done NoSlot)) (idle t)).event ≡
        making_told (held + 1) name.class (search.Looking x) (cond c (nexts.Step (looking plan.layout (x + 1))) (nexts.Done NoSlot))
    none true = refl
    none false = next-event (put answers.Full (record (idle t) { event = Some acts.Full }))

    go : (o : Option ℕ) → (made_on to name (record plan { at = looked plan.layout.slots x w o }) (looked_answer plan.layout x o) (idle t)).event ≡ making_told (held + 1) name.class (search.Looking x) (looked_answer plan.layout x o)
    go (Some s) = refl
    go None = none (ltb (x + 1) (words_of plan.layout.slots))
makes-tells t w to name plan (search.Taking x seen) slots before held count = go (eqb (bit_and w (bit_of x)) 0)
  where
    go : (b : Bool) → (made_on to name (record plan { at = cond b (search.Counting x) search.Ended }) (cond b (nexts.Step (counting plan.layout plan.immortal x)) (nexts.Done (Again (record { seen = seen; found = w })))) (idle t)).event ≡
        making_told (held + 1) name.class (search.Taking x seen) (cond b (nexts.Step (counting plan.layout plan.immortal x)) (nexts.Done (Again (record { seen = seen; found = w }))))
    go true = let hands = count.1 in rw hands refl
    go false = refl
makes-tells t w to name plan (search.Counting x) slots before held count = refl
makes-tells t w to name plan (search.Naming x) slots before held count = replaced-event to (Some (strong_to t.hands x)) (put (answers.New name) (idle t))
makes-tells t w to name plan search.Ended slots before held count = absurd count

-- a reference in the hands
abbrev pub in_hand : (hand : ℕ) → Kind → (place : ℕ) → Source
in_hand hand kind place = record { origin = origins.Hand hand; kind = kind; place = place }

pub gains-tells : (t : Thread) (gain : Gain) (to hand : ℕ) (kind : Kind) (place : ℕ) (next : Rise) (n : Next UpAnswer) → IsGainAnswer gain n →
    (gained_on gain to (in_hand hand kind place) next n (idle t)).event ≡ told_by (up_told (rises_of gain hand (t.hands + 1))) n
gains-tells t gain to hand kind place next (nexts.Step s) fits = refl
gains-tells t gains.Copy to hand kind place next (nexts.Done ups.Up) fits = replaced-event to (Some (gained gains.Copy (in_hand hand kind place) t)) (put answers.Ok (came_by gains.Copy (in_hand hand kind place) (idle t)))
gains-tells t gains.Unown to hand kind place next (nexts.Done ups.Up) fits = replaced-event to (Some (gained gains.Unown (in_hand hand kind place) t)) (put answers.Ok (came_by gains.Unown (in_hand hand kind place) (idle t)))
gains-tells t gains.Load to hand kind place next (nexts.Done ups.Up) fits = refl
gains-tells t gains.Copy to hand kind place next (nexts.Done ups.Dead) fits = absurd fits
gains-tells t gains.Unown to hand kind place next (nexts.Done ups.Dead) fits = absurd fits
gains-tells t gains.Load to hand kind place next (nexts.Done ups.Dead) fits = replaced-event to None (put answers.Dead (record (idle t) { event = Some (acts.Load hand gots.Dead) }))
gains-tells t gain to hand kind place next (nexts.Done ups.AtCap) fits = absurd fits
gains-tells t gain to hand kind place next (nexts.Done ups.CountFull) fits = absurd fits
gains-tells t gain to hand kind place next (nexts.Done (ups.Again c)) fits = refl

-- the reference in a cell
abbrev pub in_cell : CellName → Kind → (place : ℕ) → Source
in_cell cell kind place = record { origin = origins.Cell cell; kind = kind; place = place }

pub gets-tells : (t : Thread) (to : ℕ) (cell : CellName) (kind : Kind) (place : ℕ) (next : Rise) (n : Next UpAnswer) → IsGainAnswer gains.Copy n →
    (gained_on gains.Copy to (in_cell cell kind place) next n (idle t)).event ≡ told_by (up_told (get_acts cell (t.hands + 1))) n
gets-tells t to cell kind place next (nexts.Step s) fits = refl
gets-tells t to cell kind place next (nexts.Done ups.Up) fits = refl
gets-tells t to cell kind place next (nexts.Done ups.Dead) fits = absurd fits
gets-tells t to cell kind place next (nexts.Done ups.AtCap) fits = absurd fits
gets-tells t to cell kind place next (nexts.Done ups.CountFull) fits = absurd fits
gets-tells t to cell kind place next (nexts.Done (ups.Again c)) fits = refl

pub opens-tells : (t : Thread) (to : ℕ) (cell : Cell) (next : Beginning) (n : Next BeginAnswer) → (opened_on to cell next n (idle t)).event ≡ told_by (begin_told cell.name) n
opens-tells t to cell next (nexts.Step s) = refl
opens-tells t to cell next (nexts.Done (begins.Held w)) = refl
opens-tells t to cell next (nexts.Done begins.Nil) = replaced-event to None (put answers.Nil (record (idle t) { event = Some (acts.Look cell.name) }))
opens-tells t to cell next (nexts.Done begins.Busy) = refl
opens-tells t to cell next (nexts.Done (begins.Again c)) = refl

pub closes-tells : (t : Thread) (to : ℕ) (cell : CellName) (held : Held) (next : AccessEnd) (n : Next (Unit {0})) → (closed_on to cell held next n (idle t)).event ≡ None
closes-tells t to cell held next (nexts.Step s) = refl
closes-tells t to cell held next (nexts.Done a) = replaced-event to (Some held) (put answers.Ok (idle t))

-- the exchange tells what was put and what was there
old-event : (there : Option Held) (t : Thread) → (replaced_old there t).event ≡ t.event
old-event None t = next-event t
old-event (Some h) t = refl

took-event : (cell : CellName) (put : Option ℕ) (kind : Kind) (w : ℕ) (t : Thread) → (swapped cell put (held_in kind (t.hands + 1) w) t).event ≡ Some (acts.Swap cell put (hand_for (t.hands + 1) w))
took-event cell put kind w t = go (eqb w 0)
  where
    go : (b : Bool) → (swapped cell put (cond b None (Some (record { hand = t.hands + 1; kind = kind; place = w - 2 }))) t).event ≡ Some (acts.Swap cell put (cond b None (Some (t.hands + 1))))
    go true = refl
    go false = refl

pub hand-is : (o : Option Held) → hand_in o ≡ hand_of (ref o)
hand-is None = refl
hand-is (Some h) = refl

pub sets-tells : (t : Thread) (from : ℕ) (cell : Cell) (next : SwapAttempt) (n : Next SwapAnswer) →
    (set_on from cell next n (idle t)).event ≡ told_by (swap_told cell.name (hand_of (ref (value t.vars from))) (t.hands + 1)) n
sets-tells t from cell next (nexts.Step s) = refl
sets-tells t from cell next (nexts.Done (swaps.Took w)) =
    old-event (held_in cell.kind (t.hands + 1) w) (put answers.Ok (set_var from None (swapped cell.name (hand_in (value t.vars from)) (held_in cell.kind (t.hands + 1) w) (idle t)))) ∙
    took-event cell.name (hand_in (value t.vars from)) cell.kind w (idle t) ∙
    ap (λ (h : Option ℕ). Some (acts.Swap cell.name h (hand_for (t.hands + 1) w))) (hand-is (value t.vars from))
sets-tells t from cell next (nexts.Done swaps.Busy) = refl
sets-tells t from cell next (nexts.Done (swaps.Again c)) = refl

pub clears-tells : (t : Thread) (next : SwapAttempt) (n : Next SwapAnswer) → (cleared_on next n (idle t)).event ≡ told_by (swap_told (cells.Global t.cleared) None (t.hands + 1)) n
clears-tells t next (nexts.Step s) = refl
clears-tells t next (nexts.Done (swaps.Took w)) =
    let kind : Kind = (next_global t).kind in
    old-event (held_in kind (t.hands + 1) w) (swapped (next_global t).name None (held_in kind (t.hands + 1) w) (record (idle t) { cleared = t.cleared + 1 })) ∙
    took-event (next_global t).name None kind w (record (idle t) { cleared = t.cleared + 1 })
clears-tells t next (nexts.Done swaps.Busy) = refl
clears-tells t next (nexts.Done (swaps.Again c)) = refl

pub names-tells : (t : Thread) (to : ℕ) (held : Held) (next : OneStep) (n : Next ObjectName) → (named_on to held next n (idle t)).event ≡ None
names-tells t to held next (nexts.Step s) = refl
names-tells t to held next (nexts.Done name) = replaced-event to (Some held) (put (answers.Got name) (idle t))

pub drops-tells : (t : Thread) (held : Held) (next : Fall) (n : Next DownAnswer) → (dropped_on held next n (idle t)).event ≡ told_by (down_told held.hand) n
drops-tells t held next (nexts.Step s) = refl
drops-tells t held next (nexts.Done (downs.More entry)) = next-event (record (idle t) { event = Some (acts.Drop held.hand false) })
drops-tells t held next (nexts.Done (downs.Last entry)) = go held.kind
  where
    go : (k : Kind) → (last_gone k held.place (record (idle t) { event = Some (acts.Drop held.hand true) })).event ≡ Some (acts.Drop held.hand true)
    go Strong = refl
    go Unowned = refl
    go Weak = refl
drops-tells t held next (nexts.Done (downs.Again c)) = refl

pub ends-tells : (t : Thread) (slot : ℕ) (next : OneStep) (n : Next (Unit {0})) → (vacated_on slot next n (idle t)).event ≡ told_by (vacate_told slot) n
ends-tells t slot next (nexts.Step s) = refl
ends-tells t slot next (nexts.Done a) = next-event (record (idle t) { event = Some (acts.Vacate slot) })

-- the event of a turn of a deinit stays
asks-event : (c : CascadeState) (n : CascadeNext) (t : Thread) → (dying_asks c n t).event ≡ t.event
asks-event c (says.Step s intent) t = refl
asks-event c (says.Died name) t = refl
asks-event c says.Done t = refl

pub dying-tells : (c : CascadeState) (n : CascadeNext) (t : Thread) → (dying_on c n t).event ≡ t.event
dying-tells c (says.Step s intent) t = refl
dying-tells c (says.Died name) t = asks-event (cascade_turned c None) (cascade_answer c None) (put (answers.Deinit name) t)
dying-tells c says.Done t = next-event t
