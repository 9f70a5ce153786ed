-- A turn of a thread stays in its phase, or ends it.
use Rattle.std.proofs.Common.{◌≡◌, ◌⊎◌, inl, inr, ℕ, ◌+◌, ◌≤◌, ◌<◌, Bool, true, false, cond, ltb, List, [], ◌∷◌, length, drop, take, Option, Some, None, refl, sym, ap, ◌∙◌, subst}
use Rattle.std.proofs.lemmas.Bool.{ltb-true, ltb-false}
use Rattle.std.specs.Prelude.{position}
use Rattle.arc_rule.specs.declared.step.Step.{Step}
use Rattle.arc_rule.specs.declared.step.Intent.{Intent}
use Rattle.arc_rule.specs.declared.step.Intent.TheVariants as intents
use Rattle.arc_rule.specs.declared.plan.Next.{Next}
use Rattle.arc_rule.specs.declared.plan.Next.TheVariants as nexts
use Rattle.arc_plan.specs.declared.slots.NewObjectAnswer.{NewObjectAnswer}
use Rattle.arc_plan.specs.declared.slots.NewObjectAnswer.TheVariants.{Slot, NoSlot, Again}
use Rattle.arc_plan.specs.Slots.{Creation, OneStep, slot_taken, creation_turned, creation_answer, one_turned, name_of_answer, vacate_answer}
use Rattle.arc_side.specs.declared.up.UpAnswer.{UpAnswer}
use Rattle.arc_side.specs.declared.up.UpAnswer.TheVariants as ups
use Rattle.arc_side.specs.declared.down.DownAnswer.{DownAnswer}
use Rattle.arc_side.specs.declared.down.DownAnswer.TheVariants as downs
use Rattle.arc_side.specs.Ups.{Rise, up_turned, up_answer}
use Rattle.arc_side.specs.Downs.{Fall, down_turned, down_answer}
use Rattle.arc_cells.specs.declared.cascade.CascadeNext.{CascadeNext}
use Rattle.arc_cells.specs.declared.cascade.CascadeNext.TheVariants as says
use Rattle.arc_cells.specs.Cascades.{CascadeState, cascade_turned, cascade_answer}
use Rattle.arc_model.specs.declared.event.ObjectName.{ObjectName}
use Rattle.arc_model.specs.declared.event.Act.TheVariants as acts
use Rattle.arc_model.specs.declared.event.Got.TheVariants as gots
use Rattle.arc_model.specs.declared.shape.Kind.{Kind}
use Rattle.arc_model.specs.declared.shape.Kind.TheVariants.{Strong, Unowned, Weak}
use Rattle.arc_model.specs.declared.answer.Answer.TheVariants as answers
use Rattle.arc_script.specs.declared.script.Op.{Op}
use Rattle.arc_script.specs.declared.script.Op.TheVariants as op
use Rattle.arc_model.specs.declared.event.CellName.{CellName}
use Rattle.arc_model.specs.declared.event.Origin.{Origin}
use Rattle.arc_model.specs.declared.event.Origin.TheVariants as origins
use Rattle.arc_cells.specs.declared.begin.BeginAnswer.{BeginAnswer}
use Rattle.arc_cells.specs.declared.begin.BeginAnswer.TheVariants as begins
use Rattle.arc_cells.specs.declared.swap.SwapAnswer.{SwapAnswer}
use Rattle.arc_cells.specs.declared.swap.SwapAnswer.TheVariants as swaps
use Rattle.arc_cells.specs.Begins.{Beginning, begin_turned, begin_answer}
use Rattle.arc_cells.specs.Ends.{AccessEnd, end_turned, end_answer}
use Rattle.arc_cells.specs.Swaps.{SwapAttempt, swap_turned, swap_answer}
use Rattle.arc_ops.specs.declared.cell.Cell.{Cell}
use Rattle.arc_ops.specs.declared.gain.Source.{Source}
use Rattle.arc_ops.specs.Cells.{cell_of, source_in, held_in, hand_in, swapped, open_begun, set_begun, clear_begun, next_global}
use Rattle.arc_ops.specs.Gets.{opened_on, closed_on}
use Rattle.arc_ops.specs.Sets.{set_on, cleared_on}
use Rattle.arc_ops.specs.declared.stepper.Held.{Held}
use Rattle.arc_ops.specs.declared.stepper.Doing.{Doing}
use Rattle.arc_ops.specs.declared.stepper.Doing.TheVariants.{Ready, Making, Gaining, Naming, Opening, Closing, Setting, Clearing, Dropping, Dying, Vacating, Ended}
use Rattle.arc_ops.specs.declared.stepper.Move.{Move}
use Rattle.arc_ops.specs.declared.stepper.Move.TheVariants as moves
use Rattle.arc_ops.specs.declared.gain.Gain.{Gain}
use Rattle.arc_ops.specs.declared.gain.Gain.TheVariants as gains
use Rattle.arc_ops.specs.Thread.{Thread, value, set_var, put, asking, is_held}
use Rattle.arc_ops.specs.Plans.{hand_of, of_hand, drop_begun, gain_begun, make_begun, make_begun_as}
use Rattle.arc_ops.specs.Begins.{skipped, begun_nil, begun_gain, moved, begun_move, begun_drop, begun_get, begun_set, begun_op, has_globals, scope_drop, scope_at, scope_begun, phase_end, phase_over, block_goes_on, at_place, begun_at, begun, next_op}
use Rattle.arc_ops.specs.Drops.{replaced_old, replaced, dying_asks, last_gone, dropped_on, deinit_tells, dying_on, vacated_on}
use Rattle.arc_ops.specs.Gains.{gained, came_by, has_gained, gained_on, named_on}
use Rattle.arc_ops.specs.Makes.{came_to, made_on, strong_to}
use Rattle.arc_ops.specs.Turns.{turned_at, turned}

-- Where a thread of so many phases is that was in phase n: it asks for a step in it, waits for the next one, or that was its last.
abbrev pub IsBehind : (phases n : ℕ) → Move → Doing → (phase : ℕ) → Type 0
IsBehind phases n (moves.Step step intent) doing phase = phase ≡ n
IsBehind phases n moves.PhaseEnd doing phase = doing ≡ Ready → (phase ≡ n + 1) × (phase < phases)
IsBehind phases n moves.Ended doing phase = phases ≤ n + 1

abbrev pub IsAfter : (phases : List (List Op)) → (n : ℕ) → Thread → Type 0
IsAfter phases n t = (t.phases ≡ phases) × IsBehind (length phases) n t.asked t.doing t.phase

-- the thread has begun nothing in its phase n
pub record IsIdle (phases : List (List Op)) (n : ℕ) (t : Thread) : Type 0 where
  pub phases_are : t.phases ≡ phases
  pub phase_is : t.phase ≡ n
  pub idle : t.doing ≡ Ended

-- as it was asked for a step
abbrev HasAsked : Thread → Type 0
HasAsked t = (step : Step) × (intent : Intent) × (t.asked ≡ moves.Step step intent)

module _ (phases : List (List Op)) (n : ℕ) where
  not_ready : {d : Doing} → d ≡ Ended → d ≡ Ready → ⊥
  not_ready ended ready = absurd cc

  -- it stays as it is
  asked_stays : (t : Thread) → IsIdle phases n t → HasAsked t → IsAfter phases n t
  asked_stays t i (step, intent, asked) = (i.phases_are, subst (λ (m : Move). IsBehind (length phases) n m t.doing t.phase) (sym asked) i.phase_is)

  last_stays : (t : Thread) → IsIdle phases n t → length phases ≤ n + 1 → IsAfter phases n t
  last_stays t i last = (i.phases_are, go t.asked)
    where
      go : (m : Move) → IsBehind (length phases) n m t.doing t.phase
      go (moves.Step step intent) = i.phase_is
      go moves.PhaseEnd = λ ready. absurd (not_ready i.idle ready)
      go moves.Ended = last

  -- ---- a step is asked for

  drop_after : (held : Held) (t : Thread) → IsIdle phases n t → IsAfter phases n (drop_begun held t)
  drop_after held t i = (i.phases_are, i.phase_is)

  make_after : (to class : ℕ) (t : Thread) → IsIdle phases n t → IsAfter phases n (make_begun to class t)
  make_after to class t i = (i.phases_are, i.phase_is)

  make_as_after : (to : ℕ) (name : ObjectName) (t : Thread) → IsIdle phases n t → IsAfter phases n (make_begun_as to name t)
  make_as_after to name t i = (i.phases_are, i.phase_is)

  gain_after : (gain : Gain) (to : ℕ) (from : Source) (t : Thread) → IsIdle phases n t → IsAfter phases n (gain_begun gain to from t)
  gain_after gain to from t i = (i.phases_are, i.phase_is)

  open_after : (to : ℕ) (cell : Cell) (t : Thread) → IsIdle phases n t → IsAfter phases n (open_begun to cell t)
  open_after to cell t i = (i.phases_are, i.phase_is)

  set_after : (from : ℕ) (cell : Cell) (t : Thread) → IsIdle phases n t → IsAfter phases n (set_begun from cell t)
  set_after from cell t i = (i.phases_are, i.phase_is)

  clear_after : (t : Thread) → IsIdle phases n t → IsAfter phases n (clear_begun t)
  clear_after t i = (i.phases_are, i.phase_is)

  -- ---- the next operation

  scope_after : (t : Thread) → IsIdle phases n t → length phases ≤ n + 1 → IsAfter phases n (scope_begun t)
  scope_after t i last = at (position is_held t.vars)
    where
      dropped : (v : ℕ) (m : Option Held) → IsAfter phases n (scope_drop v m t)
      dropped v None = last_stays t i last
      dropped v (Some held) = drop_after held (set_var v None t) (record { phases_are = i.phases_are; phase_is = i.phase_is; idle = i.idle })

      over : (b : Bool) → IsAfter phases n (cond b (clear_begun t) (record t { doing = Ended; asked = moves.Ended }))
      over true = clear_after t i
      over false = (i.phases_are, last)

      at : (m : Option ℕ) → IsAfter phases n (scope_at m t)
      at None = over (has_globals t)
      at (Some v) = dropped v (value t.vars v)

  over_after : (t : Thread) → IsIdle phases n t → IsAfter phases n (phase_over t)
  over_after t i = go (ltb (t.phase + 1) (length t.phases)) refl
    where
      go : (b : Bool) → ltb (t.phase + 1) (length t.phases) ≡ b → IsAfter phases n (cond b (record t { doing = Ready; asked = moves.PhaseEnd; phase = t.phase + 1 }) (scope_begun t))
      go true is = (i.phases_are, λ ready. (ap (λ k. k + 1) i.phase_is, subst (λ (ps : List (List Op)). t.phase + 1 < length ps) i.phases_are (ltb-true (t.phase + 1) (length t.phases) is)))
      go false is =
          let most : length t.phases ≤ t.phase + 1 = ltb-false (t.phase + 1) (length t.phases) is in
          scope_after t i (subst (λ (x : List (List Op) × ℕ). length x.0 ≤ x.1 + 1) (λ j. (i.phases_are j, i.phase_is j)) most)

  op_after : (o : Op) (t : Thread) (rest : Thread → Thread) → IsIdle phases n t → ((u : Thread) → IsIdle phases n u → IsAfter phases n (rest u)) → IsAfter phases n (begun_op o t rest)
  op_after o t rest i go = by o
    where
      firstly : IsIdle phases n (record t { first = true })
      firstly = record { phases_are = i.phases_are; phase_is = i.phase_is; idle = i.idle }

      nil : (to : ℕ) (old : Option Held) → IsAfter phases n (begun_nil to old t rest)
      nil to None = go (skipped answers.Nil t) (record { phases_are = i.phases_are; phase_is = i.phase_is; idle = i.idle })
      nil to (Some held) = drop_after held (set_var to None (put answers.Nil (record t { first = true }))) (record { phases_are = i.phases_are; phase_is = i.phase_is; idle = i.idle })

      gains_from : (gain : Gain) (to : ℕ) (from old : Option Held) → IsAfter phases n (begun_gain gain to from old t rest)
      gains_from gain to None old = nil to old
      gains_from gain to (Some held) old = gain_after gain to (of_hand held) (record t { first = true }) firstly

      moves_on : (to from : ℕ) (held old : Option Held) → IsAfter phases n (begun_move to from held old t rest)
      moves_on to from None old = nil to old
      moves_on to from (Some held) None = go (moved to from held (skipped answers.Ok t)) (record { phases_are = i.phases_are; phase_is = i.phase_is; idle = i.idle })
      moves_on to from (Some held) (Some old) = drop_after old (moved to from held (put answers.Ok (record t { first = true }))) (record { phases_are = i.phases_are; phase_is = i.phase_is; idle = i.idle })

      drops : (v : ℕ) (m : Option Held) → IsAfter phases n (begun_drop v m t rest)
      drops v None = go (skipped answers.Nil t) (record { phases_are = i.phases_are; phase_is = i.phase_is; idle = i.idle })
      drops v (Some held) = drop_after held (set_var v None (put answers.Ok (record t { first = true }))) (record { phases_are = i.phases_are; phase_is = i.phase_is; idle = i.idle })

      skips : IsAfter phases n (rest (skipped answers.Nil t))
      skips = go (skipped answers.Nil t) (record { phases_are = i.phases_are; phase_is = i.phase_is; idle = i.idle })

      opens : (to : ℕ) (cell : Option Cell) (old : Option Held) → IsAfter phases n (begun_get to cell old t rest)
      opens to (Some cell) old = open_after to cell (record t { first = true }) firstly
      opens to None old = nil to old

      sets : (from : ℕ) (cell : Option Cell) → IsAfter phases n (begun_set from cell t rest)
      sets from (Some cell) = set_after from cell (record t { first = true }) firstly
      sets from None = skips

      -- at a block
      goes_by : (place : Option ℕ) → IsAfter phases n (rest (at_place place t))
      goes_by None = go t i
      goes_by (Some place) = go (record t { index = place }) (record { phases_are = i.phases_are; phase_is = i.phase_is; idle = i.idle })

      by : (o : Op) → IsAfter phases n (begun_op o t rest)
      by (op.New to class) = make_after to class (record t { first = true }) firstly
      by (op.Copy to from) = gains_from gains.Copy to (value t.vars from) (value t.vars to)
      by (op.Move to from) = moves_on to from (value t.vars from) (value t.vars to)
      by (op.Drop v) = drops v (value t.vars v)
      by (op.Unown to of) = gains_from gains.Unown to (value t.vars of) (value t.vars to)
      by (op.Weak to of) = skips
      by (op.Load to of) = gains_from gains.Load to (value t.vars of) (value t.vars to)
      by (op.Get to cell) = opens to (cell_of cell t) (value t.vars to)
      by (op.Set cell from) = sets from (cell_of cell t)
      by (op.IfNil v to) = goes_by (block_goes_on t.vars t.index (op.IfNil v to))
      by (op.IfSome v to) = goes_by (block_goes_on t.vars t.index (op.IfSome v to))

  -- an operation that the thread has gone past is passed over, and else it begins
  past_or_begun : (place : ℕ) (o : Op) (ops : List Op) (t : Thread) → IsIdle phases n t → ((u : Thread) → IsIdle phases n u → IsAfter phases n (begun_at (place + 1) ops u)) → IsAfter phases n (begun_at place (o ∷ ops) t)
  past_or_begun place o ops t i further = go (ltb place t.index)
    where
      go : (b : Bool) → IsAfter phases n (cond b (begun_at (place + 1) ops t) (begun_op o t (λ (behind : Thread). begun_at (place + 1) ops behind)))
      go true = further t i
      go false = op_after o t (λ (behind : Thread). begun_at (place + 1) ops behind) i further

  at_after : (place : ℕ) (ops : List Op) (t : Thread) → IsIdle phases n t → IsAfter phases n (begun_at place ops t)
  at_after place [] t i = over_after t i
  at_after place (o ∷ ops) t i = past_or_begun place o ops t i (λ u j. at_after (place + 1) ops u j)

  begun_after : (t : Thread) → IsIdle phases n t → IsAfter phases n (begun t)
  begun_after t i = at_after t.index (drop t.index (take (phase_end t) t.program)) t i

  next_after : (t : Thread) → IsIdle phases n t → IsAfter phases n (next_op t)
  next_after t i = begun_after (record t { doing = Ended; index = cond (ltb t.index (length t.program)) (t.index + 1) t.index }) (record { phases_are = i.phases_are; phase_is = i.phase_is; idle = refl })

  -- ---- the steps of an operation

  replaced_after : (to : ℕ) (new : Option Held) (t : Thread) → IsIdle phases n t → IsAfter phases n (replaced to new t)
  replaced_after to new t i = go (value t.vars to)
    where
      set : IsIdle phases n (set_var to new t)
      set = record { phases_are = i.phases_are; phase_is = i.phase_is; idle = i.idle }

      go : (m : Option Held) → IsAfter phases n (replaced_old m (set_var to new t))
      go None = next_after (set_var to new t) set
      go (Some old) = drop_after old (set_var to new t) set

  made_after : (to : ℕ) (name : ObjectName) (plan : Creation) (next : Next NewObjectAnswer) (t : Thread) → IsIdle phases n t → IsAfter phases n (made_on to name plan next t)
  made_after to name plan (nexts.Step s) t i = go (slot_taken plan.at)
    where
      go : (m : Option ℕ) → IsAfter phases n (asking (Making to name plan) s (intents.New name.class) (came_to name m t))
      go None = (i.phases_are, i.phase_is)
      go (Some slot) = (i.phases_are, i.phase_is)
  made_after to name plan (nexts.Done (Slot place)) t i = replaced_after to (Some (strong_to t.hands place)) (put (answers.New name) t) (record { phases_are = i.phases_are; phase_is = i.phase_is; idle = i.idle })
  made_after to name plan (nexts.Done NoSlot) t i = next_after (put answers.Full (record t { event = Some acts.Full })) (record { phases_are = i.phases_are; phase_is = i.phase_is; idle = i.idle })
  made_after to name plan (nexts.Done (Again changed)) t i = make_as_after to name t i

  gained_after : (gain : Gain) (o : Origin) (to : ℕ) (held : Held) (t : Thread) → IsIdle phases n t → IsAfter phases n (has_gained gain o to held t)
  gained_after gains.Copy (origins.Hand hand) to held t i = replaced_after to (Some held) (put answers.Ok t) (record { phases_are = i.phases_are; phase_is = i.phase_is; idle = i.idle })
  gained_after gains.Copy (origins.Cell cell) to held t i = (i.phases_are, i.phase_is)
  gained_after gains.Unown (origins.Hand hand) to held t i = replaced_after to (Some held) (put answers.Ok t) (record { phases_are = i.phases_are; phase_is = i.phase_is; idle = i.idle })
  gained_after gains.Unown (origins.Cell cell) to held t i = (i.phases_are, i.phase_is)
  gained_after gains.Load o to held t i = (i.phases_are, i.phase_is)

  rise_after : (gain : Gain) (to : ℕ) (from : Source) (plan : Rise) (next : Next UpAnswer) (t : Thread) → IsIdle phases n t → HasAsked t → IsAfter phases n (gained_on gain to from plan next t)
  rise_after gain to from plan (nexts.Step s) t i asked = (i.phases_are, i.phase_is)
  rise_after gain to from plan (nexts.Done ups.Up) t i asked = gained_after gain from.origin to (gained gain from t) (came_by gain from t) (record { phases_are = i.phases_are; phase_is = i.phase_is; idle = i.idle })
  rise_after gain to from plan (nexts.Done ups.Dead) t i asked = replaced_after to None (put answers.Dead (record t { event = Some (acts.Load (hand_of from.origin) gots.Dead) })) (record { phases_are = i.phases_are; phase_is = i.phase_is; idle = i.idle })
  rise_after gain to from plan (nexts.Done (ups.Again changed)) t i asked = gain_after gain to from t i
  rise_after gain to from plan (nexts.Done ups.AtCap) t i asked = asked_stays t i asked
  rise_after gain to from plan (nexts.Done ups.CountFull) t i asked = asked_stays t i asked

  -- ---- the steps on cells

  old_after : (old : Option Held) (t : Thread) → IsIdle phases n t → IsAfter phases n (replaced_old old t)
  old_after None t i = next_after t i
  old_after (Some old) t i = drop_after old t i

  opened_after : (to : ℕ) (cell : Cell) (plan : Beginning) (next : Next BeginAnswer) (t : Thread) → IsIdle phases n t → IsAfter phases n (opened_on to cell plan next t)
  opened_after to cell plan (nexts.Step s) t i = (i.phases_are, i.phase_is)
  opened_after to cell plan (nexts.Done (begins.Held w)) t i = gain_after gains.Copy to (source_in cell w) t i
  opened_after to cell plan (nexts.Done begins.Nil) t i = replaced_after to None (put answers.Nil (record t { event = Some (acts.Look cell.name) })) (record { phases_are = i.phases_are; phase_is = i.phase_is; idle = i.idle })
  opened_after to cell plan (nexts.Done begins.Busy) t i = open_after to cell t i
  opened_after to cell plan (nexts.Done (begins.Again changed)) t i = open_after to cell t i

  closed_after : (to : ℕ) (cell : CellName) (held : Held) (plan : AccessEnd) (next : Next (Unit {0})) (t : Thread) → IsIdle phases n t → IsAfter phases n (closed_on to cell held plan next t)
  closed_after to cell held plan (nexts.Step s) t i = (i.phases_are, i.phase_is)
  closed_after to cell held plan (nexts.Done a) t i = replaced_after to (Some held) (put answers.Ok t) (record { phases_are = i.phases_are; phase_is = i.phase_is; idle = i.idle })

  -- what was in the cell is dropped
  there_after : (from : ℕ) (cell : CellName) (out : Option ℕ) (there : Option Held) (t : Thread) → IsIdle phases n t → IsAfter phases n (replaced_old there (put answers.Ok (set_var from None (swapped cell out there t))))
  there_after from cell out None t i = old_after None (put answers.Ok (set_var from None (swapped cell out None t))) (record { phases_are = i.phases_are; phase_is = i.phase_is; idle = i.idle })
  there_after from cell out (Some old) t i = drop_after old (put answers.Ok (set_var from None (swapped cell out (Some old) t))) (record { phases_are = i.phases_are; phase_is = i.phase_is; idle = i.idle })

  set_on_after : (from : ℕ) (cell : Cell) (plan : SwapAttempt) (next : Next SwapAnswer) (t : Thread) → IsIdle phases n t → IsAfter phases n (set_on from cell plan next t)
  set_on_after from cell plan (nexts.Step s) t i = (i.phases_are, i.phase_is)
  set_on_after from cell plan (nexts.Done (swaps.Took w)) t i = there_after from cell.name (hand_in (value t.vars from)) (held_in cell.kind (t.hands + 1) w) t i
  set_on_after from cell plan (nexts.Done swaps.Busy) t i = set_after from cell t i
  set_on_after from cell plan (nexts.Done (swaps.Again changed)) t i = set_after from cell t i

  cleared_there : (cell : CellName) (there : Option Held) (t : Thread) → IsIdle phases n t → IsAfter phases n (replaced_old there (swapped cell None there (record t { cleared = t.cleared + 1 })))
  cleared_there cell None t i = old_after None (swapped cell None None (record t { cleared = t.cleared + 1 })) (record { phases_are = i.phases_are; phase_is = i.phase_is; idle = i.idle })
  cleared_there cell (Some old) t i = drop_after old (swapped cell None (Some old) (record t { cleared = t.cleared + 1 })) (record { phases_are = i.phases_are; phase_is = i.phase_is; idle = i.idle })

  cleared_after : (plan : SwapAttempt) (next : Next SwapAnswer) (t : Thread) → IsIdle phases n t → IsAfter phases n (cleared_on plan next t)
  cleared_after plan (nexts.Step s) t i = (i.phases_are, i.phase_is)
  cleared_after plan (nexts.Done (swaps.Took w)) t i = cleared_there (next_global t).name (held_in (next_global t).kind (t.hands + 1) w) t i
  cleared_after plan (nexts.Done swaps.Busy) t i = clear_after t i
  cleared_after plan (nexts.Done (swaps.Again changed)) t i = clear_after t i

  named_after : (to : ℕ) (held : Held) (plan : OneStep) (next : Next ObjectName) (t : Thread) → IsIdle phases n t → IsAfter phases n (named_on to held plan next t)
  named_after to held plan (nexts.Step s) t i = (i.phases_are, i.phase_is)
  named_after to held plan (nexts.Done name) t i = replaced_after to (Some held) (put (answers.Got name) t) (record { phases_are = i.phases_are; phase_is = i.phase_is; idle = i.idle })

  asks_after : (c : CascadeState) (next : CascadeNext) (t : Thread) → IsIdle phases n t → HasAsked t → IsAfter phases n (dying_asks c next t)
  asks_after c (says.Step s intent) t i asked = (i.phases_are, i.phase_is)
  asks_after c (says.Died name) t i asked = asked_stays t i asked
  asks_after c says.Done t i asked = asked_stays t i asked

  last_after : (kind : Kind) (slot : ℕ) (t : Thread) → IsIdle phases n t → HasAsked t → IsAfter phases n (last_gone kind slot t)
  last_after Strong slot t i asked = (i.phases_are, i.phase_is)
  last_after Unowned slot t i asked = (i.phases_are, i.phase_is)
  last_after Weak slot t i asked = asked_stays t i asked

  dropped_after : (held : Held) (plan : Fall) (next : Next DownAnswer) (t : Thread) → IsIdle phases n t → HasAsked t → IsAfter phases n (dropped_on held plan next t)
  dropped_after held plan (nexts.Step s) t i asked = (i.phases_are, i.phase_is)
  dropped_after held plan (nexts.Done (downs.More e)) t i asked = next_after (record t { event = Some (acts.Drop held.hand false) }) (record { phases_are = i.phases_are; phase_is = i.phase_is; idle = i.idle })
  dropped_after held plan (nexts.Done (downs.Last e)) t i asked = last_after held.kind held.place (record t { event = Some (acts.Drop held.hand true) }) (record { phases_are = i.phases_are; phase_is = i.phase_is; idle = i.idle }) asked
  dropped_after held plan (nexts.Done (downs.Again changed)) t i asked = drop_after held t i

  vacated_after : (slot : ℕ) (plan : OneStep) (next : Next (Unit {0})) (t : Thread) → IsIdle phases n t → IsAfter phases n (vacated_on slot plan next t)
  vacated_after slot plan (nexts.Step s) t i = (i.phases_are, i.phase_is)
  vacated_after slot plan (nexts.Done a) t i = next_after (record t { event = Some (acts.Vacate slot) }) (record { phases_are = i.phases_are; phase_is = i.phase_is; idle = i.idle })

  dying_after : (c : CascadeState) (next : CascadeNext) (t : Thread) → IsIdle phases n t → HasAsked t → IsAfter phases n (dying_on c next t)
  dying_after c (says.Step s intent) t i asked = (i.phases_are, i.phase_is)
  dying_after c (says.Died name) t i asked = asks_after (cascade_turned c None) (cascade_answer c None) (put (answers.Deinit name) t) (record { phases_are = i.phases_are; phase_is = i.phase_is; idle = i.idle }) asked
  dying_after c says.Done t i asked = next_after t i

-- before what it is given is looked at
abbrev quiet : Thread → Thread
quiet t = record t { doing = Ended; first = false; event = None }

-- A thread that asks for a step or begins a phase is in that phase still, or behind it.
pub turned_after : (t : Thread) (last : Option ℕ) → HasAsked t ⊎ (t.doing ≡ Ready) → IsAfter t.phases t.phase (turned t last)
turned_after t last may = at t.doing refl may
  where
    idle : IsIdle t.phases t.phase (quiet t)
    idle = record { phases_are = refl; phase_is = refl; idle = refl }

    no : {d : Doing} → t.doing ≡ d → (d ≡ Ready → ⊥) → HasAsked t ⊎ (t.doing ≡ Ready) → HasAsked t
    no is ne (inl asked) = asked
    no is ne (inr ready) = absurd (ne (sym is ∙ ready))

    at : (d : Doing) → t.doing ≡ d → HasAsked t ⊎ (t.doing ≡ Ready) → IsAfter t.phases t.phase (turned_at last d (quiet t))
    at Ready is m = begun_after t.phases t.phase (quiet t) idle
    at (Making to name plan) is m = made_after t.phases t.phase to name (creation_turned plan last) (creation_answer plan last) (quiet t) idle
    at (Gaining gain to from plan) is m = rise_after t.phases t.phase gain to from (up_turned plan last) (up_answer plan last) (quiet t) idle (no is (λ e. cc) m)
    at (Naming to held plan) is m = named_after t.phases t.phase to held (one_turned plan last) (name_of_answer plan last) (quiet t) idle
    at (Opening to cell plan) is m = opened_after t.phases t.phase to cell (begin_turned plan last) (begin_answer plan last) (quiet t) idle
    at (Closing to cell held plan) is m = closed_after t.phases t.phase to cell held (end_turned plan last) (end_answer plan last) (quiet t) idle
    at (Setting from cell plan) is m = set_on_after t.phases t.phase from cell (swap_turned plan last) (swap_answer plan last) (quiet t) idle
    at (Clearing plan) is m = cleared_after t.phases t.phase (swap_turned plan last) (swap_answer plan last) (quiet t) idle
    at (Dropping held plan) is m = dropped_after t.phases t.phase held (down_turned plan last) (down_answer plan last) (quiet t) idle (no is (λ e. cc) m)
    at (Dying c) is m = dying_after t.phases t.phase (cascade_turned c last) (cascade_answer c last) (deinit_tells (cascade_turned c last).event (quiet t)) (record { phases_are = refl; phase_is = refl; idle = refl }) (no is (λ e. cc) m)
    at (Vacating slot plan) is m = vacated_after t.phases t.phase slot (one_turned plan last) (vacate_answer plan last) (quiet t) idle
    at Ended is m = asked_stays t.phases t.phase (quiet t) idle (no is (λ e. cc) m)
