-- A step that a thread makes alone brings it nearer to the end of its phase, whatever word it finds.
use Rattle.std.proofs.Common.{◌≡◌, ℕ, ◌+◌, ◌-◌, ◌*◌, ◌/◌, ◌≤◌, ◌<◌, Bool, true, false, cond, eqb, ltb, eq-eqb, List, [], length, Option, Some, None, refl, ap, ◌∙◌, subst, sym, arith}
use Rattle.std.specs.Prelude.{bit_and, slice_get, slice_index}
use Rattle.std.proofs.lemmas.List.{length-set}
use Rattle.std.proofs.lemmas.Bool.{eqb-true}
use Rattle.std.proofs.lemmas.Option.{slice_get_within}
use Rattle.arc_bits.specs.declared.packing.Word.{Word}
use Rattle.arc_bits.specs.declared.packing.Word.TheVariants as word
use Rattle.arc_bits.specs.Words.{packed, unpacked}
use Rattle.arc_bits.specs.Moves.{strong_more, strong_less, unowned_more, unowned_less}
use Rattle.arc_model.specs.Shapes.{CapNumbers, HeapShape, class_at}
use Rattle.arc_model.specs.References.{field_count}
use Rattle.arc_model.specs.declared.shape.Kind.{Kind}
use Rattle.arc_model.specs.declared.shape.Kind.TheVariants as kinds
use Rattle.arc_model.specs.declared.event.Act.{Act}
use Rattle.arc_model.specs.declared.event.Act.TheVariants as acts
use Rattle.arc_model.specs.declared.event.Got.TheVariants as gots
use Rattle.arc_model.specs.declared.event.CellName.{CellName}
use Rattle.arc_model.specs.declared.event.CellName.TheVariants as cells
use Rattle.arc_model.specs.declared.event.Origin.{Origin}
use Rattle.arc_model.specs.declared.event.Origin.TheVariants as origins
use Rattle.arc_model.specs.declared.event.ObjectName.{ObjectName}
use Rattle.arc_model.specs.declared.answer.Answer.TheVariants as answers
use Rattle.arc_rule.specs.Extents.{Extent}
use Rattle.arc_rule.specs.Places.{extent_of, number}
use Rattle.arc_rule.specs.Steps.{found_by, made_by}
use Rattle.arc_rule.specs.declared.layout.Place.TheVariants.{Count, SlotBits}
use Rattle.arc_rule.specs.declared.step.Step.{Step}
use Rattle.arc_rule.specs.declared.step.Step.TheVariants.{Load, Exchange, Store}
use Rattle.arc_rule.specs.declared.step.Intent.{Intent}
use Rattle.arc_rule.specs.declared.step.Intent.TheVariants as intents
use Rattle.arc_rule.specs.declared.plan.Next.TheVariants as nexts
use Rattle.arc_rule.specs.declared.attempt.At.{At as AttemptAt}
use Rattle.arc_rule.specs.declared.attempt.At.TheVariants as attempt
use Rattle.arc_rule.specs.declared.attempt.Choice.{Choice}
use Rattle.arc_rule.specs.declared.attempt.Choice.TheVariants.{Tell, Write}
use Rattle.arc_plan.specs.declared.slots.Making.{Making as Search}
use Rattle.arc_plan.specs.declared.slots.Making.TheVariants as search
use Rattle.arc_plan.specs.declared.slots.NewObjectAnswer.TheVariants.{NoSlot, Again}
use Rattle.arc_plan.specs.declared.slots.Once.{Once}
use Rattle.arc_plan.specs.declared.slots.Once.TheVariants as once
use Rattle.arc_plan.specs.declared.strong.StrongUpAnswer.TheVariants as strong_ups
use Rattle.arc_plan.specs.declared.strong.StrongDownAnswer.TheVariants as strong_downs
use Rattle.arc_plan.specs.declared.unowned.UnownedUpAnswer.TheVariants as unowned_ups
use Rattle.arc_plan.specs.declared.unowned.UnownedDownAnswer.TheVariants as less
use Rattle.arc_rule.specs.Attempts.{exchanging, chosen, told_as, turned_by, answer_by}
use Rattle.arc_rule.specs.Isa.{isa_name_of}
use Rattle.arc_plan.specs.Strong.{strong_up_row, strong_down_row, strong_down_end}
use Rattle.arc_plan.specs.Unowned.{unowned_up_row, unowned_down_row, unowned_down_end}
use Rattle.arc_side.specs.declared.up.UpAnswer.{UpAnswer}
use Rattle.arc_side.specs.declared.up.UpAnswer.TheVariants as ups
use Rattle.arc_side.specs.declared.down.DownAnswer.{DownAnswer}
use Rattle.arc_side.specs.declared.down.DownAnswer.TheVariants as downs
use Rattle.arc_side.specs.Inline.{entry_named}
use Rattle.arc_side.specs.Ups.{Rise, of_strong_up, of_unowned_up, up_in, up_moved, up_place}
use Rattle.arc_side.specs.Downs.{Fall, of_strong_down, of_unowned_down, down_end_at, down_in, down_moved, down_place}
use Rattle.arc_plan.specs.Slots.{Creation, free_slot, looked, looked_answer, looking, taking, counting}
use Rattle.arc_plan.proofs.Bits.{free_is_clear}
use Rattle.arc_rule.specs.Bits.{words_of, bit_of}
use Rattle.arc_cells.specs.declared.begin.BeginAnswer.{BeginAnswer}
use Rattle.arc_cells.specs.declared.begin.BeginAnswer.TheVariants as begins
use Rattle.arc_cells.specs.declared.swap.SwapAnswer.TheVariants as swaps
use Rattle.arc_cells.specs.Swaps.{SwapAttempt}
use Rattle.arc_cells.specs.declared.cascade.At.{At}
use Rattle.arc_cells.specs.declared.cascade.At.TheVariants as at
use Rattle.arc_cells.specs.declared.ref_drop.At.{At as DropAt}
use Rattle.arc_cells.specs.declared.ref_drop.At.TheVariants as drops
use Rattle.arc_cells.specs.declared.parent.Parent.{Parent}
use Rattle.arc_cells.specs.Chains.{Frame, parent_of}
use Rattle.arc_cells.specs.Drops.{Dropping}
use Rattle.arc_script.specs.declared.script.Op.{Op}
use Rattle.arc_script.specs.declared.script.Op.TheVariants as op
use Rattle.arc_script.specs.OneList.{in_one_list}
use Rattle.arc_served.specs.Programs.{GoesForth, BlocksFit, ops_in_first}
use Rattle.arc_served.proofs.Blocks.{long_as_phases}
use Rattle.arc_served.proofs.Counts.{first_all}
use Rattle.arc_ops.specs.declared.stepper.Held.{Held}
use Rattle.arc_ops.specs.declared.stepper.Doing.{Doing}
use Rattle.arc_ops.specs.declared.stepper.Doing.TheVariants as doings
use Rattle.arc_ops.specs.declared.stepper.Move.{Move}
use Rattle.arc_ops.specs.declared.stepper.Move.TheVariants as moves
use Rattle.arc_ops.specs.declared.gain.Gain.{Gain}
use Rattle.arc_ops.specs.declared.gain.Gain.TheVariants as gains
use Rattle.arc_ops.specs.declared.gain.Source.{Source}
use Rattle.arc_ops.specs.declared.cell.Cell.{Cell}
use Rattle.arc_ops.specs.Thread.{Thread, value, set_var, put, is_busy}
use Rattle.arc_ops.specs.Cells.{cell_number, word_of, held_in, hand_in, swapped, next_global}
use Rattle.arc_ops.specs.Plans.{hand_of, list_of, intent_of, drop_begun}
use Rattle.arc_ops.specs.Gains.{gained, came_by, has_gained, found_dead, gained_on}
use Rattle.arc_ops.specs.Begins.{begun, next_op}
use Rattle.arc_ops.specs.Drops.{replaced, dropped_on}
use Rattle.arc_ops.specs.Gets.{opened_on}
use Rattle.arc_ops.specs.Sets.{set_to, set_on, cleared, cleared_on}
use Rattle.arc_ops.specs.Makes.{strong_to, made_on}
use Rattle.arc_ops.specs.Turns.{turned, turned_at}
use Rattle.arc_ops.specs.Takes.{HasHandLeft}
use Rattle.arc_ops.specs.Steppers.{IsStepper, IsUnderWay, IsMakingIn, IsInOperation}
use Rattle.arc_spelled.specs.StepperStands.{chain_at}
use Rattle.arc_ops_passes.specs.Drives.{Asks, SearchAsks, AttemptAsks, CountAsks, OnceAsks, VacateAsks, NameAsks, DropAsks, CascadeAsks}
use Rattle.arc_replays.specs.Stages.{is_step}
use Rattle.arc_plain.specs.Left.{units, busy_units, count_at, doing_left}
use Rattle.arc_plain.proofs.Walks.{IsForth, Fits, Comes, units_set, drop_comes, after_same, begins, next_comes, replaced_comes}
use Rattle.arc_plain.proofs.Goes.{quiet, GoesUnder, Goes, goes_to, stays, eqb_same}
use Rattle.arc_plain.proofs.Dies.{dying_state, drop_plan, dropping_one, enters_on, name_on, look_on, take_on, drop_read, drop_made, drop_ended, leave_on, finish_read, finish_made, end_on, resume_on}

asked_is : (m : Move) (s s' : Step) (i i' : Intent) → m ≡ moves.Step s i → m ≡ moves.Step s' i' → s ≡ s'
asked_is m s s' i i' p q = cc

-- ---- an object is made

abbrev making_at : Extent → ℕ → ObjectName → Bool → Search → Doing
making_at l to name immortal x = doings.Making to name (record { layout = l; name = name; immortal = immortal; at = x })

abbrev bits_at : List ℕ → Extent → ℕ → ℕ
bits_at words l k = slice_index words (number l (SlotBits k))

-- a word of the bits was read
looking_on : (t : Thread) (words : List ℕ) (l : Extent) (to : ℕ) (name : ObjectName) (immortal : Bool) (k : ℕ) → Fits t → k < words_of l.slots →
    Goes t words words (making_at l to name immortal (search.Looking k)) (turned_at (Some (bits_at words l k)) (making_at l to name immortal (search.Looking k)) (quiet t))
looking_on t words l to name immortal k fits inside = go (free_slot l.slots k (bits_at words l k)) refl
  where
    more : (b : Bool) →
        Goes t words words (making_at l to name immortal (search.Looking k))
        (made_on to name (record { layout = l; name = name; immortal = immortal; at = cond b (search.Looking (k + 1)) search.Ended }) (cond b (nexts.Step (looking l (k + 1))) (nexts.Done NoSlot)) (quiet t))
    more true = record { layout = refl; phases = refl; program = refl; count = refl; phase = refl; inside = λ e. refl; past = λ f. tt; waits = λ w. omega arith; fewer = λ free. omega (arith, inside) }
    more false =
        goes_to t (put answers.Full (record t { doing = doings.Ended; first = false; event = Some acts.Full })) _ words words _ (4200 * busy_units t) (record { layout = refl; phases = refl; program = refl; count = refl; phase = refl; taken = refl; globals = omega arith })
        (next_comes (put answers.Full (record t { doing = doings.Ended; first = false; event = Some acts.Full })) fits) (omega arith)

    go : (o : Option ℕ) → free_slot l.slots k (bits_at words l k) ≡ o →
        Goes t words words (making_at l to name immortal (search.Looking k))
        (made_on to name (record { layout = l; name = name; immortal = immortal; at = looked l.slots k (bits_at words l k) o }) (looked_answer l k o) (quiet t))
    go (Some s) e =
        let clear = free_is_clear l.slots k (bits_at words l k) s e in
        let same : eqb (bit_and (bits_at words l (s / 64)) (bit_of s)) 0 ≡ true = subst (λ j. eqb (bit_and (bits_at words l j) (bit_of s)) 0 ≡ true) (sym clear.1) (eq-eqb (bit_and (bits_at words l k) (bit_of s)) 0 clear.0.clear) in
        record { layout = refl; phases = refl; program = refl; count = refl; phase = refl; inside = λ e. refl; past = λ f. tt; waits = λ w. omega arith; fewer = λ free. rw same (omega (arith, inside)) }
    go None e = more (ltb (k + 1) (words_of l.slots))

-- the bit of a slot was to be set
taking_on : (t : Thread) (words after : List ℕ) (l : Extent) (to : ℕ) (name : ObjectName) (immortal : Bool) (s seen : ℕ) → l ≡ t.layout →
    Goes t words after (making_at l to name immortal (search.Taking s seen)) (turned_at (Some (bits_at words l (s / 64))) (making_at l to name immortal (search.Taking s seen)) (quiet t))
taking_on t words after l to name immortal s seen same = go (eqb (bit_and (bits_at words l (s / 64)) (bit_of s)) 0) refl
  where
    go : (b : Bool) → eqb (bit_and (bits_at words l (s / 64)) (bit_of s)) 0 ≡ b →
        Goes t words after (making_at l to name immortal (search.Taking s seen))
        (made_on to name (record { layout = l; name = name; immortal = immortal; at = cond b (search.Counting s) search.Ended })
        (cond b (nexts.Step (counting l immortal s)) (nexts.Done (Again (record { seen = seen; found = bits_at words l (s / 64) })))) (quiet t))
    go true e = record { layout = refl; phases = refl; program = refl; count = refl; phase = refl; inside = λ e. refl; past = λ f. tt; waits = λ w. omega arith; fewer = λ free. rw e (omega arith) }
    go false e =
        let many : words_of l.slots ≡ words_of t.layout.slots = ap (λ (x : Extent). words_of x.slots) same in
        record { layout = refl; phases = refl; program = refl; count = refl; phase = refl; inside = λ e. refl; past = λ f. tt; waits = λ w. omega arith; fewer = λ free. rw e (omega (arith, many)) }

counted_on : (t : Thread) (words after : List ℕ) (l : Extent) (to : ℕ) (name : ObjectName) (immortal : Bool) (s found : ℕ) →
    Goes t words after (making_at l to name immortal (search.Counting s)) (turned_at (Some found) (making_at l to name immortal (search.Counting s)) (quiet t))
counted_on t words after l to name immortal s found = record { layout = refl; phases = refl; program = refl; count = refl; phase = refl; inside = λ e. refl; past = λ f. tt; waits = λ w. omega arith; fewer = λ free. omega arith }

named : (t : Thread) (words after : List ℕ) (l : Extent) (to : ℕ) (name : ObjectName) (immortal : Bool) (slot found : ℕ) → Fits t → t.index < length t.program →
    Goes t words after (making_at l to name immortal (search.Naming slot)) (turned_at (Some found) (making_at l to name immortal (search.Naming slot)) (quiet t))
named t words after l to name immortal slot found fits here =
    goes_to t (put (answers.New name) (quiet t)) _ words after _ (4200 * busy_units t + 18) (record { layout = refl; phases = refl; program = refl; count = refl; phase = refl; taken = refl; globals = omega arith })
    (replaced_comes (put (answers.New name) (quiet t)) to (Some (strong_to t.hands slot)) fits here) (omega arith)

-- ---- a reference is gained

abbrev up_plan : Extent → ℕ → Kind → CapNumbers → AttemptAt → Rise
up_plan l s list caps at = record { layout = l; slot = s; list = list; caps = caps; entry = None; at = at }

abbrev gaining_at : Extent → Kind → CapNumbers → Gain → ℕ → Source → AttemptAt → Doing
gaining_at l list caps gain to from x = doings.Gaining gain to from (up_plan l from.place list caps x)

-- the reference has come
got : (t : Thread) (words after : List ℕ) (gain : Gain) (to : ℕ) (from : Source) (d : Doing) → Fits t → t.index < length t.program → 4200 * busy_units t + 19 < doing_left words [] t d →
    Goes t words after d (has_gained gain from.origin to (gained gain from (quiet t)) (came_by gain from (quiet t)))
got t words after gain to from d fits here more = go gain from.origin
  where
    replaces : Goes t words after d (replaced to (Some (gained gain from (quiet t))) (put answers.Ok (came_by gain from (quiet t))))
    replaces =
        goes_to t (put answers.Ok (came_by gain from (quiet t))) _ words after d (4200 * busy_units t + 18) (record { layout = refl; phases = refl; program = refl; count = refl; phase = refl; taken = refl; globals = omega arith })
        (replaced_comes (put answers.Ok (came_by gain from (quiet t))) to (Some (gained gain from (quiet t))) fits here) (omega (arith, more))

    go : (g : Gain) (x : Origin) → Goes t words after d (has_gained g x to (gained gain from (quiet t)) (came_by gain from (quiet t)))
    go gains.Load x = record { layout = refl; phases = refl; program = refl; count = refl; phase = refl; inside = λ e. refl; past = λ f. tt; waits = λ w. omega arith; fewer = λ free. omega (arith, more) }
    go gains.Copy (origins.Hand hand) = replaces
    go gains.Copy (origins.Cell cell) = record { layout = refl; phases = refl; program = refl; count = refl; phase = refl; inside = λ e. refl; past = λ f. tt; waits = λ w. omega arith; fewer = λ free. omega (arith, more) }
    go gains.Unown (origins.Hand hand) = replaces
    go gains.Unown (origins.Cell cell) = record { layout = refl; phases = refl; program = refl; count = refl; phase = refl; inside = λ e. refl; past = λ f. tt; waits = λ w. omega arith; fewer = λ free. omega (arith, more) }

-- the object's deinit has begun
dead : (t : Thread) (words after : List ℕ) (to : ℕ) (from : Source) (d : Doing) → Fits t → t.index < length t.program → 4200 * busy_units t + 18 < doing_left words [] t d → Goes t words after d (found_dead to from (quiet t))
dead t words after to from d fits here more =
    goes_to t (put answers.Dead (record (quiet t) { event = Some (acts.Load (hand_of from.origin) gots.Dead) })) _ words after d (4200 * busy_units t + 18) (record { layout = refl; phases = refl; program = refl; count = refl; phase = refl; taken = refl; globals = omega arith })
    (replaced_comes (put answers.Dead (record (quiet t) { event = Some (acts.Load (hand_of from.origin) gots.Dead) })) to None fits here) more

-- by the entry to which it goes on, and by what the row says of the word that was read
abbrev up_by : Thread → Extent → Kind → CapNumbers → Gain → ℕ → Source → ℕ → Option ℕ → Choice UpAnswer → Thread
up_by t l list caps gain to from w e r =
    gained_on gain to from (turned_by up_moved (up_plan l from.place list caps attempt.Loading) (up_in (up_plan l from.place list caps attempt.Loading) e) (exchanging w r))
    (answer_by up_place (up_in (up_plan l from.place list caps attempt.Loading) e) (chosen (number l (Count from.place)) w r)) (quiet t)

up_read : (t : Thread) (words : List ℕ) (l : Extent) (list : Kind) (caps : CapNumbers) (gain : Gain) (to : ℕ) (from : Source) (step : Step) (intent : Intent) → Fits t → t.index < length t.program → t.asked ≡ moves.Step step intent →
    Goes t words words (gaining_at l list caps gain to from attempt.Loading) (turned_at (Some (count_at words l from.place)) (gaining_at l list caps gain to from attempt.Loading) (quiet t))
up_read t words l list caps gain to from step intent fits here asked = go list
  where
    w : ℕ
    w = count_at words l from.place

    Read : Kind → Option ℕ → Choice UpAnswer → Type 0
    Read k e r = Goes t words words (gaining_at l k caps gain to from attempt.Loading) (up_by t l k caps gain to from w e r)

    told : (k : Kind) → Goes t words words (gaining_at l k caps gain to from attempt.Loading) (quiet t)
    told k = record { layout = refl; phases = refl; program = refl; count = refl; phase = stays t.asked step intent t.phase asked; inside = λ e. refl; past = λ f. tt; waits = λ w. omega arith; fewer = λ free. omega arith }

    slow : (k : Kind) (e : ℕ) (r : Choice UpAnswer) → Read k (Some e) r
    slow k e r = record { layout = refl; phases = refl; program = refl; count = refl; phase = refl; inside = λ e. refl; past = λ f. tt; waits = λ w. omega arith; fewer = λ free. omega arith }

    none : (k : Kind) → Read k None (Tell ups.Dead)
    none k = dead t words words to from (gaining_at l k caps gain to from attempt.Loading) fits here (omega arith)

    all : (k : Kind) → Read k None (Tell ups.Up)
    all k = got t words words gain to from (gaining_at l k caps gain to from attempt.Loading) fits here (omega arith)

    writes : (k : Kind) (new : ℕ) → Read k None (Write new)
    writes k new = record { layout = refl; phases = refl; program = refl; count = refl; phase = refl; inside = λ e. refl; past = λ f. tt; waits = λ w. omega arith; fewer = λ free. rw (eqb_same w) (omega arith) }

    on : (dying full : Bool) (new : ℕ) → Read kinds.Strong None (told_as of_strong_up (cond dying (Tell strong_ups.Dead) (cond full (Tell strong_ups.AtCap) (Write new))))
    on true full new = none kinds.Strong
    on false true new = told kinds.Strong
    on false false new = writes kinds.Strong new

    off : (full : Bool) (new : ℕ) → Read kinds.Unowned None (told_as of_unowned_up (cond full (Tell unowned_ups.AtCap) (Write new)))
    off true new = told kinds.Unowned
    off false new = writes kinds.Unowned new

    strongly : (o : Option Word) → Read kinds.Strong (entry_named o) (told_as of_strong_up (strong_up_row caps.strong o))
    strongly None = none kinds.Strong
    strongly (Some word.Free) = none kinds.Strong
    strongly (Some (word.Slow e)) = slow kinds.Strong e (Tell ups.Up)
    strongly (Some word.Immortal) = all kinds.Strong
    strongly (Some (word.Counts c)) = on c.deiniting (eqb c.strong_extra caps.strong) (packed (word.Counts (strong_more c)))

    unownedly : (o : Option Word) → Read kinds.Unowned (entry_named o) (told_as of_unowned_up (unowned_up_row caps.unowned o))
    unownedly None = told kinds.Unowned
    unownedly (Some word.Free) = told kinds.Unowned
    unownedly (Some (word.Slow e)) = slow kinds.Unowned e (Tell ups.Up)
    unownedly (Some word.Immortal) = all kinds.Unowned
    unownedly (Some (word.Counts c)) = off (eqb c.unowned caps.unowned) (packed (word.Counts (unowned_more c)))

    weakly : (o : Option Word) → Read kinds.Weak (entry_named o) (Tell ups.Dead)
    weakly None = none kinds.Weak
    weakly (Some word.Free) = none kinds.Weak
    weakly (Some (word.Slow e)) = slow kinds.Weak e (Tell ups.Dead)
    weakly (Some word.Immortal) = none kinds.Weak
    weakly (Some (word.Counts c)) = none kinds.Weak

    go : (k : Kind) → Goes t words words (gaining_at l k caps gain to from attempt.Loading) (turned_at (Some w) (gaining_at l k caps gain to from attempt.Loading) (quiet t))
    go kinds.Strong = strongly (unpacked w)
    go kinds.Unowned = unownedly (unpacked w)
    go kinds.Weak = weakly (unpacked w)

up_made : (t : Thread) (words after : List ℕ) (l : Extent) (list : Kind) (caps : CapNumbers) (gain : Gain) (to : ℕ) (from : Source) (seen new : ℕ) → Fits t → t.index < length t.program →
    Goes t words after (gaining_at l list caps gain to from (attempt.Exchanging seen new)) (turned_at (Some (count_at words l from.place)) (gaining_at l list caps gain to from (attempt.Exchanging seen new)) (quiet t))
up_made t words after l list caps gain to from seen new fits here = go (eqb (count_at words l from.place) seen) refl
  where
    go : (b : Bool) → eqb (count_at words l from.place) seen ≡ b → Goes t words after (gaining_at l list caps gain to from (attempt.Exchanging seen new))
        (gained_on gain to from (up_plan l from.place list caps attempt.Ended) (nexts.Done (cond b ups.Up (ups.Again (record { seen = seen; found = count_at words l from.place })))) (quiet t))
    go true e = got t words after gain to from (gaining_at l list caps gain to from (attempt.Exchanging seen new)) fits here (rw e (omega arith))
    go false e = record { layout = refl; phases = refl; program = refl; count = refl; phase = refl; inside = λ e. refl; past = λ f. tt; waits = λ w. omega arith; fewer = λ free. rw e (omega arith) }

-- a load has read the name
name_read : (t : Thread) (words after : List ℕ) (l : Extent) (to : ℕ) (held : Held) (found : ℕ) → Fits t → t.index < length t.program →
    Goes t words after (doings.Naming to held (record { layout = l; slot = held.place; at = once.Asked })) (turned_at (Some found) (doings.Naming to held (record { layout = l; slot = held.place; at = once.Asked })) (quiet t))
name_read t words after l to held found fits here =
    goes_to t (put (answers.Got (isa_name_of found)) (quiet t)) _ words after _ (4200 * busy_units t + 18) (record { layout = refl; phases = refl; program = refl; count = refl; phase = refl; taken = refl; globals = omega arith })
    (replaced_comes (put (answers.Got (isa_name_of found)) (quiet t)) to (Some held) fits here) (omega arith)

-- ---- an access to a cell begins, and ends

abbrev opening_at : Extent → ℕ → Cell → (place : ℕ) → AttemptAt → Doing
opening_at l to cell place x = doings.Opening to cell (record { layout = l; place = place; at = x })

-- by what the row says of the word that was read
abbrev open_by : Thread → Extent → ℕ → Cell → (place w : ℕ) → Choice BeginAnswer → Thread
open_by t l to cell place w r = opened_on to cell (record { layout = l; place = place; at = exchanging w r }) (chosen place w r) (quiet t)

open_read : (t : Thread) (words : List ℕ) (l : Extent) (to : ℕ) (cell : Cell) (place : ℕ) → Fits t → t.index < length t.program →
    Goes t words words (opening_at l to cell place attempt.Loading) (turned_at (Some (slice_index words place)) (opening_at l to cell place attempt.Loading) (quiet t))
open_read t words l to cell place fits here = go (eqb (slice_index words place) 0) (eqb (slice_index words place) 1) refl
  where
    go : (nil busy : Bool) → eqb (slice_index words place) 1 ≡ busy →
        Goes t words words (opening_at l to cell place attempt.Loading) (open_by t l to cell place (slice_index words place) (cond nil (Tell begins.Nil) (cond busy (Tell begins.Busy) (Write 1))))
    go true busy e =
        goes_to t (put answers.Nil (record (quiet t) { event = Some (acts.Look cell.name) })) _ words words _ (4200 * busy_units t + 18) (record { layout = refl; phases = refl; program = refl; count = refl; phase = refl; taken = refl; globals = omega arith })
        (replaced_comes (put answers.Nil (record (quiet t) { event = Some (acts.Look cell.name) })) to None fits here) (omega arith)
    go false true e = record { layout = refl; phases = refl; program = refl; count = refl; phase = refl; inside = λ e. refl; past = λ f. absurd f; waits = λ w. omega arith; fewer = λ free. absurd (free (eqb-true (slice_index words place) 1 e)) }
    go false false e = record { layout = refl; phases = refl; program = refl; count = refl; phase = refl; inside = λ e. refl; past = λ f. absurd f; waits = λ w. omega arith; fewer = λ free. rw (eqb_same (slice_index words place)) (omega arith) }

open_made : (t : Thread) (words after : List ℕ) (l : Extent) (to : ℕ) (cell : Cell) (place seen new : ℕ) →
    Goes t words after (opening_at l to cell place (attempt.Exchanging seen new)) (turned_at (Some (slice_index words place)) (opening_at l to cell place (attempt.Exchanging seen new)) (quiet t))
open_made t words after l to cell place seen new = go (eqb (slice_index words place) seen) refl
  where
    go : (b : Bool) → eqb (slice_index words place) seen ≡ b → Goes t words after (opening_at l to cell place (attempt.Exchanging seen new))
        (opened_on to cell (record { layout = l; place = place; at = attempt.Ended }) (nexts.Done (cond b (begins.Held seen) (begins.Again (record { seen = seen; found = slice_index words place })))) (quiet t))
    go true e = record { layout = refl; phases = refl; program = refl; count = refl; phase = refl; inside = λ e. refl; past = λ f. absurd f; waits = λ w. omega arith; fewer = λ free. rw e (omega arith) }
    go false e = record { layout = refl; phases = refl; program = refl; count = refl; phase = refl; inside = λ e. refl; past = λ f. absurd f; waits = λ w. omega arith; fewer = λ free. rw e (omega arith) }

closed : (t : Thread) (words after : List ℕ) (to : ℕ) (cell : CellName) (held : Held) (l : Extent) (place value found : ℕ) → Fits t → t.index < length t.program →
    Goes t words after (doings.Closing to cell held (record { layout = l; place = place; value = value; at = once.Asked }))
    (turned_at (Some found) (doings.Closing to cell held (record { layout = l; place = place; value = value; at = once.Asked })) (quiet t))
closed t words after to cell held l place value found fits here =
    goes_to t (put answers.Ok (quiet t)) _ words after _ (4200 * busy_units t + 18) (record { layout = refl; phases = refl; program = refl; count = refl; phase = refl; taken = refl; globals = omega arith })
    (replaced_comes (put answers.Ok (quiet t)) to (Some held) fits here) (omega arith)

-- ---- a cell gets another reference

abbrev swap_plan : Extent → (place new : ℕ) → AttemptAt → SwapAttempt
swap_plan l place new x = record { layout = l; place = place; new = new; at = x }

set_read : (t : Thread) (words : List ℕ) (l : Extent) (from : ℕ) (cell : Cell) (place new : ℕ) →
    Goes t words words (doings.Setting from cell (swap_plan l place new attempt.Loading)) (turned_at (Some (slice_index words place)) (doings.Setting from cell (swap_plan l place new attempt.Loading)) (quiet t))
set_read t words l from cell place new = go (eqb (slice_index words place) 1) refl
  where
    w : ℕ
    w = slice_index words place

    go : (busy : Bool) → eqb (slice_index words place) 1 ≡ busy →
        Goes t words words (doings.Setting from cell (swap_plan l place new attempt.Loading))
        (set_on from cell (swap_plan l place new (exchanging w (cond busy (Tell swaps.Busy) (Write new)))) (chosen place w (cond busy (Tell swaps.Busy) (Write new))) (quiet t))
    go true e = record { layout = refl; phases = refl; program = refl; count = refl; phase = refl; inside = λ e. refl; past = λ f. absurd f; waits = λ w. omega arith; fewer = λ free. absurd (free (eqb-true (slice_index words place) 1 e)) }
    go false e = record { layout = refl; phases = refl; program = refl; count = refl; phase = refl; inside = λ e. refl; past = λ f. absurd f; waits = λ w. omega arith; fewer = λ free. rw (eqb_same (slice_index words place)) (omega arith) }

-- what the cell had is dropped, and the variable is nil
set_over : (t : Thread) (words after : List ℕ) (from : ℕ) (cell : Cell) (d : Doing) (there : Option Held) → Fits t → 4200 * busy_units t + 18 < doing_left words [] t d → Goes t words after d (set_to from cell there (quiet t))
set_over t words after from cell d there fits more = go there
  where
    swaps_to : Option Held → Thread
    swaps_to o = put answers.Ok (set_var from None (swapped cell.name (hand_in (value t.vars from)) o (quiet t)))

    go : (o : Option Held) → Goes t words after d (set_to from cell o (quiet t))
    go None =
        let fewer = units_set t.vars from None in
        goes_to t (swaps_to None) (next_op (swaps_to None)) words after d (4200 * busy_units (swaps_to None)) (record { layout = refl; phases = refl; program = refl; count = length-set t.vars from None; phase = refl; taken = refl; globals = omega arith })
        (next_comes (swaps_to None) fits) (omega (arith, more, fewer))
    go (Some held) =
        let fewer = units_set t.vars from None in
        goes_to t (swaps_to (Some held)) (drop_begun held (swaps_to (Some held))) words after d (4200 * busy_units (swaps_to (Some held)) + 18)
        (record { layout = refl; phases = refl; program = refl; count = length-set t.vars from None; phase = refl; taken = refl; globals = omega arith }) (drop_comes (swaps_to (Some held)) held) (omega (arith, more, fewer))

set_made : (t : Thread) (words after : List ℕ) (l : Extent) (from : ℕ) (cell : Cell) (place word seen new : ℕ) → Fits t →
    Goes t words after (doings.Setting from cell (swap_plan l place word (attempt.Exchanging seen new)))
    (turned_at (Some (slice_index words place)) (doings.Setting from cell (swap_plan l place word (attempt.Exchanging seen new))) (quiet t))
set_made t words after l from cell place word seen new fits = go (eqb (slice_index words place) seen) refl
  where
    go : (b : Bool) → eqb (slice_index words place) seen ≡ b → Goes t words after (doings.Setting from cell (swap_plan l place word (attempt.Exchanging seen new)))
        (set_on from cell (swap_plan l place word attempt.Ended) (nexts.Done (cond b (swaps.Took seen) (swaps.Again (record { seen = seen; found = slice_index words place })))) (quiet t))
    go true e = set_over t words after from cell (doings.Setting from cell (swap_plan l place word (attempt.Exchanging seen new))) (held_in cell.kind (t.hands + 1) seen) fits (rw e (omega arith))
    go false e = record { layout = refl; phases = refl; program = refl; count = refl; phase = refl; inside = λ e. refl; past = λ f. absurd f; waits = λ w. omega arith; fewer = λ free. rw e (omega arith) }

-- ---- the next global is cleared

clear_read : (t : Thread) (words : List ℕ) (l : Extent) (place new : ℕ) →
    Goes t words words (doings.Clearing (swap_plan l place new attempt.Loading)) (turned_at (Some (slice_index words place)) (doings.Clearing (swap_plan l place new attempt.Loading)) (quiet t))
clear_read t words l place new = go (eqb (slice_index words place) 1) refl
  where
    w : ℕ
    w = slice_index words place

    go : (busy : Bool) → eqb (slice_index words place) 1 ≡ busy →
        Goes t words words (doings.Clearing (swap_plan l place new attempt.Loading))
        (cleared_on (swap_plan l place new (exchanging w (cond busy (Tell swaps.Busy) (Write new)))) (chosen place w (cond busy (Tell swaps.Busy) (Write new))) (quiet t))
    go true e = record { layout = refl; phases = refl; program = refl; count = refl; phase = refl; inside = λ e. refl; past = λ f. absurd f; waits = λ w. omega arith; fewer = λ free. absurd (free (eqb-true (slice_index words place) 1 e)) }
    go false e = record { layout = refl; phases = refl; program = refl; count = refl; phase = refl; inside = λ e. refl; past = λ f. absurd f; waits = λ w. omega arith; fewer = λ free. rw (eqb_same (slice_index words place)) (omega arith) }

clear_over : (t : Thread) (words after : List ℕ) (d : Doing) (there : Option Held) → Fits t → t.cleared < t.layout.globals → 4200 * (busy_units t - 1) + 18 < doing_left words [] t d →
    Goes t words after d (cleared (next_global (quiet t)) there (quiet t))
clear_over t words after d there fits here more = go there
  where
    swaps_to : Option Held → Thread
    swaps_to o = swapped (next_global (quiet t)).name None o (record (quiet t) { cleared = t.cleared + 1 })

    go : (o : Option Held) → Goes t words after d (cleared (next_global (quiet t)) o (quiet t))
    go None =
        goes_to t (swaps_to None) (next_op (swaps_to None)) words after d (4200 * busy_units (swaps_to None)) (record { layout = refl; phases = refl; program = refl; count = refl; phase = refl; taken = refl; globals = omega arith })
        (next_comes (swaps_to None) fits) (omega (arith, more, here))
    go (Some held) =
        goes_to t (swaps_to (Some held)) (drop_begun held (swaps_to (Some held))) words after d (4200 * busy_units (swaps_to (Some held)) + 18)
        (record { layout = refl; phases = refl; program = refl; count = refl; phase = refl; taken = refl; globals = omega arith }) (drop_comes (swaps_to (Some held)) held) (omega (arith, more, here))

clear_made : (t : Thread) (words after : List ℕ) (l : Extent) (place word seen new : ℕ) → Fits t → t.cleared < t.layout.globals →
    Goes t words after (doings.Clearing (swap_plan l place word (attempt.Exchanging seen new)))
    (turned_at (Some (slice_index words place)) (doings.Clearing (swap_plan l place word (attempt.Exchanging seen new))) (quiet t))
clear_made t words after l place word seen new fits here = go (eqb (slice_index words place) seen) refl
  where
    go : (b : Bool) → eqb (slice_index words place) seen ≡ b → Goes t words after (doings.Clearing (swap_plan l place word (attempt.Exchanging seen new)))
        (cleared_on (swap_plan l place word attempt.Ended) (nexts.Done (cond b (swaps.Took seen) (swaps.Again (record { seen = seen; found = slice_index words place })))) (quiet t))
    go true e = clear_over t words after (doings.Clearing (swap_plan l place word (attempt.Exchanging seen new))) (held_in (next_global (quiet t)).kind (t.hands + 1) seen) fits here (rw e (omega arith))
    go false e = record { layout = refl; phases = refl; program = refl; count = refl; phase = refl; inside = λ e. refl; past = λ f. absurd f; waits = λ w. omega arith; fewer = λ free. rw e (omega arith) }

-- ---- a reference is given up

abbrev down_plan : Extent → ℕ → Kind → AttemptAt → Fall
down_plan l s list at = record { layout = l; slot = s; list = list; entry = None; at = at }

abbrev dropping_at : Extent → (hand : ℕ) → Kind → (slot : ℕ) → AttemptAt → Doing
dropping_at l hand kind slot x = doings.Dropping (record { hand = hand; kind = kind; place = slot }) (down_plan l slot kind x)

-- the drop, or what it brought about, is over
over : (t : Thread) (words after : List ℕ) (event : Option Act) (d : Doing) → Fits t → 4200 * busy_units t < doing_left words [] t d → Goes t words after d (next_op (record (quiet t) { event = event }))
over t words after event d fits lt =
    goes_to t (record (quiet t) { event = event }) (next_op (record (quiet t) { event = event })) words after d (4200 * busy_units t) (record { layout = refl; phases = refl; program = refl; count = refl; phase = refl; taken = refl; globals = omega arith })
    (next_comes (record (quiet t) { event = event }) fits) lt

abbrev down_by : Thread → Extent → (hand : ℕ) → Kind → (slot : ℕ) → ℕ → Option ℕ → Choice DownAnswer → Thread
down_by t l hand kind slot w e r =
    dropped_on (record { hand = hand; kind = kind; place = slot }) (turned_by down_moved (down_plan l slot kind attempt.Loading) (down_in (down_plan l slot kind attempt.Loading) e) (exchanging w r))
    (answer_by down_place (down_in (down_plan l slot kind attempt.Loading) e) (chosen (number l (Count slot)) w r)) (quiet t)

down_read : (t : Thread) (words : List ℕ) (l : Extent) (hand : ℕ) (kind : Kind) (slot : ℕ) → Fits t →
    Goes t words words (dropping_at l hand kind slot attempt.Loading) (turned_at (Some (count_at words l slot)) (dropping_at l hand kind slot attempt.Loading) (quiet t))
down_read t words l hand kind slot fits = go kind
  where
    w : ℕ
    w = count_at words l slot

    Read : Kind → Option ℕ → Choice DownAnswer → Type 0
    Read k e r = Goes t words words (dropping_at l hand k slot attempt.Loading) (down_by t l hand k slot w e r)

    more : (k : Kind) → Read k None (Tell (downs.More None))
    more k = over t words words _ _ fits (omega arith)

    slow : (k : Kind) (e : ℕ) (r : Choice DownAnswer) → Read k (Some e) r
    slow k e r = record { layout = refl; phases = refl; program = refl; count = refl; phase = refl; inside = λ e. refl; past = λ f. tt; waits = λ w. omega arith; fewer = λ free. omega arith }

    writes : (k : Kind) (new : ℕ) → Read k None (Write new)
    writes k new = record { layout = refl; phases = refl; program = refl; count = refl; phase = refl; inside = λ e. refl; past = λ f. tt; waits = λ w. omega arith; fewer = λ free. rw (eqb_same w) (omega arith) }

    strongly : (o : Option Word) → Read kinds.Strong (entry_named o) (told_as of_strong_down (strong_down_row o))
    strongly None = more kinds.Strong
    strongly (Some word.Free) = more kinds.Strong
    strongly (Some word.Immortal) = more kinds.Strong
    strongly (Some (word.Slow e)) = slow kinds.Strong e (Tell (downs.More None))
    strongly (Some (word.Counts c)) = writes kinds.Strong (packed (word.Counts (strong_less c)))

    unownedly : (o : Option Word) → Read kinds.Unowned (entry_named o) (told_as of_unowned_down (unowned_down_row o))
    unownedly None = more kinds.Unowned
    unownedly (Some word.Free) = more kinds.Unowned
    unownedly (Some word.Immortal) = more kinds.Unowned
    unownedly (Some (word.Slow e)) = slow kinds.Unowned e (Tell (downs.More None))
    unownedly (Some (word.Counts c)) = writes kinds.Unowned (packed (word.Counts (unowned_less c)))

    weakly : (o : Option Word) → Read kinds.Weak (entry_named o) (Tell (downs.More None))
    weakly None = more kinds.Weak
    weakly (Some word.Free) = more kinds.Weak
    weakly (Some word.Immortal) = more kinds.Weak
    weakly (Some (word.Slow e)) = slow kinds.Weak e (Tell (downs.More None))
    weakly (Some (word.Counts c)) = more kinds.Weak

    go : (k : Kind) → Goes t words words (dropping_at l hand k slot attempt.Loading) (turned_at (Some w) (dropping_at l hand k slot attempt.Loading) (quiet t))
    go kinds.Strong = strongly (unpacked w)
    go kinds.Unowned = unownedly (unpacked w)
    go kinds.Weak = weakly (unpacked w)

down_made : (t : Thread) (words after : List ℕ) (l : Extent) (hand : ℕ) (kind : Kind) (slot seen new : ℕ) (step : Step) (intent : Intent) → Fits t → t.asked ≡ moves.Step step intent →
    Goes t words after (dropping_at l hand kind slot (attempt.Exchanging seen new)) (turned_at (Some (count_at words l slot)) (dropping_at l hand kind slot (attempt.Exchanging seen new)) (quiet t))
down_made t words after l hand kind slot seen new step intent fits asked = go (eqb (count_at words l slot) seen) refl
  where
    Made : Kind → DownAnswer → Type 0
    Made k a = Goes t words after (dropping_at l hand k slot (attempt.Exchanging seen new)) (dropped_on (record { hand = hand; kind = k; place = slot }) (down_plan l slot k attempt.Ended) (nexts.Done a) (quiet t))

    more : (k : Kind) → eqb (count_at words l slot) seen ≡ true → Made k (downs.More None)
    more k e = over t words after _ _ fits (rw e (omega arith))

    dies_last : (b : Bool) → eqb (count_at words l slot) seen ≡ true → Made kinds.Strong (of_strong_down (cond b strong_downs.Last strong_downs.More))
    dies_last true e = record { layout = refl; phases = refl; program = refl; count = refl; phase = refl; inside = λ e. refl; past = λ f. tt; waits = λ w. omega arith; fewer = λ free. rw e (omega arith) }
    dies_last false e = more kinds.Strong e

    ends_last : (b : Bool) → eqb (count_at words l slot) seen ≡ true → Made kinds.Unowned (of_unowned_down (cond b less.Last less.More))
    ends_last true e = record { layout = refl; phases = refl; program = refl; count = refl; phase = refl; inside = λ e. refl; past = λ f. tt; waits = λ w. omega arith; fewer = λ free. rw e (omega arith) }
    ends_last false e = more kinds.Unowned e

    strongly : (o : Option Word) → eqb (count_at words l slot) seen ≡ true → Made kinds.Strong (of_strong_down (strong_down_end o))
    strongly None e = more kinds.Strong e
    strongly (Some word.Free) e = more kinds.Strong e
    strongly (Some word.Immortal) e = more kinds.Strong e
    strongly (Some (word.Slow x)) e = more kinds.Strong e
    strongly (Some (word.Counts c)) e = dies_last (eqb c.strong_extra 0) e

    unownedly : (o : Option Word) → eqb (count_at words l slot) seen ≡ true → Made kinds.Unowned (of_unowned_down (unowned_down_end o))
    unownedly None e = more kinds.Unowned e
    unownedly (Some word.Free) e = more kinds.Unowned e
    unownedly (Some word.Immortal) e = more kinds.Unowned e
    unownedly (Some (word.Slow x)) e = more kinds.Unowned e
    unownedly (Some (word.Counts c)) e = ends_last (eqb c.unowned 1) e

    hit : (k : Kind) → eqb (count_at words l slot) seen ≡ true → Made k (down_end_at None k seen)
    hit kinds.Strong e = strongly (unpacked seen) e
    hit kinds.Unowned e = unownedly (unpacked seen) e
    hit kinds.Weak e = more kinds.Weak e

    go : (b : Bool) → eqb (count_at words l slot) seen ≡ b → Made kind (cond b (down_end_at None kind seen) (downs.Again (record { seen = seen; found = count_at words l slot })))
    go true e = hit kind e
    go false e = record { layout = refl; phases = refl; program = refl; count = refl; phase = refl; inside = λ e. refl; past = λ f. tt; waits = λ w. omega arith; fewer = λ free. rw e (omega arith) }

-- ---- whatever it is doing

-- what the thread is after the step, which was doing this under a chain of deinits that wait
abbrev Falls : Thread → List ℕ → List Frame → Step → Doing → Type 0
Falls t words chain step d = GoesUnder t words chain (made_by step words) (chain_at (Some (found_by step words)) chain d) d (turned_at (Some (found_by step words)) d (quiet t))

-- the deinit of the object in the slot
module _ (shape : HeapShape) (t : Thread) (words : List ℕ) (chain : List Frame) (step : Step) (intent : Intent) (few : (name : ObjectName) → field_count shape name ≤ 8) (hand_left : HasHandLeft t) (fits : Fits t) (asked : t.asked ≡ moves.Step step intent)
    (s before taken : ℕ) (event : Option Act) where
  -- what the step makes of the words
  abbrev after : List ℕ
  after = made_by step words

  -- the deinit is at this place
  abbrev dying_at : At → Doing
  dying_at x = doings.Dying (dying_state (extent_of shape) shape s before taken event x)

  counting_down : (name : ObjectName) (f : ℕ) (d : Dropping) (x : AttemptAt) → CountAsks shape t.asked d.place (intents.Drop d.hand) x →
      Falls t words chain step (dying_at (at.Dropping name f (dropping_one (extent_of shape) d.hand d.kind d.place d.event (drops.Counting (drop_plan (extent_of shape) d.place d.kind x)))))
  counting_down name f d attempt.Start h = absurd h
  counting_down name f d attempt.Loading h =
      let is = asked_is t.asked step (Load (number (extent_of shape) (Count d.place))) intent (intents.Drop d.hand) asked h in
      rw is (drop_read t words words (extent_of shape) shape s before taken event fits few chain name f d.hand d.place d.event d.kind refl)
  counting_down name f d (attempt.Exchanging seen new) h =
      let is = asked_is t.asked step (Exchange (number (extent_of shape) (Count d.place)) seen new) intent (intents.Drop d.hand) asked h in
      rw is (drop_made t words (made_by (Exchange (number (extent_of shape) (Count d.place)) seen new) words) (extent_of shape) shape s before taken event fits few chain name f d.hand d.place d.event d.kind seen new)
  counting_down name f d attempt.Ended h = absurd h

  taken_out : (name : ObjectName) (f : ℕ) (d : Dropping) (x : DropAt) → DropAsks shape t.asked d x → Falls t words chain step (dying_at (at.Dropping name f (dropping_one (extent_of shape) d.hand d.kind d.place d.event x)))
  taken_out name f d drops.Start h = absurd h
  taken_out name f d (drops.Counting p) h = rw (h.0) (counting_down name f d p.at h.1)
  taken_out name f d (drops.InEntry p) h = absurd h
  taken_out name f d (drops.Ending p) h = rw (h.0) (drop_ended t words after (extent_of shape) shape s before taken event fits few chain name f d.hand d.place d.event d.kind (found_by step words))
  taken_out name f d drops.Returning h = absurd h
  taken_out name f d drops.Ended h = absurd h

  finishing : (parent : Option Parent) (x : AttemptAt) → parent ≡ parent_of chain → CountAsks shape t.asked s (intents.Deinit s) x → Falls t words chain step (dying_at (at.Finishing parent (drop_plan (extent_of shape) s kinds.Unowned x)))
  finishing parent attempt.Start is h = absurd h
  finishing parent attempt.Loading is h =
      let same = asked_is t.asked step (Load (number (extent_of shape) (Count s))) intent (intents.Deinit s) asked h in
      rw same (finish_read t words words (extent_of shape) shape s before taken event fits few chain parent is refl)
  finishing parent (attempt.Exchanging seen new) is h =
      let same = asked_is t.asked step (Exchange (number (extent_of shape) (Count s)) seen new) intent (intents.Deinit s) asked h in
      rw same (finish_made t words (made_by (Exchange (number (extent_of shape) (Count s)) seen new) words) (extent_of shape) shape s before taken event fits few chain parent is seen new)
  finishing parent attempt.Ended is h = absurd h

  dying : (x : At) → CascadeAsks shape t.asked chain s x → Falls t words chain step (dying_at x)
  dying at.Start h = absurd h
  dying at.Entering h = enters_on t words after (extent_of shape) shape s before taken event fits few chain (found_by step words)
  dying at.Naming h = name_on t words after (extent_of shape) shape s before taken event fits few chain (found_by step words)
  dying (at.Named name) h = absurd h
  dying (at.Looking name f) h = look_on t words after (extent_of shape) shape s before taken event fits few chain name f (found_by step words)
  dying (at.Taking name f place) h = take_on t words after (extent_of shape) shape s before taken event fits few chain name f place (found_by step words) hand_left
  dying (at.Dropping name f d) h = rw (h.0) (taken_out name f d d.at h.1)
  dying at.Leaving h = leave_on t words after (extent_of shape) shape s before taken event fits few chain (found_by step words)
  dying (at.Finishing parent p) h = rw (h.1) (finishing parent p.at h.0 h.2)
  dying (at.Ending parent p) h = rw (h.1) (end_on t words after (extent_of shape) shape s before taken event fits few chain parent h.0 (found_by step words))
  dying (at.Resuming f) h = resume_on t words after (extent_of shape) shape s before taken event fits few chain f (found_by step words)
  dying at.Ended h = absurd h

falls_at : (shape : HeapShape) (t : Thread) (words : List ℕ) (chain : List Frame) (step : Step) (intent : Intent) (d : Doing) → ((name : ObjectName) → field_count shape name ≤ 8) → HasHandLeft t → Fits t → t.asked ≡ moves.Step step intent → Asks shape chain t d →
    IsUnderWay t.layout t.shape (length t.vars) d → IsInOperation t d → Falls t words chain step d
falls_at shape t words chain step intent d few hand_left fits asked a u o = go d a u o
  where
    l : Extent
    l = extent_of shape

    making : (to : ℕ) (name : ObjectName) (immortal : Bool) (x : Search) → SearchAsks shape t.asked name x → extent_of shape ≡ t.layout → IsMakingIn t.layout x → t.index < length t.program →
        Falls t words chain step (making_at (extent_of shape) to name immortal x)
    making to name immortal search.Start h same inside here = absurd h
    making to name immortal (search.Looking k) h same inside here =
        let is = asked_is t.asked step (looking (extent_of shape) k) intent (intents.New name.class) asked h in
        rw is (looking_on t words (extent_of shape) to name immortal k fits (subst (λ (e : Extent). k < words_of e.slots) (sym same) inside))
    making to name immortal (search.Taking s seen) h same inside here =
        let is = asked_is t.asked step (taking (extent_of shape) s) intent (intents.New name.class) asked h in
        rw is (taking_on t words (made_by (taking (extent_of shape) s) words) (extent_of shape) to name immortal s seen same)
    making to name immortal (search.Counting s) h same inside here = counted_on t words (made_by step words) (extent_of shape) to name immortal s (found_by step words)
    making to name immortal (search.Naming s) h same inside here = named t words (made_by step words) (extent_of shape) to name immortal s (found_by step words) fits here
    making to name immortal search.Ended h same inside here = absurd h

    gaining : (gain : Gain) (to : ℕ) (from : Source) (list : Kind) (x : AttemptAt) → CountAsks shape t.asked from.place (intent_of gain from) x → t.index < length t.program → Falls t words chain step (gaining_at (extent_of shape) list shape.caps gain to from x)
    gaining gain to from list attempt.Start h here = absurd h
    gaining gain to from list attempt.Loading h here =
        let is = asked_is t.asked step (Load (number (extent_of shape) (Count from.place))) intent (intent_of gain from) asked h in
        rw is (up_read t words (extent_of shape) list shape.caps gain to from step intent fits here asked)
    gaining gain to from list (attempt.Exchanging seen new) h here =
        let is = asked_is t.asked step (Exchange (number (extent_of shape) (Count from.place)) seen new) intent (intent_of gain from) asked h in
        rw is (up_made t words (made_by (Exchange (number (extent_of shape) (Count from.place)) seen new) words) (extent_of shape) list shape.caps gain to from seen new fits here)
    gaining gain to from list attempt.Ended h here = absurd h

    naming : (to : ℕ) (held : Held) (x : Once) → NameAsks shape t.asked held.place x → t.index < length t.program → Falls t words chain step (doings.Naming to held (record { layout = extent_of shape; slot = held.place; at = x }))
    naming to held once.Start h here = absurd h
    naming to held once.Asked h here = name_read t words (made_by step words) (extent_of shape) to held (found_by step words) fits here
    naming to held once.Ended h here = absurd h

    opening : (to : ℕ) (cell : Cell) (place : ℕ) (x : AttemptAt) → AttemptAsks t.asked place (intents.Access cell.name) x → t.index < length t.program → Falls t words chain step (opening_at (extent_of shape) to cell place x)
    opening to cell place attempt.Start h here = absurd h
    opening to cell place attempt.Loading h here =
        let is = asked_is t.asked step (Load place) intent (intents.Access cell.name) asked h in
        rw is (open_read t words (extent_of shape) to cell place fits here)
    opening to cell place (attempt.Exchanging seen new) h here =
        let is = asked_is t.asked step (Exchange place seen new) intent (intents.Access cell.name) asked h in
        rw is (open_made t words (made_by (Exchange place seen new) words) (extent_of shape) to cell place seen new)
    opening to cell place attempt.Ended h here = absurd h

    closing : (to : ℕ) (cell : CellName) (held : Held) (place value : ℕ) (x : Once) → OnceAsks t.asked (Store place value) (intents.Access cell) x → t.index < length t.program →
        Falls t words chain step (doings.Closing to cell held (record { layout = extent_of shape; place = place; value = value; at = x }))
    closing to cell held place value once.Start h here = absurd h
    closing to cell held place value once.Asked h here = closed t words (made_by step words) to cell held (extent_of shape) place value (found_by step words) fits here
    closing to cell held place value once.Ended h here = absurd h

    setting : (from : ℕ) (cell : Cell) (place word : ℕ) (i : Intent) (x : AttemptAt) → AttemptAsks t.asked place i x → Falls t words chain step (doings.Setting from cell (swap_plan (extent_of shape) place word x))
    setting from cell place word i attempt.Start h = absurd h
    setting from cell place word i attempt.Loading h =
        let is = asked_is t.asked step (Load place) intent i asked h in
        rw is (set_read t words (extent_of shape) from cell place word)
    setting from cell place word i (attempt.Exchanging seen new) h =
        let is = asked_is t.asked step (Exchange place seen new) intent i asked h in
        rw is (set_made t words (made_by (Exchange place seen new) words) (extent_of shape) from cell place word seen new fits)
    setting from cell place word i attempt.Ended h = absurd h

    clearing : (place word : ℕ) (i : Intent) (x : AttemptAt) → AttemptAsks t.asked place i x → t.cleared < t.layout.globals → Falls t words chain step (doings.Clearing (swap_plan (extent_of shape) place word x))
    clearing place word i attempt.Start h here = absurd h
    clearing place word i attempt.Loading h here =
        let is = asked_is t.asked step (Load place) intent i asked h in
        rw is (clear_read t words (extent_of shape) place word)
    clearing place word i (attempt.Exchanging seen new) h here =
        let is = asked_is t.asked step (Exchange place seen new) intent i asked h in
        rw is (clear_made t words (made_by (Exchange place seen new) words) (extent_of shape) place word seen new fits here)
    clearing place word i attempt.Ended h here = absurd h

    dropping : (hand : ℕ) (kind : Kind) (slot : ℕ) (x : AttemptAt) → CountAsks shape t.asked slot (intents.Drop hand) x → Falls t words chain step (dropping_at (extent_of shape) hand kind slot x)
    dropping hand kind slot attempt.Start h = absurd h
    dropping hand kind slot attempt.Loading h =
        let is = asked_is t.asked step (Load (number (extent_of shape) (Count slot))) intent (intents.Drop hand) asked h in
        rw is (down_read t words (extent_of shape) hand kind slot fits)
    dropping hand kind slot (attempt.Exchanging seen new) h =
        let is = asked_is t.asked step (Exchange (number (extent_of shape) (Count slot)) seen new) intent (intents.Drop hand) asked h in
        rw is (down_made t words (made_by (Exchange (number (extent_of shape) (Count slot)) seen new) words) (extent_of shape) hand kind slot seen new step intent fits asked)
    dropping hand kind slot attempt.Ended h = absurd h

    ending : (s : ℕ) (x : Once) → VacateAsks shape t.asked s x → Falls t words chain step (doings.Vacating s (record { layout = extent_of shape; slot = s; at = x }))
    ending s once.Start h = absurd h
    ending s once.Asked h = over t words (made_by step words) _ _ fits (omega arith)
    ending s once.Ended h = absurd h

    go : (d : Doing) → Asks shape chain t d → IsUnderWay t.layout t.shape (length t.vars) d → IsInOperation t d → Falls t words chain step d
    go doings.Ready a u o = absurd (let k : t.asked ≡ moves.PhaseEnd = a in cc)
    go (doings.Making to name plan) a u o =
        let same : extent_of shape ≡ t.layout = sym (ap (λ (p : Creation). p.layout) a.0) ∙ u.1 in
        rw (a.0) (making to name (class_at shape name.class).immortal plan.at a.1 same u.3 o.0)
    go (doings.Gaining gain to from plan) a u o = rw (a.0) (gaining gain to from (list_of gain from) plan.at a.1 o.0)
    go (doings.Naming to held plan) a u o = rw (a.0) (naming to held plan.at a.1 o)
    go (doings.Opening to cell plan) a u o =
        rw (a.0) (opening to cell (cell_number (extent_of shape) cell.name) plan.at a.1 o.0)
    go (doings.Closing to cell held plan) a u o = rw (a.0) (closing to cell held (cell_number (extent_of shape) cell) (held.place + 2) plan.at a.1 o)
    go (doings.Setting from cell plan) a u o =
        rw (a.0) (setting from cell (cell_number (extent_of shape) cell.name) (word_of (value t.vars from)) _ plan.at a.1)
    go (doings.Clearing plan) a u o =
        rw (a.0) (clearing (cell_number (extent_of shape) (cells.Global t.cleared)) 0 _ plan.at a.1 o)
    go (doings.Dropping held plan) a u o = rw (a.0) (dropping held.hand held.kind held.place plan.at a.1)
    go (doings.Dying c) a u o = rw (a.0) (dying shape t words chain step intent few hand_left fits asked c.slot c.before c.taken c.event c.at a.1)
    go (doings.Vacating slot plan) a u o = rw (a.0) (ending slot plan.at a.1)
    go doings.Ended a u o = absurd (let k : t.asked ≡ moves.Ended = a.0 in cc)

-- ---- what a stepper fits

is_forth : (i end : ℕ) (o : Op) → GoesForth i end o → IsForth i o
is_forth i end (op.New to class) g = tt
is_forth i end (op.Copy to from) g = tt
is_forth i end (op.Move to from) g = tt
is_forth i end (op.Drop v) g = tt
is_forth i end (op.Unown to of) g = tt
is_forth i end (op.Weak to of) g = tt
is_forth i end (op.Load to of) g = tt
is_forth i end (op.Get to cell) g = tt
is_forth i end (op.Set cell from) g = tt
is_forth i end (op.IfNil v to) g = g.0
is_forth i end (op.IfSome v to) g = g.0

pub blocks_forth : (program : List Op) (phases : List (List Op)) → program ≡ in_one_list 0 phases → BlocksFit program phases → (i : ℕ) (o : Op) → slice_get program i ≡ Some o → IsForth i o
blocks_forth program phases whole blocks i o there =
    let within = slice_get_within program i o there in
    let long = long_as_phases program phases whole in
    let all = first_all (length phases) phases (omega arith) in
    is_forth i (ops_in_first (length phases) phases) o (blocks (length phases) i o (omega (arith, within, long, all)) there)

stepper_fits : (t : Thread) → IsStepper t → Fits t
stepper_fits t s = (s.slots, blocks_forth t.program t.phases s.whole s.blocks)

-- A thread that is given what its step finds has fewer steps left.
pub falls : (shape : HeapShape) (t : Thread) (words : List ℕ) (chain : List Frame) (step : Step) (intent : Intent) → ((name : ObjectName) → field_count shape name ≤ 8) → IsStepper t → HasHandLeft t → Asks shape chain t t.doing → t.asked ≡ moves.Step step intent →
    Falls t words chain step t.doing
falls shape t words chain step intent few s hand_left a asked = falls_at shape t words chain step intent t.doing few hand_left (stepper_fits t s) asked a s.under_way s.in_operation

-- a thread without a step has nothing under way
pub stops : (shape : HeapShape) (chain : List Frame) (t : Thread) (d : Doing) → Asks shape chain t d → is_step t.asked ≡ false → is_busy d ≡ false
stops shape chain t d a idle = go d a
  where
    stepping : (step : Step) (intent : Intent) → t.asked ≡ moves.Step step intent → ⊥
    stepping step intent h = absurd (let steps : is_step t.asked ≡ true = ap is_step h in cc)

    making : (name : ObjectName) (x : Search) → SearchAsks shape t.asked name x → ⊥
    making name search.Start h = h
    making name (search.Looking k) h = stepping _ _ h
    making name (search.Taking s seen) h = stepping _ _ h
    making name (search.Counting s) h = stepping _ _ h
    making name (search.Naming s) h = stepping _ _ h
    making name search.Ended h = h

    attempting : (place : ℕ) (intent : Intent) (x : AttemptAt) → AttemptAsks t.asked place intent x → ⊥
    attempting place intent attempt.Start h = h
    attempting place intent attempt.Loading h = stepping _ _ h
    attempting place intent (attempt.Exchanging seen new) h = stepping _ _ h
    attempting place intent attempt.Ended h = h

    stepping_once : (step : Step) (intent : Intent) (x : Once) → OnceAsks t.asked step intent x → ⊥
    stepping_once step intent once.Start h = h
    stepping_once step intent once.Asked h = stepping _ _ h
    stepping_once step intent once.Ended h = h

    taken_out : (d : Dropping) (x : DropAt) → DropAsks shape t.asked d x → ⊥
    taken_out d drops.Start h = h
    taken_out d (drops.Counting p) h = attempting _ _ p.at h.1
    taken_out d (drops.InEntry p) h = h
    taken_out d (drops.Ending p) h = stepping _ _ h.1
    taken_out d drops.Returning h = h
    taken_out d drops.Ended h = h

    dying : (s : ℕ) (x : At) → CascadeAsks shape t.asked chain s x → ⊥
    dying s at.Start h = h
    dying s at.Entering h = stepping _ _ h
    dying s at.Naming h = stepping _ _ h
    dying s (at.Named name) h = h
    dying s (at.Looking name field) h = stepping _ _ h
    dying s (at.Taking name field place) h = stepping _ _ h
    dying s (at.Dropping name field d) h = taken_out d d.at h.1
    dying s at.Leaving h = stepping _ _ h
    dying s (at.Finishing parent p) h = attempting _ _ p.at h.2
    dying s (at.Ending parent p) h = stepping _ _ h.2
    dying s (at.Resuming field) h = stepping _ _ h
    dying s at.Ended h = h

    go : (d : Doing) → Asks shape chain t d → is_busy d ≡ false
    go doings.Ready a = refl
    go (doings.Making to name plan) a = absurd (making name plan.at a.1)
    go (doings.Gaining gain to from plan) a = absurd (attempting _ _ plan.at a.1)
    go (doings.Naming to held plan) a = absurd (stepping_once _ _ plan.at a.1)
    go (doings.Opening to cell plan) a = absurd (attempting _ _ plan.at a.1)
    go (doings.Closing to cell held plan) a = absurd (stepping_once _ _ plan.at a.1)
    go (doings.Setting from cell plan) a = absurd (attempting _ _ plan.at a.1)
    go (doings.Clearing plan) a = absurd (attempting _ _ plan.at a.1)
    go (doings.Dropping held plan) a = absurd (attempting _ _ plan.at a.1)
    go (doings.Dying c) a = absurd (dying c.slot c.at a.1)
    go (doings.Vacating slot plan) a = absurd (stepping_once _ _ plan.at a.1)
    go doings.Ended a = refl

-- one that waits for its next phase is ready for it
ready : (shape : HeapShape) (chain : List Frame) (t : Thread) (d : Doing) → Asks shape chain t d → t.asked ≡ moves.PhaseEnd → d ≡ doings.Ready
ready shape chain t d a asked = go d a (stops shape chain t d a (ap is_step asked))
  where
    go : (d : Doing) → Asks shape chain t d → is_busy d ≡ false → d ≡ doings.Ready
    go doings.Ready a idle = refl
    go (doings.Making to name plan) a idle = absurd (cc)
    go (doings.Gaining gain to from plan) a idle = absurd (cc)
    go (doings.Naming to held plan) a idle = absurd (cc)
    go (doings.Opening to cell plan) a idle = absurd (cc)
    go (doings.Closing to cell held plan) a idle = absurd (cc)
    go (doings.Setting from cell plan) a idle = absurd (cc)
    go (doings.Clearing plan) a idle = absurd (cc)
    go (doings.Dropping held plan) a idle = absurd (cc)
    go (doings.Dying c) a idle = absurd (cc)
    go (doings.Vacating slot plan) a idle = absurd (cc)
    go doings.Ended a idle = absurd (let h : t.asked ≡ moves.Ended = a.0 in cc)

-- A thread that waits for its next phase begins it.
pub begins_phase : (shape : HeapShape) (chain : List Frame) (t : Thread) → Fits t → Asks shape chain t t.doing → t.asked ≡ moves.PhaseEnd → Comes t (turned t None) (4200 * units t)
begins_phase shape chain t fits asks asked = go t.doing (ready shape chain t t.doing asks asked)
  where
    go : (d : Doing) → d ≡ doings.Ready → Comes t (turned_at None d (quiet t)) (4200 * units t)
    go d e = rw e (after_same t (quiet t) (begun (quiet t)) (4200 * units t) (4200 * units t) (record { layout = refl; phases = refl; program = refl; count = refl; phase = refl; taken = refl; globals = omega arith }) (begins (quiet t) fits) (omega arith))
