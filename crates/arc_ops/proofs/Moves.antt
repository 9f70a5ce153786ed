-- What holds of each stepper goes on to hold.
use Rattle.std.proofs.Common.{◌≡◌, ℕ, ◌+◌, ◌-◌, ◌≤◌, ◌<◌, Bool, true, false, cond, ltb, List, length, set, eqb, Option, Some, None, bit_and, ◌==◌, refl, sym, ap, ◌∙◌, subst, arith}
use Rattle.std.proofs.lemmas.Bool.{ltb-true, eqb-true, eqb-false}
use Rattle.std.proofs.lemmas.List.{length-set}
use Rattle.std.specs.Prelude.{All, ◌≢◌}
use Rattle.std.specs.Option.{unwrap_or}
use Rattle.arc_model.specs.declared.event.Act.{Act}
use Rattle.arc_model.specs.declared.event.ObjectName.{ObjectName}
use Rattle.arc_model.specs.declared.answer.Answer.TheVariants as answers
use Rattle.arc_rule.specs.declared.plan.Next.{Next}
use Rattle.arc_rule.specs.declared.plan.Next.TheVariants as nexts
use Rattle.arc_plan.specs.declared.slots.Making.{Making as Search}
use Rattle.arc_plan.specs.declared.slots.Making.TheVariants as search
use Rattle.arc_plan.specs.declared.slots.NewObjectAnswer.TheVariants.{Slot, NoSlot, Again}
use Rattle.arc_bits.specs.declared.packing.Word.{Word}
use Rattle.arc_bits.specs.declared.packing.Word.TheVariants as words
use Rattle.arc_bits.specs.Words.{packed, unpacked}
use Rattle.arc_bits.specs.Moves.{strong_more, unowned_more}
use Rattle.arc_model.specs.Shapes.{CapNumbers}
use Rattle.arc_model.specs.declared.shape.Kind.{Kind}
use Rattle.arc_model.specs.declared.shape.Kind.TheVariants as kinds
use Rattle.arc_rule.specs.declared.attempt.At.{At}
use Rattle.arc_rule.specs.declared.attempt.At.TheVariants as attempt
use Rattle.arc_rule.specs.declared.attempt.Choice.TheVariants.{Tell, Write}
use Rattle.arc_rule.specs.Attempts.{answer_at, answer_by, chosen, exchanging, told_as, turned_at as attempt_turned}
use Rattle.arc_cells.specs.declared.begin.BeginAnswer.TheVariants as begins
use Rattle.arc_cells.specs.declared.swap.SwapAnswer.TheVariants as swaps
use Rattle.arc_cells.specs.Begins.{Beginning, begin_row, begin_turned, begin_answer}
use Rattle.arc_cells.specs.Swaps.{SwapAttempt, swap_row, swap_turned, swap_answer}
use Rattle.arc_plan.specs.declared.strong.StrongUpAnswer.TheVariants as strongs
use Rattle.arc_plan.specs.declared.unowned.UnownedUpAnswer.TheVariants as unowneds
use Rattle.arc_plan.specs.Strong.{strong_up_row}
use Rattle.arc_plan.specs.Unowned.{unowned_up_row}
use Rattle.arc_side.specs.declared.up.UpAnswer.TheVariants as ups
use Rattle.arc_side.specs.Inline.{entry_named}
use Rattle.arc_side.specs.Ups.{Rise, of_strong_up, of_unowned_up, up_in, up_place, up_answer}
use Rattle.arc_plan.proofs.Bits.{free_is_clear}
use Rattle.arc_rule.specs.Bits.{words_of, bit_of}
use Rattle.arc_rule.specs.Extents.{Extent}
use Rattle.arc_plan.specs.Slots.{Creation, IsTaking, free_slot, looked, looked_answer, looking, counting, making_turned, making_answer, creation_turned, creation_answer}
use Rattle.arc_model.specs.References.{field_count}
use Rattle.arc_rule.specs.Isa.{IsName, isa_name_of}
use Rattle.arc_rule.specs.Places.{number}
use Rattle.arc_rule.specs.declared.layout.Place.TheVariants as places
use Rattle.arc_rule.specs.declared.step.Step.TheVariants.{Load, Store}
use Rattle.arc_side.specs.Downs.{Fall, down_turned, down_answer}
use Rattle.arc_side.specs.declared.down.DownAnswer.{DownAnswer}
use Rattle.arc_side.specs.declared.down.DownAnswer.TheVariants as downs
use Rattle.arc_side.specs.SlotEnds.{SlotEnding, slot_end_from, slot_end_turn}
use Rattle.arc_side.specs.declared.slot_end.SlotEndNext.{SlotEndNext}
use Rattle.arc_side.specs.declared.slot_end.SlotEndNext.TheVariants as ends
use Rattle.arc_cells.specs.declared.parent.Parent.{Parent}
use Rattle.arc_cells.specs.Drops.{Dropping, drop_from, drop_turn}
use Rattle.arc_cells.specs.declared.ref_drop.RefDropNext.{RefDropNext}
use Rattle.arc_cells.specs.declared.ref_drop.RefDropNext.TheVariants as drops
use Rattle.arc_cells.specs.declared.cascade.At.{At as CascadeAt}
use Rattle.arc_cells.specs.declared.cascade.At.TheVariants as at
use Rattle.arc_cells.specs.Cascades.{CascadeState, CascadeTurn, asks, looks, climbs, drops_on, ends_on, finishes, has_taken, has_finished, field_kind, turn_at, cascade_turn}
use Rattle.arc_served.specs.Kept.{Kept}
use Rattle.arc_ops.specs.Cells.{IsCellWord}
use Rattle.arc_ops.specs.Takes.{IsGainWord, gain_takes, IsGainAnswer, IsCellAt, DiesAt}
use Rattle.arc_ops.specs.declared.gain.Gain.{Gain}
use Rattle.arc_ops.specs.declared.stepper.Held.{Held}
use Rattle.arc_ops.specs.declared.stepper.Doing.TheVariants.{Ended}
use Rattle.arc_ops.specs.Thread.{Thread, put}
use Rattle.arc_ops.specs.Drops.{replaced}
use Rattle.arc_ops.specs.Makes.{strong_to, made_on}
use Rattle.arc_ops.specs.Steppers.{IsStepper, HeldFits, IsMakingIn, FewBefore, MadeBefore, MakingGoesOn, IsOpeningIn, OpeningGoesOn, IsSwappingIn, SwappingGoesOn}

-- an idle stepper at a later operation, behind operations that moved references
pub moved : (t : Thread) → IsStepper t → t.doing ≡ Ended → (i : ℕ) (vars : List (Option Held)) (kept : Kept) → t.index ≤ i → i ≤ length t.program → length vars ≡ length t.vars →
    (All (HeldFits t.layout.slots) t.vars → All (HeldFits t.layout.slots) vars) → IsStepper (record t { index = i; vars = vars; kept = kept })
moved t s idle i vars kept from within count held = record {
  layout = s.layout;
  classes = s.classes;
  slots = s.slots;
  globals = s.globals;
  global_kinds = s.global_kinds;
  strong_cap = s.strong_cap;
  thread = s.thread;
  vars_are = rw count s.vars_are;
  vars_fit = rw count s.vars_fit;
  classes_fit = s.classes_fit;
  cells_fit = s.cells_fit;
  cleared = s.cleared;
  taken = s.taken;
  whole = s.whole;
  blocks = s.blocks;
  few = s.few;
  held = held s.held;
  phase = s.phase;
  index = within;
  hands = let h = s.hands in omega arith;
  made = let m = s.made in omega arith;
  under_way = rw idle tt;
  in_operation = rw idle tt;
}

-- a stepper two of whose variables have other references
pub revalued : (t : Thread) → IsStepper t → (to from : ℕ) (new last : Option Held) → All (HeldFits t.layout.slots) (set (set t.vars to new) from last) → IsStepper (record t { vars = set (set t.vars to new) from last })
revalued t s to from new last held = record {
  layout = s.layout;
  classes = s.classes;
  slots = s.slots;
  globals = s.globals;
  global_kinds = s.global_kinds;
  strong_cap = s.strong_cap;
  thread = s.thread;
  vars_are = rw same s.vars_are;
  vars_fit = rw same s.vars_fit;
  classes_fit = s.classes_fit;
  cells_fit = s.cells_fit;
  cleared = s.cleared;
  taken = s.taken;
  whole = s.whole;
  blocks = s.blocks;
  few = s.few;
  held = held;
  phase = s.phase;
  index = s.index;
  hands = s.hands;
  made = s.made;
  under_way = rw same s.under_way;
  in_operation = s.in_operation;
}
  where
    same : length (set (set t.vars to new) from last) ≡ length t.vars
    same = length-set (set t.vars to new) from last ∙ length-set t.vars to new

-- an idle stepper that has made an object
pub made_one : (t : Thread) → IsStepper t → t.doing ≡ Ended → FewBefore t → (event : Option Act) → IsStepper (record t { hands = t.hands + 1; made = t.made + 1; event = event })
made_one t s idle few event = record {
  layout = s.layout;
  classes = s.classes;
  slots = s.slots;
  globals = s.globals;
  global_kinds = s.global_kinds;
  strong_cap = s.strong_cap;
  thread = s.thread;
  vars_are = s.vars_are;
  vars_fit = s.vars_fit;
  classes_fit = s.classes_fit;
  cells_fit = s.cells_fit;
  cleared = s.cleared;
  taken = s.taken;
  whole = s.whole;
  blocks = s.blocks;
  few = s.few;
  held = s.held;
  phase = s.phase;
  index = s.index;
  hands = let f = few.0 in omega arith;
  made = let f = few.1 in omega arith;
  under_way = rw idle tt;
  in_operation = rw idle tt;
}

-- an idle stepper that has a reference more
pub took_one : (t : Thread) → IsStepper t → t.doing ≡ Ended → t.hands ≤ t.index + t.cleared + t.taken → (event : Option Act) → IsStepper (record t { hands = t.hands + 1; event = event })
took_one t s idle few event = record {
  layout = s.layout;
  classes = s.classes;
  slots = s.slots;
  globals = s.globals;
  global_kinds = s.global_kinds;
  strong_cap = s.strong_cap;
  thread = s.thread;
  vars_are = s.vars_are;
  vars_fit = s.vars_fit;
  classes_fit = s.classes_fit;
  cells_fit = s.cells_fit;
  cleared = s.cleared;
  taken = s.taken;
  whole = s.whole;
  blocks = s.blocks;
  few = s.few;
  held = s.held;
  phase = s.phase;
  index = s.index;
  hands = omega arith;
  made = s.made;
  under_way = rw idle tt;
  in_operation = rw idle tt;
}

-- an idle stepper that has cleared a global
pub cleared_one : (t : Thread) → IsStepper t → t.doing ≡ Ended → t.cleared < t.layout.globals → IsStepper (record t { cleared = t.cleared + 1 })
cleared_one t s idle left = record {
  layout = s.layout;
  classes = s.classes;
  slots = s.slots;
  globals = s.globals;
  global_kinds = s.global_kinds;
  strong_cap = s.strong_cap;
  thread = s.thread;
  vars_are = s.vars_are;
  vars_fit = s.vars_fit;
  classes_fit = s.classes_fit;
  cells_fit = s.cells_fit;
  cleared = omega arith;
  taken = s.taken;
  whole = s.whole;
  blocks = s.blocks;
  few = s.few;
  held = s.held;
  phase = s.phase;
  index = s.index;
  hands = let h = s.hands in omega arith;
  made = s.made;
  under_way = rw idle tt;
  in_operation = rw idle tt;
}

-- ---- the plans on cells

-- an access begins where the load gave the word of a reference
pub opening_goes_on : (slots : ℕ) (plan : Beginning) (last : Option ℕ) → IsOpeningIn slots plan.at → IsCellAt slots plan.at (unwrap_or last 0) →
    OpeningGoesOn slots (begin_turned plan last).at (begin_answer plan last)
opening_goes_on slots plan last opening fits = go plan.at opening fits
  where
    loaded : (z o : Bool) → eqb (unwrap_or last 0) 0 ≡ z → eqb (unwrap_or last 0) 1 ≡ o → IsCellWord slots (unwrap_or last 0) →
        OpeningGoesOn slots (exchanging (unwrap_or last 0) (cond z (Tell begins.Nil) (cond o (Tell begins.Busy) (Write 1)))) (chosen plan.place (unwrap_or last 0) (cond z (Tell begins.Nil) (cond o (Tell begins.Busy) (Write 1))))
    loaded true o z_is o_is fits = tt
    loaded false true z_is o_is fits = tt
    loaded false false z_is o_is fits =
        let zero_not = eqb-false (unwrap_or last 0) 0 z_is in
        let one_not = eqb-false (unwrap_or last 0) 1 o_is in
        (omega (arith, zero_not, one_not), fits)

    exchanged : (seen : ℕ) (b : Bool) → (2 ≤ seen) × IsCellWord slots seen →
        OpeningGoesOn slots attempt.Ended (nexts.Done (cond b (begins.Held seen) (begins.Again (record { seen = seen; found = unwrap_or last 0 }))))
    exchanged seen true within = within
    exchanged seen false within = tt

    go : (at : At) → IsOpeningIn slots at → IsCellAt slots at (unwrap_or last 0) →
        OpeningGoesOn slots (attempt_turned begin_row at (unwrap_or last 0)) (answer_at begin_row begins.Held begins.Again plan.place at (unwrap_or last 0))
    go attempt.Start opening fits = tt
    go attempt.Loading opening fits = loaded (eqb (unwrap_or last 0) 0) (eqb (unwrap_or last 0) 1) refl refl fits
    go (attempt.Exchanging seen new) opening fits = exchanged seen (eqb (unwrap_or last 0) seen) opening
    go attempt.Ended opening fits = tt

-- a word is exchanged for another where the load didn't give that of an access
pub swapping_goes_on : (slots : ℕ) (plan : SwapAttempt) (last : Option ℕ) → IsSwappingIn slots plan.at → IsCellAt slots plan.at (unwrap_or last 0) →
    SwappingGoesOn slots (swap_turned plan last).at (swap_answer plan last)
swapping_goes_on slots plan last swapping fits = go plan.at swapping fits
  where
    loaded : (o : Bool) → eqb (unwrap_or last 0) 1 ≡ o → IsCellWord slots (unwrap_or last 0) →
        SwappingGoesOn slots (exchanging (unwrap_or last 0) (cond o (Tell swaps.Busy) (Write plan.new))) (chosen plan.place (unwrap_or last 0) (cond o (Tell swaps.Busy) (Write plan.new)))
    loaded true o_is fits = tt
    loaded false o_is fits = (eqb-false (unwrap_or last 0) 1 o_is, fits)

    exchanged : (seen : ℕ) (b : Bool) → (seen ≢ 1) × IsCellWord slots seen →
        SwappingGoesOn slots attempt.Ended (nexts.Done (cond b (swaps.Took seen) (swaps.Again (record { seen = seen; found = unwrap_or last 0 }))))
    exchanged seen true within = within
    exchanged seen false within = tt

    go : (at : At) → IsSwappingIn slots at → IsCellAt slots at (unwrap_or last 0) →
        SwappingGoesOn slots (attempt_turned (swap_row plan.new) at (unwrap_or last 0)) (answer_at (swap_row plan.new) swaps.Took swaps.Again plan.place at (unwrap_or last 0))
    go attempt.Start swapping fits = tt
    go attempt.Loading swapping fits = loaded (eqb (unwrap_or last 0) 1) refl fits
    go (attempt.Exchanging seen new) swapping fits = exchanged seen (eqb (unwrap_or last 0) seen) swapping
    go attempt.Ended swapping fits = tt

-- the plan that makes an object looks on, takes a slot and stores the object's words
pub making_goes_on : (t : Thread) (name : ObjectName) (plan : Creation) (last : Option ℕ) → IsName name → IsMakingIn t.layout plan.at → plan.layout ≡ t.layout → MadeBefore t plan.at →
    MakingGoesOn t name (creation_turned plan last).at (creation_answer plan last)
making_goes_on t name plan last is_name making layout made =
    subst (λ (l : Extent). MakingGoesOn (record t { layout = l }) name (creation_turned plan last).at (creation_answer plan last)) layout (go plan.at (subst (λ (l : Extent). IsMakingIn l plan.at) (sym layout) making) made)
  where
    looked_on : (word : ℕ) → FewBefore t → (free : Option ℕ) → ((s : ℕ) → free ≡ Some s → IsTaking plan.layout.slots s (unwrap_or last 0)) →
        MakingGoesOn (record t { layout = plan.layout }) name (looked plan.layout.slots word (unwrap_or last 0) free) (looked_answer plan.layout word free)
    looked_on word few (Some s) clear = (is_name, (clear s refl, few))
    looked_on word few None clear = more (ltb (word + 1) (words_of plan.layout.slots)) refl
      where
        more : (c : Bool) → ltb (word + 1) (words_of plan.layout.slots) ≡ c → MakingGoesOn (record t { layout = plan.layout }) name
            (cond c (search.Looking (word + 1)) search.Ended) (cond c (nexts.Step (looking plan.layout (word + 1))) (nexts.Done NoSlot))
        more true e = (is_name, (ltb-true (word + 1) (words_of plan.layout.slots) e, few))
        more false e = tt

    taken : (s seen : ℕ) → s < plan.layout.slots → FewBefore t → (b : Bool) → MakingGoesOn (record t { layout = plan.layout }) name
        (cond b (search.Counting s) search.Ended) (cond b (nexts.Step (counting plan.layout plan.immortal s)) (nexts.Done (Again (record { seen = seen; found = unwrap_or last 0 }))))
    taken s seen within few true = (is_name, (within, few))
    taken s seen within few false = (is_name, few)

    go : (at : Search) → IsMakingIn plan.layout at → MadeBefore t at → MakingGoesOn (record t { layout = plan.layout }) name (making_turned plan.layout.slots at (unwrap_or last 0)) (making_answer plan at (unwrap_or last 0))
    go search.Start making made = absurd making
    go (search.Looking word) making made = looked_on word made (free_slot plan.layout.slots word (unwrap_or last 0)) (λ s e. (free_is_clear plan.layout.slots word (unwrap_or last 0) s e).0)
    go (search.Taking s seen) making made = taken s seen making.below made (bit_and (unwrap_or last 0) (bit_of s) == 0)
    go (search.Counting s) making made = (is_name, (making, tt))
    go (search.Naming s) making made = making
    go search.Ended making made = absurd making

-- ---- cascades

-- a turn stays in the heap, and tells a name only where the cascade then waits for nothing
pub record StaysIn (c : CascadeState) (t : CascadeTurn) : Type 0 where
  pub layout : t.after.layout ≡ c.layout
  pub shape : t.after.shape ≡ c.shape
  pub died : DiesAt t.after t.says

looks_stays : (c : CascadeState) (name : ObjectName) (field : ℕ) → StaysIn c (looks c name field)
looks_stays c name field = go (ltb field (field_count c.shape name))
  where
    go : (b : Bool) → StaysIn c (cond b (asks c (at.Looking name field) (Load (number c.layout (places.Field c.slot field)))) (asks c at.Leaving (Load (number c.layout (places.Next c.slot)))))
    go true = record { layout = refl; shape = refl; died = tt }
    go false = record { layout = refl; shape = refl; died = tt }

climbs_stays : (c : CascadeState) (parent : Option Parent) → StaysIn c (climbs c parent)
climbs_stays c None = record { layout = refl; shape = refl; died = tt }
climbs_stays c (Some p) = record { layout = refl; shape = refl; died = tt }

drops_stays : (c : CascadeState) (name : ObjectName) (field : ℕ) (drop : Dropping) (says : RefDropNext) → StaysIn c (drops_on c name field drop says)
drops_stays c name field drop (drops.Step step intent) = record { layout = refl; shape = refl; died = tt }
drops_stays c name field drop (drops.Dies slot) = record { layout = refl; shape = refl; died = tt }
drops_stays c name field drop drops.Done = looks_stays c name (field + 1)

ends_stays : (c : CascadeState) (parent : Option Parent) (end : SlotEnding) (says : SlotEndNext) → StaysIn c (ends_on c parent end says)
ends_stays c parent end (ends.Step step intent) = record { layout = refl; shape = refl; died = tt }
ends_stays c parent end ends.Done = climbs_stays c parent

-- whatever it has told, and taken out of fields
other : (c e : CascadeState) (t : CascadeTurn) → e.layout ≡ c.layout → e.shape ≡ c.shape → StaysIn e t → StaysIn c t
other c e t layout shape s = record { layout = s.layout ∙ layout; shape = s.shape ∙ shape; died = s.died }

finishes_stays : (c : CascadeState) (parent : Option Parent) (plan : Fall) (says : Next DownAnswer) → StaysIn c (finishes c parent plan says)
finishes_stays c parent plan (nexts.Step s) = record { layout = refl; shape = refl; died = tt }
finishes_stays c parent plan (nexts.Done (downs.More entry)) = other c (has_finished c false) _ refl refl (climbs_stays (has_finished c false) parent)
finishes_stays c parent plan (nexts.Done (downs.Last entry)) =
    let end = slot_end_turn (slot_end_from c.layout c.slot entry) None in
    other c (has_finished c true) _ refl refl (ends_stays (has_finished c true) parent end.after end.says)
finishes_stays c parent plan (nexts.Done (downs.Again changed)) = record { layout = refl; shape = refl; died = tt }

pub turn_stays : (c : CascadeState) (last : Option ℕ) → StaysIn c (cascade_turn c last)
turn_stays c last = other c idle (turn_at idle last c.at) refl refl (go c.at)
  where
    idle : CascadeState
    idle = record c { at = at.Ended; event = None }

    looked_on : (name : ObjectName) (field : ℕ) (b : Bool) → StaysIn idle (cond b (looks idle name (field + 1)) (asks idle (at.Taking name field (unwrap_or last 0 - 2)) (Store (number c.layout (places.Field c.slot field)) 0)))
    looked_on name field true = looks_stays idle name (field + 1)
    looked_on name field false = record { layout = refl; shape = refl; died = tt }

    go : (a : CascadeAt) → StaysIn idle (turn_at idle last a)
    go at.Start = record { layout = refl; shape = refl; died = tt }
    go at.Entering = record { layout = refl; shape = refl; died = tt }
    go at.Naming = record { layout = refl; shape = refl; died = refl }
    go (at.Named name) = looks_stays idle name 0
    go (at.Looking name field) = looked_on name field (eqb (unwrap_or last 0) 0)
    go (at.Taking name field place) =
        let drop = drop_turn (drop_from c.layout (c.before + c.taken + 1) (field_kind c.shape name field) place) None in
        other idle (has_taken idle field) _ refl refl (drops_stays (has_taken idle field) name field drop.after drop.says)
    go (at.Dropping name field drop) =
        let turn = drop_turn drop last in
        let told : CascadeState = record idle { event = turn.after.event } in
        other idle told _ refl refl (drops_stays told name field turn.after turn.says)
    go at.Leaving = record { layout = refl; shape = refl; died = tt }
    go (at.Finishing parent plan) = finishes_stays idle parent (down_turned plan last) (down_answer plan last)
    go (at.Ending parent end) =
        let turn = slot_end_turn end last in
        let told : CascadeState = record idle { event = turn.after.event } in
        other idle told _ refl refl (ends_stays told parent turn.after turn.says)
    go (at.Resuming field) = looks_stays idle (isa_name_of (unwrap_or last 0)) field
    go at.Ended = record { layout = refl; shape = refl; died = tt }

-- the object is in the slot, and the variable has the new reference
pub slot_made : (to : ℕ) (name : ObjectName) (plan : Creation) (place : ℕ) (t middle new : Thread) (hand : ℕ) → hand ≡ t.hands → middle ≡ put (answers.New name) t →
    new ≡ replaced to (Some (strong_to hand place)) middle → new ≡ made_on to name plan (nexts.Done (Slot place)) t
slot_made to name plan place t middle new hand hands line replaces =
    replaces ∙ ap (λ (m : Thread). replaced to (Some (strong_to hand place)) m) line ∙ ap (λ (h : ℕ). replaced to (Some (strong_to h place)) (put (answers.New name) t)) hands

-- ---- a gain's answer

abbrev rise : Extent → ℕ → Kind → CapNumbers → Option ℕ → At → Rise
rise layout slot list caps entry at = record { layout = layout; slot = slot; list = list; caps = caps; entry = entry; at = at }

-- by the inline word that its load gave
strong_answers : (gain : Gain) (p : Rise) (w : ℕ) (word : Option Word) → IsGainWord gain kinds.Strong p.caps word →
    IsGainAnswer gain (answer_by up_place (up_in p (entry_named word)) (chosen (up_place p) w (told_as of_strong_up (strong_up_row p.caps.strong word))))
strong_answers gain p w None h = absurd h
strong_answers gain p w (Some words.Free) h = absurd h
strong_answers gain p w (Some (words.Slow e)) h = absurd h
strong_answers gain p w (Some words.Immortal) h = tt
strong_answers gain p w (Some (words.Counts c)) h = go c.deiniting refl (eqb c.strong_extra p.caps.strong) refl
  where
    go : (d : Bool) → c.deiniting ≡ d → (e : Bool) → eqb c.strong_extra p.caps.strong ≡ e →
        IsGainAnswer gain (chosen (up_place p) w (told_as of_strong_up (cond d (Tell strongs.Dead) (cond e (Tell strongs.AtCap) (Write (packed (words.Counts (strong_more c))))))))
    go true d e f = h.0 d
    go false d true f = let same = eqb-true c.strong_extra p.caps.strong f in let below = h.1 d in absurd (omega (arith, same, below))
    go false d false f = tt

unowned_answers : (gain : Gain) (p : Rise) (w : ℕ) (word : Option Word) → IsGainWord gain kinds.Unowned p.caps word →
    IsGainAnswer gain (answer_by up_place (up_in p (entry_named word)) (chosen (up_place p) w (told_as of_unowned_up (unowned_up_row p.caps.unowned word))))
unowned_answers gain p w None h = absurd h
unowned_answers gain p w (Some words.Free) h = absurd h
unowned_answers gain p w (Some (words.Slow e)) h = absurd h
unowned_answers gain p w (Some words.Immortal) h = tt
unowned_answers gain p w (Some (words.Counts c)) h = go (eqb c.unowned p.caps.unowned) refl
  where
    go : (e : Bool) → eqb c.unowned p.caps.unowned ≡ e →
        IsGainAnswer gain (chosen (up_place p) w (told_as of_unowned_up (cond e (Tell unowneds.AtCap) (Write (packed (words.Counts (unowned_more c)))))))
    go true f = let same = eqb-true c.unowned p.caps.unowned f in absurd (omega (arith, same, h))
    go false f = tt

answers_at : (gain : Gain) (layout : Extent) (slot : ℕ) (list : Kind) (caps : CapNumbers) (entry : Option ℕ) (at : At) (last : Option ℕ) → gain_takes gain (rise layout slot list caps entry at) last → IsGainAnswer gain (up_answer (rise layout slot list caps entry at) last)
answers_at gain layout slot list caps (Some e) at last t = absurd t.1
answers_at gain layout slot list caps None attempt.Start last t = tt
answers_at gain layout slot list caps None attempt.Loading None t = absurd t.0
answers_at gain layout slot kinds.Strong caps None attempt.Loading (Some w) t = strong_answers gain (rise layout slot kinds.Strong caps None attempt.Loading) w (unpacked w) t.1
answers_at gain layout slot kinds.Unowned caps None attempt.Loading (Some w) t = unowned_answers gain (rise layout slot kinds.Unowned caps None attempt.Loading) w (unpacked w) t.1
answers_at gain layout slot kinds.Weak caps None attempt.Loading (Some w) t = absurd t.0
answers_at gain layout slot list caps None (attempt.Exchanging seen new) last t = go (eqb (unwrap_or last 0) seen)
  where
    go : (b : Bool) → IsGainAnswer gain (nexts.Done (cond b ups.Up (ups.Again (record { seen = seen; found = unwrap_or last 0 }))))
    go true = tt
    go false = tt
answers_at gain layout slot list caps None attempt.Ended last t = absurd t.0

-- what it may be given has none of the answers that a gain doesn't have
pub gain_answers : (gain : Gain) (p : Rise) (last : Option ℕ) → gain_takes gain p last → IsGainAnswer gain (up_answer p last)
gain_answers gain p last t = answers_at gain p.layout p.slot p.list p.caps p.entry p.at last t
