-- The steps say whether a thread is inside an access just as its stepper does.
use Rattle.std.proofs.Common.{◌≡◌, ℕ, ◌+◌, ◌<◌, Bool, true, false, cond, eqb, ltb, List, [], ◌∷◌, Option, Some, None, refl, sym, ap, subst, ◌∙◌, arith}
use Rattle.std.proofs.lemmas.Option.{same_Some}
use Rattle.std.specs.Option.{unwrap_or}
use Rattle.std.specs.Prelude.{bit_and, ◌&&◌}
use Rattle.arc_bits.specs.Words.{unpacked}
use Rattle.arc_model.specs.declared.event.ObjectName.{ObjectName}
use Rattle.arc_rule.proofs.Places.{place_at-number}
use Rattle.arc_rule.specs.Extents.{Extent}
use Rattle.arc_rule.specs.Isa.{isa_word_of, isa_name_of}
use Rattle.arc_rule.specs.Places.{IsPlace, number, place_at, extent_of}
use Rattle.arc_rule.specs.declared.layout.Place.TheVariants.{Count, Isa, Global, Field, Next as NextPlace}
use Rattle.arc_rule.specs.declared.plan.Next.{Next}
use Rattle.arc_rule.specs.declared.plan.Next.TheVariants as nexts
use Rattle.arc_rule.specs.declared.step.Changed.{Changed}
use Rattle.arc_rule.specs.declared.step.Step.{Step}
use Rattle.arc_rule.specs.declared.step.Step.TheVariants as steps
use Rattle.arc_rule.specs.declared.attempt.At.{At}
use Rattle.arc_rule.specs.declared.attempt.At.TheVariants as attempt
use Rattle.arc_rule.specs.declared.attempt.Choice.{Choice}
use Rattle.arc_rule.specs.declared.attempt.Choice.TheVariants.{Tell, Write}
use Rattle.arc_plan.specs.declared.slots.Making.{Making as Search}
use Rattle.arc_plan.specs.declared.slots.Making.TheVariants as search
use Rattle.arc_plan.specs.declared.slots.NewObjectAnswer.TheVariants.{NoSlot, Again}
use Rattle.arc_plan.specs.declared.slots.Once.{Once}
use Rattle.arc_plan.specs.declared.slots.Once.TheVariants as onces
use Rattle.arc_plan.specs.declared.unowned.UnownedDownAnswer.TheVariants as unowneds
use Rattle.arc_plan.specs.Attempts.{Attempt}
use Rattle.arc_rule.specs.Attempts.{chosen, exchanging, answer_at as attempt_answer, answer_by, turned_by, turned_at as attempt_turned}
use Rattle.arc_side.specs.declared.up.UpAnswer.TheVariants as ups
use Rattle.arc_side.specs.declared.down.DownAnswer.TheVariants as downs
use Rattle.arc_side.specs.Inline.{entry_met}
use Rattle.arc_side.specs.Ups.{Rise, up_choice, up_in, up_moved, up_place, up_turned, up_answer}
use Rattle.arc_side.specs.Downs.{Fall, down_choice, down_end, down_in, down_moved, down_place, down_turned, down_answer}
use Rattle.arc_plan.specs.Slots.{Creation, OneStep, free_slot, new_word, looked_answer, making_answer, looking, taking, counting, naming, once_answer, once_turned, one_turned, creation_turned, creation_answer, name_of_answer, vacate_answer, vacating, reading_isa}
use Rattle.arc_rule.specs.Bits.{words_of, bit_of}
use Rattle.arc_model.specs.declared.shape.Kind.{Kind}
use Rattle.arc_model.specs.Shapes.{HeapShape, CapNumbers, class_at}
use Rattle.arc_plan.specs.Unowned.{unowned_down_row, unowned_down_end}
use Rattle.arc_cells.specs.declared.cascade.At.{At as CascadeAt}
use Rattle.arc_cells.specs.declared.cascade.At.TheVariants as at
use Rattle.arc_cells.specs.declared.ref_drop.At.{At as DropAt}
use Rattle.arc_cells.specs.declared.ref_drop.At.TheVariants as drops_at
use Rattle.arc_cells.specs.Chains.{Frame, next_word_of, parent_of}
use Rattle.arc_cells.specs.declared.begin.BeginAnswer.{BeginAnswer}
use Rattle.arc_cells.specs.declared.begin.BeginAnswer.TheVariants as begins
use Rattle.arc_cells.specs.declared.swap.SwapAnswer.TheVariants as swaps
use Rattle.arc_cells.specs.Begins.{Beginning, begin_row, begin_turned, begin_answer}
use Rattle.arc_cells.specs.Ends.{AccessEnd, ending, end_turned, end_answer}
use Rattle.arc_cells.specs.Swaps.{SwapAttempt, swap_row, swap_turned, swap_answer}
use Rattle.arc_cells.specs.Cascades.{cascade_turned, cascade_answer, field_kind}
use Rattle.arc_model.specs.declared.event.CellName.{CellName}
use Rattle.arc_model.specs.declared.event.CellName.TheVariants as cells
use Rattle.arc_model.specs.declared.event.Origin.{Origin}
use Rattle.arc_model.specs.declared.event.Origin.TheVariants as origins
use Rattle.arc_ops.specs.declared.stepper.Held.{Held}
use Rattle.arc_ops.specs.declared.gain.Gain.{Gain}
use Rattle.arc_ops.specs.declared.gain.Gain.TheVariants as gains
use Rattle.arc_ops.specs.Cells.{place_in, cell_number}
use Rattle.arc_ops.specs.Gains.{gained_on, named_on}
use Rattle.arc_ops.specs.Gets.{opened_on, closed_on}
use Rattle.arc_ops.specs.Sets.{set_on}
use Rattle.arc_ops.specs.Makes.{made_on}
use Rattle.arc_ops.specs.Drops.{dropped_on, dying_on, deinit_tells, vacated_on}
use Rattle.arc_ops.specs.Takes.{gain_takes, takes_at, takes}
use Rattle.arc_ops.specs.Turns.{turned_at, turned}
use Rattle.arc_ops.proofs.Moves.{gain_answers}
use Rattle.arc_ops.specs.declared.stepper.Doing.{Doing}
use Rattle.arc_ops.specs.declared.stepper.Doing.TheVariants.{Ready, Making, Gaining, Naming, Opening, Closing, Setting, Clearing, Dropping, Dying, Vacating, Ended}
use Rattle.arc_ops.specs.Plans.{list_of}
use Rattle.arc_ops.specs.Thread.{Thread, value, is_accessing, in_access as accesses, is_cell as is_from_cell}
use Rattle.arc_schedule.specs.Made.{Point, Made}
use Rattle.arc_schedule.specs.Plans.{Rises, Reaches, new_object, up, down, name_of, finish, vacate, begin_access, end_access, swap}
use Rattle.arc_schedule.specs.Operations.{loads, takes_out, get_acts, word_of, hand_of}
use Rattle.arc_schedule.specs.Plans.Reaches.{starts as reaches_start, makes as reaches_next}
use Rattle.arc_schedule.specs.Orders.{is_cell, enters}
use Rattle.arc_schedule.proofs.Lists.{not-equal}
use Rattle.arc_schedule.proofs.Tells.{idle, in_hand, in_cell}
use Rattle.arc_schedule.proofs.Outside.{made-outside, gained-outside, got-inside, is_held_answer, opened-inside, closed-outside, set-outside, named-outside, dropped-outside, vacated-outside, dying-outside}
use Rattle.arc_schedule.proofs.Given.{Waits}
use Rattle.arc_schedule.proofs.Deinits.{ref, DropUpTo, CascadeUpTo}
use Rattle.arc_schedule.proofs.Stands.{Task, rises_of, here, IsOver, IsGainingFrom, step_in, UpTo, Stands}

-- a thread that is in no access is in none behind the step
abbrev pub IsCalm : Extent → Step → Type 0
IsCalm l s = (found : ℕ) → enters l s found false ≡ false

-- it goes on to be inside or outside
abbrev IsStill : Extent → Step → Type 0
IsStill l s = (found : ℕ) (before : Bool) → enters l s found before ≡ before

still-calm : (l : Extent) (s : Step) → IsStill l s → IsCalm l s
still-calm l s still found = still found false

stored : (l : Extent) (place new : ℕ) → IsCalm l (steps.Store place new)
stored l place new found = go (is_cell (place_at l place))
  where
    go : (b : Bool) → cond b false false ≡ false
    go true = refl
    go false = refl

counted : (l : Extent) (slot old new : ℕ) → slot < l.slots → IsStill l (steps.Exchange (number l (Count slot)) old new)
counted l slot old new within found before =
    let same : place_at l (number l (Count slot)) ≡ Count slot = place_at-number l (Count slot) within in
    rw same refl

-- ---- the steps of each plan

attempted : {A : Type 0} (l : Extent) (row : ℕ → Choice A) (end : ℕ → A) (again : Changed → A) (place : ℕ) (a : At) (w : ℕ) (s : Step) → ((old new : ℕ) → IsStill l (steps.Exchange place old new)) →
    attempt_answer row end again place a w ≡ nexts.Step s → IsStill l s
attempted l row end again place attempt.Start w s calm e = let same : steps.Load place ≡ s = cc in subst (IsStill l) same (λ found before. refl)
attempted {A = A} l row end again place attempt.Loading w s calm e = go (row w) e
  where
    go : (c : Choice A) → chosen place w c ≡ nexts.Step s → IsStill l s
    go (Tell a) e = absurd (cc)
    go (Write new) e = let same : steps.Exchange place w new ≡ s = cc in subst (IsStill l) same (calm w new)
attempted l row end again place (attempt.Exchanging seen new) w s calm e = absurd (cc)
attempted l row end again place attempt.Ended w s calm e = let same : steps.Load place ≡ s = cc in subst (IsStill l) same (λ found before. refl)

-- ---- a reference more or fewer

up-moves : (p : Rise) (met : Option ℕ) (a : At) → ((turned_by up_moved p (up_in p met) a).layout ≡ p.layout) × ((turned_by up_moved p (up_in p met) a).slot ≡ p.slot)
up-moves p None a = (refl, refl)
up-moves p (Some e) a = (refl, refl)

up-place-is : (l : Extent) (caps : CapNumbers) (list : Kind) (slot : ℕ) (acts : Rises) {point : Point} {b ns : List Made} {p : Rise} {last : Option ℕ} → Reaches (up l caps list slot acts) point b p last ns → (p.layout ≡ l) × (p.slot ≡ slot)
up-place-is l caps list slot acts reaches_start = (refl, refl)
up-place-is l caps list slot acts (reaches_next {p = p} {last = last} r e) =
    let h = up-place-is l caps list slot acts r in
    let m = up-moves p (entry_met p.entry p.at last) (attempt_turned (up_choice p) p.at (unwrap_or last 0)) in
    (m.0 ∙ h.0, m.1 ∙ h.1)

-- without an entry it counts in the inline word
up-counts : (l : Extent) (slot : ℕ) (p : Rise) → p.entry ≡ None → p.layout ≡ l → p.slot ≡ slot → up_place p ≡ number l (Count slot)
up-counts l slot p none layout place = rw (none, layout, place) refl

up-still : (l : Extent) (caps : CapNumbers) (list : Kind) (slot : ℕ) (acts : Rises) {point : Point} {b now : List Made} {p : Rise} {asked : Option Step} → slot < l.slots → (w : Waits (up l caps list slot acts) point b now p asked) → p.entry ≡ None → IsStill l w.step
up-still l caps list slot acts within w bare = go (entry_met w.gave.before.entry w.gave.before.at w.gave.last) answers (ap (λ (q : Rise). q.entry) w.gave.turned ∙ bare)
  where
    q : Rise
    q = w.gave.before

    word : ℕ
    word = unwrap_or w.gave.last 0

    is : (q.layout ≡ l) × (q.slot ≡ slot)
    is = up-place-is l caps list slot acts w.gave.reaches

    answers : up_answer q w.gave.last ≡ nexts.Step w.step
    answers = w.gave.answers

    go : (met : Option ℕ) → answer_by up_place (up_in q met) (attempt_answer (up_choice q) (λ seen. ups.Up) ups.Again (up_place q) q.at word) ≡ nexts.Step w.step →
        (turned_by up_moved q (up_in q met) (attempt_turned (up_choice q) q.at word)).entry ≡ None → IsStill l w.step
    go None e none =
        attempted l (up_choice q) (λ seen. ups.Up) ups.Again (up_place q) q.at word w.step
        (λ old new. subst (λ (n : ℕ). IsStill l (steps.Exchange n old new)) (sym (up-counts l slot q none is.0 is.1)) (counted l slot old new within)) e
    go (Some x) e none = absurd (cc)

down-moves : (p : Fall) (met : Option ℕ) (a : At) → ((turned_by down_moved p (down_in p met) a).layout ≡ p.layout) × ((turned_by down_moved p (down_in p met) a).slot ≡ p.slot)
down-moves p None a = (refl, refl)
down-moves p (Some e) a = (refl, refl)

down-place-is : (l : Extent) (list : Kind) (slot hand : ℕ) {point : Point} {b ns : List Made} {p : Fall} {last : Option ℕ} → Reaches (down l list slot hand) point b p last ns → (p.layout ≡ l) × (p.slot ≡ slot)
down-place-is l list slot hand reaches_start = (refl, refl)
down-place-is l list slot hand (reaches_next {p = p} {last = last} r e) =
    let h = down-place-is l list slot hand r in
    let m = down-moves p (entry_met p.entry p.at last) (attempt_turned (down_choice p) p.at (unwrap_or last 0)) in
    (m.0 ∙ h.0, m.1 ∙ h.1)

down-counts : (l : Extent) (slot : ℕ) (p : Fall) → p.entry ≡ None → p.layout ≡ l → p.slot ≡ slot → down_place p ≡ number l (Count slot)
down-counts l slot p none layout place = rw (none, layout, place) refl

down-still : (l : Extent) (list : Kind) (slot hand : ℕ) {point : Point} {b now : List Made} {p : Fall} {asked : Option Step} → slot < l.slots → (w : Waits (down l list slot hand) point b now p asked) → p.entry ≡ None → IsStill l w.step
down-still l list slot hand within w bare = go (entry_met w.gave.before.entry w.gave.before.at w.gave.last) answers (ap (λ (q : Fall). q.entry) w.gave.turned ∙ bare)
  where
    q : Fall
    q = w.gave.before

    word : ℕ
    word = unwrap_or w.gave.last 0

    is : (q.layout ≡ l) × (q.slot ≡ slot)
    is = down-place-is l list slot hand w.gave.reaches

    answers : down_answer q w.gave.last ≡ nexts.Step w.step
    answers = w.gave.answers

    go : (met : Option ℕ) → answer_by down_place (down_in q met) (attempt_answer (down_choice q) (down_end q) downs.Again (down_place q) q.at word) ≡ nexts.Step w.step →
        (turned_by down_moved q (down_in q met) (attempt_turned (down_choice q) q.at word)).entry ≡ None → IsStill l w.step
    go None e none =
        attempted l (down_choice q) (down_end q) downs.Again (down_place q) q.at word w.step
        (λ old new. subst (λ (n : ℕ). IsStill l (steps.Exchange n old new)) (sym (down-counts l slot q none is.0 is.1)) (counted l slot old new within)) e
    go (Some x) e none = absurd (cc)

finish-place : (l : Extent) (slot : ℕ) {point : Point} {b ns : List Made} {p : Attempt} {last : Option ℕ} → Reaches (finish l slot) point b p last ns → (p.layout ≡ l) × (p.slot ≡ slot)
finish-place l slot reaches_start = (refl, refl)
finish-place l slot (reaches_next r e) = finish-place l slot r

finish-still : (l : Extent) (slot : ℕ) {point : Point} {b now : List Made} {p : Attempt} {asked : Option Step} → slot < l.slots → (w : Waits (finish l slot) point b now p asked) → IsStill l w.step
finish-still l slot within w =
    let g = w.gave in
    let h = finish-place l slot g.reaches in
    let e : attempt_answer (λ v. unowned_down_row (unpacked v)) (λ seen. unowned_down_end (unpacked seen)) unowneds.Again (number g.before.layout (Count g.before.slot)) g.before.at (unwrap_or g.last 0) ≡ nexts.Step w.step = g.answers in
    attempted l (λ v. unowned_down_row (unpacked v)) (λ seen. unowned_down_end (unpacked seen)) unowneds.Again (number l (Count slot)) g.before.at (unwrap_or g.last 0) w.step (λ old new. counted l slot old new within) (rw (h.0, h.1) at e)

searched : (l : Extent) (p : Creation) (a : Search) (w : ℕ) (s : Step) → making_answer p a w ≡ nexts.Step s → IsCalm l s
searched l p search.Start w s e = let same : looking p.layout 0 ≡ s = cc in subst (IsCalm l) same (λ found. refl)
searched l p (search.Looking x) w s e = go (free_slot p.layout.slots x w) e
  where
    none : (c : Bool) → cond c (nexts.Step (looking p.layout (x + 1))) (nexts.Done NoSlot) ≡ nexts.Step s → IsCalm l s
    none true e = let same : looking p.layout (x + 1) ≡ s = cc in subst (IsCalm l) same (λ found. refl)
    none false e = absurd (cc)

    go : (o : Option ℕ) → looked_answer p.layout x o ≡ nexts.Step s → IsCalm l s
    go (Some t) e = let same : taking p.layout t ≡ s = cc in subst (IsCalm l) same (λ found. refl)
    go None e = none (ltb (x + 1) (words_of p.layout.slots)) e
searched l p (search.Taking x seen) w s e = go (eqb (bit_and w (bit_of x)) 0) e
  where
    go : (b : Bool) → cond b (nexts.Step (counting p.layout p.immortal x)) (nexts.Done (Again (record { seen = seen; found = w }))) ≡ nexts.Step s → IsCalm l s
    go true e = let same : counting p.layout p.immortal x ≡ s = cc in subst (IsCalm l) same (stored l (number p.layout (Count x)) (new_word p.immortal))
    go false e = absurd (cc)
searched l p (search.Counting x) w s e = let same : naming p.layout p.name x ≡ s = cc in subst (IsCalm l) same (stored l (number p.layout (Isa x)) (isa_word_of p.name))
searched l p (search.Naming x) w s e = absurd (cc)
searched l p search.Ended w s e = absurd (cc)

making-calm : (l : Extent) (immortal : Bool) (name : ObjectName) (hand : ℕ) {point : Point} {b now : List Made} {p : Creation} {asked : Option Step} → (w : Waits (new_object l immortal name hand) point b now p asked) → IsCalm l w.step
making-calm l immortal name hand w = searched l w.gave.before w.gave.before.at (unwrap_or w.gave.last 0) w.step w.gave.answers

vacate-calm : (l : Extent) (slot : ℕ) {point : Point} {b now : List Made} {p : OneStep} {asked : Option Step} → (w : Waits (vacate l slot) point b now p asked) → IsCalm l w.step
vacate-calm l slot w = go w.gave.before.at w.gave.answers
  where
    go : (a : Once) → once_answer {A = Unit {0}} (vacating w.gave.before) tt a ≡ nexts.Step w.step → IsCalm l w.step
    go onces.Start e = let same : vacating w.gave.before ≡ w.step = cc in subst (IsCalm l) same (λ found. refl)
    go onces.Asked e = absurd (cc)
    go onces.Ended e = absurd (cc)

name-calm : (l : Extent) (slot : ℕ) {point : Point} {b now : List Made} {p : OneStep} {asked : Option Step} → (w : Waits (name_of l slot) point b now p asked) → IsCalm l w.step
name-calm l slot w = go w.gave.before.at w.gave.answers
  where
    name : ObjectName
    name = isa_name_of (unwrap_or w.gave.last 0)

    go : (a : Once) → once_answer {A = ObjectName} (reading_isa w.gave.before) name a ≡ nexts.Step w.step → IsCalm l w.step
    go onces.Start e = let same : reading_isa w.gave.before ≡ w.step = cc in subst (IsCalm l) same (λ found. refl)
    go onces.Asked e = absurd (cc)
    go onces.Ended e = absurd (cc)

-- ---- accesses

cell-is : (l : Extent) (cell : CellName) → IsPlace l (place_in cell) → is_cell (place_at l (cell_number l cell)) ≡ true
cell-is l (cells.Global g) within = let same : place_at l (number l (Global g)) ≡ Global g = place_at-number l (Global g) within in rw same refl
cell-is l (cells.Field slot field) within = let same : place_at l (number l (Field slot field)) ≡ Field slot field = place_at-number l (Field slot field) within in rw same refl

begin-place : (l : Extent) (cell : CellName) {point : Point} {b ns : List Made} {p : Beginning} {last : Option ℕ} → Reaches (begin_access l cell) point b p last ns → p.place ≡ cell_number l cell
begin-place l cell reaches_start = refl
begin-place l cell (reaches_next r e) = begin-place l cell r

-- the exchange that finds the word that was loaded begins the access
begins-inside : (l : Extent) (cell : CellName) {point : Point} {b now : List Made} {p : Beginning} {asked : Option Step} (found : ℕ) → IsPlace l (place_in cell) → (w : Waits (begin_access l cell) point b now p asked) →
    enters l w.step found false ≡ is_held_answer (begin_answer p (Some found))
begins-inside l cell {p = p} found within w =
    subst (λ (q : Beginning). enters l w.step found false ≡ is_held_answer (begin_answer q (Some found))) w.gave.turned (go w.gave.before.at w.gave.answers)
  where
    place : ℕ
    place = w.gave.before.place

    word : ℕ
    word = unwrap_or w.gave.last 0

    tells : (z o : Bool) → is_held_answer (chosen place found (cond z (Tell begins.Nil) (cond o (Tell begins.Busy) (Write 1)))) ≡ false
    tells true o = refl
    tells false true = refl
    tells false false = refl

    exchanged : (b : Bool) → cond b true false ≡ is_held_answer (nexts.Done (cond b (begins.Held word) (begins.Again (record { seen = word; found = found }))))
    exchanged true = refl
    exchanged false = refl

    wrote : (s : Step) → steps.Exchange place word 1 ≡ s → enters l s found false ≡ is_held_answer (nexts.Done (cond (eqb found word) (begins.Held word) (begins.Again (record { seen = word; found = found }))))
    wrote s e =
        let is : is_cell (place_at l place) ≡ true = ap (λ (n : ℕ). is_cell (place_at l n)) (begin-place l cell w.gave.reaches) ∙ cell-is l cell within in
        subst (λ (x : Step). enters l x found false ≡ is_held_answer (nexts.Done (cond (eqb found word) (begins.Held word) (begins.Again (record { seen = word; found = found }))))) e (rw is (exchanged (eqb found word)))

    loaded : (c : Choice BeginAnswer) → chosen place word c ≡ nexts.Step w.step → (z o : Bool) → c ≡ cond z (Tell begins.Nil) (cond o (Tell begins.Busy) (Write 1)) →
        enters l w.step found false ≡ is_held_answer (attempt_answer begin_row begins.Held begins.Again place (exchanging word c) found)
    loaded (Tell a) e z o is = absurd (cc)
    loaded (Write new) e true o is = absurd (cc)
    loaded (Write new) e false true is = absurd (cc)
    loaded (Write new) e false false is =
        let one : new ≡ 1 = cc in
        wrote w.step (let f : steps.Exchange place word new ≡ w.step = cc in ap (λ (n : ℕ). steps.Exchange place word n) (sym one) ∙ f)

    go : (a : At) → attempt_answer begin_row begins.Held begins.Again place a word ≡ nexts.Step w.step →
        enters l w.step found false ≡ is_held_answer (attempt_answer begin_row begins.Held begins.Again place (attempt_turned begin_row a word) found)
    go attempt.Start e = let same : steps.Load place ≡ w.step = cc in
        subst (λ (x : Step). enters l x found false ≡ is_held_answer (chosen place found (begin_row found))) same (sym (tells (eqb found 0) (eqb found 1)))
    go attempt.Loading e = loaded (begin_row word) e (eqb word 0) (eqb word 1) refl
    go (attempt.Exchanging seen new) e = absurd (cc)
    go attempt.Ended e = let same : steps.Load place ≡ w.step = cc in subst (λ (x : Step). enters l x found false ≡ false) same refl

end-place : (l : Extent) (cell : CellName) (word : ℕ) {point : Point} {b ns : List Made} {p : AccessEnd} {last : Option ℕ} → Reaches (end_access l cell word) point b p last ns → p.place ≡ cell_number l cell
end-place l cell word reaches_start = refl
end-place l cell word (reaches_next r e) = end-place l cell word r

-- the store ends it
ends-outside : (l : Extent) (cell : CellName) (word : ℕ) {point : Point} {b now : List Made} {p : AccessEnd} {asked : Option Step} → IsPlace l (place_in cell) → (w : Waits (end_access l cell word) point b now p asked) →
    ((found : ℕ) → enters l w.step found true ≡ false) × ((found : ℕ) → end_answer p (Some found) ≡ nexts.Done tt)
ends-outside l cell word {p = p} within w = go w.gave.before.at w.gave.answers (ap (λ (q : AccessEnd). q.at) w.gave.turned)
  where
    go : (a : Once) → once_answer {A = Unit {0}} (ending w.gave.before) tt a ≡ nexts.Step w.step → once_turned a ≡ p.at →
        ((found : ℕ) → enters l w.step found true ≡ false) × ((found : ℕ) → end_answer p (Some found) ≡ nexts.Done tt)
    go onces.Start e is =
        let same : ending w.gave.before ≡ w.step = cc in
        let at_cell : is_cell (place_at l w.gave.before.place) ≡ true = ap (λ (n : ℕ). is_cell (place_at l n)) (end-place l cell word w.gave.reaches) ∙ cell-is l cell within in
        (λ found. subst (λ (x : Step). enters l x found true ≡ false) same (rw at_cell refl), λ found. subst (λ (x : Once). once_answer {A = Unit {0}} (ending p) tt x ≡ nexts.Done tt) is refl)
    go onces.Asked e is = absurd (cc)
    go onces.Ended e is = absurd (cc)

swap-new : (l : Extent) (cell : CellName) (new : ℕ) (put : Option ℕ) (hand : ℕ) {point : Point} {b ns : List Made} {p : SwapAttempt} {last : Option ℕ} → Reaches (swap l cell new put hand) point b p last ns → p.new ≡ new
swap-new l cell new put hand reaches_start = refl
swap-new l cell new put hand (reaches_next r e) = swap-new l cell new put hand r

-- what is put isn't the word of an access
put-free : (o : Option Held) → eqb (word_of (ref o)) 1 ≡ false
put-free None = refl
put-free (Some h) = not-equal (h.place + 2) 1 (λ (e : h.place + 2 ≡ 1). absurd (omega arith))

swaps-calm : (l : Extent) (cell : CellName) (new : ℕ) (put : Option ℕ) (hand : ℕ) {point : Point} {b now : List Made} {p : SwapAttempt} {asked : Option Step} → eqb new 1 ≡ false → (w : Waits (swap l cell new put hand) point b now p asked) → IsCalm l w.step
swaps-calm l cell new put hand free w = go w.gave.before.at w.gave.answers
  where
    place : ℕ
    place = w.gave.before.place

    word : ℕ
    word = unwrap_or w.gave.last 0

    one : Bool
    one = eqb word 1

    calm-exchange : (x : ℕ) → x ≡ new → IsCalm l (steps.Exchange place word x)
    calm-exchange x is found = subst (λ (n : ℕ). enters l (steps.Exchange place word n) found false ≡ false) (sym is) (rw free (none (is_cell (place_at l place))))
      where
        none : (c : Bool) → cond (c && false && eqb found word) true false ≡ false
        none true = refl
        none false = refl

    loaded : (b : Bool) → chosen place word (cond b (Tell swaps.Busy) (Write w.gave.before.new)) ≡ nexts.Step w.step → IsCalm l w.step
    loaded true e = absurd (cc)
    loaded false e = let same : steps.Exchange place word w.gave.before.new ≡ w.step = cc in subst (IsCalm l) same (calm-exchange w.gave.before.new (swap-new l cell new put hand w.gave.reaches))

    go : (a : At) → attempt_answer (swap_row w.gave.before.new) swaps.Took swaps.Again place a word ≡ nexts.Step w.step → IsCalm l w.step
    go attempt.Start e = let same : steps.Load place ≡ w.step = cc in subst (IsCalm l) same (λ found. refl)
    go attempt.Loading e = loaded (eqb word 1) e
    go (attempt.Exchanging seen x) e = absurd (cc)
    go attempt.Ended e = let same : steps.Load place ≡ w.step = cc in subst (IsCalm l) same (λ found. refl)

-- ---- a deinit

-- what was in a field is dropped
dropping-calm : (shape : HeapShape) (point : Point) (kind : Kind) (place hand : ℕ) (base now : List Made) (asked : Option Step) (a : DropAt) → place < shape.slots → DropUpTo shape point kind place hand base now asked a →
    (s : Step) × (asked ≡ Some s) × IsCalm (extent_of shape) s
dropping-calm shape point kind place hand base now asked drops_at.Start within u = absurd u
dropping-calm shape point kind place hand base now asked (drops_at.Counting p) within u =
    (u.waits.step, u.waits.asked_is, still-calm (extent_of shape) u.waits.step (down-still (extent_of shape) kind place hand within u.waits (ap (λ (q : Fall). q.entry) u.plan)))
dropping-calm shape point kind place hand base now asked (drops_at.InEntry p) within u = absurd u
dropping-calm shape point kind place hand base now asked (drops_at.Ending p) within u = (u.waits.step, u.waits.asked_is, vacate-calm (extent_of shape) place u.waits)
dropping-calm shape point kind place hand base now asked drops_at.Returning within u = absurd u
dropping-calm shape point kind place hand base now asked drops_at.Ended within u = absurd u

load-calm : (l : Extent) (place : ℕ) → IsCalm l (steps.Load place)
load-calm l place found = refl

-- no access begins in a deinit
dying-calm : (shape : HeapShape) (point : Point) (Over : ℕ → List Made → Type 0) (chain : List Frame) (slot hands : ℕ) (asked : Option Step) (now : List Made) (a : CascadeAt) → CascadeUpTo shape point Over chain slot hands asked now a →
    (s : Step) × (asked ≡ Some s) × IsCalm (extent_of shape) s
dying-calm shape point Over chain slot hands asked now at.Start p = absurd p
dying-calm shape point Over chain slot hands asked now at.Entering p = (_, p.asks, stored (extent_of shape) (number (extent_of shape) (NextPlace slot)) (next_word_of (parent_of chain)))
dying-calm shape point Over chain slot hands asked now at.Naming p = (_, p.asks, load-calm (extent_of shape) (number (extent_of shape) (Isa slot)))
dying-calm shape point Over chain slot hands asked now (at.Named name) p = absurd p
dying-calm shape point Over chain slot hands asked now (at.Looking name field) p = (_, p.asks, load-calm (extent_of shape) (number (extent_of shape) (Field slot field)))
dying-calm shape point Over chain slot hands asked now (at.Taking name field place) p = (_, p.asks, stored (extent_of shape) (number (extent_of shape) (Field slot field)) 0)
dying-calm shape point Over chain slot hands asked now (at.Dropping name field d) p =
    dropping-calm shape point (field_kind shape name field) d.place (p.held + 1) (takes_out shape point slot field (p.held + 1) p.found ∷ loads shape point (Field slot field) (d.place + 2) ∷ p.before) now asked d.at p.place_in p.up_to
dying-calm shape point Over chain slot hands asked now at.Leaving p = (_, p.asks, load-calm (extent_of shape) (number (extent_of shape) (NextPlace slot)))
dying-calm shape point Over chain slot hands asked now (at.Finishing parent q) p = (p.waits.step, p.waits.asked_is, still-calm (extent_of shape) p.waits.step (finish-still (extent_of shape) slot p.fields.begun.within p.waits))
dying-calm shape point Over chain slot hands asked now (at.Ending parent q) p = (p.waits.step, p.waits.asked_is, vacate-calm (extent_of shape) slot p.waits)
dying-calm shape point Over [] slot hands asked now (at.Resuming field) p = absurd p
dying-calm shape point Over (f ∷ chain) slot hands asked now (at.Resuming field) p = (_, p.asks, load-calm (extent_of shape) (number (extent_of shape) (Isa slot)))
dying-calm shape point Over chain slot hands asked now at.Ended p = absurd p

-- ---- the stepper

-- A thread is inside an access behind its steps where its stepper says so: so it is behind the next one.
pub inside-on : (k : Task) (n : ℕ) {chain : List Frame} (t : Thread) (s : Step) (w : ℕ) (now : List Made) → Stands k n chain t now → step_in t.asked ≡ Some s → takes t (Some w) →
    enters (extent_of k.shape) s w (accesses t) ≡ accesses (turned t (Some w))
inside-on k n {chain = chain} t s w now st asked takes = go t.doing st.up_to takes.0
  where
    l : Extent
    l = extent_of k.shape

    -- the step that was asked for
    on : (x : Step) (before after : Bool) → step_in t.asked ≡ Some x → enters (extent_of k.shape) x w before ≡ after → enters (extent_of k.shape) s w before ≡ after
    on x before after e h = subst (λ (y : Step). enters (extent_of k.shape) y w before ≡ after) (same_Some x s (sym e ∙ asked)) h

    -- outside, and so behind it
    out : (x : Step) → step_in t.asked ≡ Some x → IsCalm (extent_of k.shape) x → (u : Thread) → accesses u ≡ false → enters (extent_of k.shape) s w false ≡ accesses u
    out x e calm u outside = on x false (accesses u) e (calm w ∙ sym outside)

    go : (d : Doing) → UpTo k chain st.job st.at t.vars t.made t.hands t.asked now d → takes_at t.shape (Some w) d → enters (extent_of k.shape) s w (is_accessing d) ≡ accesses (turned_at (Some w) d (idle t))
    go Ready u takes = let e : step_in t.asked ≡ None = ap step_in u.0 in absurd (cc)
    go (Making to name plan) u takes =
        out u.waits.step u.waits.asked_is (making-calm (extent_of k.shape) (class_at k.shape name.class).immortal name (u.held + 1) u.waits)
        (made_on to name (creation_turned plan (Some w)) (creation_answer plan (Some w)) (idle t)) (made-outside t to name (creation_turned plan (Some w)) (creation_answer plan (Some w)))
    go (Gaining gain to from plan) u takes = of from.origin u
      where
        of : (o : Origin) → IsGainingFrom k st.job st.at gain to o from.kind from.place plan t.vars t.made t.hands (step_in t.asked) now →
            enters (extent_of k.shape) s w (is_from_cell o) ≡ accesses (gained_on gain to (record { origin = o; kind = from.kind; place = from.place }) (up_turned plan (Some w)) (up_answer plan (Some w)) (idle t))
        of (origins.Hand hand) u =
            out u.waits.step u.waits.asked_is
            (still-calm (extent_of k.shape) u.waits.step (up-still (extent_of k.shape) k.shape.caps (list_of gain (in_hand hand from.kind from.place)) from.place (rises_of gain hand (t.hands + 1)) u.inside.place u.waits u.bare))
            (gained_on gain to (in_hand hand from.kind from.place) (up_turned plan (Some w)) (up_answer plan (Some w)) (idle t)) (gained-outside t gain to hand from.kind from.place (up_turned plan (Some w)) (up_answer plan (Some w)))
        of (origins.Cell cell) u = copies gain u.is_copy takes
          where
            still : enters (extent_of k.shape) s w true ≡ true
            still = on u.waits.step true true u.waits.asked_is (up-still (extent_of k.shape) k.shape.caps from.kind from.place (get_acts cell (t.hands + 1)) u.place_in u.waits u.bare w true)

            copies : (g : Gain) → g ≡ gains.Copy → gain_takes g plan (Some w) →
                enters (extent_of k.shape) s w true ≡ accesses (gained_on g to (in_cell cell from.kind from.place) (up_turned plan (Some w)) (up_answer plan (Some w)) (idle t))
            copies gains.Copy is takes = still ∙ sym (got-inside t to cell from.kind from.place (up_turned plan (Some w)) (up_answer plan (Some w)) (gain_answers gains.Copy plan (Some w) takes))
            copies gains.Unown is takes = absurd (cc)
            copies gains.Load is takes = absurd (cc)
    go (Naming to held plan) u takes =
        out u.waits.step u.waits.asked_is (name-calm (extent_of k.shape) held.place u.waits) (named_on to held (one_turned plan (Some w)) (name_of_answer plan (Some w)) (idle t)) (named-outside t to held (one_turned plan (Some w)) (name_of_answer plan (Some w)))
    go (Opening to cell plan) u takes =
        on u.waits.step false (accesses (opened_on to cell (begin_turned plan (Some w)) (begin_answer plan (Some w)) (idle t))) u.waits.asked_is
        (begins-inside (extent_of k.shape) cell.name w u.cell_is.there u.waits ∙ sym (opened-inside t to cell (begin_turned plan (Some w)) (begin_answer plan (Some w))))
    go (Closing to cell held plan) u takes =
        let h = ends-outside (extent_of k.shape) cell (held.place + 2) u.there u.waits in
        subst (λ (a : Next (Unit {0})). enters (extent_of k.shape) s w true ≡ accesses (closed_on to cell held (end_turned plan (Some w)) a (idle t))) (sym (h.1 w))
        (on u.waits.step true (accesses (closed_on to cell held (end_turned plan (Some w)) (nexts.Done tt) (idle t))) u.waits.asked_is (h.0 w ∙ sym (closed-outside t to cell held (end_turned plan (Some w)))))
    go (Setting from cell plan) u takes =
        out u.waits.step u.waits.asked_is (swaps-calm (extent_of k.shape) cell.name (word_of (ref (value t.vars from))) (hand_of (ref (value t.vars from))) (t.hands + 1) (put-free (value t.vars from)) u.waits)
        (set_on from cell (swap_turned plan (Some w)) (swap_answer plan (Some w)) (idle t)) (set-outside t from cell (swap_turned plan (Some w)) (swap_answer plan (Some w)))
    go (Clearing plan) u takes = absurd u
    go (Dropping held plan) u takes =
        out u.waits.step u.waits.asked_is (still-calm (extent_of k.shape) u.waits.step (down-still (extent_of k.shape) held.kind held.place held.hand u.inside.place u.waits u.bare))
        (dropped_on held (down_turned plan (Some w)) (down_answer plan (Some w)) (idle t)) (dropped-outside t held (down_turned plan (Some w)) (down_answer plan (Some w)))
    go (Vacating slot plan) u takes =
        out u.waits.step u.waits.asked_is (vacate-calm (extent_of k.shape) slot u.waits) (vacated_on slot (one_turned plan (Some w)) (vacate_answer plan (Some w)) (idle t)) (vacated-outside t slot (one_turned plan (Some w)) (vacate_answer plan (Some w)))
    go (Dying c) u takes =
        let x = dying-calm k.shape (here k st.job st.at) (IsOver k st.job st.at t.vars t.made) chain c.slot t.hands (step_in t.asked) now c.at u.place in
        let new : Thread = dying_on (cascade_turned c (Some w)) (cascade_answer c (Some w)) (deinit_tells (cascade_turned c (Some w)).event (idle t)) in
        out x.0 x.1 x.2 new (dying-outside (cascade_turned c (Some w)) (cascade_answer c (Some w)) (deinit_tells (cascade_turned c (Some w)).event (idle t)) refl)
    go Ended u takes = absurd takes
