-- How many steps a thread may still make in its phase, where nobody else makes one meanwhile and no other thread is inside an access, under the chain of
-- the deinits that wait for the one under way.
use Rattle.std.specs.Prelude.{ℕ, ◌≢◌, ◌+◌, ◌-◌, ◌*◌, ◌/◌, ◌^◌, ◌==◌, ⊤, bit_and, if◌then◌else◌, List, length, slice_index, sum_by, Option, Some, None}
use Rattle.arc_model.specs.Shapes.{HeapShape}
use Rattle.arc_model.specs.References.{field_count}
use Rattle.arc_rule.specs.Places.{number}
use Rattle.arc_rule.specs.declared.layout.Place.TheVariants.{Count, SlotBits}
use Rattle.arc_rule.specs.declared.attempt.At.{At as AttemptAt}
use Rattle.arc_rule.specs.declared.attempt.At.TheVariants.{Loading, Exchanging}
use Rattle.arc_plan.specs.declared.slots.Making.{Making as Search}
use Rattle.arc_plan.specs.declared.slots.Making.TheVariants.{Looking, Taking, Counting}
use Rattle.arc_rule.specs.Extents.{Extent}
use Rattle.arc_rule.specs.Bits.{words_of, bit_of}
use Rattle.arc_cells.specs.Chains.{Frame, rest_of}
use Rattle.arc_cells.specs.declared.cascade.At.{At}
use Rattle.arc_cells.specs.declared.cascade.At.TheVariants as at
use Rattle.arc_cells.specs.declared.ref_drop.At.{At as DropAt}
use Rattle.arc_cells.specs.declared.ref_drop.At.TheVariants as drops
use Rattle.arc_ops.specs.declared.stepper.Held.{Held}
use Rattle.arc_ops.specs.declared.stepper.Doing.{Doing}
use Rattle.arc_ops.specs.declared.stepper.Doing.TheVariants.{Ready, Making, Gaining, Naming, Opening, Closing, Setting, Clearing, Dropping, Dying, Vacating, Ended}
use Rattle.arc_ops.specs.Thread.{Thread}

abbrev pub held_unit : Option Held → ℕ
held_unit None = 0
held_unit (Some held) = 1

-- how many globals the end section still clears
abbrev pub globals_left : Thread → ℕ
globals_left t = t.layout.globals - t.cleared

-- what is owed for the operations from this one on, for the variables that are dropped in the end, and for the globals that are cleared
abbrev pub units : Thread → ℕ
units t = 2 * (length t.program - t.index) + sum_by held_unit t.vars + globals_left t

-- the same while an operation is under way
abbrev pub busy_units : Thread → ℕ
busy_units t = 2 * (length t.program - t.index) - 1 + sum_by held_unit t.vars + globals_left t

-- The words of bits that are still to be read, the step that takes a slot, and the stores of the object's words. A slot whose bit is set by now
-- is looked for again.
abbrev pub search_left : List ℕ → Extent → Search → ℕ
search_left words l (Looking word) = words_of l.slots - word + 24
search_left words l (Taking slot seen) = if bit_and (slice_index words (number l (SlotBits (slot / 64)))) (bit_of slot) == 0 then 22 else words_of l.slots + 25
search_left words l (Counting slot) = 21
search_left words l _ = 20

-- An attempt that has read another word than the one that is there now is made again. One on a cell finds that no access is under way.
abbrev pub attempt_left : ℕ → AttemptAt → ℕ
attempt_left word Loading = 2
attempt_left word (Exchanging seen new) = if word == seen then 1 else 3
attempt_left word _ = 1

-- the same where the attempt goes on to an entry's count if the inline word names one; in the entry it has two steps
abbrev pub count_left : (entry : Option ℕ) → ℕ → AttemptAt → ℕ
count_left (Some e) word at = 2
count_left None word Loading = 3
count_left None word (Exchanging seen new) = if word == seen then 1 else 4
count_left None word _ = 1

-- the inline word of the slot
abbrev pub count_at : List ℕ → Extent → ℕ → ℕ
count_at words l s = slice_index words (number l (Count s))

-- the attempt at the end of a deinit
abbrev pub finish_left : (entry : Option ℕ) → ℕ → AttemptAt → ℕ
finish_left (Some e) word at = 1
finish_left None word at = attempt_left word at

-- The drop of a reference that was taken out of a field: the attempt on its count and what comes then, the deinit of the object or the end of its slot.
abbrev pub drop_left : List ℕ → DropAt → ℕ
drop_left words (drops.Counting p) = 24 + count_left p.entry (count_at words p.layout p.slot) p.at
drop_left words _ = 1

-- The deinit of an object: its next word, its name, each field that is still to be looked at, the next word again, and the attempt at its end. An object has
-- eight fields at most. The drop of what is taken out of a field is counted from then on; before, it is in `reserve_left`.
abbrev pub deinit_left : List ℕ → HeapShape → At → ℕ
deinit_left words shape at.Entering = 15
deinit_left words shape at.Naming = 14
deinit_left words shape (at.Looking name field) = 5 + (field_count shape name - field)
deinit_left words shape (at.Taking name field place) = 4 + (field_count shape name - field)
deinit_left words shape (at.Dropping name field drop) = 5 + (field_count shape name - (field + 1)) + drop_left words drop.at
deinit_left words shape at.Leaving = 4
deinit_left words shape (at.Finishing parent p) = 1 + finish_left p.entry (count_at words p.layout p.slot) p.at
deinit_left words shape (at.Resuming field) = 14
deinit_left words shape _ = 1

-- the deinits that wait still, where the first of them doesn't go on now
abbrev pub waiting : At → List Frame → List Frame
waiting (at.Resuming field) chain = rest_of chain
waiting _ chain = chain

-- each of these goes on, looks at the rest of its fields, and ends
abbrev pub cascade_left : List ℕ → HeapShape → List Frame → At → ℕ
cascade_left words shape chain at = deinit_left words shape at + 14 * length (waiting at chain)

abbrev pub doing_left : List ℕ → List Frame → Thread → Doing → ℕ
doing_left words chain t (Making to name plan) = 4200 * busy_units t + search_left words plan.layout plan.at
doing_left words chain t (Gaining gain to from plan) = 4200 * busy_units t + 19 + count_left plan.entry (count_at words plan.layout plan.slot) plan.at
doing_left words chain t (Naming to held plan) = 4200 * busy_units t + 19
doing_left words chain t (Opening to cell plan) = 4200 * busy_units t + 23 + attempt_left (slice_index words plan.place) plan.at
doing_left words chain t (Closing to cell held plan) = 4200 * busy_units t + 19
doing_left words chain t (Setting from cell plan) = 4200 * busy_units t + 18 + attempt_left (slice_index words plan.place) plan.at
doing_left words chain t (Clearing plan) = 4200 * (busy_units t - 1) + 18 + attempt_left (slice_index words plan.place) plan.at
doing_left words chain t (Dropping held plan) = 4200 * busy_units t + 15 + count_left plan.entry (count_at words plan.layout plan.slot) plan.at
doing_left words chain t (Dying c) = 4200 * busy_units t + cascade_left words c.shape chain c.at
doing_left words chain t (Vacating slot plan) = 4200 * busy_units t + 1
doing_left words chain t Ready = 0
doing_left words chain t Ended = 0

-- what is owed for the references that may still be taken out of fields: a thread has fewer than 2 ^ 31 hands for them
abbrev pub reserve_left : Thread → ℕ
reserve_left t = 32 * (2 ^ 31 - t.taken)

abbrev pub left : List ℕ → List Frame → Thread → ℕ
left words chain t = doing_left words chain t t.doing + reserve_left t

-- the cell that it waits for isn't accessed
abbrev pub FindsFree : List ℕ → Doing → Type 0
FindsFree words (Opening to cell plan) = slice_index words plan.place ≢ 1
FindsFree words (Setting from cell plan) = slice_index words plan.place ≢ 1
FindsFree words (Clearing plan) = slice_index words plan.place ≢ 1
FindsFree words _ = ⊤
