-- Two threads of one phase, in the order of their schedule; an operation whose event no step tells alone; blocks that are run and passed over;
-- a load of an unowned reference, to an object that lives and to one whose deinit has begun; a get, a set and an end section; and a deinit that
-- brings about another one.
use Rattle.std.specs.Prelude.{ℕ, Bool, true, false, List, [], ◌∷◌, Option, Some, None}
use Rattle.arc_model.specs.declared.event.Act.{Act}
use Rattle.arc_model.specs.declared.event.Act.TheVariants as acts
use Rattle.arc_model.specs.declared.event.CellName.TheVariants as cells
use Rattle.arc_model.specs.declared.event.ObjectName.{ObjectName}
use Rattle.arc_model.specs.declared.event.Origin.TheVariants as origins
use Rattle.arc_model.specs.declared.shape.Kind.TheVariants.{Strong}
use Rattle.arc_model.specs.declared.event.Got.TheVariants as got
use Rattle.arc_bits.specs.Words.{packed}
use Rattle.arc_bits.specs.declared.packing.Word.TheVariants.{Counts}
use Rattle.arc_model.specs.Shapes.{HeapShape, ObjectClass}
use Rattle.arc_rule.specs.Extents.{Extent}
use Rattle.arc_rule.specs.declared.step.Step.{Step}
use Rattle.arc_rule.specs.declared.step.Step.TheVariants.{Load, Exchange, Store, Or}
use Rattle.arc_rule.specs.Isa.{isa_word_of}
use Rattle.arc_script.specs.declared.script.Op.TheVariants as op
use Rattle.arc_script.specs.declared.script.OpCell.TheVariants as opcell
use Rattle.arc_schedule.specs.Made.{Point, Made, made_at}
use Rattle.arc_schedule.specs.Operations.{State, strong_to, unowned_to, next_name, IsCascade, Does}
use Rattle.arc_schedule.specs.Threads.{point_of, end_point, OpsDone, GlobalsCleared}
use Rattle.arc_schedule.specs.Orders.{InOrder}

-- one global, one slot, one entry: the global's word is at place 1, the slot's count at place 2
abbrev pub small : Extent
small = record { globals = 1; slots = 1; entries = 1 }

-- a step of an operation of the thread, without an event
abbrev pub by : (thread operation : ℕ) → Step → ℕ → Made
by thread operation step found = made_at (point_of thread 0 operation) step found None

abbrev pub look : ℕ → Made
look thread = by thread 1 (Load 2) 0

-- The places 2 and 1 give each thread one step, the second thread first; then the first thread makes its steps to the end before the second.
abbrev pub PlacesComeFirst : Type 0
PlacesComeFirst = InOrder small 2 0 (2 ∷ 1 ∷ []) [] (look 2 ∷ look 1 ∷ look 1 ∷ look 2 ∷ [])

-- The only place has the second thread begin an access to the global. It ends the operation with this access, then the first thread makes its
-- step, and then the second thread those of its next operation.
abbrev pub AccessesEndFirst : Type 0
AccessesEndFirst = InOrder small 2 0 (2 ∷ []) [] (by 2 1 (Exchange 1 2 1) 2 ∷ by 2 1 (Store 1 2) 0 ∷ look 1 ∷ by 2 2 (Load 2) 0 ∷ [])

-- one slot, whose count is at place 1 and whose isa word is at place 2, and an entry; behind them, at place 16, the slot's bit
abbrev pub plain : ObjectClass
plain = record { fields = []; immortal = false }

abbrev pub one_slot : HeapShape
one_slot = record { slots = 1; entries = 1; caps = record { strong = 1; unowned = 2; wide = 2 }; classes = plain ∷ plain ∷ []; globals = [] }

abbrev pub nothing_yet : State
nothing_yet = record { vars = None ∷ []; made = 0; hands = 0 }

abbrev pub first_of : (thread : ℕ) → Point
first_of thread = point_of thread 0 1

-- the object's count and isa word are stored behind the step that sets the slot's bit
abbrev pub made_first : (class : ℕ) → List Made
made_first class =
    made_at (first_of 1) (Store 2 (isa_word_of (next_name (first_of 1) nothing_yet class))) 0 None ∷ made_at (first_of 1) (Store 1 2) 0 None
    ∷ made_at (first_of 1) (Or 16 1) 0 (Some (acts.New 1 class 0)) ∷ made_at (first_of 1) (Load 16) 0 None ∷ []

abbrev pub with_object : State
with_object = record { vars = strong_to 1 0 ∷ []; made = 1; hands = 1 }

-- The first operation of a thread makes an object of a class: the step that sets the slot's bit, and the 0 that it finds, are the same for each
-- class, and its event has the class.
abbrev pub OperationsTell : Type 0
OperationsTell = (class : ℕ) → Does one_slot (class ∷ []) (first_of 1) (op.New 0 class) nothing_yet [] with_object (made_first class)

-- A phase with two blocks. The first is run, since the variable is nil, and its only operation is the first of the phase. Then the variable
-- holds the object, so that the second block is passed over, without a step.
abbrev pub BlocksAreRun : Type 0
BlocksAreRun = (class : ℕ) → OpsDone one_slot (class ∷ []) 1 0 (op.IfNil 0 2 ∷ op.New 0 class ∷ op.IfNil 0 4 ∷ op.Drop 0 ∷ []) nothing_yet [] 4 with_object (made_first class)

-- ---- loads

-- the second variable has an unowned reference to the object in the slot
abbrev pub with_unowned : State
with_unowned = record { vars = None ∷ unowned_to 1 0 ∷ []; made = 0; hands = 1 }

abbrev pub with_both : State
with_both = record { vars = strong_to 2 0 ∷ unowned_to 1 0 ∷ []; made = 0; hands = 2 }

abbrev pub count_word : (strong_extra unowned : ℕ) → (deiniting : Bool) → ℕ
count_word strong_extra unowned deiniting = packed (Counts (record { strong_extra = strong_extra; unowned = unowned; deiniting = deiniting }))

-- the strong references count one more: the event is that of the exchange
abbrev pub raised : List Made
raised =
    made_at (first_of 1) (Exchange 1 (count_word 0 2 false) (count_word 1 2 false)) (count_word 0 2 false) (Some (acts.Load 1 (got.Hand 2))) ∷ made_at (first_of 1) (Load 1) (count_word 0 2 false) None ∷ []

-- The object lives. Its name is read behind the exchange, by a step without an event, and the first variable has the new strong reference.
abbrev pub LoadsGive : Type 0
LoadsGive = Does one_slot (0 ∷ 0 ∷ []) (first_of 1) (op.Load 0 1) with_unowned [] with_both (made_at (first_of 1) (Load 2) (isa_word_of (next_name (first_of 1) nothing_yet 0)) None ∷ raised)

-- Its deinit has begun. The load of the count is the only step, and has the event; the first variable is nil.
abbrev pub LoadsFindDead : Type 0
LoadsFindDead = Does one_slot (0 ∷ 0 ∷ []) (first_of 1) (op.Load 0 1) with_unowned [] with_unowned (made_at (first_of 1) (Load 1) (count_word 0 1 true) (Some (acts.Load 1 got.Dead)) ∷ [])

-- ---- globals

-- one slot and one global: the global's word is at place 1, the slot's count at place 2
abbrev pub with_global : HeapShape
with_global = record one_slot { globals = record { kind = Strong; class = 0 } ∷ [] }

-- the strong references of the object in the slot count one more, or one fewer
abbrev pub counts_more : Point → Option Act → List Made → List Made
counts_more point event b =
    made_at point (Exchange 2 (count_word 0 2 false) (count_word 1 2 false)) (count_word 0 2 false) event ∷ made_at point (Load 2) (count_word 0 2 false) None ∷ b

abbrev pub counts_fewer : Point → Option Act → List Made → List Made
counts_fewer point event b =
    made_at point (Exchange 2 (count_word 1 2 false) (count_word 0 2 false)) (count_word 1 2 false) event ∷ made_at point (Load 2) (count_word 1 2 false) None ∷ b

-- The global has a reference to the object in the slot. It is copied while the global's word is 1, and then the word is there again.
abbrev pub GetsCopy : Type 0
GetsCopy = Does with_global (0 ∷ []) (first_of 1) (op.Get 0 (opcell.Global 0)) nothing_yet [] (record { vars = strong_to 1 0 ∷ []; made = 0; hands = 1 })
    (made_at (first_of 1) (Store 1 2) 1 None ∷ counts_more (first_of 1) (Some (acts.Copy (origins.Cell (cells.Global 0)) 1)) (
    made_at (first_of 1) (Exchange 1 2 1) 2 None ∷ made_at (first_of 1) (Load 1) 2 None ∷ []))

-- Another thread is inside an access at first. Then the global is nil, and has the variable's reference by one exchange, which has the event.
abbrev pub SetsSwap : Type 0
SetsSwap = Does with_global (0 ∷ []) (first_of 1) (op.Set (opcell.Global 0) 0) with_object [] (record { vars = None ∷ []; made = 1; hands = 1 })
    (made_at (first_of 1) (Exchange 1 0 2) 0 (Some (acts.Swap (cells.Global 0) (Some 1) None)) ∷ made_at (first_of 1) (Load 1) 0 None ∷ made_at (first_of 1) (Load 1) 1 None ∷ [])

-- The end section clears the global: what was there is in the first hand of thread 0, and dropped.
abbrev pub EndsClear : Type 0
EndsClear = GlobalsCleared with_global 1 1
    (counts_fewer end_point (Some (acts.Drop 1 false)) (made_at end_point (Exchange 1 2 0) 2 (Some (acts.Swap (cells.Global 0) None (Some 1))) ∷ made_at end_point (Load 1) 2 None ∷ []))

-- ---- deinits

-- two slots, and a class with a strong field. The count of the first slot is at place 1, its isa word at 2, its next word at 3 and its first field at
-- 4; the count of the second one is at 12, its isa word at 13 and its next word at 14.
abbrev pub with_field : HeapShape
with_field = record one_slot { slots = 2; classes = record { fields = record { kind = Strong; class = 1 } ∷ []; immortal = false } ∷ plain ∷ [] }

-- the objects in them
abbrev pub holder : ObjectName
holder = next_name (first_of 1) nothing_yet 0

abbrev pub kept : ObjectName
kept = next_name (first_of 1) with_object 1

-- the count at the place is exchanged
abbrev pub exchanged : (place old new : ℕ) → Act → List Made → List Made
exchanged place old new event b = made_at (first_of 1) (Exchange place old new) old (Some event) ∷ by 1 1 (Load place) old ∷ b

-- the field is taken out of and set to nil, and its reference was the last strong one
abbrev pub taken_last : List Made
taken_last =
    exchanged 12 (count_word 0 2 false) (count_word 0 2 true) (acts.Drop 2 true) (made_at (first_of 1) (Store 4 0) 3 (Some (acts.Take 0 0 2))
    ∷ by 1 1 (Load 4) 3 ∷ by 1 1 (Load 2) (isa_word_of holder) ∷ by 1 1 (Store 3 0) 0 ∷ [])

-- the object that it led to is deinited, and its next word says that the other deinit waits, to go on behind the first field
abbrev pub inner_over : List Made
inner_over =
    exchanged 12 (count_word 0 2 true) (count_word 0 1 true) (acts.Finish 1 false)
    (by 1 1 (Load 14) 2 ∷ by 1 1 (Load 13) (isa_word_of kept) ∷ by 1 1 (Store 14 2) 0 ∷ taken_last)

-- The object with the field is deinited, by a thread that has had one hand. Behind the other deinit it reads its isa word again. Each of the two
-- objects keeps an unowned holder, so that no slot is vacated.
abbrev pub DeinitsNest : Type 0
DeinitsNest = IsCascade with_field (first_of 1) [] 0 1 [] 2
    (exchanged 1 (count_word 0 2 true) (count_word 0 1 true) (acts.Finish 0 false) (by 1 1 (Load 3) 0 ∷ by 1 1 (Load 2) (isa_word_of holder) ∷ inner_over))
