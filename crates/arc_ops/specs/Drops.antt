-- The steps of a drop: a reference goes, and with the last one what it kept.
use Rattle.std.specs.Prelude.{ℕ, ◌+◌, true, false, Option, Some, None}
use Rattle.arc_model.specs.declared.event.ObjectName.{ObjectName}
use Rattle.arc_model.specs.declared.event.Act.{Act}
use Rattle.arc_model.specs.declared.event.Act.TheVariants as acts
use Rattle.arc_model.specs.declared.answer.Answer.TheVariants as answers
use Rattle.arc_model.specs.declared.shape.Kind.{Kind}
use Rattle.arc_model.specs.declared.shape.Kind.TheVariants.{Strong, Unowned, Weak}
use Rattle.arc_rule.specs.declared.step.Intent.TheVariants as intents
use Rattle.arc_rule.specs.declared.plan.Next.{Next}
use Rattle.arc_rule.specs.declared.plan.Next.TheVariants as nexts
use Rattle.arc_plan.specs.Slots.{OneStep}
use Rattle.arc_side.specs.declared.down.DownAnswer.{DownAnswer}
use Rattle.arc_side.specs.declared.down.DownAnswer.TheVariants as downs
use Rattle.arc_side.specs.Downs.{Fall}
use Rattle.arc_cells.specs.declared.cascade.CascadeNext.{CascadeNext}
use Rattle.arc_cells.specs.declared.cascade.CascadeNext.TheVariants as says
use Rattle.arc_cells.specs.Cascades.{CascadeState, cascade_behind, cascade_turned, cascade_answer}
use Rattle.arc_ops.specs.Thread.{Thread, value, set_var, put, asking}
use Rattle.arc_ops.specs.Plans.{drop_begun, vacate_begun}
use Rattle.arc_ops.specs.Begins.{next_op}
use Rattle.arc_ops.specs.declared.stepper.Held.{Held}
use Rattle.arc_ops.specs.declared.stepper.Doing.TheVariants.{Dropping, Dying, Vacating}

-- ---- the last thing that an operation does

abbrev pub replaced_old : Option Held → Thread → Thread
replaced_old None t = next_op t
replaced_old (Some old) t = drop_begun old t

-- the destination has its new value, and what it held before is dropped last
abbrev pub replaced : ℕ → (new : Option Held) → Thread → Thread
replaced to new t = replaced_old (value t.vars to) (set_var to new t)

-- ---- the deinit of an object

abbrev pub dying_asks : CascadeState → CascadeNext → Thread → Thread
dying_asks c (says.Step s intent) t = asking (Dying c) s intent t
dying_asks c _ t = t

-- the hands of its deinits, and of those that these bring about, go on behind the thread's
abbrev pub dies : ℕ → Thread → Thread
dies slot t = dying_asks (cascade_turned (cascade_behind t.layout t.shape slot t.hands) None) (cascade_answer (cascade_behind t.layout t.shape slot t.hands) None) t

-- the line of a deinit stands, and the cascade goes on
abbrev pub died_on : CascadeState → ObjectName → Thread → Thread
died_on c name t = dying_asks (cascade_turned c None) (cascade_answer c None) (put (answers.Deinit name) t)

abbrev pub dying_on : CascadeState → CascadeNext → Thread → Thread
dying_on c (says.Step s intent) t = asking (Dying c) s intent t
dying_on c (says.Died name) t = died_on c name t
dying_on c says.Done t = next_op t

-- how many references an event takes out of a field
abbrev pub taken_by : Option Act → ℕ
taken_by (Some (acts.Take slot field hand)) = 1
taken_by _ = 0

-- the event of a deinit; a reference that it takes out of a field comes into the thread's hands
abbrev pub deinit_tells : Option Act → Thread → Thread
deinit_tells event t = record t { event = event; hands = t.hands + taken_by event; taken = t.taken + taken_by event }

-- ---- the end of a slot

abbrev pub vacated_on : ℕ → OneStep → Next (Unit {0}) → Thread → Thread
vacated_on slot plan (nexts.Step s) t = asking (Vacating slot plan) s intents.Vacate t
vacated_on slot plan (nexts.Done a) t = next_op (record t { event = Some (acts.Vacate slot) })

-- ---- a reference

-- after the last strong reference the object is deinited, after the last unowned one its slot ends
abbrev pub last_gone : Kind → ℕ → Thread → Thread
last_gone Strong slot t = dies slot t
last_gone Unowned slot t = vacate_begun slot t
last_gone Weak slot t = t

abbrev pub dropped_on : Held → Fall → Next DownAnswer → Thread → Thread
dropped_on held plan (nexts.Step s) t = asking (Dropping held plan) s (intents.Drop held.hand) t
dropped_on held plan (nexts.Done (downs.More entry)) t = next_op (record t { event = Some (acts.Drop held.hand false) })
dropped_on held plan (nexts.Done (downs.Last entry)) t = last_gone held.kind held.place (record t { event = Some (acts.Drop held.hand true) })
dropped_on held plan (nexts.Done (downs.Again changed)) t = drop_begun held t
