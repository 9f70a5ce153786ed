-- The steps of `new`: an object is made for a variable.
use Rattle.std.specs.Prelude.{ℕ, ◌+◌, Option, Some, None}
use Rattle.arc_model.specs.declared.event.ObjectName.{ObjectName}
use Rattle.arc_model.specs.declared.event.Act.TheVariants as acts
use Rattle.arc_model.specs.declared.answer.Answer.TheVariants as answers
use Rattle.arc_model.specs.declared.shape.Kind.TheVariants.{Strong}
use Rattle.arc_rule.specs.declared.step.Intent.TheVariants as intents
use Rattle.arc_rule.specs.declared.plan.Next.{Next}
use Rattle.arc_rule.specs.declared.plan.Next.TheVariants as nexts
use Rattle.arc_plan.specs.declared.slots.NewObjectAnswer.{NewObjectAnswer}
use Rattle.arc_plan.specs.declared.slots.NewObjectAnswer.TheVariants.{Slot, NoSlot, Again}
use Rattle.arc_plan.specs.Slots.{Creation, slot_taken}
use Rattle.arc_ops.specs.Thread.{Thread, put, asking}
use Rattle.arc_ops.specs.Plans.{make_begun_as}
use Rattle.arc_ops.specs.Begins.{next_op}
use Rattle.arc_ops.specs.Drops.{replaced}
use Rattle.arc_ops.specs.declared.stepper.Held.{Held}
use Rattle.arc_ops.specs.declared.stepper.Doing.TheVariants.{Making}

-- a strong reference to the object in a slot
abbrev pub strong_to : (hand slot : ℕ) → Held
strong_to hand slot = record { hand = hand; kind = Strong; place = slot }

-- the object is made by the step that takes the slot, which leaves the plan to store the object's words
abbrev pub came_to : ObjectName → Option ℕ → Thread → Thread
came_to name (Some slot) t = record t { hands = t.hands + 1; made = t.made + 1; event = Some (acts.New (t.hands + 1) name.class slot) }
came_to name None t = t

abbrev pub made_on : ℕ → ObjectName → Creation → Next NewObjectAnswer → Thread → Thread
made_on to name plan (nexts.Step s) t = asking (Making to name plan) s (intents.New name.class) (came_to name (slot_taken plan.at) t)
made_on to name plan (nexts.Done (Slot place)) t = replaced to (Some (strong_to t.hands place)) (put (answers.New name) t)
made_on to name plan (nexts.Done NoSlot) t = next_op (put answers.Full (record t { event = Some acts.Full }))
made_on to name plan (nexts.Done (Again changed)) t = make_begun_as to name t
