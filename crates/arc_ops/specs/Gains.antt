-- The steps of a gain: `copy`, `unown` and `load` bring a reference into a variable from one in another variable, and `get` from one in a cell.
use Rattle.std.specs.Prelude.{ℕ, ◌+◌, Some, None}
use Rattle.arc_model.specs.declared.event.ObjectName.{ObjectName}
use Rattle.arc_model.specs.declared.event.Act.TheVariants as acts
use Rattle.arc_model.specs.declared.event.Origin.{Origin}
use Rattle.arc_model.specs.declared.event.Origin.TheVariants.{Hand, Cell}
use Rattle.arc_model.specs.declared.event.Got.TheVariants as gots
use Rattle.arc_model.specs.declared.answer.Answer.TheVariants as answers
use Rattle.arc_rule.specs.declared.step.Intent.TheVariants as intents
use Rattle.arc_rule.specs.declared.plan.Next.{Next}
use Rattle.arc_rule.specs.declared.plan.Next.TheVariants as nexts
use Rattle.arc_plan.specs.Slots.{OneStep}
use Rattle.arc_side.specs.declared.up.UpAnswer.{UpAnswer}
use Rattle.arc_side.specs.declared.up.UpAnswer.TheVariants as ups
use Rattle.arc_side.specs.Ups.{Rise}
use Rattle.arc_ops.specs.Thread.{Thread, put, asking}
use Rattle.arc_ops.specs.Cells.{close_begun}
use Rattle.arc_ops.specs.Plans.{hand_of, list_of, intent_of, act_of, gain_begun, name_begun}
use Rattle.arc_ops.specs.Drops.{replaced}
use Rattle.arc_ops.specs.declared.gain.Gain.{Gain}
use Rattle.arc_ops.specs.declared.gain.Gain.TheVariants as gains
use Rattle.arc_ops.specs.declared.gain.Source.{Source}
use Rattle.arc_ops.specs.declared.stepper.Held.{Held}
use Rattle.arc_ops.specs.declared.stepper.Doing.TheVariants.{Gaining, Naming}

-- the new reference, in the thread's next hand
abbrev pub gained : Gain → Source → Thread → Held
gained gain from t = record { hand = t.hands + 1; kind = list_of gain from; place = from.place }

abbrev pub came_by : Gain → Source → Thread → Thread
came_by gain from t = record t { hands = t.hands + 1; event = Some (act_of gain from (t.hands + 1)) }

-- The reference is in the thread's hands. Before the line a load reads the object's name, and the access ends to a cell that was copied.
abbrev pub has_gained : Gain → Origin → ℕ → Held → Thread → Thread
has_gained gains.Load from to held t = name_begun to held t
has_gained gain (Cell cell) to held t = close_begun to cell held t
has_gained gain (Hand hand) to held t = replaced to (Some held) (put answers.Ok t)

-- a load that finds that the object's deinit has begun makes the destination nil
abbrev pub found_dead : ℕ → Source → Thread → Thread
found_dead to from t = replaced to None (put answers.Dead (record t { event = Some (acts.Load (hand_of from.origin) gots.Dead) }))

abbrev pub gained_on : Gain → ℕ → Source → Rise → Next UpAnswer → Thread → Thread
gained_on gain to from plan (nexts.Step s) t = asking (Gaining gain to from plan) s (intent_of gain from) t
gained_on gain to from plan (nexts.Done ups.Up) t = has_gained gain from.origin to (gained gain from t) (came_by gain from t)
gained_on gain to from plan (nexts.Done ups.Dead) t = found_dead to from t
gained_on gain to from plan (nexts.Done (ups.Again changed)) t = gain_begun gain to from t
gained_on gain to from plan (nexts.Done _) t = t

abbrev pub named_on : ℕ → Held → OneStep → Next ObjectName → Thread → Thread
named_on to held plan (nexts.Step s) t = asking (Naming to held plan) s intents.Look t
named_on to held plan (nexts.Done name) t = replaced to (Some held) (put (answers.Got name) t)
