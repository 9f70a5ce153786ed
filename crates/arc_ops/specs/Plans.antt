-- The plans that a thread's operations run, and the first step of each.
use Rattle.std.specs.Prelude.{ℕ, ◌+◌, None}
use Rattle.arc_model.specs.Shapes.{class_at}
use Rattle.arc_model.specs.declared.event.ObjectName.{ObjectName}
use Rattle.arc_model.specs.declared.event.Origin.{Origin}
use Rattle.arc_model.specs.declared.event.Origin.TheVariants.{Hand, Cell}
use Rattle.arc_model.specs.declared.event.Act.{Act}
use Rattle.arc_model.specs.declared.event.Act.TheVariants as acts
use Rattle.arc_model.specs.declared.event.Got.TheVariants as gots
use Rattle.arc_model.specs.declared.shape.Kind.{Kind}
use Rattle.arc_model.specs.declared.shape.Kind.TheVariants.{Strong, Unowned}
use Rattle.arc_rule.specs.declared.step.Intent.{Intent}
use Rattle.arc_rule.specs.declared.step.Intent.TheVariants as intents
use Rattle.arc_rule.specs.declared.plan.Next.{Next}
use Rattle.arc_rule.specs.declared.plan.Next.TheVariants as nexts
use Rattle.arc_rule.specs.declared.attempt.At.TheVariants as attempt
use Rattle.arc_plan.specs.declared.slots.Making.TheVariants as search
use Rattle.arc_plan.specs.declared.slots.Once.TheVariants as once
use Rattle.arc_plan.specs.declared.slots.NewObjectAnswer.{NewObjectAnswer}
use Rattle.arc_plan.specs.Slots.{Creation, OneStep, creation_turned, creation_answer, one_turned, name_of_answer, vacate_answer}
use Rattle.arc_side.specs.declared.up.UpAnswer.{UpAnswer}
use Rattle.arc_side.specs.declared.down.DownAnswer.{DownAnswer}
use Rattle.arc_side.specs.Ups.{Rise, up_turned, up_answer}
use Rattle.arc_side.specs.Downs.{Fall, down_turned, down_answer}
use Rattle.arc_script.specs.declared.script.Op.{Op}
use Rattle.arc_script.specs.declared.script.Op.TheVariants as op
use Rattle.arc_ops.specs.Thread.{Thread, asking}
use Rattle.arc_ops.specs.declared.gain.Gain.{Gain}
use Rattle.arc_ops.specs.declared.gain.Gain.TheVariants as gains
use Rattle.arc_ops.specs.declared.gain.Source.{Source}
use Rattle.arc_ops.specs.declared.stepper.Held.{Held}
use Rattle.arc_ops.specs.declared.stepper.Doing.TheVariants.{Making, Gaining, Naming, Dropping, Vacating}

-- ---- an object is made

abbrev pub creation_from : Thread → ObjectName → Creation
creation_from t name = record { layout = t.layout; name = name; immortal = (class_at t.shape name.class).immortal; at = search.Start }

abbrev pub make_asks : ℕ → ObjectName → Creation → Next NewObjectAnswer → Thread → Thread
make_asks to name plan (nexts.Step s) t = asking (Making to name plan) s (intents.New name.class) t
make_asks to name plan (nexts.Done a) t = t

abbrev pub make_begun_as : ℕ → ObjectName → Thread → Thread
make_begun_as to name t =
    make_asks to name (creation_turned (creation_from t name) None) (creation_answer (creation_from t name) None) t

abbrev pub make_begun : ℕ → ℕ → Thread → Thread
make_begun to class t = make_begun_as to (record { class = class; thread = t.thread; number = t.made + 1 }) t

-- ---- a reference is gained

-- the operation, for these variables
abbrev pub op_of : Gain → (to of : ℕ) → Op
op_of gains.Copy to of = op.Copy to of
op_of gains.Unown to of = op.Unown to of
op_of gains.Load to of = op.Load to of

-- a reference in the thread's hands, as what a gain takes from
abbrev pub of_hand : Held → Source
of_hand held = record { origin = Hand held.hand; kind = held.kind; place = held.place }

-- the hand; a cell has none
abbrev pub hand_of : Origin → ℕ
hand_of (Hand hand) = hand
hand_of (Cell cell) = 0

-- the list of the object that grows, which is the kind of the new reference
abbrev pub list_of : Gain → Source → Kind
list_of gains.Copy from = from.kind
list_of gains.Unown from = Unowned
list_of gains.Load from = Strong

-- what the steps are made for
abbrev pub intent_of : Gain → Source → Intent
intent_of gains.Copy from = intents.Copy from.origin
intent_of gains.Unown from = intents.UnownedOf (hand_of from.origin)
intent_of gains.Load from = intents.Load (hand_of from.origin)

-- what it does, where the reference comes into this hand
abbrev pub act_of : Gain → Source → (hand : ℕ) → Act
act_of gains.Copy from hand = acts.Copy from.origin hand
act_of gains.Unown from hand = acts.UnownedOf (hand_of from.origin) hand
act_of gains.Load from hand = acts.Load (hand_of from.origin) (gots.Hand hand)

abbrev pub gain_from : Gain → Source → Thread → Rise
gain_from gain from t = record { layout = t.layout; slot = from.place; list = list_of gain from; caps = t.shape.caps; entry = None; at = attempt.Start }

abbrev pub gain_asks : Gain → ℕ → Source → Rise → Next UpAnswer → Thread → Thread
gain_asks gain to from plan (nexts.Step s) t = asking (Gaining gain to from plan) s (intent_of gain from) t
gain_asks gain to from plan (nexts.Done a) t = t

abbrev pub gain_begun : Gain → ℕ → Source → Thread → Thread
gain_begun gain to from t = gain_asks gain to from (up_turned (gain_from gain from t) None) (up_answer (gain_from gain from t) None) t

-- ---- the name of the object is read that a reference was loaded of

abbrev pub name_from : Held → Thread → OneStep
name_from held t = record { layout = t.layout; slot = held.place; at = once.Start }

abbrev pub name_asks : ℕ → Held → OneStep → Next ObjectName → Thread → Thread
name_asks to held plan (nexts.Step s) t = asking (Naming to held plan) s intents.Look t
name_asks to held plan (nexts.Done name) t = t

abbrev pub name_begun : ℕ → Held → Thread → Thread
name_begun to held t = name_asks to held (one_turned (name_from held t) None) (name_of_answer (name_from held t) None) t

-- ---- a reference is given up

abbrev pub drop_from : Held → Thread → Fall
drop_from held t = record { layout = t.layout; slot = held.place; list = held.kind; entry = None; at = attempt.Start }

abbrev pub drop_asks : Held → Fall → Next DownAnswer → Thread → Thread
drop_asks held plan (nexts.Step s) t = asking (Dropping held plan) s (intents.Drop held.hand) t
drop_asks held plan (nexts.Done a) t = t

abbrev pub drop_begun : Held → Thread → Thread
drop_begun held t = drop_asks held (down_turned (drop_from held t) None) (down_answer (drop_from held t) None) t

-- ---- a slot ends

abbrev pub vacate_from : ℕ → Thread → OneStep
vacate_from slot t = record { layout = t.layout; slot = slot; at = once.Start }

abbrev pub vacate_asks : ℕ → OneStep → Next (Unit {0}) → Thread → Thread
vacate_asks slot plan (nexts.Step s) t = asking (Vacating slot plan) s intents.Vacate t
vacate_asks slot plan (nexts.Done a) t = t

abbrev pub vacate_begun : ℕ → Thread → Thread
vacate_begun slot t = vacate_asks slot (one_turned (vacate_from slot t) None) (vacate_answer (vacate_from slot t) None) t
