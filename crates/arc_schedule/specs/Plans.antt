-- Which steps a plan makes, and which events they have. Each relation goes from the steps made before to those made after, the newest first.
use Rattle.std.specs.Prelude.{ℕ, ◌≡◌, ◌==◌, if◌then◌else◌, is_some, Bool, true, false, List, ◌∷◌, Option, Some, None}
use Rattle.arc_model.specs.declared.event.Act.{Act}
use Rattle.arc_model.specs.declared.event.Act.TheVariants as acts
use Rattle.arc_model.specs.declared.event.CellName.{CellName}
use Rattle.arc_model.specs.declared.event.ObjectName.{ObjectName}
use Rattle.arc_model.specs.declared.shape.Kind.{Kind}
use Rattle.arc_model.specs.Shapes.{CapNumbers}
use Rattle.arc_rule.specs.Extents.{Extent}
use Rattle.arc_rule.specs.declared.step.Step.{Step}
use Rattle.arc_rule.specs.declared.plan.Next.{Next}
use Rattle.arc_rule.specs.declared.plan.Next.TheVariants as nexts
use Rattle.arc_rule.specs.declared.attempt.At.TheVariants as attempt
use Rattle.arc_plan.specs.declared.slots.Making.{Making}
use Rattle.arc_plan.specs.declared.slots.Making.TheVariants as makings
use Rattle.arc_plan.specs.declared.slots.Once.TheVariants as onces
use Rattle.arc_plan.specs.declared.slots.NewObjectAnswer.{NewObjectAnswer}
use Rattle.arc_plan.specs.declared.unowned.UnownedDownAnswer.{UnownedDownAnswer}
use Rattle.arc_plan.specs.declared.unowned.UnownedDownAnswer.TheVariants as unowneds
use Rattle.arc_plan.specs.Attempts.{Attempt}
use Rattle.arc_plan.specs.Slots.{Creation, OneStep, creation_turned, creation_answer, creation_change, one_turned, vacate_answer, name_of_answer}
use Rattle.arc_plan.specs.Unowned.{unowned_down_turned, unowned_down_answer, unowned_down_change}
use Rattle.arc_side.specs.declared.up.UpAnswer.{UpAnswer}
use Rattle.arc_side.specs.declared.up.UpAnswer.TheVariants as ups
use Rattle.arc_side.specs.declared.down.DownAnswer.{DownAnswer}
use Rattle.arc_side.specs.declared.down.DownAnswer.TheVariants as downs
use Rattle.arc_side.specs.Ups.{Rise, up_turned, up_answer, up_change}
use Rattle.arc_side.specs.Downs.{Fall, down_turned, down_answer, down_change}
use Rattle.arc_cells.specs.declared.begin.BeginAnswer.{BeginAnswer}
use Rattle.arc_cells.specs.declared.begin.BeginAnswer.TheVariants as begins
use Rattle.arc_cells.specs.declared.swap.SwapAnswer.{SwapAnswer}
use Rattle.arc_cells.specs.declared.swap.SwapAnswer.TheVariants as swaps
use Rattle.arc_cells.specs.Begins.{Beginning, begin_turned, begin_answer}
use Rattle.arc_cells.specs.Ends.{AccessEnd, end_turned, end_answer}
use Rattle.arc_cells.specs.Swaps.{SwapAttempt, swap_turned, swap_answer}
use Rattle.arc_ops.specs.Cells.{cell_number}
use Rattle.arc_schedule.specs.Made.{Point, Made, made_at}

-- A plan from its start: what it asks for or answers once it is given what its step before gave back, after which answers it is begun
-- anew, and which event the step has that it waits for, by the word that this one gives back.
pub record Plan (P A : Type 0) : Type 0 where
  pub start : P
  pub turned : P → Option ℕ → P
  pub answer : P → Option ℕ → Next A
  pub anew : A → Bool
  pub tells : P → ℕ → Option Act

-- The plan, from its start, has made the steps behind b, and is given what the last of them gave back.
pub data Reaches {P A : Type 0} (plan : Plan P A) (point : Point) (b : List Made) : P → Option ℕ → List Made → Type 0 where
  starts : Reaches plan point b plan.start None b
  makes : {p : P} {last : Option ℕ} {ns : List Made} {step : Step} {found : ℕ} →
      Reaches plan point b p last ns → plan.answer p last ≡ nexts.Step step →
      Reaches plan point b (plan.turned p last) (Some found) (made_at point step found (plan.tells (plan.turned p last) found) ∷ ns)

-- from its start it makes the steps behind b and gives this answer
pub record Answers {P A : Type 0} (plan : Plan P A) (point : Point) (b : List Made) (a : A) (after : List Made) : Type 0 where
  pub at : P
  pub last : Option ℕ
  pub reaches : Reaches plan point b at last after
  pub answers : plan.answer at last ≡ nexts.Done a

-- it is started, and again as often as it gives an answer after which it is begun anew
pub data Starts {P A : Type 0} (plan : Plan P A) (point : Point) (b : List Made) : List Made → Type 0 where
  first : Starts plan point b b
  again : {a : A} {ns after : List Made} → Starts plan point b ns → Answers plan point ns a after → plan.anew a ≡ true → Starts plan point b after

-- it comes to an answer in the end
pub record Gives {P A : Type 0} (plan : Plan P A) (point : Point) (b : List Made) (a : A) (after : List Made) : Type 0 where
  pub started : List Made
  pub starts : Starts plan point b started
  pub answers : Answers plan point started a after
  pub ends : plan.anew a ≡ false

-- ---- the plans

-- a step has an event where the plan answers after it, by the answer
abbrev pub told_by : {A : Type 0} → (A → Option Act) → Next A → Option Act
told_by told (nexts.Step s) = None
told_by told (nexts.Done a) = told a

-- the Or that finds the slot's bit clear makes the object, and the load that finds the last word full tells that no slot is free
abbrev pub making_told : (hand class : ℕ) → Making → Next NewObjectAnswer → Option Act
making_told hand class (makings.Taking slot seen) (nexts.Step s) = Some (acts.New hand class slot)
making_told hand class (makings.Looking word) (nexts.Done a) = Some acts.Full
making_told hand class _ _ = None

-- the object comes into the hand
abbrev pub new_object : Extent → (immortal : Bool) → ObjectName → (hand : ℕ) → Plan Creation NewObjectAnswer
new_object l immortal name hand = record {
  start = record { layout = l; name = name; immortal = immortal; at = makings.Start };
  turned = creation_turned;
  answer = creation_answer;
  anew = λ a. is_some (creation_change a);
  tells = λ p found. making_told hand name.class p.at (creation_answer p (Some found));
}

-- which events an operation has whose reference is one more in a list: that it is there, and that the object is dead
pub record Rises : Type 0 where
  pub got : Option Act
  pub dead : Option Act

abbrev pub up_told : Rises → UpAnswer → Option Act
up_told acts ups.Up = acts.got
up_told acts ups.Dead = acts.dead
up_told acts _ = None

-- one reference more in the list of the object in the slot, wherever it is counted
abbrev pub up : Extent → CapNumbers → (list : Kind) → (slot : ℕ) → Rises → Plan Rise UpAnswer
up l caps list slot acts = record {
  start = record { layout = l; slot = slot; list = list; caps = caps; entry = None; at = attempt.Start };
  turned = up_turned;
  answer = up_answer;
  anew = λ a. is_some (up_change a);
  tells = λ p found. told_by (up_told acts) (up_answer p (Some found));
}

abbrev pub down_told : (hand : ℕ) → DownAnswer → Option Act
down_told hand (downs.More entry) = Some (acts.Drop hand false)
down_told hand (downs.Last entry) = Some (acts.Drop hand true)
down_told hand (downs.Again changed) = None

-- one reference fewer in the list of the object in the slot, wherever it is counted: the hand gives its own up
abbrev pub down : Extent → (list : Kind) → (slot hand : ℕ) → Plan Fall DownAnswer
down l list slot hand = record {
  start = record { layout = l; slot = slot; list = list; entry = None; at = attempt.Start };
  turned = down_turned;
  answer = down_answer;
  anew = λ a. is_some (down_change a);
  tells = λ p found. told_by (down_told hand) (down_answer p (Some found));
}

-- the name of the object in the slot
abbrev pub name_of : Extent → (slot : ℕ) → Plan OneStep ObjectName
name_of l slot = record {
  start = record { layout = l; slot = slot; at = onces.Start };
  turned = one_turned;
  answer = name_of_answer;
  anew = λ a. false;
  tells = λ p found. None;
}

abbrev pub finish_told : (slot : ℕ) → UnownedDownAnswer → Option Act
finish_told slot unowneds.More = Some (acts.Finish slot false)
finish_told slot unowneds.Last = Some (acts.Finish slot true)
finish_told slot _ = None

-- the end of a deinit: one unowned reference fewer, the one that stands for the strong ones
abbrev pub finish : Extent → (slot : ℕ) → Plan Attempt UnownedDownAnswer
finish l slot = record {
  start = record { layout = l; slot = slot; at = attempt.Start };
  turned = unowned_down_turned;
  answer = unowned_down_answer;
  anew = λ a. is_some (unowned_down_change a);
  tells = λ p found. told_by (finish_told slot) (unowned_down_answer p (Some found));
}

abbrev pub vacate_told : (slot : ℕ) → Unit {0} → Option Act
vacate_told slot done = Some (acts.Vacate slot)

-- the slot is free again
abbrev pub vacate : Extent → (slot : ℕ) → Plan OneStep (Unit {0})
vacate l slot = record {
  start = record { layout = l; slot = slot; at = onces.Start };
  turned = one_turned;
  answer = vacate_answer;
  anew = λ a. false;
  tells = λ p found. told_by (vacate_told slot) (vacate_answer p (Some found));
}

-- ---- the plans of cells, globals and fields

-- the load that finds nil has the event
abbrev pub begin_told : CellName → BeginAnswer → Option Act
begin_told cell begins.Nil = Some (acts.Look cell)
begin_told cell _ = None

-- another access is under way, or the word has changed
abbrev pub begin_anew : BeginAnswer → Bool
begin_anew begins.Busy = true
begin_anew (begins.Again changed) = true
begin_anew _ = false

-- an access to the cell begins, where it isn't nil
abbrev pub begin_access : Extent → CellName → Plan Beginning BeginAnswer
begin_access l cell = record {
  start = record { layout = l; place = cell_number l cell; at = attempt.Start };
  turned = begin_turned;
  answer = begin_answer;
  anew = begin_anew;
  tells = λ p found. told_by (begin_told cell) (begin_answer p (Some found));
}

-- and ends: the cell has this word again
abbrev pub end_access : Extent → CellName → (word : ℕ) → Plan AccessEnd (Unit {0})
end_access l cell word = record {
  start = record { layout = l; place = cell_number l cell; value = word; at = onces.Start };
  turned = end_turned;
  answer = end_answer;
  anew = λ a. false;
  tells = λ p found. None;
}

-- the hand that a reference comes into which the word stands for; 0 stands for none
abbrev pub hand_for : (hand word : ℕ) → Option ℕ
hand_for hand word = if word == 0 then None else Some hand

abbrev pub swap_told : CellName → (put : Option ℕ) (hand : ℕ) → SwapAnswer → Option Act
swap_told cell put hand (swaps.Took word) = Some (acts.Swap cell put (hand_for hand word))
swap_told cell put hand _ = None

-- an access is under way, or the word has changed
abbrev pub swap_anew : SwapAnswer → Bool
swap_anew swaps.Busy = true
swap_anew (swaps.Again changed) = true
swap_anew (swaps.Took word) = false

-- the word comes into the cell, and what was there into the hand
abbrev pub swap : Extent → CellName → (new : ℕ) → (put : Option ℕ) → (hand : ℕ) → Plan SwapAttempt SwapAnswer
swap l cell new put hand = record {
  start = record { layout = l; place = cell_number l cell; new = new; at = attempt.Start };
  turned = swap_turned;
  answer = swap_answer;
  anew = swap_anew;
  tells = λ p found. told_by (swap_told cell put hand) (swap_answer p (Some found));
}
