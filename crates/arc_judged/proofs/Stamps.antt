-- The events of a replay's stages: the numbers of their steps, and what they name.
use Rattle.std.proofs.Common.{◌≡◌, ℕ, ◌+◌, ◌≤◌, List, [], ◌∷◌, Option, Some, None, subst, arith}
use Rattle.std.specs.List.{AllByRecursion}
use Rattle.arc_model.specs.declared.event.Act.{Act}
use Rattle.arc_model.specs.declared.event.Event.{Event}
use Rattle.arc_model.specs.Shapes.{HeapShape}
use Rattle.arc_model.specs.History.{next_hand, IsLegal}
use Rattle.arc_rule.specs.Steps.{found_by}
use Rattle.arc_rule.specs.declared.step.Step.{Step}
use Rattle.arc_script.specs.declared.script.Script.{Script}
use Rattle.arc_script.specs.Valid.{IsScript}
use Rattle.arc_view.specs.Rule.{InShape}
use Rattle.arc_ops.specs.declared.told.Stamped.{Stamped}
use Rattle.arc_served.specs.Served.{IsServed}
use Rattle.arc_ops.specs.Thread.{Thread}
use Rattle.arc_ops.specs.Turns.{turned}
use Rattle.arc_replays.specs.Stages.{Stage, Reached, stamped, stepped, chains_at}
use Rattle.arc_replays.specs.Stages.Reached.{new, begins, makes, passes, inside, ends_it, outside, by_number, last, last_step}
use Rattle.arc_replays.specs.Histories.{history_of}
use Rattle.arc_replays.proofs.Holds.{Holds, reached_holds}
use Rattle.arc_judged.proofs.Slots.{SlotWithin, slot_within}
use Rattle.arc_judged.proofs.Hands.{HandsWithin, hands_within}

-- the number of an event's step, and the slot and the hands that it names
pub record StampWithin (slots steps : ℕ) (s : Stamped) : Type 0 where
  pub step : s.step ≤ steps
  pub slot : SlotWithin slots s.event.act
  pub hands : HandsWithin 200067 s.event.act

-- what is known of the history of each stage
pub record IsSound (shape : HeapShape) (events : List Stamped) : Type 0 where
  pub legal : IsLegal shape (history_of events)
  pub in_shape : InShape shape (history_of events)
  pub few : (p : ℕ) → next_hand p (history_of events) ≤ 200067

stages_sound : (script : Script) → IsScript script → IsServed script → (n : ℕ) (s : Stage) → Reached script n s → IsSound script.shape s.events
stages_sound script valid served n s r =
    let holds : Holds script (λ k. None) (chains_at r) s = reached_holds script (λ k. None) valid served n s r in
    record {
      legal = subst (IsLegal script.shape) holds.replaying.log_is holds.replaying.kept.legal;
      in_shape = subst (InShape script.shape) holds.replaying.log_is holds.replaying.kept.in_shape;
      few = holds.few;
    }

more_steps : (slots steps : ℕ) (events : List Stamped) → AllByRecursion (StampWithin slots steps) events → AllByRecursion (StampWithin slots (steps + 1)) events
more_steps slots steps [] h = tt
more_steps slots steps (s ∷ events) h = (record { step = let few = h.0.step in omega arith; slot = h.0.slot; hands = h.0.hands }, more_steps slots steps events h.1)

event_stamped : (shape : HeapShape) (steps p : ℕ) (event : Option Act) (events : List Stamped) → IsSound shape events → IsSound shape (stamped (steps + 1) p event events) →
    AllByRecursion (StampWithin shape.slots steps) events → AllByRecursion (StampWithin shape.slots (steps + 1)) (stamped (steps + 1) p event events)
event_stamped shape steps p None events before after h = more_steps shape.slots steps events h
event_stamped shape steps p (Some act) events before after h =
    let one : Event = record { thread = p; act = act } in
    let stamp : StampWithin shape.slots (steps + 1) (record { step = steps + 1; event = one }) = record {
      step = omega arith;
      slot = slot_within shape one (history_of events) after.legal before.in_shape after.in_shape;
      hands = hands_within shape 200067 one (history_of events) after.legal (before.few p);
    } in
    (stamp, more_steps shape.slots steps events h)

module _ (script : Script) (valid : IsScript script) (served : IsServed script) where
  sound : (n : ℕ) (s : Stage) → Reached script n s → IsSound script.shape s.events
  sound = stages_sound script valid served

  step_within : (s : Stage) (p : ℕ) (t : Thread) (step : Step) → IsSound script.shape s.events → IsSound script.shape (stepped p t step s).events →
      AllByRecursion (StampWithin script.shape.slots s.steps) s.events → AllByRecursion (StampWithin script.shape.slots (s.steps + 1)) (stepped p t step s).events
  step_within s p t step = event_stamped script.shape s.steps p (turned t (Some (found_by step s.words))).event s.events

  pub stage_within : (n : ℕ) (s : Stage) → Reached script n s → AllByRecursion (StampWithin script.shape.slots s.steps) s.events
  stage_within _ s new = tt
  stage_within _ s (begins {s = b} r none some takes) = stage_within 0 b r
  stage_within _ s (makes {s = b} {p = p} {places = places} {t = t} step intent r at own may) =
      step_within b p t step (sound 0 b r) (sound 0 s (makes step intent r at own may)) (stage_within 0 b r)
  stage_within _ s (passes {s = b} r at own there idle busy) = stage_within 0 b r
  stage_within _ s (inside {s = b} r none own first there within) = stage_within 0 b r
  stage_within _ s (ends_it {s = b} {p = p} {t = t} step intent r own may within) =
      step_within b p t step (sound p b r) (sound p s (ends_it step intent r own may within)) (stage_within p b r)
  stage_within _ s (outside {s = b} {p = p} r own there over) = stage_within p b r
  stage_within _ s (by_number {s = b} {p = p} {t = t} step intent r none own first alone may) =
      step_within b p t step (sound 0 b r) (sound 0 s (by_number step intent r none own first alone may)) (stage_within 0 b r)
  stage_within _ s (last {s = b} r none ended there waits takes) = stage_within 0 b r
  stage_within _ s (last_step {s = b} {t = t} step intent r may) = step_within b 0 t step (sound 0 b r) (sound 0 s (last_step step intent r may)) (stage_within 0 b r)
