-- Where a thread's hands stand after its own event.
use Rattle.std.specs.Prelude.{ℕ, Bool, if◌then◌else◌, ◌∷◌, ◌++◌, Option, None, Some, ◌≡◌}
use Rattle.arc_model.specs.declared.event.Act.{Act}
use Rattle.arc_model.specs.declared.event.Event.{Event}
use Rattle.arc_model.specs.Shapes.{HeapShape}
use Rattle.arc_model.specs.Heaps.{Hand, Duty, Heap}
use Rattle.arc_model.specs.Holders.{is_number, is_claimed_by}
use Rattle.arc_model.specs.History.{History, heap_after, IsLegal}
use Rattle.arc_model.specs.Lookup.{Spot, spot, duty_of}
use Rattle.arc_model.specs.Others.{IsUntouched}
use Rattle.arc_model.specs.Own.{brings_hand, ends_hand, brought, owed_next, claimed_next}
use Rattle.arc_rule.specs.declared.step.Step.{Step}
use Rattle.arc_rule.specs.declared.step.Intent.{Intent}
use Rattle.arc_view.specs.declared.view.View.{View}
use Rattle.arc_view.specs.Holding.{heap_of}
use Rattle.arc_view.specs.Views.{StartsWith}
use Rattle.arc_view.specs.Kinds.{act_of, event_list}
use Rattle.arc_view.specs.Steps.{Told}

-- where hand k of p stands after an act of p: the one that it ends is nowhere, the one that it brings stands where its source stood, and each
-- other one stands where it stood
abbrev pub hand_next : ℕ → Act → ℕ → Heap → Option Spot
hand_next p act k heap = if ends_hand k act then None else if is_number (brings_hand act) k then brought heap p act else spot (Hand p k) heap

-- A thread's event gives it the hand that it brings, takes the one that it ends, and changes no other: one that was nowhere stays nowhere.
abbrev pub OwnHands : Type 0
OwnHands = (shape : HeapShape) (h : History) (e : Event) (k : ℕ) → IsLegal shape (e ∷ h) → spot (Hand e.thread k) (heap_after (e ∷ h)) ≡ hand_next e.thread e.act k (heap_after h)

-- the same after the act of a step that met this heap, by the heap that had been seen: what other threads did since has changed no hand of p
abbrev pub hand_after : ℕ → Option Act → ℕ → Heap → Heap → Option Spot
hand_after p None k met seen = spot (Hand p k) seen
hand_after p (Some a) k met seen = if ends_hand k a then None else if is_number (brings_hand a) k then brought met p a else spot (Hand p k) seen

-- where each hand of a pass stands after a step
abbrev pub HandsTold : Type 0
HandsTold = (shape : HeapShape) (intent : Intent) (st : Step) (v : View) (found : ℕ) (w : View) (t : Told shape intent st v found w) (k : ℕ) →
    spot (Hand v.number k) (heap_of w) ≡ hand_after v.number (act_of shape v st intent found) k (heap_after (t.between ++ v.seen)) (heap_of v)

-- what p owes to the i-th object after an act that met this heap, or after none: what other threads did has changed no duty of p
abbrev pub owed_after : ℕ → Option Act → ℕ → Heap → Heap → Option Duty
owed_after p None i met seen = duty_of p i seen
owed_after p (Some a) i met seen = owed_next p a i met

-- whether p has claimed entry e then
abbrev pub claimed_after : ℕ → Option Act → ℕ → Heap → Heap → Bool
claimed_after p None e met seen = is_claimed_by p e seen
claimed_after p (Some a) e met seen = claimed_next p a e met

-- What a pass has after a call with this act, or with none, both ways: each hand, duty and claim is as the act makes it, and else as it was. The
-- act met the history `met`, which goes on from what the pass had seen, and after which it had what it had before the call.
pub record Moves (act : Option Act) (v w : View) : Type 0 where
  pub met : History
  pub begins : StartsWith met v.seen
  pub follows : StartsWith w.seen (event_list v.number act ++ met)
  pub had : IsUntouched v.number (heap_of v) (heap_after met)
  pub hands : (k : ℕ) → spot (Hand w.number k) (heap_of w) ≡ hand_after v.number act k (heap_after met) (heap_of v)
  pub duties : (i : ℕ) → duty_of w.number i (heap_of w) ≡ owed_after v.number act i (heap_after met) (heap_of v)
  pub claims : (e : ℕ) → is_claimed_by w.number e (heap_of w) ≡ claimed_after v.number act e (heap_after met) (heap_of v)
