-- A call of two parts: the first makes no event, and what the second tells is what the call tells.
use Rattle.std.proofs.Common.{ℕ, ◌+◌, ◌≤◌, List, [], ◌∷◌, ◌++◌, Option, None, Some, ap, ◌∙◌, sym, subst, append_assoc}
use Rattle.std.proofs.lemmas.List.{append-nil}
use Rattle.arc_model.specs.declared.event.Act.{Act}
use Rattle.arc_model.specs.declared.event.Act.TheVariants as acts
use Rattle.arc_model.specs.declared.event.Origin.TheVariants as origins
use Rattle.arc_model.specs.Shapes.{HeapShape}
use Rattle.arc_model.specs.History.{next_hand}
use Rattle.arc_rule.specs.declared.step.Changed.{Changed}
use Rattle.arc_rule.specs.declared.layout.Place.TheVariants as places
use Rattle.arc_rule.specs.Places.{extent_of, number}
use Rattle.arc_view.specs.declared.view.View.{View}
use Rattle.arc_view.specs.Calls.{Grew, Called}
use Rattle.arc_table.specs.declared.tokens.Strong.{Strong as Token}
use Rattle.arc_table.specs.Causes.{ReadTwice, Loaded, LoadedFull, HasEntry, ChangedCount, IsMortal, IsLookOfImmortal}
use Rattle.arc_model.proofs.Basics.{true≢false}
use Rattle.arc_table.specs.Causes.ChangedCount.{in_entry}
use Rattle.arc_table.specs.Runs.{Walked}
use Rattle.arc_table.specs.declared.heap.Part.{Part}
use Rattle.arc_table.specs.declared.strong.Raised.TheVariants as raised
use Rattle.arc_table.specs.Seats.{part_view}
use Rattle.arc_table.specs.Calls.{act_list, works_after, GoesOn, IsCall}
use Rattle.arc_table.specs.Tokens.{hand_of, IsHeld, raised_act}
use Rattle.arc_view_laws.specs.Having.{StandsAs}
use Rattle.arc_table.proofs.Making.{grew_on, grew_most, next_none}

pub called_most : (shape : HeapShape) (xs : List Act) (m n : ℕ) (v w : View) → m ≤ n → Called shape xs m v w → Called shape xs n v w
called_most shape xs m n v w le c = record { grew = grew_most xs m n v w le c.grew; legal = c.legal; in_shape = c.in_shape }

pub called_on : (shape : HeapShape) (xs : List Act) (m n : ℕ) (v u w : View) → Called shape [] m v u → Called shape xs n u w → Called shape xs (m + n) v w
called_on shape xs m n v u w c d = record { grew = subst (λ l. Grew l (m + n) v w) (append-nil xs) (grew_on [] xs m n v u w c.grew d.grew); legal = d.legal; in_shape = d.in_shape }

-- a reference that the first part keeps is a token of the pass for the second
pub held_on : (shape : HeapShape) (v u : View) (t : Token) → StandsAs v (hand_of t) u (hand_of t) → IsHeld shape v t → IsHeld shape u t
held_on shape v u t stands held = (held.0, (held.1.0, stands t.slot held.1.0 held.1.1))

loaded_on : (place word : ℕ) (v u w : View) → Walked v u → Loaded place word u w → Loaded place word v w
loaded_on place word v u w first l = record {
  mark = l.mark;
  before = l.before ++ first.marks;
  trail = l.trail ∙ ap (λ ms. l.mark ∷ ms) (ap (λ ms. l.before ++ ms) first.trail ∙ sym (append_assoc l.before first.marks v.trail));
  loads = l.loads;
  found = l.found;
}

pub read_on : (place : ℕ) (c : Changed) (v u w : View) → Walked v u → ReadTwice place c u w → ReadTwice place c v w
read_on place c v u w first r = record {
  first = r.first;
  second = r.second;
  before = r.before ++ first.marks;
  new = r.new;
  trail = r.trail ∙ ap (λ ms. r.second ∷ r.first ∷ ms) (ap (λ ms. r.before ++ ms) first.trail ∙ sym (append_assoc r.before first.marks v.trail));
  loads = r.loads;
  seen = r.seen;
  exchanges = r.exchanges;
  found = r.found;
  differ = r.differ;
}

-- a call of fewer steps, and one of two parts of which the first makes no act
pub goes_most : (shape : HeapShape) (act : Option Act) (m n : ℕ) (v w : View) → m ≤ n → GoesOn shape act m v w → GoesOn shape act n v w
goes_most shape act m n v w le g = record { called = called_most shape (act_list act) m n v w le g.called; working = g.working; alone = g.alone }

pub goes_two : (shape : HeapShape) (act : Option Act) (m n : ℕ) (v u w : View) → GoesOn shape None m v u → GoesOn shape act n u w → GoesOn shape act (m + n) v w
goes_two shape act m n v u w first second = record {
  called = called_on shape (act_list act) m n v u w first.called second.called;
  working = second.working ∙ ap (works_after shape act) first.working;
  alone = second.alone;
}

-- the same of a pass
pub call_most : (shape : HeapShape) (act : Option Act) (m n : ℕ) (p q : Part) → m ≤ n → IsCall shape act m p q → IsCall shape act n p q
call_most shape act m n p q le c = (c.0, goes_most shape act m n (part_view p) (part_view q) le c.1)

pub call_two : (shape : HeapShape) (act : Option Act) (m n : ℕ) (p r q : Part) → IsCall shape None m p r → IsCall shape act n r q → IsCall shape act (m + n) p q
call_two shape act m n p r q first second = (second.0 ∙ first.0, goes_two shape act m n (part_view p) (part_view r) (part_view q) first.1 second.1)

-- the second part copies the hand
pub copied_call : (shape : HeapShape) (k : ℕ) (p r q : Part) → IsCall shape None 1 p r → IsCall shape (raised_act k (part_view r) raised.Up) 2 r q → IsCall shape (raised_act k (part_view p) raised.Up) 3 p q
copied_call shape k p r q first second = subst (λ n. IsCall shape (Some (acts.Copy (origins.Hand k) n)) 3 p q) (next_none 1 (part_view p) (part_view r) first.1.called.grew) (call_two shape (raised_act k (part_view r) raised.Up) 1 2 p r q first second)

pub copied_stands : (k : ℕ) (n : ℕ) (v u w : View) → Grew [] n v u → StandsAs v k u k → StandsAs u k w (next_hand u.number u.seen) → StandsAs v k w (next_hand v.number v.seen)
copied_stands k n v u w g kept stands = subst (StandsAs v k w) (next_none n v u g) (λ s class h. stands s class (kept s class h))

module _ (shape : HeapShape) (k s e : ℕ) (v u w : View) (walked : Walked v u) where
  -- it finds the strong count of the entry at its greatest
  pub full_on : HasEntry w k e × Loaded (number (extent_of shape) (places.Strong e)) shape.caps.wide u w → LoadedFull shape k v w
  full_on c = record { entry = e; has = c.0; loaded = loaded_on (number (extent_of shape) (places.Strong e)) shape.caps.wide v u w walked c.1 }

  -- it finds that count changed
  pub changed_on : (c : Changed) → HasEntry w k e × ReadTwice (number (extent_of shape) (places.Strong e)) c u w → ChangedCount shape k s c v w
  changed_on c d = in_entry e d.0 (read_on (number (extent_of shape) (places.Strong e)) c v u w walked d.1)

-- what isn't immortal is looked at as often as need be
pub not_immortal : (shape : HeapShape) (k s : ℕ) (v w : View) → IsMortal shape v k s → IsLookOfImmortal shape k s v w
not_immortal shape k s v w mortal class strong lasts = absurd (true≢false (sym lasts ∙ mortal class strong))
