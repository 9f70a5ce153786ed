-- The view after a step, and what the step tells.
use Rattle.std.specs.Prelude.{ℕ, ◌≡◌, ◌≢◌, ◌<◌, ◌≤◌, ◌⊎◌, true, false, [], ◌∷◌, ◌++◌, length, slice_index, Some, ⊤}
use mathlib.Core.Option.{some}
use lib.ListN.{get_elem?}
use Rattle.atomic_table.specs.Table.{State, Me, keeps, stepped}
use Rattle.arc_model.specs.declared.event.CellName.{CellName}
use Rattle.arc_model.specs.declared.event.Origin.TheVariants as origins
use Rattle.arc_model.specs.Shapes.{HeapShape}
use Rattle.arc_model.specs.History.{History, heap_after, share, IsLegal}
use Rattle.arc_rule.specs.declared.step.Step.{Step}
use Rattle.arc_rule.specs.declared.step.Step.TheVariants.{Load, Exchange, Store, Or, And}
use Rattle.arc_rule.specs.declared.step.Intent.{Intent}
use Rattle.arc_rule.specs.declared.layout.Place.{Place}
use Rattle.arc_rule.specs.declared.layout.Place.TheVariants.{Global, Field}
use Rattle.arc_rule.specs.Places.{IsPlace, extent_of, number}
use Rattle.arc_rule.specs.Shown.{Says}
use Rattle.arc_rule.specs.Steps.{place_of}
use Rattle.arc_view.specs.declared.view.Begun.{Begun}
use Rattle.arc_view.specs.declared.view.Old.{Old}
use Rattle.arc_view.specs.declared.view.Stored.{Stored}
use Rattle.arc_view.specs.declared.view.Working.{Working}
use Rattle.arc_view.specs.declared.view.View.{View}
use Rattle.arc_view.specs.Views.{StartsWith, Each, within, made_in, cell_place, private_words}
use Rattle.arc_view.specs.Holding.{IsOpen, CanReach}
use Rattle.arc_view.specs.Rule.{InShape, CellStays, IsKept}
use Rattle.arc_view.specs.Kinds.{act_of, event_list, working_after}

-- a step that gives back the word that it found; a store gives back 0
abbrev pub Reads : Step → Type 0
Reads (Load place) = ⊤
Reads (Exchange place old new) = ⊤
Reads (Store place new) = ⊥
Reads (Or place bits) = ⊤
Reads (And place bits) = ⊤

abbrev pub given_back : Step → ℕ → ℕ
given_back (Load place) found = found
given_back (Exchange place old new) found = found
given_back (Store place new) found = 0
given_back (Or place bits) found = found
given_back (And place bits) found = found

-- the view after a step that met the history h, whose own event made it `after`. Its mark has the length before the event
abbrev pub moved : View → History → History → Step → ℕ → Working → View
moved v h after st found working = record {
  number = v.number;
  role = v.role;
  seen = after;
  trail = record { step = st; found = found; length = length h; made = made_in v.number h } ∷ v.trail;
  splits = v.splits;
  taken = v.taken;
  olds = [];
  working = working;
}

-- what was seen before a join begins the history, and has all events of its threads
abbrev pub Stands : History → Old → Type 0
Stands h o = StartsWith h o.seen × ((p : ℕ) → within p o.of ≡ true → share h p ≡ share o.seen p)

-- The heap doesn't settle the word: a cell is busy.
abbrev pub IsUnsettled : Place → ℕ → Type 0
IsUnsettled (Global g) found = found ≡ 1
IsUnsettled (Field s f) found = found ≡ 1
IsUnsettled _ found = ⊥

-- the word at a place is what the view has stored there and keeps private
abbrev pub IsKeptAt : HeapShape → Place → ℕ → Stored → Type 0
IsKeptAt shape pl found k = number (extent_of shape) k.place ≡ number (extent_of shape) pl → found ≡ k.word

-- another pass, which the view hasn't taken in; where the view is the first pass's, it has split it off
abbrev pub IsOther : View → ℕ → Type 0
IsOther v q = (q ≢ v.number) × (within q v.taken ≡ false) × (v.number ≡ 0 → q ≤ v.splits)

-- a busy cell is accessed by the view itself or by another pass; either reaches it, a field by a strong hand of its owner
abbrev pub IsHeld : HeapShape → View → History → CellName → Type 0
IsHeld shape v h c = (q : ℕ) × (((q ≡ v.number) × IsOpen v (origins.Cell c)) ⊎ IsOther v q) × CanReach shape (heap_after h) q c

-- what a step of the view v shows of the word that it finds at a place, where h was the history before its own event
pub record IsRead (shape : HeapShape) (v : View) (h : History) (pl : Place) (found : ℕ) : Type 0 where
  pub says : (IsUnsettled pl found → ⊥) → Says shape (heap_after h) pl found
  pub private : Each (IsKeptAt shape pl found) (private_words v.working)
  -- a cell is read as busy only while it is accessed, and always where the view itself accesses it
  pub busy : (c : CellName) → pl ≡ cell_place c → found ≡ 1 → IsHeld shape v h c
  pub own : (c : CellName) → pl ≡ cell_place c → IsOpen v (origins.Cell c) → found ≡ 1

-- What a step tells: other threads' events came between, and then the step's own. What is seen is legal, and in the shape, as it was before the
-- step's own event. The word that is given back is one that the heap before that event allows.
pub record Told (shape : HeapShape) (intent : Intent) (st : Step) (v : View) (found : ℕ) (w : View) : Type 0 where
  pub between : History
  pub others : share between v.number ≡ []
  pub gone : (p : ℕ) → within p v.taken ≡ true → (p ≢ v.number) × (share between p ≡ [])
  pub legal : IsLegal shape w.seen
  pub in_shape : InShape shape w.seen
  pub met_in_shape : InShape shape (between ++ v.seen)
  pub after : w ≡ moved v (between ++ v.seen) (event_list v.number (act_of shape v st intent found) ++ (between ++ v.seen)) st found (working_after shape v st intent found)
  pub read : (pl : Place) → Reads st → IsPlace (extent_of shape) pl → place_of st ≡ number (extent_of shape) pl → IsRead shape v (between ++ v.seen) pl found
  pub olds : Each (Stands (between ++ v.seen)) v.olds
  -- the cell that the view accesses has stayed, so that it refers to what it did
  pub accessed : (a : Begun) → v.working.access ≡ Some a → CellStays (between ++ v.seen) v.seen a.cell
  -- a number that the first pass hasn't given to any pass has no event
  pub strange : v.number ≡ 0 → (p : ℕ) → v.splits < p → share (between ++ v.seen) p ≡ []

-- the same for a seat, which holds no slot of the table
abbrev pub Tells : {S : Type 0} → HeapShape → Intent → Step → Me S View → ℕ → Me S View → Type 0
Tells shape intent st me found me' = (me'.1 ≡ me.1) × Told shape intent st me.0 (given_back st found) me'.0

-- The table after a step of the seat that made f of the word at its place, where the history was `log`: the rule holds, the history has the step's
-- event more and nothing else, and the step tells.
pub record Stepped {S : Type 0} (shape : HeapShape) (s : State S View) (log : History) (id : ℕ) (me : Me S View) (intent : Intent) (st : Step) (f : ℕ → ℕ) : Type 0 where
  pub view : View
  pub kept : IsKept shape (stepped s (place_of st) (f (slice_index s.words (place_of st))) id me.1 view keeps)
  pub log_is : kept.log ≡ event_list me.0.number (act_of shape me.0 st intent (given_back st (slice_index s.words (place_of st)))) ++ log
  pub told : Told shape intent st me.0 (given_back st (slice_index s.words (place_of st))) view

-- a step that keeps the rule, whatever the table is
abbrev pub KeepsRule : {S : Type 0} → HeapShape → ℕ → Me S View → Intent → Step → (ℕ → ℕ) → Type 0
KeepsRule {S} shape id me intent st f = (s : State S View) (k : IsKept shape s) → get_elem? s.views id ≡ some me.0 → Stepped shape s k.log id me intent st f
