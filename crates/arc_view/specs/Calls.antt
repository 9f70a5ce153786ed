-- What a call tells of the views before and after.
use Rattle.std.specs.Prelude.{ℕ, ◌≡◌, ◌+◌, ◌≤◌, true, List, ◌∷◌, ◌++◌, map, length}
use Rattle.arc_model.specs.declared.event.Act.{Act}
use Rattle.arc_model.specs.Shapes.{HeapShape}
use Rattle.arc_model.specs.History.{History, share, IsLegal}
use Rattle.arc_view.specs.declared.view.View.{View}
use Rattle.arc_view.specs.Views.{StartsWith, within}
use Rattle.arc_view.specs.Rule.{InShape}

-- these acts as events of thread p; the newest stand first
abbrev pub events_by : ℕ → List Act → History
events_by p acts = map (λ a. record { thread = p; act = a }) acts

-- What had been seen begins what is seen, and the thread made just these events since, each once, in at most this many steps.
pub record Grew (acts : List Act) (most : ℕ) (v w : View) : Type 0 where
  pub begins : StartsWith w.seen v.seen
  pub made : share w.seen v.number ≡ events_by v.number acts ++ share v.seen v.number
  pub steps : length w.trail ≤ length v.trail + most
  pub number : w.number ≡ v.number
  pub role : w.role ≡ v.role
  pub splits : w.splits ≡ v.splits
  pub taken : w.taken ≡ v.taken
  pub gone : (p : ℕ) → within p v.taken ≡ true → share w.seen p ≡ share v.seen p

-- the same, and what is seen is legal and in the shape
pub record Called (shape : HeapShape) (acts : List Act) (most : ℕ) (v w : View) : Type 0 where
  pub grew : Grew acts most v w
  pub legal : IsLegal shape w.seen
  pub in_shape : InShape shape w.seen

-- A pass took in another: its own share grew by nothing, and the whole share of the other stands in what is seen.
pub record Took (shape : HeapShape) (v u w : View) : Type 0 where
  pub begins : StartsWith w.seen v.seen
  pub takes : StartsWith w.seen u.seen
  pub own : share w.seen v.number ≡ share v.seen v.number
  pub other : share w.seen u.number ≡ share u.seen u.number
  pub steps : length w.trail ≤ length v.trail + 2
  pub number : w.number ≡ v.number
  pub splits : w.splits ≡ v.splits
  pub taken : w.taken ≡ u.number ∷ v.taken
  pub gone : (p : ℕ) → within p v.taken ≡ true → share w.seen p ≡ share v.seen p
  pub legal : IsLegal shape w.seen
  pub in_shape : InShape shape w.seen
