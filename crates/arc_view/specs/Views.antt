-- What a view is at first, which words a view keeps private, and which words it makes other than the heap says.
use Rattle.std.specs.Prelude.{ℕ, ◌≡◌, ◌+◌, ◌*◌, ◌==◌, ◌||◌, Bool, false, if◌then◌else◌, List, [], ◌∷◌, ◌++◌, map, length, Option, None, Some, ⊤}
use Rattle.arc_model.specs.declared.event.CellName.{CellName}
use Rattle.arc_model.specs.declared.event.CellName.TheVariants as cells
use Rattle.arc_model.specs.Shapes.{HeapShape}
use Rattle.arc_model.specs.Heaps.{Object}
use Rattle.arc_model.specs.Cells.{is_immortal}
use Rattle.arc_model.specs.History.{History, share}
use Rattle.arc_rule.specs.declared.layout.Place.{Place}
use Rattle.arc_rule.specs.declared.layout.Place.TheVariants.{Global, Count, Isa, Next, Field}
use Rattle.arc_view.specs.declared.view.Role.TheVariants.{Pass, Spent}
use Rattle.arc_view.specs.declared.view.Stored.{Stored}
use Rattle.arc_view.specs.declared.view.Begun.{Begun}
use Rattle.arc_view.specs.declared.view.Parent.{Parent}
use Rattle.arc_view.specs.declared.view.Entered.{Entered}
use Rattle.arc_view.specs.declared.view.Naming.{Naming}
use Rattle.arc_view.specs.declared.view.Working.{Working}
use Rattle.arc_view.specs.declared.view.View.{View}

-- h goes on from what was seen
abbrev pub StartsWith : History → History → Type 0
StartsWith h seen = (rest : History) × (h ≡ rest ++ seen)

-- P holds of each element, by recursion
abbrev pub Each : {X : Type 0} → (X → Type 0) → List X → Type 0
Each P [] = ⊤
Each P (x ∷ xs) = P x × Each P xs

-- p is one of the numbers
abbrev pub within : ℕ → List ℕ → Bool
within p [] = false
within p (q ∷ qs) = p == q || within p qs

-- nothing under way
abbrev pub idle : Working
idle = record { owes = None; access = None; stored = []; entered = [] }

-- the view of the first pass of a new heap
abbrev pub first_view : View
first_view = record { number = 0; role = Pass; seen = []; trail = []; splits = 0; taken = []; olds = []; working = idle }

-- the view that was a pass or a note, once another has taken it in
abbrev pub spent_view : View
spent_view = record { number = 0; role = Spent; seen = []; trail = []; splits = 0; taken = []; olds = []; working = idle }

-- the events of the view's own thread, as many as it has seen
abbrev pub made_in : ℕ → History → ℕ
made_in p h = length (share h p)

-- the word of a cell
abbrev pub cell_place : CellName → Place
cell_place (cells.Field s f) = Field s f
cell_place (cells.Global g) = Global g

-- the next word of a deinit: 0 for the root of a cascade, else one more than 16 * the parent's slot + the field to go on with
abbrev pub next_word : Option Parent → ℕ
next_word None = 0
next_word (Some q) = 1 + 16 * q.slot + q.field

abbrev pub kept_next : Entered → Stored
kept_next e = record { place = Next e.slot; word = next_word e.parent }

-- the inline word of a new object: one strong and one unowned reference, or that it is immortal
abbrev pub first_word : HeapShape → Object → ℕ
first_word shape o = if is_immortal shape o then 1 else 2

-- the words that no other pass writes: those of its claimed entries, and the next words of the deinits that it has entered
abbrev pub private_words : Working → List Stored
private_words w = w.stored ++ map kept_next w.entered

-- the word of the place isn't as the heap says, since the inline word or the isa word is still to be written, or the cell is being accessed
abbrev pub Excepts : Working → Place → Type 0
Excepts w (Count s) = w.owes ≡ Some (record { slot = s; counted = false })
Excepts w (Isa s) = (n : Naming) × (w.owes ≡ Some n) × (n.slot ≡ s)
Excepts w (Global g) = (a : Begun) × (w.access ≡ Some a) × (cell_place a.cell ≡ Global g)
Excepts w (Field s f) = (a : Begun) × (w.access ≡ Some a) × (cell_place a.cell ≡ Field s f)
Excepts w _ = ⊥
