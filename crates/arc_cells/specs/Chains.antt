-- The deinits that wait for one another: each dying object but the first was referred to by a field of the one before it.
use Rattle.std.specs.Prelude.{ℕ, ◌==◌, ◌+◌, ◌-◌, ◌*◌, ◌/◌, ◌%◌, ◌<◌, ◌≤◌, if◌then◌else◌, List, [], ◌∷◌, Option, Some, None, ⊤}
use Rattle.arc_model.specs.declared.event.ObjectName.{ObjectName}
use Rattle.arc_rule.specs.Extents.{Extent}
use Rattle.arc_cells.specs.declared.parent.Parent.{Parent}

-- what stands in the next word of a dying object: 0 where no other deinit waits for its own
abbrev pub next_word_of : Option Parent → ℕ
next_word_of None = 0
next_word_of (Some p) = 1 + 16 * p.slot + p.field

abbrev pub parent_in : ℕ → Option Parent
parent_in w = if w == 0 then None else Some (record { slot = (w - 1) / 16; field = (w - 1) % 16 })

-- a deinit that waits is of an object in a slot, and goes on at a field, or behind the last of eight
abbrev pub IsParentIn : Extent → Option Parent → Type 0
IsParentIn layout None = ⊤
IsParentIn layout (Some p) = (p.slot < layout.slots) × (p.field ≤ 8)

abbrev pub IsNextWord : Extent → Option ℕ → Type 0
IsNextWord layout None = ⊥
IsNextWord layout (Some w) = IsParentIn layout (parent_in w)

-- a deinit that waits: of the object with this name in the slot, to go on at the field
pub record Frame : Type 0 where
  pub slot : ℕ
  pub name : ObjectName
  pub field : ℕ

-- the first of those that wait, the innermost
abbrev pub parent_of : List Frame → Option Parent
parent_of [] = None
parent_of (p ∷ fs) = Some (record { slot = p.slot; field = p.field })

abbrev pub rest_of : List Frame → List Frame
rest_of [] = []
rest_of (p ∷ fs) = fs
