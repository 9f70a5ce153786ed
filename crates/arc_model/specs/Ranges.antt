-- The ranges of the parts of a shape.
use Rattle.std.specs.Prelude.{ℕ, ◌<◌, ◌≤◌, List, length, All}
use Rattle.arc_model.specs.declared.shape.RefShape.{RefShape}
use Rattle.arc_model.specs.Shapes.{ObjectClass}

abbrev pub StrongCapFits : ℕ → Type 0
StrongCapFits n = n ≤ 1073741823

abbrev pub UnownedCapFits : ℕ → Type 0
UnownedCapFits n = (1 ≤ n) × (n ≤ 2147483647)

-- at least one more than the strong cap, and at least the unowned cap
abbrev pub WideCapFits : ℕ → ℕ → ℕ → Type 0
WideCapFits strong unowned n = (strong < n) × (unowned ≤ n)

pub record CapsFit (strong unowned wide : ℕ) : Type 0 where
  pub strong_fits : StrongCapFits strong
  pub unowned_fits : UnownedCapFits unowned
  pub wide_fits : WideCapFits strong unowned wide

abbrev pub SlotsFit : ℕ → Type 0
SlotsFit n = (1 ≤ n) × (n ≤ 4096)

abbrev pub EntriesFit : ℕ → Type 0
EntriesFit n = (1 ≤ n) × (n ≤ 4096)

abbrev pub ClassesFit : List ObjectClass → Type 0
ClassesFit classes = length classes ≤ 64

abbrev pub FieldsFit : List ObjectClass → Type 0
FieldsFit classes = All (λ c. length c.fields ≤ 8) classes

abbrev pub GlobalsFit : List RefShape → Type 0
GlobalsFit globals = length globals ≤ 64

pub record ShapeFits (slots entries : ℕ) (classes : List ObjectClass) (globals : List RefShape) : Type 0 where
  pub slots_fit : SlotsFit slots
  pub entries_fit : EntriesFit entries
  pub classes_fit : ClassesFit classes
  pub fields_fit : FieldsFit classes
  pub globals_fit : GlobalsFit globals
