-- What a heap is made of, in the terms of the specs.
use Rattle.std.specs.Prelude.{ℕ, Bool, false, List, [], slice_index_or}
use Rattle.arc_model.specs.declared.shape.RefShape.{RefShape}

-- the greatest strong extra count and unowned count of an inline word, and the greatest count of an entry
pub record CapNumbers : Type 0 where
  pub strong : ℕ
  pub unowned : ℕ
  pub wide : ℕ

-- the fields of a class, and whether its objects are never deinited
pub record ObjectClass : Type 0 where
  pub fields : List RefShape
  pub immortal : Bool

-- what a heap is made of
pub record HeapShape : Type 0 where
  pub slots : ℕ
  pub entries : ℕ
  pub caps : CapNumbers
  pub classes : List ObjectClass
  pub globals : List RefShape

-- the class with this number; past the last one, a class without a field that isn't immortal
abbrev pub class_at : HeapShape → ℕ → ObjectClass
class_at shape n = slice_index_or shape.classes n (record { fields = []; immortal = false })
