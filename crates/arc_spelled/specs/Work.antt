-- What a thread works on.
use Rattle.std.specs.Prelude.{ℕ, List}
use Rattle.arc_model.specs.declared.shape.Kind.{Kind}
use Rattle.arc_model.specs.Shapes.{HeapShape}
use Rattle.arc_script.specs.declared.script.Op.{Op}
use Rattle.arc_programs.specs.Programs.{Hands}

-- A thread's operations, phase by phase, over so many variables of these kinds and classes, in a heap of this shape, room for so many
-- lines, and what each of its hands refers to when it comes.
pub record Work : Type 0 where
  pub shape : HeapShape
  pub thread : ℕ
  pub phases : List (List Op)
  pub program : List Op
  pub count : ℕ
  pub kinds : List Kind
  pub classes : List ℕ
  pub room : ℕ
  pub came : Hands
