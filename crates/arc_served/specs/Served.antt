-- Which scripts are served so far.
use Rattle.std.specs.Prelude.{◌≡◌, All, ⊤}
use Rattle.arc_model.specs.Shapes.{ObjectClass}
use Rattle.arc_model.specs.declared.shape.RefShape.{RefShape}
use Rattle.arc_side.specs.Inline.{IsCountedInline}
use Rattle.arc_script.specs.declared.script.VarDecl.{VarDecl}
use Rattle.arc_script.specs.declared.script.Op.{Op}
use Rattle.arc_script.specs.declared.script.Op.TheVariants as op
use Rattle.arc_script.specs.declared.script.ThreadDecl.{ThreadDecl}
use Rattle.arc_script.specs.declared.script.Script.{Script}

-- makes an object, gains a reference by a copy of one, from a strong or from an unowned one, moves or drops one, reads or writes a cell, or
-- begins a block
abbrev pub IsServedOp : Op → Type 0
IsServedOp (op.New to class) = ⊤
IsServedOp (op.Copy to from) = ⊤
IsServedOp (op.Move to from) = ⊤
IsServedOp (op.Drop var) = ⊤
IsServedOp (op.Unown to of) = ⊤
IsServedOp (op.Weak to of) = ⊥
IsServedOp (op.Load to of) = ⊤
IsServedOp (op.Get to cell) = ⊤
IsServedOp (op.Set cell from) = ⊤
IsServedOp (op.IfNil var to) = ⊤
IsServedOp (op.IfSome var to) = ⊤

-- a field or a global, as the heap has it, strong or unowned
abbrev pub IsServedRef : RefShape → Type 0
IsServedRef r = IsCountedInline r.kind

-- a class with such fields
abbrev pub IsServedClass : ObjectClass → Type 0
IsServedClass c = All IsServedRef c.fields

-- a variable or a global, strong or unowned
abbrev pub IsServedVar : VarDecl → Type 0
IsServedVar v = IsCountedInline v.kind

-- strong and unowned variables, and operations that are served
pub record IsServedThread (t : ThreadDecl) : Type 0 where
  pub vars : All IsServedVar t.vars
  pub ops : All (All IsServedOp) t.phases

-- threads that make objects, and copy, move, drop and load strong and unowned references, also by strong and unowned globals and fields, in blocks
-- and phases and by any schedule; classes with strong and unowned fields, the greatest caps
pub record IsServed (s : Script) : Type 0 where
  pub threads : All IsServedThread s.threads
  pub classes : All IsServedClass s.shape.classes
  pub globals : All IsServedVar s.globals
  pub strong_cap : s.shape.caps.strong ≡ 1073741823
  pub unowned_cap : s.shape.caps.unowned ≡ 2147483647
  pub wide_cap : s.shape.caps.wide ≡ 4294967295
