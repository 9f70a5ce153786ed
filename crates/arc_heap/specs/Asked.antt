-- The life of an object and its holders, by its counts.
use Rattle.std.specs.Prelude.{ℕ, Bool, false, ◌==◌, not, if◌then◌else◌, Option, Some, None}
use Rattle.arc_model.specs.declared.event.Life.{Life}
use Rattle.arc_model.specs.declared.event.Life.TheVariants.{Live, Deiniting, Deinited, Freed, Dead}
use Rattle.arc_model.specs.declared.shape.Kind.{Kind}
use Rattle.arc_heap_index.specs.declared.counted.Due.TheVariants as due
use Rattle.arc_heap_index.specs.declared.counted.Debt.{Debt}
use Rattle.arc_heap_index.specs.declared.counted.Counted.{Counted}
use Rattle.arc_model.specs.Shapes.{HeapShape}
use Rattle.arc_heap_index.specs.Counting.{holders_in, is_alive}
use Rattle.arc_heap_judge.specs.Index.{immortal_in}

-- a deinit is owed
abbrev pub is_due_deinit : Option Debt → Bool
is_due_deinit None = false
is_due_deinit (Some d) = Rattle.arc_heap_index.specs.Counting.same_due d.due due.Deinit

abbrev pub lived_so : Bool → Counted → Life
lived_so immortal c =
    if is_alive immortal c then Live else
    if is_due_deinit c.owed then Deiniting else
    if not (c.unowned == 0) then Deinited else
    if not (c.weak == 0) then Freed else Dead

abbrev pub lived : HeapShape → Counted → Life
lived shape c = lived_so (immortal_in shape c) c

abbrev pub life_told : HeapShape → Option Counted → Option Life
life_told shape None = None
life_told shape (Some c) = Some (lived shape c)

abbrev pub held_in : HeapShape → Kind → Option Counted → Option ℕ
held_in shape list None = None
held_in shape list (Some c) = Some (holders_in (immortal_in shape c) list c)
