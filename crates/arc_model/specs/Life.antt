-- The states of RefCount.h, by an object's lists.
use Rattle.std.specs.Prelude.{not, if◌then◌else◌}
use Rattle.arc_model.specs.declared.event.Life.{Life}
use Rattle.arc_model.specs.declared.event.Life.TheVariants.{Live, Deiniting, Deinited, Freed, Dead}
use Rattle.arc_model.specs.Shapes.{HeapShape}
use Rattle.arc_model.specs.Heaps.{Strongs, Object}
use Rattle.arc_model.specs.Holders.{is_in, is_empty}
use Rattle.arc_model.specs.Cells.{is_live}

abbrev pub life_of : HeapShape → Object → Life
life_of shape o =
    if is_live shape o then Live else
    if is_in Strongs o.unowned then Deiniting else
    if not (is_empty o.unowned) then Deinited else
    if not (is_empty o.weak) then Freed else Dead
