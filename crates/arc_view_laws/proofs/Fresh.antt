-- The next hand of a pass is none that it has.
use Rattle.std.proofs.Common.{ℕ, List, subst, arith}
use Rattle.std.specs.Prelude.{is_some}
use Rattle.arc_model.specs.declared.event.Act.{Act}
use Rattle.arc_model.specs.Shapes.{HeapShape}
use Rattle.arc_model.specs.Heaps.{Hand}
use Rattle.arc_model.specs.History.{next_hand, heap_after, IsLegal}
use Rattle.arc_model.specs.Lookup.{spot}
use Rattle.arc_model.proofs.Courses.{well_formed}
use Rattle.arc_model.proofs.Others.{spot-held, none-is, false-if}
use Rattle.arc_view.specs.declared.view.View.{View}
use Rattle.arc_view.specs.Calls.{Called}
use Rattle.arc_view.proofs.Keeps.{legal_left}
use Rattle.arc_view_laws.specs.Having.{IsNewHand}

pub fresh_hand : (shape : HeapShape) (xs : List Act) (n : ℕ) (v w : View) → Called shape xs n v w → IsNewHand v (next_hand v.number v.seen)
fresh_hand shape xs n v w c =
    let k = next_hand v.number v.seen in
    let legal : IsLegal shape v.seen = legal_left shape c.grew.begins.0 v.seen (subst (IsLegal shape) c.grew.begins.1 c.legal) in
    let none = (well_formed shape v.seen legal).fresh v.number k (omega arith) in
    none-is (spot (Hand v.number k) (heap_after v.seen)) (false-if (is_some (spot (Hand v.number k) (heap_after v.seen))) (λ some. let held = spot-held (Hand v.number k) (heap_after v.seen) some in omega (arith, held, none)))
