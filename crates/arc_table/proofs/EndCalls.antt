-- What the end of a deinit leaves of a pass's numbers, and a deinit's end in two parts.
use Rattle.std.proofs.Common.{◌≡◌, ℕ, false, refl}
use Rattle.arc_model.specs.Shapes.{HeapShape}
use Rattle.arc_rule.specs.declared.step.Changed.{Changed}
use Rattle.arc_rule.specs.declared.layout.Place.TheVariants as places
use Rattle.arc_rule.specs.Places.{extent_of, number}
use Rattle.arc_view.specs.declared.view.View.{View}
use Rattle.arc_table.specs.declared.ends.Ended.{Ended}
use Rattle.arc_table.specs.declared.ends.Ended.TheVariants as endings
use Rattle.arc_table.specs.Causes.{ReadTwice}
use Rattle.arc_table.specs.Ends.{ended_act, IsDyingWith, ChangedUnowned}
use Rattle.arc_table.specs.Ends.ChangedUnowned.{in_entry}
use Rattle.arc_table.specs.Runs.{Walked}
use Rattle.arc_table.proofs.StrongCalls.{makes_new}
use Rattle.arc_table.proofs.TwoParts.{read_on}

pub ended_old : (s : ℕ) (a : Ended) → makes_new (ended_act s a) ≡ false
ended_old s endings.More = refl
ended_old s (endings.Last entry) = refl
ended_old s (endings.Again changed) = refl

-- the second part, by the entry, finds its count changed
pub changed_in_entry : (shape : HeapShape) (s e : ℕ) (c : Changed) (v u w : View) → Walked v u → IsDyingWith w s e × ReadTwice (number (extent_of shape) (places.Unowned e)) c u w → ChangedUnowned shape s c v w
changed_in_entry shape s e c v u w walked d = in_entry e d.0 (read_on (number (extent_of shape) (places.Unowned e)) c v u w walked d.1)
