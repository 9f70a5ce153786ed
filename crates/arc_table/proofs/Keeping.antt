-- What a call leaves of what a pass has, as its tokens say it.
use Rattle.std.proofs.Common.{◌≡◌, ◌≢◌, ℕ, false, Option, ◌∙◌}
use Rattle.arc_model.specs.declared.event.Act.{Act}
use Rattle.arc_model.specs.declared.shape.Kind.TheVariants.{Strong}
use Rattle.arc_model.specs.Heaps.{Deinit, Vacating}
use Rattle.arc_view.specs.declared.view.View.{View}
use Rattle.arc_view_laws.specs.Having.{IsDyingOf, IsFreedOf, StandsAs, KeepsStrong, KeepsStrongBut, KeepsDying, KeepsDyingBut, KeepsFreed, KeepsFreedBut}
use Rattle.arc_table.specs.Possessions.{reference, duty, spends, StillHas}

-- a strong reference that the act doesn't spend, a deinit and a vacating that it doesn't end
pub keeps_hand : (act : Option Act) (v w : View) (k : ℕ) → spends act (reference k Strong) ≡ false → StillHas act v w → StandsAs v k w k
keeps_hand act v w k free has s class (i, o, hand, here, slot, is) = let t = has.stays (reference k Strong) o (i, hand, here) free in (t.1.0, t.0, t.1.1, t.1.2, t.2.1 ∙ slot, t.2.0.class ∙ is)

pub keeps_deinit : (act : Option Act) (v w : View) (s class : ℕ) → spends act (duty Deinit s) ≡ false → StillHas act v w → IsDyingOf v s class → IsDyingOf w s class
keeps_deinit act v w s class free has (i, o, here, owed, slot, is) = let t = has.stays (duty Deinit s) o (i, owed, here, slot) free in (t.1.0, t.0, t.1.2, t.1.1, t.1.3, t.2.0.class ∙ is)

pub keeps_vacating : (act : Option Act) (v w : View) (s : ℕ) (m : Option ℕ) → spends act (duty Vacating s) ≡ false → StillHas act v w → IsFreedOf v s m → IsFreedOf w s m
keeps_vacating act v w s m free has (i, o, here, owed, slot, is) = let t = has.stays (duty Vacating s) o (i, owed, here, slot) free in (t.1.0, t.0, t.1.2, t.1.1, t.1.3, t.2.2 ∙ is)

-- each of them, where the act spends none
pub keeps_strong : (act : Option Act) (v w : View) → ((k : ℕ) → spends act (reference k Strong) ≡ false) → StillHas act v w → KeepsStrong v w
keeps_strong act v w free has k = keeps_hand act v w k (free k) has

pub keeps_dying : (act : Option Act) (v w : View) → ((s : ℕ) → spends act (duty Deinit s) ≡ false) → StillHas act v w → KeepsDying v w
keeps_dying act v w free has s class = keeps_deinit act v w s class (free s) has

pub keeps_freed : (act : Option Act) (v w : View) → ((s : ℕ) → spends act (duty Vacating s) ≡ false) → StillHas act v w → KeepsFreed v w
keeps_freed act v w free has s m = keeps_vacating act v w s m (free s) has

-- each but the one that the act spends
pub keeps_strong_but : (act : Option Act) (h : ℕ) (v w : View) → ((k : ℕ) → k ≢ h → spends act (reference k Strong) ≡ false) → StillHas act v w → KeepsStrongBut h v w
keeps_strong_but act h v w free has k other = keeps_hand act v w k (free k other) has

pub keeps_dying_but : (act : Option Act) (s : ℕ) (v w : View) → ((t : ℕ) → t ≢ s → spends act (duty Deinit t) ≡ false) → StillHas act v w → KeepsDyingBut s v w
keeps_dying_but act s v w free has t class other = keeps_deinit act v w t class (free t other) has

pub keeps_freed_but : (act : Option Act) (s : ℕ) (v w : View) → ((t : ℕ) → t ≢ s → spends act (duty Vacating t) ≡ false) → StillHas act v w → KeepsFreedBut s v w
keeps_freed_but act s v w free has t m other = keeps_vacating act v w t m (free t other) has
