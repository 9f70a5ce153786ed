-- An object dies: each word that its deinit is given keeps what that stands for, with the step that found it.
use Rattle.std.proofs.Common.{◌≡◌, ℕ, List, ◌∷◌, Option, Some, refl, sym, subst}
use Rattle.std.specs.Prelude.{All}
use Rattle.arc_model.specs.declared.event.Act.{Act}
use Rattle.arc_model.specs.Shapes.{HeapShape}
use Rattle.arc_rule.specs.declared.step.Step.{Step}
use Rattle.arc_cells.specs.declared.cascade.At.{At as CascadeAt}
use Rattle.arc_cells.specs.declared.cascade.At.TheVariants as at
use Rattle.arc_cells.specs.Chains.{Frame}
use Rattle.arc_cells.specs.Cascades.{CascadeState, cascade_turned, cascade_answer, cascade_takes}
use Rattle.arc_deinits.specs.Stands.{ChainFits, chained}
use Rattle.arc_served.specs.Served.{IsServedClass}
use Rattle.arc_ops.specs.Thread.{Thread}
use Rattle.arc_ops.specs.Drops.{dying_on, deinit_tells}
use Rattle.arc_schedule.specs.Made.{Point, Made, made_at}
use Rattle.arc_schedule.proofs.Deinits.{CascadeUpTo, IsDying, IsBare}
use Rattle.arc_schedule.proofs.Tells.{idle, dying-tells}
use Rattle.arc_schedule.proofs.Lasts.{Lasts}
use Rattle.arc_schedule.proofs.Turning.{state}
use Rattle.arc_schedule.proofs.Enters.{enters, names, resumes}
use Rattle.arc_schedule.proofs.TakesOut.{looks-at, takes-it}
use Rattle.arc_schedule.proofs.Releases.{releases}
use Rattle.arc_schedule.proofs.Climbs.{leaves, finishes-it, vacates-it}

-- what the stepper is behind a word
abbrev pub dying-behind : CascadeState → ℕ → Thread → Thread
dying-behind c w t = dying_on (cascade_turned c (Some w)) (cascade_answer c (Some w)) (deinit_tells (cascade_turned c (Some w)).event (idle t))

pub dies-on : (shape : HeapShape) (point : Point) (Over : ℕ → List Made → Type 0) (t : Thread) (Goal : List Frame → Thread → List Made → Type 0) → Lasts shape point Over t Goal → All IsServedClass shape.classes →
    (chain : List Frame) (s : Step) (w : ℕ) (now : List Made) (c : CascadeState) → IsDying shape point Over chain c t.hands (Some s) now → cascade_takes c (Some w) → ChainFits c chain (Some w) → IsBare (dying-behind c w t).doing →
    Goal (chained c (Some w) chain) (dying-behind c w t) (made_at point s w (dying-behind c w t).event ∷ now)
dies-on shape point Over t Goal x classes chain s w now c u takes fits bare =
    subst (λ (e : Option Act). Goal (chained c (Some w) chain) (dying-behind c w t) (made_at point s w e ∷ now)) (sym (dying-tells (cascade_turned c (Some w)) (cascade_answer c (Some w)) (deinit_tells (cascade_turned c (Some w)).event (idle t))))
    (subst P (sym is) (go c.at u.place) takes fits bare)
  where
    is : c ≡ state shape c.slot c.before c.taken c.at c.event
    is = let l = u.layout in let h = u.shape_is in rw (l, h) refl

    P : CascadeState → Type 0
    P d = cascade_takes d (Some w) → ChainFits d chain (Some w) → IsBare (dying-behind d w t).doing → Goal (chained d (Some w) chain) (dying-behind d w t) (made_at point s w (cascade_turned d (Some w)).event ∷ now)

    go : (a : CascadeAt) → CascadeUpTo shape point Over chain c.slot t.hands (Some s) now a → P (state shape c.slot c.before c.taken a c.event)
    go at.Start p takes fits bare = absurd p
    go at.Entering p takes fits bare = enters shape point Over t Goal x s w now chain c.slot c.before c.taken u.came p
    go at.Naming p takes fits bare = names shape point Over t Goal x s w now chain c.slot c.before c.taken u.came p
    go (at.Named name) p takes fits bare = absurd p
    go (at.Looking name field) p takes fits bare = looks-at shape point Over t Goal x s w now classes chain c.slot c.before c.taken name field u.came p takes
    go (at.Taking name field place) p takes fits bare = takes-it shape point Over t Goal x s w now classes chain c.slot c.before c.taken name field place u.came p
    go (at.Dropping name field d) p takes fits bare = releases shape point Over t Goal x s w now classes chain c.slot c.before c.taken name field d u.came p bare
    go at.Leaving p takes fits bare = leaves shape point Over t Goal x s w now chain c.slot c.before c.taken u.came p fits
    go (at.Finishing parent q) p takes fits bare = finishes-it shape point Over t Goal x s w now chain c.slot c.before c.taken parent q u.came p bare
    go (at.Ending parent q) p takes fits bare = vacates-it shape point Over t Goal x s w now chain c.slot c.before c.taken parent q u.came p
    go (at.Resuming field) p takes fits bare = resumes shape point Over t Goal x s w now chain c.slot c.before c.taken field u.came p fits
    go at.Ended p takes fits bare = absurd p
