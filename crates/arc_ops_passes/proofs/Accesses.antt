-- A pass accesses a cell only while its stepper is inside an access.
use Rattle.std.proofs.Common.{◌≡◌, false, None, refl, ap, ◌∙◌}
use Rattle.arc_model.specs.declared.event.Origin.{Origin}
use Rattle.arc_model.specs.declared.event.Origin.TheVariants as origins
use Rattle.arc_model.proofs.Basics.{true≢false}
use Rattle.arc_plan.specs.declared.slots.Making.{Making as Search}
use Rattle.arc_plan.specs.declared.slots.Making.TheVariants as search
use Rattle.arc_ops.specs.declared.gain.Source.{Source}
use Rattle.arc_ops.specs.declared.stepper.Doing.{Doing}
use Rattle.arc_ops.specs.declared.stepper.Doing.TheVariants as doings
use Rattle.arc_ops.specs.Thread.{is_cell, is_accessing}
use Rattle.arc_view.specs.declared.view.Working.{Working}
use Rattle.arc_ops_passes.specs.Drives.{IsFree, search_works, GainsFrom, UnderWay}
use Rattle.arc_ops_passes.specs.Laws.{OutsideIsNoAccess}

search_accesses : (a : Search) → (search_works a).access ≡ None
search_accesses search.Start = refl
search_accesses (search.Looking k) = refl
search_accesses (search.Taking s seen) = refl
search_accesses (search.Counting s) = refl
search_accesses (search.Naming s) = refl
search_accesses search.Ended = refl

pub outside_is_no_access : OutsideIsNoAccess
outside_is_no_access w t v d out = at t.doing out d.under_way
  where
    idle_is : IsFree v → v.working.access ≡ None
    idle_is free = ap (λ (x : Working). x.access) free.working

    gaining : (from : Source) (o : Origin) → is_cell o ≡ false → GainsFrom v o from → v.working.access ≡ None
    gaining from (origins.Hand hand) out free = idle_is free
    gaining from (origins.Cell cell) out copying = absurd (true≢false out)

    at : (e : Doing) → is_accessing e ≡ false → UnderWay w.shape v d.chain e → v.working.access ≡ None
    at doings.Ready out under = idle_is under
    at (doings.Making to name plan) out under = ap (λ (x : Working). x.access) under.0 ∙ search_accesses plan.at
    at (doings.Gaining gain to from plan) out under = gaining from from.origin out under.0
    at (doings.Naming to held plan) out under = idle_is under
    at (doings.Opening to cell plan) out under = idle_is under.0
    at (doings.Closing to cell held plan) out under = absurd (true≢false out)
    at (doings.Setting from cell plan) out under = idle_is under.0
    at (doings.Clearing plan) out under = idle_is under.0
    at (doings.Dropping held plan) out under = idle_is under.0
    at (doings.Dying c) out under = ap (λ (x : Working). x.access) under.working
    at (doings.Vacating s plan) out under = ap (λ (x : Working). x.access) under.0
    at doings.Ended out under = idle_is under
