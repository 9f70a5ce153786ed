-- A stepper that asks for no step has nothing under way.
use Rattle.std.proofs.Common.{◌≡◌, ℕ, List, None}
use Rattle.std.specs.Prelude.{⊤}
use Rattle.arc_model.specs.declared.event.Origin.{Origin}
use Rattle.arc_model.specs.declared.event.Origin.TheVariants as origins
use Rattle.arc_cells.specs.Chains.{Frame}
use Rattle.arc_ops.specs.declared.stepper.Doing.{Doing}
use Rattle.arc_ops.specs.declared.stepper.Doing.TheVariants.{Ready, Making, Gaining, Naming, Opening, Closing, Setting, Clearing, Dropping, Dying, Vacating, Ended}
use Rattle.arc_ops.specs.Thread.{Thread}
use Rattle.arc_schedule.specs.Made.{Made}
use Rattle.arc_schedule.proofs.Deinits.{dying-asks}
use Rattle.arc_schedule.proofs.Stands.{Task, here, step_in, IsOver, IsGainingFrom, UpTo, Stands}

-- nothing is under way
abbrev pub IsIdle : Doing → Type 0
IsIdle Ready = ⊤
IsIdle Ended = ⊤
IsIdle _ = ⊥

pub idle-here : (k : Task) (n : ℕ) {chain : List Frame} (t : Thread) (now : List Made) (st : Stands k n chain t now) → step_in t.asked ≡ None → IsIdle t.doing
idle-here k n {chain = chain} t now st none = go t.doing st.up_to
  where
    go : (d : Doing) → UpTo k chain st.job st.at t.vars t.made t.hands t.asked now d → IsIdle d
    go Ready u = tt
    go (Making to name plan) u = let e = u.waits.asked_is in absurd (cc)
    go (Gaining gain to from plan) u = of from.origin u
      where
        of : (o : Origin) → IsGainingFrom k st.job st.at gain to o from.kind from.place plan t.vars t.made t.hands (step_in t.asked) now → ⊥
        of (origins.Hand hand) u = let e = u.waits.asked_is in absurd (cc)
        of (origins.Cell cell) u = let e = u.waits.asked_is in absurd (cc)
    go (Opening to cell plan) u = let e = u.waits.asked_is in absurd (cc)
    go (Closing to cell held plan) u = let e = u.waits.asked_is in absurd (cc)
    go (Setting from cell plan) u = let e = u.waits.asked_is in absurd (cc)
    go (Clearing plan) u = absurd u
    go (Naming to held plan) u = let e = u.waits.asked_is in absurd (cc)
    go (Vacating slot plan) u = let e = u.waits.asked_is in absurd (cc)
    go (Dropping held plan) u = let e = u.waits.asked_is in absurd (cc)
    go (Dying c) u = let a = dying-asks k.shape (here k st.job st.at) (IsOver k st.job st.at t.vars t.made) chain c.slot t.hands (step_in t.asked) now c.at u.place in let e = a.1 in absurd (cc)
    go Ended u = tt
