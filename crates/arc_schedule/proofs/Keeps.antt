-- Each word that a stepper is given keeps what it stands for, with the step that found it.
use Rattle.std.proofs.Common.{◌≡◌, ℕ, ◌+◌, List, [], ◌∷◌, take, drop, Option, Some, None, inl, refl, sym, ap, subst, arith}
use Rattle.arc_model.specs.declared.event.Act.{Act}
use Rattle.arc_model.specs.Shapes.{HeapShape}
use Rattle.arc_model.specs.declared.event.Origin.{Origin}
use Rattle.arc_model.specs.declared.event.Origin.TheVariants as origins
use Rattle.arc_rule.specs.declared.step.Step.{Step}
use Rattle.arc_plan.specs.Slots.{creation_turned, creation_answer, one_turned, name_of_answer, vacate_answer}
use Rattle.arc_side.specs.Ups.{up_turned, up_answer}
use Rattle.arc_side.specs.Downs.{down_turned, down_answer}
use Rattle.arc_cells.specs.Begins.{begin_turned, begin_answer}
use Rattle.arc_cells.specs.Ends.{end_turned, end_answer}
use Rattle.arc_cells.specs.Swaps.{swap_turned, swap_answer}
use Rattle.arc_cells.specs.Chains.{Frame}
use Rattle.arc_ops.specs.declared.stepper.Doing.{Doing}
use Rattle.arc_ops.specs.declared.stepper.Doing.TheVariants.{Ready, Making, Gaining, Naming, Opening, Closing, Setting, Clearing, Dropping, Dying, Vacating, Ended}
use Rattle.arc_ops.specs.declared.stepper.Move.TheVariants as moves
use Rattle.arc_ops.specs.declared.gain.Gain.{Gain}
use Rattle.arc_ops.specs.declared.gain.Gain.TheVariants as gains
use Rattle.arc_ops.specs.Thread.{Thread}
use Rattle.arc_ops.specs.Gains.{gained_on, named_on}
use Rattle.arc_ops.proofs.Moves.{gain_answers}
use Rattle.arc_ops.specs.Begins.{phase_end}
use Rattle.arc_ops.specs.Drops.{dropped_on, vacated_on}
use Rattle.arc_ops.specs.Makes.{made_on}
use Rattle.arc_ops.specs.Turns.{turned_at, turned}
use Rattle.arc_ops.specs.Takes.{IsCellAt, gain_takes, takes_at, takes}
use Rattle.arc_ops.specs.Gets.{opened_on, closed_on}
use Rattle.arc_ops.specs.Sets.{set_on}
use Rattle.arc_spelled.specs.StepperStands.{chain_at, chain_after, FitsChainAt, FitsChain}
use Rattle.arc_schedule.specs.Made.{Made, made_at}
use Rattle.arc_schedule.proofs.Idle.{IsIdle, idle-here}
use Rattle.arc_schedule.proofs.Lasts.{Lasts, drops, slot-ends}
use Rattle.arc_schedule.proofs.Dies.{dies-on}
use Rattle.arc_schedule.proofs.Deinits.{IsBare}
use Rattle.arc_schedule.proofs.Stands.{Task, Job, kinds_here, classes_here, here, IsOver, IsMaking, IsGetting, IsGainingFrom, IsOpening, IsSetting, step_in, UpTo, AreServed, WorksAt, IsAt, AreIn, IsIn, IsPlaced, Stands, under-way}
use Rattle.arc_schedule.proofs.Begins.{rest-is, begins, goes-on}
use Rattle.arc_schedule.proofs.Tells.{idle, in_hand, in_cell, makes-tells, gains-tells, gets-tells, opens-tells, closes-tells, sets-tells, names-tells, drops-tells, ends-tells}
use Rattle.arc_schedule.proofs.Makes.{makes}
use Rattle.arc_schedule.proofs.Gains.{gains-on, names-on}
use Rattle.arc_schedule.proofs.Gets.{gets-on, opens-on, closes-on}
use Rattle.arc_schedule.proofs.Sets.{sets-on}

-- what an operation does last, in a thread of the script
lasts : {n : ℕ} (k : Task) (j : Job k) → AreServed k.shape (classes_here k) (kinds_here k) j.ops → (i : ℕ) (t : Thread) → WorksAt k j i n t → AreIn k t.vars → IsAt k j i →
    Lasts k.shape (here k j i) (IsOver k j i t.vars t.made) t (λ (chain : List Frame) (u : Thread) (ms : List Made). Stands k n chain u ms)
lasts {n = n} k j served i t works vars at = record {
  layout_is = works.layout_is;
  shape_is = works.shape_is;
  drops = λ chain held plan asked event now u newest. under-way k j i refl works vars (at, inl (newest, refl)) u;
  dies = λ chain c asked event kept hands taken now u newest. under-way k j i refl works vars (at, inl (newest, refl)) u;
  ends = λ chain slot plan asked event now u newest. under-way k j i refl works vars (at, inl (newest, refl)) u;
  over = λ chain event now newest over. goes-on k j served i (record (idle t) { event = event }) now works vars at newest refl over;
}

-- Each word that it is given is that of a step of the operation under way, with the event that it tells.
pub keeps : (k : Task) (n : ℕ) (chain : List Frame) (t : Thread) (s : Step) (w : ℕ) (now : List Made) (st : Stands k n chain t now) → AreServed k.shape (classes_here k) (kinds_here k) st.job.ops → step_in t.asked ≡ Some s → takes t (Some w) →
    FitsChain t chain (Some w) → IsBare (turned t (Some w)).doing → Stands k n (chain_after t (Some w) chain) (turned t (Some w)) (made_at (here k st.job st.at) s w (turned t (Some w)).event ∷ now)
keeps k n chain t s w now st served asked takes fits bare = go t.doing st.phased st.placed st.up_to takes.0 fits bare
  where
    j : Job k
    j = st.job

    i : ℕ
    i = st.at

    Left : List Frame → Thread → Option Act → Type 0
    Left on u e = Stands k n on u (made_at (here k j i) s w e ∷ now)

    Goal : List Frame → Thread → List Made → Type 0
    Goal on u ms = Stands k n on u ms

    works-in : st.phases ≡ n → WorksAt k j i n t
    works-in e = subst (λ (m : ℕ). WorksAt k j i m t) e st.works

    slots-are : t.shape.slots ≡ k.shape.slots
    slots-are = ap (λ (h : HeapShape). h.slots) st.works.shape_is

    Over : ℕ → List Made → Type 0
    Over = IsOver k j i t.vars t.made

    go : (d : Doing) → IsIn n st.phases d → IsPlaced k j i t.first now d → UpTo k chain j i t.vars t.made t.hands t.asked now d → takes_at t.shape (Some w) d → FitsChainAt chain (Some w) d → IsBare (turned_at (Some w) d (idle t)).doing →
        Left (chain_at (Some w) chain d) (turned_at (Some w) d (idle t)) (turned_at (Some w) d (idle t)).event
    go Ready phased placed u takes fits bare = absurd (cc)
    go (Making to name plan) phased placed u takes fits bare =
        let a : IsMaking k j i to name plan t.vars t.made t.hands (Some s) now = rw asked at u in
        subst (λ (e : Option Act). Left [] (made_on to name (creation_turned plan (Some w)) (creation_answer plan (Some w)) (idle t)) e)
        (sym (makes-tells t w to name plan plan.at k.shape.slots a.before a.held a.count)) (makes k j served i t s w now (works-in phased) st.vars_in placed.0 to name plan a)
    go (Gaining gain to from plan) phased placed u takes fits bare = from_is from.origin u
      where
        from_is : (o : Origin) → IsGainingFrom k j i gain to o from.kind from.place plan t.vars t.made t.hands (step_in t.asked) now →
            Left [] (gained_on gain to (record { origin = o; kind = from.kind; place = from.place }) (up_turned plan (Some w)) (up_answer plan (Some w)) (idle t))
            (gained_on gain to (record { origin = o; kind = from.kind; place = from.place }) (up_turned plan (Some w)) (up_answer plan (Some w)) (idle t)).event
        from_is (origins.Hand hand) u =
            subst (λ (e : Option Act). Left [] (gained_on gain to (in_hand hand from.kind from.place) (up_turned plan (Some w)) (up_answer plan (Some w)) (idle t)) e)
            (sym (gains-tells t gain to hand from.kind from.place (up_turned plan (Some w)) (up_answer plan (Some w)) (gain_answers gain plan (Some w) takes)))
            (gains-on k j served i t s w now (works-in phased) st.vars_in placed.0 gain to (record { hand = hand; kind = from.kind; place = from.place }) plan (rw asked at u) takes)
        from_is (origins.Cell cell) u = copies gain u.is_copy (rw asked at u) takes
          where
            copies : (g : Gain) → g ≡ gains.Copy → IsGetting k j i g to cell from.kind from.place plan t.vars t.made t.hands (Some s) now → gain_takes g plan (Some w) →
                Left [] (gained_on g to (in_cell cell from.kind from.place) (up_turned plan (Some w)) (up_answer plan (Some w)) (idle t))
                (gained_on g to (in_cell cell from.kind from.place) (up_turned plan (Some w)) (up_answer plan (Some w)) (idle t)).event
            copies gains.Copy is u takes =
                subst (λ (e : Option Act). Left [] (gained_on gains.Copy to (in_cell cell from.kind from.place) (up_turned plan (Some w)) (up_answer plan (Some w)) (idle t)) e)
                (sym (gets-tells t to cell from.kind from.place (up_turned plan (Some w)) (up_answer plan (Some w)) (gain_answers gains.Copy plan (Some w) takes)))
                (gets-on k j served i t s w now (works-in phased) st.vars_in placed.0 to cell from.kind from.place plan u takes)
            copies gains.Unown is u takes = absurd (cc)
            copies gains.Load is u takes = absurd (cc)
    go (Naming to held plan) phased placed u takes fits bare =
        subst (λ (e : Option Act). Left [] (named_on to held (one_turned plan (Some w)) (name_of_answer plan (Some w)) (idle t)) e)
        (sym (names-tells t to held (one_turned plan (Some w)) (name_of_answer plan (Some w))))
        (names-on k j served i t s w now (works-in phased) st.vars_in placed.0 to held plan (rw asked at u))
    go (Opening to cell plan) phased placed u takes fits bare =
        let a : IsOpening k j i to cell plan t.vars t.made t.hands (Some s) now = rw asked at u in
        subst (λ (e : Option Act). Left [] (opened_on to cell (begin_turned plan (Some w)) (begin_answer plan (Some w)) (idle t)) e)
        (sym (opens-tells t to cell (begin_turned plan (Some w)) (begin_answer plan (Some w))))
        (opens-on k j served i t s w now (works-in phased) st.vars_in placed.0 to cell plan a (subst (λ (m : ℕ). IsCellAt m plan.at w) slots-are takes.1))
    go (Closing to cell held plan) phased placed u takes fits bare =
        subst (λ (e : Option Act). Left [] (closed_on to cell held (end_turned plan (Some w)) (end_answer plan (Some w)) (idle t)) e)
        (sym (closes-tells t to cell held (end_turned plan (Some w)) (end_answer plan (Some w))))
        (closes-on k j served i t s w now (works-in phased) st.vars_in placed.0 to cell held plan (rw asked at u))
    go (Setting from cell plan) phased placed u takes fits bare =
        let a : IsSetting k j i from cell plan t.vars t.made t.hands (Some s) now = rw asked at u in
        subst (λ (e : Option Act). Left [] (set_on from cell (swap_turned plan (Some w)) (swap_answer plan (Some w)) (idle t)) e)
        (sym (sets-tells t from cell (swap_turned plan (Some w)) (swap_answer plan (Some w))))
        (sets-on k j served i t s w now (works-in phased) st.vars_in placed.0 from cell plan a (subst (λ (m : ℕ). IsCellAt m plan.at w) slots-are takes.1))
    go (Clearing plan) phased placed u takes fits bare = absurd u
    go (Dropping held plan) phased placed u takes fits bare =
        subst (λ (e : Option Act). Left [] (dropped_on held (down_turned plan (Some w)) (down_answer plan (Some w)) (idle t)) e)
        (sym (drops-tells t held (down_turned plan (Some w)) (down_answer plan (Some w))))
        (drops k.shape (here k j i) Over t Goal (lasts k j served i t (works-in phased) st.vars_in placed.0) s w now held plan (rw asked at u) takes.1)
    go (Vacating slot plan) phased placed u takes fits bare =
        subst (λ (e : Option Act). Left [] (vacated_on slot (one_turned plan (Some w)) (vacate_answer plan (Some w)) (idle t)) e)
        (sym (ends-tells t slot (one_turned plan (Some w)) (vacate_answer plan (Some w))))
        (slot-ends k.shape (here k j i) Over t Goal (lasts k j served i t (works-in phased) st.vars_in placed.0) s w now slot plan (rw asked at u))
    go (Dying c) phased placed u takes fits bare =
        dies-on k.shape (here k j i) Over t Goal (lasts k j served i t (works-in phased) st.vars_in placed.0) served.classes_served chain s w now c (rw asked at u) takes fits bare
    go Ended phased placed u takes fits bare = absurd takes

-- Its next phase begins without a step.
pub begins-phase : (k : Task) (n : ℕ) (chain : List Frame) (t : Thread) (now : List Made) (st : Stands k n chain t now) → AreServed k.shape (classes_here k) (kinds_here k) st.job.ops → takes t None → t.asked ≡ moves.PhaseEnd → Stands k (n + 1) chain (turned t None) now
begins-phase k n chain t now st served takes asked = go t.doing (idle-here k n t now st (ap step_in asked)) st.phased st.placed st.up_to takes.0
  where
    go : (d : Doing) → IsIdle d → IsIn n st.phases d → IsPlaced k st.job st.at t.first now d → UpTo k chain st.job st.at t.vars t.made t.hands t.asked now d → takes_at t.shape None d → Stands k (n + 1) chain (turned_at None d (idle t)) now
    go Ready i phased placed u takes =
        begins k st.job served (drop t.index (take (phase_end t) t.program)) t.index st.at st.at (idle t) now (subst (λ (m : ℕ). WorksAt k st.job st.at m t) phased st.works) st.vars_in
        st.works.index_is (omega arith)
        (rest-is k st.job st.at t.phases t.program t.phase t.index st.works.phases_is st.works.program_is st.works.phase_is st.works.index_is) placed u.1
    go (Making to name plan) i phased placed u takes = absurd i
    go (Gaining gain to from plan) i phased placed u takes = absurd i
    go (Naming to held plan) i phased placed u takes = absurd i
    go (Opening to cell plan) i phased placed u takes = absurd i
    go (Closing to cell held plan) i phased placed u takes = absurd i
    go (Setting from cell plan) i phased placed u takes = absurd i
    go (Clearing plan) i phased placed u takes = absurd i
    go (Vacating slot plan) i phased placed u takes = absurd i
    go (Dropping held plan) i phased placed u takes = absurd i
    go (Dying c) i phased placed u takes = absurd i
    go Ended i phased placed u takes = absurd takes
