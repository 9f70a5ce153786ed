-- Thread 0: it clears the globals, and drops what each had.
use Rattle.std.proofs.Common.{◌≡◌, ℕ, zero, suc, ◌+◌, ◌-◌, ◌<◌, ◌≤◌, Bool, true, false, cond, eqb, ltb, List, [], ◌∷◌, length, drop, Option, Some, None, refl, sym, ap, subst, ◌∙◌, arith}
use Rattle.std.proofs.lemmas.Bool.{ltb-true, ltb-false, eqb-false}
use Rattle.std.proofs.lemmas.List.Elements.{All-get_or}
use Rattle.std.specs.Prelude.{All, ◌≢◌, ◌&&◌, take, position}
use Rattle.arc_model.specs.declared.event.Act.{Act}
use Rattle.arc_model.specs.declared.shape.Kind.{Kind}
use Rattle.arc_model.specs.declared.shape.Kind.TheVariants.{Strong}
use Rattle.arc_model.specs.Shapes.{HeapShape}
use Rattle.arc_rule.specs.Extents.{Extent}
use Rattle.arc_rule.specs.Places.{extent_of}
use Rattle.arc_rule.specs.declared.plan.Next.{Next}
use Rattle.arc_rule.specs.declared.plan.Next.TheVariants as nexts
use Rattle.arc_rule.specs.declared.step.Step.{Step}
use Rattle.arc_model.specs.declared.event.CellName.TheVariants as cells
use Rattle.arc_side.specs.Downs.{down_turned, down_answer}
use Rattle.arc_side.specs.Inline.{IsCountedInline}
use Rattle.arc_plan.specs.Slots.{one_turned, vacate_answer}
use Rattle.arc_cells.specs.declared.swap.SwapAnswer.{SwapAnswer}
use Rattle.arc_cells.specs.declared.swap.SwapAnswer.TheVariants as swaps
use Rattle.arc_cells.specs.Swaps.{SwapAttempt, swap_turned, swap_answer}
use Rattle.arc_cells.specs.Chains.{Frame}
use Rattle.arc_script.specs.declared.script.Op.{Op}
use Rattle.arc_ops.specs.declared.stepper.Held.{Held}
use Rattle.arc_ops.specs.declared.stepper.Doing.{Doing}
use Rattle.arc_ops.specs.declared.stepper.Doing.TheVariants.{Ready, Making, Gaining, Naming, Opening, Closing, Setting, Clearing, Dropping, Dying, Vacating, Ended}
use Rattle.arc_ops.specs.declared.stepper.Move.{Move}
use Rattle.arc_ops.specs.declared.stepper.Move.TheVariants as moves
use Rattle.arc_replays.specs.Stages.{is_phase_end, awaits_phase}
use Rattle.arc_ops.specs.Thread.{Thread, is_held}
use Rattle.arc_ops.specs.Cells.{swapped, swap_from, clear_begun, next_global}
use Rattle.arc_ops.specs.Sets.{cleared, cleared_on}
use Rattle.arc_ops.specs.Plans.{drop_from}
use Rattle.arc_ops.specs.Begins.{phase_end, scope_at, scope_begun, phase_over, begun_at, begun, next_op}
use Rattle.arc_ops.specs.Drops.{dropped_on, vacated_on}
use Rattle.arc_ops.specs.Steppers.{SwappingGoesOn}
use Rattle.arc_ops.proofs.Moves.{swapping_goes_on}
use Rattle.arc_ops.specs.Takes.{IsCellAt, takes_at, takes}
use Rattle.arc_ops.specs.Turns.{turned_at, turned}
use Rattle.arc_served.specs.Served.{IsServedRef, IsServedClass}
use Rattle.arc_spelled.specs.StepperStands.{chain_at, chain_after, FitsChainAt, FitsChain}
use Rattle.arc_schedule.specs.Made.{Made, made_at}
use Rattle.arc_schedule.specs.Plans.{Plan, Starts, Gives, down, swap, swap_anew, swap_told, told_by}
use Rattle.arc_schedule.specs.Plans.Starts.{first as starts_first}
use Rattle.arc_schedule.specs.Operations.{Drops, global_kind, taken, hands_with}
use Rattle.arc_schedule.specs.Operations.Drops.{nothing as drops_nothing}
use Rattle.arc_schedule.specs.Threads.{end_point, GlobalsCleared}
use Rattle.arc_schedule.specs.Threads.GlobalsCleared.{none as globals_none, one as globals_one}
use Rattle.arc_schedule.proofs.Lists.{equal}
use Rattle.arc_schedule.proofs.Given.{Gave, waits, begun-from, given, gives, starts-again}
use Rattle.arc_schedule.proofs.Deinits.{ref, dying-asks, IsBare}
use Rattle.arc_schedule.proofs.Stands.{step_in, IsClearing, FirstUpTo, IsThreadZero, StandsFirst}
use Rattle.arc_schedule.proofs.Tells.{idle, clears-tells, drops-tells, ends-tells}
use Rattle.arc_schedule.proofs.Lasts.{Lasts, drops, slot-ends}
use Rattle.arc_schedule.proofs.Dies.{dies-on}

-- the next global is cleared
clear-asks : (shape : HeapShape) (chain : List Frame) (t : Thread) (now begin : List Made) → IsThreadZero shape t → GlobalsCleared shape t.cleared t.hands begin → t.cleared < length shape.globals →
    Starts (swap (extent_of shape) (cells.Global t.cleared) 0 None (t.hands + 1)) end_point begin now → StandsFirst shape chain (clear_begun t) now
clear-asks shape chain t now begin z so_far there starts =
    let plan : Plan SwapAttempt SwapAnswer = swap (extent_of shape) (cells.Global t.cleared) 0 None (t.hands + 1) in
    let same : plan.start ≡ swap_from (next_global t).name None t = rw z.layout_is refl in
    record {
      works = z;
      up_to = record { base = begin; so_far = so_far; there = there; waits = waits plan end_point begin now _ _ (begun-from plan end_point begin now (swap_from (next_global t).name None t) starts same); word = tt };
    }

not-below : (n : ℕ) → ltb n 0 ≡ false
not-below n = go (ltb n 0) refl
  where
    go : (b : Bool) → ltb n 0 ≡ b → ltb n 0 ≡ false
    go true e = let below = ltb-true n 0 e in absurd (omega arith)
    go false e = e

-- what was under way is over: the next global is cleared, or the thread has ended
clears-on : (shape : HeapShape) (chain : List Frame) (t : Thread) (now : List Made) → IsThreadZero shape t → GlobalsCleared shape t.cleared t.hands now → StandsFirst shape chain (phase_over t) now
clears-on shape chain t now z so_far =
    subst (λ (ps : List (List Op)). StandsFirst shape chain (cond (ltb (t.phase + 1) (length ps)) (record t { doing = Ready; asked = moves.PhaseEnd; phase = t.phase + 1 }) (scope_begun t)) now) (sym z.phases_is)
    (subst (λ (b : Bool). StandsFirst shape chain (cond b (record t { doing = Ready; asked = moves.PhaseEnd; phase = t.phase + 1 }) (scope_begun t)) now) (sym (not-below (t.phase + 1)))
    (subst (λ (vs : List (Option Held)). StandsFirst shape chain (scope_at (position is_held vs) t) now) (sym z.vars_is)
    (subst (λ (b : Bool). StandsFirst shape chain (cond (b && ltb t.cleared t.layout.globals) (clear_begun t) (record t { doing = Ended; asked = moves.Ended })) now) (sym (equal t.thread 0 z.thread_is))
    (go (ltb t.cleared t.layout.globals) refl))))
  where
    many : t.layout.globals ≡ length shape.globals
    many = ap (λ (l : Extent). l.globals) z.layout_is

    go : (b : Bool) → ltb t.cleared t.layout.globals ≡ b → StandsFirst shape chain (cond b (clear_begun t) (record t { doing = Ended; asked = moves.Ended })) now
    go true e = clear-asks shape chain t now now z so_far (let below = ltb-true t.cleared t.layout.globals e in let m = many in omega arith) starts_first
    go false e = record {
      works = z;
      up_to = (refl, let past = ltb-false t.cleared t.layout.globals e in let m = many in omega arith, so_far);
    }

no-ops : (n m : ℕ) (program : List Op) → program ≡ [] → drop n (take m program) ≡ []
no-ops n m (o ∷ program) none = absurd (cc)
no-ops zero zero [] none = refl
no-ops zero (suc m) [] none = refl
no-ops (suc n) zero [] none = refl
no-ops (suc n) (suc m) [] none = refl

begins-on : (shape : HeapShape) (chain : List Frame) (t : Thread) (now : List Made) → IsThreadZero shape t → GlobalsCleared shape t.cleared t.hands now → StandsFirst shape chain (begun t) now
begins-on shape chain t now z so_far =
    subst (λ (ops : List Op). StandsFirst shape chain (begun_at t.index ops t) now) (sym (no-ops t.index (phase_end t) t.program z.program_is)) (clears-on shape chain t now z so_far)

next-on : (shape : HeapShape) (chain : List Frame) (t : Thread) (now : List Made) → IsThreadZero shape t → GlobalsCleared shape t.cleared t.hands now → StandsFirst shape chain (next_op t) now
next-on shape chain t now z so_far =
    begins-on shape chain (record t { doing = Ended; index = cond (ltb t.index (length t.program)) (t.index + 1) t.index }) now z so_far

-- what is dropped behind a global that was cleared
lasts : (shape : HeapShape) (t : Thread) → IsThreadZero shape t → Lasts shape end_point (GlobalsCleared shape t.cleared) t (StandsFirst shape)
lasts shape t z = record {
  layout_is = z.layout_is;
  shape_is = z.shape_is;
  drops = λ chain held plan asked event now u newest. record { works = z; up_to = u };
  dies = λ chain c asked event kept hands taken now u newest. record { works = z; up_to = u };
  ends = λ chain slot plan asked event now u newest. record { works = z; up_to = u };
  over = λ chain event now newest so_far. next-on shape chain (record (idle t) { event = event }) now z so_far;
}

-- a global is cleared by one exchange
clears : (shape : HeapShape) → All IsServedRef shape.globals → (t : Thread) (s : Step) (w : ℕ) (now : List Made) → IsThreadZero shape t →
    (plan : SwapAttempt) → IsClearing shape t.cleared t.hands plan (Some s) now → IsCellAt shape.slots plan.at w →
    StandsFirst shape [] (cleared_on (swap_turned plan (Some w)) (swap_answer plan (Some w)) (idle t)) (made_at end_point s w (told_by (swap_told (cells.Global t.cleared) None (t.hands + 1)) (swap_answer plan (Some w))) ∷ now)
clears shape globals t s w now z plan u fits =
    go (swap_answer plan (Some w)) (swapping_goes_on shape.slots plan (Some w) u.word fits) (given clearing end_point u.base now plan s w u.waits)
  where
    clearing : Plan SwapAttempt SwapAnswer
    clearing = swap (extent_of shape) (cells.Global t.cleared) 0 None (t.hands + 1)

    after : List Made
    after = made_at end_point s w (told_by (swap_told (cells.Global t.cleared) None (t.hands + 1)) (swap_answer plan (Some w))) ∷ now

    kind : Kind
    kind = (next_global t).kind

    kind-is : (next_global t).kind ≡ global_kind shape t.cleared
    kind-is = rw z.shape_is refl

    again : (a : SwapAnswer) → swap_anew a ≡ true → Gave clearing end_point u.base after (nexts.Done a) (swap_turned plan (Some w)) → StandsFirst shape [] (clear_begun (idle t)) after
    again a anew g =
        clear-asks shape [] (idle t) after u.base z u.so_far u.there (starts-again clearing end_point u.base after _ a anew g)

    took : (x : ℕ) → x ≢ 1 → x < shape.slots + 2 → Gives clearing end_point u.base (swaps.Took x) after → (b : Bool) → eqb x 0 ≡ b →
        StandsFirst shape [] (cleared (next_global t) (cond b None (Some (record { hand = t.hands + 1; kind = (next_global t).kind; place = x - 2 }))) (idle t)) after
    took x free below g true e =
        next-on shape [] (swapped (next_global t).name None None (record (idle t) { cleared = t.cleared + 1 })) after z
        (globals_one u.so_far u.there g nil)
      where
        nil : Drops shape end_point [] (taken (t.hands + 1) (global_kind shape t.cleared) x) (hands_with t.hands x) after t.hands after
        nil = rw e drops_nothing
    took x free below g false e =
        let some : x ≢ 0 = eqb-false x 0 e in
        let old : Held = record { hand = t.hands + 1; kind = (next_global t).kind; place = x - 2 } in
        let counted : IsCountedInline (next_global t).kind =
        subst IsCountedInline (sym kind-is) (All-get_or IsServedRef shape.globals t.cleared (record { kind = Strong; class = 0 }) u.there globals) in
        let falling : Plan _ _ = down (extent_of shape) (next_global t).kind (x - 2) (t.hands + 1) in
        let v : Thread = swapped (next_global t).name None (Some old) (record (idle t) { cleared = t.cleared + 1 }) in
        let same : falling.start ≡ drop_from old v = rw z.layout_is refl in
        record {
          works = z;
          up_to = record {
            base = after;
            ends = λ came end y. globals_one u.so_far u.there g (dropped came end y);
            waits = waits falling end_point after after _ _ (begun-from falling end_point after after (drop_from old v) starts_first same);
            inside = record { place = above x free some below; kind = counted };
            bare = refl;
          };
        }
      where
        dropped : (came : ℕ) (end : List Made) → Drops shape end_point [] (ref (Some (record { hand = t.hands + 1; kind = (next_global t).kind; place = x - 2 }))) (t.hands + 1) after came end →
            Drops shape end_point [] (taken (t.hands + 1) (global_kind shape t.cleared) x) (hands_with t.hands x) after came end
        dropped came end y = rw e (subst (λ (c : Kind). Drops shape end_point [] (ref (Some (record { hand = t.hands + 1; kind = c; place = x - 2 }))) (t.hands + 1) after came end) kind-is y)

        above : (x : ℕ) → x ≢ 1 → x ≢ 0 → x < shape.slots + 2 → x - 2 < shape.slots
        above zero free some below = absurd (some refl)
        above (suc zero) free some below = absurd (free refl)
        above (suc (suc x)) free some below = omega arith

    go : (a : Next SwapAnswer) → SwappingGoesOn shape.slots (swap_turned plan (Some w)).at a → Gave clearing end_point u.base after a (swap_turned plan (Some w)) →
        StandsFirst shape [] (cleared_on (swap_turned plan (Some w)) a (idle t)) after
    go (nexts.Step s) on g = record {
      works = z;
      up_to = record { base = u.base; so_far = u.so_far; there = u.there; waits = waits clearing end_point u.base after _ s g; word = on };
    }
    go (nexts.Done (swaps.Took x)) on g = took x on.0 on.1 (gives clearing end_point u.base after _ (swaps.Took x) refl g) (eqb x 0) refl
    go (nexts.Done swaps.Busy) on g = again swaps.Busy refl g
    go (nexts.Done (swaps.Again c)) on g = again (swaps.Again c) refl g

-- Each word that thread 0 is given is that of a step of the end section, with the event that it tells.
pub keeps-first : (shape : HeapShape) → All IsServedClass shape.classes → All IsServedRef shape.globals → (chain : List Frame) (t : Thread) (s : Step) (w : ℕ) (now : List Made) → StandsFirst shape chain t now → step_in t.asked ≡ Some s → takes t (Some w) →
    FitsChain t chain (Some w) → IsBare (turned t (Some w)).doing → StandsFirst shape (chain_after t (Some w) chain) (turned t (Some w)) (made_at end_point s w (turned t (Some w)).event ∷ now)
keeps-first shape classes globals chain t s w now st asked takes fits bare = go t.doing st.up_to takes.0 fits bare
  where
    Left : List Frame → Thread → Option Act → Type 0
    Left fs u e = StandsFirst shape fs u (made_at end_point s w e ∷ now)

    slots-are : t.shape.slots ≡ shape.slots
    slots-are = ap (λ (h : HeapShape). h.slots) st.works.shape_is

    go : (d : Doing) → FirstUpTo shape chain t.cleared t.hands t.asked now d → takes_at t.shape (Some w) d → FitsChainAt chain (Some w) d → IsBare (turned_at (Some w) d (idle t)).doing →
        Left (chain_at (Some w) chain d) (turned_at (Some w) d (idle t)) (turned_at (Some w) d (idle t)).event
    go Ready u takes fits bare = absurd (cc)
    go (Making to name plan) u takes fits bare = absurd u
    go (Gaining gain to from plan) u takes fits bare = absurd u
    go (Naming to held plan) u takes fits bare = absurd u
    go (Opening to cell plan) u takes fits bare = absurd u
    go (Closing to cell held plan) u takes fits bare = absurd u
    go (Setting from cell plan) u takes fits bare = absurd u
    go (Clearing plan) u takes fits bare =
        subst (λ (e : Option Act). Left [] (cleared_on (swap_turned plan (Some w)) (swap_answer plan (Some w)) (idle t)) e)
        (sym (clears-tells t (swap_turned plan (Some w)) (swap_answer plan (Some w))))
        (clears shape globals t s w now st.works plan (rw asked at u) (subst (λ (m : ℕ). IsCellAt m plan.at w) slots-are takes.1))
    go (Dropping held plan) u takes fits bare =
        subst (λ (e : Option Act). Left [] (dropped_on held (down_turned plan (Some w)) (down_answer plan (Some w)) (idle t)) e)
        (sym (drops-tells t held (down_turned plan (Some w)) (down_answer plan (Some w))))
        (drops shape end_point (GlobalsCleared shape t.cleared) t (StandsFirst shape) (lasts shape t st.works) s w now held plan (rw asked at u) takes.1)
    go (Vacating slot plan) u takes fits bare =
        subst (λ (e : Option Act). Left [] (vacated_on slot (one_turned plan (Some w)) (vacate_answer plan (Some w)) (idle t)) e)
        (sym (ends-tells t slot (one_turned plan (Some w)) (vacate_answer plan (Some w))))
        (slot-ends shape end_point (GlobalsCleared shape t.cleared) t (StandsFirst shape) (lasts shape t st.works) s w now slot plan (rw asked at u))
    go (Dying c) u takes fits bare = dies-on shape end_point (GlobalsCleared shape t.cleared) t (StandsFirst shape) (lasts shape t st.works) classes chain s w now c (rw asked at u) takes fits bare
    go Ended u takes fits bare = absurd takes

-- It begins without a step.
pub begins-first : (shape : HeapShape) (chain : List Frame) (t : Thread) (now : List Made) → StandsFirst shape chain t now → takes t None → t.asked ≡ moves.PhaseEnd → StandsFirst shape chain (turned t None) now
begins-first shape chain t now st takes asked = go t.doing st.up_to takes.0
  where
    none : step_in t.asked ≡ None
    none = ap step_in asked

    go : (d : Doing) → FirstUpTo shape chain t.cleared t.hands t.asked now d → takes_at t.shape None d → StandsFirst shape chain (turned_at None d (idle t)) now
    go Ready u takes = begins-on shape chain (idle t) now st.works u.2
    go (Making to name plan) u takes = absurd u
    go (Gaining gain to from plan) u takes = absurd u
    go (Naming to held plan) u takes = absurd u
    go (Opening to cell plan) u takes = absurd u
    go (Closing to cell held plan) u takes = absurd u
    go (Setting from cell plan) u takes = absurd u
    go (Clearing plan) u takes = let e = u.waits.asked_is in let n = none in absurd (cc)
    go (Dropping held plan) u takes = let e = u.waits.asked_is in let n = none in absurd (cc)
    go (Vacating slot plan) u takes = let e = u.waits.asked_is in let n = none in absurd (cc)
    go (Dying c) u takes = let a = dying-asks shape end_point (GlobalsCleared shape t.cleared) chain c.slot t.hands (step_in t.asked) now c.at u.place in let e = a.1 in let n = none in absurd (cc)
    go Ended u takes = absurd takes

-- behind a step it never waits for a phase
pub never-waits : (shape : HeapShape) (chain : List Frame) (t : Thread) (m : Made) (now : List Made) → StandsFirst shape chain t (m ∷ now) → awaits_phase t ≡ false
never-waits shape chain t m now st = go t.doing st.up_to
  where
    asks : (o : Option Step) (s : Step) → step_in t.asked ≡ o → o ≡ Some s → awaits_phase t ≡ false
    asks o s e f = is t.asked (e ∙ f)
      where
        is : (x : Move) → step_in x ≡ Some s → is_phase_end x ≡ false
        is (moves.Step step intent) g = refl
        is moves.PhaseEnd g = absurd (cc)
        is moves.Ended g = refl

    go : (d : Doing) → FirstUpTo shape chain t.cleared t.hands t.asked (m ∷ now) d → awaits_phase t ≡ false
    go Ready u = let e = u.1 in absurd (cc)
    go (Making to name plan) u = absurd u
    go (Gaining gain to from plan) u = absurd u
    go (Naming to held plan) u = absurd u
    go (Opening to cell plan) u = absurd u
    go (Closing to cell held plan) u = absurd u
    go (Setting from cell plan) u = absurd u
    go (Clearing plan) u = asks (step_in t.asked) u.waits.step refl u.waits.asked_is
    go (Dropping held plan) u = asks (step_in t.asked) u.waits.step refl u.waits.asked_is
    go (Vacating slot plan) u = asks (step_in t.asked) u.waits.step refl u.waits.asked_is
    go (Dying c) u = let a = dying-asks shape end_point (GlobalsCleared shape t.cleared) chain c.slot t.hands (step_in t.asked) (m ∷ now) c.at u.place in asks (step_in t.asked) a.0 refl a.1
    go Ended u = rw u.0 refl

few-cleared : (shape : HeapShape) {done hands : ℕ} {now : List Made} → GlobalsCleared shape done hands now → done ≤ length shape.globals
few-cleared shape globals_none = omega arith
few-cleared shape (globals_one so_far there g d) = omega arith

-- where it has ended, all globals are cleared
pub all-cleared : (shape : HeapShape) (chain : List Frame) (t : Thread) (now : List Made) → StandsFirst shape chain t now → t.asked ≡ moves.Ended → (hands : ℕ) × GlobalsCleared shape (length shape.globals) hands now
all-cleared shape chain t now st ended = go t.doing st.up_to
  where
    none : step_in t.asked ≡ None
    none = ap step_in ended

    go : (d : Doing) → FirstUpTo shape chain t.cleared t.hands t.asked now d → (hands : ℕ) × GlobalsCleared shape (length shape.globals) hands now
    go Ready u = let e = u.0 in absurd (cc)
    go (Making to name plan) u = absurd u
    go (Gaining gain to from plan) u = absurd u
    go (Naming to held plan) u = absurd u
    go (Opening to cell plan) u = absurd u
    go (Closing to cell held plan) u = absurd u
    go (Setting from cell plan) u = absurd u
    go (Clearing plan) u = let e = u.waits.asked_is in let n = none in absurd (cc)
    go (Dropping held plan) u = let e = u.waits.asked_is in let n = none in absurd (cc)
    go (Vacating slot plan) u = let e = u.waits.asked_is in let n = none in absurd (cc)
    go (Dying c) u = let a = dying-asks shape end_point (GlobalsCleared shape t.cleared) chain c.slot t.hands (step_in t.asked) now c.at u.place in let e = a.1 in let n = none in absurd (cc)
    go Ended u =
        let same : t.cleared ≡ length shape.globals = (let few = few-cleared shape u.2 in let most : length shape.globals ≤ t.cleared = u.1 in omega arith) in
        (t.hands, subst (λ (n : ℕ). GlobalsCleared shape n t.hands now) same u.2)
