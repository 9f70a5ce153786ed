-- Each stage that a replay comes to has the steps of its threads, in order.
use Rattle.std.proofs.Common.{◌≡◌, ℕ, ◌+◌, ◌-◌, ◌<◌, ◌≤◌, Bool, true, false, eqb, List, [], ◌∷◌, length, set, Some, None, refl, sym, ap, subst, ◌∙◌, arith}
use Rattle.std.proofs.lemmas.Bool.{eqb-true, eqb-false}
use Rattle.std.proofs.lemmas.Option.{same_Some, slice_get_within}
use Rattle.std.proofs.lemmas.List.{length-set}
use Rattle.std.specs.Prelude.{slice_get}
use Rattle.arc_model.specs.Shapes.{HeapShape}
use Rattle.arc_rule.specs.Places.{extent_of}
use Rattle.arc_rule.specs.Steps.{found_by}
use Rattle.arc_rule.specs.declared.step.Step.{Step}
use Rattle.arc_rule.specs.declared.step.Intent.{Intent}
use Rattle.arc_side.specs.Downs.{Fall}
use Rattle.arc_side.specs.SlotEnds.{SlotEnding}
use Rattle.arc_cells.specs.declared.cascade.At.{At as CascadeAt}
use Rattle.arc_cells.specs.declared.cascade.At.TheVariants as at
use Rattle.arc_cells.specs.declared.ref_drop.At.{At as DropAt}
use Rattle.arc_cells.specs.declared.ref_drop.At.TheVariants as drops_at
use Rattle.arc_cells.specs.Chains.{Frame}
use Rattle.arc_cells.specs.Drops.{Dropping as Drop}
use Rattle.arc_script.specs.declared.script.ThreadDecl.{ThreadDecl}
use Rattle.arc_script.specs.declared.script.Script.{Script}
use Rattle.arc_script.specs.Valid.{IsScript}
use Rattle.arc_served.specs.Served.{IsServed}
use Rattle.arc_ops.specs.Thread.{Thread, stepper_of, in_access as accesses, in_operation}
use Rattle.arc_ops.specs.declared.stepper.Doing.{Doing}
use Rattle.arc_ops.specs.declared.stepper.Doing.TheVariants.{Ready, Making, Gaining, Naming, Opening, Closing, Setting, Clearing, Dropping, Dying, Vacating, Ended}
use Rattle.arc_ops.specs.Turns.{turned}
use Rattle.arc_ops.specs.Takes.{takes}
use Rattle.arc_spelled.specs.StepperStands.{chain_after, FitsChain}
use Rattle.arc_spelled.proofs.Declared.{globals-served}
use Rattle.arc_ops_passes.specs.Drives.{DropAsks, CascadeAsks, Asks}
use Rattle.arc_replays.proofs.Laws.{threads_are_at_work, steps_may_be_made}
use Rattle.arc_replays.specs.Stages.Reached.{new, begins, makes, passes, inside as goes_inside, ends_it, outside as goes_outside, by_number, last, last_step}
use Rattle.arc_replays.specs.Stages.{Stage, MayStep, Reached, is_step, has_step, is_phase_end, awaits_phase, new_threads, begun_threads, stamped, stepped, with_chain, chains_at}
use Rattle.arc_ops.specs.declared.told.Stamped.{Stamped}
use Rattle.arc_schedule.specs.Law.{events_of}
use Rattle.arc_schedule.specs.Made.{Made, made_at, own}
use Rattle.arc_schedule.specs.Made.Go.{none as go_none, step as go_step}
use Rattle.arc_schedule.specs.Orders.{in_access, enters, InOrder}
use Rattle.arc_schedule.specs.Threads.{end_point}
use Rattle.arc_schedule.proofs.Lists.{not-equal, equal, there-is, get-other, get-same}
use Rattle.arc_schedule.proofs.Newest.{IsHere}
use Rattle.arc_schedule.proofs.Deinits.{IsBareDrop, IsBareAt, IsBare}
use Rattle.arc_schedule.proofs.Stands.{Task, here, step_in, Stands, StandsFirst}
use Rattle.arc_schedule.proofs.Keeps.{keeps}
use Rattle.arc_schedule.proofs.First.{keeps-first, begins-first, never-waits}
use Rattle.arc_schedule.proofs.Accesses.{inside-on}
use Rattle.arc_schedule.proofs.Arranged.{reverse-onto, own-other, own-this, op_now, IsBehind, IsFrom, AreOutside, IsNot}
use Rattle.arc_schedule.proofs.Newer.{op-now-is, inside-newest, operation-newest, outside-behind, from-step, idle-outside}
use Rattle.arc_schedule.proofs.Ahead.{order-in, IsAhead, MadeBy, IsNewest, ahead-makes, ahead-by-number, ahead-inside, ahead-ends-it, ahead-outside, ahead-passes, ahead-begins, ahead-last, ahead-last-step}
use Rattle.arc_schedule.proofs.Asks.{asks-step, no-step, waits-for-phase, in-phase}
use Rattle.arc_schedule.proofs.Stages.{task_of, AllStand, AllInside, IsEnding, Follows}
use Rattle.arc_schedule.proofs.Opening.{job-served, new-there, new-many, new-stands, thread-valid, begun-first, first-begun, begun-many, begun-stands, first-stands, begun-inside}

-- ---- a thread of the script at a stage

-- its declaration, and what it stands for
record Found (script : Script) (some : 0 < script.shape.slots) (ending : ℕ) (s : Stage) {chains : ℕ → List Frame} (f : Follows script some ending s chains) (p : ℕ) (t : Thread) : Type 0 where
  place : ℕ
  place_is : place + 1 ≡ p
  within : place < length script.threads
  decl : ThreadDecl
  declared : slice_get script.threads place ≡ Some decl
  there : slice_get s.threads (place + 1) ≡ Some t
  stands : Stands (task_of script some place decl) s.begun (chains (place + 1)) t (own (place + 1) f.ms)

found : (script : Script) (some : 0 < script.shape.slots) (ending : ℕ) (s : Stage) {chains : ℕ → List Frame} (f : Follows script some ending s chains) (p : ℕ) (t : Thread) → 1 ≤ p → slice_get s.threads p ≡ Some t → Found script some ending s f p t
found script some ending s f p t first there = go (p - 1) (omega arith)
  where
    go : (i : ℕ) → i + 1 ≡ p → Found script some ending s f p t
    go i is =
        let within : i < length script.threads = (let a = f.many in let b = slice_get_within s.threads p t there in omega arith) in
        let d = there-is script.threads i within in
        let at : slice_get s.threads (i + 1) ≡ Some t = ap (λ (n : ℕ). slice_get s.threads n) is ∙ there in
        record { place = i; place_is = is; within = within; decl = d.0; declared = d.1; there = at; stands = f.stand i d.0 t d.1 at }

-- the steps say whether it is inside an access
inside-is : (script : Script) (some : 0 < script.shape.slots) (ending : ℕ) (s : Stage) {chains : ℕ → List Frame} (f : Follows script some ending s chains) (p : ℕ) (t : Thread) → 1 ≤ p → slice_get s.threads p ≡ Some t → in_access (extent_of script.shape) (own p f.ms) ≡ accesses t
inside-is script some ending s f p t first there =
    let x = found script some ending s f p t first there in
    subst (λ (n : ℕ). in_access (extent_of script.shape) (own n f.ms) ≡ accesses t) x.place_is (f.inside x.place t x.within x.there)

-- the newest step is the first one of the list
newest-is : (p phase number : ℕ) (thread : ℕ) (ms : List Made) (own_steps : List Made) → own p ms ≡ own_steps → IsHere (record { thread = thread; phase = phase; operation = number }) own_steps → IsNewest p phase number ms
newest-is p phase number thread ms [] is h = absurd h
newest-is p phase number thread ms (m ∷ rest) is h = (m, rest, is, h.0, h.1)

-- a thread that is inside an access has made a step of its operation in the phase
newest-inside : (script : Script) (some : 0 < script.shape.slots) (ending : ℕ) (s : Stage) {chains : ℕ → List Frame} (f : Follows script some ending s chains) (p : ℕ) (t : Thread) → 1 ≤ p → slice_get s.threads p ≡ Some t → has_step t ≡ true → accesses t ≡ true →
    IsNewest p (s.begun - 1) (op_now t) f.ms × (1 ≤ op_now t) × (1 ≤ s.begun)
newest-inside script some ending s f p t first there has inside =
    let x = found script some ending s f p t first there in
    let k : Task = task_of script some x.place x.decl in
    let st = x.stands in
    let a = asks-step t has in
    let phase : st.job.phase + 1 ≡ s.begun = in-phase k s.begun t a.0 (own (x.place + 1) f.ms) st a.1 in
    let h = inside-newest k s.begun t (own (x.place + 1) f.ms) st inside in
    let number : op_now t ≡ (here k st.job st.at).operation = op-now-is k st.job st.at t st.works in
    let same : st.job.phase ≡ s.begun - 1 = omega arith in
    let n : IsNewest (x.place + 1) st.job.phase (here k st.job st.at).operation f.ms = newest-is (x.place + 1) st.job.phase (here k st.job st.at).operation (x.place + 1) f.ms (own (x.place + 1) f.ms) refl h.0 in
    let n' : IsNewest p (s.begun - 1) (op_now t) f.ms = subst (λ (q : ℕ). IsNewest q (s.begun - 1) (op_now t) f.ms) x.place_is (subst (λ (c : ℕ). IsNewest (x.place + 1) c (op_now t) f.ms) same (subst (λ (o : ℕ). IsNewest (x.place + 1) st.job.phase o f.ms) (sym number) n)) in
    (n', subst (λ (o : ℕ). 1 ≤ o) (sym number) h.1, omega arith)

newest-operation : (script : Script) (some : 0 < script.shape.slots) (ending : ℕ) (s : Stage) {chains : ℕ → List Frame} (f : Follows script some ending s chains) (p : ℕ) (t : Thread) → 1 ≤ p → slice_get s.threads p ≡ Some t → has_step t ≡ true → in_operation t ≡ true →
    IsNewest p (s.begun - 1) (op_now t) f.ms × (1 ≤ op_now t)
newest-operation script some ending s f p t first there has inside =
    let x = found script some ending s f p t first there in
    let k : Task = task_of script some x.place x.decl in
    let st = x.stands in
    let a = asks-step t has in
    let phase : st.job.phase + 1 ≡ s.begun = in-phase k s.begun t a.0 (own (x.place + 1) f.ms) st a.1 in
    let h = operation-newest k s.begun t a.0 (own (x.place + 1) f.ms) st a.1 inside in
    let number : op_now t ≡ (here k st.job st.at).operation = op-now-is k st.job st.at t st.works in
    let same : st.job.phase ≡ s.begun - 1 = omega arith in
    let n : IsNewest (x.place + 1) st.job.phase (here k st.job st.at).operation f.ms = newest-is (x.place + 1) st.job.phase (here k st.job st.at).operation (x.place + 1) f.ms (own (x.place + 1) f.ms) refl h.0 in (
      subst (λ (q : ℕ). IsNewest q (s.begun - 1) (op_now t) f.ms) x.place_is (subst (λ (c : ℕ). IsNewest (x.place + 1) c (op_now t) f.ms) same (subst (λ (o : ℕ). IsNewest (x.place + 1) st.job.phase o f.ms) (sym number) n)),
      subst (λ (o : ℕ). 1 ≤ o) (sym number) h.1,
    )

-- no other thread is inside an access by its steps
others-outside : (script : Script) (some : 0 < script.shape.slots) (ending : ℕ) (s : Stage) {chains : ℕ → List Frame} (f : Follows script some ending s chains) (P : ℕ → Type 0) →
    ((q : ℕ) (u : Thread) → 1 ≤ q → P q → slice_get s.threads q ≡ Some u → accesses u ≡ false) → AreOutside (extent_of script.shape) (length script.threads) f.ms P
others-outside script some ending s f P out q first few those =
    let u = there-is s.threads q (let a = f.many in omega arith) in
    inside-is script some ending s f q u.0 first u.1 ∙ out q u.0 first those u.1

-- ---- a step is made

-- no entry counts what a thread at work gives up
bare : (shape : HeapShape) (chain : List Frame) (t : Thread) (d : Doing) → Asks shape chain t d → IsBare d
bare shape chain t Ready a = tt
bare shape chain t (Making to name plan) a = tt
bare shape chain t (Gaining gain to from plan) a = tt
bare shape chain t (Naming to held plan) a = tt
bare shape chain t (Opening to cell plan) a = tt
bare shape chain t (Closing to cell held plan) a = tt
bare shape chain t (Setting from cell plan) a = tt
bare shape chain t (Clearing plan) a = tt
bare shape chain t (Dropping held plan) a = tt
bare shape chain t (Dying c) a = go c.at a.1
  where
    dropping : (d : Drop) (a : DropAt) → DropAsks shape t.asked d a → IsBareDrop a
    dropping d drops_at.Start a = absurd a
    dropping d (drops_at.Counting p) a = ap (λ (q : Fall). q.entry) a.0
    dropping d (drops_at.InEntry p) a = absurd a
    dropping d (drops_at.Ending p) a = ap (λ (q : SlotEnding). q.entry) a.0
    dropping d drops_at.Returning a = absurd a
    dropping d drops_at.Ended a = absurd a

    go : (a : CascadeAt) → CascadeAsks shape t.asked chain c.slot a → IsBareAt a
    go at.Start a = tt
    go at.Entering a = tt
    go at.Naming a = tt
    go (at.Named name) a = tt
    go (at.Looking name field) a = tt
    go (at.Taking name field place) a = tt
    go (at.Dropping name field d) a = dropping d d.at a.1
    go at.Leaving a = tt
    go (at.Finishing parent p) a = ap (λ (q : Fall). q.entry) a.1
    go (at.Ending parent p) a = tt
    go (at.Resuming field) a = tt
    go at.Ended a = tt
bare shape chain t (Vacating slot plan) a = tt
bare shape chain t Ended a = tt

-- so it is behind each step
bare-behind : (script : Script) → IsScript script → IsServed script → (ending : ℕ) (s : Stage) (p : ℕ) (t : Thread) (step : Step) → Reached script ending (stepped p t step s) → slice_get s.threads p ≡ Some t →
    IsBare (turned t (Some (found_by step s.words))).doing
bare-behind script valid served ending s p t step r there =
    let new : Thread = turned t (Some (found_by step s.words)) in
    let many = length-set s.threads p new in
    let u = there-is (set s.threads p new) p (let within = slice_get_within s.threads p t there in omega arith) in
    let work = threads_are_at_work script ending (stepped p t step s) p u.0 valid served r u.1 in
    subst (λ (v : Thread). IsBare v.doing) (get-same s.threads p new u.0 u.1) (bare script.shape (chains_at r p) u.0 u.0.doing work.asks)

-- and the word shows the chain of the thread
fits-chain : (script : Script) → IsScript script → IsServed script → {ending : ℕ} {s : Stage} (r : Reached script ending s) (p : ℕ) (t : Thread) (step : Step) (intent : Intent) → MayStep s p t step intent → FitsChain t (chains_at r p) (Some (found_by step s.words))
fits-chain script valid served {ending = ending} {s = s} r p t step intent may = (steps_may_be_made script ending s p t step intent valid served r may.there may.stepper may.asked).fits

-- the chains behind a step: the thread's own, and the others
chain-this : (p : ℕ) (own : List Frame) (chains : ℕ → List Frame) (q : ℕ) → q ≡ p → with_chain p own chains q ≡ own
chain-this p own chains q same = let e : eqb q p ≡ true = equal q p same in rw e refl

chain-other : (p : ℕ) (own : List Frame) (chains : ℕ → List Frame) (q : ℕ) → (q ≡ p → ⊥) → with_chain p own chains q ≡ chains q
chain-other p own chains q differ = let e : eqb q p ≡ false = not-equal q p differ in rw e refl

-- what is behind a step of thread p, where these places are left
abbrev behind : ℕ → Thread → Step → List ℕ → Stage → Stage
behind p t step places s = stepped p t step (record s { places = places })

-- how the step stands in the order
abbrev IsOrdered : Script → ℕ → Stage → List Made → (p : ℕ) → Thread → Step → Stage → Type 0
IsOrdered script ending s ms p t step after =
    (m : Made) (left : List Made) → MadeBy script s p t (turned t (Some (found_by step s.words))) m → IsAhead script ending after (m ∷ ms) left → IsAhead script ending s ms (m ∷ left)

steps-on : (script : Script) (some : 0 < script.shape.slots) → IsScript script → IsServed script → (ending : ℕ) (s : Stage) (p : ℕ) (places : List ℕ) (t : Thread) (step : Step) (intent : Intent) → {chains : ℕ → List Frame} (f : Follows script some ending s chains) → 1 ≤ p → MayStep s p t step intent →
    (1 ≤ ending → (ending ≡ p) × (places ≡ []) × (1 ≤ op_now t)) →
    FitsChain t (chains p) (Some (found_by step s.words)) → IsBare (turned t (Some (found_by step s.words))).doing → IsOrdered script ending s f.ms p t step (behind p t step places s) →
    Follows script some ending (behind p t step places s) (with_chain p (chain_after t (Some (found_by step s.words)) (chains p)) chains)
steps-on script some valid served ending s p places t step intent {chains = chains} f other may at_end fits bare ordered = with (found script some ending s f p t other may.there)
  where
    new : Thread
    new = turned t (Some (found_by step s.words))

    has : has_step t ≡ true
    has = ap is_step may.asked

    asked : step_in t.asked ≡ Some step
    asked = ap step_in may.asked

    -- the chains behind the step
    after : ℕ → List Frame
    after = with_chain p (chain_after t (Some (found_by step s.words)) (chains p)) chains

    with : Found script some ending s f p t → Follows script some ending (behind p t step places s) (with_chain p (chain_after t (Some (found_by step s.words)) (chains p)) chains)
    with x = record {
      ms = m ∷ f.ms;
      goes = go_step (here k st.job st.at) step (turned t (Some (found_by step s.words))).event f.goes;
      count = let c = f.count in omega arith;
      events_are = let c = f.count in rw (c, x.place_is, f.events_are) refl;
      threads_in = (let a = x.within in omega arith, f.threads_in);
      many = length-set s.threads p new ∙ f.many;
      stand = stand;
      inside = inside_all;
      first = λ u e. subst (λ (fs : List Frame). StandsFirst script.shape fs u (own 0 (m ∷ f.ms))) (sym (chain-other p (chain_after t (Some (found_by step s.words)) (chains p)) chains 0 (λ z. (let y : 0 ≡ p = z in absurd (omega arith)))))
          (subst (StandsFirst script.shape (chains 0) u) (sym (own-other m f.ms 0 (λ z. (let y : x.place + 1 ≡ 0 = z in absurd (omega arith))))) (f.first u (zero-there u e)));
      alone = λ u e waits. (let y = f.alone u (zero-there u e) waits in let z = y.0 p t other may.there in absurd (cc));
      ends = λ some_end. (let e = at_end some_end in record {
        no_place = e.1;
        newest = m;
        rest = own ending f.ms;
        own_is = own-this m f.ms ending (x.place_is ∙ sym e.0);
        number = subst (λ (o : ℕ). 1 ≤ o) number e.2;
        phase = phase;
      });
      order = λ left a. subst (λ (xs : List Made). InOrder (extent_of script.shape) (length script.threads) 0 script.schedule [] xs) (sym (reverse-onto f.ms left m)) (f.order (m ∷ left) (ordered m left made_by_it a));
    }
      where
        i : ℕ
        i = x.place

        k : Task
        k = task_of script some x.place x.decl

        st : Stands (task_of script some x.place x.decl) s.begun (chains (x.place + 1)) t (own (x.place + 1) f.ms)
        st = x.stands

        m : Made
        m = made_at (here k st.job st.at) step (found_by step s.words) (turned t (Some (found_by step s.words))).event

        phase : st.job.phase + 1 ≡ s.begun
        phase = in-phase k s.begun t step (own (x.place + 1) f.ms) st asked

        number : op_now t ≡ (here k st.job st.at).operation
        number = op-now-is k st.job st.at t st.works

        zero-there : (u : Thread) → slice_get (set s.threads p (turned t (Some (found_by step s.words)))) 0 ≡ Some u → slice_get s.threads 0 ≡ Some u
        zero-there u e = sym (get-other s.threads p 0 (turned t (Some (found_by step s.words))) (λ z. (let y : p ≡ 0 = z in absurd (omega arith)))) ∙ e

        -- its own chain behind the step
        mine : List Frame
        mine = chain_after t (Some (found_by step s.words)) (chains (x.place + 1))

        kept : Stands (task_of script some x.place x.decl) s.begun (chain_after t (Some (found_by step s.words)) (chains (x.place + 1))) (turned t (Some (found_by step s.words))) (m ∷ own (x.place + 1) f.ms)
        kept = keeps k s.begun (chains (x.place + 1)) t step (found_by step s.words) (own (x.place + 1) f.ms) st (job-served script some valid served x.place x.decl x.declared st.job.phase st.job.ops st.job.there) asked may.takes_it
            (subst (λ (q : ℕ). FitsChain t (chains q) (Some (found_by step s.words))) (sym x.place_is) fits) bare

        made_by_it : MadeBy script s p t (turned t (Some (found_by step s.words))) m
        made_by_it = record {
          other = other;
          there = may.there;
          has = has;
          thread = x.place_is;
          phase = phase;
          few = let a = x.within in let b = x.place_is in omega arith;
          number = sym number;
          on = on;
          waits = λ u e. waits u e (awaits_phase u) refl;
        }
          where
            on : has_step (turned t (Some (found_by step s.words))) ≡ true → IsFrom (op_now t) (op_now (turned t (Some (found_by step s.words))))
            on has_new =
                let a = asks-step (turned t (Some (found_by step s.words))) has_new in
                let later : kept.job.phase + 1 ≡ s.begun = in-phase k s.begun (turned t (Some (found_by step s.words))) a.0 (m ∷ own (x.place + 1) f.ms) kept a.1 in
                subst (λ (o : ℕ). IsFrom o (op_now (turned t (Some (found_by step s.words))))) (sym number)
                (from-step k s.begun (turned t (Some (found_by step s.words))) a.0 m (own (x.place + 1) f.ms) kept a.1 phase later)

            waits : (u : Thread) → slice_get s.threads 0 ≡ Some u → (b : Bool) → awaits_phase u ≡ b → awaits_phase u ≡ true
            waits u e true w = w
            waits u e false w = let y = f.alone u e w in let z = y.0 p t other may.there in absurd (cc)

        stand : AllStand script some s.begun (with_chain p (chain_after t (Some (found_by step s.words)) (chains p)) chains) (set s.threads p (turned t (Some (found_by step s.words)))) (m ∷ f.ms)
        stand y decl u at get = which (eqb i y) refl
          where
            which : (b : Bool) → eqb i y ≡ b → Stands (task_of script some y decl) s.begun (after (y + 1)) u (own (y + 1) (m ∷ f.ms))
            which true e =
                let same : i ≡ y = eqb-true i y e in
                let decls : x.decl ≡ decl = same_Some x.decl decl (sym x.declared ∙ ap (λ (n : ℕ). slice_get script.threads n) same ∙ at) in
                let turned_is : u ≡ turned t (Some (found_by step s.words)) =
                get-same s.threads (y + 1) (turned t (Some (found_by step s.words))) u (ap (λ (n : ℕ). slice_get (set s.threads n (turned t (Some (found_by step s.words)))) (y + 1)) (ap (λ (n : ℕ). n + 1) (sym same) ∙ x.place_is) ∙ get) in
                let chain_is : after (y + 1) ≡ mine =
                chain-this p (chain_after t (Some (found_by step s.words)) (chains p)) chains (y + 1) (let a = x.place_is in omega arith) ∙ ap (λ (q : ℕ). chain_after t (Some (found_by step s.words)) (chains q)) (sym x.place_is) in
                let A : ℕ → Type 0 = λ (n : ℕ). Stands (task_of script some n x.decl) s.begun mine (turned t (Some (found_by step s.words))) (own (n + 1) (m ∷ f.ms)) in
                let B : ThreadDecl → Type 0 = λ (c : ThreadDecl). Stands (task_of script some y c) s.begun mine (turned t (Some (found_by step s.words))) (own (y + 1) (m ∷ f.ms)) in
                let C : Thread → Type 0 = λ (v : Thread). Stands (task_of script some y decl) s.begun mine v (own (y + 1) (m ∷ f.ms)) in
                let D : List Made → Type 0 = λ (xs : List Made). Stands (task_of script some x.place x.decl) s.begun mine (turned t (Some (found_by step s.words))) xs in
                let E : List Frame → Type 0 = λ (fs : List Frame). Stands (task_of script some y decl) s.begun fs u (own (y + 1) (m ∷ f.ms)) in
                subst E (sym chain_is) (subst C (sym turned_is) (subst B decls (subst A same (subst D (sym (own-this m f.ms (x.place + 1) refl)) kept))))
            which false e =
                let differ : i ≡ y → ⊥ = eqb-false i y e in
                let apart : p ≡ y + 1 → ⊥ = λ z. (let q : p ≡ y + 1 = z in let w = x.place_is in differ (omega arith)) in
                let beside : i + 1 ≡ y + 1 → ⊥ = λ z. (let q : i + 1 ≡ y + 1 = z in differ (omega arith)) in
                let chain_is : after (y + 1) ≡ chains (y + 1) = chain-other p (chain_after t (Some (found_by step s.words)) (chains p)) chains (y + 1) (λ z. apart (sym z)) in
                subst (λ (fs : List Frame). Stands (task_of script some y decl) s.begun fs u (own (y + 1) (m ∷ f.ms))) (sym chain_is)
                (subst (λ (xs : List Made). Stands (task_of script some y decl) s.begun (chains (y + 1)) u xs) (sym (own-other m f.ms (y + 1) beside)) (f.stand y decl u at (sym (get-other s.threads p (y + 1) (turned t (Some (found_by step s.words))) apart) ∙ get)))

        inside_all : AllInside script (set s.threads p (turned t (Some (found_by step s.words)))) (m ∷ f.ms)
        inside_all y u within get = which (eqb i y) refl
          where
            which : (b : Bool) → eqb i y ≡ b → in_access (extent_of script.shape) (own (y + 1) (m ∷ f.ms)) ≡ accesses u
            which true e =
                let same : i ≡ y = eqb-true i y e in
                let turned_is : u ≡ turned t (Some (found_by step s.words)) =
                get-same s.threads (y + 1) (turned t (Some (found_by step s.words))) u (ap (λ (n : ℕ). slice_get (set s.threads n (turned t (Some (found_by step s.words)))) (y + 1)) (ap (λ (n : ℕ). n + 1) (sym same) ∙ x.place_is) ∙ get) in
                let before : in_access (extent_of script.shape) (own (x.place + 1) f.ms) ≡ accesses t = f.inside x.place t x.within x.there in
                let one : in_access (extent_of script.shape) (m ∷ own (x.place + 1) f.ms) ≡ accesses (turned t (Some (found_by step s.words))) =
                ap (λ (b : Bool). enters (extent_of script.shape) step (found_by step s.words) b) before ∙ inside-on k s.begun t step (found_by step s.words) (own (x.place + 1) f.ms) st asked may.takes_it in
                subst (λ (n : ℕ). in_access (extent_of script.shape) (own (n + 1) (m ∷ f.ms)) ≡ accesses u) same
                (ap (λ (xs : List Made). in_access (extent_of script.shape) xs) (own-this m f.ms (x.place + 1) refl) ∙ one ∙ sym (ap (λ (v : Thread). accesses v) turned_is))
            which false e =
                let differ : i ≡ y → ⊥ = eqb-false i y e in
                let apart : p ≡ y + 1 → ⊥ = λ z. (let q : p ≡ y + 1 = z in let w = x.place_is in differ (omega arith)) in
                let beside : i + 1 ≡ y + 1 → ⊥ = λ z. (let q : i + 1 ≡ y + 1 = z in differ (omega arith)) in
                ap (λ (xs : List Made). in_access (extent_of script.shape) xs) (own-other m f.ms (y + 1) beside) ∙ f.inside y u within (sym (get-other s.threads p (y + 1) (turned t (Some (found_by step s.words))) apart) ∙ get)

-- ---- each stage

some-begun : (script : Script) (some : 0 < script.shape.slots) (ending : ℕ) (s : Stage) {chains : ℕ → List Frame} (f : Follows script some ending s chains) (p : ℕ) (t : Thread) → 1 ≤ p → slice_get s.threads p ≡ Some t → has_step t ≡ true → 1 ≤ s.begun
some-begun script some ending s f p t other there has =
    let x = found script some ending s f p t other there in
    let a = asks-step t has in
    let b : x.stands.job.phase + 1 ≡ s.begun = in-phase (task_of script some x.place x.decl) s.begun t a.0 (own (x.place + 1) f.ms) x.stands a.1 in
    omega arith

no-ending : {A : Type 0} → 1 ≤ 0 → A
no-ending e = absurd (omega arith)

-- a thread inside an access has a step
inside-has : (script : Script) (some : 0 < script.shape.slots) (ending : ℕ) (s : Stage) {chains : ℕ → List Frame} (f : Follows script some ending s chains) (p : ℕ) (t : Thread) → 1 ≤ p → slice_get s.threads p ≡ Some t → accesses t ≡ true → has_step t ≡ true
inside-has script some ending s f p t first there inside = go (has_step t) refl
  where
    go : (b : Bool) → has_step t ≡ b → has_step t ≡ true
    go true e = e
    go false e =
        let x = found script some ending s f p t first there in
        let out = idle-outside (task_of script some x.place x.decl) s.begun t (own (x.place + 1) f.ms) x.stands (no-step t e) in
        absurd (cc)

pub follows : (script : Script) → IsScript script → IsServed script → (some : 0 < script.shape.slots) → {ending : ℕ} {s : Stage} (r : Reached script ending s) → Follows script some ending s (chains_at r)
follows script valid served some new = record {
  ms = [];
  goes = go_none;
  count = refl;
  events_are = refl;
  threads_in = tt;
  many = new-many script (length script.threads + 1) 0;
  stand = λ i decl t there get. subst (λ (u : Thread). Stands (task_of script some i decl) 0 [] u []) (sym (is-new i t get)) (new-stands script some i decl there (thread-valid script i decl valid there));
  inside = λ i t within get. sym (ap (λ (v : Thread). accesses v) (is-new i t get));
  first = λ t e. subst (λ (u : Thread). StandsFirst script.shape [] u []) (sym (new-there script (length script.threads + 1) 0 0 t e)) (first-stands script);
  alone = λ t e waits. (let is : t ≡ stepper_of script 0 = new-there script (length script.threads + 1) 0 0 t e in let f : awaits_phase (stepper_of script 0) ≡ false = subst (λ (u : Thread). awaits_phase u ≡ false) is waits in absurd (cc));
  ends = no-ending;
  order = λ left a. order-in (extent_of script.shape) (length script.threads) 0 (new_threads script (length script.threads + 1) 0) script.schedule [] left a.order;
}
  where
    is-new : (i : ℕ) (t : Thread) → slice_get (new_threads script (length script.threads + 1) 0) (i + 1) ≡ Some t → t ≡ stepper_of script (i + 1)
    is-new i t get =
        let is : t ≡ stepper_of script (0 + (i + 1)) = new-there script (length script.threads + 1) 0 (i + 1) t get in
        let same : 0 + (i + 1) ≡ i + 1 = omega arith in
        is ∙ ap (λ (n : ℕ). stepper_of script n) same
follows script valid served some (begins {s = s} r quiet waits takes) =
    let f = follows script valid served some r in
    record {
      ms = f.ms;
      goes = f.goes;
      count = f.count;
      events_are = f.events_are;
      threads_in = f.threads_in;
      many = begun-many s.threads ∙ f.many;
      stand = λ i decl t there get. begun-stands script valid served some s (chains_at r) f.ms f.stand quiet takes i decl t there get;
      inside = begun-inside script some s (chains_at r) f.ms f.stand f.inside takes;
      first = λ t e. f.first t (begun-first s.threads t e);
      alone = λ t e away. (let y = f.alone t (begun-first s.threads t e) away in let z = y.1 waits.place waits.thread waits.other waits.there in let w = waits.passes in absurd (cc));
      ends = no-ending;
      order = λ left a. f.order left (ahead-begins script s (begun_threads s.threads) f.ms left quiet (λ u e. first-begun s.threads u e) a);
    }
follows script valid served some (makes {s = s} {p = p} {places = places} {t = t} step intent r place other may) =
    let f = follows script valid served some r in
    steps-on script some valid served 0 s p places t step intent f other may no-ending (fits-chain script valid served r p t step intent may) (bare-behind script valid served 0 (record s { places = places }) p t step (makes step intent r place other may) may.there)
    (λ m left h a. ahead-makes script s p places t (turned t (Some (found_by step s.words))) m f.ms left place h (behind p t step places s) (refl, refl, refl) a)
follows script valid served some (passes {s = s} {p = p} {places = places} {t = t} r place other there has waits) =
    let f = follows script valid served some r in
    let begun = some-begun script some 0 s f waits.place waits.thread waits.other waits.there waits.passes in
    record {
      ms = f.ms;
      goes = f.goes;
      count = f.count;
      events_are = f.events_are;
      threads_in = f.threads_in;
      many = f.many;
      stand = f.stand;
      inside = f.inside;
      first = f.first;
      alone = f.alone;
      ends = no-ending;
      order = λ left a. f.order left (ahead-passes script s p places t f.ms left place other there has waits begun a);
    }
follows script valid served some (goes_inside {s = s} {p = p} {t = t} r place other below there in_it) =
    let f = follows script valid served some r in
    let has = inside-has script some 0 s f p t other there in_it in
    let n = newest-inside script some 0 s f p t other there has in_it in
    let begun : 1 ≤ s.begun = n.2 in
    record {
      ms = f.ms;
      goes = f.goes;
      count = f.count;
      events_are = f.events_are;
      threads_in = f.threads_in;
      many = f.many;
      stand = f.stand;
      inside = f.inside;
      first = f.first;
      alone = f.alone;
      ends = λ some_end. record { no_place = place; newest = n.0.0; rest = n.0.1; own_is = n.0.2; number = (let e : n.0.0.point.operation ≡ op_now t = n.0.4 in let least = n.1 in omega arith); phase = (let e : n.0.0.point.phase ≡ s.begun - 1 = n.0.3 in omega arith) };
      order = λ left a. f.order left (ahead-inside script s p f.ms left place other (let a = f.many in let b = slice_get_within s.threads p t there in omega arith)
          (others-outside script some 0 s f (λ q. q < p) (λ q u first less at. below q u first less at)) (inside-is script some 0 s f p t other there ∙ in_it) a);
    }
follows script valid served some (ends_it {s = s} {p = p} {t = t} step intent r other may in_it) =
    let f = follows script valid served some r in
    let has : has_step t ≡ true = ap is_step may.asked in
    let n = newest-operation script some p s f p t other may.there has in_it in
    let e = f.ends other in
    let place : s.places ≡ [] = e.no_place in
    steps-on script some valid served p s p s.places t step intent f other may (λ some_end. (refl, place, n.1)) (fits-chain script valid served r p t step intent may) (bare-behind script valid served p s p t step (ends_it step intent r other may in_it) may.there)
    (λ m left h a. ahead-ends-it script s p t (turned t (Some (found_by step s.words))) m f.ms left place h n.0 (behind p t step s.places s) (refl, place, refl) f.many a)
follows script valid served some (goes_outside {s = s} {p = p} {t = t} r other there away) =
    let f = follows script valid served some r in
    let e = f.ends other in
    let begun : 1 ≤ s.begun = (let c = e.phase in omega arith) in
    record {
      ms = f.ms;
      goes = f.goes;
      count = f.count;
      events_are = f.events_are;
      threads_in = f.threads_in;
      many = f.many;
      stand = f.stand;
      inside = f.inside;
      first = f.first;
      alone = f.alone;
      ends = no-ending;
      order = λ left a. f.order left (ahead-outside script s p t e.newest e.rest f.ms left e.no_place other begun there e.own_is (λ has. later f e has) a);
    }
  where
    later : (f : Follows script some p s (chains_at r)) (e : IsEnding s.begun p s.places f.ms) → has_step t ≡ true → IsBehind e.newest.point.operation (op_now t)
    later f e has =
        let x = found script some p s f p t other there in
        let a = asks-step t has in
        let own_is : own (x.place + 1) f.ms ≡ e.newest ∷ e.rest = ap (λ (q : ℕ). own q f.ms) x.place_is ∙ e.own_is in
        behind-it x.place x.decl (subst (λ (xs : List Made). Stands (task_of script some x.place x.decl) s.begun (chains_at r (x.place + 1)) t xs) own_is x.stands) a.0 a.1
      where
        behind-it : (i : ℕ) (decl : ThreadDecl) (st : Stands (task_of script some i decl) s.begun (chains_at r (i + 1)) t (e.newest ∷ e.rest)) (step : Step) → step_in t.asked ≡ Some step → IsBehind e.newest.point.operation (op_now t)
        behind-it i decl st step asked =
            outside-behind (task_of script some i decl) s.begun t step e.newest e.rest st asked away e.number e.phase (in-phase (task_of script some i decl) s.begun t step (e.newest ∷ e.rest) st asked)
follows script valid served some (by_number {s = s} {p = p} {t = t} step intent r place other below alone may) =
    let f = follows script valid served some r in
    let has : has_step t ≡ true = ap is_step may.asked in
    steps-on script some valid served 0 s p s.places t step intent f other may no-ending (fits-chain script valid served r p t step intent may) (bare-behind script valid served 0 s p t step (by_number step intent r place other below alone may) may.there)
    (λ m left h a. ahead-by-number script s p t (turned t (Some (found_by step s.words))) m f.ms left place below h (others-outside script some 0 s f (IsNot p) (λ q u first differ at. alone q u first differ at))
    (λ e. (newest-inside script some 0 s f p t other may.there has (sym (inside-is script some 0 s f p t other may.there) ∙ e)).0)
    (behind p t step s.places s) (refl, place, refl) f.many a)
follows script valid served some (last {s = s} {t = t} r quiet none there waits takes) =
    let f = follows script valid served some r in
    record {
      ms = f.ms;
      goes = f.goes;
      count = f.count;
      events_are = f.events_are;
      threads_in = f.threads_in;
      many = length-set s.threads 0 (turned t None) ∙ f.many;
      stand = λ i decl u at get. f.stand i decl u at (others (i + 1) u (omega arith) get);
      inside = λ i u within get. f.inside i u within (others (i + 1) u (omega arith) get);
      first = λ u e. subst (λ (v : Thread). StandsFirst script.shape (chains_at r 0) v (own 0 f.ms)) (sym (get-same s.threads 0 (turned t None) u e)) (begins-first script.shape (chains_at r 0) t (own 0 f.ms) (f.first t there) takes (waits-for-phase t waits));
      alone = λ u e away. (λ p v first get. quiet p v first (others p v first get), λ p v first get. none p v first (others p v first get));
      ends = no-ending;
      order = λ left a. f.order left (ahead-last script s t (turned t None) f.ms left there waits a);
    }
  where
    others : (p : ℕ) (v : Thread) → 1 ≤ p → slice_get (set s.threads 0 (turned t None)) p ≡ Some v → slice_get s.threads p ≡ Some v
    others p v first get = sym (get-other s.threads 0 p (turned t None) (λ z. (let y : 0 ≡ p = z in absurd (omega arith)))) ∙ get
follows script valid served some (last_step {s = s} {t = t} step intent r may) =
    let f = follows script valid served some r in
    let away : awaits_phase t ≡ false = ap is_phase_end may.asked in
    let y = f.alone t may.there away in
    let m : Made = made_at end_point step (found_by step s.words) (turned t (Some (found_by step s.words))).event in
    let mine : List Frame = chain_after t (Some (found_by step s.words)) (chains_at r 0) in
    let stands : StandsFirst script.shape mine (turned t (Some (found_by step s.words))) (m ∷ own 0 f.ms) =
    keeps-first script.shape served.classes (globals-served script valid served) (chains_at r 0) t step (found_by step s.words) (own 0 f.ms) (f.first t may.there) (ap step_in may.asked) may.takes_it (fits-chain script valid served r 0 t step intent may) (bare-behind script valid served 0 s 0 t step (last_step step intent r may) may.there) in
    record {
      ms = m ∷ f.ms;
      goes = go_step end_point step (turned t (Some (found_by step s.words))).event f.goes;
      count = let c = f.count in omega arith;
      events_are = ap (λ (es : List Stamped). stamped (s.steps + 1) 0 (turned t (Some (found_by step s.words))).event es) f.events_are ∙ ap (λ (n : ℕ). stamped (n + 1) 0 (turned t (Some (found_by step s.words))).event (events_of f.ms)) (sym f.count);
      threads_in = (omega arith, f.threads_in);
      many = length-set s.threads 0 (turned t (Some (found_by step s.words))) ∙ f.many;
      stand = λ i decl u at get. subst (λ (xs : List Made). Stands (task_of script some i decl) s.begun (with_chain 0 mine (chains_at r) (i + 1)) u xs) (sym (own-other m f.ms (i + 1) (λ z. (let q : 0 ≡ i + 1 = z in absurd (omega arith))))) (subst (λ (fs : List Frame). Stands (task_of script some i decl) s.begun fs u (own (i + 1) f.ms)) (sym (chain-other 0 mine (chains_at r) (i + 1) (λ z. (let q : i + 1 ≡ 0 = z in absurd (omega arith))))) (f.stand i decl u at (others (i + 1) u (omega arith) get)));
      inside = λ i u within get. ap (λ (xs : List Made). in_access (extent_of script.shape) xs) (own-other m f.ms (i + 1) (λ z. (let q : 0 ≡ i + 1 = z in absurd (omega arith)))) ∙ f.inside i u within (others (i + 1) u (omega arith) get);
      first = λ u e. subst (λ (v : Thread). StandsFirst script.shape (with_chain 0 mine (chains_at r) 0) v (own 0 (m ∷ f.ms))) (sym (get-same s.threads 0 (turned t (Some (found_by step s.words))) u e)) stands;
      alone = λ u e waits. (λ p v first get. y.0 p v first (others p v first get), λ p v first get. y.1 p v first (others p v first get));
      ends = no-ending;
      order = λ left a. subst (λ (xs : List Made). InOrder (extent_of script.shape) (length script.threads) 0 script.schedule [] xs) (sym (reverse-onto f.ms left m))
          (f.order (m ∷ left) (ahead-last-step script s (turned t (Some (found_by step s.words))) m f.ms left refl y.0 there_new (never-waits script.shape mine (turned t (Some (found_by step s.words))) m (own 0 f.ms) stands) (stepped 0 t step s) (refl, refl) a));
    }
  where
    others : (p : ℕ) (v : Thread) → 1 ≤ p → slice_get (set s.threads 0 (turned t (Some (found_by step s.words)))) p ≡ Some v → slice_get s.threads p ≡ Some v
    others p v first get = sym (get-other s.threads 0 p (turned t (Some (found_by step s.words))) (λ z. (let q : 0 ≡ p = z in absurd (omega arith)))) ∙ get

    there_new : slice_get (set s.threads 0 (turned t (Some (found_by step s.words)))) 0 ≡ Some (turned t (Some (found_by step s.words)))
    there_new = got s.threads (slice_get_within s.threads 0 t may.there)
      where
        got : (ts : List Thread) → 0 < length ts → slice_get (set ts 0 (turned t (Some (found_by step s.words)))) 0 ≡ Some (turned t (Some (found_by step s.words)))
        got [] less = absurd (omega arith)
        got (x ∷ ts) less = refl
