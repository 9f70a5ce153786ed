-- An object is made: each word that a stepper is given keeps what it stands for, with the step that found it.
use Rattle.std.proofs.Common.{◌≡◌, ℕ, ◌+◌, ◌<◌, Bool, true, false, cond, eqb, ltb, List, [], ◌∷◌, length, set, Option, Some, None, inl, refl, sym, ap, subst, ◌∙◌, arith}
use Rattle.std.proofs.lemmas.Option.{slice_get_within}
use Rattle.std.specs.Prelude.{bit_and}
use Rattle.arc_model.specs.declared.answer.Answer.TheVariants as answers
use Rattle.arc_model.specs.declared.event.ObjectName.{ObjectName}
use Rattle.arc_model.specs.declared.event.Act.{Act}
use Rattle.arc_model.specs.declared.event.Act.TheVariants as acts
use Rattle.arc_model.specs.Shapes.{class_at}
use Rattle.arc_rule.specs.Extents.{Extent}
use Rattle.arc_rule.specs.Places.{extent_of}
use Rattle.arc_rule.specs.declared.plan.Next.{Next}
use Rattle.arc_rule.specs.declared.plan.Next.TheVariants as nexts
use Rattle.arc_rule.specs.declared.step.Step.{Step}
use Rattle.arc_rule.specs.declared.step.Intent.TheVariants as intents
use Rattle.arc_rule.specs.Bits.{words_of, bit_of}
use Rattle.arc_plan.specs.declared.slots.Making.{Making as Search}
use Rattle.arc_plan.specs.declared.slots.Making.TheVariants as search
use Rattle.arc_plan.specs.declared.slots.NewObjectAnswer.{NewObjectAnswer}
use Rattle.arc_plan.specs.declared.slots.NewObjectAnswer.TheVariants.{Slot, NoSlot, Again}
use Rattle.arc_plan.specs.Slots.{Creation, free_slot, looked, looked_answer, creation_turned, creation_answer, making_turned, making_answer, looking, taking, counting, naming}
use Rattle.arc_plan.proofs.Bits.{free_is_clear}
use Rattle.arc_cells.specs.Chains.{Frame}
use Rattle.arc_script.specs.declared.script.Op.TheVariants as op
use Rattle.arc_ops.specs.declared.stepper.Doing.TheVariants.{Making}
use Rattle.arc_ops.specs.declared.stepper.Move.TheVariants as moves
use Rattle.arc_ops.specs.Thread.{Thread, put}
use Rattle.arc_ops.specs.Plans.{creation_from}
use Rattle.arc_ops.specs.Makes.{strong_to, made_on}
use Rattle.arc_schedule.specs.Made.{Point, Made, made_at}
use Rattle.arc_schedule.specs.Plans.{Plan, Reaches, Gives, new_object, making_told}
use Rattle.arc_schedule.specs.Plans.Reaches.{starts as reaches_start, makes as reaches_next}
use Rattle.arc_schedule.specs.Operations.{next_name, Drops}
use Rattle.arc_schedule.specs.Operations as operations
use Rattle.arc_schedule.specs.Operations.Does.{makes as does_make, full as does_full}
use Rattle.arc_schedule.proofs.Given.{Gave, waits, begun-from, given, gives, starts-again, Waits}
use Rattle.arc_schedule.proofs.Stands.{Task, Job, kinds_here, classes_here, refs, state_of, here, MadeUpTo, IsMaking, AreServed, WorksAt, IsAt, AreIn, Stands, under-way}
use Rattle.arc_schedule.proofs.Variables.{put-ref, one-in}
use Rattle.arc_schedule.proofs.Begins.{over-done, op-done, goes-on, replaces}
use Rattle.arc_schedule.proofs.Tells.{idle}

creation-layout : (l : Extent) (immortal : Bool) (name : ObjectName) (hand : ℕ) {point : Point} {b ns : List Made} {p : Creation} {last : Option ℕ} → Reaches (new_object l immortal name hand) point b p last ns → p.layout ≡ l
creation-layout l immortal name hand reaches_start = refl
creation-layout l immortal name hand (reaches_next r e) = creation-layout l immortal name hand r

making-layout : (l : Extent) (immortal : Bool) (name : ObjectName) (hand : ℕ) {point : Point} {b ns : List Made} {p : Creation} {asked : Option Step} → Waits (new_object l immortal name hand) point b ns p asked → p.layout ≡ l
making-layout l immortal name hand w = sym (ap (λ (q : Creation). q.layout) w.gave.turned) ∙ creation-layout l immortal name hand w.gave.reaches

pub makes : {n : ℕ} {chain : List Frame} (k : Task) (j : Job k) → AreServed k.shape (classes_here k) (kinds_here k) j.ops → (i : ℕ) (t : Thread) (s : Step) (w : ℕ) (now : List Made) → WorksAt k j i n t → AreIn k t.vars → IsAt k j i →
    (to : ℕ) (name : ObjectName) (plan : Creation) (u : IsMaking k j i to name plan t.vars t.made t.hands (Some s) now) →
    Stands k n chain (made_on to name (creation_turned plan (Some w)) (creation_answer plan (Some w)) (idle t)) (made_at (here k j i) s w (making_told (u.held + 1) name.class plan.at (creation_answer plan (Some w))) ∷ now)
makes {n = n} {chain = chain} k j served i t s w now works vars at to name plan u = go plan.at u.count (given new (here k j i) u.base now plan s w u.waits)
  where
    new : Plan Creation NewObjectAnswer
    new = new_object (extent_of k.shape) (class_at k.shape name.class).immortal name (u.held + 1)

    after : List Made
    after = made_at (here k j i) s w (making_told (u.held + 1) name.class plan.at (creation_answer plan (Some w))) ∷ now

    within : i < length j.ops
    within = slice_get_within j.ops i (op.New to name.class) u.there

    slots_are : plan.layout.slots ≡ k.shape.slots
    slots_are = ap (λ (l : Extent). l.slots) (making-layout (extent_of k.shape) (class_at k.shape name.class).immortal name (u.held + 1) u.waits)

    -- the plan as it is then
    GaveAt : Search → Next NewObjectAnswer → Type 0
    GaveAt a n = Gave new (here k j i) u.base after n (record plan { at = a })

    named : {a : NewObjectAnswer} → Gives new (here k j i) u.base a after →
        Gives (new_object (extent_of k.shape) (class_at k.shape name.class).immortal (next_name (here k j i) (state_of t.vars u.before u.held) name.class) (u.held + 1)) (here k j i) u.base a after
    named {a} g =
        let Q : ObjectName → Type 0 = λ (n : ObjectName). Gives (new_object (extent_of k.shape) (class_at k.shape name.class).immortal n (u.held + 1)) (here k j i) u.base a after in
        subst Q u.named g

    -- it asks for its next step
    asks : (made hands : ℕ) (event : Option Act) (p : Creation) (step : Step) → MadeUpTo k.shape.slots u.before u.held made hands p.at → Gave new (here k j i) u.base after (nexts.Step step) p →
        Stands k n chain (record (idle t) { doing = Making to name p; asked = moves.Step step (intents.New name.class); made = made; hands = hands; event = event }) after
    asks made hands event p step count g = under-way k j i refl works vars (at, inl ((refl, refl), refl)) (record {
      base = u.base;
      before = u.before;
      held = u.held;
      done = u.done;
      there = u.there;
      named = u.named;
      waits = waits new (here k j i) u.base after p step g;
      count = count;
    })

    looked_on : (x : ℕ) → (t.made ≡ u.before) × (t.hands ≡ u.held) → (o : Option ℕ) → free_slot plan.layout.slots x w ≡ o → GaveAt (looked plan.layout.slots x w o) (looked_answer plan.layout x o) →
        Stands k n chain (made_on to name (record plan { at = looked plan.layout.slots x w o }) (looked_answer plan.layout x o) (idle t)) after
    looked_on x count (Some s) e g =
        let below : s < k.shape.slots = let a = (free_is_clear plan.layout.slots x w s e).0.below in let b = slots_are in omega (arith, a, b) in
        asks t.made t.hands None (record plan { at = search.Taking s w }) (taking plan.layout s) (count.0, count.1, below) g
    looked_on x count None e g = more (ltb (x + 1) (words_of plan.layout.slots)) g
      where
        more : (c : Bool) → GaveAt (cond c (search.Looking (x + 1)) search.Ended) (cond c (nexts.Step (looking plan.layout (x + 1))) (nexts.Done NoSlot)) →
            Stands k n chain (made_on to name (record plan { at = cond c (search.Looking (x + 1)) search.Ended }) (cond c (nexts.Step (looking plan.layout (x + 1))) (nexts.Done NoSlot)) (idle t)) after
        more true g = asks t.made t.hands None (record plan { at = search.Looking (x + 1) }) (looking plan.layout (x + 1)) count g
        more false g =
            goes-on k j served i (put answers.Full (record (idle t) { event = Some acts.Full })) after works vars at (refl, refl) refl
            (over-done k j i t.vars t.made t.hands after within
            (op-done k j i (op.New to name.class) (state_of t.vars u.before u.held) (state_of t.vars t.made t.hands) u.base after u.done u.there
            (does_full (named (gives new (here k j i) u.base after _ NoSlot refl g)) (let m = count.0 in let h = count.1 in rw (m, h) refl))))

    took : (x seen : ℕ) → (t.made ≡ u.before) × (t.hands ≡ u.held) × (x < k.shape.slots) → (b : Bool) →
        GaveAt (cond b (search.Counting x) search.Ended) (cond b (nexts.Step (counting plan.layout plan.immortal x)) (nexts.Done (Again (record { seen = seen; found = w })))) →
        Stands k n chain (made_on to name (record plan { at = cond b (search.Counting x) search.Ended }) (cond b (nexts.Step (counting plan.layout plan.immortal x)) (nexts.Done (Again (record { seen = seen; found = w })))) (idle t)) after
    took x seen count true g =
        asks (t.made + 1) (t.hands + 1) (Some (acts.New (t.hands + 1) name.class x)) (record plan { at = search.Counting x }) (counting plan.layout plan.immortal x)
        (ap (λ (n : ℕ). n + 1) count.0, ap (λ (n : ℕ). n + 1) count.1, count.2) g
    took x seen count false g =
        let same : new.start ≡ creation_from t name = rw (works.layout_is, works.shape_is) refl in
        asks t.made t.hands None _ _ (count.0, count.1)
        (begun-from new (here k j i) u.base after (creation_from t name) (starts-again new (here k j i) u.base after _ (Again (record { seen = seen; found = w })) refl g) same)

    go : (a : Search) → MadeUpTo k.shape.slots u.before u.held t.made t.hands a → GaveAt (making_turned plan.layout.slots a w) (making_answer plan a w) →
        Stands k n chain (made_on to name (record plan { at = making_turned plan.layout.slots a w }) (making_answer plan a w) (idle t)) after
    go search.Start count g = absurd count
    go (search.Looking x) count g = looked_on x count (free_slot plan.layout.slots x w) refl g
    go (search.Taking x seen) count g = took x seen count (eqb (bit_and w (bit_of x)) 0) g
    go (search.Counting x) count g = asks t.made t.hands None (record plan { at = search.Naming x }) (naming plan.layout plan.name x) count g
    go (search.Naming x) count g =
        replaces k j served i (put (answers.New name) (idle t)) to (Some (strong_to t.hands x)) after works vars at (refl, refl) refl
        (one-in k t.vars to (strong_to t.hands x) (record { place = count.2; kind = tt }) (sym (served.kinds_fit i (op.New to name.class) u.there)) vars) within
        (λ came end x'. op-done k j i (op.New to name.class) (state_of t.vars u.before u.held) (state_of (set t.vars to (Some (strong_to t.hands x))) t.made came) u.base end u.done u.there
        (does_make count.2 (named (gives new (here k j i) u.base after _ (Slot x) refl g)) (subst (λ (m : ℕ). Drops k.shape (here k j i) [] (operations.value (refs t.vars) to) m after came end) count.1 x')
        (let v = put-ref t.vars to (Some (strong_to t.hands x)) in let n = count.0 in let m = count.1 in rw (v, n, m) refl)))
    go search.Ended count g = absurd count
