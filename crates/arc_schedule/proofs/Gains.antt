-- A reference is gained of another, and an object's name is read: each word keeps what the stepper stands for, with the step that found it.
use Rattle.std.proofs.Common.{◌≡◌, ℕ, ◌+◌, ◌<◌, List, ◌∷◌, length, set, Some, None, inl, refl, ap, ◌∙◌}
use Rattle.std.proofs.lemmas.Option.{slice_get_within}
use Rattle.std.specs.Prelude.{slice_get}
use Rattle.arc_model.specs.declared.answer.Answer.TheVariants as answers
use Rattle.arc_model.specs.declared.event.ObjectName.{ObjectName}
use Rattle.arc_model.specs.declared.event.Act.TheVariants as acts
use Rattle.arc_model.specs.declared.event.Got.TheVariants as gots
use Rattle.arc_model.specs.declared.shape.Kind.{Kind}
use Rattle.arc_model.specs.declared.shape.Kind.TheVariants.{Strong, Unowned}
use Rattle.arc_model.specs.declared.event.Origin.TheVariants as origins
use Rattle.arc_rule.specs.Places.{extent_of}
use Rattle.arc_rule.specs.declared.plan.Next.{Next}
use Rattle.arc_rule.specs.declared.plan.Next.TheVariants as nexts
use Rattle.arc_rule.specs.declared.step.Step.{Step}
use Rattle.arc_plan.specs.Slots.{OneStep, one_turned, name_of_answer}
use Rattle.arc_side.specs.declared.up.UpAnswer.{UpAnswer}
use Rattle.arc_side.specs.declared.up.UpAnswer.TheVariants as ups
use Rattle.arc_side.specs.Ups.{Rise, up_turned, up_answer}
use Rattle.arc_cells.specs.Chains.{Frame}
use Rattle.arc_script.specs.declared.script.Op.TheVariants as op
use Rattle.arc_served.specs.Programs.{kind_of}
use Rattle.arc_ops.specs.declared.stepper.Held.{Held}
use Rattle.arc_ops.specs.declared.gain.Gain.{Gain}
use Rattle.arc_ops.specs.declared.gain.Gain.TheVariants as gains
use Rattle.arc_ops.specs.Thread.{Thread, value, put}
use Rattle.arc_ops.specs.Plans.{op_of, of_hand, list_of, name_from}
use Rattle.arc_ops.specs.Gains.{gained, came_by, has_gained, found_dead, gained_on, named_on}
use Rattle.arc_ops.specs.Steppers.{IsHeld}
use Rattle.arc_ops.proofs.Moves.{gain_answers}
use Rattle.arc_ops.specs.Takes.{FindsDead, IsGainAnswer, gain_takes, takes}
use Rattle.arc_spelled.proofs.KindsKept.{gained-kind}
use Rattle.arc_schedule.specs.Made.{Made, made_at}
use Rattle.arc_schedule.specs.Plans.{Plan, Gives, name_of, told_by, up_told}
use Rattle.arc_schedule.specs.Plans.Starts.{first as starts_first}
use Rattle.arc_schedule.specs.Operations.{Variables, State, reference_to}
use Rattle.arc_schedule.specs.Operations.Does.{copies as does_copy, unowns as does_unown, load_gives as does_load, load_finds_dead as finds_dead}
use Rattle.arc_schedule.specs.Operations as operations
use Rattle.arc_schedule.proofs.Newest.{IsHere}
use Rattle.arc_schedule.proofs.Lasts.{up-bare}
use Rattle.arc_schedule.proofs.Given.{Gave, waits, begun-from, given, gives, starts-again}
use Rattle.arc_schedule.proofs.Deinits.{ref}
use Rattle.arc_schedule.proofs.Stands.{Task, Job, kinds_here, classes_here, refs, state_of, AreDone, here, rises_of, gain_plan, IsGaining, IsNaming, AreServed, WorksAt, IsAt, AreIn, Stands, under-way}
use Rattle.arc_schedule.proofs.Variables.{value-ref, put-ref, nil-in, one-in}
use Rattle.arc_schedule.proofs.Begins.{op-done, gain-asks, replaces}
use Rattle.arc_schedule.proofs.Tells.{idle}

-- the reference is there: a copy and an unowned reference go into their variable, and a load reads the name first
has-gained : {n : ℕ} {chain : List Frame} (k : Task) (j : Job k) → AreServed k.shape (classes_here k) (kinds_here k) j.ops → (i : ℕ) (gain : Gain) (to from : ℕ) (held : Held) (t : Thread) (base after : List Made) → WorksAt k j i n t → AreIn k t.vars → IsAt k j i →
    AreDone k j i (state_of t.vars t.made t.hands) base → slice_get j.ops i ≡ Some (op_of gain to from) → value t.vars from ≡ Some held → IsHeld k.shape.slots held →
    IsHere (here k j i) after → Gives (gain_plan k gain held t.hands) (here k j i) base ups.Up after →
    Stands k n chain (has_gained gain (origins.Hand held.hand) to (gained gain (of_hand held) t) (came_by gain (of_hand held) (idle t))) after
has-gained {n = n} {chain = chain} k j served i gain to from held t base after works vars at so_far there source inside newest up_gives = go gain kind_is there up_gives
  where
    kind_is : list_of gain (of_hand held) ≡ kind_of (kinds_here k) to
    kind_is = gained-kind k.shape (classes_here k) (kinds_here k) gain to from (of_hand held) (served.kinds_fit i (op_of gain to from) there) (vars.kinds from held source)

    within : i < length j.ops
    within = slice_get_within j.ops i (op_of gain to from) there

    source_of : (kind : Kind) → held.kind ≡ kind → operations.value (refs t.vars) from ≡ reference_to held.hand kind held.place
    source_of kind is = value-ref t.vars from (Some held) source ∙ ap (λ (c : Kind). reference_to held.hand c held.place) is

    behind : Held → ℕ → State
    behind new came = state_of (set t.vars to (Some new)) t.made came

    behind-is : (new : Held) (came : ℕ) → behind new came ≡ record { vars = operations.put (refs t.vars) to (ref (Some new)); made = t.made; hands = came }
    behind-is new came = ap (λ (vs : Variables). record { vars = vs; made = t.made; hands = came }) (put-ref t.vars to (Some new))

    go : (gain : Gain) → list_of gain (of_hand held) ≡ kind_of (kinds_here k) to → slice_get j.ops i ≡ Some (op_of gain to from) → Gives (gain_plan k gain held t.hands) (here k j i) base ups.Up after →
        Stands k n chain (has_gained gain (origins.Hand held.hand) to (gained gain (of_hand held) t) (came_by gain (of_hand held) (idle t))) after
    go gains.Copy kind there up_gives =
        let new : Held = gained gains.Copy (of_hand held) t in
        replaces k j served i (put answers.Ok (came_by gains.Copy (of_hand held) (idle t))) to (Some new) after works vars at newest refl (one-in k t.vars to new (record { place = inside.place; kind = inside.kind }) kind vars) within
        (λ came end x. op-done k j i (op.Copy to from) (state_of t.vars t.made t.hands) (behind new came) base end so_far there (does_copy (source_of held.kind refl) inside.place inside.kind up_gives x (behind-is new came)))
    go gains.Unown kind there up_gives =
        let new : Held = gained gains.Unown (of_hand held) t in
        let strong : held.kind ≡ Strong = vars.kinds from held source ∙ (served.kinds_fit i (op.Unown to from) there).1 in
        replaces k j served i (put answers.Ok (came_by gains.Unown (of_hand held) (idle t))) to (Some new) after works vars at newest refl (one-in k t.vars to new (record { place = inside.place; kind = tt }) kind vars) within
        (λ came end x. op-done k j i (op.Unown to from) (state_of t.vars t.made t.hands) (behind new came) base end so_far there (does_unown (source_of Strong strong) inside.place up_gives x (behind-is new came)))
    go gains.Load kind there up_gives =
        let new : Held = gained gains.Load (of_hand held) t in
        let unowned : held.kind ≡ Unowned = vars.kinds from held source ∙ (served.kinds_fit i (op.Load to from) there).1 in
        let plan : Plan OneStep ObjectName = name_of (extent_of k.shape) held.place in
        let same : plan.start ≡ name_from new (came_by gains.Load (of_hand held) (idle t)) = rw works.layout_is refl in
        under-way k j i refl works vars (at, inl (newest, refl)) (record {
          base = after;
          ends = λ name came named end g x. op-done k j i (op.Load to from) (state_of t.vars t.made t.hands) (behind new came) base end so_far there (does_load (source_of Unowned unowned) inside.place up_gives g x (behind-is new came));
          waits = waits plan (here k j i) after after _ _ (begun-from plan (here k j i) after after (name_from new (came_by gains.Load (of_hand held) (idle t))) starts_first same);
          inside = record { place = inside.place; kind = tt };
          kind = kind;
          within = within;
        })

-- a load finds the object dead, and its variable becomes nil
has-found-dead : {n : ℕ} {chain : List Frame} (k : Task) (j : Job k) → AreServed k.shape (classes_here k) (kinds_here k) j.ops → (i : ℕ) (gain : Gain) (to from : ℕ) (held : Held) (t : Thread) (base after : List Made) → FindsDead gain → WorksAt k j i n t → AreIn k t.vars → IsAt k j i →
    AreDone k j i (state_of t.vars t.made t.hands) base → slice_get j.ops i ≡ Some (op_of gain to from) → value t.vars from ≡ Some held → IsHeld k.shape.slots held →
    IsHere (here k j i) after → Gives (gain_plan k gain held t.hands) (here k j i) base ups.Dead after → Stands k n chain (found_dead to (of_hand held) (idle t)) after
has-found-dead k j served i gains.Copy to from held t base after dead works vars at so_far there source inside newest up_gives = absurd dead
has-found-dead k j served i gains.Unown to from held t base after dead works vars at so_far there source inside newest up_gives = absurd dead
has-found-dead {n = n} {chain = chain} k j served i gains.Load to from held t base after dead works vars at so_far there source inside newest up_gives =
    let unowned : held.kind ≡ Unowned = vars.kinds from held source ∙ (served.kinds_fit i (op.Load to from) there).1 in
    let source_is : operations.value (refs t.vars) from ≡ reference_to held.hand Unowned held.place = value-ref t.vars from (Some held) source ∙ ap (λ (c : Kind). reference_to held.hand c held.place) unowned in
    replaces k j served i (put answers.Dead (record (idle t) { event = Some (acts.Load held.hand gots.Dead) })) to None after works vars at newest refl (nil-in k t.vars to vars) (slice_get_within j.ops i (op.Load to from) there)
    (λ came end x. op-done k j i (op.Load to from) (state_of t.vars t.made t.hands) (state_of (set t.vars to None) t.made came) base end so_far there
    (finds_dead source_is inside.place up_gives x (ap (λ (vs : Variables). record { vars = vs; made = t.made; hands = came }) (put-ref t.vars to None))))

pub gains-on : {n : ℕ} {chain : List Frame} (k : Task) (j : Job k) → AreServed k.shape (classes_here k) (kinds_here k) j.ops → (i : ℕ) (t : Thread) (s : Step) (w : ℕ) (now : List Made) → WorksAt k j i n t → AreIn k t.vars → IsAt k j i →
    (gain : Gain) (to : ℕ) (held : Held) (plan : Rise) → IsGaining k j i gain to held plan t.vars t.made t.hands (Some s) now → gain_takes gain plan (Some w) →
    Stands k n chain (gained_on gain to (of_hand held) (up_turned plan (Some w)) (up_answer plan (Some w)) (idle t)) (made_at (here k j i) s w (told_by (up_told (rises_of gain held.hand (t.hands + 1))) (up_answer plan (Some w))) ∷ now)
gains-on {n = n} {chain = chain} k j served i t s w now works vars at gain to held plan u takes =
    go (up_answer plan (Some w)) (gain_answers gain plan (Some w) takes) (given rise (here k j i) u.base now plan s w u.waits)
  where
    rise : Plan Rise UpAnswer
    rise = gain_plan k gain held t.hands

    after : List Made
    after = made_at (here k j i) s w (told_by (up_told (rises_of gain held.hand (t.hands + 1))) (up_answer plan (Some w))) ∷ now

    go : (a : Next UpAnswer) → IsGainAnswer gain a → Gave rise (here k j i) u.base after a (up_turned plan (Some w)) →
        Stands k n chain (gained_on gain to (of_hand held) (up_turned plan (Some w)) a (idle t)) after
    go (nexts.Step s) fits g = under-way k j i refl works vars (at, inl ((refl, refl), refl))
        (record { base = u.base; from = u.from; done = u.done; there = u.there; source = u.source; waits = waits rise (here k j i) u.base after _ s g; inside = u.inside; bare = up-bare gain plan w takes })
    go (nexts.Done ups.Up) fits g = has-gained k j served i gain to u.from held t u.base after works vars at u.done u.there u.source u.inside (refl, refl) (gives rise (here k j i) u.base after _ ups.Up refl g)
    go (nexts.Done ups.Dead) fits g = has-found-dead k j served i gain to u.from held t u.base after fits works vars at u.done u.there u.source u.inside (refl, refl) (gives rise (here k j i) u.base after _ ups.Dead refl g)
    go (nexts.Done ups.AtCap) fits g = absurd fits
    go (nexts.Done ups.CountFull) fits g = absurd fits
    go (nexts.Done (ups.Again c)) fits g = gain-asks k j i gain to u.from (idle t) held after u.base works vars at (inl ((refl, refl), refl)) u.done u.there u.source (starts-again rise (here k j i) u.base after _ (ups.Again c) refl g)

-- the name of the object is read
pub names-on : {n : ℕ} {chain : List Frame} (k : Task) (j : Job k) → AreServed k.shape (classes_here k) (kinds_here k) j.ops → (i : ℕ) (t : Thread) (s : Step) (w : ℕ) (now : List Made) → WorksAt k j i n t → AreIn k t.vars → IsAt k j i →
    (to : ℕ) (held : Held) (plan : OneStep) → IsNaming k j i to held plan t.vars t.made t.hands (Some s) now →
    Stands k n chain (named_on to held (one_turned plan (Some w)) (name_of_answer plan (Some w)) (idle t)) (made_at (here k j i) s w None ∷ now)
names-on {n = n} {chain = chain} k j served i t s w now works vars at to held plan u = go (name_of_answer plan (Some w)) (given reads (here k j i) u.base now plan s w u.waits)
  where
    reads : Plan OneStep ObjectName
    reads = name_of (extent_of k.shape) held.place

    after : List Made
    after = made_at (here k j i) s w None ∷ now

    go : (a : Next ObjectName) → Gave reads (here k j i) u.base after a (one_turned plan (Some w)) → Stands k n chain (named_on to held (one_turned plan (Some w)) a (idle t)) after
    go (nexts.Step s) g = under-way k j i refl works vars (at, inl ((refl, refl), refl))
        (record { base = u.base; ends = u.ends; waits = waits reads (here k j i) u.base after _ s g; inside = u.inside; kind = u.kind; within = u.within })
    go (nexts.Done name) g =
        replaces k j served i (put (answers.Got name) (idle t)) to (Some held) after works vars at (refl, refl) refl (one-in k t.vars to held u.inside u.kind vars) u.within
        (λ came end x. u.ends name came after end (gives reads (here k j i) u.base after _ name refl g) x)
