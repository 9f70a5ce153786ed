-- A cell is read during an access: each word keeps what the stepper stands for, with the step that found it.
use Rattle.std.proofs.Common.{◌≡◌, ℕ, ◌+◌, ◌-◌, ◌<◌, ◌≤◌, true, false, List, ◌∷◌, set, Some, None, inl, refl, sym, ap, subst, ◌∙◌, arith}
use Rattle.std.proofs.lemmas.Option.{slice_get_within}
use Rattle.std.specs.Prelude.{slice_get}
use Rattle.arc_model.specs.declared.answer.Answer.TheVariants as answers
use Rattle.arc_model.specs.declared.event.Act.TheVariants as acts
use Rattle.arc_model.specs.declared.shape.Kind.{Kind}
use Rattle.arc_model.specs.declared.event.CellName.{CellName}
use Rattle.arc_rule.specs.Places.{extent_of}
use Rattle.arc_rule.specs.declared.plan.Next.{Next}
use Rattle.arc_rule.specs.declared.plan.Next.TheVariants as nexts
use Rattle.arc_rule.specs.declared.step.Step.{Step}
use Rattle.arc_side.specs.declared.up.UpAnswer.{UpAnswer}
use Rattle.arc_side.specs.declared.up.UpAnswer.TheVariants as ups
use Rattle.arc_side.specs.Ups.{Rise, up_turned, up_answer}
use Rattle.arc_cells.specs.declared.begin.BeginAnswer.{BeginAnswer}
use Rattle.arc_cells.specs.declared.begin.BeginAnswer.TheVariants as begins
use Rattle.arc_cells.specs.Begins.{Beginning, begin_turned, begin_answer}
use Rattle.arc_cells.specs.Ends.{AccessEnd, end_turned, end_answer}
use Rattle.arc_cells.specs.Chains.{Frame}
use Rattle.arc_script.specs.declared.script.Op.TheVariants as op
use Rattle.arc_script.specs.declared.script.OpCell.{OpCell}
use Rattle.arc_ops.specs.declared.stepper.Held.{Held}
use Rattle.arc_ops.specs.declared.gain.Gain.TheVariants as gains
use Rattle.arc_ops.specs.Thread.{Thread, put}
use Rattle.arc_ops.specs.Plans.{gain_from, gain_begun}
use Rattle.arc_ops.specs.Gains.{came_by, gained_on}
use Rattle.arc_ops.proofs.Moves.{gain_answers}
use Rattle.arc_ops.specs.Takes.{IsGainAnswer, IsCellAt, gain_takes, takes}
use Rattle.arc_ops.specs.declared.cell.Cell.{Cell}
use Rattle.arc_ops.specs.Cells.{open_begun, close_from, close_begun}
use Rattle.arc_ops.specs.Gets.{opened_on, closed_on}
use Rattle.arc_ops.specs.Steppers.{OpeningGoesOn}
use Rattle.arc_ops.proofs.Moves.{opening_goes_on}
use Rattle.arc_schedule.specs.Made.{Made, made_at}
use Rattle.arc_schedule.specs.Plans.{Plan, Starts, Gives, begin_access, begin_anew, begin_told, end_access, told_by, up_told}
use Rattle.arc_schedule.specs.Plans.Starts.{first as starts_first}
use Rattle.arc_schedule.specs.Operations.{Variables, get_acts}
use Rattle.arc_schedule.specs.Operations.Does.{looks as does_look, gets as does_get}
use Rattle.arc_schedule.proofs.Newest.{IsHere}
use Rattle.arc_schedule.proofs.Lasts.{up-bare}
use Rattle.arc_schedule.proofs.Given.{Gave, waits, begun-from, given, gives, starts-again}
use Rattle.arc_schedule.proofs.Stands.{Task, Job, kinds_here, classes_here, state_of, AreDone, here, get_plan, IsCellOf, IsGetting, IsOpening, IsClosing, AreServed, WorksAt, IsAt, AreIn, Stands, under-way}
use Rattle.arc_schedule.proofs.Variables.{put-ref, nil-in, one-in}
use Rattle.arc_schedule.proofs.Begins.{op-done, open-asks, replaces}
use Rattle.arc_schedule.proofs.Tells.{idle, in_cell}

-- the copy is there, and the access ends
has-got : {n : ℕ} {chain : List Frame} (k : Task) (j : Job k) → AreServed k.shape (classes_here k) (kinds_here k) j.ops → (i : ℕ) (t : Thread) (after : List Made) → WorksAt k j i n t → AreIn k t.vars → IsAt k j i → IsHere (here k j i) after →
    (to : ℕ) (cell : CellName) (kind : Kind) (place : ℕ) (of : OpCell) (base begun : List Made) → IsCellOf k t.vars of cell kind → AreDone k j i (state_of t.vars t.made t.hands) base →
    slice_get j.ops i ≡ Some (op.Get to of) → Gives (begin_access (extent_of k.shape) cell) (here k j i) base (begins.Held (place + 2)) begun →
    Gives (get_plan k cell kind place t.hands) (here k j i) begun ups.Up after → place < k.shape.slots →
    Stands k n chain (close_begun to cell (record { hand = t.hands + 1; kind = kind; place = place }) (came_by gains.Copy (in_cell cell kind place) (idle t))) after
has-got {n = n} {chain = chain} k j served i t after works vars at newest to cell kind place of base begun cell_is done there began up_gives below =
    let new : Held = record { hand = t.hands + 1; kind = kind; place = place } in
    let ending : Plan AccessEnd (Unit {0}) = end_access (extent_of k.shape) cell (place + 2) in
    let u : Thread = came_by gains.Copy (in_cell cell kind place) (idle t) in
    let same : ending.start ≡ close_from cell new u = rw works.layout_is refl in
    under-way k j i refl works vars (at, inl (newest, refl)) (record {
      there = cell_is.there;
      base = after;
      ends = λ came ended end g x. op-done k j i (op.Get to of) (state_of t.vars t.made t.hands) (state_of (set t.vars to (Some new)) t.made came) base end done there
          (does_get cell_is below began up_gives g x (ap (λ (vs : Variables). record { vars = vs; made = t.made; hands = came }) (put-ref t.vars to (Some new))));
      waits = waits ending (here k j i) after after _ _ (begun-from ending (here k j i) after after (close_from cell new u) starts_first same);
      inside = record { place = below; kind = cell_is.counted };
      kind = cell_is.kind_is ∙ sym (served.kinds_fit i (op.Get to of) there).0;
      within = slice_get_within j.ops i (op.Get to of) there;
      newest = newest;
    })

-- the copy is made from here
get-asks : {n : ℕ} {chain : List Frame} (k : Task) (j : Job k) (i : ℕ) (t : Thread) (now : List Made) → WorksAt k j i n t → AreIn k t.vars → IsAt k j i → IsHere (here k j i) now → t.first ≡ false →
    (to : ℕ) (cell : CellName) (kind : Kind) (place : ℕ) (of : OpCell) (base begun : List Made) → IsCellOf k t.vars of cell kind → AreDone k j i (state_of t.vars t.made t.hands) base →
    slice_get j.ops i ≡ Some (op.Get to of) → Gives (begin_access (extent_of k.shape) cell) (here k j i) base (begins.Held (place + 2)) begun → place < k.shape.slots →
    Starts (get_plan k cell kind place t.hands) (here k j i) begun now → Stands k n chain (gain_begun gains.Copy to (in_cell cell kind place) t) now
get-asks {n = n} {chain = chain} k j i t now works vars at newest first to cell kind place of base begun cell_is done there began below starts =
    let plan : Plan Rise UpAnswer = get_plan k cell kind place t.hands in
    let same : plan.start ≡ gain_from gains.Copy (in_cell cell kind place) t = rw (works.layout_is, works.shape_is) refl in
    under-way k j i refl works vars (at, inl (newest, first)) (record {
      is_copy = refl;
      of = of;
      cell_is = cell_is;
      base = base;
      begun = begun;
      done = done;
      there = there;
      began = began;
      waits = waits plan (here k j i) begun now _ _ (begun-from plan (here k j i) begun now (gain_from gains.Copy (in_cell cell kind place) t) starts same);
      place_in = below;
      bare = refl;
      newest = newest;
    })

pub gets-on : {n : ℕ} {chain : List Frame} (k : Task) (j : Job k) → AreServed k.shape (classes_here k) (kinds_here k) j.ops → (i : ℕ) (t : Thread) (s : Step) (w : ℕ) (now : List Made) → WorksAt k j i n t → AreIn k t.vars → IsAt k j i →
    (to : ℕ) (cell : CellName) (kind : Kind) (place : ℕ) (plan : Rise) → IsGetting k j i gains.Copy to cell kind place plan t.vars t.made t.hands (Some s) now → gain_takes gains.Copy plan (Some w) →
    Stands k n chain (gained_on gains.Copy to (in_cell cell kind place) (up_turned plan (Some w)) (up_answer plan (Some w)) (idle t))
    (made_at (here k j i) s w (told_by (up_told (get_acts cell (t.hands + 1))) (up_answer plan (Some w))) ∷ now)
gets-on {n = n} {chain = chain} k j served i t s w now works vars at to cell kind place plan u takes =
    go (up_answer plan (Some w)) (gain_answers gains.Copy plan (Some w) takes) (given rise (here k j i) u.begun now plan s w u.waits)
  where
    rise : Plan Rise UpAnswer
    rise = get_plan k cell kind place t.hands

    after : List Made
    after = made_at (here k j i) s w (told_by (up_told (get_acts cell (t.hands + 1))) (up_answer plan (Some w))) ∷ now

    go : (a : Next UpAnswer) → IsGainAnswer gains.Copy a → Gave rise (here k j i) u.begun after a (up_turned plan (Some w)) →
        Stands k n chain (gained_on gains.Copy to (in_cell cell kind place) (up_turned plan (Some w)) a (idle t)) after
    go (nexts.Step s) fits g = under-way k j i refl works vars (at, inl ((refl, refl), refl)) (record {
      is_copy = refl;
      of = u.of;
      cell_is = u.cell_is;
      base = u.base;
      begun = u.begun;
      done = u.done;
      there = u.there;
      began = u.began;
      waits = waits rise (here k j i) u.begun after _ s g;
      place_in = u.place_in;
      bare = up-bare gains.Copy plan w takes;
      newest = (refl, refl);
    })
    go (nexts.Done ups.Up) fits g = has-got k j served i t after works vars at (refl, refl) to cell kind place u.of u.base u.begun u.cell_is u.done u.there u.began (gives rise (here k j i) u.begun after _ ups.Up refl g) u.place_in
    go (nexts.Done ups.Dead) fits g = absurd fits
    go (nexts.Done ups.AtCap) fits g = absurd fits
    go (nexts.Done ups.CountFull) fits g = absurd fits
    go (nexts.Done (ups.Again c)) fits g =
        get-asks k j i (idle t) after works vars at (refl, refl) refl to cell kind place u.of u.base u.begun u.cell_is u.done u.there u.began u.place_in (starts-again rise (here k j i) u.begun after _ (ups.Again c) refl g)

-- the access begins, or the cell is nil
pub opens-on : {n : ℕ} {chain : List Frame} (k : Task) (j : Job k) → AreServed k.shape (classes_here k) (kinds_here k) j.ops → (i : ℕ) (t : Thread) (s : Step) (w : ℕ) (now : List Made) → WorksAt k j i n t → AreIn k t.vars → IsAt k j i →
    (to : ℕ) (cell : Cell) (plan : Beginning) → IsOpening k j i to cell plan t.vars t.made t.hands (Some s) now → IsCellAt k.shape.slots plan.at w →
    Stands k n chain (opened_on to cell (begin_turned plan (Some w)) (begin_answer plan (Some w)) (idle t)) (made_at (here k j i) s w (told_by (begin_told cell.name) (begin_answer plan (Some w))) ∷ now)
opens-on {n = n} {chain = chain} k j served i t s w now works vars at to cell plan u fits =
    go (begin_answer plan (Some w)) (opening_goes_on k.shape.slots plan (Some w) u.word fits) (given opening (here k j i) u.base now plan s w u.waits)
  where
    opening : Plan Beginning BeginAnswer
    opening = begin_access (extent_of k.shape) cell.name

    after : List Made
    after = made_at (here k j i) s w (told_by (begin_told cell.name) (begin_answer plan (Some w))) ∷ now

    again : (a : BeginAnswer) → begin_anew a ≡ true → Gave opening (here k j i) u.base after (nexts.Done a) (begin_turned plan (Some w)) → Stands k n chain (open_begun to cell (idle t)) after
    again a anew g = open-asks k j i to cell u.of (idle t) after u.base u.cell_is works vars at (inl ((refl, refl), refl)) u.done u.there (starts-again opening (here k j i) u.base after _ a anew g)

    go : (a : Next BeginAnswer) → OpeningGoesOn k.shape.slots (begin_turned plan (Some w)).at a → Gave opening (here k j i) u.base after a (begin_turned plan (Some w)) →
        Stands k n chain (opened_on to cell (begin_turned plan (Some w)) a (idle t)) after
    go (nexts.Step s) on g = under-way k j i refl works vars (at, inl ((refl, refl), refl))
        (record { of = u.of; cell_is = u.cell_is; base = u.base; done = u.done; there = u.there; waits = waits opening (here k j i) u.base after _ s g; word = on })
    go (nexts.Done (begins.Held x)) on g =
        let least : 2 ≤ x = on.0 in
        let most : x < k.shape.slots + 2 = on.1 in
        let same : x ≡ x - 2 + 2 = omega arith in
        get-asks k j i (idle t) after works vars at (refl, refl) refl to cell.name cell.kind (x - 2) u.of u.base after u.cell_is u.done u.there
        (subst (λ (y : ℕ). Gives opening (here k j i) u.base (begins.Held y) after) same (gives opening (here k j i) u.base after _ (begins.Held x) refl g)) (omega arith) starts_first
    go (nexts.Done begins.Nil) on g =
        replaces k j served i (put answers.Nil (record (idle t) { event = Some (acts.Look cell.name) })) to None after works vars at (refl, refl) refl (nil-in k t.vars to vars)
        (slice_get_within j.ops i (op.Get to u.of) u.there)
        (λ came end x. op-done k j i (op.Get to u.of) (state_of t.vars t.made t.hands) (state_of (set t.vars to None) t.made came) u.base end u.done u.there
        (does_look u.cell_is (gives opening (here k j i) u.base after _ begins.Nil refl g) x (ap (λ (vs : Variables). record { vars = vs; made = t.made; hands = came }) (put-ref t.vars to None))))
    go (nexts.Done begins.Busy) on g = again begins.Busy refl g
    go (nexts.Done (begins.Again c)) on g = again (begins.Again c) refl g

-- the access ends
pub closes-on : {n : ℕ} {chain : List Frame} (k : Task) (j : Job k) → AreServed k.shape (classes_here k) (kinds_here k) j.ops → (i : ℕ) (t : Thread) (s : Step) (w : ℕ) (now : List Made) → WorksAt k j i n t → AreIn k t.vars → IsAt k j i →
    (to : ℕ) (cell : CellName) (held : Held) (plan : AccessEnd) → IsClosing k j i to cell held plan t.vars t.made t.hands (Some s) now →
    Stands k n chain (closed_on to cell held (end_turned plan (Some w)) (end_answer plan (Some w)) (idle t)) (made_at (here k j i) s w None ∷ now)
closes-on {n = n} {chain = chain} k j served i t s w now works vars at to cell held plan u = go (end_answer plan (Some w)) (given ending (here k j i) u.base now plan s w u.waits)
  where
    ending : Plan AccessEnd (Unit {0})
    ending = end_access (extent_of k.shape) cell (held.place + 2)

    after : List Made
    after = made_at (here k j i) s w None ∷ now

    go : (a : Next (Unit {0})) → Gave ending (here k j i) u.base after a (end_turned plan (Some w)) → Stands k n chain (closed_on to cell held (end_turned plan (Some w)) a (idle t)) after
    go (nexts.Step s) g = under-way k j i refl works vars (at, inl ((refl, refl), refl))
        (record { there = u.there; base = u.base; ends = u.ends; waits = waits ending (here k j i) u.base after _ s g; inside = u.inside; kind = u.kind; within = u.within; newest = (refl, refl) })
    go (nexts.Done a) g =
        replaces k j served i (put answers.Ok (idle t)) to (Some held) after works vars at (refl, refl) refl (one-in k t.vars to held u.inside u.kind vars) u.within
        (λ came end x. u.ends came after end (gives ending (here k j i) u.base after _ tt refl g) x)
