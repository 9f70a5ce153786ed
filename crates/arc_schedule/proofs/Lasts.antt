-- What an operation does last, and what clearing a global does: a reference is dropped. Each word keeps what that stands for, with the step that found it.
use Rattle.std.proofs.Common.{◌≡◌, ℕ, Bool, true, false, cond, eqb, List, [], ◌∷◌, Option, Some, None, refl, sym, ap, subst, ◌∙◌, arith}
use Rattle.std.specs.Prelude.{⊤}
use Rattle.arc_bits.specs.declared.packing.Word.{Word}
use Rattle.arc_bits.specs.declared.packing.Word.TheVariants.{Free, Counts, Slow, Immortal}
use Rattle.arc_bits.specs.Words.{unpacked}
use Rattle.arc_model.specs.declared.event.Act.{Act}
use Rattle.arc_model.specs.declared.event.Act.TheVariants as acts
use Rattle.arc_model.specs.declared.shape.Kind.{Kind}
use Rattle.arc_model.specs.declared.shape.Kind.TheVariants.{Strong, Unowned, Weak}
use Rattle.arc_model.specs.Shapes.{CapNumbers, HeapShape}
use Rattle.arc_rule.specs.Extents.{Extent}
use Rattle.arc_rule.specs.Places.{number, extent_of}
use Rattle.arc_rule.specs.declared.layout.Place.TheVariants.{Count}
use Rattle.arc_rule.specs.declared.plan.Next.{Next}
use Rattle.arc_rule.specs.declared.plan.Next.TheVariants as nexts
use Rattle.arc_rule.specs.declared.step.Step.{Step}
use Rattle.arc_rule.specs.declared.step.Intent.TheVariants as intents
use Rattle.arc_rule.specs.declared.attempt.At.{At}
use Rattle.arc_rule.specs.declared.attempt.At.TheVariants as attempt
use Rattle.arc_rule.specs.declared.attempt.Choice.{Choice}
use Rattle.arc_rule.specs.declared.attempt.Choice.TheVariants.{Tell, Write}
use Rattle.arc_plan.specs.declared.unowned.UnownedDownAnswer.{UnownedDownAnswer}
use Rattle.arc_plan.specs.declared.unowned.UnownedDownAnswer.TheVariants as unowneds
use Rattle.arc_rule.specs.Attempts.{chosen, told_as, answer_by, turned_by, answer_at as attempt_answer, turned_at as attempt_turned}
use Rattle.arc_side.specs.declared.down.DownAnswer.{DownAnswer}
use Rattle.arc_side.specs.declared.down.DownAnswer.TheVariants as downs
use Rattle.arc_side.specs.Inline.{IsCountedInline, entry_named, entry_met}
use Rattle.arc_side.specs.Ups.{Rise, up_in, up_moved, up_choice, up_turned}
use Rattle.arc_side.specs.Downs.{Fall, down_in, down_moved, down_place, down_choice, down_end_at, down_end, of_strong_down, of_unowned_down, down_turned, down_answer}
use Rattle.arc_plan.specs.declared.strong.StrongDownAnswer.{StrongDownAnswer}
use Rattle.arc_plan.specs.declared.strong.StrongDownAnswer.TheVariants as strongs
use Rattle.arc_plan.specs.Strong.{strong_down_row, strong_down_end}
use Rattle.arc_plan.specs.Unowned.{unowned_down_row, unowned_down_end}
use Rattle.arc_plan.specs.Slots.{OneStep, one_turned, vacate_answer}
use Rattle.arc_cells.specs.Cascades.{CascadeState}
use Rattle.arc_cells.specs.Chains.{Frame}
use Rattle.arc_ops.specs.declared.stepper.Held.{Held}
use Rattle.arc_ops.specs.declared.stepper.Doing.TheVariants.{Dropping, Dying, Vacating}
use Rattle.arc_ops.specs.declared.stepper.Move.TheVariants as moves
use Rattle.arc_ops.specs.declared.gain.Gain.{Gain}
use Rattle.arc_ops.specs.Thread.{Thread}
use Rattle.arc_ops.specs.Plans.{drop_from, vacate_from as ending_from}
use Rattle.arc_ops.specs.Drops.{last_gone, dropped_on, vacated_on}
use Rattle.arc_ops.specs.Takes.{IsInline, IsGainWord, IsInlineAt as IsBareAt, gain_takes}
use Rattle.arc_ops.specs.declared.stepper.Move.{Move}
use Rattle.arc_served.specs.Kept.{Kept}
use Rattle.arc_ops.specs.Begins.{next_op}
use Rattle.arc_schedule.specs.Made.{Point, Made, made_at}
use Rattle.arc_schedule.specs.Plans.{Plan, Gives, down, vacate, told_by, down_told, vacate_told}
use Rattle.arc_schedule.specs.Plans.Starts.{first as starts_first}
use Rattle.arc_schedule.specs.Operations.{reference_to, SlotEnds, Drops}
use Rattle.arc_schedule.specs.Operations.SlotEnds.{bare as slot_ends}
use Rattle.arc_schedule.specs.Operations.Drops.{more as drops_more, last as drops_last, last_unowned as drops_last_unowned}
use Rattle.arc_schedule.proofs.Newest.{IsHere}
use Rattle.arc_schedule.proofs.Given.{Gave, waits, begun-from, given, gives, starts-again}
use Rattle.arc_schedule.proofs.Deinits.{IsDropping, IsEnding, IsDying}
use Rattle.arc_schedule.proofs.Deinits.Chained.{root}
use Rattle.arc_schedule.proofs.Stands.{step_in}
use Rattle.arc_schedule.proofs.Tells.{idle}

-- ---- which answers the words allow

-- the words that may be given name no entry, so the plan goes on to none
none-met : (Fits : Option Word → Type 0) → ((e : ℕ) → Fits (Some (Slow e)) → ⊥) → (entry : Option ℕ) (a : At) (w : ℕ) → IsBareAt Fits entry a w → (entry ≡ None) × (entry_met entry a (Some w) ≡ None)
none-met Fits slow (Some e) a w fits = absurd fits
none-met Fits slow None attempt.Start w fits = (refl, refl)
none-met Fits slow None attempt.Loading w fits = (refl, named (unpacked w) fits)
  where
    named : (o : Option Word) → Fits o → entry_named o ≡ None
    named None fits = refl
    named (Some Free) fits = refl
    named (Some (Slow e)) fits = absurd (slow e fits)
    named (Some Immortal) fits = refl
    named (Some (Counts c)) fits = refl
none-met Fits slow None (attempt.Exchanging seen new) w fits = (refl, refl)
none-met Fits slow None attempt.Ended w fits = (refl, refl)

gain-slow : (gain : Gain) (list : Kind) (caps : CapNumbers) (e : ℕ) → IsGainWord gain list caps (Some (Slow e)) → ⊥
gain-slow gain list caps e h = h

pub up-bare : (gain : Gain) (p : Rise) (w : ℕ) → gain_takes gain p (Some w) → (up_turned p (Some w)).entry ≡ None
up-bare gain p w takes =
    let m = none-met (IsGainWord gain p.list p.caps) (gain-slow gain p.list p.caps) p.entry p.at w takes.1 in
    ap (λ (o : Option ℕ). (turned_by up_moved p (up_in p o) (attempt_turned (up_choice p) p.at w)).entry) m.1 ∙ m.0

down-met : (p : Fall) (w : ℕ) → IsBareAt IsInline p.entry p.at w → (p.entry ≡ None) × (entry_met p.entry p.at (Some w) ≡ None)
down-met p w fits = none-met IsInline (λ e h. h) p.entry p.at w fits

down-bare : (p : Fall) (w : ℕ) → IsBareAt IsInline p.entry p.at w → (down_turned p (Some w)).entry ≡ None
down-bare p w fits =
    let m = down-met p w fits in
    ap (λ (o : Option ℕ). (turned_by down_moved p (down_in p o) (attempt_turned (down_choice p) p.at w)).entry) m.1 ∙ m.0

-- so the last reference that an inline word counts is no entry's
abbrev HasNoEntry : Next DownAnswer → Type 0
HasNoEntry (nexts.Done (downs.Last entry)) = entry ≡ None
HasNoEntry _ = ⊤

inline-last : (layout : Extent) (slot : ℕ) (list : Kind) (a : At) (w : ℕ) →
    HasNoEntry (attempt_answer (down_choice (record { layout = layout; slot = slot; list = list; entry = None; at = a })) (down_end (record { layout = layout; slot = slot; list = list; entry = None; at = a })) downs.Again
    (down_place (record { layout = layout; slot = slot; list = list; entry = None; at = a })) a w)
inline-last layout slot list attempt.Start w = tt
inline-last layout slot list attempt.Ended w = tt
inline-last layout slot Weak attempt.Loading w = tt
inline-last layout slot Strong attempt.Loading w = go (strong_down_row (unpacked w))
  where
    go : (c : Choice StrongDownAnswer) → HasNoEntry (chosen (number layout (Count slot)) w (told_as of_strong_down c))
    go (Write new) = tt
    go (Tell strongs.More) = tt
    go (Tell strongs.Last) = refl
    go (Tell (strongs.Slow e)) = tt
    go (Tell (strongs.Again c)) = tt
inline-last layout slot Unowned attempt.Loading w = go (unowned_down_row (unpacked w))
  where
    go : (c : Choice UnownedDownAnswer) → HasNoEntry (chosen (number layout (Count slot)) w (told_as of_unowned_down c))
    go (Write new) = tt
    go (Tell unowneds.More) = tt
    go (Tell unowneds.Last) = refl
    go (Tell (unowneds.Slow e)) = tt
    go (Tell (unowneds.Again c)) = tt
inline-last layout slot list (attempt.Exchanging seen new) w = ended list (eqb w seen)
  where
    strong : (a : StrongDownAnswer) → HasNoEntry (nexts.Done (of_strong_down a))
    strong strongs.More = tt
    strong strongs.Last = refl
    strong (strongs.Slow e) = tt
    strong (strongs.Again c) = tt

    unowned : (a : UnownedDownAnswer) → HasNoEntry (nexts.Done (of_unowned_down a))
    unowned unowneds.More = tt
    unowned unowneds.Last = refl
    unowned (unowneds.Slow e) = tt
    unowned (unowneds.Again c) = tt

    ended : (list : Kind) (b : Bool) → HasNoEntry (nexts.Done (cond b (down_end_at None list seen) (downs.Again (record { seen = seen; found = w }))))
    ended list false = tt
    ended Strong true = strong (strong_down_end (unpacked seen))
    ended Unowned true = unowned (unowned_down_end (unpacked seen))
    ended Weak true = tt

last-bare : (p : Fall) (w : ℕ) → IsBareAt IsInline p.entry p.at w → HasNoEntry (down_answer p (Some w))
last-bare p w fits = go p.entry (down-met p w fits).0 (entry_met p.entry p.at (Some w)) (down-met p w fits).1
  where
    go : (entry : Option ℕ) → entry ≡ None → (met : Option ℕ) → met ≡ None →
        HasNoEntry (answer_by down_place (down_in (record p { entry = entry }) met) (attempt_answer (down_choice (record p { entry = entry })) (down_end (record p { entry = entry })) downs.Again (down_place (record p { entry = entry })) p.at w))
    go None none None unmet = inline-last p.layout p.slot p.list p.at w
    go None none (Some e) unmet = absurd (cc)
    go (Some e) none met unmet = absurd (cc)

-- ---- what is done last

-- A thread drops a reference at a point, behind which this holds: what is under way stands for its steps, and when it is over the thread goes on.
pub record Lasts (shape : HeapShape) (point : Point) (Over : ℕ → List Made → Type 0) (t : Thread) (Goal : List Frame → Thread → List Made → Type 0) : Type 0 where
  pub layout_is : t.layout ≡ extent_of shape
  pub shape_is : t.shape ≡ shape
  pub drops : (chain : List Frame) (held : Held) (plan : Fall) (asked : Move) (event : Option Act) (now : List Made) → IsDropping shape point Over held plan t.hands (step_in asked) now → IsHere point now →
      Goal chain (record (idle t) { doing = Dropping held plan; asked = asked; event = event }) now
  pub dies : (chain : List Frame) (c : CascadeState) (asked : Move) (event : Option Act) (kept : Kept) (hands taken : ℕ) (now : List Made) → IsDying shape point Over chain c hands (step_in asked) now → IsHere point now →
      Goal chain (record (idle t) { doing = Dying c; asked = asked; event = event; kept = kept; hands = hands; taken = taken }) now
  pub ends : (chain : List Frame) (slot : ℕ) (plan : OneStep) (asked : Move) (event : Option Act) (now : List Made) → IsEnding shape point Over slot plan t.hands (step_in asked) now → IsHere point now →
      Goal chain (record (idle t) { doing = Vacating slot plan; asked = asked; event = event }) now
  pub over : (chain : List Frame) (event : Option Act) (now : List Made) → IsHere point now → Over t.hands now → Goal chain (next_op (record (idle t) { event = event })) now

-- ---- a reference is dropped

pub drops : (shape : HeapShape) (point : Point) (Over : ℕ → List Made → Type 0) (t : Thread) (Goal : List Frame → Thread → List Made → Type 0) → Lasts shape point Over t Goal → (s : Step) (w : ℕ) (now : List Made) →
    (held : Held) (plan : Fall) → IsDropping shape point Over held plan t.hands (Some s) now → IsBareAt IsInline plan.entry plan.at w →
    Goal [] (dropped_on held (down_turned plan (Some w)) (down_answer plan (Some w)) (idle t)) (made_at point s w (told_by (down_told held.hand) (down_answer plan (Some w))) ∷ now)
drops shape point Over t Goal x s w now held plan u fits =
    go (down_answer plan (Some w)) (last-bare plan w fits) (given fall point u.base now plan s w u.waits)
  where
    -- the plan for a reference of this kind
    fall_of : Kind → Plan Fall DownAnswer
    fall_of kind = down (extent_of shape) kind held.place held.hand

    fall : Plan Fall DownAnswer
    fall = fall_of held.kind

    after : List Made
    after = made_at point s w (told_by (down_told held.hand) (down_answer plan (Some w))) ∷ now

    last : Thread
    last = record (idle t) { event = Some (acts.Drop held.hand true) }

    ends_as : (kind : Kind) → held.kind ≡ kind → (came : ℕ) (end : List Made) → Drops shape point [] (reference_to held.hand kind held.place) t.hands u.base came end → Over came end
    ends_as kind is came end y = u.ends came end (subst (λ (c : Kind). Drops shape point [] (reference_to held.hand c held.place) t.hands u.base came end) (sym is) y)

    gone : (kind : Kind) → held.kind ≡ kind → (entry : Option ℕ) → entry ≡ None → Gives (fall_of kind) point u.base (downs.Last entry) after → Goal [] (last_gone kind held.place last) after
    gone Strong is entry none g = x.dies [] _ _ (Some (acts.Drop held.hand true)) t.kept t.hands t.taken after (record {
      layout = x.layout_is;
      shape_is = x.shape_is;
      came = omega arith;
      place = record {
        begun = record { hands = t.hands; base = after; waiting = root (λ came end y. ends_as Strong is came end (drops_last u.inside.place g y refl)); within = u.inside.place };
        hands_are = refl;
        now_is = refl;
        asks = rw x.layout_is refl;
      };
    }) (refl, refl)
    gone Unowned is entry none g =
        let ending : Plan OneStep (Unit {0}) = vacate (extent_of shape) held.place in
        let same : ending.start ≡ ending_from held.place last = rw x.layout_is refl in
        x.ends [] held.place _ _ (Some (acts.Drop held.hand true)) after (record {
          base = after;
          ends = λ end y. ends_as Unowned is t.hands end (drops_last_unowned u.inside.place g (subst (λ (o : Option ℕ). SlotEnds shape point held.place o after end) (sym none) y));
          waits = waits ending point after after _ _ (begun-from ending point after after (ending_from held.place last) starts_first same);
        }) (refl, refl)
    gone Weak is entry none g = absurd (subst IsCountedInline is u.inside.kind)

    go : (a : Next DownAnswer) → HasNoEntry a → Gave fall point u.base after a (down_turned plan (Some w)) → Goal [] (dropped_on held (down_turned plan (Some w)) a (idle t)) after
    go (nexts.Step s) bare g = x.drops [] held _ (moves.Step s (intents.Drop held.hand)) None after (record { base = u.base; ends = u.ends; waits = waits fall point u.base after _ s g; inside = u.inside; bare = down-bare plan w fits }) (refl, refl)
    go (nexts.Done (downs.More entry)) bare g =
        x.over [] (Some (acts.Drop held.hand false)) after (refl, refl) (u.ends t.hands after (drops_more u.inside.place u.inside.kind (gives fall point u.base after _ (downs.More entry) refl g)))
    go (nexts.Done (downs.Last entry)) bare g = gone held.kind refl entry bare (gives fall point u.base after _ (downs.Last entry) refl g)
    go (nexts.Done (downs.Again c)) bare g =
        let same : fall.start ≡ drop_from held (idle t) = rw x.layout_is refl in
        x.drops [] held _ _ None after (record {
          base = u.base;
          ends = u.ends;
          waits = waits fall point u.base after _ _ (begun-from fall point u.base after (drop_from held (idle t)) (starts-again fall point u.base after _ (downs.Again c) refl g) same);
          inside = u.inside;
          bare = refl;
        }) (refl, refl)

-- the slot ends of an object whose last unowned reference went
pub slot-ends : (shape : HeapShape) (point : Point) (Over : ℕ → List Made → Type 0) (t : Thread) (Goal : List Frame → Thread → List Made → Type 0) → Lasts shape point Over t Goal → (s : Step) (w : ℕ) (now : List Made) → (slot : ℕ) (plan : OneStep) → IsEnding shape point Over slot plan t.hands (Some s) now →
    Goal [] (vacated_on slot (one_turned plan (Some w)) (vacate_answer plan (Some w)) (idle t)) (made_at point s w (told_by (vacate_told slot) (vacate_answer plan (Some w))) ∷ now)
slot-ends shape point Over t Goal x s w now slot plan u = go (vacate_answer plan (Some w)) (given ending point u.base now plan s w u.waits)
  where
    ending : Plan OneStep (Unit {0})
    ending = vacate (extent_of shape) slot

    after : List Made
    after = made_at point s w (told_by (vacate_told slot) (vacate_answer plan (Some w))) ∷ now

    go : (a : Next (Unit {0})) → Gave ending point u.base after a (one_turned plan (Some w)) → Goal [] (vacated_on slot (one_turned plan (Some w)) a (idle t)) after
    go (nexts.Step s) g = x.ends [] slot _ (moves.Step s intents.Vacate) None after (record { base = u.base; ends = u.ends; waits = waits ending point u.base after _ s g }) (refl, refl)
    go (nexts.Done a) g = x.over [] (Some (acts.Vacate slot)) after (refl, refl) (u.ends after (slot_ends (gives ending point u.base after _ tt refl g)))
