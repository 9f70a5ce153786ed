-- A deinit ends: it reads its next word, the unowned count loses the one that stands for the strong references, its slot may be vacated, and
-- then the deinit that waits goes on, or all is over.
use Rattle.std.proofs.Common.{◌≡◌, ℕ, ◌+◌, Bool, true, false, cond, eqb, List, [], ◌∷◌, Option, Some, None, refl, sym, ap, subst, ◌∙◌, arith}
use Rattle.std.proofs.lemmas.Option.{same_Some}
use Rattle.std.specs.Prelude.{⊤}
use Rattle.arc_bits.specs.declared.packing.Word.{Word}
use Rattle.arc_bits.specs.declared.packing.Word.TheVariants.{Free, Counts, Slow, Immortal}
use Rattle.arc_bits.specs.Words.{unpacked}
use Rattle.arc_model.specs.declared.event.Act.{Act}
use Rattle.arc_model.specs.declared.event.Act.TheVariants as acts
use Rattle.arc_model.specs.declared.event.ObjectName.{ObjectName}
use Rattle.arc_model.specs.declared.shape.Kind.TheVariants.{Unowned}
use Rattle.arc_model.specs.Shapes.{HeapShape}
use Rattle.arc_model.specs.References.{field_count}
use Rattle.arc_rule.specs.Places.{number, extent_of}
use Rattle.arc_rule.specs.declared.layout.Place.TheVariants.{Count, Isa, Next as NextPlace}
use Rattle.arc_rule.specs.declared.plan.Next.{Next}
use Rattle.arc_rule.specs.declared.plan.Next.TheVariants as nexts
use Rattle.arc_rule.specs.declared.step.Step.{Step}
use Rattle.arc_rule.specs.declared.step.Step.TheVariants as steps
use Rattle.arc_rule.specs.declared.step.Intent.TheVariants as intents
use Rattle.arc_rule.specs.declared.attempt.At.{At}
use Rattle.arc_rule.specs.declared.attempt.At.TheVariants as attempt
use Rattle.arc_rule.specs.Attempts.{chosen, answer_by, turned_by, answer_at as attempt_answer, turned_at as attempt_turned}
use Rattle.arc_plan.specs.declared.unowned.UnownedDownAnswer.{UnownedDownAnswer}
use Rattle.arc_plan.specs.declared.unowned.UnownedDownAnswer.TheVariants as unowneds
use Rattle.arc_plan.specs.Attempts.{Attempt}
use Rattle.arc_plan.specs.Unowned.{unowned_down_row, unowned_down_end, unowned_down_turned, unowned_down_answer}
use Rattle.arc_plan.specs.Slots.{OneStep}
use Rattle.arc_plan.specs.declared.slots.Once.TheVariants as onces
use Rattle.arc_side.specs.declared.down.DownAnswer.{DownAnswer}
use Rattle.arc_side.specs.declared.down.DownAnswer.TheVariants as downs
use Rattle.arc_side.specs.declared.slot_end.At.TheVariants as slot_end
use Rattle.arc_side.specs.Inline.{entry_named, entry_met}
use Rattle.arc_side.specs.Downs.{Fall, inline_fall, down_in, down_moved, down_place, down_choice, down_end, down_turned, down_answer}
use Rattle.arc_side.specs.SlotEnds.{SlotEnding, slot_end_from, slot_end_turn, vacates}
use Rattle.arc_side.proofs.Parts.{as_unowned_down, unowned_down_says, unowned_down_turns}
use Rattle.arc_cells.specs.declared.cascade.At.TheVariants as at
use Rattle.arc_cells.specs.declared.parent.Parent.{Parent}
use Rattle.arc_cells.specs.Chains.{Frame, next_word_of, parent_in, parent_of}
use Rattle.arc_cells.specs.Cascades.{CascadeTurn, finish_begins, finishes, climbs, turn_at}
use Rattle.arc_ops.specs.Thread.{Thread}
use Rattle.arc_ops.specs.Drops.{dying_on, taken_by, deinit_tells}
use Rattle.arc_ops.specs.Begins.{next_op}
use Rattle.arc_schedule.specs.Made.{Point, Made, made_at}
use Rattle.arc_schedule.specs.Plans.{Plan, Starts, Gives, finish, vacate, told_by, finish_told}
use Rattle.arc_schedule.specs.Plans.Starts.{first as starts_first}
use Rattle.arc_schedule.specs.Operations.{loads, IsCascade}
use Rattle.arc_schedule.specs.Operations.IsCascade.{finish_more, finish_last}
use Rattle.arc_schedule.proofs.Given.{Gave, Waits, waits, begun-from, given, gives, starts-again}
use Rattle.arc_schedule.proofs.Deinits.{Chained, InFields, IsLeaving, IsFinishing, IsVacating, IsBare}
use Rattle.arc_schedule.proofs.Deinits.Chained.{root, under}
use Rattle.arc_schedule.proofs.Tells.{idle}
use Rattle.arc_schedule.proofs.Lasts.{Lasts}
use Rattle.arc_schedule.proofs.Turning.{word-of-parent, state, Left, goes}
use Rattle.arc_schedule.proofs.Releases.{inline-fall}

-- no entry is met in the inline word, so an attempt there doesn't go on to one
abbrev IsInlineAnswer : Next UnownedDownAnswer → Type 0
IsInlineAnswer (nexts.Done (unowneds.Slow e)) = ⊥
IsInlineAnswer _ = ⊤

inline-answer : (p : Attempt) (w : ℕ) → entry_met None p.at (Some w) ≡ None → IsInlineAnswer (unowned_down_answer p (Some w))
inline-answer p w unmet = go p.at unmet
  where
    loaded : (o : Option Word) → entry_named o ≡ None → IsInlineAnswer (chosen (number p.layout (Count p.slot)) w (unowned_down_row o))
    loaded None fits = tt
    loaded (Some Free) fits = tt
    loaded (Some (Slow e)) fits = absurd (cc)
    loaded (Some Immortal) fits = tt
    loaded (Some (Counts c)) fits = tt

    ended : (b : Bool) → IsInlineAnswer (nexts.Done (cond b unowneds.Last unowneds.More))
    ended true = tt
    ended false = tt

    found : (seen : ℕ) (b : Bool) (o : Option Word) → IsInlineAnswer (nexts.Done (cond b (unowned_down_end o) (unowneds.Again (record { seen = seen; found = w }))))
    found seen true None = tt
    found seen true (Some Free) = tt
    found seen true (Some (Slow e)) = tt
    found seen true (Some Immortal) = tt
    found seen true (Some (Counts c)) = ended (eqb c.unowned 1)
    found seen false o = tt

    go : (a : At) → entry_met None a (Some w) ≡ None → IsInlineAnswer (attempt_answer (λ v. unowned_down_row (unpacked v)) (λ seen. unowned_down_end (unpacked seen)) unowneds.Again (number p.layout (Count p.slot)) a w)
    go attempt.Start fits = tt
    go attempt.Loading fits = loaded (unpacked w) fits
    go (attempt.Exchanging seen new) fits = found seen (eqb w seen) (unpacked seen)
    go attempt.Ended fits = tt

module _ (shape : HeapShape) (point : Point) (Over : ℕ → List Made → Type 0) (t : Thread) (Goal : List Frame → Thread → List Made → Type 0) (x : Lasts shape point Over t Goal) (s : Step) (w : ℕ) (now : List Made) where
  -- the stepper is bare behind a turn
  abbrev StaysBare : CascadeTurn → Type 0
  StaysBare turn = IsBare (dying_on turn.after turn.says (deinit_tells turn.after.event (idle t))).doing

  -- the deinit is over: the first of those that wait goes on, or what is under way is over
  climbs-on : (chain : List Frame) (slot before taken hands : ℕ) (base : List Made) (e : Option Act) → taken_by e ≡ 0 → before + taken ≡ t.hands → Chained shape point Over chain slot hands base → IsCascade shape point chain slot hands base t.hands (made_at point s w e ∷ now) →
      Left shape point Over t Goal x s w now chain (climbs (state shape slot before taken at.Ended e) (parent_of chain))
  climbs-on [] slot before taken hands base e none came (root over) y =
      let no_hand : t.hands ≡ t.hands + taken_by e = omega (arith, none) in
      let no_take : t.taken ≡ t.taken + taken_by e = omega (arith, none) in
      let Q : ℕ → ℕ → Type 0 = λ (n m : ℕ). Goal [] (next_op (record (idle t) { event = e; hands = n; taken = m })) (made_at point s w e ∷ now) in
      subst (λ (m : ℕ). Q (t.hands + taken_by e) m) no_take (subst (λ (n : ℕ). Q n t.taken) no_hand (x.over [] e (made_at point s w e ∷ now) (refl, refl) (over t.hands (made_at point s w e ∷ now) y)))
  climbs-on (p ∷ chain) slot before taken hands base e none came (under {first = first} {begun = begun} within inside waiting on) y =
      goes shape point Over t Goal x s w now (p ∷ chain) (state shape p.slot before taken (at.Resuming p.field) e) t.hands (steps.Load (number (extent_of shape) (Isa p.slot))) (intents.Deinit p.slot) t.kept (omega (arith, none)) (record {
        layout = refl;
        shape_is = refl;
        came = came;
        place = record {
          slot_is = refl;
          field_is = refl;
          inside = inside;
          fields = record { begun = record { hands = first; base = begun; waiting = waiting; within = within }; done = on t.hands (made_at point s w e ∷ now) y };
          asks = refl;
        };
      })

  module _ (chain : List Frame) (slot before taken : ℕ) (came : before + taken ≡ t.hands) (name : ObjectName) (left : List Made) (fields : InFields shape point Over chain slot name (field_count shape name) t.hands left) where
    abbrev ending : Plan Attempt UnownedDownAnswer
    ending = finish (extent_of shape) slot

    abbrev vacating : Plan OneStep (Unit {0})
    vacating = vacate (extent_of shape) slot

    -- the steps behind which the count goes down
    abbrev base : List Made
    base = loads shape point (NextPlace slot) (next_word_of (parent_of chain)) ∷ left

    none-taken : t.hands ≡ t.hands + 0
    none-taken = omega arith

    -- the end begins, or begins anew
    begins-end : Starts ending point base (made_at point s w None ∷ now) → Left shape point Over t Goal x s w now chain (finish_begins (state shape slot before taken at.Ended None) (parent_of chain))
    begins-end starts =
        goes shape point Over t Goal x s w now chain (state shape slot before taken (at.Finishing (parent_of chain) (down_turned (inline-fall shape Unowned slot attempt.Start) None)) None) t.hands
        (steps.Load (number (extent_of shape) (Count slot))) (intents.Deinit slot) t.kept none-taken (record {
          layout = refl;
          shape_is = refl;
          came = came;
          place = record {
            parent_is = refl;
            plan = refl;
            name = name;
            left = left;
            fields = fields;
            waits = waits ending point base (made_at point s w None ∷ now) _ _ (begun-from ending point base (made_at point s w None ∷ now) (record { layout = extent_of shape; slot = slot; at = attempt.Start }) starts refl);
          };
        })

    finishing : (q : Fall) → q ≡ inline-fall shape Unowned slot q.at → (a : Next UnownedDownAnswer) → IsInlineAnswer a → Gave ending point base (made_at point s w (told_by (finish_told slot) a) ∷ now) a (inline_fall q) →
        Left shape point Over t Goal x s w now chain (finishes (state shape slot before taken at.Ended None) (parent_of chain) q (as_unowned_down (extent_of shape) a))
    finishing q plan (nexts.Step z) fits g =
        goes shape point Over t Goal x s w now chain (state shape slot before taken (at.Finishing (parent_of chain) q) None) t.hands z (intents.Deinit slot) t.kept none-taken (record {
          layout = refl;
          shape_is = refl;
          came = came;
          place = record { parent_is = refl; plan = plan; name = name; left = left; fields = fields; waits = waits ending point base (made_at point s w None ∷ now) (inline_fall q) z g };
        })
    finishing q plan (nexts.Done unowneds.More) fits g =
        climbs-on chain slot before taken fields.begun.hands fields.begun.base (Some (acts.Finish slot false)) refl came fields.begun.waiting
        (finish_more fields.done (gives ending point base (made_at point s w (Some (acts.Finish slot false)) ∷ now) (inline_fall q) unowneds.More refl g))
    finishing q plan (nexts.Done unowneds.Last) fits g =
        let after : List Made = made_at point s w (Some (acts.Finish slot true)) ∷ now in
        goes shape point Over t Goal x s w now chain (state shape slot before taken (at.Ending (parent_of chain) (slot_end_turn (slot_end_from (extent_of shape) slot None) None).after) (Some (acts.Finish slot true))) t.hands
        (vacates (extent_of shape) slot) intents.Vacate t.kept none-taken (record {
          layout = refl;
          shape_is = refl;
          came = came;
          place = record {
            parent_is = refl;
            plan = refl;
            name = name;
            left = left;
            fields = fields;
            mid = after;
            finished = gives ending point base after (inline_fall q) unowneds.Last refl g;
            waits = waits vacating point after after _ _ (begun-from vacating point after after vacating.start starts_first refl);
          };
        })
    finishing q plan (nexts.Done (unowneds.Slow z)) fits g = absurd fits
    finishing q plan (nexts.Done (unowneds.Again z)) fits g = begins-end (starts-again ending point base (made_at point s w None ∷ now) (inline_fall q) (unowneds.Again z) refl g)

    -- what comes of the count, where the inline word that it read names this entry, or none
    abbrev counted : At → Option ℕ → CascadeTurn
    counted a met =
        finishes (state shape slot before taken at.Ended None) (parent_of chain)
        (turned_by down_moved (inline-fall shape Unowned slot a) (down_in (inline-fall shape Unowned slot a) met) (attempt_turned (down_choice (inline-fall shape Unowned slot a)) a w))
        (answer_by down_place (down_in (inline-fall shape Unowned slot a) met)
        (attempt_answer (down_choice (inline-fall shape Unowned slot a)) (down_end (inline-fall shape Unowned slot a)) downs.Again (down_place (inline-fall shape Unowned slot a)) a w))

    finished : (a : At) → Waits ending point base now (record { layout = extent_of shape; slot = slot; at = a }) (Some s) → (met : Option ℕ) → entry_met None a (Some w) ≡ met →
        StaysBare (counted a (entry_met None a (Some w))) → Left shape point Over t Goal x s w now chain (counted a (entry_met None a (Some w)))
    finished a waiting (Some e) met bare =
        let no : StaysBare (counted a (Some e)) = subst (λ (m : Option ℕ). StaysBare (counted a m)) met bare in
        let absent : Some e ≡ None = no in
        absurd (cc)
    finished a waiting None met bare =
        let turned_is = unowned_down_turns (extent_of shape) slot a (Some w) met in
        let says_is = unowned_down_says (extent_of shape) slot a (Some w) in
        let plan : Attempt = record { layout = extent_of shape; slot = slot; at = a } in
        let q : Fall = inline-fall shape Unowned slot (unowned_down_turned plan (Some w)).at in
        let stands = finishing q refl (unowned_down_answer plan (Some w)) (inline-answer plan w met) (given ending point base now plan s w waiting) in
        subst (λ (r : Fall). Left shape point Over t Goal x s w now chain (finishes (state shape slot before taken at.Ended None) (parent_of chain) r (down_answer (inline-fall shape Unowned slot a) (Some w)))) (sym turned_is)
        (subst (λ (n : Next DownAnswer). Left shape point Over t Goal x s w now chain (finishes (state shape slot before taken at.Ended None) (parent_of chain) q n)) (sym says_is) stands)

    -- the slot is vacated
    vacated : (p : SlotEnding) → p ≡ record { layout = extent_of shape; slot = slot; entry = None; at = slot_end.Vacating; event = p.event } → (mid : List Made) → Gives ending point base unowneds.Last mid →
        Waits vacating point mid now (record { layout = extent_of shape; slot = slot; at = onces.Asked }) (Some s) → Left shape point Over t Goal x s w now chain (turn_at (state shape slot before taken at.Ended None) (Some w) (at.Ending (parent_of chain) p))
    vacated p plan mid finished waiting =
        subst (λ (q : SlotEnding). Left shape point Over t Goal x s w now chain (turn_at (state shape slot before taken at.Ended None) (Some w) (at.Ending (parent_of chain) q))) (sym plan)
        (climbs-on chain slot before taken fields.begun.hands fields.begun.base (Some (acts.Vacate slot)) refl came fields.begun.waiting
        (finish_last fields.done finished (gives vacating point mid (made_at point s w (Some (acts.Vacate slot)) ∷ now) _ tt refl (given vacating point mid now (record { layout = extent_of shape; slot = slot; at = onces.Asked }) s w waiting))))

  -- the next word says which deinit waits
  pub leaves : (chain : List Frame) (slot before taken : ℕ) → before + taken ≡ t.hands → IsLeaving shape point Over chain slot t.hands (Some s) now → parent_in w ≡ parent_of chain →
      Left shape point Over t Goal x s w now chain (turn_at (state shape slot before taken at.Ended None) (Some w) at.Leaving)
  leaves chain slot before taken came p fits =
      let word : next_word_of (parent_of chain) ≡ w = ap next_word_of (sym fits) ∙ word-of-parent w in
      let e = same_Some s _ p.asks in
      let steps_are : loads shape point (NextPlace slot) (next_word_of (parent_of chain)) ∷ now ≡ made_at point s w None ∷ now = rw (e, word) refl in
      let Q : List Made → Type 0 = λ (ms : List Made). Starts (finish (extent_of shape) slot) point (loads shape point (NextPlace slot) (next_word_of (parent_of chain)) ∷ now) ms in
      subst (λ (o : Option Parent). Left shape point Over t Goal x s w now chain (finish_begins (state shape slot before taken at.Ended None) o)) (sym fits)
      (begins-end chain slot before taken came p.name now p.fields (subst Q steps_are starts_first))

  pub finishes-it : (chain : List Frame) (slot before taken : ℕ) (parent : Option Parent) (q : Fall) → before + taken ≡ t.hands → IsFinishing shape point Over chain slot t.hands parent q (Some s) now →
      StaysBare (turn_at (state shape slot before taken at.Ended None) (Some w) (at.Finishing parent q)) → Left shape point Over t Goal x s w now chain (turn_at (state shape slot before taken at.Ended None) (Some w) (at.Finishing parent q))
  finishes-it chain slot before taken parent q came p bare =
      let P : Option Parent → Fall → Type 0 = λ (o : Option Parent) (r : Fall). StaysBare (turn_at (state shape slot before taken at.Ended None) (Some w) (at.Finishing o r)) →
      Left shape point Over t Goal x s w now chain (turn_at (state shape slot before taken at.Ended None) (Some w) (at.Finishing o r)) in
      let waiting : Waits (finish (extent_of shape) slot) point (loads shape point (NextPlace slot) (next_word_of (parent_of chain)) ∷ p.left) now (record { layout = extent_of shape; slot = slot; at = q.at }) (Some s) =
      subst (λ (r : Fall). Waits (finish (extent_of shape) slot) point (loads shape point (NextPlace slot) (next_word_of (parent_of chain)) ∷ p.left) now (inline_fall r) (Some s)) p.plan p.waits in
      subst (λ (o : Option Parent). P o q) (sym p.parent_is) (subst (λ (r : Fall). P (parent_of chain) r) (sym p.plan)
      (finished chain slot before taken came p.name p.left p.fields q.at waiting (entry_met None q.at (Some w)) refl)) bare

  pub vacates-it : (chain : List Frame) (slot before taken : ℕ) (parent : Option Parent) (q : SlotEnding) → before + taken ≡ t.hands → IsVacating shape point Over chain slot t.hands parent q (Some s) now →
      Left shape point Over t Goal x s w now chain (turn_at (state shape slot before taken at.Ended None) (Some w) (at.Ending parent q))
  vacates-it chain slot before taken parent q came p =
      subst (λ (o : Option Parent). Left shape point Over t Goal x s w now chain (turn_at (state shape slot before taken at.Ended None) (Some w) (at.Ending o q))) (sym p.parent_is)
      (vacated chain slot before taken came p.name p.left p.fields q p.plan p.mid p.finished p.waits)
