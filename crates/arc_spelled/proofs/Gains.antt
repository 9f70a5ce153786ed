-- A stepper that gains a reference from one in a variable or in a cell keeps what it stands for.
use Rattle.std.proofs.Common.{◌≡◌, ℕ, ◌+◌, Bool, true, false, cond, eqb, List, ◌∷◌, Option, Some, None, refl, sym, ap, subst, ◌∙◌, arith}
use Rattle.std.proofs.lemmas.Bool.{eqb-true}
use Rattle.std.specs.Option.{unwrap_or}
use Rattle.arc_bits.specs.declared.packing.Word.{Word}
use Rattle.arc_bits.specs.declared.packing.Word.TheVariants.{Free, Counts, Slow, Immortal}
use Rattle.arc_bits.specs.Words.{unpacked, packed}
use Rattle.arc_bits.specs.Moves.{strong_more, unowned_more}
use Rattle.arc_model.specs.declared.answer.Answer.TheVariants as answers
use Rattle.arc_model.specs.declared.event.CellName.{CellName}
use Rattle.arc_model.specs.declared.event.Origin.{Origin}
use Rattle.arc_model.specs.declared.event.Origin.TheVariants as origins
use Rattle.arc_model.specs.declared.event.Act.TheVariants as acts
use Rattle.arc_model.specs.declared.event.Got.TheVariants as gots
use Rattle.arc_model.specs.declared.shape.Kind.{Kind}
use Rattle.arc_model.specs.declared.shape.Kind.TheVariants as kinds
use Rattle.arc_spelling.specs.Spelling.{Note, hands_of}
use Rattle.arc_spelling.specs.Spelling.Note.{Did, Line, Operation, Name, Refers}
use Rattle.arc_spelling.specs.SpellingGains.Spare.{Unclaimed}
use Rattle.arc_spelling.specs.SpellingGains.IsReady.{start as ready}
use Rattle.arc_spelling.specs.SpellingGains.IsSettled.{unclaimed}
use Rattle.arc_rule.specs.Isa.{isa_name_of}
use Rattle.arc_rule.specs.declared.step.Step.{Step}
use Rattle.arc_rule.specs.declared.plan.Next.{Next}
use Rattle.arc_rule.specs.declared.plan.Next.TheVariants as nexts
use Rattle.arc_rule.specs.declared.attempt.At.{At}
use Rattle.arc_rule.specs.declared.attempt.At.TheVariants as attempt
use Rattle.arc_rule.specs.declared.attempt.Choice.TheVariants.{Tell, Write}
use Rattle.arc_plan.specs.declared.slots.Once.{Once}
use Rattle.arc_plan.specs.declared.slots.Once.TheVariants as once
use Rattle.arc_side.specs.declared.up.UpAnswer.{UpAnswer}
use Rattle.arc_side.specs.declared.up.UpAnswer.TheVariants as ups
use Rattle.arc_rule.specs.declared.attempt.Choice.{Choice}
use Rattle.arc_model.specs.Shapes.{CapNumbers}
use Rattle.arc_plan.specs.declared.strong.StrongUpAnswer.TheVariants as strongs
use Rattle.arc_plan.specs.declared.unowned.UnownedUpAnswer.TheVariants as unowneds
use Rattle.arc_served.specs.Kept.{Kept}
use Rattle.arc_model.specs.declared.answer.Answer.{Answer}
use Rattle.arc_side.specs.Inline.{entry_named, entry_met}
use Rattle.arc_side.specs.Ups.{Rise, of_strong_up, of_unowned_up, UpWordAt, up_choice_at, up_in, up_moved, up_place}
use Rattle.arc_rule.specs.Attempts.{exchanging, chosen, told_as, turned_by as moved_by, answer_by, takes_at as attempt_takes, turned_at as attempt_turned, answer_at as attempt_answer}
use Rattle.arc_plan.specs.Strong.{strong_up_row}
use Rattle.arc_plan.specs.Unowned.{unowned_up_row}
use Rattle.arc_plan.specs.Slots.{OneStep, once_turned, once_answer, reading_isa}
use Rattle.arc_cells.specs.Cascades.{NamesClass}
use Rattle.arc_script.specs.declared.script.Op.{Op}
use Rattle.arc_script.specs.declared.script.Op.TheVariants as op
use Rattle.arc_programs.specs.Variables as programs
use Rattle.arc_programs.specs.Programs.{IsAnswered}
use Rattle.arc_programs.specs.Programs.IsAnswered.{copied, unowned_formed, loaded as loads_held, found_dead as finds_dead}
use Rattle.arc_served.specs.Programs.{ordinal, kind_of, KindsFit}
use Rattle.arc_ops.specs.declared.stepper.Held.{Held}
use Rattle.arc_ops.specs.declared.gain.Gain.{Gain}
use Rattle.arc_ops.specs.declared.gain.Gain.TheVariants as gains
use Rattle.arc_ops.specs.declared.gain.Source.{Source}
use Rattle.arc_ops.specs.declared.stepper.Doing.TheVariants.{Ended}
use Rattle.arc_ops.specs.Thread.{Thread, value, put}
use Rattle.arc_ops.specs.Plans.{of_hand, list_of, act_of, op_of}
use Rattle.arc_ops.specs.Drops.{replaced}
use Rattle.arc_ops.specs.Gains.{gained, came_by, found_dead, gained_on, named_on}
use Rattle.arc_ops.specs.Takes.{FindsDead, IsGainWord, IsInlineAt}
use Rattle.arc_ops.specs.Thread as thread
use Rattle.arc_spelled.specs.Came.{copied_out, came_out, KnowsWhatComes}
use Rattle.arc_spelled.specs.Shown.IsNamedFor.{line as for_line}
use Rattle.arc_spelled.specs.Shown.Reads.{nothing as read_nothing, name as read_name}
use Rattle.arc_spelled.specs.Shown.FindsReference.{nothing as refers_nothing, refers}
use Rattle.arc_spelled.specs.Shown.FindsEntry.{nothing as found_nothing}
use Rattle.arc_spelled.specs.Shown.Says.{nothing, line}
use Rattle.arc_spelled.specs.StepperStands.{Work, IsServedWork, held_in, variables, IsGaining, IsGetting, GainsUpTo, IsLoaded, step_in, IsCounted}
use Rattle.arc_spelled.proofs.StepperSteps.{comes-after, counted-line, number-here, value-held}
use Rattle.arc_spelled.proofs.Begins.{replaces}
use Rattle.arc_spelled.proofs.KindsKept.{holds-at, FitsKind, fits-some, gained-kind}
use Rattle.arc_spelled.proofs.Turning.{IsAtWork, given, Turns, turned-by, plainly}

-- What a gain has done: where it took from a cell, what it has counted comes out of that.
abbrev GainsOn : Work → Thread → Option ℕ → List Note → Gain → ℕ → Source → Rise → Next UpAnswer → Type 0
GainsOn w t last now gain to from plan answer = copied_out from.origin from (t.hands + 1) answer ≡ came_out t last → Turns w t (gained_on gain to from plan answer (given t)) last now

-- the gain has begun
abbrev HasBegun : Work → Thread → List Note → Gain → ℕ → Source → Type 0
HasBegun w t now gain to from = GainsUpTo w t.index gain to from.origin from.kind from.place t.vars now

gain-asks : (w : Work) (t : Thread) (last : Option ℕ) (now : List Note) → IsAtWork w t now → (gain : Gain) (to : ℕ) (from : Source) (plan : Rise) (step : Step) → HasBegun w t now gain to from →
    GainsOn w t last now gain to from plan (nexts.Step step)
gain-asks w t last now work gain to from plan step u out = plainly w t _ last now None (record {
  after = now;
  says = nothing;
  event = refl;
  stands = record { works = work.works; in_phase = work.phase; counts = work.counts; number = work.number; asks = tt; up_to = u };
})

-- ---- from a variable

-- it has one reference more
counted-gain : (w : Work) (hands taken objects : ℕ) (kept : Kept) (now : List Note) (gain : Gain) (from : Source) (k : ℕ) → IsCounted w hands taken objects kept now → IsCounted w (hands + 1) taken objects kept (Did (act_of gain from k) ∷ now)
counted-gain w hands taken objects kept now gains.Copy from k c = record { hands_are = ap (λ (n : ℕ). n + 1) c.hands_are; taken_is = c.taken_is; made_is = c.made_is; lines_are = c.lines_are }
counted-gain w hands taken objects kept now gains.Unown from k c = record { hands_are = ap (λ (n : ℕ). n + 1) c.hands_are; taken_is = c.taken_is; made_is = c.made_is; lines_are = c.lines_are }
counted-gain w hands taken objects kept now gains.Load from k c = record { hands_are = ap (λ (n : ℕ). n + 1) c.hands_are; taken_is = c.taken_is; made_is = c.made_is; lines_are = c.lines_are }

-- the new reference is of the kind of its variable
gained-fits : (w : Work) → IsServedWork w → (t : Thread) (now : List Note) → IsAtWork w t now → (gain : Gain) (to : ℕ) (from : Held) → IsGaining w t.index gain to from t.vars now → list_of gain (of_hand from) ≡ kind_of w.kinds to
gained-fits w served t now work gain to from u =
    gained-kind w.shape w.classes w.kinds gain to u.of (of_hand from) (holds-at (KindsFit w.shape w.classes w.kinds) w.program t.index (op_of gain to u.of) served.kinds_fit u.begun.there) (work.works.kinds u.of from u.source)

-- how the operation answers, where it did what it began
abbrev pub AnswersIn : Work → Thread → Op → ℕ → (new : Option Held) → Answer → (before after : List Note) → Type 0
AnswersIn w t o to new answer before after =
    IsAnswered w.thread w.came o (variables t.vars) before (programs.put (variables t.vars) to (held_in new)) answer (programs.value (variables t.vars) to) after

-- the reference is there, with its line
says-ok : (w : Work) → IsServedWork w → (t : Thread) (last : Option ℕ) (now : List Note) → IsAtWork w t now → (gain : Gain) (to : ℕ) (from : Held) (u : IsGaining w t.index gain to from t.vars now) →
    AnswersIn w t (op_of gain to u.of) to (Some (gained gain (of_hand from) t)) answers.Ok now (Did (act_of gain (of_hand from) (t.hands + 1)) ∷ now) →
    Turns w t (replaced to (Some (gained gain (of_hand from) t)) (put answers.Ok (came_by gain (of_hand from) (given t)))) last now
says-ok w served t last now work gain to from u answered =
    plainly w t _ last now (Some (act_of gain (of_hand from) (t.hands + 1)))
    (comes-after w _ (Some (act_of gain (of_hand from) (t.hands + 1))) (Did (act_of gain (of_hand from) (t.hands + 1)) ∷ now) (Line answers.Ok ∷ Did (act_of gain (of_hand from) (t.hands + 1)) ∷ now) (line nothing)
    (replaces w served (put answers.Ok (came_by gain (of_hand from) (given t))) to (Some (gained gain (of_hand from) t)) (op_of gain to u.of) answers.Ok u.begun.base (Did (act_of gain (of_hand from) (t.hands + 1)) ∷ now) work.works
    (counted-line w (t.hands + 1) t.taken t.made t.kept (thread.number_of t) answers.Ok (Did (act_of gain (of_hand from) (t.hands + 1)) ∷ now) (number-here w t (Did (act_of gain (of_hand from) (t.hands + 1)) ∷ now) work.works work.number)
    (counted-gain w t.hands t.taken t.made t.kept now gain (of_hand from) (t.hands + 1) work.counts))
    work.number work.phase u.begun.done u.begun.there (fits-some w.kinds to (gained gain (of_hand from) t) (gained-fits w served t now work gain to from u)) (subst P u.begun.now_is answered)))
  where
    P : List Note → Type 0
    P b = AnswersIn w t (op_of gain to u.of) to (Some (gained gain (of_hand from) t)) answers.Ok b (Did (act_of gain (of_hand from) (t.hands + 1)) ∷ now)

hand-gained : (w : Work) → IsServedWork w → (t : Thread) (last : Option ℕ) (now : List Note) → IsAtWork w t now → (gain : Gain) (to : ℕ) (from : Held) (plan : Rise) → IsGaining w t.index gain to from t.vars now →
    Turns w t (gained_on gain to (of_hand from) plan (nexts.Done ups.Up) (given t)) last now
hand-gained w served t last now work gains.Copy to from plan u = says-ok w served t last now work gains.Copy to from u
    (copied (value-held t.vars u.of (Some from) u.source) (ap (λ (n : ℕ). n + 1) work.counts.hands_are) (record { spare = Unclaimed; decided = now; ready = ready; settled = unclaimed }) (record { replaced = refl; old = refl }))
hand-gained w served t last now work gains.Unown to from plan u = says-ok w served t last now work gains.Unown to from u
    (unowned_formed (value-held t.vars u.of (Some from) u.source) (ap (λ (n : ℕ). n + 1) work.counts.hands_are) (record { spare = Unclaimed; decided = now; ready = ready; settled = unclaimed }) (record { replaced = refl; old = refl }))
hand-gained w served t last now work gains.Load to from plan u = plainly w t _ last now (Some (acts.Load from.hand (gots.Hand (t.hands + 1)))) (record {
  after = Did (acts.Load from.hand (gots.Hand (t.hands + 1))) ∷ now;
  says = nothing;
  event = refl;
  stands = record {
    works = work.works;
    in_phase = work.phase;
    counts = counted-gain w t.hands t.taken t.made t.kept now gains.Load (of_hand from) (t.hands + 1) work.counts;
    number = work.number;
    asks = tt;
    up_to = record {
      from = from;
      before = now;
      gaining = u;
      held_is = rw work.counts.hands_are refl;
      now_is = refl;
      waits = refl;
      asks = rw work.works.layout_is refl;
    };
  };
})

-- a load finds that the object's deinit has begun
load-finds-dead : (w : Work) → IsServedWork w → (t : Thread) (last : Option ℕ) (now : List Note) → IsAtWork w t now → (to : ℕ) (from : Held) → IsGaining w t.index gains.Load to from t.vars now → Turns w t (found_dead to (of_hand from) (given t)) last now
load-finds-dead w served t last now work to from u =
    plainly w t _ last now (Some (acts.Load from.hand gots.Dead))
    (comes-after w _ (Some (acts.Load from.hand gots.Dead)) (Did (acts.Load from.hand gots.Dead) ∷ now) (Line answers.Dead ∷ Did (acts.Load from.hand gots.Dead) ∷ now) (line nothing)
    (replaces w served (put answers.Dead (record t { doing = Ended; first = false; event = Some (acts.Load from.hand gots.Dead) })) to None (op.Load to u.of) answers.Dead u.begun.base (Did (acts.Load from.hand gots.Dead) ∷ now) work.works
    (counted-line w t.hands t.taken t.made t.kept (thread.number_of t) answers.Dead (Did (acts.Load from.hand gots.Dead) ∷ now) (number-here w t (Did (acts.Load from.hand gots.Dead) ∷ now) work.works work.number)
    (record { hands_are = work.counts.hands_are; taken_is = work.counts.taken_is; made_is = work.counts.made_is; lines_are = work.counts.lines_are }))
    work.number work.phase u.begun.done u.begun.there (λ h e. absurd (cc)) (subst P u.begun.now_is answered)))
  where
    P : List Note → Type 0
    P b = AnswersIn w t (op.Load to u.of) to None answers.Dead b (Did (acts.Load from.hand gots.Dead) ∷ now)

    unowned : from.kind ≡ kinds.Unowned
    unowned = work.works.kinds u.of from u.source ∙ (holds-at (KindsFit w.shape w.classes w.kinds) w.program t.index (op.Load to u.of) served.kinds_fit u.begun.there).1

    answered : AnswersIn w t (op.Load to u.of) to None answers.Dead now (Did (acts.Load from.hand gots.Dead) ∷ now)
    answered = finds_dead (value-held t.vars u.of (Some from) u.source) unowned (record { spare = Unclaimed; decided = now; ready = ready; settled = unclaimed }) (record { replaced = refl; old = refl })

-- ---- from a cell

-- it was copied, and the access is to end
cell-copied : (w : Work) (t : Thread) (last : Option ℕ) (now : List Note) → IsAtWork w t now → KnowsWhatComes w.came t last → (to : ℕ) (cell : CellName) (kind : Kind) (place : ℕ) (plan : Rise) → IsGetting w t.index to (record { name = cell; kind = kind }) t.vars now →
    GainsOn w t last now gains.Copy to (record { origin = origins.Cell cell; kind = kind; place = place }) plan (nexts.Done ups.Up)
cell-copied w t last now work knows to cell kind place plan u out = turned-by w t _ last now (Some (acts.Copy (origins.Cell cell) (t.hands + 1))) found
    (record { read = now; reads = read_nothing; referred = Refers cell kind place ∷ now; refers = refers (sym out) refl; finds = found_nothing }) (record {
      after = found;
      says = nothing;
      event = refl;
      stands = record {
        works = work.works;
        in_phase = work.phase;
        counts = record { hands_are = hand_is; taken_is = work.counts.taken_is; made_is = work.counts.made_is; lines_are = work.counts.lines_are };
        number = work.number;
        asks = tt;
        up_to = record {
          before = now;
          getting = u;
          hand_is = hand_is;
          came = knows (record { cell = cell; hand = t.hands + 1; kind = kind; place = place }) (sym out);
          now_is = refl;
        };
      };
    })
  where
    found : List Note
    found = Did (acts.Copy (origins.Cell cell) (t.hands + 1)) ∷ Refers cell kind place ∷ now

    hand_is : t.hands + 1 ≡ hands_of now + 1
    hand_is = ap (λ (n : ℕ). n + 1) work.counts.hands_are

-- ---- from either

gained-from : (w : Work) → IsServedWork w → (t : Thread) (last : Option ℕ) (now : List Note) → IsAtWork w t now → KnowsWhatComes w.came t last → (gain : Gain) (to : ℕ) (origin : Origin) (kind : Kind) (place : ℕ) (plan : Rise) →
    GainsUpTo w t.index gain to origin kind place t.vars now → GainsOn w t last now gain to (record { origin = origin; kind = kind; place = place }) plan (nexts.Done ups.Up)
gained-from w served t last now work knows gain to (origins.Hand hand) kind place plan u out = hand-gained w served t last now work gain to (record { hand = hand; kind = kind; place = place }) plan u
gained-from w served t last now work knows gains.Copy to (origins.Cell cell) kind place plan u out = cell-copied w t last now work knows to cell kind place plan u.1 out
gained-from w served t last now work knows gains.Unown to (origins.Cell cell) kind place plan u out = absurd (let e = u.0 in cc)
gained-from w served t last now work knows gains.Load to (origins.Cell cell) kind place plan u out = absurd (let e = u.0 in cc)

gains-made : (w : Work) → IsServedWork w → (t : Thread) (last : Option ℕ) (now : List Note) → IsAtWork w t now → KnowsWhatComes w.came t last → (gain : Gain) (to : ℕ) (from : Source) (plan : Rise) → HasBegun w t now gain to from →
    GainsOn w t last now gain to from plan (nexts.Done ups.Up)
gains-made w served t last now work knows gain to from plan u out = gained-from w served t last now work knows gain to from.origin from.kind from.place plan u out

dead-from : (w : Work) → IsServedWork w → (t : Thread) (last : Option ℕ) (now : List Note) → IsAtWork w t now → (to : ℕ) (origin : Origin) (kind : Kind) (place : ℕ) →
    GainsUpTo w t.index gains.Load to origin kind place t.vars now → Turns w t (found_dead to (record { origin = origin; kind = kind; place = place }) (given t)) last now
dead-from w served t last now work to (origins.Hand hand) kind place u = load-finds-dead w served t last now work to (record { hand = hand; kind = kind; place = place }) u
dead-from w served t last now work to (origins.Cell cell) kind place u = absurd (let e = u.0 in cc)

finds-dead : (w : Work) → IsServedWork w → (t : Thread) (last : Option ℕ) (now : List Note) → IsAtWork w t now → (gain : Gain) → FindsDead gain → (to : ℕ) (from : Source) (plan : Rise) → HasBegun w t now gain to from →
    GainsOn w t last now gain to from plan (nexts.Done ups.Dead)
finds-dead w served t last now work gains.Copy dead to from plan u out = absurd dead
finds-dead w served t last now work gains.Unown dead to from plan u out = absurd dead
finds-dead w served t last now work gains.Load dead to from plan u out = dead-from w served t last now work to from.origin from.kind from.place u

-- what is done with an inline word that was loaded: it is exchanged, or of an immortal object stays, or a load finds that the object is dying
data RisesBy (gain : Gain) : Choice UpAnswer → Type 0 where
  stays : RisesBy gain (Tell ups.Up)
  dead : FindsDead gain → RisesBy gain (Tell ups.Dead)
  written : {new : ℕ} → RisesBy gain (Write new)

-- such a word names no entry
record IsInlineRow (gain : Gain) (o : Option Word) (choice : Choice UpAnswer) : Type 0 where
  no_entry_named : entry_named o ≡ None
  rises : RisesBy gain choice

strong-row : (gain : Gain) (caps : CapNumbers) (o : Option Word) → IsGainWord gain kinds.Strong caps o → IsInlineRow gain o (told_as of_strong_up (strong_up_row caps.strong o))
strong-row gain caps None fits = absurd fits
strong-row gain caps (Some Free) fits = absurd fits
strong-row gain caps (Some (Slow e)) fits = absurd fits
strong-row gain caps (Some Immortal) fits = record { no_entry_named = refl; rises = stays }
strong-row gain caps (Some (Counts c)) fits = record { no_entry_named = refl; rises = go c.deiniting (eqb c.strong_extra caps.strong) refl refl }
  where
    go : (dying full : Bool) → c.deiniting ≡ dying → eqb c.strong_extra caps.strong ≡ full →
        RisesBy gain (told_as of_strong_up (cond dying (Tell strongs.Dead) (cond full (Tell strongs.AtCap) (Write (packed (Counts (strong_more c)))))))
    go true full e f = dead (fits.0 e)
    go false true e f = let same = eqb-true c.strong_extra caps.strong f in let below = fits.1 e in absurd (omega arith)
    go false false e f = written

unowned-row : (gain : Gain) (caps : CapNumbers) (o : Option Word) → IsGainWord gain kinds.Unowned caps o → IsInlineRow gain o (told_as of_unowned_up (unowned_up_row caps.unowned o))
unowned-row gain caps None fits = absurd fits
unowned-row gain caps (Some Free) fits = absurd fits
unowned-row gain caps (Some (Slow e)) fits = absurd fits
unowned-row gain caps (Some Immortal) fits = record { no_entry_named = refl; rises = stays }
unowned-row gain caps (Some (Counts c)) fits = record { no_entry_named = refl; rises = go (eqb c.unowned caps.unowned) refl }
  where
    go : (full : Bool) → eqb c.unowned caps.unowned ≡ full → RisesBy gain (told_as of_unowned_up (cond full (Tell unowneds.AtCap) (Write (packed (Counts (unowned_more c))))))
    go true f = let same = eqb-true c.unowned caps.unowned f in let below = fits in absurd (omega arith)
    go false f = written

inline-row : (gain : Gain) (plan : Rise) (list : Kind) (word : ℕ) → UpWordAt plan None list word → IsGainWord gain list plan.caps (unpacked word) → IsInlineRow gain (unpacked word) (up_choice_at plan None list word)
inline-row gain plan kinds.Strong word counted fits = strong-row gain plan.caps (unpacked word) fits
inline-row gain plan kinds.Unowned word counted fits = unowned-row gain plan.caps (unpacked word) fits
inline-row gain plan kinds.Weak word counted fits = absurd counted

-- the inline word was loaded
loaded : (w : Work) → IsServedWork w → (t : Thread) (last : Option ℕ) (now : List Note) → IsAtWork w t now → KnowsWhatComes w.came t last → (gain : Gain) (to : ℕ) (from : Source) (plan : Rise) (place word : ℕ) → HasBegun w t now gain to from → {choice : Choice UpAnswer} → RisesBy gain choice →
    GainsOn w t last now gain to from (up_moved plan (exchanging word choice)) (chosen place word choice)
loaded w served t last now work knows gain to from plan place word u stays = gains-made w served t last now work knows gain to from plan u
loaded w served t last now work knows gain to from plan place word u (dead finds) = finds-dead w served t last now work gain finds to from plan u
loaded w served t last now work knows gain to from plan place word u (written {new = new}) = gain-asks w t last now work gain to from _ _ u

-- after the word that was given at its place
abbrev GainedAt : Work → Thread → Option ℕ → List Note → Gain → ℕ → Source → Rise → (entry : Option ℕ) → (list : Kind) → (place : ℕ) → At → Type 0
GainedAt w t last now gain to from plan entry list place a =
    GainsOn w t last now gain to from (moved_by up_moved plan (up_in plan (entry_met entry a last)) (attempt_turned (λ v. up_choice_at plan entry list v) a (unwrap_or last 0)))
    (answer_by up_place (up_in plan (entry_met entry a last)) (attempt_answer (λ v. up_choice_at plan entry list v) (λ seen. ups.Up) ups.Again place a (unwrap_or last 0)))

pub gains-on : (w : Work) → IsServedWork w → (t : Thread) (last : Option ℕ) (now : List Note) → IsAtWork w t now → KnowsWhatComes w.came t last → (gain : Gain) (to : ℕ) (from : Source) (plan : Rise) (entry : Option ℕ) (list : Kind) (place : ℕ) (a : At) → HasBegun w t now gain to from →
    attempt_takes (λ v. UpWordAt plan entry list v) a last → IsInlineAt (IsGainWord gain list plan.caps) entry a (unwrap_or last 0) → GainedAt w t last now gain to from plan entry list place a
gains-on w served t last now work knows gain to from plan (Some e) list place a u given fits = absurd fits
gains-on w served t last now work knows gain to from plan None list place attempt.Start u given fits = gain-asks w t last now work gain to from _ _ u
gains-on w served t None now work knows gain to from plan None list place attempt.Loading u given fits = absurd given
gains-on w served t (Some word) now work knows gain to from plan None list place attempt.Loading u given fits =
    let row = inline-row gain plan list word given fits in
    rw row.no_entry_named (loaded w served t (Some word) now work knows gain to from plan place word u row.rises)
gains-on w served t last now work knows gain to from plan None list place (attempt.Exchanging seen new) u given fits = go (eqb (unwrap_or last 0) seen)
  where
    go : (found : Bool) → GainsOn w t last now gain to from (up_moved plan attempt.Ended) (nexts.Done (cond found ups.Up (ups.Again (record { seen = seen; found = unwrap_or last 0 }))))
    go true = gains-made w served t last now work knows gain to from plan u
    go false = λ out. plainly w t _ last now None (record {
      after = now;
      says = nothing;
      event = refl;
      stands = record { works = work.works; in_phase = work.phase; counts = work.counts; number = work.number; asks = tt; up_to = u };
    })
gains-on w served t last now work knows gain to from plan None list place attempt.Ended u given fits = absurd given

-- ---- the name of the object is read for the line of a load

-- the name is known
named : (w : Work) → IsServedWork w → (t : Thread) (word : ℕ) (now : List Note) → IsAtWork w t now → (to : ℕ) (held : Held) (plan : OneStep) → IsLoaded w t.index to held plan (step_in t.asked) t.vars now →
    Turns w t (replaced to (Some held) (put (answers.Got (isa_name_of word)) (given t))) (Some word) now
named w served t word now work to held plan u =
    turned-by w t _ (Some word) now None found (record { read = found; reads = read_name u.asks for_line refl; referred = found; refers = refers_nothing; finds = found_nothing })
    (comes-after w _ None found (Line (answers.Got (isa_name_of word)) ∷ found) (line nothing)
    (replaces w served (put (answers.Got (isa_name_of word)) (given t)) to (Some held) (op.Load to g.of) (answers.Got (isa_name_of word)) g.begun.base found work.works
    (counted-line w t.hands t.taken t.made t.kept (thread.number_of t) (answers.Got (isa_name_of word)) found (number-here w t found work.works work.number)
    (record { hands_are = work.counts.hands_are; taken_is = work.counts.taken_is; made_is = work.counts.made_is; lines_are = work.counts.lines_are }))
    work.number work.phase g.begun.done g.begun.there fits (subst P (sym now_is) (subst Q (sym held_is) answered))))
  where
    g : IsGaining w t.index gains.Load to u.from t.vars u.before
    g = u.gaining

    found : List Note
    found = Name held.place (isa_name_of word) ∷ now

    fit : KindsFit w.shape w.classes w.kinds (op.Load to g.of)
    fit = holds-at (KindsFit w.shape w.classes w.kinds) w.program t.index (op.Load to g.of) served.kinds_fit g.begun.there

    unowned : u.from.kind ≡ kinds.Unowned
    unowned = work.works.kinds g.of u.from g.source ∙ fit.1

    fits : FitsKind w.kinds to (Some held)
    fits = fits-some w.kinds to held (ap (λ (h : Held). h.kind) u.held_is ∙ sym fit.0)

    start : List Note
    start = Operation (ordinal w.program t.index) ∷ g.begun.base

    new : Held
    new = record { hand = hands_of start + 1; kind = kinds.Strong; place = u.from.place }

    held_is : held ≡ new
    held_is = u.held_is ∙ ap (λ (ns : List Note). record { hand = hands_of ns + 1; kind = kinds.Strong; place = u.from.place }) g.begun.now_is

    now_is : now ≡ Did (acts.Load u.from.hand (gots.Hand held.hand)) ∷ start
    now_is = u.now_is ∙ ap (λ (ns : List Note). Did (acts.Load u.from.hand (gots.Hand held.hand)) ∷ ns) g.begun.now_is

    P : List Note → Type 0
    P ns = AnswersIn w t (op.Load to g.of) to (Some held) (answers.Got (isa_name_of word)) start (Name held.place (isa_name_of word) ∷ ns)

    Q : Held → Type 0
    Q h = AnswersIn w t (op.Load to g.of) to (Some h) (answers.Got (isa_name_of word)) start (Name h.place (isa_name_of word) ∷ Did (acts.Load u.from.hand (gots.Hand h.hand)) ∷ start)

    answered : Q new
    answered = loads_held (value-held t.vars g.of (Some u.from) g.source) unowned refl (record { spare = Unclaimed; decided = start; ready = ready; settled = unclaimed }) (record { replaced = refl; old = refl })

pub names : (w : Work) → IsServedWork w → (t : Thread) (last : Option ℕ) (now : List Note) → IsAtWork w t now → (to : ℕ) (held : Held) (plan : OneStep) (a : Once) → a ≡ once.Asked → IsLoaded w t.index to held plan (step_in t.asked) t.vars now → NamesClass t.shape last →
    Turns w t (named_on to held (record plan { at = once_turned a }) (once_answer (reading_isa plan) (isa_name_of (unwrap_or last 0)) a) (given t)) last now
names w served t last now work to held plan once.Start e u fits = absurd (cc)
names w served t None now work to held plan once.Asked e u fits = absurd fits
names w served t (Some word) now work to held plan once.Asked e u fits = named w served t word now work to held plan u
names w served t last now work to held plan once.Ended e u fits = absurd (cc)
