-- A stepper that drops a reference keeps what it stands for, and one that gives up a slot.
use Rattle.std.proofs.Common.{◌≡◌, ℕ, Bool, true, false, cond, eqb, List, ◌∷◌, Option, Some, None, refl, sym, ap, ◌∙◌, arith}
use Rattle.std.proofs.lemmas.Bool.{eqb-true}
use Rattle.std.specs.Option.{unwrap_or}
use Rattle.arc_bits.specs.declared.packing.Word.{Word}
use Rattle.arc_bits.specs.declared.packing.Word.TheVariants.{Free, Counts, Slow, Immortal}
use Rattle.arc_bits.specs.Words.{unpacked}
use Rattle.arc_bits.specs.declared.packing.Inline.{Inline}
use Rattle.arc_model.specs.declared.event.Act.{Act}
use Rattle.arc_model.specs.declared.event.Act.TheVariants as acts
use Rattle.arc_model.specs.declared.shape.Kind.{Kind}
use Rattle.arc_model.specs.declared.shape.Kind.TheVariants as kinds
use Rattle.arc_spelling.specs.Spelling.{Note, IsDrop}
use Rattle.arc_spelling.specs.Spelling.Note.{Did, Entry}
use Rattle.arc_spelling.specs.Spelling.IsDrop.{more, last_strong, last_unowned}
use Rattle.arc_spelling.specs.Spelling.IsEnd.{inline}
use Rattle.arc_rule.specs.Extents.{Extent}
use Rattle.arc_rule.specs.Places.{number as number_in, extent_of}
use Rattle.arc_rule.specs.declared.layout.Place.TheVariants.{Count}
use Rattle.arc_rule.specs.declared.step.Step.{Step}
use Rattle.arc_rule.specs.declared.step.Step.TheVariants.{Exchange}
use Rattle.arc_rule.specs.declared.step.Intent.{Intent}
use Rattle.arc_rule.specs.declared.plan.Next.TheVariants as nexts
use Rattle.arc_rule.specs.declared.attempt.At.{At}
use Rattle.arc_rule.specs.declared.attempt.At.TheVariants as attempt
use Rattle.arc_plan.specs.declared.slots.Once.{Once}
use Rattle.arc_plan.specs.declared.slots.Once.TheVariants as once
use Rattle.arc_side.specs.declared.down.DownAnswer.{DownAnswer}
use Rattle.arc_rule.specs.declared.attempt.Choice.{Choice}
use Rattle.arc_rule.specs.declared.attempt.Choice.TheVariants.{Tell, Write}
use Rattle.arc_side.specs.declared.down.DownAnswer.TheVariants as downs
use Rattle.arc_plan.specs.declared.strong.StrongDownAnswer.TheVariants as strong_downs
use Rattle.arc_plan.specs.declared.unowned.UnownedDownAnswer.TheVariants as unowned_downs
use Rattle.arc_side.specs.Inline.{IsCountedInline, counted_at, entry_named, entry_met}
use Rattle.arc_side.specs.Downs.{Fall, of_strong_down, of_unowned_down, DownWordAt, down_choice_at, down_end_at, down_in, down_moved, down_place}
use Rattle.arc_plan.specs.Attempts.{IsCountWord}
use Rattle.arc_rule.specs.Attempts.{exchanging, chosen, told_as, turned_by as moved_by, answer_by, takes_at as attempt_takes, turned_at as attempt_turned, answer_at as attempt_answer}
use Rattle.arc_plan.specs.Strong.{strong_down_row, strong_down_end}
use Rattle.arc_plan.specs.Unowned.{unowned_down_row, unowned_down_end}
use Rattle.arc_plan.specs.Slots.{OneStep, once_takes, once_turned, once_answer, vacating}
use Rattle.arc_rule.specs.declared.step.Intent.TheVariants as intents
use Rattle.arc_ops.specs.declared.stepper.Held.{Held}
use Rattle.arc_ops.specs.declared.stepper.Doing.TheVariants.{Ended}
use Rattle.arc_ops.specs.Thread.{Thread}
use Rattle.arc_ops.specs.Plans.{drop_begun}
use Rattle.arc_ops.specs.Begins.{next_op}
use Rattle.arc_ops.specs.Drops.{dropped_on, last_gone, vacated_on}
use Rattle.arc_ops.specs.Takes.{IsInline, IsInlineAt, takes}
use Rattle.arc_spelled.specs.Shown.Reads.{nothing as read_nothing}
use Rattle.arc_spelled.specs.Shown.TakesLast.{drop as drop_takes}
use Rattle.arc_spelled.specs.Shown.FindsReference.{nothing as refers_nothing}
use Rattle.arc_spelled.specs.Shown.FindsEntry.{entry as found_entry}
use Rattle.arc_spelled.specs.Shown.Says.{nothing}
use Rattle.arc_spelled.specs.Releases.{AwaitsExchange}
use Rattle.arc_spelled.specs.StepperStands.{Work, IsServedWork, IsOver, DropEnds, IsDropping, IsVacating, step_in, IsCounted}
use Rattle.arc_spelled.proofs.StepperSteps.{drop-asks}
use Rattle.arc_spelled.proofs.Begins.{goes-on}
use Rattle.arc_spelled.proofs.Turning.{IsAtWork, given, Turns, turned-by, plainly}

-- what was under way is over, behind an event that brings no reference
over-by : (w : Work) → IsServedWork w → (t : Thread) (last : Option ℕ) (now : List Note) → IsAtWork w t now → (e : Act) → IsCounted w t.hands t.taken t.made t.kept (Did e ∷ now) → IsOver w t.index t.vars t.cleared (Did e ∷ now) →
    Turns w t (next_op (record t { doing = Ended; first = false; event = Some e })) last now
over-by w served t last now work e counts over = plainly w t _ last now (Some e)
    (goes-on w served (record t { doing = Ended; first = false; event = Some e }) (Did e ∷ now) work.works counts work.number work.phase over)

drop-goes-on : (w : Work) (t : Thread) (last : Option ℕ) (now : List Note) → IsAtWork w t now → (held : Held) (plan : Fall) (step : Step) → IsDropping w t.index held plan (Some (step, intents.Drop held.hand)) t.vars t.cleared now →
    Turns w t (dropped_on held plan (nexts.Step step) (given t)) last now
drop-goes-on w t last now work held plan step u = plainly w t _ last now None (record {
  after = now;
  says = nothing;
  event = refl;
  stands = record { works = work.works; in_phase = work.phase; counts = work.counts; number = work.number; asks = tt; up_to = u };
})

drops-more : (w : Work) → IsServedWork w → (t : Thread) (last : Option ℕ) (now : List Note) → IsAtWork w t now → (held : Held) (plan : Fall) (entry : Option ℕ) → DropEnds w t.index held t.vars t.cleared now →
    Turns w t (dropped_on held plan (nexts.Done (downs.More entry)) (given t)) last now
drops-more w served t last now work held plan entry u = over-by w served t last now work (acts.Drop held.hand false)
    (record { hands_are = work.counts.hands_are; taken_is = work.counts.taken_is; made_is = work.counts.made_is; lines_are = work.counts.lines_are }) (u (Did (acts.Drop held.hand false) ∷ now) more)

-- the exchange was made of counts, and the last reference of its kind went
drops-last : (w : Work) (t : Thread) (word new : ℕ) (c : Inline) (now : List Note) → IsAtWork w t now → (held : Held) → step_in t.asked ≡ Some (Exchange (number_in (extent_of w.shape) (Count held.place)) word new, intents.Drop held.hand) →
    unpacked word ≡ Some (Counts c) → (kind : Kind) → IsCountedInline kind → ((after : List Note) → IsDrop w.shape kind held.place held.hand now after → IsOver w t.index t.vars t.cleared after) →
    Turns w t (last_gone kind held.place (record t { doing = Ended; first = false; event = Some (acts.Drop held.hand true) })) (Some word) now
drops-last w t word new c now work held asks holds kinds.Strong counted ends = plainly w t _ (Some word) now (Some (acts.Drop held.hand true)) (record {
  after = Did (acts.Drop held.hand true) ∷ now;
  says = nothing;
  event = refl;
  stands = record {
    works = work.works;
    in_phase = work.phase;
    counts = record { hands_are = work.counts.hands_are; taken_is = work.counts.taken_is; made_is = work.counts.made_is; lines_are = work.counts.lines_are };
    number = work.number;
    asks = tt;
    up_to = record {
      root = held.place;
      base = Did (acts.Drop held.hand true) ∷ now;
      stands = record { hands = omega (arith, work.counts.hands_are); up_to = (refl, refl) };
      layout = work.works.layout_is;
      shape = work.works.shape_is;
      ends = λ after x. ends after (last_strong x);
    };
  };
})
drops-last w t word new c now work held asks holds kinds.Unowned counted ends =
    let behind : List Note = Entry held.place None ∷ Did (acts.Drop held.hand true) ∷ now in
    turned-by w t _ (Some word) now (Some (acts.Drop held.hand true)) behind (record { read = now; reads = read_nothing; referred = now; refers = refers_nothing; finds = found_entry {entry = None} refl asks drop_takes refl (c, holds) }) (record {
      after = behind;
      says = nothing;
      event = refl;
      stands = record {
        works = work.works;
        in_phase = work.phase;
        counts = record { hands_are = work.counts.hands_are; taken_is = work.counts.taken_is; made_is = work.counts.made_is; lines_are = work.counts.lines_are };
        number = work.number;
        asks = tt;
        up_to = record { before = Did (acts.Drop held.hand true) ∷ now; now_is = refl; ends = λ after x. ends after (last_unowned x) };
      };
    })
drops-last w t word new c now work held asks holds kinds.Weak counted ends = absurd counted

-- a step of the attempt on the count of the object
attempts : (w : Work) (t : Thread) (last : Option ℕ) (now : List Note) → IsAtWork w t now → (held : Held) (plan : Fall) (asked : Option (Step × Intent)) → IsDropping w t.index held plan asked t.vars t.cleared now → (a : At) (step : Step) →
    AwaitsExchange (extent_of w.shape) held.place (intents.Drop held.hand) (Some (step, intents.Drop held.hand)) a → Turns w t (dropped_on held (down_moved plan a) (nexts.Step step) (given t)) last now
attempts w t last now work held plan asked u a step awaits =
    drop-goes-on w t last now work held (down_moved plan a) step (record { counted = u.counted; releasing = record { layout_is = u.releasing.layout_is; slot_is = u.releasing.slot_is; awaits = awaits }; ends = u.ends })

abbrev exchange-on : Extent → (slot hand word new : ℕ) → Option (Step × Intent)
exchange-on layout slot hand word new = Some (Exchange (number_in layout (Count slot)) word new, intents.Drop hand)

exchange-asked : (w : Work) (t : Thread) (now : List Note) (held : Held) (plan : Fall) (asked : Option (Step × Intent)) → IsDropping w t.index held plan asked t.vars t.cleared now → (word new : ℕ) →
    exchange-on plan.layout plan.slot held.hand word new ≡ exchange-on (extent_of w.shape) held.place held.hand word new
exchange-asked w t now held plan asked u word new =
    ap (λ (l : Extent). exchange-on l plan.slot held.hand word new) u.releasing.layout_is ∙ ap (λ (s : ℕ). exchange-on (extent_of w.shape) s held.hand word new) u.releasing.slot_is

-- what is done with an inline word that was loaded: it is exchanged, or of an immortal object stays
data FallsBy : Choice DownAnswer → Type 0 where
  stays : FallsBy (Tell (downs.More None))
  written : {new : ℕ} → FallsBy (Write new)

-- such a word names no entry
record IsInlineRow (o : Option Word) (choice : Choice DownAnswer) : Type 0 where
  no_entry_named : entry_named o ≡ None
  falls : FallsBy choice

strong-row : (entries : ℕ) (Fact : Inline → Type 0) (o : Option Word) → IsCountWord entries Fact o → IsInline o → IsInlineRow o (told_as of_strong_down (strong_down_row o))
strong-row entries Fact None fits in_line = absurd fits
strong-row entries Fact (Some Free) fits in_line = absurd fits
strong-row entries Fact (Some (Slow e)) fits in_line = absurd in_line
strong-row entries Fact (Some Immortal) fits in_line = record { no_entry_named = refl; falls = stays }
strong-row entries Fact (Some (Counts c)) fits in_line = record { no_entry_named = refl; falls = written }

unowned-row : (entries : ℕ) (Fact : Inline → Type 0) (o : Option Word) → IsCountWord entries Fact o → IsInline o → IsInlineRow o (told_as of_unowned_down (unowned_down_row o))
unowned-row entries Fact None fits in_line = absurd fits
unowned-row entries Fact (Some Free) fits in_line = absurd fits
unowned-row entries Fact (Some (Slow e)) fits in_line = absurd in_line
unowned-row entries Fact (Some Immortal) fits in_line = record { no_entry_named = refl; falls = stays }
unowned-row entries Fact (Some (Counts c)) fits in_line = record { no_entry_named = refl; falls = written }

inline-row : (plan : Fall) (list : Kind) (word : ℕ) → DownWordAt plan None list word → IsInline (unpacked word) → IsInlineRow (unpacked word) (down_choice_at None list word)
inline-row plan kinds.Strong word fits in_line = strong-row plan.layout.entries _ (unpacked word) fits in_line
inline-row plan kinds.Unowned word fits in_line = unowned-row plan.layout.entries _ (unpacked word) fits in_line
inline-row plan kinds.Weak word fits in_line = absurd fits

-- the inline word was loaded
loaded : (w : Work) → IsServedWork w → (t : Thread) (last : Option ℕ) (now : List Note) → IsAtWork w t now → (held : Held) (plan : Fall) (asked : Option (Step × Intent)) → IsDropping w t.index held plan asked t.vars t.cleared now → (word : ℕ) {choice : Choice DownAnswer} →
    FallsBy choice → Turns w t (dropped_on held (down_moved plan (exchanging word choice)) (chosen (number_in plan.layout (Count plan.slot)) word choice) (given t)) last now
loaded w served t last now work held plan asked u word stays = drops-more w served t last now work held plan None u.ends
loaded w served t last now work held plan asked u word (written {new = new}) = attempts w t last now work held plan asked u _ _ (exchange-asked w t now held plan asked u word new)

-- what is answered after the exchange of a word: the last reference is one that was counted
data EndsBy : DownAnswer → Option Word → Type 0 where
  more_left : {entry : Option ℕ} {o : Option Word} → EndsBy (downs.More entry) o
  none_left : {c : Inline} → EndsBy (downs.Last None) (Some (Counts c))

strong-end : (o : Option Word) → EndsBy (of_strong_down (strong_down_end o)) o
strong-end None = more_left
strong-end (Some Free) = more_left
strong-end (Some (Slow e)) = more_left
strong-end (Some Immortal) = more_left
strong-end (Some (Counts c)) = go (eqb c.strong_extra 0)
  where
    go : (none : Bool) → EndsBy (of_strong_down (cond none strong_downs.Last strong_downs.More)) (Some (Counts c))
    go true = none_left
    go false = more_left

unowned-end : (o : Option Word) → EndsBy (of_unowned_down (unowned_down_end o)) o
unowned-end None = more_left
unowned-end (Some Free) = more_left
unowned-end (Some (Slow e)) = more_left
unowned-end (Some Immortal) = more_left
unowned-end (Some (Counts c)) = go (eqb c.unowned 1)
  where
    go : (none : Bool) → EndsBy (of_unowned_down (cond none unowned_downs.Last unowned_downs.More)) (Some (Counts c))
    go true = none_left
    go false = more_left

inline-end : (list : Kind) (seen : ℕ) → EndsBy (down_end_at None list seen) (unpacked seen)
inline-end kinds.Strong seen = strong-end (unpacked seen)
inline-end kinds.Unowned seen = unowned-end (unpacked seen)
inline-end kinds.Weak seen = more_left

-- the exchange found the word that was loaded
exchanged : (w : Work) → IsServedWork w → (t : Thread) (word new : ℕ) (now : List Note) → IsAtWork w t now → (held : Held) (plan : Fall) → IsCountedInline held.kind → DropEnds w t.index held t.vars t.cleared now →
    step_in t.asked ≡ Some (Exchange (number_in (extent_of w.shape) (Count held.place)) word new, intents.Drop held.hand) → {answer : DownAnswer} {o : Option Word} → unpacked word ≡ o → EndsBy answer o →
    Turns w t (dropped_on held plan (nexts.Done answer) (given t)) (Some word) now
exchanged w served t word new now work held plan counted ends asks e (more_left {entry = entry}) = drops-more w served t (Some word) now work held plan entry ends
exchanged w served t word new now work held plan counted ends asks e (none_left {c = c}) = drops-last w t word new c now work held asks e held.kind counted ends

-- after the word that was given at its place
abbrev dropped-at : Held → Fall → (entry : Option ℕ) → (list : Kind) → At → Option ℕ → Thread → Thread
dropped-at held plan entry list a last t =
    dropped_on held (moved_by down_moved plan (down_in plan (entry_met entry a last)) (attempt_turned (λ v. down_choice_at entry list v) a (unwrap_or last 0)))
    (answer_by down_place (down_in plan (entry_met entry a last))
    (attempt_answer (λ v. down_choice_at entry list v) (λ seen. down_end_at entry list seen) downs.Again (number_in plan.layout (counted_at list plan.slot entry)) a (unwrap_or last 0))) t

pub drops : (w : Work) → IsServedWork w → (t : Thread) (last : Option ℕ) (now : List Note) → IsAtWork w t now → (held : Held) (plan : Fall) → IsDropping w t.index held plan (step_in t.asked) t.vars t.cleared now → (entry : Option ℕ) (list : Kind) (a : At) →
    AwaitsExchange (extent_of w.shape) held.place (intents.Drop held.hand) (step_in t.asked) a → attempt_takes (λ v. DownWordAt plan entry list v) a last → IsInlineAt IsInline entry a (unwrap_or last 0) →
    Turns w t (dropped-at held plan entry list a last (given t)) last now
drops w served t last now work held plan u (Some e) list a awaits takes in_line = absurd in_line
drops w served t last now work held plan u None list attempt.Start awaits takes in_line = attempts w t last now work held plan (step_in t.asked) u attempt.Loading _ tt
drops w served t None now work held plan u None list attempt.Loading awaits takes in_line = absurd takes
drops w served t (Some word) now work held plan u None list attempt.Loading awaits takes in_line =
    let row = inline-row plan list word takes in_line in
    rw row.no_entry_named (loaded w served t (Some word) now work held plan (step_in t.asked) u word row.falls)
drops w served t None now work held plan u None list (attempt.Exchanging seen new) awaits takes in_line = absurd (takes refl)
drops w served t (Some word) now work held plan u None list (attempt.Exchanging seen new) awaits takes in_line = go (eqb word seen) refl
  where
    go : (found : Bool) → eqb word seen ≡ found →
        Turns w t (dropped_on held (down_moved plan attempt.Ended) (nexts.Done (cond found (down_end_at None list seen) (downs.Again (record { seen = seen; found = word })))) (given t)) (Some word) now
    go true e =
        let same = eqb-true word seen e in
        rw (sym same) (exchanged w served t word new now work held (down_moved plan attempt.Ended) u.counted u.ends (rw same awaits) refl (inline-end list word))
    go false e = plainly w t (drop_begun held (given t)) (Some word) now None (record {
      after = now;
      says = nothing;
      event = refl;
      stands = drop-asks w (given t) held now work.works work.counts work.number work.phase u.counted u.ends;
    })
drops w served t last now work held plan u None list attempt.Ended awaits takes in_line = absurd takes

-- ---- a slot is given up

pub vacates : (w : Work) → IsServedWork w → (t : Thread) (last : Option ℕ) (now : List Note) → IsAtWork w t now → (slot : ℕ) (plan : OneStep) (a : Once) → IsVacating w t.index slot t.vars t.cleared now → once_takes (λ v. Unit {0}) a last →
    Turns w t (vacated_on slot (record plan { at = once_turned a }) (once_answer (vacating plan) tt a) (given t)) last now
vacates w served t last now work slot plan once.Start u takes = plainly w t _ last now None (record {
  after = now;
  says = nothing;
  event = refl;
  stands = record { works = work.works; in_phase = work.phase; counts = work.counts; number = work.number; asks = tt; up_to = u };
})
vacates w served t last now work slot plan once.Asked u takes = over-by w served t last now work (acts.Vacate slot)
    (record { hands_are = work.counts.hands_are; taken_is = work.counts.taken_is; made_is = work.counts.made_is; lines_are = work.counts.lines_are }) (u.ends (Did (acts.Vacate slot) ∷ now) (rw u.now_is inline))
vacates w served t last now work slot plan once.Ended u takes = absurd takes
