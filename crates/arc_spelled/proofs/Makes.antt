-- A stepper that makes an object keeps what it stands for.
use Rattle.std.proofs.Common.{◌≡◌, ℕ, ◌+◌, Bool, true, false, cond, eqb, ltb, List, ◌∷◌, bit_and, Option, Some, None, refl, sym, ap, subst, ◌∙◌}
use Rattle.std.proofs.lemmas.Option.{slice_get_within}
use Rattle.std.specs.Option.{unwrap_or}
use Rattle.arc_model.specs.declared.answer.Answer.TheVariants as answers
use Rattle.arc_model.specs.declared.event.ObjectName.{ObjectName}
use Rattle.arc_model.specs.declared.event.Act.TheVariants as acts
use Rattle.arc_spelling.specs.Spelling.{Note, hands_of}
use Rattle.arc_spelling.specs.Spelling.Note.{Did, Line, Operation}
use Rattle.arc_rule.specs.declared.step.Step.{Step}
use Rattle.arc_rule.specs.declared.plan.Next.TheVariants as nexts
use Rattle.arc_plan.specs.declared.slots.Making.{Making as Search}
use Rattle.arc_plan.specs.declared.slots.Making.TheVariants as search
use Rattle.arc_plan.specs.declared.slots.NewObjectAnswer.TheVariants.{NoSlot, Again}
use Rattle.arc_plan.specs.Slots.{Creation, free_slot, looked, looked_answer, looking, taking, counting, naming, slot_taken, making_turned, making_answer}
use Rattle.arc_rule.specs.Bits.{words_of, bit_of}
use Rattle.arc_rule.specs.declared.step.Intent.TheVariants as intents
use Rattle.arc_script.specs.declared.script.Op.TheVariants as op
use Rattle.arc_programs.specs.Variables as programs
use Rattle.arc_programs.specs.Programs.{made_of, IsAnswered}
use Rattle.arc_programs.specs.Programs.IsAnswered.{made}
use Rattle.arc_programs.proofs.ProgramsSteps.{answers_last, new_full}
use Rattle.arc_served.specs.Programs.{ordinal, KindsFit}
use Rattle.arc_ops.specs.declared.stepper.Doing.TheVariants.{Making, Ended}
use Rattle.arc_ops.specs.Thread.{Thread, value, put, asking}
use Rattle.arc_ops.specs.Plans.{make_begun_as}
use Rattle.arc_ops.specs.Makes.{strong_to, came_to, made_on}
use Rattle.arc_ops.specs.Thread as thread
use Rattle.arc_spelled.specs.Shown.Says.{nothing, line}
use Rattle.arc_spelled.specs.StepperStands.{Work, IsServedWork, held_of, variables, IsOver, IsBegun, IsMaking, IsMade, MakesUpTo}
use Rattle.arc_spelled.proofs.StepperSteps.{comes-after, counted-line, number-here, over-done}
use Rattle.arc_spelled.proofs.Begins.{goes-on, replaces}
use Rattle.arc_spelled.proofs.KindsKept.{holds-at, FitsKind, fits-some}
use Rattle.arc_spelled.proofs.Turning.{IsAtWork, given, Turns, plainly}

-- it looks on or takes a slot, and no object is made yet
search-goes-on : (w : Work) (t : Thread) (last : Option ℕ) (now : List Note) → IsAtWork w t now →
    (to : ℕ) (name : ObjectName) (plan : Creation) (step : Step) → slot_taken plan.at ≡ None → MakesUpTo w t.index to name t.vars now plan.at →
    Turns w t (made_on to name plan (nexts.Step step) (given t)) last now
search-goes-on w t last now work to name plan step none u = subst P (sym none) (plainly w t _ last now None (record {
  after = now;
  says = nothing;
  event = refl;
  stands = record { works = work.works; in_phase = work.phase; counts = work.counts; number = work.number; asks = tt; up_to = u };
}))
  where
    P : Option ℕ → Type 0
    P took = Turns w t (asking (Making to name plan) step (intents.New name.class) (came_to name took (given t))) last now

-- another has taken the slot: it begins again
search-begins-again : (w : Work) (t : Thread) (last : Option ℕ) (now : List Note) → IsAtWork w t now →
    (to : ℕ) (name : ObjectName) → IsMaking w t.index to name t.vars now → Turns w t (make_begun_as to name (given t)) last now
search-begins-again w t last now work to name u = plainly w t _ last now None (record {
  after = now;
  says = nothing;
  event = refl;
  stands = record { works = work.works; in_phase = work.phase; counts = work.counts; number = work.number; asks = tt; up_to = u };
})

pub makes : (w : Work) → IsServedWork w → (t : Thread) (last : Option ℕ) (now : List Note) → IsAtWork w t now →
    (to : ℕ) (name : ObjectName) (plan : Creation) (a : Search) → MakesUpTo w t.index to name t.vars now a →
    Turns w t (made_on to name (record plan { at = making_turned plan.layout.slots a (unwrap_or last 0) }) (making_answer plan a (unwrap_or last 0)) (given t)) last now
makes w served t last now work to name plan search.Start u = absurd u
makes w served t last now work to name plan (search.Looking word) u = looks (free_slot plan.layout.slots word (unwrap_or last 0))
  where
    b : IsBegun w t.index (op.New to name.class) t.vars now
    b = u.begun

    full : IsOver w t.index t.vars t.cleared (Line answers.Full ∷ Did acts.Full ∷ now)
    full = over-done w t.index t.vars t.cleared (Line answers.Full ∷ Did acts.Full ∷ now) (slice_get_within w.program t.index (op.New to name.class) b.there)
        (rw b.now_is (answers_last (record { done = b.done; there = b.there }) (new_full w.thread to name.class w.came (variables t.vars) (Operation (ordinal w.program t.index) ∷ b.base))))

    further : (more : Bool) → Turns w t
        (made_on to name (record plan { at = cond more (search.Looking (word + 1)) search.Ended })
        (cond more (nexts.Step (looking plan.layout (word + 1))) (nexts.Done NoSlot)) (given t))
        last now
    further true = search-goes-on w t last now work to name (record plan { at = search.Looking (word + 1) }) (looking plan.layout (word + 1)) refl u
    further false = plainly w t _ last now (Some acts.Full)
        (comes-after w _ (Some acts.Full) (Did acts.Full ∷ now) (Line answers.Full ∷ Did acts.Full ∷ now) (line nothing)
        (goes-on w served (put answers.Full (record t { doing = Ended; first = false; event = Some acts.Full })) (Line answers.Full ∷ Did acts.Full ∷ now) work.works
        (counted-line w t.hands t.taken t.made t.kept (thread.number_of t) answers.Full (Did acts.Full ∷ now) (number-here w t (Did acts.Full ∷ now) work.works work.number) (record { hands_are = work.counts.hands_are; taken_is = work.counts.taken_is; made_is = work.counts.made_is; lines_are = work.counts.lines_are }))
        work.number work.phase full))

    looks : (free : Option ℕ) → Turns w t
        (made_on to name (record plan { at = looked plan.layout.slots word (unwrap_or last 0) free }) (looked_answer plan.layout word free) (given t))
        last now
    looks (Some s) = search-goes-on w t last now work to name (record plan { at = search.Taking s (unwrap_or last 0) }) (taking plan.layout s) refl u
    looks None = further (ltb (word + 1) (words_of plan.layout.slots))
makes w served t last now work to name plan (search.Taking s seen) u = takes_it (eqb (bit_and (unwrap_or last 0) (bit_of s)) 0)
  where
    takes_it : (clear : Bool) → Turns w t
        (made_on to name (record plan { at = cond clear (search.Counting s) search.Ended })
        (cond clear (nexts.Step (counting plan.layout plan.immortal s)) (nexts.Done (Again (record { seen = seen; found = unwrap_or last 0 })))) (given t))
        last now
    takes_it true = plainly w t _ last now (Some (acts.New (t.hands + 1) name.class s)) (record {
      after = Did (acts.New (t.hands + 1) name.class s) ∷ now;
      says = nothing;
      event = refl;
      stands = record {
        works = work.works;
        in_phase = work.phase;
        counts = record { hands_are = ap (λ (n : ℕ). n + 1) work.counts.hands_are; taken_is = work.counts.taken_is; made_is = ap (λ (n : ℕ). n + 1) work.counts.made_is; lines_are = work.counts.lines_are };
        number = work.number;
        asks = tt;
        up_to = record { before = now; making = u; now_is = rw work.counts.hands_are refl };
      };
    })
    takes_it false = search-begins-again w t last now work to name u
makes w served t last now work to name plan (search.Counting s) u = search-goes-on w t last now work to name (record plan { at = search.Naming s }) (naming plan.layout plan.name s) refl u
makes w served t last now work to name plan (search.Naming s) u = plainly w t _ last now None
    (comes-after w _ None now (Line (answers.New name) ∷ now) (line nothing)
    (replaces w served (put (answers.New name) (given t)) to (Some (strong_to t.hands s)) (op.New to name.class) (answers.New name) b.base now work.works
    (counted-line w t.hands t.taken t.made t.kept (thread.number_of t) (answers.New name) now (number-here w t now work.works work.number) work.counts)
    work.number work.phase b.done b.there fits answered))
  where
    m : IsMade w t.index to name s t.vars now
    m = u

    b : IsBegun w t.index (op.New to name.class) t.vars m.before
    b = m.making.begun

    hand_is : t.hands ≡ hands_of b.base + 1
    hand_is = work.counts.hands_are ∙ ap hands_of m.now_is ∙ ap (λ (ns : List Note). hands_of ns + 1) b.now_is

    name_is : name ≡ record { class = name.class; thread = w.thread; number = made_of b.base + 1 }
    name_is = rw b.now_is at m.making.named

    now_is : now ≡ Did (acts.New t.hands name.class s) ∷ Operation (ordinal w.program t.index) ∷ b.base
    now_is = let n = m.now_is in let o = b.now_is in let h = work.counts.hands_are in let k = ap hands_of m.now_is in cc

    fits : FitsKind w.kinds to (Some (strong_to t.hands s))
    fits = fits-some w.kinds to (strong_to t.hands s) (sym (holds-at (KindsFit w.shape w.classes w.kinds) w.program t.index (op.New to name.class) served.kinds_fit b.there))

    answered : IsAnswered w.thread w.came (op.New to name.class) (variables t.vars) (Operation (ordinal w.program t.index) ∷ b.base)
        (programs.put (variables t.vars) to (Some (held_of (strong_to t.hands s)))) (answers.New name) (programs.value (variables t.vars) to) now
    answered =
        let P : List Note → Type 0 = λ (ns : List Note). IsAnswered w.thread w.came (op.New to name.class) (variables t.vars) (Operation (ordinal w.program t.index) ∷ b.base)
        (programs.put (variables t.vars) to (Some (held_of (strong_to t.hands s)))) (answers.New name) (programs.value (variables t.vars) to) ns in
        subst P (sym now_is) (made {to = to} {class = name.class} {slot = s} {k = t.hands} {name = name} hand_is name_is (record { replaced = refl; old = refl }))
makes w served t last now work to name plan search.Ended u = absurd u
