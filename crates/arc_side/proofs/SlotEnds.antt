-- The end of a slot at the plan on its entry's count.
use Rattle.std.proofs.Common.{◌≡◌, ℕ, Option, None, sym, subst}
use Rattle.arc_rule.specs.declared.plan.Next.{Next}
use Rattle.arc_side.specs.Entries.{EntryFall, entry_down_turned, entry_down_answer}
use Rattle.arc_side.specs.declared.entry_down.EntryDownAnswer.{EntryDownAnswer}
use Rattle.arc_side.specs.declared.slot_end.At.TheVariants.{Leaving, Ended}
use Rattle.arc_side.specs.SlotEnds.{SlotEnding, left_on, slot_end_at, slot_end_turn}

pub left_turned : (p after : SlotEnding) (last : Option ℕ) (e : ℕ) (plan new : EntryFall) (next : Next EntryDownAnswer) → p.at ≡ Leaving e plan → new ≡ entry_down_turned plan last → next ≡ entry_down_answer plan last →
    after ≡ (left_on (record p { at = Ended; event = None }) e new next).after → after ≡ (slot_end_turn p last).after
left_turned p after last e plan new next at_is new_is next_is is =
    subst (λ at. after ≡ (slot_end_at (record p { at = Ended; event = None }) last at).after) (sym at_is)
    (subst (λ (n : EntryFall). after ≡ (left_on (record p { at = Ended; event = None }) e n (entry_down_answer plan last)).after) new_is
    (subst (λ (a : Next EntryDownAnswer). after ≡ (left_on (record p { at = Ended; event = None }) e new a).after) next_is is))
