-- Each word that the end of a slot may be given keeps what it stands for.
use Rattle.std.proofs.Common.{◌≡◌, ℕ, true, List, ◌∷◌, Option, Some, None, refl, ap}
use Rattle.arc_model.specs.declared.event.Act.TheVariants.{Vacate, Gone}
use Rattle.arc_spelling.specs.Spelling.{Note}
use Rattle.arc_spelling.specs.Spelling.Note.{Did, Entry}
use Rattle.arc_spelling.specs.Spelling.IsEnd.{inline, gone_more, gone_last}
use Rattle.arc_rule.specs.declared.plan.Next.{Next}
use Rattle.arc_rule.specs.declared.plan.Next.TheVariants as nexts
use Rattle.arc_side.specs.Entries.{EntryFall, entry_down_turned, entry_down_answer}
use Rattle.arc_side.specs.declared.entry_down.EntryDownAnswer.{EntryDownAnswer}
use Rattle.arc_side.specs.declared.entry_down.EntryDownAnswer.TheVariants.{More, Last, Again}
use Rattle.arc_side.specs.SlotEnds.{SlotEnding, is_vacated, left_on, slot_end_at, slot_end_takes_at}
use Rattle.arc_side.specs.declared.slot_end.At.{At}
use Rattle.arc_side.specs.declared.slot_end.At.TheVariants as ends
use Rattle.arc_deinits.specs.References.{EndUpTo, EndGoesOn, SlotEndsGoOn}

-- the machine while it is given a word
abbrev given : SlotEnding → SlotEnding
given p = record p { at = ends.Ended; event = None }

vacated : (p : SlotEnding) (base now : List Note) (entry : Option ℕ) → now ≡ Entry p.slot entry ∷ base → EndGoesOn p (is_vacated (given p) entry) base now
vacated p base now None is = record { slot = refl; hands = refl; comes = rw is inline }
vacated p base now (Some e) is = record { slot = refl; hands = refl; comes = ap (λ (ns : List Note). Did (Vacate p.slot) ∷ ns) is }

left : (p : SlotEnding) (e : ℕ) (base now : List Note) (plan : EntryFall) (a : Next EntryDownAnswer) → now ≡ Did (Vacate p.slot) ∷ Entry p.slot (Some e) ∷ base → EndGoesOn p (left_on (given p) e plan a) base now
left p e base now plan (nexts.Step step) is = record { slot = refl; hands = refl; comes = is }
left p e base now plan (nexts.Done More) is = record { slot = refl; hands = refl; comes = rw is gone_more }
left p e base now plan (nexts.Done Last) is = record { slot = refl; hands = refl; comes = ap (λ (ns : List Note). Did (Gone e true) ∷ ns) is }
left p e base now plan (nexts.Done (Again changed)) is = record { slot = refl; hands = refl; comes = is }

pub slot_ends_go_on : SlotEndsGoOn
slot_ends_go_on p last base now stands takes = go p.at stands takes
  where
    go : (at : At) → EndUpTo p.slot base now at p.entry → slot_end_takes_at last at → EndGoesOn p (slot_end_at (record p { at = ends.Ended; event = None }) last at) base now
    go ends.Start stands takes = absurd stands
    go ends.Vacating stands takes = vacated p base now p.entry stands
    go (ends.Leaving e plan) stands takes = left p e base now (entry_down_turned plan last) (entry_down_answer plan last) stands
    go (ends.Returning e) stands takes = record { slot = refl; hands = refl; comes = rw stands gone_last }
    go ends.Ended stands takes = absurd stands
