-- One unowned reference more by the inline word, and one fewer.
use Rattle.std.specs.Prelude.{ℕ, ◌≡◌, ◌≤◌, ◌==◌, false, if◌then◌else◌, Option, Some, None}
use Rattle.std.specs.Option.{unwrap_or}
use Rattle.arc_bits.specs.declared.packing.Word.{Word}
use Rattle.arc_bits.specs.declared.packing.Word.TheVariants.{Free, Counts, Slow, Immortal}
use Rattle.arc_bits.specs.Words.{packed, unpacked}
use Rattle.arc_bits.specs.Moves.{unowned_more, unowned_less}
use Rattle.arc_rule.specs.declared.layout.Place.TheVariants.{Count}
use Rattle.arc_rule.specs.declared.step.Changed.{Changed}
use Rattle.arc_rule.specs.declared.plan.Next.{Next}
use Rattle.arc_rule.specs.Places.{number}
use Rattle.arc_rule.specs.declared.attempt.Choice.{Choice}
use Rattle.arc_rule.specs.declared.attempt.Choice.TheVariants.{Tell, Write}
use Rattle.arc_plan.specs.declared.unowned.UnownedUpAnswer.{UnownedUpAnswer}
use Rattle.arc_plan.specs.declared.unowned.UnownedUpAnswer.TheVariants as ups
use Rattle.arc_plan.specs.declared.unowned.UnownedDownAnswer.{UnownedDownAnswer}
use Rattle.arc_plan.specs.declared.unowned.UnownedDownAnswer.TheVariants as downs
use Rattle.arc_plan.specs.Attempts.{Attempt, CappedAttempt, IsCountWord}
use Rattle.arc_rule.specs.Attempts.{takes_at, turned_at, answer_at}

-- by the word read: AtCap at the cap, Slow with the entry, and Up where the object is immortal; else one unowned reference more
abbrev pub unowned_up_row : ℕ → Option Word → Choice UnownedUpAnswer
unowned_up_row cap (Some (Counts c)) =
    if c.unowned == cap then Tell ups.AtCap else Write (packed (Counts (unowned_more c)))
unowned_up_row cap (Some (Slow e)) = Tell (ups.Slow e)
unowned_up_row cap (Some Immortal) = Tell ups.Up
unowned_up_row cap (Some Free) = Tell ups.AtCap
unowned_up_row cap None = Tell ups.AtCap

abbrev pub UnownedUpWord : CappedAttempt → ℕ → Type 0
UnownedUpWord p w = IsCountWord p.layout.entries (λ c. c.unowned ≤ p.cap) (unpacked w)

abbrev pub unowned_up_takes : CappedAttempt → Option ℕ → Type 0
unowned_up_takes p last = takes_at (UnownedUpWord p) p.at last

abbrev pub unowned_up_turned : CappedAttempt → Option ℕ → CappedAttempt
unowned_up_turned p last = record p { at = turned_at (λ w. unowned_up_row p.cap (unpacked w)) p.at (unwrap_or last 0) }

abbrev pub unowned_up_answer : CappedAttempt → Option ℕ → Next UnownedUpAnswer
unowned_up_answer p last = answer_at (λ w. unowned_up_row p.cap (unpacked w)) (λ seen. ups.Up) ups.Again (number p.layout (Count p.slot)) p.at (unwrap_or last 0)

abbrev pub unowned_up_change : UnownedUpAnswer → Option Changed
unowned_up_change (ups.Again c) = Some c
unowned_up_change _ = None

-- by the word read: Slow with the entry, and More where the object is immortal; else one unowned reference fewer
abbrev pub unowned_down_row : Option Word → Choice UnownedDownAnswer
unowned_down_row (Some (Counts c)) = Write (packed (Counts (unowned_less c)))
unowned_down_row (Some (Slow e)) = Tell (downs.Slow e)
unowned_down_row (Some Immortal) = Tell downs.More
unowned_down_row (Some Free) = Tell downs.More
unowned_down_row None = Tell downs.More

-- after the exchange of the word: Last where it had no unowned reference but this one
abbrev pub unowned_down_end : Option Word → UnownedDownAnswer
unowned_down_end (Some (Counts c)) = if c.unowned == 1 then downs.Last else downs.More
unowned_down_end (Some (Slow e)) = downs.More
unowned_down_end (Some Immortal) = downs.More
unowned_down_end (Some Free) = downs.More
unowned_down_end None = downs.More

-- while the object isn't deiniting, one unowned reference is there on behalf of the strong ones
abbrev pub UnownedDownWord : Attempt → ℕ → Type 0
UnownedDownWord p w = IsCountWord p.layout.entries (λ c. c.deiniting ≡ false → 2 ≤ c.unowned) (unpacked w)

abbrev pub unowned_down_takes : Attempt → Option ℕ → Type 0
unowned_down_takes p last = takes_at (UnownedDownWord p) p.at last

abbrev pub unowned_down_turned : Attempt → Option ℕ → Attempt
unowned_down_turned p last = record p { at = turned_at (λ w. unowned_down_row (unpacked w)) p.at (unwrap_or last 0) }

abbrev pub unowned_down_answer : Attempt → Option ℕ → Next UnownedDownAnswer
unowned_down_answer p last = answer_at (λ w. unowned_down_row (unpacked w)) (λ seen. unowned_down_end (unpacked seen)) downs.Again (number p.layout (Count p.slot)) p.at (unwrap_or last 0)

abbrev pub unowned_down_change : UnownedDownAnswer → Option Changed
unowned_down_change (downs.Again c) = Some c
unowned_down_change _ = None
