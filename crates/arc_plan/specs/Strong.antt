-- A retain by the inline word, and a release.
use Rattle.std.specs.Prelude.{ℕ, ◌≡◌, ◌≤◌, ◌==◌, false, if◌then◌else◌, Option, Some, None}
use Rattle.std.specs.Option.{unwrap_or}
use Rattle.arc_bits.specs.declared.packing.Word.{Word}
use Rattle.arc_bits.specs.declared.packing.Word.TheVariants.{Free, Counts, Slow, Immortal}
use Rattle.arc_bits.specs.Words.{packed, unpacked}
use Rattle.arc_bits.specs.Moves.{strong_more, strong_less}
use Rattle.arc_rule.specs.declared.layout.Place.TheVariants.{Count}
use Rattle.arc_rule.specs.declared.step.Changed.{Changed}
use Rattle.arc_rule.specs.declared.plan.Next.{Next}
use Rattle.arc_rule.specs.Places.{number}
use Rattle.arc_rule.specs.declared.attempt.Choice.{Choice}
use Rattle.arc_rule.specs.declared.attempt.Choice.TheVariants.{Tell, Write}
use Rattle.arc_plan.specs.declared.strong.StrongUpAnswer.{StrongUpAnswer}
use Rattle.arc_plan.specs.declared.strong.StrongUpAnswer.TheVariants as ups
use Rattle.arc_plan.specs.declared.strong.StrongDownAnswer.{StrongDownAnswer}
use Rattle.arc_plan.specs.declared.strong.StrongDownAnswer.TheVariants as downs
use Rattle.arc_plan.specs.Attempts.{Attempt, CappedAttempt, IsCountWord}
use Rattle.arc_rule.specs.Attempts.{takes_at, turned_at, answer_at}

-- by the word read: Dead where it is deiniting, AtCap at the cap, Slow with the entry, and Up where the object is immortal; else one strong reference more
abbrev pub strong_up_row : ℕ → Option Word → Choice StrongUpAnswer
strong_up_row cap (Some (Counts c)) =
    if c.deiniting then Tell ups.Dead else
    if c.strong_extra == cap then Tell ups.AtCap else Write (packed (Counts (strong_more c)))
strong_up_row cap (Some (Slow e)) = Tell (ups.Slow e)
strong_up_row cap (Some Immortal) = Tell ups.Up
strong_up_row cap (Some Free) = Tell ups.Dead
strong_up_row cap None = Tell ups.Dead

abbrev pub StrongUpWord : CappedAttempt → ℕ → Type 0
StrongUpWord p w = IsCountWord p.layout.entries (λ c. c.strong_extra ≤ p.cap) (unpacked w)

abbrev pub strong_up_takes : CappedAttempt → Option ℕ → Type 0
strong_up_takes p last = takes_at (StrongUpWord p) p.at last

abbrev pub strong_up_turned : CappedAttempt → Option ℕ → CappedAttempt
strong_up_turned p last = record p { at = turned_at (λ w. strong_up_row p.cap (unpacked w)) p.at (unwrap_or last 0) }

abbrev pub strong_up_answer : CappedAttempt → Option ℕ → Next StrongUpAnswer
strong_up_answer p last = answer_at (λ w. strong_up_row p.cap (unpacked w)) (λ seen. ups.Up) ups.Again (number p.layout (Count p.slot)) p.at (unwrap_or last 0)

abbrev pub strong_up_change : StrongUpAnswer → Option Changed
strong_up_change (ups.Again c) = Some c
strong_up_change _ = None

-- by the word read: Slow with the entry, and More where the object is immortal; else one strong reference fewer, or deiniting
abbrev pub strong_down_row : Option Word → Choice StrongDownAnswer
strong_down_row (Some (Counts c)) = Write (packed (Counts (strong_less c)))
strong_down_row (Some (Slow e)) = Tell (downs.Slow e)
strong_down_row (Some Immortal) = Tell downs.More
strong_down_row (Some Free) = Tell downs.More
strong_down_row None = Tell downs.More

-- after the exchange of the word: Last where it had no strong reference but this one
abbrev pub strong_down_end : Option Word → StrongDownAnswer
strong_down_end (Some (Counts c)) = if c.strong_extra == 0 then downs.Last else downs.More
strong_down_end (Some (Slow e)) = downs.More
strong_down_end (Some Immortal) = downs.More
strong_down_end (Some Free) = downs.More
strong_down_end None = downs.More

-- the object isn't deiniting
abbrev pub StrongDownWord : Attempt → ℕ → Type 0
StrongDownWord p w = IsCountWord p.layout.entries (λ c. c.deiniting ≡ false) (unpacked w)

abbrev pub strong_down_takes : Attempt → Option ℕ → Type 0
strong_down_takes p last = takes_at (StrongDownWord p) p.at last

abbrev pub strong_down_turned : Attempt → Option ℕ → Attempt
strong_down_turned p last = record p { at = turned_at (λ w. strong_down_row (unpacked w)) p.at (unwrap_or last 0) }

abbrev pub strong_down_answer : Attempt → Option ℕ → Next StrongDownAnswer
strong_down_answer p last = answer_at (λ w. strong_down_row (unpacked w)) (λ seen. strong_down_end (unpacked seen)) downs.Again (number p.layout (Count p.slot)) p.at (unwrap_or last 0)

abbrev pub strong_down_change : StrongDownAnswer → Option Changed
strong_down_change (downs.Again c) = Some c
strong_down_change _ = None
