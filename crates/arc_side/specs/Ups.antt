-- One reference more, strong or unowned, by the inline word of a slot, or by the entry that the inline word names.
use Rattle.std.specs.Prelude.{ℕ, Option, Some, None}
use Rattle.std.specs.Option.{unwrap_or}
use Rattle.arc_bits.specs.Words.{unpacked}
use Rattle.arc_model.specs.Shapes.{CapNumbers}
use Rattle.arc_model.specs.Ranges.{CapsFit}
use Rattle.arc_model.specs.declared.shape.Kind.{Kind}
use Rattle.arc_model.specs.declared.shape.Kind.TheVariants as kinds
use Rattle.arc_rule.specs.declared.step.Changed.{Changed}
use Rattle.arc_rule.specs.declared.plan.Next.{Next}
use Rattle.arc_rule.specs.declared.attempt.At.{At}
use Rattle.arc_rule.specs.declared.attempt.Choice.{Choice}
use Rattle.arc_rule.specs.declared.attempt.Choice.TheVariants.{Tell}
use Rattle.arc_rule.specs.Attempts.{takes_at, turned_at, turned_by, answer_at, answer_by, told_as, leaves_at}
use Rattle.arc_rule.specs.Extents.{Extent}
use Rattle.arc_rule.specs.Places.{IsPlace, number}
use Rattle.arc_plan.specs.declared.strong.StrongUpAnswer.{StrongUpAnswer}
use Rattle.arc_plan.specs.declared.strong.StrongUpAnswer.TheVariants as strongs
use Rattle.arc_plan.specs.declared.unowned.UnownedUpAnswer.{UnownedUpAnswer}
use Rattle.arc_plan.specs.declared.unowned.UnownedUpAnswer.TheVariants as unowneds
use Rattle.arc_plan.specs.Attempts.{CappedAttempt}
use Rattle.arc_plan.specs.Strong.{strong_up_row, StrongUpWord}
use Rattle.arc_plan.specs.Unowned.{unowned_up_row, UnownedUpWord}
use Rattle.arc_side.specs.declared.entry_up.EntryUpAnswer.{EntryUpAnswer}
use Rattle.arc_side.specs.declared.entry_up.EntryUpAnswer.TheVariants as entries
use Rattle.arc_side.specs.declared.up.UpAnswer.{UpAnswer}
use Rattle.arc_side.specs.declared.up.UpAnswer.TheVariants.{Up, Dead, AtCap, CountFull, Again}
use Rattle.arc_side.specs.Entries.{EntryRise, entry_up_row, EntryUpWord}
use Rattle.arc_side.specs.Inline.{IsCountedInline, counted_at, entry_met, inline_leaves}

-- an attempt to count up in the inline word, or in the entry that it named
pub record Rise : Type 0 where
  pub layout : Extent
  pub slot : ℕ
  pub list : Kind
  pub caps : CapNumbers
  pub entry : Option ℕ
  pub at : At

pub record IsRise (p : Rise) : Type 0 where
  pub counted : IsCountedInline p.list
  pub place : IsPlace p.layout (counted_at p.list p.slot p.entry)
  pub caps : CapsFit p.caps.strong p.caps.unowned p.caps.wide

-- the attempts that it is made of
abbrev pub strong_rise : Rise → CappedAttempt
strong_rise p = record { layout = p.layout; slot = p.slot; cap = p.caps.strong; at = p.at }

abbrev pub unowned_rise : Rise → CappedAttempt
unowned_rise p = record { layout = p.layout; slot = p.slot; cap = p.caps.unowned; at = p.at }

abbrev pub entry_rise : Rise → ℕ → EntryRise
entry_rise p e = record { layout = p.layout; entry = e; list = p.list; wide = p.caps.wide; at = p.at }

-- What their answers come to. Slow is none: the attempt goes on to the entry.
abbrev pub of_strong_up : StrongUpAnswer → UpAnswer
of_strong_up strongs.Up = Up
of_strong_up strongs.Dead = Dead
of_strong_up strongs.AtCap = AtCap
of_strong_up (strongs.Slow e) = Dead
of_strong_up (strongs.Again c) = Again c

abbrev pub of_unowned_up : UnownedUpAnswer → UpAnswer
of_unowned_up unowneds.Up = Up
of_unowned_up unowneds.AtCap = AtCap
of_unowned_up (unowneds.Slow e) = AtCap
of_unowned_up (unowneds.Again c) = Again c

abbrev pub of_entry_up : EntryUpAnswer → UpAnswer
of_entry_up entries.Up = Up
of_entry_up entries.Zero = Dead
of_entry_up entries.CountFull = CountFull
of_entry_up (entries.Again c) = Again c

-- what its load may give: what that of the attempt may which it is then
abbrev pub UpWordAt : Rise → Option ℕ → Kind → ℕ → Type 0
UpWordAt p None kinds.Strong w = StrongUpWord (strong_rise p) w
UpWordAt p None kinds.Unowned w = UnownedUpWord (unowned_rise p) w
UpWordAt p None kinds.Weak w = ⊥
UpWordAt p (Some e) list w = EntryUpWord (entry_rise p e) w

abbrev pub UpWord : Rise → ℕ → Type 0
UpWord p w = UpWordAt p p.entry p.list w

-- what that attempt does with the word
abbrev pub up_choice_at : Rise → Option ℕ → Kind → ℕ → Choice UpAnswer
up_choice_at p None kinds.Strong w = told_as of_strong_up (strong_up_row p.caps.strong (unpacked w))
up_choice_at p None kinds.Unowned w = told_as of_unowned_up (unowned_up_row p.caps.unowned (unpacked w))
up_choice_at p None kinds.Weak w = Tell Dead
up_choice_at p (Some e) list w = told_as of_entry_up (entry_up_row list p.caps.wide w)

abbrev pub up_choice : Rise → ℕ → Choice UpAnswer
up_choice p w = up_choice_at p p.entry p.list w

abbrev pub up_in : Rise → Option ℕ → Option Rise
up_in p None = None
up_in p (Some e) = Some (record p { entry = Some e })

abbrev pub up_onward : Rise → Option ℕ → Option Rise
up_onward p last = up_in p (entry_met p.entry p.at last)

abbrev pub up_moved : Rise → At → Rise
up_moved p at = record p { at = at }

abbrev pub up_place : Rise → ℕ
up_place p = number p.layout (counted_at p.list p.slot p.entry)

abbrev pub up_takes : Rise → Option ℕ → Type 0
up_takes p last = takes_at (UpWord p) p.at last

abbrev pub up_turned : Rise → Option ℕ → Rise
up_turned p last = turned_by up_moved p (up_onward p last) (turned_at (up_choice p) p.at (unwrap_or last 0))

abbrev pub up_answer : Rise → Option ℕ → Next UpAnswer
up_answer p last = answer_by up_place (up_onward p last) (answer_at (up_choice p) (λ seen. Up) Again (up_place p) p.at (unwrap_or last 0))

-- at most three steps: the load of the inline word, and in an entry one more load; and an exchange
abbrev pub up_left : Rise → ℕ
up_left p = leaves_at (inline_leaves p.entry) 0 p.at

abbrev pub up_change : UpAnswer → Option Changed
up_change (Again c) = Some c
up_change Up = None
up_change Dead = None
up_change AtCap = None
up_change CountFull = None
