-- One reference fewer, strong or unowned, by the inline word of a slot, or by the entry that the inline word names.
use Rattle.std.specs.Prelude.{ℕ, Option, Some, None}
use Rattle.std.specs.Option.{unwrap_or}
use Rattle.arc_bits.specs.Words.{unpacked}
use Rattle.arc_model.specs.declared.shape.Kind.{Kind}
use Rattle.arc_model.specs.declared.shape.Kind.TheVariants as kinds
use Rattle.arc_rule.specs.declared.step.Changed.{Changed}
use Rattle.arc_rule.specs.declared.plan.Next.{Next}
use Rattle.arc_rule.specs.declared.attempt.At.{At}
use Rattle.arc_rule.specs.declared.attempt.Choice.{Choice}
use Rattle.arc_rule.specs.declared.attempt.Choice.TheVariants.{Tell}
use Rattle.arc_rule.specs.Attempts.{takes_at, turned_at, turned_by, answer_at, answer_by, told_as, leaves_at}
use Rattle.arc_rule.specs.Extents.{Extent}
use Rattle.arc_rule.specs.Places.{IsPlace, number}
use Rattle.arc_plan.specs.declared.strong.StrongDownAnswer.{StrongDownAnswer}
use Rattle.arc_plan.specs.declared.strong.StrongDownAnswer.TheVariants as strongs
use Rattle.arc_plan.specs.declared.unowned.UnownedDownAnswer.{UnownedDownAnswer}
use Rattle.arc_plan.specs.declared.unowned.UnownedDownAnswer.TheVariants as unowneds
use Rattle.arc_plan.specs.Attempts.{Attempt}
use Rattle.arc_plan.specs.Strong.{strong_down_row, strong_down_end, StrongDownWord}
use Rattle.arc_plan.specs.Unowned.{unowned_down_row, unowned_down_end, UnownedDownWord}
use Rattle.arc_side.specs.declared.entry_down.EntryDownAnswer.{EntryDownAnswer}
use Rattle.arc_side.specs.declared.entry_down.EntryDownAnswer.TheVariants as entries
use Rattle.arc_side.specs.declared.down.DownAnswer.{DownAnswer}
use Rattle.arc_side.specs.declared.down.DownAnswer.TheVariants.{More, Last, Again}
use Rattle.arc_side.specs.Entries.{EntryFall, entry_down_row, entry_down_end, EntryDownWord}
use Rattle.arc_side.specs.Inline.{IsCountedInline, counted_at, entry_met, inline_leaves}

-- an attempt to count down in the inline word, or in the entry that it named
pub record Fall : Type 0 where
  pub layout : Extent
  pub slot : ℕ
  pub list : Kind
  pub entry : Option ℕ
  pub at : At

pub record IsFall (p : Fall) : Type 0 where
  pub counted : IsCountedInline p.list
  pub place : IsPlace p.layout (counted_at p.list p.slot p.entry)

-- the attempts that it is made of
abbrev pub inline_fall : Fall → Attempt
inline_fall p = record { layout = p.layout; slot = p.slot; at = p.at }

abbrev pub entry_fall : Fall → ℕ → EntryFall
entry_fall p e = record { layout = p.layout; entry = e; list = p.list; at = p.at }

-- What their answers come to. Slow is none: the attempt goes on to the entry.
abbrev pub of_strong_down : StrongDownAnswer → DownAnswer
of_strong_down strongs.More = More None
of_strong_down strongs.Last = Last None
of_strong_down (strongs.Slow e) = More None
of_strong_down (strongs.Again c) = Again c

abbrev pub of_unowned_down : UnownedDownAnswer → DownAnswer
of_unowned_down unowneds.More = More None
of_unowned_down unowneds.Last = Last None
of_unowned_down (unowneds.Slow e) = More None
of_unowned_down (unowneds.Again c) = Again c

abbrev pub of_entry_down : ℕ → EntryDownAnswer → DownAnswer
of_entry_down e entries.More = More (Some e)
of_entry_down e entries.Last = Last (Some e)
of_entry_down e (entries.Again c) = Again c

-- what its load may give: what that of the attempt may which it is then
abbrev pub DownWordAt : Fall → Option ℕ → Kind → ℕ → Type 0
DownWordAt p None kinds.Strong w = StrongDownWord (inline_fall p) w
DownWordAt p None kinds.Unowned w = UnownedDownWord (inline_fall p) w
DownWordAt p None kinds.Weak w = ⊥
DownWordAt p (Some e) list w = EntryDownWord w

abbrev pub DownWord : Fall → ℕ → Type 0
DownWord p w = DownWordAt p p.entry p.list w

-- what that attempt does with the word
abbrev pub down_choice_at : Option ℕ → Kind → ℕ → Choice DownAnswer
down_choice_at None kinds.Strong w = told_as of_strong_down (strong_down_row (unpacked w))
down_choice_at None kinds.Unowned w = told_as of_unowned_down (unowned_down_row (unpacked w))
down_choice_at None kinds.Weak w = Tell (More None)
down_choice_at (Some e) list w = told_as (of_entry_down e) (entry_down_row w)

abbrev pub down_choice : Fall → ℕ → Choice DownAnswer
down_choice p w = down_choice_at p.entry p.list w

-- and what it answers after the exchange of the word
abbrev pub down_end_at : Option ℕ → Kind → ℕ → DownAnswer
down_end_at None kinds.Strong seen = of_strong_down (strong_down_end (unpacked seen))
down_end_at None kinds.Unowned seen = of_unowned_down (unowned_down_end (unpacked seen))
down_end_at None kinds.Weak seen = More None
down_end_at (Some e) list seen = of_entry_down e (entry_down_end seen)

abbrev pub down_end : Fall → ℕ → DownAnswer
down_end p seen = down_end_at p.entry p.list seen

abbrev pub down_in : Fall → Option ℕ → Option Fall
down_in p None = None
down_in p (Some e) = Some (record p { entry = Some e })

abbrev pub down_onward : Fall → Option ℕ → Option Fall
down_onward p last = down_in p (entry_met p.entry p.at last)

abbrev pub down_moved : Fall → At → Fall
down_moved p at = record p { at = at }

abbrev pub down_place : Fall → ℕ
down_place p = number p.layout (counted_at p.list p.slot p.entry)

abbrev pub down_takes : Fall → Option ℕ → Type 0
down_takes p last = takes_at (DownWord p) p.at last

abbrev pub down_turned : Fall → Option ℕ → Fall
down_turned p last = turned_by down_moved p (down_onward p last) (turned_at (down_choice p) p.at (unwrap_or last 0))

abbrev pub down_answer : Fall → Option ℕ → Next DownAnswer
down_answer p last = answer_by down_place (down_onward p last) (answer_at (down_choice p) (down_end p) Again (down_place p) p.at (unwrap_or last 0))

-- at most three steps: the load of the inline word, and in an entry one more load; and an exchange
abbrev pub down_left : Fall → ℕ
down_left p = leaves_at (inline_leaves p.entry) 0 p.at

abbrev pub down_change : DownAnswer → Option Changed
down_change (Again c) = Some c
down_change (More e) = None
down_change (Last e) = None
