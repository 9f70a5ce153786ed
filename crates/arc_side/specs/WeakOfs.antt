-- One weak reference more, by the entry that the inline word of a slot names.
use Rattle.std.specs.Prelude.{ℕ, ◌≤◌, ◌<◌, Option, Some, None}
use Rattle.std.specs.Option.{unwrap_or}
use Rattle.arc_bits.specs.declared.packing.Word.{Word}
use Rattle.arc_bits.specs.declared.packing.Word.TheVariants.{Free, Counts, Slow, Immortal}
use Rattle.arc_bits.specs.Words.{unpacked}
use Rattle.arc_model.specs.declared.shape.Kind.TheVariants.{Weak}
use Rattle.arc_rule.specs.declared.step.Changed.{Changed}
use Rattle.arc_rule.specs.declared.plan.Next.{Next}
use Rattle.arc_rule.specs.declared.attempt.At.{At}
use Rattle.arc_rule.specs.declared.attempt.Choice.{Choice}
use Rattle.arc_rule.specs.declared.attempt.Choice.TheVariants.{Tell}
use Rattle.arc_rule.specs.Attempts.{takes_at, turned_at, turned_by, answer_at, answer_by, told_as, leaves_at}
use Rattle.arc_rule.specs.Extents.{Extent}
use Rattle.arc_rule.specs.Places.{IsPlace, number}
use Rattle.arc_side.specs.declared.entry_up.EntryUpAnswer.{EntryUpAnswer}
use Rattle.arc_side.specs.declared.entry_up.EntryUpAnswer.TheVariants as entries
use Rattle.arc_side.specs.declared.weak_of.WeakOfAnswer.{WeakOfAnswer}
use Rattle.arc_side.specs.declared.weak_of.WeakOfAnswer.TheVariants.{Up, NoSide, CountFull, Again}
use Rattle.arc_side.specs.Entries.{EntryRise, entry_up_row, EntryUpWord}
use Rattle.arc_side.specs.Inline.{counted_at, entry_met, inline_leaves}

-- an attempt to form a weak reference, before and after the inline word named the entry
pub record WeakRise : Type 0 where
  pub layout : Extent
  pub slot : ℕ
  pub wide : ℕ
  pub entry : Option ℕ
  pub at : At

abbrev pub weak_of_place : WeakRise → ℕ
weak_of_place p = number p.layout (counted_at Weak p.slot p.entry)

pub record IsWeakRise (p : WeakRise) : Type 0 where
  pub place : IsPlace p.layout (counted_at Weak p.slot p.entry)
  pub wide : 1 ≤ p.wide

-- the attempt in the entry
abbrev pub weak_rise : WeakRise → ℕ → EntryRise
weak_rise p e = record { layout = p.layout; entry = e; list = Weak; wide = p.wide; at = p.at }

-- what that one's answer comes to
abbrev pub of_weak_up : ℕ → EntryUpAnswer → WeakOfAnswer
of_weak_up e entries.Up = Up e
of_weak_up e entries.Zero = Up e
of_weak_up e entries.CountFull = CountFull
of_weak_up e (entries.Again c) = Again c

-- an inline word of a mortal object: counts with an unowned count of at least 1, or the number of an entry
abbrev pub IsMortalWord : ℕ → Option Word → Type 0
IsMortalWord entries None = ⊥
IsMortalWord entries (Some Free) = ⊥
IsMortalWord entries (Some (Counts c)) = 1 ≤ c.unowned
IsMortalWord entries (Some (Slow e)) = e < entries
IsMortalWord entries (Some Immortal) = ⊥

abbrev pub WeakOfWordAt : WeakRise → Option ℕ → ℕ → Type 0
WeakOfWordAt p None w = IsMortalWord p.layout.entries (unpacked w)
WeakOfWordAt p (Some e) w = EntryUpWord (weak_rise p e) w

abbrev pub WeakOfWord : WeakRise → ℕ → Type 0
WeakOfWord p w = WeakOfWordAt p p.entry w

-- NoSide where the inline word has the counts; in the entry, what the attempt there does
abbrev pub weak_of_choice_at : ℕ → Option ℕ → ℕ → Choice WeakOfAnswer
weak_of_choice_at wide None w = Tell NoSide
weak_of_choice_at wide (Some e) w = told_as (of_weak_up e) (entry_up_row Weak wide w)

abbrev pub weak_of_choice : WeakRise → ℕ → Choice WeakOfAnswer
weak_of_choice p w = weak_of_choice_at p.wide p.entry w

-- after the exchange of the entry's count
abbrev pub weak_of_end_at : Option ℕ → WeakOfAnswer
weak_of_end_at None = NoSide
weak_of_end_at (Some e) = Up e

abbrev pub weak_of_end : WeakRise → ℕ → WeakOfAnswer
weak_of_end p seen = weak_of_end_at p.entry

abbrev pub weak_of_in : WeakRise → Option ℕ → Option WeakRise
weak_of_in p None = None
weak_of_in p (Some e) = Some (record p { entry = Some e })

abbrev pub weak_of_onward : WeakRise → Option ℕ → Option WeakRise
weak_of_onward p last = weak_of_in p (entry_met p.entry p.at last)

abbrev pub weak_of_moved : WeakRise → At → WeakRise
weak_of_moved p at = record p { at = at }

abbrev pub weak_of_takes : WeakRise → Option ℕ → Type 0
weak_of_takes p last = takes_at (WeakOfWord p) p.at last

abbrev pub weak_of_turned : WeakRise → Option ℕ → WeakRise
weak_of_turned p last = turned_by weak_of_moved p (weak_of_onward p last) (turned_at (weak_of_choice p) p.at (unwrap_or last 0))

abbrev pub weak_of_answer : WeakRise → Option ℕ → Next WeakOfAnswer
weak_of_answer p last = answer_by weak_of_place (weak_of_onward p last) (answer_at (weak_of_choice p) (weak_of_end p) Again (weak_of_place p) p.at (unwrap_or last 0))

-- at most three steps
abbrev pub weak_of_left : WeakRise → ℕ
weak_of_left p = leaves_at (inline_leaves p.entry) 0 p.at

abbrev pub weak_of_change : WeakOfAnswer → Option Changed
weak_of_change (Again c) = Some c
weak_of_change (Up e) = None
weak_of_change NoSide = None
weak_of_change CountFull = None
