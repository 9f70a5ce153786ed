-- An attempt on a count of an entry: one reference more, or one fewer.
use Rattle.std.specs.Prelude.{ℕ, suc, ◌-◌, ◌≤◌, ◌==◌, ◌&&◌, Bool, true, false, if◌then◌else◌, Option, Some, None}
use Rattle.std.specs.Option.{unwrap_or}
use Rattle.arc_model.specs.declared.shape.Kind.{Kind}
use Rattle.arc_model.specs.declared.shape.Kind.TheVariants as kinds
use Rattle.arc_rule.specs.declared.layout.Place.{Place}
use Rattle.arc_rule.specs.declared.layout.Place.TheVariants as places
use Rattle.arc_rule.specs.declared.step.Changed.{Changed}
use Rattle.arc_rule.specs.declared.plan.Next.{Next}
use Rattle.arc_rule.specs.Extents.{Extent}
use Rattle.arc_rule.specs.Places.{number}
use Rattle.arc_rule.specs.declared.attempt.At.{At}
use Rattle.arc_rule.specs.declared.attempt.Choice.{Choice}
use Rattle.arc_rule.specs.declared.attempt.Choice.TheVariants.{Tell, Write}
use Rattle.arc_rule.specs.Attempts.{takes_at, turned_at, answer_at}
use Rattle.arc_side.specs.declared.entry_up.EntryUpAnswer.{EntryUpAnswer}
use Rattle.arc_side.specs.declared.entry_up.EntryUpAnswer.TheVariants as ups
use Rattle.arc_side.specs.declared.entry_down.EntryDownAnswer.{EntryDownAnswer}
use Rattle.arc_side.specs.declared.entry_down.EntryDownAnswer.TheVariants as downs

-- the word of an entry that counts the list
abbrev pub count_place : Kind → ℕ → Place
count_place kinds.Strong e = places.Strong e
count_place kinds.Unowned e = places.Unowned e
count_place kinds.Weak e = places.Weak e

-- an attempt to count up there, up to the greatest count of an entry
pub record EntryRise : Type 0 where
  pub layout : Extent
  pub entry : ℕ
  pub list : Kind
  pub wide : ℕ
  pub at : At

-- an attempt to count down there
pub record EntryFall : Type 0 where
  pub layout : Extent
  pub entry : ℕ
  pub list : Kind
  pub at : At

abbrev pub is_strong : Kind → Bool
is_strong kinds.Strong = true
is_strong kinds.Unowned = false
is_strong kinds.Weak = false

-- by the word read: Zero where it is a strong count of 0, CountFull at the greatest count; else one more
abbrev pub entry_up_row : Kind → ℕ → ℕ → Choice EntryUpAnswer
entry_up_row list wide w = if is_strong list && w == 0 then Tell ups.Zero else if w == wide then Tell ups.CountFull else Write (suc w)

-- the word may be read there
abbrev pub EntryUpWord : EntryRise → ℕ → Type 0
EntryUpWord p w = w ≤ p.wide

abbrev pub entry_up_takes : EntryRise → Option ℕ → Type 0
entry_up_takes p last = takes_at (EntryUpWord p) p.at last

abbrev pub entry_up_turned : EntryRise → Option ℕ → EntryRise
entry_up_turned p last = record p { at = turned_at (entry_up_row p.list p.wide) p.at (unwrap_or last 0) }

abbrev pub entry_up_answer : EntryRise → Option ℕ → Next EntryUpAnswer
entry_up_answer p last = answer_at (entry_up_row p.list p.wide) (λ seen. ups.Up) ups.Again (number p.layout (count_place p.list p.entry)) p.at (unwrap_or last 0)

abbrev pub entry_up_change : EntryUpAnswer → Option Changed
entry_up_change (ups.Again c) = Some c
entry_up_change _ = None

-- one fewer than the word read
abbrev pub entry_down_row : ℕ → Choice EntryDownAnswer
entry_down_row w = Write (w - 1)

-- after the exchange of the word: Last where it was 1
abbrev pub entry_down_end : ℕ → EntryDownAnswer
entry_down_end seen = if seen == 1 then downs.Last else downs.More

-- there is a reference to count
abbrev pub EntryDownWord : ℕ → Type 0
EntryDownWord w = 1 ≤ w

abbrev pub entry_down_takes : EntryFall → Option ℕ → Type 0
entry_down_takes p last = takes_at EntryDownWord p.at last

abbrev pub entry_down_turned : EntryFall → Option ℕ → EntryFall
entry_down_turned p last = record p { at = turned_at entry_down_row p.at (unwrap_or last 0) }

abbrev pub entry_down_answer : EntryFall → Option ℕ → Next EntryDownAnswer
entry_down_answer p last = answer_at entry_down_row entry_down_end downs.Again (number p.layout (count_place p.list p.entry)) p.at (unwrap_or last 0)

abbrev pub entry_down_change : EntryDownAnswer → Option Changed
entry_down_change (downs.Again c) = Some c
entry_down_change _ = None
