-- A strong reference by a weak one: one more in the entry's strong count, and then the entry's link, which names the slot.
use Rattle.std.specs.Prelude.{ℕ, ◌-◌, ◌≤◌, ◌==◌, Bool, if◌then◌else◌, Option, Some, None}
use Rattle.std.specs.Option.{unwrap_or}
use Rattle.arc_model.specs.declared.shape.Kind.TheVariants.{Strong}
use Rattle.arc_rule.specs.declared.layout.Place.{Place}
use Rattle.arc_rule.specs.declared.layout.Place.TheVariants as places
use Rattle.arc_rule.specs.declared.step.Changed.{Changed}
use Rattle.arc_rule.specs.declared.plan.Next.{Next}
use Rattle.arc_rule.specs.declared.attempt.At.{At}
use Rattle.arc_rule.specs.declared.attempt.At.TheVariants.{Start, Loading, Exchanging, Ended}
use Rattle.arc_rule.specs.declared.attempt.Choice.{Choice}
use Rattle.arc_rule.specs.declared.attempt.Choice.TheVariants.{Tell}
use Rattle.arc_rule.specs.Attempts.{takes_at, turned_at, turned_by, answer_at, answer_by, told_as, leaves_at}
use Rattle.arc_rule.specs.Extents.{Extent}
use Rattle.arc_rule.specs.Places.{IsPlace, number}
use Rattle.arc_side.specs.declared.entry_up.EntryUpAnswer.{EntryUpAnswer}
use Rattle.arc_side.specs.declared.entry_up.EntryUpAnswer.TheVariants as entries
use Rattle.arc_side.specs.declared.weak_load.Reads.{Reads}
use Rattle.arc_side.specs.declared.weak_load.Reads.TheVariants.{StrongCount, Link}
use Rattle.arc_side.specs.declared.weak_load.WeakLoadAnswer.{WeakLoadAnswer}
use Rattle.arc_side.specs.declared.weak_load.WeakLoadAnswer.TheVariants.{Got, Nil, CountFull, Again}
use Rattle.arc_side.specs.Entries.{EntryRise, entry_up_row, EntryUpWord}

-- an attempt to take a strong reference in the entry, and then to read whose it is
pub record WeakTake : Type 0 where
  pub layout : Extent
  pub entry : ℕ
  pub wide : ℕ
  pub reads : Reads
  pub at : At

pub record IsWeakTake (p : WeakTake) : Type 0 where
  pub place : IsPlace p.layout (places.Strong p.entry)
  pub wide : 1 ≤ p.wide

abbrev pub read_at : ℕ → Reads → Place
read_at e StrongCount = places.Strong e
read_at e Link = places.Link e

abbrev pub weak_load_place : WeakTake → ℕ
weak_load_place p = number p.layout (read_at p.entry p.reads)

-- the attempt on the strong count
abbrev pub weak_take : WeakTake → EntryRise
weak_take p = record { layout = p.layout; entry = p.entry; list = Strong; wide = p.wide; at = p.at }

-- What that one's answer comes to. Up is none: the attempt goes on to the link.
abbrev pub of_strong_in_entry : EntryUpAnswer → WeakLoadAnswer
of_strong_in_entry entries.Up = Nil
of_strong_in_entry entries.Zero = Nil
of_strong_in_entry entries.CountFull = CountFull
of_strong_in_entry (entries.Again c) = Again c

-- the link is 1 plus the number of a slot
abbrev pub WeakLoadWordAt : WeakTake → Reads → ℕ → Type 0
WeakLoadWordAt p StrongCount w = EntryUpWord (weak_take p) w
WeakLoadWordAt p Link w = (1 ≤ w) × (w ≤ p.layout.slots)

abbrev pub WeakLoadWord : WeakTake → ℕ → Type 0
WeakLoadWord p w = WeakLoadWordAt p p.reads w

abbrev pub weak_load_choice_at : ℕ → Reads → ℕ → Choice WeakLoadAnswer
weak_load_choice_at wide StrongCount w = told_as of_strong_in_entry (entry_up_row Strong wide w)
weak_load_choice_at wide Link w = Tell (Got (w - 1))

abbrev pub weak_load_choice : WeakTake → ℕ → Choice WeakLoadAnswer
weak_load_choice p w = weak_load_choice_at p.wide p.reads w

-- once the exchange found the count that was read, the reference is there, and the link is read
abbrev pub weak_load_on : WeakTake → Bool → Option WeakTake
weak_load_on p same = if same then Some (record p { reads = Link }) else None

abbrev pub weak_load_onward_at : WeakTake → Reads → At → ℕ → Option WeakTake
weak_load_onward_at p StrongCount (Exchanging seen new) w = weak_load_on p (w == seen)
weak_load_onward_at p StrongCount Start w = None
weak_load_onward_at p StrongCount Loading w = None
weak_load_onward_at p StrongCount Ended w = None
weak_load_onward_at p Link at w = None

abbrev pub weak_load_onward : WeakTake → Option ℕ → Option WeakTake
weak_load_onward p last = weak_load_onward_at p p.reads p.at (unwrap_or last 0)

abbrev pub weak_load_moved : WeakTake → At → WeakTake
weak_load_moved p at = record p { at = at }

-- no exchange ends it
abbrev pub weak_load_end : WeakTake → ℕ → WeakLoadAnswer
weak_load_end p seen = Nil

abbrev pub weak_load_takes : WeakTake → Option ℕ → Type 0
weak_load_takes p last = takes_at (WeakLoadWord p) p.at last

abbrev pub weak_load_turned : WeakTake → Option ℕ → WeakTake
weak_load_turned p last = turned_by weak_load_moved p (weak_load_onward p last) (turned_at (weak_load_choice p) p.at (unwrap_or last 0))

abbrev pub weak_load_answer : WeakTake → Option ℕ → Next WeakLoadAnswer
weak_load_answer p last = answer_by weak_load_place (weak_load_onward p last) (answer_at (weak_load_choice p) (weak_load_end p) Again (weak_load_place p) p.at (unwrap_or last 0))

-- after the load of the count its exchange and the load of the link, after the exchange that load
abbrev pub weak_load_leaves : Reads → ℕ
weak_load_leaves StrongCount = 2
weak_load_leaves Link = 0

abbrev pub weak_load_exchange_leaves : Reads → ℕ
weak_load_exchange_leaves StrongCount = 1
weak_load_exchange_leaves Link = 0

abbrev pub weak_load_left : WeakTake → ℕ
weak_load_left p = leaves_at (weak_load_leaves p.reads) (weak_load_exchange_leaves p.reads) p.at

abbrev pub weak_load_change : WeakLoadAnswer → Option Changed
weak_load_change (Again c) = Some c
weak_load_change (Got s) = None
weak_load_change Nil = None
weak_load_change CountFull = None
