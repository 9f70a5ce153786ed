-- The counts of the object in a slot move into an entry, and its inline word then has the entry's number.
use Rattle.std.specs.Prelude.{ℕ, suc, ◌≡◌, ◌≢◌, ◌<◌, ◌≤◌, ◌==◌, ◌&&◌, not, Bool, if◌then◌else◌, Option, Some, None, ⊤}
use Rattle.std.specs.Option.{unwrap_or}
use Rattle.arc_bits.specs.declared.packing.Inline.{Inline}
use Rattle.arc_bits.specs.declared.packing.Word.{Word}
use Rattle.arc_bits.specs.declared.packing.Word.TheVariants.{Counts, Slow}
use Rattle.arc_bits.specs.Words.{CountsFit, packed, unpacked}
use Rattle.arc_model.specs.declared.shape.Kind.{Kind}
use Rattle.arc_model.specs.declared.shape.Kind.TheVariants.{Strong, Unowned, Weak}
use Rattle.arc_model.specs.Shapes.{CapNumbers}
use Rattle.arc_rule.specs.declared.layout.Place.TheVariants.{Count}
use Rattle.arc_rule.specs.declared.step.Step.{Step}
use Rattle.arc_rule.specs.declared.step.Step.TheVariants.{Load, Exchange, Store}
use Rattle.arc_rule.specs.declared.step.Changed.{Changed}
use Rattle.arc_rule.specs.declared.plan.Next.{Next}
use Rattle.arc_rule.specs.Extents.{Extent}
use Rattle.arc_rule.specs.Places.{number}
use Rattle.arc_rule.specs.Plans.{Reading, step_or}
use Rattle.arc_plan.specs.Attempts.{IsCountWord}
use Rattle.arc_side.specs.Entries.{count_place}
use Rattle.arc_side.specs.declared.publish.PublishAnswer.{PublishAnswer}
use Rattle.arc_side.specs.declared.publish.PublishAnswer.TheVariants.{Done, NotNeeded, Again}
use Rattle.arc_side.specs.declared.publish.Publishing.{Publishing}
use Rattle.arc_side.specs.declared.publish.Publishing.TheVariants.{Start, Loading, Storing, Exchanging, Ended}

-- an entry is to become that of the object in a slot, for this reason
pub record Publication : Type 0 where
  pub layout : Extent
  pub slot : ℕ
  pub entry : ℕ
  pub why : Kind
  pub caps : CapNumbers
  pub at : Publishing

abbrev pub HasCounts : Publishing → Type 0
HasCounts Start = ⊤
HasCounts Loading = ⊤
HasCounts (Storing c list) = CountsFit c
HasCounts (Exchanging c) = CountsFit c
HasCounts Ended = ⊤

pub record IsPublication (layout : Extent) (slot entry : ℕ) (at : Publishing) : Type 0 where
  pub of_slot : slot < layout.slots
  pub of_entry : entry < layout.entries
  pub has_counts : HasCounts at

-- what is wanted can't be had without an entry: a weak reference to a live object, one strong reference more than a live object's cap
-- allows, or one unowned reference more than the cap
abbrev pub is_needed : Kind → CapNumbers → Inline → Bool
is_needed Strong caps c = not c.deiniting && c.strong_extra == caps.strong
is_needed Unowned caps c = c.unowned == caps.unowned
is_needed Weak caps c = not c.deiniting

-- the counts that are to move, where the word read holds counts and an entry is needed
abbrev pub moved_counts : Kind → CapNumbers → Option Word → Option Inline
moved_counts why caps (Some (Counts c)) = if is_needed why caps c then Some c else None
moved_counts why caps _ = None

-- an entry's count of a list, for the object that has these counts; the weak one is that of the object itself
abbrev pub entry_count : Kind → Inline → ℕ
entry_count Strong c = if c.deiniting then 0 else suc c.strong_extra
entry_count Unowned c = c.unowned
entry_count Weak c = 1

-- counts within the caps and with an unowned count of at least 1, the number of an entry, or the word of an immortal object
abbrev pub PublishWord : Publication → ℕ → Type 0
PublishWord p w = IsCountWord p.layout.entries (λ c. (c.strong_extra ≤ p.caps.strong) × (c.unowned ≤ p.caps.unowned)) (unpacked w)

abbrev pub publishing_takes : (ℕ → Type 0) → Publishing → Option ℕ → Type 0
publishing_takes Fits Start last = last ≡ None
publishing_takes Fits Loading None = ⊥
publishing_takes Fits Loading (Some w) = Fits w
publishing_takes Fits (Storing c list) last = last ≢ None
publishing_takes Fits (Exchanging c) last = last ≢ None
publishing_takes Fits Ended last = ⊥

abbrev pub publish_takes : Publication → Option ℕ → Type 0
publish_takes p last = publishing_takes (PublishWord p) p.at last

abbrev pub begun : Option Inline → Publishing
begun None = Ended
begun (Some c) = Storing c Strong

-- the entry's strong, unowned and weak count are stored in turn, and then the inline word is exchanged
abbrev pub after_store : Inline → Kind → Publishing
after_store c Strong = Storing c Unowned
after_store c Unowned = Storing c Weak
after_store c Weak = Exchanging c

abbrev pub publishing_turned : Kind → CapNumbers → Publishing → ℕ → Publishing
publishing_turned why caps Start w = Loading
publishing_turned why caps Loading w = begun (moved_counts why caps (unpacked w))
publishing_turned why caps (Storing c list) w = after_store c list
publishing_turned why caps (Exchanging c) w = Ended
publishing_turned why caps Ended w = Ended

abbrev pub publish_turned : Publication → Option ℕ → Publication
publish_turned p last = record p { at = publishing_turned p.why p.caps p.at (unwrap_or last 0) }

abbrev pub publishing_asked : Extent → ℕ → ℕ → Publishing → Option Step
publishing_asked l slot entry Start = None
publishing_asked l slot entry Loading = Some (Load (number l (Count slot)))
publishing_asked l slot entry (Storing c list) = Some (Store (number l (count_place list entry)) (entry_count list c))
publishing_asked l slot entry (Exchanging c) = Some (Exchange (number l (Count slot)) (packed (Counts c)) (packed (Slow entry)))
publishing_asked l slot entry Ended = None

abbrev pub publish_asked : Publication → Option Step
publish_asked p = publishing_asked p.layout p.slot p.entry p.at

-- NotNeeded where the word read asks for no entry; Done where the exchange found that word still, else Again with the two words
abbrev pub publishing_end : Publishing → ℕ → PublishAnswer
publishing_end (Exchanging c) w = if w == packed (Counts c) then Done else Again (record { seen = packed (Counts c); found = w })
publishing_end _ w = NotNeeded

abbrev pub publish_answer : Publication → Option ℕ → Next PublishAnswer
publish_answer p last = step_or (publish_asked (publish_turned p last)) (publishing_end p.at (unwrap_or last 0))

-- a load, three stores and an exchange
abbrev pub publishing_left : Publishing → ℕ
publishing_left Start = 5
publishing_left Loading = 4
publishing_left (Storing c Strong) = 3
publishing_left (Storing c Unowned) = 2
publishing_left (Storing c Weak) = 1
publishing_left (Exchanging c) = 0
publishing_left Ended = 0

abbrev pub publish_left : Publication → ℕ
publish_left p = publishing_left p.at

-- the inline word that was read, until it is exchanged
abbrev pub publishing_rests : Extent → ℕ → Publishing → Option Reading
publishing_rests l slot (Storing c list) = Some (record { place = number l (Count slot); word = packed (Counts c) })
publishing_rests l slot (Exchanging c) = Some (record { place = number l (Count slot); word = packed (Counts c) })
publishing_rests l slot _ = None

abbrev pub publish_rests : Publication → Option Reading
publish_rests p = publishing_rests p.layout p.slot p.at

abbrev pub publish_change : PublishAnswer → Option Changed
publish_change (Again c) = Some c
publish_change _ = None
