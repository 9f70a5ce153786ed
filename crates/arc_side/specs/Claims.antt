-- An entry is taken for the object in a slot: a free one is found by the words of the entries' bits, its bit is set, and its link is stored.
use Rattle.std.specs.Prelude.{ℕ, suc, ◌≡◌, ◌≢◌, ◌+◌, ◌-◌, ◌/◌, ◌<◌, ◌==◌, bit_and, if◌then◌else◌, Option, Some, None, ⊤}
use Rattle.std.specs.Option.{unwrap_or}
use Rattle.arc_rule.specs.declared.layout.Place.TheVariants.{Link, EntryBits}
use Rattle.arc_rule.specs.declared.step.Step.{Step}
use Rattle.arc_rule.specs.declared.step.Step.TheVariants.{Load, Store, Or}
use Rattle.arc_rule.specs.declared.step.Changed.{Changed}
use Rattle.arc_rule.specs.declared.plan.Next.{Next}
use Rattle.arc_rule.specs.Bits.{words_of, bit_of}
use Rattle.arc_rule.specs.Extents.{Extent}
use Rattle.arc_rule.specs.Places.{number}
use Rattle.arc_rule.specs.Plans.{Reading, step_or}
use Rattle.arc_plan.specs.Searches.{free_thing, IsTaking, after_look}
use Rattle.arc_side.specs.declared.claim.ClaimAnswer.{ClaimAnswer}
use Rattle.arc_side.specs.declared.claim.ClaimAnswer.TheVariants.{Entry, NoEntry, Again}
use Rattle.arc_side.specs.declared.claim.Claiming.{Claiming}
use Rattle.arc_side.specs.declared.claim.Claiming.TheVariants.{Start, Looking, Taking, Linking, Ended}

-- the taking of an entry for the object in a slot
pub record EntryClaim : Type 0 where
  pub layout : Extent
  pub slot : ℕ
  pub at : Claiming

abbrev pub InEntries : Extent → Claiming → Type 0
InEntries l Start = ⊤
InEntries l (Looking word) = word < words_of l.entries
InEntries l (Taking e seen) = IsTaking l.entries e seen
InEntries l (Linking e) = e < l.entries
InEntries l Ended = ⊤

pub record IsClaim (layout : Extent) (slot : ℕ) (at : Claiming) : Type 0 where
  pub of_slot : slot < layout.slots
  pub in_entries : InEntries layout at

-- nothing is given at first, and then the word of each step
abbrev pub claiming_takes : Claiming → Option ℕ → Type 0
claiming_takes Start last = last ≡ None
claiming_takes (Looking word) last = last ≢ None
claiming_takes (Taking e seen) last = last ≢ None
claiming_takes (Linking e) last = last ≢ None
claiming_takes Ended last = ⊥

abbrev pub claim_takes : EntryClaim → Option ℕ → Type 0
claim_takes p last = claiming_takes p.at last

-- the words of the bits in turn, until one has a clear bit; then that bit is set, and where it was clear still, the link is stored
abbrev pub claiming_turned : ℕ → Claiming → ℕ → Claiming
claiming_turned entries Start w = Looking 0
claiming_turned entries (Looking word) w = after_look entries (λ e. Taking e w) Looking Ended word (free_thing entries word w)
claiming_turned entries (Taking e seen) w = if bit_and w (bit_of e) == 0 then Linking e else Ended
claiming_turned entries (Linking e) w = Ended
claiming_turned entries Ended w = Ended

abbrev pub claim_turned : EntryClaim → Option ℕ → EntryClaim
claim_turned p last = record p { at = claiming_turned p.layout.entries p.at (unwrap_or last 0) }

-- the word that has the entry's bit
abbrev pub bits_place_of : Extent → ℕ → ℕ
bits_place_of l e = number l (EntryBits (e / 64))

abbrev pub claiming_asked : Extent → ℕ → Claiming → Option Step
claiming_asked l slot Start = None
claiming_asked l slot (Looking word) = Some (Load (number l (EntryBits word)))
claiming_asked l slot (Taking e seen) = Some (Or (bits_place_of l e) (bit_of e))
claiming_asked l slot (Linking e) = Some (Store (number l (Link e)) (suc slot))
claiming_asked l slot Ended = None

abbrev pub claim_asked : EntryClaim → Option Step
claim_asked p = claiming_asked p.layout p.slot p.at

-- NoEntry once each word has shown that its entries are taken; Again with the two words where another took the entry in the meantime
abbrev pub claiming_end : Claiming → ℕ → ClaimAnswer
claiming_end Start w = NoEntry
claiming_end (Looking word) w = NoEntry
claiming_end (Taking e seen) w = Again (record { seen = seen; found = w })
claiming_end (Linking e) w = Entry e
claiming_end Ended w = NoEntry

abbrev pub claim_answer : EntryClaim → Option ℕ → Next ClaimAnswer
claim_answer p last = step_or (claim_asked (claim_turned p last)) (claiming_end p.at (unwrap_or last 0))

-- at most the words of the bits, and two more
abbrev pub claiming_left : ℕ → Claiming → ℕ
claiming_left entries Start = words_of entries + 2
claiming_left entries (Looking word) = words_of entries + 1 - word
claiming_left entries (Taking e seen) = 1
claiming_left entries (Linking e) = 0
claiming_left entries Ended = 0

abbrev pub claim_left : EntryClaim → ℕ
claim_left p = claiming_left p.layout.entries p.at

-- the word in which the bit was clear, until the bit is set
abbrev pub claiming_rests : Extent → Claiming → Option Reading
claiming_rests l (Taking e seen) = Some (record { place = bits_place_of l e; word = seen })
claiming_rests l _ = None

abbrev pub claim_rests : EntryClaim → Option Reading
claim_rests p = claiming_rests p.layout p.at

abbrev pub claim_change : ClaimAnswer → Option Changed
claim_change (Again c) = Some c
claim_change _ = None
