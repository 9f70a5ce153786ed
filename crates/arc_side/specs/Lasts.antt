-- What the answer of one reference fewer rests on: an exchange of the count that was the last one.
use Rattle.std.specs.Prelude.{ℕ, ◌≡◌, ◌<◌, Option, Some, None, IfSome, ⊤}
use Rattle.arc_bits.specs.declared.packing.Inline.{Inline}
use Rattle.arc_bits.specs.declared.packing.Word.TheVariants.{Counts}
use Rattle.arc_bits.specs.Words.{unpacked}
use Rattle.arc_rule.specs.Extents.{Extent}
use Rattle.arc_rule.specs.Attempts.{asked_at}
use Rattle.arc_rule.specs.declared.attempt.At.TheVariants.{Exchanging}
use Rattle.arc_rule.specs.declared.plan.Next.{Next}
use Rattle.arc_rule.specs.declared.plan.Next.TheVariants as nexts
use Rattle.arc_side.specs.declared.down.DownAnswer.{DownAnswer}
use Rattle.arc_side.specs.declared.down.DownAnswer.TheVariants.{More, Last, Again}
use Rattle.arc_side.specs.Downs.{Fall, IsFall, down_place, down_takes, down_turned, down_answer}

-- the word counts where the object has no entry
abbrev pub CountsIn : Option ℕ → ℕ → Type 0
CountsIn None w = (c : Inline) × (unpacked w ≡ Some (Counts c))
CountsIn (Some e) w = ⊤

-- the exchange that was asked for found its word, the last count, in this entry or in the inline word
pub record IsLastIn (p : Fall) (last : Option ℕ) (entry : Option ℕ) : Type 0 where
  pub seen : ℕ
  pub new : ℕ
  pub exchanged : p.at ≡ Exchanging seen new
  pub found : last ≡ Some seen
  pub entry_is : p.entry ≡ entry
  pub counts : CountsIn entry seen

-- an answer or a step that is asked for, by the attempt before and after
abbrev pub DownSays : (p new : Fall) → (last : Option ℕ) → Next DownAnswer → Type 0
DownSays p new last (nexts.Step step) = asked_at (down_place new) new.at ≡ Some step
DownSays p new last (nexts.Done (Last entry)) = IsLastIn p last entry
DownSays p new last (nexts.Done (More entry)) = ⊤
DownSays p new last (nexts.Done (Again changed)) = ⊤

-- the same count of the same object
pub record IsSameFall (p new : Fall) : Type 0 where
  pub layout : new.layout ≡ p.layout
  pub slot : new.slot ≡ p.slot
  pub list : new.list ≡ p.list

-- the entry that the last reference was counted in is the layout's
abbrev pub LastInEntry : Extent → Next DownAnswer → Type 0
LastInEntry layout (nexts.Done (Last entry)) = IfSome entry (λ e. e < layout.entries)
LastInEntry layout (nexts.Done (More entry)) = ⊤
LastInEntry layout (nexts.Done (Again changed)) = ⊤
LastInEntry layout (nexts.Step step) = ⊤

-- Whatever it is given, one reference fewer waits for the step that it asks for; Last is told of the exchange of the last count, which is
-- in an entry of the layout or in the inline word.
pub record DownsTell : Type 0 where
  pub says : (p : Fall) (last : Option ℕ) → down_takes p last → DownSays p (down_turned p last) last (down_answer p last)
  pub same : (p : Fall) (last : Option ℕ) → IsSameFall p (down_turned p last)
  pub in_entry : (p : Fall) (last : Option ℕ) → IsFall p → down_takes p last → LastInEntry p.layout (down_answer p last)
