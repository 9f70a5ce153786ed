-- What a stepper may be given. So far counts lie in the inline word and below their caps.
use Rattle.std.specs.Prelude.{ℕ, true, false, ◌≡◌, ◌<◌, ◌^◌, Option, Some, None, ⊤}
use Rattle.std.specs.Option.{unwrap_or}
use Rattle.arc_bits.specs.declared.packing.Inline.{Inline}
use Rattle.arc_bits.specs.declared.packing.Word.{Word}
use Rattle.arc_bits.specs.declared.packing.Word.TheVariants.{Counts, Slow, Immortal}
use Rattle.arc_bits.specs.Words.{unpacked}
use Rattle.arc_model.specs.Shapes.{CapNumbers, HeapShape}
use Rattle.arc_model.specs.declared.shape.Kind.{Kind}
use Rattle.arc_model.specs.declared.shape.Kind.TheVariants.{Strong, Unowned, Weak}
use Rattle.arc_rule.specs.declared.plan.Next.{Next}
use Rattle.arc_rule.specs.declared.plan.Next.TheVariants as nexts
use Rattle.arc_rule.specs.declared.attempt.At.{At}
use Rattle.arc_rule.specs.declared.attempt.At.TheVariants as attempt
use Rattle.arc_plan.specs.Slots.{creation_takes, name_of_takes, vacate_takes}
use Rattle.arc_side.specs.declared.up.UpAnswer.{UpAnswer}
use Rattle.arc_side.specs.declared.up.UpAnswer.TheVariants as ups
use Rattle.arc_side.specs.Ups.{Rise, up_takes}
use Rattle.arc_side.specs.Downs.{down_takes}
use Rattle.arc_cells.specs.Begins.{begin_takes}
use Rattle.arc_cells.specs.Ends.{end_takes}
use Rattle.arc_cells.specs.Swaps.{swap_takes}
use Rattle.arc_cells.specs.declared.cascade.At.TheVariants as at
use Rattle.arc_cells.specs.declared.cascade.CascadeNext.{CascadeNext}
use Rattle.arc_cells.specs.declared.cascade.CascadeNext.TheVariants as says
use Rattle.arc_cells.specs.Cascades.{CascadeState, NamesClass, cascade_takes}
use Rattle.arc_ops.specs.Cells.{IsCellWord}
use Rattle.arc_ops.specs.Thread.{Thread}
use Rattle.arc_ops.specs.declared.gain.Gain.{Gain}
use Rattle.arc_ops.specs.declared.gain.Gain.TheVariants as gains
use Rattle.arc_ops.specs.declared.stepper.Doing.{Doing}
use Rattle.arc_ops.specs.declared.stepper.Doing.TheVariants.{Ready, Making, Gaining, Naming, Opening, Closing, Setting, Clearing, Dropping, Dying, Vacating, Ended}

-- a load alone finds that the object's deinit has begun
abbrev pub FindsDead : Gain → Type 0
FindsDead gains.Load = ⊤
FindsDead _ = ⊥

-- the list has room for one more
abbrev pub HasRoom : Gain → Kind → CapNumbers → Inline → Type 0
HasRoom gain Strong caps c = (c.deiniting ≡ true → FindsDead gain) × (c.deiniting ≡ false → c.strong_extra < caps.strong)
HasRoom gain Unowned caps c = c.unowned < caps.unowned
HasRoom gain Weak caps c = ⊥

-- counts with room for one more, or the word of an immortal object
abbrev pub IsGainWord : Gain → Kind → CapNumbers → Option Word → Type 0
IsGainWord gain list caps (Some (Counts c)) = HasRoom gain list caps c
IsGainWord gain list caps (Some Immortal) = ⊤
IsGainWord gain list caps _ = ⊥

-- a word that has no entry's number
abbrev pub IsInline : Option Word → Type 0
IsInline (Some (Slow e)) = ⊥
IsInline _ = ⊤

-- the count lies in the inline word, and a load of it gives such a word
abbrev pub IsInlineAt : (Option Word → Type 0) → (entry : Option ℕ) → At → ℕ → Type 0
IsInlineAt Fits (Some e) at w = ⊥
IsInlineAt Fits None attempt.Loading w = Fits (unpacked w)
IsInlineAt Fits None _ w = ⊤

abbrev pub gain_takes : Gain → Rise → Option ℕ → Type 0
gain_takes gain plan last = up_takes plan last × IsInlineAt (IsGainWord gain plan.list plan.caps) plan.entry plan.at (unwrap_or last 0)

-- a load of a cell gives a word that a cell may have
abbrev pub IsCellAt : (slots : ℕ) → At → ℕ → Type 0
IsCellAt slots attempt.Loading w = IsCellWord slots w
IsCellAt slots _ w = ⊤

-- Nothing at the start of a phase, and else what its plan may be given.
abbrev pub takes_at : HeapShape → Option ℕ → Doing → Type 0
takes_at shape last Ready = last ≡ None
takes_at shape last (Making to name plan) = creation_takes plan last
takes_at shape last (Gaining gain to from plan) = gain_takes gain plan last
takes_at shape last (Naming to held plan) = name_of_takes plan last × NamesClass shape last
takes_at shape last (Opening to cell plan) = begin_takes plan last × IsCellAt shape.slots plan.at (unwrap_or last 0)
takes_at shape last (Closing to cell held plan) = end_takes plan last
takes_at shape last (Setting from cell plan) = swap_takes plan last × IsCellAt shape.slots plan.at (unwrap_or last 0)
takes_at shape last (Clearing plan) = swap_takes plan last × IsCellAt shape.slots plan.at (unwrap_or last 0)
takes_at shape last (Dropping held plan) = down_takes plan last × IsInlineAt IsInline plan.entry plan.at (unwrap_or last 0)
takes_at shape last (Dying c) = cascade_takes c last
takes_at shape last (Vacating slot plan) = vacate_takes plan last
takes_at shape last Ended = ⊥

-- A thread's hands have numbers below 2 ^ 32. Its operations and globals bring few, and the fields of dying objects fewer than half of
-- these, since what is taken out of a field was put there by an operation before.
abbrev pub HasHandLeft : Thread → Type 0
HasHandLeft t = t.taken < 2 ^ 31

abbrev pub takes : Thread → Option ℕ → Type 0
takes t last = takes_at t.shape last t.doing × HasHandLeft t

-- what a gain answers then
abbrev pub IsGainAnswer : Gain → Next UpAnswer → Type 0
IsGainAnswer gain (nexts.Done ups.Dead) = FindsDead gain
IsGainAnswer gain (nexts.Done ups.AtCap) = ⊥
IsGainAnswer gain (nexts.Done ups.CountFull) = ⊥
IsGainAnswer gain _ = ⊤

-- a cascade that told a name goes on with nothing given
abbrev pub DiesAt : CascadeState → CascadeNext → Type 0
DiesAt c (says.Died name) = c.at ≡ at.Named name
DiesAt c _ = ⊤
