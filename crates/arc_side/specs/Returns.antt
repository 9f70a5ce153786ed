-- An entry that was claimed is given back.
use Rattle.std.specs.Prelude.{ℕ, ◌/◌, Option, ⊤}
use Rattle.arc_rule.specs.declared.layout.Place.TheVariants.{EntryBits}
use Rattle.arc_rule.specs.declared.step.Step.{Step}
use Rattle.arc_rule.specs.declared.step.Step.TheVariants.{And}
use Rattle.arc_rule.specs.declared.plan.Next.{Next}
use Rattle.arc_rule.specs.Bits.{but_bit_of}
use Rattle.arc_rule.specs.Extents.{Extent}
use Rattle.arc_rule.specs.Places.{number}
use Rattle.arc_plan.specs.declared.slots.Once.{Once}
use Rattle.arc_plan.specs.Slots.{once_takes, once_turned, once_answer, once_asked, once_left}

-- an entry is to be given back
pub record Return : Type 0 where
  pub layout : Extent
  pub entry : ℕ
  pub at : Once

-- the entry's bit is cleared
abbrev pub giving_back : Return → Step
giving_back p = And (number p.layout (EntryBits (p.entry / 64))) (but_bit_of p.entry)

abbrev pub give_back_takes : Return → Option ℕ → Type 0
give_back_takes p last = once_takes (λ w. ⊤) p.at last

abbrev pub give_back_turned : Return → Option ℕ → Return
give_back_turned p last = record p { at = once_turned p.at }

abbrev pub give_back_answer : Return → Option ℕ → Next (Unit {0})
give_back_answer p last = once_answer (giving_back p) tt p.at

abbrev pub give_back_asked : Return → Option Step
give_back_asked p = once_asked (giving_back p) p.at

abbrev pub give_back_left : Return → ℕ
give_back_left p = once_left p.at
