-- An access to a cell ends: the word that it had goes back.
use Rattle.std.specs.Prelude.{ℕ, Option, ⊤}
use Rattle.arc_rule.specs.declared.step.Step.{Step}
use Rattle.arc_rule.specs.declared.step.Step.TheVariants.{Store}
use Rattle.arc_rule.specs.declared.plan.Next.{Next}
use Rattle.arc_rule.specs.Extents.{Extent}
use Rattle.arc_plan.specs.declared.slots.Once.{Once}
use Rattle.arc_plan.specs.Slots.{once_takes, once_turned, once_answer, once_asked, once_left}

-- a word is to be stored at the place of a cell
pub record AccessEnd : Type 0 where
  pub layout : Extent
  pub place : ℕ
  pub value : ℕ
  pub at : Once

abbrev pub ending : AccessEnd → Step
ending p = Store p.place p.value

abbrev pub end_takes : AccessEnd → Option ℕ → Type 0
end_takes p last = once_takes (λ w. ⊤) p.at last

abbrev pub end_turned : AccessEnd → Option ℕ → AccessEnd
end_turned p last = record p { at = once_turned p.at }

abbrev pub end_answer : AccessEnd → Option ℕ → Next (Unit {0})
end_answer p last = once_answer (ending p) tt p.at

abbrev pub end_asked : AccessEnd → Option Step
end_asked p = once_asked (ending p) p.at

abbrev pub end_left : AccessEnd → ℕ
end_left p = once_left p.at
