-- A plan that was given a word.
use Rattle.std.proofs.Common.{◌≡◌, ℕ, true, false, List, ◌∷◌, Option, Some, None, refl, sym, subst}
use Rattle.std.proofs.lemmas.Option.{same_Some}
use Rattle.arc_rule.specs.declared.plan.Next.{Next}
use Rattle.arc_rule.specs.declared.plan.Next.TheVariants as nexts
use Rattle.arc_rule.specs.declared.step.Step.{Step}
use Rattle.arc_schedule.specs.Made.{Point, Made, made_at}
use Rattle.arc_schedule.specs.Plans.{Plan, Reaches, Starts, Gives}
use Rattle.arc_schedule.specs.Plans.Reaches.{starts as reaches_start, makes as reaches_next}
use Rattle.arc_schedule.specs.Plans.Starts.{again}

-- the plan asks for this step, or gives this answer, and is p then
pub record Gave {P A : Type 0} (plan : Plan P A) (point : Point) (b now : List Made) (n : Next A) (p : P) : Type 0 where
  pub started : List Made
  pub starts : Starts plan point b started
  pub before : P
  pub last : Option ℕ
  pub reaches : Reaches plan point started before last now
  pub answers : plan.answer before last ≡ n
  pub turned : plan.turned before last ≡ p

-- it waits for the word of the step that was asked for
pub record Waits {P A : Type 0} (plan : Plan P A) (point : Point) (b now : List Made) (p : P) (asked : Option Step) : Type 0 where
  pub step : Step
  pub gave : Gave plan point b now (nexts.Step step) p
  pub asked_is : asked ≡ Some step

pub waits : {P A : Type 0} (plan : Plan P A) (point : Point) (b now : List Made) (p : P) (step : Step) → Gave plan point b now (nexts.Step step) p → Waits plan point b now p (Some step)
waits plan point b now p step g = record { step = step; gave = g; asked_is = refl }

pub begun-from : {P A : Type 0} (plan : Plan P A) (point : Point) (b now : List Made) (p : P) → Starts plan point b now → plan.start ≡ p → Gave plan point b now (plan.answer p None) (plan.turned p None)
begun-from plan point b now p s e =
    let Q : _ → Type 0 = λ x. Gave plan point b now (plan.answer x None) (plan.turned x None) in
    subst Q e (record { started = now; starts = s; before = plan.start; last = None; reaches = reaches_start; answers = refl; turned = refl })

pub given : {P A : Type 0} (plan : Plan P A) (point : Point) (b now : List Made) (p : P) (s : Step) (found : ℕ) → Waits plan point b now p (Some s) →
    Gave plan point b (made_at point s found (plan.tells p found) ∷ now) (plan.answer p (Some found)) (plan.turned p (Some found))
given {P = P} plan point b now p s found w =
    let same : s ≡ w.step = same_Some s w.step w.asked_is in
    let r : Reaches plan point w.gave.started (plan.turned w.gave.before w.gave.last) (Some found) (made_at point w.step found (plan.tells (plan.turned w.gave.before w.gave.last) found) ∷ now) = reaches_next w.gave.reaches w.gave.answers in
    let Q : P → Type 0 = λ (x : P). Reaches plan point w.gave.started x (Some found) (made_at point w.step found (plan.tells x found) ∷ now) in
    let R : Step → Type 0 = λ (x : Step). Reaches plan point w.gave.started p (Some found) (made_at point x found (plan.tells p found) ∷ now) in
    record { started = w.gave.started; starts = w.gave.starts; before = p; last = Some found; reaches = subst R (sym same) (subst Q w.gave.turned r); answers = refl; turned = refl }

pub gives : {P A : Type 0} (plan : Plan P A) (point : Point) (b now : List Made) (p : P) (a : A) → plan.anew a ≡ false → Gave plan point b now (nexts.Done a) p → Gives plan point b a now
gives plan point b now p a e g = record { started = g.started; starts = g.starts; answers = record { at = g.before; last = g.last; reaches = g.reaches; answers = g.answers }; ends = e }

pub starts-again : {P A : Type 0} (plan : Plan P A) (point : Point) (b now : List Made) (p : P) (a : A) → plan.anew a ≡ true → Gave plan point b now (nexts.Done a) p → Starts plan point b now
starts-again plan point b now p a e g = again g.starts (record { at = g.before; last = g.last; reaches = g.reaches; answers = g.answers }) e
