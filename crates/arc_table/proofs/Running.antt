-- The loop of a plan on the shared heap.
use Rattle.std.proofs.Common.{◌≡◌, ℕ, [], ◌∷◌, ◌++◌, length, Option, Some, None, refl, sym, ap, ◌∙◌, subst, append_assoc}
use Rattle.arc_model.specs.Shapes.{HeapShape}
use Rattle.arc_rule.specs.declared.step.Step.{Step}
use Rattle.arc_rule.specs.declared.step.Intent.{Intent}
use Rattle.arc_rule.specs.declared.plan.Next.{Next}
use Rattle.arc_rule.specs.declared.plan.Next.TheVariants as nexts
use Rattle.arc_view.specs.declared.view.Mark.{Mark}
use Rattle.arc_view.specs.declared.view.View.{View}
use Rattle.arc_view.specs.Views.{made_in}
use Rattle.arc_view.specs.Admission.{Admits}
use Rattle.arc_view.specs.Steps.{Told}
use Rattle.arc_table.specs.Runs.{MayRun, Ran, Walked}
use Rattle.arc_table.specs.Runs.MayRun.{ends, steps_on}
use Rattle.arc_table.specs.Runs.Ran.{ended, stepped}

module _ {P A : Type 0} (takes : P → Option ℕ → Type 0) (turned : P → Option ℕ → P) (answer : P → Option ℕ → Next A) (shape : HeapShape) (intent : Intent) where
  -- what the plan has done so far, and that it may go on
  pub record IsUnderWay (start : P) (given : Option ℕ) (begun : View) (p : P) (last : Option ℕ) (v : View) : Type 0 where
    pub may : MayRun takes turned answer shape intent p last v
    pub so_far : (a : A) (w : View) → Ran turned answer shape intent p last v a w → Ran turned answer shape intent start given begun a w

  pub may_start : (p : P) (given : Option ℕ) (v : View) → MayRun takes turned answer shape intent p given v → IsUnderWay p given v p given v
  may_start p given v may = record { may = may; so_far = λ a w ran. ran }

  step≢done : {s : Step} {a : A} → nexts.Step s ≡ nexts.Done a → ⊥
  step≢done e = cc

  step_inj : {s t : Step} → Path (Next A) (nexts.Step s) (nexts.Step t) → s ≡ t
  step_inj e = cc

  -- the plan may be given what it is given
  pub may_take : (p : P) (last : Option ℕ) (v : View) → MayRun takes turned answer shape intent p last v → takes p last
  may_take p last v m = elim m [ ends a t e ↦ t | steps_on s t e allowed on ↦ t ]

  -- a step that it asks for is allowed
  pub may_step : (p : P) (last : Option ℕ) (v : View) (s : Step) → MayRun takes turned answer shape intent p last v → answer p last ≡ nexts.Step s → Admits shape v s intent
  may_step p last v s m is = elim m [
    | ends a t e ↦ absurd (step≢done (sym is ∙ e))
    | steps_on r t e allowed on ↦ subst (λ z. Admits shape v z intent) (step_inj (sym e ∙ is)) allowed
  ]

  -- after it the plan may go on
  pub goes_on : (start : P) (given : Option ℕ) (begun : View) (p : P) (last : Option ℕ) (v : View) (s : Step) (found : ℕ) (w : View) → IsUnderWay start given begun p last v → answer p last ≡ nexts.Step s → Told shape intent s v found w → IsUnderWay start given begun (turned p last) (Some found) w
  goes_on start given begun p last v s found w u is told = record {
    may = elim u.may [
      | ends a t e ↦ absurd (step≢done (sym is ∙ e))
      | steps_on r t e allowed on ↦ on found w (subst (λ z. Told shape intent z v found w) (step_inj (sym is ∙ e)) told)
    ];
    so_far = λ a z ran. u.so_far a z (stepped s found w is told ran);
  }

  -- the same, said of the plan as it is then
  pub goes_on_to : (start : P) (given : Option ℕ) (begun : View) (p : P) (last : Option ℕ) (v : View) (s : Step) (found : ℕ) (w : View) (q : P) → IsUnderWay start given begun p last v → nexts.Step s ≡ answer p last → q ≡ turned p last → Told shape intent s v found w → IsUnderWay start given begun q (Some found) w
  goes_on_to start given begun p last v s found w q u is next told = subst (λ (r : P). IsUnderWay start given begun r (Some found) w) (sym next) (goes_on start given begun p last v s found w u (sym is) told)

  pub comes_to : (start : P) (given : Option ℕ) (begun : View) (p : P) (last : Option ℕ) (v : View) (a : A) → IsUnderWay start given begun p last v → answer p last ≡ nexts.Done a → Ran turned answer shape intent start given begun a v
  comes_to start given begun p last v a u is = u.so_far a v (ended is refl)

  -- the steps of a run
  pub ran_walked : (p : P) (last : Option ℕ) (v : View) (a : A) (w : View) → Ran turned answer shape intent p last v a w → Walked v w
  ran_walked p last v a w (ended is same) = record { marks = []; trail = ap (λ (x : View). x.trail) same }
  ran_walked p last v a w (stepped s found u is told ran) =
      let more = ran_walked (turned p last) (Some found) u a w ran in
      let h = told.between ++ v.seen in
      let m : Mark = record { step = s; found = found; length = length h; made = made_in v.number h } in
      let one : u.trail ≡ m ∷ v.trail = ap (λ (x : View). x.trail) told.after in record {
        marks = more.marks ++ m ∷ [];
        trail = more.trail ∙ (ap (λ l. more.marks ++ l) one ∙ sym (append_assoc more.marks (m ∷ []) v.trail));
      }
