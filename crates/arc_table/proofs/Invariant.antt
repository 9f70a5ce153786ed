-- A plan that keeps an invariant may run, and its answer is as the invariant says.
use Rattle.std.proofs.Common.{◌≡◌, ℕ, zero, suc, ◌≤◌, ◌<◌, Option, None, Some, refl, sym, subst, arith}
use Rattle.arc_model.specs.Shapes.{HeapShape}
use Rattle.arc_rule.specs.declared.step.Step.{Step}
use Rattle.arc_rule.specs.declared.step.Intent.{Intent}
use Rattle.arc_rule.specs.declared.plan.Next.{Next}
use Rattle.arc_rule.specs.declared.plan.Next.TheVariants as nexts
use Rattle.arc_view.specs.declared.view.View.{View}
use Rattle.arc_view.specs.Admission.{Admits}
use Rattle.arc_view.specs.Steps.{Told}
use Rattle.arc_table.specs.Runs.{MayRun, Ran}
use Rattle.arc_table.specs.Runs.MayRun.{ends, steps_on}
use Rattle.arc_table.specs.Runs.Ran.{ended, stepped}

module _ {P A : Type 0} (takes : P → Option ℕ → Type 0) (turned : P → Option ℕ → P) (answer : P → Option ℕ → Next A) (shape : HeapShape) (intent : Intent) where
  -- Where the invariant I holds the plan takes what it is given; a step that it asks for is allowed, and keeps I and brings the plan nearer to its
  -- end whatever it finds; and an answer meets the claim C.
  pub record Keeps (I : P → Option ℕ → View → Type 0) (C : A → View → Type 0) (left : P → ℕ) : Type 0 where
    pub takes_it : (p : P) (last : Option ℕ) (v : View) → I p last v → takes p last
    pub steps_it : (p : P) (last : Option ℕ) (v : View) (s : Step) → I p last v → answer p last ≡ nexts.Step s →
        Admits shape v s intent × (left (turned p last) < left p) × ((found : ℕ) (w : View) → Told shape intent s v found w → I (turned p last) (Some found) w)
    pub ends_it : (p : P) (last : Option ℕ) (v : View) (a : A) → I p last v → answer p last ≡ nexts.Done a → C a v

  module _ (I : P → Option ℕ → View → Type 0) (C : A → View → Type 0) (left : P → ℕ) (k : Keeps I C left) where
    -- by the answer, where one step further is known
    may_by : (p : P) (last : Option ℕ) (v : View) → I p last v
        → ((found : ℕ) (w : View) → I (turned p last) (Some found) w → left (turned p last) < left p → MayRun takes turned answer shape intent (turned p last) (Some found) w)
        → (x : Next A) → answer p last ≡ x → MayRun takes turned answer shape intent p last v
    may_by p last v i on (nexts.Done a) is = ends a (k.takes_it p last v i) is
    may_by p last v i on (nexts.Step s) is = let t = k.steps_it p last v s i is in steps_on s (k.takes_it p last v i) is t.0 (λ found w told. on found w (t.2 found w told) t.1)

    may_within : (n : ℕ) (p : P) (last : Option ℕ) (v : View) → left p ≤ n → I p last v → MayRun takes turned answer shape intent p last v
    may_within zero p last v few i = may_by p last v i (λ found w j lt. absurd (omega (arith, lt, few))) (answer p last) refl
    may_within (suc n) p last v few i = may_by p last v i (λ found w j lt. may_within n (turned p last) (Some found) w (omega (arith, lt, few)) j) (answer p last) refl

    pub may_run : (p : P) (last : Option ℕ) (v : View) → I p last v → MayRun takes turned answer shape intent p last v
    may_run p last v i = may_within (left p) p last v (omega arith) i

    pub has_run : (p : P) (last : Option ℕ) (v : View) (a : A) (w : View) → Ran turned answer shape intent p last v a w → I p last v → C a w
    has_run p last v a w (ended is same) i = subst (C a) (sym same) (k.ends_it p last v a i is)
    has_run p last v a w (stepped s found u is told ran) i = has_run (turned p last) (Some found) u a w ran ((k.steps_it p last v s i is).2 found u told)

-- the same by the intent that is asked for, and the plan as it is started
module _ {P A : Type 0} (turned : P → Option ℕ → P) (answer : P → Option ℕ → Next A) (shape : HeapShape) (v : View) {asked intent : Intent} {started plan : P} (asks : asked ≡ intent) (starts : started ≡ plan) where
  pub may_asked : (takes : P → Option ℕ → Type 0) → MayRun takes turned answer shape intent plan None v → MayRun takes turned answer shape asked started None v
  may_asked takes may = subst (λ (t : Intent × P). MayRun takes turned answer shape t.0 t.1 None v) (λ j. (sym asks j, sym starts j)) may

  pub ran_asked : (a : A) (w : View) → Ran turned answer shape asked started None v a w → Ran turned answer shape intent plan None v a w
  ran_asked a w ran = subst (λ (t : Intent × P). Ran turned answer shape t.0 t.1 None v a w) (λ j. (asks j, starts j)) ran
