-- An attempt on one word, on the shared heap: it loads the word, and answers at once or exchanges the word for another.
use Rattle.std.proofs.Common.{◌≡◌, ◌≢◌, ℕ, ◌<◌, ◌==◌, cond, Option, Some, None, refl, sym, ap, ◌∙◌, subst, arith, eq-eqb, ne_eqb}
use Rattle.std.specs.Option.{unwrap_or}
use mathlib.Core.Logic.{dite}
use native.Mathlib.Decide.{ℕ_discrete}
use Rattle.arc_model.specs.Shapes.{HeapShape}
use Rattle.arc_model.proofs.Basics.{None≢Some}
use Rattle.arc_rule.specs.declared.step.Step.{Step}
use Rattle.arc_rule.specs.declared.step.Step.TheVariants.{Load, Exchange}
use Rattle.arc_rule.specs.declared.step.Changed.{Changed}
use Rattle.arc_rule.specs.declared.step.Intent.{Intent}
use Rattle.arc_rule.specs.declared.plan.Next.{Next}
use Rattle.arc_rule.specs.declared.plan.Next.TheVariants as nexts
use Rattle.arc_view.specs.declared.view.View.{View}
use Rattle.arc_view.specs.Admission.{Admits}
use Rattle.arc_view.specs.Steps.{Told}
use Rattle.arc_rule.specs.declared.attempt.At.{At as At'}
use Rattle.arc_rule.specs.declared.attempt.At.TheVariants as ats
use Rattle.arc_rule.specs.declared.attempt.Choice.{Choice}
use Rattle.arc_rule.specs.declared.attempt.Choice.TheVariants.{Tell, Write}
use Rattle.arc_rule.specs.Attempts.{takes_at, turned_at, exchanging, chosen, answer_at, left_at}
use Rattle.arc_table.specs.Runs.{MayRun, Ran}
use Rattle.arc_table.proofs.Invariant.{Keeps, may_run, has_run}

-- what a row says is one thing
pub tell_inj : {A : Type 0} {a b : A} → Path (Choice A) (Tell a) (Tell b) → a ≡ b
tell_inj e = cc

pub write_inj : {A : Type 0} {x y : ℕ} → Path (Choice A) (Write x) (Write y) → x ≡ y
write_inj e = cc

pub tell≢write : {A X : Type 0} {a : A} {x : ℕ} → Path (Choice A) (Tell a) (Write x) → X
tell≢write e = absurd (cc)

-- a plan that is such an attempt, by where it is
pub record IsAttempt {P A : Type 0} (takes : P → Option ℕ → Type 0) (turned : P → Option ℕ → P) (answer : P → Option ℕ → Next A) (place : ℕ) (Fits : ℕ → Type 0) (row : ℕ → Choice A) (after : ℕ → A) (again : Changed → A) (plan : At' → P) (left : P → ℕ) : Type 0 where
  pub takes_it : (m : At') (last : Option ℕ) → takes_at Fits m last → takes (plan m) last
  pub turns : (m : At') (last : Option ℕ) → turned (plan m) last ≡ plan (turned_at row m (unwrap_or last 0))
  pub answers : (m : At') (last : Option ℕ) → answer (plan m) last ≡ answer_at row after again place m (unwrap_or last 0)
  pub is_left : (m : At') → left (plan m) ≡ left_at m

module _ {P A : Type 0} (takes : P → Option ℕ → Type 0) (turned : P → Option ℕ → P) (answer : P → Option ℕ → Next A) (shape : HeapShape) (intent : Intent) (place : ℕ) (Fits : ℕ → Type 0) (row : ℕ → Choice A) (after : ℕ → A) (again : Changed → A) (plan : At' → P) (left : P → ℕ)
    (attempt : IsAttempt takes turned answer place Fits row after again plan left) (v0 : View) (Looked : ℕ → View → Type 0) where
  -- The load is allowed, and leads to what was looked at; an exchange that the row asks for is allowed then.
  pub record MayTry : Type 0 where
    pub looks : Admits shape v0 (Load place) intent
    pub looked : (x : ℕ) (v : View) → Told shape intent (Load place) v0 x v → Looked x v
    pub fits : (x : ℕ) (v : View) → Looked x v → Fits x
    pub swaps : (x new : ℕ) (v : View) → Looked x v → row x ≡ Write new → Admits shape v (Exchange place x new) intent

  -- an exchange for the word that was loaded found a word
  pub record Tried (seen new found : ℕ) (w : View) : Type 0 where
    pub v : View
    pub l : Looked seen v
    pub is : row seen ≡ Write new
    pub told : Told shape intent (Exchange place seen new) v found w

  module _ (C : A → View → Type 0) where
    -- each answer meets the claim
    pub record Comes : Type 0 where
      pub tells : (x : ℕ) (v : View) (a : A) → Looked x v → row x ≡ Tell a → C a v
      pub hits : (seen new : ℕ) (w : View) → Tried seen new seen w → C (after seen) w
      pub misses : (seen new found : ℕ) (w : View) → Tried seen new found w → found ≢ seen → C (again (record { seen = seen; found = found })) w

    module _ (may : MayTry) (comes : Comes) where
      abbrev IsAt : At' → Option ℕ → View → Type 0
      IsAt ats.Start last v = (last ≡ None) × (v ≡ v0)
      IsAt ats.Loading None v = ⊥
      IsAt ats.Loading (Some x) v = Looked x v
      IsAt (ats.Exchanging seen new) None v = ⊥
      IsAt (ats.Exchanging seen new) (Some f) v = Tried seen new f v
      IsAt ats.Ended last v = ⊥

      abbrev Is : P → Option ℕ → View → Type 0
      Is p last v = (m : At') × (p ≡ plan m) × IsAt m last v

      takes_there : (m : At') (last : Option ℕ) (v : View) → IsAt m last v → takes_at Fits m last
      takes_there ats.Start last v i = i.0
      takes_there ats.Loading None v i = absurd (i)
      takes_there ats.Loading (Some x) v l = may.fits x v l
      takes_there (ats.Exchanging seen new) None v i = absurd (i)
      takes_there (ats.Exchanging seen new) (Some f) v i = λ e. None≢Some f (sym e)
      takes_there ats.Ended last v i = absurd (i)

      step_inj : {a b : Step} → Path (Next A) (nexts.Step a) (nexts.Step b) → a ≡ b
      step_inj e = cc

      done_inj : {a b : A} → Path (Next A) (nexts.Done a) (nexts.Done b) → a ≡ b
      done_inj e = cc

      done≢step : {X : Type 0} {a : A} {b : Step} → Path (Next A) (nexts.Done a) (nexts.Step b) → X
      done≢step e = absurd (cc)

      step≢done : {X : Type 0} {a : A} {b : Step} → Path (Next A) (nexts.Step b) (nexts.Done a) → X
      step≢done e = absurd (cc)

      abbrev Stepping : At' → View → At' → Step → Type 0
      Stepping m v n a = Admits shape v a intent × (left_at n < left_at m) × ((found : ℕ) (w : View) → Told shape intent a v found w → IsAt n (Some found) w)

      -- after the load
      after_look : (x : ℕ) (v : View) (a : Step) → Looked x v → (r : Choice A) → row x ≡ r → chosen place x r ≡ nexts.Step a → Stepping ats.Loading v (exchanging x r) a
      after_look x v a l (Tell b) is e = done≢step e
      after_look x v a l (Write new) is e = subst (Stepping ats.Loading v (ats.Exchanging x new)) (step_inj e) (may.swaps x new v l is, omega arith, λ found w told. record { v = v; l = l; is = is; told = told })

      look_ends : (x : ℕ) (v : View) (a : A) → Looked x v → (r : Choice A) → row x ≡ r → chosen place x r ≡ nexts.Done a → C a v
      look_ends x v a l (Tell b) is e = subst (λ d. C d v) (done_inj e) (comes.tells x v b l is)
      look_ends x v a l (Write new) is e = step≢done e

      -- after the exchange
      swap_ends : (seen new f : ℕ) (v : View) → Tried seen new f v → C (cond (f == seen) (after seen) (again (record { seen = seen; found = f }))) v
      swap_ends seen new f v t = dite (ℕ_discrete f seen)
          (λ e. subst (λ b. C (cond b (after seen) (again (record { seen = seen; found = f }))) v) (sym (eq-eqb f seen e)) (comes.hits seen new v (subst (λ g. Tried seen new g v) e t)))
          (λ ne. subst (λ b. C (cond b (after seen) (again (record { seen = seen; found = f }))) v) (sym (ne_eqb f seen ne)) (comes.misses seen new f v t ne))

      steps_at : (m : At') (last : Option ℕ) (v : View) (a : Step) → IsAt m last v → answer_at row after again place m (unwrap_or last 0) ≡ nexts.Step a → Stepping m v (turned_at row m (unwrap_or last 0)) a
      steps_at ats.Start last v a i is = subst (λ u. Stepping ats.Start u ats.Loading a) (sym i.1) (subst (Stepping ats.Start v0 ats.Loading) (step_inj is) (may.looks, omega arith, may.looked))
      steps_at ats.Loading None v a i is = absurd (i)
      steps_at ats.Loading (Some x) v a l is = after_look x v a l (row x) refl is
      steps_at (ats.Exchanging seen new) None v a i is = absurd (i)
      steps_at (ats.Exchanging seen new) (Some f) v a i is = done≢step is
      steps_at ats.Ended last v a i is = absurd (i)

      ends_at : (m : At') (last : Option ℕ) (v : View) (a : A) → IsAt m last v → answer_at row after again place m (unwrap_or last 0) ≡ nexts.Done a → C a v
      ends_at ats.Start last v a i is = step≢done is
      ends_at ats.Loading None v a i is = absurd (i)
      ends_at ats.Loading (Some x) v a l is = look_ends x v a l (row x) refl is
      ends_at (ats.Exchanging seen new) None v a i is = absurd (i)
      ends_at (ats.Exchanging seen new) (Some f) v a i is = subst (λ b. C b v) (done_inj is) (swap_ends seen new f v i)
      ends_at ats.Ended last v a i is = absurd (i)

      attempt_keeps : Keeps takes turned answer shape intent Is C left
      attempt_keeps = record {
        takes_it = λ p last v i. subst (λ q. takes q last) (sym i.1) (attempt.takes_it i.0 last (takes_there i.0 last v i.2));
        steps_it = λ p last v a i is.
            let t = steps_at i.0 last v a i.2 (sym (attempt.answers i.0 last) ∙ (sym (ap (λ q. answer q last) i.1) ∙ is)) in
            let next : turned p last ≡ plan (turned_at row i.0 (unwrap_or last 0)) = ap (λ q. turned q last) i.1 ∙ attempt.turns i.0 last in (
              t.0,
              subst (λ (n : ℕ × ℕ). n.0 < n.1) (λ j. (sym (ap left next ∙ attempt.is_left (turned_at row i.0 (unwrap_or last 0))) j, sym (ap left i.1 ∙ attempt.is_left i.0) j)) t.1,
              λ found w told. (turned_at row i.0 (unwrap_or last 0), next, t.2 found w told),
            );
        ends_it = λ p last v a i is. ends_at i.0 last v a i.2 (sym (attempt.answers i.0 last) ∙ (sym (ap (λ q. answer q last) i.1) ∙ is));
      }

      pub may_attempt : MayRun takes turned answer shape intent (plan ats.Start) None v0
      may_attempt = may_run takes turned answer shape intent Is C left attempt_keeps (plan ats.Start) None v0 (ats.Start, refl, (refl, refl))

      pub has_attempted : (a : A) (w : View) → Ran turned answer shape intent (plan ats.Start) None v0 a w → C a w
      has_attempted a w ran = has_run takes turned answer shape intent Is C left attempt_keeps (plan ats.Start) None v0 a w ran (ats.Start, refl, (refl, refl))
