-- A stepper while objects die, by where the deinit is.
use Rattle.std.proofs.Common.{◌≡◌, ℕ, ◌++◌, Option, Some, sym, subst}
use Rattle.arc_model.specs.declared.event.Act.{Act}
use Rattle.arc_rule.specs.Places.{extent_of, number}
use Rattle.arc_rule.specs.declared.layout.Place.TheVariants.{Isa, Next, Field}
use Rattle.arc_rule.specs.declared.step.Step.{Step}
use Rattle.arc_rule.specs.declared.step.Step.TheVariants.{Load, Store}
use Rattle.arc_rule.specs.declared.step.Intent.{Intent}
use Rattle.arc_rule.specs.declared.step.Intent.TheVariants as intents
use Rattle.arc_cells.specs.declared.cascade.At.{At as CascadeAt}
use Rattle.arc_cells.specs.declared.cascade.At.TheVariants as ats
use Rattle.arc_cells.specs.Cascades.{CascadeState}
use Rattle.arc_cells.specs.Chains.{next_word_of, parent_of}
use Rattle.arc_deinits.specs.Stands.{ChainFits, chained}
use Rattle.arc_ops.specs.declared.stepper.Doing.TheVariants as doings
use Rattle.arc_ops.specs.declared.stepper.Move.TheVariants as moves
use Rattle.arc_ops.specs.Thread.{Thread}
use Rattle.arc_ops.specs.Takes.{HasHandLeft}
use Rattle.arc_ops.specs.Turns.{turned_at}
use Rattle.arc_spelled.specs.StepperStands.{Work}
use Rattle.arc_view.specs.declared.view.View.{View}
use Rattle.arc_view.specs.Admission.{Admits}
use Rattle.arc_view.specs.Steps.{Told}
use Rattle.arc_ops_passes.specs.Laws.{IsServedWord}
use Rattle.arc_ops_passes.proofs.Goes.{quiet, Facts, ComesUnder, as_asked}
use Rattle.arc_ops_passes.proofs.Deinits.{state}
use Rattle.arc_ops_passes.proofs.Enters.{enter_allowed, enter_comes, name_allowed, name_comes}
use Rattle.arc_ops_passes.proofs.Looks.{look_allowed, look_comes}
use Rattle.arc_ops_passes.proofs.Takes.{take_allowed, take_comes}
use Rattle.arc_ops_passes.proofs.Falls.{falls_allowed, falls_come}
use Rattle.arc_ops_passes.proofs.Climbs.{ends_allowed, ends_comes, resumes_allowed, resumes_fits, resumes_comes}
use Rattle.arc_ops_passes.proofs.Dies.{leaves_allowed, leaves_fits, leaves_comes, finishes_allowed, finishes_comes}

module _ (w : Work) (t : Thread) (v : View) (step : Step) (intent : Intent) (asked : t.asked ≡ moves.Step step intent) where
  -- ---- the step is one that the rule allows

  abbrev IsAllowed : CascadeState → Type 0
  IsAllowed c = Facts w t v (doings.Dying c) → Admits w.shape v step intent

  may : (other : Step) (its : Intent) → t.asked ≡ moves.Step other its → Admits w.shape v other its → Admits w.shape v step intent
  may other its ask = as_asked t.asked (λ x. Admits w.shape v x.0 x.1) step other intent its ask asked

  allowed_at : (s : ℕ) (n : ℕ × ℕ) (e : Option Act) (a : CascadeAt) → IsAllowed (state w s n a e)
  allowed_at s n e ats.Start f = absurd f.asks.1
  allowed_at s n e ats.Entering f = may (Store (number (extent_of w.shape) (Next s)) (next_word_of (parent_of f.chain))) (intents.Deinit s) f.asks.1 (enter_allowed w t v s n e f)
  allowed_at s n e ats.Naming f = may (Load (number (extent_of w.shape) (Isa s))) (intents.Deinit s) f.asks.1 (name_allowed w t v s n e f)
  allowed_at s n e (ats.Named name) f = absurd f.asks.1
  allowed_at s n e (ats.Looking name g) f = may (Load (number (extent_of w.shape) (Field s g))) (intents.Deinit s) f.asks.1 (look_allowed w t v s n name g e f)
  allowed_at s n e (ats.Taking name g place) f = may (Store (number (extent_of w.shape) (Field s g)) 0) (intents.Deinit s) f.asks.1 (take_allowed w t v s n name g place e f)
  allowed_at s n e (ats.Dropping name g d) f = falls_allowed w t v s n e name g d step intent f asked
  allowed_at s n e ats.Leaving f = may (Load (number (extent_of w.shape) (Next s))) (intents.Deinit s) f.asks.1 (leaves_allowed w t v s n e f)
  allowed_at s n e (ats.Finishing parent p) f = finishes_allowed w t v s n e parent p f step intent asked
  allowed_at s n e (ats.Ending parent p) f = ends_allowed w t v s n e parent p f step intent asked
  allowed_at s n e (ats.Resuming g) f = may (Load (number (extent_of w.shape) (Isa s))) (intents.Deinit s) f.asks.1 (resumes_allowed w t v s n g e f)
  allowed_at s n e ats.Ended f = absurd f.asks.1

  pub dies_allowed : (c : CascadeState) → Facts w t v (doings.Dying c) → Admits w.shape v step intent
  dies_allowed c f = subst IsAllowed (sym f.asks.0) (allowed_at c.slot (c.before, c.taken) c.event c.at) f

  -- ---- what is read of the chain is what the chain is

  module _ (found : ℕ) (v' : View) where
    abbrev Fits : CascadeState → Type 0
    Fits c = (f : Facts w t v (doings.Dying c)) → Told w.shape intent step v found v' → ChainFits c f.chain (Some found)

    fits_at : (s : ℕ) (n : ℕ × ℕ) (e : Option Act) (a : CascadeAt) → Fits (state w s n a e)
    fits_at s n e ats.Start f told = tt
    fits_at s n e ats.Entering f told = tt
    fits_at s n e ats.Naming f told = tt
    fits_at s n e (ats.Named name) f told = tt
    fits_at s n e (ats.Looking name g) f told = tt
    fits_at s n e (ats.Taking name g place) f told = tt
    fits_at s n e (ats.Dropping name g d) f told = tt
    fits_at s n e ats.Leaving f told = as_asked t.asked (λ x. Told w.shape x.1 x.0 v found v' → ChainFits (state w s n ats.Leaving e) f.chain (Some found)) step (Load (number (extent_of w.shape) (Next s))) intent (intents.Deinit s) f.asks.1 asked
        (leaves_fits w t v s n e f found v') told
    fits_at s n e (ats.Finishing parent p) f told = tt
    fits_at s n e (ats.Ending parent p) f told = tt
    fits_at s n e (ats.Resuming g) f told = as_asked t.asked (λ x. Told w.shape x.1 x.0 v found v' → ChainFits (state w s n (ats.Resuming g) e) f.chain (Some found)) step (Load (number (extent_of w.shape) (Isa s))) intent (intents.Deinit s) f.asks.1 asked
        (resumes_fits w t v s n g e f found v') told
    fits_at s n e ats.Ended f told = tt

    pub dies_fit : (c : CascadeState) (f : Facts w t v (doings.Dying c)) → Told w.shape intent step v found v' → ChainFits c f.chain (Some found)
    dies_fit c f = subst Fits (sym f.asks.0) (fits_at c.slot (c.before, c.taken) c.event c.at) f

  -- ---- what it leaves

  module _ (left : HasHandLeft t) (found : ℕ) (v' : View) where
    abbrev Leaves : (c : CascadeState) → Facts w t v (doings.Dying c) → Step × Intent → Type 0
    Leaves c f x = IsServedWord w.shape x.0 x.1 found → (told : Told w.shape x.1 x.0 v found v')
        → ComesUnder (chained c (Some found) f.chain) w t v x.0 x.1 found v' (told.between ++ v.seen) (doings.Dying c) (turned_at (Some found) (doings.Dying c) (quiet t))

    leaves : (c : CascadeState) (f : Facts w t v (doings.Dying c)) (other : Step) (its : Intent) → t.asked ≡ moves.Step other its → Leaves c f (other, its) → Leaves c f (step, intent)
    leaves c f other its ask = as_asked t.asked (Leaves c f) step other intent its ask asked

    leaves_at : (s : ℕ) (n : ℕ × ℕ) (e : Option Act) (a : CascadeAt) (f : Facts w t v (doings.Dying (state w s n a e))) → Leaves (state w s n a e) f (step, intent)
    leaves_at s n e ats.Start f = absurd f.asks.1
    leaves_at s n e ats.Entering f = leaves (state w s n ats.Entering e) f (Store (number (extent_of w.shape) (Next s)) (next_word_of (parent_of f.chain))) (intents.Deinit s) f.asks.1 (λ word. enter_comes w t v s n e f found v')
    leaves_at s n e ats.Naming f = leaves (state w s n ats.Naming e) f (Load (number (extent_of w.shape) (Isa s))) (intents.Deinit s) f.asks.1 (λ word. name_comes w t v s n e f found v')
    leaves_at s n e (ats.Named name) f = absurd f.asks.1
    leaves_at s n e (ats.Looking name g) f = leaves (state w s n (ats.Looking name g) e) f (Load (number (extent_of w.shape) (Field s g))) (intents.Deinit s) f.asks.1 (λ word. look_comes w t v s n name g e f found v')
    leaves_at s n e (ats.Taking name g place) f = leaves (state w s n (ats.Taking name g place) e) f (Store (number (extent_of w.shape) (Field s g)) 0) (intents.Deinit s) f.asks.1 (λ word. take_comes w t v s n name g place e f left found v')
    leaves_at s n e (ats.Dropping name g d) f = falls_come w t v s n e name g d step intent f asked found v'
    leaves_at s n e ats.Leaving f = leaves (state w s n ats.Leaving e) f (Load (number (extent_of w.shape) (Next s))) (intents.Deinit s) f.asks.1 (λ word. leaves_comes w t v s n e f found v')
    leaves_at s n e (ats.Finishing parent p) f = λ word told. finishes_comes w t v s n e parent p f step intent asked found v' told word
    leaves_at s n e (ats.Ending parent p) f = λ word. ends_comes w t v s n e parent p f step intent asked found v'
    leaves_at s n e (ats.Resuming g) f = leaves (state w s n (ats.Resuming g) e) f (Load (number (extent_of w.shape) (Isa s))) (intents.Deinit s) f.asks.1 (λ word. resumes_comes w t v s n g e f found v')
    leaves_at s n e ats.Ended f = absurd f.asks.1

    pub dies_come : (c : CascadeState) (f : Facts w t v (doings.Dying c)) → IsServedWord w.shape step intent found → (told : Told w.shape intent step v found v')
        → ComesUnder (chained c (Some found) f.chain) w t v step intent found v' (told.between ++ v.seen) (doings.Dying c) (turned_at (Some found) (doings.Dying c) (quiet t))
    dies_come c f = subst (λ (k : CascadeState). (x : Facts w t v (doings.Dying k)) → Leaves k x (step, intent)) (sym f.asks.0) (leaves_at c.slot (c.before, c.taken) c.event c.at) f
