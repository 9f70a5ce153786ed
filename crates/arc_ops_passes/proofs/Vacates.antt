-- A stepper that owes the vacating of a slot, behind the last unowned reference: it clears the slot's bit.
use Rattle.std.proofs.Common.{◌≡◌, ℕ, ◌/◌, [], ◌∷◌, ◌++◌, Some, None, refl, sym, ap, ◌∙◌, subst, arith}
use Rattle.arc_model.specs.declared.event.Act.{Act}
use Rattle.arc_model.specs.declared.event.Act.TheVariants as acts
use Rattle.arc_model.specs.Heaps.{Vacating}
use Rattle.arc_model.specs.History.{History}
use Rattle.arc_spelling.specs.SpellingTies.Causes.{Judged}
use Rattle.arc_rule.specs.Places.{extent_of, number}
use Rattle.arc_rule.specs.Bits.{but_bit_of}
use Rattle.arc_rule.specs.declared.layout.Place.TheVariants.{SlotBits}
use Rattle.arc_rule.specs.declared.step.Step.{Step}
use Rattle.arc_rule.specs.declared.step.Step.TheVariants.{And}
use Rattle.arc_rule.specs.declared.step.Intent.{Intent}
use Rattle.arc_rule.specs.declared.step.Intent.TheVariants as intents
use Rattle.arc_plan.specs.declared.slots.Once.{Once}
use Rattle.arc_plan.specs.declared.slots.Once.TheVariants as once
use Rattle.arc_plan.specs.Slots.{OneStep}
use Rattle.arc_ops.specs.declared.stepper.Doing.{Doing}
use Rattle.arc_ops.specs.declared.stepper.Doing.TheVariants as doings
use Rattle.arc_ops.specs.declared.stepper.Move.TheVariants as moves
use Rattle.arc_ops.specs.Thread.{Thread}
use Rattle.arc_ops.specs.Begins.{next_op}
use Rattle.arc_ops.specs.Turns.{turned_at}
use Rattle.arc_spelled.specs.StepperStands.{Work}
use Rattle.arc_view.specs.declared.view.Working.{Working}
use Rattle.arc_view.specs.declared.view.View.{View}
use Rattle.arc_view.specs.Views.{idle}
use Rattle.arc_view.specs.Kinds.{act_of}
use Rattle.arc_view.specs.Admission.{Admits}
use Rattle.arc_view.specs.Steps.{Told}
use Rattle.arc_view.specs.Calls.{Called}
use Rattle.arc_ops_passes.specs.References.{references, LeadsTo, Owns}
use Rattle.arc_ops_passes.specs.Drives.{IsDue, OwesNothing, OwesAll, vacating_due}
use Rattle.arc_ops_passes.proofs.Dues.{all_of_one, none_of_all}
use Rattle.arc_ops_passes.proofs.DuesOn.{acted, vacated}
use Rattle.arc_ops_passes.proofs.FallEnds.{vacate_allowed, vacate_act, vacate_works}
use Rattle.arc_ops_passes.proofs.Fields.{AllHold}
use Rattle.arc_ops_passes.proofs.Walks.{next_walks}
use Rattle.arc_ops_passes.proofs.Goes.{quiet, Facts, Comes, knows_none, told_by, fresh_under, fresh_coming, classed_on, claims_on, owns_on, nothing_shown, once_asked}

abbrev pub vacating : Work → ℕ → Once → Doing
vacating w s a = doings.Vacating s (record { layout = extent_of w.shape; slot = s; at = a })

module _ (w : Work) (t : Thread) (v : View) (s : ℕ) (f : Facts w t v (vacating w s once.Asked)) where
  abbrev Clear : Step
  Clear = And (number (extent_of w.shape) (SlotBits (s / 64))) (but_bit_of s)

  owes : OwesAll w.shape v (vacating_due s ∷ [])
  owes = all_of_one w.shape v Vacating s f.under_way.1

  its : IsDue w.shape v (vacating_due s)
  its = owes.just.0

  free : v.working.owes ≡ None
  free = ap (λ (x : Working). x.owes) f.under_way.0

  clears_allowed : Admits w.shape v Clear intents.Vacate
  clears_allowed = vacate_allowed w.shape v s f.in_shape its free

  module _ (found : ℕ) (v' : View) (told : Told w.shape intents.Vacate Clear v found v') where
    abbrev met : History
    met = told.between ++ v.seen

    abbrev left : Act
    left = acts.Vacate s

    act_is : act_of w.shape v Clear intents.Vacate found ≡ Some left
    act_is = vacate_act w.shape v s f.in_shape its free found

    called : Called w.shape (left ∷ []) 1 v v'
    called = told_by w.shape intents.Vacate Clear v found v' (Some left) act_is told

    none_left : OwesNothing v'
    none_left = none_of_all w.shape v' (vacated w.shape v v' s [] f.sized (acted w.shape intents.Vacate Clear v found v' left act_is told) tt owes)

    works : v'.working ≡ idle
    works = ap (λ (x : View). x.working) told.after ∙ (vacate_works w.shape v s f.in_shape its free found ∙ f.under_way.0)

    abbrev q : Thread
    q = record (quiet t) { event = Some left }

    vacates : Comes w t v Clear intents.Vacate found v' met (vacating w s once.Asked) (next_op q)
    vacates =
        let u : Thread = next_op q in
        let walk = next_walks w (LeadsTo v') q f.is_for f.fit (classed_on w.shape 1 left w.classes v v' t.vars called (λ x held e. refl) f.classed) in record {
          takes_it = tt;
          event = act_is ∙ sym walk.event;
          holds = subst (λ e. AllHold Judged w.shape (extent_of w.shape) (Some (Clear, intents.Vacate)) (Some found) w.thread e None met) (sym walk.event)
              (nothing_shown w.shape f.sized (extent_of w.shape) Clear intents.Vacate found w.thread (Some left) met tt tt);
          knows = knows_none v';
          count = walk.count ∙ f.count;
          owns = subst (λ n. Owns v' n (references u.vars u.hands u.doing)) (sym walk.hands)
              (owns_on w.shape 1 left v v' t.hands (references t.vars t.hands (vacating w s once.Asked)) (references u.vars u.hands u.doing) called (λ k. refl) refl f.owns (λ g. let e = walk.same g in omega arith));
          classed = walk.classed;
          coming = fresh_coming w.classes v' u.doing walk.fresh;
          no_claim = claims_on w.shape 1 left v v' called (λ m n. refl) f.no_claim;
          asks = walk.asks;
          under_way = fresh_under w.shape v' u.doing walk.fresh works none_left;
        }

-- ---- by where the plan is

pub vacating_allowed : (w : Work) (t : Thread) (v : View) (s : ℕ) (plan : OneStep) (step : Step) (intent : Intent) → Facts w t v (doings.Vacating s plan) → t.asked ≡ moves.Step step intent → Admits w.shape v step intent
vacating_allowed w t v s plan step intent f asked =
    once_asked t.asked (And (number (extent_of w.shape) (SlotBits (s / 64))) (but_bit_of s)) intents.Vacate (λ a x. Facts w t v (vacating w s a) → Admits w.shape v x.0 x.1) step intent asked
    (λ g. clears_allowed w t v s g) plan.at f.asks.1 (subst (λ (p : OneStep). Facts w t v (doings.Vacating s p)) f.asks.0 f)

pub vacating_comes : (w : Work) (t : Thread) (v : View) (s : ℕ) (plan : OneStep) (step : Step) (intent : Intent) (found : ℕ) (v' : View) → Facts w t v (doings.Vacating s plan) → t.asked ≡ moves.Step step intent
    → (told : Told w.shape intent step v found v') → Comes w t v step intent found v' (told.between ++ v.seen) (doings.Vacating s plan) (turned_at (Some found) (doings.Vacating s plan) (quiet t))
vacating_comes w t v s plan step intent found v' f asked =
    subst (λ (p : OneStep). (told : Told w.shape intent step v found v') → Comes w t v step intent found v' (told.between ++ v.seen) (doings.Vacating s p) (turned_at (Some found) (doings.Vacating s p) (quiet t))) (sym f.asks.0)
    (once_asked t.asked (And (number (extent_of w.shape) (SlotBits (s / 64))) (but_bit_of s)) intents.Vacate Case step intent asked
    (λ g. vacates w t v s g found v') plan.at f.asks.1
    (subst (λ (p : OneStep). Facts w t v (doings.Vacating s p)) f.asks.0 f))
  where
    Case : Once → Step × Intent → Type 0
    Case a x = Facts w t v (vacating w s a) → (told : Told w.shape x.1 x.0 v found v') → Comes w t v x.0 x.1 found v' (told.between ++ v.seen) (vacating w s a) (turned_at (Some found) (vacating w s a) (quiet t))
