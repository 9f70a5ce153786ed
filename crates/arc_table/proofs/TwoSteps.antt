-- A call of two steps: one that showed no event, and one more right after, where that one is an exchange for what a load gave too.
use Rattle.std.proofs.Common.{◌≡◌, ◌≢◌, ℕ, [], ◌∷◌, ◌++◌, length, Option, None, Some, refl, sym, ap, ◌∙◌, subst}
use Rattle.arc_model.specs.declared.event.Act.{Act}
use Rattle.arc_model.specs.Shapes.{HeapShape}
use Rattle.arc_rule.specs.declared.step.Step.{Step}
use Rattle.arc_rule.specs.declared.step.Step.TheVariants.{Load, Exchange}
use Rattle.arc_rule.specs.declared.step.Intent.{Intent}
use Rattle.arc_view.specs.declared.view.Mark.{Mark}
use Rattle.arc_view.specs.declared.view.View.{View}
use Rattle.arc_view.specs.Views.{made_in}
use Rattle.arc_view.specs.Kinds.{act_of, working_after}
use Rattle.arc_view.specs.Steps.{Told}
use Rattle.arc_view.specs.Calls.{Grew}
use Rattle.arc_table.specs.Causes.{ReadTwice}
use Rattle.arc_table.specs.Calls.{act_list, works_after, GoesOn}
use Rattle.arc_view_laws.proofs.Counted.{told_alone}
use Rattle.arc_view_laws.proofs.Growing.{acts_of, told_grew}
use Rattle.arc_table.proofs.Making.{grew_on}

grew_two : (a : Option Act) (v0 v w : View) → Grew [] 1 v0 v → Grew (acts_of a) 1 v w → Grew (act_list a) 2 v0 w
grew_two None v0 v w first second = grew_on [] [] 1 1 v0 v w first second
grew_two (Some a) v0 v w first second = grew_on [] (a ∷ []) 1 1 v0 v w first second

-- the call is one of what the second step shows, where neither changes what is under way
pub two_steps : (shape : HeapShape) (intent : Intent) (st : Step) (a : Option Act) (x : ℕ) (v0 v w : View) → Grew [] 1 v0 v → v.working ≡ v0.working → works_after shape a v0.working ≡ v0.working
    → Told shape intent st v x w → act_of shape v st intent x ≡ a → working_after shape v st intent x ≡ v.working → GoesOn shape a 2 v0 w
two_steps shape intent st a x v0 v w first works leaves told act_is keeps = record {
  called = record { grew = grew_two a v0 v w first (subst (λ b. Grew (acts_of b) 1 v w) act_is (told_grew shape intent st v x w told)); legal = told.legal; in_shape = told.in_shape };
  working = ap (λ (u : View). u.working) told.after ∙ (keeps ∙ (works ∙ sym leaves));
  alone = told_alone shape intent st v x w told;
}

-- an exchange right after the load that found another word
pub reads_twice : (shape : HeapShape) (intent : Intent) (place seen new found : ℕ) (v0 v w : View) (first : Mark) → v.trail ≡ first ∷ v0.trail → first.step ≡ Load place → first.found ≡ seen
    → Told shape intent (Exchange place seen new) v found w → found ≢ seen → ReadTwice place (record { seen = seen; found = found }) v0 w
reads_twice shape intent place seen new found v0 v w first trail loads first_found told differ =
    let h = told.between ++ v.seen in
    let second : Mark = record { step = Exchange place seen new; found = found; length = length h; made = made_in v.number h } in record {
      first = first;
      second = second;
      before = [];
      new = new;
      trail = ap (λ (u : View). u.trail) told.after ∙ ap (λ ms. second ∷ ms) trail;
      loads = loads;
      seen = first_found;
      exchanges = refl;
      found = refl;
      differ = λ e. differ (sym e);
    }
