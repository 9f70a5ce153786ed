-- A strong hand of an object in a slot, and a load of the slot's inline word that shows no event.
use Rattle.std.proofs.Common.{◌≡◌, ◌≢◌, inl, ℕ, ◌<◌, true, false, [], ◌∷◌, ◌++◌, length, None, Some, refl, sym, ap, ◌∙◌, subst}
use Rattle.arc_model.specs.declared.shape.Kind.TheVariants as kinds
use Rattle.arc_model.specs.Shapes.{HeapShape, class_at}
use Rattle.arc_model.specs.Cells.{is_immortal}
use Rattle.arc_model.specs.Heaps.{Hand, Object}
use Rattle.arc_model.specs.History.{heap_after, IsLegal}
use Rattle.arc_model.specs.Lookup.{spot}
use Rattle.arc_model.proofs.Basics.{true≢false}
use Rattle.arc_rule.specs.declared.layout.Place.TheVariants.{Count}
use Rattle.arc_rule.specs.declared.step.Step.{Step}
use Rattle.arc_rule.specs.declared.step.Step.TheVariants.{Load}
use Rattle.arc_rule.specs.declared.step.Intent.{Intent}
use Rattle.arc_rule.specs.Places.{extent_of, number}
use Rattle.arc_rule.specs.Shown.{Says}
use Rattle.arc_view.specs.declared.view.Mark.{Mark}
use Rattle.arc_view.specs.declared.view.View.{View}
use Rattle.arc_view.specs.Views.{made_in}
use Rattle.arc_view.specs.Holding.{At, heap_of}
use Rattle.arc_view.specs.Rule.{InShape, IsSized}
use Rattle.arc_view.specs.Kinds.{act_of, event_list, working_after}
use Rattle.arc_view.specs.Admission.{KnowsSlot}
use Rattle.arc_view.specs.Steps.{Told}
use Rattle.arc_view.specs.Calls.{Grew}
use Rattle.arc_view.proofs.Held.{strong≢weak}
use Rattle.arc_view_laws.specs.Strangers.{SeesNoStranger}
use Rattle.arc_view_laws.specs.Having.{IsStrongOf, StandsAs}
use Rattle.arc_view_laws.proofs.Counted.{told_alone}
use Rattle.arc_view_laws.proofs.Growing.{acts_of, told_grew}
use Rattle.arc_view_laws.proofs.Kept.{strong_one}
use Rattle.arc_view_laws.proofs.StrongWords.{ShowsStrong, shows_strong}
use Rattle.arc_table.specs.Calls.{GoesOn}
use Rattle.arc_table.specs.Causes.{HasEntry, IsMortal, IsLookOfImmortal}
use Rattle.arc_table.proofs.HeldHand.{Holding, holds_first, holds_on, stands_as}
use Rattle.arc_table.proofs.Lasting.{mortal}

module _ (shape : HeapShape) (k s : ℕ) (v0 : View) (sized : IsSized shape) (lt : s < shape.slots) (i : ℕ) (o0 : Object)
    (hand0 : spot (Hand v0.number k) (heap_of v0) ≡ Some (record { place = i; kind = kinds.Strong })) (here0 : At (heap_of v0) i o0) (slot0 : o0.slot ≡ Some s) where
  abbrev look : Step
  look = Load (number (extent_of shape) (Count s))

  abbrev Holds : View → Type 0
  Holds v = Holding shape k v0 i o0 v

  -- what the hand was
  stood : IsStrongOf v0 k s o0.class
  stood = (i, o0, hand0, here0, slot0, refl)

  pub knows_slot : (v : View) → Holds v → KnowsSlot v s
  knows_slot v g = (i, g.o, g.here, g.slot ∙ slot0, inl (k, kinds.Strong, g.hand, strong≢weak))

  -- after the load the hand stands where it stood, and the word shows its object, which isn't immortal
  pub record Looked (x : ℕ) (v : View) : Type 0 where
    pub grew : Grew [] 1 v0 v
    pub legal : IsLegal shape v.seen
    pub in_shape : InShape shape v.seen
    pub holding : Holds v
    pub shows : ShowsStrong shape holding.o x
    pub mortal : is_immortal shape o0 ≡ false
    pub mark : Mark
    pub trail : v.trail ≡ mark ∷ v0.trail
    pub step : mark.step ≡ look
    pub found : mark.found ≡ x
    pub alone : SeesNoStranger v

  pub looked : (intent : Intent) (x : ℕ) (v : View) → x ≢ 1 → act_of shape v0 look intent x ≡ None → working_after shape v0 look intent x ≡ v0.working → Told shape intent look v0 x v → Looked x v
  looked intent x v other none works t =
      let h = t.between ++ v0.seen in
      let seen : v.seen ≡ h = ap (λ (u : View). u.seen) t.after ∙ ap (λ a. event_list v0.number a ++ h) none in
      let g = holds_on shape k v0 i o0 v0 t.between (subst (IsLegal shape) seen t.legal) t.others (holds_first shape k v0 i o0 hand0 here0) v (ap (λ (u : View). u.number) t.after) (ap (λ (u : View). u.working) t.after ∙ works) (ap heap_after seen) in
      let says : Says shape (heap_of v) (Count s) x = subst (λ l. Says shape (heap_after l) (Count s) x) (sym seen) ((t.read (Count s) tt lt refl).says (λ u. u)) in record {
        grew = subst (λ a. Grew (acts_of a) 1 v0 v) none (told_grew shape intent look v0 x v t);
        legal = t.legal;
        in_shape = t.in_shape;
        holding = g;
        shows = shows_strong shape v.seen v.number k i s x g.o sized t.legal t.in_shape g.hand g.here (g.slot ∙ slot0) says;
        mortal = ap (λ c. (class_at shape c).immortal) (sym g.is_class) ∙ mortal shape v.seen i s x g.o t.legal g.here (g.slot ∙ slot0) says other;
        mark = record { step = look; found = x; length = length h; made = made_in v0.number h };
        trail = ap (λ (u : View). u.trail) t.after;
        step = refl;
        found = refl;
        alone = told_alone shape intent look v0 x v t;
      }

  pub not_forever : {X : Type 0} (x : ℕ) (v : View) (l : Looked x v) → is_immortal shape l.holding.o ≡ true → X
  not_forever x v l lasts = absurd (true≢false (sym lasts ∙ (ap (λ c. (class_at shape c).immortal) l.holding.is_class ∙ l.mortal)))

  -- after the load alone
  pub look_goes_on : (x : ℕ) (w : View) → Looked x w → GoesOn shape None 1 v0 w
  look_goes_on x w l = record { called = record { grew = l.grew; legal = l.legal; in_shape = l.in_shape }; working = l.holding.working; alone = l.alone }

  pub look_stands : (x : ℕ) (w : View) → Looked x w → StandsAs v0 k w k
  look_stands x w l = let g = l.holding in stands_as shape k v0 i o0 hand0 here0 w k g.o g.hand g.here g.slot g.is_class

  pub look_has : (x e : ℕ) (w : View) (l : Looked x w) → l.holding.o.entry ≡ Some e → HasEntry w k e
  look_has x e w l entry = let g = l.holding in (i, g.o, g.hand, g.here, entry)

  pub is_mortal : (x : ℕ) (w : View) → Looked x w → IsMortal shape v0 k s
  is_mortal x w l class strong = ap (λ c. (class_at shape c).immortal) (strong_one v0 k s s class o0.class strong stood).1 ∙ l.mortal

  -- what is looked at once only
  pub dies : (x : ℕ) (u w : View) → Looked x u → IsLookOfImmortal shape k s v0 w
  dies x u w l class strong lasts = absurd (true≢false (sym lasts ∙ is_mortal x u l class strong))
