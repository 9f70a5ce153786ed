-- A strong hand through a pass's steps: it stands in the strong list of its object, which is what it was.
use Rattle.std.proofs.Common.{◌≡◌, inl, ℕ, [], ◌∷◌, ◌++◌, Option, Some, refl, sym, ap, ◌∙◌, subst}
use Rattle.std.specs.Prelude.{slice_get}
use Rattle.arc_model.specs.declared.event.Act.{Act}
use Rattle.arc_model.specs.declared.event.Act.TheVariants as acts
use Rattle.arc_model.specs.declared.event.Event.{Event}
use Rattle.arc_model.specs.declared.event.Origin.TheVariants as origins
use Rattle.arc_model.specs.declared.shape.Kind.TheVariants as kinds
use Rattle.arc_model.specs.Shapes.{HeapShape}
use Rattle.arc_model.specs.Heaps.{Hand, Object, Heap}
use Rattle.arc_model.specs.History.{History, heap_after, share, next_hand, IsLegal}
use Rattle.arc_model.specs.Lookup.{Spot, spot}
use Rattle.arc_model.proofs.Basics.{Some-inj, in-not_empty}
use Rattle.arc_model.proofs.Others.{others_leave}
use Rattle.arc_model.proofs.Own.{own_gains}
use Rattle.arc_rule.specs.declared.step.Step.{Step}
use Rattle.arc_rule.specs.declared.step.Intent.{Intent}
use Rattle.arc_view.specs.declared.view.View.{View}
use Rattle.arc_view.specs.Holding.{At, heap_of}
use Rattle.arc_view.specs.Kinds.{act_of, event_list, working_after}
use Rattle.arc_view.specs.Steps.{Told}
use Rattle.arc_view.specs.Calls.{Grew}
use Rattle.arc_view.proofs.Held.{Held, held_stays, hand_listed, stays_after, strong≢weak}
use Rattle.arc_view_laws.specs.Having.{StandsAs}
use Rattle.arc_table.specs.Calls.{GoesOn}
use Rattle.arc_table.proofs.Making.{next_none}
use Rattle.arc_table.proofs.TwoSteps.{two_steps}

module _ (shape : HeapShape) (k : ℕ) (v0 : View) (i : ℕ) (o0 : Object) where
  -- hand k stands in the strong list of object i, which is what it was
  pub record Holding (v : View) : Type 0 where
    pub number : v.number ≡ v0.number
    pub working : v.working ≡ v0.working
    pub o : Object
    pub hand : spot (Hand v.number k) (heap_of v) ≡ Some (record { place = i; kind = kinds.Strong })
    pub here : At (heap_of v) i o
    pub entry : (e : ℕ) → o0.entry ≡ Some e → o.entry ≡ Some e
    pub slot : o.slot ≡ o0.slot
    pub is_class : o.class ≡ o0.class

  -- it does after other passes' events
  module _ (v : View) (between : History) (legal : IsLegal shape (between ++ v.seen)) (others : share between v.number ≡ []) (g : Holding v) where
    abbrev later : Heap
    later = heap_after (between ++ v.seen)

    pub held_later : Held kinds.Strong i g.o later
    held_later = held_stays shape v.number k i kinds.Strong g.o v.seen between legal others g.hand g.here

    pub hand_later : spot (Hand v.number k) later ≡ Some (record { place = i; kind = kinds.Strong })
    hand_later = (others_leave shape v.number v.seen between legal others).hands k ∙ g.hand

    pub holds_on : (w : View) → w.number ≡ v.number → w.working ≡ v.working → heap_of w ≡ later → Holding w
    holds_on w number works heap_is = let held = held_later in record {
      number = number ∙ g.number;
      working = works ∙ g.working;
      o = held.q;
      hand = (λ j. spot (Hand (number j) k) (heap_is j)) ∙ hand_later;
      here = ap (λ (m : Heap). slice_get m.objects i) heap_is ∙ held.here;
      entry = λ e is. held.entry e (g.entry e is);
      slot = held.slot strong≢weak ∙ g.slot;
      is_class = held.class ∙ g.is_class;
    }

  -- from where it stands
  module _ (hand0 : spot (Hand v0.number k) (heap_of v0) ≡ Some (record { place = i; kind = kinds.Strong })) (here0 : At (heap_of v0) i o0) where
    pub holds_first : Holding v0
    holds_first = record { number = refl; working = refl; o = o0; hand = hand0; here = here0; entry = λ e is. is; slot = refl; is_class = refl }

    -- a strong hand of an object in that slot and of that class is what hand k was
    pub stands_as : (w : View) (n : ℕ) (q : Object) → spot (Hand w.number n) (heap_of w) ≡ Some (record { place = i; kind = kinds.Strong }) → At (heap_of w) i q → q.slot ≡ o0.slot → q.class ≡ o0.class → StandsAs v0 k w n
    stands_as w n q hand here slot is_class s class stood =
        let place : i ≡ stood.0 = ap (λ (t : Spot). t.place) (Some-inj (sym hand0 ∙ stood.2)) in
        let same : o0 ≡ stood.1 = Some-inj (sym here0 ∙ (ap (λ n. slice_get (heap_of v0).objects n) place ∙ stood.3)) in
        (i, q, hand, here, slot ∙ (ap (λ (r : Object). r.slot) same ∙ stood.4), is_class ∙ (ap (λ (r : Object). r.class) same ∙ stood.5))

    abbrev copy : Option Act
    copy = Some (acts.Copy (origins.Hand k) (next_hand v0.number v0.seen))

    -- A step that shows a copy of it: the pass has one more hand, which stands as it does.
    pub copied : (intent : Intent) (st : Step) (x : ℕ) (v w : View) → Holding v → Grew [] 1 v0 v → Told shape intent st v x w → act_of shape v st intent x ≡ Some (acts.Copy (origins.Hand k) (next_hand v.number v.seen))
        → working_after shape v st intent x ≡ v.working → StandsAs v0 k w (next_hand v0.number v0.seen) × GoesOn shape copy 2 v0 w
    copied intent st x v w g grew t act_is works =
        let p = v.number in
        let n = next_hand v.number v.seen in
        let e : Event = record { thread = p; act = acts.Copy (origins.Hand k) n } in
        let h = t.between ++ v.seen in
        let seen_is : w.seen ≡ e ∷ h = ap (λ (u : View). u.seen) t.after ∙ ap (λ b. event_list p b ++ h) act_is in
        let legal : IsLegal shape (e ∷ h) = subst (IsLegal shape) seen_is t.legal in
        let held = held_later v t.between legal.1 t.others g in
        let hand = hand_later v t.between legal.1 t.others g in
        let q = stays_after shape e h legal i held.q held.here in
        let busy = in-not_empty (Hand p k) held.q.strong (hand_listed shape h p k i kinds.Strong held.q legal.1 hand held.here) in
        let next_is : n ≡ next_hand v0.number v0.seen = next_none 1 v0 v grew in
        let w_is : w.number ≡ p = ap (λ (u : View). u.number) t.after in
        let came : spot (Hand w.number n) (heap_of w) ≡ Some (record { place = i; kind = kinds.Strong }) = (λ j. spot (Hand (w_is j) n) (heap_after (seen_is j))) ∙ (own_gains shape h e n legal refl ∙ hand) in (
          subst (λ m. StandsAs v0 k w m) next_is
              (stands_as w n q.q came (ap (λ l. slice_get (heap_after l).objects i) seen_is ∙ q.here) (q.slot (inl busy) ∙ (held.slot strong≢weak ∙ g.slot)) (q.class ∙ (held.class ∙ g.is_class))),
          two_steps shape intent st copy x v0 v w grew g.working refl t (act_is ∙ ap (λ m. Some (acts.Copy (origins.Hand k) m)) next_is) works,
        )
