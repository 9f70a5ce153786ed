-- What is left in a quiet heap where strong fields lead one way and immortal objects have none: of the objects that have a slot, immortal ones alone.
use Rattle.std.proofs.Common.{◌≡◌, ℕ, zero, suc, ◌<◌, Bool, true, false, cond, List, [], ◌∷◌, Some, None, refl, sym, ap, ◌∙◌, arith}
use Rattle.std.specs.Prelude.{slice_get, find}
use Rattle.arc_model.specs.declared.shape.Kind.{Kind}
use Rattle.arc_model.specs.declared.shape.Kind.TheVariants.{Strong, Unowned}
use Rattle.arc_model.specs.declared.shape.RefShape.{RefShape}
use Rattle.arc_model.specs.Shapes.{HeapShape}
use Rattle.arc_model.specs.Heaps.{Field, Duty, Deinit, Vacating, Gone, Strongs, Unowneds, Forever, Object}
use Rattle.arc_model.specs.Holders.{is_empty, in_slot, is_duty, list_of}
use Rattle.arc_model.specs.Cells.{is_immortal, is_live, is_kind, field_shape}
use Rattle.arc_model.specs.History.{History, heap_after, IsLegal}
use Rattle.arc_model.specs.Lookup.{spot}
use Rattle.arc_model.specs.WellFormed.{IsWhole, stray, tally}
use Rattle.arc_model.specs.WellFormed.IsWhole.{live, deiniting, deinited, vacating, going, freed, dead}
use Rattle.arc_model.proofs.Basics.{None≢Some, Some-inj, true≢false}
use Rattle.arc_model.proofs.CellKinds.{cell_kinds_after}
use Rattle.arc_model.proofs.Courses.{well_formed}
use Rattle.arc_model.proofs.Others.{lookup_after}
use Rattle.arc_quiet.specs.OneWay.{StrongFieldsLeadOneWay, CellsKeepClasses}
use Rattle.arc_quiet.specs.Quiet.{IsQuietHeap}
use Rattle.arc_quiet.proofs.Chains.{no-duty, owner-of, first, own-unless, mortal-strong, live_is_held}
use Rattle.arc_view.proofs.Swapping.{named_kind}
use Rattle.arc_replays.specs.Left.{ImmortalsHaveNoFields}

module _ (shape : HeapShape) (h : History) (legal : IsLegal shape h) (bare : ImmortalsHaveNoFields shape) (ways : StrongFieldsLeadOneWay shape) (classes : CellsKeepClasses shape (heap_after h)) (quiet : IsQuietHeap (heap_after h)) where
  -- an immortal object has no field of any kind
  no_field : {A : Type 0} (o : Object) (f : ℕ) (k : Kind) → is_immortal shape o ≡ true → is_kind k (field_shape shape f (Some o)) ≡ true → A
  no_field o f k immortal is = absurd (true≢false (sym is ∙ ap (λ (fields : List RefShape). is_kind k (slice_get fields f)) (bare o.class immortal)))

  -- no mortal object of a class below n is live: it would be held by a strong field of a live object of an earlier class
  none_live : {A : Type 0} (n i : ℕ) (o : Object) → slice_get (heap_after h).objects i ≡ Some o → o.class < n → is_live shape o ≡ true → is_immortal shape o ≡ false → A
  none_live zero i o here below alive mortal = absurd (omega (arith, below))
  none_live (suc n) i o here below alive mortal =
      let w = live_is_held shape h i o legal quiet here alive mortal in
      let r = named_kind Strong (field_shape shape w.field (Some w.owner)) w.strong in
      let at = (lookup_after shape h (Field w.owner.id w.field) legal refl).only i o Strong here w.holds in
      let same = classes.fields w.place w.owner w.field r.0 (record { place = i; kind = Strong }) o w.here r.1 at here in
      let less = ways w.owner.class w.field r.0 r.1 r.2 in
      by w.owner w.field (is_immortal shape w.owner) refl w.strong (none_live n w.place w.owner w.here (omega (arith, below, same, less)) w.live)
    where
      by : {A : Type 0} (owner : Object) (field : ℕ) (b : Bool) → is_immortal shape owner ≡ b → is_kind Strong (field_shape shape field (Some owner)) ≡ true → (is_immortal shape owner ≡ false → A) → A
      by owner field true is strong rest = no_field owner field Strong is strong
      by owner field false is strong rest = rest is

  -- no list of an object has a holder but the extra ones
  unheld : {A : Type 0} (i : ℕ) (o : Object) (k : Kind) → slice_get (heap_after h).objects i ≡ Some o → is_empty (list_of k o) ≡ false → tally Strongs (list_of k o) ≡ 0 → tally Unowneds (list_of k o) ≡ 0 → tally Forever (list_of k o) ≡ 0 → A
  unheld {A = A} i o k here some a b c =
      let f = first (list_of k o) some in
      let own = own-unless f.holder (list_of k o) f.inside a b c in
      let at = (lookup_after shape h f.holder legal own).only i o k here f.inside in
      let w = owner-of shape h legal quiet f.holder (record { place = i; kind = k }) own at in
      let kind = (cell_kinds_after shape h legal).fields w.place w.owner w.field (record { place = i; kind = k }) w.here (ap (λ x. spot x (heap_after h)) (sym w.is) ∙ at) in
      by w.owner w.field (is_immortal shape w.owner) refl kind (none_live (suc w.owner.class) w.place w.owner w.here (omega arith) w.live)
    where
      by : (owner : Object) (field : ℕ) (b : Bool) → is_immortal shape owner ≡ b → is_kind k (field_shape shape field (Some owner)) ≡ true → (is_immortal shape owner ≡ false → A) → A
      by owner field true is kind rest = no_field owner field k is kind
      by owner field false is kind rest = rest is

  -- an object that has a slot is immortal
  pub slotted_immortal : (i s : ℕ) (o : Object) → slice_get (heap_after h).objects i ≡ Some o → o.slot ≡ Some s → is_immortal shape o ≡ true
  slotted_immortal i s o here slot = by (is_immortal shape o) refl
    where
      owing : {A : Type 0} (d : Duty) → is_duty d o.owed ≡ true → A
      owing d e = absurd (true≢false (sym e ∙ ap (is_duty d) (no-duty (heap_after h) quiet i o here)))

      no_slot : {A : Type 0} → o.slot ≡ None → A
      no_slot none = absurd (None≢Some s (sym none ∙ slot))

      strays : stray o ≡ 0
      strays = (well_formed shape h legal).none_strays i o here

      mortal_gone : {A : Type 0} → is_immortal shape o ≡ false → IsWhole shape o → A
      mortal_gone mortal (live s d l a b p) = let n = strays in unheld i o Strong here (sym (mortal-strong shape o mortal) ∙ s) (omega arith) (omega arith) (omega arith)
      mortal_gone mortal (deiniting s d l a b p) = owing Deinit d
      mortal_gone mortal (deinited s d l a u b p) = let n = strays in unheld i o Unowned here u a (omega arith) (omega arith)
      mortal_gone mortal (vacating s d l u b p) = owing Vacating d
      mortal_gone mortal (going s d l u b e) = owing Gone d
      mortal_gone mortal (freed s d l u b w e) = no_slot l
      mortal_gone mortal (dead s d l u w e) = no_slot l

      by : (b : Bool) → is_immortal shape o ≡ b → is_immortal shape o ≡ true
      by true is = is
      by false is = mortal_gone is ((well_formed shape h legal).whole i o here)

-- an object that is found in a slot is one of the heap
pub found_there : (s : ℕ) (os : List Object) (o : Object) → find (in_slot s) os ≡ Some o → (i : ℕ) × (slice_get os i ≡ Some o) × (in_slot s o ≡ true)
found_there s [] o e = absurd (None≢Some o e)
found_there s (q ∷ os) o e = go (in_slot s q) refl e (λ later. found_there s os o later)
  where
    go : (b : Bool) → in_slot s q ≡ b → cond b (Some q) (find (in_slot s) os) ≡ Some o → (find (in_slot s) os ≡ Some o → (i : ℕ) × (slice_get os i ≡ Some o) × (in_slot s o ≡ true)) → (i : ℕ) × (slice_get (q ∷ os) i ≡ Some o) × (in_slot s o ≡ true)
    go true is e further = let same = Some-inj e in (0, e, ap (in_slot s) (sym same) ∙ is)
    go false is e further = let r = further e in (suc r.0, r.1, r.2)
