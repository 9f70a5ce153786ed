-- A cell is exchanged: a hand of the pass, in a list of the cell's kind, or nil, is put in, and what was there comes into its hands.
use Rattle.std.proofs.Common.{◌≡◌, ◌≢◌, ◌⊎◌, inl, inr, ⊎_elim, ℕ, ◌+◌, ◌<◌, ◌≤◌, ◌==◌, not, Bool, true, false, cond, [], ◌∷◌, length, Option, Some, None, refl, sym, ap, ◌∙◌, subst, arith, eq-eqb, ne_eqb}
use Rattle.std.specs.Prelude.{slice_get, is_some, ◌^◌}
use Rattle.arc_model.specs.declared.event.Act.{Act}
use Rattle.arc_model.specs.declared.event.Act.TheVariants as acts
use Rattle.arc_model.specs.declared.event.CellName.{CellName}
use Rattle.arc_model.specs.declared.event.CellName.TheVariants as cells
use Rattle.arc_model.specs.declared.event.Event.{Event}
use Rattle.arc_model.specs.declared.event.Illegal.TheVariants.{WrongAnswer}
use Rattle.arc_model.specs.declared.event.ObjectId.{ObjectId}
use Rattle.arc_model.specs.declared.event.ObjectName.{ObjectName}
use Rattle.arc_model.specs.declared.shape.Kind.{Kind}
use Rattle.arc_model.specs.declared.shape.Kind.TheVariants as kinds
use Rattle.arc_model.specs.declared.shape.RefShape.{RefShape}
use Rattle.arc_model.specs.Shapes.{HeapShape}
use Rattle.arc_model.specs.Heaps.{Holder, Hand, Object, Heap}
use Rattle.arc_model.specs.Heaps as holders
use Rattle.arc_model.specs.Holders.{same_holder, is_in, kind_in, list_of, held_by, is_claimed_by}
use Rattle.arc_model.specs.Cells.{cell, is_nil, field_shape, cell_shape, is_kind, same_kind}
use Rattle.arc_model.specs.Effects.{taken_out}
use Rattle.arc_model.specs.Needs.{needs, passes, puts, takes, same_bool}
use Rattle.arc_model.specs.History.{History, heap_after, next_hand, sight, IsLegal}
use Rattle.arc_model.specs.Lookup.{Spot, spot, is_cell, hand_spot}
use Rattle.arc_model.specs.References.{reference_in, reference_of, reference_to, place_of}
use Rattle.arc_model.proofs.Basics.{None≢Some, Some-inj, in-strong}
use Rattle.arc_model.proofs.Tally.{no, same-refl}
use Rattle.arc_model.proofs.Stages.{live-facts}
use Rattle.arc_model.proofs.Courses.{well_formed}
use Rattle.arc_model.proofs.CellKinds.{cell_kinds_after}
use Rattle.arc_model.proofs.CellSpots.{cells_after}
use Rattle.arc_model.proofs.Others.{lookup_after}
use Rattle.arc_rule.specs.Places.{IsPlace, extent_of, number}
use Rattle.arc_rule.specs.declared.layout.Place.TheVariants as places
use Rattle.arc_rule.specs.Shown.{Says, cell_word}
use Rattle.arc_view.specs.declared.view.View.{View}
use Rattle.arc_view.specs.Views.{cell_place}
use Rattle.arc_view.specs.Holding.{At, HasHand, CanReach, Reaches, heap_of}
use Rattle.arc_view.specs.Admission.{IsPut}
use Rattle.arc_view.specs.Rule.{FitsCell, InShape}
use Rattle.arc_view.proofs.Held.{Held, strong≢weak}
use Rattle.arc_view.proofs.Keeps.{legal_left, reach_stays}
use Rattle.arc_view.proofs.Words.{slot_found}
use Rattle.arc_view.proofs.Within.{within_after}
use Rattle.arc_view.proofs.Advance.{Good}
use Rattle.arc_view.proofs.Bridge.{Before, next_same}
use Rattle.arc_view.proofs.Present.{hand_now}
use Rattle.arc_view.proofs.Classes.{names, names_stay, same_named, fits_cell, field_named, id_named, news_none}
use Rattle.arc_view.proofs.Own.{work_own}
use Rattle.arc_view.proofs.Strongs.{none_fails}
use Rattle.arc_view.proofs.Alike.{AreLike, HasCell, likes_both, likes_taken, likes_put, claims_taken, claims_put, get_like, this_side, place_like}
use Rattle.arc_view.proofs.AtCell.{cell_is, cell_own, reach_has, reach_met, stands_at, word_is, cell_shows, says_cell, field_shape_is, global_shape_is, cell_good}

kind_is : (k j : Kind) → same_kind k j ≡ true → k ≡ j
kind_is kinds.Strong kinds.Strong e = refl
kind_is kinds.Unowned kinds.Unowned e = refl
kind_is kinds.Weak kinds.Weak e = refl
kind_is kinds.Strong kinds.Unowned e = no e
kind_is kinds.Strong kinds.Weak e = no e
kind_is kinds.Unowned kinds.Strong e = no e
kind_is kinds.Unowned kinds.Weak e = no e
kind_is kinds.Weak kinds.Strong e = no e
kind_is kinds.Weak kinds.Unowned e = no e

pub named_kind : (k : Kind) (m : Option RefShape) → is_kind k m ≡ true → (r : RefShape) × (m ≡ Some r) × (r.kind ≡ k)
named_kind k None e = no e
named_kind k (Some r) e = (r, refl, kind_is r.kind k e)

-- a cell that the shape names strong stands in strong lists alone
pub cell_strong : (m : Option RefShape) (k : Kind) → is_kind kinds.Strong m ≡ true → is_kind k m ≡ true → k ≡ kinds.Strong
cell_strong None k e f = no e
cell_strong (Some r) k e f = sym (kind_is r.kind k f) ∙ kind_is r.kind kinds.Strong e

unowned≢weak : kinds.Unowned ≡ kinds.Weak → ⊥
unowned≢weak e = cc

same_kind_refl : (k : Kind) → same_kind k k ≡ true
same_kind_refl kinds.Strong = refl
same_kind_refl kinds.Unowned = refl
same_kind_refl kinds.Weak = refl

-- where the hand is put in, or nil
abbrev pub IsGiven : HeapShape → ℕ → History → CellName → Option ℕ → ℕ → Type 0
IsGiven shape p h c None w = w ≡ 0
IsGiven shape p h c (Some k) w = (kind : Kind) × (i : ℕ) × (o : Object) × (m : ℕ) × (r : RefShape) × (spot (Hand p k) (heap_after h) ≡ Some (record { place = i; kind = kind })) × At (heap_after h) i o
    × (cell_shape shape (heap_after h) c ≡ Some r) × (r.kind ≡ kind) × (o.class ≡ r.class) × (place_of kind o ≡ Some m) × (w ≡ m + 2)

strong_kind : (z : Holder) (o : Object) → is_in z o.strong ≡ true → kind_in z o ≡ kinds.Strong
strong_kind z o listed = ap (λ t. cond t kinds.Strong (cond (is_in z o.unowned) kinds.Unowned kinds.Weak)) listed

strong_reference : (z : Holder) (o : Object) (s : ℕ) → is_in z o.strong ≡ true → o.slot ≡ Some s → cell_word (reference_in z (Some o)) ≡ s + 2
strong_reference z o s listed slot = ap (λ k. cell_word (reference_to k (place_of k o))) (strong_kind z o listed) ∙ ap (λ m. cell_word (reference_to kinds.Strong m)) slot

slot_some : (m : Option ℕ) → is_some m ≡ true → (s : ℕ) × (m ≡ Some s)
slot_some None e = no e
slot_some (Some s) e = (s, refl)

-- the global leads to an object, and its word tells the object's slot
pub record LeadsTo (heap : Heap) (g x : ℕ) : Type 0 where
  pub place : ℕ
  pub object : Object
  pub slot : ℕ
  pub at : spot (holders.Global g) heap ≡ Some (record { place = place; kind = kinds.Strong })
  pub here : At heap place object
  pub found : held_by (holders.Global g) heap ≡ Some object
  pub listed : is_in (holders.Global g) object.strong ≡ true
  pub in_slot : object.slot ≡ Some slot
  pub word : x ≡ slot + 2

-- what the word of such a global shows
pub global_shows : (shape : HeapShape) (h : History) (g x : ℕ) → IsLegal shape h → is_kind kinds.Strong (slice_get shape.globals g) ≡ true → Says shape (heap_after h) (places.Global g) x
    → ((x ≡ 0) × (held_by (holders.Global g) (heap_after h) ≡ None)) ⊎ LeadsTo (heap_after h) g x
global_shows shape h g x legal strong says = by (spot (holders.Global g) (heap_after h)) refl
  where
    by : (m : Option Spot) → spot (holders.Global g) (heap_after h) ≡ m → ((x ≡ 0) × (held_by (holders.Global g) (heap_after h) ≡ None)) ⊎ LeadsTo (heap_after h) g x
    by None at =
        let none : held_by (holders.Global g) (heap_after h) ≡ None = (lookup_after shape h (holders.Global g) legal refl).nowhere at in
        inl (says ∙ ap (λ m. cell_word (reference_in (holders.Global g) m)) none, none)
    by (Some s) at =
        let l = (lookup_after shape h (holders.Global g) legal refl).there s at in
        let kind : s.kind ≡ kinds.Strong = cell_strong (slice_get shape.globals g) s.kind strong ((cell_kinds_after shape h legal).globals g s at) in
        let listed : is_in (holders.Global g) l.0.strong ≡ true = ap (λ k. is_in (holders.Global g) (list_of k l.0)) (sym kind) ∙ l.3 in
        let slot = slot_some l.0.slot (live-facts l.0 ((well_formed shape h legal).whole s.place l.0 l.1) (in-strong shape (holders.Global g) l.0 listed)).slot in
        inr (record {
          place = s.place;
          object = l.0;
          slot = slot.0;
          at = at ∙ ap (λ k. Some (record { place = s.place; kind = k })) kind;
          here = l.1;
          found = l.2;
          listed = listed;
          in_slot = slot.1;
          word = says ∙ (ap (λ m. cell_word (reference_in (holders.Global g) m)) l.2 ∙ strong_reference (holders.Global g) l.0 slot.0 listed slot.1);
        })

module _ (shape : HeapShape) (v : View) (h : History) (b : Before shape v h) (c : CellName) (put : Option ℕ) (x w : ℕ) (inside : IsPlace (extent_of shape) (cell_place c)) (reach : CanReach shape (heap_after h) v.number c)
    (owes : v.working.owes ≡ None) (no_access : v.working.access ≡ None) (free : x ≢ 1) (says : Says shape (heap_after h) (cell_place c) x) (given : IsGiven shape v.number h c put w) where
  abbrev p : ℕ
  p = v.number

  abbrev heap : Heap
  heap = heap_after h

  abbrev z : Holder
  z = cell (heap_after h) c

  abbrev n : ℕ
  n = next_hand v.number v.seen

  abbrev took : Option ℕ
  took = cond (x == 0) None (Some n)

  abbrev act : Act
  act = acts.Swap c put took

  abbrev event : Event
  event = record { thread = p; act = act }

  abbrev mid : Heap
  mid = taken_out z p took heap

  abbrev new : Heap
  new = heap_after (event ∷ h)

  has : HasCell shape heap c
  has = reach_has shape heap p c reach

  like : AreLike z heap.objects new.objects
  like = likes_both z heap.objects mid.objects new.objects (likes_taken z p took heap) (likes_put z p put mid)

  same_claims : new.claims ≡ heap.claims
  same_claims = claims_put z p put mid ∙ claims_taken z p took heap

  -- what the event needs
  puts_met : (m : Option ℕ) (u : ℕ) → IsGiven shape p h c m u → (puts shape heap p c m).0 ≡ true
  puts_met None u given = refl
  puts_met (Some k) u (kind, i, o, s, r, at, here, named, of, class, place, is) =
      let t = stands_at (Hand p k) heap.objects (record { place = i; kind = kind }) at in
      ap (passes (λ q. is_kind (kind_in (Hand p k) q) (cell_shape shape heap c))) t.found ∙ (ap (is_kind (kind_in (Hand p k) t.object)) named ∙ (ap (same_kind r.kind) (t.kind ∙ sym of) ∙ same_kind_refl r.kind))

  takes_met : (t : Bool) → (takes (sight p h) (cond t None (Some n))).0 ≡ true
  takes_met true = refl
  takes_met false = eq-eqb n (next_hand p h) (next_same shape v h b)

  full : is_some (held_by z heap) ≡ not (x == 0)
  full = ⊎_elim
      (λ (t : (x ≡ 0) × (held_by z heap ≡ None)). ap is_some t.1 ∙ sym (ap (λ e. not e) (eq-eqb x 0 t.0)))
      (λ (t : (o : Object) × (held_by z heap ≡ Some o) × (2 ≤ x)). ap is_some t.1 ∙ sym (ap (λ e. not e) (ne_eqb x 0 (λ e. let two = t.2 in omega (arith, two, e)))))
      (cell_shows shape h c x b.legal (says_cell shape h c x b.legal has says))

  told : (t : Bool) → same_bool (is_some (cond t None (Some n))) (not (not (not t))) ≡ true
  told true = refl
  told false = refl

  swap_legal : IsLegal shape (event ∷ h)
  swap_legal = (
    none_fails (needs shape (sight p h) p act) (reach_met shape h p c (puts shape heap p c put ∷ takes (sight p h) took ∷ (same_bool (is_some took) (not (is_nil heap z)), WrongAnswer) ∷ []) b.legal reach
        (puts_met put w given, (takes_met (x == 0), (ap (λ t. same_bool (is_some took) (not (not t))) full ∙ told (x == 0), tt)))),
    b.legal,
  )

  -- where the cells stand after it
  spot_here : spot z new ≡ hand_spot p put heap
  spot_here = cells_after shape h event z swap_legal (cell_is heap c) ∙ ap (λ t. cond t (hand_spot p put heap) (spot z heap)) (same-refl z)

  names_same : names new.objects ≡ names heap.objects
  names_same = names_stay p act heap refl

  put_fits : (m : Option ℕ) (u : ℕ) → IsGiven shape p h c m u → FitsCell new (hand_spot p m heap) (cell_shape shape heap c)
  put_fits None u given = tt
  put_fits (Some k) u (kind, i, o, s, r, at, here, named, of, class, place, is) =
      fits_cell heap new names_same (spot (Hand p k) heap) (cell_shape shape heap c) (subst (λ m. FitsCell heap m (cell_shape shape heap c)) (sym at) (o, r, here, named, class))

  -- a cell that is this one has what is put in, and another has what it had
  fits_at : (y : Holder) (named : Option RefShape) → is_cell y ≡ true → (same_holder y z ≡ true → named ≡ cell_shape shape heap c) → FitsCell heap (spot y heap) named → FitsCell new (spot y new) named
  fits_at y named cell_y same f = subst (λ m. FitsCell new m named) (sym (cells_after shape h event y swap_legal cell_y)) (go (same_holder y z) same)
    where
      go : (t : Bool) → (t ≡ true → named ≡ cell_shape shape heap c) → FitsCell new (cond t (hand_spot p put heap) (spot y heap)) named
      go true same = subst (FitsCell new (hand_spot p put heap)) (sym (same refl)) (put_fits put w given)
      go false same = fits_cell heap new names_same (spot y heap) named f

  swap_in_shape : InShape shape (event ∷ h)
  swap_in_shape = record {
    within = (within_after shape (sight p h) p act refl refl swap_legal.0 (b.in_shape.within, b.in_shape.claims)).0;
    claims = (within_after shape (sight p h) p act refl refl swap_legal.0 (b.in_shape.within, b.in_shape.claims)).1;
    classes = λ i o at. let r = same_named heap.objects new.objects names_same i o at in let c = b.in_shape.classes i r.0 r.1 in
        (subst (λ m. m < length shape.classes) (ap (λ (m : ObjectName). m.class) r.2) c.0, subst (λ m. m < 2 ^ 32) (ap (λ (m : ObjectName). m.number) r.2) c.1);
    fields = λ i o f at. let r = same_named heap.objects new.objects names_same i o at in
        subst (λ (t : ObjectId × Option RefShape). FitsCell new (spot (holders.Field t.0 f) new) t.1) (λ j. (id_named r.0 o r.2 j, field_named shape f r.0 o r.2 j))
        (fits_at (holders.Field r.0.id f) (field_shape shape f (Some r.0)) refl (field_shape_is shape h c i f r.0 b.legal has r.1) (b.in_shape.fields i r.0 f r.1));
    globals = λ m. fits_at (holders.Global m) (slice_get shape.globals m) refl (global_shape_is shape heap c m) (b.in_shape.globals m);
    makers = λ q high. news_none q event h refl ∙ b.in_shape.makers q high;
    made = λ q. subst (λ m. m ≤ 100000) (sym (news_none q event h refl)) (b.in_shape.made q);
  }

  -- the word that is put in is that of what the cell refers to after it
  put_shows : (m : Option ℕ) (u : ℕ) → IsGiven shape p h c m u → spot z new ≡ hand_spot p m heap → u ≡ cell_word (reference_of z new)
  put_shows None u is at = is ∙ sym (ap (λ m. cell_word (reference_in z m)) ((lookup_after shape (event ∷ h) z swap_legal (cell_own heap c)).nowhere at))
  put_shows (Some k) u (kind, i, o, s, r, hand, here, named, of, class, place, is) at =
      let t = stands_at z new.objects (record { place = i; kind = kind }) (at ∙ hand) in
      let q = this_side z (slice_get heap.objects i) (slice_get new.objects i) o (get_like z heap.objects new.objects i like) here in
      let same : q.0 ≡ t.object = Some-inj (sym q.1 ∙ t.here) in
      is ∙ sym (word_is z new kind t.object s t.found t.kind (ap (place_of kind) (sym same) ∙ (place_like z kind o q.0 q.2 ∙ place)))

  pub swap_good : Good shape v h (number (extent_of shape) (cell_place c)) x w (Some act) v.working
  swap_good = cell_good shape v h b c act x w v.working.entered inside has owes free swap_legal swap_in_shape like same_claims (put_shows put w given spot_here) refl
      (work_own shape event h v.working swap_legal refl (λ m claim. ap (λ cs. is_claimed_by p m (record heap { claims = cs })) same_claims ∙ claim) (inl no_access) owes b.work)
      (λ a begun. absurd (None≢Some a (sym no_access ∙ begun)))

-- what a view has to put in, it has now
module _ (shape : HeapShape) (v : View) (h : History) (b : Before shape v h) where
  -- a cell that is reached is of the same shape
  shape_now : (c : CellName) → Reaches shape v c → cell_shape shape (heap_after h) c ≡ cell_shape shape (heap_of v) c
  shape_now (cells.Global g) reach = refl
  shape_now (cells.Field s f) (k, i, o, at, here, slot, _) =
      let now = hand_now shape v h b k i kinds.Strong o at here in
      let found = slot_found shape h i s now.1.q b.legal now.1.here (now.1.slot strong≢weak ∙ slot) in
      let was = slot_found shape v.seen i s o (legal_left shape b.rest v.seen (subst (IsLegal shape) b.is b.legal)) here slot in
      ap (field_shape shape f) found ∙ (ap (λ k. field_shape shape f (Some (record o { class = k }))) now.1.class ∙ sym (ap (field_shape shape f) was))

  pub reach_now : (c : CellName) → Reaches shape v c → CanReach shape (heap_after h) v.number c
  reach_now c reach = subst (λ l. CanReach shape (heap_after l) v.number c) (sym b.is) (reach_stays shape v.seen b.rest c v.number (subst (IsLegal shape) b.is b.legal) b.others reach)

  -- a hand that leads there, with the word of its reference
  given_as : (c : CellName) (k w : ℕ) (kind : Kind) (i : ℕ) (o : Object) (r : RefShape) (m : ℕ) → Reaches shape v c → HasHand v k kind i → At (heap_of v) i o → cell_shape shape (heap_of v) c ≡ Some r → r.kind ≡ kind → r.class ≡ o.class
      → ((l : Held kind i o (heap_after h)) → place_of kind l.q ≡ Some m) → w ≡ m + 2 → IsGiven shape v.number h c (Some k) w
  given_as c k w kind i o r m reach hand here named of class place is =
      let now = hand_now shape v h b k i kind o hand here in (kind, i, now.1.q, m, r, now.0, now.1.here, shape_now c reach ∙ named, of, now.1.class ∙ sym class, place now.1, is)

  pub put_given : (c : CellName) (put : Option ℕ) (w : ℕ) → Reaches shape v c → IsPut shape v c put w → IsGiven shape v.number h c put w
  put_given c None w reach is = is
  put_given c (Some k) w reach (kinds.Strong, i, o, r, hand, here, named, of, class, (s, slot, is)) = given_as c k w kinds.Strong i o r s reach hand here named of class (λ l. l.slot strong≢weak ∙ slot) is
  put_given c (Some k) w reach (kinds.Unowned, i, o, r, hand, here, named, of, class, (s, slot, is)) = given_as c k w kinds.Unowned i o r s reach hand here named of class (λ l. l.slot unowned≢weak ∙ slot) is
  put_given c (Some k) w reach (kinds.Weak, i, o, r, hand, here, named, of, class, (e, entry, is)) = given_as c k w kinds.Weak i o r e reach hand here named of class (λ l. l.entry e entry) is
