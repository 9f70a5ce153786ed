-- A field of an object whose deinit the pass owes is taken out: what was there comes into its hands, and the deinit goes on after it.
use mathlib.Core.Logic.{dite}
use native.Mathlib.Decide.{ℕ_discrete}
use Rattle.std.proofs.Common.{◌≡◌, ◌≢◌, inr, ℕ, suc, ◌<◌, ◌==◌, not, Bool, true, false, cond, List, [], ◌∷◌, ◌++◌, map, Some, None, refl, sym, ap, ◌∙◌, subst, arith, eq-eqb}
use Rattle.std.specs.Prelude.{slice_get, is_some, ◌&&◌}
use Rattle.std.proofs.lemmas.Bool.{eqb-true}
use Rattle.arc_model.specs.declared.event.Act.{Act}
use Rattle.arc_model.specs.declared.event.Act.TheVariants as acts
use Rattle.arc_model.specs.declared.event.CellName.TheVariants as cells
use Rattle.arc_model.specs.declared.event.Event.{Event}
use Rattle.arc_model.specs.Shapes.{HeapShape}
use Rattle.arc_model.specs.Heaps.{Holder, Deinit, Object, Heap}
use Rattle.arc_model.specs.Heaps as holders
use Rattle.arc_model.specs.Holders.{held_by, at_slot, owes_to}
use Rattle.arc_model.specs.Cells.{cell, id_of, is_nil, is_live, has_field, are_nil}
use Rattle.arc_model.specs.Needs.{needs, passes}
use Rattle.arc_model.specs.History.{History, heap_after, next_hand, sight, IsLegal}
use Rattle.arc_model.specs.Lookup.{spot, duty_of}
use Rattle.arc_model.specs.References.{reference_in}
use Rattle.arc_model.proofs.Basics.{Some-inj, true≢false, some-strong}
use Rattle.arc_model.proofs.Tally.{both, same-refl}
use Rattle.arc_model.proofs.Courses.{well_formed}
use Rattle.arc_model.proofs.CellSpots.{cells_after}
use Rattle.arc_model.proofs.Fields.{nil_fields_stay, others_leave_fields}
use Rattle.arc_model.proofs.Others.{lookup_after, spot-find}
use Rattle.arc_rule.specs.declared.layout.Place.{Place}
use Rattle.arc_rule.specs.declared.layout.Place.TheVariants as places
use Rattle.arc_rule.specs.declared.step.Intent.TheVariants as intents
use Rattle.arc_rule.specs.declared.step.Step.TheVariants.{Store}
use Rattle.arc_rule.specs.Places.{IsPlace, extent_of, number, place_at}
use Rattle.arc_rule.specs.Shown.{cell_word}
use Rattle.arc_rule.proofs.Places.{place_at-number}
use Rattle.arc_view.specs.declared.view.Begun.{Begun}
use Rattle.arc_view.specs.declared.view.Entered.{Entered}
use Rattle.arc_view.specs.declared.view.View.{View}
use Rattle.arc_view.specs.Views.{Each, cell_place, kept_next}
use Rattle.arc_view.specs.Holding.{At, HasDuty, heap_of}
use Rattle.arc_view.specs.Admission.{MayStoreIn, Admits}
use Rattle.arc_view.specs.Kinds.{act_of, stored_act, working_stored, working_after, goes_on}
use Rattle.arc_view.specs.Rule.{EnteredFits, IsMine, WorkFits}
use Rattle.arc_view.proofs.Words.{slot_found, slot_is}
use Rattle.arc_view.proofs.Advance.{IsThere, Good, reach_there}
use Rattle.arc_view.proofs.Bridge.{Before, Resting, dying_dead, next_same}
use Rattle.arc_view.proofs.Classes.{in_shape_stays}
use Rattle.arc_view.proofs.Owed.{OwedLater, owes_it}
use Rattle.arc_view.proofs.Present.{owed_now, nil_now}
use Rattle.arc_view.proofs.Own.{work_own}
use Rattle.arc_view.proofs.Strongs.{none_fails}
use Rattle.arc_view.proofs.Searching.{each_below_is}
use Rattle.arc_view.proofs.Entering.{one_place, enter_admitted}
use Rattle.arc_view.proofs.Alike.{likes_taken, get_like, this_side}
use Rattle.arc_view.proofs.Busy.{cell_at, cell_not_busy}
use Rattle.arc_view.proofs.AtCell.{cell_good}

-- where a deinit goes on, its next word stays
pub goes_on_kept : (s f : ℕ) (es : List Entered) → map kept_next (goes_on s f es) ≡ map kept_next es
goes_on_kept s f [] = refl
goes_on_kept s f (e ∷ es) = go (e.slot == s) (goes_on_kept s f es)
  where
    go : (t : Bool) → map kept_next (goes_on s f es) ≡ map kept_next es → map kept_next ((cond t (record e { next_field = f }) e) ∷ goes_on s f es) ≡ kept_next e ∷ map kept_next es
    go true ih = ap (λ ks. kept_next e ∷ ks) ih
    go false ih = ap (λ ks. kept_next e ∷ ks) ih

module _ (shape : HeapShape) (v : View) (h : History) (b : Before shape v h) (s f i x : ℕ) (o : Object) (inside : IsPlace (extent_of shape) (places.Field s f)) (owes : v.working.owes ≡ None) (here0 : At (heap_of v) i o) (slot0 : o.slot ≡ Some s)
    (duty0 : HasDuty v Deinit i) (has0 : has_field shape f o ≡ true) (nils0 : (g : ℕ) → g < f → is_nil (heap_of v) (holders.Field o.id g) ≡ true) (full0 : is_nil (heap_of v) (holders.Field o.id f) ≡ false)
    (rests : Resting shape h (number (extent_of shape) (places.Field s f)) x) where
  abbrev p : ℕ
  p = v.number

  abbrev heap : Heap
  heap = heap_after h

  abbrev n : ℕ
  n = next_hand v.number v.seen

  abbrev act : Act
  act = acts.Take s f n

  abbrev event : Event
  event = record { thread = p; act = act }

  abbrev z : Holder
  z = cell (heap_after h) (cells.Field s f)

  abbrev new : Heap
  new = heap_after (event ∷ h)

  -- the object now
  later : OwedLater i o h
  later = (owed_now shape v h b Deinit i o here0 duty0).0

  duty : duty_of p i heap ≡ Some Deinit
  duty = (owed_now shape v h b Deinit i o here0 duty0).1

  slot : later.q.slot ≡ Some s
  slot = later.slot ∙ slot0

  found : at_slot s heap ≡ Some later.q
  found = slot_found shape h i s later.q b.legal later.here slot

  has : has_field shape f later.q ≡ true
  has = ap (λ c. has_field shape f (record o { class = c })) later.class ∙ has0

  gone : is_live shape later.q ≡ false
  gone = dying_dead shape h p i later.q b.legal later.here duty

  owner : id_of (at_slot s heap) ≡ later.q.id
  owner = ap id_of found

  nil_before : (g : ℕ) → g < f → is_nil heap (holders.Field later.q.id g) ≡ true
  nil_before g lt = nil_now shape v h b i o here0 duty0 later g (nils0 g lt)

  -- its field isn't nil: no other thread has taken it
  full : is_nil heap z ≡ false
  full =
      ap (λ d. is_nil heap (holders.Field d f)) (owner ∙ later.id)
      ∙ (ap not (sym (spot-find (holders.Field o.id f) heap.objects)
      ∙ (ap is_some (subst (λ l. spot (holders.Field o.id f) (heap_after l) ≡ spot (holders.Field o.id f) (heap_of v)) (sym b.is)
      (others_leave_fields shape p v.seen b.rest i o f (subst (IsLegal shape) b.is b.legal) b.others here0 (owes_it v.seen p i Deinit o here0 duty0)))
      ∙ spot-find (holders.Field o.id f) (heap_of v).objects)) ∙ full0)

  take_legal : IsLegal shape (event ∷ h)
  take_legal = (
    none_fails (needs shape (sight p h) p act) (
      ap is_some found,
      (
        ap (passes (has_field shape f)) found ∙ has,
        (
          ap (passes (λ q. owes_to p Deinit q && are_nil heap f q)) found ∙ both (owes_to p Deinit later.q) (are_nil heap f later.q) (owes_it h p i Deinit later.q later.here duty) (each_below_is f (λ g. is_nil heap (holders.Field later.q.id g)) nil_before),
          (ap not full, (eq-eqb n (next_hand p h) (next_same shape v h b), tt)),
        ),
      ),
    ),
    b.legal,
  )

  -- no pass accesses it
  never : IsThere heap (cells.Field s f) → ⊥
  never (j, r, at, in_it, live) =
      let same : r ≡ later.q = Some-inj (sym (slot_found shape h j s r b.legal at in_it) ∙ found) in
      true≢false (sym (ap not (some-strong shape r live)) ∙ (ap (is_live shape) same ∙ gone))

  accessed : (a : Begun) → v.working.access ≡ Some a → cell_place a.cell ≢ places.Field s f
  accessed a begun is = never (subst (IsThere heap) (cell_at a.cell (cells.Field s f) is) (reach_there shape h p a.cell b.legal (b.work.reaches a begun).1))

  spot_here : spot z new ≡ None
  spot_here = cells_after shape h event z take_legal refl ∙ ap (λ t. cond t None (spot z heap)) (same-refl z)

  nothing : held_by z new ≡ None
  nothing = (lookup_after shape (event ∷ h) z take_legal refl).nowhere spot_here

  -- the object after it
  abbrev After : Type 0
  After = (q : Object) × At new i q × (q.slot ≡ Some s) × (q.id ≡ later.q.id)

  stays : After
  stays = let q = this_side z (slice_get heap.objects i) (slice_get new.objects i) later.q (get_like z heap.objects new.objects i (likes_taken z p (Some n) heap)) later.here in (q.0, q.1, q.2.slot ∙ slot, q.2.id)

  nil_after : (g : ℕ) → g < suc f → is_nil new (holders.Field later.q.id g) ≡ true
  nil_after g lt = dite (ℕ_discrete g f)
      (λ is. ap (λ m. is_nil new (holders.Field later.q.id m)) is ∙ (ap (λ d. is_nil new (holders.Field d f)) (sym owner) ∙ ap (λ m. not (is_some m)) nothing))
      (λ ne. nil_fields_stay shape h (event ∷ []) i later.q g take_legal later.here gone (nil_before g (omega arith)))

  -- an entered deinit of the slot goes on after the field
  gone_on : (es : List Entered) → Each (EnteredFits shape p (event ∷ h)) es → Each (EnteredFits shape p (event ∷ h)) (goes_on s (suc f) es)
  gone_on [] fits = tt
  gone_on (e ∷ es) fits = (go (e.slot == s) refl fits.0, gone_on es fits.1)
    where
      go : (t : Bool) → (e.slot == s) ≡ t → EnteredFits shape p (event ∷ h) e → EnteredFits shape p (event ∷ h) (cond t (record e { next_field = suc f }) e)
      go false is m = m
      go true is m =
          let in_it : m.object.slot ≡ Some s = m.slot ∙ ap Some (eqb-true e.slot s is) in
          let place : m.place ≡ i = one_place s new.objects m.place i m.object stays.0 ((well_formed shape (event ∷ h) take_legal).slots s) m.here stays.1 (slot_is m.object.slot s in_it) (slot_is stays.0.slot s stays.2) in
          let same : m.object ≡ stays.0 = Some-inj (sym m.here ∙ (ap (slice_get new.objects) place ∙ stays.1)) in record {
            place = m.place;
            object = m.object;
            here = m.here;
            slot = m.slot;
            duty = m.duty;
            nils = λ g lt. ap (λ (r : Object). is_nil new (holders.Field r.id g)) same ∙ (ap (λ d. is_nil new (holders.Field d g)) stays.3 ∙ nil_after g lt);
            parent = m.parent;
          }

  abbrev es : List Entered
  es = goes_on s (suc f) v.working.entered

  own : WorkFits shape p (event ∷ h) v.working
  own = work_own shape event h v.working take_legal refl (λ m claim. claim) (inr (λ k e. true≢false (sym e))) owes b.work

  take_fits : WorkFits shape p (event ∷ h) (record v.working { entered = goes_on s (suc f) v.working.entered })
  take_fits = record {
    owing = own.owing;
    reaches = own.reaches;
    private = subst (λ ks. Each (IsMine shape new p) (v.working.stored ++ ks)) (sym (goes_on_kept s (suc f) v.working.entered)) own.private;
    entered = gone_on v.working.entered own.entered;
  }

  pub take_good : Good shape v h (number (extent_of shape) (places.Field s f)) x 0 (Some (acts.Take s f (next_hand v.number v.seen))) (record v.working { entered = goes_on s (suc f) v.working.entered })
  take_good = cell_good shape v h b (cells.Field s f) act x 0 es inside (i, later.q, later.here, slot, has) owes
      (cell_not_busy shape heap (cells.Field s f) x (rests s f inside refl never))
      take_legal (in_shape_stays shape event h take_legal refl refl refl b.in_shape) (likes_taken z p (Some n) heap) refl
      (sym (ap (λ m. cell_word (reference_in z m)) nothing)) (goes_on_kept s (suc f) v.working.entered) take_fits accessed

abbrev pub DeinitStored : HeapShape → View → (place new slot : ℕ) → History → ℕ → Type 1
DeinitStored shape v place new slot h x = Good shape v h place x new (act_of shape v (Store place new) (intents.Deinit slot) 0) (working_after shape v (Store place new) (intents.Deinit slot) 0)

-- a store of a deinit: a next word, or a field that is taken out
pub deinit_stored : (shape : HeapShape) (v : View) (place new slot : ℕ) → Admits shape v (Store place new) (intents.Deinit slot) → (h : History) → Before shape v h → (x : ℕ) → Resting shape h place x → DeinitStored shape v place new slot h x
deinit_stored shape v place new slot (pl, at, inside, (owes, may)) h b x rests = by pl at inside may
  where
    taken : (s f : ℕ) → place ≡ number (extent_of shape) (places.Field s f) → IsPlace (extent_of shape) (places.Field s f) → MayStoreIn shape v (places.Field s f) new slot → DeinitStored shape v place new slot h x
    taken s f at inside (i, o, is, word, here, in_it, duty, entered, has, nils, full) =
        let there : place_at (extent_of shape) place ≡ places.Field s f = ap (place_at (extent_of shape)) at ∙ place_at-number (extent_of shape) (places.Field s f) inside in
        subst (λ (t : ℕ × ℕ × Place × ℕ). Good shape v h t.0 x t.1 (stored_act v t.2 (intents.Deinit t.3)) (working_stored (number (extent_of shape)) v.working t.2 t.1 (intents.Deinit t.3)))
        (λ j. (sym at j, sym word j, sym there j, is j))
        (take_good shape v h b s f i x o inside owes here in_it duty has nils full (subst (λ m. Resting shape h m x) at rests))

    by : (pl : Place) → place ≡ number (extent_of shape) pl → IsPlace (extent_of shape) pl → MayStoreIn shape v pl new slot → DeinitStored shape v place new slot h x
    by places.Zero at inside may = absurd may
    by (places.Global g) at inside may = absurd may
    by (places.Count n) at inside may = absurd may
    by (places.Isa n) at inside may = absurd may
    by (places.Next n) at inside may = enter_admitted shape v place new slot (places.Next n, at, inside, (owes, may)) (at ∙ ap (λ m. number (extent_of shape) (places.Next m)) may.3) h b x
    by (places.Field s f) at inside may = taken s f at inside may
    by (places.Link n) at inside may = absurd may
    by (places.Strong n) at inside may = absurd may
    by (places.Unowned n) at inside may = absurd may
    by (places.Weak n) at inside may = absurd may
    by (places.SlotBits n) at inside may = absurd may
    by (places.EntryBits n) at inside may = absurd may
