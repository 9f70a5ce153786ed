-- The deinit of an object is entered: the rule allows the store of its next word.
use Rattle.std.proofs.Common.{◌≡◌, ◌≢◌, ◌⊎◌, inl, inr, ℕ, zero, suc, ◌+◌, ◌*◌, ◌/◌, ◌%◌, ◌<◌, ◌≤◌, ◌==◌, Bool, true, false, cond, List, [], ◌∷◌, ◌++◌, map, set, Option, Some, None, refl, sym, ap, ◌∙◌, subst, arith, eq-eqb, get_or-set_other, get_or-set_same}
use Rattle.std.specs.Prelude.{slice_get}
use Rattle.std.proofs.lemmas.Bool.{eqb-true}
use Rattle.arc_model.specs.declared.event.CellName.{CellName}
use Rattle.arc_model.specs.declared.event.CellName.TheVariants as cells
use Rattle.arc_model.specs.declared.event.Act.{Act}
use Rattle.arc_model.specs.Shapes.{HeapShape}
use Rattle.arc_model.specs.Heaps.{Deinit, Owed, Object}
use Rattle.arc_model.specs.Holders.{in_slot}
use Rattle.arc_model.specs.WellFormed.{more, total, in_slot_times}
use Rattle.arc_model.specs.History.{History, heap_after, IsLegal}
use Rattle.arc_model.specs.Lookup.{duty_of, duty_in, owed_by}
use Rattle.arc_model.proofs.Basics.{None≢Some, Some-inj, true≢false}
use Rattle.arc_model.proofs.Courses.{well_formed}
use Rattle.arc_model.proofs.Others.{others_leave}
use Rattle.arc_rule.specs.Places.{IsPlace, extent_of, number, place_at}
use Rattle.arc_rule.specs.Shown.{ShowsBut}
use Rattle.arc_rule.proofs.Places.{place_at-number}
use Rattle.arc_rule.specs.declared.layout.Place.{Place}
use Rattle.arc_rule.specs.declared.layout.Place.TheVariants.{Zero, Global, Count, Isa, Next, Field, Link, Strong, Unowned, Weak, SlotBits, EntryBits}
use Rattle.arc_rule.specs.declared.step.Step.TheVariants.{Store}
use Rattle.arc_rule.specs.declared.step.Intent.TheVariants as intents
use Rattle.arc_view.specs.declared.view.Parent.{Parent}
use Rattle.arc_view.specs.declared.view.Stored.{Stored}
use Rattle.arc_view.specs.declared.view.Entered.{Entered}
use Rattle.arc_view.specs.declared.view.Working.{Working}
use Rattle.arc_view.specs.declared.view.View.{View}
use Rattle.arc_view.specs.Views.{Each, cell_place, next_word, kept_next, private_words, Excepts}
use Rattle.arc_view.specs.Holding.{At, HasDuty, Owns, heap_of}
use Rattle.arc_view.specs.Rule.{EnteredFits, IsMine, IsWithin, Lies}
use Rattle.arc_view.specs.Kinds.{act_of, stored_act, but_at, parent_of, working_stored, working_after}
use Rattle.arc_view.specs.Admission.{HasEntered, IsParent, MayStoreIn, Admits}
use Rattle.arc_view.proofs.Lists.{each_cut, each_join}
use Rattle.arc_view.proofs.Words.{word_changes}
use Rattle.arc_view.proofs.Within.{each_at}
use Rattle.arc_view.proofs.Keeps.{stays_self}
use Rattle.arc_view.proofs.Owed.{OwedLater, owed_stays}
use Rattle.arc_view.proofs.Advance.{Good, slot_is}
use Rattle.arc_view.proofs.Bridge.{Before}

-- one object is in a slot
is_there : (s : ℕ) (os : List Object) (i : ℕ) (o : Object) → slice_get os i ≡ Some o → in_slot s o ≡ true → 1 ≤ total (in_slot_times s) os
is_there s [] i o e in_it = absurd (None≢Some o e)
is_there s (r ∷ os) zero o e in_it = let one : in_slot_times s r ≡ 1 = ap (λ (x : Object). in_slot_times s x) (Some-inj e) ∙ ap (λ b. more b zero) in_it in omega arith
is_there s (r ∷ os) (suc i) o e in_it = let h = is_there s os i o e in_it in omega arith

pub one_place : (s : ℕ) (os : List Object) (i j : ℕ) (o q : Object) → total (in_slot_times s) os ≤ 1 → slice_get os i ≡ Some o → slice_get os j ≡ Some q → in_slot s o ≡ true → in_slot s q ≡ true → i ≡ j
one_place s [] i j o q few e f a b = absurd (None≢Some o e)
one_place s (r ∷ os) zero zero o q few e f a b = refl
one_place s (r ∷ os) zero (suc j) o q few e f a b =
    let one : in_slot_times s r ≡ 1 = ap (λ (x : Object). in_slot_times s x) (Some-inj e) ∙ ap (λ b. more b zero) a in let two = is_there s os j q f b in absurd (omega arith)
one_place s (r ∷ os) (suc i) zero o q few e f a b =
    let one : in_slot_times s r ≡ 1 = ap (λ (x : Object). in_slot_times s x) (Some-inj f) ∙ ap (λ b. more b zero) b in let two = is_there s os i o e a in absurd (omega arith)
one_place s (r ∷ os) (suc i) (suc j) o q few e f a b = ap suc (one_place s os i j o q (omega arith) e f a b)

owed_is : (p : ℕ) (m : Option Owed) → owed_by p m ≡ Some Deinit → (d : Owed) × (m ≡ Some d) × (d.thread ≡ p)
owed_is p None e = absurd (None≢Some Deinit e)
owed_is p (Some d) e = go (d.thread == p) refl e
  where
    go : (b : Bool) → (d.thread == p) ≡ b → cond b (Some d.duty) None ≡ Some Deinit → (x : Owed) × (Some d ≡ Some x) × (x.thread ≡ p)
    go true is e = (d, refl, eqb-true d.thread p is)
    go false is e = absurd (None≢Some Deinit e)

-- one thread owes an object
one_owes : (p q : ℕ) (m : Option Owed) → owed_by p m ≡ Some Deinit → owed_by q m ≡ Some Deinit → q ≡ p
one_owes p q m mine its = let a = owed_is p m mine in let b = owed_is q m its in sym b.2 ∙ (ap (λ (d : Owed). d.thread) (Some-inj (sym b.1 ∙ a.1)) ∙ a.2)

parent_back : (q : Option Parent) → ((r : Parent) → q ≡ Some r → r.field ≤ 8) → parent_of (next_word q) ≡ q
parent_back None small = refl
parent_back (Some r) small =
    let le = small r refl in
    let n : 1 + 16 * r.slot + r.field ≡ suc (16 * r.slot + r.field) = omega arith in
    let a : (16 * r.slot + r.field) / 16 ≡ r.slot = omega arith in
    let b : (16 * r.slot + r.field) % 16 ≡ r.field = omega arith in
    ap parent_of n ∙ (λ j. Some (record { slot = a j; field = b j }))

each_apart : (s : ℕ) (es : List Entered) → ((e : Entered) (j : ℕ) → slice_get es j ≡ Some e → e.slot ≢ s) → Each (λ (e : Entered). e.slot ≢ s) es
each_apart s [] none = tt
each_apart s (e ∷ es) none = (none e 0 refl, each_apart s es (λ x j at. none x (suc j) at))

-- the words that are kept private, but the one of a place
pub but_kept : (at : Place → ℕ) (i : ℕ) (P Q : Stored → Type 0) → ((k : Stored) → at k.place ≢ i → P k → Q k) → (ks : List Stored) → Each P ks → Each Q (but_at at i ks)
but_kept at i P Q keep [] h = tt
but_kept at i P Q keep (k ∷ ks) h = go (at k.place == i) refl (but_kept at i P Q keep ks h.1)
  where
    go : (b : Bool) → (at k.place == i) ≡ b → Each Q (but_at at i ks) → Each Q (cond b (but_at at i ks) (k ∷ but_at at i ks))
    go true is ih = ih
    go false is ih = (keep k (λ same. true≢false (sym (eq-eqb (at k.place) i same) ∙ is)) h.0, ih)

-- an entered deinit of the view is of an object in a slot of the shape
entered_at : (shape : HeapShape) (p : ℕ) (h : History) (es : List Entered) (j : ℕ) (e : Entered) → Each (EnteredFits shape p h) es → slice_get es j ≡ Some e → EnteredFits shape p h e
entered_at shape p h es j e fits at = each_at (EnteredFits shape p h) es j e fits at

module _ (shape : HeapShape) (v : View) (h : History) (b : Before shape v h) (s i new x : ℕ) (o : Object) (q : Option Parent) (lt : s < shape.slots) (here0 : At (heap_of v) i o) (slot0 : o.slot ≡ Some s) (duty0 : HasDuty v Deinit i)
    (never : HasEntered v s → ⊥) (parent : IsParent v q) (word : new ≡ next_word q) (free : v.working.owes ≡ None) where
  abbrev at : ℕ
  at = number (extent_of shape) (Next s)

  abbrev now : Entered
  now = record { slot = s; parent = q; next_field = 0 }

  abbrev work : Working
  work = record v.working { stored = but_at (number (extent_of shape)) at v.working.stored; entered = now ∷ v.working.entered }

  since : IsLegal shape (b.rest ++ v.seen)
  since = subst (IsLegal shape) b.is b.legal

  later : OwedLater i o h
  later = subst (OwedLater i o) (sym b.is) (owed_stays shape v.number i Deinit o v.seen b.rest since b.others here0 duty0)

  duty : duty_of v.number i (heap_after h) ≡ Some Deinit
  duty = ap (λ k. duty_of v.number i (heap_after k)) b.is ∙ ((others_leave shape v.number v.seen b.rest since b.others).duties i ∙ duty0)

  slot : later.q.slot ≡ Some s
  slot = later.slot ∙ slot0

  fits_parent : (r f : ℕ) → q ≡ Some (record { slot = r; field = f }) → (r < shape.slots) × (f ≤ 8)
  fits_parent r f is =
      let p = subst (IsParent v) is parent in
      let e = entered_at shape v.number h v.working.entered p.0.1 p.0.0 b.work.entered p.0.2 in
      let w = (each_at (IsWithin shape) (heap_after h).objects e.place e.object b.in_shape.within e.here).0 p.0.0.slot e.slot in (subst (λ n. n < shape.slots) p.0.3 w, p.1)

  enters : EnteredFits shape v.number h now
  enters = record { place = i; object = later.q; here = later.here; slot = slot; duty = duty; nils = λ f less. absurd (omega arith); parent = fits_parent }

  elsewhere : (pl : Place) → IsPlace (extent_of shape) pl → pl ≢ Next s → number (extent_of shape) pl ≢ at
  elsewhere pl inside ne e = ne (sym (place_at-number (extent_of shape) pl inside) ∙ (ap (place_at (extent_of shape)) e ∙ place_at-number (extent_of shape) (Next s) lt))

  not_cell : (c : CellName) → cell_place c ≢ Next s
  not_cell (cells.Field t f) e = cc
  not_cell (cells.Global g) e = cc

  -- the words that the view keeps private, as they were
  others_lie : (ws : List ℕ) (es : List Entered) → Each (λ (e : Entered). e.slot ≢ s) es → Each (EnteredFits shape v.number h) es → Each (Lies shape ws) (map kept_next es) → Each (Lies shape (set ws at new)) (map kept_next es)
  others_lie ws [] apart fits lies = tt
  others_lie ws (e ∷ es) apart fits lies = (
    get_or-set_other ws at (number (extent_of shape) (Next e.slot)) new 0 (λ k. apart.0 (let a : number (extent_of shape) (Next e.slot) ≡ at = k in omega arith)) ∙ lies.0,
    others_lie ws es apart.1 fits.1 lies.1,
  )

  -- what is private then, from what was private elsewhere
  private_then : (P Q : Stored → Type 0) → ((k : Stored) → number (extent_of shape) k.place ≢ at → P k → Q k) → Q (kept_next now) → (Each P (map kept_next v.working.entered) → Each Q (map kept_next v.working.entered))
      → Each P (private_words v.working) → Each Q (private_words work)
  private_then P Q keep its others private =
      let t = each_cut P v.working.stored (map kept_next v.working.entered) private in
      each_join Q (but_at (number (extent_of shape)) at v.working.stored) (kept_next now ∷ map kept_next v.working.entered) (but_kept (number (extent_of shape)) at P Q keep v.working.stored t.0) (its, others t.1)

  apart : Each (λ (e : Entered). e.slot ≢ s) v.working.entered
  apart = each_apart s v.working.entered (λ e j at same. never (e, j, at, same))

  kept : (Others : Place → Type 0) (ws : List ℕ) → ShowsBut (λ pl. Excepts v.working pl ⊎ Others pl) shape (heap_after h) ws → ShowsBut (λ pl. Excepts work pl ⊎ Others pl) shape (heap_after h) (set ws at new)
  kept Others ws shows = word_changes shape (λ pl. Excepts v.working pl ⊎ Others pl) (λ pl. Excepts work pl ⊎ Others pl) (heap_after h) (heap_after h) ws (Next s) new lt shows (λ _. tt) (λ u ne notF e. notF e) (λ u iu ne _ w t. t)

  pub enter_good : Good shape v h at x new None work
  enter_good = record {
    may = b.legal;
    in_shape = b.in_shape;
    safe = inr (λ pl inside is p owns. mine pl inside is p owns);
    calm = inr (λ c inside is one. absurd (elsewhere (cell_place c) inside (not_cell c) is));
    cells = λ c inside there ne. record { says = λ w says. says; owner = refl; refers = refl };
    begins = λ a e. inl e;
    words = λ Others ws s l e. kept Others ws s;
    fits = record {
      owing = b.work.owing;
      reaches = b.work.reaches;
      private = private_then (IsMine shape (heap_after h) v.number) (IsMine shape (heap_after h) v.number) (λ k ne m. m) (lt, (i, later.q, later.here, slot_is later.q.slot s slot, duty)) (λ m. m) b.work.private;
      entered = (enters, b.work.entered);
    };
    lying = λ Others ws shows l e. record {
      private = private_then (Lies shape ws) (Lies shape (set ws at new)) (λ k ne lies. get_or-set_other ws at (number (extent_of shape) k.place) new 0 ne ∙ lies) (its ws shows) (others_lie ws v.working.entered apart b.work.entered) l.private;
      access = λ a ea. let f = l.access a ea in let r = b.work.reaches a ea in record {
        busy = get_or-set_other ws at (number (extent_of shape) (cell_place a.cell)) new 0 (elsewhere (cell_place a.cell) r.0 (not_cell a.cell)) ∙ f.busy;
        value = f.value;
        stays = stays_self h a.cell;
      };
      naming = λ t owed. absurd (None≢Some (record { slot = t; counted = false }) (sym free ∙ owed));
    };
  }
    where
      mine : (pl : Place) → IsPlace (extent_of shape) pl → number (extent_of shape) pl ≡ at → (p : ℕ) → Owns (heap_after h) p pl → p ≡ v.number
      mine pl inside is p owns =
          let same : pl ≡ Next s = sym (place_at-number (extent_of shape) pl inside) ∙ (ap (place_at (extent_of shape)) is ∙ place_at-number (extent_of shape) (Next s) lt) in
          by (subst (Owns (heap_after h) p) same owns)
        where
          by : Owns (heap_after h) p (Next s) → p ≡ v.number
          by (j, r, here, in_it, its) =
              let place : j ≡ i = one_place s (heap_after h).objects j i r later.q ((well_formed shape h b.legal).slots s) here later.here in_it (slot_is later.q.slot s slot) in
              one_owes v.number p later.q.owed (ap (duty_in v.number) (sym later.here) ∙ duty) (ap (duty_in p) (sym later.here) ∙ (ap (λ k. duty_of p k (heap_after h)) (sym place) ∙ its))

      its : {Except : Place → Type 0} (ws : List ℕ) → ShowsBut Except shape (heap_after h) ws → Lies shape (set ws at new) (kept_next now)
      its ws shows = get_or-set_same ws at new 0 (let whole = shows.whole in omega arith) ∙ word

-- the field of a parent is below 16
small_field : (v : View) (q : Option Parent) → IsParent v q → (r : Parent) → q ≡ Some r → r.field ≤ 8
small_field v q parent r is = (subst (IsParent v) is parent).1

-- the place is the next word of the slot
next_of : (shape : HeapShape) (v : View) (pl : Place) (new s : ℕ) → MayStoreIn shape v pl new s → number (extent_of shape) pl ≡ number (extent_of shape) (Next s) → pl ≡ Next s
next_of shape v Zero new s may e = absurd may
next_of shape v (Global g) new s may e = absurd may
next_of shape v (Count n) new s may e = absurd may
next_of shape v (Isa n) new s may e = absurd may
next_of shape v (Next n) new s may e = ap Next may.3
next_of shape v (Field n f) new s may e = let same = may.2 in absurd (omega arith)
next_of shape v (Link n) new s may e = absurd may
next_of shape v (Strong n) new s may e = absurd may
next_of shape v (Unowned n) new s may e = absurd may
next_of shape v (Weak n) new s may e = absurd may
next_of shape v (SlotBits n) new s may e = absurd may
next_of shape v (EntryBits n) new s may e = absurd may

pub enter_admitted : (shape : HeapShape) (v : View) (place new s : ℕ) → Admits shape v (Store place new) (intents.Deinit s) → place ≡ number (extent_of shape) (Next s) → (h : History) → Before shape v h → (x : ℕ)
    → Good shape v h place x new (act_of shape v (Store place new) (intents.Deinit s) 0) (working_after shape v (Store place new) (intents.Deinit s) 0)
enter_admitted shape v place new s (pl, at, inside, (owes, may)) is h b x = go (subst (λ (p : Place). MayStoreIn shape v p new s) same may)
  where
    same : pl ≡ Next s
    same = next_of shape v pl new s may (sym at ∙ is)

    lt : s < shape.slots
    lt = subst (IsPlace (extent_of shape)) same inside

    go : MayStoreIn shape v (Next s) new s → Good shape v h place x new (act_of shape v (Store place new) (intents.Deinit s) 0) (working_after shape v (Store place new) (intents.Deinit s) 0)
    go (i, o, q, _, here, slot, duty, never, parent, word) =
        let g = enter_good shape v h b s i new x o q lt here slot duty never parent word owes in
        let back : parent_of new ≡ q = ap parent_of word ∙ parent_back q (small_field v q parent) in
        let there : place_at (extent_of shape) place ≡ Next s = ap (place_at (extent_of shape)) is ∙ place_at-number (extent_of shape) (Next s) lt in
        subst (λ (t : ℕ × Option Act × Working). Good shape v h t.0 x new t.1 t.2)
        (λ j. (sym is j, (sym (ap (λ (u : Place). stored_act v u (intents.Deinit s)) there)) j, sym (ap (λ (u : Place). working_stored (number (extent_of shape)) v.working u new (intents.Deinit s)) there ∙ ap (λ (r : Option Parent). record v.working { stored = but_at (number (extent_of shape)) (number (extent_of shape) (Next s)) v.working.stored; entered = record { slot = s; parent = r; next_field = 0 } ∷ v.working.entered }) back) j)) g
