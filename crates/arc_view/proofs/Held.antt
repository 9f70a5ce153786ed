-- What stays of an object while a thread holds it, whatever other threads do.
use Rattle.std.proofs.Common.{◌≡◌, ◌⊎◌, inl, inr, ⊎_elim, ℕ, ◌==◌, Bool, true, false, cond, [], ◌∷◌, ◌++◌, Option, Some, None, refl, sym, ap, ◌∙◌, subst, arith}
use Rattle.std.specs.Prelude.{slice_get, ◌||◌}
use Rattle.arc_model.specs.declared.event.Act.{Act}
use Rattle.arc_model.specs.declared.event.Act.TheVariants as acts
use Rattle.arc_model.specs.declared.event.CellName.{CellName}
use Rattle.arc_model.specs.declared.event.Event.{Event}
use Rattle.arc_model.specs.declared.shape.Kind.{Kind}
use Rattle.arc_model.specs.declared.shape.Kind.TheVariants.{Strong, Unowned, Weak}
use Rattle.arc_model.specs.Shapes.{HeapShape}
use Rattle.arc_model.specs.Heaps.{Holder, Hand, Strongs, Unowneds, Deinit, Owed, Object, Heap}
use Rattle.arc_model.specs.Holders.{is_in, is_empty, list_of, is_duty}
use Rattle.arc_model.specs.Effects.{made}
use Rattle.arc_model.specs.Cells.{strong_holders}
use Rattle.arc_model.specs.WellFormed.{tally, IsWhole, live, deiniting, deinited, vacating, going, freed, dead}
use Rattle.arc_model.specs.Lookup.{spot, duty_of, duty_in, owed_by}
use Rattle.arc_model.specs.History.{History, heap_after, next_hand, brings, share, IsLegal}
use Rattle.arc_model.proofs.Basics.{None≢Some, Some-inj, in-not_empty, some-strong}
use Rattle.arc_model.proofs.Tally.{clash, same-refl, tally-in}
use Rattle.arc_model.proofs.Turns.{old-put, IsLeaving, Turn}
use Rattle.arc_model.proofs.Keeps.{end-at, Course, still, makes, turn, turns}
use Rattle.arc_model.proofs.Builds.{advance}
use Rattle.arc_model.proofs.Courses.{course_after, well_formed}
use Rattle.arc_model.proofs.Stages.{dying-facts}
use Rattle.arc_model.proofs.Others.{others_leave, not-among, lookup_after}
use Rattle.arc_model.proofs.Sole.{unshared_stays}
use Rattle.arc_view.specs.Holding.{At}
use Rattle.arc_view.specs.Rule.{IsNew}

-- an object with a strong or an unowned holder
abbrev pub Busy : Object → Type 0
Busy o = (is_empty o.strong ≡ false) ⊎ (is_empty o.unowned ≡ false)

-- it has a weak holder, too
pub busy_weak : (shape : HeapShape) (o : Object) → IsWhole shape o → Busy o → is_empty o.weak ≡ false
busy_weak shape o w b = go w b
  where
    held : tally Unowneds o.weak ≡ 1 → is_empty o.weak ≡ false
    held t = in-not_empty Unowneds o.weak (tally-in Unowneds o.weak (omega (arith, t)))

    none : {A : Type 0} → is_empty (strong_holders shape o) ≡ true → is_empty o.unowned ≡ true → Busy o → A
    none s u (inl b) = clash (is_empty (strong_holders shape o)) s (some-strong shape o b)
    none s u (inr b) = clash (is_empty o.unowned) u b

    go : IsWhole shape o → Busy o → is_empty o.weak ≡ false
    go (live s d l a b p) _ = held b
    go (deiniting s d l a b p) _ = held b
    go (deinited s d l a u b p) _ = held b
    go (vacating s d l u b p) _ = held b
    go (going s d l u b e) busy = none s u busy
    go (freed s d l u b w e) busy = none s u busy
    go (dead s d l u w e) busy = none s u busy

-- what object o, at place i, is later
pub record Stays (i : ℕ) (o : Object) (new : Heap) : Type 0 where
  pub q : Object
  pub here : At new i q
  pub id : q.id ≡ o.id
  pub class : q.class ≡ o.class
  pub slot : Busy o → q.slot ≡ o.slot
  pub entry : (n : ℕ) → is_empty q.weak ≡ false → o.entry ≡ Some n → q.entry ≡ Some n
  pub weak : is_empty o.weak ≡ true → is_empty q.weak ≡ true

swap≢vacate : {c : CellName} {h k : Option ℕ} {s : ℕ} → acts.Swap c h k ≡ acts.Vacate s → ⊥
swap≢vacate e = cc

same_stays : (i : ℕ) (o : Object) (new : Heap) → At new i o → Stays i o new
same_stays i o new here = record { q = o; here = here; id = refl; class = refl; slot = λ b. refl; entry = λ n w e. e; weak = λ w. w }

turn_stays : {shape : HeapShape} (p : ℕ) (act : Act) (next since : ℕ → ℕ) (old new : Heap) → Turn shape p act next since old new → (i : ℕ) (o : Object) → At old i o → Stays i o new
turn_stays {shape = shape} p act next since old new t i o h =
    elim (old-put old.objects new.objects t.o t.q t.put i o h) [
      | inl same ↦ same_stays i o new same
      | inr turned ↦ subst (λ r. Stays i r new) (sym turned.0) (record {
        q = t.q;
        here = turned.1;
        id = t.id;
        class = t.class;
        slot = λ b. ⊎_elim (λ s. s) (λ (l : IsLeaving shape act t.o). absurd (left b l.3 l.4)) t.place;
        entry = λ n w e. ⊎_elim (λ s. s) (λ none. clash (is_empty t.q.weak) none w) (t.entry_stays n e);
        weak = t.weak_stays;
      })
    ]
  where
    left : Busy t.o → is_empty (strong_holders shape t.o) ≡ true → is_empty t.o.unowned ≡ true → ⊥
    left (inl b) s u = clash (is_empty (strong_holders shape t.o)) s (some-strong shape t.o b)
    left (inr b) s u = clash (is_empty t.o.unowned) u b

-- of two turns, the two of a swap, neither leaves a slot
swap_turn : {shape : HeapShape} (p : ℕ) (act : Act) (next since : ℕ → ℕ) (old new : Heap) → ((s : ℕ) → act ≡ acts.Vacate s → ⊥) → Turn shape p act next since old new → (i : ℕ) (o : Object) → At old i o → (s : Stays i o new) × (s.q.slot ≡ o.slot)
unfolding same_stays
swap_turn {shape = shape} p act next since old new other t i o h =
    elim (old-put old.objects new.objects t.o t.q t.put i o h) [
      | inl same ↦ (same_stays i o new same, refl)
      | inr turned ↦
          let slot : t.q.slot ≡ t.o.slot = ⊎_elim (λ s. s) (λ (l : IsLeaving shape act t.o). absurd (other l.0 l.1)) t.place in
          subst (λ r. (s : Stays i r new) × (s.q.slot ≡ r.slot)) (sym turned.0) (
            record {
              q = t.q;
              here = turned.1;
              id = t.id;
              class = t.class;
              slot = λ b. slot;
              entry = λ n w e. ⊎_elim (λ s. s) (λ none. clash (is_empty t.q.weak) none w) (t.entry_stays n e);
              weak = t.weak_stays;
            },
            slot,
          )
    ]

course_stays : {shape : HeapShape} (p : ℕ) (act : Act) (next since : ℕ → ℕ) (old new : Heap) → Course shape p act next since old new → (i : ℕ) (o : Object) → At old i o → Stays i o new
course_stays p act next since old new (still same entries grows claims taken) i o h = same_stays i o new (ap (λ os. slice_get os i) same ∙ h)
course_stays p act next since old new (makes k c s is is_next later grows free) i o h = same_stays i o new (ap (λ (heap : Heap). slice_get heap.objects i) is ∙ end-at old.objects (made p k c s old.objects) i o h)
course_stays p act next since old new (turn t) i o h = turn_stays p act next since old new t i o h
course_stays p act next since old new (turns between mid t u cell left came swaps) i o h =
    let other : (s : ℕ) → act ≡ acts.Vacate s → ⊥ = λ s v. swap≢vacate (sym swaps ∙ v) in
    let a = swap_turn p act next between old mid other t i o h in
    let b = swap_turn p act between since mid new other u i a.0.q a.0.here in record {
      q = b.0.q;
      here = b.0.here;
      id = b.0.id ∙ a.0.id;
      class = b.0.class ∙ a.0.class;
      slot = λ _. b.1 ∙ a.1;
      entry = λ n w e. b.0.entry n w (a.0.entry n (still_weak a.0.q b.0.q b.0.weak w) e);
      weak = λ w. b.0.weak (a.0.weak w);
    }
  where
    still_weak : (m q : Object) → (is_empty m.weak ≡ true → is_empty q.weak ≡ true) → is_empty q.weak ≡ false → is_empty m.weak ≡ false
    still_weak m q stays w = go (is_empty m.weak) refl
      where
        go : (b : Bool) → is_empty m.weak ≡ b → is_empty m.weak ≡ false
        go true is = clash (is_empty q.weak) (stays is) w
        go false is = is

-- an object after a legal event
pub stays_after : (shape : HeapShape) (e : Event) (h : History) → IsLegal shape (e ∷ h) → (i : ℕ) (o : Object) → At (heap_after h) i o → Stays i o (heap_after (e ∷ h))
stays_after shape e h legal = course_stays e.thread e.act (λ q. next_hand q h) (advance (brings e.act) e.thread (λ q. next_hand q h)) (heap_after h) (heap_after (e ∷ h)) (course_after shape e h legal (well_formed shape h legal.1))

-- what a thread holds, later
pub record Held (kind : Kind) (i : ℕ) (o : Object) (new : Heap) : Type 0 where
  pub q : Object
  pub here : At new i q
  pub id : q.id ≡ o.id
  pub class : q.class ≡ o.class
  pub slot : (kind ≡ Weak → ⊥) → q.slot ≡ o.slot
  pub entry : (n : ℕ) → o.entry ≡ Some n → q.entry ≡ Some n

pub strong≢weak : Strong ≡ Weak → ⊥
strong≢weak e = cc

pub listed_busy : (kind : Kind) (z : Holder) (o : Object) → is_in z (list_of kind o) ≡ true → (kind ≡ Weak → ⊥) → Busy o
listed_busy Strong z o h ne = inl (in-not_empty z o.strong h)
listed_busy Unowned z o h ne = inr (in-not_empty z o.unowned h)
listed_busy Weak z o h ne = absurd (ne refl)

pub listed_weak : (shape : HeapShape) (kind : Kind) (z : Holder) (o : Object) → IsWhole shape o → is_in z (list_of kind o) ≡ true → is_empty o.weak ≡ false
listed_weak shape Strong z o w h = busy_weak shape o w (inl (in-not_empty z o.strong h))
listed_weak shape Unowned z o w h = busy_weak shape o w (inr (in-not_empty z o.unowned h))
listed_weak shape Weak z o w h = in-not_empty z o.weak h

-- a hand is in the list of the object that it stands at
pub hand_listed : (shape : HeapShape) (h : History) (p k i : ℕ) (kind : Kind) (o : Object) → IsLegal shape h → spot (Hand p k) (heap_after h) ≡ Some (record { place = i; kind = kind }) → At (heap_after h) i o → is_in (Hand p k) (list_of kind o) ≡ true
hand_listed shape h p k i kind o legal at here = let l = (lookup_after shape h (Hand p k) legal refl).there (record { place = i; kind = kind }) at in
    subst (λ (r : Object). is_in (Hand p k) (list_of kind r) ≡ true) (Some-inj (sym l.1 ∙ here)) l.3

-- the object that a hand stands at
pub hand_object : (shape : HeapShape) (h : History) (p k i : ℕ) (kind : Kind) → IsLegal shape h → spot (Hand p k) (heap_after h) ≡ Some (record { place = i; kind = kind }) → (o : Object) × At (heap_after h) i o
hand_object shape h p k i kind legal at = let l = (lookup_after shape h (Hand p k) legal refl).there (record { place = i; kind = kind }) at in (l.0, l.1)

pub held_stays : (shape : HeapShape) (p k i : ℕ) (kind : Kind) (o : Object) (before after : History) → IsLegal shape (after ++ before) → share after p ≡ []
    → spot (Hand p k) (heap_after before) ≡ Some (record { place = i; kind = kind }) → At (heap_after before) i o → Held kind i o (heap_after (after ++ before))
held_stays shape p k i kind o before [] legal none at here = record { q = o; here = here; id = refl; class = refl; slot = λ _. refl; entry = λ n e. e }
held_stays shape p k i kind o before (e ∷ after) legal none at here =
    let apart = not-among p e after none in
    let ih = held_stays shape p k i kind o before after legal.1 apart.1 at here in
    let mid = (others_leave shape p before after legal.1 apart.1).hands k ∙ at in
    let end = (others_leave shape p before (e ∷ after) legal none).hands k ∙ at in
    let s = stays_after shape e (after ++ before) legal i ih.q ih.here in
    let was = hand_listed shape (after ++ before) p k i kind ih.q legal.1 mid ih.here in
    let is = hand_listed shape (e ∷ after ++ before) p k i kind s.q legal end s.here in
    let whole = (well_formed shape (e ∷ after ++ before) legal).whole i s.q s.here in record {
      q = s.q;
      here = s.here;
      id = s.id ∙ ih.id;
      class = s.class ∙ ih.class;
      slot = λ ne. s.slot (listed_busy kind (Hand p k) ih.q was ne) ∙ ih.slot ne;
      entry = λ n e. s.entry n (listed_weak shape kind (Hand p k) s.q whole is) (ih.entry n e);
    }

pub owed_duty : (p : ℕ) (m : Option Owed) → owed_by p m ≡ Some Deinit → is_duty Deinit m ≡ true
owed_duty p None e = absurd (None≢Some Deinit e)
owed_duty p (Some d) e = go (d.thread == p) e
  where
    go : (b : Bool) → cond b (Some d.duty) None ≡ Some Deinit → is_duty Deinit (Some d) ≡ true
    go true e = ap (λ m. is_duty Deinit (Some (record { thread = p; duty = m }))) (Some-inj e)
    go false e = absurd (None≢Some Deinit e)

-- an object whose deinit a thread owes is busy
pub dying_busy : (shape : HeapShape) (h : History) (p i : ℕ) (o : Object) → IsLegal shape h → At (heap_after h) i o → duty_of p i (heap_after h) ≡ Some Deinit → Busy o
dying_busy shape h p i o legal here duty =
    let owed : owed_by p o.owed ≡ Some Deinit = ap (λ m. duty_in p m) (sym here) ∙ duty in
    let f = dying-facts o ((well_formed shape h legal).whole i o here) (owed_duty p o.owed owed) in
    inr (in-not_empty Strongs o.unowned (tally-in Strongs o.unowned (omega (arith, f.strongs))))

-- it stays in its slot
pub dying_stays : (shape : HeapShape) (p i : ℕ) (o : Object) (before after : History) → IsLegal shape (after ++ before) → share after p ≡ []
    → duty_of p i (heap_after before) ≡ Some Deinit → At (heap_after before) i o → (q : Object) × At (heap_after (after ++ before)) i q × (q.slot ≡ o.slot) × (q.id ≡ o.id)
dying_stays shape p i o before [] legal none duty here = (o, here, refl, refl)
dying_stays shape p i o before (e ∷ after) legal none duty here =
    let apart = not-among p e after none in
    let ih = dying_stays shape p i o before after legal.1 apart.1 duty here in
    let mid = (others_leave shape p before after legal.1 apart.1).duties i ∙ duty in
    let s = stays_after shape e (after ++ before) legal i ih.0 ih.1 in
    (s.q, s.here, s.slot (dying_busy shape (after ++ before) p i ih.0 legal.1 ih.1 mid) ∙ ih.2, s.id ∙ ih.3)

-- a new object that no other thread holds stays so
pub new_stays : (shape : HeapShape) (p s : ℕ) (before after : History) → IsLegal shape (after ++ before) → share after p ≡ [] → IsLegal shape before → IsNew (heap_after before) p s → IsNew (heap_after (after ++ before)) p s
new_stays shape p s before after legal none was n =
    let i : ℕ = n.0 in let o : Object = n.1 in let k : ℕ = n.2 in
    let mine : is_in (Hand p k) o.strong ≡ true = ap (is_in (Hand p k)) n.5.strong ∙ ap (λ b. b || false) (same-refl (Hand p k)) in
    let at = (lookup_after shape before (Hand p k) was refl).only i o Strong n.3 mine in
    let held = held_stays shape p k i Strong o before after legal none at n.3 in
    let u = unshared_stays shape p k before after i o legal none n.3 n.5 in
    let same : held.q ≡ u.0 = Some-inj (sym held.here ∙ u.1) in
    (i, u.0, k, u.1, ap (λ (r : Object). r.slot) (sym same) ∙ held.slot strong≢weak ∙ n.4, u.2)
