-- A hand stands in one list of one object until it ends, and leads to that object's slot, or entry, all the while.
use Rattle.std.proofs.Common.{◌≡◌, ℕ, Bool, true, false, cond, [], ◌∷◌, Option, Some, ◌⊎◌, inl, inr, refl, sym, ap, ◌∙◌, subst}
use Rattle.std.specs.Prelude.{is_some, slice_get}
use Rattle.std.proofs.lemmas.Bool.{eqb-true}
use Rattle.arc_model.specs.declared.event.Act.{Act}
use Rattle.arc_model.specs.declared.event.Event.{Event}
use Rattle.arc_model.specs.declared.shape.Kind.{Kind}
use Rattle.arc_model.specs.declared.shape.Kind.TheVariants.{Strong, Unowned, Weak}
use Rattle.arc_model.specs.Shapes.{HeapShape}
use Rattle.arc_model.specs.Heaps.{Hand, Object, Heap}
use Rattle.arc_model.specs.Holders.{is_empty, is_in, list_of}
use Rattle.arc_model.specs.Effects.{made}
use Rattle.arc_model.specs.History.{History, heap_after, next_hand, brings, is_of, IsLegal}
use Rattle.arc_model.specs.Lookup.{spot}
use Rattle.arc_model.specs.Own.{ends_hand}
use Rattle.arc_model.specs.References.{place_of}
use Rattle.arc_model.specs.Cells.{strong_holders}
use Rattle.arc_model.proofs.Basics.{Some-inj, in-not_empty, in-strong}
use Rattle.arc_model.proofs.Builds.{advance}
use Rattle.arc_model.proofs.Courses.{course_after, well_formed}
use Rattle.arc_model.proofs.Keeps.{end-at, Course, still, makes, turn, turns}
use Rattle.arc_model.proofs.Others.{lookup_after, others_leave, own_leave}
use Rattle.arc_model.proofs.Steps.{step_after}
use Rattle.arc_model.proofs.Tally.{clash}
use Rattle.arc_model.proofs.Turns.{old-put, IsLeaving, Turn}

-- ---- an object's entry

-- the object at a place after a turn
record Turned (i : ℕ) (o : Object) (new : Heap) : Type 0 where
  q : Object
  here : slice_get new.objects i ≡ Some q
  entry : (n : ℕ) → o.entry ≡ Some n → (q.entry ≡ Some n) ⊎ (is_empty q.weak ≡ true)
  weak : is_empty o.weak ≡ true → is_empty q.weak ≡ true

same-turned : (i : ℕ) (o : Object) (new : Heap) → slice_get new.objects i ≡ Some o → Turned i o new
same-turned i o new h = record { q = o; here = h; entry = λ n e. inl e; weak = λ e. e }

turn-turned : {shape : HeapShape} (p : ℕ) (act : Act) (next since : ℕ → ℕ) (old new : Heap) → Turn shape p act next since old new → (i : ℕ) (o : Object) → slice_get old.objects i ≡ Some o → Turned i o new
turn-turned p act next since old new t i o h =
    elim (old-put old.objects new.objects t.o t.q t.put i o h) [
      | inl same ↦ same-turned i o new same
      | inr turned ↦ subst (λ r. Turned i r new) (sym turned.0) (record { q = t.q; here = turned.1; entry = t.entry_stays; weak = t.weak_stays })
    ]

course-turned : {shape : HeapShape} (p : ℕ) (act : Act) (next since : ℕ → ℕ) (old new : Heap) → Course shape p act next since old new → (i : ℕ) (o : Object) → slice_get old.objects i ≡ Some o → Turned i o new
course-turned p act next since old new (still same entries grows claims taken) i o h = same-turned i o new (ap (λ os. slice_get os i) same ∙ h)
course-turned p act next since old new (makes k c s is is_next later grows free) i o h = same-turned i o new (ap (λ (heap : Heap). slice_get heap.objects i) is ∙ end-at old.objects (made p k c s old.objects) i o h)
course-turned p act next since old new (turn t) i o h = turn-turned p act next since old new t i o h
course-turned p act next since old new (turns between mid t u cell left came swaps) i o h =
    let a = turn-turned p act next between old mid t i o h in
    let b = turn-turned p act between since mid new u i a.q a.here in record {
      q = b.q;
      here = b.here;
      entry = λ n e. elim (a.entry n e) [
        | inl same ↦ b.entry n same
        | inr empty ↦ inr (b.weak empty)
      ];
      weak = λ e. b.weak (a.weak e);
    }

-- ---- hands

-- Hand j of p stands in the list of this kind of the i-th object, which has this class, and leads to this place.
pub record Fit (p j i : ℕ) (kind : Kind) (class : ℕ) (place : Option ℕ) (heap : Heap) : Type 0 where
  pub at : spot (Hand p j) heap ≡ Some (record { place = i; kind = kind })
  pub object : Object
  pub here : slice_get heap.objects i ≡ Some object
  pub is_class : object.class ≡ class
  pub placed : (n : ℕ) → place ≡ Some n → place_of kind object ≡ Some n

-- the hand is in that list
pub fit-in : (shape : HeapShape) (h : History) → IsLegal shape h → (p j i : ℕ) (kind : Kind) (o : Object) → spot (Hand p j) (heap_after h) ≡ Some (record { place = i; kind = kind }) → slice_get (heap_after h).objects i ≡ Some o →
    is_in (Hand p j) (list_of kind o) ≡ true
fit-in shape h legal p j i kind o at here =
    let l = (lookup_after shape h (Hand p j) legal refl).there (record { place = i; kind = kind }) at in
    ap (λ r. is_in (Hand p j) (list_of kind r)) (Some-inj (sym here ∙ l.1)) ∙ l.3

spot-step : (shape : HeapShape) (e : Event) (g : History) → IsLegal shape (e ∷ g) → (p j : ℕ) → (is_of p e ≡ true → ends_hand j e.act ≡ false) → is_some (spot (Hand p j) (heap_after g)) ≡ true → spot (Hand p j) (heap_after (e ∷ g)) ≡ spot (Hand p j) (heap_after g)
spot-step shape e g legal p j keeps here = go (is_of p e) refl
  where
    mine : (q : ℕ) → e.thread ≡ q → ends_hand j e.act ≡ false → is_some (spot (Hand q j) (heap_after g)) ≡ true → spot (Hand q j) (heap_after (e ∷ g)) ≡ spot (Hand q j) (heap_after g)
    mine q same kept here =
        ap (λ r. spot (Hand r j) (heap_after (e ∷ g))) (sym same) ∙ own_leave shape g e j legal (ap (λ r. is_some (spot (Hand r j) (heap_after g))) same ∙ here) kept ∙ ap (λ r. spot (Hand r j) (heap_after g)) same

    go : (b : Bool) → is_of p e ≡ b → spot (Hand p j) (heap_after (e ∷ g)) ≡ spot (Hand p j) (heap_after g)
    go true x = mine p (eqb-true e.thread p x) (keeps x) here
    go false x = (others_leave shape p g (e ∷ []) legal (ap (λ b. cond b (e ∷ []) []) x)).hands j

pub fit-step : (shape : HeapShape) (e : Event) (g : History) → IsLegal shape (e ∷ g) → (p j i : ℕ) (kind : Kind) (class : ℕ) (place : Option ℕ) → (is_of p e ≡ true → ends_hand j e.act ≡ false) → Fit p j i kind class place (heap_after g) → Fit p j i kind class place (heap_after (e ∷ g))
fit-step shape e g legal p j i kind class place keeps f =
    let s = step_after shape e g legal i f.object f.here in
    let at = spot-step shape e g legal p j keeps (ap is_some f.at) ∙ f.at in
    record { at = at; object = s.q; here = s.here; is_class = s.class ∙ f.is_class; placed = λ n is. stays kind (fit-in shape g legal.1 p j i kind f.object f.at f.here) (fit-in shape (e ∷ g) legal p j i kind s.q at s.here) n (f.placed n is) }
  where
    slot : (o q : Object) (kind : Kind) → (kind ≡ Weak → ⊥) → (q.slot ≡ o.slot) ⊎ IsLeaving shape e.act o → is_in (Hand p j) (list_of kind o) ≡ true → q.slot ≡ o.slot
    slot o q Strong k (inl same) inside = same
    slot o q Unowned k (inl same) inside = same
    slot o q Weak k r inside = absurd (k refl)
    slot o q Strong k (inr leaves) inside = clash (is_empty (strong_holders shape o)) leaves.3 (in-strong shape (Hand p j) o inside)
    slot o q Unowned k (inr leaves) inside = clash (is_empty o.unowned) leaves.4 (in-not_empty (Hand p j) o.unowned inside)

    course : Course shape e.thread e.act (λ q. next_hand q g) (advance (brings e.act) e.thread (λ q. next_hand q g)) (heap_after g) (heap_after (e ∷ g))
    course = course_after shape e g legal (well_formed shape g legal.1)

    q : Object
    q = (step_after shape e g legal i f.object f.here).q

    stays : (k : Kind) → is_in (Hand p j) (list_of k f.object) ≡ true → is_in (Hand p j) (list_of k q) ≡ true → (n : ℕ) → place_of k f.object ≡ Some n → place_of k q ≡ Some n
    stays Strong a b n is = slot f.object q Strong (λ x. cc) (step_after shape e g legal i f.object f.here).place a ∙ is
    stays Unowned a b n is = slot f.object q Unowned (λ x. cc) (step_after shape e g legal i f.object f.here).place a ∙ is
    stays Weak a b n is =
        let t = course-turned e.thread e.act (λ r. next_hand r g) (advance (brings e.act) e.thread (λ r. next_hand r g)) (heap_after g) (heap_after (e ∷ g)) course i f.object f.here in
        let same : t.q ≡ q = Some-inj (sym t.here ∙ (step_after shape e g legal i f.object f.here).here) in
        weak t.q same (t.entry n is)
      where
        weak : (r : Object) → r ≡ q → (r.entry ≡ Some n) ⊎ (is_empty r.weak ≡ true) → q.entry ≡ Some n
        weak r same (inl is') = ap (λ (x : Object). x.entry) (sym same) ∙ is'
        weak r same (inr empty) = clash (is_empty q.weak) (ap (λ (x : Object). is_empty x.weak) (sym same) ∙ empty) (in-not_empty (Hand p j) q.weak b)
