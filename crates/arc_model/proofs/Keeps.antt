-- A well-formed heap stays so through each form of change.
use Rattle.std.proofs.Common.{◌≡◌, ◌≢◌, ℕ, zero, suc, ◌+◌, ◌≤◌, Bool, true, false, cond, eqb, List, [], ◌∷◌, ◌++◌, Option, Some, ◌⊎◌, inl, inr, refl, sym, ap, ◌∙◌, subst, arith}
use Rattle.std.specs.Prelude.{find, slice_get, is_some, nat_lt, length, ◌||◌}
use Rattle.std.proofs.lemmas.Bool.{and_parts, cases_eq, eq-eqb, ne_eqb, eqb-true}
use Rattle.std.proofs.lemmas.List.Sums.{sum_by-cons}
use Rattle.arc_model.specs.Shapes.{HeapShape, class_at}
use Rattle.arc_model.specs.declared.event.ObjectId.{ObjectId}
use Rattle.arc_model.specs.declared.event.CellName.{CellName}
use Rattle.arc_model.specs.declared.event.Act.{Act}
use Rattle.arc_model.specs.declared.event.Act.TheVariants as acts
use Rattle.arc_model.proofs.Basics.{true≢false, None≢Some}
use Rattle.arc_model.proofs.Stages.{immortal-slot}
use Rattle.arc_model.proofs.Tally.{no, clash, both, same-eq}
use Rattle.arc_model.proofs.Turns.{Turn, goes, comes, total-append, total-put, at-put, old-put, place-put, held-turn, fewer-turn}
use Rattle.arc_model.specs.Effects.{effect, made}
use Rattle.arc_model.specs.Heaps.{Holder, Hand, Field, Global, Strongs, Unowneds, Forever, Deinit, Object, Heap}
use Rattle.arc_model.specs.Cells.{has_field, is_immortal, is_live}
use Rattle.arc_model.specs.Holders.{same_holder, same_id, is_duty, made_by, in_slot, is_claimed_by}
use Rattle.arc_model.specs.WellFormed.{more, held, total, in_slot_times, has_entry_times, named_times, claimed_times, stray, is_own, IsWhole, live, keeps_fields, HasField, IsWellFormed}

-- the objects that thread p made, as a total
abbrev pub by_times : ℕ → Object → ℕ
by_times p o = more (eqb o.id.thread p) zero

pub made-total : (p : ℕ) (os : List Object) → made_by p os ≡ total (by_times p) os
made-total p [] = refl
made-total p (o ∷ os) = sum_by-cons (λ (q : Object). cond (eqb q.id.thread p) 1 0) o os ∙ go (eqb o.id.thread p) (made-total p os)
  where
    go : (b : Bool) → made_by p os ≡ total (by_times p) os → cond b 1 0 + made_by p os ≡ more b zero + total (by_times p) os
    go true ih = ap (λ n. 1 + n) ih
    go false ih = ap (λ n. 0 + n) ih

-- a live object keeps its fields
pub live-keeps : (shape : HeapShape) (o : Object) → is_live shape o ≡ true → keeps_fields shape o ≡ true
live-keeps shape o h = ap (λ b. b || is_duty Deinit o.owed) h

pub kept-turn : {shape : HeapShape} (p : ℕ) (act : Act) (next since : ℕ → ℕ) (old new : Heap) → Turn shape p act next since old new → IsWellFormed shape next old → IsWellFormed shape since new
kept-turn {shape = shape} p act next since old new t f = record {
  whole = λ i r h. elim (at-put old.objects new.objects t.o t.q t.put i r h) [
    | inl e ↦ subst (IsWhole shape) (sym e) t.whole
    | inr e ↦ f.whole i r e
  ];
  immortal = λ i r h forever. elim (at-put old.objects new.objects t.o t.q t.put i r h) [
    | inl e ↦
        let its : is_immortal shape t.o ≡ true = ap (λ c. (class_at shape c).immortal) (sym t.class) ∙ ap (is_immortal shape) (sym e) ∙ forever in
        let place = place-put old.objects new.objects t.o t.q t.put in (
          ap (λ (o : Object). is_some o.slot) e ∙ immortal-slot t.q t.whole (ap (is_immortal shape) (sym e) ∙ forever),
          ap (λ (o : Object). o.entry) e ∙ t.unentered its (f.immortal place.0 t.o place.1 its).1,
        )
    | inr e ↦ f.immortal i r e forever
  ];
  none_strays = λ i r h. elim (at-put old.objects new.objects t.o t.q t.put i r h) [
    | inl e ↦
        let a = fewer-turn p act next since old new t Strongs t.no_strongs in
        let b = fewer-turn p act next since old new t Unowneds t.no_unowneds in
        let d = fewer-turn p act next since old new t Forever t.no_forever in
        let a0 = a.0 in let a2 = a.2 in let b0 = b.0 in let b1 = b.1 in let d0 = d.0 in let d1 = d.1 in let d2 = d.2 in
        let place = place-put old.objects new.objects t.o t.q t.put in
        let c = f.none_strays place.0 t.o place.1 in
        ap stray e ∙ (let g : stray t.q ≡ 0 = omega arith in g)
    | inr e ↦ f.none_strays i r e
  ];
  once = λ z own. once z own (goes t.edit z) (comes t.edit z) refl refl;
  fresh = λ r k h. fresh r k h (goes t.edit (Hand r k)) (comes t.edit (Hand r k)) refl refl;
  slots = λ s. let a = total-put (in_slot_times s) old.objects new.objects t.o t.q t.put in let b = t.slots s in let c = f.slots s in omega arith;
  entries = λ e. let a = total-put (has_entry_times e) old.objects new.objects t.o t.q t.put in let b = t.entries e in let c = f.entries e in omega arith;
  numbered = λ r n h. let a = f.numbered r n (let m = made r in omega arith) in named (record { thread = r; number = suc n }) ∙ a;
  no_other = λ r n h. let a = f.no_other r n (let m = made r in omega arith) in named (record { thread = r; number = suc n }) ∙ a;
  no_zero = λ r. named (record { thread = r; number = zero }) ∙ f.no_zero r;
  owned = λ id g h. owned id g h (goes t.edit (Field id g)) (comes t.edit (Field id g)) refl refl;
}
  where
    stays : (id : ObjectId) (g : ℕ) → HasField shape (keeps_fields shape) id g old → 1 ≤ total (held (Field id g)) old.objects → HasField shape (keeps_fields shape) id g new
    stays id g has one = elim (old-put old.objects new.objects t.o t.q t.put has.place has.object has.here) [
      | inl same ↦ record { place = has.place; object = has.object; here = same; named = has.named; field = has.field; passing = has.passing }
      | inr turned ↦
          let its : has_field shape g t.o ≡ true = ap (has_field shape g) (sym turned.0) ∙ has.field in
          elim (t.fields (ap (keeps_fields shape) (sym turned.0) ∙ has.passing)) [
            | inl keeps ↦ record {
              place = has.place;
              object = t.q;
              here = turned.1;
              named = t.id ∙ ap (λ (o : Object). o.id) (sym turned.0) ∙ has.named;
              field = ap (λ c. nat_lt g (length (class_at shape c).fields)) t.class ∙ its;
              passing = keeps;
            }
            | inr nil ↦ let a : total (held (Field id g)) old.objects ≡ 0 = ap (λ n. total (held (Field n g)) old.objects) (sym has.named ∙ ap (λ (o : Object). o.id) turned.0) ∙ nil g its in absurd (omega arith)
          ]
    ]

    owned : (id : ObjectId) (g : ℕ) → 1 ≤ total (held (Field id g)) new.objects → (a b : Bool) → goes t.edit (Field id g) ≡ a → comes t.edit (Field id g) ≡ b → HasField shape (keeps_fields shape) id g new
    owned id g h a true ga gb = let has = t.puts_in id g gb in record { place = has.place; object = has.object; here = has.here; named = has.named; field = has.field; passing = live-keeps shape has.object has.passing }
    owned id g h true false ga gb = let e = held-turn p act next since old new t (Field id g) true false ga gb in let one : 1 ≤ total (held (Field id g)) old.objects = omega arith in stays id g (f.owned id g one) one
    owned id g h false false ga gb = let e = held-turn p act next since old new t (Field id g) false false ga gb in let one : 1 ≤ total (held (Field id g)) old.objects = omega arith in stays id g (f.owned id g one) one

    once : (z : Holder) → is_own z ≡ true → (a b : Bool) → goes t.edit z ≡ a → comes t.edit z ≡ b → total (held z) new.objects ≤ 1
    once z own true true ga gb = let e = held-turn p act next since old new t z true true ga gb in let s = t.absent z own gb in omega arith
    once z own false true ga gb = let e = held-turn p act next since old new t z false true ga gb in let s = t.absent z own gb in omega arith
    once z own true false ga gb = let e = held-turn p act next since old new t z true false ga gb in let s = f.once z own in omega arith
    once z own false false ga gb = let e = held-turn p act next since old new t z false false ga gb in let s = f.once z own in omega arith

    fresh : (r k : ℕ) → since r ≤ k → (a b : Bool) → goes t.edit (Hand r k) ≡ a → comes t.edit (Hand r k) ≡ b → total (held (Hand r k)) new.objects ≡ 0
    fresh r k h a true ga gb = let m = (t.mine r k gb).1 in absurd (omega arith)
    fresh r k h true false ga gb = let e = held-turn p act next since old new t (Hand r k) true false ga gb in let g = t.grows r in let s = f.fresh r k (omega arith) in omega arith
    fresh r k h false false ga gb = let e = held-turn p act next since old new t (Hand r k) false false ga gb in let g = t.grows r in let s = f.fresh r k (omega arith) in omega arith

    made : (r : ℕ) → made_by r new.objects ≡ made_by r old.objects
    made r =
        let a = total-put (by_times r) old.objects new.objects t.o t.q t.put in
        let b : by_times r t.q ≡ by_times r t.o = ap (λ id. more (eqb id.thread r) zero) t.id in
        let c = made-total r old.objects in
        let d = made-total r new.objects in omega arith

    named : (id : ObjectId) → total (named_times id) new.objects ≡ total (named_times id) old.objects
    named id =
        let a = total-put (named_times id) old.objects new.objects t.o t.q t.put in
        let b : named_times id t.q ≡ named_times id t.o = ap (λ n. more (same_id id n) zero) t.id in omega arith

pub none-total : (test : Object → Bool) (os : List Object) → is_some (find test os) ≡ false → total (λ o. more (test o) zero) os ≡ 0
none-total test [] h = refl
none-total test (o ∷ os) h = go (test o) h (none-total test os)
  where
    go : (b : Bool) → is_some (cond b (Some o) (find test os)) ≡ false → (is_some (find test os) ≡ false → total (λ o. more (test o) zero) os ≡ 0) → more b zero + total (λ o. more (test o) zero) os ≡ 0
    go true h ih = absurd (true≢false h)
    go false h ih = ap (λ n. 0 + n) (ih h)

at-end : (os : List Object) (o : Object) (i : ℕ) (r : Object) → slice_get (os ++ o ∷ []) i ≡ Some r → (r ≡ o) ⊎ (slice_get os i ≡ Some r)
at-end [] o zero r h = inl (some-inj (sym h))
  where
    some-inj : {a b : Object} → Some a ≡ Some b → a ≡ b
    some-inj e = cc
at-end [] o (suc i) r h = inr h
at-end (q ∷ os) o zero r h = inr h
at-end (q ∷ os) o (suc i) r h = at-end os o i r h

pub end-at : (os : List Object) (o : Object) (i : ℕ) (r : Object) → slice_get os i ≡ Some r → slice_get (os ++ o ∷ []) i ≡ Some r
end-at [] o i r h = absurd (None≢Some r h)
end-at (q ∷ os) o zero r h = h
end-at (q ∷ os) o (suc i) r h = end-at os o i r h

pub total-end : (w : Object → ℕ) (os : List Object) (o : Object) → total w (os ++ o ∷ []) ≡ total w os + w o
total-end w os o = let a = total-append w os (o ∷ []) in omega arith

pub held-made : (z : Holder) (p k c s : ℕ) (os : List Object) → is_own z ≡ true → held z (made p k c s os) ≡ more (same_holder z (Hand p k)) zero
held-made (Hand r n) p k c s os own = omega arith
held-made (Field o f) p k c s os own = refl
held-made (Global g) p k c s os own = refl
held-made Strongs p k c s os own = no own
held-made Unowneds p k c s os own = no own
held-made Forever p k c s os own = no own

pub kept-made : {shape : HeapShape} (p k c s : ℕ) (next since : ℕ → ℕ) (old : Heap) → k ≡ next p → suc k ≤ since p → ((r : ℕ) → next r ≤ since r) → is_some (find (in_slot s) old.objects) ≡ false → IsWellFormed shape next old → IsWellFormed shape since (effect p (acts.New k c s) old)
kept-made {shape = shape} p k c s next since old is_next later grows free f = record {
  whole = λ i r h. elim (at-end old.objects it i r h) [
    | inl e ↦ subst (IsWhole shape) (sym e) (live refl refl refl refl refl (λ _. refl))
    | inr e ↦ f.whole i r e
  ];
  immortal = λ i r h forever. elim (at-end old.objects it i r h) [
    | inl e ↦ (ap (λ (o : Object). is_some o.slot) e, ap (λ (o : Object). o.entry) e)
    | inr e ↦ f.immortal i r e forever
  ];
  none_strays = λ i r h. elim (at-end old.objects it i r h) [
    | inl e ↦ ap stray e
    | inr e ↦ f.none_strays i r e
  ];
  once = λ z own. let a = total-end (held z) old.objects it in let b = held-made z p k c s old.objects own in once z own (same_holder z (Hand p k)) refl (a ∙ ap (λ n. total (held z) old.objects + n) b);
  fresh = λ r n h. let a = total-end (held (Hand r n)) old.objects it in let b = held-made (Hand r n) p k c s old.objects refl in fresh r n h (same_holder (Hand r n) (Hand p k)) refl (a ∙ ap (λ m. total (held (Hand r n)) old.objects + m) b);
  slots = λ t. slots t (eqb s t) refl (total-end (in_slot_times t) old.objects it);
  entries = λ e. let a = total-end (has_entry_times e) old.objects it in let b = f.entries e in omega arith;
  numbered = λ r n h. numbered r n h (same_id (record { thread = r; number = suc n }) it.id) refl (total-end (named_times (record { thread = r; number = suc n })) old.objects it);
  no_other = λ r n h. no_other r n h (same_id (record { thread = r; number = suc n }) it.id) refl (total-end (named_times (record { thread = r; number = suc n })) old.objects it);
  no_zero = λ r. no_zero r (same_id (record { thread = r; number = zero }) it.id) refl (total-end (named_times (record { thread = r; number = zero })) old.objects it);
  owned = λ id g h.
      let a = total-end (held (Field id g)) old.objects it in
      let b = held-made (Field id g) p k c s old.objects refl in
      let has = f.owned id g (omega arith) in record {
        place = has.place;
        object = has.object;
        here = end-at old.objects it has.place has.object has.here;
        named = has.named;
        field = has.field;
        passing = has.passing;
      };
}
  where
    it : Object
    it = made p k c s old.objects

    once : (z : Holder) → is_own z ≡ true → (b : Bool) → same_holder z (Hand p k) ≡ b → total (held z) (old.objects ++ it ∷ []) ≡ total (held z) old.objects + more b zero → total (held z) (old.objects ++ it ∷ []) ≤ 1
    once z own true e t = let a : total (held z) old.objects ≡ 0 = ap (λ x. total (held x) old.objects) (same-eq z (Hand p k) e) ∙ f.fresh p k (omega arith) in omega arith
    once z own false e t = let a = f.once z own in omega arith

    fresh : (r n : ℕ) → since r ≤ n → (b : Bool) → same_holder (Hand r n) (Hand p k) ≡ b → total (held (Hand r n)) (old.objects ++ it ∷ []) ≡ total (held (Hand r n)) old.objects + more b zero → total (held (Hand r n)) (old.objects ++ it ∷ []) ≡ 0
    fresh r n h true e t =
        let g = and_parts (eqb r p) (eqb n k) e in
        let a : since r ≡ since p = ap since (eqb-true r p g.0) in
        let b : n ≡ k = eqb-true n k g.1 in absurd (omega arith)
    fresh r n h false e t = let g = grows r in let a = f.fresh r n (omega arith) in omega arith

    slots : (t : ℕ) (b : Bool) → eqb s t ≡ b → total (in_slot_times t) (old.objects ++ it ∷ []) ≡ total (in_slot_times t) old.objects + more (eqb s t) zero → total (in_slot_times t) (old.objects ++ it ∷ []) ≤ 1
    slots t true e h =
        let a : total (in_slot_times t) old.objects ≡ 0 = ap (λ u. total (in_slot_times u) old.objects) (sym (eqb-true s t e)) ∙ none-total (in_slot s) old.objects free in
        let b : more (eqb s t) zero ≡ 1 = ap (λ c. more c zero) e in omega arith
    slots t false e h =
        let a = f.slots t in
        let b : more (eqb s t) zero ≡ 0 = ap (λ c. more c zero) e in omega arith

    made-end : (r : ℕ) → made_by r (old.objects ++ it ∷ []) ≡ made_by r old.objects + more (eqb p r) zero
    made-end r = made-total r (old.objects ++ it ∷ []) ∙ total-end (by_times r) old.objects it ∙ ap (λ n. n + more (eqb p r) zero) (sym (made-total r old.objects))

    numbered : (r n : ℕ) → suc n ≤ made_by r (old.objects ++ it ∷ []) → (b : Bool) → same_id (record { thread = r; number = suc n }) it.id ≡ b → total (named_times (record { thread = r; number = suc n })) (old.objects ++ it ∷ []) ≡ total (named_times (record { thread = r; number = suc n })) old.objects + more (same_id (record { thread = r; number = suc n }) it.id) zero → total (named_times (record { thread = r; number = suc n })) (old.objects ++ it ∷ []) ≡ 1
    numbered r n h true e t =
        let g = and_parts (eqb r p) (eqb (suc n) (made_by p old.objects + 1)) e in
        let a : made_by r old.objects ≡ made_by p old.objects = ap (λ q. made_by q old.objects) (eqb-true r p g.0) in
        let b = eqb-true (suc n) (made_by p old.objects + 1) g.1 in
        let c = f.no_other r n (omega arith) in
        let d : more (same_id (record { thread = r; number = suc n }) it.id) zero ≡ 1 = ap (λ c. more c zero) e in omega arith
    numbered r n h false e t =
        let d : more (same_id (record { thread = r; number = suc n }) it.id) zero ≡ 0 = ap (λ c. more c zero) e in
        let c = f.numbered r n (below (cases_eq p r)) in omega arith
      where
        below : (p ≡ r) ⊎ (p ≢ r) → suc n ≤ made_by r old.objects
        below (inl same) =
            elim (cases_eq (suc n) (made_by p old.objects + 1)) [
              | inl last ↦ clash (same_id (record { thread = r; number = suc n }) it.id) (both (eqb r p) (eqb (suc n) (made_by p old.objects + 1)) (eq-eqb r p (sym same)) (eq-eqb (suc n) (made_by p old.objects + 1) last)) e
              | inr other ↦
                  let a = made-end r in
                  let b : more (eqb p r) zero ≡ 1 = ap (λ c. more c zero) (eq-eqb p r same) in
                  let m : made_by r old.objects ≡ made_by p old.objects = ap (λ q. made_by q old.objects) (sym same) in omega arith
            ]
        below (inr other) = let a = made-end r in let b : more (eqb p r) zero ≡ 0 = ap (λ c. more c zero) (ne_eqb p r other) in omega arith

    no_other : (r n : ℕ) → made_by r (old.objects ++ it ∷ []) ≤ n → (b : Bool) → same_id (record { thread = r; number = suc n }) it.id ≡ b → total (named_times (record { thread = r; number = suc n })) (old.objects ++ it ∷ []) ≡ total (named_times (record { thread = r; number = suc n })) old.objects + more (same_id (record { thread = r; number = suc n }) it.id) zero → total (named_times (record { thread = r; number = suc n })) (old.objects ++ it ∷ []) ≡ 0
    no_other r n h true e t =
        let g = and_parts (eqb r p) (eqb (suc n) (made_by p old.objects + 1)) e in
        let a : made_by r old.objects ≡ made_by p old.objects = ap (λ q. made_by q old.objects) (eqb-true r p g.0) in
        let b = eqb-true (suc n) (made_by p old.objects + 1) g.1 in
        let m = made-end r in
        let d : more (eqb p r) zero ≡ 1 = ap (λ c. more c zero) (eq-eqb p r (sym (eqb-true r p g.0))) in absurd (omega arith)
    no_other r n h false e t =
        let d : more (same_id (record { thread = r; number = suc n }) it.id) zero ≡ 0 = ap (λ c. more c zero) e in
        let m = made-end r in
        let c = f.no_other r n (omega arith) in omega arith

    no_zero : (r : ℕ) (b : Bool) → same_id (record { thread = r; number = zero }) it.id ≡ b → total (named_times (record { thread = r; number = zero })) (old.objects ++ it ∷ []) ≡ total (named_times (record { thread = r; number = zero })) old.objects + more (same_id (record { thread = r; number = zero }) it.id) zero → total (named_times (record { thread = r; number = zero })) (old.objects ++ it ∷ []) ≡ 0
    no_zero r true e t =
        let g = and_parts (eqb r p) (eqb zero (made_by p old.objects + 1)) e in
        let b = eqb-true zero (made_by p old.objects + 1) g.1 in absurd (omega arith)
    no_zero r false e t =
        let d : more (same_id (record { thread = r; number = zero }) it.id) zero ≡ 0 = ap (λ c. more c zero) e in
        let c = f.no_zero r in omega arith

-- the forms of an event
pub data Course (shape : HeapShape) (p : ℕ) (act : Act) (next since : ℕ → ℕ) (old new : Heap) : Type 0 where
  still : new.objects ≡ old.objects → ((e : ℕ) → total (has_entry_times e) old.objects + claimed_times e new.claims ≤ 1) → ((r : ℕ) → next r ≤ since r) → ((r : ℕ) → (r ≡ p → ⊥) → (e : ℕ) → is_claimed_by r e new ≡ is_claimed_by r e old) → ((e : ℕ) → (claimed_times e old.claims ≤ claimed_times e new.claims) ⊎ (act ≡ acts.Back e)) → Course shape p act next since old new
  makes : (k c s : ℕ) → new ≡ effect p (acts.New k c s) old → k ≡ next p → suc k ≤ since p → ((r : ℕ) → next r ≤ since r) → is_some (find (in_slot s) old.objects) ≡ false → Course shape p act next since old new
  turn : Turn shape p act next since old new → Course shape p act next since old new
  turns : (between : ℕ → ℕ) (mid : Heap) → Turn shape p act next between old mid → Turn shape p act between since mid new → (c : CellName) (h k : Option ℕ) → act ≡ acts.Swap c h k → Course shape p act next since old new

pub kept-still : {shape : HeapShape} (next since : ℕ → ℕ) (os : List Object) (old new : Heap) → old.objects ≡ os → new.objects ≡ os → ((e : ℕ) → total (has_entry_times e) old.objects + claimed_times e new.claims ≤ 1) → ((r : ℕ) → next r ≤ since r) → IsWellFormed shape next old → IsWellFormed shape since new
kept-still next since os old new was is entries grows f =
    let same : new.objects ≡ old.objects = is ∙ sym was in record {
      whole = λ i o h. f.whole i o (ap (λ qs. slice_get qs i) (sym same) ∙ h);
      immortal = λ i o h. f.immortal i o (ap (λ qs. slice_get qs i) (sym same) ∙ h);
      none_strays = λ i o h. f.none_strays i o (ap (λ qs. slice_get qs i) (sym same) ∙ h);
      once = λ z own. let a : total (held z) new.objects ≡ total (held z) old.objects = ap (total (held z)) same in let b = f.once z own in omega arith;
      fresh = λ r k h. ap (total (held (Hand r k))) same ∙ f.fresh r k (let g = grows r in omega arith);
      slots = λ s. let a : total (in_slot_times s) new.objects ≡ total (in_slot_times s) old.objects = ap (total (in_slot_times s)) same in let b = f.slots s in omega arith;
      entries = λ e. let a : total (has_entry_times e) new.objects ≡ total (has_entry_times e) old.objects = ap (total (has_entry_times e)) same in let b = entries e in omega arith;
      numbered = λ r n h. ap (total (named_times (record { thread = r; number = suc n }))) same ∙ f.numbered r n (let m : made_by r new.objects ≡ made_by r old.objects = ap (made_by r) same in omega arith);
      no_other = λ r n h. ap (total (named_times (record { thread = r; number = suc n }))) same ∙ f.no_other r n (let m : made_by r new.objects ≡ made_by r old.objects = ap (made_by r) same in omega arith);
      no_zero = λ r. ap (total (named_times (record { thread = r; number = zero }))) same ∙ f.no_zero r;
      owned = λ id g h.
          let a : total (held (Field id g)) new.objects ≡ total (held (Field id g)) old.objects = ap (total (held (Field id g))) same in
          let has = f.owned id g (omega arith) in record {
            place = has.place;
            object = has.object;
            here = ap (λ qs. slice_get qs has.place) same ∙ has.here;
            named = has.named;
            field = has.field;
            passing = has.passing;
          };
    }

pub kept : {shape : HeapShape} (p : ℕ) (act : Act) (next since : ℕ → ℕ) (old new : Heap) → Course shape p act next since old new → IsWellFormed shape next old → IsWellFormed shape since new
kept p act next since old new (still same entries grows claims taken) f = kept-still next since old.objects old new refl same entries grows f
kept {shape = shape} p act next since old new (makes k c s is is_next later grows free) f = subst (IsWellFormed shape since) (sym is) (kept-made p k c s next since old is_next later grows free f)
kept p act next since old new (turn t) f = kept-turn p act next since old new t f
kept p act next since old new (turns between mid t u c h k is) f = kept-turn p act between since mid new u (kept-turn p act next between old mid t f)
