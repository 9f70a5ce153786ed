-- What an event leaves as it was: what other threads have, a thread's other hands, duties that it doesn't end.
use Rattle.std.proofs.Common.{◌≡◌, ℕ, zero, suc, ◌≤◌, Bool, true, false, cond, eqb, List, [], ◌∷◌, ◌++◌, Option, Some, None, ◌⊎◌, inl, inr, refl, sym, ap, ◌∙◌, subst, arith}
use Rattle.std.specs.Prelude.{◌||◌, find, slice_get, is_some}
use Rattle.std.proofs.lemmas.Bool.{and_parts, eqb-true, eq-eqb}
use Rattle.arc_model.specs.Shapes.{HeapShape}
use Rattle.arc_model.specs.declared.event.Act.{Act}
use Rattle.arc_model.specs.declared.event.Event.{Event}
use Rattle.arc_model.specs.declared.shape.Kind.{Kind}
use Rattle.arc_model.specs.declared.shape.Kind.TheVariants.{Strong, Unowned, Weak}
use Rattle.arc_model.proofs.Basics.{true≢false, None≢Some}
use Rattle.arc_model.proofs.Builds.{advance}
use Rattle.arc_model.proofs.Courses.{course_after, well_formed, held-is}
use Rattle.arc_model.proofs.Keeps.{Course, still, makes, turn, turns, held-made}
use Rattle.arc_model.proofs.Stages.{holds-held, in-kind}
use Rattle.arc_model.proofs.Tally.{clash, is_pos, is_in-tally, in-tally, le-pos}
use Rattle.arc_model.proofs.Turns.{spot-append, same-put, Edit, edited, goes, comes, Fits, tally-edited, Turn}
use Rattle.arc_model.specs.Effects.{made}
use Rattle.arc_model.specs.Heaps.{Holder, Hand, Owed, Object, Heap}
use Rattle.arc_model.specs.History.{History, heap_after, next_hand, brings, is_of, share}
use Rattle.arc_model.specs.Holders.{same_holder, is_in, holds, kind_in, list_of, with_list}
use Rattle.arc_model.specs.Lookup.{Spot, further, spot_in, spot, duty_in, owed_in, LookupAfter}
use Rattle.arc_model.specs.Own.{ends, ends_hand, DutiesLast, OwnLeave}
use Rattle.arc_model.specs.Others.{IsUntouched, OthersLeave}
use Rattle.arc_model.specs.WellFormed.{more, tally, held, total, is_own, IsWellFormed}

-- an edit leaves every other holder where it is
same_in : (z : Holder) (e : Edit) (xs : List Holder) → Fits e xs → goes e z ≡ false → comes e z ≡ false → is_in z (edited e xs) ≡ is_in z xs
same_in z e xs fits g c = is_in-tally z (edited e xs) ∙ ap is_pos (ap (λ b. more b (tally z (edited e xs))) (sym g) ∙ tally-edited e z xs fits ∙ ap (λ b. more b (tally z xs)) c) ∙ sym (is_in-tally z xs)

same_parts : (z : Holder) (e : Edit) (o q : Object) (k : Kind) → Fits e (list_of k o) → q.strong ≡ (with_list k (edited e) o).strong → q.unowned ≡ (with_list k (edited e) o).unowned → q.weak ≡ (with_list k (edited e) o).weak → goes e z ≡ false → comes e z ≡ false →
    (is_in z q.strong ≡ is_in z o.strong) × (is_in z q.unowned ≡ is_in z o.unowned) × (is_in z q.weak ≡ is_in z o.weak)
same_parts z e o q Strong fits s u w g c = (ap (is_in z) s ∙ same_in z e o.strong fits g c, ap (is_in z) u, ap (is_in z) w)
same_parts z e o q Unowned fits s u w g c = (ap (is_in z) s, ap (is_in z) u ∙ same_in z e o.unowned fits g c, ap (is_in z) w)
same_parts z e o q Weak fits s u w g c = (ap (is_in z) s, ap (is_in z) u, ap (is_in z) w ∙ same_in z e o.weak fits g c)

pub spot-turn : {shape : HeapShape} (p : ℕ) (act : Act) (next since : ℕ → ℕ) (old new : Heap) (t : Turn shape p act next since old new) (z : Holder) → goes t.edit z ≡ false → comes t.edit z ≡ false → spot z new ≡ spot z old
spot-turn p act next since old new t z g c =
    let m = same_parts z t.edit t.o t.q t.kind t.fits t.strong t.unowned t.weak g c in
    let h : holds z t.q ≡ holds z t.o = ap (λ s. s || is_in z t.q.unowned || is_in z t.q.weak) m.0 ∙ ap (λ u. is_in z t.o.strong || u || is_in z t.q.weak) m.1 ∙ ap (λ w. is_in z t.o.strong || is_in z t.o.unowned || w) m.2 in
    let k : kind_in z t.q ≡ kind_in z t.o = ap (λ s. cond s Strong (cond (is_in z t.q.unowned) Unowned Weak)) m.0 ∙ ap (λ u. cond (is_in z t.o.strong) Strong (cond u Unowned Weak)) m.1 in
    ap (spot_in z) t.put.new ∙ spot-append z t.put.before t.put.after t.o t.q h k ∙ ap (spot_in z) (sym t.put.old)

pub false-if : (b : Bool) → (b ≡ true → ⊥) → b ≡ false
false-if true h = absurd (h refl)
false-if false h = refl

-- a turn of another thread
pub others-turn : {shape : HeapShape} (r p : ℕ) (act : Act) (next since : ℕ → ℕ) (old new : Heap) → (r ≡ p → ⊥) → Turn shape p act next since old new → IsUntouched r old new
others-turn r p act next since old new ne t = record {
  hands = λ k. spot-turn p act next since old new t (Hand r k) (false-if (goes t.edit (Hand r k)) (λ g. ne (t.was_mine r k g).0)) (false-if (comes t.edit (Hand r k)) (λ c. ne (t.mine r k c).0));
  duties = λ i. same-put (duty_in r) old.objects new.objects t.o t.q t.put (t.owed r ne) i;
  claims = t.claims r ne;
}

-- an object at the end
pub spot-end : (z : Holder) (os : List Object) (o : Object) → holds z o ≡ false → spot_in z (os ++ o ∷ []) ≡ spot_in z os
spot-end z [] o h = ap (λ b. cond b (Some (record { place = zero; kind = kind_in z o })) None) h
spot-end z (r ∷ os) o h = ap (λ s. cond (holds z r) (Some (record { place = zero; kind = kind_in z r })) (further s)) (spot-end z os o h)

same-end : {X : Type 0} (w : Option Object → X) (os : List Object) (o : Object) → w (Some o) ≡ w None → (i : ℕ) → w (slice_get (os ++ o ∷ []) i) ≡ w (slice_get os i)
same-end w [] o h zero = h
same-end w [] o h (suc i) = refl
same-end w (r ∷ os) o h zero = refl
same-end w (r ∷ os) o h (suc i) = same-end w os o h i

pub made-apart : (z : Holder) (p k c s : ℕ) (os : List Object) → is_own z ≡ true → same_holder z (Hand p k) ≡ false → holds z (made p k c s os) ≡ false
made-apart z p k c s os own apart = holds-held z (made p k c s os) ∙ ap is_pos (held-made z p k c s os own ∙ ap (λ b. more b zero) apart)

pub others_course : {shape : HeapShape} (r p : ℕ) (act : Act) (next since : ℕ → ℕ) (old new : Heap) → (r ≡ p → ⊥) → Course shape p act next since old new → IsUntouched r old new
others_course r p act next since old new ne (still same entries grows claims taken) = record {
  hands = λ k. ap (spot_in (Hand r k)) same;
  duties = λ i. ap (λ os. duty_in r (slice_get os i)) same;
  claims = claims r ne;
}
others_course r p act next since old new ne (makes k c s is is_next later grows free) =
    subst (IsUntouched r old) (sym is) (record {
      hands = λ n. spot-end (Hand r n) old.objects (made p k c s old.objects) (made-apart (Hand r n) p k c s old.objects refl (false-if (same_holder (Hand r n) (Hand p k)) (λ e. ne (eqb-true r p (and_parts (eqb r p) (eqb n k) e).0))));
      duties = λ i. same-end (duty_in r) old.objects (made p k c s old.objects) refl i;
      claims = λ e. refl;
    })
others_course r p act next since old new ne (turn t) = others-turn r p act next since old new ne t
others_course r p act next since old new ne (turns between mid t u cell left came swaps) =
    let a = others-turn r p act next between old mid ne t in
    let b = others-turn r p act between since mid new ne u in record {
      hands = λ k. b.hands k ∙ a.hands k;
      duties = λ i. b.duties i ∙ a.duties i;
      claims = λ e. b.claims e ∙ a.claims e;
    }

-- events among which none is of p
pub not-among : (p : ℕ) (e : Event) (after : History) → share (e ∷ after) p ≡ [] → (e.thread ≡ p → ⊥) × (share after p ≡ [])
not-among p e after none = go (is_of p e) refl none
  where
    no_cons : e ∷ share after p ≡ [] → ⊥
    no_cons e = cc

    go : (b : Bool) → is_of p e ≡ b → cond b (e ∷ share after p) (share after p) ≡ [] → (e.thread ≡ p → ⊥) × (share after p ≡ [])
    go true h none = absurd (no_cons none)
    go false h none = (λ same. clash (is_of p e) (eq-eqb e.thread p same) h, none)

-- over a list of events without one of p
pub others_leave : OthersLeave
others_leave shape p before [] legal none = record { hands = λ k. refl; duties = λ i. refl; claims = λ e. refl }
others_leave shape p before (e ∷ after) legal none = go (is_of p e) refl none (others_leave shape p before after legal.1)
  where
    go : (b : Bool) → is_of p e ≡ b → cond b (e ∷ share after p) (share after p) ≡ [] → (share after p ≡ [] → IsUntouched p (heap_after before) (heap_after (after ++ before))) → IsUntouched p (heap_after before) (heap_after (e ∷ after ++ before))
    go true h none ih = absurd (no_cons none)
      where
        no_cons : e ∷ share after p ≡ [] → ⊥
        no_cons e = cc
    go false h none ih =
        let a = ih none in
        let b = others_course p e.thread e.act (λ q. next_hand q (after ++ before)) (advance (brings e.act) e.thread (λ q. next_hand q (after ++ before))) (heap_after (after ++ before)) (heap_after (e ∷ after ++ before)) (λ same. clash (is_of p e) (eq-eqb e.thread p (sym same)) h) (course_after shape e (after ++ before) legal (well_formed shape (after ++ before) legal.1)) in record {
          hands = λ k. b.hands k ∙ a.hands k;
          duties = λ i. b.duties i ∙ a.duties i;
          claims = λ t. b.claims t ∙ a.claims t;
        }

-- spots and finds
pub spot-find : (z : Holder) (os : List Object) → is_some (spot_in z os) ≡ is_some (find (holds z) os)
spot-find z [] = refl
spot-find z (o ∷ os) = go (holds z o) (spot-find z os)
  where
    some-further : (s : Option Spot) → is_some (further s) ≡ is_some s
    some-further None = refl
    some-further (Some s) = refl

    go : (b : Bool) → is_some (spot_in z os) ≡ is_some (find (holds z) os) → is_some (cond b (Some (record { place = zero; kind = kind_in z o })) (further (spot_in z os))) ≡ is_some (cond b (Some o) (find (holds z) os))
    go true ih = refl
    go false ih = some-further (spot_in z os) ∙ ih

pub spot-held : (z : Holder) (heap : Heap) → is_some (spot z heap) ≡ true → 1 ≤ total (held z) heap.objects
spot-held z heap h = held-is z heap.objects (sym (spot-find z heap.objects) ∙ h)

-- a thread's own turn
pub own-turn : {shape : HeapShape} (p k : ℕ) (act : Act) (next since : ℕ → ℕ) (old new : Heap) → Turn shape p act next since old new → is_some (spot (Hand p k) old) ≡ true → ends_hand k act ≡ false → spot (Hand p k) new ≡ spot (Hand p k) old
own-turn p k act next since old new t here kept =
    spot-turn p act next since old new t (Hand p k) (false-if (goes t.edit (Hand p k)) (λ g. clash (ends_hand k act) (t.was_mine p k g).1 kept))
    (false-if (comes t.edit (Hand p k)) (λ c. let a = t.absent (Hand p k) refl c in let b = spot-held (Hand p k) old here in omega arith))

own_course : {shape : HeapShape} (p k : ℕ) (act : Act) (next since : ℕ → ℕ) (old new : Heap) → Course shape p act next since old new → IsWellFormed shape next old → is_some (spot (Hand p k) old) ≡ true → ends_hand k act ≡ false → spot (Hand p k) new ≡ spot (Hand p k) old
own_course p k act next since old new (still same entries grows claims taken) f here kept = ap (spot_in (Hand p k)) same
own_course p k act next since old new (makes n c s is is_next later grows free) f here kept =
    ap (spot (Hand p k)) is ∙ spot-end (Hand p k) old.objects (made p n c s old.objects) (made-apart (Hand p k) p n c s old.objects refl (false-if (same_holder (Hand p k) (Hand p n)) (λ e.
    let g = and_parts (eqb p p) (eqb k n) e in
    let a = eqb-true k n g.1 in
    let b = spot-held (Hand p k) old here in
    let c = f.fresh p k (omega arith) in omega arith)))
own_course p k act next since old new (turn t) f here kept = own-turn p k act next since old new t here kept
own_course p k act next since old new (turns between mid t u cell left came swaps) f here kept =
    let a = own-turn p k act next between old mid t here kept in
    own-turn p k act between since mid new u (ap is_some a ∙ here) kept ∙ a

pub own_leave : OwnLeave
own_leave shape h e k legal here kept =
    let f = well_formed shape h legal.1 in
    own_course e.thread k e.act (λ q. next_hand q h) (advance (brings e.act) e.thread (λ q. next_hand q h)) (heap_after h) (heap_after (e ∷ h)) (course_after shape e h legal f) f here kept

-- duties that stand
abbrev Stands : ℕ → Act → Owed → List Object → ℕ → Type 0
Stands p act d os i = (owed_in (slice_get os i) ≡ Some d) ⊎ ((d.thread ≡ p) × (ends d.duty act ≡ true))

put-stands : (p : ℕ) (act : Act) (d : Owed) (before after : List Object) (o q : Object) (i : ℕ) → (o.owed ≡ Some d → (q.owed ≡ Some d) ⊎ ((d.thread ≡ p) × (ends d.duty act ≡ true))) → owed_in (slice_get (before ++ o ∷ after) i) ≡ Some d → Stands p act d (before ++ q ∷ after) i
put-stands p act d [] after o q zero keeps h = keeps h
put-stands p act d [] after o q (suc i) keeps h = inl h
put-stands p act d (b ∷ before) after o q zero keeps h = inl h
put-stands p act d (b ∷ before) after o q (suc i) keeps h = put-stands p act d before after o q i keeps h

turn-stands : {shape : HeapShape} (p : ℕ) (act : Act) (next since : ℕ → ℕ) (old new : Heap) → Turn shape p act next since old new → (i : ℕ) (d : Owed) → owed_in (slice_get old.objects i) ≡ Some d → Stands p act d new.objects i
turn-stands p act next since old new t i d h =
    subst (λ os. Stands p act d os i) (sym t.put.new) (put-stands p act d t.put.before t.put.after t.o t.q i (t.stays d) (ap (λ os. owed_in (slice_get os i)) (sym t.put.old) ∙ h))

end-owed : (os : List Object) (o : Object) (i : ℕ) (d : Owed) → owed_in (slice_get os i) ≡ Some d → owed_in (slice_get (os ++ o ∷ []) i) ≡ Some d
end-owed [] o i d h = absurd (None≢Some d h)
end-owed (r ∷ os) o zero d h = h
end-owed (r ∷ os) o (suc i) d h = end-owed os o i d h

course-stands : {shape : HeapShape} (p : ℕ) (act : Act) (next since : ℕ → ℕ) (old new : Heap) → Course shape p act next since old new → (i : ℕ) (d : Owed) → owed_in (slice_get old.objects i) ≡ Some d → Stands p act d new.objects i
course-stands p act next since old new (still same entries grows claims taken) i d h = inl (ap (λ os. owed_in (slice_get os i)) same ∙ h)
course-stands p act next since old new (makes k c s is is_next later grows free) i d h = inl (ap (λ (heap : Heap). owed_in (slice_get heap.objects i)) is ∙ end-owed old.objects (made p k c s old.objects) i d h)
course-stands p act next since old new (turn t) i d h = turn-stands p act next since old new t i d h
course-stands p act next since old new (turns between mid t u cell left came swaps) i d h =
    elim (turn-stands p act next between old mid t i d h) [
      | inl same ↦ turn-stands p act between since mid new u i d same
      | inr done ↦ inr done
    ]

pub duties_last : DutiesLast
duties_last shape h e i d legal stands =
    course-stands e.thread e.act (λ q. next_hand q h) (advance (brings e.act) e.thread (λ q. next_hand q h)) (heap_after h) (heap_after (e ∷ h)) (course_after shape e h legal (well_formed shape h legal.1)) i d stands

-- the lookup
held-at : (z : Holder) (os : List Object) (i : ℕ) (o : Object) → slice_get os i ≡ Some o → held z o ≤ total (held z) os
held-at z [] i o h = absurd (None≢Some o h)
held-at z (r ∷ os) zero o h = let a : held z r ≡ held z o = ap (held z) (some-inj h) in omega arith
  where
    some-inj : {a b : Object} → Some a ≡ Some b → a ≡ b
    some-inj e = cc
held-at z (r ∷ os) (suc i) o h = let a = held-at z os i o h in omega arith

held-in : (z : Holder) (k : Kind) (o : Object) → is_in z (list_of k o) ≡ true → 1 ≤ held z o
held-in z Strong o h = let a = in-tally z o.strong h in omega arith
held-in z Unowned o h = let a = in-tally z o.unowned h in omega arith
held-in z Weak o h = let a = in-tally z o.weak h in omega arith

-- a holder that stands once is in one list
one-kind : (z : Holder) (k : Kind) (o : Object) → is_in z (list_of k o) ≡ true → held z o ≤ 1 → kind_in z o ≡ k
one-kind z k o h one = go k (is_in z o.strong) (is_in z o.unowned) refl refl h
  where
    go : (k : Kind) (s u : Bool) → is_in z o.strong ≡ s → is_in z o.unowned ≡ u → is_in z (list_of k o) ≡ true → cond s Strong (cond u Unowned Weak) ≡ k
    go Strong true u es eu h = refl
    go Unowned true u es eu h = let a = in-tally z o.strong es in let b = in-tally z o.unowned h in absurd (omega arith)
    go Weak true u es eu h = let a = in-tally z o.strong es in let b = in-tally z o.weak h in absurd (omega arith)
    go Strong false u es eu h = clash (is_in z o.strong) h es
    go Unowned false true es eu h = refl
    go Weak false true es eu h = let a = in-tally z o.unowned eu in let b = in-tally z o.weak h in absurd (omega arith)
    go Unowned false false es eu h = clash (is_in z o.unowned) h eu
    go Weak false false es eu h = refl

pub only_in : (z : Holder) (os : List Object) (i : ℕ) (o : Object) (k : Kind) → total (held z) os ≤ 1 → slice_get os i ≡ Some o → is_in z (list_of k o) ≡ true → spot_in z os ≡ Some (record { place = i; kind = k })
only_in z [] i o k one h in' = absurd (None≢Some o h)
only_in z (r ∷ os) zero o k one h in' = head (some-inj h)
  where
    some-inj : {a b : Object} → Some a ≡ Some b → a ≡ b
    some-inj e = cc

    head : r ≡ o → spot_in z (r ∷ os) ≡ Some (record { place = zero; kind = k })
    head e =
        let in'' : is_in z (list_of k r) ≡ true = ap (λ q. is_in z (list_of k q)) e ∙ in' in
        let a = held-in z k r in'' in
        ap (λ b. cond b (Some (record { place = zero; kind = kind_in z r })) (further (spot_in z os))) (holds-held z r ∙ le-pos (held z r) a)
        ∙ ap (λ j. Some (record { place = zero; kind = j })) (one-kind z k r in'' (omega arith))
only_in z (r ∷ os) (suc i) o k one h in' =
    let a = held-in z k o in' in
    let b = held-at z os i o h in
    let none : held z r ≡ 0 = omega arith in
    ap (λ b. cond b (Some (record { place = zero; kind = kind_in z r })) (further (spot_in z os))) (holds-held z r ∙ ap is_pos none)
    ∙ ap further (only_in z os i o k (omega arith) h in')

There : Holder → List Object → Spot → Type 0
There z os s = (o : Object) × (slice_get os s.place ≡ Some o) × (find (holds z) os ≡ Some o) × (is_in z (list_of s.kind o) ≡ true)

there_in : (z : Holder) (os : List Object) (s : Spot) → spot_in z os ≡ Some s → (o : Object) × (slice_get os s.place ≡ Some o) × (find (holds z) os ≡ Some o) × (is_in z (list_of s.kind o) ≡ true)
there_in z [] s h = absurd (None≢Some s h)
there_in z (r ∷ os) s h = go (holds z r) refl h (spot_in z os) refl (there_in z os)
  where
    some-inj : {a b : Spot} → Some a ≡ Some b → a ≡ b
    some-inj e = cc

    go : (b : Bool) → holds z r ≡ b → cond b (Some (record { place = zero; kind = kind_in z r })) (further (spot_in z os)) ≡ Some s → (m : Option Spot) → spot_in z os ≡ m → ((t : Spot) → spot_in z os ≡ Some t → (o : Object) × (slice_get os t.place ≡ Some o) × (find (holds z) os ≡ Some o) × (is_in z (list_of t.kind o) ≡ true)) →
        (o : Object) × (slice_get (r ∷ os) s.place ≡ Some o) × (cond b (Some r) (find (holds z) os) ≡ Some o) × (is_in z (list_of s.kind o) ≡ true)
    go true e h m is ih = (r, ap (λ t. slice_get (r ∷ os) t.place) (sym (some-inj h)), refl, ap (λ t. is_in z (list_of t.kind r)) (sym (some-inj h)) ∙ in-kind z r e)
    go false e h None is ih = absurd (None≢Some s (sym (ap further is) ∙ h))
    go false e h (Some t) is ih =
        let same : record { place = suc t.place; kind = t.kind } ≡ s = some-inj (sym (ap further is) ∙ h) in
        let g = ih t is in
        (g.0, ap (λ (u : Spot). slice_get (r ∷ os) u.place) (sym same) ∙ g.1, g.2, ap (λ (u : Spot). is_in z (list_of u.kind g.0)) (sym same) ∙ g.3)

pub none-is : {X : Type 0} (m : Option X) → is_some m ≡ false → m ≡ None
none-is None h = refl
none-is (Some x) h = absurd (true≢false h)

pub lookup_after : LookupAfter
lookup_after shape h z legal own =
    let f = well_formed shape h legal in record {
      there = λ s e. there_in z (heap_after h).objects s e;
      only = λ i o k e in'. only_in z (heap_after h).objects i o k (f.once z own) e in';
      nowhere = λ e. none-is (find (holds z) (heap_after h).objects) (sym (spot-find z (heap_after h).objects) ∙ ap is_some e);
    }
