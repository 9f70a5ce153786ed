-- Each legal event is a step, so what is said of the index is said of the history.
use Rattle.std.proofs.Common.{◌≡◌, ℕ, ◌<◌, Bool, true, false, eqb, not, ◌∷◌, length, Option, Some, None, Result, Ok, Err, refl, sym, ap, ◌∙◌, subst}
use Rattle.std.specs.Prelude.{slice_get, is_some, ◌&&◌, nat_lt, find}
use Rattle.std.proofs.lemmas.Bool.{eqb-true, ltb-true, and_parts}
use Rattle.arc_model.specs.declared.event.Act.{Act}
use Rattle.arc_model.specs.declared.event.Act.TheVariants as acts
use Rattle.arc_model.specs.declared.event.CellName.{CellName}
use Rattle.arc_model.specs.declared.event.CellName.TheVariants as cells
use Rattle.arc_model.specs.declared.event.Got.TheVariants as got
use Rattle.arc_model.specs.declared.event.Event.{Event}
use Rattle.arc_model.specs.declared.event.Origin.{Origin}
use Rattle.arc_model.specs.declared.shape.Kind.{Kind}
use Rattle.arc_model.specs.declared.shape.Kind.TheVariants.{Strong, Unowned, Weak}
use Rattle.arc_model.specs.Heaps.{Holder, Hand, Deinit, Vacating, Gone, Object, Heap}
use Rattle.arc_model.specs.Holders.{is_in, list_of, list_with, with_list, with_last, gains, lists, held_by, at_slot, at_entry, is_slot_taken, is_entry_taken, is_claimed_by, owes_to, in_slot as in_the_slot, has_entry}
use Rattle.arc_model.specs.Cells.{cell, origin, is_nil, is_immortal, is_live, same_kind}
use Rattle.arc_model.specs.Effects.{effect}
use Rattle.arc_model.specs.Needs.{needs, reachable, has, puts, takes, passes, has_room, same_bool}
use Rattle.arc_model.specs.Lookup.{spot}
use Rattle.arc_model.specs.Own.{brings_hand}
use Rattle.arc_model.specs.History.{History, heap_after, sight, judge, next_hand, brings, IsLegal}
use Rattle.arc_model.proofs.Basics.{AreMet, met, met-split}
use Rattle.arc_model.proofs.Others.{spot-find}
use Rattle.arc_model.proofs.Tally.{gains-present, gains-absent}
use Rattle.arc_heap_index.specs.declared.counted.Held.{Held}
use Rattle.arc_heap.specs.declared.refusal.Refusal.{Refusal}
use Rattle.arc_heap_index.specs.declared.slots.Owner.{Owner}
use Rattle.arc_heap_index.specs.declared.slots.Owner.TheVariants.{Object as ObjectOwner, Claim}
use Rattle.arc_heap_index.specs.Counting.{placed, count_in, most}
use Rattle.arc_heap_index.specs.Freeing.{owner_at, object_in}
use Rattle.arc_heap_judge.specs.Index.{Index, hand_at, cell_at, origin_at, hold, in_slot, with_entry, found_at, next_of}
use Rattle.arc_heap_judge.specs.Judging.{is_claim_of, verdict}
use Rattle.arc_heap.specs.Moving.{fits, fits_own, fits_act, after_act, after_event, joins, joins_own, leaves, finishes, vacates, goes_away, sided}
use Rattle.arc_heap_judge.specs.Stands.{IsCounted, IsInRange, StandsFor}
use Rattle.arc_heap.specs.Applied.{Refuses, Answers, AppliesAfter}
use Rattle.arc_heap_judge.proofs.Told.{true≢false, FoundAt, found_owner, found_none, LikeHeld, AreHeld}
use Rattle.arc_heap_judge.proofs.Finding.{find_only, placed_spot}
use Rattle.arc_heap_judge.proofs.Judges.{hand-held, origin-held, claims-same, entry-same, slot-same}
use Rattle.arc_heap_judge.proofs.Verdicts.{judged-is}
use Rattle.arc_heap.proofs.Owners.{none-owner}
use Rattle.arc_heap.proofs.Standing.{Steps, standing}
use Rattle.arc_heap.proofs.Acts.{steps_still, steps_claim, steps_back, steps_join}
use Rattle.arc_heap.proofs.Departures.{steps_drop, steps_finish, steps_side, steps_gone}
use Rattle.arc_heap.proofs.Slotted.{steps_new, steps_vacate}
use Rattle.arc_heap.proofs.Swapping.{steps_swap}

le-lt : (n m : ℕ) → nat_lt n m ≡ true → n < m
le-lt n m e = ltb-true n m e

next-is : (ix : Index) (h : History) (p k : ℕ) → StandsFor ix h → p < length ix.marks → eqb k (next_hand p h) ≡ true → k ≡ next_of ix p
next-is ix h p k st l e = eqb-true k (next_hand p h) e ∙ sym (st.next p l)

-- who is found, where a need says that someone is
some-held : (z : Holder) (ix : Index) (heap : Heap) (test : Object → Bool) (w : Option Held) (o : Option Object) → AreHeld z ix heap w o → passes test o ≡ true → (v : Held) × (q : Object) × (w ≡ Some v) × (o ≡ Some q) × LikeHeld z ix heap v q × (test q ≡ true)
some-held z ix heap test None None like e = true≢false (sym e)
some-held z ix heap test (Some v) None like e = absurd like
some-held z ix heap test None (Some q) like e = absurd like
some-held z ix heap test (Some v) (Some q) like e = (v, q, refl, refl, like, e)

there-held : (z : Holder) (ix : Index) (heap : Heap) (w : Option Held) (o : Option Object) → AreHeld z ix heap w o → is_some o ≡ true → (v : Held) × (q : Object) × (w ≡ Some v) × LikeHeld z ix heap v q
there-held z ix heap None None like e = true≢false (sym e)
there-held z ix heap (Some v) None like e = absurd like
there-held z ix heap None (Some q) like e = absurd like
there-held z ix heap (Some v) (Some q) like e = (v, q, refl, like)

-- a slot or an entry that is in an object
owned-object : (ix : Index) (heap : Heap) → Rattle.arc_heap_judge.specs.Stands.Tells ix heap → (test : Object → Bool) (owner : Option Owner) → ((i : ℕ) → Rattle.arc_heap_judge.specs.Stands.is_so test (slice_get heap.objects i) ≡ Rattle.arc_heap_judge.specs.Stands.is_object i owner) → is_some (find test heap.objects) ≡ true → (i : ℕ) × (d : FoundAt ix heap test i) × (found_at ix.objects (object_in owner) ≡ Some (record { object = i; counted = d.counted }))
owned-object ix heap t test None so e = true≢false (sym e ∙ ap is_some (found_none ix heap test None so refl))
owned-object ix heap t test (Some (Claim q)) so e = true≢false (sym e ∙ ap is_some (found_none ix heap test (Some (Claim q)) so refl))
owned-object ix heap t test (Some (ObjectOwner i)) so e = let d = found_owner ix heap t test (Some (ObjectOwner i)) so i refl in (i, d, ap (Rattle.arc_heap_judge.specs.Index.with_object i) d.like.in_index)

passes-at : (ix : Index) (heap : Heap) (test other : Object → Bool) (i : ℕ) (d : FoundAt ix heap test i) → passes other (find test heap.objects) ≡ true → other d.object ≡ true
passes-at ix heap test other i d e = sym (ap (passes other) (find_only test heap.objects i d.object d.only)) ∙ e

passes-some : (test : Object → Bool) (o : Option Object) → passes test o ≡ true → is_some o ≡ true
passes-some test None e = true≢false (sym e)
passes-some test (Some o) e = refl

claim-is : (p : ℕ) (owner : Option Owner) → is_claim_of p owner ≡ true → owner ≡ Some (Claim p)
claim-is p None e = true≢false (sym e)
claim-is p (Some (ObjectOwner i)) e = true≢false (sym e)
claim-is p (Some (Claim q)) e = ap (λ r. Some (Claim r)) (eqb-true q p e)

not-true : (b : Bool) → not b ≡ true → b ≡ false
not-true true e = true≢false (sym e)
not-true false e = refl

-- copying joins the list that the source is in
copied-object : (z : Holder) (y : Holder) (ix : Index) (heap : Heap) (w : Held) (o : Object) → LikeHeld z ix heap w o → lists (gains z y) o ≡ with_list w.place.kind (with_last y) o
copied-object z y ix heap w o like = go w.place.kind (like.member Strong) (like.member Unowned) (like.member Weak)
  where
    go : (k : Kind) → is_in z o.strong ≡ same_kind k Strong → is_in z o.unowned ≡ same_kind k Unowned → is_in z o.weak ≡ same_kind k Weak → lists (gains z y) o ≡ with_list k (with_last y) o
    go Strong s u v = rw (gains-present z y o.strong s, gains-absent z y o.unowned u, gains-absent z y o.weak v) refl
    go Unowned s u v = rw (gains-absent z y o.strong s, gains-present z y o.unowned u, gains-absent z y o.weak v) refl
    go Weak s u v = rw (gains-absent z y o.strong s, gains-absent z y o.unowned u, gains-present z y o.weak v) refl

-- the steps of a swap
swaps : (ix : Index) (h : History) (p : ℕ) (c : CellName) (put took : Option ℕ) → IsInRange ix.shape (acts.Swap c put took) → p < length ix.marks → StandsFor ix h → IsLegal ix.shape (record { thread = p; act = acts.Swap c put took } ∷ h) → Rattle.arc_heap.proofs.Exchanges.Swaps ix h p (acts.Swap c put took) c put took
swaps ix h p c put took range within st legal =
    let heap = heap_after h in
    let m = met-split (reachable ix.shape heap p c) _ (met (needs ix.shape (sight p h) p (acts.Swap c put took)) legal.0) in
    record {
      within = within;
      stands = st;
      legal = legal;
      range = range;
      there = λ s f e. there c s f e m.0;
      eff = refl;
      next = λ z. refl;
      comes = λ k e. came took k e m.1.1.0;
      full = full (is_some took) (is_some (spot (cell heap c) heap)) (ap (same_bool (is_some took)) (ap (λ b. not (not b)) (spot-find (cell heap c) heap.objects)) ∙ m.1.1.1.0);
      given = λ n e. spot-find (Hand p n) heap.objects ∙ given put n e m.1.0;
      brings_is = refl;
      brought_is = refl;
      brings_one = brings-one took;
      ends_is = ends put;
    }
  where
    there : (c : CellName) (s f : ℕ) → c ≡ cells.Field s f → AreMet (reachable ix.shape (heap_after h) p c) → is_some (at_slot s (heap_after h)) ≡ true
    there (cells.Field u g) s f e m = let same : u ≡ s = cc in ap (λ n. is_some (at_slot n (heap_after h))) (sym same) ∙ m.0
    there (cells.Global g) s f e m = absurd (cc)

    came : (took : Option ℕ) (k : ℕ) → took ≡ Some k → (takes (sight p h) took).0 ≡ true → k ≡ next_of ix p
    came None k e t = absurd (cc)
    came (Some n) k e t = let same : n ≡ k = cc in sym same ∙ next-is ix h p n st within t

    full : (a b : Bool) → same_bool a (not (not b)) ≡ true → b ≡ a
    full true true e = refl
    full true false e = true≢false (sym e)
    full false true e = true≢false (sym e)
    full false false e = refl

    given : (put : Option ℕ) (n : ℕ) → put ≡ Some n → (puts ix.shape (heap_after h) p c put).0 ≡ true → is_some (held_by (Hand p n) (heap_after h)) ≡ true
    given None n e t = absurd (cc)
    given (Some i) n e t = let same : i ≡ n = cc in ap (λ j. is_some (held_by (Hand p j) (heap_after h))) (sym same) ∙ passes-some _ (held_by (Hand p i) (heap_after h)) t

    brings-one : (took : Option ℕ) → brings (acts.Swap c put took) ≡ is_some took
    brings-one None = refl
    brings-one (Some k) = refl

    ends : (put : Option ℕ) (m : ℕ) → Rattle.arc_model.specs.Own.ends_hand m (acts.Swap c put took) ≡ Rattle.arc_model.specs.Holders.is_number put m
    ends None m = refl
    ends (Some n) m = refl

taking : (ix : Index) (h : History) (p s f k : ℕ) → IsInRange ix.shape (acts.Take s f k) → p < length ix.marks → StandsFor ix h → IsLegal ix.shape (record { thread = p; act = acts.Take s f k } ∷ h) → Rattle.arc_heap.proofs.Exchanges.Swaps ix h p (acts.Take s f k) (cells.Field s f) None (Some k)
taking ix h p s f k range within st legal =
    let heap = heap_after h in
    let m = met (needs ix.shape (sight p h) p (acts.Take s f k)) legal.0 in
    record {
      within = within;
      stands = st;
      legal = legal;
      range = range;
      there = λ u g e. let same : s ≡ u = cc in ap (λ n. is_some (at_slot n (heap_after h))) (sym same) ∙ m.0;
      eff = refl;
      next = λ z. refl;
      comes = λ n e. let same : k ≡ n = cc in sym same ∙ next-is ix h p k st within m.1.1.1.1.0;
      full = spot-find (cell heap (cells.Field s f)) heap.objects ∙ twice (is_some (held_by (cell heap (cells.Field s f)) heap)) m.1.1.1.0;
      given = λ n e. absurd (cc);
      brings_is = refl;
      brought_is = refl;
      brings_one = refl;
      ends_is = λ n. refl;
    }
  where
    twice : (b : Bool) → not (not b) ≡ true → b ≡ true
    twice true e = refl
    twice false e = e

-- a reference is formed from a hand
formed : (ix : Index) (h : History) (p n k : ℕ) (kind : Kind) (act : Act) (test : Object → Bool) → p < length ix.marks → StandsFor ix h → IsLegal ix.shape (record { thread = p; act = act } ∷ h) →
    passes test (held_by (Hand p n) (heap_after h)) ≡ true → fits kind (hold ix (hand_at ix p n)) ≡ true → eqb k (next_hand p h) ≡ true →
    brings_hand act ≡ Some k → brings act ≡ true → ((m : ℕ) → Rattle.arc_model.specs.Own.ends_hand m act ≡ false) → ((x : Holder) → Rattle.arc_model.specs.CellLaws.cell_next p act x (heap_after h) ≡ spot x (heap_after h)) →
    Rattle.arc_model.specs.Own.brought (heap_after h) p act ≡ Rattle.arc_model.specs.Own.in_list kind (spot (Hand p n) (heap_after h)) →
    effect p act (heap_after h) ≡ Rattle.arc_model.specs.Holders.change (Rattle.arc_model.specs.Holders.holds (Hand p n)) (with_list kind (with_last (Hand p k))) (heap_after h) →
    Steps ix (joins p kind (hold ix (hand_at ix p n)) ix) p act (heap_after h) (effect p act (heap_after h))
formed ix h p n k kind act test within st legal ok room next some one ends still from eff =
    let heap = heap_after h in
    let z : Holder = Hand p n in
    let g = some-held z ix heap test (hold ix (hand_at ix p n)) (held_by z heap) (hand-held ix h st p n within) ok in
    let v = g.0 in
    let o = g.1 in
    let like = g.4 in
    subst (λ w. Steps ix (joins p kind w ix) p act (heap_after h) (effect p act (heap_after h))) (sym g.2)
    (steps_join ix h p k act kind z v o within st legal like
    (le-lt (count_in kind v.counted) most (sym (ap (fits kind) g.2) ∙ room))
    some one ends (next-is ix h p k st within next) still (sym (from ∙ ap (Rattle.arc_model.specs.Own.in_list kind) like.spot_is))
    (ap (λ (w : Heap). w.objects) eff ∙ placed_spot z (with_list kind (with_last (Hand p k))) heap.objects (record { place = v.place.object; kind = v.place.kind }) o like.spot_is like.like.in_heap)
    (ap (λ (w : Heap). w.claims) eff))

copied : (ix : Index) (h : History) (p : ℕ) (from : Origin) (k : ℕ) → IsInRange ix.shape (acts.Copy from k) → p < length ix.marks → StandsFor ix h → IsLegal ix.shape (record { thread = p; act = acts.Copy from k } ∷ h) → fits_own (hold ix (origin_at ix p from)) ≡ true → Steps ix (after_act ix p (acts.Copy from k)) p (acts.Copy from k) (heap_after h) (effect p (acts.Copy from k) (heap_after h))
copied ix h p from k range within st legal room =
    let heap = heap_after h in
    let z = origin heap p from in
    let m = met-split (has ix.shape heap p from) _ (met (needs ix.shape (sight p h) p (acts.Copy from k)) legal.0) in
    let g = some-held z ix heap (λ o. has_room ix.shape o (list_with z o)) (hold ix (origin_at ix p from)) (held_by z heap) (origin-held ix h st p from within range) m.1.1.0 in
    let v = g.0 in
    let o = g.1 in
    let like = g.4 in
    subst (λ w. Steps ix (joins_own p w ix) p (acts.Copy from k) (heap_after h) (effect p (acts.Copy from k) (heap_after h))) (sym g.2)
    (steps_join ix h p k (acts.Copy from k) v.place.kind z v o within st legal like
    (le-lt (count_in v.place.kind v.counted) most (sym (ap fits_own g.2) ∙ room))
    refl refl (λ n. refl) (next-is ix h p k st within m.1.0) (λ x. refl) (sym like.spot_is)
    (placed_spot z (lists (gains z (Hand p k))) heap.objects (record { place = v.place.object; kind = v.place.kind }) o like.spot_is like.like.in_heap ∙ ap (λ q. placed v.place.object q heap.objects) (copied-object z (Hand p k) ix heap v o like))
    refl)

steps : (ix : Index) (h : History) (p : ℕ) (act : Act) → IsInRange ix.shape act → p < length ix.marks → StandsFor ix h → IsLegal ix.shape (record { thread = p; act = act } ∷ h) → fits_act ix p act ≡ true → Steps ix (after_act ix p act) p act (heap_after h) (effect p act (heap_after h))
steps ix h p (acts.New k c s) range within st legal room =
    let m = met (needs ix.shape (sight p h) p (acts.New k c s)) legal.0 in
    steps_new ix h p k c s within range.1 st legal (next-is ix h p k st within m.0) (none-owner (owner_at s ix.slots) (slot-same ix (heap_after h) st.tells s ∙ not-true (is_slot_taken s (heap_after h)) m.1.0))
steps ix h p acts.Full range within st legal room = steps_still ix h p acts.Full st refl refl refl (λ k. refl)
steps ix h p (acts.Copy from k) range within st legal room = copied ix h p from k range within st legal room
steps ix h p (acts.UnownedOf n k) range within st legal room =
    let m = met (needs ix.shape (sight p h) p (acts.UnownedOf n k)) legal.0 in
    formed ix h p n k Unowned (acts.UnownedOf n k) (λ o. has_room ix.shape o o.unowned) within st legal m.1.1.0 room m.1.0 refl refl (λ i. refl) (λ x. refl) refl refl
steps ix h p (acts.WeakOf n k) range within st legal room =
    let m = met (needs ix.shape (sight p h) p (acts.WeakOf n k)) legal.0 in
    formed ix h p n k Weak (acts.WeakOf n k) (λ o. has_room ix.shape o o.weak) within st legal m.1.1.1.0 room m.1.1.0 refl refl (λ i. refl) (λ x. refl) refl refl
steps ix h p (acts.Load n (got.Hand k)) range within st legal room =
    let m = met (needs ix.shape (sight p h) p (acts.Load n (got.Hand k))) legal.0 in
    formed ix h p n k Strong (acts.Load n (got.Hand k)) (λ o. is_live ix.shape o && has_room ix.shape o o.strong) within st legal m.1.1.0 room m.1.0 refl refl (λ i. refl) (λ x. refl) refl refl
steps ix h p (acts.Load n got.Dead) range within st legal room = steps_still ix h p (acts.Load n got.Dead) st refl refl refl (λ k. refl)
steps ix h p (acts.Load n got.Nil) range within st legal room = steps_still ix h p (acts.Load n got.Nil) st refl refl refl (λ k. refl)
steps ix h p (acts.Drop n last) range within st legal room =
    let heap = heap_after h in
    let m = met (needs ix.shape (sight p h) p (acts.Drop n last)) legal.0 in
    let g = there-held (Hand p n) ix heap (hold ix (hand_at ix p n)) (held_by (Hand p n) heap) (hand-held ix h st p n within) m.0 in
    subst (λ w. Steps ix (leaves p n last w ix) p (acts.Drop n last) (heap_after h) (effect p (acts.Drop n last) (heap_after h))) (sym g.2) (steps_drop ix h p n last g.0 g.1 within st legal g.3)
steps ix h p (acts.CountFull k from) range within st legal room = steps_still ix h p (acts.CountFull k from) st refl refl refl (λ i. refl)
steps ix h p (acts.Claim e) range within st legal room =
    let m = met (needs ix.shape (sight p h) p (acts.Claim e)) legal.0 in
    steps_claim ix h p e st legal range (none-owner (owner_at e ix.entries) (entry-same ix (heap_after h) st.tells e ∙ not-true (is_entry_taken e (heap_after h)) m.0))
steps ix h p acts.NoEntry range within st legal room = steps_still ix h p acts.NoEntry st refl refl refl (λ k. refl)
steps ix h p (acts.Side s e why) range within st legal room =
    let heap = heap_after h in
    let m = met (needs ix.shape (sight p h) p (acts.Side s e why)) legal.0 in
    let d = owned-object ix heap st.tells (in_the_slot s) (owner_at s ix.slots) (st.tells.slots s) (passes-some (λ o. not (is_immortal ix.shape o)) (at_slot s heap) m.0) in
    subst (λ w. Steps ix (sided e w ix) p (acts.Side s e why) (heap_after h) (effect p (acts.Side s e why) (heap_after h))) (sym d.2)
    (steps_side ix h p s e why st legal d.0 d.1 (none-owner d.1.object.entry (not-true (is_some d.1.object.entry) (passes-at ix heap (in_the_slot s) (λ o. not (is_some o.entry)) d.0 d.1 m.1.1.0))) (claim-is p (owner_at e ix.entries) (claims-same ix heap st.tells p e ∙ m.1.0)))
steps ix h p (acts.Back e) range within st legal room =
    let m = met (needs ix.shape (sight p h) p (acts.Back e)) legal.0 in
    steps_back ix h p e st legal (claim-is p (owner_at e ix.entries) (claims-same ix (heap_after h) st.tells p e ∙ m.0))
steps ix h p (acts.Swap c put took) range within st legal room = steps_swap ix h p (acts.Swap c put took) c put took (swaps ix h p c put took range within st legal)
steps ix h p (acts.Look c) range within st legal room = steps_still ix h p (acts.Look c) st refl refl refl (λ k. refl)
steps ix h p (acts.Take s f k) range within st legal room = steps_swap ix h p (acts.Take s f k) (cells.Field s f) None (Some k) (taking ix h p s f k range within st legal)
steps ix h p (acts.Finish s last) range within st legal room =
    let heap = heap_after h in
    let m = met (needs ix.shape (sight p h) p (acts.Finish s last)) legal.0 in
    let d = owned-object ix heap st.tells (in_the_slot s) (owner_at s ix.slots) (st.tells.slots s) m.0 in
    subst (λ w. Steps ix (finishes p last w ix) p (acts.Finish s last) (heap_after h) (effect p (acts.Finish s last) (heap_after h))) (sym d.2)
    (steps_finish ix h p s last st legal d.0 d.1 (and_parts (owes_to p Deinit d.1.object) _ (passes-at ix heap (in_the_slot s) (λ o. owes_to p Deinit o && Rattle.arc_model.specs.Cells.are_all_nil ix.shape heap o) d.0 d.1 m.1.0)).0)
steps ix h p (acts.Vacate s) range within st legal room =
    let heap = heap_after h in
    let m = met (needs ix.shape (sight p h) p (acts.Vacate s)) legal.0 in
    let d = owned-object ix heap st.tells (in_the_slot s) (owner_at s ix.slots) (st.tells.slots s) m.0 in
    subst (λ w. Steps ix (vacates p s w ix) p (acts.Vacate s) (heap_after h) (effect p (acts.Vacate s) (heap_after h))) (sym d.2)
    (steps_vacate ix h p s st legal d.0 d.1 (passes-at ix heap (in_the_slot s) (owes_to p Vacating) d.0 d.1 m.1.0))
steps ix h p (acts.Gone e last) range within st legal room =
    let heap = heap_after h in
    let m = met (needs ix.shape (sight p h) p (acts.Gone e last)) legal.0 in
    let d = owned-object ix heap st.tells (has_entry e) (owner_at e ix.entries) (st.tells.entries e) m.0 in
    subst (λ w. Steps ix (goes_away p e last w ix) p (acts.Gone e last) (heap_after h) (effect p (acts.Gone e last) (heap_after h))) (sym d.2)
    (steps_gone ix h p e last st legal d.0 d.1 (passes-at ix heap (has_entry e) (owes_to p Gone) d.0 d.1 m.1.0))

pub stands_step : (ix : Index) (h : History) (e : Event) → IsInRange ix.shape e.act → e.thread < length ix.marks → StandsFor ix h → judge ix.shape h e ≡ None → fits_act ix e.thread e.act ≡ true → StandsFor (after_event ix e) (e ∷ h)
stands_step ix h e range within st ok room =
    standing ix (after_act ix e.thread e.act) h e.thread e.act within st (ok, st.legal) (steps ix h e.thread e.act range within st (ok, st.legal) room)

pub applies : {R : Type 0} → (h : History) (old new : Index) (e : Event) (result : Result R Refusal) → IsInRange old.shape e.act → e.thread < length old.marks → StandsFor old h → Answers (verdict old e.thread e.act) e.act (fits_act old e.thread e.act) old (after_event old e) new result → AppliesAfter h old new e result
applies h old new e (Ok r) range within st a =
    let ok : judge old.shape h e ≡ None = sym (judged-is old h st e.thread e.act within range) ∙ a.0 in
    (ok, subst (λ ix. StandsFor ix (e ∷ h)) (sym a.2) (stands_step old h e range within st ok a.1))
applies h old new e (Err x) range within st a = subst (λ v. Refuses v e.act old new x) (judged-is old h st e.thread e.act within range) a
