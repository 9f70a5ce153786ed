-- What a pass's hands referred to when they came: the longer the history, the more of them are known.
use Rattle.std.proofs.Common.{◌≡◌, ℕ, ◌+◌, ◌<◌, ◌≤◌, ◌&&◌, Bool, true, false, cond, [], ◌∷◌, ◌++◌, Option, Some, None, refl, sym, ap, ◌∙◌, subst, arith, eq-eqb, ne_eqb}
use Rattle.std.specs.Prelude.{count_by, slice_get}
use Rattle.std.proofs.lemmas.Bool.{eqb-true}
use Rattle.std.proofs.lemmas.List.Sums.{sum_by-cons}
use Rattle.arc_model.specs.declared.event.Act.{Act}
use Rattle.arc_model.specs.declared.event.Act.TheVariants as acts
use Rattle.arc_model.specs.declared.event.Event.{Event}
use Rattle.arc_model.specs.declared.event.Got.TheVariants as gots
use Rattle.arc_model.specs.declared.shape.Kind.{Kind}
use Rattle.arc_model.specs.declared.shape.Kind.TheVariants.{Strong, Unowned, Weak}
use Rattle.arc_model.specs.Shapes.{HeapShape}
use Rattle.arc_model.specs.Heaps.{Holder, Hand, Object, Heap}
use Rattle.arc_model.specs.Holders.{is_number}
use Rattle.arc_model.specs.History.{History, heap_after, next_hand, brings, is_of, sight, share, IsLegal}
use Rattle.arc_model.specs.Lookup.{spot}
use Rattle.arc_model.specs.Own.{brings_hand}
use Rattle.arc_model.specs.References.{Reference, place_of, reference_to, reference_in, reference_of}
use Rattle.arc_model.proofs.Basics.{None≢Some, Some-inj}
use Rattle.arc_model.proofs.Others.{not-among}
use Rattle.arc_side.specs.Inline.{IsCountedInline}
use Rattle.arc_programs.specs.ProgramsTied.{hands_in, brings_it}
use Rattle.arc_quiet.proofs.Counts.{one_if}
use Rattle.arc_quiet.proofs.HandsCounted.{brings_next, next-own}
use Rattle.arc_ops.specs.declared.stepper.Held.{Held}
use Rattle.arc_spelled.specs.Came.{Extends}
use Rattle.arc_view.specs.declared.view.View.{View}
use Rattle.arc_view.specs.Holding.{heap_of}
use Rattle.arc_view.specs.Kinds.{event_list}
use Rattle.arc_view.proofs.AtCell.{stands_at}
use Rattle.arc_ops_passes.specs.References.{Leads}

-- events of other threads bring it none
pub others_bring_none : (p : ℕ) (later h : History) (k : ℕ) → share later p ≡ [] → hands_in p (later ++ h) k ≡ hands_in p h k
others_bring_none p [] h k none = refl
others_bring_none p (e ∷ later) h k none =
    let apart = not-among p e later none in
    ap (λ b. cond (b && is_number (brings_hand e.act) k) (reference_of (Hand p k) (heap_after (e ∷ later ++ h))) (hands_in p (later ++ h) k)) (ne_eqb e.thread p apart.0)
    ∙ others_bring_none p later h k apart.1

brought_one : (act : Act) (k : ℕ) → brings_hand act ≡ Some k → brings act ≡ true
brought_one (acts.New n c s) k e = refl
brought_one (acts.Copy from n) k e = refl
brought_one (acts.UnownedOf h n) k e = refl
brought_one (acts.WeakOf h n) k e = refl
brought_one (acts.Load h (gots.Hand n)) k e = refl
brought_one (acts.Load h gots.Dead) k e = absurd (None≢Some k e)
brought_one (acts.Load h gots.Nil) k e = absurd (None≢Some k e)
brought_one (acts.Swap c h None) k e = absurd (None≢Some k e)
brought_one (acts.Swap c h (Some n)) k e = refl
brought_one (acts.Take s f n) k e = refl
brought_one acts.Full k e = absurd (None≢Some k e)
brought_one (acts.Drop h last) k e = absurd (None≢Some k e)
brought_one (acts.CountFull l from) k e = absurd (None≢Some k e)
brought_one (acts.Claim n) k e = absurd (None≢Some k e)
brought_one acts.NoEntry k e = absurd (None≢Some k e)
brought_one (acts.Side s n why) k e = absurd (None≢Some k e)
brought_one (acts.Back n) k e = absurd (None≢Some k e)
brought_one (acts.Look c) k e = absurd (None≢Some k e)
brought_one (acts.Finish s last) k e = absurd (None≢Some k e)
brought_one (acts.Vacate s) k e = absurd (None≢Some k e)
brought_one (acts.Gone n last) k e = absurd (None≢Some k e)

number_is : (m : Option ℕ) (k : ℕ) → is_number m k ≡ true → m ≡ Some k
number_is None k e = absurd (cc)
number_is (Some n) k e = ap Some (eqb-true n k e)

next_grows : (p : ℕ) (e : Event) (h : History) → next_hand p h ≤ next_hand p (e ∷ h)
next_grows p e h =
    let c : count_by (λ (v : Event). is_of p v && brings v.act) (e ∷ h) ≡ cond (is_of p e && brings e.act) 1 0 + count_by (λ (v : Event). is_of p v && brings v.act) h = sum_by-cons (λ (v : Event). cond (is_of p v && brings v.act) 1 0) e h in
    omega arith

-- a hand that is known came, and is none that is still to come
known_below : (shape : HeapShape) (p : ℕ) (h : History) (k : ℕ) (r : Reference) → IsLegal shape h → hands_in p h k ≡ Some r → k < next_hand p h
known_below shape p [] k r legal known = absurd (None≢Some r known)
known_below shape p (e ∷ h) k r legal known = go (is_of p e) refl (is_number (brings_hand e.act) k) refl known (known_below shape p h k r legal.1)
  where
    grows : k < next_hand p h → k < next_hand p (e ∷ h)
    grows lt = let le = next_grows p e h in omega arith

    go : (b : Bool) → is_of p e ≡ b → (c : Bool) → is_number (brings_hand e.act) k ≡ c → cond (b && c) (reference_of (Hand p k) (heap_after (e ∷ h))) (hands_in p h k) ≡ Some r → (hands_in p h k ≡ Some r → k < next_hand p h) → k < next_hand p (e ∷ h)
    go true mine true is known ih =
        let same = eqb-true e.thread p mine in
        let number = number_is (brings_hand e.act) k is in
        let next : k ≡ next_hand e.thread h = brings_next shape (sight e.thread h) e.thread e.act k legal.0 number in
        let more : next_hand e.thread (e ∷ h) ≡ next_hand e.thread h + 1 = next-own e h ∙ ap (λ b. next_hand e.thread h + one_if b) (brought_one e.act k number) in
        subst (λ q. k < next_hand q (e ∷ h)) same (omega arith)
    go true mine false is known ih = grows (ih known)
    go false other c is known ih = grows (ih known)

-- its own event brings the next hand
own_extends : (shape : HeapShape) (p : ℕ) (a : Act) (h : History) → IsLegal shape (record { thread = p; act = a } ∷ h) → Extends (hands_in p h) (hands_in p (record { thread = p; act = a } ∷ h))
own_extends shape p a h legal k r known =
    (λ j. cond (eq-eqb p p refl j && is_number (brings_hand a) k) (reference_of (Hand p k) (heap_after (record { thread = p; act = a } ∷ h))) (hands_in p h k))
    ∙ (ap (λ b. cond b (reference_of (Hand p k) (heap_after (record { thread = p; act = a } ∷ h))) (hands_in p h k)) (other (brings_hand a) refl) ∙ known)
  where
    other : (m : Option ℕ) → brings_hand a ≡ m → is_number m k ≡ false
    other None e = refl
    other (Some n) e =
        let next : n ≡ next_hand p h = brings_next shape (sight p h) p a n legal.0 e in
        let below = known_below shape p h k r legal.1 known in
        ne_eqb n k (λ same. omega (arith, same))

-- so what is known stays known
pub seen_extends : (shape : HeapShape) (p : ℕ) (act : Option Act) (later h : History) → IsLegal shape (event_list p act ++ (later ++ h)) → share later p ≡ [] → Extends (hands_in p h) (hands_in p (event_list p act ++ (later ++ h)))
seen_extends shape p None later h legal none k r known = others_bring_none p later h k none ∙ known
seen_extends shape p (Some a) later h legal none k r known = own_extends shape p a (later ++ h) legal k r (others_bring_none p later h k none ∙ known)

-- the hand that the newest event brings
pub known_now : (p k : ℕ) (a : Act) (h : History) → brings_hand a ≡ Some k → hands_in p (record { thread = p; act = a } ∷ h) k ≡ reference_of (Hand p k) (heap_after (record { thread = p; act = a } ∷ h))
known_now p k a h brings =
    let both : brings_it p k (record { thread = p; act = a }) ≡ true = (λ j. eq-eqb p p refl j && is_number (brings j) k) ∙ eq-eqb k k refl in
    ap (λ b. cond b (reference_of (Hand p k) (heap_after (record { thread = p; act = a } ∷ h))) (hands_in p h k)) both

-- ---- where a reference leads

pub place_slot : (kind : Kind) → IsCountedInline kind → (o : Object) → place_of kind o ≡ o.slot
place_slot Strong counted o = refl
place_slot Unowned counted o = refl
place_slot Weak counted o = absurd counted

pub reference_at : (z : Holder) (heap : Heap) (i place : ℕ) (kind : Kind) (o : Object) → IsCountedInline kind → spot z heap ≡ Some (record { place = i; kind = kind }) → slice_get heap.objects i ≡ Some o → o.slot ≡ Some place → reference_of z heap ≡ Some (record { kind = kind; place = place })
reference_at z heap i place kind o counted at here slot =
    let t = stands_at z heap.objects (record { place = i; kind = kind }) at in
    let same : t.object ≡ o = Some-inj (sym t.here ∙ here) in
    ap (reference_in z) t.found ∙ (ap (λ k. reference_to k (place_of k t.object)) t.kind ∙ (ap (λ (q : Object). reference_to kind (place_of kind q)) same ∙ ap (reference_to kind) (place_slot kind counted o ∙ slot)))

pub leads_known : (v : View) (held : Held) → Leads v held → reference_of (Hand v.number held.hand) (heap_of v) ≡ Some (record { kind = held.kind; place = held.place })
leads_known v held (counted, i, o, hand, here, slot) = reference_at (Hand v.number held.hand) (heap_of v) i held.place held.kind o counted hand here slot

-- a hand that a step brought, which leads somewhere
pub known_new : (v w : View) (a : Act) (h : History) (held : Held) → w.number ≡ v.number → w.seen ≡ record { thread = v.number; act = a } ∷ h → brings_hand a ≡ Some held.hand → Leads w held → hands_in w.number w.seen held.hand ≡ Some (record { kind = held.kind; place = held.place })
known_new v w a h held number seen brings leads =
    (λ j. hands_in (number j) (seen j) held.hand) ∙ (known_now v.number held.hand a h brings ∙ ((λ j. reference_of (Hand (sym number j) held.hand) (heap_after (sym seen j))) ∙ leads_known w held leads))
