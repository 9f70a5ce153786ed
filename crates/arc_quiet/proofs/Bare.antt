-- An object without an entry whose vacating a thread owes gains none by what other threads do.
use Rattle.std.proofs.Common.{◌≡◌, ℕ, zero, suc, ◌≤◌, ◌+◌, Bool, true, false, cond, eqb, not, List, [], ◌∷◌, ◌++◌, length, Option, Some, None, ◌⊎◌, inl, inr, refl, sym, ap, ◌∙◌, subst, arith}
use Rattle.std.specs.Prelude.{◌&&◌, find, slice_get, option_map}
use Rattle.std.proofs.lemmas.Bool.{and_parts, eqb-true}
use Rattle.arc_model.specs.declared.event.Act.{Act}
use Rattle.arc_model.specs.declared.event.Act.TheVariants as acts
use Rattle.arc_model.specs.declared.event.CellName.TheVariants as cells
use Rattle.arc_model.specs.declared.event.Got.TheVariants as got
use Rattle.arc_model.specs.declared.shape.Kind.{Kind}
use Rattle.arc_model.specs.declared.shape.Kind.TheVariants.{Strong, Unowned, Weak}
use Rattle.arc_model.specs.Shapes.{HeapShape}
use Rattle.arc_model.specs.Heaps.{Holder, Hand, Vacating, Object, Heap}
use Rattle.arc_model.specs.Holders.{at_first, at_slot, change, gains, has_entry, held_by, holds, in_slot, is_by, is_duty, kind_in, lists, owes_to, renamed, with_last, with_list, without}
use Rattle.arc_model.specs.Cells.{cell, is_live, origin}
use Rattle.arc_model.specs.Effects.{becomes, claimed_if, effect, ended_if, entry_left, finished, given_up, gone, left_slot, made, owing_none, put_in, taken_out, vacated}
use Rattle.arc_model.specs.Needs.{Sight, first_failing, is_at_cap, needs}
use Rattle.arc_model.specs.WellFormed.{more, total, IsWhole}
use Rattle.arc_model.specs.History.{History, heap_after, sight, share, IsLegal}
use Rattle.arc_spelling.specs.Spelling.{Note}
use Rattle.arc_spelling.specs.Spelling.Note.{Entry}
use Rattle.arc_spelling.specs.SpellingTies.{Causes, Ties}
use Rattle.arc_model.proofs.Basics.{met, at_found, None≢Some, Some-inj, empty-is}
use Rattle.arc_model.proofs.Builds.{entry_to-objects, find-passes}
use Rattle.arc_model.proofs.Courses.{well_formed}
use Rattle.arc_model.proofs.Others.{not-among, false-if}
use Rattle.arc_model.proofs.Stages.{vacating-facts}
use Rattle.arc_spelling.proofs.SpellTies.{facts_recent}
use Rattle.arc_model.proofs.Turns.{put-found, place-put}
use Rattle.arc_model.proofs.Tally.{no, clash}

-- what object q, in slot s, whose vacating p owes, was before an event: it was there so, and without an entry if it gains none
record Was (p s i : ℕ) (q : Object) (os : List Object) : Type 0 where
  o : Object
  here : slice_get os i ≡ Some o
  slot : in_slot s o ≡ true
  owed : owes_to p Vacating o ≡ true
  entry : o.entry ≡ None → q.entry ≡ None

unchanged : (p s i : ℕ) (q : Object) (os : List Object) → slice_get os i ≡ Some q → in_slot s q ≡ true → owes_to p Vacating q ≡ true → Was p s i q os
unchanged p s i q os here slot owed = record { o = q; here = here; slot = slot; owed = owed; entry = λ e. e }

-- a change of an object that leaves it so
abbrev Keeps : ℕ → ℕ → Object → Object → Type 0
Keeps p s o q = in_slot s q ≡ true → owes_to p Vacating q ≡ true → (in_slot s o ≡ true) × (owes_to p Vacating o ≡ true) × (o.entry ≡ None → q.entry ≡ None)

changed : (test : Object → Bool) (f : Object → Object) (os : List Object) (i : ℕ) (q : Object) → slice_get (at_first test f os) i ≡ Some q →
    (slice_get os i ≡ Some q) ⊎ ((o : Object) × (slice_get os i ≡ Some o) × (find test os ≡ Some o) × (q ≡ f o))
changed test f [] i q h = absurd (None≢Some q h)
changed test f (r ∷ os) zero q h = go (test r) refl h
  where
    go : (b : Bool) → test r ≡ b → slice_get (cond b (f r ∷ os) (r ∷ at_first test f os)) zero ≡ Some q → (slice_get (r ∷ os) zero ≡ Some q) ⊎ ((o : Object) × (slice_get (r ∷ os) zero ≡ Some o) × (cond b (Some r) (find test os) ≡ Some o) × (q ≡ f o))
    go true e h = inr (r, refl, refl, Some-inj (sym h))
    go false e h = inl h
changed test f (r ∷ os) (suc i) q h = go (test r) refl h (changed test f os i q)
  where
    go : (b : Bool) → test r ≡ b → slice_get (cond b (f r ∷ os) (r ∷ at_first test f os)) (suc i) ≡ Some q → (slice_get (at_first test f os) i ≡ Some q → (slice_get os i ≡ Some q) ⊎ ((o : Object) × (slice_get os i ≡ Some o) × (find test os ≡ Some o) × (q ≡ f o))) →
        (slice_get os i ≡ Some q) ⊎ ((o : Object) × (slice_get os i ≡ Some o) × (cond b (Some r) (find test os) ≡ Some o) × (q ≡ f o))
    go true e h ih = inl h
    go false e h ih = ih h

change-was : (p s i : ℕ) (q : Object) (test : Object → Bool) (f : Object → Object) (os : List Object) → ((o : Object) → slice_get os i ≡ Some o → find test os ≡ Some o → Keeps p s o (f o)) →
    slice_get (at_first test f os) i ≡ Some q → in_slot s q ≡ true → owes_to p Vacating q ≡ true → Was p s i q os
change-was p s i q test f os keeps here slot owed =
    elim (changed test f os i q here) [
      | inl same ↦ unchanged p s i q os same slot owed
      | inr c ↦ go c.0 c.1 c.2 c.3
    ]
  where
    go : (o : Object) → slice_get os i ≡ Some o → find test os ≡ Some o → q ≡ f o → Was p s i q os
    go o at found is =
        let k = keeps o at found (ap (in_slot s) (sym is) ∙ slot) (ap (owes_to p Vacating) (sym is) ∙ owed) in
        record { o = o; here = at; slot = k.0; owed = k.1; entry = λ e. ap (λ (r : Object). r.entry) is ∙ k.2 e }

end-back : (os : List Object) (m : Object) (i : ℕ) (q : Object) → slice_get (os ++ m ∷ []) i ≡ Some q → (slice_get os i ≡ Some q) ⊎ (q ≡ m)
end-back [] m zero q h = inr (Some-inj (sym h))
end-back [] m (suc i) q h = absurd (None≢Some q h)
end-back (r ∷ os) m zero q h = inl h
end-back (r ∷ os) m (suc i) q h = end-back os m i q h

-- a duty of another thread, or none
not-mine : {A : Type 0} (p q : ℕ) (b : Bool) → eqb q p ≡ false → (eqb q p && b) ≡ true → A
not-mine p q b other h = clash (eqb q p) (and_parts (eqb q p) b h).0 other

ended-keeps : (p q s : ℕ) (last : Bool) (k : Kind) (f : List Holder → List Holder) (o : Object) → eqb q p ≡ false → Keeps p s o (ended_if last q k (with_list k f o))
ended-keeps p q s true Strong f o other = λ slot owed. not-mine p q false other owed
ended-keeps p q s true Unowned f o other = λ slot owed. not-mine p q true other owed
ended-keeps p q s true Weak f o other = λ slot owed. (slot, owed, λ e. refl)
ended-keeps p q s false Strong f o other = λ slot owed. (slot, owed, λ e. e)
ended-keeps p q s false Unowned f o other = λ slot owed. (slot, owed, λ e. e)
ended-keeps p q s false Weak f o other = λ slot owed. (slot, owed, λ e. e)

finish-keeps : (p q s : ℕ) (last : Bool) (o : Object) → eqb q p ≡ false → Keeps p s o (finished q last o)
finish-keeps p q s true o other = λ slot owed. not-mine p q true other owed
finish-keeps p q s false o other = λ slot owed. no owed

left-keeps : (p q s : ℕ) (m : Option ℕ) (o r : Object) → eqb q p ≡ false → Keeps p s o (left_slot q m (owing_none r))
left-keeps p q s None o r other = λ slot owed. no owed
left-keeps p q s (Some e) o r other = λ slot owed. not-mine p q false other owed

gone-keeps : (p q s : ℕ) (last : Bool) (o : Object) → Keeps p s o (gone q last o)
gone-keeps p q s true o = λ slot owed. no owed
gone-keeps p q s false o = λ slot owed. no owed

-- an object whose vacating is owed needs no entry
no-side : {A : Type 0} (shape : HeapShape) (p : ℕ) (why : Kind) (o : Object) → 1 ≤ shape.caps.unowned → IsWhole shape o → owes_to p Vacating o ≡ true → is_at_cap shape why o ≡ true → A
no-side shape p why o cap whole owed full = go why full
  where
    duty : is_duty Vacating o.owed ≡ true
    duty = (and_parts (is_by p o.owed) (is_duty Vacating o.owed) owed).1

    lifeless : is_live shape o ≡ false
    lifeless = ap not (vacating-facts o whole duty).strong

    go : {A : Type 0} (why : Kind) → is_at_cap shape why o ≡ true → A
    go Strong full = clash (is_live shape o) (and_parts (is_live shape o) (eqb (length o.strong) (shape.caps.strong + 1)) full).0 lifeless
    go Unowned full =
        let none : o.unowned ≡ [] = empty-is o.unowned (vacating-facts o whole duty).unowned in
        let zero-cap : length o.unowned ≡ shape.caps.unowned = eqb-true (length o.unowned) shape.caps.unowned full in
        let nothing : length o.unowned ≡ 0 = ap length none in
        absurd (omega arith)
    go Weak full = clash (is_live shape o) full lifeless

renames-was : (p s i : ℕ) (q : Object) (x y : Holder) (heap : Heap) → slice_get (becomes x y heap).objects i ≡ Some q → in_slot s q ≡ true → owes_to p Vacating q ≡ true → Was p s i q heap.objects
renames-was p s i q x y heap = change-was p s i q (holds x) (lists (renamed x y)) heap.objects (λ o at found slot owed. (slot, owed, λ e. e))

takes-was : (p r s i : ℕ) (q : Object) (c : Holder) (k : Option ℕ) (heap : Heap) → slice_get (taken_out c r k heap).objects i ≡ Some q → in_slot s q ≡ true → owes_to p Vacating q ≡ true → Was p s i q heap.objects
takes-was p r s i q c None heap here slot owed = unchanged p s i q heap.objects here slot owed
takes-was p r s i q c (Some k) heap here slot owed = renames-was p s i q c (Hand r k) heap here slot owed

puts-was : (p r s i : ℕ) (q : Object) (c : Holder) (h : Option ℕ) (heap : Heap) → slice_get (put_in c r h heap).objects i ≡ Some q → in_slot s q ≡ true → owes_to p Vacating q ≡ true → Was p s i q heap.objects
puts-was p r s i q c None heap here slot owed = unchanged p s i q heap.objects here slot owed
puts-was p r s i q c (Some h) heap here slot owed = renames-was p s i q (Hand r h) c heap here slot owed

-- an act of another thread q
act-was : (shape : HeapShape) (sight : Sight) (p r : ℕ) (act : Act) (s i : ℕ) (q : Object) → eqb r p ≡ false → 1 ≤ shape.caps.unowned → first_failing (needs shape sight r act) ≡ None →
    ((j : ℕ) (o : Object) → slice_get sight.heap.objects j ≡ Some o → IsWhole shape o) → slice_get (effect r act sight.heap).objects i ≡ Some q → in_slot s q ≡ true → owes_to p Vacating q ≡ true → Was p s i q sight.heap.objects
act-was shape sight p r (acts.New k c t) s i q other cap ok whole here slot owed =
    elim (end-back sight.heap.objects (made r k c t sight.heap.objects) i q here) [
      | inl same ↦ unchanged p s i q sight.heap.objects same slot owed
      | inr new ↦ no (ap (owes_to p Vacating) (sym new) ∙ owed)
    ]
act-was shape sight p r acts.Full s i q other cap ok whole here slot owed = unchanged p s i q sight.heap.objects here slot owed
act-was shape sight p r (acts.Copy from k) s i q other cap ok whole here slot owed =
    change-was p s i q (holds (origin sight.heap r from)) (lists (gains (origin sight.heap r from) (Hand r k))) sight.heap.objects (λ o at found slot owed. (slot, owed, λ e. e)) here slot owed
act-was shape sight p r (acts.UnownedOf h k) s i q other cap ok whole here slot owed =
    change-was p s i q (holds (Hand r h)) (with_list Unowned (with_last (Hand r k))) sight.heap.objects (λ o at found slot owed. (slot, owed, λ e. e)) here slot owed
act-was shape sight p r (acts.WeakOf h k) s i q other cap ok whole here slot owed =
    change-was p s i q (holds (Hand r h)) (with_list Weak (with_last (Hand r k))) sight.heap.objects (λ o at found slot owed. (slot, owed, λ e. e)) here slot owed
act-was shape sight p r (acts.Load h (got.Hand k)) s i q other cap ok whole here slot owed =
    change-was p s i q (holds (Hand r h)) (with_list Strong (with_last (Hand r k))) sight.heap.objects (λ o at found slot owed. (slot, owed, λ e. e)) here slot owed
act-was shape sight p r (acts.Load h got.Dead) s i q other cap ok whole here slot owed = unchanged p s i q sight.heap.objects here slot owed
act-was shape sight p r (acts.Load h got.Nil) s i q other cap ok whole here slot owed = unchanged p s i q sight.heap.objects here slot owed
act-was shape sight p r (acts.Drop h last) s i q other cap ok whole here slot owed =
    let x : Holder = Hand r h in
    let mid = change (holds x) (given_up r x last) sight.heap in
    change-was p s i q (holds x) (given_up r x last) sight.heap.objects (λ o at found. ended-keeps p r s last (kind_in x o) (without x) o other)
    (ap (λ os. slice_get os i) (sym (entry_to-objects r (entry_left x last (held_by x sight.heap)) mid)) ∙ here) slot owed
act-was shape sight p r (acts.CountFull k from) s i q other cap ok whole here slot owed = unchanged p s i q sight.heap.objects here slot owed
act-was shape sight p r (acts.Claim e) s i q other cap ok whole here slot owed = unchanged p s i q sight.heap.objects here slot owed
act-was shape sight p r acts.NoEntry s i q other cap ok whole here slot owed = unchanged p s i q sight.heap.objects here slot owed
act-was shape sight p r (acts.Side t e why) s i q other cap ok whole here slot owed =
    let m = met (needs shape sight r (acts.Side t e why)) ok in
    change-was p s i q (in_slot t) (λ o. record o { entry = Some e }) sight.heap.objects (λ o at found slot owed. no-side shape p why o cap (whole i o at) owed (at_found (is_at_cap shape why) (at_slot t sight.heap) o found m.1.1.1.0)) here slot owed
act-was shape sight p r (acts.Back e) s i q other cap ok whole here slot owed = unchanged p s i q sight.heap.objects here slot owed
act-was shape sight p r (acts.Swap c h k) s i q other cap ok whole here slot owed =
    let mid = taken_out (cell sight.heap c) r k sight.heap in
    let a = puts-was p r s i q (cell sight.heap c) h mid here slot owed in
    let b = takes-was p r s i a.o (cell sight.heap c) k sight.heap a.here a.slot a.owed in
    record { o = b.o; here = b.here; slot = b.slot; owed = b.owed; entry = λ e. a.entry (b.entry e) }
act-was shape sight p r (acts.Look c) s i q other cap ok whole here slot owed = unchanged p s i q sight.heap.objects here slot owed
act-was shape sight p r (acts.Take t f k) s i q other cap ok whole here slot owed = renames-was p s i q (cell sight.heap (cells.Field t f)) (Hand r k) sight.heap here slot owed
act-was shape sight p r (acts.Finish t last) s i q other cap ok whole here slot owed =
    change-was p s i q (in_slot t) (finished r last) sight.heap.objects (λ o at found. finish-keeps p r s last o other) here slot owed
act-was shape sight p r (acts.Vacate t) s i q other cap ok whole here slot owed =
    change-was p s i q (in_slot t) (vacated r) sight.heap.objects (λ o at found. left-keeps p r s o.entry o (record o { slot = None }) other) here slot owed
act-was shape sight p r (acts.Gone e last) s i q other cap ok whole here slot owed =
    change-was p s i q (has_entry e) (gone r last) sight.heap.objects (λ o at found. gone-keeps p r s last o)
    (ap (λ os. slice_get os i) (sym (if-objects last)) ∙ here) slot owed
  where
    if-objects : (last : Bool) → (claimed_if last r e (change (has_entry e) (gone r last) sight.heap)).objects ≡ (change (has_entry e) (gone r last) sight.heap).objects
    if-objects true = refl
    if-objects false = refl

-- over events of other threads
others-was : (shape : HeapShape) (p s i : ℕ) (q : Object) (later earlier : History) → 1 ≤ shape.caps.unowned → IsLegal shape (later ++ earlier) → share later p ≡ [] →
    slice_get (heap_after (later ++ earlier)).objects i ≡ Some q → in_slot s q ≡ true → owes_to p Vacating q ≡ true → Was p s i q (heap_after earlier).objects
others-was shape p s i q [] earlier cap legal none here slot owed = unchanged p s i q (heap_after earlier).objects here slot owed
others-was shape p s i q (e ∷ later) earlier cap legal none here slot owed =
    let apart = not-among p e later none in
    let other : eqb e.thread p ≡ false = false-if (eqb e.thread p) (λ h. apart.0 (eqb-true e.thread p h)) in
    let a = act-was shape (sight e.thread (later ++ earlier)) p e.thread e.act s i q other cap legal.0 (well_formed shape (later ++ earlier) legal.1).whole here slot owed in
    let b = others-was shape p s i a.o later earlier cap legal.1 apart.1 a.here a.slot a.owed in
    record { o = b.o; here = b.here; slot = b.slot; owed = b.owed; entry = λ n. a.entry (b.entry n) }

-- the one object that passes is found
passing-counts : (test : Object → Bool) (os : List Object) (i : ℕ) (o : Object) → slice_get os i ≡ Some o → test o ≡ true → 1 ≤ total (λ r. more (test r) zero) os
passing-counts test [] i o here t = absurd (None≢Some o here)
passing-counts test (r ∷ os) zero o here t = let a : more (test r) zero ≡ 1 = ap (λ b. more b zero) (ap test (Some-inj here) ∙ t) in omega arith
passing-counts test (r ∷ os) (suc i) o here t = let a = passing-counts test os i o here t in omega arith

pub find-only : (test : Object → Bool) (os : List Object) (i : ℕ) (o : Object) → total (λ r. more (test r) zero) os ≤ 1 → slice_get os i ≡ Some o → test o ≡ true → find test os ≡ Some o
find-only test [] i o one here t = absurd (None≢Some o here)
find-only test (r ∷ os) zero o one here t = ap (λ b. cond b (Some r) (find test os)) (ap test (Some-inj here) ∙ t) ∙ here
find-only test (r ∷ os) (suc i) o one here t = go (test r) refl (λ few. find-only test os i o few here t)
  where
    go : (b : Bool) → test r ≡ b → (total (λ r. more (test r) zero) os ≤ 1 → find test os ≡ Some o) → cond b (Some r) (find test os) ≡ Some o
    go true e ih = let a : more (test r) zero ≡ 1 = ap (λ b. more b zero) e in let c = passing-counts test os i o here t in absurd (omega arith)
    go false e ih = ih (omega arith)

-- an object that was noted without an entry has none when its slot is vacated
pub bare_now : (causes : Causes) (shape : HeapShape) (p s : ℕ) (b : List Note) (h : History) (q : Object) → 1 ≤ shape.caps.unowned → IsLegal shape h → Ties causes shape p (Entry s None ∷ b) h →
    at_slot s (heap_after h) ≡ Some q → owes_to p Vacating q ≡ true → q.entry ≡ None
bare_now causes shape p s b h q cap legal tied found owed =
    let r = facts_recent causes shape p (Entry s None) b h refl tied in
    let place = place-put (heap_after h).objects (at_first (in_slot s) (λ o. o) (heap_after h).objects) q q (put-found (in_slot s) (λ o. o) (heap_after h).objects q found) in
    let legal' : IsLegal shape (r.later ++ r.earlier) = subst (IsLegal shape) r.split legal in
    let w = others-was shape p s place.0 q r.later r.earlier cap legal' r.quiet (ap (λ g. slice_get (heap_after g).objects place.0) (sym r.split) ∙ place.1) (find-passes (in_slot s) (heap_after h).objects q found) owed in
    let earlier : IsLegal shape r.earlier = before r.later r.earlier legal' in
    let same = find-only (in_slot s) (heap_after r.earlier).objects place.0 w.o ((well_formed shape r.earlier earlier).slots s) w.here w.slot in
    w.entry (Some-inj (ap (option_map (λ o. o.entry)) (sym same) ∙ r.holds))
  where
    before : (later earlier : History) → IsLegal shape (later ++ earlier) → IsLegal shape earlier
    before [] earlier legal = legal
    before (e ∷ later) earlier legal = before later earlier legal.1
