-- Where a cell stands after an event.
use Rattle.std.proofs.Common.{◌≡◌, ℕ, zero, ◌≤◌, Bool, true, false, cond, eqb, not, List, [], ◌∷◌, ◌++◌, Option, Some, None, refl, sym, ap, ◌∙◌, arith}
use Rattle.std.specs.Prelude.{◌&&◌, ◌||◌, is_some}
use Rattle.std.proofs.lemmas.Bool.{and_parts, eqb-true}
use Rattle.arc_model.specs.declared.event.Act.{Act}
use Rattle.arc_model.specs.declared.event.Act.TheVariants as acts
use Rattle.arc_model.specs.declared.event.CellName.{CellName}
use Rattle.arc_model.specs.declared.event.CellName.TheVariants as cells
use Rattle.arc_model.specs.declared.event.Got.TheVariants as got
use Rattle.arc_model.specs.declared.shape.Kind.{Kind}
use Rattle.arc_model.specs.declared.shape.Kind.TheVariants.{Strong, Unowned, Weak}
use Rattle.arc_model.specs.Shapes.{HeapShape}
use Rattle.arc_model.specs.Heaps.{Holder, Hand, Field, Global, Strongs, Unowneds, Forever, Deinit, Object, Heap}
use Rattle.arc_model.specs.Holders.{at_first, at_slot, change, gains, has_entry, held_by, holds, in_slot, is_in, kind_in, lists, owes_to, renamed, same_holder, with_last, with_list, without}
use Rattle.arc_model.specs.Cells.{is_live, are_nil, cell, origin}
use Rattle.arc_model.specs.Effects.{becomes, claimed_if, effect, ended_if, entry_left, entry_to, finished, given_up, gone, left_slot, made, owing_none, vacated}
use Rattle.arc_model.specs.Needs.{Sight, first_failing, needs, reachable, same_bool, takes}
use Rattle.arc_model.specs.History.{next_hand, sight}
use Rattle.arc_model.specs.WellFormed.{held, total, is_own, IsWellFormed}
use Rattle.arc_model.specs.Lookup.{further, spot_in, spot, is_cell, hand_spot}
use Rattle.arc_model.specs.CellLaws.{cell_next, CellsAfter}
use Rattle.arc_model.proofs.Basics.{met, met-split, at_found, None≢Some, Some-inj}
use Rattle.arc_model.proofs.Tally.{no, same-eq, same-refl}
use Rattle.arc_model.proofs.Turns.{is_open_to}
use Rattle.arc_model.proofs.Keeps.{kept-turn}
use Rattle.arc_model.proofs.Builds.{advance}
use Rattle.arc_model.proofs.Courses.{Fielded, fielded, reached, is-open, held-is, well_formed, own-cell, hand-cell, cell-hand, twice, out_turn, or-right}
use Rattle.arc_model.proofs.Others.{spot-turn, spot-end, made-apart, spot-find, none-is}
use Rattle.arc_model.proofs.Own.{went-turn, became, swap_given}

-- z is in the same lists
abbrev SameIn : Holder → Object → Object → Type 0
SameIn z q o = (is_in z q.strong ≡ is_in z o.strong) × (is_in z q.unowned ≡ is_in z o.unowned) × (is_in z q.weak ≡ is_in z o.weak)

-- a change that leaves z where it is
spot-change : (z : Holder) (test : Object → Bool) (f : Object → Object) (os : List Object) → ((o : Object) → SameIn z (f o) o) → spot_in z (at_first test f os) ≡ spot_in z os
spot-change z test f [] same = refl
spot-change z test f (o ∷ os) same = go (test o) (spot-change z test f os same)
  where
    h : holds z (f o) ≡ holds z o
    h = let m = same o in ap (λ s. s || is_in z (f o).unowned || is_in z (f o).weak) m.0 ∙ ap (λ u. is_in z o.strong || u || is_in z (f o).weak) m.1 ∙ ap (λ w. is_in z o.strong || is_in z o.unowned || w) m.2

    k : kind_in z (f o) ≡ kind_in z o
    k = let m = same o in ap (λ s. cond s Strong (cond (is_in z (f o).unowned) Unowned Weak)) m.0 ∙ ap (λ u. cond (is_in z o.strong) Strong (cond u Unowned Weak)) m.1

    go : (b : Bool) → spot_in z (at_first test f os) ≡ spot_in z os → spot_in z (cond b (f o ∷ os) (o ∷ at_first test f os)) ≡ cond (holds z o) (Some (record { place = zero; kind = kind_in z o })) (further (spot_in z os))
    go true ih =
        ap (λ b. cond b (Some (record { place = zero; kind = kind_in z (f o) })) (further (spot_in z os))) h
        ∙ ap (λ j. cond (holds z o) (Some (record { place = zero; kind = j })) (further (spot_in z os))) k
    go false ih = ap (λ s. cond (holds z o) (Some (record { place = zero; kind = kind_in z o })) (further s)) ih

-- lists in which z stays
in-push : (z y : Holder) (xs : List Holder) → same_holder z y ≡ false → is_in z (xs ++ y ∷ []) ≡ is_in z xs
in-push z y [] h = ap (λ b. b || false) h
in-push z y (x ∷ xs) h = ap (λ b. same_holder z x || b) (in-push z y xs h)

in-gains : (z x y : Holder) (xs : List Holder) → same_holder z y ≡ false → is_in z (gains x y xs) ≡ is_in z xs
in-gains z x y xs h = go (is_in x xs)
  where
    go : (b : Bool) → is_in z (cond b (xs ++ y ∷ []) xs) ≡ is_in z xs
    go true = in-push z y xs h
    go false = refl

in-without : (z x : Holder) (xs : List Holder) → same_holder z x ≡ false → is_in z (without x xs) ≡ is_in z xs
in-without z x [] h = refl
in-without z x (w ∷ ws) h = go (same_holder x w) refl (in-without z x ws h)
  where
    go : (b : Bool) → same_holder x w ≡ b → is_in z (without x ws) ≡ is_in z ws → is_in z (cond b ws (w ∷ without x ws)) ≡ (same_holder z w || is_in z ws)
    go true e ih = ap (λ b. b || is_in z ws) (sym (ap (same_holder z) (sym (same-eq x w e)) ∙ h))
    go false e ih = ap (λ b. same_holder z w || b) ih

in-renamed : (z x y : Holder) (xs : List Holder) → same_holder z x ≡ false → same_holder z y ≡ false → is_in z (renamed x y xs) ≡ is_in z xs
in-renamed z x y [] h k = refl
in-renamed z x y (w ∷ ws) h k = go (same_holder x w) refl (in-renamed z x y ws h k)
  where
    go : (b : Bool) → same_holder x w ≡ b → is_in z (renamed x y ws) ≡ is_in z ws → is_in z (cond b (y ∷ ws) (w ∷ renamed x y ws)) ≡ (same_holder z w || is_in z ws)
    go true e ih = ap (λ b. b || is_in z ws) (k ∙ sym (ap (same_holder z) (sym (same-eq x w e)) ∙ h))
    go false e ih = ap (λ b. same_holder z w || b) ih

list-same : (z : Holder) (k : Kind) (f : List Holder → List Holder) (o : Object) → ((xs : List Holder) → is_in z (f xs) ≡ is_in z xs) → SameIn z (with_list k f o) o
list-same z Strong f o same = (same o.strong, refl, refl)
list-same z Unowned f o same = (refl, same o.unowned, refl)
list-same z Weak f o same = (refl, refl, same o.weak)

ended-same : (z : Holder) (last : Bool) (p : ℕ) (k : Kind) (q o : Object) → SameIn z q o → SameIn z (ended_if last p k q) o
ended-same z true p Strong q o same = same
ended-same z true p Unowned q o same = same
ended-same z true p Weak q o same = same
ended-same z false p k q o same = same

left-same : (z : Holder) (p : ℕ) (m : Option ℕ) (o : Object) → same_holder z Unowneds ≡ false → SameIn z (left_slot p m (owing_none (record o { slot = None }))) o
left-same z p None o h = (refl, refl, in-without z Unowneds o.weak h)
left-same z p (Some e) o h = (refl, refl, refl)

-- cells are no hands and no extra holders
cell-own : (z : Holder) → is_cell z ≡ true → is_own z ≡ true
cell-own (Hand p k) h = no h
cell-own (Field o f) h = refl
cell-own (Global g) h = refl
cell-own Strongs h = no h
cell-own Unowneds h = no h
cell-own Forever h = no h

no-hand : (z : Holder) (p k : ℕ) → is_cell z ≡ true → same_holder z (Hand p k) ≡ false
no-hand (Hand q n) p k h = no h
no-hand (Field o f) p k h = refl
no-hand (Global g) p k h = refl
no-hand Strongs p k h = refl
no-hand Unowneds p k h = refl
no-hand Forever p k h = refl

no-strongs : (z : Holder) → is_cell z ≡ true → same_holder z Strongs ≡ false
no-strongs (Hand q n) h = refl
no-strongs (Field o f) h = refl
no-strongs (Global g) h = refl
no-strongs Strongs h = no h
no-strongs Unowneds h = refl
no-strongs Forever h = refl

no-unowneds : (z : Holder) → is_cell z ≡ true → same_holder z Unowneds ≡ false
no-unowneds (Hand q n) h = refl
no-unowneds (Field o f) h = refl
no-unowneds (Global g) h = refl
no-unowneds Strongs h = refl
no-unowneds Unowneds h = no h
no-unowneds Forever h = refl

-- another holder takes a place, or leaves it
renamed-spot : (z x y : Holder) (heap : Heap) → same_holder z x ≡ false → same_holder z y ≡ false → spot z (becomes x y heap) ≡ spot z heap
renamed-spot z x y heap h k = spot-change z (holds x) (lists (renamed x y)) heap.objects (λ o. (in-renamed z x y o.strong h k, in-renamed z x y o.unowned h k, in-renamed z x y o.weak h k))

-- by whether z is the cell that is named
named : {X : Type 0} (z c : Holder) (spots : Holder → X) (there elsewhere : X) → (z ≡ c → spots c ≡ there) → (same_holder z c ≡ false → spots z ≡ elsewhere) → spots z ≡ cond (same_holder z c) there elsewhere
named z c spots there elsewhere is isn't = go (same_holder z c) refl
  where
    go : (b : Bool) → same_holder z c ≡ b → spots z ≡ cond b there elsewhere
    go true e = ap spots (same-eq z c e) ∙ is (same-eq z c e)
    go false e = isn't e

nil-spot : (x : Holder) (heap : Heap) → is_some (held_by x heap) ≡ false → spot x heap ≡ None
nil-spot x heap h = none-is (spot x heap) (spot-find x heap.objects ∙ h)

entry_to-spot : (z : Holder) (p : ℕ) (m : Option ℕ) (heap : Heap) → spot z (entry_to p m heap) ≡ spot z heap
entry_to-spot z p None heap = refl
entry_to-spot z p (Some e) heap = refl

claimed_if-spot : (z : Holder) (last : Bool) (p e : ℕ) (heap : Heap) → spot z (claimed_if last p e heap) ≡ spot z heap
claimed_if-spot z true p e heap = refl
claimed_if-spot z false p e heap = refl

-- the four swaps
swap-spot : {shape : HeapShape} (p : ℕ) (c : CellName) (h k : Option ℕ) (z : Holder) (next : ℕ → ℕ) (heap : Heap) → IsWellFormed shape next heap → ((w : Holder) → is_own w ≡ true → total (held w) (effect p (acts.Swap c h k) heap).objects ≤ 1) → is_cell z ≡ true → Fielded shape (is_live shape) heap heap c →
    ((n : ℕ) → h ≡ Some n → is_some (held_by (Hand p n) heap) ≡ true) → ((n : ℕ) → k ≡ Some n → n ≡ next p) → is_some k ≡ is_some (held_by (cell heap c) heap) → spot z (effect p (acts.Swap c h k) heap) ≡ cond (same_holder z (cell heap c)) (hand_spot p h heap) (spot z heap)
swap-spot p c None None z next heap f once is reach given came full = named z (cell heap c) (λ w. spot w heap) None (spot z heap) (λ _. nil-spot (cell heap c) heap (sym full)) (λ _. refl)
swap-spot p c None (Some k) z next heap f once is reach given came full =
    let t = out_turn p k (acts.Swap c None (Some k)) next heap c (came k refl) f (own-cell heap c) (sym full) (is-open p heap heap c reach) in
    named z (cell heap c) (λ w. spot w (becomes (cell heap c) (Hand p k) heap)) None (spot z heap)
    (λ _. went-turn p (acts.Swap c None (Some k)) next (advance true p next) heap (becomes (cell heap c) (Hand p k) heap) t (cell heap c) f (own-cell heap c) (same-refl (cell heap c)) (cell-hand p k heap c))
    (λ other. renamed-spot z (cell heap c) (Hand p k) heap other (no-hand z p k is))
swap-spot p c (Some h) None z next heap f once is reach given came full =
    named z (cell heap c) (λ w. spot w (becomes (Hand p h) (cell heap c) heap)) (spot (Hand p h) heap) (spot z heap)
    (λ _. became (Hand p h) (cell heap c) heap (cell-hand p h heap c) (f.once (Hand p h) refl) (once (cell heap c) (own-cell heap c)) (given h refl))
    (λ other. renamed-spot z (Hand p h) (cell heap c) heap (no-hand z p h is) other)
swap-spot p c (Some h) (Some k) z next heap f once is reach given came full =
    let act = acts.Swap c (Some h) (Some k) in
    let mid = becomes (cell heap c) (Hand p k) heap in
    let t = out_turn p k act next heap c (came k refl) f (own-cell heap c) (sym full) (is-open p heap heap c reach) in
    let g = kept-turn p act next (advance true p next) heap mid t f in
    let hand = spot-turn p act next (advance true p next) heap mid t (Hand p h) (hand-cell p h heap c) (apart (same_holder (Hand p h) (Hand p k)) refl) in
    let there : is_some (held_by (Hand p h) mid) ≡ true = sym (spot-find (Hand p h) mid.objects) ∙ ap is_some hand ∙ spot-find (Hand p h) heap.objects ∙ given h refl in
    named z (cell heap c) (λ w. spot w (becomes (Hand p h) (cell heap c) mid)) (spot (Hand p h) heap) (spot z heap)
    (λ _. became (Hand p h) (cell heap c) mid (cell-hand p h heap c) (g.once (Hand p h) refl) (once (cell heap c) (own-cell heap c)) there ∙ hand)
    (λ other. renamed-spot z (Hand p h) (cell heap c) mid (no-hand z p h is) other ∙ renamed-spot z (cell heap c) (Hand p k) heap other (no-hand z p k is))
  where
    apart : (b : Bool) → same_holder (Hand p h) (Hand p k) ≡ b → b ≡ false
    apart true e =
        let a = held-is (Hand p h) heap.objects (given h refl) in
        let b = eqb-true h k (and_parts (eqb p p) (eqb h k) e).1 in
        let d = came k refl in
        let g = f.fresh p h (omega arith) in absurd (omega arith)
    apart false e = refl

same-some : (a b : Bool) → same_bool a (not (not b)) ≡ true → a ≡ b
same-some true true h = refl
same-some true false h = no h
same-some false true h = no h
same-some false false h = refl

swap-came : (sight : Sight) (p : ℕ) (k : Option ℕ) (next : ℕ → ℕ) → sight.next ≡ next p → (takes sight k).0 ≡ true → (n : ℕ) → k ≡ Some n → n ≡ next p
swap-came sight p None next is ok n e = absurd (None≢Some n e)
swap-came sight p (Some i) next is ok n e = sym (Some-inj e) ∙ eqb-true i sight.next ok ∙ is

cells_step : (shape : HeapShape) (sight : Sight) (p : ℕ) (act : Act) (z : Holder) (next : ℕ → ℕ) → sight.next ≡ next p → first_failing (needs shape sight p act) ≡ None → IsWellFormed shape next sight.heap → ((w : Holder) → is_own w ≡ true → total (held w) (effect p act sight.heap).objects ≤ 1) → is_cell z ≡ true → spot z (effect p act sight.heap) ≡ cell_next p act z sight.heap
cells_step shape sight p (acts.New k c s) z next is ok f once cell' = spot-end z sight.heap.objects (made p k c s sight.heap.objects) (made-apart z p k c s sight.heap.objects (cell-own z cell') (no-hand z p k cell'))
cells_step shape sight p acts.Full z next is ok f once cell' = refl
cells_step shape sight p (acts.Copy from k) z next is ok f once cell' =
    let x = origin sight.heap p from in
    spot-change z (holds x) (lists (gains x (Hand p k))) sight.heap.objects (λ o. (in-gains z x (Hand p k) o.strong (no-hand z p k cell'), in-gains z x (Hand p k) o.unowned (no-hand z p k cell'), in-gains z x (Hand p k) o.weak (no-hand z p k cell')))
cells_step shape sight p (acts.UnownedOf h k) z next is ok f once cell' = spot-change z (holds (Hand p h)) (with_list Unowned (with_last (Hand p k))) sight.heap.objects (λ o. (refl, in-push z (Hand p k) o.unowned (no-hand z p k cell'), refl))
cells_step shape sight p (acts.WeakOf h k) z next is ok f once cell' = spot-change z (holds (Hand p h)) (with_list Weak (with_last (Hand p k))) sight.heap.objects (λ o. (refl, refl, in-push z (Hand p k) o.weak (no-hand z p k cell')))
cells_step shape sight p (acts.Load h (got.Hand k)) z next is ok f once cell' = spot-change z (holds (Hand p h)) (with_list Strong (with_last (Hand p k))) sight.heap.objects (λ o. (in-push z (Hand p k) o.strong (no-hand z p k cell'), refl, refl))
cells_step shape sight p (acts.Load h got.Dead) z next is ok f once cell' = refl
cells_step shape sight p (acts.Load h got.Nil) z next is ok f once cell' = refl
cells_step shape sight p (acts.Drop h last) z next is ok f once cell' =
    entry_to-spot z p (entry_left (Hand p h) last (held_by (Hand p h) sight.heap)) (change (holds (Hand p h)) (given_up p (Hand p h) last) sight.heap)
    ∙ spot-change z (holds (Hand p h)) (given_up p (Hand p h) last) sight.heap.objects (λ o.
    ended-same z last p (kind_in (Hand p h) o) (with_list (kind_in (Hand p h) o) (without (Hand p h)) o) o (list-same z (kind_in (Hand p h) o) (without (Hand p h)) o (λ xs. in-without z (Hand p h) xs (no-hand z p h cell'))))
cells_step shape sight p (acts.CountFull k from) z next is ok f once cell' = refl
cells_step shape sight p (acts.Claim e) z next is ok f once cell' = refl
cells_step shape sight p acts.NoEntry z next is ok f once cell' = refl
cells_step shape sight p (acts.Side s e why) z next is ok f once cell' = spot-change z (in_slot s) (λ o. record o { entry = Some e }) sight.heap.objects (λ o. (refl, refl, refl))
cells_step shape sight p (acts.Back e) z next is ok f once cell' = refl
cells_step shape sight p (acts.Swap c h k) z next is ok f once cell' =
    let m = met-split (reachable shape sight.heap p c) _ (met (needs shape sight p (acts.Swap c h k)) ok) in
    swap-spot p c h k z next sight.heap f once cell' (reached shape sight.heap p c m.0) (swap_given shape sight p c h m.1.0) (swap-came sight p k next is m.1.1.0) (same-some (is_some k) (is_some (held_by (cell sight.heap c) sight.heap)) m.1.1.1.0)
cells_step shape sight p (acts.Look c) z next is ok f once cell' = refl
cells_step shape sight p (acts.Take s g k) z next is ok f once cell' =
    let m = met (needs shape sight p (acts.Take s g k)) ok in
    let c : CellName = cells.Field s g in
    let act = acts.Take s g k in
    let t = out_turn p k act next sight.heap c (eqb-true k sight.next m.1.1.1.1.0 ∙ is) f (own-cell sight.heap c) (twice (is_some (held_by (cell sight.heap c) sight.heap)) m.1.1.1.0) (fielded sight.heap s g (is_open_to shape p) m.1.0 (λ o e. or-right (is_live shape o) (owes_to p Deinit o) (and_parts (owes_to p Deinit o) (are_nil sight.heap g o) (at_found (λ o. owes_to p Deinit o && are_nil sight.heap g o) (at_slot s sight.heap) o e m.1.1.0)).0)) in
    named z (cell sight.heap c) (λ w. spot w (becomes (cell sight.heap c) (Hand p k) sight.heap)) None (spot z sight.heap)
    (λ _. went-turn p act next (advance true p next) sight.heap (becomes (cell sight.heap c) (Hand p k) sight.heap) t (cell sight.heap c) f (own-cell sight.heap c) (same-refl (cell sight.heap c)) (cell-hand p k sight.heap c))
    (λ other. renamed-spot z (cell sight.heap c) (Hand p k) sight.heap other (no-hand z p k cell'))
cells_step shape sight p (acts.Finish s last) z next is ok f once cell' =
    spot-change z (in_slot s) (finished p last) sight.heap.objects (λ o.
    ended-same z last p Unowned (owing_none (with_list Unowned (without Strongs) o)) o (refl, in-without z Strongs o.unowned (no-strongs z cell'), refl))
cells_step shape sight p (acts.Vacate s) z next is ok f once cell' = spot-change z (in_slot s) (vacated p) sight.heap.objects (λ o. left-same z p o.entry o (no-unowneds z cell'))
cells_step shape sight p (acts.Gone e last) z next is ok f once cell' =
    claimed_if-spot z last p e (change (has_entry e) (gone p last) sight.heap)
    ∙ spot-change z (has_entry e) (gone p last) sight.heap.objects (λ o.
    ended-same z last p Weak (owing_none (with_list Weak (without Unowneds) o)) o (refl, refl, in-without z Unowneds o.weak (no-unowneds z cell')))

pub cells_after : CellsAfter
cells_after shape h e z legal cell' = cells_step shape (sight e.thread h) e.thread e.act z (λ q. next_hand q h) refl legal.0 (well_formed shape h legal.1) (well_formed shape (e ∷ h) legal).once cell'
