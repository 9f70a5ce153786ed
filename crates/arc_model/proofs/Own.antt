-- Where an event leaves the hand that it brings and the one that it ends.
use Rattle.std.proofs.Common.{◌≡◌, ℕ, suc, ◌≤◌, Bool, true, false, eqb, not, List, [], ◌∷◌, ◌++◌, length, Option, Some, None, refl, sym, ap, ◌∙◌, arith}
use Rattle.std.specs.Prelude.{find, slice_get, is_some}
use Rattle.std.proofs.lemmas.Bool.{eqb-true}
use Rattle.arc_model.specs.declared.event.Act.{Act}
use Rattle.arc_model.specs.declared.event.Act.TheVariants as acts
use Rattle.arc_model.specs.declared.event.CellName.{CellName}
use Rattle.arc_model.specs.declared.event.CellName.TheVariants as cells
use Rattle.arc_model.specs.declared.event.Origin.{Origin}
use Rattle.arc_model.specs.declared.event.Origin.TheVariants as origins
use Rattle.arc_model.specs.declared.event.Got.TheVariants as got
use Rattle.arc_model.specs.declared.shape.Kind.{Kind}
use Rattle.arc_model.specs.declared.shape.Kind.TheVariants.{Strong, Unowned, Weak}
use Rattle.arc_model.proofs.Basics.{AreMet, met, None≢Some, met-split, opposite}
use Rattle.arc_model.proofs.Builds.{advance, some-is, find-passes, entry_to-objects}
use Rattle.arc_model.proofs.Courses.{Fielded, reached, is-open, held-is, not-held, well_formed, own-cell, hand-cell, twice, passes-some, out_turn, in_turn, swap_second}
use Rattle.arc_model.proofs.Keeps.{kept-turn}
use Rattle.arc_model.proofs.Others.{only_in, spot-find, none-is, spot-held, own-turn}
use Rattle.arc_model.proofs.Stages.{in-kind}
use Rattle.arc_model.proofs.Tally.{no, in-tally, tally-in, tally-push, tally-renamed, same-refl, gains-present}
use Rattle.arc_model.proofs.Turns.{put-found, total-put, Turn, leave, edited, goes, comes, Fits, tally-edited, held_one, held-turn}
use Rattle.arc_model.specs.Cells.{is_live, cell, origin, is_nil}
use Rattle.arc_model.specs.Effects.{becomes, effect, made, given_up, ended_if, entry_left}
use Rattle.arc_model.specs.Heaps.{Holder, Hand, Object, Heap}
use Rattle.arc_model.specs.History.{next_hand, sight}
use Rattle.arc_model.specs.Holders.{same_holder, is_in, holds, kind_in, list_of, lists, with_list, at_first, gains, renamed, without, change, with_last, held_by}
use Rattle.arc_model.specs.Lookup.{Spot, spot_in, spot}
use Rattle.arc_model.specs.Own.{ends_hand, brings_hand, in_list, brought, OwnGains, OwnEnds}
use Rattle.arc_model.specs.Needs.{Sight, first_failing, needs, has, puts, reachable, passes}
use Rattle.arc_model.specs.Shapes.{HeapShape}
use Rattle.arc_model.specs.WellFormed.{more, tally, held, total, is_own, IsWellFormed}

get-here : (before after : List Object) (q : Object) → slice_get (before ++ q ∷ after) (length before) ≡ Some q
get-here [] after q = refl
get-here (b ∷ before) after q = get-here before after q

-- what comes is at the place of the turn, in its list
pub came-turn : {shape : HeapShape} (p : ℕ) (act : Act) (next since : ℕ → ℕ) (old new : Heap) (t : Turn shape p act next since old new) (z : Holder) → IsWellFormed shape next old → is_own z ≡ true → goes t.edit z ≡ false → comes t.edit z ≡ true → spot z new ≡ Some (record { place = length t.put.before; kind = t.kind })
came-turn p act next since old new t z f own g c =
    only_in z new.objects (length t.put.before) t.q t.kind ((kept-turn p act next since old new t f).once z own) (ap (λ os. slice_get os (length t.put.before)) t.put.new ∙ get-here t.put.before t.put.after t.q)
    (tally-in z (list_of t.kind t.q) (go t.kind t.fits t.strong t.unowned t.weak))
  where
    one : (xs : List Holder) → Fits t.edit xs → 1 ≤ tally z (edited t.edit xs)
    one xs fits =
        let a : tally z (edited t.edit xs) ≡ suc (tally z xs) = ap (λ b. more b (tally z (edited t.edit xs))) (sym g) ∙ tally-edited t.edit z xs fits ∙ ap (λ b. more b (tally z xs)) c in omega arith

    go : (k : Kind) → Fits t.edit (list_of k t.o) → t.q.strong ≡ (with_list k (edited t.edit) t.o).strong → t.q.unowned ≡ (with_list k (edited t.edit) t.o).unowned → t.q.weak ≡ (with_list k (edited t.edit) t.o).weak → 1 ≤ tally z (list_of k t.q)
    go Strong fits s u w = let a = one t.o.strong fits in let b = ap (tally z) s in omega arith
    go Unowned fits s u w = let a = one t.o.unowned fits in let b = ap (tally z) u in omega arith
    go Weak fits s u w = let a = one t.o.weak fits in let b = ap (tally z) w in omega arith

nowhere-held : (z : Holder) (heap : Heap) → total (held z) heap.objects ≡ 0 → spot z heap ≡ None
nowhere-held z heap h = none-is (spot z heap) (go (is_some (spot z heap)) refl)
  where
    go : (b : Bool) → is_some (spot z heap) ≡ b → b ≡ false
    go true e = let a = spot-held z heap e in absurd (omega arith)
    go false e = refl

-- what goes is nowhere
pub went-turn : {shape : HeapShape} (p : ℕ) (act : Act) (next since : ℕ → ℕ) (old new : Heap) (t : Turn shape p act next since old new) (z : Holder) → IsWellFormed shape next old → is_own z ≡ true → goes t.edit z ≡ true → comes t.edit z ≡ false → spot z new ≡ None
went-turn p act next since old new t z f own g c =
    let a = held-turn p act next since old new t z true false g c in
    let b = f.once z own in
    nowhere-held z new (omega arith)

end-get : (os : List Object) (o : Object) → slice_get (os ++ o ∷ []) (length os) ≡ Some o
end-get [] o = refl
end-get (r ∷ os) o = end-get os o

-- y in a list of the object that is changed, x in a list of it before
gained : (test : Object → Bool) (f : Object → Object) (os : List Object) (o : Object) (x y : Holder) (j k : Kind) → find test os ≡ Some o → total (held x) os ≤ 1 → total (held y) (at_first test f os) ≤ 1 → is_in x (list_of j o) ≡ true → is_in y (list_of k (f o)) ≡ true →
    (spot_in y (at_first test f os) ≡ in_list k (spot_in x os)) × (in_list j (spot_in x os) ≡ spot_in x os)
gained test f os o x y j k found one one' in' in'' =
    let g = put-found test f os o found in
    let old = only_in x os (length g.before) o j one (ap (λ qs. slice_get qs (length g.before)) g.old ∙ get-here g.before g.after o) in' in
    let new = only_in y (at_first test f os) (length g.before) (f o) k one' (ap (λ qs. slice_get qs (length g.before)) g.new ∙ get-here g.before g.after (f o)) in'' in
    (new ∙ sym (ap (in_list k) old), ap (in_list j) old ∙ sym old)

in-last : (y : Holder) (xs : List Holder) → is_in y (xs ++ y ∷ []) ≡ true
in-last y xs = tally-in y (xs ++ y ∷ []) (let a = tally-push y y xs ∙ ap (λ b. more b (tally y xs)) (same-refl y) in omega arith)

in-new : (x y : Holder) (xs : List Holder) → same_holder y x ≡ false → is_in x xs ≡ true → is_in y (renamed x y xs) ≡ true
in-new x y xs apart held' =
    let a : tally y (renamed x y xs) ≡ suc (tally y xs) = ap (λ b. more b (tally y (renamed x y xs))) (sym apart) ∙ tally-renamed y x y xs (in-tally x xs held') ∙ ap (λ b. more b (tally y xs)) (same-refl y) in
    tally-in y (renamed x y xs) (omega arith)

of-lists : (k : Kind) (f : List Holder → List Holder) (o : Object) → list_of k (lists f o) ≡ f (list_of k o)
of-lists Strong f o = refl
of-lists Unowned f o = refl
of-lists Weak f o = refl

copied : (x y : Holder) (heap : Heap) → total (held x) heap.objects ≤ 1 → total (held y) (at_first (holds x) (lists (gains x y)) heap.objects) ≤ 1 → is_some (find (holds x) heap.objects) ≡ true → spot y (change (holds x) (lists (gains x y)) heap) ≡ spot x heap
copied x y heap one one' some =
    let r = some-is (find (holds x) heap.objects) some in
    let inside = in-kind x r.0 (find-passes (holds x) heap.objects r.0 r.1) in
    let j = kind_in x r.0 in
    let g = gained (holds x) (lists (gains x y)) heap.objects r.0 x y j j r.1 one one' inside (ap (is_in y) (of-lists j (gains x y) r.0 ∙ gains-present x y (list_of j r.0) inside) ∙ in-last y (list_of j r.0)) in
    g.0 ∙ g.1

pub became : (x y : Holder) (heap : Heap) → same_holder y x ≡ false → total (held x) heap.objects ≤ 1 → total (held y) (at_first (holds x) (lists (renamed x y)) heap.objects) ≤ 1 → is_some (find (holds x) heap.objects) ≡ true → spot y (becomes x y heap) ≡ spot x heap
became x y heap apart one one' some =
    let r = some-is (find (holds x) heap.objects) some in
    let inside = in-kind x r.0 (find-passes (holds x) heap.objects r.0 r.1) in
    let j = kind_in x r.0 in
    let g = gained (holds x) (lists (renamed x y)) heap.objects r.0 x y j j r.1 one one' inside (ap (is_in y) (of-lists j (renamed x y) r.0) ∙ in-new x y (list_of j r.0) apart inside) in
    g.0 ∙ g.1

pub option-inj : {a b : ℕ} → Some a ≡ Some b → a ≡ b
option-inj e = cc

swap_gains : {shape : HeapShape} (p n : ℕ) (c : CellName) (h : Option ℕ) (next : ℕ → ℕ) (heap : Heap) → IsWellFormed shape next heap → total (held (Hand p n)) (effect p (acts.Swap c h (Some n)) heap).objects ≤ 1 → is_own (cell heap c) ≡ true → ((m : ℕ) → h ≡ Some m → is_some (held_by (Hand p m) heap) ≡ true) → n ≡ next p → is_some (held_by (cell heap c) heap) ≡ true → Fielded shape (is_live shape) heap heap c → spot (Hand p n) (effect p (acts.Swap c h (Some n)) heap) ≡ spot (cell heap c) heap
swap_gains p n c None next heap f one own given came full reach = became (cell heap c) (Hand p n) heap (hand-cell p n heap c) (f.once (cell heap c) own) one full
swap_gains p n c (Some h) next heap f one own given came full reach =
    let mid = becomes (cell heap c) (Hand p n) heap in
    let act = acts.Swap c (Some h) (Some n) in
    let g = kept-turn p act next (advance true p next) heap mid (out_turn p n act next heap c came f own full (is-open p heap heap c reach)) f in
    let first = became (cell heap c) (Hand p n) heap (hand-cell p n heap c) (f.once (cell heap c) own) (g.once (Hand p n) refl) full in
    let there : is_some (spot (Hand p n) mid) ≡ true = ap is_some first ∙ spot-find (cell heap c) heap.objects ∙ full in
    let second = own-turn p n act (advance true p next) (advance true p next) mid (effect p act heap) (swap_second p h n c next heap f own (given h refl) came full reach) there (apart (eqb h n) refl) in
    second ∙ first
  where
    apart : (b : Bool) → eqb h n ≡ b → b ≡ false
    apart true e =
        let a = held-is (Hand p h) heap.objects (given h refl) in
        let b = eqb-true h n e in
        let c = f.fresh p h (omega arith) in absurd (omega arith)
    apart false e = refl

-- the needs of swap that its hands have
pub swap_given : (shape : HeapShape) (sight : Sight) (p : ℕ) (c : CellName) (h : Option ℕ) → (puts shape sight.heap p c h).0 ≡ true → (n : ℕ) → h ≡ Some n → is_some (held_by (Hand p n) sight.heap) ≡ true
swap_given shape sight p c None ok n e = absurd (None≢Some n e)
swap_given shape sight p c (Some i) ok n e = ap (λ j. is_some (held_by (Hand p j) sight.heap)) (sym (option-inj e)) ∙ passes-some _ (held_by (Hand p i) sight.heap) ok

joined : (p h n : ℕ) (l : Kind) (heap : Heap) (test : Object → Bool) → total (held (Hand p h)) heap.objects ≤ 1 → total (held (Hand p n)) (at_first (holds (Hand p h)) (with_list l (with_last (Hand p n))) heap.objects) ≤ 1 → passes test (held_by (Hand p h) heap) ≡ true → spot (Hand p n) (change (holds (Hand p h)) (with_list l (with_last (Hand p n))) heap) ≡ in_list l (spot (Hand p h) heap)
joined p h n l heap test one one' some =
    let r = some-is (held_by (Hand p h) heap) (passes-some test (held_by (Hand p h) heap) some) in
    let inside = in-kind (Hand p h) r.0 (find-passes (holds (Hand p h)) heap.objects r.0 r.1) in
    (gained (holds (Hand p h)) (with_list l (with_last (Hand p n))) heap.objects r.0 (Hand p h) (Hand p n) (kind_in (Hand p h) r.0) l r.1 one one' inside (in-joined l r.0)).0
  where
    in-joined : (l : Kind) (o : Object) → is_in (Hand p n) (list_of l (with_list l (with_last (Hand p n)) o)) ≡ true
    in-joined Strong o = in-last (Hand p n) o.strong
    in-joined Unowned o = in-last (Hand p n) o.unowned
    in-joined Weak o = in-last (Hand p n) o.weak

copy_gains : (shape : HeapShape) (sight : Sight) (p : ℕ) (from : Origin) (k : ℕ) (next : ℕ → ℕ) → AreMet (has shape sight.heap p from) → IsWellFormed shape next sight.heap → total (held (Hand p k)) (effect p (acts.Copy from k) sight.heap).objects ≤ 1 → spot (Hand p k) (effect p (acts.Copy from k) sight.heap) ≡ spot (origin sight.heap p from) sight.heap
copy_gains shape sight p (origins.Hand h) k next m f one = copied (Hand p h) (Hand p k) sight.heap (f.once (Hand p h) refl) one m.0
copy_gains shape sight p (origins.Cell c) k next m f one =
    let r = met-split (reachable shape sight.heap p c) ((not (is_nil sight.heap (cell sight.heap c)), _) ∷ []) m in
    copied (cell sight.heap c) (Hand p k) sight.heap (f.once (cell sight.heap c) (own-cell sight.heap c)) one (twice (is_some (held_by (cell sight.heap c) sight.heap)) r.1.0)

as_k : (p n k : ℕ) (new : Heap) (s : Option Spot) → Some n ≡ Some k → spot (Hand p n) new ≡ s → spot (Hand p k) new ≡ s
as_k p n k new s e h = ap (λ i. spot (Hand p i) new) (sym (option-inj e)) ∙ h

-- the table of hands that come
gains_step : (shape : HeapShape) (sight : Sight) (p : ℕ) (act : Act) (k : ℕ) (next : ℕ → ℕ) → sight.next ≡ next p → first_failing (needs shape sight p act) ≡ None → IsWellFormed shape next sight.heap → ((z : Holder) → is_own z ≡ true → total (held z) (effect p act sight.heap).objects ≤ 1) → brings_hand act ≡ Some k → spot (Hand p k) (effect p act sight.heap) ≡ brought sight.heap p act
gains_step shape sight p (acts.New n c s) k next is ok f once b =
    let q = made p n c s sight.heap.objects in
    as_k p n k (effect p (acts.New n c s) sight.heap) (brought sight.heap p (acts.New n c s)) b
    (only_in (Hand p n) (effect p (acts.New n c s) sight.heap).objects (length sight.heap.objects) q Strong (once (Hand p n) refl) (end-get sight.heap.objects q) (in-last (Hand p n) []))
gains_step shape sight p (acts.Copy from n) k next is ok f once b =
    let m = met-split (has shape sight.heap p from) _ (met (needs shape sight p (acts.Copy from n)) ok) in
    as_k p n k (effect p (acts.Copy from n) sight.heap) (brought sight.heap p (acts.Copy from n)) b (copy_gains shape sight p from n next m.0 f (once (Hand p n) refl))
gains_step shape sight p (acts.UnownedOf h n) k next is ok f once b =
    as_k p n k (effect p (acts.UnownedOf h n) sight.heap) (brought sight.heap p (acts.UnownedOf h n)) b (joined p h n Unowned sight.heap _ (f.once (Hand p h) refl) (once (Hand p n) refl) (met (needs shape sight p (acts.UnownedOf h n)) ok).0)
gains_step shape sight p (acts.WeakOf h n) k next is ok f once b =
    as_k p n k (effect p (acts.WeakOf h n) sight.heap) (brought sight.heap p (acts.WeakOf h n)) b (joined p h n Weak sight.heap _ (f.once (Hand p h) refl) (once (Hand p n) refl) (met (needs shape sight p (acts.WeakOf h n)) ok).0)
gains_step shape sight p (acts.Load h (got.Hand n)) k next is ok f once b =
    as_k p n k (effect p (acts.Load h (got.Hand n)) sight.heap) (brought sight.heap p (acts.Load h (got.Hand n))) b (joined p h n Strong sight.heap _ (f.once (Hand p h) refl) (once (Hand p n) refl) (met (needs shape sight p (acts.Load h (got.Hand n))) ok).0)
gains_step shape sight p (acts.Load h got.Dead) k next is ok f once b = absurd (None≢Some k b)
gains_step shape sight p (acts.Load h got.Nil) k next is ok f once b = absurd (None≢Some k b)
gains_step shape sight p (acts.Swap c h None) k next is ok f once b = absurd (None≢Some k b)
gains_step shape sight p (acts.Swap c h (Some n)) k next is ok f once b =
    let m = met-split (reachable shape sight.heap p c) _ (met (needs shape sight p (acts.Swap c h (Some n))) ok) in
    as_k p n k (effect p (acts.Swap c h (Some n)) sight.heap) (brought sight.heap p (acts.Swap c h (Some n))) b
    (swap_gains p n c h next sight.heap f (once (Hand p n) refl) (own-cell sight.heap c) (swap_given shape sight p c h m.1.0) (eqb-true n sight.next m.1.1.0 ∙ is) (twice (is_some (held_by (cell sight.heap c) sight.heap)) m.1.1.1.0) (reached shape sight.heap p c m.0))
gains_step shape sight p (acts.Take s g n) k next is ok f once b =
    let m = met (needs shape sight p (acts.Take s g n)) ok in
    let c : CellName = cells.Field s g in
    let own = own-cell sight.heap c in
    as_k p n k (effect p (acts.Take s g n) sight.heap) (brought sight.heap p (acts.Take s g n)) b
    (became (cell sight.heap c) (Hand p n) sight.heap (hand-cell p n sight.heap c) (f.once (cell sight.heap c) own) (once (Hand p n) refl) (twice (is_some (held_by (cell sight.heap c) sight.heap)) m.1.1.1.0))
gains_step shape sight p acts.Full k next is ok f once b = absurd (None≢Some k b)
gains_step shape sight p (acts.Drop h last) k next is ok f once b = absurd (None≢Some k b)
gains_step shape sight p (acts.CountFull j from) k next is ok f once b = absurd (None≢Some k b)
gains_step shape sight p (acts.Claim e) k next is ok f once b = absurd (None≢Some k b)
gains_step shape sight p acts.NoEntry k next is ok f once b = absurd (None≢Some k b)
gains_step shape sight p (acts.Side s e why) k next is ok f once b = absurd (None≢Some k b)
gains_step shape sight p (acts.Back e) k next is ok f once b = absurd (None≢Some k b)
gains_step shape sight p (acts.Look c) k next is ok f once b = absurd (None≢Some k b)
gains_step shape sight p (acts.Finish s last) k next is ok f once b = absurd (None≢Some k b)
gains_step shape sight p (acts.Vacate s) k next is ok f once b = absurd (None≢Some k b)
gains_step shape sight p (acts.Gone e last) k next is ok f once b = absurd (None≢Some k b)

pub own_gains : OwnGains
own_gains shape h e k legal b = gains_step shape (sight e.thread h) e.thread e.act k (λ q. next_hand q h) refl legal.0 (well_formed shape h legal.1) (well_formed shape (e ∷ h) legal).once b

-- what a last holder ends leaves the lists
strong-ended_if : (last : Bool) (p : ℕ) (k : Kind) (o : Object) → (ended_if last p k o).strong ≡ o.strong
strong-ended_if true p Strong o = refl
strong-ended_if true p Unowned o = refl
strong-ended_if true p Weak o = refl
strong-ended_if false p k o = refl

ended-lists : (last : Bool) (p : ℕ) (j : Kind) (o : Object) → ((ended_if last p j o).unowned ≡ o.unowned) × ((ended_if last p j o).weak ≡ o.weak)
ended-lists true p Strong o = (refl, refl)
ended-lists true p Unowned o = (refl, refl)
ended-lists true p Weak o = (refl, refl)
ended-lists false p j o = (refl, refl)

drop_ends : {shape : HeapShape} (p h : ℕ) (last : Bool) (next : ℕ → ℕ) (heap : Heap) → IsWellFormed shape next heap → is_some (held_by (Hand p h) heap) ≡ true → spot (Hand p h) (effect p (acts.Drop h last) heap) ≡ None
drop_ends p h last next heap f some =
    let x : Holder = Hand p h in
    let r = some-is (held_by x heap) some in
    let o = r.0 in
    let j = kind_in x o in
    let inside = in-kind x o (find-passes (holds x) heap.objects o r.1) in
    let q = with_list j (without x) o in
    let lists' = ended-lists last p j q in
    let count = held_one x (leave x) o (given_up p x last o) j (in-tally x (list_of j o) inside) (strong-ended_if last p j q) lists'.0 lists'.1 true false (same-refl x) refl in
    let sums = total-put (held x) heap.objects (at_first (holds x) (given_up p x last) heap.objects) o (given_up p x last o) (put-found (holds x) (given_up p x last) heap.objects o r.1) in
    let one = f.once x refl in
    let same : (effect p (acts.Drop h last) heap).objects ≡ at_first (holds x) (given_up p x last) heap.objects = entry_to-objects p (entry_left x last (held_by x heap)) (change (holds x) (given_up p x last) heap) in
    ap (spot_in x) same ∙ nowhere-held x (change (holds x) (given_up p x last) heap) (omega arith)

swap_ends : (p h : ℕ) (c : CellName) (k : Option ℕ) (next : ℕ → ℕ) (sight : Sight) (shape : HeapShape) → sight.next ≡ next p → IsWellFormed shape next sight.heap → first_failing (needs shape sight p (acts.Swap c (Some h) k)) ≡ None → spot (Hand p h) (effect p (acts.Swap c (Some h) k) sight.heap) ≡ None
swap_ends p h c None next sight shape is f ok =
    let m = met-split (reachable shape sight.heap p c) _ (met (needs shape sight p (acts.Swap c (Some h) None)) ok) in
    let own = own-cell sight.heap c in
    let empty = not-held (cell sight.heap c) sight.heap.objects (opposite (is_some (held_by (cell sight.heap c) sight.heap)) (twice (is_nil sight.heap (cell sight.heap c)) m.1.1.1.0)) in
    went-turn p (acts.Swap c (Some h) None) next next sight.heap (effect p (acts.Swap c (Some h) None) sight.heap) (in_turn p h None next sight.heap sight.heap c f own (swap_given shape sight p c (Some h) m.1.0 h refl) empty (reached shape sight.heap p c m.0)) (Hand p h) f refl (same-refl (Hand p h)) (hand-cell p h sight.heap c)
swap_ends p h c (Some k) next sight shape is f ok =
    let m = met-split (reachable shape sight.heap p c) _ (met (needs shape sight p (acts.Swap c (Some h) (Some k))) ok) in
    let act = acts.Swap c (Some h) (Some k) in
    let own = own-cell sight.heap c in
    let given = swap_given shape sight p c (Some h) m.1.0 h refl in
    let came = eqb-true k sight.next m.1.1.0 ∙ is in
    let full = twice (is_some (held_by (cell sight.heap c) sight.heap)) m.1.1.1.0 in
    let mid = becomes (cell sight.heap c) (Hand p k) sight.heap in
    let g = kept-turn p act next (advance true p next) sight.heap mid (out_turn p k act next sight.heap c came f own full (is-open p sight.heap sight.heap c (reached shape sight.heap p c m.0))) f in
    went-turn p act (advance true p next) (advance true p next) mid (effect p act sight.heap) (swap_second p h k c next sight.heap f own given came full (reached shape sight.heap p c m.0)) (Hand p h) g refl (same-refl (Hand p h)) (hand-cell p h sight.heap c)

ends_step : (shape : HeapShape) (sight : Sight) (p : ℕ) (act : Act) (k : ℕ) (next : ℕ → ℕ) → sight.next ≡ next p → first_failing (needs shape sight p act) ≡ None → IsWellFormed shape next sight.heap → ends_hand k act ≡ true → spot (Hand p k) (effect p act sight.heap) ≡ None
ends_step shape sight p (acts.Drop h last) k next is ok f e =
    ap (λ i. spot (Hand p i) (effect p (acts.Drop h last) sight.heap)) (sym (eqb-true h k e)) ∙ drop_ends p h last next sight.heap f (met (needs shape sight p (acts.Drop h last)) ok).0
ends_step shape sight p (acts.Swap c (Some h) n) k next is ok f e =
    ap (λ i. spot (Hand p i) (effect p (acts.Swap c (Some h) n) sight.heap)) (sym (eqb-true h k e)) ∙ swap_ends p h c n next sight shape is f ok
ends_step shape sight p (acts.Swap c None n) k next is ok f e = no e
ends_step shape sight p (acts.New n c s) k next is ok f e = no e
ends_step shape sight p acts.Full k next is ok f e = no e
ends_step shape sight p (acts.Copy from n) k next is ok f e = no e
ends_step shape sight p (acts.UnownedOf h n) k next is ok f e = no e
ends_step shape sight p (acts.WeakOf h n) k next is ok f e = no e
ends_step shape sight p (acts.Load h g) k next is ok f e = no e
ends_step shape sight p (acts.CountFull j from) k next is ok f e = no e
ends_step shape sight p (acts.Claim n) k next is ok f e = no e
ends_step shape sight p acts.NoEntry k next is ok f e = no e
ends_step shape sight p (acts.Side s n why) k next is ok f e = no e
ends_step shape sight p (acts.Back n) k next is ok f e = no e
ends_step shape sight p (acts.Look c) k next is ok f e = no e
ends_step shape sight p (acts.Take s g n) k next is ok f e = no e
ends_step shape sight p (acts.Finish s last) k next is ok f e = no e
ends_step shape sight p (acts.Vacate s) k next is ok f e = no e
ends_step shape sight p (acts.Gone n last) k next is ok f e = no e

pub own_ends : OwnEnds
own_ends shape h e k legal ended = ends_step shape (sight e.thread h) e.thread e.act k (λ q. next_hand q h) refl legal.0 (well_formed shape h legal.1) ended
