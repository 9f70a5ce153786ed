-- The four swaps: nothing moves, a reference comes out, one goes in, or both.
use Rattle.std.proofs.Common.{◌≡◌, ℕ, ◌+◌, ◌<◌, Bool, true, false, cond, eqb, List, [], ◌∷◌, ◌++◌, length, Option, Some, None, inl, inr, refl, sym, ap, ◌∙◌, subst, arith}
use Rattle.std.specs.Prelude.{slice_get, ◌&&◌}
use Rattle.std.proofs.lemmas.Bool.{cases_eq, eq-eqb, eqb-true}
use Rattle.arc_model.specs.declared.event.Act.{Act}
use Rattle.arc_model.specs.declared.event.CellName.{CellName}
use Rattle.arc_model.specs.Heaps.{Holder, Hand, Object}
use Rattle.arc_model.specs.Holders.{same_holder}
use Rattle.arc_model.specs.Cells.{cell}
use Rattle.arc_model.specs.Effects.{effect, becomes}
use Rattle.arc_model.specs.History.{History, heap_after, brings}
use Rattle.arc_model.proofs.Courses.{hand-cell}
use Rattle.arc_heap_index.specs.declared.counted.Place.{Place}
use Rattle.arc_heap_index.specs.Counting.{placed, row_of, place_at, put_at, pushed}
use Rattle.arc_heap_judge.specs.Index.{Index, hand_at, cell_at, hold, next_of}
use Rattle.arc_heap.specs.Moving.{reach_more, reach_less, hand_comes, hand_goes, cell_becomes, goes_in, comes_out, swapped}
use Rattle.arc_heap_judge.specs.Stands.{spot_of, Tells, IsSized}
use Rattle.arc_heap_index.proofs.Places.{length-at_place}
use Rattle.arc_heap_index.proofs.Rows.{put-row, put-other, put-gone, pushed-same, pushed-row, pushed-other, row-length}
use Rattle.arc_model.proofs.HandSpots.{renamed-spot}
use Rattle.arc_heap.proofs.Acts.{came-none, came-one, reach_more-length, reach_more-rows, reach_less-length, reach_less-rows}
use Rattle.arc_heap.proofs.Swaps.{some-inj, tells-comes, tells-goes}
use Rattle.arc_heap.proofs.Exchanges.{cells_put, swapped_to, Swaps, swap_build, HeldAt, held-at, hold-is, slot-within, no-hand-cell, row-within, tells-tables}
use Rattle.arc_heap.proofs.Standing.{HandsAfter, hands-none, hands-push, hands-put, apart-number, Steps}

came-brings : (p q n : ℕ) (act : Act) (b : Bool) → brings act ≡ b → n + cond (eqb p q && b) 1 0 ≡ n + cond (eqb p q && brings act) 1 0
came-brings p q n act b e = ap (λ c. n + cond (eqb p q && c) 1 0) (sym e)

cell-place : (ix : Index) (h : History) (p : ℕ) (act : Act) (c : CellName) (put : Option ℕ) (k : ℕ) → Swaps ix h p act c put (Some k) → HeldAt ix (heap_after h) (cell (heap_after h) c) (cell_at ix c)
cell-place ix h p act c put k w = held-at ix (heap_after h) w.stands.tells (cell (heap_after h) c) (cell_at ix c) (w.stands.points.cells c w.range) w.full

hand-place : (ix : Index) (h : History) (p : ℕ) (act : Act) (c : CellName) (n : ℕ) (took : Option ℕ) → Swaps ix h p act c (Some n) took → HeldAt ix (heap_after h) (Hand p n) (hand_at ix p n)
hand-place ix h p act c n took w = held-at ix (heap_after h) w.stands.tells (Hand p n) (hand_at ix p n) (w.stands.points.hands p n w.within) (w.given n refl)

in-hands : (ix : Index) (h : History) (p : ℕ) (act : Act) (c : CellName) (put took : Option ℕ) → Swaps ix h p act c put took → p < length ix.hands
in-hands ix h p act c put took w = let e = w.stands.sized.hands in let l = w.within in omega arith

slots-within : (ix : Index) (h : History) (p : ℕ) (act : Act) (c : CellName) (put took : Option ℕ) → Swaps ix h p act c put took → (i : ℕ) (o : Object) → slice_get (heap_after h).objects i ≡ Some o → (u : ℕ) → o.slot ≡ Some u → u < ix.shape.slots
slots-within ix h p act c put took w = slot-within ix (heap_after h) w.stands.tells w.stands.slots.count

swap_none : (ix : Index) (h : History) (p : ℕ) (act : Act) (c : CellName) → Swaps ix h p act c None None → Steps ix (swapped p c None None ix) p act (heap_after h) (effect p act (heap_after h))
swap_none ix h p act c w =
    swap_build ix h p act c None None w ix.hands ix.reach
    (subst (λ heap. Tells (swapped_to ix c None ix.hands ix.reach) heap) (sym w.eff) (tells-tables ix (heap_after h) w.stands.tells ix.hands (cells_put ix c None)))
    (hands-none ix p act (heap_after h) w.brings_is w.ends_is)
    refl refl (λ q. refl) (λ q l. came-none p q (length (row_of q ix.hands)) ∙ came-brings p q (length (row_of q ix.hands)) act false w.brings_one)

swap_out : (ix : Index) (h : History) (p : ℕ) (act : Act) (c : CellName) (k : ℕ) → Swaps ix h p act c None (Some k) → Steps ix (swapped p c None (Some k) ix) p act (heap_after h) (effect p act (heap_after h))
swap_out ix h p act c k w =
    let d = cell-place ix h p act c None k w in
    let x = cell (heap_after h) c in
    let within = in-hands ix h p act c None (Some k) w in
    subst (λ (new : Index). Steps ix new p act (heap_after h) (effect p act (heap_after h))) (ap (λ v. cell_becomes c None (comes_out p (Some k) v ix)) (sym (hold-is ix (heap_after h) x (cell_at ix c) d)))
    (swap_build ix h p act c None (Some k) w (pushed p (Some d.at) ix.hands) (reach_more p d.at.kind d.counted.slot ix.reach)
    (subst (λ heap. Tells (swapped_to ix c None (pushed p (Some d.at) ix.hands) (reach_more p d.at.kind d.counted.slot ix.reach)) heap) (sym w.eff)
    (tells-comes ix (heap_after h) w.stands.tells w.stands.sized p k x (record { place = d.at.object; kind = d.at.kind }) d.counted w.within (slots-within ix h p act c None (Some k) w) (no-hand-cell (heap_after h) c) d.spot_is d.in_index (pushed p (Some d.at) ix.hands) (cells_put ix c None)))
    (hands-push ix p act (heap_after h) k (Some d.at) within w.brings_is w.ends_is (w.comes k refl) (sym (w.brought_is ∙ d.spot_is)))
    (length-at_place p (λ row. row ++ Some d.at ∷ []) ix.hands) (reach_more-length p d.at.kind d.counted.slot ix.reach) (λ q. reach_more-rows p d.at.kind d.counted.slot ix.reach q)
    (λ q l. came-one p q (Some d.at) ix.hands within ∙ came-brings p q (length (row_of q ix.hands)) act true w.brings_one))

swap_in : (ix : Index) (h : History) (p : ℕ) (act : Act) (c : CellName) (n : ℕ) → Swaps ix h p act c (Some n) None → Steps ix (swapped p c (Some n) None ix) p act (heap_after h) (effect p act (heap_after h))
swap_in ix h p act c n w =
    let d = hand-place ix h p act c n None w in
    let within = in-hands ix h p act c (Some n) None w in
    subst (λ (new : Index). Steps ix new p act (heap_after h) (effect p act (heap_after h))) (ap (λ v. cell_becomes c (hand_at ix p n) (hand_goes p n v ix)) (sym (hold-is ix (heap_after h) (Hand p n) (hand_at ix p n) d)))
    (swap_build ix h p act c (Some n) None w (put_at p n None ix.hands) (reach_less p d.at.kind d.counted.slot ix.reach)
    (subst (λ heap. Tells (swapped_to ix c (hand_at ix p n) (put_at p n None ix.hands) (reach_less p d.at.kind d.counted.slot ix.reach)) heap) (sym w.eff)
    (tells-goes ix (heap_after h) w.stands.tells w.stands.sized p n (cell (heap_after h) c) (record { place = d.at.object; kind = d.at.kind }) d.counted w.within (slots-within ix h p act c (Some n) None w) (no-hand-cell (heap_after h) c) d.spot_is d.in_index (put_at p n None ix.hands) (cells_put ix c (hand_at ix p n))))
    (hands-put ix p act (heap_after h) n within w.brings_is w.ends_is)
    (length-at_place p (placed n None) ix.hands) (reach_less-length p d.at.kind d.counted.slot ix.reach) (λ q. reach_less-rows p d.at.kind d.counted.slot ix.reach q)
    (λ q l. row-length p q (placed n None) ix.hands (λ row. length-at_place n (λ _. None) row) ∙ came-none p q (length (row_of q ix.hands)) ∙ came-brings p q (length (row_of q ix.hands)) act false w.brings_one))

swap_both : (ix : Index) (h : History) (p : ℕ) (act : Act) (c : CellName) (n k : ℕ) → Swaps ix h p act c (Some n) (Some k) → Steps ix (swapped p c (Some n) (Some k) ix) p act (heap_after h) (effect p act (heap_after h))
swap_both ix h p act c n k w =
    subst (λ (new : Index). Steps ix new p act (heap_after h) (effect p act (heap_after h))) (sym index_is)
    (swap_build ix h p act c (Some n) (Some k) w hands less
    (subst (λ heap. Tells (swapped_to ix c (hand_at ix p n) hands less) heap) (sym w.eff)
    (tells-goes mid (becomes x (Hand p k) (heap_after h)) first sized p n x (record { place = b.at.object; kind = b.at.kind }) b.counted w.within (slot-within mid (becomes x (Hand p k) (heap_after h)) first w.stands.slots.count) (no-hand-cell (heap_after h) c) (renamed-spot (Hand p n) x (Hand p k) (heap_after h) (hand-cell p n (heap_after h) c) (other-hand n k apart) ∙ b.spot_is) b.in_index hands (cells_put ix c (hand_at ix p n))))
    hands_ok
    (length-at_place p (placed n None) out ∙ length-at_place p (λ row. row ++ Some a.at ∷ []) ix.hands)
    (reach_less-length p b.at.kind b.counted.slot more ∙ reach_more-length p a.at.kind a.counted.slot ix.reach)
    (λ q. reach_less-rows p b.at.kind b.counted.slot more q ∙ reach_more-rows p a.at.kind a.counted.slot ix.reach q)
    (λ q l. row-length p q (placed n None) out (λ row. length-at_place n (λ _. None) row) ∙ came-one p q (Some a.at) ix.hands within ∙ came-brings p q (length (row_of q ix.hands)) act true w.brings_one))
  where
    x : Holder
    x = cell (heap_after h) c

    a : HeldAt ix (heap_after h) (cell (heap_after h) c) (cell_at ix c)
    a = cell-place ix h p act c (Some n) k w

    b : HeldAt ix (heap_after h) (Hand p n) (hand_at ix p n)
    b = hand-place ix h p act c n (Some k) w

    within : p < length ix.hands
    within = in-hands ix h p act c (Some n) (Some k) w

    next : k ≡ next_of ix p
    next = w.comes k refl

    apart : k ≡ n → ⊥
    apart e = let l = row-within ix.hands p n b.at b.place_is in let f : k ≡ next_of ix p = w.comes k refl in omega arith

    other-hand : (n k : ℕ) → (k ≡ n → ⊥) → same_holder (Hand p n) (Hand p k) ≡ false
    other-hand n k ne = Rattle.arc_heap.proofs.Standing.other-number n p k ne

    out : List (List (Option Place))
    out = pushed p (Some a.at) ix.hands

    hands : List (List (Option Place))
    hands = put_at p n None (pushed p (Some a.at) ix.hands)

    more : List (List ℕ)
    more = reach_more p a.at.kind a.counted.slot ix.reach

    less : List (List ℕ)
    less = reach_less p b.at.kind b.counted.slot (reach_more p a.at.kind a.counted.slot ix.reach)

    mid : Index
    mid = record { shape = ix.shape; hands = ix.hands; cells = ix.cells; reach = reach_more p a.at.kind a.counted.slot ix.reach; objects = ix.objects; marks = ix.marks; slots = ix.slots; entries = ix.entries }

    first : Tells (record { shape = ix.shape; hands = ix.hands; cells = ix.cells; reach = reach_more p a.at.kind a.counted.slot ix.reach; objects = ix.objects; marks = ix.marks; slots = ix.slots; entries = ix.entries }) (becomes (cell (heap_after h) c) (Hand p k) (heap_after h))
    first = tells-comes ix (heap_after h) w.stands.tells w.stands.sized p k (cell (heap_after h) c) (record { place = a.at.object; kind = a.at.kind }) a.counted w.within (slots-within ix h p act c (Some n) (Some k) w) (no-hand-cell (heap_after h) c) a.spot_is a.in_index ix.hands ix.cells

    sized : IsSized (record { shape = ix.shape; hands = ix.hands; cells = ix.cells; reach = reach_more p a.at.kind a.counted.slot ix.reach; objects = ix.objects; marks = ix.marks; slots = ix.slots; entries = ix.entries })
    sized = let z = w.stands.sized in record {
      hands = z.hands;
      reach = reach_more-length p a.at.kind a.counted.slot ix.reach ∙ z.reach;
      reach_rows = λ q l. reach_more-rows p a.at.kind a.counted.slot ix.reach q ∙ z.reach_rows q l;
      cells = z.cells;
      fields = z.fields;
      globals = z.globals;
      few = z.few;
    }

    kept : place_at p n (pushed p (Some a.at) ix.hands) ≡ hand_at ix p n
    kept = pushed-other p n (Some a.at) ix.hands within (λ e. apart (next ∙ e))

    index_is : swapped p c (Some n) (Some k) ix ≡ cell_becomes c (hand_at ix p n) (record { shape = ix.shape; hands = put_at p n None (pushed p (Some a.at) ix.hands); cells = ix.cells; reach = reach_less p b.at.kind b.counted.slot (reach_more p a.at.kind a.counted.slot ix.reach); objects = ix.objects; marks = ix.marks; slots = ix.slots; entries = ix.entries })
    index_is =
        ap (λ v. cell_becomes c (hand_at ix p n) (goes_in p (Some n) (comes_out p (Some k) v ix))) (hold-is ix (heap_after h) (cell (heap_after h) c) (cell_at ix c) a)
        ∙ ap (λ place. cell_becomes c (hand_at ix p n) (hand_goes p n (hold ix place) (hand_comes p (Some (record { place = a.at; counted = a.counted })) ix))) kept
        ∙ ap (λ v. cell_becomes c (hand_at ix p n) (hand_goes p n v (hand_comes p (Some (record { place = a.at; counted = a.counted })) ix))) (hold-is ix (heap_after h) (Hand p n) (hand_at ix p n) b)

    hands_ok : HandsAfter ix p act (heap_after h) (put_at p n None (pushed p (Some a.at) ix.hands))
    hands_ok = record {
      apart = λ q m ap'. elim (cases_eq p q) [
        | inr ne ↦ put-row p q n m None (pushed p (Some a.at) ix.hands) ne ∙ pushed-row p q m (Some a.at) ix.hands ne
        | inl same ↦ rw (← same) (
            put-other p n m None (pushed p (Some a.at) ix.hands) rows (λ e. apart-number p m n (rw (← same) at (ap'.1 n (w.ends_is n ∙ eq-eqb n n refl))) e)
            ∙ pushed-other p m (Some a.at) ix.hands within (λ e. apart-number p m k (rw (← same) at (ap'.0 k w.brings_is)) (next ∙ e)))
      ];
      came = λ j e. let same : k ≡ j = some-inj (sym w.brings_is ∙ e) in rw (← same)
          (ap spot_of (put-other p n k None (pushed p (Some a.at) ix.hands) rows (λ g. apart (sym g)) ∙ ap (λ m. place_at p m (pushed p (Some a.at) ix.hands)) next ∙ pushed-same p (Some a.at) ix.hands within) ∙ sym (w.brought_is ∙ a.spot_is));
      went = λ j e. let same : n ≡ j = eqb-true n j (sym (w.ends_is j) ∙ e) in rw (← same) (put-gone p n (pushed p (Some a.at) ix.hands) rows);
    }
      where
        rows : p < length (pushed p (Some a.at) ix.hands)
        rows = let e = length-at_place p (λ row. row ++ Some a.at ∷ []) ix.hands in omega arith

pub steps_swap : (ix : Index) (h : History) (p : ℕ) (act : Act) (c : CellName) (put took : Option ℕ) → Swaps ix h p act c put took → Steps ix (swapped p c put took ix) p act (heap_after h) (effect p act (heap_after h))
steps_swap ix h p act c None None w = swap_none ix h p act c w
steps_swap ix h p act c None (Some k) w = swap_out ix h p act c k w
steps_swap ix h p act c (Some n) None w = swap_in ix h p act c n w
steps_swap ix h p act c (Some n) (Some k) w = swap_both ix h p act c n k w
