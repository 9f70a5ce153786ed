-- A new index stands for the empty history.
use Rattle.std.proofs.Common.{◌≡◌, ℕ, zero, suc, ◌+◌, ◌<◌, ◌≤◌, Bool, true, false, List, [], ◌∷◌, length, get_or, Option, Some, None, inl, inr, refl, sym, ap, ◌∙◌, arith}
use Rattle.std.specs.Prelude.{slice_get, slice_index_or, All}
use Rattle.std.proofs.lemmas.Bool.{lt-leb}
use Rattle.std.proofs.lemmas.Option.{slice_get_within, slice_get_cases}
use Rattle.arc_model.specs.declared.event.CellName.TheVariants as cells
use Rattle.arc_model.specs.Shapes.{HeapShape, ObjectClass}
use Rattle.arc_model.specs.Heaps.{Heap}
use Rattle.arc_model.specs.Holders.{is_slot_taken, is_entry_taken}
use Rattle.arc_model.specs.Ranges.{FieldsFit}
use Rattle.arc_heap_index.specs.declared.counted.Place.{Place}
use Rattle.arc_heap_index.specs.declared.mark.Mark.{Mark}
use Rattle.arc_heap_index.specs.declared.slots.SlotState.TheVariants.{Free}
use Rattle.arc_heap_index.specs.Counting.{row_of}
use Rattle.arc_heap_index.specs.Freeing.{Freed, AreFree, owner_in, owner_at, is_seen}
use Rattle.arc_heap_index.specs.Fresh.{IsBlankTable, AreZero, AreMarked}
use Rattle.arc_heap_judge.specs.Index.{Index, mark_of, no_mark}
use Rattle.arc_heap_judge.specs.Stands.{claimant, is_object, spot_of, Looks, StandsFor}

no-owner : (n : ℕ) (all : Freed) → AreFree n all → (s : ℕ) → owner_at s all ≡ None
no-owner n all a s = elim (slice_get_cases all.states s).1 [
  | inl h ↦ ap owner_in (a.free s (let c = a.count in let l = h.1 in omega arith))
  | inr h ↦ ap owner_in h.1
]

free-is : (n : ℕ) (all : Freed) → AreFree n all → (s j : ℕ) → slice_get all.states s ≡ Some (Free j) → j < all.frees
free-is n all a s j e =
    let l = slice_get_within all.states s (Free j) e in
    let c = a.count in
    let f : Some (Free s) ≡ Some (Free j) = sym (a.free s (omega arith)) ∙ e in
    let g : s ≡ j = cc in
    let d = a.frees in omega arith

new-looks : (n threads : ℕ) (all : Freed) (since : ℕ → ℕ) (test : ℕ → Heap → Bool) → AreFree n all → ((p : ℕ) → p < threads → since p ≡ n) → ((s : ℕ) → test s Rattle.arc_model.specs.Heaps.empty ≡ false) → Looks n threads all since test []
new-looks n threads all since test a marks none = record {
  count = a.count;
  seen = λ p s l m. ap (λ k. is_seen k (slice_get all.states s)) (marks p l) ∙ ap (is_seen n) (a.free s m) ∙ lt-leb n s m ∙ sym (none s);
  before = λ s j e. free-is n all a s j e;
  last = λ p l. let e = marks p l in let f = a.frees in omega arith;
}

get_or-end : {X : Type 0} (xs : List X) (i : ℕ) (d : X) → length xs ≤ i → get_or xs i d ≡ d
get_or-end [] i d h = refl
get_or-end (x ∷ xs) zero d h = absurd (omega arith)
get_or-end (x ∷ xs) (suc i) d h = get_or-end xs i d (omega arith)

-- what stands for a class past the last one
abbrev no_class : ObjectClass
no_class = record { fields = []; immortal = false }

few-fields : (classes : List ObjectClass) → All (λ (c : ObjectClass). length c.fields ≤ 8) classes → (class : ℕ) → length (slice_index_or classes class no_class).fields ≤ 8
few-fields classes a class = elim (slice_get_cases classes class).1 [
  | inl h ↦ a class no_class h.1
  | inr h ↦ let e : length (get_or classes class no_class).fields ≡ 0 = ap (λ (c : ObjectClass). length c.fields) (get_or-end classes class no_class (omega (arith, h.0))) in omega arith
]

pub fresh : (shape : HeapShape) (threads : ℕ) (hands table : List (List (Option Place))) (reach : List (List ℕ)) (marks : List Mark) (slots entries : Freed) →
    IsBlankTable threads 1 1 hands → IsBlankTable shape.slots 8 (length shape.globals) table → AreZero (threads + 1) shape.slots reach → AreMarked (threads + 1) shape.slots shape.entries marks → AreFree shape.slots slots → AreFree shape.entries entries → FieldsFit shape.classes →
    StandsFor (record { shape = shape; hands = hands; cells = table; reach = reach; objects = []; marks = marks; slots = slots; entries = entries }) []
fresh shape threads hands table reach marks slots entries h c r m s e few = record {
  legal = tt;
  tells = record {
    counted = λ i. tt;
    slots = λ u i. sym (ap (is_object i) (no-owner shape.slots slots s u));
    entries = λ u i. sym (ap (is_object i) (no-owner shape.entries entries e u));
    claims = λ u. sym (ap claimant (no-owner shape.entries entries e u));
    unclaimed = λ u. ap claimant (no-owner shape.slots slots s u);
    made = λ p l. ap (λ (k : Mark). k.made) (mark p l);
    reach = λ p u i l n own. (let f : false ≡ true = sym (ap (is_object i) (no-owner shape.slots slots s u)) ∙ own in absurd (cc));
    idle = λ p u l n free. (r.each p (let a = m.many in omega arith)).zero u;
  };
  points = record {
    hands = λ p k l. ap spot_of (h.blank p k);
    cells = λ d range. cell d;
  };
  sized = record {
    hands = h.many ∙ sym m.many;
    reach = r.many ∙ sym m.many;
    reach_rows = λ p l. (r.each p (let a = m.many in omega arith)).many;
    cells = c.many;
    fields = c.each;
    globals = c.end;
    few = few-fields shape.classes few;
  };
  next = λ p l. one p (let a = m.many in omega arith);
  fewer = λ p l. let a : (mark_of ix p).made ≡ 0 = ap (λ (k : Mark). k.made) (mark p l) in let b = one p (let a = m.many in omega arith) in omega arith;
  slots = new-looks shape.slots (length marks) slots (λ p. (mark_of ix p).slots) is_slot_taken s (λ p l. ap (λ (k : Mark). k.slots) (mark p l)) (λ u. refl);
  entries = new-looks shape.entries (length marks) entries (λ p. (mark_of ix p).entries) is_entry_taken e (λ p l. ap (λ (k : Mark). k.entries) (mark p l)) (λ u. refl);
}
  where
    ix : Index
    ix = record { shape = shape; hands = hands; cells = table; reach = reach; objects = []; marks = marks; slots = slots; entries = entries }

    mark : (p : ℕ) → p < length marks → slice_index_or marks p no_mark ≡ record { made = 0; slots = shape.slots; entries = shape.entries }
    mark p l = m.each p no_mark (let a = m.many in omega arith)

    one : (p : ℕ) → p < threads + 1 → length (row_of p hands) ≡ 1
    one p l = elim (Rattle.std.proofs.lemmas.Bool.cases_eq p threads) [
      | inl same ↦ rw same h.end
      | inr ne ↦ h.each p (omega arith)
    ]

    cell : (d : Rattle.arc_model.specs.declared.event.CellName.CellName) → spot_of (Rattle.arc_heap_judge.specs.Index.cell_at (record { shape = shape; hands = hands; cells = table; reach = reach; objects = []; marks = marks; slots = slots; entries = entries }) d) ≡ Rattle.arc_model.specs.Lookup.spot (Rattle.arc_model.specs.Cells.cell Rattle.arc_model.specs.Heaps.empty d) Rattle.arc_model.specs.Heaps.empty
    cell (cells.Field u f) = ap spot_of (c.blank u f)
    cell (cells.Global g) = ap spot_of (c.blank shape.slots g)
