-- From what an act does to an index, to what the index stands for after the event.
use Rattle.std.proofs.Common.{◌≡◌, ℕ, ◌+◌, ◌<◌, ◌≤◌, Bool, true, false, cond, eqb, List, ◌∷◌, length, Option, Some, None, ◌⊎◌, inl, inr, refl, sym, ap, ◌∙◌, subst, arith}
use Rattle.std.specs.Prelude.{slice_get, is_some, ◌&&◌, ◌||◌}
use Rattle.std.proofs.lemmas.Bool.{cases_eq, eq-eqb, ne_eqb, eqb-true, le-leb, lt-leb}
use Rattle.std.proofs.lemmas.List.Sums.{sum_by-cons}
use Rattle.arc_model.specs.declared.event.Act.{Act}
use Rattle.arc_model.specs.declared.event.CellName.{CellName}
use Rattle.arc_model.specs.declared.event.Event.{Event}
use Rattle.arc_model.specs.Shapes.{HeapShape}
use Rattle.arc_model.specs.Heaps.{Hand, Heap}
use Rattle.arc_model.specs.Holders.{same_holder, is_slot_taken, is_entry_taken}
use Rattle.arc_model.specs.Cells.{cell}
use Rattle.arc_model.specs.Effects.{effect}
use Rattle.arc_model.specs.Lookup.{spot}
use Rattle.arc_model.specs.Own.{ends_hand, brings_hand, brought}
use Rattle.arc_model.specs.History.{History, heap_after, brings, is_of, ever_since, next_hand, IsLegal}
use Rattle.arc_model.proofs.Own.{own_gains, own_ends}
use Rattle.arc_heap_index.specs.declared.counted.Place.{Place}
use Rattle.arc_heap_index.specs.declared.mark.Mark.{Mark}
use Rattle.arc_heap_index.specs.declared.slots.Owner.{Owner}
use Rattle.arc_heap_index.specs.declared.slots.SlotState.{SlotState}
use Rattle.arc_heap_index.specs.declared.slots.SlotState.TheVariants.{Taken, Free}
use Rattle.arc_heap_index.specs.Counting.{row_of, place_at, put_at, pushed}
use Rattle.arc_heap_index.specs.Freeing.{Freed, owner_in, is_seen}
use Rattle.arc_heap_judge.specs.Index.{Index, hand_at, cell_at, mark_of, next_of, no_mark}
use Rattle.arc_heap.specs.Moving.{ticked}
use Rattle.arc_heap_judge.specs.Stands.{spot_of, IsCellInRange, Tells, Looks, IsSized, StandsFor}
use Rattle.arc_heap_index.proofs.Places.{length-at_place, get_or-at_place-same, get_or-at_place-other}
use Rattle.arc_heap_index.proofs.Rows.{pushed-same, pushed-row, pushed-other, put-gone, put-row, put-other}
use Rattle.arc_heap_judge.proofs.Told.{true≢false, some-inj}
use Rattle.arc_heap_judge.proofs.Judges.{entry-same, slot-same}
use Rattle.arc_heap.proofs.Spots.{Apart, hand-stays}

-- the table of hands after an act
pub record HandsAfter (ix : Index) (p : ℕ) (act : Act) (heap : Heap) (hands : List (List (Option Place))) : Type 0 where
  pub apart : (q m : ℕ) → Apart p act q m → place_at q m hands ≡ place_at q m ix.hands
  pub came : (k : ℕ) → brings_hand act ≡ Some k → spot_of (place_at p k hands) ≡ brought heap p act
  pub went : (k : ℕ) → ends_hand k act ≡ true → place_at p k hands ≡ None

-- what an act may do to a slot or an entry
abbrev pub SlotStep : Freed → Freed → ℕ → Type 0
SlotStep old new s =
    (slice_get new.states s ≡ slice_get old.states s)
    ⊎ (((x : Owner) × (slice_get new.states s ≡ Some (Taken x)))
    ⊎ ((x : Owner) × (slice_get old.states s ≡ Some (Taken x)) × (slice_get new.states s ≡ Some (Free old.frees)) × (old.frees < new.frees)))

pub record SlotSteps (old new : Freed) : Type 0 where
  pub count : length new.states ≡ length old.states
  pub slot : (s : ℕ) → SlotStep old new s
  pub frees : old.frees ≤ new.frees

pub record Steps (ix new : Index) (p : ℕ) (act : Act) (heap after : Heap) : Type 0 where
  pub tells : Tells new after
  pub hands : HandsAfter ix p act heap new.hands
  pub cells : (c : CellName) → IsCellInRange ix.shape c → spot_of (cell_at new c) ≡ spot (cell after c) after
  pub shape : new.shape ≡ ix.shape
  pub sized : IsSized new
  pub came : (q : ℕ) → q < length ix.marks → length (row_of q new.hands) ≡ length (row_of q ix.hands) + cond (eqb p q && brings act) 1 0
  pub marks : length new.marks ≡ length ix.marks
  pub since_slots : (q : ℕ) → (mark_of new q).slots ≡ (mark_of ix q).slots
  pub since_entries : (q : ℕ) → (mark_of new q).entries ≡ (mark_of ix q).entries
  pub fewer : (q : ℕ) → q < length ix.marks → (mark_of new q).made < next_of new q
  pub slots : SlotSteps ix.slots new.slots
  pub entries : SlotSteps ix.entries new.entries

pub no-steps : (old : Freed) → SlotSteps old old
no-steps old = record { count = refl; slot = λ s. inl refl; frees = omega arith }

-- hands that are the same, or not
pub other-thread : (q m p k : ℕ) → (p ≡ q → ⊥) → same_holder (Hand q m) (Hand p k) ≡ false
other-thread q m p k ne = rw (ne_eqb q p (λ e. ne (sym e))) refl

pub other-number : (m p k : ℕ) → (k ≡ m → ⊥) → same_holder (Hand p m) (Hand p k) ≡ false
other-number m p k ne = rw (eq-eqb p p refl, ne_eqb m k (λ e. ne (sym e))) refl

pub same-hand : (p k : ℕ) → same_holder (Hand p k) (Hand p k) ≡ true
same-hand p k = rw (eq-eqb p p refl, eq-eqb k k refl) refl

pub apart-number : (p m k : ℕ) → same_holder (Hand p m) (Hand p k) ≡ false → k ≡ m → ⊥
apart-number p m k d e = true≢false (sym (same-hand p m) ∙ ap (λ n. same_holder (Hand p m) (Hand p n)) (sym e) ∙ d)

pub hands-none : (ix : Index) (p : ℕ) (act : Act) (heap : Heap) → brings_hand act ≡ None → ((k : ℕ) → ends_hand k act ≡ false) → HandsAfter ix p act heap ix.hands
hands-none ix p act heap none ends = record {
  apart = λ q m a. refl;
  came = λ k e. let n : None ≡ Some k = sym none ∙ e in absurd (cc);
  went = λ k e. true≢false (sym e ∙ ends k);
}

pub hands-push : (ix : Index) (p : ℕ) (act : Act) (heap : Heap) (k : ℕ) (place : Option Place) → p < length ix.hands → brings_hand act ≡ Some k → ((n : ℕ) → ends_hand n act ≡ false) → k ≡ next_of ix p → spot_of place ≡ brought heap p act → HandsAfter ix p act heap (pushed p place ix.hands)
hands-push ix p act heap k place within some ends next is = record {
  apart = λ q m a. elim (cases_eq p q) [
    | inr ne ↦ pushed-row p q m place ix.hands ne
    | inl same ↦ rw (← same) (pushed-other p m place ix.hands within (λ e. apart-number p m k (rw (← same) at (a.0 k some)) (next ∙ e)))
  ];
  came = λ n e. let same : k ≡ n = some-inj (sym some ∙ e) in rw (← same, next) (ap spot_of (pushed-same p place ix.hands within) ∙ is);
  went = λ n e. true≢false (sym e ∙ ends n);
}

pub hands-put : (ix : Index) (p : ℕ) (act : Act) (heap : Heap) (h : ℕ) → p < length ix.hands → brings_hand act ≡ None → ((n : ℕ) → ends_hand n act ≡ eqb h n) → HandsAfter ix p act heap (put_at p h None ix.hands)
hands-put ix p act heap h within none ends = record {
  apart = λ q m a. elim (cases_eq p q) [
    | inr ne ↦ put-row p q h m None ix.hands ne
    | inl same ↦ rw (← same) (put-other p h m None ix.hands within (λ e. apart-number p m h (rw (← same) at (a.1 h (ends h ∙ eq-eqb h h refl))) e))
  ];
  came = λ n e. let f : None ≡ Some n = sym none ∙ e in absurd (cc);
  went = λ n e. let same : h ≡ n = eqb-true h n (sym (ends n) ∙ e) in rw (← same) (put-gone p h ix.hands within);
}

-- where the hands stand after the event
hands_after : (ix : Index) (h : History) (p : ℕ) (act : Act) (hands : List (List (Option Place))) → IsLegal ix.shape (record { thread = p; act = act } ∷ h) → ((q k : ℕ) → q < length ix.marks → spot_of (hand_at ix q k) ≡ spot (Hand q k) (heap_after h)) → HandsAfter ix p act (heap_after h) hands → (q m : ℕ) → q < length ix.marks → spot_of (place_at q m hands) ≡ spot (Hand q m) (effect p act (heap_after h))
hands_after ix h p act hands legal before a q m l = elim (cases_eq p q) [
  | inr ne ↦ stays q l (λ k e. other-thread q m p k ne, λ k e. other-thread q m p k ne)
  | inl same ↦ rw (← same) (mine (rw (← same) at l) (brings_hand act) refl)
]
  where
    e : Event
    e = record { thread = p; act = act }

    stays : (q : ℕ) → q < length ix.marks → Apart p act q m → spot_of (place_at q m hands) ≡ spot (Hand q m) (effect p act (heap_after h))
    stays q l apart = ap spot_of (a.apart q m apart) ∙ before q m l ∙ sym (hand-stays p act (heap_after h) q m apart)

    ended : p < length ix.marks → ((k : ℕ) → brings_hand act ≡ Some k → same_holder (Hand p m) (Hand p k) ≡ false) → (b : Bool) → ends_hand m act ≡ b → spot_of (place_at p m hands) ≡ spot (Hand p m) (effect p act (heap_after h))
    ended l none true f = ap spot_of (a.went m f) ∙ sym (own_ends ix.shape h e m legal f)
    ended l none false f = stays p l (none, λ k g. other-number m p k (λ same. true≢false (sym g ∙ ap (λ n. ends_hand n act) same ∙ f)))

    mine : p < length ix.marks → (b : Option ℕ) → brings_hand act ≡ b → spot_of (place_at p m hands) ≡ spot (Hand p m) (effect p act (heap_after h))
    mine l None f = ended l (λ k g. let n : None ≡ Some k = sym f ∙ g in absurd (cc)) (ends_hand m act) refl
    mine l (Some k) f = elim (cases_eq k m) [
      | inl same ↦ a.came m (f ∙ ap Some same) ∙ sym (own_gains ix.shape h e m legal (f ∙ ap Some same))
      | inr ne ↦ ended l (λ n g. let same : k ≡ n = some-inj (sym f ∙ g) in rw (← same) (other-number m p k ne)) (ends_hand m act) refl
    ]

-- since a point before the event
still : (since : ℕ) (st : Option SlotState) → is_seen since st ≡ (is_some (owner_in st) || is_seen since st)
still since None = refl
still since (Some (Taken i)) = refl
still since (Some (Free j)) = refl

since_before : (old new : Freed) (u since : ℕ) (before : Bool) → SlotStep old new u → since ≤ old.frees → is_seen since (slice_get old.states u) ≡ before → is_seen since (slice_get new.states u) ≡ (is_some (owner_in (slice_get new.states u)) || before)
since_before old new u since before (inl same) le e = rw (same, ← e) (still since (slice_get old.states u))
since_before old new u since before (inr (inl taken)) le e = rw taken.1 refl
since_before old new u since before (inr (inr freed)) le e = rw freed.2 (le-leb since old.frees le ∙ sym (ap (is_seen since) freed.1) ∙ e)

since_now : (since : ℕ) (st : Option SlotState) → ((j : ℕ) → st ≡ Some (Free j) → j < since) → is_seen since st ≡ (is_some (owner_in st) || false)
since_now since None h = refl
since_now since (Some (Taken i)) h = refl
since_now since (Some (Free j)) h = lt-leb since j (h j refl)

free_below : (old new : Freed) (u j : ℕ) → SlotStep old new u → old.frees ≤ new.frees → (slice_get old.states u ≡ Some (Free j) → j < old.frees) → slice_get new.states u ≡ Some (Free j) → j < new.frees
free_below old new u j (inl same) le h e = let l = h (sym same ∙ e) in omega arith
free_below old new u j (inr (inl taken)) le h e = let f : Some (Free j) ≡ Some (Taken taken.0) = sym e ∙ taken.1 in absurd (cc)
free_below old new u j (inr (inr freed)) le h e = let f : Some (Free j) ≡ Some (Free old.frees) = sym e ∙ freed.2 in let n : j ≡ old.frees = cc in let l = freed.3 in omega arith

-- what is seen after the event
looks_after : (n threads : ℕ) (old new : Freed) (before since : ℕ → ℕ) (test : ℕ → Heap → Bool) (h : History) (p : ℕ) (act : Act) → Looks n threads old before test h → SlotSteps old new →
    since p ≡ new.frees → ((q : ℕ) → q < threads → (p ≡ q → ⊥) → since q ≡ before q) → ((s : ℕ) → is_some (owner_in (slice_get new.states s)) ≡ test s (effect p act (heap_after h))) →
    Looks n threads new since test (record { thread = p; act = act } ∷ h)
looks_after n threads old new before since test h p act looks steps mine others taken = record {
  count = steps.count ∙ looks.count;
  seen = λ q u l m. elim (cases_eq p q) [
    | inl same ↦ rw (← same, mine, eq-eqb p p refl, ← taken u) (since_now new.frees (slice_get new.states u) (λ j e. below u j e))
    | inr ne ↦ rw (others q l ne, ne_eqb p q ne, ← taken u) (since_before old new u (before q) (ever_since q (test u) h) (steps.slot u) (looks.last q l) (looks.seen q u l m))
  ];
  before = below;
  last = λ q l. elim (cases_eq p q) [
    | inl same ↦ rw (← same, mine) (omega arith)
    | inr ne ↦ rw (others q l ne) (let a = looks.last q l in let b = steps.frees in omega arith)
  ];
}
  where
    below : (u j : ℕ) → slice_get new.states u ≡ Some (Free j) → j < new.frees
    below u j e = free_below old new u j (steps.slot u) steps.frees (looks.before u j) e

brings-next : (p q : ℕ) (act : Act) (h : History) → next_hand q (record { thread = p; act = act } ∷ h) ≡ next_hand q h + cond (eqb p q && brings act) 1 0
brings-next p q act h = let a = sum_by-cons (λ (x : Event). cond {A = ℕ} (is_of q x && brings x.act) 1 0) (record { thread = p; act = act }) h in omega arith

pub standing : (ix new : Index) (h : History) (p : ℕ) (act : Act) → p < length ix.marks → StandsFor ix h → IsLegal ix.shape (record { thread = p; act = act } ∷ h) → Steps ix new p act (heap_after h) (effect p act (heap_after h)) → StandsFor (ticked p new) (record { thread = p; act = act } ∷ h)
standing ix new h p act within st legal s = record {
  legal = subst (λ (sh : HeapShape). IsLegal sh (record { thread = p; act = act } ∷ h)) (sym s.shape) legal;
  tells = record {
    counted = s.tells.counted;
    slots = s.tells.slots;
    entries = s.tells.entries;
    claims = s.tells.claims;
    unclaimed = s.tells.unclaimed;
    made = λ q l. made-same q ∙ s.tells.made q (rw many at l);
    reach = λ q u i l m owner. s.tells.reach q u i (rw many at l) m owner;
    idle = λ q u l m free. s.tells.idle q u (rw many at l) m free;
  };
  points = record {
    hands = λ q k l. hands_after ix h p act new.hands legal st.points.hands s.hands q k (rw s.marks at (rw many at l));
    cells = λ c range. s.cells c (rw s.shape at range);
  };
  sized = record {
    hands = s.sized.hands ∙ sym many;
    reach = s.sized.reach ∙ sym many;
    reach_rows = λ q l. s.sized.reach_rows q (rw many at l);
    cells = s.sized.cells;
    fields = s.sized.fields;
    globals = s.sized.globals;
    few = s.sized.few;
  };
  next = λ q l. s.came q (rw s.marks at (rw many at l)) ∙ ap (λ n. n + cond (eqb p q && brings act) 1 0) (st.next q (rw s.marks at (rw many at l))) ∙ sym (brings-next p q act h);
  fewer = λ q l. rw (made-same q) (s.fewer q (rw s.marks at (rw many at l)));
  slots = rw (s.shape, many, s.marks) (looks_after ix.shape.slots (length ix.marks) ix.slots new.slots (λ q. (mark_of ix q).slots) (λ q. (mark_of (ticked p new) q).slots) is_slot_taken h p act st.slots s.slots (ap (λ (m : Mark). m.slots) mine) (λ q l ne. ap (λ (m : Mark). m.slots) (other q ne) ∙ s.since_slots q) (λ u. slot-same new after s.tells u));
  entries = rw (s.shape, many, s.marks) (looks_after ix.shape.entries (length ix.marks) ix.entries new.entries (λ q. (mark_of ix q).entries) (λ q. (mark_of (ticked p new) q).entries) is_entry_taken h p act st.entries s.entries (ap (λ (m : Mark). m.entries) mine) (λ q l ne. ap (λ (m : Mark). m.entries) (other q ne) ∙ s.since_entries q) (λ u. entry-same new after s.tells u));
}
  where
    after : Heap
    after = effect p act (heap_after h)

    many : length (ticked p new).marks ≡ length new.marks
    many = length-at_place p (λ (m : Mark). record { made = m.made; slots = new.slots.frees; entries = new.entries.frees }) new.marks

    mine : mark_of (ticked p new) p ≡ record { made = (mark_of new p).made; slots = new.slots.frees; entries = new.entries.frees }
    mine = get_or-at_place-same p (λ (m : Mark). record { made = m.made; slots = new.slots.frees; entries = new.entries.frees }) new.marks no_mark (let e = s.marks in omega arith)

    other : (q : ℕ) → (p ≡ q → ⊥) → mark_of (ticked p new) q ≡ mark_of new q
    other q ne = get_or-at_place-other p q (λ (m : Mark). record { made = m.made; slots = new.slots.frees; entries = new.entries.frees }) new.marks no_mark ne

    made-same : (q : ℕ) → (mark_of (ticked p new) q).made ≡ (mark_of new q).made
    made-same q = elim (cases_eq p q) [
      | inl same ↦ rw (← same) (ap (λ (m : Mark). m.made) mine)
      | inr ne ↦ ap (λ (m : Mark). m.made) (other q ne)
    ]
