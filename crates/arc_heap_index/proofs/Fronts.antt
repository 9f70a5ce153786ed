-- The first entry that still holds judges the slots since a point.
use Rattle.std.proofs.Common.{◌≡◌, ℕ, zero, suc, ◌+◌, ◌<◌, ◌≤◌, Bool, true, false, List, [], ◌∷◌, ◌++◌, length, length-append, Option, Some, None, inl, inr, refl, sym, ap, ◌∙◌, arith}
use Rattle.std.specs.Prelude.{slice_get, is_some, is_none, ◌&&◌}
use Rattle.std.specs.Option.{option_map}
use Rattle.std.proofs.lemmas.Bool.{cases_eq, eq-eqb, ne_eqb, eqb-true, le-leb, lt-leb}
use Rattle.std.proofs.lemmas.Option.{slice_get_within, slice_get_cases}
use Rattle.arc_model.specs.Cells.{each_below}
use Rattle.arc_heap_index.specs.declared.slots.Owner.{Owner}
use Rattle.arc_heap_index.specs.declared.slots.SlotState.{SlotState}
use Rattle.arc_heap_index.specs.declared.slots.SlotState.TheVariants.{Taken, Free}
use Rattle.arc_heap_index.specs.Counting.{placed}
use Rattle.arc_heap_index.specs.Freeing.{is_free_by, state_of_entry, is_current_entry, is_seen, are_seen, owner_in, one_if_taken, taken_times, IsFront, IsLogged}
use Rattle.arc_heap_index.proofs.Places.{slice_get-at_place-same, slice_get-at_place-other, slice_get-append-left, length-at_place}

pub each_below-true : (n : ℕ) (test : ℕ → Bool) → ((s : ℕ) → s < n → test s ≡ true) → each_below n test ≡ true
each_below-true zero test h = refl
each_below-true (suc n) test h = rw (h n (omega arith)) (each_below-true n test (λ s l. h s (omega arith)))

pub each_below-false : (n : ℕ) (test : ℕ → Bool) (s : ℕ) → s < n → test s ≡ false → each_below n test ≡ false
each_below-false zero test s l h = absurd (omega arith)
each_below-false (suc n) test s l h =
    elim (cases_eq s n) [
      | inl same ↦ rw (← same, h) refl
      | inr other ↦ go (test n) (each_below-false n test s (omega arith) h)
    ]
  where
    go : (b : Bool) → each_below n test ≡ false → b && each_below n test ≡ false
    go true e = e
    go false e = refl

free-current : (states : List SlotState) (log : List ℕ) (s j : ℕ) → slice_get states s ≡ Some (Free j) → slice_get log j ≡ Some s → is_current_entry states log j ≡ true
free-current states log s j at_state at_log = ap (λ e. is_free_by j (state_of_entry states e)) at_log ∙ ap (is_free_by j) at_state ∙ eq-eqb j j refl

current-free : (states : List SlotState) (log : List ℕ) (j : ℕ) → is_current_entry states log j ≡ true → (s : ℕ) × (slice_get log j ≡ Some s) × (slice_get states s ≡ Some (Free j))
current-free states log j h = go (slice_get log j) refl h
  where
    more : (s : ℕ) (st : Option SlotState) → slice_get states s ≡ st → is_free_by j st ≡ true → slice_get states s ≡ Some (Free j)
    more s None e b = absurd (cc)
    more s (Some (Taken i)) e b = absurd (cc)
    more s (Some (Free i)) e b = e ∙ ap (λ n. Some (Free n)) (eqb-true i j b)

    go : (e : Option ℕ) → slice_get log j ≡ e → is_free_by j (state_of_entry states e) ≡ true → (s : ℕ) × (slice_get log j ≡ Some s) × (slice_get states s ≡ Some (Free j))
    go None e b = absurd (cc)
    go (Some s) e b = (s, e, more s (slice_get states s) refl b)

pub are_seen-true : (states : List SlotState) (log : List ℕ) (frees front since : ℕ) → IsLogged states log frees front → ((j : ℕ) → front ≤ j → j < frees → since ≤ j) → are_seen since (record { states = states; frees = frees }) ≡ true
are_seen-true states log frees front since is after = each_below-true (length states) (λ s. is_seen since (slice_get states s)) (λ s l. go s l (slice_get states s) refl)
  where
    late : (s j : ℕ) → slice_get states s ≡ Some (Free j) → (j < front → ⊥)
    late s j e l = let h = is.is_front.stale j l in let g = free-current states log s j e (is.logged s j e) in cc

    go : (s : ℕ) → s < length states → (st : Option SlotState) → slice_get states s ≡ st → is_seen since st ≡ true
    go s l None e = elim (slice_get_cases states s).1 [
      | inl h ↦ let g = h.2 in absurd (cc)
      | inr h ↦ absurd (omega (arith, h.0))
    ]
    go s l (Some (Taken i)) e = refl
    go s l (Some (Free j)) e = le-leb since j (after j (let n = late s j e in omega arith) (is.before s j e))

pub are_seen-false : (states : List SlotState) (log : List ℕ) (frees front since : ℕ) → IsLogged states log frees front → front < frees → front < since → are_seen since (record { states = states; frees = frees }) ≡ false
are_seen-false states log frees front since is within before =
    let f = current-free states log front (is.is_front.next within) in
    each_below-false (length states) (λ s. is_seen since (slice_get states s)) f.0 (slice_get_within states f.0 (Free front) f.2) (ap (is_seen since) f.2 ∙ lt-leb since front before)

-- the log grows
pub grown-current : (states : List SlotState) (log : List ℕ) (x j : ℕ) → j < length log → is_current_entry states (log ++ x ∷ []) j ≡ is_current_entry states log j
grown-current states log x j l = ap (λ e. is_free_by j (state_of_entry states e)) (slice_get-append-left log (x ∷ []) j l)

-- a slot is taken
taken-same : (states : List SlotState) (s : ℕ) (i : Owner) → (j : ℕ) → is_free_by j (slice_get (placed s (Taken i) states) s) ≡ false
taken-same states s i j = ap (is_free_by j) (slice_get-at_place-same s (λ _. Taken i) states) ∙ go (slice_get states s)
  where
    go : (st : Option SlotState) → is_free_by j (option_map (λ _. Taken i) st) ≡ false
    go None = refl
    go (Some x) = refl

pub taken-stale : (states : List SlotState) (log : List ℕ) (s : ℕ) (i : Owner) (j : ℕ) → is_current_entry states log j ≡ false → is_current_entry (placed s (Taken i) states) log j ≡ false
taken-stale states log s i j h = go (slice_get log j) h
  where
    go : (e : Option ℕ) → is_free_by j (state_of_entry states e) ≡ false → is_free_by j (state_of_entry (placed s (Taken i) states) e) ≡ false
    go None b = refl
    go (Some t) b = elim (cases_eq s t) [
      | inl same ↦ rw (← same) (taken-same states s i j)
      | inr other ↦ ap (is_free_by j) (slice_get-at_place-other s t (λ _. Taken i) states other) ∙ b
    ]

clash : {A : Type 0} (j : ℕ) (st : Option SlotState) → is_free_by j st ≡ false → st ≡ Some (Free j) → A
clash j st differs e = let same = ap (is_free_by j) e ∙ eq-eqb j j refl in let both : true ≡ false = sym same ∙ differs in absurd (cc)

-- one that is free after it was taken was free before
taken-before : (states : List SlotState) (s : ℕ) (i : Owner) (t j : ℕ) → slice_get (placed s (Taken i) states) t ≡ Some (Free j) → slice_get states t ≡ Some (Free j)
taken-before states s i t j e = elim (cases_eq s t) [
  | inl same ↦ clash j (slice_get (placed s (Taken i) states) s) (taken-same states s i j) (rw (← same) at e)
  | inr other ↦ sym (slice_get-at_place-other s t (λ _. Taken i) states other) ∙ e
]

taken-times : (states : List SlotState) (s : ℕ) (i : Owner) → taken_times (placed s (Taken i) states) ≤ taken_times states + 1
taken-times [] s i = omega arith
taken-times (Taken x ∷ states) zero i = omega arith
taken-times (Free x ∷ states) zero i = omega arith
taken-times (x ∷ states) (suc s) i = let ih = taken-times states s i in omega arith

pub taken-logged : (states : List SlotState) (log : List ℕ) (frees front now s : ℕ) (i : Owner) → IsLogged states log frees front → IsFront (placed s (Taken i) states) (log ++ 0 ∷ []) frees now → IsLogged (placed s (Taken i) states) (log ++ 0 ∷ []) frees now
taken-logged states log frees front now s i is first = record {
  logged = λ t j e. let f = taken-before states s i t j e in slice_get-append-left log (0 ∷ []) j (slice_get_within log j t (is.logged t j f)) ∙ is.logged t j f;
  before = λ t j e. is.before t j (taken-before states s i t j e);
  is_front = first;
  room = let a = taken-times states s i in let b = is.room in let c = length-append log (0 ∷ []) in omega arith;
}

pub taken-is_stale : (states : List SlotState) (log : List ℕ) (frees front s : ℕ) (i : Owner) → IsLogged states log frees front → (j : ℕ) → j < front → is_current_entry (placed s (Taken i) states) (log ++ 0 ∷ []) j ≡ false
taken-is_stale states log frees front s i is j l =
    let a = is.is_front.within in let b = is.room in
    grown-current (placed s (Taken i) states) log 0 j (omega arith) ∙ taken-stale states log s i j (is.is_front.stale j l)

pub grown-logged : (states : List SlotState) (log : List ℕ) (frees front : ℕ) → IsLogged states log frees front → IsLogged states (log ++ 0 ∷ []) frees front
grown-logged states log frees front is = record {
  logged = λ t j e. slice_get-append-left log (0 ∷ []) j (slice_get_within log j t (is.logged t j e)) ∙ is.logged t j e;
  before = is.before;
  is_front = record {
    stale = λ j l. let a = is.is_front.within in let b = is.room in grown-current states log 0 j (omega arith) ∙ is.is_front.stale j l;
    next = λ l. let b = is.room in grown-current states log 0 front (omega arith) ∙ is.is_front.next l;
    within = is.is_front.within;
  };
  room = let b = is.room in let c = length-append log (0 ∷ []) in omega arith;
}

-- a slot that is taken goes to another
is-taken : (st : Option SlotState) → is_some (owner_in st) ≡ true → (u : Owner) × (st ≡ Some (Taken u))
is-taken None h = absurd (cc)
is-taken (Some (Taken u)) h = (u, refl)
is-taken (Some (Free j)) h = absurd (cc)

changed-times : (states : List SlotState) (s : ℕ) (i u : Owner) → slice_get states s ≡ Some (Taken u) → taken_times (placed s (Taken i) states) ≡ taken_times states
changed-times [] s i u e = absurd (cc)
changed-times (x ∷ states) zero i u e = let f : x ≡ Taken u = cc in rw f refl
changed-times (x ∷ states) (suc s) i u e = ap (λ n. one_if_taken x + n) (changed-times states s i u e)

pub changed-logged : (states : List SlotState) (log : List ℕ) (frees front s : ℕ) (i : Owner) → is_some (owner_in (slice_get states s)) ≡ true → IsLogged states log frees front → IsLogged (placed s (Taken i) states) log frees front
changed-logged states log frees front s i held is =
    let u = is-taken (slice_get states s) held in record {
      logged = λ t j e. is.logged t j (taken-before states s i t j e);
      before = λ t j e. is.before t j (taken-before states s i t j e);
      is_front = record {
        stale = λ j l. taken-stale states log s i j (is.is_front.stale j l);
        next = λ l.
            let f = current-free states log front (is.is_front.next l) in
            free-current (placed s (Taken i) states) log f.0 front (slice_get-at_place-other s f.0 (λ _. Taken i) states (λ e. let g : Some (Free front) ≡ Some (Taken u.0) = sym f.2 ∙ ap (slice_get states) (sym e) ∙ u.1 in absurd (cc)) ∙ f.2) f.1;
        within = is.is_front.within;
      };
      room = let b = is.room in let c = changed-times states s i u.0 u.1 in omega arith;
    }

-- a slot is freed
freed-times : (states : List SlotState) (s j : ℕ) (u : Owner) → slice_get states s ≡ Some (Taken u) → taken_times (placed s (Free j) states) + 1 ≡ taken_times states
freed-times [] s j u e = absurd (cc)
freed-times (x ∷ states) zero j u e = let f : x ≡ Taken u = cc in rw f (omega arith)
freed-times (x ∷ states) (suc s) j u e = let ih = freed-times states s j u e in omega arith

pub has-room : (states : List SlotState) (log : List ℕ) (frees front s : ℕ) → is_some (owner_in (slice_get states s)) ≡ true → IsLogged states log frees front → frees < length log
has-room states log frees front s held is =
    let u = is-taken (slice_get states s) held in
    let a = freed-times states s 0 u.0 u.1 in let b = is.room in omega arith

pub freed-logged : (states : List SlotState) (log : List ℕ) (frees front s : ℕ) → is_some (owner_in (slice_get states s)) ≡ true → IsLogged states log frees front → IsLogged (placed s (Free frees) states) (placed frees s log) (frees + 1) front
freed-logged states log frees front s held is = record {
  logged = λ t j e. elim (cases_eq s t) [
    | inl same ↦ mine t j same e
    | inr other ↦
        let old = sym (unmoved t other) ∙ e in
        let l = is.before t j old in
        slice_get-at_place-other frees j (λ _. s) log (λ n. omega arith) ∙ is.logged t j old
  ];
  before = λ t j e. elim (cases_eq s t) [
    | inl same ↦ let n : Some (Free frees) ≡ Some (Free j) = sym now ∙ ap (slice_get after) same ∙ e in let m : frees ≡ j = cc in omega arith
    | inr other ↦ let l = is.before t j (sym (unmoved t other) ∙ e) in omega arith
  ];
  is_front = record {
    stale = λ j l. ap (λ e. is_free_by j (state_of_entry after e)) (slice_get-at_place-other frees j (λ _. s) log (λ n. let w = is.is_front.within in omega arith)) ∙ old_stale j (let w = is.is_front.within in omega arith) (slice_get log j) (is.is_front.stale j l);
    next = λ l. elim (cases_eq front frees) [
      | inl same ↦ rw same (free-current after (placed frees s log) s frees now written)
      | inr other ↦ let f = current-free states log front (is.is_front.next (let w = is.is_front.within in omega arith)) in
          free-current after (placed frees s log) f.0 front (unmoved f.0 (λ e. let g : Some (Free front) ≡ Some (Taken u.0) = sym f.2 ∙ ap (slice_get states) (sym e) ∙ u.1 in absurd (cc)) ∙ f.2) (slice_get-at_place-other frees front (λ _. s) log (λ n. other (sym n)) ∙ f.1)
    ];
    within = let w = is.is_front.within in omega arith;
  };
  room = let a = freed-times states s frees u.0 u.1 in let b = is.room in let c = length-at_place frees (λ (_ : ℕ). s) log in omega arith;
}
  where
    after : List SlotState
    after = placed s (Free frees) states

    u : (u : Owner) × (slice_get states s ≡ Some (Taken u))
    u = is-taken (slice_get states s) held

    unmoved : (t : ℕ) → (s ≡ t → ⊥) → slice_get after t ≡ slice_get states t
    unmoved t other = slice_get-at_place-other s t (λ _. Free frees) states other

    now : slice_get after s ≡ Some (Free frees)
    now = slice_get-at_place-same s (λ _. Free frees) states ∙ ap (option_map (λ _. Free frees)) u.1

    written : slice_get (placed frees s log) frees ≡ Some s
    written = slice_get-at_place-same frees (λ _. s) log ∙ go (slice_get log frees) refl
      where
        go : (x : Option ℕ) → slice_get log frees ≡ x → option_map (λ _. s) x ≡ Some s
        go None e = elim (slice_get_cases log frees).1 [
          | inl h ↦ let g = h.2 in absurd (cc)
          | inr h ↦ let l = has-room states log frees front s held is in absurd (omega (arith, h.0))
        ]
        go (Some x) e = refl

    mine : (t j : ℕ) → s ≡ t → slice_get after t ≡ Some (Free j) → slice_get (placed frees s log) j ≡ Some t
    mine t j same e = let n : Some (Free frees) ≡ Some (Free j) = sym now ∙ ap (slice_get after) same ∙ e in let m : frees ≡ j = cc in rw (← m, ← same) written

    old_stale : (j : ℕ) → j < frees → (e : Option ℕ) → is_free_by j (state_of_entry states e) ≡ false → is_free_by j (state_of_entry after e) ≡ false
    old_stale j l None b = refl
    old_stale j l (Some t) b = elim (cases_eq s t) [
      | inl same ↦ rw (← same) (ap (is_free_by j) now ∙ ne_eqb frees j (λ e. omega arith))
      | inr other ↦ ap (is_free_by j) (unmoved t other) ∙ b
    ]

pub some-if : {X : Type 0} (o : Option X) → is_none o ≡ false → is_some o ≡ true
some-if None h = absurd (cc)
some-if (Some x) h = refl

-- none was ever taken
none-taken : (states : List SlotState) → ((s : ℕ) → s < length states → (j : ℕ) × (slice_get states s ≡ Some (Free j))) → taken_times states ≡ 0
none-taken [] h = refl
none-taken (x ∷ states) h =
    let f = h 0 (omega arith) in
    let e : x ≡ Free f.0 = let g = f.1 in cc in
    let ih = none-taken states (λ s l. h (suc s) (omega arith)) in rw e (omega arith)

free-number : (s j : ℕ) → Some (Free s) ≡ Some (Free j) → j ≡ s
free-number s j e = cc

pub fresh-logged : (states : List SlotState) (log : List ℕ) (n : ℕ) → length states ≡ n → length log ≡ n → ((s : ℕ) → s < n → slice_get states s ≡ Some (Free s)) → ((s : ℕ) → s < n → slice_get log s ≡ Some s) → IsLogged states log n 0
fresh-logged states log n many logged free at_log = record {
  logged = λ s j e. let l = slice_get_within states s (Free j) e in let m = free-number s j (sym (free s (omega arith)) ∙ e) in rw m (at_log s (omega arith));
  before = λ s j e. let l = slice_get_within states s (Free j) e in let m = free-number s j (sym (free s (omega arith)) ∙ e) in omega arith;
  is_front = record {
    stale = λ j l. absurd (omega arith);
    next = λ l. free-current states log 0 0 (free 0 l) (at_log 0 l);
    within = omega arith;
  };
  room = let z = none-taken states (λ s l. (s, free s (omega arith))) in omega arith;
}

pub owner-within : (states : List SlotState) (s : ℕ) → is_some (owner_in (slice_get states s)) ≡ true → s < length states
owner-within states s held = let u = is-taken (slice_get states s) held in slice_get_within states s (Taken u.0) u.1
