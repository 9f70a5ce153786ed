-- Who has a slot or an entry, after it was taken, changed or freed; and who has claimed an entry.
use Rattle.std.proofs.Common.{◌≡◌, ℕ, zero, suc, ◌+◌, ◌<◌, Bool, true, false, cond, eqb, not, List, [], ◌∷◌, ◌++◌, length, Option, Some, None, inl, inr, refl, sym, ap, ◌∙◌, arith}
use Rattle.std.specs.Prelude.{slice_get, filter, is_some}
use Rattle.std.specs.Option.{option_map}
use Rattle.std.proofs.lemmas.Bool.{cases_eq, ne_eqb, eqb-true}
use Rattle.std.proofs.lemmas.Option.{slice_get_within}
use Rattle.arc_model.specs.Heaps.{Claimed}
use Rattle.arc_model.specs.Holders.{claims_it}
use Rattle.arc_heap_index.specs.declared.slots.Owner.{Owner}
use Rattle.arc_heap_index.specs.declared.slots.SlotState.{SlotState}
use Rattle.arc_heap_index.specs.declared.slots.SlotState.TheVariants.{Taken, Free}
use Rattle.arc_heap_index.specs.Counting.{placed}
use Rattle.arc_heap_index.specs.Freeing.{Freed, owner_in, owner_at, taken, changed, freed}
use Rattle.arc_heap_judge.specs.Stands.{claimants}
use Rattle.arc_heap_index.proofs.Places.{slice_get-at_place-same, slice_get-at_place-other, length-at_place}
use Rattle.arc_heap_judge.proofs.Told.{true≢false}
use Rattle.arc_heap.proofs.Standing.{SlotStep, SlotSteps}

state-within : (states : List SlotState) (s : ℕ) → s < length states → (st : SlotState) × (slice_get states s ≡ Some st)
state-within [] s h = absurd (omega arith)
state-within (x ∷ xs) zero h = (x, refl)
state-within (x ∷ xs) (suc s) h = state-within xs s (omega arith)

state-placed : (states : List SlotState) (s : ℕ) (st : SlotState) → s < length states → slice_get (placed s st states) s ≡ Some st
state-placed states s st h = let x = state-within states s h in slice_get-at_place-same s (λ _. st) states ∙ ap (option_map (λ _. st)) x.1

pub owner-state : (all : Freed) (s : ℕ) (x : Owner) → owner_at s all ≡ Some x → slice_get all.states s ≡ Some (Taken x)
owner-state all s x h = go (slice_get all.states s) h
  where
    go : (st : Option SlotState) → owner_in st ≡ Some x → st ≡ Some (Taken x)
    go None e = absurd (cc)
    go (Some (Taken y)) e = cc
    go (Some (Free j)) e = absurd (cc)

pub owner-within : (all : Freed) (s : ℕ) (x : Owner) → owner_at s all ≡ Some x → s < length all.states
owner-within all s x h = slice_get_within all.states s (Taken x) (owner-state all s x h)

-- taken
pub taken-here : (all : Freed) (s : ℕ) (x : Owner) → s < length all.states → owner_at s (taken s x all) ≡ Some x
taken-here all s x h = ap owner_in (state-placed all.states s (Taken x) h)

pub taken-other : (all : Freed) (s u : ℕ) (x : Owner) → (s ≡ u → ⊥) → owner_at u (taken s x all) ≡ owner_at u all
taken-other all s u x ne = ap owner_in (slice_get-at_place-other s u (λ _. Taken x) all.states ne)

pub taken-steps : (all : Freed) (s : ℕ) (x : Owner) → SlotSteps all (taken s x all)
taken-steps all s x = record {
  count = length-at_place s (λ _. Taken x) all.states;
  slot = λ u. elim (cases_eq s u) [
    | inl same ↦ rw (← same) (go (slice_get all.states s) refl)
    | inr ne ↦ inl (slice_get-at_place-other s u (λ _. Taken x) all.states ne)
  ];
  frees = omega arith;
}
  where
    go : (st : Option SlotState) → slice_get all.states s ≡ st → SlotStep all (taken s x all) s
    go None e = inl (slice_get-at_place-same s (λ _. Taken x) all.states ∙ ap (option_map (λ _. Taken x)) e ∙ sym e)
    go (Some st) e = inr (inl (x, slice_get-at_place-same s (λ _. Taken x) all.states ∙ ap (option_map (λ _. Taken x)) e))

-- changed
pub changed-is : (all : Freed) (s : ℕ) (x y : Owner) → owner_at s all ≡ Some y → changed s x all ≡ taken s x all
changed-is all s x y h = ap (λ o. Rattle.arc_heap_index.specs.Freeing.changed_by o s x all) h

-- freed
pub freed-is : (all : Freed) (s : ℕ) (y : Owner) → owner_at s all ≡ Some y → freed s all ≡ record { states = placed s (Free all.frees) all.states; frees = all.frees + 1 }
freed-is all s y h = ap (λ o. Rattle.arc_heap_index.specs.Freeing.freed_by o s all) h

pub freed-here : (all : Freed) (s : ℕ) (y : Owner) → owner_at s all ≡ Some y → owner_at s (freed s all) ≡ None
freed-here all s y h = ap (owner_at s) (freed-is all s y h) ∙ ap owner_in (state-placed all.states s (Free all.frees) (owner-within all s y h))

pub freed-other : (all : Freed) (s u : ℕ) (y : Owner) → owner_at s all ≡ Some y → (s ≡ u → ⊥) → owner_at u (freed s all) ≡ owner_at u all
freed-other all s u y h ne = ap (owner_at u) (freed-is all s y h) ∙ ap owner_in (slice_get-at_place-other s u (λ _. Free all.frees) all.states ne)

pub freed-steps : (all : Freed) (s : ℕ) (y : Owner) → owner_at s all ≡ Some y → SlotSteps all (freed s all)
freed-steps all s y h = rw (freed-is all s y h) (record {
  count = length-at_place s (λ _. Free all.frees) all.states;
  slot = λ u. elim (cases_eq s u) [
    | inl same ↦ rw (← same) (inr (inr (y, owner-state all s y h, state-placed all.states s (Free all.frees) (owner-within all s y h), omega arith)))
    | inr ne ↦ inl (slice_get-at_place-other s u (λ _. Free all.frees) all.states ne)
  ];
  frees = omega arith;
})

-- claims
pub claimants-end : (u p e : ℕ) (cs : List Claimed) → claimants u (cs ++ record { thread = p; entry = e } ∷ []) ≡ claimants u cs ++ cond (eqb e u) (p ∷ []) []
claimants-end u p e [] = go (eqb e u)
  where
    go : (b : Bool) → cond b (p ∷ []) [] ≡ [] ++ cond b (p ∷ []) []
    go true = refl
    go false = refl
claimants-end u p e (c ∷ cs) = go (claims_it u c) (claimants-end u p e cs)
  where
    go : (b : Bool) → claimants u (cs ++ record { thread = p; entry = e } ∷ []) ≡ claimants u cs ++ cond (eqb e u) (p ∷ []) [] → cond b (c.thread ∷ claimants u (cs ++ record { thread = p; entry = e } ∷ [])) (claimants u (cs ++ record { thread = p; entry = e } ∷ [])) ≡ cond b (c.thread ∷ claimants u cs) (claimants u cs) ++ cond (eqb e u) (p ∷ []) []
    go true h = ap (λ qs. c.thread ∷ qs) h
    go false h = h

filter-cons : (f : Claimed → Bool) (c : Claimed) (cs : List Claimed) → filter f (c ∷ cs) ≡ cond (f c) (c ∷ filter f cs) (filter f cs)
filter-cons f c cs = refl

pub claimants-gone : (e : ℕ) (cs : List Claimed) → claimants e (filter (λ c. not (claims_it e c)) cs) ≡ []
claimants-gone e [] = refl
claimants-gone e (c ∷ cs) = go (claims_it e c) refl (claimants-gone e cs)
  where
    go : (b : Bool) → claims_it e c ≡ b → claimants e (filter (λ c. not (claims_it e c)) cs) ≡ [] → claimants e (cond (not b) (c ∷ filter (λ c. not (claims_it e c)) cs) (filter (λ c. not (claims_it e c)) cs)) ≡ []
    go true f h = h
    go false f h = rw f h

pub claimants-kept : (e u : ℕ) (cs : List Claimed) → (e ≡ u → ⊥) → claimants u (filter (λ c. not (claims_it e c)) cs) ≡ claimants u cs
claimants-kept e u [] ne = refl
claimants-kept e u (c ∷ cs) ne = go (claims_it e c) refl (claimants-kept e u cs ne)
  where
    go : (b : Bool) → claims_it e c ≡ b → claimants u (filter (λ c. not (claims_it e c)) cs) ≡ claimants u cs → claimants u (cond (not b) (c ∷ filter (λ c. not (claims_it e c)) cs) (filter (λ c. not (claims_it e c)) cs)) ≡ cond (claims_it u c) (c.thread ∷ claimants u cs) (claimants u cs)
    go true f h = h ∙ ap (λ b. cond b (c.thread ∷ claimants u cs) (claimants u cs)) (sym (ne_eqb c.entry u (λ g. ne (sym (eqb-true c.entry e f) ∙ g))))
    go false f h = ap (λ qs. cond (claims_it u c) (c.thread ∷ qs) qs) h

pub none-owner : {X : Type 0} (o : Option X) → is_some o ≡ false → o ≡ None
none-owner None h = refl
none-owner (Some x) h = true≢false h
