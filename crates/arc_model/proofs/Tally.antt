-- How often a holder stands in a list, through each change of the list.
use Rattle.std.proofs.Common.{◌≡◌, ℕ, zero, suc, ◌≤◌, Bool, true, false, cond, eqb, List, [], ◌∷◌, ◌++◌, refl, sym, ap, ◌∙◌, arith}
use Rattle.std.specs.Prelude.{◌&&◌, ◌||◌}
use Rattle.std.proofs.lemmas.Bool.{and_parts, eqb-true, eq-eqb}
use Rattle.arc_model.specs.declared.event.ObjectId.{ObjectId}
use Rattle.arc_model.proofs.Basics.{true≢false}
use Rattle.arc_model.specs.Heaps.{Holder, Hand, Field, Global, Strongs, Unowneds, Forever}
use Rattle.arc_model.specs.Holders.{same_holder, same_id, is_in, is_alone, gains, renamed, without}
use Rattle.arc_model.specs.WellFormed.{more, tally}

pub no : {A : Type 0} → false ≡ true → A
no e = absurd (true≢false (sym e))

pub clash : {A : Type 0} (b : Bool) → b ≡ true → b ≡ false → A
clash b t f = absurd (true≢false (sym t ∙ f))

pub both : (a b : Bool) → a ≡ true → b ≡ true → (a && b) ≡ true
both true b e f = f
both false b e f = e

pub same-id : (a b : ObjectId) → same_id a b ≡ true → a ≡ b
same-id a b h =
    let e = and_parts (eqb a.thread b.thread) (eqb a.number b.number) h in
    ap (λ t. record { thread = t; number = a.number }) (eqb-true a.thread b.thread e.0) ∙ ap (λ n. record { thread = b.thread; number = n }) (eqb-true a.number b.number e.1)

pub id-refl : (a : ObjectId) → same_id a a ≡ true
id-refl a = both (eqb a.thread a.thread) (eqb a.number a.number) (eq-eqb a.thread a.thread refl) (eq-eqb a.number a.number refl)

pub same-eq : (x z : Holder) → same_holder x z ≡ true → x ≡ z
same-eq (Hand p k) (Hand q n) h = let e = and_parts (eqb p q) (eqb k n) h in ap (λ r. Hand r k) (eqb-true p q e.0) ∙ ap (Hand q) (eqb-true k n e.1)
same-eq (Field o f) (Field q g) h = let e = and_parts (same_id o q) (eqb f g) h in ap (λ r. Field r f) (same-id o q e.0) ∙ ap (Field q) (eqb-true f g e.1)
same-eq (Global g) (Global n) h = ap Global (eqb-true g n h)
same-eq Strongs Strongs h = refl
same-eq Unowneds Unowneds h = refl
same-eq Forever Forever h = refl
same-eq _ _ h = no h

pub same-refl : (x : Holder) → same_holder x x ≡ true
same-refl (Hand p k) = both (eqb p p) (eqb k k) (eq-eqb p p refl) (eq-eqb k k refl)
same-refl (Field o f) = both (same_id o o) (eqb f f) (id-refl o) (eq-eqb f f refl)
same-refl (Global g) = eq-eqb g g refl
same-refl Strongs = refl
same-refl Unowneds = refl
same-refl Forever = refl

pub more-swap : (a b : Bool) (n : ℕ) → more a (more b n) ≡ more b (more a n)
more-swap true true n = refl
more-swap true false n = refl
more-swap false true n = refl
more-swap false false n = refl

-- in the list: at least once
abbrev pub is_pos : ℕ → Bool
is_pos zero = false
is_pos (suc n) = true

pub is_in-tally : (z : Holder) (xs : List Holder) → is_in z xs ≡ is_pos (tally z xs)
is_in-tally z [] = refl
is_in-tally z (x ∷ xs) = go (same_holder z x) (is_in-tally z xs)
  where
    go : (b : Bool) → is_in z xs ≡ is_pos (tally z xs) → (b || is_in z xs) ≡ is_pos (more b (tally z xs))
    go true ih = refl
    go false ih = ih

pub pos-le : (n : ℕ) → is_pos n ≡ true → 1 ≤ n
pos-le zero h = no h
pos-le (suc n) h = omega arith

pub pos-zero : (n : ℕ) → is_pos n ≡ false → n ≡ 0
pos-zero zero h = refl
pos-zero (suc n) h = absurd (true≢false h)

pub le-pos : (n : ℕ) → 1 ≤ n → is_pos n ≡ true
le-pos zero h = absurd (omega arith)
le-pos (suc n) h = refl

pub in-tally : (z : Holder) (xs : List Holder) → is_in z xs ≡ true → 1 ≤ tally z xs
in-tally z xs h = pos-le (tally z xs) (sym (is_in-tally z xs) ∙ h)

pub tally-in : (z : Holder) (xs : List Holder) → 1 ≤ tally z xs → is_in z xs ≡ true
tally-in z xs h = is_in-tally z xs ∙ le-pos (tally z xs) h

pub out-tally : (z : Holder) (xs : List Holder) → is_in z xs ≡ false → tally z xs ≡ 0
out-tally z xs h = pos-zero (tally z xs) (sym (is_in-tally z xs) ∙ h)

pub tally-out : (z : Holder) (xs : List Holder) → tally z xs ≡ 0 → is_in z xs ≡ false
tally-out z xs h = is_in-tally z xs ∙ ap is_pos h

pub tally-push : (z y : Holder) (xs : List Holder) → tally z (xs ++ y ∷ []) ≡ more (same_holder z y) (tally z xs)
tally-push z y [] = refl
tally-push z y (x ∷ xs) = ap (more (same_holder z x)) (tally-push z y xs) ∙ more-swap (same_holder z x) (same_holder z y) (tally z xs)

pub tally-without : (z x : Holder) (xs : List Holder) → 1 ≤ tally x xs → more (same_holder z x) (tally z (without x xs)) ≡ tally z xs
tally-without z x [] h = absurd (omega arith)
tally-without z x (w ∷ ws) h = go (same_holder x w) refl h (tally-without z x ws)
  where
    go : (b : Bool) → same_holder x w ≡ b → 1 ≤ more b (tally x ws) → (1 ≤ tally x ws → more (same_holder z x) (tally z (without x ws)) ≡ tally z ws) → more (same_holder z x) (tally z (cond b ws (w ∷ without x ws))) ≡ more (same_holder z w) (tally z ws)
    go true e h ih = ap (λ v. more (same_holder z v) (tally z ws)) (same-eq x w e)
    go false e h ih = more-swap (same_holder z x) (same_holder z w) (tally z (without x ws)) ∙ ap (more (same_holder z w)) (ih h)

pub tally-renamed : (z x y : Holder) (xs : List Holder) → 1 ≤ tally x xs → more (same_holder z x) (tally z (renamed x y xs)) ≡ more (same_holder z y) (tally z xs)
tally-renamed z x y [] h = absurd (omega arith)
tally-renamed z x y (w ∷ ws) h = go (same_holder x w) refl h (tally-renamed z x y ws)
  where
    go : (b : Bool) → same_holder x w ≡ b → 1 ≤ more b (tally x ws) → (1 ≤ tally x ws → more (same_holder z x) (tally z (renamed x y ws)) ≡ more (same_holder z y) (tally z ws)) → more (same_holder z x) (tally z (cond b (y ∷ ws) (w ∷ renamed x y ws))) ≡ more (same_holder z y) (more (same_holder z w) (tally z ws))
    go true e h ih = more-swap (same_holder z x) (same_holder z y) (tally z ws) ∙ ap (λ v. more (same_holder z y) (more (same_holder z v) (tally z ws))) (same-eq x w e)
    go false e h ih = more-swap (same_holder z x) (same_holder z w) (tally z (renamed x y ws)) ∙ ap (more (same_holder z w)) (ih h) ∙ more-swap (same_holder z w) (same_holder z y) (tally z ws)

-- what is not in a list is not renamed, and nothing joins beside it
pub renamed-absent : (x y : Holder) (xs : List Holder) → is_in x xs ≡ false → renamed x y xs ≡ xs
renamed-absent x y [] h = refl
renamed-absent x y (w ∷ ws) h = go (same_holder x w) h (renamed-absent x y ws)
  where
    go : (b : Bool) → (b || is_in x ws) ≡ false → (is_in x ws ≡ false → renamed x y ws ≡ ws) → cond b (y ∷ ws) (w ∷ renamed x y ws) ≡ w ∷ ws
    go true h ih = absurd (true≢false h)
    go false h ih = ap (λ vs. w ∷ vs) (ih h)

pub gains-present : (x y : Holder) (xs : List Holder) → is_in x xs ≡ true → gains x y xs ≡ xs ++ y ∷ []
gains-present x y xs h = ap (λ b. cond b (xs ++ y ∷ []) xs) h

pub gains-absent : (x y : Holder) (xs : List Holder) → is_in x xs ≡ false → gains x y xs ≡ xs
gains-absent x y xs h = ap (λ b. cond b (xs ++ y ∷ []) xs) h

-- two different holders are not in a list of one
pub alone-two : (x z : Holder) (xs : List Holder) → is_alone xs ≡ true → 1 ≤ tally x xs → 1 ≤ tally z xs → same_holder x z ≡ true
alone-two x z [] alone h k = no alone
alone-two x z (w ∷ []) alone h k = go (same_holder x w) (same_holder z w) refl refl h k
  where
    go : (a b : Bool) → same_holder x w ≡ a → same_holder z w ≡ b → 1 ≤ more a zero → 1 ≤ more b zero → same_holder x z ≡ true
    go true true e f h k = ap (same_holder x) (same-eq z w f) ∙ e
    go true false e f h k = absurd (omega arith)
    go false b e f h k = absurd (omega arith)
alone-two x z (w ∷ v ∷ vs) alone h k = no alone
