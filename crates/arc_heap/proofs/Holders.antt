-- How many hands of a thread are in a list, and how long it is, through each change.
use Rattle.std.proofs.Common.{◌≡◌, ℕ, suc, ◌+◌, ◌<◌, ◌≤◌, Bool, true, false, cond, List, [], ◌∷◌, ◌++◌, length, refl, sym, ap, ◌∙◌, arith}
use Rattle.std.specs.Prelude.{◌||◌}
use Rattle.std.proofs.lemmas.List.Sums.{sum_by-cons}
use Rattle.std.proofs.lemmas.Bool.{lt-ltb}
use Rattle.arc_model.specs.Heaps.{Holder}
use Rattle.arc_model.specs.Holders.{same_holder, is_hand_of, is_in, without, renamed}
use Rattle.arc_model.proofs.Tally.{same-eq}
use Rattle.arc_heap_index.specs.Counting.{raised}
use Rattle.arc_heap_judge.specs.Stands.{hands_of}
use Rattle.arc_heap_judge.proofs.Told.{true≢false}

pub hands-cons : (p : ℕ) (x : Holder) (xs : List Holder) → hands_of p (x ∷ xs) ≡ cond (is_hand_of p x) 1 0 + hands_of p xs
hands-cons p x xs = sum_by-cons (λ y. cond (is_hand_of p y) 1 0) x xs

pub count-push : (p : ℕ) (y : Holder) (xs : List Holder) → hands_of p (xs ++ y ∷ []) ≡ hands_of p xs + cond (is_hand_of p y) 1 0
count-push p y [] = hands-cons p y [] ∙ (let z : cond (is_hand_of p y) 1 0 + 0 ≡ 0 + cond (is_hand_of p y) 1 0 = omega arith in z)
count-push p y (x ∷ xs) = let a = hands-cons p x (xs ++ y ∷ []) in let b = count-push p y xs in let c = hands-cons p x xs in omega arith

pub hands-without : (p : ℕ) (x : Holder) (xs : List Holder) → is_in x xs ≡ true → hands_of p (without x xs) + cond (is_hand_of p x) 1 0 ≡ hands_of p xs
hands-without p x [] h = true≢false (sym h)
hands-without p x (z ∷ zs) h = go (same_holder x z) refl h (hands-without p x zs) (hands-cons p z zs) (hands-cons p z (without x zs))
  where
    go : (b : Bool) → same_holder x z ≡ b → (b || is_in x zs) ≡ true → (is_in x zs ≡ true → hands_of p (without x zs) + cond (is_hand_of p x) 1 0 ≡ hands_of p zs) → hands_of p (z ∷ zs) ≡ cond (is_hand_of p z) 1 0 + hands_of p zs → hands_of p (z ∷ without x zs) ≡ cond (is_hand_of p z) 1 0 + hands_of p (without x zs) → hands_of p (cond b zs (z ∷ without x zs)) + cond (is_hand_of p x) 1 0 ≡ hands_of p (z ∷ zs)
    go true e r ih a b =
        let same : cond {A = ℕ} (is_hand_of p x) 1 0 ≡ cond {A = ℕ} (is_hand_of p z) 1 0 = ap (λ (y : Holder). cond {A = ℕ} (is_hand_of p y) 1 0) (same-eq x z e) in
        let goal : hands_of p zs + cond {A = ℕ} (is_hand_of p x) 1 0 ≡ hands_of p (z ∷ zs) = omega arith in goal
    go false e r ih a b = let n = ih r in omega arith

pub hands-renamed : (p : ℕ) (x y : Holder) (xs : List Holder) → is_in x xs ≡ true → hands_of p (renamed x y xs) + cond (is_hand_of p x) 1 0 ≡ hands_of p xs + cond (is_hand_of p y) 1 0
hands-renamed p x y [] h = true≢false (sym h)
hands-renamed p x y (z ∷ zs) h = go (same_holder x z) refl h (hands-renamed p x y zs) (hands-cons p z zs) (hands-cons p z (renamed x y zs)) (hands-cons p y zs)
  where
    go : (b : Bool) → same_holder x z ≡ b → (b || is_in x zs) ≡ true → (is_in x zs ≡ true → hands_of p (renamed x y zs) + cond (is_hand_of p x) 1 0 ≡ hands_of p zs + cond (is_hand_of p y) 1 0) → hands_of p (z ∷ zs) ≡ cond (is_hand_of p z) 1 0 + hands_of p zs → hands_of p (z ∷ renamed x y zs) ≡ cond (is_hand_of p z) 1 0 + hands_of p (renamed x y zs) → hands_of p (y ∷ zs) ≡ cond (is_hand_of p y) 1 0 + hands_of p zs → hands_of p (cond b (y ∷ zs) (z ∷ renamed x y zs)) + cond (is_hand_of p x) 1 0 ≡ hands_of p (z ∷ zs) + cond (is_hand_of p y) 1 0
    go true e r ih a b c =
        let same : cond {A = ℕ} (is_hand_of p x) 1 0 ≡ cond {A = ℕ} (is_hand_of p z) 1 0 = ap (λ (w : Holder). cond {A = ℕ} (is_hand_of p w) 1 0) (same-eq x z e) in
        let goal : hands_of p (y ∷ zs) + cond {A = ℕ} (is_hand_of p x) 1 0 ≡ hands_of p (z ∷ zs) + cond {A = ℕ} (is_hand_of p y) 1 0 = omega arith in goal
    go false e r ih a b c = let n = ih r in omega arith

at_most_one : (b : Bool) → cond b 1 0 ≤ 1
at_most_one true = omega arith
at_most_one false = omega arith

pub hands-length : (p : ℕ) (xs : List Holder) → hands_of p xs ≤ length xs
hands-length p [] = omega arith
hands-length p (x ∷ xs) = let a = hands-cons p x xs in let b = hands-length p xs in let c = at_most_one (is_hand_of p x) in omega arith

pub length-without : (x : Holder) (xs : List Holder) → is_in x xs ≡ true → length (without x xs) + 1 ≡ length xs
length-without x [] h = true≢false (sym h)
length-without x (z ∷ zs) h = go (same_holder x z) h (length-without x zs)
  where
    go : (b : Bool) → (b || is_in x zs) ≡ true → (is_in x zs ≡ true → length (without x zs) + 1 ≡ length zs) → length (cond b zs (z ∷ without x zs)) + 1 ≡ length (z ∷ zs)
    go true r ih = omega arith
    go false r ih = let n = ih r in omega arith

pub length-renamed : (x y : Holder) (xs : List Holder) → length (renamed x y xs) ≡ length xs
length-renamed x y [] = refl
length-renamed x y (z ∷ zs) = go (same_holder x z) (length-renamed x y zs)
  where
    go : (b : Bool) → length (renamed x y zs) ≡ length zs → length (cond b (y ∷ zs) (z ∷ renamed x y zs)) ≡ length (z ∷ zs)
    go true ih = refl
    go false ih = ap suc ih

pub raised-up : (greatest n : ℕ) → n < greatest → raised greatest n ≡ n + 1
raised-up greatest n h = ap (λ b. cond b (n + 1) n) (lt-ltb n greatest h)
