-- The words of a generator, one after another.
use Rattle.std.proofs.Common.{◌≡◌, ℕ, zero, suc, ◌+◌, ◌*◌, ◌%◌, List, [], ◌∷◌, ◌++◌, map, refl, sym, ap, ◌∙◌, arith}
use Rattle.std.specs.List.{range_with_len}
use Rattle.std.proofs.lemmas.List.FromFn.{map-range_with_len_more}
use Rattle.rand_pcg.specs.Lcg.{Lcg, next}
use Rattle.rand_pcg.specs.Pcg.{multiplier_64, pcg32}
use Rattle.rand_pcg.proofs.LcgLemmas.{advance_zero, advance_more}
use Rattle.arc_script.specs.declared.script.Op.{Op}
use Rattle.arc_storm.specs.Storm.{after, operation, operation_at, place_at, places}

next_after : (n : ℕ) (g : Lcg) → next 64 multiplier_64 (after n g) ≡ after (n + 1) g
next_after zero g = ap (next 64 multiplier_64) (advance_zero 64 multiplier_64 g) ∙ (sym (advance_zero 64 multiplier_64 (next 64 multiplier_64 g)) ∙ advance_more 64 multiplier_64 0 g)
next_after (suc n) g =
    let on : n + 1 ≡ suc n = omega arith in
    let more : suc n + 1 ≡ n + 1 + 1 = omega arith in
    ap (λ k. next 64 multiplier_64 (after k g)) (sym on) ∙ (ap (next 64 multiplier_64) (sym (advance_more 64 multiplier_64 n g))
    ∙ (next_after n (next 64 multiplier_64 g) ∙ (advance_more 64 multiplier_64 (n + 1) g ∙ ap (λ k. after k g) (sym more))))

-- no words leave the generator as it is
pub after_none : (g : Lcg) → after 0 g ≡ g
after_none g = advance_zero 64 multiplier_64 g

-- the generator behind one word more
pub after_word : (n m : ℕ) (g h : Lcg) → h ≡ after n g → n + 1 ≡ m → (pcg32 h).1 ≡ after m g
after_word n m g h at e = ap (next 64 multiplier_64) at ∙ (next_after n g ∙ ap (λ k. after k g) e)

-- ---- one draw more

pub place_more : (g h : Lcg) (i r : ℕ) (old new : List ℕ) → h ≡ after i g → r ≡ (pcg32 h).0 % 16 → old ≡ places g i → new ≡ old ++ (1 + r) ∷ [] → new ≡ places g (i + 1)
place_more g h i r old new at drawn before pushed =
    let r_is : r ≡ (pcg32 (after i g)).0 % 16 = drawn ∙ ap (λ (x : Lcg). (pcg32 x).0 % 16) at in
    pushed ∙ (ap (λ (xs : List ℕ). xs ++ (1 + r) ∷ []) before ∙ (ap (λ (n : ℕ). places g i ++ (1 + n) ∷ []) r_is ∙ sym (map-range_with_len_more (place_at g) 0 i i (omega arith))))

pub operation_more : (g h k : Lcg) (i a b : ℕ) (old new : List Op) → h ≡ after (2 * i) g → a ≡ (pcg32 h).0 % 14 → k ≡ (pcg32 h).1 → b ≡ (pcg32 k).0 % 3
    → old ≡ map (operation_at g) (range_with_len 0 i) → new ≡ old ++ operation a b ∷ [] → new ≡ map (operation_at g) (range_with_len 0 (i + 1))
operation_more g h k i a b old new at first on second before pushed =
    let a_is : a ≡ (pcg32 (after (2 * i) g)).0 % 14 = first ∙ ap (λ (x : Lcg). (pcg32 x).0 % 14) at in
    let k_is : k ≡ after (2 * i + 1) g = on ∙ after_word (2 * i) (2 * i + 1) g h at refl in
    let b_is : b ≡ (pcg32 (after (2 * i + 1) g)).0 % 3 = second ∙ ap (λ (x : Lcg). (pcg32 x).0 % 3) k_is in
    pushed ∙ (ap (λ (xs : List Op). xs ++ operation a b ∷ []) before
    ∙ (ap (λ (n : ℕ). map (operation_at g) (range_with_len 0 i) ++ operation n b ∷ []) a_is
    ∙ (ap (λ (n : ℕ). map (operation_at g) (range_with_len 0 i) ++ operation ((pcg32 (after (2 * i) g)).0 % 14) n ∷ []) b_is
    ∙ sym (map-range_with_len_more (operation_at g) 0 i i (omega arith)))))
