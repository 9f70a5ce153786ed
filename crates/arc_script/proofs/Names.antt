-- Sets of names.
use Rattle.std.proofs.Common.{◌≡◌, ℕ, zero, suc, ◌+◌, ◌<◌, ◌≤◌, Bool, true, false, cond, eqb, ltb, List, [], ◌∷◌, ◌++◌, length, get_or, Some, None, refl, sym, ap, subst, ◌∙◌, append_assoc, append-nil, arith, rules, tests, inl, inr}
use Rattle.std.specs.Prelude.{not, bytes_eq, position}
use Rattle.std.specs.List.{AllByRecursion, list_any, position_or_len}
use Rattle.std.proofs.lemmas.Bool.{cases_lt, ltb-true, ltb-false}
use Rattle.std.proofs.lemmas.List.{length_push, get_or_append_left, get_or_push}
use Rattle.std.proofs.lemmas.List.Folds.{position_or_len_push}
use Rattle.std.proofs.lemmas.List.Sums.{prefix_len-le-length}
use Rattle.arc_text.specs.Words.{is_name}
use Rattle.arc_script.specs.Valid.{name_at, place_of, AreNames}
use Rattle.arc_script.specs.Lookups.{is_among, repeats, has_repeat}
use Rattle.arc_script.proofs.Inverted.{neither, same_bytes}

-- ---- a look-up in a list with one element more

found_at : (b : Bool) (m n : ℕ) → cond b (Some m) None ≡ Some n → (b ≡ true) × (m ≡ n)
found_at true m n e = (refl, cc)
found_at false m n e = absurd cc

unknown : (b : Bool) (m : ℕ) → cond b (Some m) None ≡ None → b ≡ false
unknown true m e = absurd cc
unknown false m e = refl

known_then : {X : Type 0} (p : X → Bool) (xs : List X) (y : X) (i : ℕ) → position p xs ≡ Some i → position p (xs ++ y ∷ []) ≡ Some i
known_then p xs y i h =
    let f = found_at (ltb (position_or_len p xs) (length xs)) (position_or_len p xs) i h in
    let at_i : position_or_len p xs ≡ i = f.1 in
    let within : position_or_len p xs < length xs = ltb-true _ _ f.0 in
    let other : eqb (position_or_len p xs) (length xs) ≡ false = search (rules, tests) in
    let same : position_or_len p (xs ++ y ∷ []) ≡ position_or_len p xs = position_or_len_push p xs y ∙ rw other refl in
    let longer : ltb (position_or_len p xs) (length xs + 1) ≡ true = search (rules, tests) in
    let goal : cond (ltb (position_or_len p (xs ++ y ∷ [])) (length (xs ++ y ∷ []))) (Some (position_or_len p (xs ++ y ∷ []))) None ≡ Some i = rw (same, length_push xs y, longer) (ap (λ (n : ℕ). Some n) at_i) in
    goal

fresh_then : {X : Type 0} (p : X → Bool) (xs : List X) (y : X) → position p xs ≡ None → p y ≡ true → position p (xs ++ y ∷ []) ≡ Some (length xs)
fresh_then p xs y h t =
    let past : length xs ≤ position_or_len p xs = ltb-false _ _ (unknown (ltb (position_or_len p xs) (length xs)) (position_or_len p xs) h) in
    let least : position_or_len p xs ≤ length xs = prefix_len-le-length (λ x. not (p x)) xs in
    let end : eqb (position_or_len p xs) (length xs) ≡ true = search (rules, tests) in
    let same : position_or_len p (xs ++ y ∷ []) ≡ length xs = position_or_len_push p xs y ∙ rw (end, t) (omega arith) in
    let longer : ltb (length xs) (length xs + 1) ≡ true = search (rules, tests) in
    let goal : cond (ltb (position_or_len p (xs ++ y ∷ [])) (length (xs ++ y ∷ []))) (Some (position_or_len p (xs ++ y ∷ []))) None ≡ Some (length xs) = rw (same, length_push xs y, longer) refl in
    goal

-- ---- each name leads to its own place

abbrev pub AreSpelled : List (List ℕ) → Type 0
AreSpelled names = (i : ℕ) → i < length names → is_name (name_at names i) ≡ true

abbrev pub AreApart : List (List ℕ) → Type 0
AreApart names = (i : ℕ) → i < length names → place_of names (name_at names i) ≡ Some i

at_one_more : (cs : List (List ℕ)) (n : List ℕ) (P : List ℕ → ℕ → Type 0) → ((i : ℕ) → i < length cs → P (name_at cs i) i) → P n (length cs) → (i : ℕ) → i < length (cs ++ n ∷ []) → P (name_at (cs ++ n ∷ []) i) i
at_one_more cs n P below here i h =
    elim (cases_lt i (length cs)) [
      | inl lt ↦ subst (λ (x : List ℕ). P x i) (sym (get_or_append_left cs (n ∷ []) [] i lt)) (below i lt)
      | inr le ↦
          (let last : length cs ≡ i = omega (arith, length_push cs n) in
          subst (λ (x : List ℕ). P x i) (sym (get_or_push cs n [] i last)) (subst (P n) last here))
    ]

pub spelled_more : (cs : List (List ℕ)) (n : List ℕ) → AreSpelled cs → is_name n ≡ true → AreSpelled (cs ++ n ∷ [])
spelled_more cs n are name = at_one_more cs n (λ x i. is_name x ≡ true) are name

pub apart_more : (cs : List (List ℕ)) (n : List ℕ) → AreApart cs → place_of cs n ≡ None → AreApart (cs ++ n ∷ [])
apart_more cs n are fresh = at_one_more cs n (λ x i. place_of (cs ++ n ∷ []) x ≡ Some i) (λ i h. known_then (λ c. bytes_eq c (name_at cs i)) cs n i (are i h)) (fresh_then (λ c. bytes_eq c n) cs n fresh (same_bytes n))

-- one name more
pub names_more : (limit : ℕ) (cs : List (List ℕ)) (n : List ℕ) → AreNames limit cs → is_name n ≡ true → place_of cs n ≡ None → length cs < limit → AreNames limit (cs ++ n ∷ [])
names_more limit cs n are name fresh room = let len = length_push cs n in record { few = omega arith; spelled = spelled_more cs n are.spelled name; apart = apart_more cs n are.apart fresh }

pub no_names : (limit : ℕ) → AreNames limit []
no_names limit = record { few = omega arith; spelled = λ i h. absurd (omega arith); apart = λ i h. absurd (omega arith) }

-- ---- names without a repetition

none_len : {X : Type 0} (p : X → Bool) (xs : List X) → list_any p xs ≡ false → position_or_len p xs ≡ length xs
none_len p [] h = refl
none_len p (x ∷ xs) h = let n = neither (p x) (list_any p xs) h in rw n.0 (omega (arith, none_len p xs n.1))

pub not_among : (names : List (List ℕ)) (n : List ℕ) → is_among names n ≡ false → place_of names n ≡ None
not_among names n h =
    let at_end : position_or_len (λ m. bytes_eq m n) names ≡ length names = none_len (λ m. bytes_eq m n) names h in
    let no : ltb (position_or_len (λ m. bytes_eq m n) names) (length names) ≡ false = search (rules, tests) in
    ap (λ (b : Bool). cond b (Some (position_or_len (λ m. bytes_eq m n) names)) None) no

apart_all : (seen names : List (List ℕ)) → AreApart seen → repeats seen names ≡ false → AreApart (seen ++ names)
apart_all seen [] are h = subst AreApart (sym (append-nil seen)) are
apart_all seen (n ∷ ns) are h =
    let p = neither (is_among seen n) (repeats (seen ++ n ∷ []) ns) h in
    subst AreApart (append_assoc seen (n ∷ []) ns) (apart_all (seen ++ n ∷ []) ns (apart_more seen n are (not_among seen n p.0)) p.1)

pub apart_of : (names : List (List ℕ)) → has_repeat names ≡ false → AreApart names
apart_of names h = apart_all [] names (λ i lt. absurd (omega arith)) h

pub all_at : {X : Type 0} (P : X → Type 0) (xs : List X) (d : X) → AllByRecursion P xs → (i : ℕ) → i < length xs → P (get_or xs i d)
all_at P [] d h i lt = absurd (omega arith)
all_at P (x ∷ xs) d h zero lt = h.0
all_at P (x ∷ xs) d h (suc i) lt = all_at P xs d h.1 i (omega arith)
