-- A set of the names that came before.
use Rattle.std.proofs.Common.{◌≡◌, ℕ, suc, ◌+◌, ◌<◌, Bool, true, false, cond, ltb, ◌||◌, List, [], ◌∷◌, ◌++◌, length, Bor, Some, None, refl, sym, ap, ◌∙◌, rules, tests}
use Rattle.std.specs.Prelude.{not, bytes_eq, is_some}
use Rattle.std.specs.List.{list_any, position_or_len}
use Rattle.std.specs.HashSet.{HashSet, PutsKey, contains}
use Rattle.std.proofs.lemmas.Slice.Eq.{bytes_eq-Decides}
use Rattle.std.proofs.lemmas.List.Folds.{list_any-append}
use Rattle.std.proofs.lemmas.List.Sorted.{list_any-IsPermutation}
use Rattle.arc_script.specs.Valid.{place_of}
use Rattle.arc_script.specs.Lookups.{is_among, repeats}
use Rattle.arc_script_reader.specs.NameSets.{holds}

abbrev same_bytes : Bor (List ℕ) → Bor (List ℕ) → Bool
same_bytes k l = bytes_eq k.now l.now

absorbed : (t b : Bool) → (t ≡ true → b ≡ true) → b ≡ (t || b)
absorbed true b f = f refl
absorbed false b f = refl

held : (b : Bool) → false ≡ not b → b ≡ true
held true e = refl
held false e = absurd cc

pub puts : {S : Type 0} (s n : HashSet (Bor (List ℕ)) S) (k : Bor (List ℕ)) (added : Bool) → added ≡ not (contains same_bytes s k) → PutsKey s n k added
    → (q : List ℕ) → holds n q ≡ (bytes_eq q k.now || holds s q)
puts s n k true e p q = sym (list_any-IsPermutation (λ (x : Bor (List ℕ)). bytes_eq q x.now) (k ∷ s.keys) n.keys p)
puts s n k false e p q =
    ap (λ (ks : List (Bor (List ℕ))). list_any (λ (x : Bor (List ℕ)). bytes_eq q x.now) ks) p
    ∙ absorbed (bytes_eq q k.now) (holds s q) (λ t. ap (λ (w : List ℕ). holds s w) ((bytes_eq-Decides q k.now).0 t) ∙ held (holds s k.now) e)

by_cases : (x y : Bool) → (x ≡ true → y ≡ true) → (y ≡ true → x ≡ true) → x ≡ y
by_cases true y f g = sym (f refl)
by_cases false true f g = g refl
by_cases false false f g = refl

swapped : (a b : List ℕ) → bytes_eq a b ≡ bytes_eq b a
swapped a b = by_cases (bytes_eq a b) (bytes_eq b a) (λ t. (bytes_eq-Decides b a).1 (sym ((bytes_eq-Decides a b).0 t))) (λ t. (bytes_eq-Decides a b).1 (sym ((bytes_eq-Decides b a).0 t)))

turned : (a b : Bool) → (a || b) ≡ (b || (a || false))
turned true true = refl
turned true false = refl
turned false true = refl
turned false false = refl

-- one name more came before
pub known_more : (q name : List ℕ) (before : List (List ℕ)) (new old : Bool) → old ≡ is_among before q → new ≡ (bytes_eq q name || old) → new ≡ is_among (before ++ name ∷ []) q
known_more q name before new old e f =
    f ∙ (ap (λ (b : Bool). bytes_eq q name || b) e
    ∙ (turned (bytes_eq q name) (is_among before q)
    ∙ (ap (λ (b : Bool). is_among before q || (b || false)) (swapped q name)
    ∙ sym (list_any-append (λ (n : List ℕ). bytes_eq n q) before (name ∷ [])))))

either : (a b : Bool) → a ≡ true → (a || b) ≡ true
either true b h = refl
either false b h = absurd cc

neither : (a b : Bool) → a ≡ false → (a || b) ≡ b
neither true b h = absurd cc
neither false b h = refl

-- the next name came before, or it didn't
pub repeated : (before later : List (List ℕ)) (name : List ℕ) → is_among before name ≡ true → repeats before (name ∷ later) ≡ true
repeated before later name h = either (is_among before name) (repeats (before ++ name ∷ []) later) h

pub not_repeated : (before later : List (List ℕ)) (name : List ℕ) → is_among before name ≡ false → repeats (before ++ name ∷ []) later ≡ repeats before (name ∷ later)
not_repeated before later name h = sym (neither (is_among before name) (repeats (before ++ name ∷ []) later) h)

-- a name has a place where it is among the names
some_of : (n : ℕ) (b : Bool) → is_some (cond b (Some n) None) ≡ b
some_of n true = refl
some_of n false = refl

shifted : (k n : ℕ) → ltb (1 + k) (suc n) ≡ ltb k n
shifted k n = by_cases (ltb (1 + k) (suc n)) (ltb k n) (λ t. search (rules, tests)) (λ t. search (rules, tests))

step : (t : Bool) (k n : ℕ) (b : Bool) → ltb k n ≡ b → ltb (cond (not t) (1 + k) 0) (suc n) ≡ (t || b)
step true k n b h = search (rules, tests)
step false k n b h = shifted k n ∙ h

reached : (names : List (List ℕ)) (q : List ℕ) → ltb (position_or_len (λ n. bytes_eq n q) names) (length names) ≡ is_among names q
reached [] q = refl
reached (n ∷ names) q = step (bytes_eq n q) (position_or_len (λ n. bytes_eq n q) names) (length names) (is_among names q) (reached names q)

pub placed : (names : List (List ℕ)) (q : List ℕ) → is_some (place_of names q) ≡ is_among names q
placed names q = some_of (position_or_len (λ n. bytes_eq n q) names) (ltb (position_or_len (λ n. bytes_eq n q) names) (length names)) ∙ reached names q
