-- What a word or a test says that a line passed.
use Rattle.std.proofs.Common.{◌≡◌, ℕ, suc, ◌+◌, ◌^◌, ◌<◌, ◌≤◌, Bool, true, false, cond, eqb, leb, ltb, ◌&&◌, ◌||◌, List, [], ◌∷◌, ◌++◌, length, get_or, take, drop, Option, Some, None, Result, Ok, refl, sym, ap, subst, ◌∙◌, arith, rules, tests, count_by}
use Rattle.std.specs.Prelude.{not, bytes_eq, codes, is_some}
use Rattle.std.specs.List.{list_all, before_first, after_first, position_or_len}
use Rattle.std.specs.Char.{is_ascii_digit}
use Rattle.std.specs.Fmt.{decimal}
use Rattle.std.specs.Str.Parse.{digits_value}
use Rattle.std.proofs.lemmas.Bool.{eqb-true, ltb-true}
use Rattle.std.proofs.lemmas.Slice.Eq.{bytes_eq-Decides}
use Rattle.std.proofs.lemmas.Fmt.{decimal-digits_value}
use Rattle.std.proofs.lemmas.List.Sums.{sum_by-cons}
use Rattle.arc_text.specs.Words.{is_numeral, number_in}
use Rattle.arc_text.specs.Chain.{refuse, need}
use Rattle.arc_text.proofs.Numbers.{own}
use Rattle.arc_model.specs.declared.shape.Kind.{Kind}
use Rattle.arc_model.specs.declared.shape.Kind.TheVariants as kind
use Rattle.arc_script.specs.declared.keyword.PairWord.TheVariants as pair
use Rattle.arc_script.specs.declared.keyword.BlockWord.TheVariants as block
use Rattle.arc_script.specs.declared.keyword.Keyword.{Keyword}
use Rattle.arc_script.specs.declared.keyword.Keyword.TheVariants as word
use Rattle.arc_script.specs.declared.keyword.Place.{Place}
use Rattle.arc_script.specs.Keywords.{keyword_of, is_later, comes, stands}
use Rattle.arc_script.specs.Valid.{name_at, place_of}
use Rattle.arc_script.specs.Lookups.{kind_of, same_kind}
use Rattle.arc_script.specs.Canonical.{kind_word}

-- ---- what a line passed

pub passed : {X R : Type 0} (b : Bool) (why : R) (rest : Result X R) (y : X) → refuse b why rest ≡ Ok y → (b ≡ false) × (rest ≡ Ok y)
passed true why rest y e = absurd cc
passed false why rest y e = (refl, e)

pub found : {A X R : Type 0} (o : Option A) (why : R) (f : A → Result X R) (y : X) → need o why f ≡ Ok y → (x : A) × (o ≡ Some x) × (f x ≡ Ok y)
found None why f y e = absurd cc
found (Some x) why f y e = (x, refl, e)

pub ok_is : {X R : Type 0} (x y : X) → (let r : Result X R = Ok x in r) ≡ Ok y → y ≡ x
ok_is x y e = cc

pub no_not : (b : Bool) → not b ≡ false → b ≡ true
no_not true h = refl
no_not false h = absurd cc

pub neither_not : (a b : Bool) → (not a || not b) ≡ false → (a ≡ true) × (b ≡ true)
neither_not true true h = (refl, refl)
neither_not true false h = absurd cc
neither_not false b h = absurd cc

pub neither : (a b : Bool) → (a || b) ≡ false → (a ≡ false) × (b ≡ false)
neither true b h = absurd cc
neither false b h = (refl, h)

pub both : (a b : Bool) → (a && b) ≡ true → (a ≡ true) × (b ≡ true)
both true b h = (refl, h)
both false b h = absurd cc

pub none_of : {X : Type 0} (o : Option X) → is_some o ≡ false → o ≡ None
none_of None h = refl
none_of (Some x) h = absurd cc

pub some_of : {X : Type 0} (o : Option X) → not (is_some o) ≡ false → (x : X) × (o ≡ Some x)
some_of None h = absurd cc
some_of (Some x) h = (x, refl)

-- ---- words

pub same_text : (w t : List ℕ) → bytes_eq w t ≡ true → w ≡ t
same_text w t h = (bytes_eq-Decides w t).0 h

pub same_bytes : (w : List ℕ) → bytes_eq w w ≡ true
same_bytes w = (bytes_eq-Decides w w).1 refl

chosen : (b : Bool) (n m : ℕ) → cond b (Some n) None ≡ Some m → (b ≡ true) × (n ≡ m)
chosen true n m e = (refl, cc)
chosen false n m e = absurd cc

numeral_is : (w : List ℕ) → is_numeral w ≡ true → (list_all is_ascii_digit w ≡ true) × (0 < length w) × (get_or w 0 0 ≡ 48 → length w ≡ 1)
numeral_is [] h = absurd cc
numeral_is (d ∷ []) h = (search (rules, tests), omega arith, λ _. refl)
numeral_is (d ∷ e ∷ ds) h =
    let p = both (not (eqb d 48)) (list_all is_ascii_digit (d ∷ e ∷ ds)) h in
    (p.1, omega arith, λ zero. absurd (let z : eqb d 48 ≡ true = search (rules, tests) in let n = p.0 in cc))

-- a number that was read is spelled as its decimals
pub spelled : (low high : ℕ) (w : List ℕ) (n : ℕ) → high < 2 ^ 64 → number_in low high w ≡ Some n → (w ≡ decimal n) × (low ≤ n) × (n ≤ high)
spelled low high w n fits h =
    let c = chosen (is_numeral w && (leb low (digits_value 10 w) && leb (digits_value 10 w) high)) (digits_value 10 w) n h in
    let p = both (is_numeral w) (leb low (digits_value 10 w) && leb (digits_value 10 w) high) c.0 in
    let q = both (leb low (digits_value 10 w)) (leb (digits_value 10 w) high) p.1 in
    let ds = numeral_is w p.0 in
    let below : digits_value 10 w ≤ high = (let t = q.1 in search (rules, tests)) in
    let above : low ≤ digits_value 10 w = (let t = q.0 in search (rules, tests)) in
    let text : decimal (digits_value 10 w) ≡ w = decimal-digits_value own w ds.0 ds.1 ds.2 (omega arith) in
    let is : digits_value 10 w ≡ n = c.1 in
    (sym text ∙ ap decimal is, omega arith, omega arith)

-- the text of a keyword
abbrev pub text_of_keyword : Keyword → List ℕ
text_of_keyword word.Arc = codes "arc"
text_of_keyword word.Slots = codes "slots"
text_of_keyword word.Entries = codes "entries"
text_of_keyword word.Caps = codes "caps"
text_of_keyword word.Class = codes "class"
text_of_keyword word.Immortal = codes "immortal"
text_of_keyword word.Global = codes "global"
text_of_keyword word.Thread = codes "thread"
text_of_keyword word.Var = codes "var"
text_of_keyword word.New = codes "new"
text_of_keyword word.Drop = codes "drop"
text_of_keyword (word.Pair pair.Copy) = codes "copy"
text_of_keyword (word.Pair pair.Move) = codes "move"
text_of_keyword (word.Pair pair.Unown) = codes "unown"
text_of_keyword (word.Pair pair.Weak) = codes "weak"
text_of_keyword (word.Pair pair.Load) = codes "load"
text_of_keyword word.Get = codes "get"
text_of_keyword word.Set = codes "set"
text_of_keyword (word.Block block.IfNil) = codes "ifnil"
text_of_keyword (word.Block block.IfSome) = codes "ifsome"
text_of_keyword word.End = codes "end"
text_of_keyword word.Phase = codes "phase"
text_of_keyword word.Schedule = codes "schedule"
text_of_keyword word.Done = codes "done"

pub keyword_back : (k : Keyword) → keyword_of (text_of_keyword k) ≡ Some k
keyword_back word.Arc = refl
keyword_back word.Slots = refl
keyword_back word.Entries = refl
keyword_back word.Caps = refl
keyword_back word.Class = refl
keyword_back word.Immortal = refl
keyword_back word.Global = refl
keyword_back word.Thread = refl
keyword_back word.Var = refl
keyword_back word.New = refl
keyword_back word.Drop = refl
keyword_back (word.Pair pair.Copy) = refl
keyword_back (word.Pair pair.Move) = refl
keyword_back (word.Pair pair.Unown) = refl
keyword_back (word.Pair pair.Weak) = refl
keyword_back (word.Pair pair.Load) = refl
keyword_back word.Get = refl
keyword_back word.Set = refl
keyword_back (word.Block block.IfNil) = refl
keyword_back (word.Block block.IfSome) = refl
keyword_back word.End = refl
keyword_back word.Phase = refl
keyword_back word.Schedule = refl
keyword_back word.Done = refl

-- one word more that is tried
try : {K : Type 0} (text : K → List ℕ) (b : Bool) (w : List ℕ) (k : K) (rest : Option K) (found : K) → (b ≡ true → w ≡ text k) → (rest ≡ Some found → w ≡ text found) → cond b (Some k) rest ≡ Some found → w ≡ text found
try text true w k rest found h g e = let same : k ≡ found = cc in h refl ∙ ap text same
try text false w k rest found h g e = g e

pub keyword_text : (w : List ℕ) (k : Keyword) → keyword_of w ≡ Some k → w ≡ text_of_keyword k
keyword_text w k =
    try text_of_keyword _ w word.Arc _ k (same_text w (codes "arc")) (
    try text_of_keyword _ w word.Slots _ k (same_text w (codes "slots")) (
    try text_of_keyword _ w word.Entries _ k (same_text w (codes "entries")) (
    try text_of_keyword _ w word.Caps _ k (same_text w (codes "caps")) (
    try text_of_keyword _ w word.Class _ k (same_text w (codes "class")) (
    try text_of_keyword _ w word.Immortal _ k (same_text w (codes "immortal")) (
    try text_of_keyword _ w word.Global _ k (same_text w (codes "global")) (
    try text_of_keyword _ w word.Thread _ k (same_text w (codes "thread")) (
    try text_of_keyword _ w word.Var _ k (same_text w (codes "var")) (
    try text_of_keyword _ w word.New _ k (same_text w (codes "new")) (
    try text_of_keyword _ w word.Drop _ k (same_text w (codes "drop")) (
    try text_of_keyword _ w (word.Pair pair.Copy) _ k (same_text w (codes "copy")) (
    try text_of_keyword _ w (word.Pair pair.Move) _ k (same_text w (codes "move")) (
    try text_of_keyword _ w (word.Pair pair.Unown) _ k (same_text w (codes "unown")) (
    try text_of_keyword _ w (word.Pair pair.Weak) _ k (same_text w (codes "weak")) (
    try text_of_keyword _ w (word.Pair pair.Load) _ k (same_text w (codes "load")) (
    try text_of_keyword _ w word.Get _ k (same_text w (codes "get")) (
    try text_of_keyword _ w word.Set _ k (same_text w (codes "set")) (
    try text_of_keyword _ w (word.Block block.IfNil) _ k (same_text w (codes "ifnil")) (
    try text_of_keyword _ w (word.Block block.IfSome) _ k (same_text w (codes "ifsome")) (
    try text_of_keyword _ w word.End _ k (same_text w (codes "end")) (
    try text_of_keyword _ w word.Phase _ k (same_text w (codes "phase")) (
    try text_of_keyword _ w word.Schedule _ k (same_text w (codes "schedule")) (
    try text_of_keyword _ w word.Done None k (same_text w (codes "done")) (λ e. absurd cc))))))))))))))))))))))))

-- ---- where a keyword stands

pub comes_of : (version : ℕ) (p : Place) (k : Keyword) → stands version p k ≡ true → comes p k ≡ true
comes_of version p k h = (both (not (is_later k && not (eqb version 2))) (comes p k) h).1

later_or : (b c : Bool) → not (b && not c) ≡ true → b ≡ true → c ≡ true
later_or true true h e = refl
later_or true false h e = absurd cc
later_or false c h e = absurd cc

pub second_of : (version : ℕ) (p : Place) (k : Keyword) → stands version p k ≡ true → is_later k ≡ true → version ≡ 2
second_of version p k h e = eqb-true _ _ (later_or (is_later k) (eqb version 2) (both (not (is_later k && not (eqb version 2))) (comes p k) h).0 e)

pub kind_is : (w : List ℕ) (k : Kind) → kind_of w ≡ Some k → w ≡ kind_word k
kind_is w k =
    try kind_word _ w kind.Strong _ k (same_text w (codes "strong")) (
    try kind_word _ w kind.Unowned _ k (same_text w (codes "unowned")) (
    try kind_word _ w kind.Weak None k (same_text w (codes "weak")) (λ e. absurd cc)))

pub kinds_agree : (k l : Kind) → same_kind k l ≡ true → k ≡ l
kinds_agree kind.Strong kind.Strong h = refl
kinds_agree kind.Unowned kind.Unowned h = refl
kinds_agree kind.Weak kind.Weak h = refl
kinds_agree k l h = absurd cc

-- ---- places of names

first_or : (w n : List ℕ) (ns : List (List ℕ)) (b : Bool) → bytes_eq n w ≡ b → cond (not b) (1 + position_or_len (λ m. bytes_eq m w) ns) 0 < length (n ∷ ns)
    → (position_or_len (λ m. bytes_eq m w) ns < length ns → name_at ns (position_or_len (λ m. bytes_eq m w) ns) ≡ w) → name_at (n ∷ ns) (cond (not b) (1 + position_or_len (λ m. bytes_eq m w) ns) 0) ≡ w
first_or w n ns true e lt later = same_text n w e
first_or w n ns false e lt later = let on : 1 + position_or_len (λ m. bytes_eq m w) ns ≡ suc (position_or_len (λ m. bytes_eq m w) ns) = omega arith in rw on (later (omega arith))

at_first : (w : List ℕ) (names : List (List ℕ)) → position_or_len (λ n. bytes_eq n w) names < length names → name_at names (position_or_len (λ n. bytes_eq n w) names) ≡ w
at_first w [] lt = absurd (omega arith)
at_first w (n ∷ ns) lt = first_or w n ns (bytes_eq n w) refl lt (at_first w ns)

pub place_found : (names : List (List ℕ)) (w : List ℕ) (i : ℕ) → place_of names w ≡ Some i → (i < length names) × (name_at names i ≡ w)
place_found names w i h =
    let f = chosen (ltb (position_or_len (λ n. bytes_eq n w) names) (length names)) (position_or_len (λ n. bytes_eq n w) names) i h in
    let at_i : position_or_len (λ n. bytes_eq n w) names ≡ i = f.1 in
    let lt : position_or_len (λ n. bytes_eq n w) names < length names = ltb-true _ _ f.0 in
    (omega arith, ap (name_at names) (sym at_i) ∙ at_first w names lt)

-- ---- words with parts

abbrev is_mark : ℕ → ℕ → Bool
is_mark m b = eqb b m

cut_or : (m x : ℕ) (xs : List ℕ) (b : Bool) → eqb x m ≡ b → (b ≡ false → xs ≡ before_first (is_mark m) xs ++ m ∷ after_first (is_mark m) xs)
    → x ∷ xs ≡ take (cond (not b) (1 + position_or_len (is_mark m) xs) 0) (x ∷ xs) ++ m ∷ drop (cond (not b) (1 + position_or_len (is_mark m) xs) 0 + 1) (x ∷ xs)
cut_or m x xs true e later = ap (λ (y : ℕ). y ∷ xs) (eqb-true _ _ e)
cut_or m x xs false e later =
    let on : 1 + position_or_len (is_mark m) xs ≡ suc (position_or_len (is_mark m) xs) = omega arith in
    let more : suc (position_or_len (is_mark m) xs) + 1 ≡ suc (position_or_len (is_mark m) xs + 1) = omega arith in
    rw (on, more) (ap (λ (ys : List ℕ). x ∷ ys) (later refl))

-- a word with a mark in it is what stands before the first one, the mark, and what stands after it
pub cut : (m : ℕ) (xs : List ℕ) → 0 < count_by (is_mark m) xs → xs ≡ before_first (is_mark m) xs ++ m ∷ after_first (is_mark m) xs
cut m [] lt = absurd (omega arith)
cut m (x ∷ xs) lt = cut_or m x xs (eqb x m) refl (λ no. cut m xs (
    let h : 0 < cond (eqb x m) 1 0 + count_by (is_mark m) xs = rw (sum_by-cons (λ y. cond (is_mark m y) 1 0) x xs) at lt in
    let k : 0 < cond false 1 0 + count_by (is_mark m) xs = subst (λ (b : Bool). 0 < cond b 1 0 + count_by (is_mark m) xs) no h in
    omega arith))

left_or : (m x n : ℕ) (xs : List ℕ) (b : Bool) → eqb x m ≡ b → (cond b 1 0 + count_by (is_mark m) xs ≡ suc n) → (count_by (is_mark m) xs ≡ suc n → count_by (is_mark m) (after_first (is_mark m) xs) ≡ n)
    → count_by (is_mark m) (drop (cond (not b) (1 + position_or_len (is_mark m) xs) 0 + 1) (x ∷ xs)) ≡ n
left_or m x n xs true e h later = omega arith
left_or m x n xs false e h later =
    let more : 1 + position_or_len (is_mark m) xs + 1 ≡ suc (position_or_len (is_mark m) xs + 1) = omega arith in
    rw more (later (omega arith))

-- the marks behind the first one
pub left : (m : ℕ) (xs : List ℕ) (n : ℕ) → count_by (is_mark m) xs ≡ suc n → count_by (is_mark m) (after_first (is_mark m) xs) ≡ n
left m [] n h = absurd (omega arith)
left m (x ∷ xs) n h =
    let k : cond (eqb x m) 1 0 + count_by (is_mark m) xs ≡ suc n = rw (sum_by-cons (λ y. cond (is_mark m y) 1 0) x xs) at h in
    left_or m x n xs (eqb x m) refl k (left m xs n)
