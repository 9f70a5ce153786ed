-- The words of what a script declares and does are accepted as that.
use Rattle.std.proofs.Common.{◌≡◌, ◌≢◌, ℕ, suc, ◌+◌, ◌<◌, ◌≤◌, Bool, true, false, cond, eqb, leb, ltb, ◌&&◌, ◌||◌, List, [], ◌∷◌, ◌++◌, length, map, Option, Some, None, Ok, refl, sym, ap, subst, ◌∙◌, append_assoc, arith, rules, tests, count_by}
use Rattle.std.specs.Prelude.{not, bytes_eq, position, unwrap_or}
use Rattle.std.specs.List.{AllByRecursion, list_all, list_any, before_first, after_first, position_or_len}
use Rattle.std.specs.Char.{is_ascii_alphabetic}
use Rattle.std.proofs.lemmas.Bool.{le-ltb, ltb-false}
use Rattle.std.proofs.lemmas.List.{length-map, length-append, get_or_at}
use Rattle.std.proofs.lemmas.List.Sums.{sum_by-cons, prefix_len-le-length}
use Rattle.arc_text.specs.Words.{is_name, is_name_byte}
use Rattle.arc_model.specs.declared.shape.Kind.{Kind}
use Rattle.arc_model.specs.declared.shape.Kind.TheVariants as kind
use Rattle.arc_script.specs.declared.script.FieldDecl.{FieldDecl}
use Rattle.arc_script.specs.declared.script.ClassDecl.{ClassDecl}
use Rattle.arc_script.specs.declared.script.VarDecl.{VarDecl}
use Rattle.arc_script.specs.Valid.{name_at, place_of, immortals_of, is_weak_immortal, AreNames, field_names, class_names, var_names, AreFields, AreClasses}
use Rattle.arc_script.specs.Said.{HeadSaid}
use Rattle.arc_script.specs.Group.{group_names}
use Rattle.arc_script.specs.Lookups.{kind_of, same_kind, is_among, repeats, has_repeat, class_place, is_at_sign}
use Rattle.arc_script.specs.HeadLines.{Spelled, is_field_word, spelled_of, is_misspelled, lacks_class, lacks_kind, declared_of, is_weak_field, class_line, decl_of}
use Rattle.arc_script.specs.Canonical.{kind_word}
use Rattle.arc_script.proofs.Inverted.{both}
use Rattle.arc_script.proofs.Names.{AreApart}

-- ---- look-ups

step_back : (t : Bool) (a b m : ℕ) → cond (not t) (1 + a) 0 ≡ suc m → (a ≡ m → b ≡ m) → cond (not t) (1 + b) 0 ≡ suc m
step_back true a b m h f = absurd cc
step_back false a b m h f = let e : a ≡ m = omega arith in let d = f e in omega arith

none_before : {X : Type 0} (p : X → Bool) (seen rest : List X) → position_or_len p (seen ++ rest) ≡ length seen → position_or_len p seen ≡ length seen
none_before p [] rest h = refl
none_before p (x ∷ seen) rest h = step_back (p x) (position_or_len p (seen ++ rest)) (position_or_len p seen) (length seen) h (none_before p seen rest)

place_value : (b : Bool) (m n : ℕ) → cond b (Some m) None ≡ Some n → m ≡ n
place_value true m n e = cc
place_value false m n e = absurd cc

-- a name that stands at its own place is new there
pub not_seen : (seen rest : List (List ℕ)) (n : List ℕ) → place_of (seen ++ rest) n ≡ Some (length seen) → place_of seen n ≡ None
not_seen seen rest n h =
    let here : position_or_len (λ m. bytes_eq m n) seen ≡ length seen = none_before (λ m. bytes_eq m n) seen rest (place_value _ _ _ h) in
    let past : ltb (length seen) (length seen) ≡ false = le-ltb _ _ (omega arith) in
    rw (here, past) refl

pub fresh_at : (all seen rest : List (List ℕ)) (n : List ℕ) → AreApart all → seen ++ n ∷ rest ≡ all → place_of seen n ≡ None
fresh_at all seen rest n apart e =
    let len : length seen + suc (length rest) ≡ length all = sym (length-append seen (n ∷ rest)) ∙ ap length e in
    let here : name_at all (length seen) ≡ n = ap (λ (l : List (List ℕ)). name_at l (length seen)) (sym e) ∙ get_or_at seen n rest [] (length seen) refl in
    let place : place_of all n ≡ Some (length seen) = subst (λ (m : List ℕ). place_of all m ≡ Some (length seen)) here (apart (length seen) (omega arith)) in
    not_seen seen (n ∷ rest) n (ap (λ (l : List (List ℕ)). place_of l n) e ∙ place)

pub name_here : (all seen rest : List (List ℕ)) (n : List ℕ) → ((i : ℕ) → i < length all → is_name (name_at all i) ≡ true) → seen ++ n ∷ rest ≡ all → is_name n ≡ true
name_here all seen rest n spelled e =
    let len : length seen + suc (length rest) ≡ length all = sym (length-append seen (n ∷ rest)) ∙ ap length e in
    let here : name_at all (length seen) ≡ n = ap (λ (l : List (List ℕ)). name_at l (length seen)) (sym e) ∙ get_or_at seen n rest [] (length seen) refl in
    subst (λ (m : List ℕ). is_name m ≡ true) here (spelled (length seen) (omega arith))

past_one : (b : Bool) (m n : ℕ) (r : Bool) → cond (not b) (1 + m) 0 ≡ suc n → (m ≡ n → r ≡ false) → (b || r) ≡ false
past_one true m n r h f = absurd cc
past_one false m n r h f = f (omega arith)

past_all : {X : Type 0} (p : X → Bool) (xs : List X) → position_or_len p xs ≡ length xs → list_any p xs ≡ false
past_all p [] h = refl
past_all p (x ∷ xs) h = past_one (p x) (position_or_len p xs) (length xs) (list_any p xs) h (past_all p xs)

unknown : (b : Bool) (m : ℕ) → cond b (Some m) None ≡ None → b ≡ false
unknown true m e = absurd cc
unknown false m e = refl

end_of : {X : Type 0} (p : X → Bool) (xs : List X) → position p xs ≡ None → position_or_len p xs ≡ length xs
end_of p xs h =
    let least : position_or_len p xs ≤ length xs = prefix_len-le-length (λ x. not (p x)) xs in
    let past : length xs ≤ position_or_len p xs = ltb-false _ _ (unknown (ltb (position_or_len p xs) (length xs)) (position_or_len p xs) h) in
    omega arith

none_among : (seen : List (List ℕ)) (n : List ℕ) → place_of seen n ≡ None → is_among seen n ≡ false
none_among seen n h = past_all (λ m. bytes_eq m n) seen (end_of (λ m. bytes_eq m n) seen h)

no_repeats : (all seen rest : List (List ℕ)) → AreApart all → seen ++ rest ≡ all → repeats seen rest ≡ false
no_repeats all seen [] apart e = refl
no_repeats all seen (n ∷ rest) apart e =
    let new : is_among seen n ≡ false = none_among seen n (fresh_at all seen rest n apart e) in
    rw new (no_repeats all (seen ++ n ∷ []) rest apart (append_assoc seen (n ∷ []) rest ∙ e))

pub no_repeat : (names : List (List ℕ)) → AreApart names → has_repeat names ≡ false
no_repeat names apart = no_repeats names [] names apart refl

-- ---- parts of words

abbrev pub is_mark : ℕ → ℕ → Bool
is_mark m b = eqb b m

abbrev pub Without : ℕ → List ℕ → Type 0
Without m xs = AllByRecursion (λ b. eqb b m ≡ false) xs

pub before_mark : (m : ℕ) (xs ys : List ℕ) → Without m xs → before_first (is_mark m) (xs ++ m ∷ ys) ≡ xs
before_mark m [] ys h = let same : eqb m m ≡ true = search (rules, tests) in rw same refl
before_mark m (x ∷ xs) ys h =
    let on : 1 + position_or_len (is_mark m) (xs ++ m ∷ ys) ≡ suc (position_or_len (is_mark m) (xs ++ m ∷ ys)) = omega arith in
    rw (h.0, on) (ap (λ (l : List ℕ). x ∷ l) (before_mark m xs ys h.1))

pub after_mark : (m : ℕ) (xs ys : List ℕ) → Without m xs → after_first (is_mark m) (xs ++ m ∷ ys) ≡ ys
after_mark m [] ys h = let same : eqb m m ≡ true = search (rules, tests) in rw same refl
after_mark m (x ∷ xs) ys h =
    let on : 1 + position_or_len (is_mark m) (xs ++ m ∷ ys) + 1 ≡ suc (position_or_len (is_mark m) (xs ++ m ∷ ys) + 1) = omega arith in
    rw (h.0, on) (after_mark m xs ys h.1)

pub no_marks : (m : ℕ) (xs : List ℕ) → Without m xs → count_by (is_mark m) xs ≡ 0
no_marks m [] h = refl
no_marks m (x ∷ xs) h = rw (sum_by-cons (λ b. cond (is_mark m b) 1 0) x xs, h.0) (omega (arith, no_marks m xs h.1))

pub marks : (m n : ℕ) (xs ys : List ℕ) → Without m xs → count_by (is_mark m) ys ≡ n → count_by (is_mark m) (xs ++ m ∷ ys) ≡ suc n
marks m n [] ys h k = let same : eqb m m ≡ true = search (rules, tests) in rw (sum_by-cons (λ b. cond (is_mark m b) 1 0) m ys, same) (omega arith)
marks m n (x ∷ xs) ys h k = rw (sum_by-cons (λ b. cond (is_mark m b) 1 0) x (xs ++ m ∷ ys), h.0) (omega (arith, marks m n xs ys h.1 k))

-- names have none of the marks
no_dot : (b : ℕ) → is_name_byte b ≡ true → eqb b 46 ≡ false
no_dot b h = search (rules, tests)

no_colon : (b : ℕ) → is_name_byte b ≡ true → eqb b 58 ≡ false
no_colon b h = search (rules, tests)

letter_no_dot : (b : ℕ) → is_ascii_alphabetic b ≡ true → eqb b 46 ≡ false
letter_no_dot b h = search (rules, tests)

letter_no_colon : (b : ℕ) → is_ascii_alphabetic b ≡ true → eqb b 58 ≡ false
letter_no_colon b h = search (rules, tests)

letter_no_sign : (b : ℕ) → is_ascii_alphabetic b ≡ true → eqb b 64 ≡ false
letter_no_sign b h = search (rules, tests)

all_bytes : (P : ℕ → Type 0) → ((b : ℕ) → is_name_byte b ≡ true → P b) → (bs : List ℕ) → list_all is_name_byte bs ≡ true → AllByRecursion P bs
all_bytes P f [] h = tt
all_bytes P f (b ∷ bs) h = let p = both (is_name_byte b) (list_all is_name_byte bs) h in (f b p.0, all_bytes P f bs p.1)

name_bytes : (P : ℕ → Type 0) → ((b : ℕ) → is_ascii_alphabetic b ≡ true → P b) → ((b : ℕ) → is_name_byte b ≡ true → P b) → (n : List ℕ) → is_name n ≡ true → AllByRecursion P n
name_bytes P g f [] h = absurd cc
name_bytes P g f (b ∷ bs) h =
    let p = both (is_ascii_alphabetic b) (ltb (length bs) 32 && list_all is_name_byte bs) h in
    let q = both (ltb (length bs) 32) (list_all is_name_byte bs) p.1 in
    (g b p.0, all_bytes P f bs q.1)

pub dotless : (n : List ℕ) → is_name n ≡ true → Without 46 n
dotless n h = name_bytes (λ b. eqb b 46 ≡ false) letter_no_dot no_dot n h

colonless : (n : List ℕ) → is_name n ≡ true → Without 58 n
colonless n h = name_bytes (λ b. eqb b 58 ≡ false) letter_no_colon no_colon n h

pub no_sign : (n rest : List ℕ) → is_name n ≡ true → is_at_sign (n ++ rest) ≡ false
no_sign [] rest h = absurd cc
no_sign (b ∷ bs) rest h = letter_no_sign b (both (is_ascii_alphabetic b) (ltb (length bs) 32 && list_all is_name_byte bs) h).0

-- ---- kinds

pub kind_back : (k : Kind) → kind_of (kind_word k) ≡ Some k
kind_back kind.Strong = refl
kind_back kind.Unowned = refl
kind_back kind.Weak = refl

pub same_self : (k : Kind) → same_kind k k ≡ true
same_self kind.Strong = refl
same_self kind.Unowned = refl
same_self kind.Weak = refl

pub same_of : (k l : Kind) → k ≡ l → same_kind k l ≡ true
same_of k l e = subst (λ (x : Kind). same_kind k x ≡ true) e (same_self k)

pub not_same : (k l : Kind) → k ≢ l → same_kind k l ≡ false
not_same kind.Strong kind.Strong h = absurd (h refl)
not_same kind.Unowned kind.Unowned h = absurd (h refl)
not_same kind.Weak kind.Weak h = absurd (h refl)
not_same k l h = refl

-- ---- declarations

pub class_at : (classes : List ClassDecl) (are : AreClasses classes) (i : ℕ) → i < length classes → (class_place classes (name_at (class_names classes) i) ≡ Some i) × (is_name (name_at (class_names classes) i) ≡ true)
class_at classes are i lt =
    let long : length (class_names classes) ≡ length classes = length-map classes (λ (c : ClassDecl). c.name) in
    (are.names.apart i (omega arith), are.names.spelled i (omega arith))

pub decl_back : (limit : ℕ) (vars : List VarDecl) (classes : List ClassDecl) (v : VarDecl) → AreClasses classes → is_name v.name ≡ true → place_of (var_names vars) v.name ≡ None → v.class < length classes → length vars < limit → is_weak_immortal (immortals_of classes) v.kind v.class ≡ false
    → decl_of limit vars classes v.name (kind_word v.kind) (name_at (class_names classes) v.class) ≡ Ok v
decl_back limit vars classes v are name fresh class room allowed =
    let c = class_at classes are v.class class in
    let place = c.0 in
    let spelled = c.1 in
    let kinds = kind_back v.kind in
    let few : leb limit (length vars) ≡ false = search (rules, tests) in
    rw (name, spelled, fresh, place, kinds, few, allowed) refl

-- ---- fields of a class

kind_colonless : (k : Kind) → Without 58 (kind_word k)
kind_colonless kind.Strong = (refl, (refl, (refl, (refl, (refl, (refl, tt))))))
kind_colonless kind.Unowned = (refl, (refl, (refl, (refl, (refl, (refl, (refl, tt)))))))
kind_colonless kind.Weak = (refl, (refl, (refl, (refl, tt))))

abbrev pub in_names : List (List ℕ) → FieldDecl → List ℕ
in_names names f = f.name ++ (58 ∷ (kind_word f.kind ++ (58 ∷ name_at names f.class)))

field_parts : (names : List (List ℕ)) (f : FieldDecl) → is_name f.name ≡ true → is_name (name_at names f.class) ≡ true → is_field_word (in_names names f) ≡ true
field_parts names f n c =
    let count : count_by (is_mark 58) (in_names names f) ≡ 2 = marks 58 1 f.name (kind_word f.kind ++ (58 ∷ name_at names f.class)) (colonless f.name n) (marks 58 0 (kind_word f.kind) (name_at names f.class) (kind_colonless f.kind) (no_marks 58 (name_at names f.class) (colonless (name_at names f.class) c))) in
    rw count refl

spelled_back : (names : List (List ℕ)) (f : FieldDecl) → is_name f.name ≡ true → spelled_of (in_names names f) ≡ record { name = f.name; kind = kind_word f.kind; class = name_at names f.class }
spelled_back names f n =
    let rest = kind_word f.kind ++ (58 ∷ name_at names f.class) in
    let first : before_first (is_mark 58) (in_names names f) ≡ f.name = before_mark 58 f.name rest (colonless f.name n) in
    let second : after_first (is_mark 58) (in_names names f) ≡ rest = after_mark 58 f.name rest (colonless f.name n) in
    let third : before_first (is_mark 58) rest ≡ kind_word f.kind = before_mark 58 (kind_word f.kind) (name_at names f.class) (kind_colonless f.kind) in
    let fourth : after_first (is_mark 58) rest ≡ name_at names f.class = after_mark 58 (kind_word f.kind) (name_at names f.class) (kind_colonless f.kind) in
    let build = λ (a b c : List ℕ). (let s : Spelled = record { name = a; kind = b; class = c } in s) in
    ap (λ (a : List ℕ). build a (before_first (is_mark 58) (after_first (is_mark 58) (in_names names f))) (after_first (is_mark 58) (after_first (is_mark 58) (in_names names f)))) first
    ∙ (ap (λ (r : List ℕ). build f.name (before_first (is_mark 58) r) (after_first (is_mark 58) r)) second
    ∙ (ap (λ (b : List ℕ). build f.name b (after_first (is_mark 58) rest)) third ∙ ap (λ (c : List ℕ). build f.name (kind_word f.kind) c) fourth))

-- the fields that are spelled so, whose classes are among these names
abbrev spelled_fields : List (List ℕ) → List FieldDecl → List Spelled
spelled_fields names fs = map (λ (f : FieldDecl). let s : Spelled = record { name = f.name; kind = kind_word f.kind; class = name_at names f.class } in s) fs

abbrev GoodFields : List (List ℕ) → List FieldDecl → Type 0
GoodFields names fs = AllByRecursion (λ (f : FieldDecl). (is_name f.name ≡ true) × (is_name (name_at names f.class) ≡ true) × (place_of names (name_at names f.class) ≡ Some f.class)) fs

words_pass : (names : List (List ℕ)) (fs : List FieldDecl) → GoodFields names fs → list_all is_field_word (map (in_names names) fs) ≡ true
words_pass names [] h = refl
words_pass names (f ∷ fs) h = let p = h.0 in let one = field_parts names f p.0 p.1 in rw (one, words_pass names fs h.1) refl

words_back : (names : List (List ℕ)) (fs : List FieldDecl) → GoodFields names fs → map spelled_of (map (in_names names) fs) ≡ spelled_fields names fs
words_back names [] h = refl
words_back names (f ∷ fs) h =
    let p = h.0 in
    ap (λ (s : Spelled). s ∷ map spelled_of (map (in_names names) fs)) (spelled_back names f p.0)
    ∙ ap (λ (ss : List Spelled). (let s : Spelled = record { name = f.name; kind = kind_word f.kind; class = name_at names f.class } in s) ∷ ss) (words_back names fs h.1)

none_misspelled : (names : List (List ℕ)) (fs : List FieldDecl) → GoodFields names fs → list_any is_misspelled (spelled_fields names fs) ≡ false
none_misspelled names [] h = refl
none_misspelled names (f ∷ fs) h = let p = h.0 in let a = p.0 in let b = p.1 in rw (a, b) (none_misspelled names fs h.1)

none_unknown : (names : List (List ℕ)) (fs : List FieldDecl) → GoodFields names fs → list_any (lacks_class names) (spelled_fields names fs) ≡ false
none_unknown names [] h = refl
none_unknown names (f ∷ fs) h = let p = h.0 in let a = p.2 in rw a (none_unknown names fs h.1)

none_kindless : (names : List (List ℕ)) (fs : List FieldDecl) → list_any lacks_kind (spelled_fields names fs) ≡ false
none_kindless names [] = refl
none_kindless names (f ∷ fs) = let k = kind_back f.kind in rw k (none_kindless names fs)

all_declared : (names : List (List ℕ)) (fs : List FieldDecl) → GoodFields names fs → map (declared_of names) (spelled_fields names fs) ≡ fs
all_declared names [] h = refl
all_declared names (f ∷ fs) h =
    let p = h.0 in
    let place = p.2 in
    let k = kind_back f.kind in
    let build = λ (a : Kind) (b : ℕ). (let d : FieldDecl = record { name = f.name; kind = a; class = b } in d) in
    let one : declared_of names (let s : Spelled = record { name = f.name; kind = kind_word f.kind; class = name_at names f.class } in s) ≡ f =
    ap (λ (o : Option Kind). build (unwrap_or o kind.Strong) (unwrap_or (place_of names (name_at names f.class)) 0)) k ∙ ap (λ (o : Option ℕ). build f.kind (unwrap_or o 0)) place in
    ap (λ (d : FieldDecl). d ∷ map (declared_of names) (spelled_fields names fs)) one ∙ ap (λ (ds : List FieldDecl). f ∷ ds) (all_declared names fs h.1)

same_names : (names : List (List ℕ)) (fs : List FieldDecl) → map (λ (s : Spelled). s.name) (spelled_fields names fs) ≡ field_names fs
same_names names [] = refl
same_names names (f ∷ fs) = ap (λ (ns : List (List ℕ)). f.name ∷ ns) (same_names names fs)

good_fields : (names : List (List ℕ)) (n : ℕ) (fs : List FieldDecl) → AreNames 64 names → length names ≡ n → ((i : ℕ) → i < length (field_names fs) → is_name (name_at (field_names fs) i) ≡ true)
    → AllByRecursion (λ (f : FieldDecl). f.class < n) fs → GoodFields names fs
good_fields names n [] are long spelled of = tt
good_fields names n (f ∷ fs) are long spelled of =
    let lt = of.0 in
    ((spelled 0 (omega arith), are.spelled f.class (omega arith), are.apart f.class (omega arith)), good_fields names n fs are long (λ i h. spelled (suc i) (omega arith)) of.1)

pub class_back : (head : HeadSaid) (names : List (List ℕ)) (n : ℕ) (c : ClassDecl) → group_names head.group ≡ names → AreNames 64 names → length names ≡ n → is_name c.name ≡ true → place_of (class_names head.classes) c.name ≡ None
    → AreFields n c.fields → length head.classes < 64 → list_any (is_weak_field head.group) c.fields ≡ false → class_line head c.immortal (c.name ∷ map (in_names names) c.fields) ≡ Ok (record head { classes = head.classes ++ c ∷ [] })
class_back head names n c group are long name fresh fields room allowed =
    let good = good_fields names n c.fields are long fields.names.spelled fields.of_classes in
    let pass = words_pass names c.fields good in
    let back = words_back names c.fields good in
    let misspelled = none_misspelled names c.fields good in
    let known = none_unknown names c.fields good in
    let kinds = none_kindless names c.fields in
    let once : has_repeat (map (λ (s : Spelled). s.name) (spelled_fields names c.fields)) ≡ false = ap has_repeat (same_names names c.fields) ∙ no_repeat (field_names c.fields) fields.names.apart in
    let few : leb 64 (length head.classes) ≡ false = search (rules, tests) in
    let most = fields.names.few in
    let few_fields : ltb 8 (length (spelled_fields names c.fields)) ≡ false = le-ltb _ _ (omega (arith, length-map c.fields (λ (f : FieldDecl). f.name), length-map c.fields (λ (f : FieldDecl). let s : Spelled = record { name = f.name; kind = kind_word f.kind; class = name_at names f.class } in s))) in
    let same = all_declared names c.fields good in
    rw (pass, back, name, misspelled, fresh, once, group, known, kinds, few, few_fields, same, allowed) refl
