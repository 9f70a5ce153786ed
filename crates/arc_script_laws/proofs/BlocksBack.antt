-- What the lines of blocks and of class lines are read as.
use Rattle.std.proofs.Common.{◌≡◌, ℕ, suc, ◌+◌, ◌<◌, ◌≤◌, Bool, true, false, eqb, ◌&&◌, List, [], ◌∷◌, ◌++◌, length, map, refl, sym, ap, subst, ◌∙◌, append_assoc, arith, rules, tests}
use Rattle.std.specs.Prelude.{not, codes, slice_get}
use Rattle.std.specs.List.{AllByRecursion, list_any}
use Rattle.std.proofs.lemmas.List.{length-append}
use Rattle.arc_script.specs.declared.script.ClassDecl.{ClassDecl}
use Rattle.arc_script.specs.declared.script.VarDecl.{VarDecl}
use Rattle.arc_script.specs.declared.script.Op.{Op}
use Rattle.arc_script.specs.declared.script.Op.TheVariants as op
use Rattle.arc_script.specs.declared.keyword.BlockWord.{BlockWord}
use Rattle.arc_script.specs.declared.keyword.Keyword.{Keyword}
use Rattle.arc_script.specs.declared.keyword.Keyword.TheVariants as word
use Rattle.arc_script.specs.declared.keyword.Place.{Place}
use Rattle.arc_script.specs.declared.keyword.Place.TheVariants as behind
use Rattle.arc_script.specs.Keywords.{is_later, comes, stands, is_open}
use Rattle.arc_script.specs.Valid.{class_names, begins_block, goes_to, OfSecond}
use Rattle.arc_script.specs.Said.{Grouped, BodySaid}
use Rattle.arc_script.specs.Group.{group_names, group_of}
use Rattle.arc_script.specs.BodyLines.{opened_by, ended_by}
use Rattle.arc_script.specs.Grammar.{Front, class_form, any_line}
use Rattle.arc_script.specs.Canonical.{class_word, op_line, ends_at, still_open, with_end, ops_from}
use Rattle.arc_script.proofs.Blocks.{ended_seam}
use Rattle.arc_script_laws.proofs.Spelled.{body}
use Rattle.arc_script_laws.proofs.LinesSpelled.{IsLine}
use Rattle.arc_script_laws.proofs.Written.{enters}

-- ---- lists

pub all_past_or : (n m : ℕ) (ends : List ℕ) → n ≤ m → AllByRecursion (λ e. m ≤ e) ends → AllByRecursion (λ e. n ≤ e) ends
all_past_or n m [] le h = tt
all_past_or n m (e ∷ ends) le h = let first = h.0 in (omega arith, all_past_or n m ends le h.1)

pub all_past : (n m : ℕ) (ends : List ℕ) → n < m → AllByRecursion (λ e. m ≤ e) ends → AllByRecursion (λ e. n < e) ends
all_past n m [] lt h = tt
all_past n m (e ∷ ends) lt h = let first = h.0 in (omega arith, all_past n m ends lt h.1)

pub all_left : {X : Type 0} (P : X → Type 0) (xs ys : List X) → AllByRecursion P (xs ++ ys) → AllByRecursion P xs
all_left P [] ys h = tt
all_left P (x ∷ xs) ys h = (h.0, all_left P xs ys h.1)

pub all_right : {X : Type 0} (P : X → Type 0) (xs ys : List X) → AllByRecursion P (xs ++ ys) → AllByRecursion P ys
all_right P [] ys h = h
all_right P (x ∷ xs) ys h = all_right P xs ys h.1

pub none_passes : {X : Type 0} (p : X → Bool) (xs : List X) → AllByRecursion (λ x. p x ≡ false) xs → list_any p xs ≡ false
none_passes p [] h = refl
none_passes p (x ∷ xs) h = let first = h.0 in rw first (none_passes p xs h.1)

-- ---- where no block ends, and where one does

no_ends : (at : ℕ) (ends : List ℕ) → AllByRecursion (λ e. at < e) ends → ends_at at ends ≡ []
no_ends at [] h = refl
no_ends at (e ∷ ends) h = let past = h.0 in let other : eqb e at ≡ false = search (rules, tests) in rw other refl

all_open : (at : ℕ) (ends : List ℕ) → AllByRecursion (λ e. at < e) ends → still_open at ends ≡ ends
all_open at [] h = refl
all_open at (e ∷ ends) h = let past = h.0 in let other : eqb e at ≡ false = search (rules, tests) in rw other refl

same_ends : (o : Op) (ends : List ℕ) → begins_block o ≡ false → with_end o ends ≡ ends
same_ends (op.IfNil var to) ends h = absurd cc
same_ends (op.IfSome var to) ends h = absurd cc
same_ends o ends h = refl

one_end : (to : ℕ) (o : Op) (ends : List ℕ) → begins_block o ≡ true → with_end (goes_to to o) ends ≡ to ∷ ends
one_end to (op.IfNil var old) ends h = refl
one_end to (op.IfSome var old) ends h = refl
one_end to o ends h = absurd cc

pub plain_step : (classes : List ClassDecl) (globals vars : List VarDecl) (at : ℕ) (ends : List ℕ) (o : Op) (os : List Op) → AllByRecursion (λ e. at < e) ends → begins_block o ≡ false
    → ops_from classes globals vars at ends (o ∷ os) ≡ op_line classes globals vars o ∷ ops_from classes globals vars (at + 1) ends os
plain_step classes globals vars at ends o os past isnt = rw (no_ends at ends past, all_open at ends past, same_ends o ends isnt) refl

pub block_step : (classes : List ClassDecl) (globals vars : List VarDecl) (at to : ℕ) (ends : List ℕ) (o : Op) (os : List Op) → AllByRecursion (λ e. at < e) ends → begins_block o ≡ true
    → ops_from classes globals vars at ends (goes_to to o ∷ os) ≡ op_line classes globals vars (goes_to to o) ∷ ops_from classes globals vars (at + 1) (to ∷ ends) os
block_step classes globals vars at to ends o os past is = rw (no_ends at ends past, all_open at ends past, one_end to o ends is) refl

pub end_step : (classes : List ClassDecl) (globals vars : List VarDecl) (at : ℕ) (ends : List ℕ) (os : List Op) → ops_from classes globals vars at (at ∷ ends) os ≡ (codes "end" ∷ []) ∷ ops_from classes globals vars at ends os
end_step classes globals vars at ends [] = let here : eqb at at ≡ true = search (rules, tests) in rw here refl
end_step classes globals vars at ends (o ∷ os) = let here : eqb at at ≡ true = search (rules, tests) in rw here refl

-- ---- what is read

abbrev behind_op : BodySaid → Op → BodySaid
behind_op b o = record b { ops = b.ops ++ goes_to 0 o ∷ []; opened = opened_by b (goes_to 0 o); count = b.count + 1 }

pub plain_opened : (b : BodySaid) (o : Op) → begins_block o ≡ false → behind_op b o ≡ record b { ops = b.ops ++ o ∷ []; count = b.count + 1 }
plain_opened b (op.IfNil var to) h = absurd cc
plain_opened b (op.IfSome var to) h = absurd cc
plain_opened b o h = refl

pub block_opened : (b : BodySaid) (o : Op) (to : ℕ) → begins_block o ≡ true → behind_op b (goes_to to o) ≡ record b { ops = b.ops ++ goes_to 0 o ∷ []; opened = length b.ops ∷ b.opened; count = b.count + 1 }
block_opened b (op.IfNil var old) to h = refl
block_opened b (op.IfSome var old) to h = refl
block_opened b o to h = absurd cc

goes_twice : (n m : ℕ) (o : Op) → goes_to n (goes_to m o) ≡ goes_to n o
goes_twice n m (op.IfNil var old) = refl
goes_twice n m (op.IfSome var old) = refl
goes_twice n m o = refl

pub ended_to : (ops seen inside : List Op) (o : Op) (to : ℕ) → ops ≡ (seen ++ goes_to 0 o ∷ []) ++ inside → suc (length seen) + length inside ≡ to
    → ended_by ops (length seen) (slice_get ops (length seen)) ≡ seen ++ goes_to to o ∷ inside
ended_to ops seen inside o to e is =
    let begun = goes_to 0 o in
    let long : length (seen ++ begun ∷ inside) ≡ length seen + suc (length inside) = length-append seen (begun ∷ inside) in
    let same : length (seen ++ begun ∷ inside) ≡ to = omega arith in
    ap (λ (os : List Op). ended_by os (length seen) (slice_get os (length seen))) (e ∙ append_assoc seen (begun ∷ []) inside)
    ∙ (ended_seam seen inside begun ∙ ap (λ (p : Op). seen ++ p ∷ inside) (goes_twice (length (seen ++ begun ∷ inside)) 0 o ∙ ap (λ (m : ℕ). goes_to m o) same))

-- ---- where lines of version 2 stand

never : (b : Bool) → not (b && false) ≡ true
never true = refl
never false = refl

both : (a b : Bool) → a ≡ true → b ≡ true → (a && b) ≡ true
both a b h k = rw (h, k) refl

open_not_start : (p : Place) → is_open p ≡ true → comes p word.End ≡ true
open_not_start behind.Thread h = refl
open_not_start behind.Operation h = refl
open_not_start p h = absurd cc

pub later_stands : (version : ℕ) (p : Place) (k : Keyword) → version ≡ 2 → comes p k ≡ true → stands version p k ≡ true
later_stands version p k e h = subst (λ (v : ℕ). stands v p k ≡ true) (sym e) (both (not (is_later k && false)) (comes p k) (never (is_later k)) h)

pub end_stands : (version : ℕ) (p : Place) → version ≡ 2 → is_open p ≡ true → stands version p word.End ≡ true
end_stands version p e h = later_stands version p word.End e (open_not_start p h)

-- ---- class lines

abbrev pub named_of : ClassDecl → Grouped
named_of c = record { name = c.name; immortal = c.immortal }

pub names_back : (cs : List ClassDecl) → group_names (group_of cs) ≡ class_names cs
names_back [] = refl
names_back (c ∷ cs) = ap (λ (ns : List (List ℕ)). c.name ∷ ns) (names_back cs)

pub class_enters : (front : Front) (immortal : Bool) (words lines : List (List ℕ)) → IsLine (class_word immortal ∷ words) → stands front.head.version front.place word.Class ≡ true → OfSecond front.head.version immortal
    → any_line front (body (class_word immortal ∷ words)) lines ≡ class_form front immortal words lines
class_enters front true words lines spelled st of = enters front (codes "immortal") words word.Immortal lines spelled refl refl (later_stands front.head.version front.place word.Immortal (of refl) st)
class_enters front false words lines spelled st of = enters front (codes "class") words word.Class lines spelled refl refl st
