-- How many cells lists and objects have, through each change.
use Rattle.std.proofs.Common.{◌≡◌, ℕ, zero, ◌+◌, ◌≤◌, Bool, true, false, cond, List, [], ◌∷◌, ◌++◌, Option, Some, None, refl, sym, ap, ◌∙◌, arith}
use Rattle.std.specs.Prelude.{find, is_some}
use Rattle.arc_model.specs.declared.shape.Kind.{Kind}
use Rattle.arc_model.specs.declared.shape.Kind.TheVariants.{Strong, Unowned, Weak}
use Rattle.arc_model.specs.Heaps.{Holder, Unowneds, Object, Heap}
use Rattle.arc_model.specs.Holders.{at_first, gains, held_by, holds, is_in, kind_in, list_of, lists, renamed, same_holder, with_list, without}
use Rattle.arc_model.specs.Effects.{becomes, ended_if, left_slot, owing_none}
use Rattle.arc_model.specs.Lookup.{is_cell}
use Rattle.arc_model.specs.WellFormed.{more, tally, held, total}
use Rattle.arc_model.proofs.Builds.{find-passes, some-is, total-holds}
use Rattle.arc_model.proofs.Stages.{in-kind, one_list}
use Rattle.arc_model.proofs.Tally.{in-tally, more-swap, renamed-absent, same-eq}
use Rattle.arc_model.proofs.Turns.{put-found, total-put}
use Rattle.arc_hand_counts.specs.Counts.{cells_in, cells_of, full_cells}

pub more-is : (b : Bool) (n : ℕ) → more b n ≡ n + more b zero
more-is true n = omega arith
more-is false n = omega arith

-- lists
pub cells-push : (y : Holder) (xs : List Holder) → is_cell y ≡ false → cells_in (xs ++ y ∷ []) ≡ cells_in xs
cells-push y [] h = ap (λ b. more b zero) h
cells-push y (x ∷ xs) h = ap (more (is_cell x)) (cells-push y xs h)

pub cells-gains : (x y : Holder) (xs : List Holder) → is_cell y ≡ false → cells_in (gains x y xs) ≡ cells_in xs
cells-gains x y xs h = go (is_in x xs)
  where
    go : (b : Bool) → cells_in (cond b (xs ++ y ∷ []) xs) ≡ cells_in xs
    go true = cells-push y xs h
    go false = refl

pub cells-without : (x : Holder) (xs : List Holder) → is_cell x ≡ false → cells_in (without x xs) ≡ cells_in xs
cells-without x [] h = refl
cells-without x (w ∷ ws) h = go (same_holder x w) refl (cells-without x ws h)
  where
    go : (b : Bool) → same_holder x w ≡ b → cells_in (without x ws) ≡ cells_in ws → cells_in (cond b ws (w ∷ without x ws)) ≡ more (is_cell w) (cells_in ws)
    go true e ih = ap (λ b. more b (cells_in ws)) (sym (ap is_cell (sym (same-eq x w e)) ∙ h))
    go false e ih = ap (more (is_cell w)) ih

cells-renamed : (x y : Holder) (xs : List Holder) → 1 ≤ tally x xs → more (is_cell x) (cells_in (renamed x y xs)) ≡ more (is_cell y) (cells_in xs)
cells-renamed x y [] h = absurd (omega arith)
cells-renamed x y (w ∷ ws) h = go (same_holder x w) refl h (cells-renamed x y ws)
  where
    go : (b : Bool) → same_holder x w ≡ b → 1 ≤ more b (tally x ws) → (1 ≤ tally x ws → more (is_cell x) (cells_in (renamed x y ws)) ≡ more (is_cell y) (cells_in ws)) →
        more (is_cell x) (cells_in (cond b (y ∷ ws) (w ∷ renamed x y ws))) ≡ more (is_cell y) (more (is_cell w) (cells_in ws))
    go true e h ih = more-swap (is_cell x) (is_cell y) (cells_in ws) ∙ ap (λ v. more (is_cell y) (more (is_cell v) (cells_in ws))) (same-eq x w e)
    go false e h ih = more-swap (is_cell x) (is_cell w) (cells_in (renamed x y ws)) ∙ ap (more (is_cell w)) (ih h) ∙ more-swap (is_cell w) (is_cell y) (cells_in ws)

-- objects
pub cells-list : (k : Kind) (f : List Holder → List Holder) (o : Object) → ((xs : List Holder) → cells_in (f xs) ≡ cells_in xs) → cells_of (with_list k f o) ≡ cells_of o
cells-list Strong f o same = let a = same o.strong in omega arith
cells-list Unowned f o same = let a = same o.unowned in omega arith
cells-list Weak f o same = let a = same o.weak in omega arith

pub cells-lists : (f : List Holder → List Holder) (o : Object) → ((xs : List Holder) → cells_in (f xs) ≡ cells_in xs) → cells_of (lists f o) ≡ cells_of o
cells-lists f o same = let s = same o.strong in let u = same o.unowned in let w = same o.weak in omega arith

pub cells-ended : (last : Bool) (p : ℕ) (k : Kind) (o : Object) → cells_of (ended_if last p k o) ≡ cells_of o
cells-ended true p Strong o = refl
cells-ended true p Unowned o = refl
cells-ended true p Weak o = refl
cells-ended false p k o = refl

pub cells-left : (p : ℕ) (m : Option ℕ) (o : Object) → cells_of (left_slot p m (owing_none (record o { slot = None }))) ≡ cells_of o
cells-left p None o = let w = cells-without Unowneds o.weak refl in omega arith
cells-left p (Some e) o = refl

-- where one summand changes so does the sum
lift : (a b : Bool) (old new all whole : ℕ) → more a new ≡ more b old → whole + old ≡ all + new → more a whole ≡ more b all
lift a b old new all whole one sum =
    let n = more-is a new in
    let o = more-is b old in
    let w = more-is a whole in
    let l = more-is b all in omega arith

cells-put : (k : Kind) (x y : Holder) (o q : Object) → is_in x (list_of k o) ≡ true → q.strong ≡ (with_list k (renamed x y) o).strong → q.unowned ≡ (with_list k (renamed x y) o).unowned → q.weak ≡ (with_list k (renamed x y) o).weak →
    more (is_cell x) (cells_of q) ≡ more (is_cell y) (cells_of o)
cells-put k x y o q inside s u w = go k inside (ap cells_in s) (ap cells_in u) (ap cells_in w)
  where
    go : (k : Kind) → is_in x (list_of k o) ≡ true → cells_in q.strong ≡ cells_in (with_list k (renamed x y) o).strong → cells_in q.unowned ≡ cells_in (with_list k (renamed x y) o).unowned → cells_in q.weak ≡ cells_in (with_list k (renamed x y) o).weak →
        more (is_cell x) (cells_of q) ≡ more (is_cell y) (cells_of o)
    go Strong inside s u w = lift (is_cell x) (is_cell y) (cells_in o.strong) (cells_in (renamed x y o.strong)) (cells_of o) (cells_of q) (cells-renamed x y o.strong (in-tally x o.strong inside)) (omega arith)
    go Unowned inside s u w = lift (is_cell x) (is_cell y) (cells_in o.unowned) (cells_in (renamed x y o.unowned)) (cells_of o) (cells_of q) (cells-renamed x y o.unowned (in-tally x o.unowned inside)) (omega arith)
    go Weak inside s u w = lift (is_cell x) (is_cell y) (cells_in o.weak) (cells_in (renamed x y o.weak)) (cells_of o) (cells_of q) (cells-renamed x y o.weak (in-tally x o.weak inside)) (omega arith)

-- heaps: a change of one object that leaves how many cells refer to it, and one holder in the place of another
pub cells-change : (test : Object → Bool) (f : Object → Object) (os : List Object) → ((o : Object) → cells_of (f o) ≡ cells_of o) → total cells_of (at_first test f os) ≡ total cells_of os
cells-change test f [] same = refl
cells-change test f (o ∷ os) same = go (test o) (cells-change test f os same)
  where
    go : (b : Bool) → total cells_of (at_first test f os) ≡ total cells_of os → total cells_of (cond b (f o ∷ os) (o ∷ at_first test f os)) ≡ cells_of o + total cells_of os
    go true ih = ap (λ n. n + total cells_of os) (same o)
    go false ih = ap (λ n. cells_of o + n) ih

pub cells-become : (x y : Holder) (heap : Heap) → total (held x) heap.objects ≤ 1 → is_some (held_by x heap) ≡ true → more (is_cell x) (full_cells (becomes x y heap)) ≡ more (is_cell y) (full_cells heap)
cells-become x y heap one some =
    let r = some-is (find (holds x) heap.objects) some in
    let o = r.0 in
    let q = lists (renamed x y) o in
    let rest = at_first (holds x) (lists (renamed x y)) heap.objects in
    let put = put-found (holds x) (lists (renamed x y)) heap.objects o r.1 in
    let has = find-passes (holds x) heap.objects o r.1 in
    let most = total-holds (held x) heap.objects rest o q put in
    let parts = one_list x o (renamed x y) (renamed x y) (λ xs _. refl) (renamed-absent x y) (omega arith) has in
    lift (is_cell x) (is_cell y) (cells_of o) (cells_of q) (full_cells heap) (full_cells (becomes x y heap)) (cells-put (kind_in x o) x y o q (in-kind x o has) parts.0 parts.1 parts.2) (total-put cells_of heap.objects rest o q put)
