-- Blocks: what is nested stays so as operations are added and blocks end.
use Rattle.std.proofs.Common.{◌≡◌, ℕ, zero, suc, ◌+◌, ◌<◌, Bool, true, false, List, [], ◌∷◌, ◌++◌, length, Option, Some, None, refl, sym, ap, subst, ◌∙◌, append_assoc, append-nil, arith}
use Rattle.std.specs.Prelude.{slice_get, slice_set}
use Rattle.std.specs.List.{AllByRecursion}
use Rattle.std.proofs.lemmas.List.{length-append}
use Rattle.std.proofs.Math.Seq.{set-append_seam}
use Rattle.arc_script.specs.declared.script.Op.{Op}
use Rattle.arc_script.specs.declared.script.Op.TheVariants as op
use Rattle.arc_script.specs.declared.script.ClassDecl.{ClassDecl}
use Rattle.arc_script.specs.declared.script.VarDecl.{VarDecl}
use Rattle.arc_script.specs.Valid.{begins_block, goes_to, Nested, none, operation, block, OpOfVersion, IsOp}
use Rattle.arc_script.specs.BodyLines.{ended_by}

pub nested_append : {deep at : ℕ} (xs ys : List Op) (n : ℕ) → at + length xs ≡ n → Nested deep at xs → Nested deep n ys → Nested deep at (xs ++ ys)
nested_append {deep} {at} xs ys n e none more = subst (λ (m : ℕ). Nested deep m ys) (let m : n ≡ at = omega arith in m) more
nested_append {deep} {at} xs ys n e (operation o ops isnt rest) more = operation o (ops ++ ys) isnt (nested_append ops ys n (omega arith) rest more)
nested_append {deep} {at} xs ys n e (block {deep = inmost} o inside ops is in_it rest) more =
    let long : length (inside ++ ops) ≡ length inside + length ops = length-append inside ops in
    subst (λ (os : List Op). Nested (suc inmost) at (goes_to (suc at + length inside) o ∷ os)) (sym (append_assoc inside ops ys))
    (block o inside (ops ++ ys) is in_it (nested_append ops ys n (omega arith) rest more))

-- the operations so far, where blocks are open: room is how many more may be opened
abbrev pub Pending : List ℕ → ℕ → List Op → Type 0
Pending [] room ops = (room ≡ 8) × Nested room 0 ops
Pending (at ∷ opened) room ops =
    (outer : List Op) × (o : Op) × (inner : List Op) × (ops ≡ outer ++ o ∷ inner) × (at ≡ length outer) × (begins_block o ≡ true) × Nested room (suc at) inner × Pending opened (suc room) outer

pub nothing_pending : Pending [] 8 []
nothing_pending = (refl, none)

pub room_left : (opened : List ℕ) (room : ℕ) (ops : List Op) → Pending opened room ops → room + length opened ≡ 8
room_left [] room ops p = let e = p.0 in omega arith
room_left (at ∷ opened) room ops (outer, o, inner, e, l, is, n, p) = let r = room_left opened (suc room) outer p in omega arith

pub pending_append : (opened : List ℕ) (room : ℕ) (ops more : List Op) → Pending opened room ops → Nested room (length ops) more → Pending opened room (ops ++ more)
pending_append [] room ops more p n = (p.0, nested_append ops more (length ops) (omega arith) p.1 n)
pending_append (at ∷ opened) room ops more (outer, o, inner, e, l, is, n, p) m =
    let long : length ops ≡ length outer + suc (length inner) = ap length e ∙ length-append outer (o ∷ inner) in
    (outer, o, inner ++ more, ap (λ (os : List Op). os ++ more) e ∙ append_assoc outer (o ∷ inner) more, l, is, nested_append inner more (length ops) (omega arith) n m, p)

pub pending_op : (opened : List ℕ) (room : ℕ) (ops : List Op) (o : Op) → begins_block o ≡ false → Pending opened room ops → Pending opened room (ops ++ o ∷ [])
pending_op opened room ops o isnt p = pending_append opened room ops (o ∷ []) p (operation o [] isnt none)

pub pending_open : (opened : List ℕ) (room : ℕ) (ops : List Op) (o : Op) → begins_block o ≡ true → Pending opened (suc room) ops → Pending (length ops ∷ opened) room (ops ++ o ∷ [])
pending_open opened room ops o is p = (ops, o, [], refl, refl, is, none, p)

-- ---- the end of a block

get_seam : (outer inner : List Op) (o : Op) → slice_get (outer ++ o ∷ inner) (length outer) ≡ Some o
get_seam [] inner o = refl
get_seam (p ∷ outer) inner o = get_seam outer inner o

pub ended_seam : (outer inner : List Op) (o : Op) → ended_by (outer ++ o ∷ inner) (length outer) (slice_get (outer ++ o ∷ inner) (length outer)) ≡ outer ++ goes_to (length (outer ++ o ∷ inner)) o ∷ inner
ended_seam outer inner o = ap (ended_by (outer ++ o ∷ inner) (length outer)) (get_seam outer inner o) ∙ set-append_seam outer o inner (goes_to (length (outer ++ o ∷ inner)) o)

-- what is known once the inmost block has ended
pub record HasEnded (opened : List ℕ) (room : ℕ) (ops ended : List Op) : Type 1 where
  pub nested : Pending opened (suc room) ended
  pub long : length ended ≡ length ops
  pub each : (P : Op → Type 0) → ((to : ℕ) (o : Op) → P o → P (goes_to to o)) → AllByRecursion P ops → AllByRecursion P ended

one_changed : (P : Op → Type 0) (outer inner : List Op) (o p : Op) → (P o → P p) → AllByRecursion P (outer ++ o ∷ inner) → AllByRecursion P (outer ++ p ∷ inner)
one_changed P [] inner o p f h = (f h.0, h.1)
one_changed P (q ∷ outer) inner o p f h = (h.0, one_changed P outer inner o p f h.1)

ended_is : (opened : List ℕ) (room : ℕ) (outer : List Op) (o : Op) (inner : List Op) → begins_block o ≡ true → Nested room (suc (length outer)) inner → Pending opened (suc room) outer
    → HasEnded opened room (outer ++ o ∷ inner) (outer ++ goes_to (length (outer ++ o ∷ inner)) o ∷ inner)
ended_is opened room outer o inner is n p =
    let n_all = length (outer ++ o ∷ inner) in
    let long : n_all ≡ length outer + suc (length inner) = length-append outer (o ∷ inner) in
    let to : suc (length outer) + length inner ≡ n_all = omega arith in
    let made : Nested (suc room) (length outer) (goes_to (suc (length outer) + length inner) o ∷ (inner ++ [])) = block o inner [] is n none in
    record {
      nested = pending_append opened (suc room) outer (goes_to n_all o ∷ inner) p
          (subst (λ (os : List Op). Nested (suc room) (length outer) (goes_to n_all o ∷ os)) (append-nil inner) (subst (λ (m : ℕ). Nested (suc room) (length outer) (goes_to m o ∷ (inner ++ []))) to made));
      long = length-append outer (goes_to n_all o ∷ inner) ∙ sym long;
      each = λ P f h. one_changed P outer inner o (goes_to n_all o) (f n_all o) h;
    }

pub pending_end : (at : ℕ) (opened : List ℕ) (room : ℕ) (ops : List Op) → Pending (at ∷ opened) room ops → HasEnded opened room ops (ended_by ops at (slice_get ops at))
pending_end at opened room ops (outer, o, inner, e, l, is, n, p) =
    let in_it : Nested room (suc (length outer)) inner = subst (λ (m : ℕ). Nested room (suc m) inner) l n in
    let ended = ended_is opened room outer o inner is in_it p in
    let there : HasEnded opened room (outer ++ o ∷ inner) (ended_by (outer ++ o ∷ inner) (length outer) (slice_get (outer ++ o ∷ inner) (length outer))) =
    subst (HasEnded opened room (outer ++ o ∷ inner)) (sym (ended_seam outer inner o)) ended in
    subst (λ (os : List Op). HasEnded opened room os (ended_by os at (slice_get os at))) (sym e)
    (subst (λ (m : ℕ). HasEnded opened room (outer ++ o ∷ inner) (ended_by (outer ++ o ∷ inner) m (slice_get (outer ++ o ∷ inner) m))) (sym l) there)

pub begins_still : (to : ℕ) (o : Op) → begins_block (goes_to to o) ≡ begins_block o
begins_still to (op.IfNil var old) = refl
begins_still to (op.IfSome var old) = refl
begins_still to o = refl

pub is_op_still : (classes : List ClassDecl) (globals vars : List VarDecl) (to : ℕ) (o : Op) → IsOp classes globals vars o → IsOp classes globals vars (goes_to to o)
is_op_still classes globals vars to (op.IfNil var old) is = is
is_op_still classes globals vars to (op.IfSome var old) is = is
is_op_still classes globals vars to o is = is

pub of_version_still : (version to : ℕ) (o : Op) → OpOfVersion version o → OpOfVersion version (goes_to to o)
of_version_still version to (op.IfNil var old) is = is
of_version_still version to (op.IfSome var old) is = is
of_version_still version to o is = is
