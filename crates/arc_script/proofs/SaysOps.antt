-- The operation that an accepted line stands for has the words of that line, and is one.
use Rattle.std.proofs.Common.{◌≡◌, ◌≢◌, ℕ, ◌<◌, Bool, true, false, cond, eqb, ◌&&◌, ◌||◌, List, [], ◌∷◌, ◌++◌, length, drop, Option, Some, None, Result, Ok, Err, refl, sym, ap, subst, ◌∙◌, arith, rules, tests, count_by}
use Rattle.std.specs.Prelude.{not, codes, option_map}
use Rattle.std.specs.List.{before_first, after_first}
use Rattle.std.proofs.lemmas.Bool.{eqb-true}
use Rattle.std.proofs.lemmas.List.{length-map}
use Rattle.arc_text.specs.Words.{is_name}
use Rattle.arc_model.specs.declared.shape.Kind.{Kind}
use Rattle.arc_model.specs.declared.shape.Kind.TheVariants as kind
use Rattle.arc_model.specs.declared.shape.RefShape.{RefShape}
use Rattle.arc_script.specs.declared.script.FieldDecl.{FieldDecl}
use Rattle.arc_script.specs.declared.script.ClassDecl.{ClassDecl}
use Rattle.arc_script.specs.declared.script.VarDecl.{VarDecl}
use Rattle.arc_script.specs.declared.script.OpCell.{OpCell}
use Rattle.arc_script.specs.declared.script.OpCell.TheVariants as cell
use Rattle.arc_script.specs.declared.script.Op.{Op}
use Rattle.arc_script.specs.declared.script.Op.TheVariants as op
use Rattle.arc_script.specs.declared.reason.Reason.{Reason}
use Rattle.arc_script.specs.declared.keyword.PairWord.{PairWord}
use Rattle.arc_script.specs.declared.keyword.PairWord.TheVariants as pair
use Rattle.arc_script.specs.declared.keyword.BlockWord.{BlockWord}
use Rattle.arc_script.specs.declared.keyword.BlockWord.TheVariants as block
use Rattle.arc_script.specs.declared.keyword.Keyword.{Keyword}
use Rattle.arc_script.specs.declared.keyword.Keyword.TheVariants as word
use Rattle.arc_script.specs.declared.operation.AtCell.{AtCell}
use Rattle.arc_script.specs.Valid.{name_at, place_of, class_names, var_names, field_names, var_refs, ref_at, owner_fields, cell_ref, IsCell, NotOwner, IsOp, begins_block}
use Rattle.arc_script.specs.Keywords.{keyword_of, is_later}
use Rattle.arc_script.specs.Lookups.{same_kind, class_place, var_place, is_at_sign, is_dot, is_cell_word, is_cell_spelled, field_of, cell_of, has_strong_owner, is_owner}
use Rattle.arc_script.specs.OpLines.{new_of, drop_of, pair_kinds, needs_two, pair_op, pair_of, at_cell, as_get, as_set, block_op, block_of, op_of}
use Rattle.arc_script.specs.Canonical.{cell_word, op_line}
use Rattle.arc_script.proofs.Inverted.{passed, found, ok_is, no_not, neither_not, both, kinds_agree, place_found, cut, text_of_keyword, keyword_back}

-- ---- names

abbrev var_name : List VarDecl → ℕ → List ℕ
var_name vars i = name_at (var_names vars) i

var_found : (vars : List VarDecl) (w : List ℕ) (i : ℕ) → var_place vars w ≡ Some i → (i < length vars) × (w ≡ var_name vars i)
var_found vars w i h =
    let f = place_found (var_names vars) w i h in
    let lt = f.0 in
    let same : length (var_names vars) ≡ length vars = length-map vars (λ (v : VarDecl). v.name) in
    (omega arith, sym f.1)

pub class_found : (classes : List ClassDecl) (w : List ℕ) (i : ℕ) → class_place classes w ≡ Some i → (i < length classes) × (w ≡ name_at (class_names classes) i)
class_found classes w i h =
    let f = place_found (class_names classes) w i h in
    let lt = f.0 in
    let same : length (class_names classes) ≡ length classes = length-map classes (λ (c : ClassDecl). c.name) in
    (omega arith, sym f.1)

ref_is : (r : RefShape) (k : Kind) (c : ℕ) → r.kind ≡ k → r.class ≡ c → r ≡ record { kind = k; class = c }
ref_is r k c h g = ap (λ (x : Kind). let s : RefShape = record { kind = x; class = r.class } in s) h ∙ ap (λ (x : ℕ). let s : RefShape = record { kind = k; class = x } in s) g

refs_agree : (r s : RefShape) → r.kind ≡ s.kind → r.class ≡ s.class → r ≡ s
refs_agree r s h g = ref_is r s.kind s.class h g

-- ---- cells

mapped : {A B : Type 0} (f : A → B) (o : Option A) (y : B) → option_map f o ≡ Some y → (x : A) × (o ≡ Some x) × (f x ≡ y)
mapped f None y e = absurd cc
mapped f (Some x) y e = (x, refl, cc)

at_sign : (w : List ℕ) → is_at_sign w ≡ true → w ≡ 64 ∷ drop 1 w
at_sign [] h = absurd cc
at_sign (b ∷ bs) h = ap (λ (x : ℕ). x ∷ bs) (eqb-true _ _ h)

field_found : (classes : List ClassDecl) (globals vars : List VarDecl) (o : Option ℕ) (owner_word field : List ℕ) (c : OpCell) → var_place vars owner_word ≡ o → field_of classes vars o field ≡ Some c → has_strong_owner vars c ≡ true
    → IsCell classes globals vars c × (owner_word ++ 46 ∷ field ≡ cell_word classes globals vars c)
field_found classes globals vars None owner_word field c at e strong = absurd cc
field_found classes globals vars (Some owner) owner_word field c at e strong =
    let m = mapped (λ f. cell.Field owner f) (place_of (field_names (owner_fields classes vars owner)) field) c e in
    let v = var_found vars owner_word owner at in
    let f = place_found (field_names (owner_fields classes vars owner)) field m.0 m.1 in
    let lt = f.0 in
    let same : length (field_names (owner_fields classes vars owner)) ≡ length (owner_fields classes vars owner) = length-map (owner_fields classes vars owner) (λ (d : FieldDecl). d.name) in
    let within : m.0 < length (owner_fields classes vars owner) = omega arith in
    subst (λ (d : OpCell). has_strong_owner vars d ≡ true → IsCell classes globals vars d × (owner_word ++ 46 ∷ field ≡ cell_word classes globals vars d)) m.2
    (λ (s : has_strong_owner vars (cell.Field owner m.0) ≡ true).
    ((v.0, kinds_agree _ kind.Strong s, within), ap (λ (n : List ℕ). n ++ 46 ∷ field) v.1 ∙ ap (λ (n : List ℕ). var_name vars owner ++ 46 ∷ n) (sym f.1))) strong

cell_or : (classes : List ClassDecl) (globals vars : List VarDecl) (w : List ℕ) (c : OpCell) (b : Bool) → is_at_sign w ≡ b → (b || eqb (count_by is_dot w) 1) ≡ true
    → cond b (option_map (λ g. cell.Global g) (var_place globals (drop 1 w))) (field_of classes vars (var_place vars (before_first is_dot w)) (after_first is_dot w)) ≡ Some c
    → has_strong_owner vars c ≡ true → IsCell classes globals vars c × (w ≡ cell_word classes globals vars c)
cell_or classes globals vars w c true at parts e strong =
    let m = mapped (λ g. cell.Global g) (var_place globals (drop 1 w)) c e in
    let v = var_found globals (drop 1 w) m.0 m.1 in
    subst (λ (d : OpCell). IsCell classes globals vars d × (w ≡ cell_word classes globals vars d)) m.2 (v.0, at_sign w at ∙ ap (λ (n : List ℕ). 64 ∷ n) v.1)
cell_or classes globals vars w c false at parts e strong =
    let f = field_found classes globals vars (var_place vars (before_first is_dot w)) (before_first is_dot w) (after_first is_dot w) c refl e strong in
    let one : count_by is_dot w ≡ 1 = eqb-true _ _ parts in
    (f.0, cut 46 w (omega arith) ∙ f.1)

cell_found : (classes : List ClassDecl) (globals vars : List VarDecl) (w : List ℕ) (c : OpCell) → is_cell_word w ≡ true → cell_of classes globals vars w ≡ Some c → has_strong_owner vars c ≡ true
    → IsCell classes globals vars c × (w ≡ cell_word classes globals vars c)
cell_found classes globals vars w c parts e strong = cell_or classes globals vars w c (is_at_sign w) refl parts e strong

record AtCellIs (classes : List ClassDecl) (globals vars : List VarDecl) (var word_of_cell : List ℕ) (at : AtCell) : Type 0 where
  there : at.var < length vars
  is_cell : IsCell classes globals vars at.cell
  agree : ref_at (var_refs vars) at.var ≡ cell_ref classes globals vars at.cell
  var_text : var ≡ var_name vars at.var
  cell_is : word_of_cell ≡ cell_word classes globals vars at.cell

at_is : (classes : List ClassDecl) (globals vars : List VarDecl) (var word_of_cell : List ℕ) (at : AtCell) → at_cell classes globals vars var word_of_cell ≡ Ok at → AtCellIs classes globals vars var word_of_cell at
at_is classes globals vars var word_of_cell at e =
    let a = passed (not (is_cell_word word_of_cell)) _ _ at e in
    let b = passed (not (is_name var) || not (is_cell_spelled word_of_cell)) _ _ at a.1 in
    let v = found (var_place vars var) _ _ at b.1 in
    let c = found (cell_of classes globals vars word_of_cell) _ _ at v.2 in
    let k = passed (not (has_strong_owner vars c.0) || not (same_kind (ref_at (var_refs vars) v.0).kind (cell_ref classes globals vars c.0).kind)) _ _ at c.2 in
    let s = passed (not (eqb (ref_at (var_refs vars) v.0).class (cell_ref classes globals vars c.0).class)) _ _ at k.1 in
    let kinds = neither_not (has_strong_owner vars c.0) _ k.0 in
    let there = var_found vars var v.0 v.1 in
    let is = cell_found classes globals vars word_of_cell c.0 (no_not _ a.0) c.1 kinds.0 in
    subst (AtCellIs classes globals vars var word_of_cell) (sym (ok_is _ at s.1)) (record {
      there = there.0;
      is_cell = is.0;
      agree = refs_agree _ _ (kinds_agree _ _ kinds.1) (eqb-true _ _ (no_not _ s.0));
      var_text = there.1;
      cell_is = is.1;
    })

-- ---- operations

abbrev Stands : List ClassDecl → List VarDecl → List VarDecl → Op → List (List ℕ) → Type 0
Stands classes globals vars o words = (words ≡ op_line classes globals vars o) × IsOp classes globals vars o

three : (a b c d : List ℕ) (k : List ℕ) → a ≡ b → c ≡ d → k ∷ a ∷ c ∷ [] ≡ k ∷ b ∷ d ∷ []
three a b c d k h g = ap (λ (x : List ℕ). k ∷ x ∷ c ∷ []) h ∙ ap (λ (x : List ℕ). k ∷ b ∷ x ∷ []) g

new_is : (classes : List ClassDecl) (globals vars : List VarDecl) (to class : List ℕ) (o : Op) → new_of classes vars to class ≡ Ok o → Stands classes globals vars o (codes "new" ∷ to ∷ class ∷ [])
new_is classes globals vars to class o e =
    let a = passed (not (is_name to) || not (is_name class)) _ _ o e in
    let t = found (var_place vars to) _ _ o a.1 in
    let c = found (class_place classes class) _ _ o t.2 in
    let k = passed (not (same_kind (ref_at (var_refs vars) t.0).kind kind.Strong)) _ _ o c.2 in
    let s = passed (not (eqb (ref_at (var_refs vars) t.0).class c.0)) _ _ o k.1 in
    let v = var_found vars to t.0 t.1 in
    let d = class_found classes class c.0 c.1 in
    subst (λ (p : Op). Stands classes globals vars p (codes "new" ∷ to ∷ class ∷ [])) (sym (ok_is _ o s.1))
    (three to _ class _ (codes "new") v.1 d.1, (v.0, d.0, ref_is _ kind.Strong c.0 (kinds_agree _ kind.Strong (no_not _ k.0)) (eqb-true _ _ (no_not _ s.0))))

drop_is : (classes : List ClassDecl) (globals vars : List VarDecl) (var : List ℕ) (o : Op) → drop_of vars var ≡ Ok o → Stands classes globals vars o (codes "drop" ∷ var ∷ [])
drop_is classes globals vars var o e =
    let a = passed (not (is_name var)) _ _ o e in
    let t = found (var_place vars var) _ _ o a.1 in
    let v = var_found vars var t.0 t.1 in
    subst (λ (p : Op). Stands classes globals vars p (codes "drop" ∷ var ∷ [])) (sym (ok_is _ o t.2)) (ap (λ (x : List ℕ). codes "drop" ∷ x ∷ []) v.1, v.0)

block_shows : (classes : List ClassDecl) (globals vars : List VarDecl) (w : BlockWord) (var : List ℕ) (v : ℕ) → v < length vars → var ≡ var_name vars v
    → Stands classes globals vars (block_op w v) (text_of_keyword (word.Block w) ∷ var ∷ [])
block_shows classes globals vars block.IfNil var v there text = (ap (λ (x : List ℕ). codes "ifnil" ∷ x ∷ []) text, there)
block_shows classes globals vars block.IfSome var v there text = (ap (λ (x : List ℕ). codes "ifsome" ∷ x ∷ []) text, there)

block_is : (classes : List ClassDecl) (globals vars : List VarDecl) (w : BlockWord) (var : List ℕ) (o : Op) → block_of vars w var ≡ Ok o → Stands classes globals vars o (text_of_keyword (word.Block w) ∷ var ∷ [])
block_is classes globals vars w var o e =
    let a = passed (not (is_name var)) _ _ o e in
    let t = found (var_place vars var) _ _ o a.1 in
    let v = var_found vars var t.0 t.1 in
    subst (λ (p : Op). Stands classes globals vars p (text_of_keyword (word.Block w) ∷ var ∷ [])) (sym (ok_is _ o t.2)) (block_shows classes globals vars w var t.0 v.0 v.1)

other_than : (k l : Kind) → not (same_kind k l) ≡ true → k ≢ l
other_than kind.Strong l h e = absurd (subst (λ (x : Kind). not (same_kind kind.Strong x) ≡ true → ⊥) e (λ t. cc) h)
other_than kind.Unowned l h e = absurd (subst (λ (x : Kind). not (same_kind kind.Unowned x) ≡ true → ⊥) e (λ t. cc) h)
other_than kind.Weak l h e = absurd (subst (λ (x : Kind). not (same_kind kind.Weak x) ≡ true → ⊥) e (λ t. cc) h)

two_of : (t o : ℕ) → eqb t o ≡ false → t ≢ o
two_of t o h = search (rules, tests)

-- what a pair of variables has to show
pair_shows : (classes : List ClassDecl) (globals vars : List VarDecl) (w : PairWord) (to of : List ℕ) (t o : ℕ) → t < length vars → o < length vars → to ≡ var_name vars t → of ≡ var_name vars o
    → pair_kinds w (ref_at (var_refs vars) t).kind (ref_at (var_refs vars) o).kind ≡ true → (ref_at (var_refs vars) t).class ≡ (ref_at (var_refs vars) o).class → (needs_two w && eqb t o) ≡ false
    → Stands classes globals vars (pair_op w t o) (text_of_keyword (word.Pair w) ∷ to ∷ of ∷ [])
pair_shows classes globals vars pair.Copy to of t o tv ov tn on k c two =
    (three to _ of _ (codes "copy") tn on, (record { to_there = tv; of_there = ov; kind_of_to = kinds_agree _ _ k; kind_of_of = refl; one_class = c }, two_of t o two))
pair_shows classes globals vars pair.Move to of t o tv ov tn on k c two =
    (three to _ of _ (codes "move") tn on, (record { to_there = tv; of_there = ov; kind_of_to = kinds_agree _ _ k; kind_of_of = refl; one_class = c }, two_of t o two))
pair_shows classes globals vars pair.Unown to of t o tv ov tn on k c two =
    let p = both (same_kind (ref_at (var_refs vars) t).kind kind.Unowned) _ k in
    (three to _ of _ (codes "unown") tn on, record { to_there = tv; of_there = ov; kind_of_to = kinds_agree _ kind.Unowned p.0; kind_of_of = kinds_agree _ kind.Strong p.1; one_class = c })
pair_shows classes globals vars pair.Weak to of t o tv ov tn on k c two =
    let p = both (same_kind (ref_at (var_refs vars) t).kind kind.Weak) _ k in
    (three to _ of _ (codes "weak") tn on, record { to_there = tv; of_there = ov; kind_of_to = kinds_agree _ kind.Weak p.0; kind_of_of = kinds_agree _ kind.Strong p.1; one_class = c })
pair_shows classes globals vars pair.Load to of t o tv ov tn on k c two =
    let p = both (same_kind (ref_at (var_refs vars) t).kind kind.Strong) _ k in
    (three to _ of _ (codes "load") tn on, (record { to_there = tv; of_there = ov; kind_of_to = kinds_agree _ kind.Strong p.0; kind_of_of = refl; one_class = c }, other_than _ kind.Strong p.1))

pair_is : (classes : List ClassDecl) (globals vars : List VarDecl) (w : PairWord) (to of : List ℕ) (p : Op) → pair_of vars w to of ≡ Ok p → Stands classes globals vars p (text_of_keyword (word.Pair w) ∷ to ∷ of ∷ [])
pair_is classes globals vars w to of p e =
    let a = passed (not (is_name to) || not (is_name of)) _ _ p e in
    let t = found (var_place vars to) _ _ p a.1 in
    let o = found (var_place vars of) _ _ p t.2 in
    let k = passed (not (pair_kinds w (ref_at (var_refs vars) t.0).kind (ref_at (var_refs vars) o.0).kind)) _ _ p o.2 in
    let c = passed (not (eqb (ref_at (var_refs vars) t.0).class (ref_at (var_refs vars) o.0).class)) _ _ p k.1 in
    let two = passed (needs_two w && eqb t.0 o.0) _ _ p c.1 in
    let tv = var_found vars to t.0 t.1 in
    let ov = var_found vars of o.0 o.1 in
    subst (λ (q : Op). Stands classes globals vars q (text_of_keyword (word.Pair w) ∷ to ∷ of ∷ [])) (sym (ok_is _ p two.1))
    (pair_shows classes globals vars w to of t.0 o.0 tv.0 ov.0 tv.1 ov.1 (no_not _ k.0) (eqb-true _ _ (no_not _ c.0)) two.0)

get_or_not : (classes : List ClassDecl) (globals vars : List VarDecl) (to word_of_cell : List ℕ) (r : Result AtCell Reason) (o : Op) → at_cell classes globals vars to word_of_cell ≡ r → as_get r ≡ Ok o
    → Stands classes globals vars o (codes "get" ∷ to ∷ word_of_cell ∷ [])
get_or_not classes globals vars to word_of_cell (Ok at) o h e =
    let is = at_is classes globals vars to word_of_cell at h in
    subst (λ (p : Op). Stands classes globals vars p (codes "get" ∷ to ∷ word_of_cell ∷ [])) (sym (ok_is _ o e)) (three to _ word_of_cell _ (codes "get") is.var_text is.cell_is, (is.there, is.is_cell, is.agree))
get_or_not classes globals vars to word_of_cell (Err why) o h e = absurd cc

not_owner : (var : ℕ) (c : OpCell) → is_owner var c ≡ false → NotOwner var c
not_owner var (cell.Field owner field) h = two_of var owner h
not_owner var (cell.Global g) h = tt

set_or_not : (classes : List ClassDecl) (globals vars : List VarDecl) (word_of_cell from : List ℕ) (r : Result AtCell Reason) (o : Op) → at_cell classes globals vars from word_of_cell ≡ r → as_set r ≡ Ok o
    → Stands classes globals vars o (codes "set" ∷ word_of_cell ∷ from ∷ [])
set_or_not classes globals vars word_of_cell from (Ok at) o h e =
    let is = at_is classes globals vars from word_of_cell at h in
    let other = passed (is_owner at.var at.cell) _ _ o e in
    subst (λ (p : Op). Stands classes globals vars p (codes "set" ∷ word_of_cell ∷ from ∷ [])) (sym (ok_is _ o other.1))
    (three word_of_cell _ from _ (codes "set") is.cell_is is.var_text, (is.there, is.is_cell, is.agree, not_owner at.var at.cell other.0))
set_or_not classes globals vars word_of_cell from (Err why) o h e = absurd cc

-- an accepted line has the words of its operation
pub op_is : (classes : List ClassDecl) (globals vars : List VarDecl) (k : Keyword) (words : List (List ℕ)) (o : Op) → op_of classes globals vars k words ≡ Ok o
    → (text_of_keyword k ∷ words ≡ op_line classes globals vars o) × IsOp classes globals vars o
op_is classes globals vars word.New (to ∷ class ∷ []) o e = new_is classes globals vars to class o e
op_is classes globals vars word.Drop (var ∷ []) o e = drop_is classes globals vars var o e
op_is classes globals vars (word.Pair w) (to ∷ of ∷ []) o e = pair_is classes globals vars w to of o e
op_is classes globals vars word.Get (to ∷ c ∷ []) o e = get_or_not classes globals vars to c (at_cell classes globals vars to c) o refl e
op_is classes globals vars word.Set (c ∷ from ∷ []) o e = set_or_not classes globals vars c from (at_cell classes globals vars from c) o refl e
op_is classes globals vars (word.Block w) (var ∷ []) o e = block_is classes globals vars w var o e
op_is classes globals vars k words o e = absurd cc

-- the first word of a line that begins a block
block_word : (k : Keyword) (words ws : List (List ℕ)) (first : List ℕ) → text_of_keyword k ∷ words ≡ first ∷ ws → keyword_of first ≡ Some k
block_word k words ws first e = subst (λ (w : List ℕ). keyword_of w ≡ Some k) (let h : text_of_keyword k ≡ first = cc in h) (keyword_back k)

keyword_known : (k : Keyword) (o : Option Keyword) (l : Keyword) → o ≡ Some k → o ≡ Some l → k ≡ l
keyword_known k o l h g = cc

pub begins_later : (classes : List ClassDecl) (globals vars : List VarDecl) (k : Keyword) (words : List (List ℕ)) (o : Op) → text_of_keyword k ∷ words ≡ op_line classes globals vars o → begins_block o ≡ true → is_later k ≡ true
begins_later classes globals vars k words (op.IfNil var to) e h = subst (λ (l : Keyword). is_later l ≡ true) (keyword_known (word.Block block.IfNil) _ k refl (block_word k words _ (codes "ifnil") e)) refl
begins_later classes globals vars k words (op.IfSome var to) e h = subst (λ (l : Keyword). is_later l ≡ true) (keyword_known (word.Block block.IfSome) _ k refl (block_word k words _ (codes "ifsome") e)) refl
begins_later classes globals vars k words o e h = absurd cc
