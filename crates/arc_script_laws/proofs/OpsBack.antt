-- The words of an operation are accepted as that operation.
use Rattle.std.proofs.Common.{◌≡◌, ◌≢◌, ℕ, zero, suc, ◌<◌, Bool, true, false, eqb, ◌&&◌, List, [], ◌∷◌, ◌++◌, length, map, get_or, Some, Ok, refl, ap, arith, rules, tests, count_by}
use Rattle.std.specs.Prelude.{not}
use Rattle.std.specs.List.{AllByRecursion, before_first, after_first}
use Rattle.std.proofs.lemmas.List.{length-map}
use Rattle.arc_text.specs.Words.{is_name}
use Rattle.arc_model.specs.declared.shape.Kind.TheVariants as kind
use Rattle.arc_model.specs.declared.shape.RefShape.{RefShape}
use Rattle.arc_script.specs.declared.script.FieldDecl.{FieldDecl}
use Rattle.arc_script.specs.declared.script.ClassDecl.{ClassDecl}
use Rattle.arc_script.specs.declared.script.VarDecl.{VarDecl}
use Rattle.arc_script.specs.declared.script.OpCell.{OpCell}
use Rattle.arc_script.specs.declared.script.OpCell.TheVariants as cell
use Rattle.arc_script.specs.declared.script.Op.{Op}
use Rattle.arc_script.specs.declared.script.Op.TheVariants as op
use Rattle.arc_script.specs.declared.keyword.PairWord.{PairWord}
use Rattle.arc_script.specs.declared.keyword.PairWord.TheVariants as pair
use Rattle.arc_script.specs.declared.keyword.BlockWord.TheVariants as block
use Rattle.arc_script.specs.declared.keyword.Keyword.{Keyword}
use Rattle.arc_script.specs.declared.keyword.Keyword.TheVariants as word
use Rattle.arc_script.specs.Valid.{name_at, place_of, AreNames, field_names, class_names, var_names, var_refs, ref_at, owner_fields, cell_ref, IsCell, NotOwner, IsOp, goes_to, AreFields, AreClasses, AreVars}
use Rattle.arc_script.specs.Lookups.{same_kind, var_place, is_at_sign, is_cell_word, is_cell_spelled, cell_of, has_strong_owner, is_owner}
use Rattle.arc_script.specs.OpLines.{pair_kinds, needs_two, pair_op, pair_of, at_cell, op_of}
use Rattle.arc_script.specs.Canonical.{cell_word}
use Rattle.arc_script_laws.proofs.FormsBack.{is_mark, before_mark, after_mark, no_marks, marks, dotless, no_sign, same_of, not_same, class_at}

-- ---- names

abbrev pub var_name : List VarDecl → ℕ → List ℕ
var_name vars i = name_at (var_names vars) i

var_at : (limit classes : ℕ) (vars : List VarDecl) → AreVars limit classes vars → (i : ℕ) → i < length vars → (var_place vars (var_name vars i) ≡ Some i) × (is_name (var_name vars i) ≡ true)
var_at limit classes vars are i lt =
    let long : length (var_names vars) ≡ length vars = length-map vars (λ (v : VarDecl). v.name) in
    (are.names.apart i (omega arith), are.names.spelled i (omega arith))

-- ---- cells

abbrev AllFields : List ClassDecl → Type 0
AllFields classes = AllByRecursion (λ (c : ClassDecl). AreFields (length classes) c.fields) classes

no_fields : AreFields 0 []
no_fields = record { names = record { few = omega arith; spelled = λ i h. absurd (omega arith); apart = λ i h. absurd (omega arith) }; of_classes = tt }

pub fields_of : (n : ℕ) (classes : List ClassDecl) (i : ℕ) → AllByRecursion (λ (c : ClassDecl). AreFields n c.fields) classes → AreNames 8 (field_names (get_or (map (λ (c : ClassDecl). c.fields) classes) i []))
fields_of n [] i h = no_fields.names
fields_of n (c ∷ cs) zero h = h.0.names
fields_of n (c ∷ cs) (suc i) h = fields_of n cs i h.1

record CellBack (classes : List ClassDecl) (globals vars : List VarDecl) (c : OpCell) : Type 0 where
  parts : is_cell_word (cell_word classes globals vars c) ≡ true
  spelled : is_cell_spelled (cell_word classes globals vars c) ≡ true
  found : cell_of classes globals vars (cell_word classes globals vars c) ≡ Some c
  strong : has_strong_owner vars c ≡ true

module _ (classes : List ClassDecl) (are : AreClasses classes) (globals : List VarDecl) (cells : AreVars 64 (length classes) globals) (vars : List VarDecl) (known : AreVars 256 (length classes) vars) where
  cell_back : (c : OpCell) → IsCell classes globals vars c → CellBack classes globals vars c
  cell_back (cell.Global g) h =
      let at = var_at 64 (length classes) globals cells g h in
      let place = at.0 in
      let name = at.1 in
      record { parts = refl; spelled = name; found = rw place refl; strong = refl }
  cell_back (cell.Field owner field) h =
      let at = var_at 256 (length classes) vars known owner h.0 in
      let place = at.0 in
      let name = at.1 in
      let names = fields_of (length classes) classes (ref_at (var_refs vars) owner).class are.fields in
      let long : length (field_names (owner_fields classes vars owner)) ≡ length (owner_fields classes vars owner) = length-map (owner_fields classes vars owner) (λ (f : FieldDecl). f.name) in
      let lt = h.2 in
      let f_name : is_name (name_at (field_names (owner_fields classes vars owner)) field) ≡ true = names.spelled field (omega arith) in
      let f_place : place_of (field_names (owner_fields classes vars owner)) (name_at (field_names (owner_fields classes vars owner)) field) ≡ Some field = names.apart field (omega arith) in
      let o = var_name vars owner in
      let f = name_at (field_names (owner_fields classes vars owner)) field in
      let sign : is_at_sign (o ++ 46 ∷ f) ≡ false = no_sign o (46 ∷ f) name in
      let one : count_by (is_mark 46) (o ++ 46 ∷ f) ≡ 1 = marks 46 0 o f (dotless o name) (no_marks 46 f (dotless f f_name)) in
      let first : before_first (is_mark 46) (o ++ 46 ∷ f) ≡ o = before_mark 46 o f (dotless o name) in
      let second : after_first (is_mark 46) (o ++ 46 ∷ f) ≡ f = after_mark 46 o f (dotless o name) in
      record {
        parts = rw (sign, one) refl;
        spelled = rw (sign, first, second, name, f_name) refl;
        found = rw (sign, first, second, place, f_place) refl;
        strong = same_of _ _ h.1;
      }

  at_back : (var : ℕ) (c : OpCell) → var < length vars → IsCell classes globals vars c → ref_at (var_refs vars) var ≡ cell_ref classes globals vars c
      → at_cell classes globals vars (var_name vars var) (cell_word classes globals vars c) ≡ Ok (record { var = var; cell = c })
  at_back var c lt is agree =
      let at = var_at 256 (length classes) vars known var lt in
      let place = at.0 in
      let name = at.1 in
      let back = cell_back c is in
      let parts = back.parts in
      let spelled = back.spelled in
      let found = back.found in
      let strong = back.strong in
      let kinds : same_kind (ref_at (var_refs vars) var).kind (cell_ref classes globals vars c).kind ≡ true = same_of _ _ (ap (λ (r : RefShape). r.kind) agree) in
      let same : (ref_at (var_refs vars) var).class ≡ (cell_ref classes globals vars c).class = ap (λ (r : RefShape). r.class) agree in
      let one : eqb (ref_at (var_refs vars) var).class (cell_ref classes globals vars c).class ≡ true = search (rules, tests) in
      rw (parts, name, spelled, place, found, strong, kinds, one) refl

  pair_back : (w : PairWord) (to of : ℕ) → to < length vars → of < length vars → pair_kinds w (ref_at (var_refs vars) to).kind (ref_at (var_refs vars) of).kind ≡ true
      → (ref_at (var_refs vars) to).class ≡ (ref_at (var_refs vars) of).class → (needs_two w && eqb to of) ≡ false → pair_of vars w (var_name vars to) (var_name vars of) ≡ Ok (pair_op w to of)
  pair_back w to of t o kinds same two =
      let at_to = var_at 256 (length classes) vars known to t in
      let at_of = var_at 256 (length classes) vars known of o in
      let place_to = at_to.0 in
      let name_to = at_to.1 in
      let place_of_it = at_of.0 in
      let name_of_it = at_of.1 in
      let one : eqb (ref_at (var_refs vars) to).class (ref_at (var_refs vars) of).class ≡ true = search (rules, tests) in
      rw (name_to, name_of_it, place_to, place_of_it, kinds, one, two) refl

  apart_two : (t o : ℕ) → t ≢ o → eqb t o ≡ false
  apart_two t o h = search (rules, tests)

  not_owner : (v : ℕ) (c : OpCell) → NotOwner v c → is_owner v c ≡ false
  not_owner v (cell.Field owner field) h = apart_two v owner h
  not_owner v (cell.Global g) h = refl

  -- the keyword of an operation, and the words behind it
  abbrev pub op_keyword : Op → Keyword
  op_keyword (op.New to class) = word.New
  op_keyword (op.Copy to from) = word.Pair pair.Copy
  op_keyword (op.Drop var) = word.Drop
  op_keyword (op.Move to from) = word.Pair pair.Move
  op_keyword (op.Unown to of) = word.Pair pair.Unown
  op_keyword (op.Weak to of) = word.Pair pair.Weak
  op_keyword (op.Load to of) = word.Pair pair.Load
  op_keyword (op.Get to c) = word.Get
  op_keyword (op.Set c from) = word.Set
  op_keyword (op.IfNil var to) = word.Block block.IfNil
  op_keyword (op.IfSome var to) = word.Block block.IfSome

  abbrev pub op_rest : Op → List (List ℕ)
  op_rest (op.New to class) = var_name vars to ∷ name_at (class_names classes) class ∷ []
  op_rest (op.Copy to from) = var_name vars to ∷ var_name vars from ∷ []
  op_rest (op.Drop var) = var_name vars var ∷ []
  op_rest (op.Move to from) = var_name vars to ∷ var_name vars from ∷ []
  op_rest (op.Unown to of) = var_name vars to ∷ var_name vars of ∷ []
  op_rest (op.Weak to of) = var_name vars to ∷ var_name vars of ∷ []
  op_rest (op.Load to of) = var_name vars to ∷ var_name vars of ∷ []
  op_rest (op.Get to c) = var_name vars to ∷ cell_word classes globals vars c ∷ []
  op_rest (op.Set c from) = cell_word classes globals vars c ∷ var_name vars from ∷ []
  op_rest (op.IfNil var to) = var_name vars var ∷ []
  op_rest (op.IfSome var to) = var_name vars var ∷ []

  both_true : (a b : Bool) → a ≡ true → b ≡ true → (a && b) ≡ true
  both_true a b h k = rw (h, k) refl

  -- where a block begins, its end isn't known
  pub op_back : (o : Op) → IsOp classes globals vars o → op_of classes globals vars (op_keyword o) (op_rest o) ≡ Ok (goes_to 0 o)
  op_back (op.IfNil var to) h = let at = var_at 256 (length classes) vars known var h in let place = at.0 in let name = at.1 in rw (name, place) refl
  op_back (op.IfSome var to) h = let at = var_at 256 (length classes) vars known var h in let place = at.0 in let name = at.1 in rw (name, place) refl
  op_back (op.New to class) h =
      let at = var_at 256 (length classes) vars known to h.0 in
      let place = at.0 in
      let name = at.1 in
      let c = class_at classes are class h.1 in
      let class_place_is = c.0 in
      let class_name = c.1 in
      let kinds : same_kind (ref_at (var_refs vars) to).kind kind.Strong ≡ true = same_of _ _ (ap (λ (r : RefShape). r.kind) h.2) in
      let same : (ref_at (var_refs vars) to).class ≡ class = ap (λ (r : RefShape). r.class) h.2 in
      let one : eqb (ref_at (var_refs vars) to).class class ≡ true = search (rules, tests) in
      rw (name, class_name, place, class_place_is, kinds, one) refl
  op_back (op.Copy to from) h = let p = h.0 in pair_back pair.Copy to from p.to_there p.of_there (same_of _ _ p.kind_of_to) p.one_class (apart_two to from h.1)
  op_back (op.Drop var) h = let at = var_at 256 (length classes) vars known var h in let place = at.0 in let name = at.1 in rw (name, place) refl
  op_back (op.Move to from) h = let p = h.0 in pair_back pair.Move to from p.to_there p.of_there (same_of _ _ p.kind_of_to) p.one_class (apart_two to from h.1)
  op_back (op.Unown to of) h = pair_back pair.Unown to of h.to_there h.of_there (both_true _ _ (same_of _ _ h.kind_of_to) (same_of _ _ h.kind_of_of)) h.one_class refl
  op_back (op.Weak to of) h = pair_back pair.Weak to of h.to_there h.of_there (both_true _ _ (same_of _ _ h.kind_of_to) (same_of _ _ h.kind_of_of)) h.one_class refl
  op_back (op.Load to of) h =
      let p = h.0 in
      let other : same_kind (ref_at (var_refs vars) of).kind kind.Strong ≡ false = not_same _ kind.Strong h.1 in
      pair_back pair.Load to of p.to_there p.of_there (both_true _ _ (same_of _ _ p.kind_of_to) (ap not other)) p.one_class refl
  op_back (op.Get to c) h = let at = at_back to c h.0 h.1 h.2 in rw at refl
  op_back (op.Set c from) h = let at = at_back from c h.0 h.1 h.2 in let other = not_owner from c h.3 in rw (at, other) refl
