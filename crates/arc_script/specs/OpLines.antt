-- The operations, by what stands behind the first word: each form is a chain of tests in ascending order of reasons.
use Rattle.std.specs.Prelude.{ℕ, Bool, true, false, not, ◌||◌, ◌&&◌, List, [], ◌∷◌, ◌==◌, Result, Ok, Err}
use Rattle.arc_text.specs.Words.{is_name}
use Rattle.arc_text.specs.Chain.{refuse, need}
use Rattle.arc_model.specs.declared.shape.Kind.{Kind}
use Rattle.arc_model.specs.declared.shape.Kind.TheVariants as kind
use Rattle.arc_script.specs.declared.script.ClassDecl.{ClassDecl}
use Rattle.arc_script.specs.declared.script.VarDecl.{VarDecl}
use Rattle.arc_script.specs.declared.script.Op.{Op}
use Rattle.arc_script.specs.declared.script.Op.TheVariants as op
use Rattle.arc_script.specs.declared.reason.Reason.{Reason}
use Rattle.arc_script.specs.declared.reason.Reason.TheVariants as why
use Rattle.arc_script.specs.declared.keyword.PairWord.{PairWord}
use Rattle.arc_script.specs.declared.keyword.PairWord.TheVariants as pair
use Rattle.arc_script.specs.declared.keyword.BlockWord.{BlockWord}
use Rattle.arc_script.specs.declared.keyword.BlockWord.TheVariants as block
use Rattle.arc_script.specs.declared.keyword.Keyword.{Keyword}
use Rattle.arc_script.specs.declared.keyword.Keyword.TheVariants as word
use Rattle.arc_script.specs.declared.operation.AtCell.{AtCell}
use Rattle.arc_script.specs.Valid.{var_refs, ref_at, cell_ref}
use Rattle.arc_script.specs.Lookups.{same_kind, class_place, var_place, is_cell_word, is_cell_spelled, cell_of, has_strong_owner, is_owner}

-- new VARIABLE CLASS
abbrev pub new_of : List ClassDecl → List VarDecl → List ℕ → List ℕ → Result Op Reason
new_of classes vars to class =
    refuse (not (is_name to) || not (is_name class)) why.Spelling (
    need (var_place vars to) why.Unknown (λ t.
    need (class_place classes class) why.Unknown (λ c.
    refuse (not (same_kind (ref_at (var_refs vars) t).kind kind.Strong)) why.Kind (
    refuse (not ((ref_at (var_refs vars) t).class == c)) why.Classes (
    Ok (op.New t c))))))

-- drop VARIABLE
abbrev pub drop_of : List VarDecl → List ℕ → Result Op Reason
drop_of vars var =
    refuse (not (is_name var)) why.Spelling (
    need (var_place vars var) why.Unknown (λ v.
    Ok (op.Drop v)))

-- the kinds that an operation on two variables needs: of the one that it writes and of its source
abbrev pub pair_kinds : PairWord → Kind → Kind → Bool
pair_kinds pair.Copy to of = same_kind to of
pair_kinds pair.Move to of = same_kind to of
pair_kinds pair.Unown to of = same_kind to kind.Unowned && same_kind of kind.Strong
pair_kinds pair.Weak to of = same_kind to kind.Weak && same_kind of kind.Strong
pair_kinds pair.Load to of = same_kind to kind.Strong && not (same_kind of kind.Strong)

-- whether its variables must be two
abbrev pub needs_two : PairWord → Bool
needs_two pair.Copy = true
needs_two pair.Move = true
needs_two w = false

abbrev pub pair_op : PairWord → ℕ → ℕ → Op
pair_op pair.Copy to of = op.Copy to of
pair_op pair.Move to of = op.Move to of
pair_op pair.Unown to of = op.Unown to of
pair_op pair.Weak to of = op.Weak to of
pair_op pair.Load to of = op.Load to of

-- copy, move, unown, weak or load with two variables
abbrev pub pair_of : List VarDecl → PairWord → List ℕ → List ℕ → Result Op Reason
pair_of vars w to of =
    refuse (not (is_name to) || not (is_name of)) why.Spelling (
    need (var_place vars to) why.Unknown (λ t.
    need (var_place vars of) why.Unknown (λ o.
    refuse (not (pair_kinds w (ref_at (var_refs vars) t).kind (ref_at (var_refs vars) o).kind)) why.Kind (
    refuse (not ((ref_at (var_refs vars) t).class == (ref_at (var_refs vars) o).class)) why.Classes (
    refuse (needs_two w && (t == o)) why.SameVariable (
    Ok (pair_op w t o)))))))

-- a variable and a cell for references of one kind and class
abbrev pub at_cell : List ClassDecl → List VarDecl → List VarDecl → List ℕ → List ℕ → Result AtCell Reason
at_cell classes globals vars var cell =
    refuse (not (is_cell_word cell)) why.WordCount (
    refuse (not (is_name var) || not (is_cell_spelled cell)) why.Spelling (
    need (var_place vars var) why.Unknown (λ v.
    need (cell_of classes globals vars cell) why.Unknown (λ c.
    refuse (not (has_strong_owner vars c) || not (same_kind (ref_at (var_refs vars) v).kind (cell_ref classes globals vars c).kind)) why.Kind (
    refuse (not ((ref_at (var_refs vars) v).class == (cell_ref classes globals vars c).class)) why.Classes (
    Ok (record { var = v; cell = c })))))))

-- get VARIABLE CELL
abbrev pub as_get : Result AtCell Reason → Result Op Reason
as_get (Ok at) = Ok (op.Get at.var at.cell)
as_get (Err reason) = Err reason

abbrev pub get_of : List ClassDecl → List VarDecl → List VarDecl → List ℕ → List ℕ → Result Op Reason
get_of classes globals vars to cell = as_get (at_cell classes globals vars to cell)

-- set CELL VARIABLE
abbrev pub as_set : Result AtCell Reason → Result Op Reason
as_set (Ok at) = refuse (is_owner at.var at.cell) why.SameVariable (Ok (op.Set at.cell at.var))
as_set (Err reason) = Err reason

abbrev pub set_of : List ClassDecl → List VarDecl → List VarDecl → List ℕ → List ℕ → Result Op Reason
set_of classes globals vars cell from = as_set (at_cell classes globals vars from cell)

-- where a block begins; the place that it goes to isn't known before its end
abbrev pub block_op : BlockWord → ℕ → Op
block_op block.IfNil var = op.IfNil var 0
block_op block.IfSome var = op.IfSome var 0

-- ifnil VARIABLE or ifsome VARIABLE
abbrev pub block_of : List VarDecl → BlockWord → List ℕ → Result Op Reason
block_of vars w var =
    refuse (not (is_name var)) why.Spelling (
    need (var_place vars var) why.Unknown (λ v.
    Ok (block_op w v)))

abbrev pub op_of : List ClassDecl → List VarDecl → List VarDecl → Keyword → List (List ℕ) → Result Op Reason
op_of classes globals vars word.New (to ∷ class ∷ []) = new_of classes vars to class
op_of classes globals vars word.Drop (var ∷ []) = drop_of vars var
op_of classes globals vars (word.Pair w) (to ∷ of ∷ []) = pair_of vars w to of
op_of classes globals vars word.Get (to ∷ cell ∷ []) = get_of classes globals vars to cell
op_of classes globals vars word.Set (cell ∷ from ∷ []) = set_of classes globals vars cell from
op_of classes globals vars (word.Block w) (var ∷ []) = block_of vars w var
op_of classes globals vars k words = Err why.WordCount
