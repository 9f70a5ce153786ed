-- Names that a line gives, and what they stand for.
use Rattle.std.specs.Prelude.{ℕ, Bool, true, false, ◌||◌, ◌&&◌, List, [], ◌∷◌, ◌++◌, ◌==◌, if◌then◌else◌, Option, Some, None, option_map, bytes_eq, codes, slice_index, count_by, drop}
use Rattle.std.specs.List.{list_any, before_first, after_first}
use Rattle.arc_text.specs.Words.{is_name}
use Rattle.arc_model.specs.declared.shape.Kind.{Kind}
use Rattle.arc_model.specs.declared.shape.Kind.TheVariants as kind
use Rattle.arc_script.specs.declared.script.ClassDecl.{ClassDecl}
use Rattle.arc_script.specs.declared.script.VarDecl.{VarDecl}
use Rattle.arc_script.specs.declared.script.OpCell.{OpCell}
use Rattle.arc_script.specs.declared.script.OpCell.TheVariants as cell
use Rattle.arc_script.specs.Valid.{place_of, class_names, var_names, field_names, var_refs, ref_at, owner_fields}

-- ---- kinds

abbrev pub kind_of : List ℕ → Option Kind
kind_of w =
    if bytes_eq w (codes "strong") then Some kind.Strong else
    if bytes_eq w (codes "unowned") then Some kind.Unowned else
    if bytes_eq w (codes "weak") then Some kind.Weak else None

abbrev pub same_kind : Kind → Kind → Bool
same_kind kind.Strong kind.Strong = true
same_kind kind.Unowned kind.Unowned = true
same_kind kind.Weak kind.Weak = true
same_kind k l = false

-- ---- sets of names

abbrev pub is_among : List (List ℕ) → List ℕ → Bool
is_among names name = list_any (λ n. bytes_eq n name) names

-- one of the names stands before its place, or is among those that come first
abbrev pub repeats : List (List ℕ) → List (List ℕ) → Bool
repeats seen [] = false
repeats seen (name ∷ names) = is_among seen name || repeats (seen ++ name ∷ []) names

abbrev pub has_repeat : List (List ℕ) → Bool
has_repeat names = repeats [] names

abbrev pub class_place : List ClassDecl → List ℕ → Option ℕ
class_place classes name = place_of (class_names classes) name

abbrev pub var_place : List VarDecl → List ℕ → Option ℕ
var_place vars name = place_of (var_names vars) name

-- ---- cells: @NAME is a global, VARIABLE.FIELD a field

abbrev pub is_at_sign : List ℕ → Bool
is_at_sign word = slice_index word 0 == 64

abbrev pub is_dot : ℕ → Bool
is_dot b = b == 46

-- the word has a cell's parts
abbrev pub is_cell_word : List ℕ → Bool
is_cell_word word = is_at_sign word || (count_by is_dot word == 1)

abbrev pub is_cell_spelled : List ℕ → Bool
is_cell_spelled word = if is_at_sign word then is_name (drop 1 word) else is_name (before_first is_dot word) && is_name (after_first is_dot word)

abbrev pub field_of : List ClassDecl → List VarDecl → Option ℕ → List ℕ → Option OpCell
field_of classes vars None field = None
field_of classes vars (Some owner) field =
    option_map (λ f. cell.Field owner f) (place_of (field_names (owner_fields classes vars owner)) field)

-- the cell that the word names, where there is one; the class of its owner is known whatever the owner's kind
abbrev pub cell_of : List ClassDecl → List VarDecl → List VarDecl → List ℕ → Option OpCell
cell_of classes globals vars word =
    if is_at_sign word then option_map (λ g. cell.Global g) (var_place globals (drop 1 word))
    else field_of classes vars (var_place vars (before_first is_dot word)) (after_first is_dot word)

-- a field needs a strong owner
abbrev pub has_strong_owner : List VarDecl → OpCell → Bool
has_strong_owner vars (cell.Field owner field) = same_kind (ref_at (var_refs vars) owner).kind kind.Strong
has_strong_owner vars (cell.Global g) = true

abbrev pub is_owner : ℕ → OpCell → Bool
is_owner var (cell.Field owner field) = var == owner
is_owner var (cell.Global g) = false
