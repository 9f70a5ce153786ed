-- The one canonical text of a script: single spaces, no comments, always a caps line, schedule lines of 32 places, and a newline after
-- each line.
use Rattle.std.specs.Prelude.{ℕ, zero, suc, ◌+◌, Bool, false, List, [], ◌∷◌, ◌++◌, length, map, take, drop, ◌==◌, if◌then◌else◌, codes}
use Rattle.std.specs.List.{flat_map}
use Rattle.std.specs.Fmt.{decimal}
use Rattle.arc_model.specs.Shapes.{HeapShape}
use Rattle.arc_model.specs.declared.shape.Kind.{Kind}
use Rattle.arc_model.specs.declared.shape.Kind.TheVariants as kind
use Rattle.arc_script.specs.declared.script.FieldDecl.{FieldDecl}
use Rattle.arc_script.specs.declared.script.ClassDecl.{ClassDecl}
use Rattle.arc_script.specs.declared.script.VarDecl.{VarDecl}
use Rattle.arc_script.specs.declared.script.OpCell.{OpCell}
use Rattle.arc_script.specs.declared.script.OpCell.TheVariants as cell
use Rattle.arc_script.specs.declared.script.Op.{Op}
use Rattle.arc_script.specs.declared.script.Op.TheVariants as op
use Rattle.arc_script.specs.declared.script.ThreadDecl.{ThreadDecl}
use Rattle.arc_script.specs.declared.script.Script.{Script}
use Rattle.arc_script.specs.Valid.{name_at, class_names, var_names, field_names, owner_fields}

-- ---- words

abbrev pub kind_word : Kind → List ℕ
kind_word kind.Strong = codes "strong"
kind_word kind.Unowned = codes "unowned"
kind_word kind.Weak = codes "weak"

-- FIELD:KIND:CLASS
abbrev pub field_word : List ClassDecl → FieldDecl → List ℕ
field_word classes f = f.name ++ (58 ∷ (kind_word f.kind ++ (58 ∷ name_at (class_names classes) f.class)))

-- @NAME or VARIABLE.FIELD
abbrev pub cell_word : List ClassDecl → List VarDecl → List VarDecl → OpCell → List ℕ
cell_word classes globals vars (cell.Field owner field) = name_at (var_names vars) owner ++ (46 ∷ name_at (field_names (owner_fields classes vars owner)) field)
cell_word classes globals vars (cell.Global g) = 64 ∷ name_at (var_names globals) g

-- ---- the words of each line

abbrev pub numbers_line : List ℕ → List ℕ → List (List ℕ)
numbers_line word numbers = word ∷ map decimal numbers

abbrev pub shape_lines : HeapShape → List (List (List ℕ))
shape_lines shape =
    numbers_line (codes "slots") (shape.slots ∷ [])
    ∷ numbers_line (codes "entries") (shape.entries ∷ [])
    ∷ numbers_line (codes "caps") (shape.caps.strong ∷ shape.caps.unowned ∷ shape.caps.wide ∷ [])
    ∷ []

abbrev pub class_word : Bool → List ℕ
class_word immortal = if immortal then codes "immortal" else codes "class"

abbrev pub class_line : List ClassDecl → ClassDecl → List (List ℕ)
class_line classes c = class_word c.immortal ∷ c.name ∷ map (field_word classes) c.fields

-- a global or a variable
abbrev pub decl_line : List ℕ → List ClassDecl → VarDecl → List (List ℕ)
decl_line word classes v = word ∷ v.name ∷ kind_word v.kind ∷ name_at (class_names classes) v.class ∷ []

abbrev pub heading_lines : HeapShape → List ClassDecl → List VarDecl → List (List (List ℕ))
heading_lines shape classes globals = shape_lines shape ++ (map (class_line classes) classes ++ map (decl_line (codes "global") classes) globals)

abbrev pub pair_line : List ℕ → List VarDecl → ℕ → ℕ → List (List ℕ)
pair_line word vars to of = word ∷ name_at (var_names vars) to ∷ name_at (var_names vars) of ∷ []

abbrev pub op_line : List ClassDecl → List VarDecl → List VarDecl → Op → List (List ℕ)
op_line classes globals vars (op.New to class) = codes "new" ∷ name_at (var_names vars) to ∷ name_at (class_names classes) class ∷ []
op_line classes globals vars (op.Copy to from) = pair_line (codes "copy") vars to from
op_line classes globals vars (op.Drop var) = codes "drop" ∷ name_at (var_names vars) var ∷ []
op_line classes globals vars (op.Move to from) = pair_line (codes "move") vars to from
op_line classes globals vars (op.Unown to of) = pair_line (codes "unown") vars to of
op_line classes globals vars (op.Weak to of) = pair_line (codes "weak") vars to of
op_line classes globals vars (op.Load to of) = pair_line (codes "load") vars to of
op_line classes globals vars (op.Get to c) = codes "get" ∷ name_at (var_names vars) to ∷ cell_word classes globals vars c ∷ []
op_line classes globals vars (op.IfNil var to) = codes "ifnil" ∷ name_at (var_names vars) var ∷ []
op_line classes globals vars (op.IfSome var to) = codes "ifsome" ∷ name_at (var_names vars) var ∷ []
op_line classes globals vars (op.Set c from) = codes "set" ∷ cell_word classes globals vars c ∷ name_at (var_names vars) from ∷ []

-- ---- the lines of a phase; ends: where the open blocks end, the inmost first

-- the inmost open block ends at this place
abbrev pub ends_here : ℕ → List ℕ → Bool
ends_here at [] = false
ends_here at (end ∷ ends) = end == at

-- the ends that stand at this place
abbrev pub ends_at : ℕ → List ℕ → List (List (List ℕ))
ends_at at [] = []
ends_at at (end ∷ ends) = if end == at then (codes "end" ∷ []) ∷ ends_at at ends else []

abbrev pub still_open : ℕ → List ℕ → List ℕ
still_open at [] = []
still_open at (end ∷ ends) = if end == at then still_open at ends else end ∷ ends

abbrev pub with_end : Op → List ℕ → List ℕ
with_end (op.IfNil var to) ends = to ∷ ends
with_end (op.IfSome var to) ends = to ∷ ends
with_end o ends = ends

-- of the operations from this place on
abbrev pub ops_from : List ClassDecl → List VarDecl → List VarDecl → ℕ → List ℕ → List Op → List (List (List ℕ))
ops_from classes globals vars at ends [] = ends_at at ends
ops_from classes globals vars at ends (o ∷ ops) = ends_at at ends ++ op_line classes globals vars o ∷ ops_from classes globals vars (at + 1) (with_end o (still_open at ends)) ops

abbrev pub op_lines : List ClassDecl → List VarDecl → List VarDecl → List Op → List (List (List ℕ))
op_lines classes globals vars ops = ops_from classes globals vars 0 [] ops

-- a line between each two phases
abbrev pub later_phase : List ClassDecl → List VarDecl → List VarDecl → List Op → List (List (List ℕ))
later_phase classes globals vars ops = (codes "phase" ∷ []) ∷ op_lines classes globals vars ops

abbrev pub phase_lines : List ClassDecl → List VarDecl → List VarDecl → List (List Op) → List (List (List ℕ))
phase_lines classes globals vars [] = []
phase_lines classes globals vars (ops ∷ phases) = op_lines classes globals vars ops ++ flat_map (later_phase classes globals vars) phases

abbrev pub thread_lines : List ClassDecl → List VarDecl → ℕ → ThreadDecl → List (List (List ℕ))
thread_lines classes globals n thread =
    numbers_line (codes "thread") (n ∷ [])
    ∷ (map (decl_line (codes "var") classes) thread.vars ++ phase_lines classes globals thread.vars thread.phases)

-- the threads from the one with this number on
abbrev pub threads_lines : List ClassDecl → List VarDecl → ℕ → List ThreadDecl → List (List (List ℕ))
threads_lines classes globals n [] = []
threads_lines classes globals n (thread ∷ threads) = thread_lines classes globals n thread ++ threads_lines classes globals (n + 1) threads

-- at most so many lines of 32 places, the last one with the rest
abbrev pub schedule_upto : ℕ → List ℕ → List (List (List ℕ))
schedule_upto zero places = []
schedule_upto (suc n) [] = []
schedule_upto (suc n) (place ∷ places) = numbers_line (codes "schedule") (take 32 (place ∷ places)) ∷ schedule_upto n (drop 32 (place ∷ places))

abbrev pub schedule_lines : List ℕ → List (List (List ℕ))
schedule_lines places = schedule_upto (length places) places

abbrev pub script_lines : Script → List (List (List ℕ))
script_lines s =
    numbers_line (codes "arc") (s.version ∷ [])
    ∷ (heading_lines s.shape s.classes s.globals
    ++ (threads_lines s.classes s.globals 1 s.threads
    ++ (schedule_lines s.schedule ++ (codes "done" ∷ []) ∷ [])))

-- ---- texts

abbrev pub spaced : List ℕ → List ℕ
spaced w = 32 ∷ w

-- words with a space between each two, and a newline
abbrev pub line_text : List (List ℕ) → List ℕ
line_text [] = 10 ∷ []
line_text (first ∷ words) = first ++ (flat_map spaced words ++ 10 ∷ [])

abbrev pub text_of : List (List (List ℕ)) → List ℕ
text_of lines = flat_map line_text lines

-- the canonical text of a script
abbrev pub canonical : Script → List ℕ
canonical s = text_of (script_lines s)

-- that of a heading
abbrev pub heading_text : HeapShape → List ClassDecl → List VarDecl → List ℕ
heading_text shape classes globals = text_of (heading_lines shape classes globals)
