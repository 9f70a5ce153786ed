-- The phases and operations of a thread, and what they may name.
use Rattle.std.specs.Prelude.{ℕ, ◌≡◌, ◌==◌, ◌-◌, ◌+◌, ◌<◌, ◌≤◌, if◌then◌else◌, Bool, true, false, List, [], length, map, take, flat_map, sum_by, count_by, slice_get, slice_index_or, Option, Some, None}
use Rattle.arc_model.specs.declared.shape.Kind.{Kind}
use Rattle.arc_model.specs.declared.shape.Kind.TheVariants.{Strong, Unowned}
use Rattle.arc_model.specs.declared.shape.RefShape.{RefShape}
use Rattle.arc_model.specs.Shapes.{HeapShape, class_at}
use Rattle.arc_script.specs.declared.script.Op.{Op}
use Rattle.arc_script.specs.declared.script.Op.TheVariants as op
use Rattle.arc_script.specs.declared.script.OpCell.{OpCell}
use Rattle.arc_script.specs.declared.script.OpCell.TheVariants as opcell
use Rattle.arc_script.specs.OneList.{in_one_list, numbered}
use Rattle.arc_script.specs.Valid.{ref_at}
use Rattle.arc_script.specs.declared.script.ThreadDecl.{ThreadDecl}
use Rattle.arc_script.specs.declared.script.VarDecl.{VarDecl}
use Rattle.arc_script.specs.declared.script.Script.{Script}

-- the thread's declaration; thread 0 has none
abbrev pub declared_of : Script → ℕ → Option ThreadDecl
declared_of script thread = if thread == 0 then None else slice_get script.threads (thread - 1)

abbrev pub phases_in : Option ThreadDecl → List (List Op)
phases_in None = []
phases_in (Some decl) = decl.phases

-- the operations of each phase of the thread, in order; thread 0 has no phase
abbrev pub phases_of : Script → ℕ → List (List Op)
phases_of script thread = phases_in (declared_of script thread)

-- the operations of the thread, phase by phase
abbrev pub program_of : Script → ℕ → List Op
program_of script thread = in_one_list 0 (phases_of script thread)

-- the number of the operation at this place: the beginnings of blocks have none
abbrev pub ordinal : List Op → ℕ → ℕ
ordinal program i = numbered (take (i + 1) program)

-- the numbers of all operations, in order
pub record IsNumbered (program : List Op) (numbers : List ℕ) : Type 0 where
  pub count : length numbers ≡ length program
  pub each : (i : ℕ) → i < length program → slice_index_or numbers i 0 ≡ ordinal program i

-- how many operations there are in the first phases
abbrev pub ops_in_first : ℕ → List (List Op) → ℕ
ops_in_first k phases = length (flat_map (λ ops. ops) (take k phases))

-- a block that begins at this place goes on behind it, and up to the end
abbrev pub GoesForth : ℕ → ℕ → Op → Type 0
GoesForth i end (op.IfNil var to) = (i < to) × (to ≤ end)
GoesForth i end (op.IfSome var to) = (i < to) × (to ≤ end)
GoesForth i end _ = Unit {0}

-- the place behind a block is no farther than a program is long
abbrev pub ToFits : Op → Type 0
ToFits (op.IfNil var to) = to ≤ 100000
ToFits (op.IfSome var to) = to ≤ 100000
ToFits _ = Unit {0}

-- no block goes past the end of its phase
abbrev pub BlocksFit : List Op → List (List Op) → Type 0
BlocksFit program phases = (k i : ℕ) (o : Op) → i < ops_in_first k phases → slice_get program i ≡ Some o → GoesForth i (ops_in_first k phases) o

abbrev pub count_of_vars : Option ThreadDecl → ℕ
count_of_vars None = 0
count_of_vars (Some decl) = length decl.vars

-- how many variables the thread has
abbrev pub vars_of : Script → ℕ → ℕ
vars_of script thread = count_of_vars (declared_of script thread)

abbrev pub is_new : Op → Bool
is_new (op.New to class) = true
is_new _ = false

abbrev pub new_count_of : ThreadDecl → ℕ
new_count_of decl = sum_by (λ (ops : List Op). count_by is_new ops) decl.phases

-- how many objects the threads of the script may make
abbrev pub new_count : Script → ℕ
new_count script = sum_by new_count_of script.threads

-- a line for each operation of the thread, and one for the deinit of each object that the script may make
abbrev pub room_in : Script → ℕ → ℕ
room_in script thread = length (program_of script thread) + new_count script

-- the owner of a field is one of the variables
abbrev pub OwnerFits : ℕ → OpCell → Type 0
OwnerFits vars (opcell.Global g) = Unit {0}
OwnerFits vars (opcell.Field owner field) = owner < vars

-- an operation that is served, on variables that there are
abbrev pub VarsFit : ℕ → Op → Type 0
VarsFit vars (op.New to class) = to < vars
VarsFit vars (op.Copy to from) = (to < vars) × (from < vars)
VarsFit vars (op.Move to from) = (to < vars) × (from < vars)
VarsFit vars (op.Drop var) = var < vars
VarsFit vars (op.Unown to of) = (to < vars) × (of < vars)
VarsFit vars (op.Weak to of) = ⊥
VarsFit vars (op.Load to of) = (to < vars) × (of < vars)
VarsFit vars (op.Get to cell) = (to < vars) × OwnerFits vars cell
VarsFit vars (op.Set cell from) = (from < vars) × OwnerFits vars cell
VarsFit vars (op.IfNil var to) = var < vars
VarsFit vars (op.IfSome var to) = var < vars

-- an object that it makes has one of so many classes
abbrev pub ClassFits : ℕ → Op → Type 0
ClassFits classes (op.New to class) = (class < classes) × (class < 64)
ClassFits classes _ = Unit {0}

-- ---- the kinds and the classes of variables

abbrev pub kinds_in : Option ThreadDecl → List Kind
kinds_in None = []
kinds_in (Some decl) = map (λ (v : VarDecl). v.kind) decl.vars

-- the kind of each variable of the thread
abbrev pub kinds_of : Script → ℕ → List Kind
kinds_of script thread = kinds_in (declared_of script thread)

abbrev pub kind_of : List Kind → ℕ → Kind
kind_of kinds v = slice_index_or kinds v Strong

abbrev pub classes_in : Option ThreadDecl → List ℕ
classes_in None = []
classes_in (Some decl) = map (λ (v : VarDecl). v.class) decl.vars

-- the class of each variable of the thread
abbrev pub classes_of : Script → ℕ → List ℕ
classes_of script thread = classes_in (declared_of script thread)

abbrev pub class_of : List ℕ → ℕ → ℕ
class_of classes v = slice_index_or classes v 0

-- ---- cells

-- what a cell may refer to: a global, or a field of the class that its owner's variable is for
abbrev pub ref_of : HeapShape → List ℕ → OpCell → RefShape
ref_of shape classes (opcell.Global g) = ref_at shape.globals g
ref_of shape classes (opcell.Field owner field) = ref_at (class_at shape (class_of classes owner)).fields field

-- the cell is there: a global, or a field that this class has
abbrev pub HasCell : HeapShape → List ℕ → OpCell → Type 0
HasCell shape classes (opcell.Global g) = g < length shape.globals
HasCell shape classes (opcell.Field owner field) = field < length (class_at shape (class_of classes owner)).fields

-- a cell that an operation names is there
abbrev pub CellFits : HeapShape → List ℕ → Op → Type 0
CellFits shape classes (op.Get to cell) = HasCell shape classes cell
CellFits shape classes (op.Set cell from) = HasCell shape classes cell
CellFits shape classes _ = Unit {0}

-- the owner of a field is a strong variable
abbrev pub OwnsStrongly : List Kind → OpCell → Type 0
OwnsStrongly kinds (opcell.Global g) = Unit {0}
OwnsStrongly kinds (opcell.Field owner field) = kind_of kinds owner ≡ Strong

-- a variable of the kind of a cell
abbrev pub KindOfCell : HeapShape → List ℕ → List Kind → ℕ → OpCell → Type 0
KindOfCell shape classes kinds v cell = (kind_of kinds v ≡ (ref_of shape classes cell).kind) × OwnsStrongly kinds cell

-- An operation that is served names variables of its kinds: a new object's is strong, a copy's and a move's are of one kind, an unowned
-- reference is formed from a strong one, a strong one is loaded by an unowned one, and a cell is read into and written from one of its kind.
abbrev pub KindsFit : HeapShape → List ℕ → List Kind → Op → Type 0
KindsFit shape classes kinds (op.New to class) = kind_of kinds to ≡ Strong
KindsFit shape classes kinds (op.Copy to from) = kind_of kinds to ≡ kind_of kinds from
KindsFit shape classes kinds (op.Move to from) = kind_of kinds to ≡ kind_of kinds from
KindsFit shape classes kinds (op.Unown to of) = (kind_of kinds to ≡ Unowned) × (kind_of kinds of ≡ Strong)
KindsFit shape classes kinds (op.Load to of) = (kind_of kinds to ≡ Strong) × (kind_of kinds of ≡ Unowned)
KindsFit shape classes kinds (op.Get to cell) = KindOfCell shape classes kinds to cell
KindsFit shape classes kinds (op.Set cell from) = KindOfCell shape classes kinds from cell
KindsFit shape classes kinds _ = Unit {0}

-- and variables for one class: a new object's, the one of the other variable, or a cell's
abbrev pub ClassesFit : HeapShape → List ℕ → Op → Type 0
ClassesFit shape classes (op.New to class) = class_of classes to ≡ class
ClassesFit shape classes (op.Copy to from) = class_of classes to ≡ class_of classes from
ClassesFit shape classes (op.Move to from) = class_of classes to ≡ class_of classes from
ClassesFit shape classes (op.Unown to of) = class_of classes to ≡ class_of classes of
ClassesFit shape classes (op.Load to of) = class_of classes to ≡ class_of classes of
ClassesFit shape classes (op.Get to cell) = class_of classes to ≡ (ref_of shape classes cell).class
ClassesFit shape classes (op.Set cell from) = class_of classes from ≡ (ref_of shape classes cell).class
ClassesFit shape classes _ = Unit {0}
