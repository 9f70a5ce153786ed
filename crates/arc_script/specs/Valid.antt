-- Which values are scripts.
use Rattle.std.specs.Prelude.{◌≡◌, ◌≢◌, ℕ, suc, ◌+◌, ◌<◌, ◌≤◌, Bool, true, false, ◌&&◌, List, [], ◌∷◌, ◌++◌, length, map, sum_by, Option, Some, bytes_eq, position, slice_index_or}
use Rattle.std.specs.List.{AllByRecursion}
use Rattle.arc_text.specs.Words.{is_name}
use Rattle.arc_model.specs.Shapes.{ObjectClass, HeapShape}
use Rattle.arc_model.specs.Ranges.{SlotsFit, EntriesFit, CapsFit}
use Rattle.arc_model.specs.declared.shape.Kind.{Kind}
use Rattle.arc_model.specs.declared.shape.Kind.TheVariants as kind
use Rattle.arc_model.specs.declared.shape.RefShape.{RefShape}
use Rattle.arc_script.specs.declared.script.FieldDecl.{FieldDecl}
use Rattle.arc_script.specs.declared.script.ClassDecl.{ClassDecl}
use Rattle.arc_script.specs.declared.script.VarDecl.{VarDecl}
use Rattle.arc_script.specs.declared.script.OpCell.{OpCell}
use Rattle.arc_script.specs.declared.script.OpCell.TheVariants as cell
use Rattle.arc_script.specs.declared.script.Op.{Op}
use Rattle.arc_script.specs.declared.script.Op.TheVariants as op
use Rattle.arc_script.specs.declared.script.ThreadDecl.{ThreadDecl}
use Rattle.arc_script.specs.declared.script.Script.{Script}

-- ---- names

abbrev pub name_at : List (List ℕ) → ℕ → List ℕ
name_at names i = slice_index_or names i []

-- the place of a name in its set
abbrev pub place_of : List (List ℕ) → List ℕ → Option ℕ
place_of names name = position (λ n. bytes_eq n name) names

-- each is spelled as a name and leads to its own place, so that it stands once
pub record AreNames (limit : ℕ) (names : List (List ℕ)) : Type 0 where
  pub few : length names ≤ limit
  pub spelled : (i : ℕ) → i < length names → is_name (name_at names i) ≡ true
  pub apart : (i : ℕ) → i < length names → place_of names (name_at names i) ≡ Some i

abbrev pub field_names : List FieldDecl → List (List ℕ)
field_names fields = map (λ (f : FieldDecl). f.name) fields

abbrev pub class_names : List ClassDecl → List (List ℕ)
class_names classes = map (λ (c : ClassDecl). c.name) classes

abbrev pub var_names : List VarDecl → List (List ℕ)
var_names vars = map (λ (v : VarDecl). v.name) vars

-- ---- what fields, variables and cells refer to

abbrev pub field_refs : List FieldDecl → List RefShape
field_refs fields = map (λ (f : FieldDecl). record { kind = f.kind; class = f.class }) fields

abbrev pub var_refs : List VarDecl → List RefShape
var_refs vars = map (λ (v : VarDecl). record { kind = v.kind; class = v.class }) vars

abbrev pub class_refs : List ClassDecl → List ObjectClass
class_refs classes = map (λ (c : ClassDecl). record { fields = field_refs c.fields; immortal = c.immortal }) classes

abbrev pub immortals_of : List ClassDecl → List Bool
immortals_of classes = map (λ (c : ClassDecl). c.immortal) classes

abbrev pub is_weak : Kind → Bool
is_weak kind.Weak = true
is_weak k = false

-- a weak reference to an immortal class
abbrev pub is_weak_immortal : List Bool → Kind → ℕ → Bool
is_weak_immortal immortals k class = is_weak k && slice_index_or immortals class false

abbrev pub ref_at : List RefShape → ℕ → RefShape
ref_at refs i = slice_index_or refs i (record { kind = kind.Strong; class = 0 })

-- the fields of a class
abbrev pub fields_at : List ClassDecl → ℕ → List FieldDecl
fields_at classes i = slice_index_or (map (λ (c : ClassDecl). c.fields) classes) i []

-- the fields of what a variable refers to
abbrev pub owner_fields : List ClassDecl → List VarDecl → ℕ → List FieldDecl
owner_fields classes vars owner = fields_at classes (ref_at (var_refs vars) owner).class

abbrev pub cell_ref : List ClassDecl → List VarDecl → List VarDecl → OpCell → RefShape
cell_ref classes globals vars (cell.Field owner field) = ref_at (field_refs (owner_fields classes vars owner)) field
cell_ref classes globals vars (cell.Global g) = ref_at (var_refs globals) g

-- ---- operations

-- a global, or a field of a strong variable
abbrev pub IsCell : List ClassDecl → List VarDecl → List VarDecl → OpCell → Type 0
IsCell classes globals vars (cell.Field owner field) =
    (owner < length vars) × ((ref_at (var_refs vars) owner).kind ≡ kind.Strong) × (field < length (owner_fields classes vars owner))
IsCell classes globals vars (cell.Global g) = g < length globals

abbrev pub NotOwner : ℕ → OpCell → Type 0
NotOwner var (cell.Field owner field) = var ≢ owner
NotOwner var (cell.Global g) = Unit {0}

-- two variables that there are, of these kinds, for one class
pub record ArePair (vars : List VarDecl) (to of : ℕ) (kind_to kind_of : Kind) : Type 0 where
  pub to_there : to < length vars
  pub of_there : of < length vars
  pub kind_of_to : (ref_at (var_refs vars) to).kind ≡ kind_to
  pub kind_of_of : (ref_at (var_refs vars) of).kind ≡ kind_of
  pub one_class : (ref_at (var_refs vars) to).class ≡ (ref_at (var_refs vars) of).class

abbrev pub kind_at : List VarDecl → ℕ → Kind
kind_at vars i = (ref_at (var_refs vars) i).kind

abbrev pub IsOp : List ClassDecl → List VarDecl → List VarDecl → Op → Type 0
IsOp classes globals vars (op.New to class) = (to < length vars) × (class < length classes) × (ref_at (var_refs vars) to ≡ record { kind = kind.Strong; class = class })
IsOp classes globals vars (op.Copy to from) = ArePair vars to from (kind_at vars from) (kind_at vars from) × (to ≢ from)
IsOp classes globals vars (op.Drop var) = var < length vars
IsOp classes globals vars (op.Move to from) = ArePair vars to from (kind_at vars from) (kind_at vars from) × (to ≢ from)
IsOp classes globals vars (op.Unown to of) = ArePair vars to of kind.Unowned kind.Strong
IsOp classes globals vars (op.Weak to of) = ArePair vars to of kind.Weak kind.Strong
IsOp classes globals vars (op.Load to of) = ArePair vars to of kind.Strong (kind_at vars of) × (kind_at vars of ≢ kind.Strong)
IsOp classes globals vars (op.Get to c) = (to < length vars) × IsCell classes globals vars c × (ref_at (var_refs vars) to ≡ cell_ref classes globals vars c)
IsOp classes globals vars (op.IfNil var to) = var < length vars
IsOp classes globals vars (op.IfSome var to) = var < length vars
IsOp classes globals vars (op.Set c from) = (from < length vars) × IsCell classes globals vars c × (ref_at (var_refs vars) from ≡ cell_ref classes globals vars c) × NotOwner from c

-- ---- blocks

abbrev pub begins_block : Op → Bool
begins_block (op.IfNil var to) = true
begins_block (op.IfSome var to) = true
begins_block o = false

-- the same beginning of a block that goes to this place
abbrev pub goes_to : ℕ → Op → Op
goes_to to (op.IfNil var old) = op.IfNil var to
goes_to to (op.IfSome var old) = op.IfSome var to
goes_to to o = o

-- operations from this place on, with blocks at most so deep
pub data Nested : ℕ → ℕ → List Op → Type 0 where
  none : {deep at : ℕ} → Nested deep at []
  operation : {deep at : ℕ} (o : Op) (ops : List Op) → begins_block o ≡ false → Nested deep (suc at) ops → Nested deep at (o ∷ ops)
  block : {deep at : ℕ} (o : Op) (inside ops : List Op) → begins_block o ≡ true → Nested deep (suc at) inside → Nested (suc deep) (suc at + length inside) ops
      → Nested (suc deep) at (goes_to (suc at + length inside) o ∷ (inside ++ ops))

-- what is of version 2 alone
abbrev pub OfSecond : ℕ → Bool → Type 0
OfSecond version needed = needed ≡ true → version ≡ 2

-- ---- declarations

pub record AreFields (classes : ℕ) (fields : List FieldDecl) : Type 0 where
  pub names : AreNames 8 (field_names fields)
  pub of_classes : AllByRecursion (λ (f : FieldDecl). f.class < classes) fields

pub record AreClasses (classes : List ClassDecl) : Type 0 where
  pub names : AreNames 64 (class_names classes)
  pub fields : AllByRecursion (λ (c : ClassDecl). AreFields (length classes) c.fields) classes

-- at most this many variables or globals, for classes that there are
pub record AreVars (limit classes : ℕ) (vars : List VarDecl) : Type 0 where
  pub names : AreNames limit (var_names vars)
  pub of_classes : AllByRecursion (λ (v : VarDecl). v.class < classes) vars

pub record IsHeading (shape : HeapShape) (classes : List ClassDecl) (globals : List VarDecl) : Type 0 where
  pub slots : SlotsFit shape.slots
  pub entries : EntriesFit shape.entries
  pub caps : CapsFit shape.caps.strong shape.caps.unowned shape.caps.wide
  pub classes_named : AreClasses classes
  pub globals_named : AreVars 64 (length classes) globals
  pub fields_allowed : AllByRecursion (λ (c : ClassDecl). AllByRecursion (λ (f : FieldDecl). is_weak_immortal (immortals_of classes) f.kind f.class ≡ false) c.fields) classes
  pub globals_allowed : AllByRecursion (λ (v : VarDecl). is_weak_immortal (immortals_of classes) v.kind v.class ≡ false) globals
  pub of_classes : shape.classes ≡ class_refs classes
  pub of_globals : shape.globals ≡ var_refs globals

pub record IsThread (classes : List ClassDecl) (globals : List VarDecl) (thread : ThreadDecl) : Type 0 where
  pub vars : AreVars 256 (length classes) thread.vars
  pub vars_allowed : AllByRecursion (λ (v : VarDecl). is_weak_immortal (immortals_of classes) v.kind v.class ≡ false) thread.vars
  pub some_phase : 1 ≤ length thread.phases
  pub few_phases : length thread.phases ≤ 64
  pub ops : AllByRecursion (λ (ops : List Op). AllByRecursion (IsOp classes globals thread.vars) ops) thread.phases
  pub nested : AllByRecursion (Nested 8 0) thread.phases

abbrev pub op_count : List ThreadDecl → ℕ
op_count threads = sum_by (λ (t : ThreadDecl). sum_by (λ (ops : List Op). length ops) t.phases) threads

abbrev pub OpOfVersion : ℕ → Op → Type 0
OpOfVersion version o = OfSecond version (begins_block o)

abbrev pub ThreadOfVersion : ℕ → ThreadDecl → Type 0
ThreadOfVersion version thread = AllByRecursion (λ (ops : List Op). AllByRecursion (OpOfVersion version) ops) thread.phases

-- a script: what its names, kinds and classes must be, and the limits
pub record IsScript (s : Script) : Type 0 where
  pub version : (1 ≤ s.version) × (s.version ≤ 2)
  pub classes_of_version : AllByRecursion (λ (c : ClassDecl). OfSecond s.version c.immortal) s.classes
  pub threads_of_version : AllByRecursion (ThreadOfVersion s.version) s.threads
  pub heading : IsHeading s.shape s.classes s.globals
  pub few_threads : length s.threads ≤ 64
  pub threads : AllByRecursion (IsThread s.classes s.globals) s.threads
  pub few_ops : op_count s.threads ≤ 100000
  pub few_places : length s.schedule ≤ 1000000
  pub places : AllByRecursion (λ p. (1 ≤ p) × (p ≤ length s.threads)) s.schedule
