-- A script that is served gives each of its threads a stepper.
use Rattle.std.proofs.Common.{◌≡◌, ℕ, zero, suc, ◌+◌, ◌-◌, ◌≤◌, Bool, true, false, cond, eqb, List, [], ◌∷◌, length, map, Option, Some, None, refl, sym, ap, ◌∙◌, subst, arith, zero-add}
use Rattle.std.proofs.lemmas.List.{length-map, length-replicate}
use Rattle.std.specs.Prelude.{slice_get, slice_index_or, All, sum_by, flat_map}
use Rattle.std.proofs.lemmas.List.Concat.{length-flat_map}
use Rattle.std.proofs.lemmas.List.Sums.{sum_by-cons}
use Rattle.std.specs.List.{AllByRecursion}
use Rattle.std.proofs.lemmas.List.Elements.{All-from_recursion, recursion_from_All, All-replicate}
use Rattle.arc_model.specs.Shapes.{ObjectClass, HeapShape, class_at}
use Rattle.arc_script.specs.declared.script.FieldDecl.{FieldDecl}
use Rattle.arc_script.specs.declared.script.ClassDecl.{ClassDecl}
use Rattle.arc_script.specs.declared.script.VarDecl.{VarDecl}
use Rattle.arc_script.specs.declared.script.ThreadDecl.{ThreadDecl}
use Rattle.arc_script.specs.declared.script.Script.{Script}
use Rattle.arc_script.specs.declared.script.Op.{Op}
use Rattle.arc_script.specs.declared.script.Op.TheVariants as op
use Rattle.arc_script.specs.declared.script.OpCell.{OpCell}
use Rattle.arc_script.specs.declared.script.OpCell.TheVariants as opcell
use Rattle.arc_script.specs.Valid.{IsScript, IsThread, IsCell, IsOp, Nested, op_count, field_refs, class_refs, var_refs, ref_at, fields_at, owner_fields}
use Rattle.arc_script.specs.OneList.{in_one_list, moved_behind}
use Rattle.arc_script.proofs.OneList.{all_in_one, length_in_one}
use Rattle.arc_served.specs.Served.{IsServed, IsServedThread, IsServedOp, IsServedVar, IsServedRef}
use Rattle.arc_served.specs.Programs.{declared_of, phases_in, phases_of, program_of, ops_in_first, count_of_vars, vars_of, classes_in, classes_of, class_of, OwnerFits, VarsFit, ClassFits, HasCell, CellFits, GoesForth, ToFits, BlocksFit}
use Rattle.arc_served.proofs.Blocks.{phases_forth, all_to_fit}
use Rattle.arc_ops.specs.Thread.{stepper_of}
use Rattle.arc_ops.specs.Steppers.{HeldFits, IsStepper}

thread_few : (ts : List ThreadDecl) (i : ℕ) → sum_by (λ (ops : List Op). length ops) (phases_in (slice_get ts i)) ≤ op_count ts
thread_few [] i = omega arith
thread_few (t ∷ ts) zero =
    let b = sum_by-cons (λ (u : ThreadDecl). sum_by (λ (o : List Op). length o) u.phases) t ts in
    omega arith
thread_few (t ∷ ts) (suc i) =
    let h = thread_few ts i in
    let b = sum_by-cons (λ (u : ThreadDecl). sum_by (λ (o : List Op). length o) u.phases) t ts in
    omega arith

pub phases_few : (s : Script) (thread : ℕ) → IsScript s → length (flat_map (λ (ops : List Op). ops) (phases_of s thread)) ≤ 100000
phases_few s thread valid = rw (length-flat_map (λ (ops : List Op). ops) (phases_of s thread)) (go (eqb thread 0))
  where
    go : (b : Bool) → sum_by (λ (ops : List Op). length ops) (phases_in (cond b None (slice_get s.threads (thread - 1)))) ≤ 100000
    go true = omega arith
    go false = let h = thread_few s.threads (thread - 1) in let k = valid.few_ops in omega arith

pub program_few : (s : Script) (thread : ℕ) → IsScript s → length (program_of s thread) ≤ 100000
program_few s thread valid =
    let long = length_in_one 0 (phases_of s thread) in
    let few = phases_few s thread valid in
    omega (arith, long, few)

-- ---- the cells that operations name

-- the fields of a class, and how many there are
refs_at : (classes : List ClassDecl) (i : ℕ) → (slice_index_or (class_refs classes) i (record { fields = []; immortal = false })).fields ≡ field_refs (fields_at classes i)
refs_at [] i = refl
refs_at (c ∷ classes) zero = refl
refs_at (c ∷ classes) (suc i) = refs_at classes i

length_refs : (fields : List FieldDecl) → length (field_refs fields) ≡ length fields
length_refs [] = refl
length_refs (f ∷ fields) = ap suc (length_refs fields)

-- the class that a variable is for
abbrev classes_for : List VarDecl → List ℕ
classes_for vars = map (λ (v : VarDecl). v.class) vars

class_is : (vars : List VarDecl) (v : ℕ) → class_of (classes_for vars) v ≡ (ref_at (var_refs vars) v).class
class_is [] v = refl
class_is (d ∷ vars) zero = refl
class_is (d ∷ vars) (suc v) = class_is vars v

-- a heap of these classes and globals
record IsOf (shape : HeapShape) (classes : List ClassDecl) (globals : List VarDecl) : Type 0 where
  few : length classes ≤ 64
  of_classes : shape.classes ≡ class_refs classes
  of_globals : shape.globals ≡ var_refs globals

classes_there : (shape : HeapShape) (classes : List ClassDecl) (globals : List VarDecl) → IsOf shape classes globals → length shape.classes ≡ length classes
classes_there shape classes globals f = ap length f.of_classes ∙ length-map classes (λ (c : ClassDecl). record { fields = field_refs c.fields; immortal = c.immortal })

fields_there : (shape : HeapShape) (classes : List ClassDecl) (globals vars : List VarDecl) → IsOf shape classes globals → (owner : ℕ) →
    length (class_at shape (class_of (classes_for vars) owner)).fields ≡ length (owner_fields classes vars owner)
fields_there shape classes globals vars f owner =
    ap (λ (i : ℕ). length (class_at shape i).fields) (class_is vars owner)
    ∙ ap (λ (cs : List ObjectClass). length (slice_index_or cs (ref_at (var_refs vars) owner).class (record { fields = []; immortal = false })).fields) f.of_classes
    ∙ ap length (refs_at classes (ref_at (var_refs vars) owner).class) ∙ length_refs (owner_fields classes vars owner)

has_cell : (shape : HeapShape) (classes : List ClassDecl) (globals vars : List VarDecl) → IsOf shape classes globals → (c : OpCell) → IsCell classes globals vars c → HasCell shape (classes_for vars) c
has_cell shape classes globals vars f (opcell.Global g) is =
    let long : length shape.globals ≡ length globals = ap length f.of_globals ∙ length-map globals (λ (v : VarDecl). record { kind = v.kind; class = v.class }) in
    omega (arith, is, long)
has_cell shape classes globals vars f (opcell.Field owner field) is =
    let long = fields_there shape classes globals vars f owner in
    let within = is.2 in
    omega (arith, within, long)

owner_fits : (classes : List ClassDecl) (globals vars : List VarDecl) (c : OpCell) → IsCell classes globals vars c → OwnerFits (length vars) c
owner_fits classes globals vars (opcell.Global g) is = tt
owner_fits classes globals vars (opcell.Field owner field) is = is.0

-- what an operation names is there
abbrev OpFits : (vars : ℕ) → HeapShape → (classes : List ℕ) → Op → Type 0
OpFits vars shape classes o = VarsFit vars o × ClassFits (length shape.classes) o × CellFits shape classes o

op_fits : (shape : HeapShape) (classes : List ClassDecl) (globals vars : List VarDecl) → IsOf shape classes globals → (o : Op) → IsOp classes globals vars o → IsServedOp o → OpFits (length vars) shape (classes_for vars) o
op_fits shape classes globals vars f (op.New to class) h s =
    let long = classes_there shape classes globals f in
    let few = f.few in
    let k = h.1 in
    (h.0, (omega (arith, k, long), omega (arith, k, few)), tt)
op_fits shape classes globals vars f (op.Copy to from) h s = ((h.0.to_there, h.0.of_there), tt, tt)
op_fits shape classes globals vars f (op.Move to from) h s = ((h.0.to_there, h.0.of_there), tt, tt)
op_fits shape classes globals vars f (op.Drop v) h s = (h, tt, tt)
op_fits shape classes globals vars f (op.Unown to of) h s = ((h.to_there, h.of_there), tt, tt)
op_fits shape classes globals vars f (op.Weak to of) h s = absurd s
op_fits shape classes globals vars f (op.Load to of) h s = ((h.0.to_there, h.0.of_there), tt, tt)
op_fits shape classes globals vars f (op.Get to c) h s = ((h.0, owner_fits classes globals vars c h.1), tt, has_cell shape classes globals vars f c h.1)
op_fits shape classes globals vars f (op.Set c from) h s = ((h.0, owner_fits classes globals vars c h.1), tt, has_cell shape classes globals vars f c h.1)
op_fits shape classes globals vars f (op.IfNil var to) h s = (h, tt, tt)
op_fits shape classes globals vars f (op.IfSome var to) h s = (h, tt, tt)

ops_fit : (shape : HeapShape) (classes : List ClassDecl) (globals vars : List VarDecl) → IsOf shape classes globals → (ops : List Op) → AllByRecursion (IsOp classes globals vars) ops → AllByRecursion IsServedOp ops →
    AllByRecursion (OpFits (length vars) shape (classes_for vars)) ops
ops_fit shape classes globals vars f [] h s = tt
ops_fit shape classes globals vars f (o ∷ ops) h s = (op_fits shape classes globals vars f o h.0 s.0, ops_fit shape classes globals vars f ops h.1 s.1)

-- and still where they are moved behind others
moved_fits : (vars : ℕ) (shape : HeapShape) (classes : List ℕ) (n : ℕ) (o : Op) → OpFits vars shape classes o → OpFits vars shape classes (moved_behind n o)
moved_fits vars shape classes n (op.New to class) f = f
moved_fits vars shape classes n (op.Copy to from) f = f
moved_fits vars shape classes n (op.Move to from) f = f
moved_fits vars shape classes n (op.Drop v) f = f
moved_fits vars shape classes n (op.Unown to of) f = f
moved_fits vars shape classes n (op.Weak to of) f = f
moved_fits vars shape classes n (op.Load to of) f = f
moved_fits vars shape classes n (op.Get to c) f = f
moved_fits vars shape classes n (op.Set c from) f = f
moved_fits vars shape classes n (op.IfNil v to) f = f
moved_fits vars shape classes n (op.IfSome v to) f = f

phases_fit : (shape : HeapShape) (classes : List ClassDecl) (globals vars : List VarDecl) → IsOf shape classes globals → (phases : List (List Op)) →
    AllByRecursion (λ (ops : List Op). AllByRecursion (IsOp classes globals vars) ops) phases → AllByRecursion (All IsServedOp) phases →
    AllByRecursion (λ (ops : List Op). AllByRecursion (OpFits (length vars) shape (classes_for vars)) ops) phases
phases_fit shape classes globals vars f [] h s = tt
phases_fit shape classes globals vars f (ops ∷ rest) h s =
    (ops_fit shape classes globals vars f ops h.0 (recursion_from_All IsServedOp ops s.0), phases_fit shape classes globals vars f rest h.1 s.1)

thread_fits : (shape : HeapShape) (classes : List ClassDecl) (globals : List VarDecl) → IsOf shape classes globals → (ts : List ThreadDecl) (i : ℕ) → AllByRecursion (IsThread classes globals) ts → AllByRecursion IsServedThread ts →
    AllByRecursion (OpFits (count_of_vars (slice_get ts i)) shape (classes_in (slice_get ts i))) (in_one_list 0 (phases_in (slice_get ts i)))
thread_fits shape classes globals f [] i h s = tt
thread_fits shape classes globals f (t ∷ ts) zero h s =
    all_in_one (OpFits (length t.vars) shape (classes_for t.vars)) (moved_fits (length t.vars) shape (classes_for t.vars)) 0 t.phases
    (phases_fit shape classes globals t.vars f t.phases h.0.ops (recursion_from_All (All IsServedOp) t.phases s.0.ops))
thread_fits shape classes globals f (t ∷ ts) (suc i) h s = thread_fits shape classes globals f ts i h.1 s.1

is_of : (s : Script) → IsScript s → IsOf s.shape s.classes s.globals
is_of s valid = record {
  few = rw length-map at valid.heading.classes_named.names.few;
  of_classes = valid.heading.of_classes;
  of_globals = valid.heading.of_globals;
}

program_fits : (s : Script) (thread : ℕ) → IsScript s → IsServed s → AllByRecursion (OpFits (vars_of s thread) s.shape (classes_of s thread)) (program_of s thread)
program_fits s thread valid served = go (eqb thread 0)
  where
    go : (b : Bool) → AllByRecursion (OpFits (count_of_vars (cond b None (slice_get s.threads (thread - 1)))) s.shape (classes_in (cond b None (slice_get s.threads (thread - 1))))) (in_one_list 0 (phases_in (cond b None (slice_get s.threads (thread - 1)))))
    go true = tt
    go false = thread_fits s.shape s.classes s.globals (is_of s valid) s.threads (thread - 1) valid.threads (recursion_from_All IsServedThread s.threads served.threads)

-- each variable is for a class
vars_are : (s : Script) (thread : ℕ) → length (classes_of s thread) ≡ vars_of s thread
vars_are s thread = go (declared_of s thread)
  where
    go : (d : Option ThreadDecl) → length (classes_in d) ≡ count_of_vars d
    go None = refl
    go (Some t) = length-map t.vars (λ (v : VarDecl). v.class)

-- what holds of each holds of each in part
part : (P Q : Op → Type 0) → ((o : Op) → P o → Q o) → (ops : List Op) → AllByRecursion P ops → AllByRecursion Q ops
part P Q of [] f = tt
part P Q of (o ∷ ops) f = (of o f.0, part P Q of ops f.1)

-- the kinds of the globals
kinds_served : (vs : List VarDecl) → AllByRecursion IsServedVar vs → AllByRecursion IsServedRef (var_refs vs)
kinds_served [] s = tt
kinds_served (v ∷ vs) s = (s.0, kinds_served vs s.1)

-- the phases of each thread are nested
thread_nested : (classes : List ClassDecl) (globals : List VarDecl) (ts : List ThreadDecl) (i : ℕ) → AllByRecursion (IsThread classes globals) ts → AllByRecursion (Nested 8 0) (phases_in (slice_get ts i))
thread_nested classes globals [] i h = tt
thread_nested classes globals (t ∷ ts) zero h = h.0.nested
thread_nested classes globals (t ∷ ts) (suc i) h = thread_nested classes globals ts i h.1

pub phases_nested : (s : Script) (thread : ℕ) → IsScript s → AllByRecursion (Nested 8 0) (phases_of s thread)
phases_nested s thread valid = go (eqb thread 0)
  where
    go : (b : Bool) → AllByRecursion (Nested 8 0) (phases_in (cond b None (slice_get s.threads (thread - 1))))
    go true = tt
    go false = thread_nested s.classes s.globals s.threads (thread - 1) valid.threads

pub blocks_fit : (s : Script) (thread : ℕ) → IsScript s → BlocksFit (program_of s thread) (phases_of s thread)
blocks_fit s thread valid k i o lt e =
    let end : ℕ = ops_in_first k (phases_of s thread) in
    subst (λ (j : ℕ). GoesForth j end o) (zero-add i) (subst (λ (f : ℕ). GoesForth (0 + i) f o) (zero-add end) (phases_forth 0 (phases_of s thread) (phases_nested s thread valid) k i o lt e))

pub to_fit : (s : Script) (thread : ℕ) → IsScript s → All (All ToFits) (phases_of s thread)
to_fit s thread valid = All-from_recursion (All ToFits) (phases_of s thread) (all_to_fit (phases_of s thread) (phases_few s thread valid) (phases_nested s thread valid))

pub is_stepper : (s : Script) (thread : ℕ) → IsScript s → IsServed s → thread ≤ length s.threads → IsStepper (stepper_of s thread)
is_stepper s thread valid served within =
    let P : Op → Type 0 = OpFits (vars_of s thread) s.shape (classes_of s thread) in
    let fits = program_fits s thread valid served in
    let globals_is : length s.shape.globals ≡ length s.globals = ap length valid.heading.of_globals ∙ length-map s.globals (λ (v : VarDecl). record { kind = v.kind; class = v.class }) in
    let few = valid.few_threads in
    let cap = served.strong_cap in
    record {
      layout = refl;
      classes = served.classes;
      slots = valid.heading.slots.1;
      strong_cap = omega arith;
      thread = omega arith;
      globals = rw globals_is (rw length-map at valid.heading.globals_named.names.few);
      global_kinds = rw valid.heading.of_globals (All-from_recursion IsServedRef (var_refs s.globals) (kinds_served s.globals (recursion_from_All IsServedVar s.globals served.globals)));
      vars_are = vars_are s thread ∙ sym (length-replicate (vars_of s thread) None);
      vars_fit = rw length-replicate (All-from_recursion (VarsFit (vars_of s thread)) (program_of s thread) (part P (VarsFit (vars_of s thread)) (λ o f. f.0) (program_of s thread) fits));
      classes_fit = All-from_recursion (ClassFits (length s.shape.classes)) (program_of s thread) (part P (ClassFits (length s.shape.classes)) (λ o f. f.1) (program_of s thread) fits);
      cells_fit = All-from_recursion (CellFits s.shape (classes_of s thread)) (program_of s thread) (part P (CellFits s.shape (classes_of s thread)) (λ o f. f.2) (program_of s thread) fits);
      cleared = omega arith;
      taken = omega arith;
      whole = refl;
      blocks = blocks_fit s thread valid;
      few = program_few s thread valid;
      held = All-replicate (HeldFits s.shape.slots) (vars_of s thread) None tt;
      phase = omega arith;
      index = omega arith;
      hands = omega arith;
      made = omega arith;
      under_way = tt;
      in_operation = λ below. (omega arith, omega arith);
    }
