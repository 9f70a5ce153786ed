-- What a thread of a script works on that is served: operations that are served, over variables of their kinds.
use Rattle.std.proofs.Common.{◌≡◌, ℕ, zero, suc, ◌-◌, ◌+◌, ◌<◌, Bool, true, false, cond, eqb, List, [], ◌∷◌, length, get_or, Option, Some, None, refl, sym, ap, subst, ◌∙◌}
use Rattle.std.proofs.lemmas.List.{length-map}
use Rattle.std.proofs.lemmas.List.Elements.{All-from_recursion, recursion_from_All, All-nil, All-same, All-map}
use Rattle.std.specs.Prelude.{slice_get, All, map}
use Rattle.std.specs.List.{AllByRecursion}
use Rattle.arc_script.specs.declared.script.Op.{Op}
use Rattle.arc_model.specs.Shapes.{ObjectClass, HeapShape, class_at}
use Rattle.arc_model.specs.declared.shape.RefShape.{RefShape}
use Rattle.arc_model.specs.declared.shape.Kind.{Kind}
use Rattle.arc_model.specs.declared.shape.Kind.TheVariants.{Strong, Unowned, Weak}
use Rattle.arc_side.specs.Inline.{IsCountedInline}
use Rattle.arc_script.specs.declared.script.ClassDecl.{ClassDecl}
use Rattle.arc_script.specs.declared.script.FieldDecl.{FieldDecl}
use Rattle.arc_script.specs.declared.script.VarDecl.{VarDecl}
use Rattle.arc_script.specs.declared.script.ThreadDecl.{ThreadDecl}
use Rattle.arc_script.specs.declared.script.Script.{Script}
use Rattle.arc_script.specs.declared.script.Op.TheVariants as op
use Rattle.arc_script.specs.declared.script.OpCell.{OpCell}
use Rattle.arc_script.specs.declared.script.OpCell.TheVariants as opcell
use Rattle.arc_script.specs.Valid.{IsScript, IsThread, IsOp, IsCell, ArePair, kind_at, ref_at, field_refs, var_refs, class_refs, fields_at, owner_fields, cell_ref}
use Rattle.arc_script.specs.OneList.{in_one_list, moved_behind}
use Rattle.arc_script.proofs.OneList.{all_in_one}
use Rattle.arc_served.specs.Programs.{declared_of, phases_in, program_of, vars_of, kinds_in, kinds_of, kind_of, classes_in, classes_of, class_of, ref_of, HasCell, CellFits, OwnsStrongly, KindOfCell, KindsFit, ClassesFit}
use Rattle.arc_served.specs.Served.{IsServed, IsServedThread, IsServedVar, IsServedOp, IsServedRef}
use Rattle.std.proofs.ByRecursion.{All-weaker}

-- ---- the declaration of a thread

of-threads : (Q R : ThreadDecl → Type 0) (P : Option ThreadDecl → Type 0) → P None → ((d : ThreadDecl) → Q d → R d → P (Some d)) → (ts : List ThreadDecl) (i : ℕ) → AllByRecursion Q ts → AllByRecursion R ts → P (slice_get ts i)
of-threads Q R P absent some [] i q r = absent
of-threads Q R P absent some (t ∷ ts) zero q r = some t q.0 r.0
of-threads Q R P absent some (t ∷ ts) (suc i) q r = of-threads Q R P absent some ts i q.1 r.1

-- what follows of each declaration holds of a thread's; thread 0 has none
of-declared : (Q R : ThreadDecl → Type 0) (P : Option ThreadDecl → Type 0) → P None → ((d : ThreadDecl) → Q d → R d → P (Some d)) → (s : Script) (p : ℕ) → AllByRecursion Q s.threads → AllByRecursion R s.threads → P (declared_of s p)
of-declared Q R P absent some s p q r = go (eqb p 0)
  where
    go : (b : Bool) → P (cond b None (slice_get s.threads (p - 1)))
    go true = absent
    go false = of-threads Q R P absent some s.threads (p - 1) q r

-- what is said of an operation, wherever its block ends, is said of it behind others
moved-stays : (P : Op → Type 0) → ((v to end : ℕ) → P (op.IfNil v to) → P (op.IfNil v end)) → ((v to end : ℕ) → P (op.IfSome v to) → P (op.IfSome v end)) → (n : ℕ) (o : Op) → P o → P (moved_behind n o)
moved-stays P nil some n (op.New to class) h = h
moved-stays P nil some n (op.Copy to from) h = h
moved-stays P nil some n (op.Move to from) h = h
moved-stays P nil some n (op.Drop v) h = h
moved-stays P nil some n (op.Unown to of) h = h
moved-stays P nil some n (op.Weak to of) h = h
moved-stays P nil some n (op.Load to of) h = h
moved-stays P nil some n (op.Get to c) h = h
moved-stays P nil some n (op.Set c from) h = h
moved-stays P nil some n (op.IfNil v to) h = nil v to (n + to) h
moved-stays P nil some n (op.IfSome v to) h = some v to (n + to) h

-- ---- its operations are served

pub program-served : (s : Script) (p : ℕ) → IsServed s → All IsServedOp (program_of s p)
program-served s p served =
    let threads = recursion_from_All IsServedThread s.threads served.threads in
    All-from_recursion IsServedOp (program_of s p) (of-declared IsServedThread IsServedThread (λ o. AllByRecursion IsServedOp (in_one_list 0 (phases_in o))) tt of-thread s p threads threads)
  where
    of-thread : (d : ThreadDecl) → IsServedThread d → IsServedThread d → AllByRecursion IsServedOp (in_one_list 0 d.phases)
    of-thread d h again = all_in_one IsServedOp (moved-stays IsServedOp (λ v to end x. x) (λ v to end x. x)) 0 d.phases (All-weaker (All IsServedOp) (AllByRecursion IsServedOp) (recursion_from_All IsServedOp) d.phases (recursion_from_All (All IsServedOp) d.phases h.ops))

-- ---- and so are the kinds of its variables

pub kinds-served : (s : Script) (p : ℕ) → IsServed s → All IsCountedInline (kinds_of s p)
kinds-served s p served =
    let threads = recursion_from_All IsServedThread s.threads served.threads in
    of-declared IsServedThread IsServedThread (λ o. All IsCountedInline (kinds_in o)) (All-nil IsCountedInline) (λ d h again. All-map IsCountedInline (λ (v : VarDecl). v.kind) d.vars h.vars) s p threads threads

-- ---- which its operations fit

-- the kind and the class that a declaration gives a variable
kind-declared : (vars : List VarDecl) (v : ℕ) → kind_of (map (λ (d : VarDecl). d.kind) vars) v ≡ kind_at vars v
kind-declared [] v = refl
kind-declared (d ∷ vars) zero = refl
kind-declared (d ∷ vars) (suc v) = kind-declared vars v

class-declared : (vars : List VarDecl) (v : ℕ) → class_of (map (λ (d : VarDecl). d.class) vars) v ≡ (ref_at (var_refs vars) v).class
class-declared [] v = refl
class-declared (d ∷ vars) zero = refl
class-declared (d ∷ vars) (suc v) = class-declared vars v

pair-kinds : (vars : List VarDecl) (to of : ℕ) (kind_to kind_from : Kind) → ArePair vars to of kind_to kind_from →
    (kind_of (map (λ (d : VarDecl). d.kind) vars) to ≡ kind_to) × (kind_of (map (λ (d : VarDecl). d.kind) vars) of ≡ kind_from)
pair-kinds vars to of kind_to kind_from pair = (kind-declared vars to ∙ pair.kind_of_to, kind-declared vars of ∙ pair.kind_of_of)

pair-classes : (vars : List VarDecl) (to of : ℕ) (kind_to kind_from : Kind) → ArePair vars to of kind_to kind_from →
    class_of (map (λ (d : VarDecl). d.class) vars) to ≡ class_of (map (λ (d : VarDecl). d.class) vars) of
pair-classes vars to of kind_to kind_from pair = class-declared vars to ∙ pair.one_class ∙ sym (class-declared vars of)

-- a variable of a script that is served, of another kind than a strong one, is an unowned one
other-kind : (vars : List VarDecl) (v : ℕ) → AllByRecursion IsServedVar vars → (kind_at vars v ≡ Strong → ⊥) → kind_at vars v ≡ Unowned
other-kind [] v served differ = absurd (differ refl)
other-kind (d ∷ vars) zero served differ = go d.kind served.0 differ
  where
    go : (k : Kind) → IsCountedInline k → (k ≡ Strong → ⊥) → k ≡ Unowned
    go Strong counted differ = absurd (differ refl)
    go Unowned counted differ = refl
    go Weak counted differ = absurd counted
other-kind (d ∷ vars) (suc v) served differ = other-kind vars v served.1 differ

-- the heap has the classes and globals that are declared
pub record IsDeclared (shape : HeapShape) (classes : List ClassDecl) (globals : List VarDecl) : Type 0 where
  pub classes_are : shape.classes ≡ class_refs classes
  pub globals_are : shape.globals ≡ var_refs globals

-- the kinds and the classes of the variables that are declared
abbrev kinds-in : List VarDecl → List Kind
kinds-in vars = map (λ (d : VarDecl). d.kind) vars

abbrev classes-in : List VarDecl → List ℕ
classes-in vars = map (λ (d : VarDecl). d.class) vars

-- what a field, a variable or a global refers to
abbrev field-ref : FieldDecl → RefShape
field-ref f = record { kind = f.kind; class = f.class }

abbrev var-ref : VarDecl → RefShape
var-ref v = record { kind = v.kind; class = v.class }

class-fields : (classes : List ClassDecl) (i : ℕ) → (get_or (class_refs classes) i (record { fields = []; immortal = false })).fields ≡ field_refs (fields_at classes i)
class-fields [] i = refl
class-fields (c ∷ classes) zero = refl
class-fields (c ∷ classes) (suc i) = class-fields classes i

-- the fields that an owner has
fields-declared : (shape : HeapShape) (classes : List ClassDecl) (globals vars : List VarDecl) → IsDeclared shape classes globals → (owner : ℕ) →
    (class_at shape (class_of (classes-in vars) owner)).fields ≡ field_refs (owner_fields classes vars owner)
fields-declared shape classes globals vars d owner =
    ap (λ (cs : List ObjectClass). (get_or cs (class_of (classes-in vars) owner) (record { fields = []; immortal = false })).fields) d.classes_are
    ∙ class-fields classes (class_of (classes-in vars) owner)
    ∙ ap (λ (n : ℕ). field_refs (fields_at classes n)) (class-declared vars owner)

-- a cell is what it is declared as
ref-declared : (shape : HeapShape) (classes : List ClassDecl) (globals vars : List VarDecl) → IsDeclared shape classes globals → (c : OpCell) → ref_of shape (classes-in vars) c ≡ cell_ref classes globals vars c
ref-declared shape classes globals vars d (opcell.Global g) = ap (λ (refs : List RefShape). ref_at refs g) d.globals_are
ref-declared shape classes globals vars d (opcell.Field owner field) = ap (λ (refs : List RefShape). ref_at refs field) (fields-declared shape classes globals vars d owner)

cell-there : (shape : HeapShape) (classes : List ClassDecl) (globals vars : List VarDecl) → IsDeclared shape classes globals → (c : OpCell) → IsCell classes globals vars c → HasCell shape (classes-in vars) c
cell-there shape classes globals vars d (opcell.Global g) h = subst (λ (n : ℕ). g < n) (sym (ap (λ (refs : List RefShape). length refs) d.globals_are ∙ length-map globals var-ref)) h
cell-there shape classes globals vars d (opcell.Field owner field) h =
    subst (λ (n : ℕ). field < n) (sym (ap (λ (refs : List RefShape). length refs) (fields-declared shape classes globals vars d owner) ∙ length-map (owner_fields classes vars owner) field-ref)) h.2

owner-strong : (classes : List ClassDecl) (globals vars : List VarDecl) (c : OpCell) → IsCell classes globals vars c → OwnsStrongly (kinds-in vars) c
owner-strong classes globals vars (opcell.Global g) h = tt
owner-strong classes globals vars (opcell.Field owner field) h = kind-declared vars owner ∙ h.1

-- a variable is declared as the cell that an operation names is
kind-of-cell : (shape : HeapShape) (classes : List ClassDecl) (globals vars : List VarDecl) → IsDeclared shape classes globals → (v : ℕ) (c : OpCell) → IsCell classes globals vars c → ref_at (var_refs vars) v ≡ cell_ref classes globals vars c →
    KindOfCell shape (classes-in vars) (kinds-in vars) v c
kind-of-cell shape classes globals vars d v c there e =
    (kind-declared vars v ∙ ap (λ (r : RefShape). r.kind) (e ∙ sym (ref-declared shape classes globals vars d c)), owner-strong classes globals vars c there)

class-of-cell : (shape : HeapShape) (classes : List ClassDecl) (globals vars : List VarDecl) → IsDeclared shape classes globals → (v : ℕ) (c : OpCell) → ref_at (var_refs vars) v ≡ cell_ref classes globals vars c →
    class_of (classes-in vars) v ≡ (ref_of shape (classes-in vars) c).class
class-of-cell shape classes globals vars d v c e = class-declared vars v ∙ ap (λ (r : RefShape). r.class) (e ∙ sym (ref-declared shape classes globals vars d c))

pub op-kinds : (shape : HeapShape) (classes : List ClassDecl) (globals vars : List VarDecl) → IsDeclared shape classes globals → AllByRecursion IsServedVar vars → (o : Op) → IsOp classes globals vars o →
    KindsFit shape (classes-in vars) (kinds-in vars) o
op-kinds shape classes globals vars d served (op.New to class) h = kind-declared vars to ∙ ap (λ (r : RefShape). r.kind) h.2
op-kinds shape classes globals vars d served (op.Copy to from) h = let k = pair-kinds vars to from (kind_at vars from) (kind_at vars from) h.0 in k.0 ∙ sym k.1
op-kinds shape classes globals vars d served (op.Move to from) h = let k = pair-kinds vars to from (kind_at vars from) (kind_at vars from) h.0 in k.0 ∙ sym k.1
op-kinds shape classes globals vars d served (op.Drop v) h = tt
op-kinds shape classes globals vars d served (op.Unown to of) h = pair-kinds vars to of Unowned Strong h
op-kinds shape classes globals vars d served (op.Weak to of) h = tt
op-kinds shape classes globals vars d served (op.Load to of) h = let k = pair-kinds vars to of Strong (kind_at vars of) h.0 in (k.0, k.1 ∙ other-kind vars of served h.1)
op-kinds shape classes globals vars d served (op.Get to cell) h = kind-of-cell shape classes globals vars d to cell h.1 h.2
op-kinds shape classes globals vars d served (op.Set cell from) h = kind-of-cell shape classes globals vars d from cell h.1 h.2
op-kinds shape classes globals vars d served (op.IfNil var to) h = tt
op-kinds shape classes globals vars d served (op.IfSome var to) h = tt

op-classes : (shape : HeapShape) (classes : List ClassDecl) (globals vars : List VarDecl) → IsDeclared shape classes globals → (o : Op) → IsOp classes globals vars o → ClassesFit shape (classes-in vars) o
op-classes shape classes globals vars d (op.New to class) h = class-declared vars to ∙ ap (λ (r : RefShape). r.class) h.2
op-classes shape classes globals vars d (op.Copy to from) h = pair-classes vars to from (kind_at vars from) (kind_at vars from) h.0
op-classes shape classes globals vars d (op.Move to from) h = pair-classes vars to from (kind_at vars from) (kind_at vars from) h.0
op-classes shape classes globals vars d (op.Drop v) h = tt
op-classes shape classes globals vars d (op.Unown to of) h = pair-classes vars to of Unowned Strong h
op-classes shape classes globals vars d (op.Weak to of) h = tt
op-classes shape classes globals vars d (op.Load to of) h = pair-classes vars to of Strong (kind_at vars of) h.0
op-classes shape classes globals vars d (op.Get to cell) h = class-of-cell shape classes globals vars d to cell h.2
op-classes shape classes globals vars d (op.Set cell from) h = class-of-cell shape classes globals vars d from cell h.2
op-classes shape classes globals vars d (op.IfNil var to) h = tt
op-classes shape classes globals vars d (op.IfSome var to) h = tt

-- the cells that they name are there
pub op-cells : (shape : HeapShape) (classes : List ClassDecl) (globals vars : List VarDecl) → IsDeclared shape classes globals → (o : Op) → IsOp classes globals vars o → CellFits shape (classes-in vars) o
op-cells shape classes globals vars d (op.New to class) h = tt
op-cells shape classes globals vars d (op.Copy to from) h = tt
op-cells shape classes globals vars d (op.Move to from) h = tt
op-cells shape classes globals vars d (op.Drop v) h = tt
op-cells shape classes globals vars d (op.Unown to of) h = tt
op-cells shape classes globals vars d (op.Weak to of) h = tt
op-cells shape classes globals vars d (op.Load to of) h = tt
op-cells shape classes globals vars d (op.Get to cell) h = cell-there shape classes globals vars d cell h.1
op-cells shape classes globals vars d (op.Set cell from) h = cell-there shape classes globals vars d cell h.1
op-cells shape classes globals vars d (op.IfNil var to) h = tt
op-cells shape classes globals vars d (op.IfSome var to) h = tt

-- ---- and so do all of a thread

-- said of each operation of a thread, for the kinds and the classes of its variables
abbrev OfThread : (List Kind → List ℕ → Op → Type 0) → Option ThreadDecl → Type 0
OfThread P o = AllByRecursion (P (kinds_in o) (classes_in o)) (in_one_list 0 (phases_in o))

-- what follows of each operation of a script that is served, wherever its block ends, holds of the program
of-each : (s : Script) (p : ℕ) → IsScript s → IsServed s → (P : List Kind → List ℕ → Op → Type 0) →
    ((kinds : List Kind) (classes : List ℕ) (v to end : ℕ) → P kinds classes (op.IfNil v to) → P kinds classes (op.IfNil v end)) →
    ((kinds : List Kind) (classes : List ℕ) (v to end : ℕ) → P kinds classes (op.IfSome v to) → P kinds classes (op.IfSome v end)) →
    ((vars : List VarDecl) → AllByRecursion IsServedVar vars → (o : Op) → IsOp s.classes s.globals vars o → P (kinds-in vars) (classes-in vars) o) → All (P (kinds_of s p) (classes_of s p)) (program_of s p)
of-each s p valid served P nil some each =
    All-from_recursion (P (kinds_of s p) (classes_of s p)) (program_of s p)
    (of-declared (IsThread s.classes s.globals) IsServedThread (OfThread P) tt of-thread s p valid.threads (recursion_from_All IsServedThread s.threads served.threads))
  where
    of-thread : (d : ThreadDecl) → IsThread s.classes s.globals d → IsServedThread d → OfThread P (Some d)
    of-thread d h served =
        let Q : Op → Type 0 = P (kinds-in d.vars) (classes-in d.vars) in
        all_in_one Q (moved-stays Q (nil (kinds-in d.vars) (classes-in d.vars)) (some (kinds-in d.vars) (classes-in d.vars))) 0 d.phases
        (All-weaker (AllByRecursion (IsOp s.classes s.globals d.vars)) (AllByRecursion Q)
        (All-weaker (IsOp s.classes s.globals d.vars) Q (each d.vars (recursion_from_All IsServedVar d.vars served.vars))) d.phases h.ops)

pub declared : (s : Script) → IsScript s → IsDeclared s.shape s.classes s.globals
declared s valid = record { classes_are = valid.heading.of_classes; globals_are = valid.heading.of_globals }

pub program-kinds : (s : Script) (p : ℕ) → IsScript s → IsServed s → All (KindsFit s.shape (classes_of s p) (kinds_of s p)) (program_of s p)
program-kinds s p valid served =
    of-each s p valid served (λ kinds classes. KindsFit s.shape classes kinds) (λ kinds classes v to end x. tt) (λ kinds classes v to end x. tt) (λ vars all o h. op-kinds s.shape s.classes s.globals vars (declared s valid) all o h)

pub program-classes : (s : Script) (p : ℕ) → IsScript s → IsServed s → All (ClassesFit s.shape (classes_of s p)) (program_of s p)
program-classes s p valid served =
    of-each s p valid served (λ kinds classes. ClassesFit s.shape classes) (λ kinds classes v to end x. tt) (λ kinds classes v to end x. tt) (λ vars all o h. op-classes s.shape s.classes s.globals vars (declared s valid) o h)

pub program-cells : (s : Script) (p : ℕ) → IsScript s → IsServed s → All (CellFits s.shape (classes_of s p)) (program_of s p)
program-cells s p valid served =
    of-each s p valid served (λ kinds classes. CellFits s.shape classes) (λ kinds classes v to end x. tt) (λ kinds classes v to end x. tt) (λ vars all o h. op-cells s.shape s.classes s.globals vars (declared s valid) o h)

-- ---- globals and classes

pub globals-served : (s : Script) → IsScript s → IsServed s → All IsServedRef s.shape.globals
globals-served s valid served = All-same IsServedRef s.shape.globals (var_refs s.globals) valid.heading.of_globals (All-map IsServedRef var-ref s.globals served.globals)

-- thread 0 has neither operations nor variables
pub clears-alone : (s : Script) (p : ℕ) → p ≡ 0 → (program_of s p ≡ []) × (vars_of s p ≡ 0)
clears-alone s zero e = (refl, refl)
clears-alone s (suc p) e = absurd (cc)
