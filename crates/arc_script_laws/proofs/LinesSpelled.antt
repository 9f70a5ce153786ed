-- The lines of a canonical text are words.
use Rattle.std.proofs.Common.{◌≡◌, ℕ, zero, suc, ◌+◌, ◌^◌, ◌<◌, ◌≤◌, Bool, true, false, cond, eqb, List, [], ◌∷◌, ◌++◌, length, map, take, drop, refl, arith, lit≤, lit<}
use Rattle.std.specs.Prelude.{codes}
use Rattle.std.specs.List.{AllByRecursion, flat_map}
use Rattle.std.specs.Fmt.{decimal}
use Rattle.std.proofs.lemmas.List.{length-map}
use Rattle.arc_text.specs.Words.{is_name}
use Rattle.arc_model.specs.declared.shape.Kind.{Kind}
use Rattle.arc_model.specs.declared.shape.Kind.TheVariants as kind
use Rattle.arc_script.specs.declared.script.FieldDecl.{FieldDecl}
use Rattle.arc_script.specs.declared.script.ClassDecl.{ClassDecl}
use Rattle.arc_script.specs.declared.script.VarDecl.{VarDecl}
use Rattle.arc_script.specs.declared.script.OpCell.{OpCell}
use Rattle.arc_script.specs.declared.script.OpCell.TheVariants as cell
use Rattle.arc_script.specs.declared.script.Op.{Op}
use Rattle.arc_script.specs.declared.script.Op.TheVariants as op
use Rattle.arc_script.specs.declared.script.ThreadDecl.{ThreadDecl}
use Rattle.arc_script.specs.declared.script.Script.{Script}
use Rattle.arc_script.specs.Valid.{name_at, field_names, class_names, var_names, var_refs, ref_at, owner_fields, IsCell, IsOp, AreFields, AreClasses, AreVars, IsThread, IsScript}
use Rattle.arc_script.specs.Canonical.{kind_word, field_word, cell_word, numbers_line, class_line, decl_line, heading_lines, op_line, class_word, ends_at, still_open, with_end, ops_from, op_lines, later_phase, phase_lines, thread_lines, threads_lines, schedule_upto, schedule_lines, script_lines}
use Rattle.arc_script_laws.proofs.Spelled.{IsInk, IsWord, word_from_test, name_word, decimal_word, marked_word, sign_word}
use Rattle.arc_script_laws.proofs.OpsBack.{fields_of}

abbrev pub IsLine : List (List ℕ) → Type 0
IsLine words = AllByRecursion IsWord words

abbrev pub AreLines : List (List (List ℕ)) → Type 0
AreLines lines = AllByRecursion IsLine lines

pub lines_append : (xs ys : List (List (List ℕ))) → AreLines xs → AreLines ys → AreLines (xs ++ ys)
lines_append [] ys h k = k
lines_append (x ∷ xs) ys h k = (h.0, lines_append xs ys h.1 k)

numbers_words : (ns : List ℕ) → AllByRecursion (λ n. n < 2 ^ 64) ns → AllByRecursion IsWord (map decimal ns)
numbers_words [] h = tt
numbers_words (n ∷ ns) h = (decimal_word n h.0, numbers_words ns h.1)

pub numbers_spelled : (w : List ℕ) (ns : List ℕ) → IsWord w → AllByRecursion (λ n. n < 2 ^ 64) ns → IsLine (numbers_line w ns)
numbers_spelled w ns word h = (word, numbers_words ns h)

kind_spelled : (k : Kind) → IsWord (kind_word k)
kind_spelled kind.Strong = word_from_test (codes "strong") refl
kind_spelled kind.Unowned = word_from_test (codes "unowned") refl
kind_spelled kind.Weak = word_from_test (codes "weak") refl

class_spelled_at : (classes : List ClassDecl) → AreClasses classes → (i : ℕ) → i < length classes → IsWord (name_at (class_names classes) i)
class_spelled_at classes are i lt =
    let long : length (class_names classes) ≡ length classes = length-map classes (λ (c : ClassDecl). c.name) in
    name_word (name_at (class_names classes) i) (are.names.spelled i (omega arith))

colon_ink : IsInk 58
colon_ink = (lit≤ tt, lit≤ tt)

dot_ink : IsInk 46
dot_ink = (lit≤ tt, lit≤ tt)

sign_ink : IsInk 64
sign_ink = (lit≤ tt, lit≤ tt)

fields_spelled : (classes : List ClassDecl) → AreClasses classes → (fs : List FieldDecl) → ((i : ℕ) → i < length (field_names fs) → is_name (name_at (field_names fs) i) ≡ true) → AllByRecursion (λ (f : FieldDecl). f.class < length classes) fs
    → AllByRecursion IsWord (map (field_word classes) fs)
fields_spelled classes are [] spelled of = tt
fields_spelled classes are (f ∷ fs) spelled of = (
  marked_word 58 f.name (kind_word f.kind ++ (58 ∷ name_at (class_names classes) f.class)) colon_ink (name_word f.name (spelled 0 (omega arith)))
      (marked_word 58 (kind_word f.kind) (name_at (class_names classes) f.class) colon_ink (kind_spelled f.kind) (class_spelled_at classes are f.class of.0)),
  fields_spelled classes are fs (λ i h. spelled (suc i) (omega arith)) of.1,
)

pub class_word_spelled : (immortal : Bool) → IsWord (class_word immortal)
class_word_spelled true = word_from_test (codes "immortal") refl
class_word_spelled false = word_from_test (codes "class") refl

pub class_spelled : (classes : List ClassDecl) → AreClasses classes → (c : ClassDecl) → is_name c.name ≡ true → AreFields (length classes) c.fields → IsLine (class_line classes c)
class_spelled classes are c name fields = (class_word_spelled c.immortal, (name_word c.name name, fields_spelled classes are c.fields fields.names.spelled fields.of_classes))

classes_spelled : (classes : List ClassDecl) → AreClasses classes → (cs : List ClassDecl) → ((i : ℕ) → i < length (class_names cs) → is_name (name_at (class_names cs) i) ≡ true) → AllByRecursion (λ (c : ClassDecl). AreFields (length classes) c.fields) cs
    → AreLines (map (class_line classes) cs)
classes_spelled classes are [] spelled fields = tt
classes_spelled classes are (c ∷ cs) spelled fields = (class_spelled classes are c (spelled 0 (omega arith)) fields.0, classes_spelled classes are cs (λ i h. spelled (suc i) (omega arith)) fields.1)

pub decl_spelled : (w : List ℕ) → IsWord w → (classes : List ClassDecl) → AreClasses classes → (v : VarDecl) → is_name v.name ≡ true → v.class < length classes → IsLine (decl_line w classes v)
decl_spelled w word classes are v name lt = (word, (name_word v.name name, (kind_spelled v.kind, (class_spelled_at classes are v.class lt, tt))))

decls_spelled : (w : List ℕ) → IsWord w → (classes : List ClassDecl) → AreClasses classes → (vs : List VarDecl) → ((i : ℕ) → i < length (var_names vs) → is_name (name_at (var_names vs) i) ≡ true) → AllByRecursion (λ (v : VarDecl). v.class < length classes) vs
    → AreLines (map (decl_line w classes) vs)
decls_spelled w word classes are [] spelled of = tt
decls_spelled w word classes are (v ∷ vs) spelled of = (decl_spelled w word classes are v (spelled 0 (omega arith)) of.0, decls_spelled w word classes are vs (λ i h. spelled (suc i) (omega arith)) of.1)

-- ---- operations

cond_lines : (b : Bool) (xs : List (List (List ℕ))) → AreLines xs → AreLines (cond b xs [])
cond_lines true xs h = h
cond_lines false xs h = tt

ends_spelled : (at : ℕ) (ends : List ℕ) → AreLines (ends_at at ends)
ends_spelled at [] = tt
ends_spelled at (e ∷ ends) = cond_lines (eqb e at) ((codes "end" ∷ []) ∷ ends_at at ends) ((word_from_test (codes "end") refl, tt), ends_spelled at ends)

module _ (classes : List ClassDecl) (are : AreClasses classes) (globals : List VarDecl) (cells : AreVars 64 (length classes) globals) (vars : List VarDecl) (known : AreVars 256 (length classes) vars) where
  var_spelled : (i : ℕ) → i < length vars → IsWord (name_at (var_names vars) i)
  var_spelled i lt =
      let long : length (var_names vars) ≡ length vars = length-map vars (λ (v : VarDecl). v.name) in
      name_word (name_at (var_names vars) i) (known.names.spelled i (omega arith))

  cell_spelled : (c : OpCell) → IsCell classes globals vars c → IsWord (cell_word classes globals vars c)
  cell_spelled (cell.Global g) h =
      let long : length (var_names globals) ≡ length globals = length-map globals (λ (v : VarDecl). v.name) in
      sign_word 64 (name_at (var_names globals) g) sign_ink (name_word (name_at (var_names globals) g) (cells.names.spelled g (omega arith)))
  cell_spelled (cell.Field owner field) h =
      let names = fields_of (length classes) classes (ref_at (var_refs vars) owner).class are.fields in
      let long : length (field_names (owner_fields classes vars owner)) ≡ length (owner_fields classes vars owner) = length-map (owner_fields classes vars owner) (λ (f : FieldDecl). f.name) in
      let lt = h.2 in
      marked_word 46 (name_at (var_names vars) owner) (name_at (field_names (owner_fields classes vars owner)) field) dot_ink (var_spelled owner h.0) (name_word (name_at (field_names (owner_fields classes vars owner)) field) (names.spelled field (omega arith)))

  pub op_spelled : (o : Op) → IsOp classes globals vars o → IsLine (op_line classes globals vars o)
  op_spelled (op.New to class) h = (word_from_test (codes "new") refl, (var_spelled to h.0, (class_spelled_at classes are class h.1, tt)))
  op_spelled (op.Copy to from) h = let p = h.0 in (word_from_test (codes "copy") refl, (var_spelled to p.to_there, (var_spelled from p.of_there, tt)))
  op_spelled (op.Drop var) h = (word_from_test (codes "drop") refl, (var_spelled var h, tt))
  op_spelled (op.Move to from) h = let p = h.0 in (word_from_test (codes "move") refl, (var_spelled to p.to_there, (var_spelled from p.of_there, tt)))
  op_spelled (op.Unown to of) h = (word_from_test (codes "unown") refl, (var_spelled to h.to_there, (var_spelled of h.of_there, tt)))
  op_spelled (op.Weak to of) h = (word_from_test (codes "weak") refl, (var_spelled to h.to_there, (var_spelled of h.of_there, tt)))
  op_spelled (op.Load to of) h = let p = h.0 in (word_from_test (codes "load") refl, (var_spelled to p.to_there, (var_spelled of p.of_there, tt)))
  op_spelled (op.Get to c) h = (word_from_test (codes "get") refl, (var_spelled to h.0, (cell_spelled c h.1, tt)))
  op_spelled (op.IfNil var to) h = (word_from_test (codes "ifnil") refl, (var_spelled var h, tt))
  op_spelled (op.IfSome var to) h = (word_from_test (codes "ifsome") refl, (var_spelled var h, tt))
  op_spelled (op.Set c from) h = (word_from_test (codes "set") refl, (cell_spelled c h.1, (var_spelled from h.0, tt)))

  ops_from_spelled : (at : ℕ) (ends : List ℕ) (os : List Op) → AllByRecursion (IsOp classes globals vars) os → AreLines (ops_from classes globals vars at ends os)
  ops_from_spelled at ends [] h = ends_spelled at ends
  ops_from_spelled at ends (o ∷ os) h =
      lines_append (ends_at at ends) (op_line classes globals vars o ∷ ops_from classes globals vars (at + 1) (with_end o (still_open at ends)) os) (ends_spelled at ends)
      (op_spelled o h.0, ops_from_spelled (at + 1) (with_end o (still_open at ends)) os h.1)

  ops_spelled : (os : List Op) → AllByRecursion (IsOp classes globals vars) os → AreLines (op_lines classes globals vars os)
  ops_spelled os h = ops_from_spelled 0 [] os h

  later_spelled : (phases : List (List Op)) → AllByRecursion (λ (ops : List Op). AllByRecursion (IsOp classes globals vars) ops) phases → AreLines (flat_map (later_phase classes globals vars) phases)
  later_spelled [] h = tt
  later_spelled (ops ∷ phases) h = lines_append (later_phase classes globals vars ops) (flat_map (later_phase classes globals vars) phases) ((word_from_test (codes "phase") refl, tt), ops_spelled ops h.0) (later_spelled phases h.1)

  phases_spelled : (phases : List (List Op)) → AllByRecursion (λ (ops : List Op). AllByRecursion (IsOp classes globals vars) ops) phases → AreLines (phase_lines classes globals vars phases)
  phases_spelled [] h = tt
  phases_spelled (ops ∷ phases) h = lines_append (op_lines classes globals vars ops) (flat_map (later_phase classes globals vars) phases) (ops_spelled ops h.0) (later_spelled phases h.1)

-- ---- threads and the schedule

threads_spelled : (classes : List ClassDecl) → AreClasses classes → (globals : List VarDecl) → AreVars 64 (length classes) globals → (n : ℕ) (ts : List ThreadDecl) → n + length ts ≤ 1000 → AllByRecursion (IsThread classes globals) ts
    → AreLines (threads_lines classes globals n ts)
threads_spelled classes are globals cells n [] few h = tt
threads_spelled classes are globals cells n (t ∷ ts) few h =
    let is = h.0 in
    lines_append (thread_lines classes globals n t) (threads_lines classes globals (n + 1) ts) (
      numbers_spelled (codes "thread") (n ∷ []) (word_from_test (codes "thread") refl) (omega arith, tt),
      lines_append (map (decl_line (codes "var") classes) t.vars) (phase_lines classes globals t.vars t.phases)
          (decls_spelled (codes "var") (word_from_test (codes "var") refl) classes are t.vars is.vars.names.spelled is.vars.of_classes) (phases_spelled classes are globals cells t.vars is.vars t.phases is.ops),
    )
    (threads_spelled classes are globals cells (n + 1) ts (omega arith) h.1)

pub all_take : {X : Type 0} (P : X → Type 0) (n : ℕ) (xs : List X) → AllByRecursion P xs → AllByRecursion P (take n xs)
all_take P zero xs h = tt
all_take P (suc n) [] h = tt
all_take P (suc n) (x ∷ xs) h = (h.0, all_take P n xs h.1)

pub all_drop : {X : Type 0} (P : X → Type 0) (n : ℕ) (xs : List X) → AllByRecursion P xs → AllByRecursion P (drop n xs)
all_drop P zero xs h = h
all_drop P (suc n) [] h = tt
all_drop P (suc n) (x ∷ xs) h = all_drop P n xs h.1

schedule_spelled : (fuel : ℕ) (places : List ℕ) → AllByRecursion (λ p. p < 2 ^ 64) places → AreLines (schedule_upto fuel places)
schedule_spelled zero places h = tt
schedule_spelled (suc fuel) [] h = tt
schedule_spelled (suc fuel) (p ∷ places) h =
    (numbers_spelled (codes "schedule") (take 32 (p ∷ places)) (word_from_test (codes "schedule") refl) (all_take (λ q. q < 2 ^ 64) 32 (p ∷ places) h), schedule_spelled fuel (drop 32 (p ∷ places)) (all_drop (λ q. q < 2 ^ 64) 32 (p ∷ places) h))

pub small_places : (threads : ℕ) (places : List ℕ) → threads ≤ 64 → AllByRecursion (λ p. (1 ≤ p) × (p ≤ threads)) places → AllByRecursion (λ p. p < 2 ^ 64) places
small_places threads [] few h = tt
small_places threads (p ∷ places) few h = let q = h.0 in let most = q.1 in (omega arith, small_places threads places few h.1)

pub script_spelled : (s : Script) → IsScript s → s.shape.caps.wide < 2 ^ 32 → AreLines (script_lines s)
script_spelled s h most =
    let head = h.heading in
    let version = h.version.1 in
    let slots = head.slots.1 in
    let entries = head.entries.1 in
    let strong = head.caps.strong_fits in
    let unowned = head.caps.unowned_fits.1 in
    let wide : s.shape.caps.wide < 2 ^ 64 = omega arith in
    let few = h.few_threads in
    let rest : AreLines (threads_lines s.classes s.globals 1 s.threads ++ (schedule_lines s.schedule ++ (codes "done" ∷ []) ∷ [])) =
    lines_append (threads_lines s.classes s.globals 1 s.threads) (schedule_lines s.schedule ++ (codes "done" ∷ []) ∷ []) (threads_spelled s.classes head.classes_named s.globals head.globals_named 1 s.threads (omega arith) h.threads)
    (lines_append (schedule_lines s.schedule) ((codes "done" ∷ []) ∷ []) (schedule_spelled (length s.schedule) s.schedule (small_places (length s.threads) s.schedule h.few_threads h.places)) ((word_from_test (codes "done") refl, tt), tt)) in
    let decls : AreLines (map (class_line s.classes) s.classes ++ map (decl_line (codes "global") s.classes) s.globals) =
    lines_append (map (class_line s.classes) s.classes) (map (decl_line (codes "global") s.classes) s.globals) (classes_spelled s.classes head.classes_named s.classes head.classes_named.names.spelled head.classes_named.fields)
    (decls_spelled (codes "global") (word_from_test (codes "global") refl) s.classes head.classes_named s.globals head.globals_named.names.spelled head.globals_named.of_classes) in (
      numbers_spelled (codes "arc") (s.version ∷ []) (word_from_test (codes "arc") refl) (omega arith, tt),
      lines_append (heading_lines s.shape s.classes s.globals) (threads_lines s.classes s.globals 1 s.threads ++ (schedule_lines s.schedule ++ (codes "done" ∷ []) ∷ [])) (
        numbers_spelled (codes "slots") (s.shape.slots ∷ []) (word_from_test (codes "slots") refl) (omega arith, tt),
        (
          numbers_spelled (codes "entries") (s.shape.entries ∷ []) (word_from_test (codes "entries") refl) (omega arith, tt),
          (numbers_spelled (codes "caps") (s.shape.caps.strong ∷ s.shape.caps.unowned ∷ s.shape.caps.wide ∷ []) (word_from_test (codes "caps") refl) (omega arith, (omega arith, (wide, tt))), decls),
        ),
      )
          rest,
    )
