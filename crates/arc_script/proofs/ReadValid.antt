-- What is read is a valid script.
use Rattle.std.proofs.Common.{◌≡◌, ℕ, zero, suc, ◌+◌, ◌<◌, ◌≤◌, Bool, true, false, cond, eqb, List, [], ◌∷◌, ◌++◌, length, None, refl, sym, ap, subst, ◌∙◌, append_assoc, append-nil, arith, lit≤, lit<, sum_by}
use Rattle.std.specs.Prelude.{codes, map, slice_index, slice_get}
use Rattle.std.specs.List.{AllByRecursion}
use Rattle.std.proofs.lemmas.List.{length_push, map-append, length-map, length-append}
use Rattle.std.proofs.lemmas.List.Sums.{sum_by_push}
use Rattle.arc_text.specs.Words.{is_name, words_of}
use Rattle.arc_model.specs.Shapes.{CapNumbers}
use Rattle.arc_model.specs.Ranges.{SlotsFit, EntriesFit, CapsFit}
use Rattle.arc_script.specs.declared.script.FieldDecl.{FieldDecl}
use Rattle.arc_script.specs.declared.script.ClassDecl.{ClassDecl}
use Rattle.arc_script.specs.declared.script.VarDecl.{VarDecl}
use Rattle.arc_script.specs.declared.script.Op.{Op}
use Rattle.arc_script.specs.declared.script.ThreadDecl.{ThreadDecl}
use Rattle.arc_script.specs.declared.keyword.Keyword.TheVariants as word
use Rattle.arc_script.specs.declared.keyword.Place.{Place}
use Rattle.arc_script.specs.declared.keyword.Place.TheVariants as behind
use Rattle.arc_script.specs.Keywords.{stands, is_open}
use Rattle.arc_script.specs.Valid.{place_of, class_names, var_names, immortals_of, is_weak_immortal, AreNames, AreFields, AreClasses, AreVars, IsOp, begins_block, Nested, OfSecond, OpOfVersion, ThreadOfVersion, IsThread, op_count, IsScript}
use Rattle.arc_script.specs.Said.{Grouped, HeadSaid, BodySaid}
use Rattle.arc_script.specs.HeadLines.{is_weak_field}
use Rattle.arc_script.specs.BodyLines.{closed, opened_by, ended_by}
use Rattle.arc_script.specs.Group.{run_group, line_group, group_names, group_immortals, group_of}
use Rattle.arc_script.specs.Grammar.{Front, no_body, nothing, settled, script_said}
use Rattle.arc_script.specs.Canonical.{class_word, numbers_line, decl_line}
use Rattle.arc_script.specs.Accepted.{field_word, class_words, IsDecl, Says, version, slots, entries, caps, class, global, thread, var, operation, end, phase, schedule, done, IsPassedOver, blank, comment}
use Rattle.arc_script.proofs.Names.{names_more, no_names}
use Rattle.arc_script.proofs.Blocks.{Pending, nothing_pending, room_left, pending_op, pending_open, pending_end, is_op_still, of_version_still}

-- ---- one more

all_more : {X : Type 0} (P : X → Type 0) (xs : List X) (y : X) → AllByRecursion P xs → P y → AllByRecursion P (xs ++ y ∷ [])
all_more P [] y h p = (p, tt)
all_more P (x ∷ xs) y h p = (h.0, all_more P xs y h.1 p)

all_append : {X : Type 0} (P : X → Type 0) (xs ys : List X) → AllByRecursion P xs → AllByRecursion P ys → AllByRecursion P (xs ++ ys)
all_append P [] ys h k = k
all_append P (x ∷ xs) ys h k = (h.0, all_append P xs ys h.1 k)

class_names_push : (cs : List ClassDecl) (c : ClassDecl) → class_names (cs ++ c ∷ []) ≡ class_names cs ++ c.name ∷ []
class_names_push cs c = map-append (λ (d : ClassDecl). d.name) cs (c ∷ [])

vars_more : (limit : ℕ) (classes : List ClassDecl) (vs : List VarDecl) (v : VarDecl) → AreVars limit (length classes) vs → IsDecl limit vs classes v → AreVars limit (length classes) (vs ++ v ∷ [])
vars_more limit classes vs v are is =
    let long : length (var_names vs) ≡ length vs = length-map vs (λ (w : VarDecl). w.name) in
    let room = is.room in
    record {
      names = subst (AreNames limit) (sym (map-append (λ (w : VarDecl). w.name) vs (v ∷ []))) (names_more limit (var_names vs) v.name are.names is.spelled is.fresh (omega arith));
      of_classes = all_more (λ (w : VarDecl). w.class < length classes) vs v are.of_classes is.of_class;
    }

no_vars : (limit classes : ℕ) → AreVars limit classes []
no_vars limit classes = record { names = no_names limit; of_classes = tt }

-- ---- references that are allowed

abbrev VarAllowed : List ClassDecl → VarDecl → Type 0
VarAllowed classes v = is_weak_immortal (immortals_of classes) v.kind v.class ≡ false

abbrev FieldsAllowed : List Bool → ClassDecl → Type 0
FieldsAllowed immortals c = AllByRecursion (λ (f : FieldDecl). is_weak_immortal immortals f.kind f.class ≡ false) c.fields

pub immortals_back : (cs : List ClassDecl) → group_immortals (group_of cs) ≡ immortals_of cs
immortals_back [] = refl
immortals_back (c ∷ cs) = ap (λ (is : List Bool). c.immortal ∷ is) (immortals_back cs)

group_push : (cs : List ClassDecl) (c : ClassDecl) → group_of (cs ++ c ∷ []) ≡ group_of cs ++ record { name = c.name; immortal = c.immortal } ∷ []
group_push cs c = map-append (λ (d : ClassDecl). let g : Grouped = record { name = d.name; immortal = d.immortal } in g) cs (c ∷ [])

-- ---- what was said, by the line that came last

abbrev VersionIs : ℕ → Type 0
VersionIs v = (1 ≤ v) × (v ≤ 2)

pub record Begun (h : HeadSaid) (b : BodySaid) : Type 0 where
  pub version_is : VersionIs h.version
  pub caps_fit : CapsFit h.caps.strong h.caps.unowned h.caps.wide
  pub no_classes : h.classes ≡ []
  pub no_globals : h.globals ≡ []
  pub body_is : b ≡ no_body

-- in a run of class lines, of which the rest stands ahead
pub record InRun (h : HeadSaid) (b : BodySaid) (lines : List (List ℕ)) : Type 0 where
  pub version_is : VersionIs h.version
  pub of_version : AllByRecursion (λ (c : ClassDecl). OfSecond h.version c.immortal) h.classes
  pub allowed : AllByRecursion (FieldsAllowed (group_immortals h.group)) h.classes
  pub slots_fit : SlotsFit h.slots
  pub entries_fit : EntriesFit h.entries
  pub caps_fit : CapsFit h.caps.strong h.caps.unowned h.caps.wide
  pub named : AreNames 64 (class_names h.classes)
  pub fields : AllByRecursion (λ (c : ClassDecl). AreFields (length h.group) c.fields) h.classes
  pub ahead : group_of h.classes ++ run_group h.version lines ≡ h.group
  pub no_globals : h.globals ≡ []
  pub body_is : b ≡ no_body

pub record HeadIs (h : HeadSaid) : Type 0 where
  pub version_is : VersionIs h.version
  pub of_version : AllByRecursion (λ (c : ClassDecl). OfSecond h.version c.immortal) h.classes
  pub fields_allowed : AllByRecursion (FieldsAllowed (immortals_of h.classes)) h.classes
  pub globals_allowed : AllByRecursion (VarAllowed h.classes) h.globals
  pub slots_fit : SlotsFit h.slots
  pub entries_fit : EntriesFit h.entries
  pub caps_fit : CapsFit h.caps.strong h.caps.unowned h.caps.wide
  pub classes_are : AreClasses h.classes
  pub globals_are : AreVars 64 (length h.classes) h.globals

pub record OpenIs (h : HeadSaid) (b : BodySaid) : Type 0 where
  pub vars_allowed : AllByRecursion (VarAllowed h.classes) b.vars
  pub threads_of_version : AllByRecursion (ThreadOfVersion h.version) b.threads
  pub phases_of_version : AllByRecursion (λ (ops : List Op). AllByRecursion (OpOfVersion h.version) ops) b.phases
  pub ops_of_version : AllByRecursion (OpOfVersion h.version) b.ops
  pub phases_nested : AllByRecursion (Nested 8 0) b.phases
  pub ops_nested : (room : ℕ) × Pending b.opened room b.ops
  pub threads_are : AllByRecursion (IsThread h.classes h.globals) b.threads
  pub few_threads : length b.threads < 64
  pub vars_are : AreVars 256 (length h.classes) b.vars
  pub few_phases : length b.phases ≤ 63
  pub phases_are : AllByRecursion (λ (ops : List Op). AllByRecursion (IsOp h.classes h.globals b.vars) ops) b.phases
  pub ops_are : AllByRecursion (IsOp h.classes h.globals b.vars) b.ops
  pub counted : op_count b.threads + (sum_by (λ (ops : List Op). length ops) b.phases + length b.ops) ≡ b.count
  pub few_ops : b.count ≤ 100000
  pub no_places : b.schedule ≡ []

pub record ClosedIs (h : HeadSaid) (b : BodySaid) : Type 0 where
  pub outside : b.opened ≡ []
  pub threads_of_version : AllByRecursion (ThreadOfVersion h.version) b.threads
  pub threads_are : AllByRecursion (IsThread h.classes h.globals) b.threads
  pub few_threads : length b.threads ≤ 64
  pub counted : op_count b.threads ≡ b.count
  pub few_ops : b.count ≤ 100000
  pub few_places : length b.schedule ≤ 1000000
  pub places_are : AllByRecursion (λ p. (1 ≤ p) × (p ≤ length b.threads)) b.schedule

record Fresh (b : BodySaid) : Type 0 where
  no_vars : b.vars ≡ []
  no_phases : b.phases ≡ []
  no_ops : b.ops ≡ []
  no_places : b.schedule ≡ []

abbrev Agrees : Place → HeadSaid → BodySaid → List (List ℕ) → Type 0
Agrees behind.Start h b lines = Begun h b
Agrees behind.Version h b lines = Begun h b
Agrees behind.Slots h b lines = SlotsFit h.slots × Begun h b
Agrees behind.Entries h b lines = SlotsFit h.slots × EntriesFit h.entries × Begun h b
Agrees behind.Caps h b lines = SlotsFit h.slots × EntriesFit h.entries × Begun h b
Agrees behind.Class h b lines = InRun h b lines
Agrees behind.Global h b lines = HeadIs h × (b ≡ no_body)
Agrees behind.Thread h b lines = HeadIs h × OpenIs h b × (b.phases ≡ []) × (b.ops ≡ [])
Agrees behind.Operation h b lines = HeadIs h × OpenIs h b
Agrees behind.Schedule h b lines = HeadIs h × ClosedIs h b
Agrees behind.Ended h b lines = HeadIs h × ClosedIs h b

-- ---- where a heading ends

head_begun : (h : HeadSaid) (b : BodySaid) → SlotsFit h.slots → EntriesFit h.entries → Begun h b → HeadIs h
head_begun h b s e g = record {
  version_is = g.version_is;
  of_version = subst (AllByRecursion (λ (c : ClassDecl). OfSecond h.version c.immortal)) (sym g.no_classes) tt;
  fields_allowed = subst (AllByRecursion (FieldsAllowed (immortals_of h.classes))) (sym g.no_classes) tt;
  globals_allowed = subst (AllByRecursion (VarAllowed h.classes)) (sym g.no_globals) tt;
  slots_fit = s;
  entries_fit = e;
  caps_fit = g.caps_fit;
  classes_are = subst AreClasses (sym g.no_classes) (record { names = no_names 64; fields = tt });
  globals_are = subst (AreVars 64 (length h.classes)) (sym g.no_globals) (no_vars 64 (length h.classes));
}

head_run : (h : HeadSaid) (b : BodySaid) (lines : List (List ℕ)) → run_group h.version lines ≡ [] → InRun h b lines → HeadIs h
head_run h b lines none r =
    let all : group_of h.classes ≡ h.group = sym (append-nil (group_of h.classes)) ∙ (ap (λ (rest : List Grouped). group_of h.classes ++ rest) (sym none) ∙ r.ahead) in
    let long : length h.group ≡ length h.classes = ap length (sym all) ∙ length-map h.classes (λ (c : ClassDecl). let g : Grouped = record { name = c.name; immortal = c.immortal } in g) in
    let immortals : group_immortals h.group ≡ immortals_of h.classes = ap group_immortals (sym all) ∙ immortals_back h.classes in
    record {
      version_is = r.version_is;
      of_version = r.of_version;
      fields_allowed = subst (λ (is : List Bool). AllByRecursion (FieldsAllowed is) h.classes) immortals r.allowed;
      globals_allowed = subst (AllByRecursion (VarAllowed h.classes)) (sym r.no_globals) tt;
      slots_fit = r.slots_fit;
      entries_fit = r.entries_fit;
      caps_fit = r.caps_fit;
      classes_are = record { names = r.named; fields = subst (λ (n : ℕ). AllByRecursion (λ (c : ClassDecl). AreFields n c.fields) h.classes) long r.fields };
      globals_are = subst (AreVars 64 (length h.classes)) (sym r.no_globals) (no_vars 64 (length h.classes));
    }

heading_is : (p : Place) (h : HeadSaid) (b : BodySaid) (lines : List (List ℕ)) → run_group h.version lines ≡ [] → stands h.version p word.Done ≡ true → Agrees p h b lines → HeadIs h
heading_is behind.Entries h b lines none st a = head_begun h b a.0 a.1 a.2
heading_is behind.Caps h b lines none st a = head_begun h b a.0 a.1 a.2
heading_is behind.Class h b lines none st a = head_run h b lines none a
heading_is behind.Global h b lines none st a = a.0
heading_is behind.Thread h b lines none st a = a.0
heading_is behind.Operation h b lines none st a = a.0
heading_is behind.Schedule h b lines none st a = a.0
heading_is p h b lines none st a = absurd cc

-- ---- where a thread ends

no_body_closed : (h : HeadSaid) (b : BodySaid) → b ≡ no_body → ClosedIs h b
no_body_closed h b e = subst (ClosedIs h) (sym e) (record { outside = refl; threads_of_version = tt; threads_are = tt; few_threads = lit≤ tt; counted = refl; few_ops = lit≤ tt; few_places = lit≤ tt; places_are = tt })

nested_all : (opened : List ℕ) (room : ℕ) (ops : List Op) → opened ≡ [] → Pending opened room ops → Nested 8 0 ops
nested_all [] room ops none p = subst (λ (r : ℕ). Nested r 0 ops) p.0 p.1
nested_all (at ∷ opened) room ops none p = absurd cc

closed_is : (h : HeadSaid) (b : BodySaid) → OpenIs h b → b.opened ≡ [] → ClosedIs h (closed b)
closed_is h b o none =
    let t : ThreadDecl = record { vars = b.vars; phases = b.phases ++ b.ops ∷ [] } in
    let phases : length (b.phases ++ b.ops ∷ []) ≡ length b.phases + 1 = length_push b.phases b.ops in
    let threads : length (b.threads ++ t ∷ []) ≡ length b.threads + 1 = length_push b.threads t in
    let few_phases = o.few_phases in
    let few_threads = o.few_threads in
    let ops : sum_by (λ (ops : List Op). length ops) (b.phases ++ b.ops ∷ []) ≡ sum_by (λ (ops : List Op). length ops) b.phases + length b.ops = sum_by_push (λ (ops : List Op). length ops) b.phases b.ops in
    let all : op_count (b.threads ++ t ∷ []) ≡ op_count b.threads + sum_by (λ (ops : List Op). length ops) (b.phases ++ b.ops ∷ []) = sum_by_push (λ (u : ThreadDecl). sum_by (λ (ops : List Op). length ops) u.phases) b.threads t in
    record {
      outside = none;
      threads_of_version = all_more (ThreadOfVersion h.version) b.threads t o.threads_of_version (all_more (λ (ops : List Op). AllByRecursion (OpOfVersion h.version) ops) b.phases b.ops o.phases_of_version o.ops_of_version);
      threads_are = all_more (IsThread h.classes h.globals) b.threads t o.threads_are (record {
        vars = o.vars_are;
        vars_allowed = o.vars_allowed;
        some_phase = omega arith;
        few_phases = omega arith;
        ops = all_more (λ (ops : List Op). AllByRecursion (IsOp h.classes h.globals b.vars) ops) b.phases b.ops o.phases_are o.ops_are;
        nested = all_more (Nested 8 0) b.phases b.ops o.phases_nested (nested_all b.opened o.ops_nested.0 b.ops none o.ops_nested.1);
      });
      few_threads = omega arith;
      counted = all ∙ (ap (λ (n : ℕ). op_count b.threads + n) ops ∙ o.counted);
      few_ops = o.few_ops;
      few_places = subst (λ (places : List ℕ). length places ≤ 1000000) (sym o.no_places) (lit≤ tt);
      places_are = subst (AllByRecursion (λ p. (1 ≤ p) × (p ≤ length (b.threads ++ t ∷ [])))) (sym o.no_places) tt;
    }

settled_is : (p : Place) (h : HeadSaid) (b : BodySaid) (lines : List (List ℕ)) → stands h.version p word.Done ≡ true → Agrees p h b lines → (settled (record { place = p; head = h; body = b })).opened ≡ [] → ClosedIs h (settled (record { place = p; head = h; body = b }))
settled_is behind.Entries h b lines st a none = no_body_closed h b a.2.body_is
settled_is behind.Caps h b lines st a none = no_body_closed h b a.2.body_is
settled_is behind.Class h b lines st a none = no_body_closed h b a.body_is
settled_is behind.Global h b lines st a none = no_body_closed h b a.1
settled_is behind.Thread h b lines st a none = closed_is h b a.1 none
settled_is behind.Operation h b lines st a none = closed_is h b a.1 none
settled_is behind.Schedule h b lines st a none = a.1
settled_is p h b lines st a none = absurd cc

no_body_fresh : (b : BodySaid) → b ≡ no_body → Fresh b
no_body_fresh b e = subst Fresh (sym e) (record { no_vars = refl; no_phases = refl; no_ops = refl; no_places = refl })

fresh_is : (p : Place) (h : HeadSaid) (b : BodySaid) (lines : List (List ℕ)) → stands h.version p word.Thread ≡ true → Agrees p h b lines → Fresh (settled (record { place = p; head = h; body = b }))
fresh_is behind.Entries h b lines st a = no_body_fresh b a.2.body_is
fresh_is behind.Caps h b lines st a = no_body_fresh b a.2.body_is
fresh_is behind.Class h b lines st a = no_body_fresh b a.body_is
fresh_is behind.Global h b lines st a = no_body_fresh b a.1
fresh_is behind.Thread h b lines st a = record { no_vars = refl; no_phases = refl; no_ops = refl; no_places = a.1.no_places }
fresh_is behind.Operation h b lines st a = record { no_vars = refl; no_phases = refl; no_ops = refl; no_places = a.1.no_places }
fresh_is p h b lines st a = absurd cc

takes_more : (v : ℕ) (p : Place) → stands v p word.Thread ≡ true → stands v p word.Done ≡ true
takes_more v behind.Entries st = refl
takes_more v behind.Caps st = refl
takes_more v behind.Class st = refl
takes_more v behind.Global st = refl
takes_more v behind.Thread st = refl
takes_more v behind.Operation st = refl
takes_more v p st = absurd cc

globals_then : (v : ℕ) (p : Place) → stands v p word.Global ≡ true → stands v p word.Done ≡ true
globals_then v behind.Entries st = refl
globals_then v behind.Caps st = refl
globals_then v behind.Class st = refl
globals_then v behind.Global st = refl
globals_then v p st = absurd cc

global_body : (p : Place) (h : HeadSaid) (b : BodySaid) (lines : List (List ℕ)) → stands h.version p word.Global ≡ true → Agrees p h b lines → b ≡ no_body
global_body behind.Entries h b lines st a = a.2.body_is
global_body behind.Caps h b lines st a = a.2.body_is
global_body behind.Class h b lines st a = a.body_is
global_body behind.Global h b lines st a = a.1
global_body p h b lines st a = absurd cc

opened : (h : HeadSaid) (b : BodySaid) → ClosedIs h b → Fresh b → length b.threads < 64 → OpenIs h b
opened h b c f room =
    let none : sum_by (λ (ops : List Op). length ops) b.phases ≡ 0 = ap (sum_by (λ (ops : List Op). length ops)) f.no_phases in
    let empty : length b.ops ≡ 0 = ap (λ (ops : List Op). length ops) f.no_ops in
    let counted = c.counted in
    record {
      vars_allowed = subst (AllByRecursion (VarAllowed h.classes)) (sym f.no_vars) tt;
      threads_of_version = c.threads_of_version;
      phases_of_version = subst (AllByRecursion (λ (ops : List Op). AllByRecursion (OpOfVersion h.version) ops)) (sym f.no_phases) tt;
      ops_of_version = subst (AllByRecursion (OpOfVersion h.version)) (sym f.no_ops) tt;
      phases_nested = subst (AllByRecursion (Nested 8 0)) (sym f.no_phases) tt;
      ops_nested = (8, subst (λ (ops : List Op). Pending b.opened 8 ops) (sym f.no_ops) (subst (λ (at : List ℕ). Pending at 8 []) (sym c.outside) nothing_pending));
      threads_are = c.threads_are;
      few_threads = room;
      vars_are = subst (AreVars 256 (length h.classes)) (sym f.no_vars) (no_vars 256 (length h.classes));
      few_phases = subst (λ (ps : List (List Op)). length ps ≤ 63) (sym f.no_phases) (lit≤ tt);
      phases_are = subst (AllByRecursion (λ (ops : List Op). AllByRecursion (IsOp h.classes h.globals b.vars) ops)) (sym f.no_phases) tt;
      ops_are = subst (AllByRecursion (IsOp h.classes h.globals b.vars)) (sym f.no_ops) tt;
      counted = omega arith;
      few_ops = c.few_ops;
      no_places = f.no_places;
    }

open_of : (p : Place) (h : HeadSaid) (b : BodySaid) (lines : List (List ℕ)) → is_open p ≡ true → Agrees p h b lines → HeadIs h × OpenIs h b
open_of behind.Thread h b lines st a = (a.0, a.1)
open_of behind.Operation h b lines st a = a
open_of p h b lines st a = absurd cc

opened_or : (room : ℕ) (o : Op) (opened : List ℕ) (ops : List Op) → begins_block o ≡ true → 0 < room → Pending opened room ops → (left : ℕ) × Pending (length ops ∷ opened) left (ops ++ o ∷ [])
opened_or zero o opened ops is some p = absurd (omega arith)
opened_or (suc room) o opened ops is some p = (room, pending_open opened room ops o is p)

block_or : (b : Bool) (o : Op) (opened : List ℕ) (room : ℕ) (ops : List Op) → begins_block o ≡ b → (b ≡ true → length opened < 8) → Pending opened room ops
    → (left : ℕ) × Pending (cond b (length ops ∷ opened) opened) left (ops ++ o ∷ [])
block_or true o opened room ops is few p = opened_or room o opened ops is (let r = room_left opened room ops p in let f = few refl in omega arith) p
block_or false o opened room ops is few p = (room, pending_op opened room ops o is p)

op_more : (h : HeadSaid) (b : BodySaid) (o : Op) → OpenIs h b → IsOp h.classes h.globals b.vars o → OpOfVersion h.version o → b.count < 100000 → (begins_block o ≡ true → length b.opened < 8)
    → OpenIs h (record b { ops = b.ops ++ o ∷ []; opened = opened_by b o; count = b.count + 1 })
op_more h b o is op of room few =
    let long : length (b.ops ++ o ∷ []) ≡ length b.ops + 1 = length_push b.ops o in
    let counted = is.counted in
    record {
      vars_allowed = is.vars_allowed;
      threads_of_version = is.threads_of_version;
      phases_of_version = is.phases_of_version;
      ops_of_version = all_more (OpOfVersion h.version) b.ops o is.ops_of_version of;
      phases_nested = is.phases_nested;
      ops_nested = block_or (begins_block o) o b.opened is.ops_nested.0 b.ops refl few is.ops_nested.1;
      threads_are = is.threads_are;
      few_threads = is.few_threads;
      vars_are = is.vars_are;
      few_phases = is.few_phases;
      phases_are = is.phases_are;
      ops_are = all_more (IsOp h.classes h.globals b.vars) b.ops o is.ops_are op;
      counted = omega arith;
      few_ops = omega arith;
      no_places = is.no_places;
    }

block_ends : (h : HeadSaid) (b : BodySaid) (at : ℕ) (opened : List ℕ) → OpenIs h b → b.opened ≡ at ∷ opened → OpenIs h (record b { ops = ended_by b.ops at (slice_get b.ops at); opened = opened })
block_ends h b at opened is e =
    let ended = pending_end at opened is.ops_nested.0 b.ops (subst (λ (o : List ℕ). Pending o is.ops_nested.0 b.ops) e is.ops_nested.1) in
    let counted = is.counted in
    let long = ended.long in
    record {
      vars_allowed = is.vars_allowed;
      threads_of_version = is.threads_of_version;
      phases_of_version = is.phases_of_version;
      ops_of_version = ended.each (OpOfVersion h.version) (of_version_still h.version) is.ops_of_version;
      phases_nested = is.phases_nested;
      ops_nested = (suc is.ops_nested.0, ended.nested);
      threads_are = is.threads_are;
      few_threads = is.few_threads;
      vars_are = is.vars_are;
      few_phases = is.few_phases;
      phases_are = is.phases_are;
      ops_are = ended.each (IsOp h.classes h.globals b.vars) (is_op_still h.classes h.globals b.vars) is.ops_are;
      counted = omega arith;
      few_ops = is.few_ops;
      no_places = is.no_places;
    }

phase_more : (h : HeadSaid) (b : BodySaid) → OpenIs h b → length b.phases < 63 → b.opened ≡ [] → OpenIs h (record b { phases = b.phases ++ b.ops ∷ []; ops = [] })
phase_more h b is room none =
    let long : length (b.phases ++ b.ops ∷ []) ≡ length b.phases + 1 = length_push b.phases b.ops in
    let ops : sum_by (λ (ops : List Op). length ops) (b.phases ++ b.ops ∷ []) ≡ sum_by (λ (ops : List Op). length ops) b.phases + length b.ops = sum_by_push (λ (ops : List Op). length ops) b.phases b.ops in
    let counted = is.counted in
    record {
      vars_allowed = is.vars_allowed;
      threads_of_version = is.threads_of_version;
      phases_of_version = all_more (λ (ops : List Op). AllByRecursion (OpOfVersion h.version) ops) b.phases b.ops is.phases_of_version is.ops_of_version;
      ops_of_version = tt;
      phases_nested = all_more (Nested 8 0) b.phases b.ops is.phases_nested (nested_all b.opened is.ops_nested.0 b.ops none is.ops_nested.1);
      ops_nested = (8, subst (λ (at : List ℕ). Pending at 8 []) (sym none) nothing_pending);
      threads_are = is.threads_are;
      few_threads = is.few_threads;
      vars_are = is.vars_are;
      few_phases = omega arith;
      phases_are = all_more (λ (ops : List Op). AllByRecursion (IsOp h.classes h.globals b.vars) ops) b.phases b.ops is.phases_are is.ops_are;
      ops_are = tt;
      counted = omega arith;
      few_ops = is.few_ops;
      no_places = is.no_places;
    }

var_more : (h : HeadSaid) (b : BodySaid) (v : VarDecl) → OpenIs h b → b.phases ≡ [] → b.ops ≡ [] → IsDecl 256 b.vars h.classes v → OpenIs h (record b { vars = b.vars ++ v ∷ [] })
var_more h b v is no_phases no_ops decl = record {
  vars_allowed = all_more (VarAllowed h.classes) b.vars v is.vars_allowed decl.allowed;
  threads_of_version = is.threads_of_version;
  phases_of_version = is.phases_of_version;
  ops_of_version = is.ops_of_version;
  phases_nested = is.phases_nested;
  ops_nested = is.ops_nested;
  threads_are = is.threads_are;
  few_threads = is.few_threads;
  vars_are = vars_more 256 h.classes b.vars v is.vars_are decl;
  few_phases = is.few_phases;
  phases_are = subst (AllByRecursion (λ (ops : List Op). AllByRecursion (IsOp h.classes h.globals (b.vars ++ v ∷ [])) ops)) (sym no_phases) tt;
  ops_are = subst (AllByRecursion (IsOp h.classes h.globals (b.vars ++ v ∷ []))) (sym no_ops) tt;
  counted = is.counted;
  few_ops = is.few_ops;
  no_places = is.no_places;
}

places_more : (h : HeadSaid) (b : BodySaid) (places : List ℕ) → ClosedIs h b → AllByRecursion (λ p. (1 ≤ p) × (p ≤ length b.threads)) places → length b.schedule + length places ≤ 1000000
    → ClosedIs h (record b { schedule = b.schedule ++ places })
places_more h b places c are room =
    let long : length (b.schedule ++ places) ≡ length b.schedule + length places = length-append b.schedule places in
    record {
      outside = c.outside;
      threads_of_version = c.threads_of_version;
      threads_are = c.threads_are;
      few_threads = c.few_threads;
      counted = c.counted;
      few_ops = c.few_ops;
      few_places = omega arith;
      places_are = all_append (λ p. (1 ≤ p) × (p ≤ length b.threads)) b.schedule places c.places_are are;
    }

global_more : (h : HeadSaid) (v : VarDecl) → HeadIs h → IsDecl 64 h.globals h.classes v → HeadIs (record h { globals = h.globals ++ v ∷ [] })
global_more h v is decl = record {
  version_is = is.version_is;
  of_version = is.of_version;
  fields_allowed = is.fields_allowed;
  globals_allowed = all_more (VarAllowed h.classes) h.globals v is.globals_allowed decl.allowed;
  slots_fit = is.slots_fit;
  entries_fit = is.entries_fit;
  caps_fit = is.caps_fit;
  classes_are = is.classes_are;
  globals_are = vars_more 64 h.classes h.globals v is.globals_are decl;
}

-- ---- a line more

abbrev pub AgreesAt : Front → List (List ℕ) → Type 0
AgreesAt f lines = Agrees f.place f.head f.body lines

begun_version : (h : HeadSaid) (b : BodySaid) (n : ℕ) → VersionIs n → Begun h b → Begun (record h { version = n }) b
begun_version h b n fit g = record { version_is = fit; caps_fit = g.caps_fit; no_classes = g.no_classes; no_globals = g.no_globals; body_is = g.body_is }

begun_slots : (h : HeadSaid) (b : BodySaid) (n : ℕ) → Begun h b → Begun (record h { slots = n }) b
begun_slots h b n g = record { version_is = g.version_is; caps_fit = g.caps_fit; no_classes = g.no_classes; no_globals = g.no_globals; body_is = g.body_is }

begun_entries : (h : HeadSaid) (b : BodySaid) (n : ℕ) → Begun h b → Begun (record h { entries = n }) b
begun_entries h b n g = record { version_is = g.version_is; caps_fit = g.caps_fit; no_classes = g.no_classes; no_globals = g.no_globals; body_is = g.body_is }

begun_caps : (h : HeadSaid) (b : BodySaid) (c : CapNumbers) → CapsFit c.strong c.unowned c.wide → Begun h b → Begun (record h { caps = c }) b
begun_caps h b c fit g = record { version_is = g.version_is; caps_fit = fit; no_classes = g.no_classes; no_globals = g.no_globals; body_is = g.body_is }

abbrev name_of_class : ClassDecl → Grouped
name_of_class c = record { name = c.name; immortal = c.immortal }

-- what a class line is behind the classes before it
record IsNext (h : HeadSaid) (g : List Grouped) (c : ClassDecl) : Type 0 where
  spelled : is_name c.name ≡ true
  fresh : place_of (class_names h.classes) c.name ≡ None
  fields : AreFields (length g) c.fields
  allowed : FieldsAllowed (group_immortals g) c
  room : length h.classes < 64
  of_version : OfSecond h.version c.immortal

class_more : (h : HeadSaid) (b : BodySaid) (c : ClassDecl) (g : List Grouped) (rest : List (List ℕ)) → VersionIs h.version → AllByRecursion (λ (d : ClassDecl). OfSecond h.version d.immortal) h.classes
    → AllByRecursion (FieldsAllowed (group_immortals g)) h.classes → SlotsFit h.slots → EntriesFit h.entries → CapsFit h.caps.strong h.caps.unowned h.caps.wide
    → AreNames 64 (class_names h.classes) → AllByRecursion (λ (d : ClassDecl). AreFields (length g) d.fields) h.classes → group_of h.classes ++ (name_of_class c ∷ run_group h.version rest) ≡ g
    → IsNext h g c → h.globals ≡ [] → b ≡ no_body
    → InRun (record { version = h.version; slots = h.slots; entries = h.entries; caps = h.caps; classes = h.classes ++ c ∷ []; globals = h.globals; group = g }) b rest
class_more h b c g rest v of allowed s e caps_fit named fields ahead is globals body =
    let long : length (class_names h.classes) ≡ length h.classes = length-map h.classes (λ (d : ClassDecl). d.name) in
    let room = is.room in
    record {
      version_is = v;
      of_version = all_more (λ (d : ClassDecl). OfSecond h.version d.immortal) h.classes c of is.of_version;
      allowed = all_more (FieldsAllowed (group_immortals g)) h.classes c allowed is.allowed;
      slots_fit = s;
      entries_fit = e;
      caps_fit = caps_fit;
      named = subst (AreNames 64) (sym (class_names_push h.classes c)) (names_more 64 (class_names h.classes) c.name named is.spelled is.fresh (omega arith));
      fields = all_more (λ (d : ClassDecl). AreFields (length g) d.fields) h.classes c fields is.fields;
      ahead = ap (λ (ns : List Grouped). ns ++ run_group h.version rest) (group_push h.classes c) ∙ (append_assoc (group_of h.classes) (name_of_class c ∷ []) (run_group h.version rest) ∙ ahead);
      no_globals = globals;
      body_is = body;
    }

first_class : (h : HeadSaid) (b : BodySaid) (c : ClassDecl) (rest : List (List ℕ)) → SlotsFit h.slots → EntriesFit h.entries → Begun h b → IsNext h (name_of_class c ∷ run_group h.version rest) c
    → InRun (record { version = h.version; slots = h.slots; entries = h.entries; caps = h.caps; classes = h.classes ++ c ∷ []; globals = h.globals; group = name_of_class c ∷ run_group h.version rest }) b rest
first_class h b c rest s e g is =
    let group = name_of_class c ∷ run_group h.version rest in
    class_more h b c group rest g.version_is
    (subst (AllByRecursion (λ (d : ClassDecl). OfSecond h.version d.immortal)) (sym g.no_classes) tt)
    (subst (AllByRecursion (FieldsAllowed (group_immortals group))) (sym g.no_classes) tt) s e g.caps_fit
    (subst (λ (cs : List ClassDecl). AreNames 64 (class_names cs)) (sym g.no_classes) (no_names 64))
    (subst (AllByRecursion (λ (d : ClassDecl). AreFields (length group) d.fields)) (sym g.no_classes) tt)
    (ap (λ (cs : List ClassDecl). group_of cs ++ group) g.no_classes) is g.no_globals g.body_is

pub run_is : (v : ℕ) (line : List ℕ) (rest words : List (List ℕ)) (ns : List Grouped) → words_of line ≡ words → line_group v words (run_group v rest) ≡ ns → run_group v (line ∷ rest) ≡ ns
run_is v line rest words ns e h = ap (λ (ws : List (List ℕ)). line_group v ws (run_group v rest)) e ∙ h

-- what a class line names
pub class_named : (v : ℕ) (immortal : Bool) (name : List ℕ) (words : List (List ℕ)) (later : List Grouped) → OfSecond v immortal
    → line_group v (class_word immortal ∷ name ∷ words) later ≡ record { name = name; immortal = immortal } ∷ later
class_named v true name words later of =
    subst (λ (n : ℕ). line_group n (class_word true ∷ name ∷ words) later ≡ record { name = name; immortal = true } ∷ later) (sym (of refl)) refl
class_named v false name words later of = refl

open_in : (p : Place) (h : HeadSaid) (b : BodySaid) (lines : List (List ℕ)) (at : ℕ) (opened : List ℕ) → b.opened ≡ at ∷ opened → Agrees p h b lines → HeadIs h × OpenIs h b
open_in behind.Thread h b lines at opened e a = (a.0, a.1)
open_in behind.Operation h b lines at opened e a = a
open_in behind.Schedule h b lines at opened e a = absurd (let none = a.1.outside in cc)
open_in behind.Ended h b lines at opened e a = absurd (let none = a.1.outside in cc)
open_in behind.Start h b lines at opened e a = absurd (let none = ap (λ (c : BodySaid). c.opened) a.body_is in cc)
open_in behind.Version h b lines at opened e a = absurd (let none = ap (λ (c : BodySaid). c.opened) a.body_is in cc)
open_in behind.Slots h b lines at opened e a = absurd (let none = ap (λ (c : BodySaid). c.opened) a.1.body_is in cc)
open_in behind.Entries h b lines at opened e a = absurd (let none = ap (λ (c : BodySaid). c.opened) a.2.body_is in cc)
open_in behind.Caps h b lines at opened e a = absurd (let none = ap (λ (c : BodySaid). c.opened) a.2.body_is in cc)
open_in behind.Class h b lines at opened e a = absurd (let none = ap (λ (c : BodySaid). c.opened) a.body_is in cc)
open_in behind.Global h b lines at opened e a = absurd (let none = ap (λ (c : BodySaid). c.opened) a.1 in cc)

keeps : (p : Place) (h : HeadSaid) (b : BodySaid) (line : List ℕ) (rest words : List (List ℕ)) (next : Front) → Agrees p h b (line ∷ rest) → words_of line ≡ words → Says (record { place = p; head = h; body = b }) words rest next → AgreesAt next rest
keeps behind.Start h b line rest words next a e (version k w st fit n) = subst (λ (f : Front). AgreesAt f rest) (sym n) (begun_version h b k fit a)
keeps behind.Version h b line rest words next a e (slots k w st fit n) = subst (λ (f : Front). AgreesAt f rest) (sym n) (fit, begun_slots h b k a)
keeps behind.Slots h b line rest words next a e (entries k w st fit n) = subst (λ (f : Front). AgreesAt f rest) (sym n) (a.0, fit, begun_entries h b k a.1)
keeps behind.Entries h b line rest words next a e (caps c w st fit few n) = subst (λ (f : Front). AgreesAt f rest) (sym n) (a.0, a.1, begun_caps h b c fit a.2)
keeps behind.Entries h b line rest words next a e (class c w st is n) = subst (λ (f : Front). AgreesAt f rest) (sym n) (first_class h b c rest a.0 a.1 a.2 (record { spelled = is.spelled; fresh = is.fresh; fields = is.fields; allowed = is.allowed; room = is.room; of_version = is.of_version }))
keeps behind.Caps h b line rest words next a e (class c w st is n) = subst (λ (f : Front). AgreesAt f rest) (sym n) (first_class h b c rest a.0 a.1 a.2 (record { spelled = is.spelled; fresh = is.fresh; fields = is.fields; allowed = is.allowed; room = is.room; of_version = is.of_version }))
keeps behind.Class h b line rest words next a e (class c w st is n) =
    let run : run_group h.version (line ∷ rest) ≡ name_of_class c ∷ run_group h.version rest =
    run_is h.version line rest (class_words (group_names h.group) c) (name_of_class c ∷ run_group h.version rest) (e ∙ w) (class_named h.version c.immortal c.name (map (field_word (group_names h.group)) c.fields) (run_group h.version rest) is.of_version) in
    subst (λ (f : Front). AgreesAt f rest) (sym n)
    (class_more h b c h.group rest a.version_is a.of_version a.allowed a.slots_fit a.entries_fit a.caps_fit a.named a.fields (ap (λ (ns : List Grouped). group_of h.classes ++ ns) (sym run) ∙ a.ahead)
    (record { spelled = is.spelled; fresh = is.fresh; fields = is.fields; allowed = is.allowed; room = is.room; of_version = is.of_version }) a.no_globals a.body_is)
keeps p h b line rest words next a e (global v w st is n) =
    let none : run_group h.version (line ∷ rest) ≡ [] = run_is h.version line rest (decl_line (codes "global") h.classes v) [] (e ∙ w) refl in
    subst (λ (f : Front). AgreesAt f rest) (sym n) (global_more h v (heading_is p h b (line ∷ rest) none (globals_then h.version p st) a) is, global_body p h b (line ∷ rest) st a)
keeps p h b line rest words next a e (thread w st room out n) =
    let front : Front = record { place = p; head = h; body = b } in
    let none : run_group h.version (line ∷ rest) ≡ [] = run_is h.version line rest (numbers_line (codes "thread") ((length (settled front).threads + 1) ∷ [])) [] (e ∙ w) refl in
    let done_too = takes_more h.version p st in
    let fresh = fresh_is p h b (line ∷ rest) st a in
    subst (λ (f : Front). AgreesAt f rest) (sym n)
    (heading_is p h b (line ∷ rest) none done_too a, opened h (settled front) (settled_is p h b (line ∷ rest) done_too a out) fresh room, fresh.no_phases, fresh.no_ops)
keeps behind.Thread h b line rest words next a e (var v w st is n) = subst (λ (f : Front). AgreesAt f rest) (sym n) (a.0, var_more h b v a.1 a.2 a.3 is, a.2, a.3)
keeps p h b line rest words next a e (operation o w st is of room few n) =
    let both = open_of p h b (line ∷ rest) st a in
    subst (λ (f : Front). AgreesAt f rest) (sym n) (both.0, op_more h b o both.1 is of room few)
keeps p h b line rest words next a e (end at ends w is n) =
    let both = open_in p h b (line ∷ rest) at ends is a in
    subst (λ (f : Front). AgreesAt f rest) (sym n) (both.0, block_ends h b at ends both.1 is)
keeps p h b line rest words next a e (phase w st room out n) =
    let both = open_of p h b (line ∷ rest) st a in
    subst (λ (f : Front). AgreesAt f rest) (sym n) (both.0, phase_more h b both.1 room out)
keeps p h b line rest words next a e (schedule places w st some are room out n) =
    let front : Front = record { place = p; head = h; body = b } in
    let none : run_group h.version (line ∷ rest) ≡ [] = run_is h.version line rest (numbers_line (codes "schedule") places) [] (e ∙ w) refl in
    subst (λ (f : Front). AgreesAt f rest) (sym n)
    (heading_is p h b (line ∷ rest) none st a, places_more h (settled front) places (settled_is p h b (line ∷ rest) st a out) are room)
keeps p h b line rest words next a e (done w st out n) =
    let none : run_group h.version (line ∷ rest) ≡ [] = run_is h.version line rest (codes "done" ∷ []) [] (e ∙ w) refl in
    subst (λ (f : Front). AgreesAt f rest) (sym n) (heading_is p h b (line ∷ rest) none st a, settled_is p h b (line ∷ rest) st a out)
keeps p h b line rest words next a e (version k w st fit n) = absurd cc
keeps p h b line rest words next a e (slots k w st fit n) = absurd cc
keeps p h b line rest words next a e (entries k w st fit n) = absurd cc
keeps p h b line rest words next a e (caps c w st fit few n) = absurd cc
keeps p h b line rest words next a e (class c w st is n) = absurd cc
keeps p h b line rest words next a e (var v w st is n) = absurd cc

pub says_keeps : (front next : Front) (line : List ℕ) (rest : List (List ℕ)) → AgreesAt front (line ∷ rest) → Says front (words_of line) rest next → AgreesAt next rest
says_keeps front next line rest a says = keeps front.place front.head front.body line rest (words_of line) next a refl says

pub same_run : (v : ℕ) (line : List ℕ) (rest : List (List ℕ)) → IsPassedOver line → run_group v (line ∷ rest) ≡ run_group v rest
same_run v line rest (blank e) = run_is v line rest [] (run_group v rest) e refl
same_run v line rest (comment first words e mark) =
    let is : eqb (slice_index first 0) 35 ≡ true = rw mark refl in
    run_is v line rest (first ∷ words) (run_group v rest) e (rw is refl)

passed_keeps : (p : Place) (h : HeadSaid) (b : BodySaid) (line : List ℕ) (rest : List (List ℕ)) → IsPassedOver line → Agrees p h b (line ∷ rest) → Agrees p h b rest
passed_keeps behind.Class h b line rest over a = record {
  version_is = a.version_is;
  of_version = a.of_version;
  allowed = a.allowed;
  slots_fit = a.slots_fit;
  entries_fit = a.entries_fit;
  caps_fit = a.caps_fit;
  named = a.named;
  fields = a.fields;
  ahead = ap (λ (ns : List Grouped). group_of h.classes ++ ns) (sym (same_run h.version line rest over)) ∙ a.ahead;
  no_globals = a.no_globals;
  body_is = a.body_is;
}
passed_keeps p h b line rest over a = a

pub over_keeps : (front : Front) (line : List ℕ) (rest : List (List ℕ)) → IsPassedOver line → AgreesAt front (line ∷ rest) → AgreesAt front rest
over_keeps front line rest over a = passed_keeps front.place front.head front.body line rest over a

pub nothing_agrees : (lines : List (List ℕ)) → AgreesAt (nothing 1 behind.Start) lines
nothing_agrees lines = record { version_is = (lit≤ tt, lit≤ tt); caps_fit = record { strong_fits = lit≤ tt; unowned_fits = (lit≤ tt, lit≤ tt); wide_fits = (lit< tt, lit≤ tt) }; no_classes = refl; no_globals = refl; body_is = refl }

script_is : (h : HeadSaid) (b : BodySaid) → HeadIs h → ClosedIs h b → IsScript (script_said (record { place = behind.Ended; head = h; body = b }))
script_is h b head body =
    let counted = body.counted in
    let few = body.few_ops in
    record {
      version = head.version_is;
      classes_of_version = head.of_version;
      threads_of_version = body.threads_of_version;
      heading = record { fields_allowed = head.fields_allowed; globals_allowed = head.globals_allowed; slots = head.slots_fit; entries = head.entries_fit; caps = head.caps_fit; classes_named = head.classes_are; globals_named = head.globals_are; of_classes = refl; of_globals = refl };
      few_threads = body.few_threads;
      threads = body.threads_are;
      few_ops = omega arith;
      few_places = body.few_places;
      places = body.places_are;
    }

pub ended_is_script : (front : Front) (lines : List (List ℕ)) → front.place ≡ behind.Ended → AgreesAt front lines → IsScript (script_said front)
ended_is_script front lines done_is a =
    let at_end = subst (λ (p : Place). Agrees p front.head front.body lines) done_is a in
    script_is front.head front.body at_end.0 at_end.1

closed_few : (h : HeadSaid) (b : BodySaid) → OpenIs h b → length (closed b).threads ≤ 64
closed_few h b o =
    let threads = length_push b.threads (let t : ThreadDecl = record { vars = b.vars; phases = b.phases ++ b.ops ∷ [] } in t) in
    let few = o.few_threads in
    omega arith

-- there are never more than 64 threads
threads_few : (p : Place) (h : HeadSaid) (b : BodySaid) (lines : List (List ℕ)) → Agrees p h b lines → length (settled (record { place = p; head = h; body = b })).threads ≤ 64
threads_few behind.Start h b lines a = subst (λ (c : BodySaid). length c.threads ≤ 64) (sym a.body_is) (lit≤ tt)
threads_few behind.Version h b lines a = subst (λ (c : BodySaid). length c.threads ≤ 64) (sym a.body_is) (lit≤ tt)
threads_few behind.Slots h b lines a = subst (λ (c : BodySaid). length c.threads ≤ 64) (sym a.1.body_is) (lit≤ tt)
threads_few behind.Entries h b lines a = subst (λ (c : BodySaid). length c.threads ≤ 64) (sym a.2.body_is) (lit≤ tt)
threads_few behind.Caps h b lines a = subst (λ (c : BodySaid). length c.threads ≤ 64) (sym a.2.body_is) (lit≤ tt)
threads_few behind.Class h b lines a = subst (λ (c : BodySaid). length c.threads ≤ 64) (sym a.body_is) (lit≤ tt)
threads_few behind.Global h b lines a = subst (λ (c : BodySaid). length c.threads ≤ 64) (sym a.1) (lit≤ tt)
threads_few behind.Thread h b lines a = closed_few h b a.1
threads_few behind.Operation h b lines a = closed_few h b a.1
threads_few behind.Schedule h b lines a = a.1.few_threads
threads_few behind.Ended h b lines a = a.1.few_threads

pub few_threads_at : (front : Front) (lines : List (List ℕ)) → AgreesAt front lines → length (settled front).threads ≤ 64
few_threads_at front lines a = threads_few front.place front.head front.body lines a
