-- The threads before their first phase, and where phases begin.
use Rattle.std.proofs.Common.{◌≡◌, ℕ, zero, suc, ◌+◌, ◌-◌, ◌<◌, ◌≤◌, Bool, true, false, eqb, List, [], ◌∷◌, length, map, drop, Some, None, refl, sym, ap, subst, ◌∙◌, arith, add-one}
use Rattle.std.proofs.lemmas.Bool.{eqb-true}
use Rattle.std.proofs.lemmas.Option.{same_Some}
use Rattle.std.proofs.lemmas.List.{length-map}
use Rattle.std.proofs.lemmas.List.Elements.{All-replicate, All-from_recursion, recursion_from_All}
use Rattle.std.specs.Prelude.{slice_get, replicate, take, All}
use Rattle.std.specs.List.{AllByRecursion}
use Rattle.arc_rule.specs.Places.{extent_of}
use Rattle.arc_cells.specs.Chains.{Frame}
use Rattle.arc_script.specs.declared.script.VarDecl.{VarDecl}
use Rattle.arc_script.specs.declared.script.Op.{Op}
use Rattle.arc_script.specs.declared.script.ThreadDecl.{ThreadDecl}
use Rattle.arc_script.specs.declared.script.Script.{Script}
use Rattle.arc_script.specs.OneList.{in_one_list}
use Rattle.arc_script.specs.Valid.{IsScript, IsThread, IsOp, Nested}
use Rattle.arc_ops.specs.declared.stepper.Move.TheVariants as moves
use Rattle.arc_served.proofs.Blocks.{nested_forth}
use Rattle.arc_served.specs.Programs.{GoesForth, declared_of, classes_in, phases_in, phases_of, count_of_vars, vars_of}
use Rattle.arc_ops.specs.declared.stepper.Held.{Held}
use Rattle.arc_served.specs.Served.{IsServed, IsServedThread, IsServedVar, IsServedOp}
use Rattle.arc_spelled.proofs.Declared.{declared as declared-as, op-kinds, op-cells, globals-served}
use Rattle.arc_ops.specs.declared.stepper.Doing.{Doing}
use Rattle.arc_ops.specs.declared.stepper.Doing.TheVariants.{Ready, Making, Gaining, Naming, Opening, Closing, Setting, Clearing, Dropping, Dying, Vacating, Ended}
use Rattle.arc_ops.specs.Begins.{phase_end}
use Rattle.arc_ops.specs.Thread.{Thread, stepper_of, value, in_access as accesses}
use Rattle.arc_ops.specs.Turns.{turned_at, turned}
use Rattle.arc_ops.specs.Takes.{takes_at, takes}
use Rattle.arc_ops.specs.Steppers.{HeldFits}
use Rattle.arc_replays.proofs.Holds.{is_sized}
use Rattle.arc_replays.specs.Stages.{Stage, has_step, awaits_phase, IsNone, new_threads, begun_thread, begun_threads}
use Rattle.arc_schedule.specs.Made.{Made, own}
use Rattle.arc_schedule.specs.Operations.{State, Variables}
use Rattle.arc_schedule.specs.Threads.{PhasesDone}
use Rattle.arc_schedule.specs.Orders.{in_access}
use Rattle.arc_schedule.specs.Threads.GlobalsCleared.{none as globals_none}
use Rattle.arc_schedule.specs.Threads.OpsDone.{none as ops_none}
use Rattle.arc_schedule.specs.Threads.PhasesDone.{none as phases_none}
use Rattle.arc_schedule.proofs.Lists.{there-is, all-there}
use Rattle.arc_schedule.proofs.Tells.{idle}
use Rattle.arc_schedule.proofs.Idle.{IsIdle, idle-here}
use Rattle.arc_schedule.proofs.Outside.{begun-outside}
use Rattle.arc_schedule.proofs.Newer.{idle-outside}
use Rattle.arc_schedule.proofs.Stands.{Task, Job, kinds_here, classes_here, AreServed, refs, state_of, step_in, Stands, StandsFirst}
use Rattle.arc_schedule.proofs.Keeps.{begins-phase}
use Rattle.arc_schedule.proofs.Asks.{waits-for-phase, has-ended, ended-stays}
use Rattle.arc_schedule.proofs.Stages.{task_of, AllStand, AllInside}

-- ---- what is served

phase-nested : (phases : List (List Op)) (p : ℕ) (ops : List Op) → AllByRecursion (Nested 8 0) phases → slice_get phases p ≡ Some ops → Nested 8 0 ops
phase-nested [] p ops h e = absurd (cc)
phase-nested (x ∷ phases) zero ops h e = let same : x ≡ ops = cc in subst (Nested 8 0) same h.0
phase-nested (x ∷ phases) (suc p) ops h e = phase-nested phases p ops h.1 e

forth : (ops : List Op) → Nested 8 0 ops → (i : ℕ) (o : Op) → slice_get ops i ≡ Some o → GoesForth i (length ops) o
forth ops nested i o here =
    let place : 0 + i ≡ i = omega arith in
    let end : 0 + length ops ≡ length ops = omega arith in
    subst (λ (e : ℕ). GoesForth i e o) end (subst (λ (n : ℕ). GoesForth n (0 + length ops) o) place (nested_forth nested i o here))

pub globals-are-many : (script : Script) → IsScript script → length script.shape.globals ≡ length script.globals
globals-are-many script valid = ap length valid.heading.of_globals ∙ length-map script.globals (λ (v : VarDecl). record { kind = v.kind; class = v.class })

pub job-served : (script : Script) (some : 0 < script.shape.slots) → IsScript script → IsServed script → (i : ℕ) (decl : ThreadDecl) → slice_get script.threads i ≡ Some decl → (p : ℕ) (ops : List Op) → slice_get decl.phases p ≡ Some ops →
    AreServed script.shape (classes_here (task_of script some i decl)) (kinds_here (task_of script some i decl)) ops
job-served script some valid served i decl there p ops here = record {
  served = all-there (All IsServedOp) decl.phases p ops thread.ops here;
  kinds_fit = λ x o at. op-kinds script.shape script.classes script.globals decl.vars (declared-as script valid) (recursion_from_All IsServedVar decl.vars thread.vars) o (is-op x o at);
  cells_fit = λ x o at. op-cells script.shape script.classes script.globals decl.vars (declared-as script valid) o (is-op x o at);
  globals = globals-served script valid served;
  classes_served = served.classes;
  few_fields = (is_sized script valid).shape_fits.fields_fit;
  forth = forth ops (phase-nested decl.phases p ops declared_so.nested here);
}
  where
    among : {X : Type 0} (P : X → Type 0) (xs : List X) (i : ℕ) (x : X) → AllByRecursion P xs → slice_get xs i ≡ Some x → P x
    among P xs i x all at = all-there P xs i x (All-from_recursion P xs all) at

    thread : IsServedThread decl
    thread = all-there IsServedThread script.threads i decl served.threads there

    declared_so : IsThread script.classes script.globals decl
    declared_so = among (IsThread script.classes script.globals) script.threads i decl valid.threads there

    is-op : (x : ℕ) (o : Op) → slice_get ops x ≡ Some o → IsOp script.classes script.globals decl.vars o
    is-op x o at = among (IsOp script.classes script.globals decl.vars) ops x o (among (AllByRecursion (IsOp script.classes script.globals decl.vars)) decl.phases p ops declared_so.ops here) at

-- ---- before the first phase

pub new-there : (script : Script) (count from i : ℕ) (t : Thread) → slice_get (new_threads script count from) i ≡ Some t → t ≡ stepper_of script (from + i)
new-there script zero from i t e = absurd (cc)
new-there script (suc n) from zero t e = let same : from + 0 ≡ from = omega arith in rw same (sym (same_Some (stepper_of script from) t e))
new-there script (suc n) from (suc i) t e = let same : from + 1 + i ≡ from + suc i = omega arith in subst (λ (m : ℕ). t ≡ stepper_of script m) same (new-there script n (from + 1) i t e)

pub new-many : (script : Script) (count from : ℕ) → length (new_threads script count from) ≡ count
new-many script zero from = refl
new-many script (suc n) from = ap suc (new-many script n (from + 1))

refs-nil : (n : ℕ) → refs (replicate n None) ≡ replicate n None
refs-nil zero = refl
refs-nil (suc n) = ap (λ (vs : Variables). None ∷ vs) (refs-nil n)

none-there : (n v : ℕ) (h : Held) → value (replicate n None) v ≡ Some h → ⊥
none-there zero v h e = absurd (cc)
none-there (suc n) zero h e = absurd (cc)
none-there (suc n) (suc v) h e = none-there n v h e

declared : (script : Script) (i : ℕ) (decl : ThreadDecl) → slice_get script.threads i ≡ Some decl → declared_of script (i + 1) ≡ Some decl
declared script i decl there =
    let a : eqb (i + 1) 0 ≡ false = other (eqb (i + 1) 0) refl in
    let b : i + 1 - 1 ≡ i = omega arith in
    rw (a, b) there
  where
    other : (b : Bool) → eqb (i + 1) 0 ≡ b → eqb (i + 1) 0 ≡ false
    other true e = let f : i + 1 ≡ 0 = eqb-true (i + 1) 0 e in absurd (omega arith)
    other false e = e

first-ops : (phases : List (List Op)) → 1 ≤ length phases → (ops : List Op) × (slice_get phases 0 ≡ Some ops)
first-ops [] e = absurd (omega arith)
first-ops (ops ∷ phases) e = (ops, refl)

pub new-stands : (script : Script) (some : 0 < script.shape.slots) (i : ℕ) (decl : ThreadDecl) → slice_get script.threads i ≡ Some decl → 1 ≤ length decl.phases → Stands (task_of script some i decl) 0 [] (stepper_of script (i + 1)) []
new-stands script some i decl there phases = record {
  job = job;
  at = 0;
  phases = 1;
  phased = refl;
  works = record {
    layout_is = refl;
    shape_is = refl;
    thread_is = refl;
    phases_is = phases_are;
    program_is = ap (λ (ps : List (List Op)). in_one_list 0 ps) phases_are;
    classes_are = ap classes_in is;
    phase_is = refl;
    index_is = refl;
    begun_is = refl;
  };
  placed = tt;
  vars_in = record { held = All-replicate (HeldFits script.shape.slots) (vars_of script (i + 1)) None tt; kinds = λ v h e. absurd (none-there (vars_of script (i + 1)) v h e) };
  up_to = (refl, ops_none);
}
  where
    is : declared_of script (i + 1) ≡ Some decl
    is = declared script i decl there

    phases_are : phases_of script (i + 1) ≡ decl.phases
    phases_are = ap phases_in is

    first : State
    first = state_of (replicate (vars_of script (i + 1)) None) 0 0

    first_is : first ≡ record { vars = replicate (length decl.vars) None; made = 0; hands = 0 }
    first_is = ap (λ (vs : Variables). record { vars = vs; made = 0; hands = 0 }) (refs-nil (vars_of script (i + 1)) ∙ ap (λ (n : ℕ). replicate n None) (ap count_of_vars is))

    job : Job (task_of script some i decl)
    job =
        let ops = first-ops decl.phases phases in
        let Q : State → Type 0 = λ (x : State). PhasesDone script.shape (i + 1) decl 0 x [] in
        record { phase = 0; ops = ops.0; there = ops.1; first = first; base = []; before = subst Q (sym first_is) phases_none }

phases-there : (script : Script) (ts : List ThreadDecl) (i : ℕ) (decl : ThreadDecl) → AllByRecursion (IsThread script.classes script.globals) ts → slice_get ts i ≡ Some decl → 1 ≤ length decl.phases
phases-there script [] i decl h e = absurd (cc)
phases-there script (t ∷ ts) zero decl h e = let same : t ≡ decl = cc in subst (λ (d : ThreadDecl). 1 ≤ length d.phases) same h.0.some_phase
phases-there script (t ∷ ts) (suc i) decl h e = phases-there script ts i decl h.1 e

pub thread-valid : (script : Script) (i : ℕ) (decl : ThreadDecl) → IsScript script → slice_get script.threads i ≡ Some decl → 1 ≤ length decl.phases
thread-valid script i decl valid there = phases-there script script.threads i decl valid.threads there

-- ---- phases begin

map-there : (ts : List Thread) (i : ℕ) (u : Thread) → slice_get (map begun_thread ts) i ≡ Some u → (t : Thread) × (slice_get ts i ≡ Some t) × (u ≡ begun_thread t)
map-there [] i u e = absurd (cc)
map-there (t ∷ ts) zero u e = (t, refl, sym (same_Some (begun_thread t) u e))
map-there (t ∷ ts) (suc i) u e = map-there ts i u e

begun-there : (ts : List Thread) (i : ℕ) (u : Thread) → slice_get (begun_threads ts) (suc i) ≡ Some u → (t : Thread) × (slice_get ts (suc i) ≡ Some t) × (u ≡ begun_thread t)
begun-there [] i u e = absurd (cc)
begun-there (t ∷ ts) i u e = map-there ts i u e

pub begun-first : (ts : List Thread) (t : Thread) → slice_get (begun_threads ts) 0 ≡ Some t → slice_get ts 0 ≡ Some t
begun-first [] t e = e
begun-first (u ∷ ts) t e = e

pub begun-many : (ts : List Thread) → length (begun_threads ts) ≡ length ts
begun-many [] = refl
begun-many (t ∷ ts) = ap suc (length-map ts begun_thread)

-- each thread that waits begins its next phase, and the others have ended
pub begun-stands : (script : Script) → IsScript script → IsServed script → (some : 0 < script.shape.slots) (s : Stage) (chains : ℕ → List Frame) (ms : List Made) → AllStand script some s.begun chains s.threads ms → IsNone has_step s.threads →
    ((p : ℕ) (t : Thread) → 1 ≤ p → slice_get s.threads p ≡ Some t → awaits_phase t ≡ true → takes t None) → AllStand script some (s.begun + 1) chains (begun_threads s.threads) ms
begun-stands script valid served some s chains ms stand quiet may i decl u there get = go (begun-there s.threads i u (rw add-one at get))
  where
    k : Task
    k = task_of script some i decl

    go : ((t : Thread) × (slice_get s.threads (suc i) ≡ Some t) × (u ≡ begun_thread t)) → Stands k (s.begun + 1) (chains (i + 1)) u (own (i + 1) ms)
    go x = which (awaits_phase x.0) refl
      where
        t : Thread
        t = x.0

        there_is : slice_get s.threads (i + 1) ≡ Some t
        there_is = rw add-one x.1

        st : Stands k s.begun (chains (i + 1)) t (own (i + 1) ms)
        st = stand i decl t there there_is

        which : (b : Bool) → awaits_phase t ≡ b → Stands k (s.begun + 1) (chains (i + 1)) u (own (i + 1) ms)
        which true e =
            let is : u ≡ turned t None = x.2 ∙ (rw e refl) in
            subst (λ (v : Thread). Stands k (s.begun + 1) (chains (i + 1)) v (own (i + 1) ms)) (sym is)
            (begins-phase k s.begun (chains (i + 1)) t (own (i + 1) ms) st (job-served script some valid served i decl there st.job.phase st.job.ops st.job.there) (may (i + 1) t (omega arith) there_is e) (waits-for-phase t e))
        which false e =
            let is : u ≡ t = x.2 ∙ (rw e refl) in
            subst (λ (v : Thread). Stands k (s.begun + 1) (chains (i + 1)) v (own (i + 1) ms)) (sym is)
            (ended-stays k s.begun (s.begun + 1) t (own (i + 1) ms) st (has-ended t (quiet (i + 1) t (omega arith) there_is) e))

-- ---- thread 0

pub first-stands : (script : Script) → StandsFirst script.shape [] (stepper_of script 0) []
first-stands script = record { works = record { layout_is = refl; shape_is = refl; thread_is = refl; phases_is = refl; program_is = refl; vars_is = refl }; up_to = (refl, refl, globals_none) }

-- a thread whose phase begins is outside
pub begun-away : (t : Thread) → takes t None → t.asked ≡ moves.PhaseEnd → (k : Task) (n : ℕ) {chain : List Frame} (now : List Made) → Stands k n chain t now → accesses (turned t None) ≡ false
begun-away t takes asked k n now st = go t.doing (idle-here k n t now st (ap step_in asked)) takes.0
  where
    go : (d : Doing) → IsIdle d → takes_at t.shape None d → accesses (turned_at None d (idle t)) ≡ false
    go Ready i takes = begun-outside t.index (drop t.index (take (phase_end t) t.program)) (idle t) refl
    go (Making to name plan) i takes = absurd i
    go (Gaining gain to from plan) i takes = absurd i
    go (Naming to held plan) i takes = absurd i
    go (Opening to cell plan) i takes = absurd i
    go (Closing to cell held plan) i takes = absurd i
    go (Setting from cell plan) i takes = absurd i
    go (Clearing plan) i takes = absurd i
    go (Vacating slot plan) i takes = absurd i
    go (Dropping held plan) i takes = absurd i
    go (Dying c) i takes = absurd i
    go Ended i takes = absurd takes

-- and so the steps say behind the beginning of a phase
pub begun-inside : (script : Script) (some : 0 < script.shape.slots) (s : Stage) (chains : ℕ → List Frame) (ms : List Made) → AllStand script some s.begun chains s.threads ms → AllInside script s.threads ms →
    ((p : ℕ) (t : Thread) → 1 ≤ p → slice_get s.threads p ≡ Some t → awaits_phase t ≡ true → takes t None) → AllInside script (begun_threads s.threads) ms
begun-inside script some s chains ms stand inside may i u within get = go (begun-there s.threads i u (rw add-one at get))
  where
    d : (decl : ThreadDecl) × (slice_get script.threads i ≡ Some decl)
    d = there-is script.threads i within

    go : ((t : Thread) × (slice_get s.threads (suc i) ≡ Some t) × (u ≡ begun_thread t)) → in_access (extent_of script.shape) (own (i + 1) ms) ≡ accesses u
    go x = which (awaits_phase x.0) refl
      where
        t : Thread
        t = x.0

        there_is : slice_get s.threads (i + 1) ≡ Some t
        there_is = rw add-one x.1

        st : Stands (task_of script some i d.0) s.begun (chains (i + 1)) t (own (i + 1) ms)
        st = stand i d.0 t d.1 there_is

        which : (b : Bool) → awaits_phase t ≡ b → in_access (extent_of script.shape) (own (i + 1) ms) ≡ accesses u
        which true e =
            let is : u ≡ turned t None = x.2 ∙ (rw e refl) in
            inside i t within there_is ∙ idle-outside (task_of script some i d.0) s.begun t (own (i + 1) ms) st (ap step_in (waits-for-phase t e)) ∙
            sym (ap (λ (v : Thread). accesses v) is ∙ begun-away t (may (i + 1) t (omega arith) there_is e) (waits-for-phase t e) (task_of script some i d.0) s.begun (own (i + 1) ms) st)
        which false e =
            let is : u ≡ t = x.2 ∙ (rw e refl) in
            inside i t within there_is ∙ sym (ap (λ (v : Thread). accesses v) is)

pub first-begun : (ts : List Thread) (t : Thread) → slice_get ts 0 ≡ Some t → slice_get (begun_threads ts) 0 ≡ Some t
first-begun [] t e = e
first-begun (u ∷ ts) t e = e
