-- A thread of a stage has the phases and as many variables as the script gives it, and inside an access it has made a step of its operation. No more deinits
-- wait than it took references out of fields.
use Rattle.std.proofs.Common.{◌≡◌, ◌≢◌, ℕ, zero, suc, ◌+◌, ◌-◌, ◌*◌, ◌≤◌, ◌<◌, Bool, true, false, cond, eqb, ne_eqb, List, [], ◌∷◌, ◌++◌, length, map, set, Some, None, refl, ap, ◌∙◌, subst, sym, arith}
use Rattle.std.proofs.lemmas.List.{length-replicate}
use native.Mathlib.Decide.{ℕ_discrete}
use mathlib.Core.Logic.{dite}
use Rattle.std.specs.List.{AllByRecursion}
use Rattle.std.specs.Prelude.{slice_get}
use Rattle.std.proofs.lemmas.Option.{slice_get_within}
use Rattle.arc_model.specs.References.{field_count}
use Rattle.arc_model.specs.declared.event.ObjectName.{ObjectName}
use Rattle.arc_rule.specs.Extents.{Extent}
use Rattle.arc_rule.specs.Steps.{found_by}
use Rattle.arc_rule.specs.declared.step.Step.{Step}
use Rattle.arc_rule.specs.declared.step.Intent.{Intent}
use Rattle.arc_script.specs.declared.script.Script.{Script}
use Rattle.arc_script.specs.declared.script.ClassDecl.{ClassDecl}
use Rattle.arc_script.specs.declared.script.VarDecl.{VarDecl}
use Rattle.arc_script.specs.declared.script.ThreadDecl.{ThreadDecl}
use Rattle.arc_script.specs.Valid.{IsScript, IsThread}
use Rattle.arc_replays.proofs.Phases.{IsInPhase, reached_phased}
use Rattle.arc_served.specs.Served.{IsServed}
use Rattle.arc_script.specs.declared.script.Op.{Op}
use Rattle.arc_served.specs.Programs.{phases_in, phases_of, program_of, vars_of}
use Rattle.arc_ops.proofs.Made.{blocks_fit}
use Rattle.arc_ops.specs.declared.stepper.Move.{Move}
use Rattle.arc_ops.specs.declared.stepper.Move.TheVariants as moves
use Rattle.arc_ops.specs.Thread.{Thread, stepper_of, in_access}
use Rattle.arc_ops.specs.Turns.{turned}
use Rattle.arc_cells.specs.Chains.{Frame}
use Rattle.arc_spelled.specs.StepperStands.{chain_after}
use Rattle.arc_ops_passes.proofs.Fields.{few_fields}
use Rattle.arc_replays.specs.Stages.{Stage, Reached, MayStep, is_step, is_phase_end, awaits_phase, begun_thread, begun_threads, new_threads, with_chain, chains_at}
use Rattle.arc_replays.specs.Stages.Reached.{new, begins, makes, passes, inside, ends_it, outside, by_number, last, last_step}
use Rattle.arc_replays.proofs.Laws.{threads_are_at_work}
use Rattle.arc_replays.proofs.Holds.{is_sized}
use Rattle.arc_plain.proofs.Lists.{set_there, set_apart}
use Rattle.arc_plain.proofs.Walks.{IsForth, Comes}
use Rattle.arc_plain.proofs.Goes.{taken_for, behind_outside, none_waits, eqb_same}
use Rattle.arc_plain.proofs.Falls.{falls, begins_phase, blocks_forth}
use Rattle.arc_plain.specs.Left.{units}

pub record Keeps (script : Script) (chain : List Frame) (p : ℕ) (t : Thread) : Type 0 where
  pub phases : t.phases ≡ phases_of script p
  pub count : length t.vars ≡ vars_of script p
  pub inside : in_access t ≡ true → t.first ≡ false
  pub waits : taken_for chain t.doing ≤ t.taken

-- so does each thread
abbrev pub AllKeep : Script → (ℕ → List Frame) → List Thread → Type 0
AllKeep script chains threads = (p : ℕ) (t : Thread) → slice_get threads p ≡ Some t → Keeps script (chains p) p t

some_same : {X : Type 0} (a b : X) → Some a ≡ Some b → a ≡ b
some_same a b e = cc

-- ---- one thread

pub waits : (m : Move) → is_phase_end m ≡ true → m ≡ moves.PhaseEnd
waits (moves.Step s i) e = absurd (cc)
waits moves.PhaseEnd e = refl
waits moves.Ended e = absurd (cc)

pub ended : (m : Move) → is_step m ≡ false → is_phase_end m ≡ false → m ≡ moves.Ended
ended (moves.Step s i) e f = absurd (cc)
ended moves.PhaseEnd e f = absurd (cc)
ended moves.Ended e f = refl

-- an object has few fields
pub fields_few : (script : Script) → IsScript script → (name : ObjectName) → field_count script.shape name ≤ 8
fields_few script valid name = few_fields script.shape name.class (is_sized script valid)

steps_keep : (script : Script) (n : ℕ) (s : Stage) (p : ℕ) (t : Thread) (step : Step) (intent : Intent) → IsScript script → IsServed script → (r : Reached script n s) → MayStep s p t step intent → Keeps script (chains_at r p) p t →
    Keeps script (chain_after t (Some (found_by step s.words)) (chains_at r p)) p (turned t (Some (found_by step s.words)))
steps_keep script n s p t step intent valid served r may k =
    let work = threads_are_at_work script n s p t valid served r may.there in
    let goes = falls script.shape t s.words (chains_at r p) step intent (fields_few script valid) may.stepper may.takes_it.1 work.asks may.asked in
    record { phases = goes.phases ∙ k.phases; count = goes.count ∙ k.count; inside = goes.inside; waits = goes.waits k.waits }

-- a thread that waits begins its phase
pub turns : (script : Script) (n : ℕ) (s : Stage) (p : ℕ) (t : Thread) → IsScript script → IsServed script → Reached script n s → slice_get s.threads p ≡ Some t → awaits_phase t ≡ true → Comes t (turned t None) (4200 * units t)
turns script n s p t valid served r there waiting =
    let work = threads_are_at_work script n s p t valid served r there in
    let fits = valid.heading.slots.1 in
    let slots : t.layout.slots ≤ 4096 = subst (λ (l : Extent). l.slots ≤ 4096) (sym work.layout) fits in
    let forth : (i : ℕ) (o : Op) → slice_get (program_of script p) i ≡ Some o → IsForth i o = blocks_forth (program_of script p) (phases_of script p) refl (blocks_fit script p valid) in
    begins_phase script.shape (chains_at r p) t (slots, subst (λ (ops : List Op). (i : ℕ) (o : Op) → slice_get ops i ≡ Some o → IsForth i o) (sym work.program) forth) work.asks (waits t.asked waiting)

-- and no object dies then
begun_keeps : (script : Script) (chain : List Frame) (p : ℕ) (t u : Thread) (bound : ℕ) → Comes t u bound → Keeps script chain p t → Keeps script chain p u
begun_keeps script chain p t u bound comes k = record {
  phases = comes.phases ∙ k.phases;
  count = comes.count ∙ k.count;
  inside = λ e. absurd (behind_outside u u.doing comes.behind e);
  waits = let none = none_waits u chain u.doing comes.behind in omega arith;
}

begins_keep : (script : Script) (n : ℕ) (s : Stage) (p : ℕ) (t : Thread) → IsScript script → IsServed script → (r : Reached script n s) → slice_get s.threads p ≡ Some t → Keeps script (chains_at r p) p t → Keeps script (chains_at r p) p (begun_thread t)
begins_keep script n s p t valid served r there k = go (awaits_phase t) refl
  where
    go : (b : Bool) → awaits_phase t ≡ b → Keeps script (chains_at r p) p (cond b (turned t None) t)
    go true e = begun_keeps script (chains_at r p) p t (turned t None) (4200 * units t) (turns script n s p t valid served r there e) k
    go false e = k

-- ---- all threads

pub chain_here : (p : ℕ) (own : List Frame) (chains : ℕ → List Frame) → with_chain p own chains p ≡ own
chain_here p own chains = ap (λ (b : Bool). cond b own (chains p)) (eqb_same p)

chain_apart : (p : ℕ) (own : List Frame) (chains : ℕ → List Frame) (q : ℕ) → q ≢ p → with_chain p own chains q ≡ chains q
chain_apart p own chains q ne = ap (λ (b : Bool). cond b own (chains q)) (ne_eqb q p ne)

-- one thread has gone on, and with it the deinits that wait in it
set_keeps : (script : Script) (p : ℕ) (chains later : ℕ → List Frame) (threads : List Thread) (t u : Thread) → slice_get threads p ≡ Some t → AllKeep script chains threads → ((q : ℕ) → q ≢ p → later q ≡ chains q) → Keeps script (later p) p u →
    AllKeep script later (set threads p u)
set_keeps script p chains later threads t u there all others k q x at = dite (ℕ_discrete q p) (λ e. same e)
    (λ ne. subst (λ (c : List Frame). Keeps script c q x) (sym (others q ne)) (all q x (sym (set_apart threads p q u ne) ∙ at)))
  where
    same : q ≡ p → Keeps script (later q) q x
    same e =
        let here : slice_get (set threads p u) p ≡ Some x = subst (λ (n : ℕ). slice_get (set threads p u) n ≡ Some x) e at in
        let is : u ≡ x = some_same u x (sym (set_there threads p u (slice_get_within threads p t there)) ∙ here) in
        subst (λ (n : ℕ). Keeps script (later n) n x) (sym e) (subst (λ (y : Thread). Keeps script (later p) p y) is k)

-- it has made a step
step_keeps : (script : Script) (n : ℕ) (s : Stage) (p : ℕ) (t : Thread) (step : Step) (intent : Intent) → IsScript script → IsServed script → (r : Reached script n s) → MayStep s p t step intent → AllKeep script (chains_at r) s.threads →
    AllKeep script (with_chain p (chain_after t (Some (found_by step s.words)) (chains_at r p)) (chains_at r)) (set s.threads p (turned t (Some (found_by step s.words))))
step_keeps script n s p t step intent valid served r may all =
    let own : List Frame = chain_after t (Some (found_by step s.words)) (chains_at r p) in
    let k = steps_keep script n s p t step intent valid served r may (all p t may.there) in
    set_keeps script p (chains_at r) (with_chain p own (chains_at r)) s.threads t (turned t (Some (found_by step s.words))) may.there all (chain_apart p own (chains_at r))
    (subst (λ (c : List Frame). Keeps script c p (turned t (Some (found_by step s.words)))) (sym (chain_here p own (chains_at r))) k)

mapped_get : (f : Thread → Thread) (threads : List Thread) (p : ℕ) (u : Thread) → slice_get (map f threads) p ≡ Some u → (t : Thread) × (slice_get threads p ≡ Some t) × (u ≡ f t)
mapped_get f [] p u at = absurd (cc)
mapped_get f (t ∷ ts) zero u at = (t, refl, some_same u (f t) (sym at))
mapped_get f (t ∷ ts) (suc p) u at = mapped_get f ts p u at

begun_keep : (script : Script) (n : ℕ) (s : Stage) → IsScript script → IsServed script → (r : Reached script n s) → AllKeep script (chains_at r) s.threads → AllKeep script (chains_at r) (begun_threads s.threads)
begun_keep script n s valid served r all = go s.threads refl
  where
    go : (threads : List Thread) → s.threads ≡ threads → AllKeep script (chains_at r) (begun_threads threads)
    go [] e p u at = absurd (cc)
    go (first ∷ others) e zero u at = subst (λ (x : Thread). Keeps script (chains_at r 0) 0 x) (some_same first u at) (all 0 first (ap (λ (x : List Thread). slice_get x 0) e))
    go (first ∷ others) e (suc p) u at =
        let was = mapped_get begun_thread others p u at in
        let there : slice_get s.threads (suc p) ≡ Some was.0 = ap (λ (x : List Thread). slice_get x (suc p)) e ∙ was.1 in
        subst (λ (x : Thread). Keeps script (chains_at r (suc p)) (suc p) x) (sym was.2) (begins_keep script n s (suc p) was.0 valid served r there (all (suc p) was.0 there))

new_from : (script : Script) (n from p : ℕ) (t : Thread) → slice_get (new_threads script n from) p ≡ Some t → t ≡ stepper_of script (from + p)
new_from script zero from p t at = absurd (cc)
new_from script (suc n) from zero t at = some_same t _ (sym at) ∙ ap (λ (k : ℕ). stepper_of script k) (omega arith)
new_from script (suc n) from (suc p) t at = new_from script n (from + 1) p t at ∙ ap (λ (k : ℕ). stepper_of script k) (omega arith)

-- the first threads are new ones
pub new_is : (script : Script) (n p : ℕ) (t : Thread) → slice_get (new_threads script n 0) p ≡ Some t → t ≡ stepper_of script p
new_is script n p t at = new_from script n 0 p t at ∙ ap (λ (k : ℕ). stepper_of script k) (omega arith)

pub all_keep : (script : Script) → IsScript script → IsServed script → (n : ℕ) (s : Stage) (r : Reached script n s) → AllKeep script (chains_at r) s.threads
all_keep script valid served _ _ new =
    λ p t at. subst (λ (x : Thread). Keeps script [] p x) (sym (new_is script (length script.threads + 1) p t at)) (record { phases = refl; count = length-replicate (vars_of script p) None; inside = λ e. refl; waits = omega arith })
all_keep script valid served _ _ (begins {s = s} r none some may) = begun_keep script 0 s valid served r (all_keep script valid served 0 s r)
all_keep script valid served _ _ (makes {s = s} {p = p} {places = places} {t = t} step intent r next p1 may) = step_keeps script 0 s p t step intent valid served r may (all_keep script valid served 0 s r)
all_keep script valid served _ _ (passes {s = s} r next p1 there idle some) = all_keep script valid served 0 s r
all_keep script valid served _ _ (inside {s = s} r next p1 below there within) = all_keep script valid served 0 s r
all_keep script valid served _ _ (ends_it {s = s} {p = p} {t = t} step intent r p1 may within) = step_keeps script p s p t step intent valid served r may (all_keep script valid served p s r)
all_keep script valid served _ _ (outside {s = s} {p = p} r p1 there over) = all_keep script valid served p s r
all_keep script valid served _ _ (by_number {s = s} {p = p} {t = t} step intent r next p1 below alone may) = step_keeps script 0 s p t step intent valid served r may (all_keep script valid served 0 s r)
all_keep script valid served _ _ (last {s = s} {t = t} r none no_phase there waiting takes_it) =
    set_keeps script 0 (chains_at r) (chains_at r) s.threads t (turned t None) there (all_keep script valid served 0 s r) (λ q ne. refl)
    (begun_keeps script (chains_at r 0) 0 t (turned t None) (4200 * units t) (turns script 0 s 0 t valid served r there waiting) (all_keep script valid served 0 s r 0 t there))
all_keep script valid served _ _ (last_step {s = s} {t = t} step intent r may) = step_keeps script 0 s 0 t step intent valid served r may (all_keep script valid served 0 s r)

-- each place of the schedule that is left names a thread but thread 0
pub places_fit : (script : Script) → IsScript script → (n : ℕ) (s : Stage) → Reached script n s → AllByRecursion (λ (p : ℕ). (1 ≤ p) × (p ≤ length script.threads)) s.places
places_fit script valid _ _ new = valid.places
places_fit script valid _ _ (begins {s = s} r none some may) = places_fit script valid 0 s r
places_fit script valid _ _ (makes {s = s} {p = p} {places = places} {t = t} step intent r next p1 may) = (subst (AllByRecursion (λ (p : ℕ). (1 ≤ p) × (p ≤ length script.threads))) next (places_fit script valid 0 s r)).1
places_fit script valid _ _ (passes {s = s} {p = p} {places = places} r next p1 there idle some) = (subst (AllByRecursion (λ (p : ℕ). (1 ≤ p) × (p ≤ length script.threads))) next (places_fit script valid 0 s r)).1
places_fit script valid _ _ (inside {s = s} r next p1 below there within) = places_fit script valid 0 s r
places_fit script valid _ _ (ends_it {s = s} {p = p} step intent r p1 may within) = places_fit script valid p s r
places_fit script valid _ _ (outside {s = s} {p = p} r p1 there over) = places_fit script valid p s r
places_fit script valid _ _ (by_number {s = s} {p = p} {t = t} step intent r next p1 below alone may) = places_fit script valid 0 s r
places_fit script valid _ _ (last {s = s} {t = t} r none no_phase there waiting takes_it) = places_fit script valid 0 s r
places_fit script valid _ _ (last_step {s = s} {t = t} step intent r may) = places_fit script valid 0 s r

-- one thread more
pub new_more : (script : Script) (n from : ℕ) → new_threads script n from ++ stepper_of script (from + n) ∷ [] ≡ new_threads script (n + 1) from
new_more script zero from = ap (λ (k : ℕ). stepper_of script k ∷ []) (omega arith)
new_more script (suc n) from =
    let same : from + suc n ≡ from + 1 + n = omega arith in
    let next : suc n + 1 ≡ suc (n + 1) = omega arith in
    ap (λ (ts : List Thread). stepper_of script from ∷ ts) (ap (λ (k : ℕ). new_threads script n (from + 1) ++ stepper_of script k ∷ []) same ∙ new_more script n (from + 1)) ∙ ap (λ (k : ℕ). new_threads script k from) (sym next)

-- ---- the number of phases

declared_phases : (classes : List ClassDecl) (globals : List VarDecl) (ts : List ThreadDecl) (i : ℕ) → AllByRecursion (IsThread classes globals) ts → length (phases_in (slice_get ts i)) ≤ 64
declared_phases classes globals [] i all = omega arith
declared_phases classes globals (t ∷ ts) zero all = all.0.few_phases
declared_phases classes globals (t ∷ ts) (suc i) all = declared_phases classes globals ts i all.1

phases_few : (script : Script) (p : ℕ) → IsScript script → length (phases_of script p) ≤ 64
phases_few script p valid = go (eqb p 0)
  where
    go : (b : Bool) → length (phases_in (cond b None (slice_get script.threads (p - 1)))) ≤ 64
    go true = omega arith
    go false = declared_phases script.classes script.globals script.threads (p - 1) valid.threads

-- where a thread waits for its next phase, less than 64 have begun
pub phases_left : (script : Script) (n : ℕ) (s : Stage) (p : ℕ) (t : Thread) → IsScript script → IsServed script → Reached script n s → 1 ≤ p → slice_get s.threads p ≡ Some t → awaits_phase t ≡ true → s.begun < 64
phases_left script n s p t valid served r p1 there waiting =
    let phased = (reached_phased script (λ k. None) valid served n s r).each p t p1 there in
    let at = subst (λ (m : Move). IsInPhase (length (phases_of script p)) s.begun m t.phase) (waits t.asked waiting) phased in
    let here = at.0 in
    let below = at.1 in
    let few = phases_few script p valid in
    omega arith
