-- A thread makes steps alone, until its phase has ended, or its operation with an access.
use Rattle.std.proofs.Common.{◌≡◌, ◌≢◌, ℕ, zero, suc, ◌+◌, ◌-◌, ◌*◌, ◌/◌, ◌≤◌, ◌<◌, ◌^◌, Bool, true, false, not, ◌&&◌, cond, eqb, ltb, List, [], ◌∷◌, length, map, Option, Some, None, refl, ap, ◌∙◌, sym, subst, arith}
use Rattle.std.specs.List.{AllByRecursion}
use Rattle.std.specs.Prelude.{All, bit_and, slice_get, slice_index, sum_by}
use Rattle.std.proofs.lemmas.List.{length-map, length-set, get_or-set_same}
use Rattle.std.proofs.lemmas.List.Sums.{sum_by-cons}
use Rattle.std.proofs.lemmas.Bool.{lt-ltb}
use Rattle.arc_model.specs.Shapes.{HeapShape}
use Rattle.arc_model.specs.References.{field_count}
use Rattle.arc_model.specs.declared.event.ObjectName.{ObjectName}
use Rattle.arc_rule.specs.Bits.{words_of, bit_of}
use Rattle.arc_rule.specs.Extents.{Extent}
use Rattle.arc_rule.specs.Places.{number}
use Rattle.arc_rule.specs.declared.layout.Place.TheVariants.{SlotBits}
use Rattle.arc_rule.specs.Steps.{found_by, made_by}
use Rattle.arc_rule.specs.declared.step.Step.{Step}
use Rattle.arc_rule.specs.declared.step.Intent.{Intent}
use Rattle.arc_rule.specs.declared.attempt.At.{At as AttemptAt}
use Rattle.arc_rule.specs.declared.attempt.At.TheVariants as attempt
use Rattle.arc_plan.specs.declared.slots.Making.{Making as Search}
use Rattle.arc_plan.specs.declared.slots.Making.TheVariants as search
use Rattle.arc_cells.specs.Chains.{Frame}
use Rattle.arc_cells.specs.Cascades.{CascadeState}
use Rattle.arc_cells.specs.declared.ref_drop.At.{At as DropAt}
use Rattle.arc_cells.specs.declared.ref_drop.At.TheVariants as drops
use Rattle.arc_cells.specs.declared.cascade.At.{At}
use Rattle.arc_cells.specs.declared.cascade.At.TheVariants as at
use Rattle.arc_script.specs.declared.script.ThreadDecl.{ThreadDecl}
use Rattle.arc_script.specs.declared.script.VarDecl.{VarDecl}
use Rattle.arc_script.specs.declared.script.Script.{Script}
use Rattle.arc_script.specs.Valid.{IsScript, IsThread}
use Rattle.arc_served.specs.Programs.{vars_of, count_of_vars}
use Rattle.arc_ops.specs.declared.stepper.Held.{Held}
use Rattle.arc_ops.specs.declared.stepper.Doing.{Doing}
use Rattle.arc_ops.specs.declared.stepper.Doing.TheVariants as doings
use Rattle.arc_ops.specs.declared.stepper.Move.{Move}
use Rattle.arc_ops.specs.declared.stepper.Move.TheVariants as moves
use Rattle.arc_ops.specs.Thread.{Thread, stepper_of, is_busy, is_accessing, in_access, in_operation}
use Rattle.arc_ops.specs.Turns.{turned}
use Rattle.arc_spelled.specs.StepperStands.{chain_after}
use Rattle.arc_ops.specs.Steppers.{IsStepper, IsInOperation, IsUnderWay as IsAtWork}
use Rattle.arc_replays.specs.Stages.{Reached, is_step, is_phase_end, has_step, awaits_phase, chains_at}
use Rattle.arc_replays.specs.Stages.Reached.{inside, ends_it, outside, by_number, last_step}
use Rattle.arc_plain.specs.Crews.{Progress, IsAtStage, IsUnderWay, IsAlone, MayGoOn, MayEnd, ThreadFinished, AccessEnded, thread_at, has_made}
use Rattle.arc_plain.specs.Left.{held_unit, busy_units, count_at, search_left, attempt_left, count_left, finish_left, drop_left, deinit_left, cascade_left, doing_left, left, FindsFree}
use Rattle.arc_replays.proofs.Laws.{threads_are_at_work}
use Rattle.arc_plain.proofs.Lists.{set_apart}
use Rattle.arc_plain.proofs.Walks.{IsPhase, unit_few}
use Rattle.arc_plain.proofs.Goes.{IsBehindCells, IsPast, taken_for, GoesUnder}
use Rattle.arc_plain.proofs.Falls.{falls, stops}
use Rattle.arc_plain.proofs.Free.{finds_free}
use Rattle.arc_plain.proofs.Keeps.{all_keep, chain_here, fields_few}
use Rattle.arc_plain.proofs.Places.{there, may_make, may_step}

-- ---- how many steps a thread has left at most

held_few : (vars : List (Option Held)) → sum_by held_unit vars ≤ length vars
held_few [] = omega arith
held_few (o ∷ vars) = let e = sum_by-cons held_unit o vars in let h = held_few vars in let k = unit_few o in omega arith

attempt_few : (w : ℕ) (a : AttemptAt) → attempt_left w a ≤ 3
attempt_few w attempt.Start = omega arith
attempt_few w attempt.Loading = omega arith
attempt_few w (attempt.Exchanging seen new) = go (eqb w seen)
  where
    go : (b : Bool) → cond b 1 3 ≤ 3
    go true = omega arith
    go false = omega arith
attempt_few w attempt.Ended = omega arith

counted_few : (entry : Option ℕ) (w : ℕ) (a : AttemptAt) → count_left entry w a ≤ 4
counted_few (Some e) w a = omega arith
counted_few None w attempt.Start = omega arith
counted_few None w attempt.Loading = omega arith
counted_few None w (attempt.Exchanging seen new) = go (eqb w seen)
  where
    go : (b : Bool) → cond b 1 4 ≤ 4
    go true = omega arith
    go false = omega arith
counted_few None w attempt.Ended = omega arith

search_few : (words : List ℕ) (l : Extent) (a : Search) → search_left words l a ≤ words_of l.slots + 25
search_few words l search.Start = omega arith
search_few words l (search.Looking k) = omega arith
search_few words l (search.Taking s seen) = go (eqb (bit_and (slice_index words (number l (SlotBits (s / 64)))) (bit_of s)) 0)
  where
    go : (b : Bool) → cond b 22 (words_of l.slots + 25) ≤ words_of l.slots + 25
    go true = omega arith
    go false = omega arith
search_few words l (search.Counting s) = omega arith
search_few words l (search.Naming s) = omega arith
search_few words l search.Ended = omega arith

finish_few : (entry : Option ℕ) (w : ℕ) (a : AttemptAt) → finish_left entry w a ≤ 3
finish_few (Some e) w a = omega arith
finish_few None w a = attempt_few w a

drop_few : (words : List ℕ) (a : DropAt) → drop_left words a ≤ 28
drop_few words drops.Start = omega arith
drop_few words (drops.Counting p) = let h = counted_few p.entry (count_at words p.layout p.slot) p.at in omega arith
drop_few words (drops.InEntry p) = omega arith
drop_few words (drops.Ending p) = omega arith
drop_few words drops.Returning = omega arith
drop_few words drops.Ended = omega arith

deinit_few : (words : List ℕ) (shape : HeapShape) (a : At) → ((name : ObjectName) → field_count shape name ≤ 8) → deinit_left words shape a ≤ 41
deinit_few words shape at.Start few = omega arith
deinit_few words shape at.Entering few = omega arith
deinit_few words shape at.Naming few = omega arith
deinit_few words shape (at.Named name) few = omega arith
deinit_few words shape (at.Looking name field) few = let n = few name in omega arith
deinit_few words shape (at.Taking name field place) few = let n = few name in omega arith
deinit_few words shape (at.Dropping name field drop) few = let n = few name in let h = drop_few words drop.at in omega arith
deinit_few words shape at.Leaving few = omega arith
deinit_few words shape (at.Finishing parent p) few = let h = finish_few p.entry (count_at words p.layout p.slot) p.at in omega arith
deinit_few words shape (at.Ending parent end) few = omega arith
deinit_few words shape (at.Resuming field) few = omega arith
deinit_few words shape at.Ended few = omega arith

-- no more deinits wait than the thread took references out of fields
dying_few : (words : List ℕ) (chain : List Frame) (t : Thread) (c : CascadeState) → ((name : ObjectName) → field_count c.shape name ≤ 8) → taken_for chain (doings.Dying c) ≤ t.taken → t.taken ≤ 2 ^ 31 → cascade_left words c.shape chain c.at ≤ 2 ^ 36
dying_few words chain t c few waits taken = let own = deinit_few words c.shape c.at few in omega (arith, own, waits, taken)

-- the size of a thread of a script
record IsSmall (t : Thread) : Type 0 where
  slots : t.layout.slots ≤ 4096
  globals : t.layout.globals ≤ 64
  program : length t.program ≤ 100000
  vars : length t.vars ≤ 256
  taken : t.taken ≤ 2 ^ 31
  fields : (name : ObjectName) → field_count t.shape name ≤ 8

-- all that is owed for its operations, its variables and the globals
busy_few : (t : Thread) → IsSmall t → 4200 * busy_units t ≤ 2 ^ 38
busy_few t small = let slots = small.slots in let globals = small.globals in let program = small.program in let vars = small.vars in let h = held_few t.vars in omega arith

doing_few : (words : List ℕ) (chain : List Frame) (t : Thread) (d : Doing) → IsSmall t → IsAtWork t.layout t.shape (length t.vars) d → taken_for chain d ≤ t.taken → doing_left words chain t d ≤ 2 ^ 39
doing_few words chain t doings.Ready small under waits = omega arith
doing_few words chain t (doings.Making to name plan) small under waits =
    let h = busy_few t small in let k = search_few words plan.layout plan.at in let few = small.slots in let same : plan.layout.slots ≡ t.layout.slots = ap (λ (l : Extent). l.slots) under.1 in omega arith
doing_few words chain t (doings.Gaining gain to from plan) small under waits = let h = busy_few t small in let k = counted_few plan.entry (count_at words plan.layout plan.slot) plan.at in omega arith
doing_few words chain t (doings.Naming to held plan) small under waits = let h = busy_few t small in omega arith
doing_few words chain t (doings.Opening to cell plan) small under waits = let h = busy_few t small in let k = attempt_few (slice_index words plan.place) plan.at in omega arith
doing_few words chain t (doings.Closing to cell held plan) small under waits = let h = busy_few t small in omega arith
doing_few words chain t (doings.Setting from cell plan) small under waits = let h = busy_few t small in let k = attempt_few (slice_index words plan.place) plan.at in omega arith
doing_few words chain t (doings.Clearing plan) small under waits = let h = busy_few t small in let k = attempt_few (slice_index words plan.place) plan.at in omega arith
doing_few words chain t (doings.Dropping held plan) small under waits = let h = busy_few t small in let k = counted_few plan.entry (count_at words plan.layout plan.slot) plan.at in omega arith
doing_few words chain t (doings.Dying c) small under waits =
    let h = busy_few t small in
    let k = dying_few words chain t c (subst (λ (shape : HeapShape). (name : ObjectName) → field_count shape name ≤ 8) (sym under.1) small.fields) waits small.taken in
    omega arith
doing_few words chain t (doings.Vacating slot plan) small under waits = let h = busy_few t small in omega arith
doing_few words chain t doings.Ended small under waits = omega arith

declared_few : (classes : _) (globals : _) (ts : List ThreadDecl) (i : ℕ) → AllByRecursion (IsThread classes globals) ts → count_of_vars (slice_get ts i) ≤ 256
declared_few classes globals [] i all = omega arith
declared_few classes globals (t ∷ ts) zero all =
    let few = all.0.vars.names.few in
    let long : length (map (λ (v : VarDecl). v.name) t.vars) ≡ length t.vars = length-map t.vars (λ (v : VarDecl). v.name) in
    omega arith
declared_few classes globals (t ∷ ts) (suc i) all = declared_few classes globals ts i all.1

vars_few : (script : Script) (p : ℕ) → IsScript script → vars_of script p ≤ 256
vars_few script p valid = go (eqb p 0)
  where
    go : (b : Bool) → count_of_vars (cond b None (slice_get script.threads (p - 1))) ≤ 256
    go true = omega arith
    go false = declared_few script.classes script.globals script.threads (p - 1) valid.threads

-- how many steps thread p has left
abbrev pub left_at : (n p : ℕ) (c : Progress) → IsAtStage n c → ℕ
left_at n p c u = left c.stage.words (chains_at u.reached p) (thread_at p c)

pub left_few : (n : ℕ) (c : Progress) (p : ℕ) (u : IsAtStage n c) → p < length c.stage.threads → left_at n p c u ≤ 2 ^ 40
left_few n c p u lt =
    let s = u.steppers p (stepper_of c.script p) lt in
    let k = all_keep c.script u.script u.served n c.stage u.reached p (thread_at p c) (there c p lt) in
    let work = threads_are_at_work c.script n c.stage p (thread_at p c) u.script u.served u.reached (there c p lt) in
    let vars = vars_few c.script p u.script in
    let count = k.count in
    let small : IsSmall (thread_at p c) = record {
      slots = s.slots;
      globals = s.globals;
      program = s.few;
      vars = omega arith;
      taken = s.taken;
      fields = subst (λ (shape : HeapShape). (name : ObjectName) → field_count shape name ≤ 8) (sym work.shape) (fields_few c.script u.script);
    } in
    let few = doing_few c.stage.words (chains_at u.reached p) (thread_at p c) (thread_at p c).doing small s.under_way k.waits in
    omega arith

-- ---- the steps of a phase

-- what holds before each step
pub record Alone (p : ℕ) (before c : Progress) : Type 0 where
  pub under_way : IsUnderWay c
  pub within : p < length c.stage.threads
  pub may : MayGoOn p c
  pub alone : IsAlone p c
  pub script : c.script ≡ before.script
  pub begun : c.stage.begun ≡ before.stage.begun
  pub places : c.stage.places ≡ before.stage.places
  pub others : (q : ℕ) → q ≢ p → slice_get c.stage.threads q ≡ slice_get before.stage.threads q
  pub bound : c.stage.steps + left_at 0 p c under_way ≤ before.stage.steps + 2 ^ 40
  pub begun_once : (awaits_phase (thread_at p before) ≡ true → 1 ≤ (thread_at p before).phase) → awaits_phase (thread_at p c) ≡ true → 1 ≤ (thread_at p c).phase

pub alone_first : (p : ℕ) (c : Progress) → IsUnderWay c → p < length c.stage.threads → MayGoOn p c → IsAlone p c → Alone p c c
alone_first p c u lt may alone = record {
  under_way = u;
  within = lt;
  may = may;
  alone = alone;
  script = refl;
  begun = refl;
  places = refl;
  others = λ q ne. refl;
  bound = let few = left_few 0 c p u lt in omega arith;
  begun_once = λ h w. h w;
}

pub came_to : (k n : ℕ) (m : Move) → is_phase_end m ≡ true → IsPhase k m n → 1 ≤ n
came_to k n (moves.Step s i) e h = absurd (cc)
came_to k n moves.PhaseEnd e h = omega arith
came_to k n moves.Ended e h = absurd (cc)

is_asked : (m : Move) (step : Step) (intent : Intent) → m ≡ moves.Step step intent → is_step m ≡ true
is_asked m step intent e = ap is_step e

-- the thread is given what its step finds
abbrev after : ℕ → Progress → Step → Thread
after p c step = turned (thread_at p c) (Some (found_by step c.stage.words))

now : (p : ℕ) (c : Progress) (step : Step) → p < length c.stage.threads → thread_at p (has_made p step c) ≡ after p c step
now p c step lt = get_or-set_same c.stage.threads p (after p c step) (stepper_of c.script p) lt

-- and its deinits that wait are these then
abbrev chain_then : (n p : ℕ) (c : Progress) → IsAtStage n c → Step → List Frame
chain_then n p c u step = chain_after (thread_at p c) (Some (found_by step c.stage.words)) (chains_at u.reached p)

goes_on : (n : ℕ) (p : ℕ) (c : Progress) (step : Step) (intent : Intent) (u : IsAtStage n c) → p < length c.stage.threads → (thread_at p c).asked ≡ moves.Step step intent →
    GoesUnder (thread_at p c) c.stage.words (chains_at u.reached p) (made_by step c.stage.words) (chain_then n p c u step) (thread_at p c).doing (after p c step)
goes_on n p c step intent u lt asked =
    falls c.script.shape (thread_at p c) c.stage.words (chains_at u.reached p) step intent (fields_few c.script u.script) (u.steppers p (stepper_of c.script p) lt) (may_make n c p step intent u lt asked).takes_it.1
    (threads_are_at_work c.script n c.stage p (thread_at p c) u.script u.served u.reached (there c p lt)).asks asked

-- How many steps it may still make by the bound of a phase. Each step that it makes makes this smaller.
abbrev pub steps_left : (before c : Progress) → ℕ
steps_left before c = before.stage.steps + 2 ^ 40 - c.stage.steps

-- the stage that it comes to
record StepReached (n p : ℕ) (c : Progress) (step : Step) (u : IsAtStage n c) : Type 0 where
  reached : Reached c.script n (has_made p step c).stage
  chain_is : chains_at reached p ≡ chain_then n p c u step

alone_reached : (p : ℕ) (before c : Progress) (step : Step) (intent : Intent) (a : Alone p before c) → (thread_at p c).asked ≡ moves.Step step intent → StepReached 0 p c step a.under_way
alone_reached zero before c step intent a asked = record { reached = last_step step intent a.under_way.reached (may_step 0 c 0 step intent a.under_way a.within asked); chain_is = refl }
alone_reached (suc n) before c step intent a asked =
    let m = a.may (is_asked (thread_at (suc n) c).asked step intent asked) (omega arith) in
    record {
      reached = by_number step intent a.under_way.reached m.0 (omega arith) m.1 a.alone (may_step 0 c (suc n) step intent a.under_way a.within asked);
      chain_is = chain_here (suc n) (chain_then 0 (suc n) c a.under_way step) (chains_at a.under_way.reached);
    }

-- it has fewer steps left there
less_then : (n p : ℕ) (c : Progress) (step : Step) (intent : Intent) (u : IsAtStage n c) → p < length c.stage.threads → (thread_at p c).asked ≡ moves.Step step intent → FindsFree c.stage.words (thread_at p c).doing → (r : StepReached n p c step u) →
    left (made_by step c.stage.words) (chains_at r.reached p) (thread_at p (has_made p step c)) < left_at n p c u
less_then n p c step intent u lt asked free r = rw (now p c step lt, r.chain_is) ((goes_on n p c step intent u lt asked).fewer free)

-- the thread makes a step, and has fewer left
pub alone_on : (p : ℕ) (before c : Progress) (step : Step) (intent : Intent) → Alone p before c → (thread_at p c).asked ≡ moves.Step step intent → All IsStepper (has_made p step c).stage.threads →
    Alone p before (has_made p step c) × (steps_left before (has_made p step c) < steps_left before c)
alone_on p before c step intent a asked steppers =
    let r = alone_reached p before c step intent a asked in
    let goes = goes_on 0 p c step intent a.under_way a.within asked in
    let less = less_then 0 p c step intent a.under_way a.within asked (finds_free 0 c p a.under_way a.within a.alone) r in
    let bound = a.bound in
    let is = now p c step a.within in (
      record {
        under_way = record { script = a.under_way.script; served = a.under_way.served; reached = r.reached; steppers = steppers };
        within = rw length-set a.within;
        may = λ h p1. let m = a.may (is_asked (thread_at p c).asked step intent asked) p1 in (m.0, λ q x q1 lt at. m.1 q x q1 lt (sym (set_apart c.stage.threads p q (after p c step) (λ e. omega arith)) ∙ at));
        alone = λ q x q1 ne at. a.alone q x q1 ne (sym (set_apart c.stage.threads p q (after p c step) ne) ∙ at);
        script = a.script;
        begun = a.begun;
        places = a.places;
        others = λ q ne. set_apart c.stage.threads p q (after p c step) ne ∙ a.others q ne;
        bound = omega arith;
        begun_once = λ h w. rw is (came_to (thread_at p c).phase (after p c step).phase (after p c step).asked (rw is at w) goes.phase);
      },
      omega arith,
    )

pub alone_made : (p : ℕ) (before c c' : Progress) (step : Step) (intent : Intent) → Alone p before c → (thread_at p c).asked ≡ moves.Step step intent → c' ≡ has_made p step c → All IsStepper c'.stage.threads →
    Alone p before c' × (steps_left before c' < steps_left before c)
alone_made p before c c' step intent a asked is steppers = rw is (alone_on p before c step intent a asked (rw is at steppers))

-- the thread has no step
pub alone_last : (p : ℕ) (before c : Progress) → Alone p before c → is_step (thread_at p c).asked ≡ false → ThreadFinished p before c
alone_last p before c a idle =
    let bound = a.bound in
    let long : length c.stage.places ≡ length before.stage.places = ap (λ (ps : List ℕ). length ps) a.places in
    record {
      under_way = a.under_way;
      came = record { script = a.script; begun = a.begun; steps = omega arith };
      places = a.places;
      others = a.others;
      done = idle;
      begun_once = a.begun_once;
    }

-- a thread without a step is inside no access
pub idle_outside : (n : ℕ) (c : Progress) (p : ℕ) → IsAtStage n c → p < length c.stage.threads → has_step (thread_at p c) ≡ false → in_access (thread_at p c) ≡ false
idle_outside n c p u lt idle =
    go (thread_at p c).doing (stops c.script.shape (chains_at u.reached p) (thread_at p c) (thread_at p c).doing (threads_are_at_work c.script n c.stage p (thread_at p c) u.script u.served u.reached (there c p lt)).asks idle)
  where
    go : (d : Doing) → is_busy d ≡ false → is_accessing d ≡ false
    go doings.Ready e = refl
    go (doings.Making to name plan) e = refl
    go (doings.Gaining gain to from plan) e = absurd (cc)
    go (doings.Naming to held plan) e = refl
    go (doings.Opening to cell plan) e = refl
    go (doings.Closing to cell held plan) e = absurd (cc)
    go (doings.Setting from cell plan) e = refl
    go (doings.Clearing plan) e = refl
    go (doings.Dropping held plan) e = refl
    go (doings.Dying x) e = refl
    go (doings.Vacating slot plan) e = refl
    go doings.Ended e = refl

-- ---- the steps of an operation with an access

-- what holds before each step
pub record Ending (p : ℕ) (before c : Progress) : Type 0 where
  pub at_stage : IsAtStage p c
  pub other : 1 ≤ p
  pub followed : c.stage.places ≡ []
  pub within : p < length c.stage.threads
  pub script : c.script ≡ before.script
  pub begun : c.stage.begun ≡ before.stage.begun
  pub places : c.stage.places ≡ before.stage.places
  pub others : (q : ℕ) → q ≢ p → slice_get c.stage.threads q ≡ slice_get before.stage.threads q
  pub bound : c.stage.steps + left_at p p c at_stage ≤ before.stage.steps + 2 ^ 40
  pub past : IsBehindCells (thread_at p c) (thread_at p c).doing

pub ending_first : (p : ℕ) (c : Progress) → IsUnderWay c → p < length c.stage.threads → MayEnd p c → Ending p c c
ending_first p c u lt m = record {
  at_stage = record { script = u.script; served = u.served; reached = inside u.reached m.followed m.other m.below (there c p lt) m.inside; steppers = u.steppers };
  other = m.other;
  followed = m.followed;
  within = lt;
  script = refl;
  begun = refl;
  places = refl;
  others = λ q ne. refl;
  bound = let few = left_few 0 c p u lt in omega arith;
  past = go (thread_at p c).doing m.inside;
}
  where
    go : (d : Doing) → is_accessing d ≡ true → IsBehindCells (thread_at p c) d
    go doings.Ready e = tt
    go (doings.Making to name plan) e = tt
    go (doings.Gaining gain to from plan) e = tt
    go (doings.Naming to held plan) e = tt
    go (doings.Opening to cell plan) e = absurd (cc)
    go (doings.Closing to cell held plan) e = tt
    go (doings.Setting from cell plan) e = absurd (cc)
    go (doings.Clearing plan) e = absurd (cc)
    go (doings.Dropping held plan) e = tt
    go (doings.Dying x) e = tt
    go (doings.Vacating slot plan) e = tt
    go doings.Ended e = tt

-- an operation is under way, and not at its first step
op_busy : (a b c : Bool) → (a && not b && c) ≡ true → (a ≡ true) × (b ≡ false)
op_busy true true c e = absurd (cc)
op_busy true false c e = (refl, refl)
op_busy false b c e = absurd (cc)

op_under_way : (a b c : Bool) → a ≡ true → b ≡ false → c ≡ true → (a && not b && c) ≡ true
op_under_way a b c p q r = rw (p, q, r) refl

past_free : (words : List ℕ) (d : Doing) → IsPast d → FindsFree words d
past_free words doings.Ready h = tt
past_free words (doings.Making to name plan) h = tt
past_free words (doings.Gaining gain to from plan) h = tt
past_free words (doings.Naming to held plan) h = tt
past_free words (doings.Opening to cell plan) h = absurd h
past_free words (doings.Closing to cell held plan) h = tt
past_free words (doings.Setting from cell plan) h = absurd h
past_free words (doings.Clearing plan) h = absurd h
past_free words (doings.Dropping held plan) h = tt
past_free words (doings.Dying x) h = tt
past_free words (doings.Vacating slot plan) h = tt
past_free words doings.Ended h = tt

-- inside an operation it waits for no cell
ending_past : (p : ℕ) (before c : Progress) → Ending p before c → in_operation (thread_at p c) ≡ true → IsPast (thread_at p c).doing
ending_past p before c a busy = go (thread_at p c).doing a.past
  where
    started : (thread_at p c).first ≡ false
    started = (op_busy (is_busy (thread_at p c).doing) (thread_at p c).first (ltb (thread_at p c).index (length (thread_at p c).program)) busy).1

    numbered : (thread_at p c).thread ≡ p
    numbered = (threads_are_at_work c.script p c.stage p (thread_at p c) a.at_stage.script a.at_stage.served a.at_stage.reached (there c p a.within)).thread

    go : (d : Doing) → IsBehindCells (thread_at p c) d → IsPast d
    go doings.Ready h = tt
    go (doings.Making to name plan) h = tt
    go (doings.Gaining gain to from plan) h = tt
    go (doings.Naming to held plan) h = tt
    go (doings.Opening to cell plan) h = absurd (let f = started in cc)
    go (doings.Closing to cell held plan) h = tt
    go (doings.Setting from cell plan) h = absurd (let f = started in cc)
    go (doings.Clearing plan) h = absurd (let k = numbered in let other = a.other in omega arith)
    go (doings.Dropping held plan) h = tt
    go (doings.Dying x) h = tt
    go (doings.Vacating slot plan) h = tt
    go doings.Ended h = tt

ending_reached : (p : ℕ) (before c : Progress) (step : Step) (intent : Intent) (a : Ending p before c) → in_operation (thread_at p c) ≡ true → (thread_at p c).asked ≡ moves.Step step intent → StepReached p p c step a.at_stage
ending_reached p before c step intent a busy asked = record {
  reached = ends_it step intent a.at_stage.reached a.other (may_step p c p step intent a.at_stage a.within asked) busy;
  chain_is = chain_here p (chain_then p p c a.at_stage step) (chains_at a.at_stage.reached);
}

pub ending_on : (p : ℕ) (before c : Progress) (step : Step) (intent : Intent) → Ending p before c → in_operation (thread_at p c) ≡ true → (thread_at p c).asked ≡ moves.Step step intent → All IsStepper (has_made p step c).stage.threads →
    Ending p before (has_made p step c) × (steps_left before (has_made p step c) < steps_left before c)
ending_on p before c step intent a busy asked steppers =
    let r = ending_reached p before c step intent a busy asked in
    let goes = goes_on p p c step intent a.at_stage a.within asked in
    let past = ending_past p before c a busy in
    let less = less_then p p c step intent a.at_stage a.within asked (past_free c.stage.words (thread_at p c).doing past) r in
    let bound = a.bound in
    let is = now p c step a.within in (
      record {
        at_stage = record { script = a.at_stage.script; served = a.at_stage.served; reached = r.reached; steppers = steppers };
        other = a.other;
        followed = a.followed;
        within = rw length-set a.within;
        script = a.script;
        begun = a.begun;
        places = a.places;
        others = λ q ne. set_apart c.stage.threads p q (after p c step) ne ∙ a.others q ne;
        bound = omega arith;
        past = rw is (goes.past past);
      },
      omega arith,
    )

pub ending_made : (p : ℕ) (before c c' : Progress) (step : Step) (intent : Intent) → Ending p before c → in_operation (thread_at p c) ≡ true → (thread_at p c).asked ≡ moves.Step step intent → c' ≡ has_made p step c → All IsStepper c'.stage.threads →
    Ending p before c' × (steps_left before c' < steps_left before c)
ending_made p before c c' step intent a busy asked is steppers = rw is (ending_on p before c step intent a busy asked (rw is at steppers))

-- its operation is over, and with it the access
pub ending_last : (p : ℕ) (before c : Progress) → Ending p before c → in_operation (thread_at p c) ≡ false → AccessEnded p before c
ending_last p before c a over =
    let bound = a.bound in
    let long : length c.stage.places ≡ length before.stage.places = ap (λ (ps : List ℕ). length ps) a.places in
    record {
      under_way = record { script = a.at_stage.script; served = a.at_stage.served; reached = outside a.at_stage.reached a.other (there c p a.within) over; steppers = a.at_stage.steppers };
      came = record { script = a.script; begun = a.begun; steps = omega arith };
      places = a.places;
      others = a.others;
      outside = go (in_access (thread_at p c)) refl;
      followed = λ f some. a.followed;
    }
  where
    s : IsStepper (thread_at p c)
    s = a.at_stage.steppers p (stepper_of c.script p) a.within

    operating : (d : Doing) → is_accessing d ≡ true → IsInOperation (thread_at p c) d → (is_busy d ≡ true) × ((thread_at p c).index < length (thread_at p c).program)
    operating doings.Ready e o = absurd (cc)
    operating (doings.Making to name plan) e o = absurd (cc)
    operating (doings.Gaining gain to from plan) e o = (refl, o.0)
    operating (doings.Naming to held plan) e o = absurd (cc)
    operating (doings.Opening to cell plan) e o = absurd (cc)
    operating (doings.Closing to cell held plan) e o = (refl, o)
    operating (doings.Setting from cell plan) e o = absurd (cc)
    operating (doings.Clearing plan) e o = absurd (cc)
    operating (doings.Dropping held plan) e o = absurd (cc)
    operating (doings.Dying x) e o = absurd (cc)
    operating (doings.Vacating slot plan) e o = absurd (cc)
    operating doings.Ended e o = absurd (cc)

    go : (b : Bool) → in_access (thread_at p c) ≡ b → in_access (thread_at p c) ≡ false
    go false e = e
    go true e =
        let at = operating (thread_at p c).doing e s.in_operation in
        let started = (all_keep c.script a.at_stage.script a.at_stage.served p c.stage a.at_stage.reached p (thread_at p c) (there c p a.within)).inside e in
        let busy : in_operation (thread_at p c) ≡ true = op_under_way (is_busy (thread_at p c).doing) (thread_at p c).first (ltb (thread_at p c).index (length (thread_at p c).program)) at.0 started (lt-ltb (thread_at p c).index (length (thread_at p c).program) at.1) in
        absurd (cc)

-- inside an operation it has a step
pub ending_steps : (p : ℕ) (before c : Progress) → Ending p before c → in_operation (thread_at p c) ≡ true → is_step (thread_at p c).asked ≡ false → ⊥
ending_steps p before c a busy idle =
    let at = (op_busy (is_busy (thread_at p c).doing) (thread_at p c).first (ltb (thread_at p c).index (length (thread_at p c).program)) busy).0 in
    let none = stops c.script.shape (chains_at a.at_stage.reached p) (thread_at p c) (thread_at p c).doing (threads_are_at_work c.script p c.stage p (thread_at p c) a.at_stage.script a.at_stage.served a.at_stage.reached (there c p a.within)).asks idle in
    cc

-- a thread that is inside none has none to end
pub outside_anyhow : (p : ℕ) (c : Progress) → IsUnderWay c → in_access (thread_at p c) ≡ false → AccessEnded p c c
outside_anyhow p c u out = record { under_way = u; came = record { script = refl; begun = refl; steps = omega arith }; places = refl; others = λ q ne. refl; outside = out; followed = λ f. f }
