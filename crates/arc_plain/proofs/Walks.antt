-- A thread that goes on to its next operation stays in its program, and owes no more steps than before.
use Rattle.std.proofs.Common.{◌≡◌, ℕ, zero, suc, ◌+◌, ◌-◌, ◌*◌, ◌≤◌, ◌<◌, Bool, true, false, cond, eqb, ltb, List, [], ◌∷◌, length, take, drop, get_or, set, Option, Some, None, refl, ap, ◌∙◌, subst, sym, arith, length-drop}
use Rattle.std.proofs.lemmas.List.{length-set, length-take}
use Rattle.std.proofs.lemmas.List.Sums.{sum_by-cons}
use Rattle.std.proofs.lemmas.Bool.{and_parts, ltb-true, ltb-false, eqb-true}
use Rattle.std.proofs.lemmas.List.Quantifiers.{position-Some}
use Rattle.std.specs.Prelude.{position, slice_get, sum_by, ⊤}
use Rattle.arc_rule.specs.Extents.{Extent}
use Rattle.arc_script.specs.declared.script.Op.{Op}
use Rattle.arc_script.specs.declared.script.Op.TheVariants as op
use Rattle.arc_model.specs.declared.answer.Answer.{Answer}
use Rattle.arc_model.specs.declared.answer.Answer.TheVariants as answers
use Rattle.arc_cells.specs.Chains.{Frame}
use Rattle.arc_ops.specs.declared.gain.Gain.{Gain}
use Rattle.arc_ops.specs.declared.gain.Gain.TheVariants as gains
use Rattle.arc_ops.specs.declared.stepper.Held.{Held}
use Rattle.arc_ops.specs.declared.stepper.Doing.{Doing}
use Rattle.arc_ops.specs.declared.stepper.Doing.TheVariants as doings
use Rattle.arc_ops.specs.declared.stepper.Move.{Move}
use Rattle.arc_ops.specs.declared.stepper.Move.TheVariants as moves
use Rattle.arc_ops.specs.Thread.{Thread, value, set_var, put, is_held, is_cell}
use Rattle.arc_ops.specs.Plans.{drop_begun, make_begun}
use Rattle.arc_ops.specs.declared.cell.Cell.{Cell}
use Rattle.arc_ops.specs.Cells.{cell_of, clear_begun}
use Rattle.arc_ops.specs.Begins.{skipped, moved, begun_nil, begun_gain, begun_move, begun_drop, begun_get, begun_set, begun_op, has_globals, scope_over, scope_at, scope_drop, scope_begun, phase_end, phase_over, begun_at, begun, next_op}
use Rattle.arc_ops.specs.Drops.{replaced, replaced_old}
use Rattle.arc_plain.specs.Left.{held_unit, globals_left, units, busy_units, doing_left}
use Rattle.arc_plain.proofs.Lists.{get_taken, get_dropped}

-- where a thread comes to the end of a phase it is at the next one, and else at the same one
abbrev pub IsPhase : ℕ → Move → ℕ → Type 0
IsPhase k (moves.Step step intent) n = n ≡ k
IsPhase k moves.PhaseEnd n = n ≡ k + 1
IsPhase k moves.Ended n = n ≡ k

-- it is inside no access, no object dies, and the cell that it waits for is that of its operation's first step, or the end section's
abbrev pub IsBehind : Thread → Doing → Type 0
IsBehind t (doings.Gaining gain to from plan) = is_cell from.origin ≡ false
IsBehind t (doings.Opening to cell plan) = t.first ≡ true
IsBehind t (doings.Closing to cell held plan) = ⊥
IsBehind t (doings.Setting from cell plan) = t.first ≡ true
IsBehind t (doings.Clearing plan) = t.thread ≡ 0
IsBehind t (doings.Dying c) = ⊥
IsBehind t _ = ⊤

-- a thread has become another state of it, which has at most so many steps left
pub record Comes (t u : Thread) (bound : ℕ) : Type 0 where
  pub layout : u.layout ≡ t.layout
  pub phases : u.phases ≡ t.phases
  pub program : u.program ≡ t.program
  pub count : length u.vars ≡ length t.vars
  pub phase : IsPhase t.phase u.asked u.phase
  pub taken : u.taken ≡ t.taken
  pub behind : IsBehind u u.doing
  pub few : (words : List ℕ) (chain : List Frame) → doing_left words chain u u.doing ≤ bound

-- a block goes on behind the place where it begins
abbrev pub IsForth : ℕ → Op → Type 0
IsForth i (op.IfNil v to) = i < to
IsForth i (op.IfSome v to) = i < to
IsForth i _ = ⊤

-- the heap isn't larger than scripts allow, and each block of the program goes forth
abbrev pub Fits : Thread → Type 0
Fits t = (t.layout.slots ≤ 4096) × ((i : ℕ) (o : Op) → slice_get t.program i ≡ Some o → IsForth i o)

-- nothing of this changed but the variables' values, the place in the program and what is told, and no more globals are left
pub record Same (t u : Thread) : Type 0 where
  pub layout : u.layout ≡ t.layout
  pub phases : u.phases ≡ t.phases
  pub program : u.program ≡ t.program
  pub count : length u.vars ≡ length t.vars
  pub phase : u.phase ≡ t.phase
  pub taken : u.taken ≡ t.taken
  pub globals : globals_left u ≤ globals_left t

pub after_same : (t u x : Thread) (a b : ℕ) → Same t u → Comes u x a → a ≤ b → Comes t x b
after_same t u x a b s c le = record {
  layout = c.layout ∙ s.layout;
  phases = c.phases ∙ s.phases;
  program = c.program ∙ s.program;
  count = c.count ∙ s.count;
  phase = subst (λ (k : ℕ). IsPhase k x.asked x.phase) s.phase c.phase;
  taken = c.taken ∙ s.taken;
  behind = c.behind;
  few = λ words chain. let f = c.few words chain in omega arith;
}

-- a variable gets another value
pub units_set : (vars : List (Option Held)) (v : ℕ) (new : Option Held) → sum_by held_unit (set vars v new) + held_unit (get_or vars v None) ≤ sum_by held_unit vars + held_unit new
units_set [] v new = omega arith
units_set (o ∷ vars) zero new = let a = sum_by-cons held_unit o vars in let b = sum_by-cons held_unit new vars in omega arith
units_set (o ∷ vars) (suc v) new = let h = units_set vars v new in let a = sum_by-cons held_unit o vars in let b = sum_by-cons held_unit o (set vars v new) in omega arith

pub unit_few : (o : Option Held) → held_unit o ≤ 1
unit_few None = omega arith
unit_few (Some held) = omega arith

-- a drop begins
pub drop_comes : (t : Thread) (held : Held) → Comes t (drop_begun held t) (4200 * busy_units t + 18)
drop_comes t held = record { layout = refl; phases = refl; program = refl; count = refl; phase = refl; taken = refl; behind = tt; few = λ words chain. omega arith }

-- the value of a variable that refers is dropped
taken : (t : Thread) (v : ℕ) (held : Held) → value t.vars v ≡ Some held → Same t (set_var v None t) × (sum_by held_unit (set t.vars v None) + 1 ≤ sum_by held_unit t.vars)
taken t v held is =
    let e = units_set t.vars v None in
    let at : held_unit (get_or t.vars v None) ≡ 1 = ap held_unit is in
    (record { layout = refl; phases = refl; program = refl; count = length-set t.vars v None; phase = refl; taken = refl; globals = omega arith }, omega arith)

-- a thread ends, and thread 0 clears the next global
over_comes : (t : Thread) → Comes t (scope_over t) (4200 * units t)
over_comes t = go (has_globals t) refl
  where
    go : (b : Bool) → has_globals t ≡ b → Comes t (cond b (clear_begun t) (record t { doing = doings.Ended; asked = moves.Ended })) (4200 * units t)
    go true e =
        let both = and_parts (eqb t.thread 0) (ltb t.cleared t.layout.globals) e in
        let some = ltb-true t.cleared t.layout.globals both.1 in
        record { layout = refl; phases = refl; program = refl; count = refl; phase = refl; taken = refl; behind = eqb-true t.thread 0 both.0; few = λ words chain. omega arith }
    go false e = record { layout = refl; phases = refl; program = refl; count = refl; phase = refl; taken = refl; behind = tt; few = λ words chain. omega arith }

-- the end of the scope
pub scope_comes : (t : Thread) → Comes t (scope_begun t) (4200 * units t)
scope_comes t = go (position is_held t.vars) refl
  where
    dropping : (v : ℕ) (o : Option Held) → value t.vars v ≡ o → is_held o ≡ true → Comes t (scope_drop v o t) (4200 * units t)
    dropping v None is held = absurd (cc)
    dropping v (Some h) is held =
        let fewer = taken t v h is in
        let less = fewer.1 in
        after_same t (set_var v None t) (drop_begun h (set_var v None t)) (4200 * busy_units (set_var v None t) + 18) (4200 * units t) fewer.0 (drop_comes (set_var v None t) h) (omega arith)

    go : (o : Option ℕ) → position is_held t.vars ≡ o → Comes t (scope_at o t) (4200 * units t)
    go None e = over_comes t
    go (Some v) e = let found = position-Some is_held t.vars v None e in dropping v (value t.vars v) refl found.1

-- the end of the phase
pub phase_comes : (t : Thread) → Comes t (phase_over t) (4200 * units t)
phase_comes t = go (ltb (t.phase + 1) (length t.phases))
  where
    go : (b : Bool) → Comes t (cond b (record t { doing = doings.Ready; asked = moves.PhaseEnd; phase = t.phase + 1 }) (scope_begun t)) (4200 * units t)
    go true = record { layout = refl; phases = refl; program = refl; count = refl; phase = refl; taken = refl; behind = tt; few = λ words chain. omega arith }
    go false = scope_comes t

-- what an operation does that begins, where an operation that asks for no step leaves the rest for later
op_comes : (o : Op) (t : Thread) (rest : Thread → Thread) → t.index < length t.program → t.layout.slots ≤ 4096 → IsForth t.index o →
    ((u : Thread) → Same t u → t.index + 1 ≤ u.index → sum_by held_unit u.vars ≤ sum_by held_unit t.vars + 1 → Comes u (rest u) (4200 * units u)) → Comes t (begun_op o t rest) (4200 * units t)
op_comes o t rest here slots forth later = at o forth
  where
    -- an operation that is done at once, or the beginning of a block
    behind : (u : Thread) → Same t u → t.index + 1 ≤ u.index → sum_by held_unit u.vars ≤ sum_by held_unit t.vars + 1 → Comes t (rest u) (4200 * units t)
    behind u same index vars =
        let program : length u.program ≡ length t.program = ap (λ (ops : List Op). length ops) same.program in
        let globals = same.globals in
        after_same t u (rest u) (4200 * units u) (4200 * units t) same (later u same index vars) (omega arith)

    skips : (answer : Answer) → Comes t (rest (skipped answer t)) (4200 * units t)
    skips answer = behind (skipped answer t) (record { layout = refl; phases = refl; program = refl; count = refl; phase = refl; taken = refl; globals = omega arith }) (omega arith) (omega arith)

    -- the old value of a variable is dropped, by an operation that is under way
    drops : (u : Thread) (v : ℕ) (held : Held) → Same t u → u.index ≡ t.index → sum_by held_unit u.vars ≤ sum_by held_unit t.vars → value u.vars v ≡ Some held → Comes t (drop_begun held (set_var v None u)) (4200 * units t)
    drops u v held same index vars is =
        let fewer = taken u v held is in
        let less = fewer.1 in
        let program : length u.program ≡ length t.program = ap (λ (ops : List Op). length ops) same.program in
        let globals = same.globals in
        after_same t u (drop_begun held (set_var v None u)) (4200 * busy_units (set_var v None u) + 18) (4200 * units t) same
        (after_same u (set_var v None u) (drop_begun held (set_var v None u)) (4200 * busy_units (set_var v None u) + 18) (4200 * busy_units (set_var v None u) + 18) fewer.0 (drop_comes (set_var v None u) held) (omega arith)) (omega arith)

    makes : (to class : ℕ) → Comes t (make_begun to class (record t { first = true })) (4200 * units t)
    makes to class = record { layout = refl; phases = refl; program = refl; count = refl; phase = refl; taken = refl; behind = tt; few = λ words chain. omega arith }

    nil : (to : ℕ) (old : Option Held) → value t.vars to ≡ old → Comes t (begun_nil to old t rest) (4200 * units t)
    nil to (Some old) is = drops (put answers.Nil (record t { first = true })) to old (record { layout = refl; phases = refl; program = refl; count = refl; phase = refl; taken = refl; globals = omega arith }) refl (omega arith) is
    nil to None is = skips answers.Nil

    gaining : (gain : Gain) (to : ℕ) (from old : Option Held) → value t.vars to ≡ old → Comes t (begun_gain gain to from old t rest) (4200 * units t)
    gaining gain to (Some held) old is = record { layout = refl; phases = refl; program = refl; count = refl; phase = refl; taken = refl; behind = refl; few = λ words chain. omega arith }
    gaining gain to None old is = nil to old is

    counts : (to from : ℕ) (held : Held) → length (set (set t.vars to (Some held)) from None) ≡ length t.vars
    counts to from held = length-set (set t.vars to (Some held)) from None ∙ length-set t.vars to (Some held)

    moving : (to from : ℕ) (held old : Option Held) → value t.vars to ≡ old → Comes t (begun_move to from held old t rest) (4200 * units t)
    moving to from (Some held) (Some old) is =
        let a = units_set t.vars to (Some held) in
        let b = units_set (set t.vars to (Some held)) from None in
        let at : held_unit (get_or t.vars to None) ≡ 1 = ap held_unit is in
        after_same t (moved to from held (put answers.Ok (record t { first = true }))) (drop_begun old (moved to from held (put answers.Ok (record t { first = true }))))
        (4200 * busy_units (moved to from held (put answers.Ok (record t { first = true }))) + 18) (4200 * units t)
        (record { layout = refl; phases = refl; program = refl; count = counts to from held; phase = refl; taken = refl; globals = omega arith })
        (drop_comes (moved to from held (put answers.Ok (record t { first = true }))) old) (omega arith)
    moving to from (Some held) None is =
        let a = units_set t.vars to (Some held) in
        let b = units_set (set t.vars to (Some held)) from None in
        behind (moved to from held (skipped answers.Ok t)) (record { layout = refl; phases = refl; program = refl; count = counts to from held; phase = refl; taken = refl; globals = omega arith }) (omega arith) (omega arith)
    moving to from None old is = nil to old is

    dropping : (v : ℕ) (held : Option Held) → value t.vars v ≡ held → Comes t (begun_drop v held t rest) (4200 * units t)
    dropping v (Some held) is = drops (put answers.Ok (record t { first = true })) v held (record { layout = refl; phases = refl; program = refl; count = refl; phase = refl; taken = refl; globals = omega arith }) refl (omega arith) is
    dropping v None is = skips answers.Nil

    opening : (to : ℕ) (cell : Option Cell) (old : Option Held) → value t.vars to ≡ old → Comes t (begun_get to cell old t rest) (4200 * units t)
    opening to (Some cell) old is = record { layout = refl; phases = refl; program = refl; count = refl; phase = refl; taken = refl; behind = refl; few = λ words chain. omega arith }
    opening to None old is = nil to old is

    setting : (from : ℕ) (cell : Option Cell) → Comes t (begun_set from cell t rest) (4200 * units t)
    setting from (Some cell) = record { layout = refl; phases = refl; program = refl; count = refl; phase = refl; taken = refl; behind = refl; few = λ words chain. omega arith }
    setting from None = skips answers.Nil

    goes : (b : Bool) (there elsewhere : ℕ) → t.index + 1 ≤ there → t.index + 1 ≤ elsewhere → Comes t (rest (record t { index = cond b there elsewhere })) (4200 * units t)
    goes true there elsewhere above below = behind (record t { index = there }) (record { layout = refl; phases = refl; program = refl; count = refl; phase = refl; taken = refl; globals = omega arith }) above (omega arith)
    goes false there elsewhere above below = behind (record t { index = elsewhere }) (record { layout = refl; phases = refl; program = refl; count = refl; phase = refl; taken = refl; globals = omega arith }) below (omega arith)

    at : (o : Op) → IsForth t.index o → Comes t (begun_op o t rest) (4200 * units t)
    at (op.New to class) f = makes to class
    at (op.Copy to from) f = gaining gains.Copy to (value t.vars from) (value t.vars to) refl
    at (op.Move to from) f = moving to from (value t.vars from) (value t.vars to) refl
    at (op.Drop v) f = dropping v (value t.vars v) refl
    at (op.Unown to of) f = gaining gains.Unown to (value t.vars of) (value t.vars to) refl
    at (op.Weak to of) f = skips answers.Nil
    at (op.Load to of) f = gaining gains.Load to (value t.vars of) (value t.vars to) refl
    at (op.Get to cell) f = opening to (cell_of cell t) (value t.vars to) refl
    at (op.Set cell from) f = setting from (cell_of cell t)
    at (op.IfNil v to) f = goes (is_held (value t.vars v)) to (t.index + 1) (omega arith) (omega arith)
    at (op.IfSome v to) f = goes (is_held (value t.vars v)) (t.index + 1) to (omega arith) (omega arith)

forth_before : (i j : ℕ) (o : Op) → i ≤ j → IsForth j o → IsForth i o
forth_before i j (op.New to class) le f = tt
forth_before i j (op.Copy to from) le f = tt
forth_before i j (op.Move to from) le f = tt
forth_before i j (op.Drop v) le f = tt
forth_before i j (op.Unown to of) le f = tt
forth_before i j (op.Weak to of) le f = tt
forth_before i j (op.Load to of) le f = tt
forth_before i j (op.Get to cell) le f = tt
forth_before i j (op.Set cell from) le f = tt
forth_before i j (op.IfNil v to) le f = omega arith
forth_before i j (op.IfSome v to) le f = omega arith

-- an operation that the thread has gone past is passed over, and else it begins
past_or_begun : (place : ℕ) (o : Op) (ops : List Op) (t : Thread) → t.layout.slots ≤ 4096 → place < length t.program → IsForth place o →
    ((u : Thread) → Same t u → Comes u (begun_at (place + 1) ops u) (4200 * units u)) → Comes t (begun_at place (o ∷ ops) t) (4200 * units t)
past_or_begun place o ops t slots within forth further = go (ltb place t.index) refl
  where
    go : (b : Bool) → ltb place t.index ≡ b → Comes t (cond b (begun_at (place + 1) ops t) (begun_op o t (λ (behind : Thread). begun_at (place + 1) ops behind))) (4200 * units t)
    go true e = further t (record { layout = refl; phases = refl; program = refl; count = refl; phase = refl; taken = refl; globals = omega arith })
    go false e =
        let before = ltb-false place t.index e in
        op_comes o t (λ (behind : Thread). begun_at (place + 1) ops behind) (omega arith) slots (forth_before t.index place o before forth) (λ u same index vars. further u same)

-- the thread goes on to the first of these operations that asks for a step
begins_at : (place : ℕ) (ops : List Op) (t : Thread) → t.layout.slots ≤ 4096 → length ops ≤ length t.program - place → ((i : ℕ) (o : Op) → slice_get ops i ≡ Some o → IsForth (place + i) o) → Comes t (begun_at place ops t) (4200 * units t)
begins_at place [] t slots few forth = phase_comes t
begins_at place (o ∷ ops) t slots few forth =
    past_or_begun place o ops t slots (omega arith) (subst (λ (n : ℕ). IsForth n o) (let e : place + 0 ≡ place = omega arith in e) (forth 0 o refl))
    (λ u same.
    let program : length u.program ≡ length t.program = ap (λ (xs : List Op). length xs) same.program in
    let fits : u.layout.slots ≤ 4096 = subst (λ (l : Extent). l.slots ≤ 4096) (sym same.layout) slots in
    begins_at (place + 1) ops u fits (omega arith) (λ i x there. subst (λ (n : ℕ). IsForth n x) (let e : place + suc i ≡ place + 1 + i = omega arith in e) (forth (suc i) x there)))

pub begins : (t : Thread) → Fits t → Comes t (begun t) (4200 * units t)
begins t fits =
    begins_at t.index (drop t.index (take (phase_end t) t.program)) t fits.0 (let a = length-drop t.index (take (phase_end t) t.program) in let b = length-take (phase_end t) t.program in omega arith)
    (λ i o there. fits.1 (t.index + i) o (get_taken (phase_end t) t.program (t.index + i) o (get_dropped t.index (take (phase_end t) t.program) i o there)))

-- the operation, or a drop at the end of the scope, is over
pub next_comes : (t : Thread) → Fits t → Comes t (next_op t) (4200 * busy_units t)
next_comes t fits = go (ltb t.index (length t.program)) refl
  where
    go : (b : Bool) → ltb t.index (length t.program) ≡ b → Comes t (begun (record t { doing = doings.Ended; index = cond b (t.index + 1) t.index })) (4200 * busy_units t)
    go true e =
        after_same t (record t { doing = doings.Ended; index = t.index + 1 }) (begun (record t { doing = doings.Ended; index = t.index + 1 })) (4200 * units (record t { doing = doings.Ended; index = t.index + 1 })) (4200 * busy_units t)
        (record { layout = refl; phases = refl; program = refl; count = refl; phase = refl; taken = refl; globals = omega arith }) (begins (record t { doing = doings.Ended; index = t.index + 1 }) fits) (omega arith)
    go false e =
        let past = ltb-false t.index (length t.program) e in
        after_same t (record t { doing = doings.Ended }) (begun (record t { doing = doings.Ended })) (4200 * units (record t { doing = doings.Ended })) (4200 * busy_units t)
        (record { layout = refl; phases = refl; program = refl; count = refl; phase = refl; taken = refl; globals = omega arith }) (begins (record t { doing = doings.Ended }) fits) (omega arith)

-- a variable gets another value, and what it held before is dropped last
pub replaced_comes : (t : Thread) (to : ℕ) (new : Option Held) → Fits t → t.index < length t.program → Comes t (replaced to new t) (4200 * busy_units t + 18)
replaced_comes t to new fits here = go (value t.vars to) refl
  where
    same : Same t (set_var to new t)
    same = record { layout = refl; phases = refl; program = refl; count = length-set t.vars to new; phase = refl; taken = refl; globals = omega arith }

    go : (old : Option Held) → value t.vars to ≡ old → Comes t (replaced_old old (set_var to new t)) (4200 * busy_units t + 18)
    go (Some old) is =
        let a = units_set t.vars to new in let one = unit_few new in
        let at : held_unit (get_or t.vars to None) ≡ 1 = ap held_unit is in
        after_same t (set_var to new t) (drop_begun old (set_var to new t)) (4200 * busy_units (set_var to new t) + 18) (4200 * busy_units t + 18) same (drop_comes (set_var to new t) old) (omega arith)
    go None is =
        let a = units_set t.vars to new in let one = unit_few new in
        let on = ends_op (ltb t.index (length t.program)) refl in
        on
      where
        ends_op : (b : Bool) → ltb t.index (length t.program) ≡ b → Comes t (begun (record t { vars = set t.vars to new; doing = doings.Ended; index = cond b (t.index + 1) t.index })) (4200 * busy_units t + 18)
        ends_op true e =
            let a = units_set t.vars to new in let one = unit_few new in
            after_same t (record t { vars = set t.vars to new; doing = doings.Ended; index = t.index + 1 }) (begun (record t { vars = set t.vars to new; doing = doings.Ended; index = t.index + 1 }))
            (4200 * units (record t { vars = set t.vars to new; doing = doings.Ended; index = t.index + 1 })) (4200 * busy_units t + 18)
            (record { layout = refl; phases = refl; program = refl; count = length-set t.vars to new; phase = refl; taken = refl; globals = omega arith })
            (begins (record t { vars = set t.vars to new; doing = doings.Ended; index = t.index + 1 }) fits) (omega arith)
        ends_op false e = let past = ltb-false t.index (length t.program) e in absurd (omega arith)
