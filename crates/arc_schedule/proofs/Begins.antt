-- Operations and drops begin, and the scope ends.
use Rattle.std.proofs.Common.{◌≡◌, ◌≢◌, ℕ, zero, suc, ◌+◌, ◌<◌, ◌≤◌, Bool, true, false, cond, eqb, ltb, List, [], ◌∷◌, length, map, take, drop, set, get_or, Option, Some, None, ◌⊎◌, inl, inr, refl, sym, ap, subst, ◌∙◌, arith, add-one}
use Rattle.std.proofs.lemmas.Bool.{ltb-true, ltb-false, lt-ltb, cases_lt}
use Rattle.std.proofs.lemmas.List.{set-get_or, length-set, length-map, get_or-set_same, get_or-set_other, drop_all}
use Rattle.std.proofs.lemmas.List.Quantifiers.{position-Some}
use Rattle.std.proofs.lemmas.Option.{slice_get_within, same_Some, slice_get-map}
use Rattle.std.specs.Prelude.{◌&&◌, slice_get, position, is_some}
use Rattle.std.specs.Option.{option_map}
use Rattle.arc_model.specs.declared.answer.Answer.TheVariants as answers
use Rattle.arc_model.specs.declared.event.ObjectName.{ObjectName}
use Rattle.arc_model.specs.declared.shape.Kind.{Kind}
use Rattle.arc_model.specs.Shapes.{HeapShape, class_at}
use Rattle.arc_rule.specs.Places.{extent_of}
use Rattle.arc_plan.specs.declared.slots.Making.TheVariants as search
use Rattle.arc_side.specs.declared.up.UpAnswer.{UpAnswer}
use Rattle.arc_side.specs.declared.down.DownAnswer.{DownAnswer}
use Rattle.arc_side.specs.Ups.{Rise}
use Rattle.arc_side.specs.Downs.{Fall}
use Rattle.arc_cells.specs.declared.begin.BeginAnswer.{BeginAnswer}
use Rattle.arc_cells.specs.declared.swap.SwapAnswer.{SwapAnswer}
use Rattle.arc_cells.specs.Begins.{Beginning}
use Rattle.arc_cells.specs.Swaps.{SwapAttempt}
use Rattle.arc_cells.specs.Chains.{Frame}
use Rattle.arc_script.specs.declared.script.Op.{Op}
use Rattle.arc_script.specs.declared.script.Op.TheVariants as op
use Rattle.arc_script.specs.declared.script.OpCell.{OpCell}
use Rattle.arc_script.specs.Valid.{begins_block}
use Rattle.arc_script.specs.OneList.{in_one_list, moved_behind, numbered}
use Rattle.arc_script.proofs.OneList.{length_in_one}
use Rattle.arc_served.specs.Programs.{GoesForth, ops_in_first}
use Rattle.arc_served.specs.Served.{IsServedOp}
use Rattle.arc_served.proofs.Counts.{first_few, first_all}
use Rattle.arc_ops.specs.declared.stepper.Held.{Held}
use Rattle.arc_ops.specs.declared.stepper.Doing.TheVariants.{Ready, Ended}
use Rattle.arc_ops.specs.declared.stepper.Move.TheVariants as moves
use Rattle.arc_ops.specs.declared.gain.Gain.{Gain}
use Rattle.arc_ops.specs.declared.gain.Gain.TheVariants as gains
use Rattle.arc_ops.specs.Thread.{Thread, value, is_held, put, set_var}
use Rattle.arc_ops.specs.declared.cell.Cell.{Cell}
use Rattle.arc_ops.specs.Cells.{cell_in, cell_of, open_from, open_begun, swap_from, set_begun, clear_begun}
use Rattle.arc_ops.specs.Plans.{op_of, of_hand, drop_from, creation_from, gain_from, gain_begun, drop_begun}
use Rattle.arc_ops.specs.Begins.{skipped, moved, begun_nil, begun_gain, begun_move, begun_drop, begun_get, begun_set, phase_over, begun_op, begun_at, begun, scope_drop, scope_at, scope_begun, next_op}
use Rattle.arc_ops.specs.Drops.{replaced_old, replaced}
use Rattle.arc_ops.specs.Steppers.{IsHeld}
use Rattle.arc_schedule.specs.Made.{Point, Made}
use Rattle.arc_schedule.specs.Plans.{Plan, Starts, new_object, down, begin_access}
use Rattle.arc_schedule.specs.Plans.Starts.{first as starts_first}
use Rattle.arc_schedule.specs.Operations.{State, Holding, Variables, Drops, Does, forms, goes_on}
use Rattle.arc_schedule.specs.Operations.Drops.{nothing as drops_nothing}
use Rattle.arc_schedule.specs.Operations.Does.{forms_nil, sets_nil, moves as does_move, moves_nil, drops as does_drop}
use Rattle.arc_schedule.specs.Operations as operations
use Rattle.arc_schedule.specs.Threads.{point_of, OpsDone, ScopeEnds}
use Rattle.arc_schedule.specs.Threads.OpsDone.{none as ops_none, one as ops_one, block as ops_block}
use Rattle.arc_schedule.specs.Threads.PhasesDone.{one as phases_one}
use Rattle.arc_schedule.specs.Threads.ScopeEnds.{none as scope_none, one as scope_one}
use Rattle.arc_schedule.proofs.Lists.{not-equal, there-is, all-there, get-drop, nothing-left}
use Rattle.arc_schedule.proofs.Phases.{all-ops, phase-next, phase-rest}
use Rattle.arc_schedule.proofs.Newest.{IsHere, IsPast, Newest, Passed, passed-on, passed-phase, passed-here, passed-scope, passed-it}
use Rattle.arc_schedule.proofs.Given.{waits, begun-from}
use Rattle.arc_schedule.proofs.Deinits.{ref}
use Rattle.arc_schedule.proofs.Stands.{Task, Job, kinds_here, classes_here, start_of, refs, state_of, AreDone, here, IsInScope, IsOverIf, IsOver, AreServed, IsCellOf, gain_plan, set_plan, Works, WorksAt, IsAt, AreIn, Stands, under-way}
use Rattle.arc_schedule.proofs.Variables.{value-ref, put-ref, none-held, not-held, held-in, nil-in, one-in, block-is, word-is}
use Rattle.arc_schedule.proofs.Cells.{cell-is, owner-is, no-cell}

-- ---- operations

pub over-done : (k : Task) (j : Job k) (i : ℕ) (vars : List (Option Held)) (made hands : ℕ) (now : List Made) → i < length j.ops → AreDone k j (i + 1) (state_of vars made hands) now →
    IsOver k j i vars made hands now
over-done k j i vars made hands now within d = rw (lt-ltb i (length j.ops) within) d

-- the operation at this place is done
pub op-done : (k : Task) (j : Job k) (i : ℕ) (o : Op) (state new : State) (base after : List Made) → AreDone k j i state base → slice_get j.ops i ≡ Some o → Does k.shape (classes_here k) (here k j i) o state base new after →
    AreDone k j (i + 1) new after
op-done k j i o state new base after d there does =
    let within : i < length j.ops = slice_get_within j.ops i o there in
    let same : here k j i ≡ point_of k.thread j.phase (numbered (take (i + 1) j.ops)) = rw (lt-ltb i (length j.ops) within) refl in
    let Q : Point → Type 0 = λ (p : Point). Does k.shape (classes_here k) p o state base new after in
    ops_one d there (subst Q same does)

-- a block goes on behind its beginning, and within the phase
on-within : (vars : Variables) (i end : ℕ) (o : Op) → i < end → GoesForth i end o → (i < goes_on vars i o) × (goes_on vars i o ≤ end)
on-within vars i end (op.New to class) below g = (omega arith, omega arith)
on-within vars i end (op.Copy to from) below g = (omega arith, omega arith)
on-within vars i end (op.Move to from) below g = (omega arith, omega arith)
on-within vars i end (op.Drop v) below g = (omega arith, omega arith)
on-within vars i end (op.Unown to of) below g = (omega arith, omega arith)
on-within vars i end (op.Weak to of) below g = (omega arith, omega arith)
on-within vars i end (op.Load to of) below g = (omega arith, omega arith)
on-within vars i end (op.Get to cell) below g = (omega arith, omega arith)
on-within vars i end (op.Set cell from) below g = (omega arith, omega arith)
on-within vars i end (op.IfNil v past) below g = go (is_some (operations.value vars v))
  where
    go : (b : Bool) → (i < cond b past (i + 1)) × (cond b past (i + 1) ≤ end)
    go true = g
    go false = (omega arith, omega arith)
on-within vars i end (op.IfSome v past) below g = go (is_some (operations.value vars v))
  where
    go : (b : Bool) → (i < cond b (i + 1) past) × (cond b (i + 1) past ≤ end)
    go true = (omega arith, omega arith)
    go false = g

done-within : {kinds : List Kind} {classes : List ℕ} {shape : HeapShape} {thread phase : ℕ} {ops : List Op} {first : State} {b : List Made} {i : ℕ} {state : State} {now : List Made} → AreServed shape classes kinds ops → OpsDone shape classes thread phase ops first b i state now → i ≤ length ops
done-within served ops_none = omega arith
done-within {ops = ops} served (ops_one {i = i} {o = o} d there x) = let h = slice_get_within ops i o there in omega arith
done-within {ops = ops} served (ops_block {i = i} {n = n} {o = o} {state = state} d there begins goes further) =
    let h = on-within state.vars i (length ops) o (slice_get_within ops i o there) (served.forth i o there) in
    let most = h.1 in
    rw goes most

-- ---- phases

-- the operations of the phase as they stand in the stepper's program
abbrev pub moved-ops : (k : Task) → Job k → List Op
moved-ops k j = map (moved_behind (start_of k j)) j.ops

in-map : (f : Op → Op) (found : Option Op) (o : Op) → option_map f found ≡ Some o → (x : Op) × (found ≡ Some x) × (f x ≡ o)
in-map f None o e = absurd (cc)
in-map f (Some x) o e = (x, refl, same_Some (f x) o e)

-- what is left of the stepper's phase
pub rest-is : (k : Task) (j : Job k) (i : ℕ) (phases : List (List Op)) (program : List Op) (phase index : ℕ) → phases ≡ k.decl.phases → program ≡ in_one_list 0 k.decl.phases → phase ≡ j.phase → index ≡ start_of k j + i →
    drop index (take (ops_in_first (phase + 1) phases) program) ≡ drop i (moved-ops k j)
rest-is k j i phases program phase index a b c d =
    let start : 0 + start_of k j ≡ start_of k j = omega arith in
    rw (a, b, c, d, add-one) (phase-rest 0 k.decl.phases j.phase i j.ops j.there ∙ ap (λ (m : ℕ). drop i (map (moved_behind m) j.ops)) start)

works-at : {n : ℕ} (k : Task) (j : Job k) (i next : ℕ) (t : Thread) (index : ℕ) → WorksAt k j i n t → index ≡ start_of k j + next → Works k j next n t.layout t.shape t.thread t.phases t.program t.classes t.phase index
works-at {n = n} k j i next t index works place = record {
  layout_is = works.layout_is;
  shape_is = works.shape_is;
  thread_is = works.thread_is;
  phases_is = works.phases_is;
  program_is = works.program_is;
  classes_are = works.classes_are;
  phase_is = works.phase_is;
  index_is = place;
  begun_is = works.begun_is;
}

works-next : {n : ℕ} (k : Task) (j : Job k) (i : ℕ) (t : Thread) → WorksAt k j i n t → Works k j (i + 1) n t.layout t.shape t.thread t.phases t.program t.classes t.phase (t.index + 1)
works-next {n = n} k j i t works = works-at k j i (i + 1) t (t.index + 1) works (let h = works.index_is in omega arith)

-- ---- where the newest step is

pub here-is : (k : Task) (j : Job k) (i : ℕ) → i < length j.ops → here k j i ≡ point_of k.thread j.phase (numbered (take (i + 1) j.ops))
here-is k j i within = rw (lt-ltb i (length j.ops) within) refl

-- the operation at this place is under way
pub is-at : (k : Task) (j : Job k) (i : ℕ) (o : Op) → slice_get j.ops i ≡ Some o → begins_block o ≡ false → IsAt k j i
is-at k j i o there plain = record { numbered = λ within. (o, there, plain); scope = λ most. (let within = slice_get_within j.ops i o there in absurd (omega arith)) }

-- it has made no step yet
newest-first : (k : Task) (j : Job k) (i : ℕ) (o : Op) (now : List Made) → slice_get j.ops i ≡ Some o → begins_block o ≡ false → Passed j.phase j.ops i now → Newest (here k j i) true now
newest-first k j i o now there plain passed =
    let Q : Point → Type 0 = λ (p : Point). IsPast p now in
    inr (subst Q (sym (here-is k j i (slice_get_within j.ops i o there))) (passed-here k.thread j.phase j.ops i o now there plain passed), inl refl)

-- the operation is done, and its last step is the newest
passed-op : (k : Task) (j : Job k) (i : ℕ) (now : List Made) → IsAt k j i → i < length j.ops → IsHere (here k j i) now → Passed j.phase j.ops (i + 1) now
passed-op k j i now at within h =
    let o = at.numbered within in
    let Q : Point → Type 0 = λ (p : Point). IsHere p now in
    passed-it k.thread j.phase j.ops i o.0 now o.1 o.2 (subst Q (here-is k j i within) h)

-- ---- plans begin

-- the release of a reference begins
pub drop-asks : {n : ℕ} {chain : List Frame} (k : Task) (j : Job k) (i : ℕ) (t : Thread) (held : Held) (now begin : List Made) → WorksAt k j i n t → AreIn k t.vars → IsAt k j i → Newest (here k j i) t.first now → IsHeld k.shape.slots held →
    Starts (down (extent_of k.shape) held.kind held.place held.hand) (here k j i) begin now →
    ((came : ℕ) (after : List Made) → Drops k.shape (here k j i) [] (ref (Some held)) t.hands begin came after → IsOver k j i t.vars t.made came after) → Stands k n chain (drop_begun held t) now
drop-asks {n = n} {chain = chain} k j i t held now begin works vars at newest inside starts ends =
    let plan : Plan Fall DownAnswer = down (extent_of k.shape) held.kind held.place held.hand in
    let same : plan.start ≡ drop_from held t = rw works.layout_is refl in
    under-way k j i refl works vars (at, newest) (record {
      base = begin;
      ends = ends;
      waits = waits plan (here k j i) begin now _ _ (begun-from plan (here k j i) begin now (drop_from held t) starts same);
      inside = inside;
      bare = refl;
    })

-- a reference is gained of another
pub gain-asks : {n : ℕ} {chain : List Frame} (k : Task) (j : Job k) (i : ℕ) (gain : Gain) (to from : ℕ) (t : Thread) (held : Held) (now begin : List Made) → WorksAt k j i n t → AreIn k t.vars → IsAt k j i → Newest (here k j i) t.first now →
    AreDone k j i (state_of t.vars t.made t.hands) begin → slice_get j.ops i ≡ Some (op_of gain to from) → value t.vars from ≡ Some held →
    Starts (gain_plan k gain held t.hands) (here k j i) begin now → Stands k n chain (gain_begun gain to (of_hand held) t) now
gain-asks {n = n} {chain = chain} k j i gain to from t held now begin works vars at newest done there source starts =
    let plan : Plan Rise UpAnswer = gain_plan k gain held t.hands in
    let same : plan.start ≡ gain_from gain (of_hand held) t = rw (works.layout_is, works.shape_is) refl in
    under-way k j i refl works vars (at, newest) (record {
      base = begin;
      from = from;
      done = done;
      there = there;
      source = source;
      waits = waits plan (here k j i) begin now _ _ (begun-from plan (here k j i) begin now (gain_from gain (of_hand held) t) starts same);
      inside = held-in k t.vars from held vars source;
      bare = refl;
    })

-- an access to a global begins
pub open-asks : {n : ℕ} {chain : List Frame} (k : Task) (j : Job k) (i to : ℕ) (cell : Cell) (of : OpCell) (t : Thread) (now begin : List Made) → IsCellOf k t.vars of cell.name cell.kind → WorksAt k j i n t → AreIn k t.vars → IsAt k j i → Newest (here k j i) t.first now →
    AreDone k j i (state_of t.vars t.made t.hands) begin → slice_get j.ops i ≡ Some (op.Get to of) →
    Starts (begin_access (extent_of k.shape) cell.name) (here k j i) begin now → Stands k n chain (open_begun to cell t) now
open-asks {n = n} {chain = chain} k j i to cell of t now begin cell_is works vars at newest done there starts =
    let plan : Plan Beginning BeginAnswer = begin_access (extent_of k.shape) cell.name in
    let same : plan.start ≡ open_from cell t = rw works.layout_is refl in
    under-way k j i refl works vars (at, newest) (record {
      of = of;
      cell_is = cell_is;
      base = begin;
      done = done;
      there = there;
      waits = waits plan (here k j i) begin now _ _ (begun-from plan (here k j i) begin now (open_from cell t) starts same);
      word = tt;
    })

pub set-asks : {n : ℕ} {chain : List Frame} (k : Task) (j : Job k) (i from : ℕ) (cell : Cell) (of : OpCell) (t : Thread) (now begin : List Made) → IsCellOf k t.vars of cell.name cell.kind → WorksAt k j i n t → AreIn k t.vars → IsAt k j i → Newest (here k j i) t.first now →
    AreDone k j i (state_of t.vars t.made t.hands) begin → slice_get j.ops i ≡ Some (op.Set of from) →
    Starts (set_plan k cell.name (value t.vars from) t.hands) (here k j i) begin now → Stands k n chain (set_begun from cell t) now
set-asks {n = n} {chain = chain} k j i from cell of t now begin cell_is works vars at newest done there starts =
    let plan : Plan SwapAttempt SwapAnswer = set_plan k cell.name (value t.vars from) t.hands in
    let same : plan.start ≡ swap_from cell.name (value t.vars from) t = rw (works.layout_is, word-is (value t.vars from)) refl in
    under-way k j i refl works vars (at, newest) (record {
      of = of;
      cell_is = cell_is;
      base = begin;
      done = done;
      there = there;
      waits = waits plan (here k j i) begin now _ _ (begun-from plan (here k j i) begin now (swap_from cell.name (value t.vars from) t) starts same);
      word = tt;
    })

-- ---- the end of the scope

scope-skips : {shape : HeapShape} {point : Point} {vars : Variables} {hands came : ℕ} {b ns : List Made} {v : ℕ} → ScopeEnds shape point vars hands b v came ns → (w : ℕ) → v ≤ w →
    ((u : ℕ) → v ≤ u → u < w → operations.value vars u ≡ None) → ScopeEnds shape point vars hands b w came ns
scope-skips {shape = shape} {point = point} {vars = vars} {hands = hands} {came = came} {b = b} {ns = ns} {v = v} s w least nils = go w least nils
  where
    go : (w : ℕ) → v ≤ w → ((u : ℕ) → v ≤ u → u < w → operations.value vars u ≡ None) → ScopeEnds shape point vars hands b w came ns
    go zero least nils = let same : v ≡ 0 = omega arith in subst (λ n. ScopeEnds shape point vars hands b n came ns) same s
    go (suc w) least nils = step (cases_lt w v) (λ above. go w above (λ u above below. nils u above (omega arith)))
      where
        step : (w < v) ⊎ (v ≤ w) → (v ≤ w → ScopeEnds shape point vars hands b w came ns) → ScopeEnds shape point vars hands b (suc w) came ns
        step (inl below) before = let same : v ≡ suc w = omega arith in subst (λ n. ScopeEnds shape point vars hands b n came ns) same s
        step (inr above) before =
            let Q : Option Holding → Type 0 = λ (o : Option Holding). Drops shape point [] o came ns came ns in
            let d : Drops shape point [] (operations.value vars w) came ns came ns = subst Q (sym (nils w above (omega arith))) drops_nothing in
            let one : ScopeEnds shape point vars hands b (w + 1) came ns = scope_one (before above) d in
            rw (← add-one) one

scopes : {n : ℕ} {chain : List Frame} (k : Task) (j : Job k) (i : ℕ) (t : Thread) (now : List Made) → WorksAt k j i n t → AreIn k t.vars → ltb i (length j.ops) ≡ false → Newest (here k j i) t.first now → IsInScope k j t.vars t.hands now → Stands k n chain (scope_begun t) now
scopes {n = n} {chain = chain} k j i t now works vars past newest s = go (position is_held t.vars) refl
  where
    point_is : here k j i ≡ point_of k.thread j.phase 0
    point_is = rw past refl

    at : IsAt k j i
    at = record { numbered = λ within. (let most = ltb-false i (length j.ops) past in absurd (omega arith)); scope = λ most. s.last }

    held : (v : ℕ) (h : Held) → value t.vars v ≡ Some h → v < length t.vars → ((u : ℕ) → u < v → is_held (value t.vars u) ≡ false) → Stands k n chain (drop_begun h (set_var v None t)) now
    held v h e within before = drop-asks k j i (set_var v None t) h now now works (nil-in k t.vars v vars) at newest (held-in k t.vars v h vars e) starts_first (λ came after x. rw past (over came after x))
      where
        above : s.below ≤ v
        above = go (cases_lt v s.below)
          where
            go : (v < s.below) ⊎ (s.below ≤ v) → s.below ≤ v
            go (inl below) = let n = s.nils v below in absurd (cc)
            go (inr most) = most

        others : (u : ℕ) → u < v → value t.vars u ≡ None
        others u below = not-held (value t.vars u) (before u below)

        nils : (u : ℕ) → u < v + 1 → value (set t.vars v None) u ≡ None
        nils u below = at (cases_lt u v)
          where
            at : (u < v) ⊎ (v ≤ u) → value (set t.vars v None) u ≡ None
            at (inl lower) = let differ : u ≢ v = λ e. (let same : u ≡ v = e in omega arith) in get_or-set_other t.vars v u None None differ ∙ others u lower
            at (inr upper) = let same : u ≡ v = omega arith in rw same (get_or-set_same t.vars v None None within)

        over : (came : ℕ) (after : List Made) → Drops k.shape (here k j i) [] (ref (Some h)) t.hands now came after → IsInScope k j (set t.vars v None) came after
        over came after x =
            let many : length (set t.vars v None) ≡ length t.vars = length-set t.vars v None in
            let here_is : ScopeEnds k.shape (point_of k.thread j.phase 0) s.behind.vars s.behind.hands s.worked v t.hands now =
            scope-skips s.ends v above (λ u from below. s.rest u from ∙ ap ref (others u below)) in
            let value_is : operations.value s.behind.vars v ≡ ref (Some h) = s.rest v above ∙ ap ref e in
            let P : Point → Type 0 = λ (p : Point). Drops k.shape p [] (ref (Some h)) t.hands now came after in
            let Q : Option Holding → Type 0 = λ (o : Option Holding). Drops k.shape (point_of k.thread j.phase 0) [] o t.hands now came after in
            record {
              last = s.last;
              behind = s.behind;
              worked = s.worked;
              ops = s.ops;
              count = s.count ∙ sym many;
              below = v + 1;
              within = omega arith;
              ends = scope_one here_is (subst Q (sym value_is) (subst P point_is x));
              rest = λ u from. (let differ : u ≢ v = λ e. (let same : u ≡ v = e in omega arith) in let least : s.below ≤ v = above in s.rest u (omega arith) ∙ ap ref (sym (get_or-set_other t.vars v u None None differ)));
              nils = nils;
            }

    go : (o : Option ℕ) → position is_held t.vars ≡ o → Stands k n chain (scope_at o t) now
    go None e = subst (λ (b : Bool). Stands k n chain (cond (b && ltb t.cleared t.layout.globals) (clear_begun t) (record t { doing = Ended; asked = moves.Ended })) now) (sym no_end) (record {
      job = j;
      at = i;
      phases = n;
      phased = tt;
      works = works;
      vars_in = vars;
      placed = tt;
      up_to = (
        refl,
        record {
          job = j;
          last = s.last;
          behind = s.behind;
          worked = s.worked;
          ops = s.ops;
          came = t.hands;
          scope = rw s.count (scope-skips s.ends (length t.vars) s.within (λ u from below. s.rest u from ∙ ap ref (none-held t.vars e u below)));
        },
      );
    })
      where
        no_end : eqb t.thread 0 ≡ false
        no_end = not-equal t.thread 0 (λ (z : t.thread ≡ 0). (let f = works.thread_is in let o = k.other in absurd (omega arith)))
    go (Some v) e = drop-it (value t.vars v) refl found.1
      where
        found : (v < length t.vars) × (is_held (get_or t.vars v None) ≡ true) × ((k : ℕ) → k < v → is_held (get_or t.vars k None) ≡ false)
        found = position-Some is_held t.vars v None e

        drop-it : (o : Option Held) → value t.vars v ≡ o → is_held o ≡ true → Stands k n chain (scope_drop v o t) now
        drop-it None f g = absurd (cc)
        drop-it (Some h) f g = held v h f found.0 found.2

-- ---- the next operation

-- the operations of the phase are done: the next phase is to begin, or the scope ends
phase-ends : {n : ℕ} {chain : List Frame} (k : Task) (j : Job k) (i : ℕ) (t : Thread) (now : List Made) → WorksAt k j i n t → AreIn k t.vars → i ≡ length j.ops → Passed j.phase j.ops i now → AreDone k j i (state_of t.vars t.made t.hands) now →
    Stands k n chain (phase_over t) now
phase-ends {n = n} {chain = chain} k j i t now works vars at_end passed d = go (ltb (t.phase + 1) (length t.phases)) refl
  where
    phases_are : t.phases ≡ k.decl.phases
    phases_are = works.phases_is

    done : AreDone k j (length j.ops) (state_of t.vars t.made t.hands) now
    done = rw (← at_end) d

    over : Thread
    over = record t { doing = Ready; asked = moves.PhaseEnd; phase = t.phase + 1 }

    next : ((ops : List Op) × (slice_get k.decl.phases (j.phase + 1) ≡ Some ops)) → Stands k n chain over now
    next h =
        let job : Job k = record { phase = j.phase + 1; ops = h.0; there = h.1; first = state_of t.vars t.made t.hands; base = now; before = phases_one j.before j.there done } in
        let many : ops_in_first (suc j.phase) k.decl.phases ≡ ops_in_first j.phase k.decl.phases + length j.ops = phase-next k.decl.phases j.phase j.ops j.there in
        let index : t.index ≡ ops_in_first j.phase k.decl.phases + i = works.index_is in
        let next_start : ops_in_first (j.phase + 1) k.decl.phases ≡ ops_in_first j.phase k.decl.phases + length j.ops = rw add-one many in
        record {
          job = job;
          at = 0;
          phases = n + 1;
          phased = refl;
          works = record {
            layout_is = works.layout_is;
            shape_is = works.shape_is;
            thread_is = works.thread_is;
            phases_is = works.phases_is;
            program_is = works.program_is;
            classes_are = works.classes_are;
            phase_is = ap (λ (n : ℕ). n + 1) works.phase_is;
            index_is = omega arith;
            begun_is = ap (λ (m : ℕ). m + 1) works.begun_is;
          };
          vars_in = vars;
          placed = passed-phase j.phase (j.phase + 1) j.ops h.0 i 0 now (omega arith) passed;
          up_to = (refl, ops_none);
        }

    go : (b : Bool) → ltb (t.phase + 1) (length t.phases) ≡ b → Stands k n chain (cond b over (scope_begun t)) now
    go true e =
        let below = ltb-true (t.phase + 1) (length t.phases) e in
        let same = works.phase_is in
        let many : length t.phases ≡ length k.decl.phases = ap (λ (ps : List (List Op)). length ps) phases_are in
        next (there-is k.decl.phases (j.phase + 1) (omega arith))
    go false e =
        let most = ltb-false (t.phase + 1) (length t.phases) e in
        let same = works.phase_is in
        let many : length t.phases ≡ length k.decl.phases = ap (λ (ps : List (List Op)). length ps) phases_are in
        let within = slice_get_within k.decl.phases j.phase j.ops j.there in
        let past : ltb i (length j.ops) ≡ false = over_all (ltb i (length j.ops)) refl in
        let Q : Point → Type 0 = λ (p : Point). Newest p t.first now in
        let point_is : here k j i ≡ point_of k.thread j.phase 0 = rw past refl in
        scopes k j i t now works vars past (subst Q (sym point_is) (inr (passed-scope k.thread j.phase j.ops i now passed, inr refl))) (record {
          last = omega arith;
          behind = state_of t.vars t.made t.hands;
          worked = now;
          ops = done;
          count = length-map t.vars ref;
          below = 0;
          within = omega arith;
          ends = scope_none;
          rest = λ v from. value-ref t.vars v (value t.vars v) refl;
          nils = λ v below. absurd (omega arith);
        })
      where
        over_all : (b : Bool) → ltb i (length j.ops) ≡ b → ltb i (length j.ops) ≡ false
        over_all true e = let below = ltb-true i (length j.ops) e in absurd (omega arith)
        over_all false e = e

-- a nil reference makes the variable nil, and what that held is dropped
nil-begins : {n : ℕ} {chain : List Frame} (k : Task) (j : Job k) (i : ℕ) (t : Thread) (now : List Made) → WorksAt k j i n t → AreIn k t.vars → IsAt k j i → Newest (here k j i) true now → i < length j.ops → (to : ℕ) →
    ((old : Option Held) → value t.vars to ≡ old → (came : ℕ) (after : List Made) → Drops k.shape (here k j i) [] (ref old) t.hands now came after → AreDone k j (i + 1) (state_of (set t.vars to None) t.made came) after) →
    (rest : Thread → Thread) → (AreDone k j (i + 1) (state_of t.vars t.made t.hands) now → Stands k n chain (rest (skipped answers.Nil t)) now) →
    (old : Option Held) → value t.vars to ≡ old → Stands k n chain (begun_nil to old t rest) now
nil-begins {n = n} {chain = chain} k j i t now works vars at newest within to done rest skip (Some old) e =
    drop-asks k j i (set_var to None (put answers.Nil (record t { first = true }))) old now now works (nil-in k t.vars to vars) at newest (held-in k t.vars to old vars e) starts_first
    (λ came after x. over-done k j i (set t.vars to None) t.made came after within (done (Some old) e came after x))
nil-begins {n = n} {chain = chain} k j i t now works vars at newest within to done rest skip None e =
    let same : set t.vars to None ≡ t.vars = ap (λ (o : Option Held). set t.vars to o) (sym e) ∙ set-get_or t.vars to None in
    let Q : List (Option Held) → Type 0 = λ (vs : List (Option Held)). AreDone k j (i + 1) (state_of vs t.made t.hands) now in
    skip (subst Q same (done None e t.hands now drops_nothing))

gain-forms : (gain : Gain) (to from : ℕ) → forms (op_of gain to from) ≡ Some (to, from)
gain-forms gains.Copy to from = refl
gain-forms gains.Unown to from = refl
gain-forms gains.Load to from = refl

gain-plain : (gain : Gain) (to from : ℕ) → begins_block (op_of gain to from) ≡ false
gain-plain gains.Copy to from = refl
gain-plain gains.Unown to from = refl
gain-plain gains.Load to from = refl

-- by nil none is formed
nil-formed : (k : Task) (j : Job k) (o : Op) (to from i : ℕ) (t : Thread) (now : List Made) → slice_get j.ops i ≡ Some o → forms o ≡ Some (to, from) → AreDone k j i (state_of t.vars t.made t.hands) now → value t.vars from ≡ None →
    (old : Option Held) → value t.vars to ≡ old → (came : ℕ) (after : List Made) → Drops k.shape (here k j i) [] (ref old) t.hands now came after → AreDone k j (i + 1) (state_of (set t.vars to None) t.made came) after
nil-formed k j o to from i t now there forms d e old f came after x =
    let Q : Option Holding → Type 0 = λ (o : Option Holding). Drops k.shape (here k j i) [] o t.hands now came after in
    op-done k j i o (state_of t.vars t.made t.hands) (state_of (set t.vars to None) t.made came) now after d there
    (forms_nil forms (value-ref t.vars from None e) (subst Q (sym (value-ref t.vars to old f)) x) (ap (λ (vs : Variables). record { vars = vs; made = t.made; hands = came }) (put-ref t.vars to None)))

-- a reference is formed for a variable from that in another
gains-op : {n : ℕ} {chain : List Frame} (k : Task) (j : Job k) (gain : Gain) (to from i : ℕ) (t : Thread) (now : List Made) → WorksAt k j i n t → AreIn k t.vars →
    slice_get j.ops i ≡ Some (op_of gain to from) → Passed j.phase j.ops i now → AreDone k j i (state_of t.vars t.made t.hands) now → (rest : Thread → Thread) →
    ((on : ℕ) (u : Thread) → i < on → WorksAt k j on n u → AreIn k u.vars → AreDone k j on (state_of u.vars u.made u.hands) now → Stands k n chain (rest u) now) →
    Stands k n chain (begun_gain gain to (value t.vars from) (value t.vars to) t rest) now
gains-op {n = n} {chain = chain} k j gain to from i t now works vars there passed d rest next = go (value t.vars from) refl
  where
    at : IsAt k j i
    at = is-at k j i (op_of gain to from) there (gain-plain gain to from)

    newest : Newest (here k j i) true now
    newest = newest-first k j i (op_of gain to from) now there (gain-plain gain to from) passed

    go : (source : Option Held) → value t.vars from ≡ source → Stands k n chain (begun_gain gain to source (value t.vars to) t rest) now
    go (Some h) e = gain-asks k j i gain to from (record t { first = true }) h now now works vars at newest d there e starts_first
    go None e =
        nil-begins k j i t now works vars at newest (slice_get_within j.ops i (op_of gain to from) there) to (nil-formed k j (op_of gain to from) to from i t now there (gain-forms gain to from) d e) rest
        (λ done. next (i + 1) (skipped answers.Nil t) (omega arith) (works-next k j i t works) vars done) (value t.vars to) refl

-- the operation's cell, as the stepper finds it
cell-in : {n : ℕ} (k : Task) (j : Job k) (i : ℕ) (t : Thread) (of : OpCell) → WorksAt k j i n t → cell_in k.shape (classes_here k) t.vars of ≡ cell_of of t
cell-in k j i t of works = let shape = works.shape_is in let classes = works.classes_are in rw (shape, classes) refl

-- the operation begins, and where it asks for no step, the thread goes on behind it
begins-op : {n : ℕ} {chain : List Frame} (k : Task) (j : Job k) → AreServed k.shape (classes_here k) (kinds_here k) j.ops → (o : Op) (i : ℕ) (t : Thread) (now : List Made) → WorksAt k j i n t → AreIn k t.vars →
    slice_get j.ops i ≡ Some o → Passed j.phase j.ops i now → AreDone k j i (state_of t.vars t.made t.hands) now → (rest : Thread → Thread) →
    ((on : ℕ) (u : Thread) → i < on → WorksAt k j on n u → AreIn k u.vars → AreDone k j on (state_of u.vars u.made u.hands) now → Stands k n chain (rest u) now) →
    Stands k n chain (begun_op (moved_behind (start_of k j) o) t rest) now
begins-op {n = n} {chain = chain} k j served (op.New to class) i t now works vars there passed d rest next =
    let name : ObjectName = record { class = class; thread = t.thread; number = t.made + 1 } in
    let same : record { layout = extent_of k.shape; name = name; immortal = (class_at k.shape class).immortal; at = search.Start } ≡ creation_from t name = rw (works.layout_is, works.shape_is) refl in
    under-way k j i refl works vars (is-at k j i (op.New to class) there refl, newest-first k j i (op.New to class) now there refl passed) (record {
      base = now;
      before = t.made;
      held = t.hands;
      done = d;
      there = there;
      named = rw works.thread_is refl;
      waits = waits (new_object (extent_of k.shape) (class_at k.shape class).immortal name (t.hands + 1)) (here k j i) now now _ _
          (begun-from (new_object (extent_of k.shape) (class_at k.shape class).immortal name (t.hands + 1)) (here k j i) now now (creation_from t name) starts_first same);
      count = (refl, refl);
    })
begins-op {n = n} {chain = chain} k j served (op.Copy to from) i t now works vars there passed d rest next = gains-op k j gains.Copy to from i t now works vars there passed d rest next
begins-op {n = n} {chain = chain} k j served (op.Unown to of) i t now works vars there passed d rest next = gains-op k j gains.Unown to of i t now works vars there passed d rest next
begins-op {n = n} {chain = chain} k j served (op.Load to of) i t now works vars there passed d rest next = gains-op k j gains.Load to of i t now works vars there passed d rest next
begins-op {n = n} {chain = chain} k j served (op.Move to from) i t now works vars there passed d rest next = moving (value t.vars from) refl (λ e.
    next (i + 1) (skipped answers.Nil t) (omega arith) (works-next k j i t works) vars e) (λ h e x.
    next (i + 1) (moved to from h (skipped answers.Ok t)) (omega arith) (works-next k j i t works) (moved-in h e) x)
  where
    within : i < length j.ops
    within = slice_get_within j.ops i (op.Move to from) there

    at : IsAt k j i
    at = is-at k j i (op.Move to from) there refl

    newest : Newest (here k j i) true now
    newest = newest-first k j i (op.Move to from) now there refl passed

    moved-in : (h : Held) → value t.vars from ≡ Some h → AreIn k (set (set t.vars to (Some h)) from None)
    moved-in h e =
        nil-in k (set t.vars to (Some h)) from
        (one-in k t.vars to h (held-in k t.vars from h vars e) (vars.kinds from h e ∙ sym (served.kinds_fit i (op.Move to from) there)) vars)

    nil_done : value t.vars from ≡ None → (old : Option Held) → value t.vars to ≡ old → (came : ℕ) (after : List Made) → Drops k.shape (here k j i) [] (ref old) t.hands now came after →
        AreDone k j (i + 1) (state_of (set t.vars to None) t.made came) after
    nil_done e old f came after x =
        let Q : Option Holding → Type 0 = λ (o : Option Holding). Drops k.shape (here k j i) [] o t.hands now came after in
        op-done k j i (op.Move to from) (state_of t.vars t.made t.hands) (state_of (set t.vars to None) t.made came) now after d there
        (moves_nil (value-ref t.vars from None e) (subst Q (sym (value-ref t.vars to old f)) x) (ap (λ (vs : Variables). record { vars = vs; made = t.made; hands = came }) (put-ref t.vars to None)))

    moved_done : (h : Held) → value t.vars from ≡ Some h → (old : Option Held) → value t.vars to ≡ old → (came : ℕ) (after : List Made) → Drops k.shape (here k j i) [] (ref old) t.hands now came after →
        AreDone k j (i + 1) (state_of (set (set t.vars to (Some h)) from None) t.made came) after
    moved_done h e old f came after x =
        let Q : Option Holding → Type 0 = λ (o : Option Holding). Drops k.shape (here k j i) [] o t.hands now came after in
        let vars_are : refs (set (set t.vars to (Some h)) from None) ≡ operations.put (operations.put (refs t.vars) to (ref (Some h))) from None =
        put-ref (set t.vars to (Some h)) from None ∙ ap (λ (vs : Variables). operations.put vs from None) (put-ref t.vars to (Some h)) in
        op-done k j i (op.Move to from) (state_of t.vars t.made t.hands) (state_of (set (set t.vars to (Some h)) from None) t.made came) now after d there
        (does_move (value-ref t.vars from (Some h) e) (subst Q (sym (value-ref t.vars to old f)) x) (ap (λ (vs : Variables). record { vars = vs; made = t.made; hands = came }) vars_are))

    moving : (source : Option Held) → value t.vars from ≡ source → (AreDone k j (i + 1) (state_of t.vars t.made t.hands) now → Stands k n chain (rest (skipped answers.Nil t)) now) →
        ((h : Held) → value t.vars from ≡ Some h → AreDone k j (i + 1) (state_of (set (set t.vars to (Some h)) from None) t.made t.hands) now → Stands k n chain (rest (moved to from h (skipped answers.Ok t))) now) →
        Stands k n chain (begun_move to from source (value t.vars to) t rest) now
    moving None e skip on = nil-begins k j i t now works vars at newest within to (nil_done e) rest skip (value t.vars to) refl
    moving (Some h) e skip on = dropping (value t.vars to) refl
      where
        dropping : (old : Option Held) → value t.vars to ≡ old → Stands k n chain (begun_move to from (Some h) old t rest) now
        dropping None f = on h e (moved_done h e None f t.hands now drops_nothing)
        dropping (Some old) f =
            drop-asks k j i (moved to from h (put answers.Ok (record t { first = true }))) old now now works (moved-in h e) at newest (held-in k t.vars to old vars f) starts_first
            (λ came after x. over-done k j i (set (set t.vars to (Some h)) from None) t.made came after within (moved_done h e (Some old) f came after x))
begins-op {n = n} {chain = chain} k j served (op.Drop v) i t now works vars there passed d rest next = dropping (value t.vars v) refl (λ e.
    next (i + 1) (skipped answers.Nil t) (omega arith) (works-next k j i t works) vars (stays e))
  where
    within : i < length j.ops
    within = slice_get_within j.ops i (op.Drop v) there

    at : IsAt k j i
    at = is-at k j i (op.Drop v) there refl

    newest : Newest (here k j i) true now
    newest = newest-first k j i (op.Drop v) now there refl passed

    dropped : (old : Option Held) → value t.vars v ≡ old → (came : ℕ) (after : List Made) → Drops k.shape (here k j i) [] (ref old) t.hands now came after →
        AreDone k j (i + 1) (state_of (set t.vars v None) t.made came) after
    dropped old f came after x =
        let Q : Option Holding → Type 0 = λ (o : Option Holding). Drops k.shape (here k j i) [] o t.hands now came after in
        op-done k j i (op.Drop v) (state_of t.vars t.made t.hands) (state_of (set t.vars v None) t.made came) now after d there
        (does_drop (subst Q (sym (value-ref t.vars v old f)) x) (ap (λ (vs : Variables). record { vars = vs; made = t.made; hands = came }) (put-ref t.vars v None)))

    stays : value t.vars v ≡ None → AreDone k j (i + 1) (state_of t.vars t.made t.hands) now
    stays f =
        let same : set t.vars v None ≡ t.vars = ap (λ (o : Option Held). set t.vars v o) (sym f) ∙ set-get_or t.vars v None in
        let Q : List (Option Held) → Type 0 = λ (vs : List (Option Held)). AreDone k j (i + 1) (state_of vs t.made t.hands) now in
        subst Q same (dropped None f t.hands now drops_nothing)

    dropping : (old : Option Held) → value t.vars v ≡ old → (value t.vars v ≡ None → Stands k n chain (rest (skipped answers.Nil t)) now) →
        Stands k n chain (begun_drop v old t rest) now
    dropping (Some old) e skip =
        drop-asks k j i (set_var v None (put answers.Ok (record t { first = true }))) old now now works (nil-in k t.vars v vars) at newest (held-in k t.vars v old vars e) starts_first
        (λ came after x. over-done k j i (set t.vars v None) t.made came after within (dropped (Some old) e came after x))
    dropping None e skip = skip e
begins-op {n = n} {chain = chain} k j served (op.Weak to of) i t now works vars there passed d rest next = absurd (all-there IsServedOp j.ops i (op.Weak to of) served.served there)
begins-op {n = n} {chain = chain} k j served (op.Get to of) i t now works vars there passed d rest next = subst Begun (cell-in k j i t of works) (go (cell_in k.shape (classes_here k) t.vars of) refl)
  where
    Begun : Option Cell → Type 0
    Begun cell = Stands k n chain (begun_get to cell (value t.vars to) t rest) now

    at : IsAt k j i
    at = is-at k j i (op.Get to of) there refl

    newest : Newest (here k j i) true now
    newest = newest-first k j i (op.Get to of) now there refl passed

    go : (cell : Option Cell) → cell_in k.shape (classes_here k) t.vars of ≡ cell → Begun cell
    go (Some cell) is =
        open-asks k j i to cell of (record t { first = true }) now now (cell-is k served t.vars vars of (served.cells_fit i (op.Get to of) there) cell is) works vars at newest d there starts_first
    go None is =
        let nil = owner-is k.shape (classes_here k) t.vars to of is in
        nil-begins k j i t now works vars at newest (slice_get_within j.ops i (op.Get to of) there) to (nil-formed k j (op.Get to of) to nil.0 i t now there nil.1 d nil.2) rest
        (λ done. next (i + 1) (skipped answers.Nil t) (omega arith) (works-next k j i t works) vars done) (value t.vars to) refl
begins-op {n = n} {chain = chain} k j served (op.Set of from) i t now works vars there passed d rest next = subst Begun (cell-in k j i t of works) (go (cell_in k.shape (classes_here k) t.vars of) refl)
  where
    Begun : Option Cell → Type 0
    Begun cell = Stands k n chain (begun_set from cell t rest) now

    go : (cell : Option Cell) → cell_in k.shape (classes_here k) t.vars of ≡ cell → Begun cell
    go (Some cell) is =
        set-asks k j i from cell of (record t { first = true }) now now (cell-is k served t.vars vars of (served.cells_fit i (op.Set of from) there) cell is) works vars
        (is-at k j i (op.Set of from) there refl) (newest-first k j i (op.Set of from) now there refl passed) d there starts_first
    go None is =
        next (i + 1) (skipped answers.Nil t) (omega arith) (works-next k j i t works) vars
        (op-done k j i (op.Set of from) (state_of t.vars t.made t.hands) (state_of t.vars t.made t.hands) now now d there (sets_nil (no-cell k.shape (classes_here k) t.vars of is) refl))
begins-op {n = n} {chain = chain} k j served (op.IfNil v past) i t now works vars there passed d rest next = go (is_held (value t.vars v)) refl
  where
    go : (b : Bool) → is_held (value t.vars v) ≡ b → Stands k n chain (rest (record t { index = cond b (start_of k j + past) (t.index + 1) })) now
    go true e =
        next past (record t { index = start_of k j + past }) (served.forth i (op.IfNil v past) there).0 (works-at k j i past t (start_of k j + past) works refl) vars
        (ops_block d there refl (ap (λ (b : Bool). cond b past (i + 1)) (sym e ∙ sym (block-is t.vars v))) (served.forth i (op.IfNil v past) there).0)
    go false e =
        next (i + 1) (record t { index = t.index + 1 }) (omega arith) (works-next k j i t works) vars
        (ops_block d there refl (ap (λ (b : Bool). cond b past (i + 1)) (sym e ∙ sym (block-is t.vars v))) (omega arith))
begins-op {n = n} {chain = chain} k j served (op.IfSome v past) i t now works vars there passed d rest next = go (is_held (value t.vars v)) refl
  where
    go : (b : Bool) → is_held (value t.vars v) ≡ b → Stands k n chain (rest (record t { index = cond b (t.index + 1) (start_of k j + past) })) now
    go true e =
        next (i + 1) (record t { index = t.index + 1 }) (omega arith) (works-next k j i t works) vars
        (ops_block d there refl (ap (λ (b : Bool). cond b (i + 1) past) (sym e ∙ sym (block-is t.vars v))) (omega arith))
    go false e =
        next past (record t { index = start_of k j + past }) (served.forth i (op.IfSome v past) there).0 (works-at k j i past t (start_of k j + past) works refl) vars
        (ops_block d there refl (ap (λ (b : Bool). cond b (i + 1) past) (sym e ∙ sym (block-is t.vars v))) (served.forth i (op.IfSome v past) there).0)

-- the first operation of the rest that asks for a step begins, or the phase is over
pub begins : {n : ℕ} {chain : List Frame} (k : Task) (j : Job k) → AreServed k.shape (classes_here k) (kinds_here k) j.ops → (rest : List Op) (place at i : ℕ) (t : Thread) (now : List Made) → WorksAt k j i n t → AreIn k t.vars →
    place ≡ start_of k j + at → at ≤ i → rest ≡ drop at (moved-ops k j) → Passed j.phase j.ops i now → AreDone k j i (state_of t.vars t.made t.hands) now → Stands k n chain (begun_at place rest t) now
begins {n = n} {chain = chain} k j served [] place at i t now works vars place_is least r passed d =
    let within = done-within served d in
    let most : length (moved-ops k j) ≤ at = nothing-left (moved-ops k j) at r in
    let long : length (moved-ops k j) ≡ length j.ops = length-map j.ops (moved_behind (start_of k j)) in
    phase-ends k j i t now works vars (omega arith) passed d
begins {n = n} {chain = chain} k j served (o ∷ rest) place at i t now works vars place_is least r passed d =
    go (λ on u further past works_on vars_on done. begins k j served rest (place + 1) (at + 1) on u now works_on vars_on (omega (arith, place_is)) past (get-drop (moved-ops k j) rest at o r).1 (passed-on j.phase j.ops i on now further passed) done) (ltb place t.index) refl
  where
    go : ((on : ℕ) (u : Thread) → i ≤ on → at + 1 ≤ on → WorksAt k j on n u → AreIn k u.vars → AreDone k j on (state_of u.vars u.made u.hands) now → Stands k n chain (begun_at (place + 1) rest u) now) →
        (b : Bool) → ltb place t.index ≡ b → Stands k n chain (cond b (begun_at (place + 1) rest t) (begun_op o t (λ (behind : Thread). begun_at (place + 1) rest behind))) now
    go next true e =
        let below = ltb-true place t.index e in
        let index = works.index_is in
        next i t (omega arith) (omega (arith, below, index, place_is)) works vars d
    go next false e =
        let past = ltb-false place t.index e in
        let index = works.index_is in
        let here_is : at ≡ i = omega (arith, past, index, place_is, least) in
        let there : slice_get (moved-ops k j) at ≡ Some o = (get-drop (moved-ops k j) rest at o r).0 in
        let x = in-map (moved_behind (start_of k j)) (slice_get j.ops at) o (sym (slice_get-map (moved_behind (start_of k j)) j.ops at) ∙ there) in
        let Q : Op → Type 0 = λ (y : Op). Stands k n chain (begun_op y t (λ (behind : Thread). begun_at (place + 1) rest behind)) now in
        subst Q x.2 (begins-op k j served x.0 i t now works vars (ap (λ (m : ℕ). slice_get j.ops m) (sym here_is) ∙ x.1) passed d (λ (behind : Thread). begun_at (place + 1) rest behind)
        (λ on u further. next on u (omega (arith, further)) (omega (arith, further, here_is))))

-- ---- what was under way is over

-- where the stepper is in its program
pub program-many : {n : ℕ} (k : Task) (j : Job k) (i : ℕ) (t : Thread) → WorksAt k j i n t → i < length j.ops → ltb t.index (length t.program) ≡ true
program-many {n = n} k j i t works within =
    let next = phase-next k.decl.phases j.phase j.ops j.there in
    let few = first_few (suc j.phase) k.decl.phases in
    let many : length t.program ≡ length (all-ops k.decl.phases) = ap (λ (os : List Op). length os) works.program_is ∙ length_in_one 0 k.decl.phases in
    let index : t.index ≡ ops_in_first j.phase k.decl.phases + i = works.index_is in
    lt-ltb t.index (length t.program) (omega arith)

pub program-over : {n : ℕ} (k : Task) (j : Job k) (i : ℕ) (t : Thread) → WorksAt k j i n t → length j.ops ≤ i → j.phase + 1 ≡ length k.decl.phases → ltb t.index (length t.program) ≡ false
program-over {n = n} k j i t works most last = go (ltb t.index (length t.program)) refl
  where
    go : (b : Bool) → ltb t.index (length t.program) ≡ b → ltb t.index (length t.program) ≡ false
    go false e = e
    go true e =
        let below = ltb-true t.index (length t.program) e in
        let next = phase-next k.decl.phases j.phase j.ops j.there in
        let whole = first_all (suc j.phase) k.decl.phases (omega arith) in
        let many : length t.program ≡ length (all-ops k.decl.phases) = ap (λ (os : List Op). length os) works.program_is ∙ length_in_one 0 k.decl.phases in
        let index : t.index ≡ ops_in_first j.phase k.decl.phases + i = works.index_is in
        absurd (omega arith)

pub goes-on : {n : ℕ} {chain : List Frame} (k : Task) (j : Job k) → AreServed k.shape (classes_here k) (kinds_here k) j.ops → (i : ℕ) (t : Thread) (now : List Made) → WorksAt k j i n t → AreIn k t.vars → IsAt k j i → IsHere (here k j i) now → t.first ≡ false → IsOver k j i t.vars t.made t.hands now → Stands k n chain (next_op t) now
goes-on {n = n} {chain = chain} k j served i t now works vars at newest first over = go (ltb i (length j.ops)) refl over
  where
    At : Bool → Type 0
    At b = Stands k n chain (begun (record t { doing = Ended; index = cond b (t.index + 1) t.index })) now

    go : (b : Bool) → ltb i (length j.ops) ≡ b → IsOverIf b k j i t.vars t.made t.hands now → Stands k n chain (next_op t) now
    go true e over =
        let rest : drop (t.index + 1) (take (ops_in_first (t.phase + 1) t.phases) t.program) ≡ drop (i + 1) (moved-ops k j) =
        rest-is k j (i + 1) t.phases t.program t.phase (t.index + 1) works.phases_is works.program_is works.phase_is (works-next k j i t works).index_is in
        subst At (sym (program-many k j i t works (ltb-true i (length j.ops) e)))
        (begins k j served (drop (t.index + 1) (take (ops_in_first (t.phase + 1) t.phases) t.program)) (t.index + 1) (i + 1) (i + 1) (record t { doing = Ended; index = t.index + 1 }) now (works-next k j i t works) vars
        (works-next k j i t works).index_is (omega arith) rest (passed-op k j i now at (ltb-true i (length j.ops) e) newest) over)
    go false e over =
        let past = ltb-false i (length j.ops) e in
        let rest : drop t.index (take (ops_in_first (t.phase + 1) t.phases) t.program) ≡ drop i (moved-ops k j) = rest-is k j i t.phases t.program t.phase t.index works.phases_is works.program_is works.phase_is works.index_is in
        let long : length (moved-ops k j) ≡ length j.ops = length-map j.ops (moved_behind (start_of k j)) in
        let none : drop i (moved-ops k j) ≡ [] = drop_all i (moved-ops k j) (omega (arith, past, long)) in
        let last : j.phase + 1 ≡ length k.decl.phases = over.last in
        let same : t.phase ≡ j.phase = works.phase_is in
        let many : length t.phases ≡ length k.decl.phases = ap (λ (ps : List (List Op)). length ps) works.phases_is in
        let Q : List Op → Type 0 = λ (os : List Op). Stands k n chain (begun_at t.index os (record t { doing = Ended; index = t.index })) now in
        let R : Bool → Type 0 = λ (b : Bool). Stands k n chain (cond b (record t { doing = Ready; asked = moves.PhaseEnd; phase = t.phase + 1; index = t.index }) (scope_begun (record t { doing = Ended; index = t.index }))) now in
        let no_more : ltb (t.phase + 1) (length t.phases) ≡ false = not_below (ltb (t.phase + 1) (length t.phases)) refl (omega arith) in
        subst At (sym (program-over k j i t works past last))
        (subst Q (sym (rest ∙ none)) (subst R (sym no_more) (scopes k j i (record t { doing = Ended; index = t.index }) now works vars e (inl (newest, first)) over)))
      where
        not_below : (b : Bool) → ltb (t.phase + 1) (length t.phases) ≡ b → length t.phases ≤ t.phase + 1 → ltb (t.phase + 1) (length t.phases) ≡ false
        not_below false e most = e
        not_below true e most = let below = ltb-true (t.phase + 1) (length t.phases) e in absurd (omega arith)

-- the destination has its new value, and what it held is dropped last
pub replaces : {n : ℕ} {chain : List Frame} (k : Task) (j : Job k) → AreServed k.shape (classes_here k) (kinds_here k) j.ops → (i : ℕ) (t : Thread) (to : ℕ) (new : Option Held) (now : List Made) → WorksAt k j i n t → AreIn k t.vars → IsAt k j i → IsHere (here k j i) now → t.first ≡ false → AreIn k (set t.vars to new) → i < length j.ops →
    ((came : ℕ) (after : List Made) → Drops k.shape (here k j i) [] (operations.value (refs t.vars) to) t.hands now came after → AreDone k j (i + 1) (state_of (set t.vars to new) t.made came) after) →
    Stands k n chain (replaced to new t) now
replaces {n = n} {chain = chain} k j served i t to new now works vars at newest first inside within ends = go (value t.vars to) refl
  where
    over : (o : Option Held) → value t.vars to ≡ o → (came : ℕ) (after : List Made) → Drops k.shape (here k j i) [] (ref o) t.hands now came after → IsOver k j i (set t.vars to new) t.made came after
    over o e came after x =
        let Q : Option Holding → Type 0 = λ (r : Option Holding). Drops k.shape (here k j i) [] r t.hands now came after in
        over-done k j i (set t.vars to new) t.made came after within (ends came after (subst Q (sym (value-ref t.vars to o e)) x))

    go : (o : Option Held) → value t.vars to ≡ o → Stands k n chain (replaced_old o (set_var to new t)) now
    go None e = goes-on k j served i (set_var to new t) now works inside at newest first (over None e t.hands now drops_nothing)
    go (Some old) e = drop-asks k j i (set_var to new t) old now now works inside at (inl (newest, first)) (held-in k t.vars to old vars e) starts_first (over (Some old) e)
