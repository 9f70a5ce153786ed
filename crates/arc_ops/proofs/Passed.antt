-- How the operations of a phase begin: those that ask for no step are passed, and the first one that asks begins.
use Rattle.std.proofs.Common.{◌≡◌, ℕ, zero, suc, ◌+◌, ◌-◌, ◌<◌, ◌≤◌, Bool, true, false, cond, List, [], ◌∷◌, length, map, take, drop, get_or, Option, Some, None, refl, sym, ap, subst, ◌∙◌, add-one, le_of_eq, arith}
use Rattle.std.proofs.lemmas.List.{length-map, get_or-map, length-take-le, get_or-take, get_or_default}
use Rattle.std.proofs.lemmas.List.Elements.{All-get_or}
use Rattle.std.proofs.lemmas.Bool.{lt-ltb, le-ltb}
use Rattle.std.proofs.lemmas.Option.{slice_get_within, get_or_from_slice_get}
use Rattle.std.proofs.Math.Seq.{drop-cons}
use Rattle.std.specs.Prelude.{slice_get, slice_index_or, All, ◌||◌}
use Rattle.arc_model.specs.Ranges.{FieldsFit}
use Rattle.arc_model.specs.Shapes.{ObjectClass, class_at}
use Rattle.arc_model.specs.declared.shape.Kind.TheVariants.{Strong}
use Rattle.arc_model.specs.declared.answer.Answer.{Answer}
use Rattle.arc_side.specs.Inline.{IsCountedInline}
use Rattle.arc_script.specs.Valid.{ref_at}
use Rattle.arc_script.specs.declared.script.VarDecl.{VarDecl}
use Rattle.arc_script.specs.declared.script.OpCell.{OpCell}
use Rattle.arc_script.specs.declared.script.OpCell.TheVariants as opcell
use Rattle.arc_script.specs.declared.script.Op.{Op}
use Rattle.arc_script.specs.declared.script.Op.TheVariants as op
use Rattle.arc_ops.specs.declared.gain.Gain.{Gain}
use Rattle.arc_ops.specs.declared.gain.Gain.TheVariants as gains
use Rattle.arc_ops.specs.declared.stepper.Held.{Held}
use Rattle.arc_served.specs.Kept.{Kept, with_line}
use Rattle.arc_served.specs.Programs.{VarsFit, HasCell, GoesForth, class_of, ordinal}
use Rattle.arc_served.specs.Served.{IsServedRef, IsServedClass}
use Rattle.arc_ops.specs.Thread.{Thread, value, is_held}
use Rattle.arc_ops.specs.Plans.{op_of}
use Rattle.arc_ops.specs.Cells.{field_of, cell_of}
use Rattle.arc_ops.specs.declared.cell.Cell.{Cell}
use Rattle.arc_ops.specs.Begins.{asks, is_there, block_goes_on, at_place, begun, begun_at, begun_nil, begun_gain, begun_move, begun_get, begun_set, begun_op, phase_end, skipped}
use Rattle.arc_ops.specs.Steppers.{IsStepper, IsHeld, HeldFits, IsCell}

-- what an operation does that asks for no step, whatever goes on behind it
abbrev pub IsDoneAtOnce : Op → (vars new : List (Option Held)) → Answer → Type 0
IsDoneAtOnce o vars new answer = (t : Thread) (rest : Thread → Thread) → t.vars ≡ vars → begun_op o t rest ≡ rest (record (skipped answer t) { vars = new })

-- what holds of each operation holds of this one
pub there_fits : (P : Op → Type 0) (program : List Op) (at : ℕ) (o : Op) → slice_get program at ≡ Some o → All P program → P o
there_fits P program at o here all = subst P (get_or_from_slice_get program at o o here) (All-get_or P program at o (slice_get_within program at o here) all)

-- the rest of a phase, from an operation of the phase
pub rest_from : (program : List Op) (end at : ℕ) (o : Op) → at < end → end ≤ length program → slice_get program at ≡ Some o → drop at (take end program) ≡ o ∷ drop (at + 1) (take end program)
rest_from program end at o below within here =
    rw add-one (drop-cons (take end program) at o (rw (length-take-le end program within) below) ∙ ap (λ x. x ∷ drop (suc at) (take end program)) (get_or-take end program at o below ∙ get_or_from_slice_get program at o o here))

-- where the thread stands at an operation, that operation begins
here_begun : (at : ℕ) (o : Op) (ops : List Op) (t : Thread) → t.index ≡ at → begun_at at (o ∷ ops) t ≡ begun_op o t (λ behind. begun_at (at + 1) ops behind)
here_begun at o ops t place = ap (λ b. cond b (begun_at (at + 1) ops t) (begun_op o t (λ behind. begun_at (at + 1) ops behind))) (le-ltb at t.index (le_of_eq place))

pub begun_behind : (program : List Op) (end at : ℕ) (o : Op) (vars new : List (Option Held)) (answer : Answer) (kept : Kept) → at < end → end ≤ length program → slice_get program at ≡ Some o → IsDoneAtOnce o vars new answer →
    (t : Thread) → t.program ≡ program → phase_end t ≡ end →
    begun (record t { index = at; vars = vars; kept = kept }) ≡ begun (record t { index = at + 1; vars = new; kept = with_line (record { operation = ordinal program at; answer = answer }) kept })
begun_behind program end at o vars new answer kept below within here done t program_is end_is =
    ap (λ ops. begun_at at ops (record t { index = at; vars = vars; kept = kept })) rest
    ∙ here_begun at o (drop (at + 1) (take (phase_end t) t.program)) (record t { index = at; vars = vars; kept = kept }) refl
    ∙ done (record t { index = at; vars = vars; kept = kept }) (λ behind. begun_at (at + 1) (drop (at + 1) (take (phase_end t) t.program)) behind) refl
    ∙ ap (λ (p : List Op). begun (record t { index = at + 1; vars = new; kept = with_line (record { operation = ordinal p at; answer = answer }) kept })) program_is
  where
    rest : drop at (take (phase_end t) t.program) ≡ o ∷ drop (at + 1) (take (phase_end t) t.program)
    rest = rw (end_is, program_is) (rest_from program end at o below within here)

-- ---- blocks

-- operations that the thread has gone past are passed over
passes : (ops : List Op) (j k n : ℕ) (t : Thread) → j + k ≡ n → t.index ≡ n → n ≤ length ops → begun_at j (drop j ops) t ≡ begun_at n (drop n ops) t
passes ops j zero n t sum place within = let same : j ≡ n = omega (arith, sum) in ap (λ (m : ℕ). begun_at m (drop m ops) t) same
passes ops j (suc k) n t sum place within = go ops refl (passes ops (j + 1) k n t (omega (arith, sum)) place within)
  where
    past : j < t.index
    past = omega (arith, sum, place)

    go : (xs : List Op) → xs ≡ ops → begun_at (j + 1) (drop (j + 1) ops) t ≡ begun_at n (drop n ops) t → begun_at j (drop j ops) t ≡ begun_at n (drop n ops) t
    go [] e further = let none = ap length e in absurd (omega (arith, none, sum, within))
    go (x ∷ xs) e further =
        let next : drop j ops ≡ get_or ops j x ∷ drop (j + 1) ops = rw add-one (drop-cons ops j x (omega (arith, sum, within))) in
        ap (λ rest. begun_at j rest t) next
        ∙ ap (λ b. cond b (begun_at (j + 1) (drop (j + 1) ops) t) (begun_op (get_or ops j x) t (λ behind. begun_at (j + 1) (drop (j + 1) ops) behind))) (lt-ltb j t.index past)
        ∙ further

some_place : (a b : ℕ) → Path (Option ℕ) (Some a) (Some b) → a ≡ b
some_place a b e = cc

-- a block's place is behind its beginning and within the phase
pub goes_forth : (vars : List (Option Held)) (at end on : ℕ) (o : Op) → at < end → GoesForth at end o → block_goes_on vars at o ≡ Some on → (at < on) × (on ≤ end)
goes_forth vars at end on (op.New to class) below g e = absurd (cc)
goes_forth vars at end on (op.Copy to from) below g e = absurd (cc)
goes_forth vars at end on (op.Move to from) below g e = absurd (cc)
goes_forth vars at end on (op.Drop v) below g e = absurd (cc)
goes_forth vars at end on (op.Unown to of) below g e = absurd (cc)
goes_forth vars at end on (op.Weak to of) below g e = absurd (cc)
goes_forth vars at end on (op.Load to of) below g e = absurd (cc)
goes_forth vars at end on (op.Get to c) below g e = absurd (cc)
goes_forth vars at end on (op.Set c from) below g e = absurd (cc)
goes_forth vars at end on (op.IfNil v to) below g e = go (is_held (value vars v)) e
  where
    go : (b : Bool) → Path (Option ℕ) (Some (cond b to (at + 1))) (Some on) → (at < on) × (on ≤ end)
    go true e = let s = some_place to on e in let x = g.0 in let y = g.1 in (omega (arith, s, x), omega (arith, s, y))
    go false e = let s = some_place (at + 1) on e in (omega (arith, s), omega (arith, s, below))
goes_forth vars at end on (op.IfSome v to) below g e = go (is_held (value vars v)) e
  where
    go : (b : Bool) → Path (Option ℕ) (Some (cond b (at + 1) to)) (Some on) → (at < on) × (on ≤ end)
    go false e = let s = some_place to on e in let x = g.0 in let y = g.1 in (omega (arith, s, x), omega (arith, s, y))
    go true e = let s = some_place (at + 1) on e in (omega (arith, s), omega (arith, s, below))

pub block_begun : (o : Op) (on : ℕ) (t : Thread) (rest : Thread → Thread) → block_goes_on t.vars t.index o ≡ Some on → begun_op o t rest ≡ rest (record t { index = on })
block_begun (op.New to class) on t rest e = absurd (cc)
block_begun (op.Copy to from) on t rest e = absurd (cc)
block_begun (op.Move to from) on t rest e = absurd (cc)
block_begun (op.Drop v) on t rest e = absurd (cc)
block_begun (op.Unown to of) on t rest e = absurd (cc)
block_begun (op.Weak to of) on t rest e = absurd (cc)
block_begun (op.Load to of) on t rest e = absurd (cc)
block_begun (op.Get to c) on t rest e = absurd (cc)
block_begun (op.Set c from) on t rest e = absurd (cc)
block_begun (op.IfNil v to) on t rest e = ap (λ (p : Option ℕ). rest (at_place p t)) e
block_begun (op.IfSome v to) on t rest e = ap (λ (p : Option ℕ). rest (at_place p t)) e

-- the thread comes to a block
pub begun_at_block : (program : List Op) (end at on : ℕ) (o : Op) (vars : List (Option Held)) (kept : Kept) → at < end → end ≤ length program → slice_get program at ≡ Some o → GoesForth at end o → block_goes_on vars at o ≡ Some on →
    (t : Thread) → t.program ≡ program → phase_end t ≡ end → begun (record t { index = at; vars = vars; kept = kept }) ≡ begun (record t { index = on; vars = vars; kept = kept })
begun_at_block program end at on o vars kept below within here forth goes t program_is end_is =
    ap (λ ops. begun_at at ops (record t { index = at; vars = vars; kept = kept })) rest
    ∙ here_begun at o (drop (at + 1) (take (phase_end t) t.program)) (record t { index = at; vars = vars; kept = kept }) refl
    ∙ block_begun o on (record t { index = at; vars = vars; kept = kept }) (λ behind. begun_at (at + 1) (drop (at + 1) (take (phase_end t) t.program)) behind) goes
    ∙ passes (take (phase_end t) t.program) (at + 1) (on - (at + 1)) on (record t { index = on; vars = vars; kept = kept }) (omega (arith, place)) refl (omega (arith, place, long))
  where
    rest : drop at (take (phase_end t) t.program) ≡ o ∷ drop (at + 1) (take (phase_end t) t.program)
    rest = rw (end_is, program_is) (rest_from program end at o below within here)

    place : (at < on) × (on ≤ end)
    place = goes_forth vars at end on o below forth goes

    long : length (take (phase_end t) t.program) ≡ end
    long = rw (end_is, program_is) (length-take-le end program within)

-- the stepper begins where an operation of its phase asks for a step
pub begun_from : (t new : Thread) (o : Op) (i end : ℕ) (vars : List (Option Held)) (kept : Kept) → end ≡ phase_end t → end ≤ length t.program → i < end → slice_get t.program i ≡ Some o →
    ((u : Thread) → u.program ≡ t.program → phase_end u ≡ end → begun (record u { index = t.index; vars = t.vars; kept = t.kept }) ≡ begun (record u { index = i; vars = vars; kept = kept })) →
    ((rest : Thread → Thread) → new ≡ begun_op o (record t { index = i; vars = vars; kept = kept }) rest) → new ≡ begun t
begun_from t new o i end vars kept end_is within below here same begins =
    begins (λ behind. begun_at (i + 1) (drop (i + 1) (take (phase_end t) t.program)) behind)
    ∙ sym (here_begun i o (drop (i + 1) (take (phase_end t) t.program)) (record t { index = i; vars = vars; kept = kept }) refl)
    ∙ ap (λ ops. begun_at i ops (record t { index = i; vars = vars; kept = kept })) (sym rest)
    ∙ sym (same t refl (sym end_is))
  where
    rest : drop i (take (phase_end t) t.program) ≡ o ∷ drop (i + 1) (take (phase_end t) t.program)
    rest = let P : ℕ → Type 0 = λ e. drop i (take e t.program) ≡ o ∷ drop (i + 1) (take e t.program) in subst P end_is (rest_from t.program end i o below within here)

-- the operation that is next names variables that there are
pub fits_at : (t : Thread) (o : Op) → IsStepper t → slice_get t.program t.index ≡ Some o → VarsFit (length t.vars) o
fits_at t o s here =
    subst (VarsFit (length t.vars)) (get_or_from_slice_get t.program t.index o o here)
    (All-get_or (VarsFit (length t.vars)) t.program t.index o (slice_get_within t.program t.index o here) s.vars_fit)

-- a nil reference is taken for a variable that holds one
nil_begun : (to : ℕ) (old : Option Held) (t : Thread) (rest : Thread → Thread) → is_held old ≡ true → begun_nil to old (record t { first = true }) rest ≡ begun_nil to old t rest
nil_begun to None t rest e = absurd (cc)
nil_begun to (Some old) t rest e = refl

move_begun : (to from : ℕ) (held : Held) (old : Option Held) (t : Thread) (rest : Thread → Thread) → is_held old ≡ true → begun_move to from (Some held) old (record t { first = true }) rest ≡ begun_move to from (Some held) old t rest
move_begun to from held None t rest e = absurd (cc)
move_begun to from held (Some old) t rest e = refl

-- a reference is gained for a variable by that in another one
gain_first : (gain : Gain) (to : ℕ) (from old : Option Held) (t : Thread) (rest : Thread → Thread) → (is_held from || is_held old) ≡ true → begun_gain gain to from old (record t { first = true }) rest ≡ begun_gain gain to from old t rest
gain_first gain to (Some held) old t rest e = refl
gain_first gain to None old t rest e = nil_begun to old t rest e

pub gain_of : (gain : Gain) (t new : Thread) (o : Op) (to from : ℕ) → o ≡ op_of gain to from → asks t.vars o ≡ true →
    ((rest : Thread → Thread) → new ≡ begun_gain gain to (value t.vars from) (value t.vars to) (record t { first = true }) rest) → (rest : Thread → Thread) → new ≡ begun_op o t rest
gain_of gains.Copy t new o to from o_is asks_step begins rest = rw o_is (begins rest ∙ gain_first gains.Copy to (value t.vars from) (value t.vars to) t rest (rw o_is at asks_step))
gain_of gains.Unown t new o to from o_is asks_step begins rest = rw o_is (begins rest ∙ gain_first gains.Unown to (value t.vars from) (value t.vars to) t rest (rw o_is at asks_step))
gain_of gains.Load t new o to from o_is asks_step begins rest = rw o_is (begins rest ∙ gain_first gains.Load to (value t.vars from) (value t.vars to) t rest (rw o_is at asks_step))

-- the move of a nil reference begins
pub move_of_nil : (t new : Thread) (o : Op) (to from : ℕ) → o ≡ op.Move to from → value t.vars from ≡ None → asks t.vars o ≡ true →
    ((rest : Thread → Thread) → new ≡ begun_nil to (value t.vars to) (record t { first = true }) rest) → (rest : Thread → Thread) → new ≡ begun_op o t rest
move_of_nil t new o to from o_is nil asks_step begins rest = rw (o_is, nil) (begins rest ∙ nil_begun to (value t.vars to) t rest (rw o_is at asks_step))

-- the move of a reference begins
pub move_of : (t new : Thread) (o : Op) (to from : ℕ) (held : Held) → o ≡ op.Move to from → VarsFit (length t.vars) o → get_or t.vars from (Some held) ≡ Some held → asks t.vars o ≡ true →
    ((rest : Thread → Thread) → new ≡ begun_move to from (Some held) (value t.vars to) (record t { first = true }) rest) → (rest : Thread → Thread) → new ≡ begun_op o t rest
move_of t new o to from held o_is fits there asks_step begins rest =
    let from_there : from < length t.vars = (rw o_is at fits).1 in
    let value_is : value t.vars from ≡ Some held = get_or_default t.vars from None (Some held) from_there ∙ there in
    rw (o_is, value_is) (begins rest ∙ move_begun to from held (value t.vars to) t rest (rw o_is at asks_step))

-- ---- cells

-- a cell that there is none of has an owner that is nil
pub not_there : (c : OpCell) (t : Thread) → cell_of c t ≡ None → is_there t.vars c ≡ false
not_there (opcell.Global g) t e = absurd (cc)
not_there (opcell.Field owner field) t e = go (value t.vars owner) e
  where
    go : (held : Option Held) → field_of t.shape (class_of t.classes owner) field held ≡ None → is_held held ≡ false
    go None e = refl
    go (Some held) e = absurd (cc)

-- a cell begins to be read
get_first : (to : ℕ) (cell : Option Cell) (there : Bool) (old : Option Held) (t : Thread) (rest : Thread → Thread) → (cell ≡ None → there ≡ false) → (there || is_held old) ≡ true →
    begun_get to cell old (record t { first = true }) rest ≡ begun_get to cell old t rest
get_first to (Some cell) there old t rest nowhere e = refl
get_first to None there old t rest nowhere e = nil_begun to old t rest (subst (λ (b : Bool). (b || is_held old) ≡ true) (nowhere refl) e)

pub get_of : (t new : Thread) (o : Op) (to : ℕ) (c : OpCell) → o ≡ op.Get to c → asks t.vars o ≡ true →
    ((rest : Thread → Thread) → new ≡ begun_get to (cell_of c t) (value t.vars to) (record t { first = true }) rest) → (rest : Thread → Thread) → new ≡ begun_op o t rest
get_of t new o to c o_is asks_step begins rest = rw o_is (begins rest ∙ get_first to (cell_of c t) (is_there t.vars c) (value t.vars to) t rest (not_there c t) (rw o_is at asks_step))

-- a cell begins to be written
put_first : (from : ℕ) (cell : Option Cell) (there : Bool) (t : Thread) (rest : Thread → Thread) → (cell ≡ None → there ≡ false) → there ≡ true →
    begun_set from cell (record t { first = true }) rest ≡ begun_set from cell t rest
put_first from (Some cell) there t rest nowhere e = refl
put_first from None there t rest nowhere e = let none = nowhere refl in absurd (cc)

pub put_of : (t new : Thread) (o : Op) (from : ℕ) (c : OpCell) → o ≡ op.Set c from → asks t.vars o ≡ true →
    ((rest : Thread → Thread) → new ≡ begun_set from (cell_of c t) (record t { first = true }) rest) → (rest : Thread → Thread) → new ≡ begun_op o t rest
put_of t new o from c o_is asks_step begins rest = rw o_is (begins rest ∙ put_first from (cell_of c t) (is_there t.vars c) t rest (not_there c t) (rw o_is at asks_step))

-- ---- cells that are there

some_cell : (a b : Cell) → Path (Option Cell) (Some a) (Some b) → a ≡ b
some_cell a b e = cc

-- a class that has a field is one of the heap's
has_class : (classes : List ObjectClass) (i field : ℕ) → field < length (slice_index_or classes i (record { fields = []; immortal = false })).fields → i < length classes
has_class [] i field has = absurd (omega (arith, has))
has_class (c ∷ classes) zero field has = omega arith
has_class (c ∷ classes) (suc i) field has = let k = has_class classes i field has in omega (arith, k)

-- a field of the object that a variable refers to
pub field_is : (t : Thread) → IsStepper t → FieldsFit t.shape.classes → (owner field : ℕ) (held : Held) (cell : Cell) → owner < length t.vars → value t.vars owner ≡ Some held →
    HasCell t.shape t.classes (opcell.Field owner field) → field_of t.shape (class_of t.classes owner) field (Some held) ≡ Some cell → IsCell t.layout cell
field_is t s eight owner field held cell within there has is =
    subst (λ (c : Cell). IsCell t.layout c) (some_cell _ cell is) (record { place = (held_there.place, omega (arith, has, few)); kind = kind })
  where
    class : ObjectClass
    class = class_at t.shape (class_of t.classes owner)

    held_there : IsHeld t.layout.slots held
    held_there = subst (HeldFits t.layout.slots) there (All-get_or (HeldFits t.layout.slots) t.vars owner None within s.held)

    known : class_of t.classes owner < length t.shape.classes
    known = has_class t.shape.classes (class_of t.classes owner) field has

    few : length class.fields ≤ 8
    few = All-get_or (λ (c : ObjectClass). length c.fields ≤ 8) t.shape.classes (class_of t.classes owner) (record { fields = []; immortal = false }) known eight

    kind : IsCountedInline (ref_at class.fields field).kind
    kind = All-get_or IsServedRef class.fields field (record { kind = Strong; class = 0 }) has (All-get_or IsServedClass t.shape.classes (class_of t.classes owner) (record { fields = []; immortal = false }) known s.classes)

-- as it is found by the declaration of its owner's variable
pub field_by : (t : Thread) → IsStepper t → FieldsFit t.shape.classes → (declared : List VarDecl) → t.classes ≡ map (λ (v : VarDecl). v.class) declared → (d : VarDecl) (owner field : ℕ) (held : Held) (cell : Cell) → owner < length t.vars →
    get_or t.vars owner (Some held) ≡ Some held → HasCell t.shape t.classes (opcell.Field owner field) → field_of t.shape (get_or declared owner d).class field (Some held) ≡ Some cell → IsCell t.layout cell
field_by t s eight declared classes_are d owner field held cell within held_is has is =
    field_is t s eight owner field held cell within (get_or_default t.vars owner None (Some held) within ∙ held_is) has
    (ap (λ (c : ℕ). field_of t.shape c field (Some held)) (ap (λ (cs : List ℕ). class_of cs owner) classes_are ∙ class_is) ∙ is)
  where
    there : owner < length declared
    there = let long = ap length classes_are ∙ length-map declared (λ (v : VarDecl). v.class) in let same = s.vars_are in omega (arith, within, long, same)

    class_is : class_of (map (λ (v : VarDecl). v.class) declared) owner ≡ (get_or declared owner d).class
    class_is = get_or-map (λ (v : VarDecl). v.class) declared owner d 0 there
