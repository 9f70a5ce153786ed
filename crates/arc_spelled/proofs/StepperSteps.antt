-- The steps of a stepper over its notes: what an operation begins with, a reference is dropped, the scope ends.
use Rattle.std.proofs.Common.{◌≡◌, ◌≢◌, ℕ, zero, suc, ◌+◌, ◌<◌, ◌≤◌, Bool, true, false, not, cond, ◌&&◌, eqb, ltb, List, [], ◌∷◌, ◌++◌, length, take, drop, set, get_or, Option, Some, None, ◌⊎◌, inl, inr, refl, sym, ap, subst, ◌∙◌, arith, add-one}
use Rattle.std.proofs.lemmas.Bool.{eqb-true, ltb-true, ltb-false, lt-ltb, cases_lt}
use Rattle.std.proofs.Math.ListN.{get_or-map}
use Rattle.std.proofs.lemmas.List.{map-set, set-get_or, length-set, length-append, length-map, length-take-le, take_all, take-append-le, reverse-append, get_or-set_same, get_or-set_other}
use Rattle.std.proofs.lemmas.List.Quantifiers.{position-Some}
use Rattle.std.proofs.lemmas.List.Sums.{prefix_len_passes}
use Rattle.std.proofs.lemmas.Option.{slice_get_within}
use Rattle.std.specs.Prelude.{slice_get, position, flat_map, is_some}
use Rattle.std.specs.List.{prefix_len}
use Rattle.arc_model.specs.declared.answer.Answer.{Answer}
use Rattle.arc_model.specs.declared.answer.Answer.TheVariants as answers
use Rattle.arc_model.specs.declared.event.Act.{Act}
use Rattle.arc_spelling.specs.Spelling.{Note, acts_of, IsDrop}
use Rattle.arc_spelling.specs.Spelling.Note.{Line, Operation}
use Rattle.arc_model.specs.Shapes.{HeapShape}
use Rattle.arc_rule.specs.Extents.{Extent}
use Rattle.arc_cells.specs.Chains.{Frame}
use Rattle.arc_rule.specs.declared.step.Step.{Step}
use Rattle.arc_rule.specs.declared.step.Intent.{Intent}
use Rattle.arc_script.specs.declared.answer.Line.{Line as Told}
use Rattle.arc_script.specs.declared.script.Op.{Op}
use Rattle.arc_script.specs.declared.script.Op.TheVariants as op
use Rattle.arc_side.specs.Inline.{IsCountedInline}
use Rattle.arc_script.specs.Valid.{begins_block}
use Rattle.arc_script.proofs.OneList.{length_in_one}
use Rattle.arc_programs.specs.Variables.{Variables, all_nil, put as put_var}
use Rattle.arc_programs.specs.Variables as programs
use Rattle.arc_programs.specs.Programs.{Hands, IsFromNil, IsAnswered, OpsDone, ScopeEnds, IsProgram, GlobalsCleared, goes_on as programs_go_on}
use Rattle.arc_programs.specs.Programs.GlobalsCleared.{begins as end_begins, nil as global_nil, cleared as global_cleared}
use Rattle.arc_programs.specs.Programs.OpsDone.{none as none_done, one as one_done, block}
use Rattle.arc_programs.specs.Programs.IsFromNil.{copy as copy_from_nil, unown as unown_from_nil, load as load_from_nil, move as move_from_nil}
use Rattle.arc_programs.specs.Programs.IsAnswered.{from_nil as takes_nil, moved as moves_held}
use Rattle.arc_programs.specs.Programs.ScopeEnds.{begins as scope_starts, dropped as var_dropped}
use Rattle.arc_programs.specs.ProgramsLines.{lines_of, number_of, told}
use Rattle.arc_programs.proofs.ProgramsSteps.{IsNext, answers_last, drops_last, drop_of, drop_of_nil, scope_goes_on}
use Rattle.arc_ops.specs.declared.stepper.Held.{Held}
use Rattle.arc_ops.specs.declared.gain.Gain.{Gain}
use Rattle.arc_ops.specs.declared.gain.Gain.TheVariants as gains
use Rattle.arc_ops.specs.declared.stepper.Doing.TheVariants.{Ready, Ended}
use Rattle.arc_ops.specs.declared.stepper.Move.TheVariants as moves
use Rattle.arc_served.specs.Kept.{Kept, with_line}
use Rattle.arc_served.specs.Programs.{ordinal, ops_in_first, kind_of, KindsFit}
use Rattle.arc_ops.proofs.Passed.{goes_forth}
use Rattle.arc_served.proofs.Counts.{first_few, first_all}
use Rattle.arc_served.specs.Served.{IsServedOp}
use Rattle.arc_ops.specs.Thread.{Thread, value, is_held, put, set_var}
use Rattle.arc_ops.specs.Plans.{drop_begun, op_of}
use Rattle.arc_ops.specs.Cells.{clear_begun}
use Rattle.arc_ops.specs.Begins.{skipped, begun_nil, begun_gain, moved, begun_move, begun_drop, block_goes_on, phase_over, begun_at, scope_drop, has_globals, scope_at, scope_begun}
use Rattle.arc_ops.specs.Thread as thread
use Rattle.arc_spelled.specs.Came.{CameOut}
use Rattle.arc_spelled.specs.Shown.{Reads, FindsReference, FindsEntry, Says, Adds, with_act, with_event}
use Rattle.arc_spelled.specs.Shown.Reads.{nothing as read_nothing, name as read_name, nil_field, reference}
use Rattle.arc_spelled.specs.Shown.FindsReference.{nothing as refers_nothing, refers}
use Rattle.arc_spelled.specs.Shown.FindsEntry.{nothing as found_nothing, entry as found_entry}
use Rattle.arc_spelled.specs.Shown.Says.{nothing, line, operation}
use Rattle.arc_spelled.specs.StepperStands.{Work, IsServedWork, held_of, held_in, variables, AreOfKinds, AreDone, IsInScope, HasCleared, IsAtEnd, IsOver, HasEnded, DropEnds, WorksOn, first_lines, IsCounted, number_at, IsOfPhase, StandsFor}
use Rattle.arc_spelled.proofs.KindsKept.{holds-at, fits-some, kinds-set, kinds-nil, counted-in}

-- ---- variables

pub value-held : (vars : List (Option Held)) (v : ℕ) (o : Option Held) → value vars v ≡ o → programs.value (variables vars) v ≡ held_in o
value-held vars v o e = get_or-map held_in vars v None ∙ ap held_in e

pub put-held : (vars : List (Option Held)) (v : ℕ) (new : Option Held) → variables (set vars v new) ≡ put_var (variables vars) v (held_in new)
put-held vars v new = map-set held_in vars v new

-- a variable that is nil stays as it is
put-nil : (vars : Variables) (v : ℕ) → programs.value vars v ≡ None → put_var vars v None ≡ vars
put-nil vars v e = ap (λ (o : Option programs.Held). set vars v o) (sym e) ∙ set-get_or vars v None

none-held : (vars : List (Option Held)) → position is_held vars ≡ None → (v : ℕ) → v < length vars → value vars v ≡ None
none-held vars e v within = go (ltb (prefix_len (λ x. not (is_held x)) vars) (length vars)) refl e
  where
    past : length vars ≤ prefix_len (λ x. not (is_held x)) vars → value vars v ≡ None
    past most = nil (value vars v) (prefix_len_passes (λ x. not (is_held x)) vars v None (omega arith))
      where
        nil : (o : Option Held) → not (is_held o) ≡ true → o ≡ None
        nil None t = refl
        nil (Some h) t = absurd (cc)

    go : (b : Bool) → ltb (prefix_len (λ x. not (is_held x)) vars) (length vars) ≡ b → cond b (Some (prefix_len (λ x. not (is_held x)) vars)) None ≡ None → value vars v ≡ None
    go true f e = absurd (cc)
    go false f e = past (ltb-false (prefix_len (λ x. not (is_held x)) vars) (length vars) f)

not-held : (o : Option Held) → is_held o ≡ false → o ≡ None
not-held None e = refl
not-held (Some h) e = absurd (cc)

-- ---- lines

keep-line : (room : ℕ) (xs : List Told) (x : Told) → cond (ltb (length (take room xs)) room) (take room xs ++ x ∷ []) (take room xs) ≡ take room (xs ++ x ∷ [])
keep-line room xs x = go (cases_lt (length xs) room)
  where
    go : (length xs < room) ⊎ (room ≤ length xs) → cond (ltb (length (take room xs)) room) (take room xs ++ x ∷ []) (take room xs) ≡ take room (xs ++ x ∷ [])
    go (inl below) =
        let all : take room xs ≡ xs = take_all room xs (omega arith) in
        let more : take room (xs ++ x ∷ []) ≡ xs ++ x ∷ [] = take_all room (xs ++ x ∷ []) (omega (arith, length-append xs (x ∷ []))) in
        rw (all, more, lt-ltb (length xs) room below) refl
    go (inr full) =
        let same : take room (xs ++ x ∷ []) ≡ take room xs = take-append-le room xs (x ∷ []) full in
        let long : length (take room xs) ≡ room = length-take-le room xs full in
        rw (same, long) (at (ltb room room) refl)
      where
        at : (b : Bool) → ltb room room ≡ b → cond b (take room xs ++ x ∷ []) (take room xs) ≡ take room xs
        at true e = let below = ltb-true room room e in absurd (omega arith)
        at false e = refl

line-kept : (room n : ℕ) (a : Answer) (now : List Note) → n ≡ number_of now → with_line (record { operation = n; answer = a }) (first_lines room now) ≡ first_lines room (Line a ∷ now)
line-kept room n a now e =
    let kept_as : List Told → Kept = λ (ls : List Told). record { lines = ls; room = room } in
    let x : Told = record { operation = number_of now; answer = a } in
    rw e (ap kept_as (keep-line room (told now) x ∙ ap (λ (ls : List Told). take room ls) (sym (reverse-append (x ∷ []) (lines_of now)))))

pub counted-line : (w : Work) (hands taken made : ℕ) (kept : Kept) (n : ℕ) (a : Answer) (now : List Note) → n ≡ number_of now → IsCounted w hands taken made kept now →
    IsCounted w hands taken made (with_line (record { operation = n; answer = a }) kept) (Line a ∷ now)
counted-line w hands taken made kept n a now e c = record {
  hands_are = c.hands_are;
  taken_is = c.taken_is;
  made_is = c.made_is;
  lines_are = ap (λ (k : Kept). with_line (record { operation = n; answer = a }) k) c.lines_are ∙ line-kept w.room n a now e;
}

pub counted-operation : (w : Work) (hands taken made : ℕ) (kept : Kept) (n : ℕ) (now : List Note) → IsCounted w hands taken made kept now → IsCounted w hands taken made kept (Operation n ∷ now)
counted-operation w hands taken made kept n now c = record { hands_are = c.hands_are; taken_is = c.taken_is; made_is = c.made_is; lines_are = c.lines_are }

-- the line of an operation that is done at once
pub skipped-line : (w : Work) (t : Thread) (a : Answer) (now : List Note) → WorksOn w t.layout t.shape t.thread t.phases t.program t.classes t.vars → IsCounted w t.hands t.taken t.made t.kept (Operation (ordinal w.program t.index) ∷ now) →
    IsCounted w t.hands t.taken t.made (with_line (record { operation = ordinal t.program t.index; answer = a }) t.kept) (Line a ∷ Operation (ordinal w.program t.index) ∷ now)
skipped-line w t a now works c = counted-line w t.hands t.taken t.made t.kept (ordinal t.program t.index) a (Operation (ordinal w.program t.index) ∷ now) (ap (λ (p : List Op). ordinal p t.index) works.program_is) c

-- the number that the stepper gives a line is that of the notes
pub number-here : (w : Work) (t : Thread) (now : List Note) → WorksOn w t.layout t.shape t.thread t.phases t.program t.classes t.vars → number_of now ≡ number_at w t.index → thread.number_of t ≡ number_of now
number-here w t now works e = ap (λ (p : List Op). cond (ltb t.index (length p)) (ordinal p t.index) 0) works.program_is ∙ sym e

-- it works on the same over other variables
pub works-over : (w : Work) (t : Thread) {vars : List (Option Held)} → WorksOn w t.layout t.shape t.thread t.phases t.program t.classes t.vars → AreOfKinds w.kinds vars → WorksOn w t.layout t.shape t.thread t.phases t.program t.classes vars
works-over w t works kinds = record {
  layout_is = works.layout_is;
  shape_is = works.shape_is;
  thread_is = works.thread_is;
  phases_is = works.phases_is;
  program_is = works.program_is;
  classes_are = works.classes_are;
  kinds = kinds;
}

-- ---- notes that are added

pub says-on : {a b c : List Note} → Says a b → Says b c → Says a c
says-on s nothing = s
says-on s (line r) = line (says-on s r)
says-on s (operation r) = operation (says-on s r)

acts-said : {b ns : List Note} → Says b ns → acts_of ns ≡ acts_of b
acts-said nothing = refl
acts-said (line r) = acts-said r
acts-said (operation r) = acts-said r

acts-with : (e : Option Act) (ns : List Note) → acts_of (with_act e ns) ≡ with_event e (acts_of ns)
acts-with None ns = refl
acts-with (Some a) ns = refl

acts-read : {shape : HeapShape} {layout : Extent} {asked : Option (Step × Intent)} {last : Option ℕ} {b ns : List Note} → Reads shape layout asked last b ns → acts_of ns ≡ acts_of b
acts-read read_nothing = refl
acts-read (read_name a n l) = refl
acts-read (nil_field a l n f) = refl
acts-read (reference a l r n f) = refl

acts-found : {layout : Extent} {asked : Option (Step × Intent)} {last : Option ℕ} {e : Option Act} {b ns : List Note} → FindsEntry layout asked last e b ns → acts_of ns ≡ acts_of b
acts-found found_nothing = refl
acts-found (found_entry e a t l c) = refl

acts-referred : {e : Option Act} {out : Option CameOut} {b ns : List Note} → FindsReference e out b ns → acts_of ns ≡ acts_of b
acts-referred refers_nothing = refl
acts-referred (refers o e) = refl

-- the event that is told is the newest of the events
pub acts-added : {shape : HeapShape} {layout : Extent} {asked : Option (Step × Intent)} {last : Option ℕ} {out : Option CameOut} {b ns : List Note} (e : Option Act) → Adds shape layout asked last e out b ns → acts_of ns ≡ with_event e (acts_of b)
acts-added e a =
    acts-said a.says ∙ acts-found a.shows.finds ∙ acts-with e a.shows.referred ∙ ap (λ (acts : List Act). with_event e acts) (acts-referred a.shows.refers ∙ acts-read a.shows.reads)

-- a stepper that has come to its place, behind lines and beginnings of operations, under a chain of deinits that wait
pub record ComesUnder (w : Work) (t : Thread) (e : Option Act) (fs : List Frame) (now : List Note) : Type 0 where
  pub after : List Note
  pub says : Says now after
  pub event : t.event ≡ e
  pub stands : StandsFor w t fs after

-- and where none waits
abbrev pub Comes : Work → Thread → Option Act → List Note → Type 0
Comes w t e now = ComesUnder w t e [] now

pub comes-after : (w : Work) (t : Thread) (e : Option Act) (b now : List Note) → Says b now → Comes w t e now → Comes w t e b
comes-after w t e b now s c = record { after = c.after; says = says-on s c.says; event = c.event; stands = c.stands }

-- ---- operations

pub number-within : (w : Work) (i : ℕ) → i < length w.program → number_at w i ≡ ordinal w.program i
number-within w i within = rw (lt-ltb i (length w.program) within) refl

pub over-done : (w : Work) (i : ℕ) (vars : List (Option Held)) (cleared : ℕ) (now : List Note) → i < length w.program → AreDone w (i + 1) vars now → IsOver w i vars cleared now
over-done w i vars cleared now within d = rw (lt-ltb i (length w.program) within) d

pub served-at : (w : Work) (i : ℕ) (o : Op) → IsServedWork w → slice_get w.program i ≡ Some o → IsServedOp o
served-at w i o served there = holds-at IsServedOp w.program i o served.ops there

get-drop_suc : {X : Type 0} (xs rest : List X) (i : ℕ) (x : X) → x ∷ rest ≡ drop i xs → (slice_get xs i ≡ Some x) × (rest ≡ drop (suc i) xs)
get-drop_suc [] rest zero x e = absurd (cc)
get-drop_suc [] rest (suc i) x e = absurd (cc)
get-drop_suc (y ∷ xs) rest zero x e = (cc, cc)
get-drop_suc (y ∷ xs) rest (suc i) x e = get-drop_suc xs rest i x e

pub get-drop : {X : Type 0} (xs rest : List X) (i : ℕ) (x : X) → x ∷ rest ≡ drop i xs → (slice_get xs i ≡ Some x) × (rest ≡ drop (i + 1) xs)
get-drop xs rest i x e = rw add-one (get-drop_suc xs rest i x e)

nothing-left : {X : Type 0} (xs : List X) (i : ℕ) → [] ≡ drop i xs → length xs ≤ i
nothing-left [] i e = omega arith
nothing-left (y ∷ xs) zero e = absurd (cc)
nothing-left (y ∷ xs) (suc i) e = let h = nothing-left xs i e in omega arith

-- a drop begins
pub drop-asks : (w : Work) (t : Thread) (held : Held) (now : List Note) → WorksOn w t.layout t.shape t.thread t.phases t.program t.classes t.vars → IsCounted w t.hands t.taken t.made t.kept now → number_of now ≡ number_at w t.index →
    IsOfPhase w t.phase t.index → IsCountedInline held.kind → DropEnds w t.index held t.vars t.cleared now → StandsFor w (drop_begun held t) [] now
drop-asks w t held now works counts number phase counted ends = record {
  works = works;
  in_phase = phase;
  counts = counts;
  number = number;
  asks = tt;
  up_to = record { counted = counted; releasing = record { layout_is = works.layout_is; slot_is = refl; awaits = tt }; ends = ends };
}

-- ---- the end of the scope

-- nothing is left to do
ended : (w : Work) (t : Thread) (now : List Note) → WorksOn w t.layout t.shape t.thread t.phases t.program t.classes t.vars → IsCounted w t.hands t.taken t.made t.kept now → HasEnded (eqb w.thread 0) w now →
    Comes w (record t { doing = Ended; asked = moves.Ended }) t.event now
ended w t now works counts u = record {
  after = now;
  says = nothing;
  event = refl;
  stands = record { works = works; in_phase = tt; counts = counts; number = tt; asks = refl; up_to = u };
}

no-variable : (vars : List (Option Held)) → length vars ≡ 0 → position is_held vars ≡ None
no-variable [] e = refl
no-variable (v ∷ vars) e = absurd (omega arith)

-- no more globals are cleared than there are
few-cleared : {shape : HeapShape} {came : Hands} {n : ℕ} {now : List Note} → GlobalsCleared shape came n now → n ≤ length shape.globals
few-cleared end_begins = omega arith
few-cleared (global_nil c within e) = omega (arith, e)
few-cleared (global_cleared c within e k there x) = omega (arith, e)

-- of a thread that has one
scopes : (w : Work) → IsServedWork w → (t : Thread) (now : List Note) → WorksOn w t.layout t.shape t.thread t.phases t.program t.classes t.vars → IsCounted w t.hands t.taken t.made t.kept now → ltb t.index (length w.program) ≡ false → number_of now ≡ 0 →
    length w.phases ≤ t.phase + 1 → eqb w.thread 0 ≡ false → IsInScope w t.vars now → Comes w (scope_begun t) t.event now
scopes w served t now works counts past number last scoped s = go (position is_held t.vars) refl
  where
    number_is : number_of now ≡ number_at w t.index
    number_is = rw past number

    held : (v : ℕ) (h : Held) → value t.vars v ≡ Some h → v < length t.vars → ((u : ℕ) → u < v → is_held (value t.vars u) ≡ false) → Comes w (drop_begun h (set_var v None t)) t.event now
    held v h e within before = record { after = now; says = nothing; event = refl; stands = drop-asks w (set_var v None t) h now (works-over w t works (kinds-nil w.kinds t.vars v works.kinds)) counts number_is (rw past last) (counted-in w served t.vars v h works.kinds e) (λ after x. rw (past, scoped) (over after x)) }
      where
        above : s.below ≤ v
        above = at (cases_lt v s.below)
          where
            at : (v < s.below) ⊎ (s.below ≤ v) → s.below ≤ v
            at (inl below) = let n = s.nils v below in absurd (cc)
            at (inr most) = most

        others : (u : ℕ) → u < v → value t.vars u ≡ None
        others u below = not-held (value t.vars u) (before u below)

        nils : (u : ℕ) → u < v + 1 → value (set t.vars v None) u ≡ None
        nils u below = at (cases_lt u v)
          where
            at : (u < v) ⊎ (v ≤ u) → value (set t.vars v None) u ≡ None
            at (inl lower) = let differ : u ≢ v = λ e. (let same : u ≡ v = e in omega arith) in get_or-set_other t.vars v u None None differ ∙ others u lower
            at (inr upper) = let same : u ≡ v = omega arith in rw same (get_or-set_same t.vars v None None within)

        over : (after : List Note) → IsDrop w.shape h.kind h.place h.hand now after → IsInScope w (set t.vars v None) after
        over after x =
            let many : length (set t.vars v None) ≡ length t.vars = length-set t.vars v None in
            let all : length (variables t.vars) ≡ length t.vars = length-map t.vars held_in in
            let within_held : v < length (variables t.vars) = omega arith in
            let here : ScopeEnds w.shape s.first v (variables t.vars) s.worked now = scope_goes_on s.ends v above (omega arith) (λ u from below. value-held t.vars u None (others u below)) in
            record {
              first = s.first;
              worked = s.worked;
              ops = s.ops;
              same_count = s.same_count ∙ sym many;
              below = v + 1;
              within = omega arith;
              ends = var_dropped here within_held (value-held t.vars v (Some h) e) refl (put-held t.vars v None) x;
              nils = nils;
            }

    program : position is_held t.vars ≡ None → IsProgram w.shape w.thread w.came w.program w.count now
    program e =
        let all : length (variables t.vars) ≡ length t.vars = length-map t.vars held_in in
        record {
          vars = s.first;
          worked = s.worked;
          ops = s.ops;
          left = variables t.vars;
          scope = rw s.same_count (scope_goes_on s.ends (length t.vars) s.within (omega arith) (λ u from below. value-held t.vars u None (none-held t.vars e u below)));
        }

    no_globals : has_globals t ≡ false
    no_globals = ap (λ (n : ℕ). eqb n 0 && ltb t.cleared t.layout.globals) works.thread_is ∙ ap (λ (b : Bool). b && ltb t.cleared t.layout.globals) scoped

    go : (o : Option ℕ) → position is_held t.vars ≡ o → Comes w (scope_at o t) t.event now
    go None e = rw no_globals (ended w t now works counts (rw scoped (program e)))
    go (Some v) e = at (value t.vars v) refl found.1
      where
        found : (v < length t.vars) × (is_held (get_or t.vars v None) ≡ true) × ((k : ℕ) → k < v → is_held (get_or t.vars k None) ≡ false)
        found = position-Some is_held t.vars v None e

        at : (o : Option Held) → value t.vars v ≡ o → is_held o ≡ true → Comes w (scope_drop v o t) t.event now
        at None f g = absurd (cc)
        at (Some h) f g = held v h f found.0 found.2

-- thread 0 clears its next global, or has cleared all
clears : (w : Work) (t : Thread) (now : List Note) → WorksOn w t.layout t.shape t.thread t.phases t.program t.classes t.vars → IsCounted w t.hands t.taken t.made t.kept now → ltb t.index (length w.program) ≡ false → number_of now ≡ 0 →
    length w.phases ≤ t.phase + 1 → eqb w.thread 0 ≡ true → HasCleared w t.vars t.cleared now → Comes w (scope_begun t) t.event now
clears w t now works counts past number last ends c = rw (no-variable t.vars c.no_vars, first_zero) (go (ltb t.cleared (length w.shape.globals)) refl)
  where
    first_zero : has_globals t ≡ ltb t.cleared (length w.shape.globals)
    first_zero = ap (λ (n : ℕ). eqb n 0 && ltb t.cleared t.layout.globals) works.thread_is ∙ ap (λ (b : Bool). b && ltb t.cleared t.layout.globals) ends ∙ ap (λ (l : Extent). ltb t.cleared l.globals) works.layout_is

    go : (more : Bool) → ltb t.cleared (length w.shape.globals) ≡ more → Comes w (cond more (clear_begun t) (record t { doing = Ended; asked = moves.Ended })) t.event now
    go true e = record {
      after = now;
      says = nothing;
      event = refl;
      stands = record {
        works = works;
        in_phase = rw past last;
        counts = counts;
        number = rw past number;
        asks = tt;
        up_to = record { thread_is = eqb-true w.thread 0 ends; within = ltb-true t.cleared (length w.shape.globals) e; so_far = c };
      };
    }
    go false e =
        let most = ltb-false t.cleared (length w.shape.globals) e in
        let few = few-cleared c.globals in
        let all : t.cleared ≡ length w.shape.globals = omega arith in
        ended w t now works counts (rw ends (rw (sym all) c.globals))

-- the scope ends, or thread 0 clears the globals
pub ends-on : (w : Work) → IsServedWork w → (t : Thread) (now : List Note) → WorksOn w t.layout t.shape t.thread t.phases t.program t.classes t.vars → IsCounted w t.hands t.taken t.made t.kept now → ltb t.index (length w.program) ≡ false → number_of now ≡ 0 →
    length w.phases ≤ t.phase + 1 → IsAtEnd (eqb w.thread 0) w t.vars t.cleared now → Comes w (scope_begun t) t.event now
ends-on w served t now works counts past number last s = go (eqb w.thread 0) refl s
  where
    go : (first : Bool) → eqb w.thread 0 ≡ first → IsAtEnd first w t.vars t.cleared now → Comes w (scope_begun t) t.event now
    go true e s = clears w t now works counts past number last e s
    go false e s = scopes w served t now works counts past number last e s

-- ---- the operations of a phase

pub get-take : {X : Type 0} (n : ℕ) (xs : List X) (i : ℕ) (x : X) → slice_get (take n xs) i ≡ Some x → (slice_get xs i ≡ Some x) × (i < n)
get-take zero xs i x e = absurd (cc)
get-take (suc n) [] i x e = absurd (cc)
get-take (suc n) (y ∷ xs) zero x e = (e, omega arith)
get-take (suc n) (y ∷ xs) (suc i) x e = let h = get-take n xs i x e in (h.0, omega arith)

-- the operation at this place of the phase that is under way, and the rest of the phase behind it
pub record IsHere (w : Work) (t : Thread) (o : Op) (rest : List Op) : Type 0 where
  pub there : slice_get w.program t.index ≡ Some o
  pub within : t.index < length w.program
  pub in_phase : IsOfPhase w t.phase t.index
  pub before_end : t.index + 1 ≤ ops_in_first (t.phase + 1) w.phases
  pub behind : rest ≡ drop (t.index + 1) (take (ops_in_first (t.phase + 1) w.phases) w.program)

pub is-here : (w : Work) (t : Thread) (o : Op) (rest : List Op) → o ∷ rest ≡ drop t.index (take (ops_in_first (t.phase + 1) w.phases) w.program) → IsHere w t o rest
is-here w t o rest r =
    let g = get-drop (take (ops_in_first (t.phase + 1) w.phases) w.program) rest t.index o r in
    let here = get-take (ops_in_first (t.phase + 1) w.phases) w.program t.index o g.0 in
    let below = slice_get_within w.program t.index o here.0 in
    record { there = here.0; within = below; in_phase = rw (lt-ltb t.index (length w.program) below) here.1; before_end = let h = here.1 in omega arith; behind = g.1 }

none-there : (program : List Op) (i : ℕ) (o : Op) → program ≡ [] → slice_get program i ≡ Some o → ⊥
none-there [] i o e there = absurd (cc)
none-there (x ∷ program) i o e there = absurd (cc)

-- nothing is done of no operation over no variable
nothing-done : (w : Work) (i : ℕ) (vars : List (Option Held)) (now : List Note) → w.program ≡ [] → w.count ≡ 0 → AreDone w i vars now → (now ≡ []) × (length (variables vars) ≡ 0)
nothing-done w i vars now empty bare d = go empty bare d
  where
    go : {program : List Op} {count n : ℕ} {vs : Variables} {ns : List Note} → program ≡ [] → count ≡ 0 → OpsDone w.shape w.thread w.came program count n vs ns → (ns ≡ []) × (length vs ≡ 0)
    go empty bare (none_done e) = (refl, ap (λ (vs : Variables). length vs) e ∙ ap (λ (n : ℕ). length (all_nil n)) bare)
    go {program = program} empty bare (one_done {i = i} {o = o} d there e x) = absurd (none-there program i o empty there)
    go {program = program} empty bare (block {i = i} {o = o} d there b n f) = absurd (none-there program i o empty there)

pub no-operation : (w : Work) → IsServedWork w → (i : ℕ) (o : Op) → slice_get w.program i ≡ Some o → w.thread ≡ 0 → ⊥
no-operation w served i o there first = none-there w.program i o (served.clearing first).0 there

-- before its operations a thread has cleared no global, where it is thread 0
abbrev pub Uncleared : Work → ℕ → Type 0
Uncleared w cleared = w.thread ≡ 0 → cleared ≡ 0

-- the operations of the phase are done: it waits for the next phase, or the scope ends
pub ends-phase : (w : Work) → IsServedWork w → (at : ℕ) (t : Thread) (now : List Note) → WorksOn w t.layout t.shape t.thread t.phases t.program t.classes t.vars → IsCounted w t.hands t.taken t.made t.kept now →
    [] ≡ drop at (take (ops_in_first (t.phase + 1) w.phases) w.program) → at ≤ t.index → t.index ≤ ops_in_first (t.phase + 1) w.phases → AreDone w t.index t.vars now → Uncleared w t.cleared → Comes w (phase_over t) t.event now
ends-phase w served at t now works counts r past_it before d none = subst P (sym works.phases_is) (go (ltb (t.phase + 1) (length w.phases)) refl)
  where
    P : List (List Op) → Type 0
    P phases = Comes w (cond (ltb (t.phase + 1) (length phases)) (record t { doing = Ready; asked = moves.PhaseEnd; phase = t.phase + 1 }) (scope_begun t)) t.event now

    total : length w.program ≡ length (flat_map (λ ops. ops) w.phases)
    total = ap length served.whole ∙ length_in_one 0 w.phases

    at_end : t.index ≡ ops_in_first (t.phase + 1) w.phases
    at_end =
        let most = nothing-left (take (ops_in_first (t.phase + 1) w.phases) w.program) at r in
        let few = first_few (t.phase + 1) w.phases in
        let all = total in
        let long : length (take (ops_in_first (t.phase + 1) w.phases) w.program) ≡ ops_in_first (t.phase + 1) w.phases = length-take-le (ops_in_first (t.phase + 1) w.phases) w.program (omega arith) in
        omega arith

    ending : length w.phases ≤ t.phase + 1 → Comes w (scope_begun t) t.event now
    ending last = comes-after w (scope_begun t) t.event now (Operation 0 ∷ now) (operation nothing)
        (ends-on w served t (Operation 0 ∷ now) works (counted-operation w t.hands t.taken t.made t.kept 0 now counts) (past (ltb t.index (length w.program)) refl) refl last (end_from (eqb w.thread 0) refl))
      where
        over : t.index ≡ length w.program
        over = at_end ∙ first_all (t.phase + 1) w.phases last ∙ sym total

        past : (b : Bool) → ltb t.index (length w.program) ≡ b → ltb t.index (length w.program) ≡ false
        past true e = let below = ltb-true t.index (length w.program) e in let same = over in absurd (omega arith)
        past false e = e

        end_from : (first : Bool) → eqb w.thread 0 ≡ first → IsAtEnd first w t.vars t.cleared (Operation 0 ∷ now)
        end_from true e =
            let first = eqb-true w.thread 0 e in
            let bare = served.clearing first in
            let bare_then = nothing-done w t.index t.vars now bare.0 bare.1 d in
            record { no_vars = sym (length-map t.vars held_in) ∙ bare_then.1; globals = rw (none first, bare_then.0) end_begins }
        end_from false e = record {
          first = variables t.vars;
          worked = now;
          ops = rw (← over) d;
          same_count = length-map t.vars held_in;
          below = 0;
          within = omega arith;
          ends = scope_starts;
          nils = λ v below. absurd (omega arith);
        }

    go : (b : Bool) → ltb (t.phase + 1) (length w.phases) ≡ b → Comes w (cond b (record t { doing = Ready; asked = moves.PhaseEnd; phase = t.phase + 1 }) (scope_begun t)) t.event now
    go true e = record {
      after = now;
      says = nothing;
      event = refl;
      stands = record { works = works; in_phase = at_end; counts = counts; number = tt; asks = refl; up_to = record { done = d; uncleared = none } };
    }
    go false e = ending (ltb-false (t.phase + 1) (length w.phases) e)

-- an operation that is next, with what every operation needs
pub record Opens (w : Work) (t : Thread) (now : List Note) (o : Op) : Type 0 where
  pub next : IsNext w.shape w.thread w.came w.program w.count t.index o (variables t.vars) now
  pub number : number_of (Operation (ordinal w.program t.index) ∷ now) ≡ number_at w t.index
  pub opened : IsCounted w t.hands t.taken t.made t.kept (Operation (ordinal w.program t.index) ∷ now)

pub opens : (w : Work) (t : Thread) (now : List Note) (o : Op) (rest : List Op) → IsHere w t o rest → IsCounted w t.hands t.taken t.made t.kept now → AreDone w t.index t.vars now → Opens w t now o
opens w t now o rest here counts d = record {
  next = record { done = d; there = here.there };
  number = sym (number-within w t.index here.within);
  opened = counted-operation w t.hands t.taken t.made t.kept (ordinal w.program t.index) now counts;
}

-- a nil reference is taken for a variable
pub from-nil : (w : Work) → IsServedWork w → (t : Thread) (now : List Note) (o : Op) (rest : List Op) (to : ℕ) (go : Thread → Thread) → WorksOn w t.layout t.shape t.thread t.phases t.program t.classes t.vars → IsHere w t o rest → Opens w t now o →
    IsFromNil (variables t.vars) o to →
    (AreDone w (t.index + 1) t.vars (Line answers.Nil ∷ Operation (ordinal w.program t.index) ∷ now) → Comes w (go (skipped answers.Nil t)) t.event (Line answers.Nil ∷ Operation (ordinal w.program t.index) ∷ now)) →
    Comes w (begun_nil to (value t.vars to) t go) t.event now
from-nil w served t now o rest to go works here x nil skip = at (value t.vars to) refl
  where
    answered : (old : Option Held) → value t.vars to ≡ old →
        IsAnswered w.thread w.came o (variables t.vars) (Operation (ordinal w.program t.index) ∷ now) (put_var (variables t.vars) to None) answers.Nil (held_in old) (Operation (ordinal w.program t.index) ∷ now)
    answered old e = takes_nil nil (record { replaced = refl; old = sym (value-held t.vars to old e) }) refl

    at : (old : Option Held) → value t.vars to ≡ old → Comes w (begun_nil to old t go) t.event now
    at (Some old) e = record {
      after = Line answers.Nil ∷ Operation (ordinal w.program t.index) ∷ now;
      says = line (operation nothing);
      event = refl;
      stands = drop-asks w (set_var to None (put answers.Nil (record t { first = true }))) old (Line answers.Nil ∷ Operation (ordinal w.program t.index) ∷ now) (works-over w t works (kinds-nil w.kinds t.vars to works.kinds))
          (counted-line w t.hands t.taken t.made t.kept (thread.number_of t) answers.Nil (Operation (ordinal w.program t.index) ∷ now) (number-here w t (Operation (ordinal w.program t.index) ∷ now) works x.number) x.opened)
          x.number here.in_phase (counted-in w served t.vars to old works.kinds e)
          (λ after y. over-done w t.index (set t.vars to None) t.cleared after here.within (rw (put-held t.vars to None) (drops_last x.next (answered (Some old) e) y)));
    }
    at None e =
        let same : put_var (variables t.vars) to None ≡ variables t.vars = put-nil (variables t.vars) to (value-held t.vars to None e) in
        comes-after w (go (skipped answers.Nil t)) t.event now (Line answers.Nil ∷ Operation (ordinal w.program t.index) ∷ now) (line (operation nothing)) (skip (rw same at (answers_last x.next (answered None e))))

-- a reference is gained from that in another variable
pub gaining : (w : Work) → IsServedWork w → (t : Thread) (now : List Note) (gain : Gain) (to of : ℕ) (rest : List Op) (go : Thread → Thread) → WorksOn w t.layout t.shape t.thread t.phases t.program t.classes t.vars → IsHere w t (op_of gain to of) rest →
    Opens w t now (op_of gain to of) → AreDone w t.index t.vars now →
    (AreDone w (t.index + 1) t.vars (Line answers.Nil ∷ Operation (ordinal w.program t.index) ∷ now) → Comes w (go (skipped answers.Nil t)) t.event (Line answers.Nil ∷ Operation (ordinal w.program t.index) ∷ now)) →
    Comes w (begun_gain gain to (value t.vars of) (value t.vars to) t go) t.event now
gaining w served t now gain to of rest go works here x d skip = at (value t.vars of) refl
  where
    nil : (g : Gain) → programs.value (variables t.vars) of ≡ None → IsFromNil (variables t.vars) (op_of g to of) to
    nil gains.Copy e = copy_from_nil e
    nil gains.Unown e = unown_from_nil e
    nil gains.Load e = load_from_nil e

    at : (source : Option Held) → value t.vars of ≡ source → Comes w (begun_gain gain to source (value t.vars to) t go) t.event now
    at (Some h) e = record {
      after = Operation (ordinal w.program t.index) ∷ now;
      says = operation nothing;
      event = refl;
      stands = record {
        works = works;
        in_phase = here.in_phase;
        counts = x.opened;
        number = x.number;
        asks = tt;
        up_to = record { of = of; begun = record { base = now; done = d; there = here.there; now_is = refl }; source = e };
      };
    }
    at None e = from-nil w served t now (op_of gain to of) rest to go works here x (nil gain (value-held t.vars of None e)) skip

-- a reference is moved
pub moving : (w : Work) → IsServedWork w → (t : Thread) (now : List Note) (to from : ℕ) (rest : List Op) (go : Thread → Thread) → WorksOn w t.layout t.shape t.thread t.phases t.program t.classes t.vars → IsHere w t (op.Move to from) rest →
    Opens w t now (op.Move to from) →
    (AreDone w (t.index + 1) t.vars (Line answers.Nil ∷ Operation (ordinal w.program t.index) ∷ now) → Comes w (go (skipped answers.Nil t)) t.event (Line answers.Nil ∷ Operation (ordinal w.program t.index) ∷ now)) →
    ((held : Held) → AreOfKinds w.kinds (set (set t.vars to (Some held)) from None) → AreDone w (t.index + 1) (set (set t.vars to (Some held)) from None) (Line answers.Ok ∷ Operation (ordinal w.program t.index) ∷ now) →
    Comes w (go (moved to from held (skipped answers.Ok t))) t.event (Line answers.Ok ∷ Operation (ordinal w.program t.index) ∷ now)) →
    Comes w (begun_move to from (value t.vars from) (value t.vars to) t go) t.event now
moving w served t now to from rest go works here x skip move = at (value t.vars from) refl
  where
    kinds : (h : Held) → value t.vars from ≡ Some h → AreOfKinds w.kinds (set (set t.vars to (Some h)) from None)
    kinds h e =
        let fits : h.kind ≡ kind_of w.kinds to = works.kinds from h e ∙ sym (holds-at (KindsFit w.shape w.classes w.kinds) w.program t.index (op.Move to from) served.kinds_fit here.there) in
        kinds-nil w.kinds (set t.vars to (Some h)) from (kinds-set w.kinds t.vars to (Some h) (fits-some w.kinds to h fits) works.kinds)

    replaced_vars : (h : Held) → variables (set (set t.vars to (Some h)) from None) ≡ put_var (put_var (variables t.vars) to (Some (held_of h))) from None
    replaced_vars h = put-held (set t.vars to (Some h)) from None ∙ ap (λ vs. put_var vs from None) (put-held t.vars to (Some h))

    answered : (h : Held) (old : Option Held) → value t.vars from ≡ Some h → value t.vars to ≡ old →
        IsAnswered w.thread w.came (op.Move to from) (variables t.vars) (Operation (ordinal w.program t.index) ∷ now) (put_var (put_var (variables t.vars) to (Some (held_of h))) from None) answers.Ok (held_in old)
        (Operation (ordinal w.program t.index) ∷ now)
    answered h old e f = moves_held (value-held t.vars from (Some h) e) (record { replaced = refl; old = sym (value-held t.vars to old f) }) refl refl

    to_place : (h : Held) (old : Option Held) → value t.vars from ≡ Some h → value t.vars to ≡ old → Comes w (begun_move to from (Some h) old t go) t.event now
    to_place h (Some old) e f = record {
      after = Line answers.Ok ∷ Operation (ordinal w.program t.index) ∷ now;
      says = line (operation nothing);
      event = refl;
      stands = drop-asks w (moved to from h (put answers.Ok (record t { first = true }))) old (Line answers.Ok ∷ Operation (ordinal w.program t.index) ∷ now) (works-over w t works (kinds h e))
          (counted-line w t.hands t.taken t.made t.kept (thread.number_of t) answers.Ok (Operation (ordinal w.program t.index) ∷ now) (number-here w t (Operation (ordinal w.program t.index) ∷ now) works x.number) x.opened)
          x.number here.in_phase (counted-in w served t.vars to old works.kinds f)
          (λ after y. over-done w t.index (set (set t.vars to (Some h)) from None) t.cleared after here.within (rw (replaced_vars h) (drops_last x.next (answered h (Some old) e f) y)));
    }
    to_place h None e f =
        comes-after w (go (moved to from h (skipped answers.Ok t))) t.event now (Line answers.Ok ∷ Operation (ordinal w.program t.index) ∷ now) (line (operation nothing))
        (move h (kinds h e) (rw (replaced_vars h) (answers_last x.next (answered h None e f))))

    at : (source : Option Held) → value t.vars from ≡ source → Comes w (begun_move to from source (value t.vars to) t go) t.event now
    at (Some h) e = to_place h (value t.vars to) e refl
    at None e = from-nil w served t now (op.Move to from) rest to go works here x (move_from_nil (value-held t.vars from None e)) skip

-- a reference is dropped
pub dropping : (w : Work) → IsServedWork w → (t : Thread) (now : List Note) (v : ℕ) (rest : List Op) (go : Thread → Thread) → WorksOn w t.layout t.shape t.thread t.phases t.program t.classes t.vars → IsHere w t (op.Drop v) rest → Opens w t now (op.Drop v) →
    (AreDone w (t.index + 1) t.vars (Line answers.Nil ∷ Operation (ordinal w.program t.index) ∷ now) → Comes w (go (skipped answers.Nil t)) t.event (Line answers.Nil ∷ Operation (ordinal w.program t.index) ∷ now)) →
    Comes w (begun_drop v (value t.vars v) t go) t.event now
dropping w served t now v rest go works here x skip = at (value t.vars v) refl
  where
    at : (old : Option Held) → value t.vars v ≡ old → Comes w (begun_drop v old t go) t.event now
    at (Some old) e = record {
      after = Line answers.Ok ∷ Operation (ordinal w.program t.index) ∷ now;
      says = line (operation nothing);
      event = refl;
      stands = drop-asks w (set_var v None (put answers.Ok (record t { first = true }))) old (Line answers.Ok ∷ Operation (ordinal w.program t.index) ∷ now) (works-over w t works (kinds-nil w.kinds t.vars v works.kinds))
          (counted-line w t.hands t.taken t.made t.kept (thread.number_of t) answers.Ok (Operation (ordinal w.program t.index) ∷ now) (number-here w t (Operation (ordinal w.program t.index) ∷ now) works x.number) x.opened)
          x.number here.in_phase (counted-in w served t.vars v old works.kinds e)
          (λ after y. over-done w t.index (set t.vars v None) t.cleared after here.within
          (rw (put-held t.vars v None) (drops_last x.next (drop_of w.thread v w.came (held_of old) (variables t.vars) (Operation (ordinal w.program t.index) ∷ now) (value-held t.vars v (Some old) e)) y)));
    }
    at None e = comes-after w (go (skipped answers.Nil t)) t.event now (Line answers.Nil ∷ Operation (ordinal w.program t.index) ∷ now) (line (operation nothing))
        (skip (answers_last x.next (drop_of_nil w.thread v w.came (variables t.vars) (Operation (ordinal w.program t.index) ∷ now) (value-held t.vars v None e))))

-- what goes on behind an operation of the phase
abbrev pub GoesOnBehind : Work → ℕ → List Op → ℕ → Type 0
GoesOnBehind w at rest phase = (u : Thread) (ns : List Note) → WorksOn w u.layout u.shape u.thread u.phases u.program u.classes u.vars → IsCounted w u.hands u.taken u.made u.kept ns → u.phase ≡ phase →
    at + 1 ≤ u.index → u.index ≤ ops_in_first (phase + 1) w.phases → AreDone w u.index u.vars ns → Comes w (begun_at (at + 1) rest u) u.event ns

-- a variable holds a reference for the stepper exactly where it does for the notes
pub same-held : (vars : List (Option Held)) (v : ℕ) → is_some (programs.value (variables vars) v) ≡ is_held (value vars v)
same-held vars v = ap is_some (value-held vars v (value vars v) refl) ∙ go (value vars v)
  where
    go : (o : Option Held) → is_some (held_in o) ≡ is_held o
    go None = refl
    go (Some h) = refl

-- a block begins: the thread goes on in it, or behind it
pub comes-to-block : (w : Work) → IsServedWork w → (at : ℕ) (o : Op) (rest : List Op) (t : Thread) (now : List Note) → WorksOn w t.layout t.shape t.thread t.phases t.program t.classes t.vars → IsCounted w t.hands t.taken t.made t.kept now → at ≡ t.index →
    IsHere w t o rest → AreDone w t.index t.vars now → GoesOnBehind w at rest t.phase → begins_block o ≡ true → (n : ℕ) → block_goes_on t.vars t.index o ≡ Some n → n ≡ programs_go_on (variables t.vars) t.index o →
    Comes w (begun_at (at + 1) rest (record t { index = n })) t.event now
comes-to-block w served at o rest t now works counts place here d on begins n goes same =
    let below = here.before_end in
    let less : t.index < ops_in_first (t.phase + 1) w.phases = omega (arith, below) in
    let forth = goes_forth t.vars t.index (ops_in_first (t.phase + 1) w.phases) n o less (served.blocks (t.phase + 1) t.index o less here.there) goes in
    let past = forth.0 in
    on (record t { index = n }) now works counts refl (omega (arith, past, place)) forth.1 (block d here.there begins same past)

-- an operation begins that gains a reference
pub comes-to-gain : (w : Work) → IsServedWork w → (at : ℕ) (gain : Gain) (to of : ℕ) (rest : List Op) (t : Thread) (now : List Note) → WorksOn w t.layout t.shape t.thread t.phases t.program t.classes t.vars → IsCounted w t.hands t.taken t.made t.kept now → at ≡ t.index →
    IsHere w t (op_of gain to of) rest → AreDone w t.index t.vars now → GoesOnBehind w at rest t.phase → Comes w (begun_gain gain to (value t.vars of) (value t.vars to) t (λ behind. begun_at (at + 1) rest behind)) t.event now
comes-to-gain w served at gain to of rest t now works counts place here d on =
    let x = opens w t now (op_of gain to of) rest here counts d in
    gaining w served t now gain to of rest (λ behind. begun_at (at + 1) rest behind) works here x d
    (λ done. on (skipped answers.Nil t) (Line answers.Nil ∷ Operation (ordinal w.program t.index) ∷ now) works (skipped-line w t answers.Nil now works x.opened) refl (omega (arith, place)) here.before_end done)
