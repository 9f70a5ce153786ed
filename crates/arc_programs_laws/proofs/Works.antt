-- What a program tells and makes: each deinit that it tells ends, `new` alone makes an object, and its lines name what was read or made.
use Rattle.std.proofs.Common.{◌≡◌, ℕ, zero, suc, ◌+◌, ◌-◌, ◌≤◌, ◌<◌, Bool, true, false, cond, eqb, List, [], ◌∷◌, ◌++◌, length, take, Some, None, refl, sym, ap, ◌∙◌, subst, arith}
use Rattle.std.specs.Prelude.{◌==◌, if◌then◌else◌, not, map, flat_map, slice_get, get_or, Option}
use Rattle.std.specs.List.{count_by}
use Rattle.std.proofs.lemmas.Bool.{ne_eqb}
use Rattle.std.proofs.lemmas.List.{take_all, length-map}
use Rattle.std.proofs.lemmas.List.Sums.{sum_by-append, sum_by-cons, count_by-le-length, count_by_more_yes, count_by_more_no}
use Rattle.std.proofs.lemmas.Option.{slice_get_within, get_or_from_slice_get}
use Rattle.arc_model.specs.declared.answer.Answer.{Answer}
use Rattle.arc_model.specs.declared.answer.Answer.TheVariants as answers
use Rattle.arc_model.specs.declared.event.ObjectName.{ObjectName}
use Rattle.arc_model.specs.Shapes.{HeapShape}
use Rattle.arc_spelling.specs.Spelling.{Note, one_more_if, deinits_of}
use Rattle.arc_spelling.specs.Spelling.Note.{Did, Line as Says, Operation, Name, Entry, NeedsEntry, Nil, Refers}
use Rattle.arc_script.specs.Valid as valid
use Rattle.arc_script.specs.Valid.{begins_block}
use Rattle.arc_script.specs.OneList.{moved_behind, in_one_list, numbered}
use Rattle.arc_script.proofs.OneList.{length_in_one}
use Rattle.arc_script.specs.declared.answer.Line.{Line}
use Rattle.arc_script.specs.declared.script.ClassDecl.{ClassDecl}
use Rattle.arc_script.specs.declared.script.VarDecl.{VarDecl}
use Rattle.arc_script.specs.declared.script.Script.{Script}
use Rattle.arc_script.specs.declared.script.ThreadDecl.{ThreadDecl}
use Rattle.arc_script.specs.declared.script.Op.{Op}
use Rattle.arc_script.specs.declared.script.Op.TheVariants as op
use Rattle.arc_programs.specs.Variables.{Held, Variables}
use Rattle.arc_programs.specs.Programs.{Hands, made_of, Source, HasSource, IsAnswered, IsOp, OpsDone, ScopeEnds, IsProgram, GlobalsCleared}
use Rattle.arc_programs.specs.Programs.HasSource.{copy, unown, weak, load, get}
use Rattle.arc_programs.specs.Programs.IsAnswered.{made, full, copied, unowned_formed, weak_formed, loaded, found_dead, weakly_loaded, found_nil, looked, got, put_in_nil, swapped, no_owner, given_up, nothing_there, moved, from_nil, count_full, no_entry}
use Rattle.arc_programs.specs.Programs.OpsDone.{none as no_ops, one, block}
use Rattle.arc_programs.specs.Programs.ScopeEnds.{begins, nil as var_nil, dropped as var_dropped}
use Rattle.arc_programs.specs.Programs.GlobalsCleared.{begins as end_begins, nil as global_nil, cleared}
use Rattle.arc_programs.specs.ProgramsLines.{lines_of, is_deinit, deinit_line, answered}
use Rattle.arc_programs.specs.ProgramsLaws.{Fall}
use Rattle.arc_programs.specs.ProgramsTied.{operations, Spells}
use Rattle.arc_programs.specs.ProgramsTied.Spells.{thread, end}
use Rattle.arc_programs.proofs.ProgramsTold.{programs_numbered, end_sections_told}
use Rattle.arc_quiet.proofs.ProgramsCounted.{all-at, ops_are}
use Rattle.arc_programs_laws.specs.Names.{AnswerFits}
use Rattle.arc_programs_laws.specs.Room.{is_new, phases_in, operations_of}
use Rattle.arc_programs_laws.proofs.Additions.{none as none_added, did, fact, ActsFit, NamesFit, LinesFit, NamesLines, adds-made, adds-acts, adds-names, Tells, same, over, then-begun, drop-tells, dropped-tells, gain-tells, refused-tells, read-fits}
use Rattle.arc_programs_laws.proofs.ObjectsCounted.{finishes_of}

-- ---- operations

-- a `new` is of one of so many classes
abbrev pub OpFits : ℕ → Op → Type 0
OpFits m (op.New to class) = class < m
OpFits m _ = Unit {0}

pub op-fits : (classes : List ClassDecl) (globals vars : List VarDecl) (o : Op) → valid.IsOp classes globals vars o → OpFits (length classes) o
op-fits classes globals vars (op.New to class) is = is.1
op-fits classes globals vars _ is = tt

abbrev news : Op → ℕ
news o = one_more_if (is_new o) 0

-- what an operation adds to the notes
record Works (o : Op) (before after : List Note) : Type 0 where
  -- each deinit that was told ended
  ends : length (deinits_of after) + finishes_of before ≡ length (deinits_of before) + finishes_of after
  -- a `new` alone makes an object, one at most
  makes : made_of after ≤ made_of before + news o
  acts : (m : ℕ) → OpFits m o → ActsFit m before → ActsFit m after
  names : (m : ℕ) → OpFits m o → NamesLines m before after

adds-works : {o : Op} {b after : List Note} → Tells 0 b after → Works o b after
adds-works t =
    let a = t.ends in
    let m = adds-made t.adds in
    record { ends = omega arith; makes = omega arith; acts = λ m _ f. adds-acts m t.adds f; names = λ m _. adds-names m t.adds }

unchanged : {o : Op} {b ns : List Note} → ns ≡ b → Works o b ns
unchanged {o = o} {b = b} e = subst (Works o b) (sym e) (adds-works same)

source-tells : {vars : Variables} {o : Op} {source : Source} {b ns : List Note} → HasSource vars o source b ns → Tells 0 b ns
source-tells (copy e s) = same
source-tells (unown e s) = same
source-tells (weak e s) = same
source-tells (load e s) = same
source-tells (get e s) = record { ends = omega arith; adds = fact none_added refl }

-- up to its line
works : {p : ℕ} {came : Hands} {o : Op} {vars vars' : Variables} {answer : Answer} {last : Option Held} {b after : List Note} →
    IsAnswered p came o vars b vars' answer last after → Works o b after
works (made k n r) = record { ends = omega arith; makes = omega arith; acts = λ m fits f. (fits, f); names = λ m _ f. (f, λ l. l) }
works (full v) = adds-works (record { ends = omega arith; adds = did none_added refl })
works (copied e k g r) = adds-works (gain-tells [] refl refl refl g)
works (unowned_formed e k g r) = adds-works (gain-tells [] refl refl refl g)
works (weak_formed {entry = entry} {held = held} e k g r) = adds-works (gain-tells (Entry held.place (Some entry) ∷ []) refl refl refl g)
works (loaded {name = name} {held = held} e u k g r) = adds-works (gain-tells (Name held.place name ∷ []) refl refl refl g)
works (found_dead e u g r) = adds-works (gain-tells [] refl refl refl g)
works (weakly_loaded {slot = slot} {name = name} {held = held} e u k g r) = adds-works (gain-tells (Name slot name ∷ Entry slot (Some held.place) ∷ []) refl refl refl g)
works (found_nil e u g r) = adds-works (gain-tells [] refl refl refl g)
works (looked e r) = adds-works (record { ends = omega arith; adds = did none_added refl })
works (got {b = b} e k c g r) = adds-works (over (record { ends = omega arith; adds = fact none_added refl }) (gain-tells [] refl refl refl g))
works (put_in_nil e h v) = adds-works (record { ends = omega arith; adds = did none_added refl })
works (swapped e h v k c l) = adds-works (record { ends = omega arith; adds = did none_added refl })
works (no_owner e v n) = unchanged n
works (given_up e r n) = unchanged n
works (nothing_there e v n) = unchanged n
works (moved e r v n) = unchanged n
works (from_nil f r n) = unchanged n
works (count_full s g v) = adds-works (over (source-tells s) (gain-tells [] refl refl refl g))
works (no_entry s g v) = adds-works (over (source-tells s) (refused-tells g))

-- the answer names what was made or read
answer-fits : {p : ℕ} {came : Hands} {o : Op} {vars vars' : Variables} {answer : Answer} {last : Option Held} {b after : List Note} (m : ℕ) →
    IsAnswered p came o vars b vars' answer last after → OpFits m o → NamesFit m after → AnswerFits m answer
answer-fits m (made {class = class} k n r) fits f = subst (λ c. c < m) (sym (ap (λ (name : ObjectName). name.class) n)) fits
answer-fits m (full v) fits f = tt
answer-fits m (copied e k g r) fits f = tt
answer-fits m (unowned_formed e k g r) fits f = tt
answer-fits m (weak_formed e k g r) fits f = tt
answer-fits m (loaded e u k g r) fits f = read-fits m g.settled f
answer-fits m (found_dead e u g r) fits f = tt
answer-fits m (weakly_loaded e u k g r) fits f = read-fits m g.settled f
answer-fits m (found_nil e u g r) fits f = tt
answer-fits m (looked e r) fits f = tt
answer-fits m (got e k c g r) fits f = tt
answer-fits m (put_in_nil e h v) fits f = tt
answer-fits m (swapped e h v k c l) fits f = tt
answer-fits m (no_owner e v n) fits f = tt
answer-fits m (given_up e r n) fits f = tt
answer-fits m (nothing_there e v n) fits f = tt
answer-fits m (moved e r v n) fits f = tt
answer-fits m (from_nil c r n) fits f = tt
answer-fits m (count_full s g v) fits f = tt
answer-fits m (no_entry s g v) fits f = tt

no-deinit : {p : ℕ} {came : Hands} {o : Op} {vars vars' : Variables} {answer : Answer} {last : Option Held} {b after : List Note} →
    IsAnswered p came o vars b vars' answer last after → is_deinit answer ≡ false
no-deinit (made k n r) = refl
no-deinit (full v) = refl
no-deinit (copied e k g r) = refl
no-deinit (unowned_formed e k g r) = refl
no-deinit (weak_formed e k g r) = refl
no-deinit (loaded e u k g r) = refl
no-deinit (found_dead e u g r) = refl
no-deinit (weakly_loaded e u k g r) = refl
no-deinit (found_nil e u g r) = refl
no-deinit (looked e r) = refl
no-deinit (got e k c g r) = refl
no-deinit (put_in_nil e h v) = refl
no-deinit (swapped e h v k c l) = refl
no-deinit (no_owner e v n) = refl
no-deinit (given_up e r n) = refl
no-deinit (nothing_there e v n) = refl
no-deinit (moved e r v n) = refl
no-deinit (from_nil f r n) = refl
no-deinit (count_full s g v) = refl
no-deinit (no_entry s g v) = refl

answer-told : (a : Answer) (ns : List Note) → is_deinit a ≡ false → deinits_of (Says a ∷ ns) ≡ deinits_of ns
answer-told (answers.New name) ns e = refl
answer-told answers.Full ns e = refl
answer-told (answers.Got name) ns e = refl
answer-told answers.Ok ns e = refl
answer-told answers.Nil ns e = refl
answer-told answers.Dead ns e = refl
answer-told answers.NoEntry ns e = refl
answer-told answers.CountFull ns e = refl
answer-told (answers.Deinit name) ns e = absurd cc

operation-works : {shape : HeapShape} {p n : ℕ} {came : Hands} {o : Op} {vars vars' : Variables} {b after : List Note} → IsOp shape p came n o vars b vars' after → Works o b after
operation-works x =
    let w = works x.does in
    let d = dropped-tells x.ends in
    let a = w.ends in
    let m = w.makes in
    let c = d.ends in
    let k = adds-made d.adds in
    let t : length (deinits_of (Says x.answer ∷ x.answered)) ≡ length (deinits_of x.answered) = ap (λ ns. length ns) (answer-told x.answer x.answered (no-deinit x.does)) in
    record {
      ends = omega arith;
      makes = omega arith;
      acts = λ m fits f. adds-acts m d.adds (w.acts m fits f);
      names = λ m fits f.
          let g = adds-names m d.adds f in
          let h = w.names m fits g.0 in (h.0, λ l. g.1 (answer-fits m x.does fits g.0, h.1 l));
    }

-- ---- programs

news-taken : (program : List Op) (i : ℕ) (o : Op) → slice_get program i ≡ Some o → count_by is_new (take (i + 1) program) ≡ count_by is_new (take i program) + news o
news-taken program i o there = go (is_new o) (ap is_new (get_or_from_slice_get program i o o there))
  where
    go : (b : Bool) → is_new (get_or program i o) ≡ b → count_by is_new (take (i + 1) program) ≡ count_by is_new (take i program) + one_more_if b 0
    go true e = count_by_more_yes is_new program i o (slice_get_within program i o there) e
    go false e = let a = count_by_more_no is_new program i o (slice_get_within program i o there) e in omega arith

-- along a program there are more and more
news-grow : (program : List Op) (i j : ℕ) → i ≤ j → count_by is_new (take i program) ≤ count_by is_new (take j program)
news-grow [] zero j l = omega arith
news-grow [] (suc i) j l = omega arith
news-grow (o ∷ program) zero j l = omega arith
news-grow (o ∷ program) (suc i) zero l = absurd (omega arith)
news-grow (o ∷ program) (suc i) (suc j) l =
    let w : Op → ℕ = λ x. cond (is_new x) 1 0 in
    let a : count_by is_new (o ∷ take i program) ≡ w o + count_by is_new (take i program) = sum_by-cons w o (take i program) in
    let b : count_by is_new (o ∷ take j program) ≡ w o + count_by is_new (take j program) = sum_by-cons w o (take j program) in
    let c = news-grow program i j (omega arith) in
    omega arith

-- the operations of a program fit
abbrev pub OpsFit : ℕ → List Op → Type 0
OpsFit m program = (i : ℕ) (o : Op) → slice_get program i ≡ Some o → OpFits m o

-- what a thread's notes tell of its program
pub record Worked (program : List Op) (most : ℕ) (notes : List Note) : Type 0 where
  pub ends : length (deinits_of notes) ≡ finishes_of notes
  pub makes : made_of notes ≤ most
  pub acts : (m : ℕ) → OpsFit m program → ActsFit m notes
  pub names : (m : ℕ) → OpsFit m program → NamesFit m notes → LinesFit m notes

done-works : {shape : HeapShape} {p : ℕ} {came : Hands} {program : List Op} {count n : ℕ} {vars : Variables} {now : List Note} →
    OpsDone shape p came program count n vars now → Worked program (count_by is_new (take n program)) now
done-works (no_ops e) = record { ends = refl; makes = omega arith; acts = λ m fits. tt; names = λ m fits f. tt }
done-works {program = program} (one {i = i} {n = n} {o = o} d there e x) =
    let h = done-works d in
    let w = operation-works x in
    let a = h.ends in
    let m = h.makes in
    let b = w.ends in
    let k = w.makes in
    let t = news-taken program i o there in
    let same' : count_by is_new (take n program) ≡ count_by is_new (take (i + 1) program) = ap (λ j. count_by is_new (take j program)) e in
    record {
      ends = omega arith;
      makes = omega arith;
      acts = λ m fits. w.acts m (fits i o there) (h.acts m fits);
      names = λ m fits f. let g = w.names m (fits i o there) f in g.1 (h.names m fits g.0);
    }
done-works {program = program} (block {i = i} {n = n} d there is next forth) =
    let h = done-works d in
    let m = h.makes in
    let grow = news-grow program i n (omega arith) in
    record { ends = h.ends; makes = omega arith; acts = h.acts; names = h.names }

-- what is added behind
then-adds : {program : List Op} {most : ℕ} {b ns : List Note} → Worked program most b → Tells 0 b ns → Worked program most ns
then-adds w t =
    let a = w.ends in
    let m = w.makes in
    let b = t.ends in
    let k = adds-made t.adds in
    record {
      ends = omega arith;
      makes = omega arith;
      acts = λ m fits. adds-acts m t.adds (w.acts m fits);
      names = λ m fits f. let g = adds-names m t.adds f in g.1 (w.names m fits g.0);
    }

scope-tells : {shape : HeapShape} {first vars : Variables} {v : ℕ} {b ns : List Note} → ScopeEnds shape first v vars b ns → Tells 0 b ns
scope-tells begins = then-begun 0 same
scope-tells (var_nil s l e w) = scope-tells s
scope-tells (var_dropped s l e w v d) = over (scope-tells s) (drop-tells d)

program-works : {shape : HeapShape} {p count : ℕ} {came : Hands} {program : List Op} {notes : List Note} → IsProgram shape p came program count notes →
    Worked program (count_by is_new program) notes
program-works {program = program} {notes = notes} x =
    subst (λ n. Worked program n notes) (ap (count_by is_new) (take_all (length program) program (le (length program)))) (then-adds (done-works x.ops) (scope-tells x.scope))
  where
    le : (n : ℕ) → n ≤ n
    le n = omega arith

end-tells : {shape : HeapShape} {came : Hands} {n : ℕ} {notes : List Note} → GlobalsCleared shape came n notes → Tells 0 [] notes
end-tells end_begins = then-begun 0 same
end-tells (global_nil c l e) = over (end-tells c) (record { ends = omega arith; adds = did none_added refl })
end-tells (cleared c l e k r d) = over (end-tells c) (over (record { ends = omega arith; adds = did none_added refl }) (drop-tells d))

-- ---- lines

-- each line is an answer or a deinit
lines-told : (ns : List Note) → length (lines_of ns) ≡ length (answered (lines_of ns)) + length (deinits_of ns)
lines-told [] = refl
lines-told (Did a ∷ ns) = lines-told ns
lines-told (Says (answers.New name) ∷ ns) = let ih = lines-told ns in omega arith
lines-told (Says answers.Full ∷ ns) = let ih = lines-told ns in omega arith
lines-told (Says (answers.Got name) ∷ ns) = let ih = lines-told ns in omega arith
lines-told (Says answers.Ok ∷ ns) = let ih = lines-told ns in omega arith
lines-told (Says answers.Nil ∷ ns) = let ih = lines-told ns in omega arith
lines-told (Says answers.Dead ∷ ns) = let ih = lines-told ns in omega arith
lines-told (Says answers.NoEntry ∷ ns) = let ih = lines-told ns in omega arith
lines-told (Says answers.CountFull ∷ ns) = let ih = lines-told ns in omega arith
lines-told (Says (answers.Deinit name) ∷ ns) = let ih = lines-told ns in omega arith
lines-told (Operation k ∷ ns) = lines-told ns
lines-told (Name s name ∷ ns) = lines-told ns
lines-told (Entry s entry ∷ ns) = lines-told ns
lines-told (NeedsEntry s list ∷ ns) = lines-told ns
lines-told (Nil c ∷ ns) = lines-told ns
lines-told (Refers c kind place ∷ ns) = lines-told ns

answered-behind : (n : ℕ) (names : List ObjectName) (ls : List Line) → answered (map (deinit_line n) names ++ ls) ≡ answered ls
answered-behind n [] ls = refl
answered-behind n (x ∷ names) ls = answered-behind n names ls

answered-none : (n : ℕ) (names : List ObjectName) → answered (map (deinit_line n) names) ≡ []
answered-none n [] = refl
answered-none n (x ∷ names) = answered-none n names

fall-length : (n : ℕ) (ks : List ℕ) → Fall n ks → length ks ≤ n
fall-length n [] f = omega arith
fall-length n (k ∷ ks) f = let some = f.0 in let most = f.1 in let rest = fall-length (k - 1) ks f.2 in omega arith

-- ---- threads

-- the phases of a thread, and its operations in one list
abbrev pub phases_of : Script → ℕ → List (List Op)
phases_of script p = phases_in (if p == 0 then None else slice_get script.threads (p - 1))

abbrev pub running : Script → ℕ → List Op
running script p = in_one_list 0 (phases_of script p)

declared-phases : (script : Script) (p : ℕ) (decl : ThreadDecl) → 1 ≤ p → slice_get script.threads (p - 1) ≡ Some decl → phases_of script p ≡ decl.phases
declared-phases script p decl some at =
    ap (λ b. phases_in (cond b None (slice_get script.threads (p - 1)))) (ne_eqb p 0 (λ e. omega (arith, e, some))) ∙ ap phases_in at

-- the operations of a thread that is declared
pub declared-ops : (script : Script) (p : ℕ) (decl : ThreadDecl) → 1 ≤ p → slice_get script.threads (p - 1) ≡ Some decl → operations_of script p ≡ flat_map (λ (ops : List Op). ops) decl.phases
declared-ops script p decl some at = ap (λ (phases : List (List Op)). flat_map (λ (ops : List Op). ops) phases) (declared-phases script p decl some at)

-- in one list as many make an object
news-moved : (n : ℕ) (ops : List Op) → count_by is_new (map (moved_behind n) ops) ≡ count_by is_new ops
news-moved n [] = refl
news-moved n (o ∷ ops) =
    let w : Op → ℕ = λ x. cond (is_new x) 1 0 in
    let a : count_by is_new (moved_behind n o ∷ map (moved_behind n) ops) ≡ w (moved_behind n o) + count_by is_new (map (moved_behind n) ops) = sum_by-cons w (moved_behind n o) (map (moved_behind n) ops) in
    let b : count_by is_new (o ∷ ops) ≡ w o + count_by is_new ops = sum_by-cons w o ops in
    let c = news-moved n ops in
    let same-news : w (moved_behind n o) ≡ w o = ap (λ (b : Bool). cond b 1 0) (moved-new o) in
    omega arith
  where
    moved-new : (o : Op) → is_new (moved_behind n o) ≡ is_new o
    moved-new (op.New to class) = refl
    moved-new (op.Copy to from) = refl
    moved-new (op.Drop var) = refl
    moved-new (op.Move to from) = refl
    moved-new (op.Unown to of) = refl
    moved-new (op.Weak to of) = refl
    moved-new (op.Load to of) = refl
    moved-new (op.Get to c) = refl
    moved-new (op.Set c from) = refl
    moved-new (op.IfNil var to) = refl
    moved-new (op.IfSome var to) = refl

news-in-one : (n : ℕ) (phases : List (List Op)) → count_by is_new (in_one_list n phases) ≡ count_by is_new (flat_map (λ (ops : List Op). ops) phases)
news-in-one n [] = refl
news-in-one n (ops ∷ phases) =
    let w : Op → ℕ = λ x. cond (is_new x) 1 0 in
    let rest = in_one_list (n + length ops) phases in
    let flat = flat_map (λ (xs : List Op). xs) phases in
    let a : count_by is_new (map (moved_behind n) ops ++ rest) ≡ count_by is_new (map (moved_behind n) ops) + count_by is_new rest = sum_by-append w (map (moved_behind n) ops) rest in
    let b : count_by is_new (ops ++ flat) ≡ count_by is_new ops + count_by is_new flat = sum_by-append w ops flat in
    let c = news-moved n ops in
    let d = news-in-one (n + length ops) phases in
    omega arith

pub class_count : (script : Script) → valid.IsScript script → length script.shape.classes ≡ length script.classes
class_count script is = ap (λ cs. length cs) is.heading.of_classes ∙ length-map script.classes (λ (c : ClassDecl). record { fields = valid.field_refs c.fields; immortal = c.immortal })

-- the notes of a thread: what they tell of its operations, a line for each of these that is run and one for each deinit
pub record Told (script : Script) (p : ℕ) (notes : List Note) : Type 0 where
  pub worked : Worked (running script p) (count_by is_new (operations_of script p)) notes
  pub lines : length (lines_of notes) ≤ length (operations_of script p) + length (deinits_of notes)

pub spelled-told : (script : Script) (came : Hands) (p : ℕ) (notes : List Note) → Spells script came p notes → Told script p notes
spelled-told script came p notes (thread {decl = decl} some at x) =
    subst (λ (phases : List (List Op)). Worked (in_one_list 0 phases) (count_by is_new (flat_map (λ (ops : List Op). ops) phases)) notes → length (lines_of notes) ≤ length (flat_map (λ (ops : List Op). ops) phases) + length (deinits_of notes) → Told script p notes)
    (declared-phases script p decl some at) (λ w l. record { worked = w; lines = l })
    (subst (λ n. Worked (operations decl) n notes) (news-in-one 0 decl.phases) (program-works x)) lines
  where
    lines : length (lines_of notes) ≤ length (flat_map (λ (ops : List Op). ops) decl.phases) + length (deinits_of notes)
    lines =
        let t = programs_numbered script.shape p came (operations decl) (length decl.vars) notes x in
        let a = lines-told notes in
        let b : length (answered (lines_of notes)) ≡ length (answered t.worked) = ap (λ ls. length (answered ls)) t.lines ∙ ap (λ ns. length ns) (answered-behind 0 t.deinits t.worked) in
        let c = fall-length (numbered (operations decl)) (answered t.worked) t.answers in
        let d : numbered (operations decl) ≤ length (operations decl) = count_by-le-length (λ o. not (begins_block o)) (operations decl) in
        let e = length_in_one 0 decl.phases in
        omega arith
spelled-told script came p notes (end {n = n} c e) = record { worked = then-adds nothing (end-tells c); lines = lines }
  where
    nothing : Worked [] 0 []
    nothing = record { ends = refl; makes = omega arith; acts = λ m fits. tt; names = λ m fits f. tt }

    lines : length (lines_of notes) ≤ 0 + length (deinits_of notes)
    lines =
        let t = end_sections_told script.shape came n notes c in
        let a = lines-told notes in
        let b : length (answered (lines_of notes)) ≡ 0 = ap (λ ls. length (answered ls)) t.1 ∙ ap (λ ns. length ns) (answered-none 0 t.0) in
        omega arith

-- the operations of a script name its classes
pub ops_fit : (script : Script) (p : ℕ) → valid.IsScript script → OpsFit (length script.shape.classes) (running script p)
ops_fit script p is = go (eqb p 0) (slice_get script.threads (p - 1)) refl
  where
    go : (b : Bool) (d : Option ThreadDecl) → slice_get script.threads (p - 1) ≡ d → OpsFit (length script.shape.classes) (in_one_list 0 (phases_in (cond b None d)))
    go true d at i o there = absurd cc
    go false None at i o there = absurd cc
    go false (Some decl) at i o there =
        let t = all-at (valid.IsThread script.classes script.globals) script.threads (p - 1) decl is.threads at in
        subst (λ m. OpFits m o) (sym (class_count script is)) (op-fits script.classes script.globals decl.vars o (ops_are script.classes script.globals decl t i o there))
