-- Two histories of one script: in one the phases follow, in the other they don't.
use Rattle.std.proofs.Common.{◌≡◌, ℕ, zero, suc, ◌-◌, ◌≤◌, List, [], ◌∷◌, ◌++◌, length, Some, None, refl, sym, ap, ◌∙◌, subst, arith, lit≤}
use Rattle.std.specs.Prelude.{Option, slice_get, take}
use Rattle.std.proofs.lemmas.List.{length-map}
use Rattle.arc_model.specs.declared.answer.Answer.{Answer}
use Rattle.arc_model.specs.declared.answer.Answer.TheVariants as answers
use Rattle.arc_model.specs.declared.event.Act.{Act}
use Rattle.arc_model.specs.declared.event.Act.TheVariants as acts
use Rattle.arc_model.specs.declared.event.CellName.TheVariants as cells
use Rattle.arc_model.specs.declared.event.Event.{Event}
use Rattle.arc_model.specs.declared.shape.Kind.{Kind}
use Rattle.arc_model.specs.Shapes.{HeapShape}
use Rattle.arc_model.specs.History.{History, share}
use Rattle.arc_spelling.specs.Spelling.{Note, acts_of}
use Rattle.arc_spelling.specs.Spelling.Note.{Did, Line, Operation}
use Rattle.arc_spelling.specs.SpellingGains.{Spare, IsSettled, IsGain, IsRefused}
use Rattle.arc_spelling.specs.SpellingGains.IsSettled.{unclaimed, published, given_back}
use Rattle.arc_spelling.specs.SpellingGains.IsRefused.{no_entry as entry_refused}
use Rattle.arc_spelling.specs.SpellingTies.{Ties}
use Rattle.arc_spelling.specs.SpellingTies.Causes.{Judged}
use Rattle.arc_spelling.specs.SpellingTies.Ties.{start, own, other, noted}
use Rattle.arc_model.proofs.Basics.{None≢Some, Some-inj, true≢false}
use Rattle.arc_spelling.proofs.SpellTies.{share_is}
use Rattle.arc_script.specs.declared.script.Op.{Op}
use Rattle.arc_script.specs.declared.script.Op.TheVariants as op
use Rattle.arc_script.specs.declared.script.OpCell.TheVariants as opcell
use Rattle.arc_script.specs.declared.script.Script.{Script}
use Rattle.arc_script.specs.declared.script.ThreadDecl.{ThreadDecl}
use Rattle.arc_script.specs.Valid as valid
use Rattle.arc_script.specs.Valid.{begins_block}
use Rattle.arc_script.specs.OneList.{numbered}
use Rattle.arc_programs.specs.Variables.{Held, Variables}
use Rattle.arc_programs.specs.Programs.{Hands, IsAnswered, OpsDone, IsProgram}
use Rattle.arc_programs.specs.Programs.IsDropped.{nothing}
use Rattle.arc_programs.specs.Programs.IsAnswered.{looked, got, from_nil, count_full, no_entry}
use Rattle.arc_programs.specs.Programs.OpsDone.{none, one, block}
use Rattle.arc_programs.specs.Programs.ScopeEnds.{begins, nil as var_nil}
use Rattle.arc_programs.specs.Programs.GlobalsCleared.{begins as end_begins, nil as global_nil}
use Rattle.arc_programs.specs.ProgramsLines.{told}
use Rattle.arc_programs.specs.ProgramsTied.{hands_in}
use Rattle.arc_programs.specs.ProgramsTied.Spells.{thread, end}
use Rattle.arc_quiet.specs.Whole.{AllFinish}
use Rattle.arc_quiet.proofs.Small.{by, strong, bare_class, script_of, heading, bare-classes, one-var, of-first, no-blocks}
use Rattle.arc_programs_laws.specs.Phases.{HasDonePhases, PhasesFollow, PhasesAreTold}
use Rattle.arc_programs_laws.specs.Phases.HasDonePhases.{some, all}
use Rattle.arc_programs_laws.proofs.Additions.{Adds, none as none_added, fact, did, begun, told as line_told, dropped-tells}

-- ---- the script: one thread reads the global in the first phase, the other in the second

abbrev read : Op
read = op.Get 0 (opcell.Global 0)

abbrev first : ThreadDecl
first = record { vars = strong 97 0 ∷ []; phases = (read ∷ []) ∷ [] ∷ [] }

abbrev second : ThreadDecl
second = record { vars = strong 97 0 ∷ []; phases = [] ∷ (read ∷ []) ∷ [] }

abbrev readers : Script
readers = script_of (bare_class ∷ []) (strong 97 0 ∷ []) (first ∷ second ∷ [])

readers_valid : valid.IsScript readers
readers_valid = record {
  version = (lit≤ tt, lit≤ tt);
  classes_of_version = (of-first, tt);
  threads_of_version = (((of-first, tt), (tt, tt)), ((tt, ((of-first, tt), tt)), tt));
  heading = heading (bare_class ∷ []) (strong 97 0 ∷ []) bare-classes (one-var 64 0 1 (lit≤ tt) (lit≤ tt)) (tt, tt) (refl, tt);
  few_threads = lit≤ tt;
  threads = (
    record { vars = one-var 256 0 1 (lit≤ tt) (lit≤ tt); vars_allowed = (refl, tt); nested = (no-blocks 8 0 _ (refl, tt), (no-blocks 8 0 _ tt, tt)); some_phase = lit≤ tt; few_phases = lit≤ tt; ops = (((lit≤ tt, lit≤ tt, refl), tt), (tt, tt)) },
    (record { vars = one-var 256 0 1 (lit≤ tt) (lit≤ tt); vars_allowed = (refl, tt); nested = (no-blocks 8 0 _ tt, (no-blocks 8 0 _ (refl, tt), tt)); some_phase = lit≤ tt; few_phases = lit≤ tt; ops = (tt, (((lit≤ tt, lit≤ tt, refl), tt), tt)) }, tt),
  );
  few_ops = lit≤ tt;
  few_places = lit≤ tt;
  places = tt;
}

abbrev look : Act
look = acts.Look (cells.Global 0)

abbrev clear : Event
clear = by 0 (acts.Swap (cells.Global 0) None None)

-- the first reads before the second, or behind it
abbrev right : History
right = clear ∷ by 2 look ∷ by 1 look ∷ []

abbrev wrong : History
wrong = clear ∷ by 1 look ∷ by 2 look ∷ []

-- ---- the programs

abbrev done_notes : List Note
done_notes = Line answers.Nil ∷ Did look ∷ Operation 1 ∷ []

abbrev all_notes : List Note
all_notes = Operation 0 ∷ done_notes

abbrev end_notes : List Note
end_notes = Did (acts.Swap (cells.Global 0) None None) ∷ Operation 0 ∷ []

read_done : (p : ℕ) (came : Hands) → OpsDone readers.shape p came (read ∷ []) 1 1 (None ∷ []) done_notes
read_done p came = one (none refl) refl refl (record { answer = answers.Nil; last = None; answered = Did look ∷ Operation 1 ∷ []; does = looked refl (record { replaced = refl; old = refl }); ends = nothing })

program : (p : ℕ) (came : Hands) → IsProgram readers.shape p came (read ∷ []) 1 all_notes
program p came = record { vars = None ∷ []; worked = done_notes; ops = read_done p came; left = None ∷ []; scope = var_nil begins (omega arith) refl refl }

read_tied : (p : ℕ) (h : History) → Ties Judged readers.shape p [] h → Ties Judged readers.shape p done_notes (by p look ∷ h)
read_tied p h t = noted (own (noted t tt)) tt

all_tied : (p : ℕ) (h : History) → Ties Judged readers.shape p [] h → Ties Judged readers.shape p all_notes (by p look ∷ h)
all_tied p h t = noted (read_tied p h t) tt

right_finish : AllFinish Judged readers right
right_finish zero l = (told end_notes, record { notes = end_notes; tied = own (noted (other (other start refl) refl) tt); spelled = end (global_nil end_begins (omega arith) refl) refl; lines_are = refl })
right_finish (suc zero) l = (told all_notes, record { notes = all_notes; tied = other (other (all_tied 1 [] start) refl) refl; spelled = thread (omega arith) refl (program 1 (hands_in 1 right)); lines_are = refl })
right_finish (suc (suc zero)) l = (told all_notes, record { notes = all_notes; tied = other (all_tied 2 (by 1 look ∷ []) (other start refl)) refl; spelled = thread (omega arith) refl (program 2 (hands_in 2 right)); lines_are = refl })
right_finish (suc (suc (suc p))) l = absurd (omega (arith, l))

wrong_finish : AllFinish Judged readers wrong
wrong_finish zero l = (told end_notes, record { notes = end_notes; tied = own (noted (other (other start refl) refl) tt); spelled = end (global_nil end_begins (omega arith) refl) refl; lines_are = refl })
wrong_finish (suc zero) l = (told all_notes, record { notes = all_notes; tied = other (all_tied 1 (by 2 look ∷ []) (other start refl)) refl; spelled = thread (omega arith) refl (program 1 (hands_in 1 wrong)); lines_are = refl })
wrong_finish (suc (suc zero)) l = (told all_notes, record { notes = all_notes; tied = other (other (all_tied 2 [] start) refl) refl; spelled = thread (omega arith) refl (program 2 (hands_in 2 wrong)); lines_are = refl })
wrong_finish (suc (suc (suc p))) l = absurd (omega (arith, l))

-- ---- where the phases follow

both_done : (k : ℕ) (h : History) → HasDonePhases readers k 1 first h → HasDonePhases readers k 2 second h → (p : ℕ) (decl : ThreadDecl) → 1 ≤ p → slice_get readers.threads (p - 1) ≡ Some decl → HasDonePhases readers k p decl h
both_done k h a b zero decl l at = absurd (omega (arith, l))
both_done k h a b (suc zero) decl l at = subst (λ d. HasDonePhases readers k 1 d h) (Some-inj at) a
both_done k h a b (suc (suc zero)) decl l at = subst (λ d. HasDonePhases readers k 2 d h) (Some-inj at) b
both_done k h a b (suc (suc (suc p))) decl l at =
    let e : suc (suc (suc p)) - 1 ≡ suc (suc p) = omega arith in absurd (None≢Some decl (sym (ap (slice_get readers.threads) e) ∙ at))

follow : PhasesFollow readers right
follow zero = record {
  later = right;
  earlier = [];
  split = refl;
  done = both_done 0 [] (some (omega arith) start (none refl)) (some (omega arith) start (none refl));
  none_of_main = refl;
}
follow (suc zero) = record {
  later = clear ∷ by 2 look ∷ [];
  earlier = by 1 look ∷ [];
  split = refl;
  done = both_done 1 (by 1 look ∷ []) (some (omega arith) (read_tied 1 [] start) (read_done 1 (hands_in 1 (by 1 look ∷ [])))) (some (omega arith) (other start refl) (none refl));
  none_of_main = refl;
}
follow (suc (suc k)) = record {
  later = clear ∷ [];
  earlier = by 2 look ∷ by 1 look ∷ [];
  split = refl;
  done = both_done (suc (suc k)) (by 2 look ∷ by 1 look ∷ []) (all (omega arith) (other (all_tied 1 [] start) refl) (program 1 (hands_in 1 (by 2 look ∷ by 1 look ∷ []))))
      (all (omega arith) (all_tied 2 (by 1 look ∷ []) (other start refl)) (program 2 (hands_in 2 (by 2 look ∷ by 1 look ∷ []))));
  none_of_main = refl;
}

-- ---- where they don't

-- without operations there is no event
none-done : {shape : HeapShape} {p count n : ℕ} {came : Hands} {program : List Op} {vars : Variables} {now : List Note} → OpsDone shape p came program count n vars now → n ≡ 0 → now ≡ []
none-done (none e) z = refl
none-done (one d there e x) z = absurd (omega arith)
none-done (block d there is next forth) z = absurd (omega arith)

settled-acts : {spare : Spare} {b after : List Note} → IsSettled spare b after → 1 ≤ length (acts_of b) → 1 ≤ length (acts_of after)
settled-acts unclaimed l = l
settled-acts published l = l
settled-acts given_back l = omega arith

gain-acts : {source : Kind} {slot : ℕ} {list : Kind} {act : Act} {b after : List Note} → IsGain source slot list act [] b after → 1 ≤ length (acts_of after)
gain-acts g = settled-acts g.settled (omega arith)

refused-acts : {source : Kind} {slot : ℕ} {list : Kind} {b after : List Note} → IsRefused source slot list b after → 1 ≤ length (acts_of after)
refused-acts (entry_refused r e) = omega arith

-- a read of the global is an event
answer-acts : {p : ℕ} {came : Hands} {vars vars' : Variables} {answer : Answer} {last : Option Held} {b after : List Note} → IsAnswered p came read vars b vars' answer last after → 1 ≤ length (acts_of after)
answer-acts (looked e r) = omega arith
answer-acts (got e k c g r) = gain-acts g
answer-acts (from_nil f r n) = absurd (elim f [ ])
answer-acts (count_full s g v) = gain-acts g
answer-acts (no_entry s g v) = refused-acts g

fact-acts : (n : Note) (ns : List Note) → length (acts_of ns) ≤ length (acts_of (n ∷ ns))
fact-acts (Did a) ns = omega arith
fact-acts (Line a) ns = omega arith
fact-acts (Operation k) ns = omega arith
fact-acts _ ns = omega arith

adds-acts : {b after : List Note} → Adds b after → length (acts_of b) ≤ length (acts_of after)
adds-acts none_added = omega arith
adds-acts (fact {n = n} {ns = ns} a e) = let ih = adds-acts a in let c = fact-acts n ns in omega arith
adds-acts (did a e) = let ih = adds-acts a in omega arith
adds-acts (begun a) = adds-acts a
adds-acts (line_told a) = adds-acts a

one-done : {shape : HeapShape} {p n : ℕ} {came : Hands} {vars : Variables} {now : List Note} → OpsDone shape p came (read ∷ []) 1 n vars now → n ≡ 1 → 1 ≤ length (acts_of now)
one-done (none e) z = absurd (omega arith)
one-done {p = p} {came = came} (one {i = i} {n = n} {o = o} {vars = vars} {vars' = vars'} {b = b} d there e x) z =
    let first-place : i ≡ 0 = omega arith in
    let is : o ≡ read = Some-inj (sym there ∙ ap (slice_get (read ∷ [])) first-place) in
    let acted = answer-acts (subst (λ q. IsAnswered p came q vars (Operation (numbered (take n (read ∷ []))) ∷ b) vars' x.answer x.last x.answered) is x.does) in
    let grown = adds-acts (dropped-tells x.ends).adds in
    omega arith
one-done (block {i = i} d there is next forth) z =
    let first-place : i ≡ 0 = omega arith in
    absurd (true≢false (sym is ∙ ap begins_block (Some-inj (sym there ∙ ap (slice_get (read ∷ [])) first-place))))

share-length : (p : ℕ) (ns : List Note) (h : History) → Ties Judged readers.shape p ns h → length (share h p) ≡ length (acts_of ns)
share-length p ns h tied = ap (λ es. length es) (sym (share_is Judged readers.shape p ns h tied)) ∙ length-map (acts_of ns) (λ a. record { thread = p; act = a })

-- behind the first phase the first thread has an event, and the second none
first-done : (h : History) → HasDonePhases readers 1 1 first h → 1 ≤ length (share h 1)
first-done h (some {notes = notes} l tied ops) = let a = one-done ops refl in let b = share-length 1 notes h tied in omega arith
first-done h (all l tied x) = absurd (omega (arith, l))

second-done : (h : History) → HasDonePhases readers 1 2 second h → length (share h 2) ≡ 0
second-done h (some {notes = notes} l tied ops) = share-length 2 notes h tied ∙ ap (λ ns. length (acts_of ns)) (none-done ops refl)
second-done h (all l tied x) = absurd (omega (arith, l))

-- no such point is in that history
no-point : (later earlier : History) → wrong ≡ later ++ earlier → 1 ≤ length (share earlier 1) → length (share earlier 2) ≡ 0 → ⊥
no-point [] earlier e in-first unread = let a : length (share earlier 2) ≡ 1 = ap (λ h. length (share h 2)) (sym e) in omega arith
no-point (x ∷ []) earlier e in-first unread =
    let t : by 1 look ∷ by 2 look ∷ [] ≡ earlier = cc in
    let a : length (share earlier 2) ≡ 1 = ap (λ h. length (share h 2)) (sym t) in omega arith
no-point (x ∷ y ∷ []) earlier e in-first unread =
    let t : by 2 look ∷ [] ≡ earlier = cc in
    let a : length (share earlier 2) ≡ 1 = ap (λ h. length (share h 2)) (sym t) in omega arith
no-point (x ∷ y ∷ z ∷ []) earlier e in-first unread =
    let t : [] ≡ earlier = cc in
    let a : length (share earlier 1) ≡ 0 = ap (λ h. length (share h 1)) (sym t) in omega arith
no-point (x ∷ y ∷ z ∷ v ∷ later) earlier e in-first unread = absurd cc

refused : PhasesFollow readers wrong → ⊥
refused follows =
    let x = follows 1 in
    no-point x.later x.earlier x.split (first-done x.earlier (x.done 1 first (omega arith) refl)) (second-done x.earlier (x.done 2 second (omega arith) refl))

pub phases_are_told : PhasesAreTold
phases_are_told = record {
  script = readers;
  right = right;
  wrong = wrong;
  right_whole = record { valid = readers_valid; legal = (refl, (refl, (refl, tt))); finish = right_finish; few = (lit≤ tt, (lit≤ tt, (lit≤ tt, tt))); last = refl };
  wrong_whole = record { valid = readers_valid; legal = (refl, (refl, (refl, tt))); finish = wrong_finish; few = (lit≤ tt, (lit≤ tt, (lit≤ tt, tt))); last = refl };
  follow = follow;
  refused = refused;
}
