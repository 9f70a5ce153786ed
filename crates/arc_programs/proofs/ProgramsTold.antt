-- The lines that an operation, a program and the end section put down.
use Rattle.std.proofs.Common.{◌≡◌, ◌≤◌, ◌+◌, ◌-◌, ℕ, suc, true, false, true≢false, List, [], ◌∷◌, ◌++◌, refl, sym, ap, subst, ◌∙◌, append_assoc, arith}
use Rattle.std.specs.Prelude.{map, take, length, slice_get, Option, Some}
use Rattle.std.specs.List.{list_all}
use Rattle.std.proofs.lemmas.Bool.{and_parts}
use Rattle.std.proofs.lemmas.List.{map-append}
use Rattle.std.proofs.lemmas.Option.{slice_get_within}
use Rattle.std.proofs.Math.Seq.{take-length}
use Rattle.arc_model.specs.declared.answer.Answer.{Answer}
use Rattle.arc_model.specs.declared.event.ObjectName.{ObjectName}
use Rattle.arc_model.specs.declared.event.Act.{Act}
use Rattle.arc_model.specs.declared.shape.Kind.{Kind}
use Rattle.arc_model.specs.Shapes.{HeapShape}
use Rattle.arc_spelling.specs.Spelling.{Note, is_fact, FieldsDone, IsEnd, IsDrop, IsCascade}
use Rattle.arc_spelling.specs.Spelling.Note.{Did, Line as Says, Operation, Name, Entry, NeedsEntry, Nil, Refers}
use Rattle.arc_spelling.specs.Spelling.IsEnd.{inline, gone_more, gone_last}
use Rattle.arc_spelling.specs.Spelling.FieldsDone.{named, noted, nil, taken}
use Rattle.arc_spelling.specs.Spelling.IsDrop.{more, last_strong, last_unowned, last_weak}
use Rattle.arc_spelling.specs.Spelling.IsCascade.{finish_more, finish_last}
use Rattle.arc_spelling.specs.SpellingGains.{Spare, IsReady, IsSettled, IsGain, IsRefused}
use Rattle.arc_spelling.specs.SpellingGains.IsReady.{start, noted as ready_noted, claimed, published}
use Rattle.arc_spelling.specs.SpellingGains.IsSettled.{unclaimed, published as stays_published, given_back}
use Rattle.arc_spelling.specs.SpellingGains.IsRefused.{no_entry as entry_refused}
use Rattle.arc_script.specs.declared.answer.Line.{Line}
use Rattle.arc_script.specs.declared.script.Op.{Op}
use Rattle.arc_script.specs.Valid.{begins_block}
use Rattle.arc_script.specs.OneList.{numbered, HasNoBlock}
use Rattle.arc_script.proofs.OneList.{number_next, numbers_grow, number_is_place}
use Rattle.arc_programs.specs.Variables.{Held, Variables}
use Rattle.arc_programs.specs.Programs.{Hands, IsFromNil, IsDropped, Source, HasSource, IsAnswered, OpsDone, ScopeEnds, GlobalsCleared}
use Rattle.arc_programs.specs.Programs.IsDropped.{nothing, dropped}
use Rattle.arc_programs.specs.Programs.IsFromNil.{copy as nil_copy, move as nil_move, unown as nil_unown, weak as nil_weak, load as nil_load, get as nil_get}
use Rattle.arc_programs.specs.Programs.HasSource.{copy, unown, weak, load, get}
use Rattle.arc_programs.specs.Programs.IsAnswered.{made, full, copied, unowned_formed, weak_formed, loaded, found_dead, weakly_loaded, found_nil, looked, got, put_in_nil, swapped, no_owner, given_up, nothing_there, moved, from_nil, count_full, no_entry}
use Rattle.arc_programs.specs.Programs.OpsDone.{none, one, block}
use Rattle.arc_programs.specs.Programs.ScopeEnds.{begins, nil as var_nil, dropped as var_dropped}
use Rattle.arc_programs.specs.Programs.GlobalsCleared.{begins as end_begins, nil as global_nil, cleared}
use Rattle.arc_programs.specs.ProgramsLines.{number_of, lines_of, is_deinit, deinit_line, answered, down_from}
use Rattle.arc_programs.specs.ProgramsLaws.{OperationsHaveLines, NeverRise, Fall, ProgramsAreNumbered, EndSectionsTellDeinits}

-- deinits alone were told, as the same operation's
record Deinits (before after : List Note) : Type 0 where
  names : List ObjectName
  lines : lines_of after ≡ map (deinit_line (number_of before)) names ++ lines_of before
  number : number_of after ≡ number_of before

-- nothing was told
record Quiet (before after : List Note) : Type 0 where
  lines : lines_of after ≡ lines_of before
  number : number_of after ≡ number_of before

no-deinits : {b : List Note} → Deinits b b
no-deinits = record { names = []; lines = refl; number = refl }

quietly : {b ns after : List Note} → Quiet ns after → Deinits b ns → Deinits b after
quietly q d = record { names = d.names; lines = q.lines ∙ d.lines; number = q.number ∙ d.number }

both : {b ns after : List Note} → Deinits b ns → Deinits ns after → Deinits b after
both {b = b} {ns = ns} {after = after} d e =
    record {
      names = e.names ++ d.names;
      lines =
          e.lines
          ∙ ap (λ n. map (deinit_line n) e.names ++ lines_of ns) d.number
          ∙ ap (λ ls. map (deinit_line (number_of b)) e.names ++ ls) d.lines
          ∙ sym (append_assoc (map (deinit_line (number_of b)) e.names) (map (deinit_line (number_of b)) d.names) (lines_of b))
          ∙ ap (λ ls. ls ++ lines_of b) (sym (map-append (deinit_line (number_of b)) e.names d.names));
      number = e.number ∙ d.number;
    }

fact-quiet : (n : Note) (ns : List Note) → is_fact n ≡ true → Quiet ns (n ∷ ns)
fact-quiet (Did a) ns e = absurd cc
fact-quiet (Says a) ns e = absurd cc
fact-quiet (Operation k) ns e = absurd cc
fact-quiet (Name s name) ns e = record { lines = refl; number = refl }
fact-quiet (Entry s o) ns e = record { lines = refl; number = refl }
fact-quiet (NeedsEntry s l) ns e = record { lines = refl; number = refl }
fact-quiet (Nil c) ns e = record { lines = refl; number = refl }
fact-quiet (Refers c kind place) ns e = record { lines = refl; number = refl }

end-quiet : {slot : ℕ} {b ns : List Note} → IsEnd slot b ns → Quiet b ns
end-quiet inline = record { lines = refl; number = refl }
end-quiet gone_more = record { lines = refl; number = refl }
end-quiet gone_last = record { lines = refl; number = refl }

mutual
  fields-told : {slot f : ℕ} {shape : HeapShape} {name : ObjectName} {b ns : List Note} → FieldsDone shape slot name f b ns → Deinits b ns
  fields-told (named {name = name}) = record { names = name ∷ []; lines = refl; number = refl }
  fields-told (noted {n = n} {ns = ns} d e) = quietly (fact-quiet n ns e) (fields-told d)
  fields-told (nil d l e) = let h = fields-told d in record { names = h.names; lines = h.lines; number = h.number }
  fields-told (taken d l e k x) =
      let h = fields-told d in let g = drop-told x in both h (record { names = g.names; lines = g.lines; number = g.number })

  drop-told : {place k : ℕ} {shape : HeapShape} {kind : Kind} {b ns : List Note} → IsDrop shape kind place k b ns → Deinits b ns
  drop-told more = record { names = []; lines = refl; number = refl }
  drop-told (last_strong c) = let h = cascade-told c in record { names = h.names; lines = h.lines; number = h.number }
  drop-told (last_unowned x) = let h = end-quiet x in record { names = []; lines = h.lines; number = h.number }
  drop-told last_weak = record { names = []; lines = refl; number = refl }

  cascade-told : {slot : ℕ} {shape : HeapShape} {b ns : List Note} → IsCascade shape slot b ns → Deinits b ns
  cascade-told (finish_more d e) = let h = fields-told d in record { names = h.names; lines = h.lines; number = h.number }
  cascade-told (finish_last d e x) =
      let h = fields-told d in let g = end-quiet x in quietly (record { lines = g.lines; number = g.number }) h

dropped-told : {shape : HeapShape} {last : Option Held} {b after : List Note} → IsDropped shape last b after → Deinits b after
dropped-told nothing = no-deinits
dropped-told (dropped d) = drop-told d

-- ---- gains

over : {b ns after : List Note} → Quiet ns after → Quiet b ns → Quiet b after
over q r = record { lines = q.lines ∙ r.lines; number = q.number ∙ r.number }

ready-quiet : {source : Kind} {slot : ℕ} {list : Kind} {spare : Spare} {b ns : List Note} → IsReady source slot list spare b ns → Quiet b ns
ready-quiet start = record { lines = refl; number = refl }
ready-quiet (ready_noted {n = n} {ns = ns} r e) = over (fact-quiet n ns e) (ready-quiet r)
ready-quiet (claimed r e) = let h = ready-quiet r in record { lines = h.lines; number = h.number }
ready-quiet (published r) = let h = ready-quiet r in record { lines = h.lines; number = h.number }

settled-quiet : {spare : Spare} {b ns : List Note} → IsSettled spare b ns → Quiet b ns
settled-quiet unclaimed = record { lines = refl; number = refl }
settled-quiet stays_published = record { lines = refl; number = refl }
settled-quiet given_back = record { lines = refl; number = refl }

read-quiet : (read ns : List Note) → list_all is_fact read ≡ true → Quiet ns (read ++ ns)
read-quiet [] ns e = record { lines = refl; number = refl }
read-quiet (n ∷ read) ns e = let a = and_parts (is_fact n) (list_all is_fact read) e in over (fact-quiet n (read ++ ns) a.0) (read-quiet read ns a.1)

gain-quiet : {source : Kind} {slot : ℕ} {list : Kind} {act : Act} {b ns : List Note} (read : List Note) → list_all is_fact read ≡ true →
    IsGain source slot list act read b ns → Quiet b ns
gain-quiet {act = act} read e g =
    let r = ready-quiet g.ready in
    over (settled-quiet g.settled) (over (read-quiet read (Did act ∷ g.decided) e) (record { lines = r.lines; number = r.number }))

refused-quiet : {source : Kind} {slot : ℕ} {list : Kind} {b ns : List Note} → IsRefused source slot list b ns → Quiet b ns
refused-quiet (entry_refused r e) = let h = ready-quiet r in record { lines = h.lines; number = h.number }

source-quiet : {vars : Variables} {o : Op} {source : Source} {b ns : List Note} → HasSource vars o source b ns → Quiet b ns
source-quiet (copy e s) = record { lines = refl; number = refl }
source-quiet (unown e s) = record { lines = refl; number = refl }
source-quiet (weak e s) = record { lines = refl; number = refl }
source-quiet (load e s) = record { lines = refl; number = refl }
source-quiet (get e s) = record { lines = refl; number = refl }

-- ---- operations

-- an operation tells nothing before its answer, which is no deinit
record Answers (before after : List Note) (answer : Answer) : Type 0 where
  quiet : Quiet before after
  no_deinit : is_deinit answer ≡ false

still : {b after : List Note} {answer : Answer} → lines_of after ≡ lines_of b → number_of after ≡ number_of b → is_deinit answer ≡ false → Answers b after answer
still l n e = record { quiet = record { lines = l; number = n }; no_deinit = e }

gained : {b after : List Note} {answer : Answer} → Quiet b after → is_deinit answer ≡ false → Answers b after answer
gained q e = record { quiet = q; no_deinit = e }

answers : {p : ℕ} {came : Hands} {o : Op} {vars vars' : Variables} {answer : Answer} {last : Option Held} {b after : List Note} →
    IsAnswered p came o vars b vars' answer last after → Answers b after answer
answers (made k n r) = still refl refl refl
answers (full v) = still refl refl refl
answers (copied e k g r) = gained (gain-quiet [] refl g) refl
answers (unowned_formed e k g r) = gained (gain-quiet [] refl g) refl
answers (weak_formed {entry = entry} {held = held} e k g r) = gained (gain-quiet (Entry held.place (Some entry) ∷ []) refl g) refl
answers (loaded {name = name} {held = held} e u k g r) = gained (gain-quiet (Name held.place name ∷ []) refl g) refl
answers (found_dead e u g r) = gained (gain-quiet [] refl g) refl
answers (weakly_loaded {slot = slot} {name = name} {held = held} e u k g r) = gained (gain-quiet (Name slot name ∷ Entry slot (Some held.place) ∷ []) refl g) refl
answers (found_nil e u g r) = gained (gain-quiet [] refl g) refl
answers (looked e r) = still refl refl refl
answers (got e k c g r) = let q = gain-quiet [] refl g in still q.lines q.number refl
answers (put_in_nil e h v) = still refl refl refl
answers (swapped e h v k c l) = still refl refl refl
answers (no_owner e v n) = still (ap lines_of n) (ap number_of n) refl
answers (given_up e r n) = still (ap lines_of n) (ap number_of n) refl
answers (nothing_there e v n) = still (ap lines_of n) (ap number_of n) refl
answers (moved e r v n) = still (ap lines_of n) (ap number_of n) refl
answers (from_nil f r n) = still (ap lines_of n) (ap number_of n) refl
answers (count_full s g v) = gained (over (gain-quiet [] refl g) (source-quiet s)) refl
answers (no_entry s g v) = gained (over (refused-quiet g) (source-quiet s)) refl

pub operations_told : OperationsHaveLines
operations_told shape p came n o vars vars' before after x =
    let a = answers x.does in
    let d = dropped-told x.ends in
    record {
      answer = x.answer;
      deinits = d.names;
      lines =
          d.lines
          ∙ ap (λ m. map (deinit_line m) d.names ++ record { operation = m; answer = x.answer } ∷ lines_of x.answered) a.quiet.number
          ∙ ap (λ ls. map (deinit_line n) d.names ++ record { operation = n; answer = x.answer } ∷ ls) a.quiet.lines;
      no_deinit = a.no_deinit;
    }

-- ---- programs

answered-behind : (n : ℕ) (names : List ObjectName) (ls : List Line) → answered (map (deinit_line n) names ++ ls) ≡ answered ls
answered-behind n [] ls = refl
answered-behind n (x ∷ names) ls = answered-behind n names ls

rises-not : (n : ℕ) (names : List ObjectName) (ls : List Line) → 1 ≤ n → NeverRise n ls → NeverRise n (map (deinit_line n) names ++ ls)
rises-not n [] ls e r = r
rises-not n (x ∷ names) ls e r = (e, omega arith, rises-not n names ls e r)

later-never-rise : (i n : ℕ) (ls : List Line) → i ≤ n → NeverRise i ls → NeverRise n ls
later-never-rise i n [] e r = tt
later-never-rise i n (l ∷ ls) e r = let a = r.1 in (r.0, omega arith, r.2)

record Worked (program : List Op) (i : ℕ) (notes : List Note) : Type 0 where
  answers : Fall (numbered (take i program)) (answered (lines_of notes))
  each : HasNoBlock program → (i ≤ length program) × (answered (lines_of notes) ≡ down_from i)
  numbers : NeverRise (numbered (take i program)) (lines_of notes)

answer-first : (n : ℕ) (a : Answer) (ls : List Line) → is_deinit a ≡ false → answered (record { operation = n; answer = a } ∷ ls) ≡ n ∷ answered ls
answer-first n a ls e = rw e refl

-- what is answered begins no block
from-nil-answers : {vars : Variables} {o : Op} {to : ℕ} → IsFromNil vars o to → begins_block o ≡ false
from-nil-answers (nil_copy e) = refl
from-nil-answers (nil_move e) = refl
from-nil-answers (nil_unown e) = refl
from-nil-answers (nil_weak e) = refl
from-nil-answers (nil_load e) = refl
from-nil-answers (nil_get e) = refl

source-answers : {vars : Variables} {o : Op} {source : Source} {b s : List Note} → HasSource vars o source b s → begins_block o ≡ false
source-answers (copy e s) = refl
source-answers (unown e s) = refl
source-answers (weak e s) = refl
source-answers (load e s) = refl
source-answers (get e s) = refl

no-block : {p : ℕ} {came : Hands} {o : Op} {vars vars' : Variables} {answer : Answer} {last : Option Held} {b after : List Note} →
    IsAnswered p came o vars b vars' answer last after → begins_block o ≡ false
no-block (made k n r) = refl
no-block (full v) = refl
no-block (copied e k g r) = refl
no-block (unowned_formed e k g r) = refl
no-block (weak_formed e k g r) = refl
no-block (loaded e u k g r) = refl
no-block (found_dead e u g r) = refl
no-block (weakly_loaded e u k g r) = refl
no-block (found_nil e u g r) = refl
no-block (looked e r) = refl
no-block (got e k c g r) = refl
no-block (put_in_nil e h v) = refl
no-block (swapped e h v k c l) = refl
no-block (no_owner e v n) = refl
no-block (given_up e r n) = refl
no-block (nothing_there e v n) = refl
no-block (moved e r v n) = refl
no-block (from_nil f r n) = from-nil-answers f
no-block (count_full s g v) = source-answers s
no-block (no_entry s g v) = source-answers s

falls-below : (i n : ℕ) (ks : List ℕ) → i ≤ n → Fall i ks → Fall n ks
falls-below i n [] e f = tt
falls-below i n (k ∷ ks) e f = let a = f.1 in (f.0, omega arith, f.2)

works : {shape : HeapShape} {p : ℕ} {came : Hands} {program : List Op} {count i : ℕ} {vars : Variables} {now : List Note} →
    OpsDone shape p came program count i vars now → Worked program i now
works (none e) = record { answers = tt; each = λ free. (omega arith, refl); numbers = tt }
works {shape = shape} {p = p} {came = came} {program = program} (one {i = i} {n = j} {o = o} {vars = vars} {vars' = vars'} {b = b} {now = now} d there e x) =
    let w = works d in
    let n = numbered (take j program) in
    let m = numbered (take i program) in
    let t = operations_told shape p came n o vars vars' b now x in
    let next : n ≡ m + 1 = ap (λ k. numbered (take k program)) e ∙ number_next program i o there (no-block x.does) in
    let said : answered (lines_of now) ≡ n ∷ answered (lines_of b) =
    ap answered t.lines ∙ answered-behind n t.deinits (record { operation = n; answer = t.answer } ∷ lines_of b) ∙ answer-first n t.answer (lines_of b) t.no_deinit in
    record {
      answers = rw said (omega arith, omega arith, falls-below m (n - 1) (answered (lines_of b)) (omega arith) w.answers);
      each = λ free.
          let a = w.each free in
          let most = slice_get_within program i o there in
          let is : n ≡ j = number_is_place program j free (omega arith) in
          let more : j ≡ suc i = omega arith in
          (omega arith, said ∙ ap (λ ns. n ∷ ns) a.1 ∙ ap (λ k. k ∷ down_from i) (is ∙ more) ∙ ap down_from (sym more));
      numbers =
          rw t.lines (rises-not n t.deinits (record { operation = n; answer = t.answer } ∷ lines_of b) (omega arith) (omega arith, omega arith, later-never-rise m n (lines_of b) (omega arith) w.numbers));
    }
works {program = program} (block {i = i} {n = n} {o = o} {now = now} d there is next forth) =
    let w = works d in
    let grow = numbers_grow program i n (omega arith) in
    record {
      answers = falls-below (numbered (take i program)) (numbered (take n program)) (answered (lines_of now)) grow w.answers;
      each = λ free. absurd (true≢false (sym is ∙ free i o there));
      numbers = later-never-rise (numbered (take i program)) (numbered (take n program)) (lines_of now) grow w.numbers;
    }

scope-told : {shape : HeapShape} {first vars : Variables} {v : ℕ} {b ns : List Note} → ScopeEnds shape first v vars b ns → Deinits (Operation 0 ∷ b) ns
scope-told begins = no-deinits
scope-told (var_nil s l e w) = scope-told s
scope-told (var_dropped s l e w v d) = both (scope-told s) (drop-told d)

pub programs_numbered : ProgramsAreNumbered
programs_numbered shape p came program count notes x =
    let w = works x.ops in
    let d = scope-told x.scope in
    let whole : numbered (take (length program) program) ≡ numbered program = ap numbered (take-length program) in
    record {
      deinits = d.names;
      worked = lines_of x.worked;
      lines = d.lines;
      answers = subst (λ n. Fall n (answered (lines_of x.worked))) whole w.answers;
      each = λ free. (w.each free).1;
      numbers = subst (λ n. NeverRise n (lines_of x.worked)) whole w.numbers;
    }

end-told : {shape : HeapShape} {came : Hands} {n : ℕ} {notes : List Note} → GlobalsCleared shape came n notes → Deinits (Operation 0 ∷ []) notes
end-told end_begins = no-deinits
end-told (global_nil c l e) = let h = end-told c in record { names = h.names; lines = h.lines; number = h.number }
end-told (cleared c l e k r d) = let h = end-told c in let g = drop-told d in both h (record { names = g.names; lines = g.lines; number = g.number })

append-none : (ls : List Line) → ls ++ [] ≡ ls
append-none [] = refl
append-none (l ∷ ls) = ap (λ xs. l ∷ xs) (append-none ls)

pub end_sections_told : EndSectionsTellDeinits
end_sections_told shape came n notes c = let h = end-told c in (h.names, h.lines ∙ append-none (map (deinit_line 0) h.names))
