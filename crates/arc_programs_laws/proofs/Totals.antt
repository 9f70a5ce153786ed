-- Over all threads of a script: as many deinit lines as strong lists were emptied, and no more lines than there is room for.
use Rattle.std.proofs.Common.{◌≡◌, ℕ, zero, suc, ◌+◌, ◌-◌, ◌≤◌, ◌<◌, cond, List, [], ◌∷◌, ◌++◌, Some, refl, sym, ap, ◌∙◌, subst, arith}
use Rattle.std.specs.Prelude.{count_by, flat_map, length, reverse, slice_get, sum_by}
use Rattle.std.proofs.lemmas.List.{length-reverse}
use Rattle.std.proofs.lemmas.List.Sums.{sum_by-append, sum_by-cons}
use Rattle.std.proofs.lemmas.List.Sorted.{sum_by-IsPermutation, IsPermutation-reverse}
use Rattle.arc_model.specs.declared.answer.Answer.{Answer}
use Rattle.arc_model.specs.declared.answer.Answer.TheVariants as answers
use Rattle.arc_model.specs.History.{History, heap_after, share, IsLegal}
use Rattle.arc_spelling.specs.Spelling.{Note, deinits_of, one_more_if}
use Rattle.arc_spelling.specs.Spelling.Note.{Did, Line as Says, Operation, Name, Entry, NeedsEntry, Nil, Refers}
use Rattle.arc_spelling.specs.SpellingTies.{Causes}
use Rattle.arc_script.specs.declared.answer.Line.{Line}
use Rattle.arc_script.specs.declared.script.Op.{Op}
use Rattle.arc_script.specs.declared.script.Script.{Script}
use Rattle.arc_script.specs.declared.script.ThreadDecl.{ThreadDecl}
use Rattle.arc_script.specs.Valid.{IsScript}
use Rattle.arc_programs.specs.Programs.{makes, made_of}
use Rattle.arc_programs.specs.ProgramsLines.{number_of, lines_of, told, is_deinit, tells_deinit}
use Rattle.arc_programs.specs.ProgramsTied.{hands_in, HasProgram}
use Rattle.arc_quiet.specs.Whole.{AllFinish, NoOtherThread}
use Rattle.arc_quiet.proofs.Leaving.{every_thread_quiet}
use Rattle.arc_programs_laws.specs.Claims.{ClaimsEnd}
use Rattle.arc_programs_laws.specs.Deinits.{deinit_lines, emptied, DeinitLinesAreEmptied}
use Rattle.arc_programs_laws.specs.Room.{is_new, new_count, operations_of, EveryLineFindsRoom}
use Rattle.arc_programs_laws.proofs.DyingCounted.{deinits_counted, none_owed}
use Rattle.arc_programs_laws.proofs.ObjectsCounted.{is_finish, objects_counted}
use Rattle.arc_programs_laws.proofs.Shares.{events_with, notes_with, sum_from, sum-le, sum-listed, shares-summed, share-le, share-noted}
use Rattle.arc_programs_laws.proofs.Works.{spelled-told, declared-ops}

-- ---- lines of one thread

counted-line : (a : Answer) (ns : List Note) → deinit_lines (lines_of (Says a ∷ ns)) ≡ cond (is_deinit a) 1 0 + deinit_lines (lines_of ns)
counted-line a ns = sum_by-cons (λ (l : Line). cond (tells_deinit l) 1 0) (record { operation = number_of ns; answer = a }) (lines_of ns)

deinits-lines : (ns : List Note) → deinit_lines (lines_of ns) ≡ length (deinits_of ns)
deinits-lines [] = refl
deinits-lines (Did a ∷ ns) = deinits-lines ns
deinits-lines (Says (answers.New name) ∷ ns) = let a = counted-line (answers.New name) ns in let ih = deinits-lines ns in omega arith
deinits-lines (Says answers.Full ∷ ns) = let a = counted-line answers.Full ns in let ih = deinits-lines ns in omega arith
deinits-lines (Says (answers.Got name) ∷ ns) = let a = counted-line (answers.Got name) ns in let ih = deinits-lines ns in omega arith
deinits-lines (Says answers.Ok ∷ ns) = let a = counted-line answers.Ok ns in let ih = deinits-lines ns in omega arith
deinits-lines (Says answers.Nil ∷ ns) = let a = counted-line answers.Nil ns in let ih = deinits-lines ns in omega arith
deinits-lines (Says answers.Dead ∷ ns) = let a = counted-line answers.Dead ns in let ih = deinits-lines ns in omega arith
deinits-lines (Says answers.NoEntry ∷ ns) = let a = counted-line answers.NoEntry ns in let ih = deinits-lines ns in omega arith
deinits-lines (Says answers.CountFull ∷ ns) = let a = counted-line answers.CountFull ns in let ih = deinits-lines ns in omega arith
deinits-lines (Says (answers.Deinit name) ∷ ns) = let a = counted-line (answers.Deinit name) ns in let ih = deinits-lines ns in omega arith
deinits-lines (Operation k ∷ ns) = deinits-lines ns
deinits-lines (Name s name ∷ ns) = deinits-lines ns
deinits-lines (Entry s entry ∷ ns) = deinits-lines ns
deinits-lines (NeedsEntry s list ∷ ns) = deinits-lines ns
deinits-lines (Nil c ∷ ns) = deinits-lines ns
deinits-lines (Refers c kind place ∷ ns) = deinits-lines ns

-- the deinit lines of a thread are as many as the deinits that it ended
thread-deinits : (causes : Causes) (script : Script) (p : ℕ) (lines : List Line) (h : History) → HasProgram causes script p lines h → deinit_lines lines ≡ events_with is_finish (share h p)
thread-deinits causes script p lines h x =
    let ls = lines_of x.notes in
    let turned : deinit_lines (told x.notes) ≡ deinit_lines ls = sum_by-IsPermutation (λ (l : Line). cond (tells_deinit l) 1 0) ls (reverse ls) (IsPermutation-reverse ls) in
    ap deinit_lines (sym x.lines_are)
    ∙ turned
    ∙ deinits-lines x.notes
    ∙ (spelled-told script (hands_in p h) p x.notes x.spelled).worked.ends
    ∙ sym (share-noted is_finish causes script.shape p x.notes h x.tied)

-- ---- deinit lines of all threads

element : {X : Type 0} (xs : List X) (i : ℕ) → i < length xs → (x : X) × (slice_get xs i ≡ Some x)
element [] i l = absurd (omega arith)
element (x ∷ xs) zero l = (x, refl)
element (x ∷ xs) (suc i) l = element xs i (omega arith)

-- where the threads' lines stand in a list of whatever has lines
pub deinit_lines_counted : {X : Type 0} (of : X → List Line) (causes : Causes) (script : Script) (h : History) (each : List X) (end : List Line) → IsScript script → IsLegal script.shape h →
    length each ≡ length script.threads → ((i : ℕ) (x : X) → slice_get each i ≡ Some x → HasProgram causes script (i + 1) (of x) h) → HasProgram causes script 0 end h → NoOtherThread script h →
    sum_by (λ (x : X). deinit_lines (of x)) each + deinit_lines end ≡ emptied h
deinit_lines_counted {X = X} of causes script h each end is legal len have main few =
    let a = sum-listed (λ (x : X). deinit_lines (of x)) each 1 finishes (λ i p x e there. ap finishes (next i p e) ∙ sym (thread-deinits causes script (i + 1) (of x) h (have i x there))) in
    let b : sum_from (length each) 1 finishes ≡ sum_from (length script.threads) 1 finishes = ap (λ n. sum_from n 1 finishes) len in
    let c : finishes 0 + sum_from (length script.threads) 1 finishes ≡ events_with is_finish h = shares-summed is_finish (length script.threads) h few in
    let d : deinit_lines end ≡ finishes 0 = thread-deinits causes script 0 end h main in
    let owed = none_owed (heap_after h) (every_thread_quiet causes script h is legal finish few) in
    let all = deinits_counted script.shape h legal in
    omega arith
  where
    finishes : ℕ → ℕ
    finishes p = events_with is_finish (share h p)

    next : (i p : ℕ) → p ≡ 1 + i → p ≡ i + 1
    next i p e = omega arith

    finish : AllFinish causes script h
    finish zero l = (end, main)
    finish (suc i) l =
        let x = element each i (omega arith) in
        (of x.0, subst (λ p. HasProgram causes script p (of x.0) h) (let e : i + 1 ≡ suc i = omega arith in e) (have i x.0 x.1))

pub deinit_lines_are_emptied : DeinitLinesAreEmptied
deinit_lines_are_emptied causes script h each end is legal len have main few = deinit_lines_counted (λ lines. lines) causes script h each end is legal len have main few

pub claims_end : ClaimsEnd
claims_end causes script h is legal finish few = λ p e. (every_thread_quiet causes script h is legal finish few p).claims e

-- ---- room

made-with : (ns : List Note) → made_of ns ≡ notes_with makes ns
made-with [] = refl
made-with (Did a ∷ ns) = ap (one_more_if (makes a)) (made-with ns)
made-with (Says a ∷ ns) = made-with ns
made-with (Operation k ∷ ns) = made-with ns
made-with (Name s name ∷ ns) = made-with ns
made-with (Entry s entry ∷ ns) = made-with ns
made-with (NeedsEntry s list ∷ ns) = made-with ns
made-with (Nil c ∷ ns) = made-with ns
made-with (Refers c kind place ∷ ns) = made-with ns

count-flat : (phases : List (List Op)) → count_by is_new (flat_map (λ ops. ops) phases) ≡ sum_by (λ (ops : List Op). count_by is_new ops) phases
count-flat [] = refl
count-flat (ops ∷ phases) =
    let a : count_by is_new (ops ++ flat_map (λ ops. ops) phases) ≡ count_by is_new ops + count_by is_new (flat_map (λ ops. ops) phases) = sum_by-append (λ (o : Op). cond (is_new o) 1 0) ops (flat_map (λ ops. ops) phases) in
    let b : sum_by (λ (ops : List Op). count_by is_new ops) (ops ∷ phases) ≡ count_by is_new ops + sum_by (λ (ops : List Op). count_by is_new ops) phases = sum_by-cons (λ (ops : List Op). count_by is_new ops) ops phases in
    let ih = count-flat phases in
    a ∙ ap (λ n. count_by is_new ops + n) ih ∙ sym b

-- the `new` operations of all threads
news-summed : (script : Script) → sum_from (suc (length script.threads)) 0 (λ p. count_by is_new (operations_of script p)) ≡ new_count script
news-summed script =
    let a = sum-listed (λ (decl : ThreadDecl). sum_by (λ (ops : List Op). count_by is_new ops) decl.phases) script.threads 1 news listed in
    let b : news 0 ≡ 0 = refl in
    omega arith
  where
    news : ℕ → ℕ
    news p = count_by is_new (operations_of script p)

    back : (i p : ℕ) → p ≡ 1 + i → p - 1 ≡ i
    back i p e = omega arith

    listed : (i p : ℕ) (decl : ThreadDecl) → p ≡ 1 + i → slice_get script.threads i ≡ Some decl → news p ≡ sum_by (λ (ops : List Op). count_by is_new ops) decl.phases
    listed i p decl e there = ap (count_by is_new) (declared-ops script p decl (omega arith) (ap (slice_get script.threads) (back i p e) ∙ there)) ∙ count-flat decl.phases

-- A line for each operation and one for each deinit: those ended, no more do than objects are made, and no more are made than the
-- threads have a `new` for.
pub every_line_finds_room : EveryLineFindsRoom
every_line_finds_room causes script h p lines is legal finish few l x =
    let t = spelled-told script (hands_in p h) p x.notes x.spelled in
    let told-lines = t.lines in
    let ends = t.worked.ends in
    let all : length lines ≡ length (lines_of x.notes) = ap (λ ls. length ls) (sym x.lines_are) ∙ length-reverse (lines_of x.notes) in
    let noted = share-noted is_finish causes script.shape p x.notes h x.tied in
    let some = share-le is_finish p h in
    let objects = objects_counted script.shape h legal in
    let summed : sum_from (suc (length script.threads)) 0 makings ≡ events_with makes h = shares-summed makes (length script.threads) h few in
    let bound : sum_from (suc (length script.threads)) 0 makings ≤ sum_from (suc (length script.threads)) 0 news = sum-le (suc (length script.threads)) 0 makings news few-made in
    let counted : sum_from (suc (length script.threads)) 0 news ≡ new_count script = news-summed script in
    omega arith
  where
    makings : ℕ → ℕ
    makings q = events_with makes (share h q)

    news : ℕ → ℕ
    news q = count_by is_new (operations_of script q)

    few-made : (q : ℕ) → q < 0 + suc (length script.threads) → makings q ≤ news q
    few-made q l =
        let y = (finish q (omega arith)).1 in
        let m = (spelled-told script (hands_in q h) q y.notes y.spelled).worked.makes in
        let a = share-noted makes causes script.shape q y.notes h y.tied in
        let b = made-with y.notes in
        omega arith
