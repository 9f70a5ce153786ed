-- What a replay writes is a text of a legal history.
use Rattle.std.proofs.Common.{◌≡◌, ℕ, ◌+◌, ◌<◌, ◌^◌, List, [], ◌∷◌, ◌++◌, length, map, reverse, Option, Some, None, Result, Ok, Err, refl, sym, ap, subst, ◌∙◌, append_assoc, append-nil, arith}
use Rattle.std.specs.Prelude.{IsOkAnd}
use Rattle.std.proofs.lemmas.List.{map-append, reverse-append}
use Rattle.arc_model.specs.declared.event.Illegal.{Illegal}
use Rattle.arc_model.specs.Shapes.{HeapShape}
use Rattle.arc_model.specs.History.{History, judge, IsLegal}
use Rattle.arc_script.specs.declared.script.Script.{Script}
use Rattle.arc_script.specs.Valid.{IsScript}
use Rattle.arc_script.specs.Grammar.{Refusal}
use Rattle.arc_served.specs.Served.{IsServed}
use Rattle.arc_ops.specs.declared.told.Stamped.{Stamped}
use Rattle.arc_plain.specs.declared.replay.Replay.{Replay}
use Rattle.arc_replays.specs.Histories as replays
use Rattle.arc_plain.specs.Replays.{IsReplay}
use Rattle.arc_report.specs.History.{history}
use Rattle.arc_check.specs.declared.fault.CheckFault.{CheckFault}
use Rattle.arc_check.specs.declared.fault.CheckFault.TheVariants as fault
use Rattle.arc_check.specs.declared.judge.Verdict.{Verdict}
use Rattle.arc_check.specs.declared.judge.Verdict.TheVariants as verdict
use Rattle.arc_check.specs.declared.line.EventLine.{EventLine}
use Rattle.arc_check.specs.EventTexts.{HistoryText, history_of}
use Rattle.arc_check.specs.WrittenHistory.{numbered, first_line}
use Rattle.arc_check.specs.Verdicts.{told_after, history_in, IsFirstIllegal, AreLegal, Checks}
use Rattle.arc_read_back.specs.ReadBack.{HasHeading, unlined, told_of}
use Rattle.arc_read_back.proofs.Texts.{read_alone, read_behind}
use Rattle.arc_judged.specs.Verdicts.{SaysLegal}
use Rattle.arc_judged.specs.Written.{report_of, written, HoldsLegal, IsWrittenLegal, IsCheckedLegal}
use Rattle.arc_judged.proofs.Reports.{replay_before}
use Rattle.arc_judged.proofs.Events.{replay_fits}

-- the events in order tell the history that has the newest first
told_is : (h : History) (n : ℕ) (events : List Stamped) → told_after h (numbered n (map unlined events)) ≡ replays.history_of (reverse events) ++ h
told_is h n [] = refl
told_is h n (e ∷ events) =
    told_is (e.event ∷ h) (n + 1) events
    ∙ sym (ap (λ (es : List Stamped). replays.history_of es ++ h) (reverse-append (e ∷ []) events)
    ∙ ap (λ (es : History). es ++ h) (map-append (λ (s : Stamped). s.event) (reverse events) (e ∷ []))
    ∙ append_assoc (replays.history_of (reverse events)) (e.event ∷ []) h)

count_is : (n : ℕ) (events : List Stamped) → length events ≡ length (numbered n (map unlined events))
count_is n [] = refl
count_is n (e ∷ events) = let more = count_is (n + 1) events in omega arith

abbrev events_of : Script → Replay → HistoryText
events_of s r = told_of s r.events.items

are_legal : (s : Script) (r : Replay) → IsReplay s r → AreLegal (events_of s r) (length r.events.items)
are_legal s r replay =
    let same = told_is [] (first_line s.classes s.globals) r.events.items ∙ append-nil (replays.history_of (reverse r.events.items)) in
    (subst (IsLegal s.shape) (sym same) replay.history.legal, count_is (first_line s.classes s.globals) r.events.items)

read_so : (said : Result HistoryText Refusal) (t : HistoryText) (n : ℕ) → said ≡ Ok t → AreLegal t n → IsOkAnd said (λ (t : HistoryText). AreLegal t n)
read_so said t n read legal = subst (λ (x : Result HistoryText Refusal). IsOkAnd x (λ (t : HistoryText). AreLegal t n)) (sym read) legal

has_heading : (s : Script) → IsScript s → s.shape.caps.wide < 2 ^ 32 → HasHeading s
has_heading s valid wide = record { version = valid.version; classes_of_version = valid.classes_of_version; heading = valid.heading; wide_cap = wide; few_threads = valid.few_threads }

pub legal_alone : (s : Script) (r : Replay) → IsScript s → IsServed s → IsReplay s r → HoldsLegal (history s r.events.items) (length r.events.items)
legal_alone s r valid served replay =
    let wide = served.wide_cap in
    read_so (history_of (history s r.events.items)) (events_of s r) (length r.events.items) (read_alone s r.events.items (has_heading s valid (omega arith)) (replay_fits s r valid served replay)) (are_legal s r replay)

pub legal_behind : (s : Script) (r : Replay) → IsScript s → IsServed s → IsReplay s r → IsWrittenLegal s r
legal_behind s r valid served replay =
    let wide = served.wide_cap in
    read_so (history_of (written s r)) (events_of s r) (length r.events.items)
    (read_behind s r.events.items (report_of s r) (has_heading s valid (omega arith)) (replay_fits s r valid served replay) (replay_before s r valid replay)) (are_legal s r replay)

-- ---- what the judge says of a text whose events are legal

told_joined : (h : History) (before later : List EventLine) → told_after h (before ++ later) ≡ told_after (told_after h before) later
told_joined h [] later = refl
told_joined h (e ∷ before) later = told_joined (e.event ∷ h) before later

legal_before : (shape : HeapShape) (h : History) (later : List EventLine) → IsLegal shape (told_after h later) → IsLegal shape h
legal_before shape h [] legal = legal
legal_before shape h (e ∷ later) legal = (legal_before shape (e.event ∷ h) later legal).1

none_illegal : (shape : HeapShape) (events : List EventLine) (line : ℕ) (why : Illegal) → IsLegal shape (history_in events) → IsFirstIllegal shape events line why → ⊥
none_illegal shape events line why legal first =
    let split = ap history_in first.stands ∙ told_joined [] first.before (first.event ∷ first.later) in
    let upto = legal_before shape (first.event.event ∷ history_in first.before) first.later (subst (IsLegal shape) split legal) in
    clash (judge shape (history_in first.before) first.event.event) upto.0 first.illegal
  where
    clash : (x : Option Illegal) → x ≡ None → x ≡ Some why → ⊥
    clash x a b = cc

says_of : (t : HistoryText) (n : ℕ) (v : Result Verdict CheckFault) → AreLegal t n → Checks v (Ok t) → SaysLegal n v
says_of t n (Ok (verdict.Legal m)) legal checks = checks.1 ∙ sym legal.1
says_of t n (Ok (verdict.Illegal line why)) legal checks = none_illegal t.shape t.events line why legal.0 checks
says_of t n (Err fault.Memory) legal checks = tt
says_of t n (Err (fault.Refused line why)) legal checks = absurd cc

pub says_legal : (said : Result HistoryText Refusal) (n : ℕ) (v : Result Verdict CheckFault) → IsOkAnd said (λ (t : HistoryText). AreLegal t n) → Checks v said → SaysLegal n v
says_legal (Ok t) n v legal checks = says_of t n v legal checks
says_legal (Err e) n v legal checks = absurd legal

pub check_says_legal : (s : Script) (r : Replay) → IsScript s → IsServed s → IsReplay s r → IsCheckedLegal s r
check_says_legal s r valid served replay v checks = says_legal (history_of (written s r)) (length r.events.items) v (legal_behind s r valid served replay) checks

-- ---- the same of a text that is known to hold a history, or to hold none

pub is_counted : (said : Result HistoryText Refusal) (n : ℕ) → IsOkAnd said (λ (t : HistoryText). AreLegal t n) → (t : HistoryText) (m : ℕ) → said ≡ Ok t → AreLegal t m → m ≡ n
is_counted said n legal t m read counted = says_legal said n (Ok (verdict.Legal m)) legal (subst (λ (x : Result HistoryText Refusal). IsOkAnd x (λ (t : HistoryText). AreLegal t m)) (sym read) counted)

pub none_is_illegal : (said : Result HistoryText Refusal) (n : ℕ) → IsOkAnd said (λ (t : HistoryText). AreLegal t n) → (t : HistoryText) (line : ℕ) (why : Illegal) → said ≡ Ok t → IsFirstIllegal t.shape t.events line why → ⊥
none_is_illegal said n legal t line why read first =
    says_legal said n (Ok (verdict.Illegal line why)) legal (subst (λ (x : Result HistoryText Refusal). IsOkAnd x (λ (t : HistoryText). IsFirstIllegal t.shape t.events line why)) (sym read) first)

pub none_is_refused : (said : Result HistoryText Refusal) (n line why : ℕ) → IsOkAnd said (λ (t : HistoryText). AreLegal t n) → said ≡ Err (record { line = line; why = why }) → ⊥
none_is_refused said n line why legal read = says_legal said n (Err (fault.Refused line why)) legal read
