-- One event more is judged.
use Rattle.std.proofs.Common.{◌≡◌, ℕ, suc, ◌+◌, ◌*◌, ◌<◌, ◌≤◌, List, [], ◌∷◌, ◌++◌, length, Option, Some, None, Result, Ok, Err, refl, sym, ap, subst, ◌∙◌, append_assoc, append-nil, arith, Bool, true, false}
use Rattle.std.specs.Prelude.{is_some}
use Rattle.std.proofs.lemmas.List.{length-append}
use Rattle.arc_model.specs.Shapes.{HeapShape}
use Rattle.arc_model.specs.declared.event.CellName.{CellName}
use Rattle.arc_model.specs.declared.event.CellName.TheVariants as cells
use Rattle.arc_model.specs.declared.event.Origin.{Origin}
use Rattle.arc_model.specs.declared.event.Origin.TheVariants as origins
use Rattle.arc_model.specs.declared.event.Got.TheVariants as got
use Rattle.arc_model.specs.declared.event.Act.{Act}
use Rattle.arc_model.specs.declared.event.Act.TheVariants as act
use Rattle.arc_model.specs.declared.memory.Memory.{Memory}
use Rattle.arc_model.specs.declared.event.Illegal.{Illegal}
use Rattle.arc_model.specs.History.{History, judge, IsLegal}
use Rattle.arc_script.specs.Grammar.{Refusal}
use Rattle.arc_heap_judge.specs.Index.{Index}
use Rattle.arc_heap_judge.specs.Stands.{thread_count, StandsFor, IsInRange, IsCellInRange, IsOriginInRange}
use Rattle.arc_check.specs.declared.line.EventLine.{EventLine}
use Rattle.arc_check.specs.declared.judge.Breach.{Breach}
use Rattle.arc_check.specs.Scopes.{Naming}
use Rattle.arc_check.specs.EventTexts.{HistoryText, with_event, with_shape, history_of}
use Rattle.arc_text.specs.Lines.{lines_of}
use Rattle.arc_check.specs.declared.text.Events.{Events}
use Rattle.arc_check.specs.Reading.{left, IsNamedBy}
use Rattle.arc_check.specs.WrittenHistory.{CellFits, OriginFits, ActFits}
use Rattle.arc_check.specs.Verdicts.{told_after, history_in, IsFirstIllegal, Judges, verdict_of, Checks}

-- ---- lists of events

told_last : (h : History) (es : List EventLine) (e : EventLine) → told_after h (es ++ e ∷ []) ≡ e.event ∷ told_after h es
told_last h [] e = refl
told_last h (x ∷ es) e = told_last (x.event ∷ h) es e

-- events, and then those that are left
abbrev pub joined : List EventLine → Result (List EventLine) Refusal → Result (List EventLine) Refusal
joined before (Ok es) = Ok (before ++ es)
joined before (Err r) = Err r

joined_more : (before : List EventLine) (e : EventLine) (rest : Result (List EventLine) Refusal) → joined before (with_event e rest) ≡ joined (before ++ e ∷ []) rest
joined_more before e (Ok es) = ap (λ (xs : List EventLine). (let r : Result (List EventLine) Refusal = Ok xs in r)) (sym (append_assoc before (e ∷ []) es))
joined_more before e (Err r) = refl

pub joined_none : (rest : Result (List EventLine) Refusal) → joined [] rest ≡ rest
joined_none (Ok es) = refl
joined_none (Err r) = refl

-- ---- what was judged so far

abbrev pub StandsSo : Option Breach → HeapShape → Index → List EventLine → Type 0
StandsSo None shape heap before = StandsFor heap (history_in before)
StandsSo (Some b) shape heap before = IsFirstIllegal shape before b.line b.why

pub record Judged (shape : HeapShape) (breach : Option Breach) (heap : Index) (count : ℕ) (all rest : Result (List EventLine) Refusal) : Type 0 where
  pub before : List EventLine
  pub told : all ≡ joined before rest
  pub counted : count ≡ length before
  pub of_shape : heap.shape ≡ shape
  pub stands : StandsSo breach shape heap before

more_told : (before : List EventLine) (e : EventLine) (all old new : Result (List EventLine) Refusal) → all ≡ joined before old → old ≡ with_event e new → all ≡ joined (before ++ e ∷ []) new
more_told before e all old new h k = h ∙ (ap (joined before) k ∙ joined_more before e new)

more_counted : (count : ℕ) (before : List EventLine) (e : EventLine) → count ≡ length before → count + 1 ≡ length (before ++ e ∷ [])
more_counted count before e h = let l : length (before ++ e ∷ []) ≡ length before + 1 = length-append before (e ∷ []) in omega arith

still_illegal : (shape : HeapShape) (before : List EventLine) (e : EventLine) (line : ℕ) (why : Illegal) → IsFirstIllegal shape before line why → IsFirstIllegal shape (before ++ e ∷ []) line why
still_illegal shape before e line why f = record {
  before = f.before;
  event = f.event;
  later = f.later ++ e ∷ [];
  stands = ap (λ (xs : List EventLine). xs ++ e ∷ []) f.stands ∙ append_assoc f.before (f.event ∷ f.later) (e ∷ []);
  legal = f.legal;
  illegal = f.illegal;
  at_line = f.at_line;
}

-- an event behind one that isn't legal
pub judged_late : (shape : HeapShape) (b : Breach) (heap : Index) (count : ℕ) (e : EventLine) (all old new : Result (List EventLine) Refusal) → Judged shape (Some b) heap count all old → old ≡ with_event e new
    → Judged shape (Some b) heap (count + 1) all new
judged_late shape b heap count e all old new j k = record {
  before = j.before ++ e ∷ [];
  told = more_told j.before e all old new j.told k;
  counted = more_counted count j.before e j.counted;
  of_shape = j.of_shape;
  stands = still_illegal shape j.before e b.line b.why j.stands;
}

stands_more : (shape : HeapShape) (result : Option Breach) (before : List EventLine) (heap next : Index) (e : EventLine) → heap.shape ≡ shape → StandsFor heap (history_in before)
    → Judges (history_in before) heap next e (Ok result) → StandsSo result shape next (before ++ e ∷ [])
stands_more shape None before heap next e s st j = subst (StandsFor next) (sym (told_last [] before e)) j.1
stands_more shape (Some b) before heap next e s st j = record {
  before = before;
  event = e;
  later = [];
  stands = refl;
  legal = subst (λ (sh : HeapShape). IsLegal sh (history_in before)) s st.legal;
  illegal = subst (λ (sh : HeapShape). judge sh (history_in before) e.event ≡ Some b.why) s j.0;
  at_line = j.1;
}

-- an event behind legal ones
pub judged_more : (shape : HeapShape) (result : Option Breach) (heap next : Index) (count : ℕ) (e : EventLine) (all old new : Result (List EventLine) Refusal) → Judged shape None heap count all old → old ≡ with_event e new
    → next.shape ≡ heap.shape → ((h : History) → StandsFor heap h → Judges h heap next e (Ok result)) → Judged shape result next (count + 1) all new
judged_more shape result heap next count e all old new j k same judges = record {
  before = j.before ++ e ∷ [];
  told = more_told j.before e all old new j.told k;
  counted = more_counted count j.before e j.counted;
  of_shape = same ∙ j.of_shape;
  stands = stands_more shape result j.before heap next e j.of_shape j.stands (judges (history_in j.before) j.stands);
}

pub judged_first : (shape : HeapShape) (heap : Index) (all : Result (List EventLine) Refusal) → heap.shape ≡ shape → StandsFor heap [] → Judged shape None heap 0 all all
judged_first shape heap all same st = record { before = []; told = sym (joined_none all); counted = refl; of_shape = same; stands = st }

-- ---- the end

end_checks : (shape : HeapShape) (threads : ℕ) (breach : Option Breach) (heap : Index) (count : ℕ) (before : List EventLine) → count ≡ length before → heap.shape ≡ shape → StandsSo breach shape heap before
    → Checks (Ok (verdict_of breach count)) (Ok (record { shape = shape; threads = threads; events = before }))
end_checks shape threads None heap count before n s st = (subst (λ (sh : HeapShape). IsLegal sh (history_in before)) s st.legal, n)
end_checks shape threads (Some b) heap count before n s st = st

pub judged_end : (shape : HeapShape) (threads : ℕ) (breach : Option Breach) (heap : Index) (count : ℕ) (all rest : Result (List EventLine) Refusal) (said : Result HistoryText Refusal) → Judged shape breach heap count all rest → rest ≡ Ok []
    → said ≡ with_shape shape threads all → Checks (Ok (verdict_of breach count)) said
judged_end shape threads breach heap count all rest said j none whole =
    let is : all ≡ Ok j.before = j.told ∙ (ap (joined j.before) none ∙ ap (λ (xs : List EventLine). (let r : Result (List EventLine) Refusal = Ok xs in r)) (append-nil j.before)) in
    subst (Checks (Ok (verdict_of breach count))) (sym (whole ∙ ap (with_shape shape threads) is)) (end_checks shape threads breach heap count j.before j.counted j.of_shape j.stands)

pub refused_end : (shape : HeapShape) (threads : ℕ) (before : List EventLine) (all rest : Result (List EventLine) Refusal) (said : Result HistoryText Refusal) (r : Refusal) → all ≡ joined before rest → rest ≡ Err r
    → said ≡ with_shape shape threads all → said ≡ Err r
refused_end shape threads before all rest said r told e whole = whole ∙ ap (with_shape shape threads) (told ∙ ap (joined before) e)

-- ---- ranges

cell_range : (scope : Naming) (shape : HeapShape) (c : CellName) → scope.slots ≡ shape.slots → length scope.globals ≡ length shape.globals → CellFits scope c → IsCellInRange shape c
cell_range scope shape (cells.Field s f) es eg h = let a = h.0 in let b = h.1 in (omega arith, omega arith)
cell_range scope shape (cells.Global g) es eg h = omega arith

origin_range : (scope : Naming) (shape : HeapShape) (o : Origin) → scope.slots ≡ shape.slots → length scope.globals ≡ length shape.globals → OriginFits scope o → IsOriginInRange shape o
origin_range scope shape (origins.Hand k) es eg h = tt
origin_range scope shape (origins.Cell c) es eg h = cell_range scope shape c es eg h

pub act_range : (scope : Naming) (shape : HeapShape) (threads : ℕ) (a : Act) → IsNamedBy scope shape threads → ActFits scope a → IsInRange shape a
act_range scope shape threads (act.New k c s) i h = let a = h.1 in let b = h.2 in (omega arith, omega arith)
act_range scope shape threads act.Full i h = tt
act_range scope shape threads (act.Copy from k) i h = origin_range scope shape from i.slots i.globals h.0
act_range scope shape threads (act.UnownedOf of k) i h = tt
act_range scope shape threads (act.WeakOf of k) i h = tt
act_range scope shape threads (act.Load of g) i h = tt
act_range scope shape threads (act.Drop k last) i h = tt
act_range scope shape threads (act.CountFull k from) i h = origin_range scope shape from i.slots i.globals h
act_range scope shape threads (act.Claim e) i h = omega arith
act_range scope shape threads act.NoEntry i h = tt
act_range scope shape threads (act.Side s e why) i h = let a = h.0 in let b = h.1 in (omega arith, omega arith)
act_range scope shape threads (act.Back e) i h = omega arith
act_range scope shape threads (act.Swap c put took) i h = cell_range scope shape c i.slots i.globals h.0
act_range scope shape threads (act.Look c) i h = cell_range scope shape c i.slots i.globals h
act_range scope shape threads (act.Take s f k) i h = let a = h.0 in let b = h.1 in (omega arith, omega arith)
act_range scope shape threads (act.Finish s last) i h = omega arith
act_range scope shape threads (act.Vacate s) i h = omega arith
act_range scope shape threads (act.Gone e last) i h = omega arith

-- ---- the loop

-- what was judged of a text so far: the events that are left are those of the text but for these
pub record HasJudged (text : List ℕ) (threads : ℕ) (breach : Option Breach) (heap : Index) (count : ℕ) (events : Events) : Type 0 where
  pub shape : HeapShape
  pub all : Result (List EventLine) Refusal
  pub whole : history_of text ≡ with_shape shape threads all
  pub judged : Judged shape breach heap count all (left events)
  pub named : IsNamedBy events.scope shape threads
  pub room : events.number + length (lines_of events.lines) ≤ 2 + 2 * length text
  pub counted : count + length (lines_of events.lines) ≤ 2 + 2 * length text
  pub of_threads : thread_count heap ≡ threads + 1

late_named : (scope next : Naming) (shape : HeapShape) (threads : ℕ) → next ≡ scope → IsNamedBy scope shape threads → IsNamedBy next shape threads
late_named scope next shape threads e h = subst (λ (names : Naming). IsNamedBy names shape threads) (sym e) h

-- an event behind one that isn't legal
pub late : (text : List ℕ) (threads : ℕ) (b : Option Breach) (heap : Index) (count : ℕ) (events next : Events) (e : EventLine) → is_some b ≡ true → HasJudged text threads b heap count events → left events ≡ with_event e (left next)
    → next.scope ≡ events.scope → next.number + length (lines_of next.lines) ≤ events.number + length (lines_of events.lines) → length (lines_of next.lines) < length (lines_of events.lines)
    → HasJudged text threads b heap (count + 1) next
late text threads None heap count events next e is_held j k scope room less = absurd cc
late text threads (Some b) heap count events next e is_held j k scope room less = record {
  shape = j.shape;
  all = j.all;
  whole = j.whole;
  judged = judged_late j.shape b heap count e j.all (left events) (left next) j.judged k;
  named = late_named events.scope next.scope j.shape threads scope j.named;
  room = (let r = j.room in omega arith);
  counted = (let r = j.counted in omega arith);
  of_threads = j.of_threads;
}

-- an event behind legal ones
pub more : (text : List ℕ) (threads : ℕ) (b result : Option Breach) (heap new : Index) (count : ℕ) (events next : Events) (e : EventLine) → is_some b ≡ false → HasJudged text threads b heap count events → left events ≡ with_event e (left next)
    → next.scope ≡ events.scope → next.number + length (lines_of next.lines) ≤ events.number + length (lines_of events.lines) → length (lines_of next.lines) < length (lines_of events.lines)
    → new.shape ≡ heap.shape → thread_count new ≡ thread_count heap → ((h : History) → StandsFor heap h → Judges h heap new e (Ok result))
    → HasJudged text threads result new (count + 1) next
more text threads (Some b) result heap new count events next e is_held j k scope room less same kept judges = absurd cc
more text threads None result heap new count events next e is_held j k scope room less same kept judges = record {
  shape = j.shape;
  all = j.all;
  whole = j.whole;
  judged = judged_more j.shape result heap new count e j.all (left events) (left next) j.judged k same judges;
  named = late_named events.scope next.scope j.shape threads scope j.named;
  room = (let r = j.room in omega arith);
  counted = (let r = j.counted in omega arith);
  of_threads = kept ∙ j.of_threads;
}
