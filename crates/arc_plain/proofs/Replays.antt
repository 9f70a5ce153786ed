-- What comes of a crew that is done is a replay.
use Rattle.std.proofs.Common.{◌≡◌, ℕ, zero, suc, ◌+◌, ◌-◌, ◌≤◌, ◌<◌, List, [], ◌∷◌, ◌++◌, length, take, drop, get_or, reverse, ap, ◌∙◌, subst, arith}
use Rattle.std.specs.Prelude.{All}
use Rattle.std.proofs.lemmas.List.{length-reverse, get_or-reverse}
use Rattle.arc_script.specs.declared.script.Script.{Script}
use Rattle.arc_ops.specs.declared.told.Stamped.{Stamped}
use Rattle.arc_ops.specs.declared.told.ThreadLines.{ThreadLines}
use Rattle.arc_ops.specs.Thread.{Thread}
use Rattle.arc_replays.specs.Histories.{lines_from, first_lines}
use Rattle.arc_replays.specs.Laws.{IsWholeReplay}
use Rattle.arc_replays.proofs.Whole.{replays_are_histories}
use Rattle.arc_plain.specs.declared.replay.Replay.{Replay}
use Rattle.arc_plain.specs.Crews.{Progress, IsDone}
use Rattle.arc_plain.specs.Replays.{StampedFits, IsReplay}
use Rattle.arc_plain.proofs.Order.{threads_long}

-- ---- lines

lines_on : (ts : List Thread) (p n : ℕ) (d : Thread) → n < length ts → lines_from p (take (n + 1) ts) ≡ lines_from p (take n ts) ++ record { thread = p + n; lines = (get_or ts n d).kept.lines } ∷ []
lines_on [] p n d lt = absurd (omega arith)
lines_on (t ∷ ts) p zero d lt = ap (λ (k : ℕ). record { thread = k; lines = t.kept.lines } ∷ []) (omega arith)
lines_on (t ∷ ts) p (suc n) d lt =
    let same : p + 1 + n ≡ p + suc n = omega arith in
    let one : suc n + 1 ≡ suc (n + 1) = omega arith in
    ap (λ (k : ℕ). lines_from p (take k (t ∷ ts))) one ∙
    ap (λ (xs : List ThreadLines). record { thread = p; lines = t.kept.lines } ∷ xs)
    (lines_on ts (p + 1) n d (omega arith) ∙ ap (λ (k : ℕ). lines_from (p + 1) (take n ts) ++ record { thread = k; lines = (get_or ts n d).kept.lines } ∷ []) same)

-- the lines of one thread more, behind those of the threads from 1 on
pub lines_more : (ts : List Thread) (n : ℕ) (d : Thread) → 1 ≤ n → n < length ts → lines_from 1 (drop 1 (take (n + 1) ts)) ≡ lines_from 1 (drop 1 (take n ts)) ++ record { thread = n; lines = (get_or ts n d).kept.lines } ∷ []
lines_more [] n d n1 lt = absurd (omega arith)
lines_more (t ∷ ts) zero d n1 lt = absurd (omega arith)
lines_more (t ∷ ts) (suc n) d n1 lt =
    let one : suc n + 1 ≡ suc (n + 1) = omega arith in
    let same : 1 + n ≡ suc n = omega arith in
    ap (λ (k : ℕ). lines_from 1 (drop 1 (take k (t ∷ ts)))) one ∙
    (lines_on ts 1 n d (omega arith) ∙ ap (λ (k : ℕ). lines_from 1 (take n ts) ++ record { thread = k; lines = (get_or ts n d).kept.lines } ∷ []) same)

-- ---- the replay

all_reversed : (P : Stamped → Type 0) (xs : List Stamped) → All P (reverse xs) → All P xs
all_reversed P xs all k d below =
    let back : length xs - 1 - (length xs - 1 - k) ≡ k = omega arith in
    let there : get_or (reverse xs) (length xs - 1 - k) d ≡ get_or xs k d = get_or-reverse xs (length xs - 1 - k) d (omega arith) ∙ ap (λ (i : ℕ). get_or xs i d) back in
    subst P there (all (length xs - 1 - k) d (rw length-reverse (omega arith)))

whole : (before c : Progress) → IsDone before c → IsWholeReplay c.script c.stage
whole before c d = replays_are_histories c.script c.stage d.under_way.script d.under_way.served (record { reached = d.under_way.reached; ended = d.ended })

pub crew_few : (before c : Progress) → IsDone before c → length c.stage.threads ≤ 65
crew_few before c d = let long = threads_long c d.under_way in let few = d.under_way.script.few_threads in omega arith

replay_of : (before c : Progress) (r : Replay) → IsDone before c → r.threads.items ≡ lines_from 1 (drop 1 c.stage.threads) → r.end.items ≡ first_lines c.stage.threads → reverse r.events.items ≡ c.stage.events → r.words.items ≡ c.stage.words →
    r.steps ≡ c.stage.steps → IsReplay c.script r
replay_of before c r d threads end events words steps =
    let w = whole before c d in
    record {
      last = c.stage;
      run = record { reached = d.under_way.reached; ended = d.ended };
      threads = threads;
      end = end;
      events = events;
      words = words;
      steps = steps;
      history = rw (threads, end, events, words) w.history;
      no_entries = rw words w.no_entries;
      left = λ none lead. rw words (w.left none lead);
      bound = let few = d.few in omega arith;
      lines_fit = rw threads w.lines_fit;
      end_fits = rw end w.end_fits;
      events_fit = all_reversed (StampedFits c.script.shape) r.events.items (rw events w.events_fit);
    }

pub replay_is : (script : Script) (before c : Progress) (r : Replay) → before.script ≡ script → IsDone before c → r.threads.items ≡ lines_from 1 (drop 1 c.stage.threads) → r.end.items ≡ first_lines c.stage.threads → reverse r.events.items ≡ c.stage.events →
    r.words.items ≡ c.stage.words → r.steps ≡ c.stage.steps → IsReplay script r
replay_is script before c r is d threads end events words steps = subst (λ (s : Script). IsReplay s r) (d.script ∙ is) (replay_of before c r d threads end events words steps)
