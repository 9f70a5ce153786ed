-- Which texts hold a history, and which line of another text is refused, with the least number of a fault of it. Lines are counted
-- from the first line of the history text, which is line 1.
use Rattle.std.specs.Prelude.{ℕ, ◌+◌, ◌-◌, Bool, true, false, not, List, [], ◌∷◌, drop, ◌==◌, if◌then◌else◌, Option, Some, None, is_some, Result, Ok, Err, slice_index, bytes_eq, codes}
use Rattle.std.specs.List.{list_all}
use Rattle.std.specs.Char.{is_ascii_digit}
use Rattle.arc_text.specs.Words.{is_plain, number_in, words_of}
use Rattle.arc_text.specs.Lines.{lines_of}
use Rattle.arc_text.specs.Chain.{refuse, need}
use Rattle.arc_model.specs.Shapes.{HeapShape}
use Rattle.arc_script.specs.declared.reason.Reason.{Reason}
use Rattle.arc_script.specs.declared.reason.Reason.TheVariants as why
use Rattle.arc_script.specs.declared.keyword.Place.TheVariants as behind
use Rattle.arc_script.specs.Said.{HeadSaid}
use Rattle.arc_script.specs.Grammar.{Refusal, refused, nothing, shape_said}
use Rattle.arc_script.specs.HeadingText.{HeadEnd, head_from}
use Rattle.arc_check.specs.declared.line.Opening.{Opening}
use Rattle.arc_check.specs.declared.line.Opening.TheVariants as opening
use Rattle.arc_check.specs.declared.line.Told.{Told}
use Rattle.arc_check.specs.declared.line.Told.TheVariants as told
use Rattle.arc_check.specs.declared.line.EventLine.{EventLine}
use Rattle.arc_check.specs.Scopes.{Naming}
use Rattle.arc_check.specs.EventForms.{event_line}

-- ---- where the text begins

abbrev pub version_in : List ℕ → Option ℕ
version_in w =
    if bytes_eq w (codes "1") then Some 1 else
    if bytes_eq w (codes "2") then Some 2 else None

abbrev pub version_said : List (List ℕ) → Option ℕ
version_said (first ∷ second ∷ []) = if bytes_eq first (codes "history") then version_in second else None
version_said words = None

-- the version of the history text that begins with this line, where its words are `history` and `1` or `2`
unfoldable pub version_begun : List ℕ → Option ℕ
version_begun line = version_said (words_of line)

abbrev pub starts : List ℕ → Bool
starts line = is_some (version_begun line)

-- the version of a history text, and the lines behind its first
pub record HistoryStart : Type 0 where
  pub version : ℕ
  pub lines : List (List ℕ)

abbrev pub started_by : Option ℕ → List (List ℕ) → Option HistoryStart → Option HistoryStart
started_by (Some version) lines later = Some (record { version = version; lines = lines })
started_by None lines later = later

-- the first line that begins a history text; what stands before it is passed over, whatever its bytes
abbrev pub behind_start : List (List ℕ) → Option HistoryStart
behind_start [] = None
behind_start (line ∷ lines) = started_by (version_begun line) lines (behind_start lines)

-- ---- behind the heading: `threads N`, and then `events`

-- threads N: 0 to 64
abbrev pub threads_line : List (List ℕ) → Result Opening Reason
threads_line (number ∷ []) =
    need (number_in 0 64 number) why.Number (λ n.
    Ok (opening.Threads n))
threads_line words = Err why.WordCount

abbrev pub events_line : ℕ → List (List ℕ) → Result Opening Reason
events_line threads [] = Ok (opening.Events threads)
events_line threads words = Err why.WordCount

-- the number of threads, once it was said
abbrev pub opening_form : Option ℕ → List ℕ → List (List ℕ) → Result Opening Reason
opening_form None first words =
    refuse (not (bytes_eq first (codes "threads"))) why.FirstWord (
    threads_line words)
opening_form (Some threads) first words =
    refuse (not (bytes_eq first (codes "events"))) why.FirstWord (
    events_line threads words)

-- a line without a word is passed over, and so is one whose first word begins with #
abbrev pub opening_words : Option ℕ → List ℕ → List (List ℕ) → Result Opening Reason
opening_words threads line [] = Ok opening.Passed
opening_words threads line (first ∷ words) =
    if slice_index first 0 == 35 then Ok opening.Passed else
    refuse (not (list_all is_plain line)) why.Byte (
    opening_form threads first words)

unfoldable pub opening_line : Option ℕ → List ℕ → Result Opening Reason
opening_line threads line = opening_words threads line (words_of line)

abbrev pub then_opening : {X : Type 0} → ℕ → Option ℕ → Result Opening Reason → (Option ℕ → Result X Refusal) → (ℕ → Result X Refusal) → Result X Refusal
then_opening n threads (Ok opening.Passed) more rest = more threads
then_opening n threads (Ok (opening.Threads t)) more rest = more (Some t)
then_opening n threads (Ok (opening.Events t)) more rest = rest t
then_opening n threads (Err reason) more rest = refused n reason

-- from the line with number n on; rest: what is read of the lines behind `events`, by the number of threads and that of the next line
abbrev pub opened_from : {X : Type 0} → ℕ → Option ℕ → List (List ℕ) → (ℕ → ℕ → List (List ℕ) → Result X Refusal) → Result X Refusal
opened_from n threads [] rest = refused n why.FirstWord
opened_from n threads (line ∷ lines) rest =
    then_opening n threads (opening_line threads line) (λ t. opened_from (n + 1) t lines rest) (λ t. rest t (n + 1) lines)

-- ---- the events, `done`, and nothing more

abbrev pub done_line : List (List ℕ) → Result Told Reason
done_line [] = Ok told.Done
done_line words = Err why.WordCount

-- ended: `done` was read
abbrev pub told_form : Naming → Bool → List ℕ → List (List ℕ) → Result Told Reason
told_form scope true first words = Err why.FirstWord
told_form scope false first words =
    if bytes_eq first (codes "done") then done_line words else
    refuse (not (is_ascii_digit (slice_index first 0))) why.FirstWord (
    event_line scope first words)

abbrev pub told_words : Naming → Bool → List ℕ → List (List ℕ) → Result Told Reason
told_words scope ended line [] = Ok told.Passed
told_words scope ended line (first ∷ words) =
    if slice_index first 0 == 35 then Ok told.Passed else
    refuse (not (list_all is_plain line)) why.Byte (
    told_form scope ended first words)

unfoldable pub told_line : Naming → Bool → List ℕ → Result Told Reason
told_line scope ended line = told_words scope ended line (words_of line)

abbrev pub with_event : EventLine → Result (List EventLine) Refusal → Result (List EventLine) Refusal
with_event e (Ok events) = Ok (e ∷ events)
with_event e (Err refusal) = Err refusal

abbrev pub then_told : ℕ → Bool → Result Told Reason → (Bool → Result (List EventLine) Refusal) → Result (List EventLine) Refusal
then_told n ended (Ok told.Passed) rest = rest ended
then_told n ended (Ok (told.Event step e)) rest = with_event (record { line = n; step = step; event = e }) (rest ended)
then_told n ended (Ok told.Done) rest = rest true
then_told n ended (Err reason) rest = refused n reason

-- the line after the last stands for a `done` that is missing
abbrev pub events_end : ℕ → Bool → Result (List EventLine) Refusal
events_end n ended = if ended then Ok [] else refused n why.FirstWord

-- the events from the line with number n on, in order
abbrev pub events_from : Naming → ℕ → Bool → List (List ℕ) → Result (List EventLine) Refusal
events_from scope n ended [] = events_end n ended
events_from scope n ended (line ∷ lines) = then_told n ended (told_line scope ended line) (λ done. events_from scope (n + 1) done lines)

-- ---- the whole text

-- what a history text says: the shape of the heap, the number of threads, and the events in order
pub record HistoryText : Type 0 where
  pub shape : HeapShape
  pub threads : ℕ
  pub events : List EventLine

abbrev pub naming : HeadSaid → ℕ → Naming
naming head threads = record { slots = head.slots; entries = head.entries; threads = threads; classes = head.classes; globals = head.globals }

abbrev pub with_shape : HeapShape → ℕ → Result (List EventLine) Refusal → Result HistoryText Refusal
with_shape shape threads (Ok events) = Ok (record { shape = shape; threads = threads; events = events })
with_shape shape threads (Err refusal) = Err refusal

-- the lines behind `events`
abbrev pub told_behind : HeadSaid → ℕ → ℕ → List (List ℕ) → Result HistoryText Refusal
told_behind head threads n lines = with_shape (shape_said head) threads (events_from (naming head threads) n false lines)

-- the lines behind the heading
abbrev pub behind_heading : List (List ℕ) → Result HeadEnd Refusal → Result HistoryText Refusal
behind_heading lines (Ok e) = opened_from e.line None (drop (e.line - 2) lines) (told_behind e.head)
behind_heading lines (Err refusal) = Err refusal

-- the lines behind the first; the caps are always said
abbrev pub from_start : Option HistoryStart → Result HistoryText Refusal
from_start None = refused 1 why.FirstWord
from_start (Some s) = behind_heading s.lines (head_from true 2 2 (nothing s.version behind.Version) s.lines)

-- the history that the text holds, or the line that is refused
abbrev pub history_of : List ℕ → Result HistoryText Refusal
history_of text = from_start (behind_start (lines_of text))
