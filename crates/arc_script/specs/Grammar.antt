-- Which texts are scripts, and which line of another text is refused, with the least number of a fault of it.
use Rattle.std.specs.Prelude.{ℕ, ◌+◌, Bool, true, false, not, List, [], ◌∷◌, ◌==◌, if◌then◌else◌, Result, Ok, Err, slice_index}
use Rattle.std.specs.List.{list_all}
use Rattle.arc_text.specs.Words.{is_plain, number_in, words_of}
use Rattle.arc_text.specs.Lines.{lines_of}
use Rattle.arc_text.specs.Chain.{refuse, need}
use Rattle.arc_model.specs.Shapes.{HeapShape}
use Rattle.arc_script.specs.declared.script.Script.{Script}
use Rattle.arc_script.specs.declared.reason.Reason.{Reason}
use Rattle.arc_script.specs.declared.reason.Reason.TheVariants as why
use Rattle.arc_script.specs.declared.keyword.Keyword.{Keyword}
use Rattle.arc_script.specs.declared.keyword.Keyword.TheVariants as word
use Rattle.arc_script.specs.declared.keyword.Place.{Place}
use Rattle.arc_script.specs.declared.keyword.Place.TheVariants as behind
use Rattle.arc_script.specs.Reasons.{reason_number}
use Rattle.arc_script.specs.Keywords.{keyword_of, stands, is_heading_word, is_class, is_open}
use Rattle.arc_script.specs.Valid.{class_refs, var_refs}
use Rattle.arc_script.specs.Said.{HeadSaid, BodySaid}
use Rattle.arc_script.specs.Group.{named, run_group}
use Rattle.arc_script.specs.HeadLines.{slots_line, entries_line, caps_line, class_line, global_line}
use Rattle.arc_script.specs.BodyLines.{closed, thread_line, var_line, op_line, end_line, phase_line, schedule_line, done_line}

-- what the lines so far say, and which line came last
pub record Front : Type 0 where
  pub place : Place
  pub head : HeadSaid
  pub body : BodySaid

-- before any line; slots and entries are given later, and the caps of a script that gives none are the greatest
abbrev pub no_head : ℕ → HeadSaid
no_head version = record { version = version; slots = 1; entries = 1; caps = record { strong = 1073741823; unowned = 2147483647; wide = 4294967295 }; classes = []; globals = []; group = [] }

abbrev pub no_body : BodySaid
no_body = record { threads = []; vars = []; phases = []; ops = []; opened = []; count = 0; schedule = [] }

-- in a text of this version
abbrev pub nothing : ℕ → Place → Front
nothing version place = record { place = place; head = no_head version; body = no_body }

abbrev pub with_head : Front → Place → Result HeadSaid Reason → Result Front Reason
with_head front place (Ok head) = Ok (record { place = place; head = head; body = front.body })
with_head front place (Err reason) = Err reason

abbrev pub with_body : Front → Place → Result BodySaid Reason → Result Front Reason
with_body front place (Ok body) = Ok (record { place = place; head = front.head; body = body })
with_body front place (Err reason) = Err reason

-- the group of a class line is that of the class line before it, or begins with this line
abbrev pub grouped : Front → Bool → List (List ℕ) → List (List ℕ) → HeadSaid
grouped front immortal words lines =
    if is_class front.place then front.head else record front.head { group = named immortal words (run_group front.head.version lines) }

abbrev pub class_form : Front → Bool → List (List ℕ) → List (List ℕ) → Result Front Reason
class_form front immortal words lines = with_head front behind.Class (class_line (grouped front immortal words lines) immortal words)

-- a line of the heading; lines: those behind it
abbrev pub heading_form : Front → Keyword → List (List ℕ) → List (List ℕ) → Result Front Reason
heading_form front word.Slots (number ∷ []) lines = with_head front behind.Slots (slots_line front.head number)
heading_form front word.Entries (number ∷ []) lines = with_head front behind.Entries (entries_line front.head number)
heading_form front word.Caps (strong ∷ unowned ∷ wide ∷ []) lines = with_head front behind.Caps (caps_line front.head strong unowned wide)
heading_form front word.Class words lines = class_form front false words lines
heading_form front word.Immortal words lines = class_form front true words lines
heading_form front word.Global (name ∷ kind ∷ class ∷ []) lines = with_head front behind.Global (global_line front.head name kind class)
heading_form front k words lines = Err why.WordCount

-- what was said, where an open thread is closed
abbrev pub settled : Front → BodySaid
settled front = if is_open front.place then closed front.body else front.body

-- arc 1 or arc 2
abbrev pub arc_line : Front → List ℕ → Result Front Reason
arc_line front version = need (number_in 1 2 version) why.Number (λ v. Ok (record { place = behind.Version; head = record front.head { version = v }; body = front.body }))

-- any other line
abbrev pub body_form : Front → Keyword → List (List ℕ) → Result Front Reason
body_form front word.Arc (version ∷ []) = arc_line front version
body_form front word.Thread (number ∷ []) = with_body front behind.Thread (thread_line (settled front) number)
body_form front word.Var (name ∷ kind ∷ class ∷ []) = with_body front behind.Thread (var_line front.head front.body name kind class)
body_form front word.New words = with_body front behind.Operation (op_line front.head front.body word.New words)
body_form front word.Drop words = with_body front behind.Operation (op_line front.head front.body word.Drop words)
body_form front (word.Pair w) words = with_body front behind.Operation (op_line front.head front.body (word.Pair w) words)
body_form front word.Get words = with_body front behind.Operation (op_line front.head front.body word.Get words)
body_form front word.Set words = with_body front behind.Operation (op_line front.head front.body word.Set words)
body_form front (word.Block w) words = with_body front behind.Operation (op_line front.head front.body (word.Block w) words)
body_form front word.End [] = with_body front behind.Operation (end_line front.body)
body_form front word.Phase [] = with_body front behind.Operation (phase_line front.body)
body_form front word.Schedule (number ∷ numbers) = with_body front behind.Schedule (schedule_line (settled front) (number ∷ numbers))
body_form front word.Done [] = with_body front behind.Ended (done_line (settled front))
body_form front k words = Err why.WordCount

abbrev pub form_line : Front → Keyword → List (List ℕ) → List (List ℕ) → Result Front Reason
form_line front k words lines = if is_heading_word k then heading_form front k words lines else body_form front k words

-- a line with words, of which the first is no comment's
abbrev pub said_line : Front → List ℕ → List ℕ → List (List ℕ) → List (List ℕ) → Result Front Reason
said_line front line first words lines =
    refuse (not (list_all is_plain line)) why.Byte (
    need (keyword_of first) why.FirstWord (λ k.
    refuse (not (stands front.head.version front.place k)) why.FirstWord (
    form_line front k words lines)))

-- a line without a word is passed over, and so is one whose first word begins with #
abbrev pub words_line : Front → List ℕ → List (List ℕ) → List (List ℕ) → Result Front Reason
words_line front line [] lines = Ok front
words_line front line (first ∷ words) lines = if slice_index first 0 == 35 then Ok front else said_line front line first words lines

-- a line, and those behind it
unfoldable pub any_line : Front → List ℕ → List (List ℕ) → Result Front Reason
any_line front line lines = words_line front line (words_of line) lines

-- ---- the whole text

-- a line that is refused, counted from 1, and the number of its fault
pub record Refusal : Type 0 where
  pub line : ℕ
  pub why : ℕ

abbrev pub refused : {X : Type 0} → ℕ → Reason → Result X Refusal
refused n reason = Err (record { line = n; why = reason_number reason })

-- the lines behind a line, where that one isn't refused
abbrev pub then_lines : {X : Type 0} → ℕ → Result Front Reason → (Front → Result X Refusal) → Result X Refusal
then_lines n (Ok front) rest = rest front
then_lines n (Err reason) rest = refused n reason

abbrev pub shape_said : HeadSaid → HeapShape
shape_said head = record { slots = head.slots; entries = head.entries; caps = head.caps; classes = class_refs head.classes; globals = var_refs head.globals }

abbrev pub script_said : Front → Script
script_said front = record { version = front.head.version; shape = shape_said front.head; classes = front.head.classes; globals = front.head.globals; threads = front.body.threads; schedule = front.body.schedule }

abbrev pub is_ended : Place → Bool
is_ended behind.Ended = true
is_ended place = false

-- the line after the last stands for a `done` that is missing
abbrev pub ended : ℕ → Front → Result Script Refusal
ended n front = if is_ended front.place then Ok (script_said front) else refused n why.FirstWord

-- from the line with this number on
abbrev pub lines_from : ℕ → Front → List (List ℕ) → Result Script Refusal
lines_from n front [] = ended n front
lines_from n front (line ∷ lines) = then_lines n (any_line front line lines) (λ next. lines_from (n + 1) next lines)

-- the script that the text stands for, or the line that is refused
abbrev pub script_of : List ℕ → Result Script Refusal
script_of text = lines_from 1 (nothing 1 behind.Start) (lines_of text)
