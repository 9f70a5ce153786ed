-- A heading within a text: its lines from `slots` to the last line of a class or a global, or to `caps` or `entries` where it has none.
use Rattle.std.specs.Prelude.{ℕ, zero, suc, ◌+◌, ◌-◌, Bool, true, false, not, ◌&&◌, List, [], ◌∷◌, length, drop, if◌then◌else◌, Option, Some, None, Result, Ok, Err, slice_index, ◌==◌}
use Rattle.std.specs.List.{list_all, after_first}
use Rattle.arc_text.specs.Words.{is_newline, is_plain, words_of}
use Rattle.arc_text.specs.Lines.{lines_of}
use Rattle.arc_text.specs.Chain.{refuse}
use Rattle.arc_script.specs.declared.script.Heading.{Heading}
use Rattle.arc_script.specs.declared.reason.Reason.{Reason}
use Rattle.arc_script.specs.declared.reason.Reason.TheVariants as why
use Rattle.arc_script.specs.declared.keyword.Keyword.{Keyword}
use Rattle.arc_script.specs.declared.keyword.Keyword.TheVariants as word
use Rattle.arc_script.specs.declared.keyword.Place.{Place}
use Rattle.arc_script.specs.declared.keyword.Place.TheVariants as behind
use Rattle.arc_script.specs.Keywords.{keyword_of, stands, is_heading_word, is_entries, takes_global}
use Rattle.arc_script.specs.Said.{HeadSaid}
use Rattle.arc_script.specs.Grammar.{Front, nothing, heading_form, Refusal, refused, shape_said}

abbrev pub is_caps_word : Keyword → Bool
is_caps_word word.Caps = true
is_caps_word k = false

-- the heading may end behind such a line; caps: the caps line must be there
abbrev pub may_end : Bool → Place → Bool
may_end caps place = takes_global place && not (caps && is_entries place)

-- a line that begins so may come next in the heading
abbrev pub heads : Bool → ℕ → Place → Keyword → Bool
heads caps version place k = is_heading_word k && (stands version place k && not (caps && (is_entries place && not (is_caps_word k))))

-- the keyword of a line that may come next in the heading
abbrev pub next_word : Bool → ℕ → Place → Option Keyword → Option Keyword
next_word caps version place None = None
next_word caps version place (Some k) = if heads caps version place k then Some k else None

abbrev pub heading_keyword : Bool → ℕ → Place → List ℕ → Option Keyword
heading_keyword caps version place first = next_word caps version place (keyword_of first)

-- what a line is to a heading
pub data Headed : Type 0 where
  passed : Headed
  entered : Front → Headed
  ends : Headed

abbrev pub entering : Result Front Reason → Result Headed Reason
entering (Ok front) = Ok (entered front)
entering (Err reason) = Err reason

-- a line whose first word can't stand there as a line of the heading ends it, where it may end
abbrev pub headed_by : Bool → Front → Option Keyword → List ℕ → List (List ℕ) → List (List ℕ) → Result Headed Reason
headed_by caps front None line words lines =
    if may_end caps front.place then Ok ends
    else refuse (not (list_all is_plain line)) why.Byte (Err why.FirstWord)
headed_by caps front (Some k) line words lines =
    refuse (not (list_all is_plain line)) why.Byte (entering (heading_form front k words lines))

abbrev pub headed_form : Bool → Front → List ℕ → List ℕ → List (List ℕ) → List (List ℕ) → Result Headed Reason
headed_form caps front line first words lines = headed_by caps front (heading_keyword caps front.head.version front.place first) line words lines

abbrev pub headed_words : Bool → Front → List ℕ → List (List ℕ) → List (List ℕ) → Result Headed Reason
headed_words caps front line [] lines = Ok passed
headed_words caps front line (first ∷ words) lines = if slice_index first 0 == 35 then Ok passed else headed_form caps front line first words lines

unfoldable pub headed_line : Bool → Front → List ℕ → List (List ℕ) → Result Headed Reason
headed_line caps front line lines = headed_words caps front line (words_of line) lines

-- what the heading says, and the number of the line right behind its last line
pub record HeadEnd : Type 0 where
  pub head : HeadSaid
  pub line : ℕ

abbrev pub head_end : Bool → ℕ → ℕ → Front → Result HeadEnd Refusal
head_end caps n last front = if may_end caps front.place then Ok (record { head = front.head; line = last }) else refused n why.FirstWord

abbrev pub then_headed : ℕ → ℕ → Front → Result Headed Reason → (ℕ → Front → Result HeadEnd Refusal) → Result HeadEnd Refusal
then_headed n last front (Ok passed) rest = rest last front
then_headed n last front (Ok (entered next)) rest = rest (n + 1) next
then_headed n last front (Ok ends) rest = Ok (record { head = front.head; line = last })
then_headed n last front (Err reason) rest = refused n reason

-- from the line with number n on; last: the number of the line right behind the heading's last line so far
abbrev pub head_from : Bool → ℕ → ℕ → Front → List (List ℕ) → Result HeadEnd Refusal
head_from caps n last front [] = head_end caps n last front
head_from caps n last front (line ∷ lines) = then_headed n last front (headed_line caps front line lines) (λ l next. head_from caps (n + 1) l next lines)

-- the text behind its first n lines
abbrev pub after_lines : ℕ → List ℕ → List ℕ
after_lines zero text = text
after_lines (suc n) text = after_first is_newline (after_lines n text)

abbrev pub heading_at : ℕ → HeadEnd → Heading
heading_at end e = record { shape = shape_said e.head; classes = e.head.classes; globals = e.head.globals; end = end; line = e.line }

abbrev pub then_heading : List ℕ → ℕ → ℕ → Result HeadEnd Refusal → Result Heading Refusal
then_heading text at line (Ok e) = Ok (heading_at (length text - length (after_lines (e.line - line) (drop at text))) e)
then_heading text at line (Err refusal) = Err refusal

-- the heading of a text of this version that begins at this byte, on the line with this number
abbrev pub heading_of : List ℕ → ℕ → ℕ → ℕ → Bool → Result Heading Refusal
heading_of text at line version caps = then_heading text at line (head_from caps line line (nothing version behind.Version) (lines_of (drop at text)))
