-- The lines of threads.
use Rattle.std.specs.Prelude.{ℕ, Bool, true, false, ◌+◌, ◌<◌, ◌==◌, List, ◌++◌, codes, count_by, sum_by, if◌then◌else◌, ⊤}
use Rattle.std.specs.List.{flat_map, AllByRecursion}
use Rattle.std.specs.Fmt.{decimal}
use Rattle.arc_model.specs.declared.answer.Answer.{Answer}
use Rattle.arc_model.specs.declared.answer.Answer.TheVariants as answer
use Rattle.arc_script.specs.declared.answer.Line.{Line}
use Rattle.arc_ops.specs.declared.told.ThreadLines.{ThreadLines}
use Rattle.arc_report.specs.Names.{object_text}

abbrev pub answer_text : List (List ℕ) → Answer → List ℕ
answer_text classes (answer.New name) = codes "new " ++ object_text classes name
answer_text classes answer.Full = codes "full"
answer_text classes (answer.Got name) = codes "got " ++ object_text classes name
answer_text classes answer.Ok = codes "ok"
answer_text classes answer.Nil = codes "nil"
answer_text classes answer.Dead = codes "dead"
answer_text classes answer.NoEntry = codes "noentry"
answer_text classes answer.CountFull = codes "countfull"
answer_text classes (answer.Deinit name) = codes "deinit " ++ object_text classes name

-- the answer, at the end of its line
abbrev pub answer_line : List (List ℕ) → Answer → List ℕ
answer_line classes a = answer_text classes a ++ codes "\n"

-- the number of an operation, or the end of the thread's scope
abbrev pub operation_text : ℕ → List ℕ
operation_text n = if n == 0 then codes "end" else decimal n

abbrev pub line_text : List (List ℕ) → Line → List ℕ
line_text classes line = operation_text line.operation ++ (codes " " ++ answer_line classes line.answer)

abbrev pub thread_text : List (List ℕ) → ThreadLines → List ℕ
thread_text classes t = codes "thread " ++ (decimal t.thread ++ (codes "\n" ++ flat_map (line_text classes) t.lines))

-- a line of the end section has no number
abbrev pub end_line_text : List (List ℕ) → Line → List ℕ
end_line_text classes line = answer_line classes line.answer

abbrev pub end_text : List (List ℕ) → List Line → List ℕ
end_text classes lines = codes "end\n" ++ flat_map (end_line_text classes) lines

-- ---- how many lines tell of a new object, and how many of a deinit

abbrev pub is_new : Answer → Bool
is_new (answer.New name) = true
is_new answer.Full = false
is_new (answer.Got name) = false
is_new answer.Ok = false
is_new answer.Nil = false
is_new answer.Dead = false
is_new answer.NoEntry = false
is_new answer.CountFull = false
is_new (answer.Deinit name) = false

abbrev pub is_deinit : Answer → Bool
is_deinit (answer.New name) = false
is_deinit answer.Full = false
is_deinit (answer.Got name) = false
is_deinit answer.Ok = false
is_deinit answer.Nil = false
is_deinit answer.Dead = false
is_deinit answer.NoEntry = false
is_deinit answer.CountFull = false
is_deinit (answer.Deinit name) = true

abbrev pub new_count : List Line → ℕ
new_count lines = count_by (λ (l : Line). is_new l.answer) lines

abbrev pub deinit_count : List Line → ℕ
deinit_count lines = count_by (λ (l : Line). is_deinit l.answer) lines

abbrev pub object_total : List ThreadLines → ℕ
object_total threads = sum_by (λ (t : ThreadLines). new_count t.lines) threads

abbrev pub deinit_total : List ThreadLines → List Line → ℕ
deinit_total threads end = sum_by (λ (t : ThreadLines). deinit_count t.lines) threads + deinit_count end

-- ---- the class of each name is one of so many

abbrev pub AnswerHasClass : ℕ → Answer → Type 0
AnswerHasClass n (answer.New name) = name.class < n
AnswerHasClass n answer.Full = ⊤
AnswerHasClass n (answer.Got name) = name.class < n
AnswerHasClass n answer.Ok = ⊤
AnswerHasClass n answer.Nil = ⊤
AnswerHasClass n answer.Dead = ⊤
AnswerHasClass n answer.NoEntry = ⊤
AnswerHasClass n answer.CountFull = ⊤
AnswerHasClass n (answer.Deinit name) = name.class < n

abbrev pub LinesHaveClasses : ℕ → List Line → Type 0
LinesHaveClasses n lines = AllByRecursion (λ (l : Line). AnswerHasClass n l.answer) lines

abbrev pub ThreadsHaveClasses : ℕ → List ThreadLines → Type 0
ThreadsHaveClasses n threads = AllByRecursion (λ (t : ThreadLines). LinesHaveClasses n t.lines) threads
