-- The lines that a thread's notes put down.
use Rattle.std.specs.Prelude.{ℕ, zero, suc, Bool, true, false, List, [], ◌∷◌, map, filter, reverse, not}
use Rattle.arc_model.specs.declared.answer.Answer.{Answer}
use Rattle.arc_model.specs.declared.answer.Answer.TheVariants as answers
use Rattle.arc_model.specs.declared.event.ObjectName.{ObjectName}
use Rattle.arc_spelling.specs.Spelling.{Note}
use Rattle.arc_spelling.specs.Spelling.Note.{Line as Says, Operation}
use Rattle.arc_script.specs.declared.answer.Line.{Line}

-- the number of the operation that is under way, 0 at the end of the scope
abbrev pub number_of : List Note → ℕ
number_of [] = 0
number_of (Operation n ∷ ns) = n
number_of (_ ∷ ns) = number_of ns

-- the lines, the newest first
abbrev pub lines_of : List Note → List Line
lines_of [] = []
lines_of (Says a ∷ ns) = record { operation = number_of ns; answer = a } ∷ lines_of ns
lines_of (_ ∷ ns) = lines_of ns

-- the lines in their order
abbrev pub told : List Note → List Line
told notes = reverse (lines_of notes)

abbrev pub is_deinit : Answer → Bool
is_deinit (answers.Deinit name) = true
is_deinit _ = false

abbrev pub tells_deinit : Line → Bool
tells_deinit line = is_deinit line.answer

abbrev pub deinit_line : ℕ → ObjectName → Line
deinit_line n name = record { operation = n; answer = answers.Deinit name }

-- the numbers of the lines that tell what an operation answers
abbrev pub answered : List Line → List ℕ
answered lines = map (λ (line : Line). line.operation) (filter (λ (line : Line). not (tells_deinit line)) lines)

-- n, .., 2, 1
abbrev pub down_from : ℕ → List ℕ
down_from zero = []
down_from (suc n) = suc n ∷ down_from n
