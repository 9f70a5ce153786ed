-- Which classes the lines and events of a script name: those that it declares.
use Rattle.std.specs.Prelude.{ℕ, ◌<◌, List, All, length, ⊤}
use Rattle.std.specs.List.{AllByRecursion}
use Rattle.arc_model.specs.declared.answer.Answer.{Answer}
use Rattle.arc_model.specs.declared.answer.Answer.TheVariants as answers
use Rattle.arc_model.specs.declared.event.Act.{Act}
use Rattle.arc_model.specs.declared.event.Act.TheVariants as acts
use Rattle.arc_model.specs.declared.event.Event.{Event}
use Rattle.arc_model.specs.History.{History}
use Rattle.arc_spelling.specs.SpellingTies.{Causes}
use Rattle.arc_script.specs.declared.answer.Line.{Line}
use Rattle.arc_script.specs.declared.script.Script.{Script}
use Rattle.arc_script.specs.Valid.{IsScript}
use Rattle.arc_programs.specs.ProgramsTied.{HasProgram}
use Rattle.arc_quiet.specs.Whole.{AllFinish, NoOtherThread}

-- an object that the answer names is of one of so many classes
abbrev pub AnswerFits : ℕ → Answer → Type 0
AnswerFits n (answers.New name) = name.class < n
AnswerFits n answers.Full = ⊤
AnswerFits n (answers.Got name) = name.class < n
AnswerFits n answers.Ok = ⊤
AnswerFits n answers.Nil = ⊤
AnswerFits n answers.Dead = ⊤
AnswerFits n answers.NoEntry = ⊤
AnswerFits n answers.CountFull = ⊤
AnswerFits n (answers.Deinit name) = name.class < n

abbrev pub LineFits : ℕ → Line → Type 0
LineFits n line = AnswerFits n line.answer

-- an object that the act makes is of one of so many classes
abbrev pub ClassFits : ℕ → Act → Type 0
ClassFits n (acts.New hand class slot) = class < n
ClassFits n _ = ⊤

-- Where all threads of a script have their programs, each object that is made is of a class of the script.
abbrev pub EventsNameClasses : Type 0
EventsNameClasses = (causes : Causes) (script : Script) (h : History) → IsScript script → AllFinish causes script h → NoOtherThread script h →
    AllByRecursion (λ (e : Event). ClassFits (length script.shape.classes) e.act) h

-- So each line names objects of classes of the script.
abbrev pub LinesNameClasses : Type 0
LinesNameClasses = (causes : Causes) (script : Script) (h : History) (p : ℕ) (lines : List Line) → IsScript script → AllFinish causes script h →
    NoOtherThread script h → HasProgram causes script p lines h → All (LineFits (length script.shape.classes)) lines
