-- What the report and the history text ask of lines, events and words, from what a replay says of them.
use Rattle.std.proofs.Common.{◌≡◌, ℕ, true, true≢false, Option, Some, None, List, length, ap, sym, subst, ◌∙◌}
use Rattle.std.specs.Prelude.{All}
use Rattle.std.specs.List.{AllByRecursion}
use Rattle.std.proofs.lemmas.List.{length-map}
use Rattle.std.proofs.lemmas.List.Elements.{recursion_from_All}
use Rattle.arc_model.specs.declared.event.CellName.{CellName}
use Rattle.arc_model.specs.declared.event.CellName.TheVariants as cells
use Rattle.arc_model.specs.declared.event.Origin.TheVariants.{Hand, Cell}
use Rattle.arc_model.specs.declared.event.Act.{Act}
use Rattle.arc_model.specs.declared.event.Act.TheVariants as acts
use Rattle.arc_bits.specs.declared.packing.Word.{Word}
use Rattle.arc_bits.specs.declared.packing.Word.TheVariants.{Free, Counts, Slow, Immortal}
use Rattle.arc_ops.specs.Takes.{IsInline}
use Rattle.arc_rule.specs.Extents.{Extent}
use Rattle.arc_rule.specs.Places.{extent_of}
use Rattle.arc_model.specs.Shapes.{HeapShape}
use Rattle.arc_model.specs.declared.answer.Answer.{Answer}
use Rattle.arc_model.specs.declared.answer.Answer.TheVariants as answers
use Rattle.arc_script.specs.declared.answer.Line.{Line}
use Rattle.arc_script.specs.declared.script.Script.{Script}
use Rattle.arc_script.specs.Valid.{IsScript}
use Rattle.arc_ops.specs.declared.told.Stamped.{Stamped}
use Rattle.arc_ops.specs.declared.told.ThreadLines.{ThreadLines}
use Rattle.arc_plain.specs.declared.replay.Replay.{Replay}
use Rattle.arc_replays.specs.Named.{IsThere, AnswerFits, LineFits, ActFits}
use Rattle.arc_replays.specs.Left.{NoEntries}
use Rattle.arc_plain.specs.Replays.{IsReplay}
use Rattle.arc_report.specs.Lines.{AnswerHasClass, LinesHaveClasses, ThreadsHaveClasses}
use Rattle.arc_report.specs.Events.{CellIsThere, ActIsNamed, EventIsNamed}
use Rattle.arc_report.specs.Words.{AreFinalWords, EntryIsThere, ObjectsHaveClasses}

answer_named : (n : ℕ) (a : Answer) → AnswerFits n a → AnswerHasClass n a
answer_named n (answers.New name) h = h
answer_named n answers.Full h = h
answer_named n (answers.Got name) h = h
answer_named n answers.Ok h = h
answer_named n answers.Nil h = h
answer_named n answers.Dead h = h
answer_named n answers.NoEntry h = h
answer_named n answers.CountFull h = h
answer_named n (answers.Deinit name) h = h

pub lines_named : (n : ℕ) (lines : List Line) → All (LineFits n) lines → LinesHaveClasses n lines
lines_named n lines all = recursion_from_All (λ (l : Line). AnswerHasClass n l.answer) lines (λ k d h. answer_named n _ (all k d h))

cell_named : (shape : HeapShape) (c : CellName) → IsThere shape c → CellIsThere (length shape.globals) c
cell_named shape (cells.Field slot field) h = tt
cell_named shape (cells.Global g) h = h

act_named : (shape : HeapShape) (act : Act) → ActFits shape act → ActIsNamed (length shape.classes) (length shape.globals) act
act_named shape (acts.New hand class slot) h = h
act_named shape acts.Full h = h
act_named shape (acts.Copy (Hand of) hand) h = h
act_named shape (acts.Copy (Cell cell) hand) h = cell_named shape cell h
act_named shape (acts.UnownedOf of hand) h = h
act_named shape (acts.WeakOf of hand) h = absurd h
act_named shape (acts.Load of got) h = h
act_named shape (acts.Drop hand last) h = h
act_named shape (acts.CountFull list from) h = absurd h
act_named shape (acts.Claim entry) h = absurd h
act_named shape acts.NoEntry h = absurd h
act_named shape (acts.Side slot entry why) h = absurd h
act_named shape (acts.Back entry) h = absurd h
act_named shape (acts.Swap cell put took) h = cell_named shape cell h
act_named shape (acts.Look cell) h = cell_named shape cell h
act_named shape (acts.Take slot field hand) h = tt
act_named shape (acts.Finish slot last) h = h
act_named shape (acts.Vacate slot) h = h
act_named shape (acts.Gone entry last) h = absurd h

pub events_named : (shape : HeapShape) (events : List Stamped) → All (λ (s : Stamped). ActFits shape s.event.act) events → AllByRecursion (EventIsNamed (length shape.classes) (length shape.globals)) events
events_named shape events all = recursion_from_All (EventIsNamed (length shape.classes) (length shape.globals)) events (λ k d h. act_named shape _ (all k d h))

-- ---- words of a heap in which no object has an entry

inline_is_there : (l : Extent) (w : Option Word) → IsInline w → EntryIsThere l w
inline_is_there l (Some Free) inline = tt
inline_is_there l (Some (Counts c)) inline = tt
inline_is_there l (Some (Slow e)) inline = absurd inline
inline_is_there l (Some Immortal) inline = tt
inline_is_there l None inline = tt

pub final_words : (shape : HeapShape) (words : List ℕ) → NoEntries shape words → AreFinalWords (extent_of shape) words
final_words shape words left = record {
  whole = left.whole;
  names = λ s h t. (left.slots s h t).named;
  entries = λ s h t. inline_is_there (extent_of shape) _ (left.slots s h t).inline;
  links = λ e h t. absurd (true≢false (sym t ∙ left.entries e h));
}

-- ---- of a replay

-- a script has as many classes as its shape
classes_count : (script : Script) → IsScript script → length script.shape.classes ≡ length script.classes
classes_count script valid = ap length valid.heading.of_classes ∙ simp length-map

globals_count : (script : Script) → IsScript script → length script.shape.globals ≡ length script.globals
globals_count script valid = ap length valid.heading.of_globals ∙ simp length-map

pub classes_there : (script : Script) (words : List ℕ) → IsScript script → NoEntries script.shape words → ObjectsHaveClasses (length script.classes) (extent_of script.shape) words
classes_there script words valid left = subst (λ n. ObjectsHaveClasses n (extent_of script.shape) words) (classes_count script valid) (λ s h t. (left.slots s h t).class_there)

pub threads_told : (script : Script) (r : Replay) → IsScript script → IsReplay script r → ThreadsHaveClasses (length script.classes) r.threads.items
threads_told script r valid told =
    subst (λ n. ThreadsHaveClasses n r.threads.items) (classes_count script valid)
    (recursion_from_All (λ (t : ThreadLines). LinesHaveClasses (length script.shape.classes) t.lines) r.threads.items (λ k d h. lines_named _ _ (told.lines_fit k d h)))

pub end_told : (script : Script) (r : Replay) → IsScript script → IsReplay script r → LinesHaveClasses (length script.classes) r.end.items
end_told script r valid told = subst (λ n. LinesHaveClasses n r.end.items) (classes_count script valid) (lines_named _ _ told.end_fits)

pub events_told : (script : Script) (r : Replay) → IsScript script → IsReplay script r → AllByRecursion (EventIsNamed (length script.classes) (length script.globals)) r.events.items
events_told script r valid told =
    subst (λ n. AllByRecursion (EventIsNamed (length script.classes) n) r.events.items) (globals_count script valid)
    (subst (λ n. AllByRecursion (EventIsNamed n (length script.shape.globals)) r.events.items) (classes_count script valid) (events_named script.shape _ told.events_fit))
