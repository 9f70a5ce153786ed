-- What is promised of the replay that `replay` prints.
use Rattle.std.specs.Prelude.{◌≡◌, ℕ, List, Option, reverse}
use Rattle.std.specs.Io.KnownBytes.{Appends}
use Rattle.arc_model.specs.Shapes.{HeapShape}
use Rattle.arc_model.specs.History.{History, heap_after}
use Rattle.arc_script.specs.declared.script.Script.{Script}
use Rattle.arc_quiet.specs.OneWay.{NoClassIsImmortal, StrongFieldsLeadOneWay, AllDead}
use Rattle.arc_quiet.specs.Whole.{NoOtherThread}
use Rattle.arc_programs_laws.specs.Claims.{NoEntryIsClaimed}
use Rattle.arc_programs_laws.specs.Deinits.{emptied}
use Rattle.arc_programs_laws.specs.Phases.{PhasesFollow}
use Rattle.arc_replays.specs.Histories.{history_of, deinits_printed}
use Rattle.arc_plain.specs.declared.replay.Replay.{Replay}
use Rattle.arc_schedule.specs.Law.{IsScheduled}
use Rattle.arc.specs.Outputs.{AreAll, TellsOf}

-- The whole output of a replay of the text went out, and this holds of the script and its replay.
pub record Prints (Holds : Script → Replay → Type 0) (left old new : Option (List ℕ)) : Type 0 where
  pub text : List ℕ
  pub all : AreAll left text
  pub out : List ℕ
  pub tells : TellsOf text out
  pub sent : Appends old new out
  pub holds : Holds tells.served.script tells.tells.replay

-- the history that was printed, the newest event first
abbrev pub printed : Replay → History
printed replay = history_of (reverse replay.events.items)

-- this holds of the history that was printed
abbrev pub OfHistory : (History → Type 0) → Script → Replay → Type 0
OfHistory Holds script replay = Holds (printed replay)

-- this holds of the history that was printed, in a heap of the script's shape
abbrev pub OfShape : (HeapShape → History → Type 0) → Script → Replay → Type 0
OfShape Holds script replay = Holds script.shape (printed replay)

-- The steps are a schedule run of the script, with these numbers of events, and leave these words.
abbrev pub IsScheduledReplay : Script → Replay → Type 0
IsScheduledReplay script replay = IsScheduled script replay.words.items replay.steps (reverse replay.events.items)

-- each event of a phase stands before each event of a later one
abbrev pub KeepsPhases : Script → Replay → Type 0
KeepsPhases script replay = PhasesFollow script (printed replay)

-- no event is of a thread that the script doesn't have
abbrev pub HasNoOtherThread : Script → Replay → Type 0
HasNoOtherThread script replay = NoOtherThread script (printed replay)

-- as many deinit lines were printed as events emptied the strong list of an object
abbrev pub TellsEachDeinit : Script → Replay → Type 0
TellsEachDeinit script replay = deinits_printed replay.threads.items replay.end.items ≡ emptied (printed replay)

-- no entry is claimed in the end
abbrev pub ClaimsNothing : History → Type 0
ClaimsNothing h = NoEntryIsClaimed (heap_after h)

-- where no class is immortal and strong fields lead one way, every object is dead in the end
abbrev pub LeavesNothing : Script → Replay → Type 0
LeavesNothing script replay = NoClassIsImmortal script.shape → StrongFieldsLeadOneWay script.shape → AllDead script.shape (heap_after (printed replay))
