-- The lines of events.
use Rattle.std.specs.Prelude.{ℕ, Bool, ◌<◌, List, ◌++◌, codes, Option, Some, None, if◌then◌else◌, ⊤}
use Rattle.std.specs.Fmt.{decimal}
use Rattle.arc_model.specs.declared.event.CellName.{CellName}
use Rattle.arc_model.specs.declared.event.CellName.TheVariants as cell
use Rattle.arc_model.specs.declared.event.Origin.{Origin}
use Rattle.arc_model.specs.declared.event.Origin.TheVariants as origin
use Rattle.arc_model.specs.declared.event.Got.{Got}
use Rattle.arc_model.specs.declared.event.Got.TheVariants as got
use Rattle.arc_model.specs.declared.event.Act.{Act}
use Rattle.arc_model.specs.declared.event.Act.TheVariants as act
use Rattle.arc_ops.specs.declared.told.Stamped.{Stamped}
use Rattle.arc_script.specs.Valid.{name_at}
use Rattle.arc_script.specs.Canonical.{kind_word}
use Rattle.arc_report.specs.Names.{cell_text, origin_text}

abbrev pub last_text : Bool → List ℕ
last_text last = if last then codes "last" else codes "more"

abbrev pub got_text : Got → List ℕ
got_text (got.Hand hand) = decimal hand
got_text got.Dead = codes "dead"
got_text got.Nil = codes "nil"

-- a hand's number, or nil
abbrev pub hand_text : Option ℕ → List ℕ
hand_text (Some hand) = decimal hand
hand_text None = codes "nil"

abbrev pub act_text : List (List ℕ) → List (List ℕ) → Act → List ℕ
act_text classes globals (act.New hand class slot) = codes "new " ++ (decimal hand ++ (codes " " ++ (name_at classes class ++ (codes " " ++ decimal slot))))
act_text classes globals act.Full = codes "full"
act_text classes globals (act.Copy from hand) = codes "copy " ++ (origin_text globals from ++ (codes " " ++ decimal hand))
act_text classes globals (act.UnownedOf of hand) = codes "unown " ++ (decimal of ++ (codes " " ++ decimal hand))
act_text classes globals (act.WeakOf of hand) = codes "weak " ++ (decimal of ++ (codes " " ++ decimal hand))
act_text classes globals (act.Load of g) = codes "load " ++ (decimal of ++ (codes " " ++ got_text g))
act_text classes globals (act.Drop hand last) = codes "drop " ++ (decimal hand ++ (codes " " ++ last_text last))
act_text classes globals (act.CountFull list from) = codes "countfull " ++ (kind_word list ++ (codes " " ++ origin_text globals from))
act_text classes globals (act.Claim entry) = codes "claim " ++ decimal entry
act_text classes globals act.NoEntry = codes "noentry"
act_text classes globals (act.Side slot entry why) = codes "side " ++ (decimal slot ++ (codes " " ++ (decimal entry ++ (codes " " ++ kind_word why))))
act_text classes globals (act.Back entry) = codes "back " ++ decimal entry
act_text classes globals (act.Swap c put took) = codes "swap " ++ (cell_text globals c ++ (codes " " ++ (hand_text put ++ (codes " " ++ hand_text took))))
act_text classes globals (act.Look c) = codes "look " ++ cell_text globals c
act_text classes globals (act.Take slot field hand) = codes "take " ++ (decimal slot ++ (codes "." ++ (decimal field ++ (codes " " ++ decimal hand))))
act_text classes globals (act.Finish slot last) = codes "finish " ++ (decimal slot ++ (codes " " ++ last_text last))
act_text classes globals (act.Vacate slot) = codes "vacate " ++ decimal slot
act_text classes globals (act.Gone entry last) = codes "gone " ++ (decimal entry ++ (codes " " ++ last_text last))

-- the number of the step, the thread and what it did
abbrev pub event_text : List (List ℕ) → List (List ℕ) → Stamped → List ℕ
event_text classes globals s =
    decimal s.step ++ (codes " " ++ (decimal s.event.thread ++ (codes " " ++ (act_text classes globals s.event.act ++ codes "\n"))))

-- ---- the class and the globals of an event are there

abbrev pub CellIsThere : ℕ → CellName → Type 0
CellIsThere globals (cell.Field slot field) = ⊤
CellIsThere globals (cell.Global global) = global < globals

abbrev pub OriginIsThere : ℕ → Origin → Type 0
OriginIsThere globals (origin.Hand hand) = ⊤
OriginIsThere globals (origin.Cell c) = CellIsThere globals c

abbrev pub ActIsNamed : ℕ → ℕ → Act → Type 0
ActIsNamed classes globals (act.New hand class slot) = class < classes
ActIsNamed classes globals act.Full = ⊤
ActIsNamed classes globals (act.Copy from hand) = OriginIsThere globals from
ActIsNamed classes globals (act.UnownedOf of hand) = ⊤
ActIsNamed classes globals (act.WeakOf of hand) = ⊤
ActIsNamed classes globals (act.Load of g) = ⊤
ActIsNamed classes globals (act.Drop hand last) = ⊤
ActIsNamed classes globals (act.CountFull list from) = OriginIsThere globals from
ActIsNamed classes globals (act.Claim entry) = ⊤
ActIsNamed classes globals act.NoEntry = ⊤
ActIsNamed classes globals (act.Side slot entry why) = ⊤
ActIsNamed classes globals (act.Back entry) = ⊤
ActIsNamed classes globals (act.Swap c put took) = CellIsThere globals c
ActIsNamed classes globals (act.Look c) = CellIsThere globals c
ActIsNamed classes globals (act.Take slot field hand) = ⊤
ActIsNamed classes globals (act.Finish slot last) = ⊤
ActIsNamed classes globals (act.Vacate slot) = ⊤
ActIsNamed classes globals (act.Gone entry last) = ⊤

abbrev pub EventIsNamed : ℕ → ℕ → Stamped → Type 0
EventIsNamed classes globals s = ActIsNamed classes globals s.event.act
