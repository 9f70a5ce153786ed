-- The one canonical text of a history: single spaces, no comments, and a newline after each line.
use Rattle.std.specs.Prelude.{ℕ, ◌+◌, ◌^◌, ◌<◌, ◌≤◌, Bool, List, [], ◌∷◌, ◌++◌, length, map, codes, Option, Some, None, if◌then◌else◌, ⊤}
use Rattle.std.specs.Fmt.{decimal}
use Rattle.arc_model.specs.Shapes.{HeapShape}
use Rattle.arc_model.specs.declared.event.CellName.{CellName}
use Rattle.arc_model.specs.declared.event.CellName.TheVariants as cells
use Rattle.arc_model.specs.declared.event.Origin.{Origin}
use Rattle.arc_model.specs.declared.event.Origin.TheVariants as origins
use Rattle.arc_model.specs.declared.event.Got.{Got}
use Rattle.arc_model.specs.declared.event.Got.TheVariants as got
use Rattle.arc_model.specs.declared.event.Act.{Act}
use Rattle.arc_model.specs.declared.event.Act.TheVariants as act
use Rattle.arc_script.specs.declared.script.ClassDecl.{ClassDecl}
use Rattle.arc_script.specs.declared.script.VarDecl.{VarDecl}
use Rattle.arc_script.specs.Valid.{name_at, class_names, var_names}
use Rattle.arc_script.specs.Canonical.{kind_word, numbers_line, heading_lines, text_of}
use Rattle.arc_check.specs.declared.line.EventLine.{EventLine}
use Rattle.arc_check.specs.Scopes.{Naming}

-- ---- words

abbrev pub last_word : Bool → List ℕ
last_word last = if last then codes "last" else codes "more"

abbrev pub got_word : Got → List ℕ
got_word (got.Hand hand) = decimal hand
got_word got.Dead = codes "dead"
got_word got.Nil = codes "nil"

abbrev pub hand_word : Option ℕ → List ℕ
hand_word (Some hand) = decimal hand
hand_word None = codes "nil"

abbrev pub field_word : ℕ → ℕ → List ℕ
field_word slot field = decimal slot ++ 46 ∷ decimal field

-- SLOT.FIELD or @NAME
abbrev pub cell_word : List VarDecl → CellName → List ℕ
cell_word globals (cells.Field slot field) = field_word slot field
cell_word globals (cells.Global global) = 64 ∷ name_at (var_names globals) global

abbrev pub origin_word : List VarDecl → Origin → List ℕ
origin_word globals (origins.Hand hand) = decimal hand
origin_word globals (origins.Cell c) = cell_word globals c

abbrev pub act_words : List ClassDecl → List VarDecl → Act → List (List ℕ)
act_words classes globals (act.New hand class slot) = codes "new" ∷ decimal hand ∷ name_at (class_names classes) class ∷ decimal slot ∷ []
act_words classes globals act.Full = codes "full" ∷ []
act_words classes globals (act.Copy from hand) = codes "copy" ∷ origin_word globals from ∷ decimal hand ∷ []
act_words classes globals (act.UnownedOf of hand) = codes "unown" ∷ decimal of ∷ decimal hand ∷ []
act_words classes globals (act.WeakOf of hand) = codes "weak" ∷ decimal of ∷ decimal hand ∷ []
act_words classes globals (act.Load of g) = codes "load" ∷ decimal of ∷ got_word g ∷ []
act_words classes globals (act.Drop hand last) = codes "drop" ∷ decimal hand ∷ last_word last ∷ []
act_words classes globals (act.CountFull list from) = codes "countfull" ∷ kind_word list ∷ origin_word globals from ∷ []
act_words classes globals (act.Claim entry) = codes "claim" ∷ decimal entry ∷ []
act_words classes globals act.NoEntry = codes "noentry" ∷ []
act_words classes globals (act.Side slot entry why) = codes "side" ∷ decimal slot ∷ decimal entry ∷ kind_word why ∷ []
act_words classes globals (act.Back entry) = codes "back" ∷ decimal entry ∷ []
act_words classes globals (act.Swap c put took) = codes "swap" ∷ cell_word globals c ∷ hand_word put ∷ hand_word took ∷ []
act_words classes globals (act.Look c) = codes "look" ∷ cell_word globals c ∷ []
act_words classes globals (act.Take slot field hand) = codes "take" ∷ field_word slot field ∷ decimal hand ∷ []
act_words classes globals (act.Finish slot last) = codes "finish" ∷ decimal slot ∷ last_word last ∷ []
act_words classes globals (act.Vacate slot) = codes "vacate" ∷ decimal slot ∷ []
act_words classes globals (act.Gone entry last) = codes "gone" ∷ decimal entry ∷ last_word last ∷ []

abbrev pub event_words : List ClassDecl → List VarDecl → EventLine → List (List ℕ)
event_words classes globals e = decimal e.step ∷ decimal e.event.thread ∷ act_words classes globals e.event.act

-- ---- lines

abbrev pub events_lines : List ClassDecl → List VarDecl → List EventLine → List (List (List ℕ))
events_lines classes globals events = map (event_words classes globals) events ++ (codes "done" ∷ []) ∷ []

abbrev pub later_lines : List ClassDecl → List VarDecl → ℕ → List EventLine → List (List (List ℕ))
later_lines classes globals threads events = numbers_line (codes "threads") (threads ∷ []) ∷ (codes "events" ∷ []) ∷ events_lines classes globals events

abbrev pub history_lines : ℕ → HeapShape → List ClassDecl → List VarDecl → ℕ → List EventLine → List (List (List ℕ))
history_lines version shape classes globals threads events =
    numbers_line (codes "history") (version ∷ []) ∷ (heading_lines shape classes globals ++ later_lines classes globals threads events)

abbrev pub written_history : ℕ → HeapShape → List ClassDecl → List VarDecl → ℕ → List EventLine → List ℕ
written_history version shape classes globals threads events = text_of (history_lines version shape classes globals threads events)

-- the events with the numbers of their lines, from this one on
abbrev pub numbered : ℕ → List EventLine → List EventLine
numbered n [] = []
numbered n (e ∷ es) = record { line = n; step = e.step; event = e.event } ∷ numbered (n + 1) es

-- the number of the first event's line
abbrev pub first_line : List ClassDecl → List VarDecl → ℕ
first_line classes globals = 7 + (length classes + length globals)

-- ---- what an event may name

abbrev pub named_of : HeapShape → List ClassDecl → List VarDecl → ℕ → Naming
named_of shape classes globals threads = record { slots = shape.slots; entries = shape.entries; threads = threads; classes = classes; globals = globals }

abbrev pub HandFits : ℕ → Type 0
HandFits hand = hand ≤ 4294967295

abbrev pub HandOrNilFits : Option ℕ → Type 0
HandOrNilFits (Some hand) = HandFits hand
HandOrNilFits None = ⊤

abbrev pub GotFits : Got → Type 0
GotFits (got.Hand hand) = HandFits hand
GotFits got.Dead = ⊤
GotFits got.Nil = ⊤

abbrev pub CellFits : Naming → CellName → Type 0
CellFits scope (cells.Field slot field) = (slot < scope.slots) × (field < 8)
CellFits scope (cells.Global global) = global < length scope.globals

abbrev pub OriginFits : Naming → Origin → Type 0
OriginFits scope (origins.Hand hand) = HandFits hand
OriginFits scope (origins.Cell c) = CellFits scope c

abbrev pub ActFits : Naming → Act → Type 0
ActFits scope (act.New hand class slot) = HandFits hand × (class < length scope.classes) × (slot < scope.slots)
ActFits scope act.Full = ⊤
ActFits scope (act.Copy from hand) = OriginFits scope from × HandFits hand
ActFits scope (act.UnownedOf of hand) = HandFits of × HandFits hand
ActFits scope (act.WeakOf of hand) = HandFits of × HandFits hand
ActFits scope (act.Load of g) = HandFits of × GotFits g
ActFits scope (act.Drop hand last) = HandFits hand
ActFits scope (act.CountFull list from) = OriginFits scope from
ActFits scope (act.Claim entry) = entry < scope.entries
ActFits scope act.NoEntry = ⊤
ActFits scope (act.Side slot entry why) = (slot < scope.slots) × (entry < scope.entries)
ActFits scope (act.Back entry) = entry < scope.entries
ActFits scope (act.Swap c put took) = CellFits scope c × HandOrNilFits put × HandOrNilFits took
ActFits scope (act.Look c) = CellFits scope c
ActFits scope (act.Take slot field hand) = (slot < scope.slots) × (field < 8) × HandFits hand
ActFits scope (act.Finish slot last) = slot < scope.slots
ActFits scope (act.Vacate slot) = slot < scope.slots
ActFits scope (act.Gone entry last) = entry < scope.entries

pub record EventFits (scope : Naming) (e : EventLine) : Type 0 where
  pub step_fits : e.step < 2 ^ 64
  pub thread_fits : e.event.thread ≤ scope.threads
  pub act_fits : ActFits scope e.event.act
