-- The lines of events, by the words behind the event word: each form is a chain of tests in ascending order of reasons.
use Rattle.std.specs.Prelude.{ℕ, ◌-◌, ◌^◌, Bool, true, false, not, ◌||◌, List, [], ◌∷◌, nat_le, ◌==◌, if◌then◌else◌, Option, Some, None, option_map, Result, Ok, Err, bytes_eq, codes, count_by, drop}
use Rattle.std.specs.List.{before_first, after_first}
use Rattle.arc_text.specs.Words.{is_name, number_in}
use Rattle.arc_text.specs.Chain.{refuse, need}
use Rattle.arc_model.specs.declared.event.CellName.{CellName}
use Rattle.arc_model.specs.declared.event.CellName.TheVariants as cells
use Rattle.arc_model.specs.declared.event.Origin.{Origin}
use Rattle.arc_model.specs.declared.event.Origin.TheVariants as origins
use Rattle.arc_model.specs.declared.event.Got.{Got}
use Rattle.arc_model.specs.declared.event.Got.TheVariants as got
use Rattle.arc_model.specs.declared.event.Act.{Act}
use Rattle.arc_model.specs.declared.event.Act.TheVariants as act
use Rattle.arc_script.specs.declared.reason.Reason.{Reason}
use Rattle.arc_script.specs.declared.reason.Reason.TheVariants as why
use Rattle.arc_script.specs.Lookups.{kind_of, class_place, var_place, is_at_sign, is_dot, is_cell_word}
use Rattle.arc_check.specs.declared.word.EventWord.{EventWord}
use Rattle.arc_check.specs.declared.word.EventWord.TheVariants as word
use Rattle.arc_check.specs.declared.line.Told.{Told}
use Rattle.arc_check.specs.declared.line.Told.TheVariants as told
use Rattle.arc_check.specs.Scopes.{Naming, slot_in, entry_in, thread_in}
use Rattle.arc_check.specs.EventWords.{event_word_of}

-- goes on with what was found, where nothing was refused
abbrev pub on_ok : {X Y : Type 0} → Result X Reason → (X → Result Y Reason) → Result Y Reason
on_ok (Ok x) rest = rest x
on_ok (Err reason) rest = Err reason

-- ---- single words

-- a hand. Hands count from 1; hand 0 is read, and no thread ever has it
abbrev pub hand_in : List ℕ → Option ℕ
hand_in w = number_in 0 4294967295 w

abbrev pub hand_or_nil : List ℕ → Option (Option ℕ)
hand_or_nil w = if bytes_eq w (codes "nil") then Some None else option_map (λ h. Some h) (hand_in w)

abbrev pub got_in : List ℕ → Option Got
got_in w =
    if bytes_eq w (codes "dead") then Some got.Dead else
    if bytes_eq w (codes "nil") then Some got.Nil else option_map (λ h. got.Hand h) (hand_in w)

abbrev pub last_in : List ℕ → Option Bool
last_in w =
    if bytes_eq w (codes "more") then Some false else
    if bytes_eq w (codes "last") then Some true else None

-- ---- cells: @NAME is a global, SLOT.FIELD a field of the object in a slot, by its number

abbrev pub global_of : Naming → List ℕ → Result CellName Reason
global_of scope name =
    refuse (not (is_name name)) why.Spelling (
    need (var_place scope.globals name) why.Unknown (λ g.
    Ok (cells.Global g)))

abbrev pub field_of : Naming → List ℕ → List ℕ → Result CellName Reason
field_of scope slot field =
    need (slot_in scope slot) why.Number (λ s.
    need (number_in 0 7 field) why.Number (λ f.
    Ok (cells.Field s f)))

abbrev pub cell_of : Naming → List ℕ → Result CellName Reason
cell_of scope w = if is_at_sign w then global_of scope (drop 1 w) else field_of scope (before_first is_dot w) (after_first is_dot w)

-- where both may stand, a word that begins with @ or has a dot is a cell, and every other word a hand
abbrev pub is_cell_like : List ℕ → Bool
is_cell_like w = is_at_sign w || not (count_by is_dot w == 0)

-- the word has the parts of what it is
abbrev pub has_origin_parts : List ℕ → Bool
has_origin_parts w = is_at_sign w || nat_le (count_by is_dot w) 1

abbrev pub origin_of : Naming → List ℕ → Result Origin Reason
origin_of scope w =
    if is_cell_like w then on_ok (cell_of scope w) (λ c. Ok (origins.Cell c))
    else need (hand_in w) why.Number (λ h. Ok (origins.Hand h))

-- ---- the forms

abbrev pub unown_form : List ℕ → List ℕ → Result Act Reason
unown_form of hand =
    need (hand_in of) why.Number (λ h.
    need (hand_in hand) why.Number (λ k.
    Ok (act.UnownedOf h k)))

abbrev pub weak_form : List ℕ → List ℕ → Result Act Reason
weak_form of hand =
    need (hand_in of) why.Number (λ h.
    need (hand_in hand) why.Number (λ k.
    Ok (act.WeakOf h k)))

abbrev pub load_form : List ℕ → List ℕ → Result Act Reason
load_form of got =
    need (hand_in of) why.Number (λ h.
    need (got_in got) why.Number (λ g.
    Ok (act.Load h g)))

abbrev pub drop_form : List ℕ → List ℕ → Result Act Reason
drop_form hand last =
    need (hand_in hand) why.Number (λ h.
    need (last_in last) why.Number (λ l.
    Ok (act.Drop h l)))

-- the right number of words, and each cell with its parts
abbrev pub fits : EventWord → List (List ℕ) → Bool
fits word.New (hand ∷ class ∷ slot ∷ []) = true
fits word.Full [] = true
fits word.Copy (from ∷ hand ∷ []) = has_origin_parts from
fits word.Unown (of ∷ hand ∷ []) = true
fits word.Weak (of ∷ hand ∷ []) = true
fits word.Load (of ∷ got ∷ []) = true
fits word.Drop (hand ∷ last ∷ []) = true
fits word.CountFull (list ∷ from ∷ []) = has_origin_parts from
fits word.Claim (entry ∷ []) = true
fits word.NoEntry [] = true
fits word.Side (slot ∷ entry ∷ reason ∷ []) = true
fits word.Back (entry ∷ []) = true
fits word.Swap (cell ∷ put ∷ took ∷ []) = is_cell_word cell
fits word.Look (cell ∷ []) = is_cell_word cell
fits word.Take (cell ∷ hand ∷ []) = count_by is_dot cell == 1
fits word.Finish (slot ∷ last ∷ []) = true
fits word.Vacate (slot ∷ []) = true
fits word.Gone (entry ∷ last ∷ []) = true
fits w words = false

abbrev pub act_of : Naming → EventWord → List (List ℕ) → Result Act Reason
act_of scope word.New (hand ∷ class ∷ slot ∷ []) =
    need (hand_in hand) why.Number (λ k.
    need (slot_in scope slot) why.Number (λ s.
    refuse (not (is_name class)) why.Spelling (
    need (class_place scope.classes class) why.Unknown (λ c.
    Ok (act.New k c s)))))
act_of scope word.Full [] = Ok act.Full
act_of scope word.Copy (from ∷ hand ∷ []) =
    need (hand_in hand) why.Number (λ k.
    on_ok (origin_of scope from) (λ o.
    Ok (act.Copy o k)))
act_of scope word.Unown (of ∷ hand ∷ []) = unown_form of hand
act_of scope word.Weak (of ∷ hand ∷ []) = weak_form of hand
act_of scope word.Load (of ∷ got ∷ []) = load_form of got
act_of scope word.Drop (hand ∷ last ∷ []) = drop_form hand last
act_of scope word.CountFull (list ∷ from ∷ []) =
    on_ok (origin_of scope from) (λ o.
    need (kind_of list) why.Kind (λ k.
    Ok (act.CountFull k o)))
act_of scope word.Claim (entry ∷ []) =
    need (entry_in scope entry) why.Number (λ e.
    Ok (act.Claim e))
act_of scope word.NoEntry [] = Ok act.NoEntry
act_of scope word.Side (slot ∷ entry ∷ reason ∷ []) =
    need (slot_in scope slot) why.Number (λ s.
    need (entry_in scope entry) why.Number (λ e.
    need (kind_of reason) why.Kind (λ k.
    Ok (act.Side s e k))))
act_of scope word.Back (entry ∷ []) =
    need (entry_in scope entry) why.Number (λ e.
    Ok (act.Back e))
act_of scope word.Swap (cell ∷ put ∷ took ∷ []) =
    need (hand_or_nil put) why.Number (λ h.
    need (hand_or_nil took) why.Number (λ k.
    on_ok (cell_of scope cell) (λ c.
    Ok (act.Swap c h k))))
act_of scope word.Look (cell ∷ []) =
    on_ok (cell_of scope cell) (λ c.
    Ok (act.Look c))
act_of scope word.Take (cell ∷ hand ∷ []) =
    need (slot_in scope (before_first is_dot cell)) why.Number (λ s.
    need (number_in 0 7 (after_first is_dot cell)) why.Number (λ f.
    need (hand_in hand) why.Number (λ k.
    Ok (act.Take s f k))))
act_of scope word.Finish (slot ∷ last ∷ []) =
    need (slot_in scope slot) why.Number (λ s.
    need (last_in last) why.Number (λ l.
    Ok (act.Finish s l)))
act_of scope word.Vacate (slot ∷ []) =
    need (slot_in scope slot) why.Number (λ s.
    Ok (act.Vacate s))
act_of scope word.Gone (entry ∷ last ∷ []) =
    need (entry_in scope entry) why.Number (λ e.
    need (last_in last) why.Number (λ l.
    Ok (act.Gone e l)))
act_of scope w words = Err why.WordCount

-- STEP THREAD and the event. A step's number is below 2^64, and says nothing more
abbrev pub event_form : Naming → List ℕ → List ℕ → EventWord → List (List ℕ) → Result Told Reason
event_form scope step thread w words =
    refuse (not (fits w words)) why.WordCount (
    need (number_in 0 (2 ^ 64 - 1) step) why.Number (λ n.
    need (thread_in scope thread) why.Number (λ p.
    on_ok (act_of scope w words) (λ a.
    Ok (told.Event n (record { thread = p; act = a }))))))

-- an event line of one or two words has too few
abbrev pub event_line : Naming → List ℕ → List (List ℕ) → Result Told Reason
event_line scope step (thread ∷ first ∷ words) =
    need (event_word_of first) why.FirstWord (λ w.
    event_form scope step thread w words)
event_line scope step words = Err why.WordCount
