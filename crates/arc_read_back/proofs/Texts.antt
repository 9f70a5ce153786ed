-- The history text of a run is the canonical text of its events.
use Rattle.std.proofs.Common.{◌≡◌, ℕ, List, [], ◌∷◌, ◌++◌, length, map, Option, Some, None, Ok, refl, sym, ap, ◌∙◌, append_assoc, append-nil}
use Rattle.std.specs.Prelude.{codes}
use Rattle.std.specs.List.{AllByRecursion, flat_map}
use Rattle.std.specs.Fmt.{decimal}
use Rattle.std.proofs.lemmas.Grind.{flat_map-append}
use Rattle.arc_model.specs.declared.event.CellName.{CellName}
use Rattle.arc_model.specs.declared.event.CellName.TheVariants as cells
use Rattle.arc_model.specs.declared.event.Origin.{Origin}
use Rattle.arc_model.specs.declared.event.Origin.TheVariants as origins
use Rattle.arc_model.specs.declared.event.Got.{Got}
use Rattle.arc_model.specs.declared.event.Got.TheVariants as got
use Rattle.arc_model.specs.declared.event.Act.{Act}
use Rattle.arc_model.specs.declared.event.Act.TheVariants as act
use Rattle.arc_script.specs.declared.script.ClassDecl.{ClassDecl}
use Rattle.arc_script.specs.declared.script.VarDecl.{VarDecl}
use Rattle.arc_script.specs.declared.script.Script.{Script}
use Rattle.arc_script.specs.Valid.{name_at, class_names, var_names}
use Rattle.arc_script.specs.Canonical.{kind_word, spaced, line_text, text_of, numbers_line, heading_lines, heading_text}
use Rattle.arc_ops.specs.declared.told.Stamped.{Stamped}
use Rattle.arc_report.specs.Names.{cell_text, origin_text}
use Rattle.arc_report.specs.Events.{got_text, hand_text, act_text, event_text}
use Rattle.arc_report.specs.History.{later_text, history}
use Rattle.arc_check.specs.declared.line.EventLine.{EventLine}
use Rattle.arc_check.specs.EventTexts.{history_of}
use Rattle.arc_check.specs.Behind.{GoesBefore}
use Rattle.arc_check.specs.WrittenHistory.{last_word, got_word, hand_word, cell_word, origin_word, act_words, event_words, events_lines, later_lines, written_history, named_of, EventFits}
use Rattle.arc_check.proofs.HistoryBack.{history_back}
use Rattle.arc_read_back.specs.ReadBack.{HasHeading, unlined, StampedFits, told_of}

got_same : (g : Got) → got_text g ≡ got_word g
got_same (got.Hand k) = refl
got_same got.Dead = refl
got_same got.Nil = refl

hand_same : (o : Option ℕ) → hand_text o ≡ hand_word o
hand_same None = refl
hand_same (Some k) = refl

cell_same : (globals : List VarDecl) (c : CellName) → cell_text (var_names globals) c ≡ cell_word globals c
cell_same globals (cells.Field s f) = refl
cell_same globals (cells.Global g) = refl

origin_same : (globals : List VarDecl) (o : Origin) → origin_text (var_names globals) o ≡ origin_word globals o
origin_same globals (origins.Hand k) = refl
origin_same globals (origins.Cell c) = cell_same globals c

-- two and three words
two : (a b end : List ℕ) → (a ++ 32 ∷ b) ++ end ≡ a ++ 32 ∷ (b ++ end)
two a b end = append_assoc a (32 ∷ b) end

three : (a b c end : List ℕ) → (a ++ 32 ∷ (b ++ 32 ∷ c)) ++ end ≡ a ++ 32 ∷ (b ++ 32 ∷ (c ++ end))
three a b c end = append_assoc a (32 ∷ (b ++ 32 ∷ c)) end ∙ ap (λ (l : List ℕ). a ++ 32 ∷ l) (two b c end)

one_end : (a : List ℕ) → a ++ 10 ∷ [] ≡ a ++ ([] ++ 10 ∷ [])
one_end a = refl

abbrev rest : List (List ℕ) → List ℕ
rest ws = flat_map spaced ws ++ 10 ∷ []

rest_more : (w : List ℕ) (ws : List (List ℕ)) → rest (w ∷ ws) ≡ 32 ∷ (w ++ rest ws)
rest_more w ws = ap (λ (l : List ℕ). 32 ∷ l) (append_assoc w (flat_map spaced ws) (10 ∷ []))

rest_one : (a : List ℕ) → rest (a ∷ []) ≡ 32 ∷ (a ++ 10 ∷ [])
rest_one a = rest_more a []

rest_two : (a b : List ℕ) → rest (a ∷ b ∷ []) ≡ 32 ∷ (a ++ 32 ∷ (b ++ 10 ∷ []))
rest_two a b = rest_more a (b ∷ []) ∙ ap (λ (l : List ℕ). 32 ∷ (a ++ l)) (rest_one b)

rest_three : (a b c : List ℕ) → rest (a ∷ b ∷ c ∷ []) ≡ 32 ∷ (a ++ 32 ∷ (b ++ 32 ∷ (c ++ 10 ∷ [])))
rest_three a b c = rest_more a (b ∷ c ∷ []) ∙ ap (λ (l : List ℕ). 32 ∷ (a ++ l)) (rest_two b c)

-- an event word, and what stands behind it
after_word : (w : List ℕ) (ws : List (List ℕ)) (text : List ℕ) → rest ws ≡ text → 32 ∷ (w ++ text) ≡ rest (w ∷ ws)
after_word w ws text e = ap (λ (l : List ℕ). 32 ∷ (w ++ l)) (sym e) ∙ sym (rest_more w ws)

after_one : (w a : List ℕ) → 32 ∷ (w ++ 32 ∷ (a ++ 10 ∷ [])) ≡ rest (w ∷ a ∷ [])
after_one w a = after_word w (a ∷ []) (32 ∷ (a ++ 10 ∷ [])) (rest_one a)

after_two : (w a b : List ℕ) → 32 ∷ (w ++ 32 ∷ (a ++ 32 ∷ (b ++ 10 ∷ []))) ≡ rest (w ∷ a ∷ b ∷ [])
after_two w a b = after_word w (a ∷ b ∷ []) (32 ∷ (a ++ 32 ∷ (b ++ 10 ∷ []))) (rest_two a b)

after_three : (w a b c : List ℕ) → 32 ∷ (w ++ 32 ∷ (a ++ 32 ∷ (b ++ 32 ∷ (c ++ 10 ∷ [])))) ≡ rest (w ∷ a ∷ b ∷ c ∷ [])
after_three w a b c = after_word w (a ∷ b ∷ c ∷ []) (32 ∷ (a ++ 32 ∷ (b ++ 32 ∷ (c ++ 10 ∷ [])))) (rest_three a b c)

act_line : (classes : List ClassDecl) (globals : List VarDecl) (a : Act) → 32 ∷ (act_text (class_names classes) (var_names globals) a ++ 10 ∷ []) ≡ rest (act_words classes globals a)
act_line classes globals (act.New hand class slot) = ap (λ (l : List ℕ). 32 ∷ (codes "new " ++ l)) (three (decimal hand) (name_at (class_names classes) class) (decimal slot) (10 ∷ [])) ∙ after_three (codes "new") (decimal hand) (name_at (class_names classes) class) (decimal slot)
act_line classes globals act.Full = sym (rest_one (codes "full"))
act_line classes globals (act.Copy from hand) =
    ap (λ (l : List ℕ). 32 ∷ (codes "copy " ++ l)) (two (origin_text (var_names globals) from) (decimal hand) (10 ∷ []) ∙ ap (λ (l : List ℕ). l ++ 32 ∷ (decimal hand ++ 10 ∷ [])) (origin_same globals from))
    ∙ after_two (codes "copy") (origin_word globals from) (decimal hand)
act_line classes globals (act.UnownedOf of hand) = ap (λ (l : List ℕ). 32 ∷ (codes "unown " ++ l)) (two (decimal of) (decimal hand) (10 ∷ [])) ∙ after_two (codes "unown") (decimal of) (decimal hand)
act_line classes globals (act.WeakOf of hand) = ap (λ (l : List ℕ). 32 ∷ (codes "weak " ++ l)) (two (decimal of) (decimal hand) (10 ∷ [])) ∙ after_two (codes "weak") (decimal of) (decimal hand)
act_line classes globals (act.Load of g) =
    ap (λ (l : List ℕ). 32 ∷ (codes "load " ++ l)) (two (decimal of) (got_text g) (10 ∷ []) ∙ ap (λ (l : List ℕ). decimal of ++ 32 ∷ (l ++ 10 ∷ [])) (got_same g))
    ∙ after_two (codes "load") (decimal of) (got_word g)
act_line classes globals (act.Drop hand last) = ap (λ (l : List ℕ). 32 ∷ (codes "drop " ++ l)) (two (decimal hand) (last_word last) (10 ∷ [])) ∙ after_two (codes "drop") (decimal hand) (last_word last)
act_line classes globals (act.CountFull list from) =
    ap (λ (l : List ℕ). 32 ∷ (codes "countfull " ++ l)) (two (kind_word list) (origin_text (var_names globals) from) (10 ∷ []) ∙ ap (λ (l : List ℕ). (kind_word list) ++ 32 ∷ (l ++ 10 ∷ [])) (origin_same globals from))
    ∙ after_two (codes "countfull") (kind_word list) (origin_word globals from)
act_line classes globals (act.Claim entry) = after_one (codes "claim") (decimal entry)
act_line classes globals act.NoEntry = sym (rest_one (codes "noentry"))
act_line classes globals (act.Side slot entry why) = ap (λ (l : List ℕ). 32 ∷ (codes "side " ++ l)) (three (decimal slot) (decimal entry) (kind_word why) (10 ∷ [])) ∙ after_three (codes "side") (decimal slot) (decimal entry) (kind_word why)
act_line classes globals (act.Back entry) = after_one (codes "back") (decimal entry)
act_line classes globals (act.Swap c put took) =
    ap (λ (l : List ℕ). 32 ∷ (codes "swap " ++ l)) (three (cell_text (var_names globals) c) (hand_text put) (hand_text took) (10 ∷ [])
    ∙ (ap (λ (l : List ℕ). l ++ 32 ∷ (hand_text put ++ 32 ∷ (hand_text took ++ 10 ∷ []))) (cell_same globals c)
    ∙ (ap (λ (l : List ℕ). cell_word globals c ++ 32 ∷ (l ++ 32 ∷ (hand_text took ++ 10 ∷ []))) (hand_same put)
    ∙ ap (λ (l : List ℕ). cell_word globals c ++ 32 ∷ (hand_word put ++ 32 ∷ (l ++ 10 ∷ []))) (hand_same took))))
    ∙ after_three (codes "swap") (cell_word globals c) (hand_word put) (hand_word took)
act_line classes globals (act.Look c) = ap (λ (l : List ℕ). 32 ∷ (codes "look " ++ (l ++ 10 ∷ []))) (cell_same globals c) ∙ after_one (codes "look") (cell_word globals c)
act_line classes globals (act.Take slot field hand) =
    ap (λ (l : List ℕ). 32 ∷ (codes "take " ++ l)) (append_assoc (decimal slot) (46 ∷ (decimal field ++ 32 ∷ decimal hand)) (10 ∷ [])
    ∙ (ap (λ (l : List ℕ). decimal slot ++ 46 ∷ l) (two (decimal field) (decimal hand) (10 ∷ [])) ∙ sym (append_assoc (decimal slot) (46 ∷ decimal field) (32 ∷ (decimal hand ++ 10 ∷ [])))))
    ∙ after_two (codes "take") (decimal slot ++ 46 ∷ decimal field) (decimal hand)
act_line classes globals (act.Finish slot last) = ap (λ (l : List ℕ). 32 ∷ (codes "finish " ++ l)) (two (decimal slot) (last_word last) (10 ∷ [])) ∙ after_two (codes "finish") (decimal slot) (last_word last)
act_line classes globals (act.Vacate slot) = after_one (codes "vacate") (decimal slot)
act_line classes globals (act.Gone entry last) = ap (λ (l : List ℕ). 32 ∷ (codes "gone " ++ l)) (two (decimal entry) (last_word last) (10 ∷ [])) ∙ after_two (codes "gone") (decimal entry) (last_word last)

event_line : (classes : List ClassDecl) (globals : List VarDecl) (s : Stamped) → event_text (class_names classes) (var_names globals) s ≡ line_text (event_words classes globals (unlined s))
event_line classes globals s =
    ap (λ (l : List ℕ). decimal s.step ++ l) (ap (λ (l : List ℕ). 32 ∷ (decimal s.event.thread ++ l)) (act_line classes globals s.event.act) ∙ sym (rest_more (decimal s.event.thread) (act_words classes globals s.event.act)))

events_text : (classes : List ClassDecl) (globals : List VarDecl) (events : List Stamped) → flat_map (event_text (class_names classes) (var_names globals)) events ++ codes "done\n" ≡ text_of (events_lines classes globals (map unlined events))
events_text classes globals [] = refl
events_text classes globals (s ∷ events) =
    append_assoc (event_text (class_names classes) (var_names globals) s) (flat_map (event_text (class_names classes) (var_names globals)) events) (codes "done\n")
    ∙ (ap (λ (l : List ℕ). l ++ (flat_map (event_text (class_names classes) (var_names globals)) events ++ codes "done\n")) (event_line classes globals s)
    ∙ ap (λ (l : List ℕ). line_text (event_words classes globals (unlined s)) ++ l) (events_text classes globals events))

threads_text : (n : ℕ) (later : List ℕ) → codes "threads " ++ (decimal n ++ (codes "\nevents\n" ++ later)) ≡ line_text (numbers_line (codes "threads") (n ∷ [])) ++ (line_text (codes "events" ∷ []) ++ later)
threads_text n later = ap (λ (l : List ℕ). codes "threads " ++ l) (sym (
    ap (λ (l : List ℕ). l ++ (codes "events\n" ++ later)) (ap (λ (l : List ℕ). l ++ 10 ∷ []) (append-nil (decimal n)))
    ∙ append_assoc (decimal n) (10 ∷ []) (codes "events\n" ++ later)))

later_is : (s : Script) (events : List Stamped) → later_text s events ≡ text_of (later_lines s.classes s.globals (length s.threads) (map unlined events))
later_is s events =
    ap (λ (l : List ℕ). codes "threads " ++ (decimal (length s.threads) ++ (codes "\nevents\n" ++ l))) (events_text s.classes s.globals events)
    ∙ threads_text (length s.threads) (text_of (events_lines s.classes s.globals (map unlined events)))

-- the first line
version_text : (version : ℕ) (later : List ℕ) → codes "history " ++ (decimal version ++ (codes "\n" ++ later)) ≡ line_text (numbers_line (codes "history") (version ∷ [])) ++ later
version_text version later = ap (λ (l : List ℕ). codes "history " ++ l) (sym (
    ap (λ (l : List ℕ). l ++ later) (ap (λ (l : List ℕ). l ++ 10 ∷ []) (append-nil (decimal version)))
    ∙ append_assoc (decimal version) (10 ∷ []) later))

pub history_is : (s : Script) (events : List Stamped) → history s events ≡ written_history s.version s.shape s.classes s.globals (length s.threads) (map unlined events)
history_is s events =
    ap (λ (l : List ℕ). codes "history " ++ (decimal s.version ++ (codes "\n" ++ (heading_text s.shape s.classes s.globals ++ l)))) (later_is s events)
    ∙ (ap (λ (l : List ℕ). codes "history " ++ (decimal s.version ++ (codes "\n" ++ l))) (sym (flat_map-append line_text (heading_lines s.shape s.classes s.globals) (later_lines s.classes s.globals (length s.threads) (map unlined events))))
    ∙ version_text s.version (text_of (heading_lines s.shape s.classes s.globals ++ later_lines s.classes s.globals (length s.threads) (map unlined events))))

all_unlined : (s : Script) (events : List Stamped) (P : EventLine → Type 0) → AllByRecursion (λ (e : Stamped). P (unlined e)) events → AllByRecursion P (map unlined events)
all_unlined s [] P h = tt
all_unlined s (e ∷ events) P h = (h.0, all_unlined s events P h.1)

pub read_alone : (s : Script) (events : List Stamped) → HasHeading s → AllByRecursion (StampedFits s) events → history_of (history s events) ≡ Ok (told_of s events)
read_alone s events has fit =
    ap history_of (history_is s events)
    ∙ history_back s.version has.version.0 has.version.1 s.shape s.classes s.globals has.classes_of_version has.heading has.wide_cap (length s.threads) has.few_threads (map unlined events)
    (all_unlined s events (EventFits (named_of s.shape s.classes s.globals (length s.threads))) fit)

pub read_behind : (s : Script) (events : List Stamped) (before : List ℕ) → HasHeading s → AllByRecursion (StampedFits s) events → GoesBefore before → history_of (before ++ history s events) ≡ Ok (told_of s events)
read_behind s events before has fit goes = goes (history s events) ∙ read_alone s events has fit
