-- The events of a replay name what is there.
use Rattle.std.proofs.Common.{◌≡◌, ℕ, ◌-◌, ◌^◌, ◌≤◌, ◌<◌, List, [], ◌∷◌, length, reverse, get_or, Option, Some, None, refl, sym, ap, subst, ◌∙◌, arith}
use Rattle.std.specs.Prelude.{All}
use Rattle.std.specs.List.{AllByRecursion}
use Rattle.std.proofs.lemmas.List.{length-map, length-reverse, get_or-reverse}
use Rattle.std.proofs.lemmas.List.Elements.{All-from_recursion, recursion_from_All}
use Rattle.arc_model.specs.declared.event.CellName.{CellName}
use Rattle.arc_model.specs.declared.event.CellName.TheVariants as cells
use Rattle.arc_model.specs.declared.event.Origin.TheVariants as origins
use Rattle.arc_model.specs.declared.event.Got.TheVariants as gots
use Rattle.arc_model.specs.declared.event.Act.{Act}
use Rattle.arc_model.specs.declared.event.Act.TheVariants as acts
use Rattle.arc_model.specs.declared.event.Event.{Event}
use Rattle.arc_script.specs.declared.script.Script.{Script}
use Rattle.arc_script.specs.Valid.{IsScript}
use Rattle.arc_served.specs.Served.{IsServed}
use Rattle.arc_ops.specs.declared.told.Stamped.{Stamped}
use Rattle.arc_replays.specs.Named as named
use Rattle.arc_replays.specs.Histories.{history_of}
use Rattle.arc_plain.specs.declared.replay.Replay.{Replay}
use Rattle.arc_plain.specs.Replays.{IsReplay}
use Rattle.arc_check.specs.WrittenHistory.{named_of, HandOrNilFits, CellFits, ActFits}
use Rattle.arc_read_back.specs.ReadBack.{StampedFits}
use Rattle.arc_judged.proofs.Slots.{SlotWithin}
use Rattle.arc_judged.proofs.Hands.{HandOrNilWithin, HandsWithin}
use Rattle.arc_judged.proofs.Stamps.{StampWithin, stage_within}

-- ---- all of a list, of the list reversed, and of a list that it is mapped to

reversed_all : (P : Stamped → Type 0) (xs : List Stamped) → All P xs → All P (reverse xs)
reversed_all P xs all k d below =
    let long : length (reverse xs) ≡ length xs = rw length-reverse refl in
    subst P (sym (get_or-reverse xs k d (omega arith))) (all (length xs - 1 - k) d (omega arith))

unmapped_all : (P : Event → Type 0) (es : List Stamped) → AllByRecursion P (history_of es) → AllByRecursion (λ (s : Stamped). P s.event) es
unmapped_all P [] h = tt
unmapped_all P (e ∷ es) h = (h.0, unmapped_all P es h.1)

-- ---- what the events name

cell_fits : (s : Script) (threads : ℕ) (c : CellName) → length s.shape.globals ≡ length s.globals → named.IsThere s.shape c → CellFits (named_of s.shape s.classes s.globals threads) c
cell_fits s threads (cells.Field slot field) g f = f
cell_fits s threads (cells.Global n) g f = omega arith

hand_fits : (o : Option ℕ) → HandOrNilWithin 4294967295 o → HandOrNilFits o
hand_fits None h = tt
hand_fits (Some hand) h = h

act_fits : (s : Script) (threads : ℕ) (a : Act) → length s.shape.classes ≡ length s.classes → length s.shape.globals ≡ length s.globals → named.ActFits s.shape a → SlotWithin s.shape.slots a → HandsWithin 4294967295 a → ActFits (named_of s.shape s.classes s.globals threads) a
act_fits s threads (acts.New hand class slot) e g f p h = (h, omega arith, p)
act_fits s threads acts.Full e g f p h = tt
act_fits s threads (acts.Copy (origins.Hand of) hand) e g f p h = (h.0, h.1)
act_fits s threads (acts.Copy (origins.Cell c) hand) e g f p h = (cell_fits s threads c g f, h)
act_fits s threads (acts.UnownedOf of hand) e g f p h = (h.0, h.1)
act_fits s threads (acts.WeakOf of hand) e g f p h = absurd f
act_fits s threads (acts.Load of (gots.Hand hand)) e g f p h = (h.0, h.1)
act_fits s threads (acts.Load of gots.Dead) e g f p h = (h.0, tt)
act_fits s threads (acts.Load of gots.Nil) e g f p h = (h.0, tt)
act_fits s threads (acts.Drop hand last) e g f p h = h
act_fits s threads (acts.CountFull list from) e g f p h = absurd f
act_fits s threads (acts.Claim entry) e g f p h = absurd f
act_fits s threads acts.NoEntry e g f p h = absurd f
act_fits s threads (acts.Side slot entry why) e g f p h = absurd f
act_fits s threads (acts.Back entry) e g f p h = absurd f
act_fits s threads (acts.Swap c put took) e g f p h = (cell_fits s threads c g f, hand_fits put h.0, hand_fits took h.1)
act_fits s threads (acts.Look c) e g f p h = cell_fits s threads c g f
act_fits s threads (acts.Take slot field hand) e g f p h = (f.0, f.1, h)
act_fits s threads (acts.Finish slot last) e g f p h = p
act_fits s threads (acts.Vacate slot) e g f p h = p
act_fits s threads (acts.Gone entry last) e g f p h = absurd f

-- a hand of so few is one that a text can tell
wider_or_nil : (o : Option ℕ) → HandOrNilWithin 200067 o → HandOrNilWithin 4294967295 o
wider_or_nil None h = tt
wider_or_nil (Some hand) h = omega arith

wider : (a : Act) → HandsWithin 200067 a → HandsWithin 4294967295 a
wider (acts.New hand class slot) h = omega arith
wider (acts.Copy (origins.Hand of) hand) h = (let a = h.0 in omega arith, let b = h.1 in omega arith)
wider (acts.Drop hand last) h = omega arith
wider (acts.Copy (origins.Cell c) hand) h = omega arith
wider acts.Full h = tt
wider (acts.UnownedOf of hand) h = (let a = h.0 in omega arith, let b = h.1 in omega arith)
wider (acts.WeakOf of hand) h = tt
wider (acts.Load of (gots.Hand hand)) h = (let a = h.0 in omega arith, let b = h.1 in omega arith)
wider (acts.Load of gots.Dead) h = (let a = h.0 in omega arith, tt)
wider (acts.Load of gots.Nil) h = (let a = h.0 in omega arith, tt)
wider (acts.CountFull list from) h = tt
wider (acts.Claim entry) h = tt
wider acts.NoEntry h = tt
wider (acts.Side slot entry why) h = tt
wider (acts.Back entry) h = tt
wider (acts.Swap c put took) h = (wider_or_nil put h.0, wider_or_nil took h.1)
wider (acts.Look c) h = tt
wider (acts.Take slot field hand) h = omega arith
wider (acts.Finish slot last) h = tt
wider (acts.Vacate slot) h = tt
wider (acts.Gone entry last) h = tt

all_fit : (s : Script) (limit : ℕ) (events : List Stamped) → limit < 2 ^ 62 → length s.shape.classes ≡ length s.classes → length s.shape.globals ≡ length s.globals →
    AllByRecursion (λ (e : Stamped). named.ActFits s.shape e.event.act) events → AllByRecursion (StampWithin s.shape.slots limit) events →
    AllByRecursion (λ (e : Stamped). e.event.thread ≤ length s.threads) events → AllByRecursion (StampedFits s) events
all_fit s limit [] small e g f p t = tt
all_fit s limit (x ∷ xs) small e g f p t =
    let step = p.0.step in
    (record { step_fits = omega arith; thread_fits = t.0; act_fits = act_fits s (length s.threads) x.event.act e g f.0 p.0.slot (wider x.event.act p.0.hands) }, all_fit s limit xs small e g f.1 p.1 t.1)

reversed_back : (s : Script) (xs : List Stamped) → AllByRecursion (StampedFits s) (reverse xs) → AllByRecursion (StampedFits s) xs
reversed_back s xs h = recursion_from_All (StampedFits s) xs back
  where
    back : All (StampedFits s) xs
    back k d below =
        let all : All (StampedFits s) (reverse xs) = All-from_recursion (StampedFits s) (reverse xs) h in
        let long : length (reverse xs) ≡ length xs = rw length-reverse refl in
        let same : length xs - 1 - (length xs - 1 - k) ≡ k = omega arith in
        let there : get_or (reverse xs) (length xs - 1 - k) d ≡ get_or xs k d = get_or-reverse xs (length xs - 1 - k) d (omega arith) ∙ ap (λ (i : ℕ). get_or xs i d) same in
        subst (StampedFits s) there (all (length xs - 1 - k) d (omega arith))

pub replay_fits : (s : Script) (r : Replay) → IsScript s → IsServed s → IsReplay s r → AllByRecursion (StampedFits s) r.events.items
replay_fits s r valid served replay = reversed_back s r.events.items (all_fit s r.steps (reverse r.events.items) replay.bound classes globals fit stamps threads)
  where
    classes : length s.shape.classes ≡ length s.classes
    classes = ap length valid.heading.of_classes ∙ length-map s.classes _

    globals : length s.shape.globals ≡ length s.globals
    globals = ap length valid.heading.of_globals ∙ length-map s.globals _

    fit : AllByRecursion (λ (e : Stamped). named.ActFits s.shape e.event.act) (reverse r.events.items)
    fit = recursion_from_All (λ (e : Stamped). named.ActFits s.shape e.event.act) (reverse r.events.items)
        (reversed_all (λ (e : Stamped). named.ActFits s.shape e.event.act) r.events.items replay.events_fit)

    last_stamps : AllByRecursion (StampWithin s.shape.slots replay.last.steps) replay.last.events
    last_stamps = stage_within s valid served 0 replay.last replay.run.reached

    stamps : AllByRecursion (StampWithin s.shape.slots r.steps) (reverse r.events.items)
    stamps = rw (replay.events, replay.steps) last_stamps

    threads : AllByRecursion (λ (e : Stamped). e.event.thread ≤ length s.threads) (reverse r.events.items)
    threads = unmapped_all (λ (e : Event). e.thread ≤ length s.threads) (reverse r.events.items) replay.history.no_other
