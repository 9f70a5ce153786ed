-- The hands that a legal event names, by the numbers of the threads' next hands.
use Rattle.std.proofs.Common.{◌≡◌, ℕ, ◌≤◌, ◌<◌, Bool, true, false, eqb, leb, ◌∷◌, Option, None, Some, refl, arith, rules, tests}
use Rattle.std.specs.Prelude.{is_some}
use Rattle.std.proofs.lemmas.Bool.{eqb-true}
use Rattle.arc_model.specs.declared.event.CellName.{CellName}
use Rattle.arc_model.specs.declared.event.CellName.TheVariants as cells
use Rattle.arc_model.specs.declared.event.Origin.TheVariants as origins
use Rattle.arc_model.specs.declared.event.Got.{Got}
use Rattle.arc_model.specs.declared.event.Got.TheVariants as gots
use Rattle.arc_model.specs.declared.event.Act.{Act}
use Rattle.arc_model.specs.declared.event.Act.TheVariants as acts
use Rattle.arc_model.specs.declared.event.Event.{Event}
use Rattle.arc_model.specs.Shapes.{HeapShape}
use Rattle.arc_model.specs.Heaps.{Hand, Object}
use Rattle.arc_model.specs.Holders.{held_by}
use Rattle.arc_model.specs.Needs.{first_failing, needs, passes, puts, takes}
use Rattle.arc_model.specs.History.{History, heap_after, next_hand, sight, IsLegal}
use Rattle.arc_model.proofs.Basics.{met}
use Rattle.arc_model.proofs.Courses.{well_formed, held-is}

abbrev pub GotWithin : ℕ → Got → Type 0
GotWithin n (gots.Hand hand) = hand ≤ n
GotWithin n _ = Unit {0}

abbrev pub HandOrNilWithin : ℕ → Option ℕ → Type 0
HandOrNilWithin n (Some hand) = hand ≤ n
HandOrNilWithin n None = Unit {0}

-- no hand of an event of those that are served so far is past this one
abbrev pub HandsWithin : ℕ → Act → Type 0
HandsWithin n (acts.New hand class slot) = hand ≤ n
HandsWithin n (acts.Copy (origins.Hand of) hand) = (of ≤ n) × (hand ≤ n)
HandsWithin n (acts.Copy (origins.Cell c) hand) = hand ≤ n
HandsWithin n (acts.UnownedOf of hand) = (of ≤ n) × (hand ≤ n)
HandsWithin n (acts.Load of g) = (of ≤ n) × GotWithin n g
HandsWithin n (acts.Drop hand last) = hand ≤ n
HandsWithin n (acts.Swap c put took) = HandOrNilWithin n put × HandOrNilWithin n took
HandsWithin n (acts.Take slot field hand) = hand ≤ n
HandsWithin n _ = Unit {0}

passes_some : (test : Object → Bool) (found : Option Object) → passes test found ≡ true → is_some found ≡ true
passes_some test None holds = absurd (cc)
passes_some test (Some o) holds = refl

held_before : (shape : HeapShape) (n p k : ℕ) (h : History) → IsLegal shape h → next_hand p h ≤ n → is_some (held_by (Hand p k) (heap_after h)) ≡ true → k ≤ n
held_before shape n p k h legal few held = go (leb (next_hand p h) k) refl
  where
    go : (b : Bool) → leb (next_hand p h) k ≡ b → k ≤ n
    go true e =
        let past : next_hand p h ≤ k = search (rules, tests) in
        let none = (well_formed shape h legal).fresh p k past in
        let stands = held-is (Hand p k) (heap_after h).objects held in
        absurd (omega arith)
    go false e =
        let below : k < next_hand p h = search (rules, tests) in
        omega arith

pub hands_within : (shape : HeapShape) (n : ℕ) (e : Event) (h : History) → IsLegal shape (e ∷ h) → next_hand e.thread h ≤ n → HandsWithin n e.act
hands_within shape n e h legal few = at e.act legal.0
  where
    next : (k : ℕ) → eqb k (next_hand e.thread h) ≡ true → k ≤ n
    next k is = let same : k ≡ next_hand e.thread h = eqb-true k (next_hand e.thread h) is in omega arith

    held : (k : ℕ) → is_some (held_by (Hand e.thread k) (heap_after h)) ≡ true → k ≤ n
    held k is = held_before shape n e.thread k h legal.1 few is

    listed : (k : ℕ) (test : Object → Bool) → passes test (held_by (Hand e.thread k) (heap_after h)) ≡ true → k ≤ n
    listed k test holds = held k (passes_some test (held_by (Hand e.thread k) (heap_after h)) holds)

    is_put : (c : CellName) (put : Option ℕ) → (puts shape (heap_after h) e.thread c put).0 ≡ true → HandOrNilWithin n put
    is_put c None holds = tt
    is_put c (Some k) holds = listed k _ holds

    is_taken : (took : Option ℕ) → (takes (sight e.thread h) took).0 ≡ true → HandOrNilWithin n took
    is_taken None holds = tt
    is_taken (Some k) holds = next k holds

    at : (a : Act) → first_failing (needs shape (sight e.thread h) e.thread a) ≡ None → HandsWithin n a
    at (acts.New hand class slot) ok = next hand (met (needs shape (sight e.thread h) e.thread (acts.New hand class slot)) ok).0
    at (acts.Copy (origins.Hand of) hand) ok = let m = met (needs shape (sight e.thread h) e.thread (acts.Copy (origins.Hand of) hand)) ok in (held of m.0, next hand m.1.0)
    at (acts.Copy (origins.Cell (cells.Global g)) hand) ok = next hand (met (needs shape (sight e.thread h) e.thread (acts.Copy (origins.Cell (cells.Global g)) hand)) ok).1.0
    at (acts.Copy (origins.Cell (cells.Field s f)) hand) ok = next hand (met (needs shape (sight e.thread h) e.thread (acts.Copy (origins.Cell (cells.Field s f)) hand)) ok).1.1.1.1.0
    at (acts.Drop hand last) ok = held hand (met (needs shape (sight e.thread h) e.thread (acts.Drop hand last)) ok).0
    at acts.Full ok = tt
    at (acts.UnownedOf of hand) ok = let m = met (needs shape (sight e.thread h) e.thread (acts.UnownedOf of hand)) ok in (listed of _ m.0, next hand m.1.0)
    at (acts.WeakOf of hand) ok = tt
    at (acts.Load of (gots.Hand hand)) ok = let m = met (needs shape (sight e.thread h) e.thread (acts.Load of (gots.Hand hand))) ok in (listed of _ m.0, next hand m.1.0)
    at (acts.Load of gots.Dead) ok = (listed of _ (met (needs shape (sight e.thread h) e.thread (acts.Load of gots.Dead)) ok).0, tt)
    at (acts.Load of gots.Nil) ok = (listed of _ (met (needs shape (sight e.thread h) e.thread (acts.Load of gots.Nil)) ok).0, tt)
    at (acts.CountFull list from) ok = tt
    at (acts.Claim entry) ok = tt
    at acts.NoEntry ok = tt
    at (acts.Side slot entry why) ok = tt
    at (acts.Back entry) ok = tt
    at (acts.Swap (cells.Global g) put took) ok =
        let m = met (needs shape (sight e.thread h) e.thread (acts.Swap (cells.Global g) put took)) ok in (is_put (cells.Global g) put m.0, is_taken took m.1.0)
    at (acts.Swap (cells.Field s f) put took) ok =
        let m = met (needs shape (sight e.thread h) e.thread (acts.Swap (cells.Field s f) put took)) ok in (is_put (cells.Field s f) put m.1.1.1.0, is_taken took m.1.1.1.1.0)
    at (acts.Look c) ok = tt
    at (acts.Take slot field hand) ok = next hand (met (needs shape (sight e.thread h) e.thread (acts.Take slot field hand)) ok).1.1.1.1.0
    at (acts.Finish slot last) ok = tt
    at (acts.Vacate slot) ok = tt
    at (acts.Gone entry last) ok = tt
