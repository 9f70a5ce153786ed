-- A history that has the whole of a script whose strong fields lead one way leaves every object dead.
use Rattle.std.proofs.Common.{◌≡◌, ◌≤◌, ◌<◌, ◌==◌, ℕ, zero, suc, Bool, true, false, cond, not, List, [], ◌∷◌, ◌++◌, length, Option, Some, None, inl, inr, refl, sym, ap, ◌∙◌, subst, arith}
use Rattle.std.specs.Prelude.{◌||◌, filter, is_some, map}
use Rattle.std.specs.List.{AllByRecursion, list_all, list_any}
use Rattle.std.proofs.lemmas.Bool.{and_parts, cases_lt, eqb-true, eq-eqb, ne_eqb}
use Rattle.std.proofs.lemmas.Option.{slice_get_past}
use Rattle.arc_model.specs.declared.event.Act.{Act}
use Rattle.arc_model.specs.declared.event.Act.TheVariants as acts
use Rattle.arc_model.specs.declared.event.CellName.{CellName}
use Rattle.arc_model.specs.declared.event.CellName.TheVariants as cells
use Rattle.arc_model.specs.declared.event.Event.{Event}
use Rattle.arc_model.specs.Shapes.{HeapShape}
use Rattle.arc_model.specs.Heaps.{Holder, Global, Heap}
use Rattle.arc_model.specs.Holders.{same_holder}
use Rattle.arc_model.specs.Cells.{cell, is_kind}
use Rattle.arc_model.specs.History.{History, heap_after, is_of, IsLegal}
use Rattle.arc_model.specs.Lookup.{Spot, spot}
use Rattle.arc_model.specs.Others.{IsQuiet}
use Rattle.arc_model.specs.CellLaws.{cell_next}
use Rattle.arc_spelling.specs.Spelling.{Note, acts_of}
use Rattle.arc_spelling.specs.Spelling.Note.{Did, Line, Operation, Name, Entry, NeedsEntry, Nil, Refers}
use Rattle.arc_spelling.specs.SpellingTies.{Causes, Ties}
use Rattle.arc_spelling.specs.SpellingTies.Ties.{start as no_event, other as other_event}
use Rattle.arc_model.proofs.CellKinds.{cell_kinds_after}
use Rattle.arc_model.proofs.CellSpots.{cells_after}
use Rattle.arc_model.proofs.Others.{spot-find}
use Rattle.arc_spelling.proofs.SpellTies.{share_is}
use Rattle.arc_model.proofs.Tally.{no, both}
use Rattle.arc_script.specs.declared.script.Script.{Script}
use Rattle.arc_script.specs.Valid.{IsScript}
use Rattle.arc_programs.specs.ProgramsHistories.{swapped_in, with_swapped, globals_below}
use Rattle.arc_programs.specs.ProgramsTied.{Spells, hands_in}
use Rattle.arc_programs.specs.ProgramsTied.Spells.{thread, end}
use Rattle.arc_programs.proofs.ProgramsKept.{each_global}
use Rattle.arc_quiet.specs.Whole.{AllFinish, NoOtherThread, StandsLast, CellsKeepClassesAfter, WholeIsQuiet, LeavesNothing}
use Rattle.arc_quiet.proofs.Chains.{quiet_is_dead}
use Rattle.arc_quiet.proofs.ClassCells.{all_cells, cells-now}
use Rattle.arc_quiet.proofs.ClassPrograms.{end-spares, program_puts}
use Rattle.arc_quiet.proofs.Finished.{finished_is_quiet}
use Rattle.arc_quiet.proofs.Pasts.{Passing, Spares}
use Rattle.arc_quiet.proofs.Pasts.Spares.{here as none_added, more}
use Rattle.arc_quiet.proofs.Spared.{Leaves, puts_none}
use Rattle.arc_quiet.proofs.Tied.{hands_bound, debts_bound, quiet_if_none}

-- ---- cells keep their classes

pub cells_keep_classes : CellsKeepClassesAfter
cells_keep_classes causes script h is legal finish few =
    cells-now script.shape h (all_cells script.shape (length script.threads) h legal (λ p l. let x = (finish p l).1 in program_puts causes script p h x.notes is legal x.tied x.spelled) few)

-- ---- globals that were cleared

abbrev is_global : ℕ → CellName → Bool
is_global g (cells.Global n) = n == g
is_global g (cells.Field s f) = false

-- the act swaps this global
abbrev swaps : ℕ → Act → Bool
swaps g (acts.Swap c h k) = is_global g c
swaps g _ = false

-- after a swap with nil the global is nil
nil-swapped : (p g : ℕ) (a : Act) (heap : Heap) → puts_none a ≡ true → swaps g a ≡ true → cell_next p a (Global g) heap ≡ None
nil-swapped p g (acts.Swap (cells.Global n) None k) heap none is = ap (λ b. cond b None (spot (Global g) heap)) (eq-eqb g n (sym (eqb-true n g is)))
nil-swapped p g (acts.Swap (cells.Field s f) None k) heap none is = no is
nil-swapped p g (acts.Swap c (Some h) k) heap none is = no none
nil-swapped p g (acts.New k c s) heap none is = no is
nil-swapped p g acts.Full heap none is = no is
nil-swapped p g (acts.Copy from k) heap none is = no is
nil-swapped p g (acts.UnownedOf h k) heap none is = no is
nil-swapped p g (acts.WeakOf h k) heap none is = no is
nil-swapped p g (acts.Load h got) heap none is = no is
nil-swapped p g (acts.Drop h last) heap none is = no is
nil-swapped p g (acts.CountFull l from) heap none is = no is
nil-swapped p g (acts.Claim e) heap none is = no is
nil-swapped p g acts.NoEntry heap none is = no is
nil-swapped p g (acts.Side s e why) heap none is = no is
nil-swapped p g (acts.Back e) heap none is = no is
nil-swapped p g (acts.Look c) heap none is = no is
nil-swapped p g (acts.Take s f k) heap none is = no is
nil-swapped p g (acts.Finish s last) heap none is = no is
nil-swapped p g (acts.Vacate s) heap none is = no is
nil-swapped p g (acts.Gone e last) heap none is = no is

cond-none : (b : Bool) → cond b None None ≡ (let m : Option Spot = None in m)
cond-none true = refl
cond-none false = refl

-- a nil cell stays nil where nothing is put in
nil-stays : (p : ℕ) (a : Act) (z : Holder) (heap : Heap) → puts_none a ≡ true → spot z heap ≡ None → cell_next p a z heap ≡ None
nil-stays p (acts.Swap c None k) z heap none is = ap (λ m. cond (same_holder z (cell heap c)) None m) is ∙ cond-none (same_holder z (cell heap c))
nil-stays p (acts.Swap c (Some h) k) z heap none is = no none
nil-stays p (acts.Take s f k) z heap none is = ap (λ m. cond (same_holder z (cell heap (cells.Field s f))) None m) is ∙ cond-none (same_holder z (cell heap (cells.Field s f)))
nil-stays p (acts.New k c s) z heap none is = is
nil-stays p acts.Full z heap none is = is
nil-stays p (acts.Copy from k) z heap none is = is
nil-stays p (acts.UnownedOf h k) z heap none is = is
nil-stays p (acts.WeakOf h k) z heap none is = is
nil-stays p (acts.Load h got) z heap none is = is
nil-stays p (acts.Drop h last) z heap none is = is
nil-stays p (acts.CountFull l from) z heap none is = is
nil-stays p (acts.Claim e) z heap none is = is
nil-stays p acts.NoEntry z heap none is = is
nil-stays p (acts.Side s e why) z heap none is = is
nil-stays p (acts.Back e) z heap none is = is
nil-stays p (acts.Look c) z heap none is = is
nil-stays p (acts.Finish s last) z heap none is = is
nil-stays p (acts.Vacate s) z heap none is = is
nil-stays p (acts.Gone e last) z heap none is = is

abbrev by : ℕ → List Act → History
by p done = map (λ a. record { thread = p; act = a }) done

-- behind events of p that put nothing into a cell, a global that one of them swapped is nil
swapped-nil : (shape : HeapShape) (p g : ℕ) (done : List Act) (h : History) → IsLegal shape (by p done ++ h) → list_all puts_none done ≡ true → list_any (swaps g) done ≡ true → spot (Global g) (heap_after (by p done ++ h)) ≡ None
swapped-nil shape p g [] h legal none some = no some
swapped-nil shape p g (a ∷ done) h legal none some = go (swaps g a) refl some (swapped-nil shape p g done h legal.1)
  where
    parts : (puts_none a ≡ true) × (list_all puts_none done ≡ true)
    parts = and_parts (puts_none a) (list_all puts_none done) none

    next : spot (Global g) (heap_after (by p (a ∷ done) ++ h)) ≡ cell_next p a (Global g) (heap_after (by p done ++ h))
    next = cells_after shape (by p done ++ h) (record { thread = p; act = a }) (Global g) legal refl

    go : (b : Bool) → swaps g a ≡ b → (b || list_any (swaps g) done) ≡ true → (list_all puts_none done ≡ true → list_any (swaps g) done ≡ true → spot (Global g) (heap_after (by p done ++ h)) ≡ None) → spot (Global g) (heap_after (by p (a ∷ done) ++ h)) ≡ None
    go true is some ih = next ∙ nil-swapped p g a (heap_after (by p done ++ h)) parts.0 is
    go false is some ih = next ∙ nil-stays p a (Global g) (heap_after (by p done ++ h)) parts.0 (ih parts.1 some)

-- the acts of notes that put nothing in
none-put : {b ns : List Note} → Spares (Leaves (λ j. false)) b ns → list_all puts_none (acts_of b) ≡ true → list_all puts_none (acts_of ns) ≡ true
none-put none_added e = e
none-put (more {n = n} {ns = ns} s x) e = go n x (none-put s e)
  where
    go : (n : Note) → Passing (Leaves (λ j. false)) n → list_all puts_none (acts_of ns) ≡ true → list_all puts_none (acts_of (n ∷ ns)) ≡ true
    go (Did a) x ih = both (puts_none a) (list_all puts_none (acts_of ns)) x.puts ih
    go (Line a) x ih = ih
    go (Operation k) x ih = ih
    go (Name s name) x ih = ih
    go (Entry s o) x ih = ih
    go (NeedsEntry s l) x ih = ih
    go (Nil c) x ih = ih
    go (Refers c kind place) x ih = ih

one-swap : (g : ℕ) (a : Act) (cs : List CellName) → list_any (is_global g) (with_swapped a cs) ≡ (swaps g a || list_any (is_global g) cs)
one-swap g (acts.Swap c h k) cs = refl
one-swap g (acts.New k c s) cs = refl
one-swap g acts.Full cs = refl
one-swap g (acts.Copy from k) cs = refl
one-swap g (acts.UnownedOf h k) cs = refl
one-swap g (acts.WeakOf h k) cs = refl
one-swap g (acts.Load h got) cs = refl
one-swap g (acts.Drop h last) cs = refl
one-swap g (acts.CountFull l from) cs = refl
one-swap g (acts.Claim e) cs = refl
one-swap g acts.NoEntry cs = refl
one-swap g (acts.Side s e why) cs = refl
one-swap g (acts.Back e) cs = refl
one-swap g (acts.Look c) cs = refl
one-swap g (acts.Take s f k) cs = refl
one-swap g (acts.Finish s last) cs = refl
one-swap g (acts.Vacate s) cs = refl
one-swap g (acts.Gone e last) cs = refl

all-swaps : (g : ℕ) (ns : List Note) → list_any (is_global g) (swapped_in ns) ≡ list_any (swaps g) (acts_of ns)
all-swaps g [] = refl
all-swaps g (Did a ∷ ns) = one-swap g a (swapped_in ns) ∙ ap (λ b. swaps g a || b) (all-swaps g ns)
all-swaps g (Line a ∷ ns) = all-swaps g ns
all-swaps g (Operation k ∷ ns) = all-swaps g ns
all-swaps g (Name s name ∷ ns) = all-swaps g ns
all-swaps g (Entry s o ∷ ns) = all-swaps g ns
all-swaps g (NeedsEntry s l ∷ ns) = all-swaps g ns
all-swaps g (Nil c ∷ ns) = all-swaps g ns
all-swaps g (Refers c kind place ∷ ns) = all-swaps g ns

or-right : (a b : Bool) → b ≡ true → (a || b) ≡ true
or-right true b h = refl
or-right false b h = h

below-swapped : (g n : ℕ) → g < n → list_any (is_global g) (globals_below n) ≡ true
below-swapped g zero l = absurd (omega arith)
below-swapped g (suc n) l = elim (cases_lt g n) [
  | inl below ↦ or-right (n == g) (list_any (is_global g) (globals_below n)) (below-swapped g n below)
  | inr above ↦ let same : n ≡ g = omega arith in ap (λ b. b || list_any (is_global g) (globals_below n)) (eq-eqb n g same)
]

-- a global that the shape doesn't have is nil in every history
no-global : (shape : HeapShape) (h : History) (g : ℕ) → IsLegal shape h → length shape.globals ≤ g → spot (Global g) (heap_after h) ≡ None
no-global shape h g legal past = go (spot (Global g) (heap_after h)) refl
  where
    go : (m : Option Spot) → spot (Global g) (heap_after h) ≡ m → m ≡ None
    go None e = refl
    go (Some s) e = no (ap (is_kind s.kind) (sym (slice_get_past shape.globals g past)) ∙ (cell_kinds_after shape h legal).globals g s e)

-- where thread 0's events stand last, each global is nil at the end of its program
globals-nil : (causes : Causes) (script : Script) (h : History) (notes : List Note) → IsLegal script.shape h → StandsLast 0 h → Ties causes script.shape 0 notes h → Spells script (hands_in 0 h) 0 notes → (g : ℕ) → spot (Global g) (heap_after h) ≡ None
globals-nil causes script h notes legal last tied (thread some at x) g = absurd (omega (arith, some))
globals-nil causes script h notes legal last tied (end {n = n} c e) g = elim (cases_lt g n) [
  | inr past ↦ no-global script.shape h g legal (omega arith)
  | inl below ↦
      let rest = filter (λ e. not (is_of 0 e)) h in
      let split : h ≡ by 0 (acts_of notes) ++ rest = last ∙ ap (λ es. es ++ rest) (sym (share_is causes script.shape 0 notes h tied)) in
      let swapped = sym (all-swaps g notes) ∙ ap (list_any (is_global g)) (each_global script.shape (hands_in 0 h) n notes c) ∙ below-swapped g n below in
      ap (λ es. spot (Global g) (heap_after es)) split ∙ swapped-nil script.shape 0 g (acts_of notes) rest (subst (IsLegal script.shape) split legal) (none-put (end-spares script.shape c) refl) swapped
]

-- ---- the law

-- a thread that has no event
idle-ties : (causes : Causes) (shape : HeapShape) (most p : ℕ) (h : History) → most < p → AllByRecursion (λ (e : Event). e.thread ≤ most) h → Ties causes shape p [] h
idle-ties causes shape most p [] l few = no_event
idle-ties causes shape most p (e ∷ h) l few = let small = few.0 in other_event (idle-ties causes shape most p h l few.1) (ne_eqb e.thread p (λ same. omega (arith, same, small, l)))

-- no thread has anything in the end
pub every_thread_quiet : (causes : Causes) (script : Script) (h : History) → IsScript script → IsLegal script.shape h → AllFinish causes script h → NoOtherThread script h → (p : ℕ) → IsQuiet p (heap_after h)
every_thread_quiet causes script h is legal finish few p = elim (cases_lt (length script.threads) p) [
  | inl other ↦
      let t = idle-ties causes script.shape (length script.threads) p h other few in
      let a = hands_bound causes script.shape p [] h t legal in
      let b = debts_bound causes script.shape p [] h is.heading.caps.unowned_fits.0 t legal in
      quiet_if_none script.shape p h legal (omega arith) (omega arith)
  | inr one ↦ finished_is_quiet causes script p (finish p one).0 h is legal (finish p one).1
]

pub whole_is_quiet : WholeIsQuiet
whole_is_quiet causes script h is legal finish last few = record {
  threads = every_thread_quiet causes script h is legal finish few;
  globals = λ g.
      let x = (finish 0 (omega arith)).1 in
      ap not (sym (spot-find (Global g) (heap_after h).objects) ∙ ap is_some (globals-nil causes script h x.notes legal last x.tied x.spelled g));
}

pub leaves_nothing : LeavesNothing
leaves_nothing causes script h is mortal ways legal finish last few =
    quiet_is_dead script.shape h legal mortal ways (cells_keep_classes causes script h is legal finish few) (whole_is_quiet causes script h is legal finish last few)
