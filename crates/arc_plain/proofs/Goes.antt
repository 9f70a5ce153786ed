-- What a thread becomes by a step of its own, and that it has fewer steps left then.
use Rattle.std.proofs.Common.{◌≡◌, ℕ, ◌+◌, ◌-◌, ◌*◌, ◌^◌, ◌≤◌, ◌<◌, true, false, eqb, List, [], length, None, refl, ap, ◌∙◌, subst, sym, arith, rules}
use Rattle.std.specs.Prelude.{⊤}
use Rattle.arc_rule.specs.declared.step.Step.{Step}
use Rattle.arc_rule.specs.declared.step.Intent.{Intent}
use Rattle.arc_cells.specs.Chains.{Frame}
use Rattle.arc_cells.specs.declared.cascade.At.{At}
use Rattle.arc_cells.specs.declared.cascade.At.TheVariants as at
use Rattle.arc_ops.specs.declared.stepper.Doing.{Doing}
use Rattle.arc_ops.specs.declared.stepper.Doing.TheVariants as doings
use Rattle.arc_ops.specs.declared.stepper.Move.{Move}
use Rattle.arc_ops.specs.declared.stepper.Move.TheVariants as moves
use Rattle.arc_ops.specs.Thread.{Thread, is_accessing, in_access}
use Rattle.arc_plain.specs.Left.{waiting, doing_left, reserve_left, left, FindsFree}
use Rattle.arc_plain.proofs.Walks.{IsPhase, IsBehind, Comes, Same}

-- what the thread is while it is given a word
abbrev pub quiet : Thread → Thread
quiet t = record t { doing = doings.Ended; first = false; event = None }

-- a cell that it waits for is that of its operation's first step, or the end section's
abbrev pub IsBehindCells : Thread → Doing → Type 0
IsBehindCells t (doings.Opening to cell plan) = t.first ≡ true
IsBehindCells t (doings.Setting from cell plan) = t.first ≡ true
IsBehindCells t (doings.Clearing plan) = t.thread ≡ 0
IsBehindCells t _ = ⊤

-- it doesn't wait for a cell
abbrev pub IsPast : Doing → Type 0
IsPast (doings.Opening to cell plan) = ⊥
IsPast (doings.Setting from cell plan) = ⊥
IsPast (doings.Clearing plan) = ⊥
IsPast _ = ⊤

-- a reference that was taken out of a field is on its way
abbrev pub in_flight : At → ℕ
in_flight (at.Dropping name field drop) = 1
in_flight _ = 0

-- how many references were taken out of fields for the deinits that wait for others and for a drop
abbrev pub taken_for : List Frame → Doing → ℕ
taken_for chain (doings.Dying c) = length (waiting c.at chain) + in_flight c.at
taken_for chain _ = 0

-- The thread, which was doing this, became another state of it. It had so many steps left before, and has so many then. Where it had taken so many references
-- out of fields before, it has taken so many then.
pub record GoesTo (t : Thread) (words : List ℕ) (d : Doing) (u : Thread) (had has before then : ℕ) : Type 0 where
  pub layout : u.layout ≡ t.layout
  pub phases : u.phases ≡ t.phases
  pub program : u.program ≡ t.program
  pub count : length u.vars ≡ length t.vars
  pub phase : IsPhase t.phase u.asked u.phase
  -- inside an access it has made a step of its operation
  pub inside : in_access u ≡ true → u.first ≡ false
  pub past : IsPast d → IsBehindCells u u.doing
  -- where the cell that it waited for isn't accessed
  pub fewer : FindsFree words d → has < had
  pub waits : before ≤ t.taken → then ≤ u.taken

-- under a chain of deinits that wait, and then under this one
abbrev pub GoesUnder : Thread → List ℕ → List Frame → (after : List ℕ) → (later : List Frame) → Doing → Thread → Type 0
GoesUnder t words chain after later d u = GoesTo t words d u (doing_left words chain t d + reserve_left t) (left after later u) (taken_for chain d) (taken_for later u.doing)

-- where no object dies no deinit waits
abbrev pub Goes : Thread → (words after : List ℕ) → Doing → Thread → Type 0
Goes t words after d u = GoesUnder t words [] after [] d u

pub behind_outside : (u : Thread) (d : Doing) → IsBehind u d → is_accessing d ≡ true → ⊥
behind_outside u doings.Ready b e = cc
behind_outside u (doings.Making to name plan) b e = cc
behind_outside u (doings.Gaining gain to from plan) b e = cc
behind_outside u (doings.Naming to held plan) b e = cc
behind_outside u (doings.Opening to cell plan) b e = cc
behind_outside u (doings.Closing to cell held plan) b e = b
behind_outside u (doings.Setting from cell plan) b e = cc
behind_outside u (doings.Clearing plan) b e = cc
behind_outside u (doings.Dropping held plan) b e = cc
behind_outside u (doings.Dying c) b e = b
behind_outside u (doings.Vacating slot plan) b e = cc
behind_outside u doings.Ended b e = cc

behind_cells : (u : Thread) (d : Doing) → IsBehind u d → IsBehindCells u d
behind_cells u doings.Ready b = tt
behind_cells u (doings.Making to name plan) b = tt
behind_cells u (doings.Gaining gain to from plan) b = tt
behind_cells u (doings.Naming to held plan) b = tt
behind_cells u (doings.Opening to cell plan) b = b
behind_cells u (doings.Closing to cell held plan) b = tt
behind_cells u (doings.Setting from cell plan) b = b
behind_cells u (doings.Clearing plan) b = b
behind_cells u (doings.Dropping held plan) b = tt
behind_cells u (doings.Dying c) b = absurd b
behind_cells u (doings.Vacating slot plan) b = tt
behind_cells u doings.Ended b = tt

pub none_waits : (u : Thread) (chain : List Frame) (d : Doing) → IsBehind u d → taken_for chain d ≡ 0
none_waits u chain doings.Ready b = refl
none_waits u chain (doings.Making to name plan) b = refl
none_waits u chain (doings.Gaining gain to from plan) b = refl
none_waits u chain (doings.Naming to held plan) b = refl
none_waits u chain (doings.Opening to cell plan) b = refl
none_waits u chain (doings.Closing to cell held plan) b = refl
none_waits u chain (doings.Setting from cell plan) b = refl
none_waits u chain (doings.Clearing plan) b = refl
none_waits u chain (doings.Dropping held plan) b = refl
none_waits u chain (doings.Dying c) b = absurd b
none_waits u chain (doings.Vacating slot plan) b = refl
none_waits u chain doings.Ended b = refl

pub goes_under : (t t' u : Thread) (words : List ℕ) (chain : List Frame) (after : List ℕ) (later : List Frame) (d : Doing) (bound : ℕ) → Same t t' → Comes t' u bound → bound < doing_left words chain t d → GoesUnder t words chain after later d u
goes_under t t' u words chain after later d bound s c lt = record {
  layout = c.layout ∙ s.layout;
  phases = c.phases ∙ s.phases;
  program = c.program ∙ s.program;
  count = c.count ∙ s.count;
  phase = subst (λ (k : ℕ). IsPhase k u.asked u.phase) s.phase c.phase;
  inside = λ e. absurd (behind_outside u u.doing c.behind e);
  past = λ f. behind_cells u u.doing c.behind;
  fewer = λ free. let f = c.few after later in let same : reserve_left u ≡ reserve_left t = ap (λ (n : ℕ). 32 * (2 ^ 31 - n)) (c.taken ∙ s.taken) in omega arith;
  waits = λ w. let none = none_waits u later u.doing c.behind in omega arith;
}

pub goes_to : (t t' u : Thread) (words after : List ℕ) (d : Doing) (bound : ℕ) → Same t t' → Comes t' u bound → bound < doing_left words [] t d → Goes t words after d u
goes_to t t' u words after d bound s c lt = goes_under t t' u words [] after [] d bound s c lt

-- a step is asked for, so the phase is the same
pub stays : (m : Move) (step : Step) (intent : Intent) (k : ℕ) → m ≡ moves.Step step intent → IsPhase k m k
stays m step intent k is = subst (λ (x : Move). IsPhase k x k) (sym is) refl

pub eqb_same : (n : ℕ) → eqb n n ≡ true
eqb_same n = search rules
