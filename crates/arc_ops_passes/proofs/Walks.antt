-- A stepper goes on to its next operation: its references stay, each for its class, and it asks for the first step of a plan for this heap.
use Rattle.std.proofs.Common.{◌≡◌, ℕ, zero, suc, ◌+◌, ◌≤◌, ◌<◌, Bool, true, false, cond, ltb, List, [], ◌∷◌, take, drop, length, set, Option, Some, None, ◌⊎◌, inl, inr, refl, sym, ap, ◌∙◌, subst, arith, get_or-set_other, get_or-set_same}
use Rattle.std.specs.Prelude.{position, All, ⊤}
use Rattle.std.specs.List.{position_or_len, AllByRecursion}
use Rattle.std.proofs.lemmas.List.{length-set}
use Rattle.std.proofs.lemmas.List.Elements.{All-take, All-drop, recursion_from_All}
use mathlib.Core.Logic.{dite}
use native.Mathlib.Decide.{ℕ_discrete}
use Rattle.std.proofs.lemmas.Bool.{ltb-false}
use Rattle.std.proofs.lemmas.List.Sums.{sum_by-cons, sum_by-set, get_or-le-sum_by}
use Rattle.std.proofs.lemmas.List.Quantifiers.{position-Some}
use Rattle.std.proofs.lemmas.List.Recursion.{is_position_or_len}
use Rattle.arc_model.specs.Shapes.{HeapShape, class_at}
use Rattle.arc_model.specs.declared.event.CellName.TheVariants as cells
use Rattle.arc_model.specs.declared.event.ObjectName.{ObjectName}
use Rattle.arc_model.specs.declared.event.Origin.{Origin}
use Rattle.arc_model.specs.declared.event.Origin.TheVariants as origins
use Rattle.arc_model.specs.declared.answer.Answer.{Answer}
use Rattle.arc_model.specs.declared.answer.Answer.TheVariants as answers
use Rattle.arc_rule.specs.Extents.{Extent}
use Rattle.arc_rule.specs.Places.{extent_of, number}
use Rattle.arc_rule.specs.declared.layout.Place.TheVariants.{Count}
use Rattle.arc_rule.specs.declared.step.Step.TheVariants.{Load}
use Rattle.arc_rule.specs.declared.step.Intent.TheVariants as intents
use Rattle.arc_rule.specs.declared.attempt.At.TheVariants as attempt
use Rattle.arc_plan.specs.declared.slots.Making.{Making as Search}
use Rattle.arc_plan.specs.declared.slots.Making.TheVariants as search
use Rattle.arc_plan.specs.Slots.{looking}
use Rattle.arc_script.specs.declared.script.Op.{Op}
use Rattle.arc_script.specs.declared.script.Op.TheVariants as op
use Rattle.arc_ops.specs.declared.stepper.Held.{Held}
use Rattle.arc_ops.specs.declared.stepper.Doing.{Doing}
use Rattle.arc_ops.specs.declared.stepper.Doing.TheVariants as doings
use Rattle.arc_ops.specs.declared.stepper.Move.TheVariants as moves
use Rattle.arc_served.specs.Programs.{VarsFit, ClassesFit, class_of}
use Rattle.arc_ops.specs.declared.cell.Cell.{Cell}
use Rattle.arc_ops.specs.declared.gain.Source.{Source}
use Rattle.arc_ops.specs.Cells.{cell_number, cell_of, word_of, hand_in, open_begun, set_begun, clear_begun}
use Rattle.arc_ops.specs.Thread.{Thread, value, is_held, set_var, put}
use Rattle.arc_ops.specs.declared.gain.Gain.{Gain}
use Rattle.arc_ops.specs.declared.gain.Gain.TheVariants as gains
use Rattle.arc_ops.specs.Plans.{of_hand, list_of, intent_of, gain_begun, drop_begun, make_begun_as}
use Rattle.arc_ops.specs.Begins.{skipped, moved, phase_end, phase_over, block_goes_on, at_place, begun, begun_at, begun_op, begun_nil, begun_gain, begun_move, begun_drop, begun_get, begun_set, scope_at, scope_begun, scope_drop, scope_over, has_globals, next_op}
use Rattle.arc_ops.specs.Drops.{replaced, replaced_old}
use Rattle.arc_spelled.specs.Work.{Work}
use Rattle.arc_ops_passes.specs.References.{weigh, in_vars, references}
use Rattle.arc_ops_passes.specs.Drives.{Asks}

pub value-within : (vars : List (Option Held)) (v : ℕ) (held : Held) → value vars v ≡ Some held → v < length vars
value-within [] v held e = absurd (cc)
value-within (o ∷ vars) zero held e = omega arith
value-within (o ∷ vars) (suc v) held e = let h = value-within vars v held e in omega arith

pub vars-set : (f : Held → ℕ) (vars : List (Option Held)) (v : ℕ) (new : Option Held) → v < length vars → in_vars (set vars v new) f + weigh f (value vars v) ≡ in_vars vars f + weigh f new
vars-set f vars v new within = sum_by-set (weigh f) vars v new None within

pub vars-least : (f : Held → ℕ) (vars : List (Option Held)) (v : ℕ) (held : Held) → value vars v ≡ Some held → f held ≤ in_vars vars f
vars-least f vars v held e =
    let within = value-within vars v held e in
    let least = get_or-le-sum_by (weigh f) vars v None within in
    let here : weigh f (value vars v) ≡ f held = ap (weigh f) e in
    omega arith

-- where the first variable that isn't nil stands
first_held : List (Option Held) → ℕ
first_held [] = 0
first_held (o ∷ vars) = cond (is_held o) 0 (1 + first_held vars)

none_first : (f : Held → ℕ) (vars : List (Option Held)) → length vars ≤ first_held vars → in_vars vars f ≡ 0
unfolding first_held
none_first f [] h = refl
none_first f (None ∷ vars) h = let e = sum_by-cons (weigh f) None vars in let k = none_first f vars (omega arith) in omega arith
none_first f (Some held ∷ vars) h = absurd (omega arith)

none_held : (f : Held → ℕ) (vars : List (Option Held)) → position is_held vars ≡ None → in_vars vars f ≡ 0
unfolding first_held
none_held f vars e = go (ltb (position_or_len is_held vars) (length vars)) refl e
  where
    first : first_held vars ≡ position_or_len is_held vars
    first = is_position_or_len first_held is_held refl (λ x xs. refl) vars

    go : (b : Bool) → ltb (position_or_len is_held vars) (length vars) ≡ b → cond b (Some (position_or_len is_held vars)) None ≡ None → in_vars vars f ≡ 0
    go true t e = absurd (cc)
    go false t e = let past = ltb-false (position_or_len is_held vars) (length vars) t in none_first f vars (let f = first in omega arith)

-- a variable that was set, or another one
pub set-value : (vars : List (Option Held)) (v u : ℕ) (new : Option Held) (h : Held) → value (set vars v new) u ≡ Some h → ((u ≡ v) × (new ≡ Some h)) ⊎ (value vars u ≡ Some h)
set-value [] v u new h e = inr e
set-value (x ∷ xs) zero zero new h e = inl (refl, e)
set-value (x ∷ xs) zero (suc u) new h e = inr e
set-value (x ∷ xs) (suc v) zero new h e = inr e
set-value (x ∷ xs) (suc v) (suc u) new h e = go (set-value xs v u new h e)
  where
    go : ((u ≡ v) × (new ≡ Some h)) ⊎ (value xs u ≡ Some h) → ((suc u ≡ suc v) × (new ≡ Some h)) ⊎ (value xs u ≡ Some h)
    go (inl same) = inl (ap suc same.0, same.1)
    go (inr other) = inr other

-- an operation has just begun, or the next phase or the next global, or all have ended
abbrev pub IsFreshSearch : Search → Type 0
IsFreshSearch (search.Looking k) = k ≡ 0
IsFreshSearch _ = ⊥

abbrev pub IsOfHand : Origin → Type 0
IsOfHand (origins.Hand hand) = ⊤
IsOfHand (origins.Cell cell) = ⊥

abbrev pub IsFresh : Doing → Type 0
IsFresh doings.Ready = ⊤
IsFresh (doings.Making to name plan) = IsFreshSearch plan.at
IsFresh (doings.Gaining gain to from plan) = IsOfHand from.origin × (plan.at ≡ attempt.Loading)
IsFresh (doings.Naming to held plan) = ⊥
IsFresh (doings.Opening to cell plan) = plan.at ≡ attempt.Loading
IsFresh (doings.Closing to cell held plan) = ⊥
IsFresh (doings.Setting from cell plan) = plan.at ≡ attempt.Loading
IsFresh (doings.Clearing plan) = plan.at ≡ attempt.Loading
IsFresh (doings.Dropping held plan) = plan.at ≡ attempt.Loading
IsFresh (doings.Dying c) = ⊥
IsFresh (doings.Vacating slot plan) = ⊥
IsFresh doings.Ended = ⊤

-- a stepper for this heap
abbrev pub IsFor : HeapShape → Thread → Type 0
IsFor shape t = (t.layout ≡ extent_of shape) × (t.shape ≡ shape)

-- what a variable has fits the variable's class
abbrev pub AreOf : List ℕ → (Held → ℕ → Type 0) → List (Option Held) → Type 0
AreOf classes Q vars = (x : ℕ) (held : Held) → value vars x ≡ Some held → Q held (class_of classes x)

abbrev NewIs : (Held → ℕ → Type 0) → ℕ → Option Held → Type 0
NewIs Q class new = (held : Held) → new ≡ Some held → Q held class

pub new-some : (Q : Held → ℕ → Type 0) (class : ℕ) (new : Held) → Q new class → NewIs Q class (Some new)
new-some Q class new fits held e = let same : new ≡ held = cc in subst (λ h. Q h class) same fits

pub new-none : (Q : Held → ℕ → Type 0) (class : ℕ) → NewIs Q class None
new-none Q class held e = absurd (cc)

are-set : (classes : List ℕ) (Q : Held → ℕ → Type 0) (vars : List (Option Held)) (v : ℕ) (new : Option Held) → NewIs Q (class_of classes v) new → AreOf classes Q vars → AreOf classes Q (set vars v new)
are-set classes Q vars v new fits all u held e = go (set-value vars v u new held e)
  where
    go : ((u ≡ v) × (new ≡ Some held)) ⊎ (value vars u ≡ Some held) → Q held (class_of classes u)
    go (inl same) = subst (λ x. Q held (class_of classes x)) (sym same.0) (fits held same.1)
    go (inr other) = all u held other

pub are-nil : (classes : List ℕ) (Q : Held → ℕ → Type 0) (vars : List (Option Held)) (v : ℕ) → AreOf classes Q vars → AreOf classes Q (set vars v None)
are-nil classes Q vars v all = are-set classes Q vars v None (new-none Q (class_of classes v)) all

-- a moved reference counts at its destination, and what that held is in no variable
moved-same : (f : Held → ℕ) (vars : List (Option Held)) (to from : ℕ) (held : Held) → to < length vars → value vars from ≡ Some held → in_vars (set (set vars to (Some held)) from None) f + weigh f (value vars to) ≡ in_vars vars f
moved-same f vars to from held within is =
    let there = vars-set f vars to (Some held) within in
    let left = vars-set f (set vars to (Some held)) from None (let l = length-set vars to (Some held) in let k = value-within vars from held is in omega arith) in
    let here : weigh f (value (set vars to (Some held)) from) ≡ f held = ap (weigh f) source in
    omega arith
  where
    source : value (set vars to (Some held)) from ≡ Some held
    source = dite (ℕ_discrete from to)
        (λ e. ap (value (set vars to (Some held))) e ∙ get_or-set_same vars to (Some held) None within)
        (λ ne. get_or-set_other vars to from (Some held) None ne ∙ is)

moved-count : (vars : List (Option Held)) (to from : ℕ) (new : Option Held) → length (set (set vars to new) from None) ≡ length vars
moved-count vars to from new = length-set (set vars to new) from None ∙ length-set vars to new

-- an operation names variables that there are, and fits their classes
abbrev pub Fits : Work → ℕ → Op → Type 0
Fits w n o = VarsFit n o × ClassesFit w.shape w.classes o

module _ (w : Work) (Q : Held → ℕ → Type 0) where
  -- it went on from t to u without a step, has these references, and asks for the first step of a plan, or for the next phase
  pub record Walks (t u : Thread) (most : (Held → ℕ) → ℕ) : Type 0 where
    pub hands : u.hands ≡ t.hands
    pub event : u.event ≡ t.event
    pub count : length u.vars ≡ length t.vars
    pub same : (f : Held → ℕ) → references u.vars u.hands u.doing f ≡ most f
    pub classed : AreOf w.classes Q u.vars
    pub asks : Asks w.shape [] u u.doing
    pub fresh : IsFresh u.doing

  abbrev pub Fit : List (Option Held) → List Op → Type 0
  Fit vars ops = All (Fits w (length vars)) ops

  -- ---- a plan begins

  drop_walks : (held : Held) (t u : Thread) (most : (Held → ℕ) → ℕ) → IsFor w.shape u → u.hands ≡ t.hands → u.event ≡ t.event → length u.vars ≡ length t.vars → ((f : Held → ℕ) → in_vars u.vars f + f held ≡ most f) → AreOf w.classes Q u.vars
      → Walks t (drop_begun held u) most
  drop_walks held t u most (layout, is) hands event count same classed = record {
    hands = hands;
    event = event;
    count = count;
    same = same;
    classed = classed;
    asks = (ap (λ (l : Extent). record { layout = l; slot = held.place; list = held.kind; entry = None; at = attempt.Loading }) layout, ap (λ (l : Extent). moves.Step (Load (number l (Count held.place))) (intents.Drop held.hand)) layout);
    fresh = refl;
  }

  dropped : (t u : Thread) (v : ℕ) (held : Held) → IsFor w.shape u → value t.vars v ≡ Some held → u.hands ≡ t.hands → u.event ≡ t.event → u.vars ≡ t.vars → AreOf w.classes Q t.vars → Walks t (drop_begun held (set_var v None u)) (in_vars t.vars)
  dropped t u v held own is hands event vars classed = drop_walks held t (set_var v None u) (in_vars t.vars) own hands event (length-set u.vars v None ∙ ap length vars)
      (λ f.
      let e = vars-set f t.vars v None (value-within t.vars v held is) in
      let here : weigh f (value t.vars v) ≡ f held = ap (weigh f) is in
      rw vars (omega arith)) (are-nil w.classes Q u.vars v (subst (AreOf w.classes Q) (sym vars) classed))

  gain_walks : (gain : Gain) (to : ℕ) (from : Source) (t u : Thread) (most : (Held → ℕ) → ℕ) → IsOfHand from.origin → IsFor w.shape u → u.hands ≡ t.hands → u.event ≡ t.event → length u.vars ≡ length t.vars → ((f : Held → ℕ) → in_vars u.vars f ≡ most f) → AreOf w.classes Q u.vars
      → Walks t (gain_begun gain to from u) most
  gain_walks gain to from t u most of (layout, is) hands event count same classed = record {
    hands = hands;
    event = event;
    count = count;
    same = λ f. let e = same f in omega arith;
    classed = classed;
    asks = (
      (λ j. record { layout = layout j; slot = from.place; list = list_of gain from; caps = (is j).caps; entry = None; at = attempt.Loading }),
      ap (λ (l : Extent). moves.Step (Load (number l (Count from.place))) (intent_of gain from)) layout,
    );
    fresh = (of, refl);
  }

  pub make_walks : (to : ℕ) (name : ObjectName) (t u : Thread) (most : (Held → ℕ) → ℕ) → IsFor w.shape u → u.hands ≡ t.hands → u.event ≡ t.event → length u.vars ≡ length t.vars → ((f : Held → ℕ) → in_vars u.vars f ≡ most f) → AreOf w.classes Q u.vars
      → Walks t (make_begun_as to name u) most
  make_walks to name t u most (layout, is) hands event count same classed = record {
    hands = hands;
    event = event;
    count = count;
    same = λ f. let e = same f in omega arith;
    classed = classed;
    asks = (
      (λ j. record { layout = layout j; name = name; immortal = (class_at (is j) name.class).immortal; at = search.Looking 0 }),
      ap (λ (l : Extent). moves.Step (looking l 0) (intents.New name.class)) layout,
    );
    fresh = refl;
  }

  pub open_walks : (to : ℕ) (cell : Cell) (t u : Thread) (most : (Held → ℕ) → ℕ) → IsFor w.shape u → u.hands ≡ t.hands → u.event ≡ t.event → length u.vars ≡ length t.vars → ((f : Held → ℕ) → in_vars u.vars f ≡ most f) → AreOf w.classes Q u.vars
      → Walks t (open_begun to cell u) most
  open_walks to cell t u most (layout, is) hands event count same classed = record {
    hands = hands;
    event = event;
    count = count;
    same = λ f. let e = same f in omega arith;
    classed = classed;
    asks = (
      (λ j. record { layout = layout j; place = cell_number (layout j) cell.name; at = attempt.Loading }),
      ap (λ (l : Extent). moves.Step (Load (cell_number l cell.name)) (intents.Access cell.name)) layout,
    );
    fresh = refl;
  }

  pub set_walks : (from : ℕ) (cell : Cell) (t u : Thread) (most : (Held → ℕ) → ℕ) → IsFor w.shape u → u.hands ≡ t.hands → u.event ≡ t.event → length u.vars ≡ length t.vars → ((f : Held → ℕ) → in_vars u.vars f ≡ most f) → AreOf w.classes Q u.vars
      → Walks t (set_begun from cell u) most
  set_walks from cell t u most (layout, is) hands event count same classed = record {
    hands = hands;
    event = event;
    count = count;
    same = λ f. let e = same f in omega arith;
    classed = classed;
    asks = (
      (λ j. record { layout = layout j; place = cell_number (layout j) cell.name; new = word_of (value u.vars from); at = attempt.Loading }),
      ap (λ (l : Extent). moves.Step (Load (cell_number l cell.name)) (intents.Swap cell.name (hand_in (value u.vars from)))) layout,
    );
    fresh = refl;
  }

  pub clear_walks : (t u : Thread) (most : (Held → ℕ) → ℕ) → IsFor w.shape u → u.hands ≡ t.hands → u.event ≡ t.event → length u.vars ≡ length t.vars → ((f : Held → ℕ) → in_vars u.vars f ≡ most f) → AreOf w.classes Q u.vars
      → Walks t (clear_begun u) most
  clear_walks t u most (layout, is) hands event count same classed = record {
    hands = hands;
    event = event;
    count = count;
    same = λ f. let e = same f in omega arith;
    classed = classed;
    asks = (
      (λ j. record { layout = layout j; place = cell_number (layout j) (cells.Global u.cleared); new = 0; at = attempt.Loading }),
      ap (λ (l : Extent). moves.Step (Load (cell_number l (cells.Global u.cleared))) (intents.Swap (cells.Global u.cleared) None)) layout,
    );
    fresh = refl;
  }

  -- ---- an operation begins

  -- what goes on from the thread behind an operation keeps its references
  abbrev Behind : Thread → (Thread → Thread) → Type 0
  Behind t rest = (u : Thread) → IsFor w.shape u → u.hands ≡ t.hands → u.event ≡ t.event → length u.vars ≡ length t.vars → ((f : Held → ℕ) → in_vars u.vars f ≡ in_vars t.vars f) → AreOf w.classes Q u.vars → Walks t (rest u) (in_vars t.vars)

  op_walks : (o : Op) (t : Thread) (rest : Thread → Thread) → IsFor w.shape t → Fits w (length t.vars) o → AreOf w.classes Q t.vars → Behind t rest → Walks t (begun_op o t rest) (in_vars t.vars)
  op_walks o t rest own fits classed after = at o fits
    where
      skips : (answer : Answer) → Walks t (rest (skipped answer t)) (in_vars t.vars)
      skips answer = after (skipped answer t) own refl refl refl (λ f. refl) classed

      clearing : (to : ℕ) (old : Option Held) → value t.vars to ≡ old → Walks t (begun_nil to old t rest) (in_vars t.vars)
      clearing to (Some old) e = dropped t (put answers.Nil (record t { first = true })) to old own e refl refl refl classed
      clearing to None e = skips answers.Nil

      gaining : (gain : Gain) (to : ℕ) (from old : Option Held) → value t.vars to ≡ old → Walks t (begun_gain gain to from old t rest) (in_vars t.vars)
      gaining gain to (Some held) old e = gain_walks gain to (of_hand held) t (record t { first = true }) (in_vars t.vars) tt own refl refl refl (λ f. refl) classed
      gaining gain to None old e = clearing to old e

      after_move : (to from : ℕ) (held : Held) → class_of w.classes to ≡ class_of w.classes from → value t.vars from ≡ Some held → AreOf w.classes Q (set (set t.vars to (Some held)) from None)
      after_move to from held one is =
          are-nil w.classes Q (set t.vars to (Some held)) from (are-set w.classes Q t.vars to (Some held) (new-some Q (class_of w.classes to) held (subst (Q held) (sym one) (classed from held is))) classed)

      moving : (to from : ℕ) (held old : Option Held) → to < length t.vars → class_of w.classes to ≡ class_of w.classes from → value t.vars from ≡ held → value t.vars to ≡ old → Walks t (begun_move to from held old t rest) (in_vars t.vars)
      moving to from (Some held) (Some old) within one is e = drop_walks old t (moved to from held (put answers.Ok (record t { first = true }))) (in_vars t.vars) own refl refl (moved-count t.vars to from (Some held))
          (λ f. let s = moved-same f t.vars to from held within is in let here : weigh f (value t.vars to) ≡ f old = ap (weigh f) e in omega arith) (after_move to from held one is)
      moving to from (Some held) None within one is e = after (moved to from held (skipped answers.Ok t)) own refl refl (moved-count t.vars to from (Some held))
          (λ f. let s = moved-same f t.vars to from held within is in let here : weigh f (value t.vars to) ≡ 0 = ap (weigh f) e in omega arith) (after_move to from held one is)
      moving to from None old within one is e = clearing to old e

      dropping : (v : ℕ) (a : Option Held) → value t.vars v ≡ a → Walks t (begun_drop v a t rest) (in_vars t.vars)
      dropping v (Some held) e = dropped t (put answers.Ok (record t { first = true })) v held own e refl refl refl classed
      dropping v None e = skips answers.Nil

      -- a cell is read, or its owner is nil
      getting : (to : ℕ) (cell : Option Cell) (old : Option Held) → value t.vars to ≡ old → Walks t (begun_get to cell old t rest) (in_vars t.vars)
      getting to (Some cell) old e = open_walks to cell t (record t { first = true }) (in_vars t.vars) own refl refl refl (λ f. refl) classed
      getting to None old e = clearing to old e

      setting : (from : ℕ) (cell : Option Cell) → Walks t (begun_set from cell t rest) (in_vars t.vars)
      setting from (Some cell) = set_walks from cell t (record t { first = true }) (in_vars t.vars) own refl refl refl (λ f. refl) classed
      setting from None = skips answers.Nil

      at : (o : Op) → Fits w (length t.vars) o → Walks t (begun_op o t rest) (in_vars t.vars)
      at (op.New to class) fit = make_walks to (record { class = class; thread = t.thread; number = t.made + 1 }) t (record t { first = true }) (in_vars t.vars) own refl refl refl (λ f. refl) classed
      at (op.Copy to from) fit = gaining gains.Copy to (value t.vars from) (value t.vars to) refl
      at (op.Move to from) fit = moving to from (value t.vars from) (value t.vars to) fit.0.0 fit.1 refl refl
      at (op.Drop v) fit = dropping v (value t.vars v) refl
      at (op.Unown to of) fit = gaining gains.Unown to (value t.vars of) (value t.vars to) refl
      at (op.Weak to of) fit = skips answers.Nil
      at (op.Load to of) fit = gaining gains.Load to (value t.vars of) (value t.vars to) refl
      at (op.Get to cell) fit = getting to (cell_of cell t) (value t.vars to) refl
      at (op.Set cell from) fit = setting from (cell_of cell t)
      at (op.IfNil v past) fit = after (at_place (block_goes_on t.vars t.index (op.IfNil v past)) t) own refl refl refl (λ f. refl) classed
      at (op.IfSome v past) fit = after (at_place (block_goes_on t.vars t.index (op.IfSome v past)) t) own refl refl refl (λ f. refl) classed

  -- ---- behind the operations

  -- a thread ends, and thread 0 clears the next global
  end_walks : (t : Thread) → IsFor w.shape t → ((f : Held → ℕ) → in_vars t.vars f ≡ 0) → AreOf w.classes Q t.vars → Walks t (scope_over t) (in_vars t.vars)
  end_walks t own none classed = go (has_globals t)
    where
      go : (b : Bool) → Walks t (cond b (clear_begun t) (record t { doing = doings.Ended; asked = moves.Ended })) (in_vars t.vars)
      go true = clear_walks t t (in_vars t.vars) own refl refl refl (λ f. refl) classed
      go false = record { hands = refl; event = refl; count = refl; same = λ f. omega arith; classed = classed; asks = (refl, none); fresh = tt }

  scope_walks : (t : Thread) → IsFor w.shape t → AreOf w.classes Q t.vars → Walks t (scope_begun t) (in_vars t.vars)
  scope_walks t own classed = go (position is_held t.vars) refl
    where
      dropping : (v : ℕ) (o : Option Held) → value t.vars v ≡ o → is_held o ≡ true → Walks t (scope_drop v o t) (in_vars t.vars)
      dropping v None is held = absurd (cc)
      dropping v (Some held) is h = dropped t t v held own is refl refl refl classed

      go : (o : Option ℕ) → position is_held t.vars ≡ o → Walks t (scope_at o t) (in_vars t.vars)
      go None e = end_walks t own (λ f. none_held f t.vars e) classed
      go (Some v) e = let found = position-Some is_held t.vars v None e in dropping v (value t.vars v) refl found.1

  -- behind the last operation of a phase the next one is to begin, and behind the last phase the scope ends
  over_walks : (t : Thread) → IsFor w.shape t → AreOf w.classes Q t.vars → Walks t (phase_over t) (in_vars t.vars)
  over_walks t own classed = go (ltb (t.phase + 1) (length t.phases))
    where
      go : (b : Bool) → Walks t (cond b (record t { doing = doings.Ready; asked = moves.PhaseEnd; phase = t.phase + 1 }) (scope_begun t)) (in_vars t.vars)
      go true = record { hands = refl; event = refl; count = refl; same = λ f. omega arith; classed = classed; asks = refl; fresh = tt }
      go false = scope_walks t own classed

  -- an operation that the thread has gone past is passed over, and else it begins
  past_or_begun : (place : ℕ) (o : Op) (ops : List Op) (t : Thread) → IsFor w.shape t → Fits w (length t.vars) o → AreOf w.classes Q t.vars
      → ((u : Thread) → IsFor w.shape u → length u.vars ≡ length t.vars → AreOf w.classes Q u.vars → Walks u (begun_at (place + 1) ops u) (in_vars u.vars)) → Walks t (begun_at place (o ∷ ops) t) (in_vars t.vars)
  past_or_begun place o ops t own fit classed further = go (ltb place t.index)
    where
      go : (b : Bool) → Walks t (cond b (begun_at (place + 1) ops t) (begun_op o t (λ (u : Thread). begun_at (place + 1) ops u))) (in_vars t.vars)
      go true = further t own refl classed
      go false = op_walks o t (λ (u : Thread). begun_at (place + 1) ops u) own fit classed (λ u its hands event count same are.
          let m = further u its count are in
          record { hands = m.hands ∙ hands; event = m.event ∙ event; count = m.count ∙ count; same = λ f. m.same f ∙ same f; classed = m.classed; asks = m.asks; fresh = m.fresh })

  begins_at : (place : ℕ) (ops : List Op) (t : Thread) → IsFor w.shape t → AllByRecursion (Fits w (length t.vars)) ops → AreOf w.classes Q t.vars → Walks t (begun_at place ops t) (in_vars t.vars)
  begins_at place [] t own fits classed = over_walks t own classed
  begins_at place (o ∷ ops) t own fits classed = past_or_begun place o ops t own fits.0 classed (λ u its count are. begins_at (place + 1) ops u its (subst (λ n. AllByRecursion (Fits w n) ops) (sym count) fits.1) are)

  pub begins_walks : (t : Thread) → IsFor w.shape t → Fit t.vars t.program → AreOf w.classes Q t.vars → Walks t (begun t) (in_vars t.vars)
  begins_walks t own fits classed =
      let ops = drop t.index (take (phase_end t) t.program) in
      begins_at t.index ops t own (recursion_from_All (Fits w (length t.vars)) ops (All-drop (Fits w (length t.vars)) t.index (take (phase_end t) t.program) (All-take (Fits w (length t.vars)) (phase_end t) t.program fits))) classed

  pub next_walks : (t : Thread) → IsFor w.shape t → Fit t.vars t.program → AreOf w.classes Q t.vars → Walks t (next_op t) (in_vars t.vars)
  next_walks t own fits classed =
      let m = begins_walks (record t { doing = doings.Ended; index = cond (ltb t.index (length t.program)) (t.index + 1) t.index }) own fits classed in
      record { hands = m.hands; event = m.event; count = m.count; same = m.same; classed = m.classed; asks = m.asks; fresh = m.fresh }

  -- what a variable had is dropped, where there was something
  pub old_walks : (t u : Thread) (old : Option Held) (most : (Held → ℕ) → ℕ) → IsFor w.shape u → Fit u.vars u.program → u.hands ≡ t.hands → u.event ≡ t.event → length u.vars ≡ length t.vars → ((f : Held → ℕ) → in_vars u.vars f + weigh f old ≡ most f) → AreOf w.classes Q u.vars
      → Walks t (replaced_old old u) most
  old_walks t u (Some old) most own fits hands event count same classed = drop_walks old t u most own hands event count same classed
  old_walks t u None most own fits hands event count same classed =
      let m = next_walks u own fits classed in
      record { hands = m.hands ∙ hands; event = m.event ∙ event; count = m.count ∙ count; same = λ f. let k = m.same f in let s = same f in omega arith; classed = m.classed; asks = m.asks; fresh = m.fresh }

  -- a variable gets a new reference or becomes nil, and what it had is dropped
  pub replaced_walks : (t : Thread) (to : ℕ) (new : Option Held) → IsFor w.shape t → Fit t.vars t.program → to < length t.vars → AreOf w.classes Q t.vars → NewIs Q (class_of w.classes to) new → Walks t (replaced to new t) (λ f. in_vars t.vars f + weigh f new)
  replaced_walks t to new own fits within classed fits_it =
      let l = length-set t.vars to new in
      old_walks t (set_var to new t) (value t.vars to) (λ f. in_vars t.vars f + weigh f new) own (subst (λ n. All (Fits w n) t.program) (sym l) fits) refl refl l (λ f. let s = vars-set f t.vars to new within in omega arith)
      (are-set w.classes Q t.vars to new fits_it classed)

  -- a reference is given up again
  pub drops_again : (held : Held) (t : Thread) → IsFor w.shape t → AreOf w.classes Q t.vars → Walks t (drop_begun held t) (λ f. in_vars t.vars f + f held)
  drops_again held t own classed = drop_walks held t t (λ f. in_vars t.vars f + f held) own refl refl refl (λ f. refl) classed
