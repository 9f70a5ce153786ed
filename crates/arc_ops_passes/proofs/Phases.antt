-- A stepper that drives a pass where its script begins, between phases, and where it has ended.
use Rattle.std.proofs.Common.{◌≡◌, ℕ, zero, suc, List, [], length, replicate, Option, Some, None, refl, sym, ap, ◌∙◌, subst, arith}
use Rattle.std.proofs.lemmas.List.{append-nil, length-replicate}
use Rattle.std.specs.Prelude.{All}
use Rattle.std.proofs.lemmas.List.Sums.{sum_by-cons}
use Rattle.arc_model.specs.declared.event.Act.{Act}
use Rattle.arc_model.specs.Heaps.{Hand}
use Rattle.arc_model.specs.Holders.{is_claimed_by}
use Rattle.arc_model.specs.History.{History, heap_after, IsLegal}
use Rattle.arc_model.specs.Lookup.{spot, duty_of}
use Rattle.arc_model.specs.Others.{IsUntouched}
use Rattle.arc_spelling.specs.Spelling.{Note}
use Rattle.arc_spelling.specs.SpellingTies.{Ties}
use Rattle.arc_spelling.specs.SpellingTies.Causes.{Judged}
use Rattle.arc_spelling.specs.SpellingTies.Ties.{start}
use Rattle.arc_model.proofs.Basics.{None≢Some, true≢false}
use Rattle.arc_model.proofs.Others.{others_leave, false-if}
use Rattle.arc_spelling.proofs.SpellTies.{ties_others}
use Rattle.arc_rule.specs.Places.{extent_of}
use Rattle.arc_cells.specs.Chains.{Frame}
use Rattle.arc_script.specs.declared.script.Op.{Op}
use Rattle.arc_programs.specs.Programs.{OpsDone}
use Rattle.arc_programs.specs.ProgramsTied.{hands_in}
use Rattle.arc_served.specs.Programs.{phases_of, program_of, ops_in_first, vars_of, VarsFit}
use Rattle.arc_ops.specs.declared.stepper.Held.{Held}
use Rattle.arc_ops.specs.declared.stepper.Doing.{Doing}
use Rattle.arc_ops.specs.declared.stepper.Doing.TheVariants as doings
use Rattle.arc_ops.specs.declared.stepper.Move.TheVariants as moves
use Rattle.arc_ops.proofs.Made.{is_stepper}
use Rattle.arc_ops.specs.Thread.{Thread, value}
use Rattle.arc_ops.specs.Begins.{begun}
use Rattle.arc_ops.specs.Turns.{turned_at}
use Rattle.arc_ops.specs.Takes.{takes_at}
use Rattle.arc_spelled.specs.Came.{came_out_at}
use Rattle.arc_spelled.specs.StepperStands.{StandsFor, IsStep, step_in, variables, chain_at, FitsChainAt}
use Rattle.arc_spelled.specs.StepperStands as spelled
use Rattle.arc_spelled.specs.Shown.{Adds}
use Rattle.arc_spelled.specs.Spelled.{with_event_of, WordsHold}
use Rattle.arc_spelled.proofs.StepperKeeps.{stepper_goes_on, served-too}
use Rattle.arc_spelled.proofs.SteppersSpell.{steppers_begin, added_notes_are_tied, ready_steppers_have_done}
use Rattle.arc_view.specs.Views.{private_words}
use Rattle.arc_view.specs.Holding.{heap_of}
use Rattle.arc_view.specs.Passes.{HoldsNothing}
use Rattle.arc_ops_passes.specs.References.{weigh, in_vars, references, is_ref, has_hand, LeadsTo, Owns}
use Rattle.arc_ops_passes.specs.Drives.{Asks, UnderWay, IsChain, Drives}
use Rattle.arc_ops_passes.specs.Laws.{NewSteppersDrive, ScriptsNameVariables, PhasesAreDone, PhasesBegin, EndedSteppersHoldNothing}
use Rattle.arc_ops_passes.proofs.Walks.{IsFresh, begins_walks}
use Rattle.arc_ops_passes.proofs.Goes.{quiet, known, ops_fit, fresh_under, fresh_coming}
use Rattle.arc_ops_passes.proofs.Owned.{owns_same}

-- ---- the beginning

none_in : (n : ℕ) (f : Held → ℕ) → in_vars (replicate n None) f ≡ 0
none_in zero f = refl
none_in (suc n) f = let c = sum_by-cons (weigh f) None (replicate n None) in let h = none_in n f in omega arith

nil_in : (n x : ℕ) (held : Held) → value (replicate n None) x ≡ Some held → ⊥
nil_in zero x held e = cc
nil_in (suc n) zero held e = cc
nil_in (suc n) (suc x) held e = nil_in n x held e

pub new_steppers_drive : NewSteppersDrive
new_steppers_drive script p came v n = record {
  pass = n.pass;
  number = n.number;
  legal = n.legal;
  in_shape = n.in_shape;
  notes = [];
  chain = [];
  stands = steppers_begin script p (hands_in v.number v.seen);
  tied = subst (Ties Judged script.shape p []) (append-nil v.seen) (ties_others Judged script.shape p [] [] v.seen n.unused start);
  count = length-replicate (vars_of script p) None;
  owns = record {
    leads = λ h one. let z = zero_of (is_ref h) in absurd (omega arith);
    once = λ k. let z = zero_of (has_hand k) in omega arith;
    below = λ k one. let z = zero_of (has_hand k) in absurd (omega arith);
    only = λ k none. ap (λ q. spot (Hand q k) (heap_of v)) n.number ∙ untouched.hands k;
  };
  classed = λ x held e. absurd (nil_in (vars_of script p) x held e);
  coming = tt;
  no_claim = λ e has. true≢false (sym has ∙ (ap (λ q. is_claimed_by q e (heap_of v)) n.number ∙ untouched.claims e));
  asks = refl;
  under_way = record { working = n.working; none = λ i. ap (λ q. duty_of q i (heap_of v)) n.number ∙ untouched.duties i };
}
  where
    zero_of : (f : Held → ℕ) → references (replicate (vars_of script p) None) 0 doings.Ready f ≡ 0
    zero_of f = let z = none_in (vars_of script p) f in omega arith

    untouched : IsUntouched p (heap_after []) (heap_of v)
    untouched = subst (λ (h : History). IsUntouched p (heap_after []) (heap_after h)) (append-nil v.seen) (others_leave script.shape p [] v.seen (subst (IsLegal script.shape) (sym (append-nil v.seen)) n.legal) n.unused)

pub scripts_name_variables : ScriptsNameVariables
scripts_name_variables script p came valid served within =
    subst (λ n. All (VarsFit n) (program_of script p)) (length-replicate (vars_of script p) None) (is_stepper script p valid served within).vars_fit

pub phases_are_done : PhasesAreDone
phases_are_done script p came t v d asked = record {
  notes = d.notes;
  tied = d.tied;
  done = subst (λ q. OpsDone script.shape p (hands_in q v.seen) (program_of script p) (vars_of script p) (ops_in_first t.phase (phases_of script p)) (variables t.vars) d.notes) d.number
      (ready_steppers_have_done script p (hands_in v.number v.seen) t d.chain d.notes d.stands asked);
}

-- nothing that has just begun is a deinit
fresh_chain : (e : Doing) (chain meant : List Frame) → IsFresh e → IsChain e chain meant
fresh_chain doings.Ready chain meant fresh = tt
fresh_chain (doings.Making to name plan) chain meant fresh = tt
fresh_chain (doings.Gaining gain to from plan) chain meant fresh = tt
fresh_chain (doings.Naming to held plan) chain meant fresh = tt
fresh_chain (doings.Opening to cell plan) chain meant fresh = tt
fresh_chain (doings.Closing to cell held plan) chain meant fresh = tt
fresh_chain (doings.Setting from cell plan) chain meant fresh = tt
fresh_chain (doings.Clearing plan) chain meant fresh = tt
fresh_chain (doings.Dropping held plan) chain meant fresh = tt
fresh_chain (doings.Dying c) chain meant fresh = absurd fresh
fresh_chain (doings.Vacating slot plan) chain meant fresh = tt
fresh_chain doings.Ended chain meant fresh = tt

pub phases_begin : PhasesBegin
phases_begin w t v served fits left d asked =
    let b = at t.doing d.stands.asks d.owns d.under_way (λ takes chain out.
    let more = hands_in v.number v.seen in
    let g = stepper_goes_on (known v w) (served-too w more served) more t d.chain None d.notes d.stands (takes, left) chain (λ k r e. e) (λ x e. absurd (None≢Some x (sym out ∙ e))) in
    (g.after, g.adds, g.stands)) in
    record { takes_it = (b.0, left); drives = b.1; no_chain = b.2; event = b.3 }
  where
    Went : Doing → Type 0
    Went e = takes_at t.shape None e → FitsChainAt d.chain None e → came_out_at t None e ≡ None
        → (after : List Note) × Adds w.shape (extent_of w.shape) (step_in t.asked) None (turned_at None e (quiet t)).event (came_out_at t None e) d.notes after × StandsFor (known v w) (turned_at None e (quiet t)) (chain_at None d.chain e) after

    Begins : Doing → Type 0
    Begins e = takes_at t.shape None e × (x : Drives w (turned_at None e (quiet t)) v) × ((meant : List Frame) → IsChain (turned_at None e (quiet t)).doing x.chain meant) × ((turned_at None e (quiet t)).event ≡ None)

    -- it asks for no step
    no : (e : Doing) → IsStep t.asked → Begins e
    no e step = absurd (subst IsStep asked step)

    vars_fit : All (VarsFit (length t.vars)) t.program
    vars_fit = subst (λ (x : ℕ × List Op). All (VarsFit x.0) x.1) (λ j. (sym d.count j, sym d.stands.works.program_is j)) fits

    end_not : t.asked ≡ moves.Ended → ⊥
    end_not x = cc

    at : (e : Doing) → spelled.Asks e t.asked → Owns v t.hands (references t.vars t.hands e) → UnderWay w.shape v d.chain e → Went e → Begins e
    at doings.Ready asks owns under went =
        let g = went refl tt refl in
        let u : Thread = begun (quiet t) in
        let walk = begins_walks w (LeadsTo v) (quiet t) (d.stands.works.layout_is, d.stands.works.shape_is) (ops_fit w (length t.vars) t.program served vars_fit d.stands.works.program_is) d.classed in
        let holds : WordsHold Judged w.shape (extent_of w.shape) (step_in t.asked) None w.thread u.event None v.seen d.notes = record {
          names = λ slot x i a why l. absurd (None≢Some x l);
          refers = λ x e. absurd (None≢Some x e);
          nil_fields = λ slot field of a l. absurd (None≢Some 0 l);
          fields = λ slot field x of a l. absurd (None≢Some x l);
          entries = λ slot x n act i entry e a takes l. absurd (None≢Some x l);
        } in
        let tied = added_notes_are_tied Judged w.shape (extent_of w.shape) (step_in t.asked) None w.thread u.event None v.seen d.notes g.0 g.1 holds d.tied in (
          refl,
          record {
            pass = d.pass;
            number = d.number;
            legal = d.legal;
            in_shape = d.in_shape;
            notes = g.0;
            chain = [];
            stands = g.2;
            tied = subst (λ (x : Option Act). Ties Judged w.shape w.thread g.0 (with_event_of w.thread x v.seen)) walk.event tied;
            count = walk.count ∙ d.count;
            owns = subst (λ n. Owns v n (references u.vars u.hands u.doing)) (sym walk.hands)
                (owns_same v t.hands (references t.vars t.hands doings.Ready) (references u.vars u.hands u.doing) owns (λ f. let x = walk.same f in omega arith));
            classed = walk.classed;
            coming = fresh_coming w.classes v u.doing walk.fresh;
            no_claim = d.no_claim;
            asks = walk.asks;
            under_way = fresh_under w.shape v u.doing walk.fresh under.working under.none;
          },
          λ meant. fresh_chain u.doing [] meant walk.fresh,
          walk.event,
        )
    at (doings.Making to name plan) asks owns under went = no (doings.Making to name plan) asks
    at (doings.Gaining gain to from plan) asks owns under went = no (doings.Gaining gain to from plan) asks
    at (doings.Naming to held plan) asks owns under went = no (doings.Naming to held plan) asks
    at (doings.Opening to cell plan) asks owns under went = no (doings.Opening to cell plan) asks
    at (doings.Closing to cell held plan) asks owns under went = no (doings.Closing to cell held plan) asks
    at (doings.Setting from cell plan) asks owns under went = no (doings.Setting from cell plan) asks
    at (doings.Clearing plan) asks owns under went = no (doings.Clearing plan) asks
    at (doings.Dropping held plan) asks owns under went = no (doings.Dropping held plan) asks
    at (doings.Dying c) asks owns under went = no (doings.Dying c) asks
    at (doings.Vacating s plan) asks owns under went = no (doings.Vacating s plan) asks
    at doings.Ended asks owns under went = absurd (end_not asks)

pub ended_steppers_hold_nothing : EndedSteppersHoldNothing
ended_steppers_hold_nothing w t v d ended = at t.doing d.stands.asks d.asks d.owns d.under_way
  where
    -- it asks for no step
    no : IsStep t.asked → HoldsNothing v
    no step = absurd (subst IsStep ended step)

    phase : t.asked ≡ moves.PhaseEnd → ⊥
    phase x = cc

    at : (e : Doing) → spelled.Asks e t.asked → Asks w.shape d.chain t e → Owns v t.hands (references t.vars t.hands e) → UnderWay w.shape v d.chain e → HoldsNothing v
    at doings.Ready step asks owns under = absurd (phase step)
    at (doings.Making to name plan) step asks owns under = no step
    at (doings.Gaining gain to from plan) step asks owns under = no step
    at (doings.Naming to held plan) step asks owns under = no step
    at (doings.Opening to cell plan) step asks owns under = no step
    at (doings.Closing to cell held plan) step asks owns under = no step
    at (doings.Setting from cell plan) step asks owns under = no step
    at (doings.Clearing plan) step asks owns under = no step
    at (doings.Dropping held plan) step asks owns under = no step
    at (doings.Dying c) step asks owns under = no step
    at (doings.Vacating s plan) step asks owns under = no step
    at doings.Ended step asks owns under = record {
      quiet = record {
        hands = λ k. owns.only k (let z = asks.1 (has_hand k) in omega arith);
        duties = under.none;
        claims = λ e. false-if (is_claimed_by v.number e (heap_of v)) (d.no_claim e);
      };
      is_idle = record { owes = ap (λ x. x.owes) under.working; access = ap (λ x. x.access) under.working; private = ap private_words under.working };
    }
