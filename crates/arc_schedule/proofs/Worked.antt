-- Two threads of one phase, in the order of their schedule; an operation whose event no step tells alone; blocks that are run and passed over;
-- a load of an unowned reference, to an object that lives and to one whose deinit has begun; a get, a set and an end section; and a deinit that
-- brings about another one.
use Rattle.std.proofs.Common.{◌≡◌, ℕ, zero, suc, Bool, true, false, [], ◌∷◌, Some, None, refl, sym, subst, arith}
use Rattle.arc_model.specs.declared.event.Act.TheVariants as acts
use Rattle.arc_model.specs.declared.event.Origin.TheVariants as origins
use Rattle.arc_model.specs.declared.event.CellName.TheVariants as cells
use Rattle.arc_bits.specs.Words.{unpacked}
use Rattle.arc_model.specs.Shapes.{class_at}
use Rattle.arc_rule.specs.Isa.{isa_word_of}
use Rattle.arc_plan.specs.declared.slots.NewObjectAnswer.TheVariants.{Slot}
use Rattle.arc_schedule.specs.Made.{made_at}
use Rattle.arc_schedule.specs.Plans.{Gives, new_object}
use Rattle.arc_schedule.specs.Operations.{next_name}
use Rattle.std.proofs.lemmas.List.Elements.{All-nil, All-from_recursion}
use Rattle.arc_rule.specs.Places.{extent_of, place_at}
use Rattle.arc_rule.specs.declared.step.Step.TheVariants.{Load, Exchange, Store, Or}
use Rattle.arc_schedule.specs.Orders.{is_in}
use Rattle.arc_schedule.specs.Orders.InOrder.{makes, runs_out, ends}
use Rattle.arc_schedule.specs.Plans.Reaches.{starts as reaches_start, makes as reaches_next}
use Rattle.arc_schedule.specs.Plans.Starts.{first as starts_first, again as starts_again}
use Rattle.arc_schedule.specs.Operations.Does.{makes as does_make, load_gives, load_finds_dead, gets as does_get, sets as does_set}
use Rattle.arc_schedule.specs.Operations.Drops.{nothing as drops_nothing, more as drops_more, last as drops_last}
use Rattle.arc_schedule.specs.Operations.FieldsDone.{entered, taken_out}
use Rattle.arc_schedule.specs.Operations.IsCascade.{finish_more}
use Rattle.arc_cells.specs.declared.swap.SwapAnswer.TheVariants.{Busy}
use Rattle.arc_schedule.specs.Threads.{end_point}
use Rattle.arc_schedule.specs.Threads.GlobalsCleared.{none as globals_none, one as globals_one}
use Rattle.arc_schedule.specs.Threads.OpsDone.{none as ops_none, one as ops_one, block as ops_block}
use Rattle.arc_schedule.specs.Worked.{by, look, one_slot, nothing_yet, first_of, count_word, raised, counts_more, PlacesComeFirst, AccessesEndFirst, OperationsTell, BlocksAreRun, LoadsGive, LoadsFindDead, GetsCopy, SetsSwap, EndsClear, holder, kept, taken_last, inner_over, DeinitsNest}

pub places_come_first : PlacesComeFirst
places_come_first =
    makes (look 2) refl (makes (look 1) refl (runs_out (look 1 ∷ look 2 ∷ []) [] refl
    (All-from_recursion (λ m. is_in 0 m ≡ true) (look 1 ∷ look 2 ∷ []) (refl, (refl, tt))) refl refl (ends (All-nil (λ m. m.point.thread ≡ 0)))))

pub accesses_end_first : AccessesEndFirst
unfolding place_at
accesses_end_first =
    makes (by 2 1 (Exchange 1 2 1) 2) refl (runs_out (by 2 1 (Store 1 2) 0 ∷ look 1 ∷ by 2 2 (Load 2) 0 ∷ []) [] refl
    (All-from_recursion (λ m. is_in 0 m ≡ true) (by 2 1 (Store 1 2) 0 ∷ look 1 ∷ by 2 2 (Load 2) 0 ∷ []) (refl, (refl, (refl, tt)))) refl refl (ends (All-nil (λ m. m.point.thread ≡ 0))))

pub operations_tell : OperationsTell
operations_tell class =
    does_make (omega arith) (subst Makes (sym (never_immortal class)) (record {
      started = [];
      starts = starts_first;
      answers = record { at = _; last = Some 0; reaches = reaches_next {found = 0} (reaches_next {found = 0} (reaches_next {found = 0} (reaches_next {found = 0} reaches_start refl) refl) refl) refl; answers = refl };
      ends = refl;
    }))
    drops_nothing refl
  where
    never_immortal : (class : ℕ) → (class_at one_slot class).immortal ≡ false
    never_immortal zero = refl
    never_immortal (suc zero) = refl
    never_immortal (suc (suc n)) = refl

    Makes : Bool → Type 0
    Makes immortal = Gives (new_object (extent_of one_slot) immortal (next_name (first_of 1) nothing_yet class) 1) (first_of 1) [] (Slot 0)
        (made_at (first_of 1) (Store 2 (isa_word_of (next_name (first_of 1) nothing_yet class))) 0 None ∷ made_at (first_of 1) (Store 1 2) 0 None
        ∷ made_at (first_of 1) (Or 16 1) 0 (Some (acts.New 1 class 0)) ∷ made_at (first_of 1) (Load 16) 0 None ∷ [])

pub blocks_are_run : BlocksAreRun
blocks_are_run class = ops_block (ops_one (ops_block ops_none refl refl refl (omega arith)) refl (operations_tell class)) refl refl refl (omega arith)

pub loads_give : LoadsGive
unfolding unpacked
loads_give =
    load_gives {hand = 1} {name = next_name (first_of 1) nothing_yet 0} {mid = raised} refl (omega arith)
    (record {
      started = [];
      starts = starts_first;
      answers = record { at = _; last = Some (count_word 0 2 false); reaches = reaches_next {found = count_word 0 2 false} (reaches_next {found = count_word 0 2 false} reaches_start refl) refl; answers = refl };
      ends = refl;
    })
    (record {
      started = raised;
      starts = starts_first;
      answers = record { at = _; last = Some (isa_word_of (next_name (first_of 1) nothing_yet 0)); reaches = reaches_next {found = isa_word_of (next_name (first_of 1) nothing_yet 0)} reaches_start refl; answers = refl };
      ends = refl;
    })
    drops_nothing refl

pub loads_find_dead : LoadsFindDead
unfolding unpacked
loads_find_dead =
    load_finds_dead {hand = 1} refl (omega arith)
    (record {
      started = [];
      starts = starts_first;
      answers = record { at = _; last = Some (count_word 0 1 true); reaches = reaches_next {found = count_word 0 1 true} reaches_start refl; answers = refl };
      ends = refl;
    })
    drops_nothing refl

pub gets_copy : GetsCopy
unfolding unpacked
gets_copy =
    does_get {slot = 0} {begun = made_at (first_of 1) (Exchange 1 2 1) 2 None ∷ made_at (first_of 1) (Load 1) 2 None ∷ []}
    {mid = counts_more (first_of 1) (Some (acts.Copy (origins.Cell (cells.Global 0)) 1)) (made_at (first_of 1) (Exchange 1 2 1) 2 None ∷ made_at (first_of 1) (Load 1) 2 None ∷ [])}
    (record { named = refl; there = omega arith; kind_is = refl; counted = tt }) (omega arith)
    (record {
      started = [];
      starts = starts_first;
      answers = record { at = _; last = Some 2; reaches = reaches_next {found = 2} (reaches_next {found = 2} reaches_start refl) refl; answers = refl };
      ends = refl;
    })
    (record {
      started = made_at (first_of 1) (Exchange 1 2 1) 2 None ∷ made_at (first_of 1) (Load 1) 2 None ∷ [];
      starts = starts_first;
      answers = record { at = _; last = Some (count_word 0 2 false); reaches = reaches_next {found = count_word 0 2 false} (reaches_next {found = count_word 0 2 false} reaches_start refl) refl; answers = refl };
      ends = refl;
    })
    (record {
      started = counts_more (first_of 1) (Some (acts.Copy (origins.Cell (cells.Global 0)) 1)) (made_at (first_of 1) (Exchange 1 2 1) 2 None ∷ made_at (first_of 1) (Load 1) 2 None ∷ []);
      starts = starts_first;
      answers = record { at = _; last = Some 1; reaches = reaches_next {found = 1} reaches_start refl; answers = refl };
      ends = refl;
    })
    drops_nothing refl

pub sets_swap : SetsSwap
sets_swap =
    does_set {word = 0} (record { named = refl; there = omega arith; kind_is = refl; counted = tt })
    (record {
      started = made_at (first_of 1) (Load 1) 1 None ∷ [];
      starts = starts_again {a = Busy} starts_first (record { at = _; last = Some 1; reaches = reaches_next {found = 1} reaches_start refl; answers = refl }) refl;
      answers = record { at = _; last = Some 0; reaches = reaches_next {found = 0} (reaches_next {found = 0} reaches_start refl) refl; answers = refl };
      ends = refl;
    })
    drops_nothing refl

pub ends_clear : EndsClear
unfolding unpacked
ends_clear =
    globals_one {word = 2} {mid = made_at end_point (Exchange 1 2 0) 2 (Some (acts.Swap (cells.Global 0) None (Some 1))) ∷ made_at end_point (Load 1) 2 None ∷ []} globals_none (omega arith)
    (record {
      started = [];
      starts = starts_first;
      answers = record { at = _; last = Some 2; reaches = reaches_next {found = 2} (reaches_next {found = 2} reaches_start refl) refl; answers = refl };
      ends = refl;
    })
    (drops_more {entry = None} (omega arith) tt (record {
      started = made_at end_point (Exchange 1 2 0) 2 (Some (acts.Swap (cells.Global 0) None (Some 1))) ∷ made_at end_point (Load 1) 2 None ∷ [];
      starts = starts_first;
      answers = record { at = _; last = Some (count_word 1 2 false); reaches = reaches_next {found = count_word 1 2 false} (reaches_next {found = count_word 1 2 false} reaches_start refl) refl; answers = refl };
      ends = refl;
    }))

pub deinits_nest : DeinitsNest
unfolding unpacked
deinits_nest =
    finish_more {name = holder}
    (taken_out {word = 3} {found = 3} entered (λ e. (let y : 3 ≡ 0 = e in omega arith))
    (drops_last {entry = None} {mid = taken_last} (omega arith)
    (record {
      started = made_at (first_of 1) (Store 4 0) 3 (Some (acts.Take 0 0 2)) ∷ by 1 1 (Load 4) 3 ∷ by 1 1 (Load 2) (isa_word_of holder) ∷ by 1 1 (Store 3 0) 0 ∷ [];
      starts = starts_first;
      answers = record { at = _; last = Some (count_word 0 2 false); reaches = reaches_next {found = count_word 0 2 false} (reaches_next {found = count_word 0 2 false} reaches_start refl) refl; answers = refl };
      ends = refl;
    })
    (finish_more {name = kept} entered (record {
      started = by 1 1 (Load 14) 2 ∷ by 1 1 (Load 13) (isa_word_of kept) ∷ by 1 1 (Store 14 2) 0 ∷ taken_last;
      starts = starts_first;
      answers = record { at = _; last = Some (count_word 0 2 true); reaches = reaches_next {found = count_word 0 2 true} (reaches_next {found = count_word 0 2 true} reaches_start refl) refl; answers = refl };
      ends = refl;
    })) refl))
    (record {
      started = by 1 1 (Load 3) 0 ∷ by 1 1 (Load 2) (isa_word_of holder) ∷ inner_over;
      starts = starts_first;
      answers = record { at = _; last = Some (count_word 0 2 true); reaches = reaches_next {found = count_word 0 2 true} (reaches_next {found = count_word 0 2 true} reaches_start refl) refl; answers = refl };
      ends = refl;
    })
