-- How many cells hold a reference, through every event of a legal history.
use Rattle.std.proofs.Common.{◌≡◌, ℕ, ◌+◌, Bool, true, false, cond, eqb, [], ◌∷◌, Option, Some, None, refl, sym, ap, ◌∙◌, arith}
use Rattle.std.specs.Prelude.{is_some}
use Rattle.std.proofs.lemmas.Bool.{and_parts, eqb-true}
use Rattle.std.proofs.lemmas.List.Sums.{sum_by-cons}
use Rattle.arc_model.specs.declared.event.Act.{Act}
use Rattle.arc_model.specs.declared.event.Act.TheVariants as acts
use Rattle.arc_model.specs.declared.event.CellName.{CellName}
use Rattle.arc_model.specs.declared.event.CellName.TheVariants as cells
use Rattle.arc_model.specs.declared.event.Event.{Event}
use Rattle.arc_model.specs.declared.event.Got.TheVariants as got
use Rattle.arc_model.specs.declared.shape.Kind.TheVariants.{Strong, Unowned, Weak}
use Rattle.arc_model.specs.Shapes.{HeapShape}
use Rattle.arc_model.specs.Heaps.{Hand, Strongs, Unowneds, Heap}
use Rattle.arc_model.specs.Holders.{change, gains, has_entry, held_by, holds, in_slot, kind_in, lists, same_holder, with_last, with_list, without}
use Rattle.arc_model.specs.Cells.{is_live, cell, origin}
use Rattle.arc_model.specs.Effects.{becomes, claimed_if, effect, entry_left, finished, given_up, gone, made, owing_none, vacated}
use Rattle.arc_model.specs.Needs.{Sight, first_failing, needs, reachable}
use Rattle.arc_model.specs.History.{History, heap_after, next_hand, sight}
use Rattle.arc_model.specs.Lookup.{is_cell}
use Rattle.arc_model.specs.WellFormed.{more, total, IsWellFormed}
use Rattle.arc_model.proofs.Basics.{met, met-split}
use Rattle.arc_model.proofs.Builds.{advance, entry_to-objects}
use Rattle.arc_model.proofs.Courses.{Fielded, reached, is-open, held-is, well_formed, own-cell, hand-cell, twice, out_turn}
use Rattle.arc_model.proofs.Keeps.{kept-turn, total-end}
use Rattle.arc_model.proofs.Others.{spot-turn, spot-find}
use Rattle.arc_model.proofs.Own.{swap_given}
use Rattle.arc_hand_counts.specs.Counts.{is_put, is_swapped_out, is_taken, times, puts, swapped_out, takes, cells_of, full_cells}
use Rattle.arc_hand_counts.specs.Laws.{CellsAddUp, TakesWerePut}
use Rattle.arc_hand_counts.proofs.Cells.{more-is, cells-push, cells-gains, cells-without, cells-list, cells-lists, cells-ended, cells-left, cells-change, cells-become}

cell-is : (heap : Heap) (c : CellName) → is_cell (cell heap c) ≡ true
cell-is heap (cells.Field s f) = refl
cell-is heap (cells.Global g) = refl

-- what a cell held goes into a hand, and what a hand held into a cell
out-one : {shape : HeapShape} (p k : ℕ) (next : ℕ → ℕ) (heap : Heap) (c : CellName) → IsWellFormed shape next heap → is_some (held_by (cell heap c) heap) ≡ true → more true (full_cells (becomes (cell heap c) (Hand p k) heap)) ≡ full_cells heap
out-one p k next heap c f full = ap (λ b. more b (full_cells (becomes (cell heap c) (Hand p k) heap))) (sym (cell-is heap c)) ∙ cells-become (cell heap c) (Hand p k) heap (f.once (cell heap c) (own-cell heap c)) full

in-one : {shape : HeapShape} (p h : ℕ) (next : ℕ → ℕ) (heap was : Heap) (c : CellName) → IsWellFormed shape next heap → is_some (held_by (Hand p h) heap) ≡ true → full_cells (becomes (Hand p h) (cell was c) heap) ≡ more true (full_cells heap)
in-one p h next heap was c f given = cells-become (Hand p h) (cell was c) heap (f.once (Hand p h) refl) given ∙ ap (λ b. more b (full_cells heap)) (cell-is was c)

-- a swap that does both: the hand that is put in is another than the one that comes
both-ways : {shape : HeapShape} (p h k : ℕ) (c : CellName) (next : ℕ → ℕ) (heap : Heap) → IsWellFormed shape next heap → is_some (held_by (Hand p h) heap) ≡ true → k ≡ next p → is_some (held_by (cell heap c) heap) ≡ true → Fielded shape (is_live shape) heap heap c →
    full_cells (effect p (acts.Swap c (Some h) (Some k)) heap) ≡ full_cells heap
both-ways p h k c next heap f given came full reach =
    let act = acts.Swap c (Some h) (Some k) in
    let mid = becomes (cell heap c) (Hand p k) heap in
    let t = out_turn p k act next heap c came f (own-cell heap c) full (is-open p heap heap c reach) in
    let g = kept-turn p act next (advance true p next) heap mid t f in
    let stays = spot-turn p act next (advance true p next) heap mid t (Hand p h) (hand-cell p h heap c) (apart (same_holder (Hand p h) (Hand p k)) refl) in
    let there : is_some (held_by (Hand p h) mid) ≡ true = sym (spot-find (Hand p h) mid.objects) ∙ ap is_some stays ∙ spot-find (Hand p h) heap.objects ∙ given in
    in-one p h (advance true p next) mid heap c g there ∙ out-one p k next heap c f full
  where
    apart : (b : Bool) → same_holder (Hand p h) (Hand p k) ≡ b → b ≡ false
    apart true e =
        let a = held-is (Hand p h) heap.objects given in
        let b = eqb-true h k (and_parts (eqb p p) (eqb h k) e).1 in
        let g = f.fresh p h (omega arith) in absurd (omega arith)
    apart false e = refl

swap_step : (shape : HeapShape) (sight : Sight) (p : ℕ) (c : CellName) (h k : Option ℕ) (next : ℕ → ℕ) → sight.next ≡ next p → first_failing (needs shape sight p (acts.Swap c h k)) ≡ None → IsWellFormed shape next sight.heap →
    more (is_swapped_out (acts.Swap c h k)) (full_cells (effect p (acts.Swap c h k) sight.heap)) ≡ more (is_put (acts.Swap c h k)) (full_cells sight.heap)
swap_step shape sight p c None None next is ok f = refl
swap_step shape sight p c None (Some k) next is ok f =
    let m = met-split (reachable shape sight.heap p c) _ (met (needs shape sight p (acts.Swap c None (Some k))) ok) in
    out-one p k next sight.heap c f (twice (is_some (held_by (cell sight.heap c) sight.heap)) m.1.1.1.0)
swap_step shape sight p c (Some h) None next is ok f =
    let m = met-split (reachable shape sight.heap p c) _ (met (needs shape sight p (acts.Swap c (Some h) None)) ok) in
    in-one p h next sight.heap sight.heap c f (swap_given shape sight p c (Some h) m.1.0 h refl)
swap_step shape sight p c (Some h) (Some k) next is ok f =
    let m = met-split (reachable shape sight.heap p c) _ (met (needs shape sight p (acts.Swap c (Some h) (Some k))) ok) in
    ap (more true) (both-ways p h k c next sight.heap f (swap_given shape sight p c (Some h) m.1.0 h refl) (eqb-true k sight.next m.1.1.0 ∙ is) (twice (is_some (held_by (cell sight.heap c) sight.heap)) m.1.1.1.0) (reached shape sight.heap p c m.0))

claimed_if-cells : (last : Bool) (p e : ℕ) (heap : Heap) → full_cells (claimed_if last p e heap) ≡ full_cells heap
claimed_if-cells true p e heap = refl
claimed_if-cells false p e heap = refl

cells_step : (shape : HeapShape) (sight : Sight) (p : ℕ) (act : Act) (next : ℕ → ℕ) → sight.next ≡ next p → first_failing (needs shape sight p act) ≡ None → IsWellFormed shape next sight.heap →
    more (is_taken act) (more (is_swapped_out act) (full_cells (effect p act sight.heap))) ≡ more (is_put act) (full_cells sight.heap)
cells_step shape sight p (acts.New k c s) next is ok f = let a = total-end cells_of sight.heap.objects (made p k c s sight.heap.objects) in omega arith
cells_step shape sight p acts.Full next is ok f = refl
cells_step shape sight p (acts.Copy from k) next is ok f =
    let x = origin sight.heap p from in
    cells-change (holds x) (lists (gains x (Hand p k))) sight.heap.objects (λ o. cells-lists (gains x (Hand p k)) o (λ xs. cells-gains x (Hand p k) xs refl))
cells_step shape sight p (acts.UnownedOf h k) next is ok f = cells-change (holds (Hand p h)) (with_list Unowned (with_last (Hand p k))) sight.heap.objects (λ o. cells-list Unowned (with_last (Hand p k)) o (λ xs. cells-push (Hand p k) xs refl))
cells_step shape sight p (acts.WeakOf h k) next is ok f = cells-change (holds (Hand p h)) (with_list Weak (with_last (Hand p k))) sight.heap.objects (λ o. cells-list Weak (with_last (Hand p k)) o (λ xs. cells-push (Hand p k) xs refl))
cells_step shape sight p (acts.Load h (got.Hand k)) next is ok f = cells-change (holds (Hand p h)) (with_list Strong (with_last (Hand p k))) sight.heap.objects (λ o. cells-list Strong (with_last (Hand p k)) o (λ xs. cells-push (Hand p k) xs refl))
cells_step shape sight p (acts.Load h got.Dead) next is ok f = refl
cells_step shape sight p (acts.Load h got.Nil) next is ok f = refl
cells_step shape sight p (acts.Drop h last) next is ok f =
    ap (total cells_of) (entry_to-objects p (entry_left (Hand p h) last (held_by (Hand p h) sight.heap)) (change (holds (Hand p h)) (given_up p (Hand p h) last) sight.heap))
    ∙ cells-change (holds (Hand p h)) (given_up p (Hand p h) last) sight.heap.objects (λ o.
    cells-ended last p (kind_in (Hand p h) o) (with_list (kind_in (Hand p h) o) (without (Hand p h)) o) ∙ cells-list (kind_in (Hand p h) o) (without (Hand p h)) o (λ xs. cells-without (Hand p h) xs refl))
cells_step shape sight p (acts.CountFull k from) next is ok f = refl
cells_step shape sight p (acts.Claim e) next is ok f = refl
cells_step shape sight p acts.NoEntry next is ok f = refl
cells_step shape sight p (acts.Side s e why) next is ok f = cells-change (in_slot s) (λ o. record o { entry = Some e }) sight.heap.objects (λ o. refl)
cells_step shape sight p (acts.Back e) next is ok f = refl
cells_step shape sight p (acts.Swap c h k) next is ok f = swap_step shape sight p c h k next is ok f
cells_step shape sight p (acts.Look c) next is ok f = refl
cells_step shape sight p (acts.Take s g k) next is ok f =
    let m = met (needs shape sight p (acts.Take s g k)) ok in
    let c : CellName = cells.Field s g in
    out-one p k next sight.heap c f (twice (is_some (held_by (cell sight.heap c) sight.heap)) m.1.1.1.0)
cells_step shape sight p (acts.Finish s last) next is ok f =
    cells-change (in_slot s) (finished p last) sight.heap.objects (λ o. cells-ended last p Unowned (owing_none (with_list Unowned (without Strongs) o)) ∙ cells-list Unowned (without Strongs) o (λ xs. cells-without Strongs xs refl))
cells_step shape sight p (acts.Vacate s) next is ok f = cells-change (in_slot s) (vacated p) sight.heap.objects (λ o. cells-left p o.entry o)
cells_step shape sight p (acts.Gone e last) next is ok f =
    claimed_if-cells last p e (change (has_entry e) (gone p last) sight.heap)
    ∙ cells-change (has_entry e) (gone p last) sight.heap.objects (λ o. cells-ended last p Weak (owing_none (with_list Weak (without Unowneds) o)) ∙ cells-list Weak (without Unowneds) o (λ xs. cells-without Unowneds xs refl))

pub times-cons : (test : Act → Bool) (e : Event) (h : History) → times test (e ∷ h) ≡ more (test e.act) (times test h)
times-cons test e h = sum_by-cons (λ (d : Event). cond (test d.act) 1 0) e h ∙ go (test e.act)
  where
    go : (b : Bool) → cond b 1 0 + times test h ≡ more b (times test h)
    go true = omega arith
    go false = omega arith

add : (t s w : Bool) (taken out full after put : ℕ) → taken + out + full ≡ put → more t (more s after) ≡ more w full → more t taken + more s out + after ≡ more w put
add t s w taken out full after put sum step =
    let a = more-is t taken in
    let b = more-is s out in
    let c = more-is w put in
    let d = more-is w full in
    let e = more-is t (more s after) in
    let g = more-is s after in omega arith

pub cells_add_up : CellsAddUp
cells_add_up shape [] legal = refl
cells_add_up shape (e ∷ h) legal =
    let step = cells_step shape (sight e.thread h) e.thread e.act (λ q. next_hand q h) refl legal.0 (well_formed shape h legal.1) in
    let sum = add (is_taken e.act) (is_swapped_out e.act) (is_put e.act) (takes h) (swapped_out h) (full_cells (heap_after h)) (full_cells (heap_after (e ∷ h))) (puts h) (cells_add_up shape h legal.1) step in
    let a = times-cons is_taken e h in
    let b = times-cons is_swapped_out e h in
    let c = times-cons is_put e h in omega arith

pub takes_were_put : TakesWerePut
takes_were_put shape h legal = let a = cells_add_up shape h legal in omega arith
