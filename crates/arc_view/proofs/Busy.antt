-- A cell that is read as busy is accessed by a pass, which reaches it.
use Rattle.std.proofs.Common.{◌≡◌, ◌≢◌, ◌⊎◌, inl, inr, ⊎_elim, ℕ, zero, suc, ◌≤◌, Bool, true, false, List, [], ◌∷◌, ◌++◌, Option, Some, None, refl, sym, ap, ◌∙◌, subst, arith}
use mathlib.Core.Logic.{dite}
use mathlib.Core.Option.{some, some-injective, some-ne-none}
use native.Mathlib.Decide.{ℕ_discrete}
use lib.ListN.{get_elem?}
use Rattle.atomic_table.specs.Table.{State}
use Rattle.arc_model.specs.declared.event.CellName.{CellName}
use Rattle.arc_model.specs.declared.event.CellName.TheVariants as cells
use Rattle.arc_model.specs.declared.event.Origin.TheVariants as origins
use Rattle.arc_model.specs.Shapes.{HeapShape}
use Rattle.arc_model.specs.Heaps.{Object, Heap}
use Rattle.arc_model.specs.Heaps as holders
use Rattle.arc_model.specs.Holders.{at_slot}
use Rattle.arc_model.specs.Cells.{has_field}
use Rattle.arc_model.specs.History.{heap_after, IsLegal}
use Rattle.arc_model.specs.References.{Reference, reference_of}
use Rattle.arc_model.proofs.Basics.{None≢Some, Some-inj, true≢false}
use Rattle.arc_rule.specs.Places.{IsPlace, extent_of}
use Rattle.arc_rule.specs.Shown.{Says, cell_word, field_word, field_word_if, word_at}
use Rattle.arc_view.specs.declared.view.Role.TheVariants.{Pass}
use Rattle.arc_view.specs.declared.view.Begun.{Begun}
use Rattle.arc_view.specs.declared.view.View.{View}
use Rattle.arc_view.specs.Views.{within, cell_place, private_words, Excepts}
use Rattle.arc_view.specs.Holding.{IsOpen, CanReach}
use Rattle.arc_view.specs.Rule.{IsKept}
use Rattle.arc_view.specs.Steps.{IsOther, IsHeld}
use Rattle.arc_view.proofs.Lists.{others_came}
use Rattle.arc_view.proofs.Keeps.{reach_stays}

-- one cell is at a place
pub cell_at : (c d : CellName) → cell_place c ≡ cell_place d → c ≡ d
cell_at (cells.Field s f) (cells.Field t g) e = cc
cell_at (cells.Field s f) (cells.Global g) e = cc
cell_at (cells.Global g) (cells.Field s f) e = cc
cell_at (cells.Global g) (cells.Global n) e = cc

-- the heap says of no cell that it is busy
pub cell_not_busy : (shape : HeapShape) (heap : Heap) (c : CellName) (x : ℕ) → Says shape heap (cell_place c) x → x ≢ 1
cell_not_busy shape heap c x says one = by c (subst (Says shape heap (cell_place c)) one says)
  where
    no_word : (r : Option Reference) → 1 ≡ cell_word r → ⊥
    no_word None e = omega (arith, e)
    no_word (Some r) e = omega (arith, e)

    no_field : (b : Bool) (f : ℕ) (o : Object) → 1 ≡ field_word_if b shape heap f o → ⊥
    no_field true f o e = no_word (reference_of (holders.Field o.id f) heap) e
    no_field false f o e = omega (arith, e)

    in_slot : (f : ℕ) (m : Option Object) → 1 ≡ field_word shape heap f m → ⊥
    in_slot f None e = omega (arith, e)
    in_slot f (Some o) e = no_field (has_field shape f o) f o e

    by : (c : CellName) → Says shape heap (cell_place c) 1 → ⊥
    by (cells.Global g) e = no_word (reference_of (holders.Global g) heap) e
    by (cells.Field s f) e = in_slot f (at_slot s heap) e

-- a cell is excepted by the views that access it
excepts_open : (v : View) (c : CellName) → Excepts v.working (cell_place c) → IsOpen v (origins.Cell c)
excepts_open v (cells.Field s f) (a, begun, at) = (a, begun, cell_at a.cell (cells.Field s f) at)
excepts_open v (cells.Global g) (a, begun, at) = (a, begun, cell_at a.cell (cells.Global g) at)

same_cell : (c d : CellName) → (c ≡ d) ⊎ (c ≢ d)
same_cell (cells.Field s f) (cells.Field t g) =
    dite (ℕ_discrete s t) (λ e. dite (ℕ_discrete f g) (λ i. inl cc) (λ ne. inr (λ is. ne cc))) (λ ne. inr (λ is. ne cc))
same_cell (cells.Field s f) (cells.Global g) = inr (λ is. cc)
same_cell (cells.Global g) (cells.Field s f) = inr (λ is. cc)
same_cell (cells.Global g) (cells.Global n) = dite (ℕ_discrete g n) (λ e. inl (ap cells.Global e)) (λ ne. inr (λ is. ne cc))

is_open : (v : View) (c : CellName) → IsOpen v (origins.Cell c) ⊎ (IsOpen v (origins.Cell c) → ⊥)
is_open v c = by v.working.access refl
  where
    by : (m : Option Begun) → v.working.access ≡ m → IsOpen v (origins.Cell c) ⊎ (IsOpen v (origins.Cell c) → ⊥)
    by None e = inr (λ o. None≢Some o.0 (sym e ∙ o.1))
    by (Some a) e = ⊎_elim (λ is. inl (a, e, is)) (λ ne. inr (λ o. ne (ap (λ (b : Begun). b.cell) (Some-inj (sym e ∙ o.1)) ∙ o.2))) (same_cell a.cell c)

-- one of the views accesses the cell
abbrev pub IsOpened : List View → CellName → Type 0
IsOpened views c = (i : ℕ) × (u : View) × (get_elem? views i ≡ some u) × IsOpen u (origins.Cell c)

-- it is found, or there is none
opener : (views : List View) (c : CellName) → IsOpened views c ⊎ (IsOpened views c → ⊥)
opener [] c = inr (λ o. some-ne-none o.1 (sym o.2))
opener (x ∷ xs) c = ⊎_elim
    (λ o. inl (zero, x, refl, o))
    (λ none. ⊎_elim (λ o. inl (suc o.0, o.1, o.2, o.3)) (λ later. inr (λ o. neither none later o.0 o.1 o.2 o.3)) (opener xs c))
    (is_open x c)
  where
    neither : (IsOpen x (origins.Cell c) → ⊥) → (IsOpened xs c → ⊥) → (i : ℕ) (u : View) → get_elem? (x ∷ xs) i ≡ some u → IsOpen u (origins.Cell c) → ⊥
    neither none later zero u at o = none (subst (λ (w : View). IsOpen w (origins.Cell c)) (sym (some-injective x u at)) o)
    neither none later (suc i) u at o = later (i, u, at, o)

module _ {S : Type 0} (shape : HeapShape) (s : State S View) (k : IsKept shape s) where
  -- a view that accesses a cell is a pass, and reaches the cell now
  pub access_reaches : (i : ℕ) (u : View) → get_elem? s.views i ≡ some u → (a : Begun) → u.working.access ≡ Some a → (u.role ≡ Pass) × CanReach shape (heap_after k.log) u.number a.cell
  access_reaches i u e a begun =
      let fit = k.fits i u e in
      let up : u.role ≡ Pass = ⊎_elim (λ p. p) (λ (idle : (u.working.owes ≡ None) × (u.working.access ≡ None) × (private_words u.working ≡ [])). absurd (None≢Some a (sym idle.1 ∙ begun))) fit.working in
      let rest = fit.begins.0 in
      let since : k.log ≡ rest ++ u.seen = fit.begins.1 in
      let reach = reach_stays shape u.seen rest a.cell u.number (subst (IsLegal shape) since k.legal) (others_came u.number k.log u.seen rest since (fit.own up)) (fit.work.reaches a begun).1 in
      (up, subst (λ l. CanReach shape (heap_after l) u.number a.cell) (sym since) reach)

  -- another view's pass is another
  other_pass : (id i : ℕ) (v u : View) → get_elem? s.views id ≡ some v → get_elem? s.views i ≡ some u → v.role ≡ Pass → u.role ≡ Pass → i ≢ id → IsOther v u.number
  other_pass id i v u at e pass up ne = (
    λ same. ne (k.apart i id u v e at up pass same),
    by (within u.number v.taken) refl,
    λ first. subst (λ n. u.number ≤ n) (sym ((k.fits id v at).first pass first).0) ((k.fits i u e).numbered up).0,
  )
    where
      by : (b : Bool) → within u.number v.taken ≡ b → b ≡ false
      by true in_it = absurd (true≢false (sym (((k.fits id v at).kept pass u.number in_it).0) ∙ ((k.fits i u e).numbered up).1))
      by false in_it = refl

  -- who accesses a cell whose word is the busy mark
  pub busy_held : (id : ℕ) (v : View) → get_elem? s.views id ≡ some v → v.role ≡ Pass → (c : CellName) → IsPlace (extent_of shape) (cell_place c) → word_at shape s.words (cell_place c) ≡ 1 → IsHeld shape v k.log c
  busy_held id v at pass c inside one = ⊎_elim (λ o. by o.0 o.1 o.2 o.3)
      (λ none. absurd (cell_not_busy shape (heap_after k.log) c (word_at shape s.words (cell_place c)) (k.words.says (cell_place c) inside (λ x. none (x.0, x.1, x.2, excepts_open x.1 c x.3))) one))
      (opener s.views c)
    where
      by : (i : ℕ) (u : View) → get_elem? s.views i ≡ some u → IsOpen u (origins.Cell c) → IsHeld shape v k.log c
      by i u e (a, begun, is) =
          let r = access_reaches i u e a begun in (
            u.number,
            dite (ℕ_discrete i id)
                (λ here. let same : u ≡ v = some-injective u v (sym e ∙ (ap (get_elem? s.views) here ∙ at)) in inl (ap (λ (w : View). w.number) same, subst (λ (w : View). IsOpen w (origins.Cell c)) same (a, begun, is)))
                (λ ne. inr (other_pass id i v u at e pass r.0 ne)),
            subst (CanReach shape (heap_after k.log) u.number) is r.1,
          )

  -- the word of a cell that the view accesses is the mark
  pub own_busy : (id : ℕ) (v : View) → get_elem? s.views id ≡ some v → (c : CellName) → IsOpen v (origins.Cell c) → word_at shape s.words (cell_place c) ≡ 1
  own_busy id v at c (a, begun, is) = ap (λ d. word_at shape s.words (cell_place d)) (sym is) ∙ ((k.lying id v at).access a begun).busy
