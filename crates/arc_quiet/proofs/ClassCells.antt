-- Cells refer to objects of their classes where each hand that is put into one does.
use Rattle.std.proofs.Common.{◌≡◌, ◌≤◌, ℕ, Bool, true, false, cond, eqb, [], ◌∷◌, Option, Some, None, refl, sym, ap, ◌∙◌}
use Rattle.std.specs.Prelude.{slice_get, is_some, ⊤}
use Rattle.std.specs.List.{AllByRecursion}
use Rattle.std.proofs.lemmas.Bool.{and_parts, eqb-true, eq-eqb}
use Rattle.arc_model.specs.declared.event.Act.{Act}
use Rattle.arc_model.specs.declared.event.Act.TheVariants as acts
use Rattle.arc_model.specs.declared.event.CellName.{CellName}
use Rattle.arc_model.specs.declared.event.CellName.TheVariants as cells
use Rattle.arc_model.specs.declared.event.Event.{Event}
use Rattle.arc_model.specs.declared.shape.RefShape.{RefShape}
use Rattle.arc_model.specs.Shapes.{HeapShape, class_at}
use Rattle.arc_model.specs.Heaps.{Holder, Hand, Field, Global, Object, Heap}
use Rattle.arc_model.specs.Holders.{at_first, at_slot, in_slot, same_holder, same_id}
use Rattle.arc_model.specs.Cells.{cell, cell_shape, field_shape, id_of}
use Rattle.arc_model.specs.Needs.{Sight, first_failing, needs, reachable}
use Rattle.arc_model.specs.WellFormed.{is_own}
use Rattle.arc_model.specs.History.{History, heap_after, next_hand, sight, is_of, IsLegal}
use Rattle.arc_model.specs.Lookup.{Spot, spot, is_cell, hand_spot}
use Rattle.arc_model.specs.CellLaws.{cell_next}
use Rattle.arc_model.proofs.Basics.{None≢Some, Some-inj, AreMet, met, met-split}
use Rattle.arc_model.proofs.Tally.{no, same-id}
use Rattle.arc_model.proofs.Turns.{place-put, put-found}
use Rattle.arc_model.proofs.Builds.{some-is}
use Rattle.arc_model.proofs.Courses.{well_formed}
use Rattle.arc_model.proofs.Steps.{step_after}
use Rattle.arc_model.proofs.Others.{lookup_after, spot-held}
use Rattle.arc_model.proofs.Fields.{names-once, one-name}
use Rattle.arc_model.proofs.CellSpots.{cells_after}
use Rattle.arc_quiet.specs.OneWay.{CellsKeepClasses}

-- at this point and each earlier one
abbrev pub AllCells : HeapShape → History → Type 0
AllCells shape [] = CellsKeepClasses shape (heap_after [])
AllCells shape (e ∷ g) = CellsKeepClasses shape (heap_after (e ∷ g)) × AllCells shape g

pub cells-now : (shape : HeapShape) (g : History) → AllCells shape g → CellsKeepClasses shape (heap_after g)
cells-now shape [] c = c
cells-now shape (e ∷ g) c = c.0

-- the object that the event after g puts into a cell is of the cell's class
abbrev pub PutFits : HeapShape → Event → History → Type 0
PutFits shape e g = (c : CellName) (n : ℕ) (k : Option ℕ) (r : RefShape) (s : Spot) (o : Object) → e.act ≡ acts.Swap c (Some n) k → cell_shape shape (heap_after g) c ≡ Some r →
    spot (Hand e.thread n) (heap_after g) ≡ Some s → slice_get (heap_after g).objects s.place ≡ Some o → o.class ≡ r.class

-- so is what thread p puts in, as long as cells were so before
abbrev pub Puts : HeapShape → ℕ → History → Type 0
Puts shape p [] = ⊤
Puts shape p (e ∷ g) = Puts shape p g × (is_of p e ≡ true → AllCells shape g → PutFits shape e g)

abbrev IsThere : CellName → Heap → Type 0
IsThere (cells.Field s f) heap = is_some (at_slot s heap) ≡ true
IsThere (cells.Global g) heap = Unit {0}

-- where z stands after an act, it stood before, or it is the cell of a swap and a hand stood there
data Came (p : ℕ) (act : Act) (heap : Heap) (z : Holder) (s : Spot) : Type 0 where
  stood : spot z heap ≡ Some s → Came p act heap z s
  put : (c : CellName) (n : ℕ) (k : Option ℕ) → act ≡ acts.Swap c (Some n) k → same_holder z (cell heap c) ≡ true → IsThere c heap → spot (Hand p n) heap ≡ Some s → Came p act heap z s

came-step : (shape : HeapShape) (sight : Sight) (p : ℕ) (act : Act) (z : Holder) (s : Spot) → first_failing (needs shape sight p act) ≡ None → cell_next p act z sight.heap ≡ Some s → Came p act sight.heap z s
came-step shape sight p (acts.Swap c h k) z s ok is = go (same_holder z (cell sight.heap c)) refl is
  where
    there : (c : CellName) → AreMet (reachable shape sight.heap p c) → IsThere c sight.heap
    there (cells.Field t f) m = m.0
    there (cells.Global g) m = tt

    hand : (h : Option ℕ) → hand_spot p h sight.heap ≡ Some s → same_holder z (cell sight.heap c) ≡ true → IsThere c sight.heap → Came p (acts.Swap c h k) sight.heap z s
    hand None is e t = absurd (None≢Some s is)
    hand (Some n) is e t = put c n k refl e t is

    go : (b : Bool) → same_holder z (cell sight.heap c) ≡ b → cond b (hand_spot p h sight.heap) (spot z sight.heap) ≡ Some s → Came p (acts.Swap c h k) sight.heap z s
    go true e is =
        let m = met-split (reachable shape sight.heap p c) _ (met (needs shape sight p (acts.Swap c h k)) ok) in
        hand h is e (there c m.0)
    go false e is = stood is
came-step shape sight p (acts.Take t f k) z s ok is = go (same_holder z (cell sight.heap (cells.Field t f))) is
  where
    go : (b : Bool) → cond b None (spot z sight.heap) ≡ Some s → Came p (acts.Take t f k) sight.heap z s
    go true is = absurd (None≢Some s is)
    go false is = stood is
came-step shape sight p (acts.New k c t) z s ok is = stood is
came-step shape sight p acts.Full z s ok is = stood is
came-step shape sight p (acts.Copy from k) z s ok is = stood is
came-step shape sight p (acts.UnownedOf h k) z s ok is = stood is
came-step shape sight p (acts.WeakOf h k) z s ok is = stood is
came-step shape sight p (acts.Load h g) z s ok is = stood is
came-step shape sight p (acts.Drop h last) z s ok is = stood is
came-step shape sight p (acts.CountFull k from) z s ok is = stood is
came-step shape sight p (acts.Claim e) z s ok is = stood is
came-step shape sight p acts.NoEntry z s ok is = stood is
came-step shape sight p (acts.Side t e why) z s ok is = stood is
came-step shape sight p (acts.Back e) z s ok is = stood is
came-step shape sight p (acts.Look c) z s ok is = stood is
came-step shape sight p (acts.Finish t last) z s ok is = stood is
came-step shape sight p (acts.Vacate t) z s ok is = stood is
came-step shape sight p (acts.Gone e last) z s ok is = stood is

came : (shape : HeapShape) (e : Event) (g : History) (z : Holder) (s : Spot) → IsLegal shape (e ∷ g) → is_cell z ≡ true → spot z (heap_after (e ∷ g)) ≡ Some s → Came e.thread e.act (heap_after g) z s
came shape e g z s legal is at = came-step shape (sight e.thread g) e.thread e.act z s legal.0 (sym (cells_after shape g e z legal is) ∙ at)

-- the object at a place where something stood is of the class that it was of
record Older (shape : HeapShape) (g : History) (i : ℕ) (o : Object) : Type 0 where
  object : Object
  here : slice_get (heap_after g).objects i ≡ Some object
  class : o.class ≡ object.class

older : (shape : HeapShape) (e : Event) (g : History) → IsLegal shape (e ∷ g) → (z : Holder) (s : Spot) (o : Object) → is_own z ≡ true → spot z (heap_after g) ≡ Some s → slice_get (heap_after (e ∷ g)).objects s.place ≡ Some o → Older shape g s.place o
older shape e g legal z s o own at here =
    let l = (lookup_after shape g z legal.1 own).there s at in
    let t = step_after shape e g legal s.place l.0 l.1 in
    record { object = l.0; here = l.1; class = ap (λ (q : Object). q.class) (Some-inj (sym here ∙ t.here)) ∙ t.class }

-- a field of an object that was there before
field-of : (shape : HeapShape) (e : Event) (g : History) → IsLegal shape (e ∷ g) → (j : ℕ) (r : Object) → slice_get (heap_after g).objects j ≡ Some r → (i : ℕ) (o : Object) → slice_get (heap_after (e ∷ g)).objects i ≡ Some o → r.id ≡ o.id → (f : ℕ) → field_shape shape f (Some r) ≡ field_shape shape f (Some o)
field-of shape e g legal j r before i o after same f =
    let s = step_after shape e g legal j r before in
    let one = one-name o.id (heap_after (e ∷ g)).objects j i s.q o (names-once (λ q. next_hand q (e ∷ g)) (heap_after (e ∷ g)) (well_formed shape (e ∷ g) legal) o.id) s.here (s.id ∙ same) after refl in
    ap (λ c. slice_get (class_at shape c).fields f) (sym s.class ∙ ap (λ (q : Object). q.class) one)

cells-step : (shape : HeapShape) (e : Event) (g : History) → IsLegal shape (e ∷ g) → CellsKeepClasses shape (heap_after g) → PutFits shape e g → CellsKeepClasses shape (heap_after (e ∷ g))
cells-step shape e g legal before fits = record {
  fields = λ i owner f r s o here shaped at at'. field i owner f r s o here shaped at' (came shape e g (Field owner.id f) s legal refl at);
  globals = λ n r s o shaped at at'. global n r s o shaped at' (came shape e g (Global n) s legal refl at);
}
  where
    global : (n : ℕ) (r : RefShape) (s : Spot) (o : Object) → slice_get shape.globals n ≡ Some r → slice_get (heap_after (e ∷ g)).objects s.place ≡ Some o → Came e.thread e.act (heap_after g) (Global n) s → o.class ≡ r.class
    global n r s o shaped here (stood at) =
        let w = older shape e g legal (Global n) s o refl at here in
        w.class ∙ before.globals n r s w.object shaped at w.here
    global n r s o shaped here (put (cells.Field t f) m k is same there at) = no same
    global n r s o shaped here (put (cells.Global j) m k is same there at) =
        let w = older shape e g legal (Hand e.thread m) s o refl at here in
        w.class ∙ fits (cells.Global j) m k r s w.object is (ap (slice_get shape.globals) (sym (eqb-true n j same)) ∙ shaped) at w.here

    field : (i : ℕ) (owner : Object) (f : ℕ) (r : RefShape) (s : Spot) (o : Object) → slice_get (heap_after (e ∷ g)).objects i ≡ Some owner → field_shape shape f (Some owner) ≡ Some r → slice_get (heap_after (e ∷ g)).objects s.place ≡ Some o → Came e.thread e.act (heap_after g) (Field owner.id f) s → o.class ≡ r.class
    field i owner f r s o here shaped there (stood at) =
        let has = (well_formed shape g legal.1).owned owner.id f (spot-held (Field owner.id f) (heap_after g) (ap is_some at)) in
        let w = older shape e g legal (Field owner.id f) s o refl at there in
        w.class ∙ before.fields has.place has.object f r s w.object has.here (field-of shape e g legal has.place has.object has.here i owner here has.named f ∙ shaped) (ap (λ n. spot (Field n f) (heap_after g)) has.named ∙ at) w.here
    field i owner f r s o here shaped there (put (cells.Global j) m k is same isthere at) = no same
    field i owner f r s o here shaped there (put (cells.Field t n) m k is same isthere at) =
        let found = some-is (at_slot t (heap_after g)) isthere in
        let place = place-put (heap_after g).objects (at_first (in_slot t) (λ q. q) (heap_after g).objects) found.0 found.0 (put-found (in_slot t) (λ q. q) (heap_after g).objects found.0 found.1) in
        let parts = and_parts (same_id owner.id (id_of (at_slot t (heap_after g)))) (eqb f n) same in
        let named : found.0.id ≡ owner.id = sym (same-id owner.id (id_of (at_slot t (heap_after g))) parts.0 ∙ ap id_of found.1) in
        let w = older shape e g legal (Hand e.thread m) s o refl at there in
        w.class ∙ fits (cells.Field t n) m k r s w.object is (ap (field_shape shape n) found.1 ∙ ap (λ j. field_shape shape j (Some found.0)) (sym (eqb-true f n parts.1)) ∙ field-of shape e g legal place.0 found.0 place.1 i owner here named f ∙ shaped) at w.here

-- where each thread of the history puts in what fits, all cells keep their classes
pub all_cells : (shape : HeapShape) (most : ℕ) (h : History) → IsLegal shape h → ((p : ℕ) → p ≤ most → Puts shape p h) → AllByRecursion (λ (e : Event). e.thread ≤ most) h → AllCells shape h
all_cells shape most [] legal puts few = record { fields = λ i owner f r s o here shaped at there. absurd (None≢Some s at); globals = λ n r s o shaped at there. absurd (None≢Some s at) }
all_cells shape most (e ∷ g) legal puts few =
    let before = all_cells shape most g legal.1 (λ p l. (puts p l).0) few.1 in
    (cells-step shape e g legal (cells-now shape g before) ((puts e.thread few.0).1 (eq-eqb e.thread e.thread refl) before), before)
