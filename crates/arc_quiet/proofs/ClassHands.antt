-- The hand that an operation gains refers to an object of its destination's class.
use Rattle.std.proofs.Common.{◌≡◌, ◌≤◌, ◌<◌, ◌==◌, ℕ, zero, Bool, true, false, cond, List, [], ◌∷◌, ◌++◌, length, Option, Some, None, refl, sym, ap, ◌∙◌, subst, arith}
use Rattle.std.specs.Prelude.{◌&&◌, find, slice_get, option_map}
use Rattle.std.proofs.lemmas.Bool.{eqb-true, eq-eqb, ne_eqb}
use Rattle.arc_model.specs.declared.event.Act.{Act}
use Rattle.arc_model.specs.declared.event.Act.TheVariants as acts
use Rattle.arc_model.specs.declared.event.CellName.{CellName}
use Rattle.arc_model.specs.declared.event.CellName.TheVariants as cells
use Rattle.arc_model.specs.declared.event.Event.{Event}
use Rattle.arc_model.specs.declared.event.Got.TheVariants as gots
use Rattle.arc_model.specs.declared.event.ObjectName.{ObjectName}
use Rattle.arc_model.specs.declared.event.Origin.TheVariants as origins
use Rattle.arc_model.specs.declared.shape.Kind.{Kind}
use Rattle.arc_model.specs.declared.shape.Kind.TheVariants.{Strong, Unowned, Weak}
use Rattle.arc_model.specs.declared.shape.RefShape.{RefShape}
use Rattle.arc_model.specs.Shapes.{HeapShape}
use Rattle.arc_model.specs.Heaps.{Holder, Hand, Field, Object, Heap}
use Rattle.arc_model.specs.Holders.{at_first, at_slot, has_entry, holds, in_slot, is_number, kind_in}
use Rattle.arc_model.specs.Cells.{cell, cell_shape, field_shape, id_of, is_kind, same_kind}
use Rattle.arc_model.specs.Effects.{made}
use Rattle.arc_model.specs.WellFormed.{is_own}
use Rattle.arc_model.specs.History.{History, heap_after, next_hand, sight, brings, is_of, IsLegal}
use Rattle.arc_model.specs.Lookup.{Spot, further, spot_in, spot}
use Rattle.arc_model.specs.Own.{brings_hand, brought, ends_hand, in_list}
use Rattle.arc_spelling.specs.Spelling.{Note}
use Rattle.arc_spelling.specs.Spelling.Note.{Did, Name, Entry}
use Rattle.arc_spelling.specs.SpellingTies.{Ties}
use Rattle.arc_model.specs.References.{Reference, place_of, reference_in, reference_of, reference_to}
use Rattle.arc_model.proofs.Basics.{None≢Some, Some-inj}
use Rattle.arc_model.proofs.Builds.{advance-grows, find-passes}
use Rattle.arc_model.proofs.CellKinds.{cell_kinds_after}
use Rattle.arc_model.proofs.Courses.{next-step, own-cell, well_formed}
use Rattle.arc_model.proofs.Others.{lookup_after}
use Rattle.arc_model.proofs.Own.{own_gains}
use Rattle.arc_model.proofs.Steps.{step_after}
use Rattle.arc_model.proofs.Tally.{no}
use Rattle.arc_model.proofs.Turns.{put-found, place-put}
use Rattle.arc_programs.specs.Variables.{Held, Variables, value, cell_of}
use Rattle.arc_script.specs.Valid as valid
use Rattle.arc_script.specs.declared.script.OpCell.{OpCell}
use Rattle.arc_programs.specs.ProgramsTied.{hands_in, brings_it}
use Rattle.arc_quiet.specs.OneWay.{CellsKeepClasses}
use Rattle.arc_quiet.proofs.Bare.{find-only}
use Rattle.arc_quiet.proofs.Counts.{one_if}
use Rattle.arc_quiet.proofs.ClassCells.{AllCells, cells-now}
use Rattle.arc_quiet.proofs.ClassVars.{Setting, declared, HandFits, Good, at-place, cell-declared}
use Rattle.arc_quiet.proofs.HandFits.{Fit, fit-step}
use Rattle.arc_quiet.proofs.HandsCounted.{brings_next, next-own}
use Rattle.arc_quiet.proofs.Pasts.{Past, legal-past, Stable, AtNotes, over-event, over-fact, along}
use Rattle.arc_quiet.proofs.Pasts.Past.{now, before}
use Rattle.arc_quiet.proofs.Pasts.Spares.{here as none_added, more}

-- the new reference fits its destination
abbrev pub NewFits : Setting → ℕ → Held → History → Type 0
NewFits x to new g = AllCells x.shape g → (new.kind ≡ (declared x to).kind) × HandFits x new (declared x to).class g

-- acts that leave hand k
abbrev pub LeavesHand : ℕ → Act → Type 0
LeavesHand k a = ends_hand k a ≡ false

pub new-stable : (x : Setting) (to : ℕ) (new : Held) → Stable x.shape x.p (LeavesHand new.hand) (NewFits x to new)
new-stable x to new e g legal pass q = λ cells. let f = q cells.1 in (f.0, (f.1.0, fit-step x.shape e g legal x.p new.hand f.1.0 new.kind (declared x to).class (Some new.place) pass f.1.1))

-- a hand that comes stands where its source stood
pub comes : (x : Setting) (act : Act) (g : History) (j k i : ℕ) (kind kind' : Kind) (class : ℕ) (place : Option ℕ) → IsLegal x.shape (record { thread = x.p; act = act } ∷ g) → brings_hand act ≡ Some k → ends_hand j act ≡ false →
    brought (heap_after g) x.p act ≡ Some (record { place = i; kind = kind' }) → ((o : Object) (n : ℕ) → place ≡ Some n → place_of kind o ≡ place_of kind' o) → Fit x.p j i kind class place (heap_after g) →
    Fit x.p k i kind' class place (heap_after (record { thread = x.p; act = act } ∷ g))
comes x act g j k i kind kind' class place legal b kept br same fit =
    let e : Event = record { thread = x.p; act = act } in
    let f = fit-step x.shape e g legal x.p j i kind class place (λ mine. kept) fit in
    record { at = own_gains x.shape g e k legal b ∙ br; object = f.object; here = f.here; is_class = f.is_class; placed = λ n is. sym (same f.object n is) ∙ f.placed n is }

-- from a variable's reference, of which the place is known
pub new-from : (x : Setting) (vars : Variables) (ns : List Note) (to from k : ℕ) (held : Held) (act : Act) (kind : Kind) → Good x vars ns → value vars from ≡ Some held → brings_hand act ≡ Some k → ((j : ℕ) → ends_hand j act ≡ false) →
    ((g : History) (i : ℕ) → spot (Hand x.p held.hand) (heap_after g) ≡ Some (record { place = i; kind = held.kind }) → brought (heap_after g) x.p act ≡ Some (record { place = i; kind = kind })) →
    (held.kind ≡ (declared x from).kind → (kind ≡ (declared x to).kind) × ((o : Object) → place_of held.kind o ≡ place_of kind o)) → (declared x from).class ≡ (declared x to).class →
    AtNotes x.causes x.shape x.p x.h (Did act ∷ ns) (NewFits x to (record { hand = k; kind = kind; place = held.place }))
new-from x vars ns to from k held act kind good there b ends br kinds class =
    let new : Held = record { hand = k; kind = kind; place = held.place } in
    over-event x.causes x.shape x.p x.h (LeavesHand k) (NewFits x to new) act ns x.legal (new-stable x to new) (λ g past t cells.
    let f = (good.fits g (before past) t).1 cells.1 from held there in
    let m = kinds f.0 in
    (m.0, (f.1.0, subst (λ c. Fit x.p k f.1.0 kind c (Some held.place) (heap_after (record { thread = x.p; act = act } ∷ g))) class (comes x act g held.hand k f.1.0 held.kind kind (declared x from).class (Some held.place) (legal-past x.shape past x.legal) b (ends held.hand) (br g f.1.0 f.1.1.at) (λ o n is. m.1 o) f.1.1))))

-- ---- an object that is found

pub record FoundAt (test : Object → Bool) (os : List Object) (o : Object) : Type 0 where
  pub place : ℕ
  pub here : slice_get os place ≡ Some o
  pub passes : test o ≡ true

pub found-at : (test : Object → Bool) (os : List Object) (o : Object) → find test os ≡ Some o → FoundAt test os o
found-at test os o found =
    let place = place-put os (at_first test (λ q. q) os) o o (put-found test (λ q. q) os o found) in
    record { place = place.0; here = place.1; passes = find-passes test os o found }

number-is : (m : Option ℕ) (n : ℕ) → is_number m n ≡ true → m ≡ Some n
number-is None n h = no h
number-is (Some k) n h = ap Some (eqb-true k n h)

-- two hands of one object, of which one leads to this place
record Pair (x : Setting) (j k : ℕ) (kind kind' : Kind) (class place : ℕ) (g : History) : Type 0 where
  i : ℕ
  first : Fit x.p j i kind class (Some place) (heap_after g)
  second : Fit x.p k i kind' class None (heap_after g)

record LeavesBoth (j k : ℕ) (a : Act) : Type 0 where
  one : ends_hand j a ≡ false
  two : ends_hand k a ≡ false

abbrev PairFits : Setting → ℕ → ℕ → Kind → Kind → ℕ → ℕ → History → Type 0
PairFits x j k kind kind' class place g = AllCells x.shape g → Pair x j k kind kind' class place g

pair-stable : (x : Setting) (j k : ℕ) (kind kind' : Kind) (class place : ℕ) → Stable x.shape x.p (LeavesBoth j k) (PairFits x j k kind kind' class place)
pair-stable x j k kind kind' class place e g legal pass q = λ cells.
    let f = q cells.1 in
    record { i = f.i; first = fit-step x.shape e g legal x.p j f.i kind class (Some place) (λ mine. (pass mine).one) f.first; second = fit-step x.shape e g legal x.p k f.i kind' class None (λ mine. (pass mine).two) f.second }

-- both hands behind the event that brings the second
pair-from : (x : Setting) (vars : Variables) (ns : List Note) (from k : ℕ) (held : Held) (act : Act) (kind : Kind) → Good x vars ns → value vars from ≡ Some held → brings_hand act ≡ Some k → ((j : ℕ) → ends_hand j act ≡ false) →
    ((g : History) (i : ℕ) → spot (Hand x.p held.hand) (heap_after g) ≡ Some (record { place = i; kind = held.kind }) → brought (heap_after g) x.p act ≡ Some (record { place = i; kind = kind })) →
    AtNotes x.causes x.shape x.p x.h (Did act ∷ ns) (PairFits x held.hand k held.kind kind (declared x from).class held.place)
pair-from x vars ns from k held act kind good there b ends br =
    over-event x.causes x.shape x.p x.h (LeavesBoth held.hand k) (PairFits x held.hand k held.kind kind (declared x from).class held.place) act ns x.legal (pair-stable x held.hand k held.kind kind (declared x from).class held.place) (λ g past t cells.
    let e : Event = record { thread = x.p; act = act } in
    let legal = legal-past x.shape past x.legal in
    let f = (good.fits g (before past) t).1 cells.1 from held there in
    let fit = f.1.1 in
    let bare : Fit x.p held.hand f.1.0 held.kind (declared x from).class None (heap_after g) = record { at = fit.at; object = fit.object; here = fit.here; is_class = fit.is_class; placed = λ n is. absurd (None≢Some n is) } in
    record { i = f.1.0; first = fit-step x.shape e g legal x.p held.hand f.1.0 held.kind (declared x from).class (Some held.place) (λ mine. ends held.hand) fit; second = comes x act g held.hand k f.1.0 held.kind kind (declared x from).class None legal b (ends held.hand) (br g f.1.0 fit.at) (λ o n is. absurd (None≢Some n is)) bare })

fit-placed : (x : Setting) (k i : ℕ) (kind : Kind) (class place : ℕ) (g : History) (o : Object) → Fit x.p k i kind class None (heap_after g) → slice_get (heap_after g).objects i ≡ Some o → place_of kind o ≡ Some place → Fit x.p k i kind class (Some place) (heap_after g)
fit-placed x k i kind class place g o fit here is =
    record { at = fit.at; object = fit.object; here = fit.here; is_class = fit.is_class; placed = λ n e. ap (place_of kind) (Some-inj (sym fit.here ∙ here)) ∙ is ∙ e }

-- a weak reference that was formed leads to the entry that its object was found to have
pub weak-new : (x : Setting) (vars : Variables) (ns : List Note) (to from k entry : ℕ) (held : Held) → Good x vars ns → value vars from ≡ Some held → (declared x from).kind ≡ Strong → (declared x to).kind ≡ Weak → (declared x from).class ≡ (declared x to).class →
    AtNotes x.causes x.shape x.p x.h (Entry held.place (Some entry) ∷ Did (acts.WeakOf held.hand k) ∷ ns) (NewFits x to (record { hand = k; kind = Weak; place = entry }))
weak-new x vars ns to from k entry held good there strong weak class =
    let new : Held = record { hand = k; kind = Weak; place = entry } in
    over-fact x.causes x.shape x.p x.h (LeavesHand k) (NewFits x to new) (Entry held.place (Some entry)) (Did (acts.WeakOf held.hand k) ∷ ns) x.legal (new-stable x to new) refl (λ g past t holds cells.
    let legal = legal-past x.shape past x.legal in
    let q = pair-from x vars ns from k held (acts.WeakOf held.hand k) Weak good there refl (λ j. refl) (λ g i at. ap (in_list Weak) at) g past t cells in
    let kind : held.kind ≡ Strong = held-kind g past t cells in
    let slot : q.first.object.slot ≡ Some held.place = ap (λ l. place_of l q.first.object) (sym kind) ∙ q.first.placed held.place refl in
    let found = at-place x.shape g held.place q.i q.first.object legal q.first.here slot in
    let entered : q.first.object.entry ≡ Some entry = Some-inj (ap (option_map (λ o. o.entry)) (sym found) ∙ holds) in
    (sym weak, (q.i, subst (λ c. Fit x.p k q.i Weak c (Some entry) (heap_after g)) class (fit-placed x k q.i Weak (declared x from).class entry g q.first.object q.second q.first.here entered))))
  where
    kept : AtNotes x.causes x.shape x.p x.h (Did (acts.WeakOf held.hand k) ∷ ns) (λ g. AllCells x.shape g → held.kind ≡ Strong)
    kept = over-event x.causes x.shape x.p x.h (LeavesHand k) (λ g. AllCells x.shape g → held.kind ≡ Strong) (acts.WeakOf held.hand k) ns x.legal (λ e g legal pass q cells. q cells.1) (λ g past t cells. ((good.fits g (before past) t).1 cells.1 from held there).0 ∙ strong)

    held-kind : (g : History) → Past x.h g → Ties x.causes x.shape x.p (Did (acts.WeakOf held.hand k) ∷ ns) g → AllCells x.shape g → held.kind ≡ Strong
    held-kind g past t cells = kept g past t cells

-- a strong reference that was loaded from a weak one leads to the slot of the object that was found to have the entry
pub weak-loaded : (x : Setting) (vars : Variables) (ns : List Note) (to from k slot : ℕ) (name : ObjectName) (held : Held) → Good x vars ns → value vars from ≡ Some held → held.kind ≡ Weak → (declared x to).kind ≡ Strong → (declared x from).class ≡ (declared x to).class →
    AtNotes x.causes x.shape x.p x.h (Name slot name ∷ Entry slot (Some held.place) ∷ Did (acts.Load held.hand (gots.Hand k)) ∷ ns) (NewFits x to (record { hand = k; kind = Strong; place = slot }))
weak-loaded x vars ns to from k slot name held good there weak strong class =
    let new : Held = record { hand = k; kind = Strong; place = slot } in
    along x.causes x.shape x.p x.h (LeavesHand k) (NewFits x to new) x.legal (new-stable x to new) (more none_added tt) (
    over-fact x.causes x.shape x.p x.h (LeavesHand k) (NewFits x to new) (Entry slot (Some held.place)) (Did (acts.Load held.hand (gots.Hand k)) ∷ ns) x.legal (new-stable x to new) refl (λ g past t holds cells.
    let legal = legal-past x.shape past x.legal in
    let q = pair-from x vars ns from k held (acts.Load held.hand (gots.Hand k)) Strong good there refl (λ j. refl) (λ g i at. ap (in_list Strong) at) g past t cells in
    let entered : q.first.object.entry ≡ Some held.place = ap (λ l. place_of l q.first.object) (sym weak) ∙ q.first.placed held.place refl in
    let r = entry-found (at_slot slot (heap_after g)) holds in
    let at = found-at (in_slot slot) (heap_after g).objects r.0 r.1 in
    let ones = (well_formed x.shape g legal).entries held.place in
    let a = find-only (has_entry held.place) (heap_after g).objects q.i q.first.object (let b = ones in omega arith) q.first.here (ap (λ m. is_number m held.place) entered ∙ eq-eqb held.place held.place refl) in
    let b = find-only (has_entry held.place) (heap_after g).objects at.place r.0 (let b = ones in omega arith) at.here (ap (λ m. is_number m held.place) r.2 ∙ eq-eqb held.place held.place refl) in
    let same : r.0 ≡ q.first.object = Some-inj (sym b ∙ a) in
    let slotted : q.first.object.slot ≡ Some slot = ap (λ (o : Object). o.slot) (sym same) ∙ number-is r.0.slot slot at.passes in
    (sym strong, (q.i, subst (λ c. Fit x.p k q.i Strong c (Some slot) (heap_after g)) class (fit-placed x k q.i Strong (declared x from).class slot g q.first.object q.second q.first.here slotted)))))
  where
    entry-found : (m : Option Object) → option_map (λ (o : Object). o.entry) m ≡ Some (Some held.place) → (o : Object) × (m ≡ Some o) × (o.entry ≡ Some held.place)
    entry-found None e = absurd (None≢Some (Some held.place) e)
    entry-found (Some o) e = (o, refl, Some-inj e)

-- ---- what was made

end-get : (os : List Object) (o : Object) → slice_get (os ++ o ∷ []) (length os) ≡ Some o
end-get [] o = refl
end-get (r ∷ os) o = end-get os o

pub made-new : (x : Setting) (ns : List Note) (to k class slot : ℕ) → declared x to ≡ record { kind = Strong; class = class } → AtNotes x.causes x.shape x.p x.h (Did (acts.New k class slot) ∷ ns) (NewFits x to (record { hand = k; kind = Strong; place = slot }))
made-new x ns to k class slot is =
    let new : Held = record { hand = k; kind = Strong; place = slot } in
    let act = acts.New k class slot in
    over-event x.causes x.shape x.p x.h (LeavesHand k) (NewFits x to new) act ns x.legal (new-stable x to new) (λ g past t cells.
    let e : Event = record { thread = x.p; act = act } in
    (ap (λ (r : RefShape). r.kind) (sym is), (length (heap_after g).objects, record { at = own_gains x.shape g e k (legal-past x.shape past x.legal) refl; object = made x.p k class slot (heap_after g).objects; here = end-get (heap_after g).objects (made x.p k class slot (heap_after g).objects); is_class = ap (λ (r : RefShape). r.class) (sym is); placed = λ n e. e })))

-- ---- what came out of a cell

-- the number of a thread's next hand never falls
next-grows : (p : ℕ) (e : Event) (g : History) → next_hand p g ≤ next_hand p (e ∷ g)
next-grows p e g = let a = next-step p e g in let b = advance-grows (brings e.act) e.thread (λ q. next_hand q g) p in omega arith

and-right : (a b : Bool) → b ≡ false → (a && b) ≡ false
and-right true b h = h
and-right false b h = refl

-- what a hand that came referred to when it came
hands-past : (shape : HeapShape) (p : ℕ) (h : History) {g : History} → Past h g → IsLegal shape h → (k : ℕ) → k < next_hand p g → hands_in p h k ≡ hands_in p g k
hands-past shape p h now legal k l = refl
hands-past shape p h (before {e = e} {g = g} past) legal k l =
    let grows = next-grows p e g in
    hands-past shape p h past legal k (omega arith) ∙ ap (λ b. cond b (reference_of (Hand p k) (heap_after (e ∷ g))) (hands_in p g k)) (later (is_of p e) refl)
  where
    number : e.thread ≡ p → (m : Option ℕ) → brings_hand e.act ≡ m → is_number m k ≡ false
    number mine None b = refl
    number mine (Some n) b =
        let a = brings_next shape (sight e.thread g) e.thread e.act n (legal-past shape past legal).0 b in
        let c : next_hand e.thread g ≡ next_hand p g = ap (λ q. next_hand q g) mine in
        ne_eqb n k (λ same. omega (arith, a, c, same, l))

    later : (b : Bool) → is_of p e ≡ b → brings_it p k e ≡ false
    later false x = ap (λ b. b && is_number (brings_hand e.act) k) x
    later true x = and-right (is_of p e) (is_number (brings_hand e.act) k) (number (eqb-true e.thread p x) (brings_hand e.act) refl)

-- a hand's reference right behind the event that brings it
came-here : (x : Setting) (act : Act) (g : History) (k : ℕ) → Past x.h (record { thread = x.p; act = act } ∷ g) → brings_hand act ≡ Some k → brings act ≡ true → hands_in x.p x.h k ≡ reference_of (Hand x.p k) (heap_after (record { thread = x.p; act = act } ∷ g))
came-here x act g k past b one =
    let e : Event = record { thread = x.p; act = act } in
    let legal = legal-past x.shape past x.legal in
    let a = brings_next x.shape (sight x.p g) x.p act k legal.0 b in
    let n = next-own e g in
    let c : one_if (brings act) ≡ 1 = ap one_if one in
    hands-past x.shape x.p x.h past x.legal k (omega (arith, a, n, c)) ∙ ap (λ t. cond t (reference_of (Hand x.p k) (heap_after (e ∷ g))) (hands_in x.p g k)) (mine (eq-eqb x.p x.p refl))
  where
    mine : (x.p == x.p) ≡ true → ((x.p == x.p) && is_number (brings_hand act) k) ≡ true
    mine h = ap (λ t. t && is_number (brings_hand act) k) h ∙ ap (λ m. is_number m k) b ∙ eq-eqb k k refl

-- what stands at a spot
spot-kind : (z : Holder) (os : List Object) (s : Spot) → spot_in z os ≡ Some s → (o : Object) × (find (holds z) os ≡ Some o) × (kind_in z o ≡ s.kind)
spot-kind z [] s h = absurd (None≢Some s h)
spot-kind z (r ∷ os) s h = go (holds z r) h (spot_in z os) refl (spot-kind z os)
  where
    go : (b : Bool) → cond b (Some (record { place = zero; kind = kind_in z r })) (further (spot_in z os)) ≡ Some s → (m : Option Spot) → spot_in z os ≡ m → ((t : Spot) → spot_in z os ≡ Some t → (o : Object) × (find (holds z) os ≡ Some o) × (kind_in z o ≡ t.kind)) → (o : Object) × (cond b (Some r) (find (holds z) os) ≡ Some o) × (kind_in z o ≡ s.kind)
    go true h m is ih = (r, refl, ap (λ (t : Spot). t.kind) (Some-inj h))
    go false h None is ih = absurd (None≢Some s (sym (ap further is) ∙ h))
    go false h (Some t) is ih = let g = ih t is in (g.0, g.1, g.2 ∙ ap (λ (u : Spot). u.kind) (Some-inj (sym (ap further is) ∙ h)))

-- where a reference stands
record Referring (z : Holder) (kind : Kind) (place : ℕ) (heap : Heap) : Type 0 where
  i : ℕ
  object : Object
  at : spot z heap ≡ Some (record { place = i; kind = kind })
  here : slice_get heap.objects i ≡ Some object
  leads : place_of kind object ≡ Some place

refers-to : (k kind : Kind) (place : ℕ) (m : Option ℕ) → reference_to k m ≡ Some (record { kind = kind; place = place }) → (k ≡ kind) × (m ≡ Some place)
refers-to k kind place None e = absurd (None≢Some (record { kind = kind; place = place }) e)
refers-to k kind place (Some n) e = (ap (λ (r : Reference). r.kind) (Some-inj e), ap (λ (r : Reference). Some r.place) (Some-inj e))

referring : (shape : HeapShape) (g : History) (z : Holder) (kind : Kind) (place : ℕ) → IsLegal shape g → is_own z ≡ true → reference_of z (heap_after g) ≡ Some (record { kind = kind; place = place }) → Referring z kind place (heap_after g)
referring shape g z kind place legal own is = go (spot z (heap_after g)) refl
  where
    go : (m : Option Spot) → spot z (heap_after g) ≡ m → Referring z kind place (heap_after g)
    go None e = absurd (None≢Some (record { kind = kind; place = place }) (ap (reference_in z) (sym ((lookup_after shape g z legal own).nowhere e)) ∙ is))
    go (Some s) e =
        let l = (lookup_after shape g z legal own).there s e in
        let k = spot-kind z (heap_after g).objects s e in
        let same : k.0 ≡ l.0 = Some-inj (sym k.1 ∙ l.2) in
        let r = refers-to (kind_in z l.0) kind place (place_of (kind_in z l.0) l.0) (ap (reference_in z) (sym l.2) ∙ is) in
        let kinds : s.kind ≡ kind = sym k.2 ∙ ap (kind_in z) same ∙ r.0 in
        record { i = s.place; object = l.0; at = e ∙ ap (λ c. Some (record { place = s.place; kind = c })) kinds; here = l.1; leads = ap (λ c. place_of c l.0) (sym r.0) ∙ r.1 }

-- what a cell refers to is as the shape says
kind-same : (m : Option RefShape) (k : Kind) (r : RefShape) → m ≡ Some r → is_kind k m ≡ true → k ≡ r.kind
kind-same None k r e h = absurd (None≢Some r e)
kind-same (Some t) k r e h = sym (go t.kind k h) ∙ ap (λ (u : RefShape). u.kind) (Some-inj e)
  where
    go : (a b : Kind) → same_kind a b ≡ true → a ≡ b
    go Strong Strong h = refl
    go Unowned Unowned h = refl
    go Weak Weak h = refl
    go _ _ h = no h

cell-facts : (shape : HeapShape) (g : History) (name : CellName) (r : RefShape) (i : ℕ) (kind : Kind) (o : Object) → IsLegal shape g → CellsKeepClasses shape (heap_after g) → cell_shape shape (heap_after g) name ≡ Some r →
    spot (cell (heap_after g) name) (heap_after g) ≡ Some (record { place = i; kind = kind }) → slice_get (heap_after g).objects i ≡ Some o → (o.class ≡ r.class) × (kind ≡ r.kind)
cell-facts shape g (cells.Global n) r i kind o legal keep shaped at here =
    (keep.globals n r (record { place = i; kind = kind }) o shaped at here, kind-same (slice_get shape.globals n) kind r shaped ((cell_kinds_after shape g legal).globals n (record { place = i; kind = kind }) at))
cell-facts shape g (cells.Field t f) r i kind o legal keep shaped at here = go (at_slot t (heap_after g)) refl shaped
  where
    go : (m : Option Object) → at_slot t (heap_after g) ≡ m → field_shape shape f m ≡ Some r → (o.class ≡ r.class) × (kind ≡ r.kind)
    go None e shaped = absurd (None≢Some r shaped)
    go (Some owner) e shaped =
        let w = found-at (in_slot t) (heap_after g).objects owner e in
        let s : Spot = record { place = i; kind = kind } in
        let there : spot (Field owner.id f) (heap_after g) ≡ Some s = ap (λ q. spot (Field (id_of q) f) (heap_after g)) (sym e) ∙ at in
        (keep.fields w.place owner f r s o w.here shaped there here, kind-same (field_shape shape f (Some owner)) kind r shaped ((cell_kinds_after shape g legal).fields w.place owner f s w.here there))

-- a reference that was copied out of a cell
pub got-new : (x : Setting) (vars : Variables) (ns : List Note) (to k place : ℕ) (kind : Kind) (c : OpCell) (name : CellName) → Good x vars ns → hands_in x.p x.h k ≡ Some (record { kind = kind; place = place }) → cell_of vars c ≡ Some name → valid.IsCell x.classes x.globals x.decls c →
    declared x to ≡ valid.cell_ref x.classes x.globals x.decls c → AtNotes x.causes x.shape x.p x.h (Did (acts.Copy (origins.Cell name) k) ∷ ns) (NewFits x to (record { hand = k; kind = kind; place = place }))
got-new x vars ns to k place kind c name good came named is class =
    let new : Held = record { hand = k; kind = kind; place = place } in
    let act = acts.Copy (origins.Cell name) k in
    over-event x.causes x.shape x.p x.h (LeavesHand k) (NewFits x to new) act ns x.legal (new-stable x to new) (λ g past t cells.
    let e : Event = record { thread = x.p; act = act } in
    let legal = legal-past x.shape past x.legal in
    let r = referring x.shape (e ∷ g) (Hand x.p k) kind place legal refl (sym (came-here x act g k past refl refl) ∙ came) in
    let was : spot (cell (heap_after g) name) (heap_after g) ≡ Some (record { place = r.i; kind = kind }) = sym (own_gains x.shape g e k legal refl) ∙ r.at in
    let l = (lookup_after x.shape g (cell (heap_after g) name) legal.1 (own-cell (heap_after g) name)).there (record { place = r.i; kind = kind }) was in
    let s = step_after x.shape e g legal r.i l.0 l.1 in
    let facts = cell-facts x.shape g name (valid.cell_ref x.classes x.globals x.decls c) r.i kind l.0 legal.1 (cells-now x.shape g cells.1) (cell-declared x vars g c name legal.1 ((good.fits g (before past) t).1 cells.1) is named) was l.1 in
    let same : r.object ≡ s.q = Some-inj (sym r.here ∙ s.here) in
    (facts.1 ∙ ap (λ (q : RefShape). q.kind) (sym class), (r.i, record { at = r.at; object = r.object; here = r.here; is_class = ap (λ (o : Object). o.class) same ∙ s.class ∙ facts.0 ∙ ap (λ (q : RefShape). q.class) (sym class); placed = λ n eq. r.leads ∙ eq })))
