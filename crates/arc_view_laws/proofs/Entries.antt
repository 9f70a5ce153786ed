-- No event but Side gives an object an entry, and none gives one to an object whose vacating is owed.
use Rattle.std.proofs.Common.{◌≡◌, ℕ, zero, suc, ◌≤◌, ◌==◌, Bool, true, false, cond, List, [], ◌∷◌, ◌++◌, length, Option, Some, None, refl, sym, ap, ◌∙◌, subst, arith, ne_eqb}
use Rattle.std.specs.Prelude.{slice_get, ◌+◌, ◌&&◌, not}
use Rattle.arc_model.specs.declared.event.Act.{Act}
use Rattle.arc_model.specs.declared.event.Act.TheVariants as acts
use Rattle.arc_model.specs.declared.event.Got.TheVariants as got
use Rattle.arc_model.specs.declared.event.CellName.TheVariants as cells
use Rattle.arc_model.specs.declared.event.Event.{Event}
use Rattle.arc_model.specs.declared.shape.Kind.{Kind}
use Rattle.arc_model.specs.declared.shape.Kind.TheVariants.{Strong, Unowned, Weak}
use Rattle.arc_model.specs.Shapes.{HeapShape}
use Rattle.arc_model.specs.Heaps.{Holder, Hand, Strongs, Unowneds, Duty, Vacating, Object, Heap}
use Rattle.arc_model.specs.Holders.{is_empty, at_first, holds, kind_in, in_slot, has_entry, held_by, lists, gains, with_list, with_last, without, renamed, change}
use Rattle.arc_model.specs.Cells.{cell, origin, strong_holders}
use Rattle.arc_model.specs.Effects.{effect, made, ended_if, given_up, entry_left, finished, left_slot, vacated, owing_none, gone, put_in, taken_out}
use Rattle.arc_model.specs.Needs.{first_failing, needs, passes, is_at_cap}
use Rattle.arc_model.specs.History.{History, heap_after, sight, share, IsLegal}
use Rattle.arc_model.specs.Lookup.{duty_of}
use Rattle.arc_model.proofs.Basics.{None≢Some, Some-inj, true≢false, empty-is, met}
use Rattle.arc_model.proofs.Builds.{entry_to-objects}
use Rattle.arc_model.proofs.Courses.{well_formed}
use Rattle.arc_model.proofs.Keeps.{end-at}
use Rattle.arc_model.proofs.Stages.{vacating-facts}
use Rattle.arc_model.proofs.Others.{others_leave, not-among}
use Rattle.arc_view.specs.Holding.{At}
use Rattle.arc_view.proofs.Put.{is_number_some}
use Rattle.arc_view.proofs.Within.{claimed_if_objects}
use Rattle.arc_view.proofs.Strongs.{slot_found}
use Rattle.arc_view.proofs.Held.{stays_after}
use Rattle.arc_view.proofs.Owed.{owed_stays, owed_weak, duty_parts}

-- the i-th object has no entry
abbrev Bare : List Object → ℕ → Type 0
Bare os i = (o : Object) × (slice_get os i ≡ Some o) × (o.entry ≡ None)

-- an object without an entry has none after a change at the first that passes, where the change gives none
bare_first : (test : Object → Bool) (f : Object → Object) (os : List Object) (i : ℕ) → ((o : Object) → slice_get os i ≡ Some o → test o ≡ true → o.entry ≡ None → (f o).entry ≡ None) → Bare os i → Bare (at_first test f os) i
bare_first test f [] i keep (o, here, none) = absurd (None≢Some o here)
bare_first test f (r ∷ os) zero keep (o, here, none) = go (test r) refl
  where
    go : (b : Bool) → test r ≡ b → Bare (cond b (f r ∷ os) (r ∷ at_first test f os)) zero
    go true is = (f r, refl, keep r refl is (ap (λ (x : Object). x.entry) (Some-inj here) ∙ none))
    go false is = (o, here, none)
bare_first test f (r ∷ os) (suc i) keep (o, here, none) = go (test r) (bare_first test f os i keep (o, here, none))
  where
    go : (b : Bool) → Bare (at_first test f os) i → Bare (cond b (f r ∷ os) (r ∷ at_first test f os)) (suc i)
    go true ih = (o, here, none)
    go false ih = ih

bare_always : (test : Object → Bool) (f : Object → Object) (os : List Object) (i : ℕ) → ((o : Object) → o.entry ≡ None → (f o).entry ≡ None) → Bare os i → Bare (at_first test f os) i
bare_always test f os i keep = bare_first test f os i (λ o _ _. keep o)

listed_bare : (k : Kind) (f : List Holder → List Holder) (o : Object) → o.entry ≡ None → (with_list k f o).entry ≡ None
listed_bare Strong f o e = e
listed_bare Unowned f o e = e
listed_bare Weak f o e = e

ended_bare : (last : Bool) (p : ℕ) (k : Kind) (o : Object) → o.entry ≡ None → (ended_if last p k o).entry ≡ None
ended_bare true p Strong o e = e
ended_bare true p Unowned o e = e
ended_bare true p Weak o e = refl
ended_bare false p k o e = e

left_bare : (p : ℕ) (m : Option ℕ) (o : Object) → o.entry ≡ None → (left_slot p m o).entry ≡ None
left_bare p None o e = e
left_bare p (Some n) o e = e

bare_is : (os rest : List Object) (i : ℕ) → rest ≡ os → Bare os i → Bare rest i
bare_is os rest i same b = subst (λ l. Bare l i) (sym same) b

-- an act that isn't a Side of the object's slot
bare_after : (p : ℕ) (act : Act) (heap : Heap) (i : ℕ) → ((s n : ℕ) (why : Kind) (o : Object) → act ≡ acts.Side s n why → At heap i o → in_slot s o ≡ true → ⊥) → Bare heap.objects i → Bare (effect p act heap).objects i
bare_after p (acts.New k c s) heap i no_side (o, here, none) = (o, end-at heap.objects (made p k c s heap.objects) i o here, none)
bare_after p acts.Full heap i no_side b = b
bare_after p (acts.Copy from k) heap i no_side b = bare_always (holds (origin heap p from)) (lists (gains (origin heap p from) (Hand p k))) heap.objects i (λ o e. e) b
bare_after p (acts.UnownedOf h k) heap i no_side b = bare_always (holds (Hand p h)) (with_list Unowned (with_last (Hand p k))) heap.objects i (λ o e. e) b
bare_after p (acts.WeakOf h k) heap i no_side b = bare_always (holds (Hand p h)) (with_list Weak (with_last (Hand p k))) heap.objects i (λ o e. e) b
bare_after p (acts.Load h (got.Hand k)) heap i no_side b = bare_always (holds (Hand p h)) (with_list Strong (with_last (Hand p k))) heap.objects i (λ o e. e) b
bare_after p (acts.Load h got.Dead) heap i no_side b = b
bare_after p (acts.Load h got.Nil) heap i no_side b = b
bare_after p (acts.Drop h last) heap i no_side b =
    bare_is (at_first (holds (Hand p h)) (given_up p (Hand p h) last) heap.objects) (effect p (acts.Drop h last) heap).objects i
    (entry_to-objects p (entry_left (Hand p h) last (held_by (Hand p h) heap)) (change (holds (Hand p h)) (given_up p (Hand p h) last) heap))
    (bare_always (holds (Hand p h)) (given_up p (Hand p h) last) heap.objects i (λ o e. ended_bare last p (kind_in (Hand p h) o) (with_list (kind_in (Hand p h) o) (without (Hand p h)) o) (listed_bare (kind_in (Hand p h) o) (without (Hand p h)) o e)) b)
bare_after p (acts.CountFull k from) heap i no_side b = b
bare_after p (acts.Claim n) heap i no_side b = b
bare_after p acts.NoEntry heap i no_side b = b
bare_after p (acts.Side s n why) heap i no_side b = bare_first (in_slot s) (λ o. record o { entry = Some n }) heap.objects i (λ o here passing _. absurd (no_side s n why o refl here passing)) b
bare_after p (acts.Back n) heap i no_side b = b
bare_after p (acts.Swap c h k) heap i no_side b = putting h (taken_out (cell heap c) p k heap) (taking k)
  where
    putting : (h : Option ℕ) (mid : Heap) → Bare mid.objects i → Bare (put_in (cell heap c) p h mid).objects i
    putting None mid b = b
    putting (Some n) mid b = bare_always (holds (Hand p n)) (lists (renamed (Hand p n) (cell heap c))) mid.objects i (λ o e. e) b

    taking : (k : Option ℕ) → Bare (taken_out (cell heap c) p k heap).objects i
    taking None = b
    taking (Some n) = bare_always (holds (cell heap c)) (lists (renamed (cell heap c) (Hand p n))) heap.objects i (λ o e. e) b
bare_after p (acts.Look c) heap i no_side b = b
bare_after p (acts.Take s f k) heap i no_side b = bare_always (holds (cell heap (cells.Field s f))) (lists (renamed (cell heap (cells.Field s f)) (Hand p k))) heap.objects i (λ o e. e) b
bare_after p (acts.Finish s last) heap i no_side b = bare_always (in_slot s) (finished p last) heap.objects i (λ o e. ended_bare last p Unowned (owing_none (with_list Unowned (without Strongs) o)) e) b
bare_after p (acts.Vacate s) heap i no_side b = bare_always (in_slot s) (vacated p) heap.objects i (λ o e. left_bare p o.entry (owing_none (record o { slot = None })) e) b
bare_after p (acts.Gone n last) heap i no_side b =
    bare_is (at_first (has_entry n) (gone p last) heap.objects) (effect p (acts.Gone n last) heap).objects i (claimed_if_objects last p n (change (has_entry n) (gone p last) heap))
    (bare_always (has_entry n) (gone p last) heap.objects i (λ o e. ended_bare last p Weak (owing_none (with_list Weak (without Unowneds) o)) e) b)

-- the same of what is found there
pub none_after : (p : ℕ) (act : Act) (heap : Heap) (i : ℕ) (o q : Object) → ((s n : ℕ) (why : Kind) (o : Object) → act ≡ acts.Side s n why → At heap i o → in_slot s o ≡ true → ⊥) → At heap i o → o.entry ≡ None → At (effect p act heap) i q → q.entry ≡ None
none_after p act heap i o q no_side here none there = let b = bare_after p act heap i no_side (o, here, none) in ap (λ (x : Object). x.entry) (Some-inj (sym there ∙ b.1)) ∙ b.2

-- a Side needs a list at its capped, of an object that is live or has an unowned reference
capless : (shape : HeapShape) (why : Kind) (o : Object) → 1 ≤ shape.caps.unowned → is_empty (strong_holders shape o) ≡ true → is_empty o.unowned ≡ true → is_at_cap shape why o ≡ true → ⊥
capless shape Strong o capped s u e = true≢false (sym e ∙ ap (λ (b : Bool). not b && length o.strong == shape.caps.strong + 1) s)
capless shape Unowned o capped s u e = true≢false (sym e ∙ (ap (λ xs. length xs == shape.caps.unowned) (empty-is o.unowned u) ∙ ne_eqb 0 shape.caps.unowned (λ z. omega (arith, z, capped))))
capless shape Weak o capped s u e = true≢false (sym e ∙ ap not s)

pub no_side_of : (shape : HeapShape) (e : Event) (h : History) (p i : ℕ) (d : Object) → IsLegal shape (e ∷ h) → 1 ≤ shape.caps.unowned → At (heap_after h) i d → duty_of p i (heap_after h) ≡ Some Vacating
    → (s n : ℕ) (why : Kind) (o : Object) → e.act ≡ acts.Side s n why → At (heap_after h) i o → in_slot s o ≡ true → ⊥
no_side_of shape e h p i d legal capped at duty s n why o is here passing =
    let ns = met (needs shape (sight e.thread h) e.thread (acts.Side s n why)) (ap (λ a. first_failing (needs shape (sight e.thread h) e.thread a)) (sym is) ∙ legal.0) in
    let f = vacating-facts o ((well_formed shape h legal.1).whole i o here) (duty_parts h p i Vacating o here duty).1 in
    capless shape why o capped f.strong f.unowned (ap (passes (is_at_cap shape why)) (sym (slot_found shape h i s o legal.1 here (is_number_some o.slot s passing))) ∙ ns.1.1.1.0)

-- while a thread owes an object's vacating, other threads' events give it no entry
pub none_stays : (shape : HeapShape) (p i : ℕ) (o q : Object) (before after : History) → 1 ≤ shape.caps.unowned → IsLegal shape (after ++ before) → share after p ≡ [] → At (heap_after before) i o → duty_of p i (heap_after before) ≡ Some Vacating → o.entry ≡ None → At (heap_after (after ++ before)) i q → q.entry ≡ None
none_stays shape p i o q before [] capped legal none here duty bare there = ap (λ (x : Object). x.entry) (Some-inj (sym there ∙ here)) ∙ bare
none_stays shape p i o q before (e ∷ after) capped legal none here duty bare there =
    let apart = not-among p e after none in
    let mid = owed_stays shape p i Vacating o before after legal.1 apart.1 here duty in
    let owed = (others_leave shape p before after legal.1 apart.1).duties i ∙ duty in
    let ih = none_stays shape p i o mid.q before after capped legal.1 apart.1 here duty bare mid.here in
    none_after e.thread e.act (heap_after (after ++ before)) i mid.q q (no_side_of shape e (after ++ before) p i mid.q legal capped mid.here owed) mid.here ih there

-- after an event that isn't a Side of its slot, an object to which something is owed has the entry that it had, or none
pub entry_kept : (shape : HeapShape) (e : Event) (h : History) (p i : ℕ) (d : Duty) (o q : Object) → IsLegal shape (e ∷ h) → ((s n : ℕ) (why : Kind) (r : Object) → e.act ≡ acts.Side s n why → At (heap_after h) i r → in_slot s r ≡ true → ⊥)
    → At (heap_after h) i o → At (heap_after (e ∷ h)) i q → duty_of p i (heap_after (e ∷ h)) ≡ Some d → (m : Option ℕ) → o.entry ≡ m → q.entry ≡ m
entry_kept shape e h p i d o q legal no_side here there duty None none = none_after e.thread e.act (heap_after h) i o q no_side here none there
entry_kept shape e h p i d o q legal no_side here there duty (Some n) some =
    let s = stays_after shape e h legal i o here in
    let same : s.q ≡ q = Some-inj (sym s.here ∙ there) in
    let weak = owed_weak d q ((well_formed shape (e ∷ h) legal).whole i q there) (duty_parts (e ∷ h) p i d q there duty).1 in
    ap (λ (x : Object). x.entry) (sym same) ∙ s.entry n (ap (λ (x : Object). is_empty x.weak) same ∙ weak) some
