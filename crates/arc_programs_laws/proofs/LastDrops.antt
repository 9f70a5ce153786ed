-- An event empties an object's strong list exactly where it is the drop of the last strong reference.
use Rattle.std.proofs.Common.{◌≡◌, ℕ, Bool, true, false, cond, List, [], ◌∷◌, ◌++◌, length, Option, Some, None, refl, sym, ap, ◌∙◌}
use Rattle.std.specs.Prelude.{◌||◌, slice_get}
use Rattle.arc_model.specs.declared.event.Act.{Act}
use Rattle.arc_model.specs.declared.event.Act.TheVariants as acts
use Rattle.arc_model.specs.declared.shape.Kind.TheVariants.{Strong, Unowned, Weak}
use Rattle.arc_model.specs.Shapes.{HeapShape}
use Rattle.arc_model.specs.Effects.{effect, ended_if, given_up, entry_left}
use Rattle.arc_model.specs.Heaps.{Holder, Hand, Object, Heap}
use Rattle.arc_model.specs.Holders.{is_in, is_alone, is_empty, without, with_list, same_holder, holds, held_by, at_first}
use Rattle.arc_model.specs.Cells.{forever_if, holders_of, holders_with, is_immortal, strong_holders}
use Rattle.arc_model.specs.History.{History, heap_after, sight, IsLegal}
use Rattle.arc_model.specs.Laws.{strong_in, strong_list, Empties}
use Rattle.arc_model.specs.Needs.{first_failing, needs, passes, same_bool}
use Rattle.arc_model.proofs.Basics.{met, at_found, in-strong, alone-without, empty-is}
use Rattle.arc_model.proofs.Builds.{some-is, entry_to-objects}
use Rattle.arc_model.proofs.Ends.{ends_once}
use Rattle.arc_model.proofs.Others.{lookup_after}
use Rattle.arc_model.proofs.Tally.{no, clash}
use Rattle.arc_model.proofs.Turns.{put-found}
use Rattle.arc_programs_laws.specs.Deinits.{drops_last_strong, LastDropsEmpty}

-- ---- such a drop empties a list

record LastStrongDrop (p : ℕ) (act : Act) (heap : Heap) : Type 0 where
  hand : ℕ
  is : act ≡ acts.Drop hand true
  strong : passes (λ o. is_in (Hand p hand) o.strong) (held_by (Hand p hand) heap) ≡ true

drop-of : (p : ℕ) (act : Act) (heap : Heap) → drops_last_strong p act heap ≡ true → LastStrongDrop p act heap
drop-of p (acts.Drop k true) heap d = record { hand = k; is = refl; strong = d }
drop-of p _ heap d = no d

at-middle : (before after : List Object) (o : Object) → slice_get (before ++ o ∷ after) (length before) ≡ Some o
at-middle [] after o = refl
at-middle (b ∷ before) after o = at-middle before after o

-- a holder that is alone in its list and the one that an immortal object has leaves that list empty
alone-stored : (shape : HeapShape) (o : Object) → is_alone (strong_holders shape o) ≡ true → (x : Holder) → is_in x o.strong ≡ true → is_alone o.strong ≡ true × (is_immortal shape o ≡ false)
alone-stored shape o alone x held = go o.strong (is_immortal shape o) held alone
  where
    go : (xs : List Holder) (b : Bool) → is_in x xs ≡ true → is_alone (xs ++ forever_if b) ≡ true → is_alone xs ≡ true × (b ≡ false)
    go [] b held alone = no held
    go (y ∷ []) true held alone = no alone
    go (y ∷ []) false held alone = (refl, refl)
    go (y ∷ z ∷ xs) b held alone = no alone

-- the one strong holder goes
emptied-list : (shape : HeapShape) (p k : ℕ) (o : Object) → is_in (Hand p k) o.strong ≡ true → is_alone (holders_with shape (Hand p k) o) ≡ true → strong_holders shape (given_up p (Hand p k) true o) ≡ []
emptied-list shape p k o held alone = go (is_in (Hand p k) o.strong) (is_in (Hand p k) o.unowned) held alone
  where
    go : (s u : Bool) → s ≡ true → is_alone (holders_of shape (cond s Strong (cond u Unowned Weak)) o) ≡ true →
        strong_holders shape (ended_if true p (cond s Strong (cond u Unowned Weak)) (with_list (cond s Strong (cond u Unowned Weak)) (without (Hand p k)) o)) ≡ []
    go true u is alone =
        let a = alone-stored shape o alone (Hand p k) held in
        ap (λ xs. xs ++ forever_if (is_immortal shape o)) (empty-is (without (Hand p k) o.strong) (alone-without (Hand p k) o.strong held a.0)) ∙ ap forever_if a.1
    go false u is alone = no is

empties : (shape : HeapShape) (p k : ℕ) (h : History) → IsLegal shape (record { thread = p; act = acts.Drop k true } ∷ h) → passes (λ o. is_in (Hand p k) o.strong) (held_by (Hand p k) (heap_after h)) ≡ true →
    (i : ℕ) × Empties shape i h (record { thread = p; act = acts.Drop k true })
empties shape p k h legal strong =
    let heap = heap_after h in
    let x : Holder = Hand p k in
    let m = met (needs shape (sight p h) p (acts.Drop k true)) legal.0 in
    let r = some-is (held_by x heap) m.0 in
    let held = at_found (λ o. is_in x o.strong) (held_by x heap) r.0 r.1 strong in
    let alone = at_found (λ o. same_bool true (is_alone (holders_with shape x o))) (held_by x heap) r.0 r.1 m.1.0 in
    let after = at_first (holds x) (given_up p x true) heap.objects in
    let put = put-found (holds x) (given_up p x true) heap.objects r.0 r.1 in
    let i = length put.before in
    let was : slice_get heap.objects i ≡ Some r.0 = ap (λ os. slice_get os i) put.old ∙ at-middle put.before put.after r.0 in
    let new : Heap = record heap { objects = after } in
    let is : slice_get (effect p (acts.Drop k true) heap).objects i ≡ Some (given_up p x true r.0) =
    ap (λ os. slice_get os i) (entry_to-objects p (entry_left x true (held_by x heap)) new ∙ put.new) ∙ at-middle put.before put.after (given_up p x true r.0) in
    (i, (λ none. clash (is_empty (strong_holders shape r.0)) (ap is_empty (sym (ap (strong_in shape) was) ∙ none)) (in-strong shape x r.0 held), ap (strong_in shape) is ∙ emptied-list shape p k r.0 held alone))

-- ---- and nothing else does

-- a hand among the strong holders is stored
hand-stored : (shape : HeapShape) (p k : ℕ) (o : Object) → is_in (Hand p k) (strong_holders shape o) ≡ true → is_in (Hand p k) o.strong ≡ true
hand-stored shape p k o held = go o.strong (is_immortal shape o) held
  where
    go : (xs : List Holder) (b : Bool) → is_in (Hand p k) (xs ++ forever_if b) ≡ true → is_in (Hand p k) xs ≡ true
    go [] true held = no held
    go [] false held = no held
    go (y ∷ xs) b held = either (same_holder (Hand p k) y) held (go xs b)
      where
        either : (c : Bool) → (c || is_in (Hand p k) (xs ++ forever_if b)) ≡ true → (is_in (Hand p k) (xs ++ forever_if b) ≡ true → is_in (Hand p k) xs ≡ true) → (c || is_in (Hand p k) xs) ≡ true
        either true held rest = refl
        either false held rest = rest held

held-strong : (shape : HeapShape) (p k i : ℕ) (h : History) → IsLegal shape h → is_in (Hand p k) (strong_list shape i (heap_after h)) ≡ true → passes (λ o. is_in (Hand p k) o.strong) (held_by (Hand p k) (heap_after h)) ≡ true
held-strong shape p k i h legal held = go (slice_get (heap_after h).objects i) refl held
  where
    go : (m : Option Object) → slice_get (heap_after h).objects i ≡ m → is_in (Hand p k) (strong_in shape m) ≡ true → passes (λ o. is_in (Hand p k) o.strong) (held_by (Hand p k) (heap_after h)) ≡ true
    go None here held = no held
    go (Some o) here held =
        let l = lookup_after shape h (Hand p k) legal refl in
        let t = l.there (record { place = i; kind = Strong }) (l.only i o Strong here (hand-stored shape p k o held)) in
        ap (passes (λ o. is_in (Hand p k) o.strong)) t.2 ∙ t.3

pub last_drops_empty : LastDropsEmpty
last_drops_empty shape before e legal = (forth, back)
  where
    forth : drops_last_strong e.thread e.act (heap_after before) ≡ true → (i : ℕ) × Empties shape i before e
    forth d =
        let s = drop-of e.thread e.act (heap_after before) d in
        let ok : first_failing (needs shape (sight e.thread before) e.thread (acts.Drop s.hand true)) ≡ None = ap (λ a. first_failing (needs shape (sight e.thread before) e.thread a)) (sym s.is) ∙ legal.0 in
        let x = empties shape e.thread s.hand before (ok, legal.1) s.strong in
        (x.0, (x.1.0, ap (λ a. strong_list shape x.0 (effect e.thread a (heap_after before))) s.is ∙ x.1.1))

    back : (i : ℕ) × Empties shape i before e → drops_last_strong e.thread e.act (heap_after before) ≡ true
    back x =
        let d = (ends_once shape).by_drop x.0 before e legal x.1 in
        ap (λ a. drops_last_strong e.thread a (heap_after before)) d.1 ∙ held-strong shape e.thread d.0 x.0 before legal.1 d.2
