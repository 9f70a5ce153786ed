-- What an event does to one object: its place stays, it is live until its last strong drop and in its slot until the
-- slot's `vacate`.
use Rattle.std.proofs.Common.{◌≡◌, ℕ, Bool, true, [], ◌∷◌, ◌++◌, Option, Some, ◌⊎◌, inl, inr, refl, sym, ap, ◌∙◌, subst}
use Rattle.std.specs.Prelude.{slice_get}
use Rattle.arc_model.specs.declared.event.Act.{Act}
use Rattle.arc_model.specs.declared.event.Act.TheVariants as acts
use Rattle.arc_model.specs.declared.event.CellName.{CellName}
use Rattle.arc_model.specs.declared.event.Event.{Event}
use Rattle.arc_model.specs.Shapes.{HeapShape}
use Rattle.arc_model.specs.Heaps.{Object, Heap}
use Rattle.arc_model.specs.Holders.{is_empty}
use Rattle.arc_model.specs.Cells.{strong_holders}
use Rattle.arc_model.specs.Effects.{made}
use Rattle.arc_model.specs.History.{History, heap_after, next_hand, brings, IsLegal}
use Rattle.arc_model.proofs.Turns.{old-put, IsLastDrop, IsLeaving, Turn}
use Rattle.arc_model.proofs.Keeps.{end-at, Course, still, makes, turn, turns}
use Rattle.arc_model.proofs.Builds.{advance}
use Rattle.arc_model.proofs.Courses.{course_after, well_formed}

-- what object o, at place i, is after an event
pub record Step (shape : HeapShape) (p : ℕ) (act : Act) (i : ℕ) (o : Object) (new : Heap) : Type 0 where
  pub q : Object
  pub here : slice_get new.objects i ≡ Some q
  pub id : q.id ≡ o.id
  pub class : q.class ≡ o.class
  pub life : (is_empty (strong_holders shape q) ≡ is_empty (strong_holders shape o)) ⊎ IsLastDrop shape p act o q
  pub place : (q.slot ≡ o.slot) ⊎ IsLeaving shape act o

swap≢drop : {c : CellName} {h k : Option ℕ} {n : ℕ} {last : Bool} → acts.Swap c h k ≡ acts.Drop n last → ⊥
swap≢drop e = cc

swap≢vacate : {c : CellName} {h k : Option ℕ} {s : ℕ} → acts.Swap c h k ≡ acts.Vacate s → ⊥
swap≢vacate e = cc

pub same-step : {shape : HeapShape} (p : ℕ) (act : Act) (i : ℕ) (o : Object) (new : Heap) → slice_get new.objects i ≡ Some o → Step shape p act i o new
same-step p act i o new h = record { q = o; here = h; id = refl; class = refl; life = inl refl; place = inl refl }

pub turn-step : {shape : HeapShape} (p : ℕ) (act : Act) (next since : ℕ → ℕ) (old new : Heap) → Turn shape p act next since old new → (i : ℕ) (o : Object) → slice_get old.objects i ≡ Some o → Step shape p act i o new
turn-step {shape = shape} p act next since old new t i o h =
    elim (old-put old.objects new.objects t.o t.q t.put i o h) [
      | inl same ↦ same-step p act i o new same
      | inr turned ↦ subst (λ r. Step shape p act i r new) (sym turned.0) (record { q = t.q; here = turned.1; id = t.id; class = t.class; life = t.life; place = t.place })
    ]

pub course-step : {shape : HeapShape} (p : ℕ) (act : Act) (next since : ℕ → ℕ) (old new : Heap) → Course shape p act next since old new → (i : ℕ) (o : Object) → slice_get old.objects i ≡ Some o → Step shape p act i o new
course-step p act next since old new (still same entries grows claims taken) i o h = same-step p act i o new (ap (λ os. slice_get os i) same ∙ h)
course-step p act next since old new (makes k c s is is_next later grows free) i o h = same-step p act i o new (ap (λ (heap : Heap). slice_get heap.objects i) is ∙ end-at old.objects (made p k c s old.objects) i o h)
course-step p act next since old new (turn t) i o h = turn-step p act next since old new t i o h
course-step {shape = shape} p act next since old new (turns between mid t u cell left came swaps) i o h =
    let a = turn-step p act next between old mid t i o h in
    let b = turn-step p act between since mid new u i a.q a.here in record {
      q = b.q;
      here = b.here;
      id = b.id ∙ a.id;
      class = b.class ∙ a.class;
      life = inl (kept a.q b.q b.life ∙ kept o a.q a.life);
      place = inl (in-place a.q b.q b.place ∙ in-place o a.q a.place);
    }
  where
    kept : (o q : Object) → (is_empty (strong_holders shape q) ≡ is_empty (strong_holders shape o)) ⊎ IsLastDrop shape p act o q → is_empty (strong_holders shape q) ≡ is_empty (strong_holders shape o)
    kept o q (inl same) = same
    kept o q (inr last) = absurd (swap≢drop (sym swaps ∙ last.1))

    in-place : (o q : Object) → (q.slot ≡ o.slot) ⊎ IsLeaving shape act o → q.slot ≡ o.slot
    in-place o q (inl same) = same
    in-place o q (inr leaves) = absurd (swap≢vacate (sym swaps ∙ leaves.1))

-- the step of a legal event
pub step_after : (shape : HeapShape) (e : Event) (h : History) → IsLegal shape (e ∷ h) → (i : ℕ) (o : Object) → slice_get (heap_after h).objects i ≡ Some o → Step shape e.thread e.act i o (heap_after (e ∷ h))
step_after shape e h legal = course-step e.thread e.act (λ q. next_hand q h) (advance (brings e.act) e.thread (λ q. next_hand q h)) (heap_after h) (heap_after (e ∷ h)) (course_after shape e h legal (well_formed shape h legal.1))

-- what has no strong holder has none after an event
pub still_empty : {shape : HeapShape} (p : ℕ) (act : Act) (i : ℕ) (o : Object) (new : Heap) (s : Step shape p act i o new) → is_empty (strong_holders shape o) ≡ true → is_empty (strong_holders shape s.q) ≡ true
still_empty p act i o new s h =
    elim s.life [
      | inl same ↦ same ∙ h
      | inr last ↦ last.3
    ]

-- the object at a place after later events, and what it keeps
pub record Later (shape : HeapShape) (i : ℕ) (o : Object) (heap : Heap) : Type 0 where
  pub q : Object
  pub here : slice_get heap.objects i ≡ Some q
  pub id : q.id ≡ o.id
  pub strong : is_empty (strong_holders shape o) ≡ true → is_empty (strong_holders shape q) ≡ true

pub later : (shape : HeapShape) (i : ℕ) (o : Object) (before after : History) → IsLegal shape (after ++ before) → slice_get (heap_after before).objects i ≡ Some o → Later shape i o (heap_after (after ++ before))
later shape i o before [] legal h = record { q = o; here = h; id = refl; strong = λ e. e }
later shape i o before (e ∷ after) legal h =
    let a = later shape i o before after legal.1 h in
    let s = step_after shape e (after ++ before) legal i a.q a.here in record {
      q = s.q;
      here = s.here;
      id = s.id ∙ a.id;
      strong = λ empty. still_empty e.thread e.act i a.q (heap_after (e ∷ after ++ before)) s (a.strong empty);
    }
