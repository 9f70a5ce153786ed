-- What stays of an object while a thread owes it something, whatever other threads do.
use Rattle.std.proofs.Common.{◌≡◌, ⊎_elim, ℕ, ◌==◌, Bool, true, false, cond, [], ◌∷◌, ◌++◌, Option, Some, None, refl, sym, ap, ◌∙◌, arith}
use Rattle.std.proofs.lemmas.Bool.{and_parts, eqb-true}
use Rattle.arc_model.specs.declared.event.Act.TheVariants as acts
use Rattle.arc_model.specs.declared.event.Event.{Event}
use Rattle.arc_model.specs.Shapes.{HeapShape}
use Rattle.arc_model.specs.Heaps.{Unowneds, Duty, Deinit, Vacating, Gone, Owed, Object}
use Rattle.arc_model.specs.Holders.{is_empty, is_by, is_duty, same_duty, owes_to}
use Rattle.arc_model.specs.Needs.{first_failing, needs, passes}
use Rattle.arc_model.specs.WellFormed.{tally, IsWhole}
use Rattle.arc_model.specs.History.{History, heap_after, sight, share, IsLegal}
use Rattle.arc_model.specs.Lookup.{duty_of, duty_in, owed_by}
use Rattle.arc_model.proofs.Basics.{None≢Some, Some-inj, in-not_empty, met}
use Rattle.arc_model.proofs.Tally.{both, tally-in}
use Rattle.arc_model.proofs.Turns.{IsLeaving}
use Rattle.arc_model.proofs.Courses.{well_formed}
use Rattle.arc_model.proofs.Stages.{dying-facts, vacating-facts, gone-facts}
use Rattle.arc_model.proofs.Steps.{step_after}
use Rattle.arc_model.proofs.Others.{others_leave, not-among}
use Rattle.arc_view.specs.Holding.{At}
use Rattle.arc_view.proofs.Held.{stays_after}
use Rattle.arc_view.proofs.Words.{slot_found}

same_duty_self : (d : Duty) → same_duty d d ≡ true
same_duty_self Deinit = refl
same_duty_self Vacating = refl
same_duty_self Gone = refl

owed_parts : (p : ℕ) (d : Duty) (m : Option Owed) → owed_by p m ≡ Some d → (is_by p m ≡ true) × (is_duty d m ≡ true)
owed_parts p d None e = absurd (None≢Some d e)
owed_parts p d (Some w) e = go (w.thread == p) refl e
  where
    go : (b : Bool) → (w.thread == p) ≡ b → cond b (Some w.duty) None ≡ Some d → ((w.thread == p) ≡ true) × (same_duty w.duty d ≡ true)
    go true is e = (is, ap (λ x. same_duty x d) (Some-inj e) ∙ same_duty_self d)
    go false is e = absurd (None≢Some d e)

-- what the thread owes stands in the object
pub duty_parts : (h : History) (p i : ℕ) (d : Duty) (o : Object) → At (heap_after h) i o → duty_of p i (heap_after h) ≡ Some d → (is_by p o.owed ≡ true) × (is_duty d o.owed ≡ true)
duty_parts h p i d o here duty = owed_parts p d o.owed (ap (duty_in p) (sym here) ∙ duty)

pub owes_it : (h : History) (p i : ℕ) (d : Duty) (o : Object) → At (heap_after h) i o → duty_of p i (heap_after h) ≡ Some d → owes_to p d o ≡ true
owes_it h p i d o here duty = let t = duty_parts h p i d o here duty in both (is_by p o.owed) (is_duty d o.owed) t.0 t.1

-- it has a weak holder, since Unowneds is one until the last duty ends
pub owed_weak : {shape : HeapShape} (d : Duty) (o : Object) → IsWhole shape o → is_duty d o.owed ≡ true → is_empty o.weak ≡ false
owed_weak d o whole duty = in-not_empty Unowneds o.weak (tally-in Unowneds o.weak (let one = by d duty in omega (arith, one)))
  where
    by : (d : Duty) → is_duty d o.owed ≡ true → tally Unowneds o.weak ≡ 1
    by Deinit duty = (dying-facts o whole duty).unowneds
    by Vacating duty = (vacating-facts o whole duty).unowneds
    by Gone duty = (gone-facts o whole duty).unowneds

one_thread : (p q : ℕ) (m : Option Owed) → is_by p m ≡ true → is_by q m ≡ true → q ≡ p
one_thread p q None mine its = absurd (no_true mine)
  where
    no_true : false ≡ true → ⊥
    no_true e = cc
one_thread p q (Some d) mine its = sym (eqb-true d.thread q its) ∙ eqb-true d.thread p mine

-- the object is in the slot that another thread's event is said to vacate
pub not_left : (shape : HeapShape) (e : Event) (h : History) (p i : ℕ) (d : Duty) (o : Object) → IsLegal shape (e ∷ h) → At (heap_after h) i o → duty_of p i (heap_after h) ≡ Some d → (e.thread ≡ p → ⊥) → IsLeaving shape e.act o → ⊥
not_left shape e h p i d o legal here duty other (s, act, slot, strong, unowned) =
    let ns = met (needs shape (sight e.thread h) e.thread (acts.Vacate s)) (ap (λ a. first_failing (needs shape (sight e.thread h) e.thread a)) (sym act) ∙ legal.0) in
    let its : owes_to e.thread Vacating o ≡ true = ap (passes (owes_to e.thread Vacating)) (sym (slot_found shape h i s o legal.1 here slot)) ∙ ns.1.0 in
    other (one_thread p e.thread o.owed (duty_parts h p i d o here duty).0 (and_parts (is_by e.thread o.owed) (is_duty Vacating o.owed) its).0)

-- what the object o, at place i, is later
pub record OwedLater (i : ℕ) (o : Object) (h : History) : Type 0 where
  pub q : Object
  pub here : At (heap_after h) i q
  pub id : q.id ≡ o.id
  pub class : q.class ≡ o.class
  pub slot : q.slot ≡ o.slot
  pub entry : (n : ℕ) → o.entry ≡ Some n → q.entry ≡ Some n

pub owed_stays : (shape : HeapShape) (p i : ℕ) (d : Duty) (o : Object) (before after : History) → IsLegal shape (after ++ before) → share after p ≡ [] → At (heap_after before) i o → duty_of p i (heap_after before) ≡ Some d → OwedLater i o (after ++ before)
owed_stays shape p i d o before [] legal none here duty = record { q = o; here = here; id = refl; class = refl; slot = refl; entry = λ n e. e }
owed_stays shape p i d o before (e ∷ after) legal none here duty =
    let apart = not-among p e after none in
    let ih = owed_stays shape p i d o before after legal.1 apart.1 here duty in
    let mid = (others_leave shape p before after legal.1 apart.1).duties i ∙ duty in
    let end = (others_leave shape p before (e ∷ after) legal none).duties i ∙ duty in
    let s = stays_after shape e (after ++ before) legal i ih.q ih.here in
    let t = step_after shape e (after ++ before) legal i ih.q ih.here in
    let same : t.q ≡ s.q = Some-inj (sym t.here ∙ s.here) in
    let whole = (well_formed shape (e ∷ after ++ before) legal).whole i s.q s.here in record {
      q = s.q;
      here = s.here;
      id = s.id ∙ ih.id;
      class = s.class ∙ ih.class;
      slot = ap (λ (r : Object). r.slot) (sym same) ∙ (⊎_elim (λ stays. stays) (λ left. absurd (not_left shape e (after ++ before) p i d ih.q legal ih.here mid apart.0 left)) t.place ∙ ih.slot);
      entry = λ n is. s.entry n (owed_weak d s.q whole (duty_parts (e ∷ after ++ before) p i d s.q s.here end).1) (ih.entry n is);
    }
