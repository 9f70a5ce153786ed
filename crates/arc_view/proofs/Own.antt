-- What a thread's own event leaves of what it has under way.
use Rattle.std.proofs.Common.{◌≡◌, ◌⊎◌, inl, ⊎_elim, ℕ, ◌==◌, Bool, true, false, cond, [], ◌∷◌, Option, Some, None, refl, sym, ap, ◌∙◌}
use Rattle.std.specs.Prelude.{slice_get, is_some}
use Rattle.arc_model.specs.declared.event.CellName.{CellName}
use Rattle.arc_model.specs.declared.event.CellName.TheVariants as cells
use Rattle.arc_model.specs.declared.event.Event.{Event}
use Rattle.arc_model.specs.declared.shape.Kind.TheVariants as kinds
use Rattle.arc_model.specs.Shapes.{HeapShape}
use Rattle.arc_model.specs.Heaps.{Hand, Field as field_holder, Deinit, Owed, Object}
use Rattle.arc_model.specs.Holders.{is_number, in_slot, is_claimed_by}
use Rattle.arc_model.specs.Cells.{has_field, is_nil}
use Rattle.arc_model.specs.Own.{ends, ends_hand}
use Rattle.arc_model.specs.History.{History, heap_after, IsLegal}
use Rattle.arc_model.specs.Lookup.{duty_of, duty_in, owed_by, owed_in}
use Rattle.arc_model.proofs.Basics.{None≢Some, Some-inj, true≢false, in-not_empty}
use Rattle.arc_model.proofs.Others.{own_leave, duties_last}
use Rattle.arc_model.proofs.Fields.{nil_fields_stay}
use Rattle.arc_rule.specs.declared.layout.Place.{Place}
use Rattle.arc_rule.specs.declared.layout.Place.TheVariants.{Zero, Global, Count, Isa, Next, Field, Link, Strong, Unowned, Weak, SlotBits, EntryBits}
use Rattle.arc_view.specs.declared.view.Entered.{Entered}
use Rattle.arc_view.specs.declared.view.Working.{Working}
use Rattle.arc_view.specs.Views.{Each, private_words}
use Rattle.arc_view.specs.Holding.{At, CanReach, Owns}
use Rattle.arc_view.specs.Rule.{IsMine, EnteredFits, WorkFits}
use Rattle.arc_view.proofs.Lists.{each_more}
use Rattle.arc_view.proofs.Held.{stays_after, hand_listed, dying_busy}
use Rattle.arc_view.proofs.Bridge.{dying_dead}

duty_owed : (p : ℕ) (m : Option Object) → duty_in p m ≡ owed_by p (owed_in m)
duty_owed p None = refl
duty_owed p (Some o) = refl

owed_is : (p : ℕ) (m : Option Owed) → owed_by p m ≡ Some Deinit → (d : Owed) × (m ≡ Some d) × (d.duty ≡ Deinit)
owed_is p None e = absurd (None≢Some Deinit e)
owed_is p (Some d) e = go (d.thread == p) e
  where
    go : (b : Bool) → cond b (Some d.duty) None ≡ Some Deinit → (c : Owed) × (Some d ≡ Some c) × (c.duty ≡ Deinit)
    go true e = (d, refl, Some-inj e)
    go false e = absurd (None≢Some Deinit e)

-- the duty to deinit stays until its thread ends it
pub duty_own : (shape : HeapShape) (e : Event) (h : History) (p i : ℕ) → IsLegal shape (e ∷ h) → ends Deinit e.act ≡ false → duty_of p i (heap_after h) ≡ Some Deinit → duty_of p i (heap_after (e ∷ h)) ≡ Some Deinit
duty_own shape e h p i legal still duty =
    let was = slice_get (heap_after h).objects i in
    let is = slice_get (heap_after (e ∷ h)).objects i in
    let o = owed_is p (owed_in was) (sym (duty_owed p was) ∙ duty) in
    ⊎_elim
    (λ same. duty_owed p is ∙ (ap (owed_by p) (same ∙ sym o.1) ∙ (sym (duty_owed p was) ∙ duty)))
    (λ (t : (o.0.thread ≡ e.thread) × (ends o.0.duty e.act ≡ true)). absurd (true≢false (sym t.1 ∙ (ap (λ d. ends d e.act) o.2 ∙ still))))
    (duties_last shape h e i o.0 legal o.1)

-- who alone writes a next word goes on doing so, where the deinit is owed still
pub next_after : (shape : HeapShape) (e : Event) (h : History) (p s : ℕ) → IsLegal shape (e ∷ h) → ((i : ℕ) (o : Object) → At (heap_after h) i o → in_slot s o ≡ true → duty_of p i (heap_after h) ≡ Some Deinit → duty_of p i (heap_after (e ∷ h)) ≡ Some Deinit)
    → Owns (heap_after h) p (Next s) → Owns (heap_after (e ∷ h)) p (Next s)
next_after shape e h p s legal duties (i, o, here, slot, duty) =
    let q = stays_after shape e h legal i o here in
    (i, q.q, q.here, ap (λ m. is_number m s) (q.slot (dying_busy shape h p i o legal.1 here duty)) ∙ slot, duties i o here slot duty)

-- the same of any word
pub owner_after : (shape : HeapShape) (e : Event) (h : History) (p : ℕ) (pl : Place) → IsLegal shape (e ∷ h) → ((t i : ℕ) (o : Object) → pl ≡ Next t → At (heap_after h) i o → in_slot t o ≡ true → duty_of p i (heap_after h) ≡ Some Deinit → duty_of p i (heap_after (e ∷ h)) ≡ Some Deinit)
    → ((n : ℕ) → is_claimed_by p n (heap_after h) ≡ true → is_claimed_by p n (heap_after (e ∷ h)) ≡ true) → Owns (heap_after h) p pl → Owns (heap_after (e ∷ h)) p pl
owner_after shape e h p Zero legal duties claims o = absurd (o)
owner_after shape e h p (Global g) legal duties claims o = absurd (o)
owner_after shape e h p (Count s) legal duties claims o = absurd (o)
owner_after shape e h p (Isa s) legal duties claims o = absurd (o)
owner_after shape e h p (Next s) legal duties claims o = next_after shape e h p s legal (λ i r. duties s i r refl) o
owner_after shape e h p (Field s f) legal duties claims o = absurd (o)
owner_after shape e h p (Link n) legal duties claims o = claims n o
owner_after shape e h p (Strong n) legal duties claims o = claims n o
owner_after shape e h p (Unowned n) legal duties claims o = claims n o
owner_after shape e h p (Weak n) legal duties claims o = claims n o
owner_after shape e h p (SlotBits k) legal duties claims o = absurd (o)
owner_after shape e h p (EntryBits k) legal duties claims o = absurd (o)

pub owner_own : (shape : HeapShape) (e : Event) (h : History) (p : ℕ) (pl : Place) → IsLegal shape (e ∷ h) → ends Deinit e.act ≡ false → ((n : ℕ) → is_claimed_by p n (heap_after h) ≡ true → is_claimed_by p n (heap_after (e ∷ h)) ≡ true)
    → Owns (heap_after h) p pl → Owns (heap_after (e ∷ h)) p pl
owner_own shape e h p pl legal still = owner_after shape e h p pl legal (λ t i o is here slot duty. duty_own shape e h p i legal still duty)

strong≢weak : kinds.Strong ≡ kinds.Weak → ⊥
strong≢weak e = cc

pub reach_own : (shape : HeapShape) (e : Event) (h : History) (c : CellName) → IsLegal shape (e ∷ h) → ((k : ℕ) → ends_hand k e.act ≡ true → ⊥) → CanReach shape (heap_after h) e.thread c → CanReach shape (heap_after (e ∷ h)) e.thread c
reach_own shape e h (cells.Global g) legal none r = tt
reach_own shape e h (cells.Field s f) legal none (k, i, o, at, here, slot, has) =
    let q = stays_after shape e h legal i o here in
    let listed = hand_listed shape h e.thread k i kinds.Strong o legal.1 at here in
    (k, i, q.q, own_leave shape h e k legal (ap is_some at) (not_ended (ends_hand k e.act) refl) ∙ at, q.here, q.slot (inl (in-not_empty (Hand e.thread k) o.strong listed)) ∙ slot, ap (λ c. has_field shape f (record o { class = c })) q.class ∙ has)
  where
    not_ended : (b : Bool) → ends_hand k e.act ≡ b → ends_hand k e.act ≡ false
    not_ended true is = absurd (none k is)
    not_ended false is = is

-- a deinit that was entered and is owed still
pub entered_after : (shape : HeapShape) (e : Event) (h : History) (p : ℕ) (z : Entered) → IsLegal shape (e ∷ h) → (f : EnteredFits shape p h z) → duty_of p f.place (heap_after (e ∷ h)) ≡ Some Deinit → EnteredFits shape p (e ∷ h) z
entered_after shape e h p z legal f duty =
    let q = stays_after shape e h legal f.place f.object f.here in record {
      place = f.place;
      object = q.q;
      here = q.here;
      slot = q.slot (dying_busy shape h p f.place f.object legal.1 f.here f.duty) ∙ f.slot;
      duty = duty;
      nils = λ g lt. ap (λ id. is_nil (heap_after (e ∷ h)) (field_holder id g)) q.id
          ∙ nil_fields_stay shape h (e ∷ []) f.place f.object g legal f.here (dying_dead shape h p f.place f.object legal.1 f.here f.duty) (f.nils g lt);
      parent = f.parent;
    }

pub entered_own : (shape : HeapShape) (e : Event) (h : History) (p : ℕ) (z : Entered) → IsLegal shape (e ∷ h) → ends Deinit e.act ≡ false → EnteredFits shape p h z → EnteredFits shape p (e ∷ h) z
entered_own shape e h p z legal still f = entered_after shape e h p z legal f (duty_own shape e h p f.place legal still f.duty)

-- What a pass has under way stays where its event ends no hand while it has an access, and ends no deinit; it still alone writes what it keeps private.
pub work_kept : (shape : HeapShape) (e : Event) (h : History) (w : Working) → IsLegal shape (e ∷ h) → ends Deinit e.act ≡ false → (w.access ≡ None) ⊎ ((k : ℕ) → ends_hand k e.act ≡ true → ⊥) → w.owes ≡ None
    → Each (IsMine shape (heap_after (e ∷ h)) e.thread) (private_words w) → WorkFits shape e.thread h w → WorkFits shape e.thread (e ∷ h) w
work_kept shape e h w legal still hands free mine f = record {
  owing = λ n owed. absurd (None≢Some n (sym free ∙ owed));
  reaches = λ a begun. ⊎_elim
      (λ none. absurd (None≢Some a (sym none ∙ begun)))
      (λ keeps. let r = f.reaches a begun in (r.0, reach_own shape e h a.cell legal keeps r.1)) hands;
  private = mine;
  entered = each_more (EnteredFits shape e.thread h) (EnteredFits shape e.thread (e ∷ h)) (λ z m. entered_own shape e h e.thread z legal still m) w.entered f.entered;
}

-- It does so where the event gives up no claim.
pub work_own : (shape : HeapShape) (e : Event) (h : History) (w : Working) → IsLegal shape (e ∷ h) → ends Deinit e.act ≡ false → ((n : ℕ) → is_claimed_by e.thread n (heap_after h) ≡ true → is_claimed_by e.thread n (heap_after (e ∷ h)) ≡ true)
    → (w.access ≡ None) ⊎ ((k : ℕ) → ends_hand k e.act ≡ true → ⊥) → w.owes ≡ None → WorkFits shape e.thread h w → WorkFits shape e.thread (e ∷ h) w
work_own shape e h w legal still claims hands free f = work_kept shape e h w legal still hands free
    (each_more (IsMine shape (heap_after h) e.thread) (IsMine shape (heap_after (e ∷ h)) e.thread) (λ k m. (m.0, owner_own shape e h e.thread k.place legal still claims m.1)) (private_words w) f.private) f
