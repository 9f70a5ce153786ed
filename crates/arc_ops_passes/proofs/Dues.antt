-- The duties of a pass while objects die: a step changes at most the first of them, that of the object that is worked on, or adds one before it.
use Rattle.std.proofs.Common.{◌≡◌, ◌≢◌, ℕ, ◌≤◌, not, true, false, List, [], ◌∷◌, ◌++◌, length, Option, Some, None, refl, sym, ap, ◌∙◌, subst, arith}
use Rattle.std.specs.Prelude.{slice_get, ⊤}
use Rattle.arc_model.specs.declared.event.ObjectName.{ObjectName}
use Rattle.arc_model.specs.declared.event.Event.{Event}
use Rattle.arc_model.specs.Shapes.{HeapShape, class_at}
use Rattle.arc_model.specs.Heaps.{Field, Duty, Deinit, Vacating, Gone, Object}
use Rattle.arc_model.specs.Holders.{is_duty}
use Rattle.arc_model.specs.Cells.{is_nil, is_live}
use Rattle.arc_model.specs.History.{History, heap_after, share, IsLegal}
use Rattle.arc_model.specs.Lookup.{duty_of}
use Rattle.arc_model.proofs.Courses.{well_formed}
use Rattle.arc_model.proofs.Fields.{nil_fields_stay}
use Rattle.arc_model.proofs.Others.{others_leave}
use Rattle.arc_model.proofs.Stages.{dying-facts, vacating-facts, gone-facts}
use Rattle.arc_view.specs.declared.view.View.{View}
use Rattle.arc_view.specs.Views.{Each, within}
use Rattle.arc_view.specs.Holding.{At, heap_of}
use Rattle.arc_view.specs.Rule.{IsSized}
use Rattle.arc_view.specs.Calls.{Called}
use Rattle.arc_view.proofs.Held.{stays_after, dying_busy}
use Rattle.arc_view.proofs.Owed.{duty_parts, owed_stays}
use Rattle.arc_view_laws.proofs.Moving.{called_follows, moved_none, legal_tail}
use Rattle.arc_view_laws.proofs.Entries.{none_stays}
use Rattle.arc_cells.specs.Chains.{Frame}
use Rattle.arc_ops_passes.specs.Drives.{Due, IsOfName, IsDue, OwesJust, OwesAll, OwesOne, slots_of, waits}
use Rattle.arc_ops_passes.proofs.Chain.{not_first, not_rest}

-- ---- one duty

named_still : (name : Option ObjectName) (o q : Object) → q.id ≡ o.id → q.class ≡ o.class → IsOfName name o → IsOfName name q
named_still None o q id class named = tt
named_still (Some name) o q id class named = (λ j. record { class = class j; thread = (id j).thread; number = (id j).number }) ∙ named

-- an object to which something is owed isn't live
owed_dead : (shape : HeapShape) (h : History) (p i : ℕ) (d : Duty) (o : Object) → IsLegal shape h → At (heap_after h) i o → duty_of p i (heap_after h) ≡ Some d → is_live shape o ≡ false
owed_dead shape h p i d o legal here duty = by d (duty_parts h p i d o here duty).1
  where
    by : (d : Duty) → is_duty d o.owed ≡ true → is_live shape o ≡ false
    by Deinit is = ap not (dying-facts o ((well_formed shape h legal).whole i o here) is).strong
    by Vacating is = ap not (vacating-facts o ((well_formed shape h legal).whole i o here) is).strong
    by Gone is = ap not (gone-facts o ((well_formed shape h legal).whole i o here) is).strong

-- the same duty, later, to the object at the same place
abbrev pub DueLater : HeapShape → View → Due → (place : ℕ) → Type 0
DueLater shape w d place = (q : IsDue shape w d) × (q.place ≡ place)

-- while only other passes make events
pub due_still : (shape : HeapShape) (d : Due) (n : ℕ) (v w : View) → IsSized shape → Called shape [] n v w → (o : IsDue shape v d) → DueLater shape w d o.place
due_still shape d n v w sized c o =
    let f = called_follows shape [] n v w c in
    let m = moved_none shape n v w c in
    let l = owed_stays shape v.number o.place d.duty o.object v.seen f.rest f.legal f.mine o.here o.owes in
    let dead = owed_dead shape v.seen v.number o.place d.duty o.object (legal_tail shape f.rest v.seen f.legal) o.here o.owes in (
      record {
        place = o.place;
        object = l.q;
        here = ap (λ k. slice_get (heap_after k).objects o.place) f.is ∙ l.here;
        slot = l.slot ∙ o.slot;
        owes = m.duties o.place ∙ o.owes;
        bare = λ e. none_stays shape v.number o.place o.object l.q v.seen f.rest sized.caps_fit.unowned_fits.0 f.legal f.mine o.here (o.owes ∙ ap Some e) (o.bare e) l.here;
        named = named_still d.name o.object l.q l.id l.class o.named;
        nils = λ g lt. (λ j. is_nil (heap_after (f.is j)) (Field (l.id j) g)) ∙ nil_fields_stay shape v.seen f.rest o.place o.object g f.legal o.here dead (o.nils g lt);
        inside = subst (λ k. d.nils ≤ length (class_at shape k).fields) (sym l.class) o.inside;
      },
      refl,
    )

-- after an event of the pass that leaves the duty, where the object is dying
pub due_on : (shape : HeapShape) (d : Due) (e : Event) (between : History) (v w : View) → d.duty ≡ Deinit → w.number ≡ v.number → w.seen ≡ e ∷ between ++ v.seen → IsLegal shape (e ∷ between ++ v.seen) → share between v.number ≡ []
    → (o : IsDue shape v d) → duty_of v.number o.place (heap_after (e ∷ between ++ v.seen)) ≡ duty_of v.number o.place (heap_after (between ++ v.seen)) → DueLater shape w d o.place
due_on shape d e between v w is number seen legal others o keeps =
    let h = between ++ v.seen in
    let l = owed_stays shape v.number o.place d.duty o.object v.seen between legal.1 others o.here o.owes in
    let owed : duty_of v.number o.place (heap_after h) ≡ Some d.duty = (others_leave shape v.number v.seen between legal.1 others).duties o.place ∙ o.owes in
    let s = stays_after shape e h legal o.place l.q l.here in
    let dead = owed_dead shape v.seen v.number o.place d.duty o.object (legal_tail shape between v.seen legal.1) o.here o.owes in (
      record {
        place = o.place;
        object = s.q;
        here = ap (λ k. slice_get (heap_after k).objects o.place) seen ∙ s.here;
        slot = s.slot (dying_busy shape h v.number o.place l.q legal.1 l.here (owed ∙ ap Some is)) ∙ (l.slot ∙ o.slot);
        owes = (λ j. duty_of (number j) o.place (heap_after (seen j))) ∙ (keeps ∙ owed);
        bare = λ x. absurd (apart (sym is ∙ x));
        named = named_still d.name o.object s.q (s.id ∙ l.id) (s.class ∙ l.class) o.named;
        nils = λ g lt. (λ j. is_nil (heap_after (seen j)) (Field ((s.id ∙ l.id) j) g)) ∙ nil_fields_stay shape v.seen (e ∷ between) o.place o.object g legal o.here dead (o.nils g lt);
        inside = subst (λ k. d.nils ≤ length (class_at shape k).fields) (sym (s.class ∙ l.class)) o.inside;
      },
      refl,
    )
  where
    apart : Deinit ≡ Vacating → ⊥
    apart x = cc

-- ---- all duties

-- each of these goes on, and what was owed to none of the others is owed to none of those that are left now
pub just_on : (shape : HeapShape) (v w : View) (P : Due → Type 0) (ds : List Due) (left right : ℕ → Type 0) → Each P ds → ((d : Due) → P d → (o : IsDue shape v d) → DueLater shape w d o.place)
    → ((i : ℕ) → right i → (left i → duty_of v.number i (heap_of v) ≡ None) → duty_of w.number i (heap_of w) ≡ None) → OwesJust shape v ds left → OwesJust shape w ds right
just_on shape v w P [] left right all each alone owes = λ i r. alone i r (owes i)
just_on shape v w P (d ∷ ds) left right all each alone owes =
    let o = owes.0 in
    let q = each d all.0 o in
    (q.0, just_on shape v w P ds (λ i. left i × (i ≢ o.place)) (λ i. right i × (i ≢ q.0.place)) all.1 each (λ i r none. alone i r.0 (λ l. none (l, λ same. r.1 (same ∙ sym q.1)))) owes.1)

every_due : (P : Due → Type 0) (ds : List Due) → ((d : Due) → P d) → Each P ds
every_due P [] all = tt
every_due P (d ∷ ds) all = (all d, every_due P ds all)

pub owes_all_still : (shape : HeapShape) (ds : List Due) (n : ℕ) (v w : View) → IsSized shape → Called shape [] n v w → OwesAll shape v ds → OwesAll shape w ds
owes_all_still shape ds n v w sized c o = record {
  apart = o.apart;
  just = just_on shape v w (λ d. Unit {0}) ds (λ i. ⊤) (λ i. ⊤) (every_due (λ d. Unit {0}) ds (λ d. tt)) (λ d p q. due_still shape d n v w sized c q) (λ i r none. (moved_none shape n v w c).duties i ∙ none r) o.just;
}

-- a deinit in another slot than this
abbrev pub DiesBut : ℕ → Due → Type 0
DiesBut s d = (d.duty ≡ Deinit) × (d.slot ≢ s)

pub waiting_but : (s : ℕ) (fs : List Frame) → within s (slots_of (waits fs)) ≡ false → Each (DiesBut s) (waits fs)
waiting_but s [] none = tt
waiting_but s (p ∷ fs) none = ((refl, not_first s p.slot (slots_of (waits fs)) none), waiting_but s fs (not_rest s p.slot (slots_of (waits fs)) none))

-- ---- one duty, and those of a deinit under no other

pub one_of_all : (shape : HeapShape) (v : View) (d : Due) → OwesAll shape v (d ∷ []) → OwesOne v d.duty d.slot
one_of_all shape v d o =
    let q = o.just.0 in
    record { place = q.place; object = q.object; here = q.here; slot = q.slot; owes = q.owes; alone = λ i ne. o.just.1 i (tt, ne); bare = q.bare }

pub all_of_one : (shape : HeapShape) (v : View) (d : Duty) (s : ℕ) → OwesOne v d s → OwesAll shape v (record { duty = d; slot = s; name = None; nils = 0 } ∷ [])
all_of_one shape v d s o = record {
  apart = (refl, tt);
  just = (
    record { place = o.place; object = o.object; here = o.here; slot = o.slot; owes = o.owes; bare = o.bare; named = tt; nils = λ f lt. absurd (omega (arith, lt)); inside = omega arith },
    λ i l. o.alone i l.1,
  );
}

pub none_of_all : (shape : HeapShape) (v : View) → OwesAll shape v [] → (i : ℕ) → duty_of v.number i (heap_of v) ≡ None
none_of_all shape v o i = o.just i tt
