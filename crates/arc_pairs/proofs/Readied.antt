-- What stays of a pass and its tokens from call to call.
use Rattle.std.proofs.Common.{◌≡◌, ◌≢◌, ℕ, ◌<◌, true, false, true≢false, List, [], Option, Some, None, refl, sym, ap, ◌∙◌, subst, ◌∷◌, ◌++◌, length, append_assoc, ◌⊎◌, inl, inr, arith}
use Rattle.std.specs.Prelude.{slice_get, slice_index_or}
use Rattle.arc_model.specs.declared.event.Act.{Act}
use Rattle.arc_model.specs.declared.event.Act.TheVariants as acts
use Rattle.arc_model.specs.Shapes.{HeapShape, ObjectClass, class_at}
use Rattle.arc_model.specs.Heaps.{Object}
use Rattle.arc_view.specs.declared.view.Working.{Working}
use Rattle.arc_view.specs.Views.{idle}
use Rattle.arc_model.specs.declared.shape.Kind.TheVariants.{Strong}
use Rattle.arc_view.specs.declared.view.View.{View}
use Rattle.arc_rule.specs.declared.step.Changed.{Changed}
use Rattle.arc_table.specs.Calls.{works_after, IsFree, IsCall}
use Rattle.arc_table.specs.Causes.{ReadTwice, Loaded, ChangedCount, inline, in_entry, LostSlot}
use Rattle.arc_table.specs.Runs.{Walked}
use Rattle.arc_table.specs.Possessions.{StillHas}
use Rattle.arc_table.proofs.Keeping.{keeps_strong, keeps_strong_but, keeps_deinit}
use Rattle.arc_table.proofs.Spared.{up_spares, release_spares, finish_spares}
use Rattle.arc_table.specs.declared.tokens.Up.{Up}
use Rattle.arc_table.specs.declared.tokens.Release.{Release}
use Rattle.arc_table.specs.declared.ends.Finish.{Finish}
use Rattle.arc_model.proofs.Basics.{None≢Some, Some-inj}
use Rattle.arc_view.proofs.Strongs.{slot_found}
use Rattle.arc_view.specs.Rule.{news}
use Rattle.arc_view_laws.proofs.Counted.{news_none}
use Rattle.arc_table.specs.declared.heap.Heap.{Heap}
use Rattle.arc_table.specs.declared.heap.Pass.{Pass}
use Rattle.arc_table.specs.declared.tokens.Strong.{Strong as Token}
use Rattle.arc_table.specs.declared.tokens.Dying.{Dying}
use Rattle.arc_table.specs.declared.tokens.Up.TheVariants as ups
use Rattle.arc_table.specs.declared.tokens.Release.TheVariants as releases
use Rattle.arc_table.specs.Seats.{shape_of, view_of}
use Rattle.arc_table.specs.Tokens.{hand_of, IsHeld, IsUp, up_act, IsReleased, release_act}
use Rattle.arc_view_laws.specs.Having.{KeepsStrong, KeepsStrongBut}
use Rattle.arc_table.specs.Ends.{HasNoField, finish_act}
use Rattle.arc_table.proofs.HeldTokens.{copy_apart}
use Rattle.arc_pairs.specs.Ready.{IsReady, IsPlain, HasImmortal, IsOfClass, IsOurs, IsOurDying, IsSamePass, FoundAtCap}

pub held : (heap : Heap) (pass : Pass) (t : Token) → IsOurs heap pass t → IsHeld (shape_of heap) (view_of pass) t
held heap pass t ours = (ours.0, (0, ours.1))

-- nothing under way stays so
idle_after : (shape : HeapShape) (act : Option Act) → works_after shape act idle ≡ idle
idle_after shape None = refl
idle_after shape (Some (acts.Finish s last)) = refl
idle_after shape (Some a) = refl

pub ready_on : (heap : Heap) (act : Option Act) (n : ℕ) (v w : Pass) → IsReady heap v → IsCall (shape_of heap) act n v.part w.part → IsReady heap w
ready_on heap act n v w ready c = (c.0 ∙ ready.0, c.1.working ∙ (ap (works_after (shape_of heap) act) ready.1 ∙ idle_after (shape_of heap) act), c.1.called.legal)

pub free : (heap : Heap) (pass : Pass) → IsReady heap pass → IsFree (view_of pass)
free heap pass ready = record { owes = ap (λ (w : Working). w.owes) ready.1; access = ap (λ (w : Working). w.access) ready.1 }

-- the strong references that a call keeps, whatever it answers
pub up_keeps : (of : Token) (r : Up Token) (v w : View) → StillHas (up_act of r) v w → KeepsStrong v w
up_keeps of r v w has = keeps_strong (up_act of r) v w (λ k. (up_spares of r).0 k Strong) has

pub release_keeps : (t : Token) (r : Release) (v w : View) → StillHas (release_act t r) v w → KeepsStrongBut (hand_of t) v w
release_keeps t r v w has = keeps_strong_but (release_act t r) (hand_of t) v w (λ k other. (release_spares t r).0 k Strong other) has

pub finish_keeps : (d : Dying) (r : Finish) (v w : View) → StillHas (finish_act d r) v w → KeepsStrong v w
finish_keeps d r v w has = keeps_strong (finish_act d r) v w (λ k. (finish_spares d r).0 k Strong) has

pub vacate_keeps : (s : ℕ) (v w : View) → StillHas (Some (acts.Vacate s)) v w → KeepsStrong v w
vacate_keeps s v w has = keeps_strong (Some (acts.Vacate s)) v w (λ k. refl) has

pub none_keeps : (v w : View) → StillHas None v w → KeepsStrong v w
none_keeps v w has = keeps_strong None v w (λ k. refl) has

-- what two calls keep
pub kept_on : (u v w : View) → KeepsStrong u v → KeepsStrong v w → KeepsStrong u w
kept_on u v w first second k s class ours = second k s class (first k s class ours)

-- a reference that a call keeps
pub ours_on : (heap : Heap) (v w : Pass) (t : Token) → KeepsStrong (view_of v) (view_of w) → IsOurs heap v t → IsOurs heap w t
ours_on heap v w t kept ours = (ours.0, kept (hand_of t) t.slot 0 ours.1)

-- the hand of a copy isn't the one that was copied
pub up_apart : (heap : Heap) (v w : Pass) (of t : Token) → IsOurs heap v of → IsUp (shape_of heap) of (view_of v) (view_of w) (ups.Ok t) → hand_of t ≢ hand_of of
up_apart heap v w of t ours u = copy_apart (shape_of heap) of t (view_of v) (view_of w) (held heap v of ours) u

-- a deinit that a call without an act keeps
pub dying_on : (heap : Heap) (v w : Pass) (d : Dying) → StillHas None (view_of v) (view_of w) → IsOurDying heap v d → IsOurDying heap w d
dying_on heap v w d has ours = (ours.0, keeps_deinit None (view_of v) (view_of w) d.slot 0 refl has ours.1)

-- the duty that the last reference leaves
pub last_ours : (heap : Heap) (v w : Pass) (t : Token) (d : Dying) → IsOurs heap v t → IsReleased (shape_of heap) t (view_of v) (view_of w) (releases.Last d) → IsOurDying heap w d
last_ours heap v w t d ours r = (subst (λ s. s < (shape_of heap).slots) (sym r.0) ours.0, r.1 0 ours.1)

-- the first class
first_class : (cs : List ObjectClass) (c d : ObjectClass) → slice_get cs 0 ≡ Some c → slice_index_or cs 0 d ≡ c
first_class [] c d e = absurd (None≢Some c e)
first_class (x ∷ cs) c d e = Some-inj e

some_class : (cs : List ObjectClass) (c : ObjectClass) → slice_get cs 0 ≡ Some c → 0 < length cs
some_class [] c e = absurd (None≢Some c e)
some_class (x ∷ cs) c e = omega arith

-- there is class 0
pub has_class : (heap : Heap) → IsPlain heap → 0 < length (shape_of heap).classes
has_class heap plain = some_class (shape_of heap).classes (record { fields = []; immortal = false }) plain

-- one object is in a slot, and its class has no field
pub bare : (heap : Heap) (pass : Pass) (d : Dying) → IsReady heap pass → IsPlain heap → IsOurDying heap pass d → HasNoField (shape_of heap) (view_of pass) d.slot
bare heap pass d ready plain (lt, (i, o, at, duty, slot, class)) other (j, q, there, owes, place, named) =
    let one = slot_found (shape_of heap) (view_of pass).seen i d.slot o ready.2 at slot in
    let two = slot_found (shape_of heap) (view_of pass).seen j d.slot q ready.2 there place in
    let same : o ≡ q = Some-inj (sym one ∙ two) in
    let zero : 0 ≡ other = sym class ∙ (ap (λ (x : Object). x.class) same ∙ named) in
    subst (λ c. (class_at (shape_of heap) c).fields ≡ []) zero (ap (λ (c : ObjectClass). c.fields) (first_class (shape_of heap).classes (record { fields = []; immortal = false }) (record { fields = []; immortal = false }) plain))

-- what a call that makes no object leaves of how many the pass made
pub made_none : (heap : Heap) (n : ℕ) (v w : Pass) → IsCall (shape_of heap) None n v.part w.part → news (view_of v).number (view_of v).seen < 100000 → news (view_of w).number (view_of w).seen < 100000
made_none heap n v w c room = subst (λ m. m < 100000) (sym (news_none n (view_of v) (view_of w) c.1.called.grew)) room

-- a call is of the same pass
pub same_on : (heap : Heap) (act : Option Act) (n : ℕ) (u : View) (v w : Pass) → IsSamePass u (view_of v) → IsCall (shape_of heap) act n v.part w.part → IsSamePass u (view_of w)
same_on heap act n u v w same c = (c.1.called.grew.role ∙ same.0, c.1.called.grew.number ∙ same.1, c.1.called.grew.splits ∙ same.2)

-- a reference that a call without an act keeps
pub of_class_on : (heap : Heap) (class : ℕ) (v w : Pass) (t : Token) → StillHas None (view_of v) (view_of w) → IsOfClass class heap v t → IsOfClass class heap w t
of_class_on heap class v w t has of = (of.0, none_keeps (view_of v) (view_of w) has (hand_of t) t.slot class of.1)

-- there is class 1
second_class : (cs : List ObjectClass) (c d : ObjectClass) → slice_get cs 1 ≡ Some c → (1 < length cs) × (slice_index_or cs 1 d ≡ c)
second_class [] c d e = absurd (None≢Some c e)
second_class (x ∷ []) c d e = absurd (None≢Some c e)
second_class (x ∷ y ∷ cs) c d e = (omega arith, Some-inj e)

pub has_second : (heap : Heap) → HasImmortal heap → 1 < length (shape_of heap).classes
has_second heap immortal = (second_class (shape_of heap).classes (record { fields = []; immortal = true }) (record { fields = []; immortal = false }) immortal).0

-- a reference to an immortal object isn't the last
pub not_last : (heap : Heap) (v w : Pass) (t : Token) (d : Dying) → HasImmortal heap → IsOfClass 1 heap v t → IsReleased (shape_of heap) t (view_of v) (view_of w) (releases.Last d) → ⊥
not_last heap v w t d immortal of r =
    let is = (second_class (shape_of heap).classes (record { fields = []; immortal = true }) (record { fields = []; immortal = false }) immortal).1 in
    true≢false (sym (ap (λ (c : ObjectClass). c.immortal) is) ∙ r.2 1 of.1)

-- steps that were made are steps since, call after call
pub walked_self : (v : View) → Walked v v
walked_self v = record { marks = []; trail = refl }

pub walked_on : (u v w : View) → Walked u v → Walked v w → Walked u w
walked_on u v w a b = record { marks = b.marks ++ a.marks; trail = b.trail ∙ (ap (λ l. b.marks ++ l) a.trail ∙ sym (append_assoc b.marks a.marks u.trail)) }

pub lost_walked : (shape : HeapShape) (c : Changed) (v w : View) → LostSlot shape c v w → Walked v w
lost_walked shape c v w l = record { marks = l.second ∷ l.first ∷ l.before; trail = l.trail }

read_walked : (place : ℕ) (c : Changed) (v w : View) → ReadTwice place c v w → Walked v w
read_walked place c v w r = record { marks = r.second ∷ r.first ∷ r.before; trail = r.trail }

pub changed_walked : (shape : HeapShape) (k s : ℕ) (c : Changed) (v w : View) → ChangedCount shape k s c v w → Walked v w
changed_walked shape k s c v w (inline r) = read_walked _ c v w r
changed_walked shape k s c v w (in_entry e has r) = read_walked _ c v w r

-- a load that a later call made
loaded_on : (place word : ℕ) (u v w : View) → Walked u v → Loaded place word v w → Loaded place word u w
loaded_on place word u v w a l = record {
  mark = l.mark;
  before = l.before ++ a.marks;
  trail = l.trail ∙ ap (λ x. l.mark ∷ x) (ap (λ x. l.before ++ x) a.trail ∙ sym (append_assoc l.before a.marks u.trail));
  loads = l.loads;
  found = l.found;
}

-- a count that a later call found at its greatest
pub found_on : (heap : Heap) (t : Token) (u v w : View) → Walked u v → FoundAtCap heap v w t → FoundAtCap heap u w t
found_on heap t u v w a (inl l) = inl (record { word = l.word; counts = l.counts; loaded = loaded_on _ l.word u v w a l.loaded; packs = l.packs; live = l.live; at_cap = l.at_cap })
found_on heap t u v w a (inr l) = inr (record { entry = l.entry; has = l.has; loaded = loaded_on _ _ u v w a l.loaded })

pub capped : (heap : Heap) (t : Token) (u v w : View) (r : Up Token) → Walked u v → IsUp (shape_of heap) t v w r → (r ≡ ups.AtCap) ⊎ (r ≡ ups.CountFull) → FoundAtCap heap u w t
capped heap t u v w r a up (inl is) = found_on heap t u v w a (inl (subst (IsUp (shape_of heap) t v w) is up))
capped heap t u v w r a up (inr is) = found_on heap t u v w a (inr (subst (IsUp (shape_of heap) t v w) is up))
