-- Slots and entries stay within the shape.
use Rattle.std.proofs.Common.{◌≡◌, ℕ, zero, suc, ◌<◌, ◌==◌, Bool, true, false, cond, not, List, [], ◌∷◌, ◌++◌, filter, Option, Some, None, refl, sym, ap, ◌∙◌, subst}
use Rattle.std.specs.Prelude.{find, slice_get, ◌&&◌, ◌||◌}
use Rattle.std.specs.List.{list_any}
use Rattle.std.proofs.lemmas.Bool.{and_parts, eqb-true}
use Rattle.arc_model.specs.declared.event.Act.{Act}
use Rattle.arc_model.specs.declared.event.Act.TheVariants as acts
use Rattle.arc_model.specs.declared.event.Got.TheVariants as got
use Rattle.arc_model.specs.declared.event.CellName.TheVariants as cells
use Rattle.arc_model.specs.declared.shape.Kind.{Kind}
use Rattle.arc_model.specs.declared.shape.Kind.TheVariants.{Strong, Unowned, Weak}
use Rattle.arc_model.specs.Shapes.{HeapShape}
use Rattle.arc_model.specs.Heaps.{Holder, Hand, Strongs, Unowneds, Object, Claimed, Heap}
use Rattle.arc_model.specs.Holders.{at_first, holds, in_slot, has_entry, held_by, at_entry, claims_it, lists, gains, with_list, with_last, without, renamed, change, kind_in}
use Rattle.arc_model.specs.Cells.{cell, origin}
use Rattle.arc_model.specs.Needs.{Sight, needs, first_failing}
use Rattle.arc_model.specs.Effects.{effect, ended_if, given_up, entry_to, entry_left, entry_of_last, finished, vacated, left_slot, gone, claimed_if, owing_none}
use Rattle.arc_model.proofs.Basics.{None≢Some, Some-inj, true≢false, met}
use Rattle.arc_model.proofs.Builds.{entry_to-objects, find-passes, some-is}
use Rattle.arc_view.specs.Views.{Each}
use Rattle.arc_view.specs.Rule.{IsWithin, IsClaimWithin, is_new}
use Rattle.arc_view.proofs.Put.{is_number_some}

each_change : (P : Object → Type 0) (test : Object → Bool) (f : Object → Object) (os : List Object) → ((o : Object) → P o → P (f o)) → Each P os → Each P (at_first test f os)
each_change P test f [] keep h = tt
each_change P test f (o ∷ os) keep h = go (test o) (each_change P test f os keep h.1)
  where
    go : (b : Bool) → Each P (at_first test f os) → Each P (cond b (f o ∷ os) (o ∷ at_first test f os))
    go true ih = (keep o h.0, h.1)
    go false ih = (h.0, ih)

each_find : (P : Object → Type 0) (test : Object → Bool) (os : List Object) (o : Object) → Each P os → find test os ≡ Some o → P o
each_find P test [] o h e = absurd (None≢Some o e)
each_find P test (r ∷ os) o h e = go (test r) e (each_find P test os o h.1)
  where
    go : (b : Bool) → cond b (Some r) (find test os) ≡ Some o → (find test os ≡ Some o → P o) → P o
    go true e ih = subst P (Some-inj e) h.0
    go false e ih = ih e

pub each_at : {A : Type 0} (P : A → Type 0) (xs : List A) (i : ℕ) (x : A) → Each P xs → slice_get xs i ≡ Some x → P x
each_at P [] i x h e = absurd (None≢Some x e)
each_at P (y ∷ ys) zero x h e = subst P (Some-inj e) h.0
each_at P (y ∷ ys) (suc i) x h e = each_at P ys i x h.1 e

pub each_end : {A : Type 0} (P : A → Type 0) (xs : List A) (x : A) → Each P xs → P x → Each P (xs ++ x ∷ [])
each_end P [] x h p = (p, tt)
each_end P (y ∷ ys) x h p = (h.0, each_end P ys x h.1 p)

each_filter : (P : Claimed → Type 0) (test : Claimed → Bool) (cs : List Claimed) → Each P cs → Each P (filter test cs)
each_filter P test [] h = tt
each_filter P test (c ∷ cs) h = go (test c) (each_filter P test cs h.1)
  where
    go : (b : Bool) → Each P (filter test cs) → Each P (cond b (c ∷ filter test cs) (filter test cs))
    go true ih = (h.0, ih)
    go false ih = ih

pub claim_within : (shape : HeapShape) (p e : ℕ) (cs : List Claimed) → Each (IsClaimWithin shape) cs → list_any (λ c. c.thread == p && c.entry == e) cs ≡ true → e < shape.entries
claim_within shape p e [] h any = absurd (true≢false (sym any))
claim_within shape p e (c ∷ cs) h any = go (c.thread == p && c.entry == e) refl any (claim_within shape p e cs h.1)
  where
    go : (b : Bool) → (c.thread == p && c.entry == e) ≡ b → (b || list_any (λ c. c.thread == p && c.entry == e) cs) ≡ true → (list_any (λ c. c.thread == p && c.entry == e) cs ≡ true → e < shape.entries) → e < shape.entries
    go true is any ih = subst (λ n. n < shape.entries) (eqb-true c.entry e (and_parts (c.thread == p) (c.entry == e) is).1) h.0
    go false is any ih = ih any

listed_within : (shape : HeapShape) (k : Kind) (f : List Holder → List Holder) (o : Object) → IsWithin shape o → IsWithin shape (with_list k f o)
listed_within shape Strong f o w = w
listed_within shape Unowned f o w = w
listed_within shape Weak f o w = w

ended_within : (shape : HeapShape) (last : Bool) (p : ℕ) (k : Kind) (o : Object) → IsWithin shape o → IsWithin shape (ended_if last p k o)
ended_within shape true p Strong o w = w
ended_within shape true p Unowned o w = w
ended_within shape true p Weak o w = (w.0, λ e is. absurd (None≢Some e is))
ended_within shape false p k o w = w

left_within : (shape : HeapShape) (p : ℕ) (m : Option ℕ) (o : Object) → IsWithin shape o → IsWithin shape (left_slot p m o)
left_within shape p None o w = w
left_within shape p (Some e) o w = w

-- the entry that a last weak holder leaves is that of its object
left_entry : (last : Bool) (k : Kind) (o : Object) (e : ℕ) → entry_of_last last k o ≡ Some e → o.entry ≡ Some e
left_entry true Strong o e is = absurd (None≢Some e is)
left_entry true Unowned o e is = absurd (None≢Some e is)
left_entry true Weak o e is = is
left_entry false k o e is = absurd (None≢Some e is)

entry_to_within : (shape : HeapShape) (p : ℕ) (m : Option ℕ) (heap : Heap) → ((e : ℕ) → m ≡ Some e → e < shape.entries) → Each (IsClaimWithin shape) heap.claims → Each (IsClaimWithin shape) (entry_to p m heap).claims
entry_to_within shape p None heap bound h = h
entry_to_within shape p (Some e) heap bound h = each_end (IsClaimWithin shape) heap.claims (record { thread = p; entry = e }) h (bound e refl)

claimed_if_within : (shape : HeapShape) (last : Bool) (p e : ℕ) (heap : Heap) → e < shape.entries → Each (IsClaimWithin shape) heap.claims → Each (IsClaimWithin shape) (claimed_if last p e heap).claims
claimed_if_within shape true p e heap lt h = each_end (IsClaimWithin shape) heap.claims (record { thread = p; entry = e }) h lt
claimed_if_within shape false p e heap lt h = h

pub claimed_if_objects : (last : Bool) (p e : ℕ) (heap : Heap) → (claimed_if last p e heap).objects ≡ heap.objects
claimed_if_objects true p e heap = refl
claimed_if_objects false p e heap = refl

abbrev pub is_claim : Act → Bool
is_claim (acts.Claim e) = true
is_claim _ = false

abbrev pub AllWithin : HeapShape → Heap → Type 0
AllWithin shape heap = Each (IsWithin shape) heap.objects × Each (IsClaimWithin shape) heap.claims

renamed_within : (shape : HeapShape) (x y : Holder) (os : List Object) → Each (IsWithin shape) os → Each (IsWithin shape) (at_first (holds x) (lists (renamed x y)) os)
renamed_within shape x y os h = each_change (IsWithin shape) (holds x) (lists (renamed x y)) os (λ o w. w) h

-- a legal event other than a `new` or a `claim` keeps them
pub within_after : (shape : HeapShape) (sight : Sight) (p : ℕ) (act : Act) → is_new act ≡ false → is_claim act ≡ false → first_failing (needs shape sight p act) ≡ None → AllWithin shape sight.heap → AllWithin shape (effect p act sight.heap)
within_after shape sight p (acts.New k c s) n c' ok h = absurd (true≢false n)
within_after shape sight p acts.Full n c ok h = h
within_after shape sight p (acts.Copy from k) n c ok h = (each_change (IsWithin shape) (holds (origin sight.heap p from)) (lists (gains (origin sight.heap p from) (Hand p k))) sight.heap.objects (λ o w. w) h.0, h.1)
within_after shape sight p (acts.UnownedOf a k) n c ok h = (each_change (IsWithin shape) (holds (Hand p a)) (with_list Unowned (with_last (Hand p k))) sight.heap.objects (λ o w. w) h.0, h.1)
within_after shape sight p (acts.WeakOf a k) n c ok h = (each_change (IsWithin shape) (holds (Hand p a)) (with_list Weak (with_last (Hand p k))) sight.heap.objects (λ o w. w) h.0, h.1)
within_after shape sight p (acts.Load a (got.Hand k)) n c ok h = (each_change (IsWithin shape) (holds (Hand p a)) (with_list Strong (with_last (Hand p k))) sight.heap.objects (λ o w. w) h.0, h.1)
within_after shape sight p (acts.Load a got.Dead) n c ok h = h
within_after shape sight p (acts.Load a got.Nil) n c ok h = h
within_after shape sight p (acts.Drop a last) n c ok h =
    let m = entry_left (Hand p a) last (held_by (Hand p a) sight.heap) in
    let less = change (holds (Hand p a)) (given_up p (Hand p a) last) sight.heap in
    let r = some-is (held_by (Hand p a) sight.heap) (met (needs shape sight p (acts.Drop a last)) ok).0 in (
      subst (Each (IsWithin shape)) (sym (entry_to-objects p m less)) (each_change (IsWithin shape) (holds (Hand p a)) (given_up p (Hand p a) last) sight.heap.objects (λ o w. ended_within shape last p (kind_in (Hand p a) o) (with_list (kind_in (Hand p a) o) (without (Hand p a)) o) (listed_within shape (kind_in (Hand p a) o) (without (Hand p a)) o w)) h.0),
      entry_to_within shape p m less (λ e is. (each_find (IsWithin shape) (holds (Hand p a)) sight.heap.objects r.0 h.0 r.1).1 e (left_entry last (kind_in (Hand p a) r.0) r.0 e (sym (ap (entry_left (Hand p a) last) r.1) ∙ is))) h.1,
    )
within_after shape sight p (acts.CountFull k from) n c ok h = h
within_after shape sight p (acts.Claim e) n c ok h = absurd (true≢false c)
within_after shape sight p acts.NoEntry n c ok h = h
within_after shape sight p (acts.Side s e why) n c ok h =
    let lt = claim_within shape p e sight.heap.claims h.1 (met (needs shape sight p (acts.Side s e why)) ok).1.0 in (
      each_change (IsWithin shape) (in_slot s) (λ o. record o { entry = Some e }) sight.heap.objects (λ o w. (w.0, λ m is. subst (λ t. t < shape.entries) (Some-inj is) lt)) h.0,
      each_filter (IsClaimWithin shape) (λ t. not (claims_it e t)) sight.heap.claims h.1,
    )
within_after shape sight p (acts.Back e) n c ok h = (h.0, each_filter (IsClaimWithin shape) (λ t. not (claims_it e t)) sight.heap.claims h.1)
within_after shape sight p (acts.Swap c None None) n c' ok h = h
within_after shape sight p (acts.Swap c None (Some k)) n c' ok h = (renamed_within shape (cell sight.heap c) (Hand p k) sight.heap.objects h.0, h.1)
within_after shape sight p (acts.Swap c (Some a) None) n c' ok h = (renamed_within shape (Hand p a) (cell sight.heap c) sight.heap.objects h.0, h.1)
within_after shape sight p (acts.Swap c (Some a) (Some k)) n c' ok h =
    (renamed_within shape (Hand p a) (cell sight.heap c) (at_first (holds (cell sight.heap c)) (lists (renamed (cell sight.heap c) (Hand p k))) sight.heap.objects) (renamed_within shape (cell sight.heap c) (Hand p k) sight.heap.objects h.0), h.1)
within_after shape sight p (acts.Look c) n c' ok h = h
within_after shape sight p (acts.Take s f k) n c ok h = (renamed_within shape (cell sight.heap (cells.Field s f)) (Hand p k) sight.heap.objects h.0, h.1)
within_after shape sight p (acts.Finish s last) n c ok h = (each_change (IsWithin shape) (in_slot s) (finished p last) sight.heap.objects (λ o w. ended_within shape last p Unowned (owing_none (with_list Unowned (without Strongs) o)) w) h.0, h.1)
within_after shape sight p (acts.Vacate s) n c ok h = (each_change (IsWithin shape) (in_slot s) (vacated p) sight.heap.objects (λ o w. left_within shape p o.entry (owing_none (record o { slot = None })) ((λ t is. absurd (None≢Some t is)), w.1)) h.0, h.1)
within_after shape sight p (acts.Gone e last) n c ok h =
    let less = change (has_entry e) (gone p last) sight.heap in
    let r = some-is (at_entry e sight.heap) (met (needs shape sight p (acts.Gone e last)) ok).0 in
    let lt = (each_find (IsWithin shape) (has_entry e) sight.heap.objects r.0 h.0 r.1).1 e (is_number_some r.0.entry e (find-passes (has_entry e) sight.heap.objects r.0 r.1)) in (
      subst (Each (IsWithin shape)) (sym (claimed_if_objects last p e less)) (each_change (IsWithin shape) (has_entry e) (gone p last) sight.heap.objects (λ o w. ended_within shape last p Weak (owing_none (with_list Weak (without Unowneds) o)) w) h.0),
      claimed_if_within shape last p e less lt h.1,
    )
