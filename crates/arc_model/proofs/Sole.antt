-- What other threads leave of an object's lists, where a thread's hand is the only holder.
use Rattle.std.proofs.Common.{◌≡◌, ℕ, zero, suc, ◌≤◌, Bool, true, false, List, [], ◌∷◌, ◌++◌, Option, Some, None, ◌⊎◌, inl, inr, refl, sym, ap, ◌∙◌, subst, arith}
use Rattle.std.specs.Prelude.{slice_get, ◌||◌}
use Rattle.arc_model.specs.declared.event.Act.{Act}
use Rattle.arc_model.specs.declared.shape.Kind.{Kind}
use Rattle.arc_model.specs.declared.shape.Kind.TheVariants.{Strong, Unowned, Weak}
use Rattle.arc_model.specs.Shapes.{HeapShape}
use Rattle.arc_model.specs.Heaps.{Holder, Hand, Strongs, Unowneds, Object, Heap}
use Rattle.arc_model.specs.Cells.{strong_holders, is_live}
use Rattle.arc_model.specs.Holders.{same_holder, is_in, is_empty, holds, list_of, with_list}
use Rattle.arc_model.specs.Effects.{made}
use Rattle.arc_model.specs.History.{History, heap_after, next_hand, brings, share, IsLegal}
use Rattle.arc_model.specs.WellFormed.{more, tally, is_own, IsWhole, IsWellFormed}
use Rattle.arc_model.specs.Lookup.{list_in}
use Rattle.arc_model.specs.Others.{SoleHolderStays, IsUnshared, UnsharedStays}
use Rattle.arc_model.proofs.Basics.{true≢false, live-not_empty, some-strong}
use Rattle.arc_model.proofs.Tally.{no, clash, same-eq, same-refl}
use Rattle.arc_model.proofs.Turns.{old-put, Edit, keep, join, rename, leave, edited, goes, comes, Fits, is_join, tally-edited, Source, Turn}
use Rattle.arc_model.proofs.Keeps.{end-at, kept-turn, Course, still, makes, turn, turns}
use Rattle.arc_model.proofs.Stages.{live-facts}
use Rattle.arc_model.proofs.Builds.{advance}
use Rattle.arc_model.proofs.Courses.{course_after, well_formed}
use Rattle.arc_model.proofs.Others.{false-if, not-among}

-- the object at place i is there, with what P says of it
abbrev At : (Object → Type 0) → ℕ → Heap → Type 0
At P i heap = (q : Object) × (slice_get heap.objects i ≡ Some q) × P q

-- what each turn of a thread keeps of an object, its events keep
course-keeps : {shape : HeapShape} (P : Object → Type 0) (r : ℕ) (act : Act) → ((next since : ℕ → ℕ) (old new : Heap) → Turn shape r act next since old new → IsWellFormed shape next old → (i : ℕ) → At P i old → At P i new) →
    (next since : ℕ → ℕ) (old new : Heap) → Course shape r act next since old new → IsWellFormed shape next old → (i : ℕ) → At P i old → At P i new
course-keeps P r act keeps next since old new (still same entries grows claims taken) wf i here = (here.0, ap (λ os. slice_get os i) same ∙ here.1, here.2)
course-keeps P r act keeps next since old new (makes k c s is is_next later grows free) wf i here =
    (here.0, ap (λ (heap : Heap). slice_get heap.objects i) is ∙ end-at old.objects (made r k c s old.objects) i here.0 here.1, here.2)
course-keeps P r act keeps next since old new (turn t) wf i here = keeps next since old new t wf i here
course-keeps P r act keeps next since old new (turns between mid t u cell left came swaps) wf i here =
    keeps between since mid new u (kept-turn r act next between old mid t wf) i (keeps next between old mid t wf i here)

others-keep : (shape : HeapShape) (p : ℕ) (P : Object → Type 0) → ((r : ℕ) → (r ≡ p → ⊥) → (act : Act) (next since : ℕ → ℕ) (old new : Heap) → Turn shape r act next since old new → IsWellFormed shape next old → (i : ℕ) → At P i old → At P i new) →
    (before after : History) → IsLegal shape (after ++ before) → share after p ≡ [] → (i : ℕ) → At P i (heap_after before) → At P i (heap_after (after ++ before))
others-keep shape p P keeps before [] legal none i here = here
others-keep shape p P keeps before (e ∷ after) legal none i here =
    let apart = not-among p e after none in
    let hs = after ++ before in
    let wf = well_formed shape hs legal.1 in
    course-keeps P e.thread e.act (keeps e.thread apart.0 e.act) (λ q. next_hand q hs) (advance (brings e.act) e.thread (λ q. next_hand q hs)) (heap_after hs) (heap_after (e ∷ hs)) (course_after shape e hs legal wf) wf i (others-keep shape p P keeps before after legal.1 apart.1 i here)

-- at the place of a turn: the object that it changes, or another
at-turn : {shape : HeapShape} (P : Object → Type 0) (r : ℕ) (act : Act) (next since : ℕ → ℕ) (old new : Heap) (t : Turn shape r act next since old new) (i : ℕ) → At P i old → (slice_get old.objects i ≡ Some t.o → P t.o → P t.q) → At P i new
at-turn P r act next since old new t i here keeps =
    elim (old-put old.objects new.objects t.o t.q t.put i here.0 here.1) [
      | inl same ↦ (here.0, same, here.2)
      | inr turned ↦ (t.q, turned.1, keeps (here.1 ∙ ap Some turned.0) (subst P turned.0 here.2))
    ]

-- in a list of one
one-in : (x z : Holder) → is_in x (z ∷ []) ≡ true → x ≡ z
one-in x z h = go (same_holder x z) refl h
  where
    go : (b : Bool) → same_holder x z ≡ b → (b || false) ≡ true → x ≡ z
    go true e h = same-eq x z e
    go false e h = no h

one-tally : (x z : Holder) → 1 ≤ tally x (z ∷ []) → same_holder z x ≡ true
one-tally x z h = go (same_holder x z) refl h
  where
    go : (b : Bool) → same_holder x z ≡ b → 1 ≤ more b zero → same_holder z x ≡ true
    go true e h = ap (λ v. same_holder v x) (sym (same-eq x z e)) ∙ same-refl x
    go false e h = absurd (omega arith)

-- a list of one, to which nothing joins and which z doesn't leave
edited-one : (e : Edit) (z : Holder) → Fits e (z ∷ []) → is_join e ≡ false → goes e z ≡ false → edited e (z ∷ []) ≡ z ∷ []
edited-one keep z fits j g = refl
edited-one (join y) z fits j g = absurd (true≢false j)
edited-one (rename x y) z fits j g = clash (same_holder z x) (one-tally x z fits) g
edited-one (leave x) z fits j g = clash (same_holder z x) (one-tally x z fits) g

same-kind : (j k : Kind) → (j ≡ k) ⊎ (j ≡ k → ⊥)
same-kind Strong Strong = inl refl
same-kind Strong Unowned = inr (λ e. cc)
same-kind Strong Weak = inr (λ e. cc)
same-kind Unowned Strong = inr (λ e. cc)
same-kind Unowned Unowned = inl refl
same-kind Unowned Weak = inr (λ e. cc)
same-kind Weak Strong = inr (λ e. cc)
same-kind Weak Unowned = inr (λ e. cc)
same-kind Weak Weak = inl refl

-- a turn changes one list, by its edit
turned-list : (j k : Kind) (f : List Holder → List Holder) (o q : Object) → q.strong ≡ (with_list k f o).strong → q.unowned ≡ (with_list k f o).unowned → q.weak ≡ (with_list k f o).weak → (list_of j q ≡ list_of j o) ⊎ ((k ≡ j) × (list_of j q ≡ f (list_of j o)))
turned-list Strong Strong f o q s u w = inr (refl, s)
turned-list Strong Unowned f o q s u w = inl s
turned-list Strong Weak f o q s u w = inl s
turned-list Unowned Strong f o q s u w = inl u
turned-list Unowned Unowned f o q s u w = inr (refl, u)
turned-list Unowned Weak f o q s u w = inl u
turned-list Weak Strong f o q s u w = inl w
turned-list Weak Unowned f o q s u w = inl w
turned-list Weak Weak f o q s u w = inr (refl, w)

-- beside the extra holder that stands for it, a live object's list isn't one hand alone
live-more : {A : Type 0} {shape : HeapShape} (p k : ℕ) (j : Kind) (o : Object) → IsWhole shape o → is_live shape o ≡ true → (j ≡ Strong → ⊥) → list_of j o ≡ Hand p k ∷ [] → A
live-more p k Strong o wh live apart is = absurd (apart refl)
live-more {shape = shape} p k Unowned o wh live apart is =
    let a = (live-facts o wh (live-not_empty shape o live)).strongs in
    let b : tally Strongs o.unowned ≡ 0 = ap (tally Strongs) is in absurd (omega arith)
live-more {shape = shape} p k Weak o wh live apart is =
    let a = (live-facts o wh (live-not_empty shape o live)).unowneds in
    let b : tally Unowneds o.weak ≡ 0 = ap (tally Unowneds) is in absurd (omega arith)

abbrev IsSole : ℕ → ℕ → Kind → Object → Type 0
IsSole p k j o = list_of j o ≡ Hand p k ∷ []

sole-turn : {shape : HeapShape} (p k : ℕ) (j : Kind) → (j ≡ Strong → ⊥) → (r : ℕ) → (r ≡ p → ⊥) → (act : Act) (next since : ℕ → ℕ) (old new : Heap) → Turn shape r act next since old new → IsWellFormed shape next old → (i : ℕ) → At (IsSole p k j) i old → At (IsSole p k j) i new
sole-turn {shape = shape} p k j apart r other act next since old new t wf i here = at-turn (IsSole p k j) r act next since old new t i here keeps
  where
    its : (t.kind ≡ j) → IsSole p k j t.o → IsWhole shape t.o → edited t.edit (Hand p k ∷ []) ≡ Hand p k ∷ []
    its same sole wh =
        let list : list_of t.kind t.o ≡ Hand p k ∷ [] = ap (λ l. list_of l t.o) same ∙ sole in
        edited-one t.edit (Hand p k) (subst (Fits t.edit) list t.fits)
        (false-if (is_join t.edit) (λ joins. joined (t.joins joins) list sole wh))
        (false-if (goes t.edit (Hand p k)) (λ g. other (sym (t.was_mine p k g).0)))
      where
        joined : Source shape r t.o t.kind → list_of t.kind t.o ≡ Hand p k ∷ [] → IsSole p k j t.o → IsWhole shape t.o → ⊥
        joined source list sole wh = elim source.list [
          | inl inside ↦ other (sym (source.mine p k (ap (same_holder (Hand p k)) (one-in source.from (Hand p k) (sym (ap (is_in source.from) list) ∙ inside)) ∙ same-refl (Hand p k))))
          | inr live ↦ live-more p k j t.o wh live apart sole
        ]

    keeps : slice_get old.objects i ≡ Some t.o → IsSole p k j t.o → IsSole p k j t.q
    keeps at sole = elim (turned-list j t.kind (edited t.edit) t.o t.q t.strong t.unowned t.weak) [
      | inl same ↦ same ∙ sole
      | inr turned ↦ turned.1 ∙ ap (edited t.edit) sole ∙ its turned.0 sole (wf.whole i t.o at)
    ]

list-at : (p k : ℕ) (j : Kind) (i : ℕ) (heap : Heap) → list_in j (slice_get heap.objects i) ≡ Hand p k ∷ [] → At (IsSole p k j) i heap
list-at p k j i heap h = go (slice_get heap.objects i) refl h
  where
    none : [] ≡ Hand p k ∷ [] → ⊥
    none e = cc

    go : (m : Option Object) → slice_get heap.objects i ≡ m → list_in j m ≡ Hand p k ∷ [] → At (IsSole p k j) i heap
    go None e h = absurd (none h)
    go (Some o) e h = (o, e, h)

pub sole_holder_stays : SoleHolderStays
sole_holder_stays shape p k before after i j legal none apart h =
    let q = others-keep shape p (IsSole p k j) (sole-turn p k j apart) before after legal none i (list-at p k j i (heap_after before) h) in
    ap (list_in j) q.1 ∙ q.2

-- the one holder of each list where nothing else refers to the object
abbrev sole_of : ℕ → ℕ → Kind → Holder
sole_of p k Strong = Hand p k
sole_of p k Unowned = Strongs
sole_of p k Weak = Unowneds

list-of : (p k : ℕ) (o : Object) → IsUnshared p k o → (j : Kind) → list_of j o ≡ sole_of p k j ∷ []
list-of p k o u Strong = u.strong
list-of p k o u Unowned = u.unowned
list-of p k o u Weak = u.weak

unshared-turn : {shape : HeapShape} (p k : ℕ) (r : ℕ) → (r ≡ p → ⊥) → (act : Act) (next since : ℕ → ℕ) (old new : Heap) → Turn shape r act next since old new → IsWellFormed shape next old → (i : ℕ) → At (IsUnshared p k) i old → At (IsUnshared p k) i new
unshared-turn {shape = shape} p k r other act next since old new t wf i here = at-turn (IsUnshared p k) r act next since old new t i here keeps
  where
    -- what one of its holders is
    its-own : (x : Holder) (o : Object) → IsUnshared p k o → is_own x ≡ true → holds x o ≡ true → x ≡ Hand p k
    its-own x o u own inside = go (is_in x o.strong) (is_in x o.unowned) (is_in x o.weak) refl refl refl inside
      where
        go : (a b c : Bool) → is_in x o.strong ≡ a → is_in x o.unowned ≡ b → is_in x o.weak ≡ c → (a || b || c) ≡ true → x ≡ Hand p k
        go true b c ea eb ec h = one-in x (Hand p k) (sym (ap (is_in x) u.strong) ∙ ea)
        go false true c ea eb ec h = no (ap is_own (sym (one-in x Strongs (sym (ap (is_in x) u.unowned) ∙ eb))) ∙ own)
        go false false true ea eb ec h = no (ap is_own (sym (one-in x Unowneds (sym (ap (is_in x) u.weak) ∙ ec))) ∙ own)
        go false false false ea eb ec h = no h

    not-joined : IsUnshared p k t.o → is_join t.edit ≡ true → ⊥
    not-joined u joins =
        let source = t.joins joins in
        other (sym (source.mine p k (ap (same_holder (Hand p k)) (its-own source.from t.o u source.own source.inside) ∙ same-refl (Hand p k))))

    -- an extra holder that goes would leave a live object without it
    extra : (z : Holder) (xs : List Holder) → Fits t.edit xs → xs ≡ z ∷ [] → tally z (edited t.edit xs) ≡ 1 → comes t.edit z ≡ false → goes t.edit z ≡ false
    extra z xs fits is stays c = false-if (goes t.edit z) (λ g.
        let a = tally-edited t.edit z xs fits in
        let b : more (goes t.edit z) (tally z (edited t.edit xs)) ≡ suc (tally z (edited t.edit xs)) = ap (λ b. more b (tally z (edited t.edit xs))) g in
        let d : more (comes t.edit z) (tally z xs) ≡ tally z xs = ap (λ b. more b (tally z xs)) c in
        let e : tally z xs ≡ more (same_holder z z) zero = ap (tally z) is in
        let f : more (same_holder z z) zero ≡ 1 = ap (λ b. more b zero) (same-refl z) in absurd (omega arith))

    stays : (j : Kind) → t.kind ≡ j → IsUnshared p k t.o → goes t.edit (sole_of p k j) ≡ false → list_of j t.q ≡ edited t.edit (list_of j t.o) → list_of j t.q ≡ list_of j t.o
    stays j same u g is =
        let one = list-of p k t.o u j in
        is ∙ ap (edited t.edit) one ∙ edited-one t.edit (sole_of p k j) (subst (Fits t.edit) (ap (λ l. list_of l t.o) same ∙ one) t.fits) (false-if (is_join t.edit) (not-joined u)) g ∙ sym one

    still-live : IsUnshared p k t.o → t.q.strong ≡ t.o.strong → is_empty (strong_holders shape t.q) ≡ false
    still-live u s = some-strong shape t.q (ap is_empty (s ∙ u.strong))

    same-lists : (j : Kind) → t.kind ≡ j → IsUnshared p k t.o → (t.q.strong ≡ t.o.strong) × (t.q.unowned ≡ t.o.unowned) × (t.q.weak ≡ t.o.weak)
    same-lists Strong same u =
        let w = ap (λ l. with_list l (edited t.edit) t.o) same in (
          stays Strong same u (false-if (goes t.edit (Hand p k)) (λ g. other (sym (t.was_mine p k g).0))) (t.strong ∙ ap (λ (o : Object). o.strong) w),
          t.unowned ∙ ap (λ (o : Object). o.unowned) w,
          t.weak ∙ ap (λ (o : Object). o.weak) w,
        )
    same-lists Unowned same u =
        let w = ap (λ l. with_list l (edited t.edit) t.o) same in
        let s = t.strong ∙ ap (λ (o : Object). o.strong) w in
        let is = t.unowned ∙ ap (λ (o : Object). o.unowned) w in (
          s,
          stays Unowned same u (extra Strongs t.o.unowned (subst (λ l. Fits t.edit (list_of l t.o)) same t.fits) u.unowned (sym (ap (tally Strongs) is) ∙ (live-facts t.q t.whole (still-live u s)).strongs) t.no_strongs) is,
          t.weak ∙ ap (λ (o : Object). o.weak) w,
        )
    same-lists Weak same u =
        let w = ap (λ l. with_list l (edited t.edit) t.o) same in
        let s = t.strong ∙ ap (λ (o : Object). o.strong) w in
        let is = t.weak ∙ ap (λ (o : Object). o.weak) w in (
          s,
          t.unowned ∙ ap (λ (o : Object). o.unowned) w,
          stays Weak same u (extra Unowneds t.o.weak (subst (λ l. Fits t.edit (list_of l t.o)) same t.fits) u.weak (sym (ap (tally Unowneds) is) ∙ (live-facts t.q t.whole (still-live u s)).unowneds) t.no_unowneds) is,
        )

    keeps : slice_get old.objects i ≡ Some t.o → IsUnshared p k t.o → IsUnshared p k t.q
    keeps at u = let l = same-lists t.kind refl u in record { strong = l.0 ∙ u.strong; unowned = l.1 ∙ u.unowned; weak = l.2 ∙ u.weak }

pub unshared_stays : UnsharedStays
unshared_stays shape p k before after i o legal none h u = others-keep shape p (IsUnshared p k) (unshared-turn p k) before after legal none i (o, h, u)
