-- What an index tells of an object by its name.
use Rattle.std.proofs.Common.{◌≡◌, ℕ, zero, suc, ◌+◌, ◌<◌, ◌≤◌, Bool, true, false, cond, eqb, not, List, [], ◌∷◌, length, Option, Some, None, refl, sym, ap, ◌∙◌, arith}
use Rattle.std.specs.Prelude.{slice_get, find}
use Rattle.arc_model.specs.declared.event.ObjectId.{ObjectId}
use Rattle.arc_model.specs.declared.event.Life.{Life}
use Rattle.arc_model.specs.declared.event.Life.TheVariants.{Live, Deiniting, Deinited, Freed, Dead}
use Rattle.arc_model.specs.declared.shape.Kind.{Kind}
use Rattle.arc_model.specs.Shapes.{HeapShape}
use Rattle.arc_model.specs.Heaps.{Holder, Strongs, Deinit, Vacating, Gone, Object, Heap}
use Rattle.arc_model.specs.Holders.{same_id, is_in, is_empty, is_duty}
use Rattle.arc_model.specs.Cells.{strong_holders}
use Rattle.arc_model.specs.Life.{life_of}
use Rattle.arc_model.specs.WellFormed.{IsWhole, tally}
use Rattle.arc_model.specs.History.{History, heap_after}
use Rattle.arc_model.proofs.Courses.{well_formed}
use Rattle.arc_model.proofs.Tally.{tally-in, tally-out}
use Rattle.arc_heap_index.specs.declared.counted.Counted.{Counted}
use Rattle.arc_heap_index.specs.declared.counted.Due.TheVariants as due
use Rattle.arc_heap_index.specs.declared.counted.Debt.{Debt}
use Rattle.arc_heap_index.specs.Counting.{is_alive}
use Rattle.arc_heap_judge.specs.Index.{Index}
use Rattle.arc_heap.specs.Asked.{is_due_deinit, life_told, lived, held_in}
use Rattle.arc_heap_judge.specs.Stands.{IsCounted, AreCounted, owed_of, StandsFor}
use Rattle.arc_heap.specs.Applied.{named, life_in, holders_in}
use Rattle.arc_heap_judge.proofs.Told.{true≢false}
use Rattle.arc_heap_judge.proofs.Judges.{alive, holders-same}
use Rattle.arc_heap.proofs.Slotted.{same_length}

-- the same object in both
both-named : (id : ObjectId) (xs : List Counted) (os : List Object) → ((i : ℕ) → AreCounted (slice_get xs i) (slice_get os i)) → AreCounted (find (λ c. same_id c.id id) xs) (find (λ o. same_id o.id id) os)
both-named id [] [] h = tt
both-named id [] (o ∷ os) h = absurd (h zero)
both-named id (x ∷ xs) [] h = absurd (h zero)
both-named id (x ∷ xs) (o ∷ os) h = go (same_id x.id id) (same_id o.id id) (ap (λ i. same_id i id) (IsCounted.id (h zero))) (h zero) (both-named id xs os (λ i. h (suc i)))
  where
    go : (a b : Bool) → a ≡ b → IsCounted x o → AreCounted (find (λ c. same_id c.id id) xs) (find (λ o. same_id o.id id) os) → AreCounted (cond a (Some x) (find (λ c. same_id c.id id) xs)) (cond b (Some o) (find (λ o. same_id o.id id) os))
    go true true e like ih = like
    go true false e like ih = true≢false e
    go false true e like ih = true≢false (sym e)
    go false false e like ih = ih

pub holders-told : (ix : Index) (h : History) → StandsFor ix h → (id : ObjectId) (list : Kind) → held_in ix.shape list (find (λ c. same_id c.id id) ix.objects) ≡ holders_in ix.shape list (named id (heap_after h))
holders-told ix h st id list = go (find (λ c. same_id c.id id) ix.objects) (named id (heap_after h)) (both-named id ix.objects (heap_after h).objects st.tells.counted)
  where
    go : (c : Option Counted) (o : Option Object) → AreCounted c o → held_in ix.shape list c ≡ holders_in ix.shape list o
    go None None like = refl
    go (Some c) None like = absurd like
    go None (Some o) like = absurd like
    go (Some c) (Some o) like = ap Some (holders-same ix.shape list c o like)

pub objects-told : (ix : Index) (h : History) → StandsFor ix h → length ix.objects ≡ length (heap_after h).objects
objects-told ix h st = same_length ix.objects (heap_after h).objects st.tells.counted

-- while the strong list is empty, Strongs is there exactly where the deinit is owed
strongs-there : (shape : HeapShape) (o : Object) → IsWhole shape o → is_empty (strong_holders shape o) ≡ true → is_in Strongs o.unowned ≡ is_duty Deinit o.owed
strongs-there shape o (Rattle.arc_model.specs.WellFormed.live s d l a b p) e = true≢false (sym e ∙ s)
strongs-there shape o (Rattle.arc_model.specs.WellFormed.deiniting s d l a b p) e = tally-in Strongs o.unowned (omega arith) ∙ sym d
strongs-there shape o (Rattle.arc_model.specs.WellFormed.deinited s d l a u b p) e = tally-out Strongs o.unowned a ∙ sym (ap (is_duty Deinit) d)
strongs-there shape o (Rattle.arc_model.specs.WellFormed.vacating s d l u b p) e = none-in o.unowned u ∙ sym (not-both Vacating o.owed refl d)
  where
    none-in : (xs : List Holder) → is_empty xs ≡ true → is_in Strongs xs ≡ false
    none-in [] e = refl
    none-in (x ∷ xs) e = true≢false (sym e)

    not-both : (duty : Rattle.arc_model.specs.Heaps.Duty) (m : Option Rattle.arc_model.specs.Heaps.Owed) → Rattle.arc_model.specs.Holders.same_duty Deinit duty ≡ false → is_duty duty m ≡ true → is_duty Deinit m ≡ false
    not-both duty m f g = go (is_duty Deinit m) refl
      where
        go : (b : Bool) → is_duty Deinit m ≡ b → b ≡ false
        go true e = sym (Rattle.arc_model.proofs.Stages.duty-apart Deinit duty m e g) ∙ f
        go false e = refl
strongs-there shape o (Rattle.arc_model.specs.WellFormed.going s d l u b p) e = none-in o.unowned u ∙ sym (not-both Gone o.owed refl d)
  where
    none-in : (xs : List Holder) → is_empty xs ≡ true → is_in Strongs xs ≡ false
    none-in [] e = refl
    none-in (x ∷ xs) e = true≢false (sym e)

    not-both : (duty : Rattle.arc_model.specs.Heaps.Duty) (m : Option Rattle.arc_model.specs.Heaps.Owed) → Rattle.arc_model.specs.Holders.same_duty Deinit duty ≡ false → is_duty duty m ≡ true → is_duty Deinit m ≡ false
    not-both duty m f g = go (is_duty Deinit m) refl
      where
        go : (b : Bool) → is_duty Deinit m ≡ b → b ≡ false
        go true e = sym (Rattle.arc_model.proofs.Stages.duty-apart Deinit duty m e g) ∙ f
        go false e = refl
strongs-there shape o (Rattle.arc_model.specs.WellFormed.freed s d l u b w e') e = none-in o.unowned u ∙ sym (ap (is_duty Deinit) d)
  where
    none-in : (xs : List Holder) → is_empty xs ≡ true → is_in Strongs xs ≡ false
    none-in [] e = refl
    none-in (x ∷ xs) e = true≢false (sym e)
strongs-there shape o (Rattle.arc_model.specs.WellFormed.dead s d l u w e') e = none-in o.unowned u ∙ sym (ap (is_duty Deinit) d)
  where
    none-in : (xs : List Holder) → is_empty xs ≡ true → is_in Strongs xs ≡ false
    none-in [] e = refl
    none-in (x ∷ xs) e = true≢false (sym e)

due-is : (c : Option Debt) (o : Option Rattle.arc_model.specs.Heaps.Owed) → owed_of c ≡ o → is_due_deinit c ≡ is_duty Deinit o
due-is None o e = ap (is_duty Deinit) e
due-is (Some d) o e = go d.due ∙ ap (is_duty Deinit) e
  where
    go : (a : Rattle.arc_heap_index.specs.declared.counted.Due.Due) → Rattle.arc_heap_index.specs.Counting.same_due a due.Deinit ≡ Rattle.arc_model.specs.Holders.same_duty (Rattle.arc_heap_judge.specs.Stands.duty_of_due a) Deinit
    go due.Deinit = refl
    go due.Vacating = refl
    go due.Gone = refl

not-zero : (n : ℕ) (xs : List Holder) → n ≡ length xs → not (eqb n 0) ≡ not (is_empty xs)
not-zero n [] e = ap (λ m. not (eqb m 0)) e
not-zero n (x ∷ xs) e = ap (λ m. not (eqb m 0)) e ∙ ap not (Rattle.std.proofs.lemmas.Bool.ne_eqb (length (x ∷ xs)) 0 (λ f. omega arith))

lived-is : (shape : HeapShape) (c : Counted) (o : Object) → IsWhole shape o → IsCounted c o → lived shape c ≡ life_of shape o
lived-is shape c o w l = go (is_empty (strong_holders shape o)) refl
  where
    rest : Life
    rest = cond (is_in Strongs o.unowned) Deiniting (cond (not (is_empty o.unowned)) Deinited (cond (not (is_empty o.weak)) Freed Dead))

    counts : cond (is_due_deinit c.owed) Deiniting (cond (not (eqb c.unowned 0)) Deinited (cond (not (eqb c.weak 0)) Freed Dead)) ≡ cond (is_duty Deinit o.owed) Deiniting (cond (not (is_empty o.unowned)) Deinited (cond (not (is_empty o.weak)) Freed Dead))
    counts = rw (due-is c.owed o.owed l.owed, not-zero c.unowned o.unowned l.unowned, not-zero c.weak o.weak l.weak) refl

    go : (b : Bool) → is_empty (strong_holders shape o) ≡ b → lived shape c ≡ life_of shape o
    go true e = ap (λ b. cond b Live (cond (is_due_deinit c.owed) Deiniting (cond (not (eqb c.unowned 0)) Deinited (cond (not (eqb c.weak 0)) Freed Dead)))) (alive shape c o l ∙ ap not e)
        ∙ counts
        ∙ ap (λ b. cond b Deiniting (cond (not (is_empty o.unowned)) Deinited (cond (not (is_empty o.weak)) Freed Dead))) (sym (strongs-there shape o w e))
        ∙ sym (ap (λ b. cond b Live (cond (is_in Strongs o.unowned) Deiniting (cond (not (is_empty o.unowned)) Deinited (cond (not (is_empty o.weak)) Freed Dead)))) (ap not e))
    go false e = ap (λ b. cond b Live (cond (is_due_deinit c.owed) Deiniting (cond (not (eqb c.unowned 0)) Deinited (cond (not (eqb c.weak 0)) Freed Dead)))) (alive shape c o l ∙ ap not e)
        ∙ sym (ap (λ b. cond b Live (cond (is_in Strongs o.unowned) Deiniting (cond (not (is_empty o.unowned)) Deinited (cond (not (is_empty o.weak)) Freed Dead)))) (ap not e))

named-there : (id : ObjectId) (os : List Object) (o : Object) → find (λ q. same_id q.id id) os ≡ Some o → (i : ℕ) × (slice_get os i ≡ Some o)
named-there id [] o e = absurd (cc)
named-there id (x ∷ xs) o e = go (same_id x.id id) e (named-there id xs o)
  where
    go : (b : Bool) → cond b (Some x) (find (λ q. same_id q.id id) xs) ≡ Some o → (find (λ q. same_id q.id id) xs ≡ Some o → (i : ℕ) × (slice_get xs i ≡ Some o)) → (i : ℕ) × (slice_get (x ∷ xs) i ≡ Some o)
    go true e ih = (zero, e)
    go false e ih = let r = ih e in (suc r.0, r.1)

pub life-told : (ix : Index) (h : History) → StandsFor ix h → (id : ObjectId) → life_told ix.shape (find (λ c. same_id c.id id) ix.objects) ≡ life_in ix.shape (named id (heap_after h))
life-told ix h st id = go (find (λ c. same_id c.id id) ix.objects) (named id (heap_after h)) refl (both-named id ix.objects (heap_after h).objects st.tells.counted)
  where
    go : (c : Option Counted) (o : Option Object) → named id (heap_after h) ≡ o → AreCounted c o → life_told ix.shape c ≡ life_in ix.shape o
    go None None e like = refl
    go (Some c) None e like = absurd like
    go None (Some o) e like = absurd like
    go (Some c) (Some o) e like =
        let t = named-there id (heap_after h).objects o e in
        ap Some (lived-is ix.shape c o ((well_formed ix.shape h st.legal).whole t.0 o t.1) like)

-- the first that passes, searched one after another
find-drop : (test : Counted → Bool) (xs : List Counted) (i : ℕ) (x : Counted) → i < length xs → x ≡ Rattle.std.proofs.Common.get_or xs i x → find test (Rattle.std.proofs.Common.drop i xs) ≡ cond (test x) (Some x) (find test (Rattle.std.proofs.Common.drop (i + 1) xs))
find-drop test [] i x l e = absurd (omega arith)
find-drop test (y ∷ ys) zero x l e = rw e refl
find-drop test (y ∷ ys) (suc i) x l e = let more : suc i + 1 ≡ suc (i + 1) = omega arith in rw more (find-drop test ys i x (omega arith) e)

pub find-step : (test : Counted → Bool) (xs : List Counted) (i : ℕ) (x : Counted) → i < length xs → x ≡ Rattle.std.proofs.Common.get_or xs i x → test x ≡ false → find test xs ≡ find test (Rattle.std.proofs.Common.drop i xs) → find test xs ≡ find test (Rattle.std.proofs.Common.drop (i + 1) xs)
find-step test xs i x l e no-pass h = h ∙ find-drop test xs i x l e ∙ ap (λ b. cond b (Some x) (find test (Rattle.std.proofs.Common.drop (i + 1) xs))) no-pass

pub find-here : (test : Counted → Bool) (xs : List Counted) (i : ℕ) (x : Counted) → i < length xs → x ≡ Rattle.std.proofs.Common.get_or xs i x → test x ≡ true → find test xs ≡ find test (Rattle.std.proofs.Common.drop i xs) → find test xs ≡ Some x
find-here test xs i x l e pass h = h ∙ find-drop test xs i x l e ∙ ap (λ b. cond b (Some x) (find test (Rattle.std.proofs.Common.drop (i + 1) xs))) pass

pub find-past : (test : Counted → Bool) (xs : List Counted) (i : ℕ) → length xs ≤ i → find test (Rattle.std.proofs.Common.drop i xs) ≡ None
find-past test [] zero l = refl
find-past test [] (suc i) l = refl
find-past test (x ∷ xs) zero l = absurd (omega arith)
find-past test (x ∷ xs) (suc i) l = find-past test xs i (omega arith)
