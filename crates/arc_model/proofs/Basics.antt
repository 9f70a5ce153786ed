-- Small lemmas on holders' lists, on rows of needs and on options.
use Rattle.std.proofs.Common.{◌≡◌, Bool, true, false, cond, not, List, [], ◌∷◌, ◌++◌, Option, Some, None, refl, sym, ap, ◌∙◌}
use Rattle.std.specs.Prelude.{◌||◌, ⊤}
use Rattle.arc_model.specs.Heaps.{Holder, Object}
use Rattle.arc_model.specs.Holders.{same_holder, is_in, is_empty, is_alone, renamed, without}
use Rattle.arc_model.specs.Shapes.{HeapShape, class_at}
use Rattle.arc_model.specs.Cells.{forever_if, is_immortal, strong_holders, is_live}
use Rattle.arc_model.specs.Needs.{Need, first_failing, passes}

pub true≢false : true ≡ false → ⊥
true≢false e = cc

pub None≢Some : {X : Type 0} (x : X) → None ≡ Some x → ⊥
None≢Some x e = cc

pub Some-inj : {X : Type 0} {a b : X} → Some a ≡ Some b → a ≡ b
Some-inj e = cc

pub opposite : (b : Bool) → not b ≡ true → b ≡ false
opposite true e = absurd (true≢false (sym e))
opposite false e = refl

-- each need holds
abbrev pub AreMet : List Need → Type 0
AreMet [] = ⊤
AreMet (n ∷ ns) = (n.0 ≡ true) × AreMet ns

-- where none fails, each need holds
pub met : (ns : List Need) → first_failing ns ≡ None → AreMet ns
met [] h = tt
met (n ∷ ns) h = go n.0 refl (met ns)
  where
    go : (b : Bool) → n.0 ≡ b → (first_failing ns ≡ None → AreMet ns) → (n.0 ≡ true) × AreMet ns
    go true e rest = (e, rest (sym (ap (λ c. cond c (first_failing ns) (Some n.1)) e) ∙ h))
    go false e rest = absurd (None≢Some n.1 (sym h ∙ ap (λ c. cond c (first_failing ns) (Some n.1)) e))

pub met-split : (xs ys : List Need) → AreMet (xs ++ ys) → AreMet xs × AreMet ys
met-split [] ys m = (tt, m)
met-split (x ∷ xs) ys m = let r = met-split xs ys m.1 in ((m.0, r.0), r.1)

pub at_found : (test : Object → Bool) (found : Option Object) (o : Object) → found ≡ Some o → passes test found ≡ true → test o ≡ true
at_found test found o e h = sym (ap (passes test) e) ∙ h

-- lists that stay empty or not
empty-cond_rename : (b : Bool) (y z : Holder) (xs zs : List Holder) → is_empty (cond b (y ∷ xs) (z ∷ zs)) ≡ false
empty-cond_rename true y z xs zs = refl
empty-cond_rename false y z xs zs = refl

pub empty-renamed : (x y : Holder) (xs : List Holder) → is_empty (renamed x y xs) ≡ is_empty xs
empty-renamed x y [] = refl
empty-renamed x y (z ∷ zs) = empty-cond_rename (same_holder x z) y z zs (renamed x y zs)

pub empty-push : (y : Holder) (xs : List Holder) → is_empty (xs ++ y ∷ []) ≡ false
empty-push y [] = refl
empty-push y (x ∷ xs) = refl

-- of two holders or more, one leaves another
empty-cond_without : (b : Bool) (x y : Holder) (ys zs : List Holder) → is_empty (cond b (y ∷ ys) (x ∷ zs)) ≡ false
empty-cond_without true x y ys zs = refl
empty-cond_without false x y ys zs = refl

pub empty-without : (x : Holder) (xs : List Holder) → is_alone xs ≡ false → is_empty (without x xs) ≡ is_empty xs
empty-without x [] h = refl
empty-without x (z ∷ []) h = absurd (true≢false h)
empty-without x (z ∷ y ∷ ys) h = empty-cond_without (same_holder x z) z y ys (without x (y ∷ ys))

-- a list that loses its one holder
pub alone-without : (x : Holder) (xs : List Holder) → is_in x xs ≡ true → is_alone xs ≡ true → is_empty (without x xs) ≡ true
alone-without x [] held alone = absurd (true≢false (sym held))
alone-without x (z ∷ []) held alone = go (same_holder x z) held
  where
    go : (b : Bool) → (b || false) ≡ true → is_empty (cond b [] (z ∷ [])) ≡ true
    go true e = refl
    go false e = absurd (true≢false (sym e))
alone-without x (z ∷ y ∷ ys) held alone = absurd (true≢false (sym alone))

pub in-not_empty : (x : Holder) (xs : List Holder) → is_in x xs ≡ true → is_empty xs ≡ false
in-not_empty x [] held = absurd (true≢false (sym held))
in-not_empty x (z ∷ zs) held = refl

append-none : (xs : List Holder) → xs ++ [] ≡ xs
append-none [] = refl
append-none (x ∷ xs) = ap (λ ys. x ∷ ys) (append-none xs)

pub empty-is : (xs : List Holder) → is_empty xs ≡ true → xs ≡ []
empty-is [] e = refl
empty-is (x ∷ xs) e = absurd (true≢false (sym e))

pub live-not_empty : (shape : HeapShape) (o : Object) → is_live shape o ≡ true → is_empty (strong_holders shape o) ≡ false
live-not_empty shape o h = opposite (is_empty (strong_holders shape o)) h

-- all strong holders: those that are stored, and where the class is immortal one more
pub append-not_empty : (xs ys : List Holder) → is_empty xs ≡ false → is_empty (xs ++ ys) ≡ false
append-not_empty [] ys h = absurd (true≢false h)
append-not_empty (x ∷ xs) ys h = refl

pub some-strong : (shape : HeapShape) (o : Object) → is_empty o.strong ≡ false → is_empty (strong_holders shape o) ≡ false
some-strong shape o h = append-not_empty o.strong (forever_if (is_immortal shape o)) h

pub in-strong : (shape : HeapShape) (x : Holder) (o : Object) → is_in x o.strong ≡ true → is_empty (strong_holders shape o) ≡ false
in-strong shape x o held = some-strong shape o (in-not_empty x o.strong held)

pub empty-append : (xs ys zs : List Holder) → is_empty xs ≡ is_empty ys → is_empty (xs ++ zs) ≡ is_empty (ys ++ zs)
empty-append [] [] zs h = refl
empty-append [] (y ∷ ys) zs h = absurd (true≢false h)
empty-append (x ∷ xs) [] zs h = absurd (true≢false (sym h))
empty-append (x ∷ xs) (y ∷ ys) zs h = refl

-- without a strong holder none is stored, and the class isn't immortal
pub none-strong : (shape : HeapShape) (o : Object) → is_empty (strong_holders shape o) ≡ true → (o.strong ≡ []) × (is_immortal shape o ≡ false)
none-strong shape o h = go o.strong (is_immortal shape o) h
  where
    go : (xs : List Holder) (b : Bool) → is_empty (xs ++ forever_if b) ≡ true → (xs ≡ []) × (b ≡ false)
    go [] true h = absurd (true≢false (sym h))
    go [] false h = (refl, refl)
    go (x ∷ xs) b h = absurd (true≢false (sym h))

pub same-holders : (shape : HeapShape) (o q : Object) → q.class ≡ o.class → q.strong ≡ o.strong → strong_holders shape q ≡ strong_holders shape o
same-holders shape o q class strong = ap (λ c. q.strong ++ forever_if (class_at shape c).immortal) class ∙ ap (λ xs. xs ++ forever_if (is_immortal shape o)) strong

-- of two strong holders or more, one that is stored leaves another
pub strong-without : (b : Bool) (x : Holder) (xs : List Holder) → is_in x xs ≡ true → is_alone (xs ++ forever_if b) ≡ false → is_empty (without x xs ++ forever_if b) ≡ is_empty (xs ++ forever_if b)
strong-without true x xs held h = some-last (without x xs) ∙ sym (some-last xs)
  where
    some-last : (ys : List Holder) → is_empty (ys ++ forever_if true) ≡ false
    some-last [] = refl
    some-last (y ∷ ys) = refl
strong-without false x xs held h = ap is_empty (append-none (without x xs)) ∙ empty-without x xs (ap is_alone (sym (append-none xs)) ∙ h) ∙ ap is_empty (sym (append-none xs))

-- the strong holders lose their one holder
pub strong-last : (b : Bool) (x : Holder) (xs : List Holder) → is_in x xs ≡ true → is_alone (xs ++ forever_if b) ≡ true → is_empty (without x xs ++ forever_if b) ≡ true
strong-last true x [] held alone = absurd (true≢false (sym held))
strong-last true x (z ∷ []) held alone = absurd (true≢false (sym alone))
strong-last true x (z ∷ y ∷ ys) held alone = absurd (true≢false (sym alone))
strong-last false x xs held alone = ap is_empty (append-none (without x xs)) ∙ alone-without x xs held (ap is_alone (sym (append-none xs)) ∙ alone)
