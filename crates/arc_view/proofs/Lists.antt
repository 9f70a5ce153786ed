-- Lists of events, and facts of each element.
use Rattle.arc_model.specs.declared.event.Event.{Event}
use Rattle.std.proofs.Common.{◌≤◌}
use Rattle.arc_view.specs.Kinds.{event_list}
use Rattle.std.proofs.Common.{◌≡◌, ◌≢◌, ℕ, cond, List, [], ◌∷◌, ◌++◌, length, refl, sym, ap, ◌∙◌, arith, append_assoc, length-append}
use Rattle.std.proofs.lemmas.Bool.{ne_eqb}
use Rattle.std.proofs.lemmas.List.{nil_from_length}
use Rattle.std.proofs.lemmas.List.Elements.{filter-append}
use Rattle.arc_model.specs.declared.event.Act.{Act}
use Rattle.arc_model.specs.History.{History, is_of, share}
use Rattle.arc_view.specs.Views.{Each, StartsWith}
use Rattle.std.specs.Prelude.{Option, Some, None}

-- one fact of each from another
pub each_more : {A : Type 0} (P Q : A → Type 0) → ((x : A) → P x → Q x) → (xs : List A) → Each P xs → Each Q xs
each_more P Q f [] h = tt
each_more P Q f (x ∷ xs) h = (f x h.0, each_more P Q f xs h.1)

pub each_both : {A : Type 0} (P Q : A → Type 0) (xs : List A) → Each P xs → Each Q xs → Each (λ x. P x × Q x) xs
each_both P Q [] h k = tt
each_both P Q (x ∷ xs) h k = ((h.0, k.0), each_both P Q xs h.1 k.1)

pub each_all : {A : Type 0} (P : A → Type 0) → ((x : A) → P x) → (xs : List A) → Each P xs
each_all P f [] = tt
each_all P f (x ∷ xs) = (f x, each_all P f xs)

pub share-append : (p : ℕ) (xs ys : History) → share (xs ++ ys) p ≡ share xs p ++ share ys p
share-append p xs ys = filter-append (is_of p) xs ys

pub starts_more : (h more seen : History) → StartsWith h seen → StartsWith (more ++ h) seen
starts_more h more seen s = (more ++ s.0, ap (λ l. more ++ l) s.1 ∙ sym (append_assoc more s.0 seen))

pub starts_self : (h : History) → StartsWith h h
starts_self h = ([], refl)

pub share_more : (p : ℕ) (h more : History) → share more p ≡ [] → share (more ++ h) p ≡ share h p
share_more p h more none = share-append p more h ∙ ap (λ l. l ++ share h p) none

pub rest_is_nil : (xs ys : History) → xs ++ ys ≡ ys → xs ≡ []
rest_is_nil xs ys e = nil_from_length xs (omega (arith, length-append xs ys, ap length e))

pub nil_left : (xs ys : History) → xs ++ ys ≡ [] → xs ≡ []
nil_left xs ys e = nil_from_length xs (omega (arith, length-append xs ys, ap length e))

pub nil_right : (xs ys : History) → xs ++ ys ≡ [] → ys ≡ []
nil_right xs ys e = nil_from_length ys (omega (arith, length-append xs ys, ap length e))

-- what came after all that a pass has seen has no event of it
pub others_came : (p : ℕ) (h seen rest : History) → h ≡ rest ++ seen → share h p ≡ share seen p → share rest p ≡ []
others_came p h seen rest e own = rest_is_nil (share rest p) (share seen p) (sym (share-append p rest seen) ∙ (ap (λ l. share l p) (sym e) ∙ own))

pub share_of_other : (q p : ℕ) (a : Option Act) → p ≢ q → share (event_list q a) p ≡ []
share_of_other q p None ne = refl
share_of_other q p (Some a) ne = ap (λ b. cond b (record { thread = q; act = a } ∷ []) []) (ne_eqb q p (λ e. ne (sym e)))

-- what each begins with the other are the same
pub starts_both : (h point : History) → StartsWith h point → StartsWith point h → point ≡ h
starts_both h point s t = t.1 ∙ ap (λ l. l ++ h) (nil_from_length t.0 (omega (arith, length-append s.0 point, length-append t.0 h, ap length s.1, ap length t.1)))

pub starts_trans : (h c seen : History) → StartsWith h c → StartsWith c seen → StartsWith h seen
starts_trans h c seen s t = (s.0 ++ t.0, s.1 ∙ (ap (λ l. s.0 ++ l) t.1 ∙ sym (append_assoc s.0 t.0 seen)))

-- of two beginnings of one history, the shorter begins the longer
tails : (xs ys p q : History) → xs ++ p ≡ ys ++ q → length p ≤ length q → (rest : History) × (q ≡ rest ++ p)
tails [] [] p q e le = ([], sym e)
tails [] (y ∷ ys) p q e le = absurd (omega (arith, le, length-append ys q, ap length e))
tails (x ∷ xs) [] p q e le = (x ∷ xs, sym e)
tails (x ∷ xs) (y ∷ ys) p q e le = tails xs ys p q (cons_inj x y (xs ++ p) (ys ++ q) e) le
  where
    cons_inj : (x y : Event) (a b : History) → x ∷ a ≡ y ∷ b → a ≡ b
    cons_inj x y a b e = cc

pub shorter_begins : (h a b : History) → StartsWith h a → StartsWith h b → length a ≤ length b → StartsWith b a
shorter_begins h a b ha hb le = tails ha.0 hb.0 a b (sym ha.1 ∙ hb.1) le

-- of two lists
pub each_cut : {A : Type 0} (P : A → Type 0) (xs ys : List A) → Each P (xs ++ ys) → Each P xs × Each P ys
each_cut P [] ys h = (tt, h)
each_cut P (x ∷ xs) ys h = let t = each_cut P xs ys h.1 in ((h.0, t.0), t.1)

pub each_join : {A : Type 0} (P : A → Type 0) (xs ys : List A) → Each P xs → Each P ys → Each P (xs ++ ys)
each_join P [] ys h g = g
each_join P (x ∷ xs) ys h g = (h.0, each_join P xs ys h.1 g)
