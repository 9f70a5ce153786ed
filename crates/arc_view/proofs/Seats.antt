-- A new heap, and splitting off passes and notes.
use Rattle.std.proofs.Common.{◌≡◌, ◌≢◌, ◌⊎◌, inl, inr, ⊎_elim, ℕ, zero, suc, ◌%◌, ◌<◌, ◌≤◌, eqb, Bool, true, false, List, [], ◌∷◌, ◌++◌, get_or, set, replicate, length, Some, None, refl, sym, ap, ◌∙◌, subst, arith, le_refl}
use Rattle.std.proofs.lemmas.List.{length-replicate}
use Rattle.std.proofs.lemmas.Nat.Bits.{bit_at-zero}
use mathlib.Core.Option.{some, some-injective, some-ne-none}
use lib.ListN.{get_elem?}
use Rattle.atomic_table.specs.Table.{Splits, opening}
use Rattle.atomic_table.proofs.Lists.{at_longer}
use Rattle.arc_model.specs.Shapes.{HeapShape}
use Rattle.arc_model.specs.Heaps.{empty}
use Rattle.arc_model.specs.Holders.{is_slot_taken, is_entry_taken}
use Rattle.arc_model.specs.History.{History, heap_after, share}
use Rattle.arc_model.proofs.Basics.{None≢Some, true≢false}
use Rattle.arc_rule.specs.declared.layout.Place.{Place}
use Rattle.arc_rule.specs.declared.layout.Place.TheVariants.{Zero, Global, Count, Isa, Next, Field, Link, Strong, Unowned, Weak, SlotBits, EntryBits}
use Rattle.arc_rule.specs.Places.{extent_of, number, word_count}
use Rattle.arc_rule.specs.Bits.{is_set}
use Rattle.arc_rule.specs.Shown.{Says}
use Rattle.arc_rule.proofs.Bits.{shows_none}
use Rattle.arc_view.specs.declared.view.Role.TheVariants.{Pass}
use Rattle.arc_view.specs.declared.view.View.{View}
use Rattle.arc_view.specs.Views.{StartsWith, within, idle, first_view, Excepts}
use Rattle.arc_view.specs.Rule.{MarkFits, WorkFits, Fits, Lying, Excepted, IsSized, AccessApart, IsKept}
use Rattle.arc_view.specs.Passes.{glance, glanced, parted, newcomer, noted, IsFirst}
use Rattle.arc_view.proofs.Lists.{share-append, nil_right}
use Rattle.arc_view.proofs.Words.{shows_to}
use Rattle.arc_view.proofs.Keeps.{fits_carry}
use Rattle.arc_view.proofs.Advance.{views_stay, Apart, apart_set, access_apart_set, excepted_apart, excepted_again}

abbrev nought : ℕ
nought = 0

zeros : (n i : ℕ) → get_or (replicate n nought) i nought ≡ nought
zeros zero i = refl
zeros (suc n) zero = refl
zeros (suc n) (suc i) = zeros n i

only : (x v : View) (i : ℕ) → get_elem? (x ∷ []) i ≡ some v → (i ≡ 0) × (x ≡ v)
only x v zero e = (refl, some-injective x v e)
only x v (suc i) e = absurd (some-ne-none v (sym e))

-- of an empty heap every word is 0
bare : (shape : HeapShape) (pl : Place) → Says shape empty pl 0
bare shape Zero = refl
bare shape (Global g) = refl
bare shape (Count s) = tt
bare shape (Isa s) = tt
bare shape (Next s) = tt
bare shape (Field s f) = refl
bare shape (Link e) = tt
bare shape (Strong e) = tt
bare shape (Unowned e) = tt
bare shape (Weak e) = tt
bare shape (SlotBits k) = shows_none shape.slots k (λ s. is_slot_taken s empty) (λ s. refl)
bare shape (EntryBits k) = shows_none shape.entries k (λ e. is_entry_taken e empty) (λ e. refl)

pub idle_fits : (shape : HeapShape) (p : ℕ) (seen : History) → WorkFits shape p seen idle
idle_fits shape p seen = record { owing = λ s e. absurd (None≢Some s e); reaches = λ a e. absurd (None≢Some a e); private = tt; entered = tt }

pub idle_lies : (shape : HeapShape) (h seen : History) (words : List ℕ) → Lying shape h seen words idle
idle_lies shape h seen words = record { private = tt; access = λ a e. absurd (None≢Some a e); naming = λ s e. absurd (None≢Some (record { slot = s; counted = false }) e) }

-- the first pass of a new heap
pub begins : {S : Type 0} (shape : HeapShape) (words : List ℕ) → IsSized shape → words ≡ replicate (word_count (extent_of shape)) 0 → IsKept shape (opening {S = S} words [] first_view)
begins shape words sized is =
    let first : Fits shape [] 0 [] first_view = record {
      begins = ([], refl);
      olds = tt;
      own = λ _. refl;
      marks = tt;
      numbered = λ _. (le_refl 0, refl);
      first = λ _ _. (refl, refl);
      kept = λ _ p e. absurd (true≢false (sym e));
      work = idle_fits shape 0 [];
      working = inl refl;
    } in record {
      log = [];
      splits = 0;
      taken = [];
      sized = sized;
      legal = tt;
      in_shape = record {
        within = tt;
        claims = tt;
        classes = λ i o e. absurd (None≢Some o e);
        fields = λ i o f e. absurd (None≢Some o e);
        globals = λ g. tt;
        makers = λ p lt. refl;
        made = λ p. omega arith;
      };
      words = record {
        whole = ap length is ∙ length-replicate (word_count (extent_of shape)) 0;
        says = λ pl inside _. subst (Says shape empty pl) (sym (ap (λ l. get_or l (number (extent_of shape) pl) 0) is ∙ zeros (word_count (extent_of shape)) (number (extent_of shape) pl))) (bare shape pl);
      };
      lying = λ i v e. subst (λ (u : View). Lying shape [] u.seen words u.working) (only first_view v i e).1 (idle_lies shape [] [] words);
      fits = λ i v e. subst (λ u. Fits shape [] 0 [] u) (only first_view v i e).1 first;
      apart = λ i j v w ei ej _ _ _. (only first_view v i ei).0 ∙ sym (only first_view w j ej).0;
      accesses = λ i j v w a b ei ej _ _ _. (only first_view v i ei).0 ∙ sym (only first_view w j ej).0;
      few = omega arith;
      taken_below = λ p e. absurd (true≢false (sym e));
      quiet = λ p e. absurd (true≢false (sym e));
      strange = λ p lt. refl;
    }

pub fits_keep : (shape : HeapShape) (h : History) (splits splits' : ℕ) (taken taken' : List ℕ) (v : View) → splits ≤ splits' → (v.role ≡ Pass → within v.number taken' ≡ false)
    → ((p : ℕ) → within p taken ≡ true → within p taken' ≡ true)
    → (v.role ≡ Pass → v.number ≡ 0 → (splits ≡ splits') × (taken ≡ taken'))
    → Fits shape h splits taken v → Fits shape h splits' taken' v
fits_keep shape h splits splits' taken taken' v le fresh more same f = fits_carry shape h [] splits splits' taken taken' v (λ _. refl) le fresh (λ p e. (more p e, refl)) same f

at_end : (l : List View) (a b : View) (j : ℕ) → get_elem? (l ++ a ∷ []) j ≡ some b → (get_elem? l j ≡ some b) ⊎ ((j ≡ length l) × (a ≡ b))
at_end [] a b zero e = inr (refl, some-injective a b e)
at_end [] a b (suc j) e = absurd (some-ne-none b (sym e))
at_end (x ∷ xs) a b zero e = inl e
at_end (x ∷ xs) a b (suc j) e = ⊎_elim (λ h. inl h) (λ (t : (j ≡ length xs) × (a ≡ b)). inr (ap suc t.0, t.1)) (at_end xs a b j e)

-- where one view more is there
views_grow : (F : ℕ → View → Type 0) (views : List View) (w : View) → F (length views) w → ((j : ℕ) (u : View) → get_elem? views j ≡ some u → F j u) → (j : ℕ) (u : View) → get_elem? (views ++ w ∷ []) j ≡ some u → F j u
views_grow F views w mine others j u e = ⊎_elim (others j u) (λ (t : (j ≡ length views) × (w ≡ u)). subst (λ (x : ℕ × View). F x.0 x.1) (λ i. (sym t.0 i, t.1 i)) mine) (at_end views w u j e)

apart_grow : (views : List View) (w : View) → (w.role ≡ Pass → (i : ℕ) (u : View) → get_elem? views i ≡ some u → u.role ≡ Pass → u.number ≢ w.number) → Apart views → Apart (views ++ w ∷ [])
apart_grow views w new apart i j x y ei ej =
    views_grow (λ (i : ℕ) (x : View). x.role ≡ Pass → y.role ≡ Pass → x.number ≡ y.number → i ≡ j) views w
    (λ wp yp e. views_grow (λ (j : ℕ) (y : View). y.role ≡ Pass → w.number ≡ y.number → length views ≡ j) views w (λ _ _. refl) (λ l z ez zp e. absurd (new wp l z ez zp (sym e))) j y ej yp e)
    (λ k u eu up yp e. views_grow (λ (j : ℕ) (y : View). y.role ≡ Pass → u.number ≡ y.number → k ≡ j) views w (λ wp e. absurd (new wp k u eu up e)) (λ l z ez zp e. apart k l u z eu ez up zp e) j y ej yp e)
    i x ei

access_grow : (views : List View) (w : View) → w.working.access ≡ None → AccessApart views → AccessApart (views ++ w ∷ [])
access_grow views w none apart i j x y a b ei ej xa yb same =
    views_grow (λ (i : ℕ) (x : View). x.working.access ≡ Some a → i ≡ j) views w
    (λ wa. absurd (None≢Some a (sym none ∙ wa)))
    (λ k u eu ua. views_grow (λ (j : ℕ) (y : View). y.working.access ≡ Some b → k ≡ j) views w (λ wb. absurd (None≢Some b (sym none ∙ wb))) (λ l z ez zb. apart k l u z a b eu ez ua zb same) j y ej yb)
    i x ei xa

-- a view that changes in nothing that is under way, and one more, except no word that wasn't
pub excepted_set : (views : List View) (id : ℕ) (v w : View) → get_elem? views id ≡ some v → w.working ≡ v.working → (pl : Place) → Excepted views pl → Excepted (set views id w) pl
excepted_set views id v w at same pl x = excepted_again views id v w at pl (⊎_elim (λ e. inl (subst (λ u. Excepts u pl) (sym same) e)) (λ o. inr o) (excepted_apart views id v at pl x))

excepted_grow : (views : List View) (w : View) (pl : Place) → Excepted views pl → Excepted (views ++ w ∷ []) pl
excepted_grow views w pl (i, u, at, x) = (i, u, at_longer views (w ∷ []) i u at, x)

pub access_same : (views : List View) (id : ℕ) (v w : View) → get_elem? views id ≡ some v → w.working ≡ v.working → AccessApart views → AccessApart (set views id w)
access_same views id v w at same apart = access_apart_set views id w (λ b wb j u a ne e ua is. ne (apart j id u v a b e at ua (ap (λ r. r.access) (sym same) ∙ wb) is)) apart

pub glance_fits : (shape : HeapShape) (v : View) → MarkFits shape v.number v.seen (glance v)
glance_fits shape v = record { later = []; earlier = v.seen; split = refl; at = refl; made = refl; slot = λ s lt is set. absurd (true≢false (sym set ∙ none_set s)); entry = λ e lt is set. absurd (true≢false (sym set ∙ none_set e)) }
  where
    none_set : (x : ℕ) → is_set x 0 ≡ false
    none_set x = ap (λ b. eqb b 1) (bit_at-zero (x % 64))

-- who has no event in the history has none in what was seen
none_seen : (p : ℕ) (h seen : History) → StartsWith h seen → share h p ≡ [] → share seen p ≡ []
none_seen p h seen s none = nil_right (share s.0 p) (share seen p) (sym (share-append p s.0 seen) ∙ (ap (λ l. share l p) (sym s.1) ∙ none))

not_within : (p splits : ℕ) (taken : List ℕ) → ((q : ℕ) → within q taken ≡ true → (1 ≤ q) × (q ≤ splits)) → splits < p → (b : Bool) → within p taken ≡ b → b ≡ false
not_within p splits taken below lt true e = let le : p ≤ splits = (below p e).1 in absurd (omega (arith, lt, le))
not_within p splits taken below lt false e = refl

pub splits_pass : {S : Type 0} (shape : HeapShape) (id : ℕ) (v : View) → IsFirst v → v.splits < 64 → Splits (IsKept {S = S} shape) id v (parted v) (newcomer v)
splits_pass shape id v first room s k at =
    let f = k.fits id v at in
    let g = f.first first.0 first.1 in
    let left : Fits shape k.log (suc k.splits) k.taken (parted v) = record {
      begins = f.begins;
      olds = f.olds;
      own = f.own;
      marks = (glance_fits shape v, f.marks);
      numbered = λ p. let h = f.numbered p in (omega (arith, h.0), h.1);
      first = λ _ _. (ap suc g.0, g.1);
      kept = f.kept;
      work = f.work;
      working = f.working;
    } in
    let nothing : share k.log (suc v.splits) ≡ [] = k.strange (suc v.splits) (omega (arith, g.0)) in
    let right : Fits shape k.log (suc k.splits) k.taken (newcomer v) = record {
      begins = f.begins;
      olds = tt;
      own = λ _. nothing ∙ sym (none_seen (suc v.splits) k.log v.seen f.begins nothing);
      marks = tt;
      numbered = λ _. (omega (arith, g.0), not_within (suc v.splits) k.splits k.taken k.taken_below (omega (arith, g.0)) (within (suc v.splits) k.taken) refl);
      first = λ _ z. absurd (let false_is : suc v.splits ≡ 0 = z in omega (arith, false_is));
      kept = λ _ p e. absurd (true≢false (sym e));
      work = idle_fits shape (suc v.splits) v.seen;
      working = inl refl;
    } in
    let views' = set s.views id (parted v) in record {
      log = k.log;
      splits = suc k.splits;
      taken = k.taken;
      sized = k.sized;
      legal = k.legal;
      in_shape = k.in_shape;
      words = shows_to shape (Excepted s.views) (Excepted (views' ++ newcomer v ∷ [])) (heap_after k.log) s.words (λ pl x. excepted_grow views' (newcomer v) pl (excepted_set s.views id v (parted v) at refl pl x)) k.words;
      lying = views_grow (λ (j : ℕ) (u : View). Lying shape k.log u.seen s.words u.working) views' (newcomer v) (idle_lies shape k.log v.seen s.words)
          (views_stay (λ (j : ℕ) (u : View). Lying shape k.log u.seen s.words u.working) s.views id (parted v) (k.lying id v at) (λ j u ne e. k.lying j u e));
      fits = views_grow (λ (j : ℕ) (u : View). Fits shape k.log (suc k.splits) k.taken u) views' (newcomer v) right
          (views_stay (λ (j : ℕ) (u : View). Fits shape k.log (suc k.splits) k.taken u) s.views id (parted v) left
          (λ j u ne e. let h = k.fits j u e in fits_keep shape k.log k.splits (suc k.splits) k.taken k.taken u (omega arith) (λ up. (h.numbered up).1) (λ p e. e) (λ up z. absurd (ne (k.apart j id u v e at up first.0 (z ∙ sym first.1)))) h));
      apart = apart_grow views' (newcomer v)
          (λ _. views_stay (λ (j : ℕ) (u : View). u.role ≡ Pass → u.number ≢ suc v.splits) s.views id (parted v) (λ _ e. let le = (f.numbered first.0).0 in omega (arith, e, le, g.0)) (λ j u _ e up is. let le = ((k.fits j u e).numbered up).0 in omega (arith, is, le, g.0)))
          (apart_set s.views id v (parted v) at (λ p. (p, refl)) k.apart);
      accesses = access_grow views' (newcomer v) refl (access_same s.views id v (parted v) at refl k.accesses);
      few = omega (arith, room, g.0);
      taken_below = λ p e. let le = k.taken_below p e in (le.0, omega (arith, le.1));
      quiet = k.quiet;
      strange = λ p lt. k.strange p (omega (arith, lt));
    }

no_pass : {A : Type 0} → Rattle.arc_view.specs.declared.view.Role.TheVariants.Note ≡ Pass → A
no_pass e = absurd (cc)

pub splits_note : {S : Type 0} (shape : HeapShape) (id : ℕ) (v : View) → v.role ≡ Pass → Splits (IsKept {S = S} shape) id v (glanced v) (noted v)
splits_note shape id v pass s k at =
    let f = k.fits id v at in
    let left : Fits shape k.log k.splits k.taken (glanced v) = record { begins = f.begins; olds = f.olds; own = f.own; marks = (glance_fits shape v, f.marks); numbered = f.numbered; first = f.first; kept = f.kept; work = f.work; working = f.working } in
    let right : Fits shape k.log k.splits k.taken (noted v) = record {
      begins = f.begins;
      olds = tt;
      own = λ e. no_pass e;
      marks = tt;
      numbered = λ e. no_pass e;
      first = λ e. no_pass e;
      kept = λ e. no_pass e;
      work = idle_fits shape v.number v.seen;
      working = inr (refl, refl, refl);
    } in
    let views' = set s.views id (glanced v) in record {
      log = k.log;
      splits = k.splits;
      taken = k.taken;
      sized = k.sized;
      legal = k.legal;
      in_shape = k.in_shape;
      words = shows_to shape (Excepted s.views) (Excepted (views' ++ noted v ∷ [])) (heap_after k.log) s.words (λ pl x. excepted_grow views' (noted v) pl (excepted_set s.views id v (glanced v) at refl pl x)) k.words;
      lying = views_grow (λ (j : ℕ) (u : View). Lying shape k.log u.seen s.words u.working) views' (noted v) (idle_lies shape k.log v.seen s.words)
          (views_stay (λ (j : ℕ) (u : View). Lying shape k.log u.seen s.words u.working) s.views id (glanced v) (k.lying id v at) (λ j u ne e. k.lying j u e));
      fits = views_grow (λ (j : ℕ) (u : View). Fits shape k.log k.splits k.taken u) views' (noted v) right
          (views_stay (λ (j : ℕ) (u : View). Fits shape k.log k.splits k.taken u) s.views id (glanced v) left (λ j u ne e. k.fits j u e));
      apart = apart_grow views' (noted v) (λ e. no_pass e) (apart_set s.views id v (glanced v) at (λ p. (p, refl)) k.apart);
      accesses = access_grow views' (noted v) refl (access_same s.views id v (glanced v) at refl k.accesses);
      few = k.few;
      taken_below = k.taken_below;
      quiet = k.quiet;
      strange = k.strange;
    }
