-- Taking in notes and passes, and the heap at the end.
use Rattle.std.proofs.Common.{◌≡◌, ◌≢◌, ⊎_elim, inl, inr, ℕ, ◌==◌, ◌≤◌, Bool, true, false, cond, List, [], ◌∷◌, ◌++◌, length, set, None, refl, sym, ap, ◌∙◌, subst, arith, append_assoc, le_refl, eq-eqb, ne_eqb, leb-true, leb-false}
use Rattle.std.specs.Prelude.{nat_le, ◌||◌}
use mathlib.Core.Logic.{dite}
use mathlib.Core.Option.{some}
use native.Mathlib.Decide.{ℕ_discrete, dec_le}
use lib.ListN.{get_elem?}
use Rattle.atomic_table.specs.Table.{State, Joins}
use Rattle.atomic_table.proofs.Lists.{at_set}
use Rattle.arc_model.specs.Shapes.{HeapShape}
use Rattle.arc_model.specs.Others.{IsQuiet}
use Rattle.arc_model.specs.History.{History, heap_after, share, IsLegal}
use Rattle.arc_model.proofs.Basics.{None≢Some, true≢false}
use Rattle.arc_rule.specs.declared.layout.Place.{Place}
use Rattle.arc_rule.specs.declared.layout.Place.TheVariants as places
use Rattle.std.proofs.lemmas.List.{append-nil}
use Rattle.arc_view.specs.declared.view.Role.TheVariants.{Pass, Note, Spent}
use Rattle.arc_view.specs.declared.view.Mark.{Mark}
use Rattle.arc_view.specs.declared.view.Old.{Old}
use Rattle.arc_view.specs.declared.view.View.{View}
use Rattle.arc_view.specs.Views.{StartsWith, Each, within, spent_view, private_words, Excepts}
use Rattle.arc_view.specs.Rule.{MarkFits, OldFits, IsOwn, WorkFits, Fits, Lying, Excepted, AccessApart, IsKept}
use Rattle.arc_view.specs.Passes.{glance, whole_of, part_of, longer, met, joined, IsFirst, HoldsNothing, IsWhole}
use Rattle.arc_view.proofs.Lists.{each_more, share-append, share_more, others_came, nil_left, nil_right, starts_self, shorter_begins}
use Rattle.arc_view.proofs.Words.{shows_to}
use Rattle.arc_view.proofs.Keeps.{mark_more, legal_left, stays_later}
use Rattle.arc_view.proofs.Advance.{views_stay, apart_set, access_apart_set, excepted_apart, excepted_again, quiet_more}
use Rattle.arc_view.proofs.Bridge.{work_stays}
use Rattle.arc_view.proofs.Seats.{idle_fits, idle_lies, fits_keep, glance_fits, excepted_set, access_same}

record Longer (h a b c : History) : Type 0 where
  begins : StartsWith h c
  left : StartsWith c a
  right : StartsWith c b

longer_is : (h a b : History) → StartsWith h a → StartsWith h b → Longer h a b (longer a b)
longer_is h a b ha hb = by_order (nat_le (length a) (length b)) refl
  where
    by_order : (t : Bool) → nat_le (length a) (length b) ≡ t → Longer h a b (cond t b a)
    by_order true is = record { begins = hb; left = shorter_begins h a b ha hb (leb-true (length a) (length b) is); right = starts_self b }
    by_order false is = record { begins = ha; left = starts_self a; right = shorter_begins h b a hb ha (let lt = leb-false (length a) (length b) is in omega (arith, lt)) }

-- what comes between a beginning with a whole share and the end has none of it
none_between : (p : ℕ) (h c a : History) (hc : StartsWith h c) (ca : StartsWith c a) → share h p ≡ share a p → share (hc.0 ++ ca.0) p ≡ []
none_between p h c a hc ca own = others_came p h a (hc.0 ++ ca.0) (hc.1 ∙ (ap (λ l. hc.0 ++ l) ca.1 ∙ sym (append_assoc hc.0 ca.0 a))) own

-- a share that is whole in the shorter is whole in the longer
share_between : (p : ℕ) (h c a : History) → StartsWith h c → StartsWith c a → share h p ≡ share a p → share h p ≡ share c p
share_between p h c a hc ca own = let none = nil_left (share hc.0 p) (share ca.0 p) (sym (share-append p hc.0 ca.0) ∙ none_between p h c a hc ca own) in
    ap (λ l. share l p) hc.1 ∙ share_more p c hc.0 none

grown : (shape : HeapShape) (p : ℕ) (seen c : History) (ms : List Mark) → StartsWith c seen → Each (MarkFits shape p seen) ms → Each (MarkFits shape p c) ms
grown shape p seen c ms s marks = subst (λ l. Each (MarkFits shape p l) ms) (sym s.1) (each_more (MarkFits shape p seen) (MarkFits shape p (s.0 ++ seen)) (mark_more shape p seen s.0) ms marks)

old_to : (h : History) (F G : ℕ → Type 0) → ((p : ℕ) → F p → G p) → (os : List Old) → Each (OldFits h F) os → Each (OldFits h G) os
old_to h F G more os f = each_more (OldFits h F) (OldFits h G) (λ o f. record { begins = f.begins; whole = λ p w. let g = f.whole p w in (g.0, more p g.1) }) os f

or_right : (a b : Bool) → b ≡ true → (a || b) ≡ true
or_right true b e = refl
or_right false b e = e

pub more_within : (q p : ℕ) (taken : List ℕ) → within p taken ≡ true → within p (q ∷ taken) ≡ true
more_within q p taken e = or_right (p == q) (within p taken) e

-- what is within a list with one number more
within_cases : (p q : ℕ) (taken : List ℕ) (C : ℕ → Type 0) → within p (q ∷ taken) ≡ true → C q → (within p taken ≡ true → C p) → C p
within_cases p q taken C e here there = dite (ℕ_discrete p q)
    (λ is. subst C (sym is) here)
    (λ ne. there (sym (ap (λ b. b || within p taken) (ne_eqb p q ne)) ∙ e))

pub within_self : (q : ℕ) (taken : List ℕ) → within q (q ∷ taken) ≡ true
within_self q taken = ap (λ b. b || within q taken) (eq-eqb q q refl)

module _ (shape : HeapShape) (h : History) (legal : IsLegal shape h) (splits : ℕ) (taken : List ℕ) (v w : View) (fv : Fits shape h splits taken v) (fw : Fits shape h splits taken w) where
  whole_fits : (G : ℕ → Type 0) (x : View) → Fits shape h splits taken x → x.role ≡ Pass → G x.number → ((p : ℕ) → within p taken ≡ true → G p) → OldFits h G (whole_of x)
  whole_fits G x fx pass own others = record { begins = fx.begins; whole = λ p e. within_cases p x.number x.taken (λ p. (share h p ≡ share x.seen p) × G p) e (fx.own pass, own) (λ e'. let g = fx.kept pass p e' in (g.1, others p g.0)) }

  part_fits : (G : ℕ → Type 0) (x : View) → Fits shape h splits taken x → OldFits h G (part_of x)
  part_fits G x fx = record { begins = fx.begins; whole = λ p e. absurd (true≢false (sym e)) }

  -- what is under way stays where what was seen grows by others' events
  work_grown : (c : History) → StartsWith h c → StartsWith c v.seen → v.role ≡ Pass → WorkFits shape v.number c v.working
  work_grown c hc cv pass =
      let none = nil_right (share hc.0 v.number) (share cv.0 v.number) (sym (share-append v.number hc.0 cv.0) ∙ none_between v.number h c v.seen hc cv (fv.own pass)) in
      let c_legal = legal_left shape hc.0 c (subst (IsLegal shape) hc.1 legal) in
      subst (λ l. WorkFits shape v.number l v.working) (sym cv.1) (work_stays shape v.number v.seen cv.0 v.working (subst (IsLegal shape) cv.1 c_legal) none fv.work)

  met_fits : v.role ≡ Pass → Fits shape h splits taken (met v w)
  met_fits pass = let l = longer_is h v.seen w.seen fv.begins fw.begins in let c = longer v.seen w.seen in record {
    begins = l.begins;
    olds = (whole_fits (IsOwn v taken) v fv pass (inl (pass, refl)) (λ p e. inr e), (part_fits (IsOwn v taken) w fw, fv.olds));
    own = λ p. share_between v.number h c v.seen l.begins l.left (fv.own p);
    marks = grown shape v.number v.seen c (glance v ∷ v.trail) l.left (glance_fits shape v, fv.marks);
    numbered = fv.numbered;
    first = fv.first;
    kept = λ is q e. let g = fv.kept is q e in (g.0, share_between q h c v.seen l.begins l.left g.1);
    work = work_grown c l.begins l.left pass;
    working = inl pass;
  }

  joined_fits : IsFirst v → w.role ≡ Pass → v.number ≢ w.number → Fits shape h splits (w.number ∷ taken) (joined v w)
  joined_fits first wp ne =
      let l = longer_is h v.seen w.seen fv.begins fw.begins in
      let c = longer v.seen w.seen in
      let g = fv.first first.0 first.1 in
      let own = IsOwn v (w.number ∷ taken) in
      let self = within_self w.number taken in
      let more : (p : ℕ) → within p taken ≡ true → within p (w.number ∷ taken) ≡ true = λ p e. more_within w.number p taken e in record {
        begins = l.begins;
        olds = (whole_fits own v fv first.0 (inl (first.0, refl)) (λ p e. inr (more p e)), (whole_fits own w fw wp (inr self) (λ p e. inr (more p e)), old_to h (IsOwn v taken) own (λ p. ⊎_elim (λ x. inl x) (λ e. inr (more p e))) v.olds fv.olds));
        own = λ p. share_between v.number h c v.seen l.begins l.left (fv.own p);
        marks = grown shape v.number v.seen c (glance v ∷ v.trail) l.left (glance_fits shape v, fv.marks);
        numbered = λ p. let n = fv.numbered p in (n.0, ap (λ b. b || within v.number taken) (ne_eqb v.number w.number ne) ∙ n.1);
        first = λ p z. (g.0, ap (λ t. w.number ∷ t) g.1);
        kept = λ is q e. within_cases q w.number v.taken (λ q. (within q (w.number ∷ taken) ≡ true) × (share h q ≡ share c q)) e
            (self, share_between w.number h c w.seen l.begins l.right (fw.own wp))
            (λ e'. let k = fv.kept is q e' in (more q k.0, share_between q h c v.seen l.begins l.left k.1));
        work = work_grown c l.begins l.left first.0;
        working = inl first.0;
      }

  lying_grown : (words : List ℕ) → Lying shape h v.seen words v.working → Lying shape h (longer v.seen w.seen) words v.working
  lying_grown words f = let l = longer_is h v.seen w.seen fv.begins fw.begins in record {
    private = f.private;
    access = λ a e. let g = f.access a e in record { busy = g.busy; value = g.value; stays = stays_later h (longer v.seen w.seen) v.seen a.cell l.begins l.left g.stays };
    naming = f.naming;
  }

not_spent : {A : Type 0} → Spent ≡ Pass → A
not_spent e = absurd (cc)

no_exception : (v : View) → v.working.owes ≡ None → v.working.access ≡ None → (pl : Place) → Excepts v.working pl → ⊥
no_exception v owes access places.Zero e = e
no_exception v owes access (places.Global g) e = None≢Some e.0 (sym access ∙ e.1)
no_exception v owes access (places.Count s) e = None≢Some (record { slot = s; counted = false }) (sym owes ∙ e)
no_exception v owes access (places.Isa s) e = None≢Some e.0 (sym owes ∙ e.1)
no_exception v owes access (places.Next s) e = e
no_exception v owes access (places.Field s f) e = None≢Some e.0 (sym access ∙ e.1)
no_exception v owes access (places.Link n) e = e
no_exception v owes access (places.Strong n) e = e
no_exception v owes access (places.Unowned n) e = e
no_exception v owes access (places.Weak n) e = e
no_exception v owes access (places.SlotBits n) e = e
no_exception v owes access (places.EntryBits n) e = e

-- a view that had nothing under way is spent
excepted_spent : (views : List View) (id : ℕ) (w : View) → get_elem? views id ≡ some w → w.working.owes ≡ None → w.working.access ≡ None → (pl : Place) → Excepted views pl → Excepted (set views id spent_view) pl
excepted_spent views id w at owes access pl x = excepted_again views id w spent_view at pl (⊎_elim (λ e. absurd (no_exception w owes access pl e)) (λ o. inr o) (excepted_apart views id w at pl x))

module _ (S : Type 0) (shape : HeapShape) where
  abbrev TheRule : State S View → Type 0
  TheRule = IsKept shape

  spent_fits : (h : History) (splits : ℕ) (taken : List ℕ) → Fits shape h splits taken spent_view
  spent_fits h splits taken = record {
    begins = (h, sym (append-nil h));
    olds = tt;
    own = λ e. not_spent e;
    marks = tt;
    numbered = λ e. not_spent e;
    first = λ e. not_spent e;
    kept = λ e. not_spent e;
    work = idle_fits shape 0 [];
    working = inr (refl, refl, refl);
  }

  was_there : (views : List View) (id other : ℕ) (b w : View) → (other ≡ id → ⊥) → get_elem? (set views id b) other ≡ some w → get_elem? views other ≡ some w
  was_there views id other b w ne e = ⊎_elim (λ (t : (other ≡ id) × (b ≡ w)). absurd (ne t.0)) (λ (t : (other ≢ id) × (get_elem? views other ≡ some w)). t.1) (at_set views id other b w e)

  spent_access : (views : List View) (id : ℕ) → AccessApart views → AccessApart (set views id spent_view)
  spent_access views id apart = access_apart_set views id spent_view (λ b e j u a ne at ua is. None≢Some b e) apart

  pub meets : (id : ℕ) (v : View) (other : ℕ) (w : View) → v.role ≡ Pass → w.role ≡ Note → Joins TheRule id v other w (met v w) spent_view
  meets id v other w pass note s k at ne there =
      let F = Fits shape k.log k.splits k.taken in
      let L : View → Type 0 = λ u. Lying shape k.log u.seen s.words u.working in
      let here = was_there s.views id other (met v w) w ne there in
      let fv = k.fits id v at in
      let fw = k.fits other w here in
      let idle = ⊎_elim (λ (p : w.role ≡ Pass). no_note (sym note ∙ p)) (λ (i : (w.working.owes ≡ None) × (w.working.access ≡ None) × (private_words w.working ≡ [])). i) fw.working in record {
        log = k.log;
        splits = k.splits;
        taken = k.taken;
        sized = k.sized;
        legal = k.legal;
        in_shape = k.in_shape;
        words = shows_to shape (Excepted s.views) (Excepted (set (set s.views id (met v w)) other spent_view)) (heap_after k.log) s.words
            (λ pl x. excepted_spent (set s.views id (met v w)) other w there idle.0 idle.1 pl (excepted_set s.views id v (met v w) at refl pl x)) k.words;
        lying = views_stay (λ (_ : ℕ) (u : View). L u) (set s.views id (met v w)) other spent_view (idle_lies shape k.log [] s.words)
            (λ j u _ e. views_stay (λ (_ : ℕ) (u : View). L u) s.views id (met v w) (lying_grown shape k.log k.legal k.splits k.taken v w fv fw s.words (k.lying id v at)) (λ i y _ ey. k.lying i y ey) j u e);
        fits = views_stay (λ (_ : ℕ) (u : View). F u) (set s.views id (met v w)) other spent_view (spent_fits k.log k.splits k.taken)
            (λ j u _ e. views_stay (λ (_ : ℕ) (u : View). F u) s.views id (met v w) (met_fits shape k.log k.legal k.splits k.taken v w fv fw pass) (λ i y _ ey. k.fits i y ey) j u e);
        apart = apart_set (set s.views id (met v w)) other w spent_view there (λ e. not_spent e) (apart_set s.views id v (met v w) at (λ p. (p, refl)) k.apart);
        accesses = spent_access (set s.views id (met v w)) other (access_same s.views id v (met v w) at refl k.accesses);
        few = k.few;
        taken_below = k.taken_below;
        quiet = k.quiet;
        strange = k.strange;
      }
    where
      no_note : {A : Type 0} → Note ≡ Pass → A
      no_note e = absurd (cc)

  pub takes_in : (id : ℕ) (v : View) (other : ℕ) (w : View) → IsFirst v → w.role ≡ Pass → HoldsNothing w → Joins TheRule id v other w (joined v w) spent_view
  takes_in id v other w first wp nothing s k at ne there =
      let taken' : List ℕ = w.number ∷ k.taken in
      let F = Fits shape k.log k.splits taken' in
      let L : View → Type 0 = λ u. Lying shape k.log u.seen s.words u.working in
      let here = was_there s.views id other (joined v w) w ne there in
      let fv = k.fits id v at in
      let fw = k.fits other w here in
      let apart : v.number ≢ w.number = λ e. ne (k.apart other id w v here at wp first.0 (sym e)) in
      let since : k.log ≡ fw.begins.0 ++ w.seen = fw.begins.1 in
      let quiet : IsQuiet w.number (heap_after k.log) = subst (λ l. IsQuiet w.number (heap_after l)) (sym since) (quiet_more shape w.number w.seen fw.begins.0 (subst (IsLegal shape) since k.legal) (others_came w.number k.log w.seen fw.begins.0 since (fw.own wp)) nothing.quiet) in
      let rest : (j : ℕ) (u : View) → j ≢ id → j ≢ other → get_elem? s.views j ≡ some u → F u = λ j u ni no e. let f = k.fits j u e in
      fits_keep shape k.log k.splits k.splits k.taken taken' u (le_refl k.splits)
      (λ up. ap (λ b. b || within u.number k.taken) (ne_eqb u.number w.number (λ is. no (k.apart j other u w e here up wp is))) ∙ (f.numbered up).1)
      (λ p e. more_within w.number p k.taken e)
      (λ up z. absurd (ni (k.apart j id u v e at up first.0 (z ∙ sym first.1)))) f in record {
        log = k.log;
        splits = k.splits;
        taken = taken';
        sized = k.sized;
        legal = k.legal;
        in_shape = k.in_shape;
        words = shows_to shape (Excepted s.views) (Excepted (set (set s.views id (joined v w)) other spent_view)) (heap_after k.log) s.words
            (λ pl x. excepted_spent (set s.views id (joined v w)) other w there nothing.is_idle.owes nothing.is_idle.access pl (excepted_set s.views id v (joined v w) at refl pl x)) k.words;
        lying = views_stay (λ (_ : ℕ) (u : View). L u) (set s.views id (joined v w)) other spent_view (idle_lies shape k.log [] s.words)
            (λ j u _ e. views_stay (λ (_ : ℕ) (u : View). L u) s.views id (joined v w) (lying_grown shape k.log k.legal k.splits k.taken v w fv fw s.words (k.lying id v at)) (λ i y _ ey. k.lying i y ey) j u e);
        fits = views_stay (λ (_ : ℕ) (u : View). F u) (set s.views id (joined v w)) other spent_view (spent_fits k.log k.splits taken')
            (λ j u no e. views_stay (λ (j : ℕ) (u : View). j ≢ other → F u) s.views id (joined v w) (λ _. joined_fits shape k.log k.legal k.splits k.taken v w fv fw first wp apart) (λ i y ni ey no. rest i y ni no ey) j u e no);
        apart = apart_set (set s.views id (joined v w)) other w spent_view there (λ e. not_spent e) (apart_set s.views id v (joined v w) at (λ p. (p, refl)) k.apart);
        accesses = spent_access (set s.views id (joined v w)) other (access_same s.views id v (joined v w) at refl k.accesses);
        few = k.few;
        taken_below = λ p e. dite (ℕ_discrete p w.number)
            (λ is. let le = (fw.numbered wp).0 in (positive w.number (λ z. apart (first.1 ∙ sym z)) p is, omega (arith, is, le)))
            (λ no. k.taken_below p (sym (ap (λ b. b || within p k.taken) (ne_eqb p w.number no)) ∙ e));
        quiet = λ p e. dite (ℕ_discrete p w.number)
            (λ is. subst (λ q. IsQuiet q (heap_after k.log)) (sym is) quiet)
            (λ no. k.quiet p (sym (ap (λ b. b || within p k.taken) (ne_eqb p w.number no)) ∙ e));
        strange = k.strange;
      }
    where
      positive : (n : ℕ) → (n ≡ 0 → ⊥) → (p : ℕ) → p ≡ n → 1 ≤ p
      positive n nz p is = dite (dec_le 1 p) (λ le. le) (λ gt. absurd (nz (omega (arith, gt, is))))

  -- events of no thread are none
  no_events : (rest : History) → ((p : ℕ) → share rest p ≡ []) → rest ≡ []
  no_events [] none = refl
  no_events (e ∷ es) none = absurd (no_cons (sym (ap (λ b. cond b (e ∷ share es e.thread) (share es e.thread)) (eq-eqb e.thread e.thread refl)) ∙ none e.thread))
    where
      no_cons : {xs : History} → e ∷ xs ≡ [] → ⊥
      no_cons e = cc

  -- what the first pass has seen is the history, once it took in every other
  pub whole : (s : State S View) (k : TheRule s) (id : ℕ) (v : View) → get_elem? s.views id ≡ some v → IsFirst v → IsWhole v → k.log ≡ v.seen
  whole s k id v at first all =
      let f = k.fits id v at in
      let g = f.first first.0 first.1 in
      let rest = f.begins.0 in
      let own : (p : ℕ) → share k.log p ≡ share v.seen p → share rest p ≡ [] = λ p e. others_came p k.log v.seen rest f.begins.1 e in
      let none : (p : ℕ) → share rest p ≡ [] = λ p. dite (ℕ_discrete p 0)
      (λ z. own p (subst (λ (q : ℕ). share k.log q ≡ share v.seen q) (first.1 ∙ sym z) (f.own first.0)))
      (λ nz. dite (dec_le p v.splits)
      (λ le. own p (f.kept first.0 p (all p (positive p nz) le)).1)
      (λ gt. let gone = k.strange p (omega (arith, gt, g.0)) in nil_left (share rest p) (share v.seen p) (sym (share-append p rest v.seen) ∙ (ap (λ l. share l p) (sym f.begins.1) ∙ gone)))) in
      f.begins.1 ∙ ap (λ l. l ++ v.seen) (no_events rest none)
    where
      positive : (p : ℕ) → (p ≡ 0 → ⊥) → 1 ≤ p
      positive p nz = dite (dec_le 1 p) (λ le. le) (λ gt. absurd (nz (omega (arith, gt))))
