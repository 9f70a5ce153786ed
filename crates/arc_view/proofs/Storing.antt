-- A word of an entry that the view claimed is stored, and kept private.
use Rattle.std.proofs.Common.{◌≡◌, ◌≢◌, ◌⊎◌, inl, inr, ⊎_elim, ℕ, true, false, List, [], ◌∷◌, map, set, None, refl, sym, ◌∙◌, subst, arith, get_or-set_other}
use Rattle.arc_model.specs.declared.event.CellName.{CellName}
use Rattle.arc_model.specs.declared.event.CellName.TheVariants as cells
use Rattle.arc_model.specs.declared.shape.Kind.{Kind}
use Rattle.arc_model.specs.declared.shape.Kind.TheVariants as kinds
use Rattle.arc_model.specs.Shapes.{HeapShape}
use Rattle.arc_model.specs.Heaps.{Heap}
use Rattle.arc_model.specs.Holders.{at_entry, is_claimed_by}
use Rattle.arc_model.specs.History.{History, heap_after}
use Rattle.arc_model.proofs.Basics.{None≢Some}
use Rattle.arc_model.proofs.Courses.{well_formed}
use Rattle.arc_rule.specs.declared.layout.Place.{Place}
use Rattle.arc_rule.specs.declared.layout.Place.TheVariants.{Next, Link, Strong, Unowned, Weak}
use Rattle.arc_rule.specs.Places.{IsPlace, extent_of, number}
use Rattle.arc_rule.specs.Shown.{Says, ShowsLink, ShowsHolders}
use Rattle.arc_view.specs.declared.view.Entered.{Entered}
use Rattle.arc_view.specs.declared.view.Stored.{Stored}
use Rattle.arc_view.specs.declared.view.Working.{Working}
use Rattle.arc_view.specs.declared.view.View.{View}
use Rattle.arc_view.specs.Views.{Each, cell_place, kept_next, private_words, Excepts}
use Rattle.arc_view.specs.Holding.{Owns}
use Rattle.arc_view.specs.Admission.{IsWordOfEntry}
use Rattle.arc_view.specs.Rule.{IsMine, Lies}
use Rattle.arc_view.specs.Kinds.{but_at}
use Rattle.arc_view.proofs.Lists.{each_cut, each_join}
use Rattle.arc_view.proofs.Words.{number_same, word_set, word_changes}
use Rattle.arc_view.proofs.Keeps.{stays_self}
use Rattle.arc_view.proofs.Advance.{Good}
use Rattle.arc_view.proofs.Bridge.{Before}
use Rattle.arc_view.proofs.Entering.{but_kept}
use Rattle.arc_view.proofs.Claims.{stored_exceptions, claimed_free, one_claimer}

-- a word that the view alone writes, of which the heap says nothing
record IsPrivate (shape : HeapShape) (heap : Heap) (p : ℕ) (pl : Place) : Type 0 where
  mine : Owns heap p pl
  only : (q : ℕ) → Owns heap q pl → q ≡ p
  cell : (c : CellName) → cell_place c ≡ pl → ⊥
  next : (s : ℕ) → Next s ≢ pl
  says : (w : ℕ) → Says shape heap pl w

no_cell : (e : ℕ) (pl : Place) → IsWordOfEntry e pl → (c : CellName) → cell_place c ≡ pl → ⊥
no_cell e pl (inl is) c at = apart c (at ∙ is)
  where
    apart : (c : CellName) → cell_place c ≡ Link e → ⊥
    apart (cells.Field s f) same = cc
    apart (cells.Global g) same = cc
no_cell e pl (inr (inl is)) c at = apart c (at ∙ is)
  where
    apart : (c : CellName) → cell_place c ≡ Strong e → ⊥
    apart (cells.Field s f) same = cc
    apart (cells.Global g) same = cc
no_cell e pl (inr (inr (inl is))) c at = apart c (at ∙ is)
  where
    apart : (c : CellName) → cell_place c ≡ Unowned e → ⊥
    apart (cells.Field s f) same = cc
    apart (cells.Global g) same = cc
no_cell e pl (inr (inr (inr is))) c at = apart c (at ∙ is)
  where
    apart : (c : CellName) → cell_place c ≡ Weak e → ⊥
    apart (cells.Field s f) same = cc
    apart (cells.Global g) same = cc

no_next : (e : ℕ) (pl : Place) → IsWordOfEntry e pl → (s : ℕ) → Next s ≢ pl
no_next e pl (inl is) s at = let same : Next s ≡ Link e = at ∙ is in cc
no_next e pl (inr (inl is)) s at = let same : Next s ≡ Strong e = at ∙ is in cc
no_next e pl (inr (inr (inl is))) s at = let same : Next s ≡ Unowned e = at ∙ is in cc
no_next e pl (inr (inr (inr is))) s at = let same : Next s ≡ Weak e = at ∙ is in cc

-- The view has claimed the entry.
module _ (shape : HeapShape) (v : View) (h : History) (b : Before shape v h) (e : ℕ) (pl : Place) (its : IsWordOfEntry e pl) (inside : IsPlace (extent_of shape) pl) (owes : v.working.owes ≡ None) (claim : is_claimed_by v.number e (heap_after h) ≡ true) where
  abbrev heap : Heap
  heap = heap_after h

  abbrev at : ℕ
  at = number (extent_of shape) pl

  one : (q : ℕ) → is_claimed_by q e heap ≡ true → q ≡ v.number
  one q other = one_claimer v.number q e heap.claims (let once = (well_formed shape h b.legal).entries e in omega (arith, once)) claim other

  free : at_entry e heap ≡ None
  free = claimed_free shape h v.number e b.legal claim

  says_count : (k : Kind) (w : ℕ) → ShowsHolders shape k (at_entry e heap) w
  says_count k w = subst (λ m. ShowsHolders shape k m w) (sym free) tt

  private : IsPrivate shape heap v.number pl
  private = record { mine = mine its; only = only its; cell = no_cell e pl its; next = no_next e pl its; says = says its }
    where
      mine : IsWordOfEntry e pl → Owns heap v.number pl
      mine (inl is) = subst (λ (q : Place). Owns heap v.number q) (sym is) claim
      mine (inr (inl is)) = subst (λ (q : Place). Owns heap v.number q) (sym is) claim
      mine (inr (inr (inl is))) = subst (λ (q : Place). Owns heap v.number q) (sym is) claim
      mine (inr (inr (inr is))) = subst (λ (q : Place). Owns heap v.number q) (sym is) claim

      only : IsWordOfEntry e pl → (q : ℕ) → Owns heap q pl → q ≡ v.number
      only (inl is) q o = one q (subst (λ (r : Place). Owns heap q r) is o)
      only (inr (inl is)) q o = one q (subst (λ (r : Place). Owns heap q r) is o)
      only (inr (inr (inl is))) q o = one q (subst (λ (r : Place). Owns heap q r) is o)
      only (inr (inr (inr is))) q o = one q (subst (λ (r : Place). Owns heap q r) is o)

      says : IsWordOfEntry e pl → (w : ℕ) → Says shape heap pl w
      says (inl is) w = subst (λ (r : Place). Says shape heap r w) (sym is) (subst (λ m. ShowsLink shape m w) (sym free) tt)
      says (inr (inl is)) w = subst (λ (r : Place). Says shape heap r w) (sym is) (says_count kinds.Strong w)
      says (inr (inr (inl is))) w = subst (λ (r : Place). Says shape heap r w) (sym is) (says_count kinds.Unowned w)
      says (inr (inr (inr is))) w = subst (λ (r : Place). Says shape heap r w) (sym is) (says_count kinds.Weak w)

  -- what is kept private once the word is stored
  module _ (new : ℕ) where
    abbrev now : Stored
    now = record { place = pl; word = new }

    abbrev work : Working
    work = record v.working { stored = now ∷ but_at (number (extent_of shape)) at v.working.stored }

    words_after : (P Q : Stored → Type 0) → Q now → ((k : Stored) → number (extent_of shape) k.place ≢ at → P k → Q k) → Each (IsMine shape heap v.number) (private_words v.working) → Each P (private_words v.working) → Each Q (private_words work)
    words_after P Q here keep mine all =
        let t = each_cut P v.working.stored (map kept_next v.working.entered) all in
        let m = each_cut (IsMine shape heap v.number) v.working.stored (map kept_next v.working.entered) mine in
        (here, each_join Q (but_at (number (extent_of shape)) at v.working.stored) (map kept_next v.working.entered) (but_kept (number (extent_of shape)) at P Q keep v.working.stored t.0) (entered v.working.entered m.1 t.1))
      where
        entered : (es : List Entered) → Each (IsMine shape heap v.number) (map kept_next es) → Each P (map kept_next es) → Each Q (map kept_next es)
        entered [] m all = tt
        entered (z ∷ es) m all = (keep (kept_next z) (λ same. private.next z.slot (number_same (extent_of shape) (Next z.slot) pl m.0.0 inside same)) all.0, entered es m.1 all.1)

    pub store_good : (x : ℕ) → Good shape v h at x new None work
    store_good x = record {
      may = b.legal;
      in_shape = b.in_shape;
      safe = inr (λ q iq same r o. private.only r (subst (λ (u : Place). Owns heap r u) (number_same (extent_of shape) q pl iq inside same) o));
      calm = inr (λ c ic same _. absurd (private.cell c (number_same (extent_of shape) (cell_place c) pl ic inside same)));
      cells = λ c ic there ne. record { says = λ w t. t; owner = refl; refers = refl };
      begins = λ a begun. inl begun;
      words = λ Others ws shown l r. word_changes shape (λ q. Excepts v.working q ⊎ Others q) (λ q. Excepts work q ⊎ Others q) heap heap ws pl new inside shown (λ _. private.says new)
          (λ q ne notF. ⊎_elim (λ a. notF (inl (stored_exceptions v.working work.stored q a))) (λ a. notF (inr a))) (λ q iq _ _ w t. t);
      fits = record {
        owing = b.work.owing;
        reaches = b.work.reaches;
        private = words_after (IsMine shape heap v.number) (IsMine shape heap v.number) (inside, private.mine) (λ k _ m. m) b.work.private b.work.private;
        entered = b.work.entered;
      };
      lying = λ Others ws shown l r. record {
        private = words_after (Lies shape ws) (Lies shape (set ws at new)) (word_set shape (λ q. Excepts v.working q ⊎ Others q) heap ws pl new inside shown)
            (λ k ne lies. get_or-set_other ws at (number (extent_of shape) k.place) new 0 ne ∙ lies) b.work.private l.private;
        access = λ a begun. let f = l.access a begun in let reach = b.work.reaches a begun in record {
          busy = get_or-set_other ws at (number (extent_of shape) (cell_place a.cell)) new 0 (λ same. private.cell a.cell (number_same (extent_of shape) (cell_place a.cell) pl reach.0 inside same)) ∙ f.busy;
          value = f.value;
          stays = stays_self h a.cell;
        };
        naming = λ t owed. absurd (None≢Some (record { slot = t; counted = false }) (sym owes ∙ owed));
      };
    }
