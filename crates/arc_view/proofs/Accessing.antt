-- An access of a cell: it begins with the busy mark, and ends with the word that was there. A look at a cell finds it nil.
use Rattle.std.proofs.Common.{◌≡◌, ◌⊎◌, inl, inr, ⊎_elim, ℕ, ◌≤◌, ◌==◌, Bool, true, false, List, [], ◌∷◌, set, Option, Some, None, refl, sym, ap, ◌∙◌, subst, arith}
use Rattle.std.proofs.lemmas.List.{set-get_or}
use Rattle.std.proofs.lemmas.Bool.{and_parts, eqb-true}
use Rattle.std.specs.Prelude.{slice_index, is_some, not, ◌&&◌}
use Rattle.arc_model.specs.declared.event.Act.{Act}
use Rattle.arc_model.specs.declared.event.Act.TheVariants as acts
use Rattle.arc_model.specs.declared.event.CellName.{CellName}
use Rattle.arc_model.specs.declared.event.CellName.TheVariants as cells
use Rattle.arc_model.specs.declared.event.Event.{Event}
use Rattle.arc_model.specs.Shapes.{HeapShape}
use Rattle.arc_model.specs.Heaps.{Heap}
use Rattle.arc_model.specs.Holders.{held_by}
use Rattle.arc_model.specs.Cells.{cell, is_nil}
use Rattle.arc_model.specs.Needs.{needs}
use Rattle.arc_model.specs.History.{History, heap_after, sight, IsLegal}
use Rattle.arc_model.proofs.Basics.{None≢Some, Some-inj}
use Rattle.arc_rule.specs.declared.step.Step.TheVariants.{Store}
use Rattle.arc_rule.specs.declared.step.Intent.{Intent}
use Rattle.arc_rule.specs.declared.step.Intent.TheVariants as intents
use Rattle.arc_rule.specs.declared.layout.Place.{Place}
use Rattle.arc_rule.specs.declared.layout.Place.TheVariants as places
use Rattle.arc_rule.specs.Places.{IsPlace, extent_of, number}
use Rattle.arc_rule.specs.Shown.{Says, ShowsBut}
use Rattle.arc_rule.proofs.Places.{place_at-number}
use Rattle.arc_view.specs.declared.view.Begun.{Begun}
use Rattle.arc_view.specs.declared.view.Working.{Working}
use Rattle.arc_view.specs.declared.view.View.{View}
use Rattle.arc_view.specs.Views.{cell_place, private_words, Excepts}
use Rattle.arc_view.specs.Holding.{CanReach, Owns}
use Rattle.arc_view.specs.Rule.{Lying, AccessFits}
use Rattle.arc_view.specs.Kinds.{when, loaded_act, stored_act, act_of, working_stored, working_after}
use Rattle.arc_view.specs.Admission.{Admits}
use Rattle.arc_view.specs.Steps.{IsUnsettled}
use Rattle.arc_view.proofs.Words.{number_same, word_set, word_changes}
use Rattle.arc_view.proofs.Keeps.{stays_self}
use Rattle.arc_view.proofs.Advance.{Good, lies_stay}
use Rattle.arc_view.proofs.Bridge.{Before, silent_good}
use Rattle.arc_view.proofs.Busy.{cell_at}
use Rattle.arc_view.proofs.Classes.{in_shape_stays}
use Rattle.arc_view.proofs.Own.{work_own}
use Rattle.arc_view.proofs.Strongs.{none_fails}
use Rattle.arc_view.proofs.AtCell.{reach_has, reach_met, cell_shows, says_cell, not_owned}

-- the word of a cell that is accessed is excepted
excepts_cell : (w : Working) (a : Begun) → w.access ≡ Some a → Excepts w (cell_place a.cell)
excepts_cell w a begun = by a.cell refl
  where
    by : (c : CellName) → a.cell ≡ c → Excepts w (cell_place c)
    by (cells.Field s f) is = (a, begun, ap cell_place is)
    by (cells.Global g) is = (a, begun, ap cell_place is)

-- what is excepted is a word that is owed, or that of the cell that is accessed
excepts_else : (w u : Working) → w.owes ≡ u.owes → (pl : Place) → ((a : Begun) → w.access ≡ Some a → cell_place a.cell ≡ pl → ⊥) → Excepts w pl → Excepts u pl
excepts_else w u owes places.Zero none e = absurd (e)
excepts_else w u owes (places.Global g) none (a, begun, is) = absurd (none a begun is)
excepts_else w u owes (places.Count s) none e = sym owes ∙ e
excepts_else w u owes (places.Isa s) none (n, owed, is) = (n, sym owes ∙ owed, is)
excepts_else w u owes (places.Next s) none e = absurd (e)
excepts_else w u owes (places.Field s f) none (a, begun, is) = absurd (none a begun is)
excepts_else w u owes (places.Link e) none x = absurd (x)
excepts_else w u owes (places.Strong e) none x = absurd (x)
excepts_else w u owes (places.Unowned e) none x = absurd (x)
excepts_else w u owes (places.Weak e) none x = absurd (x)
excepts_else w u owes (places.SlotBits k) none x = absurd (x)
excepts_else w u owes (places.EntryBits k) none x = absurd (x)

module _ (shape : HeapShape) (v : View) (h : History) (b : Before shape v h) (c : CellName) (inside : IsPlace (extent_of shape) (cell_place c)) where
  abbrev at : ℕ
  at = number (extent_of shape) (cell_place c)

  abbrev heap : Heap
  heap = heap_after h

  unowned : (pl : Place) → IsPlace (extent_of shape) pl → number (extent_of shape) pl ≡ at → (q : ℕ) → Owns heap q pl → ⊥
  unowned pl in_it is q own = not_owned heap c q (subst (λ r. Owns heap q r) (number_same (extent_of shape) pl (cell_place c) in_it inside is) own)

  here_is : (d : CellName) → IsPlace (extent_of shape) (cell_place d) → number (extent_of shape) (cell_place d) ≡ at → c ≡ d
  here_is d in_it is = cell_at c d (sym (number_same (extent_of shape) (cell_place d) (cell_place c) in_it inside is))

  -- the mark is put, and the view has the word that was there
  pub begin_good : (x : ℕ) → CanReach shape heap v.number c → v.working.access ≡ None → 2 ≤ x → Says shape heap (cell_place c) x
      → Good shape v h at x 1 None (record v.working { access = Some (record { cell = c; value = x }) })
  begin_good x reach none some says = record {
    may = b.legal;
    in_shape = b.in_shape;
    safe = inr (λ pl in_it is q own. absurd (unowned pl in_it is q own));
    calm = inr (λ d in_it is one. absurd (busy one));
    cells = λ d in_it there ne. record { says = λ w u. u; owner = refl; refers = refl };
    begins = λ a e. inr (ap (λ (t : Begun). number (extent_of shape) (cell_place t.cell)) (sym (Some-inj e)), busy);
    words = λ Others ws shown l e. word_changes shape (λ q. Excepts v.working q ⊎ Others q) (λ q. Excepts work q ⊎ Others q) heap heap ws (cell_place c) 1 inside shown
        (λ notF. absurd (notF (inl (excepts_cell work begun refl))))
        (λ q ne notF e. notF (⊎_elim (λ mine. inl (excepts_else v.working work refl q (λ a has is. None≢Some a (sym none ∙ has)) mine)) (λ others. inr others) e)) (λ q iq ne _ u t. t);
    fits = record {
      owing = b.work.owing;
      reaches = λ a e. subst (λ (t : Begun). IsPlace (extent_of shape) (cell_place t.cell) × CanReach shape heap v.number t.cell) (Some-inj e) (inside, reach);
      private = b.work.private;
      entered = b.work.entered;
    };
    lying = λ Others ws shown l e. record {
      private = lies_stay shape heap ws at 1 v.number (private_words v.working) b.work.private l.private (inr (λ pl in_it is own. unowned pl in_it is v.number own));
      access = λ a is. subst (AccessFits shape h h (set ws at 1)) (Some-inj is) (record {
        busy = word_set shape (λ q. Excepts v.working q ⊎ Others q) heap ws (cell_place c) 1 inside shown;
        value = says;
        stays = stays_self h c;
      });
      naming = l.naming;
    };
  }
    where
      begun : Begun
      begun = record { cell = c; value = x }

      work : Working
      work = record v.working { access = Some (record { cell = c; value = x }) }

      busy : x ≡ 1 → ⊥
      busy one = omega (arith, some, one)

  -- the word that was there is put back
  pub end_good : (x : ℕ) (a : Begun) → v.working.access ≡ Some a → a.cell ≡ c → Good shape v h at x a.value None (record v.working { access = None })
  end_good x a begun is = record {
    may = b.legal;
    in_shape = b.in_shape;
    safe = inr (λ pl in_it e q own. absurd (unowned pl in_it e q own));
    calm = inr (λ d in_it e one. (a, begun, is ∙ here_is d in_it e));
    cells = λ d in_it there ne. record { says = λ w u. u; owner = refl; refers = refl };
    begins = λ z e. absurd (None≢Some z e);
    words = λ Others ws shown l e. word_changes shape (λ q. Excepts v.working q ⊎ Others q) (λ q. Excepts work q ⊎ Others q) heap heap ws (cell_place c) a.value inside shown
        (λ _. subst (λ d. Says shape heap (cell_place d) a.value) is (l.access a begun).value)
        (λ q ne notF e. notF (⊎_elim (λ mine. inl (excepts_else v.working work refl q (λ z has at_q. ne (sym at_q ∙ ap cell_place (ap (λ (t : Begun). t.cell) (Some-inj (sym has ∙ begun)) ∙ is))) mine)) (λ others. inr others) e)) (λ q iq ne _ u t. t);
    fits = record {
      owing = b.work.owing;
      reaches = λ z e. absurd (None≢Some z e);
      private = b.work.private;
      entered = b.work.entered;
    };
    lying = λ Others ws shown l e. record {
      private = lies_stay shape heap ws at a.value v.number (private_words v.working) b.work.private l.private (inr (λ pl in_it e own. unowned pl in_it e v.number own));
      access = λ z e. absurd (None≢Some z e);
      naming = l.naming;
    };
  }
    where
      work : Working
      work = record v.working { access = None }

  -- a cell whose word is 0 refers to nothing
  pub nil_shown : (x : ℕ) → CanReach shape heap v.number c → x ≡ 0 → Says shape heap (cell_place c) x → is_nil heap (cell heap c) ≡ true
  nil_shown x reach zero_is says = ⊎_elim
      (λ (t : (x ≡ 0) × (held_by (cell heap c) heap ≡ None)). ap (λ m. not (is_some m)) t.1)
      (λ t. absurd (let some = t.2 in omega (arith, some, zero_is)))
      (cell_shows shape h c x b.legal (says_cell shape h c x b.legal (reach_has shape heap v.number c reach) says))

  -- it was looked at
  pub look_good : (x : ℕ) → CanReach shape heap v.number c → v.working.owes ≡ None → x ≡ 0 → Says shape heap (cell_place c) x → Good shape v h at x x (Some (acts.Look c)) v.working
  look_good x reach owes zero_is says = record {
    may = legal;
    in_shape = in_shape_stays shape event h legal refl refl refl b.in_shape;
    safe = inl refl;
    calm = inr (λ d in_it is one. absurd (let one_is = one in omega (arith, one_is, zero_is)));
    cells = λ d in_it there ne. record { says = λ w u. u; owner = refl; refers = refl };
    begins = λ a e. inl e;
    words = λ Others ws shown l e. subst (λ t. ShowsBut (λ pl. Excepts v.working pl ⊎ Others pl) shape heap t) (sym (same ws e)) shown;
    fits = work_own shape event h v.working legal refl (λ n claim. claim) (inr (λ k e. cc)) owes b.work;
    lying = λ Others ws shown l e. subst (λ t. Lying shape (event ∷ h) (event ∷ h) t v.working) (sym (same ws e)) (record {
      private = l.private;
      access = λ a begun. let f = l.access a begun in record { busy = f.busy; value = f.value; stays = stays_self (event ∷ h) a.cell };
      naming = l.naming;
    });
  }
    where
      event : Event
      event = record { thread = v.number; act = acts.Look c }

      legal : IsLegal shape (event ∷ h)
      legal = (none_fails (needs shape (sight v.number h) v.number (acts.Look c)) (reach_met shape h v.number c ((is_nil heap (cell heap c), _) ∷ []) b.legal reach (nil_shown x reach zero_is says, tt)), b.legal)

      same : (ws : List ℕ) → x ≡ slice_index ws at → set ws at x ≡ ws
      same ws e = ap (set ws at) e ∙ set-get_or ws at 0

  -- a load that is to look at the cell
  pub look_loaded : (x : ℕ) → CanReach shape heap v.number c → v.working.owes ≡ None → (x ≡ 0 → Says shape heap (cell_place c) x) → Good shape v h at x x (loaded_act shape v (cell_place c) x (intents.Access c)) v.working
  look_loaded x reach owes says = by (at == at && x == 0) refl
    where
      by : (t : Bool) → (at == at && x == 0) ≡ t → Good shape v h at x x (when t (acts.Look c)) v.working
      by false is = silent_good shape v h b at x
      by true is = let zero_is = eqb-true x 0 (and_parts (at == at) (x == 0) is).1 in look_good x reach owes zero_is (says zero_is)

-- a cell is unsettled where its word is 1
pub cell_busy : (c : CellName) (x : ℕ) → IsUnsettled (cell_place c) x → x ≡ 1
cell_busy (cells.Field s f) x busy = busy
cell_busy (cells.Global g) x busy = busy

module _ (shape : HeapShape) (v : View) (h : History) (b : Before shape v h) where
  abbrev Stored : ℕ → ℕ → Intent → ℕ → Type 1
  Stored place new intent x = Good shape v h place x new (act_of shape v (Store place new) intent 0) (working_after shape v (Store place new) intent 0)

  -- a store in a cell that is accessed has no event, and ends the access
  no_act : (c d : CellName) → stored_act v (cell_place d) (intents.Access c) ≡ None
  no_act c (cells.Field s f) = refl
  no_act c (cells.Global g) = refl

  ends : (c d : CellName) (new : ℕ) → working_stored (number (extent_of shape)) v.working (cell_place d) new (intents.Access c) ≡ record v.working { access = None }
  ends c (cells.Field s f) new = refl
  ends c (cells.Global g) new = refl

  pub access_stored : (place new : ℕ) (c : CellName) (x : ℕ) → Admits shape v (Store place new) (intents.Access c) → Stored place new (intents.Access c) x
  access_stored place new c x (pl, at, inside, (owes, (a, begun, same, is, value))) =
      let in_it = subst (IsPlace (extent_of shape)) is inside in
      subst (λ n. Stored n new (intents.Access c) x) (sym (at ∙ ap (number (extent_of shape)) is))
      (subst (λ (q : Place). Good shape v h (number (extent_of shape) (cell_place c)) x new (stored_act v q (intents.Access c)) (working_stored (number (extent_of shape)) v.working q new (intents.Access c))) (sym (place_at-number (extent_of shape) (cell_place c) in_it))
      (subst (λ (t : ℕ × Option Act × Working). Good shape v h (number (extent_of shape) (cell_place c)) x t.0 t.1 t.2) (λ j. (sym value j, sym (no_act c c) j, sym (ends c c new) j)) (end_good shape v h b c in_it x a begun same)))
