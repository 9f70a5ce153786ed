-- A deinit that finds a field nil goes past it: the load has no event, and moves where an entered deinit goes on.
use mathlib.Core.Logic.{dite}
use native.Mathlib.Decide.{ℕ_discrete}
use Rattle.std.proofs.Common.{◌≡◌, ◌⊎◌, inl, inr, ⊎_elim, ℕ, zero, suc, ◌<◌, ◌≤◌, ◌==◌, not, Bool, true, false, cond, List, [], ◌∷◌, ◌++◌, map, length, set, Option, Some, None, refl, sym, ap, ◌∙◌, subst, arith, lt-ltb}
use Rattle.std.specs.Prelude.{slice_get, is_some, ◌&&◌}
use Rattle.std.proofs.lemmas.Bool.{and_parts, eqb-true}
use Rattle.arc_model.specs.declared.event.CellName.TheVariants as cells
use Rattle.arc_model.specs.Shapes.{HeapShape}
use Rattle.arc_model.specs.Heaps.{Object}
use Rattle.arc_model.specs.Heaps as holders
use Rattle.arc_model.specs.Holders.{held_by}
use Rattle.arc_model.specs.Cells.{cell, id_of, is_nil, has_field, fields_of, field_shape}
use Rattle.arc_model.specs.History.{History, heap_after}
use Rattle.arc_model.specs.Lookup.{Spot, spot}
use Rattle.arc_model.proofs.Tally.{no}
use Rattle.arc_model.proofs.CellKinds.{cell_kinds_after}
use Rattle.arc_model.proofs.Others.{lookup_after}
use Rattle.arc_rule.specs.declared.layout.Place.{Place}
use Rattle.arc_rule.specs.declared.layout.Place.TheVariants as places
use Rattle.arc_rule.specs.declared.step.Intent.TheVariants as intents
use Rattle.arc_rule.specs.declared.step.Step.TheVariants.{Load}
use Rattle.arc_rule.specs.Places.{IsPlace, extent_of, number}
use Rattle.arc_rule.specs.Shown.{Says}
use Rattle.arc_rule.proofs.Places.{place_at-number}
use Rattle.arc_view.specs.declared.view.Entered.{Entered}
use Rattle.arc_view.specs.declared.view.View.{View}
use Rattle.arc_view.specs.Views.{Each, kept_next, Excepts}
use Rattle.arc_view.specs.Holding.{At}
use Rattle.arc_view.specs.Admission.{Admits}
use Rattle.arc_view.specs.Kinds.{loaded_act, working_loaded, act_of, working_after, goes_past}
use Rattle.arc_view.specs.Rule.{EnteredFits, IsMine, Lies}
use Rattle.arc_view.proofs.Words.{slot_found, shows_to}
use Rattle.arc_view.proofs.Advance.{Good}
use Rattle.arc_view.proofs.Bridge.{Before, Reading, silent_good}
use Rattle.arc_view.proofs.Swapping.{named_kind}
use Rattle.arc_view.proofs.AtCell.{cell_shows, says_cell, excepts_same}

-- where a deinit goes past a field, its next word stays
goes_past_kept : (s f : ℕ) (es : List Entered) → map kept_next (goes_past s f es) ≡ map kept_next es
goes_past_kept s f [] = refl
goes_past_kept s f (e ∷ es) = go (e.slot == s && e.next_field == f) (goes_past_kept s f es)
  where
    go : (t : Bool) → map kept_next (goes_past s f es) ≡ map kept_next es → map kept_next ((cond t (record e { next_field = suc f }) e) ∷ goes_past s f es) ≡ kept_next e ∷ map kept_next es
    go true ih = ap (λ ks. kept_next e ∷ ks) ih
    go false ih = ap (λ ks. kept_next e ∷ ks) ih

found_below : {X : Type 0} (xs : List X) (f : ℕ) (x : X) → slice_get xs f ≡ Some x → f < length xs
found_below [] f x e = absurd (cc)
found_below (y ∷ ys) zero x e = omega arith
found_below (y ∷ ys) (suc f) x e = let lt = found_below ys f x e in omega (arith, lt)

module _ (shape : HeapShape) (v : View) (h : History) (b : Before shape v h) where
  -- a load that changes nothing but where entered deinits go on
  entered_good : (i x : ℕ) (es : List Entered) → map kept_next es ≡ map kept_next v.working.entered → Each (EnteredFits shape v.number h) es → Good shape v h i x x None (record v.working { entered = es })
  entered_good i x es kept fits =
      let s = silent_good shape v h b i x in record {
        may = b.legal;
        in_shape = b.in_shape;
        safe = inl refl;
        calm = inl (refl, refl);
        cells = s.cells;
        begins = λ a e. inl e;
        words = λ Others ws shown l e. shows_to shape (λ q. Excepts v.working q ⊎ Others q) (λ q. Excepts (record v.working { entered = es }) q ⊎ Others q) (heap_after h) (set ws i x)
            (λ q. ⊎_elim (λ mine. inl (excepts_same v.working (record v.working { entered = es }) refl refl q mine)) (λ others. inr others)) (s.words Others ws shown l e);
        fits = record {
          owing = b.work.owing;
          reaches = b.work.reaches;
          private = subst (λ ks. Each (IsMine shape (heap_after h) v.number) (v.working.stored ++ ks)) (sym kept) b.work.private;
          entered = fits;
        };
        lying = λ Others ws shown l e. let t = s.lying Others ws shown l e in record {
          private = subst (λ ks. Each (Lies shape (set ws i x)) (v.working.stored ++ ks)) (sym kept) t.private;
          access = t.access;
          naming = t.naming;
        };
      }

  -- a field whose word is 0 is nil
  field_nil : (s f i : ℕ) (o : Object) → At (heap_after h) i o → o.slot ≡ Some s → Says shape (heap_after h) (places.Field s f) 0 → is_nil (heap_after h) (holders.Field o.id f) ≡ true
  field_nil s f i o here slot says = by (has_field shape f o) refl
    where
      outside : has_field shape f o ≡ false → (m : Option Spot) → spot (holders.Field o.id f) (heap_after h) ≡ m → is_nil (heap_after h) (holders.Field o.id f) ≡ true
      outside has None at = ap (λ m. not (is_some m)) ((lookup_after shape h (holders.Field o.id f) b.legal refl).nowhere at)
      outside has (Some t) at =
          let named = named_kind t.kind (field_shape shape f (Some o)) ((cell_kinds_after shape h b.legal).fields i o f t here at) in
          no (sym has ∙ lt-ltb f (length (fields_of shape o)) (found_below (fields_of shape o) f named.0 named.1))

      by : (t : Bool) → has_field shape f o ≡ t → is_nil (heap_after h) (holders.Field o.id f) ≡ true
      by false has = outside has (spot (holders.Field o.id f) (heap_after h)) refl
      by true has = ⊎_elim
          (λ (t : (0 ≡ 0) × (held_by (cell (heap_after h) (cells.Field s f)) (heap_after h) ≡ None)).
          ap (λ d. is_nil (heap_after h) (holders.Field d f)) (sym (ap id_of (slot_found shape h i s o b.legal here slot))) ∙ ap (λ m. not (is_some m)) t.1)
          (λ (t : (q : Object) × (held_by (cell (heap_after h) (cells.Field s f)) (heap_after h) ≡ Some q) × (2 ≤ 0)). absurd (let le = t.2 in omega (arith, le)))
          (cell_shows shape h (cells.Field s f) 0 b.legal (says_cell shape h (cells.Field s f) 0 b.legal (i, o, here, slot, has) says))

  -- an entered deinit of the slot that was to go on at the field goes on after it
  gone_past : (s f : ℕ) → Says shape (heap_after h) (places.Field s f) 0 → (es : List Entered) → Each (EnteredFits shape v.number h) es → Each (EnteredFits shape v.number h) (goes_past s f es)
  gone_past s f says [] fits = tt
  gone_past s f says (e ∷ es) fits = (go (e.slot == s && e.next_field == f) refl fits.0, gone_past s f says es fits.1)
    where
      go : (t : Bool) → (e.slot == s && e.next_field == f) ≡ t → EnteredFits shape v.number h e → EnteredFits shape v.number h (cond t (record e { next_field = suc f }) e)
      go false is m = m
      go true is m =
          let all = and_parts (e.slot == s) (e.next_field == f) is in
          let next : e.next_field ≡ f = eqb-true e.next_field f all.1 in record {
            place = m.place;
            object = m.object;
            here = m.here;
            slot = m.slot;
            duty = m.duty;
            nils = λ g lt. dite (ℕ_discrete g f)
                (λ same. ap (λ n. is_nil (heap_after h) (holders.Field m.object.id n)) same ∙ field_nil s f m.place m.object m.here (m.slot ∙ ap Some (eqb-true e.slot s all.0)) says)
                (λ ne. m.nils g (omega (arith, lt, ne, next)));
            parent = m.parent;
          }

  -- what a load of a deinit shows at a place
  field_loaded : (s f slot x : ℕ) → IsPlace (extent_of shape) (places.Field s f) → v.working.owes ≡ None → Reading shape v h (number (extent_of shape) (places.Field s f)) x
      → Good shape v h (number (extent_of shape) (places.Field s f)) x x None (working_loaded v.working (places.Field s f) x (intents.Deinit slot))
  field_loaded s f slot x inside owes read = by (s == slot && x == 0) refl
    where
      by : (t : Bool) → (s == slot && x == 0) ≡ t → Good shape v h (number (extent_of shape) (places.Field s f)) x x None (cond t (record v.working { entered = goes_past s f v.working.entered }) v.working)
      by false is = silent_good shape v h b (number (extent_of shape) (places.Field s f)) x
      by true is =
          let none : x ≡ 0 = eqb-true x 0 (and_parts (s == slot) (x == 0) is).1 in
          let says = subst (Says shape (heap_after h) (places.Field s f)) none ((read owes (places.Field s f) inside refl).says (λ busy. omega (arith, none, busy))) in
          entered_good (number (extent_of shape) (places.Field s f)) x (goes_past s f v.working.entered) (goes_past_kept s f v.working.entered) (gone_past s f says v.working.entered b.work.entered)

  deinit_loads : (pl : Place) (slot x : ℕ) → IsPlace (extent_of shape) pl → v.working.owes ≡ None → Reading shape v h (number (extent_of shape) pl) x
      → Good shape v h (number (extent_of shape) pl) x x (loaded_act shape v pl x (intents.Deinit slot)) (working_loaded v.working pl x (intents.Deinit slot))
  deinit_loads (places.Field s f) slot x inside owes read = field_loaded s f slot x inside owes read
  deinit_loads places.Zero slot x inside owes read = silent_good shape v h b (number (extent_of shape) places.Zero) x
  deinit_loads (places.Global g) slot x inside owes read = silent_good shape v h b (number (extent_of shape) (places.Global g)) x
  deinit_loads (places.Count s) slot x inside owes read = silent_good shape v h b (number (extent_of shape) (places.Count s)) x
  deinit_loads (places.Isa s) slot x inside owes read = silent_good shape v h b (number (extent_of shape) (places.Isa s)) x
  deinit_loads (places.Next s) slot x inside owes read = silent_good shape v h b (number (extent_of shape) (places.Next s)) x
  deinit_loads (places.Link e) slot x inside owes read = silent_good shape v h b (number (extent_of shape) (places.Link e)) x
  deinit_loads (places.Strong e) slot x inside owes read = silent_good shape v h b (number (extent_of shape) (places.Strong e)) x
  deinit_loads (places.Unowned e) slot x inside owes read = silent_good shape v h b (number (extent_of shape) (places.Unowned e)) x
  deinit_loads (places.Weak e) slot x inside owes read = silent_good shape v h b (number (extent_of shape) (places.Weak e)) x
  deinit_loads (places.SlotBits k) slot x inside owes read = silent_good shape v h b (number (extent_of shape) (places.SlotBits k)) x
  deinit_loads (places.EntryBits k) slot x inside owes read = silent_good shape v h b (number (extent_of shape) (places.EntryBits k)) x

  pub deinit_loaded : (place slot x : ℕ) → Admits shape v (Load place) (intents.Deinit slot) → Reading shape v h place x → Good shape v h place x x (act_of shape v (Load place) (intents.Deinit slot) x) (working_after shape v (Load place) (intents.Deinit slot) x)
  deinit_loaded place slot x (pl, at, inside, owes, may, aim) read =
      subst (λ n. Good shape v h n x x (act_of shape v (Load n) (intents.Deinit slot) x) (working_after shape v (Load n) (intents.Deinit slot) x)) (sym at)
      (subst (λ (q : Place). Good shape v h (number (extent_of shape) pl) x x (loaded_act shape v q x (intents.Deinit slot)) (working_loaded v.working q x (intents.Deinit slot))) (sym (place_at-number (extent_of shape) pl inside))
      (deinit_loads pl slot x inside owes (subst (λ t. Reading shape v h t x) at read)))
