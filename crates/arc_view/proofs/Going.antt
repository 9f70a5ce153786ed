-- The weak reference that the unowned ones held together is taken off an entry, once the object has left its slot; the last one leaves the entry to the thread.
use Rattle.std.proofs.Common.{◌≡◌, inr, ℕ, suc, ◌<◌, ◌==◌, Bool, true, false, [], ◌∷◌, length, Some, None, refl, sym, ap, ◌∙◌, arith}
use Rattle.std.specs.Prelude.{is_some}
use Rattle.arc_model.specs.declared.event.Act.{Act}
use Rattle.arc_model.specs.declared.event.Act.TheVariants as acts
use Rattle.arc_model.specs.declared.shape.Kind.{Kind}
use Rattle.arc_model.specs.declared.shape.Kind.TheVariants as kinds
use Rattle.arc_model.specs.Shapes.{HeapShape}
use Rattle.arc_model.specs.Heaps.{Holder, Unowneds, Gone, Object, Heap}
use Rattle.arc_model.specs.Holders.{is_in, is_alone, kind_in, list_of, has_entry, at_entry, owes_to, change}
use Rattle.arc_model.specs.Effects.{gone}
use Rattle.arc_model.specs.Needs.{needs, passes, same_bool}
use Rattle.arc_model.specs.History.{History, heap_after, sight, IsLegal}
use Rattle.arc_model.specs.Lookup.{duty_of, is_cell}
use Rattle.arc_model.proofs.Basics.{true≢false, empty-is, none-strong}
use Rattle.arc_model.proofs.Tally.{tally-in}
use Rattle.arc_model.proofs.Turns.{IsPut, put-found}
use Rattle.arc_model.proofs.Courses.{well_formed}
use Rattle.arc_model.proofs.Stages.{GoneFacts, gone-facts}
use Rattle.arc_rule.specs.declared.layout.Place.TheVariants as places
use Rattle.arc_rule.specs.Places.{extent_of, number}
use Rattle.arc_rule.specs.Shown.{Says}
use Rattle.arc_view.specs.declared.view.View.{View}
use Rattle.arc_view.specs.Holding.{At}
use Rattle.arc_view.proofs.Advance.{Good}
use Rattle.arc_view.proofs.Bridge.{Before}
use Rattle.arc_view.proofs.Classes.{in_shape_stays}
use Rattle.arc_view.proofs.Own.{work_own}
use Rattle.arc_view.proofs.Put.{place_same}
use Rattle.arc_view.proofs.Strongs.{none_fails, entry_found, in_without, length_without, same_true, alone_one}
use Rattle.arc_view.proofs.Owed.{duty_parts, owes_it}
use Rattle.arc_view.proofs.Relist.{IsRelisted}
use Rattle.arc_view.proofs.Vacating.{no_unowneds}
use Rattle.arc_view.proofs.Turned.{event_of, Turned, entry_good}
use Rattle.arc_view.proofs.Rising.{entry_now}
use Rattle.arc_view.proofs.LastWeak.{IsFreed, none_left, freed_good}
use Rattle.arc_view.proofs.WeakDrops.{alone_is, without_alone}

-- The view owes the object, which has the entry, that its last weak reference but those of hands and cells goes.
module _ (shape : HeapShape) (v : View) (h : History) (b : Before shape v h) (i e : ℕ) (o : Object) (here : At (heap_after h) i o) (entry : o.entry ≡ Some e) (duty : duty_of v.number i (heap_after h) ≡ Some Gone) (owes : v.working.owes ≡ None) where
  abbrev heap : Heap
  heap = heap_after h

  facts : GoneFacts shape o
  facts = gone-facts o ((well_formed shape h b.legal).whole i o here) (duty_parts h v.number i Gone o here duty).1

  in_list : is_in Unowneds o.weak ≡ true
  in_list = tally-in Unowneds o.weak (let one = facts.unowneds in omega (arith, one))

  found : at_entry e heap ≡ Some o
  found = entry_found shape h i e o b.legal here entry

  module _ (last : Bool) (last_is : last ≡ is_alone o.weak) where
    abbrev act : Act
    act = acts.Gone e last

    abbrev fewer : Heap
    fewer = change (has_entry e) (gone v.number last) heap

    put : IsPut heap.objects fewer.objects o (gone v.number last o)
    put = put-found (has_entry e) (gone v.number last) heap.objects o found

    legal : IsLegal shape (event_of v act ∷ h)
    legal = (
      none_fails (needs shape (sight v.number h) v.number act)
          (ap is_some found, (ap (passes (owes_to v.number Gone)) found ∙ owes_it h v.number i Gone o here duty, (ap (passes (λ r. same_bool last (is_alone r.weak))) found ∙ (ap (same_bool last) (sym last_is) ∙ same_true last), tt))),
      b.legal,
    )

  -- others are left
  module _ (more : false ≡ is_alone o.weak) where
    abbrev less : Object
    less = gone v.number false o

    relisted : IsRelisted o less
    relisted = record { id = refl; class = refl; entry = refl; slot = λ s e. e; cells = in_lists; leads = λ y c _. place_same (kind_in y o) o less refl refl }
      where
        in_lists : (j : Kind) (y : Holder) → is_cell y ≡ true → is_in y (list_of j less) ≡ is_in y (list_of j o)
        in_lists kinds.Strong y c = refl
        in_lists kinds.Unowned y c = refl
        in_lists kinds.Weak y c = in_without y Unowneds o.weak (no_unowneds y c)

    turned : Turned shape v h (acts.Gone e false) o less
    turned = record {
      legal = legal false more;
      in_shape = in_shape_stays shape (event_of v (acts.Gone e false)) h (legal false more) refl refl refl b.in_shape;
      put = put false more;
      claims = refl;
      relisted = relisted;
      slot = refl;
      work = work_own shape (event_of v (acts.Gone e false)) h v.working (legal false more) refl (λ m claim. claim) (inr (λ m ends. true≢false (sym ends))) owes b.work;
    }

    other_lists : (j : Kind) → (j ≡ kinds.Weak → ⊥) → length (list_of j less) ≡ length (list_of j o)
    other_lists kinds.Strong ne = refl
    other_lists kinds.Unowned ne = refl
    other_lists kinds.Weak ne = absurd (ne refl)

    fewer_good : (x w : ℕ) → e < shape.entries → Says shape heap (places.Weak e) x → x ≡ suc w → Good shape v h (number (extent_of shape) (places.Weak e)) x w (Some (acts.Gone e false)) v.working
    fewer_good x w lt says one_more =
        let now = entry_now shape v h b i o here kinds.Weak e x entry says in
        entry_good shape v h b (acts.Gone e false) i o less here turned owes kinds.Weak e entry lt other_lists x w
        (let long = now.0 in let shorter = length_without Unowneds o.weak in_list in omega (arith, long, one_more, shorter)) (let cap = now.1 in omega (arith, cap, one_more))

  -- none is left
  is_freed : true ≡ is_alone o.weak → IsFreed shape v h (acts.Gone e true) e o (gone v.number true o)
  is_freed alone =
      let strong : o.strong ≡ [] = (none-strong shape o facts.strong).0 in
      let unowned : o.unowned ≡ [] = empty-is o.unowned facts.unowned in record {
        legal = legal true alone;
        in_shape = in_shape_stays shape (event_of v (acts.Gone e true)) h (legal true alone) refl refl refl b.in_shape;
        put = put true alone;
        claims = refl;
        entry = entry;
        left = refl;
        was_slotless = facts.slot;
        slotless = facts.slot;
        keeps = none_left Unowneds o (gone v.number true o) no_unowneds strong unowned (alone_is Unowneds o.weak in_list (sym alone)) refl refl refl refl (without_alone Unowneds o.weak in_list (sym alone));
        ends_duty = refl;
        hands = inr (λ m ends. true≢false (sym ends));
      }

  pub gone_good : (x w : ℕ) → e < shape.entries → Says shape heap (places.Weak e) x → x ≡ suc w → Good shape v h (number (extent_of shape) (places.Weak e)) x w (Some (acts.Gone e (x == 1))) v.working
  gone_good x w lt says one_more = by (x == 1) (ap (λ n. n == 1) (entry_now shape v h b i o here kinds.Weak e x entry says).0 ∙ sym (alone_one o.weak))
    where
      by : (last : Bool) → last ≡ is_alone o.weak → Good shape v h (number (extent_of shape) (places.Weak e)) x w (Some (acts.Gone e last)) v.working
      by true alone = freed_good shape v h b (acts.Gone e true) e i o (gone v.number true o) here (is_freed alone) lt owes x w
      by false more = fewer_good more x w lt says one_more
