-- One reference more, wherever its list is counted: on an inline word, or in the word of an entry.
use Rattle.std.proofs.Common.{◌≡◌, ℕ, ◌≤◌, ◌<◌, true, false, length, Some, None, refl, sym, ◌∙◌, subst, arith, ne_eqb}
use Rattle.arc_model.specs.declared.event.Act.{Act}
use Rattle.arc_model.specs.declared.shape.Kind.{Kind}
use Rattle.arc_model.specs.declared.shape.Kind.TheVariants as kinds
use Rattle.arc_model.specs.Shapes.{HeapShape}
use Rattle.arc_model.specs.Heaps.{Holder, Object}
use Rattle.arc_model.specs.Holders.{list_of}
use Rattle.arc_model.specs.Cells.{is_live}
use Rattle.arc_model.specs.Needs.{has_room}
use Rattle.arc_model.specs.History.{History, heap_after}
use Rattle.arc_rule.specs.declared.layout.Place.{Place}
use Rattle.arc_rule.specs.declared.layout.Place.TheVariants as places
use Rattle.arc_rule.specs.declared.layout.Place.TheVariants.{Count}
use Rattle.arc_rule.specs.Places.{IsPlace, extent_of, number}
use Rattle.arc_rule.specs.Shown.{Says}
use Rattle.arc_view.specs.declared.view.View.{View}
use Rattle.arc_view.specs.Holding.{At, is_counted}
use Rattle.arc_view.specs.Admission.{IsUp}
use Rattle.arc_view.proofs.Advance.{Good}
use Rattle.arc_view.proofs.Bridge.{Before}
use Rattle.arc_view.proofs.Put.{is_number_some}
use Rattle.arc_view.proofs.Strongs.{room_below, empty_length}
use Rattle.arc_view.proofs.Turned.{count_place, Turned}
use Rattle.arc_view.proofs.Growing.{grown}
use Rattle.arc_view.proofs.Rising.{live_some, counted_now, unowned_room, strong_room, counted_live, entry_now, entry_up_good, unowned_up_good, strong_up_good}

no_true : {A : Type 0} → false ≡ true → A
no_true e = absurd (cc)

-- where the count of a list of the object is
pub data IsCountedAt (list : Kind) (o : Object) (pl : Place) : Type 0 where
  in_line : (s : ℕ) → pl ≡ Count s → o.slot ≡ Some s → (list ≡ kinds.Weak → ⊥) → IsCountedAt list o pl
  in_entry : (e : ℕ) → pl ≡ count_place list e → o.entry ≡ Some e → IsCountedAt list o pl

pub counted_place : (list : Kind) (o : Object) (pl : Place) → is_counted list o pl ≡ true → IsCountedAt list o pl
counted_place kinds.Strong o (Count s) t = in_line s refl (is_number_some o.slot s t) (λ e. cc)
counted_place kinds.Unowned o (Count s) t = in_line s refl (is_number_some o.slot s t) (λ e. cc)
counted_place kinds.Strong o (places.Strong e) t = in_entry e refl (is_number_some o.entry e t)
counted_place kinds.Unowned o (places.Unowned e) t = in_entry e refl (is_number_some o.entry e t)
counted_place kinds.Weak o (places.Weak e) t = in_entry e refl (is_number_some o.entry e t)
counted_place _ o _ t = no_true t

pub entry_inside : (shape : HeapShape) (list : Kind) (e : ℕ) → IsPlace (extent_of shape) (count_place list e) → e < shape.entries
entry_inside shape kinds.Strong e inside = inside
entry_inside shape kinds.Unowned e inside = inside
entry_inside shape kinds.Weak e inside = inside

module _ (shape : HeapShape) (v : View) (h : History) (b : Before shape v h) (i : ℕ) (o : Object) (here : At (heap_after h) i o) (owes : v.working.owes ≡ None) (act : Act) (y : Holder) where
  -- what the event needs of the object, to make it
  abbrev pub Makes : Kind → Type 0
  Makes list = has_room shape o (list_of list o) ≡ true → (list ≡ kinds.Strong → is_live shape o ≡ true) → Turned shape v h act o (grown list y o)

  in_line_up : (list : Kind) (s x new : ℕ) → Makes list → o.slot ≡ Some s → s < shape.slots → IsUp shape list (Count s) x new → Says shape (heap_after h) (Count s) x → Good shape v h (number (extent_of shape) (Count s)) x new (Some act) v.working
  in_line_up kinds.Strong s x new makes slot lt (c, word, live, room, is) says =
      let counted = counted_now shape v h b i o here s x c slot says word in
      subst (λ w. Good shape v h (number (extent_of shape) (Count s)) x w (Some act) v.working) (sym is)
      (strong_up_good shape v h b i o here act owes y s x c slot lt word says (makes (strong_room shape v h b i o here c counted room) (λ _. counted_live shape v h b i o here c counted live)) live room)
  in_line_up kinds.Unowned s x new makes slot lt (c, word, room, is) says =
      let counted = counted_now shape v h b i o here s x c slot says word in
      subst (λ w. Good shape v h (number (extent_of shape) (Count s)) x w (Some act) v.working) (sym is)
      (unowned_up_good shape v h b i o here act owes y s x c slot lt word says (makes (unowned_room shape v h b i o here c counted room) (λ e. cc)) room)
  in_line_up kinds.Weak s x new makes slot lt up says = absurd up

  -- a strong count in an entry is of a live object
  some_live : (x : ℕ) → x ≡ length o.strong → 1 ≤ x → is_live shape o ≡ true
  some_live x is some = live_some shape o (empty_length o.strong ∙ ne_eqb (length o.strong) 0 (λ z. omega (arith, is, some, z)))

  in_entry_up : (list : Kind) (e x new : ℕ) → Makes list → o.entry ≡ Some e → e < shape.entries → IsUp shape list (count_place list e) x new → Says shape (heap_after h) (count_place list e) x
      → Good shape v h (number (extent_of shape) (count_place list e)) x new (Some act) v.working
  in_entry_up kinds.Strong e x new makes entry lt (some, room, is) says =
      let now = entry_now shape v h b i o here kinds.Strong e x entry says in
      subst (λ w. Good shape v h (number (extent_of shape) (places.Strong e)) x w (Some act) v.working) (sym is)
      (entry_up_good shape v h b i o here act owes y kinds.Strong (makes (room_below shape o o.strong (subst (λ m. m < shape.caps.wide) now.0 room)) (λ _. some_live x now.0 some)) e x entry lt says room)
  in_entry_up kinds.Unowned e x new makes entry lt (room, is) says =
      let now = entry_now shape v h b i o here kinds.Unowned e x entry says in
      subst (λ w. Good shape v h (number (extent_of shape) (places.Unowned e)) x w (Some act) v.working) (sym is)
      (entry_up_good shape v h b i o here act owes y kinds.Unowned (makes (room_below shape o o.unowned (subst (λ m. m < shape.caps.wide) now.0 room)) (λ e. cc)) e x entry lt says room)
  in_entry_up kinds.Weak e x new makes entry lt (room, is) says =
      let now = entry_now shape v h b i o here kinds.Weak e x entry says in
      subst (λ w. Good shape v h (number (extent_of shape) (places.Weak e)) x w (Some act) v.working) (sym is)
      (entry_up_good shape v h b i o here act owes y kinds.Weak (makes (room_below shape o o.weak (subst (λ m. m < shape.caps.wide) now.0 room)) (λ e. cc)) e x entry lt says room)

  -- wherever the list is counted
  pub up_good : (list : Kind) (pl : Place) (x new : ℕ) → Makes list → IsCountedAt list o pl → IsPlace (extent_of shape) pl → IsUp shape list pl x new → Says shape (heap_after h) pl x → Good shape v h (number (extent_of shape) pl) x new (Some act) v.working
  up_good list pl x new makes (in_line s is slot ne) inside up says =
      subst (λ (q : Place). IsPlace (extent_of shape) q → IsUp shape list q x new → Says shape (heap_after h) q x → Good shape v h (number (extent_of shape) q) x new (Some act) v.working) (sym is)
      (λ lt up says. in_line_up list s x new makes slot lt up says) inside up says
  up_good list pl x new makes (in_entry e is entry) inside up says =
      subst (λ (q : Place). IsPlace (extent_of shape) q → IsUp shape list q x new → Says shape (heap_after h) q x → Good shape v h (number (extent_of shape) q) x new (Some act) v.working) (sym is)
      (λ in_it up says. in_entry_up list e x new makes entry (entry_inside shape list e in_it) up says) inside up says
