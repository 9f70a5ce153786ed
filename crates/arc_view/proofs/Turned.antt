-- An event of the pass that changes the lists of one object, which stays in its slot, or none: what the step's word and all others show then.
use Rattle.std.proofs.Common.{◌≡◌, ◌≢◌, ◌⊎◌, inl, ℕ, ◌<◌, ◌≤◌, ◌∷◌, length, Some, None, refl, sym, ap, ◌∙◌, subst}
use Rattle.arc_model.specs.declared.event.Act.{Act}
use Rattle.arc_model.specs.declared.event.CellName.{CellName}
use Rattle.arc_model.specs.declared.event.CellName.TheVariants as cells
use Rattle.arc_model.specs.declared.event.Event.{Event}
use Rattle.arc_model.specs.declared.shape.Kind.{Kind}
use Rattle.arc_model.specs.declared.shape.Kind.TheVariants as kinds
use Rattle.arc_model.specs.Shapes.{HeapShape}
use Rattle.arc_model.specs.Heaps.{Object, Heap}
use Rattle.arc_model.specs.Holders.{is_number, in_slot, list_of, at_entry}
use Rattle.arc_model.specs.Cells.{is_immortal}
use Rattle.arc_model.specs.History.{History, heap_after, IsLegal}
use Rattle.arc_model.proofs.Basics.{None≢Some, Some-inj}
use Rattle.arc_model.proofs.Turns.{IsPut}
use Rattle.arc_rule.specs.declared.layout.Place.{Place}
use Rattle.arc_rule.specs.declared.layout.Place.TheVariants as places
use Rattle.arc_rule.specs.declared.layout.Place.TheVariants.{Count}
use Rattle.arc_rule.specs.Places.{IsPlace, extent_of, number}
use Rattle.arc_rule.specs.Shown.{Says, IsInline, ShowsCounts, ShowsHolders}
use Rattle.arc_view.specs.declared.view.View.{View}
use Rattle.arc_view.specs.Views.{cell_place, Excepts}
use Rattle.arc_view.specs.Holding.{At, Owns}
use Rattle.arc_view.specs.Rule.{WorkFits, InShape}
use Rattle.arc_view.proofs.Words.{find_put, word_changes, slot_found}
use Rattle.arc_view.proofs.Advance.{IsThere, CellKept, Good}
use Rattle.arc_view.proofs.Bridge.{Before}
use Rattle.arc_view.proofs.Plain.{IsPlain, plain_count, plain_good}
use Rattle.arc_view.proofs.Strongs.{entry_found, entry_unclaimed, put_there}
use Rattle.arc_view.proofs.Relist.{IsRelisted, SlotStays, Lasts, all_found, relist_says, field_kept, global_kept}

-- the word of an entry that counts a list of this kind
abbrev pub count_place : Kind → ℕ → Place
count_place kinds.Strong e = places.Strong e
count_place kinds.Unowned e = places.Unowned e
count_place kinds.Weak e = places.Weak e

abbrev pub event_of : View → Act → Event
event_of v act = record { thread = v.number; act = act }

-- the act of the pass makes q of o
pub record Turned (shape : HeapShape) (v : View) (h : History) (act : Act) (o q : Object) : Type 0 where
  pub legal : IsLegal shape (event_of v act ∷ h)
  pub in_shape : InShape shape (event_of v act ∷ h)
  pub put : IsPut (heap_after h).objects (heap_after (event_of v act ∷ h)).objects o q
  pub claims : (heap_after (event_of v act ∷ h)).claims ≡ (heap_after h).claims
  pub relisted : IsRelisted o q
  pub slot : q.slot ≡ o.slot
  pub work : WorkFits shape v.number (event_of v act ∷ h) v.working

module _ (shape : HeapShape) (v : View) (h : History) (b : Before shape v h) (act : Act) (i : ℕ) (o q : Object) (here : At (heap_after h) i o) (t : Turned shape v h act o q) (owes : v.working.owes ≡ None) where
  abbrev heap : Heap
  heap = heap_after h

  abbrev new : Heap
  new = heap_after (event_of v act ∷ h)

  slot_put : (s : ℕ) → SlotStays shape heap new o q t.put t.claims t.relisted s
  slot_put s = find_put (in_slot s) heap.objects new.objects o q t.put (ap (λ m. is_number m s) t.slot)

  kept : (c : CellName) → IsThere heap c → CellKept shape heap new c
  kept (cells.Field s f) there = field_kept shape heap new o q t.put t.claims t.relisted s f (slot_put s)
  kept (cells.Global g) there = global_kept shape heap new o q t.put t.claims t.relisted g

  -- on whatever word counts the list
  turned_at : (pl : Place) (x w : ℕ) → IsPlain heap pl → IsPlace (extent_of shape) pl → ((u : Place) → u ≢ pl → Lasts shape heap new o q t.put t.claims t.relisted u) → Says shape new pl w → Good shape v h (number (extent_of shape) pl) x w (Some act) v.working
  turned_at pl x w plain inside elsewhere says = plain_good shape v h b pl plain inside x w (Some act) v.working refl owes refl t.legal t.in_shape kept t.work
      (λ Others ws shown. word_changes shape (λ u. Excepts v.working u ⊎ Others u) (λ u. Excepts v.working u ⊎ Others u) heap new ws pl w inside shown (λ _. says) (λ u ne notE e. notE e)
      (λ u iu ne _ m says. relist_says shape heap new o q t.put t.claims t.relisted u (all_found shape heap new o q t.put t.claims t.relisted slot_put u) (elsewhere u ne) m says))

  -- the object has no entry: its counts are in the inline word
  module _ (s : ℕ) (slot : o.slot ≡ Some s) (lt : s < shape.slots) (unentered : o.entry ≡ None) where
    elsewhere : (u : Place) → u ≢ Count s → Lasts shape heap new o q t.put t.claims t.relisted u
    elsewhere places.Zero ne = tt
    elsewhere (places.Global g) ne = tt
    elsewhere (Count n) ne = λ in_it. absurd (ne (ap Count (Some-inj (sym in_it ∙ slot))))
    elsewhere (places.Isa n) ne = tt
    elsewhere (places.Next n) ne = tt
    elsewhere (places.Field n f) ne = tt
    elsewhere (places.Link n) ne = inl t.slot
    elsewhere (places.Strong n) ne = λ has. absurd (None≢Some n (sym unentered ∙ has))
    elsewhere (places.Unowned n) ne = λ has. absurd (None≢Some n (sym unentered ∙ has))
    elsewhere (places.Weak n) ne = λ has. absurd (None≢Some n (sym unentered ∙ has))
    elsewhere (places.SlotBits n) ne = tt
    elsewhere (places.EntryBits n) ne = tt

    pub inline_good : (x w : ℕ) → IsInline (is_immortal shape q) shape q w → Good shape v h (number (extent_of shape) (Count s)) x w (Some act) v.working
    inline_good x w says =
        let r = put_there heap.objects new.objects o q t.put in
        turned_at (Count s) x w (plain_count heap s) lt elsewhere (subst (λ m. ShowsCounts shape m w) (sym (slot_found shape (event_of v act ∷ h) r.0 s q t.legal r.1 (t.slot ∙ slot))) says)

  -- the object has an entry: one of its words counts the list
  module _ (kind : Kind) (e : ℕ) (entry : o.entry ≡ Some e) (lt : e < shape.entries) (others : (k : Kind) → (k ≡ kind → ⊥) → length (list_of k q) ≡ length (list_of k o)) where
    inside : (k : Kind) → IsPlace (extent_of shape) (count_place k e)
    inside kinds.Strong = lt
    inside kinds.Unowned = lt
    inside kinds.Weak = lt

    plain : (k : Kind) → IsPlain heap (count_place k e)
    plain k = record { unowned = unowned k; cell = no_cell k }
      where
        unowned : (k : Kind) (r : ℕ) → Owns heap r (count_place k e) → ⊥
        unowned kinds.Strong r claim = entry_unclaimed shape h i e r o b.legal here entry claim
        unowned kinds.Unowned r claim = entry_unclaimed shape h i e r o b.legal here entry claim
        unowned kinds.Weak r claim = entry_unclaimed shape h i e r o b.legal here entry claim

        no_cell : (k : Kind) (c : CellName) → cell_place c ≡ count_place k e → ⊥
        no_cell kinds.Strong (cells.Field t f) e = cc
        no_cell kinds.Strong (cells.Global g) e = cc
        no_cell kinds.Unowned (cells.Field t f) e = cc
        no_cell kinds.Unowned (cells.Global g) e = cc
        no_cell kinds.Weak (cells.Field t f) e = cc
        no_cell kinds.Weak (cells.Global g) e = cc

    same_list : (k : Kind) (n : ℕ) → count_place k n ≢ count_place kind e → o.entry ≡ Some n → length (list_of k q) ≡ length (list_of k o)
    same_list k n ne has = others k (λ is. ne (ap (λ j. count_place j n) is ∙ ap (count_place kind) (Some-inj (sym has ∙ entry))))

    elsewhere_entry : (u : Place) → u ≢ count_place kind e → Lasts shape heap new o q t.put t.claims t.relisted u
    elsewhere_entry places.Zero ne = tt
    elsewhere_entry (places.Global g) ne = tt
    elsewhere_entry (Count n) ne = λ in_it. inl (e, entry)
    elsewhere_entry (places.Isa n) ne = tt
    elsewhere_entry (places.Next n) ne = tt
    elsewhere_entry (places.Field n f) ne = tt
    elsewhere_entry (places.Link n) ne = inl t.slot
    elsewhere_entry (places.Strong n) ne = same_list kinds.Strong n ne
    elsewhere_entry (places.Unowned n) ne = same_list kinds.Unowned n ne
    elsewhere_entry (places.Weak n) ne = same_list kinds.Weak n ne
    elsewhere_entry (places.SlotBits n) ne = tt
    elsewhere_entry (places.EntryBits n) ne = tt

    shown_at : (k : Kind) (w : ℕ) → ShowsHolders shape k (at_entry e new) w → Says shape new (count_place k e) w
    shown_at kinds.Strong w says = says
    shown_at kinds.Unowned w says = says
    shown_at kinds.Weak w says = says

    pub entry_good : (x w : ℕ) → w ≡ length (list_of kind q) → w ≤ shape.caps.wide → Good shape v h (number (extent_of shape) (count_place kind e)) x w (Some act) v.working
    entry_good x w counts below =
        let r = put_there heap.objects new.objects o q t.put in
        turned_at (count_place kind e) x w (plain kind) (inside kind) elsewhere_entry
        (shown_at kind w (subst (λ m. ShowsHolders shape kind m w) (sym (entry_found shape (event_of v act ∷ h) r.0 e q t.legal r.1 (t.relisted.entry ∙ entry))) (counts, below)))
