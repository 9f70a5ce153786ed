-- What the words show of everything else, where one object's lists lose or gain holders that are no cells, and where it leaves its slot.
use Rattle.std.proofs.Common.{◌≡◌, ◌⊎◌, ⊎_elim, ℕ, ◌/◌, ◌<◌, true, length, Some, sym, ap, ◌∙◌, subst}
use Rattle.std.specs.Prelude.{is_some, ◌||◌}
use Rattle.std.specs.List.{list_any}
use Rattle.arc_model.specs.declared.event.CellName.TheVariants as cells
use Rattle.arc_model.specs.declared.shape.Kind.{Kind}
use Rattle.arc_model.specs.declared.shape.Kind.TheVariants as kinds
use Rattle.arc_model.specs.Shapes.{HeapShape}
use Rattle.arc_model.specs.Heaps.{Holder, Object, Heap}
use Rattle.arc_model.specs.Holders.{is_in, is_number, in_slot, has_entry, holds, kind_in, list_of, at_slot, at_entry, claims_it, is_slot_taken, is_entry_taken}
use Rattle.arc_model.specs.Lookup.{is_cell}
use Rattle.arc_model.specs.References.{place_of}
use Rattle.arc_model.proofs.Turns.{IsPut}
use Rattle.arc_model.proofs.Builds.{find-passes}
use Rattle.arc_rule.specs.declared.layout.Place.{Place}
use Rattle.arc_rule.specs.declared.layout.Place.TheVariants.{Zero, Global, Count, Isa, Next, Field, Link, Strong, Unowned, Weak, SlotBits, EntryBits}
use Rattle.arc_rule.specs.Shown.{Says, ShowsCounts, ShowsLink, ShowsHolders}
use Rattle.arc_view.proofs.Words.{find_put}
use Rattle.arc_view.proofs.Lasting.{IsFixed, inline_lasts, link_lasts, bits_last}
use Rattle.arc_view.proofs.Advance.{CellKept}
use Rattle.arc_view.proofs.Referring.{KeepsCells, Found, some_found, global_says, isa_says, field_same}
use Rattle.arc_view.proofs.Referring.{field_kept as cell_field, global_kept as cell_global}
use Rattle.arc_view.proofs.Put.{is_number_some}

-- o becomes q: each cell is in the lists that it was in, and what it refers to is found where it was
pub record IsRelisted (o q : Object) : Type 0 where
  pub id : q.id ≡ o.id
  pub class : q.class ≡ o.class
  pub entry : q.entry ≡ o.entry
  pub slot : (s : ℕ) → q.slot ≡ Some s → o.slot ≡ Some s
  pub cells : (k : Kind) (z : Holder) → is_cell z ≡ true → is_in z (list_of k q) ≡ is_in z (list_of k o)
  pub leads : (z : Holder) → is_cell z ≡ true → holds z o ≡ true → place_of (kind_in z o) q ≡ place_of (kind_in z o) o

module _ (shape : HeapShape) (old new : Heap) (o q : Object) (put : IsPut old.objects new.objects o q) (claims : new.claims ≡ old.claims) (r : IsRelisted o q) where
  kept : KeepsCells o q
  kept = record { id = r.id; class = r.class; cells = r.cells; leads = r.leads }

  abbrev pub SlotStays : ℕ → Type 0
  SlotStays t = Found o q (at_slot t old) (at_slot t new)

  entry_put : (e : ℕ) → Found o q (at_entry e old) (at_entry e new)
  entry_put e = find_put (has_entry e) old.objects new.objects o q put (ap (λ m. is_number m e) r.entry)

  -- the slot of the place is in the object that changes, or in the object that it was in
  abbrev pub IsFound : Place → Type 0
  IsFound (Count t) = SlotStays t
  IsFound (Isa t) = SlotStays t
  IsFound (Field t f) = SlotStays t
  IsFound (SlotBits k) = (s : ℕ) → s / 64 ≡ k → SlotStays s
  IsFound _ = Unit {0}

  -- so every slot, where the object stays in its own
  pub all_found : ((t : ℕ) → SlotStays t) → (pl : Place) → IsFound pl
  all_found put_in Zero = tt
  all_found put_in (Global g) = tt
  all_found put_in (Count t) = put_in t
  all_found put_in (Isa t) = put_in t
  all_found put_in (Next t) = tt
  all_found put_in (Field t f) = put_in t
  all_found put_in (Link e) = tt
  all_found put_in (Strong e) = tt
  all_found put_in (Unowned e) = tt
  all_found put_in (Weak e) = tt
  all_found put_in (SlotBits k) = λ t _. put_in t
  all_found put_in (EntryBits k) = tt

  abbrev SameLength : Kind → ℕ → Type 0
  SameLength k e = o.entry ≡ Some e → length (list_of k q) ≡ length (list_of k o)

  -- Which counts the change leaves: an inline word that doesn't depend on the object's lists, and an entry's count of a list that stays as long.
  -- A link stays, since the object stays in its slot, or leaves one of the shape.
  abbrev pub Lasts : Place → Type 0
  Lasts (Count t) = o.slot ≡ Some t → IsFixed shape o
  Lasts (Link e) = (q.slot ≡ o.slot) ⊎ ((s : ℕ) → o.slot ≡ Some s → s < shape.slots)
  Lasts (Strong e) = SameLength kinds.Strong e
  Lasts (Unowned e) = SameLength kinds.Unowned e
  Lasts (Weak e) = SameLength kinds.Weak e
  Lasts _ = Unit {0}

  count_says : (t w : ℕ) → SlotStays t → Lasts (Count t) → ShowsCounts shape (at_slot t old) w → ShowsCounts shape (at_slot t new) w
  count_says t w found lasts says = ⊎_elim
      (λ (f : (at_slot t old ≡ Some o) × (at_slot t new ≡ Some q)).
      let fixed = lasts (is_number_some o.slot t (find-passes (in_slot t) old.objects o f.0)) in
      subst (λ m. ShowsCounts shape m w) (sym f.1) (inline_lasts shape o q w r.class r.entry fixed (subst (λ m. ShowsCounts shape m w) f.0 says)))
      (λ same. subst (λ m. ShowsCounts shape m w) (sym same) says)
      found

  taken_same : (e : ℕ) → is_entry_taken e new ≡ is_entry_taken e old
  taken_same e = ap (λ cs. list_any (claims_it e) cs || is_some (at_entry e new)) claims ∙ ap (λ b. list_any (claims_it e) old.claims || b) (some_found o q (at_entry e old) (at_entry e new) (entry_put e))

  pub slot_taken_same : (s : ℕ) → SlotStays s → is_slot_taken s new ≡ is_slot_taken s old
  slot_taken_same s found = some_found o q (at_slot s old) (at_slot s new) found

  link_says : (e w : ℕ) → Lasts (Link e) → ShowsLink shape (at_entry e old) w → ShowsLink shape (at_entry e new) w
  link_says e w lasts says = ⊎_elim
      (λ (f : (at_entry e old ≡ Some o) × (at_entry e new ≡ Some q)).
      let was : ShowsLink shape (Some o) w = subst (λ m. ShowsLink shape m w) f.0 says in subst (λ m. ShowsLink shape m w) (sym f.1) (link_lasts shape o.slot q.slot w lasts r.slot was))
      (λ same. subst (λ m. ShowsLink shape m w) (sym same) says)
      (entry_put e)

  holders_says : (k : Kind) (e w : ℕ) → SameLength k e → ShowsHolders shape k (at_entry e old) w → ShowsHolders shape k (at_entry e new) w
  holders_says k e w same_list says = ⊎_elim
      (λ (f : (at_entry e old ≡ Some o) × (at_entry e new ≡ Some q)).
      let was : ShowsHolders shape k (Some o) w = subst (λ m. ShowsHolders shape k m w) f.0 says in
      subst (λ m. ShowsHolders shape k m w) (sym f.1) (was.0 ∙ sym (same_list (is_number_some o.entry e (find-passes (has_entry e) old.objects o f.0))), was.1))
      (λ same. subst (λ m. ShowsHolders shape k m w) (sym same) says)
      (entry_put e)

  -- what the heap says of every other word stays
  pub relist_says : (pl : Place) → IsFound pl → Lasts pl → (w : ℕ) → Says shape old pl w → Says shape new pl w
  relist_says Zero found lasts w says = says
  relist_says (Global g) found lasts w says = global_says shape old new o q put kept g w says
  relist_says (Count t) found lasts w says = count_says t w found lasts says
  relist_says (Isa t) found lasts w says = isa_says shape old new o q put kept t w found says
  relist_says (Next t) found lasts w says = tt
  relist_says (Field t f) found lasts w says = says ∙ sym (field_same shape old new o q put kept t f found)
  relist_says (Link e) found lasts w says = link_says e w lasts says
  relist_says (Strong e) found lasts w says = holders_says kinds.Strong e w lasts says
  relist_says (Unowned e) found lasts w says = holders_says kinds.Unowned e w lasts says
  relist_says (Weak e) found lasts w says = holders_says kinds.Weak e w lasts says
  relist_says (SlotBits k) found lasts w says = bits_last shape.slots k (λ s. is_slot_taken s old) (λ s. is_slot_taken s new) w (λ s at. slot_taken_same s (found s at)) says
  relist_says (EntryBits k) found lasts w says = bits_last shape.entries k (λ e. is_entry_taken e old) (λ e. is_entry_taken e new) w (λ e _. taken_same e) says

  -- a field stays as it is where its slot is found, and every global does
  pub field_kept : (s f : ℕ) → SlotStays s → CellKept shape old new (cells.Field s f)
  field_kept s f found = cell_field shape old new o q put kept s f found

  pub global_kept : (g : ℕ) → CellKept shape old new (cells.Global g)
  global_kept g = cell_global shape old new o q put kept g
