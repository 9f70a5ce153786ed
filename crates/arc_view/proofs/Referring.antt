-- What cells refer to, and what the words of slots show but for counts, where one object changes and each cell stays in the list that it was in.
use Rattle.std.proofs.Common.{◌≡◌, ◌⊎◌, inl, inr, ⊎_elim, ℕ, Bool, true, false, cond, Option, Some, None, refl, sym, ap, ◌∙◌, subst}
use Rattle.std.specs.Prelude.{find, is_some, ◌||◌}
use Rattle.arc_model.specs.declared.event.CellName.TheVariants as cells
use Rattle.arc_model.specs.declared.shape.Kind.{Kind}
use Rattle.arc_model.specs.declared.shape.Kind.TheVariants as kinds
use Rattle.arc_model.specs.Shapes.{HeapShape}
use Rattle.arc_model.specs.Heaps.{Holder, Object, Heap}
use Rattle.arc_model.specs.Heaps as holders
use Rattle.arc_model.specs.Holders.{is_in, holds, kind_in, list_of, at_slot}
use Rattle.arc_model.specs.Cells.{cell, id_of, has_field}
use Rattle.arc_model.specs.Lookup.{spot, spot_in, is_cell}
use Rattle.arc_model.specs.References.{reference_in, reference_of, reference_to, place_of, name_of}
use Rattle.arc_model.proofs.Turns.{IsPut, spot-append}
use Rattle.arc_model.proofs.Builds.{find-passes}
use Rattle.arc_rule.specs.Isa.{isa_word_of}
use Rattle.arc_rule.specs.declared.layout.Place.TheVariants.{Global, Isa}
use Rattle.arc_rule.specs.Shown.{Says, ShowsName, cell_word, field_word, field_word_if}
use Rattle.arc_view.proofs.Words.{find_put}
use Rattle.arc_view.proofs.Advance.{CellKept}

-- o becomes q: each cell is in the lists that it was in, and what it refers to is found where it was
pub record KeepsCells (o q : Object) : Type 0 where
  pub id : q.id ≡ o.id
  pub class : q.class ≡ o.class
  pub cells : (k : Kind) (z : Holder) → is_cell z ≡ true → is_in z (list_of k q) ≡ is_in z (list_of k o)
  pub leads : (z : Holder) → is_cell z ≡ true → holds z o ≡ true → place_of (kind_in z o) q ≡ place_of (kind_in z o) o

-- what is found by a number: the object that changes, or what was found
abbrev pub Found : Object → Object → Option Object → Option Object → Type 0
Found o q was is = ((was ≡ Some o) × (is ≡ Some q)) ⊎ (is ≡ was)

pub some_found : (o q : Object) (was is : Option Object) → Found o q was is → is_some is ≡ is_some was
some_found o q was is (inl f) = ap is_some f.1 ∙ sym (ap is_some f.0)
some_found o q was is (inr same) = ap is_some same

module _ (shape : HeapShape) (old new : Heap) (o q : Object) (put : IsPut old.objects new.objects o q) (r : KeepsCells o q) where
  holds_same : (z : Holder) → is_cell z ≡ true → holds z q ≡ holds z o
  holds_same z c =
      ap (λ b. b || is_in z q.unowned || is_in z q.weak) (r.cells kinds.Strong z c)
      ∙ (ap (λ b. is_in z o.strong || b || is_in z q.weak) (r.cells kinds.Unowned z c) ∙ ap (λ b. is_in z o.strong || is_in z o.unowned || b) (r.cells kinds.Weak z c))

  kind_same : (z : Holder) → is_cell z ≡ true → kind_in z q ≡ kind_in z o
  kind_same z c = ap (λ b. cond b kinds.Strong (cond (is_in z q.unowned) kinds.Unowned kinds.Weak)) (r.cells kinds.Strong z c) ∙ ap (λ b. cond (is_in z o.strong) kinds.Strong (cond b kinds.Unowned kinds.Weak)) (r.cells kinds.Unowned z c)

  pub reference_same : (z : Holder) → is_cell z ≡ true → reference_of z new ≡ reference_of z old
  reference_same z c = ⊎_elim
      (λ (t : (find (holds z) old.objects ≡ Some o) × (find (holds z) new.objects ≡ Some q)).
      ap (reference_in z) t.1
      ∙ (ap (λ k. reference_to k (place_of k q)) (kind_same z c)
      ∙ (ap (reference_to (kind_in z o)) (r.leads z c (find-passes (holds z) old.objects o t.0)) ∙ sym (ap (reference_in z) t.0))))
      (λ same. ap (reference_in z) same)
      (find_put (holds z) old.objects new.objects o q put (holds_same z c))

  pub spot_same : (z : Holder) → is_cell z ≡ true → spot z new ≡ spot z old
  spot_same z c = ap (spot_in z) put.new ∙ (spot-append z put.before put.after o q (holds_same z c) (kind_same z c) ∙ sym (ap (spot_in z) put.old))

  pub global_says : (g w : ℕ) → Says shape old (Global g) w → Says shape new (Global g) w
  global_says g w says = says ∙ sym (ap cell_word (reference_same (holders.Global g) refl))

  name_same : name_of q ≡ name_of o
  name_same = λ i. record { class = r.class i; thread = ap (λ (d : _). d.thread) r.id i; number = ap (λ (d : _). d.number) r.id i }

  pub isa_says : (t w : ℕ) → Found o q (at_slot t old) (at_slot t new) → Says shape old (Isa t) w → Says shape new (Isa t) w
  isa_says t w found says = ⊎_elim
      (λ (f : (at_slot t old ≡ Some o) × (at_slot t new ≡ Some q)).
      let was : ShowsName (Some o) w = subst (λ m. ShowsName m w) f.0 says in subst (λ m. ShowsName m w) (sym f.1) (was ∙ ap isa_word_of (sym name_same)))
      (λ same. subst (λ m. ShowsName m w) (sym same) says)
      found

  field_if : (b : Bool) (f : ℕ) (u z : Object) → z.id ≡ u.id → field_word_if b shape new f z ≡ field_word_if b shape old f u
  field_if true f u z id = ap cell_word (ap (λ d. reference_of (holders.Field d f) new) id ∙ reference_same (holders.Field u.id f) refl)
  field_if false f u z id = refl

  field_of_same : (f : ℕ) (m : Option Object) → field_word shape new f m ≡ field_word shape old f m
  field_of_same f None = refl
  field_of_same f (Some u) = field_if (has_field shape f u) f u u refl

  pub field_same : (t f : ℕ) → Found o q (at_slot t old) (at_slot t new) → field_word shape new f (at_slot t new) ≡ field_word shape old f (at_slot t old)
  field_same t f found = ⊎_elim
      (λ (g : (at_slot t old ≡ Some o) × (at_slot t new ≡ Some q)).
      ap (field_word shape new f) g.1 ∙ (ap (λ c. field_word_if (has_field shape f (record q { class = c })) shape new f q) r.class ∙ (field_if (has_field shape f o) f o q r.id ∙ sym (ap (field_word shape old f) g.0))))
      (λ same. ap (field_word shape new f) same ∙ field_of_same f (at_slot t old))
      found

  id_same : (m n : Option Object) → Found o q m n → id_of n ≡ id_of m
  id_same m n (inl f) = ap id_of f.1 ∙ (r.id ∙ sym (ap id_of f.0))
  id_same m n (inr same) = ap id_of same

  -- a field stays as it is where its slot is found, and every global does
  pub field_kept : (s f : ℕ) → Found o q (at_slot s old) (at_slot s new) → CellKept shape old new (cells.Field s f)
  field_kept s f found = let owner = ap (λ d. holders.Field d f) (id_same (at_slot s old) (at_slot s new) found) in record {
    says = λ w says. says ∙ sym (field_same s f found);
    owner = owner;
    refers = ap (λ z. spot z new) owner ∙ spot_same (cell old (cells.Field s f)) refl;
  }

  pub global_kept : (g : ℕ) → CellKept shape old new (cells.Global g)
  global_kept g = record { says = global_says g; owner = refl; refers = spot_same (holders.Global g) refl }
