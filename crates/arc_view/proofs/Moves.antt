-- Every step that the view admits keeps the rule.
use Rattle.std.proofs.Common.{◌≡◌, ◌≢◌, ℕ, suc, ◌<◌, ◌≤◌, ◌==◌, eqb, Bool, true, false, cond, Option, Some, None, refl, sym, ap, ◌∙◌, subst, arith, eq-eqb, ne_eqb}
use Rattle.arc_bits.specs.declared.packing.Inline.{Inline}
use Rattle.arc_model.specs.declared.event.Got.TheVariants as got
use Rattle.std.specs.Prelude.{is_some, bit_and, bit_or}
use mathlib.Core.Logic.{dite}
use native.Mathlib.Decide.{ℕ_discrete}
use prog.Atomic.{either}
use Rattle.atomic_table.specs.Table.{Me}
use Rattle.arc_bits.specs.declared.packing.Word.TheVariants.{Counts, Slow}
use Rattle.arc_bits.specs.Words.{IsWordOf, packed, unpacked}
use Rattle.arc_bits.proofs.Unpacking.{unpacked-packed}
use Rattle.arc_model.specs.declared.event.Act.{Act}
use Rattle.arc_model.specs.declared.event.Act.TheVariants as acts
use Rattle.arc_model.specs.Holders.{is_alone}
use Rattle.arc_model.specs.declared.event.CellName.{CellName}
use Rattle.arc_model.specs.declared.event.Origin.{Origin}
use Rattle.arc_model.specs.declared.event.Origin.TheVariants as origins
use Rattle.arc_model.specs.declared.shape.Kind.{Kind}
use Rattle.arc_model.specs.declared.shape.Kind.TheVariants as kinds
use Rattle.arc_model.specs.Shapes.{HeapShape}
use Rattle.arc_model.specs.Heaps.{Hand, Deinit, Gone, Object}
use Rattle.arc_model.specs.Cells.{are_all_nil}
use Rattle.arc_model.specs.History.{History, heap_after, next_hand}
use Rattle.arc_model.specs.Lookup.{spot}
use Rattle.arc_model.proofs.Basics.{Some-inj}
use Rattle.arc_rule.specs.declared.step.Step.TheVariants.{Load, Exchange, Store, Or, And}
use Rattle.arc_rule.specs.declared.step.Intent.{Intent}
use Rattle.arc_rule.specs.declared.step.Intent.TheVariants as intents
use Rattle.arc_rule.specs.declared.layout.Place.{Place}
use Rattle.arc_rule.specs.declared.layout.Place.TheVariants as places
use Rattle.arc_rule.specs.declared.layout.Place.TheVariants.{Count, Isa}
use Rattle.arc_rule.specs.Places.{IsPlace, extent_of, number}
use Rattle.arc_rule.specs.Shown.{Says}
use Rattle.arc_rule.proofs.Places.{place_at-number}
use Rattle.arc_view.specs.declared.view.Role.TheVariants.{Pass}
use Rattle.arc_view.specs.declared.view.View.{View}
use Rattle.arc_view.specs.Views.{cell_place}
use Rattle.arc_view.specs.Holding.{At, HasHand, IsSource, HasDuty, Reaches, is_counted, heap_of}
use Rattle.arc_view.specs.Kinds.{kind_at, entry_named, is_last, is_last_in, hit_act, act_of, working_hit, working_after, but_entry, without_next}
use Rattle.arc_view.specs.Admission.{Admits, IsDown, IsUp, IsPut, IsWhy, HasFilled}
use Rattle.arc_view.specs.Steps.{IsUnsettled, KeepsRule}
use Rattle.arc_view.proofs.Held.{Held, strong≢weak}
use Rattle.arc_view.proofs.Advance.{Good}
use Rattle.arc_view.proofs.Bridge.{Before, Reading, Resting, steps, rested_steps, silent_good}
use Rattle.arc_view.proofs.Put.{is_number_some}
use Rattle.arc_view.proofs.Present.{hand_now, source_now, claim_now, owed_now, nils_now}
use Rattle.arc_view.proofs.Settling.{load_settles, exchange_settles, store_settles, or_settles, and_settles}
use Rattle.arc_view.proofs.Loading.{loaded}
use Rattle.arc_view.proofs.Strongs.{alone_one, drop_good, drop_entry_good}
use Rattle.arc_view.proofs.Turned.{count_place}
use Rattle.arc_view.proofs.Gaining.{copied}
use Rattle.arc_view.proofs.Sourcing.{StandsAt, source_had}
use Rattle.arc_view.proofs.Growing.{unowned_made, weak_made}
use Rattle.arc_view.proofs.Growing.{loaded as load_made}
use Rattle.arc_view.proofs.Rising.{counted_now, entry_now}
use Rattle.arc_view.proofs.Falling.{unowned_down_good, unowned_entry_good}
use Rattle.arc_view.proofs.WeakDrops.{weak_drop_good}
use Rattle.arc_view.proofs.Going.{gone_good}
use Rattle.arc_view.proofs.Upward.{IsCountedAt, counted_place, Makes, up_good}
use Rattle.arc_view.proofs.Upward.IsCountedAt.{in_line, in_entry}
use Rattle.arc_view.proofs.Swapping.{reach_now, put_given, swap_good}
use Rattle.arc_view.proofs.Accessing.{begin_good, cell_busy, access_stored}
use Rattle.arc_view.proofs.Finishing.{finish_good, finish_entry_good}
use Rattle.arc_view.proofs.Bitwords.{or_admitted, and_admitted, name_stored, claim_stored, publish_stored}
use Rattle.arc_view.proofs.Publishing.{publish_good}
use Rattle.arc_view.proofs.Taking.{deinit_stored}

module _ (shape : HeapShape) (v : View) (h : History) (b : Before shape v h) where
  abbrev Exchanged : ℕ → ℕ → ℕ → Intent → ℕ → Type 1
  Exchanged place old new intent x = Good shape v h place x (either (eqb x old) new x) (act_of shape v (Exchange place old new) intent x) (working_after shape v (Exchange place old new) intent x)

  -- an exchange, by whether it finds what it expects
  exchanged : (pl : Place) (old new : ℕ) (intent : Intent) (x : ℕ) → IsPlace (extent_of shape) pl
      → (x ≡ old → Good shape v h (number (extent_of shape) pl) x new (hit_act v pl old new intent) (working_hit (number (extent_of shape)) v.working pl old new intent))
      → (x ≢ old → Good shape v h (number (extent_of shape) pl) x x None v.working)
      → Exchanged (number (extent_of shape) pl) old new intent x
  exchanged pl old new intent x inside hit miss =
      subst (λ (q : Place). Good shape v h (number (extent_of shape) pl) x (either (eqb x old) new x) (cond (eqb x old) (hit_act v q old new intent) None) (cond (eqb x old) (working_hit (number (extent_of shape)) v.working q old new intent) v.working))
      (sym (place_at-number (extent_of shape) pl inside))
      (dite (ℕ_discrete x old)
      (λ e. subst (λ (t : Bool). Good shape v h (number (extent_of shape) pl) x (either t new x) (cond t (hit_act v pl old new intent) None) (cond t (working_hit (number (extent_of shape)) v.working pl old new intent) v.working)) (sym (eq-eqb x old e)) (hit e))
      (λ ne. subst (λ (t : Bool). Good shape v h (number (extent_of shape) pl) x (either t new x) (cond t (hit_act v pl old new intent) None) (cond t (working_hit (number (extent_of shape)) v.working pl old new intent) v.working)) (sym (ne_eqb x old ne)) (miss ne)))

  -- what a count's place and kind are taken from
  abbrev Counting : ℕ → ℕ → Object → (Kind → Place → Type 0) → Kind → Place → Type 0
  Counting k i o moves kind pl = HasHand v k kind i × (is_counted kind o pl ≡ true) × moves kind pl

  -- where the list of a hand's object was counted, it is now
  counted_on : (list kind : Kind) (i : ℕ) (o : Object) (pl : Place) (l : Held kind i o (heap_after h)) → ((s : ℕ) → pl ≡ Count s → (list ≡ kinds.Weak → ⊥) → kind ≡ kinds.Weak → ⊥) → IsCountedAt list o pl → IsCountedAt list l.q pl
  counted_on list kind i o pl l keeps (in_line s is slot ne) = in_line s is (l.slot (keeps s is ne) ∙ slot) ne
  counted_on list kind i o pl l keeps (in_entry e is entry) = in_entry e is (l.entry e entry)

  -- a word that counts a list is never busy
  counted_settled : (list : Kind) (o : Object) (pl : Place) (x : ℕ) → IsCountedAt list o pl → IsUnsettled pl x → ⊥
  counted_settled list o pl x (in_line s is slot ne) u = subst (λ (q : Place). IsUnsettled q x) is u
  counted_settled list o pl x (in_entry e is entry) u = by list (subst (λ (q : Place). IsUnsettled q x) is u)
    where
      by : (list : Kind) → IsUnsettled (count_place list e) x → ⊥
      by kinds.Strong u = u
      by kinds.Unowned u = u
      by kinds.Weak u = u

  -- one reference more, of the object of a source, in the list that the place counts
  up_hit : (act : Act) (list kind : Kind) (from : Origin) (i : ℕ) (o : Object) (pl : Place) (old new x : ℕ) → IsPlace (extent_of shape) pl → (owes : v.working.owes ≡ None) → IsSource v from kind i → At (heap_of v) i o → ((s : ℕ) → pl ≡ Count s → (list ≡ kinds.Weak → ⊥) → kind ≡ kinds.Weak → ⊥) → is_counted list o pl ≡ true
      → IsUp shape list pl old new → Reading shape v h (number (extent_of shape) pl) x
      → ((q : Object) (at : StandsAt v (heap_after h) from i kind) (here : At (heap_after h) i q) → IsCountedAt list q pl → Makes shape v h b i q here owes act (Hand v.number (next_hand v.number v.seen)) list)
      → x ≡ old → Good shape v h (number (extent_of shape) pl) x new (Some act) v.working
  up_hit act list kind from i o pl old new x inside owes source here keeps counted up read makes same =
      let now = source_now shape v h b from i kind o source here in
      let place = counted_on list kind i o pl now.1 keeps (counted_place list o pl counted) in
      up_good shape v h b i now.1.q now.1.here owes act (Hand v.number (next_hand v.number v.seen)) list pl x new (makes now.1.q now.0 now.1.here place) place inside (subst (λ m. IsUp shape list pl m new) (sym same) up) ((read owes pl inside refl).says (counted_settled list now.1.q pl x place))

  drop_exchange : (k i s old new x : ℕ) (o : Object) → s < shape.slots → v.working.owes ≡ None → v.working.access ≡ None → kind_at (spot (Hand v.number k) (heap_of v)) ≡ kinds.Strong → At (heap_of v) i o → Counting k i o (λ kind pl. IsDown kind pl old new) kinds.Strong (Count s)
      → Says shape (heap_after h) (Count s) x → Exchanged (number (extent_of shape) (Count s)) old new (intents.Drop k) x
  drop_exchange k i s old new x o lt owes access strong here (hand, counted, (c, word, live, is)) says =
      let now = hand_now shape v h b k i kinds.Strong o hand here in
      let held = now.1 in
      let last : Bool = is_last (kind_at (spot (Hand v.number k) (heap_of v))) (Count s) old in
      let last_is : last ≡ (c.strong_extra == 0) = ap (λ kind. is_last kind (Count s) old) strong ∙ ap (is_last_in kinds.Strong) (ap unpacked (sym word.packed_is) ∙ unpacked-packed (Counts c) word.packable) in
      exchanged (Count s) old new (intents.Drop k) x lt
      (λ e. subst (λ y. Good shape v h (number (extent_of shape) (Count s)) x y (Some (acts.Drop k last)) v.working) (sym is)
      (drop_good shape v h b k i held.q now.0 held.here s c x (held.slot strong≢weak ∙ is_number_some o.slot s counted) lt (subst (IsWordOf (Counts c)) (sym e) word) live says last last_is owes access))
      (λ ne. silent_good shape v h b (number (extent_of shape) (Count s)) x)

  -- the same in an entry
  drop_in_entry : (k i e old new x : ℕ) (o : Object) → e < shape.entries → v.working.owes ≡ None → v.working.access ≡ None → At (heap_of v) i o → Counting k i o (λ kind pl. IsDown kind pl old new) kinds.Strong (places.Strong e)
      → Says shape (heap_after h) (places.Strong e) x → Exchanged (number (extent_of shape) (places.Strong e)) old new (intents.Drop k) x
  drop_in_entry k i e old new x o lt owes access here (hand, counted, is) says =
      let now = hand_now shape v h b k i kinds.Strong o hand here in
      let held = now.1 in
      exchanged (places.Strong e) old new (intents.Drop k) x lt
      (λ same. subst (λ (m : ℕ). Good shape v h (number (extent_of shape) (places.Strong e)) x new (Some (acts.Drop k (m == 1))) v.working) same
      (drop_entry_good shape v h b k i held.q now.0 held.here e x (held.entry e (is_number_some o.entry e counted)) lt says new (same ∙ is) owes access))
      (λ ne. silent_good shape v h b (number (extent_of shape) (places.Strong e)) x)

  no_count : {A : Type 1} → false ≡ true → A
  no_count e = absurd (cc)

  -- a strong list is counted in an inline word or in an entry's strong word
  drop_by : (pl : Place) (k i old new x : ℕ) (o : Object) → IsPlace (extent_of shape) pl → v.working.owes ≡ None → v.working.access ≡ None → kind_at (spot (Hand v.number k) (heap_of v)) ≡ kinds.Strong → At (heap_of v) i o
      → Counting k i o (λ kind pl. IsDown kind pl old new) kinds.Strong pl → Reading shape v h (number (extent_of shape) pl) x → Exchanged (number (extent_of shape) pl) old new (intents.Drop k) x
  drop_by places.Zero k i old new x o inside owes access strong here c read = no_count c.1
  drop_by (places.Global g) k i old new x o inside owes access strong here c read = no_count c.1
  drop_by (Count s) k i old new x o inside owes access strong here c read = drop_exchange k i s old new x o inside owes access strong here c ((read owes (Count s) inside refl).says (λ u. u))
  drop_by (Isa s) k i old new x o inside owes access strong here c read = no_count c.1
  drop_by (places.Next s) k i old new x o inside owes access strong here c read = no_count c.1
  drop_by (places.Field s f) k i old new x o inside owes access strong here c read = no_count c.1
  drop_by (places.Link e) k i old new x o inside owes access strong here c read = no_count c.1
  drop_by (places.Strong e) k i old new x o inside owes access strong here c read = drop_in_entry k i e old new x o inside owes access here c ((read owes (places.Strong e) inside refl).says (λ u. u))
  drop_by (places.Unowned e) k i old new x o inside owes access strong here c read = no_count c.1
  drop_by (places.Weak e) k i old new x o inside owes access strong here c read = no_count c.1
  drop_by (places.SlotBits n) k i old new x o inside owes access strong here c read = no_count c.1
  drop_by (places.EntryBits n) k i old new x o inside owes access strong here c read = no_count c.1

  unowned_drop : (pl : Place) (k i old new x : ℕ) (o : Object) → IsPlace (extent_of shape) pl → v.working.owes ≡ None → v.working.access ≡ None → HasHand v k kinds.Unowned i → At (heap_of v) i o → is_counted kinds.Unowned o pl ≡ true → IsDown kinds.Unowned pl old new
      → Reading shape v h (number (extent_of shape) pl) x → Exchanged (number (extent_of shape) pl) old new (intents.Drop k) x
  unowned_drop pl k i old new x o inside owes access hand here counted down read =
      exchanged pl old new (intents.Drop k) x inside (λ same. by place inside down ((read owes pl inside refl).says (counted_settled kinds.Unowned now.1.q pl x place)) same) (λ ne. silent_good shape v h b (number (extent_of shape) pl) x)
    where
      now : (spot (Hand v.number k) (heap_after h) ≡ Some (record { place = i; kind = kinds.Unowned })) × Held kinds.Unowned i o (heap_after h)
      now = hand_now shape v h b k i kinds.Unowned o hand here

      place : IsCountedAt kinds.Unowned now.1.q pl
      place = counted_on kinds.Unowned kinds.Unowned i o pl now.1 (λ s is ne. ne) (counted_place kinds.Unowned o pl counted)

      unowned_last : (q : Place) → is_last (kind_at (spot (Hand v.number k) (heap_of v))) q old ≡ is_last kinds.Unowned q old
      unowned_last q = ap (λ kind. is_last kind q old) (ap kind_at hand)

      in_slot_down : (s : ℕ) → now.1.q.slot ≡ Some s → s < shape.slots → IsDown kinds.Unowned (Count s) old new → Says shape (heap_after h) (Count s) x → x ≡ old
          → Good shape v h (number (extent_of shape) (Count s)) x new (Some (acts.Drop k (is_last (kind_at (spot (Hand v.number k) (heap_of v))) (Count s) old))) v.working
      in_slot_down s slot lt (c, word, some, is) says same =
          let found = subst (IsWordOf (Counts c)) (sym same) word in
          let long = ap (λ (d : Inline). d.unowned) (counted_now shape v h b i now.1.q now.1.here s x c slot says found).counts in
          let last : is_last (kind_at (spot (Hand v.number k) (heap_of v))) (Count s) old ≡ is_alone now.1.q.unowned = unowned_last (Count s) ∙ (ap (is_last_in kinds.Unowned) (ap unpacked (sym word.packed_is) ∙ unpacked-packed (Counts c) word.packable) ∙ (ap (λ m. m == 1) (sym long) ∙ sym (alone_one now.1.q.unowned))) in
          subst (λ w. Good shape v h (number (extent_of shape) (Count s)) x w (Some (acts.Drop k (is_last (kind_at (spot (Hand v.number k) (heap_of v))) (Count s) old))) v.working) (sym is)
          (unowned_down_good shape v h b k i now.1.q now.0 now.1.here owes access (is_last (kind_at (spot (Hand v.number k) (heap_of v))) (Count s) old) last s x c slot lt found says)

      in_entry_down : (e : ℕ) → now.1.q.entry ≡ Some e → e < shape.entries → IsDown kinds.Unowned (places.Unowned e) old new → Says shape (heap_after h) (places.Unowned e) x → x ≡ old
          → Good shape v h (number (extent_of shape) (places.Unowned e)) x new (Some (acts.Drop k (is_last (kind_at (spot (Hand v.number k) (heap_of v))) (places.Unowned e) old))) v.working
      in_entry_down e entry lt one_more says same =
          let long = (entry_now shape v h b i now.1.q now.1.here kinds.Unowned e x entry says).0 in
          let last : is_last (kind_at (spot (Hand v.number k) (heap_of v))) (places.Unowned e) old ≡ is_alone now.1.q.unowned = unowned_last (places.Unowned e) ∙ (ap (λ m. m == 1) (sym same ∙ long) ∙ sym (alone_one now.1.q.unowned)) in
          unowned_entry_good shape v h b k i now.1.q now.0 now.1.here owes access (is_last (kind_at (spot (Hand v.number k) (heap_of v))) (places.Unowned e) old) last e x new entry lt says (same ∙ one_more)

      by : IsCountedAt kinds.Unowned now.1.q pl → IsPlace (extent_of shape) pl → IsDown kinds.Unowned pl old new → Says shape (heap_after h) pl x → x ≡ old
          → Good shape v h (number (extent_of shape) pl) x new (Some (acts.Drop k (is_last (kind_at (spot (Hand v.number k) (heap_of v))) pl old))) v.working
      by (in_line s is slot ne) = subst (λ (q : Place). IsPlace (extent_of shape) q → IsDown kinds.Unowned q old new → Says shape (heap_after h) q x → x ≡ old
          → Good shape v h (number (extent_of shape) q) x new (Some (acts.Drop k (is_last (kind_at (spot (Hand v.number k) (heap_of v))) q old))) v.working) (sym is) (λ lt down says same. in_slot_down s slot lt down says same)
      by (in_entry e is entry) = subst (λ (q : Place). IsPlace (extent_of shape) q → IsDown kinds.Unowned q old new → Says shape (heap_after h) q x → x ≡ old
          → Good shape v h (number (extent_of shape) q) x new (Some (acts.Drop k (is_last (kind_at (spot (Hand v.number k) (heap_of v))) q old))) v.working) (sym is) (λ lt down says same. in_entry_down e entry lt down says same)

  -- a weak list is counted in an entry alone
  weak_drop : (pl : Place) (k i old new x : ℕ) (o : Object) → IsPlace (extent_of shape) pl → v.working.owes ≡ None → v.working.access ≡ None → HasHand v k kinds.Weak i → At (heap_of v) i o → is_counted kinds.Weak o pl ≡ true → IsDown kinds.Weak pl old new
      → Reading shape v h (number (extent_of shape) pl) x → Exchanged (number (extent_of shape) pl) old new (intents.Drop k) x
  weak_drop pl k i old new x o inside owes access hand here counted down read = by (counted_place kinds.Weak o pl counted)
    where
      in_entry_down : (e : ℕ) → o.entry ≡ Some e → e < shape.entries → old ≡ suc new → Reading shape v h (number (extent_of shape) (places.Weak e)) x → Exchanged (number (extent_of shape) (places.Weak e)) old new (intents.Drop k) x
      in_entry_down e entry lt is read =
          let now = hand_now shape v h b k i kinds.Weak o hand here in
          exchanged (places.Weak e) old new (intents.Drop k) x lt
          (λ same. subst (λ (t : Bool). Good shape v h (number (extent_of shape) (places.Weak e)) x new (Some (acts.Drop k t)) v.working) (ap (λ m. m == 1) same ∙ sym (ap (λ kind. is_last kind (places.Weak e) old) (ap kind_at hand)))
          (weak_drop_good shape v h b k i now.1.q now.0 now.1.here owes access e x new (now.1.entry e entry) lt ((read owes (places.Weak e) lt refl).says (λ u. u)) (same ∙ is)))
          (λ ne. silent_good shape v h b (number (extent_of shape) (places.Weak e)) x)

      by : IsCountedAt kinds.Weak o pl → Exchanged (number (extent_of shape) pl) old new (intents.Drop k) x
      by (in_line s is slot ne) = absurd (ne refl)
      by (in_entry e is entry) = subst (λ (q : Place). IsPlace (extent_of shape) q → IsDown kinds.Weak q old new → Reading shape v h (number (extent_of shape) q) x → Exchanged (number (extent_of shape) q) old new (intents.Drop k) x) (sym is)
          (λ lt down read. in_entry_down e entry lt down read) inside down read

  -- the weak reference that the unowned ones held together
  gone_exchange : (e i old new x : ℕ) (o : Object) → e < shape.entries → v.working.owes ≡ None → At (heap_of v) i o → o.entry ≡ Some e → HasDuty v Gone i → old ≡ suc new → Reading shape v h (number (extent_of shape) (places.Weak e)) x
      → Exchanged (number (extent_of shape) (places.Weak e)) old new intents.Gone x
  gone_exchange e i old new x o lt owes here has duty is read =
      let now = owed_now shape v h b Gone i o here duty in
      exchanged (places.Weak e) old new intents.Gone x lt
      (λ same. subst (λ (m : ℕ). Good shape v h (number (extent_of shape) (places.Weak e)) x new (Some (acts.Gone e (m == 1))) v.working) same
      (gone_good shape v h b i e now.0.q now.0.here (now.0.entry e has) now.1 owes x new lt ((read owes (places.Weak e) lt refl).says (λ u. u)) (same ∙ is)))
      (λ ne. silent_good shape v h b (number (extent_of shape) (places.Weak e)) x)

  -- a cell; where its word isn't 1, no access is under way
  swap_exchange : (c : CellName) (old new x : ℕ) (put : Option ℕ) → IsPlace (extent_of shape) (cell_place c) → v.working.owes ≡ None → v.working.access ≡ None → old ≢ 1 → Reaches shape v c → IsPut shape v c put new
      → Reading shape v h (number (extent_of shape) (cell_place c)) x → Exchanged (number (extent_of shape) (cell_place c)) old new (intents.Swap c put) x
  swap_exchange c old new x put inside owes access free reach given read =
      exchanged (cell_place c) old new (intents.Swap c put) x inside
      (λ e. subst (λ (m : ℕ). Good shape v h (number (extent_of shape) (cell_place c)) x new (Some (acts.Swap c put (cond (m == 0) None (Some (next_hand v.number v.seen))))) v.working) e
      (let calm : x ≢ 1 = λ one. free (sym e ∙ one) in
      swap_good shape v h b c put x new inside (reach_now shape v h b c reach) owes access calm ((read owes (cell_place c) inside refl).says (λ busy. calm (cell_busy c x busy))) (put_given shape v h b c put new reach given)))
      (λ ne. silent_good shape v h b (number (extent_of shape) (cell_place c)) x)

  -- an access of a cell begins; its word is not 1, so that no other is under way
  access_exchange : (c : CellName) (old new x : ℕ) → IsPlace (extent_of shape) (cell_place c) → v.working.owes ≡ None → v.working.access ≡ None → 2 ≤ old → new ≡ 1 → Reaches shape v c
      → Reading shape v h (number (extent_of shape) (cell_place c)) x → Exchanged (number (extent_of shape) (cell_place c)) old new (intents.Access c) x
  access_exchange c old new x inside owes access some one reach read =
      exchanged (cell_place c) old new (intents.Access c) x inside
      (λ e. subst (λ (t : ℕ × ℕ). Good shape v h (number (extent_of shape) (cell_place c)) x t.0 None (record v.working { access = Some (record { cell = c; value = t.1 }) })) (λ j. (sym one j, e j))
      (begin_good shape v h b c inside x (reach_now shape v h b c reach) access (subst (λ m. 2 ≤ m) (sym e) some) ((read owes (cell_place c) inside refl).says (λ busy. let is = cell_busy c x busy in omega (arith, some, e, is)))))
      (λ ne. silent_good shape v h b (number (extent_of shape) (cell_place c)) x)

  -- what the end of a deinit needs, and where its unowned list is counted
  abbrev Ending : ℕ → ℕ → Object → Place → ℕ → ℕ → Type 0
  Ending slot i o pl old new = At (heap_of v) i o × (o.slot ≡ Some slot) × HasDuty v Deinit i × (are_all_nil shape (heap_of v) o ≡ true) × (is_counted kinds.Unowned o pl ≡ true) × IsDown kinds.Unowned pl old new

  finish_exchange : (slot i s old new x : ℕ) (o : Object) → s < shape.slots → v.working.owes ≡ None → Ending slot i o (Count s) old new → Says shape (heap_after h) (Count s) x → Exchanged (number (extent_of shape) (Count s)) old new (intents.Deinit slot) x
  finish_exchange slot i s old new x o lt owes (here, in_it, duty, nil, counted, (c, word, some, is)) says =
      let same : slot ≡ s = Some-inj (sym in_it ∙ is_number_some o.slot s counted) in
      let now = owed_now shape v h b Deinit i o here duty in
      let last : Bool = is_last kinds.Unowned (Count s) old in
      let last_is : last ≡ (c.unowned == 1) = ap (is_last_in kinds.Unowned) (ap unpacked (sym word.packed_is) ∙ unpacked-packed (Counts c) word.packable) in
      exchanged (Count s) old new (intents.Deinit slot) x lt
      (λ e. subst (λ (t : ℕ × ℕ). Good shape v h (number (extent_of shape) (Count s)) x t.0 (Some (acts.Finish t.1 last)) (without_next (number (extent_of shape)) t.1 v.working)) (λ j. (sym is j, sym same j))
      (finish_good shape v h b i s now.0.q now.0.here (now.0.slot ∙ (in_it ∙ ap Some same)) now.1 (nils_now shape v h b i o here duty nil now.0) last c x lt (subst (IsWordOf (Counts c)) (sym e) word) says last_is owes))
      (λ ne. silent_good shape v h b (number (extent_of shape) (Count s)) x)

  finish_in_entry : (slot i e old new x : ℕ) (o : Object) → e < shape.entries → v.working.owes ≡ None → Ending slot i o (places.Unowned e) old new → Says shape (heap_after h) (places.Unowned e) x
      → Exchanged (number (extent_of shape) (places.Unowned e)) old new (intents.Deinit slot) x
  finish_in_entry slot i e old new x o lt owes (here, in_it, duty, nil, counted, is) says =
      let now = owed_now shape v h b Deinit i o here duty in
      exchanged (places.Unowned e) old new (intents.Deinit slot) x lt
      (λ same. subst (λ (m : ℕ). Good shape v h (number (extent_of shape) (places.Unowned e)) x new (Some (acts.Finish slot (m == 1))) (without_next (number (extent_of shape)) slot v.working)) same
      (finish_entry_good shape v h b i slot now.0.q now.0.here (now.0.slot ∙ in_it) now.1 (nils_now shape v h b i o here duty nil now.0) (x == 1) e x (now.0.entry e (is_number_some o.entry e counted)) lt says refl new (same ∙ is) owes))
      (λ ne. silent_good shape v h b (number (extent_of shape) (places.Unowned e)) x)

  finish_by : (pl : Place) (slot i old new x : ℕ) (o : Object) → IsPlace (extent_of shape) pl → v.working.owes ≡ None → Ending slot i o pl old new → Reading shape v h (number (extent_of shape) pl) x → Exchanged (number (extent_of shape) pl) old new (intents.Deinit slot) x
  finish_by places.Zero slot i old new x o inside owes c read = no_count c.4
  finish_by (places.Global g) slot i old new x o inside owes c read = no_count c.4
  finish_by (Count s) slot i old new x o inside owes c read = finish_exchange slot i s old new x o inside owes c ((read owes (Count s) inside refl).says (λ u. u))
  finish_by (Isa s) slot i old new x o inside owes c read = no_count c.4
  finish_by (places.Next s) slot i old new x o inside owes c read = no_count c.4
  finish_by (places.Field s f) slot i old new x o inside owes c read = no_count c.4
  finish_by (places.Link e) slot i old new x o inside owes c read = no_count c.4
  finish_by (places.Strong e) slot i old new x o inside owes c read = no_count c.4
  finish_by (places.Unowned e) slot i old new x o inside owes c read = finish_in_entry slot i e old new x o inside owes c ((read owes (places.Unowned e) inside refl).says (λ u. u))
  finish_by (places.Weak e) slot i old new x o inside owes c read = no_count c.4
  finish_by (places.SlotBits n) slot i old new x o inside owes c read = no_count c.4
  finish_by (places.EntryBits n) slot i old new x o inside owes c read = no_count c.4

  -- an inline word with counts gives way to the entry that was filled for them
  publish_exchange : (s e i old x : ℕ) (of : Origin) (why kind : Kind) (o : Object) (c : Inline) → s < shape.slots → e < shape.entries → v.working.owes ≡ None → IsWordOf (Counts c) old → IsSource v of kind i → kind ≢ kinds.Weak → At (heap_of v) i o
      → o.slot ≡ Some s → IsWhy shape why c → HasFilled shape v e s c → Says shape (heap_after h) (Count s) x → Exchanged (number (extent_of shape) (Count s)) old (packed (Slow e)) (intents.Publish of why) x
  publish_exchange s e i old x of why kind o c lt below owes word source ne here slot shows filled says =
      let now = (source_now shape v h b of i kind o source here).1 in
      let named : entry_named (unpacked (packed (Slow e))) ≡ e = ap entry_named (unpacked-packed (Slow e) (let most = b.sized.shape_fits.entries_fit.1 in omega (arith, below, most))) in
      exchanged (Count s) old (packed (Slow e)) (intents.Publish of why) x lt
      (λ same. subst (λ (n : ℕ). Good shape v h (number (extent_of shape) (Count s)) x (packed (Slow e)) (Some (acts.Side s n why)) (record v.working { stored = but_entry (number (extent_of shape)) n v.working.stored })) (sym named)
      (publish_good shape v h b i s e x now.q c why now.here (now.slot ne ∙ slot) (claim_now shape v h b e filled.claim) (subst (IsWordOf (Counts c)) (sym same) word) says shows owes filled))
      (λ ne. silent_good shape v h b (number (extent_of shape) (Count s)) x)

  has_entry_at : (o : Object) (pl : Place) → IsCountedAt kinds.Weak o pl → is_some o.entry ≡ true
  has_entry_at o pl (in_line s is slot ne) = absurd (ne refl)
  has_entry_at o pl (in_entry e is entry) = ap is_some entry

  exchange_admitted : (place old new : ℕ) (intent : Intent) → Admits shape v (Exchange place old new) intent → (x : ℕ) → Reading shape v h place x → Exchanged place old new intent x
  exchange_admitted place old new (intents.Copy from) (pl, at, inside, owes, (kind, i, o, source, here, counted, up)) x read =
      subst (λ t. Exchanged t old new (intents.Copy from) x) (sym at)
      (exchanged pl old new (intents.Copy from) x inside
      (up_hit (acts.Copy from (next_hand v.number v.seen)) kind kind from i o pl old new x inside owes source here (λ s is ne. ne) counted up (subst (λ t. Reading shape v h t x) at read)
      (λ q now there place room live. copied shape v h b from i kind q now there owes (source_had shape v h b from i kind source.1 now) room))
      (λ ne. silent_good shape v h b (number (extent_of shape) pl) x))
  exchange_admitted place old new (intents.UnownedOf of) (pl, at, inside, owes, (i, o, hand, here, counted, up)) x read =
      subst (λ t. Exchanged t old new (intents.UnownedOf of) x) (sym at)
      (exchanged pl old new (intents.UnownedOf of) x inside
      (up_hit (acts.UnownedOf of (next_hand v.number v.seen)) kinds.Unowned kinds.Strong (origins.Hand of) i o pl old new x inside owes (hand, tt) here (λ s is ne. strong≢weak) counted up (subst (λ t. Reading shape v h t x) at read) (λ q now there place room live. unowned_made shape v h b of i kinds.Strong q now there owes refl room))
      (λ ne. silent_good shape v h b (number (extent_of shape) pl) x))
  exchange_admitted place old new (intents.WeakOf of) (pl, at, inside, owes, (i, o, hand, here, counted, up)) x read =
      subst (λ t. Exchanged t old new (intents.WeakOf of) x) (sym at)
      (exchanged pl old new (intents.WeakOf of) x inside
      (up_hit (acts.WeakOf of (next_hand v.number v.seen)) kinds.Weak kinds.Strong (origins.Hand of) i o pl old new x inside owes (hand, tt) here (λ s is ne. strong≢weak) counted up (subst (λ t. Reading shape v h t x) at read)
      (λ q now there place room live. weak_made shape v h b of i kinds.Strong q now there owes refl (has_entry_at q pl place) room))
      (λ ne. silent_good shape v h b (number (extent_of shape) pl) x))
  exchange_admitted place old new (intents.Load of) (pl, at, inside, owes, (kind, i, o, hand, not_strong, not_weak, here, counted, up)) x read =
      subst (λ t. Exchanged t old new (intents.Load of) x) (sym at)
      (exchanged pl old new (intents.Load of) x inside
      (up_hit (acts.Load of (got.Hand (next_hand v.number v.seen))) kinds.Strong kind (origins.Hand of) i o pl old new x inside owes (hand, tt) here (λ s is ne. not_weak s is) counted up (subst (λ t. Reading shape v h t x) at read)
      (λ q now there place room live. load_made shape v h b of i kind q now there owes not_strong (live refl) room))
      (λ ne. silent_good shape v h b (number (extent_of shape) pl) x))
  exchange_admitted place old new (intents.Drop k) (pl, at, inside, owes, (kinds.Strong, i, o, hand, access, here, counted, down)) x read =
      subst (λ t. Exchanged t old new (intents.Drop k) x) (sym at) (drop_by pl k i old new x o inside owes access (ap kind_at hand) here (hand, counted, down) (subst (λ t. Reading shape v h t x) at read))
  exchange_admitted place old new (intents.Drop k) (pl, at, inside, owes, (kinds.Unowned, i, o, hand, access, here, counted, down)) x read =
      subst (λ t. Exchanged t old new (intents.Drop k) x) (sym at) (unowned_drop pl k i old new x o inside owes access hand here counted down (subst (λ t. Reading shape v h t x) at read))
  exchange_admitted place old new (intents.Drop k) (pl, at, inside, owes, (kinds.Weak, i, o, hand, access, here, counted, down)) x read =
      subst (λ t. Exchanged t old new (intents.Drop k) x) (sym at) (weak_drop pl k i old new x o inside owes access hand here counted down (subst (λ t. Reading shape v h t x) at read))
  exchange_admitted place old new (intents.Publish of why) (pl, at, inside, owes, (s, e, kind, i, o, c, is, below, word, slow, source, ne, here, slot, shows, filled)) x read =
      let lt = subst (IsPlace (extent_of shape)) is inside in
      let place_is = at ∙ ap (number (extent_of shape)) is in
      subst (λ (t : ℕ × ℕ). Exchanged t.0 old t.1 (intents.Publish of why) x) (λ j. (sym place_is j, sym slow j))
      (publish_exchange s e i old x of why kind o c lt below owes word source ne here slot shows filled ((subst (λ t. Reading shape v h t x) place_is read owes (Count s) lt refl).says (λ u. u)))
  exchange_admitted place old new (intents.Swap c put) (pl, at, inside, owes, (is, free, access, reach, given)) x read =
      let place_is = at ∙ ap (number (extent_of shape)) is in
      subst (λ t. Exchanged t old new (intents.Swap c put) x) (sym place_is) (swap_exchange c old new x put (subst (IsPlace (extent_of shape)) is inside) owes access free reach given (subst (λ t. Reading shape v h t x) place_is read))
  exchange_admitted place old new (intents.Access c) (pl, at, inside, owes, (is, some, one, access, reach)) x read =
      let place_is = at ∙ ap (number (extent_of shape)) is in
      subst (λ t. Exchanged t old new (intents.Access c) x) (sym place_is) (access_exchange c old new x (subst (IsPlace (extent_of shape)) is inside) owes access some one reach (subst (λ t. Reading shape v h t x) place_is read))
  exchange_admitted place old new (intents.Deinit slot) (pl, at, inside, owes, (i, o, here, in_it, duty, nil, counted, down)) x read =
      subst (λ t. Exchanged t old new (intents.Deinit slot) x) (sym at) (finish_by pl slot i old new x o inside owes (here, in_it, duty, nil, counted, down) (subst (λ t. Reading shape v h t x) at read))
  exchange_admitted place old new intents.Gone (pl, at, inside, owes, (e, i, o, is, here, has, duty, down)) x read =
      let place_is = at ∙ ap (number (extent_of shape)) is in
      subst (λ t. Exchanged t old new intents.Gone x) (sym place_is)
      (gone_exchange e i old new x o (subst (IsPlace (extent_of shape)) is inside) owes here has duty down (subst (λ t. Reading shape v h t x) place_is read))
  exchange_admitted place old new intents.Look (pl, at, inside, owes, never) x read = absurd (never)
  exchange_admitted place old new (intents.New class) (pl, at, inside, owes, never) x read = absurd (never)
  exchange_admitted place old new (intents.Claim of) (pl, at, inside, owes, never) x read = absurd (never)
  exchange_admitted place old new intents.Back (pl, at, inside, owes, never) x read = absurd (never)
  exchange_admitted place old new intents.Vacate (pl, at, inside, owes, never) x read = absurd (never)

  abbrev Put : ℕ → ℕ → Intent → ℕ → Type 1
  Put place new intent x = Good shape v h place x new (act_of shape v (Store place new) intent 0) (working_after shape v (Store place new) intent 0)

  store_admitted : (place new : ℕ) (intent : Intent) → Admits shape v (Store place new) intent → (x : ℕ) → Resting shape h place x → Put place new intent x
  store_admitted place new (intents.New class) admits x rests = name_stored shape v h b place new class x admits
  store_admitted place new (intents.Claim of) admits x rests = claim_stored shape v h b place new of x admits
  store_admitted place new (intents.Publish of why) admits x rests = publish_stored shape v h b place new of why x admits
  store_admitted place new (intents.Access c) admits x rests = access_stored shape v h b place new c x admits
  store_admitted place new (intents.Deinit slot) admits x rests = deinit_stored shape v place new slot admits h b x rests
  store_admitted place new intents.Look (pl, at, inside, never) x rests = absurd (never)
  store_admitted place new (intents.Copy from) (pl, at, inside, never) x rests = absurd (never)
  store_admitted place new (intents.UnownedOf of) (pl, at, inside, never) x rests = absurd (never)
  store_admitted place new (intents.WeakOf of) (pl, at, inside, never) x rests = absurd (never)
  store_admitted place new (intents.Load of) (pl, at, inside, never) x rests = absurd (never)
  store_admitted place new (intents.Drop k) (pl, at, inside, never) x rests = absurd (never)
  store_admitted place new intents.Back (pl, at, inside, never) x rests = absurd (never)
  store_admitted place new (intents.Swap c put) (pl, at, inside, never) x rests = absurd (never)
  store_admitted place new intents.Vacate (pl, at, inside, never) x rests = absurd (never)
  store_admitted place new intents.Gone (pl, at, inside, never) x rests = absurd (never)

pub loads : {S : Type 0} (shape : HeapShape) (id : ℕ) (me : Me S View) (intent : Intent) (place : ℕ) → me.0.role ≡ Pass → Admits shape me.0 (Load place) intent → KeepsRule shape id me intent (Load place) (λ x. x)
loads shape id me intent place pass admits = steps shape id me intent (Load place) (λ x. x) pass (λ _. admits.3) (load_settles shape me.0 place intent admits) (λ h b x read. loaded shape me.0 h b place intent admits x read)

pub exchanges : {S : Type 0} (shape : HeapShape) (id : ℕ) (me : Me S View) (intent : Intent) (place old new : ℕ) → me.0.role ≡ Pass → Admits shape me.0 (Exchange place old new) intent
    → KeepsRule shape id me intent (Exchange place old new) (λ x. either (eqb x old) new x)
exchanges shape id me intent place old new pass admits = steps shape id me intent (Exchange place old new) (λ x. either (eqb x old) new x) pass (λ _. admits.3) (exchange_settles shape me.0 place old new intent admits) (λ h b x read. exchange_admitted shape me.0 h b place old new intent admits x read)

pub stores : {S : Type 0} (shape : HeapShape) (id : ℕ) (me : Me S View) (intent : Intent) (place new : ℕ) → me.0.role ≡ Pass → Admits shape me.0 (Store place new) intent → KeepsRule shape id me intent (Store place new) (λ _. new)
stores shape id me intent place new pass admits = rested_steps shape id me intent (Store place new) (λ _. new) pass (λ r. absurd (r)) (store_settles shape me.0 place new intent admits) (λ h b x read rests. store_admitted shape me.0 h b place new intent admits x rests)

pub ors : {S : Type 0} (shape : HeapShape) (id : ℕ) (me : Me S View) (intent : Intent) (place bits : ℕ) → me.0.role ≡ Pass → Admits shape me.0 (Or place bits) intent → KeepsRule shape id me intent (Or place bits) (λ x. bit_or x bits)
ors shape id me intent place bits pass admits = steps shape id me intent (Or place bits) (λ x. bit_or x bits) pass (λ _. admits.3) (or_settles shape me.0 place bits intent admits) (λ h b x read. or_admitted shape me.0 h b place bits intent admits x read)

pub ands : {S : Type 0} (shape : HeapShape) (id : ℕ) (me : Me S View) (intent : Intent) (place bits : ℕ) → me.0.role ≡ Pass → Admits shape me.0 (And place bits) intent → KeepsRule shape id me intent (And place bits) (λ x. bit_and x bits)
ands shape id me intent place bits pass admits = steps shape id me intent (And place bits) (λ x. bit_and x bits) pass (λ _. admits.3) (and_settles shape me.0 place bits intent admits) (λ h b x read. and_admitted shape me.0 h b place bits intent admits x read)
