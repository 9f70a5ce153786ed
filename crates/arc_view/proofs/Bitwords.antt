-- Steps on words of bits, and the stores of a new object's words and of a claimed entry's, as the view admits them.
use Rattle.std.proofs.Common.{◌≡◌, inl, inr, ℕ, ◌/◌, ◌∷◌, ◌++◌, Bool, true, false, Option, Some, None, refl, sym, ap, ◌∙◌, subst}
use Rattle.std.specs.Prelude.{bit_and, bit_or, if◌then◌else◌, ◌==◌}
use Rattle.arc_model.specs.declared.event.Act.{Act}
use Rattle.arc_model.specs.declared.event.Act.TheVariants as acts
use Rattle.arc_model.specs.declared.event.Origin.{Origin}
use Rattle.arc_model.specs.declared.shape.Kind.{Kind}
use Rattle.arc_model.specs.Shapes.{HeapShape}
use Rattle.arc_model.specs.Heaps.{Vacating}
use Rattle.arc_model.specs.History.{History, heap_after, IsLegal}
use Rattle.arc_model.specs.Lookup.{duty_of}
use Rattle.arc_model.proofs.Others.{others_leave}
use Rattle.arc_rule.specs.declared.step.Step.TheVariants.{Load, Store, Or, And}
use Rattle.arc_rule.specs.declared.step.Intent.{Intent}
use Rattle.arc_rule.specs.declared.step.Intent.TheVariants as intents
use Rattle.arc_rule.specs.declared.layout.Place.{Place}
use Rattle.arc_rule.specs.declared.layout.Place.TheVariants as places
use Rattle.arc_rule.specs.Bits.{bit_of, but_bit_of}
use Rattle.arc_rule.specs.Places.{IsPlace, extent_of, number}
use Rattle.arc_rule.specs.Shown.{Says}
use Rattle.arc_rule.proofs.Bits.{thing_left_but}
use Rattle.arc_rule.proofs.Places.{place_at-number}
use Rattle.arc_view.specs.declared.view.Working.{Working}
use Rattle.arc_view.specs.declared.view.View.{View}
use Rattle.arc_view.specs.Holding.{HasClaim}
use Rattle.arc_view.specs.Views.{first_word}
use Rattle.arc_view.specs.Admission.{Admits, IsNaming, IsWordOfEntry}
use Rattle.arc_view.specs.Kinds.{act_of, loaded_act, stored_act, or_act, and_act, working_after, working_loaded, working_stored, working_or, working_and, but_at, but_entry}
use Rattle.arc_view.proofs.Advance.{Good}
use Rattle.arc_view.proofs.Present.{claim_now}
use Rattle.arc_view.proofs.Bridge.{Before, Reading, silent_good}
use Rattle.arc_view.proofs.Owed.{OwedLater, owed_stays}
use Rattle.arc_view.proofs.Searching.{search_good, entry_search_good}
use Rattle.arc_view.proofs.Claiming.{claim_good}
use Rattle.arc_view.proofs.GivingBack.{back_good}
use Rattle.arc_view.proofs.Storing.{store_good}
use Rattle.arc_view.proofs.NewObject.{take_good, first_good, name_good}
use Rattle.arc_view.proofs.Vacating.{vacate_good}

-- a word of bits says what the heap says
pub bits_says : (shape : HeapShape) (v : View) (h : History) (k x : ℕ) → v.working.owes ≡ None → IsPlace (extent_of shape) (places.SlotBits k) → Reading shape v h (number (extent_of shape) (places.SlotBits k)) x → Says shape (heap_after h) (places.SlotBits k) x
bits_says shape v h k x owes inside read = (read owes (places.SlotBits k) inside refl).says (λ u. u)

entry_bits_say : (shape : HeapShape) (v : View) (h : History) (k x : ℕ) → v.working.owes ≡ None → IsPlace (extent_of shape) (places.EntryBits k) → Reading shape v h (number (extent_of shape) (places.EntryBits k)) x → Says shape (heap_after h) (places.EntryBits k) x
entry_bits_say shape v h k x owes inside read = (read owes (places.EntryBits k) inside refl).says (λ u. u)

module _ (shape : HeapShape) (v : View) (h : History) (b : Before shape v h) where
  -- a load for a new object, at any place
  new_loaded : (class x : ℕ) (pl : Place) → IsPlace (extent_of shape) pl → v.working.owes ≡ None → Reading shape v h (number (extent_of shape) pl) x
      → Good shape v h (number (extent_of shape) pl) x x (loaded_act shape v pl x (intents.New class)) (working_loaded v.working pl x (intents.New class))
  new_loaded class x places.Zero inside owes read = silent_good shape v h b (number (extent_of shape) places.Zero) x
  new_loaded class x (places.Global g) inside owes read = silent_good shape v h b (number (extent_of shape) (places.Global g)) x
  new_loaded class x (places.Count s) inside owes read = silent_good shape v h b (number (extent_of shape) (places.Count s)) x
  new_loaded class x (places.Isa s) inside owes read = silent_good shape v h b (number (extent_of shape) (places.Isa s)) x
  new_loaded class x (places.Next s) inside owes read = silent_good shape v h b (number (extent_of shape) (places.Next s)) x
  new_loaded class x (places.Field s f) inside owes read = silent_good shape v h b (number (extent_of shape) (places.Field s f)) x
  new_loaded class x (places.Link e) inside owes read = silent_good shape v h b (number (extent_of shape) (places.Link e)) x
  new_loaded class x (places.Strong e) inside owes read = silent_good shape v h b (number (extent_of shape) (places.Strong e)) x
  new_loaded class x (places.Unowned e) inside owes read = silent_good shape v h b (number (extent_of shape) (places.Unowned e)) x
  new_loaded class x (places.Weak e) inside owes read = silent_good shape v h b (number (extent_of shape) (places.Weak e)) x
  new_loaded class x (places.SlotBits k) inside owes read = search_good shape v h b k x owes class (bits_says shape v h k x owes inside read)
  new_loaded class x (places.EntryBits k) inside owes read = silent_good shape v h b (number (extent_of shape) (places.EntryBits k)) x

  -- a load for an entry
  claim_loaded : (of : Origin) (x : ℕ) (pl : Place) → IsPlace (extent_of shape) pl → v.working.owes ≡ None → Reading shape v h (number (extent_of shape) pl) x
      → Good shape v h (number (extent_of shape) pl) x x (loaded_act shape v pl x (intents.Claim of)) (working_loaded v.working pl x (intents.Claim of))
  claim_loaded of x places.Zero inside owes read = silent_good shape v h b (number (extent_of shape) places.Zero) x
  claim_loaded of x (places.Global g) inside owes read = silent_good shape v h b (number (extent_of shape) (places.Global g)) x
  claim_loaded of x (places.Count s) inside owes read = silent_good shape v h b (number (extent_of shape) (places.Count s)) x
  claim_loaded of x (places.Isa s) inside owes read = silent_good shape v h b (number (extent_of shape) (places.Isa s)) x
  claim_loaded of x (places.Next s) inside owes read = silent_good shape v h b (number (extent_of shape) (places.Next s)) x
  claim_loaded of x (places.Field s f) inside owes read = silent_good shape v h b (number (extent_of shape) (places.Field s f)) x
  claim_loaded of x (places.Link e) inside owes read = silent_good shape v h b (number (extent_of shape) (places.Link e)) x
  claim_loaded of x (places.Strong e) inside owes read = silent_good shape v h b (number (extent_of shape) (places.Strong e)) x
  claim_loaded of x (places.Unowned e) inside owes read = silent_good shape v h b (number (extent_of shape) (places.Unowned e)) x
  claim_loaded of x (places.Weak e) inside owes read = silent_good shape v h b (number (extent_of shape) (places.Weak e)) x
  claim_loaded of x (places.SlotBits k) inside owes read = silent_good shape v h b (number (extent_of shape) (places.SlotBits k)) x
  claim_loaded of x (places.EntryBits k) inside owes read = entry_search_good shape v h b k x owes of (entry_bits_say shape v h k x owes inside read)

  pub entry_search_loaded : (place : ℕ) (of : Origin) (x : ℕ) → Admits shape v (Load place) (intents.Claim of) → Reading shape v h place x → Good shape v h place x x (act_of shape v (Load place) (intents.Claim of) x) (working_after shape v (Load place) (intents.Claim of) x)
  entry_search_loaded place of x (pl, at, inside, owes, may, fits) read =
      subst (λ n. Good shape v h n x x (act_of shape v (Load n) (intents.Claim of) x) (working_after shape v (Load n) (intents.Claim of) x)) (sym at)
      (subst (λ (q : Place). Good shape v h (number (extent_of shape) pl) x x (loaded_act shape v q x (intents.Claim of)) (working_loaded v.working q x (intents.Claim of))) (sym (place_at-number (extent_of shape) pl inside))
      (claim_loaded of x pl inside owes (subst (λ n. Reading shape v h n x) at read)))

  pub search_loaded : (place class x : ℕ) → Admits shape v (Load place) (intents.New class) → Reading shape v h place x → Good shape v h place x x (act_of shape v (Load place) (intents.New class) x) (working_after shape v (Load place) (intents.New class) x)
  search_loaded place class x (pl, at, inside, owes, may, fits) read =
      subst (λ n. Good shape v h n x x (act_of shape v (Load n) (intents.New class) x) (working_after shape v (Load n) (intents.New class) x)) (sym at)
      (subst (λ (q : Place). Good shape v h (number (extent_of shape) pl) x x (loaded_act shape v q x (intents.New class)) (working_loaded v.working q x (intents.New class))) (sym (place_at-number (extent_of shape) pl inside))
      (new_loaded class x pl inside owes (subst (λ n. Reading shape v h n x) at read)))

  abbrev Ored : ℕ → ℕ → Intent → ℕ → Type 1
  Ored place bits intent x = Good shape v h place x (bit_or x bits) (act_of shape v (Or place bits) intent x) (working_after shape v (Or place bits) intent x)

  pub or_admitted : (place bits : ℕ) (intent : Intent) → Admits shape v (Or place bits) intent → (x : ℕ) → Reading shape v h place x → Ored place bits intent x
  or_admitted place bits (intents.New class) (pl, at, inside, owes, (s, is, lt, bit, is_class, room)) x read =
      let place_is = at ∙ ap (number (extent_of shape)) is in
      let within : IsPlace (extent_of shape) (places.SlotBits (s / 64)) = subst (IsPlace (extent_of shape)) is inside in
      subst (λ (t : ℕ × ℕ). Ored t.0 t.1 (intents.New class) x) (λ j. (sym place_is j, sym bit j))
      (subst (λ (q : Place). Good shape v h (number (extent_of shape) (places.SlotBits (s / 64))) x (bit_or x (bit_of s)) (if bit_and x (bit_of s) == 0 then or_act v q (bit_of s) (intents.New class) else None)
      (if bit_and x (bit_of s) == 0 then working_or v.working q (bit_of s) (intents.New class) else v.working)) (sym (place_at-number (extent_of shape) (places.SlotBits (s / 64)) within))
      (take_good shape v h b s class lt owes x is_class room (bits_says shape v h (s / 64) x owes within (subst (λ n. Reading shape v h n x) place_is read))))
  or_admitted place bits (intents.Claim of) (pl, at, inside, owes, (e, s, kind, i, o, is, lt, bit, source, strong, here, slot)) x read =
      let place_is = at ∙ ap (number (extent_of shape)) is in
      let within : IsPlace (extent_of shape) (places.EntryBits (e / 64)) = subst (IsPlace (extent_of shape)) is inside in
      subst (λ (t : ℕ × ℕ). Ored t.0 t.1 (intents.Claim of) x) (λ j. (sym place_is j, sym bit j))
      (subst (λ (q : Place). Good shape v h (number (extent_of shape) (places.EntryBits (e / 64))) x (bit_or x (bit_of e)) (if bit_and x (bit_of e) == 0 then or_act v q (bit_of e) (intents.Claim of) else None)
      (if bit_and x (bit_of e) == 0 then working_or v.working q (bit_of e) (intents.Claim of) else v.working)) (sym (place_at-number (extent_of shape) (places.EntryBits (e / 64)) within))
      (subst (λ w. Good shape v h (number (extent_of shape) (places.EntryBits (e / 64))) x (bit_or x (bit_of e)) (if bit_and x (bit_of e) == 0 then or_act v (places.EntryBits (e / 64)) (bit_of e) (intents.Claim of) else None) w)
      (sym (same_work (bit_and x (bit_of e) == 0)))
      (claim_good shape v h b e lt owes of x (entry_bits_say shape v h (e / 64) x owes within (subst (λ n. Reading shape v h n x) place_is read)))))
    where
      same_work : (t : Bool) → (if t then v.working else v.working) ≡ v.working
      same_work true = refl
      same_work false = refl
  or_admitted place bits intents.Look (pl, at, inside, owes, never) x read = absurd (never)
  or_admitted place bits (intents.Copy from) (pl, at, inside, owes, never) x read = absurd (never)
  or_admitted place bits (intents.UnownedOf of) (pl, at, inside, owes, never) x read = absurd (never)
  or_admitted place bits (intents.WeakOf of) (pl, at, inside, owes, never) x read = absurd (never)
  or_admitted place bits (intents.Load of) (pl, at, inside, owes, never) x read = absurd (never)
  or_admitted place bits (intents.Drop k) (pl, at, inside, owes, never) x read = absurd (never)
  or_admitted place bits (intents.Publish of why) (pl, at, inside, owes, never) x read = absurd (never)
  or_admitted place bits intents.Back (pl, at, inside, owes, never) x read = absurd (never)
  or_admitted place bits (intents.Swap c put) (pl, at, inside, owes, never) x read = absurd (never)
  or_admitted place bits (intents.Access c) (pl, at, inside, owes, never) x read = absurd (never)
  or_admitted place bits (intents.Deinit slot) (pl, at, inside, owes, never) x read = absurd (never)
  or_admitted place bits intents.Vacate (pl, at, inside, owes, never) x read = absurd (never)
  or_admitted place bits intents.Gone (pl, at, inside, owes, never) x read = absurd (never)

  abbrev Anded : ℕ → ℕ → Intent → ℕ → Type 1
  Anded place bits intent x = Good shape v h place x (bit_and x bits) (act_of shape v (And place bits) intent x) (working_after shape v (And place bits) intent x)

  pub and_admitted : (place bits : ℕ) (intent : Intent) → Admits shape v (And place bits) intent → (x : ℕ) → Reading shape v h place x → Anded place bits intent x
  and_admitted place bits intents.Vacate (pl, at, inside, owes, (s, i, o, is, lt, bit, here, slot, duty)) x read =
      let place_is = at ∙ ap (number (extent_of shape)) is in
      let within : IsPlace (extent_of shape) (places.SlotBits (s / 64)) = subst (IsPlace (extent_of shape)) is inside in
      let since : IsLegal shape (b.rest ++ v.seen) = subst (IsLegal shape) b.is b.legal in
      let now : OwedLater i o h = subst (OwedLater i o) (sym b.is) (owed_stays shape v.number i Vacating o v.seen b.rest since b.others here duty) in
      let still : duty_of v.number i (heap_after h) ≡ Some Vacating = ap (λ l. duty_of v.number i (heap_after l)) b.is ∙ (others_leave shape v.number v.seen b.rest since b.others).duties i ∙ duty in
      subst (λ (t : ℕ × ℕ). Anded t.0 t.1 intents.Vacate x) (λ j. (sym place_is j, sym bit j))
      (subst (λ (q : Place). Good shape v h (number (extent_of shape) (places.SlotBits (s / 64))) x (bit_and x (but_bit_of s)) (and_act q (but_bit_of s) intents.Vacate) (working_and (number (extent_of shape)) v.working q (but_bit_of s) intents.Vacate)) (sym (place_at-number (extent_of shape) (places.SlotBits (s / 64)) within))
      (subst (λ t. Good shape v h (number (extent_of shape) (places.SlotBits (s / 64))) x (bit_and x (but_bit_of s)) (Some (acts.Vacate t)) v.working) (sym (thing_left_but s))
      (vacate_good shape v h b i s now.q now.here (now.slot ∙ slot) still x owes (bits_says shape v h (s / 64) x owes within (subst (λ n. Reading shape v h n x) place_is read)))))
  and_admitted place bits intents.Back (pl, at, inside, owes, (e, is, lt, bit, claim)) x read =
      let place_is = at ∙ ap (number (extent_of shape)) is in
      let within : IsPlace (extent_of shape) (places.EntryBits (e / 64)) = subst (IsPlace (extent_of shape)) is inside in
      let entry = number (extent_of shape) (places.EntryBits (e / 64)) in
      subst (λ (t : ℕ × ℕ). Anded t.0 t.1 intents.Back x) (λ j. (sym place_is j, sym bit j))
      (subst (λ (q : Place). Good shape v h entry x (bit_and x (but_bit_of e)) (and_act q (but_bit_of e) intents.Back) (working_and (number (extent_of shape)) v.working q (but_bit_of e) intents.Back)) (sym (place_at-number (extent_of shape) (places.EntryBits (e / 64)) within))
      (subst (λ t. Good shape v h entry x (bit_and x (but_bit_of e)) (Some (acts.Back t)) (record v.working { stored = but_entry (number (extent_of shape)) t v.working.stored })) (sym (thing_left_but e))
      (back_good shape v h b e lt owes (claim_now shape v h b e claim) x (entry_bits_say shape v h (e / 64) x owes within (subst (λ n. Reading shape v h n x) place_is read)))))
  and_admitted place bits intents.Look (pl, at, inside, owes, never) x read = absurd (never)
  and_admitted place bits (intents.New class) (pl, at, inside, owes, never) x read = absurd (never)
  and_admitted place bits (intents.Copy from) (pl, at, inside, owes, never) x read = absurd (never)
  and_admitted place bits (intents.UnownedOf of) (pl, at, inside, owes, never) x read = absurd (never)
  and_admitted place bits (intents.WeakOf of) (pl, at, inside, owes, never) x read = absurd (never)
  and_admitted place bits (intents.Load of) (pl, at, inside, owes, never) x read = absurd (never)
  and_admitted place bits (intents.Drop k) (pl, at, inside, owes, never) x read = absurd (never)
  and_admitted place bits (intents.Claim of) (pl, at, inside, owes, never) x read = absurd (never)
  and_admitted place bits (intents.Publish of why) (pl, at, inside, owes, never) x read = absurd (never)
  and_admitted place bits (intents.Swap c put) (pl, at, inside, owes, never) x read = absurd (never)
  and_admitted place bits (intents.Access c) (pl, at, inside, owes, never) x read = absurd (never)
  and_admitted place bits (intents.Deinit slot) (pl, at, inside, owes, never) x read = absurd (never)
  and_admitted place bits intents.Gone (pl, at, inside, owes, never) x read = absurd (never)

  abbrev Stored : ℕ → ℕ → Intent → ℕ → Type 1
  Stored place new intent x = Good shape v h place x new (act_of shape v (Store place new) intent 0) (working_after shape v (Store place new) intent 0)

  -- the next word of a new object is stored
  pub name_stored : (place new class x : ℕ) → Admits shape v (Store place new) (intents.New class) → Stored place new (intents.New class) x
  name_stored place new class x (pl, at, inside, (n, o, owed, found, next)) = by next
    where
      put : (q : Place) (y : ℕ) → pl ≡ q → new ≡ y → Good shape v h (number (extent_of shape) q) x y (stored_act v q (intents.New class)) (working_stored (number (extent_of shape)) v.working q y (intents.New class)) → Stored place new (intents.New class) x
      put q y is value good =
          let place_is = at ∙ ap (number (extent_of shape)) is in
          subst (λ (t : ℕ × ℕ). Stored t.0 t.1 (intents.New class) x) (λ j. (sym place_is j, sym value j))
          (subst (λ (r : Place). Good shape v h (number (extent_of shape) q) x y (stored_act v r (intents.New class)) (working_stored (number (extent_of shape)) v.working r y (intents.New class))) (sym (place_at-number (extent_of shape) q (subst (IsPlace (extent_of shape)) is inside))) good)

      by : IsNaming shape n o pl new → Stored place new (intents.New class) x
      by (inl (counted, is, value)) = put (places.Count n.slot) (first_word shape o) is value (first_good shape v h b n x o owed counted found)
      by (inr (counted, is, value)) = put (places.Isa n.slot) new is refl (subst (λ y. Good shape v h (number (extent_of shape) (places.Isa n.slot)) x y None (record v.working { owes = None })) (sym value) (name_good shape v h b n x o owed counted found))

  -- a word of a claimed entry is stored, while it is filled, or before it is published
  entry_stored : (pl : Place) (new x e : ℕ) (intent : Intent) → IsWordOfEntry e pl → IsPlace (extent_of shape) pl → v.working.owes ≡ None → HasClaim v e
      → stored_act v pl intent ≡ None → working_stored (number (extent_of shape)) v.working pl new intent ≡ record v.working { stored = record { place = pl; word = new } ∷ but_at (number (extent_of shape)) (number (extent_of shape) pl) v.working.stored }
      → Stored (number (extent_of shape) pl) new intent x
  entry_stored pl new x e intent its inside owes claim none work =
      subst (λ (q : Place). Good shape v h (number (extent_of shape) pl) x new (stored_act v q intent) (working_stored (number (extent_of shape)) v.working q new intent)) (sym (place_at-number (extent_of shape) pl inside))
      (subst (λ (t : Option Act × Working). Good shape v h (number (extent_of shape) pl) x new t.0 t.1) (λ j. (sym none j, sym work j)) (store_good shape v h b e pl its inside owes (claim_now shape v h b e claim) new x))

  pub claim_stored : (place new : ℕ) (of : Origin) (x : ℕ) → Admits shape v (Store place new) (intents.Claim of) → Stored place new (intents.Claim of) x
  claim_stored place new of x (pl, at, inside, (owes, (e, is, claim))) =
      let within = subst (IsPlace (extent_of shape)) is inside in
      subst (λ n. Stored n new (intents.Claim of) x) (sym (at ∙ ap (number (extent_of shape)) is)) (entry_stored (places.Link e) new x e (intents.Claim of) (inl refl) within owes claim refl refl)

  pub publish_stored : (place new : ℕ) (of : Origin) (why : Kind) (x : ℕ) → Admits shape v (Store place new) (intents.Publish of why) → Stored place new (intents.Publish of why) x
  publish_stored place new of why x (pl, at, inside, (owes, (e, its, claim))) = subst (λ n. Stored n new (intents.Publish of why) x) (sym at) (by its)
    where
      intent : Intent
      intent = intents.Publish of why

      here : (q : Place) → IsWordOfEntry e q → pl ≡ q → stored_act v q intent ≡ None → working_stored (number (extent_of shape)) v.working q new intent ≡ record v.working { stored = record { place = q; word = new } ∷ but_at (number (extent_of shape)) (number (extent_of shape) q) v.working.stored }
          → Stored (number (extent_of shape) pl) new intent x
      here q word is none work = subst (λ (r : Place). Stored (number (extent_of shape) r) new intent x) (sym is) (entry_stored q new x e intent word (subst (IsPlace (extent_of shape)) is inside) owes claim none work)

      by : IsWordOfEntry e pl → Stored (number (extent_of shape) pl) new intent x
      by (inl is) = here (places.Link e) (inl refl) is refl refl
      by (inr (inl is)) = here (places.Strong e) (inr (inl refl)) is refl refl
      by (inr (inr (inl is))) = here (places.Unowned e) (inr (inr (inl refl))) is refl refl
      by (inr (inr (inr is))) = here (places.Weak e) (inr (inr (inr refl))) is refl refl
