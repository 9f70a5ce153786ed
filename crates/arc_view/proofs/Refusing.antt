-- A word shows that no strong reference is left of an object that a view has seen in the slot, be it there still or not.
use Rattle.std.proofs.Common.{◌≡◌, ◌⊎◌, inl, inr, ⊎_elim, ℕ, ◌<◌, true, false, not, [], ◌∷◌, ◌++◌, Some, None, refl, sym, ap, ◌∙◌, subst}
use Rattle.arc_bits.specs.Words.{unpacked}
use Rattle.arc_model.specs.declared.event.Act.{Act}
use Rattle.arc_model.specs.Shapes.{HeapShape}
use Rattle.arc_model.specs.Heaps.{Object, Heap}
use Rattle.arc_model.specs.Holders.{is_empty}
use Rattle.arc_model.specs.Cells.{strong_holders, is_live}
use Rattle.arc_model.specs.History.{History, heap_after, IsLegal}
use Rattle.arc_model.proofs.Basics.{Some-inj}
use Rattle.arc_model.proofs.Steps.{step_after, still_empty}
use Rattle.arc_rule.specs.declared.layout.Place.TheVariants.{Count}
use Rattle.arc_rule.specs.Places.{extent_of, number}
use Rattle.arc_rule.specs.Shown.{Says}
use Rattle.arc_view.specs.declared.view.View.{View}
use Rattle.arc_view.specs.Views.{Excepts}
use Rattle.arc_view.specs.Holding.{At, heap_of}
use Rattle.arc_view.specs.Rule.{IsWithin}
use Rattle.arc_view.specs.Kinds.{is_deiniting}
use Rattle.arc_view.proofs.Words.{word_changes}
use Rattle.arc_view.proofs.Advance.{CellKept, Good}
use Rattle.arc_view.proofs.Bridge.{Before}
use Rattle.arc_view.proofs.Counting.{deiniting_ends}
use Rattle.arc_view.proofs.Plain.{plain_count, plain_good}
use Rattle.arc_view.proofs.Rising.{inline_now}
use Rattle.arc_view.proofs.Turned.{event_of, Turned}
use Rattle.arc_view.proofs.Within.{each_at}

-- an object stays in its slot, or has no strong holder
slot_or_ended : (shape : HeapShape) (i : ℕ) (o : Object) (before after : History) → IsLegal shape (after ++ before) → At (heap_after before) i o
    → (q : Object) × At (heap_after (after ++ before)) i q × ((q.slot ≡ o.slot) ⊎ (is_empty (strong_holders shape q) ≡ true))
slot_or_ended shape i o before [] legal here = (o, here, inl refl)
slot_or_ended shape i o before (e ∷ after) legal here =
    let a = slot_or_ended shape i o before after legal.1 here in
    let s = step_after shape e (after ++ before) legal i a.0 a.1 in
    let still : is_empty (strong_holders shape a.0) ≡ true → is_empty (strong_holders shape s.q) ≡ true = still_empty e.thread e.act i a.0 (heap_after (e ∷ after ++ before)) s in (
      s.q,
      s.here,
      ⊎_elim
          (λ (was : a.0.slot ≡ o.slot). ⊎_elim (λ (same : s.q.slot ≡ a.0.slot). inl (same ∙ was)) (λ left. inr (still left.3)) s.place)
          (λ (ended : is_empty (strong_holders shape a.0) ≡ true). inr (still ended))
          a.2,
    )

module _ (shape : HeapShape) (v : View) (h : History) (b : Before shape v h) where
  -- the inline word of the slot says that the object there is deiniting
  pub ended_now : (i s x : ℕ) (o q : Object) → At (heap_of v) i o → o.slot ≡ Some s → At (heap_after h) i q → Says shape (heap_after h) (Count s) x → is_deiniting (unpacked x) ≡ true → is_live shape q ≡ false
  ended_now i s x o q seen slot here says ends =
      let l = subst (λ l. (r : Object) × At (heap_after l) i r × ((r.slot ≡ o.slot) ⊎ (is_empty (strong_holders shape r) ≡ true))) (sym b.is) (slot_or_ended shape i o v.seen b.rest (subst (IsLegal shape) b.is b.legal) seen) in
      let same : l.0 ≡ q = Some-inj (sym l.1 ∙ here) in
      ⊎_elim
      (λ (stays : l.0.slot ≡ o.slot).
      let within = (each_at (IsWithin shape) (heap_after h).objects i q b.in_shape.within here).1 in
      (deiniting_ends shape q x b.sized within (inline_now shape v h b i q here s x (ap (λ (r : Object). r.slot) (sym same) ∙ (stays ∙ slot)) says) ends).1)
      (λ (ended : is_empty (strong_holders shape l.0) ≡ true). ap (λ (r : Object). not (is_empty (strong_holders shape r))) (sym same) ∙ ap (λ t. not t) ended)
      l.2

  -- an act that changes nothing, shown by the inline word of a slot
  pub unchanged_good : (act : Act) (o : Object) → Turned shape v h act o o → heap_after (event_of v act ∷ h) ≡ heap_after h → v.working.owes ≡ None → (s x : ℕ) → s < shape.slots → Says shape (heap_after h) (Count s) x
      → Good shape v h (number (extent_of shape) (Count s)) x x (Some act) v.working
  unchanged_good act o t same owes s x lt says =
      let old : Heap = heap_after h in
      let new : Heap = heap_after (event_of v act ∷ h) in
      plain_good shape v h b (Count s) (plain_count old s) lt x x (Some act) v.working refl owes refl t.legal t.in_shape
      (λ c there. subst (λ g. CellKept shape old g c) (sym same) (record { says = λ w u. u; owner = refl; refers = refl }))
      t.work
      (λ Others ws shown. word_changes shape (λ q. Excepts v.working q ⊎ Others q) (λ q. Excepts v.working q ⊎ Others q) old new ws (Count s) x lt shown
      (λ _. subst (λ g. Says shape g (Count s) x) (sym same) says) (λ q _ notF e. notF e) (λ q iq _ _ w u. subst (λ g. Says shape g q w) (sym same) u))
