-- A strong hand of an object that has an entry, and the word that counts there.
use Rattle.std.proofs.Common.{◌≡◌, inl, ℕ, ◌≤◌, false, true, List, [], ◌∷◌, ◌++◌, length, Some, refl, ap, ◌∙◌, subst, arith, eq-eqb}
use Rattle.arc_model.specs.declared.shape.Kind.TheVariants as kinds
use Rattle.arc_model.specs.Shapes.{HeapShape}
use Rattle.arc_model.specs.Heaps.{Holder, Hand, Object}
use Rattle.arc_model.specs.Holders.{is_empty, is_number, has_entry}
use Rattle.arc_model.specs.History.{History, heap_after, share, IsLegal}
use Rattle.arc_model.proofs.Basics.{in-not_empty}
use Rattle.arc_rule.specs.declared.layout.Place.TheVariants.{Strong}
use Rattle.arc_rule.specs.Shown.{Says, ShowsHolders}
use Rattle.arc_view.specs.declared.view.View.{View}
use Rattle.arc_view.specs.Admission.{KnowsEntry}
use Rattle.arc_view.proofs.Held.{hand_listed}
use Rattle.arc_view.proofs.Strongs.{entry_found}
use Rattle.arc_table.specs.Causes.{HasEntry}
use Rattle.arc_table.proofs.HeldHand.{Holding, held_later, hand_later}

some_length : (xs : List Holder) → is_empty xs ≡ false → 1 ≤ length xs
some_length [] some = absurd (cc)
some_length (x ∷ xs) some = omega arith

module _ (shape : HeapShape) (k e : ℕ) (v0 : View) (i : ℕ) (o0 : Object) (entry0 : o0.entry ≡ Some e) where
  abbrev Holds : View → Type 0
  Holds v = Holding shape k v0 i o0 v

  -- after other passes' events the word counts it, and is at most the wide cap
  pub word_later : (v : View) (between : History) → IsLegal shape (between ++ v.seen) → share between v.number ≡ [] → Holds v → (x : ℕ) → Says shape (heap_after (between ++ v.seen)) (Strong e) x → (1 ≤ x) × (x ≤ shape.caps.wide)
  word_later v between legal others g x says =
      let h = between ++ v.seen in
      let held = held_later shape k v0 i o0 v between legal others g in
      let hand = hand_later shape k v0 i o0 v between legal others g in
      let shown = subst (λ m. ShowsHolders shape kinds.Strong m x) (entry_found shape h i e held.q legal held.here (held.entry e (g.entry e entry0))) says in
      let long = some_length held.q.strong (in-not_empty (Hand v.number k) held.q.strong (hand_listed shape h v.number k i kinds.Strong held.q legal hand held.here)) in
      (let is = shown.0 in omega (arith, is, long), shown.1)

  pub knows_entry : (v : View) → Holds v → KnowsEntry v e
  knows_entry v g = (i, g.o, g.here, g.entry e entry0, inl (k, kinds.Strong, g.hand))

  pub its_entry : (v : View) → Holds v → HasEntry v k e
  its_entry v g = (i, g.o, g.hand, g.here, g.entry e entry0)

  pub counted_there : (v : View) (g : Holds v) → has_entry e g.o ≡ true
  counted_there v g = ap (λ m. is_number m e) (g.entry e entry0) ∙ eq-eqb e e refl
