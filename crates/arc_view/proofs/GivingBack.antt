-- An entry is given back: its bit is cleared, and no object changes.
use Rattle.std.proofs.Common.{◌≡◌, ◌⊎◌, inl, inr, ⊎_elim, ℕ, ◌/◌, ◌<◌, ◌==◌, ◌||◌, ◌&&◌, Bool, true, false, not, ◌∷◌, Some, None, refl, sym, ap, ◌∙◌, arith, eq-eqb, ne_eqb}
use Rattle.std.specs.Prelude.{is_some, bit_and}
use mathlib.Core.Logic.{dite}
use native.Mathlib.Decide.{ℕ_discrete}
use Rattle.arc_model.specs.declared.event.Act.TheVariants as acts
use Rattle.arc_model.specs.declared.event.Event.{Event}
use Rattle.arc_model.specs.Shapes.{HeapShape}
use Rattle.arc_model.specs.Heaps.{Heap}
use Rattle.arc_model.specs.Holders.{at_entry, is_entry_taken, is_claimed_by, claims_it}
use Rattle.arc_model.specs.Needs.{needs}
use Rattle.arc_model.specs.History.{History, heap_after, sight, IsLegal}
use Rattle.arc_model.proofs.Basics.{true≢false}
use Rattle.arc_rule.specs.declared.layout.Place.TheVariants.{EntryBits}
use Rattle.arc_rule.specs.Bits.{but_bit_of}
use Rattle.arc_rule.specs.Places.{extent_of, number}
use Rattle.arc_rule.specs.Shown.{Says}
use Rattle.arc_rule.proofs.Bits.{shows_and}
use Rattle.arc_view.specs.declared.view.Working.{Working}
use Rattle.arc_view.specs.declared.view.View.{View}
use Rattle.arc_view.specs.Views.{Excepts}
use Rattle.arc_view.proofs.Words.{word_changes}
use Rattle.arc_view.proofs.Advance.{Good}
use Rattle.arc_view.proofs.Bridge.{Before}
use Rattle.arc_view.proofs.Classes.{in_shape_stays}
use Rattle.arc_view.proofs.Own.{work_kept}
use Rattle.arc_view.proofs.Plain.{plain_entry_bits, plain_fewer}
use Rattle.arc_view.proofs.Strongs.{none_fails}
use Rattle.arc_view.proofs.Unclaiming.{other_claims, less, fewer, less_fits, claimed_same, mine_still}
use Rattle.arc_view.proofs.Claims.{claims_say, claims_keep, stored_exceptions, none_kept, claimed_free}

-- The view gives back the entry that it claimed.
module _ (shape : HeapShape) (v : View) (h : History) (b : Before shape v h) (e : ℕ) (lt : e < shape.entries) (owes : v.working.owes ≡ None) (claim : is_claimed_by v.number e (heap_after h) ≡ true) where
  abbrev heap : Heap
  heap = heap_after h

  abbrev event : Event
  event = record { thread = v.number; act = acts.Back e }

  abbrev new : Heap
  new = heap_after (event ∷ h)

  abbrev work : Working
  work = less shape v h b e

  legal : IsLegal shape (event ∷ h)
  legal = (none_fails (needs shape (sight v.number h) v.number (acts.Back e)) (claim, tt), b.legal)

  taken_but : (x : ℕ) → is_entry_taken x new ≡ is_entry_taken x heap && not (x == e)
  taken_but x = dite (ℕ_discrete x e)
      (λ is. ap (λ n. is_entry_taken n new) is
      ∙ (ap (λ t. t || is_some (at_entry e heap)) (none_kept (claims_it e) (other_claims e) (λ c passes. ap (λ t. not t) passes) heap.claims) ∙ ap is_some (claimed_free shape h v.number e b.legal claim))
      ∙ sym (ap (λ t. is_entry_taken x heap && not t) (eq-eqb x e is) ∙ and_false (is_entry_taken x heap)))
      (λ ne. ap (λ t. t || is_some (at_entry x heap)) (claimed_same shape v h b e new refl (λ t o. o) x ne) ∙ sym (ap (λ t. is_entry_taken x heap && not t) (ne_eqb x e ne) ∙ and_true (is_entry_taken x heap)))
    where
      and_false : (t : Bool) → t && false ≡ false
      and_false true = refl
      and_false false = refl

      and_true : (t : Bool) → t && true ≡ t
      and_true true = refl
      and_true false = refl

  pub back_good : (x : ℕ) → Says shape heap (EntryBits (e / 64)) x → Good shape v h (number (extent_of shape) (EntryBits (e / 64))) x (bit_and x (but_bit_of e)) (Some (acts.Back e)) work
  back_good x says = plain_fewer shape v h b (EntryBits (e / 64)) (plain_entry_bits heap (e / 64)) (omega (arith, lt)) x (bit_and x (but_bit_of e)) (Some (acts.Back e)) work refl owes (fewer shape v h b e) legal
      (in_shape_stays shape event h legal refl refl refl b.in_shape)
      (λ c there. claims_keep shape heap new.claims c)
      (work_kept shape event h work legal refl (inr (λ m ends. true≢false (sym ends))) owes (mine_still shape v h b e new refl (λ t o. o)) (less_fits shape v h b e))
      (λ Others ws shown. word_changes shape (λ q. Excepts v.working q ⊎ Others q) (λ q. Excepts work q ⊎ Others q) heap new ws (EntryBits (e / 64)) (bit_and x (but_bit_of e)) (omega (arith, lt)) shown
      (λ _. shows_and shape.entries (e / 64) (λ t. is_entry_taken t heap) (λ t. is_entry_taken t new) x e refl taken_but says)
      (λ q ne notF. ⊎_elim (λ a. notF (inl (stored_exceptions v.working work.stored q a))) (λ a. notF (inr a)))
      (λ q iq ne _ w t. claims_say shape heap new.claims e (λ y apart. taken_but y ∙ ap (λ c. is_entry_taken y heap && not c) (ne_eqb y e apart) ∙ and_true (is_entry_taken y heap)) q ne w t))
    where
      and_true : (t : Bool) → t && true ≡ t
      and_true true = refl
      and_true false = refl
