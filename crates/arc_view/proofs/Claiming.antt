-- An entry is claimed: its bit is set, and no object changes.
use Rattle.std.proofs.Common.{◌≡◌, ◌⊎◌, inr, ℕ, ◌/◌, ◌<◌, ◌≤◌, ◌==◌, ◌||◌, ◌&&◌, Bool, true, false, not, [], ◌∷◌, Some, None, refl, sym, ap, ◌∙◌, subst, arith, eq-eqb, ne_eqb}
use Rattle.std.specs.Prelude.{is_some, slice_get, bit_and, bit_or, if◌then◌else◌}
use Rattle.std.specs.List.{list_any}
use Rattle.std.proofs.lemmas.List.Folds.{list_any-append}
use mathlib.Core.Logic.{dite}
use native.Mathlib.Decide.{ℕ_discrete}
use Rattle.arc_model.specs.declared.event.Act.TheVariants as acts
use Rattle.arc_model.specs.declared.event.Event.{Event}
use Rattle.arc_model.specs.declared.event.Origin.{Origin}
use Rattle.arc_model.specs.Shapes.{HeapShape}
use Rattle.arc_model.specs.Heaps.{Claimed, Object, Heap}
use Rattle.arc_model.specs.Heaps as holders
use Rattle.arc_model.specs.Holders.{at_entry, is_entry_taken, is_claimed_by, claims_it}
use Rattle.arc_model.specs.Cells.{field_shape}
use Rattle.arc_model.specs.Needs.{needs}
use Rattle.arc_model.specs.History.{History, heap_after, sight, IsLegal}
use Rattle.arc_model.specs.Lookup.{spot}
use Rattle.arc_model.proofs.Basics.{true≢false}
use Rattle.arc_rule.specs.declared.step.Intent.TheVariants as intents
use Rattle.arc_rule.specs.declared.layout.Place.TheVariants.{EntryBits}
use Rattle.arc_rule.specs.Bits.{bit_of, is_set}
use Rattle.arc_rule.specs.Places.{extent_of, number}
use Rattle.arc_rule.specs.Shown.{Says}
use Rattle.arc_rule.proofs.Bits.{bit_shown, shows_or, or_again, clear_at, thing_of_bit}
use Rattle.arc_view.specs.declared.view.View.{View}
use Rattle.arc_view.specs.Views.{Excepts}
use Rattle.arc_view.specs.Rule.{IsClaimWithin, InShape}
use Rattle.arc_view.specs.Kinds.{or_act}
use Rattle.arc_view.proofs.Words.{word_changes}
use Rattle.arc_view.proofs.Within.{each_end}
use Rattle.arc_view.proofs.Advance.{Good}
use Rattle.arc_view.proofs.Bridge.{Before, silent_good}
use Rattle.arc_view.proofs.Classes.{news_none}
use Rattle.arc_view.proofs.Own.{work_own}
use Rattle.arc_view.proofs.Plain.{plain_entry_bits, plain_good}
use Rattle.arc_view.proofs.Strongs.{none_fails}
use Rattle.arc_view.proofs.Claims.{claims_say, claims_keep, claims_fit}

-- a claim more
module _ (shape : HeapShape) (v : View) (h : History) (b : Before shape v h) (e : ℕ) (lt : e < shape.entries) (owes : v.working.owes ≡ None) where
  abbrev heap : Heap
  heap = heap_after h

  abbrev mine : Claimed
  mine = record { thread = v.number; entry = e }

  abbrev event : Event
  event = record { thread = v.number; act = acts.Claim e }

  abbrev new : Heap
  new = heap_after (event ∷ h)

  taken_or : (x : ℕ) → is_entry_taken x new ≡ is_entry_taken x heap || x == e
  taken_or x = ap (λ c. c || is_some (at_entry x heap)) (list_any-append (claims_it x) heap.claims (mine ∷ [])) ∙ moved (list_any (claims_it x) heap.claims) (e == x) (is_some (at_entry x heap)) ∙ ap (λ c. is_entry_taken x heap || c) (turned x)
    where
      moved : (a c d : Bool) → (a || (c || false)) || d ≡ (a || d) || c
      moved true true true = refl
      moved true true false = refl
      moved true false true = refl
      moved true false false = refl
      moved false true true = refl
      moved false true false = refl
      moved false false true = refl
      moved false false false = refl

      turned : (x : ℕ) → e == x ≡ x == e
      turned x = dite (ℕ_discrete x e) (λ is. eq-eqb e x (sym is) ∙ sym (eq-eqb x e is)) (λ ne. ne_eqb e x (λ is. ne (sym is)) ∙ sym (ne_eqb x e ne))

  or_none : (c : Bool) → c || false ≡ c
  or_none true = refl
  or_none false = refl

  module _ (free : is_entry_taken e heap ≡ false) where
    legal : IsLegal shape (event ∷ h)
    legal = (none_fails (needs shape (sight v.number h) v.number (acts.Claim e)) (ap (λ c. not c) free, tt), b.legal)

    claim_in_shape : InShape shape (event ∷ h)
    claim_in_shape = record {
      within = b.in_shape.within;
      claims = each_end (IsClaimWithin shape) heap.claims mine b.in_shape.claims lt;
      classes = λ i o at. b.in_shape.classes i o at;
      fields = λ i o f at. claims_fit shape heap new.claims (spot (holders.Field o.id f) heap) (field_shape shape f (Some o)) (b.in_shape.fields i o f at);
      globals = λ g. claims_fit shape heap new.claims (spot (holders.Global g) heap) (slice_get shape.globals g) (b.in_shape.globals g);
      makers = λ p high. news_none p event h refl ∙ b.in_shape.makers p high;
      made = λ p. subst (λ m. m ≤ 100000) (sym (news_none p event h refl)) (b.in_shape.made p);
    }

    stays_claimed : (n : ℕ) → is_claimed_by v.number n heap ≡ true → is_claimed_by v.number n new ≡ true
    stays_claimed n claim = list_any-append (λ (c : Claimed). c.thread == v.number && c.entry == n) heap.claims (mine ∷ []) ∙ ap (λ c. c || (v.number == v.number && e == n || false)) claim

    claimed_good : (x : ℕ) → Says shape heap (EntryBits (e / 64)) x → Good shape v h (number (extent_of shape) (EntryBits (e / 64))) x (bit_or x (bit_of e)) (Some (acts.Claim e)) v.working
    claimed_good x says = plain_good shape v h b (EntryBits (e / 64)) (plain_entry_bits heap (e / 64)) (omega (arith, lt)) x (bit_or x (bit_of e)) (Some (acts.Claim e)) v.working refl owes refl legal claim_in_shape
        (λ c there. claims_keep shape heap new.claims c)
        (work_own shape event h v.working legal refl stays_claimed (inr (λ m ends. true≢false (sym ends))) owes b.work)
        (λ Others ws shown. word_changes shape (λ q. Excepts v.working q ⊎ Others q) (λ q. Excepts v.working q ⊎ Others q) heap new ws (EntryBits (e / 64)) (bit_or x (bit_of e)) (omega (arith, lt)) shown
        (λ _. shows_or shape.entries (e / 64) (λ t. is_entry_taken t heap) (λ t. is_entry_taken t new) x e refl lt taken_or says)
        (λ q ne notF. notF)
        (λ q iq ne _ w t. claims_say shape heap new.claims e (λ y apart. taken_or y ∙ ap (λ c. is_entry_taken y heap || c) (ne_eqb y e apart) ∙ or_none (is_entry_taken y heap)) q ne w t))

  -- an Or with the bit of the entry: it claims the entry where it finds the bit clear
  pub claim_good : (of : Origin) (x : ℕ) → Says shape heap (EntryBits (e / 64)) x → Good shape v h (number (extent_of shape) (EntryBits (e / 64))) x (bit_or x (bit_of e)) (if bit_and x (bit_of e) == 0 then or_act v (EntryBits (e / 64)) (bit_of e) (intents.Claim of) else None) v.working
  claim_good of x says = by (bit_and x (bit_of e) == 0) refl
    where
      place : ℕ
      place = number (extent_of shape) (EntryBits (e / 64))

      shown : is_set e x ≡ is_entry_taken e heap
      shown = bit_shown shape.entries (e / 64) (λ t. is_entry_taken t heap) x says e refl lt

      opposite : (c d : Bool) → not c ≡ d → c ≡ not d
      opposite true d is = ap (λ t. not t) is
      opposite false d is = ap (λ t. not t) is

      by : (t : Bool) → bit_and x (bit_of e) == 0 ≡ t → Good shape v h place x (bit_or x (bit_of e)) (if t then or_act v (EntryBits (e / 64)) (bit_of e) (intents.Claim of) else None) v.working
      by true clear = subst (λ t. Good shape v h place x (bit_or x (bit_of e)) (Some (acts.Claim t)) v.working) (sym (thing_of_bit e)) (claimed_good (sym shown ∙ opposite (is_set e x) true (sym (clear_at e x) ∙ clear)) x says)
      by false set = subst (λ y. Good shape v h place x y None v.working) (sym (or_again e x says.below (opposite (is_set e x) false (sym (clear_at e x) ∙ set)))) (silent_good shape v h b place x)
