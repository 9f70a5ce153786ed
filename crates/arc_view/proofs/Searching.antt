-- A search for a slot, or for an entry, that found each word of bits full: all are taken, each at some point since the thread's last event.
use Rattle.std.proofs.Common.{◌≡◌, ◌⊎◌, inr, ℕ, zero, suc, ◌/◌, ◌<◌, ◌==◌, Bool, true, false, List, [], ◌∷◌, ◌++◌, length, Some, None, refl, sym, ap, ◌∙◌, arith, lt-ltb, append_assoc, length-append}
use Rattle.std.specs.Prelude.{◌&&◌}
use Rattle.std.proofs.lemmas.Bool.{eqb-true, and_parts}
use Rattle.std.proofs.lemmas.List.{nil_from_length}
use mathlib.Core.Logic.{dite}
use native.Mathlib.Decide.{ℕ_discrete}
use Rattle.arc_model.specs.declared.event.Act.TheVariants as acts
use Rattle.arc_model.specs.declared.event.Event.{Event}
use Rattle.arc_model.specs.declared.event.Origin.{Origin}
use Rattle.arc_model.specs.Shapes.{HeapShape}
use Rattle.arc_model.specs.Heaps.{Heap}
use Rattle.arc_model.specs.Holders.{is_slot_taken, is_entry_taken}
use Rattle.arc_model.specs.Cells.{each_below}
use Rattle.arc_model.specs.Needs.{needs}
use Rattle.arc_model.specs.Others.{SeenAt}
use Rattle.arc_model.specs.History.{History, heap_after, sight, share, ever_since, IsLegal}
use Rattle.arc_model.proofs.Basics.{true≢false}
use Rattle.arc_model.proofs.Tally.{both}
use Rattle.arc_model.proofs.Since.{seen_is_at_point}
use Rattle.arc_rule.specs.declared.step.Step.{Step}
use Rattle.arc_rule.specs.declared.step.Step.TheVariants.{Load, Exchange, Store, Or, And}
use Rattle.arc_rule.specs.declared.step.Intent.TheVariants as intents
use Rattle.arc_rule.specs.declared.layout.Place.TheVariants.{SlotBits, EntryBits}
use Rattle.arc_rule.specs.Bits.{words_of, is_set, full_word, ShowsBits}
use Rattle.arc_rule.specs.Places.{IsPlace, extent_of, number}
use Rattle.arc_rule.specs.Steps.{place_of}
use Rattle.arc_rule.specs.Shown.{Says}
use Rattle.arc_rule.proofs.Bits.{set_in_full, all_where_full}
use Rattle.arc_view.specs.declared.view.Mark.{Mark}
use Rattle.arc_view.specs.declared.view.View.{View}
use Rattle.arc_view.specs.Views.{Each, made_in, Excepts}
use Rattle.arc_view.specs.Rule.{MarkFits}
use Rattle.arc_view.specs.Kinds.{is_try, searched, is_fruitless, when, loaded_act}
use Rattle.arc_view.proofs.Lists.{share-append}
use Rattle.arc_view.proofs.Words.{word_changes}
use Rattle.arc_view.proofs.Advance.{Good}
use Rattle.arc_view.proofs.Bridge.{Before, silent_good}
use Rattle.arc_view.proofs.Classes.{in_shape_stays}
use Rattle.arc_view.proofs.Own.{work_own}
use Rattle.arc_view.proofs.Plain.{plain_bits, plain_entry_bits, plain_good}
use Rattle.arc_view.proofs.Strongs.{none_fails}

-- every number below the bound passes
pub each_below_is : (n : ℕ) (test : ℕ → Bool) → ((t : ℕ) → t < n → test t ≡ true) → each_below n test ≡ true
each_below_is zero test all = refl
each_below_is (suc n) test all = both (test n) (each_below n test) (all n (omega arith)) (each_below_is n test (λ t lt. all t (omega (arith, lt))))

-- a try was at the place, found that all are taken, and had as many events of the thread before it
try_is : (at n k count : ℕ) (m : Mark) → is_try at n k count m ≡ true → (place_of m.step ≡ at) × (m.found ≡ full_word n k) × (m.made ≡ count)
try_is at n k count m e = by m.step e
  where
    loaded : Step → Bool
    loaded (Load place) = place == at
    loaded _ = false

    placed : (st : Step) → loaded st ≡ true → place_of st ≡ at
    placed (Load place) e = eqb-true place at e
    placed (Exchange place old new) e = absurd (true≢false (sym e))
    placed (Store place new) e = absurd (true≢false (sym e))
    placed (Or place bits) e = absurd (true≢false (sym e))
    placed (And place bits) e = absurd (true≢false (sym e))

    by : (st : Step) → (loaded st && m.found == full_word n k && m.made == count) ≡ true → (place_of st ≡ at) × (m.found ≡ full_word n k) × (m.made ≡ count)
    by st e =
        let all = and_parts (loaded st && m.found == full_word n k) (m.made == count) e in
        let first = and_parts (loaded st) (m.found == full_word n k) all.0 in
        (placed st first.0, eqb-true m.found (full_word n k) first.1, eqb-true m.made count all.1)

-- each lower word has its try in the trail
search_mark : (at : ℕ → ℕ) (n k made : ℕ) (ms : List Mark) → searched at n made k ms ≡ true → (t : ℕ) → t < k → (P : Mark → Type 0) → Each P ms → (m : Mark) × P m × (is_try (at t) n t made m ≡ true)
search_mark at n zero made ms e t lt P h = absurd (omega (arith, lt))
search_mark at n (suc k) made [] e t lt P h = absurd (true≢false (sym e))
search_mark at n (suc k) made (m ∷ ms) e t lt P h = let all = and_parts (is_try (at k) n k made m) (searched at n made k ms) e in dite (ℕ_discrete t k)
    (λ is. (m, h.0, ap (λ j. is_try (at j) n j made m) is ∙ all.0))
    (λ no. search_mark at n k made ms all.1 t (omega (arith, lt, no)) P h.1)

-- what the search found of all
record IsFruitless (n k made x : ℕ) (bits : ℕ → ℕ) (trail : List Mark) : Type 0 where
  last : suc k ≡ words_of n
  full : x ≡ full_word n k
  tries : searched bits n made k trail ≡ true

fruitless_is : (bits : ℕ → ℕ) (n k x : ℕ) (v : View) → is_fruitless bits n v k x ≡ true → IsFruitless n k (made_in v.number v.seen) x bits v.trail
fruitless_is bits n k x v is =
    let all = and_parts (suc k == words_of n && x == full_word n k) (searched bits n (made_in v.number v.seen) k v.trail) is in
    let here = and_parts (suc k == words_of n) (x == full_word n k) all.0 in
    record { last = eqb-true (suc k) (words_of n) here.0; full = eqb-true x (full_word n k) here.1; tries = all.1 }

module _ (shape : HeapShape) (v : View) (h : History) (b : Before shape v h) where
  -- Of n things, whose words of bits are at these places, the thing t was taken at a point since.
  module _ (n k x : ℕ) (bits : ℕ → ℕ) (is_taken : ℕ → Heap → Bool) (shows : ShowsBits n k (λ t. is_taken t (heap_after h)) x) (found : IsFruitless n k (made_in v.number v.seen) x bits v.trail)
      (marked : (m : Mark) (f : MarkFits shape v.number v.seen m) (t : ℕ) → t < n → place_of m.step ≡ bits (t / 64) → is_set t m.found ≡ true → is_taken t (heap_after f.earlier) ≡ true) where
    try_shows : (t : ℕ) → t < n → (m : Mark) → MarkFits shape v.number v.seen m → is_try (bits (t / 64)) n (t / 64) (made_in v.number v.seen) m ≡ true → SeenAt v.number (is_taken t) h
    try_shows t inside m fits is =
        let f = try_is (bits (t / 64)) n (t / 64) (made_in v.number v.seen) m is in
        let cut = share-append v.number fits.later fits.earlier in
        let none : share fits.later v.number ≡ [] = nil_from_length (share fits.later v.number) (omega (arith, length-append (share fits.later v.number) (share fits.earlier v.number), ap length cut, ap (λ l. length (share l v.number)) fits.split, fits.made, f.2)) in record {
          later = b.rest ++ fits.later;
          earlier = fits.earlier;
          split = b.is ∙ (ap (λ l. b.rest ++ l) fits.split ∙ sym (append_assoc b.rest fits.later fits.earlier));
          since = share-append v.number b.rest fits.later ∙ (ap (λ l. l ++ share fits.later v.number) b.others ∙ none);
          seen = marked m fits t inside f.0 (ap (is_set t) f.1 ∙ set_in_full n t ∙ lt-ltb t n inside);
        }

    all_seen : (t : ℕ) → t < n → ever_since v.number (is_taken t) h ≡ true
    all_seen t inside = dite (ℕ_discrete (t / 64) k)
        (λ is. (seen_is_at_point v.number (is_taken t) h).1 (record { later = []; earlier = h; split = refl; since = refl; seen = all_where_full n k (λ s. is_taken s (heap_after h)) x shows found.full t is inside }))
        (λ no. let m = search_mark bits n k (made_in v.number v.seen) v.trail found.tries (t / 64) (let last = found.last in omega (arith, inside, last, no)) (MarkFits shape v.number v.seen) b.marks in
        (seen_is_at_point v.number (is_taken t) h).1 (try_shows t inside m.0 m.1 m.2))

  abbrev slot_bits : ℕ → ℕ
  slot_bits j = number (extent_of shape) (SlotBits j)

  abbrev entry_bits : ℕ → ℕ
  entry_bits j = number (extent_of shape) (EntryBits j)

  module _ (k x : ℕ) (owes : v.working.owes ≡ None) where
    abbrev full : Event
    full = record { thread = v.number; act = acts.Full }

    full_good : Says shape (heap_after h) (SlotBits k) x → IsFruitless shape.slots k (made_in v.number v.seen) x slot_bits v.trail → Good shape v h (slot_bits k) x x (Some acts.Full) v.working
    full_good says found =
        let seen = all_seen shape.slots k x slot_bits is_slot_taken says found (λ m f t lt at set. f.slot t lt at set) in
        let legal : IsLegal shape (full ∷ h) = (none_fails (needs shape (sight v.number h) v.number acts.Full) (each_below_is shape.slots (λ t. ever_since v.number (is_slot_taken t) h) seen, tt), b.legal) in
        let inside : IsPlace (extent_of shape) (SlotBits k) = (let last = found.last in omega (arith, last)) in
        plain_good shape v h b (SlotBits k) (plain_bits (heap_after h) k) inside x x (Some acts.Full) v.working refl owes refl legal
        (in_shape_stays shape full h legal refl refl refl b.in_shape)
        (λ c there. record { says = λ w t. t; owner = refl; refers = refl })
        (work_own shape full h v.working legal refl (λ m claim. claim) (inr (λ m e. true≢false (sym e))) owes b.work)
        (λ Others ws shown. word_changes shape (λ q. Excepts v.working q ⊎ Others q) (λ q. Excepts v.working q ⊎ Others q) (heap_after h) (heap_after h) ws (SlotBits k) x inside shown (λ _. says) (λ q _ notF e. notF e) (λ q iq _ _ w t. t))

    abbrev no_entry : Event
    no_entry = record { thread = v.number; act = acts.NoEntry }

    no_entry_good : Says shape (heap_after h) (EntryBits k) x → IsFruitless shape.entries k (made_in v.number v.seen) x entry_bits v.trail → Good shape v h (entry_bits k) x x (Some acts.NoEntry) v.working
    no_entry_good says found =
        let seen = all_seen shape.entries k x entry_bits is_entry_taken says found (λ m f t lt at set. f.entry t lt at set) in
        let legal : IsLegal shape (no_entry ∷ h) = (none_fails (needs shape (sight v.number h) v.number acts.NoEntry) (each_below_is shape.entries (λ t. ever_since v.number (is_entry_taken t) h) seen, tt), b.legal) in
        let inside : IsPlace (extent_of shape) (EntryBits k) = (let last = found.last in omega (arith, last)) in
        plain_good shape v h b (EntryBits k) (plain_entry_bits (heap_after h) k) inside x x (Some acts.NoEntry) v.working refl owes refl legal
        (in_shape_stays shape no_entry h legal refl refl refl b.in_shape)
        (λ c there. record { says = λ w t. t; owner = refl; refers = refl })
        (work_own shape no_entry h v.working legal refl (λ m claim. claim) (inr (λ m e. true≢false (sym e))) owes b.work)
        (λ Others ws shown. word_changes shape (λ q. Excepts v.working q ⊎ Others q) (λ q. Excepts v.working q ⊎ Others q) (heap_after h) (heap_after h) ws (EntryBits k) x inside shown (λ _. says) (λ q _ notF e. notF e) (λ q iq _ _ w t. t))

    -- a load of a search for a slot, and for an entry
    pub search_good : (class : ℕ) → Says shape (heap_after h) (SlotBits k) x → Good shape v h (slot_bits k) x x (loaded_act shape v (SlotBits k) x (intents.New class)) v.working
    search_good class says = by (is_fruitless slot_bits shape.slots v k x) refl
      where
        by : (t : Bool) → is_fruitless slot_bits shape.slots v k x ≡ t → Good shape v h (slot_bits k) x x (when t acts.Full) v.working
        by true is = full_good says (fruitless_is slot_bits shape.slots k x v is)
        by false is = silent_good shape v h b (slot_bits k) x

    pub entry_search_good : (of : Origin) → Says shape (heap_after h) (EntryBits k) x → Good shape v h (entry_bits k) x x (loaded_act shape v (EntryBits k) x (intents.Claim of)) v.working
    entry_search_good of says = by (is_fruitless entry_bits shape.entries v k x) refl
      where
        by : (t : Bool) → is_fruitless entry_bits shape.entries v k x ≡ t → Good shape v h (entry_bits k) x x (when t acts.NoEntry) v.working
        by true is = no_entry_good says (fruitless_is entry_bits shape.entries k x v is)
        by false is = silent_good shape v h b (entry_bits k) x
