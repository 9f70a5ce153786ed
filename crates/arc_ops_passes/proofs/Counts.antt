-- Attempts on the count of an object of which a stepper has a reference: what the inline word shows.
use Rattle.std.proofs.Common.{◌≡◌, ◌≢◌, ℕ, ◌≤◌, ◌<◌, ◌++◌, Bool, true, false, List, [], ◌∷◌, length, Option, Some, None, refl, sym, ap, ◌∙◌, subst, arith, eq-eqb}
use Rattle.arc_bits.specs.declared.packing.Inline.{Inline}
use Rattle.arc_bits.specs.declared.packing.Word.TheVariants.{Counts, Slow, Immortal}
use Rattle.arc_bits.specs.Words.{CountsFit, IsWordOf, unpacked}
use Rattle.arc_bits.proofs.Unpacking.{unpacked-packed}
use Rattle.arc_model.specs.Holders.{is_empty, is_in, is_number, list_of}
use Rattle.arc_model.specs.Cells.{is_immortal}
use Rattle.arc_model.specs.declared.shape.Kind.{Kind}
use Rattle.arc_model.specs.declared.shape.Kind.TheVariants.{Strong, Unowned, Weak}
use Rattle.arc_model.specs.Shapes.{HeapShape}
use Rattle.arc_model.specs.Heaps.{Holder, Hand, Global, Field, Strongs, Unowneds, Forever, Object}
use Rattle.arc_model.specs.History.{History, heap_after, IsLegal}
use Rattle.arc_model.specs.Lookup.{spot}
use Rattle.arc_model.specs.WellFormed.{is_own, IsWhole, tally}
use Rattle.arc_model.proofs.Basics.{in-not_empty, some-strong}
use Rattle.arc_model.proofs.Courses.{well_formed}
use Rattle.arc_model.proofs.Others.{others_leave}
use Rattle.arc_model.proofs.Stages.{live-facts}
use Rattle.arc_rule.specs.Places.{extent_of, number}
use Rattle.arc_rule.specs.Shown.{Says, ShowsCounts, IsInline, IsHeader, counts_in}
use Rattle.arc_rule.specs.declared.layout.Place.TheVariants.{Count}
use Rattle.arc_rule.specs.declared.step.Step.TheVariants.{Load}
use Rattle.arc_rule.specs.declared.step.Intent.{Intent}
use Rattle.arc_side.specs.Inline.{IsCountedInline}
use Rattle.arc_ops.specs.declared.stepper.Held.{Held}
use Rattle.arc_view.specs.declared.view.View.{View}
use Rattle.arc_view.specs.Rule.{InShape, IsSized, IsWithin}
use Rattle.arc_view.specs.Holding.{At, heap_of, is_counted, is_counted_at}
use Rattle.arc_view.specs.Kinds.{act_of, event_list, kind_at, object_at}
use Rattle.arc_view.specs.Steps.{Told}
use Rattle.arc_view.proofs.Held.{held_stays}
use Rattle.arc_view.proofs.Strongs.{slot_found}
use Rattle.arc_view.proofs.Within.{each_at}
use Rattle.arc_view_laws.proofs.Moving.{legal_tail}
use Rattle.arc_view_laws.proofs.StrongWords.{one_unpacked}
use Rattle.arc_ops_passes.specs.References.{Leads}
use Rattle.arc_ops_passes.proofs.Cells.{listed}
use Rattle.arc_ops_passes.proofs.Owned.{not_weak}

-- ---- what the word shows

-- The counts of an object with a reference of this kind. One with a strong one isn't deiniting; while it isn't, one unowned reference is there on
-- behalf of the strong ones.
abbrev pub CountsHeld : Kind → Inline → Type 0
CountsHeld Strong c = c.deiniting ≡ false
CountsHeld Unowned c = c.deiniting ≡ false → 2 ≤ c.unowned
CountsHeld Weak c = ⊥

-- what the inline word of an object with a reference of this kind shows: its counts, its entry, or that it is immortal
pub data ShowsHeld (shape : HeapShape) (kind : Kind) (o : Object) (w : ℕ) : Type 0 where
  counts : unpacked w ≡ Some (Counts (counts_in o)) → IsWordOf (Counts (counts_in o)) w → 1 ≤ length o.unowned → CountsHeld kind (counts_in o) → o.entry ≡ None → ShowsHeld shape kind o w
  slow : (e : ℕ) → unpacked w ≡ Some (Slow e) → o.entry ≡ Some e → e < shape.entries → ShowsHeld shape kind o w
  forever : w ≡ 1 → unpacked w ≡ Some Immortal → is_immortal shape o ≡ true → ShowsHeld shape kind o w

some_long : (xs : List Holder) → is_empty xs ≡ false → 1 ≤ length xs
some_long [] e = absurd (cc)
some_long (x ∷ xs) e = omega arith

tally_long : (xs : List Holder) → tally Strongs xs ≡ 1 → 1 ≤ length xs
tally_long [] one = absurd (cc)
tally_long (x ∷ xs) one = omega arith

not_strongs : (z : Holder) → is_own z ≡ true → is_in z (Strongs ∷ []) ≡ true → ⊥
not_strongs (Hand p k) own held = cc
not_strongs (Global g) own held = cc
not_strongs (Field o f) own held = cc
not_strongs Strongs own held = cc
not_strongs Unowneds own held = cc
not_strongs Forever own held = cc

no_other : (z x : Holder) → is_own z ≡ true → tally Strongs (x ∷ []) ≡ 1 → is_in z (x ∷ []) ≡ true → ⊥
no_other z (Hand q n) own one held = cc
no_other z (Global g) own one held = cc
no_other z (Field o f) own one held = cc
no_other z Strongs own one held = not_strongs z own held
no_other z Unowneds own one held = cc
no_other z Forever own one held = cc

-- a hand or a cell beside the holder that stands for the strong references
two_long : (z : Holder) (xs : List Holder) → is_own z ≡ true → is_in z xs ≡ true → tally Strongs xs ≡ 1 → 2 ≤ length xs
two_long z [] own held one = absurd (cc)
two_long z (x ∷ []) own held one = absurd (no_other z x own one held)
two_long z (x ∷ y ∷ xs) own held one = omega arith

lists_held : (shape : HeapShape) (z : Holder) (kind : Kind) (o : Object) → is_own z ≡ true → IsCountedInline kind → IsWhole shape o → is_in z (list_of kind o) ≡ true → (1 ≤ length o.unowned) × CountsHeld kind (counts_in o)
lists_held shape z Strong o own counted whole held = let lives = in-not_empty z o.strong held in (tally_long o.unowned (live-facts o whole (some-strong shape o lives)).strongs, lives)
lists_held shape z Unowned o own counted whole held =
    (some_long o.unowned (in-not_empty z o.unowned held), λ lives. two_long z o.unowned own held (live-facts o whole (some-strong shape o lives)).strongs)
lists_held shape z Weak o own counted whole held = absurd counted

-- the word that a step finds in the slot of an object that a hand or a cell refers to
pub shows_held : (shape : HeapShape) (h : History) (z : Holder) (i s w : ℕ) (kind : Kind) (o : Object) → is_own z ≡ true → IsSized shape → IsLegal shape h → InShape shape h → IsCountedInline kind → spot z (heap_after h) ≡ Some (record { place = i; kind = kind }) → At (heap_after h) i o → o.slot ≡ Some s
    → Says shape (heap_after h) (Count s) w → ShowsHeld shape kind o w
shows_held shape h z i s w kind o own sized legal within counted hand here slot says = by (is_immortal shape o) refl (subst (λ m. ShowsCounts shape m w) (slot_found shape h i s o legal here slot) says)
  where
    lists : (1 ≤ length o.unowned) × CountsHeld kind (counts_in o)
    lists = lists_held shape z kind o own counted ((well_formed shape h legal).whole i o here) (listed shape h z i kind o legal own hand here)

    go : (m : Option ℕ) → o.entry ≡ m → IsHeader shape o m w → ShowsHeld shape kind o w
    go None none (is, strong_cap, unowned_cap) =
        let some = lists.0 in
        let fits : CountsFit (counts_in o) = record {
          strong = (let cap = sized.caps_fit.strong_fits in omega (arith, strong_cap, cap));
          unowned = (let cap = sized.caps_fit.unowned_fits.1 in omega (arith, unowned_cap, cap));
          some = omega (arith, some);
        } in
        counts (ap unpacked is ∙ unpacked-packed (Counts (counts_in o)) fits) (record { packable = fits; packed_is = sym is }) some lists.1 none
    go (Some e) entry is =
        let lt : e < shape.entries = (each_at (IsWithin shape) (heap_after h).objects i o within.within here).1 e entry in
        slow e (ap unpacked is ∙ unpacked-packed (Slow e) (let few = sized.shape_fits.entries_fit.1 in omega (arith, lt, few))) entry lt

    by : (b : Bool) → is_immortal shape o ≡ b → IsInline b shape o w → ShowsHeld shape kind o w
    by true is one = forever one (ap unpacked one ∙ one_unpacked) is
    by false is header = go o.entry refl header

-- the word that a load finds in the slot of a reference
pub loads_held : (shape : HeapShape) (intent : Intent) (v : View) (found : ℕ) (v' : View) (held : Held) → IsSized shape → held.place < shape.slots → Told shape intent (Load (number (extent_of shape) (Count held.place))) v found v' → Leads v held
    → (o : Object) × ShowsHeld shape held.kind o found
loads_held shape intent v found v' held sized lt told (counted, i, o, hand, here, slot) =
    let h = told.between ++ v.seen in
    let own = event_list v.number (act_of shape v (Load (number (extent_of shape) (Count held.place))) intent found) in
    let legal : IsLegal shape h = legal_tail shape own h (subst (IsLegal shape) (ap (λ (u : View). u.seen) told.after) told.legal) in
    let held_now = held_stays shape v.number held.hand i held.kind o v.seen told.between legal told.others hand here in
    let now : spot (Hand v.number held.hand) (heap_after h) ≡ Some (record { place = i; kind = held.kind }) = (others_leave shape v.number v.seen told.between legal told.others).hands held.hand ∙ hand in
    let says : Says shape (heap_after h) (Count held.place) found = (told.read (Count held.place) tt lt refl).says (λ u. u) in
    (held_now.q, shows_held shape h (Hand v.number held.hand) i held.place found held.kind held_now.q refl sized legal told.met_in_shape counted now held_now.here (held_now.slot (not_weak held.kind counted) ∙ slot) says)

-- ---- whose count it is

-- the counts of both lists are in the inline word
pub counted_in : (list : Kind) → IsCountedInline list → (o : Object) (s : ℕ) → o.slot ≡ Some s → is_counted list o (Count s) ≡ true
counted_in Strong counted o s slot = ap (λ m. is_number m s) slot ∙ eq-eqb s s refl
counted_in Unowned counted o s slot = ap (λ m. is_number m s) slot ∙ eq-eqb s s refl
counted_in Weak counted o s slot = absurd counted

-- where a reference's hand stands: in the list of its kind, of an object whose counts are in the inline word of its slot
pub kind_there : (v : View) (held : Held) → Leads v held → kind_at (spot (Hand v.number held.hand) (heap_of v)) ≡ held.kind
kind_there v held (counted, i, o, hand, here, slot) = ap kind_at hand

pub counted_there : (v : View) (held : Held) → Leads v held → (list : Kind) → IsCountedInline list → is_counted_at list (object_at (heap_of v) (spot (Hand v.number held.hand) (heap_of v))) (Count held.place) ≡ true
counted_there v held (counted, i, o, hand, here, slot) list inline =
    ap (λ x. is_counted_at list (object_at (heap_of v) x) (Count held.place)) hand ∙ (ap (λ m. is_counted_at list m (Count held.place)) here ∙ counted_in list inline o held.place slot)

-- ---- counts and the word of an immortal object

pub inline_unpacked : (c : Inline) (n : ℕ) → IsWordOf (Counts c) n → unpacked n ≡ Some (Counts c)
inline_unpacked c n word_is = ap unpacked (sym word_is.packed_is) ∙ unpacked-packed (Counts c) word_is.packable

-- counts aren't the word of an immortal object
pub counts_not_one : (w : ℕ) (c : Inline) → unpacked w ≡ Some (Counts c) → w ≢ 1
counts_not_one w c some one = some_apart (sym some ∙ (ap unpacked one ∙ one_unpacked))
  where
    some_apart : Some (Counts c) ≡ Some Immortal → ⊥
    some_apart e = cc
