-- What claims alone change, and which words a view keeps private of its entries.
use Rattle.std.proofs.Common.{◌≡◌, ◌≢◌, ℕ, ◌/◌, ◌≤◌, ◌==◌, ◌||◌, ◌&&◌, Bool, true, false, cond, List, [], ◌∷◌, map, filter, Option, Some, None, refl, sym, ap, ◌∙◌, arith}
use Rattle.std.specs.List.{list_any}
use Rattle.std.proofs.lemmas.Bool.{eqb-true}
use Rattle.arc_model.specs.declared.event.CellName.{CellName}
use Rattle.arc_model.specs.declared.event.CellName.TheVariants as cells
use Rattle.arc_model.specs.declared.shape.RefShape.{RefShape}
use Rattle.arc_model.specs.Shapes.{HeapShape}
use Rattle.arc_model.specs.Heaps.{Claimed, Object, Heap}
use Rattle.arc_model.specs.Holders.{has_entry, at_slot, at_entry, is_entry_taken, is_claimed_by}
use Rattle.arc_model.specs.Cells.{has_field}
use Rattle.arc_model.specs.History.{History, heap_after, IsLegal}
use Rattle.arc_model.specs.Lookup.{Spot}
use Rattle.arc_model.proofs.Basics.{true≢false}
use Rattle.arc_model.specs.WellFormed.{more, claimed_times}
use Rattle.arc_model.proofs.Courses.{claim-counts}
use Rattle.arc_model.proofs.Turns.{put-found, place-put}
use Rattle.arc_model.proofs.Builds.{find-passes}
use Rattle.arc_view.proofs.Put.{is_number_some}
use Rattle.arc_rule.specs.declared.layout.Place.{Place}
use Rattle.arc_rule.specs.declared.layout.Place.TheVariants.{Zero, Global, Count, Isa, Next, Field, Link, Strong, Unowned, Weak, SlotBits, EntryBits}
use Rattle.arc_rule.specs.Places.{extent_of, number}
use Rattle.arc_rule.specs.Shown.{Says, field_word, field_word_if}
use Rattle.arc_rule.proofs.Bits.{shows_same}
use Rattle.arc_view.specs.declared.view.Entered.{Entered}
use Rattle.arc_view.specs.declared.view.Stored.{Stored}
use Rattle.arc_view.specs.declared.view.Working.{Working}
use Rattle.arc_view.specs.Views.{Each, kept_next, Excepts}
use Rattle.arc_view.specs.Rule.{FitsCell}
use Rattle.arc_view.specs.Kinds.{but_entry}
use Rattle.arc_view.proofs.Advance.{CellKept}
use Rattle.arc_view.proofs.Strongs.{entry_unclaimed}
use Rattle.arc_view.proofs.Entering.{but_kept}

-- What is said where claims alone change.
module _ (shape : HeapShape) (heap : Heap) (cs : List Claimed) where
  abbrev pub with_claims : Heap
  with_claims = record heap { claims = cs }

  field_if : (t : Bool) (f : ℕ) (o : Object) → field_word_if t shape with_claims f o ≡ field_word_if t shape heap f o
  field_if true f o = refl
  field_if false f o = refl

  field_same : (f : ℕ) (m : Option Object) → field_word shape with_claims f m ≡ field_word shape heap f m
  field_same f None = refl
  field_same f (Some o) = field_if (has_field shape f o) f o

  pub claims_say : (e : ℕ) → ((x : ℕ) → x ≢ e → is_entry_taken x with_claims ≡ is_entry_taken x heap) → (pl : Place) → pl ≢ EntryBits (e / 64) → (w : ℕ) → Says shape heap pl w → Says shape with_claims pl w
  claims_say e same Zero ne w says = says
  claims_say e same (Global g) ne w says = says
  claims_say e same (Count s) ne w says = says
  claims_say e same (Isa s) ne w says = says
  claims_say e same (Next s) ne w says = tt
  claims_say e same (Field s f) ne w says = says ∙ sym (field_same f (at_slot s heap))
  claims_say e same (Link n) ne w says = says
  claims_say e same (Strong n) ne w says = says
  claims_say e same (Unowned n) ne w says = says
  claims_say e same (Weak n) ne w says = says
  claims_say e same (SlotBits k) ne w says = says
  claims_say e same (EntryBits k) ne w says =
      shows_same shape.entries k (λ x. is_entry_taken x heap) (λ x. is_entry_taken x with_claims) w (λ x at _. same x (λ is. ne (ap EntryBits (sym at ∙ ap (λ n. n / 64) is)))) says

  pub claims_keep : (c : CellName) → CellKept shape heap with_claims c
  claims_keep (cells.Field s f) = record { says = λ w says. says ∙ sym (field_same f (at_slot s heap)); owner = refl; refers = refl }
  claims_keep (cells.Global g) = record { says = λ w says. says; owner = refl; refers = refl }

  pub claims_fit : (at : Option Spot) (named : Option RefShape) → FitsCell heap at named → FitsCell with_claims at named
  claims_fit None named f = tt
  claims_fit (Some at) named f = f

-- an entry is claimed by one thread
pub one_claimer : (p q e : ℕ) (cs : List Claimed) → claimed_times e cs ≤ 1 → list_any (λ (c : Claimed). c.thread == p && c.entry == e) cs ≡ true → list_any (λ (c : Claimed). c.thread == q && c.entry == e) cs ≡ true → q ≡ p
one_claimer p q e [] once mine its = absurd (true≢false (sym mine))
one_claimer p q e (c ∷ cs) once mine its = go (c.entry == e) (c.thread == p) (c.thread == q) refl refl once mine its (one_claimer p q e cs)
  where
    go : (t a d : Bool) → c.thread == p ≡ a → c.thread == q ≡ d → more t (claimed_times e cs) ≤ 1 → (a && t) || list_any (λ (c : Claimed). c.thread == p && c.entry == e) cs ≡ true → (d && t) || list_any (λ (c : Claimed). c.thread == q && c.entry == e) cs ≡ true
        → (claimed_times e cs ≤ 1 → list_any (λ (c : Claimed). c.thread == p && c.entry == e) cs ≡ true → list_any (λ (c : Claimed). c.thread == q && c.entry == e) cs ≡ true → q ≡ p) → q ≡ p
    go true true true by_p by_q once mine its ih = sym (eqb-true c.thread q by_q) ∙ eqb-true c.thread p by_p
    go true false d by_p by_q once mine its ih = let some = claim-counts p e cs mine in absurd (omega (arith, some, once))
    go true true false by_p by_q once mine its ih = let some = claim-counts q e cs its in absurd (omega (arith, some, once))
    go false true true by_p by_q once mine its ih = ih once mine its
    go false true false by_p by_q once mine its ih = ih once mine its
    go false false true by_p by_q once mine its ih = ih once mine its
    go false false false by_p by_q once mine its ih = ih once mine its

-- the words that are kept private of other entries
pub other_words : (shape : HeapShape) (e : ℕ) (P Q : Stored → Type 0)
    → ((k : Stored) → k.place ≢ Link e → k.place ≢ Strong e → k.place ≢ Unowned e → k.place ≢ Weak e → P k → Q k) → (ks : List Stored) → Each P ks → Each Q (but_entry (number (extent_of shape)) e ks)
other_words shape e P Q keep ks h =
    but_kept at (at (Link e)) OfLink Q (λ k ne m. keep k (apart k ne) m.0 m.1.0 m.1.1.0 m.1.1.1) _
    (but_kept at (at (Strong e)) OfStrong OfLink (λ k ne m. (apart k ne, m)) _
    (but_kept at (at (Unowned e)) OfUnowned OfStrong (λ k ne m. (apart k ne, m)) _
    (but_kept at (at (Weak e)) P OfUnowned (λ k ne m. (apart k ne, m)) ks h)))
  where
    at : Place → ℕ
    at = number (extent_of shape)

    OfUnowned : Stored → Type 0
    OfUnowned k = (k.place ≢ Weak e) × P k

    OfStrong : Stored → Type 0
    OfStrong k = (k.place ≢ Unowned e) × OfUnowned k

    OfLink : Stored → Type 0
    OfLink k = (k.place ≢ Strong e) × OfStrong k

    apart : {pl : Place} (k : Stored) → at k.place ≢ at pl → k.place ≢ pl
    apart k ne is = ne (ap at is)

-- and of the deinits that were entered
pub entered_words : (P Q : Stored → Type 0) → ((z : Entered) → P (kept_next z) → Q (kept_next z)) → (es : List Entered) → Each P (map kept_next es) → Each Q (map kept_next es)
entered_words P Q keep [] h = tt
entered_words P Q keep (z ∷ es) h = (keep z h.0, entered_words P Q keep es h.1)

-- a view makes the same exceptions whatever words it keeps private
pub stored_exceptions : (w : Working) (ks : List Stored) (pl : Place) → Excepts w pl → Excepts (record w { stored = ks }) pl
stored_exceptions w ks Zero x = x
stored_exceptions w ks (Global g) x = x
stored_exceptions w ks (Count s) x = x
stored_exceptions w ks (Isa s) x = x
stored_exceptions w ks (Next s) x = x
stored_exceptions w ks (Field s f) x = x
stored_exceptions w ks (Link n) x = x
stored_exceptions w ks (Strong n) x = x
stored_exceptions w ks (Unowned n) x = x
stored_exceptions w ks (Weak n) x = x
stored_exceptions w ks (SlotBits k) x = x
stored_exceptions w ks (EntryBits k) x = x

-- a filter that keeps, or drops, all that pass
pub any_kept : (test keep : Claimed → Bool) → ((c : Claimed) → test c ≡ true → keep c ≡ true) → (cs : List Claimed) → list_any test (filter keep cs) ≡ list_any test cs
any_kept test keep all [] = refl
any_kept test keep all (c ∷ cs) = go (any_kept test keep all cs) (keep c) (test c) refl refl
  where
    go : list_any test (filter keep cs) ≡ list_any test cs → (k t : Bool) → keep c ≡ k → test c ≡ t → list_any test (cond k (c ∷ filter keep cs) (filter keep cs)) ≡ test c || list_any test cs
    go ih true t kept passes = ap (λ r. test c || r) (ih)
    go ih false true kept passes = absurd (true≢false (sym (all c passes) ∙ kept))
    go ih false false kept passes = ih ∙ ap (λ r. r || list_any test cs) (sym passes)

pub none_kept : (test keep : Claimed → Bool) → ((c : Claimed) → test c ≡ true → keep c ≡ false) → (cs : List Claimed) → list_any test (filter keep cs) ≡ false
none_kept test keep all [] = refl
none_kept test keep all (c ∷ cs) = go (none_kept test keep all cs) (keep c) (test c) refl refl
  where
    go : list_any test (filter keep cs) ≡ false → (k t : Bool) → keep c ≡ k → test c ≡ t → list_any test (cond k (c ∷ filter keep cs) (filter keep cs)) ≡ false
    go ih true true kept passes = absurd (true≢false (sym kept ∙ all c passes))
    go ih true false kept passes = ap (λ r. r || list_any test (filter keep cs)) passes ∙ ih
    go ih false t kept passes = ih

-- a claimed entry is of no object
pub claimed_free : (shape : HeapShape) (h : History) (p e : ℕ) → IsLegal shape h → is_claimed_by p e (heap_after h) ≡ true → at_entry e (heap_after h) ≡ None
claimed_free shape h p e legal claim = go (at_entry e (heap_after h)) refl
  where
    go : (m : Option Object) → at_entry e (heap_after h) ≡ m → m ≡ None
    go None is = refl
    go (Some o) is =
        let t = place-put (heap_after h).objects _ o o (put-found (has_entry e) (λ r. r) (heap_after h).objects o is) in
        absurd (entry_unclaimed shape h t.0 e p o legal t.1 (is_number_some o.entry e (find-passes (has_entry e) (heap_after h).objects o is)) claim)
