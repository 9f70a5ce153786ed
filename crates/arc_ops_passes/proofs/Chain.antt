-- The deinits that wait, as the pass has entered them: each in another slot, so that what is done for one leaves the others.
use Rattle.std.proofs.Common.{◌≡◌, ◌≢◌, ℕ, zero, suc, ◌+◌, ◌*◌, ◌-◌, ◌/◌, ◌%◌, ◌≤◌, ◌==◌, ◌&&◌, ◌||◌, Bool, true, false, cond, List, [], ◌∷◌, Some, None, refl, sym, ap, ◌∙◌, arith, eq-eqb, ne_eqb}
use Rattle.std.specs.Prelude.{slice_get}
use Rattle.arc_model.proofs.Basics.{None≢Some, Some-inj, true≢false}
use Rattle.arc_rule.specs.declared.layout.Place.{Place}
use Rattle.arc_cells.specs.Chains.{Frame, next_word_of, parent_in, parent_of}
use Rattle.arc_view.specs.declared.view.Entered.{Entered}
use Rattle.arc_view.specs.declared.view.View.{View}
use Rattle.arc_view.specs.declared.view.Working.{Working}
use Rattle.arc_view.specs.Views.{within, next_word}
use Rattle.arc_view.specs.Kinds.{goes_on, goes_past, without_slot, without_next, parent_of as back_to}
use Rattle.arc_view.specs.Admission.{HasEntered, IsParent}
use Rattle.arc_ops_passes.specs.Drives.{waits, slots_of, goes_back, chain_entered, deiniting}

-- ---- slots

-- a slot that isn't among these
pub not_first : (s r : ℕ) (ss : List ℕ) → within s (r ∷ ss) ≡ false → r ≢ s
not_first s r ss none same = true≢false (sym (ap (λ b. b || within s ss) (eq-eqb s r (sym same))) ∙ none)

pub not_rest : (s r : ℕ) (ss : List ℕ) → within s (r ∷ ss) ≡ false → within s ss ≡ false
not_rest s r ss none = go (s == r) none
  where
    go : (b : Bool) → (b || within s ss) ≡ false → within s ss ≡ false
    go true e = absurd (true≢false e)
    go false e = e

pub none_within : (s : ℕ) (r : ℕ) (ss : List ℕ) → s ≢ r → within s ss ≡ false → within s (r ∷ ss) ≡ false
none_within s r ss ne none = ap (λ b. b || within s ss) (ne_eqb s r ne) ∙ none

-- ---- what is done for a deinit leaves those that wait for it

slot_differs : (s : ℕ) (p : Frame) (fs : List Frame) → within s (slots_of (waits (p ∷ fs))) ≡ false → (p.slot == s) ≡ false
slot_differs s p fs none = ne_eqb p.slot s (not_first s p.slot (slots_of (waits fs)) none)

pub past_chain : (s f : ℕ) (fs : List Frame) → within s (slots_of (waits fs)) ≡ false → goes_past s f (chain_entered fs) ≡ chain_entered fs
past_chain s f [] none = refl
past_chain s f (p ∷ fs) none =
    let e : Entered = record { slot = p.slot; parent = goes_back fs; next_field = p.field } in
    (λ j. cond (slot_differs s p fs none j && p.field == f) (record e { next_field = suc f }) e ∷ past_chain s f fs (not_rest s p.slot (slots_of (waits fs)) none) j)

pub on_chain : (s f : ℕ) (fs : List Frame) → within s (slots_of (waits fs)) ≡ false → goes_on s f (chain_entered fs) ≡ chain_entered fs
on_chain s f [] none = refl
on_chain s f (p ∷ fs) none =
    let e : Entered = record { slot = p.slot; parent = goes_back fs; next_field = p.field } in
    (λ j. cond (slot_differs s p fs none j) (record e { next_field = f }) e ∷ on_chain s f fs (not_rest s p.slot (slots_of (waits fs)) none) j)

pub without_chain : (s : ℕ) (fs : List Frame) → within s (slots_of (waits fs)) ≡ false → without_slot s (chain_entered fs) ≡ chain_entered fs
without_chain s [] none = refl
without_chain s (p ∷ fs) none =
    let e : Entered = record { slot = p.slot; parent = goes_back fs; next_field = p.field } in
    (λ j. cond (slot_differs s p fs none j) (without_slot s (chain_entered fs)) (e ∷ without_chain s fs (not_rest s p.slot (slots_of (waits fs)) none) j))

-- the deinit of the object in the slot, at this field, before those that wait for it
abbrev pub under_chain : ℕ → ℕ → List Frame → List Entered
under_chain s n fs = record { slot = s; parent = goes_back fs; next_field = n } ∷ chain_entered fs

-- it goes past a field that is nil
pub past_first : (s f : ℕ) (fs : List Frame) → within s (slots_of (waits fs)) ≡ false → goes_past s f (under_chain s f fs) ≡ under_chain s (suc f) fs
past_first s f fs none =
    let e : Entered = record { slot = s; parent = goes_back fs; next_field = f } in
    (λ j. cond (eq-eqb s s refl j && eq-eqb f f refl j) (record e { next_field = suc f }) e ∷ past_chain s f fs none j)

-- and behind one that it took out of
pub on_first : (s n f : ℕ) (fs : List Frame) → within s (slots_of (waits fs)) ≡ false → goes_on s f (under_chain s n fs) ≡ under_chain s f fs
on_first s n f fs none =
    let e : Entered = record { slot = s; parent = goes_back fs; next_field = n } in
    (λ j. cond (eq-eqb s s refl j) (record e { next_field = f }) e ∷ on_chain s f fs none j)

-- and ends
pub without_first : (s n : ℕ) (fs : List Frame) → within s (slots_of (waits fs)) ≡ false → without_slot s (under_chain s n fs) ≡ chain_entered fs
without_first s n fs none =
    let e : Entered = record { slot = s; parent = goes_back fs; next_field = n } in
    (λ j. cond (eq-eqb s s refl j) (without_slot s (chain_entered fs)) (e ∷ without_slot s (chain_entered fs))) ∙ without_chain s fs none

pub ends_first : (at : Place → ℕ) (s n : ℕ) (fs : List Frame) → within s (slots_of (waits fs)) ≡ false → without_next at s (deiniting (under_chain s n fs)) ≡ deiniting (chain_entered fs)
ends_first at s n fs none = ap deiniting (without_first s n fs none)

-- ---- which deinits were entered

pub first_entered : (v : View) (s n : ℕ) (fs : List Frame) → v.working ≡ deiniting (under_chain s n fs) → HasEntered v s
first_entered v s n fs is = (record { slot = s; parent = goes_back fs; next_field = n }, 0, ap (λ (x : Working). slice_get x.entered 0) is, refl)

pub waiting_entered : (v : View) (p : Frame) (fs : List Frame) → v.working ≡ deiniting (chain_entered (p ∷ fs)) → HasEntered v p.slot
waiting_entered v p fs is = first_entered v p.slot p.field fs is

none_in_chain : (s : ℕ) (fs : List Frame) (e : Entered) (j : ℕ) → within s (slots_of (waits fs)) ≡ false → slice_get (chain_entered fs) j ≡ Some e → e.slot ≢ s
none_in_chain s [] e j none at same = None≢Some e at
none_in_chain s (p ∷ fs) e zero none at same = not_first s p.slot (slots_of (waits fs)) none (ap (λ (x : Entered). x.slot) (Some-inj at) ∙ same)
none_in_chain s (p ∷ fs) e (suc j) none at same = none_in_chain s fs e j (not_rest s p.slot (slots_of (waits fs)) none) at same

pub not_entered : (v : View) (s : ℕ) (fs : List Frame) → v.working ≡ deiniting (chain_entered fs) → within s (slots_of (waits fs)) ≡ false → HasEntered v s → ⊥
not_entered v s fs is none (e, j, at, same) = none_in_chain s fs e j none (ap (λ (x : Working). slice_get x.entered j) (sym is) ∙ at) same

-- ---- next words

pub word_back : (fs : List Frame) → next_word_of (parent_of fs) ≡ next_word (goes_back fs)
word_back [] = refl
word_back (p ∷ fs) = refl

-- the fields of those that wait are of the shape
abbrev pub FirstFits : List Frame → Type 0
FirstFits [] = Unit {0}
FirstFits (p ∷ fs) = p.field ≤ 8

pub entered_back : (fs : List Frame) → FirstFits fs → back_to (next_word_of (parent_of fs)) ≡ goes_back fs
entered_back [] fits = refl
entered_back (p ∷ fs) fits =
    let n : 1 + 16 * p.slot + p.field ≡ suc (16 * p.slot + p.field) = omega arith in
    let a : (16 * p.slot + p.field) / 16 ≡ p.slot = omega (arith, fits) in
    let b : (16 * p.slot + p.field) % 16 ≡ p.field = omega (arith, fits) in
    ap back_to n ∙ (λ j. Some (record { slot = a j; field = b j }))

pub read_back : (fs : List Frame) → FirstFits fs → parent_in (next_word (goes_back fs)) ≡ parent_of fs
read_back [] fits = refl
read_back (p ∷ fs) fits =
    let some : (1 + 16 * p.slot + p.field == 0) ≡ false = ne_eqb (1 + 16 * p.slot + p.field) 0 (λ e. omega arith) in
    let a : (1 + 16 * p.slot + p.field - 1) / 16 ≡ p.slot = omega (arith, fits) in
    let b : (1 + 16 * p.slot + p.field - 1) % 16 ≡ p.field = omega (arith, fits) in
    (λ j. cond (some j) None (Some (record { slot = a j; field = b j })))

pub chain_is_parent : (v : View) (fs : List Frame) → v.working ≡ deiniting (chain_entered fs) → FirstFits fs → IsParent v (goes_back fs)
chain_is_parent v [] is fits = tt
chain_is_parent v (p ∷ fs) is fits = (waiting_entered v p fs is, fits)
