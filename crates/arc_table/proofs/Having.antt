-- What a pass has at most, after a call.
use Rattle.std.proofs.Common.{◌≡◌, ◌⊎◌, inl, inr, ℕ, Bool, true, false, List, [], ◌∷◌, Option, None, Some, refl, sym, ap, ◌∙◌, eq-eqb, ne_eqb}
use Rattle.std.specs.Prelude.{if◌then◌else◌}
use mathlib.Core.Logic.{dite}
use native.Mathlib.Decide.{ℕ_discrete}
use Rattle.arc_model.specs.declared.event.Act.{Act}
use Rattle.arc_model.specs.declared.event.Act.TheVariants as acts
use Rattle.arc_model.specs.declared.event.Origin.TheVariants as origins
use Rattle.arc_model.specs.Heaps.{Hand, Heap}
use Rattle.arc_model.specs.Holders.{is_number, is_claimed_by}
use Rattle.arc_model.specs.Lookup.{Spot, spot, duty_of}
use Rattle.arc_model.specs.Own.{ends_hand, brings_hand, owed_next, claimed_next}
use Rattle.arc_model.proofs.Basics.{true≢false}
use Rattle.arc_view.specs.declared.view.Working.{Working}
use Rattle.arc_view.specs.declared.view.View.{View}
use Rattle.arc_view.specs.Views.{private_words}
use Rattle.arc_view.specs.Holding.{heap_of}
use Rattle.arc_view.specs.Passes.{HoldsNothing}
use Rattle.arc_view_laws.specs.Hands.{Moves}
use Rattle.arc_table.specs.Possessions.{IsNoneOf, HasOnly}

none_if : (b c : Bool) (x y : Option Spot) → (b ≡ true) ⊎ ((c ≡ false) × (y ≡ None)) → (if b then None else if c then x else y) ≡ None
none_if true c x y is = refl
none_if false c x y (inl e) = absurd (true≢false (sym e))
none_if false true x y (inr e) = absurd (true≢false e.0)
none_if false false x y (inr e) = e.1

-- after an act that leaves no duty and claims nothing
moved_on : (a : Act) (old new : List ℕ) (v w : View) → ((i : ℕ) (heap : Heap) → owed_next v.number a i heap ≡ duty_of v.number i heap) → ((e : ℕ) (heap : Heap) → claimed_next v.number a e heap ≡ is_claimed_by v.number e heap)
    → ((k : ℕ) → IsNoneOf k new → (ends_hand k a ≡ true) ⊎ ((is_number (brings_hand a) k ≡ false) × IsNoneOf k old)) → Moves (Some a) v w → HasOnly old v → HasOnly new w
moved_on a old new v w owes claims turns m had = record {
  others = λ k q. m.hands k ∙ none_if (ends_hand k a) (is_number (brings_hand a) k) _ (spot (Hand v.number k) (heap_of v)) (go k (turns k q));
  duties = λ i. m.duties i ∙ (owes i _ ∙ (m.had.duties i ∙ had.duties i));
  claims = λ e. m.claims e ∙ (claims e _ ∙ (m.had.claims e ∙ had.claims e));
}
  where
    go : (k : ℕ) → (ends_hand k a ≡ true) ⊎ ((is_number (brings_hand a) k ≡ false) × IsNoneOf k old) → (ends_hand k a ≡ true) ⊎ ((is_number (brings_hand a) k ≡ false) × (spot (Hand v.number k) (heap_of v) ≡ None))
    go k (inl e) = inl e
    go k (inr e) = inr (e.0, had.others k e.1)

pub made_one : (h class s : ℕ) (v w : View) → Moves (Some (acts.New h class s)) v w → HasOnly [] v → HasOnly (h ∷ []) w
made_one h class s v w m had = moved_on (acts.New h class s) [] (h ∷ []) v w (λ i heap. refl) (λ e heap. refl) (λ k other. inr (ne_eqb h k (λ e. other.0 (sym e)), tt)) m had

pub copied_one : (h j : ℕ) (v w : View) → Moves (Some (acts.Copy (origins.Hand h) j)) v w → HasOnly (h ∷ []) v → HasOnly (j ∷ h ∷ []) w
copied_one h j v w m had = moved_on (acts.Copy (origins.Hand h) j) (h ∷ []) (j ∷ h ∷ []) v w (λ i heap. refl) (λ e heap. refl) (λ k other. inr (ne_eqb j k (λ e. other.0 (sym e)), other.1)) m had

pub dropped_one : (j : ℕ) (hs : List ℕ) (v w : View) → Moves (Some (acts.Drop j false)) v w → HasOnly (j ∷ hs) v → HasOnly hs w
dropped_one j hs v w m had = moved_on (acts.Drop j false) (j ∷ hs) hs v w (λ i heap. refl) (λ e heap. refl) (λ k q. dite (ℕ_discrete k j) (λ e. inl (eq-eqb j k (sym e))) (λ ne. inr (refl, (ne, q)))) m had

pub none_found : (hs : List ℕ) (v w : View) → Moves (Some acts.Full) v w → HasOnly hs v → HasOnly hs w
none_found hs v w m had = moved_on acts.Full hs hs v w (λ i heap. refl) (λ e heap. refl) (λ k q. inr (refl, q)) m had

-- a pass that has nothing, both ways
pub nothing_only : (v : View) → HoldsNothing v → HasOnly [] v
nothing_only v n = record { others = λ k none. n.quiet.hands k; duties = n.quiet.duties; claims = n.quiet.claims }

pub only_nothing : (v w : View) → HoldsNothing v → w.working ≡ v.working → HasOnly [] w → HoldsNothing w
only_nothing v w n same had = record {
  quiet = record { hands = λ k. had.others k tt; duties = had.duties; claims = had.claims };
  is_idle = record {
    owes = ap (λ (x : Working). x.owes) same ∙ n.is_idle.owes;
    access = ap (λ (x : Working). x.access) same ∙ n.is_idle.access;
    private = ap private_words same ∙ n.is_idle.private;
  };
}
