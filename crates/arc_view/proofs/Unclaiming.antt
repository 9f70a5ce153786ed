-- The claim of an entry ends: the other claims stand, and the view keeps private what it did but for the words of that entry.
use Rattle.std.proofs.Common.{◌≡◌, ◌≢◌, ℕ, ◌==◌, ◌&&◌, Bool, true, not, map, filter, sym, ap, ◌∙◌, ne_eqb}
use Rattle.std.specs.List.{list_any}
use Rattle.std.proofs.lemmas.Bool.{eqb-true, and_parts}
use Rattle.arc_model.specs.Shapes.{HeapShape}
use Rattle.arc_model.specs.Heaps.{Claimed, Heap}
use Rattle.arc_model.specs.Holders.{is_claimed_by, claims_it}
use Rattle.arc_model.specs.History.{History, heap_after}
use Rattle.arc_rule.specs.declared.layout.Place.{Place}
use Rattle.arc_rule.specs.declared.layout.Place.TheVariants.{Zero, Global, Count, Isa, Next, Field, Link, Strong, Unowned, Weak, SlotBits, EntryBits}
use Rattle.arc_rule.specs.Places.{extent_of, number}
use Rattle.arc_view.specs.declared.view.Stored.{Stored}
use Rattle.arc_view.specs.declared.view.Working.{Working}
use Rattle.arc_view.specs.declared.view.View.{View}
use Rattle.arc_view.specs.Views.{Each, kept_next, private_words}
use Rattle.arc_view.specs.Holding.{Owns}
use Rattle.arc_view.specs.Rule.{IsMine, WorkFits}
use Rattle.arc_view.specs.Kinds.{but_entry}
use Rattle.arc_view.proofs.Lists.{each_cut, each_join}
use Rattle.arc_view.proofs.Bridge.{Before}
use Rattle.arc_view.proofs.Claims.{other_words, entered_words, any_kept}

-- the claims of other entries
abbrev pub other_claims : ℕ → Claimed → Bool
other_claims e c = not (claims_it e c)

pub other_kept : (e : ℕ) (c : Claimed) (n : ℕ) → n ≢ e → c.entry == n ≡ true → other_claims e c ≡ true
other_kept e c n ne is = ap (λ t. not t) (ne_eqb c.entry e (λ same. ne (sym (eqb-true c.entry n is) ∙ same)))

module _ (shape : HeapShape) (v : View) (h : History) (b : Before shape v h) (e : ℕ) where
  abbrev pub less : Working
  less = record v.working { stored = but_entry (number (extent_of shape)) e v.working.stored }

  pub fewer : (P : Stored → Type 0) → Each P (private_words v.working) → Each P (private_words less)
  fewer P all =
      let t = each_cut P v.working.stored (map kept_next v.working.entered) all in
      each_join P less.stored (map kept_next v.working.entered) (other_words shape e P P (λ k _ _ _ _ m. m) v.working.stored t.0) t.1

  pub less_fits : WorkFits shape v.number h less
  less_fits = record { owing = b.work.owing; reaches = b.work.reaches; private = fewer (IsMine shape (heap_after h) v.number) b.work.private; entered = b.work.entered }

  -- the heap after, where the claim has ended
  module _ (new : Heap) (claims : new.claims ≡ filter (other_claims e) (heap_after h).claims) (next : (s : ℕ) → Owns (heap_after h) v.number (Next s) → Owns new v.number (Next s)) where
    pub claimed_same : (n : ℕ) → n ≢ e → list_any (claims_it n) new.claims ≡ list_any (claims_it n) (heap_after h).claims
    claimed_same n ne = ap (list_any (claims_it n)) claims ∙ any_kept (claims_it n) (other_claims e) (λ c passes. other_kept e c n ne passes) (heap_after h).claims

    claim_stays : (n : ℕ) → n ≢ e → is_claimed_by v.number n (heap_after h) ≡ true → is_claimed_by v.number n new ≡ true
    claim_stays n ne is = ap (list_any (λ (c : Claimed). c.thread == v.number && c.entry == n)) claims
        ∙ (any_kept (λ (c : Claimed). c.thread == v.number && c.entry == n) (other_claims e) (λ c passes. other_kept e c n ne (and_parts (c.thread == v.number) (c.entry == n) passes).1) (heap_after h).claims ∙ is)

    owner_stays : (pl : Place) → pl ≢ Link e → pl ≢ Strong e → pl ≢ Unowned e → pl ≢ Weak e → Owns (heap_after h) v.number pl → Owns new v.number pl
    owner_stays Zero nl ns nu nw o = o
    owner_stays (Global g) nl ns nu nw o = o
    owner_stays (Count s) nl ns nu nw o = o
    owner_stays (Isa s) nl ns nu nw o = o
    owner_stays (Next s) nl ns nu nw o = next s o
    owner_stays (Field s f) nl ns nu nw o = o
    owner_stays (Link n) nl ns nu nw o = claim_stays n (λ is. nl (ap Link is)) o
    owner_stays (Strong n) nl ns nu nw o = claim_stays n (λ is. ns (ap Strong is)) o
    owner_stays (Unowned n) nl ns nu nw o = claim_stays n (λ is. nu (ap Unowned is)) o
    owner_stays (Weak n) nl ns nu nw o = claim_stays n (λ is. nw (ap Weak is)) o
    owner_stays (SlotBits k) nl ns nu nw o = o
    owner_stays (EntryBits k) nl ns nu nw o = o

    pub mine_still : Each (IsMine shape new v.number) (private_words less)
    mine_still =
        let P = IsMine shape (heap_after h) v.number in let Q = IsMine shape new v.number in
        let t = each_cut P v.working.stored (map kept_next v.working.entered) b.work.private in
        each_join Q less.stored (map kept_next v.working.entered) (other_words shape e P Q (λ k nl ns nu nw m. (m.0, owner_stays k.place nl ns nu nw m.1)) v.working.stored t.0)
        (entered_words P Q (λ z m. (m.0, next z.slot m.1)) v.working.entered t.1)
