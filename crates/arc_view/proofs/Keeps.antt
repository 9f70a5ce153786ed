-- The shared laws: a step of one pass keeps the rule for every other, whatever its kind.
use Rattle.arc_view.specs.Kinds.{event_list}
use Rattle.std.proofs.Common.{◌≡◌, inl, inr, ⊎_elim, ℕ, ◌≤◌, true, false, List, [], ◌∷◌, ◌++◌, Option, Some, None, sym, ap, ◌∙◌, subst, append_assoc, le_trans}
use Rattle.arc_model.specs.declared.event.Act.{Act}
use Rattle.arc_model.specs.declared.event.CellName.{CellName}
use Rattle.arc_model.specs.declared.event.CellName.TheVariants as cells
use Rattle.arc_model.specs.declared.event.Event.{Event}
use Rattle.arc_model.specs.declared.shape.Kind.TheVariants as kinds
use Rattle.arc_model.specs.Shapes.{HeapShape}
use Rattle.arc_model.specs.Holders.{is_number}
use Rattle.arc_model.specs.Cells.{cell, has_field}
use Rattle.arc_model.specs.History.{History, heap_after, share, IsLegal}
use Rattle.arc_model.specs.Lookup.{spot}
use Rattle.arc_model.proofs.Others.{others_leave}
use Rattle.arc_rule.specs.declared.layout.Place.{Place}
use Rattle.arc_rule.specs.declared.layout.Place.TheVariants.{Zero, Global, Count, Isa, Next, Field, Link, Strong, Unowned, Weak, SlotBits, EntryBits}
use Rattle.arc_view.specs.declared.view.Role.TheVariants.{Pass}
use Rattle.arc_view.specs.declared.view.Mark.{Mark}
use Rattle.arc_view.specs.declared.view.Old.{Old}
use Rattle.arc_view.specs.declared.view.View.{View}
use Rattle.arc_view.specs.Views.{StartsWith, within}
use Rattle.arc_view.specs.Holding.{CanReach, Owns}
use Rattle.arc_view.specs.Rule.{MarkFits, OldFits, IsOwn, Fits, CellStays}
use Rattle.arc_view.proofs.Lists.{each_more, starts_more, share_more, starts_self, starts_both, starts_trans}
use Rattle.arc_view.proofs.Held.{held_stays, dying_stays}

pub legal_left : (shape : HeapShape) (after before : History) → IsLegal shape (after ++ before) → IsLegal shape before
legal_left shape [] before legal = legal
legal_left shape (e ∷ after) before legal = legal_left shape after before legal.1

pub mark_more : (shape : HeapShape) (p : ℕ) (seen more : History) (m : Mark) → MarkFits shape p seen m → MarkFits shape p (more ++ seen) m
mark_more shape p seen more m f = record {
  later = more ++ f.later;
  earlier = f.earlier;
  split = ap (λ l. more ++ l) f.split ∙ sym (append_assoc more f.later f.earlier);
  at = f.at;
  made = f.made;
  slot = f.slot;
  entry = f.entry;
}

old_more : (h more : History) (F G : ℕ → Type 0) → ((p : ℕ) → F p → G p × (share more p ≡ [])) → (o : Old) → OldFits h F o → OldFits (more ++ h) G o
old_more h more F G keep o f = record {
  begins = starts_more h more o.seen f.begins;
  whole = λ p w. let g = f.whole p w in let k = keep p g.1 in (share_more p h more k.1 ∙ g.0, k.0);
}

-- what holds of a view stays where others make events
pub fits_carry : (shape : HeapShape) (h more : History) (splits splits' : ℕ) (taken taken' : List ℕ) (v : View)
    → (v.role ≡ Pass → share more v.number ≡ []) → splits ≤ splits' → (v.role ≡ Pass → within v.number taken' ≡ false)
    → ((p : ℕ) → within p taken ≡ true → (within p taken' ≡ true) × (share more p ≡ []))
    → (v.role ≡ Pass → v.number ≡ 0 → (splits ≡ splits') × (taken ≡ taken'))
    → Fits shape h splits taken v → Fits shape (more ++ h) splits' taken' v
fits_carry shape h more splits splits' taken taken' v none le fresh gone same f = record {
  begins = starts_more h more v.seen f.begins;
  olds = each_more (OldFits h (IsOwn v taken)) (OldFits (more ++ h) (IsOwn v taken')) (old_more h more (IsOwn v taken) (IsOwn v taken') (λ p. ⊎_elim (λ (own : (v.role ≡ Pass) × (p ≡ v.number)). (inl own, ap (λ q. share more q) own.1 ∙ none own.0)) (λ w. let g = gone p w in (inr g.0, g.1)))) v.olds f.olds;
  own = λ is. share_more v.number h more (none is) ∙ f.own is;
  marks = f.marks;
  numbered = λ is. (le_trans (f.numbered is).0 le, fresh is);
  first = λ is zero_is. let s = same is zero_is in let g = f.first is zero_is in (g.0 ∙ s.0, g.1 ∙ s.1);
  kept = λ is p w. let g = f.kept is p w in let k = gone p g.0 in (k.0, share_more p h more k.1 ∙ g.1);
  work = f.work;
  working = f.working;
}

-- who alone writes a word goes on doing so, whatever others do
pub owner_stays : (shape : HeapShape) (before after : History) (pl : Place) (p : ℕ) → IsLegal shape (after ++ before) → share after p ≡ [] → Owns (heap_after before) p pl → Owns (heap_after (after ++ before)) p pl
owner_stays shape before after Zero p legal none o = absurd (o)
owner_stays shape before after (Global g) p legal none o = absurd (o)
owner_stays shape before after (Count s) p legal none o = absurd (o)
owner_stays shape before after (Isa s) p legal none o = absurd (o)
owner_stays shape before after (Next s) p legal none (i, o, here, slot, duty) =
    let q = dying_stays shape p i o before after legal none duty here in
    (i, q.0, q.1, ap (λ m. is_number m s) q.2 ∙ slot, (others_leave shape p before after legal none).duties i ∙ duty)
owner_stays shape before after (Field s f) p legal none o = absurd (o)
owner_stays shape before after (Link e) p legal none o = (others_leave shape p before after legal none).claims e ∙ o
owner_stays shape before after (Strong e) p legal none o = (others_leave shape p before after legal none).claims e ∙ o
owner_stays shape before after (Unowned e) p legal none o = (others_leave shape p before after legal none).claims e ∙ o
owner_stays shape before after (Weak e) p legal none o = (others_leave shape p before after legal none).claims e ∙ o
owner_stays shape before after (SlotBits k) p legal none o = absurd (o)
owner_stays shape before after (EntryBits k) p legal none o = absurd (o)

strong≢weak : kinds.Strong ≡ kinds.Weak → ⊥
strong≢weak e = cc

-- a cell that a thread reaches, too
pub reach_stays : (shape : HeapShape) (before after : History) (c : CellName) (p : ℕ) → IsLegal shape (after ++ before) → share after p ≡ [] → CanReach shape (heap_after before) p c → CanReach shape (heap_after (after ++ before)) p c
reach_stays shape before after (cells.Global g) p legal none r = tt
reach_stays shape before after (cells.Field s f) p legal none (k, i, o, at, here, slot, has) =
    let q = held_stays shape p k i kinds.Strong o before after legal none at here in
    (k, i, q.q, (others_leave shape p before after legal none).hands k ∙ at, q.here, q.slot strong≢weak ∙ slot, ap (λ c. has_field shape f (record o { class = c })) q.class ∙ has)

-- a cell that hasn't changed: at one point, after one more event, and from a later point on
pub stays_self : (h : History) (c : CellName) → CellStays h h c
stays_self h c = record {
  owner = λ point s t. ap (λ l. cell (heap_after l) c) (starts_both h point s t);
  refers = λ point s t. ap (λ l. spot (cell (heap_after l) c) (heap_after l)) (starts_both h point s t);
}

pub stays_more : (p : ℕ) (act : Option Act) (h seen : History) (c : CellName) → StartsWith h seen
    → cell (heap_after (event_list p act ++ h)) c ≡ cell (heap_after h) c → spot (cell (heap_after (event_list p act ++ h)) c) (heap_after (event_list p act ++ h)) ≡ spot (cell (heap_after h) c) (heap_after h)
    → CellStays h seen c → CellStays (event_list p act ++ h) seen c
stays_more p None h seen c s owner refers f = f
stays_more p (Some a) h seen c s owner refers f = record {
  owner = λ point t u. at_point (λ l. cell (heap_after l) c ≡ cell (heap_after seen) c) (owner ∙ f.owner h (starts_self h) s) (λ point t u. f.owner point t u) point t.0 t.1 u;
  refers = λ point t u. at_point (λ l. spot (cell (heap_after l) c) (heap_after l) ≡ spot (cell (heap_after seen) c) (heap_after seen)) (refers ∙ f.refers h (starts_self h) s) (λ point t u. f.refers point t u) point t.0 t.1 u;
}
  where
    tail_is : (x y : Event) (l m : History) → x ∷ l ≡ y ∷ m → l ≡ m
    tail_is x y l m e = cc

    at_point : (P : History → Type 0) → P (record { thread = p; act = a } ∷ h) → ((point : History) → StartsWith h point → StartsWith point seen → P point)
        → (point rest : History) → record { thread = p; act = a } ∷ h ≡ rest ++ point → StartsWith point seen → P point
    at_point P now before point [] e u = subst P e now
    at_point P now before point (r ∷ rest) e u = before point (rest, tail_is (record { thread = p; act = a }) r h (rest ++ point) e) u

pub stays_later : (h c seen : History) (name : CellName) → StartsWith h c → StartsWith c seen → CellStays h seen name → CellStays h c name
stays_later h c seen name s t f = record {
  owner = λ point a b. f.owner point a (starts_trans point c seen b t) ∙ sym (f.owner c s t);
  refers = λ point a b. f.refers point a (starts_trans point c seen b t) ∙ sym (f.refers c s t);
}
