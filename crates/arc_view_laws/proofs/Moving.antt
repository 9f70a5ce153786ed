-- What a pass has after a call: other passes' events leave it, and the event of the call makes of it what the act says.
use Rattle.std.proofs.Common.{◌≡◌, ℕ, Bool, true, false, cond, List, [], ◌∷◌, ◌++◌, Some, None, refl, sym, ap, ◌∙◌, subst, append_assoc}
use Rattle.std.proofs.lemmas.List.{append_cancel_right}
use Rattle.arc_model.specs.declared.event.Act.{Act}
use Rattle.arc_model.specs.declared.event.Event.{Event}
use Rattle.arc_model.specs.Shapes.{HeapShape}
use Rattle.arc_model.specs.Heaps.{Hand, Heap}
use Rattle.arc_model.specs.Holders.{is_number, is_claimed_by}
use Rattle.arc_model.specs.History.{History, heap_after, is_of, share, IsLegal}
use Rattle.arc_model.specs.Lookup.{spot, duty_of}
use Rattle.arc_model.specs.Own.{brings_hand, ends_hand, brought}
use Rattle.arc_model.specs.Others.{IsUntouched}
use Rattle.arc_model.proofs.Others.{others_leave}
use Rattle.arc_model.proofs.Duties.{own_duties, own_claims}
use Rattle.arc_view.specs.declared.view.View.{View}
use Rattle.arc_view.specs.Holding.{heap_of}
use Rattle.arc_view.specs.Calls.{events_by, Called, Took}
use Rattle.arc_view.proofs.Lists.{share-append, others_came}
use Rattle.arc_view_laws.specs.Hands.{Moves}
use Rattle.arc_view_laws.proofs.Hands.{own_hands}

-- the view w goes on from v, and these are the events of its pass since
pub record Follows (shape : HeapShape) (v w : View) (own : History) : Type 0 where
  pub number : w.number ≡ v.number
  pub rest : History
  pub is : w.seen ≡ rest ++ v.seen
  pub mine : share rest v.number ≡ own
  pub legal : IsLegal shape (rest ++ v.seen)

pub called_follows : (shape : HeapShape) (xs : List Act) (n : ℕ) (v w : View) → Called shape xs n v w → Follows shape v w (events_by v.number xs)
called_follows shape xs n v w c =
    let g = c.grew in
    let p = v.number in
    let rest = g.begins.0 in
    let is : w.seen ≡ rest ++ v.seen = g.begins.1 in record {
      number = g.number;
      rest = rest;
      is = is;
      mine = append_cancel_right (share rest p) (events_by p xs) (share v.seen p) (sym (share-append p rest v.seen) ∙ (ap (λ l. share l p) (sym is) ∙ g.made));
      legal = subst (IsLegal shape) is c.legal;
    }

pub took_follows : (shape : HeapShape) (v u w : View) → Took shape v u w → Follows shape v w []
took_follows shape v u w t =
    let is : w.seen ≡ t.begins.0 ++ v.seen = t.begins.1 in record {
      number = t.number;
      rest = t.begins.0;
      is = is;
      mine = others_came v.number w.seen v.seen t.begins.0 is t.own;
      legal = subst (IsLegal shape) is t.legal;
    }

pub legal_tail : (shape : HeapShape) (xs ys : History) → IsLegal shape (xs ++ ys) → IsLegal shape ys
legal_tail shape [] ys legal = legal
legal_tail shape (x ∷ xs) ys legal = legal_tail shape xs ys legal.1

-- a history with one event of p, cut there
pub record Cut (p : ℕ) (a : Act) (h : History) : Type 0 where
  pub later : History
  pub earlier : History
  pub is : h ≡ later ++ record { thread = p; act = a } ∷ earlier
  pub after : share later p ≡ []
  pub before : share earlier p ≡ []

nil≢cons : {X : Type 0} (x : X) (xs : List X) → [] ≡ x ∷ xs → ⊥
nil≢cons x xs e = cc

cons_head : (x y : Event) (xs ys : History) → x ∷ xs ≡ y ∷ ys → x ≡ y
cons_head x y xs ys e = cc

cons_tail : (x y : Event) (xs ys : History) → x ∷ xs ≡ y ∷ ys → xs ≡ ys
cons_tail x y xs ys e = cc

pub cut : (p : ℕ) (a : Act) (h : History) → share h p ≡ record { thread = p; act = a } ∷ [] → Cut p a h
cut p a [] one = absurd (nil≢cons (record { thread = p; act = a }) [] one)
cut p a (e ∷ h) one = go (is_of p e) refl one (λ more. cut p a h more)
  where
    go : (b : Bool) → is_of p e ≡ b → cond b (e ∷ share h p) (share h p) ≡ record { thread = p; act = a } ∷ [] → (share h p ≡ record { thread = p; act = a } ∷ [] → Cut p a h) → Cut p a (e ∷ h)
    go true mine one ih = record {
      later = [];
      earlier = h;
      is = ap (λ x. x ∷ h) (cons_head e (record { thread = p; act = a }) (share h p) [] one);
      after = refl;
      before = cons_tail e (record { thread = p; act = a }) (share h p) [] one;
    }
    go false other one ih = let c = ih one in record {
      later = e ∷ c.later;
      earlier = c.earlier;
      is = ap (λ l. e ∷ l) c.is;
      after = ap (λ b. cond b (e ∷ share c.later p) (share c.later p)) other ∙ c.after;
      before = c.before;
    }

-- with no event of its own a pass has what it had
pub follows_none : (shape : HeapShape) (v w : View) → Follows shape v w [] → Moves None v w
follows_none shape v w f =
    let u = others_leave shape v.number v.seen f.rest f.legal f.mine in record {
      met = f.rest ++ v.seen;
      begins = (f.rest, refl);
      follows = ([], f.is);
      had = u;
      hands = λ k. (λ j. spot (Hand (f.number j) k) (heap_after (f.is j))) ∙ u.hands k;
      duties = λ i. (λ j. duty_of (f.number j) i (heap_after (f.is j))) ∙ u.duties i;
      claims = λ e. (λ j. is_claimed_by (f.number j) e (heap_after (f.is j))) ∙ u.claims e;
    }

-- with one event it has what the act makes of that
pub follows_one : (shape : HeapShape) (a : Act) (v w : View) → Follows shape v w (events_by v.number (a ∷ [])) → Moves (Some a) v w
follows_one shape a v w f =
    let p = v.number in
    let c = cut p a f.rest f.mine in
    let e : Event = record { thread = p; act = a } in
    let met = c.earlier ++ v.seen in
    let is : f.rest ++ v.seen ≡ c.later ++ e ∷ met = ap (λ l. l ++ v.seen) c.is ∙ append_assoc c.later (e ∷ c.earlier) v.seen in
    let seen : w.seen ≡ c.later ++ e ∷ met = f.is ∙ is in
    let legal : IsLegal shape (c.later ++ e ∷ met) = subst (IsLegal shape) is f.legal in
    let at : IsLegal shape (e ∷ met) = legal_tail shape c.later (e ∷ met) legal in
    let had : IsUntouched p (heap_of v) (heap_after met) = others_leave shape p v.seen c.earlier at.1 c.before in
    let u = others_leave shape p (e ∷ met) c.later legal c.after in record {
      met = met;
      begins = (c.earlier, refl);
      follows = (c.later, seen);
      had = had;
      hands = λ k. (λ j. spot (Hand (f.number j) k) (heap_after (seen j))) ∙ (u.hands k ∙ (own_hands shape met e k at ∙ stood (heap_after met) k had (ends_hand k a) (is_number (brings_hand a) k)));
      duties = λ i. (λ j. duty_of (f.number j) i (heap_after (seen j))) ∙ (u.duties i ∙ own_duties shape met e i at);
      claims = λ n. (λ j. is_claimed_by (f.number j) n (heap_after (seen j))) ∙ (u.claims n ∙ own_claims shape met e n at);
    }
  where
    stood : (heap : Heap) (k : ℕ) → IsUntouched v.number (heap_of v) heap → (b c : Bool) → cond b None (cond c (brought heap v.number a) (spot (Hand v.number k) heap)) ≡ cond b None (cond c (brought heap v.number a) (spot (Hand v.number k) (heap_of v)))
    stood heap k had true c = refl
    stood heap k had false true = refl
    stood heap k had false false = had.hands k

pub moved : (shape : HeapShape) (a : Act) (n : ℕ) (v w : View) → Called shape (a ∷ []) n v w → Moves (Some a) v w
moved shape a n v w c = follows_one shape a v w (called_follows shape (a ∷ []) n v w c)

pub moved_none : (shape : HeapShape) (n : ℕ) (v w : View) → Called shape [] n v w → Moves None v w
moved_none shape n v w c = follows_none shape v w (called_follows shape [] n v w c)

pub moved_took : (shape : HeapShape) (v u w : View) → Took shape v u w → Moves None v w
moved_took shape v u w t = follows_none shape v w (took_follows shape v u w t)
