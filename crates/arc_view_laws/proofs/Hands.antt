-- What a thread's own event makes of its hands, and what a step makes of a pass's hands.
use Rattle.std.proofs.Common.{◌≡◌, ℕ, Bool, true, false, cond, ◌∷◌, ◌++◌, Option, Some, None, refl, ap, ◌∙◌, subst}
use Rattle.std.proofs.lemmas.Bool.{eqb-true}
use Rattle.arc_model.specs.declared.event.Act.{Act}
use Rattle.arc_model.specs.Heaps.{Hand}
use Rattle.arc_model.specs.Holders.{is_number}
use Rattle.arc_model.specs.History.{heap_after, IsLegal}
use Rattle.arc_model.specs.Lookup.{spot}
use Rattle.arc_model.specs.Own.{brings_hand, ends_hand, brought}
use Rattle.arc_model.proofs.Own.{own_gains, own_ends}
use Rattle.arc_model.proofs.Tally.{no}
use Rattle.arc_view.specs.declared.view.View.{View}
use Rattle.arc_view.specs.Holding.{heap_of}
use Rattle.arc_view.specs.Kinds.{act_of, event_list}
use Rattle.arc_model.proofs.Others.{others_leave}
use Rattle.arc_view_laws.specs.Hands.{OwnHands, HandsTold, hand_after}
use Rattle.arc_model.proofs.HandSpots.{hand_same}

number_is : (m : Option ℕ) (k : ℕ) → is_number m k ≡ true → m ≡ Some k
number_is None k e = no e
number_is (Some n) k e = ap Some (eqb-true n k e)

pub own_hands : OwnHands
own_hands shape h e k legal = go (ends_hand k e.act) (is_number (brings_hand e.act) k) refl refl
  where
    go : (b c : Bool) → ends_hand k e.act ≡ b → is_number (brings_hand e.act) k ≡ c → spot (Hand e.thread k) (heap_after (e ∷ h)) ≡ cond b None (cond c (brought (heap_after h) e.thread e.act) (spot (Hand e.thread k) (heap_after h)))
    go true c ended brings = own_ends shape h e k legal ended
    go false true ended brings = own_gains shape h e k legal (number_is (brings_hand e.act) k brings)
    go false false ended brings = hand_same e.thread k e.act (heap_after h) brings ended

-- the hands of a pass after a step: other passes' events leave them, and the step's own event makes them as it says
pub told_hands : HandsTold
told_hands shape intent st v found w t k =
    let h = t.between ++ v.seen in
    ap (λ l. spot (Hand v.number k) (heap_after l)) (ap (λ (x : View). x.seen) t.after) ∙ go (act_of shape v st intent found) (subst (IsLegal shape) (ap (λ (x : View). x.seen) t.after) t.legal)
  where
    go : (a : Option Act) → IsLegal shape (event_list v.number a ++ (t.between ++ v.seen)) → spot (Hand v.number k) (heap_after (event_list v.number a ++ (t.between ++ v.seen))) ≡ hand_after v.number a k (heap_after (t.between ++ v.seen)) (heap_of v)
    go None legal = (others_leave shape v.number v.seen t.between legal t.others).hands k
    go (Some a) legal = own_hands shape (t.between ++ v.seen) (record { thread = v.number; act = a }) k legal ∙ next (ends_hand k a) (is_number (brings_hand a) k)
      where
        next : (b c : Bool) → cond b None (cond c (brought (heap_after (t.between ++ v.seen)) v.number a) (spot (Hand v.number k) (heap_after (t.between ++ v.seen)))) ≡ cond b None (cond c (brought (heap_after (t.between ++ v.seen)) v.number a) (spot (Hand v.number k) (heap_of v)))
        next true c = refl
        next false true = refl
        next false false = (others_leave shape v.number v.seen t.between legal.1 t.others).hands k
