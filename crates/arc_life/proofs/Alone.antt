-- Where no other pass was split off, a step finds what the pass itself has made.
use Rattle.std.proofs.Common.{◌≡◌, ℕ, zero, suc, List, [], ◌∷◌, ◌++◌, ◌+◌, ◌<◌, length, slice_index_or, drop, refl, sym, ap, subst, ◌∙◌, append_assoc, None, arith}
use Rattle.std.proofs.lemmas.List.{drop_more}
use Rattle.arc_model.specs.Shapes.{HeapShape}
use Rattle.arc_model.specs.declared.event.Act.{Act}
use Rattle.arc_model.specs.History.{History, share}
use Rattle.arc_model.proofs.Others.{not-among}
use Rattle.arc_rule.specs.declared.layout.Place.{Place}
use Rattle.arc_rule.specs.declared.step.Step.{Step}
use Rattle.arc_rule.specs.declared.step.Step.TheVariants.{Load, Exchange, Store, Or, And}
use Rattle.arc_rule.specs.declared.step.Intent.{Intent}
use Rattle.arc_rule.specs.Places.{IsPlace, extent_of, number}
use Rattle.arc_rule.specs.Steps.{place_of}
use Rattle.arc_view.specs.declared.view.View.{View}
use Rattle.arc_view.specs.Kinds.{act_of, event_list, working_after}
use Rattle.arc_view.specs.Steps.{Told, IsRead, Reads, given_back, moved}
use Rattle.arc_view.proofs.Lists.{share-append, nil_left}
use Rattle.arc_life.specs.declared.deeds.Deed.{Deed}
use Rattle.arc_life.specs.Alone.{IsAlone, GoesAs, Finds, IsOnlyWord, after, after_all, events_of}

-- a history without an event of any thread is empty
none_of_any : (h : History) → ((p : ℕ) → share h p ≡ []) → h ≡ []
none_of_any [] none = refl
none_of_any (e ∷ h) none = absurd ((not-among e.thread e h (none e.thread)).0 refl)

module _ (shape : HeapShape) (intent : Intent) (st : Step) (v : View) (found : ℕ) (w : View) (a : IsAlone v) (t : Told shape intent st v found w) where
  -- nobody else stepped: the pass itself has no event in between, and no other thread has any
  nobody : t.between ≡ []
  nobody = none_of_any t.between others
    where
      others : (p : ℕ) → share t.between p ≡ []
      others zero = ap (λ n. share t.between n) (sym a.first) ∙ t.others
      others (suc p) = nil_left (share t.between (suc p)) (share v.seen (suc p)) (sym (share-append (suc p) t.between v.seen) ∙ t.strange a.first (suc p) (omega (arith, a.only)))

  told_alone : w ≡ after shape v (record { 0 = st; 1 = intent; 2 = found; 3 = None })
  told_alone = t.after ∙ ap (λ (b : History). moved v (b ++ v.seen) (event_list v.number (act_of shape v st intent found) ++ (b ++ v.seen)) st found (working_after shape v st intent found)) nobody

  only_word : (word : ℕ) → Reads st → IsOnlyWord shape v (place_of st) word → found ≡ word
  only_word word reads (pl, is, at, only) = only found (subst (λ (b : History). IsRead shape v (b ++ v.seen) pl found) nobody (t.read pl reads is at))

-- the word that is written is the one that was found
pub found_alone : (shape : HeapShape) (intent : Intent) (st : Step) (v : View) (found word : ℕ) (w : View) → IsAlone v → Told shape intent st v found w → found ≡ given_back st found → Finds shape v st word → found ≡ word
found_alone shape intent (Load place) v found word w a t given only = only_word shape intent (Load place) v found w a t word tt only
found_alone shape intent (Exchange place old new) v found word w a t given only = only_word shape intent (Exchange place old new) v found w a t word tt only
found_alone shape intent (Store place new) v found word w a t given is = given ∙ sym is
found_alone shape intent (Or place bits) v found word w a t given only = only_word shape intent (Or place bits) v found w a t word tt only
found_alone shape intent (And place bits) v found word w a t given only = only_word shape intent (And place bits) v found w a t word tt only

pub after_alone : (shape : HeapShape) (v : View) (d : Deed) → IsAlone v → IsAlone (after shape v d)
after_alone shape v d a = record { first = a.first; only = a.only; up_to_date = refl }

-- after one step of the list the pass is to make what is left of it
pub one_done : (shape : HeapShape) (v w : View) (ds : List Deed) (j : ℕ) (z : Deed) (found : ℕ) → j < length ds → IsAlone v → GoesAs shape v (drop j ds)
    → found ≡ given_back (slice_index_or ds j z).0 found → Told shape (slice_index_or ds j z).1 (slice_index_or ds j z).0 v found w
    → (found ≡ (slice_index_or ds j z).2) × IsAlone w × GoesAs shape w (drop (j + 1) ds) × (after_all shape w (drop (j + 1) ds) ≡ after_all shape v (drop j ds))
one_done shape v w ds j z found lt a goes given t =
    let d = slice_index_or ds j z in
    let left : drop j ds ≡ d ∷ drop (j + 1) ds = drop_more ds j z lt in
    let all = subst (λ (l : List Deed). GoesAs shape v l) left goes in
    let is : found ≡ d.2 = found_alone shape d.1 d.0 v found d.2 w a t given all.1 in
    let met : w ≡ after shape v d = told_alone shape d.1 d.0 v found w a t ∙ ap (λ (n : ℕ). after shape v (record { 0 = d.0; 1 = d.1; 2 = n; 3 = d.3 })) is in (
      is,
      subst (λ (u : View). IsAlone u) (sym met) (after_alone shape v d a),
      subst (λ (u : View). GoesAs shape u (drop (j + 1) ds)) (sym met) all.3,
      ap (λ (u : View). after_all shape u (drop (j + 1) ds)) met ∙ sym (ap (λ (l : List Deed). after_all shape v l) left),
    )

-- what was seen after all of them are their events, and what was seen before
pub all_seen : (shape : HeapShape) (v : View) (ds : List Deed) → v.number ≡ 0 → GoesAs shape v ds → (after_all shape v ds).seen ≡ events_of ds ++ v.seen
all_seen shape v [] first goes = refl
all_seen shape v (d ∷ ds) first goes =
    let one : (after shape v d).seen ≡ event_list 0 d.3 ++ v.seen = ap (λ (p : ℕ). event_list p (act_of shape v d.0 d.1 d.2) ++ v.seen) first ∙ ap (λ a. event_list 0 a ++ v.seen) goes.2 in
    all_seen shape (after shape v d) ds first goes.3 ∙ ap (λ (h : History). events_of ds ++ h) one ∙ sym (append_assoc (events_of ds) (event_list 0 d.3) v.seen)

-- the same of an equal shape and an equal view
pub goes_at : (s shape : HeapShape) (v w : View) (ds : List Deed) → s ≡ shape → v ≡ w → GoesAs shape w ds → GoesAs s v ds
goes_at s shape v w ds same is all = subst (λ (x : HeapShape). GoesAs x v ds) (sym same) (subst (λ (u : View). GoesAs shape u ds) (sym is) all)

pub after_at : (s shape : HeapShape) (v w u : View) (ds : List Deed) → s ≡ shape → v ≡ w → u ≡ after_all s v ds → u ≡ after_all shape w ds
after_at s shape v w u ds same is met = met ∙ (ap (λ (x : HeapShape). after_all x v ds) same ∙ ap (λ (y : View). after_all shape y ds) is)
