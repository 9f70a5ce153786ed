-- A load: without event, or of a count of a hand's object, or of a search for a slot or an entry, or of a cell that is looked at, or of a deinit.
use Rattle.std.proofs.Common.{◌≡◌, ◌⊎◌, inl, inr, ⊎_elim, ℕ, ◌<◌, ◌==◌, Bool, true, false, ◌∷◌, Option, Some, None, refl, sym, ap, ◌∙◌, subst, arith}
use Rattle.std.proofs.lemmas.Bool.{and_parts, eqb-true}
use Rattle.std.specs.Prelude.{◌&&◌, is_none}
use Rattle.arc_model.specs.declared.event.Act.{Act}
use Rattle.arc_model.specs.declared.event.Act.TheVariants as acts
use Rattle.arc_model.specs.declared.event.Origin.{Origin}
use Rattle.arc_model.specs.declared.event.Origin.TheVariants as origins
use Rattle.arc_model.specs.declared.shape.Kind.{Kind}
use Rattle.arc_model.specs.declared.shape.Kind.TheVariants as kinds
use Rattle.arc_model.specs.Shapes.{HeapShape}
use Rattle.arc_model.specs.Heaps.{Holder, Hand, Object}
use Rattle.arc_model.specs.Holders.{in_slot, has_entry, list_of}
use Rattle.arc_model.specs.Cells.{is_immortal, is_live}
use Rattle.arc_model.specs.History.{History, heap_after, next_hand}
use Rattle.arc_model.specs.Lookup.{spot}
use Rattle.arc_rule.specs.declared.step.Step.TheVariants.{Load}
use Rattle.arc_rule.specs.declared.step.Intent.{Intent}
use Rattle.arc_rule.specs.declared.step.Intent.TheVariants as intents
use Rattle.arc_rule.specs.declared.layout.Place.{Place}
use Rattle.arc_rule.specs.declared.layout.Place.TheVariants as places
use Rattle.arc_rule.specs.declared.layout.Place.TheVariants.{Count, Isa}
use Rattle.arc_rule.specs.Places.{IsPlace, extent_of, number}
use Rattle.arc_rule.specs.Shown.{Says, IsInline}
use Rattle.arc_rule.proofs.Places.{place_at-number}
use Rattle.arc_view.specs.declared.view.Working.{Working}
use Rattle.arc_view.specs.declared.view.View.{View}
use Rattle.arc_view.specs.Views.{cell_place}
use Rattle.arc_view.specs.Holding.{At, IsOpen, is_counted, is_counted_at, heap_of}
use Rattle.arc_view.specs.Kinds.{kind_at, object_at, source_at, is_entry_place, is_full, is_forever, is_strong, is_deiniting, shows_end, load_refused, load_shown, when, first_of, loaded_act, working_loaded, act_of, working_after}
use Rattle.arc_view.specs.Admission.{Admits}
use Rattle.arc_view.specs.Steps.{IsUnsettled}
use Rattle.arc_view.proofs.Held.{Held, strong≢weak}
use Rattle.arc_view.proofs.Advance.{Good}
use Rattle.arc_view.proofs.Bridge.{Before, Reading, silent_good}
use Rattle.arc_view.proofs.Put.{is_number_some}
use Rattle.arc_view.proofs.Swapping.{reach_now}
use Rattle.arc_view.proofs.Passing.{deinit_loaded}
use Rattle.arc_view.proofs.Accessing.{look_loaded, cell_busy}
use Rattle.arc_view.proofs.Counting.{one_immortal}
use Rattle.arc_view.proofs.Bitwords.{search_loaded, entry_search_loaded}
use Rattle.arc_view.proofs.Strongs.{room_forever, drop_forever_good}
use Rattle.arc_view.proofs.Refusing.{ended_now, unchanged_good}
use Rattle.arc_view.proofs.Settling.{counted_here, unowned≢weak}
use Rattle.arc_view.proofs.Turned.{count_place, event_of, Turned}
use Rattle.arc_view.proofs.Gaining.{grown, copied, full}
use Rattle.arc_view.proofs.Sourcing.{StandsAt, spot_source, source_had}
use Rattle.arc_view.proofs.Present.{source_now}
use Rattle.arc_view.proofs.Growing.{unowned_made, refused_dead, refused_nil}
use Rattle.arc_view.proofs.Growing.{loaded as load_made}
use Rattle.arc_view.proofs.Rising.{live_forever, none_live, inline_now, entry_now, entered_mortal, forever_good, entry_same_good}
use Rattle.arc_view.proofs.Falling.{unowned_forever_good, forever_two}
use Rattle.arc_view.proofs.Upward.{IsCountedAt, counted_place, entry_inside}
use Rattle.arc_view.proofs.Upward.IsCountedAt.{in_line, in_entry}
use Rattle.arc_bits.specs.Words.{unpacked}
use Rattle.arc_model.specs.declared.event.Got.TheVariants as got

none_true : {A : Type 0} → false ≡ true → A
none_true e = absurd (cc)

-- a load changes what is under way of a deinit alone
field_works : (w : Working) (s f found : ℕ) (intent : Intent) → ((slot : ℕ) → intent ≡ intents.Deinit slot → ⊥) → working_loaded w (places.Field s f) found intent ≡ w
field_works w s f found intents.Look other = refl
field_works w s f found (intents.New class) other = refl
field_works w s f found (intents.Copy from) other = refl
field_works w s f found (intents.UnownedOf of) other = refl
field_works w s f found (intents.WeakOf of) other = refl
field_works w s f found (intents.Load of) other = refl
field_works w s f found (intents.Drop k) other = refl
field_works w s f found (intents.Claim of) other = refl
field_works w s f found (intents.Publish of why) other = refl
field_works w s f found intents.Back other = refl
field_works w s f found (intents.Swap cell put) other = refl
field_works w s f found (intents.Access cell) other = refl
field_works w s f found (intents.Deinit slot) other = absurd (other slot refl)
field_works w s f found intents.Vacate other = refl
field_works w s f found intents.Gone other = refl

pub load_works : (w : Working) (pl : Place) (found : ℕ) (intent : Intent) → ((slot : ℕ) → intent ≡ intents.Deinit slot → ⊥) → working_loaded w pl found intent ≡ w
load_works w places.Zero found intent other = refl
load_works w (places.Global g) found intent other = refl
load_works w (Count s) found intent other = refl
load_works w (Isa s) found intent other = refl
load_works w (places.Next s) found intent other = refl
load_works w (places.Field s f) found intent other = field_works w s f found intent other
load_works w (places.Link e) found intent other = refl
load_works w (places.Strong e) found intent other = refl
load_works w (places.Unowned e) found intent other = refl
load_works w (places.Weak e) found intent other = refl
load_works w (places.SlotBits k) found intent other = refl
load_works w (places.EntryBits k) found intent other = refl

-- the count of a list is in a word of an entry
entry_counted : (list : Kind) (m : Option Object) (pl : Place) → (is_entry_place pl && is_counted_at list m pl) ≡ true → (e : ℕ) × (o : Object) × (pl ≡ count_place list e) × (m ≡ Some o) × (o.entry ≡ Some e)
entry_counted list None pl t = none_true (and_parts (is_entry_place pl) false t).1
entry_counted list (Some o) pl t = let all = and_parts (is_entry_place pl) (is_counted list o pl) t in by (counted_place list o pl all.1)
  where
    by : IsCountedAt list o pl → (e : ℕ) × (u : Object) × (pl ≡ count_place list e) × (Some o ≡ Some u) × (u.entry ≡ Some e)
    by (in_line s is slot ne) = none_true (sym (ap is_entry_place is) ∙ (and_parts (is_entry_place pl) (is_counted list o pl) t).0)
    by (in_entry e is entry) = (e, o, is, refl, entry)

-- an inline word, which counts a list of the object in the slot, is 1
forever_counted : (list : Kind) (m : Option Object) (pl : Place) (x : ℕ) → is_forever list m pl x ≡ true → (s : ℕ) × (o : Object) × (pl ≡ Count s) × (m ≡ Some o) × (o.slot ≡ Some s) × (x ≡ 1) × (list ≡ kinds.Weak → ⊥)
forever_counted list (Some o) (Count s) x t = let all = and_parts (is_counted list o (Count s)) (x == 1) t in let here = counted_here list o s all.0 in (s, o, refl, refl, here.0, eqb-true x 1 all.1, here.1)
forever_counted list None (Count s) x t = none_true t
forever_counted list m _ x t = none_true t

-- the count of the strong list says that none is left
end_shown : (m : Option Object) (pl : Place) (x : ℕ) → shows_end m pl x ≡ true
    → ((s : ℕ) × (o : Object) × (pl ≡ Count s) × (m ≡ Some o) × (o.slot ≡ Some s) × (is_deiniting (unpacked x) ≡ true)) ⊎ ((e : ℕ) × (o : Object) × (pl ≡ places.Strong e) × (m ≡ Some o) × (o.entry ≡ Some e) × (x ≡ 0))
end_shown None pl x t = none_true t
end_shown (Some o) (Count s) x t = let all = and_parts (in_slot s o) (is_deiniting (unpacked x)) t in inl (s, o, refl, refl, is_number_some o.slot s all.0, all.1)
end_shown (Some o) (places.Strong e) x t = let all = and_parts (has_entry e o) (x == 0) t in inr (e, o, refl, refl, is_number_some o.entry e all.0, eqb-true x 0 all.1)
end_shown (Some o) _ x t = none_true t

strong_is : (kind : Kind) → is_strong kind ≡ true → kind ≡ kinds.Strong
strong_is kinds.Strong t = refl
strong_is kinds.Unowned t = none_true t
strong_is kinds.Weak t = none_true t

unowned≢strong : kinds.Unowned ≡ kinds.Strong → ⊥
unowned≢strong e = cc

none_is : {A : Type 0} (m : Option A) → is_none m ≡ true → m ≡ None
none_is None t = refl
none_is (Some a) t = none_true t

module _ (shape : HeapShape) (v : View) (h : History) (b : Before shape v h) where
  -- where a source of references was seen, and what it leads to
  abbrev kind_from : Origin → Kind
  kind_from from = kind_at (source_at v from)

  abbrev seen_from : Origin → Option Object
  seen_from from = object_at (heap_of v) (source_at v from)

  abbrev kind_of : ℕ → Kind
  kind_of k = kind_from (origins.Hand k)

  abbrev seen_at : ℕ → Option Object
  seen_at k = seen_from (origins.Hand k)

  -- the source and its object, now
  record Now (from : Origin) (kind : Kind) (o : Object) : Type 0 where
    pub place : ℕ
    pub seen : At (heap_of v) place o
    pub at : StandsAt v (heap_after h) from place kind
    pub held : Held kind place o (heap_after h)

  now : (from : Origin) → IsOpen v from → (kind : Kind) (o : Object) → kind_from from ≡ kind → seen_from from ≡ Some o → Now from kind o
  now from opened kind o of at =
      let source = spot_source v from kind o (source_at v from) refl of at in
      let n = source_now shape v h b from source.0 kind o (source.1, opened) source.2 in record { place = source.0; seen = source.2; at = n.0; held = n.1 }

  abbrev Shown : Place → ℕ → Option Act → Type 1
  Shown pl x act = Good shape v h (number (extent_of shape) pl) x x act v.working

  silent : (pl : Place) (x : ℕ) → Shown pl x None
  silent pl x = silent_good shape v h b (number (extent_of shape) pl) x

  -- the hand that comes, and what is asked of a load
  abbrev n : ℕ
  n = next_hand v.number v.seen

  abbrev y : Holder
  y = Hand v.number n

  module _ (pl : Place) (x : ℕ) (inside : IsPlace (extent_of shape) pl) (owes : v.working.owes ≡ None) (read : Reading shape v h (number (extent_of shape) pl) x) where
    -- what the place was found to say, where it is this one
    says_at : (q : Place) → pl ≡ q → (IsUnsettled q x → ⊥) → Says shape (heap_after h) q x
    says_at q is settled = (read owes q (subst (IsPlace (extent_of shape)) is inside) (ap (number (extent_of shape)) is)).says settled

    settled_entry : (list : Kind) (e : ℕ) → IsUnsettled (count_place list e) x → ⊥
    settled_entry kinds.Strong e u = u
    settled_entry kinds.Unowned e u = u
    settled_entry kinds.Weak e u = u

    -- the count of a list stands at its greatest
    full_loaded : (list : Kind) (from : Origin) → IsOpen v from → Shown pl x (when (is_full shape list (seen_from from) pl x) (acts.CountFull list from))
    full_loaded list from opened = by (is_full shape list (seen_from from) pl x) refl
      where
        by : (t : Bool) → is_full shape list (seen_from from) pl x ≡ t → Shown pl x (when t (acts.CountFull list from))
        by false is = silent pl x
        by true is =
            let all = and_parts (is_entry_place pl && is_counted_at list (seen_from from) pl) (x == shape.caps.wide) is in
            let c = entry_counted list (seen_from from) pl all.0 in
            let l = now from opened (kind_from from) c.1 refl c.3 in
            let entry = l.held.entry c.0 c.4 in
            let says = says_at (count_place list c.0) c.2 (settled_entry list c.0) in
            let long = (entry_now shape v h b l.place l.held.q l.held.here list c.0 x entry says).0 in
            let made = full shape v h b from l.place (kind_from from) l.held.q l.at l.held.here owes (source_had shape v h b from l.place (kind_from from) opened l.at) list (entered_mortal shape v h b l.place l.held.q l.held.here c.0 entry) (sym long ∙ eqb-true x shape.caps.wide all.1) in
            subst (λ (q : Place). Shown q x (Some (acts.CountFull list from))) (sym c.2)
            (entry_same_good shape v h b l.place l.held.q l.held.here (acts.CountFull list from) owes list made c.0 x entry (entry_inside shape list c.0 (subst (IsPlace (extent_of shape)) c.2 inside)) says)

    -- An immortal object takes an event for a hand of it without a change of its word: the hand is no weak one.
    forever_loaded : (list : Kind) (from : Origin) → IsOpen v from → (act : Act) (made : Object → Object) → is_forever list (seen_from from) pl x ≡ true → (kind_from from ≡ kinds.Weak → ⊥)
        → ((o : Object) (l : Now from (kind_from from) o) → is_immortal shape l.held.q ≡ true → Turned shape v h act l.held.q (made l.held.q)) → Shown pl x (Some act)
    forever_loaded list from opened act made is ne turned =
        let c = forever_counted list (seen_from from) pl x is in
        let l = now from opened (kind_from from) c.1 refl c.3 in
        let slot : l.held.q.slot ≡ Some c.0 = l.held.slot ne ∙ c.4 in
        let lt = subst (IsPlace (extent_of shape)) c.2 inside in
        let inline = inline_now shape v h b l.place l.held.q l.held.here c.0 x slot (says_at (Count c.0) c.2 (λ u. u)) in
        let forever = one_immortal shape l.held.q (subst (λ w. IsInline (is_immortal shape l.held.q) shape l.held.q w) c.5 inline) in
        subst (λ (q : Place). Shown q x (Some act)) (sym c.2)
        (forever_good shape v h b l.place l.held.q l.held.here act owes (made l.held.q) (turned c.1 l forever) c.0 x slot lt c.5 forever)

    -- a reference is to be copied
    copy_loaded : (from : Origin) → IsOpen v from → Shown pl x (loaded_act shape v pl x (intents.Copy from))
    copy_loaded from opened = by (is_forever (kind_from from) (seen_from from) pl x) refl
      where
        by : (t : Bool) → is_forever (kind_from from) (seen_from from) pl x ≡ t → Shown pl x (first_of t (acts.Copy from n) (when (is_full shape (kind_from from) (seen_from from) pl x) (acts.CountFull (kind_from from) from)))
        by false is = full_loaded (kind_from from) from opened
        by true is = forever_loaded (kind_from from) from opened (acts.Copy from n) (grown (kind_from from) y) is (forever_counted (kind_from from) (seen_from from) pl x is).6
            (λ o l forever. copied shape v h b from l.place (kind_from from) l.held.q l.at l.held.here owes (source_had shape v h b from l.place (kind_from from) opened l.at) (room_forever shape l.held.q (list_of (kind_from from) l.held.q) forever))

    -- an unowned reference is to be made from a strong hand
    unowned_loaded : (k : ℕ) → Shown pl x (loaded_act shape v pl x (intents.UnownedOf k))
    unowned_loaded k = by (is_strong (kind_of k) && is_forever kinds.Unowned (seen_at k) pl x) refl
      where
        by : (t : Bool) → (is_strong (kind_of k) && is_forever kinds.Unowned (seen_at k) pl x) ≡ t → Shown pl x (first_of t (acts.UnownedOf k n) (when (is_full shape kinds.Unowned (seen_at k) pl x) (acts.CountFull kinds.Unowned (origins.Hand k))))
        by false is = full_loaded kinds.Unowned (origins.Hand k) tt
        by true is =
            let all = and_parts (is_strong (kind_of k)) (is_forever kinds.Unowned (seen_at k) pl x) is in
            let strong : kind_of k ≡ kinds.Strong = strong_is (kind_of k) all.0 in
            forever_loaded kinds.Unowned (origins.Hand k) tt (acts.UnownedOf k n) (grown kinds.Unowned y) all.1 (λ weak. strong≢weak (sym strong ∙ weak))
            (λ o l forever. unowned_made shape v h b k l.place (kind_of k) l.held.q l.at l.held.here owes strong (room_forever shape l.held.q l.held.q.unowned forever))

    -- no strong reference is left of the object of a hand, which this act says
    refused_loaded : (k : ℕ) (act : Act) → heap_after (event_of v act ∷ h) ≡ heap_after h → ((o : Object) (l : Now (origins.Hand k) (kind_of k) o) → is_live shape l.held.q ≡ false → Turned shape v h act l.held.q l.held.q) → Shown pl x (load_refused shape (seen_at k) pl x k act)
    refused_loaded k act same turned = by (shows_end (seen_at k) pl x) refl
      where
        in_slot_ends : (s : ℕ) × (o : Object) × (pl ≡ Count s) × (seen_at k ≡ Some o) × (o.slot ≡ Some s) × (is_deiniting (unpacked x) ≡ true) → Shown pl x (Some act)
        in_slot_ends (s, o, is, at, in_it, ends) =
            let l = now (origins.Hand k) tt (kind_of k) o refl at in
            let says = says_at (Count s) is (λ u. u) in
            subst (λ (q : Place). Shown q x (Some act)) (sym is)
            (unchanged_good shape v h b act l.held.q (turned o l (ended_now shape v h b l.place s x o l.held.q l.seen in_it l.held.here says ends)) same owes s x (subst (IsPlace (extent_of shape)) is inside) says)

        in_entry_ends : (e : ℕ) × (o : Object) × (pl ≡ places.Strong e) × (seen_at k ≡ Some o) × (o.entry ≡ Some e) × (x ≡ 0) → Shown pl x (Some act)
        in_entry_ends (e, o, is, at, has, zero_is) =
            let l = now (origins.Hand k) tt (kind_of k) o refl at in
            let entry = l.held.entry e has in
            let says = says_at (places.Strong e) is (λ u. u) in
            let long = (entry_now shape v h b l.place l.held.q l.held.here kinds.Strong e x entry says).0 in
            let dead = none_live shape l.held.q (entered_mortal shape v h b l.place l.held.q l.held.here e entry) (sym long ∙ zero_is) in
            subst (λ (q : Place). Shown q x (Some act)) (sym is)
            (entry_same_good shape v h b l.place l.held.q l.held.here act owes kinds.Strong (turned o l dead) e x entry (subst (IsPlace (extent_of shape)) is inside) says)

        by : (t : Bool) → shows_end (seen_at k) pl x ≡ t → Shown pl x (first_of t act (when (is_full shape kinds.Strong (seen_at k) pl x) (acts.CountFull kinds.Strong (origins.Hand k))))
        by false is = full_loaded kinds.Strong (origins.Hand k) tt
        by true is = ⊎_elim in_slot_ends in_entry_ends (end_shown (seen_at k) pl x is)

    -- a strong reference is to be taken of an unowned hand, or of a weak one
    load_loaded : (k : ℕ) → Shown pl x (loaded_act shape v pl x (intents.Load k))
    load_loaded k = by (kind_of k) refl
      where
        taken : kind_of k ≡ kinds.Unowned → (t : Bool) → is_forever kinds.Strong (seen_at k) pl x ≡ t → Shown pl x (first_of t (acts.Load k (got.Hand n)) (load_refused shape (seen_at k) pl x k (acts.Load k got.Dead)))
        taken unowned false is = refused_loaded k (acts.Load k got.Dead) refl (λ o l dead. refused_dead shape v h b k l.place (kind_of k) l.held.q l.at l.held.here owes unowned dead)
        taken unowned true is = forever_loaded kinds.Strong (origins.Hand k) tt (acts.Load k (got.Hand n)) (grown kinds.Strong y) is (λ weak. unowned≢weak (sym unowned ∙ weak))
            (λ o l forever. load_made shape v h b k l.place (kind_of k) l.held.q l.at l.held.here owes (λ strong. unowned≢strong (sym unowned ∙ strong)) (live_forever shape l.held.q forever) (room_forever shape l.held.q l.held.q.strong forever))

        by : (kind : Kind) → kind_of k ≡ kind → Shown pl x (load_shown shape (kind_of k) (seen_at k) pl x k n)
        by kinds.Strong is = subst (λ (t : Kind). Shown pl x (load_shown shape t (seen_at k) pl x k n)) (sym is) (silent pl x)
        by kinds.Unowned is = subst (λ (t : Kind). Shown pl x (load_shown shape t (seen_at k) pl x k n)) (sym is) (taken is (is_forever kinds.Strong (seen_at k) pl x) refl)
        by kinds.Weak is = subst (λ (t : Kind). Shown pl x (load_shown shape t (seen_at k) pl x k n)) (sym is)
            (refused_loaded k (acts.Load k got.Nil) refl (λ o l dead. refused_nil shape v h b k l.place (kind_of k) l.held.q l.at l.held.here owes is dead))

    -- a hand is to be dropped
    drop_loaded : (k : ℕ) → Shown pl x (loaded_act shape v pl x (intents.Drop k))
    drop_loaded k = by (is_none v.working.access && is_forever (kind_of k) (seen_at k) pl x) refl
      where
        by : (t : Bool) → (is_none v.working.access && is_forever (kind_of k) (seen_at k) pl x) ≡ t → Shown pl x (when t (acts.Drop k false))
        by false is = silent pl x
        by true is =
            let all = and_parts (is_none v.working.access) (is_forever (kind_of k) (seen_at k) pl x) is in
            let c = forever_counted (kind_of k) (seen_at k) pl x all.1 in
            let l = now (origins.Hand k) tt (kind_of k) c.1 refl c.3 in
            let slot : l.held.q.slot ≡ Some c.0 = l.held.slot c.6 ∙ c.4 in
            let lt = subst (IsPlace (extent_of shape)) c.2 inside in
            let inline = inline_now shape v h b l.place l.held.q l.held.here c.0 x slot (says_at (Count c.0) c.2 (λ u. u)) in
            let forever = one_immortal shape l.held.q (subst (λ w. IsInline (is_immortal shape l.held.q) shape l.held.q w) c.5 inline) in
            subst (λ (q : Place). Shown q x (Some (acts.Drop k false))) (sym c.2) (dropped (kind_of k) c.0 l.place l.held.q l.at l.held.here slot lt c.5 forever c.6 (none_is v.working.access all.0))
          where
            dropped : (kind : Kind) (s i : ℕ) (o : Object) → spot (Hand v.number k) (heap_after h) ≡ Some (record { place = i; kind = kind }) → At (heap_after h) i o → o.slot ≡ Some s → s < shape.slots → x ≡ 1 → is_immortal shape o ≡ true
                → (kind ≡ kinds.Weak → ⊥) → v.working.access ≡ None → Shown (Count s) x (Some (acts.Drop k false))
            dropped kinds.Strong s i o at here slot lt one forever ne free = drop_forever_good shape v h b k i o at here s x slot lt one forever owes free
            dropped kinds.Unowned s i o at here slot lt one forever ne free = unowned_forever_good shape v h b k i o at here owes free false (sym (forever_two shape v h b k i o at here owes forever)) s x slot lt one forever
            dropped kinds.Weak s i o at here slot lt one forever ne free = absurd (ne refl)

  -- a load at its place
  placed : (place : ℕ) (pl : Place) (intent : Intent) (x : ℕ) → place ≡ number (extent_of shape) pl → IsPlace (extent_of shape) pl → ((slot : ℕ) → intent ≡ intents.Deinit slot → ⊥) → Shown pl x (loaded_act shape v pl x intent)
      → Good shape v h place x x (act_of shape v (Load place) intent x) (working_after shape v (Load place) intent x)
  placed place pl intent x at inside other good =
      subst (λ n. Good shape v h n x x (act_of shape v (Load n) intent x) (working_after shape v (Load n) intent x)) (sym at)
      (subst (λ (q : Place). Good shape v h (number (extent_of shape) pl) x x (loaded_act shape v q x intent) (working_loaded v.working q x intent)) (sym (place_at-number (extent_of shape) pl inside))
      (subst (λ w. Good shape v h (number (extent_of shape) pl) x x (loaded_act shape v pl x intent) w) (sym (load_works v.working pl x intent other)) good))

  pub loaded : (place : ℕ) (intent : Intent) → Admits shape v (Load place) intent → (x : ℕ) → Reading shape v h place x → Good shape v h place x x (act_of shape v (Load place) intent x) (working_after shape v (Load place) intent x)
  loaded place (intents.Copy from) (pl, at, inside, owes, may, aim) x read =
      placed place pl (intents.Copy from) x at inside (λ slot e. cc) (copy_loaded pl x inside owes (subst (λ t. Reading shape v h t x) at read) from aim)
  loaded place (intents.UnownedOf of) (pl, at, inside, owes, may, aim) x read = placed place pl (intents.UnownedOf of) x at inside (λ slot e. cc) (unowned_loaded pl x inside owes (subst (λ t. Reading shape v h t x) at read) of)
  loaded place (intents.WeakOf of) (pl, at, inside, owes, may, aim) x read = placed place pl (intents.WeakOf of) x at inside (λ slot e. cc) (full_loaded pl x inside owes (subst (λ t. Reading shape v h t x) at read) kinds.Weak (origins.Hand of) tt)
  loaded place (intents.Load of) (pl, at, inside, owes, may, aim) x read = placed place pl (intents.Load of) x at inside (λ slot e. cc) (load_loaded pl x inside owes (subst (λ t. Reading shape v h t x) at read) of)
  loaded place (intents.Drop k) (pl, at, inside, owes, may, aim) x read = placed place pl (intents.Drop k) x at inside (λ slot e. cc) (drop_loaded pl x inside owes (subst (λ t. Reading shape v h t x) at read) k)
  loaded place (intents.New class) admits x read = search_loaded shape v h b place class x admits read
  loaded place (intents.Claim of) admits x read = entry_search_loaded shape v h b place of x admits read
  loaded place (intents.Access c) (pl, at, inside, owes, may, aim) x read =
      let place_is = at ∙ ap (number (extent_of shape)) aim.0 in
      let in_it = subst (IsPlace (extent_of shape)) aim.0 inside in
      placed place (cell_place c) (intents.Access c) x place_is in_it (λ slot e. cc)
      (look_loaded shape v h b c in_it x (reach_now shape v h b c aim.1) owes (λ none. (read owes (cell_place c) in_it place_is).says (λ busy. let one = cell_busy c x busy in omega (arith, none, one))))
  loaded place (intents.Deinit slot) admits x read = deinit_loaded shape v h b place slot x admits read
  loaded place intents.Look (pl, at, inside, owes, may, aim) x read = placed place pl intents.Look x at inside (λ slot e. cc) (silent pl x)
  loaded place (intents.Publish of why) (pl, at, inside, owes, may, aim) x read = placed place pl (intents.Publish of why) x at inside (λ slot e. cc) (silent pl x)
  loaded place intents.Back (pl, at, inside, owes, may, aim) x read = placed place pl intents.Back x at inside (λ slot e. cc) (silent pl x)
  loaded place (intents.Swap c put) (pl, at, inside, owes, may, aim) x read = placed place pl (intents.Swap c put) x at inside (λ slot e. cc) (silent pl x)
  loaded place intents.Vacate (pl, at, inside, owes, may, aim) x read = placed place pl intents.Vacate x at inside (λ slot e. cc) (silent pl x)
  loaded place intents.Gone (pl, at, inside, owes, may, aim) x read = placed place pl intents.Gone x at inside (λ slot e. cc) (silent pl x)
