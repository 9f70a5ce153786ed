-- How many objects a pass has made, and that the first pass sees no stranger, after a step.
use Rattle.std.proofs.Common.{◌≡◌, ℕ, zero, suc, ◌+◌, ◌==◌, ◌&&◌, Bool, true, false, cond, [], ◌∷◌, ◌++◌, Option, None, Some, refl, sym, ap, ◌∙◌, subst, arith, eq-eqb}
use Rattle.std.specs.Prelude.{count_by, bit_and, ◌/◌}
use Rattle.std.proofs.lemmas.List.Sums.{sum_by-cons}
use Rattle.arc_model.specs.declared.event.Act.{Act}
use Rattle.arc_model.specs.declared.event.Act.TheVariants as acts
use Rattle.arc_model.specs.declared.event.Event.{Event}
use Rattle.arc_model.specs.Shapes.{HeapShape}
use Rattle.arc_model.specs.declared.shape.Kind.{Kind}
use Rattle.arc_model.specs.declared.shape.Kind.TheVariants as kinds
use Rattle.arc_model.specs.declared.shape.Kind.TheVariants.{Strong, Unowned, Weak}
use Rattle.arc_model.specs.declared.event.Got.TheVariants as got
use Rattle.arc_model.specs.declared.event.CellName.{CellName}
use Rattle.arc_model.specs.declared.event.Origin.{Origin}
use Rattle.arc_model.specs.Heaps.{Hand, Object}
use Rattle.arc_model.specs.Lookup.{spot}
use Rattle.arc_model.specs.History.{History, is_of, share, next_hand}
use Rattle.arc_rule.specs.declared.step.Step.{Step}
use Rattle.arc_rule.specs.declared.step.Intent.{Intent}
use Rattle.arc_view.specs.declared.view.View.{View}
use Rattle.arc_view.specs.Rule.{is_new, news}
use Rattle.arc_view.specs.Kinds.{act_of, event_list, loaded_act, or_act, and_act, stored_act, hit_act, first_of, when, kind_at, object_at, source_at, is_full, is_forever, is_strong, shows_end, load_refused, load_shown}
use Rattle.arc_view.specs.Admission.{Admits}
use Rattle.arc_rule.specs.declared.layout.Place.{Place}
use Rattle.arc_rule.specs.declared.layout.Place.TheVariants as places
use Rattle.arc_rule.specs.Places.{extent_of, place_at}
use Rattle.arc_rule.proofs.Places.{place_at-number}
use Rattle.arc_view.specs.Holding.{heap_of}
use Rattle.arc_model.specs.declared.event.Origin.TheVariants as origins
use Rattle.arc_view.specs.Steps.{Told}
use Rattle.arc_view.proofs.Lists.{share-append, share_of_other}
use Rattle.arc_view.specs.Calls.{Grew}
use Rattle.arc_view.specs.Passes.{newcomer}
use Rattle.arc_rule.specs.declared.step.Step.TheVariants.{Load, Exchange, Store, Or, And}
use Rattle.arc_rule.specs.declared.step.Intent.TheVariants as intents
use Rattle.arc_view_laws.specs.Strangers.{SeesNoStranger, makes_object}
use Rattle.arc_view_laws.proofs.Growing.{acts_of, told_grew}

abbrev pub counted : (Act → Bool) → ℕ → History → ℕ
counted f p h = count_by (λ e. is_of p e && f e.act) h

pub counted_cons : (f : Act → Bool) (p : ℕ) (e : Event) (h : History) → counted f p (e ∷ h) ≡ cond (is_of p e && f e.act) 1 0 + counted f p h
counted_cons f p e h = sum_by-cons (λ (v : Event). cond (is_of p v && f v.act) 1 0) e h

-- what is counted of p's events is by p's share alone
counted_share : (f : Act → Bool) (p : ℕ) (h : History) → counted f p h ≡ counted f p (share h p)
counted_share f p [] = refl
counted_share f p (e ∷ h) = counted_cons f p e h ∙ go (is_of p e) refl (counted_share f p h)
  where
    go : (b : Bool) → is_of p e ≡ b → counted f p h ≡ counted f p (share h p) → cond (is_of p e && f e.act) 1 0 + counted f p h ≡ counted f p (cond b (e ∷ share h p) (share h p))
    go true is ih = ap (λ n. cond (is_of p e && f e.act) 1 0 + n) ih ∙ sym (counted_cons f p e (share h p))
    go false is ih = let none : cond (is_of p e && f e.act) 1 0 ≡ zero = ap (λ b. cond (b && f e.act) 1 zero) is in omega (arith, none, ih)

pub counted_same : (f : Act → Bool) (p : ℕ) (h k : History) → share h p ≡ share k p → counted f p h ≡ counted f p k
counted_same f p h k same = counted_share f p h ∙ (ap (counted f p) same ∙ sym (counted_share f p k))

pub counted_one : (f : Act → Bool) (p : ℕ) (a : Act) (h k : History) → share h p ≡ record { thread = p; act = a } ∷ share k p → counted f p h ≡ cond (f a) 1 0 + counted f p k
counted_one f p a h k same =
    counted_share f p h ∙ (ap (counted f p) same ∙ (counted_cons f p (record { thread = p; act = a }) (share k p)
    ∙ (ap (λ b. cond (b && f a) 1 0 + counted f p (share k p)) (eq-eqb p p refl) ∙ ap (λ n. cond (f a) 1 0 + n) (sym (counted_share f p k)))))

-- the first pass sees no stranger after a step
pub told_alone : (shape : HeapShape) (intent : Intent) (st : Step) (v : View) (found : ℕ) (w : View) → Told shape intent st v found w → SeesNoStranger w
told_alone shape intent st v found w t = subst SeesNoStranger (sym t.after) (λ z p lt.
    share-append p (event_list v.number (act_of shape v st intent found)) (t.between ++ v.seen)
    ∙ (ap (λ l. l ++ share (t.between ++ v.seen) p) (share_of_other v.number p (act_of shape v st intent found) (λ e. omega (arith, e, z, lt))) ∙ t.strange z p lt))

-- how many objects the pass has made, after a call of no event, and of one
pub news_none : (n : ℕ) (v w : View) → Grew [] n v w → news w.number w.seen ≡ news v.number v.seen
news_none n v w g = ap (λ p. news p w.seen) g.number ∙ counted_same is_new v.number w.seen v.seen g.made

pub news_one : (a : Act) (n : ℕ) (v w : View) → Grew (a ∷ []) n v w → news w.number w.seen ≡ cond (is_new a) 1 0 + news v.number v.seen
news_one a n v w g = ap (λ p. news p w.seen) g.number ∙ counted_one is_new v.number a w.seen v.seen g.made

abbrev news_if : Option Act → ℕ
news_if None = zero
news_if (Some a) = cond (is_new a) 1 zero

news_told : (a : Option Act) (v w : View) → Grew (acts_of a) 1 v w → news w.number w.seen ≡ news_if a + news v.number v.seen
news_told None v w g = let e = news_none 1 v w g in omega (arith, e)
news_told (Some a) v w g = let e = news_one a 1 v w g in omega (arith, e)

news_when : (b : Bool) (a : Act) → is_new a ≡ false → news_if (when b a) ≡ zero
news_when true a e = ap (λ b. cond b 1 zero) e
news_when false a e = refl

news_first : (b : Bool) (a : Act) (m : Option Act) → is_new a ≡ false → news_if m ≡ zero → news_if (first_of b a m) ≡ zero
news_first true a m e rest = ap (λ b. cond b 1 zero) e
news_first false a m e rest = rest

news_cond : (b : Bool) (m : Option Act) → news_if m ≡ zero → news_if (cond b m None) ≡ zero
news_cond true m e = e
news_cond false m e = refl

-- a load for one reference more makes none
news_copied : (shape : HeapShape) (v : View) (pl : Place) (found : ℕ) (from : Origin) → news_if (loaded_act shape v pl found (intents.Copy from)) ≡ zero
news_copied shape v pl found from =
    let at = source_at v from in
    let full = is_full shape (kind_at at) (object_at (heap_of v) at) pl found in
    news_first (is_forever (kind_at at) (object_at (heap_of v) at) pl found) (acts.Copy from (next_hand v.number v.seen)) (when full (acts.CountFull (kind_at at) from)) refl (news_when full (acts.CountFull (kind_at at) from) refl)

news_unowned : (shape : HeapShape) (v : View) (pl : Place) (found of : ℕ) → news_if (loaded_act shape v pl found (intents.UnownedOf of)) ≡ zero
news_unowned shape v pl found of =
    let at = spot (Hand v.number of) (heap_of v) in
    let full = is_full shape Unowned (object_at (heap_of v) at) pl found in
    news_first (is_strong (kind_at at) && is_forever Unowned (object_at (heap_of v) at) pl found) (acts.UnownedOf of (next_hand v.number v.seen)) (when full (acts.CountFull Unowned (origins.Hand of))) refl (news_when full (acts.CountFull Unowned (origins.Hand of)) refl)

news_refused : (shape : HeapShape) (o : Option Object) (pl : Place) (found of : ℕ) (a : Act) → is_new a ≡ false → news_if (load_refused shape o pl found of a) ≡ zero
news_refused shape o pl found of a e =
    let full = is_full shape Strong o pl found in
    news_first (shows_end o pl found) a (when full (acts.CountFull Strong (origins.Hand of))) e (news_when full (acts.CountFull Strong (origins.Hand of)) refl)

news_load : (shape : HeapShape) (kind : Kind) (o : Option Object) (pl : Place) (found of n : ℕ) → news_if (load_shown shape kind o pl found of n) ≡ zero
news_load shape Strong o pl found of n = refl
news_load shape Unowned o pl found of n = news_first (is_forever Strong o pl found) (acts.Load of (got.Hand n)) (load_refused shape o pl found of (acts.Load of got.Dead)) refl (news_refused shape o pl found of (acts.Load of got.Dead) refl)
news_load shape Weak o pl found of n = news_refused shape o pl found of (acts.Load of got.Nil) refl

-- nor does a load of a search
news_searched : (shape : HeapShape) (v : View) (pl : Place) (found class : ℕ) → news_if (loaded_act shape v pl found (intents.New class)) ≡ zero
news_searched shape v places.Zero found class = refl
news_searched shape v (places.Global g) found class = refl
news_searched shape v (places.Count s) found class = refl
news_searched shape v (places.Isa s) found class = refl
news_searched shape v (places.Next s) found class = refl
news_searched shape v (places.Field s f) found class = refl
news_searched shape v (places.Link e) found class = refl
news_searched shape v (places.Strong e) found class = refl
news_searched shape v (places.Unowned e) found class = refl
news_searched shape v (places.Weak e) found class = refl
news_searched shape v (places.SlotBits k) found class = news_when _ acts.Full refl
news_searched shape v (places.EntryBits k) found class = refl

news_claimed : (shape : HeapShape) (v : View) (pl : Place) (found : ℕ) (of : Origin) → news_if (loaded_act shape v pl found (intents.Claim of)) ≡ zero
news_claimed shape v places.Zero found of = refl
news_claimed shape v (places.Global g) found of = refl
news_claimed shape v (places.Count s) found of = refl
news_claimed shape v (places.Isa s) found of = refl
news_claimed shape v (places.Next s) found of = refl
news_claimed shape v (places.Field s f) found of = refl
news_claimed shape v (places.Link e) found of = refl
news_claimed shape v (places.Strong e) found of = refl
news_claimed shape v (places.Unowned e) found of = refl
news_claimed shape v (places.Weak e) found of = refl
news_claimed shape v (places.SlotBits k) found of = refl
news_claimed shape v (places.EntryBits k) found of = news_when _ acts.NoEntry refl

-- an exchange makes none
news_hit : (v : View) (pl : Place) (old new : ℕ) (intent : Intent) → news_if (hit_act v pl old new intent) ≡ zero
news_hit v pl old new intents.Look = refl
news_hit v pl old new (intents.New class) = refl
news_hit v pl old new (intents.Copy from) = refl
news_hit v pl old new (intents.UnownedOf of) = refl
news_hit v pl old new (intents.WeakOf of) = refl
news_hit v pl old new (intents.Load of) = refl
news_hit v pl old new (intents.Drop k) = refl
news_hit v pl old new (intents.Claim of) = refl
news_hit v pl old new (intents.Publish of why) = refl
news_hit v pl old new intents.Back = refl
news_hit v pl old new (intents.Swap cell put) = refl
news_hit v pl old new (intents.Access cell) = refl
news_hit v pl old new (intents.Deinit slot) = refl
news_hit v pl old new intents.Vacate = refl
news_hit v pl old new intents.Gone = refl

-- a store makes none
news_stored_new : (v : View) (pl : Place) (class : ℕ) → news_if (stored_act v pl (intents.New class)) ≡ zero
news_stored_new v places.Zero class = refl
news_stored_new v (places.Global g) class = refl
news_stored_new v (places.Count s) class = refl
news_stored_new v (places.Isa s) class = refl
news_stored_new v (places.Next s) class = refl
news_stored_new v (places.Field s f) class = refl
news_stored_new v (places.Link e) class = refl
news_stored_new v (places.Strong e) class = refl
news_stored_new v (places.Unowned e) class = refl
news_stored_new v (places.Weak e) class = refl
news_stored_new v (places.SlotBits k) class = refl
news_stored_new v (places.EntryBits k) class = refl

news_stored_claim : (v : View) (pl : Place) (of : Origin) → news_if (stored_act v pl (intents.Claim of)) ≡ zero
news_stored_claim v places.Zero of = refl
news_stored_claim v (places.Global g) of = refl
news_stored_claim v (places.Count s) of = refl
news_stored_claim v (places.Isa s) of = refl
news_stored_claim v (places.Next s) of = refl
news_stored_claim v (places.Field s f) of = refl
news_stored_claim v (places.Link e) of = refl
news_stored_claim v (places.Strong e) of = refl
news_stored_claim v (places.Unowned e) of = refl
news_stored_claim v (places.Weak e) of = refl
news_stored_claim v (places.SlotBits k) of = refl
news_stored_claim v (places.EntryBits k) of = refl

news_stored_fill : (v : View) (pl : Place) (of : Origin) (why : Kind) → news_if (stored_act v pl (intents.Publish of why)) ≡ zero
news_stored_fill v places.Zero of why = refl
news_stored_fill v (places.Global g) of why = refl
news_stored_fill v (places.Count s) of why = refl
news_stored_fill v (places.Isa s) of why = refl
news_stored_fill v (places.Next s) of why = refl
news_stored_fill v (places.Field s f) of why = refl
news_stored_fill v (places.Link e) of why = refl
news_stored_fill v (places.Strong e) of why = refl
news_stored_fill v (places.Unowned e) of why = refl
news_stored_fill v (places.Weak e) of why = refl
news_stored_fill v (places.SlotBits k) of why = refl
news_stored_fill v (places.EntryBits k) of why = refl

news_stored_access : (v : View) (pl : Place) (cell : CellName) → news_if (stored_act v pl (intents.Access cell)) ≡ zero
news_stored_access v places.Zero cell = refl
news_stored_access v (places.Global g) cell = refl
news_stored_access v (places.Count s) cell = refl
news_stored_access v (places.Isa s) cell = refl
news_stored_access v (places.Next s) cell = refl
news_stored_access v (places.Field s f) cell = refl
news_stored_access v (places.Link e) cell = refl
news_stored_access v (places.Strong e) cell = refl
news_stored_access v (places.Unowned e) cell = refl
news_stored_access v (places.Weak e) cell = refl
news_stored_access v (places.SlotBits k) cell = refl
news_stored_access v (places.EntryBits k) cell = refl

news_stored_ended : (v : View) (pl : Place) (slot : ℕ) → news_if (stored_act v pl (intents.Deinit slot)) ≡ zero
news_stored_ended v places.Zero slot = refl
news_stored_ended v (places.Global g) slot = refl
news_stored_ended v (places.Count s) slot = refl
news_stored_ended v (places.Isa s) slot = refl
news_stored_ended v (places.Next s) slot = refl
news_stored_ended v (places.Field s f) slot = refl
news_stored_ended v (places.Link e) slot = refl
news_stored_ended v (places.Strong e) slot = refl
news_stored_ended v (places.Unowned e) slot = refl
news_stored_ended v (places.Weak e) slot = refl
news_stored_ended v (places.SlotBits k) slot = refl
news_stored_ended v (places.EntryBits k) slot = refl

-- nor an And, nor an Or for an entry
news_vacated : (pl : Place) (bits : ℕ) → news_if (and_act pl bits intents.Vacate) ≡ zero
news_vacated places.Zero bits = refl
news_vacated (places.Global g) bits = refl
news_vacated (places.Count s) bits = refl
news_vacated (places.Isa s) bits = refl
news_vacated (places.Next s) bits = refl
news_vacated (places.Field s f) bits = refl
news_vacated (places.Link e) bits = refl
news_vacated (places.Strong e) bits = refl
news_vacated (places.Unowned e) bits = refl
news_vacated (places.Weak e) bits = refl
news_vacated (places.SlotBits k) bits = refl
news_vacated (places.EntryBits k) bits = refl

news_back : (pl : Place) (bits : ℕ) → news_if (and_act pl bits intents.Back) ≡ zero
news_back places.Zero bits = refl
news_back (places.Global g) bits = refl
news_back (places.Count s) bits = refl
news_back (places.Isa s) bits = refl
news_back (places.Next s) bits = refl
news_back (places.Field s f) bits = refl
news_back (places.Link e) bits = refl
news_back (places.Strong e) bits = refl
news_back (places.Unowned e) bits = refl
news_back (places.Weak e) bits = refl
news_back (places.SlotBits k) bits = refl
news_back (places.EntryBits k) bits = refl

news_entry : (v : View) (pl : Place) (bits : ℕ) (of : Origin) → news_if (or_act v pl bits (intents.Claim of)) ≡ zero
news_entry v places.Zero bits of = refl
news_entry v (places.Global g) bits of = refl
news_entry v (places.Count s) bits of = refl
news_entry v (places.Isa s) bits of = refl
news_entry v (places.Next s) bits of = refl
news_entry v (places.Field s f) bits of = refl
news_entry v (places.Link e) bits of = refl
news_entry v (places.Strong e) bits of = refl
news_entry v (places.Unowned e) bits of = refl
news_entry v (places.Weak e) bits of = refl
news_entry v (places.SlotBits k) bits of = refl
news_entry v (places.EntryBits k) bits of = refl

-- a step makes an object where its Or for one finds the slot's bit clear
news_act : (shape : HeapShape) (v : View) (st : Step) (intent : Intent) (found : ℕ) → Admits shape v st intent → news_if (act_of shape v st intent found) ≡ cond (makes_object st intent found) 1 zero
news_act shape v (Load place) intents.Look found may = refl
news_act shape v (Load place) (intents.New class) found may = news_searched shape v (place_at (extent_of shape) place) found class
news_act shape v (Load place) (intents.Copy from) found may = news_copied shape v (place_at (extent_of shape) place) found from
news_act shape v (Load place) (intents.UnownedOf of) found may = news_unowned shape v (place_at (extent_of shape) place) found of
news_act shape v (Load place) (intents.WeakOf of) found may = news_when _ (acts.CountFull kinds.Weak (origins.Hand of)) refl
news_act shape v (Load place) (intents.Load of) found may =
    news_load shape (kind_at (spot (Hand v.number of) (heap_of v))) (object_at (heap_of v) (spot (Hand v.number of) (heap_of v))) (place_at (extent_of shape) place) found of (next_hand v.number v.seen)
news_act shape v (Load place) (intents.Drop k) found may = news_when _ (acts.Drop k false) refl
news_act shape v (Load place) (intents.Claim of) found may = news_claimed shape v (place_at (extent_of shape) place) found of
news_act shape v (Load place) (intents.Publish of why) found may = refl
news_act shape v (Load place) intents.Back found may = refl
news_act shape v (Load place) (intents.Swap cell put) found may = refl
news_act shape v (Load place) (intents.Access cell) found may = news_when _ (acts.Look cell) refl
news_act shape v (Load place) (intents.Deinit slot) found may = refl
news_act shape v (Load place) intents.Vacate found may = refl
news_act shape v (Load place) intents.Gone found may = refl
news_act shape v (Exchange place old new) intent found may = news_cond (found == old) (hit_act v (place_at (extent_of shape) place) old new intent) (news_hit v (place_at (extent_of shape) place) old new intent)
news_act shape v (Store place new) intents.Look found (pl, at, inside, never) = absurd (never)
news_act shape v (Store place new) (intents.New class) found may = news_stored_new v (place_at (extent_of shape) place) class
news_act shape v (Store place new) (intents.Copy from) found (pl, at, inside, never) = absurd (never)
news_act shape v (Store place new) (intents.UnownedOf of) found (pl, at, inside, never) = absurd (never)
news_act shape v (Store place new) (intents.WeakOf of) found (pl, at, inside, never) = absurd (never)
news_act shape v (Store place new) (intents.Load of) found (pl, at, inside, never) = absurd (never)
news_act shape v (Store place new) (intents.Drop k) found (pl, at, inside, never) = absurd (never)
news_act shape v (Store place new) (intents.Claim of) found may = news_stored_claim v (place_at (extent_of shape) place) of
news_act shape v (Store place new) (intents.Publish of why) found may = news_stored_fill v (place_at (extent_of shape) place) of why
news_act shape v (Store place new) intents.Back found (pl, at, inside, never) = absurd (never)
news_act shape v (Store place new) (intents.Swap cell put) found (pl, at, inside, never) = absurd (never)
news_act shape v (Store place new) (intents.Access cell) found may = news_stored_access v (place_at (extent_of shape) place) cell
news_act shape v (Store place new) (intents.Deinit slot) found may = news_stored_ended v (place_at (extent_of shape) place) slot
news_act shape v (Store place new) intents.Vacate found (pl, at, inside, never) = absurd (never)
news_act shape v (Store place new) intents.Gone found (pl, at, inside, never) = absurd (never)
news_act shape v (Or place bits) intents.Look found (pl, at, inside, owes, never) = absurd (never)
news_act shape v (Or place bits) (intents.Copy from) found (pl, at, inside, owes, never) = absurd (never)
news_act shape v (Or place bits) (intents.UnownedOf of) found (pl, at, inside, owes, never) = absurd (never)
news_act shape v (Or place bits) (intents.WeakOf of) found (pl, at, inside, owes, never) = absurd (never)
news_act shape v (Or place bits) (intents.Load of) found (pl, at, inside, owes, never) = absurd (never)
news_act shape v (Or place bits) (intents.Drop k) found (pl, at, inside, owes, never) = absurd (never)
news_act shape v (Or place bits) (intents.Claim of) found may = news_cond (bit_and found bits == 0) (or_act v (place_at (extent_of shape) place) bits (intents.Claim of)) (news_entry v (place_at (extent_of shape) place) bits of)
news_act shape v (Or place bits) (intents.Publish of why) found (pl, at, inside, owes, never) = absurd (never)
news_act shape v (Or place bits) intents.Back found (pl, at, inside, owes, never) = absurd (never)
news_act shape v (Or place bits) (intents.Swap cell put) found (pl, at, inside, owes, never) = absurd (never)
news_act shape v (Or place bits) (intents.Access cell) found (pl, at, inside, owes, never) = absurd (never)
news_act shape v (Or place bits) (intents.Deinit slot) found (pl, at, inside, owes, never) = absurd (never)
news_act shape v (Or place bits) intents.Vacate found (pl, at, inside, owes, never) = absurd (never)
news_act shape v (Or place bits) intents.Gone found (pl, at, inside, owes, never) = absurd (never)
news_act shape v (And place bits) intents.Look found (pl, at, inside, owes, never) = absurd (never)
news_act shape v (And place bits) (intents.New class) found (pl, at, inside, owes, never) = absurd (never)
news_act shape v (And place bits) (intents.Copy from) found (pl, at, inside, owes, never) = absurd (never)
news_act shape v (And place bits) (intents.UnownedOf of) found (pl, at, inside, owes, never) = absurd (never)
news_act shape v (And place bits) (intents.WeakOf of) found (pl, at, inside, owes, never) = absurd (never)
news_act shape v (And place bits) (intents.Load of) found (pl, at, inside, owes, never) = absurd (never)
news_act shape v (And place bits) (intents.Drop k) found (pl, at, inside, owes, never) = absurd (never)
news_act shape v (And place bits) (intents.Claim of) found (pl, at, inside, owes, never) = absurd (never)
news_act shape v (And place bits) (intents.Publish of why) found (pl, at, inside, owes, never) = absurd (never)
news_act shape v (And place bits) intents.Back found may = news_back (place_at (extent_of shape) place) bits
news_act shape v (And place bits) (intents.Swap cell put) found (pl, at, inside, owes, never) = absurd (never)
news_act shape v (And place bits) (intents.Access cell) found (pl, at, inside, owes, never) = absurd (never)
news_act shape v (And place bits) (intents.Deinit slot) found (pl, at, inside, owes, never) = absurd (never)
news_act shape v (And place bits) intents.Vacate found may = news_vacated (place_at (extent_of shape) place) bits
news_act shape v (And place bits) intents.Gone found (pl, at, inside, owes, never) = absurd (never)
news_act shape v (Or place bits) (intents.New class) found (pl, is, inside, free, (s, word, below, bits_is, is_class, room)) = go (bit_and found bits == 0)
  where
    taken : place_at (extent_of shape) place ≡ places.SlotBits (s / 64)
    taken = ap (place_at (extent_of shape)) is ∙ (place_at-number (extent_of shape) pl inside ∙ word)

    go : (b : Bool) → news_if (cond b (or_act v (place_at (extent_of shape) place) bits (intents.New class)) None) ≡ cond b 1 zero
    go true = ap (λ (q : Place). news_if (or_act v q bits (intents.New class))) taken
    go false = refl

pub news_step : (shape : HeapShape) (intent : Intent) (st : Step) (v : View) (found : ℕ) (w : View) → Admits shape v st intent → Told shape intent st v found w → news w.number w.seen ≡ cond (makes_object st intent found) 1 zero + news v.number v.seen
news_step shape intent st v found w allowed t =
    let a = news_told (act_of shape v st intent found) v w (told_grew shape intent st v found w t) in
    let b = news_act shape v st intent found allowed in omega (arith, a, b)

-- a pass that was just split off has made nothing
pub newcomer_made : (v : View) → SeesNoStranger v → v.number ≡ 0 → news (newcomer v).number (newcomer v).seen ≡ zero
newcomer_made v alone first = counted_same is_new (suc v.splits) v.seen [] (alone first (suc v.splits) (omega arith))
