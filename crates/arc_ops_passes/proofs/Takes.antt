-- A deinit takes out of a field what it led to: that comes into the thread's next hand, and is dropped.
use Rattle.std.proofs.Common.{◌≡◌, ◌≢◌, ℕ, suc, ◌+◌, ◌<◌, not, true, false, cond, List, [], ◌∷◌, ◌++◌, Option, Some, None, refl, sym, ap, ◌∙◌, subst, arith, ne_eqb}
use Rattle.std.specs.Prelude.{slice_get, is_some, ⊤}
use mathlib.Core.Logic.{dite}
use native.Mathlib.Decide.{ℕ_discrete}
use Rattle.arc_model.specs.declared.event.Act.{Act}
use Rattle.arc_model.specs.declared.event.Act.TheVariants as acts
use Rattle.arc_model.specs.declared.event.CellName.{CellName}
use Rattle.arc_model.specs.declared.event.CellName.TheVariants as cells
use Rattle.arc_model.specs.declared.event.Event.{Event}
use Rattle.arc_model.specs.declared.event.ObjectName.{ObjectName}
use Rattle.arc_model.specs.declared.shape.Kind.{Kind}
use Rattle.arc_model.specs.declared.shape.Kind.TheVariants.{Strong, Unowned, Weak}
use Rattle.arc_model.specs.Shapes.{HeapShape}
use Rattle.arc_model.specs.Heaps.{Holder, Hand, Deinit, Object}
use Rattle.arc_model.specs.Heaps as holders
use Rattle.arc_model.specs.Holders.{at_slot, held_by}
use Rattle.arc_model.specs.Cells.{cell, id_of, is_nil}
use Rattle.arc_model.specs.History.{History, heap_after, share, IsLegal}
use Rattle.arc_model.specs.Lookup.{spot, duty_of}
use Rattle.arc_model.specs.Own.{brought}
use Rattle.arc_model.specs.References.{field_count}
use Rattle.arc_model.proofs.Basics.{Some-inj}
use Rattle.arc_model.proofs.CellSpots.{cells_after}
use Rattle.arc_model.proofs.Duties.{own_duties}
use Rattle.arc_model.proofs.Fields.{others_leave_fields}
use Rattle.arc_model.proofs.Others.{lookup_after, not-among, spot-find}
use Rattle.arc_model.proofs.Own.{own_gains}
use Rattle.arc_model.proofs.Tally.{same-refl}
use Rattle.arc_rule.specs.Places.{extent_of, number}
use Rattle.arc_rule.proofs.Places.{place_at-number}
use Rattle.arc_rule.specs.declared.layout.Place.{Place}
use Rattle.arc_rule.specs.declared.layout.Place.TheVariants.{Field as FieldPlace}
use Rattle.arc_rule.specs.declared.step.Step.{Step}
use Rattle.arc_rule.specs.declared.step.Step.TheVariants.{Store}
use Rattle.arc_rule.specs.declared.step.Intent.{Intent}
use Rattle.arc_rule.specs.declared.step.Intent.TheVariants as intents
use Rattle.arc_side.specs.Inline.{IsCountedInline}
use Rattle.arc_cells.specs.declared.cascade.At.TheVariants as ats
use Rattle.arc_cells.specs.declared.ref_drop.At.TheVariants as drops
use Rattle.arc_cells.specs.Cascades.{CascadeState, drops_by, field_kind, has_taken}
use Rattle.arc_cells.specs.Chains.{Frame}
use Rattle.arc_cells.specs.Drops.{Dropping, DropTurn, counts_down, drop_begins}
use Rattle.arc_deinits.specs.Stands.{chained}
use Rattle.arc_ops.specs.declared.stepper.Held.{Held}
use Rattle.arc_ops.specs.Thread.{Thread}
use Rattle.arc_ops.specs.Turns.{turned_at}
use Rattle.arc_ops.specs.Takes.{HasHandLeft, takes_at}
use Rattle.arc_spelled.specs.StepperStands.{Work}
use Rattle.arc_spelled.proofs.KindsKept.{counted-field}
use Rattle.arc_view.specs.declared.view.View.{View}
use Rattle.arc_view.specs.declared.view.Working.{Working}
use Rattle.arc_view.specs.Holding.{At, heap_of}
use Rattle.arc_view.specs.Kinds.{act_of, event_list, goes_on, stored_act, working_stored}
use Rattle.arc_view.specs.Admission.{Admits}
use Rattle.arc_view.specs.Calls.{Called}
use Rattle.arc_view.specs.Rule.{CellStays}
use Rattle.arc_view.specs.Steps.{Told}
use Rattle.arc_view.proofs.Held.{Held as Kept, Busy, listed_busy, stays_after}
use Rattle.arc_view.proofs.Keeps.{stays_self, stays_more}
use Rattle.arc_view.proofs.Owed.{OwedLater, owed_stays, owes_it}
use Rattle.arc_view.proofs.Strongs.{slot_found}
use Rattle.arc_view_laws.proofs.Moving.{moved}
use Rattle.arc_ops_passes.specs.References.{Leads, references}
use Rattle.arc_ops_passes.specs.Drives.{Due, IsDue, OwesAll, FieldLeads, dying_due, waits, deiniting}
use Rattle.arc_ops_passes.proofs.Cells.{listed, cell_holds}
use Rattle.arc_ops_passes.proofs.Chain.{under_chain, on_first, first_entered}
use Rattle.arc_ops_passes.proofs.Dues.{DueLater, DiesBut, due_on, just_on, waiting_but}
use Rattle.arc_ops_passes.proofs.Owned.{not_weak, leads_on, owns_more}
use Rattle.arc_ops_passes.proofs.Goes.{quiet, Facts, ComesUnder, knows_none, told_by, classed_on, claims_on, nothing_shown}
use Rattle.arc_ops_passes.proofs.Deinits.{state, dying, fields_named, due_below}
use Rattle.arc_ops_passes.proofs.Enters.{free}
use Rattle.arc_ops_passes.proofs.Looks.{cascaded, few_named, has_named}

-- while a pass owes the deinit of an object, no other changes its fields
dying_field_stays : (shape : HeapShape) (p i s f : ℕ) (o : Object) (before after : History) → IsLegal shape (after ++ before) → share after p ≡ [] → At (heap_after before) i o → duty_of p i (heap_after before) ≡ Some Deinit → o.slot ≡ Some s
    → CellStays (after ++ before) before (cells.Field s f)
dying_field_stays shape p i s f o before [] legal none here duty slot = stays_self before (cells.Field s f)
dying_field_stays shape p i s f o before (e ∷ after) legal none here duty slot =
    let apart = not-among p e after none in
    let owes = owes_it before p i Deinit o here duty in
    let then = is_field (e ∷ after) legal none in
    let was = is_field after legal.1 apart.1 in
    stays_more e.thread (Some e.act) (after ++ before) before (cells.Field s f) (after, refl) (then ∙ sym was)
    (ap (λ z. spot z (heap_after (e ∷ after ++ before))) then
    ∙ (others_leave_fields shape p before (e ∷ after) i o f legal none here owes
    ∙ (sym (others_leave_fields shape p before after i o f legal.1 apart.1 here owes) ∙ sym (ap (λ z. spot z (heap_after (after ++ before))) was))))
    (dying_field_stays shape p i s f o before after legal.1 apart.1 here duty slot)
  where
    is_field : (after : History) → IsLegal shape (after ++ before) → share after p ≡ [] → cell (heap_after (after ++ before)) (cells.Field s f) ≡ holders.Field o.id f
    is_field after legal none =
        let m = owed_stays shape p i Deinit o before after legal none here duty in
        ap (λ y. holders.Field (id_of y) f) (slot_found shape (after ++ before) i s m.q legal m.here (m.slot ∙ slot)) ∙ ap (λ y. holders.Field y f) m.id

-- the drop of a strong or an unowned reference begins with its count
begins_count : (p : Dropping) (kind : Kind) → IsCountedInline kind → drop_begins p kind ≡ counts_down p
begins_count p Strong counted = refl
begins_count p Unowned counted = refl
begins_count p Weak counted = absurd counted

module _ (w : Work) (t : Thread) (v : View) (s : ℕ) (n : ℕ × ℕ) (name : ObjectName) (field place : ℕ) (e : Option Act) (f : Facts w t v (dying w s n (ats.Taking name field place) e)) where
  abbrev deinit : Intent
  deinit = intents.Deinit s

  abbrev TakeField : Step
  TakeField = Store (number (extent_of w.shape) (FieldPlace s field)) 0

  abbrev fs : List Frame
  fs = f.chain

  abbrev c : CellName
  c = cells.Field s field

  abbrev kind : Kind
  kind = field_kind w.shape name field

  abbrev first : Due
  first = dying_due s (Some name) field

  abbrev owed : OwesAll w.shape v (dying_due s (Some name) field ∷ waits f.chain)
  owed = f.under_way.owes

  abbrev q : IsDue w.shape v (dying_due s (Some name) field)
  q = f.under_way.owes.just.0

  abbrev rests : FieldLeads v s field (field_kind w.shape name field) place
  rests = f.under_way.rests

  works : v.working ≡ deiniting (under_chain s field f.chain)
  works = f.under_way.working

  inside : field < field_count w.shape name
  inside = f.up_to.stands.up_to.inside

  few : field < 8
  few = few_named w.shape name field f.sized inside

  below : s < w.shape.slots
  below = due_below w t v s n (ats.Taking name field place) e f first q

  counted : IsCountedInline (field_kind w.shape name field)
  counted = counted-field w f.served name.class field

  not_nil : is_nil (heap_of v) (holders.Field q.object.id field) ≡ false
  not_nil =
      ap (λ y. is_nil (heap_of v) (holders.Field (id_of y) field)) (sym (slot_found w.shape v.seen q.place s q.object f.legal q.here q.slot))
      ∙ ap not (sym (spot-find (cell (heap_of v) c) (heap_of v).objects) ∙ ap is_some rests.refers)

  pub take_allowed : Admits w.shape v (Store (number (extent_of w.shape) (FieldPlace s field)) 0) (intents.Deinit s)
  take_allowed = (
    FieldPlace s field,
    refl,
    (below, few),
    (free v (under_chain s field fs) works, (q.place, q.object, refl, refl, q.here, q.slot, q.owes, first_entered v s field fs works, has_named w.shape name field q.object inside q.named, q.nils, not_nil)),
  )

  -- what comes has the thread's next hand
  hands_are : n.0 + n.1 ≡ t.hands
  hands_are = f.up_to.stands.hands ∙ sym f.hands_is

  abbrev hand : ℕ
  hand = n.0 + n.1 + 1

  module _ (left : HasHandLeft t) (found : ℕ) (v' : View) (told : Told w.shape (intents.Deinit s) (Store (number (extent_of w.shape) (FieldPlace s field)) 0) v found v') where
    abbrev h : History
    h = told.between ++ v.seen

    abbrev act : Act
    act = acts.Take s field hand

    abbrev event : Event
    event = record { thread = v.number; act = act }

    act_is : act_of w.shape v (Store (number (extent_of w.shape) (FieldPlace s field)) 0) (intents.Deinit s) found ≡ Some (acts.Take s field (n.0 + n.1 + 1))
    act_is = ap (λ (pl : Place). stored_act v pl deinit) (place_at-number (extent_of w.shape) (FieldPlace s field) (below, few)) ∙ ap (λ k. Some (acts.Take s field k)) (f.next ∙ ap (λ k. k + 1) (sym hands_are))

    called : Called w.shape (acts.Take s field (n.0 + n.1 + 1) ∷ []) 1 v v'
    called = told_by w.shape deinit TakeField v found v' (Some act) act_is told

    number_is : v'.number ≡ v.number
    number_is = ap (λ (x : View). x.number) told.after

    seen_is : v'.seen ≡ record { thread = v.number; act = acts.Take s field (n.0 + n.1 + 1) } ∷ told.between ++ v.seen
    seen_is = ap (λ (x : View). x.seen) told.after ∙ ap (λ b. event_list v.number b ++ h) act_is

    legal : IsLegal w.shape (record { thread = v.number; act = acts.Take s field (n.0 + n.1 + 1) } ∷ told.between ++ v.seen)
    legal = subst (IsLegal w.shape) seen_is told.legal

    -- ---- the field is nil then

    abbrev z : Holder
    z = cell (heap_after (told.between ++ v.seen)) (cells.Field s field)

    nothing : held_by z (heap_after (event ∷ h)) ≡ None
    nothing = (lookup_after w.shape (event ∷ h) z legal refl).nowhere (cells_after w.shape h event z legal refl ∙ ap (λ b. cond b None (spot z (heap_after h))) (same-refl z))

    due_then : (d : Due) → d.duty ≡ Deinit → (o : IsDue w.shape v d) → DueLater w.shape v' d o.place
    due_then d is o = due_on w.shape d event told.between v v' is number_is seen_is legal told.others o (own_duties w.shape h event o.place legal)

    its : DueLater w.shape v' (dying_due s (Some name) field) q.place
    its = due_then first refl q

    met : OwedLater q.place q.object (told.between ++ v.seen)
    met = owed_stays w.shape v.number q.place Deinit q.object v.seen told.between legal.1 told.others q.here q.owes

    same : its.0.object.id ≡ id_of (at_slot s (heap_after (told.between ++ v.seen)))
    same =
        let after = stays_after w.shape event h legal q.place met.q met.here in
        let object : its.0.object ≡ after.q = Some-inj (sym its.0.here ∙ ((λ j. slice_get (heap_after (seen_is j)).objects (its.1 j)) ∙ after.here)) in
        ap (λ (o : Object). o.id) object ∙ (after.id ∙ sym (ap id_of (slot_found w.shape h q.place s met.q legal.1 met.here (met.slot ∙ q.slot))))

    nil_there : is_nil (heap_of v') (holders.Field its.0.object.id field) ≡ true
    nil_there = (λ j. is_nil (heap_after (seen_is j)) (holders.Field (same j) field)) ∙ ap (λ y. not (is_some y)) nothing

    owes_then : OwesAll w.shape v' (dying_due s (Some name) (suc field) ∷ waits f.chain)
    owes_then = let o = its.0 in record {
      apart = owed.apart;
      just = (
        record {
          place = o.place;
          object = o.object;
          here = o.here;
          slot = o.slot;
          owes = o.owes;
          bare = o.bare;
          named = o.named;
          nils = λ g lt. dite (ℕ_discrete g field) (λ is. ap (λ y. is_nil (heap_of v') (holders.Field its.0.object.id y)) is ∙ nil_there) (λ ne. o.nils g (omega (arith, lt, ne)));
          inside = let count = fields_named w.shape name o.object o.named in let in_it = inside in omega (arith, count, in_it);
        },
        just_on w.shape v v' (DiesBut s) (waits fs) (λ i. ⊤ × (i ≢ q.place)) (λ i. ⊤ × (i ≢ its.0.place)) (waiting_but s fs owed.apart.0) (λ d but o. due_then d but.0 o)
            (λ i r none. let m = moved w.shape act 1 v v' called in m.duties i ∙ (m.had.duties i ∙ none (tt, λ is. r.1 (is ∙ sym its.1)))) owed.just.1,
      );
    }

    -- ---- what it led to has the next hand

    stays : CellStays (told.between ++ v.seen) v.seen (cells.Field s field)
    stays = dying_field_stays w.shape v.number q.place s field q.object v.seen told.between legal.1 told.others q.here q.owes q.slot

    led : spot z (heap_after (told.between ++ v.seen)) ≡ Some (record { place = rests.index; kind = field_kind w.shape name field })
    led = stays.refers h ([], refl) (told.between, refl) ∙ rests.refers

    kept : Kept (field_kind w.shape name field) rests.index rests.object (heap_after (told.between ++ v.seen))
    kept = cell_holds w.shape c rests.index kind rests.object v.seen told.between legal.1 stays rests.refers rests.here

    busy : Busy kept.q
    busy = listed_busy kind z kept.q (listed w.shape h z rests.index kind kept.q legal.1 refl led kept.here) (not_weak kind counted)

    abbrev new : Held
    new = record { hand = hand; kind = kind; place = place }

    leads : Leads v' (record { hand = n.0 + n.1 + 1; kind = field_kind w.shape name field; place = place })
    leads = let on = stays_after w.shape event h legal rests.index kept.q kept.here in (
      counted,
      rests.index,
      on.q,
      (λ j. spot (Hand (number_is j) hand) (heap_after (seen_is j))) ∙ (own_gains w.shape h event hand legal refl ∙ led),
      ap (λ l. slice_get (heap_after l).objects rests.index) seen_is ∙ on.here,
      on.slot busy ∙ (kept.slot (not_weak kind counted) ∙ rests.slot),
    )

    spots : (k : ℕ) → k ≢ t.hands + 1 → spot (Hand v'.number k) (heap_of v') ≡ spot (Hand v.number k) (heap_of v)
    spots k ne =
        let m = moved w.shape act 1 v v' called in
        m.hands k ∙ ap (λ b. cond b (brought (heap_after m.met) v.number act) (spot (Hand v.number k) (heap_of v))) (ne_eqb hand k (λ is. ne (sym is ∙ ap (λ j. j + 1) hands_are)))

    -- ---- and is dropped

    works_then : v'.working ≡ deiniting (under_chain s (suc field) f.chain)
    works_then = ap (λ (x : View). x.working) told.after ∙ (ap (λ (pl : Place). working_stored (number (extent_of w.shape)) v.working pl 0 deinit) (place_at-number (extent_of w.shape) (FieldPlace s field) (below, few))
        ∙ (ap (λ (x : Working). record x { entered = goes_on s (suc field) x.entered }) works ∙ ap deiniting (on_first s field (suc field) fs owed.apart.0)))

    takes : takes_at w.shape (Some found) (dying w s n (ats.Taking name field place) e)
    takes = (
      λ x. cc,
      (
          let is = hands_are in
          let most = f.stepper.hands in
          let index = f.stepper.index in
          let program = f.stepper.few in
          let cleared = f.stepper.cleared in
          let globals = f.stepper.globals in
          omega (arith, is, most, index, program, cleared, globals, left)
          ),
    )

    -- the cascade as its turn is worked out, and the drop
    abbrev turning : CascadeState
    turning = state w s n ats.Ended None

    abbrev drop : Dropping
    drop = record { layout = extent_of w.shape; hand = hand; kind = kind; place = place; at = drops.Ended; event = None }

    abbrev Then : DropTurn → Type 0
    Then turn = ComesUnder f.chain w t v TakeField deinit found v' h (dying w s n (ats.Taking name field place) e) (cascaded (drops_by (has_taken turning field) name field turn) (quiet t))

    counts : Then (counts_down drop)
    counts = record {
      takes_it = takes;
      event = act_is;
      holds = λ now noted. nothing_shown w.shape f.sized (extent_of w.shape) TakeField deinit found w.thread (Some act) h tt tt now;
      knows = knows_none v';
      count = f.count;
      owns = owns_more v v' t.hands (references t.vars t.hands (dying w s n (ats.Taking name field place) e)) (references t.vars (t.hands + 1) (cascaded (drops_by (has_taken turning field) name field (counts_down drop)) (quiet t)).doing) new f.owns
          (ap (λ j. j + 1) hands_are) (λ g. omega arith) leads (λ x. leads_on w.shape act 1 v v' x called refl) spots;
      classed = classed_on w.shape 1 act w.classes v v' t.vars called (λ x held is. refl) f.classed;
      coming = tt;
      no_claim = claims_on w.shape 1 act v v' called (λ m k. refl) f.no_claim;
      asks = (refl, (refl, (refl, refl)));
      under_way = record { name = name; working = works_then; owes = owes_then; rests = tt };
    }

    pub take_comes : ComesUnder (chained (state w s n (ats.Taking name field place) e) (Some found) f.chain) w t v (Store (number (extent_of w.shape) (FieldPlace s field)) 0) (intents.Deinit s) found v' (told.between ++ v.seen) (dying w s n (ats.Taking name field place) e)
        (turned_at (Some found) (dying w s n (ats.Taking name field place) e) (quiet t))
    take_comes = subst Then (sym (begins_count drop kind counted)) counts
