-- A deinit looks at the fields of its object, one behind the other: past one that is nil it looks on, and what another leads to is taken out.
use Rattle.std.proofs.Common.{◌≡◌, ◌≢◌, ◌⊎◌, ⊎_elim, ℕ, ◌+◌, ◌-◌, ◌<◌, ◌≤◌, ◌==◌, ◌&&◌, not, Bool, true, false, cond, ltb, List, ◌∷◌, ◌++◌, length, Option, Some, None, refl, sym, ap, ◌∙◌, subst, arith, eq-eqb, ne_eqb}
use Rattle.std.specs.Prelude.{slice_get, is_some}
use Rattle.std.proofs.lemmas.Bool.{lt-ltb}
use Rattle.std.proofs.lemmas.Option.{slice_get-get_or}
use mathlib.Core.Logic.{dite}
use native.Mathlib.Decide.{ℕ_discrete}
use Rattle.arc_model.specs.declared.event.Act.{Act}
use Rattle.arc_model.specs.declared.event.CellName.{CellName}
use Rattle.arc_model.specs.declared.event.CellName.TheVariants as cells
use Rattle.arc_model.specs.declared.event.ObjectName.{ObjectName}
use Rattle.arc_model.specs.declared.shape.Kind.{Kind}
use Rattle.arc_model.specs.declared.shape.Kind.TheVariants.{Strong, Unowned, Weak}
use Rattle.arc_model.specs.declared.shape.RefShape.{RefShape}
use Rattle.arc_model.specs.Shapes.{HeapShape, class_at}
use Rattle.arc_model.specs.Heaps.{Object}
use Rattle.arc_model.specs.Heaps as holders
use Rattle.arc_model.specs.Holders.{at_slot}
use Rattle.arc_model.specs.Cells.{cell, field_shape, has_field, id_of, is_live, is_nil}
use Rattle.arc_model.specs.History.{History, heap_after}
use Rattle.arc_model.specs.Lookup.{spot}
use Rattle.arc_model.specs.References.{field_count, name_of}
use Rattle.arc_model.proofs.Basics.{None≢Some, Some-inj, some-strong, true≢false}
use Rattle.arc_spelling.specs.Spelling.{Note}
use Rattle.arc_spelling.specs.Spelling.Note.{Nil, Refers}
use Rattle.arc_spelling.specs.SpellingTies.{Holds}
use Rattle.arc_spelling.specs.SpellingTies.Causes.{Judged}
use Rattle.arc_rule.specs.Extents.{Extent}
use Rattle.arc_rule.specs.Places.{extent_of, number}
use Rattle.arc_rule.proofs.Places.{place_at-number}
use Rattle.arc_rule.specs.declared.layout.Place.{Place}
use Rattle.arc_rule.specs.declared.layout.Place.TheVariants.{Isa, Next, Field as FieldPlace}
use Rattle.arc_rule.specs.declared.step.Step.{Step}
use Rattle.arc_rule.specs.declared.step.Step.TheVariants.{Load, Store}
use Rattle.arc_rule.specs.declared.step.Intent.{Intent}
use Rattle.arc_rule.specs.declared.step.Intent.TheVariants as intents
use Rattle.arc_side.specs.Inline.{IsCountedInline}
use Rattle.arc_cells.specs.declared.cascade.At.TheVariants as ats
use Rattle.arc_cells.specs.Cascades.{CascadeState, CascadeTurn, asks as cascade_asks, field_kind, looks}
use Rattle.arc_cells.specs.Chains.{Frame}
use Rattle.arc_cells.specs.Drops.{IsPlaceOf}
use Rattle.arc_deinits.specs.Found.{name_in}
use Rattle.arc_deinits.specs.Stands.{chained}
use Rattle.arc_script.specs.Valid.{ref_at}
use Rattle.arc_ops.specs.Thread.{Thread}
use Rattle.arc_ops.specs.Drops.{deinit_tells, dying_on}
use Rattle.arc_ops.specs.Turns.{turned_at}
use Rattle.arc_ops.specs.Takes.{takes_at}
use Rattle.arc_spelled.specs.Spelled.{WordsHold}
use Rattle.arc_spelled.specs.StepperStands.{Work}
use Rattle.arc_spelled.proofs.KindsKept.{counted-field}
use Rattle.arc_view.specs.declared.view.View.{View}
use Rattle.arc_view.specs.declared.view.Working.{Working}
use Rattle.arc_view.specs.Holding.{heap_of}
use Rattle.arc_view.specs.Kinds.{goes_past, working_loaded}
use Rattle.arc_view.specs.Admission.{Admits}
use Rattle.arc_view.specs.Rule.{IsSized}
use Rattle.arc_view.specs.Steps.{Told, IsHeld, IsRead}
use Rattle.arc_view.proofs.Advance.{reach_there}
use Rattle.arc_view.proofs.Bridge.{dying_dead}
use Rattle.arc_view.proofs.Strongs.{slot_found}
use Rattle.arc_ops_passes.specs.Drives.{Due, IsDue, OwesAll, FieldLeads, dying_due, waits, deiniting}
use Rattle.arc_ops_passes.proofs.CellReads.{CellIsNil, CellLeads, cell_read}
use Rattle.arc_ops_passes.proofs.Chain.{under_chain, past_first}
use Rattle.arc_ops_passes.proofs.Dues.{owes_all_still}
use Rattle.arc_ops_passes.proofs.Fields.{few_fields}
use Rattle.arc_ops_passes.proofs.Names.{step_is, isa_no_field}
use Rattle.arc_ops_passes.proofs.Goes.{quiet, Facts, ComesUnder, told_by}
use Rattle.arc_ops_passes.proofs.Deinits.{state, dying, plus_none, going, fields_named, looks_on, due_below, silent}
use Rattle.arc_ops_passes.proofs.Enters.{free, may_read, Met, met_silent}

-- ---- the turn of a cascade

-- a thread whose cascade has made this of a word
abbrev pub cascaded : CascadeTurn → Thread → Thread
cascaded c t = dying_on c.after c.says (deinit_tells c.after.event t)

pub looks_cascaded : (c : CascadeState) (name : ObjectName) (field : ℕ) (t : Thread) → cascaded (looks c name field) t ≡ going (looks c name field) (deinit_tells c.event t)
looks_cascaded c name field t = by (ltb field (field_count c.shape name))
  where
    by : (b : Bool) → cascaded (cond b (cascade_asks c (ats.Looking name field) (Load (number c.layout (FieldPlace c.slot field)))) (cascade_asks c ats.Leaving (Load (number c.layout (Next c.slot))))) t
        ≡ going (cond b (cascade_asks c (ats.Looking name field) (Load (number c.layout (FieldPlace c.slot field)))) (cascade_asks c ats.Leaving (Load (number c.layout (Next c.slot))))) (deinit_tells c.event t)
    by true = refl
    by false = refl

-- ---- a field of an object with a name

pub few_named : (shape : HeapShape) (name : ObjectName) (field : ℕ) → IsSized shape → field < field_count shape name → field < 8
few_named shape name field sized inside = let few = few_fields shape name.class sized in omega (arith, few, inside)

pub has_named : (shape : HeapShape) (name : ObjectName) (field : ℕ) (o : Object) → field < field_count shape name → name_of o ≡ name → has_field shape field o ≡ true
has_named shape name field o inside named = let count = fields_named shape name o named in lt-ltb field (length (class_at shape o.class).fields) (omega (arith, inside, count))

pub shape_named : (shape : HeapShape) (name : ObjectName) (field : ℕ) (o : Object) → field < field_count shape name → name_of o ≡ name → field_shape shape field (Some o) ≡ Some (ref_at (class_at shape name.class).fields field)
shape_named shape name field o inside named =
    ap (λ (m : ObjectName). slice_get (class_at shape m.class).fields field) named ∙ slice_get-get_or (class_at shape name.class).fields field (record { kind = Strong; class = 0 }) inside

-- where such a reference may lead
counted_place : (l : Extent) (kind : Kind) (place : ℕ) → IsCountedInline kind → place < l.slots → IsPlaceOf l kind place
counted_place l Strong place counted below = below
counted_place l Unowned place counted below = below
counted_place l Weak place counted below = absurd counted

-- ---- what the word of a field shows

field_is : (l : Extent) (s f slot g : ℕ) → f < 8 → g < 8 → Load (number l (FieldPlace s f)) ≡ Load (number l (FieldPlace slot g)) → (s ≡ slot) × (f ≡ g)
field_is l s f slot g few lt e = let at = place e in (omega (arith, few, lt, at), omega (arith, few, lt, at))
  where
    place : Load (number l (FieldPlace s f)) ≡ Load (number l (FieldPlace slot g)) → number l (FieldPlace s f) ≡ number l (FieldPlace slot g)
    place e = cc

-- a load of one of the object that is noted with this name
field_shown : (shape : HeapShape) → IsSized shape → (l : Extent) (s f found p : ℕ) (h : History) (name : ObjectName) (now : List Note) → f < 8 → name_in s now ≡ Some name → (found ≡ 0 → Holds Judged shape (heap_after h) (Nil (cells.Field s f)))
    → (2 ≤ found → Holds Judged shape (heap_after h) (Refers (cells.Field s f) (field_kind shape name f) (found - 2))) → WordsHold Judged shape l (Some (Load (number l (FieldPlace s f)), intents.Deinit s)) (Some found) p None None h now
field_shown shape sized l s f found p h name now few named nil refers = record {
  names = λ slot x i asked why last. absurd (isa_no_field l slot s f eight few (sym (step_is (Load (number l (FieldPlace s f))) (Load (number l (Isa slot))) (intents.Deinit s) i asked)));
  refers = λ x e. absurd (None≢Some x e);
  nil_fields = λ slot g of asked last noted lt.
      let same = field_is l s f slot g few (few_named shape of g sized lt) (step_is (Load (number l (FieldPlace s f))) (Load (number l (FieldPlace slot g))) (intents.Deinit s) (intents.Deinit slot) asked) in
      subst (λ (x : ℕ × ℕ). Holds Judged shape (heap_after h) (Nil (cells.Field x.0 x.1))) (λ j. (same.0 j, same.1 j)) (nil (Some-inj last));
  fields = λ slot g x of asked last some noted lt.
      let same = field_is l s f slot g few (few_named shape of g sized lt) (step_is (Load (number l (FieldPlace s f))) (Load (number l (FieldPlace slot g))) (intents.Deinit s) (intents.Deinit slot) asked) in
      let is : name ≡ of = Some-inj (sym named ∙ (ap (λ y. name_in y now) same.0 ∙ noted)) in
      subst (λ (y : ℕ × ℕ × ObjectName × ℕ). Holds Judged shape (heap_after h) (Refers (cells.Field y.0 y.1) (field_kind shape y.2 y.1) (y.3 - 2))) (λ j. (same.0 j, same.1 j, is j, Some-inj last j)) (refers (subst (λ y. 2 ≤ y) (sym (Some-inj last)) some));
  entries = λ slot x y act i entry event. absurd (None≢Some act event);
}
  where
    eight : 8 ≤ 8
    eight = omega arith

module _ (w : Work) (t : Thread) (v : View) (s : ℕ) (n : ℕ × ℕ) (name : ObjectName) (field : ℕ) (e : Option Act) (f : Facts w t v (dying w s n (ats.Looking name field) e)) where
  abbrev deinit : Intent
  deinit = intents.Deinit s

  abbrev ReadField : Step
  ReadField = Load (number (extent_of w.shape) (FieldPlace s field))

  abbrev fs : List Frame
  fs = f.chain

  abbrev first : Due
  first = dying_due s (Some name) field

  owed : OwesAll w.shape v (dying_due s (Some name) field ∷ waits f.chain)
  owed = f.under_way.owes

  works : v.working ≡ deiniting (under_chain s field f.chain)
  works = f.under_way.working

  inside : field < field_count w.shape name
  inside = f.up_to.stands.up_to.0

  few : field < 8
  few = few_named w.shape name field f.sized inside

  below : s < w.shape.slots
  below = due_below w t v s n (ats.Looking name field) e f first owed.just.0

  pub look_allowed : Admits w.shape v (Load (number (extent_of w.shape) (FieldPlace s field))) (intents.Deinit s)
  look_allowed = (FieldPlace s field, refl, (below, few), free v (under_chain s field fs) works, may_read w.shape v s (Some name) field owed.just.0, tt)

  module _ (found : ℕ) (v' : View) (told : Told w.shape (intents.Deinit s) (Load (number (extent_of w.shape) (FieldPlace s field))) v found v') where
    abbrev h : History
    h = told.between ++ v.seen

    abbrev c : CellName
    c = cells.Field s field

    abbrev r : RefShape
    r = ref_at (class_at w.shape name.class).fields field

    owes_then : OwesAll w.shape v' (dying_due s (Some name) field ∷ waits f.chain)
    owes_then = owes_all_still w.shape (first ∷ waits fs) 1 v v' f.sized (told_by w.shape deinit ReadField v found v' None refl told) owed

    abbrev o : IsDue w.shape v' (dying_due s (Some name) field)
    o = owes_then.just.0

    m : Met w.shape v.number s (told.between ++ v.seen) v'.seen o.place o.object
    m = met_silent w.shape deinit ReadField v found v' told refl s (Some name) field o

    owner : id_of (at_slot s (heap_after (told.between ++ v.seen))) ≡ o.object.id
    owner = ap id_of m.found

    gives : IsRead w.shape v (told.between ++ v.seen) (FieldPlace s field) found
    gives = told.read (FieldPlace s field) tt (below, few) refl

    -- no pass reaches a field of an object that dies, so none accesses it
    not_busy : found ≢ 1
    not_busy one = never (gives.busy c refl one)
      where
        never : IsHeld w.shape v h c → ⊥
        never (q, who, reach) =
            let there = reach_there w.shape h q c m.legal reach in
            let same : there.1 ≡ o.object = Some-inj (sym (slot_found w.shape h there.0 s there.1 m.legal there.2 there.3) ∙ m.found) in
            true≢false (sym (ap not (some-strong w.shape there.1 there.4)) ∙ (ap (is_live w.shape) same ∙ dying_dead w.shape h v.number o.place o.object m.legal m.here m.duty))

    read : CellIsNil (told.between ++ v.seen) c found ⊎ CellLeads w.shape (told.between ++ v.seen) c r found
    read = cell_read w.shape h c r found m.legal told.met_in_shape (o.place, o.object, m.here, o.slot, has_named w.shape name field o.object inside o.named) (ap (field_shape w.shape field) m.found ∙ shape_named w.shape name field o.object inside o.named)
        (counted-field w f.served name.class field) (gives.says not_busy)

    loaded : v'.working ≡ cond (s == s && found == 0) (record v.working { entered = goes_past s field v.working.entered }) v.working
    loaded = ap (λ (x : View). x.working) told.after ∙ ap (λ (q : Place). working_loaded v.working q found deinit) (place_at-number (extent_of w.shape) (FieldPlace s field) (below, few))

    -- the cascade as its turn is worked out
    abbrev turning : CascadeState
    turning = state w s n ats.Ended None

    abbrev x : Thread
    x = deinit_tells None (quiet t)

    abbrev Then : CascadeTurn → Type 0
    Then turn = ComesUnder f.chain w t v ReadField deinit found v' h (dying w s n (ats.Looking name field) e) (cascaded turn (quiet t))

    -- ---- past a field that is nil
    module _ (z : CellIsNil (told.between ++ v.seen) c found) where
      nil_here : is_nil (heap_of v') (holders.Field o.object.id field) ≡ true
      nil_here = (λ j. is_nil (heap_after (m.same j)) (holders.Field (sym owner j) field)) ∙ ap (λ y. not (is_some y)) z.nothing

      owes_more : OwesAll w.shape v' (dying_due s (Some name) (field + 1) ∷ waits f.chain)
      owes_more = record {
        apart = owes_then.apart;
        just = (
          record {
            place = o.place;
            object = o.object;
            here = o.here;
            slot = o.slot;
            owes = o.owes;
            bare = o.bare;
            named = o.named;
            nils = λ g lt. dite (ℕ_discrete g field) (λ is. ap (λ y. is_nil (heap_of v') (holders.Field o.object.id y)) is ∙ nil_here) (λ ne. o.nils g (omega (arith, lt, ne)));
            inside = let count = fields_named w.shape name o.object o.named in let in_it = inside in omega (arith, count, in_it);
          },
          owes_then.just.1,
        );
      }

      works_past : v'.working ≡ deiniting (under_chain s (field + 1) f.chain)
      works_past = loaded ∙ ((λ j. cond (eq-eqb s s refl j && eq-eqb found 0 z.word j) (record v.working { entered = goes_past s field v.working.entered }) v.working)
          ∙ (ap (λ (y : Working). record y { entered = goes_past s field y.entered }) works ∙ (ap deiniting (past_first s field fs owed.apart.0) ∙ ap (λ k. deiniting (under_chain s k fs)) (omega arith))))

      goes_on : Then (looks turning name (field + 1))
      goes_on = subst (λ u. ComesUnder f.chain w t v ReadField deinit found v' h (dying w s n (ats.Looking name field) e) u) (sym (looks_cascaded turning name (field + 1) (quiet t)))
          (silent w t v s n (ats.Looking name field) e f fs ReadField deinit found v' told refl (λ ne. absurd (ne z.word)) x (going (looks turning name (field + 1)) x) (λ g. 0) refl (plus_none t.hands) refl (λ g. refl)
          (looks_on w fs v' s n None name (field + 1) x owes_more works_past) (λ now noted. field_shown w.shape f.sized (extent_of w.shape) s field found w.thread h name now few noted
          (λ zero_is. ap (λ y. not (is_some y)) z.nothing) (λ some. let none = z.word in absurd (omega (arith, some, none)))))

    -- ---- to the one that isn't
    module _ (l : CellLeads w.shape (told.between ++ v.seen) c r found) where
      back : found - 2 ≡ l.slot
      back = let is = l.word in omega (arith, is)

      some_word : found ≢ 0
      some_word zero_is = let is = l.word in omega (arith, is, zero_is)

      leads : FieldLeads v' s field (field_kind w.shape name field) (found - 2)
      leads = record {
        index = l.place;
        object = l.object;
        refers = (λ j. spot (cell (heap_after (m.same j)) c) (heap_after (m.same j))) ∙ l.at;
        here = ap (λ k. slice_get (heap_after k).objects l.place) m.same ∙ l.here;
        slot = l.in_slot ∙ ap Some (sym back);
      }

      works_there : v'.working ≡ deiniting (under_chain s field f.chain)
      works_there = loaded ∙ ((λ j. cond (eq-eqb s s refl j && ne_eqb found 0 some_word j) (record v.working { entered = goes_past s field v.working.entered }) v.working) ∙ works)

      takes : takes_at w.shape (Some found) (dying w s n (ats.Looking name field) e)
      takes ne = (
        (let is = l.word in omega (arith, is)),
        counted_place (extent_of w.shape) (field_kind w.shape name field) (found - 2) (counted-field w f.served name.class field) (let is = back in let lt = l.below in omega (arith, is, lt)),
      )

      begins : Then (cascade_asks turning (ats.Taking name field (found - 2)) (Store (number (extent_of w.shape) (FieldPlace s field)) 0))
      begins = silent w t v s n (ats.Looking name field) e f fs ReadField deinit found v' told refl takes x (cascaded (cascade_asks turning (ats.Taking name field (found - 2)) (Store (number (extent_of w.shape) (FieldPlace s field)) 0)) (quiet t)) (λ g. 0) refl (plus_none t.hands) refl (λ g. refl)
          (record { hands = refl; vars = refl; event = refl; held = λ g. refl; coming = tt; asks = (refl, refl); under_way = record { name = name; working = works_there; owes = owes_then; rests = leads } })
          (λ now noted. field_shown w.shape f.sized (extent_of w.shape) s field found w.thread h name now few noted (λ zero_is. absurd (some_word zero_is))
          (λ some. l.refers ∙ ap (λ k. Some (record { kind = field_kind w.shape name field; place = k })) (sym back)))

    abbrev turn_if : Bool → CascadeTurn
    turn_if b = cond b (looks turning name (field + 1)) (cascade_asks turning (ats.Taking name field (found - 2)) (Store (number (extent_of w.shape) (FieldPlace s field)) 0))

    pub look_comes : ComesUnder (chained (state w s n (ats.Looking name field) e) (Some found) f.chain) w t v (Load (number (extent_of w.shape) (FieldPlace s field))) (intents.Deinit s) found v' (told.between ++ v.seen) (dying w s n (ats.Looking name field) e)
        (turned_at (Some found) (dying w s n (ats.Looking name field) e) (quiet t))
    look_comes = ⊎_elim (λ z. subst (λ b. Then (turn_if b)) (sym (eq-eqb found 0 z.word)) (goes_on z)) (λ l. subst (λ b. Then (turn_if b)) (sym (ne_eqb found 0 (some_word l))) (begins l)) read
