-- A reference that none of the stepper's variables has is given up: what its count may show, and what a step leaves that takes it away.
use Rattle.std.proofs.Common.{◌≡◌, ◌≢◌, inl, ℕ, ◌+◌, ◌<◌, ◌==◌, ◌&&◌, ◌||◌, Bool, true, false, cond, List, [], ◌∷◌, ◌++◌, length, option_map, Option, Some, None, refl, sym, ap, ◌∙◌, subst, arith, eq-eqb, ne_eqb}
use Rattle.std.specs.Prelude.{is_none, slice_get}
use Rattle.arc_bits.specs.declared.packing.Inline.{Inline}
use Rattle.arc_bits.specs.declared.packing.Word.{Word}
use Rattle.arc_bits.specs.declared.packing.Word.TheVariants.{Counts}
use Rattle.arc_bits.specs.Words.{IsWordOf}
use Rattle.arc_model.specs.declared.event.Act.{Act}
use Rattle.arc_model.specs.declared.event.Act.TheVariants as acts
use Rattle.arc_model.specs.declared.event.Event.{Event}
use Rattle.arc_model.specs.declared.shape.Kind.{Kind}
use Rattle.arc_model.specs.declared.shape.Kind.TheVariants.{Weak}
use Rattle.arc_model.specs.Cells.{same_kind}
use Rattle.arc_model.specs.Heaps.{Holder, Hand, Object}
use Rattle.arc_model.specs.Holders.{is_in, at_slot, is_claimed_by, has_entry, kind_in, held_by, list_of}
use Rattle.arc_model.specs.History.{History, heap_after, IsLegal}
use Rattle.arc_model.specs.Lookup.{spot}
use Rattle.arc_model.specs.Needs.{passes}
use Rattle.arc_model.proofs.Others.{lookup_after, others_leave}
use Rattle.arc_spelling.specs.SpellingTies.Causes.{Judged}
use Rattle.arc_rule.specs.Places.{extent_of, number, place_at}
use Rattle.arc_rule.proofs.Places.{place_at-number}
use Rattle.arc_rule.specs.Shown.{ShowsCounts}
use Rattle.arc_rule.specs.declared.layout.Place.{Place}
use Rattle.arc_rule.specs.declared.layout.Place.TheVariants.{Count}
use Rattle.arc_rule.specs.declared.step.Step.{Step}
use Rattle.arc_rule.specs.declared.step.Step.TheVariants.{Load, Exchange}
use Rattle.arc_rule.specs.declared.step.Intent.{Intent}
use Rattle.arc_rule.specs.declared.step.Intent.TheVariants as intents
use Rattle.arc_side.specs.Inline.{IsCountedInline}
use Rattle.arc_cells.specs.Chains.{Frame}
use Rattle.arc_ops.specs.declared.stepper.Held.{Held}
use Rattle.arc_ops.specs.declared.stepper.Doing.{Doing}
use Rattle.arc_ops.specs.Thread.{Thread, value}
use Rattle.arc_ops.specs.Takes.{takes_at}
use Rattle.arc_spelled.specs.Came.{CameOut, came_out_at}
use Rattle.arc_spelled.specs.Spelled.{WordsHold}
use Rattle.arc_spelled.specs.StepperStands.{Work}
use Rattle.arc_view.specs.declared.view.View.{View}
use Rattle.arc_view.specs.Views.{Each}
use Rattle.arc_view.specs.Holding.{HasClaim, heap_of}
use Rattle.arc_view.specs.Rule.{IsWithin}
use Rattle.arc_view.specs.Kinds.{act_of, event_list, object_at, is_forever, is_last, is_last_in, when, loaded_act, working_loaded, hit_act, working_after}
use Rattle.arc_view.specs.Admission.{Admits, IsDown}
use Rattle.arc_view.specs.Steps.{Told}
use Rattle.arc_view.specs.Calls.{Called}
use Rattle.arc_view.proofs.Counting.{inline_counts}
use Rattle.arc_view.proofs.Held.{Held as HeldLater, Stays, held_stays, hand_listed, listed_busy, stays_after}
use Rattle.arc_view.proofs.Strongs.{slot_found}
use Rattle.arc_view.proofs.Within.{each_at}
use Rattle.arc_view_laws.specs.Hands.{Moves}
use Rattle.arc_view_laws.proofs.Entries.{none_after}
use Rattle.arc_view_laws.proofs.Moving.{moved, legal_tail}
use Rattle.arc_ops_passes.specs.References.{in_vars, in_flight, references, one_if, is_ref, has_hand, Leads, Owns}
use Rattle.arc_ops_passes.specs.Drives.{Asks, Due, IsDue, OwesAll, UnderWay, AreOfClasses, ComesOfClass}
use Rattle.arc_ops_passes.proofs.Fields.{AllHold, notes_at}
use Rattle.arc_ops_passes.proofs.Walks.{vars-least}
use Rattle.arc_ops_passes.proofs.Owned.{not_weak, leads_on, owns_less, ref-itself, hand-itself}
use Rattle.arc_ops_passes.proofs.Counts.{kind_there, counted_there, counted_in, inline_unpacked}
use Rattle.arc_ops_passes.proofs.Names.{no_entry_shown}
use Rattle.arc_ops_passes.proofs.Goes.{Facts, ComesUnder, KnowsOf, knows_none, told_by, classed_on, claims_on, ReadsNoName, nothing_shown}
use Rattle.arc_ops_passes.proofs.DuesOn.{Acted}
use Rattle.arc_ops_passes.proofs.FallEnds.{duty_after, not_weak_in}
use Rattle.arc_ops_passes.proofs.Lasts.{Dies, owes_its, owes_more}

drop≢side : {k s n : ℕ} {last : Bool} {why : Kind} → acts.Drop k last ≡ acts.Side s n why → ⊥
drop≢side e = cc

-- what the last one of its list leaves
abbrev pub left_due : Kind → ℕ → Due
left_due kind s = record { duty = duty_after kind; slot = s; name = None; nils = 0 }

module _ (w : Work) (t : Thread) (v : View) (held : Held) (d : Doing) (f : Facts w t v d) (has_it : (g : Held → ℕ) → references t.vars t.hands d g ≡ in_vars t.vars g + g held) (free : v.working.owes ≡ None) (no_access : v.working.access ≡ None) where
  abbrev at : ℕ
  at = number (extent_of w.shape) (Count held.place)

  abbrev drop : Intent
  drop = intents.Drop held.hand

  pub leads : Leads v held
  leads = f.owns.leads held (let one = ref-itself held in let all = has_it (is_ref held) in omega arith)

  pub below : held.place < w.shape.slots
  below = let r = leads in (each_at (IsWithin w.shape) (heap_of v).objects r.1 r.2 f.in_shape.within r.4).0 held.place r.5

  counted : IsCountedInline held.kind
  counted = leads.0

  -- no variable has its hand
  away : (x : ℕ) (h : Held) → value t.vars x ≡ Some h → h.hand ≢ held.hand
  away x h e same =
      let least = vars-least (has_hand held.hand) t.vars x h e in
      let one : has_hand held.hand h ≡ 1 = ap one_if (eq-eqb h.hand held.hand same) in
      let its = hand-itself held in
      let all = has_it (has_hand held.hand) in
      let once = f.owns.once held.hand in
      absurd (omega arith)

  -- the word of an immortal object takes the reference away at once
  pub load_act : (found : ℕ) → act_of w.shape v (Load at) drop found ≡ when (found == 1) (acts.Drop held.hand false)
  load_act found =
      ap (λ (q : Place). loaded_act w.shape v q found drop) (place_at-number (extent_of w.shape) (Count held.place) below)
      ∙ ((λ j. when (is_none (no_access j) && is_forever (kind_there v held leads j) (object_at (heap_of v) (spot (Hand v.number held.hand) (heap_of v))) (Count held.place) found) (acts.Drop held.hand false))
      ∙ (λ j. when (counted_there v held leads held.kind counted j && found == 1) (acts.Drop held.hand false)))

  pub load_same : (found : ℕ) → working_after w.shape v (Load at) drop found ≡ v.working
  load_same found = ap (λ (q : Place). working_loaded v.working q found drop) (place_at-number (extent_of w.shape) (Count held.place) below)

  pub swap_same : (seen new found : ℕ) → working_after w.shape v (Exchange at seen new) drop found ≡ v.working
  swap_same seen new found = go (found == seen)
    where
      go : (b : Bool) → cond b v.working v.working ≡ v.working
      go true = refl
      go false = refl

  pub load_allowed : Admits w.shape v (Load at) drop
  load_allowed = let r = leads in (Count held.place, refl, below, free, (r.1, r.2, r.4, r.5, inl (held.hand, held.kind, r.3, not_weak held.kind r.0)), tt)

  pub swap_allowed : (seen new : ℕ) → IsDown held.kind (Count held.place) seen new → Admits w.shape v (Exchange at seen new) drop
  swap_allowed seen new down = let r = leads in (Count held.place, refl, below, free, (held.kind, r.1, r.2, r.3, no_access, r.4, counted_in held.kind r.0 r.2 held.place r.5, down))

  -- an exchange that finds other counts has no event
  pub missed_act : (seen new found : ℕ) → found ≢ seen → act_of w.shape v (Exchange at seen new) drop found ≡ None
  missed_act seen new found ne = ap (λ b. cond b (hit_act v (place_at (extent_of w.shape) at) seen new drop) None) (ne_eqb found seen ne)

  pub hit_is : (seen new found : ℕ) → found ≡ seen → (c : Inline) → IsWordOf (Counts c) seen → act_of w.shape v (Exchange at seen new) drop found ≡ Some (acts.Drop held.hand (is_last_in held.kind (Some (Counts c))))
  hit_is seen new found same c word_is =
      (λ j. cond (eq-eqb found seen same j) (Some (acts.Drop held.hand (is_last (kind_there v held leads j) (place_at-number (extent_of w.shape) (Count held.place) below j) seen))) None)
      ∙ ap (λ (m : Option Word). Some (acts.Drop held.hand (is_last_in held.kind m))) (inline_unpacked c seen word_is)

  -- ---- a step takes the reference away
  module _ (step : Step) (found : ℕ) (v' : View) (told : Told w.shape drop step v found v') where
    abbrev met : History
    met = told.between ++ v.seen

    module _ (last : Bool) (act : act_of w.shape v step drop found ≡ Some (acts.Drop held.hand last)) where
      abbrev lost : Act
      lost = acts.Drop held.hand last

      called : Called w.shape (lost ∷ []) 1 v v'
      called = told_by w.shape drop step v found v' (Some lost) act told

      m : Moves (Some lost) v v'
      m = moved w.shape lost 1 v v' called

      spots : (k : ℕ) → k ≢ held.hand → spot (Hand v'.number k) (heap_of v') ≡ spot (Hand v.number k) (heap_of v)
      spots k ne = m.hands k ∙ ap (λ b. cond b None (spot (Hand v.number k) (heap_of v))) (ne_eqb held.hand k (λ e. ne (sym e)))

      gone : spot (Hand v'.number held.hand) (heap_of v') ≡ None
      gone = m.hands held.hand ∙ ap (λ b. cond b None (spot (Hand v.number held.hand) (heap_of v))) (eq-eqb held.hand held.hand refl)

      -- the variables' references stay, and no other is left
      pub classed_then : AreOfClasses w.classes v' t.vars
      classed_then = classed_on w.shape 1 lost w.classes v v' t.vars called (λ x h e. ne_eqb held.hand h.hand (λ same. away x h e (sym same))) f.classed

      pub owns_then : (M : (Held → ℕ) → ℕ) → ((g : Held → ℕ) → M g ≡ in_vars t.vars g) → Owns v' t.hands M
      owns_then M same = owns_less v v' t.hands t.vars (references t.vars t.hands d) M held f.owns has_it same (λ x ne. leads_on w.shape lost 1 v v' x called (ne_eqb held.hand x.hand (λ e. ne (sym e)))) gone spots

      -- and the stepper goes on to what brings no reference
      goes : (fs : List Frame) (u : Thread) → takes_at w.shape (Some found) d → came_out_at t (Some found) d ≡ None → u.event ≡ Some lost → u.hands ≡ t.hands → u.vars ≡ t.vars → ((g : Held → ℕ) → in_flight g u.hands u.doing ≡ 0) → ComesOfClass w.classes v' u.doing
          → ((e : ℕ) → HasClaim v' e → ⊥) → Asks w.shape fs u u.doing → UnderWay w.shape v' fs u.doing → AllHold Judged w.shape (extent_of w.shape) (Some (step, drop)) (Some found) w.thread (Some lost) None met → ComesUnder fs w t v step drop found v' met d u
      goes fs u takes out event hands vars none coming no_claim asks under holds =
          let all : (g : Held → ℕ) → references u.vars u.hands u.doing g ≡ in_vars t.vars g = λ g. let z = none g in let same : in_vars u.vars g ≡ in_vars t.vars g = ap (λ x. in_vars x g) vars in omega arith in record {
            takes_it = takes;
            event = act ∙ sym event;
            holds = notes_at d (WordsHold Judged w.shape (extent_of w.shape) (Some (step, drop)) (Some found) w.thread u.event (came_out_at t (Some found) d) met)
                (subst (λ (x : Option Act × Option CameOut). AllHold Judged w.shape (extent_of w.shape) (Some (step, drop)) (Some found) w.thread x.0 x.1 met) (λ j. (sym event j, sym out j)) holds);
            knows = subst (KnowsOf v') (sym out) (knows_none v');
            count = ap length vars ∙ f.count;
            owns = subst (λ n. Owns v' n (references u.vars u.hands u.doing)) (sym hands) (owns_then (references u.vars u.hands u.doing) all);
            classed = subst (AreOfClasses w.classes v') (sym vars) classed_then;
            coming = coming;
            no_claim = no_claim;
            asks = asks;
            under_way = under;
          }

    -- one that isn't the last of its list
    pub gives_up : (act : act_of w.shape v step drop found ≡ Some (acts.Drop held.hand false)) → (fs : List Frame) (u : Thread) → takes_at w.shape (Some found) d → came_out_at t (Some found) d ≡ None → ReadsNoName (extent_of w.shape) step drop
        → u.event ≡ Some (acts.Drop held.hand false) → u.hands ≡ t.hands → u.vars ≡ t.vars → ((g : Held → ℕ) → in_flight g u.hands u.doing ≡ 0) → ComesOfClass w.classes v' u.doing → Asks w.shape fs u u.doing → UnderWay w.shape v' fs u.doing → ComesUnder fs w t v step drop found v' met d u
    gives_up act fs u takes out reads event hands vars none coming asks under =
        goes false act fs u takes out event hands vars none coming (claims_on w.shape 1 (acts.Drop held.hand false) v v' (called false act) (λ m e. refl) f.no_claim) asks under
        (nothing_shown w.shape f.sized (extent_of w.shape) step drop found w.thread (Some (acts.Drop held.hand false)) met reads tt)

  -- ---- the last one of its list: the object, as the event met it and as it left it
  module _ (seen new found : ℕ) (v' : View) (told : Told w.shape drop (Exchange at seen new) v found v') (same : found ≡ seen) (c : Inline) (word_is : IsWordOf (Counts c) seen) (act : act_of w.shape v (Exchange at seen new) drop found ≡ Some (acts.Drop held.hand true)) where
    abbrev h : History
    h = told.between ++ v.seen

    abbrev event : Event
    event = record { thread = v.number; act = acts.Drop held.hand true }

    abbrev i : ℕ
    i = leads.1

    seen_is : v'.seen ≡ event ∷ h
    seen_is = ap (λ (x : View). x.seen) told.after ∙ ap (λ b. event_list v.number b ++ h) act

    legal : IsLegal w.shape (event ∷ h)
    legal = subst (IsLegal w.shape) seen_is told.legal

    abbrev made : Acted w.shape v v' (acts.Drop held.hand true)
    made = record { between = told.between; number = ap (λ (x : View). x.number) told.after; seen = seen_is; legal = legal; others = told.others }

    met_it : HeldLater held.kind i leads.2 (heap_after h)
    met_it = held_stays w.shape v.number held.hand i held.kind leads.2 v.seen told.between legal.1 told.others leads.3 leads.4

    slot_met : met_it.q.slot ≡ Some held.place
    slot_met = met_it.slot (not_weak held.kind counted) ∙ leads.5

    stood : spot (Hand v.number held.hand) (heap_after h) ≡ Some (record { place = i; kind = held.kind })
    stood = (others_leave w.shape v.number v.seen told.between legal.1 told.others).hands held.hand ∙ leads.3

    listed : is_in (Hand v.number held.hand) (list_of held.kind met_it.q) ≡ true
    listed = hand_listed w.shape h v.number held.hand i held.kind met_it.q legal.1 stood met_it.here

    left : Stays i met_it.q (heap_after (event ∷ h))
    left = stays_after w.shape event h legal i met_it.q met_it.here

    slot_left : left.q.slot ≡ Some held.place
    slot_left = left.slot (listed_busy held.kind (Hand v.number held.hand) met_it.q listed (not_weak held.kind counted)) ∙ slot_met

    -- the counts that were there show that it has no entry
    bare : left.q.entry ≡ None
    bare =
        let says : ShowsCounts w.shape (at_slot held.place (heap_after h)) seen = subst (ShowsCounts w.shape (at_slot held.place (heap_after h))) same ((told.read (Count held.place) tt below refl).says (λ u. u)) in
        let shown = subst (λ x. ShowsCounts w.shape x seen) (slot_found w.shape h i held.place met_it.q legal.1 met_it.here slot_met) says in
        none_after v.number (acts.Drop held.hand true) (heap_after h) i met_it.q left.q (λ k n why o e. absurd (drop≢side e)) met_it.here (inline_counts w.shape met_it.q c seen f.sized shown word_is).entry left.here

    entry_none : option_map (λ (o : Object). o.entry) (at_slot held.place (heap_after (record { thread = w.thread; act = acts.Drop held.hand true } ∷ h))) ≡ Some None
    entry_none = subst (λ (p : ℕ). option_map (λ (o : Object). o.entry) (at_slot held.place (heap_after (record { thread = p; act = acts.Drop held.hand true } ∷ h))) ≡ Some None) f.number
        (ap (option_map (λ (o : Object). o.entry)) (slot_found w.shape (event ∷ h) i held.place left.q legal left.here slot_left) ∙ ap Some bare)

    -- what is owed to it then
    abbrev due : IsDue w.shape v' (left_due held.kind held.place)
    due = record {
      place = i;
      object = left.q;
      here = ap (λ k. slice_get (heap_after k).objects i) seen_is ∙ left.here;
      slot = slot_left;
      owes = owes_its w.shape v v' held.hand i held.kind made counted leads.3;
      bare = λ e. bare;
      named = tt;
      nils = λ g lt. absurd (omega (arith, lt));
      inside = omega arith;
    }

    pub owes_last : (ds : List Due) → Each Dies ds → OwesAll w.shape v ds → OwesAll w.shape v' (left_due held.kind held.place ∷ ds)
    owes_last ds dies owes = owes_more w.shape v v' held.hand i held.kind made counted leads.3 ds dies (left_due held.kind held.place) due refl leads.2 leads.4 leads.5 owes

    -- the reference was no weak holder
    no_entry : (n : Moves (Some (acts.Drop held.hand true)) v v') (e : ℕ) → (passes (λ o. same_kind (kind_in (Hand v.number held.hand) o) Weak && has_entry e o) (held_by (Hand v.number held.hand) (heap_after n.met)) || is_claimed_by v.number e (heap_after n.met)) ≡ is_claimed_by v.number e (heap_after n.met)
    no_entry n e =
        let z : Holder = Hand v.number held.hand in
        let legal_met : IsLegal w.shape n.met = (legal_tail w.shape n.follows.0 (event ∷ n.met) (subst (IsLegal w.shape) n.follows.1 told.legal)).1 in
        let l = (lookup_after w.shape n.met z legal_met refl).there (record { place = i; kind = held.kind }) (n.had.hands held.hand ∙ leads.3) in
        ap (λ x. passes (λ o. same_kind (kind_in z o) Weak && has_entry e o) x || is_claimed_by v.number e (heap_after n.met)) l.2
        ∙ ap (λ b. b || is_claimed_by v.number e (heap_after n.met)) (not_weak_in held.kind z l.0 (has_entry e l.0) counted l.3)

    pub gives_up_last : (fs : List Frame) (u : Thread) → takes_at w.shape (Some found) d → came_out_at t (Some found) d ≡ None → u.event ≡ Some (acts.Drop held.hand true) → u.hands ≡ t.hands → u.vars ≡ t.vars → ((g : Held → ℕ) → in_flight g u.hands u.doing ≡ 0)
        → ComesOfClass w.classes v' u.doing → Asks w.shape fs u u.doing → UnderWay w.shape v' fs u.doing → ComesUnder fs w t v (Exchange at seen new) drop found v' h d u
    gives_up_last fs u takes out event_is hands vars none coming asks under =
        goes (Exchange at seen new) found v' told true act fs u takes out event_is hands vars none coming
        (claims_on w.shape 1 (acts.Drop held.hand true) v v' (called (Exchange at seen new) found v' told true act) no_entry f.no_claim) asks under
        (no_entry_shown w.shape (extent_of w.shape) held.place seen new found w.thread drop (acts.Drop held.hand true) h below entry_none)
