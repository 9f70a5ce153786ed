-- The end of a deinit, on the shared heap: what a pass that owes it may do on a word that counts the unowned references, and what it has then.
use Rattle.std.proofs.Common.{◌≡◌, ◌≢◌, inl, inr, ℕ, ◌<◌, ◌≤◌, ◌==◌, Bool, true, false, cond, [], ◌∷◌, ◌++◌, length, Option, Some, None, refl, sym, ap, ◌∙◌, subst, arith, eq-eqb, ne_eqb}
use Rattle.std.specs.Prelude.{slice_get}
use mathlib.Core.Logic.{dite}
use native.Mathlib.Decide.{ℕ_discrete}
use Rattle.arc_bits.specs.Words.{unpacked}
use Rattle.arc_model.specs.declared.event.Act.TheVariants as acts
use Rattle.arc_model.specs.declared.event.Event.{Event}
use Rattle.arc_model.specs.declared.shape.Kind.{Kind}
use Rattle.arc_model.specs.declared.shape.Kind.TheVariants as kinds
use Rattle.arc_model.specs.Shapes.{HeapShape, class_at}
use Rattle.arc_model.specs.Heaps.{Field as field_holder, Deinit, Vacating, Object, Heap}
use Rattle.arc_model.specs.Holders.{is_number, in_slot}
use Rattle.arc_model.specs.Cells.{is_nil, are_all_nil, each_below}
use Rattle.arc_model.specs.Needs.{passes}
use Rattle.arc_model.specs.History.{History, heap_after, share, IsLegal}
use Rattle.arc_model.specs.Lookup.{duty_of}
use Rattle.arc_model.proofs.Basics.{true≢false}
use Rattle.arc_model.proofs.Duties.{own_duties}
use Rattle.arc_model.proofs.Others.{others_leave}
use Rattle.arc_rule.specs.declared.layout.Place.{Place}
use Rattle.arc_rule.specs.declared.layout.Place.TheVariants as places
use Rattle.arc_rule.specs.declared.layout.Place.TheVariants.{Count}
use Rattle.arc_rule.specs.declared.step.Step.{Step}
use Rattle.arc_rule.specs.declared.step.Step.TheVariants.{Load, Exchange}
use Rattle.arc_rule.specs.declared.step.Intent.{Intent}
use Rattle.arc_rule.specs.declared.step.Intent.TheVariants as intents
use Rattle.arc_rule.specs.Extents.{Extent}
use Rattle.arc_rule.specs.Places.{IsPlace, extent_of, number, place_at}
use Rattle.arc_rule.specs.Shown.{Says, ShowsCounts, ShowsHolders}
use Rattle.arc_rule.proofs.Places.{place_at-number}
use Rattle.arc_view.specs.declared.view.Mark.{Mark}
use Rattle.arc_view.specs.declared.view.Working.{Working}
use Rattle.arc_view.specs.declared.view.View.{View}
use Rattle.arc_view.specs.Views.{made_in}
use Rattle.arc_view.specs.Holding.{At, HasDuty, is_counted, heap_of}
use Rattle.arc_view.specs.Rule.{InShape, IsSized}
use Rattle.arc_view.specs.Kinds.{act_of, event_list, working_loaded, working_after, working_hit, without_next, is_last, is_last_in}
use Rattle.arc_view.specs.Admission.{OwesNoName, MayLoad, IsDown}
use Rattle.arc_view.specs.Admission.{Admits}
use Rattle.arc_view.specs.Steps.{IsUnsettled, Told}
use Rattle.arc_view.specs.Calls.{Grew, Called}
use Rattle.arc_view.proofs.Held.{stays_after, dying_busy}
use Rattle.arc_view.proofs.Strongs.{slot_found, entry_found}
use Rattle.arc_view.proofs.Counting.{inline_counts}
use Rattle.arc_view.proofs.Owed.{owed_stays}
use Rattle.arc_rule.specs.declared.attempt.At.{At as At'}
use Rattle.arc_rule.specs.declared.attempt.At.TheVariants as ats
use Rattle.arc_rule.specs.declared.attempt.Choice.{Choice}
use Rattle.arc_rule.specs.declared.attempt.Choice.TheVariants.{Tell, Write}
use Rattle.arc_plan.specs.declared.unowned.UnownedDownAnswer.{UnownedDownAnswer}
use Rattle.arc_plan.specs.declared.unowned.UnownedDownAnswer.TheVariants as inline_downs
use Rattle.arc_plan.specs.Attempts.{Attempt, IsCountWord}
use Rattle.arc_rule.specs.Attempts.{left_at}
use Rattle.arc_plan.specs.Unowned.{unowned_down_row, unowned_down_end, unowned_down_takes, unowned_down_turned, unowned_down_answer}
use Rattle.arc_side.specs.declared.entry_down.EntryDownAnswer.{EntryDownAnswer}
use Rattle.arc_side.specs.declared.entry_down.EntryDownAnswer.TheVariants as entry_downs
use Rattle.arc_side.specs.Entries.{EntryFall, EntryDownWord, entry_down_row, entry_down_end, entry_down_takes, entry_down_turned, entry_down_answer}
use Rattle.arc_table.specs.Causes.{ReadTwice}
use Rattle.arc_view_laws.specs.Strangers.{SeesNoStranger}
use Rattle.arc_table.specs.Calls.{GoesOn}
use Rattle.arc_table.specs.Ends.{IsBareDying, IsBareDyingWith, IsFinishedInline, inline_finish_act, finish_steps, IsFinishedInEntry, entry_finish_act}
use Rattle.arc_view_laws.specs.Having.{IsFreedOf}
use Rattle.arc_table.specs.Runs.{MayRun, Ran}
use Rattle.arc_table.proofs.Attempt.{tell_inj, write_inj, tell≢write, IsAttempt, MayTry, Comes, may_attempt, has_attempted}
use Rattle.arc_view_laws.proofs.Counted.{told_alone}
use Rattle.arc_view_laws.proofs.Entries.{entry_kept}
use Rattle.arc_view_laws.proofs.Growing.{acts_of, told_grew}
use Rattle.arc_view_laws.proofs.DyingWords.{ShowsDying, counts, slow, dying_lists, shows_dying}
use Rattle.arc_table.proofs.Making.{grew_on}
use Rattle.arc_table.proofs.TwoSteps.{two_steps, reads_twice}
use Rattle.arc_table.proofs.Invariant.{may_asked, ran_asked}

-- the entry's unowned count
pub shows_count : (shape : HeapShape) (h : History) (p i e w : ℕ) (o : Object) → IsLegal shape h → At (heap_after h) i o → duty_of p i (heap_after h) ≡ Some Deinit → o.entry ≡ Some e → Says shape (heap_after h) (places.Unowned e) w → 1 ≤ w
shows_count shape h p i e w o legal here duty entry says =
    let shown = subst (λ m. ShowsHolders shape kinds.Unowned m w) (entry_found shape h i e o legal here entry) says in
    let lists = dying_lists shape h p i o legal here duty in
    let is = shown.0 in let some = lists.1 in omega (arith, is, some)

-- The view owes the deinit of object i, in slot s, whose class has no field.
module _ (shape : HeapShape) (s : ℕ) (v0 : View) (free : v0.working.owes ≡ None) (i : ℕ) (o0 : Object) (here0 : At (heap_of v0) i o0) (duty0 : HasDuty v0 Deinit i) (slot0 : o0.slot ≡ Some s) (bare0 : (class_at shape o0.class).fields ≡ []) where
  abbrev pub deinit : Intent
  deinit = intents.Deinit s

  -- it owes it still
  pub record Owing (v : View) : Type 0 where
    pub number : v.number ≡ v0.number
    pub working : v.working ≡ v0.working
    pub o : Object
    pub here : At (heap_of v) i o
    pub duty : HasDuty v Deinit i
    pub slot : o.slot ≡ Some s
    pub is_class : o.class ≡ o0.class
    pub entry : (n : ℕ) → o0.entry ≡ Some n → o.entry ≡ Some n

  owing_first : Owing v0
  owing_first = record { number = refl; working = refl; o = o0; here = here0; duty = duty0; slot = slot0; is_class = refl; entry = λ n e. e }

  -- after other passes' events
  owing_on : (v : View) (between : History) → IsLegal shape (between ++ v.seen) → share between v.number ≡ [] → Owing v → (w : View) → w.number ≡ v.number → w.working ≡ v.working → heap_of w ≡ heap_after (between ++ v.seen) → Owing w
  owing_on v between legal others g w number works heap_is =
      let l = owed_stays shape v.number i Deinit g.o v.seen between legal others g.here g.duty in record {
        number = number ∙ g.number;
        working = works ∙ g.working;
        o = l.q;
        here = ap (λ (m : Heap). slice_get m.objects i) heap_is ∙ l.here;
        duty = (λ j. duty_of (number j) i (heap_is j)) ∙ ((others_leave shape v.number v.seen between legal others).duties i ∙ g.duty);
        slot = l.slot ∙ g.slot;
        is_class = l.class ∙ g.is_class;
        entry = λ n e. l.entry n (g.entry n e);
      }

  all_nil : (v : View) (g : Owing v) → are_all_nil shape (heap_of v) g.o ≡ true
  all_nil v g = ap (λ xs. each_below (length xs) (λ f. is_nil (heap_of v) (field_holder g.o.id f))) (ap (λ c. (class_at shape c).fields) g.is_class ∙ bare0)

  pub has_with : (v : View) (g : Owing v) (e : ℕ) → g.o.entry ≡ Some e → IsBareDyingWith shape v s e
  has_with v g e entry = (i, g.o, g.here, g.duty, g.slot, ap (λ c. (class_at shape c).fields) g.is_class ∙ bare0, entry)

  -- on a word that counts the object's unowned references
  module _ (pl : Place) (inside : IsPlace (extent_of shape) pl) (quiet : (w : Working) (x : ℕ) → working_loaded w pl x deinit ≡ w) (knows : (v : View) → Owing v → MayLoad shape v pl deinit) where
    abbrev pub at : ℕ
    at = number (extent_of shape) pl

    abbrev look : Step
    look = Load at

    look_none : (v : View) (x : ℕ) → act_of shape v look deinit x ≡ None
    look_none v x = refl

    look_works : (v : View) (x : ℕ) → working_after shape v look deinit x ≡ v.working
    look_works v x = ap (λ (u : Place). working_loaded v.working u x deinit) (place_at-number (extent_of shape) pl inside) ∙ quiet v.working x

    pub may_look : Admits shape v0 look deinit
    may_look = (pl, refl, inside, free, knows v0 owing_first, tt)

    -- the word was loaded: it shows the heap of what is seen
    pub record Looked (x : ℕ) (v : View) : Type 0 where
      pub grew : Grew [] 1 v0 v
      pub legal : IsLegal shape v.seen
      pub in_shape : InShape shape v.seen
      pub owing : Owing v
      pub says : Says shape (heap_of v) pl x
      pub mark : Mark
      pub trail : v.trail ≡ mark ∷ v0.trail
      pub step : mark.step ≡ look
      pub found : mark.found ≡ x
      pub alone : SeesNoStranger v

    -- a word that counts is never unsettled
    module _ (settled : (x : ℕ) → IsUnsettled pl x → ⊥) where
      pub looked : (x : ℕ) (v : View) → Told shape deinit look v0 x v → Looked x v
      looked x v t =
          let h = t.between ++ v0.seen in
          let seen : v.seen ≡ h = ap (λ (u : View). u.seen) t.after in
          let legal : IsLegal shape h = subst (IsLegal shape) seen t.legal in record {
            grew = told_grew shape deinit look v0 x v t;
            legal = t.legal;
            in_shape = t.in_shape;
            owing = owing_on v0 t.between legal t.others owing_first v (ap (λ (u : View). u.number) t.after) (ap (λ (u : View). u.working) t.after ∙ look_works v0 x) (ap heap_after seen);
            says = subst (λ l. Says shape (heap_after l) pl x) (sym seen) ((t.read pl tt inside refl).says (settled x));
            mark = record { step = look; found = x; length = length h; made = made_in v0.number h };
            trail = ap (λ (u : View). u.trail) t.after;
            step = refl;
            found = refl;
            alone = told_alone shape deinit look v0 x v t;
          }

      pub may_swap : (x new : ℕ) (v : View) (l : Looked x v) → is_counted kinds.Unowned l.owing.o pl ≡ true → IsDown kinds.Unowned pl x new → Admits shape v (Exchange at x new) deinit
      may_swap x new v l counted down = let g = l.owing in (pl, refl, inside, ap (λ (w : Working). w.owes) g.working ∙ free, (i, g.o, g.here, g.slot, g.duty, all_nil v g, counted, down))

      -- the exchange found what was loaded
      module _ (seen new : ℕ) (v w : View) (l : Looked seen v) (told : Told shape deinit (Exchange at seen new) v seen w) where
        abbrev h : History
        h = told.between ++ v.seen

        abbrev last : Bool
        last = is_last kinds.Unowned pl seen

        act_is : act_of shape v (Exchange at seen new) deinit seen ≡ Some (acts.Finish s last)
        act_is = ap (λ b. cond b (Some (acts.Finish s (is_last kinds.Unowned (place_at (extent_of shape) at) seen))) None) (eq-eqb seen seen refl) ∙ ap (λ (u : Place). Some (acts.Finish s (is_last kinds.Unowned u seen))) (place_at-number (extent_of shape) pl inside)

        abbrev event : Event
        event = record { thread = v.number; act = acts.Finish s last }

        seen_is : w.seen ≡ event ∷ h
        seen_is = ap (λ (u : View). u.seen) told.after ∙ ap (λ a. event_list v.number a ++ h) act_is

        pub hit_called : Called shape (acts.Finish s last ∷ []) 2 v0 w
        hit_called = record {
          grew = grew_on [] (acts.Finish s last ∷ []) 1 1 v0 v w l.grew (subst (λ a. Grew (acts_of a) 1 v w) act_is (told_grew shape deinit (Exchange at seen new) v seen w told));
          legal = told.legal;
          in_shape = told.in_shape;
        }

        pub hit_works : w.working ≡ without_next (number (extent_of shape)) s v0.working
        hit_works = ap (λ (u : View). u.working) told.after ∙ (ap (λ b. cond b (working_hit (number (extent_of shape)) v.working (place_at (extent_of shape) at) seen new deinit) v.working) (eq-eqb seen seen refl) ∙ ap (without_next (number (extent_of shape)) s) l.owing.working)

        pub hit_alone : SeesNoStranger w
        hit_alone = told_alone shape deinit (Exchange at seen new) v seen w told

        legal : IsLegal shape (event ∷ h)
        legal = subst (IsLegal shape) seen_is told.legal

        pub met_legal : IsLegal shape h
        met_legal = legal.1

        pub met_says : Says shape (heap_after h) pl seen
        met_says = (told.read pl tt inside refl).says (settled seen)

        -- where it was the last one, the vacating is owed
        pub hit_frees : (entry : Option ℕ) → last ≡ true → ((o : Object) → At (heap_after h) i o → o.slot ≡ Some s → ((n : ℕ) → o0.entry ≡ Some n → o.entry ≡ Some n) → o.entry ≡ entry) → IsFreedOf w s entry
        hit_frees entry is_last has =
            let g = l.owing in
            let met = owed_stays shape v.number i Deinit g.o v.seen told.between legal.1 told.others g.here g.duty in
            let owed : duty_of v.number i (heap_after h) ≡ Some Deinit = (others_leave shape v.number v.seen told.between legal.1 told.others).duties i ∙ g.duty in
            let slot : met.q.slot ≡ Some s = met.slot ∙ g.slot in
            let r = stays_after shape event h legal i met.q met.here in
            let duty : duty_of v.number i (heap_after (event ∷ h)) ≡ Some Vacating =
            own_duties shape h event i legal ∙ (λ j. cond ((ap (passes (in_slot s)) met.here ∙ (ap (λ m. is_number m s) slot ∙ eq-eqb s s refl)) j) (cond (is_last j) (Some Vacating) None) (duty_of v.number i (heap_after h))) in
            let its = has met.q met.here slot (λ n e. met.entry n (g.entry n e)) in
            let number_is : w.number ≡ v.number = ap (λ (u : View). u.number) told.after in (
              i,
              r.q,
              ap (λ m. slice_get (heap_after m).objects i) seen_is ∙ r.here,
              (λ j. duty_of (number_is j) i (heap_after (seen_is j))) ∙ duty,
              r.slot (dying_busy shape h v.number i met.q legal.1 met.here owed) ∙ slot,
              entry_kept shape event h v.number i Vacating met.q r.q legal (λ t n why o e. absurd (finish≢side e)) met.here r.here duty entry its,
            )
          where
            finish≢side : {t n : ℕ} {why : Kind} → acts.Finish s last ≡ acts.Side t n why → ⊥
            finish≢side e = cc

      -- it found another word
      module _ (seen new found : ℕ) (v w : View) (l : Looked seen v) (told : Told shape deinit (Exchange at seen new) v found w) (ne : found ≢ seen) where
        missed_act_is : act_of shape v (Exchange at seen new) deinit found ≡ None
        missed_act_is = ap (λ b. cond b (Some (acts.Finish s (is_last kinds.Unowned (place_at (extent_of shape) at) seen))) None) (ne_eqb found seen ne)

        missed_seen : w.seen ≡ told.between ++ v.seen
        missed_seen = ap (λ (u : View). u.seen) told.after ∙ ap (λ a. event_list v.number a ++ (told.between ++ v.seen)) missed_act_is

        missed_keeps : working_after shape v (Exchange at seen new) deinit found ≡ v.working
        missed_keeps = ap (λ b. cond b (working_hit (number (extent_of shape)) v.working (place_at (extent_of shape) at) seen new deinit) v.working) (ne_eqb found seen ne)

        pub miss_goes_on : GoesOn shape None 2 v0 w
        miss_goes_on = two_steps shape deinit (Exchange at seen new) None found v0 v w l.grew l.owing.working refl told missed_act_is missed_keeps

        pub miss_owing : Owing w
        miss_owing = owing_on v told.between (subst (IsLegal shape) missed_seen told.legal) told.others l.owing w (ap (λ (u : View). u.number) told.after) (ap (λ (u : View). u.working) told.after ∙ missed_keeps) (ap heap_after missed_seen)

        pub read_twice : ReadTwice at (record { seen = seen; found = found }) v0 w
        read_twice = reads_twice shape deinit at seen new found v0 v w l.mark l.trail l.step l.found told ne

  -- by the inline word
  module _ (sized : IsSized shape) (lt : s < shape.slots) where
    knows_count : (v : View) → Owing v → MayLoad shape v (Count s) deinit
    knows_count v g = (i, g.o, g.here, g.slot, inr (inl (Deinit, g.duty)))

    abbrev SeenCount : ℕ → View → Type 0
    SeenCount = Looked (Count s) lt (λ w x. refl) knows_count

    shows : (x : ℕ) (v : View) (l : SeenCount x v) → ShowsDying shape l.owing.o x
    shows x v l = shows_dying shape v.seen v.number i s x l.owing.o sized l.legal l.in_shape l.owing.here l.owing.duty l.owing.slot l.says

    abbrev inline_row : ℕ → Choice UnownedDownAnswer
    inline_row x = unowned_down_row (unpacked x)

    abbrev InlineFits : ℕ → Type 0
    InlineFits x = IsCountWord shape.entries (λ c. c.deiniting ≡ false → 2 ≤ c.unowned) (unpacked x)

    abbrev inline_plan : At' → Attempt
    inline_plan m = record { layout = extent_of shape; slot = s; at = m }

    inline_attempt : IsAttempt unowned_down_takes unowned_down_turned unowned_down_answer (number (extent_of shape) (Count s)) InlineFits inline_row (λ seen. unowned_down_end (unpacked seen)) inline_downs.Again inline_plan (λ p. left_at p.at)
    inline_attempt = record { takes_it = λ m last t. t; turns = λ m last. refl; answers = λ m last. refl; is_left = λ m. refl }

    inline_fits : (o : Object) (x : ℕ) → ShowsDying shape o x → InlineFits x
    inline_fits o x (counts c is word ends unowned none) = subst (IsCountWord shape.entries (λ c. c.deiniting ≡ false → 2 ≤ c.unowned)) (sym is) (unowned, λ live. absurd (true≢false (sym ends ∙ live)))
    inline_fits o x (slow e is entry within) = subst (IsCountWord shape.entries (λ c. c.deiniting ≡ false → 2 ≤ c.unowned)) (sym is) within

    inline_swaps : (x new : ℕ) (v : View) (l : SeenCount x v) → inline_row x ≡ Write new → ShowsDying shape l.owing.o x → Admits shape v (Exchange (number (extent_of shape) (Count s)) x new) deinit
    inline_swaps x new v l is (counts c shown word ends unowned none) =
        may_swap (Count s) lt (λ w x. refl) knows_count (λ x u. u) x new v l (ap (λ m. is_number m s) l.owing.slot ∙ eq-eqb s s refl) (c, word, unowned, write_inj (sym is ∙ ap unowned_down_row shown))
    inline_swaps x new v l is (slow e shown entry within) = tell≢write (sym (ap unowned_down_row shown) ∙ is)

    abbrev InlineClaim : UnownedDownAnswer → View → Type 0
    InlineClaim a w = IsFinishedInline shape s v0 w a × GoesOn shape (inline_finish_act s a) (finish_steps a) v0 w

    inline_tells : (x : ℕ) (v : View) (a : UnownedDownAnswer) (l : SeenCount x v) → inline_row x ≡ Tell a → ShowsDying shape l.owing.o x → InlineClaim a v
    inline_tells x v a l is (counts c shown word ends unowned none) = tell≢write (sym is ∙ ap unowned_down_row shown)
    inline_tells x v a l is (slow e shown entry within) =
        subst (λ b. InlineClaim b v) (tell_inj (sym (ap unowned_down_row shown) ∙ is))
        ((has_with v l.owing e entry, within), record { called = record { grew = l.grew; legal = l.legal; in_shape = l.in_shape }; working = l.owing.working; alone = l.alone })

    inline_hits : (seen new : ℕ) (v w : View) (l : SeenCount seen v) → inline_row seen ≡ Write new → (told : Told shape deinit (Exchange (number (extent_of shape) (Count s)) seen new) v seen w) → ShowsDying shape l.owing.o seen → InlineClaim (unowned_down_end (unpacked seen)) w
    inline_hits seen new v w l is told (slow e shown entry within) = tell≢write (sym (ap unowned_down_row shown) ∙ is)
    inline_hits seen new v w l is told (counts c shown word ends unowned none) = subst (λ m. InlineClaim (unowned_down_end m) w) (sym shown) (dite (ℕ_discrete c.unowned 1) one more)
      where
        called : Called shape (acts.Finish s (is_last_in kinds.Unowned (unpacked seen)) ∷ []) 2 v0 w
        called = hit_called (Count s) lt (λ w x. refl) knows_count (λ x u. u) seen new v w l told

        called_by : (b : Bool) → (c.unowned == 1) ≡ b → Called shape (acts.Finish s b ∷ []) 2 v0 w
        called_by b e = subst (λ t. Called shape (acts.Finish s t ∷ []) 2 v0 w) (ap (is_last_in kinds.Unowned) shown ∙ e) called

        works : w.working ≡ without_next (number (extent_of shape)) s v0.working
        works = hit_works (Count s) lt (λ w x. refl) knows_count (λ x u. u) seen new v w l told

        alone : SeesNoStranger w
        alone = hit_alone (Count s) lt (λ w x. refl) knows_count (λ x u. u) seen new v w l told

        -- the word that the exchange found shows that the object had no entry then
        bare_then : (o : Object) → At (heap_after (told.between ++ v.seen)) i o → o.slot ≡ Some s → o.entry ≡ None
        bare_then o here slot =
            let says = met_says (Count s) lt (λ w x. refl) knows_count (λ x u. u) seen new v w l told in
            let legal = met_legal (Count s) lt (λ w x. refl) knows_count (λ x u. u) seen new v w l told in
            (inline_counts shape o c seen sized (subst (λ m. ShowsCounts shape m seen) (slot_found shape (told.between ++ v.seen) i s o legal here slot) says) word).entry

        one : c.unowned ≡ 1 → InlineClaim (cond (c.unowned == 1) inline_downs.Last inline_downs.More) w
        one e =
            let t = eq-eqb c.unowned 1 e in
            subst (λ b. InlineClaim (cond b inline_downs.Last inline_downs.More) w) (sym t)
            (hit_frees (Count s) lt (λ w x. refl) knows_count (λ x u. u) seen new v w l told None (ap (is_last_in kinds.Unowned) shown ∙ t) (λ o here slot _. bare_then o here slot), record { called = called_by true t; working = works; alone = alone })

        more : c.unowned ≢ 1 → InlineClaim (cond (c.unowned == 1) inline_downs.Last inline_downs.More) w
        more ne = let t = ne_eqb c.unowned 1 ne in subst (λ b. InlineClaim (cond b inline_downs.Last inline_downs.More) w) (sym t) (tt, record { called = called_by false t; working = works; alone = alone })

    inline_misses : (seen new found : ℕ) (v w : View) (l : SeenCount seen v) → Told shape deinit (Exchange (number (extent_of shape) (Count s)) seen new) v found w → found ≢ seen → InlineClaim (inline_downs.Again (record { seen = seen; found = found })) w
    inline_misses seen new found v w l told ne = (
      read_twice (Count s) lt (λ w x. refl) knows_count (λ x u. u) seen new found v w l told ne,
      miss_goes_on (Count s) lt (λ w x. refl) knows_count (λ x u. u) seen new found v w l told ne,
    )

    inline_may : MayTry unowned_down_takes unowned_down_turned unowned_down_answer shape deinit (number (extent_of shape) (Count s)) InlineFits inline_row (λ seen. unowned_down_end (unpacked seen)) inline_downs.Again inline_plan (λ p. left_at p.at) inline_attempt v0 SeenCount
    inline_may = record {
      looks = may_look (Count s) lt (λ w x. refl) knows_count;
      looked = looked (Count s) lt (λ w x. refl) knows_count (λ x u. u);
      fits = λ x v l. inline_fits l.owing.o x (shows x v l);
      swaps = λ x new v l is. inline_swaps x new v l is (shows x v l);
    }

    inline_comes : Comes unowned_down_takes unowned_down_turned unowned_down_answer shape deinit (number (extent_of shape) (Count s)) InlineFits inline_row (λ seen. unowned_down_end (unpacked seen)) inline_downs.Again inline_plan (λ p. left_at p.at) inline_attempt v0 SeenCount InlineClaim
    inline_comes = record {
      tells = λ x v a l is. inline_tells x v a l is (shows x v l);
      hits = λ seen new w t. inline_hits seen new t.v w t.l t.is t.told (shows seen t.v t.l);
      misses = λ seen new found w t ne. inline_misses seen new found t.v w t.l t.told ne;
    }

    -- the plan may run, and each answer tells what it says
    pub may_finish : MayRun unowned_down_takes unowned_down_turned unowned_down_answer shape deinit (inline_plan ats.Start) None v0
    may_finish = may_attempt unowned_down_takes unowned_down_turned unowned_down_answer shape deinit (number (extent_of shape) (Count s)) InlineFits inline_row (λ seen. unowned_down_end (unpacked seen)) inline_downs.Again inline_plan (λ p. left_at p.at) inline_attempt v0 SeenCount InlineClaim inline_may inline_comes

    pub has_finished : (a : UnownedDownAnswer) (w : View) → Ran unowned_down_turned unowned_down_answer shape deinit (inline_plan ats.Start) None v0 a w → InlineClaim a w
    has_finished = has_attempted unowned_down_takes unowned_down_turned unowned_down_answer shape deinit (number (extent_of shape) (Count s)) InlineFits inline_row (λ seen. unowned_down_end (unpacked seen)) inline_downs.Again inline_plan (λ p. left_at p.at) inline_attempt v0 SeenCount InlineClaim inline_may inline_comes

  -- by the unowned count of the object's entry
  module _ (e : ℕ) (lt : e < shape.entries) (entry0 : o0.entry ≡ Some e) where
    knows_unowned : (v : View) → Owing v → MayLoad shape v (places.Unowned e) deinit
    knows_unowned v g = (i, g.o, g.here, g.entry e entry0, inr (inl (Deinit, g.duty)))

    abbrev SeenUnowned : ℕ → View → Type 0
    SeenUnowned = Looked (places.Unowned e) lt (λ w x. refl) knows_unowned

    abbrev entry_plan : At' → EntryFall
    entry_plan m = record { layout = extent_of shape; entry = e; list = kinds.Unowned; at = m }

    entry_attempt : IsAttempt entry_down_takes entry_down_turned entry_down_answer (number (extent_of shape) (places.Unowned e)) EntryDownWord entry_down_row entry_down_end entry_downs.Again entry_plan (λ p. left_at p.at)
    entry_attempt = record { takes_it = λ m last t. t; turns = λ m last. refl; answers = λ m last. refl; is_left = λ m. refl }

    some : (x : ℕ) (v : View) (l : SeenUnowned x v) → 1 ≤ x
    some x v l = shows_count shape v.seen v.number i e x l.owing.o l.legal l.owing.here l.owing.duty (l.owing.entry e entry0) l.says

    abbrev EntryClaim : EntryDownAnswer → View → Type 0
    EntryClaim a w = IsFinishedInEntry shape s e v0 w a × GoesOn shape (entry_finish_act s a) 2 v0 w

    entry_hits : (seen new : ℕ) (v w : View) (l : SeenUnowned seen v) → Told shape deinit (Exchange (number (extent_of shape) (places.Unowned e)) seen new) v seen w → EntryClaim (entry_down_end seen) w
    entry_hits seen new v w l told = dite (ℕ_discrete seen 1) one more
      where
        called_by : (b : Bool) → (seen == 1) ≡ b → Called shape (acts.Finish s b ∷ []) 2 v0 w
        called_by b is = subst (λ t. Called shape (acts.Finish s t ∷ []) 2 v0 w) is (hit_called (places.Unowned e) lt (λ w x. refl) knows_unowned (λ x u. u) seen new v w l told)

        works : w.working ≡ without_next (number (extent_of shape)) s v0.working
        works = hit_works (places.Unowned e) lt (λ w x. refl) knows_unowned (λ x u. u) seen new v w l told

        alone : SeesNoStranger w
        alone = hit_alone (places.Unowned e) lt (λ w x. refl) knows_unowned (λ x u. u) seen new v w l told

        one : seen ≡ 1 → EntryClaim (cond (seen == 1) entry_downs.Last entry_downs.More) w
        one is =
            let t = eq-eqb seen 1 is in
            subst (λ b. EntryClaim (cond b entry_downs.Last entry_downs.More) w) (sym t)
            (hit_frees (places.Unowned e) lt (λ w x. refl) knows_unowned (λ x u. u) seen new v w l told (Some e) t (λ o here slot entry. entry e entry0), record { called = called_by true t; working = works; alone = alone })

        more : seen ≢ 1 → EntryClaim (cond (seen == 1) entry_downs.Last entry_downs.More) w
        more ne = let t = ne_eqb seen 1 ne in subst (λ b. EntryClaim (cond b entry_downs.Last entry_downs.More) w) (sym t) (tt, record { called = called_by false t; working = works; alone = alone })

    entry_misses : (seen new found : ℕ) (v w : View) (l : SeenUnowned seen v) → Told shape deinit (Exchange (number (extent_of shape) (places.Unowned e)) seen new) v found w → found ≢ seen → EntryClaim (entry_downs.Again (record { seen = seen; found = found })) w
    entry_misses seen new found v w l told ne =
        let g = miss_owing (places.Unowned e) lt (λ w x. refl) knows_unowned (λ x u. u) seen new found v w l told ne in (
          (
            (i, g.o, g.here, g.duty, g.slot, g.entry e entry0),
            read_twice (places.Unowned e) lt (λ w x. refl) knows_unowned (λ x u. u) seen new found v w l told ne,
          ),
          miss_goes_on (places.Unowned e) lt (λ w x. refl) knows_unowned (λ x u. u) seen new found v w l told ne,
        )

    entry_may : MayTry entry_down_takes entry_down_turned entry_down_answer shape deinit (number (extent_of shape) (places.Unowned e)) EntryDownWord entry_down_row entry_down_end entry_downs.Again entry_plan (λ p. left_at p.at) entry_attempt v0 SeenUnowned
    entry_may = record {
      looks = may_look (places.Unowned e) lt (λ w x. refl) knows_unowned;
      looked = looked (places.Unowned e) lt (λ w x. refl) knows_unowned (λ x u. u);
      fits = some;
      swaps = λ x new v l is. may_swap (places.Unowned e) lt (λ w x. refl) knows_unowned (λ x u. u) x new v l (ap (λ m. is_number m e) (l.owing.entry e entry0) ∙ eq-eqb e e refl)
          (let one = some x v l in let less = write_inj is in omega (arith, one, less));
    }

    entry_comes : Comes entry_down_takes entry_down_turned entry_down_answer shape deinit (number (extent_of shape) (places.Unowned e)) EntryDownWord entry_down_row entry_down_end entry_downs.Again entry_plan (λ p. left_at p.at) entry_attempt v0 SeenUnowned EntryClaim
    entry_comes = record {
      tells = λ x v a l is. tell≢write (sym is);
      hits = λ seen new w t. entry_hits seen new t.v w t.l t.told;
      misses = λ seen new found w t ne. entry_misses seen new found t.v w t.l t.told ne;
    }

    pub may_finish_in_entry : MayRun entry_down_takes entry_down_turned entry_down_answer shape deinit (entry_plan ats.Start) None v0
    may_finish_in_entry = may_attempt entry_down_takes entry_down_turned entry_down_answer shape deinit (number (extent_of shape) (places.Unowned e)) EntryDownWord entry_down_row entry_down_end entry_downs.Again entry_plan (λ p. left_at p.at) entry_attempt v0 SeenUnowned EntryClaim entry_may entry_comes

    pub has_finished_in_entry : (a : EntryDownAnswer) (w : View) → Ran entry_down_turned entry_down_answer shape deinit (entry_plan ats.Start) None v0 a w → EntryClaim a w
    has_finished_in_entry = has_attempted entry_down_takes entry_down_turned entry_down_answer shape deinit (number (extent_of shape) (places.Unowned e)) EntryDownWord entry_down_row entry_down_end entry_downs.Again entry_plan (λ p. left_at p.at) entry_attempt v0 SeenUnowned EntryClaim entry_may entry_comes

-- the same for the plans as they are started
pub may_end_inline : (shape : HeapShape) (s : ℕ) (v : View) {layout : Extent} {intent : Intent} {plan : Attempt} → OwesNoName v → IsBareDying shape v s → IsSized shape → s < shape.slots → layout ≡ extent_of shape → intent ≡ intents.Deinit s
    → plan ≡ record { layout = layout; slot = s; at = ats.Start } → MayRun unowned_down_takes unowned_down_turned unowned_down_answer shape intent plan None v
may_end_inline shape s v free (i, o, here, duty, slot, bare) sized lt laid asks plan_is =
    may_asked unowned_down_turned unowned_down_answer shape v asks (plan_is ∙ ap (λ l. record { layout = l; slot = s; at = ats.Start }) laid) unowned_down_takes (may_finish shape s v free i o here duty slot bare sized lt)

pub has_ended_inline : (shape : HeapShape) (s : ℕ) (v : View) {layout : Extent} {intent : Intent} {plan : Attempt} → OwesNoName v → IsBareDying shape v s → IsSized shape → s < shape.slots → layout ≡ extent_of shape → intent ≡ intents.Deinit s
    → plan ≡ record { layout = layout; slot = s; at = ats.Start } → (a : UnownedDownAnswer) (w : View) → Ran unowned_down_turned unowned_down_answer shape intent plan None v a w → IsFinishedInline shape s v w a × GoesOn shape (inline_finish_act s a) (finish_steps a) v w
has_ended_inline shape s v free (i, o, here, duty, slot, bare) sized lt laid asks plan_is a w ran =
    has_finished shape s v free i o here duty slot bare sized lt a w (ran_asked unowned_down_turned unowned_down_answer shape v asks (plan_is ∙ ap (λ l. record { layout = l; slot = s; at = ats.Start }) laid) a w ran)

pub may_end_in_entry : (shape : HeapShape) (s e : ℕ) (v : View) {layout : Extent} {intent : Intent} {plan : EntryFall} → OwesNoName v → IsBareDyingWith shape v s e → e < shape.entries → layout ≡ extent_of shape → intent ≡ intents.Deinit s
    → plan ≡ record { layout = layout; entry = e; list = kinds.Unowned; at = ats.Start } → MayRun entry_down_takes entry_down_turned entry_down_answer shape intent plan None v
may_end_in_entry shape s e v free (i, o, here, duty, slot, bare, entry) lt laid asks plan_is =
    may_asked entry_down_turned entry_down_answer shape v asks (plan_is ∙ ap (λ l. record { layout = l; entry = e; list = kinds.Unowned; at = ats.Start }) laid) entry_down_takes (may_finish_in_entry shape s v free i o here duty slot bare e lt entry)

pub has_ended_in_entry : (shape : HeapShape) (s e : ℕ) (v : View) {layout : Extent} {intent : Intent} {plan : EntryFall} → OwesNoName v → IsBareDyingWith shape v s e → e < shape.entries → layout ≡ extent_of shape → intent ≡ intents.Deinit s
    → plan ≡ record { layout = layout; entry = e; list = kinds.Unowned; at = ats.Start } → (a : EntryDownAnswer) (w : View) → Ran entry_down_turned entry_down_answer shape intent plan None v a w → IsFinishedInEntry shape s e v w a × GoesOn shape (entry_finish_act s a) 2 v w
has_ended_in_entry shape s e v free (i, o, here, duty, slot, bare, entry) lt laid asks plan_is a w ran =
    has_finished_in_entry shape s v free i o here duty slot bare e lt entry a w (ran_asked entry_down_turned entry_down_answer shape v asks (plan_is ∙ ap (λ l. record { layout = l; entry = e; list = kinds.Unowned; at = ats.Start }) laid) a w ran)
