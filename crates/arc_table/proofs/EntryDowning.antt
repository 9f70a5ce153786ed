-- The plan that drops a strong reference by the count of the object's entry, on the shared heap.
use Rattle.std.proofs.Common.{◌≡◌, ◌≢◌, ℕ, ◌-◌, ◌<◌, ◌≤◌, ◌==◌, cond, [], ◌∷◌, ◌++◌, length, None, Some, refl, sym, ap, ◌∙◌, subst, arith, eq-eqb, ne_eqb, Bool, true, false, ◌&&◌}
use Rattle.std.specs.Prelude.{is_none}
use mathlib.Core.Logic.{dite}
use native.Mathlib.Decide.{ℕ_discrete}
use Rattle.arc_model.specs.declared.event.Act.TheVariants as acts
use Rattle.arc_model.specs.declared.shape.Kind.TheVariants as kinds
use Rattle.arc_model.specs.Shapes.{HeapShape}
use Rattle.arc_model.specs.Heaps.{Hand, Object}
use Rattle.arc_model.specs.History.{heap_after, IsLegal}
use Rattle.arc_model.specs.Lookup.{spot}
use Rattle.arc_rule.specs.declared.layout.Place.{Place}
use Rattle.arc_rule.specs.declared.layout.Place.TheVariants.{Strong}
use Rattle.arc_rule.specs.declared.step.Step.{Step}
use Rattle.arc_rule.specs.declared.step.Step.TheVariants.{Load, Exchange}
use Rattle.arc_rule.specs.declared.step.Intent.{Intent}
use Rattle.arc_rule.specs.declared.step.Intent.TheVariants as intents
use Rattle.arc_rule.specs.Places.{extent_of, number, place_at}
use Rattle.arc_rule.proofs.Places.{place_at-number}
use Rattle.arc_view.specs.declared.view.Mark.{Mark}
use Rattle.arc_view.specs.declared.view.Working.{Working}
use Rattle.arc_view.specs.declared.view.View.{View}
use Rattle.arc_view.specs.Views.{made_in}
use Rattle.arc_view.specs.Holding.{At, heap_of}
use Rattle.arc_view.specs.Kinds.{act_of, event_list, kind_at, loaded_act, working_loaded, working_after, is_last, when}
use Rattle.arc_view.specs.Admission.{Admits}
use Rattle.arc_view.specs.Steps.{Told}
use Rattle.arc_view.specs.Calls.{Grew}
use Rattle.arc_rule.specs.declared.attempt.At.{At as At'}
use Rattle.arc_rule.specs.declared.attempt.Choice.TheVariants.{Write}
use Rattle.arc_rule.specs.declared.attempt.At.TheVariants as ats
use Rattle.arc_rule.specs.Attempts.{left_at}
use Rattle.arc_side.specs.declared.entry_down.EntryDownAnswer.{EntryDownAnswer}
use Rattle.arc_side.specs.declared.entry_down.EntryDownAnswer.TheVariants as downs
use Rattle.arc_side.specs.Entries.{EntryFall, EntryDownWord, entry_down_row, entry_down_end, entry_down_takes, entry_down_turned, entry_down_answer}
use Rattle.arc_table.specs.Attempts.{IsLoweredInEntry, entry_down_act}
use Rattle.arc_table.specs.Calls.{GoesOn, IsFree}
use Rattle.arc_table.specs.Runs.{MayRun, Ran}
use Rattle.arc_view_laws.proofs.Growing.{acts_of, told_grew}
use Rattle.arc_rule.specs.Extents.{Extent}
use Rattle.arc_table.proofs.Attempt.{write_inj, tell≢write, IsAttempt, MayTry, Comes, may_attempt, has_attempted}
use Rattle.arc_table.proofs.Invariant.{may_asked, ran_asked}
use Rattle.arc_table.proofs.TwoSteps.{two_steps, reads_twice}
use Rattle.arc_table.proofs.HeldHand.{Holding, holds_first, holds_on}
use Rattle.arc_table.proofs.InEntry.{word_later, knows_entry, its_entry, counted_there}
use Rattle.arc_table.specs.Causes.{HasEntry}

module _ (shape : HeapShape) (k e : ℕ) (v0 : View) (lt : e < shape.entries) (free : v0.working.owes ≡ None) (no_access : v0.working.access ≡ None) (i : ℕ) (o0 : Object)
    (hand0 : spot (Hand v0.number k) (heap_of v0) ≡ Some (record { place = i; kind = kinds.Strong })) (here0 : At (heap_of v0) i o0) (entry0 : o0.entry ≡ Some e) where
  abbrev count_at : ℕ
  count_at = number (extent_of shape) (Strong e)

  abbrev drop : Intent
  drop = intents.Drop k

  abbrev look : Step
  look = Load count_at

  abbrev holding0 : Holding shape k v0 i o0 v0
  holding0 = holds_first shape k v0 i o0 hand0 here0

  look_none : (x : ℕ) → act_of shape v0 look drop x ≡ None
  look_none x = ap (λ (q : Place). loaded_act shape v0 q x drop) (place_at-number (extent_of shape) (Strong e) lt) ∙ ap (λ b. when b (acts.Drop k false)) (never (is_none v0.working.access))
    where
      never : (b : Bool) → (b && false) ≡ false
      never true = refl
      never false = refl

  look_works : (x : ℕ) → working_after shape v0 look drop x ≡ v0.working
  look_works x = ap (λ (q : Place). working_loaded v0.working q x drop) (place_at-number (extent_of shape) (Strong e) lt)

  -- a load shows no event
  may_look : Admits shape v0 look drop
  may_look = (Strong e, refl, lt, free, knows_entry shape k e v0 i o0 entry0 v0 holding0, tt)

  -- after the load the hand stands where it stood, and the word that was found counts it
  pub record Looked (x : ℕ) (v : View) : Type 0 where
    pub grew : Grew [] 1 v0 v
    pub holding : Holding shape k v0 i o0 v
    pub some : 1 ≤ x
    pub mark : Mark
    pub trail : v.trail ≡ mark ∷ v0.trail
    pub step : mark.step ≡ look
    pub found : mark.found ≡ x

  looked : (x : ℕ) (v : View) → Told shape drop look v0 x v → Looked x v
  looked x v t =
      let h = t.between ++ v0.seen in
      let none = look_none x in
      let seen : v.seen ≡ h = ap (λ (u : View). u.seen) t.after ∙ ap (λ a. event_list v0.number a ++ h) none in
      let legal : IsLegal shape h = subst (IsLegal shape) seen t.legal in
      let word = word_later shape k e v0 i o0 entry0 v0 t.between legal t.others holding0 x ((t.read (Strong e) tt lt refl).says (λ u. u)) in record {
        grew = subst (λ a. Grew (acts_of a) 1 v0 v) none (told_grew shape drop look v0 x v t);
        holding = holds_on shape k v0 i o0 v0 t.between legal t.others holding0 v (ap (λ (u : View). u.number) t.after) (ap (λ (u : View). u.working) t.after ∙ look_works x) (ap heap_after seen);
        some = word.0;
        mark = record { step = look; found = x; length = length h; made = made_in v0.number h };
        trail = ap (λ (u : View). u.trail) t.after;
        step = refl;
        found = refl;
      }

  swaps : (x new : ℕ) (v : View) → Looked x v → entry_down_row x ≡ Write new → Admits shape v (Exchange count_at x new) drop
  swaps x new v l is = let g = l.holding in (
    Strong e,
    refl,
    lt,
    ap (λ (w : Working). w.owes) g.working ∙ free,
    (kinds.Strong, i, g.o, g.hand, ap (λ (w : Working). w.access) g.working ∙ no_access, g.here, counted_there shape k e v0 i o0 entry0 v g, (let some = l.some in let less = write_inj is in omega (arith, some, less))),
  )

  -- what each answer tells
  abbrev Claim : EntryDownAnswer → View → Type 0
  Claim a w = IsLoweredInEntry shape k e v0 w a × GoesOn shape (entry_down_act k a) 2 v0 w

  -- More and Last, by the count that was exchanged: the pass has dropped the hand
  hits : (seen new : ℕ) (v w : View) → Looked seen v → Told shape drop (Exchange count_at seen new) v seen w → Claim (entry_down_end seen) w
  hits seen new v w l told = dite (ℕ_discrete seen 1)
      (λ one. let t = eq-eqb seen 1 one in subst (λ b. Claim (cond b downs.Last downs.More) w) (sym t) (tt, subst (λ b. GoesOn shape (Some (acts.Drop k b)) 2 v0 w) t gone))
      (λ ne. let t = ne_eqb seen 1 ne in subst (λ b. Claim (cond b downs.Last downs.More) w) (sym t) (tt, subst (λ b. GoesOn shape (Some (acts.Drop k b)) 2 v0 w) t gone))
    where
      last_is : is_last (kind_at (spot (Hand v.number k) (heap_of v))) (place_at (extent_of shape) count_at) seen ≡ (seen == 1)
      last_is = λ j. is_last (kind_at (l.holding.hand j)) (place_at-number (extent_of shape) (Strong e) lt j) seen

      act_is : act_of shape v (Exchange count_at seen new) drop seen ≡ Some (acts.Drop k (seen == 1))
      act_is = ap (λ b. cond b (Some (acts.Drop k (is_last (kind_at (spot (Hand v.number k) (heap_of v))) (place_at (extent_of shape) count_at) seen))) None) (eq-eqb seen seen refl) ∙ ap (λ b. Some (acts.Drop k b)) last_is

      gone : GoesOn shape (Some (acts.Drop k (seen == 1))) 2 v0 w
      gone = two_steps shape drop (Exchange count_at seen new) (Some (acts.Drop k (seen == 1))) seen v0 v w l.grew l.holding.working refl told act_is (ap (λ b. cond b v.working v.working) (eq-eqb seen seen refl))

  -- Again: the exchange found another word than the load
  misses : (seen new found : ℕ) (v w : View) → Looked seen v → Told shape drop (Exchange count_at seen new) v found w → found ≢ seen → Claim (downs.Again (record { seen = seen; found = found })) w
  misses seen new found v w l told ne = (
    (its_entry shape k e v0 i o0 entry0 w (holds_on shape k v0 i o0 v told.between (subst (IsLegal shape) seen_is told.legal) told.others l.holding w (ap (λ (u : View). u.number) told.after) (ap (λ (u : View). u.working) told.after ∙ keeps) (ap heap_after seen_is)), reads_twice shape drop count_at seen new found v0 v w l.mark l.trail l.step l.found told ne),
    two_steps shape drop (Exchange count_at seen new) None found v0 v w l.grew l.holding.working refl told act_is keeps,
  )
    where
      act_is : act_of shape v (Exchange count_at seen new) drop found ≡ None
      act_is = ap (λ b. cond b (Some (acts.Drop k (is_last (kind_at (spot (Hand v.number k) (heap_of v))) (place_at (extent_of shape) count_at) seen))) None) (ne_eqb found seen ne)

      keeps : working_after shape v (Exchange count_at seen new) drop found ≡ v.working
      keeps = ap (λ b. cond b v.working v.working) (ne_eqb found seen ne)

      seen_is : w.seen ≡ told.between ++ v.seen
      seen_is = ap (λ (u : View). u.seen) told.after ∙ ap (λ b. event_list v.number b ++ (told.between ++ v.seen)) act_is

  abbrev plan : At' → EntryFall
  plan m = record { layout = extent_of shape; entry = e; list = kinds.Strong; at = m }

  attempt : IsAttempt entry_down_takes entry_down_turned entry_down_answer count_at EntryDownWord entry_down_row entry_down_end downs.Again plan (λ p. left_at p.at)
  attempt = record { takes_it = λ m last t. t; turns = λ m last. refl; answers = λ m last. refl; is_left = λ m. refl }

  may : MayTry entry_down_takes entry_down_turned entry_down_answer shape drop count_at EntryDownWord entry_down_row entry_down_end downs.Again plan (λ p. left_at p.at) attempt v0 Looked
  may = record { looks = may_look; looked = looked; fits = λ x v l. l.some; swaps = swaps }

  comes : Comes entry_down_takes entry_down_turned entry_down_answer shape drop count_at EntryDownWord entry_down_row entry_down_end downs.Again plan (λ p. left_at p.at) attempt v0 Looked Claim
  comes = record { tells = λ x v a l is. tell≢write (sym is); hits = λ seen new w t. hits seen new t.v w t.l t.told; misses = λ seen new found w t ne. misses seen new found t.v w t.l t.told ne }

  -- The attempt may run, and its answer has its cause: Again two differing words that were read one after the other, Last a count of 1, More another one.
  pub may_down : MayRun entry_down_takes entry_down_turned entry_down_answer shape drop (plan ats.Start) None v0
  may_down = may_attempt entry_down_takes entry_down_turned entry_down_answer shape drop count_at EntryDownWord entry_down_row entry_down_end downs.Again plan (λ p. left_at p.at) attempt v0 Looked Claim may comes

  pub has_dropped : (a : EntryDownAnswer) (w : View) → Ran entry_down_turned entry_down_answer shape drop (plan ats.Start) None v0 a w → Claim a w
  has_dropped = has_attempted entry_down_takes entry_down_turned entry_down_answer shape drop count_at EntryDownWord entry_down_row entry_down_end downs.Again plan (λ p. left_at p.at) attempt v0 Looked Claim may comes

-- the same for a hand that has the entry, by the plan as it is started
module _ (shape : HeapShape) (k e : ℕ) (v : View) {layout : Extent} {intent : Intent} {plan : EntryFall} (laid : layout ≡ extent_of shape) (asks : intent ≡ intents.Drop k)
    (plan_is : plan ≡ record { layout = layout; entry = e; list = kinds.Strong; at = ats.Start }) (lt : e < shape.entries) (free : IsFree v) (has : HasEntry v k e) where
  starts : plan ≡ record { layout = extent_of shape; entry = e; list = kinds.Strong; at = ats.Start }
  starts = plan_is ∙ ap (λ l. record { layout = l; entry = e; list = kinds.Strong; at = ats.Start }) laid

  pub may_lower : MayRun entry_down_takes entry_down_turned entry_down_answer shape intent plan None v
  may_lower = may_asked entry_down_turned entry_down_answer shape v asks starts entry_down_takes (may_down shape k e v lt free.owes free.access has.0 has.1 has.2 has.3 has.4)

  pub has_lowered : (a : EntryDownAnswer) (w : View) → Ran entry_down_turned entry_down_answer shape intent plan None v a w → IsLoweredInEntry shape k e v w a × GoesOn shape (entry_down_act k a) 2 v w
  has_lowered a w ran = has_dropped shape k e v lt free.owes free.access has.0 has.1 has.2 has.3 has.4 a w (ran_asked entry_down_turned entry_down_answer shape v asks starts a w ran)
