-- The plan that copies a strong reference by the count of the object's entry, on the shared heap.
use Rattle.std.proofs.Common.{◌≡◌, ◌≢◌, ℕ, suc, ◌<◌, ◌≤◌, ◌==◌, ◌&&◌, Bool, true, false, cond, [], ◌∷◌, ◌++◌, length, Option, None, Some, refl, sym, ap, ◌∙◌, subst, arith, eq-eqb, ne_eqb}
use mathlib.Core.Logic.{dite}
use native.Mathlib.Decide.{ℕ_discrete}
use Rattle.arc_model.specs.declared.event.Act.{Act}
use Rattle.arc_model.specs.declared.event.Act.TheVariants as acts
use Rattle.arc_model.specs.declared.event.Origin.TheVariants as origins
use Rattle.arc_model.specs.declared.shape.Kind.TheVariants as kinds
use Rattle.arc_model.specs.Shapes.{HeapShape}
use Rattle.arc_model.specs.Heaps.{Hand, Object}
use Rattle.arc_model.specs.History.{History, heap_after, next_hand, IsLegal}
use Rattle.arc_model.specs.Lookup.{Spot, spot}
use Rattle.arc_rule.specs.declared.layout.Place.{Place}
use Rattle.arc_rule.specs.declared.layout.Place.TheVariants.{Strong}
use Rattle.arc_rule.specs.declared.step.Step.{Step}
use Rattle.arc_rule.specs.declared.step.Step.TheVariants.{Load, Exchange}
use Rattle.arc_rule.specs.declared.step.Intent.{Intent}
use Rattle.arc_rule.specs.declared.step.Intent.TheVariants as intents
use Rattle.arc_rule.specs.Places.{extent_of, number}
use Rattle.arc_rule.proofs.Places.{place_at-number}
use Rattle.arc_view.specs.declared.view.Mark.{Mark}
use Rattle.arc_view.specs.declared.view.Working.{Working}
use Rattle.arc_view.specs.declared.view.View.{View}
use Rattle.arc_view.specs.Views.{made_in}
use Rattle.arc_view.specs.Holding.{At, heap_of, is_counted_at}
use Rattle.arc_view.specs.Kinds.{act_of, event_list, kind_at, object_at, loaded_act, is_full, when, working_loaded, working_after}
use Rattle.arc_view.specs.Admission.{Admits}
use Rattle.arc_view.specs.Steps.{Told}
use Rattle.arc_view.specs.Calls.{Grew}
use Rattle.arc_rule.specs.declared.attempt.At.{At as At'}
use Rattle.arc_rule.specs.declared.attempt.At.TheVariants as ats
use Rattle.arc_rule.specs.declared.attempt.Choice.{Choice}
use Rattle.arc_rule.specs.declared.attempt.Choice.TheVariants.{Tell, Write}
use Rattle.arc_rule.specs.Attempts.{left_at}
use Rattle.arc_side.specs.declared.entry_up.EntryUpAnswer.{EntryUpAnswer}
use Rattle.arc_side.specs.declared.entry_up.EntryUpAnswer.TheVariants as ups
use Rattle.arc_side.specs.Entries.{EntryRise, entry_up_row, entry_up_takes, entry_up_turned, entry_up_answer}
use Rattle.arc_table.specs.Attempts.{IsRaisedInEntry, entry_up_act, entry_up_steps}
use Rattle.arc_table.specs.Calls.{GoesOn}
use Rattle.arc_table.specs.Runs.{MayRun, Ran}
use Rattle.arc_view_laws.proofs.Counted.{told_alone}
use Rattle.arc_view_laws.proofs.Growing.{acts_of, told_grew}
use Rattle.arc_rule.specs.Extents.{Extent}
use Rattle.arc_table.proofs.Attempt.{tell_inj, write_inj, tell≢write, IsAttempt, MayTry, Comes, may_attempt, has_attempted}
use Rattle.arc_table.proofs.Invariant.{may_asked, ran_asked}
use Rattle.arc_table.proofs.TwoSteps.{two_steps, reads_twice}
use Rattle.arc_table.proofs.HeldHand.{Holding, holds_first, holds_on, copied}
use Rattle.arc_table.proofs.InEntry.{word_later, knows_entry, its_entry, counted_there}
use Rattle.arc_table.specs.Causes.{HasEntry}

module _ (shape : HeapShape) (k e : ℕ) (v0 : View) (lt : e < shape.entries) (free : v0.working.owes ≡ None) (i : ℕ) (o0 : Object)
    (hand0 : spot (Hand v0.number k) (heap_of v0) ≡ Some (record { place = i; kind = kinds.Strong })) (here0 : At (heap_of v0) i o0) (entry0 : o0.entry ≡ Some e) where
  abbrev count_at : ℕ
  count_at = number (extent_of shape) (Strong e)

  abbrev copy : Intent
  copy = intents.Copy (origins.Hand k)

  abbrev look : Step
  look = Load count_at

  abbrev Holds : View → Type 0
  Holds v = Holding shape k v0 i o0 v

  abbrev holding0 : Holds v0
  holding0 = holds_first shape k v0 i o0 hand0 here0

  -- a load shows the greatest count, or no event
  may_look : Admits shape v0 look copy
  may_look = (Strong e, refl, lt, free, knows_entry shape k e v0 i o0 entry0 v0 holding0, tt)

  abbrev refusal : Act
  refusal = acts.CountFull kinds.Strong (origins.Hand k)

  abbrev shown : ℕ → Option Act
  shown x = when (x == shape.caps.wide) refusal

  look_shows : (v : View) (g : Holds v) (x : ℕ) → act_of shape v look copy x ≡ shown x
  look_shows v g x =
      ap (λ (q : Place). loaded_act shape v q x copy) (place_at-number (extent_of shape) (Strong e) lt)
      ∙ (ap (λ (s : Option Spot). when (is_full shape (kind_at s) (object_at (heap_of v) s) (Strong e) x) (acts.CountFull (kind_at s) (origins.Hand k))) g.hand
      ∙ (ap (λ m. when (is_counted_at kinds.Strong m (Strong e) && x == shape.caps.wide) refusal) g.here
      ∙ ap (λ b. when (b && x == shape.caps.wide) refusal) (counted_there shape k e v0 i o0 entry0 v g)))

  look_works : (x : ℕ) → working_after shape v0 look copy x ≡ v0.working
  look_works x = ap (λ (q : Place). working_loaded v0.working q x copy) (place_at-number (extent_of shape) (Strong e) lt)

  -- a refusal leaves the heap
  shown_heap : (p : ℕ) (h : History) (b : Bool) → heap_after (event_list p (when b refusal) ++ h) ≡ heap_after h
  shown_heap p h true = refl
  shown_heap p h false = refl

  shown_legal : (p : ℕ) (h : History) (b : Bool) → IsLegal shape (event_list p (when b refusal) ++ h) → IsLegal shape h
  shown_legal p h true legal = legal.1
  shown_legal p h false legal = legal

  -- after the load the hand stands where it stood, and the word that was found counts it
  pub record Looked (x : ℕ) (v : View) : Type 0 where
    pub grew : Grew (acts_of (shown x)) 1 v0 v
    pub told : Told shape copy look v0 x v
    pub holding : Holds v
    pub some : 1 ≤ x
    pub most : x ≤ shape.caps.wide
    pub mark : Mark
    pub trail : v.trail ≡ mark ∷ v0.trail
    pub step : mark.step ≡ look
    pub found : mark.found ≡ x

  looked : (x : ℕ) (v : View) → Told shape copy look v0 x v → Looked x v
  looked x v t =
      let h = t.between ++ v0.seen in
      let shows = look_shows v0 holding0 x in
      let seen : v.seen ≡ event_list v0.number (shown x) ++ h = ap (λ (u : View). u.seen) t.after ∙ ap (λ a. event_list v0.number a ++ h) shows in
      let legal : IsLegal shape h = shown_legal v0.number h (x == shape.caps.wide) (subst (IsLegal shape) seen t.legal) in
      let heap_is : heap_of v ≡ heap_after h = ap heap_after seen ∙ shown_heap v0.number h (x == shape.caps.wide) in
      let word = word_later shape k e v0 i o0 entry0 v0 t.between legal t.others holding0 x ((t.read (Strong e) tt lt refl).says (λ u. u)) in record {
        grew = subst (λ a. Grew (acts_of a) 1 v0 v) shows (told_grew shape copy look v0 x v t);
        told = t;
        holding = holds_on shape k v0 i o0 v0 t.between legal t.others holding0 v (ap (λ (u : View). u.number) t.after) (ap (λ (u : View). u.working) t.after ∙ look_works x) heap_is;
        some = word.0;
        most = word.1;
        mark = record { step = look; found = x; length = length h; made = made_in v0.number h };
        trail = ap (λ (u : View). u.trail) t.after;
        step = refl;
        found = refl;
      }

  -- below the greatest count the load showed no event
  silent : (x : ℕ) (v : View) → Looked x v → x ≢ shape.caps.wide → Grew [] 1 v0 v
  silent x v l ne = subst (λ b. Grew (acts_of (when b refusal)) 1 v0 v) (ne_eqb x shape.caps.wide ne) l.grew

  abbrev row : ℕ → Choice EntryUpAnswer
  row x = entry_up_row kinds.Strong shape.caps.wide x

  -- what the plan makes of the word that was read
  data Row (x : ℕ) : Type 0 where
    full : x ≡ shape.caps.wide → row x ≡ Tell ups.CountFull → Row x
    copies : x ≢ shape.caps.wide → row x ≡ Write (suc x) → Row x

  row_of : (x : ℕ) (v : View) → Looked x v → Row x
  row_of x v l =
      let some = l.some in
      let not_zero : (x == 0) ≡ false = ne_eqb x 0 (λ z. omega (arith, z, some)) in
      dite (ℕ_discrete x shape.caps.wide) (λ at. full at (λ j. by (not_zero j) (eq-eqb x shape.caps.wide at j))) (λ ne. copies ne (λ j. by (not_zero j) (ne_eqb x shape.caps.wide ne j)))
    where
      by : Bool → Bool → Choice EntryUpAnswer
      by z t = cond z (Tell ups.Zero) (cond t (Tell ups.CountFull) (Write (suc x)))

  -- what each answer tells
  abbrev Claim : EntryUpAnswer → View → Type 0
  Claim a w = IsRaisedInEntry shape k e v0 w a × GoesOn shape (entry_up_act k v0 a) (entry_up_steps a) v0 w

  swaps : (x new : ℕ) (v : View) → Looked x v → row x ≡ Write new → Admits shape v (Exchange count_at x new) copy
  swaps x new v l is = elim (row_of x v l) [
    | full at said ↦ tell≢write (sym said ∙ is)
    | copies ne writes ↦ let g = l.holding in (
      Strong e,
      refl,
      lt,
      ap (λ (w : Working). w.owes) g.working ∙ free,
      (kinds.Strong, i, g.o, (g.hand, tt), g.here, counted_there shape k e v0 i o0 entry0 v g, (l.some, (let most = l.most in omega (arith, most, ne)), write_inj (sym is ∙ writes))),
    )
  ]

  -- CountFull: the word that was read is the greatest
  refused : (w : View) → Looked shape.caps.wide w → Claim ups.CountFull w
  refused w l = (
    (its_entry shape k e v0 i o0 entry0 w l.holding, record { mark = l.mark; before = []; trail = l.trail; loads = l.step; found = l.found }),
    record {
      called = record { grew = subst (λ b. Grew (acts_of (when b refusal)) 1 v0 w) (eq-eqb shape.caps.wide shape.caps.wide refl) l.grew; legal = l.told.legal; in_shape = l.told.in_shape };
      working = l.holding.working;
      alone = told_alone shape copy look v0 shape.caps.wide w l.told;
    },
  )

  tells : (x : ℕ) (v : View) (a : EntryUpAnswer) → Looked x v → row x ≡ Tell a → Claim a v
  tells x v a l is = elim (row_of x v l) [
    | full at said ↦ subst (λ b. Claim b v) (tell_inj (sym said ∙ is)) (refused v (subst (λ n. Looked n v) at l))
    | copies ne writes ↦ tell≢write (sym is ∙ writes)
  ]

  -- Up: one more hand of the pass, a strong one of the same object
  hits : (seen new : ℕ) (v w : View) → Looked seen v → row seen ≡ Write new → Told shape copy (Exchange count_at seen new) v seen w → Claim ups.Up w
  hits seen new v w l is told = elim (row_of seen v l) [
    | full at said ↦ tell≢write (sym said ∙ is)
    | copies ne writes ↦ let hit = eq-eqb seen seen refl in
        copied shape k v0 i o0 hand0 here0 copy (Exchange count_at seen new) seen v w l.holding (silent seen v l ne) told (ap (λ b. cond b (Some (acts.Copy (origins.Hand k) (next_hand v.number v.seen))) None) hit) (ap (λ b. cond b v.working v.working) hit)
  ]

  -- Again: the exchange found another word than the load
  missed : (seen new found : ℕ) (v w : View) → Looked seen v → seen ≢ shape.caps.wide → Told shape copy (Exchange count_at seen new) v found w → found ≢ seen → Claim (ups.Again (record { seen = seen; found = found })) w
  missed seen new found v w l room told ne = (
    (its_entry shape k e v0 i o0 entry0 w (holds_on shape k v0 i o0 v told.between (subst (IsLegal shape) seen_is told.legal) told.others l.holding w (ap (λ (u : View). u.number) told.after) (ap (λ (u : View). u.working) told.after ∙ keeps) (ap heap_after seen_is)), reads_twice shape copy count_at seen new found v0 v w l.mark l.trail l.step l.found told ne),
    two_steps shape copy (Exchange count_at seen new) None found v0 v w (silent seen v l room) l.holding.working refl told act_is keeps,
  )
    where
      act_is : act_of shape v (Exchange count_at seen new) copy found ≡ None
      act_is = ap (λ b. cond b (Some (acts.Copy (origins.Hand k) (next_hand v.number v.seen))) None) (ne_eqb found seen ne)

      keeps : working_after shape v (Exchange count_at seen new) copy found ≡ v.working
      keeps = ap (λ b. cond b v.working v.working) (ne_eqb found seen ne)

      seen_is : w.seen ≡ told.between ++ v.seen
      seen_is = ap (λ (u : View). u.seen) told.after ∙ ap (λ b. event_list v.number b ++ (told.between ++ v.seen)) act_is

  misses : (seen new found : ℕ) (v w : View) → Looked seen v → row seen ≡ Write new → Told shape copy (Exchange count_at seen new) v found w → found ≢ seen → Claim (ups.Again (record { seen = seen; found = found })) w
  misses seen new found v w l is told ne = elim (row_of seen v l) [
    | full at said ↦ tell≢write (sym said ∙ is)
    | copies room writes ↦ missed seen new found v w l room told ne
  ]

  abbrev Fits : ℕ → Type 0
  Fits x = x ≤ shape.caps.wide

  abbrev plan : At' → EntryRise
  plan m = record { layout = extent_of shape; entry = e; list = kinds.Strong; wide = shape.caps.wide; at = m }

  attempt : IsAttempt entry_up_takes entry_up_turned entry_up_answer count_at Fits row (λ seen. ups.Up) ups.Again plan (λ p. left_at p.at)
  attempt = record { takes_it = λ m last t. t; turns = λ m last. refl; answers = λ m last. refl; is_left = λ m. refl }

  may : MayTry entry_up_takes entry_up_turned entry_up_answer shape copy count_at Fits row (λ seen. ups.Up) ups.Again plan (λ p. left_at p.at) attempt v0 Looked
  may = record { looks = may_look; looked = looked; fits = λ x v l. l.most; swaps = swaps }

  comes : Comes entry_up_takes entry_up_turned entry_up_answer shape copy count_at Fits row (λ seen. ups.Up) ups.Again plan (λ p. left_at p.at) attempt v0 Looked Claim
  comes = record { tells = tells; hits = λ seen new w t. hits seen new t.v w t.l t.is t.told; misses = λ seen new found w t ne. misses seen new found t.v w t.l t.is t.told ne }

  -- The attempt may run, and its answer has its cause: Again two differing words that were read one after the other, CountFull the greatest count. It
  -- never answers Zero.
  pub may_up : MayRun entry_up_takes entry_up_turned entry_up_answer shape copy (plan ats.Start) None v0
  may_up = may_attempt entry_up_takes entry_up_turned entry_up_answer shape copy count_at Fits row (λ seen. ups.Up) ups.Again plan (λ p. left_at p.at) attempt v0 Looked Claim may comes

  pub has_upped : (a : EntryUpAnswer) (w : View) → Ran entry_up_turned entry_up_answer shape copy (plan ats.Start) None v0 a w → Claim a w
  has_upped = has_attempted entry_up_takes entry_up_turned entry_up_answer shape copy count_at Fits row (λ seen. ups.Up) ups.Again plan (λ p. left_at p.at) attempt v0 Looked Claim may comes

-- the same for a hand that has the entry, by the plan as it is started
module _ (shape : HeapShape) (k e : ℕ) (v : View) {layout : Extent} {wide : ℕ} {intent : Intent} {plan : EntryRise} (laid : layout ≡ extent_of shape) (wide_is : wide ≡ shape.caps.wide) (asks : intent ≡ intents.Copy (origins.Hand k))
    (plan_is : plan ≡ record { layout = layout; entry = e; list = kinds.Strong; wide = wide; at = ats.Start }) (lt : e < shape.entries) (free : v.working.owes ≡ None) (has : HasEntry v k e) where
  starts : plan ≡ record { layout = extent_of shape; entry = e; list = kinds.Strong; wide = shape.caps.wide; at = ats.Start }
  starts = plan_is ∙ (λ j. record { layout = laid j; entry = e; list = kinds.Strong; wide = wide_is j; at = ats.Start })

  pub may_raise : MayRun entry_up_takes entry_up_turned entry_up_answer shape intent plan None v
  may_raise = may_asked entry_up_turned entry_up_answer shape v asks starts entry_up_takes (may_up shape k e v lt free has.0 has.1 has.2 has.3 has.4)

  pub has_raised : (a : EntryUpAnswer) (w : View) → Ran entry_up_turned entry_up_answer shape intent plan None v a w → IsRaisedInEntry shape k e v w a × GoesOn shape (entry_up_act k v a) (entry_up_steps a) v w
  has_raised a w ran = has_upped shape k e v lt free has.0 has.1 has.2 has.3 has.4 a w (ran_asked entry_up_turned entry_up_answer shape v asks starts a w ran)
