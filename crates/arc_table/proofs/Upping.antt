-- The plan that copies a strong reference by the inline word, on the shared heap.
use Rattle.std.proofs.Common.{◌≡◌, ◌≢◌, ◌⊎◌, inl, inr, ℕ, ◌<◌, ◌≤◌, ◌==◌, Bool, false, true, cond, [], ◌++◌, length, None, Some, refl, sym, ap, ◌∙◌, subst, arith, eq-eqb, ne_eqb}
use mathlib.Core.Logic.{dite}
use native.Mathlib.Decide.{ℕ_discrete}
use Rattle.arc_bits.specs.declared.packing.Inline.{Inline}
use Rattle.arc_bits.specs.declared.packing.Word.TheVariants.{Counts}
use Rattle.arc_bits.specs.Words.{IsWordOf, unpacked, counts_word}
use Rattle.arc_bits.specs.Moves.{strong_more}
use Rattle.arc_model.specs.declared.event.Act.{Act}
use Rattle.arc_model.specs.declared.shape.Kind.TheVariants as kinds
use Rattle.arc_model.specs.Shapes.{HeapShape}
use Rattle.arc_model.specs.Heaps.{Hand, Object}
use Rattle.arc_model.specs.Lookup.{spot}
use Rattle.arc_rule.specs.Places.{extent_of}
use Rattle.arc_rule.specs.declared.layout.Place.TheVariants.{Count}
use Rattle.arc_view.specs.Holding.{At}
use Rattle.arc_view.specs.Rule.{IsSized}
use Rattle.arc_model.specs.declared.event.Act.TheVariants as acts
use Rattle.arc_model.specs.declared.event.Origin.TheVariants as origins
use Rattle.arc_model.specs.Holders.{is_number}
use Rattle.arc_model.specs.History.{next_hand}
use Rattle.arc_rule.specs.declared.step.Step.{Step}
use Rattle.arc_rule.specs.declared.step.Step.TheVariants.{Load, Exchange}
use Rattle.arc_rule.specs.declared.step.Intent.{Intent}
use Rattle.arc_rule.specs.declared.step.Intent.TheVariants as intents
use Rattle.arc_rule.specs.declared.layout.Place.{Place}
use Rattle.arc_rule.specs.Places.{number}
use Rattle.arc_rule.proofs.Places.{place_at-number}
use Rattle.arc_view.specs.declared.view.Working.{Working}
use Rattle.arc_view.specs.declared.view.View.{View}
use Rattle.arc_view.specs.Views.{made_in}
use Rattle.arc_view.specs.Holding.{heap_of}
use Rattle.arc_view.specs.Kinds.{act_of, working_loaded, working_after}
use Rattle.arc_view.specs.Admission.{Admits}
use Rattle.arc_view.specs.Steps.{Told}
use Rattle.arc_view_laws.specs.Having.{IsStrongOf}
use Rattle.arc_table.specs.Causes.{IsLookOfImmortal}
use Rattle.arc_table.specs.Attempts.{IsRaisedInline, inline_up_act, up_steps}
use Rattle.arc_table.specs.Calls.{GoesOn}
use Rattle.arc_view_laws.proofs.StrongWords.{ShowsStrong, counts, slow, forever, one_unpacked, is_count_word}
use Rattle.arc_table.proofs.Making.{grew_most}
use Rattle.arc_table.proofs.Lasting.{copy_told}
use Rattle.arc_rule.specs.declared.attempt.At.{At as At'}
use Rattle.arc_rule.specs.declared.attempt.At.TheVariants as ats
use Rattle.arc_rule.specs.declared.attempt.Choice.{Choice}
use Rattle.arc_rule.specs.declared.attempt.Choice.TheVariants.{Tell, Write}
use Rattle.arc_plan.specs.declared.strong.StrongUpAnswer.{StrongUpAnswer}
use Rattle.arc_plan.specs.declared.strong.StrongUpAnswer.TheVariants as ups
use Rattle.arc_plan.specs.Attempts.{CappedAttempt, IsCountWord}
use Rattle.arc_rule.specs.Attempts.{left_at}
use Rattle.arc_plan.specs.Strong.{strong_up_row, strong_up_takes, strong_up_turned, strong_up_answer}
use Rattle.arc_table.specs.Runs.{MayRun, Ran}
use Rattle.arc_view_laws.proofs.Growing.{grew_none}
use Rattle.arc_rule.specs.Extents.{Extent}
use Rattle.arc_table.proofs.Attempt.{tell_inj, write_inj, tell≢write, IsAttempt, MayTry, Comes, may_attempt, has_attempted}
use Rattle.arc_table.proofs.Invariant.{may_asked, ran_asked}
use Rattle.arc_table.proofs.TwoSteps.{two_steps, reads_twice}
use Rattle.arc_table.proofs.HeldHand.{holds_first, copied}
use Rattle.arc_table.proofs.InSlot.{Looked, looked, knows_slot, not_forever, look_goes_on, look_stands, look_has, is_mortal, dies}

module _ (shape : HeapShape) (k s : ℕ) (v0 : View) (sized : IsSized shape) (lt : s < shape.slots) (free : v0.working.owes ≡ None) (i : ℕ) (o0 : Object)
    (hand0 : spot (Hand v0.number k) (heap_of v0) ≡ Some (record { place = i; kind = kinds.Strong })) (here0 : At (heap_of v0) i o0) (slot0 : o0.slot ≡ Some s) where
  abbrev count_at : ℕ
  count_at = number (extent_of shape) (Count s)

  abbrev copy : Intent
  copy = intents.Copy (origins.Hand k)

  abbrev look : Step
  look = Load count_at

  abbrev act : Act
  act = acts.Copy (origins.Hand k) (next_hand v0.number v0.seen)

  abbrev Shown : ℕ → View → Type 0
  Shown = Looked shape k s v0 sized lt i o0 hand0 here0 slot0

  -- what each answer tells
  abbrev Claim : StrongUpAnswer → View → Type 0
  Claim a w = IsRaisedInline shape k s v0 w a × GoesOn shape (inline_up_act k v0 a) (up_steps a) v0 w × IsLookOfImmortal shape k s v0 w

  -- a load of the inline word shows no event, or the copy of an immortal object
  may_look : Admits shape v0 look copy
  may_look = (Count s, refl, lt, free, knows_slot shape k s v0 sized lt i o0 hand0 here0 slot0 v0 (holds_first shape k v0 i o0 hand0 here0), tt)

  look_act : (x : ℕ) (b : Bool) → (x == 1) ≡ b → act_of shape v0 look copy x ≡ cond b (Some act) None
  look_act x b is = copy_told shape v0 k i s x o0 lt hand0 here0 slot0 ∙ ap (λ t. cond t (Some act) None) is

  look_works : (x : ℕ) → working_after shape v0 look copy x ≡ v0.working
  look_works x = ap (λ (q : Place). working_loaded v0.working q x copy) (place_at-number (extent_of shape) (Count s) lt)

  -- the load showed that the object is immortal, and the copy with it
  lasts : (x : ℕ) (v : View) → x ≡ 1 → Told shape copy look v0 x v → Claim ups.Up v
  lasts x v one t =
      let c = copied shape k v0 i o0 hand0 here0 copy look x v0 v (holds_first shape k v0 i o0 hand0 here0) (grew_most [] 0 1 v0 v0 (omega arith) (grew_none v0)) t (look_act x true (eq-eqb x 1 one)) (look_works x) in
      (c.0, c.1, λ class strong is. (record { step = look; found = x; length = length (t.between ++ v0.seen); made = made_in v0.number (t.between ++ v0.seen) }, ap (λ (u : View). u.trail) t.after, refl, one))

  -- what the load told
  abbrev After : ℕ → View → Type 0
  After x v = ((x ≡ 1) × Claim ups.Up v) ⊎ Shown x v

  after : (x : ℕ) (v : View) → Told shape copy look v0 x v → After x v
  after x v t = dite (ℕ_discrete x 1) (λ one. inl (one, lasts x v one t)) (λ other. inr (looked shape k s v0 sized lt i o0 hand0 here0 slot0 copy x v other (look_act x false (ne_eqb x 1 other)) (look_works x) t))

  abbrev row : ℕ → Choice StrongUpAnswer
  row x = strong_up_row shape.caps.strong (unpacked x)

  one_row : (x : ℕ) → x ≡ 1 → row x ≡ Tell ups.Up
  one_row x one = ap (strong_up_row shape.caps.strong) (ap unpacked one ∙ one_unpacked)

  -- what the plan makes of the word that was read
  data Row (x : ℕ) (v : View) (l : Shown x v) : Type 0 where
    capped : (c : Inline) → IsWordOf (Counts c) x → c.deiniting ≡ false → c.strong_extra ≡ shape.caps.strong → row x ≡ Tell ups.AtCap → Row x v l
    copies : (c : Inline) → IsWordOf (Counts c) x → c.deiniting ≡ false → c.strong_extra < shape.caps.strong → row x ≡ Write (counts_word (strong_more c)) → Row x v l
    aside : (e : ℕ) → l.holding.o.entry ≡ Some e → e < shape.entries → row x ≡ Tell (ups.Slow e) → Row x v l

  row_of : (x : ℕ) (v : View) (l : Shown x v) → Row x v l
  row_of x v l = go l.shows
    where
      by : Bool → Bool → Inline → Choice StrongUpAnswer
      by d t c = cond d (Tell ups.Dead) (cond t (Tell ups.AtCap) (Write (counts_word (strong_more c))))

      go : ShowsStrong shape l.holding.o x → Row x v l
      go (counts c is word lives cap unowned none) = dite (ℕ_discrete c.strong_extra shape.caps.strong)
          (λ e. capped c word lives e (ap (strong_up_row shape.caps.strong) is ∙ (λ j. by (lives j) (eq-eqb c.strong_extra shape.caps.strong e j) c)))
          (λ ne. copies c word lives (omega (arith, cap, ne)) (ap (strong_up_row shape.caps.strong) is ∙ (λ j. by (lives j) (ne_eqb c.strong_extra shape.caps.strong ne j) c)))
      go (slow e is entry within) = aside e entry within (ap (strong_up_row shape.caps.strong) is)
      go (forever one is immortal) = not_forever shape k s v0 sized lt i o0 hand0 here0 slot0 x v l immortal

  abbrev Fits : ℕ → Type 0
  Fits x = IsCountWord shape.entries (λ c. c.strong_extra ≤ shape.caps.strong) (unpacked x)

  fits : (x : ℕ) (v : View) → After x v → Fits x
  fits x v (inl (one, c)) = subst (IsCountWord shape.entries (λ c. c.strong_extra ≤ shape.caps.strong)) (sym (ap unpacked one ∙ one_unpacked)) tt
  fits x v (inr l) = is_count_word shape l.holding.o x l.shows

  -- the counts that were read have room
  swaps : (x new : ℕ) (v : View) → After x v → row x ≡ Write new → Admits shape v (Exchange count_at x new) copy
  swaps x new v (inl (one, c)) is = tell≢write (sym (one_row x one) ∙ is)
  swaps x new v (inr l) is = elim (row_of x v l) [
    | capped c word lives full said ↦ tell≢write (sym said ∙ is)
    | aside e entry within said ↦ tell≢write (sym said ∙ is)
    | copies c word lives room writes ↦ let g = l.holding in
        (Count s, refl, lt, ap (λ (w : Working). w.owes) g.working ∙ free, (kinds.Strong, i, g.o, (g.hand, tt), g.here, ap (λ m. is_number m s) (g.slot ∙ slot0) ∙ eq-eqb s s refl, (c, word, lives, room, write_inj (sym is ∙ writes))))
  ]

  tells : (x : ℕ) (v : View) (a : StrongUpAnswer) → After x v → row x ≡ Tell a → Claim a v
  tells x v a (inl (one, c)) is = subst (λ b. Claim b v) (tell_inj (sym (one_row x one) ∙ is)) c
  tells x v a (inr l) is = elim (row_of x v l) [
    | capped c word lives full said ↦ subst (λ b. Claim b v) (tell_inj (sym said ∙ is))
        (record { word = x; counts = c; loaded = record { mark = l.mark; before = []; trail = l.trail; loads = l.step; found = l.found }; packs = word; live = lives; at_cap = full }, goes_on, once)
    | aside e entry within said ↦ subst (λ b. Claim b v) (tell_inj (sym said ∙ is))
        ((look_stands shape k s v0 sized lt i o0 hand0 here0 slot0 x v l, look_has shape k s v0 sized lt i o0 hand0 here0 slot0 x e v l entry, within, is_mortal shape k s v0 sized lt i o0 hand0 here0 slot0 x v l), goes_on, once)
    | copies c word lives room writes ↦ tell≢write (sym is ∙ writes)
  ]
    where
      goes_on : GoesOn shape None 1 v0 v
      goes_on = look_goes_on shape k s v0 sized lt i o0 hand0 here0 slot0 x v l

      once : IsLookOfImmortal shape k s v0 v
      once = dies shape k s v0 sized lt i o0 hand0 here0 slot0 x v v l

  hits : (seen new : ℕ) (v w : View) → After seen v → row seen ≡ Write new → Told shape copy (Exchange count_at seen new) v seen w → Claim ups.Up w
  hits seen new v w (inl (one, c)) is told = tell≢write (sym (one_row seen one) ∙ is)
  hits seen new v w (inr l) is told =
      let hit = eq-eqb seen seen refl in
      let c = copied shape k v0 i o0 hand0 here0 copy (Exchange count_at seen new) seen v w l.holding l.grew told (ap (λ b. cond b (Some (acts.Copy (origins.Hand k) (next_hand v.number v.seen))) None) hit) (ap (λ b. cond b v.working v.working) hit) in
      (c.0, c.1, dies shape k s v0 sized lt i o0 hand0 here0 slot0 seen v w l)

  misses : (seen new found : ℕ) (v w : View) → After seen v → row seen ≡ Write new → Told shape copy (Exchange count_at seen new) v found w → found ≢ seen → Claim (ups.Again (record { seen = seen; found = found })) w
  misses seen new found v w (inl (one, c)) is told ne = tell≢write (sym (one_row seen one) ∙ is)
  misses seen new found v w (inr l) is told ne =
      let miss = ne_eqb found seen ne in (
        reads_twice shape copy count_at seen new found v0 v w l.mark l.trail l.step l.found told ne,
        two_steps shape copy (Exchange count_at seen new) None found v0 v w l.grew l.holding.working refl told (ap (λ b. cond b (Some (acts.Copy (origins.Hand k) (next_hand v.number v.seen))) None) miss) (ap (λ b. cond b v.working v.working) miss),
        dies shape k s v0 sized lt i o0 hand0 here0 slot0 seen v w l,
      )

  abbrev plan : At' → CappedAttempt
  plan m = record { layout = extent_of shape; slot = s; cap = shape.caps.strong; at = m }

  attempt : IsAttempt strong_up_takes strong_up_turned strong_up_answer count_at Fits row (λ seen. ups.Up) ups.Again plan (λ p. left_at p.at)
  attempt = record { takes_it = λ m last t. t; turns = λ m last. refl; answers = λ m last. refl; is_left = λ m. refl }

  may : MayTry strong_up_takes strong_up_turned strong_up_answer shape copy count_at Fits row (λ seen. ups.Up) ups.Again plan (λ p. left_at p.at) attempt v0 After
  may = record { looks = may_look; looked = after; fits = fits; swaps = swaps }

  comes : Comes strong_up_takes strong_up_turned strong_up_answer shape copy count_at Fits row (λ seen. ups.Up) ups.Again plan (λ p. left_at p.at) attempt v0 After Claim
  comes = record { tells = tells; hits = λ seen new w t. hits seen new t.v w t.l t.is t.told; misses = λ seen new found w t ne. misses seen new found t.v w t.l t.is t.told ne }

  -- The attempt may run, and its answer has its cause: Again two differing words that were read one after the other, AtCap counts at the cap, Slow the
  -- object's entry. It never answers Dead.
  pub may_up : MayRun strong_up_takes strong_up_turned strong_up_answer shape copy (plan ats.Start) None v0
  may_up = may_attempt strong_up_takes strong_up_turned strong_up_answer shape copy count_at Fits row (λ seen. ups.Up) ups.Again plan (λ p. left_at p.at) attempt v0 After Claim may comes

  pub has_upped : (a : StrongUpAnswer) (w : View) → Ran strong_up_turned strong_up_answer shape copy (plan ats.Start) None v0 a w → Claim a w
  has_upped = has_attempted strong_up_takes strong_up_turned strong_up_answer shape copy count_at Fits row (λ seen. ups.Up) ups.Again plan (λ p. left_at p.at) attempt v0 After Claim may comes

-- the same for a strong reference to an object in the slot, by the plan as it is started
module _ (shape : HeapShape) (k s : ℕ) (v : View) {layout : Extent} {cap : ℕ} {intent : Intent} {plan : CappedAttempt} (sized : IsSized shape) (laid : layout ≡ extent_of shape) (cap_is : cap ≡ shape.caps.strong) (asks : intent ≡ intents.Copy (origins.Hand k))
    (plan_is : plan ≡ record { layout = layout; slot = s; cap = cap; at = ats.Start }) (held : (s < shape.slots) × ((class : ℕ) × IsStrongOf v k s class)) (free : v.working.owes ≡ None) where
  starts : plan ≡ record { layout = extent_of shape; slot = s; cap = shape.caps.strong; at = ats.Start }
  starts = plan_is ∙ (λ j. record { layout = laid j; slot = s; cap = cap_is j; at = ats.Start })

  pub may_raise : MayRun strong_up_takes strong_up_turned strong_up_answer shape intent plan None v
  may_raise = let t = held.1.1 in may_asked strong_up_turned strong_up_answer shape v asks starts strong_up_takes (may_up shape k s v sized held.0 free t.0 t.1 t.2 t.3 t.4)

  pub has_raised : (a : StrongUpAnswer) (w : View) → Ran strong_up_turned strong_up_answer shape intent plan None v a w → IsRaisedInline shape k s v w a × GoesOn shape (inline_up_act k v a) (up_steps a) v w × IsLookOfImmortal shape k s v w
  has_raised a w ran = let t = held.1.1 in has_upped shape k s v sized held.0 free t.0 t.1 t.2 t.3 t.4 a w (ran_asked strong_up_turned strong_up_answer shape v asks starts a w ran)
