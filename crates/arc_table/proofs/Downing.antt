-- The plan that drops a strong reference by the inline word, on the shared heap.
use Rattle.arc_model.specs.declared.event.Act.TheVariants as acts
use Rattle.arc_table.proofs.Making.{grew_most}
use Rattle.arc_table.proofs.Lasting.{drop_told}
use Rattle.arc_view_laws.proofs.Counted.{told_alone}
use Rattle.arc_view_laws.specs.Having.{IsStrongOf}
use Rattle.arc_table.specs.Causes.{IsLookOfImmortal}
use Rattle.arc_table.specs.Attempts.{IsLoweredInline, inline_down_act, down_steps}
use Rattle.arc_table.specs.Calls.{GoesOn, IsFree}
use Rattle.std.proofs.Common.{◌≡◌, ◌≢◌, ◌⊎◌, inl, inr, ℕ, ◌<◌, ◌==◌, Bool, true, false, cond, [], ◌∷◌, ◌++◌, length, None, Some, refl, sym, ap, ◌∙◌, subst, arith, eq-eqb, ne_eqb}
use mathlib.Core.Logic.{dite}
use native.Mathlib.Decide.{ℕ_discrete}
use Rattle.arc_bits.specs.declared.packing.Inline.{Inline}
use Rattle.arc_bits.specs.declared.packing.Word.TheVariants.{Counts}
use Rattle.arc_bits.specs.Words.{IsWordOf, unpacked, counts_word}
use Rattle.arc_bits.specs.Moves.{strong_less}
use Rattle.arc_model.specs.declared.shape.Kind.TheVariants as kinds
use Rattle.arc_model.specs.Shapes.{HeapShape}
use Rattle.arc_model.specs.Heaps.{Hand, Object}
use Rattle.arc_model.specs.Lookup.{spot}
use Rattle.arc_rule.specs.Places.{extent_of, place_at}
use Rattle.arc_rule.specs.declared.layout.Place.TheVariants.{Count}
use Rattle.arc_view.specs.Holding.{At}
use Rattle.arc_view.specs.Rule.{IsSized}
use Rattle.arc_plan.specs.Attempts.{IsCountWord}
use Rattle.arc_model.specs.Holders.{is_number}
use Rattle.arc_rule.specs.declared.step.Step.{Step}
use Rattle.arc_rule.specs.declared.step.Step.TheVariants.{Load, Exchange}
use Rattle.arc_rule.specs.declared.step.Intent.{Intent}
use Rattle.arc_rule.specs.declared.step.Intent.TheVariants as intents
use Rattle.arc_rule.specs.declared.layout.Place.{Place}
use Rattle.arc_rule.specs.Places.{number}
use Rattle.arc_rule.proofs.Places.{place_at-number}
use Rattle.arc_view.specs.declared.view.Working.{Working}
use Rattle.arc_view.specs.declared.view.View.{View}
use Rattle.arc_view.specs.Views.{made_in}
use Rattle.arc_view.specs.Holding.{heap_of}
use Rattle.arc_view.specs.Kinds.{act_of, kind_at, working_loaded, working_after, is_last, is_last_in}
use Rattle.arc_view.specs.Admission.{Admits}
use Rattle.arc_view.specs.Steps.{Told}
use Rattle.arc_view.specs.Calls.{Grew}
use Rattle.arc_rule.specs.declared.attempt.At.{At as At'}
use Rattle.arc_rule.specs.declared.attempt.At.TheVariants as ats
use Rattle.arc_rule.specs.declared.attempt.Choice.{Choice}
use Rattle.arc_rule.specs.declared.attempt.Choice.TheVariants.{Tell, Write}
use Rattle.arc_plan.specs.declared.strong.StrongDownAnswer.{StrongDownAnswer}
use Rattle.arc_plan.specs.declared.strong.StrongDownAnswer.TheVariants as downs
use Rattle.arc_plan.specs.Attempts.{Attempt}
use Rattle.arc_rule.specs.Attempts.{left_at}
use Rattle.arc_plan.specs.Strong.{strong_down_row, strong_down_end, strong_down_takes, strong_down_turned, strong_down_answer}
use Rattle.arc_table.specs.Runs.{MayRun, Ran}
use Rattle.arc_view_laws.proofs.StrongWords.{ShowsStrong, one_unpacked}
use Rattle.arc_view_laws.proofs.StrongWords.ShowsStrong.{counts, slow, forever}
use Rattle.arc_view_laws.proofs.Growing.{acts_of, told_grew}
use Rattle.arc_rule.specs.Extents.{Extent}
use Rattle.arc_table.proofs.Attempt.{tell_inj, write_inj, tell≢write, IsAttempt, MayTry, Comes, may_attempt, has_attempted}
use Rattle.arc_table.proofs.Invariant.{may_asked, ran_asked}
use Rattle.arc_table.proofs.TwoSteps.{two_steps, reads_twice}
use Rattle.arc_table.proofs.HeldHand.{holds_first}
use Rattle.arc_table.proofs.InSlot.{Looked, looked, knows_slot, not_forever, look_goes_on, look_stands, look_has, is_mortal, dies}

module _ (shape : HeapShape) (k s : ℕ) (v0 : View) (sized : IsSized shape) (lt : s < shape.slots) (free : v0.working.owes ≡ None) (no_access : v0.working.access ≡ None) (i : ℕ) (o0 : Object)
    (hand0 : spot (Hand v0.number k) (heap_of v0) ≡ Some (record { place = i; kind = kinds.Strong })) (here0 : At (heap_of v0) i o0) (slot0 : o0.slot ≡ Some s) where
  abbrev count_at : ℕ
  count_at = number (extent_of shape) (Count s)

  abbrev drop : Intent
  drop = intents.Drop k

  abbrev look : Step
  look = Load count_at

  abbrev Shown : ℕ → View → Type 0
  Shown = Looked shape k s v0 sized lt i o0 hand0 here0 slot0

  -- what each answer tells
  abbrev Claim : StrongDownAnswer → View → Type 0
  Claim a w = IsLoweredInline shape k s v0 w a × GoesOn shape (inline_down_act k a) (down_steps a) v0 w × IsLookOfImmortal shape k s v0 w

  look_act : (x : ℕ) (b : Bool) → (x == 1) ≡ b → act_of shape v0 look drop x ≡ cond b (Some (acts.Drop k false)) None
  look_act x b is = drop_told shape v0 k i s x o0 lt hand0 here0 slot0 no_access ∙ ap (λ t. cond t (Some (acts.Drop k false)) None) is

  look_works : (x : ℕ) → working_after shape v0 look drop x ≡ v0.working
  look_works x = ap (λ (q : Place). working_loaded v0.working q x drop) (place_at-number (extent_of shape) (Count s) lt)

  -- a load of the inline word shows no event, or the drop of a reference to an immortal object
  may_look : Admits shape v0 look drop
  may_look = (Count s, refl, lt, free, knows_slot shape k s v0 sized lt i o0 hand0 here0 slot0 v0 (holds_first shape k v0 i o0 hand0 here0), tt)

  -- the load showed that the object is immortal, and the drop with it
  lasts : (x : ℕ) (v : View) → x ≡ 1 → Told shape drop look v0 x v → Claim downs.More v
  lasts x v one t = (
    tt,
    record {
      called = record { grew = grew_most (acts.Drop k false ∷ []) 1 2 v0 v (omega arith) (subst (λ a. Grew (acts_of a) 1 v0 v) (look_act x true (eq-eqb x 1 one)) (told_grew shape drop look v0 x v t)); legal = t.legal; in_shape = t.in_shape };
      working = ap (λ (u : View). u.working) t.after ∙ look_works x;
      alone = told_alone shape drop look v0 x v t;
    },
    λ class strong is. (record { step = look; found = x; length = length (t.between ++ v0.seen); made = made_in v0.number (t.between ++ v0.seen) }, ap (λ (u : View). u.trail) t.after, refl, one),
  )

  -- what the load told
  abbrev After : ℕ → View → Type 0
  After x v = ((x ≡ 1) × Claim downs.More v) ⊎ Shown x v

  after : (x : ℕ) (v : View) → Told shape drop look v0 x v → After x v
  after x v t = dite (ℕ_discrete x 1) (λ one. inl (one, lasts x v one t)) (λ other. inr (looked shape k s v0 sized lt i o0 hand0 here0 slot0 drop x v other (look_act x false (ne_eqb x 1 other)) (look_works x) t))

  abbrev row : ℕ → Choice StrongDownAnswer
  row x = strong_down_row (unpacked x)

  one_row : (x : ℕ) → x ≡ 1 → row x ≡ Tell downs.More
  one_row x one = ap strong_down_row (ap unpacked one ∙ one_unpacked)

  -- what the plan makes of the word that was read
  data Row (x : ℕ) (v : View) (l : Shown x v) : Type 0 where
    drops : (c : Inline) → unpacked x ≡ Some (Counts c) → IsWordOf (Counts c) x → c.deiniting ≡ false → row x ≡ Write (counts_word (strong_less c)) → Row x v l
    aside : (e : ℕ) → l.holding.o.entry ≡ Some e → e < shape.entries → row x ≡ Tell (downs.Slow e) → Row x v l

  row_of : (x : ℕ) (v : View) (l : Shown x v) → Row x v l
  row_of x v l = go l.shows
    where
      go : ShowsStrong shape l.holding.o x → Row x v l
      go (counts c is word lives most unowned none) = drops c is word lives (ap strong_down_row is)
      go (slow e is entry within) = aside e entry within (ap strong_down_row is)
      go (forever one is lasts) = not_forever shape k s v0 sized lt i o0 hand0 here0 slot0 x v l lasts

  abbrev Fits : ℕ → Type 0
  Fits x = IsCountWord shape.entries (λ c. c.deiniting ≡ false) (unpacked x)

  is_down_word : (o : Object) (x : ℕ) → ShowsStrong shape o x → Fits x
  is_down_word o x (counts c is word lives most unowned none) = subst (IsCountWord shape.entries (λ c. c.deiniting ≡ false)) (sym is) (unowned, lives)
  is_down_word o x (slow e is entry within) = subst (IsCountWord shape.entries (λ c. c.deiniting ≡ false)) (sym is) within
  is_down_word o x (forever one is lasts) = subst (IsCountWord shape.entries (λ c. c.deiniting ≡ false)) (sym is) tt

  fits : (x : ℕ) (v : View) → After x v → Fits x
  fits x v (inl (one, c)) = subst (IsCountWord shape.entries (λ c. c.deiniting ≡ false)) (sym (ap unpacked one ∙ one_unpacked)) tt
  fits x v (inr l) = is_down_word l.holding.o x l.shows

  -- the counts that were read
  swaps : (x new : ℕ) (v : View) → After x v → row x ≡ Write new → Admits shape v (Exchange count_at x new) drop
  swaps x new v (inl (one, c)) is = tell≢write (sym (one_row x one) ∙ is)
  swaps x new v (inr l) is = elim (row_of x v l) [
    | aside e entry within said ↦ tell≢write (sym said ∙ is)
    | drops c shown word lives writes ↦ let g = l.holding in (
      Count s,
      refl,
      lt,
      ap (λ (w : Working). w.owes) g.working ∙ free,
      (kinds.Strong, i, g.o, g.hand, ap (λ (w : Working). w.access) g.working ∙ no_access, g.here, ap (λ m. is_number m s) (g.slot ∙ slot0) ∙ eq-eqb s s refl, (c, word, lives, write_inj (sym is ∙ writes))),
    )
  ]

  tells : (x : ℕ) (v : View) (a : StrongDownAnswer) → After x v → row x ≡ Tell a → Claim a v
  tells x v a (inl (one, c)) is = subst (λ b. Claim b v) (tell_inj (sym (one_row x one) ∙ is)) c
  tells x v a (inr l) is = elim (row_of x v l) [
    | aside e entry within said ↦ subst (λ b. Claim b v) (tell_inj (sym said ∙ is)) (
      (look_stands shape k s v0 sized lt i o0 hand0 here0 slot0 x v l, look_has shape k s v0 sized lt i o0 hand0 here0 slot0 x e v l entry, within, is_mortal shape k s v0 sized lt i o0 hand0 here0 slot0 x v l),
      look_goes_on shape k s v0 sized lt i o0 hand0 here0 slot0 x v l,
      dies shape k s v0 sized lt i o0 hand0 here0 slot0 x v v l,
    )
    | drops c shown word lives writes ↦ tell≢write (sym is ∙ writes)
  ]

  -- the counts that were exchanged say whether it was the last one
  dropped : (seen new : ℕ) (v w : View) (l : Shown seen v) (c : Inline) → unpacked seen ≡ Some (Counts c) → Told shape drop (Exchange count_at seen new) v seen w → Claim (cond (c.strong_extra == 0) downs.Last downs.More) w
  dropped seen new v w l c shown told = dite (ℕ_discrete c.strong_extra 0)
      (λ e. let t = eq-eqb c.strong_extra 0 e in subst (λ b. Claim (cond b downs.Last downs.More) w) (sym t) (is_mortal shape k s v0 sized lt i o0 hand0 here0 slot0 seen v l, subst (λ b. GoesOn shape (Some (acts.Drop k b)) 2 v0 w) t gone, once))
      (λ ne. let t = ne_eqb c.strong_extra 0 ne in subst (λ b. Claim (cond b downs.Last downs.More) w) (sym t) (tt, subst (λ b. GoesOn shape (Some (acts.Drop k b)) 2 v0 w) t gone, once))
    where
      once : IsLookOfImmortal shape k s v0 w
      once = dies shape k s v0 sized lt i o0 hand0 here0 slot0 seen v w l

      last_is : is_last (kind_at (spot (Hand v.number k) (heap_of v))) (place_at (extent_of shape) count_at) seen ≡ (c.strong_extra == 0)
      last_is = (λ j. is_last (kind_at (l.holding.hand j)) (place_at-number (extent_of shape) (Count s) lt j) seen) ∙ ap (is_last_in kinds.Strong) shown

      act_is : act_of shape v (Exchange count_at seen new) drop seen ≡ Some (acts.Drop k (c.strong_extra == 0))
      act_is = ap (λ b. cond b (Some (acts.Drop k (is_last (kind_at (spot (Hand v.number k) (heap_of v))) (place_at (extent_of shape) count_at) seen))) None) (eq-eqb seen seen refl) ∙ ap (λ b. Some (acts.Drop k b)) last_is

      gone : GoesOn shape (Some (acts.Drop k (c.strong_extra == 0))) 2 v0 w
      gone = two_steps shape drop (Exchange count_at seen new) (Some (acts.Drop k (c.strong_extra == 0))) seen v0 v w l.grew l.holding.working refl told act_is (ap (λ b. cond b v.working v.working) (eq-eqb seen seen refl))

  hits : (seen new : ℕ) (v w : View) → After seen v → row seen ≡ Write new → Told shape drop (Exchange count_at seen new) v seen w → Claim (strong_down_end (unpacked seen)) w
  hits seen new v w (inl (one, c)) is told = tell≢write (sym (one_row seen one) ∙ is)
  hits seen new v w (inr l) is told = elim (row_of seen v l) [
    | aside e entry within said ↦ tell≢write (sym said ∙ is)
    | drops c shown word lives writes ↦ subst (λ m. Claim (strong_down_end m) w) (sym shown) (dropped seen new v w l c shown told)
  ]

  misses : (seen new found : ℕ) (v w : View) → After seen v → row seen ≡ Write new → Told shape drop (Exchange count_at seen new) v found w → found ≢ seen → Claim (downs.Again (record { seen = seen; found = found })) w
  misses seen new found v w (inl (one, c)) is told ne = tell≢write (sym (one_row seen one) ∙ is)
  misses seen new found v w (inr l) is told ne =
      let miss = ne_eqb found seen ne in
      let act_is : act_of shape v (Exchange count_at seen new) drop found ≡ None =
      ap (λ b. cond b (Some (acts.Drop k (is_last (kind_at (spot (Hand v.number k) (heap_of v))) (place_at (extent_of shape) count_at) seen))) None) miss in (
        reads_twice shape drop count_at seen new found v0 v w l.mark l.trail l.step l.found told ne,
        two_steps shape drop (Exchange count_at seen new) None found v0 v w l.grew l.holding.working refl told act_is (ap (λ b. cond b v.working v.working) miss),
        dies shape k s v0 sized lt i o0 hand0 here0 slot0 seen v w l,
      )

  abbrev plan : At' → Attempt
  plan m = record { layout = extent_of shape; slot = s; at = m }

  attempt : IsAttempt strong_down_takes strong_down_turned strong_down_answer count_at Fits row (λ seen. strong_down_end (unpacked seen)) downs.Again plan (λ p. left_at p.at)
  attempt = record { takes_it = λ m last t. t; turns = λ m last. refl; answers = λ m last. refl; is_left = λ m. refl }

  may : MayTry strong_down_takes strong_down_turned strong_down_answer shape drop count_at Fits row (λ seen. strong_down_end (unpacked seen)) downs.Again plan (λ p. left_at p.at) attempt v0 After
  may = record { looks = may_look; looked = after; fits = fits; swaps = swaps }

  comes : Comes strong_down_takes strong_down_turned strong_down_answer shape drop count_at Fits row (λ seen. strong_down_end (unpacked seen)) downs.Again plan (λ p. left_at p.at) attempt v0 After Claim
  comes = record { tells = tells; hits = λ seen new w t. hits seen new t.v w t.l t.is t.told; misses = λ seen new found w t ne. misses seen new found t.v w t.l t.is t.told ne }

  -- The attempt may run, and its answer has its cause: Again two differing words that were read one after the other, Slow the object's entry, Last the
  -- counts of a single strong reference.
  pub may_down : MayRun strong_down_takes strong_down_turned strong_down_answer shape drop (plan ats.Start) None v0
  may_down = may_attempt strong_down_takes strong_down_turned strong_down_answer shape drop count_at Fits row (λ seen. strong_down_end (unpacked seen)) downs.Again plan (λ p. left_at p.at) attempt v0 After Claim may comes

  pub has_dropped : (a : StrongDownAnswer) (w : View) → Ran strong_down_turned strong_down_answer shape drop (plan ats.Start) None v0 a w → Claim a w
  has_dropped = has_attempted strong_down_takes strong_down_turned strong_down_answer shape drop count_at Fits row (λ seen. strong_down_end (unpacked seen)) downs.Again plan (λ p. left_at p.at) attempt v0 After Claim may comes

-- the same for a strong reference to an object in the slot, by the plan as it is started
module _ (shape : HeapShape) (k s : ℕ) (v : View) {layout : Extent} {intent : Intent} {plan : Attempt} (sized : IsSized shape) (laid : layout ≡ extent_of shape) (asks : intent ≡ intents.Drop k)
    (plan_is : plan ≡ record { layout = layout; slot = s; at = ats.Start }) (held : (s < shape.slots) × ((class : ℕ) × IsStrongOf v k s class)) (free : IsFree v) where
  starts : plan ≡ record { layout = extent_of shape; slot = s; at = ats.Start }
  starts = plan_is ∙ ap (λ l. record { layout = l; slot = s; at = ats.Start }) laid

  pub may_lower : MayRun strong_down_takes strong_down_turned strong_down_answer shape intent plan None v
  may_lower = let t = held.1.1 in may_asked strong_down_turned strong_down_answer shape v asks starts strong_down_takes (may_down shape k s v sized held.0 free.owes free.access t.0 t.1 t.2 t.3 t.4)

  pub has_lowered : (a : StrongDownAnswer) (w : View) → Ran strong_down_turned strong_down_answer shape intent plan None v a w → IsLoweredInline shape k s v w a × GoesOn shape (inline_down_act k a) (down_steps a) v w × IsLookOfImmortal shape k s v w
  has_lowered a w ran = let t = held.1.1 in has_dropped shape k s v sized held.0 free.owes free.access t.0 t.1 t.2 t.3 t.4 a w (ran_asked strong_down_turned strong_down_answer shape v asks starts a w ran)
