-- The plan that exchanges the word of a global, on the shared heap.
use Rattle.std.proofs.Common.{◌≡◌, ◌≢◌, inl, ⊎_elim, ℕ, zero, suc, ◌+◌, ◌<◌, ◌==◌, Bool, true, false, cond, List, [], ◌∷◌, ◌++◌, length, Option, None, Some, refl, sym, ap, ◌∙◌, subst, arith, eq-eqb, ne_eqb}
use Rattle.std.specs.Prelude.{slice_get, ⊤}
use mathlib.Core.Logic.{dite}
use native.Mathlib.Decide.{ℕ_discrete}
use Rattle.arc_model.specs.declared.event.Act.{Act}
use Rattle.arc_model.specs.declared.event.Act.TheVariants as acts
use Rattle.arc_model.specs.declared.event.CellName.TheVariants as cells
use Rattle.arc_model.specs.declared.event.Event.{Event}
use Rattle.arc_model.specs.declared.shape.Kind.TheVariants as kinds
use Rattle.arc_model.specs.declared.shape.RefShape.{RefShape}
use Rattle.arc_model.specs.Shapes.{HeapShape}
use Rattle.arc_model.specs.Heaps.{Hand, Object}
use Rattle.arc_model.specs.Heaps as holders
use Rattle.arc_model.specs.History.{heap_after, next_hand, IsLegal}
use Rattle.arc_model.specs.Lookup.{spot}
use Rattle.arc_model.specs.Own.{brings_hand}
use Rattle.arc_model.proofs.Basics.{None≢Some, Some-inj, in-not_empty}
use Rattle.arc_model.proofs.Own.{own_gains}
use Rattle.arc_rule.specs.declared.step.Step.{Step}
use Rattle.arc_rule.specs.declared.step.Step.TheVariants.{Load, Exchange}
use Rattle.arc_rule.specs.declared.step.Intent.{Intent}
use Rattle.arc_rule.specs.declared.step.Intent.TheVariants as intents
use Rattle.arc_rule.specs.declared.layout.Place.TheVariants as places
use Rattle.arc_rule.specs.Places.{extent_of, number}
use Rattle.arc_rule.specs.Shown.{Says}
use Rattle.arc_view.specs.declared.view.Mark.{Mark}
use Rattle.arc_view.specs.declared.view.Working.{Working}
use Rattle.arc_view.specs.declared.view.View.{View}
use Rattle.arc_view.specs.Views.{made_in}
use Rattle.arc_view.specs.Holding.{At, heap_of}
use Rattle.arc_view.specs.Admission.{IsPut}
use Rattle.arc_view.specs.Rule.{FitsCell, IsWithin}
use Rattle.arc_view.specs.Kinds.{act_of, event_list}
use Rattle.arc_view.specs.Admission.{Admits}
use Rattle.arc_view.specs.Steps.{Told}
use Rattle.arc_view.specs.Calls.{Called}
use Rattle.arc_view.proofs.Held.{stays_after}
use Rattle.arc_view.proofs.Within.{each_at}
use Rattle.arc_view.proofs.Swapping.{named_kind, LeadsTo, global_shows}
use Rattle.arc_rule.specs.Places.{place_at}
use Rattle.arc_view.proofs.Loading.{load_works}
use Rattle.arc_rule.specs.declared.attempt.At.{At as At'}
use Rattle.arc_rule.specs.declared.attempt.At.TheVariants as ats
use Rattle.arc_rule.specs.declared.attempt.Choice.TheVariants.{Tell, Write}
use Rattle.arc_rule.specs.Attempts.{left_at}
use Rattle.arc_cells.specs.declared.swap.SwapAnswer.{SwapAnswer}
use Rattle.arc_cells.specs.declared.swap.SwapAnswer.TheVariants as answers
use Rattle.arc_cells.specs.Swaps.{SwapAttempt, swap_row, swap_takes, swap_turned, swap_answer}
use Rattle.arc_table.specs.declared.tokens.Any.{Any}
use Rattle.arc_table.specs.declared.tokens.Any.TheVariants as anys
use Rattle.arc_table.specs.Cells.{hand_in, word_of, HoldsStrong, IsNamed, MayPut, hand_for, IsExchanged, exchanged_act}
use Rattle.arc_table.specs.Calls.{GoesOn}
use Rattle.arc_table.specs.Runs.{MayRun, Ran}
use Rattle.arc_view_laws.specs.Strangers.{SeesNoStranger}
use Rattle.arc_view_laws.specs.Having.{IsStrongOf}
use Rattle.arc_view_laws.proofs.Counted.{told_alone}
use Rattle.arc_view_laws.proofs.Growing.{told_called}
use Rattle.arc_view_laws.proofs.Kept.{stands}
use Rattle.arc_table.proofs.Making.{grew_most, next_none}
use Rattle.arc_table.proofs.Attempt.{tell_inj, write_inj, tell≢write, IsAttempt, MayTry, Comes, may_attempt, has_attempted}
use Rattle.arc_table.proofs.TwoSteps.{two_steps, reads_twice}

-- what the view has to put in, with its word: nothing, or a strong hand of an object of the global's class
abbrev pub IsPutIn : HeapShape → ℕ → View → Option ℕ → ℕ → Type 0
IsPutIn shape g v None w = w ≡ 0
IsPutIn shape g v (Some k) w = (s : ℕ) × (class : ℕ) × IsStrongOf v k s class × IsNamed shape g class × (w ≡ s + 2)

pub may_put : (shape : HeapShape) (g : ℕ) (v : View) (put : Any) → MayPut shape g v put → IsPutIn shape g v (hand_in put) (word_of put)
may_put shape g v anys.Nil p = refl
may_put shape g v (anys.Strong t) (lt, (class, strong, named)) = (t.slot, class, strong, named, refl)

index_below : {X : Type 0} (xs : List X) (i : ℕ) (x : X) → slice_get xs i ≡ Some x → i < length xs
index_below [] i x e = absurd (None≢Some x e)
index_below (y ∷ ys) zero x e = omega arith
index_below (y ∷ ys) (suc i) x e = let lt = index_below ys i x e in omega (arith, lt)

-- the word of such a global is in the table
pub global_within : (shape : HeapShape) (g : ℕ) → HoldsStrong shape g → g < length shape.globals
global_within shape g strong = let n = named_kind kinds.Strong (slice_get shape.globals g) strong in index_below shape.globals g n.0 n.1

is_put : (shape : HeapShape) (g : ℕ) (v : View) (put : Option ℕ) (w : ℕ) → HoldsStrong shape g → IsPutIn shape g v put w → IsPut shape v (cells.Global g) put w
is_put shape g v None w strong is = is
is_put shape g v (Some k) w strong (s, class, (i, o, hand, here, slot, is_class), (r, named, class_is), is) =
    let n = named_kind kinds.Strong (slice_get shape.globals g) strong in
    (kinds.Strong, i, o, r, hand, here, named, ap (λ (t : RefShape). t.kind) (Some-inj (sym named ∙ n.1)) ∙ n.2, class_is ∙ sym is_class, (s, slot, is))

-- a call of no event leaves it
put_stays : (shape : HeapShape) (g n : ℕ) (v w : View) (put : Option ℕ) (u : ℕ) → Called shape [] n v w → IsPutIn shape g v put u → IsPutIn shape g w put u
put_stays shape g n v w None u c is = is
put_stays shape g n v w (Some k) u c (s, class, strong, named, is) = (s, class, stands shape [] n v w k c tt s class strong, named, is)

module _ (shape : HeapShape) (g : ℕ) (put : Option ℕ) (new : ℕ) (v0 : View) (strong : HoldsStrong shape g) (free : v0.working.owes ≡ None) (access : v0.working.access ≡ None) (put_in : IsPutIn shape g v0 put new) where
  abbrev cell_at : ℕ
  cell_at = number (extent_of shape) (places.Global g)

  abbrev intent : Intent
  intent = intents.Swap (cells.Global g) put

  abbrev look : Step
  look = Load cell_at

  within : g < length shape.globals
  within = global_within shape g strong

  -- after the load
  pub record Looked (x : ℕ) (v : View) : Type 0 where
    pub called : Called shape [] 1 v0 v
    pub working : v.working ≡ v0.working
    pub mark : Mark
    pub trail : v.trail ≡ mark ∷ v0.trail
    pub step : mark.step ≡ look
    pub found : mark.found ≡ x
    pub alone : SeesNoStranger v

  may_look : Admits shape v0 look intent
  may_look = (places.Global g, refl, within, free, tt, tt)

  looked : (x : ℕ) (v : View) → Told shape intent look v0 x v → Looked x v
  looked x v t =
      let h = t.between ++ v0.seen in record {
        called = told_called shape intent look v0 x v t;
        working = ap (λ (u : View). u.working) t.after ∙ load_works v0.working (place_at (extent_of shape) cell_at) x intent (λ slot e. cc);
        mark = record { step = look; found = x; length = length h; made = made_in v0.number h };
        trail = ap (λ (u : View). u.trail) t.after;
        step = refl;
        found = refl;
        alone = told_alone shape intent look v0 x v t;
      }

  may_swap : (x : ℕ) (v : View) → Looked x v → x ≢ 1 → Admits shape v (Exchange cell_at x new) intent
  may_swap x v l calm = (places.Global g, refl, within, ap (λ (w : Working). w.owes) l.working ∙ free, (refl, calm, ap (λ (w : Working). w.access) l.working ∙ access, tt, is_put shape g v put new strong (put_stays shape g 1 v0 v put new l.called put_in)))

  -- what each answer tells
  abbrev Claim : SwapAnswer → View → Type 0
  Claim a w = IsExchanged shape g v0 w a × GoesOn shape (exchanged_act g put v0 a) 2 v0 w

  -- Took: what the global referred to is the pass's new hand
  taken : (seen next : ℕ) (v w : View) → Looked seen v → seen ≢ 1 → Told shape intent (Exchange cell_at seen next) v seen w → Claim (answers.Took seen) w
  taken seen next v w l calm told =
      let p = v.number in
      let n = next_hand v.number v.seen in
      let a : Act = acts.Swap (cells.Global g) put (hand_for v seen) in
      let e : Event = record { thread = p; act = a } in
      let st = Exchange cell_at seen next in
      let h = told.between ++ v.seen in
      let hits = eq-eqb seen seen refl in
      let act_is : act_of shape v st intent seen ≡ Some a = ap (λ b. cond b (Some a) None) hits in
      let seen_is : w.seen ≡ e ∷ h = ap (λ (u : View). u.seen) told.after ∙ ap (λ b. event_list p b ++ h) act_is in
      let legal : IsLegal shape (e ∷ h) = subst (IsLegal shape) seen_is told.legal in
      let next_is : n ≡ next_hand v0.number v0.seen = next_none 1 v0 v l.called.grew in
      let w_is : w.number ≡ p = ap (λ (u : View). u.number) told.after in
      let says : Says shape (heap_after h) (places.Global g) seen = (told.read (places.Global g) tt within refl).says (λ busy. calm busy) in (
        λ some. ⊎_elim
            (λ (z : (seen ≡ 0) × _). absurd (some z.0))
            (λ (lead : LeadsTo (heap_after h) g seen).
            let q = stays_after shape e h legal lead.place lead.object lead.here in
            let slot = q.slot (inl (in-not_empty (holders.Global g) lead.object.strong lead.listed)) ∙ lead.in_slot in
            let here : At (heap_of w) lead.place q.q = ap (λ k. slice_get (heap_after k).objects lead.place) seen_is ∙ q.here in
            let brings : brings_hand a ≡ Some n = ap (λ b. cond b None (Some n)) (ne_eqb seen 0 some) in
            let came : spot (Hand w.number n) (heap_of w) ≡ Some (record { place = lead.place; kind = kinds.Strong }) = (λ j. spot (Hand (w_is j) n) (heap_after (seen_is j))) ∙ (own_gains shape h e n legal brings ∙ lead.at) in
            let fits : FitsCell (heap_after h) (Some (record { place = lead.place; kind = kinds.Strong })) (slice_get shape.globals g) = subst (λ m. FitsCell (heap_after h) m (slice_get shape.globals g)) lead.at (told.met_in_shape.globals g) in
            let same : lead.object ≡ fits.0 = Some-inj (sym lead.here ∙ fits.2) in
            let class_is : q.q.class ≡ fits.1.class = q.class ∙ (ap (λ (o : Object). o.class) same ∙ fits.4) in (
              lead.slot,
              lead.word,
              (
                (each_at (IsWithin shape) (heap_of w).objects lead.place q.q told.in_shape.within here).0 lead.slot slot,
                (fits.1.class, subst (λ m. IsStrongOf w m lead.slot fits.1.class) next_is (lead.place, q.q, came, here, slot, class_is), (fits.1, fits.3, refl)),
              ),
            ))
            (global_shows shape h g seen legal.1 strong says),
        two_steps shape intent st (exchanged_act g put v0 (answers.Took seen)) seen v0 v w l.called.grew l.working refl told
            (act_is ∙ ap (λ m. Some (acts.Swap (cells.Global g) put (cond (seen == 0) None (Some m)))) next_is) (ap (λ b. cond b v.working v.working) hits),
      )

  -- an exchange that found another word
  missed : (seen next found : ℕ) (v w : View) → Looked seen v → Told shape intent (Exchange cell_at seen next) v found w → found ≢ seen → Claim (answers.Again (record { seen = seen; found = found })) w
  missed seen next found v w l told ne =
      let miss = ne_eqb found seen ne in (
        reads_twice shape intent cell_at seen next found v0 v w l.mark l.trail l.step l.found told ne,
        two_steps shape intent (Exchange cell_at seen next) None found v0 v w l.called.grew l.working refl told (ap (λ b. cond b (Some (acts.Swap (cells.Global g) put (hand_for v seen))) None) miss) (ap (λ b. cond b v.working v.working) miss),
      )

  -- one step is at most two
  busy : (w : View) → Looked 1 w → Claim answers.Busy w
  busy w l = (
    record { mark = l.mark; before = []; trail = l.trail; loads = l.step; found = l.found },
    record { called = record { grew = grew_most [] 1 2 v0 w (omega arith) l.called.grew; legal = l.called.legal; in_shape = l.called.in_shape }; working = l.working; alone = l.alone },
  )

  -- by whether the word is that of an access
  row_is : (x : ℕ) (b : Bool) → (x == 1) ≡ b → swap_row new x ≡ cond b (Tell answers.Busy) (Write new)
  row_is x b is = ap (λ t. cond t (Tell answers.Busy) (Write new)) is

  calm_there : (x next : ℕ) → swap_row new x ≡ Write next → x ≢ 1
  calm_there x next is one = tell≢write (sym (row_is x true (eq-eqb x 1 one)) ∙ is)

  tells : (x : ℕ) (v : View) (a : SwapAnswer) → Looked x v → swap_row new x ≡ Tell a → Claim a v
  tells x v a l is = dite (ℕ_discrete x 1)
      (λ one. subst (λ b. Claim b v) (tell_inj (sym (row_is x true (eq-eqb x 1 one)) ∙ is)) (busy v (subst (λ m. Looked m v) one l)))
      (λ calm. tell≢write (sym is ∙ row_is x false (ne_eqb x 1 calm)))

  swaps : (x next : ℕ) (v : View) → Looked x v → swap_row new x ≡ Write next → Admits shape v (Exchange cell_at x next) intent
  swaps x next v l is =
      let calm = calm_there x next is in
      subst (λ m. Admits shape v (Exchange cell_at x m) intent) (write_inj (sym (row_is x false (ne_eqb x 1 calm)) ∙ is)) (may_swap x v l calm)

  abbrev Fits : ℕ → Type 0
  Fits x = ⊤

  abbrev plan : At' → SwapAttempt
  plan m = record { layout = extent_of shape; place = cell_at; new = new; at = m }

  attempt : IsAttempt swap_takes swap_turned swap_answer cell_at Fits (swap_row new) answers.Took answers.Again plan (λ p. left_at p.at)
  attempt = record { takes_it = λ m last t. t; turns = λ m last. refl; answers = λ m last. refl; is_left = λ m. refl }

  may : MayTry swap_takes swap_turned swap_answer shape intent cell_at Fits (swap_row new) answers.Took answers.Again plan (λ p. left_at p.at) attempt v0 Looked
  may = record { looks = may_look; looked = looked; fits = λ x v l. tt; swaps = swaps }

  comes : Comes swap_takes swap_turned swap_answer shape intent cell_at Fits (swap_row new) answers.Took answers.Again plan (λ p. left_at p.at) attempt v0 Looked Claim
  comes = record { tells = tells; hits = λ seen next w t. taken seen next t.v w t.l (calm_there seen next t.is) t.told; misses = λ seen next found w t ne. missed seen next found t.v w t.l t.told ne }

  -- the attempt may run
  pub may_exchange : MayRun swap_takes swap_turned swap_answer shape intent (plan ats.Start) None v0
  may_exchange = may_attempt swap_takes swap_turned swap_answer shape intent cell_at Fits (swap_row new) answers.Took answers.Again plan (λ p. left_at p.at) attempt v0 Looked Claim may comes

  pub has_exchanged : (a : SwapAnswer) (w : View) → Ran swap_turned swap_answer shape intent (plan ats.Start) None v0 a w → Claim a w
  has_exchanged = has_attempted swap_takes swap_turned swap_answer shape intent cell_at Fits (swap_row new) answers.Took answers.Again plan (λ p. left_at p.at) attempt v0 Looked Claim may comes
