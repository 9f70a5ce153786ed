-- What is known of a stepper that drives a pass while it is doing something, and what a step must leave of it.
use Rattle.std.proofs.Common.{◌≡◌, ℕ, zero, ◌+◌, ◌<◌, ◌&&◌, Bool, true, false, cond, List, [], ◌∷◌, ◌++◌, length, Option, Some, None, refl, sym, ap, ◌∙◌, subst, arith, eq-eqb}
use Rattle.std.specs.Prelude.{All}
use Rattle.arc_model.specs.declared.event.Act.{Act}
use Rattle.arc_model.specs.declared.event.Act.TheVariants as acts
use Rattle.arc_model.specs.Shapes.{HeapShape}
use Rattle.arc_model.specs.Heaps.{Hand}
use Rattle.arc_model.specs.Holders.{is_number, is_claimed_by}
use Rattle.arc_model.specs.History.{History, heap_after, next_hand, is_of, share, IsLegal}
use Rattle.arc_model.specs.Lookup.{spot, duty_of}
use Rattle.arc_model.specs.Own.{ends_hand, brings_hand, brought, owed_next, claimed_next}
use Rattle.arc_spelling.specs.Spelling.{Note, hands_of, one_more_if}
use Rattle.arc_spelling.specs.Spelling.Note.{Did, Line, Operation, Name, Entry, NeedsEntry, Nil, Refers}
use Rattle.arc_spelling.specs.SpellingTies.{Ties, Holds, Causes}
use Rattle.arc_spelling.specs.SpellingTies.Causes.{Judged}
use Rattle.arc_spelling.specs.SpellingTies.Ties.{start, own, other, noted}
use Rattle.arc_spelling.proofs.SpellTies.{hands_are, ties_others}
use Rattle.arc_rule.specs.Extents.{Extent}
use Rattle.arc_rule.specs.Places.{extent_of, number}
use Rattle.arc_rule.specs.declared.layout.Place.TheVariants.{Count, Isa, Next, Field, SlotBits}
use Rattle.arc_rule.specs.declared.step.Step.{Step}
use Rattle.arc_rule.specs.declared.step.Step.TheVariants as steps
use Rattle.arc_rule.specs.declared.step.Intent.{Intent}
use Rattle.arc_rule.specs.declared.step.Intent.TheVariants as intents
use Rattle.arc_model.proofs.Basics.{Some-inj, None≢Some}
use Rattle.arc_model.specs.declared.event.Origin.{Origin}
use Rattle.arc_model.specs.declared.event.Origin.TheVariants as origins
use Rattle.arc_rule.specs.declared.attempt.At.{At as AttemptAt}
use Rattle.arc_rule.specs.declared.attempt.At.TheVariants as attempt
use Rattle.arc_plan.specs.declared.slots.Once.{Once}
use Rattle.arc_plan.specs.declared.slots.Once.TheVariants as once
use Rattle.arc_plan.specs.declared.slots.Making.{Making as Search}
use Rattle.arc_plan.specs.declared.slots.Making.TheVariants as search
use Rattle.arc_cells.specs.declared.cascade.At.{At as CascadeAt}
use Rattle.arc_cells.specs.declared.cascade.At.TheVariants as ats
use Rattle.arc_cells.specs.Cascades.{CascadeState}
use Rattle.arc_cells.specs.Chains.{Frame}
use Rattle.arc_deinits.specs.Stands.{CascadeStandsFor, CascadeUpTo}
use Rattle.arc_programs.specs.Programs.{made_of, makes}
use Rattle.arc_programs.specs.ProgramsTied.{hands_in}
use Rattle.arc_script.specs.declared.script.Op.{Op}
use Rattle.arc_served.specs.Programs.{VarsFit, ClassesFit, class_of}
use Rattle.arc_ops.specs.declared.stepper.Held.{Held}
use Rattle.arc_ops.specs.declared.stepper.Doing.{Doing}
use Rattle.arc_ops.specs.declared.stepper.Doing.TheVariants as doings
use Rattle.arc_ops.specs.declared.stepper.Move.{Move}
use Rattle.arc_ops.specs.declared.stepper.Move.TheVariants as moves
use Rattle.arc_ops.specs.Thread.{Thread, value}
use Rattle.arc_ops.specs.Turns.{turned}
use Rattle.arc_ops.specs.Takes.{takes_at, takes, HasHandLeft}
use Rattle.arc_ops.specs.Steppers.{IsStepper, IsUnderWay, IsInOperation}
use Rattle.arc_spelled.specs.StepperStands.{Work, IsServedWork, AreOfKinds, IsDying, StepperUpTo, step_in, chain_after, FitsChain}
use Rattle.arc_ops.specs.Plans.{list_of}
use Rattle.arc_spelled.specs.Came.{Extends, CameOut, came_out_at, came_out, knowing}
use Rattle.arc_spelled.specs.Shown.{Adds, IsNamedFor, deinit, line, TakesLast, finish, drop}
use Rattle.arc_spelled.specs.Spelled.{with_event_of, WordsHold}
use Rattle.arc_spelled.proofs.StepperKeeps.{stepper_goes_on, served-too}
use Rattle.arc_spelled.proofs.SteppersSpell.{added_notes_are_tied}
use Rattle.arc_view.specs.declared.view.View.{View}
use Rattle.arc_view.specs.Views.{idle, made_in}
use Rattle.arc_view.specs.Holding.{HasClaim, heap_of}
use Rattle.arc_view.specs.Rule.{InShape, IsSized, is_new, news}
use Rattle.arc_view.specs.Kinds.{act_of, event_list, searched}
use Rattle.arc_view.specs.Steps.{Told}
use Rattle.arc_view.specs.Calls.{Called}
use Rattle.arc_view.proofs.Classes.{news_of}
use Rattle.arc_view_laws.specs.Hands.{Moves}
use Rattle.arc_view_laws.proofs.Growing.{acts_of, told_called}
use Rattle.arc_view_laws.proofs.Moving.{moved, moved_none}
use Rattle.arc_ops_passes.specs.References.{references, Owns}
use Rattle.arc_ops_passes.specs.Drives.{Asks, AttemptAsks, OnceAsks, MayGoUp, MayGoDown, MayBegin, MaySwap, search_works, OwesNothing, Searched, GainsFrom, UnderWay, AreOfClasses, ComesOfClass, Drives}
use Rattle.arc_ops_passes.specs.Laws.{GoesOn}
use Rattle.arc_ops_passes.proofs.Fields.{few_fields, AllHold, IsNoted, NotesAt, notes_at, notes_of}
use Rattle.arc_ops_passes.proofs.Walks.{IsFor, IsFresh, IsFreshSearch, IsOfHand, Fits}
use Rattle.arc_ops_passes.proofs.Hands.{seen_extends}
use Rattle.arc_ops_passes.proofs.Owned.{leads_still, leads_on, to_still, to_on, owns_stay}

-- the thread as it is while its turn is worked out
abbrev pub quiet : Thread → Thread
quiet t = record t { doing = doings.Ended; first = false; event = None }

-- the work, with what the view knows of its hands
abbrev pub known : View → Work → Work
known v w = knowing (hands_in v.number v.seen) w

-- the operations of a stepper for this work fit it
pub ops_fit : (w : Work) (n : ℕ) (program : List Op) → IsServedWork w → All (VarsFit n) program → program ≡ w.program → All (Fits w n) program
ops_fit w n program served fits is =
    let classes : All (ClassesFit w.shape w.classes) program = subst (All (ClassesFit w.shape w.classes)) (sym is) served.classes_fit in
    λ k d lt. (fits k d lt, classes k d lt)

pub record Facts (w : Work) (t : Thread) (v : View) (d : Doing) : Type 0 where
  pub served : IsServedWork w
  pub sized : IsSized w.shape
  pub stepper : IsStepper t
  pub is_for : IsFor w.shape t
  pub thread : t.thread ≡ w.thread
  pub program : t.program ≡ w.program
  pub legal : IsLegal w.shape v.seen
  pub in_shape : InShape w.shape v.seen
  pub number : v.number ≡ w.thread
  pub count : length t.vars ≡ w.count
  pub kinds : AreOfKinds w.kinds t.vars
  pub next : next_hand v.number v.seen ≡ t.hands + 1
  pub made : news v.number v.seen ≡ t.made
  pub fits : IsUnderWay t.layout t.shape (length t.vars) d
  pub in_op : IsInOperation t d
  pub notes : List Note
  pub chain : List Frame
  pub hands_is : t.hands ≡ hands_of notes
  pub made_is : t.made ≡ made_of notes
  pub up_to : StepperUpTo (known v w) t.index t.vars t.cleared chain t.asked notes d
  pub owns : Owns v t.hands (references t.vars t.hands d)
  pub classed : AreOfClasses w.classes v t.vars
  pub coming : ComesOfClass w.classes v d
  pub fit : All (Fits w (length t.vars)) t.program
  pub no_claim : (e : ℕ) → HasClaim v e → ⊥
  pub asks : Asks w.shape chain t d
  pub under_way : UnderWay w.shape v chain d

-- what a view knows of its hands has what comes out of a cell
abbrev pub KnowsOf : View → Option CameOut → Type 0
KnowsOf v out = (x : CameOut) → out ≡ Some x → hands_in v.number v.seen x.hand ≡ Some (record { kind = x.kind; place = x.place })

pub knows_none : (v : View) → KnowsOf v None
knows_none v x e = absurd (None≢Some x e)

-- what a step leaves: the history h was met, and u is what the stepper is then, under this chain of deinits that wait
pub record ComesUnder (chain : List Frame) (w : Work) (t : Thread) (v : View) (step : Step) (intent : Intent) (found : ℕ) (v' : View) (h : History) (d : Doing) (u : Thread) : Type 0 where
  pub takes_it : takes_at w.shape (Some found) d
  pub event : act_of w.shape v step intent found ≡ u.event
  pub holds : NotesAt d (WordsHold Judged w.shape (extent_of w.shape) (Some (step, intent)) (Some found) w.thread u.event (came_out_at t (Some found) d) h)
  pub knows : KnowsOf v' (came_out_at t (Some found) d)
  pub count : length u.vars ≡ w.count
  pub owns : Owns v' u.hands (references u.vars u.hands u.doing)
  pub classed : AreOfClasses w.classes v' u.vars
  pub coming : ComesOfClass w.classes v' u.doing
  pub no_claim : (e : ℕ) → HasClaim v' e → ⊥
  pub asks : Asks w.shape chain u u.doing
  pub under_way : UnderWay w.shape v' chain u.doing

-- under none
abbrev pub Comes : (w : Work) (t : Thread) (v : View) (step : Step) (intent : Intent) (found : ℕ) (v' : View) (h : History) (d : Doing) (u : Thread) → Type 0
Comes w t v step intent found v' h d u = ComesUnder [] w t v step intent found v' h d u

-- ---- the objects that a thread's notes made are those of its history

makes_new : (a : Act) → makes a ≡ is_new a
makes_new (acts.New k c s) = refl
makes_new acts.Full = refl
makes_new (acts.Copy from k) = refl
makes_new (acts.UnownedOf h k) = refl
makes_new (acts.WeakOf h k) = refl
makes_new (acts.Load h g) = refl
makes_new (acts.Drop h last) = refl
makes_new (acts.CountFull k from) = refl
makes_new (acts.Claim n) = refl
makes_new acts.NoEntry = refl
makes_new (acts.Side s n why) = refl
makes_new (acts.Back n) = refl
makes_new (acts.Swap c h k) = refl
makes_new (acts.Look c) = refl
makes_new (acts.Take s f k) = refl
makes_new (acts.Finish s last) = refl
makes_new (acts.Vacate s) = refl
makes_new (acts.Gone n last) = refl

no-made : (causes : Causes) (shape : HeapShape) (h : History) (n : Note) (ns : List Note) → Holds causes shape (heap_after h) n → made_of (n ∷ ns) ≡ made_of ns
no-made causes shape h (Did a) ns x = absurd x
no-made causes shape h (Line a) ns x = refl
no-made causes shape h (Operation k) ns x = refl
no-made causes shape h (Name s name) ns x = refl
no-made causes shape h (Entry s e) ns x = refl
no-made causes shape h (NeedsEntry s l) ns x = refl
no-made causes shape h (Nil c) ns x = refl
no-made causes shape h (Refers c kind place) ns x = refl

pub made_are : (causes : Causes) (shape : HeapShape) (p : ℕ) (ns : List Note) (h : History) → Ties causes shape p ns h → news p h ≡ made_of ns
made_are causes shape p ns h start = refl
made_are causes shape p ns h (own {a = a} {ns = ms} {h = before} t) =
    news_of p (record { thread = p; act = a }) before ∙ (ap (λ b. cond (b && is_new a) 1 0 + news p before) (eq-eqb p p refl) ∙ go (is_new a) (makes a) (makes_new a) (made_are causes shape p ms before t))
  where
    go : (b c : Bool) → c ≡ b → news p before ≡ made_of ms → cond b 1 0 + news p before ≡ one_more_if c (made_of ms)
    go true true e ih = omega arith
    go false false e ih = omega arith
    go true false e ih = absurd cc
    go false true e ih = absurd cc
made_are causes shape p ns h (other {e = e} {h = before} t x) =
    let z : cond (is_of p e && is_new e.act) 1 0 ≡ zero = ap (λ b. cond (b && is_new e.act) 1 zero) x in
    let n = news_of p e before in let ih = made_are causes shape p ns before t in omega arith
made_are causes shape p ns h (noted {n = n} {ns = ms} t x) = made_are causes shape p ms h t ∙ sym (no-made causes shape h n ms x)

-- ---- from a stepper that drives

unfoldable pub facts : (w : Work) (t : Thread) (v : View) → IsServedWork w → IsStepper t → IsSized w.shape → Drives w t v → Facts w t v t.doing
facts w t v served stepper sized d = record {
  served = served;
  sized = sized;
  stepper = stepper;
  is_for = (d.stands.works.layout_is, d.stands.works.shape_is);
  thread = d.stands.works.thread_is;
  program = d.stands.works.program_is;
  legal = d.legal;
  in_shape = d.in_shape;
  number = d.number;
  count = d.count;
  kinds = d.stands.works.kinds;
  next = ap (λ p. next_hand p v.seen) d.number ∙ (hands_are Judged w.shape w.thread d.notes v.seen d.tied ∙ ap (λ n. n + 1) (sym d.stands.counts.hands_are));
  made = ap (λ p. news p v.seen) d.number ∙ (made_are Judged w.shape w.thread d.notes v.seen d.tied ∙ sym d.stands.counts.made_is);
  fits = stepper.under_way;
  in_op = stepper.in_operation;
  notes = d.notes;
  chain = d.chain;
  hands_is = d.stands.counts.hands_are;
  made_is = d.stands.counts.made_is;
  up_to = d.stands.up_to;
  owns = d.owns;
  classed = d.classed;
  coming = d.coming;
  fit = ops_fit w (length t.vars) t.program served stepper.vars_fit d.stands.works.program_is;
  no_claim = d.no_claim;
  asks = d.asks;
  under_way = d.under_way;
}

pub event_is : (p : ℕ) (e : Option Act) (h : History) → with_event_of p e h ≡ event_list p e ++ h
event_is p None h = refl
event_is p (Some a) h = refl

-- ---- to what drives on

-- the notes of a deinit that looks at a field have the object's name
name_noted : (shape : HeapShape) (root : ℕ) (base : List Note) (c : CascadeState) (fs : List Frame) (asked : Option (Step × Intent)) (now : List Note) → CascadeStandsFor root base c fs asked now → IsNoted c.slot c.at now
name_noted shape root base c fs asked now stands = at c.at stands.up_to
  where
    at : (a : CascadeAt) → CascadeUpTo c root base fs asked now a → IsNoted c.slot a now
    at ats.Start x = tt
    at ats.Entering x = tt
    at ats.Naming x = tt
    at (ats.Named name) x = tt
    at (ats.Looking name field) x = x.1.named
    at (ats.Taking name field place) x = tt
    at (ats.Dropping name field reference) x = tt
    at ats.Leaving x = tt
    at (ats.Finishing parent p) x = tt
    at (ats.Ending parent p) x = tt
    at (ats.Resuming field) x = tt
    at ats.Ended x = tt

pub goes_on : (w : Work) (t : Thread) (v : View) (step : Step) (intent : Intent) (found : ℕ) (v' : View) → IsServedWork w → HasHandLeft t → (d : Drives w t v) → t.asked ≡ moves.Step step intent → (told : Told w.shape intent step v found v')
    → FitsChain t d.chain (Some found) → ComesUnder (chain_after t (Some found) d.chain) w t v step intent found v' (told.between ++ v.seen) t.doing (turned t (Some found)) → GoesOn d.chain w t v step intent found v'
goes_on w t v step intent found v' served left d asked told fits c =
    let u : Thread = turned t (Some found) in
    let h = told.between ++ v.seen in
    let takes_it : takes t (Some found) = (subst (λ (s : HeapShape). takes_at s (Some found) t.doing) (sym d.stands.works.shape_is) c.takes_it, left) in
    let seen_is : v'.seen ≡ event_list v.number (act_of w.shape v step intent found) ++ h = ap (λ (x : View). x.seen) told.after in
    let number_is : v'.number ≡ v.number = ap (λ (x : View). x.number) told.after in
    let extends : Extends (hands_in v.number v.seen) (hands_in v'.number v'.seen) = subst (λ (x : ℕ × History). Extends (hands_in v.number v.seen) (hands_in x.0 x.1)) (λ j. (sym number_is j, sym seen_is j))
    (seen_extends w.shape v.number (act_of w.shape v step intent found) told.between v.seen (subst (IsLegal w.shape) seen_is told.legal) told.others) in
    let g = stepper_goes_on (known v w) (served-too w (hands_in v.number v.seen) served) (hands_in v'.number v'.seen) t d.chain (Some found) d.notes d.stands takes_it fits extends c.knows in
    let others : share told.between w.thread ≡ [] = ap (share told.between) (sym d.number) ∙ told.others in
    let before : Ties Judged w.shape w.thread d.notes h = ties_others Judged w.shape w.thread d.notes v.seen told.between others d.tied in
    let out = came_out t (Some found) in
    let adds : Adds w.shape (extent_of w.shape) (Some (step, intent)) (Some found) u.event out d.notes g.after = subst (λ (m : Move). Adds w.shape (extent_of w.shape) (step_in m) (Some found) u.event out d.notes g.after) asked g.adds in
    let holds : WordsHold Judged w.shape (extent_of w.shape) (Some (step, intent)) (Some found) w.thread u.event out h d.notes =
    notes_of t.doing (WordsHold Judged w.shape (extent_of w.shape) (Some (step, intent)) (Some found) w.thread u.event out h) d.notes (named t.doing d.stands.up_to) c.holds in
    let tied : Ties Judged w.shape w.thread g.after (with_event_of w.thread u.event h) = added_notes_are_tied Judged w.shape (extent_of w.shape) (Some (step, intent)) (Some found) w.thread u.event out h d.notes g.after adds holds before in
    let seen : v'.seen ≡ with_event_of w.thread u.event h =
    ap (λ (x : View). x.seen) told.after ∙ ((λ j. event_list (d.number j) (c.event j) ++ h) ∙ sym (event_is w.thread u.event h)) in record {
      takes_it = takes_it;
      fits = fits;
      under = refl;
      drives = record {
        pass = ap (λ (x : View). x.role) told.after ∙ d.pass;
        number = ap (λ (x : View). x.number) told.after ∙ d.number;
        legal = told.legal;
        in_shape = told.in_shape;
        notes = g.after;
        chain = chain_after t (Some found) d.chain;
        stands = g.stands;
        tied = subst (Ties Judged w.shape w.thread g.after) (sym seen) tied;
        count = c.count;
        owns = c.owns;
        classed = c.classed;
        coming = c.coming;
        no_claim = c.no_claim;
        asks = c.asks;
        under_way = c.under_way;
      };
      event = sym c.event;
    }
  where
    named : (e : Doing) → StepperUpTo (known v w) t.index t.vars t.cleared d.chain t.asked d.notes e → (c : CascadeState) → e ≡ doings.Dying c → IsNoted c.slot c.at d.notes
    named e x c is = of (subst (StepperUpTo (known v w) t.index t.vars t.cleared d.chain t.asked d.notes) is x)
      where
        of : IsDying (known v w) t.index c d.chain t.asked t.vars t.cleared d.notes → IsNoted c.slot c.at d.notes
        of y = name_noted w.shape y.root y.base c d.chain (step_in t.asked) d.notes y.stands

move_inj : (a b : Step) (i j : Intent) → moves.Step a i ≡ moves.Step b j → (a ≡ b) × (i ≡ j)
move_inj a b i j e = (cc, cc)

pub asked_is : (m : Move) (a b : Step) (i j : Intent) → m ≡ moves.Step a i → m ≡ moves.Step b j → (a ≡ b) × (i ≡ j)
asked_is m a b i j e f = move_inj a b i j (sym e ∙ f)

-- ---- what holds of the step that a plan waits for holds of the one that was asked for

pub as_asked : (m : Move) (C : Step × Intent → Type 0) (step waits : Step) (intent its : Intent) → m ≡ moves.Step waits its → m ≡ moves.Step step intent → C (waits, its) → C (step, intent)
as_asked m C step waits intent its ask asked x = let e = asked_is m waits step its intent ask asked in subst C (λ j. (e.0 j, e.1 j)) x

-- an attempt on the word at a place
pub attempt_asked : (m : Move) (place : ℕ) (its : Intent) (C : AttemptAt → Step × Intent → Type 0) (step : Step) (intent : Intent) → m ≡ moves.Step step intent → C attempt.Loading (steps.Load place, its)
    → ((seen new : ℕ) → C (attempt.Exchanging seen new) (steps.Exchange place seen new, its)) → (a : AttemptAt) → AttemptAsks m place its a → C a (step, intent)
attempt_asked m place its C step intent asked loads exchanges attempt.Start ask = absurd ask
attempt_asked m place its C step intent asked loads exchanges attempt.Loading ask = as_asked m (C attempt.Loading) step (steps.Load place) intent its ask asked loads
attempt_asked m place its C step intent asked loads exchanges (attempt.Exchanging seen new) ask =
    as_asked m (C (attempt.Exchanging seen new)) step (steps.Exchange place seen new) intent its ask asked (exchanges seen new)
attempt_asked m place its C step intent asked loads exchanges attempt.Ended ask = absurd ask

-- a plan of one step
pub once_asked : (m : Move) (only : Step) (its : Intent) (C : Once → Step × Intent → Type 0) (step : Step) (intent : Intent) → m ≡ moves.Step step intent → C once.Asked (only, its) → (a : Once) → OnceAsks m only its a → C a (step, intent)
once_asked m only its C step intent asked makes once.Start ask = absurd ask
once_asked m only its C step intent asked makes once.Asked ask = as_asked m (C once.Asked) step only intent its ask asked makes
once_asked m only its C step intent asked makes once.Ended ask = absurd ask

-- ---- parts of what a step leaves

pub told_by : (shape : HeapShape) (intent : Intent) (st : Step) (v : View) (found : ℕ) (w : View) (a : Option Act) → act_of shape v st intent found ≡ a → Told shape intent st v found w → Called shape (acts_of a) 1 v w
told_by shape intent st v found w a is t = subst (λ b. Called shape (acts_of b) 1 v w) is (told_called shape intent st v found w t)

-- an operation has just begun
pub fresh_under : (shape : HeapShape) (v : View) (d : Doing) → IsFresh d → v.working ≡ idle → OwesNothing v → UnderWay shape v [] d
fresh_under shape v doings.Ready fresh works none = record { working = works; none = none }
fresh_under shape v (doings.Making to name plan) fresh works none = at plan.at fresh
  where
    at : (a : Search) → IsFreshSearch a → (v.working ≡ search_works a) × OwesNothing v × Searched shape v name a
    at search.Start f = absurd f
    at (search.Looking k) f = (works, none, subst (λ n. searched (λ j. number (extent_of shape) (SlotBits j)) shape.slots (made_in v.number v.seen) n v.trail ≡ true) (sym f) refl)
    at (search.Taking s seen) f = absurd f
    at (search.Counting s) f = absurd f
    at (search.Naming s) f = absurd f
    at search.Ended f = absurd f
fresh_under shape v (doings.Gaining gain to from plan) fresh works none = (of_hand from.origin fresh.0, subst (MayGoUp shape (list_of gain from) from.place) (sym fresh.1) tt)
  where
    of_hand : (origin : Origin) → IsOfHand origin → GainsFrom v origin from
    of_hand (origins.Hand hand) hand_is = record { working = works; none = none }
    of_hand (origins.Cell cell) hand_is = absurd hand_is
fresh_under shape v (doings.Naming to held plan) fresh works none = absurd fresh
fresh_under shape v (doings.Opening to cell plan) fresh works none = (record { working = works; none = none }, subst MayBegin (sym fresh) tt)
fresh_under shape v (doings.Closing to cell held plan) fresh works none = absurd fresh
fresh_under shape v (doings.Setting from cell plan) fresh works none = (record { working = works; none = none }, subst (MaySwap plan.new) (sym fresh) tt)
fresh_under shape v (doings.Clearing plan) fresh works none = (record { working = works; none = none }, subst (MaySwap plan.new) (sym fresh) tt)
fresh_under shape v (doings.Dropping held plan) fresh works none = (record { working = works; none = none }, subst (MayGoDown held.kind held.place) (sym fresh) tt)
fresh_under shape v (doings.Dying c) fresh works none = absurd fresh
fresh_under shape v (doings.Vacating slot plan) fresh works none = absurd fresh
fresh_under shape v doings.Ended fresh works none = record { working = works; none = none }

-- no reference is to come then
pub fresh_coming : (classes : List ℕ) (v : View) (d : Doing) → IsFresh d → ComesOfClass classes v d
fresh_coming classes v doings.Ready fresh = tt
fresh_coming classes v (doings.Making to name plan) fresh = tt
fresh_coming classes v (doings.Gaining gain to from plan) fresh = tt
fresh_coming classes v (doings.Naming to held plan) fresh = absurd fresh
fresh_coming classes v (doings.Opening to cell plan) fresh = tt
fresh_coming classes v (doings.Closing to cell held plan) fresh = absurd fresh
fresh_coming classes v (doings.Setting from cell plan) fresh = tt
fresh_coming classes v (doings.Clearing plan) fresh = tt
fresh_coming classes v (doings.Dropping held plan) fresh = tt
fresh_coming classes v (doings.Dying c) fresh = absurd fresh
fresh_coming classes v (doings.Vacating slot plan) fresh = absurd fresh
fresh_coming classes v doings.Ended fresh = tt

-- a step of no event leaves what the pass has
pub owes_still : (shape : HeapShape) (n : ℕ) (v w : View) → Called shape [] n v w → OwesNothing v → OwesNothing w
owes_still shape n v w c none i = (moved_none shape n v w c).duties i ∙ none i

pub claims_still : (shape : HeapShape) (n : ℕ) (v w : View) → Called shape [] n v w → ((e : ℕ) → HasClaim v e → ⊥) → (e : ℕ) → HasClaim w e → ⊥
claims_still shape n v w c none e has = none e (sym ((moved_none shape n v w c).claims e) ∙ has)

pub owns_still : (shape : HeapShape) (k : ℕ) (v w : View) (n : ℕ) (L M : (Held → ℕ) → ℕ) → Called shape [] k v w → Owns v n L → ((f : Held → ℕ) → M f ≡ L f) → Owns w n M
owns_still shape k v w n L M c o same = owns_stay v w n L M o same (λ h. leads_still shape k v w h c) (moved_none shape k v w c).hands

pub classed_still : (shape : HeapShape) (n : ℕ) (classes : List ℕ) (v w : View) (vars : List (Option Held)) → Called shape [] n v w → AreOfClasses classes v vars → AreOfClasses classes w vars
classed_still shape n classes v w vars c are x held e = to_still shape n v w held (class_of classes x) c (are x held e)

-- so does an event that changes no duty, and one that changes no claim
pub owes_on : (shape : HeapShape) (n : ℕ) (a : Act) (v w : View) → Called shape (a ∷ []) n v w → ((i : ℕ) (h : History) → owed_next v.number a i (heap_after h) ≡ duty_of v.number i (heap_after h)) → OwesNothing v → OwesNothing w
owes_on shape n a v w c leaves none i = let m = moved shape a n v w c in m.duties i ∙ (leaves i m.met ∙ (m.had.duties i ∙ none i))

pub claims_on : (shape : HeapShape) (n : ℕ) (a : Act) (v w : View) → Called shape (a ∷ []) n v w → ((m : Moves (Some a) v w) (e : ℕ) → claimed_next v.number a e (heap_after m.met) ≡ is_claimed_by v.number e (heap_after m.met)) → ((e : ℕ) → HasClaim v e → ⊥) → (e : ℕ) → HasClaim w e → ⊥
claims_on shape n a v w c leaves none e has = let m = moved shape a n v w c in none e (sym (m.had.claims e) ∙ (sym (leaves m e) ∙ (sym (m.claims e) ∙ has)))

-- one that ends no hand of a variable
pub classed_on : (shape : HeapShape) (n : ℕ) (a : Act) (classes : List ℕ) (v w : View) (vars : List (Option Held)) → Called shape (a ∷ []) n v w → ((x : ℕ) (held : Held) → value vars x ≡ Some held → ends_hand held.hand a ≡ false) → AreOfClasses classes v vars → AreOfClasses classes w vars
classed_on shape n a classes v w vars c ends are x held e = to_on shape a n v w held (class_of classes x) c (ends x held e) (are x held e)

-- an event that brings no hand and ends none
pub owns_on : (shape : HeapShape) (k : ℕ) (a : Act) (v w : View) (n : ℕ) (L M : (Held → ℕ) → ℕ) → Called shape (a ∷ []) k v w → ((h : ℕ) → ends_hand h a ≡ false) → brings_hand a ≡ None → Owns v n L → ((f : Held → ℕ) → M f ≡ L f) → Owns w n M
owns_on shape k a v w n L M c ends brings o same =
    let m = moved shape a k v w c in
    owns_stay v w n L M o same (λ h. leads_on shape a k v w h c (ends h.hand))
    (λ h. m.hands h ∙ (λ j. cond (ends h j) None (cond (is_number (brings j) h) (brought (heap_after m.met) v.number a) (spot (Hand v.number h) (heap_of v)))))

-- ---- what a word shows of the heap

-- the step is no load of a name, nor one of a field in a deinit
abbrev pub ReadsNoName : Extent → Step → Intent → Type 0
ReadsNoName l (steps.Load place) (intents.Deinit slot) = ((s : ℕ) → place ≡ number l (Isa s) → ⊥) × ((s f : ℕ) → f < 8 → place ≡ number l (Field s f) → ⊥)
ReadsNoName l (steps.Load place) intents.Look = ⊥
ReadsNoName l _ _ = Unit {0}

-- the event takes the last of no list
abbrev pub TakesNoLast : Option Act → Type 0
TakesNoLast (Some (acts.Finish s true)) = ⊥
TakesNoLast (Some (acts.Drop k true)) = ⊥
TakesNoLast _ = Unit {0}

no_name : (l : Extent) (slot : ℕ) (intent : Intent) → IsNamedFor slot intent → ReadsNoName l (steps.Load (number l (Isa slot))) intent → ⊥
no_name l slot intent deinit reads = reads.0 slot refl
no_name l slot intent line reads = reads

no_last : (slot : ℕ) (act : Act) (intent : Intent) → TakesLast slot act intent → TakesNoLast (Some act) → ⊥
no_last slot act intent finish none = none
no_last slot act intent drop none = none

-- the words show at most what a cell refers to that is copied
pub cell_shown : (shape : HeapShape) → IsSized shape → (l : Extent) (asked : Step) (intent : Intent) (last p : ℕ) (event : Option Act) (out : Option CameOut) (h : History) → ReadsNoName l asked intent → TakesNoLast event
    → ((x : CameOut) → out ≡ Some x → event ≡ Some (acts.Copy (origins.Cell x.cell) x.hand) → Holds Judged shape (heap_after h) (Refers x.cell x.kind x.place)) → AllHold Judged shape l (Some (asked, intent)) (Some last) p event out h
cell_shown shape sized l asked intent last p event out h no_name_read no_end refers now = record {
  names = λ slot w i a named is. absurd (no_name l slot i named (subst (λ (x : Step × Intent). ReadsNoName l x.0 x.1) (Some-inj a) no_name_read));
  refers = refers;
  nil_fields = λ slot field of a is name lt. absurd (read slot field a (let few = few_fields shape of.class sized in omega (arith, few, lt)));
  fields = λ slot field w of a is some name lt. absurd (read slot field a (let few = few_fields shape of.class sized in omega (arith, few, lt)));
  entries = λ slot w new act i entry e a takes is counts. absurd (no_last slot act i takes (subst TakesNoLast e no_end));
}
  where
    read : (slot field : ℕ) → Path (Option (Step × Intent)) (Some (asked, intent)) (Some (steps.Load (number l (Field slot field)), intents.Deinit slot)) → field < 8 → ⊥
    read slot field a lt = (subst (λ (x : Step × Intent). ReadsNoName l x.0 x.1) (Some-inj a) no_name_read).1 slot field lt refl

pub nothing_shown : (shape : HeapShape) → IsSized shape → (l : Extent) (asked : Step) (intent : Intent) (last p : ℕ) (event : Option Act) (h : History) → ReadsNoName l asked intent → TakesNoLast event
    → AllHold Judged shape l (Some (asked, intent)) (Some last) p event None h
nothing_shown shape sized l asked intent last p event h no_name_read no_end = cell_shown shape sized l asked intent last p event None h no_name_read no_end (λ x e. absurd (None≢Some x e))

pub count_no_name : (l : Extent) (s i : ℕ) → ReadsNoName l (steps.Load (number l (Count s))) (intents.Deinit i)
count_no_name l s i = (λ x e. omega arith, λ x g lt e. omega (arith, lt, e))

pub next_no_name : (l : Extent) (s i : ℕ) → ReadsNoName l (steps.Load (number l (Next s))) (intents.Deinit i)
next_no_name l s i = (λ x e. omega arith, λ x g lt e. omega (arith, lt, e))

-- ---- a step of no event after which the stepper goes on to this

-- the word that is read shows this
pub stays_shown : (w : Work) (t : Thread) (v : View) (step : Step) (intent : Intent) (found : ℕ) (v' : View) (d : Doing) (u : Thread) (told : Told w.shape intent step v found v') → Facts w t v d → takes_at w.shape (Some found) d → came_out_at t (Some found) d ≡ None → act_of w.shape v step intent found ≡ None
    → u.event ≡ None → AllHold Judged w.shape (extent_of w.shape) (Some (step, intent)) (Some found) w.thread None None (told.between ++ v.seen) → u.hands ≡ t.hands → length u.vars ≡ length t.vars → ((f : Held → ℕ) → references u.vars u.hands u.doing f ≡ references t.vars t.hands d f)
    → AreOfClasses w.classes v' u.vars → ComesOfClass w.classes v' u.doing → Asks w.shape [] u u.doing → UnderWay w.shape v' [] u.doing → Comes w t v step intent found v' (told.between ++ v.seen) d u
stays_shown w t v step intent found v' d u told f takes out act event holds hands count same classed coming asks under =
    let c = told_by w.shape intent step v found v' None act told in record {
      takes_it = takes;
      event = act ∙ sym event;
      holds = notes_at d (WordsHold Judged w.shape (extent_of w.shape) (Some (step, intent)) (Some found) w.thread u.event (came_out_at t (Some found) d) (told.between ++ v.seen))
          (subst (λ (x : Option Act × Option CameOut). AllHold Judged w.shape (extent_of w.shape) (Some (step, intent)) (Some found) w.thread x.0 x.1 (told.between ++ v.seen)) (λ j. (sym event j, sym out j)) holds);
      knows = subst (KnowsOf v') (sym out) (knows_none v');
      count = count ∙ f.count;
      owns = subst (λ n. Owns v' n (references u.vars u.hands u.doing)) (sym hands) (owns_still w.shape 1 v v' t.hands (references t.vars t.hands d) (references u.vars u.hands u.doing) c f.owns same);
      classed = classed;
      coming = coming;
      no_claim = claims_still w.shape 1 v v' c f.no_claim;
      asks = asks;
      under_way = under;
    }

-- it shows no name
pub stays : (w : Work) (t : Thread) (v : View) (step : Step) (intent : Intent) (found : ℕ) (v' : View) (d : Doing) (u : Thread) (told : Told w.shape intent step v found v') → Facts w t v d → takes_at w.shape (Some found) d → came_out_at t (Some found) d ≡ None → act_of w.shape v step intent found ≡ None
    → u.event ≡ None → ReadsNoName (extent_of w.shape) step intent → u.hands ≡ t.hands → length u.vars ≡ length t.vars → ((f : Held → ℕ) → references u.vars u.hands u.doing f ≡ references t.vars t.hands d f) → AreOfClasses w.classes v' u.vars → ComesOfClass w.classes v' u.doing
    → Asks w.shape [] u u.doing → UnderWay w.shape v' [] u.doing → Comes w t v step intent found v' (told.between ++ v.seen) d u
stays w t v step intent found v' d u told f takes out act event no_name_read =
    stays_shown w t v step intent found v' d u told f takes out act event (nothing_shown w.shape f.sized (extent_of w.shape) step intent found w.thread None (told.between ++ v.seen) no_name_read tt)
