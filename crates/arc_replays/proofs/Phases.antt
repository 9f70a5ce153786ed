-- In a replay the phases follow each other: at the beginning of each the threads have done the ones before, no less and no more.
use Rattle.std.proofs.Common.{◌≡◌, ◌≢◌, ◌⊎◌, inl, inr, ⊎_elim, ℕ, zero, suc, ◌+◌, ◌-◌, ◌≤◌, ◌<◌, Bool, true, false, not, cond, List, [], ◌∷◌, ◌++◌, length, map, set, Option, Some, None, refl, sym, ap, ◌∙◌, subst, arith, ne_eqb}
use Rattle.std.specs.Prelude.{slice_get, filter}
use Rattle.std.specs.List.{AllByRecursion}
use Rattle.std.proofs.lemmas.Bool.{cases_lt, eqb-true}
use Rattle.std.proofs.lemmas.Option.{slice_get_within}
use Rattle.arc_model.specs.declared.event.Act.{Act}
use Rattle.arc_model.specs.declared.event.Event.{Event}
use Rattle.arc_model.specs.History.{History, share, is_of}
use Rattle.arc_model.proofs.Others.{not-among}
use Rattle.arc_quiet.specs.Whole.{StandsLast}
use Rattle.arc_model.proofs.Basics.{None≢Some, Some-inj}
use Rattle.arc_rule.specs.Steps.{found_by}
use Rattle.arc_rule.specs.declared.step.Step.{Step}
use Rattle.arc_rule.specs.declared.step.Intent.{Intent}
use Rattle.arc_spelling.specs.Spelling.{Note}
use Rattle.arc_script.specs.declared.script.ClassDecl.{ClassDecl}
use Rattle.arc_script.specs.declared.script.VarDecl.{VarDecl}
use Rattle.arc_script.specs.declared.script.ThreadDecl.{ThreadDecl}
use Rattle.arc_script.specs.declared.script.Script.{Script}
use Rattle.arc_script.specs.declared.script.Op.{Op}
use Rattle.arc_script.specs.OneList.{in_one_list}
use Rattle.arc_script.specs.Valid.{IsScript, IsThread}
use Rattle.arc_cells.specs.Chains.{Frame}
use Rattle.arc_programs.specs.Programs.{Hands, OpsDone, IsProgram}
use Rattle.arc_programs.specs.ProgramsTied.{hands_in, operations, Spells}
use Rattle.arc_programs.specs.ProgramsTied.Spells.{thread as spells_thread, end as spells_end}
use Rattle.arc_programs_laws.specs.Phases.{HasDonePhases}
use Rattle.arc_programs_laws.specs.Phases.HasDonePhases.{some as done_some, all as done_all}
use Rattle.arc_served.specs.Served.{IsServed}
use Rattle.arc_served.specs.Programs.{declared_of, phases_in, phases_of, program_of, vars_of, count_of_vars, ops_in_first}
use Rattle.arc_ops.specs.declared.stepper.Doing.{Doing}
use Rattle.arc_ops.specs.declared.stepper.Doing.TheVariants.{Ready, Making, Gaining, Naming, Opening, Closing, Setting, Clearing, Dropping, Dying, Vacating, Ended}
use Rattle.arc_ops.specs.declared.stepper.Move.{Move}
use Rattle.arc_ops.specs.declared.stepper.Move.TheVariants as moves
use Rattle.arc_ops.specs.Thread.{Thread, stepper_of}
use Rattle.arc_ops.specs.Turns.{turned}
use Rattle.arc_spelled.specs.StepperStands.{Asks, variables}
use Rattle.arc_spelled.specs.Spelled.{work_of, with_event_of}
use Rattle.arc_spelled.proofs.SteppersSpell.{ready_steppers_have_done}
use Rattle.arc_replays.specs.Histories.{history_of}
use Rattle.arc_replays.specs.Stages.{Stage, Reached, IsSome, IsNone, awaits_phase, first_stage, new_threads, begun_thread, begun_threads, has_step, is_step, is_phase_end, stepped, chains_at}
use Rattle.arc_replays.specs.Stages.Reached.{new, begins, makes, passes, inside as goes_inside, ends_it, outside as goes_outside, by_number, last, last_step}
use Rattle.arc_replays.proofs.GoesOn.{get_set, there_is, replays_are_one_history, ended_threads_spell}
use Rattle.arc_replays.proofs.Holds.{Holds, history_stamped, new_are, reached_holds}
use Rattle.arc_replays.proofs.Turns.{IsBehind, IsAfter, turned_after}

-- Where a thread of so many phases is when so many have begun: in the last of them, before the next one, or at its end.
abbrev pub IsInPhase : (phases begun : ℕ) → Move → (phase : ℕ) → Type 0
IsInPhase phases begun (moves.Step step intent) phase = phase + 1 ≡ begun
IsInPhase phases begun moves.PhaseEnd phase = (phase ≡ begun) × (phase < phases)
IsInPhase phases begun moves.Ended phase = phases ≤ begun

-- at a point of the history each thread has done its first k phases
pub record IsPoint (script : Script) (k : ℕ) (h : History) : Type 0 where
  pub later : History
  pub earlier : History
  pub split : h ≡ later ++ earlier
  pub done : (p : ℕ) (decl : ThreadDecl) → 1 ≤ p → slice_get script.threads (p - 1) ≡ Some decl → HasDonePhases script k p decl earlier
  pub none_of_main : share earlier 0 ≡ []

-- Thread 0 has begun: behind the others, which had done all their phases.
pub record IsLast (script : Script) (s : Stage) : Type 0 where
  pub points : (k : ℕ) → s.begun ≤ k → IsPoint script k (history_of s.events)
  pub no_step : IsNone has_step s.threads
  pub no_phase : IsNone awaits_phase s.threads

pub record IsPhased (script : Script) (s : Stage) : Type 0 where
  pub each : (p : ℕ) (t : Thread) → 1 ≤ p → slice_get s.threads p ≡ Some t → IsInPhase (length (phases_of script p)) s.begun t.asked t.phase
  pub points : (k : ℕ) → k < s.begun → IsPoint script k (history_of s.events)
  -- thread 0 does nothing before all others have ended
  pub waits : (t : Thread) → slice_get s.threads 0 ≡ Some t → awaits_phase t ≡ true → share (history_of s.events) 0 ≡ []
  pub begun_last : (t : Thread) → slice_get s.threads 0 ≡ Some t → awaits_phase t ≡ false → IsLast script s
  pub last : StandsLast 0 (history_of s.events)

-- ---- lists

-- a thread that may have begun its phase
begun_there : (ts : List Thread) (i : ℕ) (u : Thread) → 1 ≤ i → slice_get (begun_threads ts) i ≡ Some u → (t : Thread) × (slice_get ts i ≡ Some t) × (begun_thread t ≡ u)
begun_there [] i u other at = absurd (None≢Some u at)
begun_there (first ∷ others) zero u other at = absurd (omega arith)
begun_there (first ∷ others) (suc i) u other at = in_map others i at
  where
    in_map : (ts : List Thread) (i : ℕ) → slice_get (map begun_thread ts) i ≡ Some u → (t : Thread) × (slice_get ts i ≡ Some t) × (begun_thread t ≡ u)
    in_map [] i at = absurd (None≢Some u at)
    in_map (t ∷ ts) zero at = (t, refl, Some-inj at)
    in_map (t ∷ ts) (suc i) at = in_map ts i at

-- ---- a turn

ready_at_end : (d : Doing) → Asks d moves.PhaseEnd → d ≡ Ready
ready_at_end Ready a = refl
ready_at_end (Making to name plan) a = absurd a
ready_at_end (Gaining gain to from plan) a = absurd a
ready_at_end (Naming to held plan) a = absurd a
ready_at_end (Opening to cell plan) a = absurd a
ready_at_end (Closing to cell held plan) a = absurd a
ready_at_end (Setting from cell plan) a = absurd a
ready_at_end (Clearing plan) a = absurd a
ready_at_end (Dropping held plan) a = absurd a
ready_at_end (Dying c) a = absurd a
ready_at_end (Vacating slot plan) a = absurd a
ready_at_end Ended a = absurd (cc)

-- behind a turn in the phase that was begun last
in_turn : (phases n begun : ℕ) (u : Thread) → Asks u.doing u.asked → IsBehind phases n u.asked u.doing u.phase → n + 1 ≡ begun → IsInPhase phases begun u.asked u.phase
in_turn phases n begun u asks behind next = go u.asked asks behind
  where
    go : (m : Move) → Asks u.doing m → IsBehind phases n m u.doing u.phase → IsInPhase phases begun m u.phase
    go (moves.Step step intent) a b = omega arith
    go moves.PhaseEnd a b = let x = b (ready_at_end u.doing a) in (omega (arith, x.0, next), x.1)
    go moves.Ended a b = omega arith

-- the thread is one of the script, and stands for its notes
stands_at : (script : Script) (came : Hands) (chains : ℕ → List Frame) (s : Stage) (h : Holds script came chains s) (p : ℕ) (t : Thread) → slice_get s.threads p ≡ Some t → (t.phases ≡ phases_of script p) × Asks t.doing t.asked
stands_at script came chains s h p t there = let d = (h.replaying.drives p t there).2 in (d.stands.works.phases_is, d.stands.asks)

turn_in : (script : Script) (p begun : ℕ) (t u : Thread) → t.phases ≡ phases_of script p → IsAfter t.phases t.phase u → Asks u.doing u.asked → t.phase + 1 ≡ begun → IsInPhase (length (phases_of script p)) begun u.asked u.phase
turn_in script p begun t u phases after asks next = in_turn (length (phases_of script p)) t.phase begun u asks (subst (λ (ps : List (List Op)). IsBehind (length ps) t.phase u.asked u.doing u.phase) phases after.1) next

-- ---- points stay

point_on : (script : Script) (k p : ℕ) (event : Option Act) (h : History) → IsPoint script k h → IsPoint script k (with_event_of p event h)
point_on script k p None h x = x
point_on script k p (Some a) h x = record { later = record { thread = p; act = a } ∷ x.later; earlier = x.earlier; split = ap (λ (g : History). record { thread = p; act = a } ∷ g) x.split; done = x.done; none_of_main = x.none_of_main }

-- ---- thread 0's events

-- an event of another thread leaves it without one
none_on : (p : ℕ) (event : Option Act) (h : History) → 1 ≤ p → share h 0 ≡ [] → share (with_event_of p event h) 0 ≡ []
none_on p None h other none = none
none_on p (Some a) h other none = ap (λ b. cond b (record { thread = p; act = a } ∷ share h 0) (share h 0)) (ne_eqb p 0 (λ e. omega arith)) ∙ none

-- so the others' events are the whole history
alone_last : (h : History) → share h 0 ≡ [] → filter (λ (e : Event). not (is_of 0 e)) h ≡ h
alone_last [] none = refl
alone_last (e ∷ h) none = let apart = not-among 0 e h none in go (is_of 0 e) refl (alone_last h apart.1) apart.0
  where
    go : (b : Bool) → is_of 0 e ≡ b → filter (λ (x : Event). not (is_of 0 x)) h ≡ h → (e.thread ≡ 0 → ⊥) → cond (not b) (e ∷ filter (λ (x : Event). not (is_of 0 x)) h) (filter (λ (x : Event). not (is_of 0 x)) h) ≡ e ∷ h
    go false is rest ne = ap (λ (g : History). e ∷ g) rest
    go true is rest ne = absurd (ne (eqb-true e.thread 0 is))

none_last : (h : History) → share h 0 ≡ [] → StandsLast 0 h
none_last h none = sym (ap (λ (g : History). g ++ filter (λ (e : Event). not (is_of 0 e)) h) none ∙ alone_last h none)

-- its own stands last
own_last : (event : Option Act) (h : History) → StandsLast 0 h → StandsLast 0 (with_event_of 0 event h)
own_last None h stands = stands
own_last (Some a) h stands = ap (λ (g : History). record { thread = 0; act = a } ∷ g) stands

-- ---- a point where no thread has a step

declared_is : (script : Script) (p : ℕ) (decl : ThreadDecl) → 1 ≤ p → slice_get script.threads (p - 1) ≡ Some decl → declared_of script p ≡ Some decl
declared_is script p decl other there = ap (λ b. cond b None (slice_get script.threads (p - 1))) (ne_eqb p 0 (λ e. omega arith)) ∙ there

program_in : (script : Script) (any : Hands) (p : ℕ) (decl : ThreadDecl) (notes : List Note) → 1 ≤ p → slice_get script.threads (p - 1) ≡ Some decl → Spells script any p notes → IsProgram script.shape p any (operations decl) (length decl.vars) notes
program_in script any p decl notes other there (spells_thread {decl = d} positive at x) = subst (λ (e : ThreadDecl). IsProgram script.shape p any (operations e) (length e.vars) notes) (Some-inj (sym at ∙ there)) x
program_in script any p decl notes other there (spells_end x n) = absurd (omega arith)

module _ (script : Script) (came : Hands) (valid : IsScript script) (served : IsServed script) (chains : ℕ → List Frame) (s : Stage) (h : Holds script came chains s) (b : IsPhased script s) where
  abbrev log : History
  log = history_of s.events

  -- what a thread that has no step has done of its first k phases
  done_at : (k p : ℕ) (decl : ThreadDecl) → 1 ≤ p → slice_get script.threads (p - 1) ≡ Some decl → ((t : Thread) → slice_get s.threads p ≡ Some t → (t.asked ≡ moves.PhaseEnd × (t.phase ≡ k) × (t.phase < length (phases_of script p))) ⊎ (t.asked ≡ moves.Ended × (length (phases_of script p) ≤ k)))
      → HasDonePhases script k p decl log
  done_at k p decl other there state =
      let lt : p - 1 < length script.threads = slice_get_within script.threads (p - 1) decl there in
      let long = h.as_many in
      let t = there_is s.threads p (omega arith) in
      by t.0 t.1 (state t.0 t.1)
    where
      declared : declared_of script p ≡ Some decl
      declared = declared_is script p decl other there

      phases_are : phases_of script p ≡ decl.phases
      phases_are = ap phases_in declared

      by : (t : Thread) → slice_get s.threads p ≡ Some t → (t.asked ≡ moves.PhaseEnd × (t.phase ≡ k) × (t.phase < length (phases_of script p))) ⊎ (t.asked ≡ moves.Ended × (length (phases_of script p) ≤ k)) → HasDonePhases script k p decl log
      by t at (inl (asked, phase, below)) =
          let n = (replays_are_one_history script.shape (λ q. work_of script q came) chains s.threads s.words log h.replaying).notes p t at in
          let ops : OpsDone script.shape p (hands_in p log) (program_of script p) (vars_of script p) (ops_in_first t.phase (phases_of script p)) (variables t.vars) n.0 = ready_steppers_have_done script p (hands_in p log) t (chains p) n.0 n.1 asked in
          done_some
          (subst (λ (x : ℕ × List (List Op)). x.0 < length x.1) (λ j. (phase j, phases_are j)) below)
          n.2
          (subst (λ (x : Option ThreadDecl × ℕ). OpsDone script.shape p (hands_in p log) (in_one_list 0 (phases_in x.0)) (count_of_vars x.0) (ops_in_first x.1 (phases_in x.0)) (variables t.vars) n.0) (λ j. (declared j, phase j)) ops)
      by t at (inr (asked, few)) =
          let le : p ≤ length script.threads = let lt = slice_get_within s.threads p t at in let long = h.as_many in omega arith in
          let x = ended_threads_spell script came chains s.threads s.words log p t valid served le h.replaying at asked in
          done_all (subst (λ (ps : List (List Op)). length ps ≤ k) phases_are few) x.tied (program_in script (hands_in p log) p decl x.notes other there x.spelled.spelled)

  -- the threads have done the phases that have begun
  point_here : share log 0 ≡ [] → IsNone has_step s.threads → IsPoint script s.begun log
  point_here main none = record { later = []; earlier = log; split = refl; done = λ p decl other there. done_at s.begun p decl other there (state p other); none_of_main = main }
    where
      state : (p : ℕ) → 1 ≤ p → (t : Thread) → slice_get s.threads p ≡ Some t → (t.asked ≡ moves.PhaseEnd × (t.phase ≡ s.begun) × (t.phase < length (phases_of script p))) ⊎ (t.asked ≡ moves.Ended × (length (phases_of script p) ≤ s.begun))
      state p other t at = go t.asked refl (b.each p t other at) (none p t other at)
        where
          go : (m : Move) → t.asked ≡ m → IsInPhase (length (phases_of script p)) s.begun m t.phase → is_step t.asked ≡ false → (t.asked ≡ moves.PhaseEnd × (t.phase ≡ s.begun) × (t.phase < length (phases_of script p))) ⊎ (t.asked ≡ moves.Ended × (length (phases_of script p) ≤ s.begun))
          go (moves.Step step intent) is x still = absurd (let e = ap is_step is in cc)
          go moves.PhaseEnd is x still = inl (is, x.0, x.1)
          go moves.Ended is x still = inr (is, x)

  -- where all have ended they have done all phases
  point_of_all : (k : ℕ) → s.begun ≤ k → share log 0 ≡ [] → IsNone has_step s.threads → IsNone awaits_phase s.threads → IsPoint script k log
  point_of_all k le main none no_phase = record {
    later = [];
    earlier = log;
    split = refl;
    done = λ p decl other there. done_at k p decl other there (λ t at. ended p other t at t.asked refl (b.each p t other at) (none p t other at) (no_phase p t other at));
    none_of_main = main;
  }
    where
      ended : (p : ℕ) → 1 ≤ p → (t : Thread) → slice_get s.threads p ≡ Some t → (m : Move) → t.asked ≡ m → IsInPhase (length (phases_of script p)) s.begun m t.phase → is_step t.asked ≡ false → is_phase_end t.asked ≡ false →
          (t.asked ≡ moves.PhaseEnd × (t.phase ≡ k) × (t.phase < length (phases_of script p))) ⊎ (t.asked ≡ moves.Ended × (length (phases_of script p) ≤ k))
      ended p other t at (moves.Step step intent) is x still away = absurd (let e = ap is_step is in cc)
      ended p other t at moves.PhaseEnd is x still away = absurd (let e = ap is_phase_end is in cc)
      ended p other t at moves.Ended is x still away = inr (is, omega arith)

  -- ---- the next stage

  each_on : (p : ℕ) (t : Thread) (step : Step) (intent : Intent) → slice_get s.threads p ≡ Some t → t.asked ≡ moves.Step step intent → (after : ℕ → List Frame) → Holds script came after (stepped p t step s) →
      (q : ℕ) (u : Thread) → 1 ≤ q → slice_get (stepped p t step s).threads q ≡ Some u → IsInPhase (length (phases_of script q)) s.begun u.asked u.phase
  each_on p t step intent there asked after_it on q u other at = ⊎_elim
      (λ (same : (q ≡ p) × (turned t (Some (found_by step s.words)) ≡ u)).
      let its : t.phase + 1 ≡ s.begun = subst (λ (m : Move). IsInPhase (length (phases_of script p)) s.begun m t.phase) asked (b.each p t (let e = same.0 in omega arith) there) in
      let after = turned_after t (Some (found_by step s.words)) (inl (step, intent, asked)) in
      subst (λ (n : ℕ). IsInPhase (length (phases_of script n)) s.begun u.asked u.phase) (sym same.0)
      (turn_in script p s.begun t u (stands_at script came chains s h p t there).0 (subst (IsAfter t.phases t.phase) same.1 after) (stands_at script came after_it (stepped p t step s) on q u at).1 its))
      (λ (apart : (q ≢ p) × (slice_get s.threads q ≡ Some u)). b.each q u other apart.1)
      (get_set s.threads p q (turned t (Some (found_by step s.words))) u at)

  points_on : (p : ℕ) (t : Thread) (step : Step) → (k : ℕ) → IsPoint script k log → IsPoint script k (history_of (stepped p t step s).events)
  points_on p t step k x = subst (IsPoint script k) (sym (history_stamped (s.steps + 1) p (turned t (Some (found_by step s.words))).event s.events)) (point_on script k p (turned t (Some (found_by step s.words))).event log x)

  -- a thread of the script makes a step: thread 0 hasn't begun
  phased_on : (p : ℕ) (t : Thread) (step : Step) (intent : Intent) → 1 ≤ p → slice_get s.threads p ≡ Some t → t.asked ≡ moves.Step step intent → (after : ℕ → List Frame) → Holds script came after (stepped p t step s) → IsPhased script (stepped p t step s)
  phased_on p t step intent positive there asked after_it on = record {
    each = each_on p t step intent there asked after_it on;
    points = λ k lt. points_on p t step k (b.points k lt);
    waits = λ u at awaits. after_none u at;
    begun_last = λ u at away. absurd (never u (zero_there u at) away);
    last = none_last (history_of (stepped p t step s).events) (with_first (there_is s.threads 0 (let lt = slice_get_within s.threads p t there in omega arith)));
  }
    where
      never : (u : Thread) → slice_get s.threads 0 ≡ Some u → awaits_phase u ≡ false → ⊥
      never u at away = let x = (b.begun_last u at away).no_step p t positive there in let e = ap is_step asked in absurd (cc)

      zero_there : (u : Thread) → slice_get (stepped p t step s).threads 0 ≡ Some u → slice_get s.threads 0 ≡ Some u
      zero_there u at = ⊎_elim
          (λ (same : (0 ≡ p) × (turned t (Some (found_by step s.words)) ≡ u)). absurd (let e = same.0 in omega arith))
          (λ (apart : (0 ≢ p) × (slice_get s.threads 0 ≡ Some u)). apart.1)
          (get_set s.threads p 0 (turned t (Some (found_by step s.words))) u at)

      none_before : (u : Thread) → slice_get s.threads 0 ≡ Some u → share log 0 ≡ []
      none_before u at = go (awaits_phase u) refl
        where
          go : (c : Bool) → awaits_phase u ≡ c → share log 0 ≡ []
          go true is = b.waits u at is
          go false is = absurd (never u at is)

      with_first : (u : Thread) × (slice_get s.threads 0 ≡ Some u) → share (history_of (stepped p t step s).events) 0 ≡ []
      with_first u = ap (λ (l : History). share l 0) (history_stamped (s.steps + 1) p (turned t (Some (found_by step s.words))).event s.events) ∙ none_on p (turned t (Some (found_by step s.words))).event log positive (none_before u.0 u.1)

      after_none : (u : Thread) → slice_get (stepped p t step s).threads 0 ≡ Some u → share (history_of (stepped p t step s).events) 0 ≡ []
      after_none u at = with_first (u, zero_there u at)

  -- thread 0 makes one
  phased_last : (t : Thread) (step : Step) (intent : Intent) → slice_get s.threads 0 ≡ Some t → t.asked ≡ moves.Step step intent → (after : ℕ → List Frame) → Holds script came after (stepped 0 t step s) → IsPhased script (stepped 0 t step s)
  phased_last t step intent there asked after_it on = record {
    each = each_on 0 t step intent there asked after_it on;
    points = λ k lt. points_on 0 t step k (b.points k lt);
    waits = λ u at awaits. absurd (away u at awaits);
    begun_last = λ u at is. record { points = λ k le. points_on 0 t step k (its.points k le); no_step = λ q v other got. its.no_step q v other (others q v other got); no_phase = λ q v other got. its.no_phase q v other (others q v other got) };
    last = subst (StandsLast 0) (sym (history_stamped (s.steps + 1) 0 (turned t (Some (found_by step s.words))).event s.events)) (own_last (turned t (Some (found_by step s.words))).event log b.last);
  }
    where
      its : IsLast script s
      its = b.begun_last t there (ap is_phase_end asked)

      others : (q : ℕ) (v : Thread) → 1 ≤ q → slice_get (stepped 0 t step s).threads q ≡ Some v → slice_get s.threads q ≡ Some v
      others q v other at = ⊎_elim
          (λ (same : (q ≡ 0) × (turned t (Some (found_by step s.words)) ≡ v)). absurd (let e = same.0 in omega arith))
          (λ (apart : (q ≢ 0) × (slice_get s.threads q ≡ Some v)). apart.1)
          (get_set s.threads 0 q (turned t (Some (found_by step s.words))) v at)

      -- it has no phase
      away : (u : Thread) → slice_get (stepped 0 t step s).threads 0 ≡ Some u → awaits_phase u ≡ true → ⊥
      away u at awaits =
          let stands = stands_at script came chains s h 0 t there in
          let after = turned_after t (Some (found_by step s.words)) (inl (step, intent, asked)) in
          let same : turned t (Some (found_by step s.words)) ≡ u = ⊎_elim
          (λ (is : (0 ≡ 0) × (turned t (Some (found_by step s.words)) ≡ u)). is.1)
          (λ (apart : (0 ≢ 0) × (slice_get s.threads 0 ≡ Some u)). absurd (apart.0 refl))
          (get_set s.threads 0 0 (turned t (Some (found_by step s.words))) u at) in
          let after_u : IsBehind (length t.phases) t.phase u.asked u.doing u.phase = (subst (IsAfter t.phases t.phase) same after).1 in
          go u.asked refl awaits (stands_at script came after_it (stepped 0 t step s) on 0 u at).1 (subst (λ (ps : List (List Op)). IsBehind (length ps) t.phase u.asked u.doing u.phase) stands.0 after_u)
        where
          go : (m : Move) → u.asked ≡ m → is_phase_end u.asked ≡ true → Asks u.doing u.asked → IsBehind 0 t.phase u.asked u.doing u.phase → ⊥
          go (moves.Step st it) is e a behind = let f = ap is_phase_end is in absurd (cc)
          go moves.PhaseEnd is e a behind =
              let ready : u.doing ≡ Ready = ready_at_end u.doing (subst (Asks u.doing) is a) in
              let x = (subst (λ (m : Move). IsBehind 0 t.phase m u.doing u.phase) is behind) ready in
              absurd (let lt = x.1 in omega arith)
          go moves.Ended is e a behind = let f = ap is_phase_end is in absurd (cc)

  phased_begun : IsNone has_step s.threads → IsSome awaits_phase s.threads → Holds script came chains (record s { begun = s.begun + 1; threads = begun_threads s.threads }) → IsPhased script (record s { begun = s.begun + 1; threads = begun_threads s.threads })
  phased_begun none some on = record { each = each; points = points; waits = λ t at awaits. main; begun_last = λ t at away. absurd (never t (first_there s.threads t at) away); last = none_last log main }
    where
      first_there : (ts : List Thread) (t : Thread) → slice_get (begun_threads ts) 0 ≡ Some t → slice_get ts 0 ≡ Some t
      first_there [] t at = at
      first_there (x ∷ ts) t at = at

      never : (t : Thread) → slice_get s.threads 0 ≡ Some t → awaits_phase t ≡ false → ⊥
      never t at away = let x = (b.begun_last t at away).no_phase some.place some.thread some.other some.there in let e = some.passes in absurd (cc)

      main : share log 0 ≡ []
      main = with_first (there_is s.threads 0 (let long = h.as_many in omega arith))
        where
          with_first : (t : Thread) × (slice_get s.threads 0 ≡ Some t) → share log 0 ≡ []
          with_first x = go (awaits_phase x.0) refl
            where
              go : (c : Bool) → awaits_phase x.0 ≡ c → share log 0 ≡ []
              go true is = b.waits x.0 x.1 is
              go false is = absurd (never x.0 x.1 is)

      points : (k : ℕ) → k < s.begun + 1 → IsPoint script k log
      points k lt = at (cases_lt k s.begun)
        where
          at : (k < s.begun) ⊎ (s.begun ≤ k) → IsPoint script k log
          at (inl less) = b.points k less
          at (inr ge) = subst (λ (n : ℕ). IsPoint script n log) (omega arith) (point_here main none)

      each : (q : ℕ) (u : Thread) → 1 ≤ q → slice_get (begun_threads s.threads) q ≡ Some u → IsInPhase (length (phases_of script q)) (s.begun + 1) u.asked u.phase
      each q u other at = let x = begun_there s.threads q u other at in by x.0 x.1 x.2
        where
          by : (t : Thread) → slice_get s.threads q ≡ Some t → begun_thread t ≡ u → IsInPhase (length (phases_of script q)) (s.begun + 1) u.asked u.phase
          by t there is = go t.asked refl (b.each q t other there) (none q t other there)
            where
              go : (m : Move) → t.asked ≡ m → IsInPhase (length (phases_of script q)) s.begun m t.phase → is_step t.asked ≡ false → IsInPhase (length (phases_of script q)) (s.begun + 1) u.asked u.phase
              go (moves.Step step intent) asked x still = absurd (let e = ap is_step asked in cc)
              go moves.PhaseEnd asked x still =
                  let turns : turned t None ≡ u = sym (ap (λ (m : Move). cond (is_phase_end m) (turned t None) t) asked) ∙ is in
                  let stands = stands_at script came chains s h q t there in
                  let ready : t.doing ≡ Ready = ready_at_end t.doing (subst (Asks t.doing) asked stands.1) in
                  turn_in script q (s.begun + 1) t u stands.0 (subst (IsAfter t.phases t.phase) turns (turned_after t None (inr ready))) (stands_at script came chains (record s { begun = s.begun + 1; threads = begun_threads s.threads }) on q u at).1 (let e = x.0 in omega arith)
              go moves.Ended asked x still =
                  let same : t ≡ u = sym (ap (λ (m : Move). cond (is_phase_end m) (turned t None) t) asked) ∙ is in
                  let le : length (phases_of script q) ≤ s.begun + 1 = omega arith in
                  subst (λ (v : Thread). IsInPhase (length (phases_of script q)) (s.begun + 1) v.asked v.phase) same (subst (λ (m : Move). IsInPhase (length (phases_of script q)) (s.begun + 1) m t.phase) (sym asked) le)

-- ---- the first stage

some_phase : (classes : List ClassDecl) (globals : List VarDecl) (ts : List ThreadDecl) (i : ℕ) (decl : ThreadDecl) → AllByRecursion (IsThread classes globals) ts → slice_get ts i ≡ Some decl → 1 ≤ length decl.phases
some_phase classes globals [] i decl all at = absurd (None≢Some decl at)
some_phase classes globals (t ∷ ts) zero decl all at = subst (λ (d : ThreadDecl). 1 ≤ length d.phases) (Some-inj at) all.0.some_phase
some_phase classes globals (t ∷ ts) (suc i) decl all at = some_phase classes globals ts i decl all.1 at

phased_first : (script : Script) (came : Hands) (chains : ℕ → List Frame) → IsScript script → IsServed script → Holds script came chains (first_stage script) → IsPhased script (first_stage script)
phased_first script came chains valid served h = record { each = each; points = λ k lt. absurd (omega arith); waits = λ t at awaits. refl; begun_last = λ t at away. absurd (first_waits t at away); last = refl }
  where
    first_waits : (t : Thread) → slice_get (new_threads script (length script.threads + 1) 0) 0 ≡ Some t → awaits_phase t ≡ false → ⊥
    first_waits t at away =
        let is : t ≡ stepper_of script (0 + 0) = new_are script came valid served (length script.threads + 1) 0 0 t at in
        let f : awaits_phase (stepper_of script (0 + 0)) ≡ false = subst (λ (u : Thread). awaits_phase u ≡ false) is away in
        absurd (cc)

    each : (p : ℕ) (t : Thread) → 1 ≤ p → slice_get (new_threads script (length script.threads + 1) 0) p ≡ Some t → IsInPhase (length (phases_of script p)) 0 t.asked t.phase
    each p t other at =
        let long = h.as_many in
        let lt = slice_get_within (new_threads script (length script.threads + 1) 0) p t at in
        let d = there_is script.threads (p - 1) (omega arith) in
        let declared : phases_of script p ≡ d.0.phases = ap phases_in (declared_is script p d.0 other d.1) in
        let some : 1 ≤ length (phases_of script p) = subst (λ (ps : List (List Op)). 1 ≤ length ps) (sym declared) (some_phase script.classes script.globals script.threads (p - 1) d.0 valid.threads d.1) in
        let is : t ≡ stepper_of script (p + 0) = new_are script came valid served (length script.threads + 1) 0 p t at in
        subst (λ (u : Thread). IsInPhase (length (phases_of script p)) 0 u.asked u.phase) (sym is) (refl, omega arith)

-- ---- all stages

pub reached_phased : (script : Script) (came : Hands) → IsScript script → IsServed script → (ending : ℕ) (s : Stage) → Reached script ending s → IsPhased script s
reached_phased script came valid served _ _ new = phased_first script came (λ p. []) valid served (reached_holds script came valid served 0 (first_stage script) new)
reached_phased script came valid served _ _ (begins {s = s} r none waits may) =
    phased_begun script came valid served (chains_at r) s (reached_holds script came valid served 0 s r) (reached_phased script came valid served 0 s r) none waits
    (reached_holds script came valid served 0 (record s { begun = s.begun + 1; threads = begun_threads s.threads }) (begins r none waits may))
reached_phased script came valid served _ _ (makes {s = s} {p = p} {places = places} {t = t} step intent r next other m) =
    let h = reached_holds script came valid served 0 s r in
    let b = reached_phased script came valid served 0 s r in
    phased_on script came valid served (chains_at r) (record s { places = places }) (record { replaying = h.replaying; as_many = h.as_many; events_fit = h.events_fit; few = h.few; no_other = h.no_other })
    (record { each = b.each; points = b.points; waits = b.waits; begun_last = λ u at away. (let x = b.begun_last u at away in record { points = x.points; no_step = x.no_step; no_phase = x.no_phase }); last = b.last }) p t step intent other m.there m.asked
    (chains_at (makes step intent r next other m)) (reached_holds script came valid served 0 (stepped p t step (record s { places = places })) (makes step intent r next other m))
reached_phased script came valid served _ _ (passes {s = s} {places = places} r next other there none busy) =
    let b = reached_phased script came valid served 0 s r in
    record { each = b.each; points = b.points; waits = b.waits; begun_last = λ u at away. (let x = b.begun_last u at away in record { points = x.points; no_step = x.no_step; no_phase = x.no_phase }); last = b.last }
reached_phased script came valid served _ _ (goes_inside {s = s} r next other first there is) = reached_phased script came valid served 0 s r
reached_phased script came valid served _ _ (ends_it {s = s} {p = p} {t = t} step intent r other m is) =
    phased_on script came valid served (chains_at r) s (reached_holds script came valid served p s r) (reached_phased script came valid served p s r) p t step intent other m.there m.asked
    (chains_at (ends_it step intent r other m is)) (reached_holds script came valid served p (stepped p t step s) (ends_it step intent r other m is))
reached_phased script came valid served _ _ (goes_outside {s = s} {p = p} r other there is) = reached_phased script came valid served p s r
reached_phased script came valid served _ _ (by_number {s = s} {p = p} {t = t} step intent r next other first alone m) =
    phased_on script came valid served (chains_at r) s (reached_holds script came valid served 0 s r) (reached_phased script came valid served 0 s r) p t step intent other m.there m.asked
    (chains_at (by_number step intent r next other first alone m)) (reached_holds script came valid served 0 (stepped p t step s) (by_number step intent r next other first alone m))
reached_phased script came valid served _ _ (last {s = s} {t = t} r none ends there awaits may) =
    let b = reached_phased script came valid served 0 s r in
    let main = b.waits t there awaits in
    record {
      each = λ q u other at. b.each q u other (others q u other at);
      points = b.points;
      waits = λ u at is. main;
      begun_last = λ u at away. record {
        points = λ k le. point_of_all script came valid served (chains_at r) s (reached_holds script came valid served 0 s r) b k le main none ends;
        no_step = λ q v other got. none q v other (others q v other got);
        no_phase = λ q v other got. ends q v other (others q v other got);
      };
      last = b.last;
    }
  where
    others : (q : ℕ) (v : Thread) → 1 ≤ q → slice_get (set s.threads 0 (turned t None)) q ≡ Some v → slice_get s.threads q ≡ Some v
    others q v other at = ⊎_elim
        (λ (same : (q ≡ 0) × (turned t None ≡ v)). absurd (let e = same.0 in omega arith))
        (λ (apart : (q ≢ 0) × (slice_get s.threads q ≡ Some v)). apart.1)
        (get_set s.threads 0 q (turned t None) v at)
reached_phased script came valid served _ _ (last_step {s = s} {t = t} step intent r m) =
    phased_last script came valid served (chains_at r) s (reached_holds script came valid served 0 s r) (reached_phased script came valid served 0 s r) t step intent m.there m.asked
    (chains_at (last_step step intent r m)) (reached_holds script came valid served 0 (stepped 0 t step s) (last_step step intent r m))
