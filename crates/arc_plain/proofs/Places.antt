-- A place of the schedule is followed, and a thread makes its step.
use Rattle.std.proofs.Common.{◌≡◌, ◌≢◌, ℕ, zero, suc, ◌≤◌, ◌<◌, true, false, List, [], ◌∷◌, length, drop, get_or, set, Some, None, refl, ap, ◌∙◌, subst, arith}
use Rattle.std.specs.List.{AllByRecursion}
use Rattle.std.specs.Prelude.{All, slice_get}
use Rattle.std.proofs.lemmas.Option.{slice_get-get_or, get_or_from_slice_get}
use Rattle.arc_rule.specs.Steps.{found_by}
use Rattle.arc_rule.specs.declared.step.Step.{Step}
use Rattle.arc_rule.specs.declared.step.Intent.{Intent}
use Rattle.arc_ops.specs.declared.stepper.Move.{Move}
use Rattle.arc_ops.specs.declared.stepper.Move.TheVariants as moves
use Rattle.arc_ops.specs.Thread.{Thread, stepper_of}
use Rattle.arc_ops.specs.Turns.{turned}
use Rattle.arc_ops.specs.Steppers.{IsStepper}
use Rattle.arc_replays.specs.Laws.{MayBeMade}
use Rattle.arc_replays.specs.Stages.{MayStep, IsSome, has_step, is_step, is_phase_end, awaits_phase, chains_at}
use Rattle.arc_replays.specs.Stages.Reached.{makes, passes}
use Rattle.arc_plain.specs.Crews.{Progress, IsAtStage, IsUnderWay, IsInPhases, AreFollowed, PlaceFollowed, thread_at, has_made, place_used, steps_asked, step_count}
use Rattle.arc_replays.proofs.Laws.{stages_are_whole, steps_may_be_made}
use Rattle.arc_plain.proofs.Lists.{set_apart, some_counts, none_counts}
use Rattle.arc_plain.proofs.Keeps.{places_fit}

pub there : (c : Progress) (p : ℕ) → p < length c.stage.threads → slice_get c.stage.threads p ≡ Some (thread_at p c)
there c p lt = slice_get-get_or c.stage.threads p (stepper_of c.script p) lt

pub is_at : (c : Progress) (p : ℕ) (t : Thread) → slice_get c.stage.threads p ≡ Some t → thread_at p c ≡ t
is_at c p t at = get_or_from_slice_get c.stage.threads p t (stepper_of c.script p) at

-- a step that a thread asks for may be made
pub may_make : (n : ℕ) (c : Progress) (p : ℕ) (step : Step) (intent : Intent) (u : IsAtStage n c) → p < length c.stage.threads → (thread_at p c).asked ≡ moves.Step step intent → MayBeMade c.stage (thread_at p c) (chains_at u.reached p) step
may_make n c p step intent u lt asked = steps_may_be_made c.script n c.stage p (thread_at p c) step intent u.script u.served u.reached (there c p lt) (u.steppers p (stepper_of c.script p) lt) asked

pub may_step : (n : ℕ) (c : Progress) (p : ℕ) (step : Step) (intent : Intent) → IsAtStage n c → p < length c.stage.threads → (thread_at p c).asked ≡ moves.Step step intent → MayStep c.stage p (thread_at p c) step intent
may_step n c p step intent u lt asked =
    record { there = there c p lt; stepper = u.steppers p (stepper_of c.script p) lt; asked = asked; takes_it = (may_make n c p step intent u lt asked).takes_it }

-- the threads of two places
pub other_at : (threads : List Thread) (p q : ℕ) (t d : Thread) → q ≢ p → q < length threads → get_or (set threads p t) q d ≡ get_or threads q d
other_at threads p q t d ne lt = let e = set_apart threads p q t ne in let a = slice_get-get_or threads q d lt in get_or_from_slice_get (set threads p t) q (get_or threads q d) d (e ∙ a)

counts : (m : Move) → 1 ≤ step_count m → is_step m ≡ true
counts (moves.Step step intent) h = refl
counts moves.PhaseEnd h = absurd (omega arith)
counts moves.Ended h = absurd (omega arith)

pub counts_not : (m : Move) → step_count m ≡ 0 → is_step m ≡ false
counts_not (moves.Step step intent) h = absurd (omega arith)
counts_not moves.PhaseEnd h = refl
counts_not moves.Ended h = refl

-- a thread with a step doesn't wait for a phase
not_both : (m : Move) → is_step m ≡ true → is_phase_end m ≡ true → ⊥
not_both (moves.Step step intent) h k = cc
not_both moves.PhaseEnd h k = cc
not_both moves.Ended h k = cc

-- where threads have a step, one but thread 0 has
pub some_has : (c : Progress) → IsInPhases c → 1 ≤ steps_asked c.stage.threads → IsSome has_step c.stage.threads
some_has c i h =
    let found = some_counts (λ (t : Thread). step_count t.asked) c.stage.threads h in
    record { place = found.0; thread = found.1; other = other found.0 found.1 found.2 (counts found.1.asked found.3); there = found.2; passes = counts found.1.asked found.3 }
  where
    other : (p : ℕ) (t : Thread) → slice_get c.stage.threads p ≡ Some t → is_step t.asked ≡ true → 1 ≤ p
    other zero t at steps = absurd (not_both t.asked steps (subst (λ (x : Thread). awaits_phase x ≡ true) (is_at c 0 t at) i.first_waits))
    other (suc p) t at steps = omega arith

-- ---- the next place

headed : (ps : List ℕ) (p : ℕ) → slice_get ps 0 ≡ Some p → ps ≡ p ∷ drop 1 ps
headed [] p e = absurd (cc)
headed (q ∷ ps) p e = let same : q ≡ p = cc in ap (λ (n : ℕ). n ∷ ps) same

-- it is that of a thread but thread 0
pub place_fits : (c : Progress) (p : ℕ) → IsUnderWay c → slice_get c.stage.places 0 ≡ Some p → (1 ≤ p) × (p < length c.stage.threads)
place_fits c p u next =
    let whole = stages_are_whole c.script 0 c.stage u.script u.served u.reached in
    let fits = (subst (AllByRecursion (λ (q : ℕ). (1 ≤ q) × (q ≤ length c.script.threads))) (headed c.stage.places p next) (places_fit c.script u.script 0 c.stage u.reached)).0 in
    let most = fits.1 in
    let long = whole.threads in
    (fits.0, omega arith)

first_stays : (c : Progress) (p : ℕ) (t : Thread) → 1 ≤ p → p < length c.stage.threads → awaits_phase (thread_at 0 c) ≡ true → awaits_phase (get_or (set c.stage.threads p t) 0 (stepper_of c.script 0)) ≡ true
first_stays c p t p1 lt waits = rw (other_at c.stage.threads p 0 t (stepper_of c.script 0) (λ e. omega arith) (omega arith)) waits

pub place_made : (c : Progress) (p : ℕ) (step : Step) (intent : Intent) → IsInPhases c → slice_get c.stage.places 0 ≡ Some p → (thread_at p c).asked ≡ moves.Step step intent →
    All IsStepper (has_made p step (place_used c)).stage.threads → PlaceFollowed c (has_made p step (place_used c))
place_made c p step intent i next asked steppers =
    let u = i.under_way in
    let fits = place_fits c p u next in
    let long : length c.stage.places ≡ suc (length (drop 1 c.stage.places)) = ap (λ (ps : List ℕ). length ps) (headed c.stage.places p next) in
    record {
      in_phases = record {
        under_way = record { script = u.script; served = u.served; reached = makes {p = p} {places = drop 1 c.stage.places} step intent u.reached (headed c.stage.places p next) fits.0 (may_step 0 c p step intent u fits.1 asked); steppers = steppers };
        first_waits = first_stays c p (turned (thread_at p c) (Some (found_by step c.stage.words))) fits.0 fits.1 i.first_waits;
      };
      came = record { script = refl; begun = refl; steps = omega arith };
      fewer = omega arith;
    }

pub place_passed : (c : Progress) (p : ℕ) → IsInPhases c → slice_get c.stage.places 0 ≡ Some p → 1 ≤ steps_asked c.stage.threads → is_step (thread_at p c).asked ≡ false → PlaceFollowed c (place_used c)
place_passed c p i next some idle =
    let u = i.under_way in
    let fits = place_fits c p u next in
    let long : length c.stage.places ≡ suc (length (drop 1 c.stage.places)) = ap (λ (ps : List ℕ). length ps) (headed c.stage.places p next) in
    record {
      in_phases = record {
        under_way = record { script = u.script; served = u.served; reached = passes u.reached (headed c.stage.places p next) fits.0 (there c p fits.1) idle (some_has c i some); steppers = u.steppers };
        first_waits = i.first_waits;
      };
      came = record { script = refl; begun = refl; steps = omega arith };
      fewer = omega arith;
    }

pub place_made_on : (c u c' : Progress) (p : ℕ) (step : Step) (intent : Intent) → IsInPhases c → slice_get c.stage.places 0 ≡ Some p → u ≡ place_used c → (thread_at p c).asked ≡ moves.Step step intent → c' ≡ has_made p step u → All IsStepper c'.stage.threads →
    PlaceFollowed c c'
place_made_on c u c' p step intent i next used asked made steppers =
    let is : c' ≡ has_made p step (place_used c) = made ∙ ap (λ (x : Progress). has_made p step x) used in
    rw is (place_made c p step intent i next asked (rw is at steppers))

-- no thread has a step
pub idle_followed : (c : Progress) → steps_asked c.stage.threads ≡ 0 → AreFollowed c
idle_followed c h = λ some. absurd (let none = counts_not some.thread.asked (none_counts (λ (t : Thread). step_count t.asked) c.stage.threads some.place some.thread h some.there) in let has = some.passes in cc)

pub places_left : (ps : List ℕ) (p : ℕ) → slice_get ps 0 ≡ Some p → 1 ≤ length ps
places_left ps p e = let long : length ps ≡ suc (length (drop 1 ps)) = ap (λ (x : List ℕ). length x) (headed ps p e) in omega arith

pub none_left : (ps : List ℕ) → slice_get ps 0 ≡ None → ps ≡ []
none_left [] e = refl
none_left (p ∷ ps) e = absurd (cc)
