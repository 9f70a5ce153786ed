-- The laws of the stages that a replay comes to.
use Rattle.std.proofs.Common.{◌≡◌, ℕ, ◌<◌, length, None, arith}
use Rattle.std.proofs.lemmas.Option.{slice_get_within}
use Rattle.arc_rule.specs.Places.{extent_of, word_count}
use Rattle.arc_rule.specs.Steps.{place_of}
use Rattle.arc_rule.specs.declared.step.Step.{Step}
use Rattle.arc_rule.specs.declared.step.Step.TheVariants.{Load, Exchange, Store, Or, And}
use Rattle.arc_script.specs.declared.script.Script.{Script}
use Rattle.arc_script.specs.Valid.{IsScript}
use Rattle.arc_served.specs.Served.{IsServed}
use Rattle.arc_programs.specs.Programs.{Hands}
use Rattle.arc_spelled.specs.Spelled.{work_of}
use Rattle.arc_spelled.proofs.SteppersSpell.{served-work}
use Rattle.arc_view.specs.declared.view.View.{View}
use Rattle.arc_view.specs.Admission.{Admits}
use Rattle.arc_view.proofs.Words.{number_below}
use Rattle.arc_ops_passes.proofs.Laws.{steps_are_allowed}
use Rattle.arc_ops_passes.proofs.Phases.{phases_begin, scripts_name_variables}
use Rattle.arc_replays.specs.Stages.{Stage, Reached, chains_at}
use Rattle.arc_replays.specs.Laws.{StagesAreWhole, ThreadsAreAtWork, StepsMayBeMade, PhasesMayBegin}
use Rattle.arc_replays.proofs.Chains.{asks_chain}
use Rattle.arc_replays.proofs.Holds.{Holds, reached_holds, hand_left, goes_to}

-- what a pass's hands refer to is known by what it has seen
nothing : Hands
nothing k = None

holds : (script : Script) → IsScript script → IsServed script → (ending : ℕ) (s : Stage) (r : Reached script ending s) → Holds script nothing (chains_at r) s
holds script valid served ending s r = reached_holds script nothing valid served ending s r

pub stages_are_whole : StagesAreWhole
stages_are_whole script ending s valid served r = let h = holds script valid served ending s r in record { threads = h.as_many; words = h.replaying.kept.words.whole }

pub threads_are_at_work : ThreadsAreAtWork
threads_are_at_work script ending s p t valid served r there =
    let at = (holds script valid served ending s r).replaying.drives p t there in
    let d = at.2 in
    record { thread = d.stands.works.thread_is; shape = d.stands.works.shape_is; layout = d.stands.works.layout_is; program = d.stands.works.program_is; asks = asks_chain script.shape d.chain (chains_at r p) t t.doing at.3 d.asks }

pub steps_may_be_made : StepsMayBeMade
steps_may_be_made script ending s p t step intent valid served r there stepper asked =
    let h = holds script valid served ending s r in
    let d = h.replaying.drives p t there in
    let on = goes_to script nothing valid served (chains_at r) s h p t step intent there stepper asked in
    record {
      place = by d.0 step (steps_are_allowed (work_of script p nothing) t d.0 step intent (served-work script p nothing valid served) stepper h.replaying.kept.sized d.2 asked) h.replaying.kept.words.whole;
      takes_it = on.takes_it;
      fits = on.fits;
    }
  where
    by : (v : View) (st : Step) → Admits script.shape v st intent → length s.words ≡ word_count (extent_of script.shape) → place_of st < length s.words
    by v (Load place) a whole = let b = number_below (extent_of script.shape) a.0 a.2 in let e = a.1 in omega arith
    by v (Exchange place old new) a whole = let b = number_below (extent_of script.shape) a.0 a.2 in let e = a.1 in omega arith
    by v (Store place new) a whole = let b = number_below (extent_of script.shape) a.0 a.2 in let e = a.1 in omega arith
    by v (Or place bits) a whole = let b = number_below (extent_of script.shape) a.0 a.2 in let e = a.1 in omega arith
    by v (And place bits) a whole = let b = number_below (extent_of script.shape) a.0 a.2 in let e = a.1 in omega arith

pub phases_may_begin : PhasesMayBegin
phases_may_begin script ending s p t valid served r there asked =
    let h = holds script valid served ending s r in
    let d = h.replaying.drives p t there in
    (phases_begin (work_of script p nothing) t d.0 (served-work script p nothing valid served) (scripts_name_variables script p nothing valid served (let lt = slice_get_within s.threads p t there in let long = h.as_many in omega arith)) (hand_left script nothing valid served (chains_at r) s h p t there) d.2 asked).takes_it
