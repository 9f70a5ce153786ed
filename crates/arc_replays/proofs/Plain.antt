-- A step of a plain replay: words and views alone, and the history that they show.
use Rattle.std.proofs.Common.{◌≡◌, ℕ, eqb, Bool, true, false, cond, List, [], ◌++◌, set, refl, ◌∙◌, subst}
use Rattle.std.specs.Prelude.{slice_index, bit_and, bit_or}
use Rattle.std.proofs.lemmas.List.{set-get_or}
use mathlib.Core.Option.{some}
use lib.ListN.{get_elem?}
use prog.Atomic.{either}
use Rattle.atomic_table.specs.Table.{State}
use Rattle.arc_model.specs.Shapes.{HeapShape}
use Rattle.arc_rule.specs.declared.step.Step.{Step}
use Rattle.arc_rule.specs.declared.step.Step.TheVariants.{Load, Exchange, Store, Or, And}
use Rattle.arc_rule.specs.declared.step.Intent.{Intent}
use Rattle.arc_rule.specs.Steps.{found_by, made_by}
use Rattle.arc_view.specs.declared.view.Role.TheVariants.{Pass}
use Rattle.arc_view.specs.declared.view.View.{View}
use Rattle.arc_view.specs.Rule.{IsKept}
use Rattle.arc_view.specs.Kinds.{act_of, event_list}
use Rattle.arc_view.specs.Admission.{Admits}
use Rattle.arc_view.specs.Steps.{Told}
use Rattle.arc_view.proofs.Moves.{loads, exchanges, stores, ors, ands}
use Rattle.arc_replays.specs.Replaying.{table, PlainStepsKeep}

-- the rule says nothing of slots
bare : (shape : HeapShape) (s : State (Unit {0}) View) → IsKept shape s → IsKept shape (table s.words s.views)
bare shape s k = record {
  log = k.log;
  splits = k.splits;
  taken = k.taken;
  sized = k.sized;
  legal = k.legal;
  in_shape = k.in_shape;
  words = k.words;
  lying = k.lying;
  fits = k.fits;
  apart = k.apart;
  accesses = k.accesses;
  few = k.few;
  taken_below = k.taken_below;
  quiet = k.quiet;
  strange = k.strange;
}

bare_log : (shape : HeapShape) (s : State (Unit {0}) View) (k : IsKept shape s) → (bare shape s k).log ≡ k.log
unfolding bare
bare_log shape s k = refl

-- what the kinds of step leave on a table with no slot
module _ (shape : HeapShape) (words : List ℕ) (views : List View) (id : ℕ) (v : View) (k : IsKept shape (table words views)) (at : get_elem? views id ≡ some v) (pass : v.role ≡ Pass) where
  -- a table whose words are these
  abbrev Made : Step → Intent → List ℕ → ℕ → Type 0
  Made step intent ws found = (w : View) × (kept : IsKept shape (table ws (set views id w))) × (kept.log ≡ event_list v.number (act_of shape v step intent found) ++ k.log) × Told shape intent step v found w

  load_made : (place : ℕ) (intent : Intent) → Admits shape v (Load place) intent → Made (Load place) intent (set words place (slice_index words place)) (slice_index words place)
  load_made place intent admits = let r = loads shape id (v, []) intent place pass admits (table words views) k at in (r.view, bare shape _ r.kept, bare_log shape _ r.kept ∙ r.log_is, r.told)

  exchange_made : (place old new : ℕ) (intent : Intent) → Admits shape v (Exchange place old new) intent
      → Made (Exchange place old new) intent (set words place (either (eqb (slice_index words place) old) new (slice_index words place))) (slice_index words place)
  exchange_made place old new intent admits = let r = exchanges shape id (v, []) intent place old new pass admits (table words views) k at in (r.view, bare shape _ r.kept, bare_log shape _ r.kept ∙ r.log_is, r.told)

  store_made : (place new : ℕ) (intent : Intent) → Admits shape v (Store place new) intent → Made (Store place new) intent (set words place new) 0
  store_made place new intent admits = let r = stores shape id (v, []) intent place new pass admits (table words views) k at in (r.view, bare shape _ r.kept, bare_log shape _ r.kept ∙ r.log_is, r.told)

  or_made : (place bits : ℕ) (intent : Intent) → Admits shape v (Or place bits) intent → Made (Or place bits) intent (set words place (bit_or (slice_index words place) bits)) (slice_index words place)
  or_made place bits intent admits = let r = ors shape id (v, []) intent place bits pass admits (table words views) k at in (r.view, bare shape _ r.kept, bare_log shape _ r.kept ∙ r.log_is, r.told)

  and_made : (place bits : ℕ) (intent : Intent) → Admits shape v (And place bits) intent → Made (And place bits) intent (set words place (bit_and (slice_index words place) bits)) (slice_index words place)
  and_made place bits intent admits = let r = ands shape id (v, []) intent place bits pass admits (table words views) k at in (r.view, bare shape _ r.kept, bare_log shape _ r.kept ∙ r.log_is, r.told)

  of_words : (step : Step) (intent : Intent) (ws new : List ℕ) (found : ℕ) → ws ≡ new → Made step intent ws found → Made step intent new found
  of_words step intent ws new found same = subst (λ (l : List ℕ). Made step intent l found) same

  plain : (step : Step) (intent : Intent) → Admits shape v step intent → Made step intent (made_by step words) (found_by step words)
  plain (Load place) intent admits = of_words (Load place) intent (set words place (slice_index words place)) words (slice_index words place) (set-get_or words place 0) (load_made place intent admits)
  plain (Exchange place old new) intent admits =
      of_words (Exchange place old new) intent (set words place (either (eqb (slice_index words place) old) new (slice_index words place))) (cond (eqb (slice_index words place) old) (set words place new) words) (slice_index words place)
      (go (eqb (slice_index words place) old)) (exchange_made place old new intent admits)
    where
      go : (b : Bool) → set words place (either b new (slice_index words place)) ≡ cond b (set words place new) words
      go true = refl
      go false = set-get_or words place 0
  plain (Store place new) intent admits = store_made place new intent admits
  plain (Or place bits) intent admits = or_made place bits intent admits
  plain (And place bits) intent admits = and_made place bits intent admits

pub plain_steps_keep : PlainStepsKeep
plain_steps_keep shape words views id v step intent k at pass may =
    let r = plain shape words views id v k at pass step intent may in record { view = r.0; kept = r.1; log_is = r.2; told = r.3 }
