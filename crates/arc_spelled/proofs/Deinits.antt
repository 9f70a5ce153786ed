-- A stepper in a deinit keeps what it stands for.
use Rattle.std.proofs.Common.{◌≡◌, ℕ, ◌+◌, Bool, true, false, cond, ltb, List, [], ◌∷◌, Option, Some, None, refl, sym, ap, subst, ◌∙◌, arith}
use Rattle.std.proofs.lemmas.Bool.{ltb-true, ltb-false}
use Rattle.arc_model.specs.declared.answer.Answer.TheVariants as answers
use Rattle.arc_model.specs.declared.event.Act.{Act}
use Rattle.arc_model.specs.declared.event.ObjectName.{ObjectName}
use Rattle.arc_model.specs.Shapes.{HeapShape}
use Rattle.arc_spelling.specs.Spelling.{Note, hands_of, IsCascade}
use Rattle.arc_model.specs.References.{field_count}
use Rattle.arc_spelling.specs.Spelling.Note.{Line}
use Rattle.arc_rule.specs.Extents.{Extent}
use Rattle.arc_rule.specs.Places.{number, extent_of}
use Rattle.arc_rule.specs.declared.layout.Place.TheVariants.{Next as NextPlace, Field}
use Rattle.arc_rule.specs.declared.step.Step.{Step}
use Rattle.arc_rule.specs.declared.step.Step.TheVariants.{Load}
use Rattle.arc_rule.specs.declared.step.Intent.{Intent}
use Rattle.arc_cells.specs.Chains.{Frame}
use Rattle.arc_cells.specs.declared.cascade.At.{At}
use Rattle.arc_cells.specs.declared.cascade.At.TheVariants.{Named, Looking, Leaving, Ended as CascadeEnded}
use Rattle.arc_cells.specs.declared.cascade.CascadeNext.{CascadeNext}
use Rattle.arc_cells.specs.declared.cascade.CascadeNext.TheVariants as says
use Rattle.arc_cells.specs.Cascades.{CascadeState, CascadeTurn, asks, looks, turn_at, cascade_turn, cascade_turned, cascade_answer, cascade_takes}
use Rattle.arc_deinits.specs.Found.{Reads as DeinitReads, FindsEntry as DeinitFindsEntry, Shows as DeinitShows, with_act}
use Rattle.arc_deinits.specs.Found.Reads.{nothing as deinit_read_nothing, name as deinit_read_name, nil_field as deinit_nil_field, reference as deinit_reference}
use Rattle.arc_deinits.specs.Found.FindsEntry.{nothing as deinit_found_nothing, finished, dropped}
use Rattle.arc_deinits.specs.Stands.{asked_by, with_deinit, FieldsUpTo, InFields, CascadeUpTo, CascadeStandsFor, ChainFits, chained, CascadeComes}
use Rattle.arc_deinits.proofs.Cascades.{cascade_goes_on}
use Rattle.arc_programs.specs.Programs.{made_of}
use Rattle.arc_programs.specs.ProgramsLines.{lines_of, number_of}
use Rattle.arc_ops.specs.declared.stepper.Doing.TheVariants.{Dying}
use Rattle.arc_ops.specs.declared.stepper.Move.TheVariants as moves
use Rattle.arc_ops.specs.Thread.{Thread, put, asking}
use Rattle.arc_ops.specs.Thread as thread
use Rattle.arc_ops.specs.Begins.{next_op}
use Rattle.arc_ops.specs.Drops.{dying_asks, dying_on, taken_by, deinit_tells}
use Rattle.arc_spelled.specs.Came.{came_out}
use Rattle.arc_spelled.specs.Counts.{taken_out}
use Rattle.arc_spelled.specs.Shown.{Reads, FindsEntry, Shows}
use Rattle.arc_spelled.specs.Shown.IsNamedFor.{deinit as for_deinit}
use Rattle.arc_spelled.specs.Shown.TakesLast.{finish, drop}
use Rattle.arc_spelled.specs.Shown.Reads.{nothing as read_nothing, name as read_name, nil_field, reference}
use Rattle.arc_spelled.specs.Shown.FindsReference.{nothing as refers_nothing}
use Rattle.arc_spelled.specs.Shown.FindsEntry.{nothing as found_nothing, entry as found_entry}
use Rattle.arc_spelled.specs.Shown.Says.{nothing, line}
use Rattle.arc_spelled.specs.StepperStands.{Work, IsServedWork, step_in, IsDying, StandsFor}
use Rattle.arc_spelled.proofs.StepperSteps.{ComesUnder, counted-line, number-here}
use Rattle.arc_spelled.proofs.Begins.{goes-on}
use Rattle.arc_spelled.proofs.Turning.{IsAtWork, given, TurnsUnder, turned-under, any-out}
use Rattle.arc_spelled.proofs.DeinitTurns.{IsOfDeinit, Tells, SaysWith, turn-tells}
use Rattle.arc_spelled.proofs.DeinitTurns.IsOfDeinit.{quiet as no_event, taken as take_told, dropped as drop_told, finished as finish_told, vacated as vacate_told, gone as gone_told, returned as back_told}

-- ---- what the word shows

-- what a deinit reads, finds and tells, a thread does
read-so : {shape : HeapShape} {layout : Extent} {asked : Option (Step × Intent)} {last : Option ℕ} {b ns : List Note} → DeinitReads shape layout asked last b ns → Reads shape layout asked last b ns
read-so deinit_read_nothing = read_nothing
read-so (deinit_read_name a l) = read_name a for_deinit l
read-so (deinit_nil_field a l n f) = nil_field a l n f
read-so (deinit_reference a l r n f) = reference a l r n f

found-so : {shape : HeapShape} {layout : Extent} {asked : Option (Step × Intent)} {last : Option ℕ} {event : Option Act} {b ns : List Note} → DeinitFindsEntry shape layout asked last event b ns → FindsEntry layout asked last event b ns
found-so deinit_found_nothing = found_nothing
found-so (finished {entry = entry} e a l c) = found_entry {entry = entry} e a finish l c
found-so (dropped {entry = entry} e came a l c) = found_entry {entry = entry} e a drop l c

shown-so : {shape : HeapShape} {layout : Extent} {asked : Option (Step × Intent)} {last : Option ℕ} {event : Option Act} {b ns : List Note} → DeinitShows shape layout asked last event b ns → Shows shape layout asked last event None b ns
shown-so s = record { read = s.read; reads = read-so s.reads; referred = s.read; refers = refers_nothing; finds = found-so s.finds }

-- a hand more where a reference is taken out of a field; no object, line or operation more
record IsQuiet (event : Option Act) (now found : List Note) : Type 0 where
  hands : hands_of found ≡ hands_of now + taken_by event
  taken : taken_out found ≡ taken_out now + taken_by event
  made : made_of found ≡ made_of now
  lines : lines_of found ≡ lines_of now
  number : number_of found ≡ number_of now

quiet-read : {shape : HeapShape} {layout : Extent} {asked : Option (Step × Intent)} {last : Option ℕ} {b ns : List Note} → DeinitReads shape layout asked last b ns → IsQuiet None b ns
quiet-read deinit_read_nothing = record { hands = omega arith; taken = omega arith; made = refl; lines = refl; number = refl }
quiet-read (deinit_read_name a l) = record { hands = omega arith; taken = omega arith; made = refl; lines = refl; number = refl }
quiet-read (deinit_nil_field a l n f) = record { hands = omega arith; taken = omega arith; made = refl; lines = refl; number = refl }
quiet-read (deinit_reference a l r n f) = record { hands = omega arith; taken = omega arith; made = refl; lines = refl; number = refl }

quiet-told : {e : Option Act} {b ns : List Note} → IsOfDeinit e → IsQuiet None b ns → IsQuiet e b (with_act e ns)
quiet-told no_event q = q
quiet-told take_told q = let h = q.hands in let n = q.taken in record { hands = omega arith; taken = omega arith; made = q.made; lines = q.lines; number = q.number }
quiet-told drop_told q = record { hands = q.hands; taken = q.taken; made = q.made; lines = q.lines; number = q.number }
quiet-told finish_told q = record { hands = q.hands; taken = q.taken; made = q.made; lines = q.lines; number = q.number }
quiet-told vacate_told q = record { hands = q.hands; taken = q.taken; made = q.made; lines = q.lines; number = q.number }
quiet-told gone_told q = record { hands = q.hands; taken = q.taken; made = q.made; lines = q.lines; number = q.number }
quiet-told back_told q = record { hands = q.hands; taken = q.taken; made = q.made; lines = q.lines; number = q.number }

quiet-found : {shape : HeapShape} {layout : Extent} {asked : Option (Step × Intent)} {last : Option ℕ} {e : Option Act} {b n ns : List Note} → DeinitFindsEntry shape layout asked last e n ns → IsQuiet e b n → IsQuiet e b ns
quiet-found deinit_found_nothing q = q
quiet-found (finished e a l c) q = record { hands = q.hands; taken = q.taken; made = q.made; lines = q.lines; number = q.number }
quiet-found (dropped e came a l c) q = record { hands = q.hands; taken = q.taken; made = q.made; lines = q.lines; number = q.number }

quiet : {shape : HeapShape} {layout : Extent} {asked : Option (Step × Intent)} {last : Option ℕ} {event : Option Act} {b ns : List Note} → DeinitShows shape layout asked last event b ns → IsOfDeinit event → IsQuiet event b ns
quiet s told = quiet-found s.finds (quiet-told told (quiet-read s.reads))

-- ---- a turn

-- the name was told, and the first field is looked at, or all of no field is done
abbrev behind : CascadeState → ObjectName → CascadeTurn
behind c name = looks (record c { at = CascadeEnded; event = None }) name 0

record LooksOn (root : ℕ) (base : List Note) (c : CascadeState) (t : CascadeTurn) (fs : List Frame) (now : List Note) : Type 0 where
  step : Step
  intent : Intent
  asks : t.says ≡ says.Step step intent
  stands : CascadeStandsFor root base t.after fs (Some (step, intent)) now
  layout : t.after.layout ≡ c.layout
  shape : t.after.shape ≡ c.shape

looks-on : (root : ℕ) (base : List Note) (c : CascadeState) (fs : List Frame) (name : ObjectName) (now : List Note) → c.before + c.taken ≡ hands_of now → InFields c.shape root base fs c.slot name 0 now →
    LooksOn root base c (behind c name) fs now
looks-on root base c fs name now hands u = go (ltb 0 (field_count c.shape name)) refl
  where
    q : CascadeState
    q = record c { at = CascadeEnded; event = None }

    go : (b : Bool) → ltb 0 (field_count c.shape name) ≡ b → LooksOn root base c (cond b (asks q (Looking name 0) (Load (number c.layout (Field c.slot 0)))) (asks q Leaving (Load (number c.layout (NextPlace c.slot))))) fs now
    go true e = record { step = _; intent = _; asks = refl; stands = record { hands = hands; up_to = (ltb-true 0 (field_count c.shape name) e, u, refl) }; layout = refl; shape = refl }
    go false e =
        let all : 0 ≡ field_count c.shape name = omega (arith, ltb-false 0 (field_count c.shape name) e) in
        record { step = _; intent = _; asks = refl; stands = record { hands = hands; up_to = record { name = name; up_to = subst (λ (f : ℕ). FieldsUpTo c.shape root base fs c.slot name f now) all u.up_to } }; layout = refl; shape = refl }

-- it works on, and asks for a step of the deinit
dying : (w : Work) (t : Thread) (fs : List Frame) (notes : List Note) → IsAtWork w t notes → (c : CascadeState) (step : Step) (intent : Intent) → IsDying w t.index c fs (moves.Step step intent) t.vars t.cleared notes →
    StandsFor w (asking (Dying c) step intent t) fs notes
dying w t fs notes work c step intent u = record { works = work.works; in_phase = work.phase; counts = work.counts; number = work.number; asks = tt; up_to = u }

pub dies-on : (w : Work) → IsServedWork w → (t : Thread) (last : Option ℕ) (fs : List Frame) (now : List Note) → IsAtWork w t now → (c : CascadeState) → IsDying w t.index c fs t.asked t.vars t.cleared now → ChainFits c fs last → cascade_takes c last →
    TurnsUnder w t (dying_on (cascade_turned c last) (cascade_answer c last) (deinit_tells (cascade_turned c last).event (given t))) last (chained c last fs) now
dies-on w served t last fs now work c u fits takes = go (cascade_answer c last) refl tells.said k.stands
  where
    k : CascadeComes u.root u.base c (cascade_turn c last) (chained c last fs) (step_in t.asked) last now
    k = cascade_goes_on u.root u.base c fs (step_in t.asked) last now u.stands fits takes

    tells : Tells (chained c last fs ≡ []) (cascade_turn c last)
    tells = turn-tells u.root u.base c fs (step_in t.asked) last now u.stands.up_to takes

    new : Thread
    new = deinit_tells (cascade_turned c last).event (given t)

    shows : Shows w.shape (extent_of w.shape) (step_in t.asked) last (cascade_turned c last).event (came_out t last) now k.found
    shows = any-out (subst (λ (s : HeapShape). Shows s (extent_of w.shape) (step_in t.asked) last (cascade_turned c last).event None now k.found) u.shape
        (subst (λ (x : Extent). Shows c.shape x (step_in t.asked) last (cascade_turned c last).event None now k.found) u.layout (shown-so k.shows)))

    at_work : IsAtWork w new k.found
    at_work =
        let q = quiet k.shows tells.event in
        record {
          works = work.works;
          counts = record { hands_are = ap (λ (n : ℕ). n + taken_by (cascade_turned c last).event) work.counts.hands_are ∙ sym q.hands; taken_is = ap (λ (n : ℕ). n + taken_by (cascade_turned c last).event) work.counts.taken_is ∙ sym q.taken; made_is = work.counts.made_is ∙ sym q.made; lines_are = rw q.lines work.counts.lines_are };
          number = q.number ∙ work.number;
          phase = work.phase;
        }

    layout : (cascade_turned c last).layout ≡ extent_of w.shape
    layout = k.same.layout ∙ u.layout

    shape : (cascade_turned c last).shape ≡ w.shape
    shape = k.same.shape ∙ u.shape

    dies : (name : ObjectName) → (cascade_turned c last).at ≡ Named name → CascadeStandsFor u.root u.base (cascade_turned c last) (chained c last fs) None (Line (answers.Deinit name) ∷ k.found) →
        ComesUnder w (dying_on (cascade_turned c last) (says.Died name) new) (cascade_turned c last).event (chained c last fs) k.found
    dies name e s = subst P (sym e) (subst Q (sym l.asks) (record {
      after = Line (answers.Deinit name) ∷ k.found;
      says = line nothing;
      event = refl;
      stands = dying w (put (answers.Deinit name) new) (chained c last fs) (Line (answers.Deinit name) ∷ k.found) told (behind (cascade_turned c last) name).after l.step l.intent
          (record { root = u.root; base = u.base; stands = l.stands; layout = l.layout ∙ layout; shape = l.shape ∙ shape; ends = u.ends });
    }))
      where
        P : At → Type 0
        P a =
            let t2 = turn_at (record (cascade_turned c last) { at = CascadeEnded; event = None }) None a in
            ComesUnder w (dying_asks t2.after t2.says (put (answers.Deinit name) new)) (cascade_turned c last).event (chained c last fs) k.found

        Q : CascadeNext → Type 0
        Q said = ComesUnder w (dying_asks (behind (cascade_turned c last) name).after said (put (answers.Deinit name) new)) (cascade_turned c last).event (chained c last fs) k.found

        l : LooksOn u.root u.base (cascade_turned c last) (behind (cascade_turned c last) name) (chained c last fs) (Line (answers.Deinit name) ∷ k.found)
        l = looks-on u.root u.base (cascade_turned c last) (chained c last fs) name (Line (answers.Deinit name) ∷ k.found) s.hands
            (subst (λ (a : At). CascadeUpTo (cascade_turned c last) u.root u.base (chained c last fs) None (Line (answers.Deinit name) ∷ k.found) a) e s.up_to)

        told : IsAtWork w (put (answers.Deinit name) new) (Line (answers.Deinit name) ∷ k.found)
        told = record {
          works = at_work.works;
          counts = counted-line w new.hands new.taken new.made new.kept (thread.number_of new) (answers.Deinit name) k.found (number-here w new k.found at_work.works at_work.number) at_work.counts;
          number = at_work.number;
          phase = at_work.phase;
        }

    go : (said : CascadeNext) → cascade_answer c last ≡ said → SaysWith (chained c last fs ≡ []) (cascade_turned c last) said →
        CascadeStandsFor u.root u.base (cascade_turned c last) (chained c last fs) (asked_by said) (with_deinit said k.found) → TurnsUnder w t (dying_on (cascade_turned c last) said new) last (chained c last fs) now
    go (says.Step step intent) e with_it s = turned-under w t _ last (chained c last fs) now (cascade_turned c last).event k.found shows (record {
      after = k.found;
      says = nothing;
      event = refl;
      stands = dying w new (chained c last fs) k.found at_work (cascade_turned c last) step intent (record { root = u.root; base = u.base; stands = s; layout = layout; shape = shape; ends = u.ends });
    })
    go (says.Died name) e there s = turned-under w t _ last (chained c last fs) now (cascade_turned c last).event k.found shows (dies name there s)
    go says.Done e alone s = turned-under w t _ last (chained c last fs) now (cascade_turned c last).event k.found shows
        (subst (λ (gs : List Frame). ComesUnder w (next_op new) (cascade_turned c last).event gs k.found) (sym alone)
        (goes-on w served new k.found at_work.works at_work.counts at_work.number at_work.phase (u.ends k.found (subst (λ (s : HeapShape). IsCascade s u.root u.base k.found) u.shape (k.done e)))))
