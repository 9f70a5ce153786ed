-- The notes that a stepper stands for put few references into cells: each operation puts one at most, and nothing else does.
use Rattle.std.proofs.Common.{◌≡◌, ℕ, zero, suc, ◌+◌, ◌≤◌, Bool, true, false, eqb, ltb, List, [], ◌∷◌, ◌++◌, length, Option, Some, None, refl, ap, ◌∙◌, arith}
use Rattle.std.proofs.lemmas.Option.{slice_get_within}
use Rattle.arc_model.specs.declared.answer.Answer.{Answer}
use Rattle.arc_model.specs.declared.event.Act.{Act}
use Rattle.arc_model.specs.declared.event.Act.TheVariants as acts
use Rattle.arc_model.specs.declared.event.ObjectName.{ObjectName}
use Rattle.arc_model.specs.declared.event.Origin.{Origin}
use Rattle.arc_model.specs.declared.event.Origin.TheVariants as origins
use Rattle.arc_model.specs.declared.shape.Kind.{Kind}
use Rattle.arc_model.specs.Shapes.{HeapShape}
use Rattle.arc_spelling.specs.Spelling.{Note, is_fact, one_more_if, IsEnd, FieldsDone, IsDrop, IsCascade}
use Rattle.arc_model.specs.References.{field_count}
use Rattle.arc_spelling.specs.Spelling.Note.{Did, Line, Operation, Name, Entry, NeedsEntry, Nil, Refers}
use Rattle.arc_spelling.specs.Spelling.IsEnd.{inline, gone_more, gone_last}
use Rattle.arc_spelling.specs.Spelling.FieldsDone.{named, noted, nil, taken}
use Rattle.arc_spelling.specs.Spelling.IsDrop.{more, last_strong, last_unowned, last_weak}
use Rattle.arc_spelling.specs.Spelling.IsCascade.{finish_more, finish_last}
use Rattle.arc_spelling.specs.SpellingGains.{Spare, IsReady, IsSettled, IsGain, IsRefused}
use Rattle.arc_spelling.specs.SpellingGains.IsReady.{start, noted as ready_noted, claimed, published}
use Rattle.arc_spelling.specs.SpellingGains.IsSettled.{unclaimed, published as stays_published, given_back}
use Rattle.arc_spelling.specs.SpellingGains.IsRefused.{no_entry as entry_refused}
use Rattle.arc_hand_counts.specs.Counts.{is_put}
use Rattle.arc_cells.specs.Chains.{Frame}
use Rattle.arc_cells.specs.Cascades.{CascadeState}
use Rattle.arc_cells.specs.Drops.{Dropping as DroppedOne}
use Rattle.arc_cells.specs.declared.cascade.At.{At}
use Rattle.arc_cells.specs.declared.cascade.At.TheVariants as at
use Rattle.arc_cells.specs.declared.ref_drop.At.{At as DropAt}
use Rattle.arc_cells.specs.declared.ref_drop.At.TheVariants as drops
use Rattle.arc_side.specs.declared.slot_end.At.{At as EndAt}
use Rattle.arc_side.specs.declared.slot_end.At.TheVariants as ends
use Rattle.arc_rule.specs.declared.step.Step.{Step}
use Rattle.arc_rule.specs.declared.step.Intent.{Intent}
use Rattle.arc_plan.specs.declared.slots.Making.{Making as Search}
use Rattle.arc_plan.specs.declared.slots.Making.TheVariants as search
use Rattle.arc_deinits.specs.References.{EndUpTo, DropUpTo}
use Rattle.arc_deinits.specs.Stands.{Begun, Resumes, CascadeUpTo}
use Rattle.arc_script.specs.declared.script.Op.{Op}
use Rattle.arc_programs.specs.Variables.{Variables, Held}
use Rattle.arc_programs.specs.Programs.{Hands, IsDropped, HasSource, Source, IsAnswered, OpsDone, ScopeEnds, IsProgram, GlobalsCleared}
use Rattle.arc_programs.specs.Programs.IsDropped.{nothing, dropped}
use Rattle.arc_programs.specs.Programs.HasSource.{copy, unown, weak, load, get}
use Rattle.arc_programs.specs.Programs.IsAnswered.{made, full, copied, unowned_formed, weak_formed, loaded, found_dead, weakly_loaded, found_nil, looked, got, put_in_nil, swapped, no_owner, given_up, nothing_there, moved, from_nil, count_full, no_entry}
use Rattle.arc_programs.specs.Programs.OpsDone.{none, one, block}
use Rattle.arc_programs.specs.Programs.ScopeEnds.{begins as scope_begins, nil as scope_nil, dropped as scope_dropped}
use Rattle.arc_programs.specs.Programs.GlobalsCleared.{begins, nil as global_nil, cleared}
use Rattle.arc_ops.specs.declared.gain.Gain.{Gain}
use Rattle.arc_ops.specs.declared.stepper.Held.{Held as HeldByStepper}
use Rattle.arc_ops.specs.declared.stepper.Doing.{Doing}
use Rattle.arc_ops.specs.declared.stepper.Doing.TheVariants.{Ready, Making, Gaining, Naming, Opening, Closing, Setting, Clearing, Dropping, Dying, Vacating, Ended}
use Rattle.arc_ops.specs.declared.stepper.Move.{Move}
use Rattle.arc_spelled.specs.Counts.{put_in}
use Rattle.arc_spelled.specs.StepperStands.{Work, IsAtEnd, IsOverIf, IsOver, HasEnded, IsBegun, IsMaking, IsMade, MakesUpTo, GainsUpTo, IsDying, StepperUpTo}
use Rattle.arc_spelled.specs.Puts.{PutsAreFew}

-- ---- what drops and deinits add puts nothing

fact-same : (n : Note) (ns : List Note) → is_fact n ≡ true → put_in (n ∷ ns) ≡ put_in ns
fact-same (Did a) ns e = absurd (cc)
fact-same (Line a) ns e = refl
fact-same (Operation k) ns e = refl
fact-same (Name s name) ns e = refl
fact-same (Entry s entry) ns e = refl
fact-same (NeedsEntry s list) ns e = refl
fact-same (Nil c) ns e = refl
fact-same (Refers c kind place) ns e = refl

end-same : {slot : ℕ} {b ns : List Note} → IsEnd slot b ns → put_in ns ≡ put_in b
end-same inline = refl
end-same gone_more = refl
end-same gone_last = refl

mutual
  fields-same : {slot f : ℕ} {shape : HeapShape} {name : ObjectName} {b ns : List Note} → FieldsDone shape slot name f b ns → put_in ns ≡ put_in b
  fields-same named = refl
  fields-same (noted {n = n} {ns = ns} d e) = fact-same n ns e ∙ fields-same d
  fields-same (nil d l e) = fields-same d
  fields-same (taken d l e k x) = drop-same x ∙ fields-same d

  drop-same : {place k : ℕ} {shape : HeapShape} {kind : Kind} {b ns : List Note} → IsDrop shape kind place k b ns → put_in ns ≡ put_in b
  drop-same more = refl
  drop-same (last_strong c) = cascade-same c
  drop-same (last_unowned e) = end-same e
  drop-same last_weak = refl

  cascade-same : {slot : ℕ} {shape : HeapShape} {b ns : List Note} → IsCascade shape slot b ns → put_in ns ≡ put_in b
  cascade-same (finish_more d e) = fields-same d
  cascade-same (finish_last d e x) = end-same x ∙ fields-same d

dropped-same : {shape : HeapShape} {last : Option Held} {b ns : List Note} → IsDropped shape last b ns → put_in ns ≡ put_in b
dropped-same nothing = refl
dropped-same (dropped d) = drop-same d

-- ---- and gains neither

ready-same : {source : Kind} {slot : ℕ} {list : Kind} {spare : Spare} {b ns : List Note} → IsReady source slot list spare b ns → put_in ns ≡ put_in b
ready-same start = refl
ready-same (ready_noted {n = n} {ns = ns} r e) = fact-same n ns e ∙ ready-same r
ready-same (claimed r e) = ready-same r
ready-same (published r) = ready-same r

settled-same : {spare : Spare} {b ns : List Note} → IsSettled spare b ns → put_in ns ≡ put_in b
settled-same unclaimed = refl
settled-same stays_published = refl
settled-same given_back = refl

gain-same : {source : Kind} {slot : ℕ} {list : Kind} {act : Act} {read b ns : List Note} → ((d : List Note) → put_in (read ++ Did act ∷ d) ≡ put_in d) → IsGain source slot list act read b ns → put_in ns ≡ put_in b
gain-same quiet g = settled-same g.settled ∙ quiet g.decided ∙ ready-same g.ready

refused-same : {source : Kind} {slot : ℕ} {list : Kind} {b ns : List Note} → IsRefused source slot list b ns → put_in ns ≡ put_in b
refused-same (entry_refused r e) = ready-same r

source-same : {vars : Variables} {o : Op} {source : Source} {b ns : List Note} → HasSource vars o source b ns → put_in ns ≡ put_in b
source-same (copy e s) = refl
source-same (unown e s) = refl
source-same (weak e s) = refl
source-same (load e s) = refl
source-same (get c s) = refl

-- ---- an operation puts one at most

one-more : (b : Bool) (n : ℕ) → one_more_if b n ≤ n + 1
one-more true n = omega arith
one-more false n = omega arith

no-more : {n m : ℕ} → n ≡ m → n ≤ m + 1
no-more e = omega arith

answered-few : {p : ℕ} {came : Hands} {o : Op} {vars vars' : Variables} {answer : Answer} {last : Option Held} {b ns : List Note} → IsAnswered p came o vars b vars' answer last ns → put_in ns ≤ put_in b + 1
answered-few (made k n r) = no-more refl
answered-few (full v) = no-more refl
answered-few (copied e k g r) = no-more (gain-same (λ d. refl) g)
answered-few (unowned_formed e k g r) = no-more (gain-same (λ d. refl) g)
answered-few (weak_formed e k g r) = no-more (gain-same (λ d. refl) g)
answered-few (loaded e u k g r) = no-more (gain-same (λ d. refl) g)
answered-few (found_dead e u g r) = no-more (gain-same (λ d. refl) g)
answered-few (weakly_loaded e u k g r) = no-more (gain-same (λ d. refl) g)
answered-few (found_nil e u g r) = no-more (gain-same (λ d. refl) g)
answered-few (looked e r) = no-more refl
answered-few (got e k c g r) = no-more (gain-same (λ d. refl) g)
answered-few (put_in_nil {cell = cell} {hand = hand} {b = b} e h v) = one-more (is_put (acts.Swap cell hand None)) (put_in b)
answered-few (swapped {k = k} {cell = cell} {hand = hand} {b = b} e h v n c l) = one-more (is_put (acts.Swap cell hand (Some k))) (put_in b)
answered-few (no_owner e v n) = no-more (ap put_in n)
answered-few (given_up e r n) = no-more (ap put_in n)
answered-few (nothing_there e v n) = no-more (ap put_in n)
answered-few (moved e r v n) = no-more (ap put_in n)
answered-few (from_nil f r n) = no-more (ap put_in n)
answered-few (count_full s g v) = no-more (gain-same (λ d. refl) g ∙ source-same s)
answered-few (no_entry s g v) = no-more (refused-same g ∙ source-same s)

-- where a program is done up to a place, no more than the operations before it put one; that place may lie behind the program
ops-few : {shape : HeapShape} {p : ℕ} {came : Hands} {program : List Op} {count i : ℕ} {vars : Variables} {now : List Note} → OpsDone shape p came program count i vars now → (put_in now ≤ i) × (put_in now ≤ length program)
ops-few (none e) = (omega arith, omega arith)
ops-few {program = program} (one {i = i} {o = o} d there e x) =
    let few = ops-few d in
    let most = few.0 in
    let within = slice_get_within program i o there in
    let does = answered-few x.does in
    let drops = dropped-same x.ends in (omega arith, omega arith)
ops-few (block d there b next forth) = let few = ops-few d in let most = few.0 in (omega arith, few.1)

scope-same : {shape : HeapShape} {first vars : Variables} {n : ℕ} {b ns : List Note} → ScopeEnds shape first n vars b ns → put_in ns ≡ put_in b
scope-same scope_begins = refl
scope-same (scope_nil s l e n) = scope-same s
scope-same (scope_dropped s l e n v d) = drop-same d ∙ scope-same s

program-few : {shape : HeapShape} {p : ℕ} {came : Hands} {program : List Op} {count : ℕ} {now : List Note} → IsProgram shape p came program count now → put_in now ≤ length program
program-few g = let few = (ops-few g.ops).1 in let same = scope-same g.scope in omega arith

-- the end section puts none
cleared-none : {shape : HeapShape} {came : Hands} {n : ℕ} {now : List Note} → GlobalsCleared shape came n now → put_in now ≡ 0
cleared-none begins = refl
cleared-none (global_nil c l e) = cleared-none c
cleared-none (cleared c l e k there d) = drop-same d ∙ cleared-none c

-- ---- what is over

over-few : (w : Work) (i : ℕ) (vars : List (Option HeldByStepper)) (n : ℕ) (now : List Note) → IsOver w i vars n now → put_in now ≤ length w.program
over-few w i vars n now o = go (ltb i (length w.program)) o
  where
    at-end : (b : Bool) → IsAtEnd b w vars n now → put_in now ≤ length w.program
    at-end true c = let e = cleared-none c.globals in omega arith
    at-end false s = let few = (ops-few s.ops).1 in let same = scope-same s.ends in omega arith

    go : (b : Bool) → IsOverIf b w i vars n now → put_in now ≤ length w.program
    go true d = (ops-few d).1
    go false s = at-end (eqb w.thread 0) s

ended-few : (w : Work) (now : List Note) (b : Bool) → HasEnded b w now → put_in now ≤ length w.program
ended-few w now true c = let e = cleared-none c in omega arith
ended-few w now false g = program-few g

-- ---- what is under way

begun-few : {w : Work} {i : ℕ} {o : Op} {vars : List (Option HeldByStepper)} {now : List Note} → IsBegun w i o vars now → put_in now ≤ length w.program
begun-few b = let few = (ops-few b.done).1 in let same = ap put_in b.now_is in omega arith

making-few : {w : Work} {i to : ℕ} {name : ObjectName} {vars : List (Option HeldByStepper)} {now : List Note} → IsMaking w i to name vars now → put_in now ≤ length w.program
making-few m = begun-few m.begun

made-few : {w : Work} {i to : ℕ} {name : ObjectName} {slot : ℕ} {vars : List (Option HeldByStepper)} {now : List Note} → IsMade w i to name slot vars now → put_in now ≤ length w.program
made-few m = let few = making-few m.making in let same = ap put_in m.now_is in omega arith

makes-few : (w : Work) (i to : ℕ) (name : ObjectName) (vars : List (Option HeldByStepper)) (now : List Note) (a : Search) → MakesUpTo w i to name vars now a → put_in now ≤ length w.program
makes-few w i to name vars now search.Start u = absurd u
makes-few w i to name vars now (search.Looking word) u = making-few u
makes-few w i to name vars now (search.Taking slot seen) u = making-few u
makes-few w i to name vars now (search.Counting slot) u = made-few u
makes-few w i to name vars now (search.Naming slot) u = made-few u
makes-few w i to name vars now search.Ended u = absurd u

gains-few : (w : Work) (i : ℕ) (gain : Gain) (to : ℕ) (origin : Origin) (kind : Kind) (place : ℕ) (vars : List (Option HeldByStepper)) (now : List Note) → GainsUpTo w i gain to origin kind place vars now → put_in now ≤ length w.program
gains-few w i gain to (origins.Hand hand) kind place vars now u = begun-few u.begun
gains-few w i gain to (origins.Cell cell) kind place vars now u = begun-few u.1.begun

-- ---- deinits under way

slot-same : (slot : ℕ) (base now : List Note) (a : EndAt) (entry : Option ℕ) → EndUpTo slot base now a entry → put_in now ≡ put_in base
slot-same slot base now ends.Start entry u = absurd u
slot-same slot base now ends.Vacating entry u = ap put_in u
slot-same slot base now (ends.Leaving e plan) entry u = ap put_in u
slot-same slot base now (ends.Returning e) entry u = ap put_in u
slot-same slot base now ends.Ended entry u = absurd u

reference-same : (d : DroppedOne) (asked : Option (Step × Intent)) (base now : List Note) (a : DropAt) → DropUpTo d asked base now a → put_in now ≡ put_in base
reference-same d asked base now drops.Start u = ap put_in u
reference-same d asked base now (drops.Counting p) u = ap put_in u.1
reference-same d asked base now (drops.InEntry p) u = ap put_in u.1
reference-same d asked base now (drops.Ending p) u = slot-same p.slot _ now p.at p.entry u.2
reference-same d asked base now drops.Returning u = ap put_in u.1
reference-same d asked base now drops.Ended u = absurd u

chain-same : (shape : HeapShape) (root : ℕ) (base : List Note) (fs : List Frame) (slot : ℕ) (now : List Note) → Begun shape root base fs slot now → put_in now ≡ put_in base
chain-same shape root base [] slot now u = ap put_in u.1
chain-same shape root base (p ∷ fs) slot now u = ap put_in u.1.now_is ∙ fields-same u.1.done ∙ chain-same shape root base fs p.slot u.0 u.2

resumed-same : (shape : HeapShape) (root : ℕ) (base : List Note) (fs : List Frame) (slot field : ℕ) (now : List Note) → Resumes shape root base fs slot field now → put_in now ≡ put_in base
resumed-same shape root base [] slot field now u = absurd u
resumed-same shape root base (p ∷ fs) slot field now u = fields-same u.3.done ∙ chain-same shape root base fs p.slot u.3.began u.3.begun

deinit-same : (c : CascadeState) (root : ℕ) (base : List Note) (fs : List Frame) (asked : Option (Step × Intent)) (now : List Note) (a : At) → CascadeUpTo c root base fs asked now a → put_in now ≡ put_in base
deinit-same c root base fs asked now at.Start u = ap put_in u.2
deinit-same c root base fs asked now at.Entering u = chain-same c.shape root base fs c.slot now u
deinit-same c root base fs asked now at.Naming u = chain-same c.shape root base fs c.slot now u.0
deinit-same c root base fs asked now (at.Named name) u = fields-same u.up_to.done ∙ chain-same c.shape root base fs c.slot u.up_to.began u.up_to.begun
deinit-same c root base fs asked now (at.Looking name field) u = fields-same u.1.up_to.done ∙ chain-same c.shape root base fs c.slot u.1.up_to.began u.1.up_to.begun
deinit-same c root base fs asked now (at.Taking name field place) u = ap put_in u.now_is ∙ fields-same u.in_fields.up_to.done ∙ chain-same c.shape root base fs c.slot u.in_fields.up_to.began u.in_fields.up_to.begun
deinit-same c root base fs asked now (at.Dropping name field d) u =
    reference-same d asked u.starts now d.at u.drop ∙ ap put_in u.starts_is ∙ fields-same u.in_fields.up_to.done ∙ chain-same c.shape root base fs c.slot u.in_fields.up_to.began u.in_fields.up_to.begun
deinit-same c root base fs asked now at.Leaving u = fields-same u.up_to.done ∙ chain-same c.shape root base fs c.slot u.up_to.began u.up_to.begun
deinit-same c root base fs asked now (at.Finishing parent p) u = fields-same u.2.up_to.done ∙ chain-same c.shape root base fs c.slot u.2.up_to.began u.2.up_to.begun
deinit-same c root base fs asked now (at.Ending parent p) u =
    slot-same p.slot _ now p.at p.entry u.1.end ∙ fields-same u.1.all_done.up_to.done ∙ chain-same c.shape root base fs c.slot u.1.all_done.up_to.began u.1.all_done.up_to.begun
deinit-same c root base fs asked now (at.Resuming field) u = resumed-same c.shape root base fs c.slot field now u.0
deinit-same c root base fs asked now at.Ended u = cascade-same u

-- a deinit can be completed, with each field nil
nils : (shape : HeapShape) (slot : ℕ) (name : ObjectName) (b : List Note) (f : ℕ) → f ≤ field_count shape name → (ns : List Note) × FieldsDone shape slot name f b ns
nils shape slot name b zero le = (_, named)
nils shape slot name b (suc f) le = let r = nils shape slot name b f (omega arith) in (_, nil r.1 (omega arith) (omega arith))

completed : (shape : HeapShape) (root : ℕ) (base : List Note) → (after : List Note) × IsCascade shape root base after
completed shape root base =
    let name : ObjectName = record { class = 0; thread = 0; number = 0 } in
    let r = nils shape root name base (field_count shape name) (omega arith) in (_, finish_more r.1 refl)

dying-few : (w : Work) (i : ℕ) (c : CascadeState) (fs : List Frame) (asked : Move) (vars : List (Option HeldByStepper)) (n : ℕ) (now : List Note) → IsDying w i c fs asked vars n now → put_in now ≤ length w.program
dying-few w i c fs asked vars n now u =
    let whole = completed w.shape u.root u.base in
    let few = over-few w i vars n whole.0 (u.ends whole.0 whole.1) in
    let last = cascade-same whole.1 in
    let so_far = deinit-same c u.root u.base fs _ now c.at u.stands.up_to in omega arith

-- ---- all of it

up-to-few : (w : Work) (i : ℕ) (vars : List (Option HeldByStepper)) (n : ℕ) (fs : List Frame) (asked : Move) (now : List Note) (d : Doing) → StepperUpTo w i vars n fs asked now d → put_in now ≤ length w.program
up-to-few w i vars n fs asked now Ready u = (ops-few u.done).1
up-to-few w i vars n fs asked now (Making to name plan) u = makes-few w i to name vars now plan.at u
up-to-few w i vars n fs asked now (Gaining gain to from plan) u = gains-few w i gain to from.origin from.kind from.place vars now u
up-to-few w i vars n fs asked now (Naming to held plan) u = let few = begun-few u.gaining.begun in let same = ap put_in u.now_is in omega arith
up-to-few w i vars n fs asked now (Opening to cell plan) u = begun-few u.begun
up-to-few w i vars n fs asked now (Closing to cell held plan) u = let few = begun-few u.getting.begun in let same = ap put_in u.now_is in omega arith
up-to-few w i vars n fs asked now (Setting from cell plan) u = begun-few u.begun
up-to-few w i vars n fs asked now (Clearing plan) u = let e = cleared-none u.so_far.globals in omega arith
up-to-few w i vars n fs asked now (Dropping held plan) u = over-few w i vars n _ (u.ends _ more)
up-to-few w i vars n fs asked now (Dying c) u = dying-few w i c fs asked vars n now u
up-to-few w i vars n fs asked now (Vacating slot plan) u = let few = over-few w i vars n _ (u.ends _ inline) in let same = ap put_in u.now_is in omega arith
up-to-few w i vars n fs asked now Ended u = ended-few w now (eqb w.thread 0) u

pub puts_are_few : PutsAreFew
puts_are_few w t fs now s = up-to-few w t.index t.vars t.cleared fs t.asked now t.doing s.up_to
