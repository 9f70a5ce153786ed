-- A step of a deinit brings the thread nearer to the end of its phase: by the fields that are still to be looked at, the deinits that wait, and the references
-- that may still be taken out of fields.
use Rattle.std.proofs.Common.{◌≡◌, ℕ, ◌+◌, ◌-◌, ◌*◌, ◌^◌, ◌≤◌, ◌<◌, Bool, true, false, cond, eqb, ltb, List, [], ◌∷◌, length, Option, Some, None, refl, arith}
use Rattle.std.proofs.lemmas.Bool.{ltb-true}
use Rattle.arc_bits.specs.declared.packing.Word.{Word}
use Rattle.arc_bits.specs.declared.packing.Word.TheVariants as word
use Rattle.arc_bits.specs.Words.{packed, unpacked}
use Rattle.arc_bits.specs.Moves.{strong_less, unowned_less}
use Rattle.arc_model.specs.Shapes.{HeapShape}
use Rattle.arc_model.specs.References.{field_count}
use Rattle.arc_model.specs.declared.shape.Kind.{Kind}
use Rattle.arc_model.specs.declared.shape.Kind.TheVariants as kinds
use Rattle.arc_model.specs.declared.event.Act.{Act}
use Rattle.arc_model.specs.declared.event.Act.TheVariants as acts
use Rattle.arc_model.specs.declared.event.ObjectName.{ObjectName}
use Rattle.arc_model.specs.declared.answer.Answer.TheVariants as answers
use Rattle.arc_rule.specs.Extents.{Extent}
use Rattle.arc_rule.specs.Isa.{isa_name_of}
use Rattle.arc_rule.specs.Places.{number}
use Rattle.arc_rule.specs.declared.layout.Place.TheVariants.{Count, Next, Field}
use Rattle.arc_rule.specs.declared.step.Step.{Step}
use Rattle.arc_rule.specs.declared.step.Step.TheVariants.{Load, Store}
use Rattle.arc_rule.specs.declared.step.Intent.{Intent}
use Rattle.arc_rule.specs.declared.plan.Next.TheVariants as nexts
use Rattle.arc_rule.specs.declared.attempt.At.{At as AttemptAt}
use Rattle.arc_rule.specs.declared.attempt.At.TheVariants as attempt
use Rattle.arc_rule.specs.declared.attempt.Choice.{Choice}
use Rattle.arc_rule.specs.declared.attempt.Choice.TheVariants.{Tell, Write}
use Rattle.arc_rule.specs.Attempts.{exchanging, chosen, told_as, turned_by, answer_by}
use Rattle.arc_plan.specs.declared.strong.StrongDownAnswer.TheVariants as strong_downs
use Rattle.arc_plan.specs.declared.unowned.UnownedDownAnswer.TheVariants as less
use Rattle.arc_plan.specs.Strong.{strong_down_row, strong_down_end}
use Rattle.arc_plan.specs.Unowned.{unowned_down_row, unowned_down_end}
use Rattle.arc_side.specs.declared.down.DownAnswer.{DownAnswer}
use Rattle.arc_side.specs.declared.down.DownAnswer.TheVariants as downs
use Rattle.arc_side.specs.declared.slot_end.At.TheVariants as ends
use Rattle.arc_side.specs.Inline.{entry_named}
use Rattle.arc_side.specs.Downs.{Fall, of_strong_down, of_unowned_down, down_end_at, down_in, down_moved, down_place}
use Rattle.arc_side.specs.SlotEnds.{SlotEnding}
use Rattle.arc_cells.specs.Chains.{Frame, parent_in, parent_of, rest_of}
use Rattle.arc_cells.specs.Drops.{Dropping, DropTurn, counted_on, drop_from, drop_turn}
use Rattle.arc_cells.specs.declared.parent.Parent.{Parent}
use Rattle.arc_cells.specs.declared.cascade.At.{At}
use Rattle.arc_cells.specs.declared.cascade.At.TheVariants as at
use Rattle.arc_cells.specs.declared.cascade.CascadeNext.TheVariants as says
use Rattle.arc_cells.specs.declared.ref_drop.At.{At as DropAt}
use Rattle.arc_cells.specs.declared.ref_drop.At.TheVariants as drops
use Rattle.arc_cells.specs.Cascades.{CascadeState, CascadeTurn, field_kind, asks, looks, climbs, drops_by, finishes}
use Rattle.arc_deinits.specs.Stands.{chained_by}
use Rattle.arc_ops.specs.declared.stepper.Doing.TheVariants as doings
use Rattle.arc_ops.specs.Thread.{Thread, put}
use Rattle.arc_ops.specs.Begins.{next_op}
use Rattle.arc_ops.specs.Drops.{taken_by, deinit_tells, dying_asks, dying_on}
use Rattle.arc_ops.specs.Turns.{turned_at}
use Rattle.arc_plain.specs.Left.{busy_units, count_at, waiting, cascade_left}
use Rattle.arc_plain.proofs.Walks.{Fits, next_comes}
use Rattle.arc_plain.proofs.Goes.{quiet, in_flight, GoesUnder, goes_under, eqb_same}

abbrev pub dying_state : Extent → HeapShape → (s before taken : ℕ) → Option Act → At → CascadeState
dying_state l shape s before taken event at = record { layout = l; shape = shape; slot = s; before = before; taken = taken; at = at; event = event }

abbrev pub drop_plan : Extent → (slot : ℕ) → Kind → AttemptAt → Fall
drop_plan l s kind x = record { layout = l; slot = s; list = kind; entry = None; at = x }

abbrev pub dropping_one : Extent → (hand : ℕ) → Kind → (place : ℕ) → Option Act → DropAt → Dropping
dropping_one l hand kind place event x = record { layout = l; hand = hand; kind = kind; place = place; at = x; event = event }

abbrev pub slot_ending : Extent → ℕ → SlotEnding
slot_ending l s = record { layout = l; slot = s; entry = None; at = ends.Vacating; event = None }

-- what a turn of the cascade makes of the thread
abbrev dying_by : Thread → CascadeTurn → Thread
dying_by t x = dying_on x.after x.says (deinit_tells x.after.event (quiet t))

module _ (t : Thread) (words after : List ℕ) (l : Extent) (shape : HeapShape) (s before taken : ℕ) (event : Option Act) (fits : Fits t) (few : (name : ObjectName) → field_count shape name ≤ 8) where
  -- the same between two steps, with the event of the last one
  abbrev between : Option Act → CascadeState
  between e = dying_state l shape s before taken e at.Ended

  -- from a place under a chain of deinits that wait to what the thread is then, under this one
  abbrev pub Dies : List Frame → List Frame → At → Thread → Type 0
  Dies chain later x u = GoesUnder t words chain after later (doings.Dying (dying_state l shape s before taken event x)) u

  -- how many steps are left at a place, and of the reserve after an event
  abbrev here : List Frame → At → ℕ
  here chain x = cascade_left words shape chain x + 32 * (2 ^ 31 - t.taken)

  abbrev there : Option Act → List Frame → At → ℕ
  there e later y = cascade_left after shape later y + 32 * (2 ^ 31 - (t.taken + taken_by e))

  -- each reference that waits or is on its way there was taken out of a field
  abbrev Follows : List Frame → At → Option Act → List Frame → At → Type 0
  Follows chain x e later y = length (waiting x chain) + in_flight x ≤ t.taken → length (waiting y later) + in_flight y ≤ t.taken + taken_by e

  -- a step is asked for
  asked_on : (chain later : List Frame) (x : At) (e : Option Act) (slot b k : ℕ) (y : At) (step : Step) (intent : Intent) → there e later y < here chain x → Follows chain x e later y →
      Dies chain later x (dying_by t (record { after = record { layout = l; shape = shape; slot = slot; before = b; taken = k; at = y; event = e }; says = says.Step step intent }))
  asked_on chain later x e slot b k y step intent lt follows = record {
    layout = refl;
    phases = refl;
    program = refl;
    count = refl;
    phase = refl;
    inside = λ h. refl;
    past = λ f. tt;
    fewer = λ free. omega (arith, lt);
    waits = follows;
  }

  -- all is over
  over_on : (chain : List Frame) (x : At) (e : Option Act) → taken_by e ≡ 0 → 0 < cascade_left words shape chain x → Dies chain chain x (next_op (deinit_tells e (quiet t)))
  over_on chain x e none some =
      let same : t.taken + taken_by e ≡ t.taken = omega (arith, none) in
      goes_under t (deinit_tells e (quiet t)) (next_op (deinit_tells e (quiet t))) words chain after chain (doings.Dying (dying_state l shape s before taken event x)) (4200 * busy_units t)
      (record { layout = refl; phases = refl; program = refl; count = refl; phase = refl; taken = same; globals = omega arith }) (next_comes (deinit_tells e (quiet t)) fits) (omega (arith, some))

  -- the next field is looked at, or behind the last one the next word
  looks_on : (chain later : List Frame) (x : At) (e : Option Act) (slot b k : ℕ) (name : ObjectName) (f : ℕ) → ((f < field_count shape name) → there e later (at.Looking name f) < here chain x) → there e later at.Leaving < here chain x →
      (length (waiting x chain) + in_flight x ≤ t.taken → length later ≤ t.taken + taken_by e) →
      Dies chain later x (dying_by t (looks (record { layout = l; shape = shape; slot = slot; before = b; taken = k; at = at.Ended; event = e }) name f))
  looks_on chain later x e slot b k name f on off follows = go (ltb f (field_count shape name)) refl
    where
      q : CascadeState
      q = record { layout = l; shape = shape; slot = slot; before = b; taken = k; at = at.Ended; event = e }

      go : (more : Bool) → ltb f (field_count shape name) ≡ more →
          Dies chain later x (dying_by t (cond more (asks q (at.Looking name f) (Load (number l (Field slot f)))) (asks q at.Leaving (Load (number l (Next slot))))))
      go true is = asked_on chain later x e slot b k (at.Looking name f) _ _ (on (ltb-true f (field_count shape name) is)) (λ w. let h = follows w in omega arith)
      go false is = asked_on chain later x e slot b k at.Leaving _ _ off (λ w. let h = follows w in omega arith)

  -- the deinit that waits goes on, or all is over
  climbs_on : (chain : List Frame) (x : At) (e : Option Act) (slot b k : ℕ) → taken_by e ≡ 0 → 14 * length chain < cascade_left words shape chain x → length chain ≤ length (waiting x chain) + in_flight x →
      Dies chain chain x (dying_by t (climbs (record { layout = l; shape = shape; slot = slot; before = b; taken = k; at = at.Ended; event = e }) (parent_of chain)))
  climbs_on [] x e slot b k none some more = over_on [] x e none (omega (arith, some))
  climbs_on (p ∷ fs) x e slot b k none some more =
      asked_on (p ∷ fs) (p ∷ fs) x e p.slot b k (at.Resuming p.field) _ _ (let same : t.taken + taken_by e ≡ t.taken = omega (arith, none) in omega (arith, some)) (λ w. omega (arith, w, more))

  -- the next word was stored
  pub enters_on : (chain : List Frame) (found : ℕ) → Dies chain chain at.Entering (turned_at (Some found) (doings.Dying (dying_state l shape s before taken event at.Entering)) (quiet t))
  enters_on chain found = asked_on chain chain at.Entering None s before taken at.Naming _ _ (omega arith) (λ w. omega (arith, w))

  -- the name was read and told
  pub name_on : (chain : List Frame) (found : ℕ) → Dies chain chain at.Naming (turned_at (Some found) (doings.Dying (dying_state l shape s before taken event at.Naming)) (quiet t))
  name_on chain found = go (ltb 0 (field_count shape (isa_name_of found)))
    where
      go : (more : Bool) →
          Dies chain chain at.Naming
          ((λ (x : CascadeTurn). dying_asks x.after x.says (put (answers.Deinit (isa_name_of found)) (deinit_tells None (quiet t))))
          (cond more (asks (between None) (at.Looking (isa_name_of found) 0) (Load (number l (Field s 0)))) (asks (between None) at.Leaving (Load (number l (Next s))))))
      go true = let n = few (isa_name_of found) in record { layout = refl; phases = refl; program = refl; count = refl; phase = refl; inside = λ e. refl; past = λ f. tt; fewer = λ free. omega arith; waits = λ w. omega (arith, w) }
      go false = record { layout = refl; phases = refl; program = refl; count = refl; phase = refl; inside = λ e. refl; past = λ f. tt; fewer = λ free. omega arith; waits = λ w. omega (arith, w) }

  -- a field was read
  pub look_on : (chain : List Frame) (name : ObjectName) (f found : ℕ) → Dies chain chain (at.Looking name f) (turned_at (Some found) (doings.Dying (dying_state l shape s before taken event (at.Looking name f))) (quiet t))
  look_on chain name f found = go (eqb found 0)
    where
      go : (nil : Bool) →
          Dies chain chain (at.Looking name f)
          (dying_by t (cond nil (looks (between None) name (f + 1)) (asks (between None) (at.Taking name f (found - 2)) (Store (number l (Field s f)) 0))))
      go true = looks_on chain chain (at.Looking name f) None s before taken name (f + 1) (λ inside. omega (arith, inside)) (omega arith) (λ w. omega (arith, w))
      go false = asked_on chain chain (at.Looking name f) None s before taken (at.Taking name f (found - 2)) _ _ (omega arith) (λ w. omega (arith, w))

  -- it was set to nil, and what it referred to is dropped
  pub take_on : (chain : List Frame) (name : ObjectName) (f place found : ℕ) → t.taken < 2 ^ 31 →
      Dies chain chain (at.Taking name f place) (turned_at (Some found) (doings.Dying (dying_state l shape s before taken event (at.Taking name f place))) (quiet t))
  take_on chain name f place found left_over = go (field_kind shape name f)
    where
      go : (kind : Kind) →
          Dies chain chain (at.Taking name f place)
          (dying_by t (drops_by (record { layout = l; shape = shape; slot = s; before = before; taken = taken + 1; at = at.Ended; event = Some (acts.Take s f (before + taken + 1)) }) name f (drop_turn (drop_from l (before + taken + 1) kind place) None)))
      go kinds.Strong = asked_on chain chain (at.Taking name f place) (Some (acts.Take s f (before + taken + 1))) s before (taken + 1) (at.Dropping name f _) _ _ (omega (arith, left_over)) (λ w. omega (arith, w))
      go kinds.Unowned = asked_on chain chain (at.Taking name f place) (Some (acts.Take s f (before + taken + 1))) s before (taken + 1) (at.Dropping name f _) _ _ (omega (arith, left_over)) (λ w. omega (arith, w))
      go kinds.Weak = asked_on chain chain (at.Taking name f place) (Some (acts.Take s f (before + taken + 1))) s before (taken + 1) (at.Dropping name f _) _ _ (omega (arith, left_over)) (λ w. omega (arith, w))

  -- ---- the drop of what was taken

  -- the place of a drop that counts down
  abbrev counting : ObjectName → ℕ → (hand : ℕ) → Kind → (place : ℕ) → Option Act → AttemptAt → At
  counting name f hand kind place ev x = at.Dropping name f (dropping_one l hand kind place ev (drops.Counting (drop_plan l place kind x)))

  -- what a turn of the drop makes of the thread and of the deinits that wait
  abbrev pub Drops : List Frame → ObjectName → ℕ → At → DropTurn → Type 0
  Drops chain name f x y = Dies chain (chained_by (dying_state l shape s before taken event x) name f y.says chain) x (dying_by t (drops_by (between y.after.event) name f y))

  module _ (chain : List Frame) (name : ObjectName) (f hand place : ℕ) (ev : Option Act) where
    -- it is over
    done_on : (kind : Kind) (x : AttemptAt) (e : Option Act) → taken_by e ≡ 0 → 5 + (field_count shape name - (f + 1)) + 14 * length chain < cascade_left words shape chain (counting name f hand kind place ev x) →
        Dies chain chain (counting name f hand kind place ev x) (dying_by t (looks (between e) name (f + 1)))
    done_on kind x e none some =
        let same : t.taken + taken_by e ≡ t.taken = omega (arith, none) in
        looks_on chain chain (counting name f hand kind place ev x) e s before taken name (f + 1) (λ inside. omega (arith, some)) (omega (arith, some)) (λ w. omega (arith, w))

    pub drop_read : (kind : Kind) → after ≡ words → Drops chain name f (counting name f hand kind place ev attempt.Loading) (drop_turn (dropping_one l hand kind place ev (drops.Counting (drop_plan l place kind attempt.Loading))) (Some (count_at words l place)))
    drop_read kind same = go kind
      where
        w : ℕ
        w = count_at words l place

        Read : Kind → Option ℕ → Choice DownAnswer → Type 0
        Read k e r =
            Drops chain name f (counting name f hand k place ev attempt.Loading)
            (counted_on (dropping_one l hand k place None drops.Ended) (turned_by down_moved (drop_plan l place k attempt.Loading) (down_in (drop_plan l place k attempt.Loading) e) (exchanging w r))
            (answer_by down_place (down_in (drop_plan l place k attempt.Loading) e) (chosen (number l (Count place)) w r)))

        more : (k : Kind) → Read k None (Tell (downs.More None))
        more k = done_on k attempt.Loading (Some (acts.Drop hand false)) refl (omega arith)

        slow : (k : Kind) (e : ℕ) (r : Choice DownAnswer) → Read k (Some e) r
        slow k e r = asked_on chain chain (counting name f hand k place ev attempt.Loading) None s before taken (at.Dropping name f _) _ _ (omega arith) (λ v. omega (arith, v))

        writes : (k : Kind) (new : ℕ) → Read k None (Write new)
        writes k new = asked_on chain chain (counting name f hand k place ev attempt.Loading) None s before taken (at.Dropping name f _) _ _ (rw (same, eqb_same w) (omega arith)) (λ v. omega (arith, v))

        strongly : (o : Option Word) → Read kinds.Strong (entry_named o) (told_as of_strong_down (strong_down_row o))
        strongly None = more kinds.Strong
        strongly (Some word.Free) = more kinds.Strong
        strongly (Some word.Immortal) = more kinds.Strong
        strongly (Some (word.Slow e)) = slow kinds.Strong e (Tell (downs.More None))
        strongly (Some (word.Counts c)) = writes kinds.Strong (packed (word.Counts (strong_less c)))

        unownedly : (o : Option Word) → Read kinds.Unowned (entry_named o) (told_as of_unowned_down (unowned_down_row o))
        unownedly None = more kinds.Unowned
        unownedly (Some word.Free) = more kinds.Unowned
        unownedly (Some word.Immortal) = more kinds.Unowned
        unownedly (Some (word.Slow e)) = slow kinds.Unowned e (Tell (downs.More None))
        unownedly (Some (word.Counts c)) = writes kinds.Unowned (packed (word.Counts (unowned_less c)))

        weakly : (o : Option Word) → Read kinds.Weak (entry_named o) (Tell (downs.More None))
        weakly None = more kinds.Weak
        weakly (Some word.Free) = more kinds.Weak
        weakly (Some word.Immortal) = more kinds.Weak
        weakly (Some (word.Slow e)) = slow kinds.Weak e (Tell (downs.More None))
        weakly (Some (word.Counts c)) = more kinds.Weak

        go : (k : Kind) → Drops chain name f (counting name f hand k place ev attempt.Loading) (drop_turn (dropping_one l hand k place ev (drops.Counting (drop_plan l place k attempt.Loading))) (Some w))
        go kinds.Strong = strongly (unpacked w)
        go kinds.Unowned = unownedly (unpacked w)
        go kinds.Weak = weakly (unpacked w)

    pub drop_made : (kind : Kind) (seen new : ℕ) →
        Drops chain name f (counting name f hand kind place ev (attempt.Exchanging seen new)) (drop_turn (dropping_one l hand kind place ev (drops.Counting (drop_plan l place kind (attempt.Exchanging seen new)))) (Some (count_at words l place)))
    drop_made kind seen new = go (eqb (count_at words l place) seen) refl
      where
        Made : Kind → DownAnswer → Type 0
        Made k a = Drops chain name f (counting name f hand k place ev (attempt.Exchanging seen new)) (counted_on (dropping_one l hand k place None drops.Ended) (drop_plan l place k attempt.Ended) (nexts.Done a))

        more : (k : Kind) → eqb (count_at words l place) seen ≡ true → Made k (downs.More None)
        more k e = done_on k (attempt.Exchanging seen new) (Some (acts.Drop hand false)) refl (rw e (omega arith))

        -- the object dies, and this deinit waits
        dies_last : (b : Bool) → eqb (count_at words l place) seen ≡ true → Made kinds.Strong (of_strong_down (cond b strong_downs.Last strong_downs.More))
        dies_last true e =
            asked_on chain (record { slot = s; name = name; field = f + 1 } ∷ chain) (counting name f hand kinds.Strong place ev (attempt.Exchanging seen new)) (Some (acts.Drop hand true)) place before taken at.Entering _ _ (rw e (omega arith)) (λ w. omega (arith, w))
        dies_last false e = more kinds.Strong e

        -- its slot ends
        ends_last : (b : Bool) → eqb (count_at words l place) seen ≡ true → Made kinds.Unowned (of_unowned_down (cond b less.Last less.More))
        ends_last true e =
            asked_on chain chain (counting name f hand kinds.Unowned place ev (attempt.Exchanging seen new)) (Some (acts.Drop hand true)) s before taken (at.Dropping name f _) _ _ (rw e (omega arith)) (λ w. omega (arith, w))
        ends_last false e = more kinds.Unowned e

        strongly : (o : Option Word) → eqb (count_at words l place) seen ≡ true → Made kinds.Strong (of_strong_down (strong_down_end o))
        strongly None e = more kinds.Strong e
        strongly (Some word.Free) e = more kinds.Strong e
        strongly (Some word.Immortal) e = more kinds.Strong e
        strongly (Some (word.Slow x)) e = more kinds.Strong e
        strongly (Some (word.Counts c)) e = dies_last (eqb c.strong_extra 0) e

        unownedly : (o : Option Word) → eqb (count_at words l place) seen ≡ true → Made kinds.Unowned (of_unowned_down (unowned_down_end o))
        unownedly None e = more kinds.Unowned e
        unownedly (Some word.Free) e = more kinds.Unowned e
        unownedly (Some word.Immortal) e = more kinds.Unowned e
        unownedly (Some (word.Slow x)) e = more kinds.Unowned e
        unownedly (Some (word.Counts c)) e = ends_last (eqb c.unowned 1) e

        hit : (k : Kind) → eqb (count_at words l place) seen ≡ true → Made k (down_end_at None k seen)
        hit kinds.Strong e = strongly (unpacked seen) e
        hit kinds.Unowned e = unownedly (unpacked seen) e
        hit kinds.Weak e = more kinds.Weak e

        go : (b : Bool) → eqb (count_at words l place) seen ≡ b → Made kind (cond b (down_end_at None kind seen) (downs.Again (record { seen = seen; found = count_at words l place })))
        go true e = hit kind e
        go false e = asked_on chain chain (counting name f hand kind place ev (attempt.Exchanging seen new)) None s before taken (at.Dropping name f _) _ _ (rw e (omega arith)) (λ w. omega (arith, w))

    -- the slot of an object is vacated to which the last unowned reference was taken
    pub drop_ended : (kind : Kind) (found : ℕ) →
        Drops chain name f (at.Dropping name f (dropping_one l hand kind place ev (drops.Ending (slot_ending l place)))) (drop_turn (dropping_one l hand kind place ev (drops.Ending (slot_ending l place))) (Some found))
    drop_ended kind found =
        looks_on chain chain (at.Dropping name f (dropping_one l hand kind place ev (drops.Ending (slot_ending l place)))) (Some (acts.Vacate place)) s before taken name (f + 1) (λ inside. omega arith) (omega arith) (λ w. omega (arith, w))

  -- ---- the end of the deinit

  -- the next word was read
  pub leave_on : (chain : List Frame) (found : ℕ) → Dies chain chain at.Leaving (turned_at (Some found) (doings.Dying (dying_state l shape s before taken event at.Leaving)) (quiet t))
  leave_on chain found = asked_on chain chain at.Leaving None s before taken (at.Finishing (parent_in found) (drop_plan l s kinds.Unowned attempt.Loading)) _ _ (omega arith) (λ w. omega (arith, w))

  abbrev finishing : Option Parent → AttemptAt → At
  finishing parent x = at.Finishing parent (drop_plan l s kinds.Unowned x)

  module _ (chain : List Frame) (parent : Option Parent) (is : parent ≡ parent_of chain) where
    pub finish_read : after ≡ words → Dies chain chain (finishing parent attempt.Loading) (turned_at (Some (count_at words l s)) (doings.Dying (dying_state l shape s before taken event (finishing parent attempt.Loading))) (quiet t))
    finish_read same = go (unpacked (count_at words l s))
      where
        w : ℕ
        w = count_at words l s

        Read : Option ℕ → Choice DownAnswer → Type 0
        Read e r =
            Dies chain chain (finishing parent attempt.Loading)
            (dying_by t (finishes (between None) parent (turned_by down_moved (drop_plan l s kinds.Unowned attempt.Loading) (down_in (drop_plan l s kinds.Unowned attempt.Loading) e) (exchanging w r))
            (answer_by down_place (down_in (drop_plan l s kinds.Unowned attempt.Loading) e) (chosen (number l (Count s)) w r))))

        more : Read None (Tell (downs.More None))
        more = rw is (climbs_on chain (finishing (parent_of chain) attempt.Loading) (Some (acts.Finish s false)) s before taken refl (omega arith) (omega arith))

        go : (o : Option Word) → Read (entry_named o) (told_as of_unowned_down (unowned_down_row o))
        go None = more
        go (Some word.Free) = more
        go (Some word.Immortal) = more
        go (Some (word.Slow e)) = asked_on chain chain (finishing parent attempt.Loading) None s before taken (at.Finishing parent _) _ _ (omega arith) (λ v. omega (arith, v))
        go (Some (word.Counts c)) = asked_on chain chain (finishing parent attempt.Loading) None s before taken (at.Finishing parent _) _ _ (rw (same, eqb_same w) (omega arith)) (λ v. omega (arith, v))

    pub finish_made : (seen new : ℕ) →
        Dies chain chain (finishing parent (attempt.Exchanging seen new)) (turned_at (Some (count_at words l s)) (doings.Dying (dying_state l shape s before taken event (finishing parent (attempt.Exchanging seen new)))) (quiet t))
    finish_made seen new = go (eqb (count_at words l s) seen) refl
      where
        Made : DownAnswer → Type 0
        Made a = Dies chain chain (finishing parent (attempt.Exchanging seen new)) (dying_by t (finishes (between None) parent (drop_plan l s kinds.Unowned attempt.Ended) (nexts.Done a)))

        more : eqb (count_at words l s) seen ≡ true → Made (downs.More None)
        more e = rw is (climbs_on chain (finishing (parent_of chain) (attempt.Exchanging seen new)) (Some (acts.Finish s false)) s before taken refl (rw e (omega arith)) (omega arith))

        counted : (b : Bool) → eqb (count_at words l s) seen ≡ true → Made (of_unowned_down (cond b less.Last less.More))
        counted true e = asked_on chain chain (finishing parent (attempt.Exchanging seen new)) (Some (acts.Finish s true)) s before taken (at.Ending parent _) _ _ (rw e (omega arith)) (λ v. omega (arith, v))
        counted false e = more e

        hit : (o : Option Word) → eqb (count_at words l s) seen ≡ true → Made (of_unowned_down (unowned_down_end o))
        hit None e = more e
        hit (Some word.Free) e = more e
        hit (Some word.Immortal) e = more e
        hit (Some (word.Slow x)) e = more e
        hit (Some (word.Counts c)) e = counted (eqb c.unowned 1) e

        go : (b : Bool) → eqb (count_at words l s) seen ≡ b → Made (cond b (of_unowned_down (unowned_down_end (unpacked seen))) (downs.Again (record { seen = seen; found = count_at words l s })))
        go true e = hit (unpacked seen) e
        go false e = asked_on chain chain (finishing parent (attempt.Exchanging seen new)) None s before taken (at.Finishing parent _) _ _ (rw e (omega arith)) (λ v. omega (arith, v))

    -- its slot is vacated
    pub end_on : (found : ℕ) → Dies chain chain (at.Ending parent (slot_ending l s)) (turned_at (Some found) (doings.Dying (dying_state l shape s before taken event (at.Ending parent (slot_ending l s)))) (quiet t))
    end_on found = rw is (climbs_on chain (at.Ending (parent_of chain) (slot_ending l s)) (Some (acts.Vacate s)) s before taken refl (omega arith) (omega arith))

  -- the name of the one that waited was read again
  pub resume_on : (chain : List Frame) (f found : ℕ) → Dies chain (rest_of chain) (at.Resuming f) (turned_at (Some found) (doings.Dying (dying_state l shape s before taken event (at.Resuming f))) (quiet t))
  resume_on chain f found =
      let n = few (isa_name_of found) in
      looks_on chain (rest_of chain) (at.Resuming f) None s before taken (isa_name_of found) f (λ inside. omega arith) (omega arith) (λ w. omega (arith, w))
