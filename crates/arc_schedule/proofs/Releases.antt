-- What a deinit took out of a field is dropped: one of several, the last unowned one, whose slot ends, or the last strong one, whose object
-- dies while this deinit waits.
use Rattle.std.proofs.Common.{◌≡◌, ℕ, ◌+◌, ◌-◌, ◌<◌, true, false, List, ◌∷◌, Option, Some, None, refl, sym, subst, arith}
use Rattle.std.specs.Prelude.{All}
use Rattle.arc_model.specs.declared.event.Act.{Act}
use Rattle.arc_model.specs.declared.event.Act.TheVariants as acts
use Rattle.arc_model.specs.declared.event.ObjectName.{ObjectName}
use Rattle.arc_model.specs.declared.shape.Kind.{Kind}
use Rattle.arc_model.specs.declared.shape.Kind.TheVariants.{Strong, Unowned, Weak}
use Rattle.arc_model.specs.Shapes.{HeapShape}
use Rattle.arc_model.specs.References.{field_count}
use Rattle.arc_rule.specs.Places.{number, extent_of}
use Rattle.arc_rule.specs.declared.layout.Place.TheVariants.{Count, Next as NextPlace, Field}
use Rattle.arc_rule.specs.declared.plan.Next.{Next}
use Rattle.arc_rule.specs.declared.plan.Next.TheVariants as nexts
use Rattle.arc_rule.specs.declared.step.Step.{Step}
use Rattle.arc_rule.specs.declared.step.Step.TheVariants as steps
use Rattle.arc_rule.specs.declared.step.Intent.{Intent}
use Rattle.arc_rule.specs.declared.step.Intent.TheVariants as intents
use Rattle.arc_rule.specs.declared.attempt.At.{At}
use Rattle.arc_rule.specs.Attempts.{turned_by, turned_at as attempt_turned}
use Rattle.arc_plan.specs.Slots.{OneStep}
use Rattle.arc_plan.specs.declared.slots.Once.TheVariants as onces
use Rattle.arc_side.specs.Inline.{IsCountedInline, entry_met}
use Rattle.arc_side.specs.Downs.{Fall, down_in, down_moved, down_choice, down_turned, down_answer}
use Rattle.arc_side.specs.declared.down.DownAnswer.{DownAnswer}
use Rattle.arc_side.specs.declared.down.DownAnswer.TheVariants as downs
use Rattle.arc_side.specs.SlotEnds.{SlotEnding, vacates, slot_end_from, slot_end_turn}
use Rattle.arc_cells.specs.declared.cascade.At.TheVariants as at
use Rattle.arc_cells.specs.declared.ref_drop.At.{At as DropAt}
use Rattle.arc_cells.specs.declared.ref_drop.At.TheVariants as drops_at
use Rattle.arc_cells.specs.Chains.{Frame, next_word_of}
use Rattle.arc_cells.specs.Drops.{Dropping, DropTurn, count_from, counted_on, has_emptied, drop_turn}
use Rattle.arc_cells.specs.Cascades.{field_kind, looks, drops_by}
use Rattle.arc_deinits.specs.Stands.{chained_by}
use Rattle.arc_served.specs.Served.{IsServedClass}
use Rattle.arc_ops.specs.Thread.{Thread}
use Rattle.arc_ops.specs.declared.stepper.Doing.TheVariants.{Dying}
use Rattle.arc_ops.specs.declared.stepper.Move.TheVariants as moves
use Rattle.arc_ops.specs.Drops.{dying_on, taken_by, deinit_tells}
use Rattle.arc_schedule.specs.Made.{Point, Made, made_at}
use Rattle.arc_schedule.specs.Plans.{Plan, Gives, down, down_told, told_by, vacate}
use Rattle.arc_schedule.specs.Plans.Starts.{first as starts_first}
use Rattle.arc_schedule.specs.Operations.{loads, takes_out, reference_to, resumed, Drops, FieldsDone}
use Rattle.arc_schedule.specs.Operations.SlotEnds.{bare as slot_ends}
use Rattle.arc_schedule.specs.Operations.Drops.{more as drops_more, last as drops_last, last_unowned as drops_last_unowned}
use Rattle.arc_schedule.specs.Operations.FieldsDone.{taken_out}
use Rattle.arc_schedule.proofs.Given.{Gave, Waits, waits, begun-from, given, gives, starts-again}
use Rattle.arc_schedule.proofs.Deinits.{InFields, IsReleasing, IsLastUnowned, DropUpTo, IsBare}
use Rattle.arc_schedule.proofs.Deinits.Chained.{under}
use Rattle.arc_schedule.proofs.Tells.{idle}
use Rattle.arc_schedule.proofs.Lasts.{Lasts}
use Rattle.arc_schedule.proofs.Turning.{field-counted, state, Left, goes, looks-on}

-- the count of a list in the inline word of a slot
abbrev pub inline-fall : HeapShape → Kind → (place : ℕ) → At → Fall
inline-fall shape kind place a = record { layout = extent_of shape; slot = place; list = kind; entry = None; at = a }

-- it goes on there where it meets no entry
stays-inline : (shape : HeapShape) (kind : Kind) (place w : ℕ) (a : At) → (down_turned (inline-fall shape kind place a) (Some w)).entry ≡ None →
    down_turned (inline-fall shape kind place a) (Some w) ≡ inline-fall shape kind place (down_turned (inline-fall shape kind place a) (Some w)).at
stays-inline shape kind place w a none = go (entry_met None a (Some w)) none
  where
    turned : Option ℕ → Fall
    turned met = turned_by down_moved (inline-fall shape kind place a) (down_in (inline-fall shape kind place a) met) (attempt_turned (down_choice (inline-fall shape kind place a)) a w)

    go : (met : Option ℕ) → (turned met).entry ≡ None → turned met ≡ inline-fall shape kind place (turned met).at
    go None none = refl
    go (Some e) none = absurd (cc)

module _ (shape : HeapShape) (point : Point) (Over : ℕ → List Made → Type 0) (t : Thread) (Goal : List Frame → Thread → List Made → Type 0) (x : Lasts shape point Over t Goal) (s : Step) (w : ℕ) (now : List Made) (classes : All IsServedClass shape.classes) where
  -- the drop of what was in the field, where it is
  abbrev dropping : (kind : Kind) (place hand : ℕ) → DropAt → Option Act → Dropping
  dropping kind place hand a e = record { layout = extent_of shape; hand = hand; kind = kind; place = place; at = a; event = e }

  -- what a turn of the drop leaves of the deinit
  abbrev Leaves : List Frame → (slot before taken : ℕ) → ObjectName → (field : ℕ) → DropTurn → Type 0
  Leaves chain slot before taken name field turn =
      Goal (chained_by (state shape slot before taken at.Ended None) name field turn.says chain)
      (dying_on (drops_by (state shape slot before taken at.Ended turn.after.event) name field turn).after (drops_by (state shape slot before taken at.Ended turn.after.event) name field turn).says
      (deinit_tells (drops_by (state shape slot before taken at.Ended turn.after.event) name field turn).after.event (idle t)))
      (made_at point s w (drops_by (state shape slot before taken at.Ended turn.after.event) name field turn).after.event ∷ now)

  -- so it stays bare
  abbrev StaysBare : (slot before taken : ℕ) → ObjectName → (field : ℕ) → DropTurn → Type 0
  StaysBare slot before taken name field turn =
      IsBare (dying_on (drops_by (state shape slot before taken at.Ended turn.after.event) name field turn).after (drops_by (state shape slot before taken at.Ended turn.after.event) name field turn).says
      (deinit_tells (drops_by (state shape slot before taken at.Ended turn.after.event) name field turn).after.event (idle t))).doing

  module _ (chain : List Frame) (slot before taken : ℕ) (name : ObjectName) (field : ℕ) (came : before + taken ≡ t.hands) (inside : field < field_count shape name) (held : ℕ) (earlier : List Made) (fields : InFields shape point Over chain slot name field held earlier)
      (hands_are : t.hands ≡ held + 1) (found place : ℕ) (place_in : place < shape.slots) (kind : Kind) (kind_is : field_kind shape name field ≡ kind) where
    -- the steps behind which the drop begins
    abbrev base : List Made
    base = takes_out shape point slot field (held + 1) found ∷ loads shape point (Field slot field) (place + 2) ∷ earlier

    counted : IsCountedInline kind
    counted = subst IsCountedInline kind_is (field-counted shape name field classes inside)

    -- the field is done where the reference is dropped
    done : (hands : ℕ) (ms : List Made) → Drops shape point (record { slot = slot; name = name; field = field + 1 } ∷ chain) (reference_to (held + 1) kind place) (held + 1) base hands ms →
        FieldsDone shape point chain slot name fields.begun.hands fields.begun.base (field + 1) hands ms
    done hands ms d =
        let back : place + 2 - 2 ≡ place = omega arith in
        taken_out {word = place + 2} {found = found} fields.done (λ e. (let y : place + 2 ≡ 0 = e in omega arith)) (
        subst (λ (n : ℕ). Drops shape point (record { slot = slot; name = name; field = field + 1 } ∷ chain) (reference_to (held + 1) (field_kind shape name field) n) (held + 1) base hands ms) (sym back)
        (subst (λ (k : Kind). Drops shape point (record { slot = slot; name = name; field = field + 1 } ∷ chain) (reference_to (held + 1) k place) (held + 1) base hands ms) (sym kind_is) d))

    -- and the deinit looks on
    looks-behind : (e : Option Act) → t.hands ≡ t.hands + taken_by e → Drops shape point (record { slot = slot; name = name; field = field + 1 } ∷ chain) (reference_to (held + 1) kind place) (held + 1) base (held + 1) (made_at point s w e ∷ now) →
        Left shape point Over t Goal x s w now chain (looks (state shape slot before taken at.Ended e) name (field + 1))
    looks-behind e none d =
        (looks-on shape point Over t Goal x s w now chain slot before taken at.Ended e name (field + 1) t.hands t.kept none came (omega (arith, inside))
        (subst (λ (n : ℕ). InFields shape point Over chain slot name (field + 1) n (made_at point s w e ∷ now)) (sym hands_are) (record { begun = fields.begun; done = done (held + 1) (made_at point s w e ∷ now) d }))).0

    -- the drop asks for a step
    drops-on : (a : DropAt) (e : Option Act) (step : Step) (intent : Intent) → t.hands ≡ t.hands + taken_by e → DropUpTo shape point kind place (held + 1) base (made_at point s w e ∷ now) (Some step) a →
        Goal chain
        (record (idle t) { doing = Dying (state shape slot before taken (at.Dropping name field (dropping kind place (held + 1) a e)) e); asked = moves.Step step intent; event = e; hands = t.hands + taken_by e; taken = t.taken + taken_by e })
        (made_at point s w e ∷ now)
    drops-on a e step intent none u =
        goes shape point Over t Goal x s w now chain (state shape slot before taken (at.Dropping name field (dropping kind place (held + 1) a e)) e) t.hands step intent t.kept none (record {
          layout = refl;
          shape_is = refl;
          came = came;
          place = record {
            inside = inside;
            held = held;
            before = earlier;
            fields = fields;
            hands_are = hands_are;
            found = found;
            place_in = place_in;
            drop = rw kind_is refl;
            up_to = subst (λ (k : Kind). DropUpTo shape point k place (held + 1) base (made_at point s w e ∷ now) (Some step) a) (sym kind_is) u;
          };
        })

    abbrev falling : Plan Fall DownAnswer
    falling = down (extent_of shape) kind place (held + 1)

    none-taken : t.hands ≡ t.hands + 0
    none-taken = omega arith

    was-last : (entry : Option ℕ) (k : Kind) → kind ≡ k → Gives falling point base (downs.Last entry) (made_at point s w (Some (acts.Drop (held + 1) true)) ∷ now) →
        StaysBare slot before taken name field (has_emptied (dropping kind place (held + 1) drops_at.Ended (Some (acts.Drop (held + 1) true))) k entry) →
        Leaves chain slot before taken name field (has_emptied (dropping kind place (held + 1) drops_at.Ended (Some (acts.Drop (held + 1) true))) k entry)
    was-last entry Strong is g bare =
        goes shape point Over t Goal x s w now (record { slot = slot; name = name; field = field + 1 } ∷ chain) (state shape place before taken at.Entering (Some (acts.Drop (held + 1) true))) t.hands
        (steps.Store (number (extent_of shape) (NextPlace place)) (next_word_of (Some (record { slot = slot; field = field + 1 })))) (intents.Deinit place) t.kept none-taken (record {
          layout = refl;
          shape_is = refl;
          came = came;
          place = record {
            begun = record {
              hands = held + 1;
              base = made_at point s w (Some (acts.Drop (held + 1) true)) ∷ now;
              waiting = under fields.begun.within (omega (arith, inside)) fields.begun.waiting
                  (λ hands ms y. done hands (resumed shape point (record { slot = slot; name = name; field = field + 1 } ∷ chain) ms) (
                  let strong : Gives (down (extent_of shape) Strong place (held + 1)) point base (downs.Last entry) (made_at point s w (Some (acts.Drop (held + 1) true)) ∷ now) =
                  subst (λ (c : Kind). Gives (down (extent_of shape) c place (held + 1)) point base (downs.Last entry) (made_at point s w (Some (acts.Drop (held + 1) true)) ∷ now)) is g in
                  subst (λ (c : Kind). Drops shape point (record { slot = slot; name = name; field = field + 1 } ∷ chain) (reference_to (held + 1) c place) (held + 1) base hands (resumed shape point (record { slot = slot; name = name; field = field + 1 } ∷ chain) ms)) (sym is)
                  (drops_last place_in strong y refl)));
              within = place_in;
            };
            hands_are = hands_are;
            now_is = refl;
            asks = refl;
          };
        })
    was-last (Some entry) Unowned is g bare = absurd (cc)
    was-last None Unowned is g bare =
        let ending : Plan OneStep (Unit {0}) = vacate (extent_of shape) place in
        let after : List Made = made_at point s w (Some (acts.Drop (held + 1) true)) ∷ now in
        drops-on (drops_at.Ending (slot_end_turn (slot_end_from (extent_of shape) place None) None).after) (Some (acts.Drop (held + 1) true)) (vacates (extent_of shape) place) intents.Vacate none-taken (record {
          kind_is = is;
          plan = refl;
          mid = after;
          counted = subst (λ (c : Kind). Gives (down (extent_of shape) c place (held + 1)) point base (downs.Last None) after) is g;
          waits = waits ending point after after _ _ (begun-from ending point after after ending.start starts_first refl);
        })
    was-last entry Weak is g bare = absurd (subst IsCountedInline is counted)

    counts-on : (r : Fall) → (r.entry ≡ None → r ≡ inline-fall shape kind place r.at) → (n : Next DownAnswer) → Gave falling point base (made_at point s w (told_by (down_told (held + 1)) n) ∷ now) n r →
        StaysBare slot before taken name field (counted_on (dropping kind place (held + 1) drops_at.Ended None) r n) → Leaves chain slot before taken name field (counted_on (dropping kind place (held + 1) drops_at.Ended None) r n)
    counts-on r shaped (nexts.Step z) g bare =
        drops-on (drops_at.Counting r) None z (intents.Drop (held + 1)) none-taken (record { plan = shaped bare; waits = waits falling point base (made_at point s w None ∷ now) r z g })
    counts-on r shaped (nexts.Done (downs.More entry)) g bare =
        looks-behind (Some (acts.Drop (held + 1) false)) none-taken (drops_more place_in counted (gives falling point base (made_at point s w (Some (acts.Drop (held + 1) false)) ∷ now) r (downs.More entry) refl g))
    counts-on r shaped (nexts.Done (downs.Last entry)) g bare = was-last entry kind refl (gives falling point base (made_at point s w (Some (acts.Drop (held + 1) true)) ∷ now) r (downs.Last entry) refl g) bare
    counts-on r shaped (nexts.Done (downs.Again c)) g bare =
        drops-on (drops_at.Counting (down_turned (count_from (dropping kind place (held + 1) drops_at.Ended None)) None)) None (steps.Load (number (extent_of shape) (Count place))) (intents.Drop (held + 1)) none-taken (record {
          plan = refl;
          waits = waits falling point base (made_at point s w None ∷ now) _ _
              (begun-from falling point base (made_at point s w None ∷ now) (count_from (dropping kind place (held + 1) drops_at.Ended None)) (starts-again falling point base (made_at point s w None ∷ now) r (downs.Again c) refl g) refl);
        })

    -- the slot of the last unowned one is vacated
    vacated : (p : SlotEnding) → IsLastUnowned shape point kind place (held + 1) base now p (Some s) → Leaves chain slot before taken name field (drop_turn (dropping kind place (held + 1) (drops_at.Ending p) None) (Some w))
    vacated p u =
        subst (λ (q : SlotEnding). Leaves chain slot before taken name field (drop_turn (dropping kind place (held + 1) (drops_at.Ending q) None) (Some w))) (sym u.plan)
        (looks-behind (Some (acts.Vacate place)) none-taken
        (subst (λ (c : Kind). Drops shape point (record { slot = slot; name = name; field = field + 1 } ∷ chain) (reference_to (held + 1) c place) (held + 1) base (held + 1) (made_at point s w (Some (acts.Vacate place)) ∷ now)) (sym u.kind_is)
        (drops_last_unowned place_in u.counted (slot_ends (gives (vacate (extent_of shape) place) point u.mid (made_at point s w (Some (acts.Vacate place)) ∷ now) _ tt refl
        (given (vacate (extent_of shape) place) point u.mid now (record { layout = extent_of shape; slot = place; at = onces.Asked }) s w u.waits))))))

    up-to : (a : DropAt) (e : Option Act) → DropUpTo shape point kind place (held + 1) base now (Some s) a → StaysBare slot before taken name field (drop_turn (dropping kind place (held + 1) a e) (Some w)) →
        Leaves chain slot before taken name field (drop_turn (dropping kind place (held + 1) a e) (Some w))
    up-to drops_at.Start e u bare = absurd u
    up-to (drops_at.Counting p) e u bare =
        let P : Fall → Type 0 = λ (q : Fall). Waits falling point base now q (Some s) → StaysBare slot before taken name field (drop_turn (dropping kind place (held + 1) (drops_at.Counting q) e) (Some w)) → Leaves chain slot before taken name field (drop_turn (dropping kind place (held + 1) (drops_at.Counting q) e) (Some w)) in
        subst P (sym u.plan) (λ waiting. counts-on (down_turned (inline-fall shape kind place p.at) (Some w)) (stays-inline shape kind place w p.at) (down_answer (inline-fall shape kind place p.at) (Some w))
        (given falling point base now (inline-fall shape kind place p.at) s w waiting)) u.waits bare
    up-to (drops_at.InEntry p) e u bare = absurd u
    up-to (drops_at.Ending p) e u bare = vacated p u
    up-to drops_at.Returning e u bare = absurd u
    up-to drops_at.Ended e u bare = absurd u

  pub releases : (chain : List Frame) (slot before taken : ℕ) (name : ObjectName) (field : ℕ) (d : Dropping) → before + taken ≡ t.hands → IsReleasing shape point Over chain slot name field d t.hands (Some s) now →
      StaysBare slot before taken name field (drop_turn d (Some w)) → Leaves chain slot before taken name field (drop_turn d (Some w))
  releases chain slot before taken name field d came p bare =
      let P : Dropping → Type 0 = λ (q : Dropping). StaysBare slot before taken name field (drop_turn q (Some w)) → Leaves chain slot before taken name field (drop_turn q (Some w)) in
      subst P (sym p.drop) (up-to chain slot before taken name field came p.inside p.held p.before p.fields p.hands_are p.found d.place p.place_in (field_kind shape name field) refl d.at d.event p.up_to) bare
