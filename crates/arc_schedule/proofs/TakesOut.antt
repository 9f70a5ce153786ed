-- A deinit reads a field, and takes what it finds out of it.
use Rattle.std.proofs.Common.{◌≡◌, ◌≢◌, ℕ, ◌+◌, ◌-◌, ◌<◌, ◌≤◌, Bool, true, false, cond, eqb, List, ◌∷◌, Option, Some, None, refl, sym, ap, subst, ◌∙◌, arith}
use Rattle.std.proofs.lemmas.Bool.{eqb-true, eqb-false}
use Rattle.std.proofs.lemmas.Option.{same_Some}
use Rattle.std.specs.Prelude.{All}
use Rattle.arc_model.specs.declared.event.Act.{Act}
use Rattle.arc_model.specs.declared.event.Act.TheVariants as acts
use Rattle.arc_model.specs.declared.event.ObjectName.{ObjectName}
use Rattle.arc_model.specs.declared.shape.Kind.{Kind}
use Rattle.arc_model.specs.declared.shape.Kind.TheVariants.{Strong, Unowned, Weak}
use Rattle.arc_model.specs.Shapes.{HeapShape}
use Rattle.arc_rule.specs.Places.{number, extent_of}
use Rattle.arc_rule.specs.declared.layout.Place.TheVariants.{Count, Field}
use Rattle.arc_rule.specs.declared.step.Step.{Step}
use Rattle.arc_rule.specs.declared.step.Step.TheVariants as steps
use Rattle.arc_rule.specs.declared.step.Intent.TheVariants as intents
use Rattle.arc_side.specs.Inline.{IsCountedInline}
use Rattle.arc_side.specs.Downs.{Fall, down_turned}
use Rattle.arc_side.specs.declared.down.DownAnswer.{DownAnswer}
use Rattle.arc_cells.specs.declared.cascade.At.TheVariants as at
use Rattle.arc_cells.specs.declared.ref_drop.At.TheVariants as drops_at
use Rattle.arc_cells.specs.Chains.{Frame}
use Rattle.arc_cells.specs.Drops.{Dropping, IsPlaceOf, drop_from, drop_begins, count_from}
use Rattle.arc_cells.specs.Cascades.{CascadeTurn, field_kind, IsCellWord, turn_at, asks, looks, has_taken, drops_by}
use Rattle.arc_served.specs.Served.{IsServedClass}
use Rattle.arc_ops.specs.Thread.{Thread}
use Rattle.arc_ops.specs.declared.stepper.Doing.TheVariants.{Dying}
use Rattle.arc_ops.specs.declared.stepper.Move.TheVariants as moves
use Rattle.arc_schedule.specs.Made.{Point, Made, made_at}
use Rattle.arc_schedule.specs.Plans.{Plan, down}
use Rattle.arc_schedule.specs.Plans.Starts.{first as starts_first}
use Rattle.arc_schedule.specs.Operations.{loads, takes_out}
use Rattle.arc_schedule.specs.Operations.FieldsDone.{nil as field_nil}
use Rattle.arc_schedule.proofs.Given.{Waits, waits, begun-from}
use Rattle.arc_schedule.proofs.Deinits.{InFields, IsLooking, IsTaking}
use Rattle.arc_schedule.proofs.Tells.{idle}
use Rattle.arc_schedule.proofs.Lasts.{Lasts}
use Rattle.arc_schedule.proofs.Turning.{field-counted, state, Left, goes, looks-on}

-- a served reference leads to a slot
leads-to-slot : (shape : HeapShape) (kind : Kind) (place : ℕ) → IsCountedInline kind → IsPlaceOf (extent_of shape) kind place → place < shape.slots
leads-to-slot shape Strong place counted is = is
leads-to-slot shape Unowned place counted is = is
leads-to-slot shape Weak place counted is = absurd counted

module _ (shape : HeapShape) (point : Point) (Over : ℕ → List Made → Type 0) (t : Thread) (Goal : List Frame → Thread → List Made → Type 0) (x : Lasts shape point Over t Goal) (s : Step) (w : ℕ) (now : List Made) (classes : All IsServedClass shape.classes) where
  -- a field that is nil is done, and one that isn't is to be
  pub looks-at : (chain : List Frame) (slot before taken : ℕ) (name : ObjectName) (field : ℕ) → before + taken ≡ t.hands → IsLooking shape point Over chain slot name field t.hands (Some s) now → IsCellWord (extent_of shape) (field_kind shape name field) (Some w) →
      Left shape point Over t Goal x s w now chain (turn_at (state shape slot before taken at.Ended None) (Some w) (at.Looking name field))
  looks-at chain slot before taken name field came p word = go (eqb w 0) refl
    where
      read : made_at point s w None ≡ loads shape point (Field slot field) w
      read = let e = same_Some s _ p.asks in rw e refl

      look : CascadeTurn
      look = looks (state shape slot before taken at.Ended None) name (field + 1)

      take : CascadeTurn
      take = asks (state shape slot before taken at.Ended None) (at.Taking name field (w - 2)) (steps.Store (number (extent_of shape) (Field slot field)) 0)

      go : (b : Bool) → eqb w 0 ≡ b → Left shape point Over t Goal x s w now chain (cond b look take)
      go true is =
          let zero_is : w ≡ 0 = eqb-true w 0 is in
          let same : loads shape point (Field slot field) 0 ∷ now ≡ made_at point s w None ∷ now = sym (ap (λ (m : Made). m ∷ now) (read ∙ ap (λ (n : ℕ). loads shape point (Field slot field) n) zero_is)) in
          let all : InFields shape point Over chain slot name (field + 1) t.hands (made_at point s w None ∷ now) =
          subst (λ (ms : List Made). InFields shape point Over chain slot name (field + 1) t.hands ms) same (record { begun = p.fields.begun; done = field_nil p.fields.done }) in
          (looks-on shape point Over t Goal x s w now chain slot before taken at.Ended None name (field + 1) t.hands t.kept (omega arith) came (let i = p.inside in omega arith) all).0
      go false is =
          let some : w ≢ 0 = eqb-false w 0 is in
          let two : 2 ≤ w = (word some).0 in
          let back : w - 2 + 2 ≡ w = omega arith in
          goes shape point Over t Goal x s w now chain take.after t.hands (steps.Store (number (extent_of shape) (Field slot field)) 0) (intents.Deinit slot) t.kept (omega arith) (record {
            layout = refl;
            shape_is = refl;
            came = came;
            place = record {
              inside = p.inside;
              before = now;
              fields = p.fields;
              now_is = ap (λ (m : Made). m ∷ now) (read ∙ ap (λ (n : ℕ). loads shape point (Field slot field) n) (sym back));
              place_in = leads-to-slot shape (field_kind shape name field) (w - 2) (field-counted shape name field classes p.inside) (word some).1;
              asks = refl;
            };
          })

  -- the field is nil, and what it referred to is dropped
  pub takes-it : (chain : List Frame) (slot before taken : ℕ) (name : ObjectName) (field place : ℕ) → before + taken ≡ t.hands → IsTaking shape point Over chain slot name field place t.hands (Some s) now →
      Left shape point Over t Goal x s w now chain (turn_at (state shape slot before taken at.Ended None) (Some w) (at.Taking name field place))
  takes-it chain slot before taken name field place came p = go (field_kind shape name field) refl (field-counted shape name field classes p.inside)
    where
      hand : ℕ
      hand = before + taken + 1

      event : Option Act
      event = Some (acts.Take slot field (before + taken + 1))

      -- the drop of a reference of this kind
      begun : Kind → Dropping
      begun kind = drop_from (extent_of shape) hand kind place

      counting : Kind → Dropping
      counting kind = record (begun kind) { at = drops_at.Counting (down_turned (count_from (begun kind)) None) }

      At : Kind → Type 0
      At kind = Left shape point Over t Goal x s w now chain (drops_by (has_taken (state shape slot before taken at.Ended None) field) name field (drop_begins (record (begun kind) { at = drops_at.Ended; event = None }) kind))

      falls : (kind : Kind) → field_kind shape name field ≡ kind →
          Goal chain
          (record (idle t) { doing = Dying (state shape slot before (taken + 1) (at.Dropping name field (counting kind)) event); asked = moves.Step (steps.Load (number (extent_of shape) (Count place))) (intents.Drop hand); event = event; hands = t.hands + 1; taken = t.taken + 1 })
          (made_at point s w event ∷ now)
      falls kind is = goes shape point Over t Goal x s w now chain (state shape slot before (taken + 1) (at.Dropping name field (counting kind)) event) (t.hands + 1)
          (steps.Load (number (extent_of shape) (Count place))) (intents.Drop hand) t.kept refl (record {
            layout = refl;
            shape_is = refl;
            came = omega arith;
            place = record {
              inside = p.inside;
              held = t.hands;
              before = p.before;
              fields = p.fields;
              hands_are = refl;
              found = w;
              place_in = p.place_in;
              drop = rw (is, ← came) refl;
              up_to = record { plan = rw is refl; waits = rw (is, ← came) waiting };
            };
          })
        where
          plan : Plan Fall DownAnswer
          plan = down (extent_of shape) kind place hand

          base : List Made
          base = takes_out shape point slot field hand w ∷ loads shape point (Field slot field) (place + 2) ∷ p.before

          after_is : made_at point s w event ∷ now ≡ base
          after_is = let e = same_Some s _ p.asks in rw (e, p.now_is) refl

          waiting : Waits plan point base (made_at point s w event ∷ now) (down_turned (count_from (begun kind)) None) (Some (steps.Load (number (extent_of shape) (Count place))))
          waiting =
              subst (λ (ms : List Made). Waits plan point base ms (down_turned (count_from (begun kind)) None) (Some (steps.Load (number (extent_of shape) (Count place))))) (sym after_is)
              (waits plan point base base _ _ (begun-from plan point base base (count_from (begun kind)) starts_first refl))

      go : (kind : Kind) → field_kind shape name field ≡ kind → IsCountedInline kind → At (field_kind shape name field)
      go Strong is counted = subst At (sym is) (falls Strong is)
      go Unowned is counted = subst At (sym is) (falls Unowned is)
      go Weak is counted = absurd counted
