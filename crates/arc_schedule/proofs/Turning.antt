-- A turn of a deinit, what it leaves, and where it looks on.
use Rattle.std.proofs.Common.{◌≡◌, ◌≢◌, ℕ, zero, suc, ◌+◌, ◌*◌, ◌-◌, ◌<◌, ◌≤◌, Bool, true, false, cond, eqb, ltb, List, [], ◌∷◌, length, Option, Some, None, ◌⊎◌, inl, inr, refl, sym, subst, arith}
use Rattle.std.proofs.lemmas.Bool.{ltb-true, ltb-false, eqb-true, eqb-false, cases_lt}
use Rattle.std.proofs.lemmas.List.{get_or_past}
use Rattle.std.specs.Prelude.{All, ◌/◌, ◌%◌}
use Rattle.std.proofs.lemmas.List.Elements.{All-nil, All-get_or}
use Rattle.arc_model.specs.declared.event.Act.{Act}
use Rattle.arc_model.specs.declared.event.ObjectName.{ObjectName}
use Rattle.arc_model.specs.declared.shape.Kind.TheVariants.{Strong}
use Rattle.arc_model.specs.Shapes.{HeapShape, ObjectClass, class_at}
use Rattle.arc_model.specs.References.{field_count}
use Rattle.arc_rule.specs.Isa.{isa_word_of, isa_name_of}
use Rattle.arc_rule.specs.Places.{number, extent_of}
use Rattle.arc_rule.specs.declared.layout.Place.TheVariants.{Next as NextPlace, Field}
use Rattle.arc_rule.specs.declared.step.Step.{Step}
use Rattle.arc_rule.specs.declared.step.Step.TheVariants as steps
use Rattle.arc_rule.specs.declared.step.Intent.{Intent}
use Rattle.arc_rule.specs.declared.step.Intent.TheVariants as intents
use Rattle.arc_side.specs.Inline.{IsCountedInline}
use Rattle.arc_cells.specs.declared.parent.Parent.{Parent}
use Rattle.arc_cells.specs.declared.cascade.At.{At as CascadeAt}
use Rattle.arc_cells.specs.declared.cascade.At.TheVariants as at
use Rattle.arc_cells.specs.Chains.{Frame, next_word_of, parent_in}
use Rattle.arc_cells.specs.Cascades.{CascadeState, CascadeTurn, field_kind, asks, looks}
use Rattle.arc_served.specs.Kept.{Kept}
use Rattle.arc_served.specs.Served.{IsServedRef, IsServedClass}
use Rattle.arc_ops.specs.Thread.{Thread}
use Rattle.arc_ops.specs.Drops.{dying_asks, dying_on, taken_by, deinit_tells}
use Rattle.arc_ops.specs.declared.stepper.Doing.TheVariants.{Dying}
use Rattle.arc_ops.specs.declared.stepper.Move.TheVariants as moves
use Rattle.arc_schedule.specs.Made.{Point, Made, made_at}
use Rattle.arc_schedule.proofs.Deinits.{InFields, IsDying}
use Rattle.arc_schedule.proofs.Tells.{idle}
use Rattle.arc_schedule.proofs.Lasts.{Lasts}

-- ---- words

-- an isa word is that of the name that it has
pub word-named : (w : ℕ) → isa_word_of (isa_name_of w) ≡ w
word-named w =
    let whole : w % 256 + 256 * (w / 256 % 256) + 65536 * (w / 65536) ≡ w = omega arith in
    whole

-- and a next word that of the deinit that it names
pub word-of-parent : (w : ℕ) → next_word_of (parent_in w) ≡ w
word-of-parent w = go (eqb w 0) refl
  where
    named : Parent
    named = record { slot = (w - 1) / 16; field = (w - 1) % 16 }

    go : (b : Bool) → eqb w 0 ≡ b → next_word_of (cond b None (Some named)) ≡ w
    go true e = sym (eqb-true w 0 e)
    go false e = let some = eqb-false w 0 e in let more : 1 ≤ w = positive w some in omega arith
      where
        positive : (n : ℕ) → n ≢ 0 → 1 ≤ n
        positive zero none = absurd (none refl)
        positive (suc n) none = omega arith

-- ---- what fields refer to

-- the references of a field are counted in the inline word
pub field-counted : (shape : HeapShape) (name : ObjectName) (field : ℕ) → All IsServedClass shape.classes → field < field_count shape name → IsCountedInline (field_kind shape name field)
field-counted shape name field classes inside =
    All-get_or IsServedRef (class_at shape name.class).fields field (record { kind = Strong; class = 0 }) inside (go (cases_lt name.class (length shape.classes)))
  where
    go : (name.class < length shape.classes) ⊎ (length shape.classes ≤ name.class) → All IsServedRef (class_at shape name.class).fields
    go (inl within) = All-get_or IsServedClass shape.classes name.class (record { fields = []; immortal = false }) within classes
    go (inr past) =
        let none : class_at shape name.class ≡ record { fields = []; immortal = false } = get_or_past shape.classes name.class (record { fields = []; immortal = false }) past in
        subst (λ (c : ObjectClass). All IsServedRef c.fields) (sym none) (All-nil IsServedRef)

-- ---- a turn

-- a deinit in the heap
abbrev pub state : HeapShape → (slot before taken : ℕ) → CascadeAt → Option Act → CascadeState
state shape slot before taken a e = record { layout = extent_of shape; shape = shape; slot = slot; before = before; taken = taken; at = a; event = e }

module _ (shape : HeapShape) (point : Point) (Over : ℕ → List Made → Type 0) (t : Thread) (Goal : List Frame → Thread → List Made → Type 0) (x : Lasts shape point Over t Goal) (s : Step) (w : ℕ) (now : List Made) where
  -- what is behind the turn
  abbrev pub Left : List Frame → CascadeTurn → Type 0
  Left chain turn = Goal chain (dying_on turn.after turn.says (deinit_tells turn.after.event (idle t))) (made_at point s w turn.after.event ∷ now)

  -- it asks for a step
  pub goes : (chain : List Frame) (c : CascadeState) (hands : ℕ) (step : Step) (intent : Intent) (kept : Kept) → hands ≡ t.hands + taken_by c.event → IsDying shape point Over chain c hands (Some step) (made_at point s w c.event ∷ now) →
      Goal chain (record (idle t) { doing = Dying c; asked = moves.Step step intent; event = c.event; kept = kept; hands = t.hands + taken_by c.event; taken = t.taken + taken_by c.event }) (made_at point s w c.event ∷ now)
  goes chain c hands step intent kept same u =
      x.dies chain c (moves.Step step intent) c.event kept (t.hands + taken_by c.event) (t.taken + taken_by c.event) (made_at point s w c.event ∷ now)
      (subst (λ (n : ℕ). IsDying shape point Over chain c n (Some step) (made_at point s w c.event ∷ now)) same u) (refl, refl)

  -- the fields below this one are done, and it looks on, where a line stands as well
  pub looks-on : (chain : List Frame) (slot before taken : ℕ) (a : CascadeAt) (e : Option Act) (name : ObjectName) (field hands : ℕ) (kept : Kept) → hands ≡ t.hands + taken_by e → before + taken ≡ hands → field ≤ field_count shape name →
      InFields shape point Over chain slot name field hands (made_at point s w e ∷ now) →
      Left chain (looks (state shape slot before taken a e) name field)
      × Goal chain (dying_asks (looks (state shape slot before taken a e) name field).after (looks (state shape slot before taken a e) name field).says (record (deinit_tells e (idle t)) { kept = kept })) (made_at point s w e ∷ now)
  looks-on chain slot before taken a e name field hands kept same came most fields = go (ltb field (field_count shape name)) refl
    where
      c : CascadeState
      c = state shape slot before taken a e

      look : CascadeTurn
      look = asks c (at.Looking name field) (steps.Load (number (extent_of shape) (Field slot field)))

      leave : CascadeTurn
      leave = asks c at.Leaving (steps.Load (number (extent_of shape) (NextPlace slot)))

      Both : CascadeTurn → Type 0
      Both turn = Left chain turn × Goal chain (dying_asks turn.after turn.says (record (deinit_tells e (idle t)) { kept = kept })) (made_at point s w e ∷ now)

      go : (b : Bool) → ltb field (field_count shape name) ≡ b → Both (cond b look leave)
      go true is =
          let u : IsDying shape point Over chain look.after hands (Some (steps.Load (number (extent_of shape) (Field slot field)))) (made_at point s w e ∷ now) =
          record { layout = refl; shape_is = refl; came = came; place = record { inside = ltb-true field (field_count shape name) is; fields = fields; asks = refl } } in
          (goes chain look.after hands _ (intents.Deinit slot) t.kept same u, goes chain look.after hands _ (intents.Deinit slot) kept same u)
      go false is =
          let past = ltb-false field (field_count shape name) is in
          let whole : field ≡ field_count shape name = omega arith in
          let all : InFields shape point Over chain slot name (field_count shape name) hands (made_at point s w e ∷ now) = subst (λ (n : ℕ). InFields shape point Over chain slot name n hands (made_at point s w e ∷ now)) whole fields in
          let u : IsDying shape point Over chain leave.after hands (Some (steps.Load (number (extent_of shape) (NextPlace slot)))) (made_at point s w e ∷ now) =
          record { layout = refl; shape_is = refl; came = came; place = record { name = name; fields = all; asks = refl } } in
          (goes chain leave.after hands _ (intents.Deinit slot) t.kept same u, goes chain leave.after hands _ (intents.Deinit slot) kept same u)
