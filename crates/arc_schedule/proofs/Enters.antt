-- A deinit is entered, and its isa word is read: in the beginning, and again where it goes on behind another one.
use Rattle.std.proofs.Common.{◌≡◌, ℕ, ◌+◌, ◌≤◌, List, [], ◌∷◌, Some, None, refl, sym, ap, subst, ◌∙◌, arith}
use Rattle.std.proofs.lemmas.Option.{same_Some}
use Rattle.arc_model.specs.declared.event.ObjectName.{ObjectName}
use Rattle.arc_model.specs.declared.answer.Answer.TheVariants as answers
use Rattle.arc_model.specs.Shapes.{HeapShape}
use Rattle.arc_model.specs.References.{field_count}
use Rattle.arc_rule.specs.Isa.{isa_word_of, isa_name_of}
use Rattle.arc_rule.specs.Places.{number, extent_of}
use Rattle.arc_rule.specs.declared.layout.Place.TheVariants.{Isa, Next as NextPlace}
use Rattle.arc_rule.specs.declared.step.Step.{Step}
use Rattle.arc_rule.specs.declared.step.Step.TheVariants as steps
use Rattle.arc_rule.specs.declared.step.Intent.TheVariants as intents
use Rattle.arc_cells.specs.declared.cascade.At.TheVariants as at
use Rattle.arc_cells.specs.Chains.{Frame, next_word_of, parent_of, rest_of}
use Rattle.arc_cells.specs.Cascades.{turn_at}
use Rattle.arc_deinits.specs.Stands.{NamesFirst}
use Rattle.arc_ops.specs.Thread.{Thread, put}
use Rattle.arc_ops.specs.Drops.{deinit_tells}
use Rattle.arc_schedule.specs.Made.{Point, Made, made_at}
use Rattle.arc_schedule.specs.Operations.{loads, stores, FieldsDone}
use Rattle.arc_schedule.specs.Operations.FieldsDone.{entered}
use Rattle.arc_schedule.proofs.Deinits.{InFields, IsEntering, IsEntered, Resumes}
use Rattle.arc_schedule.proofs.Tells.{idle}
use Rattle.arc_schedule.proofs.Lasts.{Lasts}
use Rattle.arc_schedule.proofs.Turning.{word-named, state, Left, goes, looks-on}

module _ (shape : HeapShape) (point : Point) (Over : ℕ → List Made → Type 0) (t : Thread) (Goal : List Frame → Thread → List Made → Type 0) (x : Lasts shape point Over t Goal) (s : Step) (w : ℕ) (now : List Made) where
  pub enters : (chain : List Frame) (slot before taken : ℕ) → before + taken ≡ t.hands → IsEntering shape point Over chain slot t.hands (Some s) now →
      Left shape point Over t Goal x s w now chain (turn_at (state shape slot before taken at.Ended None) (Some w) at.Entering)
  enters chain slot before taken came p =
      goes shape point Over t Goal x s w now chain (state shape slot before taken at.Naming None) t.hands (steps.Load (number (extent_of shape) (Isa slot))) (intents.Deinit slot) t.kept (omega arith) (record {
        layout = refl;
        shape_is = refl;
        came = came;
        place = record { begun = p.begun; hands_are = p.hands_are; stored = w; now_is = (let e = same_Some s _ p.asks in rw (e, p.now_is) refl); asks = refl };
      })

  -- the line of the deinit stands, and it looks at the first field
  pub names : (chain : List Frame) (slot before taken : ℕ) → before + taken ≡ t.hands → IsEntered shape point Over chain slot t.hands (Some s) now →
      Left shape point Over t Goal x s w now chain (turn_at (state shape slot before taken at.Ended None) (Some w) at.Naming)
  names chain slot before taken came p =
      (looks-on shape point Over t Goal x s w now chain slot before taken at.Ended None name 0 t.hands (put (answers.Deinit name) (deinit_tells None (idle t))).kept (omega arith) came (omega arith) fields).1
    where
      name : ObjectName
      name = isa_name_of w

      done : FieldsDone shape point chain slot name p.begun.hands p.begun.base 0 p.begun.hands
          (loads shape point (Isa slot) (isa_word_of name) ∷ stores shape point (NextPlace slot) (next_word_of (parent_of chain)) p.stored ∷ p.begun.base)
      done = entered

      steps_are : loads shape point (Isa slot) (isa_word_of name) ∷ stores shape point (NextPlace slot) (next_word_of (parent_of chain)) p.stored ∷ p.begun.base ≡ made_at point s w None ∷ now
      steps_are = let e = same_Some s _ p.asks in let n = word-named w in rw (e, p.now_is, n) refl

      fields : InFields shape point Over chain slot name 0 t.hands (made_at point s w None ∷ now)
      fields = record {
        begun = p.begun;
        done = (
            let Q : ℕ → List Made → Type 0 = λ (n : ℕ) (ms : List Made). FieldsDone shape point chain slot name p.begun.hands p.begun.base 0 n ms in
            subst (λ (ms : List Made). Q t.hands ms) steps_are (subst (λ (n : ℕ). Q n (loads shape point (Isa slot) (isa_word_of name) ∷ stores shape point (NextPlace slot) (next_word_of (parent_of chain)) p.stored ∷ p.begun.base)) (sym p.hands_are) done));
      }

  -- the deinit that waits goes on, and waits no longer
  pub resumes : (chain : List Frame) (slot before taken field : ℕ) → before + taken ≡ t.hands → Resumes shape point Over chain slot field t.hands (Some s) now → NamesFirst chain (isa_name_of w) →
      Left shape point Over t Goal x s w now (rest_of chain) (turn_at (state shape slot before taken at.Ended None) (Some w) (at.Resuming field))
  resumes [] slot before taken field came p fits = absurd p
  resumes (f ∷ chain) slot before taken field came p fits =
      (looks-on shape point Over t Goal x s w now chain slot before taken at.Ended None (isa_name_of w) field t.hands t.kept (omega arith) came (subst (λ (n : ObjectName). field ≤ field_count shape n) (sym fits) (subst (λ (k : ℕ). k ≤ field_count shape f.name) (sym p.field_is) p.inside)) fields).0
    where
      word : w ≡ isa_word_of f.name
      word = sym (word-named w) ∙ ap isa_word_of fits

      fields : InFields shape point Over chain slot (isa_name_of w) field t.hands (made_at point s w None ∷ now)
      fields =
          let e = same_Some s _ p.asks in
          let steps_are : made_at point s w None ∷ now ≡ loads shape point (Isa f.slot) (isa_word_of f.name) ∷ now = rw (e, p.slot_is, word) refl in
          subst (λ (ms : List Made). InFields shape point Over chain slot (isa_name_of w) field t.hands ms) (sym steps_are)
          (subst (λ (n : ObjectName). InFields shape point Over chain slot n field t.hands (loads shape point (Isa f.slot) (isa_word_of f.name) ∷ now)) (sym fits)
          (subst (λ (k : ℕ). InFields shape point Over chain slot f.name k t.hands (loads shape point (Isa f.slot) (isa_word_of f.name) ∷ now)) (sym p.field_is)
          (subst (λ (k : ℕ). InFields shape point Over chain k f.name f.field t.hands (loads shape point (Isa f.slot) (isa_word_of f.name) ∷ now)) (sym p.slot_is) p.fields)))
