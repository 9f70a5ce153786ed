-- Which of the last duties' tokens a pass has after a call.
use Rattle.std.proofs.Common.{◌≡◌, ℕ, ◌<◌, false, [], refl, sym, ap, ◌∙◌, subst}
use Rattle.arc_model.specs.Shapes.{HeapShape, class_at}
use Rattle.arc_model.specs.Heaps.{Object}
use Rattle.arc_model.specs.History.{IsLegal}
use Rattle.arc_model.proofs.Basics.{Some-inj}
use Rattle.arc_view.specs.declared.view.Working.{Working}
use Rattle.arc_view.specs.declared.view.View.{View}
use Rattle.arc_view.proofs.Strongs.{slot_found}
use Rattle.arc_table.specs.declared.tokens.Strong.{Strong as Token}
use Rattle.arc_table.specs.declared.tokens.Dying.{Dying}
use Rattle.arc_table.specs.declared.tokens.Release.{Release}
use Rattle.arc_table.specs.declared.tokens.Release.TheVariants as releases
use Rattle.arc_table.specs.declared.ends.Finish.{Finish}
use Rattle.arc_table.specs.declared.ends.Finish.TheVariants as finishes
use Rattle.arc_table.specs.Tokens.{IsHeld, IsOwed, IsReleased, release_act}
use Rattle.arc_view_laws.specs.Having.{IsDyingOf}
use Rattle.arc_table.specs.Calls.{works_after}
use Rattle.arc_table.specs.Ends.{HasNoField, finish_act}
use Rattle.arc_table.proofs.StrongCalls.{makes_new}

-- the duty that the last release leaves
pub released_owed : (shape : HeapShape) (held : Token) (d : Dying) (v w : View) → IsHeld shape v held → IsReleased shape held v w (releases.Last d) → IsOwed shape w d
released_owed shape held d v w h r = (subst (λ s. s < shape.slots) (sym r.0) h.0, (h.1.0, r.1 h.1.0 h.1.1))

-- a slot is in one object, so that one class that has no field is enough
pub no_field : (shape : HeapShape) (v : View) (s class : ℕ) → IsLegal shape v.seen → IsDyingOf v s class → (class_at shape class).fields ≡ [] → HasNoField shape v s
no_field shape v s class legal (i, o, here, duty, slot, is) bare other (j, q, there, owed, in_it, its) =
    let same : o ≡ q = Some-inj (sym (slot_found shape v.seen i s o legal here slot) ∙ slot_found shape v.seen j s q legal there in_it) in
    ap (λ c. (class_at shape c).fields) (sym (sym is ∙ (ap (λ (x : Object). x.class) same ∙ its))) ∙ bare

-- the end of a deinit leaves what name is owed
pub finish_owes : (shape : HeapShape) (d : Dying) (r : Finish) (w : Working) → (works_after shape (finish_act d r) w).owes ≡ w.owes
finish_owes shape d finishes.More w = refl
finish_owes shape d (finishes.Last f) w = refl
finish_owes shape d (finishes.Again t c) w = refl

-- neither a release, nor the end of a deinit or of a slot makes an object
pub release_old : (held : Token) (r : Release) → makes_new (release_act held r) ≡ false
release_old held releases.More = refl
release_old held (releases.Last d) = refl
release_old held (releases.Again t c) = refl

pub finish_old : (d : Dying) (r : Finish) → makes_new (finish_act d r) ≡ false
finish_old d finishes.More = refl
finish_old d (finishes.Last t) = refl
finish_old d (finishes.Again t c) = refl
