-- The name of an object has its place in an isa word.
use Rattle.std.proofs.Common.{◌≡◌, ◌⊎◌, inl, inr, ℕ, zero, suc, ◌+◌, ◌*◌, ◌/◌, ◌%◌, ◌<◌, ◌≤◌, ◌==◌, cond, List, [], ◌∷◌, Some, refl, ap, ◌∙◌, arith, eq-eqb}
use Rattle.std.specs.Prelude.{slice_get}
use Rattle.std.proofs.lemmas.Bool.{cases_lt}
use Rattle.std.proofs.lemmas.List.Sums.{sum_by-cons}
use Rattle.arc_model.specs.declared.event.ObjectName.{ObjectName}
use Rattle.arc_model.specs.Shapes.{HeapShape}
use Rattle.arc_model.specs.Heaps.{Object}
use Rattle.arc_model.specs.Holders.{made_by}
use Rattle.arc_model.specs.History.{History, heap_after}
use Rattle.arc_model.specs.References.{name_of}
use Rattle.arc_model.proofs.Basics.{None≢Some, Some-inj}
use Rattle.arc_rule.specs.Isa.{IsName, IsIsaWord, isa_word_of, isa_name_of}
use Rattle.arc_view.specs.Holding.{At}
use Rattle.arc_view.specs.Rule.{InShape, IsSized, news}
use Rattle.arc_view.proofs.Classes.{made_named, news_named}

made_some : (p : ℕ) (os : List Object) (i : ℕ) (o : Object) → slice_get os i ≡ Some o → o.id.thread ≡ p → 1 ≤ made_by p os
made_some p [] i o e is = absurd (None≢Some o e)
made_some p (r ∷ os) zero o e is =
    let c = sum_by-cons (λ (x : Object). cond (x.id.thread == p) 1 0) r os in
    let one : cond (r.id.thread == p) 1 0 ≡ suc zero = ap (λ (x : Object). cond (x.id.thread == p) 1 zero) (Some-inj e) ∙ ap (λ b. cond b 1 zero) (eq-eqb o.id.thread p is) in
    omega arith
made_some p (r ∷ os) (suc i) o e is = let c = sum_by-cons (λ (x : Object). cond (x.id.thread == p) 1 0) r os in let h = made_some p os i o e is in omega arith

pub is_name : (shape : HeapShape) (h : History) (i : ℕ) (o : Object) → IsSized shape → InShape shape h → At (heap_after h) i o → IsName (name_of o)
is_name shape h i o sized within here = record {
  class = (let a = (within.classes i o here).0 in let b = sized.shape_fits.classes_fit in omega arith);
  thread = small;
  number = (within.classes i o here).1;
}
  where
    count_is : made_by o.id.thread (heap_after h).objects ≡ news o.id.thread h
    count_is = made_named o.id.thread (heap_after h).objects ∙ news_named o.id.thread h

    small : o.id.thread < 256
    small = at (cases_lt 64 o.id.thread)
      where
        at : (64 < o.id.thread) ⊎ (o.id.thread ≤ 64) → o.id.thread < 256
        at (inl lt) = let none = within.makers o.id.thread lt in let some = made_some o.id.thread (heap_after h).objects i o here refl in let is = count_is in absurd (omega arith)
        at (inr le) = omega arith

pub name_back : (name : ObjectName) → IsName name → name ≡ isa_name_of (isa_word_of name)
name_back name n =
    let c = n.class in
    let t = n.thread in
    let class : (name.class + 256 * name.thread + 65536 * name.number) % 256 ≡ name.class = omega arith in
    let thread : (name.class + 256 * name.thread + 65536 * name.number) / 256 % 256 ≡ name.thread = omega arith in
    let number : (name.class + 256 * name.thread + 65536 * name.number) / 65536 ≡ name.number = omega arith in
    rw (class, thread, number) refl

pub is_isa : (name : ObjectName) → IsName name → IsIsaWord (isa_word_of name)
is_isa name n =
    let c = n.class in
    let t = n.thread in
    let k = n.number in record {
      below = omega arith;
      class = (let class : (name.class + 256 * name.thread + 65536 * name.number) % 256 ≡ name.class = omega arith in omega arith);
    }
