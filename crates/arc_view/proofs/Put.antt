-- Which number an option has, and where an object is referred to.
use Rattle.std.proofs.Common.{◌≡◌, ℕ, true, false, Option, Some, None}
use Rattle.arc_model.specs.declared.shape.Kind.{Kind}
use Rattle.arc_model.specs.declared.shape.Kind.TheVariants as kinds
use Rattle.arc_model.specs.Heaps.{Object}
use Rattle.arc_model.specs.Holders.{is_number}
use Rattle.arc_model.specs.References.{place_of}

pub is_number_some : (m : Option ℕ) (s : ℕ) → is_number m s ≡ true → m ≡ Some s
is_number_some None s e = absurd (no_true e)
  where
    no_true : false ≡ true → ⊥
    no_true e = cc
is_number_some (Some t) s e = search (Rattle.std.proofs.Common.rules)

pub place_same : (k : Kind) (o q : Object) → q.slot ≡ o.slot → q.entry ≡ o.entry → place_of k q ≡ place_of k o
place_same kinds.Strong o q s e = s
place_same kinds.Unowned o q s e = s
place_same kinds.Weak o q s e = e
