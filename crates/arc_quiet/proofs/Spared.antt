-- The events of a drop end none of the hands that stand aside, and those of a gain none at all.
use Rattle.std.proofs.Common.{◌≡◌, ◌+◌, ◌≤◌, ◌==◌, ℕ, Bool, true, false, List, [], ◌∷◌, ◌++◌, Some, refl, ap, ◌∙◌, arith}
use Rattle.std.specs.List.{list_all}
use Rattle.std.proofs.lemmas.Bool.{and_parts, eqb-true}
use Rattle.arc_model.specs.declared.event.ObjectName.{ObjectName}
use Rattle.arc_model.specs.declared.event.Act.{Act}
use Rattle.arc_model.specs.declared.event.Act.TheVariants as acts
use Rattle.arc_model.specs.declared.shape.Kind.{Kind}
use Rattle.arc_model.specs.Shapes.{HeapShape}
use Rattle.arc_model.specs.Own.{ends_hand}
use Rattle.arc_model.specs.History.{brings}
use Rattle.arc_spelling.specs.Spelling.{Note, is_fact, hands_of, one_more_if, FieldsDone, IsEnd, IsDrop, IsCascade}
use Rattle.arc_spelling.specs.Spelling.Note.{Did, Line, Operation, Name, Entry, NeedsEntry, Nil, Refers}
use Rattle.arc_spelling.specs.Spelling.IsEnd.{inline, gone_more, gone_last}
use Rattle.arc_spelling.specs.Spelling.FieldsDone.{named, noted, nil, taken}
use Rattle.arc_spelling.specs.Spelling.IsDrop.{more as drop_more, last_strong, last_unowned, last_weak}
use Rattle.arc_spelling.specs.Spelling.IsCascade.{finish_more, finish_last}
use Rattle.arc_spelling.specs.SpellingGains.{Spare, IsReady, IsSettled, IsRefused}
use Rattle.arc_spelling.specs.SpellingGains.IsReady.{start, noted as ready_noted, claimed, published}
use Rattle.arc_spelling.specs.SpellingGains.IsSettled.{unclaimed, published as stays_published, given_back}
use Rattle.arc_spelling.specs.SpellingGains.IsRefused.{no_entry}
use Rattle.arc_model.proofs.Tally.{clash}
use Rattle.arc_model.proofs.Others.{false-if}
use Rattle.arc_quiet.proofs.Pasts.{Passing, Spares, spares-both}
use Rattle.arc_quiet.proofs.Pasts.Spares.{here, more}

-- no hand is put into a cell
abbrev pub puts_none : Act → Bool
puts_none (acts.Swap c (Some h) k) = false
puts_none _ = true

-- an act that ends no hand of these, and puts none into a cell
pub record Leaves (these : ℕ → Bool) (a : Act) : Type 0 where
  pub hands : (j : ℕ) → these j ≡ true → ends_hand j a ≡ false
  pub puts : puts_none a ≡ true

pub fact-passes : (P : Act → Type 0) (n : Note) → is_fact n ≡ true → Passing P n
fact-passes P (Did a) e = absurd cc
fact-passes P (Line a) e = absurd cc
fact-passes P (Operation k) e = absurd cc
fact-passes P (Name s name) e = tt
fact-passes P (Entry s o) e = tt
fact-passes P (NeedsEntry s l) e = tt
fact-passes P (Nil c) e = tt
fact-passes P (Refers c kind place) e = tt

fact-hands : (n : Note) (ns : List Note) → is_fact n ≡ true → hands_of (n ∷ ns) ≡ hands_of ns
fact-hands (Did a) ns e = absurd cc
fact-hands (Line a) ns e = absurd cc
fact-hands (Operation k) ns e = absurd cc
fact-hands (Name s name) ns e = refl
fact-hands (Entry s o) ns e = refl
fact-hands (NeedsEntry s l) ns e = refl
fact-hands (Nil c) ns e = refl
fact-hands (Refers c kind place) ns e = refl

one-more-le : (b : Bool) (n m : ℕ) → n ≤ m → n ≤ one_more_if b m
one-more-le true n m h = omega arith
one-more-le false n m h = h

pub spares-grow : (P : Act → Type 0) {b ns : List Note} → Spares P b ns → hands_of b ≤ hands_of ns
spares-grow P here = omega arith
spares-grow P {b = b} (more {n = n} {ns = ns} s x) = go n (spares-grow P s)
  where
    go : (n : Note) → hands_of b ≤ hands_of ns → hands_of b ≤ hands_of (n ∷ ns)
    go (Did a) h = one-more-le (brings a) (hands_of b) (hands_of ns) h
    go (Line a) h = h
    go (Operation k) h = h
    go (Name s name) h = h
    go (Entry s o) h = h
    go (NeedsEntry s l) h = h
    go (Nil c) h = h
    go (Refers c kind place) h = h

-- an act that ends no hand at all
pub leaves-all : (these : ℕ → Bool) (a : Act) → ((j : ℕ) → ends_hand j a ≡ false) → puts_none a ≡ true → Leaves these a
leaves-all these a e p = record { hands = λ j t. e j; puts = p }

drop-leaves : (these : ℕ → Bool) (k : ℕ) (last : Bool) → these k ≡ false → Leaves these (acts.Drop k last)
drop-leaves these k last away = record { hands = λ j t. false-if (k == j) (λ e. clash (these k) (ap these (eqb-true k j e) ∙ t) away); puts = refl }

end-spares : (these : ℕ → Bool) {slot : ℕ} {b ns : List Note} → IsEnd slot b ns → Spares (Leaves these) b ns
end-spares these (inline {slot = slot}) = more (more here tt) (leaves-all these (acts.Vacate slot) (λ j. refl) refl)
end-spares these (gone_more {slot = slot} {entry = entry}) = more (more (more here tt) (leaves-all these (acts.Vacate slot) (λ j. refl) refl)) (leaves-all these (acts.Gone entry false) (λ j. refl) refl)
end-spares these (gone_last {slot = slot} {entry = entry}) =
    more (more (more (more here tt) (leaves-all these (acts.Vacate slot) (λ j. refl) refl)) (leaves-all these (acts.Gone entry true) (λ j. refl) refl)) (leaves-all these (acts.Back entry) (λ j. refl) refl)

-- these hands all came before
abbrev pub Before : (ℕ → Bool) → List Note → Type 0
Before these b = (j : ℕ) → these j ≡ true → j ≤ hands_of b

later-away : (these : ℕ → Bool) (b ns : List Note) (k : ℕ) → Before these b → hands_of b ≤ hands_of ns → k ≡ hands_of ns + 1 → these k ≡ false
later-away these b ns k before grown is = false-if (these k) (λ t. let l = before k t in omega (arith, l, grown, is))

mutual
  fields-spare : (these : ℕ → Bool) {slot f : ℕ} {shape : HeapShape} {name : ObjectName} {b ns : List Note} → Before these b → FieldsDone shape slot name f b ns → Spares (Leaves these) b ns
  fields-spare these old named = more (more here tt) tt
  fields-spare these old (noted {n = n} d e) = more (fields-spare these old d) (fact-passes (Leaves these) n e)
  fields-spare these old (nil d l e) = more (fields-spare these old d) tt
  fields-spare these {b = b} old (taken {slot = slot} {f = f} {k = k} {ns = ns} d l e is x) =
      let s = fields-spare these old d in
      let grown = spares-grow (Leaves these) s in
      let t : Spares (Leaves these) b (Did (acts.Take slot f k) ∷ Refers _ _ _ ∷ ns) = more (more s tt) (leaves-all these (acts.Take slot f k) (λ j. refl) refl) in
      spares-both t (drop-spares these (λ j y. let a = old j y in omega (arith, a, grown)) (later-away these b ns k old grown is) x)

  pub drop-spares : (these : ℕ → Bool) {place k : ℕ} {shape : HeapShape} {kind : Kind} {b ns : List Note} → Before these b → these k ≡ false → IsDrop shape kind place k b ns → Spares (Leaves these) b ns
  drop-spares these old away (drop_more {k = k}) = more here (drop-leaves these k false away)
  drop-spares these old away (last_strong {k = k} c) = spares-both (more here (drop-leaves these k true away)) (cascade-spares these old c)
  drop-spares these old away (last_unowned {k = k} x) = spares-both (more here (drop-leaves these k true away)) (end-spares these x)
  drop-spares these old away (last_weak {entry = entry} {k = k}) = more (more here (drop-leaves these k true away)) (leaves-all these (acts.Back entry) (λ j. refl) refl)

  cascade-spares : (these : ℕ → Bool) {slot : ℕ} {shape : HeapShape} {b ns : List Note} → Before these b → IsCascade shape slot b ns → Spares (Leaves these) b ns
  cascade-spares these old (finish_more {slot = slot} d e) = more (fields-spare these old d) (leaves-all these (acts.Finish slot false) (λ j. refl) refl)
  cascade-spares these old (finish_last {slot = slot} d e x) = spares-both (more (fields-spare these old d) (leaves-all these (acts.Finish slot true) (λ j. refl) refl)) (end-spares these x)

-- ---- gains

pub ready-spares : (these : ℕ → Bool) {source : Kind} {slot : ℕ} {list : Kind} {spare : Spare} {b ns : List Note} → IsReady source slot list spare b ns → Spares (Leaves these) b ns
ready-spares these start = here
ready-spares these (ready_noted {n = n} r e) = more (ready-spares these r) (fact-passes (Leaves these) n e)
ready-spares these (claimed {entry = entry} r e) = more (more (ready-spares these r) tt) (leaves-all these (acts.Claim entry) (λ j. refl) refl)
ready-spares these {slot = slot} {list = list} (published {entry = entry} r) = more (ready-spares these r) (leaves-all these (acts.Side slot entry list) (λ j. refl) refl)

pub settled-spares : (these : ℕ → Bool) {spare : Spare} {b ns : List Note} → IsSettled spare b ns → Spares (Leaves these) b ns
settled-spares these unclaimed = here
settled-spares these stays_published = here
settled-spares these (given_back {entry = entry}) = more here (leaves-all these (acts.Back entry) (λ j. refl) refl)

pub read-spares : (these : ℕ → Bool) (read : List Note) {ns : List Note} → list_all is_fact read ≡ true → Spares (Leaves these) ns (read ++ ns)
read-spares these [] e = here
read-spares these (n ∷ read) e = let a = and_parts (is_fact n) (list_all is_fact read) e in more (read-spares these read a.1) (fact-passes (Leaves these) n a.0)

pub refused-spares : (these : ℕ → Bool) {source : Kind} {slot : ℕ} {list : Kind} {b ns : List Note} → IsRefused source slot list b ns → Spares (Leaves these) b ns
refused-spares these (no_entry r e) = more (more (ready-spares these r) tt) (leaves-all these acts.NoEntry (λ j. refl) refl)
