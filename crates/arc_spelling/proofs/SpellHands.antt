-- Each reference that a deinit takes out of a field is dropped.
use Rattle.std.proofs.Common.{◌≡◌, ◌+◌, ℕ, true, List, ◌∷◌, refl, arith}
use Rattle.arc_model.specs.declared.event.ObjectName.{ObjectName}
use Rattle.arc_model.specs.declared.shape.Kind.{Kind}
use Rattle.arc_model.specs.Shapes.{HeapShape}
use Rattle.arc_spelling.specs.Spelling.{Note, is_fact, hands_of, FieldsDone, IsEnd, IsDrop, IsCascade}
use Rattle.arc_spelling.specs.Spelling.Note.{Did, Line, Operation, Name, Entry, NeedsEntry, Nil, Refers}
use Rattle.arc_spelling.specs.Spelling.IsEnd.{inline, gone_more, gone_last}
use Rattle.arc_spelling.specs.Spelling.FieldsDone.{named, noted, nil, taken}
use Rattle.arc_spelling.specs.Spelling.IsDrop.{more, last_strong, last_unowned, last_weak}
use Rattle.arc_spelling.specs.Spelling.IsCascade.{finish_more, finish_last}
use Rattle.arc_spelling.specs.SpellingLaws.{drops_in, HandsAreDropped}

fact-hands : (n : Note) (ns : List Note) → is_fact n ≡ true → hands_of (n ∷ ns) ≡ hands_of ns
fact-hands (Did a) ns e = absurd cc
fact-hands (Line a) ns e = absurd cc
fact-hands (Operation k) ns e = absurd cc
fact-hands (Name s name) ns e = refl
fact-hands (Entry s o) ns e = refl
fact-hands (NeedsEntry s l) ns e = refl
fact-hands (Nil c) ns e = refl
fact-hands (Refers c kind place) ns e = refl

fact-drops : (n : Note) (ns : List Note) → is_fact n ≡ true → drops_in (n ∷ ns) ≡ drops_in ns
fact-drops (Did a) ns e = absurd cc
fact-drops (Line a) ns e = absurd cc
fact-drops (Operation k) ns e = absurd cc
fact-drops (Name s name) ns e = refl
fact-drops (Entry s o) ns e = refl
fact-drops (NeedsEntry s l) ns e = refl
fact-drops (Nil c) ns e = refl
fact-drops (Refers c kind place) ns e = refl

end-hands : {slot : ℕ} {b ns : List Note} → IsEnd slot b ns → hands_of ns + drops_in b ≡ hands_of b + drops_in ns
end-hands inline = omega arith
end-hands gone_more = omega arith
end-hands gone_last = omega arith

mutual
  fields-hands : {slot f : ℕ} {shape : HeapShape} {name : ObjectName} {b ns : List Note} → FieldsDone shape slot name f b ns → hands_of ns + drops_in b ≡ hands_of b + drops_in ns
  fields-hands named = omega arith
  fields-hands (noted {n = n} {ns = ns} d e) = let h = fields-hands d in let a = fact-hands n ns e in let c = fact-drops n ns e in omega arith
  fields-hands (nil d l e) = let h = fields-hands d in omega arith
  fields-hands (taken d l e k x) = let h = fields-hands d in let g = drop-hands x in omega arith

  drop-hands : {place k : ℕ} {shape : HeapShape} {kind : Kind} {b ns : List Note} → IsDrop shape kind place k b ns → hands_of ns + drops_in b + 1 ≡ hands_of b + drops_in ns
  drop-hands more = omega arith
  drop-hands (last_strong c) = let h = cascade-hands c in omega arith
  drop-hands (last_unowned x) = let h = end-hands x in omega arith
  drop-hands last_weak = omega arith

  cascade-hands : {slot : ℕ} {shape : HeapShape} {b ns : List Note} → IsCascade shape slot b ns → hands_of ns + drops_in b ≡ hands_of b + drops_in ns
  cascade-hands (finish_more d e) = let h = fields-hands d in omega arith
  cascade-hands (finish_last d e x) = let h = fields-hands d in let g = end-hands x in omega arith

pub hands_dropped : HandsAreDropped
hands_dropped = record { cascades = λ shape slot before after c. cascade-hands c; drops = λ shape kind place k before after x. drop-hands x }
