-- A spelled deinit tells its object and goes through every field, and a spelled gain leaves no claim open.
use Rattle.std.proofs.Common.{◌≡◌, ◌≤◌, ◌+◌, ◌==◌, ℕ, Bool, true, false, List, [], ◌∷◌, ◌++◌, refl, sym, ap, ◌∙◌, append_assoc, eq-eqb, arith}
use Rattle.std.specs.List.{list_all}
use Rattle.std.proofs.lemmas.Bool.{and_parts}
use Rattle.arc_model.specs.declared.event.ObjectName.{ObjectName}
use Rattle.arc_model.specs.declared.event.CellName.TheVariants as cells
use Rattle.arc_model.specs.declared.event.Act.{Act}
use Rattle.arc_model.specs.declared.shape.Kind.{Kind}
use Rattle.arc_model.specs.Shapes.{HeapShape}
use Rattle.arc_spelling.specs.Spelling.{Note, is_fact, one_more_if, deinits_of, FieldsDone, IsEnd, IsDrop, IsCascade}
use Rattle.arc_model.specs.References.{field_count}
use Rattle.arc_spelling.specs.Spelling.Note.{Did, Line, Operation, Name, Entry, NeedsEntry, Nil, Refers}
use Rattle.arc_spelling.specs.Spelling.IsEnd.{inline, gone_more, gone_last}
use Rattle.arc_spelling.specs.Spelling.FieldsDone.{named, noted, nil, taken}
use Rattle.arc_spelling.specs.Spelling.IsDrop.{more, last_strong, last_unowned, last_weak}
use Rattle.arc_spelling.specs.Spelling.IsCascade.{finish_more, finish_last}
use Rattle.arc_spelling.specs.SpellingGains.{Spare, IsReady, IsSettled, IsRefused}
use Rattle.arc_spelling.specs.SpellingGains.Spare.{Claimed}
use Rattle.arc_spelling.specs.SpellingGains.IsReady.{start, noted as ready_noted, claimed, published}
use Rattle.arc_spelling.specs.SpellingGains.IsSettled.{unclaimed, published as stays_published, given_back}
use Rattle.arc_spelling.specs.SpellingGains.IsRefused.{no_entry}
use Rattle.arc_spelling.specs.SpellingLaws.{fields_read, DeinitsAreWhole, is_claim, is_settling, claims_in, settled_in, LeavesNoClaim, ClaimsAreSettled}

-- a fact is no deinit line, and reads at most one field more
fact-line : (n : Note) (ns : List Note) → is_fact n ≡ true → deinits_of (n ∷ ns) ≡ deinits_of ns
fact-line (Did a) ns e = absurd cc
fact-line (Line a) ns e = absurd cc
fact-line (Operation k) ns e = absurd cc
fact-line (Name s name) ns e = refl
fact-line (Entry s o) ns e = refl
fact-line (NeedsEntry s l) ns e = refl
fact-line (Nil c) ns e = refl
fact-line (Refers c kind place) ns e = refl

more-reads : (b : Bool) (n : ℕ) → n ≤ one_more_if b n
more-reads true n = omega arith
more-reads false n = omega arith

fact-reads : (slot : ℕ) (n : Note) (ns : List Note) → is_fact n ≡ true → fields_read slot ns ≤ fields_read slot (n ∷ ns)
fact-reads slot (Did a) ns e = absurd cc
fact-reads slot (Line a) ns e = absurd cc
fact-reads slot (Operation k) ns e = absurd cc
fact-reads slot (Name s name) ns e = omega arith
fact-reads slot (Entry s o) ns e = omega arith
fact-reads slot (NeedsEntry s l) ns e = omega arith
fact-reads slot (Nil (cells.Field s f)) ns e = more-reads (s == slot) (fields_read slot ns)
fact-reads slot (Nil (cells.Global g)) ns e = omega arith
fact-reads slot (Refers c kind place) ns e = omega arith

reads-own : (slot n : ℕ) → one_more_if (slot == slot) n ≡ n + 1
reads-own slot n = rw (eq-eqb slot slot refl) refl

-- lines and fields of what was done of a deinit
record FieldsTold (slot : ℕ) (name : ObjectName) (field : ℕ) (before after : List Note) : Type 0 where
  later : List ObjectName
  told : deinits_of after ≡ later ++ name ∷ deinits_of before
  fields : fields_read slot before + field ≤ fields_read slot after
  grows : (s : ℕ) → fields_read s before ≤ fields_read s after

-- lines and fields only come
record Grows (before after : List Note) : Type 0 where
  later : List ObjectName
  told : deinits_of after ≡ later ++ deinits_of before
  grows : (s : ℕ) → fields_read s before ≤ fields_read s after

end-grows : {slot : ℕ} {b ns : List Note} → IsEnd slot b ns → Grows b ns
end-grows inline = record { later = []; told = refl; grows = λ s. omega arith }
end-grows gone_more = record { later = []; told = refl; grows = λ s. omega arith }
end-grows gone_last = record { later = []; told = refl; grows = λ s. omega arith }

record DeinitTold (shape : HeapShape) (slot : ℕ) (before after : List Note) : Type 0 where
  name : ObjectName
  later : List ObjectName
  told : deinits_of after ≡ later ++ name ∷ deinits_of before
  fields : fields_read slot before + field_count shape name ≤ fields_read slot after
  grows : (s : ℕ) → fields_read s before ≤ fields_read s after

mutual
  fields-told : {slot f : ℕ} {shape : HeapShape} {name : ObjectName} {b ns : List Note} → FieldsDone shape slot name f b ns → FieldsTold slot name f b ns
  fields-told named = record { later = []; told = refl; fields = omega arith; grows = λ s. omega arith }
  fields-told (noted {slot = slot} {n = n} {ns = ns} d e) =
      let h = fields-told d in
      let r = h.fields in
      let a = fact-reads slot n ns e in
      record { later = h.later; told = fact-line n ns e ∙ h.told; fields = omega arith; grows = λ s. let c = h.grows s in let x = fact-reads s n ns e in omega arith }
  fields-told (nil {slot = slot} {f = f} {ns = ns} d l e) =
      let h = fields-told d in
      let r = h.fields in
      let a = reads-own slot (fields_read slot ns) in
      record { later = h.later; told = h.told; fields = omega arith; grows = λ s. let c = h.grows s in let x = more-reads (slot == s) (fields_read s ns) in omega arith }
  fields-told (taken {slot = slot} {f = f} {name = name} {b = b} {ns = ns} d l e k x) =
      let h = fields-told d in
      let g = drop-grows x in
      let r = h.fields in
      let a = reads-own slot (fields_read slot ns) in
      let t = g.grows slot in
      record {
        later = g.later ++ h.later;
        told = g.told ∙ ap (λ y. g.later ++ y) h.told ∙ sym (append_assoc g.later h.later (name ∷ deinits_of b));
        fields = omega arith;
        grows = λ s. let c = h.grows s in let v = more-reads (slot == s) (fields_read s ns) in let w = g.grows s in omega arith;
      }

  drop-grows : {place k : ℕ} {shape : HeapShape} {kind : Kind} {b ns : List Note} → IsDrop shape kind place k b ns → Grows b ns
  drop-grows more = record { later = []; told = refl; grows = λ s. omega arith }
  drop-grows (last_strong {b = b} c) =
      let h = cascade-told c in
      record { later = h.later ++ h.name ∷ []; told = h.told ∙ sym (append_assoc h.later (h.name ∷ []) (deinits_of b)); grows = h.grows }
  drop-grows (last_unowned x) = let g = end-grows x in record { later = g.later; told = g.told; grows = g.grows }
  drop-grows last_weak = record { later = []; told = refl; grows = λ s. omega arith }

  cascade-told : {slot : ℕ} {shape : HeapShape} {b ns : List Note} → IsCascade shape slot b ns → DeinitTold shape slot b ns
  cascade-told (finish_more {slot = slot} {name = name} d e) =
      let h = fields-told d in
      let r = h.fields in
      record { name = name; later = h.later; told = h.told; fields = omega arith; grows = h.grows }
  cascade-told (finish_last {slot = slot} {name = name} {b = b} d e x) =
      let h = fields-told d in
      let g = end-grows x in
      let r = h.fields in
      let t = g.grows slot in
      record {
        name = name;
        later = g.later ++ h.later;
        told = g.told ∙ ap (λ y. g.later ++ y) h.told ∙ sym (append_assoc g.later h.later (name ∷ deinits_of b));
        fields = omega arith;
        grows = λ s. let c = h.grows s in let w = g.grows s in omega arith;
      }

pub deinits_whole : DeinitsAreWhole
deinits_whole shape slot before after c = let h = cascade-told c in record { name = h.name; later = h.later; told = h.told; fields = h.fields }

-- a fact is no claim, and settles none
fact-claims : (n : Note) (ns : List Note) → is_fact n ≡ true → claims_in (n ∷ ns) ≡ claims_in ns
fact-claims (Did a) ns e = absurd cc
fact-claims (Line a) ns e = absurd cc
fact-claims (Operation k) ns e = absurd cc
fact-claims (Name s name) ns e = refl
fact-claims (Entry s o) ns e = refl
fact-claims (NeedsEntry s l) ns e = refl
fact-claims (Nil c) ns e = refl
fact-claims (Refers c kind place) ns e = refl

fact-settles : (n : Note) (ns : List Note) → is_fact n ≡ true → settled_in (n ∷ ns) ≡ settled_in ns
fact-settles (Did a) ns e = absurd cc
fact-settles (Line a) ns e = absurd cc
fact-settles (Operation k) ns e = absurd cc
fact-settles (Name s name) ns e = refl
fact-settles (Entry s o) ns e = refl
fact-settles (NeedsEntry s l) ns e = refl
fact-settles (Nil c) ns e = refl
fact-settles (Refers c kind place) ns e = refl

-- one claim more than was settled where an entry is spare
abbrev spare_claims : Spare → ℕ
spare_claims (Claimed e) = 1
spare_claims _ = 0

record Opens (spare : Spare) (before after : List Note) : Type 0 where
  balance : claims_in after + settled_in before ≡ claims_in before + settled_in after + spare_claims spare

ready-opens : (source : Kind) (slot : ℕ) (list : Kind) {spare : Spare} {b ns : List Note} → IsReady source slot list spare b ns → Opens spare b ns
ready-opens source slot list start = record { balance = omega arith }
ready-opens source slot list (ready_noted {n = n} {ns = ns} r e) =
    let h = (ready-opens source slot list r).balance in
    let a = fact-claims n ns e in
    let c = fact-settles n ns e in
    record { balance = omega arith }
ready-opens source slot list (claimed r e) = let h = (ready-opens source slot list r).balance in record { balance = omega arith }
ready-opens source slot list (published r) = let h = (ready-opens source slot list r).balance in record { balance = omega arith }

settled-opens : {spare : Spare} {b mid ns : List Note} → Opens spare b mid → IsSettled spare mid ns → LeavesNoClaim b ns
settled-opens h unclaimed = let a = h.balance in omega arith
settled-opens h stays_published = let a = h.balance in omega arith
settled-opens h given_back = let a = h.balance in omega arith

-- facts that are read leave the balance
read-opens : {spare : Spare} {b ns : List Note} (read : List Note) → list_all is_fact read ≡ true → Opens spare b ns → Opens spare b (read ++ ns)
read-opens [] e h = h
read-opens {spare = spare} {b = b} {ns = ns} (n ∷ read) e h =
    let p = and_parts (is_fact n) (list_all is_fact read) e in
    let r = (read-opens read p.1 h).balance in
    let a = fact-claims n (read ++ ns) p.0 in
    let c = fact-settles n (read ++ ns) p.0 in
    record { balance = omega arith }

act-opens : {spare : Spare} {b ns : List Note} (act : Act) → is_claim act ≡ false → is_settling act ≡ false → Opens spare b ns → Opens spare b (Did act ∷ ns)
act-opens {ns = ns} act e f h =
    let a = ap (λ x. one_more_if x (claims_in ns)) e in
    let c = ap (λ x. one_more_if x (settled_in ns)) f in
    let r = h.balance in
    record { balance = omega arith }

pub claims_settled : ClaimsAreSettled
claims_settled =
    record {
      gains = λ source slot list act read before after e f facts g. settled-opens (read-opens read facts (act-opens act e f (ready-opens source slot list g.ready))) g.settled;
      refusals = refused;
    }
  where
    refused : (source : Kind) (slot : ℕ) (list : Kind) (before after : List Note) → IsRefused source slot list before after → LeavesNoClaim before after
    refused source slot list before after (no_entry r e) = let h = (ready-opens source slot list r).balance in omega arith
