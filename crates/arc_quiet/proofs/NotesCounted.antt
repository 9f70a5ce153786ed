-- A spelled drop ends one hand more than come, and pays each debt; a gain leaves no debt.
use Rattle.std.proofs.Common.{◌≡◌, ◌+◌, ◌==◌, ℕ, Bool, true, false, List, [], ◌∷◌, ◌++◌, refl, ap, ◌∙◌, eq-eqb, arith}
use Rattle.std.specs.List.{list_all}
use Rattle.std.proofs.lemmas.Bool.{and_parts}
use Rattle.arc_model.specs.declared.event.ObjectName.{ObjectName}
use Rattle.arc_model.specs.declared.event.Act.{Act}
use Rattle.arc_model.specs.declared.shape.Kind.{Kind}
use Rattle.arc_model.specs.Shapes.{HeapShape}
use Rattle.arc_model.specs.History.{brings}
use Rattle.arc_spelling.specs.Spelling.{Note, is_fact, hands_of, one_more_if, FieldsDone, IsEnd, IsDrop, IsCascade}
use Rattle.arc_spelling.specs.Spelling.Note.{Did, Line, Operation, Name, Entry, NeedsEntry, Nil, Refers}
use Rattle.arc_spelling.specs.Spelling.IsEnd.{inline, gone_more, gone_last}
use Rattle.arc_spelling.specs.Spelling.FieldsDone.{named, noted, nil, taken}
use Rattle.arc_spelling.specs.Spelling.IsDrop.{more, last_strong, last_unowned, last_weak}
use Rattle.arc_spelling.specs.Spelling.IsCascade.{finish_more, finish_last}
use Rattle.arc_spelling.specs.SpellingGains.{Spare, IsReady, IsSettled, IsGain, IsRefused}
use Rattle.arc_spelling.specs.SpellingGains.Spare.{Unclaimed, Claimed, Published}
use Rattle.arc_spelling.specs.SpellingGains.IsReady.{start, noted as ready_noted, claimed, published}
use Rattle.arc_spelling.specs.SpellingGains.IsSettled.{unclaimed, published as stays_published, given_back}
use Rattle.arc_spelling.specs.SpellingGains.IsRefused.{no_entry}
use Rattle.arc_quiet.proofs.Counts.{is_ending, ended_in, is_debt, debts_in, is_payment, paid_in}

-- what notes between two points of a thread's notes add: hands that came over those that ended, debts made over debts paid
pub record Adds (came ended made paid : ℕ) (before after : List Note) : Type 0 where
  pub hands : hands_of after + ended_in before + ended ≡ hands_of before + ended_in after + came
  pub debts : debts_in after + paid_in before + paid ≡ debts_in before + paid_in after + made

pub adds-none : {b : List Note} → Adds 0 0 0 0 b b
adds-none = record { hands = omega arith; debts = omega arith }

-- a fact counts nothing
pub record Same (before after : List Note) : Type 0 where
  pub hands : hands_of after ≡ hands_of before
  pub ended : ended_in after ≡ ended_in before
  pub debts : debts_in after ≡ debts_in before
  pub paid : paid_in after ≡ paid_in before

pub fact-same : (n : Note) (ns : List Note) → is_fact n ≡ true → Same ns (n ∷ ns)
fact-same (Did a) ns e = absurd cc
fact-same (Line a) ns e = absurd cc
fact-same (Operation k) ns e = absurd cc
fact-same (Name s name) ns e = record { hands = refl; ended = refl; debts = refl; paid = refl }
fact-same (Entry s o) ns e = record { hands = refl; ended = refl; debts = refl; paid = refl }
fact-same (NeedsEntry s l) ns e = record { hands = refl; ended = refl; debts = refl; paid = refl }
fact-same (Nil c) ns e = record { hands = refl; ended = refl; debts = refl; paid = refl }
fact-same (Refers c kind place) ns e = record { hands = refl; ended = refl; debts = refl; paid = refl }

one-own : (s n : ℕ) → one_more_if (s == s) n ≡ n + 1
one-own s n = ap (λ b. one_more_if b n) (eq-eqb s s refl)

-- the end of a slot pays one debt
end-adds : {slot : ℕ} {b ns : List Note} → IsEnd slot b ns → Adds 0 0 0 1 b ns
end-adds {slot = slot} {b = b} inline = let a = one-own slot (paid_in b) in record { hands = omega arith; debts = omega arith }
end-adds gone_more = record { hands = omega arith; debts = omega arith }
end-adds gone_last = record { hands = omega arith; debts = omega arith }

mutual
  fields-add : {slot f : ℕ} {shape : HeapShape} {name : ObjectName} {b ns : List Note} → FieldsDone shape slot name f b ns → Adds 0 0 0 0 b ns
  fields-add named = record { hands = omega arith; debts = omega arith }
  fields-add (noted {n = n} {ns = ns} d e) =
      let h = fields-add d in let hh = h.hands in let hd = h.debts in
      let s = fact-same n ns e in let sh = s.hands in let se = s.ended in let sd = s.debts in let sp = s.paid in
      record { hands = omega arith; debts = omega arith }
  fields-add (nil d l e) = let h = fields-add d in let hh = h.hands in let hd = h.debts in record { hands = omega arith; debts = omega arith }
  fields-add (taken d l e k x) =
      let h = fields-add d in let hh = h.hands in let hd = h.debts in
      let g = drop-adds x in let gh = g.hands in let gd = g.debts in
      record { hands = omega arith; debts = omega arith }

  pub drop-adds : {place k : ℕ} {shape : HeapShape} {kind : Kind} {b ns : List Note} → IsDrop shape kind place k b ns → Adds 0 1 0 0 b ns
  drop-adds more = record { hands = omega arith; debts = omega arith }
  drop-adds (last_strong c) = let h = cascade-adds c in let hh = h.hands in let hd = h.debts in record { hands = omega arith; debts = omega arith }
  drop-adds (last_unowned x) = let h = end-adds x in let hh = h.hands in let hd = h.debts in record { hands = omega arith; debts = omega arith }
  drop-adds last_weak = record { hands = omega arith; debts = omega arith }

  cascade-adds : {slot : ℕ} {shape : HeapShape} {b ns : List Note} → IsCascade shape slot b ns → Adds 0 0 0 1 b ns
  cascade-adds (finish_more d e) = let h = fields-add d in let hh = h.hands in let hd = h.debts in record { hands = omega arith; debts = omega arith }
  cascade-adds (finish_last d e x) =
      let h = fields-add d in let hh = h.hands in let hd = h.debts in
      let g = end-adds x in let gh = g.hands in let gd = g.debts in
      record { hands = omega arith; debts = omega arith }

-- ---- gains

-- the debt of an entry that was claimed
abbrev open_claim : Spare → ℕ
open_claim Unclaimed = 0
open_claim (Claimed e) = 1
open_claim Published = 0

ready-adds : {source : Kind} {slot : ℕ} {list : Kind} {spare : Spare} {b ns : List Note} → IsReady source slot list spare b ns → Adds 0 0 (open_claim spare) 0 b ns
ready-adds start = record { hands = omega arith; debts = omega arith }
ready-adds (ready_noted {n = n} {ns = ns} r e) =
    let h = ready-adds r in let hh = h.hands in let hd = h.debts in
    let s = fact-same n ns e in let sh = s.hands in let se = s.ended in let sd = s.debts in let sp = s.paid in
    record { hands = omega arith; debts = omega arith }
ready-adds (claimed r e) = let h = ready-adds r in let hh = h.hands in let hd = h.debts in record { hands = omega arith; debts = omega arith }
ready-adds (published r) = let h = ready-adds r in let hh = h.hands in let hd = h.debts in record { hands = omega arith; debts = omega arith }

settled-adds : {spare : Spare} {b ns : List Note} → IsSettled spare b ns → Adds 0 0 0 (open_claim spare) b ns
settled-adds unclaimed = record { hands = omega arith; debts = omega arith }
settled-adds stays_published = record { hands = omega arith; debts = omega arith }
settled-adds given_back = record { hands = omega arith; debts = omega arith }

read-same : (read ns : List Note) → list_all is_fact read ≡ true → Same ns (read ++ ns)
read-same [] ns e = record { hands = refl; ended = refl; debts = refl; paid = refl }
read-same (n ∷ read) ns e =
    let a = and_parts (is_fact n) (list_all is_fact read) e in
    let s = fact-same n (read ++ ns) a.0 in
    let r = read-same read ns a.1 in
    record { hands = s.hands ∙ r.hands; ended = s.ended ∙ r.ended; debts = s.debts ∙ r.debts; paid = s.paid ∙ r.paid }

-- an act that makes no debt, pays none and ends no hand
pub record IsPlain (a : Act) : Type 0 where
  pub ends_none : is_ending a ≡ false
  pub makes_none : is_debt a ≡ false
  pub pays_none : (ns : List Note) → is_payment a ns ≡ false

pub did-adds : (a : Act) (ns : List Note) → IsPlain a → Adds (one_more_if (brings a) 0) 0 0 0 ns (Did a ∷ ns)
did-adds a ns plain =
    let e : ended_in (Did a ∷ ns) ≡ ended_in ns = ap (λ b. one_more_if b (ended_in ns)) plain.ends_none in
    let d : debts_in (Did a ∷ ns) ≡ debts_in ns = ap (λ b. one_more_if b (debts_in ns)) plain.makes_none in
    let p : paid_in (Did a ∷ ns) ≡ paid_in ns = ap (λ b. one_more_if b (paid_in ns)) (plain.pays_none ns) in
    let h = adds (brings a) (hands_of ns) in
    record { hands = omega arith; debts = omega arith }
  where
    adds : (b : Bool) (n : ℕ) → one_more_if b n ≡ n + one_more_if b 0
    adds true n = omega arith
    adds false n = omega arith

pub gain-adds : {source : Kind} {slot : ℕ} {list : Kind} {act : Act} {b ns : List Note} (read : List Note) → list_all is_fact read ≡ true → IsPlain act →
    IsGain source slot list act read b ns → Adds (one_more_if (brings act) 0) 0 0 0 b ns
gain-adds {act = act} read facts plain g =
    let r = ready-adds g.ready in let rh = r.hands in let rd = r.debts in
    let d = did-adds act g.decided plain in let dh = d.hands in let dd = d.debts in
    let s = read-same read (Did act ∷ g.decided) facts in let sh = s.hands in let se = s.ended in let sd = s.debts in let sp = s.paid in
    let t = settled-adds g.settled in let th = t.hands in let td = t.debts in
    record { hands = omega arith; debts = omega arith }

pub refused-adds : {source : Kind} {slot : ℕ} {list : Kind} {b ns : List Note} → IsRefused source slot list b ns → Adds 0 0 0 0 b ns
refused-adds (no_entry r e) = let h = ready-adds r in let hh = h.hands in let hd = h.debts in record { hands = omega arith; debts = omega arith }
