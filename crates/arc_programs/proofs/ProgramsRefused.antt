-- What is no spelling of a program.
use Rattle.std.proofs.Common.{◌≡◌, ◌≤◌, ◌<◌, ◌+◌, ℕ, Bool, true, false, List, [], ◌∷◌, ◌++◌, Option, Some, None, ◌⊎◌, inl, inr, refl, sym, ap, ◌∙◌, length, length-append, arith}
use Rattle.std.specs.Prelude.{map}
use Rattle.std.proofs.lemmas.Bool.{cases_lt}
use Rattle.arc_model.specs.declared.answer.Answer.{Answer}
use Rattle.arc_model.specs.declared.answer.Answer.TheVariants as answers
use Rattle.arc_model.specs.declared.event.ObjectName.{ObjectName}
use Rattle.arc_model.specs.declared.shape.Kind.{Kind}
use Rattle.arc_model.specs.declared.shape.Kind.TheVariants.{Weak}
use Rattle.arc_model.specs.Shapes.{HeapShape}
use Rattle.arc_spelling.specs.Spelling.{Note, hands_of, IsEnd, IsDrop, IsCascade}
use Rattle.arc_spelling.specs.Spelling.Note.{Did, Line as Says, Operation}
use Rattle.arc_spelling.specs.Spelling.IsEnd.{inline, gone_more, gone_last}
use Rattle.arc_spelling.specs.Spelling.IsDrop.{more, last_strong, last_unowned, last_weak}
use Rattle.arc_spelling.specs.Spelling.IsCascade.{finish_more, finish_last}
use Rattle.arc_spelling.specs.SpellingGains.{IsRefused, may_claim}
use Rattle.arc_spelling.specs.SpellingGains.IsRefused.{no_entry as entry_refused}
use Rattle.arc_script.specs.declared.answer.Line.{Line}
use Rattle.arc_script.specs.declared.script.Op.{Op}
use Rattle.arc_script.specs.declared.script.Op.TheVariants as op
use Rattle.arc_script.specs.declared.script.OpCell.{OpCell}
use Rattle.arc_programs.specs.Variables.{Held, Variables, value}
use Rattle.arc_programs.specs.Programs.{Hands, Replaces, Source, HasSource, IsDropped, IsAnswered, IsOp, ScopeEnds, GlobalsCleared}
use Rattle.arc_programs.specs.Programs.HasSource.{copy}
use Rattle.arc_programs.specs.Programs.IsDropped.{nothing, dropped}
use Rattle.arc_programs.specs.Programs.IsAnswered.{copied, put_in_nil, swapped, from_nil, count_full, no_entry}
use Rattle.arc_programs.specs.Programs.ScopeEnds.{begins, nil as var_nil, dropped as var_dropped}
use Rattle.arc_programs.specs.Programs.GlobalsCleared.{begins as end_begins, cleared}
use Rattle.arc_programs.specs.ProgramsLines.{lines_of, is_deinit, deinit_line}
use Rattle.arc_programs.proofs.ProgramsTold.{operations_told}

-- the newest note is an event
abbrev is_event : Note → Bool
is_event (Did a) = true
is_event _ = false

abbrev event_on_top : List Note → Bool
event_on_top [] = false
event_on_top (n ∷ ns) = is_event n

end-top : {slot : ℕ} {b after : List Note} → IsEnd slot b after → event_on_top after ≡ true
end-top inline = refl
end-top gone_more = refl
end-top gone_last = refl

cascade-top : {shape : HeapShape} {slot : ℕ} {b after : List Note} → IsCascade shape slot b after → event_on_top after ≡ true
cascade-top (finish_more d e) = refl
cascade-top (finish_last d e x) = end-top x

drop-top : {shape : HeapShape} {kind : Kind} {place k : ℕ} {b after : List Note} → IsDrop shape kind place k b after → event_on_top after ≡ true
drop-top more = refl
drop-top (last_strong c) = cascade-top c
drop-top (last_unowned x) = end-top x
drop-top last_weak = refl

-- what a copy that answers `ok` did to its destination
record IsCopied (to : ℕ) (vars vars' : Variables) (last : Option Held) (before : List Note) : Type 0 where
  new : Held
  hand : new.hand ≡ hands_of before + 1
  replaces : Replaces to (Some new) vars vars' last

is-copied : {p to from : ℕ} {came : Hands} {vars vars' : Variables} {answer : Answer} {last : Option Held} {b ns : List Note} →
    IsAnswered p came (op.Copy to from) vars b vars' answer last ns → answer ≡ answers.Ok → IsCopied to vars vars' last b
is-copied (copied {k = k} {held = held} e next g r) a = record { new = record { hand = k; kind = held.kind; place = held.place }; hand = next; replaces = r }
is-copied (from_nil f r n) a = absurd cc
is-copied (count_full s g v) a = absurd cc
is-copied (no_entry s g v) a = absurd cc

-- An operation that had something to drop, and ends with its line.
line-last : {shape : HeapShape} {old : Held} {last : Option Held} {answer : Answer} {answered after : List Note} →
    IsDropped shape last (Says answer ∷ answered) after → last ≡ Some old → event_on_top after ≡ true
line-last nothing e = absurd cc
line-last (dropped d) e = drop-top d

first-says : (a b : Answer) (ns ms : List Note) → Says a ∷ ns ≡ Says b ∷ ms → a ≡ b
first-says a b ns ms e = cc

-- A copy that ends with its line though its destination had a reference, which so was dropped before it or not at all.
pub old_not_last : (shape : HeapShape) (p n to from : ℕ) (came : Hands) (old : Held) (vars vars' : Variables) (before ns : List Note) (x : IsOp shape p came n (op.Copy to from) vars before vars' (Says answers.Ok ∷ ns)) →
    value vars to ≡ Some old → x.answer ≡ answers.Ok → ⊥
old_not_last shape p n to from came old vars vars' before ns x e ok =
    let c = is-copied x.does ok in let t = line-last x.ends (c.replaces.old ∙ e) in absurd cc

abbrev kind-or : Kind → Option Held → Kind
kind-or kind None = kind
kind-or kind (Some held) = held.kind

abbrev hand-or : Option Held → ℕ
hand-or None = 0
hand-or (Some held) = held.hand

-- A copy whose destination keeps what it had.
pub destination_kept : (p : ℕ) (came : Hands) (source old : Held) (last : Option Held) (before after : List Note) → old.hand ≤ hands_of before →
    IsAnswered p came (op.Copy 1 0) (Some source ∷ Some old ∷ []) before (Some source ∷ Some old ∷ []) answers.Ok last after → ⊥
destination_kept p came source old last before after e x =
    let c = is-copied x refl in
    let same : old.hand ≡ c.new.hand = ap (λ vars. hand-or (value vars 1)) c.replaces.replaced in
    let h = c.hand in omega arith

abbrev first_answer : List Line → Answer
first_answer [] = answers.Ok
first_answer (l ∷ ls) = l.answer

same-length : {xs ys : List Line} → xs ≡ ys → length xs ≡ length ys
same-length e = ap length e

-- An operation whose line stands behind that of a deinit which it brought about.
pub line_behind_deinit : (shape : HeapShape) (p n : ℕ) (came : Hands) (o : Op) (answer : Answer) (name : ObjectName) (vars vars' : Variables) (before after : List Note) → is_deinit answer ≡ false →
    lines_of after ≡ record { operation = n; answer = answer } ∷ deinit_line n name ∷ lines_of before →
    IsOp shape p came n o vars before vars' after → ⊥
line_behind_deinit shape p n came o answer name vars vars' before after no_deinit e x =
    let t = operations_told shape p came n o vars vars' before after x in go t.deinits t.answer (sym t.lines ∙ e)
  where
    go : (names : List ObjectName) (a : Answer) → map (deinit_line n) names ++ record { operation = n; answer = a } ∷ lines_of before ≡ record { operation = n; answer = answer } ∷ deinit_line n name ∷ lines_of before → ⊥
    go [] a q = let l = same-length q in omega arith
    go (d ∷ []) a q = let same : answers.Deinit d ≡ answer = ap first_answer q in let deinits : true ≡ is_deinit answer = ap is_deinit same in absurd cc
    go (d ∷ f ∷ names) a q = let l = same-length q in let m = length-append (map (deinit_line n) names) (record { operation = n; answer = a } ∷ lines_of before) in omega arith

-- The end of a scope that drops nothing has the variables that it began with.
still : {shape : HeapShape} {first vars : Variables} {v : ℕ} {b ns : List Note} → ScopeEnds shape first v vars b ns → event_on_top ns ≡ false → vars ≡ first
still begins e = refl
still (var_nil s l n w) e = still s e
still (var_dropped s l h w v d) e = let t = drop-top d in absurd cc

-- The end of a scope that forgets a variable.
pub variable_forgotten : (shape : HeapShape) (first vars : Variables) (v n : ℕ) (held : Held) (before ns : List Note) → value first v ≡ Some held → v < n → event_on_top ns ≡ false →
    ScopeEnds shape first n vars before ns → ⊥
variable_forgotten shape first vars v n held before ns has l e begins = omega arith
variable_forgotten shape first vars v n held before ns has l e (var_nil {v = w} s in_vars is_nil next) = go (cases_lt v w) (λ below. variable_forgotten shape first vars v w held before ns has below e s)
  where
    go : (v < w) ⊎ (w ≤ v) → (v < w → ⊥) → ⊥
    go (inl below) earlier = earlier below
    go (inr above) earlier =
        let same : v ≡ w = omega arith in
        let there : value vars w ≡ value first v = ap (λ vs. value vs w) (still s e) ∙ ap (value first) (sym same) in
        let a = sym is_nil ∙ there ∙ has in absurd cc
variable_forgotten shape first vars v n held before ns has l e (var_dropped s in_vars h w r d) = let t = drop-top d in absurd cc

-- The end section that forgets a global.
pub global_forgotten : (shape : HeapShape) (came : Hands) (n : ℕ) → 1 ≤ n → GlobalsCleared shape came n (Operation 0 ∷ []) → ⊥
global_forgotten shape came n e end_begins = omega arith
global_forgotten shape came n e (cleared c l w k r d) = let t = drop-top d in absurd cc

-- A `set` that leaves its variable what it put in.
pub variable_kept : (p : ℕ) (came : Hands) (c : OpCell) (held : Held) (last : Option Held) (before after : List Note) →
    IsAnswered p came (op.Set c 0) (Some held ∷ []) before (Some held ∷ []) answers.Ok last after → ⊥
variable_kept p came c held last before after (put_in_nil e h v) = absurd cc
variable_kept p came c held last before after (swapped e h v k r l) = absurd cc

source-kind : {to from : ℕ} {vars : Variables} {source : Source} {b s : List Note} → HasSource vars (op.Copy to from) source b s → (held : Held) → value vars from ≡ Some held → source.kind ≡ held.kind
source-kind (copy {held = there} e is) held has = ap (λ (source : Source). source.kind) is ∙ ap (kind-or held.kind) (sym e ∙ has)

no-claim : {source : Kind} {slot : ℕ} {list : Kind} {b after : List Note} → IsRefused source slot list b after → may_claim source ≡ true
no-claim (entry_refused r e) = e

-- A copy of a weak reference that finds no entry, though its object has one.
pub weak_copy_refused : (p to from : ℕ) (came : Hands) (held : Held) (vars vars' : Variables) (last : Option Held) (before after : List Note) → value vars from ≡ Some held → held.kind ≡ Weak →
    IsAnswered p came (op.Copy to from) vars before vars' answers.NoEntry last after → ⊥
weak_copy_refused p to from came held vars vars' last before after has weak (no_entry s r v) =
    let claims = no-claim r in let kind = source-kind s held has ∙ weak in let none : true ≡ false = sym claims ∙ ap may_claim kind in absurd cc
