-- The variables of a program, and the globals of the end section.
use Rattle.std.proofs.Common.{◌≡◌, ◌≤◌, ◌<◌, ◌+◌, ℕ, suc, true, List, ◌∷◌, Option, None, ◌⊎◌, inl, inr, refl, sym, ap, ◌∙◌, length, arith}
use Rattle.std.proofs.lemmas.Bool.{cases_lt}
use Rattle.std.proofs.lemmas.List.{length-set, length-replicate, get_or-set_same, get_or-set_other}
use Rattle.arc_model.specs.declared.answer.Answer.{Answer}
use Rattle.arc_model.specs.declared.event.CellName.TheVariants as cells
use Rattle.arc_model.specs.declared.event.ObjectName.{ObjectName}
use Rattle.arc_model.specs.declared.shape.Kind.{Kind}
use Rattle.arc_model.specs.Shapes.{HeapShape}
use Rattle.arc_spelling.specs.Spelling.{Note, is_fact, FieldsDone, IsEnd, IsDrop, IsCascade}
use Rattle.arc_spelling.specs.Spelling.Note.{Did, Line, Operation, Name, Entry, NeedsEntry, Nil, Refers}
use Rattle.arc_spelling.specs.Spelling.IsEnd.{inline, gone_more, gone_last}
use Rattle.arc_spelling.specs.Spelling.FieldsDone.{named, noted, nil, taken}
use Rattle.arc_spelling.specs.Spelling.IsDrop.{more, last_strong, last_unowned, last_weak}
use Rattle.arc_spelling.specs.Spelling.IsCascade.{finish_more, finish_last}
use Rattle.arc_script.specs.declared.script.Op.{Op}
use Rattle.arc_programs.specs.Variables.{Held, Variables, value, put}
use Rattle.arc_programs.specs.Programs.{Hands, Replaces, IsAnswered, OpsDone, ScopeEnds}
use Rattle.arc_programs.specs.Programs.IsAnswered.{made, full, copied, unowned_formed, weak_formed, loaded, found_dead, weakly_loaded, found_nil, looked, got, put_in_nil, swapped, no_owner, given_up, nothing_there, moved, from_nil, count_full, no_entry}
use Rattle.arc_programs.specs.Programs.OpsDone.{none, one, block}
use Rattle.arc_programs.specs.Programs.ScopeEnds.{begins, nil as var_nil, dropped as var_dropped}
use Rattle.arc_programs.specs.Programs.GlobalsCleared.{begins as end_begins, nil as global_nil, cleared}
use Rattle.arc_programs.specs.ProgramsHistories.{ScopesEmpty, swapped_in, globals_below, EachGlobalIsCleared}

-- ---- how many variables there are

put-count : (vars vars' : Variables) (v : ℕ) (new : Option Held) → vars' ≡ put vars v new → length vars' ≡ length vars
put-count vars vars' v new e = ap length e ∙ length-set vars v new

replaced-count : {to : ℕ} {new : Option Held} {vars vars' : Variables} {last : Option Held} → Replaces to new vars vars' last → length vars' ≡ length vars
replaced-count {to = to} {new = new} {vars = vars} {vars' = vars'} r = put-count vars vars' to new r.replaced

answered-count : {p : ℕ} {came : Hands} {o : Op} {vars vars' : Variables} {answer : Answer} {last : Option Held} {b after : List Note} →
    IsAnswered p came o vars b vars' answer last after → length vars' ≡ length vars
answered-count (made k n r) = replaced-count r
answered-count (full v) = ap length v
answered-count (copied e k g r) = replaced-count r
answered-count (unowned_formed e k g r) = replaced-count r
answered-count (weak_formed e k g r) = replaced-count r
answered-count (loaded e u k g r) = replaced-count r
answered-count (found_dead e u g r) = replaced-count r
answered-count (weakly_loaded e u k g r) = replaced-count r
answered-count (found_nil e u g r) = replaced-count r
answered-count (looked e r) = replaced-count r
answered-count (got e k c g r) = replaced-count r
answered-count (put_in_nil {from = from} {vars = vars} {vars' = vars'} e h v) = put-count vars vars' from None v
answered-count (swapped {from = from} {vars = vars} {vars' = vars'} e h v k c l) = put-count vars vars' from None v
answered-count (no_owner e v n) = ap length v
answered-count (given_up e r n) = replaced-count r
answered-count (nothing_there e v n) = ap length v
answered-count (moved {from = from} {mid = mid} {vars' = vars'} e r v n) = put-count mid vars' from None v ∙ replaced-count r
answered-count (from_nil f r n) = replaced-count r
answered-count (count_full s g v) = ap length v
answered-count (no_entry s g v) = ap length v

ops-count : {shape : HeapShape} {p : ℕ} {came : Hands} {program : List Op} {count n : ℕ} {vars : Variables} {now : List Note} →
    OpsDone shape p came program count n vars now → length vars ≡ count
ops-count {count = count} (none e) = ap length e ∙ length-replicate count None
ops-count (one d there e x) = answered-count x.does ∙ ops-count d
ops-count (block d there is next forth) = ops-count d

scope-count : {shape : HeapShape} {first vars : Variables} {n : ℕ} {b ns : List Note} → ScopeEnds shape first n vars b ns → length vars ≡ length first
scope-count begins = refl
scope-count (var_nil s l e w) = scope-count s
scope-count (var_dropped {v = v} {vars = vars} {vars' = vars'} s l e w r d) = put-count vars vars' v None r ∙ scope-count s

-- ---- the end of a scope

emptied : {shape : HeapShape} {first vars : Variables} {n : ℕ} {b ns : List Note} → ScopeEnds shape first n vars b ns → (v : ℕ) → v < n → value vars v ≡ None
emptied begins v l = absurd (omega arith)
emptied (var_nil {v = w} {vars = vars} s in_vars is_nil next) v l = go (cases_lt v w) (emptied s v)
  where
    go : (v < w) ⊎ (w ≤ v) → (v < w → value vars v ≡ None) → value vars v ≡ None
    go (inl below) before = before below
    go (inr above) before = let same : v ≡ w = omega arith in ap (value vars) same ∙ is_nil
emptied (var_dropped {v = w} {vars = vars} {vars' = vars'} s in_vars has next r d) v l = go (cases_lt v w) (emptied s v)
  where
    go : (v < w) ⊎ (w ≤ v) → (v < w → value vars v ≡ None) → value vars' v ≡ None
    go (inl below) before = ap (λ vs. value vs v) r ∙ get_or-set_other vars w v None None (λ e. omega (arith, e)) ∙ before below
    go (inr above) before = let same : v ≡ w = omega arith in ap (λ vs. value vs v) r ∙ ap (value (put vars w None)) same ∙ get_or-set_same vars w None None in_vars

pub scopes_empty : ScopesEmpty
scopes_empty shape p came program count notes x v l = let c = ops-count x.ops in emptied x.scope v (omega arith)

-- ---- the end section

fact-swaps : (n : Note) (ns : List Note) → is_fact n ≡ true → swapped_in (n ∷ ns) ≡ swapped_in ns
fact-swaps (Did a) ns e = absurd cc
fact-swaps (Line a) ns e = absurd cc
fact-swaps (Operation k) ns e = absurd cc
fact-swaps (Name s name) ns e = refl
fact-swaps (Entry s o) ns e = refl
fact-swaps (NeedsEntry s l) ns e = refl
fact-swaps (Nil c) ns e = refl
fact-swaps (Refers c kind place) ns e = refl

end-swaps : {slot : ℕ} {b ns : List Note} → IsEnd slot b ns → swapped_in ns ≡ swapped_in b
end-swaps inline = refl
end-swaps gone_more = refl
end-swaps gone_last = refl

mutual
  fields-swap : {slot f : ℕ} {shape : HeapShape} {name : ObjectName} {b ns : List Note} → FieldsDone shape slot name f b ns → swapped_in ns ≡ swapped_in b
  fields-swap named = refl
  fields-swap (noted {n = n} {ns = ns} d e) = fact-swaps n ns e ∙ fields-swap d
  fields-swap (nil d l e) = fields-swap d
  fields-swap (taken d l e k x) = drop-swaps x ∙ fields-swap d

  drop-swaps : {place k : ℕ} {shape : HeapShape} {kind : Kind} {b ns : List Note} → IsDrop shape kind place k b ns → swapped_in ns ≡ swapped_in b
  drop-swaps more = refl
  drop-swaps (last_strong c) = cascade-swaps c
  drop-swaps (last_unowned x) = end-swaps x
  drop-swaps last_weak = refl

  cascade-swaps : {slot : ℕ} {shape : HeapShape} {b ns : List Note} → IsCascade shape slot b ns → swapped_in ns ≡ swapped_in b
  cascade-swaps (finish_more d e) = fields-swap d
  cascade-swaps (finish_last d e x) = end-swaps x ∙ fields-swap d

one-more : (g n : ℕ) → n ≡ g + 1 → cells.Global g ∷ globals_below g ≡ globals_below n
one-more g n e = let is : n ≡ suc g = omega arith in ap globals_below (sym is)

pub each_global : EachGlobalIsCleared
each_global shape came n notes end_begins = refl
each_global shape came n notes (global_nil {g = g} {b = b} c l e) = ap (λ cs. cells.Global g ∷ cs) (each_global shape came g b c) ∙ one-more g n e
each_global shape came n notes (cleared {g = g} {b = b} c l e k r d) = drop-swaps d ∙ ap (λ cs. cells.Global g ∷ cs) (each_global shape came g b c) ∙ one-more g n e
