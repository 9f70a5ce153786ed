-- A program that came to its end has ended each hand that came and paid each debt that it made.
use Rattle.std.proofs.Common.{◌≡◌, ◌<◌, ◌≤◌, ◌+◌, ◌-◌, ℕ, zero, suc, List, [], ◌∷◌, Option, Some, None, refl, ap, ◌∙◌, length, subst, arith}
use Rattle.std.specs.Prelude.{slice_get}
use Rattle.std.specs.List.{AllByRecursion}
use Rattle.std.proofs.lemmas.List.{length-set, length-replicate}
use Rattle.arc_model.specs.declared.answer.Answer.{Answer}
use Rattle.arc_model.specs.declared.event.CellName.{CellName}
use Rattle.arc_model.specs.declared.event.Got.{Got}
use Rattle.arc_model.specs.declared.event.Origin.{Origin}
use Rattle.arc_model.specs.declared.event.Origin.TheVariants as origins
use Rattle.arc_model.specs.declared.event.Got.TheVariants as gots
use Rattle.arc_model.specs.declared.event.Act.TheVariants as acts
use Rattle.arc_model.specs.declared.shape.Kind.{Kind}
use Rattle.arc_model.specs.Shapes.{HeapShape}
use Rattle.arc_spelling.specs.Spelling.{Note, hands_of, one_more_if}
use Rattle.arc_spelling.specs.Spelling.Note.{Name, Entry}
use Rattle.arc_script.specs.Valid as valid
use Rattle.arc_script.specs.OneList.{moved_behind}
use Rattle.arc_script.proofs.OneList.{all_in_one}
use Rattle.arc_script.specs.declared.script.ClassDecl.{ClassDecl}
use Rattle.arc_script.specs.declared.script.VarDecl.{VarDecl}
use Rattle.arc_script.specs.declared.script.ThreadDecl.{ThreadDecl}
use Rattle.arc_script.specs.declared.script.Script.{Script}
use Rattle.arc_script.specs.declared.script.Op.{Op}
use Rattle.arc_script.specs.declared.script.Op.TheVariants as op
use Rattle.arc_programs.specs.Variables.{Held, Variables, value, put, hand_in}
use Rattle.arc_programs.specs.Programs.{Hands, IsDropped, HasSource, Source, Replaces, IsAnswered, OpsDone, ScopeEnds, IsProgram, GlobalsCleared}
use Rattle.arc_programs.specs.Programs.IsDropped.{nothing, dropped}
use Rattle.arc_programs.specs.Programs.HasSource.{copy, unown, weak, load, get}
use Rattle.arc_programs.specs.Programs.IsAnswered.{made, full, copied, unowned_formed, weak_formed, loaded, found_dead, weakly_loaded, found_nil, looked, got, put_in_nil, swapped, no_owner, given_up, nothing_there, moved, from_nil, count_full, no_entry}
use Rattle.arc_programs.specs.Programs.OpsDone.{none, one, block}
use Rattle.arc_programs.specs.Programs.ScopeEnds.{begins, nil as var_nil, dropped as var_dropped}
use Rattle.arc_programs.specs.Programs.GlobalsCleared.{begins as end_begins, nil as global_nil, cleared}
use Rattle.arc_programs.specs.ProgramsTied.{operations, Spells}
use Rattle.arc_programs.specs.ProgramsTied.Spells.{thread, end}
use Rattle.arc_programs.proofs.ProgramsKept.{scopes_empty}
use Rattle.arc_model.proofs.Basics.{None≢Some, Some-inj}
use Rattle.arc_quiet.proofs.Counts.{is_ending, ended_in, debts_in, paid_in}
use Rattle.arc_quiet.proofs.NotesCounted.{Adds, adds-none, IsPlain, gain-adds, refused-adds, drop-adds}

-- ---- variables that aren't nil

abbrev pub is_one : Option Held → ℕ
is_one None = 0
is_one (Some held) = 1

abbrev pub non_nil : Variables → ℕ
non_nil [] = 0
non_nil (v ∷ vars) = is_one v + non_nil vars

put-none : (vars : Variables) (v : ℕ) → non_nil vars ≤ non_nil (put vars v None) + is_one (value vars v)
put-none [] v = omega arith
put-none (x ∷ vars) zero = omega arith
put-none (x ∷ vars) (suc v) = let a = put-none vars v in omega arith

put-new : (vars : Variables) (v : ℕ) (new : Option Held) → v < length vars → non_nil vars + is_one new ≡ non_nil (put vars v new) + is_one (value vars v)
put-new [] v new l = absurd (omega arith)
put-new (x ∷ vars) zero new l = omega arith
put-new (x ∷ vars) (suc v) new l = let a = put-new vars v new (omega arith) in omega arith

none-non_nil : (vars : Variables) → ((v : ℕ) → v < length vars → value vars v ≡ None) → non_nil vars ≡ 0
none-non_nil [] h = refl
none-non_nil (x ∷ vars) h =
    let a : is_one x ≡ 0 = ap is_one (h zero (omega arith)) in
    let b = none-non_nil vars (λ v l. h (suc v) (omega arith)) in omega arith

-- ---- an operation

-- up to its line: the hands that came are in variables, ended, or to be dropped last
record Answers (vars vars' : Variables) (last : Option Held) (b after : List Note) : Type 0 where
  hands : hands_of after + ended_in b + non_nil vars ≤ hands_of b + ended_in after + non_nil vars' + is_one last
  debts : debts_in after + paid_in b ≡ debts_in b + paid_in after
  count : length vars' ≡ length vars

put-count : (vars vars' : Variables) (v : ℕ) (new : Option Held) → vars' ≡ put vars v new → length vars' ≡ length vars
put-count vars vars' v new e = ap length e ∙ length-set vars v new

-- the destination takes what came
replaces : {vars vars' : Variables} {last : Option Held} {b after : List Note} (n to : ℕ) (new : Option Held) → to < length vars → n ≡ is_one new → Adds n 0 0 0 b after → Replaces to new vars vars' last → Answers vars vars' last b after
replaces {vars = vars} {vars' = vars'} {last = last} n to new l is a r =
    let ah = a.hands in let ad = a.debts in
    let p = put-new vars to new l in
    let q : non_nil vars' ≡ non_nil (put vars to new) = ap non_nil r.replaced in
    let o : is_one last ≡ is_one (value vars to) = ap is_one r.old in
    record { hands = omega arith; debts = omega arith; count = put-count vars vars' to new r.replaced }

replaces-none : {vars vars' : Variables} {last : Option Held} {b after : List Note} (to : ℕ) → Adds 0 0 0 0 b after → Replaces to None vars vars' last → Answers vars vars' last b after
replaces-none {vars = vars} {vars' = vars'} {last = last} to a r =
    let ah = a.hands in let ad = a.debts in
    let p = put-none vars to in
    let q : non_nil vars' ≡ non_nil (put vars to None) = ap non_nil r.replaced in
    let o : is_one last ≡ is_one (value vars to) = ap is_one r.old in
    record { hands = omega arith; debts = omega arith; count = put-count vars vars' to None r.replaced }

keeps : {vars vars' : Variables} {b after : List Note} → vars' ≡ vars → Adds 0 0 0 0 b after → Answers vars vars' None b after
keeps {vars = vars} {vars' = vars'} e a =
    let ah = a.hands in let ad = a.debts in
    let q : non_nil vars' ≡ non_nil vars = ap non_nil e in
    record { hands = omega arith; debts = omega arith; count = ap length e }

same-notes : {b after : List Note} → after ≡ b → Adds 0 0 0 0 b after
same-notes {b = b} {after = after} e =
    let h : hands_of after ≡ hands_of b = ap hands_of e in
    let n : ended_in after ≡ ended_in b = ap ended_in e in
    let d : debts_in after ≡ debts_in b = ap debts_in e in
    let p : paid_in after ≡ paid_in b = ap paid_in e in
    record { hands = omega arith; debts = omega arith }

source-adds : {vars : Variables} {o : Op} {source : Source} {b ns : List Note} → HasSource vars o source b ns → Adds 0 0 0 0 b ns
source-adds (copy e s) = adds-none
source-adds (unown e s) = adds-none
source-adds (weak e s) = adds-none
source-adds (load e s) = adds-none
source-adds (get e s) = record { hands = omega arith; debts = omega arith }

both : {came made : ℕ} {b ns after : List Note} → Adds 0 0 0 0 b ns → Adds came 0 made 0 ns after → Adds came 0 made 0 b after
both d e = let dh = d.hands in let dd = d.debts in let eh = e.hands in let ed = e.debts in record { hands = omega arith; debts = omega arith }

plain-copy : (from : Origin) (k : ℕ) → IsPlain (acts.Copy from k)
plain-copy from k = record { ends_none = refl; makes_none = refl; pays_none = λ ns. refl }

plain-unowned : (h k : ℕ) → IsPlain (acts.UnownedOf h k)
plain-unowned h k = record { ends_none = refl; makes_none = refl; pays_none = λ ns. refl }

plain-weak : (h k : ℕ) → IsPlain (acts.WeakOf h k)
plain-weak h k = record { ends_none = refl; makes_none = refl; pays_none = λ ns. refl }

plain-load : (h : ℕ) (g : Got) → IsPlain (acts.Load h g)
plain-load h g = record { ends_none = refl; makes_none = refl; pays_none = λ ns. refl }

plain-full : (k : Kind) (from : Origin) → IsPlain (acts.CountFull k from)
plain-full k from = record { ends_none = refl; makes_none = refl; pays_none = λ ns. refl }

-- a swap ends the hand of the variable that it puts in
ended-swap : (c : CellName) (hand k : Option ℕ) (m : Option Held) (n : ℕ) → hand ≡ hand_in m → one_more_if (is_ending (acts.Swap c hand k)) n ≡ n + is_one m
ended-swap c hand k m n e = ap (λ h. one_more_if (is_ending (acts.Swap c h k)) n) e ∙ go m
  where
    go : (m : Option Held) → one_more_if (is_ending (acts.Swap c (hand_in m) k)) n ≡ n + is_one m
    go None = omega arith
    go (Some held) = omega arith

at-most-one : (m : Option Held) → is_one m ≤ 1
at-most-one None = omega arith
at-most-one (Some held) = omega arith

moves : {vars mid vars' : Variables} {last : Option Held} {b after : List Note} (to from : ℕ) (held : Held) → to < length vars → Replaces to (Some held) vars mid last → vars' ≡ put mid from None → Adds 0 0 0 0 b after → Answers vars vars' last b after
moves {vars = vars} {mid = mid} {vars' = vars'} {last = last} to from held l r v a =
    let ah = a.hands in let ad = a.debts in
    let p = put-new vars to (Some held) l in
    let q : non_nil mid ≡ non_nil (put vars to (Some held)) = ap non_nil r.replaced in
    let o : is_one last ≡ is_one (value vars to) = ap is_one r.old in
    let n = put-none mid from in
    let w : non_nil vars' ≡ non_nil (put mid from None) = ap non_nil v in
    let x = at-most-one (value mid from) in
    record { hands = omega arith; debts = omega arith; count = put-count mid vars' from None v ∙ put-count vars mid to (Some held) r.replaced }

-- the variable that an operation gains a reference for is one of the thread's
answers : (classes : List ClassDecl) (globals decls : List VarDecl) {p : ℕ} {came : Hands} {o : Op} {vars vars' : Variables} {answer : Answer} {last : Option Held} {b after : List Note} → valid.IsOp classes globals decls o → length vars ≡ length decls →
    IsAnswered p came o vars b vars' answer last after → Answers vars vars' last b after
answers classes globals decls is len (made {to = to} {class = class} {slot = slot} {k = k} {b = b} e n r) =
    replaces 1 to _ (let l = is.0 in omega arith) refl (record { hands = omega arith; debts = omega arith }) r
answers classes globals decls is len (full v) = keeps v (record { hands = omega arith; debts = omega arith })
answers classes globals decls is len (copied {to = to} {k = k} {held = held} e n g r) = replaces 1 to _ (let l = is.0.to_there in omega arith) refl (gain-adds [] refl (plain-copy (origins.Hand held.hand) k) g) r
answers classes globals decls is len (unowned_formed {to = to} {k = k} {held = held} e n g r) = replaces 1 to _ (let l = is.to_there in omega arith) refl (gain-adds [] refl (plain-unowned held.hand k) g) r
answers classes globals decls is len (weak_formed {to = to} {k = k} {entry = entry} {held = held} e n g r) = replaces 1 to _ (let l = is.to_there in omega arith) refl (gain-adds (Entry held.place (Some entry) ∷ []) refl (plain-weak held.hand k) g) r
answers classes globals decls is len (loaded {to = to} {k = k} {name = name} {held = held} e u n g r) = replaces 1 to _ (let l = is.0.to_there in omega arith) refl (gain-adds (Name held.place name ∷ []) refl (plain-load held.hand (gots.Hand k)) g) r
answers classes globals decls is len (found_dead {to = to} {held = held} e u g r) = replaces-none to (gain-adds [] refl (plain-load held.hand gots.Dead) g) r
answers classes globals decls is len (weakly_loaded {to = to} {k = k} {slot = slot} {name = name} {held = held} e u n g r) =
    replaces 1 to _ (let l = is.0.to_there in omega arith) refl (gain-adds (Name slot name ∷ Entry slot (Some held.place) ∷ []) refl (plain-load held.hand (gots.Hand k)) g) r
answers classes globals decls is len (found_nil {to = to} {held = held} e u g r) = replaces-none to (gain-adds [] refl (plain-load held.hand gots.Nil) g) r
answers classes globals decls is len (looked {to = to} e r) = replaces-none to (record { hands = omega arith; debts = omega arith }) r
answers classes globals decls is len (got {to = to} {k = k} {cell = cell} e n c g r) =
    replaces 1 to _ (let l = is.0 in omega arith) refl (let a = gain-adds [] refl (plain-copy (origins.Cell cell) k) g in let ah = a.hands in let ad = a.debts in record { hands = omega arith; debts = omega arith }) r
answers classes globals decls is len (put_in_nil {from = from} {cell = cell} {hand = hand} {vars = vars} {vars' = vars'} {b = b} e h v) =
    let s = ended-swap cell hand None (value vars from) (ended_in b) h in
    let p = put-none vars from in
    let q : non_nil vars' ≡ non_nil (put vars from None) = ap non_nil v in
    record { hands = omega arith; debts = omega arith; count = put-count vars vars' from None v }
answers classes globals decls is len (swapped {from = from} {k = k} {cell = cell} {hand = hand} {last = last} {vars = vars} {vars' = vars'} {b = b} e h v n c l) =
    let s = ended-swap cell hand (Some k) (value vars from) (ended_in b) h in
    let p = put-none vars from in
    let q : non_nil vars' ≡ non_nil (put vars from None) = ap non_nil v in
    let o : is_one last ≡ 1 = ap is_one l in
    record { hands = omega arith; debts = omega arith; count = put-count vars vars' from None v }
answers classes globals decls is len (no_owner e v n) = keeps v (same-notes n)
answers classes globals decls is len (given_up {v = v} e r n) = replaces-none v (same-notes n) r
answers classes globals decls is len (nothing_there e v n) = keeps v (same-notes n)
answers classes globals decls is len (moved {to = to} {from = from} {held = held} e r v n) = moves to from held (let l = is.0.to_there in omega arith) r v (same-notes n)
answers classes globals decls is len (from_nil {to = to} f r n) = replaces-none to (same-notes n) r
answers classes globals decls is len (count_full {source = source} s g v) = keeps v (both (source-adds s) (gain-adds [] refl (plain-full source.list source.origin) g))
answers classes globals decls is len (no_entry s g v) = keeps v (both (source-adds s) (refused-adds g))

-- ---- programs

-- each hand that came and didn't end is a variable's, and each debt is paid
record Worked (vars : Variables) (now : List Note) : Type 0 where
  hands : hands_of now ≤ non_nil vars + ended_in now
  debts : debts_in now ≡ paid_in now

pub all-at : {X : Type 0} (P : X → Type 0) (xs : List X) (i : ℕ) (x : X) → AllByRecursion P xs → slice_get xs i ≡ Some x → P x
all-at P [] i x a at = absurd (None≢Some x at)
all-at P (y ∷ xs) zero x a at = subst P (Some-inj at) a.0
all-at P (y ∷ xs) (suc i) x a at = all-at P xs i x a.1 at

-- what holds of each operation of a thread, and stays when a block's end is moved, holds of each in one list
pub all-ops : (P : Op → Type 0) → ((n : ℕ) (o : Op) → P o → P (moved_behind n o)) → (decl : ThreadDecl) (i : ℕ) (o : Op) → AllByRecursion (λ (ops : List Op). AllByRecursion P ops) decl.phases → slice_get (operations decl) i ≡ Some o → P o
all-ops P stays decl i o a at = all-at P (operations decl) i o (all_in_one P stays 0 decl.phases a) at

pub is_op_moved : (classes : List ClassDecl) (globals decls : List VarDecl) (n : ℕ) (o : Op) → valid.IsOp classes globals decls o → valid.IsOp classes globals decls (moved_behind n o)
is_op_moved classes globals decls n (op.New to class) is = is
is_op_moved classes globals decls n (op.Copy to from) is = is
is_op_moved classes globals decls n (op.Drop var) is = is
is_op_moved classes globals decls n (op.Move to from) is = is
is_op_moved classes globals decls n (op.Unown to of) is = is
is_op_moved classes globals decls n (op.Weak to of) is = is
is_op_moved classes globals decls n (op.Load to of) is = is
is_op_moved classes globals decls n (op.Get to c) is = is
is_op_moved classes globals decls n (op.Set c from) is = is
is_op_moved classes globals decls n (op.IfNil var to) is = is
is_op_moved classes globals decls n (op.IfSome var to) is = is

-- each operation of a valid thread is valid
pub ops_are : (classes : List ClassDecl) (globals : List VarDecl) (decl : ThreadDecl) → valid.IsThread classes globals decl → (i : ℕ) (o : Op) → slice_get (operations decl) i ≡ Some o → valid.IsOp classes globals decl.vars o
ops_are classes globals decl is i o = all-ops (valid.IsOp classes globals decl.vars) (is_op_moved classes globals decl.vars) decl i o is.ops

last-adds : {shape : HeapShape} {last : Option Held} {b after : List Note} → IsDropped shape last b after → Adds 0 (is_one last) 0 0 b after
last-adds nothing = adds-none
last-adds (dropped d) = drop-adds d

ops-count : (classes : List ClassDecl) (globals decls : List VarDecl) {shape : HeapShape} {p : ℕ} {came : Hands} {program : List Op} {n : ℕ} {vars : Variables} {now : List Note} → ((i : ℕ) (o : Op) → slice_get program i ≡ Some o → valid.IsOp classes globals decls o) →
    OpsDone shape p came program (length decls) n vars now → Worked vars now × (length vars ≡ length decls)
ops-count classes globals decls are (none {vars = vars} e) = (record { hands = omega arith; debts = refl }, ap length e ∙ length-replicate (length decls) None)
ops-count classes globals decls are (one {i = i} {o = o} {vars = vars} {vars' = vars'} d there e x) =
    let w = ops-count classes globals decls are d in let wh = w.0.hands in let wd = w.0.debts in
    let a = answers classes globals decls (are i o there) w.1 x.does in let ah = a.hands in let ad = a.debts in
    let l = last-adds x.ends in let lh = l.hands in let ld = l.debts in
    (record { hands = omega arith; debts = omega arith }, a.count ∙ w.1)
ops-count classes globals decls are (block d there is next forth) = ops-count classes globals decls are d

scope-count : {shape : HeapShape} {first vars : Variables} {n : ℕ} {b ns : List Note} → ScopeEnds shape first n vars b ns → Worked first b → Worked vars ns × (length vars ≡ length first)
scope-count begins w = let wh = w.hands in let wd = w.debts in (record { hands = omega arith; debts = omega arith }, refl)
scope-count (var_nil s l e n) w = scope-count s w
scope-count (var_dropped {v = v} {vars = vars} {vars' = vars'} s l e n r d) w =
    let i = scope-count s w in let ih = i.0.hands in let id = i.0.debts in
    let a = drop-adds d in let ah = a.hands in let ad = a.debts in
    let p = put-none vars v in
    let q : non_nil vars' ≡ non_nil (put vars v None) = ap non_nil r in
    let o : is_one (value vars v) ≡ 1 = ap is_one e in
    (record { hands = omega arith; debts = omega arith }, put-count vars vars' v None r ∙ i.1)

-- at its end a program has ended each hand and paid each debt
pub record Balanced (notes : List Note) : Type 0 where
  pub hands : hands_of notes ≤ ended_in notes
  pub debts : debts_in notes ≡ paid_in notes

program-balanced : (classes : List ClassDecl) (globals : List VarDecl) (decl : ThreadDecl) {shape : HeapShape} {p : ℕ} {came : Hands} {notes : List Note} → valid.IsThread classes globals decl → IsProgram shape p came (operations decl) (length decl.vars) notes → Balanced notes
program-balanced classes globals decl {shape = shape} {p = p} {came = came} {notes = notes} is x =
    let w = ops-count classes globals decl.vars (ops_are classes globals decl is) x.ops in
    let s = scope-count x.scope w.0 in let sh = s.0.hands in
    let len : length x.left ≡ length decl.vars = s.1 ∙ w.1 in
    let nils = none-non_nil x.left (λ v l. scopes_empty shape p came (operations decl) (length decl.vars) notes x v (omega arith)) in
    record { hands = omega arith; debts = s.0.debts }

end-balanced : {shape : HeapShape} {came : Hands} {n : ℕ} {notes : List Note} → GlobalsCleared shape came n notes → Balanced notes
end-balanced end_begins = record { hands = omega arith; debts = refl }
end-balanced (global_nil c l e) = let h = end-balanced c in let hh = h.hands in let hd = h.debts in record { hands = omega arith; debts = omega arith }
end-balanced (cleared c l e k r d) =
    let h = end-balanced c in let hh = h.hands in let hd = h.debts in
    let a = drop-adds d in let ah = a.hands in let ad = a.debts in record { hands = omega arith; debts = omega arith }

-- between two operations each debt is paid
pub ops_balanced : (script : Script) (p n : ℕ) (decl : ThreadDecl) (came : Hands) (vars : Variables) (notes : List Note) → valid.IsScript script → slice_get script.threads (p - 1) ≡ Some decl → OpsDone script.shape p came (operations decl) (length decl.vars) n vars notes →
    debts_in notes ≡ paid_in notes
ops_balanced script p n decl came vars notes is at d =
    let t = all-at (valid.IsThread script.classes script.globals) script.threads (p - 1) decl is.threads at in
    (ops-count script.classes script.globals decl.vars (ops_are script.classes script.globals decl t) d).0.debts

pub spelled_balanced : (script : Script) (came : Hands) (p : ℕ) (notes : List Note) → valid.IsScript script → Spells script came p notes → Balanced notes
spelled_balanced script came p notes is (thread {decl = decl} some at x) = program-balanced script.classes script.globals decl (all-at (valid.IsThread script.classes script.globals) script.threads (p - 1) decl is.threads at) x
spelled_balanced script came p notes is (end c e) = end-balanced c
