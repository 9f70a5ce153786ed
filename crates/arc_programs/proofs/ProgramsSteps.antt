-- One operation more, for a stepper over the notes of its thread: each lemma is what its last step needs. Where the destination
-- held something, whatever completes the drop of that completes the operation.
use Rattle.std.proofs.Common.{◌≡◌, ◌+◌, ◌<◌, ◌≤◌, ℕ, zero, suc, true, List, ◌∷◌, Option, Some, None, ◌⊎◌, inl, inr, refl, sym, subst, length, arith}
use Rattle.std.proofs.lemmas.Bool.{cases_lt}
use Rattle.std.specs.Prelude.{slice_get, take}
use Rattle.arc_model.specs.declared.answer.Answer.{Answer}
use Rattle.arc_model.specs.declared.answer.Answer.TheVariants as answers
use Rattle.arc_model.specs.declared.event.Origin.TheVariants as origins
use Rattle.arc_model.specs.declared.event.Act.TheVariants as acts
use Rattle.arc_model.specs.declared.shape.Kind.TheVariants.{Strong}
use Rattle.arc_model.specs.Shapes.{HeapShape}
use Rattle.arc_spelling.specs.Spelling.{Note, hands_of, IsDrop}
use Rattle.arc_spelling.specs.Spelling.Note.{Did, Line, Operation}
use Rattle.arc_spelling.specs.SpellingGains.Spare.{Unclaimed}
use Rattle.arc_spelling.specs.SpellingGains.IsReady.{start as ready}
use Rattle.arc_spelling.specs.SpellingGains.IsSettled.{unclaimed}
use Rattle.arc_script.specs.declared.script.Op.{Op}
use Rattle.arc_script.specs.declared.script.Op.TheVariants as op
use Rattle.arc_script.specs.Valid.{begins_block}
use Rattle.arc_script.specs.OneList.{numbered}
use Rattle.arc_programs.specs.Variables.{Held, Variables, value, put}
use Rattle.arc_programs.specs.Programs.{Hands, made_of, OpsDone, goes_on, IsAnswered, ScopeEnds}
use Rattle.arc_programs.specs.Programs.IsDropped.{nothing, dropped}
use Rattle.arc_programs.specs.Programs.IsFromNil.{copy as copy_from_nil}
use Rattle.arc_programs.specs.Programs.IsAnswered.{made, full, copied, given_up, nothing_there, from_nil}
use Rattle.arc_programs.specs.Programs.OpsDone.{one, block}
use Rattle.arc_programs.specs.Programs.ScopeEnds.{nil as var_nil}

-- the number of the operation at this place
abbrev pub number_at : List Op → ℕ → ℕ
number_at program i = numbered (take (i + 1) program)

-- the operation at this place is next, after these notes
pub record IsNext (shape : HeapShape) (p : ℕ) (came : Hands) (program : List Op) (count i : ℕ) (o : Op) (vars : Variables) (b : List Note) : Type 0 where
  pub done : OpsDone shape p came program count i vars b
  pub there : slice_get program i ≡ Some o

-- it answers and has nothing to drop
pub answers_last : {shape : HeapShape} {p count i : ℕ} {came : Hands} {program : List Op} {o : Op} {vars vars' : Variables} {answer : Answer} {b ns : List Note} →
    IsNext shape p came program count i o vars b → IsAnswered p came o vars (Operation (number_at program i) ∷ b) vars' answer None ns →
    OpsDone shape p came program count (i + 1) vars' (Line answer ∷ ns)
answers_last {answer = answer} {ns = ns} n d = one n.done n.there refl (record { answer = answer; last = None; answered = ns; does = d; ends = nothing })

-- it answers, and then drops what its destination held
pub drops_last : {shape : HeapShape} {p count i : ℕ} {came : Hands} {program : List Op} {o : Op} {vars vars' : Variables} {answer : Answer} {old : Held} {b ns after : List Note} →
    IsNext shape p came program count i o vars b → IsAnswered p came o vars (Operation (number_at program i) ∷ b) vars' answer (Some old) ns →
    IsDrop shape old.kind old.place old.hand (Line answer ∷ ns) after →
    OpsDone shape p came program count (i + 1) vars' after
drops_last {answer = answer} {old = old} {ns = ns} n d x = one n.done n.there refl (record { answer = answer; last = Some old; answered = ns; does = d; ends = dropped x })

-- a block begins there: it notes nothing
pub goes_to_block : {shape : HeapShape} {p count i n : ℕ} {came : Hands} {program : List Op} {o : Op} {vars : Variables} {b : List Note} →
    IsNext shape p came program count i o vars b → begins_block o ≡ true → n ≡ goes_on vars i o → i < n → OpsDone shape p came program count n vars b
goes_to_block n begins next forth = block n.done n.there begins next forth

-- ---- how operations over strong variables answer; what the destination held is the last thing to drop

pub new_made : (p to class slot : ℕ) (came : Hands) (last : Option Held) (vars : Variables) (b : List Note) → last ≡ value vars to →
    IsAnswered p came (op.New to class) vars b (put vars to (Some (record { hand = hands_of b + 1; kind = Strong; place = slot })))
    (answers.New (record { class = class; thread = p; number = made_of b + 1 })) last (Did (acts.New (hands_of b + 1) class slot) ∷ b)
new_made p to class slot came last vars b old = made refl refl (record { replaced = refl; old = old })

pub new_full : (p to class : ℕ) (came : Hands) (vars : Variables) (b : List Note) → IsAnswered p came (op.New to class) vars b vars answers.Full None (Did acts.Full ∷ b)
new_full p to class came vars b = full refl

pub copy_made : (p to from : ℕ) (came : Hands) (held : Held) (last : Option Held) (vars : Variables) (b : List Note) → value vars from ≡ Some held → last ≡ value vars to →
    IsAnswered p came (op.Copy to from) vars b (put vars to (Some (record { hand = hands_of b + 1; kind = held.kind; place = held.place })))
    answers.Ok last (Did (acts.Copy (origins.Hand held.hand) (hands_of b + 1)) ∷ b)
copy_made p to from came held last vars b e old = copied e refl (record { spare = Unclaimed; decided = b; ready = ready; settled = unclaimed }) (record { replaced = refl; old = old })

pub copy_of_nil : (p to from : ℕ) (came : Hands) (last : Option Held) (vars : Variables) (b : List Note) → value vars from ≡ None → last ≡ value vars to →
    IsAnswered p came (op.Copy to from) vars b (put vars to None) answers.Nil last b
copy_of_nil p to from came last vars b e old = from_nil (copy_from_nil e) (record { replaced = refl; old = old }) refl

pub drop_of : (p v : ℕ) (came : Hands) (held : Held) (vars : Variables) (b : List Note) → value vars v ≡ Some held →
    IsAnswered p came (op.Drop v) vars b (put vars v None) answers.Ok (Some held) b
drop_of p v came held vars b e = given_up e (record { replaced = refl; old = sym e }) refl

pub drop_of_nil : (p v : ℕ) (came : Hands) (vars : Variables) (b : List Note) → value vars v ≡ None → IsAnswered p came (op.Drop v) vars b vars answers.Nil None b
drop_of_nil p v came vars b e = nothing_there e refl refl

-- ---- the end of a scope goes on behind variables that are nil

pub scope_goes_on : {shape : HeapShape} {first vars : Variables} {v : ℕ} {b ns : List Note} → ScopeEnds shape first v vars b ns → (w : ℕ) → v ≤ w → w ≤ length vars →
    ((u : ℕ) → v ≤ u → u < w → value vars u ≡ None) → ScopeEnds shape first w vars b ns
scope_goes_on {shape = shape} {first = first} {vars = vars} {v = v} {b = b} {ns = ns} s w least most nils = go w least most nils
  where
    go : (w : ℕ) → v ≤ w → w ≤ length vars → ((u : ℕ) → v ≤ u → u < w → value vars u ≡ None) → ScopeEnds shape first w vars b ns
    go zero least most nils = let same : v ≡ 0 = omega arith in subst (λ n. ScopeEnds shape first n vars b ns) same s
    go (suc w) least most nils = step (cases_lt w v) (λ above. go w above (omega arith) (λ u above below. nils u above (omega arith)))
      where
        step : (w < v) ⊎ (v ≤ w) → (v ≤ w → ScopeEnds shape first w vars b ns) → ScopeEnds shape first (suc w) vars b ns
        step (inl below) before = let same : v ≡ suc w = omega arith in subst (λ n. ScopeEnds shape first n vars b ns) same s
        step (inr above) before = var_nil (before above) (omega arith) (nils w above (omega arith)) (omega arith)
