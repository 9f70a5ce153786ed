-- How a thread's events and lines spell its program. A list of notes has the newest first, and each relation goes from the
-- notes before to the notes after.
use Rattle.std.specs.Prelude.{ℕ, Bool, true, false, ◌≡◌, ◌+◌, ◌<◌, List, [], ◌∷◌, length, take, slice_get, if◌then◌else◌, is_some, Option, Some, None}
use Rattle.arc_model.specs.declared.answer.Answer.{Answer}
use Rattle.arc_model.specs.declared.answer.Answer.TheVariants as answers
use Rattle.arc_model.specs.declared.event.ObjectName.{ObjectName}
use Rattle.arc_model.specs.declared.event.CellName.{CellName}
use Rattle.arc_model.specs.declared.event.CellName.TheVariants as cells
use Rattle.arc_model.specs.declared.event.Origin.{Origin}
use Rattle.arc_model.specs.declared.event.Origin.TheVariants as origins
use Rattle.arc_model.specs.declared.event.Got.TheVariants as gots
use Rattle.arc_model.specs.declared.event.Act.{Act}
use Rattle.arc_model.specs.declared.event.Act.TheVariants as acts
use Rattle.arc_model.specs.declared.shape.Kind.{Kind}
use Rattle.arc_model.specs.declared.shape.Kind.TheVariants.{Strong, Unowned, Weak}
use Rattle.arc_model.specs.Shapes.{HeapShape}
use Rattle.arc_spelling.specs.Spelling.{Note, one_more_if, hands_of, IsDrop}
use Rattle.arc_spelling.specs.Spelling.Note.{Did, Line, Operation, Name, Entry, Refers}
use Rattle.arc_spelling.specs.SpellingGains.{IsGain, IsRefused}
use Rattle.arc_model.specs.References.{Reference}
use Rattle.arc_script.specs.declared.script.Op.{Op}
use Rattle.arc_script.specs.declared.script.Op.TheVariants as op
use Rattle.arc_script.specs.declared.script.OpCell.{OpCell}
use Rattle.arc_script.specs.declared.script.OpCell.TheVariants as opcell
use Rattle.arc_script.specs.Valid.{begins_block}
use Rattle.arc_script.specs.OneList.{numbered}
use Rattle.arc_programs.specs.Variables.{Held, Variables, all_nil, value, put, hand_in, cell_of}

abbrev pub makes : Act → Bool
makes (acts.New k c s) = true
makes _ = false

-- how many objects the thread made
abbrev pub made_of : List Note → ℕ
made_of [] = 0
made_of (Did a ∷ ns) = one_more_if (makes a) (made_of ns)
made_of (_ ∷ ns) = made_of ns

-- What each hand of the thread refers to when it comes to the thread. It is asked for a hand that comes out of a cell, which
-- other threads write, too.
abbrev pub Hands : Type 0
Hands = ℕ → Option Reference

-- The last thing that an operation does: a reference is dropped, where there is one.
pub data IsDropped (shape : HeapShape) : (old : Option Held) (before after : List Note) → Type 0 where
  nothing : {b : List Note} → IsDropped shape None b b
  dropped : {held : Held} {b after : List Note} → IsDrop shape held.kind held.place held.hand b after → IsDropped shape (Some held) b after

-- The operation would take a reference for the variable `to` from a variable that is nil, or from a field through an owner
-- that is nil.
pub data IsFromNil (vars : Variables) : (o : Op) (to : ℕ) → Type 0 where
  copy : {to from : ℕ} → value vars from ≡ None → IsFromNil vars (op.Copy to from) to
  move : {to from : ℕ} → value vars from ≡ None → IsFromNil vars (op.Move to from) to
  unown : {to of : ℕ} → value vars of ≡ None → IsFromNil vars (op.Unown to of) to
  weak : {to of : ℕ} → value vars of ≡ None → IsFromNil vars (op.Weak to of) to
  load : {to of : ℕ} → value vars of ≡ None → IsFromNil vars (op.Load to of) to
  get : {to owner field : ℕ} → value vars owner ≡ None → IsFromNil vars (op.Get to (opcell.Field owner field)) to

-- Where a gain takes its reference from, the kind of reference that is there, where that leads, and which list of its object
-- grows. What the place of a weak one is doesn't matter to a gain.
pub record Source : Type 0 where
  pub origin : Origin
  pub kind : Kind
  pub place : ℕ
  pub list : Kind

abbrev pub of_hand : Held → Kind → Source
of_hand held list = record { origin = origins.Hand held.hand; kind = held.kind; place = held.place; list = list }

-- the source of an operation that gains, with what is read of it before
pub data HasSource (vars : Variables) : (o : Op) (source : Source) (before after : List Note) → Type 0 where
  copy : {to from : ℕ} {held : Held} {source : Source} {b : List Note} →
      value vars from ≡ Some held → source ≡ of_hand held held.kind → HasSource vars (op.Copy to from) source b b
  unown : {to of : ℕ} {held : Held} {source : Source} {b : List Note} →
      value vars of ≡ Some held → source ≡ of_hand held Unowned → HasSource vars (op.Unown to of) source b b
  weak : {to of : ℕ} {held : Held} {source : Source} {b : List Note} →
      value vars of ≡ Some held → source ≡ of_hand held Weak → HasSource vars (op.Weak to of) source b b
  load : {to of : ℕ} {held : Held} {source : Source} {b : List Note} →
      value vars of ≡ Some held → source ≡ of_hand held Strong → HasSource vars (op.Load to of) source b b
  get : {to : ℕ} {c : OpCell} {cell : CellName} {kind : Kind} {place : ℕ} {source : Source} {b : List Note} →
      cell_of vars c ≡ Some cell → source ≡ record { origin = origins.Cell cell; kind = kind; place = place; list = kind } →
      HasSource vars (op.Get to c) source b (Refers cell kind place ∷ b)

-- a variable has its new value, and what it held before is what is dropped last
pub record Replaces (to : ℕ) (new : Option Held) (vars vars_after : Variables) (last : Option Held) : Type 0 where
  pub replaced : vars_after ≡ put vars to new
  pub old : last ≡ value vars to

-- An operation up to its line: the variables and the notes before and after, the answer, and what is dropped last. After `full`,
-- `noentry` and `countfull` the destination keeps its value; after every other answer it has the new reference, or is nil
-- after `nil` and `dead`.
pub data IsAnswered (p : ℕ) (came : Hands) : (o : Op) (vars : Variables) (before : List Note) (vars_after : Variables) (answer : Answer) (last : Option Held) (after : List Note) → Type 0 where
  -- `new`: the thread's next object, in its next hand
  made : {to class slot k : ℕ} {name : ObjectName} {vars vars' : Variables} {last : Option Held} {b : List Note} →
      k ≡ hands_of b + 1 → name ≡ record { class = class; thread = p; number = made_of b + 1 } →
      Replaces to (Some (record { hand = k; kind = Strong; place = slot })) vars vars' last →
      IsAnswered p came (op.New to class) vars b vars' (answers.New name) last (Did (acts.New k class slot) ∷ b)
  full : {to class : ℕ} {vars vars' : Variables} {b : List Note} →
      vars' ≡ vars → IsAnswered p came (op.New to class) vars b vars' answers.Full None (Did acts.Full ∷ b)
  -- `copy`, `unown`, `weak`: another reference to the same object
  copied : {to from k : ℕ} {held : Held} {vars vars' : Variables} {last : Option Held} {b ns : List Note} →
      value vars from ≡ Some held → k ≡ hands_of b + 1 →
      IsGain held.kind held.place held.kind (acts.Copy (origins.Hand held.hand) k) [] b ns →
      Replaces to (Some (record { hand = k; kind = held.kind; place = held.place })) vars vars' last →
      IsAnswered p came (op.Copy to from) vars b vars' answers.Ok last ns
  unowned_formed : {to of k : ℕ} {held : Held} {vars vars' : Variables} {last : Option Held} {b ns : List Note} →
      value vars of ≡ Some held → k ≡ hands_of b + 1 →
      IsGain held.kind held.place Unowned (acts.UnownedOf held.hand k) [] b ns →
      Replaces to (Some (record { hand = k; kind = Unowned; place = held.place })) vars vars' last →
      IsAnswered p came (op.Unown to of) vars b vars' answers.Ok last ns
  weak_formed : {to of k entry : ℕ} {held : Held} {vars vars' : Variables} {last : Option Held} {b ns : List Note} →
      value vars of ≡ Some held → k ≡ hands_of b + 1 →
      IsGain held.kind held.place Weak (acts.WeakOf held.hand k) (Entry held.place (Some entry) ∷ []) b ns →
      Replaces to (Some (record { hand = k; kind = Weak; place = entry })) vars vars' last →
      IsAnswered p came (op.Weak to of) vars b vars' answers.Ok last ns
  -- `load` of an unowned reference
  loaded : {to of k : ℕ} {name : ObjectName} {held : Held} {vars vars' : Variables} {last : Option Held} {b ns : List Note} →
      value vars of ≡ Some held → held.kind ≡ Unowned → k ≡ hands_of b + 1 →
      IsGain Unowned held.place Strong (acts.Load held.hand (gots.Hand k)) (Name held.place name ∷ []) b ns →
      Replaces to (Some (record { hand = k; kind = Strong; place = held.place })) vars vars' last →
      IsAnswered p came (op.Load to of) vars b vars' (answers.Got name) last ns
  found_dead : {to of : ℕ} {held : Held} {vars vars' : Variables} {last : Option Held} {b ns : List Note} →
      value vars of ≡ Some held → held.kind ≡ Unowned →
      IsGain Unowned held.place Strong (acts.Load held.hand gots.Dead) [] b ns → Replaces to None vars vars' last →
      IsAnswered p came (op.Load to of) vars b vars' answers.Dead last ns
  -- `load` of a weak reference, by the entry that its object has
  weakly_loaded : {to of k slot : ℕ} {name : ObjectName} {held : Held} {vars vars' : Variables} {last : Option Held} {b ns : List Note} →
      value vars of ≡ Some held → held.kind ≡ Weak → k ≡ hands_of b + 1 →
      IsGain Weak held.place Strong (acts.Load held.hand (gots.Hand k)) (Name slot name ∷ Entry slot (Some held.place) ∷ []) b ns →
      Replaces to (Some (record { hand = k; kind = Strong; place = slot })) vars vars' last →
      IsAnswered p came (op.Load to of) vars b vars' (answers.Got name) last ns
  found_nil : {to of : ℕ} {held : Held} {vars vars' : Variables} {last : Option Held} {b ns : List Note} →
      value vars of ≡ Some held → held.kind ≡ Weak →
      IsGain Weak held.place Strong (acts.Load held.hand gots.Nil) [] b ns → Replaces to None vars vars' last →
      IsAnswered p came (op.Load to of) vars b vars' answers.Nil last ns
  -- `get`: the cell is nil, or its reference is copied
  looked : {to : ℕ} {c : OpCell} {cell : CellName} {vars vars' : Variables} {last : Option Held} {b : List Note} →
      cell_of vars c ≡ Some cell → Replaces to None vars vars' last →
      IsAnswered p came (op.Get to c) vars b vars' answers.Nil last (Did (acts.Look cell) ∷ b)
  got : {to k place : ℕ} {kind : Kind} {c : OpCell} {cell : CellName} {vars vars' : Variables} {last : Option Held} {b ns : List Note} →
      cell_of vars c ≡ Some cell → k ≡ hands_of b + 1 → came k ≡ Some (record { kind = kind; place = place }) →
      IsGain kind place kind (acts.Copy (origins.Cell cell) k) [] (Refers cell kind place ∷ b) ns →
      Replaces to (Some (record { hand = k; kind = kind; place = place })) vars vars' last →
      IsAnswered p came (op.Get to c) vars b vars' answers.Ok last ns
  -- `set`: the variable's reference, or nil, goes into the cell, and what was there is dropped last
  put_in_nil : {from : ℕ} {c : OpCell} {cell : CellName} {hand : Option ℕ} {vars vars' : Variables} {b : List Note} →
      cell_of vars c ≡ Some cell → hand ≡ hand_in (value vars from) → vars' ≡ put vars from None →
      IsAnswered p came (op.Set c from) vars b vars' answers.Ok None (Did (acts.Swap cell hand None) ∷ b)
  swapped : {from k : ℕ} {there : Reference} {c : OpCell} {cell : CellName} {hand : Option ℕ} {last : Option Held} {vars vars' : Variables} {b : List Note} →
      cell_of vars c ≡ Some cell → hand ≡ hand_in (value vars from) → vars' ≡ put vars from None →
      k ≡ hands_of b + 1 → came k ≡ Some there → last ≡ Some (record { hand = k; kind = there.kind; place = there.place }) →
      IsAnswered p came (op.Set c from) vars b vars' answers.Ok last (Did (acts.Swap cell hand (Some k)) ∷ b)
  no_owner : {from : ℕ} {c : OpCell} {vars vars' : Variables} {b ns : List Note} →
      cell_of vars c ≡ None → vars' ≡ vars → ns ≡ b → IsAnswered p came (op.Set c from) vars b vars' answers.Nil None ns
  -- `drop` and `move`
  given_up : {v : ℕ} {held : Held} {vars vars' : Variables} {last : Option Held} {b ns : List Note} →
      value vars v ≡ Some held → Replaces v None vars vars' last → ns ≡ b →
      IsAnswered p came (op.Drop v) vars b vars' answers.Ok last ns
  nothing_there : {v : ℕ} {vars vars' : Variables} {b ns : List Note} →
      value vars v ≡ None → vars' ≡ vars → ns ≡ b → IsAnswered p came (op.Drop v) vars b vars' answers.Nil None ns
  moved : {to from : ℕ} {held : Held} {vars mid vars' : Variables} {last : Option Held} {b ns : List Note} →
      value vars from ≡ Some held → Replaces to (Some held) vars mid last → vars' ≡ put mid from None → ns ≡ b →
      IsAnswered p came (op.Move to from) vars b vars' answers.Ok last ns
  -- each operation that takes a reference from somewhere
  from_nil : {o : Op} {to : ℕ} {vars vars' : Variables} {last : Option Held} {b ns : List Note} →
      IsFromNil vars o to → Replaces to None vars vars' last → ns ≡ b →
      IsAnswered p came o vars b vars' answers.Nil last ns
  count_full : {o : Op} {source : Source} {vars vars' : Variables} {b s ns : List Note} →
      HasSource vars o source b s →
      IsGain source.kind source.place source.list (acts.CountFull source.list source.origin) [] s ns → vars' ≡ vars →
      IsAnswered p came o vars b vars' answers.CountFull None ns
  no_entry : {o : Op} {source : Source} {vars vars' : Variables} {b s ns : List Note} →
      HasSource vars o source b s → IsRefused source.kind source.place source.list s ns → vars' ≡ vars →
      IsAnswered p came o vars b vars' answers.NoEntry None ns

-- The operation with number n: it begins, its line follows what it did, and then the old reference is dropped, with the lines of the
-- deinits that this brings about.
pub record IsOp (shape : HeapShape) (p : ℕ) (came : Hands) (n : ℕ) (o : Op) (vars : Variables) (before : List Note) (vars_after : Variables) (after : List Note) : Type 0 where
  pub answer : Answer
  pub last : Option Held
  pub answered : List Note
  pub does : IsAnswered p came o vars (Operation n ∷ before) vars_after answer last answered
  pub ends : IsDropped shape last (Line answer ∷ answered) after

-- where a thread goes on that comes to a block at place i: in the block where that is run, else behind it
abbrev pub goes_on : Variables → ℕ → Op → ℕ
goes_on vars i (op.IfNil v to) = if is_some (value vars v) then to else i + 1
goes_on vars i (op.IfSome v to) = if is_some (value vars v) then i + 1 else to
goes_on vars i o = i + 1

-- A program is done up to a place, and these are the variables then, and the notes. All variables are nil at first. An operation has
-- its number among all that have one, run or not. At the beginning of a block there is nothing to note, and a thread never goes back.
pub data OpsDone (shape : HeapShape) (p : ℕ) (came : Hands) (program : List Op) (count : ℕ) : (done : ℕ) (vars : Variables) (now : List Note) → Type 0 where
  none : {vars : Variables} → vars ≡ all_nil count → OpsDone shape p came program count 0 vars []
  one : {i n : ℕ} {o : Op} {vars vars' : Variables} {b now : List Note} →
      OpsDone shape p came program count i vars b → slice_get program i ≡ Some o → n ≡ i + 1 →
      IsOp shape p came (numbered (take n program)) o vars b vars' now → OpsDone shape p came program count n vars' now
  block : {i n : ℕ} {o : Op} {vars : Variables} {now : List Note} →
      OpsDone shape p came program count i vars now → slice_get program i ≡ Some o → begins_block o ≡ true → n ≡ goes_on vars i o → i < n →
      OpsDone shape p came program count n vars now

-- The end of the scope: the variables below one are nil, those that weren't were dropped, in the order of declaration.
pub data ScopeEnds (shape : HeapShape) (first : Variables) : (done : ℕ) (vars : Variables) (before after : List Note) → Type 0 where
  begins : {b : List Note} → ScopeEnds shape first 0 first b (Operation 0 ∷ b)
  nil : {v w : ℕ} {vars : Variables} {b ns : List Note} →
      ScopeEnds shape first v vars b ns → v < length vars → value vars v ≡ None → w ≡ v + 1 → ScopeEnds shape first w vars b ns
  dropped : {v w : ℕ} {held : Held} {vars vars' : Variables} {b ns after : List Note} →
      ScopeEnds shape first v vars b ns → v < length vars → value vars v ≡ Some held → w ≡ v + 1 → vars' ≡ put vars v None →
      IsDrop shape held.kind held.place held.hand ns after → ScopeEnds shape first w vars' b after

-- A thread's program: its operations, and then the end of its scope.
pub record IsProgram (shape : HeapShape) (p : ℕ) (came : Hands) (program : List Op) (count : ℕ) (notes : List Note) : Type 0 where
  pub vars : Variables
  pub worked : List Note
  pub ops : OpsDone shape p came program count (length program) vars worked
  pub left : Variables
  pub scope : ScopeEnds shape vars (length vars) left worked notes

-- Thread 0, behind all others: the globals below one are cleared, in the order of declaration, and what each had is dropped.
pub data GlobalsCleared (shape : HeapShape) (came : Hands) : (done : ℕ) (now : List Note) → Type 0 where
  begins : GlobalsCleared shape came 0 (Operation 0 ∷ [])
  nil : {g n : ℕ} {b : List Note} →
      GlobalsCleared shape came g b → g < length shape.globals → n ≡ g + 1 →
      GlobalsCleared shape came n (Did (acts.Swap (cells.Global g) None None) ∷ b)
  cleared : {g n k : ℕ} {there : Reference} {b after : List Note} →
      GlobalsCleared shape came g b → g < length shape.globals → n ≡ g + 1 → k ≡ hands_of b + 1 → came k ≡ Some there →
      IsDrop shape there.kind there.place k (Did (acts.Swap (cells.Global g) None (Some k)) ∷ b) after →
      GlobalsCleared shape came n after
