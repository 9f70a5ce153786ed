-- Each premise of the law is needed, and they can all be met.
use Rattle.std.specs.Prelude.{ℕ, true, ◌≤◌, ◌≡◌, ◌≢◌, List, length, Option, Some, None, slice_get}
use Rattle.arc_model.specs.declared.event.Life.TheVariants.{Dead}
use Rattle.arc_model.specs.declared.shape.Kind.TheVariants.{Strong}
use Rattle.arc_model.specs.Heaps.{Object}
use Rattle.arc_model.specs.Cells.{field_shape, is_kind}
use Rattle.arc_model.specs.Life.{life_of}
use Rattle.arc_model.specs.History.{History, heap_after, IsLegal}
use Rattle.arc_spelling.specs.SpellingTies.Causes.{Judged}
use Rattle.arc_script.specs.declared.answer.Line.{Line}
use Rattle.arc_script.specs.declared.script.Script.{Script}
use Rattle.arc_script.specs.Valid.{IsScript}
use Rattle.arc_programs.specs.ProgramsTied.{HasProgram}
use Rattle.arc_quiet.specs.OneWay.{NoClassIsImmortal, StrongFieldsLeadOneWay}
use Rattle.arc_quiet.specs.Whole.{NoOtherThread, StandsLast}

-- The premises of the law that a program leaves nothing behind.
pub data Premise : Type 0 where
  -- the script is valid
  Valid : Premise
  -- no class is immortal
  Mortal : Premise
  -- strong fields lead one way
  OneWay : Premise
  -- the history is legal
  Legal : Premise
  -- the share of this thread is spelled to its end
  Finished : ℕ → Premise
  -- thread 0's events stand last
  Last : Premise
  -- no event is of another thread
  NoOther : Premise

-- all premises hold but the one that is named
pub record AllBut (failing : Option Premise) (script : Script) (h : History) : Type 0 where
  pub valid : failing ≢ Some Valid → IsScript script
  pub mortal : failing ≢ Some Mortal → NoClassIsImmortal script.shape
  pub one_way : failing ≢ Some OneWay → StrongFieldsLeadOneWay script.shape
  pub legal : failing ≢ Some Legal → IsLegal script.shape h
  pub finished : (p : ℕ) → p ≤ length script.threads → failing ≢ Some (Finished p) → (lines : List Line) × HasProgram Judged script p lines h
  pub last : failing ≢ Some Last → StandsLast 0 h
  pub no_other : failing ≢ Some NoOther → NoOtherThread script h

-- without this premise an object may be left: in some history all others hold, and the first object isn't dead
abbrev pub IsNeeded : Premise → Type 0
IsNeeded premise = (script : Script) × (h : History) × AllBut (Some premise) script h × (o : Object) × (slice_get (heap_after h).objects 0 ≡ Some o) × (life_of script.shape o ≢ Dead)

-- Each premise is needed: that the end section runs and that each other thread comes to its end, too.
pub record EachIsNeeded : Type 0 where
  pub valid : IsNeeded Valid
  pub mortal : IsNeeded Mortal
  pub one_way : IsNeeded OneWay
  pub legal : IsNeeded Legal
  pub end_section : IsNeeded (Finished 0)
  pub threads : IsNeeded (Finished 1)
  pub last : IsNeeded Last
  pub no_other : IsNeeded NoOther

-- All premises hold of some history in which an object whose class has a strong field was made.
abbrev pub CanBeMet : Type 0
CanBeMet = (script : Script) × (h : History) × AllBut None script h × (o : Object) × (slice_get (heap_after h).objects 0 ≡ Some o) × (is_kind Strong (field_shape script.shape 0 (Some o)) ≡ true)
