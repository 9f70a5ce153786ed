-- What the lines so far say: of the heading, and of the threads and the schedule.
use Rattle.std.specs.Prelude.{ℕ, ◌<◌, ◌≤◌, ◌^◌, Bool, List, length, All}
use Rattle.arc_model.specs.Shapes.{CapNumbers}
use Rattle.arc_model.specs.Ranges.{SlotsFit, EntriesFit}
use Rattle.arc_script.specs.declared.script.ClassDecl.{ClassDecl}
use Rattle.arc_script.specs.declared.script.VarDecl.{VarDecl}
use Rattle.arc_script.specs.declared.script.ThreadDecl.{ThreadDecl}
use Rattle.arc_script.specs.declared.script.Op.{Op}

-- the name that a class line gives, and whether an object of the class that it declares is immortal
pub record Grouped : Type 0 where
  pub name : List ℕ
  pub immortal : Bool

-- group: what the unbroken run of class lines names, in which the last class line stands
pub record HeadSaid : Type 0 where
  pub version : ℕ
  pub slots : ℕ
  pub entries : ℕ
  pub caps : CapNumbers
  pub classes : List ClassDecl
  pub globals : List VarDecl
  pub group : List Grouped

-- the threads that are closed; of the open one the variables, the phases that are closed and the operations of the open phase, and the
-- places of those that begin an open block, the inmost first; how many operations there are in all; the schedule
pub record BodySaid : Type 0 where
  pub threads : List ThreadDecl
  pub vars : List VarDecl
  pub phases : List (List Op)
  pub ops : List Op
  pub opened : List ℕ
  pub count : ℕ
  pub schedule : List ℕ

-- what the code keeps of a heading at any time
pub record HeadFits (version slots entries : ℕ) (classes : List ClassDecl) (globals : List VarDecl) (group : List Grouped) : Type 0 where
  pub slots_fit : SlotsFit slots
  pub entries_fit : EntriesFit entries
  pub few_classes : length classes ≤ 64
  pub few_fields : All (λ (c : ClassDecl). length c.fields ≤ 8) classes
  pub few_globals : length globals ≤ 64
  pub few_names : length group < 2 ^ 32
