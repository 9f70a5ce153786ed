-- What the words of an event may name.
use Rattle.std.specs.Prelude.{ℕ, ◌≤◌, ◌-◌, List, length, Option}
use Rattle.arc_text.specs.Words.{number_in}
use Rattle.arc_model.specs.Ranges.{SlotsFit, EntriesFit}
use Rattle.arc_script.specs.declared.script.ClassDecl.{ClassDecl}
use Rattle.arc_script.specs.declared.script.VarDecl.{VarDecl}

-- how many slots, entries and threads there are, the classes and the globals
pub record Naming : Type 0 where
  pub slots : ℕ
  pub entries : ℕ
  pub threads : ℕ
  pub classes : List ClassDecl
  pub globals : List VarDecl

pub record NamingFits (slots entries threads : ℕ) (classes : List ClassDecl) (globals : List VarDecl) : Type 0 where
  pub slots_fit : SlotsFit slots
  pub entries_fit : EntriesFit entries
  pub few_threads : threads ≤ 64
  pub few_classes : length classes ≤ 64
  pub few_globals : length globals ≤ 64

-- the number of a slot, of an entry, of a thread. Thread 0 clears the globals at the end
abbrev pub slot_in : Naming → List ℕ → Option ℕ
slot_in scope w = number_in 0 (scope.slots - 1) w

abbrev pub entry_in : Naming → List ℕ → Option ℕ
entry_in scope w = number_in 0 (scope.entries - 1) w

abbrev pub thread_in : Naming → List ℕ → Option ℕ
thread_in scope w = number_in 0 scope.threads w
