-- What a reader has understood, and that a line was entered or refused as the grammar says.
use Rattle.std.specs.Prelude.{◌≡◌, ◌≤◌, List, length, All, Result, Ok, Err}
use Rattle.arc_script.specs.declared.reason.LineFault.{LineFault}
use Rattle.arc_script.specs.declared.reason.LineFault.TheVariants as fault
use Rattle.arc_script.specs.declared.reason.Reason.{Reason}
use Rattle.arc_script.specs.declared.script.ClassDecl.{ClassDecl}
use Rattle.arc_script.specs.declared.script.VarDecl.{VarDecl}
use Rattle.arc_script.specs.declared.script.ReadFault.{ReadFault}
use Rattle.arc_script.specs.declared.script.ReadFault.TheVariants as read
use Rattle.arc_script.specs.Grammar.{Refusal}

-- unless memory ran out, the line gave this or was refused as it was to be
abbrev pub Gives : {T : Type 0} → Result T LineFault → Result T Reason → Type 0
Gives (Ok x) said = said ≡ Ok x
Gives (Err fault.Memory) said = Unit {0}
Gives (Err (fault.Refused reason)) said = said ≡ Err reason

-- unless memory ran out, the line was entered or refused as it was to be
abbrev pub Enters : {T X : Type 0} → Result T LineFault → Result X Reason → X → Type 0
Enters (Ok x) said new = said ≡ Ok new
Enters (Err fault.Memory) said new = Unit {0}
Enters (Err (fault.Refused reason)) said new = said ≡ Err reason

-- unless memory ran out, the text is this or is refused as the grammar says
abbrev pub Reads : {X : Type 0} → Result X ReadFault → Result X Refusal → Type 0
Reads (Ok x) said = said ≡ Ok x
Reads (Err read.Memory) said = Unit {0}
Reads (Err (read.Refused line why)) said = said ≡ Err (record { line = line; why = why })

-- what an operation may name
pub record ScopeFits (classes : List ClassDecl) (globals vars : List VarDecl) : Type 0 where
  pub few_classes : length classes ≤ 64
  pub few_fields : All (λ (c : ClassDecl). length c.fields ≤ 8) classes
  pub few_globals : length globals ≤ 64
  pub few_vars : length vars ≤ 256
