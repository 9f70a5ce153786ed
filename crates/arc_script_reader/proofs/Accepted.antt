-- What a reader accepts is a script.
use Rattle.std.proofs.Common.{ℕ, List, Result, Ok, Err}
use Rattle.std.specs.Prelude.{IfOk}
use Rattle.arc_script.specs.declared.script.Script.{Script}
use Rattle.arc_script.specs.declared.script.ReadFault.{ReadFault}
use Rattle.arc_script.specs.Valid.{IsScript}
use Rattle.arc_script.specs.Grammar.{script_of}
use Rattle.arc_script.specs.Reading.{Reads}
use Rattle.arc_script.proofs.Told.{read_is_script}

pub valid_of : (text : List ℕ) (r : Result Script ReadFault) → Reads r (script_of text) → IfOk r (λ s. IsScript s)
valid_of text (Ok s) h = read_is_script text s h
valid_of text (Err e) h = tt
