-- What the code answers of a line of a heading.
use Rattle.std.specs.Prelude.{◌≡◌, ℕ, ◌+◌, Bool, true, false, Result, Ok, Err}
use Rattle.arc_script_reader.specs.declared.heading.Taken.{Taken}
use Rattle.arc_script_reader.specs.declared.heading.Taken.TheVariants as taken
use Rattle.arc_script.specs.declared.reason.LineFault.{LineFault}
use Rattle.arc_script.specs.declared.reason.LineFault.TheVariants as fault
use Rattle.arc_script.specs.declared.reason.Reason.{Reason}
use Rattle.arc_script.specs.Grammar.{Front}
use Rattle.arc_script.specs.HeadingText.{Headed, passed, entered, ends}

-- unless memory ran out, the line was entered or passed over or ends the heading or was refused as it was to be
abbrev pub Heads : Result Taken LineFault → Result Headed Reason → Front → Front → Type 0
Heads (Ok taken.Passed) said old new = (said ≡ Ok passed) × (new ≡ old)
Heads (Ok taken.Entered) said old new = said ≡ Ok (entered new)
Heads (Ok taken.Behind) said old new = (said ≡ Ok ends) × (new ≡ old)
Heads (Err fault.Memory) said old new = Unit {0}
Heads (Err (fault.Refused reason)) said old new = said ≡ Err reason

abbrev pub is_behind : Taken → Bool
is_behind taken.Behind = true
is_behind t = false

-- the number of the line right behind the heading's last line, and the byte there
abbrev pub last_behind : Taken → ℕ → ℕ → ℕ
last_behind taken.Entered n last = n + 1
last_behind t n last = last

abbrev pub end_behind : Taken → ℕ → ℕ → ℕ
end_behind taken.Entered here end = here
end_behind t here end = end
