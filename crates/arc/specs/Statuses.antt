-- What each status writes, the number that the program ends with, and what it tells of the reading.
use Rattle.std.specs.Prelude.{◌≡◌, ℕ, ◌⊎◌, Bool, true, false, List, ◌++◌, Option, codes}
use Rattle.std.specs.Fmt.{decimal}
use Rattle.std.specs.Process.{exit_status}
use Rattle.std.specs.declared.process.ExitCode.{ExitCode}
use Rattle.std.specs.Io.KnownBytes.{Appends}
use Rattle.arc_io.specs.Causes.{Rose}
use Rattle.arc_io.specs.Moved.{AppendsPrefix}
use Rattle.arc.specs.declared.status.Status.{Status}
use Rattle.arc.specs.declared.status.Status.TheVariants as status

-- the table of the statuses' numbers
abbrev pub number_of : Status → ℕ
number_of status.Done = 0
number_of status.NotLegal = 1
number_of status.Usage = 2
number_of status.ReadFault = 3
number_of status.WriteFault = 4
number_of status.Refused = 5
number_of status.TooLong = 6
number_of status.Memory = 7

-- the program ends with the number of this status
abbrev pub EndsWith : ExitCode → Status → Type 0
EndsWith code status = exit_status code ≡ number_of status

-- ---- the lines

abbrev pub usage_line : List ℕ
usage_line = codes "usage: arc run, replay, check, script COUNT START, storm COUNT START\n"

abbrev pub read_fault_line : List ℕ
read_fault_line = codes "read fault\n"

abbrev pub too_long_line : List ℕ
too_long_line = codes "too long\n"

abbrev pub memory_line : List ℕ
memory_line = codes "memory\n"

abbrev pub refused_text : ℕ → ℕ → List ℕ
refused_text line why = codes "refused line " ++ (decimal line ++ (codes " reason " ++ (decimal why ++ codes "\n")))

-- the whole text went out, or the sink failed and a part of the text went out
abbrev pub Sends : Option (List ℕ) → Option (List ℕ) → ℕ → ℕ → List ℕ → Type 0
Sends old new before now text = Appends old new text ⊎ (Rose before now × AppendsPrefix old new text)

abbrev pub ended : Bool → Status
ended true = status.Done
ended false = status.NotLegal

-- ---- what is told of the reading

-- a status that comes of reading input
abbrev pub IsOfInput : ExitCode → Type 0
IsOfInput code = EndsWith code status.ReadFault ⊎ EndsWith code status.Refused ⊎ EndsWith code status.TooLong

-- a status that comes only once all of the input was read
abbrev pub IsPastInput : ExitCode → Type 0
IsPastInput code = EndsWith code status.Done ⊎ EndsWith code status.NotLegal ⊎ EndsWith code status.WriteFault ⊎ EndsWith code status.Refused
