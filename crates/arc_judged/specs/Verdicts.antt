-- What the judge of histories says.
use Rattle.std.specs.Prelude.{◌≡◌, ℕ, Result, Ok, Err}
use Rattle.arc_check.specs.declared.fault.CheckFault.{CheckFault}
use Rattle.arc_check.specs.declared.fault.CheckFault.TheVariants as fault
use Rattle.arc_check.specs.declared.judge.Verdict.{Verdict}
use Rattle.arc_check.specs.declared.judge.Verdict.TheVariants as verdict

-- legal, with this number of events, unless memory ran out
abbrev pub SaysLegal : ℕ → Result Verdict CheckFault → Type 0
SaysLegal n (Ok (verdict.Legal m)) = m ≡ n
SaysLegal n (Ok (verdict.Illegal line why)) = ⊥
SaysLegal n (Err fault.Memory) = Unit {0}
SaysLegal n (Err (fault.Refused line why)) = ⊥
