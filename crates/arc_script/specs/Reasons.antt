-- The numbers of refusals.
use Rattle.std.specs.Prelude.{ℕ}
use Rattle.arc_script.specs.declared.reason.Reason.{Reason}
use Rattle.arc_script.specs.declared.reason.Reason.TheVariants as why

abbrev pub reason_number : Reason → ℕ
reason_number why.Byte = 1
reason_number why.FirstWord = 2
reason_number why.WordCount = 3
reason_number why.Number = 4
reason_number why.Spelling = 5
reason_number why.Again = 6
reason_number why.Unknown = 7
reason_number why.Kind = 8
reason_number why.Classes = 9
reason_number why.SameVariable = 10
reason_number why.TooMany = 11
reason_number why.WideCap = 12
reason_number why.WeakImmortal = 13
reason_number why.OpenBlock = 14
