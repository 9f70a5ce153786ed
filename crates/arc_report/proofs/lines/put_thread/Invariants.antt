use Rattle.std.proofs.Common.{◌≡◌, ◌++◌, take, codes}
use Rattle.std.specs.String.{string_bytes}
use Rattle.std.specs.List.{flat_map}
use Rattle.std.specs.Fmt.{decimal}
use Rattle.arc_script.specs.Valid.{class_names}
use Rattle.arc_report.specs.Lines.{line_text}
use Rattle.arc_report.proofs.lines.put_thread.Given as goal

abbrev pub invariant-loop-line : goal.invariant-loop-line
invariant-loop-line l =
    string_bytes l.out ≡ string_bytes l.fn.out ++ (codes "thread " ++ (decimal l.thread.thread ++ (codes "\n" ++ flat_map (line_text (class_names l.classes)) (take l.line-index l.line-items))))
