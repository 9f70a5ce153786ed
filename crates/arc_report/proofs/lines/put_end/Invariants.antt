use Rattle.std.proofs.Common.{◌≡◌, ◌++◌, take, codes}
use Rattle.std.specs.String.{string_bytes}
use Rattle.std.specs.List.{flat_map}
use Rattle.arc_script.specs.Valid.{class_names}
use Rattle.arc_report.specs.Lines.{end_line_text}
use Rattle.arc_report.proofs.lines.put_end.Given as goal

abbrev pub invariant-loop-line : goal.invariant-loop-line
invariant-loop-line l =
    string_bytes l.out ≡ string_bytes l.fn.out ++ (codes "end\n" ++ flat_map (end_line_text (class_names l.classes)) (take l.line-index l.lines))
