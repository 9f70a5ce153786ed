use Rattle.std.proofs.Common.{◌≡◌, ◌++◌, take}
use Rattle.std.specs.String.{string_bytes}
use Rattle.std.specs.List.{flat_map}
use Rattle.arc_script.specs.Valid.{class_names}
use Rattle.arc_report.specs.Lines.{thread_text}
use Rattle.arc_report.proofs.lines.put_threads.Given as goal

abbrev pub invariant-loop-thread : goal.invariant-loop-thread
invariant-loop-thread l =
    string_bytes l.out ≡ string_bytes l.fn.out ++ flat_map (thread_text (class_names l.classes)) (take l.thread-index l.threads)
