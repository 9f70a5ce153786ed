use Rattle.std.proofs.Common.{◌≡◌, ◌++◌, map}
use Rattle.arc_text.specs.Lines.{lines_of}
use Rattle.arc_script.specs.Group.{named, run_group}
use Rattle.arc_script_reader.specs.Ahead.{seen}
use Rattle.arc_script_reader.proofs.group.run_of.Given as goal

abbrev pub invariant-loop-line : goal.invariant-loop-line
invariant-loop-line l =
    map seen l.names.items ++ run_group l.version (lines_of l.line-iterator) ≡ named l.immortal (map (λ w. w.now) l.words) (run_group l.version (lines_of l.rest))
