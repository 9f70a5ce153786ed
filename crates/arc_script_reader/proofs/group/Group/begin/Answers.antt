use Rattle.std.proofs.Common.{map}
use Rattle.arc_text.specs.Lines.{lines_of}
use Rattle.arc_script_reader.proofs.RunLength.{few_in_run}
use Rattle.arc_script_reader.proofs.group.Group.begin.Goals as goal

pub returns-clause-few : goal.returns-clause-few
returns-clause-few c = rw c.in_ok-self-inside.ensures (few_in_run c.args.version c.args.immortal (map (λ w. w.now) c.args.words.now) (lines_of c.args.rest.now))
