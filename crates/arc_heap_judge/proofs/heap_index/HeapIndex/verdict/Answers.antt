use Rattle.std.proofs.Common.{◌∙◌}
use Rattle.arc_heap_judge.proofs.Verdicts.{judged-is}
use Rattle.arc_heap_judge.proofs.heap_index.HeapIndex.verdict.Goals as goal

pub returns-clause-needs : goal.returns-clause-needs
returns-clause-needs c h st l range = c.first_wrong.ensures ∙ judged-is c.args.self.now h st c.args.thread c.args.act l range
