use Rattle.std.proofs.Common.{arith}
use Rattle.arc_check.proofs.FewWords.{few_words}
use Rattle.arc_check.proofs.line.event_line.Goals as goal

pub returns-in_default : goal.returns-in_default
returns-in_default c = few_words c.args.scope.now c.args.step.now _ c.args.words.now (omega arith)
