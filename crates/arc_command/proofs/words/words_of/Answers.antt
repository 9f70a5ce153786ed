use Rattle.std.proofs.Common.{arith}
use Rattle.arc_command.proofs.Asked.{all_read, no_more_read}
use Rattle.arc_command.proofs.words.words_of.Goals as goal

pub returns-after-loop-i : goal.returns-after-loop-i
returns-after-loop-i g c = all_read _ c.loop-i.words.items c.loop-i.i (omega (arith, c.loop-i-test.false, c.loop-i.auto.i-end)) c.loop-i.invariant.read

pub returns-in-None : goal.returns-in-None
returns-in-None g c =
    no_more_read _ c.loop-i.words.items c.loop-i.i (omega (arith, c.loop-i.auto.i-end)) c.in-None.ensures c.loop-i.invariant.read
