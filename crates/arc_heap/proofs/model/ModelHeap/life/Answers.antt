use Rattle.std.proofs.Common.{◌∙◌}
use Rattle.arc_heap.proofs.Asking.{life-told}
use Rattle.arc_heap.proofs.model.ModelHeap.life.Goals as goal

pub returns : goal.returns
returns c h st = c.told_life.ensures ∙ life-told c.args.self.now h st c.args.object
