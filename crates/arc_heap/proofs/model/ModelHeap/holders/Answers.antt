use Rattle.std.proofs.Common.{◌∙◌}
use Rattle.arc_heap.proofs.Asking.{holders-told}
use Rattle.arc_heap.proofs.model.ModelHeap.holders.Goals as goal

pub returns : goal.returns
returns c h st = c.told_holders.ensures ∙ holders-told c.args.self.now h st c.args.object c.args.list
