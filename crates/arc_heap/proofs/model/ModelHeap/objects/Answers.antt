use Rattle.std.proofs.Common.{◌∙◌}
use Rattle.arc_heap.proofs.Asking.{objects-told}
use Rattle.arc_heap.proofs.model.ModelHeap.objects.Goals as goal

pub returns : goal.returns
returns c h st = c.object_count.ensures ∙ objects-told c.args.self.now h st
