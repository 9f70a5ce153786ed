use Rattle.std.proofs.Common.{ap, ◌∙◌}
use Rattle.std.specs.Prelude.{find}
use Rattle.arc_model.specs.Holders.{same_id}
use Rattle.arc_heap_index.specs.declared.counted.Counted.{Counted}
use Rattle.arc_heap.specs.declared.model.ModelHeap.TheInside.{Inside}
use Rattle.arc_heap.specs.Asked.{life_told}
use Rattle.arc_heap_judge.specs.Index.{Index}
use Rattle.arc_heap.proofs.model.ModelHeap.told_life.Goals as goal

pub returns : goal.returns
returns c =
    let objects = ap (λ (m : Inside). m.index.objects) c.self-inside.view_is ∙ ap (λ (ix : Index). ix.objects) c.self.view_is in
    c.life_found.ensures ∙ ap (life_told c.args.self.now.shape) (c.first_named-found.ensures ∙ ap (find (λ (x : Counted). same_id x.id c.args.object)) (c.as_slice.ensures.value ∙ objects))
