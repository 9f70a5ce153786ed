use Rattle.arc_pairs.proofs.share.put.Goals as goal

pub returns-in-Strong-clause-kept : goal.returns-in-Strong-clause-kept
returns-in-Strong-clause-kept g c = λ k other s class ours. c.let_go.ensures.kept k (c.in-Strong.ensures.apart k s class ours) s class (c.exchanged.ensures.kept k other s class ours)
