use Rattle.std.proofs.Common.{rules, tests}
use Rattle.std.proofs.lemmas.Iterator.{cases_from_all, YieldsList-from_slice}
use Rattle.arc_served.specs.Served.{IsServedThread}
use Rattle.arc_served.proofs.Decided.{all_decided}
use Rattle.arc_served.proofs.served.are_served_threads.Goals as goal

pub returns : goal.returns
returns c = all_decided IsServedThread c.all.result c.args.threads.now
    (cases_from_all _ _ _ IsServedThread (λ t. IsServedThread t → ⊥) c.all.ensures.ran (YieldsList-from_slice c.args.threads.now cc) (λ x q k. search (rules, tests)) (λ x q k. search (rules, tests)))
