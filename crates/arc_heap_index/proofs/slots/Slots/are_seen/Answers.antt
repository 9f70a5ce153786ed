use Rattle.std.proofs.Common.{sym, arith}
use Rattle.arc_heap_index.proofs.Fronts.{are_seen-true, are_seen-false}
use Rattle.arc_heap_index.proofs.slots.Slots.are_seen.Goals as goal

pub returns-then-since-self : goal.returns-then-since-self
returns-then-since-self c = sym (rw (← c.self.view_is) (are_seen-true c.self.inside.states.items c.self.inside.log.items c.self.inside.frees c.self.inside.front c.args.since c.self.invariant (λ j l m. omega arith)))

pub returns-then-self : goal.returns-then-self
returns-then-self c = sym (rw (← c.self.view_is) (are_seen-true c.self.inside.states.items c.self.inside.log.items c.self.inside.frees c.self.inside.front c.args.since c.self.invariant (λ j l m. omega arith)))

pub returns : goal.returns
returns c = sym (rw (← c.self.view_is) (are_seen-false c.self.inside.states.items c.self.inside.log.items c.self.inside.frees c.self.inside.front c.args.since c.self.invariant (omega arith) (omega arith)))
