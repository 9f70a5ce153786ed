use Rattle.arc_heap_judge.specs.Judging.{verdict}
use Rattle.arc_heap.specs.Moving.{fits_act}
use Rattle.arc_heap.proofs.Applying.{applies}
use Rattle.arc_heap.proofs.Threads.{event_keeps}
use Rattle.arc_heap.proofs.model.ModelHeap.apply.Goals as goal

pub returns-clause-shape : goal.returns-clause-shape
returns-clause-shape c = (event_keeps (verdict c.args.self.now c.args.event.thread c.args.event.act) c.args.self.now c.advance.new.self c.args.event (fits_act c.args.self.now c.args.event.thread c.args.event.act) c.advance.result c.advance.ensures).0

pub returns-clause-threads : goal.returns-clause-threads
returns-clause-threads c = (event_keeps (verdict c.args.self.now c.args.event.thread c.args.event.act) c.args.self.now c.advance.new.self c.args.event (fits_act c.args.self.now c.args.event.thread c.args.event.act) c.advance.result c.advance.ensures).1

pub returns-clause-history : goal.returns-clause-history
returns-clause-history c h st = applies h c.args.self.now c.advance.new.self c.args.event c.advance.result c.requires.range c.requires.thread st c.advance.ensures
