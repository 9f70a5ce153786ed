use Rattle.std.proofs.Common.{rules, arith, sym, ◌∙◌, ◌+◌, ◌*◌}
use Rattle.arc_storm.proofs.Drawn.{after_none, after_word, operation_more}
use Rattle.arc_storm.proofs.generate.draw_operations.Goals as goal

pub loop-i-init : goal.loop-i-init
loop-i-init c = record { words = sym (after_none c.args.rng.now); operations = search rules }

pub loop-i-preserved : goal.loop-i-preserved
loop-i-preserved c =
    let i = c.loop-i.i in
    let g = c.args.rng.now in
    let first = after_word (2 * i) (2 * i + 1) g c.loop-i.rng c.loop-i.invariant.words (omega arith) in
    record {
      words = c.draw-class.ensures.next ∙ after_word (2 * i + 1) (2 * (i + 1)) g c.draw-row.new.rng (c.draw-row.ensures.next ∙ first) (omega arith);
      operations = operation_more g c.loop-i.rng c.draw-row.new.rng i c.draw-row.result c.draw-class.result c.loop-i.operations.items c.push.new.self.items
          c.loop-i.invariant.words c.draw-row.ensures.value c.draw-row.ensures.next c.draw-class.ensures.value c.loop-i.invariant.operations (search rules);
    }
