use Rattle.std.proofs.Common.{rules, arith, sym, ◌∙◌, ◌+◌}
use Rattle.arc_storm.proofs.Drawn.{after_none, after_word, place_more}
use Rattle.arc_storm.proofs.generate.draw_places.Goals as goal

pub loop-i-init : goal.loop-i-init
loop-i-init c = record { words = sym (after_none c.args.rng.now); places = search rules }

pub loop-i-preserved : goal.loop-i-preserved
loop-i-preserved c =
    let i = c.loop-i.i in
    let g = c.args.rng.now in
    record {
      words = c.draw.ensures.next ∙ after_word i (i + 1) g c.loop-i.rng c.loop-i.invariant.words (omega arith);
      places = place_more g c.loop-i.rng i c.draw.result c.loop-i.places c.push.new.self c.loop-i.invariant.words c.draw.ensures.value c.loop-i.invariant.places (search rules);
    }
