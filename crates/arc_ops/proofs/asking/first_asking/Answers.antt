use Rattle.std.proofs.Common.{◌≡◌, Some, length, sym, ap, subst, ◌∙◌, ◌+◌, arith}
use Rattle.arc_served.specs.Programs.{VarsFit}
use Rattle.arc_ops.specs.Begins.{begun, block_goes_on}
use Rattle.arc_ops.proofs.Passed.{begun_behind, begun_at_block, goes_forth, there_fits}
use Rattle.arc_ops.proofs.asking.first_asking.Goals as goal

pub loop-at-smaller-in-Some : goal.loop-at-smaller-in-Some
loop-at-smaller-in-Some c =
    let here = c.op-op.ensures in
    let goes : block_goes_on c.loop-at.vars.items c.loop-at.at c.op-op.result ≡ Some c.in-Some.on = rw c.deref.ensures.value at (sym c.block_goes_on.ensures.goes_on ∙ c.in-Some.is) in
    let below = c.loop-at-test.true in
    let place = goes_forth c.loop-at.vars.items c.loop-at.at c.args.end c.in-Some.on c.op-op.result below (c.requires.blocks c.loop-at.at c.op-op.result below here) goes in
    let on = place.0 in
    omega (arith, on, below)

pub loop-at-preserved-in-Some : goal.loop-at-preserved-in-Some
loop-at-preserved-in-Some c =
    let here = c.op-op.ensures in
    let goes : block_goes_on c.loop-at.vars.items c.loop-at.at c.op-op.result ≡ Some c.in-Some.on = rw c.deref.ensures.value at (sym c.block_goes_on.ensures.goes_on ∙ c.in-Some.is) in
    let below = c.loop-at-test.true in
    let forth = c.requires.blocks c.loop-at.at c.op-op.result below here in
    let place = goes_forth c.loop-at.vars.items c.loop-at.at c.args.end c.in-Some.on c.op-op.result below forth goes in
    record {
      from = let from = c.loop-at.invariant.from in let on = place.0 in omega (arith, from, on);
      within = let most = c.requires.end in let on = place.1 in omega (arith, most, on);
      count = c.loop-at.invariant.count;
      held = c.loop-at.invariant.held;
      same = λ t program_is end_is.
          c.loop-at.invariant.same t program_is end_is
          ∙ begun_at_block c.args.program.now c.args.end c.loop-at.at c.in-Some.on c.op-op.result c.loop-at.vars.items c.loop-at.lines below c.requires.end here forth goes t program_is end_is;
    }

pub asks-requires : goal.asks-requires
asks-requires c =
    let fits = there_fits (VarsFit (length c.args.vars.now.items)) c.args.program.now c.loop-at.at c.op-op.result c.op-op.ensures c.requires.fit in
    subst (λ n. VarsFit n c.op-op.result) (sym (ap length c.deref-in_default.ensures.value ∙ c.loop-at.invariant.count)) fits

pub do_at_once-answer-requires-clause-fits : goal.do_at_once-answer-requires-clause-fits
do_at_once-answer-requires-clause-fits c =
    let fits = there_fits (VarsFit (length c.args.vars.now.items)) c.args.program.now c.loop-at.at c.op-op.result c.op-op.ensures c.requires.fit in
    subst (λ n. VarsFit n c.op-op.result) (sym c.loop-at.invariant.count) fits

pub loop-at-preserved : goal.loop-at-preserved
loop-at-preserved c = record {
  from = let from = c.loop-at.invariant.from in omega arith;
  within = let below = c.loop-at-test.true in let most = c.requires.end in omega arith;
  count = c.do_at_once-answer.ensures.count ∙ c.loop-at.invariant.count;
  held = λ slots fits. c.do_at_once-answer.ensures.held slots (c.loop-at.invariant.held slots fits);
  same = λ t program_is end_is.
      c.loop-at.invariant.same t program_is end_is
      ∙ begun_behind c.args.program.now c.args.end c.loop-at.at c.op-op.result c.loop-at.vars.items c.do_at_once-answer.new.vars.items c.do_at_once-answer.result c.loop-at.lines c.loop-at-test.true c.requires.end c.op-op.ensures c.do_at_once-answer.ensures.done t program_is end_is
      ∙ ap (λ kept. begun (record t { index = c.loop-at.at + 1; vars = c.do_at_once-answer.new.vars.items; kept = kept })) (sym (rw c.number.ensures at c.put.ensures));
}
