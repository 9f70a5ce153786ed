use Rattle.std.proofs.Common.{◌≡◌, zero, suc, sym, ap, ◌∙◌, cond, arith}
use Rattle.arc_table.specs.Seats.{shape_of, view_of, part_view}
use Rattle.arc_view_laws.specs.Strangers.{makes_object}
use Rattle.arc_view_laws.proofs.Growing.{told_grew}
use Rattle.arc_view_laws.proofs.Counted.{news_step, told_alone}
use Rattle.arc_table.proofs.heap.Heap.step.Goals as goal

pub invariant_of-pass : goal.invariant_of-pass
invariant_of-pass c =
    let shape = shape_of c.args.self.now in
    let p = c.args.pass.now in
    let v = view_of p in
    let w = part_view c.step_for-found.new.part in
    let x = c.step_for-found.result in
    let told = c.step_for-found.ensures.told in
    let g = told_grew shape c.args.intent c.args.step v x w told in
    let n = news_step shape c.args.intent c.args.step v x w c.requires.kind told in
    let yes : cond (makes_object c.args.step c.args.intent x) 1 zero ≡ suc zero = ap (λ b. cond b 1 zero) (sym c.makes_object.ensures ∙ c.if-makes_object.true) in
    let was = p.counted in record {
      numbered = (g.number ∙ p.numbered.0, p.numbered.1);
      counted = omega (arith, n, yes, was);
      parted = g.splits ∙ p.parted;
      alone = told_alone shape c.args.intent c.args.step v x w told;
    }

pub invariant_of-pass-else-makes_object : goal.invariant_of-pass-else-makes_object
invariant_of-pass-else-makes_object c =
    let shape = shape_of c.args.self.now in
    let p = c.args.pass.now in
    let v = view_of p in
    let w = part_view c.step_for-found.new.part in
    let x = c.step_for-found.result in
    let told = c.step_for-found.ensures.told in
    let g = told_grew shape c.args.intent c.args.step v x w told in
    let n = news_step shape c.args.intent c.args.step v x w c.requires.kind told in
    let nothing : cond (makes_object c.args.step c.args.intent x) 1 zero ≡ zero = ap (λ b. cond b 1 zero) (sym c.makes_object.ensures ∙ c.if-makes_object.false) in
    let was = p.counted in record {
      numbered = (g.number ∙ p.numbered.0, p.numbered.1);
      counted = omega (arith, n, nothing, was);
      parted = g.splits ∙ p.parted;
      alone = told_alone shape c.args.intent c.args.step v x w told;
    }
