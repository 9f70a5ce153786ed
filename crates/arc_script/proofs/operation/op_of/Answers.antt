use Rattle.std.proofs.Common.{◌≢◌, ◌∙◌, length, map, ap, sym, arith}
use Rattle.arc_script.specs.declared.keyword.Keyword.{Keyword}
use Rattle.arc_script.specs.OpLines.{op_of}
use Rattle.arc_script.proofs.WordCounts.{get_count, set_count}
use Rattle.arc_script.proofs.operation.op_of.Goals as goal

pub returns-in_default-words-4 : goal.returns-in_default-words-4
returns-in_default-words-4 c =
    let other : length c.args.words.now ≢ 2 = omega arith in
    sym (ap (λ (k : Keyword). op_of c.args.classes.now c.args.globals.now c.args.vars.now k (map (λ w. w.now) c.args.words.now)) c.in-Get.is ∙ get_count c.args.classes.now c.args.globals.now c.args.vars.now c.args.words.now other)

pub returns-in_default-words-4-2 : goal.returns-in_default-words-4-2
returns-in_default-words-4-2 c =
    let other : length c.args.words.now ≢ 2 = omega arith in
    sym (ap (λ (k : Keyword). op_of c.args.classes.now c.args.globals.now c.args.vars.now k (map (λ w. w.now) c.args.words.now)) c.in-Get.is ∙ get_count c.args.classes.now c.args.globals.now c.args.vars.now c.args.words.now other)

pub returns-in_default-words-5 : goal.returns-in_default-words-5
returns-in_default-words-5 c =
    let other : length c.args.words.now ≢ 2 = omega arith in
    sym (ap (λ (k : Keyword). op_of c.args.classes.now c.args.globals.now c.args.vars.now k (map (λ w. w.now) c.args.words.now)) c.in-Set.is ∙ set_count c.args.classes.now c.args.globals.now c.args.vars.now c.args.words.now other)

pub returns-in_default-words-5-2 : goal.returns-in_default-words-5-2
returns-in_default-words-5-2 c =
    let other : length c.args.words.now ≢ 2 = omega arith in
    sym (ap (λ (k : Keyword). op_of c.args.classes.now c.args.globals.now c.args.vars.now k (map (λ w. w.now) c.args.words.now)) c.in-Set.is ∙ set_count c.args.classes.now c.args.globals.now c.args.vars.now c.args.words.now other)
