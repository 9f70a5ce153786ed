use Rattle.std.proofs.Common.{◌≡◌, sym, ◌∙◌, subst, None}
use Rattle.arc_rule.specs.declared.step.Intent.{Intent}
use Rattle.arc_rule.specs.declared.layout.Place.TheVariants.{Global}
use Rattle.arc_rule.specs.Places.{extent_of, number}
use Rattle.arc_rule.specs.declared.attempt.At.TheVariants.{Start}
use Rattle.arc_cells.specs.Swaps.{SwapAttempt, swap_takes, swap_turned, swap_answer}
use Rattle.arc_table.specs.Seats.{shape_of, part_view}
use Rattle.arc_table.specs.Runs.{MayRun, Ran}
use Rattle.arc_table.specs.Cells.{hand_in, word_of}
use Rattle.arc_table.proofs.Exchanging.{may_put, may_exchange, has_exchanged}
use Rattle.arc_table.proofs.heap.Heap.exchange_global.Goals as goal

pub run_as-requires-clause-may : goal.run_as-requires-clause-may
run_as-requires-clause-may g c =
    let v = part_view c.args.part.now in
    let put = c.args.put.now in
    let shape = shape_of c.args.self.now in
    let plan_is : c.start-plan.result ≡ record { layout = extent_of shape; place = number (extent_of shape) (Global c.args.global); new = word_of put; at = Start } =
    c.start-plan.ensures ∙ (λ j. record { layout = c.args.self.now.laid j; place = c.global_of-place.ensures j; new = c.word_of.ensures j; at = Start }) in
    subst (λ (p : Intent × SwapAttempt). MayRun swap_takes swap_turned swap_answer shape p.0 p.1 None v) (λ j. (sym c.requires.asks.0 j, sym plan_is j))
    (may_exchange shape c.args.global (hand_in put) (word_of put) v c.requires.strong c.requires.free.owes c.requires.free.access (may_put shape c.args.global v put c.requires.put))

pub returns-clause-called : goal.returns-clause-called
returns-clause-called g c =
    let v = part_view c.args.part.now in
    let w = part_view c.run_as.new.part in
    let put = c.args.put.now in
    let shape = shape_of c.args.self.now in
    let plan_is : c.start-plan.result ≡ record { layout = extent_of shape; place = number (extent_of shape) (Global c.args.global); new = word_of put; at = Start } =
    c.start-plan.ensures ∙ (λ j. record { layout = c.args.self.now.laid j; place = c.global_of-place.ensures j; new = c.word_of.ensures j; at = Start }) in (
      c.run_as.ensures.same,
      (has_exchanged shape c.args.global (hand_in put) (word_of put) v c.requires.strong c.requires.free.owes c.requires.free.access (may_put shape c.args.global v put c.requires.put) c.run_as.result w
          (subst (λ (p : Intent × SwapAttempt). Ran swap_turned swap_answer shape p.0 p.1 None v c.run_as.result w) (λ j. (c.requires.asks.0 j, plan_is j)) c.run_as.ensures.ran)).1,
    )

pub returns-clause-exchanged : goal.returns-clause-exchanged
returns-clause-exchanged g c =
    let v = part_view c.args.part.now in
    let w = part_view c.run_as.new.part in
    let put = c.args.put.now in
    let shape = shape_of c.args.self.now in
    let plan_is : c.start-plan.result ≡ record { layout = extent_of shape; place = number (extent_of shape) (Global c.args.global); new = word_of put; at = Start } =
    c.start-plan.ensures ∙ (λ j. record { layout = c.args.self.now.laid j; place = c.global_of-place.ensures j; new = c.word_of.ensures j; at = Start }) in
    (has_exchanged shape c.args.global (hand_in put) (word_of put) v c.requires.strong c.requires.free.owes c.requires.free.access (may_put shape c.args.global v put c.requires.put) c.run_as.result w
    (subst (λ (p : Intent × SwapAttempt). Ran swap_turned swap_answer shape p.0 p.1 None v c.run_as.result w) (λ j. (c.requires.asks.0 j, plan_is j)) c.run_as.ensures.ran)).0
