use Rattle.std.proofs.Common.{◌≡◌, Ok, ap, length, arith}
use Rattle.arc_text.specs.Lines.{lines_of}
use Rattle.arc_check.specs.declared.line.Opening.TheVariants as opening
use Rattle.arc_check.specs.EventTexts.{opening_line}
use Rattle.arc_check.proofs.Openings.{opening_fits, few_of, threads_more}
use Rattle.arc_check.proofs.text.begin.Goals as goal

pub reading-preserved : goal.reading-preserved
reading-preserved c =
    let said : opening_line c.reading.threads c.in-Some.line.now ≡ Ok (opening.Threads c.in-Ok-Threads.count) = cc c.in-Ok-Threads.ensures in
    let cut = ap length c.in-Some.ensures.0 in
    record {
      said = λ rest. threads_more c.reading.number c.in-Ok-Threads.count c.reading.threads c.in-Some.line.now (lines_of c.reading.lines) (lines_of c.next_line.new.self) rest _ c.in-Some.ensures.0 said (c.reading.invariant.said rest);
      room = omega arith;
      few = opening_fits c.reading.threads c.in-Some.line.now (opening.Threads c.in-Ok-Threads.count) said;
    }

pub returns-in-Ok-Events-clause-few : goal.returns-in-Ok-Events-clause-few
returns-in-Ok-Events-clause-few c =
    let said : opening_line c.reading.threads c.in-Some.line.now ≡ Ok (opening.Events c.in-Ok-Events.threads) = cc c.in-Ok-Events.ensures in
    few_of c.reading.threads c.in-Ok-Events.threads (opening_fits c.reading.threads c.in-Some.line.now (opening.Events c.in-Ok-Events.threads) said) c.reading.invariant.few
