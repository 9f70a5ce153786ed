use Rattle.std.proofs.Common.{rules}
use Rattle.arc.proofs.output.output_of_text.Goals as goal

pub returns-in-Ok-replay_text-clause-output : goal.returns-in-Ok-replay_text-clause-output
returns-in-Ok-replay_text-clause-output c = record {
  served = record { script = c.in-Ok.script; stands = c.in-Ok.ensures.exact; served = search rules };
  tells = c.in-Ok-replay_text.ensures;
}
