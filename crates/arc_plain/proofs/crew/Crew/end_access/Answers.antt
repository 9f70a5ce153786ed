use Rattle.std.proofs.Common.{sym, ◌∙◌}
use Rattle.arc_plain.proofs.Alone.{outside_anyhow}
use Rattle.arc_plain.proofs.crew.Crew.end_access.Goals as goal

pub end_operation-requires-clause-may : goal.end_operation-requires-clause-may
end_operation-requires-clause-may c = c.requires.may (sym c.in_access.ensures ∙ c.if-in_access.true)

pub returns-else-in_access : goal.returns-else-in_access
returns-else-in_access c = outside_anyhow c.args.thread c.args.self.now c.requires.under_way (sym c.in_access.ensures ∙ c.if-in_access.false)
