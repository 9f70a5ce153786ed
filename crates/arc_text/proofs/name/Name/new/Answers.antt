use Rattle.std.proofs.Common.{◌≡◌, true, false, rules}
use Rattle.arc_text.specs.Words.{is_name}
use Rattle.arc_text.proofs.Ascii.{name_text}
use Rattle.arc_text.proofs.name.Name.new.Goals as goal

pub returns-in_default-clause-some : goal.returns-in_default-clause-some
returns-in_default-clause-some c =
    let named : is_name c.args.bytes.items ≡ true = search rules in
    let found : false ≡ true = c.in_default.ensures.succeeds (name_text c.args.bytes.items named) in
    absurd cc
