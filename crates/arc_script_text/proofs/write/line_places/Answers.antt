use Rattle.std.proofs.Common.{◌∙◌, length, sym, arith}
use Rattle.std.proofs.lemmas.List.{take_rest, take_all, drop_all}
use Rattle.arc_script_text.proofs.write.line_places.Goals as goal

pub returns-then-places-lt32-clause-first : goal.returns-then-places-lt32-clause-first
returns-then-places-lt32-clause-first c = sym (take_all 32 c.args.places.now (omega arith))

pub returns-then-places-lt32-clause-later : goal.returns-then-places-lt32-clause-later
returns-then-places-lt32-clause-later c =
    take_rest c.args.places.now (length c.args.places.now) ∙ (drop_all (length c.args.places.now) c.args.places.now (omega arith) ∙ sym (drop_all 32 c.args.places.now (omega arith)))

pub returns-else-places-lt32-clause-later : goal.returns-else-places-lt32-clause-later
returns-else-places-lt32-clause-later c = take_rest c.args.places.now 32
