use Rattle.std.proofs.Common.{◌+◌, ◌≡◌, ◌++◌, length, take, refl, arith}
use Rattle.std.proofs.lemmas.Grind.{common_steps}
use Rattle.std.proofs.KnownBytes.{Consumes-trans}
use Rattle.arc_io.proofs.Pieces.{took-consumed}
use Rattle.arc_io.proofs.moving.read_all.Goals as goal

pub returns-then-count-room-clause-too_long : goal.returns-then-count-room-clause-too_long
returns-then-count-room-clause-too_long g c =
    let piece = take c.in-Ok.count c.read.new.into in
    let all : c.args.limit + 1 ≡ length (c.reading.bytes.items ++ piece) = grind (arith, common_steps) in
    let consumed = Consumes-trans _ _ _ c.reading.bytes.items piece c.reading.invariant.part c.in-Ok.ensures.bytes.0 in
    λ _. took-consumed _ _ (c.reading.bytes.items ++ piece) (c.args.limit + 1) all consumed

pub returns-then-is_err-clause-within : goal.returns-then-is_err-clause-within
returns-then-is_err-clause-within g c =
    let piece = take c.in-Ok.count c.read.new.into in
    let all = c.reading.bytes.items ++ piece in
    let consumed = Consumes-trans _ _ _ c.reading.bytes.items piece c.reading.invariant.part c.in-Ok.ensures.bytes.0 in
    λ _. (length all, grind (arith, common_steps), took-consumed _ _ all (length all) refl consumed)
