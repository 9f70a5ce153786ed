use Rattle.std.proofs.Common.{◌+◌, ◌≡◌, length, drop, arith, rules}
use Rattle.std.proofs.lemmas.List.{drop_all}
use Rattle.std.proofs.lemmas.Grind.{common_steps}
use Rattle.arc_io.proofs.Pieces.{gives_next}
use Rattle.arc_io.proofs.in_memory.MemSourceSource.read.Goals as goal

pub returns-clause-bytes : goal.returns-clause-bytes
returns-clause-bytes c =
    let s = c.self.inside in
    let n = c.min-count.result in
    let len : length c.copy_from_slice.new.self ≡ n = grind (arith, common_steps) in
    rw (← c.self.view_is) (
      gives_next s.bytes.items c.copy_from_slice.new.self (drop n c.args.into.now) s.at n (search rules) len,
      λ none room. drop_all (s.at + n) s.bytes.items (grind (arith, common_steps)),
    )
