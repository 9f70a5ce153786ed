use Rattle.std.proofs.Common.{◌≢◌, sym, subst}
use Rattle.arc_table.specs.declared.tokens.Strong.{Strong as Token}
use Rattle.arc_table.specs.Seats.{view_of}
use Rattle.arc_table.specs.Tokens.{hand_of}
use Rattle.arc_pairs.specs.Ready.{IsOurs}
use Rattle.arc_pairs.proofs.Readied.{ours_on, last_ours, release_keeps, none_keeps}
use Rattle.arc_pairs.proofs.life.given_up.Goals as goal

pub given_up_again-requires-clause-held : goal.given_up_again-requires-clause-held
given_up_again-requires-clause-held g c =
    let heap = c.args.heap.now in
    subst (IsOurs heap c.release.new.pass) (sym c.in-Again.ensures.released.0) (ours_on heap c.args.pass.now c.release.new.pass c.args.held (none_keeps (view_of c.args.pass.now) (view_of c.release.new.pass) c.in-Again.ensures.has) c.requires.held)

pub returns-in-Last-clause-dying : goal.returns-in-Last-clause-dying
returns-in-Last-clause-dying g c = last_ours c.args.heap.now c.args.pass.now c.release.new.pass c.args.held c.in-Last.dying c.requires.held c.in-Last.ensures.released

pub returns-in-More-clause-kept : goal.returns-in-More-clause-kept
returns-in-More-clause-kept g c = release_keeps c.args.held c.release.result (view_of c.args.pass.now) (view_of c.release.new.pass) c.release.ensures.has

pub returns-in-Last-clause-kept : goal.returns-in-Last-clause-kept
returns-in-Last-clause-kept g c = release_keeps c.args.held c.release.result (view_of c.args.pass.now) (view_of c.release.new.pass) c.release.ensures.has

pub returns-in-Again-clause-kept : goal.returns-in-Again-clause-kept
returns-in-Again-clause-kept g c = λ k other s class ours.
    c.given_up_again.ensures.kept k (subst (λ (t : Token). k ≢ hand_of t) (sym c.in-Again.ensures.released.0) other) s class (none_keeps (view_of c.args.pass.now) (view_of c.release.new.pass) c.in-Again.ensures.has k s class ours)
