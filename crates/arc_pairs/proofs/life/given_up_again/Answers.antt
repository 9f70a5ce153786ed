use Rattle.std.proofs.Common.{◌≢◌, ◌∙◌, sym, subst}
use Rattle.arc_table.specs.declared.tokens.Strong.{Strong as Token}
use Rattle.arc_table.specs.Seats.{view_of}
use Rattle.arc_table.specs.Tokens.{hand_of, release_act}
use Rattle.arc_pairs.specs.Ready.{IsOurs}
use Rattle.arc_pairs.proofs.Readied.{held, ours_on, last_ours, ready_on, release_keeps, none_keeps, kept_on}
use Rattle.arc_pairs.proofs.life.given_up_again.Goals as goal

pub release-requires-clause-held : goal.release-requires-clause-held
release-requires-clause-held g c =
    let heap = c.args.heap.now in
    held heap c.loop.pass c.loop.held (subst (IsOurs heap c.loop.pass) (sym c.loop.invariant.2) (ours_on heap c.args.pass.now c.loop.pass c.args.held c.loop.invariant.1 c.requires.held))

pub returns-in-Last-clause-dying : goal.returns-in-Last-clause-dying
returns-in-Last-clause-dying g c =
    let heap = c.args.heap.now in
    let ours = subst (IsOurs heap c.loop.pass) (sym c.loop.invariant.2) (ours_on heap c.args.pass.now c.loop.pass c.args.held c.loop.invariant.1 c.requires.held) in
    last_ours heap c.loop.pass c.release.new.pass c.loop.held c.in-Last.dying ours c.in-Last.ensures.released

pub returns-in-More-clause-kept : goal.returns-in-More-clause-kept
returns-in-More-clause-kept g c = λ k other s class ours.
    release_keeps c.loop.held c.release.result (view_of c.loop.pass) (view_of c.release.new.pass) c.release.ensures.has k (subst (λ (t : Token). k ≢ hand_of t) (sym c.loop.invariant.2) other) s class (c.loop.invariant.1 k s class ours)

pub returns-in-Last-clause-kept : goal.returns-in-Last-clause-kept
returns-in-Last-clause-kept g c = λ k other s class ours.
    release_keeps c.loop.held c.release.result (view_of c.loop.pass) (view_of c.release.new.pass) c.release.ensures.has k (subst (λ (t : Token). k ≢ hand_of t) (sym c.loop.invariant.2) other) s class (c.loop.invariant.1 k s class ours)

pub loop-preserved : goal.loop-preserved
loop-preserved g c = (
  ready_on c.args.heap.now (release_act c.loop.held c.release.result) 3 c.loop.pass c.release.new.pass c.loop.invariant.0 c.release.ensures.called,
  kept_on (view_of c.args.pass.now) (view_of c.loop.pass) (view_of c.release.new.pass) c.loop.invariant.1 (none_keeps (view_of c.loop.pass) (view_of c.release.new.pass) c.in-Again.ensures.has),
  c.in-Again.ensures.released.0 ∙ c.loop.invariant.2,
)
