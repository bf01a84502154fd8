-- `newton::converged`: the tests of its definition. Assumes nothing.
use Rattle.loops.specs.Choice.{when◌then◌else◌}
use Rattle.rules.specs.Newton.{converged}
use Rattle.rules.proofs.laws.NewtonLaws.{follows_on, follows_never, follows_none}
use Rattle.bdf.proofs.newton.converged.Goals as goal
use Rattle.bdf.proofs.newton.converged.Goals.{else-iters-gt0-via-then-iters-gt0+else-prev, else-iters-gt0-via-else-iters-gt0}

pub returns-then-norm : goal.returns-then-norm
unfolding converged when◌then◌else◌
returns-then-norm c = rw c.if-norm.true

pub returns-then-prev : goal.returns-then-prev
unfolding converged when◌then◌else◌
returns-then-prev c =
    rw (c.if-norm.false, follows_on c.args.iters c.args.prev c.if-iters-gt0.true c.if-prev.true) c.settled.ensures

pub returns : goal.returns
unfolding converged when◌then◌else◌
returns c =
    elim c.else-iters-gt0.branch [
      | else-iters-gt0-via-then-iters-gt0+else-prev w ↦ rw (c.if-norm.false, follows_never c.args.iters c.args.prev w.if-prev.false)
      | else-iters-gt0-via-else-iters-gt0 w ↦ rw (c.if-norm.false, follows_none c.args.iters c.args.prev w.if-iters-gt0.false)
    ]
