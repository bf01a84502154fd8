-- `newton::gave_up`: the tests of its definition. Assumes nothing.
use mathlib.Core.Path.{◌∙◌}
use Rattle.loops.specs.Choice.{when◌then◌else◌}
use Rattle.rules.specs.Newton.{gave_up}
use Rattle.rules.proofs.laws.NewtonLaws.{follows_on, follows_never, follows_none}
use Rattle.bdf.proofs.newton.gave_up.Goals as goal
use Rattle.bdf.proofs.newton.gave_up.Goals.{else-iters-gt0-via-then-iters-gt0+else-prev, else-iters-gt0-via-else-iters-gt0, then-too_slow, else-too_slow}

pub returns-then-prev : goal.returns-then-prev
unfolding gave_up when◌then◌else◌
returns-then-prev c =
    rw (follows_on c.args.iters c.args.prev c.if-iters-gt0.true c.if-prev.true)
    (elim c.if-too_slow.branch [
      | then-too_slow w ↦ rw (← c.too_slow.ensures, w.if-too_slow.true) (w.result-is ∙ w.if-too_slow.true)
      | else-too_slow w ↦ rw (← c.too_slow.ensures, w.if-too_slow.false) w.result-is
    ])

pub returns : goal.returns
unfolding gave_up when◌then◌else◌
returns c =
    elim c.else-iters-gt0.branch [
      | else-iters-gt0-via-then-iters-gt0+else-prev w ↦ rw (follows_never c.args.iters c.args.prev w.if-prev.false)
      | else-iters-gt0-via-else-iters-gt0 w ↦ rw (follows_none c.args.iters c.args.prev w.if-iters-gt0.false)
    ]
