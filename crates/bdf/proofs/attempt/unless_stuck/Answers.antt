-- `attempt::unless_stuck`: by the test of its definition. Assumes nothing.
use Rattle.loops.specs.Choice.{when◌then◌else◌}
use Rattle.rules.specs.Attempt.{unless_stuck}
use Rattle.bdf.proofs.attempt.unless_stuck.Goals as goal

pub returns-then-p-abs : goal.returns-then-p-abs
unfolding unless_stuck when◌then◌else◌
returns-then-p-abs c =
    rw (← c.abs.ensures, c.if-p-abs.true, c.end.ensures)

pub returns : goal.returns
unfolding unless_stuck when◌then◌else◌
returns c =
    rw (← c.abs.ensures, c.if-p-abs.false) c.attempt_at.ensures
