-- `attempt::refactor`: by what the factoring says. Assumes nothing.
use Rattle.loops.specs.Choice.{when◌then◌else◌}
use Rattle.rules.specs.Attempt.{refactored}
use Rattle.bdf.proofs.attempt.refactor.Goals as goal

pub returns-then-regular : goal.returns-then-regular
unfolding refactored when◌then◌else◌
returns-then-regular c = rw (← c.factor-regular.ensures, c.if-regular.true) c.newton_start.ensures

pub returns : goal.returns
unfolding refactored when◌then◌else◌
returns c = rw (← c.factor-regular.ensures, c.if-regular.false, ← c.halve.ensures)
