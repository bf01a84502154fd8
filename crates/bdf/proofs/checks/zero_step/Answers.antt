-- `checks::zero_step` goes by the same cases and test as its definition. Assumes nothing.
use Rattle.loops.specs.Choice.{when◌then◌else◌}
use Rattle.bdf.proofs.checks.zero_step.Goals as goal

pub returns-in-Some : goal.returns-in-Some
unfolding when◌then◌else◌
returns-in-Some c = rw (c.in-Some.is, c.if-value.true)

pub returns-in_default : goal.returns-in_default
unfolding when◌then◌else◌
returns-in_default c = rw (c.in-Some.is, c.if-value.false)
