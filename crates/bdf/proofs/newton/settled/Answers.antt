-- `newton::settled`: the test of its definition. Assumes nothing.
use Rattle.loops.specs.Choice.{when◌then◌else◌}
use Rattle.rules.specs.Newton.{settled}
use Rattle.bdf.proofs.newton.settled.Goals as goal

pub returns-then-rate : goal.returns-then-rate
unfolding settled when◌then◌else◌
returns-then-rate c = rw c.if-rate.true

pub returns : goal.returns
unfolding settled when◌then◌else◌
returns c = rw c.if-rate.false
