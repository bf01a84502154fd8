-- `newton::too_slow`: the test of its definition. Assumes nothing.
use Rattle.loops.specs.Choice.{when◌then◌else◌}
use Rattle.rules.specs.Newton.{too_slow}
use Rattle.bdf.proofs.newton.too_slow.Goals as goal

pub returns-then-rate : goal.returns-then-rate
unfolding too_slow when◌then◌else◌
returns-then-rate c = rw c.if-rate.true

pub returns : goal.returns
unfolding too_slow when◌then◌else◌
returns c = rw (c.if-rate.false, c.power.ensures)
