-- `starting::h1`: the test of its definition, both ways. Assumes nothing.
use Rattle.loops.specs.Choice.{when◌then◌else◌}
use Rattle.rules.specs.Starting.{h1}
use Rattle.bdf.proofs.starting.h1.Goals as goal

pub returns-then-der12 : goal.returns-then-der12
unfolding h1 when◌then◌else◌
returns-then-der12 c = rw c.if-der12.true c.max.ensures

pub returns-else-der12 : goal.returns-else-der12
unfolding h1 when◌then◌else◌
returns-else-der12 c = rw c.if-der12.false
