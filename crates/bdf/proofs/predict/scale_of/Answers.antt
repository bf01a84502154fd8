-- `predict::scale_of`: the test of its definition, both ways. Assumes nothing.
use Rattle.loops.specs.Choice.{when◌then◌else◌}
use Rattle.rules.specs.Predict.{scale_of}
use Rattle.bdf.proofs.predict.scale_of.Goals as goal

pub returns-then-s : goal.returns-then-s
unfolding scale_of when◌then◌else◌
returns-then-s c = rw (← c.abs.ensures, c.if-s.true)

pub returns-else-s : goal.returns-else-s
unfolding scale_of when◌then◌else◌
returns-else-s c = rw (← c.abs.ensures, c.if-s.false)
