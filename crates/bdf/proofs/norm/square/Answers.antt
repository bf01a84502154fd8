-- `norm::square`: the test of its definition, both ways. Assumes nothing.
use Rattle.loops.specs.Choice.{when◌then◌else◌}
use Rattle.rules.specs.Norm.{square_of}
use Rattle.bdf.proofs.norm.square.Goals as goal
use Rattle.bdf.proofs.norm.square.Goals.{then-s, else-s}

pub returns : goal.returns
unfolding square_of when◌then◌else◌
returns c = elim c.if-s.branch [ then-s w ↦ rw (w.denom-is, w.if-s.true) | else-s w ↦ rw (w.denom-is, w.if-s.false) ]
