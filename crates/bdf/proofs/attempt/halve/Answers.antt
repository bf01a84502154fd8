-- `attempt::halve`: the differences are rescaled by a half, and the pace and a counter change. Assumes nothing.
use Rattle.rules.specs.Attempt.{halved}
use Rattle.bdf.proofs.attempt.halve.Goals as goal

pub returns : goal.returns
unfolding halved
returns c = rw (c.changed-p.ensures, c.rescale_d.ensures)
