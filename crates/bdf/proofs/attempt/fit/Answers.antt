-- `attempt::fit`: to the greatest step, then to the least. Assumes nothing.
use Rattle.rules.specs.Attempt.{fitted}
use Rattle.bdf.proofs.attempt.fit.Goals as goal

pub returns : goal.returns
unfolding fitted
returns c = rw (← c.to_hmax-pace.ensures) c.to_hmin.ensures
