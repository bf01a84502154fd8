-- `step::error_rejected`: the differences are rescaled, and the pace and a counter change. Assumes nothing.
use Rattle.rules.specs.Step.{error_rejected}
use Rattle.bdf.proofs.step.error_rejected.Goals as goal

pub returns : goal.returns
unfolding error_rejected
returns c = rw (c.rescale_d.ensures, c.error_factor-factor.ensures)
