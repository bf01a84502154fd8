-- `step::newton_failed`: the prediction is told, and the Jacobian asked. Assumes nothing.
use Rattle.rules.specs.Step.{newton_failed}
use Rattle.bdf.proofs.step.newton_failed.Goals as goal

pub returns : goal.returns
unfolding newton_failed
returns c = rw c.tell.ensures
