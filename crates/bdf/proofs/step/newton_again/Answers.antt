-- `step::newton_again`: the state is told, and the next derivative asked. Assumes nothing.
use Rattle.rules.specs.Step.{newton_again}
use Rattle.bdf.proofs.step.newton_again.Goals as goal

pub returns : goal.returns
unfolding newton_again
returns c = rw c.tell.ensures
