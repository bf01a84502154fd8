-- `step::step_accepted`: the accepted step, then what is told of it. Assumes nothing.
use Rattle.rules.specs.Step.{step_accepted}
use Rattle.bdf.proofs.step.step_accepted.Goals as goal

pub returns : goal.returns
unfolding step_accepted
returns c = rw (c.load.ensures, c.row.ensures, c.tell.ensures, c.accept.ensures)
