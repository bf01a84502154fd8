-- `order::step_factor`: its callees one after the other. Assumes nothing.
use Rattle.rules.specs.Order.{step_factor}
use Rattle.bdf.proofs.order.step_factor.Goals as goal

pub returns : goal.returns
unfolding step_factor
returns c = rw (c.max-most.ensures, c.max-2.ensures, c.max.ensures) at c.min.ensures
