-- `order::error_at`: the weighing, then the norm of what it left. Assumes nothing.
use Rattle.rules.specs.Order.{error_at}
use Rattle.bdf.proofs.order.error_at.Goals as goal

pub returns : goal.returns
unfolding error_at
returns c = rw (c.rhs_norm.ensures, c.weigh.ensures, c.error_const.ensures)
