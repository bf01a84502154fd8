-- `order::err_p`: the test of its definition. Assumes nothing.
use borrow.Author.Tests.{lt-ltb, le-ltb}
use Rattle.loops.specs.Choice.{when◌then◌else◌}
use Rattle.rules.specs.Order.{err_p}
use Rattle.bdf.proofs.order.err_p.Goals as goal

pub returns-then-order-lt5 : goal.returns-then-order-lt5
unfolding err_p when◌then◌else◌
returns-then-order-lt5 c = rw (lt-ltb _ _ c.if-order-lt5.true) c.error_at.ensures

pub returns-else-order-lt5 : goal.returns-else-order-lt5
unfolding err_p when◌then◌else◌
returns-else-order-lt5 c = rw (le-ltb _ _ c.if-order-lt5.false, c.infinity.ensures)
