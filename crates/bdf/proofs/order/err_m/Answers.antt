-- `order::err_m`: the test of its definition. Assumes nothing.
use borrow.Author.Tests.{lt-ltb, le-ltb}
use Rattle.loops.specs.Choice.{when◌then◌else◌}
use Rattle.rules.specs.Order.{err_m}
use Rattle.bdf.proofs.order.err_m.Goals as goal

pub returns-then-order-gt1 : goal.returns-then-order-gt1
unfolding err_m when◌then◌else◌
returns-then-order-gt1 c = rw (lt-ltb _ _ c.if-order-gt1.true) c.error_at.ensures

pub returns-else-order-gt1 : goal.returns-else-order-gt1
unfolding err_m when◌then◌else◌
returns-else-order-gt1 c = rw (le-ltb _ _ c.if-order-gt1.false, c.infinity.ensures)
