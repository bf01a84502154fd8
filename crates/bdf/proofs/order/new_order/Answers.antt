-- `order::new_order`: the tests of its definition. Assumes nothing.
use borrow.Author.Tests.{lt-ltb, le-ltb}
use Rattle.loops.specs.Choice.{when◌then◌else◌}
use Rattle.rules.specs.Order.{new_order}
use Rattle.bdf.proofs.order.new_order.Goals as goal

pub returns-in-Down : goal.returns-in-Down
unfolding new_order when◌then◌else◌
returns-in-Down c = rw (c.in-Down.is, lt-ltb _ _ c.if-order-gt1.true)

pub returns-in-Up : goal.returns-in-Up
unfolding new_order when◌then◌else◌
returns-in-Up c = rw (c.in-Up.is, lt-ltb _ _ c.if-order-lt5.true)

pub returns-in_default : goal.returns-in_default
unfolding new_order when◌then◌else◌
returns-in_default c = rw (c.in-Down.is, le-ltb _ _ c.if-order-gt1.false)

pub returns-in_default-2 : goal.returns-in_default-2
unfolding new_order when◌then◌else◌
returns-in_default-2 c = rw (c.in-Up.is, le-ltb _ _ c.if-order-lt5.false)

pub returns-in_default-3 : goal.returns-in_default-3
unfolding new_order when◌then◌else◌
returns-in_default-3 c = rw c.in_default.is
