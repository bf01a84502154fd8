-- `order::best`: the tests of its definition. Assumes nothing.
use Rattle.loops.specs.Choice.{when◌then◌else◌}
use Rattle.rules.specs.Order.{best_of}
use Rattle.bdf.proofs.order.best.Goals as goal

pub returns-then-c-a : goal.returns-then-c-a
unfolding best_of when◌then◌else◌
returns-then-c-a c = rw (c.if-b-a.true, c.if-c-a.true)

pub returns-else-c-a : goal.returns-else-c-a
unfolding best_of when◌then◌else◌
returns-else-c-a c = rw (c.if-b-a.true, c.if-c-a.false)

pub returns-then-c-b : goal.returns-then-c-b
unfolding best_of when◌then◌else◌
returns-then-c-b c = rw (c.if-b-a.false, c.if-c-b.true)

pub returns-else-c-b : goal.returns-else-c-b
unfolding best_of when◌then◌else◌
returns-else-c-b c = rw (c.if-b-a.false, c.if-c-b.false)
