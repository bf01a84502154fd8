-- `attempt::must_factor`: the two halves of its test. Assumes nothing.
use Rattle.rules.specs.Attempt.{must_factor}
use Rattle.bdf.proofs.attempt.must_factor.Goals as goal

pub returns-then-not-p : goal.returns-then-not-p
unfolding must_factor
returns-then-not-p c = rw c.if-not-p.true

pub returns-else-not-p : goal.returns-else-not-p
unfolding must_factor
returns-else-not-p c = rw (c.if-not-p.false, c.max.ensures, c.abs-else-not-p.ensures, c.abs.ensures)
