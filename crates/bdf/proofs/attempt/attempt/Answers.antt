-- `attempt::attempt`: by the two tests of its definition. Assumes nothing.
use borrow.Author.Tests.{le-leb, lt-leb}
use Rattle.loops.specs.Choice.{when◌then◌else◌}
use Rattle.rules.specs.Attempt.{attempt}
use Rattle.bdf.proofs.attempt.attempt.Goals as goal

pub returns-then-p : goal.returns-then-p
unfolding attempt when◌then◌else◌
returns-then-p c = rw (le-leb _ _ c.if-p.true, c.end.ensures)

pub returns-then-p-2 : goal.returns-then-p-2
unfolding attempt when◌then◌else◌
returns-then-p-2 c = rw (lt-leb _ _ c.if-p.false, c.if-p-2.true, c.end-then-p-2.ensures)

pub returns : goal.returns
unfolding attempt when◌then◌else◌
returns c = rw (lt-leb _ _ c.if-p.false, c.if-p-2.false) c.fitted_attempt.ensures
