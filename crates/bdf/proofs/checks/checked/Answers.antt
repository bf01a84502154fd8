-- `checks::checked` goes by the tests of its definition, one answer a way. Assumes nothing.
use borrow.Author.Tests.{lt-ltb, le-ltb}
use Rattle.loops.specs.Choice.{when◌then◌else◌}
use Rattle.rules.specs.Checks.{checked}
use Rattle.bdf.proofs.checks.checked.Goals as goal

pub returns-then-room-need : goal.returns-then-room-need
unfolding checked when◌then◌else◌
returns-then-room-need c = rw (← c.row-need.ensures, lt-ltb _ _ c.if-room-need.true)

pub returns-then-questions-asks : goal.returns-then-questions-asks
unfolding checked when◌then◌else◌
returns-then-questions-asks c = rw (← c.row-need.ensures, le-ltb _ _ c.if-room-need.false, lt-ltb _ _ c.if-questions-asks.true)

pub returns : goal.returns
unfolding checked when◌then◌else◌
returns c = rw (← c.row-need.ensures, le-ltb _ _ c.if-room-need.false, le-ltb _ _ c.if-questions-asks.false) c.tolerances_checked.ensures
