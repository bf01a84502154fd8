-- `aim::aim`: by the test of its definition, on the way that `aim_of` gives. Assumes nothing.
use Rattle.loops.specs.Choice.{when◌then◌else◌}
use Rattle.rules.specs.Attempt.{aimed}
use Rattle.bdf.proofs.aim.aim.Goals as goal

pub returns-then-p-a : goal.returns-then-p-a
unfolding aimed when◌then◌else◌
returns-then-p-a c = rw (rw c.aim_of-a.ensures at c.if-p-a.true) c.cut_at_end.ensures

pub returns : goal.returns
unfolding aimed when◌then◌else◌
returns c = rw (rw c.aim_of-a.ensures at c.if-p-a.false, c.aim_of-a.ensures)
