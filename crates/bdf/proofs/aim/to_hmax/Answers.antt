-- `aim::to_hmax`: by the test of its definition. Assumes nothing.
use Rattle.loops.specs.Choice.{when◌then◌else◌}
use Rattle.rules.specs.Attempt.{to_hmax}
use Rattle.bdf.proofs.aim.to_hmax.Goals as goal

pub returns-then-h-hmax : goal.returns-then-h-hmax
unfolding to_hmax when◌then◌else◌
returns-then-h-hmax c = rw (c.if-h-hmax.true, c.changed.ensures, c.rescale_d.ensures)

pub returns : goal.returns
unfolding to_hmax when◌then◌else◌
returns c = rw c.if-h-hmax.false
