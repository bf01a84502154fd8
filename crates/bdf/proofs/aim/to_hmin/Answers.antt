-- `aim::to_hmin`: by the test of its definition, whose two halves the code takes one after the other. Assumes nothing.
use Rattle.loops.specs.Choice.{when◌then◌else◌}
use Rattle.rules.specs.Attempt.{to_hmin}
use Rattle.bdf.proofs.aim.to_hmin.Goals as goal
use Rattle.bdf.proofs.aim.to_hmin.Goals.{else-h-hmin-via-then-h-hmin+else-hmin, else-h-hmin-via-else-h-hmin}

pub returns-then-hmin : goal.returns-then-hmin
unfolding to_hmin when◌then◌else◌
returns-then-hmin c = rw (c.if-h-hmin.true, c.if-hmin.true, c.changed.ensures, c.rescale_d.ensures, c.max.ensures)

pub returns : goal.returns
unfolding to_hmin when◌then◌else◌
returns c =
    elim c.else-h-hmin.branch [
      | else-h-hmin-via-then-h-hmin+else-hmin w ↦ rw (w.if-h-hmin.true, w.if-hmin.false)
      | else-h-hmin-via-else-h-hmin w ↦ rw w.if-h-hmin.false
    ]
