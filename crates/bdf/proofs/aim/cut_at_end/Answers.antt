-- `aim::cut_at_end`: by the test of its definition. Assumes nothing.
use Rattle.loops.specs.Choice.{when◌then◌else◌}
use Rattle.rules.specs.Attempt.{cut_at_end}
use Rattle.bdf.proofs.aim.cut_at_end.Goals as goal

pub returns-then-step_to_end : goal.returns-then-step_to_end
unfolding cut_at_end when◌then◌else◌
returns-then-step_to_end c = rw (← c.abs-step_to_end.ensures, c.if-step_to_end.true)

pub returns : goal.returns
unfolding cut_at_end when◌then◌else◌
returns c =
    rw (← c.abs-step_to_end.ensures, c.if-step_to_end.false, c.changed.ensures, c.aim_of.ensures, c.rescale_d.ensures)
