-- `step::iterated`: by the two tests on the norm of the correction. Assumes nothing.
use Rattle.loops.specs.Choice.{when◌then◌else◌}
use Rattle.rules.specs.Step.{iterated}
use Rattle.bdf.proofs.step.iterated.Goals as goal

pub returns-then-converged : goal.returns-then-converged
unfolding iterated when◌then◌else◌
returns-then-converged c = rw (← c.converged.ensures, c.if-converged.true) c.judge.ensures

pub returns-then-gave_up : goal.returns-then-gave_up
unfolding iterated when◌then◌else◌
returns-then-gave_up c =
    rw (← c.converged.ensures, c.if-converged.false, ← c.gave_up.ensures, c.if-gave_up.true) c.newton_failed.ensures

pub returns : goal.returns
unfolding iterated when◌then◌else◌
returns c =
    rw (← c.converged.ensures, c.if-converged.false, ← c.gave_up.ensures, c.if-gave_up.false) c.newton_again.ensures
