-- `step::judge`: by the test on the error norm. Assumes nothing.
use Rattle.loops.specs.Choice.{when◌then◌else◌}
use Rattle.rules.specs.Step.{error_ws, judged}
use Rattle.bdf.proofs.step.judge.Goals as goal

pub returns-then-error_fails : goal.returns-then-error_fails
unfolding judged error_ws when◌then◌else◌
returns-then-error_fails c =
    rw (← c.rescale.ensures, ← c.error_const.ensures, ← c.weigh.ensures, ← c.rhs_norm-norm.ensures, ← c.safety-s.ensures, ← c.error_fails.ensures, c.if-error_fails.true, ← c.error_rejected.ensures)

pub returns : goal.returns
unfolding judged error_ws when◌then◌else◌
returns c =
    rw (← c.rescale.ensures, ← c.error_const.ensures, ← c.weigh.ensures, ← c.rhs_norm-norm.ensures, ← c.safety-s.ensures, ← c.error_fails.ensures, c.if-error_fails.false) c.step_accepted.ensures
