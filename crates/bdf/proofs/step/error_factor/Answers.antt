-- `step::error_factor`: by the test of its definition. Assumes nothing.
use Rattle.loops.specs.Choice.{when◌then◌else◌}
use Rattle.rules.specs.Step.{error_factor}
use Rattle.bdf.proofs.step.error_factor.Goals as goal

pub returns-then-is_nan : goal.returns-then-is_nan
unfolding error_factor when◌then◌else◌
returns-then-is_nan c = rw (← c.is_nan.ensures.value, c.if-is_nan.true)

pub returns : goal.returns
unfolding error_factor when◌then◌else◌
returns c = rw (← c.is_nan.ensures.value, c.if-is_nan.false, c.max.ensures, c.factor.ensures)
