-- `step::error_fails`: the tests of its definition one after the other. Assumes nothing.
use Rattle.std.proofs.Common.{eq-eqb, ne_eqb}
use Rattle.rules.specs.Step.{error_fails}
use Rattle.bdf.proofs.step.error_fails.Goals as goal

pub returns-then-norm : goal.returns-then-norm
unfolding error_fails
returns-then-norm c = rw c.if-norm.true

pub returns-then-guarded-eq1 : goal.returns-then-guarded-eq1
unfolding error_fails
returns-then-guarded-eq1 c =
    rw (c.if-norm.false, eq-eqb c.args.guarded 1 c.if-guarded-eq1.true, c.is_nan.ensures.value)

pub returns-else-guarded-eq1 : goal.returns-else-guarded-eq1
unfolding error_fails
returns-else-guarded-eq1 c =
    rw (c.if-norm.false, ne_eqb c.args.guarded 1 c.if-guarded-eq1.false)
