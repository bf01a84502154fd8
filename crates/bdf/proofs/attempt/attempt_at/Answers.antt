-- `attempt::attempt_at`: the prediction, then by whether the matrix must be factored. Assumes nothing.
use Rattle.loops.specs.Choice.{when◌then◌else◌}
use Rattle.rules.specs.Attempt.{attempt_at, predicted_all}
use Rattle.bdf.proofs.attempt.attempt_at.Goals as goal

pub returns-then-must_factor : goal.returns-then-must_factor
unfolding attempt_at predicted_all when◌then◌else◌
returns-then-must_factor c =
    rw (← c.predict.ensures, ← c.rescale.ensures, ← c.psi.ensures, ← c.must_factor.ensures, c.if-must_factor.true) c.refactor.ensures

pub returns : goal.returns
unfolding attempt_at predicted_all when◌then◌else◌
returns c =
    rw (← c.predict.ensures, ← c.rescale.ensures, ← c.psi.ensures, ← c.must_factor.ensures, c.if-must_factor.false) c.newton_start.ensures
