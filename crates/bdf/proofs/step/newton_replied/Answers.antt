-- `step::newton_replied`: its callees one after the other. Assumes nothing.
use Rattle.rules.specs.Step.{newton_replied}
use Rattle.bdf.proofs.step.newton_replied.Goals as goal

pub returns : goal.returns
unfolding newton_replied
returns c = rw (← c.correct.ensures, ← c.rhs_norm-norm.ensures, ← c.advance.ensures) c.iterated.ensures
