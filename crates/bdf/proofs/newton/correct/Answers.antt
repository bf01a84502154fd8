-- `newton::correct`: its callees one after the other. Assumes nothing.
use Rattle.rules.specs.Newton.{correction}
use Rattle.bdf.proofs.newton.correct.Goals as goal

pub returns : goal.returns
unfolding correction
returns c =
    rw (c.residual.ensures, c.load.ensures, c.row.ensures) at c.solve.ensures
