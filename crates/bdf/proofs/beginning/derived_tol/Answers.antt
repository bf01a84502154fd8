-- `beginning::derived_tol` is its formula. Assumes nothing.
use Rattle.rules.specs.Begin.{derived_tol}
use Rattle.bdf.proofs.beginning.derived_tol.Goals as goal

pub returns : goal.returns
unfolding derived_tol
returns c = rw (c.max.ensures, c.min.ensures, c.sqrt.ensures)
