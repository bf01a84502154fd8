-- `norm::rhs_norm`: the root of the mean of the squares. Assumes nothing.
use Rattle.rules.specs.Norm.{rhs_norm}
use Rattle.bdf.proofs.norm.rhs_norm.Goals as goal

pub returns : goal.returns
unfolding rhs_norm
returns c = rw c.sum_of_squares.ensures at c.sqrt.ensures
