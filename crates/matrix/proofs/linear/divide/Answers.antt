-- `linear::divide` meets its contract: one read of each, one write. Assumes nothing.
use Rattle.matrix.specs.Linear.{divided_of}
use Rattle.matrix.proofs.linear.divide.Goals as goal

pub returns : goal.returns
unfolding divided_of
returns c = rw c.at.ensures
