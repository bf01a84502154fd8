-- `factor::diagonal`: one entry read, and one put. Assumes nothing.
use Rattle.rules.specs.Factor.{diagonal}
use Rattle.bdf.proofs.factor.diagonal.Goals as goal

pub returns : goal.returns
unfolding diagonal
returns c = rw c.get_lu-x.ensures at c.put_lu.ensures
