-- `rescale::compute_r` is r over m. Assumes nothing.
use Rattle.rules.specs.Rescale.{compute_r}
use Rattle.bdf.proofs.rescale.compute_r.Goals as goal

pub returns : goal.returns
unfolding compute_r
returns c = rw c.m_table-m.ensures at c.r_table.ensures
