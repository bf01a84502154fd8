-- `unit_r`: the numbers of the code's table are the definition's, bit by bit. Assumes nothing.
use Rattle.std.proofs.Common.{refl}
use Rattle.std.specs.Float.Ieee.{of_bits}
use Rattle.unit.specs.Unit.{unit_r}
use Rattle.unit.proofs.unit_r.Goals as goal

pub returns : goal.returns
unfolding unit_r of_bits
returns c = refl
