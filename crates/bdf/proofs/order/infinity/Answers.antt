-- `order::infinity`: the pattern is +infinity's. Assumes nothing.
use mathlib.Core.Path.{refl}
use lib.Ieee.{of_bits, of_fields, nan_bits}
use Rattle.bdf.proofs.order.infinity.Goals as goal

pub float_from_bits-result : goal.float_from_bits-result
unfolding nan_bits
float_from_bits-result c = tt

pub returns : goal.returns
unfolding of_bits of_fields
returns c = refl
