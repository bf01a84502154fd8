-- `polynomial::Within::factor` is its formula. Assumes nothing.
use mathlib.Core.Path.{refl}
use Prim.Native.Nat.{◌^◌}
use native.Mathlib.Omega.{arith}
use lib.Dec.{le→leb}
use lib.Ieee.{in_float}
use Rattle.interpolation.specs.Interpolate.{x_factor}
use Rattle.interpolation.proofs.polynomial.Within.factor.Goals as goal

pub int_to_float-denom : goal.int_to_float-denom
unfolding in_float
int_to_float-denom c = le→leb c.args.k (2 ^ 53) (omega arith)

pub int_to_float-t_shift : goal.int_to_float-t_shift
unfolding in_float
int_to_float-t_shift c = le→leb c.args.k (2 ^ 53) (omega arith)

pub returns : goal.returns
unfolding x_factor
returns c = refl
