-- `roots::root_guess::two_to` is safe: the pattern is that of a number below 256. Assumes nothing.
use Prim.Native.Nat.{◌+◌, ◌*◌}
use native.Mathlib.Omega.{arith}
use Rattle.roots.proofs.Number.{pattern_is_number}
use Rattle.roots.proofs.root_guess.two_to.Goals as goal

pub float_from_bits-result : goal.float_from_bits-result
float_from_bits-result c = pattern_is_number (4607182418800017408 + c.args.s * 4503599627370496) (omega arith)
