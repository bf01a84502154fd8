-- `roots::sqrt_guess::guess` meets its contract: the two patterns that it reads lie below infinity's.
-- Assumes nothing.
use Prim.Native.Nat.{◌+◌, ◌%◌, ◌^◌}
use native.Mathlib.Omega.{arith}
use Rattle.roots.proofs.Number.{pattern_is_number}
use Rattle.roots.proofs.sqrt_guess.guess.Goals as goal

pub float_from_bits-r : goal.float_from_bits-r
float_from_bits-r c = pattern_is_number (0x3ff0_0000_0000_0000 + c.args.w) (omega arith)

pub float_from_bits-f : goal.float_from_bits-f
float_from_bits-f c = pattern_is_number (0x3ff0_0000_0000_0000 + c.args.w % 2 ^ 52) (omega arith)
