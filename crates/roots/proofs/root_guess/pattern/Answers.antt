-- `roots::root_guess::pattern` is safe: the test for NaN comes before the pattern is asked for. Assumes nothing.
use mathlib.Core.Path.{sym, subst}
use Prim.Native.Nat.{◌<◌, ◌^◌}
use native.Mathlib.Omega.{arith}
use lib.Dec.{T}
use lib.Ieee.{binary64, to_bits}
use lib.Ieee.Bits.{to_bits-lt}
use Rattle.roots.proofs.root_guess.pattern.Goals as goal

pub overflow_add-field : goal.overflow_add-field
overflow_add-field c = let b : to_bits binary64 c.args.r < 2 ^ 64 = to_bits-lt binary64 _ (subst T (sym c.well_formed.0.1) tt) in record { fits = omega arith }
