-- `cell::sized` meets its contract: each way out is a test of the definition. The product of two numbers of at most `max_n` fits.
-- Assumes nothing.
use Prim.Native.Nat.{◌≤◌}
use Rattle.std.proofs.Common.{◌≡◌}
use native.Mathlib.Nat.{mul-le-mul}
use native.Mathlib.Omega.{arith}
use borrow.Author.Tests.{lt-ltb, le-leb, lt-leb}
use Rattle.matrix.specs.Size.{sized_of, max_n}
use Rattle.matrix.proofs.cell.sized.Goals as goal

pub overflow_mul-result : goal.overflow_mul-result
overflow_mul-result c =
    let small : c.args.n ≤ max_n = omega arith in
    omega (arith, mul-le-mul small small)

pub returns-in-1-to-32 : goal.returns-in-1-to-32
unfolding sized_of
returns-in-1-to-32 c = rw (lt-ltb 0 c.args.n (omega arith), le-leb c.args.n max_n (omega arith))

pub returns-in_default : goal.returns-in_default
unfolding sized_of
returns-in_default c = let none : c.args.n ≡ 0 = omega arith in rw none

pub returns-in_default-2 : goal.returns-in_default-2
unfolding sized_of
returns-in_default-2 c = rw (lt-ltb 0 c.args.n (omega arith), lt-leb c.args.n max_n (omega arith))
