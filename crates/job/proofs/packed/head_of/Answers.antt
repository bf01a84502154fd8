-- `packed::head_of` meets its contract, field by field. Assumes nothing.
use mathlib.Core.Path.{◌≡◌}
use Prim.Native.Nat.{ℕ, ◌/◌}
use native.Mathlib.Omega.{arith}
use Rattle.job.proofs.packed.head_of.Goals as goal

-- nothing stands behind the padding
none_behind : (w : ℕ) → w / 1 ≡ w
none_behind w = omega arith

pub returns : goal.returns
returns c = rw (c.head_bits-w.ensures, none_behind)
