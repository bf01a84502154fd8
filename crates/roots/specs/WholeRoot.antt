-- The two steps by which the code finds a double's root: the whole number nearest to a root, and the root of a significand at an exponent.
use Rattle.std.specs.Prelude.{ℕ, ◌+◌, ◌*◌, ◌^◌, ◌≤◌, ◌<◌, Float}
use Rattle.std.specs.Float.{binary64}
use Rattle.std.specs.Float.Ieee.{of_bits}
use Rattle.roots.specs.Roots.{rounded}

-- m is nearest to the root of n * 2 ^ 52: (2 m - 1) ^ 2 < 4 n * 2 ^ 52 < (2 m + 1) ^ 2, each divided by 4
pub record NearestWhole (n m : ℕ) : Type 0 where
  pub reached : m * m < n * 2 ^ 52 + m
  pub last : n * 2 ^ 52 ≤ m * m + m

-- the double nearest to the root of a * 2 ^ (e - 2148), which is that of a * 2 ^ e in units
unfoldable pub scaled_root : ℕ → ℕ → Float
unfolding rounded
scaled_root a e = of_bits binary64 (rounded 2 1 (4 * (a * 2 ^ e)))
