-- What the search for an inverse root works on: a double as digits * 2 ^ places units, and the test of a bit pattern against it.
use Rattle.std.specs.Prelude.{◌≡◌, Bool, ℕ, ◌+◌, ◌-◌, ◌*◌, ◌^◌, ◌≤◌, ◌<◌}
use Rattle.roots.specs.Roots.{val, infinity_bits, reaches, rounded}

-- The value of the pattern b. At the same places the next pattern's digits are one more, and the one after it is worth two more at least;
-- the digits of the one before are one less, where b is a normal one and not the first of its exponent.
pub record Scaled (b digits places : ℕ) : Type 0 where
  pub worth : val b ≡ digits * 2 ^ places
  pub small : digits < 2 ^ 53
  pub low : places < 2046
  pub some : 0 < b → 0 < digits
  pub next : val (b + 1) ≡ (digits + 1) * 2 ^ places
  pub after : b + 1 < infinity_bits → (digits + 2) * 2 ^ places ≤ val (b + 2)
  pub last : 2 ^ 52 < digits → val (b - 1) ≡ (digits - 1) * 2 ^ places

-- the inverse k-th root of digits * 2 ^ places units is asked for
pub record Asked (k digits places : ℕ) : Type 0 where
  pub from : 1 ≤ k
  pub upto : k ≤ 7
  pub some : 0 < digits
  pub small : digits < 2 ^ 53
  pub low : places < 2046

-- the edge of the pattern b to the power k, times that number, is at most 1
abbrev pub reaches_root : ℕ → ℕ → ℕ → ℕ → Bool
reaches_root k digits places b = reaches k (digits * 2 ^ places) (2 ^ (1075 * k + 1074)) b

-- the greatest such pattern
abbrev pub nearest_root : ℕ → ℕ → ℕ → ℕ
nearest_root k digits places = rounded k (digits * 2 ^ places) (2 ^ (1075 * k + 1074))
