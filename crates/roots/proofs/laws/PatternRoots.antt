-- The two roots by patterns: what `Meaning` says of doubles, said of their patterns. The root of a pattern is nearer to the true root than
-- any other pattern's value, since the middles on either side of it are its edge and the next pattern's, and no edge's power is a tie.
use Rattle.std.specs.Prelude.{◌≡◌}
use Rattle.std.proofs.Common.{ap, ◌∙◌, mul-one, mul_assoc, le_refl, mul-lt-mul_of_pos_right, lt_of_le_of_lt, lt_of_lt_of_le, add_comm, le_trans, le_of_lt, mul-pos, one-mul, lit<, lit≤, pow_pos, pow_mono}
use Prim.Native.Nat.{ℕ, ◌+◌, ◌-◌, ◌*◌, ◌^◌, ◌≤◌, ◌<◌, zero-le}
use Rattle.std.proofs.Math.Nat.{le_antisymm, mul-lt-mul_of_pos_left}
use native.Mathlib.Omega.{arith}
use Rattle.std.specs.Float.{binary64}
use Rattle.std.specs.Float.Ieee.{of_bits}
use Rattle.roots.specs.Roots.{val, infinity_bits, edge, rounded, sqrt_of, inverse_root}
use Rattle.roots.proofs.laws.Patterns.{val_mono, val_less, val_below, edge_next_small, edge_infinity}
use Rattle.roots.proofs.laws.RootLaws.{sqrt_of_pattern, inverse_root_of_pattern, reaches_intro, fails_above, reaches_before, rounded_reaches, zero_reaches, reaches_at_or_below, near_above, near_below, rounded_in_range, rounded_at_most}
use Rattle.roots.proofs.laws.NoTie.{no_tie, no_inverse_tie, one_pow}

-- a root is above 0 where 1 half unit, the edge of the smallest pattern above 0, is at or below it
above_zero : (k a c : ℕ) → a ≤ c → 0 < rounded k a c
above_zero k a c h =
    reaches_at_or_below k a c 1 (reaches_intro k a c 1 (lit≤ tt) (rw (edge_next_small 0 (lit< tt), one_pow k, one-mul a) h))

-- ---- the square root

-- the pattern that `sqrt_of` finds for the pattern b
unfoldable pub sqrt_bits : ℕ → ℕ
sqrt_bits b = rounded 2 1 (4 * val b * 2 ^ 1074)

pub sqrt_is : (b : ℕ) → 0 < b → b < infinity_bits → sqrt_of (of_bits binary64 b) ≡ of_bits binary64 (sqrt_bits b)
unfolding sqrt_bits
sqrt_is b hb h = sqrt_of_pattern b hb h

two_pos : 0 < 2
two_pos = lit< tt

-- infinity's edge is too high for a root
sqrt_finite : (X : ℕ) → X < 2 ^ 2098 → 4 * X * 2 ^ 1074 < ((2 ^ 54 - 1) * 2 ^ 2045) ^ 2 * 1
sqrt_finite X h = lt_of_lt_of_le (mul-lt-mul_of_pos_right (mul-lt-mul_of_pos_left h (lit< tt)) (pow_pos 1074)) (lit≤ tt)

pub sqrt_below : (b : ℕ) → b < infinity_bits → sqrt_bits b < infinity_bits
unfolding sqrt_bits
sqrt_below b hb =
    let c = 4 * val b * 2 ^ 1074 in
    reaches_before 2 1 c (sqrt_bits b) infinity_bits (rounded_reaches 2 1 c (zero_reaches 2 1 c two_pos))
    (fails_above 2 1 c infinity_bits (rw edge_infinity (sqrt_finite (val b) (val_below b hb))))

pub sqrt_nearer_than_above : (b s : ℕ) → s ≤ infinity_bits → val (sqrt_bits b) < val s → 4 * (val b * 2 ^ 1074) < (val (sqrt_bits b) + val s) ^ 2
unfolding sqrt_bits
sqrt_nearer_than_above b s hs l =
    let c = 4 * val b * 2 ^ 1074 in
    rw (← mul_assoc 4 (val b) (2 ^ 1074), ← mul-one ((val (sqrt_bits b) + val s) ^ 2))
    (near_above 2 1 c two_pos s (val_less (sqrt_bits b) s (rounded_in_range 2 1 c two_pos) l) hs)

pub sqrt_nearer_than_below : (b s : ℕ) → b < infinity_bits → s ≤ infinity_bits → val s < val (sqrt_bits b) → (val (sqrt_bits b) + val s) ^ 2 < 4 * (val b * 2 ^ 1074)
unfolding sqrt_bits
sqrt_nearer_than_below b s hb hs l =
    let r = sqrt_bits b in
    let c = 4 * val b * 2 ^ 1074 in
    let less : s < r = val_less s r hs l in
    rw (← mul_assoc 4 (val b) (2 ^ 1074), ← mul-one ((val r + val s) ^ 2), add_comm (val r) (val s))
    (near_below 2 1 c two_pos (no_tie b r hb (lt_of_le_of_lt zero-le less) (rounded_in_range 2 1 c two_pos)) s less)

-- the root of a value above 0 is above 0
pub sqrt_above_zero : (b : ℕ) → 0 < b → b < infinity_bits → 0 < sqrt_bits b
unfolding sqrt_bits
sqrt_above_zero b hb h =
    let some : 0 < val b = lt_of_le_of_lt zero-le (val_mono 0 b hb (le_of_lt h)) in
    above_zero 2 1 (4 * val b * 2 ^ 1074) (mul-pos (mul-pos (lit< tt) some) (pow_pos 1074))

-- ---- the inverse root

-- the pattern that `inverse_root k` finds for the pattern b
unfoldable pub inverse_bits : ℕ → ℕ → ℕ
inverse_bits k b = rounded k (val b) (2 ^ (1075 * k + 1074))

pub inverse_is : (k b : ℕ) → 0 < b → b < infinity_bits → inverse_root k (of_bits binary64 b) ≡ of_bits binary64 (inverse_bits k b)
unfolding inverse_bits
inverse_is k b hb h = inverse_root_of_pattern k b hb h

module _ (k b : ℕ) (hk : 0 < k) where
  pub inverse_in_range : inverse_bits k b ≤ infinity_bits
  unfolding inverse_bits
  inverse_in_range = rounded_in_range k (val b) (2 ^ (1075 * k + 1074)) hk

  pub inverse_nearer_than_above : (s : ℕ) → s ≤ infinity_bits → val (inverse_bits k b) < val s → 2 ^ (1075 * k + 1074) < (val (inverse_bits k b) + val s) ^ k * val b
  unfolding inverse_bits
  inverse_nearer_than_above s hs l =
      near_above k (val b) (2 ^ (1075 * k + 1074)) hk s (val_less (inverse_bits k b) s inverse_in_range l) hs

  pub inverse_nearer_than_below : (s : ℕ) → b < infinity_bits → s ≤ infinity_bits → val s < val (inverse_bits k b) → (val (inverse_bits k b) + val s) ^ k * val b < 2 ^ (1075 * k + 1074)
  unfolding inverse_bits
  inverse_nearer_than_below s hb hs l =
      let r = inverse_bits k b in
      let less : s < r = val_less s r hs l in
      rw (add_comm (val r) (val s))
      (near_below k (val b) (2 ^ (1075 * k + 1074)) hk (no_inverse_tie k b r hk hb (lt_of_le_of_lt zero-le less) inverse_in_range) s less)

  -- every double is below 2 ^ 1024, so that no root comes down to 0
  pub inverse_above_zero : b < infinity_bits → 0 < inverse_bits k b
  unfolding inverse_bits
  inverse_above_zero hb =
      let room : 2098 ≤ 1075 * k + 1074 = omega arith in
      above_zero k (val b) (2 ^ (1075 * k + 1074)) (le_trans (le_of_lt (val_below b hb)) (pow_mono room))

  -- infinity is the root where the middle above the largest finite value is at or below the true root, and nowhere else
  pub inverse_overflows : ((2 ^ 54 - 1) * 2 ^ 2045) ^ k * val b ≤ 2 ^ (1075 * k + 1074) → inverse_bits k b ≡ infinity_bits
  unfolding inverse_bits
  inverse_overflows h =
      le_antisymm inverse_in_range
      (reaches_at_or_below k (val b) (2 ^ (1075 * k + 1074)) infinity_bits
      (reaches_intro k (val b) (2 ^ (1075 * k + 1074)) infinity_bits (le_refl infinity_bits) (rw edge_infinity h)))

  pub inverse_overflowed : inverse_bits k b ≡ infinity_bits → ((2 ^ 54 - 1) * 2 ^ 2045) ^ k * val b ≤ 2 ^ (1075 * k + 1074)
  unfolding inverse_bits
  inverse_overflowed e =
      rw (ap edge e ∙ edge_infinity) at (rounded_at_most k (val b) (2 ^ (1075 * k + 1074)) hk)
