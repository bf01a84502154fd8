-- From a whole root to a double's: where m is nearest to the root of n * 2 ^ 52, the pattern with the significand m and the
-- exponent's field q + 1 is the root of 4 n * 2 ^ 52 * (2 ^ q) ^ 2, since its edge is reached and that of the next pattern is not.
-- The large powers are variables in the laws on numbers, since `omega` would write them out.
use Rattle.std.specs.Prelude.{◌≡◌, ◌⊎◌, ℕ, zero, suc, ◌+◌, ◌-◌, ◌*◌, ◌/◌, ◌%◌, ◌^◌, ◌≤◌, ◌<◌}
use Rattle.std.proofs.Common.{sym, ap, ◌∙◌, inl, inr, zero-le, eq-or-lt_of_le, le_of_lt, le_of_suc-le-suc, le_trans, lt_of_not-le, mul-le-mul, mul-le-mul_left, mul-le-mul_right, mul-lt-mul_of_pos_right, mul-pos, mul-one, one-mul, pow-suc, arith, pow-add, pow_pos}
use Rattle.std.proofs.Math.Nat.{pow-zero, mul-mul-mul_comm}
use Rattle.std.specs.Float.{binary64}
use Rattle.std.specs.Float.Ieee.{of_bits}
use Rattle.roots.specs.Roots.{val, infinity_bits, edge, rounded}
use Rattle.roots.proofs.laws.Patterns.{val_le, val_normal, edge_next, edge_here}
use Rattle.roots.proofs.laws.RootLaws.{reaches_intro, fails_above, rounded_is}
use Rattle.roots.specs.WholeRoot.{NearestWhole, scaled_root}

-- ---- the range of whole roots

too_small : (n m p : ℕ) → p ≤ n → m < p → n * p ≤ m * m + m → ⊥
too_small n m p low h l = omega (arith, mul-le-mul_left m h, mul-le-mul_right p h, mul-le-mul_right p low)

too_large : (n d p : ℕ) → 0 < p → n + 2 ≤ 4 * p → (2 * p + d) * (2 * p + d) < n * p + (2 * p + d) → ⊥
too_large n d p hp high l = omega (arith, mul-le-mul_right p high, mul-le-mul_right d hp)

-- of an n from 2 ^ 52 to 2 ^ 54 - 2 the root has 53 bits
pub root_range : (n m : ℕ) → 2 ^ 52 ≤ n → n + 2 ≤ 2 ^ 54 → NearestWhole n m → (2 ^ 52 ≤ m) × (m < 2 ^ 53)
root_range n m low high r = (
  le_of_suc-le-suc (lt_of_not-le (λ (h : suc m ≤ 2 ^ 52). too_small n m (2 ^ 52) low h r.last)),
  lt_of_not-le (λ (h : 2 ^ 53 ≤ m).
      let is : m ≡ 2 * 2 ^ 52 + (m - 2 ^ 53) = omega arith in
      too_large n (m - 2 ^ 53) (2 ^ 52) (pow_pos 52) high (rw is at r.reached)),
)

-- ---- squares of edges, p being 2 ^ q and k the 4 n * 2 ^ 52

square : (x : ℕ) → x ^ 2 * 1 ≡ x * x
square x = mul-one (x ^ 2) ∙ pow-suc x 1 ∙ ap (λ (y : ℕ). y * x) (pow-suc x 0 ∙ ap (λ (y : ℕ). y * x) (pow-zero x) ∙ one-mul x)

square_scaled : (a p : ℕ) → (a * p) ^ 2 * 1 ≡ a * a * (p * p)
square_scaled a p = square (a * p) ∙ mul-mul-mul_comm a p a p

square_reaches : (a k p : ℕ) → a * a ≤ k → (a * p) ^ 2 * 1 ≤ k * (p * p)
square_reaches a k p h = rw square_scaled (mul-le-mul_right (p * p) h)

square_passes : (a k p : ℕ) → 0 < p → k < a * a → k * (p * p) < (a * p) ^ 2 * 1
square_passes a k p hp h = rw square_scaled (mul-lt-mul_of_pos_right h (mul-pos hp hp))

-- (2 m - 1) ^ 2 < 4 k, and 4 k < (2 m + 1) ^ 2
half_below : (m k : ℕ) → 0 < m → m * m < k + m → (2 * m - 1) * (2 * m - 1) ≤ 4 * k
half_below zero k h l = omega arith
half_below (suc m) k h l = let is : 2 * suc m - 1 ≡ 2 * m + 1 = omega arith in rw is (omega arith)

half_above : (m k : ℕ) → k ≤ m * m + m → 4 * k < (2 * m + 1) * (2 * m + 1)
half_above m k l = omega arith

-- an edge lies no higher than the pattern's own value, in half units
edge_at_most : (b x : ℕ) → b < infinity_bits → val b ≡ x → edge b ≤ 2 * x
unfolding edge
edge_at_most b x h is = omega (arith, val_le (b - 1) b (omega arith) (le_of_lt h))

square_at_most : (e a k p : ℕ) → e ≤ 2 * (a * p) → 2 * a * (2 * a) ≤ k → e ^ 2 * 1 ≤ k * (p * p)
square_at_most e a k p h l =
    rw square (le_trans (mul-le-mul h h) (le_trans (omega arith) (mul-le-mul_right (p * p) l)))

-- ---- the pattern

first_reached : (n t : ℕ) → t ≡ 0 → 2 ^ 52 ≤ n → 2 * (2 ^ 52 + t) * (2 * (2 ^ 52 + t)) ≤ 4 * (n * 2 ^ 52)
first_reached n t is low = rw is (mul-le-mul_left 4 (mul-le-mul_right (2 ^ 52) low))

module _ (n q t : ℕ) (low : 2 ^ 52 ≤ n) (finite : q < 2045) (digits : t < 2 ^ 52) (r : NearestWhole n (2 ^ 52 + t)) where
  edge_reached : edge ((q + 1) * 2 ^ 52 + t) ^ 2 * 1 ≤ 4 * (n * 2 ^ 52) * (2 ^ q * 2 ^ q)
  edge_reached = pick (eq-or-lt_of_le zero-le)
    where
      pick : (0 ≡ t) ⊎ (0 < t) → edge ((q + 1) * 2 ^ 52 + t) ^ 2 * 1 ≤ 4 * (n * 2 ^ 52) * (2 ^ q * 2 ^ q)
      -- the first pattern of an exponent has its own value reached
      pick (inl e) =
          square_at_most (edge ((q + 1) * 2 ^ 52 + t)) (2 ^ 52 + t) (4 * (n * 2 ^ 52)) (2 ^ q)
          (edge_at_most ((q + 1) * 2 ^ 52 + t) ((2 ^ 52 + t) * 2 ^ q) (omega arith) (val_normal q t (omega arith) digits))
          (first_reached n t (sym e) low)
      pick (inr above) =
          rw (edge_here q t (omega arith) digits above)
          (square_reaches (2 * (2 ^ 52 + t) - 1) (4 * (n * 2 ^ 52)) (2 ^ q) (half_below (2 ^ 52 + t) (n * 2 ^ 52) (omega arith) r.reached))

  edge_passed : 4 * (n * 2 ^ 52) * (2 ^ q * 2 ^ q) < edge ((q + 1) * 2 ^ 52 + t + 1) ^ 2 * 1
  edge_passed =
      rw (edge_next q t (omega arith) digits)
      (square_passes (2 * (2 ^ 52 + t) + 1) (4 * (n * 2 ^ 52)) (2 ^ q) (pow_pos q) (half_above (2 ^ 52 + t) (n * 2 ^ 52) r.last))

  rounded_fields : rounded 2 1 (4 * (n * 2 ^ 52) * (2 ^ q * 2 ^ q)) ≡ (q + 1) * 2 ^ 52 + t
  rounded_fields =
      let b = (q + 1) * 2 ^ 52 + t in
      let c = 4 * (n * 2 ^ 52) * (2 ^ q * 2 ^ q) in
      rounded_is 2 1 c b
      (reaches_intro 2 1 c b (omega arith) edge_reached)
      (fails_above 2 1 c (b + 1) edge_passed)

-- the pattern of a root by its exponent and its significand
rounded_pattern : (n q m : ℕ) → 2 ^ 52 ≤ n → n + 2 ≤ 2 ^ 54 → q < 2045 → NearestWhole n m → rounded 2 1 (4 * (n * 2 ^ 52) * (2 ^ q * 2 ^ q)) ≡ q * 2 ^ 52 + m
rounded_pattern n q m low high finite r =
    let range = root_range n m low high r in
    let is : m ≡ 2 ^ 52 + (m - 2 ^ 52) = omega (arith, range.0) in
    rounded_fields n q (m - 2 ^ 52) low finite (omega (arith, range.0, range.1)) (rw is at r) ∙ omega (arith, range.0)

-- ---- a root of a * 2 ^ e: the odd exponent's 2 goes to the significand, and half of the rest is the root's exponent

powers_apart : (a p k q e : ℕ) → e ≡ p + (k + (q + q)) → 4 * (a * 2 ^ e) ≡ 4 * (a * 2 ^ p * 2 ^ k) * (2 ^ q * 2 ^ q)
powers_apart a p k q e is = rw (is, pow-add 2 p (k + (q + q)), pow-add 2 k (q + q), pow-add 2 q q) (omega arith)

-- the significand with that 2 is in the range of `root_range`
pub scaled_range : (a p : ℕ) → p < 2 → 2 ^ 52 ≤ a → a < 2 ^ 53 → (2 ^ 52 ≤ a * 2 ^ p) × (a * 2 ^ p + 2 ≤ 2 ^ 54)
scaled_range a zero hp low high = omega arith
scaled_range a (suc zero) hp low high = omega arith
scaled_range a (suc (suc p)) hp low high = absurd (omega arith)

pub scaled_root_is : (a e m : ℕ) → 2 ^ 52 ≤ a → a < 2 ^ 53 → 52 ≤ e → e < 4096 → NearestWhole (a * 2 ^ (e % 2)) m → of_bits binary64 ((e - 52) / 2 * 2 ^ 52 + m) ≡ scaled_root a e
unfolding scaled_root
scaled_root_is a e m low high from below r =
    let range = scaled_range a (e % 2) (omega arith) low high in
    let is : rounded 2 1 (4 * (a * 2 ^ e)) ≡ (e - 52) / 2 * 2 ^ 52 + m =
    ap (rounded 2 1) (powers_apart a (e % 2) 52 ((e - 52) / 2) e (omega arith))
    ∙ rounded_pattern (a * 2 ^ (e % 2)) ((e - 52) / 2) m range.0 range.1 (omega arith) r in
    ap (of_bits binary64) (sym is)
