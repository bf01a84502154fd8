-- The value of a bit pattern as digits and places, and the test of a pattern as a comparison of m ^ k * n with a power of two.
use mathlib.Core.Path.{◌≡◌, refl, sym, ap, ◌∙◌}
use mathlib.Core.Bool.{Bool, true, false}
use Prim.Native.Nat.{ℕ, zero, suc, ◌+◌, ◌-◌, ◌*◌, ◌/◌, ◌%◌, ◌^◌, ◌≤◌, ◌<◌}
use native.Mathlib.Nat.{mul-le-mul, le_of_lt, lt_irrefl, not-le_of_lt, mul-le-mul_right, mul-lt-mul_of_pos_right, mul-pos, one-le-pow, le-mul_of_pos_right, lt_of_lt_of_le, pow-suc, pow-zero, mul-one, mul_comm, mul-mul-mul_comm}
use native.Mathlib.Omega.{arith}
use lib.Dec.{leb}
use lib.Pow.{pow_pos, pow-add, pow-lt, pow_mono}
use borrow.Author.Tests.{leb-true, leb-false, le-leb, lt-leb}
use Rattle.roots.specs.Roots.{val, infinity_bits, edge, reaches}
use Rattle.roots.proofs.laws.Patterns.{val_small, val_normal, val_step}
use Rattle.roots.specs.Scaled.{Scaled, Asked, reaches_root}

-- ---- a pattern's value

module _ (b d q : ℕ) (worth : val b ≡ d * 2 ^ q) (is : q ≡ b / 2 ^ 52 - 1) where
  -- one step up from a value at the places q
  step_up : b < infinity_bits → val (b + 1) ≡ (d + 1) * 2 ^ q
  step_up h = val_step b h ∙ rw (worth, ← is) (omega arith)

  -- and another, which is no shorter
  steps_up : b + 1 < infinity_bits → (d + 2) * 2 ^ q ≤ val (b + 2)
  steps_up h =
      let two : b + 2 ≡ b + 1 + 1 = omega arith in
      let places : q ≤ (b + 1) / 2 ^ 52 - 1 = omega arith in
      rw (two, val_step (b + 1) h, step_up (omega arith)) (omega (arith, pow_mono places))

pub scaled_small : (b : ℕ) → b < 2 ^ 52 → Scaled b b 0
scaled_small b h =
    let worth : val b ≡ b * 2 ^ 0 = val_small b h ∙ sym (mul-one b) in
    record {
      worth = worth;
      small = omega arith;
      low = omega arith;
      some = λ g. g;
      next = step_up b b 0 worth (omega arith) (omega arith);
      after = λ g. steps_up b b 0 worth (omega arith) g;
      last = λ g. absurd (not-le_of_lt h (le_of_lt g));
    }

normal_worth : (b : ℕ) → 2 ^ 52 ≤ b → b < infinity_bits → val b ≡ (2 ^ 52 + b % 2 ^ 52) * 2 ^ (b / 2 ^ 52 - 1)
normal_worth b h g =
    let is : b ≡ (b / 2 ^ 52 - 1 + 1) * 2 ^ 52 + b % 2 ^ 52 = omega arith in
    ap val is ∙ val_normal (b / 2 ^ 52 - 1) (b % 2 ^ 52) (omega arith) (omega arith)

pub scaled_normal : (b : ℕ) → 2 ^ 52 ≤ b → b < infinity_bits → Scaled b (2 ^ 52 + b % 2 ^ 52) (b / 2 ^ 52 - 1)
scaled_normal b h g =
    record {
      worth = normal_worth b h g;
      small = omega arith;
      low = omega arith;
      some = λ _. omega arith;
      next = step_up b (2 ^ 52 + b % 2 ^ 52) (b / 2 ^ 52 - 1) (normal_worth b h g) refl g;
      after = λ n. steps_up b (2 ^ 52 + b % 2 ^ 52) (b / 2 ^ 52 - 1) (normal_worth b h g) refl n;
      last = λ more. last_worth more;
    }
  where
    last_worth : 2 ^ 52 < 2 ^ 52 + b % 2 ^ 52 → val (b - 1) ≡ (2 ^ 52 + b % 2 ^ 52 - 1) * 2 ^ (b / 2 ^ 52 - 1)
    last_worth more =
        let field : (b - 1) / 2 ^ 52 ≡ b / 2 ^ 52 = omega arith in
        let digits : 2 ^ 52 + (b - 1) % 2 ^ 52 ≡ 2 ^ 52 + b % 2 ^ 52 - 1 = omega arith in
        normal_worth (b - 1) (omega arith) (omega arith) ∙ rw (field, digits)

-- ---- the edges around it

module _ (b m q : ℕ) (r : Scaled b m q) where
  pub edge_over : edge (b + 1) ≡ (2 * m + 1) * 2 ^ q
  unfolding edge
  edge_over =
      let below : b + 1 - 1 ≡ b = omega arith in
      rw (below, r.worth, r.next) (omega arith)

  pub edge_after : b + 1 < infinity_bits → (2 * m + 1 + 2) * 2 ^ q ≤ edge (b + 1 + 1)
  unfolding edge
  edge_after h =
      let below : b + 1 + 1 - 1 ≡ b + 1 = omega arith in
      let two : b + 1 + 1 ≡ b + 2 = omega arith in
      rw (below, two, r.next) (omega (arith, r.after h))

  pub edge_under : 2 ^ 52 < m → edge b ≡ (2 * m - 1) * 2 ^ q
  unfolding edge
  edge_under h = sums m (2 ^ q) (omega arith) (rw (r.last h, r.worth))
    where
      sums : (d p : ℕ) → 0 < d → val (b - 1) + val b ≡ (d - 1) * p + d * p → val (b - 1) + val b ≡ (2 * d - 1) * p
      sums zero p hd e = absurd (lt_irrefl 0 hd)
      sums (suc d) p hd e =
          let one : suc d - 1 ≡ d = omega arith in
          let both : 2 * suc d - 1 ≡ d + suc d = omega arith in
          e ∙ rw (one, both) (omega arith)

-- ---- the test

-- (m * 2 ^ q) ^ k is m ^ k, and q * k places more
power_of_scaled : (m q k : ℕ) → (m * 2 ^ q) ^ k ≡ m ^ k * 2 ^ (q * k)
power_of_scaled m q zero =
    let none : q * 0 ≡ 0 = omega arith in
    rw (pow-zero (m * 2 ^ q), pow-zero m, none)
power_of_scaled m q (suc k) =
    pow-suc (m * 2 ^ q) k
    ∙ ap (λ (n : ℕ). n * (m * 2 ^ q)) (power_of_scaled m q k)
    ∙ mul-mul-mul_comm (m ^ k) (2 ^ (q * k)) m (2 ^ q)
    ∙ ap (λ (n : ℕ). m ^ k * m * n) (sym (pow-add 2 (q * k) q))
    ∙ ap (λ (n : ℕ). n * 2 ^ (q * k + q)) (sym (pow-suc m k))
    ∙ ap (λ (n : ℕ). m ^ suc k * 2 ^ n) (omega arith)

-- the tested number is m ^ k * n, with all its places
pub tested_is : (k m q n g : ℕ) → (m * 2 ^ q) ^ k * (n * 2 ^ g) ≡ m ^ k * n * 2 ^ (q * k + g)
tested_is k m q n g =
    ap (λ (v : ℕ). v * (n * 2 ^ g)) (power_of_scaled m q k)
    ∙ mul-mul-mul_comm (m ^ k) (2 ^ (q * k)) n (2 ^ g)
    ∙ ap (λ (v : ℕ). m ^ k * n * v) (sym (pow-add 2 (q * k) g))

-- a * 2 ^ u against 2 ^ l, by the places that are left
drop_places : (a u l : ℕ) → u ≤ l → leb (a * 2 ^ u) (2 ^ l) ≡ leb a (2 ^ (l - u))
drop_places a u l h = by_test (leb a (2 ^ (l - u))) refl
  where
    places : 2 ^ l ≡ 2 ^ (l - u) * 2 ^ u
    places = ap (λ (n : ℕ). 2 ^ n) (omega arith) ∙ pow-add 2 (l - u) u

    by_test : (t : Bool) → leb a (2 ^ (l - u)) ≡ t → leb (a * 2 ^ u) (2 ^ l) ≡ t
    by_test true e = rw places (le-leb (a * 2 ^ u) (2 ^ (l - u) * 2 ^ u) (mul-le-mul_right (2 ^ u) (leb-true a (2 ^ (l - u)) e)))
    by_test false e =
        rw places (lt-leb (a * 2 ^ u) (2 ^ (l - u) * 2 ^ u) (mul-lt-mul_of_pos_right (leb-false a (2 ^ (l - u)) e) (pow_pos u)))

-- by the pattern below
module _ (k b m q n g : ℕ) (r : Scaled (b - 1) m q) (asked : Asked k n g) (hb : 0 < b) (in_range : b ≤ infinity_bits) where
  edge_is : edge b ≡ (2 * m + 1) * 2 ^ q
  edge_is = let back : b ≡ b - 1 + 1 = omega arith in ap edge back ∙ edge_over (b - 1) m q r

  reaches_is : reaches_root k n g b ≡ leb ((2 * m + 1) ^ k * n * 2 ^ (q * k + g)) (2 ^ (1075 * k + 1074))
  unfolding reaches
  reaches_is = rw (le-leb b infinity_bits in_range, edge_is, tested_is k (2 * m + 1) q n g)

  pub reaches_by_power : q * k + g ≤ 1075 * k + 1074 → reaches_root k n g b ≡ leb ((2 * m + 1) ^ k * n) (2 ^ (1075 * k + 1074 - (q * k + g)))
  reaches_by_power h = reaches_is ∙ drop_places ((2 * m + 1) ^ k * n) (q * k + g) (1075 * k + 1074) h

  pub too_far : 1075 * k + 1074 < q * k + g → reaches_root k n g b ≡ false
  too_far h =
      reaches_is
      ∙ lt-leb ((2 * m + 1) ^ k * n * 2 ^ (q * k + g)) (2 ^ (1075 * k + 1074))
      (lt_of_lt_of_le (pow-lt h)
      (rw (mul_comm ((2 * m + 1) ^ k * n) (2 ^ (q * k + g))) (le-mul_of_pos_right (2 ^ (q * k + g)) (mul-pos (one-le-pow k (2 * m + 1) (omega arith)) asked.some))))

-- a pattern's places, k times, are a number of the code
pub few_places : (q k : ℕ) → q < 2046 → k ≤ 7 → q * k ≤ 2046 * 7
few_places q k hq hk = mul-le-mul (le_of_lt hq) hk
