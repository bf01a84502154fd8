-- Why no tie occurs where a root is rounded to the nearest. First the square root. The middle of two neighbouring doubles is an odd number m with q
-- zeros after it, m being at least 2 ^ 53 unless q is 0; so its square is m * m, an odd number, with 2 q zeros after it. What it would have
-- to equal is a number n below 2 ^ 53 with h zeros after it. Being smaller than m * m, n has the more zeros after it; then m * m would be even.
-- Then the inverse root: the power of a middle would have to divide a power of two, and an odd number that does is 1. The one middle with m = 1
-- lies below the smallest double above 0, and no double has a root as low.
use Rattle.std.specs.Prelude.{◌≡◌, refl, ◌⊎◌, ℕ, zero, suc, ◌+◌, ◌-◌, ◌*◌, ◌/◌, ◌%◌, ◌^◌, ◌≤◌, ◌<◌}
use Rattle.std.proofs.Common.{sym, ap, ◌∙◌, inl, inr, ⊎_elim, mul_assoc, mul-one, one-mul, mul_left_comm, mul-add, mod-lt, div-add-mod', lt_of_not-le, not-le_of_lt, lt_of_lt_of_le, le_trans, le-mul_of_pos_right, mul-lt-mul_of_pos_right, pow-suc, lt_irrefl, arith, pow-add, pow_pos, pow_mono}
use Rattle.std.proofs.Math.Nat.{mul-mul-mul_comm, pow-zero, mul-mod_left, eq_of_mul-eq-mul_right, lt_of_mul-lt-mul_left, pow-succ', two-pow-succ, dvd-mul_right, eq-one_of_dvd-one}
use Rattle.roots.specs.Roots.{val, infinity_bits, edge}
use Rattle.roots.proofs.laws.Patterns.{val_small, val_normal, val_below, edge_next, edge_next_small}

-- ---- the two numbers

-- a value is a number below 2 ^ 53 with zeros after it
val_shape : (b : ℕ) → b < infinity_bits → (n : ℕ) × (j : ℕ) × (n < 2 ^ 53) × (val b ≡ n * 2 ^ j)
val_shape b h = by_field (b / 2 ^ 52) (b % 2 ^ 52) (div-add-mod' b (2 ^ 52)) (mod-lt b (pow_pos 52))
  where
    by_field : (x t : ℕ) → x * 2 ^ 52 + t ≡ b → t < 2 ^ 52 → (n : ℕ) × (j : ℕ) × (n < 2 ^ 53) × (val b ≡ n * 2 ^ j)
    by_field zero t e ht =
        let is : b ≡ t = omega arith in
        (t, 0, omega arith, ap val is ∙ val_small t ht ∙ sym (mul-one t))
    by_field (suc q) t e ht =
        let is : b ≡ (q + 1) * 2 ^ 52 + t = omega arith in
        (2 ^ 52 + t, q, omega arith, ap val is ∙ val_normal q t (omega arith) ht)

-- a middle is an odd number with zeros after it, and where there are any, the odd number has 54 digits
middle_shape : (b : ℕ) → b < infinity_bits → (m : ℕ) × (q : ℕ) × (m % 2 ≡ 1) × ((q ≡ 0) ⊎ (2 ^ 53 ≤ m)) × (edge (b + 1) ≡ m * 2 ^ q)
middle_shape b h = by_field (b / 2 ^ 52) (b % 2 ^ 52) (div-add-mod' b (2 ^ 52)) (mod-lt b (pow_pos 52))
  where
    by_field : (x t : ℕ) → x * 2 ^ 52 + t ≡ b → t < 2 ^ 52 → (m : ℕ) × (q : ℕ) × (m % 2 ≡ 1) × ((q ≡ 0) ⊎ (2 ^ 53 ≤ m)) × (edge (b + 1) ≡ m * 2 ^ q)
    by_field zero t e ht =
        let is : b ≡ t = omega arith in
        (2 * t + 1, 0, omega arith, inl refl, ap (λ (n : ℕ). edge (n + 1)) is ∙ edge_next_small t ht ∙ sym (mul-one (2 * t + 1)))
    by_field (suc q) t e ht =
        let is : b ≡ (q + 1) * 2 ^ 52 + t = omega arith in (
          2 * (2 ^ 52 + t) + 1,
          q,
          omega arith,
          inr (omega arith),
          ap (λ (n : ℕ). edge (n + 1)) is ∙ edge_next q t (omega arith) ht,
        )

-- ---- they differ

square_odd : (m : ℕ) → m % 2 ≡ 1 → m * m % 2 ≡ 1
square_odd m o =
    let halved : m ≡ m / 2 * 2 + 1 = omega arith in
    let product : m * m ≡ m * (m / 2) * 2 + m = ap (λ (n : ℕ). m * n) halved ∙ mul-add m (m / 2 * 2) 1 ∙ rw (mul-one, mul_assoc) in
    omega arith

-- with 2 q zeros against more than 2 q
odd_against_even : (m q n h : ℕ) → m % 2 ≡ 1 → q + q < h → m * m * 2 ^ (q + q) ≡ n * 2 ^ h → ⊥
odd_against_even m q n h o more e =
    let g = h - (q + q + 1) in
    let zeros : h ≡ g + 1 + (q + q) = omega arith in
    let split : n * 2 ^ h ≡ n * 2 ^ g * 2 * 2 ^ (q + q) = ap (λ (k : ℕ). n * 2 ^ k) zeros ∙ rw (pow-add 2 (g + 1) (q + q), pow-add 2 g 1, ← mul_assoc, ← mul_assoc) in
    let even : m * m ≡ n * 2 ^ g * 2 = eq_of_mul-eq-mul_right (2 ^ (q + q)) (pow_pos (q + q)) (m * m) (n * 2 ^ g * 2) (e ∙ split) in
    omega (arith, square_odd m o, mul-mod_left (n * 2 ^ g) 2, ap (λ (k : ℕ). k % 2) even)

-- the smaller number has the more zeros after it
more_zeros : (m q n h : ℕ) → n < 2 ^ 53 → 0 < h → (q ≡ 0) ⊎ (2 ^ 53 ≤ m) → m * m * 2 ^ (q + q) ≡ n * 2 ^ h → q + q < h
more_zeros m q n h small some (inl none) e = omega arith
more_zeros m q n h small some (inr wide) e =
    let less : n < m * m = lt_of_lt_of_le small (le_trans wide (le-mul_of_pos_right m (omega arith))) in
    let larger : 2 ^ (q + q) < 2 ^ h = lt_of_mul-lt-mul_left n (rw e at (mul-lt-mul_of_pos_right less (pow_pos (q + q)))) in
    lt_of_not-le (λ (l : h ≤ q + q). not-le_of_lt larger (pow_mono l))

-- an odd number that divides a power of two is 1
odd_divides : (l m c : ℕ) → m % 2 ≡ 1 → m * c ≡ 2 ^ l → m ≡ 1
odd_divides zero m c o e = eq-one_of_dvd-one (rw e at (dvd-mul_right m c))
odd_divides (suc l) m c o e =
    let halved : m ≡ m / 2 * 2 + 1 = omega arith in
    let product : m * c ≡ m / 2 * c * 2 + c = ap (λ (n : ℕ). n * c) halved ∙ omega arith in
    let even : c ≡ c / 2 * 2 = omega (arith, two-pow-succ l) in
    let half : m * c ≡ m * (c / 2) * 2 = ap (λ (n : ℕ). m * n) even ∙ sym (mul_assoc m (c / 2) 2) in
    odd_divides l m (c / 2) o (omega (arith, two-pow-succ l))

-- ---- as they stand in `sqrt_of`

squared : (a : ℕ) → a ^ 2 * 1 ≡ a * a
squared a = mul-one (a ^ 2) ∙ pow-suc a 1 ∙ ap (λ (n : ℕ). n * a) (pow-suc a 0 ∙ rw (pow-zero, one-mul))

square_is : (m q : ℕ) → (m * 2 ^ q) ^ 2 * 1 ≡ m * m * 2 ^ (q + q)
square_is m q = squared (m * 2 ^ q) ∙ mul-mul-mul_comm m (2 ^ q) m (2 ^ q) ∙ ap (λ (n : ℕ). m * m * n) (sym (pow-add 2 q q))

regroup : (f n p w : ℕ) → f * (n * p) * w ≡ n * (p * (f * w))
regroup f n p w = simp (mul_assoc, mul_left_comm)

zeros_are : (n j l : ℕ) → 4 * (n * 2 ^ j) * 2 ^ l ≡ n * 2 ^ (j + (2 + l))
zeros_are n j l = regroup 4 n (2 ^ j) (2 ^ l) ∙ sym (rw (pow-add 2 j (2 + l), pow-add 2 2 l))

-- the square of a middle is not 4 x for any double x, in the units of `sqrt_of`
pub no_tie : (b r : ℕ) → b < infinity_bits → 0 < r → r ≤ infinity_bits → edge r ^ 2 * 1 ≡ 4 * val b * 2 ^ 1074 → ⊥
no_tie b r hb hr below e =
    let v = val_shape b hb in
    let n = v.0 in
    let h = v.1 + 1076 in
    let z = middle_shape (r - 1) (omega arith) in
    let m = z.0 in
    let q = z.1 in
    let here : r - 1 + 1 ≡ r = omega arith in
    let left : edge r ^ 2 * 1 ≡ m * m * 2 ^ (q + q) = ap (λ (a : ℕ). a ^ 2 * 1) (ap (edge) (sym here) ∙ z.4) ∙ square_is m q in
    let right : 4 * val b * 2 ^ 1074 ≡ n * 2 ^ h = ap (λ (a : ℕ). 4 * a * 2 ^ 1074) v.3 ∙ zeros_are n v.1 1074 in
    let same : m * m * 2 ^ (q + q) ≡ n * 2 ^ h = sym left ∙ e ∙ right in
    odd_against_even m q n h z.2 (more_zeros m q n h v.2 (omega arith) z.3 same) same

-- ---- as they stand in `inverse_root`

pub one_pow : (k : ℕ) → 1 ^ k ≡ 1
one_pow zero = pow-zero 1
one_pow (suc k) = rw (pow-suc 1 k, one_pow k)

-- a middle of 1 half unit is no root's
smallest_no_tie : (k X : ℕ) → 0 < k → X < 2 ^ 2098 → 1 ^ k * X ≡ 2 ^ (1075 * k + 1074) → ⊥
smallest_no_tie k X hk h e =
    let room : 2098 ≤ 1075 * k + 1074 = omega arith in
    not-le_of_lt h (rw (sym e ∙ ap (λ (n : ℕ). n * X) (one_pow k) ∙ one-mul X) at (pow_mono room))

-- of a power of a middle one factor is enough
one_factor : (m q k X : ℕ) → (m * 2 ^ q) ^ suc k * X ≡ m * (2 ^ q * ((m * 2 ^ q) ^ k * X))
one_factor m q k X = rw (pow-succ' (m * 2 ^ q) k) (simp mul_assoc)

-- the k-th power of a middle, times x, is not 1 for any double x above 0 and below infinity
pub no_inverse_tie : (k b r : ℕ) → 0 < k → b < infinity_bits → 0 < r → r ≤ infinity_bits → edge r ^ k * val b ≡ 2 ^ (1075 * k + 1074) → ⊥
no_inverse_tie zero b r hk hb hr below e = absurd (lt_irrefl 0 hk)
no_inverse_tie (suc k) b r hk hb hr below e =
    let (m, q, odd, wide, is) = middle_shape (r - 1) (omega arith) in
    let here : r - 1 + 1 ≡ r = omega arith in
    let middle : edge r ≡ m * 2 ^ q = ap edge (sym here) ∙ is in
    let same : (m * 2 ^ q) ^ suc k * val b ≡ 2 ^ (1075 * suc k + 1074) = rw middle at e in
    let one : m ≡ 1 = odd_divides (1075 * suc k + 1074) m _ odd (sym (one_factor m q k (val b)) ∙ same) in
    let none : q ≡ 0 = ⊎_elim (λ z. z) (λ w. omega arith) wide in
    smallest_no_tie (suc k) (val b) hk (val_below b hb) (rw (one, none) at same)
