-- Why the quick test of a guess is right: upper parts of products keep their bounds, and the power of a neighbouring middle is bounded by that of the one tested.
-- The large powers of two are variables here.
use mathlib.Core.Path.{◌≡◌, sym, ap, ◌∙◌}
use Prim.Native.Nat.{ℕ, zero, suc, ◌+◌, ◌*◌, ◌/◌, ◌^◌, ◌≤◌, ◌<◌}
use native.Mathlib.Nat.{le_of_eq, le_trans, lt_of_lt_of_le, lt_of_le_of_lt, mul-le-mul, mul-le-mul_left, mul-le-mul_right, mul-lt-mul_of_pos_right, le_of_mul-le-mul_right, lt_of_mul-lt-mul_right, pow-le-pow_left, pow-suc, pow-zero, mul_right_comm, div-mul-le_self, le-mul_of_pos_right, mul-zero}
use native.Mathlib.Numerals.{add-one}
use native.Mathlib.Omega.{arith}
use lib.Pow.{pow-add}
use Rattle.roots.proofs.Powers.{power_of_power}
use Rattle.roots.specs.Quick.{High, Near, LimitIs}

-- ---- the upper part of one product

-- u = a * base + b, v = c * base + d: what is left out of the upper part is below 3 * base * base
module _ (base a b c d : ℕ) (hb : b < base) (hd : d < base) where
  left_out : b * d ≤ base * base
  left_out = mul-le-mul (omega arith) (omega arith)

  module _ (x y : ℕ) (rx ry : ℕ) (ex : x * base + rx ≡ a * d) (ey : y * base + ry ≡ b * c) (hx : rx < base) (hy : ry < base) where
    low_middle : rx * base ≤ base * base
    low_middle = mul-le-mul_right base (omega arith)

    high_middle : ry * base ≤ base * base
    high_middle = mul-le-mul_right base (omega arith)

    both : (x * base + rx) * base + (y * base + ry) * base ≡ (a * d) * base + (b * c) * base
    both = rw (ex, ey)

    pub upper_low : (a * c + x + y) * (base * base) ≤ (a * base + b) * (c * base + d)
    upper_low = omega (arith, both)

    pub upper_up : (a * base + b) * (c * base + d) ≤ (a * c + x + y + 3) * (base * base)
    upper_up = omega (arith, both, left_out, low_middle, high_middle)

-- ---- a chain of them

module _ (w p e f h r j : ℕ) where
  chain_low : h * p ≤ e → r * w ≤ h * f → r * (p * w) ≤ e * f
  chain_low lo by =
      let one : r * w * p ≤ h * f * p = mul-le-mul_right p by in
      let two : h * p * f ≤ e * f = mul-le-mul_right f lo in
      omega arith

  chain_up : f ≤ w → e ≤ (h + j) * p → h * f ≤ (r + 3) * w → e * f ≤ (r + (j + 3)) * (p * w)
  chain_up small up by =
      let one : e * f ≤ (h + j) * p * f = mul-le-mul_right f up in
      let two : h * f * p ≤ (r + 3) * w * p = mul-le-mul_right p by in
      let three : j * p * f ≤ j * p * w = mul-le-mul_left (j * p) small in
      omega arith

pub near_none : (e : ℕ) → Near e 0 e
near_none e = record { low = omega arith; up = omega arith }

pub near_more : (e f k h r : ℕ) → f ≤ 2 ^ 64 → Near e k h → High h f r → Near (e * f) (k + 1) r
near_more e f k h r small near high =
    let more : (2 ^ 64) ^ (k + 1) ≡ (2 ^ 64) ^ k * 2 ^ 64 = ap (λ (n : ℕ). (2 ^ 64) ^ n) (add-one k) ∙ pow-suc (2 ^ 64) k in
    let slack : 3 * (k + 1) ≡ 3 * k + 3 = omega arith in
    record {
      low = rw more (chain_low (2 ^ 64) ((2 ^ 64) ^ k) e f h r 0 near.low high.low);
      up = rw (more, slack) (chain_up (2 ^ 64) ((2 ^ 64) ^ k) e f h r (3 * k) small near.up high.up);
    }

-- ---- neighbours

-- (m + 2) ^ k is at least m ^ k * (1 + 2 k / m)
pub next_grows : (m k : ℕ) → m ^ k * (m + 2 * k) ≤ (m + 2) ^ k * m
next_grows m zero = rw (pow-zero m, pow-zero (m + 2)) (omega arith)
next_grows m (suc k) =
    let here : m ^ k * (m + 2 * k) * (m + 2) ≤ (m + 2) ^ k * m * (m + 2) = mul-le-mul_right (m + 2) (next_grows m k) in
    rw (pow-suc m k, pow-suc (m + 2) k) (omega arith)

-- l ^ k is at most (l + 2) ^ k / (1 + 2 k / (l + 2))
pub last_shrinks : (l k : ℕ) → l ^ k * (l + 2 + 2 * k) ≤ (l + 2) ^ k * (l + 2)
last_shrinks l zero = rw (pow-zero l, pow-zero (l + 2)) (omega arith)
last_shrinks l (suc k) =
    let here : l ^ k * (l + 2 + 2 * k) * l ≤ (l + 2) ^ k * (l + 2) * l = mul-le-mul_right l (last_shrinks l k) in
    let less : l ^ k * l ≤ (l + 2) ^ k * (l + 2) = mul-le-mul (pow-le-pow_left (omega arith) k) (omega arith) in
    rw (pow-suc l k, pow-suc (l + 2) k) (omega arith)

-- ---- the limit

-- A tested number is f * u, held to c; of f * s the upper part is known in units of w, in which the limit is p.
module _ (c s u w p : ℕ) (limit : p * w * u ≡ c * s) where
  pub within : (f : ℕ) → 0 < s → f * s ≤ p * w → f * u ≤ c
  within f some h =
      let all : f * s * u ≤ p * w * u = mul-le-mul_right u h in
      le_of_mul-le-mul_right {k = s} (le_trans (le_of_eq (mul_right_comm f u s)) (le_trans all (le_of_eq limit))) some

  pub beyond : (f : ℕ) → 0 < u → p * w < f * s → c < f * u
  beyond f some h =
      let all : p * w * u < f * s * u = mul-lt-mul_of_pos_right h some in
      lt_of_mul-lt-mul_right s (lt_of_le_of_lt (le_of_eq (sym limit)) (lt_of_lt_of_le all (le_of_eq (mul_right_comm f s u))))

-- the upper part h, the limit p and the next middle's distance, k * v at least, as products with m and m + k
pub next_over : (p h m k v : ℕ) → v * (m + k) ≤ p → 0 < m → p < h + k * v → p * m < h * (m + k)
next_over p h m k v hv some h' =
    let one : k * (v * (m + k)) ≤ k * p = mul-le-mul_left k hv in
    let two : (p + 1) * (m + k) ≤ (h + k * v) * (m + k) = mul-le-mul_right (m + k) (omega arith) in
    omega arith

pub last_under : (p h m k v : ℕ) → v * (m + k) ≤ p → h ≤ p + k * v → h * m ≤ p * (m + k)
last_under p h m k v hv h' =
    let one : k * (v * (m + k)) ≤ k * p = mul-le-mul_left k hv in
    let two : h * m ≤ (p + k * v) * m = mul-le-mul_right m h' in
    omega arith

-- F = m ^ k * n, G that of a neighbour
pub next_beyond : (w p h m k s f g : ℕ) → 0 < w → 0 < m → h * w ≤ f * s → f * (m + k) ≤ g * m → p * m < h * (m + k) → p * w < g * s
next_beyond w p h m k s f g hw hm low grows over =
    let one : p * m * w < h * (m + k) * w = mul-lt-mul_of_pos_right over hw in
    let two : h * w * (m + k) ≤ f * s * (m + k) = mul-le-mul_right (m + k) low in
    let three : f * (m + k) * s ≤ g * m * s = mul-le-mul_right s grows in
    let all : p * w * m < g * s * m = omega arith in
    lt_of_mul-lt-mul_right m all

pub last_within : (w p h m k s f g : ℕ) → 0 < m → f * s ≤ h * w → g * (m + k) ≤ f * m → h * m ≤ p * (m + k) → g * s ≤ p * w
last_within w p h m k s f g hm up shrinks under =
    let one : h * m * w ≤ p * (m + k) * w = mul-le-mul_right w under in
    let two : f * s * m ≤ h * w * m = mul-le-mul_right m up in
    let three : g * (m + k) * s ≤ f * m * s = mul-le-mul_right s shrinks in
    let all : g * s * (m + k) ≤ p * w * (m + k) = omega arith in
    le_of_mul-le-mul_right all (omega arith)

pub limit_is : (k q g w : ℕ) → w + (q * k + g) ≡ 1021 * k + 1085 → LimitIs k q g (2 ^ w)
limit_is k q g w e =
    let used = q * k + g in
    let places : w + 64 * k + used ≡ 1075 * k + 1074 + (10 * k + 11) = omega arith in
    ap (λ (n : ℕ). 2 ^ w * n * 2 ^ used) (power_of_power 64 k)
    ∙ ap (λ (n : ℕ). n * 2 ^ used) (sym (pow-add 2 w (64 * k)))
    ∙ sym (pow-add 2 (w + 64 * k) used)
    ∙ ap (λ (n : ℕ). 2 ^ n) places
    ∙ pow-add 2 (1075 * k + 1074) (10 * k + 11)

-- a limit of 0, which stands for none, is never met
pub some_limit : (p h s k v m : ℕ) → v * (m + k) ≤ p → 0 < m → 0 < s → h + s ≤ p + k * v → 0 < p
some_limit zero h s k v m reach hm hs close =
    let one : v ≤ v * (m + k) = le-mul_of_pos_right v (omega arith) in
    let none : v ≡ 0 = omega arith in
    let gone : k * v ≡ 0 = rw none (mul-zero k) in
    absurd (omega arith)
some_limit (suc p) h s k v m reach hm hs close = omega arith

-- the distance to the next middle is a small number
pub small_reach : (p m k : ℕ) → p < 2 ^ 64 → 2 ^ 52 ≤ m → k ≤ 14 → k * (p / (m + k)) < 2 ^ 32
small_reach p m k hp hm hk =
    let one : p / (m + k) * 2 ^ 52 ≤ p / (m + k) * (m + k) = mul-le-mul_left (p / (m + k)) (omega arith) in
    let few : p / (m + k) ≤ 4096 = omega (arith, div-mul-le_self p (m + k)) in
    omega (arith, mul-le-mul hk few)
