-- Numbers and powers of two as rows of fourteen digits, and that the products at hand have room in one.
use mathlib.Core.Path.{◌≡◌, refl, sym, ap, ◌∙◌}
use mathlib.Core.List.{List}
use Prim.Native.Nat.{ℕ, ◌+◌, ◌*◌, ◌/◌, ◌%◌, ◌^◌, ◌≤◌, ◌<◌}
use native.Mathlib.Nat.{lt_of_le_of_lt, le_trans, le_of_lt, mul-le-mul, pow-le-pow_left, pow-le-pow_right, one-mul}
use native.Mathlib.Omega.{arith}
use lib.Dec.{lit<}
use lib.Pow.{pow-lt, pow_mono, pow-add, shl_exact}
use lib.ListN.{length, get_or, set, replicate, length-set}
use Rattle.roots.proofs.Powers.{power_of_power}
use Rattle.roots.specs.Numeral.{numeral, Row, base, room}
use Rattle.roots.proofs.power.NumeralLaws.{digits_set, digits_zeros, numeral_set, numeral_zeros, zeros_are_zero}

-- the row l is one, and stands for n
pub record Writes (l : List ℕ) (n : ℕ) : Type 0 where
  pub row : Row l
  pub worth : numeral base l 14 ≡ n

-- storing at a place that has 0 adds the new digit there
store : (l : List ℕ) (i v n : ℕ) → Writes l n → i < 14 → get_or l i 0 ≡ 0 → v < base → Writes (set l i v) (n + v * base ^ i)
store l i v n w hi free hv =
    let within : i < length l = omega (arith, w.row.long) in
    let was : get_or l i 0 * base ^ i ≡ 0 = rw free (omega arith) in
    record {
      row = record { long = length-set l i v ∙ w.row.long; digits = digits_set l i v w.row.digits hv };
      worth = omega (arith, numeral_set base l i v 14 within hi, w.worth);
    }

zero_digit : (i : ℕ) → ◌≡◌ {A = ℕ} (get_or (replicate 14 0) i 0) 0
zero_digit i = zeros_are_zero 14 i

zeros : Writes (replicate 14 0) 0
zeros = record { row = record { long = refl; digits = digits_zeros 14 (lit< tt) }; worth = numeral_zeros base 14 14 }

-- a number of 53 bits has two digits
pub two_digits : (n : ℕ) → n < 2 ^ 53 → Writes (set (set (replicate 14 0) 0 (n % 2147483648)) 1 (n / 2147483648)) n
two_digits n h =
    let low = store (replicate 14 0) 0 (n % base) 0 zeros (lit< tt) refl (omega arith) in
    let both = store (set (replicate 14 0) 0 (n % base)) 1 (n / base) _ low (lit< tt) refl (omega arith) in
    record { row = both.row; worth = both.worth ∙ omega arith }

-- and a power of two has one
pub one_digit : (t : ℕ) → t < 434 → Writes (set (replicate 14 0) (t / 31) ((1 * 2 ^ (t % 31)) % 2 ^ 64)) (2 ^ t)
one_digit t h =
    let digit : (1 * 2 ^ (t % 31)) % 2 ^ 64 ≡ 2 ^ (t % 31) = shl_exact {a = 1} 1 (t % 31) 64 (lit< tt) (omega arith) ∙ one-mul (2 ^ (t % 31)) in
    let small : 2 ^ (t % 31) < base = pow-lt {j = 31} (omega arith) in
    let free : ◌≡◌ {A = ℕ} (get_or (replicate 14 0) (t / 31) 0) 0 = zero_digit (t / 31) in
    let w = store (replicate 14 0) (t / 31) (2 ^ (t % 31)) 0 zeros (omega arith) free small in
    rw digit
    (record {
      row = w.row;
      worth =
          w.worth ∙ omega arith
          ∙ ap (λ (n : ℕ). 2 ^ (t % 31) * n) (power_of_power 31 (t / 31))
          ∙ sym (pow-add 2 (t % 31) (31 * (t / 31)))
          ∙ ap (λ (n : ℕ). 2 ^ n) (omega arith);
    })

-- seven factors of 54 bits and one of 53 have 431 bits
pub has_room : (m n j : ℕ) → m < 2 ^ 54 → n < 2 ^ 53 → j ≤ 7 → m ^ j * n < room
unfolding room
has_room m n j hm hn hj =
    let powers : m ^ j ≤ (2 ^ 54) ^ 7 = le_trans (pow-le-pow_left (le_of_lt hm) j) (pow-le-pow_right (lit< tt) hj) in
    lt_of_le_of_lt (mul-le-mul powers (le_of_lt hn)) (lit< tt)

pub below_power : (v t : ℕ) → v < room → 434 ≤ t → v ≤ 2 ^ t
unfolding room
below_power v t h ht = le_trans (le_of_lt h) (pow_mono ht)
