-- Multiplying a row of digits in place: what has been done before each digit, and that one more digit keeps it so.
use mathlib.Core.Path.{◌≡◌, refl, ◌∙◌}
use mathlib.Core.List.{List}
use Prim.Native.Nat.{ℕ, suc, ◌+◌, ◌*◌, ◌/◌, ◌%◌, ◌^◌, ◌≤◌, ◌<◌}
use native.Mathlib.Nat.{mul-le-mul, pow-suc}
use native.Mathlib.Numerals.{add-one}
use native.Mathlib.Omega.{arith}
use lib.ListN.{length, get_or, set, length-set}
use lib.Seq.{get_or-set_same, get_or-set_other}
use Rattle.roots.specs.Numeral.{numeral, Row, base}
use Rattle.roots.proofs.power.NumeralLaws.{digits_set, numeral_below_set, times_digit}

-- The row a₀ times low + high * base, done up to the digit i: a has the digits written below i and those still to be read from i on.
-- last is the digit read before, whose product with high is still owed, as the carry is.
pub record Multiplied (low high : ℕ) (a₀ a : List ℕ) (carry last i : ℕ) : Type 0 where
  pub upto : i ≤ 14
  pub row : Row a
  pub unread : (j : ℕ) → i ≤ j → get_or a j 0 ≡ get_or a₀ j 0
  pub carried : carry < 2 ^ 32
  pub read : last < base
  pub owed : numeral base a i + base ^ i * (carry + last * high) ≡ numeral base a₀ i * (low + high * base)

pub multiplied_none : (low high : ℕ) (a : List ℕ) → Row a → Multiplied low high a a 0 0 0
unfolding numeral
multiplied_none low high a row =
    record { upto = omega arith; row = row; unread = λ j h. refl; carried = omega arith; read = omega arith; owed = omega arith }

-- products of two digits, and of a digit and the higher half of a number of 54 bits
pub product_small : (x y : ℕ) → x < base → y < base → x * y ≤ 2147483647 * 2147483647
product_small x y hx hy = mul-le-mul {n₂ = 2147483647} {m₂ = 2147483647} (omega arith) (omega arith)

pub product_smaller : (x y : ℕ) → x < base → y < 2 ^ 23 → x * y ≤ 2147483647 * 8388607
product_smaller x y hx hy = mul-le-mul {n₂ = 2147483647} {m₂ = 8388607} (omega arith) (omega arith)

pub sum_small : (d low last high carry : ℕ) → d < base → low < base → last < base → high < 2 ^ 23 → carry < 2 ^ 32 → d * low + last * high + carry < 2 ^ 63
sum_small d low last high carry hd hl hr hh hc = omega (arith, product_small d low hd hl, product_smaller last high hr hh)

module _ (low high : ℕ) (a₀ a : List ℕ) (carry last i : ℕ) (here : Multiplied low high a₀ a carry last i) (hi : i < 14) (hl : low < base) (hh : high < 2 ^ 23) where
  pub multiplied_more : (sum : ℕ) → sum ≡ get_or a i 0 * low + last * high + carry → Multiplied low high a₀ (set a i (sum % base)) (sum / base) (get_or a i 0) (i + 1)
  unfolding numeral
  multiplied_more sum is =
      let small : sum < 2 ^ 63 = omega (arith, sum_small (get_or a i 0) low last high carry (here.row.digits i) hl here.read hh here.carried) in
      let within : i < length a = omega (arith, here.row.long) in
      let digit : get_or a i 0 ≡ get_or a₀ i 0 = here.unread i (omega arith) in
      let written : numeral base (set a i (sum % base)) (suc i) ≡ numeral base a i + sum % base * base ^ i =
      rw (numeral_below_set base a i (sum % base) i (omega arith), get_or-set_same a i (sum % base) 0 within) in
      record {
        upto = omega arith;
        row = record { long = length-set a i (sum % base) ∙ here.row.long; digits = digits_set a i (sum % base) here.row.digits (omega arith) };
        unread = λ j h. get_or-set_other a i j (sum % base) 0 (λ e. omega arith) ∙ here.unread j (omega arith);
        carried = omega arith;
        read = here.row.digits i;
        owed =
            rw (add-one i, written, pow-suc base i, ← digit)
            (times_digit base low high (numeral base a i) (numeral base a₀ i) (base ^ i) last carry (get_or a i 0) sum here.owed is);
      }
