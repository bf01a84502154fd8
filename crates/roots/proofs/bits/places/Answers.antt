-- `roots::bits::places` meets its contract. With b's first digit at bit k there are 63 - k zeros before it, and k is below 53.
-- Assumes nothing.
use mathlib.Core.Path.{◌≡◌}
use Prim.Native.Nat.{ℕ, suc, ◌+◌, ◌-◌, ◌*◌, ◌^◌, ◌≤◌, ◌<◌}
use native.Mathlib.Nat.{le_trans, lt_of_lt_of_le, lt_of_not-le, lt_irrefl, mul-le-mul_right}
use native.Mathlib.Omega.{arith}
use lib.Pow.{pow-add, pow_mono, shl_lt}
use lib.Count.{count_leading_zeros, leading_top}
use Rattle.roots.proofs.bits.places.Goals as goal

first_digit : (b : ℕ) → 0 < b → b < 2 ^ 53 → (k : ℕ) × (count_leading_zeros 64 b + suc k ≡ 64) × (2 ^ k ≤ b) × (b < 2 ^ suc k) × (k < 53)
first_digit b above below =
    let top = leading_top 64 b above (omega arith) in
    (top.0, top.1, top.2, top.3, lt_of_not-le (λ (h : 53 ≤ top.0). lt_irrefl b (lt_of_lt_of_le below (le_trans (pow_mono h) top.2))))

moved_up : (b k r : ℕ) → 2 ^ k ≤ b → b < 2 ^ suc k → k + r ≡ 52 → (2 ^ 52 ≤ b * 2 ^ r) × (b * 2 ^ r < 2 ^ 53)
moved_up b k r low high sum =
    let from : 2 ^ (k + r) ≤ b * 2 ^ r = rw (pow-add 2 k r) (mul-le-mul_right (2 ^ r) low) in
    let next : suc k + r ≡ 53 = omega arith in
    (rw sum at from, rw next at (shl_lt {a = b} (suc k) r high))

pub overflow_sub-result : goal.overflow_sub-result
overflow_sub-result c =
    let first = first_digit c.args.b c.requires.0 c.requires.1 in
    omega (arith, first.1, first.4)

pub returns : goal.returns
returns c =
    let b = c.args.b in
    let first = first_digit b c.requires.0 c.requires.1 in
    let up = moved_up b first.0 (count_leading_zeros 64 b - 11) first.2 first.3 (omega (arith, first.1, first.4)) in
    (up.0, up.1, omega (arith, first.1, first.4))
