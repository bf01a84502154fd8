-- Powers: of a power of two, and with one factor more.
use mathlib.Core.Path.{◌≡◌, sym, ap, ◌∙◌}
use Prim.Native.Nat.{ℕ, zero, suc, ◌+◌, ◌*◌, ◌^◌}
use native.Mathlib.Nat.{pow-suc, pow-zero, mul-suc, mul-zero, mul_right_comm}
use native.Mathlib.Numerals.{add-one}
use lib.Pow.{pow-add}

pub power_of_power : (s j : ℕ) → (2 ^ s) ^ j ≡ 2 ^ (s * j)
power_of_power s zero = pow-zero (2 ^ s) ∙ ap (λ (n : ℕ). 2 ^ n) (sym (mul-zero s))
power_of_power s (suc j) =
    pow-suc (2 ^ s) j ∙ ap (λ (n : ℕ). n * 2 ^ s) (power_of_power s j) ∙ sym (pow-add 2 (s * j) s) ∙ ap (λ (n : ℕ). 2 ^ n) (sym (mul-suc s j))

pub once_more : (f n j : ℕ) → f ^ (j + 1) * n ≡ f ^ j * n * f
once_more f n j = rw (add-one j, pow-suc f j, mul_right_comm (f ^ j) n f)
