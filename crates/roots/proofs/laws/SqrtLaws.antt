-- `sqrt_of` by the pattern of its argument, case by case as the code meets them: above 0 the root of a significand at an exponent
-- (`scaled_root`), below 0 NaN, and the rest their own root.
use Rattle.std.specs.Prelude.{◌≡◌, refl, true, false, ℕ, zero, suc, ◌+◌, ◌-◌, ◌*◌, ◌/◌, ◌%◌, ◌^◌, ◌≤◌, ◌<◌, ℤ, T, Float}
use Rattle.std.proofs.Common.{sym, ap, ◌∙◌, lt_irrefl, lt_trans, zero-mul, mul-one, arith, pow-add}
use Rattle.std.proofs.Math.Nat.{zero-div}
use Rattle.std.specs.Float.{nan, inf, fin, binary64}
use Rattle.std.specs.Float.Ieee.{fits, to_bits, of_bits}
use Rattle.roots.specs.Roots.{val, infinity_bits, rounded, sqrt_of}
use Rattle.roots.proofs.laws.Patterns.{val_small, val_normal, bits_below}
use Rattle.roots.proofs.laws.RootLaws.{sqrt_of_pattern}
use Rattle.roots.specs.WholeRoot.{scaled_root}

-- ---- above 0

-- a value of a * 2 ^ i units, k being 1074
in_units : (v a i k e : ℕ) → v ≡ a * 2 ^ i → e ≡ i + k → 4 * v * 2 ^ k ≡ 4 * (a * 2 ^ e)
in_units v a i k e is sum = rw (is, sum, pow-add 2 i k) (omega arith)

of_units : (b a i e : ℕ) → 0 < b → b < infinity_bits → val b ≡ a * 2 ^ i → e ≡ i + 1074 → sqrt_of (of_bits binary64 b) ≡ scaled_root a e
unfolding scaled_root
of_units b a i e above below is sum =
    sqrt_of_pattern b above below ∙ ap (λ (c : ℕ). of_bits binary64 (rounded 2 1 c)) (in_units (val b) a i 1074 e is sum)

pub sqrt_normal : (b : ℕ) → 2 ^ 52 ≤ b → b < infinity_bits → sqrt_of (of_bits binary64 b) ≡ scaled_root (2 ^ 52 + b % 2 ^ 52) (b / 2 ^ 52 + 1073)
sqrt_normal b low high =
    let is : b ≡ (b / 2 ^ 52 - 1 + 1) * 2 ^ 52 + b % 2 ^ 52 = omega arith in
    of_units b (2 ^ 52 + b % 2 ^ 52) (b / 2 ^ 52 - 1) (b / 2 ^ 52 + 1073) (omega arith) high
    (ap val is ∙ val_normal (b / 2 ^ 52 - 1) (b % 2 ^ 52) (omega arith) (omega arith)) (omega arith)

power_apart : (b j i k : ℕ) → k ≡ j + i → b * 2 ^ k ≡ b * 2 ^ j * 2 ^ i
power_apart b j i k is = rw (is, pow-add 2 j i) (omega arith)

-- a pattern with the field 0, its digits moved up by j places
pub sqrt_small : (b j : ℕ) → 0 < b → b < 2 ^ 52 → j ≤ 1074 → sqrt_of (of_bits binary64 b) ≡ scaled_root (b * 2 ^ j) (1074 - j)
unfolding scaled_root
sqrt_small b j above below h =
    of_units b b 0 1074 above (omega arith) (val_small b below ∙ sym (mul-one b)) refl
    ∙ ap (λ (c : ℕ). of_bits binary64 (rounded 2 1 (4 * c))) (power_apart b j (1074 - j) 1074 (omega arith))

-- ---- below 0

zero_bits : (e : ℤ) → to_bits binary64 (fin true 0 e) ≡ 2 ^ 63
unfolding to_bits
zero_bits e = rw (zero-mul, zero-mul, zero-div)

-- what is not below 0 has a pattern up to infinity's, or -0's: any other has no root
pub sqrt_of_rest : (x : Float) → T (fits binary64 x) → infinity_bits < to_bits binary64 x → (to_bits binary64 x ≡ 2 ^ 63 → ⊥) → sqrt_of x ≡ nan
unfolding sqrt_of to_bits
sqrt_of_rest nan f h n = refl
sqrt_of_rest (inf true) f h n = refl
sqrt_of_rest (inf false) f h n = absurd (lt_irrefl infinity_bits h)
sqrt_of_rest (fin false m e) f h n = absurd (lt_irrefl infinity_bits (lt_trans h (bits_below m e f)))
sqrt_of_rest (fin true zero e) f h n = absurd (n (zero_bits e))
sqrt_of_rest (fin true (suc m) e) f h n = refl

-- ---- the values that are their own root: 0, -0, infinity and NaN

pub own_root : (x : Float) (b : ℕ) → x ≡ of_bits binary64 b → sqrt_of (of_bits binary64 b) ≡ of_bits binary64 b → x ≡ sqrt_of x
own_root x b is own = is ∙ sym own ∙ ap sqrt_of (sym is)

pub zero_own : sqrt_of (of_bits binary64 0) ≡ of_bits binary64 0
unfolding sqrt_of of_bits
zero_own = refl

pub negative_zero_own : sqrt_of (of_bits binary64 (2 ^ 63)) ≡ of_bits binary64 (2 ^ 63)
unfolding sqrt_of of_bits
negative_zero_own = refl

pub infinity_own : sqrt_of (of_bits binary64 infinity_bits) ≡ of_bits binary64 infinity_bits
unfolding sqrt_of of_bits
infinity_own = refl

pub nan_own : (x : Float) → x ≡ nan → x ≡ sqrt_of x
unfolding sqrt_of
nan_own x is = rw is
