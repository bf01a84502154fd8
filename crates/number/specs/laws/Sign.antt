-- The sign's bit of a double that is no NaN: it stands alone above the pattern of the magnitude. So to clear it is to take the
-- magnitude, and to compare the pattern with 2 ^ 63 is to ask for the sign.
use Rattle.std.specs.Prelude.{◌≡◌, Bool, true, false, not, cond, ℕ, zero, suc, ◌+◌, ◌%◌, ◌^◌, ◌≤◌, ◌<◌, ℤ, pos, T, Float}
use Rattle.std.proofs.Math.Path.{refl}
use Rattle.std.proofs.Common.{ap, ◌∙◌, mod-eq_of_lt, zero-add, add_assoc, arith}
use Rattle.std.proofs.Math.Nat.{add-mod_left}
use Rattle.std.specs.Float.{nan, inf, fin, binary64}
use Rattle.std.specs.Float.Ieee.{fits, is_nan, of_bits, to_bits}
use Rattle.std.specs.Float.Ieee.Bits.{of_bits-to_bits, to_bits-lt}
use Rattle.number.specs.Helpers.{abs_of, signum_of}

-- a finite value's pattern is the sign's bit and the magnitude's pattern
sign_apart : (s : Bool) (m : ℕ) (e : ℤ) → to_bits binary64 (fin s m e) ≡ cond s (2 ^ 63) 0 + to_bits binary64 (fin false m e)
unfolding to_bits
sign_apart s m e = rw (zero-add, add_assoc)

-- the sign plays no part in whether the format holds a value
magnitude_fits : (s : Bool) (m : ℕ) (e : ℤ) → T (fits binary64 (fin s m e)) → T (fits binary64 (fin false m e))
unfolding fits
magnitude_fits s zero e f = f
magnitude_fits s (suc m) e f = f

sign_fits : (m : ℕ) (e : ℤ) → T (fits binary64 (fin false m e)) → T (fits binary64 (fin true m e))
unfolding fits
sign_fits zero e f = f
sign_fits (suc m) e f = f

-- so the magnitude's pattern is below that bit: both together fit 64 bits
magnitude_below : (m : ℕ) (e : ℤ) → T (fits binary64 (fin false m e)) → to_bits binary64 (fin false m e) < 2 ^ 63
magnitude_below m e f = omega (arith, sign_apart true m e, to_bits-lt binary64 (fin true m e) (sign_fits m e f))

infinity_apart : (s : Bool) → to_bits binary64 (inf s) ≡ cond s (2 ^ 63) 0 + 0x7ff0_0000_0000_0000
unfolding to_bits
infinity_apart s = refl

pub magnitude_is_number : (x : Float) → T (not (is_nan x)) → T (not (is_nan (abs_of x)))
unfolding abs_of is_nan
magnitude_is_number nan n = n
magnitude_is_number (inf s) n = n
magnitude_is_number (fin s m e) n = n

-- with its sign's bit cleared, a pattern is the magnitude's
pub cleared : (x : Float) → T (fits binary64 x) → T (not (is_nan x)) → of_bits binary64 (to_bits binary64 x % 2 ^ 63) ≡ abs_of x
unfolding abs_of is_nan
cleared nan f n = absurd n
cleared (inf true) f n = unfold to_bits of_bits in refl
cleared (inf false) f n = unfold to_bits of_bits in refl
cleared (fin s m e) f n = ap (of_bits binary64) (low s (sign_apart s m e)) ∙ of_bits-to_bits binary64 (fin false m e) g
  where
    g : T (fits binary64 (fin false m e))
    g = magnitude_fits s m e f

    low : (s' : Bool) → to_bits binary64 (fin s m e) ≡ cond s' (2 ^ 63) 0 + to_bits binary64 (fin false m e)
        → to_bits binary64 (fin s m e) % 2 ^ 63 ≡ to_bits binary64 (fin false m e)
    low true h =
        ap (λ (n : ℕ). n % 2 ^ 63) h ∙ add-mod_left (2 ^ 63) (to_bits binary64 (fin false m e)) ∙ mod-eq_of_lt (omega (arith, magnitude_below m e g))
    low false h = ap (λ (n : ℕ). n % 2 ^ 63) (h ∙ zero-add (to_bits binary64 (fin false m e))) ∙ mod-eq_of_lt (omega (arith, magnitude_below m e g))

-- 1 with the sign of x, by the sign's bit
pub sign_clear : (x : Float) → T (fits binary64 x) → T (not (is_nan x)) → to_bits binary64 x < 2 ^ 63 → signum_of x ≡ fin false 1 (pos 0)
unfolding signum_of is_nan
sign_clear nan f n h = absurd n
sign_clear (inf true) f n h = absurd (omega (arith, infinity_apart true))
sign_clear (inf false) f n h = refl
sign_clear (fin true m e) f n h = absurd (omega (arith, sign_apart true m e))
sign_clear (fin false m e) f n h = refl

pub sign_set : (x : Float) → T (fits binary64 x) → T (not (is_nan x)) → 2 ^ 63 ≤ to_bits binary64 x → signum_of x ≡ fin true 1 (pos 0)
unfolding signum_of is_nan
sign_set nan f n h = absurd n
sign_set (inf true) f n h = refl
sign_set (inf false) f n h = absurd (omega (arith, infinity_apart false))
sign_set (fin true m e) f n h = refl
sign_set (fin false m e) f n h = absurd (omega (arith, magnitude_below m e f))
