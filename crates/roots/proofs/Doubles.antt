-- What the tests of a double against itself, 0 and infinity's pattern tell: NaN, a zero, below 0, +infinity, or finite and above 0;
-- and the inverse root of each.
use mathlib.Core.Path.{◌≡◌, refl, sym, ap, ◌∙◌}
use mathlib.Core.Bool.{Bool, true, false, true≢false}
use Prim.Native.Nat.{ℕ, zero, suc, ◌+◌, ◌*◌, ◌^◌, ◌≤◌, ◌<◌}
use native.Mathlib.Nat.{lt_irrefl, not-le_of_lt, mul-one, zero-mul, mul-pos, zero-lt-suc, pos_of_ne-zero}
use native.Mathlib.Omega.{arith}
use lib.IntN.{ℤ, pos}
use lib.Dec.{T}
use lib.Ieee.{Float, nan, inf, fin, binary64, up, down, is_nan, ne, eq, lt, fits, of_bits, to_bits}
use lib.Ieee.Bits.{of_bits-to_bits}
use lib.Ieee.Fits.{up_pos}
use borrow.Author.Tests.{ne_eqb, lt-ltb, le-ltb}
use Rattle.roots.specs.Roots.{infinity_bits, units_of, rounded, inverse_root}
use Rattle.roots.proofs.laws.Patterns.{bits_below, units_bits}
use Rattle.roots.specs.Scaled.{Scaled, nearest_root}
use Rattle.loops.specs.laws.FloatLaws.{nan_by, is_nan_lem}

-- +0, as the code writes it
abbrev pub plus_zero : Float
plus_zero = of_bits binary64 0

zero_is : plus_zero ≡ fin false 0 (pos 0)
unfolding of_bits
zero_is = refl

clash : {A : Type 0} {t : Bool} → t ≡ true → t ≡ false → A
clash h f = absurd (true≢false (sym h ∙ f))

-- a magnitude above 0, and one of 0, as a comparison with +0 has them
above_zero : (m : ℕ) (e : ℤ) → 0 < suc m * up e * 1
above_zero m e = rw (mul-one (suc m * up e)) (mul-pos (zero-lt-suc m) (up_pos e))

no_zero : (s : Bool) (m : ℕ) (e : ℤ) → eq (fin s (suc m) e) (fin false 0 (pos 0)) ≡ false
unfolding eq
no_zero s m e = rw (ne_eqb (suc m * up e * 1) (0 * down e) (λ is. lt_irrefl 0 (rw (is, zero-mul) at (above_zero m e))))

zero_equals : (s : Bool) (e : ℤ) → eq (fin s 0 e) (fin false 0 (pos 0)) ≡ true
unfolding eq
zero_equals true e = rw (zero-mul (up e), zero-mul (down e))
zero_equals false e = rw (zero-mul (up e), zero-mul (down e))

negative : (m : ℕ) (e : ℤ) → lt (fin true (suc m) e) (fin false 0 (pos 0)) ≡ true
unfolding lt
negative m e = lt-ltb 0 (suc m * up e * 1 + 0 * down e) (omega (arith, above_zero m e))

zero_not_below : (s : Bool) (e : ℤ) → lt (fin s 0 e) (fin false 0 (pos 0)) ≡ false
unfolding lt
zero_not_below true e = le-ltb 0 (0 * up e * 1 + 0 * down e) (omega arith)
zero_not_below false e = le-ltb (0 * up e * 1) (0 * down e) (omega arith)

not_negative : (m : ℕ) (e : ℤ) → lt (fin false m e) (fin false 0 (pos 0)) ≡ false
unfolding lt
not_negative m e = le-ltb (m * up e * 1) (0 * down e) (omega arith)

-- ---- each way out

-- what `is_nan` tells, as the comparison of x with itself
pub told_by : (x : Float) {r b : Bool} → r ≡ is_nan x → r ≡ b → ne x x ≡ b
told_by x e t = sym (nan_by x refl) ∙ sym e ∙ t

pub nan_root : (k : ℕ) (x : Float) → ne x x ≡ true → x ≡ inverse_root k x
unfolding inverse_root
nan_root k x e = rw (is_nan_lem x e)

pub zero_root : (k : ℕ) (x : Float) → eq x plus_zero ≡ true → of_bits binary64 0x7ff0_0000_0000_0000 ≡ inverse_root k x
unfolding inverse_root of_bits eq
zero_root k nan h = clash h refl
zero_root k (inf s) h = clash h refl
zero_root k (fin s zero e) h = refl
zero_root k (fin s (suc m) e) h = clash h (no_zero s m e)

pub negative_root : (k : ℕ) (x : Float) → lt x plus_zero ≡ true → of_bits binary64 0x7ff8_0000_0000_0000 ≡ inverse_root k x
unfolding inverse_root of_bits lt
negative_root k nan h = clash h refl
negative_root k (inf true) h = refl
negative_root k (inf false) h = clash h refl
negative_root k (fin s zero e) h = clash h (zero_not_below s e)
negative_root k (fin true (suc m) e) h = refl
negative_root k (fin false (suc m) e) h = clash h (not_negative (suc m) e)

-- past the tests a double is +infinity, or finite and above 0
pub infinity_root : (k : ℕ) (x : Float) → T (fits binary64 x) → ne x x ≡ false → eq x plus_zero ≡ false → lt x plus_zero ≡ false
    → infinity_bits ≤ to_bits binary64 x → plus_zero ≡ inverse_root k x
unfolding inverse_root of_bits lt ne
infinity_root k nan held n z l far = clash refl n
infinity_root k (inf true) held n z l far = clash refl l
infinity_root k (inf false) held n z l far = refl
infinity_root k (fin s zero e) held n z l far = clash (zero_equals s e) z
infinity_root k (fin true (suc m) e) held n z l far = clash (negative m e) l
infinity_root k (fin false (suc m) e) held n z l far = absurd (not-le_of_lt (bits_below (suc m) e held) far)

-- a pattern of 0 would be +0
pub pattern_above_zero : (x : Float) → T (fits binary64 x) → eq x plus_zero ≡ false → 0 < to_bits binary64 x
pattern_above_zero x held z =
    pos_of_ne-zero (λ e.
    let is : x ≡ plus_zero = sym (of_bits-to_bits binary64 x held) ∙ ap (of_bits binary64) e in
    clash (ap (λ (y : Float). eq y plus_zero) is ∙ rw zero_is (zero_equals false (pos 0))) z)

-- the inverse root of a finite double above 0 is the pattern that the search gives, whatever its digits and places are
pub finite_root : (k : ℕ) (x : Float) (digits places : ℕ) → T (fits binary64 x) → ne x x ≡ false → eq x plus_zero ≡ false → lt x plus_zero ≡ false
    → to_bits binary64 x < infinity_bits → Scaled (to_bits binary64 x) digits places → of_bits binary64 (nearest_root k digits places) ≡ inverse_root k x
unfolding inverse_root lt ne
finite_root k nan digits places held n z l far scaled = clash refl n
finite_root k (inf true) digits places held n z l far scaled = unfold of_bits in clash refl l
finite_root k (inf false) digits places held n z l far scaled = unfold to_bits in absurd (lt_irrefl infinity_bits far)
finite_root k (fin s zero e) digits places held n z l far scaled = unfold of_bits in clash (zero_equals s e) z
finite_root k (fin true (suc m) e) digits places held n z l far scaled = unfold of_bits in clash (negative m e) l
finite_root k (fin false (suc m) e) digits places held n z l far scaled =
    let units : units_of (fin false (suc m) e) ≡ digits * 2 ^ places = units_bits false (suc m) e held ∙ scaled.worth in
    ap (λ (u : ℕ). of_bits binary64 (rounded k u (2 ^ (1075 * k + 1074)))) (sym units)
