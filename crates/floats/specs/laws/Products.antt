-- Products and quotients of finite doubles, in units: each is its exact value rounded once (`mul_counts`, `div_counts`), since a double
-- is exactly its units times 2 ^ -1074 and rounding sees only the value of a fraction.
use Rattle.std.specs.Prelude.{◌≡◌, refl, Bool, true, false, ℕ, zero, suc, ◌*◌, ◌^◌, ◌≤◌, ◌<◌, ℤ, Float}
use Rattle.std.proofs.Common.{sym, ap, ◌∙◌, subst, le_trans, le_of_eq, lt_irrefl, mul_comm, mul_assoc, mul_left_comm, mul-pos, not-le_of_lt, zero-lt-suc, arith, pow_pos, ne_eqb}
use Rattle.std.proofs.Math.Nat.{mul-mul-mul_comm, eq_of_mul-eq-mul_right}
use Rattle.std.specs.Float.{nan, inf, fin, binary64}
use Rattle.std.specs.Float.Ieee.{up, down, unlike, mul, div}
use Rattle.std.specs.Float.Ieee.Fits.{up_pos, down_pos}
use Rattle.std.specs.Float.Ieee.Scale.{round_same}
use Rattle.loops.specs.Arithmetic.{◌⊗◌, ◌⊘◌}
use Rattle.roots.specs.Roots.{units_of}
use Rattle.roots.proofs.laws.Patterns.{units_zero}
use Rattle.roots.proofs.laws.Units.{SignClear, units_exact}
use Rattle.floats.specs.Units.{Finite, sign_of, grid_of, Counts, Within}
use Rattle.floats.specs.laws.Rounding.{round_counts}

-- what `Counts` says below the bound
pub counts_within : (x : Float) (s : Bool) (g b : ℕ) → Counts x s g → g ≤ b → b < 2 ^ 2098 → Within x s b
counts_within nan s g b c h l = absurd c
counts_within (inf t) s g b c h l = absurd (not-le_of_lt l (le_trans c.1 h))
counts_within (fin t m e) s g b c h l = record { finite = c.1; sign = c.0; most = le_trans (le_of_eq c.2) h }

pub counts_units : (x : Float) (s : Bool) (g : ℕ) → Counts x s g → Finite x → units_of x ≡ g
counts_units nan s g c f = absurd f
counts_units (inf t) s g c f = absurd f
counts_units (fin t m e) s g c f = c.2

pub within_clear : (x : Float) (g : ℕ) → Within x false g → SignClear x
within_clear nan g w = absurd w.finite
within_clear (inf t) g w = absurd w.finite
within_clear (fin true m e) g w = absurd (let z : ◌≡◌ {A = ℕ} 0 1 = cc w.sign in omega arith)
within_clear (fin false m e) g w = w.finite

pub clear_finite : (x : Float) → SignClear x → Finite x
clear_finite nan p = p
clear_finite (inf t) p = p
clear_finite (fin true m e) p = absurd p
clear_finite (fin false m e) p = p

pub clear_sign : (x : Float) → SignClear x → sign_of x ≡ false
clear_sign nan p = refl
clear_sign (inf t) p = absurd p
clear_sign (fin true m e) p = absurd p
clear_sign (fin false m e) p = refl

-- ---- a product

pub mul_counts : (x y : Float) → Finite x → Finite y
    → Counts (x ⊗ y) (unlike (sign_of x) (sign_of y)) (grid_of (units_of x * units_of y) (2 ^ 1074 * 2 ^ 1074))
unfolding mul
mul_counts nan y p q = absurd p
mul_counts (inf s) y p q = absurd p
mul_counts (fin s m e) nan p q = absurd q
mul_counts (fin s m e) (inf t) p q = absurd q
mul_counts (fin s m e) (fin t n d) p q =
    let u = units_of (fin s m e) in
    let v = units_of (fin t n d) in
    let w = 2 ^ 1074 in
    let same : m * up e * (n * up d) * (w * w) ≡ u * v * (down e * down d) =
    mul-mul-mul_comm (m * up e) (n * up d) w w
    ∙ ap (λ (k : ℕ). k * (n * up d * w)) (units_exact s m e p)
    ∙ ap (λ (k : ℕ). u * down e * k) (units_exact t n d q)
    ∙ mul-mul-mul_comm u (down e) v (down d) in
    let some : 0 < down e * down d = mul-pos (down_pos e) (down_pos d) in
    let units : 0 < w * w = mul-pos (pow_pos 1074) (pow_pos 1074) in
    subst (λ (z : Float). Counts z (unlike s t) (grid_of (u * v) (w * w)))
    (sym (round_same binary64 (unlike s t) (m * up e * (n * up d)) (down e * down d) (u * v) (w * w) some units same))
    (round_counts (unlike s t) (u * v) (w * w))

-- ---- a quotient

some_digits : (s : Bool) (m : ℕ) (e : ℤ) → 0 < units_of (fin s m e) → 0 < m
some_digits s zero e h = absurd (lt_irrefl 0 (rw units_zero at h))
some_digits s (suc m) e h = zero-lt-suc m

pub div_counts : (x y : Float) → Finite x → Finite y → 0 < units_of y → Counts (x ⊘ y) (unlike (sign_of x) (sign_of y)) (grid_of (units_of x) (units_of y))
unfolding div
div_counts nan y p q h = absurd p
div_counts (inf s) y p q h = absurd p
div_counts (fin s m e) nan p q h = absurd q
div_counts (fin s m e) (inf t) p q h = absurd q
div_counts (fin s m e) (fin t n d) p q h =
    let u = units_of (fin s m e) in
    let v = units_of (fin t n d) in
    let w = 2 ^ 1074 in
    let some : 0 < n = some_digits t n d h in
    let crossed : m * up e * w * (v * down d) ≡ u * down e * (n * up d * w) =
    ap (λ (k : ℕ). k * (v * down d)) (units_exact s m e p) ∙ ap (λ (k : ℕ). u * down e * k) (sym (units_exact t n d q)) in
    let left : m * up e * w * (v * down d) ≡ m * up e * down d * v * w = simp (mul_assoc, mul_comm, mul_left_comm) in
    let right : u * down e * (n * up d * w) ≡ u * (n * up d * down e) * w = simp (mul_assoc, mul_comm, mul_left_comm) in
    let same : m * up e * down d * v ≡ u * (n * up d * down e) = eq_of_mul-eq-mul_right w (pow_pos 1074) _ _ (sym left ∙ crossed ∙ right) in
    rw (ne_eqb n 0 (λ z. omega arith))
    (subst (λ (z : Float). Counts z (unlike s t) (grid_of u v))
    (sym (round_same binary64 (unlike s t) (m * up e * down d) (n * up d * down e) u v (mul-pos (mul-pos some (up_pos d)) (down_pos e)) h same))
    (round_counts (unlike s t) u v))
