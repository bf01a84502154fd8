-- Products and quotients of doubles with the sign clear have it clear, be they finite or not: rounding keeps a sign, and a NaN's
-- counts as clear.
use Rattle.std.specs.Prelude.{◌≡◌, refl, Bool, true, false, cond, ℕ, ◌*◌, eqb, Float}
use Rattle.std.proofs.Common.{true≢false}
use Rattle.std.specs.Float.{nan, inf, fin, binary64}
use Rattle.std.specs.Float.Ieee.{up, down, round, mul, div}
use Rattle.loops.specs.Arithmetic.{◌⊗◌, ◌⊘◌}
use Rattle.roots.proofs.laws.Units.{SignClear}
use Rattle.floats.specs.Units.{Finite, sign_of, grid_of, Counts}
use Rattle.floats.specs.laws.Rounding.{round_counts}

counts_sign : (x : Float) (s : Bool) (g : ℕ) → Counts x s g → sign_of x ≡ s
counts_sign nan s g c = absurd c
counts_sign (inf t) s g c = c.0
counts_sign (fin t m e) s g c = c.0

pub round_sign : (s : Bool) (a c : ℕ) → sign_of (round binary64 s a c) ≡ s
round_sign s a c = counts_sign (round binary64 s a c) s (grid_of a c) (round_counts s a c)

either_clear : (b : Bool) (x y : Float) → sign_of x ≡ false → sign_of y ≡ false → sign_of (cond b x y) ≡ false
either_clear true x y p q = p
either_clear false x y p q = q

pub mul_clear : (x y : Float) → sign_of x ≡ false → sign_of y ≡ false → sign_of (x ⊗ y) ≡ false
unfolding mul
mul_clear nan y p q = refl
mul_clear (inf true) y p q = absurd (true≢false p)
mul_clear (inf false) nan p q = refl
mul_clear (inf false) (inf true) p q = absurd (true≢false q)
mul_clear (inf false) (inf false) p q = refl
mul_clear (inf false) (fin true n d) p q = absurd (true≢false q)
mul_clear (inf false) (fin false n d) p q = either_clear (eqb n 0) nan (inf false) refl refl
mul_clear (fin true m e) y p q = absurd (true≢false p)
mul_clear (fin false m e) nan p q = refl
mul_clear (fin false m e) (inf true) p q = absurd (true≢false q)
mul_clear (fin false m e) (inf false) p q = either_clear (eqb m 0) nan (inf false) refl refl
mul_clear (fin false m e) (fin true n d) p q = absurd (true≢false q)
mul_clear (fin false m e) (fin false n d) p q = round_sign false (m * up e * (n * up d)) (down e * down d)

pub div_clear : (x y : Float) → sign_of x ≡ false → sign_of y ≡ false → sign_of (x ⊘ y) ≡ false
unfolding div
div_clear nan y p q = refl
div_clear (inf true) y p q = absurd (true≢false p)
div_clear (inf false) nan p q = refl
div_clear (inf false) (inf t) p q = refl
div_clear (inf false) (fin true n d) p q = absurd (true≢false q)
div_clear (inf false) (fin false n d) p q = refl
div_clear (fin true m e) y p q = absurd (true≢false p)
div_clear (fin false m e) nan p q = refl
div_clear (fin false m e) (inf true) p q = absurd (true≢false q)
div_clear (fin false m e) (inf false) p q = refl
div_clear (fin false m e) (fin true n d) p q = absurd (true≢false q)
div_clear (fin false m e) (fin false n d) p q =
    either_clear (eqb n 0) (cond (eqb m 0) nan (inf false)) (round binary64 false (m * up e * down d) (n * up d * down e))
    (either_clear (eqb m 0) nan (inf false) refl refl) (round_sign false (m * up e * down d) (n * up d * down e))

pub finite_clear : (x : Float) → Finite x → sign_of x ≡ false → SignClear x
finite_clear nan f s = f
finite_clear (inf t) f s = f
finite_clear (fin true m e) f s = absurd (true≢false s)
finite_clear (fin false m e) f s = f
