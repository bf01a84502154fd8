-- What holds of single operations on floats, wherever a definition uses them.
use Rattle.std.specs.Prelude.{◌≡◌, refl, Bool, true, false, not, ◌*◌, T, Float}
use Rattle.std.proofs.Common.{sym, ◌∙◌, subst, true≢false, eq-eqb}
use Rattle.std.specs.Float.{nan, inf, fin}
use Rattle.std.specs.Float.Ieee.{ne, eq, is_nan, up, down}
use Rattle.std.specs.Float.Ieee.Compare.{nan_differs, differs_from_itself}

-- a NaN, and nothing else, differs from itself
pub differs_is_nan : (x : Float) → ne x x ≡ is_nan x
unfolding ne eq is_nan
differs_is_nan nan = refl
differs_is_nan (inf true) = refl
differs_is_nan (inf false) = refl
differs_is_nan (fin true m e) = rw (eq-eqb (m * up e * down e) (m * up e * down e) refl)
differs_is_nan (fin false m e) = rw (eq-eqb (m * up e * down e) (m * up e * down e) refl)

-- what `x != x` tells
pub nan_by : (x : Float) {b : Bool} → ne x x ≡ b → is_nan x ≡ b
nan_by x t = sym (differs_is_nan x) ∙ t

pub is_nan_lem : (x : Float) → ne x x ≡ true → x ≡ nan
is_nan_lem x e = differs_from_itself x (subst T (sym e) tt)

pub is_number : (x : Float) → ne x x ≡ false → T (not (is_nan x))
unfolding is_nan
is_number nan e = absurd (true≢false (sym nan_differs ∙ e))
is_number (inf s) e = tt
is_number (fin s m e') e = tt
