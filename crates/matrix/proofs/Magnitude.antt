-- Comparing `magnitude_of` is comparing `abs_of`: the two differ at -0 alone, and no comparison tells the zeros apart.
use mathlib.Core.Path.{◌≡◌, refl, sym, ◌∙◌}
use mathlib.Core.Bool.{Bool, true, false}
use Prim.Native.Nat.{ℕ, ◌+◌, ◌*◌}
use native.Mathlib.Nat.{zero-mul, zero-add, mul-one, add-zero}
use native.Mathlib.Omega.{arith}
use borrow.Author.Tests.{ltb-false, le-ltb}
use lib.IntN.{ℤ}
use lib.Ieee.{Float, nan, inf, fin, lt, neg, below, up, down, of_bits, of_fields, odd}
use Rattle.loops.specs.Choice.{when◌then◌else◌}
use Rattle.loops.specs.laws.ChoiceLaws.{either}
use Rattle.loops.specs.Arithmetic.{+0}
use Rattle.number.specs.Helpers.{abs_of}
use Rattle.matrix.specs.Magnitude.{magnitude_of}

-- x and y compare alike with every float
abbrev Like : Float → Float → Type 0
Like x y = (z : Float) → (lt x z ≡ lt y z) × (lt z x ≡ lt z y)

below_zero : (a : ℕ) (t : Bool) (b : ℕ) → a ≡ 0 → below true a t b ≡ below false a t b
below_zero a false b e = rw (e, zero-add)
below_zero a true b e = rw e (le-ltb b 0 (omega arith))

above_zero : (s : Bool) (a b : ℕ) → b ≡ 0 → below s a true b ≡ below s a false b
above_zero false a b e = rw e (sym (le-ltb a 0 (omega arith)))
above_zero true a b e = rw (e, add-zero)

-- the two zeros, whatever their exponent
zeros_alike : (m : ℕ) (e : ℤ) → m * up e ≡ 0 → Like (fin true m e) (fin false m e)
unfolding lt
zeros_alike m e z nan = (refl, refl)
zeros_alike m e z (inf t) = (refl, refl)
zeros_alike m e z (fin t n d) =
    let none : m * up e * down d ≡ 0 = rw z (zero-mul (down d)) in
    (below_zero _ t _ none, above_zero t _ _ none)

not_below_zero : (m : ℕ) (e : ℤ) → lt (fin false m e) +0 ≡ false
unfolding lt of_bits of_fields odd
not_below_zero m e = le-ltb (m * up e * 1) (0 * down e) (omega (arith, zero-mul (down e)))

no_magnitude : (m : ℕ) (e : ℤ) → lt (fin true m e) +0 ≡ false → m * up e ≡ 0
unfolding lt of_bits of_fields odd
no_magnitude m e f = omega (arith, ltb-false 0 (m * up e * 1 + 0 * down e) f, mul-one (m * up e), zero-mul (down e))

magnitude_alike : (x : Float) → Like (magnitude_of x) (abs_of x)
unfolding magnitude_of abs_of when◌then◌else◌ lt neg of_bits of_fields odd
magnitude_alike nan = λ z. (refl, refl)
magnitude_alike (inf true) = λ z. (refl, refl)
magnitude_alike (inf false) = λ z. (refl, refl)
magnitude_alike (fin false m e) = rw (not_below_zero m e) (λ z. (refl, refl))
magnitude_alike (fin true m e) =
    either (λ y. Like y (fin false m e)) (lt (fin true m e) +0) (λ t z. (refl, refl)) (λ f. zeros_alike m e (no_magnitude m e f))

pub same_order : (x y : Float) → lt (magnitude_of x) (magnitude_of y) ≡ lt (abs_of x) (abs_of y)
same_order x y = (magnitude_alike x (magnitude_of y)).0 ∙ (magnitude_alike y (abs_of x)).1
