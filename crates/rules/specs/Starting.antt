-- `hinit`, the automatic starting step, cut where it asks its one derivative, and what `solve` makes of its guess.
use Rattle.std.specs.Prelude.{List, ◌||◌, ℕ, Float}
use Rattle.std.specs.Float.Ieee
use Rattle.loops.specs.Choice.{when◌then◌else◌}
use Rattle.loops.specs.Loop.{loop}
use Rattle.number.specs.Helpers.{abs_of, signum_of, min_of, max_of}
use Rattle.roots.specs.Roots.{sqrt_of}
use Rattle.loops.specs.Arithmetic.{◌⊕◌, ◌⊖◌, ◌⊗◌, ◌⊘◌, +0}
use Rattle.rules.specs.Literals.{hundred, hundredth, milli, micro, tenth_of_nano, femto}
use Rattle.rules.specs.Places.{y, f0, f1, y1, rtol, atol, get, put}

-- sk = atol[i] + rtol[i] * y[i].abs()
abbrev pub sk : ℕ → List Float → ℕ → Float
sk n ws i = get n ws atol i ⊕ get n ws rtol i ⊗ abs_of (get n ws y i)

-- the sum of the squares of v / sk, of the vector at row v: dnf for f0, dny for y
unfoldable pub squares_turn : ℕ → ℕ → List Float → ℕ → Float → Float
squares_turn n v ws i sum = let t = get n ws v i ⊘ sk n ws i in sum ⊕ t ⊗ t

unfoldable pub squares : ℕ → ℕ → List Float → Float
squares n v ws = loop 0 n (squares_turn n v ws) +0

-- 1e-6 where a sum is at most 1e-10, else a hundredth of the quotient's root
unfoldable pub raw_guess : Float → Float → Float
raw_guess dnf dny =
    when (Ieee.le dnf tenth_of_nano || Ieee.le dny tenth_of_nano)
    then micro
    else sqrt_of (dny ⊘ dnf) ⊗ hundredth

-- the first guess: at most hmax, with the sign
unfoldable pub first_guess : Float → Float → Float → Float → Float
first_guess dnf dny hmax posneg =
    let h = raw_guess dnf dny in
    let c = when Ieee.lt (abs_of hmax) h then abs_of hmax else h in
    abs_of c ⊗ signum_of posneg

unfoldable pub guess : ℕ → Float → Float → List Float → Float
guess n hmax posneg ws = first_guess (squares n f0 ws) (squares n y ws) hmax posneg

-- y1[i] = y[i] + h * f0[i]
unfoldable pub euler_turn : ℕ → Float → ℕ → List Float → List Float
euler_turn n h i ws = put n ws y1 i (get n ws y i ⊕ h ⊗ get n ws f0 i)

unfoldable pub euler : ℕ → Float → List Float → List Float
euler n h ws = loop 0 n (euler_turn n h) ws

-- der2: the sum of the squares of (f1 - f0) / sk
unfoldable pub second_turn : ℕ → List Float → ℕ → Float → Float
second_turn n ws i sum = let df = (get n ws f1 i ⊖ get n ws f0 i) ⊘ sk n ws i in sum ⊕ df ⊗ df

unfoldable pub second : ℕ → List Float → Float
second n ws = loop 0 n (second_turn n ws) +0

-- the step that the derivatives allow: the larger of 1e-6 and size * 1e-3 where der12 is at most 1e-15, else 0.01 / der12;
-- a power of 1 / iord with iord 1 is the number itself
unfoldable pub h1 : Float → Float → Float
h1 der12 size =
    when Ieee.le der12 femto
    then max_of micro (size ⊗ milli)
    else hundredth ⊘ der12

-- from the second derivative to the step: at most |h|, 100 |h|, h1 and hmax, with the sign
unfoldable pub final_guess : Float → Float → Float → Float → Float → Float
final_guess sum dnf h hmax posneg =
    let der2 = sqrt_of sum ⊘ abs_of h in
    let der12 = max_of (abs_of der2) (sqrt_of dnf) in
    let h_final = min_of (min_of (min_of (abs_of h) (hundred ⊗ abs_of h)) (h1 der12 (abs_of h))) (abs_of hmax) in
    abs_of h_final ⊗ signum_of posneg

-- hinit's answer, once f1 is known
unfoldable pub hinit : ℕ → Float → Float → List Float → Float
hinit n hmax posneg ws = final_guess (second n ws) (squares n f0 ws) (guess n hmax posneg ws) hmax posneg

-- no farther than xend: `if guess.abs() > max_h { max_h * direction } else { guess }`, then abs
unfoldable pub within_span : Float → Float → Float → Float → Float
within_span g x xend direction =
    let max_h = abs_of (xend ⊖ x) in
    abs_of (when Ieee.lt max_h (abs_of g) then max_h ⊗ direction else g)
