-- The weighted root mean square of the right side over the scale: `weighted_rms_scaled(&rhs, &scale)`, by which both
-- corrections and errors are measured.
use Rattle.std.specs.Prelude.{List, ℕ, Float}
use Rattle.std.specs.Float.Ieee
use Rattle.loops.specs.Choice.{when◌then◌else◌}
use Rattle.loops.specs.Loop.{loop}
use Rattle.roots.specs.Roots.{sqrt_of}
use Rattle.loops.specs.Arithmetic.{◌⊕◌, ◌⊗◌, ◌⊘◌, float, +0}
use Rattle.rules.specs.Places.{rhs, scale, get}
use Rattle.rules.specs.Predict.{epsilon}

-- ratio * ratio, with denom EPSILON where the scale is 0
unfoldable pub square_of : Float → Float → Float
square_of v s = let ratio = v ⊘ (when Ieee.eq s +0 then epsilon else s) in ratio ⊗ ratio

unfoldable pub square_turn : ℕ → List Float → ℕ → Float → Float
square_turn n ws i sum = sum ⊕ square_of (get n ws rhs i) (get n ws scale i)

unfoldable pub sum_of_squares : ℕ → List Float → Float
sum_of_squares n ws = loop 0 n (square_turn n ws) +0

-- (sum / values.len()).sqrt()
unfoldable pub rhs_norm : ℕ → List Float → Float
rhs_norm n ws = sqrt_of (sum_of_squares n ws ⊘ float n)
