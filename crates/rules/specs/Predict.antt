-- The predictor, the scale and psi: what an attempt computes from the differences before it factors anything.
use Rattle.std.specs.Prelude.{List, ℕ, ◌+◌, Float}
use Rattle.std.specs.Float.Ieee
use Rattle.std.specs.Float.{binary64}
use Rattle.loops.specs.Choice.{when◌then◌else◌}
use Rattle.loops.specs.Loop.{loop}
use Rattle.loops.specs.Cell.{at}
use Rattle.number.specs.Helpers.{abs_of}
use Rattle.loops.specs.Arithmetic.{◌⊕◌, ◌⊗◌, ◌⊘◌, +0}
use Rattle.rules.specs.Tables.{gammas, alphas}
use Rattle.rules.specs.Places.{d, psi, scale, y_predict, rtol, atol, get, put}

-- Float::EPSILON, 2 ^ -52
abbrev pub epsilon : Float
epsilon = Ieee.of_bits binary64 0x3cb0_0000_0000_0000

-- `for k in 0..=order { sum += d[k][i]; }`
unfoldable pub predicted_turn : ℕ → List Float → ℕ → ℕ → Float → Float
predicted_turn n ws i k sum = sum ⊕ get n ws (d k) i

unfoldable pub predicted : ℕ → List Float → ℕ → ℕ → Float
predicted n ws order i = loop 0 (order + 1) (predicted_turn n ws i) +0

-- y_predict[i] = sum
unfoldable pub predict_turn : ℕ → ℕ → ℕ → List Float → List Float
predict_turn n order i ws = put n ws y_predict i (predicted n ws order i)

unfoldable pub predict : ℕ → ℕ → List Float → List Float
predict n order ws = loop 0 n (predict_turn n order) ws

-- atol[i] + rtol[i] * y[i].abs(), and EPSILON where that is 0
unfoldable pub scale_of : Float → Float → Float → Float
scale_of a r v = let s = a ⊕ r ⊗ abs_of v in when Ieee.eq s +0 then epsilon else s

-- scale[i], of the state at row v: y_predict before the Newton iteration, y_new after it
abbrev pub scale_at : ℕ → List Float → ℕ → ℕ → Float
scale_at n ws v i = scale_of (get n ws atol i) (get n ws rtol i) (get n ws v i)

unfoldable pub scale_turn : ℕ → ℕ → ℕ → List Float → List Float
scale_turn n v i ws = put n ws scale i (scale_at n ws v i)

unfoldable pub scaled : ℕ → ℕ → List Float → List Float
scaled n v ws = loop 0 n (scale_turn n v) ws

-- `for j in 1..=order { s += gamma[j] * d[j][i]; }`
unfoldable pub psi_sum_turn : ℕ → List Float → ℕ → ℕ → Float → Float
psi_sum_turn n ws i j s = s ⊕ at gammas j ⊗ get n ws (d j) i

unfoldable pub psi_sum : ℕ → List Float → ℕ → ℕ → Float
psi_sum n ws order i = loop 1 (order + 1) (psi_sum_turn n ws i) +0

-- psi[i] = s / alpha[order]
unfoldable pub psi_turn : ℕ → ℕ → ℕ → List Float → List Float
psi_turn n order i ws = put n ws psi i (psi_sum n ws order i ⊘ at alphas order)

unfoldable pub psied : ℕ → ℕ → List Float → List Float
psied n order ws = loop 0 n (psi_turn n order) ws
