-- What follows a Newton iteration that converged: the error's norm, and the differences of an accepted step.
use Rattle.std.specs.Prelude.{List, ℕ, ◌+◌, ◌-◌, ◌*◌, ltb, set, Float}
use Rattle.loops.specs.Choice.{when◌then◌else◌}
use Rattle.loops.specs.Loop.{loop}
use Rattle.loops.specs.Arithmetic.{◌⊕◌, ◌⊖◌, ◌⊗◌, ◌⊘◌, float, +0, one}
use Rattle.rules.specs.Literals.{safety_default, two}
use Rattle.rules.specs.Places.{d, delta, rhs, y, y_new, cont, row, get, put}
use Rattle.rules.specs.Moves.{copied}

-- SAFETY_DEFAULT * (2.0 * m + 1.0) / (2.0 * m + (iters + 1))
unfoldable pub safety_of : ℕ → ℕ → Float
safety_of m iters = safety_default ⊗ (two ⊗ float m ⊕ one) ⊘ (two ⊗ float m ⊕ float (iters + 1))

-- rhs[i] = k * v[i], of the vector at row v
unfoldable pub weigh_turn : ℕ → Float → ℕ → ℕ → List Float → List Float
weigh_turn n k v i ws = put n ws rhs i (k ⊗ get n ws v i)

unfoldable pub weighed : ℕ → Float → ℕ → List Float → List Float
weighed n k v ws = loop 0 n (weigh_turn n k v) ws

-- d[order + 2][i] = delta[i] - d[order + 1][i]; d[order + 1][i] = delta[i]
abbrev pub old_above : ℕ → ℕ → ℕ → List Float → List Float
old_above n order i ws = put n ws (d (order + 2)) i (get n ws delta i ⊖ get n ws (d (order + 1)) i)

unfoldable pub newest_turn : ℕ → ℕ → ℕ → List Float → List Float
newest_turn n order i ws = put n (old_above n order i ws) (d (order + 1)) i (get n (old_above n order i ws) delta i)

unfoldable pub newest : ℕ → ℕ → List Float → List Float
newest n order ws = loop 0 n (newest_turn n order) ws

-- d[k][i] += d[k + 1][i]
unfoldable pub add_next_turn : ℕ → ℕ → ℕ → List Float → List Float
add_next_turn n k i ws = put n ws (d k) i (get n ws (d k) i ⊕ get n ws (d (k + 1)) i)

unfoldable pub add_next : ℕ → ℕ → List Float → List Float
add_next n k ws = loop 0 n (add_next_turn n k) ws

-- `for k in (0..=order).rev()`: turn j is at k = order - j
unfoldable pub summed_turn : ℕ → ℕ → ℕ → List Float → List Float
summed_turn n order j ws = add_next n (order - j) ws

unfoldable pub summed : ℕ → ℕ → List Float → List Float
summed n order ws = loop 0 (order + 1) (summed_turn n order) ws

-- place j of component i's 7 coefficients
abbrev pub coefficient : ℕ → ℕ → ℕ → ℕ
coefficient n i j = row n cont + (i * 7 + j)

-- cont[base + 1 + k] = if k < order { d[k + 1][i] } else { 0.0 }
unfoldable pub coeff : ℕ → List Float → ℕ → ℕ → ℕ → Float
coeff n ws order i k = when ltb k order then get n ws (d (k + 1)) i else +0

unfoldable pub coeff_turn : ℕ → ℕ → ℕ → ℕ → List Float → List Float
coeff_turn n order i k ws = set ws (coefficient n i (1 + k)) (coeff n ws order i k)

unfoldable pub coeffs : ℕ → ℕ → ℕ → List Float → List Float
coeffs n order i ws = loop 0 5 (coeff_turn n order i) ws

-- cont[base] = d[0][i], the five coefficients, and the order as the mark
unfoldable pub cont_turn : ℕ → ℕ → ℕ → List Float → List Float
cont_turn n order i ws =
    set (coeffs n order i (set ws (coefficient n i 0) (get n ws (d 0) i))) (coefficient n i 6) (float order)

unfoldable pub prepared : ℕ → ℕ → List Float → List Float
prepared n order ws = loop 0 n (cont_turn n order) ws

-- an accepted step's y, differences and coefficients
unfoldable pub accepted_ws : ℕ → ℕ → List Float → List Float
accepted_ws n order ws = prepared n order (summed n order (newest n order (copied (row n y_new) (row n y) n ws)))
