-- One turn of the simplified Newton iteration, from the derivative's reply to its verdict.
use Rattle.std.specs.Prelude.{List, Bool, true, false, ◌&&◌, ◌||◌, ℕ, ◌+◌, ◌-◌, ◌*◌, leb, ltb, take, Float}
use Rattle.std.specs.Float.Ieee
use Rattle.loops.specs.Choice.{when◌then◌else◌}
use Rattle.loops.specs.Loop.{loop}
use Rattle.loops.specs.Part.{part, over}
use Rattle.matrix.specs.Linear.{lin_solve_of}
use Rattle.loops.specs.Arithmetic.{◌⊕◌, ◌⊖◌, ◌⊗◌, ◌⊘◌, +0, one}
use Rattle.rules.specs.Places.{psi, y_new, delta, rhs, row, get, put}
use Rattle.rules.specs.Moves.{loaded}

-- rhs[i] = c * rhs[i] - psi[i] - delta[i]
unfoldable pub residual_turn : ℕ → Float → ℕ → List Float → List Float
residual_turn n c i ws = put n ws rhs i (c ⊗ get n ws rhs i ⊖ get n ws psi i ⊖ get n ws delta i)

unfoldable pub residual : ℕ → Float → List Float → List Float
residual n c ws = loop 0 n (residual_turn n c) ws

-- `lin_solve(&lu_matrix, &mut rhs, &pivot)`
unfoldable pub solved : ℕ → List ℕ → List Float → List Float
solved n pivot ws = over (row n rhs) n (λ b. (lin_solve_of (part (n * n) (n * n) ws) b (take n pivot)).1) ws

-- the correction: rhs from the derivative's reply, then the linear system
unfoldable pub correction : ℕ → Float → List ℕ → List Float → List Float → List Float
correction n c pivot values ws = solved n pivot (residual n c (loaded values 0 (row n rhs) n ws))

-- v[i] += rhs[i], for the vector at row v
abbrev pub advanced_at : ℕ → ℕ → ℕ → List Float → List Float
advanced_at n v i ws = put n ws v i (get n ws v i ⊕ get n ws rhs i)

-- y_new[i] += rhs[i]; delta[i] += rhs[i]
unfoldable pub advance_turn : ℕ → ℕ → List Float → List Float
advance_turn n i ws = advanced_at n delta i (advanced_at n y_new i ws)

unfoldable pub advanced : ℕ → List Float → List Float
advanced n ws = loop 0 n (advance_turn n) ws

-- `rate.powf(remaining)`: x times itself left to right, k factors
unfoldable pub power_turn : Float → ℕ → Float → Float
power_turn x i p = p ⊗ x

unfoldable pub power : Float → ℕ → Float
power x k = loop 0 k (power_turn x) one

-- rate_condition: the corrections do not shrink, or not fast enough for the iterations that remain
unfoldable pub too_slow : Float → ℕ → Float → Float → Bool
too_slow tol remaining prev norm =
    let rate = norm ⊘ prev in
    when Ieee.le one rate then true else Ieee.lt tol (power rate remaining ⊘ (one ⊖ rate) ⊗ norm)

-- the last test: what is still to come is below the tolerance
unfoldable pub settled : Float → Float → Float → Bool
settled tol prev norm =
    let rate = norm ⊘ prev in
    when Ieee.lt rate one then Ieee.lt (rate ⊘ (one ⊖ rate) ⊗ norm) tol else false

-- `if let Some(prev) = dy_norm_prev { if prev > 0.0 { .. } }`: there is one from the second iteration on
abbrev pub follows : ℕ → Float → Bool
follows iters prev = ltb 0 iters && Ieee.lt +0 prev

unfoldable pub converged : Float → ℕ → Float → Float → Bool
converged tol iters prev norm = when Ieee.eq norm +0 then true else when follows iters prev then settled tol prev norm else false

-- no further iteration: too slow, or the limit m is reached
unfoldable pub gave_up : Float → ℕ → ℕ → Float → Float → Bool
gave_up tol m iters prev norm = when follows iters prev then (too_slow tol (m - iters) prev norm || leb m (iters + 1)) else leb m (iters + 1)
