-- The matrix I - c * J, and its factoring.
use Rattle.std.specs.Prelude.{List, ◌++◌, Bool, true, false, ℕ, ◌*◌, take, drop, Float}
use Rattle.std.specs.Float.Ieee
use Rattle.loops.specs.Loop.{loop}
use Rattle.loops.specs.Part.{part, over}
use Rattle.loops.specs.Refusal.{Outcome, gives, refuses}
use Rattle.matrix.specs.Lu.{lu_decomp_of}
use Rattle.loops.specs.Arithmetic.{◌⊕◌, ◌⊗◌, one}
use Rattle.rules.specs.Places.{jac, lu, put_lu}
use Rattle.rules.specs.State.{Left, left}

-- lu_matrix[(r, j)] = -c * jac[(r, j)]
unfoldable pub matrix_turn : ℕ → Float → ℕ → ℕ → List Float → List Float
matrix_turn n c r j ws = put_lu n ws r j (Ieee.neg c ⊗ jac n ws r j)

unfoldable pub matrix_cells : ℕ → Float → ℕ → List Float → List Float
matrix_cells n c r ws = loop 0 n (matrix_turn n c r) ws

-- lu_matrix[(r, r)] += 1.0
unfoldable pub diagonal : ℕ → ℕ → List Float → List Float
diagonal n r ws = put_lu n ws r r (lu n ws r r ⊕ one)

unfoldable pub matrix_row : ℕ → Float → ℕ → List Float → List Float
matrix_row n c r ws = diagonal n r (matrix_cells n c r ws)

unfoldable pub matrix : ℕ → Float → List Float → List Float
matrix n c ws = loop 0 n (matrix_row n c) ws

-- whether lu_decomp went to its end
abbrev pub went : {A : Type 0} → Outcome A → Bool
went (gives a) = true
went (refuses k) = false

-- a factoring's pivots, and whether the matrix was regular
pub record Factors : Type 0 where
  pub ok : Bool
  pub pivot : List ℕ

-- `lu_decomp(&mut lu_matrix, &mut pivot)`: the run's pivots are the first n of an array
unfoldable pub factored : ℕ → Float → List ℕ → List Float → Left Factors
factored n c pivot ws =
    let w = matrix n c ws in
    let f = lu_decomp_of (part (n * n) (n * n) w) (take n pivot) in
    left (record { ok = went f.0; pivot = f.2 ++ drop n pivot }) (over (n * n) (n * n) (λ _. f.1) w)
