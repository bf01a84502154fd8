-- Rescaling the differences D to another step size: `compute_r`, `matmul` and `change_d`, loop by loop.
-- A table (the Rust's `Vec<Vec<Float>>` of `size` rows, size = order + 1) has its entry (i, j) at i * 6 + j; its other places
-- hold +0. D has its row k, one difference of the n components, from k * n on.
use Rattle.std.specs.Prelude.{List, ℕ, ◌+◌, ◌-◌, ◌*◌, min, Float, set, replicate}
use Rattle.std.specs.Float.Ieee
use Rattle.loops.specs.Choice.{when◌then◌else◌}
use Rattle.loops.specs.Loop.{loop}
use Rattle.loops.specs.Cell.{cell, stored}
use Rattle.loops.specs.Arithmetic.{◌⊕◌, ◌⊖◌, ◌⊗◌, ◌⊘◌, float, +0, one}
use Rattle.matrix.specs.Size.{max_n}
use Rattle.rules.specs.Moves.{loaded}
use Rattle.rules.specs.Tables.{max_order}

-- `vec![vec![0.0; size]; size]`
abbrev pub blank : List Float
blank = replicate 36 +0

-- ---- compute_r

-- m[0][j] = 1.0
unfoldable pub first_row : ℕ → List Float
first_row size = loop 0 size (λ j m. set m j one) blank

-- m[i][j] = (i - 1.0 - factor * j) / i
unfoldable pub m_turn : Float → ℕ → ℕ → List Float → List Float
m_turn factor i j m = stored 6 m i j ((float i ⊖ one ⊖ factor ⊗ float j) ⊘ float i)

unfoldable pub m_row : Float → ℕ → ℕ → List Float → List Float
m_row factor size i m = loop 1 size (m_turn factor i) m

unfoldable pub m_table : Float → ℕ → List Float
m_table factor size = loop 1 size (m_row factor size) (first_row size)

-- r[i][j] = r[i - 1][j] * m[i][j]
unfoldable pub r_turn : List Float → ℕ → ℕ → List Float → List Float
r_turn m i j r = stored 6 r i j (cell 6 r (i - 1) j ⊗ cell 6 m i j)

unfoldable pub r_row : List Float → ℕ → ℕ → List Float → List Float
r_row m size i r = loop 0 size (r_turn m i) r

-- r[0] is m[0]
unfoldable pub r_table : List Float → ℕ → List Float
r_table m size = loop 1 size (r_row m size) (first_row size)

unfoldable pub compute_r : ℕ → Float → List Float
compute_r order factor = r_table (m_table factor (order + 1)) (order + 1)

-- ---- a row times a coefficient, added to another row: what the innermost loops of `matmul` and `change_d` do

-- to[i][j] += coeff * source[k][j]
unfoldable pub scaled_turn : ℕ → Float → List Float → ℕ → ℕ → ℕ → List Float → List Float
scaled_turn wide coeff source k i j to = stored wide to i j (cell wide to i j ⊕ coeff ⊗ cell wide source k j)

-- rows are `wide` apart and have `count` places. A coefficient of 0 is passed over, whatever the source holds
unfoldable pub add_scaled : ℕ → ℕ → Float → List Float → ℕ → ℕ → List Float → List Float
add_scaled wide count coeff source k i to = when Ieee.eq coeff +0 then to else loop 0 count (scaled_turn wide coeff source k i) to

-- ---- matmul

-- res[i] += a[i][k] * b[k]
unfoldable pub product_turn : List Float → List Float → ℕ → ℕ → ℕ → List Float → List Float
product_turn a b size i k res = add_scaled 6 size (cell 6 a i k) b k i res

unfoldable pub product_row : List Float → List Float → ℕ → ℕ → List Float → List Float
product_row a b size i res = loop 0 size (product_turn a b size i) res

unfoldable pub matmul : List Float → List Float → ℕ → List Float
matmul a b size = loop 0 size (product_row a b size) blank

-- ---- change_d

-- scratch[i] += ru[k][i] * d[k]
unfoldable pub new_row_turn : ℕ → List Float → List Float → ℕ → ℕ → List Float → List Float
new_row_turn n ru d i k scratch = add_scaled n n (cell 6 ru k i) d k i scratch

unfoldable pub new_row : ℕ → List Float → List Float → ℕ → ℕ → List Float → List Float
new_row n ru d size i scratch = loop 0 size (new_row_turn n ru d i) scratch

-- each row of scratch is a sum from +0 on
unfoldable pub new_rows : ℕ → List Float → List Float → ℕ → List Float
new_rows n ru d size = loop 0 size (new_row n ru d size) (replicate (6 * max_n) +0)

-- d[i] = scratch[i] for each row i up to the order, which are the first size * n places; the rows above stay
unfoldable pub rescaled : ℕ → ℕ → Float → List Float → List Float
rescaled n order factor d =
    let size = order + 1 in
    let ru = matmul (compute_r order factor) (compute_r order one) size in
    loaded (new_rows n ru d size) 0 0 (size * n) d

-- a factor of exactly 1.0 changes nothing
unfoldable pub change_d : ℕ → ℕ → Float → List Float → List Float
change_d n order factor d = when Ieee.eq factor one then d else rescaled n (min order max_order) factor d
