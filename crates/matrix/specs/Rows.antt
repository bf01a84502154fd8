-- A stage of LU row by row, which is how the code goes: along a row the numbers lie side by side, so that several can be worked
-- on at once. It gives what `stage_of` gives, by columns (proofs/Rows.antt); no public promise rests on the words of this file.
use Rattle.std.specs.Prelude.{◌≡◌, false, List, ℕ, ◌+◌, ◌≤◌, ◌<◌, Float}
use Rattle.std.specs.Float.Ieee.{ne}
use Rattle.loops.specs.Choice.{when◌then◌else◌}
use Rattle.loops.specs.Loop.{loop}
use Rattle.loops.specs.Cell.{cell, stored}
use Rattle.loops.specs.Arithmetic.{◌⊕◌, ◌⊗◌, ◌⊘◌, +0, one}
use Rattle.matrix.specs.Lu.{exchanged_of, scale_turn}

-- x + l * t, and x itself where t is zero: a product with an infinity or a NaN in l must not come in
unfoldable pub added_of : Float → Float → Float → Float
added_of x l t = when ne t +0 then x ⊕ l ⊗ t else x

-- `a[(i, j)] += a[(i, k)] * a[(k, j)]`, unless a[(k, j)] is zero
unfoldable pub cell_turn : ℕ → ℕ → ℕ → ℕ → List Float → List Float
cell_turn n k i j a = stored n a i j (added_of (cell n a i j) (cell n a i k) (cell n a k j))

-- row k holds zeros from column `end` on: no turn there changes anything
abbrev pub Zeros : ℕ → ℕ → ℕ → List Float → Type 0
Zeros n k end a = (j : ℕ) → end ≤ j → j < n → ne (cell n a k j) +0 ≡ false

-- row i: its multiplier, then the cells to the right of it
unfoldable pub row_turn : ℕ → ℕ → Float → ℕ → List Float → List Float
row_turn n k t i a = loop (k + 1) n (cell_turn n k i) (scale_turn n k t i a)

-- stage k with the pivot in row m: both rows exchanged from column k on, then row after row
unfoldable pub stage_by_rows : ℕ → ℕ → ℕ → List Float → List Float
stage_by_rows n m k a = loop (k + 1) n (row_turn n k (one ⊘ cell n a m k)) (loop k n (exchanged_of n m k) a)
