-- The right side of a job, y' = A y: each sum from +0, upward by column, rounded after each product and each sum.
use Rattle.std.specs.Prelude.{Bool, ◌&&◌, Result, Ok, Err, List, ℕ, ◌*◌, leb, eqb, length, set, Float}
use Rattle.loops.specs.Arithmetic.{◌⊕◌, ◌⊗◌, +0}
use Rattle.loops.specs.Choice.{when◌then◌else◌}
use Rattle.loops.specs.Loop.{loop}
use Rattle.loops.specs.Cell.{at, cell}
use Rattle.job.specs.declared.right.WrongLength.{WrongLength}
use Rattle.job.specs.Types.{max_n}

-- column c of row i
unfoldable pub sum_turn : List Float → List Float → ℕ → ℕ → Float → Float
sum_turn a y i c sum = sum ⊕ cell (length y) a i c ⊗ at y c

-- row i of A times y
unfoldable pub row_sum : List Float → List Float → ℕ → Float
row_sum a y i = loop 0 (length y) (sum_turn a y i) +0

unfoldable pub right_turn : List Float → List Float → ℕ → List Float → List Float
right_turn a y i dy = set dy i (row_sum a y i)

unfoldable pub right_of : List Float → List Float → List Float → List Float
right_of a y dy = loop 0 (length y) (right_turn a y) dy

-- n at most 32, a matrix of n by n, and n places to write
unfoldable pub sized_of : ℕ → ℕ → ℕ → Bool
sized_of n cells places = leb n max_n && (eqb cells (n * n) && eqb places n)

-- whether the sizes agree, and what dy then holds; where they do not, it stays
unfoldable pub right_side_of : List Float → List Float → List Float → Result Unit WrongLength × List Float
right_side_of a y dy = when sized_of (length y) (length a) (length dy) then (Ok tt, right_of a y dy) else (Err (record {}), dy)
