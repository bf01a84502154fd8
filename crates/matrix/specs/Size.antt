-- The sizes that are served: a matrix of n rows of n numbers, with n from 1 to a greatest one.
use Rattle.std.specs.Prelude.{Bool, ◌&&◌, ℕ, ◌*◌, leb, ltb, eqb}

-- the most rows that a matrix may have
abbrev pub max_n : ℕ
max_n = 32

-- whether `len` numbers are a matrix of n rows that is served
unfoldable pub sized_of : ℕ → ℕ → Bool
sized_of n len = ltb 0 n && (leb n max_n && eqb len (n * n))
