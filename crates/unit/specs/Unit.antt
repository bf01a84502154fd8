-- The unit coefficients: `compute_r` at factor 1.0, by which `change_d` multiplies the table of any other factor, as one fixed table for
-- the orders 1 to 5. The numbers stand here to be read; that they are what the routine yields, order by order, is
-- proofs/promises/UnitTable.antt.
use Rattle.std.specs.Prelude.{List, [], ◌∷◌, ℕ, zero, suc, Float, take, drop}
use Rattle.std.specs.Float.Ieee
use Rattle.std.specs.Float.{binary64}
use Rattle.loops.specs.Arithmetic.{+0, one}

-- ---- the numbers of the table, by their bits. A zero has a sign: a product of a negative number and +0 leaves -0, and a product with
-- a positive number keeps it

abbrev -0 : Float
-0 = Ieee.of_bits binary64 0x8000_0000_0000_0000

abbrev +1 : Float
+1 = one

abbrev -1 : Float
-1 = Ieee.of_bits binary64 0xbff0_0000_0000_0000

abbrev -2 : Float
-2 = Ieee.of_bits binary64 0xc000_0000_0000_0000

abbrev +3 : Float
+3 = Ieee.of_bits binary64 0x4008_0000_0000_0000

abbrev -3 : Float
-3 = Ieee.of_bits binary64 0xc008_0000_0000_0000

abbrev -4 : Float
-4 = Ieee.of_bits binary64 0xc010_0000_0000_0000

abbrev +5 : Float
+5 = Ieee.of_bits binary64 0x4014_0000_0000_0000

abbrev -5 : Float
-5 = Ieee.of_bits binary64 0xc014_0000_0000_0000

abbrev +6 : Float
+6 = Ieee.of_bits binary64 0x4018_0000_0000_0000

abbrev +10 : Float
+10 = Ieee.of_bits binary64 0x4024_0000_0000_0000

abbrev -10 : Float
-10 = Ieee.of_bits binary64 0xc024_0000_0000_0000

-- ---- the table

-- row by row: entry (i, j), row i and column j, is at i * 6 + j
unfoldable pub unit_r : List Float
unit_r =
    +1 ∷ +1 ∷ +1 ∷ +1 ∷ +1 ∷ +1 ∷
    +0 ∷ -1 ∷ -2 ∷ -3 ∷ -4 ∷ -5 ∷
    +0 ∷ -0 ∷ +1 ∷ +3 ∷ +6 ∷ +10 ∷
    +0 ∷ -0 ∷ +0 ∷ -1 ∷ -4 ∷ -10 ∷
    +0 ∷ -0 ∷ +0 ∷ -0 ∷ +1 ∷ +5 ∷
    +0 ∷ -0 ∷ +0 ∷ -0 ∷ +0 ∷ -1 ∷ []

-- ---- the table of an order: the first order + 1 rows and columns

-- the first k rows of a table of six columns, `size` places of each
unfoldable pub rows_of : ℕ → ℕ → List Float → List (List Float)
rows_of size zero t = []
rows_of size (suc k) t = take size t ∷ rows_of size k (drop 6 t)

-- the first `size` rows and columns
abbrev pub corner : ℕ → List Float → List (List Float)
corner size t = rows_of size size t
