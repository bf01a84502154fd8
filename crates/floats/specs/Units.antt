-- Doubles counted in units of 2 ^ -1074, the smallest double: a finite one is a sign and a whole number of units (`units_of`), and the
-- result of an operation is the number of units nearest to the exact one (`grid_of`), with 53 binary digits and ties to even. So what is
-- said of rounded operations is arithmetic on whole numbers.
use Rattle.std.specs.Prelude.{◌≡◌, Bool, true, false, ℕ, ◌+◌, ◌*◌, ◌^◌, ◌≤◌, T, Float}
use Rattle.std.specs.Float.{nan, inf, fin, binary64}
use Rattle.std.specs.Float.Ieee.{fits}
use Rattle.std.specs.Float.Ieee.Order.{drop, kept}
use Rattle.roots.specs.Roots.{units_of}
use Rattle.roots.proofs.laws.Units.{SignClear}

-- a finite double
abbrev pub Finite : Float → Type 0
Finite nan = ⊥
Finite (inf s) = ⊥
Finite (fin s m e) = T (fits binary64 (fin s m e))

-- whether its sign is set; a NaN's counts as clear
abbrev pub sign_of : Float → Bool
sign_of nan = false
sign_of (inf s) = s
sign_of (fin s m e) = s

-- ---- rounding

-- the fraction a / c rounded, in units, had the format no largest number
unfoldable pub grid_of : ℕ → ℕ → ℕ
grid_of a c = kept 53 (a * 2 ^ 1074) c * 2 ^ drop 53 (a * 2 ^ 1074) c

-- x has the sign s, and g units; or it is infinite, and g is 2 ^ 2098 or more
abbrev pub Counts : Float → Bool → ℕ → Type 0
Counts nan s g = ⊥
Counts (inf t) s g = (t ≡ s) × (2 ^ 2098 ≤ g)
Counts (fin t m e) s g = (t ≡ s) × T (fits binary64 (fin t m e)) × (units_of (fin t m e) ≡ g)

-- x is finite, has the sign s, and at most g units
pub record Within (x : Float) (s : Bool) (g : ℕ) : Type 0 where
  pub finite : Finite x
  pub sign : sign_of x ≡ s
  pub most : units_of x ≤ g

-- x is the number n
pub record Whole (x : Float) (n : ℕ) : Type 0 where
  pub clear : SignClear x
  pub worth : units_of x ≡ n * 2 ^ 1074

-- ---- both signs: a finite x is `over x` - `under x` units, and one of the two is 0, so that its order and its sums are linear arithmetic

abbrev pub over : Float → ℕ
over nan = 0
over (inf s) = 0
over (fin true m e) = 0
over (fin false m e) = units_of (fin false m e)

abbrev pub under : Float → ℕ
under nan = 0
under (inf s) = 0
under (fin true m e) = units_of (fin true m e)
under (fin false m e) = 0

-- P - N as a sign and a size
abbrev pub Apart : Bool → ℕ → ℕ → ℕ → Type 0
Apart false P N D = N + D ≡ P
Apart true P N D = P + D ≡ N

-- z is P - N units, rounded once
pub record Rounded (z : Float) (P N : ℕ) : Type 0 where
  pub sign : Bool
  pub size : ℕ
  pub counts : Counts z sign (grid_of size (2 ^ 1074))
  pub apart : Apart sign P N size
