-- A whole number written as a row of digits to a base, the lowest first.
use Rattle.std.specs.Prelude.{◌≡◌, List, ℕ, zero, suc, ◌+◌, ◌*◌, ◌^◌, ◌<◌, length, get_or}

-- what the first i digits stand for
unfoldable pub numeral : ℕ → List ℕ → ℕ → ℕ
numeral base l zero = 0
numeral base l (suc i) = numeral base l i + get_or l i 0 * base ^ i

-- each digit is below the base
abbrev pub Digits : ℕ → List ℕ → Type 0
Digits base l = (i : ℕ) → get_or l i 0 < base

-- the base of the rows of fourteen digits in which powers are compared, and how far they reach
abbrev pub base : ℕ
base = 2 ^ 31

pub record Row (l : List ℕ) : Type 0 where
  pub long : length l ≡ 14
  pub digits : Digits base l

unfoldable pub room : ℕ
room = base ^ 14
