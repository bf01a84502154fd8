-- Numbers as text, in ASCII codes: a digit, the digits of a number, a count in decimal, a double by its bit pattern.
use Rattle.std.specs.Prelude.{List, [], ◌∷◌, ◌++◌, ℕ, zero, suc, ◌+◌, ◌/◌, ◌%◌, ltb, Float}
use Rattle.std.specs.Float.{binary64}
use Rattle.std.specs.Float.Ieee.{to_bits}
use Rattle.loops.specs.Choice.{when◌then◌else◌}

-- the code of a digit below 16: `0` to `9`, then `A` to `F`
unfoldable pub digit : ℕ → ℕ
digit d = when ltb d 10 then 48 + d else 55 + d

-- the last k digits of n in a base, the most significant first
unfoldable pub spelled : ℕ → ℕ → ℕ → List ℕ
unfolding digit
spelled base zero n = []
spelled base (suc k) n = spelled base k (n / base) ++ (digit (n % base) ∷ [])

-- how many decimal digits n has, of at most `more` beyond the first: one for 0
unfoldable pub places_within : ℕ → ℕ → ℕ
places_within zero n = 1
places_within (suc more) n = when ltb n 10 then 1 else places_within more (n / 10) + 1

-- a 64-bit word has at most 20
abbrev pub places_of : ℕ → ℕ
places_of n = places_within 19 n

-- a count: its digits, with no zero in front
abbrev pub decimal : ℕ → List ℕ
decimal n = spelled 10 (places_of n) n

-- a double: the 16 hexadecimal digits of its pattern; every NaN is 7FF8000000000000, which is what `to_bits` writes for it
abbrev pub hexadecimal : Float → List ℕ
hexadecimal x = spelled 16 16 (to_bits binary64 x)
