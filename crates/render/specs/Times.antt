-- The times k / 48000, and where a k lies beside an x.
use Rattle.std.specs.Prelude.{Bool, ◌&&◌, not, ℕ, zero, suc, ◌+◌, ◌-◌, ◌^◌, Float}
use Rattle.std.specs.Float.Ieee
use Rattle.std.specs.Float.{binary64}
use Rattle.loops.specs.Choice.{when◌then◌else◌}
use Rattle.loops.specs.Arithmetic.{◌⊘◌, float}

-- 48000.0, and 80000.0 with either sign
abbrev pub rate : Float
rate = Ieee.of_bits binary64 0x40e7_7000_0000_0000

abbrev pub 80000·0 : Float
80000·0 = Ieee.of_bits binary64 0x40f3_8800_0000_0000

abbrev pub -80000·0 : Float
-80000·0 = Ieee.of_bits binary64 0xc0f3_8800_0000_0000

-- the time of k: the quotient, rounded once
unfoldable pub time_of : ℕ → Float
time_of k = float k ⊘ rate

-- k's time lies above x; k's time lies below x
abbrev pub past : Float → ℕ → Bool
past x k = Ieee.lt x (time_of k)

abbrev pub short : Float → ℕ → Bool
short x k = Ieee.lt (time_of k) x

-- x lies within -80,000 to 80,000
abbrev pub within : Float → Bool
within x = Ieee.le -80000·0 x && Ieee.le x 80000·0

-- by halving: how many of the first 2 ^ f - 1 from lo on pass a test that, once failed, is failed for good
unfoldable pub sought : (ℕ → Bool) → ℕ → ℕ → ℕ
sought p zero lo = lo
sought p (suc f) lo = when p (lo + (2 ^ f - 1)) then sought p f (lo + 2 ^ f) else sought p f lo

-- the least k whose time is not below x
unfoldable pub first_from : Float → ℕ
unfolding sought
first_from x = sought (short x) 32 0

-- the least k whose time lies above x
unfoldable pub first_past : Float → ℕ
unfolding sought
first_past x = sought (λ k. not (past x k)) 32 0

-- of m from k on, how many lie at or below x before the first that does not
unfoldable pub counted : Float → ℕ → ℕ → ℕ
counted x zero k = 0
counted x (suc m) k = when past x k then 0 else suc (counted x m (k + 1))
