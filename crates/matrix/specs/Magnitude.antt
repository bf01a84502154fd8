-- What the search for a pivot compares in place of magnitudes.
use Rattle.std.specs.Prelude.{Float}
use Rattle.std.specs.Float.Ieee.{lt, neg}
use Rattle.loops.specs.Choice.{when◌then◌else◌}
use Rattle.loops.specs.Arithmetic.{+0}

-- |x|, but for -0, which stays: no comparison tells the two zeros apart (proofs/Magnitude.antt)
unfoldable pub magnitude_of : Float → Float
magnitude_of x = when lt x +0 then neg x else x
