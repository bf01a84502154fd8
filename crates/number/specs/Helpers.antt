-- abs, signum, min and max of doubles, as the solver's rules fix them.
use Rattle.std.specs.Prelude.{false, pos, Float}
use Rattle.std.specs.Float.{nan, inf, fin}
use Rattle.std.specs.Float.Ieee.{lt, ne}
use Rattle.loops.specs.Choice.{when◌then◌else◌}

-- the magnitude: the sign cleared, -0's too
unfoldable pub abs_of : Float → Float
abs_of nan = nan
abs_of (inf s) = inf false
abs_of (fin s m e) = fin false m e

-- 1 with the sign of x: +0 gives 1, -0 gives -1, NaN gives NaN
unfoldable pub signum_of : Float → Float
signum_of nan = nan
signum_of (inf s) = fin s 1 (pos 0)
signum_of (fin s m e) = fin s 1 (pos 0)

-- the smaller; a NaN is passed over, and of two zeros the first is given
unfoldable pub min_of : Float → Float → Float
min_of x y = when ne x x then y else when lt y x then y else x

-- the larger; a NaN is passed over, and of two zeros the first is given
unfoldable pub max_of : Float → Float → Float
max_of x y = when ne x x then y else when lt x y then y else x
