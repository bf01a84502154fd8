-- Where the best order lies, as the definitions count: 0 below the present one, 1 at it, 2 above it.
use Rattle.std.specs.Prelude.{ℕ}
use Rattle.bdf.specs.declared.order.Way.{Way}
use Rattle.bdf.specs.declared.order.Way.TheVariants.{Down, Stay, Up}

abbrev pub place_of : Way → ℕ
place_of Down = 0
place_of Stay = 1
place_of Up = 2
