-- Copies and fills over plain places of a list, as loops.
use Rattle.std.specs.Prelude.{List, ℕ, ◌+◌, get_or, set, Float}
use Rattle.std.specs.Float.{nan}
use Rattle.loops.specs.Loop.{loop}

-- count places from `to` on take those from `from` on, of the list itself
unfoldable pub copy_turn : ℕ → ℕ → ℕ → List Float → List Float
copy_turn from to i l = set l (to + i) (get_or l (from + i) nan)

unfoldable pub copied : ℕ → ℕ → ℕ → List Float → List Float
copied from to count l = loop 0 count (copy_turn from to) l

-- count places from `to` on take x
unfoldable pub fill_turn : ℕ → Float → ℕ → List Float → List Float
fill_turn to x i l = set l (to + i) x

unfoldable pub filled : ℕ → ℕ → Float → List Float → List Float
filled to count x l = loop 0 count (fill_turn to x) l

-- count places from `to` on take those of another list from `from` on
unfoldable pub load_turn : List Float → ℕ → ℕ → ℕ → List Float → List Float
load_turn values from to i l = set l (to + i) (get_or values (from + i) nan)

unfoldable pub loaded : List Float → ℕ → ℕ → ℕ → List Float → List Float
loaded values from to count l = loop 0 count (load_turn values from to) l
