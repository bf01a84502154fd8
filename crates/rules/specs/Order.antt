-- The choice of order and step after enough equal steps: of the orders below, at and above the present one, the one whose
-- error allows the longest step.
use Rattle.std.specs.Prelude.{List, false, ◌&&◌, ℕ, ◌+◌, ◌-◌, ltb, eqb, Float}
use Rattle.std.specs.Float.Ieee
use Rattle.std.specs.Float.{inf}
use Rattle.loops.specs.Choice.{when◌then◌else◌}
use Rattle.loops.specs.Cell.{at}
use Rattle.number.specs.Helpers.{min_of, max_of}
use Rattle.roots.specs.Roots.{inverse_root}
use Rattle.loops.specs.Arithmetic.{◌⊗◌, +0}
use Rattle.rules.specs.Literals.{max_factor}
use Rattle.rules.specs.Tables.{max_order, error_consts}
use Rattle.rules.specs.Places.{d}
use Rattle.rules.specs.State.{Left, left}
use Rattle.rules.specs.Judge.{weighed}
use Rattle.rules.specs.Norm.{rhs_norm}
use Rattle.rules.specs.declared.stages.Choice.{Choice}

-- the norm of error_const[k] * v, for the vector at row v; rhs holds the product afterwards
unfoldable pub error_at : ℕ → ℕ → ℕ → List Float → Left Float
error_at n k v ws = let w = weighed n (at error_consts k) v ws in left (rhs_norm n w) w

-- err_m: infinite at order 1
unfoldable pub err_m : ℕ → ℕ → List Float → Left Float
err_m n order ws = when ltb 1 order then error_at n (order - 1) (d order) ws else left (inf false) ws

-- err_p: infinite at the greatest order
unfoldable pub err_p : ℕ → ℕ → List Float → Left Float
err_p n order ws = when ltb order max_order then error_at n (order + 1) (d (order + 2)) ws else left (inf false) ws

-- factors[idx] = err.powf(-1.0 / (order + idx))
abbrev pub factor : ℕ → ℕ → Float → Float
factor order idx err = inverse_root (order + idx) err

-- max_by: the factors are met left to right, and one that is not below the best so far takes its place. So of equal ones
-- the last wins, and a NaN on either side compares as equal.
unfoldable pub best_of : Float → Float → Float → ℕ
best_of a b c =
    when Ieee.lt b a then (when Ieee.lt c a then 0 else 2)
    else when Ieee.lt c b then 1
    else 2

unfoldable pub new_order : ℕ → ℕ → ℕ
new_order order best =
    when eqb best 0 && ltb 1 order then order - 1
    else when eqb best 2 && ltb order max_order then order + 1
    else order

-- step_factor: (safety * max_factor).min(MAX_FACTOR)
unfoldable pub step_factor : Float → Float → Float → Float → Float
step_factor safety a b c = min_of (safety ⊗ max_of (max_of (max_of +0 a) b) c) max_factor

-- the new order and the factor, from the three errors
unfoldable pub choice_of : ℕ → Float → Float → Float → Float → Choice
choice_of order safety m e p =
    let a = factor order 0 m in
    let b = factor order 1 e in
    let c = factor order 2 p in
    record { order = new_order order (best_of a b c); factor = step_factor safety a b c }
