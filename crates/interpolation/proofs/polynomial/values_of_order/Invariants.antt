-- `interpolation::polynomial::values_of_order`: the invariant and the measure of its loop.
use mathlib.Core.Path.{◌≡◌}
use Prim.Native.Nat.{◌-◌}
use lib.ListN.{length, set}
use Rattle.loops.specs.laws.Turned.{Turned}
use mathlib.Core.List.{List}
use lib.Ieee.{Float}
use Rattle.interpolation.specs.Interpolate.{sum_at}
use Rattle.interpolation.proofs.polynomial.values_of_order.Given as goal

abbrev pub invariant-loop-i : goal.invariant-loop-i
invariant-loop-i g l = (l.i-end ≡ length l.initial.yi) × (length l.yi ≡ length l.initial.yi) × Turned 0 (length l.initial.yi) (λ i (t : List Float). set t i (sum_at l.cont l.p g.row.ORDER i)) l.initial.yi l.i l.yi

abbrev pub decreases-loop-i : goal.decreases-loop-i
decreases-loop-i g l = l.i-end - l.i
