-- `interpolation::polynomial::sum_at`: the invariant and the measure of its loop.
use Prim.Native.Nat.{◌-◌, ◌*◌}
use Rattle.loops.specs.laws.Turned.{Turned}
use Rattle.interpolation.specs.Interpolate.{sum_turn}
use Rattle.interpolation.proofs.polynomial.sum_at.Given as goal

abbrev pub invariant-loop-k : goal.invariant-loop-k
invariant-loop-k g l = Turned 0 g.row.ORDER (sum_turn l.cont l.p (l.i * 7)) l.initial.sum l.k l.sum

abbrev pub decreases-loop-k : goal.decreases-loop-k
decreases-loop-k g l = g.row.ORDER - l.k
