-- `polynomial::values_of_order`: one component a turn. Assumes nothing.
use mathlib.Core.Path.{refl}
use native.Mathlib.Omega.{arith}
use lib.ListN.{length-set}
use Rattle.loops.specs.laws.Turned.{turn_none, turn_more, turn_all}
use Rattle.interpolation.specs.Interpolate.{evaluated}
use Rattle.interpolation.proofs.polynomial.values_of_order.Goals as goal

pub loop-i-init : goal.loop-i-init
loop-i-init g c = (refl, refl, turn_none (omega arith))

pub loop-i-preserved : goal.loop-i-preserved
loop-i-preserved g c = let loop = c.loop-i in
    (loop.invariant.0, simp length-set loop.invariant.1, turn_more loop.invariant.2 (omega arith) (rw c.sum_at-sum.ensures))

pub returns : goal.returns
unfolding evaluated
returns g c = rw c.products-p.ensures at (turn_all c.loop-i.invariant.2 (omega arith))
