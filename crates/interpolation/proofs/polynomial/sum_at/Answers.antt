-- `polynomial::sum_at`: one term a turn, from the first coefficient on. Assumes nothing.
use mathlib.Core.Path.{refl}
use native.Mathlib.Omega.{arith}
use Rattle.loops.specs.laws.Turned.{turn_none, turn_more, turn_all}
use Rattle.interpolation.specs.Interpolate.{sum_at, sum_turn}
use Rattle.interpolation.proofs.polynomial.sum_at.Goals as goal

pub loop-k-init : goal.loop-k-init
loop-k-init g c = turn_none (omega arith)

pub loop-k-preserved : goal.loop-k-preserved
unfolding sum_turn
loop-k-preserved g c = turn_more c.loop-k.invariant (omega arith) refl

pub returns : goal.returns
unfolding sum_at
returns g c = turn_all c.loop-k.invariant c.loop-k-test.false
