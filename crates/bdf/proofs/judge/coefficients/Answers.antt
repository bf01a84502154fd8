-- `judge::coefficients`: one coefficient a turn. Assumes nothing.
use mathlib.Core.Path.{refl}
use native.Mathlib.Omega.{arith}
use Rattle.loops.specs.laws.Turned.{turn_none, turn_more, turn_all}
use Rattle.rules.specs.Judge.{coeff_turn, coeffs}
use Rattle.bdf.proofs.judge.coefficients.Goals as goal

pub loop-k-init : goal.loop-k-init
loop-k-init c = (refl, turn_none (omega arith))

pub loop-k-preserved : goal.loop-k-preserved
unfolding coeff_turn
loop-k-preserved c = (omega arith, turn_more c.loop-k.invariant.1 (omega arith) (rw c.coefficient-x.ensures at c.put_coefficient.ensures))

pub returns : goal.returns
unfolding coeffs
returns c = turn_all c.loop-k.invariant.1 c.loop-k-test.false
