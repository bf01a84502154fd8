-- `judge::prepare`: the seven coefficients of one component a turn. Assumes nothing.
use mathlib.Core.Path.{refl}
use native.Mathlib.Omega.{arith}
use Rattle.loops.specs.laws.Turned.{turn_none, turn_more, turn_all}
use Rattle.rules.specs.Judge.{cont_turn, prepared}
use Rattle.bdf.proofs.judge.prepare.Goals as goal

pub loop-i-init : goal.loop-i-init
loop-i-init c = (refl, turn_none (omega arith))

pub loop-i-preserved : goal.loop-i-preserved
unfolding cont_turn
loop-i-preserved c = (omega arith, turn_more c.loop-i.invariant.1 (omega arith) (rw (c.coefficients.ensures, c.put_coefficient.ensures, c.get-x.ensures) at c.put_coefficient-in-loop-i.ensures))

pub returns : goal.returns
unfolding prepared
returns c = turn_all c.loop-i.invariant.1 c.loop-i-test.false
