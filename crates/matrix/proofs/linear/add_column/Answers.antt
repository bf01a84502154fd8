-- `linear::add_column` meets its contract: each turn of the loop is a turn of the definition. Assumes nothing.
use Rattle.std.proofs.Common.{arith}
use Rattle.std.proofs.Math.ListN.{length-set}
use Rattle.loops.specs.laws.Turned.{turn_none, turn_more, turn_all}
use Rattle.matrix.specs.Linear.{added_turn}
use Rattle.matrix.proofs.linear.add_column.Goals as goal

pub loop-i-init : goal.loop-i-init
loop-i-init c = (omega arith, turn_none (omega arith))

pub loop-i-preserved : goal.loop-i-preserved
unfolding added_turn
loop-i-preserved c = (simp length-set c.loop-i.invariant.0, turn_more c.loop-i.invariant.1 (omega arith) (rw c.at.ensures))

pub returns : goal.returns
returns c = turn_all c.loop-i.invariant.1 c.loop-i-test.false
