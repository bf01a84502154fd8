-- `right::rows` meets its contract: one row a turn. Assumes nothing.
use Rattle.std.proofs.Common.{arith}
use Rattle.loops.specs.laws.Turned.{turn_none, turn_more, turn_all}
use Rattle.job.specs.Right.{right_turn, right_of}
use Rattle.job.proofs.right.rows.Goals as goal

pub loop-i-init : goal.loop-i-init
loop-i-init c = turn_none (omega arith)

pub loop-i-preserved : goal.loop-i-preserved
unfolding right_turn
loop-i-preserved c = turn_more c.loop-i.invariant (omega arith) (rw c.row_sum.ensures)

pub returns : goal.returns
unfolding right_of
returns c = turn_all c.loop-i.invariant (omega arith)
