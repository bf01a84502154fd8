-- `right::row_sum` meets its contract: one column a turn. Assumes nothing.
use Rattle.std.proofs.Common.{refl, arith}
use Rattle.loops.specs.laws.Turned.{turn_none, turn_more, turn_all}
use Rattle.job.specs.Right.{sum_turn, row_sum}
use Rattle.job.proofs.right.row_sum.Goals as goal

pub loop-c-init : goal.loop-c-init
loop-c-init c = turn_none (omega arith)

pub loop-c-preserved : goal.loop-c-preserved
unfolding sum_turn
loop-c-preserved c = turn_more c.loop-c.invariant c.loop-c-test.true refl

pub returns : goal.returns
unfolding row_sum
returns c = turn_all c.loop-c.invariant c.loop-c-test.false
