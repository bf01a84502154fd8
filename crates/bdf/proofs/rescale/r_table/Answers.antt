-- `rescale::r_table`: one row a turn, below the row of ones. Assumes nothing.
use native.Mathlib.Omega.{arith}
use Rattle.loops.specs.laws.Turned.{turn_none, turn_more, turn_all}
use Rattle.rules.specs.Rescale.{r_table}
use Rattle.bdf.proofs.rescale.r_table.Goals as goal

pub loop-i-init : goal.loop-i-init
loop-i-init c = turn_none (omega arith)

pub loop-i-preserved : goal.loop-i-preserved
loop-i-preserved c = turn_more c.loop-i.invariant (omega arith) c.r_row.ensures

pub returns : goal.returns
unfolding r_table
returns c = rw c.first_row-r.ensures at (turn_all c.loop-i.invariant c.loop-i-test.false)
