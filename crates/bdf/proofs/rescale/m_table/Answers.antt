-- `rescale::m_table`: one row a turn, below the row of ones. Assumes nothing.
use native.Mathlib.Omega.{arith}
use Rattle.loops.specs.laws.Turned.{turn_none, turn_more, turn_all}
use Rattle.rules.specs.Rescale.{m_table}
use Rattle.bdf.proofs.rescale.m_table.Goals as goal

pub loop-i-init : goal.loop-i-init
loop-i-init c = turn_none (omega arith)

pub loop-i-preserved : goal.loop-i-preserved
loop-i-preserved c = turn_more c.loop-i.invariant (omega arith) c.m_row.ensures

pub returns : goal.returns
unfolding m_table
returns c = rw c.first_row-m.ensures at (turn_all c.loop-i.invariant c.loop-i-test.false)
