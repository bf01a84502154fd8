-- `rescale::m_row`: one entry of row i a turn. Assumes nothing.
use mathlib.Core.Path.{refl}
use native.Mathlib.Omega.{arith}
use Rattle.loops.specs.laws.Turned.{turn_none, turn_more, turn_all}
use Rattle.rules.specs.Rescale.{m_row, m_turn}
use Rattle.bdf.proofs.rescale.m_row.Goals as goal

pub loop-j-init : goal.loop-j-init
loop-j-init c = turn_none (omega arith)

pub loop-j-preserved : goal.loop-j-preserved
unfolding m_turn
loop-j-preserved c = turn_more c.loop-j.invariant (omega arith) refl

pub returns : goal.returns
unfolding m_row
returns c = turn_all c.loop-j.invariant c.loop-j-test.false
