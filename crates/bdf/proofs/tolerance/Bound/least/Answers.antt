-- `tolerance::Bound::least`: one entry a turn, from infinity on. Assumes nothing.
use native.Mathlib.Omega.{arith}
use Rattle.loops.specs.laws.Turned.{turn_none, turn_more, turn_all}
use Rattle.rules.specs.Begin.{least_turn, least}
use Rattle.bdf.proofs.tolerance.Bound.least.Goals as goal

pub loop-i-init : goal.loop-i-init
loop-i-init c = rw c.infinity-m.ensures (turn_none (omega arith))

pub loop-i-preserved : goal.loop-i-preserved
unfolding least_turn
loop-i-preserved c = turn_more c.loop-i.invariant (omega arith) (rw c.entry.ensures at c.min-m.ensures)

pub returns : goal.returns
unfolding least
returns c = turn_all c.loop-i.invariant c.loop-i-test.false
