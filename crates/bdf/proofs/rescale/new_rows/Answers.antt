-- `rescale::new_rows`: one row a turn. Assumes nothing.
use mathlib.Core.Path.{refl}
use native.Mathlib.Omega.{arith}
use Rattle.loops.specs.laws.Turned.{turn_none, turn_more, turn_all}
use Rattle.rules.specs.Rescale.{new_rows}
use Rattle.bdf.proofs.rescale.new_rows.Goals as goal

pub loop-i-init : goal.loop-i-init
loop-i-init c = (refl, turn_none (omega arith))

pub loop-i-preserved : goal.loop-i-preserved
loop-i-preserved c = (omega arith, turn_more c.loop-i.invariant.1 (omega arith) c.new_row.ensures)

pub returns : goal.returns
unfolding new_rows
returns c = turn_all c.loop-i.invariant.1 c.loop-i-test.false
