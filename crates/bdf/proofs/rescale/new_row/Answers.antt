-- `rescale::new_row`: one row of D a turn. Assumes nothing.
use mathlib.Core.Path.{refl}
use native.Mathlib.Omega.{arith}
use Rattle.loops.specs.laws.Turned.{turn_none, turn_more, turn_all}
use Rattle.rules.specs.Rescale.{new_row, new_row_turn}
use Rattle.bdf.proofs.rescale.new_row.Goals as goal

pub loop-k-init : goal.loop-k-init
loop-k-init c = (refl, turn_none (omega arith))

pub loop-k-preserved : goal.loop-k-preserved
unfolding new_row_turn
loop-k-preserved c =
    let loop = c.loop-k in
    let add-scaled = c.add_scaled in
    (omega arith, turn_more loop.invariant.1 (omega arith) add-scaled.ensures)

pub returns : goal.returns
unfolding new_row
returns c = turn_all c.loop-k.invariant.1 c.loop-k-test.false
