-- `lu::exchange_rows` meets its contract: each turn of the loop is an exchange. Assumes nothing.
use native.Mathlib.Omega.{arith}
use Rattle.loops.specs.laws.Turned.{turn_none, turn_more, turn_all}
use Rattle.matrix.proofs.lu.exchange_rows.Goals as goal

pub loop-j-init : goal.loop-j-init
loop-j-init c = (omega arith, turn_none (omega arith))

pub loop-j-preserved : goal.loop-j-preserved
loop-j-preserved c = let at-loop = c.loop-j in
    let turn = c.loop-j-test in
    (omega arith, turn_more at-loop.invariant.1 turn.true c.exchange.ensures)

pub returns : goal.returns
returns c = turn_all c.loop-j.invariant.1 c.loop-j-test.false
