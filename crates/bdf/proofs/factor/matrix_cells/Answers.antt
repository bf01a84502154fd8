-- `factor::matrix_cells`: one entry of row r a turn. Assumes nothing.
use mathlib.Core.Path.{refl}
use native.Mathlib.Omega.{arith}
use Rattle.loops.specs.laws.Turned.{turn_none, turn_more, turn_all}
use Rattle.rules.specs.Factor.{matrix_turn, matrix_cells}
use Rattle.bdf.proofs.factor.matrix_cells.Goals as goal

pub loop-j-init : goal.loop-j-init
loop-j-init c = (refl, turn_none (omega arith))

pub loop-j-preserved : goal.loop-j-preserved
unfolding matrix_turn
loop-j-preserved c = (omega arith, turn_more c.loop-j.invariant.1 (omega arith) (rw c.jac.ensures at c.put_lu.ensures))

pub returns : goal.returns
unfolding matrix_cells
returns c = turn_all c.loop-j.invariant.1 c.loop-j-test.false
