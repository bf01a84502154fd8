-- `factor::matrix_rows`: one row a turn, with its diagonal. Assumes nothing.
use mathlib.Core.Path.{refl}
use native.Mathlib.Omega.{arith}
use Rattle.loops.specs.laws.Turned.{turn_none, turn_more, turn_all}
use Rattle.rules.specs.Factor.{matrix_row, matrix}
use Rattle.bdf.proofs.factor.matrix_rows.Goals as goal

pub loop-r-init : goal.loop-r-init
loop-r-init c = (refl, turn_none (omega arith))

pub loop-r-preserved : goal.loop-r-preserved
unfolding matrix_row
loop-r-preserved c =
    (omega arith, turn_more c.loop-r.invariant.1 (omega arith) (rw c.matrix_cells.ensures at c.diagonal.ensures))

pub returns : goal.returns
unfolding matrix
returns c = turn_all c.loop-r.invariant.1 c.loop-r-test.false
