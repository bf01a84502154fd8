-- `matrix::lu::reach`: the invariant and the measure of its loop.
use Rattle.std.proofs.Common.{◌-◌}
use Rattle.matrix.specs.Rows.{Zeros}
use Rattle.matrix.proofs.lu.reach.Given as goal

abbrev pub invariant-loop-zeros : goal.invariant-loop-zeros
invariant-loop-zeros l = Zeros l.a.n l.k (l.a.n - l.zeros) l.a.cells.now

abbrev pub decreases-loop-zeros : goal.decreases-loop-zeros
decreases-loop-zeros l = l.a.n - l.zeros
