-- `cell::put` meets its contract: a cell of n rows of n lies among their n * n numbers, so its place neither wraps nor leaves
-- the slice. Assumes nothing.
use native.Mathlib.Omega.{arith}
use Rattle.loops.specs.laws.RowLaws.{inside}
use Rattle.matrix.proofs.cell.put.Goals as goal

pub overflow_mul-a : goal.overflow_mul-a
overflow_mul-a c = omega (arith, inside c.requires.0 c.requires.1)

pub overflow_add-a : goal.overflow_add-a
overflow_add-a c = omega (arith, inside c.requires.0 c.requires.1)

pub bounds-a-r : goal.bounds-a-r
bounds-a-r c = omega (arith, inside c.requires.0 c.requires.1)
