-- `matrix::lu::pivot_row`: the invariant and the measure of its loop.
use mathlib.Core.Path.{◌≡◌}
use Prim.Native.Nat.{◌+◌, ◌-◌, ◌<◌}
use Rattle.loops.specs.Cell.{cell}
use Rattle.loops.specs.laws.Turned.{Turned}
use Rattle.number.specs.Helpers.{abs_of}
use Rattle.matrix.specs.Magnitude.{magnitude_of}
use Rattle.matrix.specs.Lu.{pivot_turn}
use Rattle.matrix.proofs.lu.pivot_row.Given as goal

abbrev pub invariant-loop-i : goal.invariant-loop-i
invariant-loop-i l =
    (l.m < l.a.n) × (l.max_val ≡ magnitude_of (cell l.a.n l.a.cells.now l.m l.k)) × Turned (l.k + 1) l.a.n (pivot_turn l.a.n l.a.cells.now l.k) (l.k, abs_of (cell l.a.n l.a.cells.now l.k l.k)) l.i (l.m, abs_of (cell l.a.n l.a.cells.now l.m l.k))

abbrev pub decreases-loop-i : goal.decreases-loop-i
decreases-loop-i l = l.a.n - l.i
