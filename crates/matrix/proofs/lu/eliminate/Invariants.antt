-- `matrix::lu::eliminate`: the invariant and the measure of its loop.
use mathlib.Core.Path.{◌≡◌}
use Prim.Native.Nat.{◌+◌, ◌-◌, ◌*◌}
use lib.ListN.{length}
use Rattle.loops.specs.Cell.{cell}
use Rattle.loops.specs.laws.Turned.{Turned}
use Rattle.matrix.specs.Rows.{cell_turn, Zeros}
use Rattle.matrix.proofs.lu.eliminate.Given as goal

abbrev pub invariant-loop-j : goal.invariant-loop-j
invariant-loop-j l = (length l.a ≡ l.n * l.n) × (cell l.n l.a l.i l.k ≡ l.l) × Turned (l.k + 1) l.n (cell_turn l.n l.k l.i) l.initial.a l.j l.a × Zeros l.n l.k l.end l.a

abbrev pub decreases-loop-j : goal.decreases-loop-j
decreases-loop-j l = l.end - l.j
