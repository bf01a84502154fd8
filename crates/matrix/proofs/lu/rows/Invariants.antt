-- `matrix::lu::rows`: the invariant and the measure of its loop.
use mathlib.Core.Path.{◌≡◌}
use Prim.Native.Nat.{◌+◌, ◌-◌, ◌*◌}
use lib.ListN.{length}
use Rattle.loops.specs.laws.Turned.{Turned}
use Rattle.matrix.specs.Rows.{row_turn, Zeros}
use Rattle.matrix.proofs.lu.rows.Given as goal

abbrev pub invariant-loop-i : goal.invariant-loop-i
invariant-loop-i l = (length l.a ≡ l.n * l.n) × Turned (l.k + 1) l.n (row_turn l.n l.k l.t) l.initial.a l.i l.a × Zeros l.n l.k l.end l.a

abbrev pub decreases-loop-i : goal.decreases-loop-i
decreases-loop-i l = l.n - l.i
