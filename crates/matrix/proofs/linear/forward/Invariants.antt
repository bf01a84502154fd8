-- `matrix::linear::forward`: the invariant and the measure of its loop.
use mathlib.Core.Path.{◌≡◌}
use Prim.Native.Nat.{◌-◌}
use lib.ListN.{length}
use Rattle.loops.specs.laws.Turned.{Turned}
use Rattle.matrix.specs.Linear.{forward_turn}
use Rattle.matrix.proofs.linear.forward.Given as goal

abbrev pub invariant-loop-k : goal.invariant-loop-k
invariant-loop-k l = (length l.b ≡ l.a.n) × Turned 0 (l.a.n - 1) (forward_turn l.a.n l.a.cells.now l.ip) l.initial.b l.k l.b

abbrev pub decreases-loop-k : goal.decreases-loop-k
decreases-loop-k l = l.a.n - l.k
