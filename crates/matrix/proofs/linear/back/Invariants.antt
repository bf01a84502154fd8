-- `matrix::linear::back`: the invariant and the measure of its loop.
use mathlib.Core.Path.{◌≡◌}
use Prim.Native.Nat.{◌-◌}
use lib.ListN.{length}
use Rattle.loops.specs.laws.Turned.{Turned}
use Rattle.matrix.specs.Linear.{back_turn}
use Rattle.matrix.proofs.linear.back.Given as goal

abbrev pub invariant-loop-kb : goal.invariant-loop-kb
invariant-loop-kb l = (length l.b ≡ l.a.n) × Turned 1 l.a.n (back_turn l.a.n l.a.cells.now) l.initial.b l.kb l.b

abbrev pub decreases-loop-kb : goal.decreases-loop-kb
decreases-loop-kb l = l.a.n - l.kb
