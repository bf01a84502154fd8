-- `matrix::lu::stages`: the invariant and the measure of its loop.
use mathlib.Core.Path.{◌≡◌}
use Prim.Native.Nat.{◌-◌, ◌*◌, ◌≤◌}
use lib.ListN.{length}
use Rattle.matrix.specs.Lu.{stages_of}
use Rattle.matrix.proofs.lu.stages.Given as goal

abbrev pub invariant-loop-k : goal.invariant-loop-k
invariant-loop-k l =
    (length l.a ≡ l.n * l.n) × (length l.ip ≡ l.n) × (l.k ≤ l.n - 1) × (stages_of l.n (l.n - 1 - l.k) l.k l.a l.ip ≡ stages_of l.n (l.n - 1) 0 l.initial.a l.initial.ip)

abbrev pub decreases-loop-k : goal.decreases-loop-k
decreases-loop-k l = l.n - l.k
