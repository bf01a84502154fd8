-- `matrix::lu::exchange_rows`: the invariant and the measure of its loop.
use mathlib.Core.Path.{◌≡◌}
use Prim.Native.Nat.{◌-◌, ◌*◌}
use lib.ListN.{length}
use Rattle.loops.specs.laws.Turned.{Turned}
use Rattle.matrix.specs.Lu.{exchanged_of}
use Rattle.matrix.proofs.lu.exchange_rows.Given as goal

abbrev pub invariant-loop-j : goal.invariant-loop-j
invariant-loop-j l = (length l.a ≡ l.n * l.n) × Turned l.k l.n (exchanged_of l.n l.m l.k) l.initial.a l.j l.a

abbrev pub decreases-loop-j : goal.decreases-loop-j
decreases-loop-j l = l.n - l.j
