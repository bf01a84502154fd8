-- `roots::root_quick::upper`: the invariant and the measure of its loop.
use Prim.Native.Nat.{◌-◌, ◌*◌, ◌^◌, ◌≤◌}
use Rattle.roots.specs.Quick.{Near}
use Rattle.roots.proofs.root_quick.upper.Given as goal

abbrev pub invariant-loop : goal.invariant-loop
invariant-loop l = (l.counter ≤ l.k) × Near ((l.m * 2 ^ 10) ^ l.counter * (l.n * 2 ^ 11)) l.counter l.h

abbrev pub decreases-loop : goal.decreases-loop
decreases-loop l = l.k - l.counter
