-- `roots::power::at_most_power`: the invariant and the measure of its loop.
use Prim.Native.Nat.{◌-◌, ◌*◌, ◌^◌, ◌≤◌}
use Rattle.roots.proofs.power.Rows.{Writes}
use Rattle.roots.proofs.power.at_most_power.Given as goal

abbrev pub invariant-loop : goal.invariant-loop
invariant-loop l = (l.counter ≤ l.k) × Writes l.product (l.m ^ l.counter * l.n)

abbrev pub decreases-loop : goal.decreases-loop
decreases-loop l = l.k - l.counter
