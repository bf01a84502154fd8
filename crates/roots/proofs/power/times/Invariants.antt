-- `roots::power::times`: the invariant and the measure of its loop.
use Prim.Native.Nat.{◌-◌}
use Rattle.roots.proofs.power.Multiplied.{Multiplied}
use Rattle.roots.proofs.power.times.Given as goal

abbrev pub invariant-loop-i : goal.invariant-loop-i
invariant-loop-i l = Multiplied l.low l.high l.initial.a l.a l.carry l.last l.i

abbrev pub decreases-loop-i : goal.decreases-loop-i
decreases-loop-i l = 14 - l.i
