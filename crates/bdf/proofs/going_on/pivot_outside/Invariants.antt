-- `bdf::going_on::pivot_outside`: the invariant of its loop.
use Rattle.std.proofs.Common.{◌-◌, false}
use Rattle.loops.specs.laws.Turned.{Turned}
use Rattle.rules.specs.GoOn.{pivot_turn}
use Rattle.bdf.proofs.going_on.pivot_outside.Given as goal

abbrev pub invariant-loop-k : goal.invariant-loop-k
invariant-loop-k l = Turned 0 (l.n - 1) (pivot_turn l.n l.pivot) false l.k-index false
