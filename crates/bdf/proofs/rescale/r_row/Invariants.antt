-- `bdf::rescale::r_row`: the invariant and the measure of its loop.
use Rattle.std.specs.Prelude.{◌-◌}
use Rattle.loops.specs.laws.Turned.{Turned}
use Rattle.rules.specs.Rescale.{r_turn}
use Rattle.bdf.proofs.rescale.r_row.Given as goal

abbrev pub invariant-loop-j : goal.invariant-loop-j
invariant-loop-j l = Turned 0 l.size (r_turn l.m l.i) l.initial.r l.j l.r

abbrev pub decreases-loop-j : goal.decreases-loop-j
decreases-loop-j l = l.size - l.j
