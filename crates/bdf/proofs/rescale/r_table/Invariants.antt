-- `bdf::rescale::r_table`: the invariant and the measure of its loop.
use Rattle.std.specs.Prelude.{◌-◌}
use Rattle.loops.specs.laws.Turned.{Turned}
use Rattle.rules.specs.Rescale.{r_row}
use Rattle.bdf.proofs.rescale.r_table.Given as goal

abbrev pub invariant-loop-i : goal.invariant-loop-i
invariant-loop-i l = Turned 1 l.size (r_row l.m l.size) l.initial.r l.i l.r

abbrev pub decreases-loop-i : goal.decreases-loop-i
decreases-loop-i l = l.size - l.i
