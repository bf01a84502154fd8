-- `bdf::rescale::m_table`: the invariant and the measure of its loop.
use Rattle.std.specs.Prelude.{◌-◌}
use Rattle.loops.specs.laws.Turned.{Turned}
use Rattle.rules.specs.Rescale.{m_row}
use Rattle.bdf.proofs.rescale.m_table.Given as goal

abbrev pub invariant-loop-i : goal.invariant-loop-i
invariant-loop-i l = Turned 1 l.size (m_row l.factor l.size) l.initial.m l.i l.m

abbrev pub decreases-loop-i : goal.decreases-loop-i
decreases-loop-i l = l.size - l.i
