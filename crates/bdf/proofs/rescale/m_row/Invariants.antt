-- `bdf::rescale::m_row`: the invariant and the measure of its loop.
use Rattle.std.specs.Prelude.{◌-◌}
use Rattle.loops.specs.laws.Turned.{Turned}
use Rattle.rules.specs.Rescale.{m_turn}
use Rattle.bdf.proofs.rescale.m_row.Given as goal

abbrev pub invariant-loop-j : goal.invariant-loop-j
invariant-loop-j l = Turned 1 l.size (m_turn l.factor l.i) l.initial.m l.j l.m

abbrev pub decreases-loop-j : goal.decreases-loop-j
decreases-loop-j l = l.size - l.j
