-- `starting::within_span`: the test of its definition, both ways. Assumes nothing.
use Rattle.loops.specs.Choice.{when◌then◌else◌}
use Rattle.rules.specs.Starting.{within_span}
use Rattle.bdf.proofs.starting.within_span.Goals as goal

pub returns-then-abs-max_h : goal.returns-then-abs-max_h
unfolding within_span when◌then◌else◌
returns-then-abs-max_h c = rw (← c.abs-max_h.ensures, ← c.abs.ensures, c.if-abs-max_h.true, c.abs-then-abs-max_h.ensures)

pub returns-else-abs-max_h : goal.returns-else-abs-max_h
unfolding within_span when◌then◌else◌
returns-else-abs-max_h c = rw (← c.abs-max_h.ensures, ← c.abs.ensures, c.if-abs-max_h.false, c.abs-else-abs-max_h.ensures)
