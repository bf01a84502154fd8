-- `beginning::newton_tol` goes by the same test as its definition. Assumes nothing.
use Rattle.loops.specs.Choice.{when◌then◌else◌}
use Rattle.rules.specs.Begin.{newton_tol_val}
use Rattle.bdf.proofs.beginning.newton_tol.Goals as goal

pub returns-then-t : goal.returns-then-t
unfolding newton_tol_val when◌then◌else◌
returns-then-t c = rw (← c.derived_tol.ensures, ← c.unwrap_or-t.ensures, c.if-t.true)

pub returns-else-t : goal.returns-else-t
unfolding newton_tol_val when◌then◌else◌
returns-else-t c = rw (← c.derived_tol.ensures, ← c.unwrap_or-t.ensures, c.if-t.false)
