-- `attempt::newton_start`: its callees one after the other. Assumes nothing.
use Rattle.std.proofs.Common.{rules}
use Rattle.rules.specs.Attempt.{newton_start}
use Rattle.bdf.proofs.attempt.newton_start.Goals as goal

pub returns : goal.returns
unfolding newton_start
returns c =
    rw (c.tell.ensures, c.fill.ensures, c.row-3.ensures, c.copy.ensures, c.row-2.ensures, c.row.ensures)
    (search rules)
