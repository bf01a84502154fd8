-- `reply::differences`: its callees one after the other. Assumes nothing.
use Rattle.rules.specs.Reply.{differences}
use Rattle.bdf.proofs.reply.differences.Goals as goal

pub returns : goal.returns
unfolding differences
returns c =
    rw (c.first_difference.ensures, c.copy.ensures, c.row-3.ensures, c.row-2.ensures, c.fill.ensures, c.row.ensures)
