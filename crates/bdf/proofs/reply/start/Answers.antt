-- `reply::start`: its callees one after the other. Assumes nothing.
use Rattle.rules.specs.Reply.{started}
use Rattle.bdf.proofs.reply.start.Goals as goal

pub returns : goal.returns
unfolding started
returns c = rw (c.changed-p.ensures, c.tell.ensures, c.differences.ensures, c.min-h.ensures, c.max.ensures)
