-- `reply::hinit_replied`: its callees one after the other. Assumes nothing.
use Rattle.rules.specs.Reply.{hinit_replied}
use Rattle.bdf.proofs.reply.hinit_replied.Goals as goal

pub returns : goal.returns
unfolding hinit_replied
returns c = rw (← c.row.ensures, ← c.load.ensures, ← c.hinit-g.ensures, ← c.within_span-h.ensures) c.start.ensures
