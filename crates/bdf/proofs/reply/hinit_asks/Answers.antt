-- `reply::hinit_asks`: its callees one after the other. Assumes nothing.
use Rattle.rules.specs.Reply.{hinit_asks}
use Rattle.bdf.proofs.reply.hinit_asks.Goals as goal

pub returns : goal.returns
unfolding hinit_asks
returns c = rw (c.tell.ensures, c.euler.ensures, c.guess-h.ensures)
