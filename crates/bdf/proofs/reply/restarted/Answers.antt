-- `reply::restarted`: its callees one after the other. Assumes nothing.
use Rattle.rules.specs.Reply.{restarted}
use Rattle.bdf.proofs.reply.restarted.Goals as goal

pub returns : goal.returns
unfolding restarted
returns c = rw (← c.row.ensures, ← c.load.ensures, ← c.differences.ensures) c.ask.ensures
