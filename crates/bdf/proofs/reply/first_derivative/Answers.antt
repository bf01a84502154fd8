-- `reply::first_derivative`: its callees one after the other. Assumes nothing.
use Rattle.rules.specs.Reply.{first_derivative}
use Rattle.bdf.proofs.reply.first_derivative.Goals as goal

pub returns : goal.returns
unfolding first_derivative
returns c = rw (← c.row.ensures, ← c.load.ensures) c.ask.ensures
