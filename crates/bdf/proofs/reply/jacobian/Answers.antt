-- `reply::jacobian`: the values are stored, and counted. Assumes nothing.
use Rattle.rules.specs.Reply.{jacobian_stored}
use Rattle.bdf.proofs.reply.jacobian.Goals as goal

pub returns : goal.returns
unfolding jacobian_stored
returns c = rw c.load.ensures
