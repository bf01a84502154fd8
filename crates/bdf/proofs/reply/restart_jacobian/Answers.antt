-- `reply::restart_jacobian`: its callees one after the other. Assumes nothing.
use Rattle.rules.specs.Reply.{restart_jacobian}
use Rattle.rules.proofs.laws.ReplyLaws.{stored_ready, outdated_ready}
use Rattle.bdf.proofs.reply.restart_jacobian.Goals as goal

pub returns : goal.returns
unfolding restart_jacobian
returns c =
    (outdated_ready (stored_ready c.requires.0 _ c.jacobian.ensures c.jacobian.auto.ws) c.outdated.ensures, rw (← c.jacobian.ensures, ← c.outdated.ensures))
