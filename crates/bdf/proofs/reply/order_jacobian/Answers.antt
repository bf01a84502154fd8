-- `reply::order_jacobian`: its callees one after the other. Assumes nothing.
use Rattle.rules.specs.Reply.{order_jacobian}
use Rattle.rules.proofs.laws.ReplyLaws.{stored_ready}
use Rattle.bdf.proofs.reply.order_jacobian.Goals as goal

pub returns : goal.returns
unfolding order_jacobian
returns c =
    (stored_ready c.requires.0 _ c.jacobian.ensures c.jacobian.auto.ws, rw (← c.jacobian.ensures))
