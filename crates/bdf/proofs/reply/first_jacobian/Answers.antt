-- `reply::first_jacobian`: its callees one after the other. Assumes nothing.
use Rattle.rules.specs.Reply.{first_jacobian}
use Rattle.rules.proofs.laws.ReplyLaws.{stored_ready}
use Rattle.bdf.proofs.reply.first_jacobian.Goals as goal

pub first_step-requires : goal.first_step-requires
first_step-requires c =
    let ready = stored_ready c.requires.0 _ c.jacobian.ensures c.jacobian.auto.ws in
    (ready.room, ready.asks)

pub returns : goal.returns
unfolding first_jacobian
returns c = rw (← c.jacobian.ensures) c.first_step.ensures
