-- `reply::step_jacobian`: its callees one after the other. Assumes nothing.
use Rattle.rules.specs.Reply.{step_jacobian}
use Rattle.rules.proofs.laws.ReplyLaws.{stored_ready, outdated_ready}
use Rattle.bdf.proofs.reply.step_jacobian.Goals as goal

pub stepped-requires : goal.stepped-requires
stepped-requires c =
    outdated_ready (stored_ready c.requires.0 _ c.jacobian.ensures c.jacobian.auto.ws) c.outdated.ensures

pub returns : goal.returns
unfolding step_jacobian
returns c =
    (c.stepped.ensures.0, rw (← c.jacobian.ensures, ← c.outdated.ensures) c.stepped.ensures.1)
