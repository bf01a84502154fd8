-- `reply::failed_turn`: its callees one after the other. The attempt under way was not rejected before, so it may be now. Assumes nothing.
use Rattle.std.proofs.Common.{◌∙◌}
use Rattle.rules.specs.Reply.{failed_turn}
use Rattle.rules.proofs.laws.ReplyLaws.{stored_ready, halved_ready}
use Rattle.bdf.proofs.reply.failed_turn.Goals as goal

pub halve-requires : goal.halve-requires
halve-requires c =
    let ready = stored_ready c.requires.0 _ c.jacobian.ensures c.jacobian.auto.ws in
    (ready.room, ready.sane)

pub returns : goal.returns
unfolding failed_turn
returns c =
    (halved_ready c.requires.0 c.requires.1 _ c.jacobian.ensures c.halve.ensures (c.halve.auto.ws ∙ c.jacobian.auto.ws), rw (← c.jacobian.ensures, ← c.halve.ensures))
