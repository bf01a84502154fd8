-- `reply::ordered`: its callees one after the other. The order chosen is one of 1 to 5. Assumes nothing.
use Rattle.std.proofs.Common.{◌∙◌}
use Rattle.rules.proofs.laws.ReadyLaws.{room_kept}
use Rattle.rules.proofs.laws.OrderLaws.{choice_within}
use Rattle.rules.specs.Reply.{ordered}
use Rattle.bdf.proofs.reply.ordered.Goals as goal

pub chosen-requires : goal.chosen-requires
chosen-requires c =
    let sane = c.requires.sane in
    let within = choice_within _ _ _ _ _ c.choose-c.ensures sane.first sane.fifth in
    (record { room = room_kept c.requires.room (c.err_p-a.auto.ws ∙ c.err_m-m.auto.ws); asks = c.requires.asks; sane = sane }, within.0, within.1)

pub returns : goal.returns
unfolding ordered
returns c =
    (c.chosen.ensures.0, rw (← c.err_m-m.ensures, ← c.err_p-a.ensures, ← c.choose-c.ensures) c.chosen.ensures.1)
