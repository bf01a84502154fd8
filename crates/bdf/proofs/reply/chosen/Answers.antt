-- `reply::chosen`: by whether the order changed; either way the state is ready with the new one. Assumes nothing.
use borrow.Author.Tests.{eq-eqb, ne_eqb}
use Rattle.loops.specs.Choice.{when◌then◌else◌}
use Rattle.rules.specs.Reply.{chosen}
use Rattle.rules.proofs.laws.ReplyLaws.{ordered_ready}
use Rattle.bdf.proofs.reply.chosen.Goals as goal

pub returns-then-c-before : goal.returns-then-c-before
unfolding chosen when◌then◌else◌
returns-then-c-before c =
    (ordered_ready _ _ c.requires.0 c.requires.1 c.requires.2 c.rescale_d.auto.ws, rw (← c.rescale_d.ensures, eq-eqb _ _ c.if-c-before.true, c.changed-p.ensures))

pub returns : goal.returns
unfolding chosen when◌then◌else◌
returns c =
    (tt, rw (← c.rescale_d.ensures, ne_eqb _ _ c.if-c-before.false, ← c.changed-p.ensures) c.ask.ensures)
