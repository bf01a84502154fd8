-- `reply::stepped`: by the two tests of its definition. Assumes nothing.
use borrow.Author.Tests.{lt-ltb, le-ltb}
use Rattle.loops.specs.Choice.{when◌then◌else◌}
use Rattle.rules.specs.Reply.{stepped}
use Rattle.bdf.proofs.reply.stepped.Goals as goal

pub returns-then-p : goal.returns-then-p
unfolding stepped when◌then◌else◌
returns-then-p c = (tt, rw (c.if-p.true, c.end.ensures))

pub returns-then-p-2 : goal.returns-then-p-2
unfolding stepped when◌then◌else◌
returns-then-p-2 c = (c.ordered.ensures.0, rw (c.if-p.false, lt-ltb _ _ c.if-p-2.true) c.ordered.ensures.1)

pub returns : goal.returns
unfolding stepped when◌then◌else◌
returns c = (c.requires, rw (c.if-p.false, le-ltb _ _ c.if-p-2.false))
