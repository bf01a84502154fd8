-- `reply::modified`: the new state is stored, and the derivative there asked. Assumes nothing.
use Rattle.rules.specs.Reply.{modified}
use Rattle.bdf.proofs.reply.modified.Goals as goal

pub returns : goal.returns
unfolding modified
returns c = let stored = rw c.row.ensures at c.load.ensures in rw (← stored) c.ask.ensures
