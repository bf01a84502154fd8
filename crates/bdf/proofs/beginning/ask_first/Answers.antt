-- `beginning::ask_first`: the workspace laid out, and y told. Assumes nothing.
use Rattle.rules.specs.Begin.{ask_first}
use Rattle.bdf.proofs.beginning.ask_first.Goals as goal

pub returns : goal.returns
unfolding ask_first
returns c =
    rw (← c.lay.ensures, c.tell.ensures)
