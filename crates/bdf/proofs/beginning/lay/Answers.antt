-- `beginning::lay`: zeros, then the three vectors, each in its row of the 33. Assumes nothing.
use Rattle.rules.specs.Begin.{begin_ws}
use Rattle.bdf.proofs.beginning.lay.Goals as goal

pub returns : goal.returns
unfolding begin_ws
returns c =
    rw (c.lay-2.ensures, c.row-4.ensures, c.lay.ensures, c.row-3.ensures, c.load.ensures, c.row-2.ensures, c.fill.ensures, c.row.ensures)
