-- `judge::accept`: its stages one after the other. Assumes nothing.
use Rattle.rules.specs.Judge.{accepted_ws}
use Rattle.bdf.proofs.judge.accept.Goals as goal

pub returns : goal.returns
unfolding accepted_ws
returns c = rw (c.sum_up.ensures, c.newest.ensures, c.copy.ensures, c.row.ensures, c.row-2.ensures) at c.prepare.ensures
