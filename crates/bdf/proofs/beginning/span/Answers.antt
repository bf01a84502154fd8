-- `beginning::span`: each field by its own call. Assumes nothing.
use Rattle.rules.specs.Begin.{span_of}
use Rattle.bdf.proofs.beginning.span.Goals as goal

pub returns : goal.returns
unfolding span_of
returns c = rw (c.newton_tol.ensures, c.abs-3.ensures, c.unwrap_or-2.ensures, c.abs-2.ensures, c.unwrap_or.ensures, c.abs.ensures, c.signum.ensures)
