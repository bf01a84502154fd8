-- `starting::final_guess`: its definition's steps in order. Assumes nothing.
use Rattle.rules.specs.Starting.{final_guess}
use Rattle.bdf.proofs.starting.final_guess.Goals as goal

pub returns : goal.returns
unfolding final_guess
returns c = rw (c.abs-3.ensures, c.signum.ensures, c.min-least.ensures, c.min-2.ensures, c.abs-2.ensures, c.h1.ensures, c.min.ensures, c.max-der12.ensures, c.sqrt-2.ensures, c.abs.ensures, c.sqrt.ensures, c.abs-size.ensures)
