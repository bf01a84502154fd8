-- `starting::guess`: the first guess of the two sums. Assumes nothing.
use Rattle.rules.specs.Starting.{guess}
use Rattle.bdf.proofs.starting.guess.Goals as goal

pub returns : goal.returns
unfolding guess
returns c = rw (c.squares.ensures, c.squares-2.ensures) at c.first_guess.ensures
