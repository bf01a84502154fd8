-- `starting::hinit`: the final guess of its parts. Assumes nothing.
use Rattle.rules.specs.Starting.{hinit}
use Rattle.bdf.proofs.starting.hinit.Goals as goal

pub returns : goal.returns
unfolding hinit
returns c = rw (c.guess-h.ensures, c.second.ensures, c.squares.ensures) at c.final_guess.ensures
