-- `starting::euler`: y1 takes a step of Euler. Assumes nothing.
use Rattle.std.proofs.Common.{rules}
use Rattle.loops.specs.Arithmetic.{◌⊕◌, ◌⊗◌}
use Rattle.rules.specs.Places.{y, f0, get}
use Rattle.rules.specs.Starting.{euler_turn, euler}
use Rattle.bdf.proofs.starting.euler.Goals as goal

pub returns : goal.returns
unfolding euler euler_turn
returns c = c.set_row.ensures (λ w i. get c.args.n w y i ⊕ c.args.h ⊗ get c.args.n w f0 i) (λ w i x says. search rules)
