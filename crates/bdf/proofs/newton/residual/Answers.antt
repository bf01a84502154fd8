-- `newton::residual`: the right side takes what is left of it. Assumes nothing.
use Rattle.std.proofs.Common.{rules}
use Rattle.loops.specs.Arithmetic.{◌⊖◌, ◌⊗◌}
use Rattle.rules.specs.Places.{psi, delta, rhs, get}
use Rattle.rules.specs.Newton.{residual_turn, residual}
use Rattle.bdf.proofs.newton.residual.Goals as goal

pub returns : goal.returns
unfolding residual residual_turn
returns c = c.set_row.ensures (λ w i. c.args.c ⊗ get c.args.n w rhs i ⊖ get c.args.n w psi i ⊖ get c.args.n w delta i) (λ w i x says. search rules)
