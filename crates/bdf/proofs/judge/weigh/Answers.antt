-- `judge::weigh`: the right side takes k times the vector. Assumes nothing.
use Rattle.std.proofs.Common.{rules}
use Rattle.loops.specs.Arithmetic.{◌⊗◌}
use Rattle.rules.specs.Places.{get}
use Rattle.rules.specs.Judge.{weigh_turn, weighed}
use Rattle.bdf.proofs.judge.weigh.Goals as goal

pub returns : goal.returns
unfolding weighed weigh_turn
returns c = c.set_row.ensures (λ w i. c.args.k ⊗ get c.args.n w c.args.v i) (λ w i x says. search rules)
