-- `predict::psi`: psi takes the sum over alpha. Assumes nothing.
use Rattle.std.proofs.Common.{rules}
use Rattle.loops.specs.Arithmetic.{◌⊘◌}
use Rattle.loops.specs.Cell.{at}
use Rattle.rules.specs.Tables.{alphas}
use Rattle.rules.specs.Predict.{psi_sum, psi_turn, psied}
use Rattle.bdf.proofs.predict.psi.Goals as goal

pub returns : goal.returns
unfolding psied psi_turn
returns c = c.set_row.ensures (λ w i. psi_sum c.args.n w c.args.order i ⊘ at alphas c.args.order) (λ w i x says. search rules)
