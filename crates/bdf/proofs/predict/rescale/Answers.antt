-- `predict::rescale`: the scale takes that of each component. Assumes nothing.
use Rattle.std.proofs.Common.{rules}
use Rattle.rules.specs.Predict.{scale_at, scale_turn, scaled}
use Rattle.bdf.proofs.predict.rescale.Goals as goal

pub returns : goal.returns
unfolding scaled scale_turn
returns c = c.set_row.ensures (λ w i. scale_at c.args.n w c.args.v i) (λ w i x says. search rules)
