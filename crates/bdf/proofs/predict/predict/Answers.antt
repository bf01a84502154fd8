-- `predict::predict`: y_predict takes the sum of the differences. Assumes nothing.
use Rattle.std.proofs.Common.{rules}
use Rattle.rules.specs.Predict.{predicted, predict_turn, predict}
use Rattle.bdf.proofs.predict.predict.Goals as goal

pub returns : goal.returns
unfolding predict predict_turn
returns c = c.set_row.ensures (λ w i. predicted c.args.n w c.args.order i) (λ w i x says. search rules)
