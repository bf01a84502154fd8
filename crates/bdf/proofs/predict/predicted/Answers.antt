-- `predict::predicted`: the fold is the loop of the definition. Assumes nothing.
use Rattle.std.proofs.Common.{rules, refl}
use Rattle.std.specs.Prelude.{◌+◌}
use Rattle.rules.specs.Predict.{predicted_turn, predicted}
use Rattle.bdf.proofs.FoldLaws.{folded}
use Rattle.bdf.proofs.predict.predicted.Goals as goal

pub returns : goal.returns
unfolding predicted predicted_turn
returns c = folded _ (predicted_turn c.args.n c.args.ws.now c.args.i) 0 (c.args.order + 1) _ _ _ _ refl (λ sum i b f' called. search rules) c.fold.ensures.ran
