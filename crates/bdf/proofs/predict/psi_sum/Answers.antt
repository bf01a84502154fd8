-- `predict::psi_sum`: the fold is the loop of the definition. Assumes nothing.
use Rattle.std.proofs.Common.{rules, refl}
use Rattle.std.specs.Prelude.{◌+◌}
use Rattle.rules.specs.Predict.{psi_sum_turn, psi_sum}
use Rattle.bdf.proofs.FoldLaws.{folded}
use Rattle.bdf.proofs.predict.psi_sum.Goals as goal

pub returns : goal.returns
unfolding psi_sum psi_sum_turn
returns c = folded _ (psi_sum_turn c.args.n c.args.ws.now c.args.i) 1 (c.args.order + 1) _ _ _ _ refl (λ sum i b f' called. search rules) c.fold.ensures.ran
