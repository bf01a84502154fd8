-- `norm::sum_of_squares`: the fold is the loop of the definition. Assumes nothing.
use Rattle.std.proofs.Common.{rules, refl}
use Rattle.rules.specs.Norm.{square_turn, sum_of_squares}
use Rattle.bdf.proofs.FoldLaws.{folded}
use Rattle.bdf.proofs.norm.sum_of_squares.Goals as goal

pub returns : goal.returns
unfolding sum_of_squares square_turn
returns c = folded _ (square_turn c.args.n c.args.ws.now) 0 c.args.n _ _ _ _ refl (λ sum i b f' called. search rules) c.fold.ensures.ran
