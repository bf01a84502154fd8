-- `starting::squares`: the fold is the loop of the definition. Assumes nothing.
use Rattle.std.proofs.Common.{rules, refl}
use Rattle.rules.specs.Starting.{squares_turn, squares}
use Rattle.bdf.proofs.FoldLaws.{folded}
use Rattle.bdf.proofs.starting.squares.Goals as goal

pub returns : goal.returns
unfolding squares squares_turn
returns c = folded _ (squares_turn c.args.n c.args.v c.args.ws.now) 0 c.args.n _ _ _ _ refl (λ sum i b f' called. search rules) c.fold.ensures.ran
