-- `starting::second`: the fold is the loop of the definition. Assumes nothing.
use Rattle.std.proofs.Common.{rules, refl}
use Rattle.rules.specs.Starting.{second_turn, second}
use Rattle.bdf.proofs.FoldLaws.{folded}
use Rattle.bdf.proofs.starting.second.Goals as goal

pub returns : goal.returns
unfolding second second_turn
returns c = folded _ (second_turn c.args.n c.args.ws.now) 0 c.args.n _ _ _ _ refl (λ sum i b f' called. search rules) c.fold.ensures.ran
