-- `newton::power`: the fold is the loop of the definition. Assumes nothing.
use Rattle.std.proofs.Common.{rules, refl}
use Rattle.rules.specs.Newton.{power_turn, power}
use Rattle.bdf.proofs.FoldLaws.{folded}
use Rattle.bdf.proofs.newton.power.Goals as goal

pub returns : goal.returns
unfolding power power_turn
returns c = folded _ (power_turn c.args.x) 0 c.args.k _ _ _ _ refl (λ sum i b f' called. search rules) c.fold.ensures.ran
