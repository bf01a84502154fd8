-- `going_on::limits_damaged` goes through the bounds one by one. Assumes nothing.
use Rattle.std.proofs.Common.{arith}
use Rattle.std.proofs.lemmas.Bool.Decides.{nat_tests}
use Rattle.rules.specs.GoOn.{limits_damaged}
use Rattle.bdf.proofs.going_on.limits_damaged.Goals as goal

pub returns-then-not-contains : goal.returns-then-not-contains
unfolding limits_damaged
returns-then-not-contains c = grind (arith, nat_tests)

pub returns-else-not-contains : goal.returns-else-not-contains
unfolding limits_damaged
returns-else-not-contains c = grind (arith, nat_tests)
