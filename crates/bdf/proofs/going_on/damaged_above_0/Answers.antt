-- `going_on::damaged_above_0` goes through the list of damage. Assumes nothing.
use Rattle.std.proofs.Common.{arith}
use Rattle.std.proofs.lemmas.Bool.Decides.{nat_tests}
use Rattle.rules.specs.GoOn.{damaged_above0}
use Rattle.bdf.proofs.going_on.damaged_above_0.Goals as goal

pub returns-then-counters_damaged : goal.returns-then-counters_damaged
unfolding damaged_above0
returns-then-counters_damaged c = grind (arith, nat_tests)

pub returns-then-awaits_newton : goal.returns-then-awaits_newton
unfolding damaged_above0
returns-then-awaits_newton c = grind (arith, nat_tests)

pub returns-else-awaits_newton : goal.returns-else-awaits_newton
unfolding damaged_above0
returns-else-awaits_newton c = grind (arith, nat_tests)
