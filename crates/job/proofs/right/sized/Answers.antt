-- `right::sized` meets its contract: the code's tests are those of the definition, in its order. Assumes nothing.
use Rattle.std.proofs.Common.{arith}
use Rattle.std.proofs.lemmas.Grind.{common_steps}
use Rattle.job.specs.Right.{sized_of}
use Rattle.job.proofs.right.sized.Goals as goal

pub returns-then-cells-n : goal.returns-then-cells-n
unfolding sized_of
returns-then-cells-n c = grind (arith, common_steps)

pub returns-else-cells-n : goal.returns-else-cells-n
unfolding sized_of
returns-else-cells-n c = grind (arith, common_steps)
