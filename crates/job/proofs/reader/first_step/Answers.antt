-- `reader::first_step` meets its contract: the two ways of the code are the two of the definition. Assumes nothing.
use Rattle.std.proofs.Common.{arith}
use Rattle.std.proofs.lemmas.Grind.{common_steps}
use Rattle.loops.specs.Choice.{when◌then◌else◌}
use Rattle.job.specs.Reading.{first_step_of}
use Rattle.job.proofs.reader.first_step.Goals as goal

pub returns-then-f : goal.returns-then-f
unfolding first_step_of when◌then◌else◌
returns-then-f c = grind (arith, common_steps)

pub returns-else-f : goal.returns-else-f
unfolding first_step_of when◌then◌else◌
returns-else-f c = grind (arith, common_steps)
