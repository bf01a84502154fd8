-- `writer::judged` meets its contract: the refusals are the definition's, in its order. Assumes nothing.
use Rattle.std.proofs.Common.{arith}
use Rattle.std.proofs.lemmas.Grind.{common_steps}
use Rattle.loops.specs.Choice.{when◌then◌else◌}
use Rattle.job.specs.Writing.{judged_of}
use Rattle.job.proofs.writer.judged.Goals as goal

pub returns-then-f-gt-MAX_N : goal.returns-then-f-gt-MAX_N
unfolding judged_of when◌then◌else◌
returns-then-f-gt-MAX_N c = grind (arith, common_steps)

pub returns-then-not-fits : goal.returns-then-not-fits
unfolding judged_of when◌then◌else◌
returns-then-not-fits c = grind (arith, common_steps)

pub returns : goal.returns
unfolding judged_of when◌then◌else◌
returns c = grind (arith, common_steps)
