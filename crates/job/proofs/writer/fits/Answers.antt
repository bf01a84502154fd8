-- `writer::fits` meets its contract: the code's tests are those of the definition, in its order. Assumes nothing.
use Rattle.std.proofs.Common.{arith}
use Rattle.std.proofs.lemmas.Grind.{common_steps}
use Rattle.job.specs.Writing.{fits_of}
use Rattle.job.proofs.writer.fits.Goals as goal

pub returns-then-not-f : goal.returns-then-not-f
unfolding fits_of
returns-then-not-f c = grind (arith, common_steps)

pub returns-else-not-f : goal.returns-else-not-f
unfolding fits_of
returns-else-not-f c = grind (arith, common_steps)

pub returns-else-f-lt128 : goal.returns-else-f-lt128
unfolding fits_of
returns-else-f-lt128 c = grind (arith, common_steps)
