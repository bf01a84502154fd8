-- `form::accepted` meets its contract: the code's tests are those of the definition, in its order. Assumes nothing.
use Rattle.std.proofs.Common.{arith}
use Rattle.std.proofs.lemmas.Grind.{common_steps}
use Rattle.job.specs.Reading.{accepted_of}
use Rattle.job.proofs.form.accepted.Goals as goal

pub returns-then-not-h : goal.returns-then-not-h
unfolding accepted_of
returns-then-not-h c = grind (arith, common_steps)

pub returns-else-not-h : goal.returns-else-not-h
unfolding accepted_of
returns-else-not-h c = grind (arith, common_steps)

pub returns-else-h-eq0 : goal.returns-else-h-eq0
unfolding accepted_of
returns-else-h-eq0 c = grind (arith, common_steps)
