-- `form::form_read` meets its contract: each refusal is the definition's, in the same order. Assumes nothing.
use Rattle.std.proofs.Common.{arith, sym, ◌∙◌}
use Rattle.std.proofs.lemmas.Grind.{common_steps}
use Rattle.loops.specs.Choice.{when◌then◌else◌}
use Rattle.job.specs.Reading.{head_read, form_read}
use Rattle.job.specs.laws.ReadingLaws.{accepted_length}
use Rattle.job.proofs.form.form_read.Goals as goal

pub returns-then-s-lt-HEAD : goal.returns-then-s-lt-HEAD
unfolding form_read head_read when◌then◌else◌
returns-then-s-lt-HEAD c = grind (arith, common_steps)

pub returns-then-h-gt-MAX_N : goal.returns-then-h-gt-MAX_N
unfolding form_read head_read when◌then◌else◌
returns-then-h-gt-MAX_N c = grind (arith, common_steps)

pub returns-then-not-accepted : goal.returns-then-not-accepted
unfolding form_read head_read when◌then◌else◌
returns-then-not-accepted c = grind (arith, common_steps)

pub returns : goal.returns
unfolding form_read head_read when◌then◌else◌
returns c = grind (arith, common_steps)

pub form_of-requires : goal.form_of-requires
form_of-requires c = let long = accepted_length _ _ (sym c.accepted.ensures ∙ c.if-not-accepted.false) in omega arith
