-- `attempt::fitted_attempt`: the step is fitted and aimed, and what that came to decides. Assumes nothing.
use Rattle.rules.specs.Attempt.{fitted_attempt}
use Rattle.bdf.proofs.attempt.fitted_attempt.Goals as goal

pub returns-in_default : goal.returns-in_default
unfolding fitted_attempt
returns-in_default c = rw (← c.fit-p.ensures, ← c.aim.ensures, c.in_default.is, c.end.ensures)

pub returns : goal.returns
unfolding fitted_attempt
returns c = rw (← c.fit-p.ensures, ← c.aim.ensures, c.in-Some.is) c.unless_stuck.ensures
