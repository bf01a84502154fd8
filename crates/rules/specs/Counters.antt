-- The counters of a run in which nothing was done yet, as the Rust's `Evals::new` and `Steps::new` make them, and `start` besides.
use Rattle.rules.specs.Types.{Evals, Steps}

-- no derivative, no Jacobian, no factoring, none for the start
abbrev pub no_evals : Evals
no_evals = record { ode = 0; jac = 0; lu = 0; start = 0 }

-- no attempt, none accepted, none rejected
abbrev pub no_steps : Steps
no_steps = record { total = 0; accepted = 0; rejected = 0 }
