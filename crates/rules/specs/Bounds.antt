-- How many questions and notices an exchange has at most: demand 3's figure with T and A at the step limit.
use Rattle.std.specs.Prelude.{ℕ, ◌+◌, ◌*◌, max}
use Rattle.rules.specs.Calls.{Configuration}

-- m the Newton limit, 0 read as 1
abbrev pub m : Configuration → ℕ
m c = max c.settings.newton_maxiter 1

-- 6 + (m + 1)T + 2A, with T and A the step limit
abbrev pub most : Configuration → ℕ
most c = 6 + (m c + 1) * c.settings.max_steps + 2 * c.settings.max_steps
