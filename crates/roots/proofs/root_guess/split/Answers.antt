-- `roots::root_guess::split` meets its contract: a quotient rounded up, times the divisor, passes the dividend by less than the divisor.
-- Assumes nothing.
use Rattle.std.proofs.Common.{◌≡◌, ℕ, ◌+◌, ◌*◌, ◌≤◌, ◌<◌, arith}
use Rattle.std.proofs.lemmas.Grind.{div_ceil_times}
use Rattle.std.specs.Prelude.{◌/◌, ◌%◌, min}
use Rattle.roots.proofs.root_guess.split.Goals as goal

rounded_up : (d k : ℕ) {q : ℕ} → q ≡ d / k + min 1 (d % k) → 1 ≤ k → (d ≤ k * q) × (k * q < d + k)
rounded_up d k e h = let t = div_ceil_times d k h in (rw e (omega (arith, t)), rw e (omega (arith, t)))

pub overflow_mul-rest : goal.overflow_mul-rest
overflow_mul-rest c = record { fits = omega (arith, rounded_up _ _ c.div_ceil-places.ensures c.requires.0) }

pub overflow_sub-rest : goal.overflow_sub-rest
overflow_sub-rest c = (rounded_up _ _ c.div_ceil-places.ensures c.requires.0).0
