-- When a Newton iteration has a norm before it to go by: from the second one on, and where that norm is above 0.
use Rattle.std.specs.Prelude.{◌≡◌, true, false, ℕ, ◌≤◌, ◌<◌, ltb, Float}
use Rattle.std.specs.Float.Ieee
use Rattle.std.proofs.Common.{lt-ltb, le-ltb}
use Rattle.loops.specs.laws.ChoiceLaws.{and_passes, and_fails}
use Rattle.loops.specs.Arithmetic.{+0}
use Rattle.rules.specs.Newton.{follows}

pub follows_on : (iters : ℕ) (prev : Float) → 0 < iters → Ieee.lt +0 prev ≡ true → follows iters prev ≡ true
follows_on iters prev later above = and_passes (lt-ltb 0 iters later) above

pub follows_never : (iters : ℕ) (prev : Float) → Ieee.lt +0 prev ≡ false → follows iters prev ≡ false
follows_never iters prev below = and_fails (ltb 0 iters) (λ _. below)

pub follows_none : (iters : ℕ) (prev : Float) → iters ≤ 0 → follows iters prev ≡ false
follows_none iters prev first = rw (le-ltb 0 iters first)
