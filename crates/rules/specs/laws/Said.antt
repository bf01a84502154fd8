-- What an attempt and the main loop can come to, whatever the floats are.
use Rattle.std.specs.Prelude.{◌≡◌, true, ◌⊎◌, ℕ, ◌+◌, ◌≤◌, ◌<◌}
use Rattle.std.specs.Float.Ieee
use Rattle.number.specs.Helpers.{abs_of}
use Rattle.rules.specs.Types.{Progress, Turn, Status, Derivative, Success, UserInterrupt, NeedLargerNMax, StepSizeTooSmall, NewtonDerivative}
use Rattle.loops.specs.Arithmetic.{◌⊕◌, ◌⊖◌, ◌⊗◌, +0}
use Rattle.rules.specs.Literals.{min_positive, tenth}
use Rattle.rules.specs.State.{turn}
use Rattle.rules.specs.Attempt.{Tried, rejected, says, end}
use Rattle.rules.specs.laws.Moved.{Moved}

-- why the main loop ended: nothing is left of the way; the attempts are used up; the step is below the least number, or too
-- small to move x. It never ends as interrupted
abbrev pub Cause : Status → Progress → Type 0
Cause Success p = Ieee.eq (abs_of (p.span.xend ⊖ p.x)) +0 ≡ true
Cause UserInterrupt p = ⊥
Cause NeedLargerNMax p = p.limits.steps ≤ p.steps.total
Cause StepSizeTooSmall p =
    (Ieee.lt p.pace.h min_positive ≡ true) ⊎ (Ieee.eq (p.x ⊕ tenth ⊗ abs_of p.aim.h_signed) p.x ≡ true)

-- what the main loop says after k attempts from p that were rejected: its end, or the first Newton derivative of one attempt
-- more. No other counter moved, and there are never more attempts than the limit
pub data Said (p : Progress) (t : Turn) : Type 0 where
  ends :
      {k : ℕ} (s : Status) → t ≡ end s t.run.at → Cause s t.run.at → t.run.at.steps.total ≤ p.limits.steps →
      Moved p t.run.at 0 0 k k 0 k p.order → Said p t
  asks :
      {k : ℕ} → t ≡ turn (Derivative t.run.at.aim.x_new) NewtonDerivative t.run.at → t.run.at.newton.iters ≡ 0 →
      t.run.at.steps.total ≤ p.limits.steps → Moved p t.run.at 0 0 (1 + k) (1 + k) 0 k p.order → Said p t

-- a rejected attempt: it was counted, so there was one left, and factored at most once
pub record Rejected (p r : Progress) : Type 0 where
  pub had : p.steps.total < p.limits.steps
  pub moved : Moved p r 0 0 1 1 0 1 p.order

-- an attempt is rejected, or says something
abbrev pub Tries : Progress → Tried → Type 0
Tries p (rejected r) = Rejected p r
Tries p (says t) = Said p t
