-- What a reply leads to: an end only for a reason, and a state whose x and y are those that the caller knows. Said of single
-- stages by the fields that it is about, so that it stays as it is where another field of the state moves.
use Rattle.std.specs.Prelude.{◌≡◌, List, ◌*◌, ◌≤◌, length, Float}
use Rattle.loops.specs.Arithmetic.{◌⊗◌}
use Rattle.rules.specs.Types.{Progress, Turn, Answer, Derivative, Jacobian, Start, Step, End, Refused, Status, Success, UserInterrupt, NeedLargerNMax, StepSizeTooSmall}
use Rattle.rules.specs.Places.{need, y, vector}
use Rattle.rules.specs.State.{After}
use Rattle.rules.specs.Known.{told_x, told_y, Arrived, Stuck}

-- ---- x and y

-- z and u are the x and v that are known
pub record AsKnown (x : Float) (v : List Float) (z : Float) (u : List Float) : Type 0 where
  pub place : z ≡ x
  pub shows : u ≡ v

-- the state's x and the workspace's y are
abbrev pub Holds : Float → List Float → Progress → List Float → Type 0
Holds x v p ws = AsKnown x v p.x (vector p.n ws y)

-- what a reply finds: attempts within the limit, slices that are long enough, and x and v
pub record Meets (x : Float) (v : List Float) (p : Progress) (ws q : List Float) : Type 0 where
  pub within : p.steps.total ≤ p.limits.steps
  pub long : length ws ≡ need p.n
  pub asks : 8 * p.n ≤ length q
  pub holds : Holds x v p ws

-- ---- the reason

-- of an end at p that tells h, where `Interrupted` says that the caller asked for it
abbrev pub Reason : Type 0 → Progress → Float → Status → Type 0
Reason Interrupted p h Success = Arrived p.span.direction p.span.xend p.x
Reason Interrupted p h UserInterrupt = Interrupted
Reason Interrupted p h NeedLargerNMax = p.limits.steps ≤ p.steps.total
Reason Interrupted p h StepSizeTooSmall = Stuck p.pace.h h p.x

-- an end tells direction * current_h, and has its reason; other answers need none
abbrev pub Because : Type 0 → Progress → Answer → Type 0
Because Interrupted p (Derivative x) = Unit
Because Interrupted p (Jacobian x) = Unit
Because Interrupted p (Start x) = Unit
Because Interrupted p (Step old new start h) = Unit
Because Interrupted p (End status h) = (h ≡ p.span.direction ⊗ p.pace.h) × Reason Interrupted p h status
Because Interrupted p (Refused why) = Unit

-- ---- both: what a stage leads to, where x and v were known before its answer

pub record Leads (Interrupted : Type 0) (x : Float) (v : List Float) (t : After Turn) : Type 0 where
  pub because : Because Interrupted t.is.run.at t.is.answer
  pub holds : Holds (told_x t.is.answer x) (told_y t.is.run.at.n t.is.answer t.q v) t.is.run.at t.ws
