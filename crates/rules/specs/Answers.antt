-- Which kind an answer is: a question (derivative or Jacobian), a notice (start or step), the end, or a refusal. And how much of
-- the question slice it writes.
use Rattle.std.specs.Prelude.{◌≡◌, Bool, true, false, ◌||◌, ℕ, ◌*◌}
use Rattle.rules.specs.Types.{Answer, Derivative, Jacobian, Start, Step, End, Refused, Success, UserInterrupt, NeedLargerNMax, StepSizeTooSmall}

-- ---- the six kinds

abbrev pub is_derivative : Answer → Bool
is_derivative (Derivative x) = true
is_derivative (Jacobian x) = false
is_derivative (Start x) = false
is_derivative (Step old new start h) = false
is_derivative (End status h) = false
is_derivative (Refused why) = false

abbrev pub is_jacobian : Answer → Bool
is_jacobian (Derivative x) = false
is_jacobian (Jacobian x) = true
is_jacobian (Start x) = false
is_jacobian (Step old new start h) = false
is_jacobian (End status h) = false
is_jacobian (Refused why) = false

abbrev pub is_start : Answer → Bool
is_start (Derivative x) = false
is_start (Jacobian x) = false
is_start (Start x) = true
is_start (Step old new start h) = false
is_start (End status h) = false
is_start (Refused why) = false

abbrev pub is_step : Answer → Bool
is_step (Derivative x) = false
is_step (Jacobian x) = false
is_step (Start x) = false
is_step (Step old new start h) = true
is_step (End status h) = false
is_step (Refused why) = false

abbrev pub is_end : Answer → Bool
is_end (Derivative x) = false
is_end (Jacobian x) = false
is_end (Start x) = false
is_end (Step old new start h) = false
is_end (End status h) = true
is_end (Refused why) = false

abbrev pub is_refused : Answer → Bool
is_refused (Derivative x) = false
is_refused (Jacobian x) = false
is_refused (Start x) = false
is_refused (Step old new start h) = false
is_refused (End status h) = false
is_refused (Refused why) = true

-- ---- kinds taken together

abbrev pub is_question : Answer → Bool
is_question a = is_derivative a || is_jacobian a

abbrev pub is_notice : Answer → Bool
is_notice a = is_start a || is_step a

-- all but the end and the refusals
abbrev pub is_question_or_notice : Answer → Bool
is_question_or_notice a = is_question a || is_notice a

abbrev pub NoticeOrEnd : Answer → Type 0
NoticeOrEnd a = (is_notice a || is_end a) ≡ true

-- the end, where its status is Success
abbrev pub is_success : Answer → Bool
is_success (Derivative x) = false
is_success (Jacobian x) = false
is_success (Start x) = false
is_success (Step old new start h) = false
is_success (End Success h) = true
is_success (End UserInterrupt h) = false
is_success (End NeedLargerNMax h) = false
is_success (End StepSizeTooSmall h) = false
is_success (Refused why) = false

-- ---- the question slice

-- how many of its places an answer of a run of n components writes: the state asked about or told, and on a step's notice the
-- coefficients after it
abbrev pub written : ℕ → Answer → ℕ
written n (Derivative x) = n
written n (Jacobian x) = n
written n (Start x) = n
written n (Step old new start h) = 8 * n
written n (End status h) = 0
written n (Refused why) = 0
