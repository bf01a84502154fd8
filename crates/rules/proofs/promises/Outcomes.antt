-- What is bought beside the run: how the two questions to a status differ, and that a run begins with new counters.
use Rattle.std.specs.Prelude.{◌≡◌, refl, Bool, true, false, ◌||◌, ℕ, Float}
use Rattle.rules.specs.Types.{Status, Success, UserInterrupt, NeedLargerNMax, StepSizeTooSmall, End, Limits, Span}
use Rattle.rules.specs.Answers.{is_success}
use Rattle.rules.specs.Statuses.{is_success_of, reached_of}
use Rattle.rules.specs.Counters.{no_evals, no_steps}
use Rattle.rules.specs.Begin.{fresh}

-- ---- Status

abbrev pub is_interrupt : Status → Bool
is_interrupt Success = false
is_interrupt UserInterrupt = true
is_interrupt NeedLargerNMax = false
is_interrupt StepSizeTooSmall = false

-- an interrupt is what `is_success` says true of besides
pub success_is_reached_or_interrupted : (status : Status) → is_success_of status ≡ (reached_of status || is_interrupt status)
success_is_reached_or_interrupted Success = refl
success_is_reached_or_interrupted UserInterrupt = refl
success_is_reached_or_interrupted NeedLargerNMax = refl
success_is_reached_or_interrupted StepSizeTooSmall = refl

-- `reached` says true just of the answer that ends a run with Success
pub reached_is_success : (status : Status) (h : Float) → reached_of status ≡ is_success (End status h)
reached_is_success Success h = refl
reached_is_success UserInterrupt h = refl
reached_is_success NeedLargerNMax h = refl
reached_is_success StepSizeTooSmall h = refl

-- ---- Evals, Steps

pub run_begins_with_new_counters :
    (n : ℕ) (limits : Limits) (span : Span) (x : Float) → ((fresh n limits span x).evals ≡ no_evals) × ((fresh n limits span x).steps ≡ no_steps)
run_begins_with_new_counters n limits span x = (refl, refl)
