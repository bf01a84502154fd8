-- The two questions to a status, that of the Rust and the safe one.
use Rattle.std.specs.Prelude.{Bool, true, false}
use Rattle.rules.specs.Types.{Status, Success, UserInterrupt, NeedLargerNMax, StepSizeTooSmall}

-- the Rust's `is_success`: 'the integration was successful or interrupted by user'
abbrev pub is_success_of : Status → Bool
is_success_of Success = true
is_success_of UserInterrupt = true
is_success_of NeedLargerNMax = false
is_success_of StepSizeTooSmall = false

-- whether the run came to xend: neither its caller nor a limit nor too small a step broke it off
abbrev pub reached_of : Status → Bool
reached_of Success = true
reached_of UserInterrupt = false
reached_of NeedLargerNMax = false
reached_of StepSizeTooSmall = false
