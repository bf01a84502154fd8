-- The lines that a job's run prints, as bytes: a letter, fields one space apart, a newline. Counts are in decimal; a double is
-- the 16 upper-case hexadecimal digits of its pattern, and every NaN is 7FF8000000000000 (`text`'s `decimal` and `hexadecimal`).
use Rattle.std.specs.Prelude.{List, [], ◌∷◌, ◌++◌, ℕ, Float}
use Rattle.text.specs.Digits.{decimal, hexadecimal}
use Rattle.lines.specs.Types.{Status, Success, UserInterrupt, NeedLargerNMax, StepSizeTooSmall, Steps, Evals}

-- each field after a space, which is 32
unfoldable pub spaced : List (List ℕ) → List ℕ
spaced [] = []
spaced (f ∷ fs) = 32 ∷ (f ++ spaced fs)

-- a line: its letter, its fields, and its end, which is 10
unfoldable pub line : ℕ → List (List ℕ) → List ℕ
line letter fs = letter ∷ (spaced fs ++ (10 ∷ []))

-- a field for each double
unfoldable pub hexes : List Float → List (List ℕ)
hexes [] = []
hexes (x ∷ xs) = hexadecimal x ∷ hexes xs

-- `I`, x, each y
abbrev pub start_line : Float → List Float → List ℕ
start_line x y = line 73 (hexes (x ∷ y))

-- `S`, the new x, each y
abbrev pub step_line : Float → List Float → List ℕ
step_line x y = line 83 (hexes (x ∷ y))

abbrev pub status_of : Status → ℕ
status_of Success = 0
status_of UserInterrupt = 1
status_of NeedLargerNMax = 2
status_of StepSizeTooSmall = 3

abbrev pub status_fields : Status → Float → List (List ℕ)
status_fields status h = decimal (status_of status) ∷ hexadecimal h ∷ []

abbrev pub steps_fields : Steps → List (List ℕ)
steps_fields steps = decimal steps.total ∷ decimal steps.accepted ∷ decimal steps.rejected ∷ []

abbrev pub evals_fields : Evals → List (List ℕ)
evals_fields evals = decimal evals.ode ∷ decimal evals.jac ∷ decimal evals.lu ∷ decimal evals.start ∷ []

-- the status by its number, h, and the counters
abbrev pub end_fields : Status → Float → Steps → Evals → List (List ℕ)
end_fields status h steps evals = status_fields status h ++ (steps_fields steps ++ evals_fields evals)

-- `E`
abbrev pub end_line : Status → Float → Steps → Evals → List ℕ
end_line status h steps evals = line 69 (end_fields status h steps evals)

-- `R` and the number of the refusal
abbrev pub refusal_line : ℕ → List ℕ
refusal_line number = line 82 (decimal number ∷ [])
