-- What the definitions give at the last line of docs/JOB-FORMAT.md's job of one step, and at a refusal, by computation.
use Rattle.std.specs.Prelude.{◌≡◌, refl, false, [], ◌∷◌, negsuc}
use Rattle.std.specs.Float.{fin}
use Rattle.std.specs.Float.Ieee.{to_bits}
use Rattle.loops.specs.Choice.{when◌then◌else◌}
use Rattle.text.specs.Digits.{digit, spelled, places_within}
use Rattle.lines.specs.Types.{NeedLargerNMax}
use Rattle.lines.specs.Lines.{spaced, line, end_line, refusal_line}

-- `E 2 3FE0000000000000 1 1 0 2 1 1 0`, the end of the example with max_steps 1
pub example_end : end_line NeedLargerNMax (fin false 1 (negsuc 0)) (record { total = 1; accepted = 1; rejected = 0 }) (record { ode = 2; jac = 1; lu = 1; start = 0 })
    ≡ 69 ∷ 32 ∷ 50 ∷ 32 ∷ 51 ∷ 70 ∷ 69 ∷ 48 ∷ 48 ∷ 48 ∷ 48 ∷ 48 ∷ 48 ∷ 48 ∷ 48 ∷ 48 ∷ 48 ∷ 48 ∷ 48 ∷ 48 ∷ 32 ∷ 49 ∷ 32 ∷ 49 ∷ 32 ∷ 48 ∷ 32 ∷ 50 ∷ 32 ∷ 49 ∷ 32 ∷ 49 ∷ 32 ∷ 48 ∷ 10 ∷ []
unfolding line spaced spelled places_within digit when◌then◌else◌ to_bits
example_end = refl

-- `R 17`
pub refused_17 : refusal_line 17 ≡ 82 ∷ 32 ∷ 49 ∷ 55 ∷ 10 ∷ []
unfolding line spaced spelled places_within digit when◌then◌else◌
refused_17 = refl
