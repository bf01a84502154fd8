-- The checks of a beginning, in the order of their numbers: the workspace and the question slice (2, 3), the tolerances (4, 5),
-- the limits (6, 7), the first step (8).
use Rattle.std.specs.Prelude.{List, Bool, true, ◌&&◌, ◌||◌, ℕ, zero, suc, ◌+◌, ◌*◌, leb, ltb, eqb, length, Float, Option, Some, None, Result, Ok, Err, ⊤}
use Rattle.std.specs.Float.Ieee
use Rattle.loops.specs.Choice.{when◌then◌else◌}
use Rattle.loops.specs.Cell.{at}
use Rattle.rules.specs.Types.{Tolerance, Scalar, Vector, Relative, Absolute, WorkspaceShort, QuestionShort, ToleranceShort, NegativeTolerance, NoSteps, LimitTooLarge, ZeroFirstStep, Refusal}
use Rattle.loops.specs.Arithmetic.{+0}
use Rattle.rules.specs.Places.{need}
use Rattle.rules.specs.declared.settings.BDF.{BDF}

-- ---- tolerances

-- rtol[i]: the one number, or entry i
abbrev pub entry : Tolerance → List Float → ℕ → Float
entry (Scalar t) values i = t
entry Vector values i = at values i

-- whether there is an entry for each of n components
abbrev pub reaches : Tolerance → List Float → ℕ → Bool
reaches (Scalar t) values n = true
reaches Vector values n = leb n (length values)

-- the first negative one from index i on, `left` indexes to go; per index the relative one first
unfoldable pub negative : Tolerance → List Float → Tolerance → List Float → ℕ → ℕ → Result ⊤ Refusal
negative r rs a als zero i = Ok tt
negative r rs a als (suc left) i =
    when Ieee.lt (entry r rs i) +0 then Err (NegativeTolerance Relative i (entry r rs i))
    else when Ieee.lt (entry a als i) +0 then Err (NegativeTolerance Absolute i (entry a als i))
    else negative r rs a als left (i + 1)

-- ---- the checks: `Ok` where one passes, and else what it refuses

abbrev pub zero_step : Option Float → Float → Result ⊤ Refusal
zero_step None direction = Ok tt
zero_step (Some h) direction = when Ieee.eq h +0 then Err (ZeroFirstStep h direction) else Ok tt

-- checks 6 to 8
unfoldable pub limited : BDF → Float → Result ⊤ Refusal
limited s direction =
    when eqb s.max_steps 0 then Err NoSteps
    else when (ltb 1000000 s.max_steps || ltb 64 s.newton_maxiter) then Err LimitTooLarge
    else zero_step s.first_step direction

-- the first of two checks that refuses
abbrev pub or_else : Result ⊤ Refusal → Result ⊤ Refusal → Result ⊤ Refusal
or_else (Ok tt) b = b
or_else (Err r) b = Err r

-- checks 4 to 8
unfoldable pub tolerances_checked : BDF → ℕ → Float → Tolerance → List Float → Tolerance → List Float → Result ⊤ Refusal
tolerances_checked s n direction r rs a als =
    when reaches r rs n && reaches a als n then or_else (negative r rs a als n 0) (limited s direction) else Err ToleranceShort

-- checks 2 to 8, for n above 0
unfoldable pub checked : BDF → ℕ → Float → Tolerance → List Float → Tolerance → List Float → ℕ → ℕ → Result ⊤ Refusal
checked s n direction r rs a als room questions =
    when ltb room (need n) then Err WorkspaceShort
    else when ltb questions (8 * n) then Err QuestionShort
    else tolerances_checked s n direction r rs a als
