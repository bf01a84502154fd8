-- The main loop's body as far as its first question: the step is fitted between its bounds and to the end, the prediction
-- made, the matrix factored where it must be, and the first Newton derivative asked.
use Rattle.std.specs.Prelude.{List, Bool, true, not, ◌&&◌, ◌||◌, ℕ, zero, suc, ◌+◌, ◌-◌, ◌*◌, leb, Float, Option, Some, None}
use Rattle.std.specs.Float.Ieee
use Rattle.loops.specs.Choice.{when◌then◌else◌}
use Rattle.loops.specs.Cell.{at}
use Rattle.loops.specs.Part.{over}
use Rattle.number.specs.Helpers.{abs_of, max_of}
use Rattle.rules.specs.Types.{Progress, Pace, Aim, Turn, Status, Derivative, End, NeedLargerNMax, StepSizeTooSmall, Success, Ended, NewtonDerivative}
use Rattle.loops.specs.Arithmetic.{◌⊕◌, ◌⊖◌, ◌⊗◌, ◌⊘◌, +0, one}
use Rattle.rules.specs.Literals.{min_positive, tenth, half}
use Rattle.rules.specs.Tables.{alphas}
use Rattle.rules.specs.Rescale.{change_d}
use Rattle.rules.specs.Places.{d, y_predict, y_new, delta, row}
use Rattle.rules.specs.Moves.{copied, filled, loaded}
use Rattle.rules.specs.State.{with_pace, with_aim, with_newton, changed, turn, total+1, lu+1, rejected+1, After, after, Left, left}
use Rattle.rules.specs.Predict.{predict, scaled, psied}
use Rattle.rules.specs.Factor.{Factors, factored}

-- ---- the step's size

-- `change_d(&mut d, order, factor, ..)`, on the rows of D
unfoldable pub rescaled_d : ℕ → ℕ → Float → List Float → List Float
rescaled_d n order factor ws = over (row n (d 0)) (8 * n) (change_d n order factor) ws

-- `if h_try > hmax`
unfoldable pub to_hmax : ℕ → ℕ → Float → Pace → List Float → Left Pace
to_hmax n order hmax pace ws = when Ieee.lt hmax pace.h then left (changed hmax) (rescaled_d n order (hmax ⊘ pace.h) ws) else left pace ws

-- `if h_try < hmin && hmin > 0.0`
unfoldable pub to_hmin : ℕ → ℕ → Float → Pace → List Float → Left Pace
to_hmin n order hmin pace ws =
    when Ieee.lt pace.h hmin && Ieee.lt +0 hmin
    then left (changed hmin) (rescaled_d n order (max_of (hmin ⊘ pace.h) one) ws)
    else left pace ws

-- h_signed, x_start, x_new, and c = h_signed / alpha[order]
abbrev pub aim_at : Float → ℕ → Float → Float → Aim
aim_at direction order x h =
    record {
      h_signed = direction ⊗ h;
      x_start = x;
      x_new = x ⊕ direction ⊗ h;
      c = direction ⊗ h ⊘ at alphas order;
    }

abbrev pub aim_of : Progress → Float → Aim
aim_of p h = aim_at p.span.direction p.order p.x h

-- Where a step leads; `None` where the run is at its end already.
-- A way that leads past xend is cut to what is left of it, which rounding may leave an ulp short or beyond; where nothing is left, the
-- run is at its end
unfoldable pub cut_at_end : Progress → List Float → Left (Option (Pace × Aim))
cut_at_end p ws =
    let step_to_end = abs_of (p.span.xend ⊖ p.x) in
    let factor = step_to_end ⊘ p.pace.h in
    let h = p.pace.h ⊗ factor in
    when Ieee.eq step_to_end +0 then left None ws else left (Some (changed h, aim_of p h)) (rescaled_d p.n p.order factor ws)

unfoldable pub aimed : Progress → List Float → Left (Option (Pace × Aim))
aimed p ws =
    let a = aim_of p p.pace.h in
    when Ieee.lt +0 (p.span.direction ⊗ (a.x_new ⊖ p.span.xend)) then cut_at_end p ws else left (Some (p.pace, a)) ws

-- ---- what an attempt comes to

-- it is rejected, and the next is tried from this state; or it says something: a question, a notice, the end
pub data Tried : Type 0 where
  rejected : Progress → Tried
  says : Turn → Tried

-- what follows it: more from the state of a rejected one, and nothing where something was said
abbrev pub onward : (Progress → List Float → List Float → After Turn) → Tried → List Float → List Float → After Turn
onward more (rejected p) ws q = more p ws q
onward more (says t) ws q = after t ws q

-- the end: its status, and direction * current_h
abbrev pub end : Status → Progress → Turn
end s p = turn (End s (p.span.direction ⊗ p.pace.h)) Ended p

-- a rejection that halves the step: a singular matrix, or a Newton iteration that did not converge
unfoldable pub halved : Progress → List Float → Left Progress
halved p ws = left (rejected+1 (with_pace p (changed (p.pace.h ⊗ half)))) (rescaled_d p.n p.order half ws)

-- ---- the parts of the attempt, last first

-- the vector at row v into the first n places of the question slice
abbrev pub told : ℕ → ℕ → List Float → List Float → List Float
told n v ws q = loaded ws (row n v) 0 n q

-- y_new = y_predict, delta = 0, no iteration yet: the first derivative is asked at x_new
unfoldable pub newton_start : Progress → List Float → List Float → After Tried
newton_start p ws q =
    let n = p.n in
    let w = filled (row n delta) n +0 (copied (row n y_predict) (row n y_new) n ws) in
    after (says (turn (Derivative p.aim.x_new) NewtonDerivative
    (with_newton p (record { iters = 0; prev = +0; safety = +0; error_norm = +0 })))) w (told n y_new w q)

-- `!lu_is_current || (c - current_c).abs() / c.abs().max(1.0) > 0.1`
unfoldable pub must_factor : Progress → Bool
must_factor p =
    not p.pace.lu_is_current ||
    Ieee.lt tenth (abs_of (p.aim.c ⊖ p.current_c) ⊘ max_of (abs_of p.aim.c) one)

-- after a factoring that succeeded: one more was made, these are its pivots, it is current, and current_c is the c that it is of
abbrev pub factored_from : Progress → Factors → Progress
factored_from p f =
    record {
      n = p.n;
      limits = p.limits;
      span = p.span;
      evals = (lu+1 p).evals;
      steps = p.steps;
      order = p.order;
      x = p.x;
      pace = record { h = p.pace.h; equal_steps = p.pace.equal_steps; lu_is_current = true };
      aim = p.aim;
      current_c = p.aim.c;
      newton = p.newton;
      pivot = f.pivot;
    }

-- after one that failed: one more was made, and its pivots stand
abbrev pub singular_from : Progress → Factors → Progress
singular_from p f =
    record {
      n = p.n;
      limits = p.limits;
      span = p.span;
      evals = (lu+1 p).evals;
      steps = p.steps;
      order = p.order;
      x = p.x;
      pace = p.pace;
      aim = p.aim;
      current_c = p.current_c;
      newton = p.newton;
      pivot = f.pivot;
    }

unfoldable pub refactored : Progress → List Float → List Float → After Tried
refactored p ws q =
    let f = factored p.n p.aim.c p.pivot ws in
    let s = halved (singular_from p f.is) f.ws in
    when f.is.ok then newton_start (factored_from p f.is) f.ws q else after (rejected s.is) s.ws q

-- the prediction, its scale and psi
unfoldable pub predicted_all : ℕ → ℕ → List Float → List Float
predicted_all n order ws = psied n order (scaled n y_predict (predict n order ws))

unfoldable pub attempt_at : Progress → List Float → List Float → After Tried
attempt_at p ws q =
    let w = predicted_all p.n p.order ws in
    when must_factor p then refactored p w q else newton_start p w q

-- the test against stagnation, which ends the run before the attempt is counted
unfoldable pub unless_stuck : Progress → List Float → List Float → After Tried
unless_stuck p ws q =
    when Ieee.eq (p.x ⊕ tenth ⊗ abs_of p.aim.h_signed) p.x
    then after (says (end StepSizeTooSmall p)) ws q
    else attempt_at (total+1 p) ws q

abbrev pub headed : Progress → Option (Pace × Aim) → List Float → List Float → After Tried
headed p None ws q = after (says (end Success p)) ws q
headed p (Some (pace, aim)) ws q = unless_stuck (with_aim (with_pace p pace) aim) ws q

-- the step between its bounds
unfoldable pub fitted : Progress → List Float → Left Pace
fitted p ws =
    let a = to_hmax p.n p.order p.span.hmax p.pace ws in
    to_hmin p.n p.order p.span.hmin a.is a.ws

unfoldable pub fitted_attempt : Progress → List Float → List Float → After Tried
fitted_attempt p ws q =
    let f = fitted p ws in
    let a = aimed (with_pace p f.is) f.ws in
    headed (with_pace p f.is) a.is a.ws q

-- the body of 'main_loop, with its two tests
unfoldable pub attempt : Progress → List Float → List Float → After Tried
attempt p ws q =
    when leb p.limits.steps p.steps.total then after (says (end NeedLargerNMax p)) ws q
    else when Ieee.lt p.pace.h min_positive then after (says (end StepSizeTooSmall p)) ws q
    else fitted_attempt p ws q

-- ---- 'main_loop: attempts until one says something

-- k attempts at most. Each that is rejected was counted, so that limit - total + 1 are enough, and the first clause is never met
-- (`main_loop_turn`, proofs/laws/MainLoopLaws.antt: the loop is an attempt, and the same again where it was rejected)
unfoldable pub tries : ℕ → Progress → List Float → List Float → After Turn
tries zero p ws q = after (end NeedLargerNMax p) ws q
tries (suc k) p ws q =
    let a = attempt p ws q in
    onward (tries k) a.is a.ws a.q

abbrev pub attempts_left : Progress → ℕ
attempts_left p = (p.limits.steps - p.steps.total) + 1

unfoldable pub main_loop : Progress → List Float → List Float → After Turn
main_loop p ws q = tries (attempts_left p) p ws q

-- what an attempt leaves to do: the loop again, or nothing
abbrev pub rest : Tried → List Float → List Float → After Turn
rest t ws q = onward main_loop t ws q
