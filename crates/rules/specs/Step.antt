-- What follows a Newton derivative's reply: another iteration, a new Jacobian where Newton gave up, a rejected step, or an
-- accepted one and its notice.
use Rattle.std.specs.Prelude.{List, Bool, ◌&&◌, ◌||◌, ℕ, ◌+◌, ◌*◌, eqb, Float}
use Rattle.std.specs.Float.Ieee
use Rattle.loops.specs.Choice.{when◌then◌else◌}
use Rattle.loops.specs.Cell.{at}
use Rattle.number.specs.Helpers.{max_of}
use Rattle.roots.specs.Roots.{inverse_root}
use Rattle.rules.specs.Types.{Progress, Pace, Newton, Derivative, Jacobian, Step, NewtonDerivative, FailedJacobian, StepNotice}
use Rattle.loops.specs.Arithmetic.{◌⊖◌, ◌⊗◌, one}
use Rattle.rules.specs.Literals.{min_factor, half}
use Rattle.rules.specs.Tables.{error_consts}
use Rattle.rules.specs.Places.{delta, y, y_new, y_predict, cont, row}
use Rattle.rules.specs.Moves.{loaded}
use Rattle.rules.specs.State.{with_pace, with_newton, turn, ode+1, accepted+1, rejected+1, After, after, Left, left}
use Rattle.rules.specs.Predict.{scaled}
use Rattle.rules.specs.Newton.{correction, advanced, converged, gave_up}
use Rattle.rules.specs.Norm.{rhs_norm}
use Rattle.rules.specs.Judge.{safety_of, weighed, accepted_ws}
use Rattle.rules.specs.Attempt.{rescaled_d, told, Tried, rejected, says}

-- ---- the judgement of a step

abbrev pub is_guarded : Progress → Bool
is_guarded p = eqb p.limits.guarded 1

-- `error_norm > 1.0`; in a guarded run a norm that is NaN fails too (02 §8)
unfoldable pub error_fails : Bool → Float → Bool
error_fails guarded norm = Ieee.lt one norm || (guarded && Ieee.is_nan norm)

-- what a rejection for its error leaves of the step: safety times root, at least MIN_FACTOR; or one half, where the norm is NaN
unfoldable pub error_factor : ℕ → Float → Float → Float
error_factor order safety norm = when Ieee.is_nan norm then half else max_of (safety ⊗ inverse_root (order + 1) norm) min_factor

-- a rejection for its error: the factoring is kept
unfoldable pub error_rejected : Progress → Float → Float → List Float → Left Tried
error_rejected p safety norm ws =
    let factor = error_factor p.order safety norm in
    let pace : Pace = record { h = p.pace.h ⊗ factor; equal_steps = 0; lu_is_current = p.pace.lu_is_current } in
    left (rejected (rejected+1 (with_pace p pace))) (rescaled_d p.n p.order factor ws)

-- x = x_new, one equal step more; safety and the error's norm stay for the choice of order
abbrev pub accepted_from : Progress → Float → Float → Progress
accepted_from p safety norm =
    record {
      n = p.n;
      limits = p.limits;
      span = p.span;
      evals = p.evals;
      steps = (accepted+1 p).steps;
      order = p.order;
      x = p.aim.x_new;
      pace = record { h = p.pace.h; equal_steps = p.pace.equal_steps + 1; lu_is_current = p.pace.lu_is_current };
      aim = p.aim;
      current_c = p.current_c;
      newton = record { iters = p.newton.iters; prev = p.newton.prev; safety = safety; error_norm = norm };
      pivot = p.pivot;
    }

-- the notice: the reported old x is x - h_signed, the interpolant's start is x_start; y, then the coefficients
unfoldable pub step_accepted : Progress → Float → Float → List Float → List Float → After Tried
step_accepted p safety norm ws q =
    let n = p.n in
    let w = accepted_ws n p.order ws in
    let a = p.aim in
    after (says (turn (Step (a.x_new ⊖ a.h_signed) a.x_new a.x_start a.h_signed) StepNotice (accepted_from p safety norm)))
    w (loaded w (row n cont) n (7 * n) (told n y w q))

-- rhs = error_const[order] * delta, over the scale of y_new. (The Rust tests scale for 0 once more here, where it is not 0.)
unfoldable pub error_ws : ℕ → ℕ → List Float → List Float
error_ws n order ws = weighed n (at error_consts order) delta (scaled n y_new ws)

unfoldable pub judged : Progress → List Float → List Float → After Tried
judged p ws q =
    let w = error_ws p.n p.order ws in
    let norm = rhs_norm p.n w in
    let safety = safety_of p.limits.newton p.newton.iters in
    let e = error_rejected p safety norm w in
    when error_fails (is_guarded p) norm then after e.is e.ws q else step_accepted p safety norm w q

-- ---- the iteration

-- Newton did not converge: the Jacobian is asked at x_new and the prediction
unfoldable pub newton_failed : Progress → List Float → List Float → After Tried
newton_failed p ws q = after (says (turn (Jacobian p.aim.x_new) FailedJacobian p)) ws (told p.n y_predict ws q)

unfoldable pub newton_again : Progress → Float → List Float → List Float → After Tried
newton_again p norm ws q =
    let g : Newton = record { iters = p.newton.iters + 1; prev = norm; safety = p.newton.safety; error_norm = p.newton.error_norm } in
    after (says (turn (Derivative p.aim.x_new) NewtonDerivative (with_newton p g))) ws (told p.n y_new ws q)

-- by the tests on the correction's norm; y_new and delta are advanced before any of them
unfoldable pub iterated : Progress → Float → List Float → List Float → After Tried
iterated p norm ws q =
    when converged p.span.newton_tol p.newton.iters p.newton.prev norm then judged p ws q
    else when gave_up p.span.newton_tol p.limits.newton p.newton.iters p.newton.prev norm then newton_failed p ws q
    else newton_again p norm ws q

unfoldable pub newton_replied : Progress → List Float → List Float → List Float → After Tried
newton_replied p values ws q =
    let w = correction p.n p.aim.c p.pivot values ws in
    iterated (ode+1 p) (rhs_norm p.n w) (advanced p.n w) q
