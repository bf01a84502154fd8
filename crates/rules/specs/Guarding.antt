-- Guarded and unguarded (02 §8): the same configuration with its guard on or off; the judgement of an attempt; and the attempts at which
-- the two can part, those whose error norm is NaN.
use Rattle.std.specs.Prelude.{List, Bool, not, ◌&&◌, take, Float}
use Rattle.std.specs.Float.Ieee
use Rattle.loops.specs.Arithmetic.{◌⊗◌}
use Rattle.rules.specs.Types.{Progress, Run}
use Rattle.rules.specs.Places.{need}
use Rattle.rules.specs.State.{with_pace, rejected+1, After, after}
use Rattle.rules.specs.Norm.{rhs_norm}
use Rattle.rules.specs.Newton.{correction, advanced, converged}
use Rattle.rules.specs.Judge.{safety_of}
use Rattle.rules.specs.Attempt.{Tried, rejected, rescaled_d}
use Rattle.rules.specs.Step.{error_ws}
use Rattle.rules.specs.Answers.{is_refused}
use Rattle.rules.specs.Replies.{awaits_newton}
use Rattle.rules.specs.Calls.{Configuration, Call}
use Rattle.rules.specs.History.{called}

-- the same configuration, guarded or not
abbrev pub guarded_as : Bool → Configuration → Configuration
guarded_as b c =
    record {
      settings = record {
        max_steps = c.settings.max_steps;
        max_step = c.settings.max_step;
        min_step = c.settings.min_step;
        newton_maxiter = c.settings.newton_maxiter;
        newton_tol = c.settings.newton_tol;
        first_step = c.settings.first_step;
        guarded = b;
      };
      x0 = c.x0;
      y0 = c.y0;
      xend = c.xend;
      rtol = c.rtol;
      rtols = c.rtols;
      atol = c.atol;
      atols = c.atols;
    }

-- ---- the judgement of an attempt

-- the error norm that it is judged by, and the safety that its step would be shortened by
abbrev pub judged_norm : Progress → List Float → Float
judged_norm p ws = rhs_norm p.n (error_ws p.n p.order ws)

abbrev pub safety_at : Progress → Float
safety_at p = safety_of p.limits.newton p.newton.iters

-- what a rejection for its error by a factor leaves: the step so much shorter, no steps of equal size, the factoring as it was, one
-- rejection more, and the differences rescaled
abbrev pub rejected_by : Float → Progress → Progress
rejected_by factor p =
    rejected+1 (with_pace p (record { h = p.pace.h ⊗ factor; equal_steps = 0; lu_is_current = p.pace.lu_is_current }))

abbrev pub rejected_after : Float → Progress → List Float → List Float → After Tried
rejected_after factor p ws q = after (rejected (rejected_by factor p)) (rescaled_d p.n p.order factor (error_ws p.n p.order ws)) q

-- ---- an attempt whose error norm is NaN

-- the workspace with the correction that a Newton derivative's reply leads to
abbrev pub corrected : Progress → List Float → List Float → List Float
corrected p values ws = correction p.n p.aim.c p.pivot values ws

-- whether Newton has converged with it, so that the attempt is judged; and the error norm that it is judged by
abbrev pub is_judged : Progress → List Float → List Float → Bool
is_judged p values ws = converged p.span.newton_tol p.newton.iters p.newton.prev (rhs_norm p.n (corrected p values ws))

abbrev pub error_norm : Progress → List Float → List Float → Float
error_norm p values ws = judged_norm p (advanced p.n (corrected p values ws))

-- A reply brings an attempt to its judgement, and the error norm is NaN. Only a Newton derivative's reply brings one there, and none
-- brings more than one
abbrev pub judges_nan : Run → List Float → List Float → Bool
judges_nan run values ws = awaits_newton run.awaited && (is_judged run.at values ws && Ieee.is_nan (error_norm run.at values ws))

-- the same of a call: one that is refused judges nothing
unfoldable pub meets_nan : Run → Call → Bool
meets_nan run call =
    not (is_refused (called run call).answer) && judges_nan run call.values (take (need run.at.n) call.ws)
