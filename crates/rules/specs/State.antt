-- 'The same but for': a run's state with one group of it changed, and the counters one higher.
use Rattle.std.specs.Prelude.{List, false, ℕ, ◌+◌, Float}
use Rattle.rules.specs.Types.{Evals, Steps, Pace, Aim, Newton, Progress, Turn, Answer, Awaited}

-- ---- one group another

abbrev pub with_evals : Progress → Evals → Progress
with_evals p evals =
    record {
      n = p.n;
      limits = p.limits;
      span = p.span;
      evals = evals;
      steps = p.steps;
      order = p.order;
      x = p.x;
      pace = p.pace;
      aim = p.aim;
      current_c = p.current_c;
      newton = p.newton;
      pivot = p.pivot;
    }

abbrev pub with_steps : Progress → Steps → Progress
with_steps p steps =
    record {
      n = p.n;
      limits = p.limits;
      span = p.span;
      evals = p.evals;
      steps = steps;
      order = p.order;
      x = p.x;
      pace = p.pace;
      aim = p.aim;
      current_c = p.current_c;
      newton = p.newton;
      pivot = p.pivot;
    }

abbrev pub with_pace : Progress → Pace → Progress
with_pace p pace =
    record {
      n = p.n;
      limits = p.limits;
      span = p.span;
      evals = p.evals;
      steps = p.steps;
      order = p.order;
      x = p.x;
      pace = pace;
      aim = p.aim;
      current_c = p.current_c;
      newton = p.newton;
      pivot = p.pivot;
    }

abbrev pub with_aim : Progress → Aim → Progress
with_aim p aim =
    record {
      n = p.n;
      limits = p.limits;
      span = p.span;
      evals = p.evals;
      steps = p.steps;
      order = p.order;
      x = p.x;
      pace = p.pace;
      aim = aim;
      current_c = p.current_c;
      newton = p.newton;
      pivot = p.pivot;
    }

abbrev pub with_newton : Progress → Newton → Progress
with_newton p newton =
    record {
      n = p.n;
      limits = p.limits;
      span = p.span;
      evals = p.evals;
      steps = p.steps;
      order = p.order;
      x = p.x;
      pace = p.pace;
      aim = p.aim;
      current_c = p.current_c;
      newton = newton;
      pivot = p.pivot;
    }

-- at another x and order
abbrev pub with_x : Progress → Float → Progress
with_x p x =
    record {
      n = p.n;
      limits = p.limits;
      span = p.span;
      evals = p.evals;
      steps = p.steps;
      order = p.order;
      x = x;
      pace = p.pace;
      aim = p.aim;
      current_c = p.current_c;
      newton = p.newton;
      pivot = p.pivot;
    }

abbrev pub with_order : Progress → ℕ → Progress
with_order p order =
    record {
      n = p.n;
      limits = p.limits;
      span = p.span;
      evals = p.evals;
      steps = p.steps;
      order = order;
      x = p.x;
      pace = p.pace;
      aim = p.aim;
      current_c = p.current_c;
      newton = p.newton;
      pivot = p.pivot;
    }

-- ---- the counters
abbrev pub ode+1 : Progress → Progress
ode+1 p = with_evals p (record { ode = p.evals.ode + 1; jac = p.evals.jac; lu = p.evals.lu; start = p.evals.start })

abbrev pub jac+1 : Progress → Progress
jac+1 p = with_evals p (record { ode = p.evals.ode; jac = p.evals.jac + 1; lu = p.evals.lu; start = p.evals.start })

abbrev pub lu+1 : Progress → Progress
lu+1 p = with_evals p (record { ode = p.evals.ode; jac = p.evals.jac; lu = p.evals.lu + 1; start = p.evals.start })

-- the automatic start has asked its derivative, once in a run
abbrev pub start_asked : Progress → Progress
start_asked p = with_evals p (record { ode = p.evals.ode; jac = p.evals.jac; lu = p.evals.lu; start = 1 })

abbrev pub total+1 : Progress → Progress
total+1 p = with_steps p (record { total = p.steps.total + 1; accepted = p.steps.accepted; rejected = p.steps.rejected })

abbrev pub accepted+1 : Progress → Progress
accepted+1 p = with_steps p (record { total = p.steps.total; accepted = p.steps.accepted + 1; rejected = p.steps.rejected })

abbrev pub rejected+1 : Progress → Progress
rejected+1 p = with_steps p (record { total = p.steps.total; accepted = p.steps.accepted; rejected = p.steps.rejected + 1 })

-- the step size after a change of it: no steps of equal size, and the factoring is out of date
abbrev pub changed : Float → Pace
changed h = record { h = h; equal_steps = 0; lu_is_current = false }

-- a turn: an answer, and the state that waits for its reply
abbrev pub turn : Answer → Awaited → Progress → Turn
turn a w p = record { answer = a; run = record { awaited = w; at = p } }

-- what a stage leaves: its result, the workspace and the question slice
pub record After (A : Type 0) : Type 0 where
  pub is : A
  pub ws : List Float
  pub q : List Float

abbrev pub after : {A : Type 0} → A → List Float → List Float → After A
after a ws q = record { is = a; ws = ws; q = q }

-- the same for a stage that writes no question
pub record Left (A : Type 0) : Type 0 where
  pub is : A
  pub ws : List Float

abbrev pub left : {A : Type 0} → A → List Float → Left A
left a ws = record { is = a; ws = ws }
