-- A run from one reply to the next answer, by the place in `solve` at which it waited.
use Rattle.std.specs.Prelude.{List, false, ℕ, ◌*◌, ltb, eqb, Float, Option, Some, None}
use Rattle.std.specs.Float.Ieee
use Rattle.loops.specs.Choice.{when◌then◌else◌}
use Rattle.loops.specs.Loop.{loop}
use Rattle.number.specs.Helpers.{abs_of, min_of, max_of}
use Rattle.rules.specs.Types.{Progress, Turn, Reply, Awaited, Values, Continue, Interrupt, Modified, Derivative, Jacobian, Start, Success, UserInterrupt, FirstDerivative, FirstJacobian, StartDerivative, StartNotice, ModifiedStartDerivative, ModifiedStartJacobian, NewtonDerivative, FailedJacobian, StepNotice, ModifiedStepDerivative, ModifiedStepJacobian, OrderJacobian, Ended}
use Rattle.loops.specs.Arithmetic.{◌⊕◌, ◌⊖◌, ◌⊗◌, +0}
use Rattle.rules.specs.Literals.{min_positive}
use Rattle.rules.specs.Places.{d, y, f0, f1, y1, row, get, put}
use Rattle.rules.specs.Moves.{copied, filled, loaded}
use Rattle.rules.specs.State.{with_pace, with_x, with_order, changed, turn, ode+1, jac+1, start_asked, After, after, Left, left}
use Rattle.rules.specs.Starting.{guess, euler, hinit, within_span}
use Rattle.rules.specs.Order.{err_m, err_p, choice_of}
use Rattle.rules.specs.Attempt.{rescaled_d, told, end, halved, onward, main_loop}
use Rattle.rules.specs.Step.{newton_replied}
use Rattle.rules.specs.declared.stages.Choice.{Choice}

-- ---- questions and what is stored of their replies

abbrev pub ask_derivative : Awaited → Progress → List Float → List Float → After Turn
ask_derivative w p ws q = after (turn (Derivative p.x) w p) ws (told p.n y ws q)

abbrev pub ask_jacobian : Awaited → Progress → List Float → List Float → After Turn
ask_jacobian w p ws q = after (turn (Jacobian p.x) w p) ws (told p.n y ws q)

-- the Jacobian's n * n values, stored and counted
unfoldable pub jacobian_stored : Progress → List Float → List Float → Left Progress
jacobian_stored p values ws = left (jac+1 p) (loaded values 0 0 (p.n * p.n) ws)

-- ---- the differences at a start

-- d[1][i] = f0[i] * current_h * direction
unfoldable pub first_turn : ℕ → Float → Float → ℕ → List Float → List Float
first_turn n h direction i ws = put n ws (d 1) i (get n ws f0 i ⊗ h ⊗ direction)

unfoldable pub first_difference : ℕ → Float → Float → List Float → List Float
first_difference n h direction ws = loop 0 n (first_turn n h direction) ws

-- d[0] = y, d[1] = f0 * current_h * direction, the others 0
unfoldable pub differences : ℕ → Float → Float → List Float → List Float
differences n h direction ws =
    first_difference n h direction (copied (row n y) (row n (d 0)) n (filled (row n (d 2)) (6 * n) +0 ws))

-- ---- the start

-- h_abs.min(hmax.max(MIN_POSITIVE)), the differences, and the start notice
unfoldable pub started : Progress → Float → List Float → List Float → After Turn
started p h_abs ws q =
    let h = min_of h_abs (max_of p.span.hmax min_positive) in
    let w = differences p.n h p.span.direction ws in
    after (turn (Start p.x) StartNotice (with_pace p (changed h))) w (told p.n y w q)

-- the derivative that hinit asks: `start` shows it from here on
unfoldable pub hinit_asks : Progress → List Float → List Float → After Turn
hinit_asks p ws q =
    let h = guess p.n p.span.hmax p.span.direction ws in
    let w = euler p.n h ws in
    after (turn (Derivative (p.x ⊕ h)) StartDerivative (start_asked p)) w (told p.n y1 w q)

unfoldable pub first_step : Progress → Option Float → List Float → List Float → After Turn
first_step p None ws q = hinit_asks p ws q
first_step p (Some h) ws q = started p (abs_of h) ws q

-- `ode` does not count this derivative
unfoldable pub hinit_replied : Progress → List Float → List Float → List Float → After Turn
hinit_replied p values ws q =
    let w = loaded values 0 (row p.n f1) p.n ws in
    let g = hinit p.n p.span.hmax p.span.direction w in
    started p (within_span g p.x p.span.xend p.span.direction) w q

-- ---- a modification

-- y takes the caller's values, x the caller's x, and the derivative there is asked
unfoldable pub modified : Awaited → Progress → Float → List Float → List Float → List Float → After Turn
modified w p x values ws q = ask_derivative w (with_x p x) (loaded values 0 (row p.n y) p.n ws) q

-- the run starts anew from there at order 1, and the Jacobian is asked
unfoldable pub restarted : Awaited → Progress → List Float → List Float → List Float → After Turn
restarted w p values ws q =
    let v = loaded values 0 (row p.n f0) p.n ws in
    let u = differences p.n p.pace.h p.span.direction v in
    ask_jacobian w
    (with_pace (with_order (ode+1 p) 1) (record { h = p.pace.h; equal_steps = 0; lu_is_current = p.pace.lu_is_current })) u q

-- the factoring is out of date
abbrev pub outdated : Progress → Progress
outdated p = with_pace p (record { h = p.pace.h; equal_steps = p.pace.equal_steps; lu_is_current = false })

-- ---- the choice of order

-- from the two errors to the new order; where it is another, the Jacobian is asked at x and y
unfoldable pub chosen : Progress → Choice → List Float → List Float → After Turn
chosen p c ws q =
    let w = rescaled_d p.n c.order c.factor ws in
    let next = with_pace (with_order p c.order) (changed (p.pace.h ⊗ c.factor)) in
    when eqb c.order p.order then main_loop next w q else ask_jacobian OrderJacobian next w q

unfoldable pub ordered : Progress → List Float → List Float → After Turn
ordered p ws q =
    let m = err_m p.n p.order ws in
    let a = err_p p.n p.order m.ws in
    chosen p (choice_of p.order p.newton.safety m.is p.newton.error_norm a.is) a.ws q

-- after a step's notice: the end, another order, or the next attempt
unfoldable pub stepped : Progress → List Float → List Float → After Turn
stepped p ws q =
    when Ieee.le +0 (p.span.direction ⊗ (p.x ⊖ p.span.xend)) then after (end Success p) ws q
    else when ltb p.order p.pace.equal_steps then ordered p ws q
    else main_loop p ws q

-- ---- by the place

-- a Newton reply either says something or goes back to the main loop
unfoldable pub newton_turn : Progress → List Float → List Float → List Float → After Turn
newton_turn p values ws q =
    let a = newton_replied p values ws q in
    onward main_loop a.is a.ws a.q

-- Newton failed: the new Jacobian, then half the step
unfoldable pub failed_turn : Progress → List Float → List Float → List Float → After Turn
failed_turn p values ws q =
    let j = jacobian_stored p values ws in
    let s = halved j.is j.ws in
    main_loop s.is s.ws q

unfoldable pub first_derivative : Progress → List Float → List Float → List Float → After Turn
first_derivative p values ws q = ask_jacobian FirstJacobian (ode+1 p) (loaded values 0 (row p.n f0) p.n ws) q

unfoldable pub first_jacobian : Progress → List Float → List Float → List Float → After Turn
first_jacobian p values ws q = let j = jacobian_stored p values ws in first_step j.is j.is.span.first_step j.ws q

-- after a modified start there is no test for the end; after a modified step there is
unfoldable pub restart_jacobian : Progress → List Float → List Float → List Float → After Turn
restart_jacobian p values ws q = let j = jacobian_stored p values ws in main_loop (outdated j.is) j.ws q

unfoldable pub step_jacobian : Progress → List Float → List Float → List Float → After Turn
step_jacobian p values ws q = let j = jacobian_stored p values ws in stepped (outdated j.is) j.ws q

unfoldable pub order_jacobian : Progress → List Float → List Float → List Float → After Turn
order_jacobian p values ws q = let j = jacobian_stored p values ws in main_loop j.is j.ws q

-- A notice's reply. The last case cannot be met: values alone do not suit a notice, so such a reply was refused (11) before it
-- could come here. It stands because a definition covers every reply, and is taken as Continue.
abbrev pub start_noticed : Progress → Reply → List Float → List Float → List Float → After Turn
start_noticed p Continue values ws q = main_loop p ws q
start_noticed p Interrupt values ws q = after (end UserInterrupt p) ws q
start_noticed p (Modified x) values ws q = modified ModifiedStartDerivative p x values ws q
start_noticed p Values values ws q = main_loop p ws q

abbrev pub step_noticed : Progress → Reply → List Float → List Float → List Float → After Turn
step_noticed p Continue values ws q = stepped p ws q
step_noticed p Interrupt values ws q = after (end UserInterrupt p) ws q
step_noticed p (Modified x) values ws q = modified ModifiedStepDerivative p x values ws q
step_noticed p Values values ws q = stepped p ws q

-- By the place. The last case cannot be met: a run that has ended was refused (10) before.
abbrev pub replied : Awaited → Progress → Reply → List Float → List Float → List Float → After Turn
replied FirstDerivative p r values ws q = first_derivative p values ws q
replied FirstJacobian p r values ws q = first_jacobian p values ws q
replied StartDerivative p r values ws q = hinit_replied p values ws q
replied StartNotice p r values ws q = start_noticed p r values ws q
replied ModifiedStartDerivative p r values ws q = restarted ModifiedStartJacobian p values ws q
replied ModifiedStartJacobian p r values ws q = restart_jacobian p values ws q
replied NewtonDerivative p r values ws q = newton_turn p values ws q
replied FailedJacobian p r values ws q = failed_turn p values ws q
replied StepNotice p r values ws q = step_noticed p r values ws q
replied ModifiedStepDerivative p r values ws q = restarted ModifiedStepJacobian p values ws q
replied ModifiedStepJacobian p r values ws q = step_jacobian p values ws q
replied OrderJacobian p r values ws q = order_jacobian p values ws q
replied Ended p r values ws q = after (end UserInterrupt p) ws q
