-- Every stage of the attempt and of a reply speaks: whatever the question slice held, the result and the workspace are the same,
-- and so is what was written over the slice's first places. And no stage answers with a refusal, and the state that it leaves waits
-- for what its answer asks for. (How the counters go through the same stages is in PlaceLaws.antt: it asks how they stand before,
-- and this asks nothing of a state.)
use Rattle.std.specs.Prelude.{◌≡◌, List, [], ◌∷◌, ℕ, zero, suc, ◌*◌, length, Float, Option, Some, None}
use Rattle.std.proofs.Math.Path.{refl}
use Rattle.std.proofs.Common.{ap, subst, arith}
use Rattle.rules.specs.Types.{Progress, Turn, Awaited, Reply, Tolerance, Values, Continue, Interrupt, Modified, Pace, Aim}
use Rattle.rules.specs.Types.{FirstDerivative, FirstJacobian, StartDerivative, StartNotice, ModifiedStartDerivative, ModifiedStartJacobian, NewtonDerivative, FailedJacobian, StepNotice, ModifiedStepDerivative, ModifiedStepJacobian, OrderJacobian, Ended}
use Rattle.rules.specs.Places.{need, y, y1, y_new, y_predict}
use Rattle.rules.specs.State.{After}
use Rattle.rules.specs.Replies.{values_want, wants}
use Rattle.rules.specs.Attempt.{attempt, fitted_attempt, aimed, headed, unless_stuck, halved, attempt_at, refactored, newton_start, Tried, rejected, says, onward, tries, main_loop}
use Rattle.rules.specs.Moves.{loaded}
use Rattle.rules.specs.Step.{error_rejected, judged, step_accepted, newton_failed, newton_again, iterated, newton_replied}
use Rattle.rules.specs.Reply.{jacobian_stored, started, hinit_asks, first_step, hinit_replied, modified, restarted, chosen, ordered, stepped, newton_turn, failed_turn, first_derivative, first_jacobian, restart_jacobian, step_jacobian, order_jacobian, start_noticed, step_noticed, replied}
use Rattle.rules.specs.Begin.{kept, ask_first}
use Rattle.rules.proofs.laws.AsideLaws.{predicted_keeps, euler_keeps, advanced_keeps, correction_keeps, error_keeps, factored_keeps, rescaled_keeps, differences_keep, fitted_keeps, aimed_keeps, error_below_keeps, error_above_keeps}
use Rattle.rules.proofs.laws.LengthLaws.{exact, copied_long, filled_long, loaded_long, accepted_long, begin_long}
use Rattle.rules.proofs.laws.QuestionLaws.{fronted, Speaks, Says, SaysTried, speaks_alike, speaks_nothing, speaks_either, speaks_told, speaks_notice}
use Rattle.rules.specs.declared.settings.BDF.{BDF}
use Rattle.rules.specs.declared.stages.Choice.{Choice}

-- what a stage from the state p does with a workspace of just the needed places
abbrev Attempts : Progress → (List Float → After Tried) → Type 0
Attempts p f = Speaks (SaysTried p.n) p.n f

abbrev Turns : Progress → (List Float → After Turn) → Type 0
Turns p f = Speaks (Says p.n) p.n f

abbrev Exact : Progress → List Float → Type 0
Exact p ws = length ws ≡ need p.n

-- ---- the attempt

newton_start_speaks : (p : Progress) (ws : List Float) → Exact p ws → Attempts p (newton_start p ws)
unfolding newton_start
newton_start_speaks p ws h =
    speaks_told y_new _ _ (omega arith) (filled_long _ _ _ _ _ (copied_long _ _ _ _ ws h)) (refl, refl, refl, λ r. refl)

refactored_speaks : (p : Progress) (ws : List Float) → Exact p ws → Attempts p (refactored p ws)
unfolding refactored halved
refactored_speaks p ws h =
    let f = factored_keeps (exact p) p.aim.c p.pivot ws h in
    speaks_either _
    (λ _. newton_start_speaks _ _ f)
    (λ _. speaks_nothing _ _ (rescaled_keeps (exact p) _ _ _ f) (refl, refl))

attempt_at_speaks : (p : Progress) (ws : List Float) → Exact p ws → Attempts p (attempt_at p ws)
unfolding attempt_at
attempt_at_speaks p ws h =
    let w = predicted_keeps (exact p) p.order ws h in
    speaks_either _ (λ _. refactored_speaks p _ w) (λ _. newton_start_speaks p _ w)

unless_stuck_speaks : (p : Progress) (ws : List Float) → Exact p ws → Attempts p (unless_stuck p ws)
unfolding unless_stuck
unless_stuck_speaks p ws h =
    speaks_either _ (λ _. speaks_nothing _ ws h (refl, refl, refl, refl)) (λ _. attempt_at_speaks _ ws h)

headed_speaks : (p : Progress) (a : Option (Pace × Aim)) (ws : List Float) → Exact p ws → Attempts p (headed p a ws)
headed_speaks p None ws h = speaks_nothing _ ws h (refl, refl, refl, refl)
headed_speaks p (Some (g, a)) ws h = unless_stuck_speaks _ ws h

attempt_speaks : (p : Progress) (ws : List Float) → Exact p ws → Attempts p (attempt p ws)
unfolding attempt fitted_attempt
attempt_speaks p ws h =
    speaks_either _
    (λ _. speaks_nothing _ ws h (refl, refl, refl, refl))
    (λ _. speaks_either _
    (λ _. speaks_nothing _ ws h (refl, refl, refl, refl))
    (λ _. headed_speaks _ (aimed _ _).is _ (aimed_keeps _ (exact p) _ (fitted_keeps p (exact p) ws h))))

-- ---- the main loop

nothing_fronted : (e q : List Float) → length e ≡ 0 → fronted e q ≡ q
nothing_fronted [] q h = refl
nothing_fronted (x ∷ e) q h = absurd (omega arith)

-- what follows an attempt speaks, where what follows a rejected one does
onward_speaks : {n : ℕ} {f : List Float → After Tried} (more : Progress → List Float → List Float → After Turn) →
    ((p : Progress) (ws : List Float) → p.n ≡ n → length ws ≡ need n → Speaks (Says n) n (more p ws)) →
    Speaks (SaysTried n) n f → Speaks (Says n) n (λ q. onward more (f q).is (f q).ws (f q).q)
onward_speaks {n} more m s =
    speaks_alike (λ q h. ap (λ (a : After Tried). onward more a.is a.ws a.q) (s.says q h)) (each s.is s.fits)
  where
    each : (a : Tried) → SaysTried n a (length s.asked) → Speaks (Says n) n (λ q. onward more a s.ws (fronted s.asked q))
    each (rejected r) f =
        speaks_alike (λ q h. ap (more r s.ws) (nothing_fronted s.asked q f.0)) (m r s.ws f.1 s.long)
    each (says t) f = record { is = t; ws = s.ws; asked = s.asked; fits = f; long = s.long; says = λ q h. refl }

-- n for the state's own number
of_size : {n : ℕ} (p : Progress) {A : Type 0} (Fits : ℕ → A → ℕ → Type 0) {f : List Float → After A} → p.n ≡ n
    → Speaks (Fits p.n) p.n f → Speaks (Fits n) n f
of_size p Fits {f} e s = subst (λ (m : ℕ). Speaks (Fits m) m f) e s

tries_speaks : (k : ℕ) {n : ℕ} (p : Progress) (ws : List Float) → p.n ≡ n → length ws ≡ need n → Speaks (Says n) n (tries k p ws)
unfolding tries
tries_speaks zero p ws e h = speaks_nothing _ ws h (refl, e, refl, refl)
tries_speaks (suc k) {n} p ws e h = onward_speaks (tries k) (λ r v. tries_speaks k r v) (of_size p SaysTried e (attempt_speaks p ws (rw e h)))

main_loop_speaks : {n : ℕ} (p : Progress) (ws : List Float) → p.n ≡ n → length ws ≡ need n → Speaks (Says n) n (main_loop p ws)
unfolding main_loop
main_loop_speaks p ws e h = tries_speaks _ p ws e h

-- ---- Newton's reply

step_accepted_speaks : (p : Progress) (safety norm : Float) (ws : List Float) → Exact p ws → Attempts p (step_accepted p safety norm ws)
unfolding step_accepted
step_accepted_speaks p safety norm ws h =
    speaks_notice y _ _ (omega arith) (accepted_long _ p.n p.order ws h) (refl, refl, refl, λ r. refl)

judged_speaks : (p : Progress) (ws : List Float) → Exact p ws → Attempts p (judged p ws)
unfolding judged error_rejected
judged_speaks p ws h =
    let w = error_keeps (exact p) p.order ws h in
    speaks_either _
    (λ _. speaks_nothing _ _ (rescaled_keeps (exact p) _ _ _ w) (refl, refl))
    (λ _. step_accepted_speaks p _ _ _ w)

iterated_speaks : (p : Progress) (norm : Float) (ws : List Float) → Exact p ws → Attempts p (iterated p norm ws)
unfolding iterated newton_failed newton_again
iterated_speaks p norm ws h =
    speaks_either _
    (λ _. judged_speaks p ws h)
    (λ _. speaks_either _
    (λ _. speaks_told y_predict _ ws (omega arith) h (refl, refl, refl, λ r. refl))
    (λ _. speaks_told y_new _ ws (omega arith) h (refl, refl, refl, λ r. refl)))

newton_replied_speaks : (p : Progress) (values ws : List Float) → Exact p ws → Attempts p (newton_replied p values ws)
unfolding newton_replied
newton_replied_speaks p values ws h =
    let w = correction_keeps (exact p) p.aim.c p.pivot values ws h in
    iterated_speaks _ _ _ (advanced_keeps (exact p) _ w)

newton_turn_speaks : (p : Progress) (values ws : List Float) → Exact p ws → Turns p (newton_turn p values ws)
unfolding newton_turn
newton_turn_speaks p values ws h = onward_speaks main_loop (λ r v. main_loop_speaks r v) (newton_replied_speaks p values ws h)

-- ---- the start

started_speaks : (p : Progress) (h_abs : Float) (ws : List Float) → Exact p ws → Turns p (started p h_abs ws)
unfolding started
started_speaks p h_abs ws h = speaks_told y _ _ (omega arith) (differences_keep (exact p) _ _ ws h) (refl, refl, refl, λ r. refl)

hinit_asks_speaks : (p : Progress) (ws : List Float) → Exact p ws → Turns p (hinit_asks p ws)
unfolding hinit_asks
hinit_asks_speaks p ws h = speaks_told y1 _ _ (omega arith) (euler_keeps (exact p) _ ws h) (refl, refl, refl, λ r. refl)

first_step_speaks : (p : Progress) (s : Option Float) (ws : List Float) → Exact p ws → Turns p (first_step p s ws)
unfolding first_step
first_step_speaks p None ws h = hinit_asks_speaks p ws h
first_step_speaks p (Some x) ws h = started_speaks p _ ws h

-- ---- the choice of order, and what follows a step

chosen_speaks : (p : Progress) (c : Choice) (ws : List Float) → Exact p ws → Turns p (chosen p c ws)
unfolding chosen
chosen_speaks p c ws h =
    let w = rescaled_keeps (exact p) c.order c.factor ws h in
    speaks_either _ (λ _. main_loop_speaks _ _ refl w) (λ _. speaks_told y _ _ (omega arith) w (refl, refl, refl, λ r. refl))

ordered_speaks : (p : Progress) (ws : List Float) → Exact p ws → Turns p (ordered p ws)
unfolding ordered
ordered_speaks p ws h = chosen_speaks p _ _ (error_above_keeps (exact p) p.order _ (error_below_keeps (exact p) p.order ws h))

stepped_speaks : (p : Progress) (ws : List Float) → Exact p ws → Turns p (stepped p ws)
unfolding stepped
stepped_speaks p ws h =
    speaks_either _
    (λ _. speaks_nothing _ ws h (refl, refl, refl, refl))
    (λ _. speaks_either _ (λ _. ordered_speaks p ws h) (λ _. main_loop_speaks p ws refl h))

-- ---- by the place

module _ (p : Progress) (values ws : List Float) (h : Exact p ws) where
  -- the reply's values, stored
  stored_long : (to n : ℕ) → Exact p (loaded values 0 to n ws)
  stored_long to n = loaded_long _ values 0 to n ws h

  -- at a place that waits for a derivative
  modified_speaks : (w : Awaited) (x : Float) → ((r : Reply) → wants p.n w r ≡ values_want p.n r) → Turns p (modified w p x values ws)
  unfolding modified
  modified_speaks w x waits = speaks_told y _ _ (omega arith) (stored_long _ _) (refl, refl, refl, waits)

  -- at one that waits for a Jacobian
  restarted_speaks : (w : Awaited) → ((r : Reply) → wants p.n w r ≡ values_want (p.n * p.n) r) → Turns p (restarted w p values ws)
  unfolding restarted
  restarted_speaks w waits =
      speaks_told y _ _ (omega arith) (differences_keep (exact p) _ _ _ (stored_long _ _)) (refl, refl, refl, waits)

  start_noticed_speaks : (r : Reply) → Turns p (start_noticed p r values ws)
  start_noticed_speaks Continue = main_loop_speaks p ws refl h
  start_noticed_speaks Interrupt = speaks_nothing _ ws h (refl, refl, refl, refl)
  start_noticed_speaks (Modified x) = modified_speaks ModifiedStartDerivative x (λ r. refl)
  start_noticed_speaks Values = main_loop_speaks p ws refl h

  step_noticed_speaks : (r : Reply) → Turns p (step_noticed p r values ws)
  step_noticed_speaks Continue = stepped_speaks p ws h
  step_noticed_speaks Interrupt = speaks_nothing _ ws h (refl, refl, refl, refl)
  step_noticed_speaks (Modified x) = modified_speaks ModifiedStepDerivative x (λ r. refl)
  step_noticed_speaks Values = stepped_speaks p ws h

  first_derivative_speaks : Turns p (first_derivative p values ws)
  unfolding first_derivative
  first_derivative_speaks = speaks_told y _ _ (omega arith) (stored_long _ _) (refl, refl, refl, λ r. refl)

  hinit_replied_speaks : Turns p (hinit_replied p values ws)
  unfolding hinit_replied
  hinit_replied_speaks = started_speaks _ _ _ (stored_long _ _)

  first_jacobian_speaks : Turns p (first_jacobian p values ws)
  unfolding first_jacobian jacobian_stored
  first_jacobian_speaks = first_step_speaks _ _ _ (stored_long _ _)

  restart_jacobian_speaks : Turns p (restart_jacobian p values ws)
  unfolding restart_jacobian jacobian_stored
  restart_jacobian_speaks = main_loop_speaks _ _ refl (stored_long _ _)

  step_jacobian_speaks : Turns p (step_jacobian p values ws)
  unfolding step_jacobian jacobian_stored
  step_jacobian_speaks = stepped_speaks _ _ (stored_long _ _)

  order_jacobian_speaks : Turns p (order_jacobian p values ws)
  unfolding order_jacobian jacobian_stored
  order_jacobian_speaks = main_loop_speaks _ _ refl (stored_long _ _)

  failed_speaks : Turns p (failed_turn p values ws)
  unfolding failed_turn halved jacobian_stored
  failed_speaks = main_loop_speaks _ _ refl (rescaled_keeps (exact p) _ _ _ (stored_long _ _))

  pub replied_speaks : (w : Awaited) (r : Reply) → Turns p (replied w p r values ws)
  replied_speaks FirstDerivative r = first_derivative_speaks
  replied_speaks FirstJacobian r = first_jacobian_speaks
  replied_speaks StartDerivative r = hinit_replied_speaks
  replied_speaks StartNotice r = start_noticed_speaks r
  replied_speaks ModifiedStartDerivative r = restarted_speaks ModifiedStartJacobian (λ r. refl)
  replied_speaks ModifiedStartJacobian r = restart_jacobian_speaks
  replied_speaks NewtonDerivative r = newton_turn_speaks p values ws h
  replied_speaks FailedJacobian r = failed_speaks
  replied_speaks StepNotice r = step_noticed_speaks r
  replied_speaks ModifiedStepDerivative r = restarted_speaks ModifiedStepJacobian (λ r. refl)
  replied_speaks ModifiedStepJacobian r = step_jacobian_speaks
  replied_speaks OrderJacobian r = order_jacobian_speaks
  replied_speaks Ended r = speaks_nothing _ ws h (refl, refl, refl, refl)

-- ---- the beginning

pub ask_first_speaks :
    (s : BDF) (x0 xend : Float) (y0 : List Float) (r : Tolerance) (rs : List Float) (a : Tolerance) (als ws : List Float) →
    let n = length y0 in length ws ≡ need n → Speaks (Says n) n (ask_first (kept s n x0 xend r rs) y0 r rs a als ws)
unfolding ask_first kept
ask_first_speaks s x0 xend y0 r rs a als ws h =
    speaks_told y _ _ (omega arith) (begin_long (need (length y0)) (length y0) y0 r rs a als ws h) (refl, refl, refl, λ r. refl)
