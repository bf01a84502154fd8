-- No stage sees the guard but the judgement of a step: from a state beside another a stage leaves the same, with its state beside. Stage by
-- stage, last first. Every field that a stage reads is the same in both, so that most of it computes; a choice goes by the same test in
-- both (`through`). In the judgement the guard matters only where the error norm is NaN: the law of a reply assumes that the reply leads to
-- no judgement of such a norm (`Quiet`).
use Rattle.std.specs.Prelude.{◌≡◌, List, Bool, true, false, Float, Option, Some, None}
use Rattle.std.proofs.Math.Path.{refl, ap}
use Rattle.std.proofs.Common.{◌∙◌}
use Prim.Native.Nat.{ℕ, zero, suc}
use Rattle.std.specs.Float.Ieee.{is_nan}
use Rattle.loops.specs.laws.ChoiceLaws.{through}
use Rattle.loops.specs.Arithmetic.{◌⊗◌}
use Rattle.rules.specs.Types.{Progress, Turn, Answer, Awaited, Reply, Values, Continue, Interrupt, Modified, Pace, Aim}
use Rattle.rules.specs.Types.{FirstDerivative, FirstJacobian, StartDerivative, StartNotice, ModifiedStartDerivative, ModifiedStartJacobian, NewtonDerivative, FailedJacobian, StepNotice, ModifiedStepDerivative, ModifiedStepJacobian, OrderJacobian, Ended}
use Rattle.rules.specs.State.{with_pace, with_aim, with_newton, with_x, with_order, changed, turn, ode+1, jac+1, start_asked, total+1, rejected+1, After, after}
use Rattle.rules.specs.Newton.{converged}
use Rattle.rules.specs.Factor.{factored}
use Rattle.rules.specs.Attempt.{Tried, rejected, says, onward, factored_from, singular_from, aimed, cut_at_end, fitted, must_factor, halved, newton_start, refactored, attempt_at, unless_stuck, headed, fitted_attempt, attempt, tries, main_loop}
use Rattle.rules.specs.Step.{is_guarded, error_fails, error_rejected, accepted_from, step_accepted, judged, newton_failed, newton_again, iterated, newton_replied}
use Rattle.rules.specs.Reply.{jacobian_stored, started, hinit_asks, first_step, hinit_replied, modified, restarted, outdated, chosen, ordered, stepped, newton_turn, failed_turn, first_derivative, first_jacobian, restart_jacobian, step_jacobian, order_jacobian, start_noticed, step_noticed, replied}
use Rattle.rules.specs.Beside.{Unread, beside, tried_beside, attempt_beside, call_beside}
use Rattle.rules.specs.Guarding.{judged_norm, is_judged, error_norm}
use Rattle.rules.specs.declared.stages.Choice.{Choice}

-- the error's test on a norm that is a number does not turn on the guard
number_fails_alike : (norm : Float) (b b' : Bool) → is_nan norm ≡ false → error_fails b norm ≡ error_fails b' norm
unfolding error_fails
number_fails_alike norm true true e = refl
number_fails_alike norm true false e = rw e
number_fails_alike norm false true e = rw e
number_fails_alike norm false false e = refl

-- the reply leads to no judgement of a norm that is NaN
abbrev pub Quiet : Awaited → Progress → List Float → List Float → Type 0
Quiet FirstDerivative p values ws = Unit
Quiet FirstJacobian p values ws = Unit
Quiet StartDerivative p values ws = Unit
Quiet StartNotice p values ws = Unit
Quiet ModifiedStartDerivative p values ws = Unit
Quiet ModifiedStartJacobian p values ws = Unit
Quiet NewtonDerivative p values ws = is_judged p values ws ≡ true → is_nan (error_norm p values ws) ≡ false
Quiet FailedJacobian p values ws = Unit
Quiet StepNotice p values ws = Unit
Quiet ModifiedStepDerivative p values ws = Unit
Quiet ModifiedStepJacobian p values ws = Unit
Quiet OrderJacobian p values ws = Unit
Quiet Ended p values ws = Unit

module _ (u : Unread) where
  -- what is told from a state, and an attempt that is rejected
  tells_blind : (a : Answer) (w : Awaited) (p : Progress) (ws q : List Float) → after (turn a w (beside u p)) ws q ≡ call_beside u (after (turn a w p) ws q)
  unfolding call_beside
  tells_blind a w p ws q = refl

  says_blind :
      (a : Answer) (w : Awaited) (p : Progress) (ws q : List Float) →
      after (says (turn a w (beside u p))) ws q ≡ attempt_beside u (after (says (turn a w p)) ws q)
  unfolding attempt_beside
  says_blind a w p ws q = refl

  rejects_blind : (p : Progress) (ws q : List Float) → after (rejected (beside u p)) ws q ≡ attempt_beside u (after (rejected p) ws q)
  unfolding attempt_beside
  rejects_blind p ws q = refl

  -- ---- the attempt

  newton_start_blind : (p : Progress) (ws q : List Float) → newton_start (beside u p) ws q ≡ attempt_beside u (newton_start p ws q)
  unfolding newton_start
  newton_start_blind p ws q = says_blind _ _ (with_newton p _) _ _

  refactored_blind : (p : Progress) (ws q : List Float) → refactored (beside u p) ws q ≡ attempt_beside u (refactored p ws q)
  unfolding refactored halved
  refactored_blind p ws q =
      let f = (factored p.n p.aim.c p.pivot ws).is in
      through (attempt_beside u) refl (λ _. newton_start_blind (factored_from p f) _ q) (λ _. rejects_blind (rejected+1 (with_pace (singular_from p f) _)) _ q)

  attempt_at_blind : (p : Progress) (ws q : List Float) → attempt_at (beside u p) ws q ≡ attempt_beside u (attempt_at p ws q)
  unfolding attempt_at must_factor
  attempt_at_blind p ws q = through (attempt_beside u) refl (λ _. refactored_blind p _ q) (λ _. newton_start_blind p _ q)

  unless_stuck_blind : (p : Progress) (ws q : List Float) → unless_stuck (beside u p) ws q ≡ attempt_beside u (unless_stuck p ws q)
  unfolding unless_stuck
  unless_stuck_blind p ws q = through (attempt_beside u) refl (λ _. says_blind _ _ p ws q) (λ _. attempt_at_blind (total+1 p) ws q)

  headed_blind : (p : Progress) (a : Option (Pace × Aim)) (ws q : List Float) → headed (beside u p) a ws q ≡ attempt_beside u (headed p a ws q)
  headed_blind p None ws q = says_blind _ _ p ws q
  headed_blind p (Some (g, a)) ws q = unless_stuck_blind (with_aim (with_pace p g) a) ws q

  fitted_attempt_blind : (p : Progress) (ws q : List Float) → fitted_attempt (beside u p) ws q ≡ attempt_beside u (fitted_attempt p ws q)
  unfolding fitted_attempt fitted aimed cut_at_end
  fitted_attempt_blind p ws q =
      let r = with_pace p (fitted p ws).is in
      headed_blind r (aimed r (fitted p ws).ws).is _ q

  attempt_blind : (p : Progress) (ws q : List Float) → attempt (beside u p) ws q ≡ attempt_beside u (attempt p ws q)
  unfolding attempt
  attempt_blind p ws q =
      through (attempt_beside u) refl
      (λ _. says_blind _ _ p ws q)
      (λ _. through (attempt_beside u) refl (λ _. says_blind _ _ p ws q) (λ _. fitted_attempt_blind p ws q))

  -- ---- the main loop

  -- what follows an attempt, where what follows a rejected one is blind
  onward_blind :
      (more : Progress → List Float → List Float → After Turn) → ((p : Progress) (ws q : List Float) → more (beside u p) ws q ≡ call_beside u (more p ws q)) →
      (a : Tried) (ws q : List Float) → onward more (tried_beside u a) ws q ≡ call_beside u (onward more a ws q)
  onward_blind more blind (rejected p) ws q = blind p ws q
  onward_blind more blind (says t) ws q = tells_blind t.answer t.run.awaited t.run.at ws q

  -- from an attempt that was blind itself
  then_blind :
      (more : Progress → List Float → List Float → After Turn) → ((p : Progress) (ws q : List Float) → more (beside u p) ws q ≡ call_beside u (more p ws q)) →
      (a : After Tried) {b : After Tried} → b ≡ attempt_beside u a → onward more b.is b.ws b.q ≡ call_beside u (onward more a.is a.ws a.q)
  unfolding attempt_beside
  then_blind more blind a e =
      ap (λ (b : After Tried). onward more b.is b.ws b.q) e ∙ onward_blind more blind a.is a.ws a.q

  tries_blind : (k : ℕ) (p : Progress) (ws q : List Float) → tries k (beside u p) ws q ≡ call_beside u (tries k p ws q)
  unfolding tries
  tries_blind zero p ws q = tells_blind _ _ p ws q
  tries_blind (suc k) p ws q = then_blind (tries k) (tries_blind k) (attempt p ws q) (attempt_blind p ws q)

  loop_blind : (p : Progress) (ws q : List Float) → main_loop (beside u p) ws q ≡ call_beside u (main_loop p ws q)
  unfolding main_loop
  loop_blind p ws q = tries_blind _ p ws q

  -- ---- Newton's reply

  step_accepted_blind :
      (p : Progress) (safety norm : Float) (ws q : List Float) →
      step_accepted (beside u p) safety norm ws q ≡ attempt_beside u (step_accepted p safety norm ws q)
  unfolding step_accepted
  step_accepted_blind p safety norm ws q = says_blind _ _ (accepted_from p safety norm) _ _

  judged_blind : (p : Progress) (ws q : List Float) → is_nan (judged_norm p ws) ≡ false → judged (beside u p) ws q ≡ attempt_beside u (judged p ws q)
  unfolding judged error_rejected
  judged_blind p ws q e =
      through (attempt_beside u) (number_fails_alike _ (is_guarded (beside u p)) (is_guarded p) e)
      (λ _. rejects_blind (rejected+1 (with_pace p _)) _ q)
      (λ _. step_accepted_blind p _ _ _ q)

  iterated_blind :
      (p : Progress) (norm : Float) (ws q : List Float) →
      (converged p.span.newton_tol p.newton.iters p.newton.prev norm ≡ true → is_nan (judged_norm p ws) ≡ false) →
      iterated (beside u p) norm ws q ≡ attempt_beside u (iterated p norm ws q)
  unfolding iterated newton_failed newton_again
  iterated_blind p norm ws q quiet =
      through (attempt_beside u) refl
      (λ t. judged_blind p ws q (quiet t))
      (λ _. through (attempt_beside u) refl (λ _. says_blind _ _ p ws _) (λ _. says_blind _ _ (with_newton p _) ws _))

  newton_blind :
      (p : Progress) (values ws q : List Float) → Quiet NewtonDerivative p values ws →
      newton_turn (beside u p) values ws q ≡ call_beside u (newton_turn p values ws q)
  unfolding newton_turn newton_replied
  newton_blind p values ws q quiet =
      then_blind main_loop loop_blind (newton_replied p values ws q) (iterated_blind (ode+1 p) _ _ q quiet)

  -- ---- the start

  started_blind : (p : Progress) (h : Float) (ws q : List Float) → started (beside u p) h ws q ≡ call_beside u (started p h ws q)
  unfolding started
  started_blind p h ws q = tells_blind _ _ (with_pace p _) _ _

  first_step_blind : (p : Progress) (s : Option Float) (ws q : List Float) → first_step (beside u p) s ws q ≡ call_beside u (first_step p s ws q)
  unfolding first_step hinit_asks
  first_step_blind p None ws q = tells_blind _ _ (start_asked p) _ _
  first_step_blind p (Some x) ws q = started_blind p _ ws q

  -- ---- the choice of order, and what follows a step

  chosen_blind : (p : Progress) (c : Choice) (ws q : List Float) → chosen (beside u p) c ws q ≡ call_beside u (chosen p c ws q)
  unfolding chosen
  chosen_blind p c ws q =
      let next = with_pace (with_order p c.order) (changed (p.pace.h ⊗ c.factor)) in
      through (call_beside u) refl (λ _. loop_blind next _ q) (λ _. tells_blind _ _ next _ _)

  stepped_blind : (p : Progress) (ws q : List Float) → stepped (beside u p) ws q ≡ call_beside u (stepped p ws q)
  unfolding stepped ordered
  stepped_blind p ws q =
      through (call_beside u) refl
      (λ _. tells_blind _ _ p ws q)
      (λ _. through (call_beside u) refl (λ _. chosen_blind p _ _ q) (λ _. loop_blind p ws q))

  -- ---- a notice's reply

  modified_blind : (w : Awaited) (p : Progress) (x : Float) (values ws q : List Float) → modified w (beside u p) x values ws q ≡ call_beside u (modified w p x values ws q)
  unfolding modified
  modified_blind w p x values ws q = tells_blind _ _ (with_x p x) _ _

  start_noticed_blind :
      (r : Reply) (p : Progress) (values ws q : List Float) → start_noticed (beside u p) r values ws q ≡ call_beside u (start_noticed p r values ws q)
  start_noticed_blind Continue p values ws q = loop_blind p ws q
  start_noticed_blind Interrupt p values ws q = tells_blind _ _ p ws q
  start_noticed_blind (Modified x) p values ws q = modified_blind ModifiedStartDerivative p x values ws q
  start_noticed_blind Values p values ws q = loop_blind p ws q

  step_noticed_blind :
      (r : Reply) (p : Progress) (values ws q : List Float) → step_noticed (beside u p) r values ws q ≡ call_beside u (step_noticed p r values ws q)
  step_noticed_blind Continue p values ws q = stepped_blind p ws q
  step_noticed_blind Interrupt p values ws q = tells_blind _ _ p ws q
  step_noticed_blind (Modified x) p values ws q = modified_blind ModifiedStepDerivative p x values ws q
  step_noticed_blind Values p values ws q = stepped_blind p ws q

  restarted_blind : (w : Awaited) (p : Progress) (values ws q : List Float) → restarted w (beside u p) values ws q ≡ call_beside u (restarted w p values ws q)
  unfolding restarted
  restarted_blind w p values ws q = tells_blind _ _ (with_pace (with_order (ode+1 p) 1) _) _ _

  -- ---- by the place

  pub replied_blind :
      (w : Awaited) (p : Progress) (r : Reply) (values ws q : List Float) → Quiet w p values ws →
      replied w (beside u p) r values ws q ≡ call_beside u (replied w p r values ws q)
  unfolding first_derivative first_jacobian hinit_replied jacobian_stored restart_jacobian step_jacobian order_jacobian failed_turn halved
  replied_blind FirstDerivative p r values ws q quiet = tells_blind _ _ (ode+1 p) _ _
  replied_blind FirstJacobian p r values ws q quiet = first_step_blind (jac+1 p) _ _ q
  replied_blind StartDerivative p r values ws q quiet = started_blind p _ _ q
  replied_blind StartNotice p r values ws q quiet = start_noticed_blind r p values ws q
  replied_blind ModifiedStartDerivative p r values ws q quiet = restarted_blind ModifiedStartJacobian p values ws q
  replied_blind ModifiedStartJacobian p r values ws q quiet = loop_blind (outdated (jac+1 p)) _ q
  replied_blind NewtonDerivative p r values ws q quiet = newton_blind p values ws q quiet
  replied_blind FailedJacobian p r values ws q quiet = loop_blind (rejected+1 (with_pace (jac+1 p) _)) _ q
  replied_blind StepNotice p r values ws q quiet = step_noticed_blind r p values ws q
  replied_blind ModifiedStepDerivative p r values ws q quiet = restarted_blind ModifiedStepJacobian p values ws q
  replied_blind ModifiedStepJacobian p r values ws q quiet = stepped_blind (outdated (jac+1 p)) _ q
  replied_blind OrderJacobian p r values ws q quiet = loop_blind (jac+1 p) _ q
  replied_blind Ended p r values ws q quiet = tells_blind _ _ p ws q
