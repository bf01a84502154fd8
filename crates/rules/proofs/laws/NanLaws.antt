-- What becomes of an attempt whose error norm is NaN, and of the others where the guard is off. NaN is not above 1, so only the guard
-- rejects it; a norm above 1 is no NaN, so it never gets the guard's factor.
use Rattle.std.specs.Prelude.{◌≡◌, List, Bool, true, false, not, ◌||◌, ℕ, ◌+◌, take, Float, Result, Ok, Err, ⊤}
use Rattle.std.proofs.Math.Path.{refl, ap}
use Rattle.std.proofs.Common.{sym, ◌∙◌, true≢false}
use Rattle.std.proofs.lemmas.Bool.{false≢true}
use Rattle.std.specs.Float.{nan, inf, fin}
use Rattle.std.specs.Float.Ieee.{lt, is_nan}
use Rattle.loops.specs.Choice.{when◌then◌else◌}
use Rattle.loops.specs.laws.ChoiceLaws.{through, when_true, when_false, and_first, and_second, false_unless}
use Rattle.loops.specs.Arithmetic.{◌⊗◌, one}
use Rattle.number.specs.Helpers.{max_of}
use Rattle.roots.specs.Roots.{inverse_root}
use Rattle.rules.specs.Types.{Progress, Awaited, Run, FirstDerivative, FirstJacobian, StartDerivative, StartNotice, ModifiedStartDerivative, ModifiedStartJacobian, NewtonDerivative, FailedJacobian, StepNotice, ModifiedStepDerivative, ModifiedStepJacobian, OrderJacobian, Ended, Refusal}
use Rattle.rules.specs.Literals.{min_factor, half}
use Rattle.rules.specs.Places.{need}
use Rattle.rules.specs.State.{ode+1, After}
use Rattle.rules.specs.Attempt.{Tried, onward, main_loop}
use Rattle.rules.specs.Step.{is_guarded, error_fails, error_factor, error_rejected, accepted_from, step_accepted, error_ws, judged, iterated, newton_replied}
use Rattle.rules.specs.Reply.{newton_turn, replied}
use Rattle.rules.specs.Answers.{is_refused, is_step}
use Rattle.rules.specs.Replies.{awaits_newton}
use Rattle.rules.specs.GoOn.{go_within, go_on_of}
use Rattle.rules.specs.Calls.{Call, going_on_checked, going_on_turn}
use Rattle.rules.specs.History.{called}
use Rattle.rules.specs.Guarding.{judged_norm, safety_at, rejected_by, rejected_after, is_judged, error_norm, meets_nan}

-- ---- the error's test

nan_not_above : (x y : Float) → is_nan y ≡ true → lt x y ≡ false
unfolding is_nan lt
nan_not_above nan y e = refl
nan_not_above (inf s) nan e = refl
nan_not_above (inf s) (inf t) e = absurd (false≢true e)
nan_not_above (inf s) (fin t n d) e = absurd (false≢true e)
nan_not_above (fin s m k) nan e = refl
nan_not_above (fin s m k) (inf t) e = absurd (false≢true e)
nan_not_above (fin s m k) (fin t n d) e = absurd (false≢true e)

above_is_number : (x y : Float) → lt x y ≡ true → is_nan y ≡ false
above_is_number x y e = false_unless (is_nan y) (λ n. true≢false (sym e ∙ nan_not_above x y n))

guarded_nan_fails : (norm : Float) → is_nan norm ≡ true → error_fails true norm ≡ true
unfolding error_fails
guarded_nan_fails norm e = rw (nan_not_above one norm e, e)

unguarded_nan_passes : (norm : Float) → is_nan norm ≡ true → error_fails false norm ≡ false
unfolding error_fails
unguarded_nan_passes norm e = rw (nan_not_above one norm e)

unguarded_fails : (norm : Float) → error_fails false norm ≡ lt one norm
unfolding error_fails
unguarded_fails norm = by (lt one norm)
  where
    by : (b : Bool) → (b || false) ≡ b
    by true = refl
    by false = refl

nan_factor : (order : ℕ) (safety norm : Float) → is_nan norm ≡ true → error_factor order safety norm ≡ half
unfolding error_factor
nan_factor order safety norm e = when_true _ _ e

number_factor :
    (order : ℕ) (safety norm : Float) → is_nan norm ≡ false → error_factor order safety norm ≡ max_of (safety ⊗ inverse_root (order + 1) norm) min_factor
unfolding error_factor
number_factor order safety norm e = when_false _ _ e

-- ---- the judgement

module _ (p : Progress) (ws q : List Float) where
  pub judged_guarded_nan : is_guarded p ≡ true → is_nan (judged_norm p ws) ≡ true → judged p ws q ≡ rejected_after half p ws q
  unfolding judged error_rejected
  judged_guarded_nan on e =
      when_true _ _ (rw on (guarded_nan_fails _ e)) ∙ ap (λ (f : Float). rejected_after f p ws q) (nan_factor p.order (safety_at p) _ e)

  pub judged_unguarded_nan :
      is_guarded p ≡ false → is_nan (judged_norm p ws) ≡ true →
      judged p ws q ≡ step_accepted p (safety_at p) (judged_norm p ws) (error_ws p.n p.order ws) q
  unfolding judged
  judged_unguarded_nan off e = when_false _ _ (rw off (unguarded_nan_passes _ e))

  pub judged_unguarded :
      is_guarded p ≡ false →
      judged p ws q ≡
      (when lt one (judged_norm p ws)
      then rejected_after (max_of (safety_at p ⊗ inverse_root (p.order + 1) (judged_norm p ws)) min_factor) p ws q
      else step_accepted p (safety_at p) (judged_norm p ws) (error_ws p.n p.order ws) q)
  unfolding judged error_rejected
  judged_unguarded off =
      through (λ (a : After Tried). a) (rw off (unguarded_fails _))
      (λ above. ap (λ (f : Float). rejected_after f p ws q) (number_factor p.order (safety_at p) _ (above_is_number one _ above)))
      (λ _. refl)

-- ---- the reply that brings such an attempt to its judgement

module _ (p : Progress) (values ws q : List Float) (ends_here : is_judged p values ws ≡ true) (e : is_nan (error_norm p values ws) ≡ true) where
  -- guarded, the main loop goes on with half of the step
  pub newton_guarded_nan :
      is_guarded p ≡ true → (v : List Float) × (newton_turn p values ws q ≡ main_loop (rejected_by half (ode+1 p)) v q)
  unfolding newton_turn newton_replied iterated
  newton_guarded_nan on =
      (_, ap (λ (a : After Tried). onward main_loop a.is a.ws a.q) (when_true _ _ ends_here ∙ judged_guarded_nan (ode+1 p) _ q on e))

  -- unguarded, the step is told
  pub newton_unguarded_nan :
      is_guarded p ≡ false →
      ((newton_turn p values ws q).is.run.at ≡ accepted_from (ode+1 p) (safety_at p) (error_norm p values ws)) ×
      (is_step (newton_turn p values ws q).is.answer ≡ true)
  unfolding newton_turn newton_replied iterated step_accepted
  newton_unguarded_nan off =
      let told = when_true _ _ ends_here ∙ judged_unguarded_nan (ode+1 p) _ q off e in (
        ap (λ (a : After Tried). (onward main_loop a.is a.ws a.q).is.run.at) told,
        ap (λ (a : After Tried). is_step (onward main_loop a.is a.ws a.q).is.answer) told,
      )

-- ---- the call

newton_waits : (w : Awaited) → awaits_newton w ≡ true → w ≡ NewtonDerivative
newton_waits FirstDerivative e = absurd (false≢true e)
newton_waits FirstJacobian e = absurd (false≢true e)
newton_waits StartDerivative e = absurd (false≢true e)
newton_waits StartNotice e = absurd (false≢true e)
newton_waits ModifiedStartDerivative e = absurd (false≢true e)
newton_waits ModifiedStartJacobian e = absurd (false≢true e)
newton_waits NewtonDerivative e = refl
newton_waits FailedJacobian e = absurd (false≢true e)
newton_waits StepNotice e = absurd (false≢true e)
newton_waits ModifiedStepDerivative e = absurd (false≢true e)
newton_waits ModifiedStepJacobian e = absurd (false≢true e)
newton_waits OrderJacobian e = absurd (false≢true e)
newton_waits Ended e = absurd (false≢true e)

is_taken : (b : Bool) → not b ≡ true → b ≡ false
is_taken true e = absurd (false≢true e)
is_taken false e = refl

module _ (run : Run) (call : Call) where
  abbrev room : List Float
  room = take (need run.at.n) call.ws

  taken_passed : (k : Result ⊤ Refusal) → going_on_checked run call ≡ k → is_refused (called run call).answer ≡ false → going_on_checked run call ≡ Ok tt
  unfolding go_on_of
  taken_passed (Err why) e t =
      absurd (true≢false (sym (ap (λ (k : Result ⊤ Refusal). is_refused (going_on_turn run call k).is.answer) e) ∙ t))
  taken_passed (Ok tt) e t = e

  -- what a call that meets a NaN is: past the checks, a Newton derivative's reply, with which Newton has converged
  pub record Met : Type 0 where
    pub passed : going_on_checked run call ≡ Ok tt
    pub waits : run.awaited ≡ NewtonDerivative
    pub ends_here : is_judged run.at call.values room ≡ true
    pub no_number : is_nan (error_norm run.at call.values room) ≡ true

  pub met : meets_nan run call ≡ true → Met
  unfolding meets_nan
  met e =
      let taken = is_taken _ (and_first _ _ e) in
      let at-newton = and_second (not (is_refused (called run call).answer)) _ e in
      let judges = and_second (awaits_newton run.awaited) _ at-newton in
      record {
        passed = taken_passed _ refl taken;
        waits = newton_waits run.awaited (and_first (awaits_newton run.awaited) _ at-newton);
        ends_here = and_first (is_judged run.at call.values room) _ judges;
        no_number = and_second (is_judged run.at call.values room) _ judges;
      }

  pub met_tells : Met → called run call ≡ (newton_turn run.at call.values room call.q).is
  unfolding go_on_of go_within
  met_tells m =
      ap (λ (k : Result ⊤ Refusal). (going_on_turn run call k).is) m.passed
      ∙ ap (λ (w : Awaited). (replied w run.at call.reply call.values room call.q).is) m.waits
