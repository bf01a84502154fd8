-- Every reply leads to an end only for its reason, and to an x and y that the caller knows: stage by stage, read off the definition.
-- An end stands behind the very test that is its reason. x moves only where a step is accepted, which the notice tells, and where the
-- caller modifies; y's row is written only there too (`YLaws`).
use Rattle.std.specs.Prelude.{◌≡◌, List, false, length, Float, Option, Some, None}
use Rattle.std.proofs.Math.Path.{refl, sym}
use Rattle.std.proofs.Common.{true≢false, arith}
use Rattle.std.proofs.Math.Logic.{inl, inr}
use Prim.Native.Nat.{ℕ, zero, suc, ◌*◌, ◌≤◌}
use borrow.Author.Tests.{leb-true}
use Rattle.loops.specs.laws.ChoiceLaws.{either}
use Rattle.loops.specs.Arithmetic.{◌⊗◌}
use Rattle.rules.specs.Types.{Progress, Turn, Awaited, Reply, Values, Continue, Interrupt, Modified, UserInterrupt, FirstDerivative, FirstJacobian, StartDerivative, StartNotice, ModifiedStartDerivative, ModifiedStartJacobian, NewtonDerivative, FailedJacobian, StepNotice, ModifiedStepDerivative, ModifiedStepJacobian, OrderJacobian, Ended, Pace, Aim}
use Rattle.rules.specs.State.{with_pace, After, after, Left}
use Rattle.rules.specs.Places.{need, row, y, y_new, y_predict, delta, f0, vector}
use Rattle.rules.specs.Moves.{loaded}
use Rattle.rules.specs.Attempt.{Tried, rejected, says, onward, attempt, predicted_all, fitted, fitted_attempt, aimed, cut_at_end, headed, unless_stuck, halved, attempt_at, refactored, newton_start, end, tries, attempts_left, main_loop}
use Rattle.rules.specs.Step.{error_rejected, judged, step_accepted, newton_failed, newton_again, iterated, newton_replied}
use Rattle.rules.specs.Reply.{jacobian_stored, started, hinit_asks, first_step, hinit_replied, modified, restarted, chosen, ordered, stepped, newton_turn, failed_turn, first_derivative, first_jacobian, restart_jacobian, step_jacobian, order_jacobian, start_noticed, step_noticed, replied}
use Rattle.rules.specs.Replies.{is_ended, values_want, word_wants, wants}
use Rattle.rules.specs.Known.{given_x, given_y, Arrived}
use Rattle.rules.proofs.laws.AsideLaws.{Survives, copied_before, filled_before, loaded_before, loaded_beyond, predicted_keeps, euler_keeps, advanced_keeps, correction_keeps, error_keeps, error_below_keeps, error_above_keeps, factored_keeps, rescaled_keeps, differences_keep, fitted_keeps, aimed_keeps}
use Rattle.rules.proofs.laws.LengthLaws.{exact, loaded_long, accepted_long}
use Rattle.rules.specs.laws.Said.{Rejected}
use Rattle.rules.proofs.laws.AttemptLaws.{attempt_tries}
use Rattle.rules.proofs.laws.StepLaws.{reply_back}
use Rattle.rules.proofs.laws.YLaws.{y_survives}
use Rattle.rules.specs.laws.Leading.{AsKnown, Holds, Meets, Leads}
use Rattle.rules.proofs.laws.ToldLaws.{notice_first, differences_told, loaded_is}
use Rattle.rules.specs.declared.stages.Choice.{Choice}

-- x and y after a stage that leaves both
now : {x z : Float} {v u w : List Float} → AsKnown x v z u → w ≡ v → AsKnown x v z w
now h e = record { place = h.place; shows = e }

module _ (i : Type 0) (x : Float) (v : List Float) where
  -- y survives what is written aside of it
  sees : (p : Progress) → Survives p.n (λ (ws : List Float). vector p.n ws y ≡ v)
  sees p = y_survives p.n v

  -- ---- the attempt: x and y stay, and it tells nothing

  -- what an attempt comes to: it is rejected, and x and y stay; or it says something
  abbrev Came : Tried → List Float → List Float → Type 0
  Came (rejected p) ws q = Holds x v p ws
  Came (says t) ws q = Leads i x v (after t ws q)

  abbrev Comes : After Tried → Type 0
  Comes a = Came a.is a.ws a.q

  newton_start_comes : (p : Progress) (ws q : List Float) → Holds x v p ws → Comes (newton_start p ws q)
  unfolding newton_start
  newton_start_comes p ws q h =
      let copy = copied_before (sees p) (row p.n y_predict) (row p.n y_new) p.n ws (omega arith) h.shows in
      let shows = filled_before (sees p) (row p.n delta) p.n _ _ (omega arith) copy in
      record { because = tt; holds = now h shows }

  refactored_comes : (p : Progress) (ws q : List Float) → Holds x v p ws → Comes (refactored p ws q)
  unfolding refactored halved
  refactored_comes p ws q h =
      let shows = factored_keeps (sees p) p.aim.c p.pivot ws h.shows in
      either Comes _
      (λ _. newton_start_comes _ _ q (now h shows))
      (λ _. now h (rescaled_keeps (sees p) _ _ _ shows))

  attempt_at_comes : (p : Progress) (ws q : List Float) → Holds x v p ws → Comes (attempt_at p ws q)
  unfolding attempt_at
  attempt_at_comes p ws q h =
      let predicts : Holds x v p (predicted_all p.n p.order ws) = now h (predicted_keeps (sees p) p.order ws h.shows) in
      either Comes _ (λ _. refactored_comes p _ q predicts) (λ _. newton_start_comes p _ q predicts)

  -- the step that the end tells is the step that was tested
  unless_stuck_comes :
      (p : Progress) (ws q : List Float) → p.aim.h_signed ≡ p.span.direction ⊗ p.pace.h → Holds x v p ws → Comes (unless_stuck p ws q)
  unfolding unless_stuck
  unless_stuck_comes p ws q aims h =
      either Comes _
      (λ e. record { because = (refl, inr (rw aims at e)); holds = h })
      (λ _. attempt_at_comes _ ws q h)

  -- what an aim tells: its step is the one of its pace, or nothing is left of the way
  abbrev AimTells : Progress → Option (Pace × Aim) → Type 0
  AimTells p None = Arrived p.span.direction p.span.xend p.x
  AimTells p (Some (g, a)) = a.h_signed ≡ p.span.direction ⊗ g.h

  aimed_tells : (p : Progress) (ws : List Float) → AimTells p (aimed p ws).is
  unfolding aimed cut_at_end
  aimed_tells p ws =
      either (λ (a : Left (Option (Pace × Aim))). AimTells p a.is) _
      (λ _. either (λ (a : Left (Option (Pace × Aim))). AimTells p a.is) _ (λ e. inr e) (λ _. refl))
      (λ _. refl)

  headed_comes : (p : Progress) (a : Option (Pace × Aim)) (ws q : List Float) → AimTells p a → Holds x v p ws → Comes (headed p a ws q)
  headed_comes p None ws q t h = record { because = (refl, t); holds = h }
  headed_comes p (Some (g, a)) ws q t h = unless_stuck_comes _ ws q t h

  attempt_comes : (p : Progress) (ws q : List Float) → Holds x v p ws → Comes (attempt p ws q)
  unfolding attempt fitted_attempt
  attempt_comes p ws q h =
      let f = fitted p ws in
      let g = with_pace p f.is in
      let shows = aimed_keeps g (sees p) f.ws (fitted_keeps p (sees p) ws h.shows) in
      either Comes _
      (λ e. record { because = (refl, leb-true _ _ e); holds = h })
      (λ _. either Comes _
      (λ e. record { because = (refl, inl e); holds = h })
      (λ _. headed_comes g (aimed g f.ws).is _ q (aimed_tells g f.ws) (now h shows)))

  -- ---- the main loop

  onward_leads :
      (more : Progress → List Float → List Float → After Turn) (a : Tried) (ws q : List Float) → Came a ws q →
      ((r : Progress) → a ≡ rejected r → Holds x v r ws → Leads i x v (more r ws q)) → Leads i x v (onward more a ws q)
  onward_leads more (rejected r) ws q h further = further r refl h
  onward_leads more (says t) ws q l further = l

  -- a rejected attempt was counted, so that one fewer is left
  tries_leads :
      (k : ℕ) (p : Progress) (ws q : List Float) → p.steps.total ≤ p.limits.steps → attempts_left p ≡ k → Holds x v p ws →
      Leads i x v (tries k p ws q)
  unfolding tries
  tries_leads zero p ws q within e h = absurd (omega arith)
  tries_leads (suc k) p ws q within e h =
      let a = attempt p ws q in
      onward_leads (tries k) a.is a.ws a.q (attempt_comes p ws q h)
      (λ r back j. let was : Rejected p r = rw back at (attempt_tries p ws q within) in
      tries_leads k r a.ws a.q (omega arith) (omega arith) j)

  loop_leads : (p : Progress) (ws q : List Float) → p.steps.total ≤ p.limits.steps → Holds x v p ws → Leads i x v (main_loop p ws q)
  unfolding main_loop
  loop_leads p ws q within h = tries_leads _ p ws q within refl h

  -- ---- Newton's reply

  -- an accepted step tells its x and y; the notice's slice has room for them
  step_accepted_comes :
      (p : Progress) (safety norm : Float) (ws q : List Float) → length ws ≡ need p.n → 8 * p.n ≤ length q →
      Comes (step_accepted p safety norm ws q)
  unfolding step_accepted
  step_accepted_comes p safety norm ws q long asks =
      let w = accepted_long (need p.n) p.n p.order ws long in
      record { because = tt; holds = record { place = refl; shows = sym (notice_first p.n y _ q (omega arith) (omega arith) asks) } }

  judged_comes :
      (p : Progress) (ws q : List Float) → length ws ≡ need p.n → 8 * p.n ≤ length q → Holds x v p ws → Comes (judged p ws q)
  unfolding judged error_rejected
  judged_comes p ws q long asks h =
      let shows = error_keeps (sees p) p.order ws h.shows in
      either Comes _
      (λ _. now h (rescaled_keeps (sees p) _ _ _ shows))
      (λ _. step_accepted_comes p _ _ _ q (error_keeps (exact p) p.order ws long) asks)

  iterated_comes :
      (p : Progress) (norm : Float) (ws q : List Float) → length ws ≡ need p.n → 8 * p.n ≤ length q → Holds x v p ws →
      Comes (iterated p norm ws q)
  unfolding iterated newton_failed newton_again
  iterated_comes p norm ws q long asks h =
      either Comes _
      (λ _. judged_comes p ws q long asks h)
      (λ _. either Comes _
      (λ _. record { because = tt; holds = h })
      (λ _. record { because = tt; holds = h }))

  newton_comes :
      (p : Progress) (values ws q : List Float) → length ws ≡ need p.n → 8 * p.n ≤ length q → Holds x v p ws →
      Comes (newton_replied p values ws q)
  unfolding newton_replied
  newton_comes p values ws q long asks h =
      let shows = advanced_keeps (sees p) _ (correction_keeps (sees p) p.aim.c p.pivot values ws h.shows) in
      let wide = advanced_keeps (exact p) _ (correction_keeps (exact p) p.aim.c p.pivot values ws long) in
      iterated_comes _ _ _ q wide asks (now h shows)

  -- ---- the start

  started_leads :
      (p : Progress) (h_abs : Float) (ws q : List Float) → length ws ≡ need p.n → 8 * p.n ≤ length q → Leads i x v (started p h_abs ws q)
  unfolding started
  started_leads p h_abs ws q long asks =
      record { because = tt; holds = record { place = refl; shows = differences_told p.n _ _ ws q long asks } }

  first_step_leads :
      (p : Progress) (s : Option Float) (ws q : List Float) → length ws ≡ need p.n → 8 * p.n ≤ length q → Holds x v p ws →
      Leads i x v (first_step p s ws q)
  unfolding first_step hinit_asks
  first_step_leads p None ws q long asks h =
      record { because = tt; holds = now h (euler_keeps (sees p) _ ws h.shows) }
  first_step_leads p (Some z) ws q long asks h = started_leads p _ ws q long asks

  -- ---- after a step

  chosen_leads :
      (p : Progress) (c : Choice) (ws q : List Float) → p.steps.total ≤ p.limits.steps → Holds x v p ws → Leads i x v (chosen p c ws q)
  unfolding chosen
  chosen_leads p c ws q within h =
      let shows = rescaled_keeps (sees p) c.order c.factor ws h.shows in
      either (Leads i x v) _
      (λ _. loop_leads _ _ q within (now h shows))
      (λ _. record { because = tt; holds = now h shows })

  stepped_leads : (p : Progress) (ws q : List Float) → p.steps.total ≤ p.limits.steps → Holds x v p ws → Leads i x v (stepped p ws q)
  unfolding stepped ordered
  stepped_leads p ws q within h =
      let shows = error_above_keeps (sees p) p.order _ (error_below_keeps (sees p) p.order ws h.shows) in
      either (Leads i x v) _
      (λ e. record { because = (refl, inl e); holds = h })
      (λ _. either (Leads i x v) _
      (λ _. chosen_leads p _ _ q within (now h shows))
      (λ _. loop_leads p ws q within h))

  -- ---- by the place: a question's reply brings values

  module _ (p : Progress) (values ws q : List Float) (m : Meets x v p ws q) where
    -- with the Jacobian stored before y, or a derivative beyond it
    jacobian_stored_lem : Holds x v p (loaded values 0 0 (p.n * p.n) ws)
    jacobian_stored_lem = now m.holds (loaded_before (sees p) values 0 0 (p.n * p.n) ws (omega arith) m.holds.shows)

    derivative_stored : Holds x v p (loaded values 0 (row p.n f0) p.n ws)
    derivative_stored = now m.holds (loaded_beyond (sees p) values 0 (row p.n f0) p.n ws (omega arith) m.holds.shows)

    first_derivative_leads : Leads i x v (first_derivative p values ws q)
    unfolding first_derivative
    first_derivative_leads = record { because = tt; holds = derivative_stored }

    first_jacobian_leads : Leads i x v (first_jacobian p values ws q)
    unfolding first_jacobian jacobian_stored
    first_jacobian_leads = first_step_leads _ _ _ q (loaded_long _ values 0 0 _ ws m.long) m.asks jacobian_stored_lem

    hinit_leads : Leads i x v (hinit_replied p values ws q)
    unfolding hinit_replied
    hinit_leads = started_leads _ _ _ q (loaded_long _ values 0 _ _ ws m.long) m.asks

    restarted_leads : (w : Awaited) → Leads i x v (restarted w p values ws q)
    unfolding restarted
    restarted_leads w = record { because = tt; holds = now derivative_stored (differences_keep (sees p) _ _ _ derivative_stored.shows) }

    restart_jacobian_leads : Leads i x v (restart_jacobian p values ws q)
    unfolding restart_jacobian jacobian_stored
    restart_jacobian_leads = loop_leads _ _ q m.within jacobian_stored_lem

    step_jacobian_leads : Leads i x v (step_jacobian p values ws q)
    unfolding step_jacobian jacobian_stored
    step_jacobian_leads = stepped_leads _ _ q m.within jacobian_stored_lem

    order_jacobian_leads : Leads i x v (order_jacobian p values ws q)
    unfolding order_jacobian jacobian_stored
    order_jacobian_leads = loop_leads _ _ q m.within jacobian_stored_lem

    failed_leads : Leads i x v (failed_turn p values ws q)
    unfolding failed_turn jacobian_stored halved
    failed_leads = loop_leads _ _ q m.within (now jacobian_stored_lem (rescaled_keeps (sees p) _ _ _ jacobian_stored_lem.shows))

    newton_leads : Leads i x v (newton_turn p values ws q)
    unfolding newton_turn
    newton_leads =
        let a = newton_replied p values ws q in
        onward_leads main_loop a.is a.ws a.q (newton_comes p values ws q m.long m.asks m.holds)
        (λ r e h. let back = reply_back p values ws q e in loop_leads r a.ws a.q (omega arith) h)

-- ---- by the reply

unsuited : {k : ℕ} {a : Type 0} → None ≡ Some k → a
unsuited e = let z : ◌≡◌ {A = ℕ} 0 1 = cc in absurd (omega arith)

module _ (x : Float) (v : List Float) (p : Progress) (values ws q : List Float) (m : Meets x v p ws q) where
  -- x and v as they are known after the reply r
  abbrev Replied : Reply → After Turn → Type 0
  Replied r t = Leads (r ≡ Interrupt) (given_x r x) (given_y p.n r values v) t

  modified_leads : (w : Awaited) (z : Float) → p.n ≤ length values → Replied (Modified z) (modified w p z values ws q)
  unfolding modified
  modified_leads w z enough =
      record { because = tt; holds = record { place = refl; shows = loaded_is values p.n ws enough (omega arith) } }

  start_noticed_leads : {k : ℕ} (r : Reply) → word_wants p.n r ≡ Some k → k ≤ length values → Replied r (start_noticed p r values ws q)
  start_noticed_leads Values e enough = loop_leads _ x v p ws q m.within m.holds
  start_noticed_leads Continue e enough = loop_leads _ x v p ws q m.within m.holds
  start_noticed_leads Interrupt e enough = record { because = (refl, refl); holds = m.holds }
  start_noticed_leads {k} (Modified z) e enough = let all : p.n ≡ k = cc in modified_leads ModifiedStartDerivative z (omega arith)

  step_noticed_leads : {k : ℕ} (r : Reply) → word_wants p.n r ≡ Some k → k ≤ length values → Replied r (step_noticed p r values ws q)
  step_noticed_leads Values e enough = stepped_leads _ x v p ws q m.within m.holds
  step_noticed_leads Continue e enough = stepped_leads _ x v p ws q m.within m.holds
  step_noticed_leads Interrupt e enough = record { because = (refl, refl); holds = m.holds }
  step_noticed_leads {k} (Modified z) e enough = let all : p.n ≡ k = cc in modified_leads ModifiedStepDerivative z (omega arith)

  -- only values suit a question: so x and v stay
  question_leads : {k : ℕ} (many : ℕ) (r : Reply) (t : After Turn) → values_want many r ≡ Some k → Leads (r ≡ Interrupt) x v t → Replied r t
  question_leads many Values t e l = l
  question_leads many Continue t e l = unsuited e
  question_leads many Interrupt t e l = unsuited e
  question_leads many (Modified z) t e l = unsuited e

  pub replied_means :
      {k : ℕ} (w : Awaited) (r : Reply) → is_ended w ≡ false → wants p.n w r ≡ Some k → k ≤ length values →
      Replied r (replied w p r values ws q)
  replied_means FirstDerivative r going e enough = question_leads _ r _ e (first_derivative_leads _ x v p values ws q m)
  replied_means FirstJacobian r going e enough = question_leads _ r _ e (first_jacobian_leads _ x v p values ws q m)
  replied_means StartDerivative r going e enough = question_leads _ r _ e (hinit_leads _ x v p values ws q m)
  replied_means StartNotice r going e enough = start_noticed_leads r e enough
  replied_means ModifiedStartDerivative r going e enough = question_leads _ r _ e (restarted_leads _ x v p values ws q m ModifiedStartJacobian)
  replied_means ModifiedStartJacobian r going e enough = question_leads _ r _ e (restart_jacobian_leads _ x v p values ws q m)
  replied_means NewtonDerivative r going e enough = question_leads _ r _ e (newton_leads _ x v p values ws q m)
  replied_means FailedJacobian r going e enough = question_leads _ r _ e (failed_leads _ x v p values ws q m)
  replied_means StepNotice r going e enough = step_noticed_leads r e enough
  replied_means ModifiedStepDerivative r going e enough = question_leads _ r _ e (restarted_leads _ x v p values ws q m ModifiedStepJacobian)
  replied_means ModifiedStepJacobian r going e enough = question_leads _ r _ e (step_jacobian_leads _ x v p values ws q m)
  replied_means OrderJacobian r going e enough = question_leads _ r _ e (order_jacobian_leads _ x v p values ws q m)
  replied_means Ended r going e enough = absurd (true≢false going)

-- ---- an interruption: only notices take it, and nothing changes

pub interrupted :
    {k : ℕ} (w : Awaited) (p : Progress) (values ws q : List Float) → wants p.n w Interrupt ≡ Some k →
    replied w p Interrupt values ws q ≡ after (end UserInterrupt p) ws q
interrupted FirstDerivative p values ws q e = unsuited e
interrupted FirstJacobian p values ws q e = unsuited e
interrupted StartDerivative p values ws q e = unsuited e
interrupted StartNotice p values ws q e = refl
interrupted ModifiedStartDerivative p values ws q e = unsuited e
interrupted ModifiedStartJacobian p values ws q e = unsuited e
interrupted NewtonDerivative p values ws q e = unsuited e
interrupted FailedJacobian p values ws q e = unsuited e
interrupted StepNotice p values ws q e = refl
interrupted ModifiedStepDerivative p values ws q e = unsuited e
interrupted ModifiedStepJacobian p values ws q e = unsuited e
interrupted OrderJacobian p values ws q e = unsuited e
interrupted Ended p values ws q e = refl
