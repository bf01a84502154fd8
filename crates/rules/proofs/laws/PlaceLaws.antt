-- Every reply keeps how the counters stand: place by place, read off the definition, whatever the floats are.
use Rattle.std.specs.Prelude.{◌≡◌, List, ◌∷◌, Bool, ℕ, ◌+◌, ◌-◌, ◌≤◌, ◌<◌, length, Float, Option, Some, None}
use Rattle.std.proofs.Math.Path.{refl}
use Rattle.std.proofs.Math.Bool.{false}
use Rattle.std.proofs.lemmas.Bool.{false≢true}
use Rattle.std.proofs.Common.{arith, leb-false, ltb-true}
use Rattle.loops.specs.laws.ChoiceLaws.{either}
use Rattle.rules.specs.Types.{Progress, Awaited, Answer, Turn, Reply, Values, Continue, Interrupt, Modified, Derivative, Jacobian, Start, FirstDerivative, FirstJacobian, StartDerivative, StartNotice, ModifiedStartDerivative, ModifiedStartJacobian, NewtonDerivative, FailedJacobian, StepNotice, ModifiedStepDerivative, ModifiedStepJacobian, OrderJacobian, Ended}
use Rattle.rules.specs.State.{ode+1, jac+1, After}
use Rattle.rules.specs.Newton.{too_slow, gave_up}
use Rattle.rules.proofs.laws.OrderLaws.{choice_within}
use Rattle.rules.specs.Attempt.{halved, Tried, rejected, says, onward, main_loop}
use Rattle.rules.specs.Step.{error_rejected, step_accepted, judged, newton_failed, newton_again, iterated, newton_replied}
use Rattle.rules.specs.Reply.{jacobian_stored, started, hinit_asks, first_step, hinit_replied, modified, restarted, outdated, chosen, ordered, stepped, newton_turn, failed_turn, first_derivative, first_jacobian, restart_jacobian, step_jacobian, order_jacobian, start_noticed, step_noticed, replied}
use Rattle.rules.proofs.laws.PassedLaws.{or_second}
use Rattle.rules.specs.Calls.{Configuration}
use Rattle.rules.specs.History.{automatic_start}
use Rattle.rules.proofs.laws.HistoryLaws.{automatic_early, automatic_given, automatic_asked}
use Rattle.rules.specs.laws.Standing.{here, still, Stands, Stays, Next}
use Rattle.rules.proofs.laws.StandingLaws.{stays_with, derivative_asked, jacobian_asked, start_told, step_told, end_told, next_later, loop_next}
use Rattle.rules.specs.declared.stages.Choice.{Choice}

module _ (c : Configuration) where
  -- what a reply led to
  abbrev pub Leads : Progress → List Answer → After Turn → Type 0
  Leads p h t = Next c p h t.is.answer t.is.run.awaited t.is.run.at

  -- ---- the start

  module _ (p : Progress) (values : List Float) {h : List Answer} where
    first_derivative_leads : (ws q : List Float) → Stands c (here p FirstDerivative) p h → Leads p h (first_derivative p values ws q)
    unfolding first_derivative
    first_derivative_leads ws q i =
        let none = automatic_early c h (omega arith) in
        let none_yet = automatic_early c (Jacobian p.x ∷ h) (omega arith) in
        record { stays = stays_with p; stands = omega arith; tells = record { ended = refl; quiet = λ n. absurd (false≢true n) } }

    -- the first Jacobian's reply: with a step that is given the start is told, else its derivative is asked, and `start` shows it
    start_asked_lem :
        {x : Float} {r : Progress} → Stays p r → None ≡ c.settings.first_step → 1 ≤ length c.y0 → 3 - length h ≡ 1 →
        (automatic_start c (Derivative x ∷ h) ≡ 1 → Stands c (here r StartDerivative) r (Derivative x ∷ h)) →
        Next c p h (Derivative x) StartDerivative r
    start_asked_lem {x} s same some third i =
        let asked = automatic_asked c (Derivative x ∷ h) (rw (← same)) some (omega arith) in
        record { stays = s; stands = i asked; tells = record { ended = refl; quiet = λ n. absurd (false≢true n) } }

    first_step_leads :
        (s : Option Float) (ws q : List Float) → s ≡ c.settings.first_step → 1 ≤ length c.y0 → Stands c (here p FirstJacobian) p h →
        Leads p h (first_step (jac+1 p) s ws q)
    unfolding first_step hinit_asks started
    first_step_leads None ws q same some i =
        let none = automatic_early c h (omega arith) in
        start_asked_lem (stays_with p) same some i.coming (λ asked. omega arith)
    first_step_leads (Some x) ws q same some i =
        let none = automatic_early c h (omega arith) in
        let given = automatic_given c (Start p.x ∷ h) (rw (← same)) in
        record { stays = stays_with p; stands = omega arith; tells = record { ended = refl; quiet = λ _. refl } }

    first_jacobian_leads :
        (ws q : List Float) → p.span.first_step ≡ c.settings.first_step → 1 ≤ length c.y0 → Stands c (here p FirstJacobian) p h →
        Leads p h (first_jacobian p values ws q)
    unfolding first_jacobian jacobian_stored
    first_jacobian_leads ws q same some i = first_step_leads p.span.first_step _ q same some i

    start_derivative_leads : (ws q : List Float) → Stands c (here p StartDerivative) p h → Leads p h (hinit_replied p values ws q)
    unfolding hinit_replied started
    start_derivative_leads ws q i = start_told c (stays_with p) i.coming (λ decided. omega arith)

  -- ---- a modification: its derivative and its Jacobian are counted, and no steps are equal

  module _ (p : Progress) (values : List Float) {h : List Answer} where
    modified_start_leads :
        (x : Float) (ws q : List Float) → Stands c (here p StartNotice) p h →
        Leads p h (modified ModifiedStartDerivative p x values ws q)
    unfolding modified
    modified_start_leads x ws q i = derivative_asked c (stays_with p) i.coming refl (λ decided. omega arith)

    modified_step_leads :
        (x : Float) (ws q : List Float) → Stands c (here p StepNotice) p h →
        Leads p h (modified ModifiedStepDerivative p x values ws q)
    unfolding modified
    modified_step_leads x ws q i = derivative_asked c (stays_with p) i.coming refl (λ decided. omega arith)

    restarted_start_leads :
        (ws q : List Float) → Stands c (here p ModifiedStartDerivative) p h →
        Leads p h (restarted ModifiedStartJacobian p values ws q)
    unfolding restarted
    restarted_start_leads ws q i = jacobian_asked c (stays_with p) i.coming refl (λ decided. omega arith)

    restarted_step_leads :
        (ws q : List Float) → Stands c (here p ModifiedStepDerivative) p h →
        Leads p h (restarted ModifiedStepJacobian p values ws q)
    unfolding restarted
    restarted_step_leads ws q i = jacobian_asked c (stays_with p) i.coming refl (λ decided. omega arith)

    restart_jacobian_leads : (ws q : List Float) → Stands c (here p ModifiedStartJacobian) p h → Leads p h (restart_jacobian p values ws q)
    unfolding restart_jacobian jacobian_stored
    restart_jacobian_leads ws q i = loop_next c _ q (stays_with p) (omega arith)

  -- ---- after a step

  -- where there is a Jacobian to spare: the order that is chosen is 1 to 5, and where it is another, the Jacobian is asked
  chosen_leads :
      (p : Progress) {h : List Answer} (k : Choice) (ws q : List Float) → 1 ≤ k.order → k.order ≤ 5 → Stands c (still p) p h →
      p.evals.jac + 1 ≤ 2 + p.steps.total → Leads p h (chosen p k ws q)
  unfolding chosen
  chosen_leads p {h} k ws q first fifth i spare =
      either (Leads p h) _
      (λ _. loop_next c _ q (stays_with p) (omega arith))
      (λ _. jacobian_asked c (stays_with p) i.coming refl (λ decided. omega arith))

  stepped_leads :
      (p : Progress) {h : List Answer} (ws q : List Float) → Stands c (still p) p h →
      (p.order < p.pace.equal_steps → p.evals.jac + 1 ≤ 2 + p.steps.total) → Leads p h (stepped p ws q)
  unfolding stepped ordered
  stepped_leads p {h} ws q i spare =
      either (Leads p h) _
      (λ _. end_told c (stays_with p) i.coming (λ decided. omega arith))
      (λ _. either (Leads p h) _
      (λ e. let order = choice_within p.order _ _ _ _ refl i.first i.fifth in
      chosen_leads p _ _ q order.0 order.1 i (spare (ltb-true _ _ e)))
      (λ _. loop_next c ws q (stays_with p) i))

  module _ (p : Progress) (values : List Float) {h : List Answer} where
    -- after a modification no steps are equal, so that no order is chosen: the Jacobian of the modification is the step's one
    step_jacobian_leads : (ws q : List Float) → Stands c (here p ModifiedStepJacobian) p h → Leads p h (step_jacobian p values ws q)
    unfolding step_jacobian jacobian_stored
    step_jacobian_leads ws q i = next_later c (stays_with p) (stepped_leads (outdated (jac+1 p)) _ q (omega arith) (λ chooses. absurd (omega arith)))

    order_jacobian_leads : (ws q : List Float) → Stands c (here p OrderJacobian) p h → Leads p h (order_jacobian p values ws q)
    unfolding order_jacobian jacobian_stored
    order_jacobian_leads ws q i = loop_next c _ q (stays_with p) (omega arith)

    -- Newton gave up: the Jacobian is counted, and the attempt rejected
    failed_jacobian_leads : (ws q : List Float) → Stands c (here p FailedJacobian) p h → Leads p h (failed_turn p values ws q)
    unfolding failed_turn jacobian_stored halved
    failed_jacobian_leads ws q i = loop_next c _ q (stays_with p) (omega arith)

  -- ---- the replies to notices

  module _ (p : Progress) (values : List Float) {h : List Answer} where
    start_noticed_leads : (r : Reply) (ws q : List Float) → Stands c (here p StartNotice) p h → Leads p h (start_noticed p r values ws q)
    start_noticed_leads Continue ws q i = loop_next c ws q (stays_with p) (omega arith)
    start_noticed_leads Interrupt ws q i = end_told c (stays_with p) i.coming (λ decided. omega arith)
    start_noticed_leads (Modified x) ws q i = modified_start_leads p values x ws q i
    start_noticed_leads Values ws q i = loop_next c ws q (stays_with p) (omega arith)

    step_noticed_leads : (r : Reply) (ws q : List Float) → Stands c (here p StepNotice) p h → Leads p h (step_noticed p r values ws q)
    step_noticed_leads Continue ws q i = stepped_leads p ws q (omega arith) (λ _. omega arith)
    step_noticed_leads Interrupt ws q i = end_told c (stays_with p) i.coming (λ decided. omega arith)
    step_noticed_leads (Modified x) ws q i = modified_step_leads p values x ws q i
    step_noticed_leads Values ws q i = stepped_leads p ws q (omega arith) (λ _. omega arith)

  -- ---- Newton's iteration

  -- what an attempt under way comes to: it is rejected, and the main loop takes its state; or it says something
  abbrev Comes : Progress → List Answer → Tried → Type 0
  Comes p h (rejected r) = Stays p r × Stands c (still r) r h
  Comes p h (says t) = Next c p h t.answer t.run.awaited t.run.at

  -- another iteration is asked for only where the limit allows one more
  not_given_up : (tol : Float) (m iters : ℕ) (prev norm : Float) → gave_up tol m iters prev norm ≡ false → iters + 1 < m
  unfolding gave_up
  not_given_up tol m iters prev norm =
      either (λ (b : Bool). b ≡ false → iters + 1 < m) _
      (λ _ e. let past = or_second (too_slow tol (m - iters) prev norm) _ e in omega (arith, leb-false))
      (λ _ e. omega (arith, leb-false))

  module _ (p : Progress) {h : List Answer} (i : Stands c (here p NewtonDerivative) p h) where
    judged_comes : (ws q : List Float) → Comes p h (judged (ode+1 p) ws q).is
    unfolding judged error_rejected step_accepted
    judged_comes ws q =
        either (λ (a : After Tried). Comes p h a.is) _
        (λ _. (stays_with p, omega arith))
        (λ _. (step_told c (stays_with p) i.coming (λ decided. omega arith)))

    iterated_comes : (norm : Float) (ws q : List Float) → Comes p h (iterated (ode+1 p) norm ws q).is
    unfolding iterated newton_failed newton_again
    iterated_comes norm ws q =
        either (λ (a : After Tried). Comes p h a.is) _
        (λ _. judged_comes ws q)
        (λ _. either (λ (a : After Tried). Comes p h a.is) _
        (λ _. (jacobian_asked c (stays_with p) i.coming refl (λ decided. omega arith)))
        (λ e. let more = not_given_up _ _ _ _ _ e in (derivative_asked c (stays_with p) i.coming refl (λ decided. omega arith))))

    reply_comes : (values ws q : List Float) → Comes p h (newton_replied p values ws q).is
    unfolding newton_replied
    reply_comes values ws q = iterated_comes _ _ q

    came_leads : (a : Tried) (ws q : List Float) → Comes p h a → Leads p h (onward main_loop a ws q)
    came_leads (rejected r) ws q (s, j) = loop_next c ws q s j
    came_leads (says t) ws q n = n

    newton_leads : (values ws q : List Float) → Leads p h (newton_turn p values ws q)
    unfolding newton_turn
    newton_leads values ws q =
        let a = newton_replied p values ws q in came_leads a.is a.ws a.q (reply_comes values ws q)

  -- ---- by the place

  pub replied_leads :
      (w : Awaited) (p : Progress) (r : Reply) (values ws q : List Float) {h : List Answer} → p.span.first_step ≡ c.settings.first_step →
      1 ≤ length c.y0 → Stands c (here p w) p h → Leads p h (replied w p r values ws q)
  replied_leads FirstDerivative p r values ws q same some i = first_derivative_leads p values ws q i
  replied_leads FirstJacobian p r values ws q same some i = first_jacobian_leads p values ws q same some i
  replied_leads StartDerivative p r values ws q same some i = start_derivative_leads p values ws q i
  replied_leads StartNotice p r values ws q same some i = start_noticed_leads p values r ws q i
  replied_leads ModifiedStartDerivative p r values ws q same some i = restarted_start_leads p values ws q i
  replied_leads ModifiedStartJacobian p r values ws q same some i = restart_jacobian_leads p values ws q i
  replied_leads NewtonDerivative p r values ws q same some i = newton_leads p i values ws q
  replied_leads FailedJacobian p r values ws q same some i = failed_jacobian_leads p values ws q i
  replied_leads StepNotice p r values ws q same some i = step_noticed_leads p values r ws q i
  replied_leads ModifiedStepDerivative p r values ws q same some i = restarted_step_leads p values ws q i
  replied_leads ModifiedStepJacobian p r values ws q same some i = step_jacobian_leads p values ws q i
  replied_leads OrderJacobian p r values ws q same some i = order_jacobian_leads p values ws q i
  replied_leads Ended p r values ws q same some i = end_told c (stays_with p) i.coming (λ decided. omega arith)
