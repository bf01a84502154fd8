-- Demand 3 of the tender, with 02 §6's `start`: 'Take an accepted configuration, any replies at all, each call handing back the state
-- last returned; refused calls don't count.' That is an `Exchange` (History.antt). 'At every notice and at the end' the following holds.
use Rattle.std.specs.Prelude.{◌≡◌, List, ◌∷◌, ℕ, ◌+◌, ◌*◌, ◌≤◌}
use Rattle.std.proofs.Common.{sym, ap, arith}
use Rattle.rules.specs.Types.{Answer, Run}
use Rattle.rules.specs.Answers.{NoticeOrEnd}
use Rattle.rules.specs.Calls.{Configuration}
use Rattle.rules.specs.Bounds.{m}
use Rattle.rules.specs.History.{Exchange, derivatives, jacobians, step_notices, questions_and_notices, automatic_start}
use Rattle.rules.proofs.laws.HistoryLaws.{automatic_early, automatic_once, all_told}
use Rattle.rules.proofs.laws.ExchangeLaws.{Kept, idle, works, exchange_kept}

-- ---- the tender's letters

-- attempts T
abbrev pub T : Run → ℕ
T run = run.at.steps.total

-- accepted A
abbrev pub A : Run → ℕ
A run = run.at.steps.accepted

-- ---- the demand, clause by clause

pub record Counted (c : Configuration) (run : Run) (h : List Answer) : Type 0 where
  -- attempts T = accepted A + rejected
  pub attempts : T run ≡ A run + run.at.steps.rejected
  -- T is at most the step limit
  pub within_limit : T run ≤ c.settings.max_steps
  -- A is the number of step notices given
  pub accepted : A run ≡ step_notices h
  -- the derivatives asked equal `ode` plus `start`, the Jacobians asked their counter
  pub derivatives_asked : derivatives h ≡ run.at.evals.ode + run.at.evals.start
  pub jacobians_asked : jacobians h ≡ run.at.evals.jac
  -- factorings are at most T
  pub factorings : run.at.evals.lu ≤ T run
  -- Jacobians at most 2 + T
  pub few_jacobians : run.at.evals.jac ≤ 2 + T run
  -- counted derivatives at most 2 + mT + A
  pub few_derivatives : run.at.evals.ode ≤ 2 + m c * T run + A run
  -- the order is 1 to 5
  pub first_order : 1 ≤ run.at.order
  pub fifth_order : run.at.order ≤ 5
  -- the end comes after at most 6 + (m + 1)T + 2A questions and notices; so does every notice
  pub few_answers : questions_and_notices h ≤ 6 + (m c + 1) * T run + 2 * A run

-- ---- the theorem

-- read off what every reply keeps (ExchangeLaws.antt): at a notice and at the end nothing is under way, and every question that
-- was asked is counted
counted : {c : Configuration} {run : Run} {a : Answer} {h : List Answer} → Kept c run (a ∷ h) → NoticeOrEnd a → Counted c run (a ∷ h)
counted (idle none) n = omega arith
counted {c} {run} {a} {h} (works s i t) n =
    let quiet = t.quiet n in
    let once = automatic_once c (a ∷ h) in
    let told = all_told (a ∷ h) in
    let product : run.at.limits.newton * T run ≡ m c * T run = ap (λ (k : ℕ). k * T run) s.same_newton in
    omega arith

-- a is the last answer; calls that were refused after it change neither it nor the state
pub demand_3 : {c : Configuration} {run : Run} {a : Answer} {h : List Answer} → Exchange c run (a ∷ h) → NoticeOrEnd a → Counted c run (a ∷ h)
demand_3 x n = counted (exchange_kept x) n

-- ---- beside it: when `start` is 1

-- exactly where the automatic start has asked its derivative (`automatic_start`, History.antt); otherwise it is 0
abbrev pub StartShown : Configuration → Run → List Answer → Type 0
StartShown c run h = run.at.evals.start ≡ automatic_start c h

shown : {c : Configuration} {run : Run} {h : List Answer} → Kept c run h → StartShown c run h
shown {c} {h = h} (idle none) = sym (automatic_early c h (omega arith))
shown (works s i t) = i.automatic

-- after every answer, notice or not
pub start_is_1_once_asked : {c : Configuration} {run : Run} {h : List Answer} → Exchange c run h → StartShown c run h
start_is_1_once_asked x = shown (exchange_kept x)
