-- How the counters of a run stand at each place: what was asked and is not counted yet, and how much may still be counted. It is
-- what every reply keeps, and demand 3 is read off it. Numbers only: no float plays a part.
use Rattle.std.specs.Prelude.{◌≡◌, List, ◌∷◌, ℕ, ◌+◌, ◌-◌, ◌*◌, ◌≤◌, length}
use Rattle.rules.specs.Types.{Answer, Progress, Awaited, FirstDerivative, FirstJacobian, StartDerivative, StartNotice, ModifiedStartDerivative, ModifiedStartJacobian, NewtonDerivative, FailedJacobian, StepNotice, ModifiedStepDerivative, ModifiedStepJacobian, OrderJacobian, Ended}
use Rattle.rules.specs.Replies.{is_ended}
use Rattle.rules.specs.laws.Moved.{Repivoted}
use Rattle.rules.specs.Answers.{is_end, NoticeOrEnd}
use Rattle.rules.specs.Calls.{Configuration}
use Rattle.rules.specs.History.{derivatives, jacobians, start_notices, step_notices, automatic_start}

-- ---- the table

-- what a place has of each
pub record Row : Type 0 where
  -- attempts under way: counted, and neither accepted nor rejected
  pub underway : ℕ
  -- derivatives and Jacobians that were asked and are counted when the reply comes
  pub ode : ℕ
  pub jac : ℕ
  -- derivatives and Jacobians that may still be counted before there is another attempt or accepted step
  pub ode_left : ℕ
  pub jac_left : ℕ
  -- start notices so far
  pub starts : ℕ
  -- answers yet to come up to the third, which is the first that can be the start's derivative
  pub ahead : ℕ
  -- equal steps, at most
  pub equal : ℕ

abbrev columns : ℕ → ℕ → ℕ → ℕ → ℕ → ℕ → ℕ → ℕ → Row
columns underway ode jac ode_left jac_left starts ahead equal =
    record { underway = underway; ode = ode; jac = jac; ode_left = ode_left; jac_left = jac_left; starts = starts; ahead = ahead; equal = equal }

-- What is left comes from here: of the 2 + that derivatives and Jacobians begin with, one each is for the start and one for its
-- modification; an attempt brings m derivatives and a Jacobian; an accepted step brings a derivative, and keeps the attempt's
-- Jacobian, for its modification or for a change of order, which never come both. So every place can pay for what it asks.
--
-- `turns` are what is left of Newton's iteration, `accepted` the steps accepted so far.
--
--          u                 attempts under way
--          | o               derivatives asked and not counted yet
--          | | j             Jacobians asked and not counted yet
--          | | | O           derivatives that may still be counted
--          | | | | J         Jacobians that may still be counted
--          | | | | | s       start notices so far
--          | | | | | | a     answers ahead, up to the third
--          | | | | | | | e   equal steps, at most
--          u o j O J s a e
abbrev pub row_at : ℕ → ℕ → Awaited → Row
row_at turns accepted FirstDerivative =
    columns 0 1 0 2 2 0 2 accepted
row_at turns accepted FirstJacobian =
    columns 0 0 1 1 2 0 1 accepted
row_at turns accepted StartDerivative =
    columns 0 0 0 1 1 0 0 accepted
row_at turns accepted StartNotice =
    columns 0 0 0 1 1 1 0 accepted
row_at turns accepted ModifiedStartDerivative =
    columns 0 1 0 1 1 1 0 accepted
row_at turns accepted ModifiedStartJacobian =
    columns 0 0 1 0 1 1 0 accepted
row_at turns accepted NewtonDerivative =
    columns 1 1 0 turns 1 1 0 accepted
row_at turns accepted FailedJacobian =
    columns 1 0 1 0 1 1 0 accepted
row_at turns accepted StepNotice =
    columns 0 0 0 1 1 1 0 accepted
row_at turns accepted ModifiedStepDerivative =
    columns 0 1 0 1 1 1 0 accepted
row_at turns accepted ModifiedStepJacobian =
    columns 0 0 1 0 1 1 0 0
row_at turns accepted OrderJacobian =
    columns 0 0 1 0 1 1 0 accepted
row_at turns accepted Ended =
    columns 0 0 0 0 0 1 0 accepted

abbrev pub here : Progress → Awaited → Row
here p w = row_at (p.limits.newton - p.newton.iters) p.steps.accepted w

-- the main loop takes a state as the end leaves it: nothing is asked, and nothing is left of the allowances
abbrev pub still : Progress → Row
still p = here p Ended

-- ---- what holds

-- the numbers of p with the history h, by a row of the table
pub record Stands (c : Configuration) (r : Row) (p : Progress) (h : List Answer) : Type 0 where
  pub attempts : p.steps.total ≡ p.steps.accepted + p.steps.rejected + r.underway
  pub within : p.steps.total ≤ p.limits.steps
  pub notices : p.steps.accepted ≡ step_notices h
  pub starting : start_notices h ≡ r.starts
  pub one_start : r.starts ≤ 1
  pub evaluations : derivatives h ≡ p.evals.ode + r.ode + p.evals.start
  pub automatic : p.evals.start ≡ automatic_start c h
  pub differentials : jacobians h ≡ p.evals.jac + r.jac
  pub factorings : p.evals.lu ≤ p.steps.total
  pub allowed : p.evals.ode + r.ode_left ≤ 2 + p.limits.newton * p.steps.total + p.steps.accepted
  pub allowed_jac : p.evals.jac + r.jac_left ≤ 2 + p.steps.total
  pub enough : r.ode ≤ r.ode_left
  pub enough_jac : r.jac ≤ r.jac_left
  pub first : 1 ≤ p.order
  pub fifth : p.order ≤ 5
  pub equals : p.pace.equal_steps ≤ r.equal
  pub few_equals : r.equal ≤ p.steps.accepted
  pub coming : 3 - length h ≡ r.ahead
  pub turns : 1 ≤ p.limits.newton

-- ---- what an answer tells of its place

-- the end is told just where the run has ended; and at a notice and at the end nothing is under way and every question is counted
pub record Tells (w : Awaited) (r : Row) (a : Answer) : Type 0 where
  pub ended : is_end a ≡ is_ended w
  pub quiet : NoticeOrEnd a → r.underway + r.ode + r.jac ≡ 0

-- what the beginning set stays, and so do the pivots but for factorings
pub record Stays (p r : Progress) : Type 0 where
  pub same_n : r.n ≡ p.n
  pub same_steps : r.limits.steps ≡ p.limits.steps
  pub same_newton : r.limits.newton ≡ p.limits.newton
  pub same_guard : r.limits.guarded ≡ p.limits.guarded
  pub same_span : r.span ≡ p.span
  pub pivots : Repivoted p.n p.pivot r.pivot

-- from p and the history h a reply led to the answer a, and to the state r at w
pub record Next (c : Configuration) (p : Progress) (h : List Answer) (a : Answer) (w : Awaited) (r : Progress) : Type 0 where
  pub stays : Stays p r
  pub stands : Stands c (here r w) r (a ∷ h)
  pub tells : Tells w (here r w) a
