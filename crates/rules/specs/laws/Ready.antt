-- What the private functions ask of their callers: room in the slices, and a state whose numbers are small enough that no
-- counter can wrap. Numbers only: nothing is asked of a float.
use Rattle.std.specs.Prelude.{List, ℕ, ◌+◌, ◌*◌, ◌^◌, ◌≤◌, ◌<◌, length, take, Float, true, ◌≡◌, Some}
use Rattle.rules.specs.Types.{Progress}
use Rattle.rules.specs.Types.{Awaited, Reply}
use Rattle.matrix.specs.Size.{max_n}
use Rattle.rules.specs.Places.{need}
use Rattle.rules.specs.Replies.{awaits_newton, word_wants, wants}

-- a workspace of the needed length for n components, 1 to 32 of them
pub record Room (n : ℕ) (ws : List Float) : Type 0 where
  pub some : 1 ≤ n
  pub few : n ≤ max_n
  pub square : n * n ≤ 1024
  pub long : n * n + n * n + 33 * n ≤ length ws

-- the state's own numbers
pub record Sane (p : Progress) : Type 0 where
  pub first : 1 ≤ p.order
  pub fifth : p.order ≤ 5
  pub patient : p.limits.steps ≤ 1000000
  pub counted : p.steps.total ≤ p.limits.steps
  pub rejects : p.steps.rejected ≤ p.steps.total + 1
  pub factors : p.evals.lu ≤ p.steps.total

-- all that an attempt asks
pub record Ready (p : Progress) (ws q : List Float) : Type 0 where
  pub room : Room p.n ws
  pub asks : 8 * p.n ≤ length q
  pub sane : Sane p

-- what a reply's stages ask besides
pub record Awake (p : Progress) : Type 0 where
  pub evaluated : p.evals.ode ≤ 2 ^ 40
  pub derived : p.evals.jac ≤ 2 ^ 40
  pub accepts : p.steps.accepted ≤ 1000000
  pub pending : p.steps.rejected ≤ p.steps.total
  pub equals : p.pace.equal_steps ≤ 1000000
  pub turns : 1 ≤ p.limits.newton
  pub patience : p.limits.newton ≤ 64

-- of it, what the judgement of a step asks
pub record Judging (p : Progress) : Type 0 where
  pub accepts : p.steps.accepted ≤ 1000000
  pub equals : p.pace.equal_steps ≤ 1000000
  pub patience : p.limits.newton ≤ 64

-- a notice's reply brings the values that it needs
pub record Enough (p : Progress) (r : Reply) (values : List Float) : Type 0 where
  pub count : ℕ
  pub suits : word_wants p.n r ≡ Some count
  pub enough : count ≤ length values

-- a reply that suits the place, with its values
pub record Answered (w : Awaited) (p : Progress) (r : Reply) (values : List Float) : Type 0 where
  pub count : ℕ
  pub suits : wants p.n w r ≡ Some count
  pub enough : count ≤ length values
  pub iterates : awaits_newton w ≡ true → p.newton.iters < p.limits.newton

-- what the checks on going on leave: all of this, on the needed places of the workspace
pub record Handed (w : Awaited) (p : Progress) (r : Reply) (values ws q : List Float) : Type 0 where
  pub works : need p.n ≤ length ws
  pub ready : Ready p (take (need p.n) ws) q
  pub awake : Awake p
  pub answered : Answered w p r values
