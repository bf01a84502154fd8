-- What a stage does to a state's numbers, whatever the floats are: the counters are so many higher, and what the beginning
-- set stays.
use Rattle.std.specs.Prelude.{◌≡◌, List, ℕ, ◌+◌, ◌≤◌, Float}
use Rattle.rules.specs.Types.{Progress}
use Rattle.rules.specs.Factor.{factored}

-- n, the limits and `start` stay; each other counter is so many higher, the factorings at most so many; the order is now this one;
-- and of equal steps there are at most as many more as were accepted
pub record Counts (p r : Progress) (ode jac lu total accepted rejected order : ℕ) : Type 0 where
  pub same_n : r.n ≡ p.n
  pub same_steps : r.limits.steps ≡ p.limits.steps
  pub same_newton : r.limits.newton ≡ p.limits.newton
  pub derivatives : r.evals.ode ≡ p.evals.ode + ode
  pub jacobians : r.evals.jac ≡ p.evals.jac + jac
  pub factorings : r.evals.lu ≤ p.evals.lu + lu
  pub same_start : r.evals.start ≡ p.evals.start
  pub attempts : r.steps.total ≡ p.steps.total + total
  pub accepts : r.steps.accepted ≡ p.steps.accepted + accepted
  pub rejects : r.steps.rejected ≡ p.steps.rejected + rejected
  pub ordered : r.order ≡ order
  pub equals : r.pace.equal_steps ≤ p.pace.equal_steps + accepted

-- the pivots: as they were, or those of a factoring more
pub data Repivoted (n : ℕ) (old : List ℕ) : List ℕ → Type 0 where
  as_before : Repivoted n old old
  anew : {last : List ℕ} (c : Float) (ws : List Float) → Repivoted n old last → Repivoted n old (factored n c last ws).is.pivot

-- the whole of it: p became r. The numbers are, in this order, how many more derivatives, Jacobians, factorings (at most),
-- attempts, accepted and rejected ones there are, and the order
pub record Moved (p r : Progress) (ode jac lu total accepted rejected order : ℕ) : Type 0 where
  pub counts : Counts p r ode jac lu total accepted rejected order
  pub same_guard : r.limits.guarded ≡ p.limits.guarded
  pub same_span : r.span ≡ p.span
  pub pivots : Repivoted p.n p.pivot r.pivot
