-- The coefficients of the formulas of order 0 to 5: the tables at the head of `solve`, as its loops compute them.
use Rattle.std.specs.Prelude.{List, [], ◌∷◌, true, ℕ, ◌-◌, Float, set, replicate}
use Rattle.std.specs.Float.Ieee
use Rattle.std.specs.Float.{binary64}
use Rattle.loops.specs.Loop.{loop}
use Rattle.loops.specs.Cell.{at}
use Rattle.loops.specs.Arithmetic.{◌⊕◌, ◌⊖◌, ◌⊗◌, ◌⊘◌, float, +0, one}

-- MAX_ORDER
abbrev pub max_order : ℕ
max_order = 5

-- a decimal literal below 0: the f64 nearest to -num / den
abbrev minus : ℕ → ℕ → Float
minus num den = Ieee.round binary64 true num den

-- KAPPA: [0.0, -0.1850, -1.0 / 9.0, -0.0823, -0.0415, 0.0]
unfoldable pub kappa : List Float
kappa = +0 ∷ minus 1850 10000 ∷ Ieee.neg one ⊘ float 9 ∷ minus 823 10000 ∷ minus 415 10000 ∷ +0 ∷ []

-- gamma[k] = gamma[k - 1] + 1.0 / k, for k in 1..=MAX_ORDER
unfoldable pub gammas : List Float
gammas = loop 1 6 (λ k gamma. set gamma k (at gamma (k - 1) ⊕ one ⊘ float k)) (replicate 6 +0)

-- alpha[k] = (1.0 - KAPPA[k]) * gamma[k], for k in 0..=MAX_ORDER
unfoldable pub alphas : List Float
alphas = loop 0 6 (λ k alpha. set alpha k ((one ⊖ at kappa k) ⊗ at gammas k)) (replicate 6 +0)

-- error_const[k] = KAPPA[k] * gamma[k] + 1.0 / (k + 1.0), for k in 0..=MAX_ORDER
unfoldable pub error_consts : List Float
error_consts = loop 0 6 (λ k error. set error k (at kappa k ⊗ at gammas k ⊕ one ⊘ (float k ⊕ one))) (replicate 6 +0)
