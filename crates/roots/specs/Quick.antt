-- What the quick test of a guess goes by: upper parts of products, and where the limit lies among them.
use Rattle.std.specs.Prelude.{◌≡◌, Option, Some, None, ℕ, ◌+◌, ◌*◌, ◌^◌, ◌≤◌, ◌<◌}
use Rattle.roots.specs.Scaled.{nearest_root}
use Rattle.roots.specs.declared.root_quick.Place.{Place}
use Rattle.roots.specs.declared.root_quick.Place.TheVariants.{Above, Below}

-- r is the upper 64 bits of u * v, or at most 3 less
pub record High (u v r : ℕ) : Type 0 where
  pub low : r * 2 ^ 64 ≤ u * v
  pub up : u * v ≤ (r + 3) * 2 ^ 64

-- h is what e has above its 64 * k lower bits, or at most 3 * k less
pub record Near (e k h : ℕ) : Type 0 where
  pub low : h * (2 ^ 64) ^ k ≤ e
  pub up : e ≤ (h + 3 * k) * (2 ^ 64) ^ k

-- the limit of the test, 2 ^ (1075 k + 1074), is p with the places of those upper parts: 10 for each factor and 11 for n, and q for a middle and g for x
abbrev pub LimitIs : ℕ → ℕ → ℕ → ℕ → Type 0
LimitIs k q g p = p * (2 ^ 64) ^ k * 2 ^ (q * k + g) ≡ 2 ^ (1075 * k + 1074) * 2 ^ (10 * k + 11)

-- h, or at most `slack` more, is the middle's, and the neighbouring middles' are at least `reach` away: p lies above or below it, and not
-- beyond the next
abbrev pub IsPlaced : ℕ → ℕ → ℕ → ℕ → Option Place → Type 0
IsPlaced h p slack reach (Some Above) = (h + slack ≤ p) × (p < h + reach)
IsPlaced h p slack reach (Some Below) = (p < h) × (h + slack ≤ p + reach)
IsPlaced h p slack reach None = Unit

-- where the test is sure, it gives the root
abbrev pub IsSettled : ℕ → ℕ → ℕ → Option ℕ → Type 0
IsSettled k digits places (Some c) = c ≡ nearest_root k digits places
IsSettled k digits places None = Unit
