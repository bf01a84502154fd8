-- What the numbers of the table are, in value: Pascal's triangle with signs. Entry (i, j) is (-1)^i times the number of ways to take
-- i of j things. Why: computed, entry by entry.
use Rattle.std.specs.Prelude.{◌≡◌, refl, true, ℕ, zero, suc, ◌+◌, ◌≤◌, Float}
use Rattle.std.specs.Float.Ieee
use Rattle.std.specs.Float.Ieee.{of_bits, of_int, neg, eq}
use Rattle.loops.specs.Cell.{cell}
use Rattle.loops.specs.Arithmetic.{float}
use Rattle.rules.specs.Tables.{max_order}
use Rattle.unit.specs.Unit.{unit_r}
use Rattle.unit.proofs.laws.ByOrder.{by_order}

-- `ways j i`: the ways to take i of j things, by Pascal's rule: without the first of them, or with it
unfoldable pub ways : ℕ → ℕ → ℕ
ways j zero = 1
ways zero (suc i) = 0
ways (suc j) (suc i) = ways j (suc i) + ways j i

-- (-1)^i times x
unfoldable pub signed : ℕ → Float → Float
signed zero x = x
signed (suc i) x = Ieee.neg (signed i x)

-- in value: +0 and -0 are equal
abbrev pub IsSignedWays : ℕ → ℕ → Type 0
IsSignedWays i j = Ieee.eq (cell 6 unit_r i j) (signed i (float (ways j i))) ≡ true

pub entry_is_signed_ways : (i : ℕ) → i ≤ max_order → (j : ℕ) → j ≤ max_order → IsSignedWays i j
unfolding unit_r ways signed of_bits of_int neg eq
entry_is_signed_ways =
    by_order (λ i. (j : ℕ) → j ≤ max_order → IsSignedWays i j)
    (by_order (IsSignedWays 0) refl refl refl refl refl refl)
    (by_order (IsSignedWays 1) refl refl refl refl refl refl)
    (by_order (IsSignedWays 2) refl refl refl refl refl refl)
    (by_order (IsSignedWays 3) refl refl refl refl refl refl)
    (by_order (IsSignedWays 4) refl refl refl refl refl refl)
    (by_order (IsSignedWays 5) refl refl refl refl refl refl)
