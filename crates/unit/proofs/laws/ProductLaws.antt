-- `matmul` reads of its second table the first rows and columns alone, as many as it is told: two tables with the same entries there
-- have the same products. Why: turn by turn, the loops do the same.
use Rattle.std.specs.Prelude.{◌≡◌, ℕ, ◌<◌, Float}
use Rattle.std.proofs.Math.Path.{ap}
use mathlib.Core.List.{List}
use Rattle.std.specs.Float.Ieee
use Rattle.loops.specs.Choice.{when◌then◌else◌}
use Rattle.loops.specs.Loop.{loop}
use Rattle.loops.specs.Cell.{cell}
use Rattle.loops.specs.Arithmetic.{+0}
use Rattle.loops.specs.laws.Order.{loop_same}
use Rattle.rules.specs.Rescale.{blank, scaled_turn, add_scaled, product_turn, product_row, matmul}

same_turns : {A : Type 0} (hi : ℕ) (f g : ℕ → A → A) (s : A) → ((i : ℕ) (s : A) → i < hi → f i s ≡ g i s) → loop 0 hi f s ≡ loop 0 hi g s
same_turns hi f g s e = (loop_same (λ _. Unit) 0 hi f g s (λ i s _ below _. (e i s below, tt)) tt).0

module _ (size : ℕ) (t u : List Float) (same : (k j : ℕ) → k < size → j < size → cell 6 t k j ≡ cell 6 u k j) where
  added_by_either : (coeff : Float) (k i : ℕ) (to : List Float) → k < size → add_scaled 6 size coeff t k i to ≡ add_scaled 6 size coeff u k i to
  unfolding add_scaled scaled_turn
  added_by_either coeff k i to below =
      ap (λ (l : List Float). when Ieee.eq coeff +0 then to else l)
      (same_turns size (scaled_turn 6 coeff t k i) (scaled_turn 6 coeff u k i) to (λ j to within. rw (same k j below within)))

  pub product_by_either : (a : List Float) → matmul a t size ≡ matmul a u size
  unfolding matmul product_row product_turn
  product_by_either a =
      same_turns size (product_row a t size) (product_row a u size) blank
      (λ i res _. same_turns size (product_turn a t size i) (product_turn a u size i) res (λ k res below. added_by_either (cell 6 a i k) k i res below))
