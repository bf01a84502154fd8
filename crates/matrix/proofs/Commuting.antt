-- Which steps of a stage commute. Eliminating at one cell reads that cell, its row's multiplier and its column's number in the
-- pivot row, and writes that cell alone. So eliminations of cells in different rows and columns commute, and each commutes with
-- the exchange of another column and with the scaling of another row.
use mathlib.Core.Path.{sym}
use mathlib.Core.List.{List}
use Prim.Native.Nat.{ℕ, ◌+◌, ◌*◌, ◌<◌}
use native.Mathlib.Omega.{arith}
use lib.Dec.{eqb}
use lib.Seq.{get_or-set_other}
use lib.Ieee.{Float, nan, neg}
use Rattle.loops.specs.laws.Order.{Commute}
use Rattle.loops.specs.Cell.{cell}
use Rattle.loops.specs.Arithmetic.{◌⊗◌}
use Rattle.matrix.specs.Lu.{exchanged_of, scale_turn}
use Rattle.matrix.specs.Rows.{added_of, cell_turn}
use Rattle.matrix.proofs.Writes.{exchange, Blind, Apart, writes_commute, exchange_commutes, choice_commutes, rows_apart, columns_apart}

module _ (n k : ℕ) (small : k < n) where
  -- what is written at (i, j) reads only (i, j), (i, k) and (k, j)
  abbrev eliminated : ℕ → ℕ → List Float → Float
  eliminated i j a = added_of (cell n a i j) (cell n a i k) (cell n a k j)

  eliminated_blind : (i j q : ℕ) → Apart (i * n + j) q → Apart (i * n + k) q → Apart (k * n + j) q → Blind (eliminated i j) q
  eliminated_blind i j q a b c s x =
      rw (get_or-set_other s q (i * n + j) x nan a, get_or-set_other s q (i * n + k) x nan b, get_or-set_other s q (k * n + j) x nan c)

  scaled_blind : (t : Float) (i q : ℕ) → Apart (i * n + k) q → Blind (λ a. neg (cell n a i k) ⊗ t) q
  scaled_blind t i q a s x = rw (get_or-set_other s q (i * n + k) x nan a)

  pub cells_commute :
      (i i' j j' : ℕ) → k < i → k < i' → k < j → k < j' → j < n → j' < n → Apart i i' → Apart j j' →
      Commute (cell_turn n k i j) (cell_turn n k i' j')
  unfolding cell_turn
  cells_commute i i' j j' a b c d h h' ni nj =
      writes_commute (i * n + j) (i' * n + j') (eliminated i j) (eliminated i' j') (rows_apart n i i' j j' h h' ni)
      (eliminated_blind i j (i' * n + j') (rows_apart n i i' j j' h h' ni) (rows_apart n i i' k j' small h' ni) (columns_apart n k i' j j' h h' nj))
      (eliminated_blind i' j' (i * n + j) (rows_apart n i' i j' j h' h (λ e. ni (sym e))) (rows_apart n i' i k j small h (λ e. ni (sym e)))
      (columns_apart n k i j' j h' h (λ e. nj (sym e))))

  pub scale_passes_cell : (t : Float) (i i' j : ℕ) → k < i → k < j → j < n → Apart i i' → Commute (scale_turn n k t i') (cell_turn n k i j)
  unfolding cell_turn scale_turn
  scale_passes_cell t i i' j a b h ni =
      let other = columns_apart n i i' j k h small (λ e. omega arith) in
      let back = columns_apart n i' i k j small h (λ e. omega arith) in
      writes_commute (i' * n + k) (i * n + j) (λ s. neg (cell n s i' k) ⊗ t) (eliminated i j) back (scaled_blind t i' (i * n + j) back)
      (eliminated_blind i j (i' * n + k) other (rows_apart n i i' k k small small ni) (columns_apart n k i' j k h small (λ e. omega arith)))

  module _ (m : ℕ) where
    pub exchange_passes_cell : (i j j' : ℕ) → k < j → k < j' → j < n → j' < n → Apart j j' → Commute (exchanged_of n m k j') (cell_turn n k i j)
    unfolding cell_turn exchanged_of
    exchange_passes_cell i j j' a b h h' nj =
        let away : (r r' : ℕ) → Apart (r * n + j) (r' * n + j') = λ r r'. columns_apart n r r' j j' h h' nj in
        let left : (r r' : ℕ) → Apart (r * n + k) (r' * n + j') = λ r r'. columns_apart n r r' k j' small h' (λ e. omega arith) in
        choice_commutes (eqb m k) (exchange (m * n + j') (k * n + j')) (cell_turn n k i j)
        (exchange_commutes (i * n + j) (m * n + j') (k * n + j') (eliminated i j) (away i m) (away i k)
        (eliminated_blind i j (m * n + j') (away i m) (left i m) (away k m)) (eliminated_blind i j (k * n + j') (away i k) (left i k) (away k k)))

    pub exchange_passes_scale : (t : Float) (i j : ℕ) → k < j → j < n → Commute (exchanged_of n m k j) (scale_turn n k t i)
    unfolding scale_turn exchanged_of
    exchange_passes_scale t i j a h =
        let left : (r r' : ℕ) → Apart (r * n + k) (r' * n + j) = λ r r'. columns_apart n r r' k j small h (λ e. omega arith) in
        choice_commutes (eqb m k) (exchange (m * n + j) (k * n + j)) (scale_turn n k t i)
        (exchange_commutes (i * n + k) (m * n + j) (k * n + j) (λ s. neg (cell n s i k) ⊗ t) (left i m) (left i k)
        (scaled_blind t i (m * n + j) (left i m)) (scaled_blind t i (k * n + j) (left i k)))
